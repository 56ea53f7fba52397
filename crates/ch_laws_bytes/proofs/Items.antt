-- What the streams are in a world that lines led to.
use Rattle.std.proofs.Common.{◌++◌, [], ◌∷◌, Err, ◌≡◌, ℕ, Bool, true, false, cond, List, refl, sym, ap, ◌∙◌, subst, Ok}
use Rattle.std.specs.Option.{option_map}
use Rattle.std.specs.Prelude.{find, is_some, slice_get, Option, Some, None}
use Rattle.ch_base.specs.declared.address.Address.{Address}
use Rattle.ch_wire.specs.Spelling.{IsRequest}
use Rattle.ch_model.specs.declared.entry.Entry.{Entry}
use Rattle.ch_model.specs.declared.line.Line.{Line}
use Rattle.ch_model.specs.declared.name.End.{End}
use Rattle.ch_model.specs.declared.name.End.TheVariants.{O, T}
use Rattle.ch_model.specs.declared.name.SockName.{SockName}
use Rattle.ch_model.specs.HostState.{Socket}
use Rattle.ch_model.specs.HostSteps.{is_socket, own_address}
use Rattle.ch_model.specs.Naming.{Names, called}
use Rattle.ch_model.specs.Stages.{Stage, is_ended}
use Rattle.ch_model.specs.Settle.{Happened}
use Rattle.ch_model.specs.World.{◌>>=◌, names_of, world_new, world_step, log_from}
use Rattle.ch_model.specs.WorldSockets.{end_of, is_socket_named}
use Rattle.ch_model.specs.WorldState.{Cell, WorldSocket, World}
use Rattle.ch_laws_log.specs.WorldEnds.{stage_held}
use Rattle.ch_laws_log.proofs.Homes.{Housed, fresh_housed, housed_kept}
use Rattle.ch_laws_log.proofs.Kept.{IsIn, LedOn}
use Rattle.ch_laws_log.proofs.Stored.{find_name}
use Rattle.ch_laws_ends.proofs.Happen.{its_stage}
use Rattle.ch_laws_writes.specs.Dues.{Due}
use Rattle.ch_laws_bytes.specs.Streams.{Reader, reader_in, reader_at, readers_of, dues_of, reads_at, Spelled, Flows, is_over, ToTarget, FromOpener, BothFlow, first_at, reader_of, due_of_end, AreItems, MayBeAsked, AreAddresses}
use Rattle.ch_laws_bytes.proofs.Asked.{may_be_asked}
use Rattle.ch_laws_bytes.proofs.Lines.{Whole, own_of, whole_after}

-- the same addresses
own_as : (one two : ℕ → Address) (known : Names) (name : SockName) (reader : Option Reader) (over : Bool) (unread : List ℕ) (due : Option Due) → ((end : ℕ) → two end ≡ one end) → ToTarget one known name reader over unread due → ToTarget two known name reader over unread due
own_as one two known name reader over unread due same t = record {
  asker = t.asker;
  asked = t.asked;
  from = ap (called known) (same t.asker) ∙ t.from;
  to = t.to;
  asks = t.asks;
  flows = λ r. t.flows (subst (λ (a : Address). IsRequest (record { target = t.asked.id; from = a })) (same t.asker) r);
}

pub are_items : (journal lines : List Line) (log : List Entry) (world : World) (s : SockName) (socket : WorldSocket) → log_from (world_new journal) lines ≡ Ok (log, world) → find (is_socket_named s) world.sockets ≡ Some socket → AreItems world socket
are_items journal lines log world s socket reached is = record {
  opener = flow.opener;
  target = λ place cell c at. own_as (own_of journal place) (own_address cell.0.host) world.names socket.name (reader_of world socket T) (is_over socket.t) socket.t.unread (due_of_end world socket O) (whole.1.orderly place cell at).own_is
      (subst (λ (o : Option ℕ). FromOpener (own_of journal) world.names socket.name o (reader_of world socket T) (is_over socket.t) socket.t.unread (due_of_end world socket O)) c flow.target);
} where
  whole : Whole (own_of journal) journal log world
  whole = whole_after journal lines log world reached

  flow : BothFlow (own_of journal) world.names (readers_of world.cells) (dues_of world.cells) socket
  flow = whole.1.flow s socket is

flows_so : (o : Option Reader) (over : Bool) (unread : List ℕ) (due : Option Due) (reader : Reader) → o ≡ Some reader → over ≡ false → Flows o over unread due → Spelled reader unread due
flows_so o over unread due reader r h f = subst (λ (b : Bool). Flows (Some reader) b unread due) h (subst (λ (x : Option Reader). Flows x over unread due) r f)

pub opener_has : (journal lines : List Line) (log : List Entry) (world : World) (s : SockName) (socket : WorldSocket) (reader : Reader) → log_from (world_new journal) lines ≡ Ok (log, world) → find (is_socket_named s) world.sockets ≡ Some socket
    → reader_of world socket O ≡ Some reader → is_over socket.o ≡ false → Spelled reader socket.o.unread (due_of_end world socket T)
opener_has journal lines log world s socket reader reached is r h = flows_so (reader_of world socket O) (is_over socket.o) socket.o.unread (due_of_end world socket T) reader r h (are_items journal lines log world s socket reached is).opener.flows

pub target_has : (journal lines : List Line) (log : List Entry) (world : World) (s : SockName) (socket : WorldSocket) (place : ℕ) (cell : Cell × ℕ) (reader : Reader) → log_from (world_new journal) lines ≡ Ok (log, world) → find (is_socket_named s) world.sockets ≡ Some socket
    → socket.o.cell ≡ Some place → slice_get world.cells place ≡ Some cell → MayBeAsked (own_address cell.0.host) world.names s → reader_of world socket T ≡ Some reader → is_over socket.t ≡ false → Spelled reader socket.t.unread (due_of_end world socket O)
target_has journal lines log world s socket place cell reader reached is c at may r h =
    let t = (are_items journal lines log world s socket reached is).target place cell c at in
    let name = find_name s world.sockets socket is in
    flows_so (reader_of world socket T) (is_over socket.t) socket.t.unread (due_of_end world socket O) reader r h (t.flows (may t.asker t.asked (t.from ∙ ap (λ (n : SockName). n.from) name) (t.to ∙ ap (λ (n : SockName). n.to) name)))

-- ---- who reads

pub is_read : (journal lines : List Line) (log : List Entry) (world : World) (s : SockName) (socket : WorldSocket) (e : End) → log_from (world_new journal) lines ≡ Ok (log, world) → find (is_socket_named s) world.sockets ≡ Some socket
    → is_some (end_of e socket).cell ≡ true → is_ended (end_of e socket).stage ≡ false → is_some (reader_of world socket e) ≡ true
is_read journal lines log world s socket e reached is hosted stands = by_end (end_of e socket).cell (end_of e socket).number refl refl hosted where
  whole : Whole (own_of journal) journal log world
  whole = whole_after journal lines log world reached

  there : IsIn socket world
  there = subst (λ (n : SockName). find (is_socket_named n) world.sockets ≡ Some socket) (sym (find_name s world.sockets socket is)) is

  by_socket : (o : Option Socket) → option_map (λ (w : Socket). w.stage) o ≡ Some (end_of e socket).stage → is_some (reader_in o) ≡ true
  by_socket None h = absurd cc
  by_socket (Some known) h = ap (λ b. is_some {T = Reader} (cond b None (Some (known.expected, known.since)))) (ap is_ended (one h) ∙ stands) where
    one : ◌≡◌ {A = Option Stage} (Some known.stage) (Some (end_of e socket).stage) → known.stage ≡ (end_of e socket).stage
    one h = cc

  by_cell : (place n : ℕ) → stage_held place n world.sockets ≡ Some (end_of e socket).stage → (o : Option (Cell × ℕ)) → slice_get world.cells place ≡ o → is_some (reader_at o n) ≡ true
  by_cell place n held None at = let gone = whole.0.ends.agrees.nowhere place n at in absurd cc
  by_cell place n held (Some cell) at = by_socket (find (is_socket n) cell.0.host.sockets) (whole.0.ends.agrees.ends place cell at n ∙ held)

  by_end : (c m : Option ℕ) → (end_of e socket).cell ≡ c → (end_of e socket).number ≡ m → is_some c ≡ true → is_some (reads_at (readers_of world.cells) (first_at e) c m) ≡ true
  by_end None m c k h = absurd cc
  by_end (Some place) None c k h = refl
  by_end (Some place) (Some n) c k h = by_cell place n (its_stage journal log world socket e place n whole.0 there c k) (slice_get world.cells place) refl

-- ---- declared names

-- the names of a world are those that its journal declares
lines_housed : (journal rest : List Line) (log : List Entry) (world : World) → Housed journal world → LedOn (λ l w. Housed journal w) log (log_from world rest)
lines_housed journal [] log world h = h
lines_housed journal (line ∷ rest) log world h = by_step (world_step world line) (housed_kept journal log world line.number line.what h) (lines_housed journal rest) where
  by_rest : (told : List Entry) (more : Happened) → LedOn (λ l w. Housed journal w) (log ++ told) more → LedOn (λ l w. Housed journal w) log (more >>= λ more. Ok (told ++ more.0, more.1))
  by_rest told (Ok more) l = l
  by_rest told (Err stop) l = tt

  by_step : (one : Happened) → LedOn (λ l w. Housed journal w) log one → ((l : List Entry) (w : World) → Housed journal w → LedOn (λ l w. Housed journal w) l (log_from w rest)) → LedOn (λ l w. Housed journal w) log (one >>= λ done. log_from done.1 rest >>= λ more. Ok (done.0 ++ more.0, more.1))
  by_step (Ok done) a more = by_rest done.0 (log_from done.1 rest) (more (log ++ done.0) done.1 a)
  by_step (Err stop) a more = tt

names_are : (journal lines : List Line) (log : List Entry) (world : World) → log_from (world_new journal) lines ≡ Ok (log, world) → world.names ≡ names_of journal
names_are journal lines log world reached = by_log (log_from (world_new journal) lines) (lines_housed journal lines [] (world_new journal) (fresh_housed journal)) reached where
  by_log : (done : Happened) → LedOn (λ l w. Housed journal w) [] done → done ≡ Ok (log, world) → world.names ≡ names_of journal
  by_log done l e = (subst (λ (d : Happened). LedOn (λ l w. Housed journal w) [] d) e l).names

pub named_has : (journal lines : List Line) (log : List Entry) (world : World) (s : SockName) (socket : WorldSocket) (reader : Reader) → log_from (world_new journal) lines ≡ Ok (log, world) → find (is_socket_named s) world.sockets ≡ Some socket
    → AreAddresses (names_of journal) → (s.from ≡ [] → ⊥) → (s.to ≡ [] → ⊥) → is_some socket.o.cell ≡ true → reader_of world socket T ≡ Some reader → is_over socket.t ≡ false → Spelled reader socket.t.unread (due_of_end world socket O)
named_has journal lines log world s socket reader reached is all from to hosted r h = by_cell socket.o.cell hosted (whole.1.flow s socket is).target where
  whole : Whole (own_of journal) journal log world
  whole = whole_after journal lines log world reached

  name : socket.name ≡ s
  name = find_name s world.sockets socket is

  by_cell : (c : Option ℕ) → is_some c ≡ true → FromOpener (own_of journal) world.names socket.name c (reader_of world socket T) (is_over socket.t) socket.t.unread (due_of_end world socket O) → Spelled reader socket.t.unread (due_of_end world socket O)
  by_cell None e f = absurd cc
  by_cell (Some place) e f = flows_so (reader_of world socket T) (is_over socket.t) socket.t.unread (due_of_end world socket O) reader r h
      (f.flows (may_be_asked (own_of journal place) world.names s (subst AreAddresses (sym (names_are journal lines log world reached)) all) from to f.asker f.asked (f.from ∙ ap (λ (n : SockName). n.from) name) (f.to ∙ ap (λ (n : SockName). n.to) name)))
