-- What is unread and how each end stands after some lines is what their log tells.
use Rattle.std.proofs.Common.{◌≡◌, ℕ, false, List, [], ◌∷◌, Ok, refl, sym, ap, ◌∙◌, subst}
use Rattle.std.specs.List.{list_any}
use Rattle.std.specs.Prelude.{find, is_some, Option, Some, None}
use Rattle.ch_model.specs.declared.entry.Entry.{Entry}
use Rattle.ch_model.specs.declared.line.Line.{Line}
use Rattle.ch_model.specs.declared.line.What.{What}
use Rattle.ch_model.specs.declared.line.What.TheVariants as lines
use Rattle.ch_model.specs.declared.name.End.TheVariants.{O, T}
use Rattle.ch_model.specs.declared.name.SockName.{SockName}
use Rattle.ch_model.specs.AnswersEntries.{refuses}
use Rattle.ch_model.specs.Declarations.{has_host}
use Rattle.ch_model.specs.Settle.{Happened}
use Rattle.ch_model.specs.Sockets.{is_opening}
use Rattle.ch_model.specs.World.{world_new, log_from}
use Rattle.ch_model.specs.WorldSockets.{is_socket_named}
use Rattle.ch_model.specs.WorldState.{WorldSocket, World}
use Rattle.ch_laws_log.specs.Agrees.{IsPlaced, IsAsTold}
use Rattle.ch_laws_log.proofs.Views.{Seen, seen_in}
use Rattle.ch_laws_log.proofs.Agreeing.{Fits, At, Good, AnyCount, keeps_good}
use Rattle.ch_laws_log.proofs.Kept.{Keeps, Allowed, AllAllowed, LedOn, all_led}
use Rattle.ch_laws_log.proofs.Seen.{opened_is, refused_is, as_told}
use Rattle.ch_laws_log.proofs.Stored.{find_name}

-- where nothing has happened
pub fresh : (journal : List Line) → Good journal [] (world_new journal)
fresh journal = record { apart = tt; numbered = λ s socket e. absurd cc; within = λ s socket place e at. absurd cc; agrees = λ s. refl }

-- all lines refuse and feed as they like
pub any_line : (what : What) → Allowed (Unit {0}) AnyCount what
any_line (lines.Feed sock end count) = λ left. tt
any_line what = tt

pub any_allowed : (journal : List Line) → AllAllowed (Unit {0}) AnyCount journal
any_allowed [] = tt
any_allowed (line ∷ rest) = (any_line line.what, any_allowed rest)

-- what each thing keeps, and holds where nothing has happened, holds after some lines
pub holds_after : {R : Type 0} {W : ℕ → List ℕ → Type 0} (I : List Entry → World → Type 0) → Keeps R W I → (journal lines : List Line) → AllAllowed R W lines → I [] (world_new journal) → (log : List Entry) (world : World) → log_from (world_new journal) lines ≡ Ok (log, world) → I log world
holds_after I k journal lines allowed first log world is = by_log (log_from (world_new journal) lines) (all_led I k lines [] (world_new journal) allowed first) is where
  by_log : (done : Happened) → LedOn I [] done → done ≡ Ok (log, world) → I log world
  by_log done l e = subst (λ (d : Happened). LedOn I [] d) e l

pub good_after : (journal lines : List Line) (log : List Entry) (world : World) → log_from (world_new journal) lines ≡ Ok (log, world) → Good journal log world
good_after journal lines log world is = holds_after (Good journal) (keeps_good journal) journal lines (any_allowed lines) (fresh journal) log world is

pub sockets_opened : (journal lines : List Line) (log : List Entry) (world : World) (s : SockName) → log_from (world_new journal) lines ≡ Ok (log, world) → list_any (is_opening s) log ≡ is_some (find (is_socket_named s) world.sockets)
sockets_opened journal lines log world s is = sym (opened_is log s) ∙ by_socket (find (is_socket_named s) world.sockets) ((good_after journal lines log world is).agrees s) where
  by_socket : (o : Option WorldSocket) → At (has_host journal s.to) (seen_in log s) o → (seen_in log s).opened ≡ is_some o
  by_socket None a = ap (λ (v : Seen). v.opened) a
  by_socket (Some socket) a = a.is_opened

pub fits_after : (journal : List Line) (log : List Entry) (world : World) (s : SockName) (socket : WorldSocket) → Good journal log world → find (is_socket_named s) world.sockets ≡ Some socket → Fits (has_host journal s.to) (seen_in log s) socket
fits_after journal log world s socket g found = subst (λ (o : Option WorldSocket). At (has_host journal s.to) (seen_in log s) o) found (g.agrees s)

pub opener_as_told : (journal : List Line) (log : List Entry) (world : World) (s : SockName) (socket : WorldSocket) → Good journal log world → find (is_socket_named s) world.sockets ≡ Some socket → list_any (refuses s) log ≡ false → IsAsTold journal log s O socket.o
opener_as_told journal log world s socket g found not_refused = as_told journal log s O socket.o (fits_after journal log world s socket g found).is_opened ((fits_after journal log world s socket g found).of_opener (refused_is log s ∙ not_refused))

pub target_as_told : (journal : List Line) (log : List Entry) (world : World) (s : SockName) (socket : WorldSocket) → Good journal log world → find (is_socket_named s) world.sockets ≡ Some socket → IsPlaced journal socket → IsAsTold journal log s T socket.t
target_as_told journal log world s socket g found placed = as_told journal log s T socket.t (fits_after journal log world s socket g found).is_opened
    ((fits_after journal log world s socket g found).of_target (placed ∙ ap (λ (n : SockName). has_host journal n.to) (find_name s world.sockets socket found)))
