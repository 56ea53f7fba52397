-- What is read at the ends of a host's sockets: which end a frame is read at, and what is plain behind it.
use Rattle.std.proofs.Common.{◌≡◌, ℕ, Bool, true, false, cond, List, [], ◌∷◌, ◌++◌, inl, inr, refl, sym, ap, ◌∙◌, subst, ◌==◌}
use Rattle.std.specs.Prelude.{◌⊎◌, find, Option, Some, None}
use Rattle.ch_base.specs.declared.address.Address.{Address}
use Rattle.ch_wire.specs.declared.frame.Frame.{Frame}
use Rattle.ch_light.specs.Ids.{id_of}
use Rattle.ch_light.specs.declared.Connection.{Connection}
use Rattle.ch_link.specs.declared.LinkState.TheVariants.{Dialing, Up}
use Rattle.ch_model.specs.CellSteps.{is_at}
use Rattle.ch_model.specs.HostState.{Socket, HostState}
use Rattle.ch_model.specs.HostSteps.{link_with, is_socket}
use Rattle.ch_model.specs.NodeState.{Arrived}
use Rattle.ch_model.specs.Stages.{is_ended}
use Rattle.ch_model.specs.WorldState.{Cell}
use Rattle.ch_laws_bytes.specs.Streams.{reader_in}
use Rattle.ch_laws_calls.specs.FitsFit.{frames_in}
use Rattle.ch_laws_links.specs.Naming.{IsNaming, IsDialedBy, IsUpFor}
use Rattle.ch_laws_links.proofs.Says.{risen, used}
use Rattle.ch_laws_log.proofs.Stored.{number_is, number_same}
use Rattle.ch_laws_writes.proofs.Ordered.{is_key, key_self}
use Rattle.ch_laws_plain.specs.Plain.{is_unread_of, arrived_in, id_for, pending_for, pending_by, pending_in, pending_at}
use Rattle.ch_laws_plain.specs.Streams.{PlainStep, PlainOn}
use Rattle.ch_laws_plain.specs.Turns.{ReaderPlain}
use Rattle.ch_laws_plain.specs.ReadsReading.{ReadThere, AllReadThere, ReadOn}
use Rattle.ch_laws_plain.specs.MeetsReads.{ReadsPlain}
use Rattle.ch_laws_plain.specs.HearsTurns.{Moves}
use Rattle.ch_laws_plain.proofs.HearsMoves.{to_none}

-- ---- the end that a frame is read at

module _ (cell : Cell) (host : HostState) (end : ℕ) (peer : Address) (frame : Frame) (s : IsNaming cell.host) (on : ReadOn cell.host end peer frame host) where
  -- it is up for the link
  up : (socket : Socket) × (find (is_socket on.sock) cell.host.sockets ≡ Some socket) × IsUpFor end peer socket
  up = risen cell.host end peer on.sock on.probed s on.up

  -- what is read there is a step of a plain stream
  pub step_read : IsNaming host → ReadsPlain cell → (next : Option ℕ) × PlainStep (pending_for cell end peer) frame next
  step_read t plain = (begun.0, begun.1) where
    now : (socket : Socket) × (find (is_socket on.sock) host.sockets ≡ Some socket) × IsUpFor end peer socket
    now = risen host end peer on.sock on.probed t on.up_still

    there : ReadThere up.0 now.0 (cond (on.sock == on.sock) (frame ∷ []) []) host
    there = on.read on.sock up.0 now.0 up.1 now.1 (ap is_ended now.2.stands)

    all : (more : List Frame) × PlainOn (pending_at cell on.sock) (frames_in there.read ++ more) None
    all = plain on.sock up.0 there.read now.0.expected now.0.since up.1 there.stood there.are

    begun : PlainOn (pending_for cell end peer) (frame ∷ all.0) None
    begun = subst (λ (o : Option ℕ). PlainOn o (frame ∷ all.0) None) (ap (pending_in cell) up.1 ∙ ap (pending_by cell) up.2.user)
        (subst (λ (l : List Frame). PlainOn (pending_at cell on.sock) (l ++ all.0) None) (there.framed ∙ ap (λ b. cond b (frame ∷ []) []) (number_same on.sock)) all.1)

  -- an end of another link isn't it
  pub not_it : (n : ℕ) (known : Socket) (e : ℕ) (p : Address) → find (is_socket n) cell.host.sockets ≡ Some known → known.user ≡ Some (e, p) → is_key end peer e p ≡ false → (on.sock == n) ≡ false
  not_it n known e p found u off = by_test (on.sock == n) refl where
    key_of : Option (ℕ × Address) → Bool
    key_of None = true
    key_of (Some x) = is_key end peer x.0 x.1

    other_user : ◌≡◌ {A = Option (ℕ × Address)} (Some (end, peer)) (Some (e, p)) → ⊥
    other_user same = let no : true ≡ false = sym (key_self end peer) ∙ ap key_of same ∙ off in absurd cc

    by_test : (b : Bool) → (on.sock == n) ≡ b → b ≡ false
    by_test false h = refl
    by_test true h =
        let both : Some up.0 ≡ Some known = sym up.1 ∙ ap (λ (k : ℕ). find (is_socket k) cell.host.sockets) (number_is on.sock n h) ∙ found in
        let same : up.0 ≡ known = cc in
        absurd (other_user (sym up.2.user ∙ ap (λ (k : Socket). k.user) same ∙ u))

  -- one of the link that hasn't ended is
  pub is_it : (n : ℕ) (known : Socket) → find (is_socket n) cell.host.sockets ≡ Some known → known.user ≡ Some (end, peer) → is_ended known.stage ≡ false → on.sock ≡ n
  is_it n known found u stands = by_use (used cell.host end peer n known s found u stands) where
    by_use : (((link_with cell.host end peer).state ≡ Dialing n) × IsDialedBy end peer known) ⊎ ((probed : Bool) × ((link_with cell.host end peer).state ≡ Up n probed) × IsUpFor end peer known) → on.sock ≡ n
    by_use (inl d) = let no : Up on.sock on.probed ≡ Dialing n = sym on.up ∙ d.0 in absurd cc
    by_use (inr w) = let both : Up on.sock on.probed ≡ Up n w.0 = sym on.up ∙ w.1 in cc

-- ---- all ends

id_none : (o : Option Arrived) → id_for [] o ≡ None
unfolding id_of
id_none None = refl
id_none (Some one) = refl

-- where what is plain behind what was read at an end of a link stays so, the streams at all ends are read on
pub reads_on : (cell after : Cell) (read : ℕ → List Frame) → AllReadThere cell.host after.host read
    → ((n : ℕ) (known : Socket) (e : ℕ) (p : Address) → find (is_socket n) cell.host.sockets ≡ Some known → known.user ≡ Some (e, p) → is_ended known.stage ≡ false → Moves (pending_for cell e p) (read n) (pending_for after e p))
    → (n : ℕ) (known : Socket) → find (is_socket n) cell.host.sockets ≡ Some known → ReaderPlain (reader_in (Some known)) (pending_at cell n) (reader_in (find (is_socket n) after.host.sockets)) (pending_at after n)
reads_on cell after read all each n known found = by_now (find (is_socket n) after.host.sockets) refl where
  -- by the link that it is for
  same_link : is_ended known.stage ≡ false → (user : Option (ℕ × Address)) → known.user ≡ user → Moves (pending_by cell user) (read n) (pending_by after user)
  same_link stood None u = to_none None (read n)
  same_link stood (Some user) u = each n known user.0 user.1 found u stood

  new_link : (user : Option (ℕ × Address)) → ((end : ℕ) (peer : Address) → user ≡ Some (end, peer) → (link_with after.host end peer).created ≡ []) → pending_by after user ≡ None
  new_link None empty = refl
  new_link (Some user) empty = ap (λ (c : List Connection). id_for c (find (is_unread_of user.1) (arrived_in (find (is_at user.0) after.nodes)))) (empty user.0 user.1 refl) ∙ id_none (find (is_unread_of user.1) (arrived_in (find (is_at user.0) after.nodes)))

  by_user : (now : Socket) → is_ended known.stage ≡ false → (now.user ≡ known.user) ⊎ ((known.user ≡ None) × ((end : ℕ) (peer : Address) → now.user ≡ Some (end, peer) → (link_with after.host end peer).created ≡ [])) → Moves (pending_by cell known.user) (read n) (pending_by after now.user)
  by_user now stood (inl same) = subst (λ (u : Option (ℕ × Address)). Moves (pending_by cell known.user) (read n) (pending_by after u)) (sym same) (same_link stood known.user refl)
  by_user now stood (inr new) = subst (Moves (pending_by cell known.user) (read n)) (sym (new_link now.user new.1)) (to_none (pending_by cell known.user) (read n))

  by_stage : (now : Socket) → find (is_socket n) after.host.sockets ≡ Some now → (b : Bool) → is_ended now.stage ≡ b → ReaderPlain (reader_in (Some known)) (pending_at cell n) (cond b None (Some (now.expected, now.since))) (pending_by after now.user)
  by_stage now f true h = tt
  by_stage now f false h =
      let there : ReadThere known now (read n) after.host = all n known now found f h in
      subst (λ (b : Bool). ReaderPlain (cond b None (Some (known.expected, known.since))) (pending_at cell n) (Some (now.expected, now.since)) (pending_by after now.user)) (sym there.stood)
      (subst (λ (o : Option ℕ). ReaderPlain (Some (known.expected, known.since)) o (Some (now.expected, now.since)) (pending_by after now.user)) (sym (ap (pending_in cell) found))
      (there.read, there.are, subst (λ (l : List Frame). Moves (pending_by cell known.user) l (pending_by after now.user)) (sym there.framed) (by_user now there.stood there.user)))

  by_now : (o : Option Socket) → find (is_socket n) after.host.sockets ≡ o → ReaderPlain (reader_in (Some known)) (pending_at cell n) (reader_in o) (pending_in after o)
  by_now None f = tt
  by_now (Some now) f = by_stage now f (is_ended now.stage) refl
