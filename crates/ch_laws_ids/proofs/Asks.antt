-- An end that is pending writes its request at most, and no id is given on it before a link comes up.
use Rattle.std.proofs.Common.{◌≡◌, ◌⊎◌, inl, inr, ℕ, Bool, true, false, cond, List, [], ◌∷◌, Ok, Err, refl, sym, ap, ◌∙◌, subst}
use Rattle.std.specs.Option.{option_map}
use Rattle.std.specs.Prelude.{drop, find, Option, Some, None, ◌==◌}
use Rattle.ch_base.specs.declared.address.Address.{Address}
use Rattle.ch_wire.specs.Spelling.{request_spelling}
use Rattle.ch_reader.specs.declared.item.Expected.{Expected}
use Rattle.ch_reader.specs.declared.item.Expected.TheVariants as expected
use Rattle.ch_model.specs.declared.step.SocketEvent.TheVariants as events
use Rattle.ch_model.specs.declared.step.Step.{Step}
use Rattle.ch_model.specs.declared.step.Step.TheVariants as steps
use Rattle.ch_model.specs.Host.{joins, host_on}
use Rattle.ch_model.specs.HostState.{Link, Socket, HostState}
use Rattle.ch_model.specs.HostSteps.{Stepped, still, own_address, is_socket, with_socket}
use Rattle.ch_model.specs.HostWrites.{writes}
use Rattle.ch_model.specs.Stages.{Stage, Pending, Open, Ended, is_pending, is_ended}
use Rattle.ch_laws_links.specs.Naming.{stage_says, IsNaming}
use Rattle.ch_laws_links.specs.Standing.{Standing, standing, standing_of, IsPending, IsOpen, IsRisen, IsOver, standing_at, standing_after, standing_after_all, is_there, AreRight, joined, standing_heard, TellsEnds}
use Rattle.ch_laws_links.proofs.Says.{risen}
use Rattle.ch_laws_writes.specs.Dues.{Due, Asking, due_open, due_asked, due_staged, due_of, due_at, Writes}
use Rattle.ch_laws_writes.proofs.Worlds.{number_is, number_same}
use Rattle.ch_laws_calls.specs.FitsFit.{ids_of, given_at, final_in, final_at, Leads}
use Rattle.ch_laws_calls.specs.FitsTurns.{NoDials, DialsAlone}
use Rattle.ch_laws_calls.proofs.FitsUps.{IsUpOn, IsUnrisen, stands}
use Rattle.ch_laws_ids.specs.Runs.{pieces_at}
use Rattle.ch_laws_ids.proofs.Hosts.{AsksOnly, DialsNew}

-- ---- an end that no link is up on

abbrev pub is_risen : Option Standing → Bool
is_risen (Some IsRisen) = true
is_risen now = false

-- it is pending, or over
abbrev pub is_off : Option Standing → Bool
is_off (Some IsPending) = true
is_off (Some IsOver) = true
is_off now = false

off_unrisen : (now : Option Standing) → is_off now ≡ true → is_risen now ≡ false
off_unrisen None e = refl
off_unrisen (Some IsPending) e = refl
off_unrisen (Some IsOpen) e = refl
off_unrisen (Some IsRisen) e = absurd cc
off_unrisen (Some IsOver) e = refl

-- no ids are given on it
pub final_unrisen : (host : HostState) (n : ℕ) → IsNaming host → is_risen (standing_at host n) ≡ false → Leads (final_at host n) (Some [])
final_unrisen host n s off = by_found (find (is_socket n) host.sockets) refl where
  up_stands : (socket : Socket) → socket.stage ≡ Open → socket.expected ≡ expected.Frame → standing_of socket ≡ IsRisen
  up_stands socket stage expects = ap (λ (x : Stage). standing x (stage_says x socket.expected)) stage ∙ ap (λ (e : Expected). standing Open (stage_says Open e)) expects

  by_found : (o : Option Socket) → find (is_socket n) host.sockets ≡ o → Leads (final_in o (given_at host n)) (Some [])
  by_found None found = refl
  by_found (Some known) found = by_ended (is_ended known.stage) refl where
    by_stands : IsUpOn host n known ⊎ IsUnrisen host n known → Leads (Some (given_at host n)) (Some [])
    by_stands (inl u) =
        let one = risen host u.end u.peer n u.probed s u.state in
        let yes : is_risen (standing_at host n) ≡ true = ap is_risen (ap (option_map standing_of) one.1 ∙ ap Some (up_stands one.0 one.2.stands one.2.expects)) in
        absurd (clash (sym yes ∙ off)) where
          clash : true ≡ false → ⊥
          clash e = cc
    by_stands (inr u) = ap Some (sym (ap (ids_of (λ (link : Link). link.given)) u.none))

    by_ended : (b : Bool) → is_ended known.stage ≡ b → Leads (cond b None (Some (given_at host n))) (Some [])
    by_ended true live = refl
    by_ended false live = by_stands (stands host n known s found live)

-- ---- steps

not_there : (now : Option Standing) → is_off now ≡ true → is_there now ≡ true → ⊥
not_there None e h = absurd cc
not_there (Some IsPending) e h = absurd cc
not_there (Some IsOpen) e h = absurd cc
not_there (Some IsRisen) e h = absurd cc
not_there (Some IsOver) e h = absurd cc

not_open : (now : Option Standing) → is_off now ≡ true → now ≡ Some IsOpen → ⊥
not_open now e h = let no : is_off (Some IsOpen) ≡ true = subst (λ (x : Option Standing). is_off x ≡ true) h e in absurd cc

not_risen : (now : Option Standing) → is_off now ≡ true → now ≡ Some IsRisen → ⊥
not_risen now e h = let no : is_off (Some IsRisen) ≡ true = subst (λ (x : Option Standing). is_off x ≡ true) h e in absurd cc

over_off : (now : Option Standing) → is_off now ≡ true → is_off (option_map (λ (s : Standing). IsOver) now) ≡ true
over_off None e = absurd cc
over_off (Some s) e = refl

-- where an end is pending or over, nothing is written on it, and it stays so
quiet : (n : ℕ) (told : List Step) (now : ℕ → Option Standing) → is_off (now n) ≡ true → AreRight now told → (pieces_at n told ≡ []) × (is_off (standing_after_all told n (now n)) ≡ true)
quiet n [] now off right = (refl, off)
quiet n (steps.Write sock bytes said ∷ rest) now off right = let more = quiet n rest now off right.1 in (by_test (sock == n) refl more.0, more.1) where
  by_test : (b : Bool) → (sock == n) ≡ b → pieces_at n rest ≡ [] → cond b (bytes ∷ pieces_at n rest) (pieces_at n rest) ≡ []
  by_test true h more = absurd (not_there (now n) off (subst (λ (m : ℕ). is_there (now m) ≡ true) (number_is sock n h) right.0))
  by_test false h more = more
quiet n (steps.Dial sock end peer ∷ rest) now off right = quiet n rest (λ m. standing_after (steps.Dial sock end peer) m (now m)) (by_test (sock == n)) right.1 where
  by_test : (b : Bool) → is_off (cond b (Some IsPending) (now n)) ≡ true
  by_test true = refl
  by_test false = off
quiet n (steps.Up sock ∷ rest) now off right = quiet n rest (λ m. standing_after (steps.Up sock) m (now m)) (by_test (sock == n) refl) right.1 where
  by_test : (b : Bool) → (sock == n) ≡ b → is_off (cond b (option_map (λ (s : Standing). IsRisen) (now n)) (now n)) ≡ true
  by_test true h = absurd (not_open (now n) off (subst (λ (m : ℕ). now m ≡ Some IsOpen) (number_is sock n h) right.0))
  by_test false h = off
quiet n (steps.Down sock ∷ rest) now off right = quiet n rest (λ m. standing_after (steps.Down sock) m (now m)) (by_test (sock == n)) right.1 where
  by_test : (b : Bool) → is_off (cond b (option_map (λ (s : Standing). IsOver) (now n)) (now n)) ≡ true
  by_test true = over_off (now n) off
  by_test false = off
quiet n (steps.Left sock ∷ rest) now off right = quiet n rest (λ m. standing_after (steps.Left sock) m (now m)) (by_test (sock == n)) right.1 where
  by_test : (b : Bool) → is_off (cond b (option_map (λ (s : Standing). IsOver) (now n)) (now n)) ≡ true
  by_test true = over_off (now n) off
  by_test false = off
quiet n (steps.Read sock ∷ rest) now off right = quiet n rest now off right.1
quiet n (steps.Broke end peer why ∷ rest) now off right = quiet n rest now off right.1
quiet n (steps.Post end event ∷ rest) now off right = quiet n rest now off right.1

-- ---- an end that asks

-- what is so of an end that is pending is so where it asks
where_pending : (host : HostState) (n : ℕ) (pieces : List (List ℕ)) (final : Option (List Bool)) → (standing_at host n ≡ Some IsPending → (drop 1 pieces ≡ []) × Leads final (Some [])) → AsksOnly (due_at host n) pieces final
where_pending host n pieces final so = by_found (find (is_socket n) host.sockets) so where
  by_user : (u : Option (ℕ × Address)) → (drop 1 pieces ≡ []) × Leads final (Some []) → AsksOnly (due_asked u) pieces final
  by_user None so = tt
  by_user (Some user) so = so

  by_expected : (e : Expected) → AsksOnly (Some (due_open e)) pieces final
  by_expected expected.Request = tt
  by_expected expected.Answer = tt
  by_expected expected.Frame = tt

  by_stage : (known : Socket) (stage : Stage) → known.stage ≡ stage → (Some (standing_of known) ≡ Some IsPending → (drop 1 pieces ≡ []) × Leads final (Some [])) → AsksOnly (due_staged stage known) pieces final
  by_stage known Pending h so = by_user known.user (so (ap (λ (x : Stage). Some (standing x (stage_says known.stage known.expected))) h))
  by_stage known Open h so = by_expected known.expected
  by_stage known Ended h so = tt

  by_found : (o : Option Socket) → (option_map standing_of o ≡ Some IsPending → (drop 1 pieces ≡ []) × Leads final (Some [])) → AsksOnly (due_of o) pieces final
  by_found None so = tt
  by_found (Some known) so = by_stage known known.stage refl so

pub asks_quietly : (host after : HostState) (told : List Step) → TellsEnds (standing_at host) told after → IsNaming after → (n : ℕ) → AsksOnly (due_at host n) (pieces_at n told) (final_at after n)
asks_quietly host after told t s n = where_pending host n (pieces_at n told) (final_at after n) (λ h.
    let q = quiet n told (standing_at host) (ap is_off h) t.right in
    (ap (drop 1) q.0, final_unrisen after n s (ap is_risen (t.stands n) ∙ off_unrisen (standing_after_all told n (standing_at host n)) q.1)))

-- ---- an end that is joined

-- nothing is told, or one thing is written
abbrev pub IsShort : List Step → Type 0
IsShort [] = Unit {0}
IsShort (steps.Write sock bytes said ∷ rest) = rest ≡ []
IsShort (step ∷ rest) = ⊥

abbrev pub AllShort : Stepped → Type 0
AllShort (Ok done) = IsShort done.0
AllShort (Err stop) = Unit {0}

pub joined_short : (host : HostState) (sock : ℕ) → AllShort (host_on host (events.Joined sock))
unfolding host_on
joined_short host sock = by_socket (find (is_socket sock) host.sockets) where
  by_user : (socket : Socket) (w : Option (ℕ × Address)) → AllShort (elim w as (λ w. Stepped) [
    | None ↦ still host
    | Some user ↦ writes socket.number (request_spelling (record { target = user.1.id; from = own_address host user.0 })) (with_socket (record socket { stage = Open }) host)
  ])
  by_user socket None = tt
  by_user socket (Some user) = refl

  by_test : (socket : Socket) (b : Bool) → AllShort (cond b (joins socket host) (still host))
  by_test socket true = by_user socket socket.user
  by_test socket false = tt

  by_socket : (x : Option Socket) → AllShort (elim x as (λ x. Stepped) [
    | None ↦ still host
    | Some socket ↦ cond (is_pending socket.stage) (joins socket host) (still host)
  ])
  by_socket None = tt
  by_socket (Some socket) = by_test socket (is_pending socket.stage)

pub short_alone : (told : List Step) → IsShort told → NoDials told
short_alone [] s = tt
short_alone (steps.Write sock bytes said ∷ rest) s = subst NoDials (sym s) tt
short_alone (steps.Dial sock end peer ∷ rest) s = absurd s
short_alone (steps.Read sock ∷ rest) s = absurd s
short_alone (steps.Up sock ∷ rest) s = absurd s
short_alone (steps.Down sock ∷ rest) s = absurd s
short_alone (steps.Left sock ∷ rest) s = absurd s
short_alone (steps.Broke end peer why ∷ rest) s = absurd s
short_alone (steps.Post end event ∷ rest) s = absurd s

short_pieces : (n : ℕ) (told : List Step) (now : Option Standing) → IsShort told → (drop 1 (pieces_at n told) ≡ []) × (standing_after_all told n now ≡ now)
short_pieces n [] now s = (refl, refl)
short_pieces n (steps.Write sock bytes said ∷ rest) now s = subst (λ (l : List Step). (drop 1 (cond (sock == n) (bytes ∷ pieces_at n l) (pieces_at n l)) ≡ []) × (standing_after_all l n now ≡ now)) (sym s) (by_test (sock == n), refl) where
  by_test : (b : Bool) → drop 1 (cond b (bytes ∷ []) []) ≡ []
  by_test true = refl
  by_test false = refl
short_pieces n (steps.Dial sock end peer ∷ rest) now s = absurd s
short_pieces n (steps.Read sock ∷ rest) now s = absurd s
short_pieces n (steps.Up sock ∷ rest) now s = absurd s
short_pieces n (steps.Down sock ∷ rest) now s = absurd s
short_pieces n (steps.Left sock ∷ rest) now s = absurd s
short_pieces n (steps.Broke end peer why ∷ rest) now s = absurd s
short_pieces n (steps.Post end event ∷ rest) now s = absurd s

pub asks_joined : (host after : HostState) (told : List Step) (sock : ℕ) → IsShort told → TellsEnds (λ n. standing_heard (events.Joined sock) n (standing_at host n)) told after → IsNaming after → (n : ℕ) → AsksOnly (due_at host n) (pieces_at n told) (final_at after n)
asks_joined host after told sock short t s n = where_pending host n (pieces_at n told) (final_at after n) (λ h.
    let two = short_pieces n told (standing_heard (events.Joined sock) n (standing_at host n)) short in
    (two.0, final_unrisen after n s (ap is_risen (t.stands n ∙ two.1 ∙ ap (λ (x : Option Standing). cond (sock == n) (joined x) x) h) ∙ by_test (sock == n)))) where
      by_test : (b : Bool) → is_risen (cond b (joined (Some IsPending)) (Some IsPending)) ≡ false
      by_test true = refl
      by_test false = refl

-- ---- a dial

stands_none : (o : Option Socket) → option_map standing_of o ≡ None → o ≡ None
stands_none None e = refl
stands_none (Some known) e = absurd cc

pub dials_new : (host : HostState) (told : List Step) → DialsAlone told → AreRight (standing_at host) told → DialsNew host told
dials_new host [] a right = inl tt
dials_new host (steps.Dial sock end peer ∷ rest) a right = inr (sock, end, peer, ap (λ (l : List Step). steps.Dial sock end peer ∷ l) a, stands_none (find (is_socket sock) host.sockets) right.0)
dials_new host (steps.Read sock ∷ rest) a right = inl a
dials_new host (steps.Write sock bytes said ∷ rest) a right = inl a
dials_new host (steps.Up sock ∷ rest) a right = inl a
dials_new host (steps.Down sock ∷ rest) a right = inl a
dials_new host (steps.Left sock ∷ rest) a right = inl a
dials_new host (steps.Broke end peer why ∷ rest) a right = inl a
dials_new host (steps.Post end event ∷ rest) a right = inl a

-- an end that was dialed asks, and no ids are given on it
pub dial_asks : (own : ℕ → Address) (before : ℕ → Option Due) (now : ℕ → Option Standing) (after : HostState) (told : List Step) → Writes own before told (due_at after) → TellsEnds now told after → IsNaming after → (sock end : ℕ) (peer : Address) → told ≡ steps.Dial sock end peer ∷ []
    → (due_at after sock ≡ Some (Asking end peer)) × Leads (final_at after sock) (Some [])
dial_asks own before now after told w t s sock end peer is = subst (λ (l : List Step). Writes own before l (due_at after) → TellsEnds now l after → (due_at after sock ≡ Some (Asking end peer)) × Leads (final_at after sock) (Some [])) (sym is)
    (λ w t. (
      w.leads sock ∙ ap (λ b. cond b (Some (Asking end peer)) (before sock)) (number_same sock),
      final_unrisen after sock s (ap is_risen (t.stands sock ∙ ap (λ b. cond b (Some IsPending) (now sock)) (number_same sock))),
    )) w t
