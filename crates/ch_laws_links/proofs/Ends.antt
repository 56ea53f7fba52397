-- One end is changed: bytes are kept, it is opened, or it has ended; and a link that is kept stays as it is.
use Rattle.std.proofs.Common.{◌≡◌, ◌≤◌, ℕ, ◌+◌, ◌*◌, Bool, true, false, cond, ◌&&◌, List, [], ◌∷◌, refl, sym, ap, ◌∙◌, subst}
use Rattle.std.proofs.lemmas.Bool.{eqb-true}
use Rattle.std.specs.Option.{option_map}
use Rattle.std.specs.Prelude.{◌==◌, find, nat_eq, Option, Some, None}
use Rattle.ch_base.specs.declared.address.Address.{Address}
use Rattle.ch_reader.specs.declared.item.Expected.{Expected}
use Rattle.ch_reader.specs.declared.item.Expected.TheVariants as expected
use Rattle.ch_link.specs.Sockets.{names}
use Rattle.ch_link.specs.declared.LinkIn.TheVariants as inputs
use Rattle.ch_link.specs.declared.LinkState.{LinkState}
use Rattle.ch_link.specs.declared.LinkState.TheVariants as states
use Rattle.ch_watch.specs.Same.{same_node}
use Rattle.ch_model.specs.declared.step.Step.{Step}
use Rattle.ch_model.specs.declared.step.Step.TheVariants as steps
use Rattle.ch_model.specs.HostItems.{gone_from, is_gone}
use Rattle.ch_model.specs.HostLinks.{hears}
use Rattle.ch_model.specs.HostState.{Link, Socket, HostState}
use Rattle.ch_model.specs.HostSteps.{Stepped, link_with, with_link, with_socket, is_socket}
use Rattle.ch_model.specs.HostWrites.{end_socket, leaves}
use Rattle.ch_model.specs.Stages.{Stage, Pending, Open, Ended, is_ended}
use Rattle.ch_laws_log.proofs.HostTold.{find_stored}
use Rattle.ch_laws_log.proofs.Homes.{node_self}
use Rattle.ch_laws_links.specs.Naming.{Unnamed, Dialed, IsUp, link_says, stage_says, is_user, is_for, socket_says, Fits, IsFit}
use Rattle.ch_laws_links.specs.Standing.{Standing, IsOver, standing, standing_of, standing_at, standing_after_all, is_unrisen, AreRight}
use Rattle.ch_laws_links.proofs.Keys.{number_self, state_at, relinked, ended, over, ended_found, ended_rest, states_as}
use Rattle.ch_laws_links.proofs.Table.{clash}
use Rattle.ch_laws_links.proofs.Acts.{again}
use Rattle.ch_laws_links.proofs.Hears.{IsNamed}
use Rattle.ch_laws_links.proofs.Goes.{Rises, AllGoes, Alike, at_key, at_found, hears_own}

-- ---- a link is kept as it was

pub kept_link : (link : Link) (host : HostState) → state_at host link.end link.peer ≡ link.state → Alike host (with_link link host)
kept_link link host at = record { states = λ end peer. relinked link host end peer ∙ again link host (at_key link host at) end peer; sockets = refl; dials = refl }

-- ---- one socket is changed

-- the socket of this number is another, and the rest is the same
pub record Changed (sock : ℕ) (new : Socket) (before after : HostState) : Type 0 where
  pub states : (end : ℕ) (peer : Address) → state_at after end peer ≡ state_at before end peer
  pub socks : (n : ℕ) → find (is_socket n) after.sockets ≡ cond (sock == n) (Some new) (find (is_socket n) before.sockets)
  pub dials : after.dials ≡ before.dials

-- a socket that is there has a number that isn't free
taken : (sock n : ℕ) (socket : Socket) (host : HostState) → find (is_socket sock) host.sockets ≡ Some socket → find (is_socket n) host.sockets ≡ None → (sock == n) ≡ false
taken sock n socket host found none = by_test (sock == n) refl where
  not_both : (o : Option Socket) → o ≡ Some socket → o ≡ None → ⊥
  not_both o e f = absurd cc

  by_test : (b : Bool) → (sock == n) ≡ b → b ≡ false
  by_test true h = absurd (not_both (find (is_socket n) host.sockets) (subst (λ (m : ℕ). find (is_socket m) host.sockets ≡ Some socket) (eqb-true sock n h) found) none)
  by_test false h = refl

pub still_free : (sock n : ℕ) (old new : Socket) (before after : HostState) → Changed sock new before after → find (is_socket sock) before.sockets ≡ Some old → find (is_socket n) before.sockets ≡ None → find (is_socket n) after.sockets ≡ None
still_free sock n old new before after c found none = c.socks n ∙ ap (λ b. cond b (Some new) (find (is_socket n) before.sockets)) (taken sock n old before found none) ∙ none

pub changed_named : (sock : ℕ) (old new : Socket) (before after : HostState) → Changed sock new before after → find (is_socket sock) before.sockets ≡ Some old → IsFit new
    → ((end : ℕ) (peer : Address) → socket_says end peer (Some new) ≡ socket_says end peer (Some old)) → IsNamed before → IsNamed after
changed_named sock old new before after c found fit says s = record {
  free = λ k l. still_free sock (2 * k) old new before after c found (s.free k (subst (λ (d : ℕ). d ≤ k) c.dials l));
  fit = λ n socket e. by_fit n socket (sock == n) (sym (c.socks n) ∙ e);
  same = λ end peer n. ap (λ (state : LinkState). link_says state n) (c.states end peer) ∙ s.same end peer n ∙ by_says end peer n (sock == n) refl ∙ sym (ap (socket_says end peer) (c.socks n));
} where
  by_fit : (n : ℕ) (socket : Socket) (b : Bool) → cond b (Some new) (find (is_socket n) before.sockets) ≡ Some socket → IsFit socket
  by_fit n socket true e = let is : new ≡ socket = cc in subst IsFit is fit
  by_fit n socket false e = s.fit n socket e

  by_says : (end : ℕ) (peer : Address) (n : ℕ) (b : Bool) → (sock == n) ≡ b → socket_says end peer (find (is_socket n) before.sockets) ≡ socket_says end peer (cond b (Some new) (find (is_socket n) before.sockets))
  by_says end peer n true h = ap (socket_says end peer) (subst (λ (m : ℕ). find (is_socket m) before.sockets ≡ Some old) (eqb-true sock n h) found) ∙ sym (says end peer)
  by_says end peer n false h = refl

-- what is told of the end is so
pub changed_rises : (sock : ℕ) (old new : Socket) (before after : HostState) (told : List Step) (g : Option Standing → Option Standing) → Changed sock new before after → find (is_socket sock) before.sockets ≡ Some old
    → ((n : ℕ) (now : Option Standing) → standing_after_all told n now ≡ cond (sock == n) (g now) now) → Some (standing_of new) ≡ g (Some (standing_of old)) → AreRight (standing_at before) told → Rises before told after
changed_rises sock old new before after told g c found tells here right = record {
  right = right;
  stands = λ n. ap (option_map standing_of) (c.socks n) ∙ by_test n (sock == n) refl ∙ sym (tells n (standing_at before n));
  odd = λ k none. still_free sock (2 * k + 1) old new before after c found none;
} where
  by_test : (n : ℕ) (b : Bool) → (sock == n) ≡ b → option_map standing_of (cond b (Some new) (find (is_socket n) before.sockets)) ≡ cond b (g (standing_at before n)) (standing_at before n)
  by_test n true h = here ∙ sym (ap (λ (o : Option Socket). g (option_map standing_of o)) (subst (λ (m : ℕ). find (is_socket m) before.sockets ≡ Some old) (eqb-true sock n h) found))
  by_test n false h = refl

pub tells_nothing : (sock : ℕ) (n : ℕ) (now : Option Standing) → now ≡ cond (sock == n) now now
tells_nothing sock n now = by_test (sock == n) where
  by_test : (b : Bool) → now ≡ cond b now now
  by_test true = refl
  by_test false = refl

pub stored_changed : (new : Socket) (host : HostState) → Changed new.number new host (with_socket new host)
stored_changed new host = record { states = λ end peer. refl; socks = λ n. find_stored new host.sockets n; dials = refl }

pub ended_changed : (sock : ℕ) (socket : Socket) (host : HostState) → find (is_socket sock) host.sockets ≡ Some socket → Changed sock (ended socket) host (end_socket sock host)
ended_changed sock socket host found = record {
  states = λ end peer. states_as (end_socket sock host) host (ended_rest sock host).0 end peer;
  socks = λ n. ended_found sock host n ∙ by_test n (sock == n) refl;
  dials = (ended_rest sock host).1;
} where
  by_test : (n : ℕ) (b : Bool) → (sock == n) ≡ b → over b (find (is_socket n) host.sockets) ≡ cond b (Some (ended socket)) (find (is_socket n) host.sockets)
  by_test n true h = ap (option_map ended) (subst (λ (m : ℕ). find (is_socket m) host.sockets ≡ Some socket) (eqb-true sock n h) found)
  by_test n false h = refl

-- ---- an end that no link names has ended

-- no link is named by the end
abbrev pub IsNobodys : Socket → Type 0
IsNobodys socket = (end : ℕ) (peer : Address) → socket_says end peer (Some socket) ≡ Unnamed

pub ended_nobodys : (socket : Socket) → IsNobodys (ended socket)
ended_nobodys socket end peer = by_test (is_for end peer socket.user) where
  by_test : (b : Bool) → cond b Unnamed Unnamed ≡ Unnamed
  by_test true = refl
  by_test false = refl

pub ended_one_fits : (socket : Socket) → IsFit (ended socket)
ended_one_fits socket = tt

left_one : (sock : ℕ) (socket : Socket) (host : HostState) → find (is_socket sock) host.sockets ≡ Some socket → is_unrisen (Some (standing_of socket)) ≡ true → IsNobodys socket → IsNamed host → IsNamed (end_socket sock host) × Rises host (steps.Left sock ∷ []) (end_socket sock host)
left_one sock socket host found unrisen nobodys s = (
  changed_named sock socket (ended socket) host (end_socket sock host) (ended_changed sock socket host found) found (ended_one_fits socket) (λ end peer. ended_nobodys socket end peer ∙ sym (nobodys end peer)) s,
  changed_rises sock socket (ended socket) host (end_socket sock host) (steps.Left sock ∷ []) (option_map (λ (s : Standing). IsOver)) (ended_changed sock socket host found) found (λ n now. refl) refl (ap (λ (o : Option Socket). is_unrisen (option_map standing_of o)) found ∙ unrisen, tt),
)

pub nobodys_of : (socket : Socket) → socket.user ≡ None → IsNobodys socket
nobodys_of socket e end peer = ap (λ (user : Option (ℕ × Address)). cond (is_for end peer user) (stage_says socket.stage socket.expected) Unnamed) e

-- ---- an end that is gone

fit_unused : (host : Option (List ℕ)) (stage : Stage) (e : Expected) → Fits host stage None e → is_ended stage ≡ false → is_unrisen (Some (standing stage (stage_says stage e))) ≡ true
fit_unused host Ended e f o = absurd cc
fit_unused host Pending e f o = refl
fit_unused host Open expected.Request f o = refl
fit_unused host Open expected.Answer f o = refl
fit_unused None Open expected.Frame f o = absurd f
fit_unused (Some host) Open expected.Frame f o = absurd f

fit_used : (host : Option (List ℕ)) (stage : Stage) (user : ℕ × Address) (e : Expected) → Fits host stage (Some user) e → is_ended stage ≡ false → stage_says stage e ≡ Unnamed → ⊥
fit_used host Ended user e f o w = absurd cc
fit_used host Pending user expected.Answer f o w = absurd cc
fit_used host Pending user expected.Frame f o w = absurd cc
fit_used None Pending user expected.Request f o w = f
fit_used (Some host) Pending user expected.Request f o w = f
fit_used host Open user expected.Answer f o w = absurd cc
fit_used host Open user expected.Frame f o w = absurd cc
fit_used None Open user expected.Request f o w = f
fit_used (Some host) Open user expected.Request f o w = f

pub user_self : (user : ℕ × Address) → is_user user.0 user.1 user ≡ true
user_self user = ap (λ b. b && same_node user.1 user.1) (number_self user.0) ∙ node_self user.1

-- a state that doesn't name the socket says nothing of it
unnamed_says : (state : LinkState) (n : ℕ) → names state n ≡ false → link_says state n ≡ Unnamed
unnamed_says states.Idle n e = refl
unnamed_says states.AwaitOther n e = refl
unnamed_says (states.Dialing d) n e = ap (λ b. cond b Dialed Unnamed) (other_way d n e) where
  other_way : (a b : ℕ) → nat_eq b a ≡ false → (a == b) ≡ false
  other_way a b e = by_test (a == b) refl where
    by_test : (t : Bool) → (a == b) ≡ t → t ≡ false
    by_test true h = clash (sym (number_self b) ∙ subst (λ (m : ℕ). nat_eq b m ≡ false) (eqb-true a b h) e)
    by_test false h = refl
unnamed_says (states.Up u probed) n e = ap (λ b. cond b IsUp Unnamed) (other_way u n e) where
  other_way : (a b : ℕ) → nat_eq b a ≡ false → (a == b) ≡ false
  other_way a b e = by_test (a == b) refl where
    by_test : (t : Bool) → (a == b) ≡ t → t ≡ false
    by_test true h = clash (sym (number_self b) ∙ subst (λ (m : ℕ). nat_eq b m ≡ false) (eqb-true a b h) e)
    by_test false h = refl

-- an end that stands is gone
pub gone : (socket : Socket) (host : HostState) → find (is_socket socket.number) host.sockets ≡ Some socket → is_ended socket.stage ≡ false → AllGoes host (is_gone socket host)
gone socket host found stands = by_user socket.user refl where
  by_names : (user : ℕ × Address) → socket.user ≡ Some user → (b : Bool) → names (state_at host user.0 user.1) socket.number ≡ b → AllGoes host (cond b (hears inputs.Gone (link_with host user.0 user.1) host) (leaves socket.number host))
  by_names user u true h = hears_own inputs.Gone (link_with host user.0 user.1) host tt tt (at_found host user.0 user.1)
  by_names user u false h = λ s. absurd (fit_used socket.peer_host socket.stage user socket.expected (subst (λ (w : Option (ℕ × Address)). Fits socket.peer_host socket.stage w socket.expected) u (s.fit socket.number socket found)) stands
      (sym (ap (λ (w : Option (ℕ × Address)). cond (is_for user.0 user.1 w) (stage_says socket.stage socket.expected) Unnamed) u ∙ ap (λ b. cond b (stage_says socket.stage socket.expected) Unnamed) (user_self user))
      ∙ sym (ap (socket_says user.0 user.1) found) ∙ sym (s.same user.0 user.1 socket.number) ∙ unnamed_says (state_at host user.0 user.1) socket.number h))

  by_user : (user : Option (ℕ × Address)) → socket.user ≡ user → AllGoes host (elim user as (λ x. Stepped) [
    | None ↦ leaves socket.number host
    | Some user ↦ gone_from socket.number (link_with host user.0 user.1) host
  ])
  by_user None u = λ s. left_one socket.number socket host found (fit_unused socket.peer_host socket.stage socket.expected (subst (λ (w : Option (ℕ × Address)). Fits socket.peer_host socket.stage w socket.expected) u (s.fit socket.number socket found)) stands) (nobodys_of socket u) s
  by_user (Some user) u = by_names user u (names (state_at host user.0 user.1) socket.number) refl
