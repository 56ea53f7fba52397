-- What links and sockets that say the same tell of each other.
use Rattle.std.proofs.Common.{◌≡◌, ℕ, Bool, true, false, cond, List, [], inl, inr, refl, sym, ap, ◌∙◌, subst}
use Rattle.std.proofs.lemmas.Bool.{eqb-true}
use Rattle.std.specs.Option.{option_map}
use Rattle.std.specs.Prelude.{◌==◌, ◌⊎◌, find, is_some, Option, Some, None}
use Rattle.ch_base.specs.declared.address.Address.{Address}
use Rattle.ch_reader.specs.declared.item.Expected.{Expected}
use Rattle.ch_reader.specs.declared.item.Expected.TheVariants as expected
use Rattle.ch_link.specs.Sockets.{names}
use Rattle.ch_link.specs.declared.LinkState.{LinkState}
use Rattle.ch_link.specs.declared.LinkState.TheVariants.{Idle, Dialing, AwaitOther, Up}
use Rattle.ch_model.specs.HostState.{Socket, HostState}
use Rattle.ch_model.specs.HostSteps.{link_with, is_socket}
use Rattle.ch_model.specs.Stages.{Stage, Pending, Open, Ended, is_ended}
use Rattle.ch_laws_links.specs.Naming.{Unnamed, Dialed, IsUp, link_says, stage_says, is_for, socket_says, Fits, IsNaming, IsDialedBy, IsUpFor, IsUnasked}
use Rattle.ch_laws_links.specs.Standing.{IsRisen, standing, standing_of, standing_at}
use Rattle.ch_laws_links.proofs.Keys.{number_self, key_of}
use Rattle.ch_laws_links.proofs.Hears.{for_link}
use Rattle.ch_laws_links.proofs.Ends.{user_self}
use Rattle.ch_laws_links.proofs.Items.{says_dialed}

user_is : (end : ℕ) (peer : Address) (user : Option (ℕ × Address)) → is_for end peer user ≡ true → user ≡ Some (end, peer)
user_is end peer None e = absurd cc
user_is end peer (Some user) e = let key = key_of end peer (record { end = user.0; peer = user.1; state = Idle; waits = []; given = []; created = [] }) e in ap (λ (z : ℕ). Some (z, user.1)) key.0 ∙ ap (λ (z : Address). Some (end, z)) key.1

dialed_parts : (host : Option (List ℕ)) (stage : Stage) (user : Option (ℕ × Address)) (e : Expected) → Fits host stage user e → stage_says stage e ≡ Dialed → (host ≡ None) × (is_ended stage ≡ false) × (e ≡ expected.Answer)
dialed_parts host Ended user e f w = absurd cc
dialed_parts host Pending user expected.Request f w = absurd cc
dialed_parts host Pending user expected.Frame f w = absurd cc
dialed_parts None Pending user expected.Answer f w = (refl, refl, refl)
dialed_parts (Some host) Pending None expected.Answer f w = absurd f
dialed_parts (Some host) Pending (Some user) expected.Answer f w = absurd f
dialed_parts host Open user expected.Request f w = absurd cc
dialed_parts host Open user expected.Frame f w = absurd cc
dialed_parts None Open user expected.Answer f w = (refl, refl, refl)
dialed_parts (Some host) Open None expected.Answer f w = absurd f
dialed_parts (Some host) Open (Some user) expected.Answer f w = absurd f

up_parts : (host : Option (List ℕ)) (stage : Stage) (user : Option (ℕ × Address)) (e : Expected) → Fits host stage user e → stage_says stage e ≡ IsUp → (stage ≡ Open) × (e ≡ expected.Frame)
up_parts host Ended user e f w = absurd cc
up_parts host stage user expected.Request f w = by_stage stage w where
  by_stage : (stage : Stage) → stage_says stage expected.Request ≡ IsUp → (stage ≡ Open) × (expected.Request ≡ expected.Frame)
  by_stage Pending w = absurd cc
  by_stage Open w = absurd cc
  by_stage Ended w = absurd cc
up_parts host stage user expected.Answer f w = by_stage stage w where
  by_stage : (stage : Stage) → stage_says stage expected.Answer ≡ IsUp → (stage ≡ Open) × (expected.Answer ≡ expected.Frame)
  by_stage Pending w = absurd cc
  by_stage Open w = absurd cc
  by_stage Ended w = absurd cc
up_parts host Open user expected.Frame f w = (refl, refl)
up_parts None Pending None expected.Frame f w = absurd f
up_parts None Pending (Some user) expected.Frame f w = absurd f
up_parts (Some host) Pending None expected.Frame f w = absurd f
up_parts (Some host) Pending (Some user) expected.Frame f w = absurd f

-- what a link dials
pub dialing : (host : HostState) (end : ℕ) (peer : Address) (n : ℕ) → IsNaming host → (link_with host end peer).state ≡ Dialing n → (socket : Socket) × (find (is_socket n) host.sockets ≡ Some socket) × IsDialedBy end peer socket
dialing host end peer n s e = by_socket (find (is_socket n) host.sockets) refl (sym (s.same end peer n) ∙ ap (λ (state : LinkState). link_says state n) e ∙ ap (λ b. cond b Dialed Unnamed) (number_self n)) where
  by_socket : (o : Option Socket) → find (is_socket n) host.sockets ≡ o → socket_says end peer o ≡ Dialed → (socket : Socket) × (o ≡ Some socket) × IsDialedBy end peer socket
  by_socket None found w = absurd cc
  by_socket (Some socket) found w =
      let of = for_link end peer socket Dialed w (λ w. absurd cc) in
      let parts = dialed_parts socket.peer_host socket.stage socket.user socket.expected (s.fit n socket found) of.1 in
      (socket, refl, record { user = user_is end peer socket.user of.0; opener = parts.0; stands = parts.1; expects = parts.2 })

-- what a link is up on
pub risen : (host : HostState) (end : ℕ) (peer : Address) (n : ℕ) (probed : Bool) → IsNaming host → (link_with host end peer).state ≡ Up n probed → (socket : Socket) × (find (is_socket n) host.sockets ≡ Some socket) × IsUpFor end peer socket
risen host end peer n probed s e = by_socket (find (is_socket n) host.sockets) refl (sym (s.same end peer n) ∙ ap (λ (state : LinkState). link_says state n) e ∙ ap (λ b. cond b IsUp Unnamed) (number_self n)) where
  by_socket : (o : Option Socket) → find (is_socket n) host.sockets ≡ o → socket_says end peer o ≡ IsUp → (socket : Socket) × (o ≡ Some socket) × IsUpFor end peer socket
  by_socket None found w = absurd cc
  by_socket (Some socket) found w =
      let of = for_link end peer socket IsUp w (λ w. absurd cc) in
      let parts = up_parts socket.peer_host socket.stage socket.user socket.expected (s.fit n socket found) of.1 in
      (socket, refl, record { user = user_is end peer socket.user of.0; stands = parts.0; expects = parts.1 })

says_up : (state : LinkState) (n : ℕ) → link_says state n ≡ IsUp → (probed : Bool) × (state ≡ Up n probed)
says_up Idle n e = absurd cc
says_up AwaitOther n e = absurd cc
says_up (Dialing d) n e = by_test (d == n) e where
  by_test : (b : Bool) → cond b Dialed Unnamed ≡ IsUp → (probed : Bool) × (Dialing d ≡ Up n probed)
  by_test true e = absurd cc
  by_test false e = absurd cc
says_up (Up u probed) n e = by_test (u == n) refl e where
  by_test : (b : Bool) → (u == n) ≡ b → cond b IsUp Unnamed ≡ IsUp → (p : Bool) × (Up u probed ≡ Up n p)
  by_test true h e = (probed, ap (λ (z : ℕ). Up z probed) (eqb-true u n h))
  by_test false h e = absurd cc

-- an end with a user says that it is dialed, or up
used_says : (host : Option (List ℕ)) (stage : Stage) (user : ℕ × Address) (e : Expected) → Fits host stage (Some user) e → is_ended stage ≡ false → (stage_says stage e ≡ Dialed) ⊎ (stage_says stage e ≡ IsUp)
used_says host Ended user e f o = absurd cc
used_says host Pending user expected.Answer f o = inl refl
used_says host Pending user expected.Frame f o = inr refl
used_says None Pending user expected.Request f o = absurd f
used_says (Some host) Pending user expected.Request f o = absurd f
used_says host Open user expected.Answer f o = inl refl
used_says host Open user expected.Frame f o = inr refl
used_says None Open user expected.Request f o = absurd f
used_says (Some host) Open user expected.Request f o = absurd f

-- the link of an end's user dials it, or is up on it
pub used : (host : HostState) (end : ℕ) (peer : Address) (n : ℕ) (socket : Socket) → IsNaming host → find (is_socket n) host.sockets ≡ Some socket → socket.user ≡ Some (end, peer) → is_ended socket.stage ≡ false
    → (((link_with host end peer).state ≡ Dialing n) × IsDialedBy end peer socket) ⊎ ((probed : Bool) × ((link_with host end peer).state ≡ Up n probed) × IsUpFor end peer socket)
used host end peer n socket s found u stands = by_word (used_says socket.peer_host socket.stage (end, peer) socket.expected (subst (λ (w : Option (ℕ × Address)). Fits socket.peer_host socket.stage w socket.expected) u (s.fit n socket found)) stands) where
  says : link_says (link_with host end peer).state n ≡ stage_says socket.stage socket.expected
  says = s.same end peer n ∙ ap (socket_says end peer) found ∙ ap (λ (w : Option (ℕ × Address)). cond (is_for end peer w) (stage_says socket.stage socket.expected) Unnamed) u ∙ ap (λ b. cond b (stage_says socket.stage socket.expected) Unnamed) (user_self (end, peer))

  by_word : (stage_says socket.stage socket.expected ≡ Dialed) ⊎ (stage_says socket.stage socket.expected ≡ IsUp) → (((link_with host end peer).state ≡ Dialing n) × IsDialedBy end peer socket) ⊎ ((probed : Bool) × ((link_with host end peer).state ≡ Up n probed) × IsUpFor end peer socket)
  by_word (inl w) = let parts = dialed_parts socket.peer_host socket.stage socket.user socket.expected (s.fit n socket found) w in inl (says_dialed (link_with host end peer).state n (says ∙ w), record { user = u; opener = parts.0; stands = stands; expects = parts.2 })
  by_word (inr w) = let parts = up_parts socket.peer_host socket.stage socket.user socket.expected (s.fit n socket found) w in let up = says_up (link_with host end peer).state n (says ∙ w) in inr (up.0, up.1, record { user = u; stands = parts.0; expects = parts.1 })

unused_parts : (host : Option (List ℕ)) (stage : Stage) (e : Expected) → Fits host stage None e → is_ended stage ≡ false → (is_some host ≡ true) × (stage ≡ Open) × (e ≡ expected.Request)
unused_parts host Ended e f o = absurd cc
unused_parts None Pending expected.Request f o = absurd f
unused_parts None Pending expected.Answer f o = absurd f
unused_parts None Pending expected.Frame f o = absurd f
unused_parts (Some host) Pending expected.Request f o = absurd f
unused_parts (Some host) Pending expected.Answer f o = absurd f
unused_parts (Some host) Pending expected.Frame f o = absurd f
unused_parts None Open expected.Request f o = absurd f
unused_parts None Open expected.Answer f o = absurd f
unused_parts None Open expected.Frame f o = absurd f
unused_parts (Some host) Open expected.Request f o = (refl, refl, refl)
unused_parts (Some host) Open expected.Answer f o = absurd f
unused_parts (Some host) Open expected.Frame f o = absurd f

-- an end without a user hasn't read its request
pub unused : (host : HostState) (n : ℕ) (socket : Socket) → IsNaming host → find (is_socket n) host.sockets ≡ Some socket → socket.user ≡ None → is_ended socket.stage ≡ false → IsUnasked socket
unused host n socket s found u stands = let parts = unused_parts socket.peer_host socket.stage socket.expected (subst (λ (w : Option (ℕ × Address)). Fits socket.peer_host socket.stage w socket.expected) u (s.fit n socket found)) stands in record { target = parts.0; stands = parts.1; expects = parts.2 }

-- an end is up exactly where a link is up on it
pub up_stands : (host : HostState) (end : ℕ) (peer : Address) (n : ℕ) (probed : Bool) → IsNaming host → (link_with host end peer).state ≡ Up n probed → standing_at host n ≡ Some IsRisen
up_stands host end peer n probed s e = let up = risen host end peer n probed s e in
    ap (option_map standing_of) up.1 ∙ ap Some (ap (λ (stage : Stage). standing stage (stage_says stage up.0.expected)) up.2.stands ∙ ap (λ (x : Expected). standing Open (stage_says Open x)) up.2.expects)

stands_up : (stage : Stage) (e : Expected) → standing stage (stage_says stage e) ≡ IsRisen → (stage ≡ Open) × (e ≡ expected.Frame)
stands_up Pending e w = absurd cc
stands_up Ended e w = absurd cc
stands_up Open expected.Request w = absurd cc
stands_up Open expected.Answer w = absurd cc
stands_up Open expected.Frame w = (refl, refl)

up_used : (host : Option (List ℕ)) (stage : Stage) (user : Option (ℕ × Address)) (e : Expected) → Fits host stage user e → stage ≡ Open → e ≡ expected.Frame → is_some user ≡ true
up_used host stage (Some user) e f s x = refl
up_used None Open None expected.Frame f s x = absurd f
up_used (Some host) Open None expected.Frame f s x = absurd f
up_used host Pending None e f s x = absurd cc
up_used host Ended None e f s x = absurd cc
up_used host Open None expected.Request f s x = absurd cc
up_used host Open None expected.Answer f s x = absurd cc

pub stands_risen : (host : HostState) (n : ℕ) → IsNaming host → standing_at host n ≡ Some IsRisen → (end : ℕ) × (peer : Address) × (probed : Bool) × ((link_with host end peer).state ≡ Up n probed)
stands_risen host n s e = by_socket (find (is_socket n) host.sockets) refl e where
  by_user : (socket : Socket) → find (is_socket n) host.sockets ≡ Some socket → (stage_says socket.stage socket.expected ≡ IsUp) → (user : Option (ℕ × Address)) → socket.user ≡ user → is_some user ≡ true → (end : ℕ) × (peer : Address) × (probed : Bool) × ((link_with host end peer).state ≡ Up n probed)
  by_user socket found w None u e = absurd cc
  by_user socket found w (Some user) u e = let up = says_up (link_with host user.0 user.1).state n (s.same user.0 user.1 n ∙ ap (socket_says user.0 user.1) found
      ∙ ap (λ (x : Option (ℕ × Address)). cond (is_for user.0 user.1 x) (stage_says socket.stage socket.expected) Unnamed) u ∙ ap (λ b. cond b (stage_says socket.stage socket.expected) Unnamed) (user_self user) ∙ w) in (user.0, user.1, up.0, up.1)

  by_socket : (o : Option Socket) → find (is_socket n) host.sockets ≡ o → option_map standing_of o ≡ Some IsRisen → (end : ℕ) × (peer : Address) × (probed : Bool) × ((link_with host end peer).state ≡ Up n probed)
  by_socket None found e = absurd cc
  by_socket (Some socket) found e = let parts = stands_up socket.stage socket.expected cc in
      by_user socket found (ap (λ (stage : Stage). stage_says stage socket.expected) parts.0 ∙ ap (λ (x : Expected). stage_says Open x) parts.1) socket.user refl (up_used socket.peer_host socket.stage socket.user socket.expected (s.fit n socket found) parts.0 parts.1)

-- a socket that a link names is there
pub named_there : (host : HostState) (end : ℕ) (peer : Address) (n : ℕ) → IsNaming host → names (link_with host end peer).state n ≡ true → is_some (find (is_socket n) host.sockets) ≡ true
named_there host end peer n s h = by_state (link_with host end peer).state refl h where
  by_state : (state : LinkState) → (link_with host end peer).state ≡ state → names state n ≡ true → is_some (find (is_socket n) host.sockets) ≡ true
  by_state Idle e h = absurd cc
  by_state AwaitOther e h = absurd cc
  by_state (Dialing d) e h = ap is_some (dialing host end peer n s (e ∙ ap (λ (z : ℕ). Dialing z) (sym (eqb-true n d h)))).1
  by_state (Up u probed) e h = ap is_some (risen host end peer n probed s (e ∙ ap (λ (z : ℕ). Up z probed) (sym (eqb-true n u h)))).1
