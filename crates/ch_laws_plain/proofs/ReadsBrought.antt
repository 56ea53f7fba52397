-- What a link that has heard of something brings to a node: nothing, or that it has failed.
use Rattle.std.proofs.Common.{◌≡◌, ◌⊎◌, inl, inr, ℕ, Bool, true, false, cond, List, [], ◌∷◌, Ok, Err, refl, sym, ap, ◌∙◌, subst}
use Rattle.std.specs.Prelude.{find, Option, Some, None, ◌==◌}
use Rattle.ch_base.specs.declared.address.Address.{Address}
use Rattle.ch_wire.specs.declared.frame.Frame.{Frame}
use Rattle.ch_link.specs.Sockets.{names}
use Rattle.ch_link.specs.declared.LinkIn.TheVariants as inputs
use Rattle.ch_link.specs.declared.LinkState.{LinkState}
use Rattle.ch_link.specs.declared.LinkState.TheVariants as states
use Rattle.ch_model.specs.declared.step.Step.{Step}
use Rattle.ch_model.specs.declared.step.Step.TheVariants as steps
use Rattle.ch_model.specs.HostItems.{gone_from, is_gone}
use Rattle.ch_model.specs.HostLinks.{hears}
use Rattle.ch_model.specs.HostState.{Link, Socket, HostState}
use Rattle.ch_model.specs.HostSteps.{Stepped, link_with, is_socket}
use Rattle.ch_model.specs.HostWrites.{leaves, forgotten, end_socket}
use Rattle.ch_model.specs.Stages.{is_ended}
use Rattle.ch_laws_links.specs.Naming.{IsNaming, IsDialedBy, IsUpFor}
use Rattle.ch_laws_links.proofs.Keys.{ended_rest, link_named, number_self}
use Rattle.ch_laws_links.proofs.Says.{used}
use Rattle.ch_laws_writes.specs.Orderly.{link_at}
use Rattle.ch_laws_writes.proofs.Ordered.{is_key, at_key}
use Rattle.ch_laws_calls.specs.FitsTurns.{bytes_at}
use Rattle.ch_laws_calls.proofs.FitsStores.{Stores}
use Rattle.ch_laws_plain.specs.Talks.{LinkIsPlain}
use Rattle.ch_laws_plain.specs.ReadsReading.{posts_in, AllReadThere, AreOfNone, Nothing, Loses, Brings}
use Rattle.ch_laws_plain.proofs.ReadsEnds.{AllReadSo, AllOf, all_there, but_over}
use Rattle.ch_laws_plain.proofs.ReadsLinks.{Keeps, Fails, AllFail, heard_gone}
use Rattle.ch_laws_plain.proofs.ReadsSockets.{WereSo, ended_so, ended_over}

-- ---- links

-- the link of an endpoint with a peer is found under its own key
pub own_key : (host : HostState) (end : ℕ) (peer : Address) → link_with host (link_with host end peer).end (link_with host end peer).peer ≡ link_with host end peer
own_key host end peer = ap (λ (n : ℕ). link_with host n (link_with host end peer).peer) (link_named host end peer).0 ∙ ap (link_with host end) (link_named host end peer).1

-- what is kept of a link that is stored is kept of all
pub kept_created : (host after : HostState) (link two : Link) → link_with host link.end link.peer ≡ link → Stores host.links after.links link.end link.peer two → two.created ≡ link.created → (e : ℕ) (p : Address) → (link_with after e p).created ≡ (link_with host e p).created
kept_created host after link two is s same e p = by_test (is_key link.end link.peer e p) refl where
  by_test : (b : Bool) → is_key link.end link.peer e p ≡ b → (link_with after e p).created ≡ (link_with host e p).created
  by_test true h = at_key (λ m x. (link_with after m x).created ≡ (link_with host m x).created) link.end link.peer e p h (ap (λ (l : Link). l.created) s.now ∙ same ∙ sym (ap (λ (l : Link). l.created) is))
  by_test false h = ap (λ (l : Link). l.created) (s.others e p h)

pub over_mid : (links mids after : List Link) (end : ℕ) (peer : Address) (two : Link) → mids ≡ links → Stores mids after end peer two → Stores links after end peer two
over_mid links mids after end peer two same s = subst (λ (l : List Link). Stores l after end peer two) same s

-- ---- what is brought

pub nothing_of : (host mid after : HostState) (link : Link) (all told : List Step) (frames : ℕ → List Frame) → mid.links ≡ host.links → link_with host link.end link.peer ≡ link → Keeps mid link told after → posts_in all ≡ posts_in told → ((n : ℕ) → AreOfNone (frames n)) → AllReadThere host after frames → Nothing host all after
nothing_of host mid after link all told frames same is k posts none read = record {
  posted = posts ∙ k.posted;
  created = kept_created host after link k.two is (over_mid host.links mid.links after.links link.end link.peer k.two same k.stores) k.created;
  frames = frames;
  none = none;
  read = read;
}

-- the link names each end that is for it
named : (host : HostState) (link : Link) (n : ℕ) (known : Socket) → IsNaming host → link_with host link.end link.peer ≡ link → find (is_socket n) host.sockets ≡ Some known → known.user ≡ Some (link.end, link.peer) → is_ended known.stage ≡ false → names link.state n ≡ true
named host link n known s is found u stands = by_use (used host link.end link.peer n known s found u stands) where
  as_is : (state : LinkState) → (link_with host link.end link.peer).state ≡ state → link.state ≡ state
  as_is state e = sym (ap (λ (l : Link). l.state) is) ∙ e

  by_use : (((link_with host link.end link.peer).state ≡ states.Dialing n) × IsDialedBy link.end link.peer known) ⊎ ((probed : Bool) × ((link_with host link.end link.peer).state ≡ states.Up n probed) × IsUpFor link.end link.peer known) → names link.state n ≡ true
  by_use (inl d) = ap (λ (x : LinkState). names x n) (as_is (states.Dialing n) d.0) ∙ number_self n
  by_use (inr u) = ap (λ (x : LinkState). names x n) (as_is (states.Up n u.0) u.1) ∙ number_self n

pub loses_of : (host mid after : HostState) (link : Link) (all told : List Step) (frames : ℕ → List Frame) → IsNaming host → mid.links ≡ host.links → link_with host link.end link.peer ≡ link → Fails mid link told after → posts_in all ≡ posts_in told → ((n : ℕ) → AreOfNone (frames n)) → AllReadThere host after frames
    → (at : ℕ → List Frame) → AllOf host mid → AllReadSo host mid at → Loses host all after
loses_of host mid after link all told frames s same is f posts none read at of so = record {
  end = link.end;
  peer = link.peer;
  why = f.why;
  posted = posts ∙ f.posted;
  others = λ e p h. ap (λ (l : Link). l.created) (stores.others e p h);
  created = ap (λ (l : Link). l.created) stores.now;
  frames = frames;
  none = none;
  read = read;
  unused = λ n now found u. by_over n now found u (is_ended now.stage) refl;
} where
  stores : Stores host.links after.links link.end link.peer (forgotten link states.Idle)
  stores = over_mid host.links mid.links after.links link.end link.peer (forgotten link states.Idle) same f.stores

  by_over : (n : ℕ) (now : Socket) → find (is_socket n) after.sockets ≡ Some now → now.user ≡ Some (link.end, link.peer) → (b : Bool) → is_ended now.stage ≡ b → is_ended now.stage ≡ true
  by_over n now found u true h = h
  by_over n now found u false h =
      let there = f.so n now found h in
      let known = of n now there in
      let r = so n known.0 now known.1 there h in
      f.over n now (named host link n known.0 s is known.1 (sym r.user ∙ u) r.stood) found

-- ---- an end that is gone

-- what a link makes of an end that is gone: nothing, or it fails; that end is over, nothing is written, and the link is plain if it was
pub record Lets (mid : HostState) (sock : ℕ) (link : Link) (told : List Step) (after : HostState) : Type 0 where
  pub heard : Keeps mid link told after ⊎ Fails mid link told after
  pub over : (now : Socket) → find (is_socket sock) after.sockets ≡ Some now → is_ended now.stage ≡ true
  pub silent : (n : ℕ) → bytes_at n told ≡ []
  pub others : (e : ℕ) (p : Address) → is_key link.end link.peer e p ≡ false → link_at after.links e p ≡ link_at mid.links e p
  pub plain : LinkIsPlain link → LinkIsPlain (link_at after.links link.end link.peer)

abbrev pub AllLet : HostState → ℕ → Link → Stepped → Type 0
AllLet mid sock link (Ok done) = Lets mid sock link done.0 done.1
AllLet mid sock link (Err stop) = Unit {0}

-- the end is left, and that is all
left : (host mid : HostState) (sock : ℕ) (link : Link) → mid.links ≡ host.links → link_with host link.end link.peer ≡ link → Lets mid sock link (steps.Left sock ∷ []) (end_socket sock mid)
left host mid sock link same is = record {
  heard = inl (record { posted = refl; two = link; stores = stores; created = refl; so = ended_so sock mid });
  over = ended_over sock mid;
  silent = λ n. refl;
  others = stores.others;
  plain = λ p. subst LinkIsPlain (sym stores.now) p;
} where
  at_mid : Stores mid.links mid.links link.end link.peer link
  at_mid = record { now = ap (λ (l : List Link). link_at l link.end link.peer) same ∙ is; others = λ e p h. refl }

  stores : Stores mid.links (end_socket sock mid).links link.end link.peer link
  stores = subst (λ (l : List Link). Stores mid.links l link.end link.peer link) (sym (ended_rest sock mid).0) at_mid

forgotten_plain : (link : Link) → LinkIsPlain (forgotten link states.Idle)
forgotten_plain link = record { up = λ e. refl; waits = λ e. refl; created = λ e. refl }

-- the link has failed
failed : (mid after : HostState) (sock : ℕ) (link : Link) (told : List Step) → names link.state sock ≡ true → Fails mid link told after → Lets mid sock link told after
failed mid after sock link told at f = record { heard = inr f; over = λ now found. f.over sock now at found; silent = f.silent; others = f.stores.others; plain = λ p. subst LinkIsPlain (sym f.stores.now) (forgotten_plain link) }

nobody : Address
nobody = record { host = []; port = 0; id = 0 }

pub all_gone : (host mid : HostState) (socket : Socket) (P : Stepped → Type 0) → mid.links ≡ host.links → ((link : Link) (done : Stepped) → link_with host link.end link.peer ≡ link → AllLet mid socket.number link done → P done) → P (is_gone socket mid)
all_gone host mid socket P same each = by_user socket.user where
  as_mid : (end : ℕ) (peer : Address) → link_with mid end peer ≡ link_with host end peer
  as_mid end peer = ap (λ (l : List Link). link_at l end peer) same

  by_fail : (link : Link) (done : Stepped) → names link.state socket.number ≡ true → AllFail mid link done → AllLet mid socket.number link done
  by_fail link (Ok done) at f = failed mid done.1 socket.number link done.0 at f
  by_fail link (Err stop) at f = tt

  by_names : (link : Link) (b : Bool) → names link.state socket.number ≡ b → link_with host link.end link.peer ≡ link → AllLet mid socket.number link (cond b (hears inputs.Gone link mid) (leaves socket.number mid))
  by_names link true at is = by_fail link (hears inputs.Gone link mid) at (heard_gone link socket.number mid at)
  by_names link false at is = left host mid socket.number link same is

  by_user : (o : Option (ℕ × Address)) → P (elim o as (λ x. Stepped) [
    | None ↦ leaves socket.number mid
    | Some user ↦ gone_from socket.number (link_with mid user.0 user.1) mid
  ])
  by_user None = each (link_with host 0 nobody) (leaves socket.number mid) (own_key host 0 nobody) (left host mid socket.number (link_with host 0 nobody) same (own_key host 0 nobody))
  by_user (Some user) = subst (λ (l : Link). P (gone_from socket.number l mid)) (sym (as_mid user.0 user.1))
      (each (link_with host user.0 user.1) (gone_from socket.number (link_with host user.0 user.1) mid) (own_key host user.0 user.1) (by_names (link_with host user.0 user.1) (names (link_with host user.0 user.1).state socket.number) refl (own_key host user.0 user.1)))

-- what that brings, where an item may have been read at that end before, and at no other
pub lets_bring : (host mid after : HostState) (sock : ℕ) (link : Link) (all told : List Step) (frames : List Frame) → IsNaming host → mid.links ≡ host.links → link_with host link.end link.peer ≡ link → AllOf host mid → AllReadSo host mid (λ n. cond (sock == n) frames []) → Lets mid sock link told after → posts_in all ≡ posts_in told → Brings host all after
lets_bring host mid after sock link all told frames s same is of so l posts = by_heard l.heard where
  read : WereSo mid after → AllReadThere host after (λ n. [])
  read kept = but_over host after sock frames l.over (all_there host mid after (λ n. cond (sock == n) frames []) kept so)

  by_heard : Keeps mid link told after ⊎ Fails mid link told after → Brings host all after
  by_heard (inl k) = inl (nothing_of host mid after link all told (λ n. []) same is k posts (λ n. tt) (read k.so))
  by_heard (inr f) = inr (inr (inr (inr (loses_of host mid after link all told (λ n. []) s same is f posts (λ n. tt) (read f.so) (λ n. cond (sock == n) frames []) of so))))
