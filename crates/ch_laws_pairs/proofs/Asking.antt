-- The parts of what a host does tell who asks on its ends.
use Rattle.std.proofs.Common.{◌≡◌, ◌≤◌, ℕ, ◌+◌, ◌*◌, Bool, true, false, cond, List, [], ◌∷◌, ◌++◌, map, Ok, Err, refl, sym, ap, ◌∙◌, subst, arith}
use Rattle.std.specs.Prelude.{find, Option, Some, None, ◌==◌}
use Rattle.ch_base.specs.declared.address.Address.{Address}
use Rattle.ch_wire.specs.declared.frame.Frame.{Frame}
use Rattle.ch_model.specs.declared.step.Step.{Step}
use Rattle.ch_model.specs.declared.step.Step.TheVariants as steps
use Rattle.ch_model.specs.declared.step.Weight.{Weight}
use Rattle.ch_model.specs.HostLinks.{dialed}
use Rattle.ch_model.specs.HostState.{Socket, HostState}
use Rattle.ch_model.specs.HostSteps.{Stepped, after_steps, ◌then◌, is_socket, store_socket, with_socket, own_address}
use Rattle.ch_model.specs.HostWrites.{frame_step, ended_in, end_socket}
use Rattle.ch_model.specs.Stages.{Ended}
use Rattle.ch_laws_items.proofs.Sockets.{stored_apart}
use Rattle.ch_laws_items.specs.Kept.{Apart}
use Rattle.ch_laws_log.proofs.HostTold.{number_found, find_stored}
use Rattle.ch_laws_log.proofs.Stored.{number_is}
use Rattle.ch_laws_pairs.specs.Askers.{Asker, asker_of, asker_at, asker_after, asker_after_all, IsFresh, AreFresh, IsAsking, Asks, AllAsk}

apart_numbers : (a b : ℕ) → (a ≡ b → ⊥) → (a == b) ≡ false
apart_numbers a b n = by_test (a == b) refl where
  by_test : (c : Bool) → (a == b) ≡ c → c ≡ false
  by_test true e = absurd (n (number_is a b e))
  by_test false e = refl

-- ---- one thing and then another

pub all_after : (n : ℕ) (xs ys : List Step) (asker : Asker) → asker_after_all n (xs ++ ys) asker ≡ asker_after_all n ys (asker_after_all n xs asker)
all_after n [] ys asker = refl
all_after n (x ∷ xs) ys asker = all_after n xs ys (asker_after n x asker)

fresh_after : (n : ℕ) (xs ys : List Step) (asker : Asker) → AreFresh n xs asker → AreFresh n ys (asker_after_all n xs asker) → AreFresh n (xs ++ ys) asker
fresh_after n [] ys asker a b = b
fresh_after n (x ∷ xs) ys asker a b = (a.0, fresh_after n xs ys (asker_after n x asker) a.1 b)

pub onward : (one two three : HostState) (xs ys : List Step) → Asks one xs two → Asks two ys three → Asks one (xs ++ ys) three
onward one two three xs ys a b = record {
  asking = b.asking;
  home = λ end. b.home end ∙ a.home end;
  askers = λ n. b.askers n ∙ ap (asker_after_all n ys) (a.askers n) ∙ sym (all_after n xs ys (asker_at one n));
  fresh = λ n. fresh_after n xs ys (asker_at one n) (a.fresh n) (subst (λ (s : Asker). AreFresh n ys s) (a.askers n) (b.fresh n));
}

pub chained : (host : HostState) (done : Stepped) (f : HostState → Stepped) → AllAsk host done → ((next : HostState) → AllAsk next (f next)) → AllAsk host (done then f)
chained host (Ok done) f a g = from (f done.1) (g done.1) where
  from : (more : Stepped) → AllAsk done.1 more → AllAsk host (after_steps done.0 more)
  from (Ok more) b = λ s. let one = a s in onward host done.1 more.1 done.0 more.0 one (b one.asking)
  from (Err stop) b = tt
chained host (Err stop) f a g = tt

-- what follows a host that is as another
pub from_asked : (one two : HostState) (done : Stepped) → (IsAsking one → Asks one [] two) → AllAsk two done → AllAsk one done
from_asked one two (Ok done) k f = λ s. let first = k s in onward one two done.1 [] done.0 first (f first.asking)
from_asked one two (Err stop) k f = tt

-- ---- what changes no socket

-- where the sockets, the dials and the host's own text and port are the same
pub record Alike (before after : HostState) : Type 0 where
  pub sockets : after.sockets ≡ before.sockets
  pub dials : after.dials ≡ before.dials
  pub home : (end : ℕ) → own_address after end ≡ own_address before end

pub same : (before after : HostState) → Alike before after → IsAsking before → Asks before [] after
same before after a s = record {
  asking = record {
    apart = subst Apart (sym a.sockets) s.apart;
    free = λ k l. at (2 * k) ∙ s.free k (subst (λ (m : ℕ). m ≤ k) a.dials l);
    odd = λ k. at (2 * k + 1) ∙ s.odd k;
  };
  home = a.home;
  askers = at;
  fresh = λ n. tt;
} where
  at : (n : ℕ) → asker_at after n ≡ asker_at before n
  at n = ap (λ (sockets : List Socket). asker_of (find (is_socket n) sockets)) a.sockets

pub at_rest : (host : HostState) → IsAsking host → Asks host [] host
at_rest host s = same host host (record { sockets = refl; dials = refl; home = λ end. refl }) s

-- a step that dials nothing
abbrev pub IsPlain : Step → Type 0
IsPlain (steps.Dial sock end peer) = ⊥
IsPlain step = Unit {0}

plain_asker : (step : Step) → IsPlain step → (n : ℕ) (asker : Asker) → asker_after n step asker ≡ asker
plain_asker (steps.Dial sock end peer) p n asker = absurd p
plain_asker step p n asker = refl

plain_fresh : (step : Step) → IsPlain step → (n : ℕ) (asker : Asker) → IsFresh n step asker
plain_fresh (steps.Dial sock end peer) p n asker = absurd p
plain_fresh step p n asker = tt

pub plain_first : (step : Step) → IsPlain step → (before after : HostState) (told : List Step) → Asks before told after → Asks before (step ∷ told) after
plain_first step p before after told t = record {
  asking = t.asking;
  home = t.home;
  askers = λ n. t.askers n ∙ ap (asker_after_all n told) (sym (plain_asker step p n (asker_at before n)));
  fresh = λ n. (plain_fresh step p n (asker_at before n), subst (λ (s : Asker). AreFresh n told s) (sym (plain_asker step p n (asker_at before n))) (t.fresh n));
}

pub frames_first : (sock : ℕ) (items : List (Frame × Weight)) (before after : HostState) → Asks before [] after → Asks before (map (frame_step sock) items) after
frames_first sock [] before after t = t
frames_first sock (item ∷ items) before after t = plain_first (frame_step sock item) tt before after (map (frame_step sock) items) (frames_first sock items before after t)

-- ---- what changes a socket

-- a socket is kept in place of one that is asked on as it is, or of none where nobody asked
pub keeps : (new : Socket) (host : HostState) → asker_at host new.number ≡ asker_of (Some new) → IsAsking host → Asks host [] (with_socket new host)
keeps new host is s = record {
  asking = record {
    apart = stored_apart new host.sockets s.apart;
    free = λ k l. at (2 * k) ∙ s.free k l;
    odd = λ k. at (2 * k + 1) ∙ s.odd k;
  };
  home = λ end. refl;
  askers = at;
  fresh = λ n. tt;
} where
  at : (n : ℕ) → asker_at (with_socket new host) n ≡ asker_at host n
  at n = ap asker_of (find_stored new host.sockets n) ∙ by_test (new.number == n) refl where
    by_test : (b : Bool) → (new.number == n) ≡ b → asker_of (cond b (Some new) (find (is_socket n) host.sockets)) ≡ asker_at host n
    by_test true e = sym is ∙ ap (asker_at host) (number_is new.number n e)
    by_test false e = refl

-- an end is over
over : (sock : ℕ) (host : HostState) → IsAsking host → Asks host [] (end_socket sock host)
over sock host s = by_socket (find (is_socket sock) host.sockets) refl where
  by_socket : (o : Option Socket) → find (is_socket sock) host.sockets ≡ o → Asks host [] (ended_in o host)
  by_socket None f = at_rest host s
  by_socket (Some socket) f = keeps (record socket { stage = Ended; since = [] }) host (ap (asker_at host) (number_found sock host.sockets socket f) ∙ ap asker_of f) s

pub ends : (sock : ℕ) (host : HostState) → IsAsking host → Asks host (steps.Left sock ∷ []) (end_socket sock host)
ends sock host s = plain_first (steps.Left sock) tt host (end_socket sock host) [] (over sock host s)

pub ends_down : (sock : ℕ) (host : HostState) → IsAsking host → Asks host (steps.Down sock ∷ []) (end_socket sock host)
ends_down sock host s = plain_first (steps.Down sock) tt host (end_socket sock host) [] (over sock host s)

-- the next socket is dialed
pub dials_next : (end : ℕ) (peer : Address) (host : HostState) → IsAsking host → Asks host (steps.Dial (2 * host.dials) end peer ∷ []) (with_socket (dialed (2 * host.dials) end peer) (record host { dials = host.dials + 1 }))
dials_next end peer host s = record {
  asking = record {
    apart = stored_apart new host.sockets s.apart;
    free = λ k l. at (2 * k) ∙ ap (λ b. cond b (Some (end, peer)) (asker_at host (2 * k))) (apart_numbers (2 * host.dials) (2 * k) (past host.dials k l)) ∙ s.free k (below host.dials k l);
    odd = λ k. at (2 * k + 1) ∙ ap (λ b. cond b (Some (end, peer)) (asker_at host (2 * k + 1))) (apart_numbers (2 * host.dials) (2 * k + 1) (odd_is host.dials k)) ∙ s.odd k;
  };
  home = λ end. refl;
  askers = at;
  fresh = λ n. (λ e. sym (ap (asker_at host) (number_is (2 * host.dials) n e)) ∙ s.free host.dials (same_as host.dials), tt);
} where
  new : Socket
  new = dialed (2 * host.dials) end peer

  same_as : (n : ℕ) → n ≤ n
  same_as n = omega arith

  past : (d k : ℕ) → d + 1 ≤ k → 2 * d ≡ 2 * k → ⊥
  past d k l e = omega arith

  below : (d k : ℕ) → d + 1 ≤ k → d ≤ k
  below d k l = omega arith

  odd_is : (d k : ℕ) → 2 * d ≡ 2 * k + 1 → ⊥
  odd_is d k e = omega arith

  at : (n : ℕ) → asker_of (find (is_socket n) (store_socket new host.sockets)) ≡ cond (2 * host.dials == n) (Some (end, peer)) (asker_at host n)
  at n = ap asker_of (find_stored new host.sockets n) ∙ by_test (2 * host.dials == n) where
    by_test : (b : Bool) → asker_of (cond b (Some new) (find (is_socket n) host.sockets)) ≡ cond b (Some (end, peer)) (asker_at host n)
    by_test true = refl
    by_test false = refl
