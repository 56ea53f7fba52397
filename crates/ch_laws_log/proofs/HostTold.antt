-- The parts of what a host does tell how its ends stand.
use Rattle.std.proofs.Common.{◌≡◌, ◌≤◌, ℕ, ◌+◌, ◌*◌, Bool, true, false, cond, List, [], ◌∷◌, ◌++◌, map, Ok, Err, refl, sym, ap, ◌∙◌, subst, arith}
use Rattle.std.proofs.lemmas.Bool.Decides.{nat_tests}
use Rattle.std.specs.Option.{option_map}
use Rattle.std.specs.Prelude.{find, is_some, Option, Some, None, ◌==◌}
use Rattle.ch_base.specs.declared.address.Address.{Address}
use Rattle.ch_wire.specs.declared.frame.Frame.{Frame}
use Rattle.ch_model.specs.declared.step.Step.{Step}
use Rattle.ch_model.specs.declared.step.Step.TheVariants as steps
use Rattle.ch_model.specs.declared.step.Weight.{Weight}
use Rattle.ch_model.specs.HostLinks.{dialed}
use Rattle.ch_model.specs.HostState.{Socket, HostState}
use Rattle.ch_model.specs.HostSteps.{Stepped, after_steps, ◌then◌, is_socket, store_socket, with_socket}
use Rattle.ch_model.specs.HostWrites.{frame_step, ended_in, end_socket}
use Rattle.ch_model.specs.Stages.{Stage, Pending, Ended, is_pending}
use Rattle.ch_laws_items.proofs.Sockets.{stored_apart}
use Rattle.ch_laws_items.specs.Kept.{Apart}
use Rattle.ch_laws_log.specs.HostEnds.{stage_at, stage_after, stage_after_all, IsNewTo, AreNewTo, IsSound, Tells, AllTold}

number_is : (a b : ℕ) → (a == b) ≡ true → a ≡ b
number_is a b e = grind (arith, nat_tests)

pub number_same : (a : ℕ) → (a == a) ≡ true
number_same a = grind (arith, nat_tests)

apart_numbers : (a b : ℕ) → (a ≡ b → ⊥) → (a == b) ≡ false
apart_numbers a b n = by_test (a == b) refl where
  by_test : (c : Bool) → (a == b) ≡ c → c ≡ false
  by_test true e = absurd (n (number_is a b e))
  by_test false e = refl

-- ---- sockets by number

pub number_found : (n : ℕ) (sockets : List Socket) (socket : Socket) → find (is_socket n) sockets ≡ Some socket → socket.number ≡ n
number_found n [] socket e = absurd cc
number_found n (known ∷ rest) socket e = by_test (known.number == n) refl (number_found n rest socket) e where
  by_test : (b : Bool) → (known.number == n) ≡ b → (find (is_socket n) rest ≡ Some socket → socket.number ≡ n) → cond b (Some known) (find (is_socket n) rest) ≡ Some socket → socket.number ≡ n
  by_test true h more e = let is : known ≡ socket = cc in subst (λ (s : Socket). s.number ≡ n) is (number_is known.number n h)
  by_test false h more e = more e

pub find_stored : (socket : Socket) (sockets : List Socket) (n : ℕ) → find (is_socket n) (store_socket socket sockets) ≡ cond (socket.number == n) (Some socket) (find (is_socket n) sockets)
find_stored socket [] n = refl
find_stored socket (known ∷ rest) n = by_tests (known.number == socket.number) refl (socket.number == n) refl (known.number == n) refl (find_stored socket rest n) where
  by_tests : (a : Bool) → (known.number == socket.number) ≡ a → (b : Bool) → (socket.number == n) ≡ b → (c : Bool) → (known.number == n) ≡ c
      → find (is_socket n) (store_socket socket rest) ≡ cond b (Some socket) (find (is_socket n) rest)
      → find (is_socket n) (cond a (socket ∷ rest) (known ∷ store_socket socket rest)) ≡ cond b (Some socket) (cond c (Some known) (find (is_socket n) rest))
  by_tests true h true g c k ih = ap (λ b. cond b (Some socket) (find (is_socket n) rest)) g
  by_tests true h false g true k ih = let is : known.number ≡ socket.number = number_is known.number socket.number h in let no : (socket.number == n) ≡ true = subst (λ (m : ℕ). (m == n) ≡ true) is k in absurd cc
  by_tests true h false g false k ih = ap (λ b. cond b (Some socket) (find (is_socket n) rest)) g
  by_tests false h true g true k ih = let is : socket.number ≡ n = number_is socket.number n g in let no : (known.number == socket.number) ≡ true = subst (λ (m : ℕ). (known.number == m) ≡ true) (sym is) k in absurd cc
  by_tests false h true g false k ih = ap (λ b. cond b (Some known) (find (is_socket n) (store_socket socket rest))) k ∙ ih
  by_tests false h false g true k ih = ap (λ b. cond b (Some known) (find (is_socket n) (store_socket socket rest))) k
  by_tests false h false g false k ih = ap (λ b. cond b (Some known) (find (is_socket n) (store_socket socket rest))) k ∙ ih

-- ---- one thing and then another

pub all_after : (n : ℕ) (xs ys : List Step) (stage : Option Stage) → stage_after_all n (xs ++ ys) stage ≡ stage_after_all n ys (stage_after_all n xs stage)
all_after n [] ys stage = refl
all_after n (x ∷ xs) ys stage = all_after n xs ys (stage_after n x stage)

new_after : (n : ℕ) (xs ys : List Step) (stage : Option Stage) → AreNewTo n xs stage → AreNewTo n ys (stage_after_all n xs stage) → AreNewTo n (xs ++ ys) stage
new_after n [] ys stage a b = b
new_after n (x ∷ xs) ys stage a b = (a.0, new_after n xs ys (stage_after n x stage) a.1 b)

pub onward : (one two three : HostState) (xs ys : List Step) → Tells one xs two → Tells two ys three → Tells one (xs ++ ys) three
onward one two three xs ys a b = record {
  sound = b.sound;
  stages = λ n. b.stages n ∙ ap (stage_after_all n ys) (a.stages n) ∙ sym (all_after n xs ys (stage_at one n));
  new = λ n. new_after n xs ys (stage_at one n) (a.new n) (subst (λ (s : Option Stage). AreNewTo n ys s) (a.stages n) (b.new n));
  even = λ k. all_after (2 * k + 1) xs ys None ∙ ap (stage_after_all (2 * k + 1) ys) (a.even k) ∙ b.even k;
}

later : (told : List Step) (one two : HostState) (done : Stepped) → IsSound one → Tells one told two → AllTold two done → AllTold one (after_steps told done)
later told one two (Ok done) s a b = λ sound. onward one two done.1 told done.0 a (b a.sound)
later told one two (Err stop) s a b = tt

pub chained : (host : HostState) (done : Stepped) (f : HostState → Stepped) → AllTold host done → ((next : HostState) → AllTold next (f next)) → AllTold host (done then f)
chained host (Ok done) f a g = from (f done.1) (g done.1) where
  from : (more : Stepped) → AllTold done.1 more → AllTold host (after_steps done.0 more)
  from (Ok more) b = λ sound. let one = a sound in onward host done.1 more.1 done.0 more.0 one (b one.sound)
  from (Err stop) b = tt
chained host (Err stop) f a g = tt

-- what follows a host that is as another
pub from_told : (one two : HostState) (done : Stepped) → (IsSound one → Tells one [] two) → AllTold two done → AllTold one done
from_told one two (Ok done) k f = λ sound. let first = k sound in onward one two done.1 [] done.0 first (f first.sound)
from_told one two (Err stop) k f = tt

-- ---- what changes no socket

-- where the sockets and the dials are the same
pub same : (before after : HostState) → after.sockets ≡ before.sockets → after.dials ≡ before.dials → IsSound before → Tells before [] after
same before after e d s = record {
  sound = record {
    apart = subst Apart (sym e) s.apart;
    free = λ k l. ap (λ (sockets : List Socket). find (is_socket (2 * k)) sockets) e ∙ s.free k (subst (λ (m : ℕ). m ≤ k) d l);
    used = λ n socket f. s.used n socket (ap (λ (sockets : List Socket). find (is_socket n) sockets) (sym e) ∙ f);
  };
  stages = λ n. ap (λ (sockets : List Socket). option_map (λ (socket : Socket). socket.stage) (find (is_socket n) sockets)) e;
  new = λ n. tt;
  even = λ k. refl;
}

pub at_rest : (host : HostState) → IsSound host → Tells host [] host
at_rest host s = same host host refl refl s

-- a step that tells nothing of how an end stands
abbrev pub IsPlain : Step → Type 0
IsPlain (steps.Dial sock end peer) = ⊥
IsPlain (steps.Down sock) = ⊥
IsPlain (steps.Left sock) = ⊥
IsPlain step = Unit {0}

plain_stage : (step : Step) → IsPlain step → (n : ℕ) (stage : Option Stage) → stage_after n step stage ≡ stage
plain_stage (steps.Dial sock end peer) p n stage = absurd p
plain_stage (steps.Down sock) p n stage = absurd p
plain_stage (steps.Left sock) p n stage = absurd p
plain_stage step p n stage = refl

plain_new : (step : Step) → IsPlain step → (n : ℕ) (stage : Option Stage) → IsNewTo n step stage
plain_new (steps.Dial sock end peer) p n stage = absurd p
plain_new step p n stage = tt

pub plain_first : (step : Step) → IsPlain step → (before after : HostState) (told : List Step) → Tells before told after → Tells before (step ∷ told) after
plain_first step p before after told t = record {
  sound = t.sound;
  stages = λ n. t.stages n ∙ ap (stage_after_all n told) (sym (plain_stage step p n (stage_at before n)));
  new = λ n. (plain_new step p n (stage_at before n), subst (λ (s : Option Stage). AreNewTo n told s) (sym (plain_stage step p n (stage_at before n))) (t.new n));
  even = λ k. ap (stage_after_all (2 * k + 1) told) (plain_stage step p (2 * k + 1) None) ∙ t.even k;
}

pub frames_first : (sock : ℕ) (items : List (Frame × Weight)) (before after : HostState) → Tells before [] after → Tells before (map (frame_step sock) items) after
frames_first sock [] before after t = t
frames_first sock (item ∷ items) before after t = plain_first (frame_step sock item) tt before after (map (frame_step sock) items) (frames_first sock items before after t)

-- ---- what changes a socket

-- a socket is kept in place of one that stands as it does
pub keeps : (new old : Socket) (host : HostState) → find (is_socket new.number) host.sockets ≡ Some old → new.stage ≡ old.stage → (is_pending new.stage ≡ true → is_some new.user ≡ true) → IsSound host → Tells host [] (with_socket new host)
keeps new old host found stage user s = record {
  sound = record {
    apart = stored_apart new host.sockets s.apart;
    free = λ k l. find_stored new host.sockets (2 * k) ∙ by_free k l (new.number == 2 * k) refl;
    used = λ n socket f. by_used n socket (new.number == n) (sym (find_stored new host.sockets n) ∙ f);
  };
  stages = λ n. ap (option_map (λ (socket : Socket). socket.stage)) (find_stored new host.sockets n) ∙ by_stage n (new.number == n) refl;
  new = λ n. tt;
  even = λ k. refl;
} where
  by_free : (k : ℕ) → host.dials ≤ k → (b : Bool) → (new.number == 2 * k) ≡ b → cond b (Some new) (find (is_socket (2 * k)) host.sockets) ≡ None
  by_free k l true e = let at : find (is_socket (2 * k)) host.sockets ≡ Some old = subst (λ (m : ℕ). find (is_socket m) host.sockets ≡ Some old) (number_is new.number (2 * k) e) found in let none = s.free k l in absurd cc
  by_free k l false e = s.free k l

  by_used : (n : ℕ) (socket : Socket) (b : Bool) → cond b (Some new) (find (is_socket n) host.sockets) ≡ Some socket → is_pending socket.stage ≡ true → is_some socket.user ≡ true
  by_used n socket true f = let is : new ≡ socket = cc in subst (λ (w : Socket). is_pending w.stage ≡ true → is_some w.user ≡ true) is user
  by_used n socket false f = s.used n socket f

  by_stage : (n : ℕ) (b : Bool) → (new.number == n) ≡ b → option_map (λ (socket : Socket). socket.stage) (cond b (Some new) (find (is_socket n) host.sockets)) ≡ stage_at host n
  by_stage n true e = ap Some stage ∙ ap (option_map (λ (socket : Socket). socket.stage)) (sym (subst (λ (m : ℕ). find (is_socket m) host.sockets ≡ Some old) (number_is new.number n e) found))
  by_stage n false e = refl

-- an end is over, and that is told
ends_as : (step : Step) (sock : ℕ) (host : HostState) → ((n : ℕ) (stage : Option Stage) → stage_after n step stage ≡ cond (sock == n) (option_map (λ (s : Stage). Ended) stage) stage) → ((n : ℕ) (stage : Option Stage) → IsNewTo n step stage) → IsSound host → Tells host (step ∷ []) (end_socket sock host)
ends_as step sock host tells new s = by_socket (find (is_socket sock) host.sockets) refl where
  still_none : (b : Bool) (stage : Option Stage) → (b ≡ true → stage ≡ None) → cond b (option_map (λ (s : Stage). Ended) stage) stage ≡ stage
  still_none true stage h = ap (option_map (λ (s : Stage). Ended)) (h refl) ∙ sym (h refl)
  still_none false stage h = refl

  none_stays : (b : Bool) → ◌≡◌ {A = Option Stage} (cond b (option_map (λ (s : Stage). Ended) None) None) None
  none_stays true = refl
  none_stays false = refl

  absent : find (is_socket sock) host.sockets ≡ None → (n : ℕ) → (sock == n) ≡ true → stage_at host n ≡ None
  absent none n e = ap (option_map (λ (socket : Socket). socket.stage)) (subst (λ (m : ℕ). find (is_socket m) host.sockets ≡ None) (number_is sock n e) none)

  over : Socket → Socket
  over socket = record socket { stage = Ended; since = [] }

  by_free : (socket : Socket) → find (is_socket sock) host.sockets ≡ Some socket → (k : ℕ) → host.dials ≤ k → (b : Bool) → (socket.number == 2 * k) ≡ b → cond b (Some (over socket)) (find (is_socket (2 * k)) host.sockets) ≡ None
  by_free socket found k l true e =
      let at : find (is_socket (2 * k)) host.sockets ≡ Some socket = subst (λ (m : ℕ). find (is_socket m) host.sockets ≡ Some socket) (sym (number_found sock host.sockets socket found) ∙ number_is socket.number (2 * k) e) found in
      let none = s.free k l in absurd cc
  by_free socket found k l false e = s.free k l

  by_used : (socket : Socket) (n : ℕ) (other : Socket) (b : Bool) → cond b (Some (over socket)) (find (is_socket n) host.sockets) ≡ Some other → is_pending other.stage ≡ true → is_some other.user ≡ true
  by_used socket n other true f = let is : over socket ≡ other = cc in subst (λ (w : Socket). is_pending w.stage ≡ true → is_some w.user ≡ true) is (λ h. absurd cc)
  by_used socket n other false f = s.used n other f

  by_stage : (socket : Socket) → find (is_socket sock) host.sockets ≡ Some socket → (n : ℕ) (b : Bool) → (sock == n) ≡ b → option_map (λ (w : Socket). w.stage) (cond b (Some (over socket)) (find (is_socket n) host.sockets)) ≡ cond b (option_map (λ (s : Stage). Ended) (stage_at host n)) (stage_at host n)
  by_stage socket found n true e = ap (option_map (λ (w : Socket). Ended)) (sym (subst (λ (m : ℕ). find (is_socket m) host.sockets ≡ Some socket) (number_is sock n e) found)) ∙ mapped (find (is_socket n) host.sockets) where
    mapped : (o : Option Socket) → option_map (λ (w : Socket). Ended) o ≡ option_map (λ (s : Stage). Ended) (option_map (λ (w : Socket). w.stage) o)
    mapped None = refl
    mapped (Some w) = refl
  by_stage socket found n false e = refl

  by_socket : (o : Option Socket) → find (is_socket sock) host.sockets ≡ o → Tells host (step ∷ []) (ended_in o host)
  by_socket None none = record {
    sound = s;
    stages = λ n. sym (tells n (stage_at host n) ∙ still_none (sock == n) (stage_at host n) (absent none n));
    new = λ n. (new n (stage_at host n), tt);
    even = λ k. tells (2 * k + 1) None ∙ none_stays (sock == 2 * k + 1);
  }
  by_socket (Some socket) found = record {
    sound = record {
      apart = stored_apart (over socket) host.sockets s.apart;
      free = λ k l. find_stored (over socket) host.sockets (2 * k) ∙ by_free socket found k l (socket.number == 2 * k) refl;
      used = λ n other f. by_used socket n other (socket.number == n) (sym (find_stored (over socket) host.sockets n) ∙ f);
    };
    stages = λ n. ap (option_map (λ (w : Socket). w.stage)) (find_stored (over socket) host.sockets n ∙ ap (λ (m : ℕ). cond (m == n) (Some (over socket)) (find (is_socket n) host.sockets)) (number_found sock host.sockets socket found))
        ∙ by_stage socket found n (sock == n) refl ∙ sym (tells n (stage_at host n));
    new = λ n. (new n (stage_at host n), tt);
    even = λ k. tells (2 * k + 1) None ∙ none_stays (sock == 2 * k + 1);
  }

pub ends : (sock : ℕ) (host : HostState) → IsSound host → Tells host (steps.Left sock ∷ []) (end_socket sock host)
ends sock host s = ends_as (steps.Left sock) sock host (λ n stage. refl) (λ n stage. tt) s

pub ends_down : (sock : ℕ) (host : HostState) → IsSound host → Tells host (steps.Down sock ∷ []) (end_socket sock host)
ends_down sock host s = ends_as (steps.Down sock) sock host (λ n stage. refl) (λ n stage. tt) s

-- the next socket is dialed
pub dials_next : (end : ℕ) (peer : Address) (host : HostState) → IsSound host → Tells host (steps.Dial (2 * host.dials) end peer ∷ []) (with_socket (dialed (2 * host.dials) end peer) (record host { dials = host.dials + 1 }))
dials_next end peer host s = record {
  sound = record {
    apart = stored_apart new host.sockets s.apart;
    free = λ k l. find_stored new host.sockets (2 * k) ∙ ap (λ b. cond b (Some new) (find (is_socket (2 * k)) host.sockets)) (apart_numbers (2 * host.dials) (2 * k) (past host.dials k l)) ∙ s.free k (below host.dials k l);
    used = λ n socket f. by_used n socket (2 * host.dials == n) (sym (find_stored new host.sockets n) ∙ f);
  };
  stages = λ n. ap (option_map (λ (w : Socket). w.stage)) (find_stored new host.sockets n) ∙ by_stage n (2 * host.dials == n);
  new = λ n. (λ e. ap (option_map (λ (w : Socket). w.stage)) (subst (λ (m : ℕ). find (is_socket m) host.sockets ≡ None) (number_is (2 * host.dials) n e) (s.free host.dials (same_as host.dials))), tt);
  even = λ k. ap (λ b. cond b (Some Pending) None) (apart_numbers (2 * host.dials) (2 * k + 1) (odd host.dials k));
} where
  new : Socket
  new = dialed (2 * host.dials) end peer

  same_as : (n : ℕ) → n ≤ n
  same_as n = omega arith

  past : (d k : ℕ) → d + 1 ≤ k → 2 * d ≡ 2 * k → ⊥
  past d k l e = omega arith

  below : (d k : ℕ) → d + 1 ≤ k → d ≤ k
  below d k l = omega arith

  odd : (d k : ℕ) → 2 * d ≡ 2 * k + 1 → ⊥
  odd d k e = omega arith

  by_used : (n : ℕ) (socket : Socket) (b : Bool) → cond b (Some new) (find (is_socket n) host.sockets) ≡ Some socket → is_pending socket.stage ≡ true → is_some socket.user ≡ true
  by_used n socket true f = let is : new ≡ socket = cc in subst (λ (w : Socket). is_pending w.stage ≡ true → is_some w.user ≡ true) is (λ h. refl)
  by_used n socket false f = s.used n socket f

  by_stage : (n : ℕ) (b : Bool) → option_map (λ (w : Socket). w.stage) (cond b (Some new) (find (is_socket n) host.sockets)) ≡ cond b (Some Pending) (stage_at host n)
  by_stage n true = refl
  by_stage n false = refl
