-- The parts of what a host does, by what they read.
use Rattle.std.proofs.Common.{◌≡◌, ◌≤◌, ℕ, suc, ◌+◌, ◌*◌, Bool, true, false, cond, List, [], ◌∷◌, ◌++◌, length, map, drop, Ok, Err, refl, sym, ap, ◌∙◌, subst, arith, length-append}
use Rattle.std.specs.Prelude.{find, is_some, Option, Some, None, ◌==◌}
use Rattle.ch_base.specs.declared.address.Address.{Address}
use Rattle.ch_wire.specs.declared.frame.Frame.{Frame}
use Rattle.ch_reader.specs.Reading.{reading}
use Rattle.ch_reader.specs.declared.item.Expected.{Expected}
use Rattle.ch_reader.specs.declared.item.Expected.TheVariants as expected
use Rattle.ch_reader.specs.declared.item.Front.{Front}
use Rattle.ch_reader.specs.declared.item.Front.TheVariants.{Unfinished, Whole}
use Rattle.ch_reader.specs.declared.item.Item.{Item}
use Rattle.ch_model.specs.declared.step.Step.{Step}
use Rattle.ch_model.specs.declared.step.Step.TheVariants as steps
use Rattle.ch_model.specs.declared.step.Weight.{Weight}
use Rattle.ch_model.specs.HostLinks.{dialed}
use Rattle.ch_model.specs.HostState.{Socket, HostState}
use Rattle.ch_model.specs.HostSteps.{Stepped, after_steps, ◌then◌, is_socket, with_socket}
use Rattle.ch_model.specs.HostWrites.{frame_step, ended_in, end_socket}
use Rattle.ch_model.specs.Stages.{Stage, Ended, is_pending, is_ended}
use Rattle.ch_laws_log.specs.HostEnds.{IsSound}
use Rattle.ch_laws_log.proofs.HostTold as told
use Rattle.ch_laws_log.proofs.HostTold.{number_found, find_stored}
use Rattle.ch_laws_items.proofs.Sockets.{number_is}
use Rattle.ch_laws_reads.specs.Reads.{AreRead, reads_of, HasRead, GoesOn, IsKept, IsFresh, Reads, AllRead}

-- ---- items one after another

pub reads_append : (n : ℕ) (xs ys : List Step) → reads_of n (xs ++ ys) ≡ reads_of n xs + reads_of n ys
reads_append n [] ys = omega arith
reads_append n (steps.Read sock ∷ xs) ys = by_test (sock == n) (reads_append n xs ys) where
  by_test : (b : Bool) → reads_of n (xs ++ ys) ≡ reads_of n xs + reads_of n ys → cond b (suc (reads_of n (xs ++ ys))) (reads_of n (xs ++ ys)) ≡ cond b (suc (reads_of n xs)) (reads_of n xs) + reads_of n ys
  by_test true e = omega (arith, e)
  by_test false e = e
reads_append n (x ∷ xs) ys = reads_append n xs ys

read_on : (e mid last : Expected) (bytes left rest : List ℕ) (xs ys : List Item) → AreRead e bytes xs mid left → AreRead mid left ys last rest → AreRead e bytes (xs ++ ys) last rest
read_on e mid last bytes left rest [] ys a b = subst (λ (k : Expected). AreRead k bytes ys last rest) a.0 (subst (λ (l : List ℕ). AreRead mid l ys last rest) a.1 b)
read_on e mid last bytes left rest (x ∷ xs) ys a b = (a.0, read_on expected.Frame mid last (drop (reading e bytes).1 bytes) left rest xs ys a.1 b)

-- nothing was read
pub nothing_read : (before after : Socket) → after.expected ≡ before.expected → after.since ≡ before.since → HasRead 0 before after
nothing_read before after e s = record { items = []; many = refl; front = (e, s) }

not_over : (before after : Socket) → (is_ended before.stage ≡ true → is_ended after.stage ≡ true) → is_ended after.stage ≡ false → is_ended before.stage ≡ false
not_over before after o f = by_test (is_ended before.stage) refl where
  by_test : (b : Bool) → is_ended before.stage ≡ b → b ≡ false
  by_test true e = sym (o e) ∙ f
  by_test false e = refl

goes_onward : (a b : ℕ) (one two three : Socket) → GoesOn a one two → GoesOn b two three → GoesOn (a + b) one three
goes_onward a b one two three p q = record { over = λ e. q.over (p.over e); read = λ f. both (p.read (not_over two three q.over f)) (q.read f) } where
  both : HasRead a one two → HasRead b two three → HasRead (a + b) one three
  both r s = record {
    items = r.items ++ s.items;
    many = length-append r.items s.items ∙ ap (λ k. k + length s.items) r.many ∙ ap (λ k. a + k) s.many;
    front = read_on one.expected two.expected three.expected one.since two.since three.since r.items s.items r.front s.front;
  }

-- of no bytes no answer is read
fresh_on : (count : ℕ) (two three : Socket) → (is_ended two.stage ≡ false → (two.expected ≡ expected.Answer) × (two.since ≡ [])) → GoesOn count two three → is_ended three.stage ≡ false → (three.expected ≡ expected.Answer) × (three.since ≡ [])
fresh_on count two three new g f = of (new (not_over two three g.over f)) (g.read f) where
  none_of : (items : List Item) → AreRead expected.Answer [] items three.expected three.since → (three.expected ≡ expected.Answer) × (three.since ≡ [])
  none_of [] r = r
  none_of (item ∷ items) r = let never : ◌≡◌ {A = Front} Unfinished (Whole item) = r.0 in absurd cc

  of : (two.expected ≡ expected.Answer) × (two.since ≡ []) → HasRead count two three → (three.expected ≡ expected.Answer) × (three.since ≡ [])
  of is r = none_of r.items (subst (λ (l : List ℕ). AreRead expected.Answer l r.items three.expected three.since) is.1 (subst (λ (e : Expected). AreRead e two.since r.items three.expected three.since) is.0 r.front))

-- ---- one thing and then another

pub onward : (one two three : HostState) (xs ys : List Step) → Reads one xs two → Reads two ys three → Reads one (xs ++ ys) three
onward one two three xs ys a b = record {
  sound = b.sound;
  known = λ n socket e. subst (λ (k : ℕ). IsKept k socket (find (is_socket n) three.sockets)) (sym (reads_append n xs ys)) (by_two n socket (find (is_socket n) two.sockets) refl (a.known n socket e));
  fresh = λ n e. by_new n (find (is_socket n) two.sockets) refl (a.fresh n e);
} where
  by_three : (n : ℕ) (socket two_socket : Socket) (o : Option Socket) → GoesOn (reads_of n xs) socket two_socket → IsKept (reads_of n ys) two_socket o → IsKept (reads_of n xs + reads_of n ys) socket o
  by_three n socket two_socket None p q = q
  by_three n socket two_socket (Some three_socket) p q = goes_onward (reads_of n xs) (reads_of n ys) socket two_socket three_socket p q

  by_two : (n : ℕ) (socket : Socket) (o : Option Socket) → find (is_socket n) two.sockets ≡ o → IsKept (reads_of n xs) socket o → IsKept (reads_of n xs + reads_of n ys) socket (find (is_socket n) three.sockets)
  by_two n socket None e k = absurd k
  by_two n socket (Some two_socket) e k = by_three n socket two_socket (find (is_socket n) three.sockets) k (b.known n two_socket e)

  by_later : (n : ℕ) (two_socket : Socket) (o : Option Socket) → (is_ended two_socket.stage ≡ false → (two_socket.expected ≡ expected.Answer) × (two_socket.since ≡ [])) → IsKept (reads_of n ys) two_socket o → IsFresh o
  by_later n two_socket None new k = tt
  by_later n two_socket (Some three_socket) new k = fresh_on (reads_of n ys) two_socket three_socket new k

  by_new : (n : ℕ) (o : Option Socket) → find (is_socket n) two.sockets ≡ o → IsFresh o → IsFresh (find (is_socket n) three.sockets)
  by_new n None e f = b.fresh n e
  by_new n (Some two_socket) e f = by_later n two_socket (find (is_socket n) three.sockets) f (b.known n two_socket e)

pub chained : (host : HostState) (done : Stepped) (f : HostState → Stepped) → AllRead host done → ((next : HostState) → AllRead next (f next)) → AllRead host (done then f)
chained host (Ok done) f a g = from (f done.1) (g done.1) where
  from : (more : Stepped) → AllRead done.1 more → AllRead host (after_steps done.0 more)
  from (Ok more) b = λ sound. let one = a sound in onward host done.1 more.1 done.0 more.0 one (b one.sound)
  from (Err stop) b = tt
chained host (Err stop) f a g = tt

-- what follows a host that is as another
pub from_told : (one two : HostState) (done : Stepped) → (IsSound one → Reads one [] two) → AllRead two done → AllRead one done
from_told one two (Ok done) k f = λ sound. let first = k sound in onward one two done.1 [] done.0 first (f first.sound)
from_told one two (Err stop) k f = tt

-- ---- what changes no socket

pub unread : (socket : Socket) → GoesOn 0 socket socket
unread socket = record { over = λ e. e; read = λ f. nothing_read socket socket refl refl }

-- where the sockets and the dials are the same
pub same : (before after : HostState) → after.sockets ≡ before.sockets → after.dials ≡ before.dials → IsSound before → Reads before [] after
same before after e d s = let t = told.same before after e d s in record {
  sound = t.sound;
  known = λ n socket f. subst (λ (o : Option Socket). IsKept 0 socket o) (sym (ap (λ (sockets : List Socket). find (is_socket n) sockets) e ∙ f)) (unread socket);
  fresh = λ n f. subst IsFresh (sym (ap (λ (sockets : List Socket). find (is_socket n) sockets) e ∙ f)) tt;
}

pub at_rest : (host : HostState) → IsSound host → Reads host [] host
at_rest host s = same host host refl refl s

-- a step by which nothing is read
abbrev pub IsPlain : Step → Type 0
IsPlain (steps.Read sock) = ⊥
IsPlain step = Unit {0}

plain_reads : (n : ℕ) (step : Step) (told : List Step) → IsPlain step → reads_of n (step ∷ told) ≡ reads_of n told
plain_reads n (steps.Read sock) told p = absurd p
plain_reads n step told p = refl

pub plain_first : (step : Step) → IsPlain step → (before after : HostState) (told : List Step) → Reads before told after → Reads before (step ∷ told) after
plain_first step p before after told t = record {
  sound = t.sound;
  known = λ n socket f. subst (λ (k : ℕ). IsKept k socket (find (is_socket n) after.sockets)) (sym (plain_reads n step told p)) (t.known n socket f);
  fresh = t.fresh;
}

pub frames_first : (sock : ℕ) (items : List (Frame × Weight)) (before after : HostState) → Reads before [] after → Reads before (map (frame_step sock) items) after
frames_first sock [] before after t = t
frames_first sock (item ∷ items) before after t = plain_first (frame_step sock item) tt before after (map (frame_step sock) items) (frames_first sock items before after t)

-- ---- what changes a socket

-- a socket is kept in place of another, which goes on to it
pub stores : (told : List Step) (new old : Socket) (host : HostState) → find (is_socket new.number) host.sockets ≡ Some old → IsSound (with_socket new host) → GoesOn (reads_of new.number told) old new → ((n : ℕ) → (new.number == n) ≡ false → reads_of n told ≡ 0) → Reads host told (with_socket new host)
stores told new old host found sound goes others = record {
  sound = sound;
  known = λ n socket f. subst (λ (o : Option Socket). IsKept (reads_of n told) socket o) (sym (find_stored new host.sockets n)) (by_known n socket f (new.number == n) refl);
  fresh = λ n f. subst IsFresh (sym (find_stored new host.sockets n)) (by_fresh n f (new.number == n) refl);
} where
  by_known : (n : ℕ) (socket : Socket) → find (is_socket n) host.sockets ≡ Some socket → (b : Bool) → (new.number == n) ≡ b → IsKept (reads_of n told) socket (cond b (Some new) (find (is_socket n) host.sockets))
  by_known n socket f true e =
      let at : find (is_socket n) host.sockets ≡ Some old = subst (λ (m : ℕ). find (is_socket m) host.sockets ≡ Some old) (number_is new.number n e) found in
      let is : old ≡ socket = cc in
      subst (λ (w : Socket). GoesOn (reads_of n told) w new) is (subst (λ (m : ℕ). GoesOn (reads_of m told) old new) (number_is new.number n e) goes)
  by_known n socket f false e = subst (λ (o : Option Socket). IsKept (reads_of n told) socket o) (sym f) (subst (λ (k : ℕ). GoesOn k socket socket) (sym (others n e)) (unread socket))

  by_fresh : (n : ℕ) → find (is_socket n) host.sockets ≡ None → (b : Bool) → (new.number == n) ≡ b → IsFresh (cond b (Some new) (find (is_socket n) host.sockets))
  by_fresh n f true e =
      let at : find (is_socket n) host.sockets ≡ Some old = subst (λ (m : ℕ). find (is_socket m) host.sockets ≡ Some old) (number_is new.number n e) found in absurd cc
  by_fresh n f false e = subst IsFresh (sym f) tt

-- a socket is kept in place of one that stands as it does, and of which as much is read
pub keeps : (new old : Socket) (host : HostState) → find (is_socket new.number) host.sockets ≡ Some old → new.stage ≡ old.stage → (is_pending new.stage ≡ true → is_some new.user ≡ true) → new.expected ≡ old.expected → new.since ≡ old.since → IsSound host → Reads host [] (with_socket new host)
keeps new old host found stage user kind since s = stores [] new old host found (told.keeps new old host found stage user s).sound
    (record { over = λ e. subst (λ (x : Stage). is_ended x ≡ true) (sym stage) e; read = λ f. nothing_read old new kind since }) (λ n e. refl)

-- an end is over
over_at : (sock : ℕ) (host : HostState) → (step : Step) → IsPlain step → IsSound host → IsSound (end_socket sock host) → Reads host (step ∷ []) (end_socket sock host)
over_at sock host step p s sound = plain_first step p host (end_socket sock host) [] (by_socket (find (is_socket sock) host.sockets) refl sound) where
  over : Socket → Socket
  over socket = record socket { stage = Ended; since = [] }

  by_socket : (o : Option Socket) → find (is_socket sock) host.sockets ≡ o → IsSound (ended_in o host) → Reads host [] (ended_in o host)
  by_socket None e sound = at_rest host s
  by_socket (Some socket) e sound = stores [] (over socket) socket host (subst (λ (n : ℕ). find (is_socket n) host.sockets ≡ Some socket) (sym (number_found sock host.sockets socket e)) e) sound
      (record { over = λ e. refl; read = λ f. absurd (never f) }) (λ n e. refl) where
        never : ◌≡◌ {A = Bool} true false → ⊥
        never f = absurd cc

pub ends : (sock : ℕ) (host : HostState) → IsSound host → Reads host (steps.Left sock ∷ []) (end_socket sock host)
ends sock host s = let t = told.ends sock host s in over_at sock host (steps.Left sock) tt s t.sound

pub ends_down : (sock : ℕ) (host : HostState) → IsSound host → Reads host (steps.Down sock ∷ []) (end_socket sock host)
ends_down sock host s = let t = told.ends_down sock host s in over_at sock host (steps.Down sock) tt s t.sound

-- the next socket is dialed
pub dials_next : (end : ℕ) (peer : Address) (host : HostState) → IsSound host → Reads host (steps.Dial (2 * host.dials) end peer ∷ []) (with_socket (dialed (2 * host.dials) end peer) (record host { dials = host.dials + 1 }))
dials_next end peer host s = let t = told.dials_next end peer host s in record {
  sound = t.sound;
  known = λ n socket f. subst (λ (o : Option Socket). IsKept 0 socket o) (sym (find_stored new host.sockets n)) (by_known n socket f (new.number == n) refl);
  fresh = λ n f. subst IsFresh (sym (find_stored new host.sockets n)) (by_fresh n f (new.number == n));
} where
  new : Socket
  new = dialed (2 * host.dials) end peer

  same_as : (n : ℕ) → n ≤ n
  same_as n = omega arith

  by_known : (n : ℕ) (socket : Socket) → find (is_socket n) host.sockets ≡ Some socket → (b : Bool) → (2 * host.dials == n) ≡ b → IsKept 0 socket (cond b (Some new) (find (is_socket n) host.sockets))
  by_known n socket f true e = let none : find (is_socket n) host.sockets ≡ None = subst (λ (m : ℕ). find (is_socket m) host.sockets ≡ None) (number_is (2 * host.dials) n e) (s.free host.dials (same_as host.dials)) in absurd cc
  by_known n socket f false e = subst (λ (o : Option Socket). IsKept 0 socket o) (sym f) (unread socket)

  by_fresh : (n : ℕ) → find (is_socket n) host.sockets ≡ None → (b : Bool) → IsFresh (cond b (Some new) (find (is_socket n) host.sockets))
  by_fresh n f true = λ e. (refl, refl)
  by_fresh n f false = subst IsFresh (sym f) tt
