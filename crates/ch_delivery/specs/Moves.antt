-- What may happen next, and what it leads to.
use Rattle.std.specs.Prelude.{◌≡◌, ◌<◌, ℕ, suc, nat_eq, Bool, true, false, cond, ◌&&◌, List, [], ◌∷◌, ◌++◌, Option}
use Rattle.ch_delivery.specs.Passage.{Mark, Unopened, Opened, Broken, Ended, Item, Created, Message, Closed, Binding, Unknown, Void, Bound, Entry, Said, Again, Got, Rose, Broke, Came, Fell, Stood, Passage, is_there}

-- One event at one of the two nodes, or on the way.
--   Say: the pair's process says a message. Reconnect: it reconnects the pair. Finish: it is over. Rise: the sending node
--   comes up on the socket. Break: its link fails. Shut: it is shut, with all its processes. Cut: what is on the socket is lost, and what will be. Come: the
--   receiving node comes up on the socket. Fall: its link fails. Read: it handles the first item there. Stand: processes
--   are made or over there, or names change hands, and from now on these stand for the targets
pub data Move : Type 0 where
  Say : (c : ℕ) → Move
  Reconnect : (c : ℕ) → Move
  Finish : (c : ℕ) → Move
  Rise : (i : ℕ) → Move
  Break : Move
  Shut : Move
  Cut : (i : ℕ) → Move
  Come : (i : ℕ) → Move
  Fall : Move
  Read : Move
  Stand : (f : ℕ → Option ℕ) → Move

-- f, with v at i
abbrev pub put : {T : Type 0} → ℕ → T → (ℕ → T) → ℕ → T
put i v f = λ j. cond (nat_eq j i) v (f j)

-- the entry is told
abbrev pub noted : Entry → Passage → Passage
noted entry p = record p { log = entry ∷ p.log }

-- pair c has this mark, epoch and next index
abbrev pub marked : ℕ → Mark → ℕ → ℕ → Passage → Passage
marked c m e k p = record p { mark = put c m p.mark; epoch = put c e p.epoch; index = put c k p.index }

-- what is unread after some more: nothing comes to an end that is cut
abbrev pub onto : Bool → List Item → List Item → List Item
onto true word items = word
onto false word items = word ++ items

-- the sending node writes: on its socket where it is up; and else it waits
abbrev pub written : Bool → List Item → Passage → Passage
written true items p = record p { flight = put p.on (onto (p.cut p.on) (p.flight p.on) items) p.flight }
written false items p = record p { waits = p.waits ++ items }

-- the sending node writes these items
abbrev pub write : List Item → Passage → Passage
write items p = written p.up items p

-- ---- what a sending process does, by its pair's mark

-- A message is said, and takes the next index: the first of an epoch opens the connection, and those of a broken pair go
-- nowhere. A process that is over says nothing.
abbrev pub say : Mark → ℕ → Passage → Passage
say Unopened c p = write (Created c (p.epoch c) ∷ Message c (p.epoch c) (p.index c) ∷ []) (noted (Said c (p.epoch c) (p.index c)) (marked c Opened (p.epoch c) (suc (p.index c)) p))
say Opened c p = write (Message c (p.epoch c) (p.index c) ∷ []) (noted (Said c (p.epoch c) (p.index c)) (marked c Opened (p.epoch c) (suc (p.index c)) p))
say Broken c p = noted (Said c (p.epoch c) (p.index c)) (marked c Broken (p.epoch c) (suc (p.index c)) p)
say Ended c p = p

-- The pair's next epoch begins. Its connection is closed, if one is open.
abbrev pub reconnect : Mark → ℕ → Passage → Passage
reconnect Opened c p = write (Closed c (p.epoch c) ∷ []) (noted (Again c (suc (p.epoch c))) (marked c Unopened (suc (p.epoch c)) 0 p))
reconnect Ended c p = p
reconnect m c p = noted (Again c (suc (p.epoch c))) (marked c Unopened (suc (p.epoch c)) 0 p)

-- The pair's process is over. Its connection is closed, if one is open.
abbrev pub finish : Mark → ℕ → Passage → Passage
finish Opened c p = write (Closed c (p.epoch c) ∷ []) (marked c Ended (p.epoch c) (p.index c) p)
finish m c p = marked c Ended (p.epoch c) (p.index c) p

-- ---- the sending node's link fails

-- an open pair is broken, but one with a name begins its next epoch, with no connection yet
abbrev pub mark_lost : Bool → Mark → Mark
mark_lost name Opened = cond name Unopened Broken
mark_lost name m = m

-- the epoch of a pair with this mark
abbrev pub epoch_lost : Bool → Mark → ℕ → ℕ
epoch_lost name Opened e = cond name (suc e) e
epoch_lost name m e = e

-- the next index of a pair with this mark
abbrev pub index_lost : Bool → Mark → ℕ → ℕ
index_lost name Opened k = cond name 0 k
index_lost name m k = k

-- what waits is dropped, and no open pair stays so
abbrev pub broken : Passage → Passage
broken p = noted Broke (record p {
  up = false;
  waits = [];
  mark = λ c. mark_lost (p.named c) (p.mark c);
  epoch = λ c. epoch_lost (p.named c) (p.mark c) (p.epoch c);
  index = λ c. index_lost (p.named c) (p.mark c) (p.index c);
})

-- the sending node is shut: what waits is dropped, and nothing is said any more
abbrev pub shut : Passage → Passage
shut p = record p { up = false; waits = []; mark = λ c. Ended }

-- ---- what the receiving node reads

-- a connection is bound so
abbrev pub bind : ℕ → ℕ → Binding → Passage → Passage
bind c e b p = record p { bound = λ d f. cond (nat_eq d c && nat_eq f e) b (p.bound d f) }

-- a connection leads to its target, if that is there
abbrev pub bound_to : Bool → Binding
bound_to true = Bound
bound_to false = Void

-- a message is got on a connection that is bound, and else dropped
abbrev pub got : Binding → ℕ → ℕ → ℕ → Passage → Passage
got Bound c e k p = noted (Got c e k (p.stands c)) p
got b c e k p = p

-- an item is handled
abbrev pub handle : Item → Passage → Passage
handle (Created c e) p = bind c e (bound_to (is_there (p.named c) (p.stands c))) p
handle (Message c e k) p = got (p.bound c e) c e k p
handle (Closed c e) p = bind c e Unknown p

-- the first item of what is unread is handled
abbrev pub read : List Item → Passage → Passage
read [] p = p
read (item ∷ rest) p = handle item (record p { flight = put p.at rest p.flight })

-- a connection whose target is there no more leads nowhere
abbrev pub kept_bound : Bool → Binding → Binding
kept_bound true b = b
kept_bound false Bound = Void
kept_bound false b = b

-- ---- the moves

-- the passage after the move
abbrev pub after : Move → Passage → Passage
after (Say c) p = say (p.mark c) c p
after (Reconnect c) p = reconnect (p.mark c) c p
after (Finish c) p = finish (p.mark c) c p
after (Rise i) p = noted (Rose i) (record p { up = true; on = i; flight = put i (onto (p.cut i) [] p.waits) p.flight; waits = [] })
after Break p = broken p
after Shut p = shut p
after (Cut i) p = record p { cut = put i true p.cut; flight = put i [] p.flight }
after (Come i) p = noted (Came i) (record p { at = i; bound = λ c e. Unknown })
after Fall p = noted Fell (record p { cut = put p.at true p.cut; flight = put p.at [] p.flight; bound = λ c e. Unknown })
after Read p = read (p.flight p.at) p
after (Stand f) p = noted (Stood f) (record p { stands = f; bound = λ c e. kept_bound (is_there (p.named c) (f c)) (p.bound c e) })

-- The move may happen: each node comes up on newer sockets only, and the sending node only while it is not up. All else
-- may happen at any time.
abbrev pub Allowed : Move → Passage → Type 0
Allowed (Rise i) p = (p.up ≡ false) × (p.on < i)
Allowed (Come i) p = p.at < i
Allowed m p = Unit {0}

-- what a move leads to, as `after` says or by other rules
abbrev pub Rules : Type 0
Rules = Move → Passage → Passage

-- the passage after the moves, by these rules
abbrev pub run_by : Rules → List Move → Passage → Passage
run_by rules [] p = p
run_by rules (m ∷ ms) p = run_by rules ms (rules m p)

-- the passage after the moves
abbrev pub run : List Move → Passage → Passage
run ms p = run_by after ms p

-- each move may happen after those before it, by these rules
abbrev pub AllAllowedBy : Rules → List Move → Passage → Type 0
AllAllowedBy rules [] p = Unit {0}
AllAllowedBy rules (m ∷ ms) p = Allowed m p × AllAllowedBy rules ms (rules m p)

-- each move may happen after those before it
abbrev pub AllAllowed : List Move → Passage → Type 0
AllAllowed ms p = AllAllowedBy after ms p
