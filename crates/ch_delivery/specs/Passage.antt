-- The passage from one node to another: what the sending node keeps, what is under way, and what the receiving node keeps.
use Rattle.std.specs.Prelude.{ℕ, nat_eq, Bool, true, false, ◌||◌, List, [], Option, Some, None}

-- A pair is a process of the sending node and a target at the receiving node; here it is a number, c or d. Its mark: no
-- connection is opened; one is; the link broke and nothing goes until the pair reconnects; or the sending process is over.
pub data Mark : Type 0 where
  Unopened : Mark
  Opened : Mark
  Broken : Mark
  Ended : Mark

-- What is written, in order: the connection of pair c and its epoch e is opened, with its opening message; it carries
-- the message of index k; it is closed.
pub data Item : Type 0 where
  Created : (c e : ℕ) → Item
  Message : (c e k : ℕ) → Item
  Closed : (c e : ℕ) → Item

-- What the receiving node knows of a connection, on the socket that it reads: nothing; nobody is there, and all on it
-- is dropped; or it leads to the pair's target.
pub data Binding : Type 0 where
  Unknown : Binding
  Void : Binding
  Bound : Binding

-- An entry of the log: pair c said the message k of epoch e; it was reconnected, and this is its new epoch; the message
-- was got, by process r or by nobody; the sending node's link came up on socket i, or broke; the receiving node's came up,
-- or broke; from here on these processes stand for the targets.
pub data Entry : Type 0 where
  Said : (c e k : ℕ) → Entry
  Again : (c e : ℕ) → Entry
  Got : (c e k : ℕ) (r : Option ℕ) → Entry
  Rose : (i : ℕ) → Entry
  Broke : Entry
  Came : (i : ℕ) → Entry
  Fell : Entry
  Stood : (f : ℕ → Option ℕ) → Entry

-- A passage. Of the sending node: which pairs have a name for their target; each pair's mark, epoch and next index; what
-- waits for its link; whether it is up, and on which socket it is or was last. Of each socket: what is written and
-- unread, and whether it is cut, so that nothing comes from it any more. Of the receiving node: which socket it is or was
-- up on last, what it knows of connections there, and who stands for each pair's target: a process or port's process
-- from when it is made until it is over, or who has the name. And the log, latest entry first.
pub record Passage : Type 0 where
  pub named : ℕ → Bool
  pub mark : ℕ → Mark
  pub epoch : ℕ → ℕ
  pub index : ℕ → ℕ
  pub waits : List Item
  pub up : Bool
  pub on : ℕ
  pub flight : ℕ → List Item
  pub cut : ℕ → Bool
  pub at : ℕ
  pub bound : ℕ → ℕ → Binding
  pub stands : ℕ → Option ℕ
  pub log : List Entry

-- Where a passage begins: nothing was said, no socket is there, and nobody stands for a target. Sockets are numbered from
-- 1; where a node was never up its last is 0, which is cut.
abbrev pub start : (ℕ → Bool) → Passage
start named = record {
  named = named;
  mark = λ c. Unopened;
  epoch = λ c. 0;
  index = λ c. 0;
  waits = [];
  up = false;
  on = 0;
  flight = λ i. [];
  cut = λ i. nat_eq i 0;
  at = 0;
  bound = λ c e. Unknown;
  stands = λ c. None;
  log = [];
}

-- somebody stands for it
abbrev pub is_some : Option ℕ → Bool
is_some None = false
is_some (Some r) = true

-- the target is there to send to: a name always, and else while its process is
abbrev pub is_there : Bool → Option ℕ → Bool
is_there name r = name || is_some r

-- the connection is known
abbrev pub is_known : Binding → Bool
is_known Unknown = false
is_known b = true

-- the connection leads to its target
abbrev pub is_bound : Binding → Bool
is_bound Bound = true
is_bound b = false
