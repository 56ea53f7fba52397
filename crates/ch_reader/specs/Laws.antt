-- The laws of streams, and of any list of feeds and takes.
use Rattle.std.specs.Prelude.{◌≡◌, ℕ, ◌≤◌, List, ◌++◌}
use Rattle.std.specs.List.{AllByRecursion}
use Rattle.ch_reader.specs.declared.item.Expected.{Expected}
use Rattle.ch_reader.specs.declared.item.Item.{Item}
use Rattle.ch_reader.specs.declared.item.ReaderError.{ReaderError}
use Rattle.ch_reader.specs.declared.item.Role.{Role}
use Rattle.ch_reader.specs.Items.{item_spelling, MayStand}
use Rattle.ch_reader.specs.Streams.{IsStream, IsMalformed}
use Rattle.ch_reader.specs.States.{Refuses, held}
use Rattle.ch_reader.specs.Runs.{Call, FeedsBytes, beginning, run, Accounts}

-- Of two items that may stand in the same place, neither's spelling begins the other's.
abbrev pub ItemsStandApart : Type 0
ItemsStandApart = (e : Expected) (i j : Item) (x y : List ℕ) → MayStand e i → MayStand e j → item_spelling i ++ x ≡ item_spelling j ++ y → (i ≡ j) × (x ≡ y)

-- a text is a stream of one list of items at most, with one rest
abbrev pub StreamIsOne : Type 0
StreamIsOne = (role : Role) (bytes : List ℕ) (items others : List Item) (rest left : List ℕ) → IsStream role bytes items rest → IsStream role bytes others left → (items ≡ others) × (rest ≡ left)

-- a malformed text has one refusal
abbrev pub RefusalIsOne : Type 0
RefusalIsOne = (role : Role) (bytes : List ℕ) (error other : ReaderError) → IsMalformed role bytes error → IsMalformed role bytes other → error ≡ other

-- no text is a stream and malformed
abbrev pub NeverBoth : Type 0
NeverBoth = (role : Role) (bytes : List ℕ) (items : List Item) (rest : List ℕ) (error : ReaderError) → IsStream role bytes items rest → IsMalformed role bytes error → ⊥

-- After any feeds and takes the bytes taken are a stream of the items handed out, of the one that waits, and of the bytes since; or they are malformed, with the refusal that stands.
abbrev pub RunsAreAccounted : Type 0
RunsAreAccounted = (role : Role) (calls : List Call) → AllByRecursion FeedsBytes calls → let p = run (beginning role) calls in Accounts role p.bytes p.items p.state

-- a refusal stands wherever the bytes taken are malformed
abbrev pub RefusesWhereMalformed : Type 0
RefusesWhereMalformed = (role : Role) (calls : List Call) → AllByRecursion FeedsBytes calls → (error : ReaderError) → let p = run (beginning role) calls in IsMalformed role p.bytes error → p.state ≡ Refuses error

-- a reader never holds more than two words and a payload
abbrev pub HoldsLittle : Type 0
HoldsLittle = (role : Role) (calls : List Call) → held (run (beginning role) calls).state ≤ 65544
