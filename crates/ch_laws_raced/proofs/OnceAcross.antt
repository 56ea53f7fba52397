-- By the machine of a quiet pair: where an end is up and has a frame to read, the end across is up.
use Rattle.std.proofs.Common.{◌≡◌, ℕ, Bool, true, false, List, [], ◌∷◌, refl, sym, ◌∙◌}
use Rattle.ch_reader.specs.declared.item.Expected.{Expected}
use Rattle.ch_reader.specs.declared.item.Expected.TheVariants as expected
use Rattle.ch_model.specs.declared.name.End.{End}
use Rattle.ch_model.specs.declared.name.End.TheVariants.{O, T}
use Rattle.ch_model.specs.Same.{across}
use Rattle.ch_model.specs.Stages.{Stage, Pending, Open, Ended}
use Rattle.ch_race.specs.Invariant.{Invariant}
use Rattle.ch_race.specs.Pair as pair
use Rattle.ch_race.specs.Pair.{Side, other, OEnd, OPending, OAsking, OUp, OEnded, TEnd, TPending, TOpen, TUp, TEnded, Sock, Pair}
use Rattle.ch_race.specs.Quiet.{Fits}
use Rattle.ch_race.specs.Words.{In_t, Phase, UnlessCut}
use Rattle.ch_laws_race.specs.View.{opener_end, target_end}
use Rattle.ch_laws_race.proofs.Readings.{IsUp, unread}

-- the target of an opener's end that is up
target_up : (D U : Type 0) (x : Side) (w : List pair.Item) (o : OEnd) (t : TEnd) → o ≡ OUp → Phase o t → Fits D U x w o t → t ≡ TUp
target_up D U x w OUp TUp up phase fits = refl
target_up D U x w OUp TPending up phase fits = absurd phase
target_up D U x w OUp TOpen up phase fits = absurd phase
target_up D U x w OUp TEnded up phase fits = absurd fits
target_up D U x w OPending t up phase fits = absurd cc
target_up D U x w OAsking t up phase fits = absurd cc
target_up D U x w OEnded t up phase fits = absurd cc

-- where the opener hasn't read its answer nothing is written towards a target that is up
asking_wrote : (down cut : Bool) (w : List pair.Item) → UnlessCut cut w (In_t OAsking TUp down w) → w ≡ []
asking_wrote down true w word = word
asking_wrote down false w word = word

-- the opener of a target's end that is up, and has something to read
opener_up : (D U : Type 0) (x : Side) (word : List pair.Item) (o : OEnd) (t : TEnd) (down cut : Bool) (item : pair.Item) (w rest : List pair.Item) → t ≡ TUp → Phase o t → Fits D U x word o t → UnlessCut cut w (In_t o t down w) → w ≡ item ∷ rest → o ≡ OUp
opener_up D U x word OUp TUp down cut item w rest up phase fits unread first = refl
opener_up D U x word OPending TUp down cut item w rest up phase fits unread first = absurd phase
opener_up D U x word OAsking TUp down cut item w rest up phase fits unread first = let none : [] ≡ item ∷ rest = sym (asking_wrote down cut w unread) ∙ first in absurd cc
opener_up D U x word OEnded TUp down cut item w rest up phase fits unread first = absurd fits
opener_up D U x word o TPending down cut item w rest up phase fits unread first = absurd cc
opener_up D U x word o TOpen down cut item w rest up phase fits unread first = absurd cc
opener_up D U x word o TEnded down cut item w rest up phase fits unread first = absurd cc

-- so it is of a pair that comes about by moves, while nothing was lost
pub across_up : (v : Pair) → Invariant v → v.quiet ≡ true → (e : End) (i : ℕ) (item : pair.Item) (rest : List pair.Item) → IsUp e (v.sock i) → unread e (v.sock i) ≡ item ∷ rest → IsUp (across e) (v.sock i)
across_up v so quiet O i item rest up first = target_up _ _ (v.sock i).opener (v.sock i).in_o (v.sock i).o (v.sock i).t up (so.words i).phase ((so.quieted quiet).socks i).fits
across_up v so quiet T i item rest up first = opener_up _ _ (v.sock i).opener (v.sock i).in_o (v.sock i).o (v.sock i).t (v.shut (v.sock i).opener) (v.sock i).cut_t item (v.sock i).in_t rest up (so.words i).phase ((so.quieted quiet).socks i).fits (so.words i).word_t first

-- ---- an end that is up

pub opener_stands : (stage : Stage) (x : Expected) → opener_end stage x ≡ OUp → (stage ≡ Open) × (x ≡ expected.Frame)
opener_stands Pending x e = absurd cc
opener_stands Ended x e = absurd cc
opener_stands Open expected.Request e = absurd cc
opener_stands Open expected.Answer e = absurd cc
opener_stands Open expected.Frame e = (refl, refl)

pub target_stands : (there : Bool) (stage : Stage) (x : Expected) → target_end there stage x ≡ TUp → (stage ≡ Open) × (x ≡ expected.Frame)
target_stands false stage x e = absurd cc
target_stands true Pending x e = absurd cc
target_stands true Ended x e = absurd cc
target_stands true Open expected.Request e = absurd cc
target_stands true Open expected.Answer e = absurd cc
target_stands true Open expected.Frame e = (refl, refl)
