-- Breaks: a link fails only where something was lost, or the peer is shut or isn't there.
use Rattle.std.specs.Prelude.{ℕ, Bool, true, false, not, ◌&&◌, ◌||◌, List, ◌++◌, IsTrue, is_some}
use Rattle.std.specs.List.{list_any}
use Rattle.std.specs.Str.{bytes_eq}
use Rattle.ch_base.specs.declared.event.Why.TheVariants as whys
use Rattle.ch_model.specs.declared.entry.Entry.{Entry}
use Rattle.ch_model.specs.declared.entry.Entry.TheVariants as entries
use Rattle.ch_model.specs.declared.line.Line.{Line}
use Rattle.ch_model.specs.declared.line.What.{What}
use Rattle.ch_model.specs.declared.line.What.TheVariants as lines
use Rattle.ch_model.specs.Same.{is_between}
use Rattle.ch_model.specs.Logs.{each, since, until, from_first}
use Rattle.ch_model.specs.Declarations.{is_node}
use Rattle.ch_model.specs.Marks.{does}
use Rattle.ch_model.specs.Epochs.{breaks}
use Rattle.ch_model.specs.Life.{is_shut}
use Rattle.ch_model.specs.Links.{risen_with, dials_to}

-- the line is trouble for this pair of nodes: a loss, a refusal or a cut on a socket of theirs, or a timer of one for the other
abbrev pub is_trouble : List ℕ → List ℕ → What → Bool
is_trouble x y (lines.Lose sock end) = is_between x y sock
is_trouble x y (lines.Refuse sock) = is_between x y sock
is_trouble x y (lines.Cut sock end) = is_between x y sock
is_trouble x y (lines.Late node peer) = bytes_eq node x && bytes_eq peer y || bytes_eq node y && bytes_eq peer x
is_trouble x y what = false

-- trouble of the pair was done in this part of a log
abbrev pub Trouble : List Line → List ℕ → List ℕ → List Entry → Bool
Trouble journal x y part = list_any (does journal (is_trouble x y)) part

-- the entry ends a settle
abbrev pub is_settled : Entry → Bool
is_settled entries.Settled = true
is_settled entry = false

-- no trouble of the pair since the last settled before the first entry that passes the test, up to the log's end
abbrev pub is_untroubled_from : List Line → List ℕ → List ℕ → (Entry → Bool) → List Entry → Bool
is_untroubled_from journal x y test log = not (Trouble journal x y (since is_settled (until test log) ++ from_first test log))

-- since its last break with y, x has dialed it or come up on a socket of the pair
abbrev pub has_begun : List Entry → List ℕ → List ℕ → Bool
has_begun log x y = list_any (λ entry. dials_to x y entry || is_some (risen_with x y entry)) (since (breaks x y) log)

-- the peer is shut, or is no node of the journal
abbrev pub is_away : List Line → List Entry → List ℕ → Bool
is_away journal log y = is_shut log y || not (is_node journal y)

-- the node that breaks is a node of the journal, and isn't shut
abbrev pub breaks_as_node : List Line → List Entry → Entry → Bool
breaks_as_node journal log (entries.Broke node peer why) = is_node journal node && not (is_shut log node)
breaks_as_node journal log entry = true

-- what breaks has begun
abbrev pub breaks_begun : List Entry → Entry → Bool
breaks_begun log (entries.Broke node peer why) = has_begun log node peer
breaks_begun log entry = true

-- there was trouble since the last settled, or the peer is away
abbrev pub breaks_licensed : List Line → List Entry → Entry → Bool
breaks_licensed journal log (entries.Broke node peer why) = Trouble journal node peer (since is_settled log) || is_away journal log peer
breaks_licensed journal log entry = true

-- a break because the peer is down: it is away
abbrev pub breaks_truly_down : List Line → List Entry → Entry → Bool
breaks_truly_down journal log (entries.Broke node peer whys.NodeDown) = is_away journal log peer
breaks_truly_down journal log entry = true

-- each break is licensed after the log before it
pub record HasLicensedBreaks (journal : List Line) (log : List Entry) : Type 0 where
  pub of_a_node : IsTrue (each (breaks_as_node journal) log)
  pub of_a_begun : IsTrue (each breaks_begun log)
  pub licensed : IsTrue (each (breaks_licensed journal) log)
  pub truly_down : IsTrue (each (breaks_truly_down journal) log)
