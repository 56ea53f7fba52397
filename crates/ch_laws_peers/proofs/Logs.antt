-- The log of each journal of many nodes: all its dials are between two of its nodes, and what follows of that.
use Rattle.std.proofs.Common.{◌≡◌, ℕ, ◌+◌, ◌&&◌, true, List, [], ◌∷◌, ◌++◌, take, Ok, Err, refl, ap, ◌∙◌, subst}
use Rattle.std.proofs.lemmas.List.{append-nil}
use Rattle.std.specs.List.{list_all}
use Rattle.ch_model.specs.declared.entry.Entry.{Entry}
use Rattle.ch_model.specs.declared.line.Line.{Line}
use Rattle.ch_model.specs.declared.line.What.{What}
use Rattle.ch_model.specs.declared.line.What.TheVariants as lines
use Rattle.ch_model.specs.declared.name.TargetName.TheVariants as targets
use Rattle.ch_model.specs.Journal.{raw_lines, longest_journal, journal_of}
use Rattle.ch_model.specs.LinesBuilt.{many_nodes}
use Rattle.ch_model.specs.Settle.{Happened}
use Rattle.ch_model.specs.World.{◌>>=◌, names_of, world_new, log_from, log_of}
use Rattle.ch_model.specs.WorldState.{Named, World}
use Rattle.ch_laws_accounts.proofs.ReadAddresses.{all_addresses}
use Rattle.ch_laws_log.specs.Lines.{AllLines}
use Rattle.ch_laws_many.specs.ManyLines.{is_of_many}
use Rattle.ch_laws_many.proofs.Declared.{names_apart}
use Rattle.ch_laws_many.proofs.Journals.{is_journal}
use Rattle.ch_laws_plain_logs.specs.Plain.{is_plain_line, HasPlainLines, PlainlyLawful}
use Rattle.ch_laws_plain_logs.proofs.Lawful.{plainly_lawful}
use Rattle.ch_laws_peers.specs.Standing.{IsOfNodes, Standing}
use Rattle.ch_laws_peers.specs.Fair.{IsFair}
use Rattle.ch_laws_peers.proofs.Together.{all_stand}

-- ---- the journal

pub of_nodes : (bytes : List ℕ) → IsOfNodes (journal_of many_nodes bytes)
of_nodes bytes = record { is = is_journal bytes; apart = names_apart (raw_lines (take (longest_journal + 1) bytes)); addresses = all_addresses (raw_lines (take (longest_journal + 1) bytes)) }

-- a line of many nodes is plain
line_plain : (known : List Named) (what : What) → is_of_many known what ≡ true → is_plain_line what ≡ true
line_plain known (lines.Node name address unique) e = refl
line_plain known (lines.Away name address unique) e = absurd cc
line_plain known (lines.Label node label) e = absurd cc
line_plain known (lines.Stranger name host) e = absurd cc
line_plain known (lines.Proc node) e = refl
line_plain known (lines.Send by (targets.Process to) mark body) e = refl
line_plain known (lines.Send by (targets.Port to port) mark body) e = absurd cc
line_plain known (lines.Send by (targets.Named node name) mark body) e = absurd cc
line_plain known (lines.Nsend by to mark body) e = absurd cc
line_plain known (lines.Again by to) e = absurd cc
line_plain known (lines.Recv by mark) e = refl
line_plain known (lines.Port by) e = absurd cc
line_plain known (lines.Take by port) e = absurd cc
line_plain known (lines.End by) e = refl
line_plain known (lines.Fail by text) e = absurd cc
line_plain known (lines.Fall by) e = absurd cc
line_plain known (lines.Monitor by target) e = absurd cc
line_plain known (lines.Link by target) e = absurd cc
line_plain known (lines.Unwatch by watch) e = absurd cc
line_plain known (lines.Exit by target text) e = absurd cc
line_plain known (lines.Kill by target text) e = absurd cc
line_plain known (lines.Spawn by at label args) e = absurd cc
line_plain known (lines.Register by name) e = absurd cc
line_plain known (lines.Unregister by name) e = absurd cc
line_plain known (lines.Whereis by at name) e = absurd cc
line_plain known (lines.Shut node) e = absurd cc
line_plain known (lines.Join sock) e = refl
line_plain known (lines.Come sock) e = refl
line_plain known (lines.Refuse sock) e = absurd cc
line_plain known (lines.Feed sock end count) e = refl
line_plain known (lines.Cut sock end) e = absurd cc
line_plain known (lines.Lose sock end) e = absurd cc
line_plain known (lines.Late node peer) e = absurd cc
line_plain known (lines.Knock stranger node) e = absurd cc
line_plain known (lines.Poke sock bytes) e = absurd cc
line_plain known (lines.Quit sock) e = absurd cc
line_plain known lines.Settle e = absurd cc

all_plain : (known : List Named) (journal : List Line) → AllLines (is_of_many known) journal → HasPlainLines journal
all_plain known [] a = refl
all_plain known (line ∷ rest) a = ap (λ b. b && list_all (λ (l : Line). is_plain_line l.what) rest) (line_plain known line.what a.0) ∙ all_plain known rest a.1

pub plain_lines : (bytes : List ℕ) → HasPlainLines (journal_of many_nodes bytes)
plain_lines bytes = all_plain (names_of (journal_of many_nodes bytes)) (journal_of many_nodes bytes) (is_journal bytes).lines

-- ---- after any lines, and after all

pub many_stand : (bytes : List ℕ) (front rest : List Line) → front ++ rest ≡ journal_of many_nodes bytes → (log : List Entry) (world : World) → log_from (world_new (journal_of many_nodes bytes)) front ≡ Ok (log, world) → Standing (journal_of many_nodes bytes) log world
many_stand bytes front rest whole log world is = all_stand (journal_of many_nodes bytes) (of_nodes bytes) front rest whole log world is

pub fair_of : (journal : List Line) (log : List Entry) (world : World) → HasPlainLines journal → Standing journal log world → IsFair journal log
fair_of journal log world lines s = record {
  one_live_socket = s.lively.has.one;
  bundle = s.lively.has.bundle;
  up_alone = s.lively.has.alone;
  dial_while_down = s.lively.has.down;
  dial_once = s.once.once;
  breaks = plainly.breaks;
  notices = plainly.notices;
  references = plainly.references;
  names = plainly.names;
  whole = plainly.whole;
  dooms_live = plainly.dooms_live;
  dooms_caused = plainly.dooms_caused;
  from_ports = plainly.from_ports;
  settled_last = plainly.settled_last;
  settle_feeds_all = plainly.settle_feeds_all;
} where
  plainly : PlainlyLawful journal log
  plainly = plainly_lawful journal log lines s.kinds

-- of the log after any lines
pub fair_front : (bytes : List ℕ) (front rest : List Line) → front ++ rest ≡ journal_of many_nodes bytes → (log : List Entry) (world : World) → log_from (world_new (journal_of many_nodes bytes)) front ≡ Ok (log, world) → IsFair (journal_of many_nodes bytes) log
fair_front bytes front rest whole log world is = fair_of (journal_of many_nodes bytes) log world (plain_lines bytes) (many_stand bytes front rest whole log world is)

-- whatever is so after all lines is so of the log
pub by_log : (bytes : List ℕ) (P : List Entry → Type 0) → ((log : List Entry) (world : World) → Standing (journal_of many_nodes bytes) log world → P log) → (log : List Entry) → log_of (journal_of many_nodes bytes) ≡ Ok log → P log
by_log bytes P gives log is = by_done (log_from (world_new (journal_of many_nodes bytes)) (journal_of many_nodes bytes)) refl is where
  by_done : (done : Happened) → log_from (world_new (journal_of many_nodes bytes)) (journal_of many_nodes bytes) ≡ done → (done >>= λ done. Ok done.0) ≡ Ok log → P log
  by_done (Ok done) f h = let same : done.0 ≡ log = cc in subst P same (gives done.0 done.1 (many_stand bytes (journal_of many_nodes bytes) [] (append-nil (journal_of many_nodes bytes)) done.0 done.1 f))
  by_done (Err stop) f h = absurd cc

pub fair : (bytes : List ℕ) (log : List Entry) → log_of (journal_of many_nodes bytes) ≡ Ok log → IsFair (journal_of many_nodes bytes) log
fair bytes = by_log bytes (IsFair (journal_of many_nodes bytes)) (λ log world s. fair_of (journal_of many_nodes bytes) log world (plain_lines bytes) s)
