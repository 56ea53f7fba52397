-- Rest: nothing is left to happen without loss.
use Rattle.std.specs.Prelude.{ℕ, Bool, true, false, not, ◌&&◌, ◌||◌, List, [], ◌∷◌, ◌++◌, length, filter_map, Option, Some, None, IsTrue, ◌==◌}
use Rattle.std.specs.List.{list_all}
use Rattle.std.specs.Str.{bytes_eq}
use Rattle.ch_model.specs.declared.name.SockName.{SockName}
use Rattle.ch_model.specs.declared.name.End.{End}
use Rattle.ch_model.specs.declared.name.End.TheVariants.{O, T}
use Rattle.ch_model.specs.declared.entry.Entry.{Entry}
use Rattle.ch_model.specs.declared.entry.Entry.TheVariants as entries
use Rattle.ch_model.specs.declared.line.Line.{Line}
use Rattle.ch_model.specs.Stages.{is_pending}
use Rattle.ch_model.specs.Same.{same_socket}
use Rattle.ch_model.specs.Declarations.{nodes, names}
use Rattle.ch_model.specs.Sockets.{stands_at, unread, has_ended_input}
use Rattle.ch_model.specs.Links.{up_sockets}
use Rattle.ch_model.specs.Answers.{is_open_end}
use Rattle.ch_model.specs.AnswersCounts.{timer_runs}

-- a socket that is opened by the entry
abbrev pub opened : Entry → Option SockName
opened (entries.Dial sock) = Some sock
opened (entries.Knocked sock) = Some sock
opened entry = None

-- the sockets that were opened
abbrev pub sockets : List Entry → List SockName
sockets log = filter_map opened log

-- no end of the socket is pending
abbrev pub is_unpending : List Line → List Entry → SockName → Bool
is_unpending journal log sock = not (stands_at journal log sock O is_pending) && not (stands_at journal log sock T is_pending)

-- a node's open end has nothing to read, and its input hasn't ended
abbrev pub is_end_at_rest : List Line → List Entry → SockName → End → Bool
is_end_at_rest journal log sock end =
    not (is_open_end journal log sock end) || length (unread journal log sock end) == 0 && not (has_ended_input journal log sock end)

-- both ends of the socket have nothing to read
abbrev pub is_read : List Line → List Entry → SockName → Bool
is_read journal log sock = is_end_at_rest journal log sock O && is_end_at_rest journal log sock T

-- no timer of the node runs, for any declared peer
abbrev pub is_untimed : List Line → List Entry → List ℕ → Bool
is_untimed journal log x = list_all (λ y. bytes_eq x y || not (timer_runs log x y)) (names journal)

-- the sockets are the same, in the same order
abbrev pub same_sockets : List SockName → List SockName → Bool
same_sockets [] [] = true
same_sockets (s ∷ ss) (t ∷ ts) = same_socket s t && same_sockets ss ts
same_sockets ss ts = false

-- the node and each other one are both up on the same one socket, or neither is
abbrev pub is_up_alike : List Line → List Entry → List ℕ → Bool
is_up_alike journal log x = list_all (λ y. bytes_eq x y || same_sockets (up_sockets log x y) (up_sockets log y x)) (nodes journal)

-- nothing is left to happen without loss
pub record IsAtRest (journal : List Line) (log : List Entry) : Type 0 where
  pub none_pending : IsTrue (list_all (is_unpending journal log) (sockets log))
  pub all_read : IsTrue (list_all (is_read journal log) (sockets log))
  pub no_timer : IsTrue (list_all (is_untimed journal log) (nodes journal))
  pub up_alike : IsTrue (list_all (is_up_alike journal log) (nodes journal))

-- the rest of a log is at rest at each settled
abbrev pub SettlesAtRestAfter : List Line → List Entry → List Entry → Type 0
SettlesAtRestAfter journal before [] = Unit {0}
SettlesAtRestAfter journal before (entries.Settled ∷ rest) = IsAtRest journal before × SettlesAtRestAfter journal (before ++ entries.Settled ∷ []) rest
SettlesAtRestAfter journal before (entry ∷ rest) = SettlesAtRestAfter journal (before ++ entry ∷ []) rest

-- at each settled the log is at rest
abbrev pub SettlesAtRest : List Line → List Entry → Type 0
SettlesAtRest journal log = SettlesAtRestAfter journal [] log
