-- Where the ends are looked for that hosts have under numbers.
use Rattle.std.specs.Prelude.{◌≡◌, ℕ, ◌≤◌, ◌==◌, ◌&&◌, Bool, false, List, length, take, find, is_some, Option, Some, None, nat_lt, if◌then◌else◌}
use Rattle.std.specs.Map.{lookup}
use Rattle.ch_model.specs.declared.name.SockName.{SockName}
use Rattle.ch_model.specs.WorldState.{WorldSocket}
use Rattle.ch_sockets.specs.Numbers.{names_of, Numbered}
use Rattle.ch_model.specs.WorldSockets.{end_at}
use Rattle.ch_sockets.specs.declared.opener.Opener.{Opener}
use Rattle.ch_sockets.specs.declared.opener.Opener.TheVariants as openers

-- of a place that may be known, and another, the lower one
abbrev pub lower : Option ℕ → ℕ → ℕ
lower None place = place
lower (Some first) place = if nat_lt first place then first else place

-- a host has one of a socket's ends under a number
abbrev pub is_under : ℕ → ℕ → WorldSocket → Bool
is_under cell number socket = is_some (end_at cell number socket)

-- the host has no end under the number before the place; and none at all, where no place is known
abbrev pub IsEndFrom : ℕ → ℕ → Option ℕ → List WorldSocket → Type 0
IsEndFrom cell number None sockets = find (is_under cell number) sockets ≡ None
IsEndFrom cell number (Some first) sockets = (first ≤ length sockets) × (find (is_under cell number) (take first sockets) ≡ None)

-- the test for a host and a number
abbrev pub has_end : ℕ → ℕ → ℕ × ℕ → Bool
has_end cell number key = (cell == key.0) && (number == key.1)

-- each end of a host that has a number is found from the place that is known for it
abbrev pub AreEnds : List ((ℕ × ℕ) × ℕ) → List WorldSocket → Type 0
AreEnds entries sockets = (cell number : ℕ) → IsEndFrom cell number (lookup (has_end cell number) entries) sockets

-- ---- an end that is noted

-- the end is the one that is noted
abbrev pub is_noted : Option (ℕ × ℕ) → ℕ × ℕ → Bool
is_noted None q = false
is_noted (Some key) q = has_end key.0 key.1 q

-- the place of an end is known from then on, or a lower one
abbrev pub IsNoted : Option (ℕ × ℕ) → ℕ → List ((ℕ × ℕ) × ℕ) → List ((ℕ × ℕ) × ℕ) → Type 0
IsNoted None place old new = new ≡ old
IsNoted (Some key) place old new = (q : ℕ × ℕ) → lookup (has_end q.0 q.1) new ≡ (if has_end key.0 key.1 q then Some (lower (lookup (has_end key.0 key.1) old) place) else lookup (has_end q.0 q.1) old)

-- a host, where there is one, with a number
abbrev pub under : ℕ → Option ℕ → Option (ℕ × ℕ)
under number None = None
under number (Some cell) = Some (cell, number)

-- under which number a dialing host has its end
abbrev pub opener_key : Opener → Option (ℕ × ℕ)
opener_key (openers.Dialing cell number) = Some (cell, number)
opener_key openers.Stranger = None

-- ---- all tables

-- the names are those of the sockets, and each end is found
abbrev pub AreTables : List SockName → List ((ℕ × ℕ) × ℕ) → List WorldSocket → Type 0
AreTables names ends sockets = (names ≡ names_of sockets) × Numbered names × AreEnds ends sockets
