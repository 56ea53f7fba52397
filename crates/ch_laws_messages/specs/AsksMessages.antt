-- What a message to a process of another node is written as, and that all that was said is carried at one end.
use Rattle.std.specs.Prelude.{◌≡◌, ◌⊎◌, ℕ, List, [], length}
use Rattle.ch_model.specs.declared.line.Line.{Line}
use Rattle.ch_model.specs.declared.step.Place.{Place}
use Rattle.ch_model.specs.AccountsFrames.{Saying}
use Rattle.ch_laws_peers.specs.Words.{Placed, words_in, TrueWords}
use Rattle.ch_laws_messages.specs.WayGoes.{written_frames}
use Rattle.ch_laws_messages.specs.SaidGoes.{sent_next, sent_first}

-- the place of a saying
abbrev pub place_as : Saying → Place
place_as s = record { epoch = s.epoch; index = s.index }

-- its payload alone, under the id of its connection; or its connection is opened before it
abbrev pub IsMessage : ℕ → List ℕ → Saying → List Placed → Type 0
IsMessage id opening s new = (new ≡ sent_next id s (place_as s)) ⊎ (new ≡ sent_first id opening s (place_as s))

-- all that was said is carried by what was written at an end
abbrev pub CarriesAll : List Line → List Saying → List (List ℕ) → Type 0
CarriesAll journal said wrote = TrueWords journal said [] 0 (words_in (written_frames said wrote)) (length said)
