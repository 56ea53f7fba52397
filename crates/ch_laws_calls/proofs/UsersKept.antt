-- Whatever happens keeps whose link targets' ends are for, and what they are asked; and it is so at the start.
use Rattle.std.proofs.Common.{◌≡◌, ℕ, true, inl, inr, List, [], ◌∷◌, ◌++◌, refl, sym, ap, ◌∙◌, subst}
use Rattle.std.specs.Prelude.{Option, Some, None}
use Rattle.ch_base.specs.declared.address.Address.{Address}
use Rattle.ch_wire.specs.Spelling.{answer_spelling}
use Rattle.ch_wire.specs.declared.answer.Answer.TheVariants.{Mismatch}
use Rattle.ch_model.specs.declared.entry.Entry.{Entry}
use Rattle.ch_model.specs.declared.entry.Entry.TheVariants as entries
use Rattle.ch_model.specs.declared.line.Line.{Line}
use Rattle.ch_model.specs.declared.name.SockName.{SockName}
use Rattle.ch_model.specs.HostSteps.{own_address}
use Rattle.ch_model.specs.World.{names_of, world_new}
use Rattle.ch_model.specs.WorldState.{Cell, Named, World}
use Rattle.ch_laws_log.specs.Declared.{is_declared}
use Rattle.ch_laws_accounts.proofs.Requests.{not_nobody}
use Rattle.ch_laws_bytes.proofs.Lines.{own_of}
use Rattle.ch_laws_bytes.specs.Streams.{AreAddresses, readers_of, dues_of, writes_at}
use Rattle.ch_laws_calls.specs.Calls.{KeepsCalls}
use Rattle.ch_laws_calls.specs.Sound.{SoundEnds, Sound}
use Rattle.ch_laws_calls.specs.Users.{IsAskedAs, AllUsed}
use Rattle.ch_laws_many.proofs.Reached.{IsJournal, named}
use Rattle.ch_laws_pairs.specs.Dials.{IsBetweenNames}
use Rattle.ch_laws_calls.specs.UsersCarried.{record_at, records_of, AsksOn, Answered, IsSeated, IsBegun, Carried}
use Rattle.ch_laws_calls.specs.UsersKept.{AreUsers}
use Rattle.ch_laws_calls.proofs.UsersBlames.{same_answer}
use Rattle.ch_laws_calls.proofs.UsersComes.{came}
use Rattle.ch_laws_calls.proofs.UsersFeeds.{fed}
use Rattle.ch_laws_calls.proofs.UsersHappen.{connected, sent, closed, ended, item, seated}
use Rattle.ch_laws_calls.proofs.UsersJoins.{joined}

-- ---- all that happens

-- where hosts and world agree, it has the names and its hosts are where they were
with_ends : (journal : List Line) (log after : List Entry) (world : World) → SoundEnds journal log world → Carried journal after world → AreUsers journal after world
with_ends journal log after world s c = record { names = s.set.names; hosted = λ place cell at. sym (ap (λ (a : Address). a.host) ((s.flowing.orderly place cell at).own_is 0)); carried = c }

-- the world as it was, after more entries
same_world : (journal : List Line) (log after : List Entry) (world : World) → Carried journal log world → Carried journal after world
same_world journal log after world c = record { seated = c.seated; begun = c.begun }

pub used_kept : (journal : List Line) → AreAddresses (names_of journal) → KeepsCalls journal (Sound journal) (Sound journal) (AreUsers journal)
used_kept journal addresses = record {
  marked = λ log world number answer p j q. with_ends journal (log ++ entries.Line number answer ∷ []) (log ++ entries.Line number answer ∷ []) world q.ends (same_world journal log (log ++ entries.Line number answer ∷ []) world j.carried);
  noted = λ log world note p j q. with_ends journal _ _ _ q.ends (record { seated = j.carried.seated; begun = j.carried.begun });
  seated = λ log world place cell nodes at seats p j q. with_ends journal _ _ _ q.ends (seated journal log log world place cell nodes at j.carried);
  connected = λ log world place cell end peer conn told host at e p j q. with_ends journal _ _ _ q.ends (connected journal log _ _ world place cell end peer conn told host at e p.ends q.ends j.carried);
  sent = λ log world place cell end conn payload weight told host at e p j q. with_ends journal _ _ _ q.ends (sent journal log _ _ world place cell end conn payload weight told host at e p.ends q.ends j.carried);
  closed = λ log world place cell end conn told host at e p j q. with_ends journal _ _ _ q.ends (closed journal log _ _ world place cell end conn told host at e p.ends q.ends j.carried);
  joined = λ log world socket place n cell told host is can of called read p j q. with_ends journal _ _ _ q.ends (joined journal log _ _ world socket place n cell told host is can called p.ends q.ends j.carried);
  came = λ log world socket place cell told host is can c called read p j q. with_ends journal _ _ _ q.ends (came journal log _ world socket place cell told host is can c called p.ends j.carried);
  fed = λ log world socket which count b bytes place n cell told host is can taken of called read p j q. with_ends journal _ _ _ q.ends (fed journal log _ world socket which count b bytes place n cell told host is can taken of called p.ends j.carried);
  ended = λ log world socket which place n cell told host is can none of called read p j q. with_ends journal _ _ _ q.ends (ended journal log _ _ world place cell n told host called.at called.does p.ends q.ends j.carried);
  item = λ log world place cell told host at e p j q. with_ends journal _ _ _ q.ends (item journal log _ _ world place cell told host (subst AreAddresses (sym p.ends.set.names) addresses) at e p.ends q.ends j.carried);
}

-- ---- at the start

pub fresh_users : (journal : List Line) → AreUsers journal [] (world_new journal)
fresh_users journal = record { names = refl; hosted = λ place cell at. ap (λ (o : Option (Cell × ℕ)). (own o 0).host) at; carried = record { seated = λ s socket f. absurd cc; begun = λ s socket f. absurd cc } } where
  own : Option (Cell × ℕ) → ℕ → Address
  own o = elim o as (λ o. ℕ → Address) [
    | None ↦ λ e. record { host = []; port = 0; id = e }
    | Some cell ↦ λ e. own_address cell.0.host e
  ]

pub fresh_used : (journal : List Line) → AllUsed journal [] (world_new journal)
fresh_used journal s socket f = absurd cc

-- ---- so each socket is used as its name says

two_names : (journal : List Line) (world : World) (name : SockName) → IsJournal journal → world.names ≡ names_of journal → is_declared world.names name.from ≡ true → is_declared world.names name.to ≡ true → IsBetweenNames name
two_names journal world name i names from to = (λ e. never name.from from e, λ e. never name.to to e) where
  never : (text : List ℕ) → is_declared world.names text ≡ true → text ≡ [] → ⊥
  never text d e = not_nobody (names_of journal) (named journal i) (sym (ap (λ (known : List Named). is_declared known []) names) ∙ sym (ap (is_declared world.names) e) ∙ d)

pub users_used : (journal : List Line) (log : List Entry) (world : World) → IsJournal journal → AreUsers journal log world → AllUsed journal log world
users_used journal log world i u s socket f = record {
  uncut = seat.uncut;
  leads = b.leads;
  from_host = λ place cell c at. seat.from_host ∙ ap (λ (p : ℕ). (own_of journal p 0).host) (one seat.opener place (sym seat.at ∙ c)) ∙ u.hosted place cell at;
  target = λ place n cell held c m at h. seat.target place n held c m (ap (λ (o : Option (Cell × ℕ)). record_at o n) at ∙ h);
  answer = λ since more from to apart over r e. no_mismatch since more (b.answer (two_names journal world socket.name i u.names from to, apart) over since r) e;
  request = λ place since c over r. begins place (b.request place c over since r);
} where
  seat : IsSeated journal world.names (records_of world.cells) socket
  seat = u.carried.seated s socket f

  b : IsBegun journal world.names (readers_of world.cells) (dues_of world.cells) socket
  b = u.carried.begun s socket f

  one : (p q : ℕ) → ◌≡◌ {A = Option ℕ} (Some p) (Some q) → p ≡ q
  one p q e = cc

  no_mismatch : (since more : List ℕ) → Answered (since ++ socket.o.unread) (writes_at (dues_of world.cells) socket.t.cell socket.t.number) → since ++ socket.o.unread ≡ answer_spelling Mismatch ++ more → ⊥
  no_mismatch since more (inr a) e = a.other (same_answer a.answer Mismatch a.more more (sym a.begins ∙ e))
  no_mismatch since more (inl w) e = let none : [] ≡ answer_spelling Mismatch ++ more = sym w.0 ∙ e in absurd cc

  begins : (place : ℕ) {bytes : List ℕ} → AsksOn (own_of journal place) world.names b.leads.asked socket.name bytes (writes_at (dues_of world.cells) socket.o.cell socket.o.number) → IsAskedAs (own_of journal place) world.names socket.name bytes
  begins place (inl w) = inl w.0
  begins place (inr a) = inr (record { asker = a.asker; asked = b.leads.asked; from = a.from; to = b.leads.to; more = a.more; begins = a.begins })
