-- What a node does when one of its processes is over.
use Rattle.std.specs.Prelude.{◌≡◌, ◌≢◌, ℕ, Bool, true, false, ◌==◌, List, slice_get, slice_set, is_some, Option, Some, None, Ok, Err, if◌then◌else◌}
use Rattle.std.specs.Option.{option_map, option_map_or}
use Rattle.std.proofs.Common.{refl, ap, sym, ◌∙◌, subst, ◌⊎◌, inl, inr}
use Rattle.std.proofs.lemmas.Bool.{eqb-true, eq-eqb}
use Rattle.std.proofs.lemmas.Option.{slice_get_within}
use Rattle.ch_ident.specs.declared.reason.Reason.{Reason}
use Rattle.ch_light.proofs.Lists.{set_here, set_other}
use Rattle.ch_mail.specs.declared.error.MailError.TheVariants.{NotLive}
use Rattle.ch_mail.specs.declared.life.Life.{Life}
use Rattle.ch_mail.specs.declared.life.Life.TheVariants.{Over}
use Rattle.ch_mail.specs.Lives.{is_over}
use Rattle.ch_mail.specs.Process.{Process}
use Rattle.ch_mail.specs.Mail as mails
use Rattle.ch_mail.specs.Mail.{there_or, made_at, life_of, ended, end_of}
use Rattle.ch_watch.specs.Watches.{ended_of}
use Rattle.ch_model.specs.declared.act.Act.{Act}
use Rattle.ch_model.specs.NodeState.{NodeState}
use Rattle.ch_model.specs.NodeActs.{Done, ◌and_then◌, doing, each_in_turn, or_unchanged}
use Rattle.ch_model.specs.NodeEnds.{farewell, bereft, over}
use Rattle.ch_model.specs.NodeWatches.{tell_end}
use Rattle.ch_laws_delivery.specs.Standings.{Ages}
use Rattle.ch_laws_delivery.specs.Endings.{Ends}
use Rattle.ch_laws_delivery.proofs.Results.{given, went_node}
use Rattle.ch_laws_delivery.proofs.OwnMail.{Still}
use Rattle.ch_laws_delivery.proofs.Tells.{ages_then, after_still, each_still, tell_end_still}

-- ---- the mail

-- whether the process of a number was made and is over
abbrev is_ended : List Process → ℕ → Bool
is_ended mail i = option_map_or is_over (life_of mail i) false

-- of the mail that a process has left: every other is as before, and it is over, if it was made
pub record Left (mail : List Process) (number : ℕ) (now : List Process) : Type 0 where
  pub others : (i : ℕ) → i ≢ number → is_ended now i ≡ is_ended mail i
  pub own : is_some (life_of mail number) ≡ true → is_ended now number ≡ true

wrong : {A : Type 0} → false ≡ true → A
wrong h = absurd (clash h) where
  clash : false ≡ true → ⊥
  clash h = cc

leaves : (mail : List Process) (number : ℕ) (reason : Reason) (now : List Process) → or_unchanged mail (end_of mail number reason) ≡ Ok now → Left mail number now
unfolding end_of ended life_of
leaves mail number reason now h = by_there (slice_get mail number) refl h where
  unchanged : (option_map_or is_over (option_map (λ (z : Process). z.life) (slice_get mail number)) false ≡ true) ⊎ (slice_get mail number ≡ None) → mail ≡ now → Left mail number now
  unchanged over is = subst (Left mail number) is (record { others = λ i off. refl; own = λ made. by_over over made }) where
    by_over : (option_map_or is_over (option_map (λ (z : Process). z.life) (slice_get mail number)) false ≡ true) ⊎ (slice_get mail number ≡ None) → is_some (option_map (λ (z : Process). z.life) (slice_get mail number)) ≡ true
        → option_map_or is_over (option_map (λ (z : Process). z.life) (slice_get mail number)) false ≡ true
    by_over (inl q) made = q
    by_over (inr q) made = wrong (sym (ap (λ (o : Option Process). is_some (option_map (λ (z : Process). z.life) o)) q) ∙ made)

  changed : (process : Process) → slice_get mail number ≡ Some process → slice_set mail number (record process { life = Over reason }) ≡ now → Left mail number now
  changed process there is = subst (Left mail number) is (record {
    others = λ i off. ap (λ (o : Option Process). option_map_or is_over (option_map (λ (z : Process). z.life) o) false) (set_other mail number (record process { life = Over reason }) i off);
    own = λ made. ap (λ (o : Option Process). option_map_or is_over (option_map (λ (z : Process). z.life) o) false) (set_here mail number (record process { life = Over reason }) (slice_get_within mail number process there));
  })

  by_life : (process : Process) → slice_get mail number ≡ Some process → (b : Bool) → is_over process.life ≡ b
      → or_unchanged mail (mails.◌>>=◌ {A = Process} {B = List Process} (if b then Err NotLive else Ok (record process { life = Over reason })) (λ over. Ok (slice_set mail number over))) ≡ Ok now → Left mail number now
  by_life process there true is q = unchanged (inl (ap (λ (o : Option Process). option_map_or is_over (option_map (λ (z : Process). z.life) o) false) there ∙ is)) (given mail now q)
  by_life process there false is q = changed process there (given (slice_set mail number (record process { life = Over reason })) now q)

  by_there : (o : Option Process) → slice_get mail number ≡ o
      → or_unchanged mail (mails.◌>>=◌ {A = Process} {B = List Process} (there_or NotLive o)
      (λ process. mails.◌>>=◌ {A = Process} {B = List Process} (if is_over process.life then Err NotLive else Ok (record process { life = Over reason })) (λ over. Ok (slice_set mail number over)))) ≡ Ok now
      → Left mail number now
  by_there None there q = unchanged (inr there) (given mail now q)
  by_there (Some process) there q = by_life process there (is_over process.life) refl q

-- ---- the node

module _ (n : NodeState) (number : ℕ) (reason : Reason) (did : List Act) (now : NodeState) (h : over n number reason ≡ Ok (did, now)) where
  abbrev Rest : List Process → Done
  Rest mail = doing (farewell n number reason (ended_of n.watches number).0.names) (bereft n mail (ended_of n.watches number).1 number)
      and_then (λ m. each_in_turn (λ watch z. tell_end z watch reason) (ended_of n.watches number).0.watches m)

  -- the mail without it, and the node that has told its watchers
  record Passed : Type 0 where
    mail : List Process
    left : Left n.mail number mail
    still : Still (bereft n mail (ended_of n.watches number).1 number) now

  passed : Passed
  unfolding over
  passed = let one = went_node (or_unchanged n.mail (end_of n.mail number reason)) Rest (did, now) h in record {
    mail = one.value;
    left = leaves n.mail number reason one.value one.is;
    still = after_still (bereft n one.value (ended_of n.watches number).1 number) (farewell n number reason (ended_of n.watches number).0.names)
        (each_in_turn (λ watch z. tell_end z watch reason) (ended_of n.watches number).0.watches (bereft n one.value (ended_of n.watches number).1 number))
        (each_still (λ watch z. tell_end z watch reason) (λ watch z. tell_end_still z watch reason) (ended_of n.watches number).0.watches (bereft n one.value (ended_of n.watches number).1 number)) did now one.next;
  }

  abbrev Mid : NodeState
  Mid = bereft n passed.mail (ended_of n.watches number).1 number

  was_made : (o : Option Life) → option_map_or is_over o false ≡ true → is_some o ≡ true
  was_made (Some ending) q = refl
  was_made None q = wrong q

  pub over_ages : Ages n now
  over_ages = ages_then n Mid now (record { own = refl; unique = refl; arrived = refl; over = λ by gone. by_own by (by == number) refl gone }) passed.still.1 where
    by_own : (by : ℕ) (b : Bool) → (by == number) ≡ b → is_ended n.mail by ≡ true → is_ended passed.mail by ≡ true
    by_own by true is gone = let same : by ≡ number = eqb-true by number is in
        ap (is_ended passed.mail) same ∙ passed.left.own (was_made (life_of n.mail number) (sym (ap (is_ended n.mail) same) ∙ gone))
    by_own by false is gone = passed.left.others by (λ e. wrong (sym is ∙ ap (λ (z : ℕ). z == number) e ∙ self number)) ∙ gone where
      self : (i : ℕ) → (i == i) ≡ true
      self i = eq-eqb i i refl

  pub over_ends : is_some (life_of n.mail number) ≡ true → Ends n number now
  over_ends made = record { pairs = passed.still.0.pairs; shut = passed.still.0.shut; over = λ by. passed.still.0.over by ∙ by_own by (by == number) refl } where
    self : (i : ℕ) → (i == i) ≡ true
    self i = eq-eqb i i refl

    by_own : (by : ℕ) (b : Bool) → (by == number) ≡ b → is_ended passed.mail by ≡ (if b then true else is_ended n.mail by)
    by_own by true is = ap (is_ended passed.mail) (eqb-true by number is) ∙ passed.left.own made
    by_own by false is = passed.left.others by (λ e. wrong (sym is ∙ ap (λ (z : ℕ). z == number) e ∙ self number))
