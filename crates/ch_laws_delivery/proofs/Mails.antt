-- A message that is put into a mailbox or a port changes no life and no count of ports.
use Rattle.std.specs.Prelude.{◌≡◌, ◌≢◌, ℕ, zero, suc, Bool, true, false, List, [], ◌∷◌, ◌++◌, length, nat_eq, nat_lt, slice_get, slice_set, Option, Some, None, Result, Ok, Err, if◌then◌else◌}
use Rattle.std.specs.Option.{option_map, option_map_or}
use Rattle.std.proofs.Common.{refl, ap, sym, ◌∙◌, subst, arith}
use Rattle.std.proofs.lemmas.Bool.Decides.{nat_tests}
use Rattle.std.proofs.lemmas.Option.{slice_get_within}
use Rattle.ch_ident.specs.declared.message.Message.{Message}
use Rattle.ch_light.proofs.Lists.{set_here, set_other}
use Rattle.ch_mail.specs.declared.error.MailError.{MailError}
use Rattle.ch_mail.specs.declared.error.MailError.TheVariants.{NotLive, Worn}
use Rattle.ch_mail.specs.Lives.{is_over}
use Rattle.ch_mail.specs.Process.{Process}
use Rattle.ch_mail.specs.Mail.{◌>>=◌, there_or, last_u64, waiting_in, appended, given_to, life_of, put_of}
use Rattle.ch_model.specs.NodeIds.{has_port}

refuses : {X : Type 0} {A : Type 0} (e : MailError) (x : X) → ◌≡◌ {A = Result X MailError} (Err e) (Ok x) → A
refuses {X = X} e x h = absurd (clash h) where
  clash : ◌≡◌ {A = Result X MailError} (Err e) (Ok x) → ⊥
  clash h = cc

gives : {X : Type 0} (x y : X) → ◌≡◌ {A = Result X MailError} (Ok x) (Ok y) → x ≡ y
gives {X = X} x y h = ap {A = Result X MailError} {B = X} (λ r. elim r [ Ok z ↦ z | Err e ↦ x ]) h

length_set : {X : Type 0} (xs : List X) (k : ℕ) (y : X) → length (slice_set xs k y) ≡ length xs
length_set [] k y = refl
length_set (x ∷ xs) zero y = refl
length_set (x ∷ xs) (suc k) y = ap suc (length_set xs k y)

-- two processes with one life and as many ports
pub record Like (p q : Process) : Type 0 where
  pub life : p.life ≡ q.life
  pub ports : length p.ports ≡ length q.ports

appended_like : (process : Process) (port : Option ℕ) (said : Message) (given : Process) → appended process port said ≡ Ok given → Like given process
unfolding appended
appended_like process None said given h = subst (λ (z : Process). Like z process) (gives (record process { mailbox = process.mailbox ++ said ∷ [] }) given h) (record { life = refl; ports = refl })
appended_like process (Some port) said given h = by_port (slice_get process.ports port) h where
  by_port : (o : Option (List Message)) → there_or NotLive o >>= (λ messages. Ok (record process { ports = slice_set process.ports port (messages ++ said ∷ []) })) ≡ Ok given → Like given process
  by_port None h = refuses NotLive given h
  by_port (Some messages) h = subst (λ (z : Process). Like z process) (gives (record process { ports = slice_set process.ports port (messages ++ said ∷ []) }) given h)
      (record { life = refl; ports = length_set process.ports port (messages ++ said ∷ []) })

given_like : (process : Process) (port : Option ℕ) (said : Message) (given : Process) → given_to process port said ≡ Ok given → Like given process
unfolding given_to
given_like process port said given h = by_life (is_over process.life) h where
  by_fit : (b : Bool) (q : Process) → Like q process → (if b then Ok q else Err Worn) ≡ Ok given → Like given process
  by_fit true q like h = subst (λ (z : Process). Like z process) (gives q given h) like
  by_fit false q like h = refuses Worn given h

  by_put : (r : Result Process MailError) → appended process port said ≡ r → r >>= (λ q. if nat_lt (waiting_in process) last_u64 then Ok q else Err Worn) ≡ Ok given → Like given process
  by_put (Err e) is h = refuses e given h
  by_put (Ok q) is h = by_fit (nat_lt (waiting_in process) last_u64) q (appended_like process port said q is) h

  by_life : (b : Bool) → (if b then Err NotLive else (appended process port said >>= (λ q. if nat_lt (waiting_in process) last_u64 then Ok q else Err Worn))) ≡ Ok given → Like given process
  by_life true h = refuses NotLive given h
  by_life false h = by_put (appended process port said) refl h

-- the mail where a process is another like it
module _ (mail : List Process) (n : ℕ) (process given : Process) (there : slice_get mail n ≡ Some process) where
  pub read_same : {X : Type 0} (f : Process → X) → f given ≡ f process → (i : ℕ) → option_map f (slice_get (slice_set mail n given) i) ≡ option_map f (slice_get mail i)
  read_same {X = X} f same i = by_place (nat_eq i n) refl where
    one : (i n : ℕ) → nat_eq i n ≡ true → i ≡ n
    one i n h = grind (arith, nat_tests)

    two : (i n : ℕ) → nat_eq i n ≡ false → i ≢ n
    two i n h = λ e. clash i n h e where
      clash : (i n : ℕ) → nat_eq i n ≡ false → i ≡ n → ⊥
      clash i n h e = grind (arith, nat_tests)

    at_it : option_map f (slice_get (slice_set mail n given) n) ≡ option_map f (slice_get mail n)
    at_it = ap (option_map f) (set_here mail n given (slice_get_within mail n process there)) ∙ ap {A = X} {B = Option X} Some same ∙ sym (ap (option_map f) there)

    by_place : (b : Bool) → nat_eq i n ≡ b → option_map f (slice_get (slice_set mail n given) i) ≡ option_map f (slice_get mail i)
    by_place true h = subst (λ (z : ℕ). option_map f (slice_get (slice_set mail n given) z) ≡ option_map f (slice_get mail z)) (sym (one i n h)) at_it
    by_place false h = ap (option_map f) (set_other mail n given i (two i n h))

-- of each process life and ports are as before
pub record Unmoved (mail now : List Process) : Type 0 where
  pub life : (i : ℕ) → life_of now i ≡ life_of mail i
  pub ports : (i port : ℕ) → has_port now i port ≡ has_port mail i port

or_false : {X : Type 0} (f : X → Bool) (o : Option X) → option_map_or f o false ≡ option_map_or (λ b. b) (option_map f o) false
or_false f None = refl
or_false f (Some x) = refl

pub put_unmoved : (mail : List Process) (n : ℕ) (port : Option ℕ) (said : Message) (now : List Process) → put_of mail n port said ≡ Ok now → Unmoved mail now
unfolding put_of life_of has_port
put_unmoved mail n port said now h = by_there (slice_get mail n) refl h where
  changed : (process given : Process) → slice_get mail n ≡ Some process → Like given process → slice_set mail n given ≡ now → Unmoved mail now
  changed process given there like is = subst (Unmoved mail) is (record {
    life = read_same mail n process given there (λ p. p.life) like.life;
    ports = λ i number. or_false (λ p. nat_lt number (length p.ports)) (slice_get (slice_set mail n given) i)
        ∙ ap (λ o. option_map_or (λ b. b) o false) (read_same mail n process given there (λ p. nat_lt number (length p.ports)) (ap (nat_lt number) like.ports) i)
        ∙ sym (or_false (λ p. nat_lt number (length p.ports)) (slice_get mail i));
  })

  by_given : (process : Process) → slice_get mail n ≡ Some process → (r : Result Process MailError) → given_to process port said ≡ r → r >>= (λ given. Ok (slice_set mail n given)) ≡ Ok now → Unmoved mail now
  by_given process there (Err e) is h = refuses e now h
  by_given process there (Ok given) is h = changed process given there (given_like process port said given is) (gives (slice_set mail n given) now h)

  by_there : (o : Option Process) → slice_get mail n ≡ o → there_or NotLive o >>= (λ process. given_to process port said >>= (λ given. Ok (slice_set mail n given))) ≡ Ok now → Unmoved mail now
  by_there None is h = refuses NotLive now h
  by_there (Some process) is h = by_given process is (given_to process port said) refl h
