-- The text of an address, `host:port:id`, and how it is read.
use Rattle.std.specs.Prelude.{◌≡◌, ℕ, ◌<◌, ◌≤◌, Bool, ◌&&◌, ◌||◌, List, [], ◌∷◌, ◌++◌, length, take, drop, ◌+◌, Option, Some, None, Result, Ok, Err, nat_lt, nat_le, ◌==◌, if◌then◌else◌, IsTrue, cond}
use Rattle.std.specs.Fmt.{decimal}
use Rattle.std.specs.List.{list_all}
use Rattle.ch_base.specs.AddressValues.{AddressValue}
use Rattle.ch_base.specs.Numbers.{is_digit_of, number_of}
use Rattle.ch_base.specs.declared.address.AddressError.{AddressError}
use Rattle.ch_base.specs.declared.address.AddressError.TheVariants.{NoHost, BadPort, BadId, TooLong, OutOfMemory}

-- letters, digits, `.` and `-`
abbrev pub is_host_byte_of : ℕ → Bool
is_host_byte_of b = is_digit_of b || (nat_le 65 b && nat_le b 90) || (nat_le 97 b && nat_le b 122) || b == 45 || b == 46

-- at least one byte, and each of them may stand in a host's text
abbrev pub is_host_of : List ℕ → Bool
is_host_of text = nat_lt 0 (length text) && list_all is_host_byte_of text

-- the one text of an address
abbrev pub address_text : AddressValue → List ℕ
address_text a = a.host ++ 58 ∷ decimal a.port ++ 58 ∷ decimal a.id

-- what holds of each address
pub record IsAddress (a : AddressValue) : Type 0 where
  pub host : IsTrue (is_host_of a.host)
  pub port_low : 0 < a.port
  pub port_high : a.port < 65536
  pub id : a.id < 4294967296
  pub short : length (address_text a) ≤ 80

abbrev pub after_front : ℕ → Option (List ℕ × List ℕ) → Option (List ℕ × List ℕ)
after_front b None = None
after_front b (Some parts) = Some (b ∷ parts.0, parts.1)

-- what stands before the first colon and what stands after it
abbrev pub at_colon : List ℕ → Option (List ℕ × List ℕ)
at_colon [] = None
at_colon (b ∷ bs) = cond (b == 58) (Some ([], bs)) (after_front b (at_colon bs))

infixl 10 ◌>>=◌
abbrev pub ◌>>=◌ : {A B : Type 0} → Result A AddressError → (A → Result B AddressError) → Result B AddressError
(Ok x) >>= f = f x
(Err e) >>= f = Err e

-- what is found, or this refusal
abbrev pub or_refuse : {A : Type 0} → AddressError → Option A → Result A AddressError
or_refuse e None = Err e
or_refuse e (Some x) = Ok x

-- a number of at least this
abbrev pub at_least : ℕ → Option ℕ → Option ℕ
at_least least None = None
at_least least (Some n) = if nat_le least n then Some n else None

-- a host before the first colon
unfoldable pub host_at : List ℕ → Result (List ℕ × List ℕ) AddressError
host_at text = do
  parts ← or_refuse NoHost (at_colon text)
  if is_host_of parts.0 then Ok parts else Err NoHost

-- a port before the next colon
unfoldable pub port_at : List ℕ → Result (ℕ × List ℕ) AddressError
port_at text = do
  parts ← or_refuse BadPort (at_colon text)
  port ← or_refuse BadPort (at_least 1 (number_of 65535 parts.0))
  Ok (port, parts.1)

-- reading a text as an address; the first fault from the front decides, after the length
unfoldable pub read_address : List ℕ → Result AddressValue AddressError
read_address text = do
  short ← if nat_lt 80 (length text) then Err TooLong else Ok text
  host ← host_at short
  port ← port_at host.1
  id ← or_refuse BadId (number_of 4294967295 port.1)
  Ok (record { host = host.0; port = port.0; id = id })

-- What a reader answered is what reading gives, unless memory ran out.
abbrev pub Fails : {Y : Type 0} → AddressError → Result Y AddressError → Type 0
Fails OutOfMemory read = Unit {0}
Fails e read = read ≡ Err e

abbrev pub Gives : {X Y : Type 0} → (X → Y) → Result X AddressError → Result Y AddressError → Type 0
Gives view (Ok x) read = read ≡ Ok (view x)
Gives view (Err e) read = Fails e read

-- the parts at a place, where there is one
abbrev pub around : List ℕ → Option ℕ → Option (List ℕ × List ℕ)
around text None = None
around text (Some i) = Some (take i text, drop (i + 1) text)
