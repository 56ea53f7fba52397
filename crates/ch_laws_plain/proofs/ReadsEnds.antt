-- What was read at each end of a host where an item was read at one of them, or none.
use Rattle.std.proofs.Common.{◌≡◌, inl, inr, ℕ, Bool, true, false, cond, List, [], ◌∷◌, drop, refl, sym, ap, ◌∙◌, subst}
use Rattle.std.specs.Prelude.{find, Option, Some, None, ◌==◌}
use Rattle.ch_base.specs.declared.address.Address.{Address}
use Rattle.ch_wire.specs.declared.frame.Frame.{Frame}
use Rattle.ch_wire.specs.declared.request.Request.{Request}
use Rattle.ch_reader.specs.declared.item.Expected.TheVariants as expected
use Rattle.ch_reader.specs.declared.item.Item.{Item}
use Rattle.ch_reader.specs.declared.item.Item.TheVariants as items
use Rattle.ch_model.specs.Host.{front_of}
use Rattle.ch_model.specs.HostState.{Socket, HostState}
use Rattle.ch_model.specs.HostSteps.{link_with, with_socket, is_socket}
use Rattle.ch_model.specs.Stages.{Stage, Pending, Open, Ended, is_open, is_ended}
use Rattle.ch_laws_items.proofs.Sockets.{number_is}
use Rattle.ch_laws_log.proofs.HostTold.{find_stored}
use Rattle.ch_laws_reads.specs.Reads.{AreRead}
use Rattle.ch_laws_calls.specs.FitsFit.{frames_in}
use Rattle.ch_laws_calls.proofs.FitsItems.{Fronts}
use Rattle.ch_laws_plain.proofs.Talks.{clash}
use Rattle.ch_laws_plain.specs.ReadsReading.{ReadThere, AllReadThere, AreOfNone}
use Rattle.ch_laws_plain.proofs.ReadsSockets.{some_is, WereSo}

-- these frames were read there, and it is for the link that it was for
pub record ReadSo (known now : Socket) (frames : List Frame) : Type 0 where
  pub stood : is_ended known.stage ≡ false
  pub read : List Item
  pub are : AreRead known.expected known.since read now.expected now.since
  pub framed : frames_in read ≡ frames
  pub user : now.user ≡ known.user

abbrev pub AllReadSo : HostState → HostState → (ℕ → List Frame) → Type 0
AllReadSo host after frames = (n : ℕ) (known now : Socket) → find (is_socket n) host.sockets ≡ Some known → find (is_socket n) after.sockets ≡ Some now → is_ended now.stage ≡ false → ReadSo known now (frames n)

-- each end was one of that host's
abbrev pub AllOf : HostState → HostState → Type 0
AllOf host after = (n : ℕ) (now : Socket) → find (is_socket n) after.sockets ≡ Some now → (known : Socket) × (find (is_socket n) host.sockets ≡ Some known)

there_of : (known now : Socket) (frames : List Frame) (after : HostState) → ReadSo known now frames → ReadThere known now frames after
there_of known now frames after r = record { stood = r.stood; read = r.read; are = r.are; framed = r.framed; user = inl r.user }

-- what was read by then was read, and some ends are over besides
pub all_there : (host mid after : HostState) (frames : ℕ → List Frame) → WereSo mid after → AllReadSo host mid frames → AllReadThere host after frames
all_there host mid after frames so all n known now f g e = there_of known now (frames n) after (all n known now f (so n now g e) e)

-- what was read at an end that is over doesn't count
pub but_over : (host after : HostState) (sock : ℕ) (frames : List Frame) → ((now : Socket) → find (is_socket sock) after.sockets ≡ Some now → is_ended now.stage ≡ true) → AllReadThere host after (λ n. cond (sock == n) frames []) → AllReadThere host after (λ n. [])
but_over host after sock frames over all n known now f g e = by_test (sock == n) refl (all n known now f g e) where
  by_test : (b : Bool) → (sock == n) ≡ b → ReadThere known now (cond b frames []) after → ReadThere known now [] after
  by_test true h r = clash (sym (over now (subst (λ (m : ℕ). find (is_socket m) after.sockets ≡ Some now) (sym (number_is sock n h)) g)) ∙ e)
  by_test false h r = r

-- ---- nothing is read

pub none_so : (host : HostState) → AllReadSo host host (λ n. [])
none_so host n known now f g e =
    let is : now ≡ known = some_is now known (sym g ∙ f) in
    subst (λ (w : Socket). ReadSo known w []) (sym is) (record { stood = ap (λ (w : Socket). is_ended w.stage) (sym is) ∙ e; read = []; are = (refl, refl); framed = refl; user = refl })

pub none_at_any : (host : HostState) (sock : ℕ) → AllReadSo host host (λ n. cond (sock == n) [] [])
none_at_any host sock n known now f g e = by_test (sock == n) where
  by_test : (b : Bool) → ReadSo known now (cond b [] [])
  by_test true = none_so host n known now f g e
  by_test false = none_so host n known now f g e

pub none_of : (host : HostState) → AllOf host host
none_of host n now found = (now, found)

-- ---- an item is read

pub not_over : (stage : Stage) → is_open stage ≡ true → is_ended stage ≡ false
not_over Open e = refl
not_over Pending e = absurd cc
not_over Ended e = absurd cc

-- the end from which the item in front was taken
abbrev pub taken : Socket → Socket
taken socket = record socket { since = drop (front_of socket).1 socket.since; expected = expected.Frame }

read_one : (socket now : Socket) (item : Item) (host : HostState) → Fronts host socket item → taken socket ≡ now → ReadSo socket now (frames_in (item ∷ []))
read_one socket now item host f is = subst (λ (w : Socket). ReadSo socket w (frames_in (item ∷ []))) is (record { stood = not_over socket.stage f.stands; read = item ∷ []; are = (f.front, (refl, refl)); framed = refl; user = refl })

-- the host's end of that number is this one
front_known : (host : HostState) (socket : Socket) (item : Item) (n : ℕ) (known : Socket) → Fronts host socket item → (socket.number == n) ≡ true → find (is_socket n) host.sockets ≡ Some known → socket ≡ known
front_known host socket item n known f h k = some_is socket known (sym f.found ∙ ap (λ (m : ℕ). find (is_socket m) host.sockets) (number_is socket.number n h) ∙ k)

pub taken_so : (host : HostState) (socket : Socket) (item : Item) → Fronts host socket item → AllReadSo host (with_socket (taken socket) host) (λ n. cond (socket.number == n) (frames_in (item ∷ [])) [])
taken_so host socket item f n known now k g e = by_test (socket.number == n) refl (sym (find_stored (taken socket) host.sockets n) ∙ g) where
  by_test : (b : Bool) → (socket.number == n) ≡ b → cond b (Some (taken socket)) (find (is_socket n) host.sockets) ≡ Some now → ReadSo known now (cond b (frames_in (item ∷ [])) [])
  by_test true h is = subst (λ (w : Socket). ReadSo w now (frames_in (item ∷ []))) (front_known host socket item n known f h k) (read_one socket now item host f (some_is (taken socket) now is))
  by_test false h is = none_so host n known now k is e

pub taken_of_host : (host : HostState) (socket : Socket) (item : Item) → Fronts host socket item → AllOf host (with_socket (taken socket) host)
taken_of_host host socket item f n now g = by_test (socket.number == n) refl (sym (find_stored (taken socket) host.sockets n) ∙ g) where
  by_test : (b : Bool) → (socket.number == n) ≡ b → cond b (Some (taken socket)) (find (is_socket n) host.sockets) ≡ Some now → (known : Socket) × (find (is_socket n) host.sockets ≡ Some known)
  by_test true h is = (socket, ap (λ (m : ℕ). find (is_socket m) host.sockets) (sym (number_is socket.number n h)) ∙ f.found)
  by_test false h is = (now, is)

-- ---- a request is read

-- the end that asks is for this link then
abbrev pub asking : Socket → ℕ → Address → Socket
asking socket target peer = record (taken socket) { user = Some (target, peer) }

users_are : (a b : ℕ × Address) → ◌≡◌ {A = Option (ℕ × Address)} (Some a) (Some b) → a ≡ b
users_are a b e = cc

-- and has no connection, unless that end is over
pub asked_there : (host after : HostState) (socket : Socket) (request : Request) (target : ℕ) (peer : Address) → Fronts host socket (items.Request request) → socket.user ≡ None → WereSo (with_socket (asking socket target peer) (with_socket (taken socket) host)) after
    → ((now : Socket) → find (is_socket socket.number) after.sockets ≡ Some now → is_ended now.stage ≡ false → (link_with after target peer).created ≡ []) → AllReadThere host after (λ n. [])
asked_there host after socket request target peer f unused so none n known now k g e = by_test (socket.number == n) refl (sym (find_stored (asking socket target peer) (with_socket (taken socket) host).sockets n) ∙ so n now g e) where
  here : (socket.number == n) ≡ true → (link_with after target peer).created ≡ []
  here h = none now (subst (λ (m : ℕ). find (is_socket m) after.sockets ≡ Some now) (sym (number_is socket.number n h)) g) e

  new : (socket.number == n) ≡ true → ReadThere socket (asking socket target peer) [] after
  new h = record { stood = not_over socket.stage f.stands; read = items.Request request ∷ []; are = (f.front, (refl, refl)); framed = refl; user = inr (unused, λ end p w. by_user end p (users_are (target, peer) (end, p) w)) } where
    by_user : (end : ℕ) (p : Address) → ◌≡◌ {A = ℕ × Address} (target, peer) (end, p) → (link_with after end p).created ≡ []
    by_user end p w = subst (λ (u : ℕ × Address). (link_with after u.0 u.1).created ≡ []) w (here h)

  by_test : (b : Bool) → (socket.number == n) ≡ b → cond b (Some (asking socket target peer)) (find (is_socket n) (with_socket (taken socket) host).sockets) ≡ Some now → ReadThere known now [] after
  by_test true h is = subst (λ (w : Socket). ReadThere w now [] after) (front_known host socket (items.Request request) n known f h k) (subst (λ (w : Socket). ReadThere socket w [] after) (some_is (asking socket target peer) now is) (new h))
  by_test false h is = subst (λ b. ReadThere known now (cond b [] []) after) h (there_of known now (cond (socket.number == n) [] []) after (taken_so host socket (items.Request request) f n known now k is e))

-- ---- frames

-- a frame of none at one end
pub none_at : (sock n : ℕ) (frames : List Frame) → AreOfNone frames → AreOfNone (cond (sock == n) frames [])
none_at sock n frames none = by_test (sock == n) where
  by_test : (b : Bool) → AreOfNone (cond b frames [])
  by_test true = none
  by_test false = tt
