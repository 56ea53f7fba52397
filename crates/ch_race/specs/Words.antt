-- What may stand unread on a socket, by the states of its two ends.
use Rattle.std.specs.Prelude.{◌≡◌, ℕ, Bool, true, false, List, [], ◌∷◌}
use Rattle.ch_race.specs.Pair.{other, OEnd, OPending, OAsking, OUp, OEnded, TEnd, TPending, TOpen, TUp, TEnded, Item, Request, Accepted, Crossed, Invalid, EndClosed, Probe, Ack, Data, Sock, Pair}

-- frames, with Ack among them if acks, with EndClosed last if down
abbrev pub Frames : Bool → Bool → List Item → Type 0
Frames acks down [] = Unit {0}
Frames acks down (Data ∷ w) = Frames acks down w
Frames acks down (Probe ∷ w) = Frames acks down w
Frames acks down (Ack ∷ w) = (acks ≡ true) × Frames acks down w
Frames acks down (EndClosed ∷ w) = (down ≡ true) × (w ≡ [])
Frames acks down (item ∷ w) = ⊥

-- what may be the answer to a request that was declined, or accepted and left
abbrev pub Answers : Bool → List Item → Type 0
Answers down [] = Unit {0}
Answers down (Crossed ∷ w) = w ≡ []
Answers down (Invalid ∷ w) = (down ≡ true) × (w ≡ [])
Answers down (Accepted ∷ w) = Frames false down w
Answers down (item ∷ w) = ⊥

-- an acceptance that is unread, with frames behind it, and no Ack among them
abbrev pub Begins : List Item → Type 0
Begins (Accepted ∷ w) = Frames false false w
Begins w = ⊥

-- a request, or nothing
abbrev pub AtMostRequest : List Item → Type 0
AtMostRequest [] = Unit {0}
AtMostRequest (Request ∷ w) = w ≡ []
AtMostRequest w = ⊥

-- the word towards the opener. down: the target is shut
abbrev pub In_o : OEnd → TEnd → Bool → List Item → Type 0
In_o OAsking TUp down w = Begins w
In_o OAsking TEnded down w = Answers down w
In_o OUp TUp down w = Frames true false w
In_o OUp TEnded down w = Frames true down w
In_o o t down w = w ≡ []

-- the word towards the target. down: the opener is shut
abbrev pub In_t : OEnd → TEnd → Bool → List Item → Type 0
In_t OAsking TPending down w = w ≡ Request ∷ []
In_t OAsking TOpen down w = w ≡ Request ∷ []
In_t OEnded TPending down w = AtMostRequest w
In_t OEnded TOpen down w = AtMostRequest w
In_t OUp TUp down w = Frames true false w
In_t OEnded TUp down w = Frames true down w
In_t o t down w = w ≡ []

-- no end is up before its peer took the request, and the target not before the opener joined
abbrev pub Phase : OEnd → TEnd → Type 0
Phase OPending TUp = ⊥
Phase OUp TPending = ⊥
Phase OUp TOpen = ⊥
Phase o t = Unit {0}

-- nothing is cut before the opener joined
abbrev pub Uncut_o : OEnd → Bool → Type 0
Uncut_o OPending cut = cut ≡ false
Uncut_o o cut = Unit {0}

-- nothing is cut before the target came
abbrev pub Uncut_t : TEnd → Bool → Type 0
Uncut_t TPending cut = cut ≡ false
Uncut_t t cut = Unit {0}

-- nothing is unread where the way is cut; else the fact holds
abbrev pub UnlessCut : Bool → List Item → Type 0 → Type 0
UnlessCut true w P = w ≡ []
UnlessCut false w P = P

-- the whole table for one socket. down_o, down_t: the opener, the target is shut
pub record Words (down_o down_t : Bool) (s : Sock) : Type 0 where
  pub phase : Phase s.o s.t
  pub uncut_o : Uncut_o s.o s.cut_o
  pub uncut_t : Uncut_t s.t s.cut_t
  pub word_o : UnlessCut s.cut_o s.in_o (In_o s.o s.t down_t s.in_o)
  pub word_t : UnlessCut s.cut_t s.in_t (In_t s.o s.t down_o s.in_t)

-- the same of every socket of the pair
abbrev pub Worded : Pair → Type 0
Worded p = (i : ℕ) → Words (p.shut (p.sock i).opener) (p.shut (other (p.sock i).opener)) (p.sock i)
