-- What each change of a socket does to its words.
use Rattle.std.proofs.Common.{◌≡◌, ◌⊎◌, Bool, true, false, List, [], ◌∷◌, ◌++◌, refl, sym, subst, arith}
use Rattle.ch_race.specs.Pair.{Side, OEnd, OPending, OAsking, OUp, OEnded, TEnd, TPending, TOpen, TUp, TEnded, Item, Request, Accepted, Crossed, Invalid, EndClosed, Probe, Ack, Data, Sock, dead, to_o, to_t, end_o, end_t, fresh, written, o_ended, t_ended}
use Rattle.ch_race.specs.Moves.{IsOpen_o, IsOpen_t}
use Rattle.ch_race.specs.Words.{Frames, Answers, Begins, In_o, In_t, Phase, Uncut_o, Uncut_t, UnlessCut, Words}

down_more : (a d : Bool) (w : List Item) → Frames a false w → Frames a d w
down_more a d [] h = tt
down_more a d (Data ∷ w) h = down_more a d w h
down_more a d (Probe ∷ w) h = down_more a d w h
down_more a d (Ack ∷ w) (is, h) = (is, down_more a d w h)
down_more a d (EndClosed ∷ w) (is, h) = absurd (cc)
down_more a d (Request ∷ w) h = absurd h
down_more a d (Accepted ∷ w) h = absurd h
down_more a d (Crossed ∷ w) h = absurd h
down_more a d (Invalid ∷ w) h = absurd h

down_full : (a d : Bool) (w : List Item) → Frames a d w → Frames a true w
down_full a d [] h = tt
down_full a d (Data ∷ w) h = down_full a d w h
down_full a d (Probe ∷ w) h = down_full a d w h
down_full a d (Ack ∷ w) (is, h) = (is, down_full a d w h)
down_full a d (EndClosed ∷ w) (is, h) = (refl, h)
down_full a d (Request ∷ w) h = absurd h
down_full a d (Accepted ∷ w) h = absurd h
down_full a d (Crossed ∷ w) h = absurd h
down_full a d (Invalid ∷ w) h = absurd h

answers_full : (d : Bool) (w : List Item) → Answers d w → Answers true w
answers_full d [] h = tt
answers_full d (Crossed ∷ w) h = h
answers_full d (Invalid ∷ w) (is, h) = (refl, h)
answers_full d (Accepted ∷ w) h = down_full false d w h
answers_full d (Request ∷ w) h = absurd h
answers_full d (EndClosed ∷ w) h = absurd h
answers_full d (Probe ∷ w) h = absurd h
answers_full d (Ack ∷ w) h = absurd h
answers_full d (Data ∷ w) h = absurd h

acks_more : (d : Bool) (w : List Item) → Frames false d w → Frames true d w
acks_more d [] h = tt
acks_more d (Data ∷ w) h = acks_more d w h
acks_more d (Probe ∷ w) h = acks_more d w h
acks_more d (Ack ∷ w) (is, h) = absurd (cc)
acks_more d (EndClosed ∷ w) h = h
acks_more d (Request ∷ w) h = absurd h
acks_more d (Accepted ∷ w) h = absurd h
acks_more d (Crossed ∷ w) h = absurd h
acks_more d (Invalid ∷ w) h = absurd h

frames_append : (a d : Bool) (w v : List Item) → Frames a false w → Frames a d v → Frames a d (w ++ v)
frames_append a d [] v h g = g
frames_append a d (Data ∷ w) v h g = frames_append a d w v h g
frames_append a d (Probe ∷ w) v h g = frames_append a d w v h g
frames_append a d (Ack ∷ w) v (is, h) g = (is, frames_append a d w v h g)
frames_append a d (EndClosed ∷ w) v (is, h) g = absurd (cc)
frames_append a d (Request ∷ w) v h g = absurd h
frames_append a d (Accepted ∷ w) v h g = absurd h
frames_append a d (Crossed ∷ w) v h g = absurd h
frames_append a d (Invalid ∷ w) v h g = absurd h

-- an end ends
end_o_phase : (o : OEnd) (t : TEnd) → Phase o t → Phase OEnded t
end_o_phase o t h = grind arith

end_o_word : (o : OEnd) (t : TEnd) (down cut : Bool) (w : List Item) → Phase o t → UnlessCut cut w (In_t o t down w) → UnlessCut cut w (In_t OEnded t down w)
end_o_word o t down cut w ph h = grind (arith, down_more)

no_word_o : (t : TEnd) (down cut : Bool) → UnlessCut cut [] (In_o OEnded t down [])
no_word_o t down cut = grind arith

pub end_o_words : (a b : Bool) (s : Sock) → Words a b s → Words a b (end_o s)
end_o_words a b s h = record {
  phase = end_o_phase s.o s.t h.phase;
  uncut_o = tt;
  uncut_t = h.uncut_t;
  word_o = no_word_o s.t b s.cut_o;
  word_t = end_o_word s.o s.t a s.cut_t s.in_t h.phase h.word_t;
}

end_t_phase : (o : OEnd) (t : TEnd) → Phase o t → Phase o TEnded
end_t_phase o t h = grind arith

end_t_word : (o : OEnd) (t : TEnd) (down cut : Bool) (w : List Item) → Phase o t → UnlessCut cut w (In_o o t down w) → UnlessCut cut w (In_o o TEnded down w)
end_t_word o t down cut w ph h = grind (arith, down_more)

no_word_t : (o : OEnd) (down cut : Bool) → UnlessCut cut [] (In_t o TEnded down [])
no_word_t o down cut = grind arith

pub end_t_words : (a b : Bool) (s : Sock) → Words a b s → Words a b (end_t s)
end_t_words a b s h = record {
  phase = end_t_phase s.o s.t h.phase;
  uncut_o = h.uncut_o;
  uncut_t = tt;
  word_o = end_t_word s.o s.t b s.cut_o s.in_o h.phase h.word_o;
  word_t = no_word_t s.o a s.cut_t;
}

-- an up end writes a frame
says_t_word : (o : OEnd) (t : TEnd) (down cut : Bool) (w : List Item) (item : Item) → o ≡ OUp → Phase o t → Frames true false (item ∷ []) → UnlessCut cut w (In_t o t down w)
    → UnlessCut cut (written (t_ended t) cut item w) (In_t o t down (written (t_ended t) cut item w))
says_t_word OUp TUp down false w item is ph f h = frames_append true false w (item ∷ []) h f
says_t_word OUp TUp down true w item is ph f h = h
says_t_word OUp TEnded down cut w item is ph f h = h
says_t_word OUp TPending down cut w item is ph f h = absurd ph
says_t_word OUp TOpen down cut w item is ph f h = absurd ph
says_t_word OPending t down cut w item is ph f h = absurd (cc)
says_t_word OAsking t down cut w item is ph f h = absurd (cc)
says_t_word OEnded t down cut w item is ph f h = absurd (cc)

pub to_t_words : (a b : Bool) (s : Sock) (item : Item) → s.o ≡ OUp → Frames true false (item ∷ []) → Words a b s → Words a b (to_t item s)
to_t_words a b s item is f h = record { phase = h.phase; uncut_o = h.uncut_o; uncut_t = h.uncut_t; word_o = h.word_o; word_t = says_t_word s.o s.t a s.cut_t s.in_t item is h.phase f h.word_t }

begins_append : (w : List Item) (item : Item) → Begins w → Frames false false (item ∷ []) → Begins (w ++ item ∷ [])
begins_append (Accepted ∷ w) item h f = frames_append false false w (item ∷ []) h f
begins_append w item h f = absurd h

says_o_word : (o : OEnd) (t : TEnd) (down cut : Bool) (w : List Item) (item : Item) → t ≡ TUp → Phase o t → Frames false false (item ∷ []) → UnlessCut cut w (In_o o t down w)
    → UnlessCut cut (written (o_ended o) cut item w) (In_o o t down (written (o_ended o) cut item w))
says_o_word OUp TUp down false w item is ph f h = frames_append true false w (item ∷ []) h (acks_more false (item ∷ []) f)
says_o_word OAsking TUp down false w item is ph f h = begins_append w item h f
says_o_word OAsking TUp down true w item is ph f h = h
says_o_word OUp TUp down true w item is ph f h = h
says_o_word OEnded TUp down cut w item is ph f h = h
says_o_word OPending TUp down cut w item is ph f h = absurd ph
says_o_word o TPending down cut w item is ph f h = absurd (cc)
says_o_word o TOpen down cut w item is ph f h = absurd (cc)
says_o_word o TEnded down cut w item is ph f h = absurd (cc)

pub to_o_words : (a b : Bool) (s : Sock) (item : Item) → s.t ≡ TUp → Frames false false (item ∷ []) → Words a b s → Words a b (to_o item s)
to_o_words a b s item is f h = record { phase = h.phase; uncut_o = h.uncut_o; uncut_t = h.uncut_t; word_t = h.word_t; word_o = says_o_word s.o s.t b s.cut_o s.in_o item is h.phase f h.word_o }

-- a request is accepted
popped : (o : OEnd) (down cut : Bool) (w : List Item) → UnlessCut cut (Request ∷ w) (In_t o TOpen down (Request ∷ w)) → w ≡ []
popped o down cut w h = grind arith

pub asked : (o : OEnd) (down cut : Bool) (w : List Item) → UnlessCut cut (Request ∷ w) (In_t o TOpen down (Request ∷ w)) → (o ≡ OAsking) ⊎ (o ≡ OEnded)
asked o down cut w h = grind arith

accept_phase : (o : OEnd) → (o ≡ OAsking) ⊎ (o ≡ OEnded) → Phase o TUp
accept_phase o h = grind arith

accept_word_o : (o : OEnd) (down cut : Bool) (w : List Item) → (o ≡ OAsking) ⊎ (o ≡ OEnded) → UnlessCut cut w (In_o o TOpen down w)
    → UnlessCut cut (written (o_ended o) cut Accepted w) (In_o o TUp down (written (o_ended o) cut Accepted w))
accept_word_o o down cut w is h = grind arith

accept_word_t : (o : OEnd) (down cut : Bool) (w : List Item) → (o ≡ OAsking) ⊎ (o ≡ OEnded) → w ≡ [] → UnlessCut cut w (In_t o TUp down w)
accept_word_t o down cut w is h = grind arith

module _ (a b : Bool) (s : Sock) (w : List Item) (h : Words a b s) (open_t : TOpen ≡ s.t) (first : Request ∷ w ≡ s.in_t) where
  pub asked_word : UnlessCut s.cut_t (Request ∷ w) (In_t s.o TOpen a (Request ∷ w))
  asked_word = subst (λ (t : TEnd). UnlessCut s.cut_t (Request ∷ w) (In_t s.o t a (Request ∷ w))) (sym open_t) (subst (λ (v : List Item). UnlessCut s.cut_t v (In_t s.o s.t a v)) (sym first) h.word_t)

  pub empty : w ≡ []
  empty = popped s.o a s.cut_t w asked_word

  pub asker : (s.o ≡ OAsking) ⊎ (s.o ≡ OEnded)
  asker = asked s.o a s.cut_t w asked_word

  pub open_word : UnlessCut s.cut_o s.in_o (In_o s.o TOpen b s.in_o)
  open_word = subst (λ (t : TEnd). UnlessCut s.cut_o s.in_o (In_o s.o t b s.in_o)) (sym open_t) h.word_o

  pub accept_words : Words a b (record (to_o Accepted (record s { in_t = w })) { t = TUp })
  accept_words = record {
    phase = accept_phase s.o asker;
    uncut_o = h.uncut_o;
    uncut_t = tt;
    word_o = accept_word_o s.o b s.cut_o s.in_o asker open_word;
    word_t = accept_word_t s.o a s.cut_t w asker empty;
  }

-- a request is declined
decline_word_o : (o : OEnd) (down cut : Bool) (w : List Item) (item : Item) → Answers down (item ∷ []) → (o ≡ OAsking) ⊎ (o ≡ OEnded) → UnlessCut cut w (In_o o TOpen down w)
    → UnlessCut cut (written (o_ended o) cut item w) (In_o o TEnded down (written (o_ended o) cut item w))
decline_word_o o down cut w item f is h = grind arith

decline_phase : (o : OEnd) → (o ≡ OAsking) ⊎ (o ≡ OEnded) → Phase o TEnded
decline_phase o h = grind arith

module _ (a b : Bool) (s : Sock) (w : List Item) (h : Words a b s) (open_t : TOpen ≡ s.t) (first : Request ∷ w ≡ s.in_t) (item : Item) (f : Answers b (item ∷ [])) where
  pub decline_words : Words a b (end_t (to_o item (record s { in_t = w })))
  decline_words = record {
    phase = decline_phase s.o (asker a b s w h open_t first);
    uncut_o = h.uncut_o;
    uncut_t = tt;
    word_o = decline_word_o s.o b s.cut_o s.in_o item f (asker a b s w h open_t first) (open_word a b s w h open_t first);
    word_t = no_word_t s.o a s.cut_t;
  }

-- an up end ends and says so
closed_word_o : (o : OEnd) (down cut : Bool) (w : List Item) → down ≡ true → Phase o TUp → UnlessCut cut w (In_o o TUp down w)
    → UnlessCut cut (written (o_ended o) cut EndClosed w) (In_o o TEnded down (written (o_ended o) cut EndClosed w))
closed_word_o OUp down false w is ph h = frames_append true down w (EndClosed ∷ []) h (is, refl)
closed_word_o OAsking down false (Accepted ∷ w) is ph h = frames_append false down w (EndClosed ∷ []) h (is, refl)
closed_word_o OAsking down false w is ph h = absurd h
closed_word_o OUp down true w is ph h = h
closed_word_o OAsking down true w is ph h = h
closed_word_o OEnded down cut w is ph h = h
closed_word_o OPending down cut w is ph h = absurd ph

closed_word_t : (t : TEnd) (down cut : Bool) (w : List Item) → down ≡ true → Phase OUp t → UnlessCut cut w (In_t OUp t down w)
    → UnlessCut cut (written (t_ended t) cut EndClosed w) (In_t OEnded t down (written (t_ended t) cut EndClosed w))
closed_word_t TUp down false w is ph h = frames_append true down w (EndClosed ∷ []) h (is, refl)
closed_word_t TUp down true w is ph h = h
closed_word_t TEnded down cut w is ph h = h
closed_word_t TPending down cut w is ph h = absurd ph
closed_word_t TOpen down cut w is ph h = absurd ph

-- a frame is handled
next_o : (t : TEnd) (down cut : Bool) (item : Item) (w : List Item) → Phase OUp t → UnlessCut cut (item ∷ w) (In_o OUp t down (item ∷ w)) → UnlessCut cut w (In_o OUp t down w)
next_o t down cut item w ph h = grind arith

next_t : (o : OEnd) (down cut : Bool) (item : Item) (w : List Item) → Phase o TUp → UnlessCut cut (item ∷ w) (In_t o TUp down (item ∷ w)) → UnlessCut cut w (In_t o TUp down w)
next_t o down cut item w ph h = grind arith

-- an Ack is written: the target has a Probe to read only where the opener isn't asking
ack_phase : (o : OEnd) (down cut : Bool) (w : List Item) → Phase o TUp → UnlessCut cut (Probe ∷ w) (In_t o TUp down (Probe ∷ w)) → (o ≡ OUp) ⊎ (o ≡ OEnded)
ack_phase o down cut w ph h = grind arith

ack_word_o : (o : OEnd) (down cut : Bool) (w : List Item) → (o ≡ OUp) ⊎ (o ≡ OEnded) → UnlessCut cut w (In_o o TUp down w)
    → UnlessCut cut (written (o_ended o) cut Ack w) (In_o o TUp down (written (o_ended o) cut Ack w))
ack_word_o OUp down false w is h = frames_append true false w (Ack ∷ []) h (refl, tt)
ack_word_o OUp down true w is h = h
ack_word_o OEnded down cut w is h = h
ack_word_o OAsking down cut w is h = absurd (grind arith)
ack_word_o OPending down cut w is h = absurd (grind arith)

-- the opener reads its acceptance
pub raised_phase : (t : TEnd) (down cut : Bool) (w : List Item) → UnlessCut cut (Accepted ∷ w) (In_o OAsking t down (Accepted ∷ w)) → (t ≡ TUp) ⊎ (t ≡ TEnded)
raised_phase t down cut w h = grind arith

raised_ok : (t : TEnd) → (t ≡ TUp) ⊎ (t ≡ TEnded) → Phase OUp t
raised_ok t h = grind arith

raised_word_o : (t : TEnd) (down cut : Bool) (w : List Item) → UnlessCut cut (Accepted ∷ w) (In_o OAsking t down (Accepted ∷ w)) → UnlessCut cut w (In_o OUp t down w)
raised_word_o t down cut w h = grind (arith, acks_more)

raised_word_t : (t : TEnd) (down cut : Bool) (w : List Item) → (t ≡ TUp) ⊎ (t ≡ TEnded) → UnlessCut cut w (In_t OAsking t down w) → UnlessCut cut w (In_t OUp t down w)
raised_word_t t down cut w is h = grind arith

-- the request is written
join_word_t : (t : TEnd) (down cut : Bool) (w : List Item) → Phase OPending t → UnlessCut cut w (In_t OPending t down w)
    → UnlessCut cut (written (t_ended t) cut Request w) (In_t OAsking t down (written (t_ended t) cut Request w))
join_word_t t down cut w ph h = grind arith

join_word_o : (t : TEnd) (down cut : Bool) (w : List Item) → Phase OPending t → UnlessCut cut w (In_o OPending t down w) → UnlessCut cut w (In_o OAsking t down w)
join_word_o t down cut w ph h = grind arith

join_phase : (t : TEnd) → Phase OPending t → Phase OAsking t
join_phase t h = grind arith

-- a node shuts down
shut_word_o : (o : OEnd) (t : TEnd) (down cut : Bool) (w : List Item) → UnlessCut cut w (In_o o t down w) → UnlessCut cut w (In_o o t true w)
shut_word_o o t down cut w h = grind (arith, answers_full, down_full)

shut_word_t : (o : OEnd) (t : TEnd) (down cut : Bool) (w : List Item) → UnlessCut cut w (In_t o t down w) → UnlessCut cut w (In_t o t true w)
shut_word_t o t down cut w h = grind (arith, down_full)

-- the same of whole sockets
pub join_words : (a b : Bool) (s : Sock) → OPending ≡ s.o → Words a b s → Words a b (to_t Request (record s { o = OAsking }))
join_words a b s is h = record {
  phase = join_phase s.t ph;
  uncut_o = tt;
  uncut_t = h.uncut_t;
  word_o = join_word_o s.t b s.cut_o s.in_o ph (subst (λ (o : OEnd). UnlessCut s.cut_o s.in_o (In_o o s.t b s.in_o)) (sym is) h.word_o);
  word_t = join_word_t s.t a s.cut_t s.in_t ph (subst (λ (o : OEnd). UnlessCut s.cut_t s.in_t (In_t o s.t a s.in_t)) (sym is) h.word_t);
} where
  ph : Phase OPending s.t
  ph = subst (λ (o : OEnd). Phase o s.t) (sym is) h.phase

come_phase : (o : OEnd) → Phase o TPending → Phase o TOpen
come_phase o h = grind arith

come_word_o : (o : OEnd) (down cut : Bool) (w : List Item) → Phase o TPending → UnlessCut cut w (In_o o TPending down w) → UnlessCut cut w (In_o o TOpen down w)
come_word_o o down cut w ph h = grind arith

come_word_t : (o : OEnd) (down cut : Bool) (w : List Item) → Phase o TPending → UnlessCut cut w (In_t o TPending down w) → UnlessCut cut w (In_t o TOpen down w)
come_word_t o down cut w ph h = grind arith

pub come_words : (a b : Bool) (s : Sock) → TPending ≡ s.t → Words a b s → Words a b (record s { t = TOpen })
come_words a b s is h = record {
  phase = come_phase s.o ph;
  uncut_o = h.uncut_o;
  uncut_t = tt;
  word_o = come_word_o s.o b s.cut_o s.in_o ph (subst (λ (t : TEnd). UnlessCut s.cut_o s.in_o (In_o s.o t b s.in_o)) (sym is) h.word_o);
  word_t = come_word_t s.o a s.cut_t s.in_t ph (subst (λ (t : TEnd). UnlessCut s.cut_t s.in_t (In_t s.o t a s.in_t)) (sym is) h.word_t);
} where
  ph : Phase s.o TPending
  ph = subst (λ (t : TEnd). Phase s.o t) (sym is) h.phase

uncut_open_o : (o : OEnd) (cut : Bool) → IsOpen_o o → Uncut_o o cut
uncut_open_o o cut h = grind arith

uncut_open_t : (t : TEnd) (cut : Bool) → IsOpen_t t → Uncut_t t cut
uncut_open_t t cut h = grind arith

pub cut_o_words : (a b : Bool) (s : Sock) → IsOpen_o s.o → Words a b s → Words a b (record s { cut_o = true; in_o = [] })
cut_o_words a b s is h = record { phase = h.phase; uncut_o = uncut_open_o s.o true is; uncut_t = h.uncut_t; word_o = refl; word_t = h.word_t }

pub cut_t_words : (a b : Bool) (s : Sock) → IsOpen_t s.t → Words a b s → Words a b (record s { cut_t = true; in_t = [] })
cut_t_words a b s is h = record { phase = h.phase; uncut_o = h.uncut_o; uncut_t = uncut_open_t s.t true is; word_o = h.word_o; word_t = refl }

pub shut_o_words : (a b : Bool) (s : Sock) → Words a b s → Words true b s
shut_o_words a b s h = record { phase = h.phase; uncut_o = h.uncut_o; uncut_t = h.uncut_t; word_o = h.word_o; word_t = shut_word_t s.o s.t a s.cut_t s.in_t h.word_t }

pub shut_t_words : (a b : Bool) (s : Sock) → Words a b s → Words a true s
shut_t_words a b s h = record { phase = h.phase; uncut_o = h.uncut_o; uncut_t = h.uncut_t; word_t = h.word_t; word_o = shut_word_o s.o s.t b s.cut_o s.in_o h.word_o }

pub closed_t_words : (a b : Bool) (s : Sock) → b ≡ true → TUp ≡ s.t → Words a b s → Words a b (end_t (to_o EndClosed s))
closed_t_words a b s is up h = record {
  phase = end_t_phase s.o s.t h.phase;
  uncut_o = h.uncut_o;
  uncut_t = tt;
  word_t = no_word_t s.o a s.cut_t;
  word_o = closed_word_o s.o b s.cut_o s.in_o is (subst (λ (t : TEnd). Phase s.o t) (sym up) h.phase) (subst (λ (t : TEnd). UnlessCut s.cut_o s.in_o (In_o s.o t b s.in_o)) (sym up) h.word_o);
}

pub closed_o_words : (a b : Bool) (s : Sock) → a ≡ true → OUp ≡ s.o → Words a b s → Words a b (end_o (to_t EndClosed s))
closed_o_words a b s is up h = record {
  phase = end_o_phase s.o s.t h.phase;
  uncut_o = tt;
  uncut_t = h.uncut_t;
  word_o = no_word_o s.t b s.cut_o;
  word_t = closed_word_t s.t a s.cut_t s.in_t is (subst (λ (o : OEnd). Phase o s.t) (sym up) h.phase) (subst (λ (o : OEnd). UnlessCut s.cut_t s.in_t (In_t o s.t a s.in_t)) (sym up) h.word_t);
}

module _ (a b : Bool) (s : Sock) (item : Item) (w : List Item) (h : Words a b s) where
  module _ (up : TUp ≡ s.t) (first : item ∷ w ≡ s.in_t) where
    read_t : UnlessCut s.cut_t (item ∷ w) (In_t s.o TUp a (item ∷ w))
    read_t = subst (λ (t : TEnd). UnlessCut s.cut_t (item ∷ w) (In_t s.o t a (item ∷ w))) (sym up) (subst (λ (v : List Item). UnlessCut s.cut_t v (In_t s.o s.t a v)) (sym first) h.word_t)

    up_phase : Phase s.o TUp
    up_phase = subst (λ (t : TEnd). Phase s.o t) (sym up) h.phase

    pub next_t_words : Words a b (record s { in_t = w })
    next_t_words = record {
      phase = h.phase;
      uncut_o = h.uncut_o;
      uncut_t = h.uncut_t;
      word_o = h.word_o;
      word_t = subst (λ (t : TEnd). UnlessCut s.cut_t w (In_t s.o t a w)) up (next_t s.o a s.cut_t item w up_phase read_t);
    }

  module _ (up : OUp ≡ s.o) (first : item ∷ w ≡ s.in_o) where
    read_o : UnlessCut s.cut_o (item ∷ w) (In_o OUp s.t b (item ∷ w))
    read_o = subst (λ (o : OEnd). UnlessCut s.cut_o (item ∷ w) (In_o o s.t b (item ∷ w))) (sym up) (subst (λ (v : List Item). UnlessCut s.cut_o v (In_o s.o s.t b v)) (sym first) h.word_o)

    pub next_o_words : Words a b (record s { in_o = w })
    next_o_words = record {
      phase = h.phase;
      uncut_o = h.uncut_o;
      uncut_t = h.uncut_t;
      word_t = h.word_t;
      word_o = subst (λ (o : OEnd). UnlessCut s.cut_o w (In_o o s.t b w)) up (next_o s.t b s.cut_o item w (subst (λ (o : OEnd). Phase o s.t) (sym up) h.phase) read_o);
    }

pub ack_o_words : (a b : Bool) (s : Sock) (w : List Item) → TUp ≡ s.t → Probe ∷ w ≡ s.in_t → Words a b s → Words a b (to_o Ack (record s { in_t = w }))
ack_o_words a b s w up first h = record {
  phase = h.phase;
  uncut_o = h.uncut_o;
  uncut_t = h.uncut_t;
  word_t = (next_t_words a b s Probe w h up first).word_t;
  word_o = subst (λ (t : TEnd). UnlessCut s.cut_o (written (o_ended s.o) s.cut_o Ack s.in_o) (In_o s.o t b (written (o_ended s.o) s.cut_o Ack s.in_o))) up
      (ack_word_o s.o b s.cut_o s.in_o (ack_phase s.o a s.cut_t w (up_phase a b s Probe w h up first) (read_t a b s Probe w h up first))
      (subst (λ (t : TEnd). UnlessCut s.cut_o s.in_o (In_o s.o t b s.in_o)) (sym up) h.word_o));
}

pub ack_t_words : (a b : Bool) (s : Sock) (w : List Item) → OUp ≡ s.o → Probe ∷ w ≡ s.in_o → Words a b s → Words a b (to_t Ack (record s { in_o = w }))
ack_t_words a b s w up first h = to_t_words a b (record s { in_o = w }) Ack (sym up) (refl, tt) (next_o_words a b s Probe w h up first)

pub raised_words : (a b : Bool) (s : Sock) (w : List Item) → OAsking ≡ s.o → Accepted ∷ w ≡ s.in_o → Words a b s → Words a b (record s { o = OUp; in_o = w })
raised_words a b s w is first h = record {
  phase = raised_ok s.t up;
  uncut_o = tt;
  uncut_t = h.uncut_t;
  word_o = raised_word_o s.t b s.cut_o w read;
  word_t = raised_word_t s.t a s.cut_t s.in_t up (subst (λ (o : OEnd). UnlessCut s.cut_t s.in_t (In_t o s.t a s.in_t)) (sym is) h.word_t);
} where
  read : UnlessCut s.cut_o (Accepted ∷ w) (In_o OAsking s.t b (Accepted ∷ w))
  read = subst (λ (o : OEnd). UnlessCut s.cut_o (Accepted ∷ w) (In_o o s.t b (Accepted ∷ w))) (sym is) (subst (λ (v : List Item). UnlessCut s.cut_o v (In_o s.o s.t b v)) (sym first) h.word_o)

  up : (s.t ≡ TUp) ⊎ (s.t ≡ TEnded)
  up = raised_phase s.t b s.cut_o w read

pub fresh_words : (a b : Bool) (x : Side) → Words a b (fresh x)
fresh_words a b x = record { phase = tt; uncut_o = refl; uncut_t = refl; word_o = refl; word_t = refl }

pub dead_words : (a b : Bool) → Words a b dead
dead_words a b = record { phase = tt; uncut_o = tt; uncut_t = tt; word_o = refl; word_t = refl }
