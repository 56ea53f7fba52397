-- Each step of a host keeps what targets are asked and openers are answered.
use Rattle.std.proofs.Common.{◌≡◌, ℕ, Bool, true, false, cond, ◌&&◌, inl, inr, List, [], ◌∷◌, ◌++◌, refl, sym, ap, ◌∙◌, subst, append_assoc}
use Rattle.std.proofs.lemmas.List.{append-nil}
use Rattle.std.specs.Prelude.{Option, Some, None, ◌==◌}
use Rattle.ch_base.specs.declared.address.Address.{Address}
use Rattle.ch_wire.specs.Spelling.{request_spelling, answer_spelling}
use Rattle.ch_wire.specs.declared.answer.Answer.TheVariants.{Mismatch}
use Rattle.ch_model.specs.declared.line.Line.{Line}
use Rattle.ch_model.specs.declared.name.End.{End}
use Rattle.ch_model.specs.declared.name.End.TheVariants.{O, T}
use Rattle.ch_model.specs.declared.name.SockName.{SockName}
use Rattle.ch_model.specs.declared.step.Place.{Place}
use Rattle.ch_model.specs.Naming.{Names}
use Rattle.ch_model.specs.WorldSockets.{end_of, with_end, ended, item_arrives, same_number, is_end_of}
use Rattle.ch_model.specs.WorldState.{WorldEnd, WorldSocket}
use Rattle.ch_model.specs.WorldSteps.{later_places}
use Rattle.ch_laws_log.proofs.Stored.{number_is}
use Rattle.ch_laws_writes.specs.Dues.{Due, Asking, Answering, Framing, due_past, IsDue}
use Rattle.ch_laws_bytes.proofs.Lines.{own_of}
use Rattle.ch_laws_bytes.specs.Streams.{Reader, is_over, writes_at}
use Rattle.ch_laws_bytes.proofs.Sockets.{Elsewhere, writes_elsewhere, writes_there}
use Rattle.ch_laws_calls.specs.UsersCarried.{IsClean, AsksOn, Answered, IsBegun}

-- ---- the same is due

pub begun_as : (journal : List Line) (known : Names) (readers : ℕ → ℕ → Option Reader) (one two : ℕ → ℕ → Option Due) (socket : WorldSocket)
    → writes_at two socket.o.cell socket.o.number ≡ writes_at one socket.o.cell socket.o.number → writes_at two socket.t.cell socket.t.number ≡ writes_at one socket.t.cell socket.t.number → IsBegun journal known readers one socket → IsBegun journal known readers two socket
begun_as journal known readers one two socket o t b = record {
  leads = b.leads;
  answer = λ clean over since r. subst (λ (due : Option Due). Answered (since ++ socket.o.unread) due) (sym t) (b.answer clean over since r);
  request = λ place c over since r. subst (λ (due : Option Due). AsksOn (own_of journal place) known b.leads.asked socket.name (since ++ socket.t.unread) due) (sym o) (b.request place c over since r);
}

-- ---- an item is written

clash : {A : Type 0} (b : Bool) → b ≡ true → b ≡ false → A
clash b t f = let no : true ≡ false = sym t ∙ f in absurd cc

-- behind nothing the request that is due is written, and behind the request anything
asks_more : (own : ℕ → Address) (known : Names) (asked : Address) (name : SockName) (bytes more : List ℕ) (due : Option Due) → IsDue own due more → AsksOn own known asked name bytes due → AsksOn own known asked name (bytes ++ more) (due_past more due)
asks_more own known asked name bytes more due d (inr b) = inr (record { asker = b.asker; from = b.from; more = b.more ++ more; begins = ap (λ (l : List ℕ). l ++ more) b.begins ∙ append_assoc (request_spelling (record { target = asked.id; from = own b.asker })) b.more more })
asks_more own known asked name bytes more None d (inl w) = absurd d
asks_more own known asked name bytes more (Some Answering) d (inl w) = absurd w.1
asks_more own known asked name bytes more (Some Framing) d (inl w) = absurd w.1
asks_more own known asked name bytes more (Some (Asking end peer)) d (inl w) = inr (record {
  asker = end;
  from = w.1.0;
  more = [];
  begins = ap (λ (l : List ℕ). l ++ more) w.0 ∙ d ∙ ap (λ (a : Address). request_spelling (record { target = a.id; from = own end })) w.1.1 ∙ sym (append-nil (request_spelling (record { target = asked.id; from = own end })));
})

-- behind nothing an answer is written, and behind an answer anything
answers_more : (own : ℕ → Address) (bytes more : List ℕ) (due : Option Due) → IsDue own due more → (due ≡ Some Answering → more ≡ answer_spelling Mismatch → ⊥) → Answered bytes due → Answered (bytes ++ more) (due_past more due)
answers_more own bytes more due d fine (inr b) = inr (record { answer = b.answer; other = b.other; more = b.more ++ more; begins = ap (λ (l : List ℕ). l ++ more) b.begins ∙ append_assoc (answer_spelling b.answer) b.more more })
answers_more own bytes more None d fine (inl w) = absurd d
answers_more own bytes more (Some (Asking end peer)) d fine (inl w) = absurd w.1
answers_more own bytes more (Some Framing) d fine (inl w) = absurd w.1
answers_more own bytes more (Some Answering) d fine (inl w) = inr (record {
  answer = d.0;
  other = λ is. fine refl (d.1 ∙ ap answer_spelling is);
  more = [];
  begins = ap (λ (l : List ℕ). l ++ more) w.0 ∙ d.1 ∙ sym (append-nil (answer_spelling d.0));
})

-- what a cell's step changes of what is due
pub record Moves (place sock : ℕ) (one two : ℕ → ℕ → Option Due) (due : Option Due) : Type 0 where
  pub else : Elsewhere place sock one two
  pub now : two place sock ≡ due

cell_is : (place sock : ℕ) (end : WorldEnd) → is_end_of place sock end ≡ true → end.cell ≡ Some place
cell_is place sock end = by_cell end.cell (same_number end.number sock) where
  by_cell : (c : Option ℕ) (d : Bool) → (same_number c place && d) ≡ true → c ≡ Some place
  by_cell None d h = absurd cc
  by_cell (Some p) d h = by_test (p == place) refl h where
    by_test : (b : Bool) → (p == place) ≡ b → (b && d) ≡ true → ◌≡◌ {A = Option ℕ} (Some p) (Some place)
    by_test true e h = ap Some (number_is p place e)
    by_test false e h = absurd cc

same_some : (a b : ℕ) (c : Option ℕ) → c ≡ Some a → c ≡ Some b → a ≡ b
same_some a b c x y = one (sym x ∙ y) where
  one : ◌≡◌ {A = Option ℕ} (Some a) (Some b) → a ≡ b
  one e = cc

-- an item is written by the opener's end
pub written_by_opener : (journal : List Line) (known : Names) (readers : ℕ → ℕ → Option Reader) (one two : ℕ → ℕ → Option Due) (place sock : ℕ) (bytes : List ℕ) (said : Option Place) (old : WorldSocket) → Moves place sock one two (due_past bytes (one place sock)) → IsDue (own_of journal place) (one place sock) bytes
    → is_end_of place sock old.o ≡ true → is_end_of place sock old.t ≡ false → IsBegun journal known readers one old → IsBegun journal known readers two (with_end T (item_arrives bytes said old.t) old)
written_by_opener journal known readers one two place sock bytes said old m due mine not b = by_over (is_over old.t) refl where
  arrive : Bool → WorldEnd
  arrive x = cond x old.t (record old.t { unread = old.t.unread ++ bytes; places = old.t.places ++ said ∷ [] })

  was : writes_at one old.o.cell old.o.number ≡ one place sock
  was = writes_there place sock one old.o mine

  next : writes_at two old.o.cell old.o.number ≡ due_past bytes (writes_at one old.o.cell old.o.number)
  next = writes_there place sock two old.o mine ∙ m.now ∙ ap (due_past bytes) (sym was)

  same : writes_at two old.t.cell old.t.number ≡ writes_at one old.t.cell old.t.number
  same = writes_elsewhere place sock one two old.t m.else not

  own_due : (p : ℕ) → old.o.cell ≡ Some p → IsDue (own_of journal p) (writes_at one old.o.cell old.o.number) bytes
  own_due p c = subst (λ (q : ℕ). IsDue (own_of journal q) (writes_at one old.o.cell old.o.number) bytes) (same_some place p old.o.cell (cell_is place sock old.o mine) c) (subst (λ (d : Option Due). IsDue (own_of journal place) d bytes) (sym was) due)

  by_over : (x : Bool) → is_over old.t ≡ x → IsBegun journal known readers two (with_end T (arrive x) old)
  by_over true e = record {
    leads = record { asked = b.leads.asked; to = b.leads.to; cell = b.leads.cell };
    answer = λ clean over since r. subst (λ (d : Option Due). Answered (since ++ old.o.unread) d) (sym same) (b.answer clean over since r);
    request = λ p c over since r. clash (is_over old.t) e over;
  }
  by_over false e = record {
    leads = record { asked = b.leads.asked; to = b.leads.to; cell = b.leads.cell };
    answer = λ clean over since r. subst (λ (d : Option Due). Answered (since ++ old.o.unread) d) (sym same) (b.answer clean over since r);
    request = λ p c over since r. subst (λ (d : Option Due). AsksOn (own_of journal p) known b.leads.asked old.name (since ++ (old.t.unread ++ bytes)) d) (sym next)
        (subst (λ (l : List ℕ). AsksOn (own_of journal p) known b.leads.asked old.name l (due_past bytes (writes_at one old.o.cell old.o.number))) (append_assoc since old.t.unread bytes)
        (asks_more (own_of journal p) known b.leads.asked old.name (since ++ old.t.unread) bytes (writes_at one old.o.cell old.o.number) (own_due p c) (b.request p c over since r)));
  }

-- an item is written by the target's end
pub written_by_target : (journal : List Line) (known : Names) (readers : ℕ → ℕ → Option Reader) (one two : ℕ → ℕ → Option Due) (place sock : ℕ) (bytes : List ℕ) (said : Option Place) (old : WorldSocket) → Moves place sock one two (due_past bytes (one place sock)) → IsDue (own_of journal place) (one place sock) bytes
    → (IsClean old.name → one place sock ≡ Some Answering → bytes ≡ answer_spelling Mismatch → ⊥) → is_end_of place sock old.t ≡ true → is_end_of place sock old.o ≡ false → IsBegun journal known readers one old → IsBegun journal known readers two (with_end O (item_arrives bytes said old.o) old)
written_by_target journal known readers one two place sock bytes said old m due fine mine not b = by_over (is_over old.o) refl where
  arrive : Bool → WorldEnd
  arrive x = cond x old.o (record old.o { unread = old.o.unread ++ bytes; places = old.o.places ++ said ∷ [] })

  was : writes_at one old.t.cell old.t.number ≡ one place sock
  was = writes_there place sock one old.t mine

  next : writes_at two old.t.cell old.t.number ≡ due_past bytes (writes_at one old.t.cell old.t.number)
  next = writes_there place sock two old.t mine ∙ m.now ∙ ap (due_past bytes) (sym was)

  same : writes_at two old.o.cell old.o.number ≡ writes_at one old.o.cell old.o.number
  same = writes_elsewhere place sock one two old.o m.else not

  target_due : IsDue (own_of journal place) (writes_at one old.t.cell old.t.number) bytes
  target_due = subst (λ (d : Option Due). IsDue (own_of journal place) d bytes) (sym was) due

  by_over : (x : Bool) → is_over old.o ≡ x → IsBegun journal known readers two (with_end O (arrive x) old)
  by_over true e = record {
    leads = record { asked = b.leads.asked; to = b.leads.to; cell = b.leads.cell };
    answer = λ clean over since r. clash (is_over old.o) e over;
    request = λ p c over since r. subst (λ (d : Option Due). AsksOn (own_of journal p) known b.leads.asked old.name (since ++ old.t.unread) d) (sym same) (b.request p c over since r);
  }
  by_over false e = record {
    leads = record { asked = b.leads.asked; to = b.leads.to; cell = b.leads.cell };
    answer = λ clean over since r. subst (λ (d : Option Due). Answered (since ++ (old.o.unread ++ bytes)) d) (sym next)
        (subst (λ (l : List ℕ). Answered l (due_past bytes (writes_at one old.t.cell old.t.number))) (append_assoc since old.o.unread bytes)
        (answers_more (own_of journal place) (since ++ old.o.unread) bytes (writes_at one old.t.cell old.t.number) target_due (λ d is. fine clean (sym was ∙ d) is) (b.answer clean over since r)));
    request = λ p c over since r. subst (λ (d : Option Due). AsksOn (own_of journal p) known b.leads.asked old.name (since ++ old.t.unread) d) (sym same) (b.request p c over since r);
  }

-- ---- an end is over

asks_none : (own : ℕ → Address) (known : Names) (asked : Address) (name : SockName) (bytes : List ℕ) (due : Option Due) → AsksOn own known asked name bytes due → AsksOn own known asked name bytes None
asks_none own known asked name bytes due (inl w) = inl (w.0, tt)
asks_none own known asked name bytes due (inr b) = inr b

answers_none : (bytes : List ℕ) (due : Option Due) → Answered bytes due → Answered bytes None
answers_none bytes due (inl w) = inl (w.0, tt)
answers_none bytes due (inr b) = inr b

is_closed : {A : Type 0} (end : WorldEnd) → is_over (ended end) ≡ false → A
is_closed end e = let no : true ≡ false = e in absurd cc

pub closed_opener : (journal : List Line) (known : Names) (readers : ℕ → ℕ → Option Reader) (one two : ℕ → ℕ → Option Due) (place sock : ℕ) (old : WorldSocket) → Moves place sock one two None → is_end_of place sock old.o ≡ true → is_end_of place sock old.t ≡ false → IsBegun journal known readers one old → IsBegun journal known readers two (with_end O (ended old.o) old)
closed_opener journal known readers one two place sock old m mine not b = record {
  leads = record { asked = b.leads.asked; to = b.leads.to; cell = b.leads.cell };
  answer = λ clean over since r. is_closed old.o over;
  request = λ p c over since r. subst (λ (d : Option Due). AsksOn (own_of journal p) known b.leads.asked old.name (since ++ old.t.unread) d) (sym (writes_there place sock two old.o mine ∙ m.now)) (asks_none (own_of journal p) known b.leads.asked old.name (since ++ old.t.unread) (writes_at one old.o.cell old.o.number) (b.request p c over since r));
}

pub closed_target : (journal : List Line) (known : Names) (readers : ℕ → ℕ → Option Reader) (one two : ℕ → ℕ → Option Due) (place sock : ℕ) (old : WorldSocket) → Moves place sock one two None → is_end_of place sock old.t ≡ true → is_end_of place sock old.o ≡ false → IsBegun journal known readers one old → IsBegun journal known readers two (with_end T (ended old.t) old)
closed_target journal known readers one two place sock old m mine not b = record {
  leads = record { asked = b.leads.asked; to = b.leads.to; cell = b.leads.cell };
  answer = λ clean over since r. subst (λ (d : Option Due). Answered (since ++ old.o.unread) d) (sym (writes_there place sock two old.t mine ∙ m.now)) (answers_none (since ++ old.o.unread) (writes_at one old.t.cell old.t.number) (b.answer clean over since r));
  request = λ p c over since r. is_closed old.t over;
}

-- ---- what else changes an end

pub places_passed : (journal : List Line) (known : Names) (readers : ℕ → ℕ → Option Reader) (dues : ℕ → ℕ → Option Due) (e : End) (old : WorldSocket) → IsBegun journal known readers dues old → IsBegun journal known readers dues (with_end e (record (end_of e old) { places = later_places (end_of e old).places }) old)
places_passed journal known readers dues O old b = record { leads = record { asked = b.leads.asked; to = b.leads.to; cell = b.leads.cell }; answer = b.answer; request = b.request }
places_passed journal known readers dues T old b = record { leads = record { asked = b.leads.asked; to = b.leads.to; cell = b.leads.cell }; answer = b.answer; request = b.request }
