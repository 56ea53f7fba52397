-- Frames that an endpoint puts, one call after another, and what its host then has written: plain streams.
use Rattle.std.proofs.Common.{◌≡◌, inl, inr, ℕ, Bool, true, false, cond, List, [], ◌∷◌, ◌++◌, refl, sym, ap, ◌∙◌, subst}
use Rattle.std.proofs.lemmas.Grind.{flat_map-append}
use Rattle.std.proofs.lemmas.List.{append_assoc, map-append}
use Rattle.std.specs.Prelude.{Option, None, ◌==◌}
use Rattle.ch_base.specs.declared.address.Address.{Address}
use Rattle.ch_wire.specs.declared.frame.Frame.{Frame}
use Rattle.ch_reader.specs.Items.{item_spelling, spellings, MayFollow}
use Rattle.ch_reader.specs.declared.item.Expected.TheVariants as expected
use Rattle.ch_reader.specs.declared.item.Item.{Item}
use Rattle.ch_reader.specs.declared.item.Item.TheVariants as items
use Rattle.ch_light.specs.declared.Connection.{Connection}
use Rattle.ch_link.specs.declared.LinkState.{LinkState}
use Rattle.ch_link.specs.declared.LinkState.TheVariants as states
use Rattle.ch_model.specs.declared.step.Step.{Step}
use Rattle.ch_model.specs.declared.step.Step.TheVariants as steps
use Rattle.ch_model.specs.HostState.{Link, HostState}
use Rattle.ch_model.specs.HostSteps.{link_with}
use Rattle.ch_model.specs.HostWrites.{is_up}
use Rattle.ch_laws_items.proofs.Sockets.{number_is}
use Rattle.ch_laws_writes.specs.Dues.{Due, due_at}
use Rattle.ch_laws_writes.specs.Orderly.{IsOrderly}
use Rattle.ch_laws_calls.specs.FitsFit.{frames_in}
use Rattle.ch_laws_calls.specs.FitsTurns.{bytes_at, IsKind}
use Rattle.ch_laws_calls.proofs.FitsStores.{none_kind, only_at, only_kind, only_spelled}
use Rattle.ch_laws_plain.specs.Streams.{IsPlainStream}
use Rattle.ch_laws_plain.specs.Talks.{frames_of, items_of, LinkIsPlain, MaySpell, IsAdded, Adds, Talks}
use Rattle.ch_laws_plain.proofs.Streams.{plain_append}

pub clash : {A : Type 0} → true ≡ false → A
clash e = absurd cc

-- ---- one call after another

pub bytes_append : (n : ℕ) (xs ys : List Step) → bytes_at n (xs ++ ys) ≡ bytes_at n xs ++ bytes_at n ys
bytes_append n [] ys = refl
bytes_append n (steps.Write sock bytes said ∷ xs) ys = by_test (sock == n) (bytes_append n xs ys) where
  by_test : (b : Bool) → bytes_at n (xs ++ ys) ≡ bytes_at n xs ++ bytes_at n ys → cond b (bytes ++ bytes_at n (xs ++ ys)) (bytes_at n (xs ++ ys)) ≡ cond b (bytes ++ bytes_at n xs) (bytes_at n xs) ++ bytes_at n ys
  by_test true e = ap (λ (l : List ℕ). bytes ++ l) e ∙ sym (append_assoc bytes (bytes_at n xs) (bytes_at n ys))
  by_test false e = e
bytes_append n (steps.Dial sock end peer ∷ xs) ys = bytes_append n xs ys
bytes_append n (steps.Read sock ∷ xs) ys = bytes_append n xs ys
bytes_append n (steps.Up sock ∷ xs) ys = bytes_append n xs ys
bytes_append n (steps.Down sock ∷ xs) ys = bytes_append n xs ys
bytes_append n (steps.Left sock ∷ xs) ys = bytes_append n xs ys
bytes_append n (steps.Broke end peer why ∷ xs) ys = bytes_append n xs ys
bytes_append n (steps.Post end event ∷ xs) ys = bytes_append n xs ys

pub spelled_append : (xs ys : List Item) → spellings (xs ++ ys) ≡ spellings xs ++ spellings ys
spelled_append xs ys = flat_map-append item_spelling xs ys

pub spell_append : (xs ys : List Frame) → MaySpell xs → MaySpell ys → MaySpell (xs ++ ys)
spell_append [] ys m n = n
spell_append (x ∷ xs) ys m n = (m.0, spell_append xs ys m.1 n)

both_spelled : (n sock : ℕ) (xs ys : List Frame) → cond (sock == n) (spellings (items_of xs)) [] ++ cond (sock == n) (spellings (items_of ys)) [] ≡ cond (sock == n) (spellings (items_of (xs ++ ys))) []
both_spelled n sock xs ys = by_test (sock == n) where
  by_test : (b : Bool) → cond b (spellings (items_of xs)) [] ++ cond b (spellings (items_of ys)) [] ≡ cond b (spellings (items_of (xs ++ ys))) []
  by_test true = sym (spelled_append (items_of xs) (items_of ys)) ∙ ap spellings (sym (map-append (λ (frame : Frame). items.Frame frame) xs ys))
  by_test false = refl

pub up_not : {A : Type 0} (state : LinkState) (sock : ℕ) (probed : Bool) → state ≡ states.Up sock probed → is_up state ≡ false → A
up_not state sock probed e f = clash (sym (ap is_up e) ∙ f)

one_sock : (s t : ℕ) (p q : Bool) → states.Up s p ≡ states.Up t q → s ≡ t
one_sock s t p q e = cc

-- what is put by one call and by the next is put by both
pub added_then : (one two three : Link) (xs ys : List Frame) (told more : List Step) → IsAdded one two xs told → IsAdded two three ys more → IsAdded one three (xs ++ ys) (told ++ more)
added_then one two three xs ys told more (inl a) (inl b) = inl (
  a.0,
  a.1,
  record {
    was = a.2.was;
    now = b.2.now ∙ sym b.2.was ∙ a.2.now;
    waits = b.2.waits ∙ a.2.waits;
    bytes = λ n. bytes_append n told more ∙ ap (λ (l : List ℕ). l ++ bytes_at n more) (a.2.bytes n) ∙ ap (λ (l : List ℕ). cond (a.0 == n) (spellings (items_of xs)) [] ++ l) (b.2.bytes n ∙ ap (λ (s : ℕ). cond (s == n) (spellings (items_of ys)) []) same) ∙ both_spelled n a.0 xs ys;
  },
) where
  same : b.0 ≡ a.0
  same = one_sock b.0 a.0 b.1 a.1 (sym b.2.was ∙ a.2.now)
added_then one two three xs ys told more (inl a) (inr b) = up_not two.state a.0 a.1 a.2.now b.was
added_then one two three xs ys told more (inr a) (inl b) = up_not two.state b.0 b.1 b.2.was a.now
added_then one two three xs ys told more (inr a) (inr b) = inr (record {
  was = a.was;
  now = b.now;
  waits = b.waits ∙ ap (λ (l : List Frame). l ++ ys) a.waits ∙ append_assoc (frames_of one.waits) xs ys;
  bytes = λ n. bytes_append n told more ∙ ap (λ (l : List ℕ). l ++ bytes_at n more) (a.bytes n) ∙ b.bytes n;
})

pub adds_then : (host mid after : HostState) (end : ℕ) (peer : Address) (one two : List Connection) (xs ys : List Frame) (told more : List Step) → Adds host end peer one xs told mid → Adds mid end peer two ys more after → Adds host end peer two (xs ++ ys) (told ++ more) after
adds_then host mid after end peer one two xs ys told more a b = record {
  others = λ e p h. b.others e p h ∙ a.others e p h;
  given = b.given;
  created = b.created ∙ a.created;
  sockets = λ n known f. b.sockets n known (a.sockets n known f);
  spelled = spell_append xs ys a.spelled b.spelled;
  added = added_then (link_with host end peer) (link_with mid end peer) (link_with after end peer) xs ys told more a.added b.added;
}

-- ---- what is put in all is plain

pub frames_follow : (xs : List Frame) → MaySpell xs → MayFollow expected.Frame (items_of xs)
frames_follow [] m = tt
frames_follow (x ∷ xs) m = (m.0, frames_follow xs m.1)

pub frames_back : (xs : List Frame) → frames_in (items_of xs) ≡ xs
frames_back [] = refl
frames_back (x ∷ xs) = ap (λ (l : List Frame). x ∷ l) (frames_back xs)

-- what an endpoint has put, of its plain link, and which is plain: so is all that its host writes then
pub adds_talk : (own : ℕ → Address) (host after : HostState) (end : ℕ) (peer : Address) (given : List Connection) (xs : List Frame) (told : List Step) → IsOrderly own host → LinkIsPlain (link_with host end peer) → IsPlainStream xs → Adds host end peer given xs told after → Talks own host end peer told after
adds_talk own host after end peer given xs told o l p a = by_added a.added where
  one : Link
  one = link_with host end peer

  two : Link
  two = link_with after end peer

  by_added : IsAdded one two xs told → Talks own host end peer told after
  by_added (inl w) = record {
    others = a.others;
    plain = record { up = λ h. w.2.waits ∙ l.up (ap is_up w.2.was); waits = λ h. up_not two.state w.0 w.1 w.2.now h; created = λ h. up_not two.state w.0 w.1 w.2.now h };
    said = only_at w.0 (items_of xs);
    spelled = λ n. w.2.bytes n ∙ only_spelled w.0 n (items_of xs);
    kind = only_kind own (due_at host) w.0 (items_of xs) (λ n h. number_is w.0 n h) (subst (λ (d : Option Due). IsKind own d (items_of xs)) (sym ((o.links end peer).up w.0 w.1 w.2.was)) (frames_follow xs a.spelled));
    streams = λ n. by_test (w.0 == n);
  } where
    by_test : (b : Bool) → IsPlainStream (frames_in (cond b (items_of xs) []))
    by_test true = subst IsPlainStream (sym (frames_back xs)) p
    by_test false = refl
  by_added (inr w) = record {
    others = a.others;
    plain = record {
      up = λ h. clash (sym h ∙ w.now);
      waits = λ h. subst IsPlainStream (sym w.waits) (plain_append (frames_of one.waits) xs None None None (l.waits w.was) p);
      created = λ h. a.created ∙ l.created w.was;
    };
    said = λ n. [];
    spelled = w.bytes;
    kind = λ n. none_kind own (due_at host n);
    streams = λ n. refl;
  }
