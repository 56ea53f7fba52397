-- A socket that is seen, after an item was read or written there.
use Rattle.std.specs.Prelude.{◌≡◌, ℕ, Bool, true, false, cond, ◌||◌, List, [], ◌∷◌, ◌++◌, is_some, Option}
use Rattle.std.proofs.Common.{refl, ap, sym, ◌∙◌, append_assoc, arith, inl}
use Rattle.std.proofs.lemmas.List.{append-nil, map-append}
use Rattle.std.proofs.lemmas.Grind.{flat_map-append}
use Rattle.ch_reader.specs.declared.item.Expected.{Expected}
use Rattle.ch_reader.specs.declared.item.Expected.TheVariants as expected
use Rattle.ch_reader.specs.declared.item.Item.{Item}
use Rattle.ch_reader.specs.Items.{item_spelling, spellings, MayFollow, MayStand, expected_after}
use Rattle.ch_reader.specs.Streams.{IsUnfinished, IsStreamFrom}
use Rattle.ch_model.specs.declared.name.End.{End}
use Rattle.ch_model.specs.declared.name.End.TheVariants.{O, T}
use Rattle.ch_model.specs.declared.step.Place.{Place}
use Rattle.ch_model.specs.Stages.{Stage, Pending, Open, Ended, is_ended}
use Rattle.ch_model.specs.WorldState.{WorldEnd, WorldSocket}
use Rattle.ch_model.specs.WorldSockets.{end_of, with_end, item_arrives}
use Rattle.ch_model.specs.WorldSockets as world
use Rattle.ch_race.specs.Pair as pair
use Rattle.ch_race.specs.Pair.{Side, Lesser, Greater, other, same, OEnd, TEnd, Sock, o_ended, t_ended, written, to_o, to_t, says}
use Rattle.ch_laws_race.specs.Scene.{Party}
use Rattle.ch_laws_race.specs.View.{kind, Reader, unread_at, whole_items, opener_end, target_end, opener_of, sock_with}
use Rattle.ch_laws_race.specs.Sound.{HasPlace, opener_by}
use Rattle.ch_laws_race.proofs.Items.{stream_items}

-- ---- an item is written

pub follows_more : (e : Expected) (is : List Item) (item : Item) → MayFollow e is → MayStand (expected_after e is) item → MayFollow e (is ++ item ∷ [])
follows_more e [] item each next = (next, tt)
follows_more e (i ∷ is) item each next = (each.0, follows_more expected.Frame is item each.1 (later is next)) where
  later : (js : List Item) → MayStand expected.Frame item → MayStand (expected_after expected.Frame js) item
  later [] h = h
  later (j ∷ js) h = h

pub nothing_left : (e : Expected) → IsUnfinished e []
nothing_left expected.Request = inl (omega arith)
nothing_left expected.Answer = omega arith
nothing_left expected.Frame = inl (omega arith)

module _ (reader : Reader) (end : WorldEnd) (item : Item) (h : HasPlace reader end item) where
  before : IsStreamFrom reader.0 (reader.1 ++ end.unread) h.items []
  before = record { whole = h.whole ∙ sym (append-nil (spellings h.items)); each = h.each; unfinished = nothing_left (expected_after reader.0 h.items) }

  now : IsStreamFrom reader.0 (reader.1 ++ (end.unread ++ item_spelling item)) (h.items ++ item ∷ []) []
  now = record {
    whole = sym (append_assoc reader.1 end.unread (item_spelling item)) ∙ ap (λ (z : List ℕ). z ++ item_spelling item) h.whole
        ∙ ap (λ (z : List ℕ). spellings h.items ++ z) (sym (append-nil (item_spelling item)))
        ∙ sym (flat_map-append item_spelling h.items (item ∷ [])) ∙ sym (append-nil (spellings (h.items ++ item ∷ [])));
    each = follows_more reader.0 h.items item h.each h.next;
    unfinished = nothing_left (expected_after reader.0 (h.items ++ item ∷ []));
  }

  pub one_more : whole_items reader.0 (reader.1 ++ (end.unread ++ item_spelling item)) ≡ unread_at reader end ++ kind item ∷ []
  one_more = stream_items reader.0 (reader.1 ++ (end.unread ++ item_spelling item)) (h.items ++ item ∷ []) [] now ∙ map-append kind h.items (item ∷ [])
      ∙ ap (λ (z : List pair.Item). z ++ kind item ∷ []) (sym (stream_items reader.0 (reader.1 ++ end.unread) h.items [] before))

o_is_ended : (stage : Stage) (e : Expected) → o_ended (opener_end stage e) ≡ is_ended stage
o_is_ended Pending e = refl
o_is_ended Open expected.Frame = refl
o_is_ended Open expected.Request = refl
o_is_ended Open expected.Answer = refl
o_is_ended Ended e = refl

t_is_ended : (stage : Stage) (e : Expected) → t_ended (target_end true stage e) ≡ is_ended stage
t_is_ended Pending e = refl
t_is_ended Open expected.Frame = refl
t_is_ended Open expected.Request = refl
t_is_ended Open expected.Answer = refl
t_is_ended Ended e = refl

-- what is seen of an end, as far as a write goes
module _ (reader : Reader) (end : WorldEnd) (item : Item) (said : Option Place) (h : (is_ended end.stage || end.is_cut) ≡ false → HasPlace reader end item) where
  abbrev Now : WorldEnd
  Now = item_arrives (item_spelling item) said end

  pub items_now : unread_at reader Now ≡ cond (is_ended end.stage || end.is_cut) (unread_at reader end) (unread_at reader end ++ kind item ∷ [])
  items_now = by_gone (is_ended end.stage || end.is_cut) refl where
    by_gone : (b : Bool) → (is_ended end.stage || end.is_cut) ≡ b
        → unread_at reader (cond b end (record end { unread = end.unread ++ item_spelling item; places = end.places ++ said ∷ [] })) ≡ cond b (unread_at reader end) (unread_at reader end ++ kind item ∷ [])
    by_gone true is = refl
    by_gone false is = one_more reader end item (h is)

  pub stage_now : Now.stage ≡ end.stage
  stage_now = by_gone (is_ended end.stage || end.is_cut) where
    by_gone : (b : Bool) → (cond b end (record end { unread = end.unread ++ item_spelling item; places = end.places ++ said ∷ [] })).stage ≡ end.stage
    by_gone true = refl
    by_gone false = refl

  pub cut_now : Now.is_cut ≡ end.is_cut
  cut_now = by_gone (is_ended end.stage || end.is_cut) where
    by_gone : (b : Bool) → (cond b end (record end { unread = end.unread ++ item_spelling item; places = end.places ++ said ∷ [] })).is_cut ≡ end.is_cut
    by_gone true = refl
    by_gone false = refl

  pub cell_now : Now.cell ≡ end.cell
  cell_now = by_gone (is_ended end.stage || end.is_cut) where
    by_gone : (b : Bool) → (cond b end (record end { unread = end.unread ++ item_spelling item; places = end.places ++ said ∷ [] })).cell ≡ end.cell
    by_gone true = refl
    by_gone false = refl

  pub number_now : Now.number ≡ end.number
  number_now = by_gone (is_ended end.stage || end.is_cut) where
    by_gone : (b : Bool) → (cond b end (record end { unread = end.unread ++ item_spelling item; places = end.places ++ said ∷ [] })).number ≡ end.number
    by_gone true = refl
    by_gone false = refl

module _ (party : Side → Party) (at_o at_t : Reader) (s : WorldSocket) (item : Item) (said : Option Place) where
  abbrev S : Sock
  S = sock_with party at_o at_t s

  abbrev Arrived : WorldEnd → WorldEnd
  Arrived end = item_arrives (item_spelling item) said end

  -- the target writes
  pub wrote_o : ((is_ended s.o.stage || s.o.is_cut) ≡ false → HasPlace at_o s.o item) → sock_with party at_o at_t (with_end O (Arrived s.o) s) ≡ to_o (kind item) S
  wrote_o h = ap (λ (z : Stage). record S { o = opener_end z at_o.0; cut_o = (Arrived s.o).is_cut; in_o = unread_at at_o (Arrived s.o) }) (stage_now at_o s.o item said h)
      ∙ ap (λ b. record S { cut_o = b; in_o = unread_at at_o (Arrived s.o) }) (cut_now at_o s.o item said h)
      ∙ ap (λ (z : List pair.Item). record S { in_o = z }) (items_now at_o s.o item said h)
      ∙ ap (λ b. record S { in_o = cond (b || s.o.is_cut) (unread_at at_o s.o) (unread_at at_o s.o ++ kind item ∷ []) }) (sym (o_is_ended s.o.stage at_o.0))

  -- the opener writes
  pub wrote_t : is_some s.t.cell ≡ true → ((is_ended s.t.stage || s.t.is_cut) ≡ false → HasPlace at_t s.t item) → sock_with party at_o at_t (with_end T (Arrived s.t) s) ≡ to_t (kind item) S
  wrote_t there h = ap (λ (z : Option ℕ). record S { t = target_end (is_some z) (Arrived s.t).stage at_t.0; cut_t = (Arrived s.t).is_cut; in_t = unread_at at_t (Arrived s.t) }) (cell_now at_t s.t item said h)
      ∙ ap (λ (z : Stage). record S { t = target_end (is_some s.t.cell) z at_t.0; cut_t = (Arrived s.t).is_cut; in_t = unread_at at_t (Arrived s.t) }) (stage_now at_t s.t item said h)
      ∙ ap (λ b. record S { cut_t = b; in_t = unread_at at_t (Arrived s.t) }) (cut_now at_t s.t item said h)
      ∙ ap (λ (z : List pair.Item). record S { in_t = z }) (items_now at_t s.t item said h)
      ∙ ap (λ b. record S { in_t = cond (b || s.t.is_cut) (unread_at at_t s.t) (unread_at at_t s.t ++ kind item ∷ []) }) (sym (ap (λ b. t_ended (target_end b s.t.stage at_t.0)) there ∙ t_is_ended s.t.stage at_t.0))

-- a socket that is seen, with the reader of an end and that of the other
abbrev pub sock_by : (Side → Party) → End → Reader → Reader → WorldSocket → Sock
sock_by party O mine theirs s = sock_with party mine theirs s
sock_by party T mine theirs s = sock_with party theirs mine s

same_self : (x : Side) → same x x ≡ true
same_self Lesser = refl
same_self Greater = refl

never_other : (x : Side) → same x (other x) ≡ false
never_other Lesser = refl
never_other Greater = refl

-- what a node writes at an end that is the opener's, or the target's
pub says_at : (e : End) (x : Side) (item : pair.Item) (s : Sock) → s.opener ≡ opener_by e x → says x item s ≡ (elim e [ O ↦ to_t item s | T ↦ to_o item s ])
says_at O x item s opener = ap (λ b. cond b (to_t item s) (to_o item s)) (ap (same x) opener ∙ same_self x)
says_at T x item s opener = ap (λ b. cond b (to_t item s) (to_o item s)) (ap (same x) opener ∙ never_other x)

-- a node writes at its end
pub wrote : (party : Side → Party) (e : End) (x : Side) (mine theirs : Reader) (s : WorldSocket) (item : Item) (said : Option Place) → opener_of party s ≡ opener_by e x → is_some s.t.cell ≡ true
    → ((is_ended (end_of (world.other e) s).stage || (end_of (world.other e) s).is_cut) ≡ false → HasPlace theirs (end_of (world.other e) s) item)
    → sock_by party e mine theirs (with_end (world.other e) (item_arrives (item_spelling item) said (end_of (world.other e) s)) s) ≡ says x (kind item) (sock_by party e mine theirs s)
wrote party O x mine theirs s item said opener there h = wrote_t party mine theirs s item said there h ∙ sym (says_at O x (kind item) (sock_with party mine theirs s) opener)
wrote party T x mine theirs s item said opener there h = wrote_o party theirs mine s item said h ∙ sym (says_at T x (kind item) (sock_with party theirs mine s) opener)

-- ---- an item is read

-- the end is up, with that unread
abbrev pub upped : End → List pair.Item → Sock → Sock
upped O w s = record s { o = pair.OUp; in_o = w }
upped T w s = record s { t = pair.TUp; in_t = w }

-- the first item at an end is read: it is open, and was, and this is left there
pub read_there : (party : Side → Party) (e : End) (before theirs : Reader) (more : List ℕ) (s : WorldSocket) (places : List (Option Place)) (w : List pair.Item) → (end_of e s).stage ≡ Open → is_some s.t.cell ≡ true
    → whole_items expected.Frame (more ++ (end_of e s).unread) ≡ w
    → sock_by party e (expected.Frame, more) theirs (with_end e (record (end_of e s) { places = places }) s) ≡ upped e w (sock_by party e before theirs s)
read_there party O before theirs more s places w standing there left =
    ap (λ (z : Stage). record (sock_with party before theirs s) { o = opener_end z expected.Frame; in_o = whole_items expected.Frame (more ++ s.o.unread) }) standing
    ∙ ap (λ (z : List pair.Item). record (sock_with party before theirs s) { o = pair.OUp; in_o = z }) left
read_there party T before theirs more s places w standing there left =
    ap (λ b. record (sock_with party theirs before s) { t = target_end b s.t.stage expected.Frame; in_t = whole_items expected.Frame (more ++ s.t.unread) }) there
    ∙ ap (λ (z : Stage). record (sock_with party theirs before s) { t = target_end true z expected.Frame; in_t = whole_items expected.Frame (more ++ s.t.unread) }) standing
    ∙ ap (λ (z : List pair.Item). record (sock_with party theirs before s) { t = pair.TUp; in_t = z }) left

-- ---- an end is ended

abbrev pub ended_at : End → Sock → Sock
ended_at O s = pair.end_o s
ended_at T s = pair.end_t s

-- an end that is closed, with its host's record emptied
pub gone_there : (party : Side → Party) (e : End) (kept : Expected) (mine theirs : Reader) (s : WorldSocket) → is_some s.t.cell ≡ true
    → sock_by party e (kept, []) theirs (with_end e (world.ended (end_of e s)) s) ≡ ended_at e (sock_by party e mine theirs s)
gone_there party O kept mine theirs s there = refl
gone_there party T kept mine theirs s there = ap (λ b. record (sock_with party theirs mine s) { t = target_end b Ended kept; in_t = [] }) there

-- what a node's own end is
pub end_of_own : (e : End) (x : Side) (s : Sock) → s.opener ≡ opener_by e x → pair.end_of x s ≡ ended_at e s
end_of_own O x s opener = ap (λ b. cond b (pair.end_o s) (pair.end_t s)) (ap (same x) opener ∙ same_self x)
end_of_own T x s opener = ap (λ b. cond b (pair.end_o s) (pair.end_t s)) (ap (same x) opener ∙ never_other x)
