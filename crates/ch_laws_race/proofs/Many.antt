-- What waits for a link is written, frame by frame.
use Rattle.std.specs.Prelude.{◌≡◌, ℕ, Bool, true, false, cond, ◌||◌, List, [], ◌∷◌, ◌++◌, map, is_some, slice_get, slice_set, Option, Some}
use Rattle.std.proofs.Common.{refl, ap, sym, ◌∙◌, subst, append_assoc}
use Rattle.std.proofs.lemmas.List.{append-nil}
use Rattle.std.proofs.lemmas.Grind.{flat_map-append}
use Rattle.ch_wire.specs.Spelling.{frame_spelling}
use Rattle.ch_wire.specs.declared.frame.Frame.{Frame}
use Rattle.ch_reader.specs.declared.item.Expected.{Expected}
use Rattle.ch_reader.specs.declared.item.Expected.TheVariants as expected
use Rattle.ch_reader.specs.declared.item.Item.{Item}
use Rattle.ch_reader.specs.declared.item.Item.TheVariants as items
use Rattle.ch_reader.specs.Items.{item_spelling, spellings, MayStand, expected_after}
use Rattle.ch_link.specs.declared.LinkState.{LinkState}
use Rattle.ch_link.specs.declared.LinkState.TheVariants.{Up}
use Rattle.ch_model.specs.declared.name.End.{End}
use Rattle.ch_model.specs.declared.name.End.TheVariants.{O, T}
use Rattle.ch_model.specs.declared.step.Place.{Place}
use Rattle.ch_model.specs.declared.step.Weight.{Weight}
use Rattle.ch_model.specs.Stages.{is_ended}
use Rattle.ch_model.specs.HostWrites.{said_of, frame_step}
use Rattle.ch_model.specs.WorldState.{Cell, WorldEnd, WorldSocket, World}
use Rattle.ch_model.specs.WorldSockets as world
use Rattle.ch_model.specs.WorldSockets.{end_of, with_end, is_end_of, item_arrives}
use Rattle.ch_model.specs.CellSteps.{told_steps}
use Rattle.ch_model.specs.WorldSteps.{all_told}
use Rattle.ch_race.specs.Pair as pair
use Rattle.ch_race.specs.Pair.{Side, Sock, Pair, put, says}
use Rattle.ch_race.specs.Moves.{run, AllAllowed, say}
use Rattle.ch_laws_race.specs.Scene.{Party}
use Rattle.ch_laws_race.specs.View.{Reader, opener_of}
use Rattle.ch_laws_race.specs.Sound.{AreApart, HasPlace, HasPlaces, opener_by}
use Rattle.ch_laws_race.specs.Answers.{AreData, each_said}
use Rattle.ch_laws_race.proofs.Sockets.{Alike}
use Rattle.ch_laws_race.proofs.Pairs.{put_here, put_put, put_same}
use Rattle.ch_laws_race.proofs.Steps.{arrived_alike, writes_there}
use Rattle.ch_laws_race.proofs.Socks.{sock_by, wrote, follows_more}

-- a frame that waits is written at the other end
abbrev pub write : End → Frame × Weight → WorldSocket → WorldSocket
write e wait s = with_end (world.other e) (item_arrives (frame_spelling wait.0) (said_of wait.1) (end_of (world.other e) s)) s

abbrev pub write_all : End → List (Frame × Weight) → WorldSocket → WorldSocket
write_all e [] s = s
write_all e (wait ∷ rest) s = write_all e rest (write e wait s)

-- payloads that a node says
abbrev pub says_all : Side → List (Frame × Weight) → Sock → Sock
says_all x [] s = s
says_all x (wait ∷ rest) s = says_all x rest (says x pair.Data s)

-- ---- places

framed_first : (reader : Reader) (end : WorldEnd) (wait : Frame × Weight) (rest : List (Frame × Weight)) → HasPlaces reader end (wait ∷ rest) → HasPlace reader end (items.Frame wait.0)
framed_first reader end wait rest h = record { items = h.items; whole = h.whole; each = h.each; next = subst (λ (e : Expected). MayStand e (items.Frame wait.0)) (sym h.framed) h.spelled.0 }

framed_later : (reader : Reader) (end : WorldEnd) (wait : Frame × Weight) (rest : List (Frame × Weight)) (places : List (Option Place)) → HasPlaces reader end (wait ∷ rest)
    → HasPlaces reader (record end { unread = end.unread ++ frame_spelling wait.0; places = places }) rest
framed_later reader end wait rest places h = record {
  items = h.items ++ items.Frame wait.0 ∷ [];
  whole = sym (append_assoc reader.1 end.unread (frame_spelling wait.0)) ∙ ap (λ (z : List ℕ). z ++ frame_spelling wait.0) h.whole
      ∙ ap (λ (z : List ℕ). spellings h.items ++ z) (sym (append-nil (frame_spelling wait.0))) ∙ sym (flat_map-append item_spelling h.items (items.Frame wait.0 ∷ []));
  each = follows_more reader.0 h.items (items.Frame wait.0) h.each (subst (λ (e : Expected). MayStand e (items.Frame wait.0)) (sym h.framed) h.spelled.0);
  framed = after_one reader.0 h.items;
  spelled = h.spelled.1;
} where
  after_one : (e : Expected) (is : List Item) → expected_after e (is ++ items.Frame wait.0 ∷ []) ≡ expected.Frame
  after_one e [] = refl
  after_one e (i ∷ is) = refl

-- ---- the socket

abbrev Takes : Reader → WorldEnd → List (Frame × Weight) → Type 0
Takes reader end waits = (is_ended end.stage || end.is_cut) ≡ false → HasPlaces reader end waits

takes_later : (reader : Reader) (end : WorldEnd) (wait : Frame × Weight) (rest : List (Frame × Weight)) → Takes reader end (wait ∷ rest) → Takes reader (item_arrives (frame_spelling wait.0) (said_of wait.1) end) rest
takes_later reader end wait rest h = by_gone (is_ended end.stage || end.is_cut) refl where
  clash : {A : Type 0} → true ≡ false → A
  clash q = absurd (no q) where
    no : true ≡ false → ⊥
    no q = cc

  by_gone : (b : Bool) → (is_ended end.stage || end.is_cut) ≡ b → Takes reader (cond b end (record end { unread = end.unread ++ frame_spelling wait.0; places = end.places ++ said_of wait.1 ∷ [] })) rest
  by_gone true is = λ q. clash (sym is ∙ q)
  by_gone false is = λ q. framed_later reader end wait rest (end.places ++ said_of wait.1 ∷ []) (h is)

end_with : (e : End) (v : WorldEnd) (s : WorldSocket) → end_of e (with_end e v s) ≡ v
end_with O v s = refl
end_with T v s = refl

opener_with : (party : Side → Party) (e : End) (v : WorldEnd) (s : WorldSocket) → opener_of party (with_end e v s) ≡ opener_of party s
opener_with party O v s = refl
opener_with party T v s = refl

target_with : (e : End) (bytes : List ℕ) (said : Option Place) (s : WorldSocket) → is_some (with_end e (item_arrives bytes said (end_of e s)) s).t.cell ≡ is_some s.t.cell
target_with O bytes said s = refl
target_with T bytes said s = by_gone (is_ended s.t.stage || s.t.is_cut) where
  by_gone : (b : Bool) → is_some (cond b s.t (record (s.t) { unread = s.t.unread ++ bytes; places = s.t.places ++ said ∷ [] })).cell ≡ is_some s.t.cell
  by_gone true = refl
  by_gone false = refl

pub all_wrote : (party : Side → Party) (e : End) (x : Side) (mine theirs : Reader) (waits : List (Frame × Weight)) (s : WorldSocket) → AreData waits → opener_of party s ≡ opener_by e x → is_some s.t.cell ≡ true
    → Takes theirs (end_of (world.other e) s) waits → sock_by party e mine theirs (write_all e waits s) ≡ says_all x waits (sock_by party e mine theirs s)
all_wrote party e x mine theirs [] s are opener there way = refl
all_wrote party e x mine theirs (wait ∷ rest) s are opener there way =
    all_wrote party e x mine theirs rest (write e wait s) are.1
    (opener_with party (world.other e) (item_arrives (frame_spelling wait.0) (said_of wait.1) (end_of (world.other e) s)) s ∙ opener)
    (target_with (world.other e) (frame_spelling wait.0) (said_of wait.1) s ∙ there)
    (subst (λ (v : WorldEnd). Takes theirs v rest) (sym (end_with (world.other e) (item_arrives (frame_spelling wait.0) (said_of wait.1) (end_of (world.other e) s)) s)) (takes_later theirs (end_of (world.other e) s) wait rest way))
    ∙ ap (says_all x rest) (wrote party e x mine theirs s (items.Frame wait.0) (said_of wait.1) opener there (λ q. framed_first theirs (end_of (world.other e) s) wait rest (way q)) ∙ ap (λ (k : pair.Item). says x k (sock_by party e mine theirs s)) are.0)

pub all_alike : (e : End) (waits : List (Frame × Weight)) (s t : WorldSocket) → Alike s t → Alike s (write_all e waits t)
all_alike e [] s t a = a
all_alike e (wait ∷ rest) s t a = all_alike e rest s (write e wait t) (arrived_alike (world.other e) s t (frame_spelling wait.0) (said_of wait.1) a)

-- ---- the world

module _ (w : World) (i : ℕ) (first : WorldSocket) (e : End) (place number : ℕ) (cell : Cell) (apart : AreApart w.sockets) (at : slice_get w.sockets i ≡ Some first) (own : is_end_of place number (end_of e first) ≡ true) where
  pub writes_all : (waits : List (Frame × Weight)) (s : WorldSocket) → Alike first s
      → (all_told place cell (told_steps (map (frame_step number) waits)) (record w { sockets = slice_set w.sockets i s })).1 ≡ record w { sockets = slice_set w.sockets i (write_all e waits s) }
  writes_all [] s a = refl
  writes_all (wait ∷ rest) s a = ap (λ (z : World). (all_told place cell (told_steps (map (frame_step number) rest)) z).1) (writes_there w i first s e place number cell apart at a own (frame_spelling wait.0) (said_of wait.1))
      ∙ writes_all rest (write e wait s) (arrived_alike (world.other e) first s (frame_spelling wait.0) (said_of wait.1) a)

-- ---- the pair

pub said_all : (x : Side) (i : ℕ) (probed : Bool) (waits : List (Frame × Weight)) (v : Pair) → v.link x ≡ Up i probed → run (each_said x waits) v ≡ put i (says_all x waits (v.sock i)) v
said_all x i probed [] v up = sym (put_same i v)
said_all x i probed (wait ∷ rest) v up = ap (λ (k : LinkState). run (each_said x rest) (say x k v)) up
    ∙ said_all x i probed rest (put i (says x pair.Data (v.sock i)) v) up
    ∙ ap (λ (z : Sock). put i (says_all x rest z) (put i (says x pair.Data (v.sock i)) v)) (put_here i (says x pair.Data (v.sock i)) v)
    ∙ put_put i (says_all x rest (says x pair.Data (v.sock i))) (says x pair.Data (v.sock i)) v

pub may_say : (x : Side) (waits : List (Frame × Weight)) (v : Pair) → AllAllowed (each_said x waits) v
may_say x [] v = tt
may_say x (wait ∷ rest) v = (tt, may_say x rest (say x (v.link x) v))
