-- The passage that two nodes of a world are, for the pairs that have these names.
use Rattle.std.specs.Prelude.{◌≡◌, ℕ, List, slice_get, Some}
use Rattle.ch_model.specs.HostWrites.{is_up}
use Rattle.ch_delivery.specs.Passage.{Passage}
use Rattle.ch_laws_delivery.specs.Scene.{Name, Scene, link_of}
use Rattle.ch_laws_delivery.specs.Sending.{named, mark_of, epoch_of, index_of, items_of}
use Rattle.ch_laws_delivery.specs.Receiving.{standing_for, bound_of}

-- what is seen of a scene
abbrev pub view : List Name → Scene → Passage
view names scene = record {
  named = λ c. named (slice_get names c);
  mark = λ c. mark_of scene.from.node (slice_get names c);
  epoch = λ c. epoch_of scene.from.node (slice_get names c);
  index = λ c. index_of scene.from.node (slice_get names c);
  waits = items_of scene.given (link_of scene.from).waits;
  up = is_up (link_of scene.from).state;
  on = scene.way.on;
  flight = scene.way.flight;
  cut = scene.way.cut;
  at = scene.way.at;
  bound = λ c e. bound_of scene.to.node (link_of scene.to).created scene.created c e;
  stands = λ c. standing_for scene.to.node (slice_get names c);
  log = scene.log;
}

-- no pair has two numbers
abbrev pub AreApart : List Name → Type 0
AreApart names = (c d : ℕ) (m n : Name) → slice_get names c ≡ Some m → slice_get names d ≡ Some n → m.by ≡ n.by → m.to ≡ n.to → c ≡ d
