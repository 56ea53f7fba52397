-- The sending node as a passage sees it: the marks of its pairs, and what waits for its link.
use Rattle.std.specs.Prelude.{ℕ, ◌-◌, Bool, true, false, ◌||◌, List, [], ◌∷◌, slice_get, Option, Some, None, nat_lt, if◌then◌else◌}
use Rattle.std.specs.List.{flat_map}
use Rattle.std.specs.Option.{option_map_or}
use Rattle.ch_wire.specs.declared.frame.Frame.{Frame}
use Rattle.ch_wire.specs.declared.frame.Frame.TheVariants as frames
use Rattle.ch_light.specs.declared.TheConstants.{FIRST_ID}
use Rattle.ch_mail.specs.Lives.{is_over}
use Rattle.ch_mail.specs.Mail.{life_of}
use Rattle.ch_static.specs.declared.target.Target.{Target}
use Rattle.ch_static.specs.declared.target.Target.TheVariants as targets
use Rattle.ch_model.specs.declared.step.Place.{Place}
use Rattle.ch_model.specs.declared.step.Weight.{Weight}
use Rattle.ch_model.specs.NodeState as nodes
use Rattle.ch_model.specs.NodeState.{NodeState, Pair}
use Rattle.ch_model.specs.NodePairs.{pair_of}
use Rattle.ch_model.specs.HostWrites.{said_of}
use Rattle.ch_delivery.specs.Passage.{Mark, Unopened, Opened, Broken, Ended, Item, Created, Message, Closed}
use Rattle.ch_laws_delivery.specs.Scene.{Name, Use}

-- ---- pairs

-- the target is a name
abbrev pub is_named : Target → Bool
is_named (targets.Named at name) = true
is_named to = false

-- the pair's target is a name
abbrev pub named : Option Name → Bool
named None = false
named (Some name) = is_named name.to

-- the process was made, and is over
abbrev pub is_over_at : NodeState → ℕ → Bool
is_over_at node by = option_map_or is_over (life_of node.mail by) false

-- nothing comes from the process any more: it is over, or the node is shut
abbrev pub has_ended : NodeState → ℕ → Bool
has_ended node by = node.is_shut || is_over_at node by

-- a mark without its connection
abbrev pub bare : nodes.Mark → Mark
bare nodes.Unopened = Unopened
bare (nodes.Opened conn) = Opened
bare nodes.Broken = Broken

-- a pair's mark, by whether nothing comes from its process any more
abbrev pub mark_as : Bool → nodes.Mark → Mark
mark_as true mark = Ended
mark_as false mark = bare mark

-- the pair of a name
abbrev pub pair_at : NodeState → Name → Pair
pair_at node name = pair_of node.pairs name.by name.to

-- the mark, the epoch and the next index of a pair, which are those of a new one where none has that number
abbrev pub mark_of : NodeState → Option Name → Mark
mark_of node None = mark_as node.is_shut nodes.Unopened
mark_of node (Some name) = mark_as (has_ended node name.by) (pair_at node name).mark

abbrev pub epoch_of : NodeState → Option Name → ℕ
epoch_of node None = 0
epoch_of node (Some name) = (pair_at node name).epoch

abbrev pub index_of : NodeState → Option Name → ℕ
index_of node None = 0
index_of node (Some name) = (pair_at node name).index

-- ---- items

-- what an id is for, if it is of a pair
abbrev pub flat : Option (Option Use) → Option Use
flat None = None
flat (Some u) = u

abbrev pub use_at : List (Option Use) → ℕ → Option Use
use_at uses id = if nat_lt id FIRST_ID then None else flat (slice_get uses (id - FIRST_ID))

-- A payload on a connection of a pair: with the place of a message it carries that, and without one it opens the
-- connection.
abbrev pub carried : Option Use → Option Place → List Item
carried None said = []
carried (Some u) None = Created u.pair u.epoch ∷ []
carried (Some u) (Some place) = Message u.pair u.epoch place.index ∷ []

-- a connection of a pair is closed
abbrev pub closing : Option Use → List Item
closing None = []
closing (Some u) = Closed u.pair u.epoch ∷ []

-- A frame, with the place of its message. That an id is created says nothing yet, and other frames say nothing here.
abbrev pub items_in : List (Option Use) → Frame → Option Place → List Item
items_in uses (frames.Data id payload) said = carried (use_at uses id) said
items_in uses (frames.Closed id) said = closing (use_at uses id)
items_in uses frame said = []

-- what waits, as items
abbrev pub items_of : List (Option Use) → List (Frame × Weight) → List Item
items_of uses waits = flat_map (λ item. items_in uses item.0 (said_of item.1)) waits
