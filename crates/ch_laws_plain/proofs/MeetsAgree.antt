-- A turn of a cell leaves each of its nodes with what the host gives, and with what the host has created.
use Rattle.std.proofs.Common.{◌≡◌, ℕ, Bool, List, [], ◌∷◌, Ok, refl, sym, ap, subst}
use Rattle.std.specs.Prelude.{find, Some, Result}
use Rattle.ch_base.specs.declared.address.Address.{Address}
use Rattle.ch_base.specs.declared.event.Room.{Room}
use Rattle.ch_static.specs.declared.command.Command.{Command}
use Rattle.ch_model.specs.declared.act.Act.{Act}
use Rattle.ch_model.specs.declared.command.CommandError.{CommandError}
use Rattle.ch_model.specs.declared.local.LocalEntry.{LocalEntry}
use Rattle.ch_model.specs.declared.local.LocalEntry.TheVariants as local
use Rattle.ch_model.specs.declared.step.SocketEvent.{SocketEvent}
use Rattle.ch_model.specs.declared.step.Step.{Step}
use Rattle.ch_model.specs.declared.step.Step.TheVariants as steps
use Rattle.ch_model.specs.Cell.{room_for}
use Rattle.ch_model.specs.CellSteps.{Followed, after_entries, is_at, with_node, told_steps, acts_on, steps_on}
use Rattle.ch_model.specs.Host.{host_on, host_next}
use Rattle.ch_model.specs.HostState.{HostState}
use Rattle.ch_model.specs.HostSteps.{Stepped}
use Rattle.ch_model.specs.Node.{node_make, node_command, target_node}
use Rattle.ch_model.specs.NodeState.{NodeState}
use Rattle.ch_model.specs.WorldState.{Cell}
use Rattle.ch_laws_log.proofs.Posts.{PostsNone, AllNone, PostsLast, AllLast, event_last, next_last}
use Rattle.ch_laws_connections.specs.Arrivals.{MeetsAs, CellMeets}
use Rattle.ch_laws_connections.specs.Fits.{Fits, CellFits}
use Rattle.ch_laws_connections.specs.Senders.{sender_of, Own}
use Rattle.ch_laws_connections.specs.Tables.{roomy_at}
use Rattle.ch_laws_connections.proofs.Arriving as arriving
use Rattle.ch_laws_connections.proofs.Cells.{AllFit, sizes, node_fits, acts_all, steps_from}
use Rattle.ch_laws_connections.proofs.CellSteps.{others_fit, room_fits}
use Rattle.ch_laws_connections.proofs.Does.{Does, Any, AllDo}
use Rattle.ch_laws_connections.proofs.HostItems.{event_goes, next_goes}
use Rattle.ch_laws_connections.proofs.HostLinks.{Goes, AllGo}
use Rattle.ch_laws_connections.proofs.MadeCells as cells
use Rattle.ch_laws_connections.proofs.MadeCells.{listed_meets, acts_meet, steps_all}
use Rattle.ch_laws_connections.proofs.MadeItems.{Comes, AllCome, HasEnd, event_comes, next_comes}
use Rattle.ch_laws_connections.proofs.Nodes.{RoomFits, on_make, on_command}
use Rattle.ch_laws_calls.specs.Calls.{with_host}

-- each node of the cell has what the host gives, and keeps what it has created
abbrev pub Agree : Cell → Type 0
Agree cell = CellFits cell × CellMeets cell

-- ---- a node does something, and its acts follow

did_agree : (Fit : (Address → ℕ) → (Address → Bool) → Type 0) (end : ℕ) (cell after : Cell) (there : ℕ × NodeState) (acts : List Act) (next : NodeState) (told : List LocalEntry) (done : Result (List Act × NodeState) CommandError) → find (is_at end) cell.nodes ≡ Some there
    → AllDo Fit (sender_of there.1) done → arriving.Stays there.1 done → Fit (sizes cell.host end) (roomy_at cell.host end) → done ≡ Ok (acts, next) → acts_on end acts (with_node end next cell) ≡ Ok (told, after) → Agree cell → Agree after
did_agree Fit end cell after there acts next told done found d s fit does all a = (
  subst (λ (r : Followed). AllFit r) all (acts_all end next acts cell (others_fit end cell a.0) fits),
  subst (λ (r : Followed). cells.AllMeet r) all (acts_meet end next acts cell a.0.links fits (λ e x h at. a.1 e x at) meets),
) where
  changes : Own (sender_of there.1) → Does Fit (sender_of there.1) acts (sender_of next)
  changes = subst (λ (r : Result (List Act × NodeState) CommandError). AllDo Fit (sender_of there.1) r) does d

  keeps : arriving.come_in next.arrived ≡ arriving.come_in there.1.arrived
  keeps = subst (λ (r : Result (List Act × NodeState) CommandError). arriving.Stays there.1 r) does s

  fits : Fits cell.host end acts (sender_of next)
  fits = node_fits Fit cell.host end acts (sender_of there.1) (sender_of next) changes fit (a.0.nodes end there found)

  meets : MeetsAs next.is_shut cell.host end next.arrived
  meets = subst (λ (b : Bool). MeetsAs b cell.host end next.arrived) (sym (changes (a.0.nodes end there found).0).shut) (listed_meets there.1.is_shut cell.host end there.1.arrived next.arrived keeps (a.1 end there found))

pub made_agree : (end : ℕ) (cell after : Cell) (there : ℕ × NodeState) (acts : List Act) (next : NodeState) (told : List LocalEntry) → find (is_at end) cell.nodes ≡ Some there → node_make there.1 ≡ Ok (acts, next) → acts_on end acts (with_node end next cell) ≡ Ok (told, after) → Agree cell → Agree after
made_agree end cell after there acts next told found does all a = did_agree Any end cell after there acts next told (node_make there.1) found (on_make there.1) (arriving.on_make there.1) tt does all a

pub asked_agree : (end by : ℕ) (command : Command) (cell after : Cell) (there : ℕ × NodeState) (acts : List Act) (next : NodeState) (told : List LocalEntry) → find (is_at end) cell.nodes ≡ Some there → node_command there.1 by command (room_for cell.host end there.1.own (target_node there.1 by command)) ≡ Ok (acts, next)
    → acts_on end acts (with_node end next cell) ≡ Ok (told, after) → Agree cell → Agree after
asked_agree end by command cell after there acts next told found does all a = did_agree (RoomFits there.1 (target_node there.1 by command) room) end cell after there acts next told (node_command there.1 by command room) found
    (on_command there.1 by command room) (arriving.on_command there.1 by command room) (room_fits cell.host end there.1 (target_node there.1 by command)) does all a
  where
    room : Room
    room = room_for cell.host end there.1.own (target_node there.1 by command)

-- ---- a host does something, and its nodes hear of it

steps_agree : (cell after : Cell) (host : HostState) (done : List Step) (told : List LocalEntry) → PostsLast done → Goes cell.host done host → ((end : ℕ) → HasEnd cell.host end → Comes end cell.host done host) → steps_on done (record cell { host = host }) ≡ Ok (told, after) → Agree cell → Agree after
steps_agree cell after host done told last goes comes is a = (
  subst (λ (r : Followed). AllFit r) is (steps_from cell host done last goes a.0),
  subst (λ (r : Followed). cells.AllMeet r) is (steps_all cell host done last goes comes a.0 a.1),
)

pub item_agree : (cell after : Cell) (host : HostState) (done : List Step) (told : List LocalEntry) → host_next cell.host ≡ Ok (Some done, host) → steps_on done (record cell { host = host }) ≡ Ok (told, after) → Agree cell → Agree after
item_agree cell after host done told does is a = steps_agree cell after host done told (next_last cell.host host done does) (next_goes cell.host host done does) (λ end has. next_comes end cell.host host done has does) is a

pub event_agree : (cell after : Cell) (event : SocketEvent) (host : HostState) (done : List Step) (told : List LocalEntry) → host_on cell.host event ≡ Ok (done, host) → steps_on done (record cell { host = host }) ≡ Ok (told, after) → Agree cell → Agree after
event_agree cell after event host done told does is a = steps_agree cell after host done told
    (subst (λ (r : Stepped). AllLast r) does (event_last cell.host event))
    (subst (λ (r : Stepped). AllGo cell.host r) does (event_goes cell.host event))
    (λ end has. subst (λ (r : Stepped). AllCome end cell.host r) does (event_comes end cell.host event)) is a

-- ---- an event of which no node hears

untold : (done : List Step) (mid : Cell) → PostsNone done → steps_on done mid ≡ Ok (told_steps done, mid)
untold [] mid none = refl
untold (steps.Post end event ∷ rest) mid none = absurd none
untold (step ∷ rest) mid none = ap (after_entries (local.Step step ∷ [])) (untold rest mid none)

pub quiet_agree : (cell : Cell × ℕ) (event : SocketEvent) (host : HostState) (done : List Step) → AllNone (host_on cell.0.host event) → host_on cell.0.host event ≡ Ok (done, host) → Agree cell.0 → Agree (with_host cell host)
quiet_agree cell event host done quiet does a = event_agree cell.0 (with_host cell host) event host done (told_steps done) does (untold done (with_host cell host) (subst (λ (r : Stepped). AllNone r) does quiet)) a
