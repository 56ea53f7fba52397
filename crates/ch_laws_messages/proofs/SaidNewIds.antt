-- The next id of a link with the other node has carried no payload yet: what was written and what waits leads to the ids that were given.
use Rattle.std.proofs.Common.{◌≡◌, ◌≤◌, ℕ, suc, ◌+◌, Bool, false, cond, List, [], ◌∷◌, ◌++◌, length, map, refl, sym, ap, ◌∙◌, subst, arith}
use Rattle.std.proofs.lemmas.List.{append-nil, map-append}
use Rattle.std.specs.Prelude.{slice_get, Option, Some, None}
use Rattle.ch_light.specs.declared.TheConstants.{FIRST_ID}
use Rattle.ch_light.specs.declared.Connection.{Connection}
use Rattle.ch_link.specs.declared.LinkState.{LinkState}
use Rattle.ch_link.specs.declared.LinkState.TheVariants as states
use Rattle.ch_wire.specs.declared.frame.Frame.{Frame}
use Rattle.ch_model.specs.declared.entry.Entry.{Entry}
use Rattle.ch_model.specs.declared.line.Line.{Line}
use Rattle.ch_model.specs.declared.step.Weight.{Weight}
use Rattle.ch_model.specs.AccountsItems.{frames_of, first_payload}
use Rattle.ch_model.specs.HostState.{Link, Socket, HostState}
use Rattle.ch_model.specs.HostSteps.{link_with}
use Rattle.ch_model.specs.HostWrites.{is_up}
use Rattle.ch_model.specs.Sockets.{writings}
use Rattle.ch_model.specs.Stages.{Stage, Open, is_ended}
use Rattle.ch_model.specs.WorldSockets.{end_of}
use Rattle.ch_model.specs.WorldState.{Cell, World}
use Rattle.ch_race.specs.Pair.{Side, other}
use Rattle.ch_laws_calls.specs.Scenes.{IsPairOf, scene_of, SceneFacts}
use Rattle.ch_laws_calls.specs.Tables.{Table, table_of, frames_on}
use Rattle.ch_laws_calls.specs.FitsFit.{ids_of, given_at, final_in, final_at, Leads}
use Rattle.ch_laws_calls.proofs.FitsUps.{up_is}
use Rattle.ch_laws_ids.specs.Runs.{RunsThere, RunsFor, AllRun}
use Rattle.ch_laws_links.specs.Naming.{IsNaming}
use Rattle.ch_laws_links.proofs.Says.{risen}
use Rattle.ch_laws_race.specs.Scene.{Party, host_in, hosts_of, link_of}
use Rattle.ch_laws_peers.specs.Words.{Placed, words_in, datas_in, waiting_as, placing}
use Rattle.ch_laws_peers.specs.Says.{all_towards, IsUpOn, Says}
use Rattle.ch_laws_peers.specs.Standing.{Standing}
use Rattle.ch_laws_messages.specs.SaidGoes.{bare, said_to, frames_to, waits_for}
use Rattle.ch_laws_messages.proofs.SaidIds.{none_under}
use Rattle.ch_laws_messages.proofs.SaidLogs.{at_up, each_one}
use Rattle.ch_laws_messages.proofs.SaidSides.{up_end}
use Rattle.ch_laws_messages.proofs.SaidStill.{up_waits}
use Rattle.ch_laws_messages.proofs.SaidTurned.{numbers_are}
use Rattle.ch_laws_messages.proofs.SaidWords.{placing_bare}

bare_waits : (waits : List (Frame × Weight)) → bare (waiting_as waits) ≡ map (λ (wait : Frame × Weight). wait.0) waits
bare_waits [] = refl
bare_waits (wait ∷ rest) = ap (λ (l : List Frame). wait.0 ∷ l) (bare_waits rest)

table_long : (given : List Connection) → length (table_of given) ≡ length given
table_long [] = refl
table_long (c ∷ rest) = ap suc (table_long rest)

module _ (journal : List Line) (log : List Entry) (world : World) (st : Standing journal log world) (run : AllRun log world) (party : Side → Party) (pair : IsPairOf journal party) (x : Side) (says : Says journal log world party x) where
  abbrev link : Link
  link = link_of (scene_of party world) x

  facts : SceneFacts party world
  facts = st.each_pair.shown party pair

  there : (cell : Cell × ℕ) × (slice_get world.cells (party x).place ≡ Some cell)
  there = facts.there x

  host_is : hosts_of world (party x).place ≡ there.0.0.host
  host_is = ap host_in there.1

  naming : IsNaming there.0.0.host
  naming = (st.all.sound.links.naming (party x).place there.0 there.1).naming

  abbrev here : Link
  here = link_with there.0.0.host (party x).address.id (party (other x)).address

  link_is : link ≡ here
  link_is = ap (λ (h : HostState). link_with h (party x).address.id (party (other x)).address) host_is

  all_bare : bare (all_towards party world x log) ≡ frames_to party x log ++ bare (waiting_as (waits_for party world x))
  all_bare = map-append (λ (one : Placed). one.0) (placing (said_to party x log) [] 0 (frames_to party x log)) (waiting_as (waits_for party world x)) ∙ ap (λ (f : List Frame). f ++ bare (waiting_as (waits_for party world x))) (placing_bare (said_to party x log) [] 0 (frames_to party x log))

  off : is_up link.state ≡ false → frames_on (bare (all_towards party world x log)) [] ≡ Some (table_of link.given)
  off down = ap (λ (f : List Frame). frames_on f []) (all_bare ∙ ap (λ (f : List Frame). f ++ bare (waiting_as (waits_for party world x))) (says.down down) ∙ bare_waits (waits_for party world x))
      ∙ subst (λ (l : Link). frames_on (map (λ (wait : Frame × Weight). wait.0) l.waits) [] ≡ Some (table_of l.given)) (sym link_is) ((run.hosts (party x).place there.0 there.1 (party x).address.id (party (other x)).address).gives (ap (λ (l : Link). is_up l.state) (sym link_is) ∙ down))

  not_over : (known : Socket) (table : Table) → known.stage ≡ Open → final_in (Some known) table ≡ Some table
  not_over known table stands = ap (λ (s : Stage). cond (is_ended s) None (Some table)) stands

  on : (n : ℕ) (probed : Bool) → link.state ≡ states.Up n probed → frames_on (bare (all_towards party world x log)) [] ≡ Some (table_of link.given)
  on n probed up =
      let one = up_end party world x n probed facts st.all.sound.ends.sure.ends.each (subst IsNaming (sym host_is) naming) up in
      let here_up : here.state ≡ states.Up n probed = ap (λ (l : Link). l.state) (sym link_is) ∙ up in
      let known = risen there.0.0.host (party x).address.id (party (other x)).address n probed naming here_up in
      let both = numbers_are (party x).place n (end_of one.e one.socket).cell (end_of one.e one.socket).number one.end in
      let runs : RunsThere (slice_get world.cells (party x).place) n one.e (writings log one.s one.e) = subst (λ (m : Option ℕ). RunsFor world.cells (Some (party x).place) m one.e (writings log one.s one.e)) both.1 (subst (λ (c : Option ℕ). RunsFor world.cells c (end_of one.e one.socket).number one.e (writings log one.s one.e)) both.0 (run.ends one.s one.socket one.e one.is)) in
      let leads : Leads (final_at there.0.0.host n) (frames_on (frames_of log one.s one.e) []) = (subst (λ (o : Option (Cell × ℕ)). RunsThere o n one.e (writings log one.s one.e)) there.1 runs).leads in
      let final : final_at there.0.0.host n ≡ Some (table_of here.given) = ap (λ (o : Option Socket). final_in o (given_at there.0.0.host n)) known.1 ∙ not_over known.0 (given_at there.0.0.host n) known.2.stands ∙ ap (λ (o : Option Link). Some (ids_of (λ (l : Link). l.given) o)) (up_is there.0.0.host (party x).address.id (party (other x)).address n probed naming here_up) in
      let v : IsUpOn party world x one.s one.e = record { number = n; probed = probed; up = up; found = one.found } in
      ap (λ (f : List Frame). frames_on f []) (all_bare ∙ ap (λ (w : List (Frame × Weight)). frames_to party x log ++ bare (waiting_as w)) (up_waits journal log world party x pair st (ap is_up up)) ∙ append-nil (frames_to party x log) ∙ at_up party x log world (each_one party x log world (record { one = says.one; down = says.down })) one.s one.e one.theirs v)
      ∙ subst (λ (f : Option Table). Leads f (frames_on (frames_of log one.s one.e) [])) final leads ∙ ap (λ (l : Link). Some (table_of l.given)) (sym link_is)

  leads_there : frames_on (bare (all_towards party world x log)) [] ≡ Some (table_of link.given)
  leads_there = by_state link.state refl where
    by_state : (state : LinkState) → link.state ≡ state → frames_on (bare (all_towards party world x log)) [] ≡ Some (table_of link.given)
    by_state (states.Up n probed) e = on n probed e
    by_state (states.Dialing sock) e = off (ap is_up e)
    by_state states.AwaitOther e = off (ap is_up e)
    by_state states.Idle e = off (ap is_up e)

  -- no payload went under the next id
  pub next_new : first_payload (FIRST_ID + length (link_of (scene_of party world) x).given) (datas_in (words_in (all_towards party world x log))) ≡ None
  next_new = none_under (all_towards party world x log) [] (table_of link.given) (FIRST_ID + length link.given) leads_there (same (length (table_of link.given)) (length link.given) (table_long link.given)) where
    same : (a b : ℕ) → a ≡ b → FIRST_ID + a ≤ FIRST_ID + b
    same a b e = omega arith
