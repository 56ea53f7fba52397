use Rattle.std.proofs.Common.{refl}
use Rattle.ch_race.proofs.Names.{one_live, bundle}
use Rattle.ch_race.proofs.Runs.{invariant_reached}
use Rattle.ch_laws_race.specs.View.{view}
use Rattle.ch_laws_calls.specs.Scenes.{scene_of}
use Rattle.ch_laws_raced.proofs.Together.{many_raced}
use Rattle.ch_laws_raced.proofs.one_socket_is_live.Goals as goal

pub returns-clause-one : goal.returns-clause-one
returns-clause-one z = λ bytes front rest whole log world e peers party pair. one_live (view (scene_of party world)) (invariant_reached (view (scene_of party world)) ((many_raced bytes front rest whole log world e peers).1 party pair)).named

pub returns-clause-bundle : goal.returns-clause-bundle
returns-clause-bundle z = λ bytes front rest whole log world e peers party pair. bundle (view (scene_of party world)) (invariant_reached (view (scene_of party world)) ((many_raced bytes front rest whole log world e peers).1 party pair)).named

pub returns-clause-quiet : goal.returns-clause-quiet
returns-clause-quiet z = λ bytes front rest whole log world e peers party pair. (invariant_reached (view (scene_of party world)) ((many_raced bytes front rest whole log world e peers).1 party pair)).quieted refl
