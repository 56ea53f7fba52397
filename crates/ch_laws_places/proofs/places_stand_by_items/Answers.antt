use Rattle.ch_laws_places.proofs.Kept.{places_kept, fresh_places}
use Rattle.ch_laws_places.proofs.places_stand_by_items.Goals as goal

pub returns-clause-fresh : goal.returns-clause-fresh
returns-clause-fresh c = fresh_places

pub returns-clause-kept : goal.returns-clause-kept
returns-clause-kept c = places_kept
