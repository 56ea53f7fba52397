use Rattle.ch_light.proofs.OpenIds.{given, created, closed_number, closed_id, found, absent, free_given, one_each_given, one_each_closed}
use Rattle.ch_light.proofs.open_ids.Goals as goal

pub returns : goal.returns
returns c = record {
  given = given;
  created = created;
  closed_number = closed_number;
  closed_id = closed_id;
  found = found;
  absent = absent;
  still_free = free_given;
  one_each_given = one_each_given;
  one_each_closed = one_each_closed;
}
