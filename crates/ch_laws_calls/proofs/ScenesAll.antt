-- All that is so of the scene of two nodes.
use Rattle.std.proofs.Common.{List, ap, ◌∙◌}
use Rattle.std.specs.Prelude.{find}
use Rattle.ch_reader.specs.declared.item.Item.TheVariants as items
use Rattle.ch_model.specs.declared.entry.Entry.{Entry}
use Rattle.ch_model.specs.declared.line.Line.{Line}
use Rattle.ch_model.specs.declared.name.End.TheVariants.{O, T}
use Rattle.ch_model.specs.HostState.{HostState}
use Rattle.ch_model.specs.HostSteps.{is_socket}
use Rattle.ch_model.specs.WorldState.{World}
use Rattle.ch_race.specs.Pair.{Side, other}
use Rattle.ch_laws_log.proofs.Stored.{next_is_new}
use Rattle.ch_laws_writes.specs.Dues.{Asking, Answering, Framing}
use Rattle.ch_laws_race.specs.Scene.{Party}
use Rattle.ch_laws_calls.specs.Scenes.{SceneFacts}
use Rattle.ch_laws_calls.proofs.ScenesGiven.{IsGiven, names_are, called_in, is_called_in, hosted, host_is}
use Rattle.ch_laws_calls.proofs.ScenesDialed.{of_side, is_in, kept_as, used_for}
use Rattle.ch_laws_calls.proofs.ScenesStreams.{host_has, stands_as, spelled_at, takes, may_be_read, asking_fits, answering_fits, framing_fits}
use Rattle.ch_laws_calls.proofs.ScenesFacts.{are_apart, acts_there, texts_differ, are_known, all_frames, end_between, other_end, other_name, next_is_free}
use Rattle.ch_laws_calls.proofs.ScenesRequests.{request_is, no_mismatch_of, never_mismatch}
use Rattle.ch_laws_calls.proofs.ScenesOtherAsked.{asks_others}

pub all_facts : (journal : List Line) (log : List Entry) (world : World) (party : Side → Party) → IsGiven journal log world party → SceneFacts party world
all_facts journal log world party g = record {
  there = λ x. let at = hosted journal log world party g x in (at.0, at.1);
  acts = acts_there journal log world party g;
  apart = are_apart journal log world party g;
  known = are_known journal log world party g;
  called_as = called_in journal log world party g;
  names_differ = texts_differ journal log world party g;
  names_are = names_are journal party g.many g.pair;
  is_called = is_called_in journal log world party g;
  new_name = λ from to. next_is_new world from to g.sound.ends.sure.ends.sorted.0.numbered;
  sides = λ i socket there between e. of_side journal log world party g socket (is_in journal log world party g i socket there) between e;
  stands = λ x e i n socket known has kept. let at = hosted journal log world party g x in stands_as journal log world party g x e i n socket known has at.0 at.1 (host_has world party x n known at.0 at.1 kept);
  kept = λ x e i n socket has. let at = hosted journal log world party g x in let held = kept_as journal log world party g x e i n socket has at.0 at.1 in (held.known, ap (λ (h : HostState). find (is_socket n) h.sockets) (host_is world (party x).place at.0 at.1) ∙ held.is);
  users = λ x e i n socket known has kept. let at = hosted journal log world party g x in used_for journal log world party g x e i n socket known has at.0 at.1 (host_has world party x n known at.0 at.1 kept);
  between = λ x n known kept user. let end = end_between journal log world party g x n known kept user in (end.i, end.socket, end.e, end.has);
  others = other_end journal log world party g;
  other_names = other_name journal log world party g;
  next_free = next_is_free journal log world party g;
  request = λ x i socket known r more has kept stands expects whole each. (request_is journal log world party g x i socket known r more has kept stands expects whole each, no_mismatch_of journal log world party g x i socket known has kept);
  other_request = asks_others journal log world party g;
  no_mismatch = never_mismatch journal log world party g;
  spelled = λ x e i socket known has kept stands. spelled_at journal log world party g x e i known.number socket known has kept stands;
  takes_request = λ x i n socket has due. takes journal log world party g x O i n socket has (Asking (party x).address.id (party (other x)).address) due
      (items.Request (record { target = (party (other x)).address.id; from = (party x).address })) (asking_fits (party x).address.id (party (other x)).address (items.Request (record { target = (party (other x)).address.id; from = (party x).address })) (may_be_read journal log world party g x));
  takes_answer = λ x i n socket answer has due. takes journal log world party g x T i n socket has Answering due (items.Answer answer) (answering_fits answer);
  takes_frame = λ x e i n socket frame has due may. takes journal log world party g x e i n socket has Framing due (items.Frame frame) (framing_fits frame may);
  waits = all_frames journal log world party g;
}
