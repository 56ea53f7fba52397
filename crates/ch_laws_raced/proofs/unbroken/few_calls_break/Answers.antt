use Rattle.ch_laws_raced.proofs.UnbrokenSteps.{calm_connect, calm_send, calm_close, calm_joined, calm_came, calm_fed, calm_ended}
use Rattle.ch_laws_raced.proofs.unbroken.few_calls_break.Goals as goal

pub returns : goal.returns
returns c = record {
  connect = calm_connect;
  send = calm_send;
  close = calm_close;
  joined = calm_joined;
  came = calm_came;
  fed = calm_fed;
  ended = λ host after sock told none e. calm_ended host after sock told (λ known is stands. none known is) e;
}
