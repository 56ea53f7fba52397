use Rattle.std.proofs.Common.{◌≡◌, ap, sym, ◌∙◌}
use Rattle.ch_lines.proofs.Tables.{with_stranger}
use Rattle.ch_lines.proofs.declared.Declared.add_stranger.Goals as goal

pub invariant_of-self-2 : goal.invariant_of-self-2
invariant_of-self-2 c =
    let name = c.into_vec-key.ensures ∙ c.in_ok-copy.ensures ∙ sym c.in_ok-name.ensures in
    let host = c.into_vec-guest.ensures ∙ c.in_ok-copy-2.ensures ∙ sym c.in_ok-host.ensures in
    with_stranger c.self.invariant c.reserve.ensures.keys c.put_key.ensures name c.reserve-2.ensures.keys c.put_key-2.ensures host c.in_ok-push.ensures.items
