use Rattle.ch_laws_raced.proofs.OnceHears.{hears_still}
use Rattle.ch_laws_raced.proofs.OnceOver.{over_link, over_link_next, got_over_link}
use Rattle.ch_laws_raced.proofs.once.frames_come_over_links.Goals as goal

pub returns : goal.returns
returns c = record { read = over_link; next = over_link_next; still = hears_still; got = got_over_link }
