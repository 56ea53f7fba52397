-- The end of a host that dials is pending, then open, then up.
use Rattle.std.proofs.Common.{◌≡◌, refl}
use Rattle.std.specs.Fmt.{digits}
use Rattle.std.specs.Prelude.{Some}
use Rattle.ch_link.specs.Table.{step_of}
use Rattle.ch_light.specs.Ids.{give_of}
use Rattle.ch_watch.specs.Same.{same_node}
use Rattle.ch_model.specs.Host.{host_on, host_next}
use Rattle.ch_model.specs.HostCalls.{host_open, host_connect}
use Rattle.ch_laws_links.specs.Standing.{IsPending, IsOpen, IsRisen, standing_at}
use Rattle.ch_laws_links.specs.Scenes.{dialing_host, answered_host, accepted_host}

pub rises : (standing_at dialing_host 0 ≡ Some IsPending) × (standing_at answered_host 0 ≡ Some IsOpen) × (standing_at accepted_host 0 ≡ Some IsRisen)
unfolding digits step_of give_of same_node host_on host_next host_open host_connect
rises = (refl, refl, refl)
