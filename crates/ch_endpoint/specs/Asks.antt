-- A request that an endpoint makes on a socket that it dialed.
use Rattle.std.specs.Prelude.{ℕ, [], ◌∷◌, None, Ok}
use Rattle.ch_base.specs.declared.address.Address.{Address}
use Rattle.ch_wire.specs.Spelling.{request_spelling}
use Rattle.ch_model.specs.declared.step.Step.TheVariants as steps
use Rattle.ch_model.specs.HostState.{HostState}
use Rattle.ch_model.specs.HostSteps.{Stepped, own_address}
use Rattle.ch_endpoint.specs.Ends.{opened_among}

-- the end is open, and the request of this endpoint to its peer is written
abbrev pub asks : ℕ → ℕ → Address → HostState → Stepped
asks sock end peer host =
    Ok (steps.Write sock (request_spelling (record { target = peer.id; from = own_address host end })) None ∷ [], record host { sockets = opened_among sock host.sockets })
