-- `release` meets its contract. Assumes nothing.
use Rattle.packet_apply_shared.specs.Shared.{releasing}
use Rattle.packet_apply_shared.proofs.release.Goals as goal

pub without_token-held-requires : goal.without_token-held-requires
without_token-held-requires c = search releasing

pub returns-in-Ok : goal.returns-in-Ok
returns-in-Ok c = search releasing

pub returns-in-Err : goal.returns-in-Err
returns-in-Err c = search releasing
