-- `judge_import` meets its contract. Assumes nothing.
use Rattle.packet_apply_shared.specs.Shared.{judging}
use Rattle.packet_apply_shared.proofs.judge_import.Goals as goal

pub returns : goal.returns
returns c = search judging
