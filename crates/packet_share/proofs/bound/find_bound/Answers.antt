-- `find_bound` meets its contract, a law for each end. Assumes nothing.
use Rattle.packet_share.specs.Bound.{finding_bound}
use Rattle.packet_share.proofs.bound.find_bound.Goals as goal

pub returns-in_err-place : goal.returns-in_err-place
returns-in_err-place c = search finding_bound

pub returns-in_err-row : goal.returns-in_err-row
returns-in_err-row c = search finding_bound

pub returns : goal.returns
returns c = search finding_bound
