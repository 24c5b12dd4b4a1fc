-- `apply_shared` meets its contract. Assumes nothing.
use Rattle.packet_apply_shared.specs.Shared.{sharing}
use Rattle.packet_apply_shared.proofs.apply_shared.Goals as goal

pub returns-in-Destroy : goal.returns-in-Destroy
returns-in-Destroy c = search sharing

pub returns-in-Export : goal.returns-in-Export
returns-in-Export c = search sharing

pub returns-in-Import : goal.returns-in-Import
returns-in-Import c = search sharing

pub returns-in-Release : goal.returns-in-Release
returns-in-Release c = search sharing
