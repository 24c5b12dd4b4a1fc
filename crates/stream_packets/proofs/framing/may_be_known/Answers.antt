-- `may_be_known` meets its contract. Assumes nothing.
use Rattle.stream_packets.specs.Framing.{finding_block}
use Rattle.stream_packets.proofs.framing.may_be_known.Goals as goal

pub returns-then-op-lt-CREATE_BUFFER : goal.returns-then-op-lt-CREATE_BUFFER
returns-then-op-lt-CREATE_BUFFER c = search finding_block

pub returns-then-op : goal.returns-then-op
returns-then-op c = search finding_block

pub returns-then-block : goal.returns-then-block
returns-then-block c = search finding_block

pub returns-then-block-2 : goal.returns-then-block-2
returns-then-block-2 c = search finding_block

pub returns-then-block-3 : goal.returns-then-block-3
returns-then-block-3 c = search finding_block

pub returns : goal.returns
returns c = search finding_block
