use Rattle.diff_pairs.specs.Parting.{parting}
use Rattle.diff_pairs.proofs.parting.Goals as goal

pub returns-in-Neither : goal.returns-in-Neither
returns-in-Neither c = search parting

pub returns-in-SameOpcode : goal.returns-in-SameOpcode
returns-in-SameOpcode c = search parting

pub returns-in-OtherOpcode : goal.returns-in-OtherOpcode
returns-in-OtherOpcode c = search parting

pub returns-in-OnlyFirst : goal.returns-in-OnlyFirst
returns-in-OnlyFirst c = search parting

pub returns-in-OnlySecond : goal.returns-in-OnlySecond
returns-in-OnlySecond c = search parting

pub overflow_add-at : goal.overflow_add-at
overflow_add-at c = search parting

pub overflow_add-to : goal.overflow_add-to
overflow_add-to c = search parting

pub overflow_add-i : goal.overflow_add-i
overflow_add-i c = search parting

pub loop-at-smaller : goal.loop-at-smaller
loop-at-smaller c = search parting

pub loop-at-preserved : goal.loop-at-preserved
loop-at-preserved c = search parting
