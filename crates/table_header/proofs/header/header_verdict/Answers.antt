-- `header_verdict` meets its contract. Assumes nothing.
use Rattle.table_header.specs.Header.{judging_header}
use Rattle.table_header.proofs.header.header_verdict.Goals as goal

pub returns-then-wrong_header : goal.returns-then-wrong_header
returns-then-wrong_header c = search judging_header

pub returns-then-h-lt-ENTRY_SIZE : goal.returns-then-h-lt-ENTRY_SIZE
returns-then-h-lt-ENTRY_SIZE c = search judging_header

pub returns-then-h-end : goal.returns-then-h-end
returns-then-h-end c = search judging_header

pub returns-then-h : goal.returns-then-h
returns-then-h c = search judging_header

pub returns : goal.returns
returns c = search judging_header
