-- `any_nan` meets its contract. Assumes nothing.
use Rattle.stream_fields.specs.Fields.{finding_nan}
use Rattle.stream_fields.proofs.fields.any_nan.Goals as goal

pub returns-then-is_nan : goal.returns-then-is_nan
returns-then-is_nan c = search finding_nan

pub returns-then-is_nan-2 : goal.returns-then-is_nan-2
returns-then-is_nan-2 c = search finding_nan

pub returns-then-is_nan-3 : goal.returns-then-is_nan-3
returns-then-is_nan-3 c = search finding_nan

pub returns-then-is_nan-4 : goal.returns-then-is_nan-4
returns-then-is_nan-4 c = search finding_nan

pub returns : goal.returns
returns c = search finding_nan
