-- `viewport_packet` meets its contract. Assumes nothing.
use Rattle.std.proofs.Common.{rules}
use Rattle.stream_fields.specs.Fields.{one_number, number-1, number-2, number-3, number-4, number-5, reading_viewport}
use Rattle.stream_fields.proofs.fields.viewport_packet.Goals as goal

pub returns-then-is_nan : goal.returns-then-is_nan
returns-then-is_nan c = search reading_viewport

pub returns-then-any_nan : goal.returns-then-any_nan
returns-then-any_nan c = search reading_viewport

pub float_of-requires : goal.float_of-requires
float_of-requires c = search (one_number, rules)

pub float_of-requires-2 : goal.float_of-requires-2
float_of-requires-2 c = search (number-1, rules)

pub float_of-requires-3 : goal.float_of-requires-3
float_of-requires-3 c = search (number-2, rules)

pub float_of-requires-4 : goal.float_of-requires-4
float_of-requires-4 c = search (number-3, rules)

pub float_of-requires-5 : goal.float_of-requires-5
float_of-requires-5 c = search (number-4, rules)

pub float_of-requires-6 : goal.float_of-requires-6
float_of-requires-6 c = search (number-5, rules)

pub returns : goal.returns
returns c = search reading_viewport
