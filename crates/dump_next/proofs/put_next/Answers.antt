-- `put_next` meets its contract. Assumes nothing.
use Rattle.dump_next.specs.Next.{going_bad, going_known, going_unknown, going_stopped}
use Rattle.dump_next.proofs.put_next.Goals as goal

pub put_error-requires : goal.put_error-requires
put_error-requires c = search going_bad

pub put_packet-last-requires : goal.put_packet-last-requires
put_packet-last-requires c = record { dump_value = search going_known; dump_in_bounds = search going_known }

pub put_stopped-requires : goal.put_stopped-requires
put_stopped-requires c = search going_stopped

pub returns-then-strict : goal.returns-then-strict
returns-then-strict c = search going_stopped

pub put_packet-last-requires-in-Unknown : goal.put_packet-last-requires-in-Unknown
put_packet-last-requires-in-Unknown c = record { dump_value = search going_unknown; dump_in_bounds = search going_unknown }

pub returns-in-Bad : goal.returns-in-Bad
returns-in-Bad c = search going_bad

pub returns-in-Known : goal.returns-in-Known
returns-in-Known c = search going_known

pub returns-else-strict : goal.returns-else-strict
returns-else-strict c = search going_unknown
