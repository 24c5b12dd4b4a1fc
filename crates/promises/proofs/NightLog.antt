-- The theorems of specs/NightLog.antt, and what they rest on. Assumes nothing.
use Rattle.std.specs.Prelude.{◌≡◌, refl, true}
use Rattle.rules.specs.Bytes.{le, bytes_of}
use Rattle.rules.specs.Lists.{lookup}
use Rattle.rules.specs.Layouts.{ring_header}
use Rattle.rules.specs.Table.{entry_rules}
use Rattle.rules.specs.Ring.{power_of_two, good_header, good_ring, opening_of}
use Rattle.rules.specs.Shapes.{block_bytes, block_side, halvings, full_chain, mip_side, blocks, tight, rows, mip_bytes, offset_of, good_shape, good_backed, texture_bytes, packed_size, start_of}
use Rattle.rules.specs.Packets.{on_texture_packet, create, create_backed}
use Rattle.rules.specs.Settle.{ended_by, signalled, faulted, doorbell_cleared}
use Rattle.rules.specs.Steps.{step, open_step}
use Rattle.promises.specs.NightLog.{after_signal, agree, completed_nine, creating, entry_error, header, night_log, ring, roomy, rung, shape, start, zeros}

-- ---- the table

-- the rules give what the night log says, in every example
pub night-log-holds : agree night_log ≡ true
unfolding packed_size good_backed good_shape block_bytes block_side halvings full_chain mip_side blocks tight rows mip_bytes offset_of texture_bytes start_of on_texture_packet create create_backed lookup ended_by signalled faulted doorbell_cleared le bytes_of ring_header power_of_two good_header good_ring opening_of open_step step entry_rules night_log shape roomy creating start completed_nine after_signal zeros ring header rung entry_error agree
night-log-holds = refl
