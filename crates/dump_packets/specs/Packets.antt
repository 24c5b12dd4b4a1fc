-- What the choice of a packet's line by its opcode asks for. Assumes nothing.
use Rattle.std.specs.Prelude.{◌≡◌, List, ℕ, ◌+◌, ◌≤◌, length}
use Rattle.std.proofs.Common.{arith, rules}
use Rattle.rules.specs.Lists.Found.{none}
use Rattle.rules.specs.Stream.{known, least_size}
use Rattle.rules.specs.PacketRows.{packet_row, unknown-has-no-row}
use Rattle.rules.specs.Dump.{line, line_in, opcode_text}
use Rattle.stream_opcodes.specs.Opcodes.{none-known, known-buffer, known-texture, known-destroy, known-dirty, known-copy, known_target, known-viewport, known-scissor, known-clear, known-export, known-import, known-release}
use Rattle.text_numbers.specs.Writing.{Puts}

module _ (op : ℕ) (b : List ℕ) (at offset size : ℕ) (m : List ℕ) where
  -- an opcode that is this one
  module _ (c : ℕ) (is : op ≡ c) where
    pub kind-room : at + length (line_in (packet_row op) offset op size b) ≤ length m → at + length (line_in (packet_row c) offset c size b) ≤ length m
    kind-room h = rw is at h

    pub kind-put : (end : ℕ) (m' : List ℕ) → Puts at (line_in (packet_row c) offset c size b) m end m' → Puts at (line_in (packet_row op) offset op size b) m end m'
    kind-put end m' p = rw is p

  -- an opcode that is in no row
  module _ (unknown : known op ≡ none) (word : ℕ) (same : word ≡ op) where
    pub unknown-room : at + length (line_in (packet_row op) offset op size b) ≤ length m → at + length (line offset "UNKNOWN" size (opcode_text word)) ≤ length m
    unknown-room h = rw same (rw (unknown-has-no-row op unknown) at h)

    pub unknown-put : (end : ℕ) (m' : List ℕ) → Puts at (line offset "UNKNOWN" size (opcode_text word)) m end m' → Puts at (line_in (packet_row op) offset op size b) m end m'
    unknown-put end m' p = rw (unknown-has-no-row op unknown) (rw same at p)

-- a packet that is read has room for its fields
pub fields-there : (op : ℕ) (b : List ℕ) (size : ℕ) → size ≡ least_size op → least_size op ≤ length b → size ≤ length b
fields-there op b size e h = omega arith

pub ruleset line_buffer = (kind-room, kind-put, fields-there, known-buffer, rules)

pub ruleset line_texture = (kind-room, kind-put, fields-there, known-texture, rules)

pub ruleset line_destroy = (kind-room, kind-put, fields-there, known-destroy, rules)

pub ruleset line_dirty = (kind-room, kind-put, fields-there, known-dirty, rules)

pub ruleset Line-copy = (kind-room, kind-put, fields-there, known-copy, rules)

pub ruleset line_target = (kind-room, kind-put, fields-there, known_target, rules)

pub ruleset line_viewport = (kind-room, kind-put, fields-there, known-viewport, rules)

pub ruleset line_scissor = (kind-room, kind-put, fields-there, known-scissor, rules)

pub ruleset Line-clear = (kind-room, kind-put, fields-there, known-clear, rules)

pub ruleset line_export = (kind-room, kind-put, fields-there, known-export, rules)

pub ruleset line_import = (kind-room, kind-put, fields-there, known-import, rules)

pub ruleset line_release = (kind-room, kind-put, fields-there, known-release, rules)

pub ruleset line_unknown = (unknown-room, unknown-put, none-known, rules)
