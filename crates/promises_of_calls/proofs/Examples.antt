-- The theorems of specs/Examples.antt, and what they rest on. Assumes nothing.
use Rattle.std.specs.Prelude.{◌≡◌, true, List, [], ◌∷◌, ℕ, ◌+◌, ◌*◌}
use Rattle.std.proofs.Math.Path.{refl}
use Rattle.std.proofs.Common.{sym, arith}
use Rattle.rules.specs.Bytes.{bytes_of}
use Rattle.rules.specs.State.{State}
use Rattle.rules.specs.Steps.{go, answered}
use Rattle.rules.specs.Unsliced.{submitted}
use Rattle.rows.specs.Rows.{tab, row_at, table}
use Rattle.run_state.specs.Views.{count_in, token_count_in, world_in}
use Rattle.device.specs.Views.{state_of, world_of}
use Rattle.promises.specs.NightLog.{zeros}
use Rattle.promises_of_packets.specs.Held.{Every}
use Rattle.promises.specs.Chains.{Served}
use Rattle.promises_of_submissions.specs.Night.{Night}
use Rattle.promises_of_units.specs.Ranges.{InOneEntry}
use Rattle.promises_of_submissions.specs.Locality.{lent, SameWhereRead, SameEnd, SameWhenRead}
use Rattle.promises_of_submissions.specs.Locality.SameWhenRead.{unit}
use Rattle.promises.specs.Witness.{in_bytes, ring_words, slot_words, table_words, entry_words, stream_words, guest, asking, awaiting, opening_alone}
use Rattle.promises.proofs.Witness.{read_alone}
use Rattle.promises_of_calls.specs.Layers.{standing}
use Rattle.promises_of_calls.specs.Exports.{exports}
use Rattle.promises_of_calls.specs.Chains.{units_said, answers_taken, acts_said}
use Rattle.promises_of_calls.proofs.Chains.{chain_is_unsliced, chain-serves}
use Rattle.promises_of_calls.proofs.Calls.{handed-out-in-one-entry}
use Rattle.promises_of_calls.proofs.CallContracts.{export-run-reads-only-there}
use Rattle.promises_of_calls.specs.Examples.{answered_device, asking_device, asks, asks-record, has-answered, new_device, one-state-of-two, opened_device, opens, opens-alone, refused_device, scrawled_device, some_chain, some_refusal, some_serving, waiting-was-called, waiting_device}

-- ---- chains of them

-- so it is a night of one whole submission and one answer
pub some_night : Night (asking 1) (true ∷ []) 3 (answered true awaiting)
unfolding Every some_serving units_said answers_taken world_in
some_night =
    rw (← asks 1, ← has-answered)
    (chain_is_unsliced some_serving (refl, (refl, (refl, omega arith))) refl refl)

pub its-record-in-one-entry : InOneEntry (state_of waiting_device) 0 (record { kind = 1; handle = 1; id = 5; gpa = 80; length = 32 })
its-record-in-one-entry =
    handed-out-in-one-entry 0
    (record { of = waiting_device; over = guest 1; said = record { number = 0; words = 1 ∷ 1 ∷ 5 ∷ 80 ∷ 32 ∷ [] }; leaves = waiting_device; memory = guest 1; gives = asks-record })
    waiting-was-called refl (λ z. omega arith)

pub some_chain_serves : Served (standing exports (new_device 1) (guest 1)) (acts_said some_chain) (standing exports answered_device (answered true awaiting).mem)
unfolding Every new_device answered_device world_in
some_chain_serves = (chain-serves some_chain (refl, (refl, (refl, (refl, (refl, (refl, omega arith)))))) refl refl).0

pub refused_night : Night (standing exports (asking_device 2) (guest 2)) [] 3 (standing exports refused_device (submitted (asking 2)).state.mem)
unfolding Every some_refusal units_said answers_taken asking_device refused_device world_in
refused_night = chain_is_unsliced some_refusal (refl, omega arith) refl refl

-- ---- one unit of each, over two memories that differ: the second holds no byte but those that the opening reads

the-first : {s : State} {m m' : List ℕ} {ms ms' : List (List ℕ)} → SameWhenRead s (m ∷ ms) (m' ∷ ms') → go (lent s m) ≡ true → SameWhereRead s m m'
the-first (unit m m' len same later) = same

pub opening-reads-only-there : SameEnd (guest 1) opening_alone (world_of opened_device (guest 1)) (world_of opened_device opening_alone)
unfolding guest opening_alone in_bytes ring_words slot_words table_words entry_words stream_words zeros bytes_of asking_device asking world_in count_in token_count_in tab row_at table
opening-reads-only-there =
    (export-run-reads-only-there (asking_device 1) scrawled_device opened_device opened_device (guest 1) opening_alone (guest 1) opening_alone
    (sym one-state-of-two) refl (the-first read_alone) (0 + (256 * 2 + 65536 * 1)) (0 + (256 * 2 + 65536 * 1)) opens opens-alone).1
