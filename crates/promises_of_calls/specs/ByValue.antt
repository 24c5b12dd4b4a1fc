-- The calls of the device by value, as a layer: each is a method of `Device` that was called, with what its contract says of what it handed
-- back. Assumes nothing.
use Rattle.std.specs.Prelude.{◌≡◌, refl, Bool, List, ℕ, Result}
use Rattle.std.proofs.Common.{sym, ap, ◌∙◌}
use Rattle.rules.specs.State.{World, made}
use Rattle.rules.specs.Calls.{Wrote as WroteBy, Value, Ran as RanBy, RecordRead as RecordReadBy, call_write, call_read, call_run, call_record, call_answer}
use Rattle.rules.specs.Numbers.{done}
use Rattle.rules.specs.Lists.Found.{none}
use Rattle.rules.specs.Loaded.{Loaded as LoadedBy, bad_place, loaded, call_load}
use Rattle.run_state.specs.Views.{world_in}
use Rattle.device_calls.specs.Views.{value_of, record_read_of}
use Rattle.rules.specs.declared.Record.{Record}
use Rattle.call_errors.specs.declared.CallError.{CallError}
use Rattle.saved_load.specs.Views.{load_answer}
use Rattle.device.specs.Views.{state_of, world_of, wrote_of, ran_of, loaded_of}
use Rattle.device.specs.declared.Device.{Device}
use Rattle.device.specs.declared.Wrote.{Wrote}
use Rattle.device.specs.declared.Ran.{Ran}
use Rattle.device.specs.declared.Loaded.{Loaded}
use Rattle.promises_of_saving.specs.Refusals.{load-of-good, kept-is-good, loaded-exactly}
use Rattle.promises_of_units.specs.Called.{Call, after}
use Rattle.promises_of_units.specs.Called.Call.{writes, reads, runs, records, answers}
use Rattle.promises_of_units.specs.Replies.{Reply, answering, showing, spending, handing, reply_to}
use Rattle.promises_of_submissions.specs.Locality.{lent}
use Rattle.promises_of_calls.specs.Layers.{Layer}

-- a device with memory m beside it, a call of it, its reply, and the device and memory after it
pub data Gives (d : Device) (m : List ℕ) : Call → Reply → Device → List ℕ → Type 0 where
  write-gives : (offset v : ℕ) (r : Wrote) → wrote_of r ≡ call_write (state_of d) offset v → Gives d m (writes offset v) (answering (wrote_of r).answer) r.device m
  read-gives : (offset : ℕ) (x : Result ℕ CallError) → value_of x ≡ call_read (state_of d) offset → Gives d m (reads offset) (showing (value_of x).answer (value_of x).value) d m
  run-gives : (n : ℕ) (r : Ran) (m' : List ℕ) → ran_of r m' ≡ call_run (world_of d m) n → Gives d m (runs n) (spending (ran_of r m').answer (ran_of r m').units (ran_of r m').ended) r.device m'
  record-gives : (i : ℕ) (x : Result Record CallError) → record_read_of x ≡ call_record (state_of d) i → Gives d m (records i) (handing (record_read_of x).answer (record_read_of x).range) d m
  answer-gives : (good : Bool) (n : ℕ) (r : Ran) (m' : List ℕ) → ran_of r m' ≡ call_answer (world_of d m) good n
      → Gives d m (answers good n) (spending (ran_of r m').answer (ran_of r m').units (ran_of r m').ended) r.device m'

-- `Device::new` handed it back
abbrev pub Makes : ℕ → Device → Type 0
Makes memory d = state_of d ≡ made memory

-- `Device::load` of this file handed it back, of whatever device, and answered 0
pub record Loads (b : List ℕ) (d : Device) : Type 0 where
  pub before : Device
  pub reply : Loaded
  pub loads : loaded_of reply ≡ call_load (state_of before) b
  pub answered : load_answer reply.answer ≡ done
  pub leaves : reply.device ≡ d

-- the file is good, and the device is what it says
pub loads-loaded : (b : List ℕ) (d : Device) → Loads b d → (bad_place b ≡ none) × (state_of d ≡ loaded b)
loads-loaded b d k =
    let good : bad_place b ≡ none = kept-is-good b ((loaded-exactly (state_of k.before) b).0 (sym (ap (λ (l : LoadedBy). l.answer) k.loads) ∙ k.answered)) in
    (good, sym (ap state_of k.leaves) ∙ (ap (λ (l : LoadedBy). l.state) k.loads ∙ ap (λ (l : LoadedBy). l.state) (load-of-good (state_of k.before) b good)))

-- its reply is the rules' reply
pub gives-reply : (d : Device) (m : List ℕ) (c : Call) (r : Reply) (d' : Device) (m' : List ℕ) → Gives d m c r d' m' → r ≡ reply_to c (lent (state_of d) m)
unfolding reply_to world_in
gives-reply d m c r d' m' (write-gives offset v x k) = ap (λ (y : WroteBy). answering y.answer) k
gives-reply d m c r d' m' (read-gives offset x k) = ap (λ (y : Value). showing y.answer y.value) k
gives-reply d m c r d' m' (run-gives n x n' k) = ap (λ (y : RanBy). spending y.answer y.units y.ended) k
gives-reply d m c r d' m' (record-gives i x k) = ap (λ (y : RecordReadBy). handing y.answer y.range) k
gives-reply d m c r d' m' (answer-gives good n x n' k) = ap (λ (y : RanBy). spending y.answer y.units y.ended) k

-- and leaves what the rules' call leaves
pub gives-world : (d : Device) (m : List ℕ) (c : Call) (r : Reply) (d' : Device) (m' : List ℕ) → Gives d m c r d' m' → lent (state_of d') m' ≡ after c (lent (state_of d) m)
unfolding after world_in
gives-world d m c r d' m' (write-gives offset v x k) = ap (λ (y : WroteBy). lent y.state m) k
gives-world d m c r d' m' (read-gives offset x k) = refl
gives-world d m c r d' m' (run-gives n x n' k) = ap (λ (y : RanBy). y.world) k
gives-world d m c r d' m' (record-gives i x k) = refl
gives-world d m c r d' m' (answer-gives good n x n' k) = ap (λ (y : RanBy). y.world) k

pub reply-answers : (good : Bool) (n : ℕ) (w : World) → (reply_to (answers good n) w).answer ≡ (call_answer w good n).answer
unfolding reply_to
reply-answers good n w = refl

-- a layer whose devices are such structs and whose calls are calls of the device by value: what was made, what was called, and why both are so
abbrev pub layer_of : (Made : ℕ → Device → Type 0) (Load : List ℕ → Device → Type 0) (Called : Device → List ℕ → Call → Reply → Device → List ℕ → Type 0)
    → ((memory : ℕ) (d : Device) → Made memory d → Makes memory d) → ((b : List ℕ) (d : Device) → Load b d → Loads b d)
    → ((d : Device) (m : List ℕ) (c : Call) (r : Reply) (d' : Device) (m' : List ℕ) → Called d m c r d' m' → Gives d m c r d' m') → Layer
layer_of Made Load Called is_made is-loaded is-called =
    record {
      Device = Device;
      state = state_of;
      Said = Reply;
      said = λ c r. r;
      units = λ c r. r.units;
      answered = λ r. r.answer;
      record_read = λ r. record { answer = r.answer; range = r.range };
      Makes = Made;
      Loads = Load;
      Gives = Called;
      units-read = λ c w. refl;
      answered-as = λ good n w. reply-answers good n w;
      record-read-as = λ i r. refl;
      makes-made = is_made;
      loads-loaded = λ b d k. loads-loaded b d (is-loaded b d k);
      gives-reply = λ d m c r d' m' k. gives-reply d m c r d' m' (is-called d m c r d' m' k);
      gives-world = λ d m c r d' m' k. gives-world d m c r d' m' (is-called d m c r d' m' k);
    }

-- the layer
abbrev pub by_value : Layer
by_value = layer_of Makes Loads Gives (λ memory d k. k) (λ b d k. k) (λ d m c r d' m' k. k)
