-- The exports, as a layer: a host's words and tables are those of a `Device`, and what a call says stands in the number that it returns, and
-- for a record in five words. Assumes nothing.
use Rattle.std.specs.Prelude.{◌≡◌, refl, Bool, List, [], ℕ, ◌+◌, ◌*◌, ◌/◌, ◌%◌, ◌≤◌, get_or}
use Rattle.std.proofs.Common.{sym, ap, ◌∙◌, arith}
use Rattle.rules.specs.Numbers.{done}
use Rattle.rules.specs.Lists.Found.{none}
use Rattle.rules.specs.Loaded.{Loaded, bad_place, loaded, call_load}
use Rattle.rules.specs.State.{World}
use Rattle.rules.specs.Calls.{ended_number, Wrote, Ran, call_run, call_record, call_answer}
use Rattle.rules.specs.declared.Record.{Record}
use Rattle.rules.specs.declared.Ended.{Ended}
use Rattle.rules.specs.declared.Ended.TheVariants.{Idle, Waiting, Paused}
use Rattle.run_state.specs.Views.{set_in, world_in}
use Rattle.register_writes.specs.Views.{Writes}
use Rattle.device_calls.specs.Views.{Makes}
use Rattle.device.specs.Views.{state_of}
use Rattle.device.specs.Calling.{is_made}
use Rattle.device.specs.declared.Device.{Device}
use Rattle.export_numbers.specs.Numbers.{said_value, record_words}
use Rattle.zelezmut.specs.Said.{SaysValue, SaysRun, SaysAnswer, SaysRecord, SaysLoaded}
use Rattle.promises_of_saving.specs.Refusals.{load-of-good, kept-is-good, loaded-exactly}
use Rattle.promises_of_units.specs.Called.{Call, after}
use Rattle.promises_of_units.specs.Called.Call.{writes, reads, runs, records, answers}
use Rattle.promises_of_units.specs.Runs.{of-run, of-answer}
use Rattle.promises_of_units.specs.Replies.{Reply, reply_to}
use Rattle.promises_of_submissions.specs.Locality.{lent}
use Rattle.promises_of_calls.specs.Layers.{Layer}
use Rattle.promises_of_calls.specs.OverLent.{with_words, lent_of, with_loaded}

-- the number that an export returns, and the words that it says a record in
pub record Said : Type 0 where
  pub number : ℕ
  pub words : List ℕ

-- a number alone
abbrev pub returning : ℕ → Said
returning n = record { number = n; words = [] }

-- a host's words and tables with memory m beside them, an export that was lent them, what it said, and what stands after it
pub data Gives (d : Device) (m : List ℕ) : Call → Said → Device → List ℕ → Type 0 where
  zelezmut-write : (offset v answer : ℕ) (s' : List ℕ) → Writes d.words offset v answer s' → Gives d m (writes offset v) (returning answer) (with_words s' d) m
  zelezmut-read : (offset n : ℕ) → SaysValue d.words offset n → Gives d m (reads offset) (returning n) d m
  zelezmut-run : (allowance n : ℕ) (d' : Device) (m' : List ℕ) → SaysRun allowance (lent_of d m) n (lent_of d' m') → Gives d m (runs allowance) (returning n) d' m'
  zelezmut-record : (i n : ℕ) (said : List ℕ) → SaysRecord d.words d.records i n said → Gives d m (records i) (record { number = n; words = said }) d m
  zelezmut-answer : (good allowance n : ℕ) (d' : Device) (m' : List ℕ) → SaysAnswer (set_in good) allowance (lent_of d m) n (lent_of d' m')
      → Gives d m (answers (set_in good) allowance) (returning n) d' m'

-- answer, how it ended and units in one number
abbrev in_one_number : Reply → ℕ
in_one_number r = r.answer + (256 * ended_number r.ended + 65536 * r.units)

-- how a reply is said
abbrev pub said : Call → Reply → Said
said (writes offset v) r = returning r.answer
said (reads offset) r = returning (said_value (record { answer = r.answer; value = r.value }))
said (runs n) r = returning (in_one_number r)
said (records i) r = record { number = r.answer; words = record_words r.range }
said (answers good n) r = returning (in_one_number r)

-- the units that stand in a run's number, and in an answer's
abbrev pub units_said : Call → Said → ℕ
units_said (writes offset v) x = 0
units_said (reads offset) x = 0
units_said (runs n) x = x.number / 65536
units_said (records i) x = 0
units_said (answers good n) x = x.number / 65536

-- the record that stands in five words
abbrev pub range_in : List ℕ → Record
range_in l = record { kind = get_or l 0 0; handle = get_or l 1 0; id = get_or l 2 0; gpa = get_or l 3 0; length = get_or l 4 0 }

ended-small : (e : Ended) → ended_number e ≤ 2
ended-small Idle = omega arith
ended-small Waiting = omega arith
ended-small Paused = omega arith

answer-small : (w : World) (n : ℕ) → (call_run w n).answer ≤ 1
answer-small w n = of-run (λ (r : Ran). r.answer ≤ 1) w n (λ e. omega arith) (λ e. omega arith)

answer-call-small : (w : World) (good : Bool) (n : ℕ) → (call_answer w good n).answer ≤ 3
answer-call-small w good n = of-answer (λ (r : Ran). r.answer ≤ 3) w good n (λ e. omega arith) (λ e f. omega arith) (λ e f. omega arith)

-- above the answer and how it ended, the units stand alone
pub units-read : (c : Call) (w : World) → units_said c (said c (reply_to c w)) ≡ (reply_to c w).units
unfolding reply_to
units-read (writes offset v) w = refl
units-read (reads offset) w = refl
units-read (runs n) w = omega (arith, ended-small (call_run w n).ended, answer-small w n)
units-read (records i) w = refl
units-read (answers good n) w = omega (arith, ended-small (call_answer w good n).ended, answer-call-small w good n)

-- and below both, the answer
pub answered-read : (good : Bool) (n : ℕ) (w : World) → (said (answers good n) (reply_to (answers good n) w)).number % 256 ≡ (call_answer w good n).answer
unfolding reply_to
answered-read good n w = omega (arith, ended-small (call_answer w good n).ended, answer-call-small w good n)

-- what it says is the rules' reply
pub gives-reply : (d : Device) (m : List ℕ) (c : Call) (x : Said) (d' : Device) (m' : List ℕ) → Gives d m c x d' m' → x ≡ said c (reply_to c (lent (state_of d) m))
unfolding reply_to world_in
gives-reply d m c x d' m' (zelezmut-write offset v answer s' k) =
    ap (λ (r : Wrote). returning r.answer) (k.wrote d.entries d.first d.second d.firsttokens d.secondtokens d.records)
gives-reply d m c x d' m' (zelezmut-read offset n k) = ap returning (k.value d.entries d.first d.second d.firsttokens d.secondtokens d.records)
gives-reply d m c x d' m' (zelezmut-run allowance n e n' k) = ap returning k.spent
gives-reply d m c x d' m' (zelezmut-record i n words k) =
    ap (λ (a : ℕ). record { number = a; words = words }) (k.answer d.entries d.first d.second d.firsttokens d.secondtokens)
    ∙ ap (λ (l : List ℕ). record { number = (call_record (state_of d) i).answer; words = l }) (k.range d.entries d.first d.second d.firsttokens d.secondtokens)
gives-reply d m c x d' m' (zelezmut-answer good allowance n e n' k) = ap returning k.spent

-- and it leaves what the rules' call leaves
pub gives-world : (d : Device) (m : List ℕ) (c : Call) (x : Said) (d' : Device) (m' : List ℕ) → Gives d m c x d' m' → lent (state_of d') m' ≡ after c (lent (state_of d) m)
unfolding after world_in
gives-world d m c x d' m' (zelezmut-write offset v answer s' k) =
    ap (λ (r : Wrote). lent r.state m) (k.wrote d.entries d.first d.second d.firsttokens d.secondtokens d.records)
gives-world d m c x d' m' (zelezmut-read offset n k) = refl
gives-world d m c x d' m' (zelezmut-run allowance n e n' k) = k.world
gives-world d m c x d' m' (zelezmut-record i n words k) = refl
gives-world d m c x d' m' (zelezmut-answer good allowance n e n' k) = k.world

-- `zelezmut_load` of this file was lent words and tables, whatever stood there, left these, and the number that it returned has 0 for its answer
pub record LoadsSaid (b : List ℕ) (d : Device) : Type 0 where
  pub before : Device
  pub said : ℕ
  pub loads : SaysLoaded before.words before.first before.firsttokens b said d.words d.first d.firsttokens
  pub answered : said / 4294967296 ≡ done
  pub leaves : with_loaded d.words d.first d.firsttokens before ≡ d

-- the file is good, and the device is what it says
pub loads-loaded : (b : List ℕ) (d : Device) → LoadsSaid b d → (bad_place b ≡ none) × (state_of d ≡ loaded b)
loads-loaded b d k =
    let old : Device = k.before in
    let place = k.loads.place old.entries old.second old.secondtokens old.records in
    let zero : (call_load (state_of old) b).answer ≡ done = omega (arith, place, k.answered) in
    let good : bad_place b ≡ none = kept-is-good b ((loaded-exactly (state_of old) b).0 zero) in (
      good,
      sym (ap state_of k.leaves)
          ∙ (k.loads.state old.entries old.second old.secondtokens old.records ∙ ap (λ (l : Loaded). l.state) (load-of-good (state_of old) b good)),
    )

-- the layer
abbrev pub exports : Layer
exports =
    record {
      Device = Device;
      state = state_of;
      Said = Said;
      said = said;
      units = units_said;
      answered = λ x. x.number % 256;
      record_read = λ x. record { answer = x.number; range = range_in x.words };
      Makes = λ memory d. Makes memory d.words;
      Loads = LoadsSaid;
      Gives = Gives;
      units-read = units-read;
      answered-as = answered-read;
      record-read-as = λ i r. refl;
      makes-made = λ memory d k. is_made memory d.words d.entries d.first d.second d.firsttokens d.secondtokens d.records k;
      loads-loaded = loads-loaded;
      gives-reply = gives-reply;
      gives-world = gives-world;
    }
