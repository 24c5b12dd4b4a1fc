-- The theorems of specs/Saving.antt, and what they rest on. Assumes nothing.
use Rattle.std.specs.Prelude.{◌≡◌, Bool, true, false, List, get_or, take}
use Rattle.std.proofs.Common.{sym, ap, subst, ◌∙◌}
use Prim.Native.Nat.{ℕ, zero, suc, ◌+◌, ◌*◌, ◌/◌, ◌<◌}
use native.Mathlib.Omega.{arith}
use Rattle.machine.specs.Machine.{pick}
use Rattle.rules.specs.Numbers.{done}
use Rattle.rules.specs.State.{State}
use Rattle.rules.specs.Saved.{Saved, call_save}
use Rattle.rules.specs.Loaded.{Loaded, call_load}
use Rattle.rules.specs.declared.Form.{Form}
use Rattle.rows.specs.Rows.{tab, table, row_at, row_field}
use Rattle.kept_resources.specs.Views.{resource_of_row}
use Rattle.kept_tokens.specs.Views.{token_of_row}
use Rattle.run_state.specs.Views.{world_in, count_in, token_count_in, side_in, token_side_in}
use Rattle.saved_save.specs.Views.{saved_of, Saves}
use Rattle.std.specs.Prelude.{Result}
use Rattle.std.specs.Result.{result_unwrap_or}
use Rattle.call_errors.specs.Answers.{answer_of}
use Rattle.call_errors.specs.declared.CallError.{CallError}
use Rattle.device.specs.Views.{state_of}
use Rattle.device.specs.declared.Device.{Device}
use Rattle.zelezmut.specs.Said.{SaysSaved}
use Rattle.promises_of_packets.specs.Held.{Every}
use Rattle.promises_of_saving.specs.SameDevice.{SameDevice}
use Rattle.promises_of_saving.specs.Savable.{FitsResource, FitsToken, Fits}
use Rattle.promises_of_saving.specs.Refusals.{load-of-good}
use Rattle.promises_of_saving.specs.LoadOfSave.{LoadedBack}
use Rattle.promises.proofs.Main.{a-saved-desk-is-read-back-elsewhere}
use Rattle.promises_of_calls.specs.Layers.{Layer}
use Rattle.promises_of_calls.specs.ByValue.{by_value}
use Rattle.promises_of_calls.specs.OverLent.{over_lent}
use Rattle.promises_of_calls.specs.Exports.{exports}
use Rattle.promises_of_calls.specs.Calls.{MadeAndCalled}
use Rattle.promises_of_calls.proofs.Calls.{made_and_called}
use Rattle.promises_of_calls.specs.Saving.{OfWords, fits-resource, fits-token}

-- ---- numbers that stand in words fit

-- rows of w words, each read by f: what holds of one whose word k is a word holds of all
module _ {A : Type 0} (P : A → Type 0) (f : List ℕ → A) (w k : ℕ) (inside : k < w) (one : (r : List ℕ) → get_or r k 0 < 18446744073709551616 → P (f r))
    (l : List ℕ) (h : OfWords l) where
  every-from : (i n : ℕ) → Every P (tab (λ j. f (row_at w l j)) i n)
  unfolding tab Every
  every-from i zero = omega arith
  every-from i (suc n) =
      (one (row_at w l i) (subst (λ x. x < 18446744073709551616) (sym (row_field w l i k inside)) (h (w * i + k))), every-from (suc i) n)

  every-row : (n : ℕ) → Every P (table f w n l)
  unfolding table
  every-row n = every-from 0 n

of-side : (b : Bool) (x y : List ℕ) → OfWords x → OfWords y → OfWords (pick b y x)
of-side true x y h k = k
of-side false x y h k = h

-- whatever stands in the words and tables of a device
pub what-stands-in-words-fits : (d : Device) → OfWords d.words → OfWords d.first → OfWords d.second → OfWords d.firsttokens → OfWords d.secondtokens
    → Fits (state_of d)
unfolding world_in
what-stands-in-words-fits d w a b ft st =
    record {
      memory = w 0;
      regs = record {
        ring = w 1;
        ringsize = omega arith;
        fencepage = w 4;
        completed = w 5;
        irqenable = omega arith;
        error = record { code = omega arith; fence = w 10; count = omega arith; detail = omega arith };
      };
      resources = every-row FitsResource resource_of_row 12 2 (omega arith) fits-resource (pick (side_in d.words) d.second d.first)
          (of-side (side_in d.words) d.first d.second a b) (count_in (get_or d.words 25 0));
      tokens = every-row FitsToken token_of_row 2 1 (omega arith) fits-token (pick (token_side_in d.words) d.secondtokens d.firsttokens)
          (of-side (token_side_in d.words) d.firsttokens d.secondtokens ft st) (token_count_in (get_or d.words 32 0));
    }

-- ---- saved, and loaded elsewhere

module _ (L : Layer) (d e : L.Device) (f : Form) (buffer : List ℕ) (c : MadeAndCalled L d) (fits : Fits (L.state d)) where
  -- a file that holds what a save of d wrote, and a device that was loaded from it
  read_back : (file : List ℕ) → (call_save f (L.state d) buffer).answer ≡ done
      → file ≡ take (call_save f (L.state d) buffer).length (call_save f (L.state d) buffer).buffer → L.Loads file e → SameDevice (L.state e) (L.state d)
  read_back file saved is k =
      let l = L.loads-loaded file e k in
      let back : LoadedBack (L.state d) (call_load (L.state d) file) =
      subst (λ x. LoadedBack (L.state d) (call_load (L.state d) x)) (sym is) (a-saved-desk-is-read-back-elsewhere f (L.state d) (made_and_called L d c) fits buffer saved (L.state d)) in
      let same : (call_load (L.state d) file).state ≡ L.state e = ap (λ (y : Loaded). y.state) (load-of-good (L.state d) file l.0) ∙ sym l.1 in
      subst (λ (s : State). SameDevice s (L.state d)) same back.device

module _ (d e : Device) (w : OfWords d.words) (a : OfWords d.first) (b : OfWords d.second) (ft : OfWords d.firsttokens) (st : OfWords d.secondtokens)
    (f : Form) (buffer buffer' : List ℕ) where
  fitting : Fits (state_of d)
  fitting = what-stands-in-words-fits d w a b ft st

  -- `Device::save` and `Device::load`
  pub device-saved-and-loaded : MadeAndCalled by_value d → (x : Result ℕ CallError) → saved_of x buffer' ≡ call_save f (state_of d) buffer → answer_of x ≡ done
      → by_value.Loads (take (result_unwrap_or x 0) buffer') e → SameDevice (state_of e) (state_of d)
  device-saved-and-loaded c x k z =
      read_back by_value d e f buffer c fitting (take (result_unwrap_or x 0) buffer') (sym (ap (λ (y : Saved). y.answer) k) ∙ z) (ap (λ (y : Saved). take y.length y.buffer) k)

  -- the save and the load over lent state
  pub lent-saved-and-loaded : MadeAndCalled over_lent d → (x : Result ℕ CallError)
      → Saves f d.words d.first d.second d.firsttokens d.secondtokens buffer x buffer' → answer_of x ≡ done
      → over_lent.Loads (take (result_unwrap_or x 0) buffer') e → SameDevice (state_of e) (state_of d)
  lent-saved-and-loaded c x s z =
      let k : saved_of x buffer' ≡ call_save f (state_of d) buffer = s.saves d.entries d.records in
      read_back over_lent d e f buffer c fitting (take (result_unwrap_or x 0) buffer') (sym (ap (λ (y : Saved). y.answer) k) ∙ z) (ap (λ (y : Saved). take y.length y.buffer) k)

  -- `zelezmut_save` or `zelezmut_save_form_2`, and `zelezmut_load`: a save whose number is below 2^32 answered 0, and is the length
  pub export-saved-and-loaded : MadeAndCalled exports d → (n : ℕ)
      → SaysSaved f d.words d.first d.second d.firsttokens d.secondtokens buffer n buffer' → n / 4294967296 ≡ done
      → exports.Loads (take n buffer') e → SameDevice (state_of e) (state_of d)
  export-saved-and-loaded c n s z =
      let l = s.length d.entries d.records in
      let m = s.bytes d.entries d.records in
      let answer : (call_save f (state_of d) buffer).answer ≡ done = omega (arith, l, z) in
      let long : n ≡ (call_save f (state_of d) buffer).length = omega (arith, l, answer) in
      read_back exports d e f buffer c fitting (take n buffer') answer (rw (← m, ← long))
