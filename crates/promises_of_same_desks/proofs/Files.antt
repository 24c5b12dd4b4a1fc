-- The theorems of specs/Files.antt, and what they rest on. Assumes nothing.
use Rattle.std.specs.Prelude.{◌≡◌, true, false, not, ltb}
use Rattle.std.proofs.Math.Path.{refl, ap}
use Rattle.std.proofs.Common.{sym, ◌∙◌, arith}
use Rattle.std.proofs.Math.Bool.{Bool}
use mathlib.Core.List.{List}
use Prim.Native.Nat.{ℕ}
use Rattle.std.proofs.Math.ListN.{length}
use Rattle.machine.specs.Machine.{pick}
use Rattle.rules.specs.Numbers.{done, in_work, not_in_form, too_short}
use Rattle.rules.specs.Lists.{Found, over}
use Rattle.rules.specs.Lists.Found.{none, found}
use Rattle.rules.specs.Names.{token_of}
use Rattle.rules.specs.State.{Work, State}
use Rattle.rules.specs.State.Work.{resting}
use Rattle.rules.specs.Calls.{at_rest}
use Rattle.rules.specs.Saved.{other_name_among, beyond_form_1, beyond, saved, Saved, not_saved, call_save}
use Rattle.rules.specs.Loaded.{bad_place, loaded, loaded_or, call_load}
use Rattle.rules.specs.declared.Registers.{Registers}
use Rattle.rules.specs.declared.Form.{Form}
use Rattle.rules.specs.declared.Form.TheVariants.{One, Two}
use Rattle.promises_of_saving.specs.SameDevice.{SameDevice}
use Rattle.promises_of_saving.specs.OneFile.{same-devices-one-file}
use Rattle.promises_of_saving.specs.Refusals.{save-in-work}
use Rattle.promises_of_units.specs.Sound.{SoundState}
use Rattle.promises_of_units.proofs.LoadedSound.{loaded-sound}
use Rattle.promises_of_same_desks.specs.Maps.{same_length}
use Rattle.promises_of_same_desks.specs.Desks.{SameWork, SameDesk}
use Rattle.promises_of_same_desks.proofs.Desks.{same_rest, desk-itself}
use Rattle.promises_of_same_desks.specs.Desks.SameWork.{both_rest, both_at_entries, both_at_packets, both_wait}
use Rattle.promises_of_same_desks.specs.Files.{SameLoaded, other-name-same}

-- ---- saving

-- at rest they are the same device
same-at-rest : (s t : State) → SameDesk s t → s.work ≡ resting → t.work ≡ resting → SameDevice s t
same-at-rest s t d e f = record { memory = d.memory; regs = d.regs; resources = d.belongings.resources; tokens = d.belongings.tokens; work = e ∙ sym f }

module _ (s t : State) (a : SoundState s) (b : SoundState t) (d : SameDesk s t) where
  beyond-same : (f : Form) → beyond f s ≡ beyond f t
  unfolding beyond_form_1
  beyond-same One =
      let n : length s.belongings.tokens ≡ length t.belongings.tokens =
      same_length token_of s.belongings.tokens t.belongings.tokens a.belongings.tokens.once b.belongings.tokens.once d.belongings.tokens in
      let o : other_name_among s.belongings.resources ≡ other_name_among t.belongings.resources =
      other-name-same s.belongings.resources t.belongings.resources a.belongings.resources.once b.belongings.resources.once d.belongings.resources in
      let r : s.regs.error.detail ≡ t.regs.error.detail = ap (λ (r : Registers). r.error.detail) d.regs in
      rw (n, o, r)
  beyond-same Two = refl

  rests-both : {k l : Work} → SameWork k l → at_rest l ≡ true → (k ≡ resting) × (l ≡ resting)
  rests-both both_rest e = (refl, refl)
  rests-both (both_at_entries o kept) e = absurd (let z : ◌≡◌ {A = ℕ} 0 1 = cc in omega arith)
  rests-both (both_at_packets j s at es h) e = absurd (let z : ◌≡◌ {A = ℕ} 0 1 = cc in omega arith)
  rests-both (both_wait j es h) e = absurd (let z : ◌≡◌ {A = ℕ} 0 1 = cc in omega arith)

  pub save-same : (f : Form) (buffer : List ℕ) → call_save f s buffer ≡ call_save f t buffer
  unfolding call_save
  save-same f buffer = by-rest (at_rest t.work) refl
    where
      reply : Bool → Bool → List ℕ → Saved
      reply rest other file =
          pick (not rest) (not_saved in_work buffer)
          (pick other (not_saved not_in_form buffer)
          (pick (ltb (length buffer) (length file)) (not_saved too_short buffer) (record { answer = done; length = length file; buffer = over 0 file buffer })))

      by-rest : (r : Bool) → at_rest t.work ≡ r → call_save f s buffer ≡ call_save f t buffer
      by-rest true e =
          let k = rests-both d.work e in
          ap (λ x. reply x (beyond f s) (saved f s)) (same_rest d.work)
          ∙ (ap (λ x. reply (at_rest t.work) x (saved f s)) (beyond-same f)
          ∙ ap (reply (at_rest t.work) (beyond f t)) (same-devices-one-file f s t (same-at-rest s t d k.0 k.1)))
      by-rest false e = save-in-work f s buffer (same_rest d.work ∙ e) ∙ sym (save-in-work f t buffer e)

-- ---- loading

pub load_same : (s t : State) → SameDesk s t → (b : List ℕ) → SameLoaded (call_load s b) (call_load t b)
unfolding call_load
load_same s t d b = by_place (bad_place b)
  where
    by_place : (f : Found ℕ) → SameLoaded (loaded_or f b s) (loaded_or f b t)
    by_place none = record { answer = refl; place = refl; state = desk-itself (loaded b) }
    by_place (found p) = record { answer = refl; place = refl; state = d }

pub load-keeps-sound : (s : State) → SoundState s → (b : List ℕ) → SoundState (call_load s b).state
unfolding call_load
load-keeps-sound s k b = by_place (bad_place b) refl
  where
    by_place : (f : Found ℕ) → bad_place b ≡ f → SoundState (loaded_or f b s).state
    by_place none e = loaded-sound b e
    by_place (found p) e = k

-- and one that is done leaves a sound device, whatever it was
pub load-is-sound : (s : State) (b : List ℕ) → (call_load s b).answer ≡ done → SoundState (call_load s b).state
unfolding call_load
load-is-sound s b = by_place (bad_place b) refl
  where
    by_place : (f : Found ℕ) → bad_place b ≡ f → (loaded_or f b s).answer ≡ done → SoundState (loaded_or f b s).state
    by_place none e h = loaded-sound b e
    by_place (found p) e h = absurd (omega arith)
