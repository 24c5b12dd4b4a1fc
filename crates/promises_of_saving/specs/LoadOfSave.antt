-- "I need the device at rest written into a lent buffer and read back elsewhere": what saving wrote in either form, any device loads, and it is
-- then the same device, as maps of names and of tokens. Assumes nothing.
use Rattle.std.specs.Prelude.{◌≡◌, refl, Bool, true, false, not, ◌||◌, List, [], ◌∷◌, ◌++◌, ℕ, eqb, length}
use Rattle.std.proofs.Math.Path.{sym}
use Rattle.std.proofs.Common.{arith, eqb-true}
use Rattle.std.proofs.lemmas.Bool.{not-false}
use Rattle.rules.specs.Numbers.{done}
use Rattle.rules.specs.Packets.{Belongings}
use Rattle.rules.specs.State.{Work, State, registers_of}
use Rattle.rules.specs.State.Work.{resting, entries, packets, waiting}
use Rattle.rules.specs.Calls.{at_rest}
use Rattle.rules.specs.declared.LastError.{LastError}
use Rattle.rules.specs.declared.Resource.{Resource}
use Rattle.rules.specs.Saved.{is_other_name, other_name_among, beyond_form_1, firsts_of, others_of, tokens_of, tokens_fields, call_save}
use Rattle.rules.specs.Loaded.{Loaded, names_place, section_3, section_4, call_load}
use Rattle.rules.specs.declared.Form.{Form}
use Rattle.rules.specs.declared.Form.TheVariants.{One, Two}
use Rattle.promises_of_packets.specs.Held.{Every, every-none}
use Rattle.promises_of_packets.specs.Names.{true-not-false}
use Rattle.promises_of_saving.specs.SameDevice.{SameDevice}
use Rattle.promises_of_saving.specs.GoodShared.{GoodShared}
use Rattle.promises_of_saving.specs.LoadedResources.{OneName}
use Rattle.promises_of_saving.specs.Savable.{Savable}
use Rattle.promises_of_saving.specs.SavedFile.{saved_sections}

-- ---- what form 1 has a field for

neither : (a b : Bool) → a || b ≡ false → (a ≡ false) × (b ≡ false)
neither true b e = absurd (true-not-false e)
neither false b e = (refl, e)

pub one_name : (rs : List Resource) → other_name_among rs ≡ false → Every OneName rs
unfolding other_name_among Every
one_name [] e = every-none OneName
one_name (r ∷ rs) e =
    let n = neither (is_other_name r) (other_name_among rs) e in
    (sym (eqb-true r.handle r.lowest (not-false (eqb r.handle r.lowest) n.0)), one_name rs n.1)

nothing-in : {A : Type 0} (xs : List A) → length xs ≡ 0 → xs ≡ []
nothing-in [] e = refl
nothing-in (x ∷ xs) e = absurd (omega arith)

pub record InForm1 (s : State) : Type 0 where
  pub tokens : s.belongings.tokens ≡ []
  pub one_name : Every OneName s.belongings.resources
  pub detail : s.regs.error.detail ≡ 0

pub in-form-1 : (s : State) → beyond_form_1 s ≡ false → InForm1 s
unfolding beyond_form_1
in-form-1 s e =
    let n = neither (not (eqb (length s.belongings.tokens) 0)) _ e in
    let m = neither (other_name_among s.belongings.resources) _ n.1 in
    record {
      tokens = nothing-in s.belongings.tokens (eqb-true (length s.belongings.tokens) 0 (not-false _ n.0));
      one_name = one_name s.belongings.resources m.0;
      detail = eqb-true s.regs.error.detail 0 (not-false _ m.1);
    }

pub rests : (k : Work) → at_rest k ≡ true → k ≡ resting
rests resting e = refl
rests (entries o kept) e = absurd (true-not-false (sym e))
rests (packets j s at es h) e = absurd (true-not-false (sym e))
rests (waiting j es h) e = absurd (true-not-false (sym e))

-- ---- registers of equal numbers

pub same-error : {c c' f f' n n' d d' : ℕ} → c ≡ c' → f ≡ f' → n ≡ n' → d ≡ d'
    → ◌≡◌ {A = LastError} (record { code = c; fence = f; count = n; detail = d }) (record { code = c'; fence = f'; count = n'; detail = d' })
same-error p q r s = rw (p, q, r, s)

pub same-registers : {ring ring' size size' page page' completed completed' irq irq' : ℕ} {on on' fenced fenced' failed failed' rung rung' : Bool} {e e' : LastError}
    → ring ≡ ring' → size ≡ size' → on ≡ on' → page ≡ page' → completed ≡ completed' → fenced ≡ fenced' → failed ≡ failed' → irq ≡ irq' → e ≡ e' → rung ≡ rung'
    → registers_of ring size on page completed fenced failed irq e rung ≡ registers_of ring' size' on' page' completed' fenced' failed' irq' e' rung'
same-registers a b c d e f g h i j = rw (a, b, c, d, e, f, g, h, i, j)

-- ---- the sections

module _ (f : Form) (s : State) (v : Savable s) where
  abbrev pub b : List ℕ
  b = saved_sections f s

  -- where what comes after them begins
  abbrev pub next : ℕ
  next = names_place f (length (firsts_of s))

-- other names and tokens, which form 2 has
pub record SharedBack (rs : List Resource) (b : List ℕ) (at : ℕ) (s : State) : Type 0 where
  pub good : GoodShared rs b at
  pub names : section_3 rs b at ≡ others_of s
  pub tokens : section_4 b at ≡ tokens_of s

module _ (s : State) (v : Savable s) where
  abbrev pub c : List ℕ
  c = saved_sections Two s

  abbrev pub at : ℕ
  at = next Two s v

  abbrev pub tokens_part : List ℕ
  tokens_part = length (tokens_of s) ∷ tokens_fields (tokens_of s)

-- what a file of the form says of the belongings
abbrev pub said : Form → State → Belongings
said One s = record { resources = firsts_of s; tokens = [] }
said Two s = record { resources = firsts_of s ++ others_of s; tokens = tokens_of s }

-- ---- the theorem

-- what loading answers, and that its device is this one
pub record LoadedBack (s : State) (l : Loaded) : Type 0 where
  pub answer : l.answer ≡ done
  pub place : l.place ≡ 0
  pub device : SameDevice l.state s
