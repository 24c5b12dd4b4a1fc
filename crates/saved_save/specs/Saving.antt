-- Saving in either form: what its code asks. Assumes nothing.
use Rattle.std.specs.Prelude.{◌≡◌, refl, Bool, true, false, ℕ, ◌+◌, ◌*◌, ◌≤◌, ◌<◌, length, get_or, Result, Ok, Err}
use Rattle.std.proofs.Common.{sym, ap, ◌∙◌, arith, rules, eq-eqb, ne_eqb, lt-ltb, le-ltb, length-append}
use mathlib.Core.List.{List, [], ◌∷◌, ◌++◌, append_assoc, append-nil}
use Rattle.machine.specs.Machine.{pick}
use Rattle.rules.specs.Numbers.{most, most_tokens}
use Rattle.rules.specs.Lists.{over}
use Rattle.rules.specs.Names.{token_of}
use Rattle.rules.specs.Packets.{handle_of}
use Rattle.rules.specs.Saved.{Saved, is_other_name, resource_fields, file_of, number_of, number_bytes, head_bytes, is_lowest_name, those, head_fields, saved_fields, saved, call_save}
use Rattle.rules.specs.declared.Resource.{Resource}
use Rattle.rules.specs.declared.Token.{Token}
use Rattle.kept_resources.specs.Views.{resource_of_row}
use Rattle.kept_tokens.specs.Views.{token_of_row}
use Rattle.run_state.specs.Views.{count_in, token_count_in, tag_in, world_in, side_in, token_side_in}
use Rattle.run_state.specs.Stages.{rests-in, works-in}
use Rattle.rules.specs.declared.Form.{Form}
use Rattle.rules.specs.declared.Form.TheVariants.{One, Two}
use Rattle.saved_order.specs.Orders.{Rows, resources_listed, tokens_listed, length-listed, Orders, orders-rows}
use Rattle.saved_order_names.specs.Form.{Beyond}
use Rattle.saved_order_names.specs.Names.{Keeps}
use Rattle.saved_write.specs.Fields.{file-append, fields-behind}
use Rattle.saved_write.specs.Items.{all_fields}
use Rattle.saved_write.specs.Resources.{resources-all}
use Rattle.saved_write_head.specs.Head.{head_in}
use Rattle.saved_write_shared.specs.Shared.{names-all, tokens-all}
use Rattle.saved_write_forms.specs.Sections.{front_fields, back_fields, front_length, back-length}
use Rattle.call_errors.specs.declared.CallError.{CallError}
use Rattle.call_errors.specs.declared.CallError.TheVariants.{InWork, TooShort, NotInForm}
use Rattle.saved_save.specs.Views.{saved_of, written, shared_in, fields_in, Writes, resources_in, tokens_in, SavesOf, SavesWith, Saves}

-- ---- the fields, as they are written

module _ (s : List ℕ) (rs firsts : List Resource) (kept : ℕ) (low : firsts ≡ those is_lowest_name rs) (many : length firsts ≡ kept) where
  fields-front : (f : Form) (ts : List Token) → fields_in f s rs ts ≡ front_fields f s kept firsts ++ shared_in f rs ts
  unfolding fields_in
  fields-front f ts =
      rw (← low, many, ← resources-all firsts)
      (sym (append_assoc (number_of f ∷ head_in f s kept) (all_fields resource_fields firsts) (shared_in f rs ts)))

  one-fields : fields_in One s rs [] ≡ front_fields One s kept firsts
  one-fields = fields-front One [] ∙ append-nil (front_fields One s kept firsts)

  two_fields : (ts : List Token) (others : List Resource) (named used : ℕ) → others ≡ those is_other_name rs → length others ≡ named → length ts ≡ used
      → fields_in Two s rs ts ≡ front_fields Two s kept firsts ++ back_fields named others used ts
  two_fields ts others named used o m u = fields-front Two ts ∙ rw (← o, m, u, ← names-all others, ← tokens-all ts)

-- ---- a file of some bytes, written or not

module _ (bytes b : List ℕ) (n : ℕ) (long : length bytes ≡ n) where
  written-short : length b < n → saved_of (Err TooShort) b ≡ written bytes b
  written-short h = rw (long, lt-ltb (length b) n h)

  written-done : (b' : List ℕ) → n ≤ length b → b' ≡ over 0 bytes b → saved_of (Ok n) b' ≡ written bytes b
  written-done b' h p = rw (long, le-ltb (length b) n h, p)

-- ---- save_one

module _ (s l : List ℕ) (live count : ℕ) (order : List ℕ) (is : (live ≡ count_in (get_or s 25 0)) × (live ≤ most)) (ordered : Orders resource_of_row 12 handle_of live l order count) where
  rows-rise : resources_listed count l order ≡ resources_in s l
  rows-rise = ordered.rises ∙ rw is.0

  module _ (firsts : List ℕ) (kept : ℕ) (keeps : Keeps false l order count firsts kept) (end : ℕ) (at : end ≡ number_bytes + head_bytes One) (b : List ℕ) where
    one-bytes : file_of (fields_in One s (resources_in s l) []) ≡ file_of (front_fields One s kept (resources_listed kept l firsts))
    one-bytes =
        ap file_of
        (one-fields s (resources_in s l) (resources_listed kept l firsts) kept (keeps.keeps ∙ ap (those is_lowest_name) rows-rise) (length-listed resource_of_row 12 kept l firsts))

    one-long : length (file_of (fields_in One s (resources_in s l) [])) ≡ end + 48 * kept
    one-long = ap length one-bytes ∙ (front_length One s kept l firsts ∙ omega arith)

    pub one-short : length b < end + 48 * kept → Writes One s (resources_in s l) [] b (Err TooShort) b
    one-short h = record { writes = written-short (file_of (fields_in One s (resources_in s l) [])) b (end + 48 * kept) one-long h }

    pub one-done : (b' : List ℕ) → end + 48 * kept ≤ length b → b' ≡ over 0 (file_of (front_fields One s kept (resources_listed kept l firsts))) b
        → Writes One s (resources_in s l) [] b (Ok (end + 48 * kept)) b'
    one-done b' h p = record { writes = written-done (file_of (fields_in One s (resources_in s l) [])) b (end + 48 * kept) one-long b' h (p ∙ rw one-bytes) }

pub kept-rows : (others : Bool) (l order : List ℕ) (count : ℕ) (kept : List ℕ) (found : ℕ) → Keeps others l order count kept found → Rows most kept found
kept-rows others l order count kept found keeps = keeps.rows

pub ruleset saving_one = (orders-rows, kept-rows, one-short, one-done, rules)

-- ---- write_two

module _ (s l order : List ℕ) (count : ℕ) (t tokenorder : List ℕ) (used : ℕ) (firsts : List ℕ) (kept : ℕ) (keeps : Keeps false l order count firsts kept) (others : List ℕ) (named : ℕ) (names : Keeps true l order count others named) (end : ℕ) (at : end ≡ number_bytes + head_bytes Two) (b : List ℕ) where
  -- what is written: the resources, then the other names and the tokens
  abbrev front : List ℕ
  front = front_fields Two s kept (resources_listed kept l firsts)

  abbrev back : List ℕ
  back = back_fields named (resources_listed named l others) used (tokens_listed used t tokenorder)

  abbrev whole : List ℕ
  whole = fields_in Two s (resources_listed count l order) (tokens_listed used t tokenorder)

  two-whole : whole ≡ front ++ back
  two-whole =
      two_fields s (resources_listed count l order) (resources_listed kept l firsts) kept keeps.keeps (length-listed resource_of_row 12 kept l firsts) (tokens_listed used t tokenorder)
      (resources_listed named l others) named used names.keeps (length-listed resource_of_row 12 named l others) (length-listed token_of_row 2 used t tokenorder)

  two-long : length (file_of whole) ≡ end + 48 * kept + 8 + 8 * named + 12 * used
  two-long =
      ap (λ x. length (file_of x)) two-whole
      ∙ (ap length (file-append front back)
      ∙ (length-append (file_of front) (file_of back)
      ∙ omega (arith, front_length Two s kept l firsts, back-length named l others used t tokenorder)))

  pub two-short : length b < end + 48 * kept + 8 + 8 * named + 12 * used
      → Writes Two s (resources_listed count l order) (tokens_listed used t tokenorder) b (Err TooShort) b
  two-short h = record { writes = written-short (file_of whole) b (end + 48 * kept + 8 + 8 * named + 12 * used) two-long h }

  pub two-done : (b₁ b₂ : List ℕ) → end + 48 * kept + 8 + 8 * named + 12 * used ≤ length b → b₁ ≡ over 0 (file_of (front_fields Two s kept (resources_listed kept l firsts))) b
      → b₂ ≡ over (end + 48 * kept) (file_of (back_fields named (resources_listed named l others) used (tokens_listed used t tokenorder))) b₁
      → Writes Two s (resources_listed count l order) (tokens_listed used t tokenorder) b (Ok (end + 48 * kept + 8 + 8 * named + 12 * used)) b₂
  two-done b₁ b₂ h p q =
      let all : b₂ ≡ over 0 (file_of (front ++ back)) b =
      fields-behind 0 (end + 48 * kept) front back b b₁ b₂ (omega (arith, front_length Two s kept l firsts)) (omega (arith, back-length named l others used t tokenorder)) p q in
      record { writes = written-done (file_of whole) b (end + 48 * kept + 8 + 8 * named + 12 * used) two-long b₂ h (all ∙ rw two-whole) }

pub ruleset writing_two = (kept-rows, two-short, two-done, rules)

-- ---- save_two

module _ (s t : List ℕ) (n used : ℕ) (tokenorder : List ℕ) (is : (n ≡ token_count_in (get_or s 32 0)) × (n ≤ most_tokens)) (ordered : Orders token_of_row 2 token_of n t tokenorder used) where
  tokens-rise : tokens_listed used t tokenorder ≡ tokens_in s t
  tokens-rise = ordered.rises ∙ rw is.0

  pub two-ordered : (l : List ℕ) (live count : ℕ) (order : List ℕ) → (live ≡ count_in (get_or s 25 0)) × (live ≤ most) → Orders resource_of_row 12 handle_of live l order count
      → (b : List ℕ) (x : Result ℕ CallError) (b' : List ℕ) → Writes Two s (resources_listed count l order) (tokens_listed used t tokenorder) b x b'
      → Writes Two s (resources_in s l) (tokens_in s t) b x b'
  two-ordered l live count order few rows b x b' p =
      record { writes = p.writes ∙ rw (rows-rise s l live count order few rows, tokens-rise) }

pub ruleset saving_two = (orders-rows, two-ordered, rules)

-- ---- save_of

-- the rules' file has these fields
saved-is : (f : Form) (s e l h t ot c : List ℕ) → saved f (world_in s e l h t ot c []).state ≡ file_of (fields_in f s (resources_in s l) (tokens_in s t))
unfolding saved saved_fields head_fields world_in fields_in
saved-is One s e l h t ot c = refl
saved-is Two s e l h t ot c = refl

module _ (f : Form) (s l t b : List ℕ) where
  pub saves-working : (tag_in s ≡ 0 → ⊥) → SavesOf f s l t b (Err InWork) b
  unfolding call_save
  saves-working n = record { saves = λ e h ot c. rw (works-in s e l h t ot c [] n) }

  module _ (z : tag_in s ≡ 0) where
    module _ (one : f ≡ One) (beyond : Bool) (is : Beyond s l beyond) where
      pub saves-beyond : beyond ≡ true → SavesOf f s l t b (Err NotInForm) b
      unfolding call_save
      saves-beyond q = record { saves = λ e h ot c. rw (one, rests-in s e l h t ot c [] z, ← is.is e h t ot c, q) }

      pub saves-one : (x : Result ℕ CallError) (b' : List ℕ) → beyond ≡ false → Writes One s (resources_in s l) [] b x b' → SavesOf f s l t b x b'
      unfolding call_save fields_in
      saves-one x b' q p =
          record { saves = λ e h ot c. p.writes ∙ rw (one, rests-in s e l h t ot c [] z, ← is.is e h t ot c, q, saved-is One s e l h t ot c) }

    pub saves-two : f ≡ Two → (x : Result ℕ CallError) (b' : List ℕ) → Writes Two s (resources_in s l) (tokens_in s t) b x b' → SavesOf f s l t b x b'
    unfolding call_save
    saves-two two x b' p = record { saves = λ e h ot c. p.writes ∙ rw (two, rests-in s e l h t ot c [] z, saved-is Two s e l h t ot c) }

pub ruleset saving_of = (saves-working, saves-beyond, saves-one, saves-two, rules)

-- ---- save_with, save

module _ (f : Form) (s l ft st before : List ℕ) (x : Result ℕ CallError) (after : List ℕ) where
  -- the call, were the side of the tokens this one
  abbrev token_sided : Bool → List ℕ → List ℕ → List ℕ → Saved
  token_sided t e h c = call_save f (world_in s e l h (pick t st ft) (pick t ft st) c []).state before

  pub with_first : get_or s 34 0 ≡ 0 → SavesOf f s l ft before x after → SavesWith f s l ft st before x after
  with_first z p =
      let side : false ≡ token_side_in s = rw (eq-eqb (get_or s 34 0) 0 z) in
      record { saves = λ e h c. p.saves e h st c ∙ ap (λ t. token_sided t e h c) side }

  pub with_second : (get_or s 34 0 ≡ 0 → ⊥) → SavesOf f s l st before x after → SavesWith f s l ft st before x after
  with_second z p =
      let side : true ≡ token_side_in s = rw (ne_eqb (get_or s 34 0) 0 z) in
      record { saves = λ e h c. p.saves e h ft c ∙ ap (λ t. token_sided t e h c) side }

pub ruleset saving_with = (with_first, with_second, rules)

module _ (f : Form) (s a b ft st before : List ℕ) (x : Result ℕ CallError) (after : List ℕ) where
  -- the call, were the side of the resources this one
  abbrev sided : Bool → List ℕ → List ℕ → Saved
  sided t e c = call_save f (world_in s e (pick t b a) (pick t a b) (pick (token_side_in s) st ft) (pick (token_side_in s) ft st) c []).state before

  pub saves-first : get_or s 28 0 ≡ 0 → SavesWith f s a ft st before x after → Saves f s a b ft st before x after
  saves-first z p =
      let side : false ≡ side_in s = rw (eq-eqb (get_or s 28 0) 0 z) in
      record { saves = λ e c. p.saves e b c ∙ ap (λ t. sided t e c) side }

  pub saves-second : (get_or s 28 0 ≡ 0 → ⊥) → SavesWith f s b ft st before x after → Saves f s a b ft st before x after
  saves-second z p =
      let side : true ≡ side_in s = rw (ne_eqb (get_or s 28 0) 0 z) in
      record { saves = λ e c. p.saves e a c ∙ ap (λ t. sided t e c) side }

pub ruleset saving = (saves-first, saves-second, rules)
