-- Which calls of save and load are refused, with what, and what a refused one leaves. Assumes nothing.
use Rattle.std.specs.Prelude.{◌≡◌, refl, Bool, true, false, List, ◌∷◌, ◌++◌, ◌⊎◌, ℕ, ◌+◌, ◌≤◌, ◌<◌, ltb, length, take, drop}
use Rattle.std.proofs.Common.{sym, ap, subst, ◌∙◌, inl, inr, ⊎_elim, arith}
use borrow.Author.Tests.{ltb-true, ltb-false, lt-ltb, le-ltb}
use Rattle.rules.specs.Numbers.{done, in_work, too_short, bad_file, not_in_form}
use Rattle.rules.specs.Lists.{Found, over}
use Rattle.rules.specs.Lists.Found.{none, found}
use Rattle.rules.specs.State.{State}
use Rattle.rules.specs.Calls.{at_rest}
use Rattle.rules.specs.Saved.{Saved, not_saved, saved, beyond, call_save}
use Rattle.rules.specs.Loaded.{Rule, first_broken, Loaded, file_rules, bad_place, loaded, call_load}
use Rattle.rules.specs.declared.Form.{Form}
use Rattle.words.specs.Over.{length_over, part_at, drop-after}
use Rattle.promises_of_packets.specs.Held.{Every}
use Rattle.promises_of_saving.specs.FirstBroken.{Kept, FirstBroken, first-is-found, found-is-first, all-kept-none, none-all-kept, broken-not-none}

-- ---- loading

abbrev load_refused : ℕ → State → Loaded
load_refused place s = record { answer = bad_file; place = place; state = s }

abbrev load_done : List ℕ → Loaded
load_done b = record { answer = done; place = 0; state = loaded b }

bad-not-done : ◌≡◌ {A = ℕ} bad_file done → ⊥
bad-not-done e = omega arith

pub load-of-good : (s : State) (b : List ℕ) → bad_place b ≡ none → call_load s b ≡ load_done b
unfolding call_load
load-of-good s b e = rw e

pub load-of-bad : (s : State) (b : List ℕ) (p : ℕ) → bad_place b ≡ found p → call_load s b ≡ load_refused p s
unfolding call_load
load-of-bad s b p e = rw e

pub good-is-kept : (b : List ℕ) → bad_place b ≡ none → Every Kept (file_rules b)
unfolding bad_place
good-is-kept b e = none-all-kept (file_rules b) e

pub kept-is-good : (b : List ℕ) → Every Kept (file_rules b) → bad_place b ≡ none
unfolding bad_place
kept-is-good b k = all-kept-none (file_rules b) k

bad-is-first : (b : List ℕ) (p : ℕ) → bad_place b ≡ found p → FirstBroken (file_rules b) p
unfolding bad_place
bad-is-first b p e = found-is-first (file_rules b) p e

pub first-is-bad : (b : List ℕ) (p : ℕ) → FirstBroken (file_rules b) p → bad_place b ≡ found p
unfolding bad_place
first-is-bad b p f = first-is-found (file_rules b) p f

good-by-answer : (s : State) (b : List ℕ) → (call_load s b).answer ≡ done → bad_place b ≡ none
good-by-answer s b e = by_found (bad_place b) refl
  where
    by_found : (f : Found ℕ) → bad_place b ≡ f → bad_place b ≡ none
    by_found none h = h
    by_found (found p) h = absurd (bad-not-done (sym (ap (λ (l : Loaded). l.answer) (load-of-bad s b p h)) ∙ e))

bad-by-answer : (s : State) (b : List ℕ) → (call_load s b).answer ≡ bad_file → (p : ℕ) × (bad_place b ≡ found p)
bad-by-answer s b e = by_found (bad_place b) refl
  where
    by_found : (f : Found ℕ) → bad_place b ≡ f → (p : ℕ) × (bad_place b ≡ found p)
    by_found none h = absurd (bad-not-done (sym (sym (ap (λ (l : Loaded). l.answer) (load-of-good s b h)) ∙ e)))
    by_found (found p) h = (p, h)

-- "Loading answers 7 .. exactly when a field is missing or breaks a rule, or a byte follows the last .. It gives the offset of the first such field
-- .. or byte": the rules split into those that are kept, the broken one with that place, and any others
pub refused-exactly : (s : State) (b : List ℕ)
    → ((call_load s b).answer ≡ bad_file → FirstBroken (file_rules b) (call_load s b).place)
    × ((p : ℕ) → FirstBroken (file_rules b) p → call_load s b ≡ record { answer = bad_file; place = p; state = s })
refused-exactly s b = (
  λ e. let f = bad-by-answer s b e in
      subst (FirstBroken (file_rules b)) (sym (ap (λ (l : Loaded). l.place) (load-of-bad s b f.0 f.1))) (bad-is-first b f.0 f.1),
  λ p f. load-of-bad s b p (first-is-bad b p f),
)

-- and it is done exactly when every rule is kept
pub loaded-exactly : (s : State) (b : List ℕ)
    → ((call_load s b).answer ≡ done → Every Kept (file_rules b))
    × (Every Kept (file_rules b) → call_load s b ≡ record { answer = done; place = 0; state = loaded b })
loaded-exactly s b = (λ e. good-is-kept b (good-by-answer s b e), λ k. load-of-good s b (kept-is-good b k))

-- one of the two
pub loaded-or-refused : (s : State) (b : List ℕ) → ((call_load s b).answer ≡ done) ⊎ ((call_load s b).answer ≡ bad_file)
loaded-or-refused s b = by_found (bad_place b) refl
  where
    by_found : (f : Found ℕ) → bad_place b ≡ f → ((call_load s b).answer ≡ done) ⊎ ((call_load s b).answer ≡ bad_file)
    by_found none h = inl (ap (λ (l : Loaded). l.answer) (load-of-good s b h))
    by_found (found p) h = inr (ap (λ (l : Loaded). l.answer) (load-of-bad s b p h))

-- no broken rule is passed over, whichever it is
pub any-broken-is-refused : (s : State) (b : List ℕ) (front : List Rule) (r : Rule) (back : List Rule)
    → file_rules b ≡ front ++ (r ∷ back) → r.broken ≡ true → (call_load s b).answer ≡ bad_file
unfolding bad_place
any-broken-is-refused s b front r back e h =
    ⊎_elim
    (λ d. absurd (broken-not-none front r back h (sym (ap first_broken e) ∙ good-by-answer s b d)))
    (λ d. d)
    (loaded-or-refused s b)

-- "device unchanged"
pub refused-load-leaves-the-device : (s : State) (b : List ℕ) → (call_load s b).answer ≡ bad_file → (call_load s b).state ≡ s
refused-load-leaves-the-device s b e =
    let f = bad-by-answer s b e in
    ap (λ (l : Loaded). l.state) (load-of-bad s b f.0 f.1)

-- "read back elsewhere": what is read is the file's alone, whatever the device was, also with a submission in work
pub load-is-the-files : (s t : State) (b : List ℕ) → (call_load s b).answer ≡ done → call_load t b ≡ call_load s b
load-is-the-files s t b e = load-of-good t b (good-by-answer s b e) ∙ sym (load-of-good s b (good-by-answer s b e))

-- ---- what a call leaves that writes a file into a buffer

-- "both leave it untouched", and so do 7 and 8: beside them stands length 0
pub record NothingWritten (r : Saved) (buffer : List ℕ) : Type 0 where
  pub no_length : r.length ≡ 0
  pub untouched : r.buffer ≡ buffer

-- "It gives the length and keeps later bytes": what is written stands before them
pub record FileWritten (r : Saved) (b buffer : List ℕ) : Type 0 where
  pub so-long : r.length ≡ length b
  pub file : take r.length r.buffer ≡ b
  pub later : drop r.length r.buffer ≡ drop r.length buffer
  pub as_long : length r.buffer ≡ length buffer

module _ (r : Saved) (buffer : List ℕ) where
  pub nothing_written : (answer : ℕ) → r ≡ not_saved answer buffer → NothingWritten r buffer
  nothing_written answer e = record { no_length = ap (λ (v : Saved). v.length) e; untouched = ap (λ (v : Saved). v.buffer) e }

  pub file-written : (b : List ℕ) → length b ≤ length buffer → r ≡ record { answer = done; length = length b; buffer = over 0 b buffer } → FileWritten r b buffer
  file-written b room e =
      let fits : 0 + length b ≤ length buffer = omega arith in
      record {
        so-long = ap (λ (v : Saved). v.length) e;
        file = ap (λ (v : Saved). take v.length v.buffer) e ∙ part_at 0 b buffer fits (length b) refl;
        later = ap (λ (v : Saved). drop v.length v.buffer) e ∙ (drop-after 0 b buffer fits (length b) (omega arith) ∙ ap (λ (v : Saved). drop v.length buffer) (sym e));
        as_long = ap (λ (v : Saved). length v.buffer) e ∙ length_over 0 b buffer fits;
      }

-- ---- saving

module _ (f : Form) (s : State) (buffer : List ℕ) where
  abbrev rested : Bool
  rested = at_rest s.work

  abbrev short : Bool
  short = ltb (length buffer) (length (saved f s))

  -- "Saving while a submission is in work answers 5"
  pub save-in-work : at_rest s.work ≡ false → call_save f s buffer ≡ not_saved in_work buffer
  unfolding call_save
  save-in-work e = rw e

  -- "8 (after 5, before 6)"
  pub save-not-in-form : at_rest s.work ≡ true → beyond f s ≡ true → call_save f s buffer ≡ not_saved not_in_form buffer
  unfolding call_save
  save-not-in-form e n = rw (e, n)

  -- "then a buffer too short answers 6"
  pub save-too-short : at_rest s.work ≡ true → beyond f s ≡ false → length buffer < length (saved f s) → call_save f s buffer ≡ not_saved too_short buffer
  unfolding call_save
  save-too-short e n h = rw (e, n, lt-ltb (length buffer) (length (saved f s)) h)

  -- else it is saved
  pub save-done : at_rest s.work ≡ true → beyond f s ≡ false → length (saved f s) ≤ length buffer
      → call_save f s buffer ≡ record { answer = done; length = length (saved f s); buffer = over 0 (saved f s) buffer }
  unfolding call_save
  save-done e n h = rw (e, n, le-ltb (length buffer) (length (saved f s)) h)

  -- what an answer 0 says
  pub record SaveDone : Type 0 where
    pub rest : at_rest s.work ≡ true
    pub form : beyond f s ≡ false
    pub room : length (saved f s) ≤ length buffer

  not_done : (answer : ℕ) → (answer ≡ done → ⊥) → call_save f s buffer ≡ not_saved answer buffer → ((call_save f s buffer).answer ≡ done → ⊥) × NothingWritten (call_save f s buffer) buffer
  not_done answer n e = (
    λ d. n (sym (ap (λ (v : Saved). v.answer) e) ∙ d),
    nothing_written (call_save f s buffer) buffer answer e,
  )

  done-or-not : SaveDone ⊎ (((call_save f s buffer).answer ≡ done → ⊥) × NothingWritten (call_save f s buffer) buffer)
  done-or-not = by-rest rested refl
    where
      by-room : (t : Bool) → short ≡ t → rested ≡ true → beyond f s ≡ false → SaveDone ⊎ (((call_save f s buffer).answer ≡ done → ⊥) × NothingWritten (call_save f s buffer) buffer)
      by-room true h e n = inr (not_done too_short (λ u. omega arith) (save-too-short e n (ltb-true (length buffer) (length (saved f s)) h)))
      by-room false h e n = inl (record { rest = e; form = n; room = ltb-false (length buffer) (length (saved f s)) h })

      by_form : (t : Bool) → beyond f s ≡ t → rested ≡ true → SaveDone ⊎ (((call_save f s buffer).answer ≡ done → ⊥) × NothingWritten (call_save f s buffer) buffer)
      by_form true n e = inr (not_done not_in_form (λ u. omega arith) (save-not-in-form e n))
      by_form false n e = by-room short refl e n

      by-rest : (t : Bool) → rested ≡ t → SaveDone ⊎ (((call_save f s buffer).answer ≡ done → ⊥) × NothingWritten (call_save f s buffer) buffer)
      by-rest true e = by_form (beyond f s) refl e
      by-rest false e = inr (not_done in_work (λ u. omega arith) (save-in-work e))

  pub save-done-exactly : ((call_save f s buffer).answer ≡ done → SaveDone) × (SaveDone → (call_save f s buffer).answer ≡ done)
  save-done-exactly = (
    λ d. ⊎_elim (λ y. y) (λ n. absurd (n.0 d)) done-or-not,
    λ y. ap (λ (v : Saved). v.answer) (save-done y.rest y.form y.room),
  )

  pub refused-save-leaves-the-buffer : ((call_save f s buffer).answer ≡ done → ⊥) → NothingWritten (call_save f s buffer) buffer
  refused-save-leaves-the-buffer n =
      ⊎_elim (λ y. absurd (n (save-done-exactly.1 y))) (λ r. r.1) done-or-not

  pub done-save-keeps-later-bytes : (call_save f s buffer).answer ≡ done → FileWritten (call_save f s buffer) (saved f s) buffer
  done-save-keeps-later-bytes d =
      let y : SaveDone = save-done-exactly.0 d in
      file-written (call_save f s buffer) buffer (saved f s) y.room (save-done y.rest y.form y.room)
