-- What a verdict of Fine says of the rules that were put. Assumes nothing.
use Rattle.std.specs.Prelude.{◌≡◌, refl, Bool, true, false, ◌&&◌, ℕ, Err, Ok}
use Rattle.std.proofs.Common.{arith}
use Rattle.rules.specs.Judging.{rule, only, ◌▹◌, Verdict}
use Rattle.rules.specs.declared.Refusal.{Refusal}

pub broken-not-fine : (r : Refusal) → ◌≡◌ {A = Verdict} (Err r) (Ok tt) → ⊥
broken-not-fine r e = let z : ◌≡◌ {A = ℕ} 0 1 = cc in omega arith

-- both of two are fine
pub fine-first : (a b : Verdict) → a ▹ b ≡ Ok tt → a ≡ Ok tt
fine-first (Ok _) b e = refl
fine-first (Err r) b e = e

pub fine-later : (a b : Verdict) → a ▹ b ≡ Ok tt → b ≡ Ok tt
fine-later (Ok _) b e = e
fine-later (Err r) b e = absurd (broken-not-fine r e)

-- a rule that is not broken
pub kept_rule : (n : Refusal) (t : Bool) → rule n t ≡ Ok tt → t ≡ false
kept_rule n true e = absurd (broken-not-fine n e)
kept_rule n false e = refl

pub kept-only : (t : Bool) (v : Verdict) → t ≡ true → only t v ≡ Ok tt → v ≡ Ok tt
kept-only t v h e = rw h at e

-- five in a row, as a header and a packet have them
pub all-kept : (n : Refusal) (a b c d e : Bool) → rule n a ▹ rule n b ▹ rule n c ▹ rule n d ▹ rule n e ≡ Ok tt
    → (a ≡ false) × ((b ≡ false) × ((c ≡ false) × ((d ≡ false) × (e ≡ false))))
all-kept n a b c d e h =
    let p = fine-later (rule n a) (rule n b ▹ rule n c ▹ rule n d ▹ rule n e) h in
    let q = fine-later (rule n b) (rule n c ▹ rule n d ▹ rule n e) p in
    let r = fine-later (rule n c) (rule n d ▹ rule n e) q in
    (kept_rule n a (fine-first _ _ h), (kept_rule n b (fine-first _ _ p), (kept_rule n c (fine-first _ _ q), (kept_rule n d (fine-first _ _ r), kept_rule n e (fine-later (rule n d) (rule n e) r)))))

-- tests joined
pub both_left : (a b : Bool) → a && b ≡ true → a ≡ true
both_left true b h = refl
both_left false b h = h

pub both_right : (a b : Bool) → a && b ≡ true → b ≡ true
both_right true b h = h
both_right false b h = let z : ◌≡◌ {A = ℕ} 0 1 = cc in absurd (omega arith)
