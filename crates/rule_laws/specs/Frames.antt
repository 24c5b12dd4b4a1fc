-- One frame says one opcode and one size. Assumes nothing.
use Rattle.std.specs.Prelude.{◌≡◌, ℕ, Ok}
use Rattle.std.proofs.Common.{ap}
use Rattle.rules.specs.Stream.{Frame}

pub same-packet : (o s op size : ℕ) → ◌≡◌ {A = Frame} (Ok (o, s)) (Ok (op, size)) → (o ≡ op) × (s ≡ size)
same-packet o s op size e = let both : ◌≡◌ {A = ℕ × ℕ} (o, s) (op, size) = cc in (ap (λ p. p.0) both, ap (λ p. p.1) both)
