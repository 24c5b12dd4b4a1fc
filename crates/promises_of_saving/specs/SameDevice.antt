-- When two devices are the same: every number is, every handle means the same resource or none, and every token the same or none. The order in
-- which a device keeps them says nothing: resources are a map of handles, tokens one of their numbers.
use Rattle.std.specs.Prelude.{◌≡◌, refl, ℕ}
use Rattle.std.proofs.Common.{sym, ◌∙◌}
use Rattle.rules.specs.Lists.{lookup}
use Rattle.rules.specs.Names.{token_of}
use Rattle.rules.specs.Packets.{handle_of}
use Rattle.rules.specs.State.{State}

pub record SameDevice (s t : State) : Type 0 where
  pub memory : s.memory ≡ t.memory
  pub regs : s.regs ≡ t.regs
  pub resources : (k : ℕ) → lookup handle_of k s.belongings.resources ≡ lookup handle_of k t.belongings.resources
  pub tokens : (k : ℕ) → lookup token_of k s.belongings.tokens ≡ lookup token_of k t.belongings.tokens
  pub work : s.work ≡ t.work

pub same-itself : (s : State) → SameDevice s s
same-itself s = record { memory = refl; regs = refl; resources = λ k. refl; tokens = λ k. refl; work = refl }

pub same-turned : (s t : State) → SameDevice s t → SameDevice t s
same-turned s t d = record { memory = sym d.memory; regs = sym d.regs; resources = λ k. sym (d.resources k); tokens = λ k. sym (d.tokens k); work = sym d.work }

pub same-through : (s t u : State) → SameDevice s t → SameDevice t u → SameDevice s u
same-through s t u d e =
    record {
      memory = d.memory ∙ e.memory;
      regs = d.regs ∙ e.regs;
      resources = λ k. d.resources k ∙ e.resources k;
      tokens = λ k. d.tokens k ∙ e.tokens k;
      work = d.work ∙ e.work;
    }
