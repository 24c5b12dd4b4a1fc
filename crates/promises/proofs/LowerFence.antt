-- The theorems of specs/LowerFence.antt, and what they rest on. Assumes nothing.
use Rattle.std.specs.Prelude.{◌≡◌, refl, true}
use Rattle.std.proofs.Common.{ap, ◌∙◌, arith}
use Rattle.rules.specs.Numbers.{done}
use Rattle.rules.specs.Bytes.{le, bytes_of}
use Rattle.rules.specs.Saved.{resources_fields, file_of, next_above, rising_above, rising, those, head_fields, names_fields, tokens_fields, saved_fields, saved}
use Rattle.rules.specs.Loaded.{Loaded, resources_rules, first_broken, loaded_resources, first_field, before_sections, sections, names_rules, tokens_rules, section_3_rules, section_4_rules, sections_rules, behind, file_rules, bad_place, loaded_names, loaded_tokens, loaded_sections, loaded, call_load}
use Rattle.promises_of_saving.specs.Refusals.{load-of-good}
use Rattle.promises_of_units.specs.Called.{after}
use Rattle.promises_of_units.specs.Called.Call.{runs, answers}
use Rattle.promises_of_units.specs.Called.Called.{calls}
use Rattle.promises.specs.TwoSubmissions.{rung_with, rung}
use Rattle.promises.proofs.TwoSubmissions.{before_the_import_is_called, two_submissions}
use Rattle.promises.specs.LowerFence.{LowerAfterLoading, SavedBefore, both_done, saved_before}

pub saved_before_is : SavedBefore
unfolding saved_before rung_with next_above rising_above rising those resources_fields names_fields tokens_fields head_fields saved_fields file_of le bytes_of saved first_field before_sections sections resources_rules names_rules tokens_rules section_3_rules section_4_rules sections_rules behind file_rules first_broken bad_place loaded_resources loaded_names loaded_tokens loaded_sections loaded
saved_before_is = record { good = refl; fence = refl }

pub the_fence_may_be_lower_after_loading : LowerAfterLoading
the_fence_may_be_lower_after_loading =
    let load : call_load both_done saved_before ≡ record { answer = done; place = 0; state = loaded saved_before } = load-of-good both_done saved_before saved_before_is.good in
    let now : both_done.regs.completed ≡ 8 = two_submissions.both-fences in
    let then : (call_load both_done saved_before).state.regs.completed ≡ 0 = ap (λ (l : Loaded). l.state.regs.completed) load ∙ saved_before_is.fence in
    record {
      device = both_done;
      called =
          calls (answers true 0) (after (runs 65535) (after (answers true 1) (after (runs 65535) rung))).mem
          (calls (runs 65535) (after (answers true 1) (after (runs 65535) rung)).mem before_the_import_is_called);
      file = saved_before;
      loads-it = ap (λ (l : Loaded). l.answer) load;
      lower = omega arith;
    }
