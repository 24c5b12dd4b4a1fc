-- The theorems of specs/LoadedIsSound.antt, and what they rest on. Assumes nothing.
use Rattle.std.specs.Prelude.{◌≡◌, refl, List, [], ◌++◌, ℕ, ◌+◌, ◌≤◌, length}
use Rattle.std.proofs.Common.{sym, ap, subst, ◌∙◌, append-nil, ⊎_elim, arith, length-append}
use Rattle.rules.specs.Numbers.{done}
use Rattle.rules.specs.Lists.{lookup}
use Rattle.rules.specs.Lists.Found.{none, found}
use Rattle.rules.specs.Layouts.{word}
use Rattle.rules.specs.Names.{token_of, under}
use Rattle.rules.specs.Packets.{handle_of}
use Rattle.rules.specs.State.{State}
use Rattle.rules.specs.declared.Resource.{Resource}
use Rattle.rules.specs.Saved.{count_place, head_bytes}
use Rattle.rules.specs.Loaded.{Loaded, names_place, form_in, sections, section_2, bad_place, loaded_belongings, loaded_sections, loaded, call_load}
use Rattle.rules.specs.declared.Form.{Form}
use Rattle.rules.specs.declared.Form.TheVariants.{One, Two}
use Rattle.rule_laws.specs.Created.{AsCreated}
use Rattle.promises_of_packets.specs.Names.{found-key}
use Rattle.promises_of_packets.specs.SoundNames.{SoundNames, no-tokens}
use Rattle.promises_of_packets.specs.Held.{Every, every-none, every-both, every-found, SoundBelongings}
use Rattle.promises_of_saving.specs.Refusals.{good-is-kept, kept-is-good, load-of-good, loaded-exactly}
use Rattle.promises_of_saving.specs.Rising.{Rises, none_below, rises-once}
use Rattle.promises_of_saving.specs.Appended.{lookup-front, lookup-back, front-or-back, once-both}
use Rattle.promises_of_saving.specs.GoodShared.{tokens_at, GoodShared}
use Rattle.promises_of_saving.specs.GoodFile.{GoodSections, good-file}
use Rattle.promises_of_saving.specs.LoadedResources.{length-loaded, OneName}
use Rattle.promises_of_saving.specs.LoadedShared.{length-names, length-tokens, SpentOrBound, tokens-bound}
use Rattle.promises_of_saving.specs.WrittenShared.{OtherNameOf}
use Rattle.promises_of_saving.specs.LoadedIsSound.{SoundAtRest, an-other, bindable-before, its_own, ns, ns-rise, others-as-created, others-free, section-2-created, section-2-one-name, section-2-rises, section-3-others, ts, ts-rise}

-- ---- resources under one name each, and other names of them

module _ (rs ns : List Resource) (own : Every OneName rs) (others : Every (OtherNameOf rs) ns) where
  pub names-sound : SoundNames (rs ++ ns)
  names-sound =
      record {
        lowest = λ k r e.
            ⊎_elim
            (λ h. let low : r.lowest ≡ k = (its_own rs ns own others) k r h in
            ap (λ n. lookup handle_of n (rs ++ ns)) low ∙ (e ∙ ap (λ n. found (under n r)) (found-key handle_of k rs r h ∙ sym low)))
            (λ h. lookup-front handle_of rs ns r.lowest (under r.lowest r) ((an-other rs ns own others) k r h).first)
            (front-or-back handle_of rs ns k r e);
        least = λ k r e.
            ⊎_elim (λ h. omega (arith, (its_own rs ns own others) k r h)) (λ h. omega (arith, ((an-other rs ns own others) k r h).below, found-key handle_of k ns r h)) (front-or-back handle_of rs ns k r e);
        shared = λ k r e other. ⊎_elim (λ h. absurd (other ((its_own rs ns own others) k r h))) (λ h. ((an-other rs ns own others) k r h).shared) (front-or-back handle_of rs ns k r e);
      }

-- ---- section 2, and what comes after it

module _ (f : Form) (b : List ℕ) (g : GoodSections f b) where
  -- with no other names and no tokens
  section-2-sound : SoundBelongings (record { resources = section_2 f b; tokens = [] })
  section-2-sound =
      record {
        resources = record {
          few = rw (length-loaded (word b (count_place f)) b (head_bytes f)) g.head.few;
          once = rises-once handle_of 0 (section_2 f b) (section-2-rises f b g);
          some = none_below handle_of 0 (section_2 f b) (section-2-rises f b g) 0 (omega arith);
          created = (section-2-created f b g);
          names = rw (append-nil (section_2 f b)) at (names-sound (section_2 f b) [] (section-2-one-name f b g) (every-none (OtherNameOf (section_2 f b))));
        };
        tokens = no-tokens (section_2 f b);
      }

-- with those of sections 3 and 4
module _ (rs : List Resource) (b : List ℕ) (at : ℕ) (rise : Rises handle_of 0 rs) (own : Every OneName rs) (created : Every AsCreated rs) (g : GoodShared rs b at) where
  shared-sound : SoundBelongings (record { resources = rs ++ (ns rs b at rise own created g); tokens = (ts rs b at rise own created g) })
  shared-sound =
      record {
        resources = record {
          few = rw (length-append rs (ns rs b at rise own created g), length-names rs own b (word b at) (at + 4) 0 g.names) g.few-names;
          once = once-both handle_of rs (ns rs b at rise own created g) (rises-once handle_of 0 rs rise) (rises-once handle_of 0 (ns rs b at rise own created g) (ns-rise rs b at rise own created g)) (others-free rs (ns rs b at rise own created g) (section-3-others rs b at rise own created g));
          some = lookup-back handle_of rs (ns rs b at rise own created g) 0 (none_below handle_of 0 rs rise 0 (omega arith)) ∙ none_below handle_of 0 (ns rs b at rise own created g) (ns-rise rs b at rise own created g) 0 (omega arith);
          created = every-both AsCreated rs (ns rs b at rise own created g) created (others-as-created rs (ns rs b at rise own created g) created (section-3-others rs b at rise own created g));
          names = names-sound rs (ns rs b at rise own created g) own (section-3-others rs b at rise own created g);
        };
        tokens = record {
          few = rw (length-tokens (word b (tokens_at b at)) b (tokens_at b at + 4)) g.few-tokens;
          once = rises-once token_of 0 (ts rs b at rise own created g) (ts-rise rs b at rise own created g);
          some = none_below token_of 0 (ts rs b at rise own created g) (ts-rise rs b at rise own created g) 0 (omega arith);
          bound-to = λ token t e some.
              bindable-before rs (ns rs b at rise own created g) t.name
              (every-found (SpentOrBound rs) token_of token (ts rs b at rise own created g) t e (tokens-bound rs own b (word b (tokens_at b at)) (tokens_at b at + 4) 0 g.tokens) some);
        };
      }

belongings-sound : (f : Form) (b : List ℕ) → GoodSections f b → SoundBelongings (loaded_belongings f (section_2 f b) b (names_place f (word b (count_place f))))
belongings-sound One b g = section-2-sound One b g
belongings-sound Two b g =
    shared-sound (section_2 Two b) b (names_place Two (word b (count_place Two))) (section-2-rises Two b g) (section-2-one-name Two b g) (section-2-created Two b g) g.later

-- ---- the device

good-is-sound : (f : Form) (b : List ℕ) → GoodSections f b → SoundAtRest (loaded_sections f b)
unfolding loaded_sections
good-is-sound f b g =
    let s : SoundBelongings (loaded_belongings f (section_2 f b) b (names_place f (word b (count_place f)))) = belongings-sound f b g in
    record {
      error = record { code = g.head.code; rest = g.head.count; detail = g.head.detail };
      few = s.resources.few;
      some = s.resources.some;
      once = s.resources.once;
      created = s.resources.created;
      names = s.resources.names;
      tokens = s.tokens;
      work = refl;
    }

-- what any good file says is a sound device, in either form
pub loaded-is-sound : (b : List ℕ) → bad_place b ≡ none → SoundAtRest (loaded b)
unfolding loaded
loaded-is-sound b good = good-is-sound (form_in b) (sections b) (good-file b (good-is-kept b good))

-- and so is a device after any load that was done, whatever it was before
pub load-is-sound : (s : State) (b : List ℕ) → (call_load s b).answer ≡ done → SoundAtRest (call_load s b).state
load-is-sound s b d =
    let good : bad_place b ≡ none = kept-is-good b ((loaded-exactly s b).0 d) in
    subst (λ (l : Loaded). SoundAtRest l.state) (sym (load-of-good s b good)) (loaded-is-sound b good)
