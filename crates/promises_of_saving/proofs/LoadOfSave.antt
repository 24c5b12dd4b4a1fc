-- The theorems of specs/LoadOfSave.antt, and what they rest on. Assumes nothing.
use Rattle.std.specs.Prelude.{◌≡◌, refl, true, false, List, [], ◌∷◌, ◌++◌, ℕ, ◌+◌, eqb, length, take}
use Rattle.std.proofs.Math.Path.{sym, ap}
use Rattle.std.proofs.Common.{subst, ◌∙◌, arith}
use Rattle.rules.specs.Numbers.{done}
use Rattle.rules.specs.Lists.{lookup}
use Rattle.rules.specs.Lists.Found.{none}
use Rattle.rules.specs.Layouts.{word}
use Rattle.rules.specs.Names.{token_of}
use Rattle.rules.specs.Packets.{Belongings, handle_of}
use Rattle.rules.specs.Registers.{bit_of}
use Rattle.rules.specs.State.{State}
use Rattle.rules.specs.Calls.{at_rest}
use Rattle.rules.specs.declared.Resource.{Resource}
use Rattle.rules.specs.declared.Token.{Token}
use Rattle.rules.specs.Saved.{resources_fields, count_place, head_bytes, firsts_of, others_of, tokens_of, names_fields, tokens_fields, shared_fields, saved, beyond, call_save}
use Rattle.rules.specs.Loaded.{loaded_resources, names_place, tokens_place, sections, bad_place, loaded_registers, loaded_names, loaded_tokens, section_2, loaded_belongings, loaded_sections, loaded, call_load}
use Rattle.rules.specs.declared.Form.{Form}
use Rattle.rules.specs.declared.Form.TheVariants.{One, Two}
use Rattle.rule_laws.specs.Created.{AsCreated}
use Rattle.promises_of_saving.specs.SameDevice.{SameDevice}
use Rattle.promises_of_saving.specs.Refusals.{SaveDone, save-done-exactly, done-save-keeps-later-bytes, kept-is-good, load-of-good}
use Rattle.promises_of_saving.specs.GoodShared.{GoodNames, GoodTokens, GoodShared, tokens_at}
use Rattle.promises_of_saving.specs.GoodFile.{GoodResources, GoodLater, GoodSections, GoodFile, file-kept}
use Rattle.promises_of_saving.specs.Savable.{FitsResource, Savable}
use Rattle.promises_of_saving.specs.WrittenResources.{Reads, reads_first, reads-later, word_back, length_fields, written-resources}
use Rattle.promises_of_saving.specs.WrittenShared.{length-names-fields, written-names, written-tokens}
use Rattle.promises_of_saving.proofs.SavedParts.{firsts-rise, others-rise, tokens-rise, few-names, few-tokens, every_first, every-other, tokens-fit, found-token, found_name, only-firsts, firsts-own, others-are, tokens-are}
use Rattle.promises_of_saving.specs.SavedFile.{saved_sections, form-of-saved, sections-of-saved, length-sections}
use Rattle.promises_of_saving.specs.WrittenHead.{flag-of-bit, bits-of-status, saved_detail, HeadRead}
use Rattle.promises_of_saving.proofs.WrittenHead.{head_read, good-head-written, reads-resources}
use Rattle.promises_of_saving.specs.LoadOfSave.{LoadedBack, SharedBack, at, b, c, in-form-1, next, one_name, rests, said, same-error, same-registers, tokens_part}

-- ---- the sections

module _ (f : Form) (s : State) (v : Savable s) where
  resources-back : GoodResources (length (firsts_of s)) (b f s v) (head_bytes f) 0 × (loaded_resources (length (firsts_of s)) (b f s v) (head_bytes f) ≡ firsts_of s)
  resources-back =
      written-resources (firsts_of s) (shared_fields f s) (b f s v) (head_bytes f) 0 (firsts-rise s v) (every_first s v AsCreated v.created) (firsts-own s v)
      (every_first s v FitsResource v.fits.resources) (omega (arith, length-sections f s)) (reads-resources f s v)

  section-2-back : section_2 f (b f s v) ≡ firsts_of s
  section-2-back = ap (λ n. loaded_resources n (b f s v) (head_bytes f)) (head_read f s v).number ∙ resources-back.1

  reads-next : Reads (b f s v) (next f s v) (shared_fields f s)
  reads-next = reads-later (b f s v) (head_bytes f) (next f s v) (resources_fields (firsts_of s)) (shared_fields f s) (omega (arith, length_fields (firsts_of s))) (reads-resources f s v)

  at_next : names_place f (word (b f s v) (count_place f)) ≡ (next f s v)
  at_next = ap (names_place f) (head_read f s v).number

module _ (s : State) (v : Savable s) where
  few-others : word (c s v) (at s v) ≡ length (others_of s)
  few-others = word_back (word (c s v) (at s v)) (length (others_of s)) (reads_first (c s v) (at s v) (shared_fields Two s) (reads-next Two s v)) (omega (arith, few-names s v))

  reads-names : Reads (c s v) ((at s v) + 4) (names_fields (others_of s) ++ (tokens_part s v))
  reads-names = reads-later (c s v) (at s v) ((at s v) + 4) (length (others_of s) ∷ []) (names_fields (others_of s) ++ (tokens_part s v)) refl (reads-next Two s v)

  reads-tokens : Reads (c s v) (tokens_place (at s v) (length (others_of s))) (tokens_part s v)
  reads-tokens =
      reads-later (c s v) ((at s v) + 4) (tokens_place (at s v) (length (others_of s))) (names_fields (others_of s)) (tokens_part s v)
      (omega (arith, length-names-fields (others_of s))) reads-names

  tokens-here : tokens_at (c s v) (at s v) ≡ tokens_place (at s v) (length (others_of s))
  tokens-here = ap (tokens_place (at s v)) few-others

  many-tokens : word (c s v) (tokens_at (c s v) (at s v)) ≡ length (tokens_of s)
  many-tokens =
      word_back (word (c s v) (tokens_at (c s v) (at s v))) (length (tokens_of s))
      (ap (word (c s v)) tokens-here ∙ reads_first (c s v) (tokens_place (at s v) (length (others_of s))) (tokens_part s v) reads-tokens) (omega (arith, few-tokens s v))

  names-back : GoodNames (length (others_of s)) (firsts_of s) (c s v) ((at s v) + 4) 0 × (loaded_names (length (others_of s)) (firsts_of s) (c s v) ((at s v) + 4) ≡ others_of s)
  names-back =
      written-names (others_of s) (firsts_of s) (tokens_part s v) (c s v) ((at s v) + 4) 0 (others-rise s v) (others-are s v) (every-other s v FitsResource v.fits.resources)
      (omega (arith, length-sections Two s)) reads-names

  tokens-back : GoodTokens (length (tokens_of s)) (firsts_of s) (c s v) (tokens_place (at s v) (length (others_of s)) + 4) 0
      × (loaded_tokens (length (tokens_of s)) (c s v) (tokens_place (at s v) (length (others_of s)) + 4) ≡ tokens_of s)
  tokens-back =
      written-tokens (tokens_of s) (firsts_of s) (c s v) (tokens_place (at s v) (length (others_of s)) + 4) 0 (tokens-rise s v) (tokens-are s v) (tokens-fit s v)
      (omega (arith, length-sections Two s))
      (reads-later (c s v) (tokens_place (at s v) (length (others_of s))) (tokens_place (at s v) (length (others_of s)) + 4) (length (tokens_of s) ∷ []) (tokens_fields (tokens_of s)) refl reads-tokens)

  shared_back : SharedBack (firsts_of s) (c s v) (at s v) s
  shared_back =
      record {
        good = record {
          few-names = omega (arith, few-names s v, few-others);
          names = subst (λ n. GoodNames n (firsts_of s) (c s v) ((at s v) + 4) 0) (sym few-others) names-back.0;
          few-tokens = omega (arith, few-tokens s v, many-tokens);
          tokens = subst (λ n. GoodTokens n (firsts_of s) (c s v) (tokens_at (c s v) (at s v) + 4) 0) (sym many-tokens)
              (subst (λ k. GoodTokens (length (tokens_of s)) (firsts_of s) (c s v) (k + 4) 0) (sym tokens-here) tokens-back.0);
          long_as = omega (arith, length-sections Two s, few-others, many-tokens);
        };
        names = ap (λ n. loaded_names n (firsts_of s) (c s v) ((at s v) + 4)) few-others ∙ names-back.1;
        tokens = ap (λ n. loaded_tokens n (c s v) (tokens_at (c s v) (at s v) + 4)) many-tokens ∙ (ap (λ k. loaded_tokens (length (tokens_of s)) (c s v) (k + 4)) tokens-here ∙ tokens-back.1);
      }

later-back : (f : Form) (s : State) (v : Savable s) → GoodLater f (saved_sections f s) (names_place f (word (saved_sections f s) (count_place f)))
later-back One s v = omega (arith, length-sections One s, (head_read One s v).number)
later-back Two s v =
    subst (GoodShared (section_2 Two (saved_sections Two s)) (saved_sections Two s)) (sym (at_next Two s v))
    (subst (λ rs. GoodShared rs (saved_sections Two s) (next Two s v)) (sym (section-2-back Two s v)) (shared_back s v).good)

pub said-back : (f : Form) (s : State) (v : Savable s)
    → loaded_belongings f (section_2 f (saved_sections f s)) (saved_sections f s) (names_place f (word (saved_sections f s) (count_place f))) ≡ said f s
said-back One s v = ap (λ (rs : List Resource). record { resources = rs; tokens = [] }) (section-2-back One s v)
said-back Two s v =
    let c : List ℕ = saved_sections Two s in
    let h : SharedBack (firsts_of s) c (next Two s v) s = shared_back s v in
    ap (λ k. loaded_belongings Two (section_2 Two c) c k) (at_next Two s v)
    ∙ (ap (λ rs. loaded_belongings Two rs c (next Two s v)) (section-2-back Two s v) ∙ same-belongings (ap (λ rs. firsts_of s ++ rs) h.names) h.tokens)
  where
    same-belongings : {rs rs' : List Resource} {ts ts' : List Token} → rs ≡ rs' → ts ≡ ts'
        → ◌≡◌ {A = Belongings} (record { resources = rs; tokens = ts }) (record { resources = rs'; tokens = ts' })
    same-belongings p q = rw (p, q)

-- ---- what a form has a field for, is said

module _ (s : State) (v : Savable s) where
  all-of-detail : (f : Form) → beyond f s ≡ false → saved_detail f s ≡ s.regs.error.detail
  all-of-detail One e = sym (in-form-1 s e).detail
  all-of-detail Two e = refl

  all-of-resources : (f : Form) → beyond f s ≡ false → (k : ℕ) → lookup handle_of k (said f s).resources ≡ lookup handle_of k s.belongings.resources
  all-of-resources One e k = only-firsts s v (in-form-1 s e).one_name k
  all-of-resources Two e k = found_name s v k

  all-of-tokens : (f : Form) → beyond f s ≡ false → (k : ℕ) → lookup token_of k (said f s).tokens ≡ lookup token_of k s.belongings.tokens
  all-of-tokens One e k = ap (lookup token_of k) (sym (in-form-1 s e).tokens)
  all-of-tokens Two e k = found-token s v k

module _ (f : Form) (s : State) (v : Savable s) where
  good-sections-written : GoodSections f (saved_sections f s)
  good-sections-written =
      record {
        head = good-head-written f s v;
        resources = subst (λ n. GoodResources n (saved_sections f s) (head_bytes f) 0) (sym (head_read f s v).number) (resources-back f s v).0;
        later = later-back f s v;
      }

  -- what saving writes is a good file of its form
  pub good-file-written : GoodFile (saved f s)
  good-file-written =
      subst (λ x. GoodSections x (sections (saved f s))) (sym (form-of-saved f s))
      (subst (GoodSections f) (sym (sections-of-saved f s)) good-sections-written)

  pub saved-is-good : bad_place (saved f s) ≡ none
  saved-is-good = kept-is-good (saved f s) (file-kept (saved f s) good-file-written)

  pub registers-back : beyond f s ≡ false → loaded_registers f (saved_sections f s) ≡ s.regs
  registers-back form =
      let h : HeadRead f (saved_sections f s) s = head_read f s v in
      let b = bits-of-status s.regs.fenced s.regs.failed in
      same-registers h.ring h.ringsize (ap (λ n. eqb n 1) h.control ∙ flag-of-bit s.regs.enabled) h.page h.completed
      (ap (bit_of 0) h.bits ∙ b.0) (ap (bit_of 1) h.bits ∙ b.1) h.irqenable
      (same-error h.code h.fence h.count (h.detail ∙ all-of-detail s v f form))
      (ap (λ n. eqb n 1) h.flag ∙ flag-of-bit s.regs.doorbell)

  sections-same : beyond f s ≡ false → at_rest s.work ≡ true → SameDevice (loaded_sections f (saved_sections f s)) s
  unfolding loaded_sections
  sections-same form rest =
      record {
        memory = (head_read f s v).memory;
        regs = registers-back form;
        resources = λ k. ap (λ (x : Belongings). lookup handle_of k x.resources) (said-back f s v) ∙ all-of-resources s v f form k;
        tokens = λ k. ap (λ (x : Belongings). lookup token_of k x.tokens) (said-back f s v) ∙ all-of-tokens s v f form k;
        work = sym (rests s.work rest);
      }

  pub loaded-of-saved : loaded (saved f s) ≡ loaded_sections f (saved_sections f s)
  unfolding loaded
  loaded-of-saved = ap (λ x. loaded_sections x (sections (saved f s))) (form-of-saved f s) ∙ ap (loaded_sections f) (sections-of-saved f s)

  -- and says the device that was saved
  pub same_back : beyond f s ≡ false → at_rest s.work ≡ true → SameDevice (loaded (saved f s)) s
  same_back form rest = subst (λ (t : State). SameDevice t s) (sym loaded-of-saved) (sections-same form rest)

-- ---- the theorem

-- what a save that was done wrote, any device loads, and is then the device that was saved
pub load-of-save : (f : Form) (s : State) → Savable s → (buffer : List ℕ) → (call_save f s buffer).answer ≡ done
    → (t : State) → LoadedBack s (call_load t (take (call_save f s buffer).length (call_save f s buffer).buffer))
load-of-save f s v buffer d t =
    let y : SaveDone f s buffer = (save-done-exactly f s buffer).0 d in
    let is : call_load t (take (call_save f s buffer).length (call_save f s buffer).buffer) ≡ record { answer = done; place = 0; state = loaded (saved f s) } =
    ap (call_load t) (done-save-keeps-later-bytes f s buffer d).file ∙ load-of-good t (saved f s) (saved-is-good f s v) in
    subst (LoadedBack s) (sym is) (record { answer = refl; place = refl; device = same_back f s v y.form y.rest })
