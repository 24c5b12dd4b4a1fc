-- The theorems of specs/Packets.antt, and what they rest on. Assumes nothing.
use Rattle.std.specs.Prelude.{◌≡◌, Bool, true, false, List, ℕ, length, Err, Ok}
use Rattle.std.proofs.Math.Path.{refl, ap}
use Rattle.std.proofs.Common.{sym, ◌∙◌}
use Rattle.machine.specs.Machine.{pick}
use Rattle.rules.specs.Lists.{lookup, index_of}
use Rattle.rules.specs.Lists.Found.{none, found}
use Rattle.rules.specs.Names.{token_of, shareable, under, rename, rebind, lower, lowest_left, names_left, tokens_left, names_with}
use Rattle.rules.specs.Packets.{handle_of, live, recorded, stored, without, Progress}
use Rattle.rules.specs.declared.Entry.{Entry}
use Rattle.rules.specs.declared.Resource.{Resource}
use Rattle.rules.specs.declared.Record.{Record}
use Rattle.rules.specs.declared.Refusal.{Refusal}
use Rattle.rows.specs.Keys.{Once, once-removed, lookup-removed-other}
use Rattle.promises_of_packets.specs.Names.{none-not-found, found-place}
use Rattle.promises_of_packets.specs.Held.{SoundProgress}
use Rattle.promises_of_same_desks.specs.Maps.{SameMap, same_length, same-pushed, same-removed, same-renamed, same-lowest, same-rebound}
use Rattle.promises_of_same_desks.specs.Packets.{SameHeld, SamePassed}

-- ---- one packet, whatever it is

module _ (es : List Entry) (g h : Progress) (s : SoundProgress es g) (t : SoundProgress es h) (d : SameHeld g h) where
  pub few-names : length g.holdings.resources ≡ length h.holdings.resources
  few-names = same_length handle_of g.holdings.resources h.holdings.resources s.holdings.resources.once t.holdings.resources.once d.resources

  pub few-tokens : length g.tokens ≡ length h.tokens
  few-tokens = same_length token_of g.tokens h.tokens s.tokens.once t.tokens.once d.tokens

  pub refuses : (r : Refusal) → SamePassed (record { verdict = Err r; held = g }) (record { verdict = Err r; held = h })
  refuses r = record { verdict = refl; held = d }

  pub keeps : SamePassed (record { verdict = Ok tt; held = g }) (record { verdict = Ok tt; held = h })
  keeps = record { verdict = refl; held = d }

  -- ---- a destroy

  module _ (k : ℕ) (r : Resource) (e : live k h.holdings ≡ found r) where
    first : live k g.holdings ≡ found r
    first = d.resources k ∙ e

    same-without : SameMap handle_of (without k g.holdings) (without k h.holdings)
    same-without = same-removed handle_of k g.holdings.resources h.holdings.resources r s.holdings.resources.once t.holdings.resources.once e d.resources

    -- none of those left is 0
    some-without : lookup handle_of 0 (without k g.holdings) ≡ none
    some-without =
        lookup-removed-other handle_of k 0 (index_of handle_of k g.holdings.resources) g.holdings.resources s.holdings.resources.once refl
        (found-place handle_of k g.holdings.resources r first)
        (λ z. none-not-found r (sym s.holdings.resources.some ∙ (ap (λ n. live n g.holdings) z ∙ first)))
        ∙ s.holdings.resources.some

    once-without : (q : Progress) → SoundProgress es q → live k q.holdings ≡ found r → Once handle_of (without k q.holdings)
    once-without q u f =
        once-removed handle_of (index_of handle_of k q.holdings.resources) q.holdings.resources u.holdings.resources.once (found-place handle_of k q.holdings.resources r f)

    lowest-same : lowest_left r.lowest (without k g.holdings) ≡ lowest_left r.lowest (without k h.holdings)
    lowest-same =
        same-lowest r.lowest (without k g.holdings) (without k h.holdings) (once-without g s first) (once-without h t e) some-without
        same-without

    pub names-left-same : SameMap handle_of (names_left r (without k g.holdings)) (names_left r (without k h.holdings))
    names-left-same = rw lowest-same (by_test (shareable r.kind))
      where
        by_test : (b : Bool)
            → SameMap handle_of (pick b (rename r.lowest (lowest_left r.lowest (without k h.holdings)) (without k g.holdings)) (without k g.holdings))
            (pick b (rename r.lowest (lowest_left r.lowest (without k h.holdings)) (without k h.holdings)) (without k h.holdings))
        by_test true = same-renamed r.lowest (lowest_left r.lowest (without k h.holdings)) (without k g.holdings) (without k h.holdings) same-without
        by_test false = same-without

    pub tokens-left-same : SameMap token_of (tokens_left r (without k g.holdings) g.tokens) (tokens_left r (without k h.holdings) h.tokens)
    tokens-left-same = rw lowest-same (by_test (shareable r.kind))
      where
        by_test : (b : Bool)
            → SameMap token_of (pick b (rebind r.lowest (lowest_left r.lowest (without k h.holdings)) g.tokens) g.tokens)
            (pick b (rebind r.lowest (lowest_left r.lowest (without k h.holdings)) h.tokens) h.tokens)
        by_test true = same-rebound r.lowest (lowest_left r.lowest (without k h.holdings)) g.tokens h.tokens d.tokens
        by_test false = d.tokens

  -- ---- an import

  pub names-with-same : (k : ℕ) (r : Resource) → SameMap handle_of (names_with k r g.holdings.resources) (names_with k r h.holdings.resources)
  names-with-same k r =
      same-renamed r.lowest (lower k r.lowest) _ _ (same-pushed handle_of g.holdings.resources h.holdings.resources (under k r) d.resources)

  pub stores : (r : Resource) → SameMap handle_of (stored r g.holdings).resources (stored r h.holdings).resources
  stores r = same-pushed handle_of g.holdings.resources h.holdings.resources r d.resources

  pub more : (c : Record) → (recorded c g.holdings).records ≡ (recorded c h.holdings).records
  more c = rw d.records
