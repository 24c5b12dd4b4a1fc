-- A table's header: what its reading and its judging ask, and what a fine one says. Assumes nothing.
use Rattle.std.specs.Prelude.{◌≡◌, Bool, true, false, List, ℕ, ◌+◌, ◌*◌, ◌≤◌, ◌<◌, ltb, Err, Ok, Result}
use Rattle.std.proofs.Common.{le_trans, rules}
use borrow.Author.Tests.{lt-ltb, le-ltb, ltb-false}
use Rattle.rules.specs.Numbers.{most, table_magic}
use Rattle.rules.specs.Judging.{rule, Verdict}
use Rattle.rules.specs.Layouts.{word, table_header, table_header_size, entry_size}
use Rattle.rules.specs.Headers.{wrong_header}
use Rattle.rules.specs.Table.{header_rules, checked_table}
use Rattle.headers.specs.Header.{header-good}
use Rattle.rules.specs.declared.Refusal.{Refusal}
use Rattle.rules.specs.declared.Table.{Table}
use Rattle.rules.specs.declared.TableHeader.{TableHeader}
use Rattle.rules.specs.declared.Refusal.TheVariants.{BadTable, TooMany}
use Rattle.rule_laws.specs.Fine.{fine-first, fine-later, kept_rule}

-- the numbers of a good header are kept
abbrev pub headed : Verdict → Table → Result Table Refusal
headed (Ok _) t = Ok t
headed (Err r) t = Err r

-- ---- header_at

pub header_read : (m : List ℕ) (at a b c d e : ℕ) → a ≡ word m at → b ≡ word m (at + 4) → c ≡ word m (at + 8) → d ≡ word m (at + 12) → e ≡ word m (at + 16)
    → ◌≡◌ {A = TableHeader} (record { magic = a; version = b; size = c; count = d; stride = e }) (table_header m at)
unfolding table_header
header_read m at a b c d e p q r s t = rw (p, q, r, s, t)

pub ruleset reading_header = (header_read, rules)

-- ---- header_verdict

module _ (tablesize : ℕ) (h : TableHeader) where
  pub header-short : tablesize < table_header_size → Err BadTable ≡ header_rules tablesize h
  unfolding header_rules wrong_header
  header-short p = rw (lt-ltb _ _ p)

  module _ (wrong : Bool) (front : wrong ≡ wrong_header table_magic table_header_size tablesize h.magic h.version h.size) where
    pub header-wrong : wrong ≡ true → Err BadTable ≡ header_rules tablesize h
    unfolding header_rules
    header-wrong p = rw (← front, p)

    module _ (right : wrong ≡ false) where
      pub header-narrow : h.stride < entry_size → Err BadTable ≡ header_rules tablesize h
      unfolding header_rules
      header-narrow p = rw (← front, right, lt-ltb _ _ p)

      module _ (wide : entry_size ≤ h.stride) (end : ℕ) (at : (end ≡ table_header_size + h.count * h.stride) × (end + 4294967296 ≤ 18446744073709551616)) where
        pub header-crowded : h.size < end → Err BadTable ≡ header_rules tablesize h
        unfolding header_rules
        header-crowded p = rw (← front, right, le-ltb _ _ wide, ← at.0, lt-ltb _ _ p)

        module _ (room : end ≤ h.size) where
          pub header-many : most < h.count → Err TooMany ≡ header_rules tablesize h
          unfolding header_rules
          header-many p = rw (← front, right, le-ltb _ _ wide, ← at.0, le-ltb _ _ room, lt-ltb _ _ p)

          pub header-fine : h.count ≤ most → Ok tt ≡ header_rules tablesize h
          unfolding header_rules
          header-fine p = rw (← front, right, le-ltb _ _ wide, ← at.0, le-ltb _ _ room, le-ltb _ _ p)

pub ruleset judging_header = (header-wrong, header-narrow, header-crowded, header-many, header-fine, rules)

-- ---- check_header

module _ (m : List ℕ) (at tablesize : ℕ) where
  pub headed-short : tablesize < table_header_size → Err BadTable ≡ headed (header_rules tablesize (table_header m at)) (checked_table at (table_header m at))
  headed-short p = rw (← header-short tablesize (table_header m at) p)

  module _ (h : TableHeader) (read : h ≡ table_header m at) (v : Verdict) (judged : v ≡ header_rules tablesize h) where
    pub headed-good : v ≡ Ok tt
        → Ok (record { gpa = at; count = h.count; stride = h.stride }) ≡ headed (header_rules tablesize (table_header m at)) (checked_table at (table_header m at))
    headed-good told = rw (← read, ← judged, told)

    pub headed-bad : (r : Refusal) → v ≡ Err r → Err r ≡ headed (header_rules tablesize (table_header m at)) (checked_table at (table_header m at))
    headed-bad r told = rw (← read, ← judged, told)

pub ruleset checking_header = (headed-short, headed-good, headed-bad, rules)

-- ---- what a fine header says

pub record Sized (tablesize : ℕ) (h : TableHeader) : Type 0 where
  pub few : h.count ≤ most
  pub wide : entry_size ≤ h.stride
  pub room : table_header_size + h.count * h.stride ≤ tablesize

pub fine-sized : (tablesize : ℕ) (h : TableHeader) → header_rules tablesize h ≡ Ok tt → Sized tablesize h
unfolding header_rules
fine-sized tablesize h fine =
    let front = wrong_header table_magic table_header_size tablesize h.magic h.version h.size in
    let l₁ = fine-later (rule BadTable front) _ fine in
    let l₂ = fine-later (rule BadTable (ltb h.stride entry_size)) _ l₁ in
    let l₃ = fine-later (rule BadTable (ltb h.size (table_header_size + h.count * h.stride))) _ l₂ in
    let good = header-good table_magic table_header_size tablesize h.magic h.version h.size (kept_rule BadTable front (fine-first _ _ fine)) in
    let rows = ltb-false h.size (table_header_size + h.count * h.stride) (kept_rule BadTable (ltb h.size (table_header_size + h.count * h.stride)) (fine-first _ _ l₂)) in
    record {
      few = ltb-false most h.count (kept_rule TooMany (ltb most h.count) l₃);
      wide = ltb-false h.stride entry_size (kept_rule BadTable (ltb h.stride entry_size) (fine-first _ _ l₁));
      room = le_trans rows good.inside;
    }
