-- The theorems of specs/WrittenHead.antt, and what they rest on. Assumes nothing.
use Rattle.std.specs.Prelude.{◌≡◌, refl, ◌++◌, ℕ, ◌+◌, ◌*◌, ◌%◌, ◌^◌, ◌≤◌, ◌<◌, length, get_or}
use Rattle.std.proofs.Common.{sym, ap, ◌∙◌, zero-add, arith}
use Rattle.rules.specs.Layouts.{word}
use Rattle.rules.specs.Registers.{bit, status}
use Rattle.rules.specs.State.{State}
use Rattle.rules.specs.Saved.{section_1_count, memory_place, count_place, head_bytes, firsts_of}
use Rattle.rules.specs.Loaded.{good_code, detail_in}
use Rattle.rules.specs.declared.Form.{Form}
use Rattle.rules.specs.declared.Form.TheVariants.{One, Two}
use Rattle.promises_of_saving.specs.FileWords.{word-of-file}
use Rattle.promises_of_saving.specs.GoodFile.{GoodHead}
use Rattle.promises_of_saving.specs.Savable.{Savable}
use Rattle.promises_of_saving.specs.WrittenResources.{Reads, reads_first, reads-later, word_back, long-back}
use Rattle.promises_of_saving.proofs.SavedParts.{few-names}
use Rattle.promises_of_saving.specs.SavedFile.{register_fields, detail_fields, memory_fields, sections_fields, saved_sections, length-detail, length-sections}
use Rattle.promises_of_saving.specs.WrittenHead.{HeadRead, after_head, b, bit-small, saved_detail}

-- ---- the head

module _ (f : Form) (s : State) (v : Savable s) where
  reads : (i : ℕ) → word (b f s v) (4 * i) ≡ get_or (sections_fields f s) i 0 % 2 ^ 32
  reads i = word-of-file (sections_fields f s) i

  reads-memory : Reads (b f s v) (memory_place f) (memory_fields s ++ (after_head f s v))
  reads-memory =
      reads-later (b f s v) 76 (memory_place f) (detail_fields f s) (memory_fields s ++ (after_head f s v)) (omega (arith, length-detail f s))
      (reads-later (b f s v) 0 76 (register_fields f s) (detail_fields f s ++ (memory_fields s ++ (after_head f s v))) refl (λ i. ap (word (b f s v)) (zero-add (4 * i)) ∙ reads i))

  pub reads-resources : Reads (b f s v) (head_bytes f) (after_head f s v)
  reads-resources = reads-later (b f s v) (memory_place f) (head_bytes f) (memory_fields s) (after_head f s v) (omega arith) reads-memory

  pub head_read : HeadRead f (b f s v) s
  head_read =
      record {
        section = word_back (word (b f s v) 0) (section_1_count f) (reads 0) (small f);
        magic = reads 1;
        its-version = reads 2;
        its-features = reads 3;
        more-features = reads 4;
        ring = long-back (b f s v) 20 24 s.regs.ring (near 20 (omega arith)) refl (reads 5) (reads 6) v.fits.regs.ring;
        ringsize = word_back (word (b f s v) 28) s.regs.ringsize (reads 7) v.fits.regs.ringsize;
        control = word_back (word (b f s v) 32) (bit s.regs.enabled) (reads 8) (omega (arith, bit-small s.regs.enabled));
        page = long-back (b f s v) 36 40 s.regs.fencepage (near 36 (omega arith)) refl (reads 9) (reads 10) v.fits.regs.fencepage;
        completed = long-back (b f s v) 44 48 s.regs.completed (near 44 (omega arith)) refl (reads 11) (reads 12) v.fits.regs.completed;
        bits = word_back (word (b f s v) 52) (status s.regs) (reads 13) (omega (arith, bit-small s.regs.fenced, bit-small s.regs.failed));
        irqenable = word_back (word (b f s v) 56) s.regs.irqenable (reads 14) v.fits.regs.irqenable;
        code = word_back (word (b f s v) 60) s.regs.error.code (reads 15) v.fits.regs.error.code;
        fence = long-back (b f s v) 64 68 s.regs.error.fence (near 64 (omega arith)) refl (reads 16) (reads 17) v.fits.regs.error.fence;
        count = word_back (word (b f s v) 72) s.regs.error.count (reads 18) v.fits.regs.error.count;
        detail = detail-read f;
        memory = long-back (b f s v) (memory_place f) (memory_place f + 4) s.memory (near (memory_place f) (omega arith)) refl
            (reads_first (b f s v) (memory_place f) (memory_fields s ++ (after_head f s v)) reads-memory) (reads-memory 1) v.fits.memory;
        flag = word_back (word (b f s v) (memory_place f + 8)) (bit s.regs.doorbell) (reads-memory 2) (omega (arith, bit-small s.regs.doorbell));
        number = word_back (word (b f s v) (count_place f)) (length (firsts_of s)) (ap (word (b f s v)) count-here ∙ reads-memory 3) (omega (arith, few-names s v));
      }
    where
      near : (at : ℕ) → at ≤ count_place f → at + 4 ≤ length (b f s v)
      near at h = omega (arith, length-sections f s)

      count-here : count_place f ≡ memory_place f + 12
      count-here = omega arith

      small : (f : Form) → section_1_count f < 2 ^ 32
      small One = omega arith
      small Two = omega arith

      detail-read : (f : Form) → detail_in f (saved_sections f s) ≡ saved_detail f s
      detail-read One = refl
      detail-read Two = word_back (word (saved_sections Two s) 76) s.regs.error.detail (word-of-file (sections_fields Two s) 19) v.fits.regs.error.detail

  -- a code of 0 has no detail
  none-without-code : (f : Form) → s.regs.error.code ≡ 0 → saved_detail f s ≡ 0
  none-without-code One e = refl
  none-without-code Two e = v.error.detail e

  pub good-head-written : GoodHead f (b f s v)
  good-head-written =
      let h : HeadRead f (b f s v) s = head_read in
      record {
        whole = omega (arith, length-sections f s);
        section = h.section;
        magic = h.magic;
        its-version = h.its-version;
        its-features = h.its-features;
        more-features = h.more-features;
        control = omega (arith, h.control, bit-small s.regs.enabled);
        status = omega (arith, h.bits, bit-small s.regs.fenced, bit-small s.regs.failed);
        code = ap good_code h.code ∙ v.error.code;
        count = rw (h.code, h.fence, h.count) v.error.rest;
        detail = λ e. h.detail ∙ none-without-code f (sym h.code ∙ e);
        flag = omega (arith, h.flag, bit-small s.regs.doorbell);
        few = omega (arith, h.number, few-names s v);
      }
