-- Two memories that agree on what an opening lists open alike. Assumes nothing.
use Rattle.std.specs.Prelude.{◌≡◌, Bool, true, List, ◌++◌, ℕ, length, Ok}
use borrow.Author.Tests.{le-leb}
use Rattle.std.proofs.Math.Dec.{leb}
use Rattle.rules.specs.Judging.{◌▹◌, Verdict}
use Rattle.rules.specs.Layouts.{descriptor, table_header_size, stream_header_size, descriptor_layout}
use Rattle.rules.specs.Ring.{descriptor_rules, range_rules}
use Rattle.rules.specs.Listed.{placed, Named, where_true, where_fine, ranges_listed, slot_listed, table_fine}
use Rattle.rules.specs.declared.Descriptor.{Descriptor}
use Rattle.promises_of_packets.specs.Held.{every_front, every_back}
use Rattle.promises_of_submissions.specs.Reads.{AgreeOn, SameIn, named-descriptor, named-table-header, named-stream-header}
use Rattle.promises_of_submissions.specs.OpeningRead.{RangesRead, SlotRead}

module _ (m m' : List ℕ) where
  -- what is listed where a test holds, and it does
  pub on-true : (t : Bool) (l : List Named) → t ≡ true → AgreeOn m m' (where_true t l) → AgreeOn m m' l
  on-true t l e s = rw e at s

  on_fine : (v : Verdict) (l : List Named) → v ≡ Ok tt → AgreeOn m m' (where_fine v l) → AgreeOn m m' l
  on_fine v l e s = rw e at s

  pub front_of : (xs ys : List Named) → AgreeOn m m' (xs ++ ys) → AgreeOn m m' xs
  front_of = every_front (SameIn m m')

  pub back-of : (xs ys : List Named) → AgreeOn m m' (xs ++ ys) → AgreeOn m m' ys
  back-of = every_back (SameIn m m')

  ranges-read : (d : Descriptor) → AgreeOn m m' (ranges_listed m d) → RangesRead m m' d
  unfolding ranges_listed
  ranges-read d s =
      record {
        table = λ h. named-table-header m m' d.table (on-true (leb table_header_size d.tablesize) _ (le-leb _ _ h) (front_of _ _ s));
        stream = λ f h.
            named-stream-header m m' d.cmd
            (on-true (leb stream_header_size d.cmdsize) _ (le-leb _ _ h) (on_fine (table_fine m d) _ f (back-of (where_true (leb table_header_size d.tablesize) _) _ s)));
      }

  pub slot_read : (at stride : ℕ) → AgreeOn m m' (slot_listed m at stride) → SlotRead m m' at stride
  unfolding slot_listed
  slot_read at stride s =
      record {
        slot = named-descriptor m m' at (front_of _ _ s);
        ranges = λ f g.
            ranges-read (descriptor m at)
            (on_fine (descriptor_rules stride (descriptor m at) ▹ range_rules (length m) (descriptor m at)) _ (rw (f, g)) (back-of (placed at descriptor_layout) _ s));
      }
