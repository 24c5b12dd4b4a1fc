-- A device that was loaded from a file of bytes, of either form, can be saved again: its numbers fit their fields, too. Assumes nothing.
use Rattle.std.specs.Prelude.{◌≡◌, Bool, true, false, List}
use Rattle.std.proofs.Math.Path.{refl}
use Prim.Native.Nat.{ℕ, zero, suc, ◌+◌, ◌^◌, ◌<◌}
use Rattle.std.proofs.Common.{arith}
use Rattle.machine.specs.Machine.{pick}
use Rattle.words.specs.Fields.{field_bound}
use Rattle.rules.specs.Lists.{Found, lookup}
use Rattle.rules.specs.Lists.Found.{none, found}
use Rattle.rules.specs.Layouts.{word, long}
use Rattle.rules.specs.Packets.{Belongings, handle_of, backed}
use Rattle.rules.specs.Shapes.{packed_size}
use Rattle.rules.specs.declared.Resource.{Resource}
use Rattle.rules.specs.Saved.{resource_bytes, memory_place, count_place, head_bytes, detail_place, name_bytes, token_bytes}
use Rattle.rules.specs.Loaded.{saved_shape, loaded_resource, loaded_resources, names_place, section_2, section_3, detail_in, named, loaded_names, loaded_tokens, loaded_belongings, loaded_sections}
use Rattle.rules.specs.declared.Form.{Form}
use Rattle.rules.specs.declared.Form.TheVariants.{One, Two}
use Rattle.texture_sizes.specs.Packed.{packed-small}
use Rattle.promises_of_packets.specs.Held.{Every, every-none, every-both, every-found}
use Rattle.promises_of_submissions.specs.LentBytes.{OfBytes, word_fits}
use Rattle.promises_of_saving.specs.GoodShared.{tokens_at}
use Rattle.promises_of_saving.specs.LoadedResources.{by_kind}
use Rattle.promises_of_saving.specs.Savable.{FitsResource, FitsToken, Fits}

either-fits : (t : Bool) (v n : ℕ) → v < n → 0 < n → pick t v 0 < n
either-fits true v n h z = h
either-fits false v n h z = z

record FitsBelongings (g : Belongings) : Type 0 where
  resources : Every FitsResource g.resources
  tokens : Every FitsToken g.tokens

module _ (b : List ℕ) (o : OfBytes b) where
  long-fits : (at : ℕ) → long b at < 2 ^ 64
  long-fits at = field_bound 8 b at o

  word_of : (at : ℕ) → word b at < 2 ^ 32
  word_of at = word_fits b at o

  resource-fits : (at : ℕ) → FitsResource (loaded_resource b at)
  resource-fits at =
      by_kind b at FitsResource
      (λ e. record {
        handle = word_of at;
        kind = omega arith;
        bytes = long-fits (at + 8);
        pitch = either-fits (backed (word b (at + 40))) 0 (2 ^ 32) (omega arith) (omega arith);
        backing = word_of (at + 40);
        offset = either-fits (backed (word b (at + 40))) (word b (at + 44)) (2 ^ 32) (word_of (at + 44)) (omega arith);
        lowest = word_of at;
      })
      (λ e. record {
        handle = word_of at;
        kind = record { format = word_of (at + 16); width = word_of (at + 20); height = word_of (at + 24); mips = word_of (at + 28); layers = word_of (at + 32) };
        bytes = packed-fits at;
        pitch = either-fits (backed (word b (at + 40))) (word b (at + 36)) (2 ^ 32) (word_of (at + 36)) (omega arith);
        backing = word_of (at + 40);
        offset = either-fits (backed (word b (at + 40))) (word b (at + 44)) (2 ^ 32) (word_of (at + 44)) (omega arith);
        lowest = word_of at;
      })
    where
      packed-fits : (at : ℕ) → pick (backed (word b (at + 40))) (packed_size (saved_shape b at) (word b (at + 36))) 0 < 2 ^ 64
      packed-fits at =
          let small : packed_size (saved_shape b at) (word b (at + 36)) < 2 ^ 58 = packed-small (saved_shape b at) (word b (at + 36)) (word_of (at + 36)) in
          either-fits (backed (word b (at + 40))) (packed_size (saved_shape b at) (word b (at + 36))) (2 ^ 64) (omega arith) (omega arith)

  resources-fit : (n at : ℕ) → Every FitsResource (loaded_resources n b at)
  unfolding loaded_resources Every
  resources-fit zero at = every-none FitsResource
  resources-fit (suc n) at = (resource-fits at, resources-fit n (at + resource_bytes))

  -- ---- other names and tokens

  -- another name of a resource that fits
  named-fits : (at : ℕ) (f : Found Resource) → ((r : Resource) → f ≡ found r → FitsResource r) → Every FitsResource (named (word b at) f)
  unfolding Every
  named-fits at none h = every-none FitsResource
  named-fits at (found r) h =
      let k : FitsResource r = h r refl in (
        record {
          handle = word_of at;
          kind = k.kind;
          bytes = k.bytes;
          pitch = k.pitch;
          backing = k.backing;
          offset = k.offset;
          lowest = k.lowest;
        },
        every-none FitsResource,
      )

  names-fit : (rs : List Resource) → Every FitsResource rs → (n at : ℕ) → Every FitsResource (loaded_names n rs b at)
  unfolding loaded_names
  names-fit rs h zero at = every-none FitsResource
  names-fit rs h (suc n) at =
      every-both FitsResource (named (word b at) (lookup handle_of (word b (at + 4)) rs)) (loaded_names n rs b (at + name_bytes))
      (named-fits at (lookup handle_of (word b (at + 4)) rs) (λ r e. every-found FitsResource handle_of (word b (at + 4)) rs r e h))
      (names-fit rs h n (at + name_bytes))

  tokens-fit : (n at : ℕ) → Every FitsToken (loaded_tokens n b at)
  unfolding loaded_tokens Every
  tokens-fit zero at = every-none FitsToken
  tokens-fit (suc n) at = (record { name = word_of (at + 8); token = long-fits at }, tokens-fit n (at + token_bytes))

  module _ (f : Form) where
    abbrev names_at : ℕ
    names_at = names_place f (word b (count_place f))

    section-2-fits : Every FitsResource (section_2 f b)
    section-2-fits = resources-fit (word b (count_place f)) (head_bytes f)

  belongings-fit : (f : Form) → FitsBelongings (loaded_belongings f (section_2 f b) b (names_at f))
  belongings-fit One = record { resources = section-2-fits One; tokens = every-none FitsToken }
  belongings-fit Two =
      record {
        resources = every-both FitsResource (section_2 Two b) (section_3 (section_2 Two b) b (names_at Two)) (section-2-fits Two)
            (names-fit (section_2 Two b) (section-2-fits Two) (word b (names_at Two)) (names_at Two + 4));
        tokens = tokens-fit (word b (tokens_at b (names_at Two))) (tokens_at b (names_at Two) + 4);
      }

  detail-fits : (f : Form) → detail_in f b < 2 ^ 32
  detail-fits One = omega arith
  detail-fits Two = word_of detail_place

  pub sections-fit : (f : Form) → Fits (loaded_sections f b)
  unfolding loaded_sections
  sections-fit f =
      record {
        memory = long-fits (memory_place f);
        regs = record {
          ring = long-fits 20;
          ringsize = word_of 28;
          fencepage = long-fits 36;
          completed = long-fits 44;
          irqenable = word_of 56;
          error = record { code = word_of 60; fence = long-fits 64; count = word_of 72; detail = detail-fits f };
        };
        resources = (belongings-fit f).resources;
        tokens = (belongings-fit f).tokens;
      }
