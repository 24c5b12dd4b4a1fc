-- Wish 5's theorems are of something: streams that export, import, release and destroy, judged by the rules, each by computation; and a guest that
-- sends one of them. Assumes nothing.
use Rattle.std.specs.Prelude.{◌≡◌, refl, Bool, true, false, List, [], ◌∷◌, ◌++◌, ℕ}
use Rattle.rules.specs.Numbers.{create_texture, export_surface, import_surface, release_token}
use Rattle.rules.specs.Bytes.{le, bytes_of}
use Rattle.rules.specs.Lists.{over, removed, lookup, index_of}
use Rattle.rules.specs.Judging.Finding.{fine, broken}
use Rattle.rules.specs.Layouts.{texture_fields, destroy_fields, export_fields, import_fields, release_fields}
use Rattle.rules.specs.Shapes.{block_bytes, halvings, full_chain, good_shape}
use Rattle.rules.specs.Names.{rename, rebind, lowest_left}
use Rattle.rules.specs.Packets.{create_hosted, create, on_texture_packet, on_destroy_packet, on_export_packet, bound, on_import_packet, on_release_packet, apply, Progress, target_after, tokens_after, pass}
use Rattle.rules.specs.Stream.{known, least_size, frame_rules, frame_of, packet_of, cut}
use Rattle.rules.specs.State.{World, made, with_regs, registers_of, no_error, working, nothing_owned}
use Rattle.rules.specs.State.Work.{waiting}
use Rattle.rules.specs.Unsliced.{judge_packets, submitted}
use Rattle.rules.specs.declared.Resource.{Resource}
use Rattle.rules.specs.declared.Kind.TheVariants.{Texture}
use Rattle.promises_of_units.specs.Called.{after}
use Rattle.promises_of_units.specs.Called.Call.{writes, runs, answers}
use Rattle.promises.specs.Witness.{in_bytes, ring_words}
use Rattle.promises_of_sharing.specs.TokensOverCalls.{CalledOn}
use Rattle.promises_of_sharing.specs.TokensOverCalls.CalledOn.{not_yet, calls-on}
use Rattle.promises.specs.StateWitness.{textured, destroyed, stream_with, judged_words, the_shape, the_job}

-- ---- packets, word by word; every token is 7 + 2^32, or has another low word

unfoldable pub exported : ℕ → ℕ → List ℕ
exported handle low = export_surface ∷ 24 ∷ handle ∷ 0 ∷ low ∷ 1 ∷ []

unfoldable pub imported : ℕ → ℕ → List ℕ
imported handle low = import_surface ∷ 24 ∷ handle ∷ 0 ∷ low ∷ 1 ∷ []

unfoldable pub released : ℕ → List ℕ
released low = release_token ∷ 16 ∷ low ∷ 1 ∷ []

-- token 0
unfoldable pub exported_as_0 : ℕ → List ℕ
exported_as_0 handle = export_surface ∷ 24 ∷ handle ∷ 0 ∷ 0 ∷ 0 ∷ []

-- a texture of two mips
unfoldable pub mipped : ℕ → List ℕ
mipped handle = create_texture ∷ 56 ∷ handle ∷ 0 ∷ 1 ∷ 64 ∷ 32 ∷ 2 ∷ 1 ∷ 0 ∷ 0 ∷ 0 ∷ 0 ∷ 0 ∷ []

-- the texture by one name
abbrev pub named : ℕ → ℕ → Resource
named handle lowest = record { handle = handle; kind = Texture the_shape; bytes = 0; pitch = 0; backing = 0; offset = 0; lowest = lowest }

abbrev pub the_token : ℕ
the_token = 4294967303

-- ---- export as 5, import as 3: then 3 is the lowest name, and 5 and the token follow

unfoldable pub shared : List ℕ
shared = textured 5 ++ (exported 5 7 ++ imported 3 7)

abbrev pub both_names : Progress
both_names =
    record {
      holdings = record { resources = named 5 3 ∷ named 3 3 ∷ []; records = [] };
      target = 0;
      tokens = record { name = 3; token = the_token } ∷ [];
    }

-- with the first name destroyed
abbrev pub second_name : Progress
second_name = record { holdings = record { resources = named 3 3 ∷ []; records = [] }; target = 0; tokens = record { name = 3; token = the_token } ∷ [] }

-- with the lower one destroyed
abbrev pub first_name : Progress
first_name = record { holdings = record { resources = named 5 5 ∷ []; records = [] }; target = 0; tokens = record { name = 5; token = the_token } ∷ [] }

-- with both destroyed
abbrev pub no_name_left : Progress
no_name_left = record { holdings = record { resources = []; records = [] }; target = 0; tokens = record { name = 0; token = the_token } ∷ [] }

pub record SharedStreams : Type 0 where
  pub two-names : judged_words shared ≡ record { finding = fine; held = both_names; count = 3 }
  pub first-destroyed : judged_words (shared ++ destroyed 5) ≡ record { finding = fine; held = second_name; count = 4 }
  pub lower-destroyed : judged_words (shared ++ destroyed 3) ≡ record { finding = fine; held = first_name; count = 4 }
  pub last-destroyed : judged_words (shared ++ (destroyed 5 ++ destroyed 3)) ≡ record { finding = fine; held = no_name_left; count = 5 }
  -- the same token on the same resource again, by its other name, changes nothing
  pub again : judged_words (shared ++ exported 3 7) ≡ record { finding = fine; held = both_names; count = 4 }
  -- released, it is spent; the names stay
  pub released-one : (judged_words (shared ++ released 7)).held ≡ record { holdings = both_names.holdings; target = 0; tokens = record { name = 0; token = the_token } ∷ [] }
  -- "Import and release give 29 for a token not bound to a live resource": never used, released, or with its resource gone
  pub never-used : (judged_words (shared ++ imported 4 8)).finding ≡ broken (record { code = 29; place = 128 })
  pub import-released : (judged_words (shared ++ (released 7 ++ imported 4 7))).finding ≡ broken (record { code = 29; place = 144 })
  pub release-twice : (judged_words (shared ++ (released 7 ++ released 7))).finding ≡ broken (record { code = 29; place = 144 })
  pub import-gone : (judged_words (shared ++ (destroyed 5 ++ (destroyed 3 ++ imported 4 7)))).finding ≡ broken (record { code = 29; place = 160 })
  -- "Export gives 28 for token 0, a token ever bound to another resource or one released"
  pub token-0 : (judged_words (textured 5 ++ exported_as_0 5)).finding ≡ broken (record { code = 28; place = 80 })
  pub of_another : (judged_words (shared ++ (textured 4 ++ exported 4 7))).finding ≡ broken (record { code = 28; place = 184 })
  pub export-released : (judged_words (shared ++ (released 7 ++ exported 5 7))).finding ≡ broken (record { code = 28; place = 144 })
  -- "The handle check .. comes first, then shape, token": a handle that is not live, and a texture of two mips, both with token 0
  pub not_live : (judged_words (exported_as_0 5)).finding ≡ broken (record { code = 18; place = 24 })
  pub two-mips : (judged_words (mipped 5 ++ exported_as_0 5)).finding ≡ broken (record { code = 20; place = 80 })
  -- an import's handle that is live or 0, with a token never used
  pub import-live : (judged_words (shared ++ imported 3 8)).finding ≡ broken (record { code = 18; place = 128 })
  pub import-0 : (judged_words (shared ++ imported 0 8)).finding ≡ broken (record { code = 18; place = 128 })

pub shared_streams : SharedStreams
unfolding exported imported released exported_as_0 mipped shared textured destroyed stream_with judged_words in_bytes le bytes_of lookup index_of removed over rename rebind lowest_left texture_fields destroy_fields export_fields import_fields release_fields known least_size frame_rules frame_of packet_of cut block_bytes halvings full_chain good_shape create_hosted create on_texture_packet on_destroy_packet on_export_packet bound on_import_packet on_release_packet apply target_after tokens_after pass judge_packets
shared_streams =
    record {
      two-names = refl;
      first-destroyed = refl;
      lower-destroyed = refl;
      last-destroyed = refl;
      again = refl;
      released-one = refl;
      never-used = refl;
      import-released = refl;
      release-twice = refl;
      import-gone = refl;
      token-0 = refl;
      of_another = refl;
      export-released = refl;
      not_live = refl;
      two-mips = refl;
      import-live = refl;
      import-0 = refl;
    }

-- ---- a guest that sends this, with no table: the host's answer makes the name and the token the device's

unfoldable pub sharing : List ℕ
sharing = shared ++ destroyed 5

unfoldable pub sharing_guest : List ℕ
sharing_guest = in_bytes (ring_words ++ (64 ∷ 0 ∷ 0 ∷ 0 ∷ 128 ∷ 0 ∷ 144 ∷ 0 ∷ 0 ∷ 0 ∷ 0 ∷ 0 ∷ 7 ∷ 0 ∷ 0 ∷ 0 ∷ [])) ++ stream_with sharing

unfoldable pub sharing_asked : World
sharing_asked =
    record {
      state = with_regs (registers_of 0 128 true 0 0 false false 0 no_error true) (made 272);
      mem = sharing_guest;
    }

unfoldable pub sharing_waits : World
sharing_waits = working (waiting the_job [] second_name) sharing_asked

pub record SharingGuest : Type 0 where
  -- accepted after its opening and four packets; the device has no token yet
  pub accepted : submitted sharing_asked ≡ record { state = sharing_waits; units = 5 }
  pub run-accepted : after (runs 65535) sharing_asked ≡ sharing_waits
  pub none_yet : sharing_waits.state.belongings ≡ nothing_owned
  -- good, and failed: "A submission refused or answered failed leaves the tokens, too, as they were before it"
  pub good : (after (answers true 0) sharing_waits).state.belongings ≡ record { resources = named 3 3 ∷ []; tokens = record { name = 3; token = the_token } ∷ [] }
  pub failed : (after (answers false 0) sharing_waits).state.belongings ≡ nothing_owned
  -- "forgotten at reset"
  pub forgotten : (after (writes 0x10c 3) (after (answers true 0) sharing_waits)).state.belongings ≡ nothing_owned

-- ---- the names that count: of this submission 3, which it imports, and 5, which it destroys, with "good"; none with "failed"

unfoldable pub answered-on : (good : Bool) → CalledOn sharing_asked.state (after (answers good 0) (after (runs 65535) sharing_asked)).state
answered-on good = calls-on (calls-on not_yet (runs 65535) refl sharing_asked.mem) (answers good 0) refl (after (runs 65535) sharing_asked).mem
