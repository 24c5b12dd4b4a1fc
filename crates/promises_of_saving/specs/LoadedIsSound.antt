-- A device that was loaded is as sound as one that calls made, whatever file it came from: that is what the rules of a file are for.
-- Assumes nothing.
use Rattle.std.specs.Prelude.{◌≡◌, List, [], ◌∷◌, ◌++◌, ℕ, ◌+◌, ◌≤◌, length}
use Rattle.std.proofs.Common.{◌∙◌}
use Rattle.rules.specs.Numbers.{most}
use Rattle.rules.specs.Lists.{lookup}
use Rattle.rules.specs.Lists.Found.{none, found}
use Rattle.rules.specs.Layouts.{word}
use Rattle.rules.specs.Names.{token_of, under}
use Rattle.rules.specs.Packets.{handle_of}
use Rattle.rules.specs.State.{State}
use Rattle.rules.specs.State.Work.{resting}
use Rattle.rules.specs.declared.Resource.{Resource}
use Rattle.rules.specs.declared.Token.{Token}
use Rattle.rules.specs.Saved.{count_place, head_bytes}
use Rattle.rules.specs.Loaded.{section_2, section_3, section_4}
use Rattle.rules.specs.declared.Form.{Form}
use Rattle.rule_laws.specs.Created.{AsCreated, SoundError}
use Rattle.rows.specs.Keys.{Once}
use Rattle.promises_of_packets.specs.Names.{found-key}
use Rattle.promises_of_packets.specs.Effects.{created-by-any-name}
use Rattle.promises_of_packets.specs.SoundNames.{SoundNames, Bindable, SoundTokens}
use Rattle.promises_of_packets.specs.Held.{Every, every-none, every-found}
use Rattle.promises_of_saving.specs.Rising.{Rises}
use Rattle.promises_of_saving.specs.Appended.{Free, lookup-front}
use Rattle.promises_of_saving.specs.GoodShared.{tokens_at, GoodShared}
use Rattle.promises_of_saving.specs.GoodFile.{GoodSections}
use Rattle.promises_of_saving.specs.LoadedResources.{loaded-rises, loaded-as-created, OneName, loaded-one-name}
use Rattle.promises_of_saving.specs.LoadedShared.{names-rise, names-are-others, tokens-rise}
use Rattle.promises_of_saving.specs.WrittenShared.{OtherNameOf}

-- a device at rest that is sound
pub record SoundAtRest (s : State) : Type 0 where
  -- "error code 0 or one of 01's, count 0 exactly with code 0 and then fence 0", and detail 0
  pub error : SoundError s.regs.error
  -- "at most 64 resources, handles non-zero", each once
  pub few : length s.belongings.resources ≤ most
  pub some : lookup handle_of 0 s.belongings.resources ≡ none
  pub once : Once handle_of s.belongings.resources
  -- "shapes, pitch and offset as in 01"
  pub created : Every AsCreated s.belongings.resources
  -- a lowest name is live, and "shared .. only on one-mip one-layer textures"
  pub names : SoundNames s.belongings.resources
  -- "tokens, bound to one or spent"
  pub tokens : SoundTokens s.belongings.resources s.belongings.tokens
  -- nothing is in work
  pub work : s.work ≡ resting

-- ---- resources under one name each, and other names of them

module _ (rs ns : List Resource) (own : Every OneName rs) (others : Every (OtherNameOf rs) ns) where
  pub its_own : (k : ℕ) (r : Resource) → lookup handle_of k rs ≡ found r → r.lowest ≡ k
  its_own k r e = every-found OneName handle_of k rs r e own ∙ found-key handle_of k rs r e

  pub an-other : (k : ℕ) (r : Resource) → lookup handle_of k ns ≡ found r → OtherNameOf rs r
  an-other k r e = every-found (OtherNameOf rs) handle_of k ns r e others

-- another name is as created, if the resources are
pub others-as-created : (rs ns : List Resource) → Every AsCreated rs → Every (OtherNameOf rs) ns → Every AsCreated ns
unfolding Every
others-as-created rs [] h k = every-none AsCreated
others-as-created rs (n ∷ ns) h k = (
  created-by-any-name n.handle n.lowest (under n.lowest n) (every-found AsCreated handle_of n.lowest rs (under n.lowest n) k.0.first h),
  others-as-created rs ns h k.1,
)

-- and is no other's handle
pub others-free : (rs ns : List Resource) → Every (OtherNameOf rs) ns → Every (Free handle_of rs) ns
unfolding Every
others-free rs [] k = every-none (Free handle_of rs)
others-free rs (n ∷ ns) k = (k.0.free, others-free rs ns k.1)

-- more names unbind no token
pub bindable-before : (rs ns : List Resource) (n : ℕ) → Bindable n rs → Bindable n (rs ++ ns)
bindable-before rs ns n b = record { what = b.what; here = lookup-front handle_of rs ns n b.what b.here; lowest = b.lowest; shape = b.shape }

-- ---- section 2, and what comes after it

module _ (f : Form) (b : List ℕ) (g : GoodSections f b) where
  pub section-2-rises : Rises handle_of 0 (section_2 f b)
  section-2-rises = loaded-rises (word b (count_place f)) b (head_bytes f) 0 g.resources

  pub section-2-one-name : Every OneName (section_2 f b)
  section-2-one-name = loaded-one-name (word b (count_place f)) b (head_bytes f) 0 g.resources

  pub section-2-created : Every AsCreated (section_2 f b)
  section-2-created = loaded-as-created (word b (count_place f)) b (head_bytes f) 0 g.resources

-- with those of sections 3 and 4
module _ (rs : List Resource) (b : List ℕ) (at : ℕ) (rise : Rises handle_of 0 rs) (own : Every OneName rs) (created : Every AsCreated rs) (g : GoodShared rs b at) where
  abbrev pub ns : List Resource
  ns = section_3 rs b at

  abbrev pub ts : List Token
  ts = section_4 b at

  pub ns-rise : Rises handle_of 0 ns
  ns-rise = names-rise rs own b (word b at) (at + 4) 0 g.names

  pub ts-rise : Rises token_of 0 ts
  ts-rise = tokens-rise (word b (tokens_at b at)) rs b (tokens_at b at + 4) 0 g.tokens

  pub section-3-others : Every (OtherNameOf rs) ns
  section-3-others = names-are-others rs own b (word b at) (at + 4) 0 g.names
