-- One packet, put to two submissions that hold the same: it comes to the same, and they hold the same after it. Assumes nothing.
use Rattle.std.specs.Prelude.{◌≡◌, Bool, true, false, not, ◌&&◌, ◌||◌, List, ℕ, ◌+◌, ◌%◌, length, Err}
use Rattle.std.proofs.Math.Path.{refl, ap}
use Rattle.std.proofs.Common.{◌∙◌}
use Rattle.std.proofs.Math.Dec.{ltb, leb, eqb}
use Rattle.machine.specs.Machine.{pick}
use Rattle.rules.specs.Numbers.{most, most_tokens, backs, reads, writes}
use Rattle.rules.specs.Lists.{Found, lookup}
use Rattle.rules.specs.Lists.Found.{none, found}
use Rattle.rules.specs.Names.{token_of, shareable, names_left, names_with, of_another, is_new}
use Rattle.rules.specs.StatePackets.{bad_sides, clip_of}
use Rattle.rules.specs.Table.{matching}
use Rattle.rules.specs.Packets.{Holdings, Outcome, accepted, refuse, full, handle_of, live, is_live, on_live, on_kind, on_buffer, on_entry, backed, range_of, recorded, hand_out, stored, create_hosted, create_backed, create, without, on_destroy_packet, on_dirty_packet, write_back, on_copy_packet, live_texture, on_texture, on_target_packet, on_scissor_packet, on_export_packet, bound_in, bound, on_bound, on_import_packet, on_release_packet, Progress, Passed, passed}
use Rattle.rules.specs.declared.Entry.{Entry}
use Rattle.rules.specs.declared.Resource.{Resource}
use Rattle.rules.specs.declared.Token.{Token}
use Rattle.rules.specs.declared.Record.{Record}
use Rattle.rules.specs.declared.Shape.{Shape}
use Rattle.rules.specs.declared.DestroyResource.{DestroyResource}
use Rattle.rules.specs.declared.DirtyRange.{DirtyRange}
use Rattle.rules.specs.declared.CopyBuffer.{CopyBuffer}
use Rattle.rules.specs.declared.SetTarget.{SetTarget}
use Rattle.rules.specs.declared.SetScissor.{SetScissor}
use Rattle.rules.specs.declared.ExportSurface.{ExportSurface}
use Rattle.rules.specs.declared.ImportSurface.{ImportSurface}
use Rattle.rules.specs.declared.ReleaseToken.{ReleaseToken}
use Rattle.rules.specs.declared.Refusal.{Refusal}
use Rattle.rules.specs.declared.Kind.{Kind}
use Rattle.rules.specs.declared.Kind.TheVariants.{Buffer as BufferKind, Texture as TextureKind}
use Rattle.rules.specs.declared.Packet.{Packet}
use Rattle.rules.specs.declared.Refusal.TheVariants.{BadHandle, TooMany, BadShape, NotInTable, PastEntry, ReadOnly, PastResource, HostBacked, BadCopy, BadToken, UnboundToken, BadState}
use Rattle.promises_of_packets.specs.Held.{SoundProgress, texture-same}
use Rattle.promises_of_same_desks.specs.Maps.{SameMap}

-- two submissions hold the same: every handle means the same resource or none, every token the same or none, the records are the same in the same
-- order, and so is the target
pub record SameHeld (g h : Progress) : Type 0 where
  pub resources : SameMap handle_of g.holdings.resources h.holdings.resources
  pub records : g.holdings.records ≡ h.holdings.records
  pub target : g.target ≡ h.target
  pub tokens : SameMap token_of g.tokens h.tokens

-- a packet comes to the same in both
pub record SamePassed (o q : Passed) : Type 0 where
  pub verdict : o.verdict ≡ q.verdict
  pub held : SameHeld o.held q.held

-- ---- the rules of a packet, one by one, over two holdings

module _ (P : Outcome → Outcome → Type 0) (g h : Holdings)
    (refuses : (r : Refusal) → P (record { verdict = Err r; held = g }) (record { verdict = Err r; held = h })) where
  pub refuse-both : (n : Refusal) (s t : Bool) (x y : Outcome) → s ≡ t → P x y → P (refuse n s g x) (refuse n t h y)
  refuse-both n s true x y e k = rw e (refuses n)
  refuse-both n s false x y e k = rw e k

  live_both : (e f : Found Resource) (x y : Resource → Outcome) → e ≡ f → ((r : Resource) → f ≡ found r → P (x r) (y r)) → P (on_live e g x) (on_live f h y)
  live_both e none x y s k = rw s (refuses BadHandle)
  live_both e (found r) x y s k = rw s (k r refl)

  kind-both : (k : Kind) (x y : Outcome) → P x y → P (on_kind k g x) (on_kind k h y)
  kind-both BufferKind x y p = p
  kind-both (TextureKind s) x y p = refuses BadHandle

  buffer-both : (e f : Found Resource) (x y : Resource → Outcome) → e ≡ f → ((r : Resource) → P (x r) (y r)) → P (on_buffer e g x) (on_buffer f h y)
  buffer-both e f x y s k =
      live_both e f (λ r. on_kind r.kind g (x r)) (λ r. on_kind r.kind h (y r)) s (λ r _. kind-both r.kind (x r) (y r) (k r))

  entry-both : (f : Found Entry) (x y : Entry → Outcome) → ((e : Entry) → P (x e) (y e)) → P (on_entry f g x) (on_entry f h y)
  entry-both none x y k = refuses NotInTable
  entry-both (found e) x y k = k e

  texture-both : (n : Refusal) (e f : Found Shape) (x y : Shape → Outcome) → e ≡ f → ((s : Shape) → P (x s) (y s)) → P (on_texture n e g x) (on_texture n f h y)
  texture-both n e none x y s k = rw s (refuses n)
  texture-both n e (found t) x y s k = rw s (k t)

  bound-both : (e f : Found Resource) (x y : Resource → Outcome) → e ≡ f → ((r : Resource) → f ≡ found r → P (x r) (y r)) → P (on_bound e g x) (on_bound f h y)
  bound-both e none x y s k = rw s (refuses UnboundToken)
  bound-both e (found r) x y s k = rw s (k r refl)

  pick-both : (t : Bool) (a b x y : Outcome) → P a b → P x y → P (pick t a x) (pick t b y)
  pick-both true a b x y p q = p
  pick-both false a b x y p q = q

  -- ---- each kind of packet

  module _ (same : SameMap handle_of g.resources h.resources) (recs : g.records ≡ h.records) where
    full-records : full g.records ≡ full h.records
    full-records = ap (λ xs. leb most (length xs)) recs

    module _ (es : List Entry) (few : length g.resources ≡ length h.resources) (stores : (r : Resource) → P (accepted (stored r g)) (accepted (stored r h)))
        (backs-up : (r : Resource) (c : Record) → P (accepted (recorded c (stored r g))) (accepted (recorded c (stored r h)))) where
      pub create-both : (good : Bool) (r : Resource) → P (create es g good r) (create es h good r)
      unfolding create create_hosted create_backed
      create-both good r =
          refuse-both BadHandle _ _ _ _ (ap (λ f. eqb r.handle 0 || is_live f) (same r.handle))
          (refuse-both BadShape (not good) (not good) _ _ refl
          (pick-both (backed r.backing) _ _ _ _
          (entry-both (matching r.backing es) _ _ (λ e.
          refuse-both PastEntry (ltb e.size (r.offset + r.bytes)) _ _ _ refl
          (refuse-both TooMany (full g.resources) (full h.resources) _ _ (ap (leb most) few)
          (refuse-both TooMany (full g.records) (full h.records) _ _ full-records
          (backs-up r (range_of backs r e 0 r.bytes))))))
          (refuse-both TooMany (full g.resources) (full h.resources) _ _ (ap (leb most) few) (stores r))))

    module _ (es : List Entry) (keeps : P (accepted g) (accepted h)) (hands : (c : Record) → P (accepted (recorded c g)) (accepted (recorded c h))) where
      handed-both : (c : Record) → P (hand_out c g) (hand_out c h)
      unfolding hand_out
      handed-both c = pick-both (eqb c.length 0) _ _ _ _ keeps (refuse-both TooMany (full g.records) (full h.records) _ _ full-records (hands c))

      pub dirty-both : (c : DirtyRange) → P (on_dirty_packet es g c) (on_dirty_packet es h c)
      unfolding on_dirty_packet
      dirty-both c =
          live_both (live c.handle g) (live c.handle h) _ _ (same c.handle) (λ r _.
          refuse-both HostBacked (not (backed r.backing)) _ _ _ refl
          (refuse-both PastResource (ltb r.bytes (c.offset + c.size)) _ _ _ refl
          (entry-both (matching r.backing es) _ _ (λ e.
          refuse-both PastEntry (ltb e.size (r.offset + (c.offset + c.size))) _ _ _ refl
          (handed-both (range_of reads r e c.offset c.size))))))

      pub copy-both : (c : CopyBuffer) → P (on_copy_packet es g c) (on_copy_packet es h c)
      unfolding on_copy_packet write_back
      copy-both c =
          buffer-both (live c.dst g) (live c.dst h) _ _ (same c.dst) (λ d.
          buffer-both (live c.src g) (live c.src h) _ _ (same c.src) (λ s.
          refuse-both BadCopy (eqb c.dst c.src || ltb 1 c.flags) _ _ _ refl
          (refuse-both PastResource (ltb d.bytes (c.dstoffset + c.size)) _ _ _ refl
          (refuse-both PastResource (ltb s.bytes (c.srcoffset + c.size)) _ _ _ refl
          (pick-both (eqb c.flags 1) _ _ _ _
          (refuse-both HostBacked (not (backed d.backing)) _ _ _ refl
          (entry-both (matching d.backing es) _ _ (λ e.
          refuse-both PastEntry (ltb e.size (d.offset + (c.dstoffset + c.size))) _ _ _ refl
          (refuse-both ReadOnly (eqb (e.flags % 2) 1) _ _ _ refl
          (handed-both (range_of writes d e c.dstoffset c.size))))))
          keeps)))))

    pub destroy-both : (c : DestroyResource)
        → ((r : Resource) → live c.handle h ≡ found r
        → P (accepted (record { resources = names_left r (without c.handle g); records = g.records })) (accepted (record { resources = names_left r (without c.handle h); records = h.records })))
        → P (on_destroy_packet g c) (on_destroy_packet h c)
    unfolding on_destroy_packet
    destroy-both c removes = live_both (live c.handle g) (live c.handle h) _ _ (same c.handle) removes

    pub target-both : (c : SetTarget) → P (accepted g) (accepted h) → P (on_target_packet g c) (on_target_packet h c)
    unfolding on_target_packet
    target-both c keeps = texture-both BadHandle _ _ _ _ (texture-same c.handle g h (same c.handle)) (λ s. keeps)

    pub scissor-both : (a b : ℕ) (c : SetScissor) → a ≡ b → ((k : Record) → P (accepted (recorded k g)) (accepted (recorded k h)))
        → P (on_scissor_packet a g c) (on_scissor_packet b h c)
    unfolding on_scissor_packet
    scissor-both a b c e hands =
        texture-both BadState _ _ _ _ (ap (λ k. live_texture k g) e ∙ texture-same b g h (same b)) (λ s.
        refuse-both BadState (bad_sides c) _ _ _ refl
        (refuse-both TooMany (full g.records) (full h.records) _ _ full-records (hands (clip_of s c))))

    module _ (ts us : List Token) (tokens : SameMap token_of ts us) where
      pub bound-same : (token : ℕ) → bound token ts g.resources ≡ bound token us h.resources
      unfolding bound
      bound-same token = ap (λ f. bound_in f g.resources) (tokens token) ∙ by_found (lookup token_of token us)
        where
          by_found : (f : Found Token) → bound_in f g.resources ≡ bound_in f h.resources
          by_found none = refl
          by_found (found t) = ap (pick (eqb t.name 0) none) (same t.name)

      pub export-both : (c : ExportSurface) → length ts ≡ length us → ((r : Resource) → live c.handle h ≡ found r → P (accepted g) (accepted h))
          → P (on_export_packet ts g c) (on_export_packet us h c)
      unfolding on_export_packet
      export-both c few exports =
          live_both (live c.handle g) (live c.handle h) _ _ (same c.handle) (λ r e.
          refuse-both BadShape (not (shareable r.kind)) _ _ _ refl
          (refuse-both BadToken _ _ _ _ (ap (λ f. eqb c.token 0 || of_another f r.lowest) (tokens c.token))
          (refuse-both TooMany _ _ _ _ (ap (λ f. is_new f && leb most_tokens (length ts)) (tokens c.token) ∙ ap (λ n. is_new (lookup token_of c.token us) && leb most_tokens n) few)
          (exports r e))))

      pub import-both : (c : ImportSurface) → length g.resources ≡ length h.resources
          → ((r : Resource) → bound c.token us h.resources ≡ found r
          → P (accepted (record { resources = names_with c.handle r g.resources; records = g.records })) (accepted (record { resources = names_with c.handle r h.resources; records = h.records })))
          → P (on_import_packet ts g c) (on_import_packet us h c)
      unfolding on_import_packet
      import-both c few imports =
          refuse-both BadHandle _ _ _ _ (ap (λ f. eqb c.handle 0 || is_live f) (same c.handle))
          (bound-both _ _ _ _ (bound-same c.token) (λ r e.
          refuse-both TooMany (full g.resources) (full h.resources) _ _ (ap (leb most) few) (imports r e)))

      pub release-both : (c : ReleaseToken) → ((r : Resource) → bound c.token us h.resources ≡ found r → P (accepted g) (accepted h))
          → P (on_release_packet ts g c) (on_release_packet us h c)
      unfolding on_release_packet
      release-both c releases = bound-both _ _ _ _ (bound-same c.token) releases

-- ---- one packet, whatever it is

module _ (es : List Entry) (g h : Progress) (s : SoundProgress es g) (t : SoundProgress es h) (d : SameHeld g h) where
  -- ---- an import

  -- the same of what its rules come to
  abbrev pub Of : Packet → Outcome → Outcome → Type 0
  Of p o q = SamePassed (passed p g o) (passed p h q)
