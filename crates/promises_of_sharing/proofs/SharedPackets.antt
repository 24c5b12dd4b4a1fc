-- The theorems of specs/SharedPackets.antt, and what they rest on. Assumes nothing.
use Rattle.std.specs.Prelude.{◌≡◌, List, eqb, length}
use Rattle.std.proofs.Common.{ap, ◌∙◌}
use borrow.Author.Tests.{eq-eqb, ne_eqb, le-leb, lt-leb}
use Rattle.rules.specs.Numbers.{most_tokens}
use Rattle.rules.specs.Lists.{lookup}
use Rattle.rules.specs.Names.{token_of}
use Rattle.rules.specs.Packets.{on_export_packet, apply, Progress, Passed, target_after, tokens_after, pass}
use Rattle.rules.specs.declared.Entry.{Entry}
use Rattle.rules.specs.declared.ExportSurface.{ExportSurface}
use Rattle.rules.specs.declared.ReleaseToken.{ReleaseToken}
use Rattle.rules.specs.declared.Packet.TheVariants.{Export}
use Rattle.promises_of_packets.proofs.Names.{lookup-released, lookup-unreleased}
use Rattle.promises_of_packets.specs.SoundNames.{bound-is}
use Rattle.promises_of_sharing.specs.SharedPackets.{ExportPacket, ReleasePacket, or-true, release-is, release-not}

-- ---- "The handle check (18, create's rule for import) comes first, then shape, token, room."

module _ (es : List Entry) (h : Progress) where
  pub when-an-export-is-accepted : (c : ExportSurface) → (ExportPacket es h) c
  unfolding pass apply on_export_packet target_after tokens_after
  when-an-export-is-accepted c =
      record {
        not_live = λ e. rw e;
        wrong-shape = λ r e k. rw (e, k);
        token-0 = λ r e k z. rw (e, k, eq-eqb c.token 0 z);
        of-another-one = λ r e k t f n. rw (e, k, f, ne_eqb t.name r.lowest n, or-true (eqb c.token 0));
        again = λ r e k z t f n. rw (e, k, ne_eqb c.token 0 z, f, eq-eqb t.name r.lowest n);
        no_room = λ r e k z f l. rw (e, k, ne_eqb c.token 0 z, f, le-leb most_tokens (length h.tokens) l);
        new-token = λ r e k z f l. rw (e, k, ne_eqb c.token 0 z, f, lt-leb most_tokens (length h.tokens) l);
      }

  pub when-a-release-is-accepted : (c : ReleaseToken) → (ReleasePacket es h) c
  when-a-release-is-accepted c =
      record {
        not-bound = (release-not es h) c;
        released = (release-is es h) c;
        spends_it = λ r e.
            let b = bound-is c.token h.tokens h.holdings.resources r e in
            ap (λ (o : Passed). lookup token_of c.token o.held.tokens) ((release-is es h) c r e) ∙ lookup-released c.token h.tokens b.0 b.1;
        leaves-others = λ r e token other.
            let b = bound-is c.token h.tokens h.holdings.resources r e in
            ap (λ (o : Passed). lookup token_of token o.held.tokens) ((release-is es h) c r e) ∙ lookup-unreleased c.token h.tokens b.0 b.1 token other;
      }
