-- What an export packet comes to, whatever records are held. Assumes nothing.
use Rattle.std.specs.Prelude.{◌≡◌, refl, Option, Some, None, Bool, not, ◌&&◌, ◌||◌, List, ℕ, ◌≤◌, ◌<◌, eqb, leb, length}
use Rattle.std.proofs.Math.Path.{sym}
use Rattle.std.proofs.Common.{ap, ◌∙◌, arith, rules}
use Rattle.std.proofs.Math.Bool.{true, false}
use borrow.Author.Tests.{eq-eqb, ne_eqb, le-leb, lt-leb, not-true, not-false}
use Rattle.machine.specs.Machine.{pick}
use Rattle.rules.specs.Numbers.{most, most_tokens}
use Rattle.rules.specs.Lists.{lookup, pushed}
use Rattle.rules.specs.Lists.Found.{none, found}
use Rattle.rules.specs.Names.{token_of, shareable, of_another, is_new, with_token}
use Rattle.rules.specs.Packets.{Holdings, Outcome, handle_of, accepted, refuse, if-fine, on_export_packet, tokens_after}
use Rattle.rules.specs.declared.ExportSurface.{ExportSurface}
use Rattle.rules.specs.declared.Packet.TheVariants.{Export}
use Rattle.rules.specs.declared.Resource.{Resource}
use Rattle.rules.specs.declared.Token.{Token}
use Rattle.rules.specs.declared.Refusal.TheVariants.{BadHandle, TooMany, BadShape, BadToken}
use Rattle.rows.specs.Rows.{row_at, length-table}
use Rattle.rows.specs.Keys.{place_of}
use Rattle.kept_resources.specs.Views.{resource_of_row, resources_of, holdings_of}
use Rattle.kept_resources.specs.Resources.{resource-place, resource-exists, resource-found, resource-missing}
use Rattle.kept_tokens.specs.Views.{token_of_row, tokens_of}
use Rattle.kept_tokens.specs.Tokens.{token-exists, token-found, token-missing}
use Rattle.packet_ranges.specs.Views.{Applies, refused_with}
use Rattle.packet_ranges.specs.Handout.{accepted_with}
use Rattle.packet_ranges.specs.declared.applied.Applied.{Applied}
use Rattle.packet_export.specs.declared.export.Exported.{Exported}
use Rattle.rules.specs.declared.Refusal.{Refusal}

-- ---- refuse_export

abbrev pub exported_nothing : Refusal → ℕ → ℕ → Exported
exported_nothing why live made = record { applied = refused_with why live made; added = false; name = 0 }

pub exports-refused : (a b : Applied) → a ≡ b → ◌≡◌ {A = Exported} (record { applied = a; added = false; name = 0 }) (record { applied = b; added = false; name = 0 })
exports-refused a b e = ap (λ x. record { applied = x; added = false; name = 0 }) e

pub ruleset refusing_export = (exports-refused, rules)

-- ---- bind

-- "Export gives 28 for token 0, a token ever bound to another resource or one released"; 19
abbrev pub bindable : ℕ → ℕ → List Token → Holdings → Outcome
bindable low token ts h =
    refuse BadToken (eqb token 0 || of_another (lookup token_of token ts) low) h
    (refuse TooMany (is_new (lookup token_of token ts) && leb most_tokens (length ts)) h (accepted h))

-- whatever is held, the answer is the rules' outcome; a new token is one more, and there is room for it
pub record Binds (low token live made used : ℕ) (t : List ℕ) (x : Exported) : Type 0 where
  pub applies : (resources records : List ℕ) → Applies (bindable low token (tokens_of used t) (holdings_of live resources made records)) x.applied resources records
  pub tokens : if-fine x.applied.verdict (with_token token low (tokens_of used t)) (tokens_of used t)
      ≡ pick x.added (pushed (tokens_of used t) (record { name = x.name; token = token })) (tokens_of used t)
  pub room : x.added ≡ true → used < most_tokens

apart : false ≡ true → ⊥
apart e = let z : ◌≡◌ {A = ℕ} 0 1 = cc in omega arith

module _ (low token live made used : ℕ) (t : List ℕ) (room : ((live ≤ most) × (made ≤ most)) × (used ≤ most_tokens)) where
  refusal-binds : (why : Refusal) (x : Exported) → x ≡ exported_nothing why live made
      → ((h : Holdings) → bindable low token (tokens_of used t) h ≡ refuse why true h (accepted h)) → Binds low token live made used t x
  refusal-binds why x e f =
      rw e
      (record {
        applies = λ resources records. record { outcome = sym (f (holdings_of live resources made records)); live = room.0.0; made = room.0.1 };
        tokens = refl;
        room = λ p. absurd (apart p);
      })

  pub binds-nothing : (x : Exported) → token ≡ 0 → x ≡ exported_nothing BadToken live made → Binds low token live made used t x
  binds-nothing x p e = refusal-binds BadToken x e (λ h. rw (eq-eqb _ _ p))

  module _ (p : token ≡ 0 → ⊥) where
    module _ (o : Option ℕ) (place : o ≡ place_of token_of token (tokens_of used t)) (i : ℕ) (at : o ≡ Some i) (k : Token) (row : k ≡ token_of_row (row_at 2 t i)) where
      known : lookup token_of token (tokens_of used t) ≡ found k
      known = token-found used token t o place i at ∙ ap found (sym row)

      pub binds-another : (x : Exported) → (k.name ≡ low → ⊥) → x ≡ exported_nothing BadToken live made → Binds low token live made used t x
      binds-another x s e = refusal-binds BadToken x e (λ h. rw (ne_eqb _ _ p, known, ne_eqb _ _ s))

      pub binds-again : k.name ≡ low → Binds low token live made used t (record { applied = accepted_with live made; added = false; name = low })
      binds-again s =
          record {
            applies = λ resources records. record { outcome = rw (ne_eqb _ _ p, known, eq-eqb _ _ s); live = room.0.0; made = room.0.1 };
            tokens = rw known;
            room = λ z. absurd (apart z);
          }

    module _ (o : Option ℕ) (place : o ≡ place_of token_of token (tokens_of used t)) (q : o ≡ None) where
      unknown : lookup token_of token (tokens_of used t) ≡ none
      unknown = token-missing used token t o place q

      pub binds-too-many : (x : Exported) → most_tokens ≤ used → x ≡ exported_nothing TooMany live made → Binds low token live made used t x
      binds-too-many x s e = refusal-binds TooMany x e (λ h. rw (ne_eqb _ _ p, unknown, length-table token_of_row 2 used t, le-leb _ _ s))

      pub binds-new : used < most_tokens → Binds low token live made used t (record { applied = accepted_with live made; added = true; name = low })
      binds-new s =
          record {
            applies = λ resources records. record { outcome = rw (ne_eqb _ _ p, unknown, length-table token_of_row 2 used t, lt-leb _ _ s); live = room.0.0; made = room.0.1 };
            tokens = rw unknown;
            room = λ z. s;
          }

pub ruleset bindings = (token-exists, binds-nothing, binds-another, binds-again, binds-too-many, binds-new, rules)

-- ---- on_export

-- the answer is the rules' outcome; a new token is one more, under the name that the answer has, and there is room for it
pub record Exports (c : ExportSurface) (live made used : ℕ) (l t : List ℕ) (x : Exported) : Type 0 where
  pub applies : (records : List ℕ) → Applies (on_export_packet (tokens_of used t) (holdings_of live l made records) c) x.applied l records
  pub tokens : (records : List ℕ)
      → tokens_after (Export c) x.applied.verdict (holdings_of live l made records) (tokens_of used t)
      ≡ pick x.added (pushed (tokens_of used t) (record { name = x.name; token = c.token })) (tokens_of used t)
  pub room : x.added ≡ true → used < most_tokens

-- there is room for a new token
pub exported-room : (c : ExportSurface) (live made used : ℕ) (l t : List ℕ) (x : Exported) → Exports c live made used l t x → x.added ≡ true → used < most_tokens
exported-room c live made used l t x e p = e.room p

module _ (c : ExportSurface) (live made used : ℕ) (l t : List ℕ) (room : ((live ≤ most) × (made ≤ most)) × (used ≤ most_tokens))
    (o : Option ℕ) (place : o ≡ place_of handle_of c.handle (resources_of live l)) where
  pub exports-nothing : (x : Exported) → o ≡ None → x ≡ exported_nothing BadHandle live made → Exports c live made used l t x
  unfolding on_export_packet tokens_after
  exports-nothing x p e =
      rw e
      (record {
        applies = λ records. record { outcome = rw (resource-missing live c.handle l o place p); live = room.0.0; made = room.0.1 };
        tokens = λ records. refl;
        room = λ z. absurd (apart z);
      })

  module _ (i : ℕ) (at : o ≡ Some i) (r : Resource) (row : r ≡ resource_of_row (row_at 12 l i)) (b : Bool) (is : b ≡ shareable r.kind) where
    here : lookup handle_of c.handle (resources_of live l) ≡ found r
    here = resource-found live c.handle l o place i at ∙ ap found (sym row)

    pub exports-no-texture : not b ≡ true → (x : Exported) → x ≡ exported_nothing BadShape live made → Exports c live made used l t x
    unfolding on_export_packet tokens_after
    exports-no-texture s x e =
        let unshared : shareable r.kind ≡ false = sym is ∙ not-true _ s in
        rw e
        (record {
          applies = λ records. record { outcome = rw (here, unshared); live = room.0.0; made = room.0.1 };
          tokens = λ records. refl;
          room = λ z. absurd (apart z);
        })

    pub exports-one : not b ≡ false → (x : Exported) → Binds r.lowest c.token live made used t x → Exports c live made used l t x
    unfolding on_export_packet tokens_after
    exports-one s x b' =
        let shared : shareable r.kind ≡ true = sym is ∙ not-false _ s in
        record {
          applies = λ records. rw (here, shared) (b'.applies l records);
          tokens = λ records. rw here b'.tokens;
          room = b'.room;
        }

pub ruleset exporting = (resource-exists, exports-nothing, exports-no-texture, exports-one, rules)
