-- A resource created, judged in the order of the rules and then stored: what the code asks. Assumes nothing.
use Rattle.std.specs.Prelude.{◌≡◌, Option, Some, None, is_some, Bool, true, false, not, List, ℕ, ◌+◌, ◌^◌, ◌≤◌, ◌<◌, ltb, Ok}
use Rattle.std.proofs.Common.{sym, ap, subst, ◌∙◌, add-zero, arith, rules}
use borrow.Author.Tests.{ltb-false, le-leb, lt-leb, eq-eqb, ne_eqb}
use Rattle.rules.specs.Numbers.{most, backs}
use Rattle.rules.specs.Lists.{pushed, lookup}
use Rattle.rules.specs.Lists.Found.{found}
use Rattle.rules.specs.Table.{entry_id, matching}
use Rattle.rules.specs.Packets.{Holdings, Outcome, accepted, refused, refuse, full, handle_of, is_live, range_of, recorded, stored, create_hosted, create_backed, create}
use Rattle.rules.specs.declared.Entry.{Entry}
use Rattle.rules.specs.declared.Resource.{Resource}
use Rattle.rules.specs.declared.Record.{Record}
use Rattle.rules.specs.declared.Refusal.TheVariants.{BadHandle, TooMany, BadShape, NotInTable, PastEntry}
use Rattle.rows.specs.Rows.{row_at, length-table}
use Rattle.rows.specs.Keys.{place_of}
use Rattle.kept_entries.specs.Views.{RowRead, entries_of}
use Rattle.kept_entries.specs.Rows.{entry-exists, entry_found, entry-missing}
use Rattle.kept_resources.specs.Views.{resource_of_row, resources_of, record_of, records_of, holdings_of}
use Rattle.kept_resources.specs.Resources.{resource-known}
use Rattle.packet_ranges.specs.Views.{refused_with, Applies, RowsExist}
use Rattle.packet_ranges.specs.declared.applied.Applied.{Applied}
use Rattle.rules.specs.declared.Refusal.{Refusal}

-- a refusal leaves what was held
stays : (live made : ℕ) (why : Refusal) (resources records : List ℕ) (o : Outcome) (a : Applied) → live ≤ most → made ≤ most → a ≡ refused_with why live made
    → refused why (holdings_of live resources made records) ≡ o → Applies o a resources records
stays live made why resources records o a p q e r =
    subst (λ x. Applies o x resources records) (sym e) (record { outcome = r; live = p; made = q })

-- ---- create_hosted

module _ (live made : ℕ) (resources : List ℕ) (r : Resource) (room : (live ≤ most) × (made ≤ most)) where
  pub hosted-full : (a : Applied) → most ≤ live → a ≡ refused_with TooMany live made
      → (l : List ℕ) → Applies (create_hosted (holdings_of live resources made l) r) a resources l
  unfolding create_hosted
  hosted-full a h e l =
      stays live made TooMany resources l _ a room.0 room.1 e (rw (length-table resource_of_row 12 live resources, le-leb _ _ h))

  pub hosted-stored : (m : List ℕ) → live < most → resources_of (live + 1) m ≡ pushed (resources_of live resources) r
      → (l : List ℕ) → Applies (create_hosted (holdings_of live resources made l) r) (record { verdict = Ok tt; live = live + 1; made = made }) m l
  unfolding create_hosted
  hosted-stored m h e l =
      record { outcome = rw (length-table resource_of_row 12 live resources, lt-leb _ _ h, e); live = omega arith; made = room.1 }

pub ruleset hosting = (hosted-full, hosted-stored, rules)

-- ---- store_backed

-- what the rules ask of a backed resource that lies inside its entry, and what they then do
unfoldable pub store_backed : Holdings → Resource → Record → Outcome
store_backed h r c =
    refuse TooMany (full h.resources) h
    (refuse TooMany (full h.records) h
    (accepted (recorded c (stored r h))))

module _ (live made : ℕ) (resources records : List ℕ) (r : Resource) (c : Record) (room : (live ≤ most) × (made ≤ most)) where
  pub no_room : (a : Applied) → most ≤ live → a ≡ refused_with TooMany live made
      → Applies (store_backed (holdings_of live resources made records) r c) a resources records
  unfolding store_backed
  no_room a h told =
      stays live made TooMany resources records _ a room.0 room.1 told (rw (length-table resource_of_row 12 live resources, le-leb _ _ h))

  module _ (h : live < most) where
    pub no-record-room : (a : Applied) → most ≤ made → a ≡ refused_with TooMany live made
        → Applies (store_backed (holdings_of live resources made records) r c) a resources records
    unfolding store_backed
    no-record-room a p told =
        stays live made TooMany resources records _ a room.0 room.1 told
        (rw (length-table resource_of_row 12 live resources, lt-leb _ _ h, length-table record_of 5 made records, le-leb _ _ p))

    pub both_stored : (resources' records' : List ℕ) → made < most → resources_of (live + 1) resources' ≡ pushed (resources_of live resources) r → records_of (made + 1) records' ≡ pushed (records_of made records) c
        → Applies (store_backed (holdings_of live resources made records) r c) (record { verdict = Ok tt; live = live + 1; made = made + 1 }) resources' records'
    unfolding store_backed
    both_stored resources' records' p s t =
        record {
          outcome = rw (length-table resource_of_row 12 live resources, lt-leb _ _ h, length-table record_of 5 made records, lt-leb _ _ p, s, t);
          live = omega arith;
          made = omega arith;
        }

pub ruleset storing = (no_room, no-record-room, both_stored, rules)

-- ---- create_backed

module _ (n live made : ℕ) (es resources records : List ℕ) (r : Resource) (room : RowsExist n live made) (o : Option ℕ) (place : o ≡ place_of entry_id r.backing (entries_of n es)) where
  pub backed-nowhere : (a : Applied) → o ≡ None → a ≡ refused_with NotInTable live made
      → Applies (create_backed (entries_of n es) (holdings_of live resources made records) r) a resources records
  unfolding create_backed
  backed-nowhere a h told =
      stays live made NotInTable resources records _ a room.live room.made told (rw (entry-missing n r.backing es o place h))

  module _ (i : ℕ) (at : o ≡ Some i) (e : Entry) (read : RowRead (row_at 4 es i) e) where
    matched : matching r.backing (entries_of n es) ≡ found e
    matched = entry_found n r.backing es o place i at ∙ ap found (sym read.entry)

    -- what the rules ask once the entry is found
    in_entry : create_backed (entries_of n es) (holdings_of live resources made records) r
        ≡ refuse PastEntry (ltb e.size (r.offset + r.bytes)) (holdings_of live resources made records)
        (store_backed (holdings_of live resources made records) r (range_of backs r e 0 r.bytes))
    unfolding create_backed store_backed
    in_entry = rw matched

    module _ (b : Bool) (is : b ≡ ltb e.size (r.offset + r.bytes)) where
      pub backed-past : (a : Applied) → b ≡ true → a ≡ refused_with PastEntry live made
          → Applies (create_backed (entries_of n es) (holdings_of live resources made records) r) a resources records
      backed-past a t told =
          stays live made PastEntry resources records _ a room.live room.made told (rw (in_entry, ← is, t))

      module _ (t : b ≡ false) where
        -- a resource inside its entry begins at a number of eight bytes
        pub backed-fits : e.gpa + r.offset < 2 ^ 64
        backed-fits = omega (arith, read.ends, ltb-false e.size (r.offset + r.bytes) (sym is ∙ t))

        pub backed-inside : (a : Applied) (resources' records' : List ℕ)
            → Applies (store_backed (holdings_of live resources made records) r (record { kind = backs; handle = r.handle; id = r.backing; gpa = e.gpa + r.offset; length = r.bytes })) a resources' records'
            → Applies (create_backed (entries_of n es) (holdings_of live resources made records) r) a resources' records'
        backed-inside a resources' records' s = rw (in_entry, ← is, t, add-zero) s

pub ruleset backing = (entry-exists, backed-nowhere, backed-past, backed-fits, backed-inside, rules)

-- ---- create

module _ (n live made : ℕ) (es resources records : List ℕ) (good : Bool) (r : Resource) (room : RowsExist n live made) where
  pub create-no-handle : (a : Applied) → r.handle ≡ 0 → a ≡ refused_with BadHandle live made
      → Applies (create (entries_of n es) (holdings_of live resources made records) good r) a resources records
  unfolding create
  create-no-handle a h e =
      stays live made BadHandle resources records _ a room.live room.made e (rw (eq-eqb _ _ h))

  module _ (h : r.handle ≡ 0 → ⊥) (o : Option ℕ) (place : o ≡ place_of handle_of r.handle (resources_of live resources)) (b : Bool) (known : b ≡ is_some o) where
    taken : is_live (lookup handle_of r.handle (resources_of live resources)) ≡ b
    taken = resource-known live r.handle resources o place ∙ sym known

    pub create-live : (a : Applied) → b ≡ true → a ≡ refused_with BadHandle live made
        → Applies (create (entries_of n es) (holdings_of live resources made records) good r) a resources records
    unfolding create
    create-live a p e =
        stays live made BadHandle resources records _ a room.live room.made e
        (rw (ne_eqb _ _ h, taken, p))

    module _ (p : b ≡ false) where
      pub create-bad : (a : Applied) → not good ≡ true → a ≡ refused_with BadShape live made
          → Applies (create (entries_of n es) (holdings_of live resources made records) good r) a resources records
      unfolding create
      create-bad a q e =
          stays live made BadShape resources records _ a room.live room.made e
          (rw (ne_eqb _ _ h, taken, p, q))

      module _ (q : not good ≡ false) (a : Applied) (resources' : List ℕ) where
        pub create-host : r.backing ≡ 0 → ((l : List ℕ) → Applies (create_hosted (holdings_of live resources made l) r) a resources' l)
            → Applies (create (entries_of n es) (holdings_of live resources made records) good r) a resources' records
        unfolding create
        create-host s e = rw (ne_eqb _ _ h, taken, p, q, eq-eqb _ _ s) (e records)

        pub create-back : (records' : List ℕ) → (r.backing ≡ 0 → ⊥) → Applies (create_backed (entries_of n es) (holdings_of live resources made records) r) a resources' records'
            → Applies (create (entries_of n es) (holdings_of live resources made records) good r) a resources' records'
        unfolding create
        create-back records' s e = rw (ne_eqb _ _ h, taken, p, q, ne_eqb _ _ s) e

pub ruleset creating = (create-no-handle, create-live, create-bad, create-host, create-back, rules)
