-- The theorems of specs/NamesTaken.antt, and what they rest on. Assumes nothing.
use Rattle.std.specs.Prelude.{◌≡◌, refl, Bool, true, false, eqb, List, [], ◌++◌, ℕ, zero, suc}
use Rattle.std.proofs.Common.{sym, ap, subst, ◌∙◌, append-nil}
use Rattle.machine.specs.Machine.{pick}
use Rattle.rules.specs.Numbers.{done}
use Rattle.rules.specs.Stream.{left, frame_of}
use Rattle.rules.specs.Packets.{Belongings, left_by, pass}
use Rattle.rules.specs.State.{Work, State, World}
use Rattle.rules.specs.State.Work.{resting, entries, packets, waiting}
use Rattle.rules.specs.Steps.{step, answered}
use Rattle.rules.specs.Calls.{Ran, call_run, call_answer}
use Rattle.promises_of_units.specs.Called.{Call, Called}
use Rattle.promises_of_units.specs.Called.Call.{writes, reads, runs, records, answers}
use Rattle.promises_of_units.specs.Called.Called.{makes, loads, calls}
use Rattle.promises_of_sharing.specs.SharedTokens.{TokensGoOn}
use Rattle.promises_of_sharing.proofs.SharedTokens.{go-on-same, go-on-both, tokens-stay}
use Rattle.promises_of_sharing.specs.NamesKept.{imported_or_destroyed, KeepsNamesBut}
use Rattle.promises_of_sharing.proofs.NamesKept.{keeps_same, keeps-both, a-packet-keeps-names}
use Rattle.promises_of_sharing.specs.TokensOverCalls.{CalledOn}
use Rattle.promises_of_sharing.specs.TokensOverCalls.CalledOn.{not_yet, calls-on}
use Rattle.promises_of_sharing.specs.NamesOverCalls.{Names, names_after_unit, names_after_units, names_after_answer, names_after_call, in_work_of, names_since}
use Rattle.promises_of_sharing.specs.PacketsTaken.{Taken, Packets, taken_in, packets_after_unit, packets_after_units, packets_after_answer, packets_after_call, packets_in_work, packets_since, Carries}
use Rattle.promises_of_sharing.proofs.PacketsTaken.{carried-between-resets}
use Rattle.promises_of_sharing.specs.NamesTaken.{NamesGoOn, names-both, names-of-frame, names_in, names_of}

pub names-go-on : Carries NamesGoOn
unfolding names_of
names-go-on =
    record {
      same = λ b. record { goes_on = go-on-same b.tokens; keeps = keeps_same [] b };
      both = λ xs ys a b c first second.
          record {
            goes_on = go-on-both a.tokens b.tokens c.tokens first.goes_on second.goes_on;
            keeps =
                subst (λ (l : List ℕ). KeepsNamesBut l a c) (sym (names-both ys xs))
                (keeps-both (names_of xs) (names_of ys) a b c first.goes_on second.goes_on first.keeps second.keeps);
          };
      packet = λ es h s p v.
          record {
            goes_on = (tokens-stay es h s p).goes_on;
            keeps = subst (λ (l : List ℕ). KeepsNamesBut l (left_by h) (left_by (pass es h p).held)) (sym (append-nil (imported_or_destroyed p))) (a-packet-keeps-names es h s p);
          };
    }

-- the tokens alone, from packet to packet
pub tokens-go-on : Carries (λ (xs : List Taken) (before after : Belongings). TokensGoOn before.tokens after.tokens)
tokens-go-on =
    record {
      same = λ b. go-on-same b.tokens;
      both = λ xs ys a b c. go-on-both a.tokens b.tokens c.tokens;
      packet = λ es h s p v. (tokens-stay es h s p).goes_on;
    }

-- ---- of the packets taken, the names that count

names-of-unit : (w : World) (k : Work) (xs : List Taken) → names_of (packets_after_unit w k xs) ≡ names_after_unit w k (names_of xs)
unfolding names_of
names-of-unit w resting xs = refl
names-of-unit w (entries o kept) xs = refl
names-of-unit w (packets j t at es h) xs =
    let b : List ℕ = left w.mem t at in
    names-both (taken_in h b (frame_of b)) xs ∙ ap (λ l. l ++ names_of xs) (names-of-frame h b (frame_of b))
names-of-unit w (waiting j es h) xs = refl

names-of-units : (n : ℕ) (w : World) (xs : List Taken) → names_of (packets_after_units n w xs) ≡ names_after_units n w (names_of xs)
unfolding packets_after_units names_after_units
names-of-units zero w xs = refl
names-of-units (suc n) w xs =
    names-of-units n (step w) (packets_after_unit w w.state.work xs) ∙ ap (names_after_units n (step w)) (names-of-unit w w.state.work xs)

names-of-answer : (good : Bool) (w : World) (r : Ran) (x : Packets) → names_in (packets_after_answer good w r x) ≡ names_after_answer good w r (names_in x)
unfolding names_of
names-of-answer good w r x = by-answer (eqb r.answer done) good
  where
    after-good : (g : Bool) → names_of (pick g (x.in_work ++ x.by_good) x.by_good) ≡ pick g (names_of x.in_work ++ names_of x.by_good) (names_of x.by_good)
    after-good true = names-both x.in_work x.by_good
    after-good false = refl

    by-answer : (b g : Bool)
        → names_in (pick b (record { by_good = pick g (x.in_work ++ x.by_good) x.by_good; in_work = packets_after_units r.units (answered good w) [] }) x)
        ≡ pick b
        (record { by_good = pick g (names_of x.in_work ++ names_of x.by_good) (names_of x.by_good); in_work = names_after_units r.units (answered good w) [] })
        (names_in x)
    by-answer true g = rw (after-good g, names-of-units r.units (answered good w) []) refl
    by-answer false g = refl

names-of-call : (c : Call) (w : World) (x : Packets) → names_in (packets_after_call c w x) ≡ names_after_call c w (names_in x)
unfolding packets_after_call names_after_call
names-of-call (writes offset v) w x = refl
names-of-call (reads offset) w x = refl
names-of-call (runs n) w x = ap (λ l. record { by_good = names_of x.by_good; in_work = l }) (names-of-units (call_run w n).units w x.in_work)
names-of-call (records i) w x = refl
names-of-call (answers good n) w x = names-of-answer good w (call_answer w good n) x

names-of-work : (s : State) (k : Called s) → names_of (packets_in_work s k) ≡ in_work_of s k
unfolding packets_in_work in_work_of names_of
names-of-work s (makes memory) = refl
names-of-work s (loads b good) = refl
names-of-work s (calls {s = t} c m k) =
    ap (λ (x : Names). x.in_work) (names-of-call c (record { state = t; mem = m }) (record { by_good = []; in_work = packets_in_work t k }))
    ∙ ap (λ l. (names_after_call c (record { state = t; mem = m }) (record { by_good = []; in_work = l })).in_work) (names-of-work t k)

-- the names that count since a device are those that the packets taken since imported or destroyed
pub names-are-of-packets-taken : (s t : State) (k : Called s) (q : CalledOn s t) → names_in (packets_since s t k q) ≡ names_since s t k q
unfolding packets_since names_since names_of
names-are-of-packets-taken s t k not_yet = ap (λ l. record { by_good = []; in_work = l }) (names-of-work s k)
names-are-of-packets-taken s t k (calls-on {t = u} q c n m) =
    names-of-call c (record { state = u; mem = m }) (packets_since s u k q)
    ∙ ap (names_after_call c (record { state = u; mem = m })) (names-are-of-packets-taken s u k q)

-- and a bound token keeps all other names of its resource
pub names-go-on-between-resets : (s t : State) (k : Called s) (q : CalledOn s t) → NamesGoOn (packets_since s t k q).by_good s.belongings t.belongings
names-go-on-between-resets s t k q = carried-between-resets NamesGoOn names-go-on s t k q
