-- The theorems of specs/PlacesOfCalls.antt, and what they rest on. Assumes nothing.
use Rattle.std.specs.Prelude.{◌≡◌, true, false}
use Rattle.std.proofs.Common.{sym, ap, subst, ◌∙◌, arith}
use Rattle.rules.specs.State.{State, World}
use Rattle.rules.specs.Steps.{go, step}
use Rattle.rules.specs.Calls.{lent_another}
use Rattle.rules.specs.declared.Fault.{Fault}
use Rattle.rules.specs.declared.Job.{Job}
use Rattle.rules.specs.declared.LastError.{LastError}
use Rattle.promises_of_submissions.specs.LentBytes.{OfBytes}
use Rattle.promises_of_units.specs.Called.{Called}
use Rattle.promises_of_units.specs.Called.Call.{runs}
use Rattle.promises_of_units.specs.Called.Called.{makes, loads, calls}
use Rattle.promises_of_units.specs.Kept.{EachLent}
use Rattle.promises_of_units.specs.Units.{Breaks}
use Rattle.rule_laws.specs.RuleNumbers.{EntryRule}
use Rattle.promises.specs.PlacesByNumber.{place_told, TellsWhich}
use Rattle.promises.proofs.Main.{every-settling-tells-which}
use Rattle.promises_of_calls.specs.Layers.{Layer}
use Rattle.promises_of_calls.specs.Calls.{MadeAndCalled, CallMade, before}
use Rattle.promises_of_calls.proofs.Calls.{call-is-the-rules}
use Rattle.promises_of_calls.specs.Calls.MadeAndCalled.{made_one, loaded-one, called-one}
use Rattle.promises_of_calls.specs.PlacesOfCalls.{LentBytes, ToldBy, one_unit}

-- ---- every memory that was lent holds bytes, as every lent slice does

-- so its state is one that the rules' calls over bytes lead to
over-bytes : (L : Layer) (d : L.Device) (k : MadeAndCalled L d) → LentBytes k → (c : Called (L.state d)) × EachLent OfBytes (L.state d) c
unfolding LentBytes EachLent
over-bytes L d (made_one memory k) l = subst (λ (s : State). (c : Called s) × EachLent OfBytes s c) (sym (L.makes-made memory d k)) (makes memory, omega arith)
over-bytes L d (loaded-one b k) l =
    let f = L.loads-loaded b d k in
    subst (λ (s : State). (c : Called s) × EachLent OfBytes s c) (sym f.1) (loads b f.0, omega arith)
over-bytes L d (called-one {d = e} m m' c x k earlier) l =
    let before : (c : Called (L.state e)) × EachLent OfBytes (L.state e) c = over-bytes L e earlier l.1 in
    subst (λ (w : World). (c : Called w.state) × EachLent OfBytes w.state c) (sym (L.gives-world e m c x d m' k)) (calls c m before.0, (l.0, before.1))

-- ---- a run of one unit that finds a rule broken

pub a-run-of-one-tells-where : {L : Layer} (r : CallMade L (runs 1)) (k : MadeAndCalled L r.of) → LentBytes k → lent_another (before r) ≡ false → go (before r) ≡ true
    → (j : Job) (f : Fault) → Breaks (before r) (L.state r.of).work j f → ToldBy r j f
a-run-of-one-tells-where {L} r k bytes l g j f h =
    let c : (c : Called (L.state r.of)) × EachLent OfBytes (L.state r.of) c = over-bytes L r.of k bytes in
    let t : TellsWhich (before r) j f = every-settling-tells-which (L.state r.of) c.0 c.1 r.over j f h in
    let same : (L.state r.leaves).regs.error ≡ (step (before r)).state.regs.error =
    ap (λ (w : World). w.state.regs.error) ((call-is-the-rules r).world ∙ one_unit (before r) l g) in
    let number : (L.state r.leaves).regs.error.code ≡ f.code = ap (λ (x : LastError). x.code) (same ∙ t.tells) in
    record {
      error = same ∙ t.tells;
      tells = ap (λ (x : LastError). place_told x.code x.detail) same ∙ t.told-apart;
      entrys = (λ e. t.entrys.0 (subst EntryRule number e), λ e. subst EntryRule (sym number) (t.entrys.1 e));
      placed = t.place;
    }
