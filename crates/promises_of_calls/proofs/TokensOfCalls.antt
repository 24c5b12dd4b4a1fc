-- The theorems of specs/TokensOfCalls.antt, and what they rest on. Assumes nothing.
use Rattle.std.proofs.Math.Path.{◌≡◌}
use Rattle.std.specs.Prelude.{true, false, List, ◌++◌, ◌⊎◌, ℕ, ◌<◌, length, take, Ok}
use Rattle.std.proofs.Common.{ap, ◌∙◌, inl, inr, ⊎_elim, arith}
use Rattle.machine.specs.Machine.{run_none, run-go}
use Rattle.rules.specs.Numbers.{most}
use Rattle.rules.specs.Lists.Found.{none}
use Rattle.rules.specs.Stream.{left, frame_of, packet_of}
use Rattle.rules.specs.Packets.{live, Progress, pass}
use Rattle.rules.specs.State.{World, working}
use Rattle.rules.specs.State.Work.{packets}
use Rattle.rules.specs.Steps.{packets_at, next_place, go, step}
use Rattle.rules.specs.Calls.{lent_another, Ran}
use Rattle.rules.specs.declared.Entry.{Entry}
use Rattle.rules.specs.declared.Job.{Job}
use Rattle.rules.specs.declared.Stream.{Stream}
use Rattle.rules.specs.declared.ImportSurface.{ImportSurface}
use Rattle.rules.specs.declared.Packet.TheVariants.{Import}
use Rattle.promises_of_packets.specs.Held.{Every}
use Rattle.promises_of_units.specs.Called.{Call, after}
use Rattle.promises_of_units.specs.Called.Call.{runs}
use Rattle.promises_of_units.specs.Acts.{NoReset}
use Rattle.promises_of_units.specs.Runs.{of-run}
use Rattle.promises_of_sharing.specs.Shared.{IsBound, SecondName}
use Rattle.promises_of_sharing.specs.PacketsTaken.{Packets, packets_since}
use Rattle.promises_of_sharing.specs.TokenLives.{Some, Exports, Spends, TokensLive, ImportAccepted, WorksOn}
use Rattle.promises_of_sharing.proofs.TokenLives.{tokens-live-between-resets, an-accepted-import-works-on}
use Rattle.promises_of_sharing.proofs.LaterImport.{a-later-import-is-accepted}
use Rattle.promises_of_sharing.specs.TokenMeans.{TokensMean, NamesTheExported}
use Rattle.promises_of_sharing.proofs.TokenMeans.{tokens-mean-between-resets, a-later-import-names-the-exported}
use Rattle.promises_of_sharing.specs.SinceBegun.{since-begun, BoundSince}
use Rattle.promises_of_sharing.proofs.SinceBegun.{bound-since-make-reset-or-load}
use Rattle.promises_of_calls.specs.Layers.{Layer}
use Rattle.promises_of_calls.specs.Calls.{MadeAndCalled, CallMade, before, afterwards}
use Rattle.promises_of_calls.proofs.Calls.{made_and_called, call-is-the-rules}
use Rattle.promises_of_calls.specs.Calls.MadeAndCalled.{called-one}
use Rattle.promises_of_calls.specs.Chains.{Chain}
use Rattle.promises_of_calls.specs.Chains.Chain.{no_call, call_then}
use Rattle.promises_of_calls.specs.TokensOfCalls.{GoesOn, rules-calls}
use Rattle.promises_of_calls.specs.TokensOfCalls.GoesOn.{called-then, not-called}

-- ---- calls that were made, one after the other, each lent any memory, and none of them a reset

-- a device that was made and called is so still
pub goes-on-called : {L : Layer} {d e : L.Device} → GoesOn L d e → MadeAndCalled L d → MadeAndCalled L e
goes-on-called not-called k = k
goes-on-called (called-then q m m' c x n g) k = called-one m m' c x g (goes-on-called q k)

-- a chain over memory that nobody else writes is one of these
chain-from : {L : Layer} {d e f : L.Device} {m m' : List ℕ} {cs : List Call} → GoesOn L d e → Chain L e m cs f m' → NoReset cs → GoesOn L d f
unfolding Every
chain-from q no_call n = q
chain-from q (call_then {m = m} {m₁ = m₁} {c = c} x k later) n = chain-from (called-then q m m₁ c x n.0 k) later n.1

pub chain-goes-on : {L : Layer} {d e : L.Device} {m m' : List ℕ} {cs : List Call} → Chain L d m cs e m' → NoReset cs → GoesOn L d e
chain-goes-on k n = chain-from not-called k n

-- ---- the theorems, of these calls

module _ {L : Layer} {d e : L.Device} (k : MadeAndCalled L d) (q : GoesOn L d e) where
  -- the packets that count
  abbrev pub packets_of_calls : Packets
  packets_of_calls = packets_since (L.state d) (L.state e) (made_and_called L d k) (rules-calls q)

  -- a token that is bound, or exported by a submission answered good since, is bound, exactly unless one answered good has spent it
  pub tokens-live-over-calls : TokensLive packets_of_calls.by_good (L.state d).belongings.tokens (L.state e).belongings.tokens
  tokens-live-over-calls = tokens-live-between-resets (L.state d) (L.state e) (made_and_called L d k) (rules-calls q)

  -- and as long as it is bound, it is bound to the resource that it was bound to, or that was exported
  pub tokens-mean-over-calls : TokensMean packets_of_calls.by_good (L.state d).belongings (L.state e).belongings
  tokens-mean-over-calls = tokens-mean-between-resets (L.state d) (L.state e) (made_and_called L d k) (rules-calls q)

  -- a run of one unit of that device, lent its memory, that stands at an import of such a token, with a free handle and room
  pub record AtAnImport (c : ImportSurface) (r : CallMade L (runs 1)) : Type 0 where
    pub of-it : r.of ≡ e
    pub its-memory : lent_another (before r) ≡ false
    pub goes : go (before r) ≡ true
    pub job : Job
    pub stream : Stream
    pub at : ℕ
    pub table : List Entry
    pub held : Progress
    pub work : (L.state e).work ≡ packets job stream at table held
    pub op : ℕ
    pub size : ℕ
    pub framed : frame_of (left r.over stream at) ≡ Ok (op, size)
    pub says : packet_of op (take size (left r.over stream at)) ≡ Import c
    pub known : IsBound c.token (L.state d).belongings.tokens ⊎ Some (Exports c.token) packets_of_calls.by_good
    pub some : c.handle ≡ 0 → ⊥
    pub free : live c.handle held.holdings ≡ none
    pub room : length held.holdings.resources < most

  -- it goes on, and what is held has one name more
  pub record Imported (c : ImportSurface) (r : CallMade L (runs 1)) (i : AtAnImport c r) : Type 0 where
    pub leaves : afterwards r ≡ working (packets_at i.job i.stream (next_place i.at (left r.over i.stream i.at)) i.table (pass i.table i.held (Import c)).held) (before r)
    pub second_name : SecondName c.token c.handle i.held (pass i.table i.held (Import c)).held
    pub exported-one : NamesTheExported c.token c.handle (packets_of_calls.in_work ++ packets_of_calls.by_good) (L.state d).belongings
        (pass i.table i.held (Import c)).held.holdings.resources

  one_unit : (w : World) → lent_another w ≡ false → go w ≡ true → after (runs 1) w ≡ step w
  unfolding after
  one_unit w l g =
      of-run (λ (x : Ran). x.world ≡ step w) w 1 (λ a. absurd (let z : ◌≡◌ {A = ℕ} 0 1 = cc in omega arith))
      (λ a. rw (run-go go step 0 w g, run_none go step (step w)))

  -- unless the token was spent since
  pub an-import-goes-on : (c : ImportSurface) (r : CallMade L (runs 1)) (i : AtAnImport c r)
      → Imported c r i ⊎ Some (Spends c.token) (packets_of_calls.in_work ++ packets_of_calls.by_good)
  an-import-goes-on c r i =
      ⊎_elim (λ a. inl (goes_on a)) (λ x. inr x)
      (a-later-import-is-accepted (L.state d) (L.state e) (made_and_called L d k) (made_and_called L e (goes-on-called q k)) (rules-calls q) i.job i.stream i.at i.table i.held
      i.work c i.known i.some i.free i.room)
    where
      goes_on : ImportAccepted i.table i.held c → Imported c r i
      goes_on a =
          let here : (before r).state.work ≡ packets i.job i.stream i.at i.table i.held = ap (λ x. (L.state x).work) i.of-it ∙ i.work in
          let n : WorksOn (before r) i.job i.stream i.at i.table i.held c =
          an-accepted-import-works-on (before r) i.job i.stream i.at i.table i.held here i.op i.size i.framed c i.says a in
          record {
            leaves = (call-is-the-rules r).world ∙ (one_unit (before r) i.its-memory i.goes ∙ n.next);
            second_name = n.second_name;
            exported-one =
                a-later-import-names-the-exported (L.state d) (L.state e) (made_and_called L d k) (made_and_called L e (goes-on-called q k)) (rules-calls q) i.job i.stream i.at i.table i.held
                i.work c a.accepted;
          }

-- of any device made and called in that layer, since its last make, reset or load
pub bound-since-of-calls : (L : Layer) (d : L.Device) (k : MadeAndCalled L d) (token : ℕ)
    → BoundSince token (L.state d) (since-begun (L.state d) (made_and_called L d k))
bound-since-of-calls L d k token = bound-since-make-reset-or-load (L.state d) (made_and_called L d k) token
