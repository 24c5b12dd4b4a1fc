-- Wish 12 by the contracts: two chains of the same calls that a host made, in any layer, of devices that mean one state, over memories that agree on what is listed.
-- Of the exports, saves, loads and moves are joined to the calls. Assumes nothing.
use Rattle.std.specs.Prelude.{◌≡◌, refl, List, [], ◌∷◌, map, ℕ}
use Rattle.std.proofs.Common.{ap, ◌∙◌}
use Rattle.device.specs.Views.{state_of}
use Rattle.device.specs.declared.Device.{Device}
use Rattle.promises_of_submissions.specs.LocalWrites.{AgreeAt}
use Rattle.promises_of_units.specs.Called.{Call}
use Rattle.promises_of_units.specs.Replies.{reply_to}
use Rattle.promises_of_units.specs.Asked.{Asked}
use Rattle.promises_of_same_desks.specs.ForEver.{Told}
use Rattle.promises_of_leftovers.specs.Matter.{replies_of}
use Rattle.promises_of_calls.specs.Layers.{Layer, standing}
use Rattle.promises_of_calls.specs.Chains.{Chain}
use Rattle.promises_of_calls.specs.Chains.Chain.{no_call, call_then}
use Rattle.promises_of_calls.specs.SameDesks.{Heard, hear}
use Rattle.promises_of_calls.specs.SameDesks.Heard.{beside_memory, beside_buffer, alone}

-- ---- calls, in any layer

-- what the calls of a chain said
unfoldable pub said_in : {L : Layer} {d d' : L.Device} {m m' : List ℕ} {cs : List Call} → Chain L d m cs d' m' → List L.Said
said_in no_call = []
said_in (call_then x k later) = x ∷ said_in later

pub said-is-told : {L : Layer} {d d' : L.Device} {m m' : List ℕ} {cs : List Call} (k : Chain L d m cs d' m') → said_in k ≡ replies_of L.said cs (standing L d m)
unfolding said_in replies_of
said-is-told no_call = refl
said-is-told {L} {d} {d'} {m} (call_then {d₁ = d₁} {m₁ = m₁} {c = c} {cs = cs} x k later) =
    rw (L.gives-reply d m c x d₁ m₁ k)
    (ap (λ l. L.said c (reply_to c (standing L d m)) ∷ l) (said-is-told later ∙ ap (replies_of L.said cs) (L.gives-world d m c x d₁ m₁ k)))

-- they say the same, come to the same state, and a byte that differs after them differed before
pub record ChainsAlike {L : Layer} {d d' e e' : L.Device} {m m' n n' : List ℕ} {cs : List Call} (a : Chain L d m cs d' m') (b : Chain L e n cs e' n') : Type 0 where
  pub said : said_in a ≡ said_in b
  pub state : L.state d' ≡ L.state e'
  pub bytes : (i : ℕ) → AgreeAt i m n → AgreeAt i m' n'

-- ---- the exports, with saves, loads and moves among them: each call is lent what the one before it left

-- what is heard, but for the memory that a call left
abbrev pub but_its_memory : Heard → Heard
but_its_memory (beside_memory x m) = beside_memory x []
but_its_memory (beside_buffer n buffer) = beside_buffer n buffer
but_its_memory (alone n) = alone n

-- what is heard of what is told
unfoldable pub heard_of : List Asked → List Told → List Heard
heard_of [] ts = []
heard_of (a ∷ qs) [] = []
heard_of (a ∷ qs) (t ∷ ts) = hear a t ∷ heard_of qs ts

pub next-heard : {x y : Heard} {xs ys : List Heard} → x ≡ y → xs ≡ ys → x ∷ xs ≡ y ∷ ys
next-heard e f = rw (e, f)

pub record ExportsAlike (xs ys : List Heard) (d e : Device) : Type 0 where
  pub heard : map but_its_memory xs ≡ map but_its_memory ys
  pub state : state_of d ≡ state_of e
