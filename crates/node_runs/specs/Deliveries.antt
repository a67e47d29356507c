-- What a fault plan allows of a run: on each link frames are taken in the order of delivery, and each lost or late
-- frame is told once.
use Rattle.std.specs.Prelude.{◌≢◌, ℕ, zero, suc, ◌+◌, ◌==◌, Bool, true, false, ◌&&◌, Option, Some, None, List, [], ◌∷◌, ◌++◌, length, IsTrue, All, AllPairs}
use Rattle.dom_history.specs.declared.event.What.{What}
use Rattle.dom_history.specs.declared.event.What.TheVariants.{Take, Notice}
use Rattle.dom_history.specs.declared.plan.Fate.{Fate}
use Rattle.dom_history.specs.declared.plan.Fate.TheVariants.{Pass, Lose, Twice, Late}
use Rattle.dom_history.specs.declared.plan.FateRow.{FateRow}
use Rattle.dom_history.specs.Events.{Happening}
use Rattle.dom_history.specs.Plans.{fate_of, IsPlan}
use Rattle.node_runs.specs.Setups.{Setup}
use Rattle.node_runs.specs.Runs.{World, world_of, IsRun}

-- the frame is delivered in its place
abbrev pub in_place : ℕ → Fate → List ℕ
in_place j Pass = j ∷ []
in_place j (Twice n) = j ∷ []
in_place j _ = []

-- a copy of frame i falls behind frame j; where that is behind no later frame, behind itself
abbrev pub falls_behind : ℕ → ℕ → Fate → Bool
falls_behind i j (Twice n) = i + n == j
falls_behind i j (Late n) = i + n == j
falls_behind i j _ = false

abbrev pub copy_if : Bool → ℕ → List ℕ
copy_if true i = i ∷ []
copy_if false i = []

-- the copies of the first frames that fall behind frame j
abbrev pub copies : (ℕ → Fate) → ℕ → ℕ → List ℕ
copies fate j zero = []
copies fate j (suc i) = copies fate j i ++ copy_if (falls_behind (suc i) j (fate (suc i))) (suc i)

-- the delivery list of a link on which so many frames were sent
abbrev pub deliveries : (ℕ → Fate) → ℕ → List ℕ
deliveries fate zero = []
deliveries fate (suc j) = deliveries fate j ++ (in_place (suc j) (fate (suc j)) ++ copies fate (suc j) (suc j))

-- the frame that the event takes, if it is on this link
abbrev pub taken_on : ℕ → ℕ → ℕ → What → List ℕ
taken_on from to node (Take sender index) = copy_if ((sender == from) && (node == to)) index
taken_on from to node _ = []

-- the frames that were taken on a link, the first one first
abbrev pub takes_on : ℕ → ℕ → List Happening → List ℕ
takes_on from to [] = []
takes_on from to (e ∷ older) = takes_on from to older ++ taken_on from to e.place.node e.what

-- the frame that the event tells as lost or late
abbrev pub noticed_by : What → List (ℕ × ℕ × ℕ)
noticed_by (Notice p from to index) = (from, to, index) ∷ []
noticed_by _ = []

abbrev pub noticed_in : List Happening → List (ℕ × ℕ × ℕ)
noticed_in [] = []
noticed_in (e ∷ older) = noticed_by e.what ++ noticed_in older

abbrev pub is_gone : Fate → Bool
is_gone Lose = true
is_gone (Late n) = true
is_gone _ = false

-- xs are the first of ys
abbrev pub is_prefix : List ℕ → List ℕ → Bool
is_prefix [] ys = true
is_prefix (x ∷ xs) [] = false
is_prefix (x ∷ xs) (y ∷ ys) = (x == y) && is_prefix xs ys

abbrev pub sent_on : Option World → ℕ → ℕ → ℕ
sent_on None from to = 0
sent_on (Some w) from to = length (w.frames from to)

-- a run by the plan
pub record IsPlanned (s : Setup) (plan : List FateRow) (es : List Happening) : Type 0 where
  pub run : IsRun s es
  pub plan_kept : IsPlan plan
  pub delivered : (from to : ℕ) → IsTrue (is_prefix (takes_on from to es) (deliveries (λ i. fate_of plan from to i) (sent_on (world_of s es) from to)))
  pub gone : All (λ f. IsTrue (is_gone (fate_of plan f.0 f.1 f.2))) (noticed_in es)
  pub once : AllPairs (λ f g. f ≢ g) (noticed_in es)
