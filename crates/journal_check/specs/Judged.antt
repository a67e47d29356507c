-- The places of events by the plan, as they are kept line by line, and the first line that is at fault.
use Rattle.std.specs.Prelude.{◌≡◌, ℕ, ◌+◌, ◌*◌, ◌<◌, ◌≤◌, ◌^◌, nat_le, if◌then◌else◌, Bool, true, false, not, ◌==◌, ◌&&◌, ◌||◌, All, Option, Some, None, IfSome, List, [], ◌∷◌, ◌++◌, length, map}
use Rattle.uid_names.specs.declared.limits.TheConstants.{MAX_NODES}
use Rattle.dom_history.specs.declared.event.What.{What}
use Rattle.dom_history.specs.declared.event.What.TheVariants.{Notice}
use Rattle.dom_history.specs.declared.event.Sent.{Sent}
use Rattle.dom_history.specs.declared.plan.FateRow.{FateRow}
use Rattle.dom_history.specs.Events.{Happening}
use Rattle.dom_history.specs.Plans.{fate_of}
use Rattle.fault_handler.specs.Desks.{IsNode}
use Rattle.node_runs.specs.Deliveries.{is_gone, taken_on}
use Rattle.world_runs.specs.NamedNodes.{NamesNodes}
use Rattle.world_runs.specs.Gone.{was_told}
use Rattle.run_laws.specs.NextNumbers.{SayNextNumbers}
use Rattle.run_journals.specs.Places.{Counts, sent_in, is_news, keeps_plan, AllKeepPlan}
use Rattle.run_journals.specs.Matching.{Taken, at_line, takes_with_lines}
use Rattle.journal_check.specs.Links.{at_link}
use Rattle.journal_check.specs.Orders.{IsOrder}
use Rattle.journal_check.specs.declared.places.Places.{Places}

-- the lesser of two lines, where there are two
abbrev pub least_of : Option ℕ → Option ℕ → Option ℕ
least_of None other = other
least_of (Some x) None = Some x
least_of (Some x) (Some y) = if nat_le x y then Some x else Some y

-- the event of this line tells of a frame that is not lost or late, or was told before
abbrev pub is_stale : List FateRow → List Happening → What → Bool
is_stale plan older (Notice p from to index) = not (is_news plan older from to index)
is_stale plan older what = false

abbrev pub line_if : Bool → ℕ → Option ℕ
line_if true line = Some line
line_if false line = None

-- the line of the first such event; the last event stands first, so its line is as many as there are
abbrev pub stale_line : List FateRow → List Happening → Option ℕ
stale_line plan [] = None
stale_line plan (e ∷ older) = least_of (stale_line plan older) (line_if (is_stale plan older e.what) (length older + 1))

-- what was taken on each link
abbrev pub Takes : Type 0
Takes = ℕ → ℕ → List Taken

-- so many frames were sent on each link, these were taken there, and this line is the first that told of a frame that is not news
pub record KeepsPlaces (counts : Counts) (taken : Takes) (notice : Option ℕ) (p : Places) : Type 0 where
  pub count : length p.orders.items ≡ p.nodes * p.nodes
  pub order : (from to : ℕ) → IsNode p.nodes from → IsNode p.nodes to → IfSome (at_link p.nodes from to p.orders.items) (IsOrder (fate_of p.plan.now from to) (counts from to) (taken from to))
  pub few : (from to : ℕ) → counts from to < 2 ^ 63
  pub notice_is : p.notice ≡ notice

-- what holds of whatever places are kept of
abbrev pub WhereKept : Places → (Counts → Takes → Option ℕ → Type 0) → Type 0
WhereKept p P = (counts : Counts) (taken : Takes) (notice : Option ℕ) → KeepsPlaces counts taken notice p → P counts taken notice

-- the places of these events are kept, of which each names nodes alone
pub record ArePlaces (plan : List FateRow) (nodes : ℕ) (es : List Happening) (p : Places) : Type 0 where
  pub plan_is : p.plan.now ≡ plan
  pub nodes_are : p.nodes ≡ nodes
  pub few : nodes ≤ MAX_NODES
  pub named : All (NamesNodes nodes) es
  pub keeps : KeepsPlaces (sent_in es) (λ from to. takes_with_lines from to es) (stale_line plan es) p

-- whether the frame of which an event tells was told before it
abbrev pub TellsAgain : List Happening → What → Bool → Type 0
TellsAgain older (Notice p from to index) again = again ≡ was_told older (from, to, index)
TellsAgain older what again = Unit {0}

-- few events happened, and this one is the next, by this line: a frame that it sends has the next number of its link, and whether that of which it
-- tells was told before is this
pub record IsNextEvent (es : List Happening) (e : Happening) (line : ℕ) (again : Bool) : Type 0 where
  pub few : length es < 2 ^ 40
  pub line_is : line ≡ length es + 1
  pub tells : TellsAgain es e.what again
  pub numbers : SayNextNumbers (e ∷ es)

-- the first event that has no place by the plan stands at this line; or each has its place
abbrev pub IsLeastFault : List FateRow → List Happening → Option ℕ → Type 0
IsLeastFault plan es None = AllKeepPlan plan (sent_in es) es
IsLeastFault plan es (Some line) =
    (newer : List Happening) × (e : Happening) × (older : List Happening) × (es ≡ newer ++ e ∷ older) × (line ≡ length older + 1) ×
    AllKeepPlan plan (sent_in es) older × (keeps_plan plan (sent_in es) older e ≡ false)

-- what happens tells of a frame that was told before, or is not lost or late
abbrev pub tells_old : List FateRow → Bool → What → Bool
tells_old plan again (Notice p from to index) = again || not (is_gone (fate_of plan from to index))
tells_old plan again what = false

-- what was taken, with what an event of this line takes at a node
abbrev pub taken_then : Takes → ℕ → ℕ → What → Takes
taken_then taken line node what from to = taken from to ++ map (at_line line) (taken_on from to node what)

-- how many were sent, with what a node sends
abbrev pub sent_then : Counts → ℕ → Option Sent → Counts
sent_then counts node None = counts
sent_then counts node (Some sent) = λ from to. if (from == node) && (to == sent.to) then counts from to + 1 else counts from to

-- the first line that told of what is no news, with what happens by this line
abbrev pub notice_then : List FateRow → Option ℕ → ℕ → Bool → What → Option ℕ
notice_then plan notice line again what = least_of notice (line_if (tells_old plan again what) line)

-- few frames were sent, and what a node sends has the next number of its link
pub record IsNextSent (counts : Counts) (node : ℕ) (sent : Option Sent) : Type 0 where
  pub few : (from to : ℕ) → counts from to + 1 < 2 ^ 63
  pub number : IfSome sent (λ x. x.index ≡ counts node x.to + 1)
