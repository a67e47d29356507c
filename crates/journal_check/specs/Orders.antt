-- The order of a link's frames, as it is kept while they are sent and taken.
use Rattle.std.specs.Prelude.{◌≡◌, ◌⊎◌, ℕ, ◌<◌, Option, Some, None, List, [], ◌∷◌, ◌++◌, map, slice_get}
use Rattle.uid_names.specs.Steps.{◌>>=◌}
use Rattle.dom_history.specs.declared.plan.Fate.{Fate}
use Rattle.node_runs.specs.Deliveries.{copies, deliveries}
use Rattle.world_runs.specs.Links as links
use Rattle.world_runs.specs.Waiting as plain
use Rattle.ring_links.specs.Carried.{Carrying, plain_name, plain_later}
use Rattle.ring_links.specs.declared.entry.Waiting.{Waiting}
use Rattle.ring_links.specs.declared.entry.Waiting.TheVariants.{Copy, Mark}
use Rattle.run_journals.specs.Matching.{Taken, AreMatched, AreApart}
use Rattle.journal_check.specs.declared.order.Early.{Early}
use Rattle.journal_check.specs.declared.order.Order.{Order}

-- the number of the frame that waits; a mark is none
abbrev pub copy_index : Waiting → Option ℕ
copy_index (Copy index) = Some index
copy_index (Mark phase) = None

-- the frame that is delivered next
abbrev pub next_index : {A : Type 0} → Carrying A → Option ℕ
next_index l = slice_get l.queue 0 >>= λ e. copy_index e.waiting

abbrev pub taken_of : Early → Taken
taken_of e = record { index = e.index; line = e.line }

-- these frames wait, and nothing else
abbrev pub AreWaiting : {A : Type 0} → Carrying A → List ℕ → Type 0
AreWaiting l waiting = map (λ e. plain_name e.waiting) l.queue ≡ map plain.Entry.Copy waiting

module _ {A : Type 0} where
  -- so far what is delivered and what was taken are the same; what waits and what was taken early may still be
  pub record IsHalfway (delivered : List ℕ) (taken : List Taken) (l : Carrying A) (early : List Early) : Type 0 where
    pub common : List Taken
    pub waiting : List ℕ
    pub queue : AreWaiting l waiting
    pub delivered_are : delivered ≡ map (λ t. t.index) common ++ waiting
    pub taken_are : taken ≡ common ++ map taken_of early

  -- or they differ, first at what was taken at this line
  abbrev pub IsHalfwayAs : Option ℕ → List ℕ → List Taken → Carrying A → List Early → Type 0
  IsHalfwayAs None delivered taken l early = IsHalfway delivered taken l early
  IsHalfwayAs (Some line) delivered taken l early = AreApart delivered taken line

  -- each frame was taken in its place
  pub record IsMatching (delivered : List ℕ) (taken : List Taken) (l : Carrying A) (early : List Early) : Type 0 where
    pub waiting : List ℕ
    pub queue : AreWaiting l waiting
    pub matched : AreMatched delivered taken waiting (map taken_of early)

  abbrev pub IsOrderAs : Option ℕ → List ℕ → List Taken → Carrying A → List Early → Type 0
  IsOrderAs None delivered taken l early = IsMatching delivered taken l early
  IsOrderAs (Some line) delivered taken l early = AreApart delivered taken line

-- the copies that fall behind later frames are kept, where so many were sent
abbrev pub AreKeptLater : (ℕ → Fate) → ℕ → List links.Later → Type 0
AreKeptLater fate count later = (j : ℕ) → count < j → copies fate j count ≡ links.falling j later

-- behind so many frames of these fates, and these that were taken
pub record IsOrder (fate : ℕ → Fate) (count : ℕ) (taken : List Taken) (o : Order) : Type 0 where
  pub frames : o.waiting.frames ≡ count
  pub later : AreKeptLater fate count (map plain_later o.waiting.later)
  pub order : IsOrderAs o.fault (deliveries fate count) taken o.waiting o.early.items

-- what waits and what was taken early is matched as far as it can be
abbrev pub IsSettled : Order → Order → Type 0
IsSettled old new = (delivered : List ℕ) (taken : List Taken) → IsHalfwayAs old.fault delivered taken old.waiting old.early.items → IsOrderAs new.fault delivered taken new.waiting new.early.items

-- the line of the first frame that was taken out of its place, as it is kept: once no more are sent, one that was taken early is too
abbrev pub line_or : Option ℕ → Option Early → Option ℕ
line_or (Some line) early = Some line
line_or None None = None
line_or None (Some e) = Some e.line

abbrev pub fault_in : Order → Option ℕ
fault_in o = line_or o.fault (slice_get o.early.items 0)

-- where a frame was taken at this line another is delivered, or none is
abbrev pub IsFaultAt : List ℕ → List Taken → ℕ → Type 0
IsFaultAt delivered taken line = AreApart delivered taken line ⊎ ((first : Taken) × (more : List Taken) × (first.line ≡ line) × AreMatched delivered taken [] (first ∷ more))

-- the first frame that was taken out of its place, at this line; or all were taken in their places
abbrev pub IsFirstFault : List ℕ → List Taken → Option ℕ → Type 0
IsFirstFault delivered taken None = (waiting : List ℕ) × AreMatched delivered taken waiting []
IsFirstFault delivered taken (Some line) = IsFaultAt delivered taken line
