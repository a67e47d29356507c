-- A link whose entries carry what is received of them.
use Rattle.std.specs.Prelude.{◌≡◌, ℕ, ◌+◌, ◌==◌, Bool, true, false, not, Some, List, [], ◌∷◌, ◌++◌, map, filter, length, All}
use Rattle.dom_history.specs.declared.plan.Fate.{Fate}
use Rattle.node_runs.specs.Deliveries.{in_place}
use Rattle.node_runs.specs.Runs.{numbered}
use Rattle.world_runs.specs.Waiting as plain
use Rattle.world_runs.specs.Links as links
use Rattle.ring_links.specs.declared.entry.Waiting.{Waiting}
use Rattle.ring_links.specs.declared.entry.Waiting.TheVariants.{Copy, Mark}
use Rattle.ring_links.specs.declared.entry.Entry.{Entry}
use Rattle.ring_links.specs.declared.link.Later.{Later}

-- how many frames were sent, the entries that wait, and the copies that fall later, by number
pub record Carrying (A : Type 0) : Type 0 where
  pub frames : ℕ
  pub queue : List (Entry A)
  pub later : List (Later A)

abbrev pub empty_link : {A : Type 0} → Carrying A
empty_link = record { frames = 0; queue = []; later = [] }

-- a copy of the frame of this number, and the mark of a phase
abbrev pub copy_of : {A : Type 0} → A → ℕ → Entry A
copy_of x index = record { waiting = Copy index; received = x }

abbrev pub mark_of : {A : Type 0} → A → ℕ → Entry A
mark_of x phase = record { waiting = Mark phase; received = x }

-- it is a mark
abbrev pub is_mark_name : Waiting → Bool
is_mark_name (Copy index) = false
is_mark_name (Mark phase) = true

abbrev pub is_mark : {A : Type 0} → Entry A → Bool
is_mark e = is_mark_name e.waiting

abbrev pub later_copy : {A : Type 0} → A → links.Later → Later A
later_copy x c = record { index = c.index; behind = c.behind; received = x }

-- the copies that fall behind this frame, and the others
abbrev pub falling : {A : Type 0} → ℕ → List (Later A) → List (Entry A)
falling j later = map (λ c. copy_of c.received c.index) (filter (λ c. c.behind == j) later)

abbrev pub staying : {A : Type 0} → ℕ → List (Later A) → List (Later A)
staying j later = filter (λ c. not (c.behind == j)) later

-- a copy of the next frame, where so many were sent, that falls behind so many later ones
abbrev pub own_copy : {A : Type 0} → ℕ → ℕ → A → Later A
own_copy frames after x = record { index = frames + 1; behind = frames + 1 + after; received = x }

-- a frame of this fate is sent
abbrev pub frame_sent : {A : Type 0} → Fate → A → Carrying A → Carrying A
frame_sent fate x l =
    let j = l.frames + 1 in
    let later = l.later ++ map (later_copy x) (links.later_of j fate) in
    record {
      frames = j;
      queue = l.queue ++ (map (copy_of x) (in_place j fate) ++ falling j later);
      later = staying j later;
    }

abbrev pub mark_sent : {A : Type 0} → ℕ → A → Carrying A → Carrying A
mark_sent phase x l = record l { queue = l.queue ++ mark_of x phase ∷ [] }

-- the link without what its entries carry
abbrev pub plain_name : Waiting → plain.Entry
plain_name (Copy index) = plain.Entry.Copy index
plain_name (Mark phase) = plain.Entry.Mark phase

abbrev pub plain_later : {A : Type 0} → Later A → links.Later
plain_later c = record { index = c.index; behind = c.behind }

abbrev pub plain_link : {A : Type 0} → Carrying A → links.Link
plain_link l =
    record { frames = l.frames; queue = map (λ e. plain_name e.waiting) l.queue; later = map plain_later l.later }

-- an entry carries the frame of its number, of frames with the last one first
abbrev pub IsFrameOf : {A : Type 0} → List A → A → Waiting → Type 0
IsFrameOf sent x (Copy index) = numbered index sent ≡ Some x
IsFrameOf sent x (Mark phase) = Unit {0}

-- each entry and each copy carries the frame of its number
pub record CarriesFrames {A : Type 0} (sent : List A) (l : Carrying A) : Type 0 where
  pub frames : length sent ≡ l.frames
  pub queue : All (λ e. IsFrameOf sent e.received e.waiting) l.queue
  pub later : All (λ c. numbered c.index sent ≡ Some c.received) l.later
