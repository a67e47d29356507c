-- A link whose entries go through a ring, with word of lost and late replies in their places.
use Rattle.std.specs.Prelude.{◌≡◌, ℕ, ◌+◌, Bool, true, false, not, ◌&&◌, ◌⊎◌, Option, Some, None, List, [], ◌∷◌, ◌++◌, map}
use Rattle.dom_history.specs.declared.plan.Fate.{Fate}
use Rattle.dom_history.specs.Events.{Happening}
use Rattle.ring_messages.specs.Frames.{Message}
use Rattle.ring_messages.specs.Bodies.{is_request}
use Rattle.ring_messages.specs.Spelling.{spelling}
use Rattle.node_runs.specs.Deliveries.{in_place, is_gone}
use Rattle.node_runs.specs.Runs.{numbered}
use Rattle.world_runs.specs.Sendings.{Sending, sendings}
use Rattle.world_runs.specs.Waiting as plain
use Rattle.world_runs.specs.Links as links
use Rattle.ring_links.specs.declared.entry.Waiting.{Waiting}
use Rattle.ring_links.specs.declared.entry.Waiting.TheVariants as waiting
use Rattle.ring_links.specs.declared.entry.Entry.{Entry}
use Rattle.ring_links.specs.declared.link.Later.{Later}
use Rattle.ring_links.specs.Carried as carrying
use Rattle.wire_links.specs.declared.carried.Parcel.{Parcel}
use Rattle.wire_links.specs.declared.carried.Parcel.TheVariants as parcel
use Rattle.wire_links.specs.declared.carried.Carried.{Carried}
use Rattle.wire_links.specs.declared.carried.Carried.TheVariants as carried

-- how many frames were sent, all that was ever put on the link, and the copies that fall behind a later frame
pub record Wired : Type 0 where
  pub frames : ℕ
  pub put : List Carried
  pub later : List (Later Parcel)

abbrev pub empty_wire : Wired
empty_wire = record { frames = 0; put = []; later = [] }

abbrev pub gone_of : Message → ℕ → Carried
gone_of m index = carried.Gone m.proc m.number index m.tick

abbrev pub gone_if : Bool → Message → ℕ → List Carried
gone_if true m index = gone_of m index ∷ []
gone_if false m index = []

-- a reply that is lost or late leaves word in its place
abbrev pub told_in_place : Fate → Message → ℕ → List Carried
told_in_place fate m index = gone_if (is_gone fate && not (is_request m.body)) m index

abbrev pub index_if : Bool → ℕ → Option ℕ
index_if true index = Some index
index_if false index = None

-- of a request that is lost or late its sender is told at once
abbrev pub told_at_once : Fate → Message → ℕ → Option ℕ
told_at_once fate m index = index_if (is_gone fate && is_request m.body) index

-- a frame of this fate is sent
abbrev pub frame_sent : Fate → Message → Wired → Wired
frame_sent fate m l =
    let j = l.frames + 1 in
    let later = l.later ++ map (carrying.later_copy (parcel.Frame (spelling m))) (links.later_of j fate) in
    record {
      frames = j;
      put = l.put ++ (told_in_place fate m j ++ map carried.Put (map (carrying.copy_of (parcel.Frame (spelling m))) (in_place j fate) ++ carrying.falling j later));
      later = carrying.staying j later;
    }

abbrev pub mark_sent : ℕ → ℕ → Wired → Wired
mark_sent phase tick l = record l { put = l.put ++ carried.Put (carrying.mark_of (parcel.Mark tick) phase) ∷ [] }

-- what was put, without word of lost and late replies
abbrev pub kept : List Carried → List (Entry Parcel)
kept [] = []
kept (carried.Put e ∷ xs) = e ∷ kept xs
kept (carried.Gone proc number index tick ∷ xs) = kept xs

abbrev pub link_in : Wired → carrying.Carrying Parcel
link_in l = record { frames = l.frames; queue = kept l.put; later = l.later }

-- what is sent on a link: a frame, or the mark of a phase with its tick
pub data Posting : Type 0 where
  Frame : Message → Posting
  Mark : (phase : ℕ) → (tick : ℕ) → Posting

abbrev pub sending_of : Posting → Sending
sending_of (Posting.Frame m) = Sending.Frame
sending_of (Posting.Mark phase tick) = Sending.Mark phase

abbrev pub wire_with : (ℕ → Fate) → Posting → Wired → Wired
wire_with fate (Posting.Frame m) l = frame_sent (fate (l.frames + 1)) m l
wire_with fate (Posting.Mark phase tick) l = mark_sent phase tick l

-- the link on which this was sent, the last one first
abbrev pub wire_after : (ℕ → Fate) → List Posting → Wired
wire_after fate [] = empty_wire
wire_after fate (x ∷ older) = wire_with fate x (wire_after fate older)

-- the frames that were sent, the last one first
abbrev pub frames_of : List Posting → List Message
frames_of [] = []
frames_of (Posting.Frame m ∷ older) = m ∷ frames_of older
frames_of (Posting.Mark phase tick ∷ older) = frames_of older

-- what an entry carries of each
abbrev pub parcels_of : List Posting → List Parcel
parcels_of xs = map (λ m. parcel.Frame (spelling m)) (frames_of xs)

-- the entries that were put, as the runs name them
abbrev pub names_of : List Carried → List plain.Entry
names_of xs = map (λ e. carrying.plain_name e.waiting) (kept xs)

-- what a wire of these fates puts of what was sent, so named
abbrev pub names_put : (ℕ → Fate) → List Posting → List plain.Entry
names_put fate xs = names_of (wire_after fate xs).put

-- it is what these events sent on the link
abbrev pub AreSentBy : ℕ → ℕ → List Happening → List Posting → Type 0
AreSentBy from to es xs = map sending_of xs ≡ sendings from to es

-- it was sent
abbrev pub IsPosted : Posting → List Posting → Type 0
IsPosted x [] = ⊥
IsPosted x (y ∷ older) = (y ≡ x) ⊎ IsPosted x older

-- a mark carries the tick with which it was sent
abbrev pub IsMarkIn : List Posting → Parcel → Waiting → Type 0
IsMarkIn xs received (waiting.Copy index) = Unit {0}
IsMarkIn xs received (waiting.Mark phase) = (tick : ℕ) × IsPosted (Posting.Mark phase tick) xs × (received ≡ parcel.Mark tick)

-- word of a lost or late frame is of a reply that is
pub record IsGoneReply (fate : ℕ → Fate) (xs : List Posting) (c : Carried) (index : ℕ) : Type 0 where
  pub frame : Message
  pub sent : numbered index (frames_of xs) ≡ Some frame
  pub gone : is_gone (fate index) ≡ true
  pub reply : is_request frame.body ≡ false
  pub says : c ≡ gone_of frame index

abbrev pub IsWordOf : (ℕ → Fate) → List Posting → Carried → Type 0
IsWordOf fate xs (carried.Put e) = IsMarkIn xs e.received e.waiting
IsWordOf fate xs (carried.Gone proc number index tick) = IsGoneReply fate xs (carried.Gone proc number index tick) index
