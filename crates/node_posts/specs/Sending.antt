-- What an event of a node sends, at each of the node's ends.
use Rattle.std.specs.Prelude.{◌≡◌, ℕ, ◌+◌, ◌==◌, Bool, true, false, Option, Some, None, List, [], ◌∷◌, ◌++◌, map, length, slice_get, option_to_list}
use Rattle.std.specs.List.{AllZip}
use Rattle.dom_history.specs.declared.plan.Fate.{Fate}
use Rattle.dom_history.specs.declared.plan.Fate.TheVariants.{Pass}
use Rattle.dom_history.specs.Plans.{fate_of}
use Rattle.ring_messages.specs.Frames.{Message}
use Rattle.ring_links.specs.declared.notice.Notice.{Notice}
use Rattle.ring_links.specs.Notices.{notice_for}
use Rattle.ring_links.specs.Carried as links
use Rattle.node_core.specs.declared.setup.Emitted.{Emitted}
use Rattle.node_core.specs.declared.setup.Incoming as code
use Rattle.node_core.specs.declared.setup.Incoming.TheVariants as received
use Rattle.wire_links.specs.declared.wire.WireOut.{WireOut}
use Rattle.wire_links.specs.Carrying.{Wired, Posting, wire_with, told_at_once}
use Rattle.wire_links.specs.Wires.{wire_of, pushed, from_of, to_of, rows_of, next_fate, SameOut}
use Rattle.node_posts.specs.Ends.{other_at, place_of, AllZipFrom}

-- what goes to the end of the link to a node: the mark that the event sends, or its frame, if that is to that node
abbrev pub posting_if : Bool → Message → List Posting
posting_if true m = Posting.Frame m ∷ []
posting_if false m = []

abbrev pub frame_posted : ℕ → Option (ℕ × Message) → List Posting
frame_posted to None = []
frame_posted to (Some sent) = posting_if (to == sent.1.to) sent.1

abbrev pub posted_by : ℕ → ℕ → Option ℕ → Option (ℕ × Message) → List Posting
posted_by tick to (Some phase) frame = Posting.Mark phase tick ∷ []
posted_by tick to None frame = frame_posted to frame

abbrev pub posted : ℕ → ℕ → Emitted → List Posting
posted tick to e = posted_by tick to e.mark e.frame

-- a wire on which this was sent too, the last one first
abbrev pub wire_on : (ℕ → Fate) → List Posting → Wired → Wired
wire_on fate [] l = l
wire_on fate (x ∷ older) l = wire_with fate x (wire_on fate older l)

-- the end after this was sent there
abbrev pub IsOutAfter : List Posting → WireOut → WireOut → Type 0
IsOutAfter xs old new = wire_of new ≡ wire_on (fate_of (rows_of old) (from_of old) (to_of old)) xs (wire_of old)

-- each of the ends is, of what was sent to its place
abbrev pub AreOutsAfter : (ℕ → List Posting) → List WireOut → List WireOut → Type 0
AreOutsAfter xs olds news = AllZipFrom (λ at. IsOutAfter (xs at)) 0 olds news

-- the same end, from which nothing was pushed
pub record IsUnpushed (old new : WireOut) : Type 0 where
  pub same : SameOut old new
  pub in_ring : pushed new ≡ pushed old

abbrev pub AreUnpushed : List WireOut → List WireOut → Type 0
AreUnpushed olds news = AllZip IsUnpushed olds news

-- the node's link to itself: a frame to the node itself goes there
abbrev pub own_if : Bool → Message → links.Carrying code.Incoming → links.Carrying code.Incoming
own_if true m link = links.frame_sent Pass (received.Frame m) link
own_if false m link = link

abbrev pub own_by : ℕ → Option ℕ → Option (ℕ × Message) → links.Carrying code.Incoming → links.Carrying code.Incoming
own_by n (Some phase) frame link = link
own_by n None None link = link
own_by n None (Some sent) link = own_if (sent.1.to == n) sent.1 link

abbrev pub own_after : ℕ → Emitted → links.Carrying code.Incoming → links.Carrying code.Incoming
own_after n e link = own_by n e.mark e.frame link

-- the notice of a request to another node that is lost or late
abbrev pub told_on : Message → Option WireOut → List Notice
told_on m None = []
told_on m (Some o) = map (notice_for m) (option_to_list (told_at_once (next_fate o) m ((wire_of o).frames + 1)))

abbrev pub told_if : Bool → ℕ → Message → List WireOut → List Notice
told_if true n m outs = []
told_if false n m outs = told_on m (slice_get outs (place_of n m.to))

abbrev pub told_by : ℕ → Option ℕ → Option (ℕ × Message) → List WireOut → List Notice
told_by n (Some phase) frame outs = []
told_by n None None outs = []
told_by n None (Some sent) outs = told_if (sent.1.to == n) n sent.1 outs

abbrev pub told_after : ℕ → Emitted → List WireOut → List Notice
told_after n e outs = told_by n e.mark e.frame outs

-- the same end, of which entries were pushed, or none
pub record IsFlushed (old new : WireOut) : Type 0 where
  pub same : SameOut old new
  pub wire : wire_of new ≡ wire_of old
