-- What comes to a node of a world when a frame is sent.
use Rattle.std.specs.Prelude.{ℕ, Bool, true, false, Option, Some, None, List, [], ◌∷◌, ◌++◌, slice_get, slice_set}
use Rattle.dom_history.specs.declared.plan.Fate.{Fate}
use Rattle.ring_messages.specs.Frames.{Message}
use Rattle.ring_links.specs.Carried.{frame_sent, mark_sent}
use Rattle.node_core.specs.declared.setup.Incoming.TheVariants as received
use Rattle.node_core.specs.Nodes.{Noted}
use Rattle.ring_links.specs.declared.notice.Notice.{Notice}
use Rattle.world_core.specs.declared.station.LinkFrom.{LinkFrom}
use Rattle.world_core.specs.Stations.{open_ones}

-- a frame comes to a link
abbrev pub link_with : Fate → Message → LinkFrom → LinkFrom
link_with fate m l = record l { link = frame_sent fate (received.Frame m) l.link }

abbrev pub delivered_to : ℕ → Fate → Message → List LinkFrom → Option LinkFrom → List LinkFrom
delivered_to at fate m ins None = ins
delivered_to at fate m ins (Some l) = slice_set ins at (link_with fate m l)

-- a frame comes to the link from the node at this place
abbrev pub delivered : ℕ → Fate → Message → List LinkFrom → List LinkFrom
delivered at fate m ins = delivered_to at fate m ins (slice_get ins at)

-- a mark comes to a link
abbrev pub mark_with : ℕ → ℕ → LinkFrom → LinkFrom
mark_with phase tick l = record l { link = mark_sent phase (received.Mark tick) l.link }

abbrev pub marked_to : ℕ → ℕ → ℕ → List LinkFrom → Option LinkFrom → List LinkFrom
marked_to at phase tick ins None = ins
marked_to at phase tick ins (Some l) = slice_set ins at (mark_with phase tick l)

-- a mark comes to the link from the node at this place
abbrev pub marked : ℕ → ℕ → ℕ → List LinkFrom → List LinkFrom
marked at phase tick ins = marked_to at phase tick ins (slice_get ins at)

module _ {P : Type 0} where
  -- the notices of a node; those whose call is open, unless the node's own event is under way
  abbrev pub still : Bool → Noted P → List Notice → List Notice
  still true node notices = notices
  still false node notices = open_ones node notices

  -- one more
  abbrev pub told : Bool → Noted P → List Notice → Notice → List Notice
  told own node notices x = still own node (notices ++ x ∷ [])
