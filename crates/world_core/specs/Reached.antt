-- What an event sends comes to the nodes of a world.
use Rattle.std.specs.Prelude.{◌≡◌, ℕ, ◌==◌, ◌-◌, Bool, true, false, ◌&&◌, IfSome, Option, Some, None, List, [], ◌∷◌, ◌++◌, slice_get}
use Rattle.dom_history.specs.declared.plan.Fate.{Fate}
use Rattle.dom_history.specs.declared.plan.FateRow.{FateRow}
use Rattle.dom_history.specs.Plans.{fate_of}
use Rattle.ring_messages.specs.Frames.{Message, caller_of}
use Rattle.node_runs.specs.Deliveries.{is_gone}
use Rattle.ring_links.specs.declared.notice.Notice.{Notice}
use Rattle.world_core.specs.declared.station.LinkFrom.{LinkFrom}
use Rattle.world_core.specs.declared.station.Station.{Station}
use Rattle.ring_links.specs.Notices.{notice_for}
use Rattle.world_core.specs.Stations.{open_ones}
use Rattle.world_core.specs.Sending.{delivered}
use Rattle.world_core.specs.SentMarks.{AreMarked}
use Rattle.node_core.specs.Nodes.{state_of}
use Rattle.world_core.specs.Listed.{IsListed}

abbrev pub notice_if : Bool → Notice → List Notice
notice_if true x = x ∷ []
notice_if false x = []

abbrev pub ins_if : Bool → List LinkFrom → List LinkFrom → List LinkFrom
ins_if true changed ins = changed
ins_if false changed ins = ins

-- the notice of a frame that comes to the node at this place
abbrev pub frame_notices : Fate → ℕ → Message → ℕ → List Notice
frame_notices fate index m n = notice_if (is_gone fate && (n == (caller_of m).node - 1)) (notice_for m index)

-- its links, to which the frame comes
abbrev pub frame_ins : ℕ → Fate → Message → ℕ → List LinkFrom → List LinkFrom
frame_ins at fate m n ins = ins_if (n == m.to - 1) (delivered at fate m ins) ins

abbrev pub came_of : List FateRow → Option (ℕ × Message) → ℕ → List Notice
came_of plan None n = []
came_of plan (Some sent) n = frame_notices (fate_of plan sent.1.from sent.1.to sent.0) sent.0 sent.1 n

abbrev pub framed_ins : List FateRow → ℕ → Option (ℕ × Message) → ℕ → List LinkFrom → List LinkFrom
framed_ins plan at None n ins = ins
framed_ins plan at (Some sent) n ins = frame_ins at (fate_of plan sent.1.from sent.1.to sent.0) sent.1 n ins

module _ {P G : Type 0} where
  -- these notices came to a node, and its links changed to these. The lists of the node whose event it is are not made anew
  pub record IsReached (own : Bool) (came : List Notice) (ins : List LinkFrom) (old new : Station P G) : Type 0 where
    pub node : new.node ≡ old.node
    pub ins_are : new.ins.items ≡ ins
    pub own_notices : own ≡ true → new.notices.items ≡ old.notices.items ++ came
    pub notices : own ≡ false → open_ones old.node old.notices.items ≡ old.notices.items → new.notices.items ≡ open_ones old.node (old.notices.items ++ came)
    pub listed : own ≡ false → IsListed old → IsListed new

  -- the same of each node
  abbrev pub AreReached : ℕ → (ℕ → List Notice) → (ℕ → List LinkFrom → List LinkFrom) → List (Station P G) → List (Station P G) → Type 0
  AreReached at came ins old new =
      (n : ℕ) (x y : Station P G) → slice_get old n ≡ Some x → slice_get new n ≡ Some y → IsReached (n == at) (came n) (ins n x.ins.items) x y

  -- an event that sends no mark may send a frame
  abbrev pub AreSent : ℕ → List FateRow → Option ℕ → Option (ℕ × Message) → List (Station P G) → List (Station P G) → Type 0
  AreSent at plan (Some phase) frame old new = IfSome (slice_get old at) (λ x. AreMarked at phase (state_of x.node).tick old new)
  AreSent at plan None frame old new = AreReached at (came_of plan frame) (framed_ins plan at frame) old new
