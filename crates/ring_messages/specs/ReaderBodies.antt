-- The reader's bodies and frames, kind by kind.
-- It decides nothing: which bytes are a frame stands in Spelled, and what a frame's bytes are in Spelling.
use Rattle.std.specs.Prelude.{ℕ, nat_le, ◌&&◌, if◌then◌else◌, List, Option, Some, None}
use Rattle.uid_names.specs.declared.frame_kind.FrameKind.{FrameKind}
use Rattle.uid_names.specs.declared.frame_kind.FrameKind.TheVariants as kinds
use Rattle.uid_names.specs.Wires.{wire_room}
use Rattle.uid_names.specs.declared.limits.TheConstants.{LISTED_ROWS}
use Rattle.ring_messages.specs.declared.body.Body.{Body}
use Rattle.ring_messages.specs.declared.body.Body.TheVariants.{PageIn, PageOut, AttrOut, Lock, Unlock, Remove, Make, List as ListLocks, Page, Stored, Stale, NoGrant, NoObject, Granted, Conflict, Done, Made, NoSpace, Listed}
use Rattle.ring_messages.specs.declared.frame.Head.{Head}
use Rattle.ring_messages.specs.Frames.{Message}
use Rattle.ring_messages.specs.Spelling.{framed}
use Rattle.uid_names.specs.Steps.{◌>>=◌}
use Rattle.ring_messages.specs.ReaderSteps.{◌then◌, whole, end_at}
use Rattle.ring_messages.specs.ReaderFields.{byte_at, be64_at, whole_at, page_at, length_at, room_at, count_at, uid_at, own_at, proc_at, mode_at, object_at, flag_at, after_of}
use Rattle.ring_messages.specs.ReaderRows.{rows_at, is_rising}

-- rows, few and rising, and whether more follow
unfoldable pub listed_at : List ℕ → Option Body
listed_at bytes = do
  count ← byte_at bytes
  more ← flag_at count.1
  rows ← whole (rows_at count.0) (λ rows. rows) more.1
  if nat_le count.0 LISTED_ROWS && is_rising rows then Some (Listed rows more.0) else None

-- a body without fields
abbrev pub empty_at : Body → List ℕ → Option Body
empty_at body bytes = do
  _ ← end_at bytes
  Some body

-- the body of a kind that is sent to a node, in a version
unfoldable pub body_at : ℕ → FrameKind → ℕ → List ℕ → Option Body
body_at version kinds.PageIn to = whole (own_at to then page_at (wire_room version)) (λ x. PageIn x.0 x.1)
body_at version kinds.PageOut to = whole (own_at to then page_at (wire_room version) then count_at then count_at then whole_at version) (λ x. PageOut x.0 x.1.0 x.1.1.0 x.1.1.1.0 x.1.1.1.1)
body_at version kinds.AttrOut to = whole (own_at to then length_at (wire_room version) then count_at then count_at) (λ x. AttrOut x.0 x.1.0 x.1.1.0 x.1.1.1)
body_at version kinds.Lock to = whole (own_at to then mode_at) (λ x. Lock x.0 x.1)
body_at version kinds.Unlock to = whole (own_at to) (λ u. Unlock u)
body_at version kinds.Remove to = whole (own_at to) (λ u. Remove u)
body_at version kinds.Make to = whole (object_at then room_at (wire_room version)) (λ x. Make x.0 x.1)
body_at version kinds.List to = λ bytes. whole (flag_at then be64_at then byte_at then byte_at) (λ x. x) bytes >>= λ x. after_of x.0 x.1.0 x.1.1.0 x.1.1.1 >>= λ after. Some (ListLocks after)
body_at version kinds.Page to = whole (count_at then whole_at version) (λ x. Page x.0 x.1)
body_at version kinds.Stored to = whole count_at (λ n. Stored n)
body_at version kinds.Stale to = whole count_at (λ n. Stale n)
body_at version kinds.NoGrant to = empty_at NoGrant
body_at version kinds.NoObject to = empty_at NoObject
body_at version kinds.Granted to = whole (count_at then count_at then object_at then room_at (wire_room version) then length_at (wire_room version)) (λ x. Granted x.0 x.1.0 x.1.1.0 x.1.1.1.0 x.1.1.1.1)
body_at version kinds.Conflict to = whole (proc_at then mode_at) (λ x. Conflict x.0 x.1)
body_at version kinds.Done to = empty_at Done
body_at version kinds.Made to = whole uid_at (λ u. Made u)
body_at version kinds.NoSpace to = empty_at NoSpace
body_at version kinds.Listed to = listed_at

-- the frame of a header, from the bytes behind it
abbrev pub frame_at : Head → List ℕ → Option Message
frame_at h bytes = body_at h.version h.kind h.to bytes >>= λ b. Some (framed h b)
