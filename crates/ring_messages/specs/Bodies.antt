-- What a frame carries: what a call asks of a home, or what a home answers.
use Rattle.std.specs.Prelude.{ℕ, Bool, true, false, nat_lt, List, Option, Some, None}
use Rattle.uid_names.specs.Names.{ProcName, ObjectName}
use Rattle.uid_names.specs.declared.lock_row.LockRow.{LockRow}
use Rattle.uid_names.specs.declared.mode.Mode.{Mode}
use Rattle.uid_names.specs.declared.mode.ObjKind.{ObjKind}
use Rattle.uid_names.specs.FrameKinds.{kind_number}
use Rattle.uid_names.specs.declared.frame_kind.FrameKind.{FrameKind}
use Rattle.uid_names.specs.declared.frame_kind.FrameKind.TheVariants as kinds
use Rattle.ring_messages.specs.declared.body.Body.{Body}
use Rattle.ring_messages.specs.declared.body.Body.TheVariants as bodies

-- what a call asks of a home
pub data Ask : Type 0 where
  -- object, page
  PageIn : ObjectName → ℕ → Ask
  -- object, page, grant, base, bytes
  PageOut : ObjectName → ℕ → ℕ → ℕ → List ℕ → Ask
  -- object, length, grant, base
  AttrOut : ObjectName → ℕ → ℕ → ℕ → Ask
  Lock : ObjectName → Mode → Ask
  Unlock : ObjectName → Ask
  Remove : ObjectName → Ask
  -- kind, room
  Make : ObjKind → ℕ → Ask
  -- the row behind which the rows begin
  ListLocks : Option (ObjectName × ProcName) → Ask

-- what a home answers
pub data Answer : Type 0 where
  -- stamp, bytes
  Page : ℕ → List ℕ → Answer
  Stored : ℕ → Answer
  Stale : ℕ → Answer
  NoGrant : Answer
  NoObject : Answer
  -- grant, stamp, kind, room, length
  Granted : ℕ → ℕ → ObjKind → ℕ → ℕ → Answer
  Conflict : ProcName → Mode → Answer
  Done : Answer
  Made : ObjectName → Answer
  NoSpace : Answer
  -- rows, whether more follow
  Listed : List LockRow → Bool → Answer

abbrev pub body_of_ask : Ask → Body
body_of_ask (Ask.PageIn u page) = bodies.PageIn u page
body_of_ask (Ask.PageOut u page grant base bytes) = bodies.PageOut u page grant base bytes
body_of_ask (Ask.AttrOut u n grant base) = bodies.AttrOut u n grant base
body_of_ask (Ask.Lock u m) = bodies.Lock u m
body_of_ask (Ask.Unlock u) = bodies.Unlock u
body_of_ask (Ask.Remove u) = bodies.Remove u
body_of_ask (Ask.Make kind room) = bodies.Make kind room
body_of_ask (Ask.ListLocks after) = bodies.List after

abbrev pub body_of_answer : Answer → Body
body_of_answer (Answer.Page stamp bytes) = bodies.Page stamp bytes
body_of_answer (Answer.Stored stamp) = bodies.Stored stamp
body_of_answer (Answer.Stale stamp) = bodies.Stale stamp
body_of_answer Answer.NoGrant = bodies.NoGrant
body_of_answer Answer.NoObject = bodies.NoObject
body_of_answer (Answer.Granted grant stamp kind room n) = bodies.Granted grant stamp kind room n
body_of_answer (Answer.Conflict p m) = bodies.Conflict p m
body_of_answer Answer.Done = bodies.Done
body_of_answer (Answer.Made u) = bodies.Made u
body_of_answer Answer.NoSpace = bodies.NoSpace
body_of_answer (Answer.Listed rows more) = bodies.Listed rows more

-- what a body asks; None for an answer
abbrev pub ask_of : Body → Option Ask
ask_of (bodies.PageIn u page) = Some (Ask.PageIn u page)
ask_of (bodies.PageOut u page grant base bytes) = Some (Ask.PageOut u page grant base bytes)
ask_of (bodies.AttrOut u n grant base) = Some (Ask.AttrOut u n grant base)
ask_of (bodies.Lock u m) = Some (Ask.Lock u m)
ask_of (bodies.Unlock u) = Some (Ask.Unlock u)
ask_of (bodies.Remove u) = Some (Ask.Remove u)
ask_of (bodies.Make kind room) = Some (Ask.Make kind room)
ask_of (bodies.List after) = Some (Ask.ListLocks after)
ask_of _ = None

-- what a body answers; None for a request
abbrev pub answer_of : Body → Option Answer
answer_of (bodies.Page stamp bytes) = Some (Answer.Page stamp bytes)
answer_of (bodies.Stored stamp) = Some (Answer.Stored stamp)
answer_of (bodies.Stale stamp) = Some (Answer.Stale stamp)
answer_of bodies.NoGrant = Some Answer.NoGrant
answer_of bodies.NoObject = Some Answer.NoObject
answer_of (bodies.Granted grant stamp kind room n) = Some (Answer.Granted grant stamp kind room n)
answer_of (bodies.Conflict p m) = Some (Answer.Conflict p m)
answer_of bodies.Done = Some Answer.Done
answer_of (bodies.Made u) = Some (Answer.Made u)
answer_of bodies.NoSpace = Some Answer.NoSpace
answer_of (bodies.Listed rows more) = Some (Answer.Listed rows more)
answer_of _ = None

abbrev pub kind_of : Body → FrameKind
kind_of (bodies.PageIn u page) = kinds.PageIn
kind_of (bodies.PageOut u page grant base bytes) = kinds.PageOut
kind_of (bodies.AttrOut u n grant base) = kinds.AttrOut
kind_of (bodies.Lock u m) = kinds.Lock
kind_of (bodies.Unlock u) = kinds.Unlock
kind_of (bodies.Remove u) = kinds.Remove
kind_of (bodies.Make kind room) = kinds.Make
kind_of (bodies.List after) = kinds.List
kind_of (bodies.Page stamp bytes) = kinds.Page
kind_of (bodies.Stored stamp) = kinds.Stored
kind_of (bodies.Stale stamp) = kinds.Stale
kind_of bodies.NoGrant = kinds.NoGrant
kind_of bodies.NoObject = kinds.NoObject
kind_of (bodies.Granted grant stamp kind room n) = kinds.Granted
kind_of (bodies.Conflict p m) = kinds.Conflict
kind_of bodies.Done = kinds.Done
kind_of (bodies.Made u) = kinds.Made
kind_of bodies.NoSpace = kinds.NoSpace
kind_of (bodies.Listed rows more) = kinds.Listed

-- a body asks a home
abbrev pub is_request : Body → Bool
is_request body = nat_lt (kind_number (kind_of body)) 128

-- a copy of the body may want memory
abbrev pub copy_wants : Body → Bool
copy_wants (bodies.PageOut u page grant base bytes) = true
copy_wants (bodies.Page stamp bytes) = true
copy_wants (bodies.Listed rows more) = true
copy_wants _ = false
