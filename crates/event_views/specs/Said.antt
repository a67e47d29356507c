-- What a frame says, and what a reply says with the request that it answers.
use Rattle.std.specs.Prelude.{ℕ, Option, Some, None}
use Rattle.uid_names.specs.Names.{ObjectName}
use Rattle.uid_names.specs.declared.mode.Mode.{Mode}
use Rattle.ring_messages.specs.Bodies.{kind_of}
use Rattle.ring_messages.specs.Frames.{Message}
use Rattle.ring_messages.specs.declared.body.Body.{Body}
use Rattle.ring_messages.specs.declared.body.Body.TheVariants as bodies
use Rattle.event_views.specs.declared.said.FrameSaid.{FrameSaid}

-- the object that a body names
abbrev pub uid_in : Body → Option ObjectName
uid_in (bodies.PageIn u page) = Some u
uid_in (bodies.PageOut u page grant base bytes) = Some u
uid_in (bodies.AttrOut u n grant base) = Some u
uid_in (bodies.Lock u m) = Some u
uid_in (bodies.Unlock u) = Some u
uid_in (bodies.Remove u) = Some u
uid_in (bodies.Made u) = Some u
uid_in _ = None

-- the page of it
abbrev pub page_in : Body → Option ℕ
page_in (bodies.PageIn u page) = Some page
page_in (bodies.PageOut u page grant base bytes) = Some page
page_in _ = None

-- the mode that it asks for, or that stands against it
abbrev pub mode_in : Body → Option Mode
mode_in (bodies.Lock u m) = Some m
mode_in (bodies.Conflict p m) = Some m
mode_in _ = None

-- what a frame says
abbrev pub said_of : Message → FrameSaid
said_of m = record { kind = kind_of m.body; uid = uid_in m.body; page = page_in m.body; mode = mode_in m.body }

-- the first of two that is there
abbrev pub or_else : {X : Type 0} → Option X → Option X → Option X
or_else None second = second
or_else (Some x) second = Some x

-- what a reply says that answers a request: what it does not say itself is as the request has it
abbrev pub answering : FrameSaid → FrameSaid → FrameSaid
answering asked s = record { kind = s.kind; uid = or_else s.uid asked.uid; page = or_else s.page asked.page; mode = or_else s.mode asked.mode }
