-- What is left of a stream's dialogue at each of its stages.
use Rattle.std.specs.Prelude.{◌≡◌, Bool, true, false, Option, Some, None, List}
use Rattle.uid_names.specs.Names.{ObjectName}
use Rattle.uid_names.specs.Rooms.{IsLength}
use Rattle.dom_history.specs.declared.op.Op.{Op}
use Rattle.dom_history.specs.declared.op.Op.TheVariants as ops
use Rattle.dom_history.specs.declared.op.Reply.{Reply}
use Rattle.naming_tree.specs.Sessions.{closers_if}
use Rattle.naming_tree.specs.Entering.{unmap_if}
use Rattle.mapped_streams.specs.declared.step.StreamResult.{StreamResult}
use Rattle.mapped_streams.specs.declared.step.StreamResult.TheVariants.{Store}
use Rattle.mapped_streams.specs.declared.mapped.Opened.{Opened}
use Rattle.mapped_streams.specs.declared.work.Work.{Work}
use Rattle.mapped_streams.specs.declared.streaming.Stage.{Stage}
use Rattle.mapped_streams.specs.declared.streaming.Stage.TheVariants.{Lock, Length, Map, At, Close}
use Rattle.mapped_streams.specs.declared.streaming.Streaming.{Streaming}
use Rattle.mapped_streams.specs.Pages.{IsMapped}
use Rattle.mapped_streams.specs.Dialogues.{Dialogue, Ends}
use Rattle.mapped_streams.specs.Streams.{closing, mapping, measuring, opening, shutting}
use Rattle.mapped_streams.specs.Works.{mode_of, come_of, work_left, work_op, is_done, IsWork}

-- a stream on an object that begins
abbrev pub streaming_of : ObjectName → Work → Streaming
streaming_of u work = record { uid = u; work = work; stage = Lock; refused = None }

-- what is left once the object is open
abbrev pub opened_left : ObjectName → Work → Opened → Dialogue
opened_left u work o = work_left (closers_if o.fresh u) o.at work

-- refusals of a closing count up to the first
abbrev pub closing_left : List Op → Option Reply → StreamResult → Dialogue
closing_left held None result = shutting held result
closing_left held (Some reply) result = closing held (Store reply)

abbrev pub stage_left : ObjectName → Work → Option Reply → Stage → Dialogue
stage_left u work refused Lock = opening u (mode_of work) (opened_left u work)
stage_left u work refused Length = measuring u (opened_left u work)
stage_left u work refused (Map n) = mapping u n (opened_left u work)
stage_left u work refused (At o) = opened_left u work o
stage_left u work refused (Close mapped) = closing_left (closers_if mapped u) refused (come_of work)

abbrev pub left : Streaming → Dialogue
left s = stage_left s.uid s.work s.refused s.stage

-- what is left behind a reply, by what has come of it
abbrev pub left_or : Option StreamResult → Streaming → Dialogue
left_or None s = left s
left_or (Some result) s = Ends result

-- what is left of a machine, unless it is over
abbrev pub rest : Option Streaming → Option Dialogue
rest None = None
rest (Some s) = Some (left s)

-- what a stage asks
abbrev pub stage_op : ObjectName → Work → Stage → Op
stage_op u work Lock = ops.Lock u (mode_of work)
stage_op u work Length = ops.Length u
stage_op u work (Map n) = ops.Map u
stage_op u work (At o) = work_op o.at work
stage_op u work (Close mapped) = unmap_if mapped u

-- a stage that can be reached
abbrev pub IsStage : Work → Stage → Type 0
IsStage work Lock = Unit {0}
IsStage work Length = Unit {0}
IsStage work (Map n) = IsLength n
IsStage work (At o) = IsMapped o.at × (is_done o.at work ≡ false)
IsStage work (Close mapped) = Unit {0}

pub record IsStreaming (s : Streaming) : Type 0 where
  pub work : IsWork s.work
  pub stage : IsStage s.work s.stage

-- a machine unless it is over, and what holds while it is not
abbrev pub unless : Bool → Streaming → Option Streaming
unless true s = None
unless false s = Some s

abbrev pub IfOn : Bool → Streaming → Type 0
IfOn true s = Unit {0}
IfOn false s = IsStreaming s
