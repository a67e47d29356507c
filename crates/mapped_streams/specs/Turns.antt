-- What a reply makes of a stream.
use Rattle.std.specs.Prelude.{ℕ, Bool, true, false, Option, Some, None}
use Rattle.uid_names.specs.Names.{ObjectName}
use Rattle.dom_history.specs.declared.op.Reply.{Reply}
use Rattle.dom_history.specs.declared.op.Reply.TheVariants.{Fine, Size, At as MappedAt}
use Rattle.mapped_streams.specs.declared.step.StreamResult.{StreamResult}
use Rattle.mapped_streams.specs.declared.step.StreamResult.TheVariants.{Store}
use Rattle.mapped_streams.specs.declared.mapped.Opened.{Opened}
use Rattle.mapped_streams.specs.declared.work.Work.{Work}
use Rattle.mapped_streams.specs.declared.streaming.Stage.{Stage}
use Rattle.mapped_streams.specs.declared.streaming.Stage.TheVariants.{Lock, Length, Map, At, Close}
use Rattle.mapped_streams.specs.declared.streaming.Streaming.{Streaming}
use Rattle.mapped_streams.specs.Works.{come_of, work_after, is_done}

-- it goes on, or comes to a result
pub data Turn : Type 0 where
  Goes : (stream : Streaming) → Turn
  Comes : (result : StreamResult) → Turn

-- the turn of a stream and of the result, if there is one
abbrev pub turn_of : Option StreamResult → Streaming → Turn
turn_of None s = Goes s
turn_of (Some result) s = Comes result

-- where it stands behind it; None once it is over
abbrev pub state_of : Turn → Option Streaming
state_of (Goes s) = Some s
state_of (Comes result) = None

-- a stream at a stage of its work; the refusal that counts, if there was one
abbrev pub stream_at : ObjectName → Work → Option Reply → Stage → Streaming
stream_at u work refused stage = record { uid = u; work = work; stage = stage; refused = refused }

-- at an object that is open it works, until its work is done
abbrev pub works_if : Bool → ObjectName → Work → Option Reply → Opened → Streaming
works_if true u work refused o = stream_at u work None (Close o.fresh)
works_if false u work refused o = stream_at u work refused (At o)

abbrev pub working : ObjectName → Work → Option Reply → Opened → Streaming
working u work refused o = works_if (is_done o.at work) u work refused o

-- a refusal is the result, behind the closing
abbrev pub giving_up : ObjectName → Work → Bool → Reply → Streaming
giving_up u work mapped reply = stream_at u work (Some reply) (Close mapped)

module _ (u : ObjectName) (work : Work) (refused : Option Reply) where
  abbrev pub behind_lock : Reply → Turn
  behind_lock Fine = Goes (stream_at u work refused Length)
  behind_lock reply = Comes (Store reply)

  abbrev pub behind_length : Reply → Streaming
  behind_length (Size n) = stream_at u work refused (Map n)
  behind_length reply = giving_up u work false reply

  abbrev pub behind_map : ℕ → Reply → Streaming
  behind_map n (MappedAt address fresh) = working u work refused (record { at = record { address = address; length = n }; fresh = fresh })
  behind_map n reply = giving_up u work false reply

  abbrev pub behind_if : Opened → Reply → Option Work → Streaming
  behind_if o reply None = giving_up u work o.fresh reply
  behind_if o reply (Some next) = working u next refused o

  abbrev pub behind_work : Opened → Reply → Streaming
  behind_work o reply = behind_if o reply (work_after work reply)

-- the first refusal counts
abbrev pub first_refusal : Option Reply → Reply → Option Reply
first_refusal None Fine = None
first_refusal None reply = Some reply
first_refusal (Some earlier) reply = Some earlier

abbrev pub come_behind : Work → Option Reply → StreamResult
come_behind work None = come_of work
come_behind work (Some reply) = Store reply

-- behind the closing of the mapping the lock is given back
abbrev pub behind_close : ObjectName → Work → Bool → Option Reply → Turn
behind_close u work true refused = Goes (stream_at u work refused (Close false))
behind_close u work false refused = Comes (come_behind work refused)

abbrev pub stage_turn : ObjectName → Work → Option Reply → Stage → Reply → Turn
stage_turn u work refused Lock reply = behind_lock u work refused reply
stage_turn u work refused Length reply = Goes (behind_length u work refused reply)
stage_turn u work refused (Map n) reply = Goes (behind_map u work refused n reply)
stage_turn u work refused (At o) reply = Goes (behind_work u work refused o reply)
stage_turn u work refused (Close mapped) reply = behind_close u work mapped (first_refusal refused reply)

abbrev pub turn : Streaming → Reply → Turn
turn s reply = stage_turn s.uid s.work s.refused s.stage reply

-- where a machine stands once it is told this, which is nothing at its first call; None once it is over
abbrev pub told_turn : Streaming → Option Reply → Turn
told_turn s None = Goes s
told_turn s (Some reply) = turn s reply

abbrev pub stood_after : Option Streaming → Option Reply → Option Streaming
stood_after None last = None
stood_after (Some s) last = state_of (told_turn s last)
