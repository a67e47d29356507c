-- What an event leaves, and what a desk's outcome makes of an operation and its node.
use Rattle.std.specs.Prelude.{ℕ, ◌+◌, Option, Some, None, List, [], ◌∷◌}
use Rattle.uid_names.specs.Names.{ProcName, ObjectName}
use Rattle.uid_names.specs.FrameKinds.{kind_number}
use Rattle.dom_history.specs.declared.op.Reply.{Reply}
use Rattle.dom_history.specs.declared.event.Effects.{Effects}
use Rattle.dom_history.specs.EndWords.{word_of}
use Rattle.ring_messages.specs.Bodies.{Ask, body_of_ask, kind_of}
use Rattle.ring_messages.specs.Frames.{Message}
use Rattle.fault_handler.specs.Desks.{put_at}
use Rattle.fault_handler.specs.Outcomes.{Turn, Moved}
use Rattle.node_runs.specs.Setups.{Given}
use Rattle.node_runs.specs.NodeStates.{Asked, Await, BegunOp, ProcState, NodeState, proc_of, with_proc, emitted_to, name_of}
use Rattle.node_runs.specs.Notes.{Note}

-- what an event leaves: the node, the frame that it sends, the call that a process makes, what the journal has of
-- it, and what the history has
pub record Stepped : Type 0 where
  pub node : NodeState
  pub frame : Option Message
  pub call : Option (ℕ × Asked)
  pub effects : Effects
  pub note : Note

-- nothing is sent or dropped, and no operation ends
abbrev pub quiet : NodeState → Note → Stepped
quiet n note = record { node = n; frame = None; call = None; effects = record { dropped = []; sent = None; ended = None }; note = note }

-- a frame is sent
abbrev pub sending : NodeState → Message → Option (ℕ × Asked) → Note → Stepped
sending n m call note =
    record {
      node = record n { emitted = put_at n.emitted m.to (emitted_to n m.to + 1) };
      frame = Some m;
      call = call;
      effects = record {
        dropped = [];
        sent = Some (record { to = m.to; index = emitted_to n m.to + 1; kind = kind_number (kind_of m.body); number = m.number });
        ended = None;
      };
      note = note;
    }

-- the frame of a call, in the version of the node
abbrev pub request : Given → NodeState → ℕ → Asked → Message
request g n p c = record { version = g.wire; from = g.number; to = c.home; proc = p; number = c.waiting.number; tick = n.tick; body = body_of_ask c.ask }

-- how far an operation had come: it begins; its desk goes on with it; the answer to a call of this number, or its link
-- fault, settles it
pub data Stage : Type 0 where
  Starts : Stage
  Resumes : Stage
  Settles : ℕ → Stage

abbrev pub end_note : Stage → ProcName → ℕ → BegunOp → Reply → Note
end_note Stage.Starts p phase o reply = Note.Did p phase o.op reply
end_note Stage.Resumes p phase o reply = Note.Did p phase o.op reply
end_note (Stage.Settles number) p phase o reply =
    Note.Ended (record { proc = p; phase = phase; op = o.op; begun = o.begun; number = number; reply = reply })

abbrev pub open_note : Stage → ProcName → BegunOp → Note
open_note Stage.Starts p o = Note.Began p o.op
open_note Stage.Resumes p o = Note.Nothing
open_note (Stage.Settles number) p o = Note.Nothing

-- the operation ends
abbrev pub ends : Given → NodeState → ℕ → BegunOp → Stage → Reply → Stepped
ends g n p o stage reply =
    let q = proc_of n p in
    record (quiet (with_proc n p (record q { doing = None; heard = Some reply ∷ q.heard })) (end_note stage (name_of g p) q.phase o reply)) {
      effects = record { dropped = []; sent = None; ended = Some (p, word_of reply) };
    }

-- the next call of a process
abbrev pub next_call : ProcState → ℕ → Ask → Asked
next_call q home ask = record { waiting = record { number = q.last + 1; notices = 0 }; home = home; ask = ask }

-- the operation makes a call
abbrev pub asks : Given → NodeState → ℕ → BegunOp → Stage → Asked → Stepped
asks g n p o stage call =
    sending
    (with_proc n p (record (proc_of n p) { doing = Some (record { began = o; awaits = Await.Answer call }); last = call.waiting.number }))
    (request g n p call) (Some (p, call)) (open_note stage (name_of g p) o)

-- the operation waits for a page
abbrev pub waits : Given → NodeState → ℕ → BegunOp → Stage → ObjectName → ℕ → Stepped
waits g n p o stage u k =
    quiet (with_proc n p (record (proc_of n p) { doing = Some (record { began = o; awaits = Await.Page u k }) })) (open_note stage (name_of g p) o)

abbrev pub turned : Given → NodeState → ℕ → BegunOp → Stage → Turn → Stepped
turned g n p o stage (Turn.Ends reply) = ends g n p o stage reply
turned g n p o stage (Turn.Asks home ask) = asks g n p o stage (next_call (proc_of n p) home ask)
turned g n p o stage (Turn.Waits u k) = waits g n p o stage u k

-- these pages were dropped
abbrev pub dropping : List (ObjectName × ℕ) → Stepped → Stepped
dropping dropped s = record s { effects = record s.effects { dropped = dropped } }

-- what the desk's outcome makes of the operation and the node
abbrev pub moved : Given → NodeState → ℕ → BegunOp → Stage → Moved → Stepped
moved g n p o stage m = dropping m.dropped (turned g (record n { desk = m.desk }) p o stage m.turn)
