-- What a home does at a request: a number is decided once, and answered the same again.
use Rattle.std.specs.Prelude.{ℕ, List, [], Option, Some, None}
use Rattle.uid_names.specs.Names.{ProcName}
use Rattle.object_store.specs.HomeStates.{HomeState}
use Rattle.lock_manager.specs.Tables.{Table}
use Rattle.call_once.specs.declared.served.Looked.{Looked}
use Rattle.call_once.specs.declared.served.Looked.TheVariants.{Fresh, Again, Old}
use Rattle.call_once.specs.Calls.{Call, last_of, body_of, looked, with_call}
use Rattle.ring_messages.specs.Bodies.{Ask, Answer, ask_of, body_of_answer}
use Rattle.ring_messages.specs.Frames.{Message, caller_of}
use Rattle.page_server.specs.Decisions.{Decision, decide}

-- the home side of a node: its objects and pages, its lock table, and the last call of each process with its answer
pub record HomeSide : Type 0 where
  pub home : HomeState
  pub locks : Table
  pub served : List (Call Answer)

-- the home side at the start: no lock is held, and nothing was answered
abbrev pub first_side : HomeState → HomeSide
first_side home = record { home = home; locks = record { grants = []; last = 0 }; served = [] }

-- what a request leaves, and its answer, if it has one
pub record Serving : Type 0 where
  pub side : HomeSide
  pub answer : Option Answer

-- a decision is kept as the last answer to its process
abbrev pub kept : HomeSide → ProcName → ℕ → Decision → Serving
kept side p number decision =
    record {
      side = record {
        home = decision.home;
        locks = decision.locks;
        served = with_call (record { proc = p; number = number; body = decision.answer }) side.served;
      };
      answer = Some decision.answer;
    }

-- a number above the process's last one is decided, the last one is answered again, and an older one is not answered
abbrev pub serve_as : Looked → HomeSide → ProcName → ℕ → Ask → Serving
serve_as Fresh side p number ask = kept side p number (decide side.home side.locks p ask)
serve_as Again side p number ask = record { side = side; answer = body_of p side.served }
serve_as Old side p number ask = record { side = side; answer = None }

abbrev pub serve_of : HomeSide → ProcName → ℕ → Ask → Serving
serve_of side p number ask = serve_as (looked number (last_of p side.served)) side p number ask

-- the frame of a request: what it asks, for the process that calls; one that asks nothing is not answered
abbrev pub serve_asked : HomeSide → ProcName → ℕ → Option Ask → Serving
serve_asked side p number None = record { side = side; answer = None }
serve_asked side p number (Some ask) = serve_of side p number ask

abbrev pub serve_frame : HomeSide → Message → Serving
serve_frame side m = serve_asked side (caller_of m) m.number (ask_of m.body)

-- the frame of the answer goes back, in the same version, for the same call of the same process
abbrev pub reply_to : Message → ℕ → Answer → Message
reply_to m tick answer = record { version = m.version; from = m.to; to = m.from; proc = m.proc; number = m.number; tick = tick; body = body_of_answer answer }
