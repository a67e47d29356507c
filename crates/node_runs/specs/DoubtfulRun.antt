-- A run of two nodes, in which eight frames of a lock are lost: it is given up, and its process is told that it is in doubt.
use Rattle.std.specs.Prelude.{ℕ, ◌+◌, List, [], ◌∷◌, ◌++◌, length, map, Some, None}
use Rattle.uid_names.specs.declared.mode.Mode.TheVariants.{Write}
use Rattle.uid_names.specs.declared.frame_kind.FrameKind.TheVariants as kinds
use Rattle.dom_history.specs.declared.op.Op.TheVariants.{Lock}
use Rattle.dom_history.specs.declared.op.Want.TheVariants.{Do}
use Rattle.dom_history.specs.declared.op.Reply.TheVariants.{Doubt}
use Rattle.dom_history.specs.declared.event.What.TheVariants.{Begin, Notice, Ready, Mark}
use Rattle.dom_history.specs.declared.plan.Fate.TheVariants.{Lose}
use Rattle.dom_history.specs.declared.plan.FateRow.{FateRow}
use Rattle.dom_history.specs.declared.end_word.EndWord.TheVariants as words
use Rattle.dom_history.specs.Events.{Happening}
use Rattle.dom_history.specs.Histories.{Answered, History}
use Rattle.node_runs.specs.Setups.{Setup}
use Rattle.node_runs.specs.FirstRun.{p, nth_or_done}
use Rattle.node_runs.specs.SecondRun as two
use Rattle.node_runs.specs.SecondRun.{y, event, sends}

-- the nodes and the object of the second sample run; the program of 1.1 locks the object and is done
abbrev pub setup : Setup
setup = record two.setup { asks = λ q heard. nth_or_done (Do (Lock y Write) ∷ []) (length heard) }

-- this frame from node 1 to node 2 is lost
abbrev pub lost : ℕ → FateRow
lost k = record { from = 1; to = 2; index = k; fate = Lose }

abbrev pub plan : List FateRow
plan = map lost (1 ∷ 2 ∷ 3 ∷ 4 ∷ 5 ∷ 6 ∷ 7 ∷ 8 ∷ [])

-- at the notice of this frame the next one is sent
abbrev pub sent_again : ℕ → Happening
sent_again k = event (k + 2) 1 (Notice 1 1 2 k) (sends 2 (k + 1) kinds.Lock 1) None

-- the eighth notice gives the call up: what the turns of seed 0 do, by place, until no event is enabled
abbrev pub events : List Happening
events =
    event 13 2 (Mark 1 1) None None
    ∷ event 12 1 (Ready 1) None None
    ∷ event 11 1 (Begin 1) None None
    ∷ event 10 1 (Notice 1 1 2 8) None (Some (1, words.Doubt))
    ∷ map sent_again (7 ∷ 6 ∷ 5 ∷ 4 ∷ 3 ∷ 2 ∷ 1 ∷ [])
    ++ (event 2 1 (Mark 2 1) None None
    ∷ event 1 2 (Ready 1) None None
    ∷ event 1 1 (Begin 1) (sends 2 1 kinds.Lock 1) None
    ∷ [])

-- one entry, at the place where the lock began, and no act
abbrev pub expected : History
expected =
    record {
      items = Answered (record { place = record { tick = 1; node = 1 }; proc = p; phase = 1; op = Lock y Write; reply = Doubt }) ∷ [];
      open_ops = [];
    }
