-- A run of two nodes, in which an answer is lost: its call is sent again and answered the same.
use Rattle.std.specs.Prelude.{ℕ, List, [], ◌∷◌, length, Option, Some, None}
use Rattle.uid_names.specs.Names.{ObjectName}
use Rattle.uid_names.specs.declared.mode.Mode.TheVariants.{Write}
use Rattle.uid_names.specs.declared.mode.ObjKind.TheVariants.{File}
use Rattle.uid_names.specs.declared.frame_kind.FrameKind.{FrameKind}
use Rattle.uid_names.specs.declared.frame_kind.FrameKind.TheVariants as kinds
use Rattle.uid_names.specs.FrameKinds.{kind_number}
use Rattle.dom_history.specs.declared.op.Op.{Op}
use Rattle.dom_history.specs.declared.op.Op.TheVariants.{Lock, Unlock}
use Rattle.dom_history.specs.declared.op.Want.{Want}
use Rattle.dom_history.specs.declared.op.Want.TheVariants.{Do}
use Rattle.dom_history.specs.declared.op.Reply.TheVariants.{Fine}
use Rattle.dom_history.specs.declared.event.What.{What}
use Rattle.dom_history.specs.declared.event.What.TheVariants.{Begin, Take, Notice, Ready, Mark}
use Rattle.dom_history.specs.declared.event.Sent.{Sent}
use Rattle.dom_history.specs.declared.plan.Fate.TheVariants.{Lose}
use Rattle.dom_history.specs.declared.plan.FateRow.{FateRow}
use Rattle.dom_history.specs.declared.end_word.EndWord.{EndWord}
use Rattle.dom_history.specs.declared.end_word.EndWord.TheVariants as words
use Rattle.dom_history.specs.Events.{Happening}
use Rattle.dom_history.specs.Histories.{Item, Answered, History}
use Rattle.node_runs.specs.Setups.{Setup}
use Rattle.node_runs.specs.FirstRun.{p, nth_or_done}

abbrev pub y : ObjectName
y = record { counter = 2; home = 2 }

abbrev pub wants : List Want
wants = Do (Lock y Write) ∷ Do (Unlock y) ∷ []

abbrev pub setup : Setup
setup =
    record {
      opening = record { nodes = 2; greatest = 1024; objects = record { uid = y; kind = File; room = 1 } ∷ [] };
      wire = 1;
      frames = 64 ∷ 64 ∷ [];
      phases = 1;
      programs = (1 ∷ []) ∷ [] ∷ [];
      asks = λ q heard. nth_or_done wants (length heard);
    }

-- the first frame from node 2 to node 1 is lost
abbrev pub plan : List FateRow
plan = record { from = 2; to = 1; index = 1; fate = Lose } ∷ []

abbrev pub event : ℕ → ℕ → What → Option Sent → Option (ℕ × EndWord) → Happening
event tick node what sent ended = record { place = record { tick = tick; node = node }; what = what; effects = record { dropped = []; sent = sent; ended = ended } }

abbrev pub sends : ℕ → ℕ → FrameKind → ℕ → Option Sent
sends to index kind number = Some (record { to = to; index = index; kind = kind_number kind; number = number })

abbrev pub fine : Option (ℕ × EndWord)
fine = Some (1, words.Fine)

abbrev pub events : List Happening
events =
    event 11 2 (Mark 1 1) None None
    ∷ event 11 1 (Mark 2 1) None None
    ∷ event 10 1 (Ready 1) None None
    ∷ event 9 1 (Begin 1) None None
    ∷ event 8 2 (Ready 1) None None
    ∷ event 8 1 (Take 2 3) None fine
    ∷ event 7 2 (Take 1 3) (sends 1 3 kinds.Done 2) None
    ∷ event 6 1 (Begin 1) (sends 2 3 kinds.Unlock 2) None
    ∷ event 5 1 (Take 2 2) None fine
    ∷ event 4 2 (Take 1 2) (sends 1 2 kinds.Granted 1) None
    ∷ event 3 1 (Notice 1 2 1 1) (sends 2 2 kinds.Lock 1) None
    ∷ event 2 2 (Take 1 1) (sends 1 1 kinds.Granted 1) None
    ∷ event 1 1 (Begin 1) (sends 2 1 kinds.Lock 1) None
    ∷ []

abbrev pub entry : ℕ → ℕ → Op → Item
entry tick node op = Answered (record { place = record { tick = tick; node = node }; proc = p; phase = 1; op = op; reply = Fine })

abbrev pub expected : History
expected = record { items = entry 7 2 (Unlock y) ∷ entry 2 2 (Lock y Write) ∷ []; open_ops = [] }
