-- A run of one node: an object is made, locked, stored to, loaded from and unlocked.
use Rattle.std.specs.Prelude.{ℕ, zero, suc, List, [], ◌∷◌, length, Option, Some, None}
use Rattle.uid_names.specs.Names.{ProcName, ObjectName}
use Rattle.uid_names.specs.declared.mode.Mode.TheVariants.{Write}
use Rattle.uid_names.specs.declared.mode.ObjKind.TheVariants.{File}
use Rattle.uid_names.specs.declared.frame_kind.FrameKind.{FrameKind}
use Rattle.uid_names.specs.declared.frame_kind.FrameKind.TheVariants as kinds
use Rattle.uid_names.specs.FrameKinds.{kind_number}
use Rattle.dom_history.specs.declared.op.Spot.TheVariants.{Of}
use Rattle.dom_history.specs.declared.op.Op.{Op}
use Rattle.dom_history.specs.declared.op.Op.TheVariants.{New, Lock, Unlock, Load, Store}
use Rattle.dom_history.specs.declared.op.Want.{Want}
use Rattle.dom_history.specs.declared.op.Want.TheVariants.{Do, Done}
use Rattle.dom_history.specs.declared.op.Reply.{Reply}
use Rattle.dom_history.specs.declared.op.Reply.TheVariants.{Made, Fine, Bytes}
use Rattle.dom_history.specs.declared.event.What.{What}
use Rattle.dom_history.specs.declared.event.What.TheVariants.{Begin, Take, Ready}
use Rattle.dom_history.specs.declared.event.Sent.{Sent}
use Rattle.dom_history.specs.declared.end_word.EndWord.{EndWord}
use Rattle.dom_history.specs.declared.end_word.EndWord.TheVariants as words
use Rattle.dom_history.specs.Events.{Happening}
use Rattle.dom_history.specs.Histories.{Item, Answered, History}
use Rattle.node_runs.specs.Setups.{Setup}

abbrev pub p : ProcName
p = record { node = 1; number = 1 }

abbrev pub x : ObjectName
x = record { counter = 2; home = 1 }

abbrev pub hi : List ℕ
hi = 104 ∷ 105 ∷ []

-- what is wanted next, of a list
abbrev pub nth_or_done : List Want → ℕ → Want
nth_or_done [] n = Done
nth_or_done (w ∷ ws) zero = w
nth_or_done (w ∷ ws) (suc n) = nth_or_done ws n

abbrev pub wants : List Want
wants = Do (New 1 File 1) ∷ Do (Lock x Write) ∷ Do (Store (Of x 0) hi) ∷ Do (Load (Of x 0) 2) ∷ Do (Unlock x) ∷ []

abbrev pub setup : Setup
setup =
    record {
      opening = record { nodes = 1; greatest = 1024; objects = [] };
      wire = 1;
      frames = 64 ∷ [];
      phases = 1;
      programs = (1 ∷ []) ∷ [];
      asks = λ q heard. nth_or_done wants (length heard);
    }

abbrev pub event : ℕ → What → Option Sent → Option (ℕ × EndWord) → Happening
event tick what sent ended = record { place = record { tick = tick; node = 1 }; what = what; effects = record { dropped = []; sent = sent; ended = ended } }

abbrev pub sends : ℕ → FrameKind → ℕ → Option Sent
sends index kind number = Some (record { to = 1; index = index; kind = kind_number kind; number = number })

abbrev pub fine : Option (ℕ × EndWord)
fine = Some (1, words.Fine)

abbrev pub events : List Happening
events =
    event 19 (Ready 1) None None
    ∷ event 18 (Begin 1) None None
    ∷ event 17 (Take 1 12) None fine
    ∷ event 16 (Take 1 11) (sends 12 kinds.Done 6) None
    ∷ event 15 (Take 1 10) (sends 11 kinds.Unlock 6) None
    ∷ event 14 (Take 1 9) (sends 10 kinds.Stored 5) None
    ∷ event 13 (Take 1 8) (sends 9 kinds.AttrOut 5) None
    ∷ event 12 (Take 1 7) (sends 8 kinds.Stored 4) None
    ∷ event 11 (Begin 1) (sends 7 kinds.PageOut 4) None
    ∷ event 10 (Begin 1) None fine
    ∷ event 9 (Take 1 6) None fine
    ∷ event 8 (Take 1 5) (sends 6 kinds.Page 3) None
    ∷ event 7 (Begin 1) (sends 5 kinds.PageIn 3) None
    ∷ event 6 (Take 1 4) None fine
    ∷ event 5 (Take 1 3) (sends 4 kinds.Granted 2) None
    ∷ event 4 (Begin 1) (sends 3 kinds.Lock 2) None
    ∷ event 3 (Take 1 2) None fine
    ∷ event 2 (Take 1 1) (sends 2 kinds.Made 1) None
    ∷ event 1 (Begin 1) (sends 1 kinds.Make 1) None
    ∷ []

abbrev pub entry : ℕ → Op → Reply → Item
entry tick op reply = Answered (record { place = record { tick = tick; node = 1 }; proc = p; phase = 1; op = op; reply = reply })

abbrev pub expected : History
expected =
    record {
      items =
          entry 16 (Unlock x) Fine
          ∷ entry 10 (Load (Of x 0) 2) (Bytes hi)
          ∷ entry 9 (Store (Of x 0) hi) Fine
          ∷ entry 5 (Lock x Write) Fine
          ∷ entry 2 (New 1 File 1) (Made x)
          ∷ [];
      open_ops = [];
    }
