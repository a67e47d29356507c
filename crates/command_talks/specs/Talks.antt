-- The machines that have the dialogues of commands, as a shell drives them.
use Rattle.std.specs.Prelude.{◌≡◌, Option, Some, None}
use Rattle.dom_history.specs.declared.op.Op.{Op}
use Rattle.dom_history.specs.declared.op.Reply.{Reply}
use Rattle.dom_history.specs.Ranges.{IsOp}
use Rattle.naming_tree.specs.declared.step.Step.TheVariants.{Do, Over}
use Rattle.command_talks.specs.declared.file_talk.FileTalk.{FileTalk}
use Rattle.command_talks.specs.declared.file_talk.FileTurn.{FileTurn}
use Rattle.command_talks.specs.declared.file_talk.FileTurn.TheVariants as files
use Rattle.command_talks.specs.declared.come.Come.{Come}
use Rattle.command_talks.specs.declared.outcome.Outcome.{Outcome}
use Rattle.command_talks.specs.Dialogues.{TalkStep}
use Rattle.command_talks.specs.declared.talk.Talk.{Talk}
use Rattle.command_talks.specs.FileTalks.{file_asks, file_turn, MayHearFile}
use Rattle.command_talks.specs.FileTurns.{led}

-- a machine that stands there; None where it is over
abbrev pub talk_in : Option FileTalk → Talk
talk_in at = record { at = at }

-- what a machine asks where it stands
abbrev pub asks_in : Option FileTalk → Option Op
asks_in None = None
asks_in (Some talk) = file_asks talk

abbrev pub talk_asks : Talk → Option Op
talk_asks talk = asks_in talk.at

-- what it makes of what it is told: it goes on with an operation, or comes to an outcome
pub data Turn : Type 0 where
  Goes : (talk : Talk) → (op : Op) → Turn
  Comes : (outcome : Outcome) → Turn

abbrev pub as_turn : FileTurn → Turn
as_turn (files.Goes talk op) = Goes (talk_in (Some talk)) op
as_turn (files.Comes outcome) = Comes outcome

-- of one that is over there is none
abbrev pub of_file : Option FileTurn → Option Turn
of_file None = None
of_file (Some turn) = Some (as_turn turn)

abbrev pub turn_in : Option FileTalk → Option Reply → Option Turn
turn_in None last = None
turn_in (Some talk) last = of_file (file_turn talk last)

-- what it drove has come to this
abbrev pub led_in : Option FileTalk → Come → Option Turn
led_in None come = None
led_in (Some talk) come = of_file (led talk come)

abbrev pub talk_turn : Talk → Option Reply → Option Turn
talk_turn talk last = turn_in talk.at last

-- the turn of a step and of where the machine stands behind it
abbrev pub turn_by : TalkStep → Talk → Turn
turn_by (Do op) talk = Goes talk op
turn_by (Over outcome) talk = Comes outcome

-- what may be told to it
abbrev pub MayTellIn : Option FileTalk → Option Reply → Type 0
MayTellIn None last = ⊥
MayTellIn (Some talk) last = MayHearFile talk last

abbrev pub MayBeTold : Talk → Option Reply → Type 0
MayBeTold talk last = MayTellIn talk.at last

-- an operation with which it goes on is the one that it asks there, and in its ranges
abbrev pub AsksThere : Turn → Type 0
AsksThere (Goes talk op) = (talk_asks talk ≡ Some op) × IsOp op
AsksThere (Comes outcome) = Unit {0}
