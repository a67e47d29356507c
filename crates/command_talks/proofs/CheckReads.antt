-- What the code knows of objects that are read for a check.
use Rattle.std.proofs.Common.{◌≡◌, Option, Some, ap}
use Rattle.dom_history.specs.declared.op.Op.{Op}
use Rattle.dom_history.specs.declared.op.Reply.{Reply}
use Rattle.naming_tree.specs.declared.step.Step.TheVariants as steps
use Rattle.mapped_streams.specs.Dialogues.{said_to}
use Rattle.mapped_streams.specs.States.{rest}
use Rattle.mapped_streams.specs.Turns.{stood_after as stream_after}
use Rattle.mapped_streams.specs.declared.step.StreamResult.{StreamResult}
use Rattle.mapped_streams.specs.declared.streaming.Streaming.{Streaming}
use Rattle.command_talks.specs.FileTalks.{check_stream, check_told}
use Rattle.command_talks.specs.declared.file_talk.FileTalk.{FileTalk}
use Rattle.command_talks.specs.declared.file_talk.FileTurn.{FileTurn}
use Rattle.command_talks.specs.declared.file_talk.FileTurn.TheVariants.{Goes}

-- it goes on with what it says, or has come to its result
module _ (make : Option Streaming → FileTalk) (over : StreamResult → Option FileTurn) (m : Option Streaming) (last : Option Reply) where
  pub check_goes : (op : Op) → Some (steps.Do op) ≡ said_to (rest m) last → Some (Goes (make (stream_after m last)) op) ≡ check_told make over m last
  check_goes op says = ap (λ step. check_stream make over step (stream_after m last)) says

  pub check_comes : (result : StreamResult) → Some (steps.Over result) ≡ said_to (rest m) last → over result ≡ check_told make over m last
  check_comes result says = ap (λ step. check_stream make over step (stream_after m last)) says
