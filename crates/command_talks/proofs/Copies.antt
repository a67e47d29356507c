-- What the code knows of machines of names that are told something.
use Rattle.std.proofs.Common.{◌≡◌, Option, Some, ap}
use Rattle.dom_history.specs.declared.op.Op.{Op}
use Rattle.dom_history.specs.declared.op.Reply.{Reply}
use Rattle.naming_tree.specs.declared.step.NameResult.{NameResult}
use Rattle.naming_tree.specs.declared.step.Step.TheVariants as names
use Rattle.naming_tree.specs.Turns.{Turn, stood_after, stood_says}
use Rattle.command_talks.specs.FileTalks.{named_turn, named_told}
use Rattle.command_talks.specs.declared.file_talk.FileTalk.{FileTalk}
use Rattle.command_talks.specs.declared.file_talk.FileTurn.{FileTurn}
use Rattle.command_talks.specs.declared.file_talk.FileTurn.TheVariants.{Goes}

-- it goes on with what it says, or what it has come to leads on
module _ {S : Type 0} (asks : S → Option Op) (go : S → Option Reply → Turn S) (make : Option S → FileTalk) (over : NameResult → Option FileTurn) (m : Option S) (last : Option Reply) where
  pub named_goes : (op : Op) → Some (names.Do op) ≡ stood_says asks go m last → Some (Goes (make (stood_after go m last)) op) ≡ named_told asks go make over m last
  named_goes op says = ap (λ step. named_turn make over step (stood_after go m last)) says

  pub named_comes : (come : NameResult) → Some (names.Over come) ≡ stood_says asks go m last → over come ≡ named_told asks go make over m last
  named_comes come says = ap (λ step. named_turn make over step (stood_after go m last)) says
