-- What contracts see of the turn of a machine of a file.
use Rattle.std.specs.Prelude.{◌≡◌, Option, Some, None}
use Rattle.dom_history.specs.declared.op.Op.{Op}
use Rattle.dom_history.specs.declared.op.Reply.{Reply}
use Rattle.dom_history.specs.Ranges.{IsOp}
use Rattle.naming_tree.specs.ByPaths.{by_path_after, by_path_asks}
use Rattle.naming_tree.specs.Changing.{changing_after, changing_asks}
use Rattle.naming_tree.specs.ListsAt.{listing_after, listing_asks}
use Rattle.naming_tree.specs.Turns.{stood_after, stood_says}
use Rattle.naming_tree.specs.Walking.{walking_after, walking_asks}
use Rattle.naming_tree.specs.declared.step.NameResult.{NameResult}
use Rattle.naming_tree.specs.declared.step.Step.{Step}
use Rattle.naming_tree.specs.declared.step.Step.TheVariants.{Do, Over}
use Rattle.mapped_streams.specs.Dialogues.{said_to}
use Rattle.mapped_streams.specs.States.{rest}
use Rattle.mapped_streams.specs.Turns.{stood_after as stream_after}
use Rattle.mapped_streams.specs.declared.step.StreamResult.{StreamResult}
use Rattle.mail_box.specs.Dialogues.{said_to as mail_said_to}
use Rattle.mail_box.specs.States.{rest as mail_rest}
use Rattle.mail_box.specs.Turns.{stood_after as mail_after}
use Rattle.command_talks.specs.FileTalks.{added_turn, came_turn, directory_turn, file_asks, guarded_turn, over_turn, text_turn}
use Rattle.command_talks.specs.Mailed.{mail_outcome}
use Rattle.command_talks.specs.declared.come.Come.{Come}
use Rattle.command_talks.specs.declared.come.Come.TheVariants.{Named, Streamed, Mailed}
use Rattle.command_talks.specs.declared.file_talk.FileTalk.{FileTalk}
use Rattle.command_talks.specs.declared.file_talk.FileTalk.TheVariants.{Seeks, Reaches, LooksUp, ReadsList, Lists, Changes, Reads, Counts, Appends, Mails, Opens, Adds, Copies, Closes}
use Rattle.command_talks.specs.declared.file_talk.FileTurn.{FileTurn}
use Rattle.command_talks.specs.declared.file_talk.FileTurn.TheVariants.{Goes, Comes}

-- its operation is that of where it goes on, and in its ranges
abbrev pub Asks : FileTurn → Type 0
Asks (Goes talk op) = (file_asks talk ≡ Some op) × IsOp op
Asks (Comes outcome) = Unit {0}

-- what a machine says is an operation, or what it has come to
abbrev pub ComeStep : Type 0
ComeStep = Step Come

abbrev pub come_as : {R : Type 0} → (R → Come) → Option (Step R) → Option ComeStep
come_as make None = None
come_as make (Some (Do op)) = Some (Do op)
come_as make (Some (Over result)) = Some (Over (make result))

-- what a command drives says to this, and where the command stands then; one that opens or closes a source drives nothing
abbrev pub file_says : FileTalk → Option Reply → Option ComeStep
file_says (Seeks m errand guard) last = come_as Named (stood_says walking_asks walking_after m last)
file_says (Reaches m errand guard) last = come_as Named (stood_says by_path_asks by_path_after m last)
file_says (LooksUp m p) last = come_as Streamed (said_to (rest m) last)
file_says (ReadsList m p) last = come_as Streamed (said_to (rest m) last)
file_says (Lists m) last = come_as Named (stood_says listing_asks listing_after m last)
file_says (Changes m) last = come_as Named (stood_says changing_asks changing_after m last)
file_says (Reads m) last = come_as Streamed (said_to (rest m) last)
file_says (Counts m) last = come_as Streamed (said_to (rest m) last)
file_says (Appends m) last = come_as Streamed (said_to (rest m) last)
file_says (Mails m) last = come_as Mailed (mail_said_to (mail_rest m) last)
file_says (Opens s stage target) last = None
file_says (Adds s m) last = come_as Named (stood_says changing_asks changing_after m last)
file_says (Copies s m) last = come_as Streamed (said_to (rest m) last)
file_says (Closes s outcome) last = None

abbrev pub file_after : FileTalk → Option Reply → FileTalk
file_after (Seeks m errand guard) last = Seeks (stood_after walking_after m last) errand guard
file_after (Reaches m errand guard) last = Reaches (stood_after by_path_after m last) errand guard
file_after (LooksUp m p) last = LooksUp (stream_after m last) p
file_after (ReadsList m p) last = ReadsList (stream_after m last) p
file_after (Lists m) last = Lists (stood_after listing_after m last)
file_after (Changes m) last = Changes (stood_after changing_after m last)
file_after (Reads m) last = Reads (stream_after m last)
file_after (Counts m) last = Counts (stream_after m last)
file_after (Appends m) last = Appends (stream_after m last)
file_after (Mails m) last = Mails (mail_after m last)
file_after (Opens s stage target) last = Opens s stage target
file_after (Adds s m) last = Adds s (stood_after changing_after m last)
file_after (Copies s m) last = Copies s (stream_after m last)
file_after (Closes s outcome) last = Closes s outcome

-- one that drives nothing
abbrev pub IsApart : FileTalk → Type 0
IsApart (Opens s stage target) = Unit {0}
IsApart (Closes s outcome) = Unit {0}
IsApart talk = ⊥

-- an operation that is said is that of where a machine stands, and in its ranges
abbrev pub AsksBy : {R : Type 0} → Option Op → Step R → Type 0
AsksBy asked (Do op) = (asked ≡ Some op) × IsOp op
AsksBy asked (Over result) = Unit {0}

abbrev pub AsksOne : Option Op → Option ComeStep → Type 0
AsksOne asked None = ⊥
AsksOne asked (Some step) = AsksBy asked step

abbrev pub AsksSaid : FileTalk → Option ComeStep → Type 0
AsksSaid talk None = IsApart talk
AsksSaid talk (Some step) = AsksBy (file_asks talk) step

-- what comes of a command when what it drives has come to this
abbrev pub named_led : FileTalk → NameResult → Option FileTurn
named_led (Seeks m errand guard) result = guarded_turn guard errand result
named_led (Reaches m errand guard) result = guarded_turn guard errand result
named_led (Adds s m) result = added_turn s result
named_led talk result = came_turn result

abbrev pub streamed_led : FileTalk → StreamResult → Option FileTurn
streamed_led (LooksUp m p) result = directory_turn p result
streamed_led (ReadsList m p) result = text_turn p result
streamed_led talk result = Some (over_turn talk result)

abbrev pub led : FileTalk → Come → Option FileTurn
led talk (Named result) = named_led talk result
led talk (Streamed result) = streamed_led talk result
led talk (Mailed result) = Some (Comes (mail_outcome result))
