-- The words in which events and frames are shown.
use Rattle.std.specs.Prelude.{ℕ, Bool, true, false, Option, Some, None, List, [], ◌∷◌, ◌++◌, codes, decimal, find, fold}
use Rattle.std.specs.List.{flat_map}
use Rattle.uid_names.specs.Names.{ObjectName, same_uid}
use Rattle.uid_names.specs.Texts.{text_of}
use Rattle.uid_names.specs.Modes.{mode_letter}
use Rattle.uid_names.specs.FrameKinds.{kind_name}
use Rattle.uid_names.specs.declared.mode.Mode.{Mode}
use Rattle.dom_history.specs.declared.event.Sent.{Sent}
use Rattle.dom_history.specs.declared.event.What.{What}
use Rattle.dom_history.specs.declared.event.What.TheVariants.{Ready}
use Rattle.node_texts.specs.Texts.{node_text}
use Rattle.journal_text.specs.Lines.{what_text, kind_text}
use Rattle.script_reader.specs.declared.script.VarRow.{VarRow}
use Rattle.event_views.specs.Commands.{same_command, command_text}
use Rattle.event_views.specs.Runs.{Run}
use Rattle.event_views.specs.declared.said.FrameSaid.{FrameSaid}
use Rattle.event_views.specs.declared.command.CommandName.{CommandName}
use Rattle.event_views.specs.declared.command.CommandView.{CommandView}
use Rattle.event_views.specs.declared.run.FrameView.{FrameView}
use Rattle.event_views.specs.declared.run.EventView.{EventView}

-- an object: the variable of its row, or its name's digits where it has none
abbrev pub row_text : Option VarRow → ObjectName → List ℕ
row_text None u = text_of u
row_text (Some row) u = row.var

abbrev pub object_text : List VarRow → ObjectName → List ℕ
object_text objects u = row_text (find (λ row. same_uid row.uid u) objects) u

-- what a frame names, behind a space
abbrev pub object_part : List VarRow → Option ObjectName → List ℕ
object_part objects None = []
object_part objects (Some u) = codes " " ++ object_text objects u

abbrev pub page_part : Option ℕ → List ℕ
page_part None = []
page_part (Some page) = codes " " ++ decimal page

abbrev pub mode_part : Option Mode → List ℕ
mode_part None = []
mode_part (Some m) = 32 ∷ mode_letter m ∷ []

-- a frame: its kind, object, page and mode
abbrev pub said_text : List VarRow → FrameSaid → List ℕ
said_text objects s = kind_name s.kind ++ (object_part objects s.uid ++ (page_part s.page ++ mode_part s.mode))

-- the frame that was sent; its kind alone where nothing else is known of it
abbrev pub sent_label : List VarRow → Sent → Option FrameView → List ℕ
sent_label objects sent None = kind_text sent.kind
sent_label objects sent (Some frame) = said_text objects frame.said

-- with its number on its link, and the number of its call
abbrev pub sent_title : Run → ℕ → Sent → Option FrameView → List ℕ
sent_title run from sent frame =
    sent_label run.objects sent frame ++ (codes "; frame " ++ (decimal sent.index ++ (codes " from " ++ (node_text run.names from
    ++ (codes " to " ++ (node_text run.names sent.to ++ (codes ", call " ++ decimal sent.number)))))))

-- the command of this name
abbrev pub command_in : List CommandView → CommandName → Option CommandView
command_in commands c = find (λ row. same_command row.name c) commands

-- what stands behind its name
abbrev pub words_behind : Option CommandView → List ℕ
words_behind None = []
words_behind (Some row) = 32 ∷ row.words

abbrev pub answer_behind : Option (List ℕ) → List ℕ
answer_behind None = []
answer_behind (Some answer) = 32 ∷ answer

abbrev pub answer_of : Option CommandView → Option (List ℕ)
answer_of None = None
answer_of (Some row) = row.answer

-- a command where it begins, and where it is answered
abbrev pub begun_text : Run → CommandName → List ℕ
begun_text run c = command_text run.names c ++ words_behind (command_in run.commands c)

abbrev pub answered_text : Run → CommandName → List ℕ
answered_text run c = command_text run.names c ++ answer_behind (answer_of (command_in run.commands c))

-- a part more, behind those before it
abbrev pub with_part : List ℕ → List ℕ → List ℕ
with_part [] part = part
with_part (b ∷ text) part = (b ∷ text) ++ (codes "; " ++ part)

abbrev pub begun_label : Run → Option CommandName → List ℕ
begun_label run None = []
begun_label run (Some c) = begun_text run c

-- the commands that begin and are answered with an event
abbrev pub commands_label : Run → EventView → List ℕ
commands_label run v = fold (λ text c. with_part text (answered_text run c)) (begun_label run v.begun) v.answered

-- where no command is, what the event is
abbrev pub or_what : List ℕ → List ℕ → List ℕ
or_what [] what = what
or_what (b ∷ text) what = b ∷ text

-- the word of a node that all its processes are at the end of a phase is drawn across all lanes, so it names the node
abbrev pub is_mark : What → Bool
is_mark (Ready phase) = true
is_mark _ = false

abbrev pub shown_what : List (List ℕ) → ℕ → What → List ℕ
shown_what names node (Ready phase) = node_text names node ++ (codes " " ++ what_text names (Ready phase))
shown_what names node what = what_text names what

abbrev pub plain_label : Run → EventView → List ℕ
plain_label run v = or_what (commands_label run v) (shown_what run.names v.event.place.node v.event.what)

-- a page that was dropped
abbrev pub drop_label : List VarRow → ObjectName × ℕ → List ℕ
drop_label objects page = codes "; drop " ++ (object_text objects page.0 ++ (codes " " ++ decimal page.1))

-- with the pages that the event dropped
abbrev pub label_of : Run → EventView → List ℕ
label_of run v = plain_label run v ++ flat_map (drop_label run.objects) v.event.effects.dropped
