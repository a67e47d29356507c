-- What a command comes to, how that is written, and where its process stands then.
use Rattle.std.specs.Prelude.{ℕ, cond, Option, Some, None, List, [], ◌∷◌, ◌++◌, codes, decimal}
use Rattle.uid_names.specs.Modes.{mode_letter}
use Rattle.uid_names.specs.Names.{ObjectName}
use Rattle.uid_names.specs.Texts.{text_of}
use Rattle.uid_names.specs.declared.lock_row.LockRow.{LockRow}
use Rattle.uid_names.specs.declared.mode.ObjKind.{ObjKind}
use Rattle.uid_names.specs.declared.mode.ObjKind.TheVariants as kinds
use Rattle.dom_history.specs.declared.op.Reply.TheVariants.{Made}
use Rattle.script_reader.specs.declared.command.Command.{Command}
use Rattle.script_reader.specs.declared.command.Command.TheVariants.{New, Bind, Wd}
use Rattle.dir_records.specs.declared.row.DirRow.{DirRow}
use Rattle.naming_tree.specs.declared.step.Walked.{Walked}
use Rattle.naming_tree.specs.declared.step.Walked.TheVariants.{Root, At}
use Rattle.naming_tree.specs.declared.step.NameResult.{NameResult}
use Rattle.naming_tree.specs.declared.step.NameResult.TheVariants as results
use Rattle.dom_text.specs.Texts.{quoted_text}
use Rattle.node_texts.specs.Texts.{process_text}
use Rattle.mapped_streams.specs.declared.step.StreamResult.{StreamResult}
use Rattle.mapped_streams.specs.declared.step.StreamResult.TheVariants as streams
use Rattle.aegis_shell.specs.AnswerTexts.{answer_text}
use Rattle.aegis_shell.specs.Bound.{Bound, bind}
use Rattle.aegis_shell.specs.RangeTests.{is_uid}
use Rattle.aegis_shell.specs.Standing.{Standing, text_at}
use Rattle.aegis_shell.specs.Work.{Part}
use Rattle.command_talks.specs.declared.outcome.Outcome.{Outcome}
use Rattle.command_talks.specs.declared.outcome.Outcome.TheVariants.{Replied, Came, Streamed, Written}
use Rattle.aegis_shell.specs.declared.working.Working.{Working}

abbrev pub kind_text : ObjKind → List ℕ
kind_text kinds.File = codes "file"
kind_text kinds.Directory = codes "dir"
kind_text kinds.Link = codes "link"
kind_text kinds.Mail = codes "mail"

-- the rows of a directory, each behind a space
abbrev pub row_text : DirRow → List ℕ
row_text row = codes " " ++ row.name ++ codes ":" ++ kind_text row.kind

abbrev pub row_texts : List DirRow → List ℕ
row_texts [] = []
row_texts (row ∷ rows) = row_text row ++ row_texts rows

-- those of `//`
abbrev pub node_texts : List (List ℕ) → List ℕ
node_texts [] = []
node_texts (name ∷ names) = (codes " " ++ name ++ codes ":node") ++ node_texts names

-- a lock, behind a space
abbrev pub lock_text : List (List ℕ) → LockRow → List ℕ
lock_text names row = codes " " ++ text_of row.uid ++ codes "/" ++ process_text names row.proc ++ codes "/" ++ mode_letter row.mode ∷ []

abbrev pub lock_texts : List (List ℕ) → List LockRow → List ℕ
lock_texts names [] = []
lock_texts names (row ∷ rows) = lock_text names row ++ lock_texts names rows

-- what a name came to, of which nothing more is asked
abbrev pub result_text : List (List ℕ) → NameResult → List ℕ
result_text names (results.Found at) = codes "ok"
result_text names (results.Added u) = codes "ok"
result_text names results.Removed = codes "ok"
result_text names (results.Under p) = codes "ok"
result_text names (results.Rows rows) = codes "ok" ++ row_texts rows
result_text names results.Nodes = codes "ok" ++ node_texts names
result_text names results.NoName = codes "no name"
result_text names results.NameExists = codes "name exists"
result_text names results.NotDir = codes "not a directory"
result_text names results.IsDir = codes "is a directory"
result_text names results.DirFull = codes "directory full"
result_text names results.LinkLoop = codes "link loop"
result_text names results.BadDir = codes "bad directory"
result_text names (results.Store reply) = answer_text names reply

-- an object to which a path leads, and a directory that is to be the working one
abbrev pub found_text : Walked → List ℕ
found_text Root = codes "is a directory"
found_text (At u kind within) = codes "ok " ++ text_of u

abbrev pub entered_text : List ℕ → Walked → List ℕ
entered_text text (At u kinds.Directory within) = codes "ok " ++ text
entered_text text _ = codes "not a directory"

abbrev pub came_text : Part → Working → Command → NameResult → List ℕ
came_text part working (Bind var path) (results.Found at) = found_text at
came_text part working (Wd (Some path)) (results.Found at) = entered_text (text_at part working path) at
came_text part working command result = result_text part.names result

-- what a file came to
abbrev pub stream_text : List (List ℕ) → StreamResult → List ℕ
stream_text names (streams.Bytes bytes) = codes "ok " ++ quoted_text bytes
stream_text names (streams.Count n) = codes "ok " ++ decimal n
stream_text names streams.Fine = codes "ok"
stream_text names (streams.Store reply) = answer_text names reply

abbrev pub outcome_text : Part → Working → Command → Outcome → List ℕ
outcome_text part working command (Replied reply) = answer_text part.names reply
outcome_text part working command (Came result) = came_text part working command result
outcome_text part working command (Streamed result) = stream_text part.names result
outcome_text part working command (Written text) = text

-- the variable that a command binds, with its object: what a `new` made, or what a `bind` found; both are always named
abbrev pub bound_by : Command → Outcome → Option (List ℕ × ObjectName)
bound_by (New var room home) (Replied (Made u)) = cond (is_uid u) (Some (var, u)) None
bound_by (Bind var path) (Came (results.Found (At u kind within))) = cond (is_uid u) (Some (var, u)) None
bound_by command outcome = None

-- the working directory behind a command
abbrev pub working_after : Part → Working → Command → Outcome → Working
working_after part working (Wd (Some path)) (Came (results.Found (At u kinds.Directory within))) = record { dir = u; text = text_at part working path }
working_after part working command outcome = working

abbrev pub bind_if : Option (List ℕ × ObjectName) → Bound → Bound
bind_if None bound = bound
bind_if (Some (var, u)) bound = bind var u bound

-- where a process stands behind a command that came to this
abbrev pub standing_after : Part → Command → Outcome → Standing → Standing
standing_after part command outcome at = record {
  bound = bind_if (bound_by command outcome) at.bound;
  working = working_after part at.working command outcome;
}
