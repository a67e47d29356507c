-- Where walks have led: to a file, a mailbox or a directory that a command asks for, or to something else.
use Rattle.std.specs.Prelude.{ℕ, List, codes}
use Rattle.uid_names.specs.declared.mode.ObjKind.TheVariants as kinds
use Rattle.naming_tree.specs.declared.step.NameResult.{NameResult}
use Rattle.naming_tree.specs.declared.step.NameResult.TheVariants.{Found, Nodes, IsDir, NotDir}
use Rattle.naming_tree.specs.declared.step.Walked.{Walked}
use Rattle.naming_tree.specs.declared.step.Walked.TheVariants.{Root, At}
use Rattle.command_talks.specs.declared.arriving.Arrival.{Arrival}
use Rattle.command_talks.specs.declared.arriving.Arrival.TheVariants.{There, Else}
use Rattle.command_talks.specs.declared.outcome.Outcome.TheVariants.{Came, Written}

-- the answer of a command whose file is none
abbrev pub not_a_file : List ℕ
not_a_file = codes "not a file"

-- a file, or something that is none
abbrev pub file_at : Walked → Arrival
file_at Root = Else (Came IsDir)
file_at (At u kinds.File within) = There u
file_at (At u kinds.Directory within) = Else (Came IsDir)
file_at (At u kind within) = Else (Written not_a_file)

abbrev pub file_in : NameResult → Arrival
file_in (Found at) = file_at at
file_in result = Else (Came result)

-- the answer of a command whose mailbox is none
abbrev pub not_a_mailbox : List ℕ
not_a_mailbox = codes "not a mailbox"

-- a mailbox, or something that is none
abbrev pub mail_at : Walked → Arrival
mail_at (At u kinds.Mail within) = There u
mail_at at = Else (Written not_a_mailbox)

abbrev pub mail_in : NameResult → Arrival
mail_in (Found at) = mail_at at
mail_in result = Else (Came result)

-- a directory, or something that is none; the root lists the nodes
abbrev pub directory_at : Walked → Arrival
directory_at Root = Else (Came Nodes)
directory_at (At u kinds.Directory within) = There u
directory_at (At u kind within) = Else (Came NotDir)

abbrev pub directory_in : NameResult → Arrival
directory_in (Found at) = directory_at at
directory_in result = Else (Came result)
