-- A directory that is changed, and what that asks.
use Rattle.std.specs.Prelude.{Option, Some, None, List}
use Rattle.uid_names.specs.Names.{ObjectName}
use Rattle.uid_names.specs.declared.mode.Mode.TheVariants.{Write}
use Rattle.dir_records.specs.Records.{Slot}
use Rattle.dir_records.specs.Directories.{directory_of}
use Rattle.naming_tree.specs.declared.session.Opened.{Opened}
use Rattle.naming_tree.specs.declared.step.NameResult.TheVariants.{BadDir}
use Rattle.naming_tree.specs.Dialogues.{Dialogue}
use Rattle.naming_tree.specs.Sessions.{closing, closers, entering}

-- the change is made in a directory; bytes of none are left as they are
abbrev pub on_directory : (List Slot → Opened → Dialogue) → Option (List Slot) → Opened → Dialogue
on_directory change None o = closing (closers o) BadDir
on_directory change (Some slots) o = change slots o

-- a directory is opened and loaded whole, and then changed
abbrev pub changed : ObjectName → (List Slot → Opened → Dialogue) → Dialogue
changed parent change = entering parent Write (λ o all. on_directory change (directory_of all) o)
