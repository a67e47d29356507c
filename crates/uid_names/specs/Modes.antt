-- Which modes write, which conflict, and how a mode is written.
use Rattle.std.specs.Prelude.{ℕ, Bool, true, false, not, ◌||◌, ◌&&◌, ◌==◌, Option, List, [], ◌∷◌, find}
use Rattle.uid_names.specs.Names.{ProcName}
use Rattle.uid_names.specs.declared.mode.Mode.{Mode}
use Rattle.uid_names.specs.declared.mode.Mode.TheVariants.{Read, Write, CoWrite}
use Rattle.uid_names.specs.declared.mode.ObjKind.{ObjKind}
use Rattle.uid_names.specs.declared.mode.ObjKind.TheVariants.{File, Directory, Link, Mail}

abbrev pub mode_writes : Mode → Bool
mode_writes Read = false
mode_writes Write = true
mode_writes CoWrite = true

-- whether a holder may remove the object: Write alone, and no other mode that writes
abbrev pub mode_removes : Mode → Bool
mode_removes Read = false
mode_removes Write = true
mode_removes CoWrite = false

-- whether several processes of one node may hold an object so at once
abbrev pub mode_shared : Mode → Bool
mode_shared Read = false
mode_shared Write = false
mode_shared CoWrite = true

-- the two go together though they write: both are shared, and their processes are of one node
abbrev pub are_together : ProcName → Mode → ProcName → Mode → Bool
are_together p m q n = mode_shared m && (mode_shared n && (p.node == q.node))

-- two processes conflict unless both only read, or they write together
abbrev pub modes_clash : ProcName → Mode → ProcName → Mode → Bool
modes_clash p m q n = (mode_writes m || mode_writes n) && not (are_together p m q n)

-- `r`, `w` and `c`
abbrev pub mode_letter : Mode → ℕ
mode_letter Read = 114
mode_letter Write = 119
mode_letter CoWrite = 99

-- the number of a mode in a frame
abbrev pub mode_code : Mode → ℕ
mode_code Read = 1
mode_code Write = 2
mode_code CoWrite = 3

-- all modes
abbrev pub all_modes : List Mode
all_modes = Read ∷ Write ∷ CoWrite ∷ []

-- the mode of a letter
abbrev pub mode_of_letter : ℕ → Option Mode
mode_of_letter letter = find (λ m. mode_letter m == letter) all_modes

-- the mode of a number in a frame
abbrev pub mode_of_code : ℕ → Option Mode
mode_of_code code = find (λ m. mode_code m == code) all_modes

-- the number of an object's kind in a frame
abbrev pub object_code : ObjKind → ℕ
object_code File = 1
object_code Directory = 2
object_code Link = 3
object_code Mail = 4

-- all kinds of objects
abbrev pub all_objects : List ObjKind
all_objects = File ∷ Directory ∷ Link ∷ Mail ∷ []

-- the kind of objects of a number in a frame
abbrev pub object_of_code : ℕ → Option ObjKind
object_of_code code = find (λ k. object_code k == code) all_objects
