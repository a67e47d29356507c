-- The kinds of frames: the one table of their numbers and names. Requests are below 128.
use Rattle.std.specs.Prelude.{ℕ, ◌==◌, Option, List, [], ◌∷◌, find, codes}
use Rattle.uid_names.specs.Texts.{written_so}
use Rattle.uid_names.specs.declared.frame_kind.FrameKind.{FrameKind}
use Rattle.uid_names.specs.declared.frame_kind.FrameKind.TheVariants.{PageIn, PageOut, AttrOut, Lock, Unlock, Remove, Make, List as ListRows, Page, Stored, Stale, NoGrant, NoObject, Granted, Conflict, Done, Made, NoSpace, Listed}

abbrev pub kind_number : FrameKind → ℕ
kind_number PageIn = 1
kind_number PageOut = 2
kind_number AttrOut = 3
kind_number Lock = 4
kind_number Unlock = 5
kind_number Remove = 6
kind_number Make = 7
kind_number ListRows = 8
kind_number Page = 129
kind_number Stored = 130
kind_number Stale = 131
kind_number NoGrant = 132
kind_number NoObject = 133
kind_number Granted = 134
kind_number Conflict = 135
kind_number Done = 136
kind_number Made = 137
kind_number NoSpace = 138
kind_number Listed = 139

abbrev pub kind_name : FrameKind → List ℕ
kind_name PageIn = codes "page-in"
kind_name PageOut = codes "page-out"
kind_name AttrOut = codes "attr-out"
kind_name Lock = codes "lock"
kind_name Unlock = codes "unlock"
kind_name Remove = codes "remove"
kind_name Make = codes "make"
kind_name ListRows = codes "list"
kind_name Page = codes "page"
kind_name Stored = codes "stored"
kind_name Stale = codes "stale"
kind_name NoGrant = codes "no-grant"
kind_name NoObject = codes "no-object"
kind_name Granted = codes "granted"
kind_name Conflict = codes "conflict"
kind_name Done = codes "done"
kind_name Made = codes "made"
kind_name NoSpace = codes "no-space"
kind_name Listed = codes "listed"

-- all of them, in the order of the table
abbrev pub all_kinds : List FrameKind
all_kinds =
    PageIn ∷ PageOut ∷ AttrOut ∷ Lock ∷ Unlock ∷ Remove ∷ Make ∷ ListRows ∷ Page ∷ Stored ∷ Stale ∷ NoGrant ∷ NoObject ∷ Granted
    ∷ Conflict ∷ Done ∷ Made ∷ NoSpace ∷ Listed ∷ []

-- the kind of a number
abbrev pub kind_of_number : ℕ → Option FrameKind
kind_of_number n = find (λ k. kind_number k == n) all_kinds

-- the kind of a name
abbrev pub kind_of_name : List ℕ → Option FrameKind
kind_of_name = written_so kind_name all_kinds
