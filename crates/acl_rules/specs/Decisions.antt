-- What a list decides: by its first entry for the subject.
use Rattle.std.specs.Prelude.{◌≡◌, ℕ, ◌+◌, Bool, true, false, ◌&&◌, cond, Option, Some, None, List, [], ◌∷◌, ◌++◌, length, bytes_eq}
use Rattle.std.specs.List.{AllByRecursion}
use Rattle.acl_rules.specs.declared.deciding.Decision.{Decision}
use Rattle.acl_rules.specs.declared.deciding.Decision.TheVariants.{Allowed, Denied}
use Rattle.acl_rules.specs.declared.entry.Entry.{Entry}
use Rattle.acl_rules.specs.declared.entry.Who.{Who}
use Rattle.acl_rules.specs.declared.entry.Who.TheVariants.{Each, Named}
use Rattle.acl_rules.specs.declared.rights.Rights.{Rights}

-- an entry is for a subject
abbrev pub stands_for : Who → List ℕ → Bool
stands_for Each word = true
stands_for (Named name) word = bytes_eq name word

abbrev pub is_for : List ℕ → List ℕ → Entry → Bool
is_for person project e = stands_for e.person person && stands_for e.project project

-- each right that is needed is had
abbrev pub has_if : Bool → Bool → Bool
has_if true has = has
has_if false has = true

abbrev pub has_all : Rights → Rights → Bool
has_all need has = has_if need.r has.r && (has_if need.w has.w && (has_if need.n has.n && has_if need.a has.a))

-- how many entries stand before the first one for a subject, counted from i, and the rights of that
abbrev pub first_from : ℕ → List ℕ → List ℕ → List Entry → Option (ℕ × Rights)
first_from i person project [] = None
first_from i person project (e ∷ entries) = cond (is_for person project e) (Some (i, e.rights)) (first_from (i + 1) person project entries)

-- what is decided by it; a denial tells its number, counted from 1
abbrev pub decision : Rights → Option (ℕ × Rights) → Decision
decision need None = Denied 0
decision need (Some found) = cond (has_all need found.1) Allowed (Denied (found.0 + 1))

abbrev pub decided : List Entry → List ℕ → List ℕ → Rights → Decision
decided entries person project need = decision need (first_from 0 person project entries)

-- entries that are not for a subject
abbrev pub IsForAnother : List ℕ → List ℕ → Entry → Type 0
IsForAnother person project e = is_for person project e ≡ false

abbrev pub AreForOthers : List ℕ → List ℕ → List Entry → Type 0
AreForOthers person project entries = AllByRecursion (IsForAnother person project) entries

-- the entry behind these is the first for a subject
pub record IsFirstFor (person project : List ℕ) (front : List Entry) (e : Entry) : Type 0 where
  pub others : AreForOthers person project front
  pub own : is_for person project e ≡ true

-- whatever is needed, the entry behind these decides
abbrev pub IsDecidedBy : List ℕ → List ℕ → List Entry → Entry → List Entry → Type 0
IsDecidedBy person project front e behind = (need : Rights) → decided (front ++ e ∷ behind) person project need ≡ decision need (Some (length front, e.rights))
