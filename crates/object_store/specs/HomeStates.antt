-- What contracts see of a home, and what its calls make of it.
use Rattle.std.specs.Prelude.{ℕ, ◌+◌, ◌==◌, if◌then◌else◌, List, [], ◌∷◌, ◌++◌, Option, None, refl}
use Rattle.std.specs.Coded.{Coded, code_by, coded×, coded_list, coded_ℕ}
use Rattle.uid_names.specs.Names.{ObjectName}
use Rattle.uid_names.specs.declared.mode.ObjKind.{ObjKind}
use Rattle.page_store.specs.Volumes.{Volume, volume_code, with_page, without_object}
use Rattle.object_store.specs.declared.attributes.Attr.{Attr}
use Rattle.object_store.specs.declared.attributes.ObjectRow.{ObjectRow}
use Rattle.object_store.specs.contracts.attributes.ObjectRow as object_row
use Rattle.object_store.specs.Objects.{attr_at, fresh, stamped, resized, with_change, without_row}

-- a home: its node, its objects in the order of their counters, the greatest counter that it ever gave, and the pages
pub record HomeState : Type 0 where
  pub node : ℕ
  pub objects : List ObjectRow
  pub greatest : ℕ
  pub pages : Volume

-- how a home is stored
abbrev pub home_code : Coded HomeState
home_code =
    code_by (ℕ × (List ObjectRow × (ℕ × Volume))) (coded× coded_ℕ (coded× (coded_list object_row.the_row.coded) (coded× coded_ℕ volume_code)))
    (λ home. (home.node, (home.objects, (home.greatest, home.pages)))) (λ p. record { node = p.0; objects = p.1.0; greatest = p.1.1.0; pages = p.1.1.1 }) (λ _. refl)

-- the attributes of the object with this counter, where it is there
abbrev pub attr_in : HomeState → ℕ → Option Attr
attr_in home counter = attr_at home.objects counter

-- the attributes of an object, where it is there; an object of another home is not
abbrev pub attr_of : HomeState → ObjectName → Option Attr
attr_of home uid = if uid.home == home.node then attr_at home.objects uid.counter else None

-- the object that the next making adds
abbrev pub next_row : HomeState → ObjKind → ℕ → ObjectRow
next_row home kind room = record { counter = home.greatest + 1; attr = fresh kind room }

-- the home after a making
abbrev pub after_make : HomeState → ObjKind → ℕ → HomeState
after_make home kind room = record home { objects = home.objects ++ next_row home kind room ∷ []; greatest = home.greatest + 1 }

-- the home after a removal
abbrev pub after_remove : HomeState → ℕ → HomeState
after_remove home counter = record home { objects = without_row counter home.objects; pages = without_object home.pages counter }

-- the home after a write of a page
abbrev pub after_page : HomeState → ℕ → ℕ → List ℕ → HomeState
after_page home counter page bytes = record home { objects = with_change stamped counter home.objects; pages = with_page home.pages counter page bytes }

-- the home after a write of the length
abbrev pub after_length : HomeState → ℕ → ℕ → HomeState
after_length home counter length = record home { objects = with_change (resized length) counter home.objects }
