-- The object that is made for a name.
use Rattle.std.specs.Prelude.{ℕ, Option, List}
use Rattle.uid_names.specs.declared.mode.ObjKind.{ObjKind}

-- its kind and its room in pages; a link has a text
pub record Intended : Type 0 where
  pub kind : ObjKind
  pub room : ℕ
  pub text : Option (List ℕ)

abbrev pub object_for : ObjKind → ℕ → Option (List ℕ) → Intended
object_for kind room text = record { kind = kind; room = room; text = text }
