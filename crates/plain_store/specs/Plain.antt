-- What contracts see of the plain store.
use Rattle.std.specs.Prelude.{List, ◌∷◌}
use Rattle.uid_names.specs.Openings.{Start}
use Rattle.dom_history.specs.declared.deed.Deed.{Deed}

-- the opening, and all that was done, the newest first
pub record Plain : Type 0 where
  pub opening : Start
  pub deeds : List Deed

-- the store after one more deed
abbrev pub after_deed : Plain → Deed → Plain
after_deed s d = record { opening = s.opening; deeds = d ∷ s.deeds }
