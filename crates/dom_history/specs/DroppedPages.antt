-- The pages that a list of dropped pages keeps.
use Rattle.std.specs.Prelude.{ℕ, List}
use Rattle.uid_names.specs.Names.{ObjectName}
use Rattle.dom_history.specs.declared.event.Pages.{Pages}
use Rattle.dom_history.specs.declared.event.Pages.TheVariants.{One, Many}

abbrev pub listed : Pages → List (ObjectName × ℕ)
listed (One page) = page
listed (Many pages) = pages.items
