-- The bytes that the plain store keeps in pages, for its private code alone (see Kept).
use Rattle.std.specs.Prelude.{◌≡◌, ℕ, ◌/◌, ◌%◌, ◌==◌, ◌&&◌, Bool, List, replicate, slice_index, unwrap_or}
use Rattle.std.specs.HashMap.{get}
use Rattle.uid_names.specs.Names.{ObjectName, same_uid}
use Rattle.uid_names.specs.Openings.{Start}
use Rattle.uid_names.specs.declared.limits.TheConstants.{PAGE_BYTES}
use Rattle.plain_store.specs.declared.pages.Pages.{Pages}
use Rattle.dom_history.specs.StoreEffects.{StoreEffect}
use Rattle.dom_history.specs.Bytes.{byte}

-- one page of one object
abbrev pub same_page : ObjectName × ℕ → ObjectName × ℕ → Bool
same_page a b = same_uid a.0 b.0 && (a.1 == b.1)

-- a page of an object; one that is missing is zero
abbrev pub page_in : Pages → ObjectName → ℕ → List ℕ
page_in pages u number = unwrap_or (get same_page pages.pages (u, number)) (replicate PAGE_BYTES 0)

-- the byte at an offset of an object
abbrev pub byte_in : Pages → ObjectName → ℕ → ℕ
byte_in pages u o = slice_index (page_in pages u (o / PAGE_BYTES)) (o % PAGE_BYTES)

-- each byte is what the stores left
pub record HoldBytes (pages : Pages) (opening : Start) (past : List StoreEffect) : Type 0 where
  pub bytes : (u : ObjectName) (o : ℕ) → byte_in pages u o ≡ byte opening past u o
