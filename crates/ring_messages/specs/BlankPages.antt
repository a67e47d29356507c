-- Pages of zeros.
use Rattle.std.specs.Prelude.{ℕ, Bool, List, replicate, bytes_eq}
use Rattle.uid_names.specs.declared.limits.TheConstants.{PAGE_BYTES}

-- a page of zeros
unfoldable pub blank_page : List ℕ
blank_page = replicate PAGE_BYTES 0

abbrev pub is_blank : List ℕ → Bool
is_blank bytes = bytes_eq bytes blank_page
