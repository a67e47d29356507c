-- What the code knows of lists of directories that are told something.
use Rattle.std.proofs.Common.{◌≡◌, Bool, true, false, Some, refl}
use Rattle.dom_history.specs.declared.op.Reply.{Reply}
use Rattle.dom_history.specs.Fitting.{Fits}
use Rattle.naming_tree.specs.declared.listing.Listing.{Listing}
use Rattle.naming_tree.specs.declared.reading.Reading.{Reading}
use Rattle.naming_tree.specs.ListsAt.{asks_if, listing_asks}
use Rattle.naming_tree.specs.Readings.{reading_op}
use Rattle.naming_tree.specs.Turns.{FitsAsked}

fits_if : (begun : Bool) (r : Reading) (reply : Reply) → FitsAsked (asks_if begun r) (Some reply) → Fits (reading_op r) reply
fits_if false r reply fits = absurd fits
fits_if true r reply fits = fits

-- a reply that fits is one to its reading
pub begun_fits : (l : Listing) (reply : Reply) → FitsAsked (listing_asks l) (Some reply) → Fits (reading_op l.reading) reply
begun_fits l reply fits = fits_if l.begun l.reading reply fits

begun_if : (begun : Bool) (r : Reading) (reply : Reply) → FitsAsked (asks_if begun r) (Some reply) → begun ≡ true
begun_if false r reply fits = absurd fits
begun_if true r reply fits = refl

-- and only one that has begun is told one
pub has_begun : (l : Listing) (reply : Reply) → FitsAsked (listing_asks l) (Some reply) → l.begun ≡ true
has_begun l reply fits = begun_if l.begun l.reading reply fits
