-- How a directory is listed by its object, reply by reply.
use Rattle.std.specs.Prelude.{◌≡◌, Bool, true, false, Option, Some, None}
use Rattle.uid_names.specs.Names.{ObjectName}
use Rattle.dom_history.specs.declared.op.Op.{Op}
use Rattle.dom_history.specs.declared.op.Reply.{Reply}
use Rattle.dir_records.specs.Directories.{rows_in}
use Rattle.naming_tree.specs.declared.listing.Listing.{Listing}
use Rattle.naming_tree.specs.declared.reading.Reading.{Reading}
use Rattle.naming_tree.specs.declared.step.NameResult.TheVariants.{Store}
use Rattle.naming_tree.specs.NamePaths.{listed}
use Rattle.naming_tree.specs.Readings.{reading_of, reading_op, reading_after, is_done, IsReading}
use Rattle.naming_tree.specs.Turns.{Turn, Goes, Comes}

-- a list, before it begins
abbrev pub listing_of : ObjectName → Listing
listing_of dir = record { begun = false; reading = reading_of dir }

-- what it asks; nothing before it began
abbrev pub asks_if : Bool → Reading → Option Op
asks_if false r = None
asks_if true r = Some (reading_op r)

abbrev pub listing_asks : Listing → Option Op
listing_asks l = asks_if l.begun l.reading

-- the directory was read, or is read on
abbrev pub listed_if : Bool → Option Reply → Listing → Turn Listing
listed_if false refused l = Goes l
listed_if true (Some reply) l = Comes (Store reply)
listed_if true None l = Comes (listed (rows_in l.reading.bytes))

abbrev pub read_on : Listing → Turn Listing
read_on l = listed_if (is_done l.reading) l.reading.closing.refused l

-- what it becomes: at first it is told nothing
abbrev pub listing_after : Listing → Option Reply → Turn Listing
listing_after l None = Goes (record l { begun = true })
listing_after l (Some reply) = read_on (record l { reading = reading_after l.reading reply })

-- what it keeps, whether it has begun or not
abbrev pub IsListing : Listing → Type 0
IsListing l = IsReading l.reading

-- it has begun
pub record IsOn (l : Listing) : Type 0 where
  pub begun : l.begun ≡ true
  pub reading : IsReading l.reading
