-- How a walk goes on, reply by reply.
use Rattle.std.specs.Prelude.{◌≡◌, ℕ, zero, suc, Bool, true, false, Option, Some, None, List, [], ◌∷◌, ◌++◌}
use Rattle.uid_names.specs.Names.{ObjectName}
use Rattle.dom_history.specs.declared.op.Op.{Op}
use Rattle.dom_history.specs.declared.op.Reply.{Reply}
use Rattle.dir_records.specs.declared.row.DirRow.{DirRow}
use Rattle.dir_records.specs.declared.path.Route.{Route}
use Rattle.naming_tree.specs.declared.step.Within.{Within}
use Rattle.naming_tree.specs.declared.step.Walked.{Walked}
use Rattle.naming_tree.specs.declared.step.Walked.TheVariants.{Root, At}
use Rattle.naming_tree.specs.declared.step.NameResult.TheVariants.{Found, NoName, NotDir, LinkLoop, BadDir, Store}
use Rattle.naming_tree.specs.declared.site.Site.{Site}
use Rattle.naming_tree.specs.declared.walking.Aim.{Aim}
use Rattle.naming_tree.specs.declared.walking.Aim.TheVariants.{Begin, Name, Link}
use Rattle.naming_tree.specs.declared.walking.Walking.{Walking}
use Rattle.dir_records.specs.Records.{Slot}
use Rattle.dir_records.specs.Directories.{directory_of, row_named}
use Rattle.dir_records.specs.Paths.{route_of}
use Rattle.naming_tree.specs.Readings.{reading_of, reading_op, reading_after, is_done, IsReading}
use Rattle.naming_tree.specs.Turns.{Turn, Goes, Comes}
use Rattle.naming_tree.specs.Walks.{start_at, at_row, holder, at_end, at_middle, most_links}

-- it looks a name up in a directory
abbrev pub looks : ObjectName → List ℕ → List (List ℕ) → Walking → Walking
looks dir name names w = record w { rest = names; aim = Name (record { dir = dir; name = name }); reading = reading_of dir }

-- it follows a link, which its directory holds, if it may
abbrev pub follows : ℕ → ObjectName → ObjectName → Walking → Turn Walking
follows zero link dir w = Comes LinkLoop
follows (suc n) link dir w = Goes (record w { links = n; aim = Link dir; reading = reading_of link })

-- it stands here, with these names behind
abbrev pub stands : Walked → List (List ℕ) → Walking → Turn Walking
stands Root [] w = Comes (Found Root)
stands Root (name ∷ names) w = Comes NotDir
stands (At u kind within) [] w = at_end kind w.last (follows w.links u (holder u within) w) (Comes (Found (At u kind within)))
stands (At u kind within) (name ∷ names) w = at_middle kind (Goes (looks u name names w)) (follows w.links u (holder u within) w) (Comes NotDir)

-- it comes here, if there is such a place
abbrev pub settled : Option Walked → Walking → Turn Walking
settled None w = Comes NoName
settled (Some here) w = stands here w.rest w

-- a name was looked up
abbrev pub at_found : Option DirRow → ObjectName → Walking → Turn Walking
at_found None dir w = Comes NoName
at_found (Some row) dir w = settled (Some (at_row dir row)) w

abbrev pub at_slots : Option (List Slot) → Within → Walking → Turn Walking
at_slots None within w = Comes BadDir
at_slots (Some slots) within w = at_found (row_named within.name slots) within.dir w

-- a link was read
abbrev pub at_route : Option Route → ObjectName → Walking → Turn Walking
at_route None dir w = Comes BadDir
at_route (Some route) dir w = settled (start_at w.site dir route.start) (record w { rest = route.names ++ w.rest })

-- what was read moves it on
abbrev pub moved_by : Aim → List ℕ → Walking → Turn Walking
moved_by (Begin here) bytes w = settled here w
moved_by (Name within) bytes w = at_slots (directory_of bytes) within w
moved_by (Link dir) bytes w = at_route (route_of bytes) dir w

abbrev pub moved : Walking → Turn Walking
moved w = moved_by w.aim w.reading.bytes w

-- a reply was taken in by the reading, which goes on, was refused, or is done
abbrev pub on_reading : Bool → Option Reply → Walking → Turn Walking
on_reading false refused w = Goes w
on_reading true (Some reply) w = Comes (Store reply)
on_reading true None w = moved w

abbrev pub read_on : Walking → Turn Walking
read_on w = on_reading (is_done w.reading) w.reading.closing.refused w

-- what a walk becomes: at first it is told nothing
abbrev pub walking_after : Walking → Option Reply → Turn Walking
walking_after w None = moved w
walking_after w (Some reply) = read_on (record w { reading = reading_after w.reading reply })

-- what it asks; nothing before it began
abbrev pub asks_at : Aim → Walking → Option Op
asks_at (Begin here) w = None
asks_at (Name within) w = Some (reading_op w.reading)
asks_at (Link dir) w = Some (reading_op w.reading)

abbrev pub walking_asks : Walking → Option Op
walking_asks w = asks_at w.aim w

-- a walk along a path from a working directory, before it begins
abbrev pub walking_of : Site → Bool → Route → ObjectName → Walking
walking_of site last route working = record {
  site = site;
  last = last;
  links = most_links;
  rest = route.names;
  aim = Begin (start_at site working route.start);
  reading = reading_of working;
}

-- it has begun, and its reading is at a stage that can be reached
pub record IsOn (w : Walking) : Type 0 where
  pub asks : walking_asks w ≡ Some (reading_op w.reading)
  pub reading : IsReading w.reading

-- what each walk keeps, whether it has begun or not
abbrev pub IsWalking : Walking → Type 0
IsWalking w = IsReading w.reading

-- a walk along a path, if it is one, before it begins
abbrev pub walk_of : Site → Bool → Option Route → ObjectName → Option Walking
walk_of site last None working = None
walk_of site last (Some route) working = Some (walking_of site last route working)
