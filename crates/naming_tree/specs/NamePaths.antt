-- Names by their paths: how they are listed, added and removed.
use Rattle.std.specs.Prelude.{ℕ, true, Option, Some, None, List}
use Rattle.uid_names.specs.Names.{ObjectName}
use Rattle.uid_names.specs.declared.mode.ObjKind.{ObjKind}
use Rattle.uid_names.specs.declared.mode.ObjKind.TheVariants.{Directory}
use Rattle.dir_records.specs.declared.row.DirRow.{DirRow}
use Rattle.dir_records.specs.declared.path.Route.{Route}
use Rattle.naming_tree.specs.declared.site.Site.{Site}
use Rattle.naming_tree.specs.declared.addition.Addition.{Addition}
use Rattle.naming_tree.specs.declared.purpose.Purpose.{Purpose}
use Rattle.naming_tree.specs.declared.purpose.Purpose.TheVariants.{Adds, Drops}
use Rattle.naming_tree.specs.declared.step.Walked.{Walked}
use Rattle.naming_tree.specs.declared.step.Walked.TheVariants.{Root, At}
use Rattle.naming_tree.specs.declared.step.NameResult.{NameResult}
use Rattle.naming_tree.specs.declared.step.NameResult.TheVariants.{Under, Nodes, Rows, NoName, NameExists, NotDir, IsDir, BadDir}
use Rattle.dir_records.specs.Directories.{rows_in}
use Rattle.dir_records.specs.LastNames.{last_of}
use Rattle.dir_records.specs.Listings.{by_name}
use Rattle.dir_records.specs.Paths.{route_of}
use Rattle.naming_tree.specs.Dialogues.{Dialogue, Ends}
use Rattle.naming_tree.specs.Sessions.{reading}
use Rattle.naming_tree.specs.Walks.{start_at, most_links, on_start, along, follow, walking}
use Rattle.naming_tree.specs.Additions.{add_at}
use Rattle.naming_tree.specs.Removals.{drop_at}

-- what is no directory ends it
abbrev pub if_directory : ObjKind → Dialogue → Dialogue
if_directory Directory d = d
if_directory _ d = Ends NotDir

abbrev pub in_directory : (ObjectName → Dialogue) → Walked → Dialogue
in_directory next Root = Ends NotDir
in_directory next (At u kind within) = if_directory kind (next u)

-- a walk of all but the last name, at whose end a link is followed; and on from the directory that it leads to.
-- A path without a last name leads to nothing, and comes to `alone` by where it starts
abbrev pub on_last : Site → Option (List (List ℕ) × List ℕ) → Option Walked → (Option Walked → NameResult) → (List ℕ → ObjectName → Dialogue) → Dialogue
on_last site None start alone next = Ends (alone start)
on_last site (Some (front, name)) start alone next =
    on_start start (λ here. along site true (in_directory (next name)) (follow site true (in_directory (next name)) most_links) here front)

abbrev pub by_parent : Site → Option Route → ObjectName → (Option Walked → NameResult) → (List ℕ → ObjectName → Dialogue) → Dialogue
by_parent site None working alone next = Ends BadDir
by_parent site (Some route) working alone next = on_last site (last_of route.names) (start_at site working route.start) alone next

-- `//`, and the entry directory of a node
abbrev pub added_alone : Option Walked → NameResult
added_alone None = NotDir
added_alone (Some here) = NameExists

abbrev pub removed_alone : Option Walked → NameResult
removed_alone None = NoName
removed_alone (Some here) = IsDir

abbrev pub alone_for : Purpose → Option Walked → NameResult
alone_for Adds start = added_alone start
alone_for Drops start = removed_alone start

-- a path leads to the directory of its last name, which is not looked up
abbrev pub reached : List ℕ → ObjectName → Dialogue
reached name dir = Ends (Under (record { dir = dir; name = name }))

abbrev pub to_parent : Site → List ℕ → ObjectName → Purpose → Dialogue
to_parent site path working purpose = by_parent site (route_of path) working (alone_for purpose) reached

-- a name is added by its path
abbrev pub addition : ObjKind → ℕ → Option (List ℕ) → List ℕ → Addition
addition kind room text name = record { name = name; kind = kind; room = room; text = text }

abbrev pub add_name : Site → List ℕ → ObjectName → ObjKind → ℕ → Option (List ℕ) → Dialogue
add_name site path working kind room text = by_parent site (route_of path) working added_alone (λ name parent. add_at parent (addition kind room text name))

-- a name is removed by its path
abbrev pub drop_name : Site → List ℕ → ObjectName → Dialogue
drop_name site path working = by_parent site (route_of path) working removed_alone (λ name parent. drop_at parent name)

-- the rows of a directory, by their names
abbrev pub listed : Option (List DirRow) → NameResult
listed None = BadDir
listed (Some rows) = Rows (by_name rows)

-- a directory is listed; the root lists the nodes
abbrev pub listing_at : ObjectName → Dialogue
listing_at dir = reading dir (λ bytes. Ends (listed (rows_in bytes)))

abbrev pub listing : Walked → Dialogue
listing Root = Ends Nodes
listing (At u kind within) = if_directory kind (listing_at u)

abbrev pub list_dir : Site → List ℕ → ObjectName → Dialogue
list_dir site path working = walking site true listing path working
