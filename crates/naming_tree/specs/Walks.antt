-- A walk along a path, and what it asks.
use Rattle.std.specs.Prelude.{ℕ, zero, suc, Bool, true, Option, Some, None, List, [], ◌∷◌, ◌++◌, bytes_eq, option_map}
use Rattle.std.specs.List.{position_from}
use Rattle.uid_names.specs.Names.{ObjectName}
use Rattle.uid_names.specs.declared.mode.ObjKind.{ObjKind}
use Rattle.uid_names.specs.declared.mode.ObjKind.TheVariants.{Directory, Link}
use Rattle.dir_records.specs.declared.row.DirRow.{DirRow}
use Rattle.dir_records.specs.declared.path.Start.{Start}
use Rattle.dir_records.specs.declared.path.Start.TheVariants as starts
use Rattle.dir_records.specs.declared.path.Route.{Route}
use Rattle.naming_tree.specs.declared.step.Within.{Within}
use Rattle.naming_tree.specs.declared.step.Walked.{Walked}
use Rattle.naming_tree.specs.declared.step.Walked.TheVariants.{Root, At}
use Rattle.naming_tree.specs.declared.step.NameResult.TheVariants.{Found, NoName, NotDir, LinkLoop, BadDir}
use Rattle.naming_tree.specs.declared.site.Site.{Site}
use Rattle.dir_records.specs.Records.{Slot}
use Rattle.dir_records.specs.Directories.{directory_of, row_named}
use Rattle.dir_records.specs.Paths.{route_of}
use Rattle.naming_tree.specs.Dialogues.{Dialogue, Ends}
use Rattle.naming_tree.specs.Sessions.{reading}

-- the number of the node of a name
abbrev pub node_named : List (List ℕ) → List ℕ → Option ℕ
node_named names name = position_from (λ other. bytes_eq other name) 1 names

-- a directory where a path starts
abbrev pub at_start : ObjectName → Walked
at_start u = At u Directory None

-- a node's entry directory, which has the counter 1
abbrev pub at_entry : ℕ → Walked
at_entry node = at_start (record { counter = 1; home = node })

-- where a path starts, if there is such a node; one that begins with a name starts at this directory
abbrev pub start_at : Site → ObjectName → Start → Option Walked
start_at site dir starts.Root = Some Root
start_at site dir (starts.Node name) = option_map at_entry (node_named site.names name)
start_at site dir starts.Own = Some (at_entry site.own)
start_at site dir starts.Working = Some (at_start dir)

-- what a directory has by a name
abbrev pub at_row : ObjectName → DirRow → Walked
at_row dir row = At row.uid row.kind (Some (record { dir = dir; name = row.name }))

-- the directory that holds a link; only names in directories are links
abbrev pub holder : ObjectName → Option Within → ObjectName
holder u None = u
holder u (Some within) = within.dir

-- the most links of a walk
abbrev pub most_links : ℕ
most_links = 8

-- on from a row of a directory, if it was found
abbrev pub on_row : Option DirRow → ObjectName → (Walked → Dialogue) → Dialogue
on_row None dir next = Ends NoName
on_row (Some row) dir next = next (at_row dir row)

abbrev pub on_directory : Option (List Slot) → List ℕ → ObjectName → (Walked → Dialogue) → Dialogue
on_directory None name dir next = Ends BadDir
on_directory (Some slots) name dir next = on_row (row_named name slots) dir next

-- a name is looked up: the whole directory is read before it is judged
abbrev pub look_up : ObjectName → List ℕ → (Walked → Dialogue) → Dialogue
look_up dir name next = reading dir (λ bytes. on_directory (directory_of bytes) name dir next)

-- at the end of a path: a link may be followed there
abbrev pub at_end : {X : Type 0} → ObjKind → Bool → X → X → X
at_end Link true follow found = follow
at_end _ _ follow found = found

-- at an object with names behind it: these are looked up in a directory, a link is followed, and there is no other way
abbrev pub at_middle : {X : Type 0} → ObjKind → X → X → X → X
at_middle Directory look follow no_way = look
at_middle Link look follow no_way = follow
at_middle _ look follow no_way = no_way

-- on from where a path starts
abbrev pub on_start : Option Walked → (Walked → Dialogue) → Dialogue
on_start None next = Ends NoName
on_start (Some w) next = next w

-- on along a path and then along further names, from a directory where the path is relative
abbrev pub on_route : Site → Option Route → ObjectName → List (List ℕ) → (Walked → List (List ℕ) → Dialogue) → Dialogue
on_route site None dir names next = Ends BadDir
on_route site (Some route) dir names next = on_start (start_at site dir route.start) (λ w. next w (route.names ++ names))

module _ (site : Site) (last : Bool) (found : Walked → Dialogue) where
  -- along names from an object; `follow` goes on behind a link, which its directory holds
  abbrev pub along : (ObjectName → ObjectName → List (List ℕ) → Dialogue) → Walked → List (List ℕ) → Dialogue
  along follow Root [] = found Root
  along follow Root (name ∷ names) = Ends NotDir
  along follow (At u kind within) [] = at_end kind last (follow u (holder u within) []) (found (At u kind within))
  along follow (At u kind within) (name ∷ names) = at_middle kind (look_up u name (λ w. along follow w names)) (follow u (holder u within) (name ∷ names)) (Ends NotDir)

  -- a link is read and its path gone along, and then the names behind it, where so many may be followed
  abbrev pub follow : ℕ → ObjectName → ObjectName → List (List ℕ) → Dialogue
  follow zero link dir names = Ends LinkLoop
  follow (suc n) link dir names = reading link (λ text. on_route site (route_of text) dir names (along (follow n)))

  -- a walk along a path from a working directory
  abbrev pub walking : List ℕ → ObjectName → Dialogue
  walking path working = on_route site (route_of path) working [] (along (follow most_links))

-- a walk whose value is what it found; a link at its end is followed or not
abbrev pub walk : Site → List ℕ → ObjectName → Bool → Dialogue
walk site path working last = walking site last (λ w. Ends (Found w)) path working
