-- How far a walk can go.
use Rattle.std.specs.Prelude.{ℕ, suc, ◌+◌, Option, Some, None, List, length}
use Rattle.uid_names.specs.Names.{ObjectName}
use Rattle.dir_records.specs.declared.path.Route.{Route}
use Rattle.naming_tree.specs.declared.step.Walked.{Walked}
use Rattle.naming_tree.specs.declared.step.NameResult.{NameResult}
use Rattle.dir_records.specs.Paths.{route_of}
use Rattle.naming_tree.specs.Dialogues.{Dialogue, Ends}
use Rattle.naming_tree.specs.Sessions.{reading}
use Rattle.naming_tree.specs.Walks.{look_up}

-- how many names a path has; none where there is no path
abbrev pub names_along : Option Route → ℕ
names_along None = 0
names_along (Some route) = length route.names

-- it follows at most so many links and looks up at most so many names, where each link adds the names of its text
pub data IsBounded : ℕ → ℕ → Dialogue → Type 0 where
  ended : {links names : ℕ} (result : NameResult) → IsBounded links names (Ends result)
  looked : {links names : ℕ} (dir : ObjectName) (name : List ℕ) (next : Walked → Dialogue) → ((here : Walked) → IsBounded links names (next here)) → IsBounded links (suc names) (look_up dir name next)
  followed : {links names : ℕ} (link : ObjectName) (next : List ℕ → Dialogue) → ((text : List ℕ) → IsBounded links (names_along (route_of text) + names) (next text)) → IsBounded (suc links) names (reading link next)
