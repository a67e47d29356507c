-- A machine that was made and never called may be told nothing; one that said an operation, each reply that fits it.
use Rattle.std.proofs.Common.{◌≡◌, ℕ, Bool, Option, Some, None, List, refl, subst, sym}
use Rattle.std.specs.Prelude.{IsSome}
use Rattle.uid_names.specs.Names.{ObjectName}
use Rattle.uid_names.specs.declared.mode.ObjKind.{ObjKind}
use Rattle.dom_history.specs.declared.op.Op.{Op}
use Rattle.dom_history.specs.declared.op.Reply.{Reply}
use Rattle.naming_tree.specs.declared.by_path.ByPath.{ByPath}
use Rattle.naming_tree.specs.declared.changing.Change.{Change}
use Rattle.naming_tree.specs.declared.changing.Change.TheVariants.{Add, Remove}
use Rattle.naming_tree.specs.declared.changing.Changing.{Changing}
use Rattle.dir_records.specs.declared.path.Route.{Route}
use Rattle.dir_records.specs.declared.path.Start.{Start}
use Rattle.naming_tree.specs.declared.site.Site.{Site}
use Rattle.naming_tree.specs.declared.step.NameResult.{NameResult}
use Rattle.naming_tree.specs.Dialogues.{NameStep, FitsSaid}
use Rattle.naming_tree.specs.declared.step.Step.TheVariants.{Do, Over}
use Rattle.naming_tree.specs.declared.step.Walked.{Walked}
use Rattle.naming_tree.specs.declared.task.Task.{Task}
use Rattle.naming_tree.specs.declared.task.Task.TheVariants as tasks
use Rattle.naming_tree.specs.declared.walking.Walking.{Walking}
use Rattle.naming_tree.specs.Changing.{changing_asks, changing_of}
use Rattle.naming_tree.specs.ByPaths.{by_path_asks, on_last, add_name_of, drop_name_of, list_dir_of}
use Rattle.dir_records.specs.LastNames.{last_of}
use Rattle.naming_tree.specs.NamePaths.{added_alone, removed_alone, addition}
use Rattle.naming_tree.specs.Turns.{Turn, IsReady, stood_after, stood_says}
use Rattle.naming_tree.specs.Walking.{walking_asks, walk_of}
use Rattle.naming_tree.proofs.Ready.{ready}

module _ {S : Type 0} (asks : S → Option Op) where
  -- one that said a step may be told each reply that fits it
  pub goes_on : (after : S → Option Reply → Turn S) (m new : Option S) (last : Option Reply) (said : NameStep) (reply : Reply)
      → new ≡ stood_after after m last → Some said ≡ stood_says asks after m last → FitsSaid said reply → IsReady asks new (Some reply)
  goes_on after m new last (Do op) reply n e fits = ready asks after m new last op reply n e fits
  goes_on after m new last (Over result) reply n e fits = absurd fits

  by_value : (m made : Option S) → m ≡ made → IsReady asks made None → IsReady asks m None
  by_value m made e ready = subst (λ s. IsReady asks s None) (sym e) ready

walk_ready : (site : Site) (last : Bool) (route : Option Route) (working : ObjectName) → IsSome route → IsReady walking_asks (walk_of site last route working) None
walk_ready site last None working there = absurd cc
walk_ready site last (Some route) working there = record { still = refl; fits = tt }

pub walk_begun : (site : Site) (last : Bool) (route : Option Route) (working : ObjectName) (m : Option Walking) → m ≡ walk_of site last route working → IsSome route → IsReady walking_asks m None
walk_begun site last route working m e there = by_value walking_asks m (walk_of site last route working) e (walk_ready site last route working there)

list_ready : (site : Site) (route : Option Route) (working : ObjectName) → IsSome route → IsReady by_path_asks (list_dir_of site route working) None
list_ready site None working there = absurd cc
list_ready site (Some route) working there = record { still = refl; fits = tt }

pub list_begun : (site : Site) (route : Option Route) (working : ObjectName) (m : Option ByPath) → m ≡ list_dir_of site route working → IsSome route → IsReady by_path_asks m None
list_begun site route working m e there = by_value by_path_asks m (list_dir_of site route working) e (list_ready site route working there)

last_ready : (site : Site) (start : Start) (working : ObjectName) (alone : Option Walked → NameResult) (task : List ℕ → Task) (last : Option (List (List ℕ) × List ℕ))
    → IsReady by_path_asks (Some (on_last site start working alone task last)) None
last_ready site start working alone task None = record { still = refl; fits = tt }
last_ready site start working alone task (Some (front, name)) = record { still = refl; fits = tt }

add_ready : (site : Site) (route : Option Route) (working : ObjectName) (kind : ObjKind) (room : ℕ) (text : Option (List ℕ)) → IsSome route → IsReady by_path_asks (add_name_of site route working kind room text) None
add_ready site None working kind room text there = absurd cc
add_ready site (Some route) working kind room text there =
    last_ready site route.start working added_alone (λ name. tasks.Change (changing_of working (Add (addition kind room text name)))) (last_of route.names)

pub add_begun : (site : Site) (route : Option Route) (working : ObjectName) (kind : ObjKind) (room : ℕ) (text : Option (List ℕ)) (m : Option ByPath)
    → m ≡ add_name_of site route working kind room text → IsSome route → IsReady by_path_asks m None
add_begun site route working kind room text m e there =
    by_value by_path_asks m (add_name_of site route working kind room text) e (add_ready site route working kind room text there)

drop_ready : (site : Site) (route : Option Route) (working : ObjectName) → IsSome route → IsReady by_path_asks (drop_name_of site route working) None
drop_ready site None working there = absurd cc
drop_ready site (Some route) working there =
    last_ready site route.start working removed_alone (λ name. tasks.Change (changing_of working (Remove name))) (last_of route.names)

pub drop_begun : (site : Site) (route : Option Route) (working : ObjectName) (m : Option ByPath) → m ≡ drop_name_of site route working → IsSome route → IsReady by_path_asks m None
drop_begun site route working m e there = by_value by_path_asks m (drop_name_of site route working) e (drop_ready site route working there)

pub change_begun : (dir : ObjectName) (change : Change) (m : Option Changing) → m ≡ Some (changing_of dir change) → IsReady changing_asks m None
change_begun dir change m e = by_value changing_asks m (Some (changing_of dir change)) e (record { still = refl; fits = tt })
