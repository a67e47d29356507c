-- What is asked of names by their paths is in the ranges of operations.
use Rattle.std.proofs.Common.{ℕ, true, Option, Some, None, IfSome, List}
use Rattle.uid_names.specs.Names.{ObjectName, IsName}
use Rattle.uid_names.specs.declared.mode.ObjKind.{ObjKind}
use Rattle.uid_names.specs.declared.mode.ObjKind.TheVariants as kinds
use Rattle.dir_records.specs.Directories.{rows_in}
use Rattle.dir_records.specs.LastNames.{last_of}
use Rattle.dir_records.specs.Paths.{route_of}
use Rattle.dir_records.specs.declared.path.Route.{Route}
use Rattle.dir_records.specs.declared.row.DirRow.{DirRow}
use Rattle.naming_tree.specs.Dialogues.{Dialogue, Ends}
use Rattle.naming_tree.specs.NamePaths.{added_alone, alone_for, by_parent, if_directory, in_directory, listed, listing_at, on_last, reached, removed_alone, to_parent}
use Rattle.naming_tree.specs.Walks.{along, follow, most_links, start_at}
use Rattle.naming_tree.specs.declared.purpose.Purpose.{Purpose}
use Rattle.naming_tree.specs.declared.purpose.Purpose.TheVariants.{Adds, Drops}
use Rattle.naming_tree.specs.declared.site.Site.{Site}
use Rattle.naming_tree.specs.declared.step.NameResult.{NameResult}
use Rattle.naming_tree.specs.declared.step.Walked.{Walked}
use Rattle.naming_tree.specs.declared.step.Walked.TheVariants.{At, Root}
use Rattle.command_ranges.specs.Naming.{IsNamedResult, IsNamedWalked}
use Rattle.command_ranges.specs.Talking.{IsSite}
use Rattle.command_ranges.proofs.Names.{AsksNames, reading-names}
use Rattle.command_ranges.proofs.Paths.{IsLast, IsOfComponents, last-is, route-is}
use Rattle.command_ranges.proofs.Records.{IsComponent}
use Rattle.command_ranges.proofs.Walks.{along-most, start-named, start-walks}

-- a directory, and nothing else
kind-asks : (kind : ObjKind) (d : Dialogue) → AsksNames d → AsksNames (if_directory kind d)
kind-asks kinds.Directory d asks = asks
kind-asks kind d asks = tt

-- it is listed
listed-named : (rows : Option (List DirRow)) → IsNamedResult (listed rows)
listed-named None = tt
listed-named (Some rows) = tt

pub listing-names : (u : ObjectName) → IsName u → AsksNames (listing_at u)
listing-names u named = reading-names u (λ bytes. Ends (listed (rows_in bytes))) named (λ all. listed-named (rows_in all))

-- what is done with the last name of a path, in its directory
abbrev AsksAtLast : (List ℕ → ObjectName → Dialogue) → Type 0
AsksAtLast next = (name : List ℕ) → IsComponent name → (u : ObjectName) → IsName u → AsksNames (next name u)

parent-names : (next : ObjectName → Dialogue) → ((u : ObjectName) → IsName u → AsksNames (next u)) → (w : Walked) → IsNamedWalked w → AsksNames (in_directory next w)
parent-names next on Root named = tt
parent-names next on (At u kind within) named = kind-asks kind (next u) (on u named.0)

added-alone : (start : Option Walked) → IsNamedResult (added_alone start)
added-alone None = tt
added-alone (Some here) = tt

removed-alone : (start : Option Walked) → IsNamedResult (removed_alone start)
removed-alone None = tt
removed-alone (Some here) = tt

alone-for : (purpose : Purpose) (start : Option Walked) → IsNamedResult (alone_for purpose start)
alone-for Adds start = added-alone start
alone-for Drops start = removed-alone start

module _ (site : Site) (is : IsSite site) where
  module _ (alone : Option Walked → NameResult) (ends : (start : Option Walked) → IsNamedResult (alone start)) (next : List ℕ → ObjectName → Dialogue) (on : AsksAtLast next) where
    last-names : (parts : Option (List (List ℕ) × List ℕ)) (start : Option Walked) → IfSome parts IsLast → IfSome start IsNamedWalked → AsksNames (on_last site parts start alone next)
    last-names None start form named = ends start
    last-names (Some (front, name)) start form named =
        let to = in_directory (next name) in
        start-walks start (λ here. along site true to (follow site true to most_links) here front) named
        (λ here walked. along-most site is true to (parent-names (next name) (on name form)) here front walked)

    by_parent-names : (route : Option Route) (working : ObjectName) → IfSome route IsOfComponents → IsName working → AsksNames (by_parent site route working alone next)
    by_parent-names None working forms named = tt
    by_parent-names (Some route) working forms named = last-names (last_of route.names) (start_at site working route.start) (last-is route.names forms) (start-named site is working route.start named)

  pub reach-names : (path : List ℕ) (working : ObjectName) (purpose : Purpose) → IsName working → AsksNames (to_parent site path working purpose)
  reach-names path working purpose named =
      by_parent-names (alone_for purpose) (alone-for purpose) reached (λ name form u own. (own, form)) (route_of path) working (route-is path) named
