-- What a walk asks is in the ranges of operations, and what it leads to has a name.
use Rattle.std.proofs.Common.{ℕ, zero, suc, ◌+◌, ◌≤◌, ◌<◌, Bool, true, false, Option, Some, None, IfSome, List, [], ◌∷◌, ◌++◌, length, arith}
use Rattle.std.specs.Prelude.{bytes_eq, option_map}
use Rattle.std.specs.List.{position_from}
use Rattle.std.proofs.lemmas.Bool.{cond_both}
use Rattle.uid_names.specs.Names.{ObjectName, IsName}
use Rattle.uid_names.specs.declared.mode.ObjKind.{ObjKind}
use Rattle.uid_names.specs.declared.mode.ObjKind.TheVariants as kinds
use Rattle.dom_history.specs.Ranges.{IsNodeNumber}
use Rattle.dir_records.specs.Directories.{directory_of, row_named}
use Rattle.dir_records.specs.Paths.{route_of}
use Rattle.dir_records.specs.Records.{Slot}
use Rattle.dir_records.specs.declared.path.Route.{Route}
use Rattle.dir_records.specs.declared.path.Start.{Start}
use Rattle.dir_records.specs.declared.path.Start.TheVariants as starts
use Rattle.dir_records.specs.declared.row.DirRow.{DirRow}
use Rattle.naming_tree.specs.Dialogues.{Dialogue, Ends}
use Rattle.naming_tree.specs.Walks.{along, at_end, at_entry, at_middle, at_row, follow, holder, look_up, most_links, node_named, on_directory, on_route, on_row, on_start, start_at, walk, walking}
use Rattle.naming_tree.specs.declared.site.Site.{Site}
use Rattle.naming_tree.specs.declared.step.NameResult.TheVariants.{Found, NotDir}
use Rattle.naming_tree.specs.declared.step.Walked.{Walked}
use Rattle.naming_tree.specs.declared.step.Walked.TheVariants.{At, Root}
use Rattle.naming_tree.specs.declared.step.Within.{Within}
use Rattle.command_ranges.specs.Naming.{IsNamedWalked}
use Rattle.command_ranges.specs.Talking.{IsSite}
use Rattle.command_ranges.proofs.Names.{AsksNames, reading-names}
use Rattle.command_ranges.proofs.Records.{AreNamedSlots, IsNamedSlot, directory-named, row-named}

-- the number of a node that has a name, of those from one on
abbrev IsFrom : ℕ → ℕ → ℕ → Type 0
IsFrom k count n = (k ≤ n) × (n < k + count)

next-within : (count k : ℕ) (found : Option ℕ) → IfSome found (IsFrom (k + 1) count) → IfSome found (IsFrom k (suc count))
next-within count k None is = tt
next-within count k (Some n) is = let low = is.0 in let high = is.1 in (omega (arith, low), omega (arith, high))

node-within : (names : List (List ℕ)) (name : List ℕ) (k : ℕ) → IfSome (position_from (λ other. bytes_eq other name) k names) (IsFrom k (length names))
node-within [] name k = tt
node-within (x ∷ names) name k =
    let rest = position_from (λ (other : List ℕ). bytes_eq other name) (k + 1) names in
    cond_both (bytes_eq x name) (Some k) rest (λ (o : Option ℕ). IfSome o (IsFrom k (suc (length names)))) (λ e. (omega arith, omega arith)) (λ e. next-within (length names) k rest (node-within names name (k + 1)))

pub entry-named : (node : ℕ) → IsNodeNumber node → IsNamedWalked (at_entry node)
entry-named node is = let low = is.0 in let high = is.1 in (record { counter_low = omega arith; counter_high = omega arith; home_low = low; home_high = omega (arith, high) }, tt)

-- at an object, by its kind
end-of-kind : (P : Dialogue → Type 0) (kind : ObjKind) (last : Bool) (follow found : Dialogue) → P follow → P found → P (at_end kind last follow found)
end-of-kind P kinds.Link true follow found p q = p
end-of-kind P kinds.Link false follow found p q = q
end-of-kind P kinds.File last follow found p q = q
end-of-kind P kinds.Directory last follow found p q = q
end-of-kind P kinds.Mail last follow found p q = q

middle-of-kind : (P : Dialogue → Type 0) (kind : ObjKind) (look follow no_way : Dialogue) → P look → P follow → P no_way → P (at_middle kind look follow no_way)
middle-of-kind P kinds.Directory look follow no_way p q r = p
middle-of-kind P kinds.Link look follow no_way p q r = q
middle-of-kind P kinds.File look follow no_way p q r = r
middle-of-kind P kinds.Mail look follow no_way p q r = r

-- a name is looked up
module _ (dir : ObjectName) (named : IsName dir) (next : Walked → Dialogue) (on : (w : Walked) → IsNamedWalked w → AsksNames (next w)) where
  row-walks : (found : Option DirRow) → IsNamedSlot found → AsksNames (on_row found dir next)
  row-walks None is = tt
  row-walks (Some row) is = on (at_row dir row) (is, named)

  directory-walks : (name : List ℕ) (found : Option (List Slot)) → IfSome found AreNamedSlots → AsksNames (on_directory found name dir next)
  directory-walks name None are = tt
  directory-walks name (Some slots) are = row-walks (row_named name slots) (row-named name slots are)

  look_up-names : (name : List ℕ) → AsksNames (look_up dir name next)
  look_up-names name = reading-names dir (λ bytes. on_directory (directory_of bytes) name dir next) named (λ all. directory-walks name (directory_of all) (directory-named all))

holder-named : (u : ObjectName) (within : Option Within) → IsName u → IfSome within (λ (w : Within). IsName w.dir) → IsName (holder u within)
holder-named u None is in_dir = is
holder-named u (Some within) is in_dir = in_dir

pub start-walks : (start : Option Walked) (next : Walked → Dialogue) → IfSome start IsNamedWalked → ((w : Walked) → IsNamedWalked w → AsksNames (next w)) → AsksNames (on_start start next)
start-walks None next named on = tt
start-walks (Some w) next named on = on w named

module _ (site : Site) (is : IsSite site) where
  pub start-named : (dir : ObjectName) (start : Start) → IsName dir → IfSome (start_at site dir start) IsNamedWalked
  start-named dir starts.Root named = tt
  start-named dir (starts.Node name) named = entered (node_named site.names name) (node-within site.names name 1)
    where
      entered : (found : Option ℕ) → IfSome found (IsFrom 1 (length site.names)) → IfSome (option_map at_entry found) IsNamedWalked
      entered None within = tt
      entered (Some n) within = let few = is.few in let low = within.0 in let high = within.1 in entry-named n (low, omega (arith, high, few))
  start-named dir starts.Own named = entry-named site.own is.own
  start-named dir starts.Working named = (named, tt)

  route-walks : (route : Option Route) (dir : ObjectName) (names : List (List ℕ)) (next : Walked → List (List ℕ) → Dialogue)
      → IsName dir → ((w : Walked) (names : List (List ℕ)) → IsNamedWalked w → AsksNames (next w names)) → AsksNames (on_route site route dir names next)
  route-walks None dir names next named on = tt
  route-walks (Some route) dir names next named on =
      start-walks (start_at site dir route.start) (λ w. next w (route.names ++ names)) (start-named dir route.start named) (λ w walked. on w (route.names ++ names) walked)

  module _ (last : Bool) (found : Walked → Dialogue) (at : (w : Walked) → IsNamedWalked w → AsksNames (found w)) where
    along-names : (behind : ObjectName → ObjectName → List (List ℕ) → Dialogue) → ((link dir : ObjectName) (names : List (List ℕ)) → IsName link → IsName dir → AsksNames (behind link dir names))
        → (w : Walked) (names : List (List ℕ)) → IsNamedWalked w → AsksNames (along site last found behind w names)
    along-names behind follows Root [] named = at Root tt
    along-names behind follows Root (name ∷ names) named = tt
    along-names behind follows (At u kind within) [] named =
        end-of-kind AsksNames kind last (behind u (holder u within) []) (found (At u kind within)) (follows u (holder u within) [] named.0 (holder-named u within named.0 named.1)) (at (At u kind within) named)
    along-names behind follows (At u kind within) (name ∷ names) named =
        let on = λ (w : Walked). along site last found behind w names in
        middle-of-kind AsksNames kind (look_up u name on) (behind u (holder u within) (name ∷ names)) (Ends NotDir)
        (look_up-names u named.0 on (λ w walked. along-names behind follows w names walked) name)
        (follows u (holder u within) (name ∷ names) named.0 (holder-named u within named.0 named.1)) tt

    follow-names : (n : ℕ) (link dir : ObjectName) (names : List (List ℕ)) → IsName link → IsName dir → AsksNames (follow site last found n link dir names)
    follow-names zero link dir names linked named = tt
    follow-names (suc n) link dir names linked named =
        let on = along site last found (follow site last found n) in
        reading-names link (λ text. on_route site (route_of text) dir names on) linked
        (λ text. route-walks (route_of text) dir names on named (λ w rest walked. along-names (follow site last found n) (follow-names n) w rest walked))

    pub along-most : (w : Walked) (names : List (List ℕ)) → IsNamedWalked w → AsksNames (along site last found (follow site last found most_links) w names)
    along-most w names named = along-names (follow site last found most_links) (follow-names most_links) w names named

    pub walking-names : (path : List ℕ) (working : ObjectName) → IsName working → AsksNames (walking site last found path working)
    walking-names path working named = route-walks (route_of path) working [] (along site last found (follow site last found most_links)) named along-most

  pub walk-names : (path : List ℕ) (working : ObjectName) (last : Bool) → IsName working → AsksNames (walk site path working last)
  walk-names path working last named = walking-names last (λ w. Ends (Found w)) (λ w walked. walked) path working named
