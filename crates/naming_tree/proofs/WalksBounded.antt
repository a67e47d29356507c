-- A walk follows at most eight links, and looks up at most the names of its path and of their texts.
use Rattle.std.proofs.Common.{ℕ, zero, suc, ◌+◌, Bool, true, false, Option, Some, None, List, [], ◌∷◌, ◌++◌, length, subst, length-append, add-zero}
use Rattle.uid_names.specs.Names.{ObjectName}
use Rattle.uid_names.specs.declared.mode.ObjKind.{ObjKind}
use Rattle.uid_names.specs.declared.mode.ObjKind.TheVariants as kinds
use Rattle.dir_records.specs.declared.path.Route.{Route}
use Rattle.naming_tree.specs.declared.site.Site.{Site}
use Rattle.naming_tree.specs.declared.step.Walked.{Walked}
use Rattle.naming_tree.specs.declared.step.Walked.TheVariants.{Root, At}
use Rattle.naming_tree.specs.declared.step.NameResult.TheVariants.{Found, NoName, NotDir, LinkLoop, BadDir}
use Rattle.dir_records.specs.Paths.{route_of}
use Rattle.naming_tree.specs.Dialogues.{Dialogue, Ends}
use Rattle.naming_tree.specs.Walks.{start_at, holder, at_end, at_middle, most_links, on_start, on_route, look_up, along, follow, walk}
use Rattle.naming_tree.specs.Bounds.{names_along, IsBounded, ended, looked, followed}

-- what a walk found is its result
abbrev value : Walked → Dialogue
value here = Ends (Found here)

end_bounded : (links names : ℕ) (kind : ObjKind) (last : Bool) (a b : Dialogue) → IsBounded links names a → IsBounded links names b → IsBounded links names (at_end kind last a b)
end_bounded links names kinds.Link true a b h k = h
end_bounded links names kinds.Link false a b h k = k
end_bounded links names kinds.File last a b h k = k
end_bounded links names kinds.Directory last a b h k = k
end_bounded links names kinds.Mail last a b h k = k

middle_bounded : (links names : ℕ) (kind : ObjKind) (a b c : Dialogue) → IsBounded links names a → IsBounded links names b → IsBounded links names c → IsBounded links names (at_middle kind a b c)
middle_bounded links names kinds.Link a b c h k l = k
middle_bounded links names kinds.File a b c h k l = l
middle_bounded links names kinds.Directory a b c h k l = h
middle_bounded links names kinds.Mail a b c h k l = l

start_bounded : (links names : ℕ) (here : Option Walked) (next : Walked → Dialogue) → ((w : Walked) → IsBounded links names (next w)) → IsBounded links names (on_start here next)
start_bounded links names None next h = ended NoName
start_bounded links names (Some w) next h = h w

module _ (site : Site) (last : Bool) where
  along_bounded : (links : ℕ) (goes : ObjectName → ObjectName → List (List ℕ) → Dialogue) → ((link dir : ObjectName) (names : List (List ℕ)) → IsBounded links (length names) (goes link dir names)) → (here : Walked) (names : List (List ℕ)) → IsBounded links (length names) (along site last value goes here names)
  along_bounded links goes h Root [] = ended (Found Root)
  along_bounded links goes h Root (name ∷ names) = ended NotDir
  along_bounded links goes h (At u kind within) [] =
      end_bounded links (length {A = List ℕ} []) kind last (goes u (holder u within) []) (value (At u kind within)) (h u (holder u within) []) (ended (Found (At u kind within)))
  along_bounded links goes h (At u kind within) (name ∷ names) =
      let on = λ (w : Walked). along site last value goes w names in
      middle_bounded links (length (name ∷ names)) kind (look_up u name on) (goes u (holder u within) (name ∷ names)) (Ends NotDir)
      (looked u name on (λ w. along_bounded links goes h w names)) (h u (holder u within) (name ∷ names)) (ended NotDir)

  route_bounded : (links : ℕ) (goes : ObjectName → ObjectName → List (List ℕ) → Dialogue) → ((link dir : ObjectName) (names : List (List ℕ)) → IsBounded links (length names) (goes link dir names)) → (route : Option Route) (dir : ObjectName) (names : List (List ℕ)) → IsBounded links (names_along route + length names) (on_route site route dir names (along site last value goes))
  route_bounded links goes h None dir names = ended BadDir
  route_bounded links goes h (Some route) dir names =
      start_bounded links (length route.names + length names) (start_at site dir route.start) (λ w. along site last value goes w (route.names ++ names))
      (λ w. subst (λ n. IsBounded links n (along site last value goes w (route.names ++ names))) (length-append route.names names) (along_bounded links goes h w (route.names ++ names)))

  follow_bounded : (links : ℕ) (link dir : ObjectName) (names : List (List ℕ)) → IsBounded links (length names) (follow site last value links link dir names)
  follow_bounded zero link dir names = ended LinkLoop
  follow_bounded (suc links) link dir names =
      followed link (λ text. on_route site (route_of text) dir names (along site last value (follow site last value links)))
      (λ text. route_bounded links (follow site last value links) (follow_bounded links) (route_of text) dir names)

-- a walk goes no further
pub walk_bounded : (site : Site) (path : List ℕ) (working : ObjectName) (last : Bool) → IsBounded 8 (names_along (route_of path)) (walk site path working last)
walk_bounded site path working last =
    subst (λ n. IsBounded 8 n (walk site path working last)) (add-zero (names_along (route_of path)))
    (route_bounded site last most_links (follow site last value most_links) (follow_bounded site last most_links) (route_of path) working [])
