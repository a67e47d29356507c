-- Each state of a walk that has begun asks an operation of its reading.
use Rattle.std.proofs.Common.{◌≡◌, ℕ, zero, suc, Bool, true, false, Option, Some, None, List, [], ◌∷◌, ◌++◌, refl, ap, ◌∙◌, sym, subst, append-nil, arith}
use Rattle.std.specs.Prelude.{IsSome}
use Rattle.uid_names.specs.Names.{ObjectName}
use Rattle.uid_names.specs.declared.mode.ObjKind.{ObjKind}
use Rattle.uid_names.specs.declared.mode.ObjKind.TheVariants as kinds
use Rattle.dom_history.specs.declared.op.Reply.{Reply}
use Rattle.dom_history.specs.Fitting.{Fits}
use Rattle.dir_records.specs.declared.row.DirRow.{DirRow}
use Rattle.dir_records.specs.declared.path.Route.{Route}
use Rattle.naming_tree.specs.declared.site.Site.{Site}
use Rattle.naming_tree.specs.declared.step.Within.{Within}
use Rattle.naming_tree.specs.declared.step.Walked.{Walked}
use Rattle.naming_tree.specs.declared.step.Walked.TheVariants.{Root, At}
use Rattle.naming_tree.specs.declared.step.NameResult.{NameResult}
use Rattle.naming_tree.specs.declared.step.NameResult.TheVariants.{Found, NotDir}
use Rattle.naming_tree.specs.declared.walking.Aim.{Aim}
use Rattle.naming_tree.specs.declared.walking.Aim.TheVariants.{Begin, Name, Link}
use Rattle.naming_tree.specs.declared.walking.Walking.{Walking}
use Rattle.naming_tree.specs.declared.reading.Reading.{Reading}
use Rattle.dir_records.specs.Records.{Slot}
use Rattle.dir_records.specs.Directories.{directory_of, row_named}
use Rattle.dir_records.specs.Paths.{route_of}
use Rattle.naming_tree.specs.Dialogues.{Dialogue, Ends, told, says, after, FitsSaid, FitsHeard}
use Rattle.naming_tree.specs.Sayings.{WalkSays}
use Rattle.naming_tree.specs.Turns.{does, Turn, Goes, Comes, machine_says}
use Rattle.naming_tree.specs.Readings.{reading_after, reading_op, is_done}
use Rattle.naming_tree.specs.Walks.{start_at, at_row, holder, at_end, at_middle, most_links, on_start, on_route, along, follow}
use Rattle.naming_tree.specs.Walking.{looks, follows, stands, settled, at_found, at_slots, at_route, moved_by, moved, on_reading, walking_after, walking_asks, asks_at, walking_of, walk_of}
use Rattle.naming_tree.proofs.ReadingsOn.{IsSound, reading_sound}
use Rattle.naming_tree.proofs.ReadingsSay.{reading_says}
use Rattle.naming_tree.proofs.WalksLeft.{walk_left, turn_left, end_left, behind, moved_left, walk_on}
use Rattle.naming_tree.proofs.Machines.{IsAt, Tells, says_all}

-- it has begun, and its reading is under way
pub record Live (w : Walking) : Type 0 where
  pub asks : walking_asks w ≡ Some (reading_op w.reading)
  pub sound : IsSound w.reading
  pub going : is_done w.reading ≡ false

abbrev pub LiveTurn : Turn Walking → Type 0
LiveTurn (Goes w) = Live w
LiveTurn (Comes result) = Unit {0}

follows_live : (n : ℕ) (link dir : ObjectName) (w : Walking) → LiveTurn (follows n link dir w)
follows_live zero link dir w = tt
follows_live (suc n) link dir w = record { asks = refl; sound = tt; going = refl }

at_end_live : (kind : ObjKind) (last : Bool) (a b : Turn Walking) → LiveTurn a → LiveTurn b → LiveTurn (at_end kind last a b)
at_end_live kinds.Link true a b h k = h
at_end_live kinds.Link false a b h k = k
at_end_live kinds.File last a b h k = k
at_end_live kinds.Directory last a b h k = k
at_end_live kinds.Mail last a b h k = k

at_middle_live : (kind : ObjKind) (a b c : Turn Walking) → LiveTurn a → LiveTurn b → LiveTurn c → LiveTurn (at_middle kind a b c)
at_middle_live kinds.Link a b c h k l = k
at_middle_live kinds.File a b c h k l = l
at_middle_live kinds.Directory a b c h k l = h
at_middle_live kinds.Mail a b c h k l = l

stands_live : (here : Walked) (names : List (List ℕ)) (w : Walking) → LiveTurn (stands here names w)
stands_live Root [] w = tt
stands_live Root (name ∷ names) w = tt
stands_live (At u kind within) [] w = at_end_live kind w.last (follows w.links u (holder u within) w) (Comes (Found (At u kind within))) (follows_live w.links u (holder u within) w) tt
stands_live (At u kind within) (name ∷ names) w =
    at_middle_live kind (Goes (looks u name names w)) (follows w.links u (holder u within) w) (Comes NotDir) (record { asks = refl; sound = tt; going = refl }) (follows_live w.links u (holder u within) w) tt

settled_live : (here : Option Walked) (w : Walking) → LiveTurn (settled here w)
settled_live None w = tt
settled_live (Some here) w = stands_live here w.rest w

found_live : (row : Option DirRow) (dir : ObjectName) (w : Walking) → LiveTurn (at_found row dir w)
found_live None dir w = tt
found_live (Some row) dir w = settled_live (Some (at_row dir row)) w

slots_live : (slots : Option (List Slot)) (within : Within) (w : Walking) → LiveTurn (at_slots slots within w)
slots_live None within w = tt
slots_live (Some slots) within w = found_live (row_named within.name slots) within.dir w

route_live : (route : Option Route) (dir : ObjectName) (w : Walking) → LiveTurn (at_route route dir w)
route_live None dir w = tt
route_live (Some route) dir w = settled_live (start_at w.site dir route.start) (record w { rest = route.names ++ w.rest })

pub moved_live : (aim : Aim) (bytes : List ℕ) (w : Walking) → LiveTurn (moved_by aim bytes w)
moved_live (Begin here) bytes w = settled_live here w
moved_live (Name within) bytes w = slots_live (directory_of bytes) within w
moved_live (Link dir) bytes w = route_live (route_of bytes) dir w

still_asks : (aim : Aim) (w : Walking) (r : Reading) → asks_at aim w ≡ Some (reading_op w.reading) → asks_at aim (record w { reading = r }) ≡ Some (reading_op r)
still_asks (Begin here) w r e = grind (arith, e)
still_asks (Name within) w r e = refl
still_asks (Link dir) w r e = refl

reading_live : (w : Walking) (done : Bool) (refused : Option Reply) → walking_asks w ≡ Some (reading_op w.reading) → IsSound w.reading → is_done w.reading ≡ done → LiveTurn (on_reading done refused w)
reading_live w false refused a h e = record { asks = a; sound = h; going = e }
reading_live w true (Some reply) a h e = tt
reading_live w true None a h e = moved_live w.aim w.reading.bytes w

-- a reply leaves it so
pub walk_live : (w : Walking) (reply : Reply) → Live w → Fits (reading_op w.reading) reply → LiveTurn (walking_after w (Some reply))
walk_live w reply h fits =
    let r = reading_after w.reading reply in
    reading_live (record w { reading = r }) (is_done r) r.closing.refused (still_asks w.aim w r h.asks) (reading_sound w.reading reply h.sound fits) refl

-- what a walk found is its result
abbrev value : Walked → Dialogue
value at = Ends (Found at)

result_ends : (result : NameResult) → end_left value result ≡ Ends result
result_ends (Found at) = refl
result_ends result = refl

at_turn : (turn : Turn Walking) (d : Dialogue) → LiveTurn turn → turn_left value turn ≡ d → IsAt walking_asks walking_after (walk_left value) Live turn d
at_turn (Goes w) d h e = (h, e)
at_turn (Comes result) d h e = sym (result_ends result) ∙ e

fits_asked : (w : Walking) (reply : Reply) → Live w → FitsSaid (says (walk_left value w)) reply → Fits (reading_op w.reading) reply
fits_asked w reply h fits = subst (λ step. FitsSaid step reply) (reading_says w.reading (behind value w.aim w) h.sound h.going) fits

walks_tell : Tells walking_asks walking_after (walk_left value) Live
walks_tell = record {
  asked = λ w h. ap does h.asks ∙ ap Some (sym (reading_says w.reading (behind value w.aim w) h.sound h.going));
  on = λ w reply h fits. at_turn (walking_after w (Some reply)) (told (walk_left value w) reply) (walk_live w reply h (fits_asked w reply h fits)) (walk_on value w reply h.sound h.going);
}

module _ (site : Site) (working : ObjectName) (last : Bool) where
  begins : (route : Route) → turn_left value (moved (walking_of site last route working)) ≡ on_start (start_at site working route.start) (λ at. along site last value (follow site last value most_links) at (route.names ++ []))
  begins route =
      moved_left value (Begin (start_at site working route.start)) [] (walking_of site last route working)
      ∙ ap (λ (names : List (List ℕ)). on_start (start_at site working route.start) (λ at. along site last value (follow site last value most_links) at names)) (sym (append-nil route.names))

  -- the dialogue of a walk along a path, if it is one
  abbrev walk_along : Option Route → Dialogue
  walk_along route = on_route site route working [] (along site last value (follow site last value most_links))

  says_along : (route : Route) (heard : List Reply) → FitsHeard (walk_along (Some route)) heard → machine_says walking_asks walking_after (walk_of site last (Some route) working) heard ≡ Some (says (after (walk_along (Some route)) heard))
  says_along route heard fits =
      let w = walking_of site last route working in
      says_all walking_asks walking_after (walk_left value) Live walks_tell w (walk_along (Some route)) heard
      (at_turn (moved w) (walk_along (Some route)) (moved_live w.aim w.reading.bytes w) (begins route)) fits

  -- a walk says what its dialogue says after all that it heard
  pub walk_says : (path : List ℕ) → WalkSays site path working last
  walk_says path some heard fits = by_route (route_of path) refl
    where
      by_route : (route : Option Route) → route_of path ≡ route → machine_says walking_asks walking_after (walk_of site last (route_of path) working) heard ≡ Some (says (after (walk_along (route_of path)) heard))
      by_route None e = absurd (none_is_none (subst IsSome e some))
        where
          none_is_none : IsSome {T = Route} None → ⊥
          none_is_none h = grind (arith, h)
      by_route (Some route) e = rw e (says_along route heard (subst (λ r. FitsHeard (walk_along r) heard) e fits))
