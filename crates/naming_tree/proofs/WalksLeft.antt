-- What is left of a walk's dialogue at each of its states, and how each reply leads on.
use Rattle.std.proofs.Common.{◌≡◌, ℕ, zero, suc, Bool, true, false, Option, Some, None, List, [], ◌∷◌, ◌++◌, refl, ap, ◌∙◌, sym}
use Rattle.uid_names.specs.Names.{ObjectName}
use Rattle.uid_names.specs.declared.mode.ObjKind.{ObjKind}
use Rattle.uid_names.specs.declared.mode.ObjKind.TheVariants as kinds
use Rattle.dom_history.specs.declared.op.Reply.{Reply}
use Rattle.dir_records.specs.declared.row.DirRow.{DirRow}
use Rattle.dir_records.specs.declared.path.Route.{Route}
use Rattle.naming_tree.specs.declared.session.Held.{Held}
use Rattle.naming_tree.specs.declared.session.Entering.{Entering}
use Rattle.naming_tree.specs.declared.step.Within.{Within}
use Rattle.naming_tree.specs.declared.step.Walked.{Walked}
use Rattle.naming_tree.specs.declared.step.Walked.TheVariants.{Root, At}
use Rattle.naming_tree.specs.declared.step.NameResult.{NameResult}
use Rattle.naming_tree.specs.declared.step.NameResult.TheVariants.{Found, NotDir}
use Rattle.naming_tree.specs.declared.walking.Aim.{Aim}
use Rattle.naming_tree.specs.declared.walking.Aim.TheVariants.{Begin, Name, Link}
use Rattle.naming_tree.specs.declared.walking.Walking.{Walking}
use Rattle.naming_tree.specs.declared.reading.Reading.{Reading}
use Rattle.dir_records.specs.Records.{Slot}
use Rattle.dir_records.specs.Directories.{directory_of, row_named}
use Rattle.dir_records.specs.Paths.{route_of}
use Rattle.naming_tree.specs.Dialogues.{Dialogue, Ends, told}
use Rattle.naming_tree.specs.Turns.{Turn, Goes, Comes}
use Rattle.naming_tree.specs.Readings.{reading_after, is_done, is_done_at}
use Rattle.naming_tree.specs.Walks.{start_at, at_row, holder, at_end, at_middle, on_row, on_directory, on_start, on_route, along, follow}
use Rattle.naming_tree.specs.Walking.{looks, follows, stands, settled, at_found, at_slots, at_route, moved_by, on_reading, read_on, walking_after}
use Rattle.naming_tree.proofs.ReadingsLeft.{reading_left}
use Rattle.naming_tree.proofs.ReadingsOn.{IsSound, reading_on}

module _ (found : Walked → Dialogue) where
  -- on along names, as far as this walk may still follow links
  abbrev pub on_along : Walking → Walked → List (List ℕ) → Dialogue
  on_along w = along w.site w.last found (follow w.site w.last found w.links)

  -- what follows a reading
  abbrev pub behind : Aim → Walking → List ℕ → Dialogue
  behind (Begin here) w bytes = on_start here (λ at. on_along w at w.rest)
  behind (Name within) w bytes = on_directory (directory_of bytes) within.name within.dir (λ at. on_along w at w.rest)
  behind (Link dir) w bytes = on_route w.site (route_of bytes) dir w.rest (on_along w)

  -- what is left of a walk that has begun
  abbrev pub walk_left : Walking → Dialogue
  walk_left w = reading_left w.reading (behind w.aim w)

  -- what is left behind a turn; what the walk found goes on
  abbrev pub end_left : NameResult → Dialogue
  end_left (Found at) = found at
  end_left result = Ends result

  abbrev pub turn_left : Turn Walking → Dialogue
  turn_left (Goes w) = walk_left w
  turn_left (Comes result) = end_left result

  follows_left : (n : ℕ) (link dir : ObjectName) (w : Walking) → turn_left (follows n link dir w) ≡ follow w.site w.last found n link dir w.rest
  follows_left zero link dir w = refl
  follows_left (suc n) link dir w = refl

  at_end_left : (kind : ObjKind) (last : Bool) (a b : Turn Walking) → turn_left (at_end kind last a b) ≡ at_end kind last (turn_left a) (turn_left b)
  at_end_left kinds.Link true a b = refl
  at_end_left kinds.Link false a b = refl
  at_end_left kinds.File last a b = refl
  at_end_left kinds.Directory last a b = refl
  at_end_left kinds.Mail last a b = refl

  at_middle_left : (kind : ObjKind) (a b c : Turn Walking) → turn_left (at_middle kind a b c) ≡ at_middle kind (turn_left a) (turn_left b) (turn_left c)
  at_middle_left kinds.Link a b c = refl
  at_middle_left kinds.File a b c = refl
  at_middle_left kinds.Directory a b c = refl
  at_middle_left kinds.Mail a b c = refl

  stands_left : (here : Walked) (names : List (List ℕ)) (w : Walking) → w.rest ≡ names → turn_left (stands here names w) ≡ on_along w here names
  stands_left Root [] w e = refl
  stands_left Root (name ∷ names) w e = refl
  stands_left (At u kind within) [] w e =
      at_end_left kind w.last (follows w.links u (holder u within) w) (Comes (Found (At u kind within)))
      ∙ ap (λ (d : Dialogue). at_end kind w.last d (found (At u kind within))) (follows_left w.links u (holder u within) w ∙ ap (λ (names : List (List ℕ)). follow w.site w.last found w.links u (holder u within) names) e)
  stands_left (At u kind within) (name ∷ names) w e =
      at_middle_left kind (Goes (looks u name names w)) (follows w.links u (holder u within) w) (Comes NotDir)
      ∙ ap (λ (d : Dialogue). at_middle kind (walk_left (looks u name names w)) d (Ends NotDir)) (follows_left w.links u (holder u within) w ∙ ap (λ (names : List (List ℕ)). follow w.site w.last found w.links u (holder u within) names) e)

  settled_left : (here : Option Walked) (w : Walking) → turn_left (settled here w) ≡ on_start here (λ at. on_along w at w.rest)
  settled_left None w = refl
  settled_left (Some here) w = stands_left here w.rest w refl

  found_left : (row : Option DirRow) (dir : ObjectName) (w : Walking) → turn_left (at_found row dir w) ≡ on_row row dir (λ at. on_along w at w.rest)
  found_left None dir w = refl
  found_left (Some row) dir w = settled_left (Some (at_row dir row)) w

  slots_left : (slots : Option (List Slot)) (within : Within) (w : Walking) → turn_left (at_slots slots within w) ≡ on_directory slots within.name within.dir (λ at. on_along w at w.rest)
  slots_left None within w = refl
  slots_left (Some slots) within w = found_left (row_named within.name slots) within.dir w

  route_left : (route : Option Route) (dir : ObjectName) (w : Walking) → turn_left (at_route route dir w) ≡ on_route w.site route dir w.rest (on_along w)
  route_left None dir w = refl
  route_left (Some route) dir w = settled_left (start_at w.site dir route.start) (record w { rest = route.names ++ w.rest })

  -- what was read leads on
  pub moved_left : (aim : Aim) (bytes : List ℕ) (w : Walking) → turn_left (moved_by aim bytes w) ≡ behind aim w bytes
  moved_left (Begin here) bytes w = settled_left here w
  moved_left (Name within) bytes w = slots_left (directory_of bytes) within w
  moved_left (Link dir) bytes w = route_left (route_of bytes) dir w

  done_left : (w : Walking) (enter : Option Entering) (held : Option Held) (refused : Option Reply) → w.reading.enter ≡ enter → w.reading.closing.held ≡ held → w.reading.closing.refused ≡ refused → turn_left (on_reading (is_done_at enter held) refused w) ≡ walk_left w
  done_left w (Some stage) held refused e h r = refl
  done_left w None (Some held) refused e h r = refl
  done_left w None None (Some reply) e h r = rw (e, h, r) refl
  done_left w None None None e h r = moved_left w.aim w.reading.bytes w ∙ rw (e, h, r) refl

  -- a reply was taken in by the reading
  read_left : (w : Walking) → turn_left (read_on w) ≡ walk_left w
  read_left w = done_left w w.reading.enter w.reading.closing.held w.reading.closing.refused refl refl refl

  same_behind : (aim : Aim) (w : Walking) (r : Reading) → behind aim (record w { reading = r }) ≡ behind aim w
  same_behind (Begin here) w r = refl
  same_behind (Name within) w r = refl
  same_behind (Link dir) w r = refl

  -- a reply leads on
  pub walk_on : (w : Walking) (reply : Reply) → IsSound w.reading → is_done w.reading ≡ false → turn_left (walking_after w (Some reply)) ≡ told (walk_left w) reply
  walk_on w reply h going =
      let r = reading_after w.reading reply in
      read_left (record w { reading = r })
      ∙ ap (reading_left r) (same_behind w.aim w r)
      ∙ sym (reading_on w.reading reply (behind w.aim w) h going)
