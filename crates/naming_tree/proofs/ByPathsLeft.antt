-- What is left of the dialogue of a task by a path, and how each reply leads on.
use Rattle.std.proofs.Common.{◌≡◌, ℕ, Bool, true, false, Option, Some, None, List, [], refl, ap, ◌∙◌, sym, subst, append-nil, arith}
use Rattle.std.specs.Prelude.{IsSome}
use Rattle.uid_names.specs.Names.{ObjectName}
use Rattle.uid_names.specs.Rooms.{IsRoom}
use Rattle.uid_names.specs.declared.mode.ObjKind.{ObjKind}
use Rattle.uid_names.specs.declared.mode.ObjKind.TheVariants.{Directory}
use Rattle.dom_history.specs.declared.op.Reply.{Reply}
use Rattle.dir_records.specs.declared.path.Route.{Route}
use Rattle.dir_records.specs.declared.path.Start.{Start}
use Rattle.naming_tree.specs.declared.purpose.Purpose.{Purpose}
use Rattle.naming_tree.specs.declared.site.Site.{Site}
use Rattle.naming_tree.specs.declared.session.Entering.TheVariants as entering
use Rattle.naming_tree.specs.declared.session.Entering.{Entering}
use Rattle.naming_tree.specs.declared.session.Held.{Held}
use Rattle.naming_tree.specs.declared.step.Within.{Within}
use Rattle.naming_tree.specs.declared.changing.Change.TheVariants.{Add, Remove}
use Rattle.naming_tree.specs.declared.changing.Stage.TheVariants as stages
use Rattle.naming_tree.specs.declared.step.Walked.{Walked}
use Rattle.naming_tree.specs.declared.step.Walked.TheVariants.{Root, At}
use Rattle.naming_tree.specs.declared.step.NameResult.{NameResult}
use Rattle.naming_tree.specs.declared.step.NameResult.TheVariants.{Found, NotDir}
use Rattle.naming_tree.specs.declared.reading.Reading.{Reading}
use Rattle.naming_tree.specs.declared.changing.Changing.{Changing}
use Rattle.naming_tree.specs.declared.walking.Aim.TheVariants.{Begin}
use Rattle.naming_tree.specs.declared.walking.Walking.{Walking}
use Rattle.naming_tree.specs.declared.task.Task.{Task}
use Rattle.naming_tree.specs.declared.task.Task.TheVariants.{List as ListRows, Change, Reach}
use Rattle.naming_tree.specs.declared.by_path.ByPath.{ByPath}
use Rattle.dir_records.specs.Directories.{rows_in}
use Rattle.dir_records.specs.Paths.{route_of}
use Rattle.naming_tree.specs.Dialogues.{Dialogue, Ends, told, says, after, FitsSaid, FitsHeard}
use Rattle.naming_tree.specs.Turns.{does, Turn, Goes, Comes, FitsAsked, machine_says}
use Rattle.naming_tree.specs.Readings.{reading_of, reading_after, is_done, is_done_at}
use Rattle.naming_tree.specs.Additions.{add_at, IsText}
use Rattle.naming_tree.specs.Removals.{drop_at}
use Rattle.naming_tree.specs.Changes.{changed}
use Rattle.naming_tree.specs.Changing.{changing_after, changing_of, IsChange}
use Rattle.naming_tree.specs.Walks.{start_at, most_links, on_start, on_route, along, follow}
use Rattle.naming_tree.specs.Walking.{walking_after, walking_of, moved}
use Rattle.dir_records.specs.LastNames.{last_of}
use Rattle.naming_tree.specs.NamePaths.{in_directory, listing, listed, by_parent, on_last, alone_for, added_alone, removed_alone, reached, to_parent, addition, add_name, drop_name, list_dir}
use Rattle.naming_tree.specs.Tasks.{turn_in, task_begins, task_after, task_asks, list_at, at_root}
use Rattle.naming_tree.specs.ByPaths.{on_task, at_object, on_found, on_walk, told_at, unless_alone, by_path_after, by_path_asks, asks_at, walked_to, alone_with, list_dir_of, to_parent_of, add_name_of, drop_name_of}
use Rattle.naming_tree.specs.ByPaths as paths
use Rattle.naming_tree.specs.Sayings.{ListSays, ParentSays, AddSays, DropSays}
use Rattle.naming_tree.proofs.ReadingsLeft.{reading_left}
use Rattle.naming_tree.proofs.ReadingsOn.{IsSound, reading_on, reading_sound}
use Rattle.naming_tree.proofs.ReadingsSay.{reading_says}
use Rattle.naming_tree.proofs.WalksLeft.{walk_left, behind, moved_left, walk_on}
use Rattle.naming_tree.proofs.WalksLeft as walk
use Rattle.naming_tree.proofs.WalksLive.{moved_live, walk_live}
use Rattle.naming_tree.proofs.WalksLive as walks
use Rattle.naming_tree.proofs.StagesLeft.{change_in}
use Rattle.naming_tree.proofs.ChangingsLeft.{changing_left, change_on, change_live}
use Rattle.naming_tree.proofs.ChangingsLeft as changes
use Rattle.naming_tree.proofs.Machines.{IsAt, Tells, fits_asked, says_all}

-- on from where the walk led
abbrev pub found : Task → Walked → Dialogue
found (ListRows r) = listing
found (Change c) = in_directory (λ u. changed u (change_in c.change))
found (Reach name) = in_directory (reached name)

-- what is left of a task that has begun
abbrev rows_then : List ℕ → Dialogue
rows_then bytes = Ends (listed (rows_in bytes))

abbrev pub task_left : Task → Dialogue
task_left (ListRows r) = reading_left r rows_then
task_left (Change c) = changing_left c
task_left (Reach name) = Ends NotDir

abbrev pub left_at : Option Walking → Task → Dialogue
left_at (Some w) task = walk_left (found task) w
left_at None task = task_left task

abbrev pub path_left : ByPath → Dialogue
path_left b = left_at b.walking b.task

abbrev pub turn_left : Turn ByPath → Dialogue
turn_left (Goes b) = path_left b
turn_left (Comes result) = Ends result

-- a task that waits for its directory
abbrev pub IsFresh : Task → Type 0
IsFresh (ListRows r) = Unit {0}
IsFresh (Change c) = IsChange c.change × (c.bytes ≡ [])
IsFresh (Reach name) = Unit {0}

-- a task that has begun
abbrev pub IsGoing : Task → Type 0
IsGoing (ListRows r) = IsSound r × (is_done r ≡ false)
IsGoing (Change c) = changes.Live c
IsGoing (Reach name) = ⊥

abbrev pub LiveAt : Option Walking → Task → Type 0
LiveAt (Some w) task = walks.Live w × IsFresh task
LiveAt None task = IsGoing task

pub record Live (b : ByPath) : Type 0 where
  pub going : b.alone ≡ None
  pub at : LiveAt b.walking b.task

abbrev pub LiveTurn : Turn ByPath → Type 0
LiveTurn (Goes b) = Live b
LiveTurn (Comes result) = Unit {0}

-- a turn of the task
abbrev task_turn_left : Turn Task → Dialogue
task_turn_left (Goes task) = task_left task
task_turn_left (Comes result) = Ends result

abbrev GoingTurn : Turn Task → Type 0
GoingTurn (Goes task) = IsGoing task
GoingTurn (Comes result) = Unit {0}

task_turn : (turn : Turn Task) (b : ByPath) → turn_left (on_task turn b) ≡ task_turn_left turn
task_turn (Goes task) b = refl
task_turn (Comes result) b = refl

task_live : (turn : Turn Task) (b : ByPath) → b.alone ≡ None → GoingTurn turn → LiveTurn (on_task turn b)
task_live (Goes task) b e h = record { going = e; at = h }
task_live (Comes result) b e h = tt

begins_left : (task : Task) (u : ObjectName) → IsFresh task → task_turn_left (task_begins u task) ≡ found task (At u Directory None)
begins_left (ListRows r) u h = refl
begins_left (Change c) u h = ap (λ (bytes : List ℕ). changing_left (record c { parent = u; bytes = bytes; stage = Some (stages.Enter entering.Lock) })) h.1
begins_left (Reach name) u h = refl

begins_live : (task : Task) (u : ObjectName) → IsFresh task → GoingTurn (task_begins u task)
begins_live (ListRows r) u h = (tt, refl)
begins_live (Change c) u h = changes.begun_live (record c { parent = u }) h.0
begins_live (Reach name) u h = tt

root_left : (task : Task) → Ends (at_root task) ≡ found task Root
root_left (ListRows r) = refl
root_left (Change c) = refl
root_left (Reach name) = refl

same_place : (task : Task) (u : ObjectName) (within : Option Within) → found task (At u Directory None) ≡ found task (At u Directory within)
same_place (ListRows r) u within = refl
same_place (Change c) u within = refl
same_place (Reach name) u within = refl

no_directory : (task : Task) (u : ObjectName) (kind : ObjKind) (within : Option Within) (b : ByPath) → b.task ≡ task → IsFresh task → turn_left (at_object kind u b) ≡ found task (At u kind within)
no_directory task u Directory within b e h =
    task_turn (task_begins u b.task) b ∙ ap (λ (t : Task). task_turn_left (task_begins u t)) e ∙ begins_left task u h ∙ same_place task u within
no_directory (ListRows r) u kind within b e h = refl
no_directory (Change c) u kind within b e h = refl
no_directory (Reach name) u kind within b e h = refl

found_left : (result : NameResult) (b : ByPath) → IsFresh b.task → turn_left (on_found result b) ≡ walk.end_left (found b.task) result
found_left (Found Root) b h = root_left b.task
found_left (Found (At u kind within)) b h = no_directory b.task u kind within b refl h
found_left result b h = refl

found_live : (result : NameResult) (b : ByPath) → b.alone ≡ None → IsFresh b.task → LiveTurn (on_found result b)
found_live (Found Root) b e h = tt
found_live (Found (At u Directory within)) b e h = task_live (task_begins u b.task) b e (begins_live b.task u h)
found_live (Found (At u kind within)) b e h = tt
found_live result b e h = tt

walk_turn : (turn : Turn Walking) (b : ByPath) → IsFresh b.task → turn_left (on_walk turn b) ≡ walk.turn_left (found b.task) turn
walk_turn (Goes w) b h = refl
walk_turn (Comes result) b h = found_left result b h

walk_turn_live : (turn : Turn Walking) (b : ByPath) → b.alone ≡ None → IsFresh b.task → walks.LiveTurn turn → LiveTurn (on_walk turn b)
walk_turn_live (Goes w) b e h live = record { going = e; at = (live, h) }
walk_turn_live (Comes result) b e h live = found_live result b e h

rows_at : (r : Reading) (enter : Option Entering) (held : Option Held) (refused : Option Reply) → r.enter ≡ enter → r.closing.held ≡ held → r.closing.refused ≡ refused → task_turn_left (list_at (is_done_at enter held) refused r) ≡ reading_left r rows_then
rows_at r (Some stage) held refused e h k = refl
rows_at r None (Some held) refused e h k = refl
rows_at r None None (Some reply) e h k = rw (e, h, k) refl
rows_at r None None None e h k = rw (e, h, k) refl

rows_live : (r : Reading) (done : Bool) (refused : Option Reply) → IsSound r → is_done r ≡ done → GoingTurn (list_at done refused r)
rows_live r false refused h e = (h, e)
rows_live r true (Some reply) h e = tt
rows_live r true None h e = tt

change_turn : (turn : Turn Changing) → task_turn_left (turn_in Change turn) ≡ changes.turn_left turn
change_turn (Goes c) = refl
change_turn (Comes result) = refl

change_going : (turn : Turn Changing) → changes.LiveTurn turn → GoingTurn (turn_in Change turn)
change_going (Goes c) h = h
change_going (Comes result) h = tt

-- a reply leads a task on
task_on : (task : Task) (reply : Reply) → IsGoing task → FitsAsked (task_asks task) (Some reply) → task_turn_left (task_after task reply) ≡ told (task_left task) reply
task_on (ListRows r) reply h fits =
    let next = reading_after r reply in
    rows_at next next.enter next.closing.held next.closing.refused refl refl refl ∙ sym (reading_on r reply rows_then h.0 h.1)
task_on (Change c) reply h fits = change_turn (changing_after c (Some reply)) ∙ change_on c reply h.sound h.on fits
task_on (Reach name) reply h fits = absurd h

task_on_live : (task : Task) (reply : Reply) → IsGoing task → FitsAsked (task_asks task) (Some reply) → GoingTurn (task_after task reply)
task_on_live (ListRows r) reply h fits =
    let next = reading_after r reply in
    rows_live next (is_done next) next.closing.refused (reading_sound r reply h.0 fits) refl
task_on_live (Change c) reply h fits = change_going (changing_after c (Some reply)) (change_live c reply h fits)
task_on_live (Reach name) reply h fits = absurd h

-- what it asks is what its dialogue says
task_asked : (task : Task) → IsGoing task → does (task_asks task) ≡ Some (says (task_left task))
task_asked (ListRows r) h = ap Some (sym (reading_says r rows_then h.0 h.1))
task_asked (Change c) h = changes.asked_live c h
task_asked (Reach name) h = absurd h

asked_at : (walking : Option Walking) (task : Task) → LiveAt walking task → does (asks_at None walking task) ≡ Some (says (left_at walking task))
asked_at (Some w) task h = ap does h.0.asks ∙ ap Some (sym (reading_says w.reading (behind (found task) w.aim w) h.0.sound h.0.going))
asked_at None task h = task_asked task h

asked : (b : ByPath) → Live b → does (by_path_asks b) ≡ Some (says (path_left b))
asked b h = ap (λ alone. does (asks_at alone b.walking b.task)) h.going ∙ asked_at b.walking b.task h.at

-- a reply leads it on
on_at : (b : ByPath) (walking : Option Walking) (task : Task) (reply : Reply) → b.alone ≡ None → b.task ≡ task → LiveAt walking task → FitsSaid (says (left_at walking task)) reply → turn_left (told_at walking (Some reply) b) ≡ told (left_at walking task) reply
on_at b (Some w) task reply g e h fits =
    walk_turn (walking_after w (Some reply)) b (subst IsFresh (sym e) h.1)
    ∙ ap (λ (t : Task). walk.turn_left (found t) (walking_after w (Some reply))) e
    ∙ walk_on (found task) w reply h.0.sound h.0.going
on_at b None task reply g e h fits =
    task_turn (task_after b.task reply) b
    ∙ ap (λ (t : Task). task_turn_left (task_after t reply)) e
    ∙ task_on task reply h (fits_asked (task_left task) (task_asks task) reply (task_asked task h) fits)

live_at : (b : ByPath) (walking : Option Walking) (task : Task) (reply : Reply) → b.alone ≡ None → b.task ≡ task → LiveAt walking task → FitsSaid (says (left_at walking task)) reply → LiveTurn (told_at walking (Some reply) b)
live_at b (Some w) task reply g e h fits =
    walk_turn_live (walking_after w (Some reply)) b g (subst IsFresh (sym e) h.1)
    (walk_live w reply h.0 (subst (λ step. FitsSaid step reply) (reading_says w.reading (behind (found task) w.aim w) h.0.sound h.0.going) fits))
live_at b None task reply g e h fits =
    task_live (task_after b.task reply) b g
    (subst (λ (t : Task). GoingTurn (task_after t reply)) (sym e) (task_on_live task reply h (fits_asked (task_left task) (task_asks task) reply (task_asked task h) fits)))

at_turn : (turn : Turn ByPath) (d : Dialogue) → LiveTurn turn → turn_left turn ≡ d → IsAt by_path_asks by_path_after path_left Live turn d
at_turn (Goes b) d h e = (h, e)
at_turn (Comes result) d h e = e

on : (b : ByPath) (reply : Reply) → Live b → FitsSaid (says (path_left b)) reply → IsAt by_path_asks by_path_after path_left Live (by_path_after b (Some reply)) (told (path_left b) reply)
on b reply h fits =
    let same = ap (λ alone. unless_alone alone (Some reply) b) h.going in
    subst (λ turn. IsAt by_path_asks by_path_after path_left Live turn (told (path_left b) reply)) (sym same)
    (at_turn (told_at b.walking (Some reply) b) (told (path_left b) reply) (live_at b b.walking b.task reply h.going refl h.at fits) (on_at b b.walking b.task reply h.going refl h.at fits))

paths_tell : Tells by_path_asks by_path_after path_left Live
paths_tell = record { asked = asked; on = on }

-- a walk to a task begins
walk_begins : (site : Site) (route : Route) (working : ObjectName) (task : Task) → IsFresh task → IsAt by_path_asks by_path_after path_left Live (by_path_after (walked_to site route working task) None) (on_start (start_at site working route.start) (λ here. along site true (found task) (follow site true (found task) most_links) here route.names))
walk_begins site route working task h =
    let b = walked_to site route working task in
    let w = walking_of site true route working in
    at_turn (on_walk (moved w) b) (on_start (start_at site working route.start) (λ here. along site true (found task) (follow site true (found task) most_links) here route.names))
    (walk_turn_live (moved w) b refl h (moved_live w.aim w.reading.bytes w))
    (walk_turn (moved w) b h ∙ moved_left (found task) (Begin (start_at site working route.start)) [] w)

-- a directory is listed
list_along : (site : Site) (route : Route) (working : ObjectName) (heard : List Reply) → FitsHeard (on_route site (Some route) working [] (along site true listing (follow site true listing most_links))) heard → machine_says by_path_asks by_path_after (list_dir_of site (Some route) working) heard ≡ Some (says (after (on_route site (Some route) working [] (along site true listing (follow site true listing most_links))) heard))
list_along site route working heard fits =
    let begins : IsAt by_path_asks by_path_after path_left Live (by_path_after (walked_to site route working (ListRows (reading_of working))) None) (on_route site (Some route) working [] (along site true listing (follow site true listing most_links))) =
    subst (λ (names : List (List ℕ)). IsAt by_path_asks by_path_after path_left Live (by_path_after (walked_to site route working (ListRows (reading_of working))) None) (on_start (start_at site working route.start) (λ here. along site true listing (follow site true listing most_links) here names)))
    (sym (append-nil route.names)) (walk_begins site route working (ListRows (reading_of working)) tt)
    in
    says_all by_path_asks by_path_after path_left Live paths_tell (walked_to site route working (ListRows (reading_of working))) (on_route site (Some route) working [] (along site true listing (follow site true listing most_links))) heard begins fits

none_some : IsSome {T = Route} None → ⊥
none_some h = grind (arith, h)

list_says : (site : Site) (path : List ℕ) (working : ObjectName) (heard : List Reply) (route : Option Route) → route_of path ≡ route → IsSome route → FitsHeard (list_dir site path working) heard → machine_says by_path_asks by_path_after (list_dir_of site (route_of path) working) heard ≡ Some (says (after (list_dir site path working) heard))
list_says site path working heard None e some fits = absurd (none_some some)
list_says site path working heard (Some route) e some fits =
    rw e (list_along site route working heard (subst (λ r. FitsHeard (on_route site r working [] (along site true listing (follow site true listing most_links))) heard) e fits))

-- a name is added or removed
last_says : (site : Site) (start : Start) (working : ObjectName) (alone : Option Walked → NameResult) (task : List ℕ → Task) (next : List ℕ → ObjectName → Dialogue) (last : Option (List (List ℕ) × List ℕ)) (heard : List Reply)
    → ((name : List ℕ) → IsFresh (task name)) → ((name : List ℕ) → found (task name) ≡ in_directory (next name))
    → FitsHeard (on_last site last (start_at site working start) alone next) heard
    → machine_says by_path_asks by_path_after (Some (paths.on_last site start working alone task last)) heard ≡ Some (says (after (on_last site last (start_at site working start) alone next) heard))
last_says site start working alone task next None heard fresh same fits =
    says_all by_path_asks by_path_after path_left Live paths_tell (alone_with (alone (start_at site working start)) working) (Ends (alone (start_at site working start))) heard refl fits
last_says site start working alone task next (Some (front, name)) heard fresh same fits =
    let route : Route = record { start = start; names = front } in
    let d = on_last site (Some (front, name)) (start_at site working start) alone next in
    let begins : IsAt by_path_asks by_path_after path_left Live (by_path_after (walked_to site route working (task name)) None) d =
    subst (λ (f : Walked → Dialogue). IsAt by_path_asks by_path_after path_left Live (by_path_after (walked_to site route working (task name)) None) (on_start (start_at site working start) (λ here. along site true f (follow site true f most_links) here front)))
    (same name) (walk_begins site route working (task name) (fresh name))
    in
    says_all by_path_asks by_path_after path_left Live paths_tell (walked_to site route working (task name)) d heard begins fits

add_says : (site : Site) (path : List ℕ) (working : ObjectName) (kind : ObjKind) (room : ℕ) (text : Option (List ℕ)) (heard : List Reply) (route : Option Route) → route_of path ≡ route → IsSome route → IsRoom room → IsText kind text → FitsHeard (add_name site path working kind room text) heard → machine_says by_path_asks by_path_after (add_name_of site (route_of path) working kind room text) heard ≡ Some (says (after (add_name site path working kind room text) heard))
add_says site path working kind room text heard None e some in_room is_text fits = absurd (none_some some)
add_says site path working kind room text heard (Some route) e some in_room is_text fits =
    rw e (last_says site route.start working added_alone (λ name. Change (changing_of working (Add (addition kind room text name)))) (λ name parent. add_at parent (addition kind room text name)) (last_of route.names) heard
    (λ name. (record { room = in_room; text = is_text }, refl)) (λ name. refl)
    (subst (λ r. FitsHeard (by_parent site r working added_alone (λ name parent. add_at parent (addition kind room text name))) heard) e fits))

parent_says : (site : Site) (path : List ℕ) (working : ObjectName) (purpose : Purpose) (heard : List Reply) (route : Option Route) → route_of path ≡ route → IsSome route → FitsHeard (to_parent site path working purpose) heard → machine_says by_path_asks by_path_after (to_parent_of site (route_of path) working purpose) heard ≡ Some (says (after (to_parent site path working purpose) heard))
parent_says site path working purpose heard None e some fits = absurd (none_some some)
parent_says site path working purpose heard (Some route) e some fits =
    rw e (last_says site route.start working (alone_for purpose) Reach reached (last_of route.names) heard
    (λ name. tt) (λ name. refl)
    (subst (λ r. FitsHeard (by_parent site r working (alone_for purpose) reached) heard) e fits))

drop_says : (site : Site) (path : List ℕ) (working : ObjectName) (heard : List Reply) (route : Option Route) → route_of path ≡ route → IsSome route → FitsHeard (drop_name site path working) heard → machine_says by_path_asks by_path_after (drop_name_of site (route_of path) working) heard ≡ Some (says (after (drop_name site path working) heard))
drop_says site path working heard None e some fits = absurd (none_some some)
drop_says site path working heard (Some route) e some fits =
    rw e (last_says site route.start working removed_alone (λ name. Change (changing_of working (Remove name))) (λ name parent. drop_at parent name) (last_of route.names) heard
    (λ name. (tt, refl)) (λ name. refl)
    (subst (λ r. FitsHeard (by_parent site r working removed_alone (λ name parent. drop_at parent name)) heard) e fits))

pub list_heard : (site : Site) (path : List ℕ) (working : ObjectName) → ListSays site path working
list_heard site path working some heard fits = list_says site path working heard (route_of path) refl some fits

pub parent_heard : (site : Site) (path : List ℕ) (working : ObjectName) (purpose : Purpose) → ParentSays site path working purpose
parent_heard site path working purpose some heard fits = parent_says site path working purpose heard (route_of path) refl some fits

pub add_heard : (site : Site) (path : List ℕ) (working : ObjectName) (kind : ObjKind) (room : ℕ) (text : Option (List ℕ)) → AddSays site path working kind room text
add_heard site path working kind room text some in_room is_text heard fits = add_says site path working kind room text heard (route_of path) refl some in_room is_text fits

pub drop_heard : (site : Site) (path : List ℕ) (working : ObjectName) → DropSays site path working
drop_heard site path working some heard fits = drop_says site path working heard (route_of path) refl some fits
