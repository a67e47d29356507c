-- Machines that say what their dialogues say, whatever they hear.
use Rattle.std.specs.Prelude.{◌≡◌, ℕ, Bool, Option, Some, List, IsSome}
use Rattle.uid_names.specs.Names.{ObjectName}
use Rattle.uid_names.specs.Rooms.{IsRoom}
use Rattle.uid_names.specs.declared.mode.ObjKind.{ObjKind}
use Rattle.dom_history.specs.declared.op.Op.{Op}
use Rattle.dom_history.specs.declared.op.Reply.{Reply}
use Rattle.dir_records.specs.Paths.{route_of}
use Rattle.naming_tree.specs.declared.purpose.Purpose.{Purpose}
use Rattle.naming_tree.specs.declared.site.Site.{Site}
use Rattle.naming_tree.specs.Dialogues.{Dialogue, says, FitsHeard}
use Rattle.naming_tree.specs.Dialogues as dialogue
use Rattle.naming_tree.specs.Turns.{Turn, machine_says}
use Rattle.naming_tree.specs.Walks.{walk}
use Rattle.naming_tree.specs.Walking.{walk_of, walking_asks, walking_after}
use Rattle.naming_tree.specs.Additions.{IsText}
use Rattle.naming_tree.specs.NamePaths.{listing_at, list_dir, to_parent, add_name, drop_name}
use Rattle.naming_tree.specs.ListsAt.{listing_of, listing_asks, listing_after}
use Rattle.naming_tree.specs.ByPaths.{list_dir_of, to_parent_of, add_name_of, drop_name_of, by_path_asks, by_path_after}

-- to replies of which each fits, a machine that was made so says what this dialogue says after all that it heard
abbrev pub SaysAs : {S : Type 0} → (S → Option Op) → (S → Option Reply → Turn S) → Option S → Dialogue → Type 0
SaysAs asks after made d = (heard : List Reply) → FitsHeard d heard → machine_says asks after made heard ≡ Some (says (dialogue.after d heard))

-- so does a walk along a path
abbrev pub WalkSays : Site → List ℕ → ObjectName → Bool → Type 0
WalkSays site path working last = IsSome (route_of path) → SaysAs walking_asks walking_after (walk_of site last (route_of path) working) (walk site path working last)

-- a directory that is listed by its path
abbrev pub ListSays : Site → List ℕ → ObjectName → Type 0
ListSays site path working = IsSome (route_of path) → SaysAs by_path_asks by_path_after (list_dir_of site (route_of path) working) (list_dir site path working)

-- a directory that is listed by its object
abbrev pub ListAtSays : ObjectName → Type 0
ListAtSays dir = SaysAs listing_asks listing_after (Some (listing_of dir)) (listing_at dir)

-- a walk to the directory of a path's last name
abbrev pub ParentSays : Site → List ℕ → ObjectName → Purpose → Type 0
ParentSays site path working purpose = IsSome (route_of path) → SaysAs by_path_asks by_path_after (to_parent_of site (route_of path) working purpose) (to_parent site path working purpose)

-- a name that is added by its path
abbrev pub AddSays : Site → List ℕ → ObjectName → ObjKind → ℕ → Option (List ℕ) → Type 0
AddSays site path working kind room text =
    IsSome (route_of path) → IsRoom room → IsText kind text
    → SaysAs by_path_asks by_path_after (add_name_of site (route_of path) working kind room text) (add_name site path working kind room text)

-- and one that is removed
abbrev pub DropSays : Site → List ℕ → ObjectName → Type 0
DropSays site path working = IsSome (route_of path) → SaysAs by_path_asks by_path_after (drop_name_of site (route_of path) working) (drop_name site path working)
