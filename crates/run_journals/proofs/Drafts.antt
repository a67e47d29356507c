-- What the lines of a script have declared so far is a draft, and a store can begin with its objects.
use Rattle.std.proofs.Common.{◌≡◌, ℕ, zero, suc, ◌≤◌, ◌<◌, ◌+◌, ◌++◌, true, false, List, [], ◌∷◌, length, get_or, ap, ◌∙◌, arith}
use Rattle.std.specs.Prelude.{unwrap_or, None, AllPairs}
use Rattle.uid_names.specs.Names.{IsName, same_uid}
use Rattle.uid_names.specs.Openings.{AreNamedApart}
use Rattle.uid_names.specs.Rooms.{IsRoom}
use Rattle.uid_names.specs.Wires.{IsWire, wire_room}
use Rattle.uid_names.proofs.Wires.{wire_room-least, wire_room-most, first-writes}
use Rattle.uid_names.specs.declared.limits.TheConstants.{FIRST_ROOM, MAX_NODES, VOLUME_ROOM}
use Rattle.uid_names.specs.declared.opening.Object.{Object}
use Rattle.uid_names.proofs.InOrder.{AllPairs-tail}
use Rattle.uid_names.proofs.ListLemmas.{length-push}
use Rattle.uid_names.proofs.Orders.{same_uid-sym}
use Rattle.script_reader.specs.After.{declared_at, next_uid, with_declared, with_node, with_wire}
use Rattle.script_reader.specs.Limits.{pages_at}
use Rattle.script_reader.specs.NodeNames.{is_node_name}
use Rattle.script_reader.specs.Scripts.{Content, wire_of, IsDraft}
use Rattle.script_reader.specs.Variables.{is_declared}
use Rattle.script_reader.specs.Walk.Starts.{AreStarts}
use Rattle.script_reader.specs.Words.{is_name}
use Rattle.script_reader.specs.declared.script.NodeRow.{NodeRow}
use Rattle.script_reader.proofs.Held.{AreStarts-push, AreStarts-wider, few_objects}
use Rattle.script_reader.proofs.Kept.{IsDraft-wire, IsDraft-node, IsDraft-object}
use Rattle.run_journals.specs.Begins.{CanRun}

pub record IsBegun (s : Content) : Type 0 where
  pub draft : IsDraft s
  pub starts : AreStarts (length s.nodes) (wire_room (wire_of s)) s.opening.objects

-- a node more
pub node-begun : (s : Content) (name : List ℕ) (frames : ℕ) → IsBegun s → is_name name ≡ true → 5 ≤ frames → frames ≤ 256 → is_node_name s.nodes name ≡ false → length s.nodes < MAX_NODES → IsBegun (with_node s name frames)
node-begun s name frames is named few many new room =
    let row : NodeRow = record { name = name; frames = frames } in
    let more = length-push s.nodes row in
    record {
      draft = IsDraft-node s name frames is.draft named few many new room;
      starts = AreStarts-wider (length s.nodes) (length (s.nodes ++ row ∷ [])) (wire_room (wire_of s)) (wire_room (wire_of s)) s.opening.objects (omega (arith, more)) (omega arith) is.starts;
    }

-- the next object of a home has a name
next-named : (nodes greatest home : ℕ) (starts : List Object) → AreStarts nodes greatest starts → nodes ≤ MAX_NODES → 1 ≤ home → home ≤ nodes → IsName (next_uid starts home)
next-named nodes greatest home starts is few low high =
    let few_here = few_objects nodes greatest starts home is.declarable in
    let volume = is.volume home in
    record { counter_low = omega arith; counter_high = omega (arith, few_here, volume); home_low = low; home_high = omega (arith, few, high) }

-- a version, where none was said
pub wire-begun : (s : Content) (wire : ℕ) → IsBegun s → IsWire wire → s.said_wire ≡ None → IsBegun (with_wire s wire)
wire-begun s wire is version none =
    let first : wire_room (wire_of s) ≡ FIRST_ROOM = ap (λ o. wire_room (unwrap_or o 1)) none ∙ first-writes in
    let least = wire_room-least wire in
    record {
      draft = IsDraft-wire s wire is.draft version;
      starts = AreStarts-wider (length s.nodes) (length s.nodes) (wire_room (wire_of s)) (wire_room wire) s.opening.objects (omega arith) (omega (arith, first, least)) is.starts;
    }

-- an object more
pub object-begun : (s : Content) (var : List ℕ) (home room : ℕ) → IsBegun s → is_name var ≡ true → 1 ≤ home → home ≤ length s.nodes → IsRoom room → room ≤ wire_room (wire_of s) → is_declared s.objects var ≡ false → s.commands ≡ [] → pages_at home s.opening.objects + room ≤ VOLUME_ROOM
    → IsBegun (with_declared s var (declared_at s home room))
object-begun s var home room is named low high range written new none fits = record {
  draft = IsDraft-object s var home room is.draft named (next-named (length s.nodes) (wire_room (wire_of s)) home s.opening.objects is.starts is.draft.few_nodes low high) high new none;
  starts = AreStarts-push (length s.nodes) (wire_room (wire_of s)) s.opening.objects home room is.starts high range.0 written fits;
}

-- each name stands once
named-apart : (objects : List Object) → AllPairs (λ a b. same_uid a.uid b.uid ≡ false) objects → AreNamedApart objects
named-apart [] apart = tt
named-apart (o ∷ rest) apart = (
  λ k d within. same_uid-sym (get_or rest k d).uid o.uid ∙ apart zero (suc k) d (omega arith) (omega (arith, within)),
  named-apart rest (AllPairs-tail (λ a b. same_uid a.uid b.uid ≡ false) o rest apart),
)

-- a draft with a node is a script of which there are runs
pub can-run : (s : Content) → IsBegun s → 1 ≤ length s.nodes → CanRun s
can-run s is some =
    let nodes = is.draft.opening_nodes in
    let greatest = is.draft.greatest in
    let few = is.draft.few_nodes in
    let least = wire_room-least (wire_of s) in
    let most = wire_room-most (wire_of s) in
    record {
      content = record { draft = is.draft; some_node = some; begins = record { homes = λ home. record { counters = is.starts.counters home; fits = is.starts.volume home } } };
      start = record {
        nodes_low = omega (arith, nodes, some);
        nodes_high = omega (arith, nodes, few);
        greatest_low = omega (arith, greatest, least);
        greatest_high = omega (arith, greatest, most);
        objects = rw (nodes, greatest) is.starts.declarable;
        apart = named-apart s.opening.objects is.starts.apart;
      };
    }
