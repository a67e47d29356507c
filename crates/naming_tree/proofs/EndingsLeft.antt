-- What is left of a machine's dialogue as it comes to its end.
use Rattle.std.proofs.Common.{◌≡◌, Bool, true, false, not, ◌&&◌, Option, Some, None, List, [], ◌∷◌, refl}
use Rattle.dom_history.specs.declared.op.Op.{Op}
use Rattle.dom_history.specs.declared.op.Reply.{Reply}
use Rattle.dom_history.specs.declared.op.Reply.TheVariants.{Fine}
use Rattle.naming_tree.specs.declared.session.Held.{Held}
use Rattle.naming_tree.specs.declared.ending.Ending.{Ending}
use Rattle.naming_tree.specs.declared.step.NameResult.{NameResult}
use Rattle.naming_tree.specs.declared.step.NameResult.TheVariants.{Store, BadDir}
use Rattle.naming_tree.specs.declared.step.Step.TheVariants.{Do}
use Rattle.naming_tree.specs.Entering.{held_op, held_after, refusal, is_fine}
use Rattle.naming_tree.specs.Endings.{ending_after, result_at, result_of, IsEndingBy, IsEnding}
use Rattle.naming_tree.specs.Dialogues.{Dialogue, Ends, told, says}
use Rattle.naming_tree.specs.Sessions.{closing, shutting}
use Rattle.naming_tree.proofs.ReadingsLeft.{ops_held, ops_first}

-- refusals count or not
abbrev pub ends_by : Bool → List Op → NameResult → Dialogue
ends_by true ops result = shutting ops (Ends result)
ends_by false ops result = closing ops result

abbrev pub ending_by : Bool → Option Reply → Option NameResult → List Op → Dialogue
ending_by counts (Some reply) result ops = closing ops (Store reply)
ending_by counts None (Some result) ops = ends_by counts ops result
ending_by counts None None ops = closing ops BadDir

abbrev pub ending_left : Ending → Dialogue
ending_left e = ending_by e.closing.counts e.closing.refused e.result (ops_held e.closing.held)

shut_on : (op : Op) (rest : List Op) (result : NameResult) (reply : Reply) → told (shutting (op ∷ rest) (Ends result)) reply ≡ ending_by (true && is_fine reply) (refusal (true && not (is_fine reply)) reply None) (Some result) rest
shut_on op rest result Fine = refl
shut_on op rest result reply = refl

by_on : (counts : Bool) (refused : Option Reply) (result : Option NameResult) (op : Op) (rest : List Op) (reply : Reply) → IsEndingBy counts refused result → told (ending_by counts refused result (op ∷ rest)) reply ≡ ending_by (counts && is_fine reply) (refusal (counts && not (is_fine reply)) reply refused) result rest
by_on true (Some x) result op rest reply h = absurd h
by_on false (Some x) result op rest reply h = refl
by_on true None (Some result) op rest reply h = shut_on op rest result reply
by_on false None (Some result) op rest reply h = refl
by_on true None None op rest reply h = absurd h
by_on false None None op rest reply h = absurd h

-- a reply leads it on
pub ending_on : (e : Ending) (held : Held) (reply : Reply) → e.closing.held ≡ Some held → IsEnding e → told (ending_left e) reply ≡ ending_left (ending_after e reply)
ending_on e held reply h well =
    rw (h, ops_first held.other held.mapped held.uid) (by_on e.closing.counts e.closing.refused e.result (held_op held) (ops_held (held_after held)) reply well)

shut_well : (result : NameResult) (reply : Reply) → IsEndingBy (true && is_fine reply) (refusal (true && not (is_fine reply)) reply None) (Some result)
shut_well result Fine = tt
shut_well result reply = tt

by_well : (counts : Bool) (refused : Option Reply) (result : Option NameResult) (reply : Reply) → IsEndingBy counts refused result → IsEndingBy (counts && is_fine reply) (refusal (counts && not (is_fine reply)) reply refused) result
by_well true (Some x) result reply h = absurd h
by_well false (Some x) result reply h = tt
by_well true None (Some result) reply h = shut_well result reply
by_well false None (Some result) reply h = tt
by_well true None None reply h = absurd h
by_well false None None reply h = absurd h

pub ending_well : (e : Ending) (reply : Reply) → IsEnding e → IsEnding (ending_after e reply)
ending_well e reply h = by_well e.closing.counts e.closing.refused e.result reply h

by_says : (counts : Bool) (refused : Option Reply) (result : Option NameResult) (op : Op) (rest : List Op) → says (ending_by counts refused result (op ∷ rest)) ≡ Do op
by_says counts (Some x) result op rest = refl
by_says true None (Some result) op rest = refl
by_says false None (Some result) op rest = refl
by_says counts None None op rest = refl

pub ending_says : (e : Ending) (held : Held) → e.closing.held ≡ Some held → says (ending_left e) ≡ Do (held_op held)
ending_says e held h = rw (h, ops_first held.other held.mapped held.uid) (by_says e.closing.counts e.closing.refused e.result (held_op held) (ops_held (held_after held)))

-- what is left once all is closed, by what has come of it
abbrev pub come_left : Option NameResult → Dialogue → Dialogue
come_left None d = d
come_left (Some result) d = Ends result

at_end : (counts : Bool) (refused : Option Reply) (result : Option NameResult) → IsEndingBy counts refused result → come_left (result_at None refused result) (ending_by counts refused result []) ≡ ending_by counts refused result []
at_end counts (Some x) result h = refl
at_end true None (Some result) h = refl
at_end false None (Some result) h = refl
at_end true None None h = absurd h
at_end false None None h = absurd h

at_held : (e : Ending) (held : Option Held) → e.closing.held ≡ held → IsEnding e → come_left (result_at held e.closing.refused e.result) (ending_left e) ≡ ending_left e
at_held e (Some held) h well = refl
at_held e None h well = rw h (at_end e.closing.counts e.closing.refused e.result well)

pub result_left : (e : Ending) → IsEnding e → come_left (result_of e) (ending_left e) ≡ ending_left e
result_left e well = at_held e e.closing.held refl well
