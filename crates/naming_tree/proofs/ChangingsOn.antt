-- A change of a directory keeps to stages that can be reached.
use Rattle.std.proofs.Common.{◌≡◌, ℕ, Bool, true, false, Option, Some, None, List, refl, subst, sym}
use Rattle.std.specs.Prelude.{IsSome, IfNone}
use Rattle.uid_names.specs.declared.mode.Mode.TheVariants.{Write}
use Rattle.dom_history.specs.declared.op.Reply.{Reply}
use Rattle.dir_records.specs.Records.{Slot}
use Rattle.dir_records.specs.Directories.{directory_of}
use Rattle.naming_tree.specs.declared.session.Opened.{Opened}
use Rattle.naming_tree.specs.declared.session.Held.{Held}
use Rattle.naming_tree.specs.declared.session.Entry.{Entry}
use Rattle.naming_tree.specs.declared.session.Entry.TheVariants.{On, In, Out}
use Rattle.naming_tree.specs.declared.step.NameResult.{NameResult}
use Rattle.naming_tree.specs.declared.adding.AddStage.{AddStage}
use Rattle.naming_tree.specs.declared.changing.Change.{Change}
use Rattle.naming_tree.specs.declared.changing.Change.TheVariants.{Add, Remove}
use Rattle.naming_tree.specs.declared.changing.Stage.{Stage}
use Rattle.naming_tree.specs.declared.changing.Stage.TheVariants.{Begin, Enter, Adds, Removes}
use Rattle.naming_tree.specs.declared.changing.Next.{Next}
use Rattle.naming_tree.specs.declared.changing.Next.TheVariants.{To, End}
use Rattle.naming_tree.specs.declared.changing.Changing.{Changing}
use Rattle.naming_tree.specs.Entering.{entry_of, bytes_after, held_op_of, IsOpened}
use Rattle.naming_tree.specs.Endings.{result_at, ending_after, IsEndingBy}
use Rattle.naming_tree.specs.Turns.{Turn, Goes, Comes, turn_of, FitsAsked}
use Rattle.naming_tree.specs.Adding.{add_heard}
use Rattle.naming_tree.specs.Removing.{remove_heard}
use Rattle.naming_tree.specs.Changing.{moved, on_slots, on_entry, has_text, heard_in, heard_at, finish_at, changing_after, addition_op, stage_op, changing_asks, op_at, IsChange, IsAdds, IsStage, IsStageAt, IsChanging, IsOn}
use Rattle.naming_tree.proofs.EntriesOn.{IsEntry, entry_on}
use Rattle.naming_tree.proofs.EndingsLeft.{ending_well}
use Rattle.naming_tree.proofs.AddingsOn.{Began, IsNext, add_begins, add_next}
use Rattle.naming_tree.proofs.RemovingsOn.{remove_begins, remove_next}

abbrev pub BeganAt : Option Stage → Type 0
BeganAt None = Unit {0}
BeganAt (Some stage) = Began stage

-- it has begun, and is at a stage that can be reached
pub record Sound (c : Changing) : Type 0 where
  pub change : IsChange c.change
  pub began : BeganAt c.stage
  pub stage : IsStageAt c c.stage

moved_sound : (next : Next) (c : Changing) → IsChange c.change → IsNext c.change next → Sound (moved next c)
moved_sound (To stage) c k h = record { change = k; began = h.0; stage = h.1 }
moved_sound (End ending) c k h = record { change = k; began = tt; stage = h }

slots_next : (change : Change) (bytes : List ℕ) (slots : Option (List Slot)) (o : Opened) → directory_of bytes ≡ slots → IsOpened o → IsNext change (on_slots change slots o)
slots_next change bytes None o e h = tt
slots_next (Add a) bytes (Some slots) o e h = add_begins a slots o h
slots_next (Remove name) bytes (Some slots) o e h = remove_begins (Remove name) name bytes slots o e h

entry_next : (change : Change) (bytes : List ℕ) (entry : Entry) (reply : Reply) → IsEntry entry → IsNext change (on_entry change bytes entry reply)
entry_next change bytes (On stage) reply h = (tt, h)
entry_next change bytes (In o) reply h = slots_next change bytes (directory_of bytes) o refl h
entry_next change bytes (Out held) reply h = tt

adds_next : (change : Change) (stage : AddStage) (reply : Reply) → IsAdds change stage → IsNext change (add_heard (has_text change) stage reply)
adds_next (Add a) stage reply h = add_next a stage reply h
adds_next (Remove name) stage reply h = absurd h

in_sound : (stage : Stage) (reply : Reply) (c : Changing) → IsChange c.change → IsStage c.change stage → FitsAsked (stage_op c stage) (Some reply) → Sound (heard_in stage reply c)
in_sound Begin reply c k h fits = absurd fits
in_sound (Enter stage) reply c k h fits =
    let bytes = bytes_after stage c.bytes reply in
    let entry = entry_of c.parent stage reply in
    moved_sound (on_entry c.change bytes entry reply) (record c { bytes = bytes }) k (entry_next c.change bytes entry reply (entry_on c.parent Write stage reply h fits))
in_sound (Adds stage) reply c k h fits = moved_sound (add_heard (has_text c.change) stage reply) c k (adds_next c.change stage reply h)
in_sound (Removes stage) reply c k h fits = moved_sound (remove_heard stage reply) c k (remove_next c.change stage reply h)

pub at_sound : (c : Changing) (stage : Option Stage) (reply : Reply) → c.stage ≡ stage → IsChange c.change → IsStageAt c stage → FitsAsked (op_at c stage) (Some reply) → Sound (heard_at stage reply c)
at_sound c None reply e k h fits = record {
  change = k;
  began = subst BeganAt (sym e) tt;
  stage = subst (λ s. IsStageAt (record c { ending = ending_after c.ending reply }) s) (sym e) (ending_well c.ending reply h);
}
at_sound c (Some stage) reply e k h fits = in_sound stage reply c k h fits

-- it goes on in states that have begun
abbrev pub OnTurn : Turn Changing → Type 0
OnTurn (Goes c) = IsOn c
OnTurn (Comes result) = Unit {0}

adds_asked : (change : Change) (stage : AddStage) → IsAdds change stage → IsSome (addition_op change stage)
adds_asked (Add a) stage h = refl
adds_asked (Remove name) stage h = absurd h

stage_asked : (c : Changing) (stage : Stage) → Began stage → IsStage c.change stage → IsSome (stage_op c stage)
stage_asked c Begin b h = absurd b
stage_asked c (Enter stage) b h = refl
stage_asked c (Adds stage) b h = adds_asked c.change stage h
stage_asked c (Removes stage) b h = refl

ended_on : (c : Changing) (held : Option Held) (refused : Option Reply) (result : Option NameResult) → IsChanging c → (IsSome (held_op_of held) → IsSome (changing_asks c)) → (counts : Bool) → IsEndingBy counts refused result → OnTurn (turn_of (result_at held refused result) c)
ended_on c (Some held) refused result h asks counts k = record { changing = h; asks = asks refl }
ended_on c None (Some reply) result h asks counts k = tt
ended_on c None None (Some result) h asks counts k = tt
ended_on c None None None h asks true k = absurd k
ended_on c None None None h asks false k = absurd k

finish_on : (c : Changing) (stage : Option Stage) → c.stage ≡ stage → Sound c → OnTurn (finish_at stage c)
finish_on c (Some stage) e h = record {
  changing = record { change = h.change; stage = h.stage };
  asks = subst (λ s. IsSome (op_at c s)) (sym e) (stage_asked c stage (subst BeganAt e h.began) (subst (λ s. IsStageAt c s) e h.stage));
}
finish_on c None e h =
    ended_on c c.ending.closing.held c.ending.closing.refused c.ending.result (record { change = h.change; stage = h.stage })
    (λ some. subst (λ s. IsSome (op_at c s)) (sym e) some) c.ending.closing.counts (subst (λ s. IsStageAt c s) e h.stage)

-- a reply that fits leaves it so
pub changing_on : (c : Changing) (reply : Reply) → IsOn c → FitsAsked (changing_asks c) (Some reply) → OnTurn (changing_after c (Some reply))
changing_on c reply h fits =
    let b = heard_at c.stage reply c in
    finish_on b b.stage refl (at_sound c c.stage reply refl h.changing.change h.changing.stage fits)

if_none : (r : Option NameResult) (b : Changing) → OnTurn (turn_of r b) → IfNone r (IsOn b)
if_none None b h = h
if_none (Some result) b h = tt

pub on_after : (c b : Changing) (reply : Reply) (r : Option NameResult) → IsOn c → FitsAsked (changing_asks c) (Some reply) → turn_of r b ≡ changing_after c (Some reply) → IfNone r (IsOn b)
on_after c b reply r h fits e = if_none r b (subst OnTurn (sym e) (changing_on c reply h fits))
