-- What is left of the dialogue of a change of a directory, and how each reply leads on.
use Rattle.std.proofs.Common.{◌≡◌, ℕ, Option, Some, None, List, refl, ap, ◌∙◌, sym, arith}
use Rattle.std.specs.Prelude.{IsSome}
use Rattle.uid_names.specs.Names.{ObjectName}
use Rattle.uid_names.specs.declared.mode.Mode.TheVariants.{Write}
use Rattle.dom_history.specs.declared.op.Reply.{Reply}
use Rattle.dir_records.specs.Records.{Slot}
use Rattle.dir_records.specs.Directories.{directory_of}
use Rattle.naming_tree.specs.declared.session.Opened.{Opened}
use Rattle.naming_tree.specs.declared.session.Held.{Held}
use Rattle.naming_tree.specs.declared.session.Entering.TheVariants as entering
use Rattle.naming_tree.specs.declared.session.Entry.{Entry}
use Rattle.naming_tree.specs.declared.session.Entry.TheVariants.{On, In, Out}
use Rattle.naming_tree.specs.declared.step.NameResult.{NameResult}
use Rattle.naming_tree.specs.declared.step.Step.TheVariants.{Do}
use Rattle.naming_tree.specs.declared.addition.Addition.{Addition}
use Rattle.naming_tree.specs.declared.adding.AddStage.{AddStage}
use Rattle.naming_tree.specs.declared.adding.AddStage.TheVariants.{Make, LockText, StoreText, UnlockText, StoreName}
use Rattle.naming_tree.specs.declared.removing.RemoveStage.{RemoveStage}
use Rattle.naming_tree.specs.declared.removing.RemoveStage.TheVariants.{Lock, Delete, Clear}
use Rattle.naming_tree.specs.declared.changing.Change.{Change}
use Rattle.naming_tree.specs.declared.changing.Change.TheVariants.{Add, Remove}
use Rattle.naming_tree.specs.declared.changing.Stage.{Stage}
use Rattle.naming_tree.specs.declared.changing.Stage.TheVariants.{Begin, Enter, Adds, Removes}
use Rattle.naming_tree.specs.declared.changing.Next.{Next}
use Rattle.naming_tree.specs.declared.changing.Next.TheVariants.{To, End}
use Rattle.naming_tree.specs.declared.changing.Changing.{Changing}
use Rattle.naming_tree.specs.Entering.{entry_of, bytes_after, held_op_of}
use Rattle.naming_tree.specs.Endings.{result_of, ending_after}
use Rattle.naming_tree.specs.Additions.{add_at, IsAddition}
use Rattle.naming_tree.specs.Removals.{drop_at}
use Rattle.naming_tree.specs.Changes.{on_directory, changed}
use Rattle.naming_tree.specs.Turns.{does, Turn, Goes, Comes, turn_of, FitsAsked}
use Rattle.naming_tree.specs.Sayings.{SaysAs}
use Rattle.naming_tree.specs.Dialogues.{Dialogue, Ends, told, says}
use Rattle.naming_tree.specs.Adding.{add_heard, add_op}
use Rattle.naming_tree.specs.Removing.{remove_heard, remove_op}
use Rattle.naming_tree.specs.Changing as stages
use Rattle.naming_tree.specs.Changing.{moved, has_text, stage_op, addition_op, op_at, changing_asks, changing_after, changing_of, finish_at, heard_at, heard_in, IsChange, IsAdds, IsStage, IsStageAt, IsOn}
use Rattle.naming_tree.proofs.ReadingsLeft.{entry_left, entering_on}
use Rattle.naming_tree.proofs.ReadingsSay.{entering_says}
use Rattle.naming_tree.proofs.StagesLeft.{add_left, remove_left, change_in, loaded_then, adds_left, stage_left, next_left}
use Rattle.naming_tree.proofs.AddingsOn.{Began}
use Rattle.naming_tree.proofs.AddingsLeft.{add_begun, add_on}
use Rattle.naming_tree.proofs.RemovingsLeft.{remove_begun, remove_on}
use Rattle.naming_tree.proofs.ChangingsOn.{BeganAt, Sound, OnTurn, at_sound, changing_on}
use Rattle.naming_tree.proofs.Machines.{IsAt, Tells, fits_asked, says_all}
use Rattle.naming_tree.proofs.EndingsLeft.{ending_left, ending_on, ending_says, come_left, result_left}

abbrev pub left_at : Changing → Option Stage → Dialogue
left_at c None = ending_left c.ending
left_at c (Some stage) = stage_left c.parent c.change c.bytes stage

abbrev pub changing_left : Changing → Dialogue
changing_left c = left_at c c.stage

moved_left : (next : Next) (c : Changing) → next_left c.parent c.change c.bytes next ≡ changing_left (moved next c)
moved_left (To stage) c = refl
moved_left (End ending) c = refl

slots_left : (parent : ObjectName) (change : Change) (bytes : List ℕ) (slots : Option (List Slot)) (o : Opened) → on_directory (change_in change) slots o ≡ next_left parent change bytes (stages.on_slots change slots o)
slots_left parent change bytes None o = refl
slots_left parent (Add a) bytes (Some slots) o = add_begun parent a bytes slots o
slots_left parent (Remove name) bytes (Some slots) o = remove_begun parent (Remove name) bytes name slots o

entry_on : (parent : ObjectName) (change : Change) (bytes : List ℕ) (entry : Entry) (reply : Reply) → entry_left parent Write (loaded_then change) entry bytes reply ≡ next_left parent change bytes (stages.on_entry change bytes entry reply)
entry_on parent change bytes (On stage) reply = refl
entry_on parent change bytes (In o) reply = slots_left parent change bytes (directory_of bytes) o
entry_on parent change bytes (Out held) reply = refl

adds_on : (parent : ObjectName) (change : Change) (bytes : List ℕ) (stage : AddStage) (reply : Reply) → IsAdds change stage → told (adds_left change stage) reply ≡ next_left parent change bytes (add_heard (has_text change) stage reply)
adds_on parent (Add a) bytes stage reply h = add_on parent a bytes stage reply
adds_on parent (Remove name) bytes stage reply h = absurd h

in_on : (stage : Stage) (reply : Reply) (c : Changing) → Began stage → IsStage c.change stage → told (stage_left c.parent c.change c.bytes stage) reply ≡ changing_left (heard_in stage reply c)
in_on Begin reply c b h = absurd b
in_on (Enter stage) reply c b h =
    let bytes = bytes_after stage c.bytes reply in
    let entry = entry_of c.parent stage reply in
    entering_on c.parent Write (loaded_then c.change) stage c.bytes reply h
    ∙ entry_on c.parent c.change bytes entry reply
    ∙ moved_left (stages.on_entry c.change bytes entry reply) (record c { bytes = bytes })
in_on (Adds stage) reply c b h = adds_on c.parent c.change c.bytes stage reply h ∙ moved_left (add_heard (has_text c.change) stage reply) c
in_on (Removes stage) reply c b h = remove_on c.parent c.change c.bytes stage reply ∙ moved_left (remove_heard stage reply) c

-- what is left behind a turn
abbrev pub turn_left : Turn Changing → Dialogue
turn_left (Goes c) = changing_left c
turn_left (Comes result) = Ends result

turn_come : (come : Option NameResult) (c : Changing) → turn_left (turn_of come c) ≡ come_left come (changing_left c)
turn_come None c = refl
turn_come (Some result) c = refl

finish_left : (c : Changing) (stage : Option Stage) → c.stage ≡ stage → IsStageAt c stage → turn_left (finish_at stage c) ≡ changing_left c
finish_left c (Some stage) e h = refl
finish_left c None e h =
    turn_come (result_of c.ending) c
    ∙ ap (λ s. come_left (result_of c.ending) (left_at c s)) e
    ∙ result_left c.ending h
    ∙ ap (left_at c) (sym e)

held_asked : (held : Option Held) → IsSome (held_op_of held) → (h : Held) × (held ≡ Some h)
held_asked None some = absurd (grind (arith, some))
held_asked (Some h) some = (h, refl)

at_on : (c : Changing) (stage : Option Stage) (reply : Reply) → c.stage ≡ stage → BeganAt stage → IsStageAt c stage → IsSome (op_at c stage) → told (left_at c stage) reply ≡ changing_left (heard_at stage reply c)
at_on c None reply e b h some =
    let held = held_asked c.ending.closing.held some in
    ending_on c.ending held.0 reply held.1 h ∙ ap (left_at (record c { ending = ending_after c.ending reply })) (sym e)
at_on c (Some stage) reply e b h some = in_on stage reply c b h

-- a reply leads on
pub change_on : (c : Changing) (reply : Reply) → Sound c → IsOn c → FitsAsked (changing_asks c) (Some reply) → turn_left (changing_after c (Some reply)) ≡ told (changing_left c) reply
change_on c reply sound on fits =
    let b = heard_at c.stage reply c in
    finish_left b b.stage refl (at_sound c c.stage reply refl sound.change sound.stage fits).stage
    ∙ sym (at_on c c.stage reply refl sound.began sound.stage on.asks)

add_says : (a : Addition) (stage : AddStage) → says (add_left a stage) ≡ Do (add_op a stage)
add_says a (Make o place) = refl
add_says a (LockText p) = refl
add_says a (StoreText p) = refl
add_says a (UnlockText p) = refl
add_says a (StoreName p) = refl

adds_says : (change : Change) (stage : AddStage) → IsAdds change stage → Some (says (adds_left change stage)) ≡ does (addition_op change stage)
adds_says (Add a) stage h = ap Some (add_says a stage)
adds_says (Remove name) stage h = absurd h

remove_says : (stage : RemoveStage) → says (remove_left stage) ≡ Do (remove_op stage)
remove_says (Lock p) = refl
remove_says (Delete p) = refl
remove_says (Clear p) = refl

stage_says : (c : Changing) (stage : Stage) → IsStage c.change stage → Began stage → Some (says (stage_left c.parent c.change c.bytes stage)) ≡ does (stage_op c stage)
stage_says c Begin h b = absurd b
stage_says c (Enter stage) h b = ap Some (entering_says c.parent Write (loaded_then c.change) stage c.bytes h)
stage_says c (Adds stage) h b = adds_says c.change stage h
stage_says c (Removes stage) h b = ap Some (remove_says stage)

says_at : (c : Changing) (stage : Option Stage) → IsStageAt c stage → BeganAt stage → IsSome (op_at c stage) → does (op_at c stage) ≡ Some (says (left_at c stage))
says_at c None h b some =
    let held = held_asked c.ending.closing.held some in
    ap (λ o. does (held_op_of o)) held.1 ∙ ap Some (sym (ending_says c.ending held.0 held.1))
says_at c (Some stage) h b some = sym (stage_says c stage h b)

-- it has begun and asks something
pub record Live (c : Changing) : Type 0 where
  pub sound : Sound c
  pub on : IsOn c

pub asked_live : (c : Changing) → Live c → does (changing_asks c) ≡ Some (says (changing_left c))
asked_live c h = says_at c c.stage h.sound.stage h.sound.began h.on.asks

abbrev pub LiveTurn : Turn Changing → Type 0
LiveTurn (Goes c) = Live c
LiveTurn (Comes result) = Unit {0}

come_live : (come : Option NameResult) (c : Changing) → Sound c → OnTurn (turn_of come c) → LiveTurn (turn_of come c)
come_live None c s on = record { sound = s; on = on }
come_live (Some result) c s on = tt

finish_live : (stage : Option Stage) (c : Changing) → Sound c → OnTurn (finish_at stage c) → LiveTurn (finish_at stage c)
finish_live (Some stage) c s on = record { sound = s; on = on }
finish_live None c s on = come_live (result_of c.ending) c s on

-- it stays so
pub change_live : (c : Changing) (reply : Reply) → Live c → FitsAsked (changing_asks c) (Some reply) → LiveTurn (changing_after c (Some reply))
change_live c reply h fits =
    let b = heard_at c.stage reply c in
    finish_live b.stage b (at_sound c c.stage reply refl h.sound.change h.sound.stage fits) (changing_on c reply h.on fits)

at_turn : (turn : Turn Changing) (d : Dialogue) → LiveTurn turn → turn_left turn ≡ d → IsAt changing_asks changing_after changing_left Live turn d
at_turn (Goes c) d h e = (h, e)
at_turn (Comes result) d h e = e

changes_tell : Tells changing_asks changing_after changing_left Live
changes_tell = record {
  asked = asked_live;
  on = λ c reply h fits.
      let asked = fits_asked (changing_left c) (changing_asks c) reply (asked_live c h) fits in
      at_turn (changing_after c (Some reply)) (told (changing_left c) reply) (change_live c reply h asked) (change_on c reply h.sound h.on asked);
}

-- a change that has begun
pub begun_live : (c : Changing) → IsChange c.change → Live (moved (To (Enter entering.Lock)) c)
begun_live c h = record {
  sound = record { change = h; began = tt; stage = tt };
  on = record { changing = record { change = h; stage = tt }; asks = refl };
}

-- a change says what its dialogue says after all that it heard
change_says : (parent : ObjectName) (change : Change) → IsChange change → SaysAs changing_asks changing_after (Some (changing_of parent change)) (changed parent (change_in change))
change_says parent change h heard fits =
    says_all changing_asks changing_after changing_left Live changes_tell (changing_of parent change) (changed parent (change_in change)) heard (begun_live (changing_of parent change) h, refl) fits

pub addition_says : (parent : ObjectName) (what : Addition) → IsAddition what → SaysAs changing_asks changing_after (Some (changing_of parent (Add what))) (add_at parent what)
addition_says parent what h = change_says parent (Add what) h

pub removal_says : (parent : ObjectName) (name : List ℕ) → SaysAs changing_asks changing_after (Some (changing_of parent (Remove name))) (drop_at parent name)
removal_says parent name = change_says parent (Remove name) tt
