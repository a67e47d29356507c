-- A dialogue asks in its ranges where its parts do.
use Rattle.std.proofs.Common.{ℕ, Bool, Option, Some, None, IfSome, List, [], ◌∷◌}
use Rattle.uid_names.specs.Names.{ObjectName, IsName}
use Rattle.uid_names.specs.Rooms.{IsLength}
use Rattle.uid_names.specs.declared.mode.Mode.{Mode}
use Rattle.dom_history.specs.Ranges.{IsOp}
use Rattle.dom_history.specs.declared.op.Op.{Op}
use Rattle.dom_history.specs.declared.op.Op.TheVariants.{Length, Lock, Map, Unlock}
use Rattle.dom_history.specs.declared.op.Reply.{Reply}
use Rattle.naming_tree.specs.Dialogues.{DialogueOf, Ends, Asks, ask_or, closing, go_on_or, led_on}
use Rattle.naming_tree.specs.Sessions.{fine, place, size}
use Rattle.aegis_shell.proofs.Ranged.{AreOps}
use Rattle.command_ranges.specs.Telling.{AsksInRange, MayTell}
use Rattle.command_ranges.proofs.Answers.{Anything, IsPlace, any-told, place-told, size-told}

-- one behind another
pub led-asks : {A B : Type 0} (First : A → Type 0) (Last : B → Type 0) (d : DialogueOf A) (further : A → DialogueOf B) → AsksInRange First d → ((result : A) → First result → AsksInRange Last (further result)) → AsksInRange Last (led_on d further)
led-asks First Last (Ends result) further asks next = next result asks
led-asks First Last (Asks op on) further asks next = (asks.0, λ reply may. led-asks First Last (on reply) further (asks.1 reply may) next)

module _ {R : Type 0} (IsSuch : R → Type 0) where
  -- what is open is closed
  pub closing-asks : (held : List Op) (result : R) → AreOps held → IsSuch result → AsksInRange IsSuch (closing held result)
  closing-asks [] result ops is = is
  closing-asks (op ∷ held) result ops is = (ops.0, λ reply may. closing-asks held result ops.1 is)

  module _ (refused : Reply → R) (is_such : (reply : Reply) → IsSuch (refused reply)) where
    gone-asks : {A : Type 0} (IsTold : A → Type 0) (o : Option A) (reply : Reply) (held : List Op) (further : A → DialogueOf R)
        → AreOps held → IfSome o IsTold → ((a : A) → IsTold a → AsksInRange IsSuch (further a)) → AsksInRange IsSuch (go_on_or refused o reply held further)
    gone-asks IsTold None reply held further ops told next = closing-asks held (refused reply) ops (is_such reply)
    gone-asks IsTold (Some a) reply held further ops told next = next a told

    -- an operation is asked, whose answers are such
    pub ask-asks : {A : Type 0} (answer : Reply → Option A) (IsTold : A → Type 0) (held : List Op) (op : Op) (further : A → DialogueOf R)
        → AreOps held → IsOp op → ((reply : Reply) → MayTell op reply → IfSome (answer reply) IsTold) → ((a : A) → IsTold a → AsksInRange IsSuch (further a)) → AsksInRange IsSuch (ask_or refused answer held op further)
    ask-asks answer IsTold held op further ops is told next = (is, λ reply may. gone-asks IsTold (answer reply) reply held further ops (told reply may) next)

    -- one that tells nothing
    pub fine-asks : (held : List Op) (op : Op) (further : DialogueOf R) → AreOps held → IsOp op → AsksInRange IsSuch further → AsksInRange IsSuch (ask_or refused fine held op (λ _. further))
    fine-asks held op further ops is next = ask-asks fine (Anything (Unit {0})) held op (λ _. further) ops is (λ reply may. any-told (fine reply)) (λ _ _. next)

    -- an object is opened: locked, measured and mapped
    pub opened-asks : (u : ObjectName) (mode : Mode) (further : ℕ → ℕ × Bool → DialogueOf R) → IsName u → ((n : ℕ) (at : ℕ × Bool) → IsLength n → IsPlace at → AsksInRange IsSuch (further n at))
        → AsksInRange IsSuch (ask_or refused fine [] (Lock u mode) (λ _. ask_or refused size (Unlock u ∷ []) (Length u) (λ n. ask_or refused place (Unlock u ∷ []) (Map u) (further n))))
    opened-asks u mode further is next =
        let mapped = λ (n : ℕ). ask_or refused place (Unlock u ∷ []) (Map u) (further n) in
        fine-asks [] (Lock u mode) (ask_or refused size (Unlock u ∷ []) (Length u) mapped) tt is
        (ask-asks size IsLength (Unlock u ∷ []) (Length u) mapped (is, tt) is (size-told u) (λ n long.
        ask-asks place IsPlace (Unlock u ∷ []) (Map u) (further n) (is, tt) is (place-told u) (λ at there. next n at long there)))
