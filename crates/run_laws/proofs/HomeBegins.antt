-- What a node answers by itself to a new object and to a list: where their home is no node, or the room too great.
use Rattle.std.proofs.Common.{◌≡◌, ℕ, Bool, true, false, List, [], Option, inl, refl, sym, ap, ◌∙◌, arith}
use Rattle.std.specs.Prelude.{◌&&◌, nat_le, nat_lt}
use Rattle.std.proofs.lemmas.Bool.Decides.{nat_tests}
use Rattle.uid_names.specs.Names.{ProcName, ObjectName}
use Rattle.uid_names.specs.Rows.{rows_after}
use Rattle.uid_names.specs.declared.lock_row.LockRow.{LockRow}
use Rattle.uid_names.specs.declared.mode.ObjKind.{ObjKind}
use Rattle.dom_history.specs.declared.op.Op.TheVariants as ops
use Rattle.dom_history.specs.declared.op.Reply.TheVariants as replies
use Rattle.dom_history.specs.Locks.{rows}
use Rattle.dom_history.specs.Objects.{is_node}
use Rattle.dom_history.specs.Replies.{Before, new_reply, list_reply}
use Rattle.fault_handler.specs.Desks.{DeskState}
use Rattle.node_runs.specs.Operations.{new_by, list_by}
use Rattle.run_laws.proofs.DeskTurns.{IsSo}

module _ (b : Before) (name : ProcName) (d : DeskState) (home : ℕ) where
  new-refused : (room : ℕ) → (is_node b.opening home && nat_le room b.opening.greatest) ≡ false → new_reply b home room ≡ replies.NoSpace
  new-refused room none = by (is_node b.opening home) (nat_le room b.opening.greatest) refl refl none
    where
      by : (node low : Bool) → is_node b.opening home ≡ node → nat_le room b.opening.greatest ≡ low → (node && low) ≡ false → new_reply b home room ≡ replies.NoSpace
      by false low e f none = rw e refl
      by true false e f none = let high : nat_lt b.opening.greatest room ≡ true = grind (arith, nat_tests, f) in rw (e, high) refl
      by true true e f none = absurd (cc)

  pub new-so : (kind : ObjKind) (room : ℕ) → IsSo b name (ops.New home kind room) (new_by d home kind room (is_node b.opening home && nat_le room b.opening.greatest)).turn
  new-so kind room = by (is_node b.opening home && nat_le room b.opening.greatest) refl
    where
      by : (fits : Bool) → (is_node b.opening home && nat_le room b.opening.greatest) ≡ fits → IsSo b name (ops.New home kind room) (new_by d home kind room fits).turn
      by true e = tt
      by false e = inl (sym (new-refused room e))

  pub list-so : (after : Option (ObjectName × ProcName)) → (is_node b.opening home ≡ false → rows home b.past ≡ []) → IsSo b name (ops.List home after) (list_by d home after (is_node b.opening home)).turn
  list-so after none = by (is_node b.opening home) refl
    where
      no-rows : (after : Option (ObjectName × ProcName)) → list_reply (rows_after after []) ≡ replies.Locks [] false
      no-rows after = refl

      by : (there : Bool) → is_node b.opening home ≡ there → IsSo b name (ops.List home after) (list_by d home after there).turn
      by true e = tt
      by false e = inl (sym (ap (λ (rs : List LockRow). list_reply (rows_after after rs)) (none e) ∙ no-rows after))
