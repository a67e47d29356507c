use Rattle.std.proofs.Common.{◌≡◌, ◌∙◌, ◌<◌, true, false, length, ap, set, refl, arith}
use Rattle.std.proofs.lemmas.List.Edits.{map_over_more}
use Rattle.uid_names.specs.Names.{ObjectName}
use Rattle.fault_handler.specs.declared.entries.LockEntry.{LockEntry}
use Rattle.fault_handler.specs.Entries.{is_on, noted_if}
use Rattle.fault_handler.proofs.entries.note.Goals as goal
use Rattle.fault_handler.proofs.entries.note.Goals.{then-is, else-is}

-- an entry of the object
noted : (u : ObjectName) (e x : LockEntry) → e ≡ x → true ≡ is_on u x → record x { released = true } ≡ noted_if (is_on u e) e
noted u e x same is = rw (same, ← is) refl

-- and another one
left : (u : ObjectName) (e x : LockEntry) → e ≡ x → false ≡ is_on u x → x ≡ noted_if (is_on u e) e
left u e x same is = rw (same, ← is) refl

pub loop-entry-preserved : goal.loop-entry-preserved
loop-entry-preserved c =
    let below : c.loop-entry.entry-index < length c.args.entries.now = omega arith in
    let step = map_over_more (λ (e : LockEntry). noted_if (is_on c.args.uid e) e) c.args.entries.now c.loop-entry.entries c.loop-entry.entry-index c.entry-item.result below c.loop-entry.invariant c.entry-item.is in
    elim c.if-is.branch [
      | then-is w ↦ w.entries-is ∙ ap (set c.loop-entry.entries c.loop-entry.entry-index) (noted c.args.uid c.entry-item.result _ c.entry-item.is w.if-is.ensures) ∙ step
      | else-is w ↦ w.entries-is ∙ ap (set c.loop-entry.entries c.loop-entry.entry-index) (left c.args.uid c.entry-item.result _ c.entry-item.is w.if-is.ensures) ∙ step
    ]
