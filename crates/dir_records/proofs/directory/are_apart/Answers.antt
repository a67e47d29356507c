use Rattle.std.proofs.Common.{◌≡◌, ◌-◌, ◌<◌, ℕ, List, ◌∷◌, Some, true, false, length, drop, get_or, set, ap, sym, ◌∙◌, subst, arith, rules}
use Rattle.std.specs.List.{list_any}
use Rattle.dir_records.specs.Records.{Slot}
use Rattle.dir_records.specs.Directories.{has_name, are_apart}
use Rattle.dir_records.specs.Marks.{mark_of}
use Rattle.dir_records.proofs.NamesMarked.{AreMarked, first_behind, behind, one_marked, not_there, one_apart, not_apart}
use Rattle.dir_records.proofs.directory.are_apart.Goals as goal
use Rattle.dir_records.proofs.directory.are_apart.Goals.{else-marked-mark-via-then-marked-mark+else-is_taken, else-marked-mark-via-else-marked-mark}

pub returns-then-is_taken : goal.returns-then-is_taken
returns-then-is_taken c =
    let slots = c.args.slots.now in
    let i = c.loop-i.i in
    let row = c.in-Some.row in
    let here = first_behind slots i (Some row) (omega arith) (omega arith) (subst (λ s. s ≡ get_or slots (i - 1) s) c.in-Some.is c.index-slots-i.is) in
    let there : list_any (has_name row.name) (drop i slots) ≡ true = ap (list_any (has_name row.name)) (sym (behind slots i (omega arith))) ∙ sym c.is_taken.ensures ∙ c.if-is_taken.true in
    sym (not_apart slots (drop i slots) (i - 1) row here there)

pub loop-i-preserved-in-Some : goal.loop-i-preserved-in-Some
loop-i-preserved-in-Some c =
    let slots = c.args.slots.now in
    let i = c.loop-i.i in
    let row = c.in-Some.row in
    let here = first_behind slots i (Some row) (omega arith) (omega arith) (subst (λ s. s ≡ get_or slots (i - 1) s) c.in-Some.is c.index-slots-i.is) in
    let absent : list_any (has_name row.name) (drop i slots) ≡ false =
    elim c.else-marked-mark.branch [
      | else-marked-mark-via-then-marked-mark+else-is_taken w ↦ ap (list_any (has_name row.name)) (sym (behind slots i (omega arith))) ∙ sym w.is_taken.ensures ∙ w.if-is_taken.false
      | else-marked-mark-via-else-marked-mark w ↦ not_there c.loop-i.marked row.name (drop i slots) c.loop-i.invariant.marked (ap (λ (n : ℕ). get_or c.loop-i.marked n false) (sym c.mark-mark.ensures.value) ∙ w.if-marked-mark.false)
    ] in
    let within : mark_of row.name < length c.loop-i.marked = omega (arith, c.mark-mark.ensures.value, c.mark-mark.ensures.few) in
    let marked = subst (λ (n : ℕ). AreMarked (set c.loop-i.marked n true) (Some row ∷ drop i slots)) (sym c.mark-mark.ensures.value) (one_marked c.loop-i.marked row (drop i slots) within c.loop-i.invariant.marked) in
    record {
      within = omega arith;
      size = search rules;
      apart = ap are_apart here ∙ one_apart row (drop i slots) absent c.loop-i.invariant.apart;
      marked = subst (λ (rest : List Slot). AreMarked (set c.loop-i.marked c.mark-mark.result true) rest) (sym here) marked;
    }
