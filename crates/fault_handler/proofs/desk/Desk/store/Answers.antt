use Rattle.std.proofs.Common.{◌≡◌, ◌≤◌, ◌+◌, ◌/◌, ◌%◌, List, ℕ, length, refl, sym, subst, ◌∙◌}
use Rattle.std.proofs.lemmas.Bool.{OnTrue_at, OnFalse_at}
use Rattle.dom_history.specs.declared.op.Reply.{Reply}
use Rattle.uid_names.specs.declared.limits.TheConstants.{PAGE_BYTES}
use Rattle.uid_names.proofs.Failures.{on-any-err}
use Rattle.fault_handler.specs.Changes.{with_stored, with_end}
use Rattle.fault_handler.proofs.Beginning.{store-allowed}
use Rattle.fault_handler.proofs.Locally.{held-as, writes-as, refused-by, store-unheld, store-unwritable, store-past, store-here, store-done, store-misses}
use Rattle.fault_handler.proofs.desk.Desk.store.Goals as goal

pub store_page-requires : goal.store_page-requires
store_page-requires c =
    let d = c.args.self.now in
    let held = held-as c.lock_state-state.ensures c.is_held.ensures c.if-not-is_held.false in
    let writes = writes-as c.lock_state-state.ensures c.may_write.ensures c.if-not-may_write.false in
    let inside = sym c.ends_past_room.ensures ∙ c.if-ends_past_room.false in
    let allowed =
    store-allowed d c.args.proc.number c.kept.ensures.desk c.kept.ensures.process c.requires.idle c.args.uid c.args.offset c.args.bytes.now c.requires.some c.requires.within held writes inside in
    record {
      within = subst (λ (bs : List ℕ). c.args.offset % PAGE_BYTES + length bs ≤ PAGE_BYTES) (sym c.bytes.ensures) c.requires.within;
      page = allowed.range.page;
      writes = allowed.mode;
    }

pub returns-then-not-is_held : goal.returns-then-not-is_held
returns-then-not-is_held c =
    let held = held-as c.lock_state-state.ensures c.is_held.ensures c.if-not-is_held.true in
    record { outcome = refused-by c.args.proc.number c.args.self.now _ Reply.NoLock refl (store-unheld c.args.self.now c.args.proc.number c.args.uid c.args.offset c.args.bytes.now held); unchanged = tt }

pub returns-then-not-may_write : goal.returns-then-not-may_write
returns-then-not-may_write c =
    let held = held-as c.lock_state-state.ensures c.is_held.ensures c.if-not-is_held.false in
    let writes = writes-as c.lock_state-state.ensures c.may_write.ensures c.if-not-may_write.true in
    record { outcome = refused-by c.args.proc.number c.args.self.now _ Reply.WrongMode refl (store-unwritable c.args.self.now c.args.proc.number c.args.uid c.args.offset c.args.bytes.now held writes); unchanged = tt }

pub returns-then-ends_past_room : goal.returns-then-ends_past_room
returns-then-ends_past_room c =
    let held = held-as c.lock_state-state.ensures c.is_held.ensures c.if-not-is_held.false in
    let writes = writes-as c.lock_state-state.ensures c.may_write.ensures c.if-not-may_write.false in
    let past = sym c.ends_past_room.ensures ∙ c.if-ends_past_room.true in
    record { outcome = refused-by c.args.proc.number c.args.self.now _ Reply.PastRoom refl (store-past c.args.self.now c.args.proc.number c.args.uid c.args.offset c.args.bytes.now held writes past); unchanged = tt }

pub returns-then-store_page : goal.returns-then-store_page
returns-then-store_page c =
    let d = c.args.self.now in
    let held = held-as c.lock_state-state.ensures c.is_held.ensures c.if-not-is_held.false in
    let writes = writes-as c.lock_state-state.ensures c.may_write.ensures c.if-not-may_write.false in
    let inside = sym c.ends_past_room.ensures ∙ c.if-ends_past_room.false in
    let here = store-here d c.args.proc.number c.args.uid c.args.offset c.args.bytes.now held writes inside in
    let stored =
    subst (λ (bs : List ℕ). c.store_page.new.self ≡ with_end (with_stored d c.args.uid (c.args.offset / PAGE_BYTES) (c.args.offset % PAGE_BYTES) bs) c.args.uid (c.args.offset + length bs)) c.bytes.ensures
    (OnTrue_at c.if-store_page.true c.store_page.ensures.stored) in
    record {
      outcome = store-done d c.args.proc.number c.args.uid c.args.offset c.args.bytes.now c.store_page.new.self here stored (sym c.if-store_page.true ∙ c.store_page.ensures.resident);
      unchanged = tt;
    }

pub returns-in_err-copy-clause-unchanged : goal.returns-in_err-copy-clause-unchanged
returns-in_err-copy-clause-unchanged c = on-any-err c.from_residual.result (OnFalse_at c.if-store_page.false c.store_page.ensures.left)

pub returns : goal.returns
returns c =
    let d = c.args.self.now in
    let held = held-as c.lock_state-state.ensures c.is_held.ensures c.if-not-is_held.false in
    let writes = writes-as c.lock_state-state.ensures c.may_write.ensures c.if-not-may_write.false in
    let inside = sym c.ends_past_room.ensures ∙ c.if-ends_past_room.false in
    let here = store-here d c.args.proc.number c.args.uid c.args.offset c.args.bytes.now held writes inside in
    let allowed =
    store-allowed d c.args.proc.number c.kept.ensures.desk c.kept.ensures.process c.requires.idle c.args.uid c.args.offset c.args.bytes.now c.requires.some c.requires.within held writes inside in
    record {
      outcome =
          store-misses d c.args.proc.number c.args.uid c.args.offset c.args.bytes.now c.store_page.new.self c.in_ok-copy.copy c.in_ok-copy.ensures allowed here
          (OnFalse_at c.if-store_page.false c.store_page.ensures.left) (OnFalse_at c.if-store_page.false c.store_page.ensures.absent);
      unchanged = tt;
    }
