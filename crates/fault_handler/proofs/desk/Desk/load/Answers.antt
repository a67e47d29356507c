use Rattle.std.proofs.Common.{refl, sym, ◌∙◌}
use Rattle.dom_history.specs.declared.op.Reply.{Reply}
use Rattle.fault_handler.proofs.Beginning.{load-allowed}
use Rattle.fault_handler.proofs.Locally.{held-as, refused-by, load-unheld, load-past, load-here, load-done, load-misses}
use Rattle.fault_handler.proofs.desk.Desk.load.Goals as goal

pub returns-then-not-is_held : goal.returns-then-not-is_held
returns-then-not-is_held c =
    let held = held-as c.lock_state.ensures c.is_held.ensures c.if-not-is_held.true in
    record { outcome = refused-by c.args.proc.number c.args.self.now _ Reply.NoLock refl (load-unheld c.args.self.now c.args.proc.number c.args.uid c.args.offset c.args.count held); unchanged = tt }

pub returns-then-ends_past : goal.returns-then-ends_past
returns-then-ends_past c =
    let held = held-as c.lock_state.ensures c.is_held.ensures c.if-not-is_held.false in
    let past = sym c.ends_past.ensures ∙ c.if-ends_past.true in
    record { outcome = refused-by c.args.proc.number c.args.self.now _ Reply.PastEnd refl (load-past c.args.self.now c.args.proc.number c.args.uid c.args.offset c.args.count held past); unchanged = tt }

pub returns-in-Some : goal.returns-in-Some
returns-in-Some c =
    let d = c.args.self.now in
    let held = held-as c.lock_state.ensures c.is_held.ensures c.if-not-is_held.false in
    let here = load-here d c.args.proc.number c.args.uid c.args.offset c.args.count held (sym c.ends_past.ensures ∙ c.if-ends_past.false) in
    record {
      outcome = load-done d c.args.proc.number c.args.uid c.args.offset c.args.count c.load_page.new.self c.in-Some.bytes here c.in-Some.ensures.used c.in-Some.ensures.bytes;
      unchanged = tt;
    }

pub returns-in-None : goal.returns-in-None
returns-in-None c =
    let d = c.args.self.now in
    let held = held-as c.lock_state.ensures c.is_held.ensures c.if-not-is_held.false in
    let inside = sym c.ends_past.ensures ∙ c.if-ends_past.false in
    let here = load-here d c.args.proc.number c.args.uid c.args.offset c.args.count held inside in
    let allowed =
    load-allowed d c.args.proc.number c.kept.ensures.desk c.kept.ensures.process c.requires.idle c.args.uid c.args.offset c.args.count c.requires.some c.requires.within held inside in
    record {
      outcome = load-misses d c.args.proc.number c.args.uid c.args.offset c.args.count c.load_page.new.self allowed here c.in-None.ensures.left c.in-None.ensures.absent;
      unchanged = tt;
    }
