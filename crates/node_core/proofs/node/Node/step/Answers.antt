use Rattle.std.proofs.Common.{◌≡◌, Bool, true, not, Result, Ok, Err, OnOk, IfOk, sym, subst}
use Rattle.std.proofs.lemmas.Bool.{not-true}
use Rattle.uid_names.proofs.Passed.{left-true, right-true}
use Rattle.node_runs.specs.Incomings.{enabled}
use Rattle.node_runs.specs.Outcomes.{Stepped}
use Rattle.node_runs.proofs.Happening.{enabled-happens}
use Rattle.node_core.specs.Machines as machine
use Rattle.node_core.specs.Machines.{inner_of}
use Rattle.node_core.specs.Nodes.{is_enabled, Stands, Happened}
use Rattle.node_core.specs.Receivings.{seen}
use Rattle.node_core.proofs.Stepping.{happened}
use Rattle.node_core.proofs.node.Node.step.Goals as goal

-- what follows of an answer, where there is one, from all that is known then
all-of : {A E Q R : Type 0} {P S : A → Type 0} (r : Result A E) → IfOk r P → OnOk r Q → OnOk r R → ((x : A) → P x → Q → R → S x) → IfOk r S
all-of (Ok x) p q r f = f x p q r
all-of (Err e) p q r f = tt

pub returns-clause-happens : goal.returns-clause-happens
returns-clause-happens g c =
    let old = c.self.inside in
    let m = old.machine in
    let what = c.args.what in
    let inc = seen c.args.incoming.now in
    let passes = subst (λ x. is_enabled x what inc ≡ true) (sym c.self.view_is) c.requires.enabled in
    let may = right-true (not old.spent) (enabled (machine.given_of m) (machine.state_of m) what inc) passes in
    let kept = c.self.invariant (not-true old.spent (left-true (not old.spent) (enabled (machine.given_of m) (machine.state_of m) what inc) passes)) in
    let found = enabled-happens (machine.given_of m) (machine.state_of m) what inc kept.given kept.node c.known.ensures may in
    all-of c.write.result c.write.ensures.emits c.write.ensures.events c.write.ensures.whole (λ emitted emits events whole made given n stands.
    subst (λ x. (t : Stepped) × Happened g.P.Program.wants g.P.Program.becomes made given what inc x (record { inner = inner_of c.happen.new.self; log = c.write.new.log; spent = c.write.new.spent }) emitted n t) c.self.view_is
    (subst (λ (b : Bool). (t : Stepped) × Happened g.P.Program.wants g.P.Program.becomes made given what inc (record { inner = inner_of m; log = old.log; spent = old.spent }) (record { inner = inner_of c.happen.new.self; log = c.write.new.log; spent = b }) emitted n t) (sym whole)
    (happened g.P.Program.spent g.P.Program.wants g.P.Program.becomes m c.happen.new.self old.log c.write.new.log what inc c.happen.new.done emitted found.0 kept may c.known.ensures found.1 found.2
    (c.in_ok-happen.ensures.happens found.0 found.1) emits c.place-place.result c.place-place.ensures events c.write.ensures.node old.spent made given n
    (subst (λ x. Stands g.P.Program.wants g.P.Program.becomes made given x n) (sym c.self.view_is) stands))))
