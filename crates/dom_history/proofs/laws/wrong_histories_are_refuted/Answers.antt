use Rattle.std.proofs.Common.{[], ◌≤◌, ◌≡◌, false, true, refl, arith}
use Rattle.uid_names.specs.declared.mode.Mode.TheVariants.{Write}
use Rattle.dom_history.specs.declared.op.Op.TheVariants.{Lock, Unlock}
use Rattle.dom_history.specs.declared.op.Reply.TheVariants.{Fine}
use Rattle.dom_history.specs.Histories.{Item, Pending}
use Rattle.dom_history.specs.Samples.{p, y, at, entry, locked_in}
use Rattle.std.proofs.lemmas.List.Elements.{All-head}
use Rattle.dom_history.proofs.laws.wrong_histories_are_refuted.Goals as goal

pub returns-clause-phases_fall : goal.returns-clause-phases_fall
returns-clause-phases_fall c = λ l. let falls : 2 ≤ 1 = All-head (λ f. f.phase ≤ 1) (locked_in 2 (at 2 1)) [] l.0 in omega (arith, falls)

-- an open operation, where a list is asked for one that it has not
an_open : Pending
an_open = record { begun = at 5 1; proc = p; op = Unlock y }

an_item : Item
an_item = entry (at 10 2) p (Lock y Write) Fine

pub returns-clause-opens_meet : goal.returns-clause-opens_meet
returns-clause-opens_meet c = λ l. let meet : false ≡ true = l.opens_apart 0 1 an_open (omega arith) (omega arith) in grind (arith, meet)

pub returns-clause-answered_behind_open : goal.returns-clause-answered_behind_open
returns-clause-answered_behind_open c = λ l. let behind : false ≡ true = l.open_last 0 an_open (omega arith) 0 an_item (omega arith) refl in grind (arith, behind)
