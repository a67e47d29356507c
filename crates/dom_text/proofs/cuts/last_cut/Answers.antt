use Rattle.std.proofs.Common.{rules}
use Rattle.std.proofs.lemmas.List.{take_rest}
use Rattle.dom_text.proofs.Cutting.{last-at}
use Rattle.dom_text.proofs.cuts.last_cut.Goals as goal

pub returns-in-Some : goal.returns-in-Some
returns-in-Some c =
    let text = c.args.text.now in
    let found = last-at c.args.byte text c.in-Some.at (search rules) (search rules) (search rules) in
    record { whole = rw take_rest found.whole; last = rw take_rest found.last }
