use Rattle.std.proofs.Common.{◌≤◌, sym, rules, arith}
use Rattle.journal_text.proofs.Fields.{node-named, node-none}
use Rattle.journal_text.proofs.reading.fields.node.Goals as goal

pub returns-in_err-node-clause-value : goal.returns-in_err-node-clause-value
returns-in_err-node-clause-value c = let none = node-none c.args.names.now c.args.word.now c.in_err-node.ensures in search (rules, none)

pub returns-clause-value : goal.returns-clause-value
returns-clause-value c =
    let low : 1 ≤ c.in_ok-node.node = omega (arith, c.number-number.ensures.value, c.number-number.ensures.least) in
    sym (node-named c.args.names.now c.in_ok-node.node c.args.word.now c.len-count.ensures.names low c.in_ok-node.ensures)
