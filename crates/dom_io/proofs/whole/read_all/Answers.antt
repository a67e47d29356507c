use Rattle.std.proofs.Common.{◌++◌, take, arith}
use Rattle.std.proofs.lemmas.Grind.{common_steps}
use Rattle.dom_io.proofs.KnownLemmas.{prepend_known-append}
use Rattle.dom_io.proofs.whole.read_all.Goals as goal

-- what was read before, and then what the last read gave
pub returns-then-is_err-clause-taken : goal.returns-then-is_err-clause-taken
returns-then-is_err-clause-taken g c =
    let last = take c.in-Some.count c.read.new.buf in
    let joined = prepend_known-append c.loop-taken.list last (g.S.Source.left c.read.new.self) in
    (c.loop-taken.list ++ last, grind (arith, common_steps), cc (joined, c.in-Some.ensures.taken))
