use Rattle.std.proofs.Common.{◌≡◌, arith}
use Rattle.std.proofs.lemmas.List.{length-replicate}
use Rattle.uid_names.specs.declared.limits.TheConstants.{PROCESSES}
use Rattle.call_once.proofs.KeptCalls.{calls_in-replicate}
use Rattle.call_once.proofs.served.Served.new.Goals as goal

pub invariant_of-result : goal.invariant_of-result
invariant_of-result g c =
    let all : c.loop-place._place ≡ PROCESSES = omega arith in
    rw (c.loop-place.invariant, length-replicate) all

pub returns : goal.returns
returns g c = rw c.loop-place.invariant (calls_in-replicate 0 c.loop-place._place)
