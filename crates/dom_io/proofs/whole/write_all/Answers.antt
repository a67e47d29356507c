use Rattle.std.proofs.Common.{◌≡◌, ◌-◌, length, arith, take, drop}
use Rattle.std.proofs.lemmas.Grind.{common_steps}
use Rattle.dom_io.proofs.KnownLemmas.{append_known-take}
use Rattle.dom_io.proofs.whole.write_all.Goals as goal

pub loop-done-preserved : goal.loop-done-preserved
loop-done-preserved g c =
    let bytes = c.args.bytes.now in
    let piece : take (length bytes - c.loop-done.done) (drop c.loop-done.done bytes) ≡ drop c.loop-done.done bytes = grind (arith, common_steps) in
    let joined = append_known-take (g.O.Sink.held c.args.sink.now) bytes c.loop-done.done c.in-Some.count in
    record {
      within = grind (arith, common_steps);
      held = rw (c.in-Some.ensures.added, c.loop-done.invariant.held, piece) joined;
      count = omega arith;
    }
