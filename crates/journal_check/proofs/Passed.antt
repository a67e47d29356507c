-- The events of a journal that came so far, and the line of the next one.
use Rattle.std.proofs.Common.{◌≡◌, ℕ, ◌+◌, ◌<◌, ◌≤◌, Option, List, length, take, arith}
use Rattle.std.specs.Prelude.{◌^◌, reverse}
use Rattle.std.proofs.lemmas.List.{length-reverse, length-take}
use Rattle.dom_history.specs.declared.op.Reply.{Reply}
use Rattle.dom_history.specs.declared.op.Want.{Want}
use Rattle.dom_history.specs.Events.{Happening}
use Rattle.script_reader.specs.Scripts.{Content}
use Rattle.journal_check.specs.declared.places.Places.{Places}
use Rattle.journal_check.specs.Passes.{Made}
use Rattle.journal_check.specs.declared.pass.Pass.{Pass}
use Rattle.journal_check.specs.Passing.{HaveHappened, IsBefore}

pub next-before : {P G : Type 0} (wants : P → Want) (becomes : P → Option Reply → P) (made : Made P) (s : Content) (events : List Happening) (i line : ℕ) (pass : Pass P G) (places : Places)
    → HaveHappened wants becomes made s (reverse (take i events)) pass places → line ≡ i + 1 → i < length events → length events ≤ 2 ^ 40 → IsBefore wants becomes made s (reverse (take i events)) line pass places
next-before wants becomes made s events i line pass places happened line_is low few =
    let back = length-reverse (take i events) in
    let many = length-take i events in
    record {
      happened = happened;
      line_is = omega (arith, line_is, low, back, many);
      few = omega (arith, low, few, back, many);
    }
