use Rattle.std.proofs.Common.{rules, ap, sym, ◌∙◌, arith}
use Rattle.uid_names.specs.Names.{place_of_process}
use Rattle.script_reader.specs.Variables.{declared_object}
use Rattle.script_reader.specs.Walk.Index.{list_of}
use Rattle.script_reader.proofs.Held.{tallies-none}
use Rattle.script_reader.proofs.draft.Draft.new.Goals as goal

pub invariant_of-result : goal.invariant_of-result
invariant_of-result c = record {
  draft = search rules;
  starts = search rules;
  declared = λ var. ap (λ rows. declared_object rows var) (c.in_ok-declared.ensures (list_of var) ∙ sym c.new-5.ensures.items);
  named = λ proc is var. rw (c.in_ok-named.ensures (place_of_process proc), c.new-8.ensures.items) (λ none. absurd (omega (arith, none.1)), λ no. absurd cc);
  tallies = rw c.new-4.ensures.items tallies-none;
}
