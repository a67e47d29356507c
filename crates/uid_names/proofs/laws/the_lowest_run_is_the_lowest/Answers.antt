use Rattle.uid_names.specs.Segments.{is_free_run, starts_from}
use Rattle.uid_names.proofs.Finds.{find-passes}
use Rattle.uid_names.proofs.Runs.{find-starts_lowest, find-starts_none}
use Rattle.uid_names.proofs.laws.the_lowest_run_is_the_lowest.Goals as goal

pub returns-clause-free : goal.returns-clause-free
returns-clause-free c = λ count first taken found. find-passes (λ k. is_free_run count k taken) (starts_from 0) first found

pub returns-clause-lowest : goal.returns-clause-lowest
returns-clause-lowest c = λ count first taken found lower below. find-starts_lowest (λ k. is_free_run count k taken) first found lower below

pub returns-clause-none : goal.returns-clause-none
returns-clause-none c = λ count taken none first below. find-starts_none (λ k. is_free_run count k taken) none first below
