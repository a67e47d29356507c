use Rattle.std.proofs.Common.{◌∙◌}
use Rattle.script_runner.proofs.run.run_script.Goals as goal

pub returns-clause-ran : goal.returns-clause-ran
returns-clause-ran g c =
    let ran = c.in_ok-ran.ensures.ran in
    record {
      events = ran.events;
      world = ran.world;
      run = ran.run;
      picked = ran.picked;
      below = ran.below;
      one_store = ran.one_store;
      mailboxes = ran.mailboxes;
      recent = ran.recent;
      by_place = c.in_ok-to_list.ensures ∙ ran.by_place;
      answered = ran.answered;
    }
