use Rattle.script_runs.specs.Setups.{setup_of}
use Rattle.script_runner.specs.Nodes.{made_shell}
use Rattle.run_views.proofs.views.note_sent.Goals as goal

pub frame-requires : goal.frame-requires
frame-requires c = let r = c.requires.done in let s = c.args.script.now in record { stands = (made_shell s, setup_of s, r.1.world, r.1.stands) }
