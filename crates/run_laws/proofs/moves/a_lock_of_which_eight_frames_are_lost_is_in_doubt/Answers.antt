use Rattle.run_laws.proofs.DoubtfulRun.{setup-is, picked, planned, history}
use Rattle.run_laws.proofs.moves.a_lock_of_which_eight_frames_are_lost_is_in_doubt.Goals as goal

pub returns : goal.returns
returns c = record { setup = setup-is; picked = picked; planned = planned; history = history }
