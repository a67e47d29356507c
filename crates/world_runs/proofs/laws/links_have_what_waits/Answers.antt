use Rattle.world_runs.proofs.Linking.{turns-link}
use Rattle.world_runs.proofs.laws.links_have_what_waits.Goals as goal

pub returns : goal.returns
returns c = record {
  frames = λ s plan setup cs w e timely from to. ((turns-link s setup plan cs w e timely).links from to).frames;
  queue = λ s plan setup cs w e timely from to. ((turns-link s setup plan cs w e timely).links from to).queue;
}
