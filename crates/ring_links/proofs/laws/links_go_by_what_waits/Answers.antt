use Rattle.ring_links.proofs.Plain.{plain-frame, plain-mark, plain-less}
use Rattle.ring_links.proofs.laws.links_go_by_what_waits.Goals as goal

pub returns : goal.returns
returns g c = record { frame = plain-frame; mark = plain-mark; less = plain-less }
