use Rattle.std.proofs.Common.{refl}
use Rattle.page_server.proofs.Listing.{listed}
use Rattle.page_server.proofs.requests.list.Goals as goal

pub new-requires : goal.new-requires
new-requires c = record { answers = refl; ranges = λ to. rw c.in_ok-rows.ensures.rows (listed c.args.after c.args.locks.now.grants c.requires.rising) }
