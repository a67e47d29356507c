use Rattle.lock_validate.proofs.GoesHome.{goes-home}
use Rattle.lock_validate.proofs.laws.a_page_in_transit_is_moved_by_one_process.Goals as goal

pub returns : goal.returns
returns c = record { moved = λ d u k is there transit. goes-home d is u k there transit; alone = λ d is. is.moved.apart }
