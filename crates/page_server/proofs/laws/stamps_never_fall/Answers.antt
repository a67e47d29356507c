use Rattle.page_server.proofs.Rising.{stamps-rise}
use Rattle.page_server.proofs.laws.stamps_never_fall.Goals as goal

pub returns : goal.returns
returns c = stamps-rise
