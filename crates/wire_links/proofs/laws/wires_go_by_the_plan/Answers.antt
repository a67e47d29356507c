use Rattle.std.proofs.Common.{ap}
use Rattle.dom_history.specs.Plans.{fate_of, fate_or_pass}
use Rattle.wire_links.proofs.Keeping.{wire-alike}
use Rattle.wire_links.proofs.laws.wires_go_by_the_plan.Goals as goal

pub returns : goal.returns
returns c plan rows from to xs are = wire-alike (fate_of rows from to) (fate_of plan from to) (λ index. ap fate_or_pass (are.fates index)) xs
