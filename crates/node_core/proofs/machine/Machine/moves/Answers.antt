use Rattle.std.proofs.Common.{subst}
use Rattle.std.proofs.lemmas.Result.{IfOk-weaker}
use Rattle.uid_names.specs.Wires.{wire_room}
use Rattle.lock_validate.specs.Bounded.{AsksWithin}
use Rattle.fault_handler.specs.Next.{FitsTurn, IsAsked}
use Rattle.node_core.specs.declared.moves.DeskMove.{DeskMove}
use Rattle.node_core.specs.DeskMoves.{move_seen}
use Rattle.node_core.specs.Processes.{want_at}
use Rattle.node_core.proofs.Turning.{fits-wanted}
use Rattle.node_core.proofs.machine.Machine.moves.Goals as goal

pub ends-requires-clause-fits : goal.ends-requires-clause-fits
ends-requires-clause-fits g c =
    fits-wanted (want_at c.args.self.now.procs c.args.proc.number) c.in-Ends.reply c.requires.wanted
    (λ op is. subst (λ (x : DeskMove). FitsTurn op (move_seen x).turn) c.in-Ends.is (c.requires.fits op is))

pub asks-requires-clause-range : goal.asks-requires-clause-range
asks-requires-clause-range g c = (subst (λ (x : DeskMove). IsAsked c.args.self.now.desk.nodes (move_seen x).turn) c.in-Asks.is c.requires.asks).1

pub asks-requires-clause-within : goal.asks-requires-clause-within
asks-requires-clause-within g c = subst (λ (x : DeskMove). AsksWithin (wire_room c.args.self.now.server.wire) (move_seen x).turn) c.in-Asks.is c.requires.within

pub returns-in-Ends : goal.returns-in-Ends
returns-in-Ends g c = rw c.in-Ends.is (IfOk-weaker c.ends.result _ _ (λ ok h. h c.args.begun) c.ends.ensures)

pub returns-in-Asks : goal.returns-in-Asks
returns-in-Asks g c = rw c.in-Asks.is c.asks.ensures

pub returns-in-Waits : goal.returns-in-Waits
returns-in-Waits g c = rw c.in-Waits.is c.waits.ensures
