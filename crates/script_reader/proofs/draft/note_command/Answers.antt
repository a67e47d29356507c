use Rattle.std.proofs.Common.{ap, sym}
use Rattle.std.proofs.lemmas.Result.{on_ok_weaker}
use Rattle.std.specs.Prelude.{bytes_eq}
use Rattle.script_reader.specs.declared.command.Command.TheVariants.{New, Bind}
use Rattle.script_reader.proofs.Held.{named-new}
use Rattle.script_reader.proofs.draft.note_command.Goals as goal

pub returns-in-New-clause-ok : goal.returns-in-New-clause-ok
returns-in-New-clause-ok c =
    rw c.in-New.is (on_ok_weaker c.add.result (λ own commands phase held.
    named-new c.args.named.now c.add.new.self commands (record { proc = c.args.proc; phase = phase; command = New c.in-New.var c.in-New.room c.in-New.home }) c.bytes.result.now held c.add.ensures.proc
    (λ var. ap (λ name. bytes_eq name var) (sym c.bytes.ensures)) own c.add.ensures.others) c.add.ensures.own)

pub returns-in-Bind-clause-ok : goal.returns-in-Bind-clause-ok
returns-in-Bind-clause-ok c =
    rw c.in-Bind.is (on_ok_weaker c.add-in-Bind.result (λ own commands phase held.
    named-new c.args.named.now c.add-in-Bind.new.self commands (record { proc = c.args.proc; phase = phase; command = Bind c.in-Bind.var c.in-Bind.path }) c.bytes-in-Bind.result.now held c.add-in-Bind.ensures.proc
    (λ var. ap (λ name. bytes_eq name var) (sym c.bytes-in-Bind.ensures)) own c.add-in-Bind.ensures.others) c.add-in-Bind.ensures.own)
