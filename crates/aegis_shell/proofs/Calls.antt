-- What is known of a command's turn behind the calls that make it.
use Rattle.std.proofs.Common.{◌≡◌, ℕ, Bool, Option, Some, None, List, refl, ap, ◌∙◌, sym, subst}
use Rattle.std.specs.Prelude.{◌≢◌, Result, Ok, Err, IfOk, codes}
use Rattle.std.proofs.lemmas.Result.{IfOk-weaker}
use Rattle.uid_names.specs.Names.{ObjectName}
use Rattle.uid_names.specs.declared.lock_row.LockRow.{LockRow}
use Rattle.dom_history.specs.Ranges.{IsNodeNumber}
use Rattle.dom_history.specs.declared.op.Op.{Op}
use Rattle.dom_history.specs.declared.op.Op.TheVariants as ops
use Rattle.dom_history.specs.declared.op.Reply.{Reply}
use Rattle.dom_history.specs.declared.op.Reply.TheVariants.{Locks}
use Rattle.script_reader.specs.declared.command.Command.{Command}
use Rattle.script_reader.specs.declared.command.Command.TheVariants.{Llkob}
use Rattle.aegis_shell.specs.States.{Going, Comes, begins, on_list}
use Rattle.aegis_shell.specs.Turns.{going, AsksIn}
use Rattle.aegis_shell.specs.Work.{Part}
use Rattle.command_talks.specs.declared.outcome.Outcome.TheVariants.{Replied, Written}
use Rattle.aegis_shell.specs.declared.stage.Stage.TheVariants.{Lists}
use Rattle.aegis_shell.specs.declared.stage.Turn.{Turn}
use Rattle.aegis_shell.specs.declared.stage.Turn.TheVariants as turns
use Rattle.aegis_shell.specs.declared.working.Working.{Working}

-- a turn that leads there leads to what is the same
pub leads_same : {E : Type 0} (result : Result Turn E) (there same : Going) → IfOk result (λ turn. going turn ≡ there) → there ≡ same → IfOk result (λ turn. going turn ≡ same)
leads_same result there same leads e = IfOk-weaker result (λ turn. going turn ≡ there) (λ turn. going turn ≡ same) (λ turn h. h ∙ e) leads

-- so does one that is known
pub leads_by : {E : Type 0} (result : Result Turn E) (made : Turn) (same : Going) → IfOk result (λ turn. turn ≡ made) → going made ≡ same → IfOk result (λ turn. going turn ≡ same)
leads_by result made same is e = IfOk-weaker result (λ turn. turn ≡ made) (λ turn. going turn ≡ same) (λ turn h. ap going h ∙ e) is

-- what asks in every list asks in this one
pub asks_any : {E : Type 0} (list : Option (List Op)) (result : Result Turn E) → IfOk result (λ turn. (list : Option (List Op)) → AsksIn list turn) → IfOk result (AsksIn list)
asks_any list result asks = IfOk-weaker result (λ turn. (list : Option (List Op)) → AsksIn list turn) (AsksIn list) (λ turn h. h list) asks

-- the end of a command asks nothing
pub ends_asking : {E : Type 0} (list : Option (List Op)) (result : Result Turn E) (text : List ℕ) → IfOk result (λ turn. turn ≡ turns.Comes (Written text)) → IfOk result (AsksIn list)
ends_asking list result text is = IfOk-weaker result (λ turn. turn ≡ turns.Comes (Written text)) (AsksIn list) (λ turn h. subst (AsksIn list) (sym h) tt) is

pub replies_asking : {E : Type 0} (list : Option (List Op)) (result : Result Turn E) (reply : Reply) → IfOk result (λ turn. turn ≡ turns.Comes (Replied reply)) → IfOk result (AsksIn list)
replies_asking list result reply is = IfOk-weaker result (λ turn. turn ≡ turns.Comes (Replied reply)) (AsksIn list) (λ turn h. subst (AsksIn list) (sym h) tt) is

-- a list of locks begins
abbrev pub listing : ℕ → Turn
listing home = turns.Goes (Lists home None (codes "ok")) (ops.List home None)

pub list_asks : {E : Type 0} (list : Option (List Op)) (home : ℕ) (result : Result Turn E) → IfOk result (λ turn. turn ≡ listing home) → IfOk result (λ turn. IsNodeNumber home) → IfOk result (AsksIn list)
list_asks list home (Ok turn) is number = subst (AsksIn list) (sym is) (refl, (number, tt))
list_asks list home (Err e) is number = tt

pub list_begins : (part : Part) (working : Working) (uid : Option ObjectName) (command : Command) (home : ℕ) → command ≡ Llkob home → going (listing home) ≡ begins part working uid command
list_begins part working uid command home e = ap (begins part working uid) (sym e)

-- one that is told another reply than rows ends with it
pub other_ends : (names : List (List ℕ)) (home : ℕ) (text : List ℕ) (reply : Reply) → ((rows : List LockRow) (more : Bool) → reply ≢ Locks rows more) → Comes (Replied reply) ≡ on_list names home text (Some reply)
other_ends names home text (Locks rows more) other = absurd (other rows more refl)
other_ends names home text reply other = refl
