-- What is so of a world of a run, by the laws below; and that one node writes.
use Rattle.std.proofs.Common.{◌≡◌, ℕ, true, false, List, Some, subst, ◌∙◌, arith}
use Rattle.std.specs.Prelude.{◌==◌}
use Rattle.std.proofs.lemmas.Bool.Decides.{nat_tests}
use Rattle.uid_names.specs.Names.{ProcName, ObjectName, same_proc}
use Rattle.uid_names.specs.Modes.{modes_clash}
use Rattle.uid_names.specs.declared.mode.Mode.{Mode}
use Rattle.uid_names.proofs.Codes.{writes-together}
use Rattle.uid_names.proofs.ListLemmas.{by_cases}
use Rattle.dom_history.specs.Objects.{is_node}
use Rattle.lock_manager.specs.Grants.{grant_of}
use Rattle.lock_manager.specs.Tables.{Table, IsTable}
use Rattle.lock_manager.proofs.Conflicts.{holders-compatible}
use Rattle.page_server.specs.Decisions.{is_granted}
use Rattle.node_runs.specs.Setups.{Setup, IsSetup, given}
use Rattle.node_runs.specs.NodesKeep.{IsNodeOf, IsTimely}
use Rattle.node_runs.specs.Runs.{World, Choice, world_after}
use Rattle.node_runs.specs.DecidedCalls.{AreDecisions}
use Rattle.node_runs.proofs.Running.{run-keeps}
use Rattle.node_runs.specs.CallsKeep.{IsCallAt, IsOpenAt, AreCalls}
use Rattle.ring_messages.specs.Bodies.{Ask, Answer}
use Rattle.node_runs.proofs.Calls.{calls-are}
use Rattle.node_runs.proofs.Decisions.{decisions-are}
use Rattle.node_runs.proofs.SettingUp.{setup-procs}
use Rattle.run_laws.specs.DecidedReplies.{proc_at}
use Rattle.run_laws.specs.AskedHomes.{AreOpenAtHomes, AreCallsAtHomes}
use Rattle.run_laws.specs.OpenCalls.{AreCarried}
use Rattle.run_laws.proofs.AskedHomes.{opens-at-homes, calls-at-homes}
use Rattle.run_laws.proofs.OpenCalls.{runs-carry}
use Rattle.run_laws.specs.LiveLocks.{row_at, locks_of, AreLive}
use Rattle.run_laws.proofs.LiveRun.{live-are}
use Rattle.run_laws.proofs.Standing.{table-now, row-there, held-grant}
use Rattle.run_laws.specs.Items.{Item, Value, Write, write_of}
use Rattle.run_laws.specs.Stamps.{IsThere, IsStampOf, TellsItem, TellsWritten, AreStamped}
use Rattle.run_laws.specs.Writes.{IsAcknowledged}
use Rattle.run_laws.proofs.Decisions.{IsWriter, granted-row}
use Rattle.run_laws.proofs.Gone.{AreGone, gone-are}
use Rattle.run_laws.proofs.WriteCalls.{AreGiven, given-are}
use Rattle.run_laws.proofs.Traces.{told-of, stamps-told}

pub record IsLawful (s : Setup) (w : World) : Type 0 where
  pub nodes : (n : ℕ) → is_node s.opening n ≡ true → IsNodeOf (given s n) (w.nodes n)
  pub decisions : AreDecisions w
  pub made : AreCalls w
  pub opened : (n : ℕ) → is_node s.opening n ≡ true → AreOpenAtHomes (w.nodes n)
  pub calls : AreCallsAtHomes w
  pub carried : (n : ℕ) → is_node s.opening n ≡ true → AreCarried (w.nodes n)
  pub live : AreLive w
  pub tables : (a : ℕ) → IsTable (locks_of w a)
  pub rows : (p : ProcName) (u : ObjectName) (a : Mode × ℕ) → row_at (locks_of w) p u ≡ Some a → IsThere w u
  pub gone : AreGone w
  pub given : AreGiven s w
  pub stamped : AreStamped s w

pub lawful : (s : Setup) (setup : IsSetup s) (cs : List Choice) (w : World) → world_after s cs ≡ Some w → IsTimely w → AreStamped s w → IsLawful s w
lawful s setup cs w e timely stamped = record {
  nodes = ((run-keeps s setup cs w e).kept timely).nodes;
  decisions = decisions-are s (setup-procs s setup) cs w e;
  made = calls-are s (setup-procs s setup) cs w e;
  opened = opens-at-homes s setup cs w e timely;
  calls = calls-at-homes s setup cs w e timely;
  carried = runs-carry s setup cs w e timely;
  live = live-are s setup cs w e timely;
  tables = table-now s setup cs w e timely;
  rows = row-there s setup cs w e timely;
  gone = gone-are s setup cs w e timely;
  given = given-are s setup cs w e timely;
  stamped = stamped;
}

-- one node writes: where a process of one node has a row, no other node writes the object
pub one-writer : (locks : ℕ → Table) (a p b : ℕ) (u : ObjectName) (m : Mode) (grant number : ℕ) → IsTable (locks u.home) → row_at locks (proc_at a p) u ≡ Some (m, grant) → is_granted (locks u.home) number u b ≡ true → a ≡ b
one-writer locks a p b u m grant number table row granted = by_cases (a == b) (a ≡ b) (λ h. grind (arith, nat_tests, h))
    (λ differs.
    let w : IsWriter (locks u.home).grants number u b = granted-row number u b (locks u.home).grants table.rising granted in
    let x = held-grant (grant_of (proc_at a p) u (locks u.home).grants) m grant row in
    let y = held-grant (grant_of w.proc u (locks u.home).grants) w.mode number w.row in
    let apart : same_proc (proc_at a p) w.proc ≡ false = (let at = w.at in grind (arith, nat_tests, differs, at)) in
    let free : modes_clash (proc_at a p) m w.proc w.mode ≡ false =
    subst (λ k. modes_clash (proc_at a p) m w.proc k ≡ false) y.2 (subst (λ k. modes_clash (proc_at a p) k w.proc y.0.row.mode ≡ false) x.2 (holders-compatible (proc_at a p) w.proc u (locks u.home).grants x.0 y.0 table.compatible x.1 y.1 apart)) in
    let together = writes-together (proc_at a p) m w.proc w.mode w.writes free in
    together.1.1 ∙ w.at)

-- what the home told of an open write that it took is a stamp of its object
pub tells-stored : (w : World) (ask : Ask) (written : Write) (t : ℕ) → write_of ask ≡ Some written → TellsItem w ask (Answer.Stored t) → IsStampOf w written.uid t
tells-stored w (Ask.PageOut u k grant base bytes) written t is tells = subst (λ o. TellsWritten w o (Answer.Stored t)) is tells
tells-stored w (Ask.AttrOut u n grant base) written t is tells = subst (λ o. TellsWritten w o (Answer.Stored t)) is tells
tells-stored w (Ask.PageIn u k) written t is tells = absurd (cc)
tells-stored w (Ask.Lock u m) written t is tells = absurd (cc)
tells-stored w (Ask.Unlock u) written t is tells = absurd (cc)
tells-stored w (Ask.Remove u) written t is tells = absurd (cc)
tells-stored w (Ask.Make kind room) written t is tells = absurd (cc)
tells-stored w (Ask.ListLocks from) written t is tells = absurd (cc)

pub ack-stamp : (s : Setup) (w : World) → IsLawful s w → (a p : ℕ) (u : ObjectName) (x : Item) (v : Value) (t : ℕ) → IsAcknowledged w a p u x v t → IsStampOf w u t
ack-stamp s w law a p u x v t ack =
    let call : IsCallAt (w.calls a p) ack.open_call.waiting.number ack.open_call.home ack.open_call.ask = subst (IsOpenAt (w.calls a p)) ack.doing (law.made.opened a p ack.owner) in
    tells-stored w ack.open_call.ask (record { uid = u; item = x; value = v; grant = ack.grant; base = ack.base }) t ack.writes
    (told-of w (TellsItem w) (proc_at a p) ack.open_call.waiting.number ack.open_call.home ack.open_call.ask call u.home (Answer.Stored t) w.trace ack.answered law.decisions.each (stamps-told w w.trace law.stamped.told))
