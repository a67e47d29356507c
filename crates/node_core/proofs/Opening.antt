-- The open operation of a process that a machine keeps.
use Rattle.std.proofs.Common.{◌≡◌, ℕ, ◌-◌, ◌<◌, Bool, List, map, length, get_or, Option, Some, None, IsSome, refl, sym, ap, subst, ◌∙◌, arith}
use Rattle.uid_names.specs.Names.{IsProcNumber}
use Rattle.dom_history.specs.declared.op.Op.{Op}
use Rattle.dom_history.specs.declared.op.Want.{Want}
use Rattle.dom_history.specs.declared.op.Want.TheVariants.{Do, Phase, Done}
use Rattle.ring_messages.specs.Bodies.{Ask}
use Rattle.fault_handler.specs.Desks.{at}
use Rattle.node_runs.specs.NodeStates.{Asked, Await, OpenOp, first_proc, proc_of}
use Rattle.node_runs.specs.Agreements.{Agrees, IsDoing, IsCalling, IsOpenCall}
use Rattle.node_runs.specs.Following.{IsWanted as WantedIn}
use Rattle.node_core.specs.declared.machine.Machine.{Machine}
use Rattle.node_core.specs.declared.processes.Open.{Open}
use Rattle.node_core.specs.declared.processes.Proc.{Proc}
use Rattle.node_core.specs.Processes.{open_in, open_seen, doing_of, proc_seen, want_at, IsWanted}
use Rattle.node_core.specs.Programs.{program_in}
use Rattle.node_core.specs.Machines.{state_of, IsBefore}
use Rattle.node_core.specs.Calls.{IsInCall}
use Rattle.node_core.proofs.Seen.{seen-at, want-there}
use Rattle.node_core.proofs.Leading.{told-some}
use Rattle.node_core.proofs.Calling.{one-op}

-- the process that stands there
module _ (qs : List Proc) (i p : ℕ) (q d : Proc) (four : length qs ≡ 4) (bound : i < 4) (at_p : i ≡ p - 1) (is : q ≡ get_or qs i d) where
  inside : i < length qs
  inside = omega (arith, four, bound)

  pub seen-here : at (map proc_seen qs) p first_proc ≡ proc_seen q
  seen-here = ap (λ k. get_or (map proc_seen qs) k first_proc) (sym at_p) ∙ seen-at qs i d inside ∙ ap proc_seen (sym is)

  pub wants-here : want_at qs p ≡ q.want
  wants-here = ap (λ k. get_or (map (λ (x : Proc). x.want) qs) k Phase) (sym at_p) ∙ want-there qs i d inside ∙ ap (λ (x : Proc). x.want) (sym is)

-- what is open is what is wanted
opened-by : (w : Want) (o : Option Open) (ask : Ask) (x : Open) → open_in w o ≡ Some x → (op : Op) × (w ≡ Do op) × (doing_of w o ask ≡ Some (open_seen op x ask))
opened-by (Do op) None ask x is = absurd (cc)
opened-by (Do op) (Some y) ask x is = (op, refl, let same : y ≡ x = cc in ap (λ z. Some (open_seen op z ask)) same)
opened-by Phase o ask x is = absurd (cc)
opened-by Done o ask x is = absurd (cc)

pub opened-as : (q : Proc) (x : Open) → open_in q.want q.opened ≡ Some x → (op : Op) × (q.want ≡ Do op) × ((proc_seen q).doing ≡ Some (open_seen op x q.asked))
opened-as q x is = opened-by q.want q.opened q.asked x is

closed-by : (w : Want) (o : Option Open) (ask : Ask) → open_in w o ≡ None → doing_of w o ask ≡ None
closed-by (Do op) None ask is = refl
closed-by (Do op) (Some y) ask is = absurd (cc)
closed-by Phase o ask is = refl
closed-by Done o ask is = refl

pub closed-as : (q : Proc) → open_in q.want q.opened ≡ None → (proc_seen q).doing ≡ None
closed-as q is = closed-by q.want q.opened q.asked is

module _ {P G : Type 0} (spent : P → Bool) (wants : P → Want) (old : Machine P G) (before : IsBefore spent wants old) (p : ℕ) (proc : IsProcNumber p) (x : OpenOp) (doing : (proc_of (state_of old) p).doing ≡ Some x) where
  pub agrees-open : Agrees old.desk p (proc_of (state_of old) p).last (Some x)
  agrees-open = subst (Agrees old.desk p (proc_of (state_of old) p).last) doing (before.node.agrees p proc)

  -- it is what is wanted
  pub wanted-open : want_at old.procs p ≡ Do x.began.op
  wanted-open = subst (WantedIn (want_at old.procs p)) doing (before.node.followed p proc).wanted

  -- it has a program
  pub program-open : IsSome (program_in old.programs.items p)
  program-open = told-some spent wants (program_in old.programs.items p) (want_at old.procs p) x.began.op (before.within.told p proc) wanted-open

  pub range-open : IsWanted (want_at old.procs p)
  range-open = subst IsWanted (sym wanted-open) agrees-open.0

  -- it asks a home
  module _ (c : Asked) (asks : x.awaits ≡ Await.Answer c) where
    doing-call : IsCalling old.desk p x.began.op c.ask × IsOpenCall old.desk.nodes (proc_of (state_of old) p).last c
    doing-call = subst (IsDoing old.desk p (proc_of (state_of old) p).last x.began.op) asks agrees-open.1

    pub call-open : (op : Op) → want_at old.procs p ≡ Do op → IsInCall old.desk p op
    call-open op want = subst (IsInCall old.desk p) (one-op (want_at old.procs p) x.began.op op wanted-open want) (c.ask, doing-call.0)

    pub call-stands : IsOpenCall old.desk.nodes (proc_of (state_of old) p).last c
    call-stands = doing-call.1
