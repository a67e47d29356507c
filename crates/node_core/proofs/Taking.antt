-- A reply is taken: which operation it is for, if it is for one.
use Rattle.std.proofs.Common.{◌≡◌, ℕ, ◌-◌, ◌<◌, ◌==◌, Bool, true, false, List, [], get_or, Option, Some, None, IsSome, refl, sym, ap, subst, ◌∙◌}
use Rattle.uid_names.specs.Names.{ObjectName, IsProcNumber}
use Rattle.dom_history.specs.declared.op.Op.{Op}
use Rattle.dom_history.specs.declared.op.Reply.{Reply}
use Rattle.dom_history.specs.declared.op.Want.{Want}
use Rattle.dom_history.specs.declared.op.Want.TheVariants.{Do}
use Rattle.ring_messages.specs.declared.body.Body.{Body}
use Rattle.ring_messages.specs.Frames.{Message}
use Rattle.node_runs.specs.NodeStates.{BegunOp, OpenOp, ProcState, proc_of}
use Rattle.node_runs.specs.Operations.{said_of}
use Rattle.node_runs.specs.Outcomes.{Stepped}
use Rattle.node_runs.specs.Doings.{hears_said, hears_if, hears_at, hears}
use Rattle.node_runs.specs.Steps.{stepped_as_named}
use Rattle.node_core.specs.declared.machine.Machine.{Machine}
use Rattle.node_core.specs.declared.processes.Open.{Open}
use Rattle.node_core.specs.declared.processes.Call.{Call}
use Rattle.node_core.specs.declared.processes.Await.TheVariants as awaits
use Rattle.node_core.specs.declared.processes.Proc.{Proc}
use Rattle.node_core.specs.declared.turns.Done.{Done}
use Rattle.node_core.specs.Processes.{open_in, open_seen, call_seen, await_seen, proc_seen, want_at, IsWanted}
use Rattle.node_core.specs.Programs.{program_in}
use Rattle.node_core.specs.Machines.{given_of, state_of, IsBefore}
use Rattle.node_core.specs.Calls.{IsInCall}
use Rattle.node_core.specs.Outcomes.{Led, Hears}
use Rattle.node_core.proofs.Opening.{seen-here, opened-as, closed-as, program-open, wanted-open, range-open, call-open}
use Rattle.node_core.proofs.Hearing.{nothing, passed-led}

-- what an operation that is open there is
abbrev pub op_there : (q : Proc) (x : Open) → open_in q.want q.opened ≡ Some x → Op
op_there q x opened = (opened-as q x opened).0

module _ {P G : Type 0} (spent : P → Bool) (wants : P → Want) (becomes : P → Option Reply → P) (old : Machine P G) (before : IsBefore spent wants old)
    (i p : ℕ) (q d : Proc) (proc : IsProcNumber p) (bound : i < 4) (at_p : i ≡ p - 1) (is : q ≡ get_or old.procs i d) where
  pub doing-here : (proc_of (state_of old) p).doing ≡ (proc_seen q).doing
  doing-here = ap (λ (x : ProcState). x.doing) (seen-here old.procs i p q d before.within.four bound at_p is)

  -- an operation is open
  module _ (x : Open) (opened : open_in q.want q.opened ≡ Some x) where
    pub doing-open : (proc_of (state_of old) p).doing ≡ Some (open_seen (op_there q x opened) x q.asked)
    doing-open = doing-here ∙ (opened-as q x opened).2

    pub program-there : IsSome (program_in old.programs.items p)
    program-there = program-open spent wants old before p proc (open_seen (op_there q x opened) x q.asked) doing-open

    pub wanted-there : want_at old.procs p ≡ Do (op_there q x opened)
    wanted-there = wanted-open spent wants old before p proc (open_seen (op_there q x opened) x q.asked) doing-open

    pub range-there : IsWanted (want_at old.procs p)
    range-there = range-open spent wants old before p proc (open_seen (op_there q x opened) x q.asked) doing-open

    pub call-there : (call : Call) → x.awaits ≡ awaits.Answer call → (op : Op) → want_at old.procs p ≡ Do op → IsInCall old.desk p op
    call-there call asks = call-open spent wants old before p proc (open_seen (op_there q x opened) x q.asked) doing-open (call_seen call q.asked) (ap (λ a. await_seen a q.asked) asks)

  -- a reply to it
  module _ (m : Message) (caller : p ≡ m.proc) where
    doing-caller : (o : Option OpenOp) → (proc_of (state_of old) p).doing ≡ o → hears (state_of old) m (proc_of (state_of old) m.proc).doing ≡ hears (state_of old) m o
    doing-caller o doing = ap (hears (state_of old) m) (ap (λ k. (proc_of (state_of old) k).doing) (sym caller) ∙ doing)

    -- nothing is open
    pub none-led : (done : Done) (dropped : List (ObjectName × ℕ)) → done ≡ nothing dropped → dropped ≡ [] → open_in q.want q.opened ≡ None
        → (s : Stepped) → stepped_as_named (given_of old) (state_of old) (hears (state_of old) m (proc_of (state_of old) m.proc).doing) ≡ Some s → Led spent wants becomes old old done s
    none-led done dropped quietly none closed =
        passed-led spent wants becomes old p m.body done dropped before.within quietly none _ (doing-caller None (doing-here ∙ closed-as q closed))

    module _ (x : Open) (opened : open_in q.want q.opened ≡ Some x) where
      abbrev begun_there : BegunOp
      begun_there = record { op = op_there q x opened; begun = x.begun }

      at-there : hears (state_of old) m (proc_of (state_of old) m.proc).doing ≡ hears_at (state_of old) m begun_there (await_seen x.awaits q.asked)
      at-there = doing-caller (Some (open_seen (op_there q x opened) x q.asked)) (doing-open x opened)

      -- it waits for a page
      pub page-led : (done : Done) (dropped : List (ObjectName × ℕ)) → done ≡ nothing dropped → dropped ≡ [] → (u : ObjectName) (k : ℕ) → x.awaits ≡ awaits.Page u k
          → (s : Stepped) → stepped_as_named (given_of old) (state_of old) (hears (state_of old) m (proc_of (state_of old) m.proc).doing) ≡ Some s → Led spent wants becomes old old done s
      page-led done dropped quietly none u k waits =
          passed-led spent wants becomes old p m.body done dropped before.within quietly none _ (at-there ∙ ap (λ a. hears_at (state_of old) m begun_there (await_seen a q.asked)) waits)

      module _ (call : Call) (asks : x.awaits ≡ awaits.Answer call) where
        if-there : (b : Bool) → (m.number == call.asking.number) ≡ b → hears (state_of old) m (proc_of (state_of old) m.proc).doing ≡ hears_if b (state_of old) m begun_there
        if-there b fits = at-there ∙ ap (λ a. hears_at (state_of old) m begun_there (await_seen a q.asked)) asks ∙ ap (λ y. hears_if y (state_of old) m begun_there) fits

        -- it is of another call
        pub other-led : (done : Done) (dropped : List (ObjectName × ℕ)) → done ≡ nothing dropped → dropped ≡ [] → (m.number == call.asking.number) ≡ false
            → (s : Stepped) → stepped_as_named (given_of old) (state_of old) (hears (state_of old) m (proc_of (state_of old) m.proc).doing) ≡ Some s → Led spent wants becomes old old done s
        other-led done dropped quietly none unfit = passed-led spent wants becomes old p m.body done dropped before.within quietly none _ (if-there false unfit)

        -- it is of this call
        pub heard-led : (new : Machine P G) (done : Done) (body : Body) → body ≡ m.body → (m.number == call.asking.number) ≡ true → Hears spent wants becomes old new done p x.begun body
            → (s : Stepped) → stepped_as_named (given_of old) (state_of old) (hears (state_of old) m (proc_of (state_of old) m.proc).doing) ≡ Some s → Led spent wants becomes old new done s
        heard-led new done body same fits heard s comes =
            heard (given_of old) (op_there q x opened) m refl refl (wanted-there x opened) (sym caller) s
            (subst (λ b. stepped_as_named (given_of old) (state_of old) (hears_said (state_of old) m begun_there (said_of old.desk p (op_there q x opened) b)) ≡ Some s) (sym same)
            (subst (λ k. stepped_as_named (given_of old) (state_of old) (hears_said (state_of old) m begun_there (said_of old.desk k (op_there q x opened) m.body)) ≡ Some s) (sym caller)
            (subst (λ e. stepped_as_named (given_of old) (state_of old) e ≡ Some s) (if-there true fits) comes)))
