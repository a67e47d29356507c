-- Where no event is enabled, each frame of an open call that was lost or is late was told.
use Rattle.std.proofs.Common.{◌≡◌, ℕ, true, false, List, [], ◌∷◌, Option, Some, None, inl, inr, refl, sym, ap, subst, ◌∙◌}
use Rattle.std.specs.Prelude.{◌==◌, not, filter}
use Rattle.std.proofs.lemmas.Bool.{eq-eqb, and_from}
use Rattle.uid_names.proofs.ListLemmas.{by_cases}
use Rattle.uid_names.specs.Names.{ProcName, same_proc}
use Rattle.uid_names.proofs.Orders.{same_proc-itself}
use Rattle.dom_history.specs.declared.event.What.TheVariants.{Notice}
use Rattle.dom_history.specs.declared.plan.FateRow.{FateRow}
use Rattle.dom_history.specs.Objects.{is_node}
use Rattle.fault_handler.specs.Invariant.{IsProc}
use Rattle.ring_messages.specs.Frames.{Message, caller_of}
use Rattle.node_runs.specs.Setups.{Setup, IsSetup, given}
use Rattle.node_runs.specs.NodeStates.{Asked, Await, OpenOp, proc_of}
use Rattle.node_runs.specs.Incomings.{Incoming, has_program, is_call, may_notice}
use Rattle.node_runs.specs.NodesKeep.{IsTimely}
use Rattle.node_runs.specs.Runs.{World, numbered, told_if, told_of}
use Rattle.node_runs.specs.CallsKeep.{EachOf}
use Rattle.run_laws.specs.DecidedReplies.{proc_at}
use Rattle.world_runs.specs.Gone.{FrameName, was_told, notice_if, notice_of, gone_in}
use Rattle.world_runs.specs.Turns.{enabled_events, after_turns}
use Rattle.world_runs.proofs.Among.{Among}
use Rattle.run_laws.specs.FramesOfCalls.{IsOfCall}
use Rattle.run_laws.proofs.NotEnabled.{filter-among, flat-among}
use Rattle.run_laws.proofs.FirstWaiting.{enable}
use Rattle.run_laws.proofs.NothingComing.{all-alive, driven}
use Rattle.run_laws.proofs.Stuck.{never, notice-comes}

-- the process was told of the frame, if it is of this call
abbrev pub IsToldIfOf : World → ProcName → ℕ → FrameName → Type 0
IsToldIfOf w p number f = IsOfCall p number (numbered f.2 (w.frames f.0 f.1)) → was_told w.done f ≡ true

each-among : {A : Type 0} (P : A → Type 0) (xs : List A) → ((x : A) → Among x xs → P x) → EachOf P xs
each-among P [] each = tt
each-among P (x ∷ xs) each = (each x (inl refl), each-among P xs (λ y is. each y (inr is)))

pub all-told : (s : Setup) (plan : List FateRow) → IsSetup s → (cs : List ℕ) (w : World) → after_turns s plan cs ≡ Some w → IsTimely w
    → (n p : ℕ) → is_node s.opening n ≡ true → IsProc p → (o : OpenOp) → (proc_of (w.nodes n) p).doing ≡ Some o → (c : Asked) → o.awaits ≡ Await.Answer c → enabled_events s plan w ≡ []
    → EachOf (IsToldIfOf w (proc_at n p) c.waiting.number) (gone_in plan w.done)
all-told s plan setup cs w e timely n p node proc o open_op c awaits none = each-among (IsToldIfOf w (proc_at n p) c.waiting.number) (gone_in plan w.done) (λ f gone. told f gone (numbered f.2 (w.frames f.0 f.1)) refl)
  where
    -- else its notice would be enabled
    noticed : (f : FrameName) → Among f (gone_in plan w.done) → was_told w.done f ≡ false → (m : Message) → numbered f.2 (w.frames f.0 f.1) ≡ Some m → caller_of m ≡ proc_at n p → m.number ≡ c.waiting.number → ⊥
    noticed f gone untold m found caller number =
        let here : ((caller_of m).node == n) ≡ true = eq-eqb (caller_of m).node n (ap (λ (q : ProcName). q.node) caller) in
        let own : m.proc ≡ p = ap (λ (q : ProcName). q.number) caller in
        let what = Notice p f.0 f.1 f.2 in
        let listed : notice_of n f (numbered f.2 (w.frames f.0 f.1)) ≡ what ∷ [] =
        ap (notice_of n f) found ∙ ap (λ b. notice_if b (Notice m.proc f.0 f.1 f.2)) here ∙ ap (λ (q : ℕ). Notice q f.0 f.1 f.2 ∷ []) own in
        let among = flat-among (λ (g : FrameName). notice_of n g (numbered g.2 (w.frames g.0 g.1))) f what (filter (λ (g : FrameName). not (was_told w.done g)) (gone_in plan w.done))
        (filter-among (λ (g : FrameName). not (was_told w.done g)) f (gone_in plan w.done) (ap (λ b. not b) untold) gone) (subst (Among what) (sym listed) (inl refl)) in
        let alive = all-alive s plan setup cs w e timely n p node proc o open_op n node in
        let same : same_proc (caller_of m) (proc_at n p) ≡ true = ap (λ (q : ProcName). same_proc q (proc_at n p)) caller ∙ same_proc-itself (proc_at n p) in
        never s setup plan w none n node alive what (notice-comes s setup plan w none n node what among)
        (enable s setup plan cs w e timely n alive what (Incoming.Gone m.number m.tick)
        (ap (told_of (proc_at n p)) found ∙ ap (λ b. told_if b m) same)
        (and_from (has_program (given s n) p) (may_notice m.number (proc_of (w.nodes n) p).doing) (driven s plan setup cs w e timely n p node proc o open_op)
        (ap (may_notice m.number) open_op ∙ ap (is_call m.number) awaits ∙ eq-eqb m.number c.waiting.number number)))

    told : (f : FrameName) → Among f (gone_in plan w.done) → (m : Option Message) → numbered f.2 (w.frames f.0 f.1) ≡ m → IsToldIfOf w (proc_at n p) c.waiting.number f
    told f gone None found is = absurd (subst (IsOfCall (proc_at n p) c.waiting.number) found is)
    told f gone (Some m) found is =
        by_cases (was_told w.done f) (was_told w.done f ≡ true) (λ h. h)
        (λ h. let both = subst (IsOfCall (proc_at n p) c.waiting.number) found is in absurd (noticed f gone h m found both.0 both.1))
