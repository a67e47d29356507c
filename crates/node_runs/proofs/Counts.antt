-- An event sends one frame and makes one call at most, so that no number is above the tick.
use Rattle.std.proofs.Common.{◌≡◌, ℕ, ◌+◌, ◌-◌, ◌≤◌, Bool, true, false, List, ◌∷◌, length, Some, inl, inr, refl, sym, ap, subst, arith}
use Rattle.std.specs.Prelude.{nat_lt, ◌&&◌, slice_index_or, slice_set}
use Rattle.std.proofs.lemmas.Bool.{cases_eq}
use Rattle.std.proofs.lemmas.Bool.Decides.{nat_tests}
use Rattle.std.proofs.lemmas.List.{get_or-set_same, get_or-set_other, set_past}
use Rattle.uid_names.proofs.ListLemmas.{by_cases, zeros-at}
use Rattle.uid_names.specs.Names.{ObjectName}
use Rattle.uid_names.specs.declared.limits.TheConstants.{MAX_NODES}
use Rattle.dom_history.specs.declared.event.What.{What}
use Rattle.fault_handler.specs.Desks.{DeskState, at, put_at}
use Rattle.fault_handler.specs.Outcomes.{Turn, Moved}
use Rattle.fault_handler.proofs.Fours.{by_proc}
use Rattle.node_runs.specs.Setups.{Setup, IsSetup, Given, given}
use Rattle.node_runs.specs.NodeStates.{BegunOp, ProcState, NodeState, first_proc, first_node, proc_of, emitted_to}
use Rattle.node_runs.specs.Incomings.{Incoming}
use Rattle.node_runs.specs.Outcomes.{Stepped, Stage, turned, moved}
use Rattle.node_runs.specs.Doings.{begun_at, stage_of, others_marked, in_next_phase, ticked}
use Rattle.node_runs.specs.Dones.{Did, paused, finished, began, resumed, served, passed_over, heard, ignored, resent, gave_up, got_ready, marked}
use Rattle.node_runs.specs.Steps.{step_of}
use Rattle.page_server.specs.ServerStates.{IsCountedTo}
use Rattle.node_runs.specs.NodesKeep.{IsCounted}
use Rattle.node_runs.proofs.Doing.{step_of-did}
use Rattle.node_runs.proofs.Ticks.{step_of-tick}
use Rattle.node_runs.proofs.Sides.{did-counted, first-side-counted}

-- one more at most
pub record IsOneMore (old new : NodeState) : Type 0 where
  pub emitted : (to : ℕ) → emitted_to new to ≤ emitted_to old to + 1
  pub last : (p : ℕ) → (proc_of new p).last ≤ (proc_of old p).last + 1

same : (old new : NodeState) → new.emitted ≡ old.emitted → new.procs ≡ old.procs → IsOneMore old new
same old new emitted procs = record {
  emitted = λ to. let e = ap (λ es. at es to 0) emitted in omega (arith, e);
  last = λ p. let e = ap (λ ps. (at ps p first_proc).last) procs in omega (arith, e);
}

-- what stands at a place after another was put in
put-le : {A : Type 0} (f : A → ℕ) (kept : List A) (i j : ℕ) (new none : A) (bound : ℕ) → f (slice_index_or kept j none) ≤ bound → (j ≡ i → f new ≤ bound) → f (slice_index_or (slice_set kept i new) j none) ≤ bound
put-le f kept i j new none bound old here = elim (cases_eq j i) [
  | inr differs ↦ subst (λ x. f x ≤ bound) (sym (get_or-set_other kept i j new none differs)) old
  | inl same ↦ by_cases (nat_lt i (length kept)) (f (slice_index_or (slice_set kept i new) j none) ≤ bound)
      (λ h. subst (λ k. f (slice_index_or (slice_set kept i new) k none) ≤ bound) (sym same) (subst (λ x. f x ≤ bound) (sym (get_or-set_same kept i new none (grind (arith, nat_tests, h)))) (here same)))
      (λ h. subst (λ xs. f (slice_index_or xs j none) ≤ bound) (sym (set_past kept i new (grind (arith, nat_tests, h)))) old)
]

put-last : (n : NodeState) (p : ℕ) (new : ProcState) → new.last ≤ (proc_of n p).last + 1 → (j : ℕ) → (at (put_at n.procs p new) j first_proc).last ≤ (proc_of n j).last + 1
put-last n p new more j =
    put-le (λ (q : ProcState). q.last) n.procs (p - 1) (j - 1) new first_proc ((proc_of n j).last + 1) (omega arith)
    (λ (e : j - 1 ≡ p - 1). subst (λ i. new.last ≤ (slice_index_or n.procs i first_proc).last + 1) (sym e) more)

put-emitted : (n : NodeState) (to j : ℕ) → at (put_at n.emitted to (emitted_to n to + 1)) j 0 ≤ emitted_to n j + 1
put-emitted n to j =
    put-le (λ (k : ℕ). k) n.emitted (to - 1) (j - 1) (emitted_to n to + 1) 0 (emitted_to n j + 1) (omega arith)
    (λ (e : j - 1 ≡ to - 1). subst (λ i. emitted_to n to + 1 ≤ slice_index_or n.emitted i 0 + 1) (sym e) (omega arith))

module _ (g : Given) (n : NodeState) where
  one-proc : (p : ℕ) (new : ProcState) (x : NodeState) → x.emitted ≡ n.emitted → x.procs ≡ put_at n.procs p new → new.last ≤ (proc_of n p).last + 1 → IsOneMore n x
  one-proc p new x emitted procs more = record {
    emitted = λ to. let e = ap (λ es. at es to 0) emitted in omega (arith, e);
    last = λ j. subst (λ ps. (at ps j first_proc).last ≤ (proc_of n j).last + 1) (sym procs) (put-last n p new more j);
  }

  one-frame : (to p : ℕ) (new : ProcState) (x : NodeState) → x.emitted ≡ put_at n.emitted to (emitted_to n to + 1) → x.procs ≡ put_at n.procs p new → new.last ≤ (proc_of n p).last + 1 → IsOneMore n x
  one-frame to p new x emitted procs more = record {
    emitted = λ j. subst (λ es. at es j 0 ≤ emitted_to n j + 1) (sym emitted) (put-emitted n to j);
    last = λ j. subst (λ ps. (at ps j first_proc).last ≤ (proc_of n j).last + 1) (sym procs) (put-last n p new more j);
  }

  turned-one : (p : ℕ) (o : BegunOp) (stage : Stage) (d : DeskState) (turn : Turn) → IsOneMore n (turned g (record n { desk = d }) p o stage turn).node
  turned-one p o stage d (Turn.Ends reply) = one-proc p _ _ refl refl (omega arith)
  turned-one p o stage d (Turn.Asks home ask) = one-frame home p _ _ refl refl (omega arith)
  turned-one p o stage d (Turn.Waits u k) = one-proc p _ _ refl refl (omega arith)

  moved-one : (p : ℕ) (o : BegunOp) (stage : Stage) (m : Moved) → IsOneMore n (moved g n p o stage m).node
  moved-one p o stage m = let one = turned-one p o stage m.desk m.turn in record { emitted = one.emitted; last = one.last }

  phase-one : (b : Bool) (x : NodeState) → x.emitted ≡ n.emitted → x.procs ≡ n.procs → IsOneMore n (in_next_phase b x)
  phase-one true x emitted procs = same n _ emitted procs
  phase-one false x emitted procs = same n _ emitted procs

  did-one : (what : What) (incoming : Incoming) (s : Stepped) → Did g n what incoming s → IsOneMore n s.node
  did-one what incoming s (paused p has none is) = one-proc p _ _ refl refl (omega arith)
  did-one what incoming s (finished p has none is) = one-proc p _ _ refl refl (omega arith)
  did-one what incoming s (began p op to has none is may) = moved-one p (begun_at g n op) Stage.Starts to
  did-one what incoming s (resumed p o u k accessed to has is come goes may) = moved-one p o Stage.Resumes to
  did-one what incoming s (served from index m ask answer sender receiver asks is) = record { emitted = λ j. put-emitted n m.from j; last = λ p. omega arith }
  did-one what incoming s (passed_over from index m ask sender receiver asks is) = same n _ refl refl
  did-one what incoming s (heard from index m o c said to sender receiver asks is equal fits may) = moved-one m.proc o (stage_of m.number said) to
  did-one what incoming s (ignored from index m sender receiver asks) = same n n refl refl
  did-one what incoming s (resent p from to index number tick o c has is equal answer) = one-frame c.home p _ _ refl refl (omega arith)
  did-one what incoming s (gave_up p from to index number tick o c into has is equal answer fails) = moved-one p o (Stage.Settles c.waiting.number) into
  did-one what incoming s (got_ready phase may) = let x = record n { ready = true } in phase-one (x.ready && others_marked g x) x refl refl
  did-one what incoming s (marked from phase tick may) = let x = record n { marks = (from, phase) ∷ n.marks } in phase-one (x.ready && others_marked g x) x refl refl

pub step_of-counted : (g : Given) (n : NodeState) (what : What) (incoming : Incoming) (dropped : List (ObjectName × ℕ)) (s : Stepped) → IsCounted n → step_of g n what incoming dropped ≡ Some s → IsCounted s.node
step_of-counted g n what incoming dropped s is e =
    let did = step_of-did g n what incoming dropped s e in
    let one = did-one g (ticked n incoming) what incoming s did in
    let tick = step_of-tick g n what incoming dropped s e in
    record {
      emitted = λ to. let a = one.emitted to in let b = is.emitted to in omega (arith, tick, a, b);
      last = λ p proc. let a = one.last p in let b = is.last p proc in omega (arith, tick, a, b);
      side = subst (λ t. IsCountedTo t s.node.side) (sym tick) (did-counted g (ticked n incoming) what incoming s n.tick (omega arith) is.side did);
    }

-- at the start nothing was sent or asked
pub first-counted : (s : Setup) → IsSetup s → (n : ℕ) → IsCounted (first_node (given s n))
first-counted s is n = record {
  emitted = λ to. let e = zeros-at MAX_NODES (to - 1) in omega (arith, e);
  last = by_proc (λ p. (proc_of (first_node (given s n)) p).last ≤ 0) (omega arith) (omega arith) (omega arith) (omega arith);
  side = first-side-counted s is n;
}
