-- A lock was given up exactly where the open call of its process does so.
use Rattle.std.proofs.Common.{◌≡◌, ◌≢◌, ℕ, Bool, true, false, Option, Some, None, refl, sym, ap, subst, ◌∙◌}
use Rattle.std.specs.Prelude.{not, ◌&&◌}
use Rattle.uid_names.specs.Names.{ObjectName, same_uid}
use Rattle.uid_names.proofs.ListLemmas.{by_cases}
use Rattle.uid_names.proofs.Orders.{same_uid_is, same_uid-itself}
use Rattle.dom_history.specs.declared.op.Op.{Op}
use Rattle.dom_history.specs.declared.op.Op.TheVariants as ops
use Rattle.dom_history.specs.Locks.{is_held}
use Rattle.ring_messages.specs.Bodies.{Ask}
use Rattle.fault_handler.specs.declared.entries.LockEntry.{LockEntry}
use Rattle.fault_handler.specs.declared.open_call.OpenCall.{OpenCall}
use Rattle.fault_handler.specs.declared.open_call.OpenCall.TheVariants as calls
use Rattle.fault_handler.specs.Entries.{is_released, keeps}
use Rattle.fault_handler.specs.Desks.{DeskState, entry_at, state_of, open_call_of, task_of, moving_of}
use Rattle.fault_handler.specs.Invariant.{IsProc, is_access, KeepsAll, IsDesk}
use Rattle.fault_handler.specs.Ready.{ReleaseStands, IsReadyAt}
use Rattle.fault_handler.specs.Next.{IsRequest}
use Rattle.fault_handler.proofs.MovingOthers.{FitsOpen-task}
use Rattle.node_runs.specs.Setups.{Given}
use Rattle.node_runs.specs.NodeStates.{Await, OpenOp, NodeState, proc_of}
use Rattle.node_runs.specs.Agreements.{IsCallOpen, IsCalling, IsDoing, Agrees}
use Rattle.node_runs.specs.NodesKeep.{IsNodeOf}
use Rattle.run_laws.specs.Released.{gives_up, awaits_release, is_being_released, AreReleased}

-- what is kept was not given up
kept-unreleased : (o : Option LockEntry) → keeps o ≡ true → is_released o ≡ false
kept-unreleased None is = refl
kept-unreleased (Some e) is = by e.released refl is
  where
    by : (b : Bool) → e.released ≡ b → (is_held e.state && not b) ≡ true → e.released ≡ false
    by true same h = absurd (let f = both (is_held e.state) h in cc)
      where
        both : (x : Bool) → (x && false) ≡ true → false ≡ true
        both true h = h
        both false h = h
    by false same h = same

module _ (d : DeskState) (p : ℕ) (u : ObjectName) (held : is_held (state_of d p u) ≡ true) where
  all-kept : KeepsAll d.entries p → is_released (entry_at d.entries p u) ≡ false
  all-kept keeping = kept-unreleased (entry_at d.entries p u) (keeping u held)

  -- a release or a removal of an object
  released : (v : ObjectName) → ReleaseStands d p v → is_released (entry_at d.entries p u) ≡ same_uid v u
  released v stands = by_cases (same_uid v u) (is_released (entry_at d.entries p u) ≡ same_uid v u)
      (λ same.
      let is = same_uid_is v u same in
      subst (λ w. is_released (entry_at d.entries p w) ≡ true) is (stands.noted (subst (λ w. is_held (state_of d p w) ≡ true) (sym is) held)) ∙ sym same)
      (λ apart.
      let differs : u ≢ v = λ e. absurd (let f : true ≡ false = sym (ap (λ w. same_uid w u) (sym e) ∙ same_uid-itself u) ∙ apart in cc) in
      kept-unreleased (entry_at d.entries p u) (stands.others u differs held) ∙ sym apart)

  module _ (desk : IsDesk d) (proc : IsProc p) where
    by-call : (o : Option OpenCall) → open_call_of d p ≡ o → (ask : Ask) → IsReadyAt d p o → IsRequest (moving_of d p) o ask → is_released (entry_at d.entries p u) ≡ gives_up ask u
    by-call None opened ask ready request = absurd request
    by-call (Some calls.Access) opened ask ready request = access ask request
      where
        keeping : KeepsAll d.entries p
        keeping = (FitsOpen-task d.cache.pages d.entries p (is_access (open_call_of d p)) (task_of d p) (moving_of d p) (ap is_access opened) (desk.calls p proc)).4.keeping

        access : (ask : Ask) → IsRequest (moving_of d p) (Some calls.Access) ask → is_released (entry_at d.entries p u) ≡ gives_up ask u
        access (Ask.PageIn v k) request = all-kept keeping
        access (Ask.PageOut v k grant base bytes) request = all-kept keeping
        access (Ask.AttrOut v n grant base) request = all-kept keeping
        access (Ask.Lock v m) request = all-kept keeping
        access (Ask.Unlock v) request = absurd request
        access (Ask.Remove v) request = absurd request
        access (Ask.Make kind room) request = all-kept keeping
        access (Ask.ListLocks after) request = all-kept keeping
    by-call (Some (calls.Lock v m)) opened ask ready request = lock ask request
      where
        lock : (ask : Ask) → IsRequest (moving_of d p) (Some (calls.Lock v m)) ask → is_released (entry_at d.entries p u) ≡ gives_up ask u
        lock (Ask.Unlock w) request = absurd request
        lock (Ask.Remove w) request = absurd request
        lock (Ask.PageIn w k) request = all-kept ready.others
        lock (Ask.PageOut w k grant base bytes) request = all-kept ready.others
        lock (Ask.AttrOut w n grant base) request = all-kept ready.others
        lock (Ask.Lock w l) request = all-kept ready.others
        lock (Ask.Make kind room) request = all-kept ready.others
        lock (Ask.ListLocks after) request = all-kept ready.others
    by-call (Some (calls.PageOut v k delete)) opened ask ready request = page ask request
      where
        page : (ask : Ask) → IsRequest (moving_of d p) (Some (calls.PageOut v k delete)) ask → is_released (entry_at d.entries p u) ≡ gives_up ask u
        page (Ask.Unlock w) request = absurd request
        page (Ask.Remove w) request = absurd request
        page (Ask.PageIn w j) request = all-kept ready.0.others
        page (Ask.PageOut w j grant base bytes) request = all-kept ready.0.others
        page (Ask.AttrOut w n grant base) request = all-kept ready.0.others
        page (Ask.Lock w l) request = all-kept ready.0.others
        page (Ask.Make kind room) request = all-kept ready.0.others
        page (Ask.ListLocks after) request = all-kept ready.0.others
    by-call (Some (calls.AttrOut v n delete)) opened ask ready request = attr ask request
      where
        attr : (ask : Ask) → IsRequest (moving_of d p) (Some (calls.AttrOut v n delete)) ask → is_released (entry_at d.entries p u) ≡ gives_up ask u
        attr (Ask.Unlock w) request = absurd request
        attr (Ask.Remove w) request = absurd request
        attr (Ask.PageIn w j) request = all-kept ready.0.others
        attr (Ask.PageOut w j grant base bytes) request = all-kept ready.0.others
        attr (Ask.AttrOut w l grant base) request = all-kept ready.0.others
        attr (Ask.Lock w l) request = all-kept ready.0.others
        attr (Ask.Make kind room) request = all-kept ready.0.others
        attr (Ask.ListLocks after) request = all-kept ready.0.others
    by-call (Some (calls.Unlock v)) opened (Ask.Unlock w) ready request = released v ready ∙ ap (λ x. same_uid x u) (sym request)
    by-call (Some (calls.Unlock v)) opened ask ready request = absurd request
    by-call (Some (calls.Remove v)) opened (Ask.Remove w) ready request = released v ready.0 ∙ ap (λ x. same_uid x u) (sym request)
    by-call (Some (calls.Remove v)) opened ask ready request = absurd request

    open-call : (op : Op) (ask : Ask) → IsCallOpen d p op ask → is_released (entry_at d.entries p u) ≡ gives_up ask u
    open-call op ask is = by-call (open_call_of d p) refl ask is.ready is.request

    calling : (op : Op) (ask : Ask) → IsCalling d p op ask → is_released (entry_at d.entries p u) ≡ gives_up ask u
    calling (ops.New home kind room) ask is = all-kept is.0.keeping ∙ ap (λ a. gives_up a u) (sym is.1)
    calling (ops.List home after) ask is = all-kept is.0.keeping ∙ ap (λ a. gives_up a u) (sym is.1)
    calling (ops.Lock v m) ask is = open-call (ops.Lock v m) ask is
    calling (ops.Unlock v) ask is = open-call (ops.Unlock v) ask is
    calling (ops.Delete v) ask is = open-call (ops.Delete v) ask is
    calling (ops.Load spot count) ask is = open-call (ops.Load spot count) ask is
    calling (ops.Store spot bytes) ask is = open-call (ops.Store spot bytes) ask is
    calling (ops.Length v) ask is = open-call (ops.Length v) ask is
    calling (ops.Map v) ask is = open-call (ops.Map v) ask is
    calling (ops.Unmap v) ask is = open-call (ops.Unmap v) ask is

    doing-released : (last : ℕ) (o : Option OpenOp) → Agrees d p last o → is_released (entry_at d.entries p u) ≡ is_being_released o u
    doing-released last None is = all-kept is.keeping
    doing-released last (Some o) is = by o.awaits is.1
      where
        by : (a : Await) → IsDoing d p last o.began.op a → is_released (entry_at d.entries p u) ≡ awaits_release a u
        by (Await.Answer c) is = calling o.began.op c.ask is.0
        by (Await.Page v k) is = all-kept is.idle.keeping

pub node-released : (g : Given) (n : NodeState) → IsNodeOf g n → AreReleased n
node-released g n is p proc u held = doing-released n.desk p u held is.desk proc (proc_of n p).last (proc_of n p).doing (is.agrees p proc)
