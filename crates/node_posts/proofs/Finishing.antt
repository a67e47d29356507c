-- An event that was done and sent, or ended in a fault.
use Rattle.std.proofs.Common.{◌≡◌, ℕ, ◌<◌, List, ◌∷◌, ◌++◌, Option, Some, None, IfSome, inl, inr, refl, sym, ap, subst, ◌∙◌}
use Rattle.std.specs.Prelude.{◌⊎◌, Result, Ok, Err, IsOk, OnOk, IfErr}
use Rattle.dom_history.specs.declared.op.Reply.{Reply}
use Rattle.dom_history.specs.declared.op.Want.{Want}
use Rattle.dom_history.specs.declared.event.What.{What}
use Rattle.ring_messages.specs.Frames.{Message}
use Rattle.node_runs.specs.Setups.{Setup}
use Rattle.node_runs.specs.Incomings.{Incoming}
use Rattle.node_runs.specs.Outcomes.{Stepped}
use Rattle.node_runs.specs.Runs.{World}
use Rattle.local_runs.specs.LocalRuns.{Own, own_event, own_world}
use Rattle.node_core.specs.declared.fault.RunFault.{RunFault}
use Rattle.node_core.specs.declared.fault.RunFault.TheVariants as faults
use Rattle.node_core.specs.declared.setup.Emitted.{Emitted}
use Rattle.node_core.specs.Nodes.{Noted, state_of}
use Rattle.node_core.specs.Receivings.{emitted_by}
use Rattle.ring_links.specs.declared.notice.Notice as notice
use Rattle.wire_links.specs.declared.wire.WireOut.{WireOut}
use Rattle.node_posts.specs.declared.post.Post.{Post}
use Rattle.node_posts.specs.Ends.{other_at}
use Rattle.node_posts.specs.Sendable.{CanSendFrame}
use Rattle.node_posts.specs.Sending.{posted, AreOutsAfter, own_after, told_after}
use Rattle.node_posts.specs.Owns.{IsOwn}
use Rattle.node_posts.specs.Turns.{IsStep, Steps, IsSentStep, IsBeside, IsCause, IsTurn, IsUnsent, IsFailed, IsDone}
use Rattle.node_posts.proofs.Stepping.{own-number}
use Rattle.node_posts.proofs.Going.{step-tick, unpushed-none}

module _ {P G : Type 0} (wants : P → Want) (becomes : P → Option Reply → P) (limit : ℕ) (what : What) (incoming : Incoming) where
  -- a post that was left as it was, but for its node
  pub beside-node : (x : Post P G) (node : Noted P) → IsBeside x (record x { node = node })
  beside-node x node = record { ins = refl; outs = unpushed-none x.outs.items }

  -- old: before the event; mid: its node did it; new: what it emitted was sent
  module _ (old mid new : Post P G) (emitted : Emitted) (steps : Steps wants becomes what incoming old.node mid.node emitted) (node : new.node ≡ mid.node) (own : mid.own ≡ old.own)
      (outs : mid.outs.items ≡ old.outs.items) (notices : mid.notices.items ≡ old.notices.items) (beside : IsBeside old new) where
    sent-of : (sent : IsSentStep mid.node.log.node (state_of mid.node).tick emitted mid new) (made : ℕ → Option P) (s : Setup) (n : ℕ) (o : List Own) (w : World) (is : IsOwn wants becomes made s n o w old.node)
        → (st : Stepped) × IsStep wants becomes made s n o w what incoming st new.node × IsSentStep n st.node.tick (emitted_by what st) old new
    sent-of sent made s n o w is =
        let d = steps made s n o w is in
        let st = d.0 in
        let number = own-number wants becomes made s n (own_event n what incoming st ∷ o) (own_world n w what st) mid.node d.2.node in
        let tick = step-tick wants becomes made s n o w old.node is what incoming st mid.node d.2 in
        let said : IsSentStep n st.node.tick (emitted_by what st) mid new =
        subst (λ (e : Emitted). IsSentStep n st.node.tick e mid new) d.1
        (subst (λ (t : ℕ). IsSentStep n t emitted mid new) tick (subst (λ (k : ℕ). IsSentStep k (state_of mid.node).tick emitted mid new) number sent)) in (
          st,
          subst (IsStep wants becomes made s n o w what incoming st) (sym node) d.2,
          record {
            outs = subst (λ (xs : List WireOut). AreOutsAfter (λ at. posted st.node.tick (other_at n at) (emitted_by what st)) xs new.outs.items) outs said.outs;
            own = said.own ∙ ap (own_after n (emitted_by what st)) own;
            notices = said.notices ∙ (ap (λ (xs : List notice.Notice). xs ++ told_after n (emitted_by what st) mid.outs.items) notices ∙ ap (λ (xs : List WireOut). old.notices.items ++ told_after n (emitted_by what st) xs) outs);
          },
        )

    pub turn-done : (state_of new.node).tick < limit → IsSentStep mid.node.log.node (state_of mid.node).tick emitted mid new → IsTurn wants becomes limit what incoming old new
    turn-done low sent = record { beside = beside; low = low; did = λ made s n o w is. sent-of sent made s n o w is }

    pub turn-failed : (fault : RunFault) → IsCause limit fault new → IsFailed wants becomes limit what incoming fault old new
    turn-failed fault cause = record {
      beside = beside;
      did = inr (λ made s n o w is. (let d = steps made s n o w is in (d.0, subst (IsStep wants becomes made s n o w what incoming d.0) (sym node) d.2)), cause);
    }

  -- nothing was done, for want of memory
  pub turn-undone : (fault : RunFault) → fault ≡ faults.NoMemory → (old new : Post P G) → IsBeside old new → new.node.log ≡ old.node.log → IsFailed wants becomes limit what incoming fault old new
  turn-undone fault is old new beside log = record { beside = beside; did = inl (is, log) }

  -- a fault is noted: all else is as it was
  cause-noted : (y : Post P G) (noted : Option RunFault) (fault : RunFault) → IsCause limit fault y → IsCause limit fault (record y { fault = noted })
  cause-noted y noted (faults.TickLimit k) cause = cause
  cause-noted y noted faults.NoMemory cause = tt

  how-noted : (old y : Post P G) (fault : RunFault) → ((fault ≡ faults.NoMemory) × (y.node.log ≡ old.node.log)) ⊎ (IsUnsent wants becomes what incoming old y × IsCause limit fault y)
      → ((fault ≡ faults.NoMemory) × (y.node.log ≡ old.node.log)) ⊎ (IsUnsent wants becomes what incoming old y × IsCause limit fault (record y { fault = Some fault }))
  how-noted old y fault (inl undone) = inl undone
  how-noted old y fault (inr (unsent, cause)) = inr (unsent, cause-noted y (Some fault) fault cause)

  failed-noted : (old y : Post P G) (fault : RunFault) → IsFailed wants becomes limit what incoming fault old y → IsFailed wants becomes limit what incoming fault old (record y { fault = Some fault })
  failed-noted old y fault failed = record { beside = record { ins = failed.beside.ins; outs = failed.beside.outs }; did = how-noted old y fault failed.did }

  -- what came of the event, once its fault is noted
  pub noted : (r : Result (Unit {0}) RunFault) (old y z : Post P G) → y.fault ≡ None → (IsOk r → z ≡ y) → IfErr r (λ fault. z ≡ record y { fault = Some fault }) → OnOk r (IsTurn wants becomes limit what incoming old y)
      → IfErr r (λ fault. IsFailed wants becomes limit what incoming fault old y) → IsDone wants becomes limit what incoming old z z.fault
  noted (Ok u) old y z none ok err turn failed =
      subst (λ (x : Post P G). IsDone wants becomes limit what incoming old x x.fault) (sym (ok refl)) (subst (IsDone wants becomes limit what incoming old y) (sym none) turn)
  noted (Err fault) old y z none ok err turn failed =
      subst (λ (x : Post P G). IsDone wants becomes limit what incoming old x x.fault) (sym err) (failed-noted old y fault failed)

-- so is each error
pub err-more : {T E : Type 0} (A B : E → Type 0) (r : Result T E) → ((e : E) → A e → B e) → IfErr r A → IfErr r B
err-more A B (Ok u) then a = tt
err-more A B (Err e) then a = then e a

-- what a post can send it can send whatever its node did
pub still-can : {P G : Type 0} (k : ℕ) (x : Post P G) (node : Noted P) (o : Option (ℕ × Message)) → IfSome o (λ sent. CanSendFrame k x sent.1) → IfSome o (λ sent. CanSendFrame k (record x { node = node }) sent.1)
still-can k x node None can = tt
still-can k x node (Some sent) can = record { tick = can.tick; own = can.own; within = can.within; end_of = can.end_of }
