-- A process is told that a frame of its open call was lost or is late.
use Rattle.std.proofs.Common.{◌≡◌, ℕ, ◌+◌, ◌-◌, ◌<◌, ◌≤◌, Bool, List, [], zero, suc, ◌∷◌, length, get_or, set, Option, Some, None, refl, sym, ap, subst, ◌∙◌}
use Rattle.std.specs.Option.{ForSome}
use Rattle.std.proofs.lemmas.Option.{same_Some}
use Rattle.uid_names.specs.Names.{ObjectName, IsProcNumber}
use Rattle.uid_names.specs.Steps.{◌>>=◌}
use Rattle.uid_names.specs.Wires.{wire_room}
use Rattle.uid_names.specs.declared.ids.Place.{Place}
use Rattle.uid_names.proofs.Somes.{bind-some, map-some}
use Rattle.dom_history.specs.declared.op.Op.{Op}
use Rattle.dom_history.specs.declared.op.Reply.{Reply}
use Rattle.dom_history.specs.declared.op.Want.{Want}
use Rattle.dom_history.specs.declared.op.Want.TheVariants.{Do}
use Rattle.call_once.specs.Notices.{noticed}
use Rattle.call_once.specs.declared.asking.Noticed.{Noticed}
use Rattle.ring_messages.specs.Bodies.{body_of_ask}
use Rattle.ring_messages.specs.Frames.{Message}
use Rattle.ring_messages.specs.Ranges.{IsBody, LiesWithin}
use Rattle.fault_handler.specs.Accesses.{Accessed}
use Rattle.node_runs.specs.NodesKeep.{IsOpenWithin}
use Rattle.node_runs.specs.NodeStates.{Asked, Await, BegunOp, OpenOp, ProcState, proc_of, with_proc}
use Rattle.node_runs.specs.Notes.{Note}
use Rattle.node_runs.specs.Operations.{failed}
use Rattle.node_runs.specs.Outcomes.{Stepped, Stage, request, moved}
use Rattle.node_runs.specs.Doings.{noticed_call, resends, gives_up, notices_as, notices}
use Rattle.node_runs.specs.Dones.{asking}
use Rattle.node_runs.specs.Steps.{stepped_as_named}
use Rattle.node_core.specs.declared.machine.Machine.{Machine}
use Rattle.node_core.specs.declared.processes.Again.{Again}
use Rattle.node_core.specs.declared.processes.Proc.{Proc}
use Rattle.node_core.specs.declared.turns.Done.{Done}
use Rattle.node_core.specs.Processes.{IsAnswer, IsCalling, IsAgain, IsGivenUp, again_sent, proc_seen, want_at}
use Rattle.node_core.specs.Machines.{given_of, state_of, IsBefore}
use Rattle.node_core.specs.Outcomes.{Sent, Led, Moves}
use Rattle.node_core.proofs.Seen.{put-seen, wants-kept}
use Rattle.node_core.proofs.Leading.{led-sent, same-frame}
use Rattle.node_core.proofs.Opening.{seen-here, wanted-open, call-stands}

-- the call that is open
answer-there : (o : BegunOp) (a : Await) → IsAnswer a → (c : Asked) × (◌≡◌ {A = Option OpenOp} (Some (record { began = o; awaits = a })) (asking o c))
answer-there o (Await.Answer c) is = (c, refl)
answer-there o (Await.Page u k) is = absurd is

calling-there : (d : Option OpenOp) → IsCalling d → (o : BegunOp) × (c : Asked) × (d ≡ asking o c)
calling-there None is = absurd is
calling-there (Some x) is = let found = answer-there x.began x.awaits is in (x.began, found.0, found.1)

-- what stood there is put there
set-same : (qs : List Proc) (i : ℕ) (d : Proc) → set qs i (get_or qs i d) ≡ qs
set-same [] i d = refl
set-same (q ∷ qs) zero d = refl
set-same (q ∷ qs) (suc i) d = ap (λ xs. q ∷ xs) (set-same qs i d)

-- the open call of a process, as its node's state has it and as it is kept at its place
pub record CallAt {P G : Type 0} (old : Machine P G) (p i : ℕ) (d : Proc) : Type 0 where
  pub began : BegunOp
  pub call : Asked
  pub doing : (proc_of (state_of old) p).doing ≡ asking began call
  pub kept : (proc_seen (get_or old.procs i d)).doing ≡ asking began call

pub call-at : {P G : Type 0} (spent : P → Bool) (wants : P → Want) (old : Machine P G) → IsBefore spent wants old → (p i : ℕ) (d : Proc) → i < 4 → i ≡ p - 1
    → IsCalling (proc_of (state_of old) p).doing → CallAt old p i d
call-at spent wants old before p i d bound at_p calling =
    let found = calling-there (proc_of (state_of old) p).doing calling in
    let here = ap (λ (x : ProcState). x.doing) (seen-here old.procs i p (get_or old.procs i d) d before.within.four bound at_p refl) in
    record { began = found.0; call = found.1; doing = found.2; kept = sym here ∙ found.2 }

-- where it is given up, the process is the same
pub given-up-same : {P G : Type 0} (old : Machine P G) (p i : ℕ) (d q : Proc) → CallAt old p i d → IsGivenUp (get_or old.procs i d) q → set old.procs i q ≡ old.procs
given-up-same old p i d q it given = ap (set old.procs i) (given it.began it.call it.kept).1 ∙ set-same old.procs i d

module _ {P G : Type 0} (spent : P → Bool) (wants : P → Want) (becomes : P → Option Reply → P) (old : Machine P G) (before : IsBefore spent wants old)
    (p : ℕ) (proc : IsProcNumber p) (o : BegunOp) (c : Asked) (doing : (proc_of (state_of old) p).doing ≡ asking o c) where
  -- its frame can be sent again
  pub again-least : (again : Again) → IsAgain c again → 1 ≤ again.number
  again-least again is =
      let stands = call-stands spent wants old before p proc (record { began = o; awaits = Await.Answer c }) doing c refl in
      subst (λ k. 1 ≤ k) (sym (is.number ∙ stands.number)) stands.least

  pub again-range : (again : Again) → IsAgain c again → IsBody again.home again.body
  again-range again is =
      let stands = call-stands spent wants old before p proc (record { began = o; awaits = Await.Answer c }) doing c refl in
      subst (λ h. IsBody h again.body) (sym is.home) (subst (IsBody c.home) (sym is.body) stands.body)

  pub again-within : (again : Again) → IsAgain c again → LiesWithin (wire_room old.server.wire) again.body
  again-within again is = subst (LiesWithin (wire_room old.server.wire)) (sym is.body) (subst (IsOpenWithin (wire_room old.server.wire)) doing (before.node.within.asked p proc))

  pub wanted-notice : want_at old.procs p ≡ Do o.op
  wanted-notice = wanted-open spent wants old before p proc (record { began = o; awaits = Await.Answer c }) doing

  notices-as : (answer : Noticed) → noticed (c.waiting.notices + 1) ≡ answer → notices (given_of old) (state_of old) p (proc_of (state_of old) p).doing ≡ notices_as (given_of old) (state_of old) p o (noticed_call c) answer
  notices-as answer is = ap (notices (given_of old) (state_of old) p) doing ∙ ap (notices_as (given_of old) (state_of old) p o (noticed_call c)) is

  -- it is sent again
  pub resent-led : (i : ℕ) (d x : Proc) (new : Machine P G) (done : Done) (again : Again) (dropped : List (ObjectName × ℕ)) → i ≡ p - 1 → i < 4 → x.want ≡ (get_or old.procs i d).want
      → proc_seen x ≡ record (proc_seen (get_or old.procs i d)) { doing = asking o (noticed_call c) } → IsAgain c again → noticed (c.waiting.notices + 1) ≡ Noticed.Resend
      → Sent (record old { procs = set old.procs i x }) new done (again_sent old.server.wire old.desk.node p old.tick again) []
      → (s : Stepped) → (notices (given_of old) (state_of old) p (proc_of (state_of old) p).doing >>= stepped_as_named (given_of old) (state_of old)) ≡ Some s → Led spent wants becomes old new done s
  resent-led i d x new done again dropped at_p bound same seen is answer sent s comes =
      let n = state_of old in
      let g = given_of old in
      let inside : i < length old.procs = subst (λ k. i < k) (sym before.within.four) bound in
      let put = put-seen old.procs i p d x (λ r. record r { doing = asking o (noticed_call c) }) at_p inside seen in
      let frame : again_sent old.server.wire old.desk.node p old.tick again ≡ request g n p (noticed_call c) =
      same-frame old.server.wire old.server.wire old.desk.node old.desk.node again.home p p again.number c.waiting.number old.tick again.body (body_of_ask c.ask) refl refl refl is.number is.body
      ∙ ap (λ h. let m : Message = record { version = old.server.wire; from = old.desk.node; to = h; proc = p; number = c.waiting.number; tick = old.tick; body = body_of_ask c.ask } in m) is.home in
      let event : (notices g n p (proc_of n p).doing >>= stepped_as_named g n) ≡ Some (resends g n p o (noticed_call c)) = ap (λ e. e >>= stepped_as_named g n) (notices-as Noticed.Resend answer) in
      subst (Led spent wants becomes old new done) (same_Some (resends g n p o (noticed_call c)) s (sym event ∙ comes))
      (led-sent spent wants becomes old new (set old.procs i x) done (again_sent old.server.wire old.desk.node p old.tick again) (request g n p (noticed_call c))
      (with_proc n p (record (proc_of n p) { doing = asking o (noticed_call c) })) [] None Note.Nothing before.within (wants-kept old.procs i d x same)
      (ap (λ ps. record n { procs = ps }) put) frame sent)

  -- it is given up
  pub gave_up-led : (new : Machine P G) (done : Done) → noticed (c.waiting.notices + 1) ≡ Noticed.GiveUp
      → ((begun : Place) (op : Op) → want_at old.procs p ≡ Do op → ForSome (failed old.desk p op) (λ m. Moves spent wants becomes old new done p begun (Accessed.Settled m)))
      → (s : Stepped) → (notices (given_of old) (state_of old) p (proc_of (state_of old) p).doing >>= stepped_as_named (given_of old) (state_of old)) ≡ Some s → Led spent wants becomes old new done s
  gave_up-led new done answer moves s comes =
      let n = state_of old in
      let g = given_of old in
      let there = bind-some (notices g n p (proc_of n p).doing) (stepped_as_named g n) s comes in
      let found = map-some (gives_up n p o c.waiting.number) (failed n.desk p o.op) there.0 (sym (notices-as Noticed.GiveUp answer) ∙ there.1) in
      let stepped : stepped_as_named g n (gives_up n p o c.waiting.number found.0) ≡ Some s = subst (λ e. stepped_as_named g n e ≡ Some s) found.2 there.2 in
      subst (Led spent wants becomes old new done) (same_Some (moved g n p o (Stage.Settles c.waiting.number) found.0) s stepped)
      (moves o.begun o.op wanted-notice found.0 found.1 g o.op (Stage.Settles c.waiting.number) refl refl wanted-notice found.0 refl)
