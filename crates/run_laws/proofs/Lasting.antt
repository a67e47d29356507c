-- In every run the call that settles an operation is its last one.
use Rattle.std.proofs.Common.{◌≡◌, ◌≢◌, ℕ, ◌+◌, List, [], ◌∷◌, ◌++◌, length, Option, Some, None, inl, inr, refl, sym, ap, subst, ◌∙◌}
use Rattle.std.specs.Prelude.{◌⊎◌, ◌==◌, if◌then◌else◌}
use Rattle.std.proofs.lemmas.Bool.{cases_eq}
use Rattle.uid_names.proofs.ListLemmas.{by_cases}
use Rattle.uid_names.specs.Names.{ProcName}
use Rattle.uid_names.proofs.Passed.{equal}
use Rattle.dom_history.specs.declared.op.Want.{Want}
use Rattle.dom_history.specs.Follows.{Heard}
use Rattle.dom_history.specs.Histories.{SomeOf}
use Rattle.ring_messages.specs.Bodies.{Ask}
use Rattle.ring_messages.specs.Frames.{Message}
use Rattle.fault_handler.specs.Invariant.{IsProc}
use Rattle.node_runs.specs.Setups.{Setup, IsSetup, given}
use Rattle.node_runs.specs.NodeStates.{Asked, Await, BegunOp, OpenOp, ProcState, NodeState, proc_of}
use Rattle.node_runs.specs.Incomings.{Incoming}
use Rattle.node_runs.specs.Notes.{Told, Note}
use Rattle.node_runs.specs.Dones.{asking}
use Rattle.node_runs.specs.NodesKeep.{IsTimely}
use Rattle.node_runs.specs.Runs.{World, Choice, numbered, calls_after, world_after}
use Rattle.node_runs.specs.RunHistories.{told_by, all_told}
use Rattle.node_runs.specs.CallsKeep.{AsksThis, IsCallAt, IsOpenAt, IsOnLink}
use Rattle.node_runs.proofs.SettingUp.{setup-procs}
use Rattle.node_runs.proofs.Receiving.{EachOf-more, incoming-is}
use Rattle.node_runs.proofs.Calls.{put-same, put-other}
use Rattle.node_runs.proofs.CallSteps.{IsFrameProc, CallStep, silent, asked, again as sent_again, did-calls}
use Rattle.run_laws.specs.Progress.{IsSettling, IsPart, IsPartDoing, Progress, opens, goes_on, again, did, told, pauses, is_done, ProcStep, rests, comes}
use Rattle.run_laws.specs.DecidedReplies.{proc_at}
use Rattle.run_laws.specs.Heard.{AreHeard}
use Rattle.run_laws.specs.LastCalls.{HasNumber, IsOpenNumber, IsOpenOrTold, AreLastCalls}
use Rattle.run_laws.proofs.HearingRuns.{IsKeptNext, n as acting, same-ask, proc-step, heard-are, every-kept-run, event, event-did}

pub SomeOf-behind : {A : Type 0} (P : A → Type 0) (xs ys : List A) → SomeOf P ys → SomeOf P (xs ++ ys)
SomeOf-behind P [] ys some = some
SomeOf-behind P (x ∷ xs) ys some = inr (SomeOf-behind P xs ys some)

-- the open call of this number asks what the call of this number asks
part-not : (calls : List Asked) (number home : ℕ) (ask : Ask) (o : Option OpenOp) → IsCallAt calls number home ask → IsSettling ask → IsOpenAt calls o → IsOpenNumber number o → IsPartDoing o → ⊥
part-not calls number home ask None call settling opened is part = is
part-not calls number home ask (Some o) call settling opened is part = by o.awaits opened is part
  where
    by : (a : Await) → IsOpenAt calls (Some (record { began = o.began; awaits = a })) → HasNumber number a → IsPart a → ⊥
    by (Await.Page u k) opened is part = is
    by (Await.Answer c) opened is part = part (subst IsSettling (sym (same-ask (numbered number calls) c.home home c.ask ask (subst (λ k. IsCallAt calls k c.home c.ask) is opened) call)) settling)

-- what becomes of an open call
module _ (ask : Heard → Want) (p : ProcName) (tick : ℕ) (incoming : Incoming) (old new : ProcState) (so_far : List Told) (calls : List Asked) (opened : IsOpenAt calls old.doing) (number home : ℕ) (asks : Ask) (call : IsCallAt calls number home asks) (settling : IsSettling asks) (is : IsOpenNumber number old.doing) where
  none-open : {X : Type 0} → old.doing ≡ None → X
  none-open none = absurd (subst (IsOpenNumber number) none is)

  part-open : {X : Type 0} → IsPartDoing old.doing → X
  part-open part = absurd (part-not calls number home asks old.doing call settling opened is part)

  stays-or-told : (note : Note) → Progress ask p tick incoming old new note → IsOpenOrTold p number new (told_by note ++ so_far)
  stays-or-told note (opens op a wants none doing awaits same e) = none-open none
  stays-or-told note (goes_on o a b part was doing awaits same e) = part-open (subst IsPartDoing (sym was) part)
  stays-or-told note (again o c was doing last same e) = inl (subst (IsOpenNumber number) (sym doing) (subst (IsOpenNumber number) was is))
  stays-or-told note (did op reply part wants end e) = part-open part
  stays-or-told note (told o c reply wants was end e by) =
      subst (λ (k : Note). IsOpenOrTold p number new (told_by k ++ so_far)) (sym e) (inr (inl (refl, subst (IsOpenNumber number) was is)))
  stays-or-told note (pauses was wants none last h phase e) = none-open was
  stays-or-told note (is_done was wants none last h e) = none-open was

-- a call after one event is one of before, or the open one
module _ (old : World) (k : ℕ) (step_procs : ℕ → ProcState) where
  abbrev IsNewCall : ℕ → ℕ → ℕ → ℕ → Ask → Type 0
  IsNewCall a q number home ask = IsCallAt (old.calls a q) number home ask ⊎ ((a ≡ k) × IsProc q × IsOpenNumber number (step_procs q).doing)

  new-call : (p : ℕ) → IsProc p → (o : BegunOp) (c : Asked) → c.waiting.number ≡ length (old.calls k p) + 1 → (step_procs p).doing ≡ asking o c → (a q number home : ℕ) (ask : Ask) → IsCallAt (calls_after old k (Some (p, c)) a q) number home ask → IsNewCall a q number home ask
  new-call p owner o c next doing a q number home ask is = elim (cases_eq a k) [
    | inr away ↦ inl (subst (λ (f : ℕ → List Asked). IsCallAt (f q) number home ask) (put-other old.calls k a _ away) is)
    | inl here ↦ elim (cases_eq q p) [
      | inr beside ↦ inl (subst (λ b. IsCallAt (old.calls b q) number home ask) (sym here)
          (subst (λ xs. IsCallAt xs number home ask) (put-other (old.calls k) p q _ beside) (subst (λ (f : ℕ → List Asked). IsCallAt (f q) number home ask) (put-same old.calls k a _ here) is)))
      | inl there ↦
          let at : IsCallAt (c ∷ old.calls k p) number home ask = subst (λ xs. IsCallAt xs number home ask) (put-same (old.calls k) p q _ there) (subst (λ (f : ℕ → List Asked). IsCallAt (f q) number home ask) (put-same old.calls k a _ here) is) in
          by_cases (number == length (old.calls k p) + 1) (IsNewCall a q number home ask)
          (λ h. inr (here, subst IsProc (sym there) owner, subst (λ r. IsOpenNumber number (step_procs r).doing) (sym there) (subst (IsOpenNumber number) (sym doing) (next ∙ sym (equal number (length (old.calls k p) + 1) h)))))
          (λ h. inl (subst (λ b. IsCallAt (old.calls b q) number home ask) (sym here) (subst (λ r. IsCallAt (old.calls k r) number home ask) (sym there) (subst (λ b. AsksThis (if b then Some c else numbered number (old.calls k p)) home ask) h at))))
    ]
  ]

-- each call is of one of the four processes
abbrev AreOwnCalls : World → Type 0
AreOwnCalls w = (n p number home : ℕ) (ask : Ask) → IsCallAt (w.calls n p) number home ask → IsProc p

module _ (s : Setup) (setup : IsSetup s) (old : World) (c : Choice) (new : World) (next : IsKeptNext s old c new) (heard : AreHeard s old) (last_calls : AreLastCalls old) where
  open event s old c new next use {after}

  abbrev m : NodeState
  m = acting s setup old c new next heard

  known : (number home : ℕ) (ask : Ask) (a q : ℕ) → IsCallAt (calls_after old c.node next.is.step.call a q) number home ask → IsNewCall old c.node (proc_of next.is.step.node) a q number home ask
  known number home ask a q call = by (did-calls (given s c.node) m (next.calls.four c.node) (setup-procs s setup c.node) c.what next.is.incoming next.is.step
      (incoming-is IsFrameProc tt (λ i tick. tt) (λ tick. tt) (λ x. IsProc x.proc) (λ x is. is) old c.node (λ from. EachOf-more (IsOnLink old.calls from c.node) (λ (x : Message). IsProc x.proc) (old.frames from c.node) (λ x is. is.proc) (next.calls.frames from c.node)) c.what next.is.incoming next.is.comes)
      (event-did s old c new next))
    where
      by : CallStep (given s c.node) m next.is.step → IsNewCall old c.node (proc_of next.is.step.node) a q number home ask
      by (silent none reply stay four) = inl (subst (λ o. IsCallAt (calls_after old c.node o a q) number home ask) none call)
      by (sent_again p o k owner was none frame last now others four) = inl (subst (λ o. IsCallAt (calls_after old c.node o a q) number home ask) none call)
      by (asked p o k owner number_next made frame last now others four) =
          new-call old c.node (proc_of next.is.step.node) p owner o k (number_next ∙ ap (λ i. i + 1) (next.calls.last c.node p owner)) now a q number home ask (subst (λ x. IsCallAt (calls_after old c.node x a q) number home ask) made call)

  abbrev Goal : ℕ → ℕ → ℕ → Type 0
  Goal a q number = IsOpenOrTold (proc_at a q) number (proc_of (after.nodes a) q) (all_told after.trace)

  goal-here : (a q number : ℕ) → a ≡ c.node → IsOpenOrTold (proc_at c.node q) number (proc_of next.is.step.node q) (all_told after.trace) → Goal a q number
  goal-here a q number here is = subst (λ b. Goal b q number) (sym here)
      (subst (λ (x : NodeState). IsOpenOrTold (proc_at c.node q) number (proc_of x q) (all_told after.trace)) (sym (put-same old.nodes c.node c.node next.is.step.node refl)) is)

  goal-away : (a q number : ℕ) → a ≢ c.node → IsOpenNumber number (proc_of (old.nodes a) q).doing → Goal a q number
  goal-away a q number away is = inl (subst (λ (x : NodeState). IsOpenNumber number (proc_of x q).doing) (sym (put-other old.nodes c.node a next.is.step.node away)) is)

  open-on : (q : ℕ) → IsProc q → (number home : ℕ) (ask : Ask) → IsCallAt (old.calls c.node q) number home ask → IsSettling ask → IsOpenNumber number (proc_of m q).doing → ProcStep (given s c.node) m next.is.incoming next.is.step
      → IsOpenOrTold (proc_at c.node q) number (proc_of next.is.step.node q) (all_told after.trace)
  open-on q proc number home ask call settling is (rests all apart) = inl (subst (λ (x : ProcState). IsOpenNumber number x.doing) (sym (all q)) is)
  open-on q proc number home ask call settling is (comes p owner others progress) = elim (cases_eq q p) [
    | inr beside ↦ inl (subst (λ (x : ProcState). IsOpenNumber number x.doing) (sym (others q proc beside)) is)
    | inl there ↦
        subst (λ r. IsOpenOrTold (proc_at c.node r) number (proc_of next.is.step.node r) (all_told after.trace)) (sym there)
        (stays-or-told ((given s c.node).asks p) (proc_at c.node p) m.tick next.is.incoming (proc_of m p) (proc_of next.is.step.node p) (all_told old.trace) (old.calls c.node p) (next.calls.opened c.node p owner) number home ask
        (subst (λ r. IsCallAt (old.calls c.node r) number home ask) there call) settling (subst (λ r. IsOpenNumber number (proc_of m r).doing) there is) next.is.step.note progress)
  ]

  lasting : AreLastCalls after
  lasting a q proc number home ask call settling = elim (known number home ask a q call) [
    | inr fresh ↦ goal-here a q number fresh.0 (inl fresh.2)
    | inl before ↦ elim (last_calls a q proc number home ask before settling) [
      | inr gone ↦ inr (SomeOf-behind (λ (t : Told). (t.proc ≡ proc_at a q) × (t.number ≡ number)) (told_by next.is.step.note) (all_told old.trace) gone)
      | inl is ↦ elim (cases_eq a c.node) [
        | inr away ↦ goal-away a q number away is
        | inl here ↦ goal-here a q number here (open-on q proc number home ask (subst (λ b. IsCallAt (old.calls b q) number home ask) here before) settling
            (subst (λ b. IsOpenNumber number (proc_of (old.nodes b) q).doing) here is) (proc-step s setup old c new next heard))
      ]
    ]
  ]

  -- a call is of one of the four processes
  owned : AreOwnCalls old → AreOwnCalls after
  owned own a q number home ask call = elim (known number home ask a q call) [ inl before ↦ own a q number home ask before | inr fresh ↦ fresh.1 ]

module _ (s : Setup) (setup : IsSetup s) where
  -- in every run
  pub last-calls-are : (cs : List Choice) (w : World) → world_after s cs ≡ Some w → IsTimely w → AreLastCalls w
  last-calls-are = every-kept-run s setup (setup-procs s setup) AreLastCalls (λ n p proc number home ask call settling. absurd call)
      (λ cs old c new e timely next last_calls. subst AreLastCalls (sym next.is.world) (lasting s setup old c new next (heard-are s setup (setup-procs s setup) cs old e timely) last_calls))

  pub calls-of-procs : (cs : List Choice) (w : World) → world_after s cs ≡ Some w → IsTimely w → AreOwnCalls w
  calls-of-procs = every-kept-run s setup (setup-procs s setup) AreOwnCalls (λ n p number home ask call. absurd call)
      (λ cs old c new e timely next own. subst AreOwnCalls (sym next.is.world) (owned s setup old c new next (heard-are s setup (setup-procs s setup) cs old e timely) (last-calls-are cs old e timely) own))
