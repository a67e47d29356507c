-- Each reply of a link fault has eight notices of its call.
use Rattle.std.proofs.Common.{◌≡◌, ◌≢◌, ℕ, zero, suc, ◌+◌, ◌*◌, ◌<◌, ◌≤◌, Bool, true, false, cond, List, [], ◌∷◌, ◌++◌, length, Option, Some, None, inl, inr, refl, sym, ap, subst, ◌∙◌, length-append, arith}
use Rattle.std.specs.Prelude.{◌==◌, ◌⊎◌, ◌&&◌, filter, option_to_list, All, AllPairs}
use Rattle.std.specs.List.{AllByRecursion}
use Rattle.std.proofs.lemmas.List.Elements.{All-from_recursion}
use Rattle.std.proofs.lemmas.Bool.{cases_eq, eq-eqb}
use Rattle.std.proofs.lemmas.Option.{same_Some}
use Rattle.uid_names.proofs.ListLemmas.{by_cases}
use Rattle.uid_names.specs.Names.{ProcName, same_proc}
use Rattle.uid_names.proofs.Passed.{left-true, right-true, equal}
use Rattle.uid_names.proofs.Orders.{same_proc_is}
use Rattle.dom_history.specs.declared.event.What.{What}
use Rattle.dom_history.specs.declared.event.What.TheVariants.{Begin, Go, Take, Notice, Ready, Mark}
use Rattle.dom_history.specs.Events.{Happening}
use Rattle.call_once.specs.Notices.{noticed}
use Rattle.call_once.specs.declared.asking.Noticed.TheVariants.{Resend, GiveUp}
use Rattle.ring_messages.specs.Frames.{Message, caller_of}
use Rattle.fault_handler.specs.Invariant.{IsProc}
use Rattle.fault_handler.proofs.Fours.{by_proc}
use Rattle.node_runs.specs.Setups.{Setup, Given, IsSetup, given}
use Rattle.node_runs.specs.NodeStates.{Asked, Await, BegunOp, OpenOp, ProcState, NodeState, first_node, proc_of}
use Rattle.node_runs.specs.Incomings.{Incoming}
use Rattle.node_runs.specs.Doings.{noticed_call, ticked}
use Rattle.node_runs.specs.Dones.{asking}
use Rattle.node_runs.specs.Agreements.{Agrees}
use Rattle.node_runs.specs.NodesKeep.{IsNodeOf, IsTimely}
use Rattle.node_runs.specs.Runs.{Noted, World, first_world, Choice, put, numbered, told_if, told_of, incoming_of, world_after}
use Rattle.node_runs.specs.Deliveries.{noticed_by, noticed_in}
use Rattle.node_runs.specs.CallsKeep.{EachOf}
use Rattle.node_runs.proofs.SettingUp.{given-procs, setup-gives}
use Rattle.node_runs.proofs.Calls.{put-same, put-other}
use Rattle.node_runs.proofs.CallSteps.{IsUnasking}
use Rattle.node_runs.proofs.Nodes.{node-with}
use Rattle.node_runs.proofs.Worlds.{place_at}
use Rattle.world_runs.specs.Faults.{CallName, same_call, call_if, fault_by, faults_in, call_of_frame, told_call, is_that_call, IsFaultlessNote, tells_call, notices_of}
use Rattle.world_runs.proofs.Alike.{frames-added}
use Rattle.world_runs.proofs.Receiving.{frame-forth}
use Rattle.world_runs.proofs.Telling.{one_if}
use Rattle.world_runs.proofs.Changes.{Left, idle, asks, Change, same, left, IsNoNotice, call_at, Kind, plain, sends, gives, did-kind, did-note}
use Rattle.world_runs.proofs.TimelyRuns.{IsTimelyNext, next-node, next-did, next-received, every-timely-run}

-- names of calls
same-call : (c : CallName) → same_call c c ≡ true
same-call c = ap (λ b. (b && (c.proc.number == c.proc.number)) && (c.number == c.number)) (eq-eqb c.proc.node c.proc.node refl)
    ∙ ap (λ b. b && (c.number == c.number)) (eq-eqb c.proc.number c.proc.number refl) ∙ eq-eqb c.number c.number refl

call-is : (c d : CallName) → same_call c d ≡ true → c ≡ d
call-is c d h =
    let a = same_proc_is c.proc d.proc (left-true _ _ h) in
    let b = equal c.number d.number (right-true (same_proc c.proc d.proc) _ h) in
    ap (λ p. let x : CallName = record { proc = p; number = c.number } in x) a ∙ ap (λ k. let x : CallName = record { proc = d.proc; number = k } in x) b

other-number : (c d : CallName) → c.number ≢ d.number → same_call c d ≡ false
other-number c d differs = by_cases (same_call c d) (same_call c d ≡ false) (λ h. absurd (differs (ap (λ (x : CallName). x.number) (call-is c d h)))) (λ h. h)

-- what becomes of a process's calls, and how many notices of each call the event is
pub data Step (old new : ProcState) (more : ℕ → ℕ) : Type 0 where
  still : new.last ≡ old.last → new.doing ≡ old.doing → ((k : ℕ) → more k ≡ 0) → Step old new more
  ends : Left old new → ((k : ℕ) → more k ≡ 0) → Step old new more
  again : (o : BegunOp) (c : Asked) → old.doing ≡ asking o c → c.waiting.number ≤ old.last → new.last ≡ old.last → new.doing ≡ asking o (noticed_call c)
      → more c.waiting.number ≡ 1 → ((k : ℕ) → k ≢ c.waiting.number → more k ≡ 0) → Step old new more
  closes : (o : BegunOp) (c : Asked) → old.doing ≡ asking o c → c.waiting.number ≤ old.last → Left old new
      → more c.waiting.number ≡ 1 → ((k : ℕ) → k ≢ c.waiting.number → more k ≡ 0) → Step old new more

-- the notices of a process's calls: of its open call as many as it counts, of later ones none
pub record AreNoticedAt (told : ℕ → ℕ) (q : ProcState) : Type 0 where
  pub opened : (o : BegunOp) (c : Asked) → q.doing ≡ asking o c → told c.waiting.number ≡ c.waiting.notices
  pub later : (k : ℕ) → q.last < k → told k ≡ 0

-- a call that a link fault ended: there were eight, and it is open no more
pub record IsFaultAt (told : ℕ → ℕ) (q : ProcState) (k : ℕ) : Type 0 where
  pub eight : told k ≡ 8
  pub made : k ≤ q.last
  pub over : (o : BegunOp) (c : Asked) → q.doing ≡ asking o c → k < c.waiting.number

abbrev awaited_call : Await → Asked → Asked
awaited_call (Await.Answer c) none = c
awaited_call (Await.Page u k) none = none

abbrev call_in : Option OpenOp → Asked → Asked
call_in None none = none
call_in (Some o) none = awaited_call o.awaits none

pub call-same : (o p : BegunOp) (c d : Asked) → asking o c ≡ asking p d → c ≡ d
call-same o p c d e = ap (λ (x : Option OpenOp). call_in x c) e

no-call : (x : Option OpenOp) (o : BegunOp) (c : Asked) → IsUnasking x → x ≡ asking o c → ⊥
no-call x o c none e = subst IsUnasking e none

module _ (told : ℕ → ℕ) (old new : ProcState) where
  left-later : Left old new → old.last ≤ new.last
  left-later (idle equals none) = omega (arith, equals)
  left-later (asks o c doing number notices last) = omega (arith, number, last)

  -- a call that is opened is a new one
  left-open : Left old new → (o : BegunOp) (c : Asked) → new.doing ≡ asking o c → (c.waiting.number ≡ old.last + 1) × (c.waiting.notices ≡ 0)
  left-open (idle equals none) o c doing = absurd (no-call new.doing o c none doing)
  left-open (asks p d is number notices last) o c doing =
      let e = call-same p o d c (sym is ∙ doing) in
      (ap (λ (x : Asked). x.waiting.number) (sym e) ∙ number, ap (λ (x : Asked). x.waiting.notices) (sym e) ∙ notices)

  step-noticed : (more : ℕ → ℕ) → Step old new more → AreNoticedAt told old → AreNoticedAt (λ k. more k + told k) new
  step-noticed more (still last doing none) are = record {
    opened = λ o c e. let a = are.opened o c (sym doing ∙ e) in let b = none c.waiting.number in omega (arith, a, b);
    later = λ k above. let a = are.later k (omega (arith, above, last)) in let b = none k in omega (arith, a, b);
  }
  step-noticed more (ends gone none) are = record {
    opened = λ o c e. let fresh = left-open gone o c e in let a = are.later c.waiting.number (omega (arith, fresh)) in let b = none c.waiting.number in omega (arith, a, b, fresh);
    later = λ k above. let l = left-later gone in let a = are.later k (omega (arith, above, l)) in let b = none k in omega (arith, a, b);
  }
  step-noticed more (again o c was low last doing one none) are = record {
    opened = λ p d e.
        let same = call-same o p (noticed_call c) d (sym doing ∙ e) in
        let a = are.opened o c was in
        subst (λ (x : Asked). more x.waiting.number + told x.waiting.number ≡ x.waiting.notices) same (omega (arith, a, one));
    later = λ k above. let a = are.later k (omega (arith, above, last)) in let b = none k (λ e. absurd (omega (arith, e, above, low, last))) in omega (arith, a, b);
  }
  step-noticed more (closes o c was low gone one none) are = record {
    opened = λ p d e.
        let fresh = left-open gone p d e in
        let a = are.later d.waiting.number (omega (arith, fresh)) in
        let b = none d.waiting.number (λ h. absurd (omega (arith, h, fresh, low))) in omega (arith, a, b, fresh);
    later = λ k above.
        let l = left-later gone in
        let a = are.later k (omega (arith, above, l)) in let b = none k (λ e. absurd (omega (arith, e, above, low, l))) in omega (arith, a, b);
  }

  step-fault : (more : ℕ → ℕ) → Step old new more → (k : ℕ) → IsFaultAt told old k → IsFaultAt (λ i. more i + told i) new k
  step-fault more (still last doing none) k is = record {
    eight = let a = is.eight in let b = none k in omega (arith, a, b);
    made = let a = is.made in omega (arith, a, last);
    over = λ o c e. is.over o c (sym doing ∙ e);
  }
  step-fault more (ends gone none) k is = record {
    eight = let a = is.eight in let b = none k in omega (arith, a, b);
    made = let a = is.made in let l = left-later gone in omega (arith, a, l);
    over = λ o c e. let fresh = left-open gone o c e in let a = is.made in omega (arith, fresh, a);
  }
  step-fault more (again o c was low last doing one none) k is = record {
    eight = let a = is.eight in let v = is.over o c was in let b = none k (λ e. absurd (omega (arith, e, v))) in omega (arith, a, b);
    made = let a = is.made in omega (arith, a, last);
    over = λ p d e. let same = call-same o p (noticed_call c) d (sym doing ∙ e) in subst (λ (x : Asked). k < x.waiting.number) same (is.over o c was);
  }
  step-fault more (closes o c was low gone one none) k is = record {
    eight = let a = is.eight in let v = is.over o c was in let b = none k (λ e. absurd (omega (arith, e, v))) in omega (arith, a, b);
    made = let a = is.made in let l = left-later gone in omega (arith, a, l);
    over = λ p d e. let fresh = left-open gone p d e in let a = is.made in omega (arith, fresh, a);
  }

  -- the call whose last notice it was
  new-fault : (more : ℕ → ℕ) (o : BegunOp) (c : Asked) → old.doing ≡ asking o c → c.waiting.number ≤ old.last → Left old new → more c.waiting.number ≡ 1 → c.waiting.notices + 1 ≡ 8
      → AreNoticedAt told old → IsFaultAt (λ i. more i + told i) new c.waiting.number
  new-fault more o c was low gone one many are = record {
    eight = let a = are.opened o c was in omega (arith, a, one, many);
    made = let l = left-later gone in omega (arith, low, l);
    over = λ p d e. let fresh = left-open gone p d e in omega (arith, fresh, low);
  }

gave-up : (notices : ℕ) → noticed notices ≡ GiveUp → notices ≡ 8
gave-up notices e = by_cases (notices == 8) (notices ≡ 8) (λ h. equal notices 8 h) (λ h. absurd (let f : Resend ≡ GiveUp = sym (ap (λ (b : Bool). cond b GiveUp Resend) h) ∙ e in cc))

-- the frame of a notice is there
abbrev pub FoundAt : World → What → Type 0
FoundAt w (Notice p from to index) = (m : Message) × (numbered index (w.frames from to) ≡ Some m)
FoundAt w what = Unit {0}

-- more frames were sent
abbrev SendsMore : World → World → Type 0
SendsMore old new = (from to k : ℕ) (m : Message) → numbered k (old.frames from to) ≡ Some m → numbered k (new.frames from to) ≡ Some m

module _ (old new : World) (more : SendsMore old new) where
  found-stays : (what : What) → FoundAt old what → FoundAt new what
  found-stays (Begin p) found = tt
  found-stays (Go p) found = tt
  found-stays (Take from index) found = tt
  found-stays (Notice p from to index) (m, found) = (m, more from to index m found)
  found-stays (Ready phase) found = tt
  found-stays (Mark from phase) found = tt

  told-stays : (n : ℕ) (what : What) → FoundAt old what → told_call new n what ≡ told_call old n what
  told-stays n (Begin p) found = refl
  told-stays n (Go p) found = refl
  told-stays n (Take from index) found = refl
  told-stays n (Notice p from to index) (m, found) =
      ap (call_of_frame (record { node = n; number = p })) (more from to index m found) ∙ sym (ap (call_of_frame (record { node = n; number = p })) found)
  told-stays n (Ready phase) found = refl
  told-stays n (Mark from phase) found = refl

  all-found : (es : List Happening) → EachOf (λ e. FoundAt old e.what) es → EachOf (λ e. FoundAt new e.what) es
  all-found [] found = tt
  all-found (e ∷ es) found = (found-stays e.what found.0, all-found es found.1)

  count-stays : (c : CallName) (es : List Happening) → EachOf (λ e. FoundAt old e.what) es → filter (tells_call new c) es ≡ filter (tells_call old c) es
  count-stays c [] found = refl
  count-stays c (e ∷ es) found =
      ap (λ (o : Option CallName). cond (is_that_call c o) (e ∷ filter (tells_call new c) es) (filter (tells_call new c) es)) (told-stays e.place.node e.what found.0)
      ∙ ap (λ (xs : List Happening). cond (tells_call old c e) (e ∷ xs) xs) (count-stays c es found.1)

pub one-more : (b : Bool) (e : Happening) (es : List Happening) → length (cond b (e ∷ es) es) ≡ one_if b + length es
one-more true e es = omega arith
one-more false e es = omega arith

-- what tells of no call, and the call that a notice tells of
none-told : (w : World) (n : ℕ) (what : What) → IsNoNotice what → told_call w n what ≡ None
none-told w n (Begin p) is = refl
none-told w n (Go p) is = refl
none-told w n (Take from index) is = refl
none-told w n (Notice p from to index) is = absurd is
none-told w n (Ready phase) is = refl
none-told w n (Mark from phase) is = refl

abbrev number_in : Incoming → ℕ
number_in (Incoming.Gone number tick) = number
number_in _ = 0

told-number : (p : ProcName) (o : Option Message) (number tick : ℕ) → told_of p o ≡ Some (Incoming.Gone number tick) → (m : Message) × (o ≡ Some m) × (m.number ≡ number)
told-number p None number tick e = absurd (cc)
told-number p (Some m) number tick e = (m, refl, by_test (same_proc (caller_of m) p) e)
  where
    by_test : (b : Bool) → told_if b m ≡ Some (Incoming.Gone number tick) → m.number ≡ number
    by_test true e = ap number_in (same_Some (Incoming.Gone m.number m.tick) (Incoming.Gone number tick) e)
    by_test false e = absurd (cc)

-- the same of counts that are equal
noticed-as : (f g : ℕ → ℕ) (q : ProcState) → ((k : ℕ) → g k ≡ f k) → AreNoticedAt f q → AreNoticedAt g q
noticed-as f g q equals are = record { opened = λ o c e. equals c.waiting.number ∙ are.opened o c e; later = λ k above. equals k ∙ are.later k above }

fault-as : (f g : ℕ → ℕ) (q : ProcState) (k : ℕ) → ((i : ℕ) → g i ≡ f i) → IsFaultAt f q k → IsFaultAt g q k
fault-as f g q k equals is = record { eight = equals k ∙ is.eight; made = is.made; over = is.over }

abbrev pub call_of : ℕ → ℕ → ℕ → CallName
call_of n q k = record { proc = record { node = n; number = q }; number = k }

-- a call that a link fault ended in a world
abbrev pub FaultOf : World → CallName → Type 0
FaultOf w f = IsProc f.proc.number × IsFaultAt (λ k. notices_of w (call_of f.proc.node f.proc.number k)) (proc_of (w.nodes f.proc.node) f.proc.number) f.number

-- each stands once
abbrev pub AreApart : List CallName → Type 0
AreApart [] = Unit {0}
AreApart (f ∷ fs) = AllByRecursion (λ g. same_call f g ≡ false) fs × AreApart fs

-- what timely runs keep of notices and link faults
pub record AreFaults (w : World) : Type 0 where
  pub found : EachOf (λ e. FoundAt w e.what) w.done
  pub told : (n q : ℕ) → IsProc q → AreNoticedAt (λ k. notices_of w (call_of n q k)) (proc_of (w.nodes n) q)
  pub faults : AllByRecursion (FaultOf w) (faults_in w.trace)
  pub once : AreApart (faults_in w.trace)

all-map : {A : Type 0} (P Q : A → Type 0) → ((x : A) → P x → Q x) → (xs : List A) → AllByRecursion P xs → AllByRecursion Q xs
all-map P Q f [] all = tt
all-map P Q f (x ∷ xs) all = (f x all.0, all-map P Q f xs all.1)

module _ (s : Setup) (setup : IsSetup s) (old : World) (c : Choice) (new : World) (turn : IsTimelyNext s old c new) (before : AreFaults old) where
  abbrev n0 : ℕ
  n0 = c.node

  abbrev g : Given
  g = given s n0

  abbrev at_tick : NodeState
  at_tick = ticked (old.nodes n0) turn.is.incoming

  abbrev it : Happening
  it = record { place = place_at c turn.is.step; what = c.what; effects = turn.is.step.effects }

  own-node : IsNodeOf g (old.nodes n0)
  own-node = turn.kept.nodes n0 turn.is.node

  kind : Kind g at_tick turn.is.step c.what turn.is.incoming
  kind =
      did-kind g (setup-gives s setup n0 turn.is.node) at_tick (node-with g (old.nodes n0) at_tick own-node refl refl own-node.side own-node.home own-node.within.side)
      (given-procs g (setup-gives s setup n0 turn.is.node).programs) c.what turn.is.incoming turn.is.step (next-received s old c new turn) (next-did s old c new turn.is)

  sends-more : SendsMore old new
  sends-more from to k m found =
      ap (λ (w : World). numbered k (w.frames from to)) turn.is.world ∙ ap (numbered k) (frames-added old n0 turn.is.step.frame from to)
      ∙ frame-forth k n0 m turn.is.step.frame from to (old.frames from to) found

  abbrev more : CallName → ℕ
  more f = one_if (is_that_call f (told_call new n0 c.what))

  counted : (f : CallName) → notices_of new f ≡ more f + notices_of old f
  counted f =
      ap (λ (es : List Happening). length (filter (tells_call new f) es)) (ap (λ (w : World). w.done) turn.is.world)
      ∙ (one-more (tells_call new f it) it (filter (tells_call new f) old.done)
      ∙ ap (λ (xs : List Happening). more f + length xs) (count-stays old new sends-more f old.done before.found))

  node-is : (n : ℕ) → new.nodes n ≡ put old.nodes n0 turn.is.step.node n
  node-is = next-node s old c new turn.is

  elsewhere : (n q : ℕ) → n ≢ n0 → proc_of (new.nodes n) q ≡ proc_of (old.nodes n) q
  elsewhere n q differs = ap (λ (x : NodeState). proc_of x q) (node-is n ∙ put-other old.nodes n0 n turn.is.step.node differs)

  here : (q : ℕ) → proc_of (new.nodes n0) q ≡ proc_of turn.is.step.node q
  here q = ap (λ (x : NodeState). proc_of x q) (node-is n0 ∙ put-same old.nodes n0 n0 turn.is.step.node refl)

  made-call : (p : ℕ) → IsProc p → (o : BegunOp) (d : Asked) → (proc_of (old.nodes n0) p).doing ≡ asking o d → d.waiting.number ≤ (proc_of (old.nodes n0) p).last
  made-call p proc o d doing =
      let agrees : Agrees (old.nodes n0).desk p (proc_of (old.nodes n0) p).last (asking o d) = subst (Agrees (old.nodes n0).desk p (proc_of (old.nodes n0) p).last) doing (own-node.agrees p proc) in
      let e = (agrees.1.1).number in omega (arith, e)

  -- a process of another node, or one that the event leaves
  unmoved : (n q : ℕ) → proc_of (new.nodes n) q ≡ proc_of (old.nodes n) q → ((k : ℕ) → more (call_of n q k) ≡ 0) → Step (proc_of (old.nodes n) q) (proc_of (new.nodes n) q) (λ k. more (call_of n q k))
  unmoved n q equals none = still (ap (λ (x : ProcState). x.last) equals) (ap (λ (x : ProcState). x.doing) equals) none

  plain-step : IsNoNotice c.what → ((q : ℕ) → IsProc q → Change (proc_of at_tick q) (proc_of turn.is.step.node q)) → (n q : ℕ) → IsProc q → Step (proc_of (old.nodes n) q) (proc_of (new.nodes n) q) (λ k. more (call_of n q k))
  plain-step quiet changes n q proc = elim (cases_eq n n0) [
    | inr differs ↦ unmoved n q (elsewhere n q differs) (λ k. none (call_of n q k))
    | inl equals ↦
        subst (λ m. Step (proc_of (old.nodes m) q) (proc_of (new.nodes m) q) (λ k. more (call_of m q k))) (sym equals)
        (subst (λ (x : ProcState). Step (proc_of (old.nodes n0) q) x (λ k. more (call_of n0 q k))) (sym (here q)) (by_change (proc_of turn.is.step.node q) (changes q proc)))
  ]
    where
      none : (f : CallName) → more f ≡ 0
      none f = ap (λ (o : Option CallName). one_if (is_that_call f o)) (none-told new n0 c.what quiet)

      by_change : (x : ProcState) → Change (proc_of at_tick q) x → Step (proc_of (old.nodes n0) q) x (λ k. more (call_of n0 q k))
      by_change x (same last doing) = still last doing (λ k. none (call_of n0 q k))
      by_change x (left gone) = ends gone (λ k. none (call_of n0 q k))

  -- a notice of an open call
  module _ (p number : ℕ) (proc : IsProc p) (o : BegunOp) (d : Asked) (doing : (proc_of (old.nodes n0) p).doing ≡ asking o d) (told : told_call new n0 c.what ≡ Some (call_of n0 p d.waiting.number)) where
    more-is : (f : CallName) → more f ≡ one_if (same_call f (call_of n0 p d.waiting.number))
    more-is f = ap (λ (x : Option CallName). one_if (is_that_call f x)) told

    own-one : more (call_of n0 p d.waiting.number) ≡ 1
    own-one = more-is (call_of n0 p d.waiting.number) ∙ ap one_if (same-call (call_of n0 p d.waiting.number))

    own-none : (k : ℕ) → k ≢ d.waiting.number → more (call_of n0 p k) ≡ 0
    own-none k differs = more-is (call_of n0 p k) ∙ ap one_if (other-number (call_of n0 p k) (call_of n0 p d.waiting.number) differs)

    other-none : (n q k : ℕ) → ((n ≡ n0) → (q ≡ p) → ⊥) → more (call_of n q k) ≡ 0
    other-none n q k differs =
        more-is (call_of n q k)
        ∙ ap one_if (by_cases (same_call (call_of n q k) (call_of n0 p d.waiting.number)) (same_call (call_of n q k) (call_of n0 p d.waiting.number) ≡ false)
        (λ h. absurd (let e = call-is (call_of n q k) (call_of n0 p d.waiting.number) h in differs (ap (λ (x : CallName). x.proc.node) e) (ap (λ (x : CallName). x.proc.number) e)))
        (λ h. h))

    notice-step : (Step (proc_of (old.nodes n0) p) (proc_of turn.is.step.node p) (λ k. more (call_of n0 p k))) → ((q : ℕ) → IsProc q → q ≢ p → proc_of turn.is.step.node q ≡ proc_of (old.nodes n0) q)
        → (n q : ℕ) → IsProc q → Step (proc_of (old.nodes n) q) (proc_of (new.nodes n) q) (λ k. more (call_of n q k))
    notice-step own others n q other = elim (cases_eq n n0) [
      | inr differs ↦ unmoved n q (elsewhere n q differs) (λ k. other-none n q k (λ e f. differs e))
      | inl equals ↦
          subst (λ m. Step (proc_of (old.nodes m) q) (proc_of (new.nodes m) q) (λ k. more (call_of m q k))) (sym equals) (elim (cases_eq q p) [
            | inr differs ↦ unmoved n0 q (here q ∙ others q other differs) (λ k. other-none n0 q k (λ e f. differs f))
            | inl at ↦
                subst (λ r. Step (proc_of (old.nodes n0) r) (proc_of (new.nodes n0) r) (λ k. more (call_of n0 r k))) (sym at)
                (subst (λ (x : ProcState). Step (proc_of (old.nodes n0) p) x (λ k. more (call_of n0 p k))) (sym (here p)) own)
          ])
    ]

  told-this : (p from to index number tick : ℕ) → c.what ≡ Notice p from to index → turn.is.incoming ≡ Incoming.Gone number tick → told_call new n0 c.what ≡ Some (call_of n0 p number)
  told-this p from to index number tick what incoming =
      let came : incoming_of old n0 (Notice p from to index) ≡ Some (Incoming.Gone number tick) =
      ap (λ (x : What). incoming_of old n0 x) (sym what) ∙ (turn.is.comes ∙ ap (λ (i : Incoming). Some i) incoming) in
      let found = told-number (record { node = n0; number = p }) (numbered index (old.frames from to)) number tick came in
      ap (λ (x : What). told_call new n0 x) what
      ∙ (ap (call_of_frame (record { node = n0; number = p })) (sends-more from to index found.0 found.1)
      ∙ ap (λ (k : ℕ). Some (call_of n0 p k)) found.2)

  -- a call that a link fault ends now
  abbrev IsNew : CallName → Type 0
  IsNew f =
      IsProc f.proc.number
      × IsFaultAt (λ k. more (call_of f.proc.node f.proc.number k) + notices_of old (call_of f.proc.node f.proc.number k)) (proc_of (new.nodes f.proc.node) f.proc.number) f.number
      × ((h : CallName) → FaultOf old h → same_call f h ≡ false)

  abbrev Ends : Type 0
  Ends = (fault_by turn.is.step.note ≡ []) ⊎ ((f : CallName) × (fault_by turn.is.step.note ≡ f ∷ []) × IsNew f)

  abbrev Steps : Type 0
  Steps = (n q : ℕ) → IsProc q → Step (proc_of (old.nodes n) q) (proc_of (new.nodes n) q) (λ k. more (call_of n q k))

  given-up : (p : ℕ) → IsProc p → (o : BegunOp) (d : Asked) → (proc_of (old.nodes n0) p).doing ≡ asking o d → noticed (d.waiting.notices + 1) ≡ GiveUp → Left (proc_of (old.nodes n0) p) (proc_of turn.is.step.node p)
      → told_call new n0 c.what ≡ Some (call_of n0 p d.waiting.number) → (fault : Bool) → fault_by turn.is.step.note ≡ call_if fault (call_at g p d.waiting.number) → Ends
  given-up p proc o d doing answer gone told false is = inl is
  given-up p proc o d doing answer gone told true is = inr (
    call_at g p d.waiting.number,
    is,
    (
      proc,
      subst (λ (x : ProcState). IsFaultAt (λ k. more (call_of n0 p k) + notices_of old (call_of n0 p k)) x d.waiting.number) (sym (here p))
          (new-fault (λ k. notices_of old (call_of n0 p k)) (proc_of (old.nodes n0) p) (proc_of turn.is.step.node p) (λ k. more (call_of n0 p k)) o d doing (made-call p proc o d doing) gone
          (own-one p d.waiting.number proc o d doing told) (gave-up (d.waiting.notices + 1) answer) (before.told n0 p proc)),
      other,
    ),
  )
    where
      other : (h : CallName) → FaultOf old h → same_call (call_at g p d.waiting.number) h ≡ false
      other h is_fault = by_cases (same_call (call_at g p d.waiting.number) h) (same_call (call_at g p d.waiting.number) h ≡ false)
          (λ e.
          let equals = call-is (call_at g p d.waiting.number) h e in
          let is_own : FaultOf old (call_of n0 p d.waiting.number) = subst (FaultOf old) (sym equals) is_fault in
          let v = is_own.1.over o d doing in absurd (omega (arith, v)))
          (λ e. e)

  by-kind : (what : What) (incoming : Incoming) → c.what ≡ what → turn.is.incoming ≡ incoming → Kind g at_tick turn.is.step what incoming → Steps × Ends
  by-kind what incoming is comes (plain w i quiet changes none) = (plain-step (subst IsNoNotice (sym is) quiet) changes, inl none)
  by-kind what incoming is comes (sends p from to index number tick o d proc doing equals last now others none) =
      let told : told_call new n0 c.what ≡ Some (call_of n0 p d.waiting.number) = told-this p from to index number tick is comes ∙ ap (λ k. Some (call_of n0 p k)) equals in (
        notice-step p number proc o d doing told
            (again o d doing (made-call p proc o d doing) last now (own-one p number proc o d doing told) (own-none p number proc o d doing told)) others,
        inl none,
      )
  by-kind what incoming is comes (gives p from to index number tick o d fault proc doing equals answer gone others left_is) =
      let told : told_call new n0 c.what ≡ Some (call_of n0 p d.waiting.number) = told-this p from to index number tick is comes ∙ ap (λ k. Some (call_of n0 p k)) equals in (
        notice-step p number proc o d doing told
            (closes o d doing (made-call p proc o d doing) gone (own-one p number proc o d doing told) (own-none p number proc o d doing told)) others,
        given-up p proc o d doing answer gone told fault left_is,
      )

  found-now : (what : What) (i : Incoming) → incoming_of old n0 what ≡ Some i → FoundAt old what
  found-now (Begin p) i e = tt
  found-now (Go p) i e = tt
  found-now (Take from index) i e = tt
  found-now (Notice p from to index) i e = let found = told-some (record { node = n0; number = p }) (numbered index (old.frames from to)) i e in found
    where
      told-some : (q : ProcName) (x : Option Message) (j : Incoming) → told_of q x ≡ Some j → (m : Message) × (x ≡ Some m)
      told-some q None j e = absurd (cc)
      told-some q (Some m) j e = (m, refl)
  found-now (Ready phase) i e = tt
  found-now (Mark from phase) i e = tt

  module _ (steps : Steps) where
    later-told : (n q : ℕ) → IsProc q → AreNoticedAt (λ k. notices_of new (call_of n q k)) (proc_of (new.nodes n) q)
    later-told n q proc =
        noticed-as (λ k. more (call_of n q k) + notices_of old (call_of n q k)) (λ k. notices_of new (call_of n q k)) (proc_of (new.nodes n) q) (λ k. counted (call_of n q k))
        (step-noticed (λ k. notices_of old (call_of n q k)) (proc_of (old.nodes n) q) (proc_of (new.nodes n) q) (λ k. more (call_of n q k)) (steps n q proc) (before.told n q proc))

    later-fault : (f : CallName) → FaultOf old f → FaultOf new f
    later-fault f (proc, is) =
        let n = f.proc.node in let q = f.proc.number in (
          proc,
          fault-as (λ k. more (call_of n q k) + notices_of old (call_of n q k)) (λ k. notices_of new (call_of n q k)) (proc_of (new.nodes n) q) f.number (λ k. counted (call_of n q k))
              (step-fault (λ k. notices_of old (call_of n q k)) (proc_of (old.nodes n) q) (proc_of (new.nodes n) q) (λ k. more (call_of n q k)) (steps n q proc) f.number is),
        )

    abbrev AreLater : List CallName → Type 0
    AreLater fs = AllByRecursion (FaultOf new) fs × AreApart fs

    old-later : AllByRecursion (FaultOf new) (faults_in old.trace)
    old-later = all-map (FaultOf old) (FaultOf new) later-fault (faults_in old.trace) before.faults

    by-end : Ends → AreLater (fault_by turn.is.step.note ++ faults_in old.trace)
    by-end (inl none) = subst (λ (fs : List CallName). AreLater (fs ++ faults_in old.trace)) (sym none) (old-later, before.once)
    by-end (inr (f, one, is)) =
        let n = f.proc.node in let q = f.proc.number in
        let new_one : FaultOf new f =
        (is.0, fault-as (λ k. more (call_of n q k) + notices_of old (call_of n q k)) (λ k. notices_of new (call_of n q k)) (proc_of (new.nodes n) q) f.number (λ k. counted (call_of n q k)) is.1) in
        subst (λ (fs : List CallName). AreLater (fs ++ faults_in old.trace)) (sym one)
        ((new_one, old-later), (all-map (FaultOf old) (λ h. same_call f h ≡ false) is.2 (faults_in old.trace) before.faults, before.once))

  pub later-faults : AreFaults new
  later-faults =
      let both = by-kind c.what turn.is.incoming refl refl kind in
      let ends = by-end both.0 both.1 in
      record {
        found = subst (λ (es : List Happening). EachOf (λ e. FoundAt new e.what) es) (sym (ap (λ (w : World). w.done) turn.is.world))
            (found-stays old new sends-more c.what (found-now c.what turn.is.incoming turn.is.comes), all-found old new sends-more old.done before.found);
        told = later-told both.0;
        faults = subst (λ (x : List Noted). AllByRecursion (FaultOf new) (faults_in x)) (sym (ap (λ (w : World). w.trace) turn.is.world)) ends.0;
        once = subst (λ (x : List Noted). AreApart (faults_in x)) (sym (ap (λ (w : World). w.trace) turn.is.world)) ends.1;
      }

-- at the start no call is open, and none was noticed
none-told-at : (told : ℕ → ℕ) (q : ProcState) → q.doing ≡ None → ((k : ℕ) → told k ≡ 0) → AreNoticedAt told q
none-told-at told q none zero_all = record { opened = λ o c e. absurd (let f = sym none ∙ e in cc); later = λ k above. zero_all k }

module _ (s : Setup) (setup : IsSetup s) where
  first-told : (n q : ℕ) → IsProc q → AreNoticedAt (λ k. notices_of (first_world s) (call_of n q k)) (proc_of (first_node (given s n)) q)
  first-told n = by_proc (λ q. AreNoticedAt (λ k. notices_of (first_world s) (call_of n q k)) (proc_of (first_node (given s n)) q))
      (none-told-at _ _ refl (λ k. refl)) (none-told-at _ _ refl (λ k. refl)) (none-told-at _ _ refl (λ k. refl)) (none-told-at _ _ refl (λ k. refl))

  pub runs-fault : (cs : List Choice) (w : World) → world_after s cs ≡ Some w → IsTimely w → AreFaults w
  runs-fault = every-timely-run s setup AreFaults (record { found = tt; told = first-told; faults = tt; once = tt }) (later-faults s setup)

-- the reply of what is done at a desk is none of a link fault
pub record AreFaultless (w : World) : Type 0 where
  pub notes : AllByRecursion (λ x. IsFaultlessNote x.note) w.trace

module _ (s : Setup) (setup : IsSetup s) where
  later-faultless : (old : World) (c : Choice) (new : World) → IsTimelyNext s old c new → AreFaultless old → AreFaultless new
  later-faultless old c new turn before =
      let g = given s c.node in
      let own = turn.kept.nodes c.node turn.is.node in
      let note = did-note g (setup-gives s setup c.node turn.is.node) (ticked (old.nodes c.node) turn.is.incoming)
      (node-with g (old.nodes c.node) (ticked (old.nodes c.node) turn.is.incoming) own refl refl own.side own.home own.within.side)
      (given-procs g (setup-gives s setup c.node turn.is.node).programs) c.what turn.is.incoming turn.is.step (next-received s old c new turn) (next-did s old c new turn.is) in
      record { notes = subst (λ (w : World). AllByRecursion (λ x. IsFaultlessNote x.note) w.trace) (sym turn.is.world) (note, before.notes) }

  pub runs-faultless : (cs : List Choice) (w : World) → world_after s cs ≡ Some w → IsTimely w → AreFaultless w
  runs-faultless = every-timely-run s setup AreFaultless (record { notes = tt }) later-faultless

-- a sum over a list
abbrev total : {A : Type 0} → (A → ℕ) → List A → ℕ
total f [] = 0
total f (x ∷ xs) = f x + total f xs

total-eight : {A : Type 0} (f : A → ℕ) (xs : List A) → AllByRecursion (λ x. f x ≡ 8) xs → total f xs ≡ 8 * length xs
total-eight f [] all = refl
total-eight f (x ∷ xs) all = let a = all.0 in let e = total-eight f xs all.1 in omega (arith, a, e)

-- of calls that stand once, an event tells of one at most
apart-none : (o : CallName) (fs : List CallName) → AllByRecursion (λ g. same_call o g ≡ false) fs → total (λ f. one_if (same_call f o)) fs ≡ 0
apart-none o [] all = refl
apart-none o (f ∷ fs) all =
    let e = apart-none o fs all.1 in
    let h : same_call f o ≡ false = by_cases (same_call f o) (same_call f o ≡ false) (λ y. absurd (let t = subst (λ x. same_call o x ≡ false) (call-is f o y) all.0 in let u = same-call o in cc)) (λ y. y) in
    let one = ap one_if h in omega (arith, e, one)

apart-one : (o : CallName) (fs : List CallName) → AreApart fs → total (λ f. one_if (same_call f o)) fs ≤ 1
apart-one o [] apart = omega arith
apart-one o (f ∷ fs) apart = by_cases (same_call f o) (total (λ g. one_if (same_call g o)) (f ∷ fs) ≤ 1)
    (λ h.
    let none = apart-none o fs (subst (λ x. AllByRecursion (λ g. same_call x g ≡ false) fs) (call-is f o h) apart.0) in
    let one = ap one_if h in omega (arith, none, one))
    (λ h. let e = apart-one o fs apart.1 in let one = ap one_if h in omega (arith, e, one))

none-total : (fs : List CallName) → total (λ f. 0) fs ≡ 0
none-total [] = refl
none-total (f ∷ fs) = let e = none-total fs in omega (arith, e)

-- notices of calls that stand once are notices
module _ (w : World) (fs : List CallName) (apart : AreApart fs) where
  told-total : (o : Option CallName) → total (λ f. one_if (is_that_call f o)) fs ≤ length (option_to_list o)
  told-total None = let e = none-total fs in omega (arith, e)
  told-total (Some o) = apart-one o fs apart

  event-total : (n : ℕ) (what : What) → total (λ f. one_if (is_that_call f (told_call w n what))) fs ≤ length (noticed_by what)
  event-total n (Begin p) = told-total None
  event-total n (Go p) = told-total None
  event-total n (Take from index) = told-total None
  event-total n (Notice p from to index) = by_frame (numbered index (w.frames from to))
    where
      by_frame : (x : Option Message) → total (λ f. one_if (is_that_call f (call_of_frame (record { node = n; number = p }) x))) fs ≤ 1
      by_frame None = let e = none-total fs in omega (arith, e)
      by_frame (Some m) = apart-one (record { proc = record { node = n; number = p }; number = m.number }) fs apart
  event-total n (Ready phase) = told-total None
  event-total n (Mark from phase) = told-total None

  sum-two : {A : Type 0} (f g h : A → ℕ) (xs : List A) → ((x : A) → f x ≡ g x + h x) → total f xs ≡ total g xs + total h xs
  sum-two f g h [] equals = refl
  sum-two f g h (x ∷ xs) equals = let a = equals x in let e = sum-two f g h xs equals in omega (arith, a, e)

  notices-total : (es : List Happening) → total (λ f. length (filter (tells_call w f) es)) fs ≤ length (noticed_in es)
  notices-total [] = let e = none-total fs in omega (arith, e)
  notices-total (e ∷ es) =
      let rest = notices-total es in
      let now = event-total e.place.node e.what in
      let two = sum-two (λ f. length (filter (tells_call w f) (e ∷ es))) (λ f. one_if (tells_call w f e)) (λ f. length (filter (tells_call w f) es)) fs (λ f. one-more (tells_call w f e) e (filter (tells_call w f) es)) in
      let all = length-append (noticed_by e.what) (noticed_in es) in
      omega (arith, rest, now, two, all)

-- eight times as many notices as link faults, at least
pub eight-times : (w : World) → AreFaults w → 8 * length (faults_in w.trace) ≤ length (noticed_in w.done)
eight-times w are =
    let sum = notices-total w (faults_in w.trace) are.once w.done in
    let eight = total-eight (notices_of w) (faults_in w.trace) (all-map (FaultOf w) (λ f. notices_of w f ≡ 8) (λ f is. is.1.eight) (faults_in w.trace) are.faults) in
    omega (arith, sum, eight)

-- what stands once, by places
pub apart-pairs : (fs : List CallName) → AreApart fs → AllPairs (λ c d. same_call c d ≡ false) fs
apart-pairs [] apart i j d low high = absurd (omega (arith, high))
apart-pairs (f ∷ fs) apart zero zero d low high = absurd (omega (arith, low))
apart-pairs (f ∷ fs) apart zero (suc j) d low high = All-from_recursion (λ g. same_call f g ≡ false) fs apart.0 j d (omega (arith, high))
apart-pairs (f ∷ fs) apart (suc i) zero d low high = absurd (omega (arith, low))
apart-pairs (f ∷ fs) apart (suc i) (suc j) d low high = apart-pairs fs apart.1 i j d (omega (arith, low)) (omega (arith, high))

pub eight-each : (w : World) → AreFaults w → All (λ c. notices_of w c ≡ 8) (faults_in w.trace)
eight-each w are = All-from_recursion (λ c. notices_of w c ≡ 8) (faults_in w.trace) (all-map (FaultOf w) (λ f. notices_of w f ≡ 8) (λ f is. is.1.eight) (faults_in w.trace) are.faults)

pub faultless-each : (w : World) → AreFaultless w → All (λ x. IsFaultlessNote x.note) w.trace
faultless-each w are = All-from_recursion (λ x. IsFaultlessNote x.note) w.trace are.notes
