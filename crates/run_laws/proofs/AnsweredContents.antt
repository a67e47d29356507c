-- The open call that an answer is of, which its desk takes, and what the answer tells.
use Rattle.std.proofs.Common.{◌≡◌, ℕ, Bool, true, false, List, [], ◌∷◌, Option, Some, None, inl, inr, refl, sym, ap, subst, ◌∙◌}
use Rattle.std.proofs.lemmas.Option.{same_Some}
use Rattle.uid_names.specs.Names.{ProcName, ObjectName}
use Rattle.uid_names.specs.declared.ids.Place.{Place}
use Rattle.dom_history.specs.Histories.{SomeOf}
use Rattle.page_cache.specs.Caches.{Resident, page_at}
use Rattle.ring_messages.specs.Bodies.{Ask, Answer}
use Rattle.fault_handler.specs.declared.tasks.Task.{Task}
use Rattle.fault_handler.specs.declared.transits.Transit.{Transit}
use Rattle.fault_handler.specs.declared.open_call.OpenCall.TheVariants as calls
use Rattle.fault_handler.specs.Lengths.{known_of, changed_length}
use Rattle.fault_handler.specs.Tasks.{page_of}
use Rattle.fault_handler.specs.Transits.{coming, going}
use Rattle.fault_handler.specs.Desks.{DeskState, task_of, moving_of, open_call_of}
use Rattle.fault_handler.specs.PageReplies.{PageAnswer, answer_inward, answer_outward, answer_by, answer_with}
use Rattle.fault_handler.specs.LockCalls.{LockCall, LockAnswer, lock_answer, open_call}
use Rattle.fault_handler.specs.Next.{IsCallOf, IsRequestOf}
use Rattle.fault_handler.specs.Invariant.{IsProc, IsDesk}
use Rattle.lock_validate.specs.Causes.{Cause, MayCome, IsOf}
use Rattle.lock_validate.specs.Told.{told_stamp}
use Rattle.lock_validate.proofs.PageSaid.{page-said}
use Rattle.node_runs.specs.Setups.{Setup, given}
use Rattle.node_runs.specs.NodeStates.{Asked, Await, BegunOp, OpenOp, proc_of}
use Rattle.node_runs.specs.Dones.{asking}
use Rattle.node_runs.specs.Outcomes.{Stage}
use Rattle.node_runs.specs.Agreements.{IsCalling, Agrees}
use Rattle.node_runs.specs.Notes.{Note}
use Rattle.node_runs.specs.Runs.{World, Noted, Choice, numbered}
use Rattle.node_runs.specs.CallsKeep.{IsCallAt, EachOf, IsOpenAt}
use Rattle.node_runs.specs.DecidedCalls.{IsDecided}
use Rattle.run_laws.specs.DecidedReplies.{proc_at, IsAnswerOf, WasAnswered}
use Rattle.run_laws.specs.LastCalls.{HasNumber, IsOpenNumber}
use Rattle.run_laws.proofs.HearingRuns.{IsKeptNext, event}
use Rattle.run_laws.specs.DeskSteps.{Takes, IsTaken, IsAt}
use Rattle.run_laws.specs.AskedHomes.{IsAtHome, IsOpenAtHome, AreOpenAtHomes}
use Rattle.run_laws.specs.OpenCalls.{HasSent, IsPageSent, Carries, CarriesOpen, AreCarried}
use Rattle.run_laws.proofs.EndedOps.{op-request}
use Rattle.run_laws.proofs.GoingPages.{going-uid, going-page, not-coming}
use Rattle.run_laws.proofs.ToldAnswers.{taken-decided}
use Rattle.run_laws.proofs.HomeEffects.{same-home}
use Rattle.run_laws.specs.Items.{Item, Value, page_value, write_of}
use Rattle.run_laws.specs.Stamps.{TellsItem, IsItemTold, AreStamped}
use Rattle.run_laws.specs.Writes.{IsStillSent, IsUnchanged, IsAcknowledged}
use Rattle.run_laws.proofs.ItemSteps.{Cleans}
use Rattle.run_laws.proofs.Given.{NoteHas}
use Rattle.run_laws.proofs.Traces.{told-of, stamps-told}

-- a process's open call was answered so
pub record IsAnswering (w : World) (a p : ℕ) (o : BegunOp) (x : Answer) : Type 0 where
  pub call : Asked
  pub doing : (proc_of (w.nodes a) p).doing ≡ asking o call
  pub calling : IsCalling (w.nodes a).desk p o.op call.ask
  pub made : IsCallAt (w.calls a p) call.waiting.number call.home call.ask
  pub at_home : IsAtHome call.home call.ask
  pub answered : WasAnswered w.trace call.home (proc_at a p) call.waiting.number x
  pub carries : Carries (w.nodes a).desk p call.ask

-- the answers that say so to a load or store
abbrev IsSaidBy : PageAnswer → Answer → Type 0
IsSaidBy (PageAnswer.Came task stamp bytes) x = x ≡ Answer.Page stamp bytes
IsSaidBy (PageAnswer.Taken task r stamp) x = x ≡ Answer.Stored stamp
IsSaidBy (PageAnswer.NotTaken task r stamp) x = x ≡ Answer.Stale stamp

pub answer-said : (pages : List Resident) (o : Option Task) (t : Option Transit) (x : Answer) (a : PageAnswer) → answer_with pages o t x ≡ Some a → IsSaidBy a x
answer-said pages None t x a e = absurd (cc)
answer-said pages (Some task) None x a e = absurd (cc)
answer-said pages (Some task) (Some t) x a e = by t.inward e
  where
    outward : (r : Option Resident) (x : Answer) → answer_outward task r x ≡ Some a → IsSaidBy a x
    outward None x e = absurd (cc)
    outward (Some r) (Answer.Stored stamp) e = subst (λ b. IsSaidBy b (Answer.Stored stamp)) (same_Some (PageAnswer.Taken task r stamp) a e) refl
    outward (Some r) (Answer.Stale stamp) e = subst (λ b. IsSaidBy b (Answer.Stale stamp)) (same_Some (PageAnswer.NotTaken task r stamp) a e) refl
    outward (Some r) x e = absurd (cc)

    inward : (x : Answer) → answer_inward task x ≡ Some a → IsSaidBy a x
    inward (Answer.Page stamp bytes) e = subst (λ b. IsSaidBy b (Answer.Page stamp bytes)) (same_Some (PageAnswer.Came task stamp bytes) a e) refl
    inward x e = absurd (cc)

    by : (b : Bool) → answer_by pages task t b x ≡ Some a → IsSaidBy a x
    by true e = inward x e
    by false e = outward (page_at pages t.uid t.page) x e

-- what a call that sends a page home carries
pub record IsPageOf (d : DeskState) (p : ℕ) (u : ObjectName) (k : ℕ) (ask : Ask) : Type 0 where
  pub grant : ℕ
  pub base : ℕ
  pub bytes : List ℕ
  pub is : ask ≡ Ask.PageOut u k grant base bytes
  pub sent : IsPageSent d p u k grant base bytes

no-transit : {X : Type 0} (o t : Option Transit) → o ≡ None → o ≡ t → (t ≡ None → X) → X
no-transit o t none is never = never (sym is ∙ none)

pub page-sent : (d : DeskState) (p : ℕ) (u : ObjectName) (k : ℕ) (ask : Ask) → moving_of d p ≡ going u k → Carries d p ask → IsPageOf d p u k ask
page-sent d p u k (Ask.PageOut v j grant base bytes) goes carries =
    let a : v ≡ u = going-uid v j u k (sym carries.moves ∙ goes) in
    let i : j ≡ k = going-page v j u k (sym carries.moves ∙ goes) in
    subst (λ w. IsPageOf d p w k (Ask.PageOut v j grant base bytes)) a (subst (λ h. IsPageOf d p v h (Ask.PageOut v j grant base bytes)) i (record { grant = grant; base = base; bytes = bytes; is = refl; sent = carries }))
page-sent d p u k (Ask.PageIn v j) goes carries = not-coming v j u k (sym carries ∙ goes)
page-sent d p u k (Ask.AttrOut v n grant base) goes carries = no-transit (moving_of d p) (going u k) carries.still goes (λ e. absurd (cc))
page-sent d p u k (Ask.Lock v m) goes carries = no-transit (moving_of d p) (going u k) carries.0 goes (λ e. absurd (cc))
page-sent d p u k (Ask.Unlock v) goes carries = no-transit (moving_of d p) (going u k) carries.0 goes (λ e. absurd (cc))
page-sent d p u k (Ask.Remove v) goes carries = no-transit (moving_of d p) (going u k) carries.0 goes (λ e. absurd (cc))
page-sent d p u k (Ask.Make kind room) goes carries = no-transit (moving_of d p) (going u k) carries goes (λ e. absurd (cc))
page-sent d p u k (Ask.ListLocks from) goes carries = no-transit (moving_of d p) (going u k) carries goes (λ e. absurd (cc))

pub page-asked : (d : DeskState) (p : ℕ) (u : ObjectName) (k : ℕ) (ask : Ask) → moving_of d p ≡ coming u k → Carries d p ask → ask ≡ Ask.PageIn u k
page-asked d p u k (Ask.PageIn v j) comes carries =
    let same : coming v j ≡ coming u k = sym carries ∙ comes in
    ap (λ (t : Transit). Ask.PageIn t.uid t.page) (same_Some (record { uid = v; page = j; inward = true }) (record { uid = u; page = k; inward = true }) same)
page-asked d p u k (Ask.PageOut v j grant base bytes) comes carries = not-coming u k v j (sym comes ∙ carries.moves)
page-asked d p u k (Ask.AttrOut v n grant base) comes carries = no-transit (moving_of d p) (coming u k) carries.still comes (λ e. absurd (cc))
page-asked d p u k (Ask.Lock v m) comes carries = no-transit (moving_of d p) (coming u k) carries.0 comes (λ e. absurd (cc))
page-asked d p u k (Ask.Unlock v) comes carries = no-transit (moving_of d p) (coming u k) carries.0 comes (λ e. absurd (cc))
page-asked d p u k (Ask.Remove v) comes carries = no-transit (moving_of d p) (coming u k) carries.0 comes (λ e. absurd (cc))
page-asked d p u k (Ask.Make kind room) comes carries = no-transit (moving_of d p) (coming u k) carries comes (λ e. absurd (cc))
page-asked d p u k (Ask.ListLocks from) comes carries = no-transit (moving_of d p) (coming u k) carries comes (λ e. absurd (cc))

-- the answers that settle a page or a length that was sent, and a removal
pub page-stored : (call : LockCall) (x : Answer) (u : ObjectName) (delete : Bool) (stamp : ℕ) → lock_answer call x ≡ Some (LockAnswer.PageSettled u delete true stamp) → x ≡ Answer.Stored stamp
page-stored (LockCall.PageOut v k del) (Answer.Stored s) u delete stamp says = ap Answer.Stored (ap (settled_stamp s) (same_Some (LockAnswer.PageSettled v del true s) (LockAnswer.PageSettled u delete true stamp) says))
  where
    settled_stamp : ℕ → LockAnswer → ℕ
    settled_stamp other (LockAnswer.PageSettled a b c d) = d
    settled_stamp other _ = other
page-stored (LockCall.PageOut v k del) (Answer.Stale s) u delete stamp says = absurd (cc)
page-stored (LockCall.Lock v m) (Answer.Granted g s kind r l) u delete stamp says = absurd (cc)
page-stored (LockCall.Lock v m) (Answer.Conflict q held) u delete stamp says = absurd (cc)
page-stored (LockCall.Lock v m) Answer.NoObject u delete stamp says = absurd (cc)
page-stored (LockCall.AttrOut v l del) (Answer.Stored s) u delete stamp says = absurd (cc)
page-stored (LockCall.AttrOut v l del) (Answer.Stale s) u delete stamp says = absurd (cc)
page-stored (LockCall.Unlock v) Answer.Done u delete stamp says = absurd (cc)
page-stored (LockCall.Remove v) Answer.Done u delete stamp says = absurd (cc)
page-stored call x u delete stamp says = absurd (cc)

abbrev length_fields : ObjectName × ℕ × ℕ → LockAnswer → ObjectName × ℕ × ℕ
length_fields other (LockAnswer.LengthSettled a b c d e) = (a, b, e)
length_fields other _ = other

pub length-stored : (call : LockCall) (x : Answer) (u : ObjectName) (n : ℕ) (delete : Bool) (stamp : ℕ) → lock_answer call x ≡ Some (LockAnswer.LengthSettled u n delete true stamp) → (del : Bool) × (call ≡ LockCall.AttrOut u n del) × (x ≡ Answer.Stored stamp)
length-stored (LockCall.AttrOut v l del) (Answer.Stored s) u n delete stamp says =
    let all : ◌≡◌ {A = ObjectName × ℕ × ℕ} (v, l, s) (u, n, stamp) = ap (length_fields (v, l, s)) (same_Some (LockAnswer.LengthSettled v l del true s) (LockAnswer.LengthSettled u n delete true stamp) says) in
    (del, ap (λ (z : ObjectName × ℕ × ℕ). LockCall.AttrOut z.0 z.1 del) all, ap (λ (z : ObjectName × ℕ × ℕ). Answer.Stored z.2) all)
length-stored (LockCall.AttrOut v l del) (Answer.Stale s) u n delete stamp says = absurd (cc)
length-stored (LockCall.PageOut v k del) (Answer.Stored s) u n delete stamp says = absurd (cc)
length-stored (LockCall.PageOut v k del) (Answer.Stale s) u n delete stamp says = absurd (cc)
length-stored (LockCall.Lock v m) (Answer.Granted g s kind r l) u n delete stamp says = absurd (cc)
length-stored (LockCall.Lock v m) (Answer.Conflict q held) u n delete stamp says = absurd (cc)
length-stored (LockCall.Lock v m) Answer.NoObject u n delete stamp says = absurd (cc)
length-stored (LockCall.Unlock v) Answer.Done u n delete stamp says = absurd (cc)
length-stored (LockCall.Remove v) Answer.Done u n delete stamp says = absurd (cc)
length-stored call x u n delete stamp says = absurd (cc)

abbrev removed_object : ObjectName → LockAnswer → ObjectName
removed_object other (LockAnswer.Removed a) = a
removed_object other _ = other

pub remove-done : (call : LockCall) (x : Answer) (u : ObjectName) → lock_answer call x ≡ Some (LockAnswer.Removed u) → (call ≡ LockCall.Remove u) × (x ≡ Answer.Done)
remove-done (LockCall.Remove v) Answer.Done u says = (ap LockCall.Remove (ap (removed_object v) (same_Some (LockAnswer.Removed v) (LockAnswer.Removed u) says)), refl)
remove-done (LockCall.AttrOut v l del) (Answer.Stored s) u says = absurd (cc)
remove-done (LockCall.AttrOut v l del) (Answer.Stale s) u says = absurd (cc)
remove-done (LockCall.PageOut v k del) (Answer.Stored s) u says = absurd (cc)
remove-done (LockCall.PageOut v k del) (Answer.Stale s) u says = absurd (cc)
remove-done (LockCall.Lock v m) (Answer.Granted g s kind r l) u says = absurd (cc)
remove-done (LockCall.Lock v m) (Answer.Conflict q held) u says = absurd (cc)
remove-done (LockCall.Lock v m) Answer.NoObject u says = absurd (cc)
remove-done (LockCall.Unlock v) Answer.Done u says = absurd (cc)
remove-done call x u says = absurd (cc)

-- the request of such a call
pub length-asked : (moving : Option Transit) (u : ObjectName) (n : ℕ) (delete : Bool) (ask : Ask) → IsRequestOf moving (calls.AttrOut u n delete) ask → (grant : ℕ) × (base : ℕ) × (ask ≡ Ask.AttrOut u n grant base)
length-asked moving u n delete (Ask.AttrOut v m grant base) request = (grant, base, ap (λ w. Ask.AttrOut w m grant base) request.0 ∙ ap (λ l. Ask.AttrOut u l grant base) request.1)
length-asked moving u n delete (Ask.PageIn v j) request = absurd request
length-asked moving u n delete (Ask.PageOut v j grant base bytes) request = absurd request
length-asked moving u n delete (Ask.Lock v m) request = absurd request
length-asked moving u n delete (Ask.Unlock v) request = absurd request
length-asked moving u n delete (Ask.Remove v) request = absurd request
length-asked moving u n delete (Ask.Make kind room) request = absurd request
length-asked moving u n delete (Ask.ListLocks from) request = absurd request

pub remove-asked : (moving : Option Transit) (u : ObjectName) (ask : Ask) → IsRequestOf moving (calls.Remove u) ask → ask ≡ Ask.Remove u
remove-asked moving u (Ask.Remove v) request = ap Ask.Remove request
remove-asked moving u (Ask.AttrOut v m grant base) request = absurd request
remove-asked moving u (Ask.PageIn v j) request = absurd request
remove-asked moving u (Ask.PageOut v j grant base bytes) request = absurd request
remove-asked moving u (Ask.Lock v m) request = absurd request
remove-asked moving u (Ask.Unlock v) request = absurd request
remove-asked moving u (Ask.Make kind room) request = absurd request
remove-asked moving u (Ask.ListLocks from) request = absurd request

module _ (s : Setup) (old : World) (c : Choice) (new : World) (next : IsKeptNext s old c new) (opened : AreOpenAtHomes (old.nodes c.node)) (carried : AreCarried (old.nodes c.node)) where
  open event s old c new next use {n}

  abbrev d : DeskState
  d = (old.nodes c.node).desk

  module _ (p : ℕ) (proc : IsProc p) (o : BegunOp) (stage : Stage) (is_at : IsAt (proc_of n p).doing o stage) where
    abbrev P : ProcName
    P = proc_at c.node p

    abbrev mine : List Asked
    mine = old.calls c.node p

    note-home : (number : ℕ) (x : Answer) (home : ℕ) (ask : Ask) → IsCallAt mine number home ask → (place : Place) (note : Note) → IsAnswerOf P number x note → IsDecided old place note → place.node ≡ home
    note-home number x home ask made place Note.Nothing is decided = absurd is
    note-home number x home ask made place (Note.Began q op) is decided = absurd is
    note-home number x home ask made place (Note.Did q phase op reply) is decided = absurd is
    note-home number x home ask made place (Note.Ended t) is decided = absurd is
    note-home number x home ask made place (Note.Decided q k asked given) is decided =
        same-home (numbered number mine) place.node home asked ask (subst (λ (r : ProcName). IsCallAt (old.calls r.node r.number) number place.node asked) is.0 (subst (λ i. IsCallAt (old.calls q.node q.number) i place.node asked) is.1 decided.1)) made

    at-home : (number : ℕ) (x : Answer) (home : ℕ) (ask : Ask) → IsCallAt mine number home ask → (notes : List Noted) → EachOf (λ (j : Noted). IsDecided old j.place j.note) notes → SomeOf (λ (j : Noted). IsAnswerOf P number x j.note) notes
        → WasAnswered notes home P number x
    at-home number x home ask made [] each some = some
    at-home number x home ask made (j ∷ older) each (inl is) = inl (note-home number x home ask made j.place j.note is each.0, is)
    at-home number x home ask made (j ∷ older) each (inr some) = inr (at-home number x home ask made older each.1 some)

    at-began : (r : OpenOp) (st : Stage) → IsAt (Some r) o st → r.began ≡ o
    at-began r Stage.Starts at = absurd at
    at-began r Stage.Resumes at = sym at
    at-began r (Stage.Settles i) at = sym at.0

    module _ (x : Answer) (taken : Takes next.is.incoming p (proc_of n p).doing x) where
      by-await : (r : OpenOp) → (proc_of n p).doing ≡ Some r → r.began ≡ o → (w : Await) → r.awaits ≡ w → HasNumber taken.frame.number w → IsAnswering old c.node p o x
      by-await r is began (Await.Page u k) awaits number = absurd number
      by-await r is began (Await.Answer a) awaits number =
          let here : (proc_of n p).doing ≡ asking o a = is ∙ (ap (λ w. Some (let y : OpenOp = record { began = r.began; awaits = w } in y)) awaits ∙ ap (λ b. asking b a) began) in
          let made : IsCallAt mine a.waiting.number a.home a.ask = subst (IsOpenAt mine) here (next.calls.opened c.node p proc) in
          record {
            call = a;
            doing = here;
            calling = (subst (Agrees n.desk p (proc_of n p).last) here ((next.kept.nodes c.node next.is.node).agrees p proc)).1.0;
            made = made;
            at_home = (subst IsOpenAtHome here (opened p proc)).0;
            answered = at-home a.waiting.number x a.home a.ask made old.trace next.decisions.each
                (subst (λ i. SomeOf (λ (j : Noted). IsAnswerOf P i x j.note) old.trace) (sym number) (taken-decided s old c new next p (proc_of n p).doing x taken));
            carries = subst (CarriesOpen n.desk p) here (carried p proc);
          }

      by-doing : (r : Option OpenOp) → (proc_of n p).doing ≡ r → IsOpenNumber taken.frame.number r → IsAt r o stage → IsAnswering old c.node p o x
      by-doing None is number at = absurd number
      by-doing (Some r) is number at = by-await r is (at-began r stage at) r.awaits refl number

      pub answering : IsAnswering old c.node p o x
      answering = by-doing (proc_of n p).doing refl taken.number is_at

    -- what it tells
    pub answer-tells : (T : Ask → Answer → Type 0) → EachOf (λ (j : Noted). NoteHas T j.note) old.trace → (x : Answer) → (a : IsAnswering old c.node p o x) → T a.call.ask x
    answer-tells T each x a = told-of old T P a.call.waiting.number a.call.home a.call.ask a.made a.call.home x old.trace a.answered next.decisions.each each

    -- what the home took it acknowledged
    pub record IsTold (cause : Cause) (u : ObjectName) (x : Item) (v : Value) : Type 0 where
      pub stamp : ℕ
      pub told : told_stamp cause ≡ Some (u, stamp)
      pub is : IsAcknowledged old c.node p u x v stamp

    desk : IsDesk d
    desk = (next.kept.nodes c.node next.is.node).desk

    -- a page
    page-acked : (u : ObjectName) (k : ℕ) (r : Resident) (stamp : ℕ) (v : Value) → moving_of d p ≡ going u k → page_at d.cache.pages u k ≡ Some r → r.flags.sent ≡ true → v ≡ page_value r → (x : Answer) → x ≡ Answer.Stored stamp
        → IsAnswering old c.node p o x → IsAcknowledged old c.node p u (Item.Page k) v stamp
    page-acked u k r stamp v goes there sent value x stored a =
        let out = page-sent d p u k a.call.ask goes a.carries in
        let bytes : r.bytes ≡ out.bytes = (subst (HasSent out.bytes) there out.sent.page).same sent in
        let home : a.call.home ≡ u.home = subst (IsAtHome a.call.home) out.is a.at_home in
        record {
          owner = proc;
          began = o;
          open_call = a.call;
          doing = a.doing;
          grant = out.grant;
          base = out.base;
          writes = ap write_of out.is ∙ ap (λ y. Some (record { uid = u; item = Item.Page k; value = y; grant = out.grant; base = out.base })) (ap Value.Bytes (sym bytes) ∙ sym value);
          answered = subst (λ h. WasAnswered old.trace h P a.call.waiting.number (Answer.Stored stamp)) home (subst (WasAnswered old.trace a.call.home P a.call.waiting.number) stored a.answered);
          unchanged = subst IsStillSent (sym there) sent;
        }

    length-acked : (u : ObjectName) (l : ℕ) (del : Bool) (stamp : ℕ) (v : Value) → open_call_of d p ≡ Some (calls.AttrOut u l del) → IsCallOf o.op (task_of d p) (Some (calls.AttrOut u l del)) → changed_length (known_of u d.known) ≡ Some l → v ≡ Value.Length l
        → (x : Answer) → x ≡ Answer.Stored stamp → IsAnswering old c.node p o x → IsAcknowledged old c.node p u Item.Size v stamp
    length-acked u l del stamp v at_call of changed value x stored a =
        let out = length-asked (moving_of d p) u l del a.call.ask (op-request d p o.op a.call.ask (calls.AttrOut u l del) at_call of a.calling) in
        let home : a.call.home ≡ u.home = subst (IsAtHome a.call.home) out.2 a.at_home in
        record {
          owner = proc;
          began = o;
          open_call = a.call;
          doing = a.doing;
          grant = out.0;
          base = out.1;
          writes = ap write_of out.2 ∙ ap (λ y. Some (record { uid = u; item = Item.Size; value = y; grant = out.0; base = out.1 })) (sym value);
          answered = subst (λ h. WasAnswered old.trace h P a.call.waiting.number (Answer.Stored stamp)) home (subst (WasAnswered old.trace a.call.home P a.call.waiting.number) stored a.answered);
          unchanged = subst (IsUnchanged d u Item.Size) (sym value) changed;
        }

    pub cleaned-acked : (cause : Cause) (may : MayCome d p cause) → IsOf d p cause o.op → IsTaken next.is.incoming d p (proc_of n p).doing cause may → (u : ObjectName) (x : Item) (v : Value) → Cleans cause d p u x v → IsTold cause u x v
    cleaned-acked (Cause.PageCame (PageAnswer.Taken task r stamp)) may of taken u (Item.Page k) v (a, i, sent, value) =
        let said = page-said d p desk proc (PageAnswer.Taken task r stamp) may in
        record {
          stamp = stamp;
          told = ap (λ w. Some (w, stamp)) a;
          is = page-acked u k r stamp v (said.goes ∙ (ap (λ w. going w r.page) a ∙ ap (going u) i)) (subst (λ w. page_at d.cache.pages w k ≡ Some r) a (subst (λ h. page_at d.cache.pages r.uid h ≡ Some r) i said.found)) sent value
              may.answer (answer-said d.cache.pages (task_of d p) (moving_of d p) may.answer (PageAnswer.Taken task r stamp) may.says) (answering may.answer taken);
        }
    cleaned-acked (Cause.AnswerCame (LockAnswer.PageSettled w delete true stamp)) may of taken u (Item.Page k) v (a, goes, (r, there, sent, value)) =
        record { stamp = stamp; told = ap (λ y. Some (y, stamp)) a; is = page-acked u k r stamp v goes there sent value may.answer (page-stored may.call may.answer w delete stamp may.says) (answering may.answer taken) }
    cleaned-acked (Cause.AnswerCame (LockAnswer.LengthSettled w l delete true stamp)) may of taken u Item.Size v (a, changed, value) =
        let call = length-stored may.call may.answer w l delete stamp may.says in
        let at_call : open_call_of d p ≡ Some (calls.AttrOut u l call.0) = may.opened ∙ (ap (λ y. Some (open_call y)) call.1 ∙ ap (λ y. Some (calls.AttrOut y l call.0)) a) in
        record { stamp = stamp; told = ap (λ y. Some (y, stamp)) a; is = length-acked u l call.0 stamp v at_call (subst (IsCallOf o.op (task_of d p)) at_call of) changed value may.answer call.2 (answering may.answer taken) }
    cleaned-acked c may of taken u x v cleans = absurd cleans

    -- a page that came, and that an object was removed
    pub came-told : AreStamped s old → (task : Task) (stamp : ℕ) (bytes : List ℕ) (may : MayCome d p (Cause.PageCame (PageAnswer.Came task stamp bytes))) → Takes next.is.incoming p (proc_of n p).doing may.answer
        → IsItemTold old task.uid stamp (Item.Page (page_of task)) (Value.Bytes bytes)
    came-told stamped task stamp bytes may taken =
        let said = page-said d p desk proc (PageAnswer.Came task stamp bytes) may in
        let a = answering may.answer taken in
        let asks : a.call.ask ≡ Ask.PageIn task.uid (page_of task) = page-asked d p task.uid (page_of task) a.call.ask said.comes a.carries in
        subst (TellsItem old (Ask.PageIn task.uid (page_of task))) (answer-said d.cache.pages (task_of d p) (moving_of d p) may.answer (PageAnswer.Came task stamp bytes) may.says)
        (subst (λ y. TellsItem old y may.answer) asks (answer-tells (TellsItem old) (stamps-told old old.trace stamped.told) may.answer a))

    pub removed-told : (T : Ask → Answer → Type 0) → EachOf (λ (j : Noted). NoteHas T j.note) old.trace → (u : ObjectName) (may : MayCome d p (Cause.AnswerCame (LockAnswer.Removed u))) → IsOf d p (Cause.AnswerCame (LockAnswer.Removed u)) o.op
        → Takes next.is.incoming p (proc_of n p).doing may.answer → T (Ask.Remove u) Answer.Done
    removed-told T each u may of taken =
        let a = answering may.answer taken in
        let call = remove-done may.call may.answer u may.says in
        let at_call : open_call_of d p ≡ Some (calls.Remove u) = may.opened ∙ ap (λ y. Some (open_call y)) call.0 in
        let asks : a.call.ask ≡ Ask.Remove u = remove-asked (moving_of d p) u a.call.ask (op-request d p o.op a.call.ask (calls.Remove u) at_call (subst (IsCallOf o.op (task_of d p)) at_call of) a.calling) in
        subst (T (Ask.Remove u)) call.1 (subst (λ y. T y may.answer) asks (answer-tells T each may.answer a))
