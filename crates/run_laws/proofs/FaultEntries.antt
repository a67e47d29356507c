-- Each entry that a link fault answered is that of an operation that ended so, and stands where it began.
use Rattle.std.proofs.Common.{◌≡◌, Bool, true, false, List, [], ◌∷◌, ◌++◌, Some, inl, inr, refl, sym, ap, subst, ◌∙◌}
use Rattle.std.specs.Prelude.{All, filter, if◌then◌else◌}
use Rattle.std.proofs.lemmas.List.Elements.{All-cons, All-nil}
use Rattle.dom_history.specs.declared.op.Entry.{Entry}
use Rattle.dom_history.specs.Histories.{Item, Answered, Acted, SomeOf, entries}
use Rattle.node_runs.specs.Setups.{Setup, IsSetup}
use Rattle.node_runs.specs.Notes.{Told, Note}
use Rattle.node_runs.specs.NodesKeep.{IsTimely}
use Rattle.node_runs.specs.Runs.{Choice, World, Noted, world_after}
use Rattle.node_runs.specs.RunHistories.{is_fault, told_by, all_told, history_in}
use Rattle.node_runs.specs.CallsKeep.{EachOf}
use Rattle.node_runs.proofs.SettingUp.{setup-procs}
use Rattle.node_runs.proofs.EachOf.{EachOf-at}
use Rattle.node_runs.proofs.Decisions.{decisions-are}
use Rattle.world_runs.specs.Faults.{CallName, call_if, fault_by, faults_in, IsFaultlessNote}
use Rattle.run_laws.specs.NotedEntries.{entry_of}
use Rattle.run_laws.proofs.Lasting.{SomeOf-behind}
use Rattle.run_laws.proofs.ItemViews.{IsItemAt, did, faulted, answered, left_open, opened, each-item}
use Rattle.run_laws.specs.EightNotices.{last_call}

-- what holds of each that a link fault answered
abbrev OfFault : (Entry → Type 0) → Item → Type 0
OfFault P (Answered e) = is_fault e.reply ≡ true → P e
OfFault P (Acted a) = Unit {0}

pub each-fault : (P : Entry → Type 0) (items : List Item) → EachOf (OfFault P) items → All P (filter (λ e. is_fault e.reply) (entries items))
each-fault P [] each = All-nil P
each-fault P (Answered e ∷ past) each = by (is_fault e.reply) refl (each-fault P past each.1)
  where
    by : (b : Bool) → is_fault e.reply ≡ b → All P (filter (λ e. is_fault e.reply) (entries past)) → All P (if b then e ∷ filter (λ e. is_fault e.reply) (entries past) else filter (λ e. is_fault e.reply) (entries past))
    by true is rest = All-cons P e (filter (λ e. is_fault e.reply) (entries past)) (each.0 is) rest
    by false is rest = rest
each-fault P (Acted a ∷ past) each = each-fault P past each.1

-- how the operation of an entry ended
pub record IsEndedByFault (told : List Told) (e : Entry) : Type 0 where
  pub end : Told
  pub among : SomeOf (λ t. t ≡ end) told
  pub fault : is_fault end.reply ≡ true
  pub entry : entry_of end.begun end ≡ e

module _ (s : Setup) (setup : IsSetup s) (cs : List Choice) (w : World) (e : world_after s cs ≡ Some w) (timely : IsTimely w) (desk : EachOf (λ (m : Noted). IsFaultlessNote m.note) w.trace) where
  not-both : {P : Type 0} (b : Bool) → b ≡ true → b ≡ false → P
  not-both b is not = absurd (let f : true ≡ false = sym is ∙ not in cc)

  by-view : (j : Noted) → SomeOf (λ i. i ≡ j) w.trace → (i : Item) → IsItemAt w j i → OfFault (IsEndedByFault (all_told w.trace)) i
  by-view j some i (did p phase op reply is) = λ fault. absurd (
      let faultless = EachOf-at (λ (m : Noted). IsFaultlessNote m.note) j w.trace desk some in
      let none : is_fault reply ≡ false = subst IsFaultlessNote is faultless in not-both (is_fault reply) fault none)
  by-view j some i (faulted t op is begun fault among) = λ now. record { end = t; among = among; fault = fault; entry = ap (λ x. entry_of x t) begun }
  by-view j some i (answered t op ask answer is settles none among) = λ fault. not-both (is_fault t.reply) fault none
  by-view j some i (left_open t op ask answer reply is settles change fault among) = tt
  by-view j some i (opened p number op ask answer reply o is settles change doing has) = tt

  pub faults-ended : All (IsEndedByFault (all_told w.trace)) (filter (λ e. is_fault e.reply) (entries (history_in s w).items))
  faults-ended = each-fault (IsEndedByFault (all_told w.trace)) (history_in s w).items
      (each-item s setup cs w e timely (OfFault (IsEndedByFault (all_told w.trace))) w.trace (decisions-are s (setup-procs s setup) cs w e).each by-view)

-- and its last call is one that a link fault ended
abbrev IsCalled : Told → List CallName → Type 0
IsCalled t calls = SomeOf (λ c. c ≡ last_call t) calls

pub fault-call : (notes : List Noted) (t : Told) → SomeOf (λ x. x ≡ t) (all_told notes) → is_fault t.reply ≡ true → IsCalled t (faults_in notes)
fault-call [] t some fault = absurd some
fault-call (m ∷ older) t some fault = by_note m.note some (λ before. fault-call older t before fault)
  where
    by_note : (note : Note) → SomeOf (λ x. x ≡ t) (told_by note ++ all_told older) → (SomeOf (λ x. x ≡ t) (all_told older) → IsCalled t (faults_in older)) → IsCalled t (fault_by note ++ faults_in older)
    by_note Note.Nothing some rest = rest some
    by_note (Note.Began p op) some rest = rest some
    by_note (Note.Did p phase op reply) some rest = rest some
    by_note (Note.Ended u) (inl same) rest =
        let is : is_fault u.reply ≡ true = ap (λ (x : Told). is_fault x.reply) same ∙ fault in
        subst (λ b. IsCalled t (call_if b (last_call u) ++ faults_in older)) (sym is) (inl (ap last_call same))
    by_note (Note.Ended u) (inr some) rest = SomeOf-behind (λ c. c ≡ last_call t) (call_if (is_fault u.reply) (last_call u)) (faults_in older) (rest some)
    by_note (Note.Decided p number ask answer) some rest = rest some
