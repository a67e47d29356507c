-- The history of a run follows its programs, with what is open.
use Rattle.std.proofs.Common.{◌≡◌, ℕ, zero, suc, ◌≤◌, Bool, true, false, List, [], ◌∷◌, ◌++◌, Option, Some, None, IfSome, refl, sym, ap, subst, ◌∙◌, arith}
use Rattle.std.specs.Prelude.{All, map, filter, if◌then◌else◌, nat_le, ◌&&◌}
use Rattle.std.specs.List.{find, AllByRecursion}
use Rattle.std.proofs.lemmas.List.Elements.{All-from_recursion}
use Rattle.std.proofs.lemmas.Bool.Decides.{nat_tests}
use Rattle.uid_names.proofs.ListLemmas.{by_cases}
use Rattle.uid_names.proofs.Orders.{same_proc_is, same_proc-itself}
use Rattle.uid_names.specs.Names.{ProcName, same_proc}
use Rattle.uid_names.specs.declared.ids.Place.{Place}
use Rattle.dom_history.specs.declared.op.Entry.{Entry}
use Rattle.dom_history.specs.declared.op.Op.{Op}
use Rattle.dom_history.specs.declared.op.Want.TheVariants.{Do}
use Rattle.dom_history.specs.Events.{Happening}
use Rattle.dom_history.specs.Objects.{is_node}
use Rattle.dom_history.specs.Histories.{Pending, entries}
use Rattle.dom_history.specs.Follows.{Reaches, starts, entries_of, open_of, FollowsAt, Follows}
use Rattle.fault_handler.specs.Desks.{procs}
use Rattle.fault_handler.specs.Invariant.{IsProc}
use Rattle.fault_handler.proofs.Fours.{first, second, third, fourth}
use Rattle.node_runs.specs.Setups.{Setup, IsSetup}
use Rattle.node_runs.specs.NodeStates.{OpenOp, proc_of}
use Rattle.node_runs.specs.Notes.{Told, Note}
use Rattle.node_runs.specs.Runs.{Noted, World, Choice, choice_of, world_after, world_of}
use Rattle.node_runs.specs.NodesKeep.{IsTimely}
use Rattle.node_runs.specs.Following.{IsWanted}
use Rattle.node_runs.specs.CallsKeep.{EachOf}
use Rattle.node_runs.specs.RunHistories.{is_fault, settled_op, told_by, ended_at, ended_by, all_told, doing_of, pending_in, pending_at, pending_to, history_in, history_if, history_of}
use Rattle.node_runs.proofs.Receiving.{EachOf-more}
use Rattle.node_runs.proofs.SettingUp.{setup-procs}
use Rattle.node_runs.proofs.Running.{run-keeps}
use Rattle.run_laws.specs.NotedEntries.{entry_if, begun_entry, decided_entry, entries_at, noted_entries}
use Rattle.run_laws.specs.DecidedReplies.{proc_at}
use Rattle.run_laws.specs.Heard.{IsOfProc}
use Rattle.run_laws.proofs.HearingRuns.{heard-are}
use Rattle.run_laws.proofs.HistoryEntries.{history-entries, asked-heard}

pub EachOf-append : {A : Type 0} (P : A → Type 0) (xs ys : List A) → EachOf P xs → EachOf P ys → EachOf P (xs ++ ys)
EachOf-append P [] ys is more = more
EachOf-append P (x ∷ xs) ys is more = (is.0, EachOf-append P xs ys is.1 more)

find-each : {A : Type 0} (P : A → Type 0) (test : A → Bool) (xs : List A) → EachOf P xs → IfSome (find test xs) P
find-each P test [] each = tt
find-each P test (x ∷ xs) each = by_cases (test x) (IfSome (find test (x ∷ xs)) P)
    (λ h. subst (λ b. IfSome (if b then Some x else find test xs) P) (sym h) each.0)
    (λ h. subst (λ b. IfSome (if b then Some x else find test xs) P) (sym h) (find-each P test xs each.1))

-- a process that nodes have
abbrev IsOwn : Entry → Type 0
IsOwn e = IsProc e.proc.number

abbrev IsOwnTold : Told → Type 0
IsOwnTold t = IsProc t.proc.number

ended-own : (note : Note) → IsOfProc note → EachOf IsOwnTold (told_by note)
ended-own Note.Nothing is = tt
ended-own (Note.Began p op) is = tt
ended-own (Note.Did p phase op reply) is = tt
ended-own (Note.Ended t) is = (is, tt)
ended-own (Note.Decided p number ask answer) is = tt

told-own : (notes : List Noted) → EachOf (λ (j : Noted). IsOfProc j.note) notes → EachOf IsOwnTold (all_told notes)
told-own [] each = tt
told-own (m ∷ older) each = EachOf-append IsOwnTold (told_by m.note) (all_told older) (ended-own m.note each.0) (told-own older each.1)

if-own : (b : Bool) (x : Place) (t : Told) → IsOwnTold t → EachOf IsOwn (entry_if b x t)
if-own true x t is = (is, tt)
if-own false x t is = tt

begun-own : (x : Place) (o : Option Told) → IfSome o IsOwnTold → EachOf IsOwn (begun_entry x o)
begun-own x None is = tt
begun-own x (Some t) is = if-own (is_fault t.reply) x t is

decided-own : (x : Place) (op : Option Op) (o : Option Told) → IfSome o IsOwnTold → EachOf IsOwn (decided_entry x op o)
decided-own x None o is = tt
decided-own x (Some op) None is = tt
decided-own x (Some op) (Some t) is = if-own _ x t is

note-own : (so_far : List Told) → EachOf IsOwnTold so_far → (x : Place) (note : Note) → IsOfProc note → EachOf IsOwn (entries_at so_far x note)
note-own so_far own x Note.Nothing is = tt
note-own so_far own x (Note.Began p op) is = begun-own x (ended_at p x so_far) (find-each IsOwnTold _ so_far own)
note-own so_far own x (Note.Did p phase op reply) is = (is, tt)
note-own so_far own x (Note.Ended t) is = tt
note-own so_far own x (Note.Decided p number ask answer) is = decided-own x (settled_op x.node ask) (ended_by p number so_far) (find-each IsOwnTold _ so_far own)

noted-own : (so_far : List Told) → EachOf IsOwnTold so_far → (notes : List Noted) → EachOf (λ (j : Noted). IsOfProc j.note) notes → EachOf IsOwn (noted_entries so_far notes)
noted-own so_far own [] each = tt
noted-own so_far own (m ∷ older) each = EachOf-append IsOwn (entries_at so_far m.place m.note) (noted_entries so_far older) (note-own so_far own m.place m.note each.0) (noted-own so_far own older each.1)

-- of what is of no process, nothing is of this one
module _ {A : Type 0} (of : A → ProcName) (p : ProcName) (none : IsProc p.number → ⊥) where
  own-none : (xs : List A) → EachOf (λ x. IsProc (of x).number) xs → filter (λ x. same_proc (of x) p) xs ≡ []
  own-none [] each = refl
  own-none (x ∷ xs) each = by_cases (same_proc (of x) p) (filter (λ y. same_proc (of y) p) (x ∷ xs) ≡ [])
      (λ h. absurd (none (subst (λ (q : ProcName). IsProc q.number) (same_proc_is (of x) p h) each.0)))
      (λ h. ap (λ b. if b then x ∷ filter (λ y. same_proc (of y) p) xs else filter (λ y. same_proc (of y) p) xs) h ∙ own-none xs each.1)

module _ (s : Setup) (w : World) where
  -- what is open is of a process, and what its program wants
  abbrev IsNextOf : Pending → Type 0
  IsNextOf o = IsProc o.proc.number × (s.asks o.proc (proc_of (w.nodes o.proc.node) o.proc.number).heard ≡ Do o.op)

  abbrev AreWanted : Type 0
  AreWanted = (n : ℕ) → is_node s.opening n ≡ true → (p : ℕ) → IsProc p → IsWanted (s.asks (proc_at n p) (proc_of (w.nodes n) p).heard) (proc_of (w.nodes n) p).doing

  pending-next : (n p : ℕ) → IsProc p → (o : Option OpenOp) → IsWanted (s.asks (proc_at n p) (proc_of (w.nodes n) p).heard) o → EachOf IsNextOf (pending_in (proc_at n p) o)
  pending-next n p proc None wanted = tt
  pending-next n p proc (Some o) wanted = ((proc, wanted), tt)

  all-next : AreWanted → (n : ℕ) → is_node s.opening n ≡ true → (ps : List ℕ) → EachOf IsProc ps → EachOf IsNextOf (pending_at w n ps)
  all-next wanted n node [] each = tt
  all-next wanted n node (p ∷ ps) each = EachOf-append IsNextOf (pending_in (proc_at n p) (doing_of w (proc_at n p))) (pending_at w n ps) (pending-next n p each.0 (proc_of (w.nodes n) p).doing (wanted n node p each.0)) (all-next wanted n node ps each.1)

  to-next : AreWanted → (k : ℕ) → k ≤ s.opening.nodes → EachOf IsNextOf (pending_to w k)
  to-next wanted zero within = tt
  to-next wanted (suc k) within = EachOf-append IsNextOf (pending_to w k) (pending_at w (suc k) procs) (to-next wanted k (omega (arith, within)))
      (all-next wanted (suc k) (let e : (nat_le 1 (suc k) && nat_le (suc k) s.opening.nodes) ≡ true = grind (arith, nat_tests, within) in e) procs (first, (second, (third, (fourth, tt)))))

  own-next : (p : ProcName) (xs : List Pending) → EachOf IsNextOf xs → AllByRecursion (λ (o : Pending). s.asks p (proc_of (w.nodes p.node) p.number).heard ≡ Do o.op) (open_of p xs)
  own-next p [] each = tt
  own-next p (o ∷ xs) each = by_cases (same_proc o.proc p) (AllByRecursion (λ (o : Pending). s.asks p (proc_of (w.nodes p.node) p.number).heard ≡ Do o.op) (open_of p (o ∷ xs)))
      (λ h. subst (λ b. AllByRecursion (λ (o : Pending). s.asks p (proc_of (w.nodes p.node) p.number).heard ≡ Do o.op) (if b then o ∷ open_of p xs else open_of p xs)) (sym h)
      (subst (λ (q : ProcName). s.asks q (proc_of (w.nodes q.node) q.number).heard ≡ Do o.op) (same_proc_is o.proc p h) each.0.1, own-next p xs each.1))
      (λ h. subst (λ b. AllByRecursion (λ (o : Pending). s.asks p (proc_of (w.nodes p.node) p.number).heard ≡ Do o.op) (if b then o ∷ open_of p xs else open_of p xs)) (sym h) (own-next p xs each.1))

module _ (s : Setup) (setup : IsSetup s) (cs : List Choice) (w : World) (e : world_after s cs ≡ Some w) (timely : IsTimely w) where
  all_open : EachOf (IsNextOf s w) (history_in s w).open_ops
  all_open = to-next s w (λ n node p proc. ((((run-keeps s setup cs w e).kept timely).nodes n node).followed p proc).wanted) s.opening.nodes (omega arith)

  follows-own : (p : ProcName) → IsProc p.number → FollowsAt (s.asks p) (history_in s w) p
  follows-own p proc =
      let is = asked-heard s setup cs w e timely p.node p.number proc in
      let name : proc_at p.node p.number ≡ p = same_proc_is (proc_at p.node p.number) p (same_proc-itself p) in
      record {
        heard = (proc_of (w.nodes p.node) p.number).heard;
        phase = is.0;
        reaches = subst (λ q. Reaches (s.asks q) (entries_of q (entries (history_in s w).items)) (proc_of (w.nodes p.node) p.number).heard is.0) name is.1;
        next = All-from_recursion _ (open_of p (history_in s w).open_ops) (own-next s w p (history_in s w).open_ops all_open);
      }

  follows-none : (p : ProcName) → (IsProc p.number → ⊥) → FollowsAt (s.asks p) (history_in s w) p
  follows-none p none =
      let named = (heard-are s setup (setup-procs s setup) cs w e timely).named in
      let no_entry : entries_of p (entries (history_in s w).items) ≡ [] =
      ap (entries_of p) (history-entries w (all_told w.trace) w.trace) ∙ own-none (λ (x : Entry). x.proc) p none (noted_entries (all_told w.trace) w.trace) (noted-own (all_told w.trace) (told-own w.trace named) w.trace named) in
      let no_open : open_of p (history_in s w).open_ops ≡ [] =
      own-none (λ (x : Pending). x.proc) p none (history_in s w).open_ops (EachOf-more (IsNextOf s w) (λ (x : Pending). IsProc x.proc.number) (history_in s w).open_ops (λ x is. is.0) all_open) in
      record {
        heard = [];
        phase = 1;
        reaches = subst (λ es. Reaches (s.asks p) es [] 1) (sym no_entry) starts;
        next = subst (λ os. All (λ (o : Pending). s.asks p [] ≡ Do o.op) os) (sym no_open) (All-from_recursion _ [] tt);
      }

  -- in every run
  pub history-follows : Follows s.asks (history_in s w)
  history-follows p = by_cases (nat_le 1 p.number && nat_le p.number 4) (FollowsAt (s.asks p) (history_in s w) p)
      (λ h. follows-own p (let low : 1 ≤ p.number = grind (arith, nat_tests, h) in let high : p.number ≤ 4 = grind (arith, nat_tests, h) in (low, high)))
      (λ h. follows-none p (λ is. let low : 1 ≤ p.number = is.0 in let high : p.number ≤ 4 = is.1 in
      absurd (let f : true ≡ false = grind (arith, nat_tests, h, low, high) in cc)))

-- and that of its events
pub events-follow : (s : Setup) → IsSetup s → (es : List Happening) (w : World) → world_of s es ≡ Some w → IsTimely w → Follows s.asks (history_of s es)
events-follow s setup es w e timely = subst (λ (o : Option World). Follows s.asks (history_if s o)) (sym e) (history-follows s setup (map choice_of es) w e timely)
