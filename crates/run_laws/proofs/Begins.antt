-- What stood before an open operation, where it began: what its process was told then, it was told at each place since.
use Rattle.std.proofs.Common.{◌≡◌, ℕ, true, List, [], ◌∷◌, ◌++◌, Some, refl, sym, ap, subst, ◌∙◌}
use Rattle.std.specs.Prelude.{IsTrue}
use Rattle.std.proofs.lemmas.List.Elements.{filter-append}
use Rattle.uid_names.specs.Names.{ObjectName, ProcName, same_proc}
use Rattle.uid_names.specs.declared.ids.Place.{Place}
use Rattle.dom_history.specs.declared.deed.Deed.{Deed}
use Rattle.dom_history.specs.declared.op.Op.{Op}
use Rattle.dom_history.specs.declared.op.Op.TheVariants as ops
use Rattle.dom_history.specs.declared.op.Reply.{Reply}
use Rattle.dom_history.specs.declared.op.Reply.TheVariants as replies
use Rattle.dom_history.specs.Histories.{Item, Pending, place_of, place_lt, before_op}
use Rattle.dom_history.specs.Legal.{IsLegal, IsAllowed}
use Rattle.dom_history.specs.Locks.{state}
use Rattle.dom_history.specs.Replies.{Before, may_write}
use Rattle.dom_history.specs.StoreEffects.{own}
use Rattle.history_moves.specs.Asking.{MayAsk, MayFail}
use Rattle.history_moves.specs.HistoryMoves.{history, told_to}
use Rattle.history_moves.proofs.Hearing.{told-before}
use Rattle.history_moves.proofs.Standing.{fault-allowed}
use Rattle.ring_messages.specs.Bodies.{Ask}
use Rattle.fault_handler.specs.Invariant.{IsProc}
use Rattle.node_runs.specs.Setups.{Setup}
use Rattle.node_runs.specs.NodeStates.{BegunOp}
use Rattle.node_runs.specs.Notes.{Note}
use Rattle.node_runs.specs.Runs.{World, Noted}
use Rattle.node_runs.specs.RunHistories.{all_told, items_from, settled_op}
use Rattle.node_runs.specs.CallsKeep.{EachOf}
use Rattle.run_laws.specs.DecidedReplies.{proc_at}
use Rattle.run_laws.specs.ToldAnswers.{IsReleaseFault, IsFaultOf}
use Rattle.run_laws.specs.NotedEffects.{noted_past}
use Rattle.run_laws.specs.NotedDeeds.{note_deeds, noted_deeds}
use Rattle.run_laws.specs.DeskReplies.{before_note, MayBeThere, IsOneStoreNote}
use Rattle.run_laws.specs.KnownRuns.{IsKnown}
use Rattle.run_laws.proofs.Alone.{Alone, here, later}
use Rattle.run_laws.proofs.Cuts.{all-of}

pub own-append : (p : ProcName) (xs ys : List Deed) → own p (xs ++ ys) ≡ own p xs ++ own p ys
own-append p xs ys = filter-append (λ d. same_proc d.proc p) xs ys

-- the notes of a run, cut at the Begin of an open operation
pub record BeginSplit (p : ProcName) (op : Op) (begun : Place) (notes : List Noted) : Type 0 where
  pub newer : List Noted
  pub it : Noted
  pub older : List Noted
  pub parts : notes ≡ newer ++ it ∷ older
  pub place : it.place ≡ begun
  pub note : it.note ≡ Note.Began p op
  -- since then its process was told nothing
  pub same : own p (noted_deeds notes) ≡ own p (noted_deeds older)

pub begin-split : (p : ProcName) (op : Op) (begun : Place) (notes : List Noted) → Alone p op begun notes → BeginSplit p op begun notes
begin-split p op begun [] alone = elim alone [ ]
begin-split p op begun (m ∷ older) (here place note) = record { newer = []; it = m; older = older; parts = refl; place = place; note = note; same = ap (λ k. own p (note_deeds k ++ noted_deeds older)) note }
begin-split p op begun (m ∷ notes) (later quiet alone) =
    let r = begin-split p op begun notes alone in
    record {
      newer = m ∷ r.newer;
      it = r.it;
      older = r.older;
      parts = ap (λ js. m ∷ js) r.parts;
      place = r.place;
      note = r.note;
      same = own-append p (note_deeds m.note) (noted_deeds notes) ∙ (ap (λ ds. ds ++ own p (noted_deeds notes)) quiet ∙ r.same);
    }

-- an operation that is no load or store asks its home
begin-asks : (s : Setup) (older : List Noted) (p : ProcName) (home : ℕ) (ask : Ask) (op : Op) → settled_op home ask ≡ Some op → MayBeThere (before_note s older p) p op → MayAsk (own p (noted_deeds older)) op
begin-asks s older p home ask (ops.New to kind room) of may = may
begin-asks s older p home ask (ops.List to after) of may = may
begin-asks s older p home ask (ops.Lock u m) of may = may
begin-asks s older p home ask (ops.Unlock u) of may = may
begin-asks s older p home ask (ops.Delete u) of may = may
begin-asks s older p home ask (ops.Length u) of may = may
begin-asks s older p home ask (ops.Map u) of may = may
begin-asks s older p home ask (ops.Unmap u) of may = may
begin-asks s older p home ask (ops.Load spot count) of may = absurd (no ask of)
  where
    no : (ask : Ask) → settled_op home ask ≡ Some (ops.Load spot count) → ⊥
    no (Ask.PageIn u k) e = absurd (cc)
    no (Ask.PageOut u k grant base bytes) e = absurd (cc)
    no (Ask.AttrOut u n grant base) e = absurd (cc)
    no (Ask.Lock u m) e = absurd (cc)
    no (Ask.Unlock u) e = absurd (cc)
    no (Ask.Remove u) e = absurd (cc)
    no (Ask.Make kind room) e = absurd (cc)
    no (Ask.ListLocks after) e = absurd (cc)
begin-asks s older p home ask (ops.Store spot bytes) of may = absurd (no ask of)
  where
    no : (ask : Ask) → settled_op home ask ≡ Some (ops.Store spot bytes) → ⊥
    no (Ask.PageIn u k) e = absurd (cc)
    no (Ask.PageOut u k grant base bytes) e = absurd (cc)
    no (Ask.AttrOut u n grant base) e = absurd (cc)
    no (Ask.Lock u m) e = absurd (cc)
    no (Ask.Unlock u) e = absurd (cc)
    no (Ask.Remove u) e = absurd (cc)
    no (Ask.Make kind room) e = absurd (cc)
    no (Ask.ListLocks after) e = absurd (cc)

-- which link faults may answer it
module _ (told : List Deed) (reply : Reply) where
  unlock-fails : (u : ObjectName) → (reply ≡ replies.Kept → may_write (state u told) ≡ true) → (ask : Ask) → IsReleaseFault ask reply → MayFail told (ops.Unlock u) reply
  unlock-fails u writes (Ask.PageOut v k grant base bytes) is = subst (MayFail told (ops.Unlock u)) (sym is) (writes is)
  unlock-fails u writes (Ask.AttrOut v n grant base) is = subst (MayFail told (ops.Unlock u)) (sym is) (writes is)
  unlock-fails u writes (Ask.Unlock v) is = subst (MayFail told (ops.Unlock u)) (sym is) tt
  unlock-fails u writes (Ask.Remove v) is = subst (MayFail told (ops.Unlock u)) (sym is) tt
  unlock-fails u writes (Ask.PageIn v k) is = absurd is
  unlock-fails u writes (Ask.Lock v m) is = absurd is
  unlock-fails u writes (Ask.Make kind room) is = absurd is
  unlock-fails u writes (Ask.ListLocks after) is = absurd is

  delete-fails : (u : ObjectName) → (ask : Ask) → IsReleaseFault ask reply → MayFail told (ops.Delete u) reply
  delete-fails u (Ask.PageOut v k grant base bytes) is = subst (MayFail told (ops.Delete u)) (sym is) tt
  delete-fails u (Ask.AttrOut v n grant base) is = subst (MayFail told (ops.Delete u)) (sym is) tt
  delete-fails u (Ask.Unlock v) is = subst (MayFail told (ops.Delete u)) (sym is) tt
  delete-fails u (Ask.Remove v) is = subst (MayFail told (ops.Delete u)) (sym is) tt
  delete-fails u (Ask.PageIn v k) is = absurd is
  delete-fails u (Ask.Lock v m) is = absurd is
  delete-fails u (Ask.Make kind room) is = absurd is
  delete-fails u (Ask.ListLocks after) is = absurd is

-- of an unlock that keeps its lock, its process wrote under it
abbrev pub WritesKept : List Deed → Op → Reply → Type 0
WritesKept told (ops.Unlock u) reply = reply ≡ replies.Kept → may_write (state u told) ≡ true
WritesKept told op reply = Unit {0}

-- a link fault may answer an operation that began so, over what stood before it
module _ (s : Setup) (older : List Noted) (before : List Item) (o : Pending) (past : (before_op s.opening before o.proc).past ≡ noted_past older) (told : told_to o before ≡ own o.proc (noted_deeds older)) (ask : Ask) (reply : Reply) where
  asked-fails : MayAsk (own o.proc (noted_deeds older)) o.op → MayFail (own o.proc (noted_deeds older)) o.op reply → IsAllowed (before_op s.opening before o.proc) o.proc o.op reply
  asked-fails may fails = fault-allowed s.opening before o reply (subst (λ ds. MayAsk ds o.op) (sym told) may) (subst (λ ds. MayFail ds o.op reply) (sym told) fails)

  same-before : (let b : Before = record { opening = s.opening; past = noted_past older; told = own o.proc (noted_deeds older) } in b) ≡ before_op s.opening before o.proc
  same-before =
      ap (λ es. let b : Before = record { opening = s.opening; past = es; told = own o.proc (noted_deeds older) } in b) (sym past)
      ∙ ap (λ ds. let b : Before = record { opening = s.opening; past = (before_op s.opening before o.proc).past; told = ds } in b) (sym told)

  pub fault-may : (op : Op) → o.op ≡ op → MayBeThere (before_note s older o.proc) o.proc op → IsFaultOf op ask reply → WritesKept (own o.proc (noted_deeds older)) op reply → IsAllowed (before_op s.opening before o.proc) o.proc o.op reply
  fault-may (ops.Load spot count) same may fault writes =
      subst (λ z. IsAllowed (before_op s.opening before o.proc) o.proc z reply) (sym same)
      (subst (λ b. IsAllowed b o.proc (ops.Load spot count) reply) same-before (subst (λ r. IsAllowed (record { opening = s.opening; past = noted_past older; told = own o.proc (noted_deeds older) }) o.proc (ops.Load spot count) r) (sym fault) may))
  fault-may (ops.Store spot bytes) same may fault writes =
      subst (λ z. IsAllowed (before_op s.opening before o.proc) o.proc z reply) (sym same)
      (subst (λ b. IsAllowed b o.proc (ops.Store spot bytes) reply) same-before (subst (λ r. IsAllowed (record { opening = s.opening; past = noted_past older; told = own o.proc (noted_deeds older) }) o.proc (ops.Store spot bytes) r) (sym fault) may))
  fault-may (ops.New to kind room) same may fault writes =
      asked-fails (subst (MayAsk (own o.proc (noted_deeds older))) (sym same) may) (subst (λ z. MayFail (own o.proc (noted_deeds older)) z reply) (sym same) (subst (MayFail (own o.proc (noted_deeds older)) (ops.New to kind room)) (sym fault) tt))
  fault-may (ops.List to after) same may fault writes =
      asked-fails (subst (MayAsk (own o.proc (noted_deeds older))) (sym same) may) (subst (λ z. MayFail (own o.proc (noted_deeds older)) z reply) (sym same) (subst (MayFail (own o.proc (noted_deeds older)) (ops.List to after)) (sym fault) tt))
  fault-may (ops.Lock u m) same may fault writes =
      asked-fails (subst (MayAsk (own o.proc (noted_deeds older))) (sym same) may) (subst (λ z. MayFail (own o.proc (noted_deeds older)) z reply) (sym same) (subst (MayFail (own o.proc (noted_deeds older)) (ops.Lock u m)) (sym fault) tt))
  fault-may (ops.Unlock u) same may fault writes =
      asked-fails (subst (MayAsk (own o.proc (noted_deeds older))) (sym same) may) (subst (λ z. MayFail (own o.proc (noted_deeds older)) z reply) (sym same) (unlock-fails (own o.proc (noted_deeds older)) reply u writes ask fault))
  fault-may (ops.Delete u) same may fault writes =
      asked-fails (subst (MayAsk (own o.proc (noted_deeds older))) (sym same) may) (subst (λ z. MayFail (own o.proc (noted_deeds older)) z reply) (sym same) (delete-fails (own o.proc (noted_deeds older)) reply u ask fault))
  fault-may (ops.Length u) same may fault writes = absurd fault
  fault-may (ops.Map u) same may fault writes = absurd fault
  fault-may (ops.Unmap u) same may fault writes = absurd fault

-- an open operation of a run
module _ (s : Setup) (w : World) (known : IsKnown s w) (n k : ℕ) (proc : IsProc k) (b : BegunOp) (split : BeginSplit (proc_at n k) b.op b.begun w.trace) where
  abbrev mine : Pending
  mine = record { begun = b.begun; proc = proc_at n k; op = b.op }

  pub began-may : MayBeThere (before_note s split.older (proc_at n k)) (proc_at n k) b.op
  began-may = subst (IsOneStoreNote s split.older) split.note (known.desks split.newer split.older split.it split.parts)

  pub began-asks : (home : ℕ) (ask : Ask) → settled_op home ask ≡ Some b.op → MayAsk (own (proc_at n k) (noted_deeds split.older)) b.op
  began-asks home ask of = begin-asks s split.older (proc_at n k) home ask b.op of began-may

  -- at each place behind the Begin its process was told what it was told there
  pub told-then : (left right : List Pending) (behind before : List Item) → items_from w (all_told w.trace) w.trace ≡ behind ++ before → IsLegal s.opening (history (behind ++ before) (left ++ mine ∷ right))
      → EachOf (λ i. place_lt b.begun (place_of i) ≡ true) behind → told_to mine before ≡ own (proc_at n k) (noted_deeds split.older)
  told-then left right behind before parts legal above =
      sym (told-before s.opening left right mine behind before legal (all-of (λ i. IsTrue (place_lt b.begun (place_of i))) behind above))
      ∙ (ap (told_to mine) (sym parts) ∙ (known.deeds n k proc ∙ split.same))
