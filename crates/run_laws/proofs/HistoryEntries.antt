-- The history of a run has the entries of its notes, each at the place of its note.
use Rattle.std.proofs.Common.{◌≡◌, ℕ, Bool, true, false, List, [], ◌∷◌, ◌++◌, Option, Some, None, refl, sym, ap, subst, ◌∙◌, map}
use Rattle.std.specs.Prelude.{◌⊎◌, not}
use Rattle.uid_names.proofs.Orders.{same_proc_is, same_proc-itself}
use Rattle.uid_names.specs.Names.{ProcName}
use Rattle.uid_names.specs.declared.ids.Place.{Place}
use Rattle.dom_history.specs.declared.op.Entry.{Entry}
use Rattle.dom_history.specs.declared.op.Op.{Op}
use Rattle.dom_history.specs.declared.op.Reply.{Reply}
use Rattle.dom_history.specs.Histories.{History, entries}
use Rattle.dom_history.specs.Follows.{Heard, Reaches, starts, answered, passed, entries_of}
use Rattle.dom_history.specs.declared.op.Want.{Want}
use Rattle.dom_history.specs.declared.op.Want.TheVariants.{Done}
use Rattle.dom_history.proofs.Items.{entries-append}
use Rattle.ring_messages.specs.Bodies.{Answer}
use Rattle.fault_handler.specs.Invariant.{IsProc}
use Rattle.node_runs.specs.Setups.{Setup, IsSetup}
use Rattle.node_runs.specs.NodeStates.{OpenOp, proc_of}
use Rattle.node_runs.specs.Notes.{Told, Note}
use Rattle.node_runs.specs.Runs.{Noted, World, Choice, world_after}
use Rattle.node_runs.specs.NodesKeep.{IsTimely}
use Rattle.node_runs.specs.RunHistories.{is_fault, change_reply, act_item, fault_item, begun_item, told_item, open_item, decided_item, settled_op, ended_at, ended_by, doing_of, items_of, items_from, all_told, history_in}
use Rattle.node_runs.proofs.SettingUp.{setup-procs}
use Rattle.run_laws.specs.DecidedReplies.{proc_at}
use Rattle.run_laws.specs.Heard.{AreHeard}
use Rattle.run_laws.specs.NotedEntries.{entry_if, begun_entry, decided_entry, entries_at, noted_entries}
use Rattle.run_laws.specs.Entries.{replies_in, AreRepliesHeard, AreAskedHeard}
use Rattle.run_laws.proofs.HearingRuns.{heard-are}

act-none : (x begun : Place) (p : ProcName) (op : Op) (o : Option Reply) → entries (act_item x begun p op o) ≡ []
act-none x begun p op None = refl
act-none x begun p op (Some reply) = refl

fault-entries : (b : Bool) (x : Place) (t : Told) → entries (fault_item b x t) ≡ entry_if b x t
fault-entries true x t = refl
fault-entries false x t = refl

begun-entries : (x : Place) (o : Option Told) → entries (begun_item x o) ≡ begun_entry x o
begun-entries x None = refl
begun-entries x (Some t) = fault-entries (is_fault t.reply) x t

told-entries : (b : Bool) (x : Place) (op : Op) (answer : Answer) (t : Told) → entries (told_item b x op answer t) ≡ entry_if (not b) x t
told-entries true x op answer t = act-none x t.begun t.proc op (change_reply answer)
told-entries false x op answer t = refl

open-entries : (x : Place) (p : ProcName) (op : Op) (answer : Answer) (o : Option OpenOp) → entries (open_item x p op answer o) ≡ []
open-entries x p op answer None = refl
open-entries x p op answer (Some o) = act-none x o.began.begun p op (change_reply answer)

decided-entries : (x : Place) (p : ProcName) (op : Option Op) (answer : Answer) (o : Option Told) (doing : Option OpenOp) → entries (decided_item x p op answer o doing) ≡ decided_entry x op o
decided-entries x p None answer o doing = refl
decided-entries x p (Some op) answer None doing = open-entries x p op answer doing
decided-entries x p (Some op) answer (Some t) doing = told-entries (is_fault t.reply) x op answer t

note-entries : (w : World) (so_far : List Told) (x : Place) (note : Note) → entries (items_of w so_far x note) ≡ entries_at so_far x note
note-entries w so_far x Note.Nothing = refl
note-entries w so_far x (Note.Began p op) = begun-entries x (ended_at p x so_far)
note-entries w so_far x (Note.Did p phase op reply) = refl
note-entries w so_far x (Note.Ended t) = refl
note-entries w so_far x (Note.Decided p number ask answer) = decided-entries x p (settled_op x.node ask) answer (ended_by p number so_far) (doing_of w p)

pub history-entries : (w : World) (so_far : List Told) (notes : List Noted) → entries (items_from w so_far notes) ≡ noted_entries so_far notes
history-entries w so_far [] = refl
history-entries w so_far (m ∷ older) =
    entries-append (items_of w so_far m.place m.note) (items_from w so_far older)
    ∙ ap (λ es. es ++ entries (items_from w so_far older)) (note-entries w so_far m.place m.note)
    ∙ ap (λ es. entries_at so_far m.place m.note ++ es) (history-entries w so_far older)

-- who was answered so heard so
pub reaches-replies : {ask : Heard → Want} {past : List Entry} {heard : Heard} {phase : ℕ} → Reaches ask past heard phase → map (λ (e : Entry). e.reply) past ≡ replies_in heard
reaches-replies starts = refl
reaches-replies (answered e is asks same) = ap (λ rs. e.reply ∷ rs) (reaches-replies is)
reaches-replies (passed is asks) = reaches-replies is

module _ (s : Setup) (setup : IsSetup s) (cs : List Choice) (w : World) (e : world_after s cs ≡ Some w) (timely : IsTimely w) where
  pub asked-heard : AreAskedHeard s w
  asked-heard n p proc =
      let is = (heard-are s setup (setup-procs s setup) cs w e timely).procs n p proc in
      (is.phase, subst (λ es. Reaches (s.asks (record { node = n; number = p })) (entries_of (record { node = n; number = p }) es) (proc_of (w.nodes n) p).heard is.phase) (sym (history-entries w (all_told w.trace) w.trace)) is.reaches)

  pub replies-heard : AreRepliesHeard s w
  replies-heard n p proc = let is = asked-heard n p proc in reaches-replies is.1

-- what the program of a process did and heard in a world: until it is done its phase is that of its process
pub record IsReached (s : Setup) (h : History) (w : World) (p : ProcName) : Type 0 where
  pub phase : ℕ
  pub reaches : Reaches (s.asks p) (entries_of p (entries h.items)) (proc_of (w.nodes p.node) p.number).heard phase
  pub in_phase : ((proc_of (w.nodes p.node) p.number).phase ≡ phase) ⊎ (s.asks p (proc_of (w.nodes p.node) p.number).heard ≡ Done)

pub reached-in : (s : Setup) (w : World) → AreHeard s w → (p : ProcName) → IsProc p.number → IsReached s (history_in s w) w p
reached-in s w heard p proc =
    let is = heard.procs p.node p.number proc in
    let q = proc_of (w.nodes p.node) p.number in
    let name : proc_at p.node p.number ≡ p = same_proc_is (proc_at p.node p.number) p (same_proc-itself p) in
    record {
      phase = is.phase;
      reaches = subst (λ r. Reaches (s.asks r) (entries_of r (entries (history_in s w).items)) q.heard is.phase) name
          (subst (λ es. Reaches (s.asks (proc_at p.node p.number)) (entries_of (proc_at p.node p.number) es) q.heard is.phase) (sym (history-entries w (all_told w.trace) w.trace)) is.reaches);
      in_phase = subst (λ r. (q.phase ≡ is.phase) ⊎ (s.asks r q.heard ≡ Done)) name is.in_phase;
    }
