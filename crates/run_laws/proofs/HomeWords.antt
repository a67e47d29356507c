-- At each place of the history of a run a home decides what it says.
use Rattle.std.proofs.Common.{◌≡◌, ℕ, ◌+◌, Bool, true, List, [], ◌∷◌, ◌++◌, Option, Some, None, refl, sym, ap, subst, ◌∙◌, append_assoc}
use Rattle.std.specs.Prelude.{not, if◌then◌else◌, is_some, find}
use Rattle.std.specs.Option.{option_map}
use Rattle.uid_names.proofs.ListLemmas.{by_cases}
use Rattle.uid_names.specs.Names.{ObjectName}
use Rattle.uid_names.specs.Rows.{is_in_conflict, rows_after}
use Rattle.uid_names.specs.declared.lock_row.LockRow.{LockRow}
use Rattle.uid_names.specs.declared.mode.Mode.{Mode}
use Rattle.dom_history.specs.declared.op.Op.TheVariants as ops
use Rattle.dom_history.specs.declared.op.Reply.TheVariants.{NoObject}
use Rattle.dom_history.specs.Locks.{rows}
use Rattle.dom_history.specs.Objects.{is_node, is_present}
use Rattle.dom_history.specs.Replies.{conflict_or_fine, home_lock_reply, list_reply}
use Rattle.object_store.specs.declared.attributes.Attr.{Attr}
use Rattle.object_store.specs.HomeStates.{attr_of}
use Rattle.lock_manager.specs.declared.grants.Grant.{Grant}
use Rattle.lock_manager.specs.Grants.{rows_of, holder_in}
use Rattle.ring_messages.specs.Bodies.{Ask}
use Rattle.page_server.specs.Decisions.{lock_answer}
use Rattle.node_runs.specs.Setups.{Setup, IsSetup}
use Rattle.node_runs.specs.NodesKeep.{IsTimely}
use Rattle.node_runs.specs.Notes.{Note}
use Rattle.node_runs.specs.Runs.{World, Noted, Choice, world_after}
use Rattle.node_runs.specs.CallsKeep.{EachOf}
use Rattle.node_runs.specs.DecidedCalls.{IsDecided}
use Rattle.node_runs.specs.Replays.{IsAnswered, AreAnswered}
use Rattle.node_runs.proofs.Decisions.{decisions-are}
use Rattle.node_runs.proofs.Replaying.{replays-are}
use Rattle.node_runs.proofs.SettingUp.{setup-procs}
use Rattle.node_runs.proofs.EachOf.{EachOf-behind}
use Rattle.run_laws.specs.ToldAnswers.{TellsReply}
use Rattle.run_laws.proofs.AskedHomes.{calls-at-homes}
use Rattle.run_laws.specs.HistoryHomes.{held_then, past_then, AreHomesThen}
use Rattle.run_laws.specs.HomeWords.{SaysSo, AreHomeWords}
use Rattle.run_laws.proofs.HistoryHomes.{answered-behind, meant-at, homes-always}
use Rattle.run_laws.proofs.HomeRows.{IsMeantAt}

pub find-row : (test : LockRow → Bool) (grants : List Grant) → find test (rows_of grants) ≡ option_map (λ (g : Grant). g.row) (find (λ g. test g.row) grants)
find-row test [] = refl
find-row test (g ∷ grants) = by_cases (test g.row) (find test (rows_of (g ∷ grants)) ≡ option_map (λ (k : Grant). k.row) (find (λ k. test k.row) (g ∷ grants))) (λ h. rw h refl) (λ h. rw h (find-row test grants))

-- the answer to a lock
module _ (u : ObjectName) (m : Mode) (grant : ℕ) where
  lock-says : (attr : Option Attr) (o : Option Grant) → TellsReply (ops.Lock u m) (if not (is_some attr) then NoObject else conflict_or_fine (option_map (λ (g : Grant). g.row) o)) (lock_answer attr (holder_in o) grant)
  lock-says None o = refl
  lock-says (Some attr) None = refl
  lock-says (Some attr) (Some g) = refl

module _ (s : Setup) (w : World) (older : List Noted) (homes : AreHomesThen s w older) where
  note-says : (home : ℕ) (note : Note) → is_node s.opening home ≡ true → IsMeantAt home note → IsAnswered (held_then s home older) note → SaysSo s.opening (past_then w older) home note
  note-says home Note.Nothing node at is = tt
  note-says home (Note.Began p op) node at is = tt
  note-says home (Note.Did p phase op reply) node at is = tt
  note-says home (Note.Ended t) node at is = tt
  note-says home (Note.Decided p number ask answer) node at is = by ask at is
    where
      by : (ask : Ask) → IsMeantAt home (Note.Decided p number ask answer) → IsAnswered (held_then s home older) (Note.Decided p number ask answer) → SaysSo s.opening (past_then w older) home (Note.Decided p number ask answer)
      by (Ask.PageIn u k) at is = tt
      by (Ask.PageOut u k grant base bytes) at is = tt
      by (Ask.AttrOut u n grant base) at is = tt
      by (Ask.Lock u m) at is =
          let h = held_then s home older in
          let o = find (λ (g : Grant). is_in_conflict p u m g.row) h.locks.grants in
          let present : is_present s.opening (past_then w older) u ≡ is_some (attr_of h.home u) = homes.present u (subst (λ a. is_node s.opening a ≡ true) at node) ∙ ap (λ a. is_some (attr_of (held_then s a older).home u)) (sym at) in
          let found : find (is_in_conflict p u m) (rows u.home (past_then w older)) ≡ option_map (λ (g : Grant). g.row) o = ap (λ a. find (is_in_conflict p u m) (rows a (past_then w older))) (sym at) ∙ (ap (find (is_in_conflict p u m)) (homes.rows home) ∙ find-row (is_in_conflict p u m) h.locks.grants) in
          let said : home_lock_reply s.opening (past_then w older) p u m ≡ (if not (is_some (attr_of h.home u)) then NoObject else conflict_or_fine (option_map (λ (g : Grant). g.row) o)) =
          ap (λ b. if not b then NoObject else conflict_or_fine (find (is_in_conflict p u m) (rows u.home (past_then w older)))) present
          ∙ ap (λ x. if not (is_some (attr_of h.home u)) then NoObject else conflict_or_fine x) found in
          subst (λ r. TellsReply (ops.Lock u m) r answer) (sym said) (subst (TellsReply (ops.Lock u m) (if not (is_some (attr_of h.home u)) then NoObject else conflict_or_fine (option_map (λ (g : Grant). g.row) o))) (sym is) (lock-says u m (h.locks.last + 1) (attr_of h.home u) o))
      by (Ask.Unlock u) at is = tt
      by (Ask.Remove u) at is = tt
      by (Ask.Make kind room) at is = tt
      by (Ask.ListLocks after) at is =
          subst (λ r. TellsReply (ops.List home after) (list_reply (rows_after after r)) answer) (sym (homes.rows home)) (subst (TellsReply (ops.List home after) (list_reply (rows_after after (rows_of (held_then s home older).locks.grants)))) (sym is) refl)

-- in every run
pub words-are : (s : Setup) → IsSetup s → (cs : List Choice) (w : World) → world_after s cs ≡ Some w → IsTimely w → AreHomeWords s w
words-are s setup cs w e timely newer older j parts node =
    let decisions = decisions-are s (setup-procs s setup) cs w e in
    let whole : w.trace ≡ (newer ++ j ∷ []) ++ older = parts ∙ sym (append_assoc newer (j ∷ []) older) in
    let decided = (EachOf-behind (λ (i : Noted). IsDecided w i.place i.note) newer (j ∷ older) (subst (EachOf (λ (i : Noted). IsDecided w i.place i.note)) parts decisions.each)).0 in
    let answered = (answered-behind s newer (j ∷ older) (subst (AreAnswered s) parts (replays-are s cs w e).answers)).0 in
    note-says s w older (homes-always s setup cs w e timely (newer ++ j ∷ []) older whole) j.place.node j.note node (meant-at w (calls-at-homes s setup cs w e timely) j.place j.note decided) answered
