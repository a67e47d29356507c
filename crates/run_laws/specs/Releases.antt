-- That a home has what a process stored to an object where it takes back the lock that the process held; and all of it, where no other process
-- holds it shared.
use Rattle.std.specs.Prelude.{◌≡◌, ℕ, true, List, ◌∷◌, ◌++◌}
use Rattle.uid_names.specs.Names.{ProcName, ObjectName}
use Rattle.dom_history.specs.Locks.{is_held, state}
use Rattle.dom_history.specs.Objects.{is_node}
use Rattle.dom_history.specs.Histories.{SomeOf}
use Rattle.dom_history.specs.StoreEffects.{own}
use Rattle.dom_history.specs.declared.op.Op.TheVariants as ops
use Rattle.dom_history.specs.declared.op.Reply.TheVariants as replies
use Rattle.object_store.specs.HomeStates.{attr_of}
use Rattle.node_runs.specs.Setups.{Setup}
use Rattle.node_runs.specs.Notes.{Note, Told}
use Rattle.node_runs.specs.Runs.{Noted, World}
use Rattle.node_runs.specs.RunHistories.{all_told}
use Rattle.node_runs.specs.HomesHave.{HasObject}
use Rattle.run_laws.specs.HistoryHomes.{held_then}
use Rattle.run_laws.specs.NotedEffects.{noted_past}
use Rattle.run_laws.specs.NotedDeeds.{noted_deeds}
use Rattle.ring_messages.specs.Bodies.{Ask, Answer}

-- the end of an unlock that was told fine, by its last call
pub record IsUnlocked (u : ObjectName) (p : ProcName) (call : ℕ) (t : Told) : Type 0 where
  pub proc : t.proc ≡ p
  pub number : t.number ≡ call
  pub op : t.op ≡ ops.Unlock u
  pub reply : t.reply ≡ replies.Fine

-- the decision by which a home takes back a lock; its process was told so, and by what it had been told before, it held the lock
pub record IsGivenBack (w : World) (u : ObjectName) (p : ProcName) (j : Noted) (older : List Noted) : Type 0 where
  pub number : ℕ
  pub answer : Answer
  pub decided : j.note ≡ Note.Decided p number (Ask.Unlock u) answer
  pub told : SomeOf (IsUnlocked u p number) (all_told w.trace)
  pub held : is_held (state u (own p (noted_deeds older))) ≡ true

-- the home has the process's last stores of the object there
abbrev pub AreReleasesHome : Setup → World → Type 0
AreReleasesHome s w = (newer older : List Noted) (j : Noted) (u : ObjectName) (p : ProcName) → w.trace ≡ newer ++ j ∷ older → is_node s.opening j.place.node ≡ true → IsGivenBack w u p j older
    → let home = (held_then s u.home (j ∷ older)).home in HasObject s.opening (noted_past older) home u p (attr_of home u)
