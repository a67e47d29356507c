-- That a home has what a process stored to an object where the history has the unlock of the process.
use Rattle.std.specs.Prelude.{◌≡◌, true, List}
use Rattle.uid_names.specs.Names.{ObjectName}
use Rattle.dom_history.specs.declared.op.Op.TheVariants.{Unlock}
use Rattle.dom_history.specs.declared.op.Reply.TheVariants.{Fine}
use Rattle.dom_history.specs.declared.op.Entry.{Entry}
use Rattle.dom_history.specs.Events.{Happening}
use Rattle.dom_history.specs.Histories.{Answered, SomeOf, before, before_op}
use Rattle.dom_history.specs.Locks.{is_held, state}
use Rattle.node_runs.specs.Setups.{Setup}
use Rattle.node_runs.specs.RunHistories.{history_of}
use Rattle.node_runs.specs.HomesHave.{HomeHas}

-- the entry is the unlock of an object by a process that held it
pub record IsUnlockOf (s : Setup) (es : List Happening) (u : ObjectName) (e : Entry) : Type 0 where
  pub there : SomeOf (λ i. i ≡ Answered e) (history_of s es).items
  pub op : e.op ≡ Unlock u
  pub reply : e.reply ≡ Fine
  pub held : is_held (state u (before_op s.opening (before e.place (history_of s es).items) e.proc).told) ≡ true

abbrev pub HomesHaveAll : Setup → List Happening → Type 0
HomesHaveAll s es = (e : Entry) (u : ObjectName) → IsUnlockOf s es u e → HomeHas s es e.place u e.proc
