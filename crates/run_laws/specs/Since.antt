-- What was noted since an open operation began: nothing that is an entry of its process.
use Rattle.std.specs.Prelude.{◌≡◌, ◌≢◌, List, [], ◌∷◌}
use Rattle.uid_names.specs.Names.{ProcName}
use Rattle.dom_history.specs.Follows.{entries_of}
use Rattle.node_runs.specs.NodeStates.{Await, BegunOp}
use Rattle.node_runs.specs.Notes.{Told, Note}
use Rattle.node_runs.specs.Runs.{Noted}
use Rattle.node_runs.specs.CallsKeep.{EachOf}
use Rattle.node_runs.specs.DecidedCalls.{IsOther}
use Rattle.run_laws.specs.NotedEntries.{entries_at}

-- it does not decide the call that is awaited
abbrev pub IsUndecided : ProcName → Await → Note → Type 0
IsUndecided p (Await.Answer c) note = IsOther p c.waiting.number note
IsUndecided p (Await.Page u k) note = Unit {0}

-- the operation began there, and no decision on its open call stands before; since then no entry of the process was noted
pub data Since (p : ProcName) (o : BegunOp) (a : Await) (told : List Told) : List Noted → Type 0 where
  here : {m : Noted} {older : List Noted} → m.place ≡ o.begun → m.note ≡ Note.Began p o.op
      → EachOf (λ (j : Noted). j.place ≢ o.begun) older → EachOf (λ (j : Noted). IsUndecided p a j.note) older → Since p o a told (m ∷ older)
  later : {m : Noted} {older : List Noted} → m.place ≢ o.begun → entries_of p (entries_at told m.place m.note) ≡ [] → Since p o a told older → Since p o a told (m ∷ older)
