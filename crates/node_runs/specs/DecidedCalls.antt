-- Each call is decided at most once, and at the home that it asks.
use Rattle.std.specs.Prelude.{◌≡◌, ℕ, ◌≤◌, List, [], ◌∷◌}
use Rattle.uid_names.specs.Names.{ProcName}
use Rattle.uid_names.specs.declared.ids.Place.{Place}
use Rattle.call_once.specs.Calls.{last_of}
use Rattle.node_runs.specs.Notes.{Note}
use Rattle.node_runs.specs.Runs.{Noted, World}
use Rattle.node_runs.specs.CallsKeep.{IsCallAt, EachOf}

-- what a home decided is a call that its process made to it, and its number is not above the last one there
abbrev pub IsDecided : World → Place → Note → Type 0
IsDecided w x (Note.Decided p number ask answer) =
    (number ≤ last_of p (w.nodes x.node).side.served) × IsCallAt (w.calls p.node p.number) number x.node ask
IsDecided w x note = Unit {0}

-- it decides no such call
abbrev pub IsOther : ProcName → ℕ → Note → Type 0
IsOther p number (Note.Decided q k ask answer) = q ≡ p → k ≡ number → ⊥
IsOther p number note = Unit {0}

-- none before decided the same call
abbrev pub IsFirst : Note → List Noted → Type 0
IsFirst (Note.Decided p number ask answer) older = EachOf (λ (m : Noted). IsOther p number m.note) older
IsFirst note older = Unit {0}

abbrev pub AreDecidedOnce : List Noted → Type 0
AreDecidedOnce [] = Unit {0}
AreDecidedOnce (m ∷ older) = IsFirst m.note older × AreDecidedOnce older

pub record AreDecisions (w : World) : Type 0 where
  pub each : EachOf (λ (m : Noted). IsDecided w m.place m.note) w.trace
  pub once : AreDecidedOnce w.trace
