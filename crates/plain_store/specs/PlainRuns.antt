-- A run of the plain store, as a history.
use Rattle.std.specs.Prelude.{◌+◌, ◌≡◌, List, [], ◌∷◌, All, length, map}
use Rattle.uid_names.specs.Names.{ProcName}
use Rattle.uid_names.specs.Openings.{Start}
use Rattle.dom_history.specs.declared.op.Want.{Want}
use Rattle.dom_history.specs.declared.op.Entry.{Entry}
use Rattle.dom_history.specs.Histories.{Answered, History, told, entries}
use Rattle.dom_history.specs.Legal.{IsLegal}
use Rattle.dom_history.specs.Follows.{Heard, Follows, IsDoneAt, IsEnded, IsPhased}
use Rattle.dom_history.specs.Runs.{AreAnswered, IsEntry, IsFaultless}

-- nothing but these entries, the newest first
abbrev pub history_of : List Entry → History
history_of es = record { items = map Answered es; open_ops = [] }

-- the entries have the ticks 1, 2 and so on, each at the node of its process; the newest is first
abbrev pub AreTicked : List Entry → Type 0
AreTicked [] = Unit {0}
AreTicked (e ∷ past) = (e.place ≡ record { tick = length past + 1; node = e.proc.node }) × AreTicked past

-- entries that one store answered, at the ticks 1, 2 and so on and phase by phase, to the end of all programs
pub record ArePlainEntries (opening : Start) (asks : ProcName → Heard → Want) (es : List Entry) : Type 0 where
  pub answered : AreAnswered opening (told es)
  pub ticked : AreTicked es
  pub phased : IsPhased es
  pub done : (p : ProcName) → IsDoneAt (asks p) (history_of es) p

-- what the plain store did for these programs until all were done
pub record IsPlainRun (opening : Start) (asks : ProcName → Heard → Want) (h : History) : Type 0 where
  pub legal : IsLegal opening h
  pub phased : IsPhased (entries h.items)
  pub ended : IsEnded asks h
  pub follows : Follows asks h
  pub no_acts : All IsEntry h.items
  pub no_faults : All (λ e. IsFaultless e.reply) (entries h.items)
  pub ticked : AreTicked (entries h.items)
