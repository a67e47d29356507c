-- Deeds that were answered as one store answers them, and the history that they are.
use Rattle.std.specs.Prelude.{ℕ, ◌+◌, ◌≡◌, List, [], ◌∷◌, All, length}
use Rattle.uid_names.specs.Openings.{Start, IsStart}
use Rattle.dom_history.specs.declared.op.Reply.{Reply}
use Rattle.dom_history.specs.declared.op.Reply.TheVariants.{Kept, Doubt, LinkFault}
use Rattle.dom_history.specs.declared.deed.Deed.{Deed}
use Rattle.dom_history.specs.Histories.{Item, Answered, Acted, History}
use Rattle.dom_history.specs.Ranges.{IsOp}
use Rattle.dom_history.specs.Replies.{before_of, reply_of}

-- each deed was answered as one store answers it; the newest is first
abbrev pub AreAnswered : Start → List Deed → Type 0
AreAnswered opening [] = Unit {0}
AreAnswered opening (d ∷ past) = (d.reply ≡ reply_of (before_of opening past d.proc) d.proc d.op) × AreAnswered opening past

-- from an opening as it may be, with operations in their ranges, each answered as one store answers it
pub record IsAnsweredPast (opening : Start) (past : List Deed) : Type 0 where
  pub start : IsStart opening
  pub answered : AreAnswered opening past
  pub ranges : All (λ d. IsOp d.op) past

-- the deeds as entries of one phase, at the places 1, 2 and so on of one node
abbrev pub items_at : ℕ → List Deed → List Item
items_at node [] = []
items_at node (d ∷ past) =
    Answered (record { place = record { tick = length past + 1; node = node }; proc = d.proc; phase = 1; op = d.op; reply = d.reply }) ∷ items_at node past

abbrev pub history_at : ℕ → List Deed → History
history_at node done = record { items = items_at node done; open_ops = [] }

-- the item is no act
abbrev pub IsEntry : Item → Type 0
IsEntry (Answered e) = Unit {0}
IsEntry (Acted a) = ⊥

-- the reply comes from no link fault
abbrev pub IsFaultless : Reply → Type 0
IsFaultless Kept = ⊥
IsFaultless Doubt = ⊥
IsFaultless LinkFault = ⊥
IsFaultless _ = Unit {0}
