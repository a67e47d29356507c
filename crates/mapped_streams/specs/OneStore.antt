-- What a stream comes to that one store answers, while no one else asks that anything.
use Rattle.std.specs.Prelude.{ℕ, List, ◌∷◌}
use Rattle.uid_names.specs.Names.{ProcName, ObjectName}
use Rattle.uid_names.specs.Openings.{Start}
use Rattle.dom_history.specs.declared.op.Op.{Op}
use Rattle.dom_history.specs.declared.op.Reply.{Reply}
use Rattle.dom_history.specs.declared.deed.Deed.{Deed}
use Rattle.dom_history.specs.StoreEffects.{StoreEffect}
use Rattle.dom_history.specs.Mappings.{Mapping}
use Rattle.dom_history.specs.Bytes.{length_of, bytes_from}
use Rattle.dom_history.specs.Replies.{before_of, reply_of}
use Rattle.mapped_streams.specs.declared.step.StreamResult.{StreamResult}
use Rattle.mapped_streams.specs.declared.step.StreamResult.TheVariants.{Store}
use Rattle.mapped_streams.specs.declared.mapped.Mapped.{Mapped}
use Rattle.mapped_streams.specs.Dialogues.{Dialogue, Ends, Asks}

module _ (opening : Start) (p : ProcName) where
  -- what the store answers behind deeds, of which the newest stands first
  abbrev pub answer : List Deed → Op → Reply
  answer deeds op = reply_of (before_of opening deeds p) p op

  abbrev pub answered : List Deed → Op → List Deed
  answered deeds op = record { proc = p; op = op; reply = answer deeds op } ∷ deeds

  -- the result of a dialogue
  abbrev pub come : Dialogue → List Deed → StreamResult
  come (Ends result) deeds = result
  come (Asks op further) deeds = come (further (answer deeds op)) (answered deeds op)

  -- and the deeds behind it
  abbrev pub behind : Dialogue → List Deed → List Deed
  behind (Ends result) deeds = deeds
  behind (Asks op further) deeds = behind (further (answer deeds op)) (answered deeds op)

-- no operation was refused
abbrev pub IsDone : StreamResult → Type 0
IsDone (Store reply) = ⊥
IsDone _ = Unit {0}

-- the bytes of an object, below its length
abbrev pub content : Start → List StoreEffect → ObjectName → List ℕ
content opening past u = bytes_from opening past u 0 (length_of opening past u)

-- an object as a mapping has it
abbrev pub source_at : Start → List StoreEffect → Mapping → Mapped
source_at opening past m = record { address = m.address; length = length_of opening past m.uid }
