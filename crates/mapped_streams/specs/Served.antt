-- What a stream comes to where one store refuses it nothing, and what its object holds then.
use Rattle.std.specs.Prelude.{◌≡◌, ◌≤◌, ◌+◌, ◌*◌, ℕ, false, List, Some}
use Rattle.uid_names.specs.Names.{ProcName, ObjectName, same_uid}
use Rattle.uid_names.specs.Openings.{Start}
use Rattle.uid_names.specs.declared.limits.TheConstants.{PAGE_BYTES}
use Rattle.dom_history.specs.declared.deed.Deed.{Deed}
use Rattle.dom_history.specs.StoreEffects.{StoreEffect, store_effects}
use Rattle.dom_history.specs.Objects.{room_of}
use Rattle.dom_history.specs.Bytes.{length_of}
use Rattle.dom_history.specs.Mappings.{Mapping}
use Rattle.dom_history.specs.Replies.{before_of, mapping_of}
use Rattle.dom_history.specs.Runs.{AreAnswered}
use Rattle.mapped_streams.specs.declared.step.StreamResult.{StreamResult}
use Rattle.mapped_streams.specs.declared.mapped.Mapped.{Mapped}
use Rattle.mapped_streams.specs.Dialogues.{Dialogue}
use Rattle.mapped_streams.specs.OneStore.{come, behind, content, source_at, IsDone}

-- a process that asks one store, behind deeds that it answered
pub record Asker : Type 0 where
  pub opening : Start
  pub proc : ProcName
  pub deeds : List Deed
  pub answered : AreAnswered opening deeds

module _ (a : Asker) where
  abbrev pub past : List StoreEffect
  past = store_effects a.deeds

  -- what an object holds
  abbrev pub holds : ObjectName → List ℕ
  holds u = content a.opening past u

  -- unless it is refused something, a stream comes to this result
  abbrev pub ComesTo : Dialogue → StreamResult → Type 0
  ComesTo d result = IsDone (come a.opening a.proc d a.deeds) → come a.opening a.proc d a.deeds ≡ result

  -- unless it is refused something, it leaves an object that holds these bytes
  abbrev pub Leaves : Dialogue → ObjectName → List ℕ → Type 0
  Leaves d u bytes = IsDone (come a.opening a.proc d a.deeds) → content a.opening (store_effects (behind a.opening a.proc d a.deeds)) u ≡ bytes

  -- so many bytes more fit an object
  abbrev pub HasRoomFor : ObjectName → ℕ → Type 0
  HasRoomFor u n = length_of a.opening past u + n ≤ PAGE_BYTES * room_of a.opening past u

  -- the source of a copy, as the process has it mapped
  abbrev pub source : Mapping → Mapped
  source m = source_at a.opening past m

  -- one object, which the process has mapped so, can be copied to another, which is empty and has room for it
  pub record IsCopied (from to : ObjectName) (m : Mapping) : Type 0 where
    pub other : same_uid to from ≡ false
    pub mapped : mapping_of (before_of a.opening a.deeds a.proc) a.proc from ≡ Some m
    pub empty : length_of a.opening past to ≡ 0
    pub room : length_of a.opening past from ≤ PAGE_BYTES * room_of a.opening past to
