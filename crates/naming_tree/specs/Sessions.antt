-- The parts of which the machines' operations are put together. `held` are the operations that close what is open,
-- newest first: after a refusal only these are made, and what they are answered changes nothing.
use Rattle.std.specs.Prelude.{ℕ, ◌-◌, Bool, true, false, Option, Some, None, List, [], ◌∷◌, ◌++◌, map}
use Rattle.std.specs.List.{range_with_len}
use Rattle.uid_names.specs.Names.{ObjectName}
use Rattle.uid_names.specs.declared.mode.Mode.{Mode}
use Rattle.uid_names.specs.declared.mode.Mode.TheVariants.{Read}
use Rattle.dom_history.specs.declared.op.Op.{Op}
use Rattle.dom_history.specs.declared.op.Op.TheVariants.{Lock, Unlock, Length, Map, Unmap}
use Rattle.dom_history.specs.declared.op.Reply.{Reply}
use Rattle.dom_history.specs.declared.op.Reply.TheVariants.{Made, Fine, Bytes, Size, At}
use Rattle.naming_tree.specs.declared.session.Opened.{Opened}
use Rattle.naming_tree.specs.declared.step.NameResult.TheVariants.{Store}
use Rattle.naming_tree.specs.Dialogues.{Dialogue, go_on_or, ask_or}
pub use Rattle.naming_tree.specs.Dialogues.{closing}
use Rattle.naming_tree.specs.Entering.{pages, page_load}

-- what an operation answers where it is done
abbrev pub fine : Reply → Option (Unit {0})
fine Fine = Some tt
fine _ = None

abbrev pub size : Reply → Option ℕ
size (Size n) = Some n
size _ = None

abbrev pub place : Reply → Option (ℕ × Bool)
place (At address fresh) = Some (address, fresh)
place _ = None

abbrev pub bytes : Reply → Option (List ℕ)
bytes (Bytes list) = Some list
bytes _ = None

abbrev pub made : Reply → Option ObjectName
made (Made u) = Some u
made _ = None

-- an operation that is done goes on; one that is refused is the result, once what is open is closed
abbrev pub go_on : {A : Type 0} → Option A → Reply → List Op → (A → Dialogue) → Dialogue
go_on answer reply held further = go_on_or Store answer reply held further

abbrev pub ask : {A : Type 0} → (Reply → Option A) → List Op → Op → (A → Dialogue) → Dialogue
ask answer held op further = ask_or Store answer held op further

-- Open
abbrev pub opening : ObjectName → Mode → (Opened → Dialogue) → Dialogue
opening u mode further =
    ask fine [] (Lock u mode) (λ _.
    ask size (Unlock u ∷ []) (Length u) (λ n.
    ask place (Unlock u ∷ []) (Map u) (λ at.
    further (record { uid = u; length = n; address = at.0; fresh = at.1 }))))

-- Close: the mapping, where Open made it, and the lock
abbrev pub closers_if : Bool → ObjectName → List Op
closers_if true u = Unmap u ∷ Unlock u ∷ []
closers_if false u = Unlock u ∷ []

abbrev pub closers : Opened → List Op
closers o = closers_if o.fresh o.uid

-- both are made, and the first that is refused is the result
abbrev pub shutting : List Op → Dialogue → Dialogue
shutting [] further = further
shutting (op ∷ held) further = ask fine held op (λ _. shutting held further)

-- loads, whose bytes are put together
abbrev pub loading : List Op → List Op → List ℕ → (List ℕ → Dialogue) → Dialogue
loading held [] so_far further = further so_far
loading held (op ∷ ops) so_far further = ask bytes held op (λ more. loading held ops (so_far ++ more) further)

-- a load of each page below the length, from this one on
abbrev pub loads_from : Opened → ℕ → List Op
loads_from o page = map (page_load o) (range_with_len page (pages o.length - page))

-- an object is opened and loaded whole
abbrev pub entering : ObjectName → Mode → (Opened → List ℕ → Dialogue) → Dialogue
entering u mode further = opening u mode (λ o. loading (closers o) (loads_from o 0) [] (λ all. further o all))

-- an object is read whole: opened, loaded and closed
abbrev pub reading : ObjectName → (List ℕ → Dialogue) → Dialogue
reading u further = entering u Read (λ o all. shutting (closers o) (further all))
