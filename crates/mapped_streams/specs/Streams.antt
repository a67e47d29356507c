-- The dialogues of the streams. `held` are the operations that close what is open, newest first: after a refusal only
-- these are made, and what they are answered changes nothing.
use Rattle.std.specs.Prelude.{ℕ, Option, List, [], ◌∷◌}
use Rattle.uid_names.specs.Names.{ObjectName}
use Rattle.uid_names.specs.declared.mode.Mode.{Mode}
use Rattle.uid_names.specs.declared.mode.Mode.TheVariants.{Read, Write}
use Rattle.dom_history.specs.declared.op.Op.{Op}
use Rattle.dom_history.specs.declared.op.Op.TheVariants.{Lock, Unlock, Length, Map}
use Rattle.dom_history.specs.declared.op.Reply.{Reply}
use Rattle.naming_tree.specs.Sessions.{fine, size, place, bytes, closers_if}
use Rattle.mapped_streams.specs.declared.step.StreamResult.{StreamResult}
use Rattle.mapped_streams.specs.declared.step.StreamResult.TheVariants.{Fine, Store}
use Rattle.mapped_streams.specs.declared.mapped.Mapped.{Mapped}
use Rattle.mapped_streams.specs.declared.mapped.Opened.{Opened}
use Rattle.mapped_streams.specs.declared.gathered.Gathered.{Gathered}
use Rattle.mapped_streams.specs.declared.gathered.Gathered.TheVariants.{All, Lines}
use Rattle.mapped_streams.specs.Pages.{pages_from, page_load, loads_from, page_store, end_of, stores_at}
use Rattle.mapped_streams.specs.Gathering.{gathered_with, come_to}
use Rattle.naming_tree.specs.Dialogues.{go_on_or, ask_or}
pub use Rattle.naming_tree.specs.Dialogues.{closing}
use Rattle.mapped_streams.specs.Dialogues.{Dialogue, Ends}

-- an operation that is done goes on; one that is refused is the result, once what is open is closed
abbrev pub go_on : {A : Type 0} → Option A → Reply → List Op → (A → Dialogue) → Dialogue
go_on answer reply held further = go_on_or Store answer reply held further

abbrev pub ask : {A : Type 0} → (Reply → Option A) → List Op → Op → (A → Dialogue) → Dialogue
ask answer held op further = ask_or Store answer held op further

-- Open: the lock, the length, and the mapping
abbrev pub mapping : ObjectName → ℕ → (Opened → Dialogue) → Dialogue
mapping u n further = ask place (Unlock u ∷ []) (Map u) (λ at. further (record { at = record { address = at.0; length = n }; fresh = at.1 }))

abbrev pub measuring : ObjectName → (Opened → Dialogue) → Dialogue
measuring u further = ask size (Unlock u ∷ []) (Length u) (λ n. mapping u n further)

abbrev pub opening : ObjectName → Mode → (Opened → Dialogue) → Dialogue
opening u mode further = ask fine [] (Lock u mode) (λ _. measuring u further)

-- Close: the mapping, where Open made it, and the lock; the first that is refused is the result
abbrev pub shutting : List Op → StreamResult → Dialogue
shutting [] result = Ends result
shutting (op ∷ held) result = ask fine held op (λ _. shutting held result)

-- loads, whose bytes are gathered
abbrev pub loading : List Op → List Op → Gathered → (Gathered → Dialogue) → Dialogue
loading held [] so_far further = further so_far
loading held (op ∷ ops) so_far further = ask bytes held op (λ more. loading held ops (gathered_with so_far more) further)

-- stores
abbrev pub storing : List Op → List Op → Dialogue → Dialogue
storing held [] further = further
storing held (op ∷ ops) further = ask fine held op (λ _. storing held ops further)

-- each page is loaded from one object and stored to another
abbrev pub copying : List Op → Mapped → Mapped → List ℕ → Dialogue → Dialogue
copying held source target [] further = further
copying held source target (page ∷ pages) further =
    ask bytes held (page_load source page) (λ some.
    ask fine held (page_store target page some) (λ _.
    copying held source target pages further))

-- an object is opened, loaded and closed
abbrev pub reading : ObjectName → Gathered → Dialogue
reading u none = opening u Read (λ o. loading (closers_if o.fresh u) (loads_from o.at 0) none (λ all. shutting (closers_if o.fresh u) (come_to all)))

-- its bytes
abbrev pub read_all : ObjectName → Dialogue
read_all u = reading u (All [])

-- how many lines end in it
abbrev pub count_lines : ObjectName → Dialogue
count_lines u = reading u (Lines 0)

-- a text is put behind its bytes
abbrev pub append : ObjectName → List ℕ → Dialogue
append u text = opening u Write (λ o. storing (closers_if o.fresh u) (stores_at (end_of o.at) text) (shutting (closers_if o.fresh u) Fine))

-- the bytes of another object, which is open, are put into it
abbrev pub copy : Mapped → ObjectName → Dialogue
copy source u = opening u Write (λ o. copying (closers_if o.fresh u) source o.at (pages_from source 0) (shutting (closers_if o.fresh u) Fine))
