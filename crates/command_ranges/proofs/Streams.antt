-- What is asked of the bytes of files is in the ranges of operations.
use Rattle.std.proofs.Common.{◌≡◌, ℕ, zero, suc, ◌+◌, ◌-◌, ◌*◌, ◌%◌, ◌≤◌, Option, IfSome, List, [], ◌∷◌, length, take, drop, refl, arith, length-take, length-drop}
use Rattle.std.specs.List.{range_with_len}
use Rattle.uid_names.specs.Names.{ObjectName, IsName}
use Rattle.uid_names.specs.declared.limits.TheConstants.{PAGE_BYTES}
use Rattle.uid_names.specs.declared.mode.Mode.{Mode}
use Rattle.uid_names.specs.declared.mode.Mode.TheVariants.{Read, Write}
use Rattle.dom_history.specs.Ranges.{IsOp}
use Rattle.dom_history.specs.declared.op.Op.{Op}
use Rattle.dom_history.specs.declared.op.Reply.{Reply}
use Rattle.dom_history.specs.declared.op.Spot.TheVariants.{Addr}
use Rattle.naming_tree.specs.Entering.{pages}
use Rattle.naming_tree.specs.Sessions.{bytes, closers_if, fine}
use Rattle.mapped_streams.specs.Dialogues.{Dialogue}
use Rattle.mapped_streams.specs.Gathering.{come_to, gathered_with}
use Rattle.mapped_streams.specs.Pages.{IsMapped, bytes_in, end_of, loads_from, page_load, page_store, pages_from, room_at, store_at, store_before, store_behind, stores_at}
use Rattle.mapped_streams.specs.Streams.{append, ask, copy, copying, count_lines, loading, opening, read_all, reading, shutting, storing}
use Rattle.mapped_streams.specs.declared.gathered.Gathered.{Gathered}
use Rattle.mapped_streams.specs.declared.gathered.Gathered.TheVariants.{All, Lines}
use Rattle.mapped_streams.specs.declared.mapped.Mapped.{Mapped}
use Rattle.mapped_streams.specs.declared.mapped.Opened.{Opened}
use Rattle.mapped_streams.specs.declared.step.StreamResult.{StreamResult}
use Rattle.mapped_streams.specs.declared.step.StreamResult.TheVariants.{Fine, Store}
use Rattle.mapped_streams.proofs.ReadsServed.{in_end, next_page}
use Rattle.aegis_shell.proofs.Ranged.{AreOps}
use Rattle.command_ranges.specs.Telling.{AsksInRange, MayTell}
use Rattle.command_ranges.proofs.Answers.{Anything, any-told, bytes-told}
use Rattle.command_ranges.proofs.Asking.{ask-asks, fine-asks, opened-asks}
use Rattle.command_ranges.proofs.Ranges.{closers-ops, loads-ops, ops-append, page-loaded, page-some, page-stored}

-- a dialogue of streams asks in its ranges, whatever it comes to
abbrev pub AsksStreams : Dialogue → Type 0
AsksStreams d = AsksInRange (Anything StreamResult) d

ask-streams : {A : Type 0} (answer : Reply → Option A) (IsTold : A → Type 0) (held : List Op) (op : Op) (further : A → Dialogue)
    → AreOps held → IsOp op → ((reply : Reply) → MayTell op reply → IfSome (answer reply) IsTold) → ((a : A) → IsTold a → AsksStreams (further a)) → AsksStreams (ask answer held op further)
ask-streams answer IsTold held op further ops is told next = ask-asks (Anything StreamResult) Store (λ reply. tt) answer IsTold held op further ops is told next

fine-streams : (held : List Op) (op : Op) (further : Dialogue) → AreOps held → IsOp op → AsksStreams further → AsksStreams (ask fine held op (λ _. further))
fine-streams held op further ops is next = fine-asks (Anything StreamResult) Store (λ reply. tt) held op further ops is next

-- a file is opened, loaded or stored, and closed
opening-streams : (u : ObjectName) (mode : Mode) (further : Opened → Dialogue) → IsName u → ((o : Opened) → IsMapped o.at → AsksStreams (further o)) → AsksStreams (opening u mode further)
opening-streams u mode further is next =
    opened-asks (Anything StreamResult) Store (λ reply. tt) u mode (λ n at. further (record { at = record { address = at.0; length = n }; fresh = at.1 })) is
    (λ n at long there. next (record { at = record { address = at.0; length = n }; fresh = at.1 }) (record { long = long; at = there.0; below = there.1 }))

shutting-streams : (held : List Op) (result : StreamResult) → AreOps held → AsksStreams (shutting held result)
shutting-streams [] result ops = tt
shutting-streams (op ∷ held) result ops = fine-streams held op (shutting held result) ops.1 ops.0 (shutting-streams held result ops.1)

loading-streams : (held ops : List Op) (so_far : Gathered) (further : Gathered → Dialogue) → AreOps held → AreOps ops → ((all : Gathered) → AsksStreams (further all)) → AsksStreams (loading held ops so_far further)
loading-streams held [] so_far further closes are next = next so_far
loading-streams held (op ∷ ops) so_far further closes are next =
    ask-streams bytes (Anything (List ℕ)) held op (λ more. loading held ops (gathered_with so_far more) further) closes are.0 (λ reply may. any-told (bytes reply))
    (λ more _. loading-streams held ops (gathered_with so_far more) further closes are.1 next)

storing-streams : (held ops : List Op) (further : Dialogue) → AreOps held → AreOps ops → AsksStreams further → AsksStreams (storing held ops further)
storing-streams held [] further closes are next = next
storing-streams held (op ∷ ops) further closes are next = fine-streams held op (storing held ops further) closes are.0 (storing-streams held ops further closes are.1 next)

-- its bytes are read, or its lines counted
reading-streams : (u : ObjectName) (none : Gathered) → IsName u → AsksStreams (reading u none)
reading-streams u none is =
    opening-streams u Read (λ o. loading (closers_if o.fresh u) (loads_from o.at 0) none (λ all. shutting (closers_if o.fresh u) (come_to all))) is (λ o mapped.
    loading-streams (closers_if o.fresh u) (loads_from o.at 0) none (λ all. shutting (closers_if o.fresh u) (come_to all)) (closers-ops o.fresh u is)
    (loads-ops (page_load o.at) o.at.length (λ page begins. page-loaded o.at.address o.at.length page mapped.at begins) (pages o.at.length - 0) 0 refl)
    (λ all. shutting-streams (closers_if o.fresh u) (come_to all) (closers-ops o.fresh u is)))

pub read-streams : (u : ObjectName) → IsName u → AsksStreams (read_all u)
read-streams u is = reading-streams u (All []) is

pub count-streams : (u : ObjectName) → IsName u → AsksStreams (count_lines u)
count-streams u is = reading-streams u (Lines 0) is

-- the stores of a text: none where it is empty, else in their pages
store-ops : (place : ℕ) (text : List ℕ) → place % PAGE_BYTES + length text ≤ PAGE_BYTES → AreOps (store_at place text)
store-ops place [] fits = tt
store-ops place (byte ∷ bytes) fits = ((tt, (omega arith, fits)), tt)

stores-ops : (place : ℕ) (text : List ℕ) → length text ≤ PAGE_BYTES → AreOps (stores_at place text)
stores-ops place text few =
    let front = length-take (room_at place) text in
    let back = length-drop (room_at place) text in
    ops-append (store_before place text) (store_behind place text)
    (store-ops place (take (room_at place) text) (omega (arith, front)))
    (store-ops (place + room_at place) (drop (room_at place) text) (omega (arith, back, few)))

pub append-streams : (u : ObjectName) (text : List ℕ) → IsName u → length text ≤ PAGE_BYTES → AsksStreams (append u text)
append-streams u text is few =
    opening-streams u Write (λ o. storing (closers_if o.fresh u) (stores_at (end_of o.at) text) (shutting (closers_if o.fresh u) Fine)) is (λ o mapped.
    storing-streams (closers_if o.fresh u) (stores_at (end_of o.at) text) (shutting (closers_if o.fresh u) Fine) (closers-ops o.fresh u is) (stores-ops (end_of o.at) text few)
    (shutting-streams (closers_if o.fresh u) Fine (closers-ops o.fresh u is)))

-- pages are copied
module _ (held : List Op) (closes : AreOps held) (source target : Mapped) (from : IsMapped source) (to : IsMapped target) (further : Dialogue) (next : AsksStreams further) where
  copying-streams : (k page : ℕ) → k ≡ pages source.length - page → AsksStreams (copying held source target (range_with_len page k) further)
  copying-streams zero page is = next
  copying-streams (suc k) page is =
      let begins = in_end source.length page k is in
      let some = page-some source.length page begins in
      let rest = copying held source target (range_with_len (page + 1) k) further in
      ask-streams bytes (λ (list : List ℕ). length list ≡ bytes_in source page) held (page_load source page) (λ list. ask fine held (page_store target page list) (λ _. rest)) closes (page-loaded source.address source.length page from.at begins)
      (bytes-told (Addr (source.address + page * PAGE_BYTES)) (bytes_in source page)) (λ list long.
      fine-streams held (page_store target page list) rest closes (page-stored target.address page list to.at (omega (arith, long, some)) (omega (arith, long)))
      (copying-streams k (page + 1) (next_page (pages source.length) page k is)))

pub copy-streams : (source : Mapped) (u : ObjectName) → IsMapped source → IsName u → AsksStreams (copy source u)
copy-streams source u from is =
    opening-streams u Write (λ o. copying (closers_if o.fresh u) source o.at (pages_from source 0) (shutting (closers_if o.fresh u) Fine)) is (λ o mapped.
    copying-streams (closers_if o.fresh u) (closers-ops o.fresh u is) source o.at from mapped (shutting (closers_if o.fresh u) Fine) (shutting-streams (closers_if o.fresh u) Fine (closers-ops o.fresh u is)) (pages source.length - 0) 0 refl)
