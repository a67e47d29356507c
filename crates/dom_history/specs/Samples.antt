-- Small histories, right ones and wrong ones.
use Rattle.std.specs.Prelude.{ℕ, List, [], ◌∷◌}
use Rattle.uid_names.specs.Names.{ProcName, ObjectName}
use Rattle.uid_names.specs.Openings.{Start}
use Rattle.uid_names.specs.declared.mode.Mode.{Mode}
use Rattle.uid_names.specs.declared.mode.Mode.TheVariants.{Read, Write}
use Rattle.uid_names.specs.declared.mode.ObjKind.TheVariants.{File}
use Rattle.uid_names.specs.declared.ids.Place.{Place}
use Rattle.uid_names.specs.declared.limits.TheConstants.{MAX_ROOM}
use Rattle.dom_history.specs.declared.op.Spot.TheVariants.{Of}
use Rattle.dom_history.specs.declared.op.Op.TheVariants.{New, Lock, Unlock, Delete, Load, Store}
use Rattle.dom_history.specs.declared.op.Reply.{Reply}
use Rattle.dom_history.specs.declared.op.Reply.TheVariants.{Made, Fine, Bytes, Conflict, Doubt, Unsettled}
use Rattle.dom_history.specs.declared.op.Op.{Op}
use Rattle.dom_history.specs.declared.op.Entry.{Entry}
use Rattle.dom_history.specs.declared.deed.Deed.{Deed}
use Rattle.dom_history.specs.Histories.{Item, Answered, Acted, History}

-- the first processes of two nodes
abbrev pub p : ProcName
p = record { node = 1; number = 1 }

abbrev pub q : ProcName
q = record { node = 2; number = 1 }

-- the first object that node 1 makes, and the first that is declared at node 2
abbrev pub x : ObjectName
x = record { counter = 2; home = 1 }

abbrev pub y : ObjectName
y = record { counter = 2; home = 2 }

abbrev pub one_node : Start
one_node = record { nodes = 1; greatest = MAX_ROOM; objects = [] }

-- two nodes, and a file of one page at the second
abbrev pub two_nodes : Start
two_nodes = record { nodes = 2; greatest = MAX_ROOM; objects = record { uid = y; kind = File; room = 1 } ∷ [] }

abbrev pub at : ℕ → ℕ → Place
at tick node = record { tick = tick; node = node }

abbrev pub deed : ProcName → Op → Reply → Deed
deed r op reply = record { proc = r; op = op; reply = reply }

abbrev pub entry : Place → ProcName → Op → Reply → Item
entry place r op reply = Answered (record { place = place; proc = r; phase = 1; op = op; reply = reply })

abbrev pub act : Place → Place → ProcName → Op → Reply → Item
act place begun r op reply = Acted (record { place = place; begun = begun; deed = deed r op reply })

abbrev pub closed : List Item → History
closed items = record { items = items; open_ops = [] }

-- an object is made, locked, stored to, loaded from and unlocked
abbrev pub first_run : List Deed
first_run =
    deed p (Unlock x) Fine ∷ (deed p (Load (Of x 0) 2) (Bytes (104 ∷ 105 ∷ [])) ∷ (deed p (Store (Of x 0) (104 ∷ 105 ∷ [])) Fine
    ∷ (deed p (Lock x Write) Fine ∷ (deed p (New 1 File 1) (Made x) ∷ []))))

-- a lock in doubt, on which the home acted later
abbrev pub acted_in_doubt : List Item
acted_in_doubt = act (at 5 2) (at 1 1) p (Lock y Write) Fine ∷ (entry (at 1 1) p (Lock y Write) Doubt ∷ [])

-- and then a refusal, and the unlock that settles it
abbrev pub in_doubt : History
in_doubt = closed (entry (at 9 2) p (Unlock y) Fine ∷ (entry (at 7 1) p (Lock y Write) Unsettled ∷ acted_in_doubt))

-- y is locked in Write by p
abbrev pub locked : List Item
locked = entry (at 2 2) p (Lock y Write) Fine ∷ []

-- and then two bytes are stored
abbrev pub stored : List Item
stored = entry (at 4 1) p (Store (Of y 0) (104 ∷ 105 ∷ [])) Fine ∷ locked

-- and then n bytes are loaded
abbrev pub loads : ℕ → Reply → History
loads n reply = closed (entry (at 5 1) p (Load (Of y 0) n) reply ∷ stored)

abbrev pub loads_another_byte : History
loads_another_byte = loads 2 (Bytes (104 ∷ 106 ∷ []))

abbrev pub loads_past_the_end : History
loads_past_the_end = loads 3 (Bytes (104 ∷ 105 ∷ (0 ∷ [])))

-- another process locks what is locked
abbrev pub locks_too : Reply → History
locks_too reply = closed (entry (at 5 2) q (Lock y Read) reply ∷ stored)

abbrev pub locked_twice : History
locked_twice = locks_too Fine

-- nobody has locked y
abbrev pub locks_first : Reply → History
locks_first reply = closed (entry (at 2 2) p (Lock y Write) reply ∷ [])

abbrev pub conflicts_with_nobody : History
conflicts_with_nobody = locks_first (Conflict q Write)

abbrev pub acts_twice : History
acts_twice = closed (act (at 6 2) (at 1 1) p (Lock y Write) Fine ∷ acted_in_doubt)

-- p holds this mode, and its Delete is open and acted
abbrev pub deletes_under : Mode → History
deletes_under mode = record {
  items = act (at 5 2) (at 4 1) p (Delete y) Fine ∷ (entry (at 2 2) p (Lock y mode) Fine ∷ []);
  open_ops = record { begun = at 4 1; proc = p; op = Delete y } ∷ [];
}

abbrev pub deletes_under_read : History
deletes_under_read = deletes_under Read

-- node 1 makes x, and then another object
abbrev pub makes_again : ObjectName → History
makes_again u = closed (entry (at 4 1) p (New 1 File 1) (Made u) ∷ (entry (at 2 1) p (New 1 File 1) (Made x) ∷ []))

abbrev pub makes_one_name_twice : History
makes_one_name_twice = makes_again x

-- a New where there is no node
abbrev pub makes_nowhere : Reply → History
makes_nowhere reply = closed (entry (at 2 1) p (New 0 File 1) reply ∷ [])

abbrev pub makes_at_no_node : History
makes_at_no_node = makes_nowhere (Made (record { counter = 1; home = 0 }))

-- a lock that was answered in some phase
abbrev pub locked_in : ℕ → Place → Entry
locked_in phase place = record { place = place; proc = p; phase = phase; op = Lock y Write; reply = Fine }

abbrev pub phases_fall : List Entry
phases_fall = locked_in 1 (at 4 1) ∷ (locked_in 2 (at 2 1) ∷ [])

-- p and q each have an operation open, that of q begun at this place
abbrev pub opens : Place → History
opens begun = record {
  items = [];
  open_ops = record { begun = at 3 1; proc = p; op = Lock y Write } ∷ (record { begun = begun; proc = q; op = Lock y Write } ∷ []);
}

abbrev pub opens_meet : History
opens_meet = opens (at 3 1)

-- a lock is answered, and an unlock of its process, begun at this place, is open
abbrev pub unlocks_from : Place → History
unlocks_from begun = record {
  items = entry (at 10 2) p (Lock y Write) Fine ∷ [];
  open_ops = record { begun = begun; proc = p; op = Unlock y } ∷ [];
}

-- the unlock has begun, and the earlier lock is answered only then
abbrev pub answered_behind_open : History
answered_behind_open = unlocks_from (at 5 1)
