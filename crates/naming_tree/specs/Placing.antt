-- The places of records in a directory that is open.
use Rattle.std.specs.Prelude.{◌<◌, ℕ, ◌+◌, ◌*◌, Some, List}
use Rattle.dom_history.specs.declared.op.Op.{Op}
use Rattle.dom_history.specs.declared.op.Op.TheVariants.{Store}
use Rattle.dom_history.specs.declared.op.Spot.TheVariants.{Addr}
use Rattle.dir_records.specs.declared.row.TheConstants.{RECORD_BYTES}
use Rattle.dir_records.specs.declared.directory.TheConstants.{MOST_RECORDS}
use Rattle.naming_tree.specs.declared.session.Opened.{Opened}
use Rattle.naming_tree.specs.declared.session.Held.{Held}
use Rattle.naming_tree.specs.declared.placed.Placed.{Placed}
use Rattle.naming_tree.specs.Entering.{IsOpened}

-- a record is stored at its place
abbrev pub store_record : Opened → ℕ → List ℕ → Op
store_record o place record_bytes = Store (Addr (o.address + place * RECORD_BYTES)) record_bytes

-- what is held, with the lock of the object
abbrev pub held_with : Placed → Held
held_with p = record { other = Some p.uid; mapped = p.opened.fresh; uid = p.opened.uid }

-- a place that a record can have
abbrev pub IsPlaced : Opened → ℕ → Type 0
IsPlaced o place = IsOpened o × (place < MOST_RECORDS)

abbrev pub IsThere : Placed → Type 0
IsThere p = IsPlaced p.opened p.place
