use Rattle.std.proofs.Common.{◌≡◌, ◌++◌, take}
use Rattle.std.specs.Prelude.{All}
use Rattle.std.specs.List.{flat_map}
use Rattle.ring_messages.specs.Spelling.{row_bytes}
use Rattle.ring_messages.specs.Spelled.{IsRow}
use Rattle.ring_messages.proofs.writing.put_rows.Given as goal

abbrev pub invariant-loop-row : goal.invariant-loop-row
invariant-loop-row l = record {
  text : l.out ≡ l.fn.out ++ flat_map row_bytes (take l.row-index l.rows);
  are_rows : All IsRow (take l.row-index l.rows);
}
