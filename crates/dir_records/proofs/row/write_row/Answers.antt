use Rattle.std.proofs.Common.{rules, ◌≡◌, length}
use Rattle.dir_records.proofs.Filling.{row_written}
use Rattle.dir_records.proofs.row.write_row.Goals as goal

pub returns : goal.returns
returns c =
    let size : length c.copy_from_slice.new.self ≡ 32 = search rules in
    rw (row_written c.code.result (length c.bytes.result.now) c.copy_from_slice.new.self c.copy_from_slice-2.new.self size) (search rules)
