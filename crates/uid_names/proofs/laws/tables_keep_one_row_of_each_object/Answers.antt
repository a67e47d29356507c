use Rattle.uid_names.proofs.Tables.{AreRising-none, AreRising-with_row, AreRising-without_row, row_of-with_row, row_of-without_row, row_of-named}
use Rattle.uid_names.proofs.laws.tables_keep_one_row_of_each_object.Goals as goal

pub returns : goal.returns
returns g c =
    let name = g.R.UidRow.name in
    record {
      start = AreRising-none name;
      set = AreRising-with_row name;
      forgotten = AreRising-without_row name;
      row_set = row_of-with_row name;
      row_forgotten = row_of-without_row name;
      named = row_of-named name;
    }
