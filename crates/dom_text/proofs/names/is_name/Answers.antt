use Rattle.std.proofs.Common.{rules, ◌≡◌, true, length}
use Rattle.std.specs.Prelude.{nat_le}
use Rattle.dom_text.proofs.names.is_name.Goals as goal

pub returns : goal.returns
returns c =
    let low : nat_le 1 (length c.args.word.now) ≡ true = search rules in
    let high : nat_le (length c.args.word.now) 32 ≡ true = search rules in
    rw (low, high) c.are_name_bytes.ensures
