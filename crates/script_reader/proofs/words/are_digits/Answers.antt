use Rattle.std.proofs.Common.{rules, ◌≡◌, true, length}
use Rattle.std.specs.Prelude.{nat_le}
use Rattle.std.specs.Char.{is_ascii_digit}
use Rattle.script_reader.proofs.Decisions.{passes_all}
use Rattle.script_reader.proofs.words.are_digits.Goals as goal

pub returns : goal.returns
returns c = let all = passes_all is_ascii_digit c.args.word.now c.are_digit_bytes.result c.are_digit_bytes.ensures in
    let low : nat_le 1 (length c.args.word.now) ≡ true = search rules in
    rw low all
