use Rattle.std.proofs.Common.{◌≡◌, decimal, arith}
use Rattle.journal_text.proofs.Digits.{written_last}
use Rattle.journal_text.proofs.buffer.put_digits.Goals as goal

pub returns-clause-digits : goal.returns-clause-digits
returns-clause-digits c =
    let start : c.write_digits.result ≡ c.args.len = omega (arith, c.write_digits.ensures.start, c.decimal_len.ensures) in
    written_last (decimal c.args.n) c.args.bytes.now _ c.write_digits.result c.args.len _ start (omega (arith, c.decimal_len.ensures)) c.write_digits.ensures.written c.write_digits.ensures.before
