use Rattle.std.proofs.Common.{arith, sym, refl}
use Rattle.ring_messages.proofs.Heads.{shows, shown}
use Rattle.ring_messages.proofs.reading.head.Goals as goal
use Rattle.ring_messages.proofs.reading.head.Goals.{then-bytes-lt24-via-then-bytes-lt24, then-bytes-lt24-via-else-bytes-lt24+then-bytes-ne0, then-bytes-lt24-via-else-bytes-lt24+else-bytes-ne0+then-bytes-ne0-2, then-bytes-lt24-via-else-bytes-lt24+else-bytes-ne0+else-bytes-ne0-2+then-bytes-ne0-3}
use Rattle.ring_messages.proofs.reading.head.Goals.{then-version-lt1-via-then-version-lt1, then-version-lt1-via-else-version-lt1+then-version-gt2}
use Rattle.ring_messages.proofs.reading.head.Goals.{then-proc-lt1-via-then-proc-lt1, then-proc-lt1-via-else-proc-lt1+then-from-gt-NODE_PROCESSES, then-proc-lt1-via-else-proc-lt1+else-from-gt-NODE_PROCESSES+then-number-lt1, then-proc-lt1-via-else-proc-lt1+else-from-gt-NODE_PROCESSES+else-number-lt1+then-tick-lt1}

pub returns-then-bytes-lt24-clause-none : goal.returns-then-bytes-lt24-clause-none
returns-then-bytes-lt24-clause-none c = λ h is e.
    let s = shows h c.args.bytes.now is e in
    elim c.then-bytes-lt24.branch [
      | then-bytes-lt24-via-then-bytes-lt24 w ↦ omega (arith, s.long)
      | then-bytes-lt24-via-else-bytes-lt24+then-bytes-ne0 w ↦ omega (arith, s.fifth)
      | then-bytes-lt24-via-else-bytes-lt24+else-bytes-ne0+then-bytes-ne0-2 w ↦ omega (arith, s.sixth)
      | then-bytes-lt24-via-else-bytes-lt24+else-bytes-ne0+else-bytes-ne0-2+then-bytes-ne0-3 w ↦ omega (arith, s.seventh)
    ]

pub returns-then-version-lt1-clause-none : goal.returns-then-version-lt1-clause-none
returns-then-version-lt1-clause-none c = λ h is e.
    let s = shows h c.args.bytes.now is e in
    elim c.then-version-lt1.branch [
      | then-version-lt1-via-then-version-lt1 w ↦ omega (arith, s.version, is.version.0)
      | then-version-lt1-via-else-version-lt1+then-version-gt2 w ↦ omega (arith, s.version, is.version.1)
    ]

pub returns-then-proc-lt1-clause-none : goal.returns-then-proc-lt1-clause-none
returns-then-proc-lt1-clause-none c = λ h is e.
    let s = shows h c.args.bytes.now is e in
    elim c.then-proc-lt1.branch [
      | then-proc-lt1-via-then-proc-lt1 w ↦ omega (arith, s.proc, is.proc_low)
      | then-proc-lt1-via-else-proc-lt1+then-from-gt-NODE_PROCESSES w ↦ omega (arith, s.proc, is.proc_high)
      | then-proc-lt1-via-else-proc-lt1+else-from-gt-NODE_PROCESSES+then-number-lt1 w ↦ omega (arith, s.number, is.number_low, c.number_at-number.ensures)
      | then-proc-lt1-via-else-proc-lt1+else-from-gt-NODE_PROCESSES+else-number-lt1+then-tick-lt1 w ↦ omega (arith, s.tick, is.tick_low, c.number_at-tick.ensures)
    ]

pub returns-clause-found : goal.returns-clause-found
returns-clause-found c = shown _ c.args.bytes.now (λ i. omega (arith, c.type_inv.bytes i)) (record {
  long = c.if-bytes-lt24.false;
  version = refl;
  kind = c.in_ok-kind.ensures.number;
  from = sym c.in_ok-from.ensures.value;
  to = sym c.in_ok-to.ensures.value;
  proc = refl;
  fifth = c.if-bytes-ne0.false;
  sixth = c.if-bytes-ne0-2.false;
  seventh = c.if-bytes-ne0-3.false;
  number = sym c.number_at-number.ensures;
  tick = sym c.number_at-tick.ensures;
})
