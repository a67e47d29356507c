use Rattle.std.proofs.Common.{◌≡◌, Ok, Err, arith, rules}
use Rattle.std.proofs.lemmas.Result.{err_from_is_err_and}
use Rattle.uid_names.specs.declared.frame_kind.FrameKind.TheVariants as kinds
use Rattle.ring_messages.specs.declared.body.Body.TheVariants as bodies
use Rattle.ring_messages.specs.declared.frame.FrameFault.TheVariants as faults
use Rattle.ring_messages.specs.Spelling.{head_of}
use Rattle.ring_messages.proofs.Frames.{head-is, frame-head}
use Rattle.ring_messages.proofs.WhatIsRead.{kind-range, kind-within, kind-found, kind-bad, answer-found, answer-bad}
use Rattle.ring_messages.proofs.reading.read.Goals as goal

pub returns-in_default-clause-bad : goal.returns-in_default-clause-bad
returns-in_default-clause-bad c = λ e m frame text. c.in_default.ensures.none (head_of m) (head-is m frame) (frame-head m c.args.bytes.now text)

pub returns-in_err-uid-clause-bad : goal.returns-in_err-uid-clause-bad
returns-in_err-uid-clause-bad c = λ e.
    let p = err_from_is_err_and c.from_residual.result c.from_residual.ensures.1 in
    let bad : c.in_err-uid.field-0.0 ≡ faults.BadFrame = cc (p.1, p.2, e) in
    kind-bad c.in-Some.head c.args.bytes.now c.in-Some.ensures.is_head c.in-Some.ensures.found kinds.Lock c.in_err-uid.field-0.0 c.in-Lock.is (c.in_err-uid.ensures c.in-Some.head.version) bad

pub framed-requires-clause-body : goal.framed-requires-clause-body
framed-requires-clause-body c = kind-range c.in-Some.head c.args.bytes.now c.in-Some.ensures.is_head c.in-Some.ensures.found kinds.Lock (bodies.Lock c.in_ok-uid.uid c.in_ok-uid.mode) (λ i. omega (arith, c.type_inv.bytes i)) (c.in_ok-uid.ensures c.in-Some.head.version)

pub framed-requires-clause-within : goal.framed-requires-clause-within
framed-requires-clause-within c = kind-within c.in-Some.head c.args.bytes.now c.in-Some.ensures.is_head c.in-Some.ensures.found kinds.Lock (bodies.Lock c.in_ok-uid.uid c.in_ok-uid.mode) (λ i. omega (arith, c.type_inv.bytes i)) (c.in_ok-uid.ensures c.in-Some.head.version)

pub returns-in-Lock-clause-found : goal.returns-in-Lock-clause-found
returns-in-Lock-clause-found c = kind-found c.in-Some.head c.args.bytes.now c.in-Some.ensures.is_head c.in-Some.ensures.found kinds.Lock (bodies.Lock c.in_ok-uid.uid c.in_ok-uid.mode) _ (λ i. omega (arith, c.type_inv.bytes i)) c.in-Lock.is (c.in_ok-uid.ensures c.in-Some.head.version) c.framed.ensures

pub returns-in_err-frame : goal.returns-in_err-frame
returns-in_err-frame c =
    let p = err_from_is_err_and c.from_residual-in_err-frame.result c.from_residual-in_err-frame.ensures.1 in
    record {
      found = search rules;
      bad = λ e. answer-bad c.in-Some.head c.args.bytes.now c.in-Some.ensures.is_head c.in-Some.ensures.found (Err c.in_err-frame.field-0.0) c.in_err-frame.ensures (cc (p.1, p.2, e));
    }

pub returns : goal.returns
returns c = record {
  found = answer-found c.in-Some.head c.args.bytes.now c.in-Some.ensures.is_head c.in-Some.ensures.found (Ok c.in_ok-frame.frame) (λ i. omega (arith, c.type_inv.bytes i)) c.in_ok-frame.ensures;
  bad = λ e. absurd cc;
}
