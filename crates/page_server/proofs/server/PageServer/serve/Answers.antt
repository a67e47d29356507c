use Rattle.std.proofs.Common.{◌≡◌, ℕ, ◌+◌, ◌<◌, ◌∙◌, ap, sym, subst, refl}
use Rattle.uid_names.specs.Wires.{wire_room}
use Rattle.std.specs.Prelude.{IsTrue, Some}
use Rattle.std.specs.Option.{option_map}
use Rattle.uid_names.specs.Names.{ProcName}
use Rattle.uid_names.proofs.Failures.{on-any-err}
use Rattle.call_once.specs.declared.served.Looked.TheVariants.{Fresh, Again}
use Rattle.call_once.specs.Calls.{call_of, body_of}
use Rattle.ring_messages.specs.Bodies.{Ask, ask_of, body_of_answer}
use Rattle.ring_messages.specs.Ranges.{LiesWithin}
use Rattle.ring_messages.specs.Frames.{Message, caller_of}
use Rattle.page_server.specs.ServerStates.{ServerState}
use Rattle.page_server.specs.Serving.{reply_to}
use Rattle.page_server.specs.Wants.{kept_wants, may_want}
use Rattle.page_server.proofs.Stamps.{AreStampedTo-weaker}
use Rattle.ring_messages.proofs.Asking.{asked-of}
use Rattle.page_server.proofs.Bounds.{IsServer-later}
use Rattle.page_server.proofs.Within.{kept-within}
use Rattle.page_server.proofs.Servers.{IsServer-asked, asked-range, asked-within, answer-within}
use Rattle.page_server.proofs.Rising.{asked-node}
use Rattle.page_server.proofs.Copying.{nothing-said, each-said, failed-says}
use Rattle.page_server.proofs.Leaving.{tick-below, looked-so, left-alone, wants-so, leaves-fresh, leaves-again, leaves-old}
use Rattle.page_server.proofs.server.PageServer.serve.Goals as goal

pub fresh-requires-clause-stamps : goal.fresh-requires-clause-stamps
fresh-requires-clause-stamps g c =
    AreStampedTo-weaker (1 + c.self.inside.tick) _ c.self.inside.home.objects
    (tick-below c.self.inside.tick c.args.self.now.tick c.args.tick (ap (λ (s : ServerState). s.tick) c.self.view_is) c.requires.later c.requires.tick) c.self.invariant.counted.stamps

pub invariant_of-self-in-Fresh : goal.invariant_of-self-in-Fresh
invariant_of-self-in-Fresh g c =
    let later = subst (λ (t : ℕ). t < c.args.tick) (sym (ap (λ (s : ServerState). s.tick) c.self.view_is)) c.requires.later in
    let decided = c.in_ok-answer-in-Fresh.ensures in
    let to : c.args.frame.now.to ≡ c.self.inside.home.node = c.requires.here ∙ sym (ap (λ (s : ServerState). s.side.home.node) c.self.view_is) in
    let version : c.args.frame.now.version ≡ c.self.inside.wire = c.requires.version ∙ sym (ap (λ (s : ServerState). s.wire) c.self.view_is) in
    IsServer-asked _ (caller_of c.args.frame.now) c.args.frame.now.number (ask_of c.args.frame.now.body) (record { home = c.fresh.new.home; locks = c.fresh.new.locks; served = c.fresh.new.served }) c.in_ok-answer-in-Fresh.answer c.args.tick c.self.invariant later
    (asked-of c.args.frame.now.body c.requires.request) (asked-range c.self.inside.home.node c.args.frame.now.body (ask_of c.args.frame.now.body) refl (rw to at c.number.ensures.ranges.body))
    (asked-within (wire_room c.self.inside.wire) c.args.frame.now.body (ask_of c.args.frame.now.body) refl (rw version at c.number.ensures.ranges.within))
    (record { home = decided.home; locks = decided.locks; answer = decided.answer; served = decided.served })

pub invariant_of-self-in-Again : goal.invariant_of-self-in-Again
invariant_of-self-in-Again g c =
    let later = subst (λ (t : ℕ). t < c.args.tick) (sym (ap (λ (s : ServerState). s.tick) c.self.view_is)) c.requires.later in
    IsServer-later _ c.args.tick c.self.invariant later

pub invariant_of-self-in-Old : goal.invariant_of-self-in-Old
invariant_of-self-in-Old g c =
    let later = subst (λ (t : ℕ). t < c.args.tick) (sym (ap (λ (s : ServerState). s.tick) c.self.view_is)) c.requires.later in
    IsServer-later _ c.args.tick c.self.invariant later

pub returns-in_ok-answer-in-Fresh : goal.returns-in_ok-answer-in-Fresh
returns-in_ok-answer-in-Fresh g c =
    let here = c.self.inside in
    let m = c.args.frame.now in
    let decided = c.in_ok-answer-in-Fresh.ensures in
    let looks = looked-so m c.caller.result c.number.result here.served c.look.result c.caller.ensures c.number.ensures.value c.look.ensures in
    let asked = asked-of m.body c.requires.request in
    let left = leaves-fresh c.args.self.now here.home here.locks here.served here.tick here.wire c.self.view_is m asked c.look.result looks c.in-Fresh.is c.fresh.new.home c.fresh.new.locks c.fresh.new.served c.in_ok-answer-in-Fresh.answer c.args.tick
    decided.answer decided.home decided.locks decided.served (asked-node here.home c.fresh.new.home here.locks (caller_of m) (ask_of m.body) asked decided.home) in
    record {
      reply = ap (λ (r : Message). Some r) c.reply.ensures ∙ ap (option_map (reply_to m c.args.tick)) left.answered;
      side = left.side;
      tick = left.tick;
      wire = left.wire;
      old = left.old;
      node = left.node;
      memory = nothing-said (ask_of m.body);
      err = tt;
    }

pub returns-in_err-answer-in-Fresh-clause-node : goal.returns-in_err-answer-in-Fresh-clause-node
returns-in_err-answer-in-Fresh-clause-node g c =
    let here = c.self.inside in
    let failed = c.in_err-answer-in-Fresh.ensures in
    let same = left-alone c.args.self.now here.home c.fresh.new.home here.locks c.fresh.new.locks here.served c.fresh.new.served here.tick here.wire c.self.view_is failed.err_home failed.err_locks failed.err_served in
    ap (λ (s : ServerState). s.side.home.node) same

pub returns-in_err-answer-in-Fresh-clause-memory : goal.returns-in_err-answer-in-Fresh-clause-memory
returns-in_err-answer-in-Fresh-clause-memory g c =
    let here = c.self.inside in
    let m = c.args.frame.now in
    let looks = looked-so m c.caller.result c.number.result here.served c.look.result c.caller.ensures c.number.ensures.value c.look.ensures in
    failed-says (λ (ask : Ask). IsTrue (may_want c.args.self.now.side (caller_of m) m.number ask)) c.from_residual.result (ask_of m.body)
    (wants-so c.args.self.now here.home here.locks here.served here.tick here.wire c.self.view_is m (asked-of m.body c.requires.request) Fresh (looks ∙ c.in-Fresh.is) c.in_err-answer-in-Fresh.ensures.memory)

pub returns-in_err-answer-in-Fresh-clause-err : goal.returns-in_err-answer-in-Fresh-clause-err
returns-in_err-answer-in-Fresh-clause-err g c =
    let here = c.self.inside in
    let failed = c.in_err-answer-in-Fresh.ensures in
    on-any-err c.from_residual.result
    (left-alone c.args.self.now here.home c.fresh.new.home here.locks c.fresh.new.locks here.served c.fresh.new.served here.tick here.wire c.self.view_is failed.err_home failed.err_locks failed.err_served)

pub returns-in_ok-answer-in-Again : goal.returns-in_ok-answer-in-Again
returns-in_ok-answer-in-Again g c =
    let here = c.self.inside in
    let m = c.args.frame.now in
    let looks = looked-so m c.caller.result c.number.result here.served c.look.result c.caller.ensures c.number.ensures.value c.look.ensures in
    let kept = sym (ap (λ (p : ProcName). body_of p here.served) c.caller-in-Again.ensures) ∙ c.in_ok-answer-in-Again.ensures.same in
    let left = leaves-again c.args.self.now here.home here.locks here.served here.tick here.wire c.self.view_is m (asked-of m.body c.requires.request) c.look.result looks c.in-Again.is c.in_ok-answer-in-Again.answer c.args.tick kept in
    record {
      reply = ap (λ (r : Message). Some r) c.reply-in-Again.ensures ∙ ap (option_map (reply_to m c.args.tick)) left.answered;
      side = left.side;
      tick = left.tick;
      wire = left.wire;
      old = left.old;
      node = left.node;
      memory = nothing-said (ask_of m.body);
      err = tt;
    }

pub returns-in_err-answer-in-Again-clause-memory : goal.returns-in_err-answer-in-Again-clause-memory
returns-in_err-answer-in-Again-clause-memory g c =
    let here = c.self.inside in
    let m = c.args.frame.now in
    let looks = looked-so m c.caller.result c.number.result here.served c.look.result c.caller.ensures c.number.ensures.value c.look.ensures in
    let wants = subst (λ (p : ProcName). IsTrue (kept_wants (body_of p here.served))) c.caller-in-Again.ensures c.in_err-answer-in-Again.ensures.memory in
    failed-says (λ (ask : Ask). IsTrue (may_want c.args.self.now.side (caller_of m) m.number ask)) c.from_residual-in_err-answer-in-Again.result (ask_of m.body)
    (wants-so c.args.self.now here.home here.locks here.served here.tick here.wire c.self.view_is m (asked-of m.body c.requires.request) Again (looks ∙ c.in-Again.is) (each-said (ask_of m.body) wants))

pub returns-in-Old : goal.returns-in-Old
returns-in-Old g c =
    let here = c.self.inside in
    let m = c.args.frame.now in
    let looks = looked-so m c.caller.result c.number.result here.served c.look.result c.caller.ensures c.number.ensures.value c.look.ensures in
    let left = leaves-old c.args.self.now here.home here.locks here.served here.tick here.wire c.self.view_is m (asked-of m.body c.requires.request) c.look.result looks c.in-Old.is c.args.tick in
    record {
      reply = ap (option_map (reply_to m c.args.tick)) left.answered;
      side = left.side;
      tick = left.tick;
      wire = left.wire;
      old = left.old;
      node = left.node;
      memory = nothing-said (ask_of m.body);
      err = tt;
    }

pub reply-requires-clause-within : goal.reply-requires-clause-within
reply-requires-clause-within g c =
    let version : c.self.inside.wire ≡ c.args.frame.now.version = ap (λ (s : ServerState). s.wire) c.self.view_is ∙ sym c.requires.version in
    subst (λ (v : ℕ). LiesWithin (wire_room v) (body_of_answer c.in_ok-answer-in-Fresh.answer)) version
    (answer-within (wire_room c.self.inside.wire) (record { home = c.self.inside.home; locks = c.self.inside.locks; served = c.self.inside.served }) (caller_of c.args.frame.now) (ask_of c.args.frame.now.body) c.in_ok-answer-in-Fresh.answer
    c.self.invariant.side c.self.invariant.within (asked-of c.args.frame.now.body c.requires.request) c.in_ok-answer-in-Fresh.ensures.answer)

pub reply-requires-in-Again-clause-within : goal.reply-requires-in-Again-clause-within
reply-requires-in-Again-clause-within g c =
    let version : c.self.inside.wire ≡ c.args.frame.now.version = ap (λ (s : ServerState). s.wire) c.self.view_is ∙ sym c.requires.version in
    let kept = sym (ap (λ (p : ProcName). body_of p c.self.inside.served) c.caller-in-Again.ensures) ∙ c.in_ok-answer-in-Again.ensures.same in
    subst (λ (v : ℕ). LiesWithin (wire_room v) (body_of_answer c.in_ok-answer-in-Again.answer)) version
    (kept-within (wire_room c.self.inside.wire) c.self.inside.served (caller_of c.args.frame.now) (call_of (caller_of c.args.frame.now) c.self.inside.served) c.in_ok-answer-in-Again.answer c.self.invariant.within.kept refl kept)
