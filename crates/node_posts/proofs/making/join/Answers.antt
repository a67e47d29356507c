use Rattle.std.proofs.Common.{ℕ, refl, subst}
use Rattle.wire_links.specs.Wires.{IsOfLink}
use Rattle.node_posts.proofs.making.join.Goals as goal

pub returns : goal.returns
returns g c =
    let plan = c.args.plan.now in
    let m = c.args.a.now.node.log.node in
    let n = c.args.b.now.node.log.node in
    record {
      out = c.in_ok-out.out;
      into = c.in_ok-out.into;
      back = c.in_ok-out-2.out;
      from = c.in_ok-out-2.into;
      there = record {
        ends = c.in_ok-out.ensures.ends;
        unused = c.in_ok-out.ensures.empty;
        link =
            subst (λ (k : ℕ). IsOfLink plan k n c.in_ok-out.out) c.number.ensures
            (subst (λ (k : ℕ). IsOfLink plan c.number.result k c.in_ok-out.out) c.number-2.ensures c.in_ok-out.ensures.link);
      };
      here = record {
        ends = c.in_ok-out-2.ensures.ends;
        unused = c.in_ok-out-2.ensures.empty;
        link =
            subst (λ (k : ℕ). IsOfLink plan k m c.in_ok-out-2.out) c.number-3.ensures
            (subst (λ (k : ℕ). IsOfLink plan c.number-3.result k c.in_ok-out-2.out) c.number-4.ensures c.in_ok-out-2.ensures.link);
      };
      first = record { outs = c.in_ok-push.ensures.items; ins = c.in_ok-push-4.ensures.items; node = refl; own = refl; notices = refl; fault = refl };
      second = record { outs = c.in_ok-push-3.ensures.items; ins = c.in_ok-push-2.ensures.items; node = refl; own = refl; notices = refl; fault = refl };
    }
