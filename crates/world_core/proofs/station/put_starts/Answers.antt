use Rattle.std.proofs.Common.{◌≡◌, ◌++◌, ◌+◌, suc, sym, subst, arith}
use Rattle.std.proofs.lemmas.List.{append-nil}
use Rattle.world_core.specs.Stations.{comings, starts_of}
use Rattle.world_core.proofs.Comings.{starts_up_to, put_more}
use Rattle.world_core.proofs.station.put_starts.Goals as goal

pub loop-i-init : goal.loop-i-init
loop-i-init g c = (sym (append-nil c.args.list.now.items), omega arith)

pub loop-i-preserved : goal.loop-i-preserved
loop-i-preserved g c =
    let node = c.args.node.now in
    let old = c.args.list.now.items in
    let new = c.put_process.new.list.items in
    let i = c.loop-i.i in
    let more : suc i ≡ i + 1 = omega arith in
    let test = c.loop-i-test.true in (
      subst (λ k. new ≡ old ++ comings node (starts_up_to k)) more
          (put_more node old c.loop-i.list.items new (starts_up_to i) (starts_of (i + 1)) c.loop-i.invariant.0 c.in_ok-put_process.ensures),
      omega (arith, test),
    )

pub returns : goal.returns
returns g c =
    let node = c.args.node.now in
    let old = c.args.list.now.items in
    let most = c.loop-i.invariant.1 in
    let past = c.loop-i-test.false in
    let all : c.loop-i.i ≡ 4 = omega (arith, most, past) in
    subst (λ k. c.loop-i.list.items ≡ old ++ comings node (starts_up_to k)) all c.loop-i.invariant.0
