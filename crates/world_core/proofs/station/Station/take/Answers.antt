use Rattle.std.proofs.Common.{◌≡◌, ◌<◌, ◌^◌, true, Some, refl, sym, ap, ◌∙◌}
use Rattle.std.specs.Prelude.{slice_get, slice_set}
use Rattle.std.proofs.lemmas.Option.{slice_get-get_or}
use Rattle.node_runs.specs.Incomings.{Incoming, tick_of}
use Rattle.node_core.specs.Nodes.{is_enabled, Does}
use Rattle.world_core.specs.Listed.{less_at}
use Rattle.world_core.proofs.Oldest.{oldest-holds, oldest-none, oldest-has}
use Rattle.world_core.proofs.station.Station.take.Goals as goal

pub step-requires : goal.step-requires
step-requires g c =
    let x = c.args.self.now in
    let l = c.index_mut.result.now in
    let there : slice_get x.ins.items c.args.at ≡ Some l = slice_get-get_or x.ins.items c.args.at l c.requires.within ∙ ap Some (sym c.index_mut.ensures.value) in
    let holds = oldest-holds (λ (k : Incoming). (is_enabled x.node c.args.what k ≡ true) × (tick_of k < 2 ^ 40)) c.args.at x.ins.items l there c.in-Some.entry.now (sym c.in-Some.ensures) c.requires.entry in
    record { enabled = holds.0; tick = c.requires.tick; incoming = holds.1 }

pub unreachable-requires : goal.unreachable-requires
unreachable-requires g c =
    let x = c.args.self.now in
    let l = c.index_mut.result.now in
    let there : slice_get x.ins.items c.args.at ≡ Some l = slice_get-get_or x.ins.items c.args.at l c.requires.within ∙ ap Some (sym c.index_mut.ensures.value) in
    oldest-none (λ (k : Incoming). (is_enabled x.node c.args.what k ≡ true) × (tick_of k < 2 ^ 40)) c.args.at x.ins.items l there (sym c.in-None.ensures) c.requires.entry

pub returns : goal.returns
returns g c =
    let x = c.args.self.now in
    let at = c.args.at in
    let l = c.index_mut.result.now in
    let there : slice_get x.ins.items at ≡ Some l = slice_get-get_or x.ins.items at l c.requires.within ∙ ap Some (sym c.index_mut.ensures.value) in
    record {
      does =
          oldest-has (λ (k : Incoming). Does g.P.Program.wants g.P.Program.becomes c.args.what k x.node c.step.new.self c.in_ok-emitted-in-Some.emitted) at x.ins.items l there c.in-Some.entry.now
          (sym c.in-Some.ensures) c.in_ok-emitted-in-Some.ensures.happens;
      notices = refl;
      ins = ap (λ k. slice_set x.ins.items at (record l { link = k })) c.take.ensures ∙ sym (ap (less_at at x.ins.items) there);
    }
