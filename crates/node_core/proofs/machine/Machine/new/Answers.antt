use Rattle.std.proofs.Common.{◌≤◌, false, [], ◌∷◌, refl, sym, ap, subst, ◌∙◌}
use Rattle.uid_names.specs.Beginnings.{at_home}
use Rattle.uid_names.specs.declared.limits.TheConstants.{VOLUME_ROOM}
use Rattle.dom_history.specs.declared.op.Want.TheVariants.{Phase}
use Rattle.object_store.specs.HomeStates.{HomeState}
use Rattle.uid_names.specs.Wires.{wire_room}
use Rattle.page_server.specs.ServerStates.{AreRoomsWithin}
use Rattle.page_server.proofs.Begun.{IsBegun-first_home}
use Rattle.node_runs.proofs.Reaching.{first-rooms}
use Rattle.fault_handler.specs.Conditions.{empty_desk}
use Rattle.node_runs.specs.Setups.{Given}
use Rattle.node_core.specs.declared.machine.Machine.{Machine}
use Rattle.node_core.specs.Programs.{program_in, numbers_in}
use Rattle.node_core.proofs.Rising.{rising-program}
use Rattle.node_core.proofs.Beginning.{four-want, four-seen, kept-first}
use Rattle.node_core.proofs.machine.Machine.new.Goals as goal

pub new-requires-2-clause-begun : goal.new-requires-2-clause-begun
new-requires-2-clause-begun g c = IsBegun-first_home c.in_ok-home.home c.args.setup.node (at_home c.args.setup.node c.args.opening.now.objects) c.in_ok-home.ensures.first c.in_ok-home.ensures.few

pub new-requires-2-clause-rooms : goal.new-requires-2-clause-rooms
new-requires-2-clause-rooms g c =
    subst (λ (h : HomeState). AreRoomsWithin (wire_room c.args.setup.wire) h.objects) (sym c.in_ok-home.ensures.first)
    (first-rooms c.args.setup.wire c.args.setup.node c.args.opening.now c.nodes-nodes.ensures.start (record { version = c.requires.wire; rooms = c.requires.rooms }))

pub returns-clause-programs : goal.returns-clause-programs
returns-clause-programs g c p =
    let given : Given = record { number = 0; opening = c.args.opening.now; wire = c.args.setup.wire; frames = 0; phases = 0; programs = numbers_in c.args.programs.items; asks = λ q heard. Phase } in
    ap (λ es. program_in es p) c.in_ok-programs.ensures ∙ rising-program c.args.programs.items c.requires.numbers given refl p

pub returns-clause-kept : goal.returns-clause-kept
returns-clause-kept g c =
    let a = c.new-4.ensures in
    let b = c.new-5.ensures in
    let d = c.new-6.ensures in
    let e = c.new-7.ensures in
    let m : Machine g.row.P.Denot g.row.G.Denot =
    record {
      greatest = c.greatest.result;
      phases = c.args.setup.phases;
      server = c.in_ok-server.server;
      desk = c.in_ok-desk.desk;
      programs = c.in_ok-programs.programs;
      procs = c.new-4.result ∷ c.new-5.result ∷ c.new-6.result ∷ c.new-7.result ∷ [];
      emitted = 0 ∷ 0 ∷ 0 ∷ 0 ∷ 0 ∷ 0 ∷ 0 ∷ 0 ∷ [];
      tick = 0;
      phase = 1;
      ready = false;
      marks = c.new-8.result;
    } in
    kept-first g.P.Program.spent g.P.Program.wants m c.args.opening.now c.nodes-nodes.ensures.start c.args.setup.node c.args.setup.frames c.requires.begins
    (subst (λ (h : HomeState). h.greatest ≤ VOLUME_ROOM) c.in_ok-home.ensures.first c.in_ok-home.ensures.few) (record { few = c.requires.frames_low; many = c.requires.frames_high })
    c.args.programs.items c.in_ok-programs.ensures (returns-clause-programs g c) c.requires.whole c.requires.fresh
    (four-want c.new-4.result c.new-5.result c.new-6.result c.new-7.result a.want b.want d.want e.want)
    c.greatest.ensures c.requires.phases c.args.setup.wire (record { version = c.requires.wire; rooms = c.requires.rooms }) c.in_ok-home.home c.in_ok-server.ensures c.in_ok-home.ensures.first
    (c.in_ok-desk.ensures ∙ ap (λ k. empty_desk c.args.setup.node k c.args.setup.frames) (sym c.requires.nodes))
    (four-seen c.new-4.result c.new-5.result c.new-6.result c.new-7.result a.state b.state d.state e.state)
    refl refl refl refl c.new-8.ensures
