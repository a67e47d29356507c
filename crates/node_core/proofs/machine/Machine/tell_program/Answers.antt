use Rattle.std.proofs.Common.{◌≡◌, ◌≢◌, ℕ, ◌<◌, false, Option, Some, None, IsSome, IfSome, option_copied, length, get_or, refl, sym, ap, subst}
use Rattle.std.specs.Option.{option_map}
use Rattle.dom_history.specs.Programs.{FitsWant}
use Rattle.node_runs.specs.NodeStates.{OpenOp}
use Rattle.uid_names.specs.Names.{IsProcNumber}
use Rattle.node_core.specs.declared.processes.Proc.{Proc}
use Rattle.node_core.specs.Processes.{proc_seen, want_at}
use Rattle.node_core.specs.Programs.{program_in}
use Rattle.node_core.specs.Machines.{state_of}
use Rattle.node_core.proofs.Seen.{put-seen, doing-none, wanted-set}
use Rattle.node_core.proofs.Leading.{told-whole, told-fits, told-one}
use Rattle.node_core.proofs.machine.Machine.tell_program.Goals as goal

-- a program that was told something is there as before
there : {S : Type 0} (o n : Option S) (f : S → S) → n ≡ option_map f o → IsSome o → IsSome n
there None n f e is = absurd (cc)
there {S = S} (Some y) n f e is = subst (λ (x : Option S). IsSome x) (sym e) refl

pub tell-requires-clause-whole : goal.tell-requires-clause-whole
tell-requires-clause-whole g c =
    let m = c.args.self.now in
    let proc : IsProcNumber c.number.result = (c.number.ensures.least, c.number.ensures.greatest) in
    told-whole g.P.Program.spent g.P.Program.wants (program_in m.programs.items c.number.result) (want_at m.procs c.number.result) (c.requires.told c.number.result proc)

pub tell-requires-clause-fits : goal.tell-requires-clause-fits
tell-requires-clause-fits g c =
    let m = c.args.self.now in
    let proc : IsProcNumber c.number.result = (c.number.ensures.least, c.number.ensures.greatest) in
    told-fits g.P.Program.spent g.P.Program.wants (program_in m.programs.items c.number.result) (want_at m.procs c.number.result) (option_copied c.args.last) (c.requires.told c.number.result proc)
    (subst (λ k. FitsWant (want_at m.procs k) (option_copied c.args.last)) (sym c.number.ensures.value) c.requires.fits)

pub returns : goal.returns
returns g c =
    let m = c.args.self.now in
    let p = c.args.proc.number in
    let i = c.index_of-at.result in
    let d = c.index-self-at.result in
    let new = c.tell.new.programs.items in
    let old = m.programs.items in
    let is : c.number.result ≡ p = c.number.ensures.value in
    let proc : IsProcNumber p = subst IsProcNumber is (c.number.ensures.least, c.number.ensures.greatest) in
    let inside : i < length m.procs = subst (λ n. i < n) (sym c.requires.four) c.index_of-at.ensures.bound in
    let q = get_or m.procs i d in
    let x : Proc = record { want = c.tell.new.want; opened = None; last = q.last; phase = c.args.phase; asked = q.asked } in
    let seen : proc_seen x ≡ record (proc_seen q) { doing = None; phase = c.args.phase } = ap (λ (o : Option OpenOp). record { heard = (proc_seen q).heard; doing = o; last = q.last; phase = c.args.phase }) (doing-none x.want x.asked) in
    let put = put-seen m.procs i p d x (λ r. record r { doing = None; phase = c.args.phase }) c.index_of-at.ensures.value inside seen in
    record {
      state = ap (λ ps. record (state_of m) { procs = ps }) put;
      program = subst (λ k. program_in new k ≡ option_map (λ y. g.P.Program.becomes y (option_copied c.args.last)) (program_in old k)) is c.in_ok-tell.ensures.program;
      others = subst (λ k. (r : ℕ) → r ≢ k → program_in new r ≡ program_in old r) is c.in_ok-tell.ensures.others;
      told = told-one g.P.Program.spent g.P.Program.wants old new m.procs i p x c.index_of-at.ensures.value inside proc c.requires.told
          (subst (λ k. (r : ℕ) → r ≢ k → program_in new r ≡ program_in old r) is c.in_ok-tell.ensures.others)
          (there (program_in old p) (program_in new p) (λ y. g.P.Program.becomes y (option_copied c.args.last)) (subst (λ k. program_in new k ≡ option_map (λ y. g.P.Program.becomes y (option_copied c.args.last)) (program_in old k)) is c.in_ok-tell.ensures.program) c.requires.there)
          (subst (λ k. IfSome (program_in new k) (λ y. g.P.Program.spent y ≡ false)) is c.in_ok-tell.ensures.whole)
          (subst (λ k. IfSome (program_in new k) (λ y. g.P.Program.wants y ≡ c.tell.new.want)) is c.in_ok-tell.ensures.want);
      wanted = wanted-set m.procs i p x c.index_of-at.ensures.value inside c.in_ok-tell.ensures.range c.requires.wanted;
      numbers = c.in_ok-tell.ensures.numbers;
      same = refl;
    }
