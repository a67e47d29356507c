use Rattle.std.proofs.Common.{◌≡◌, Some, map, sym, ap, subst, ◌∙◌}
use Rattle.std.specs.Prelude.{All}
use Rattle.node_core.specs.declared.fault.RunFault.TheVariants as faults
use Rattle.ended_nodes.specs.Ended.{program_at, AreNumbered}
use Rattle.node_threads.specs.Groups.{first_fault}
use Rattle.node_threads.proofs.Groups.{all-goes-then, all-run}
use Rattle.node_threads.proofs.Together.{posts-run, rings-go, reaches, ran-is, numbered-nodes}
use Rattle.node_threads.proofs.run.run_all.Goals as goal

pub serve_all-requires-clause-run : goal.serve_all-requires-clause-run
serve_all-requires-clause-run g c κs within =
    posts-run g.P.Program.wants g.P.Program.becomes c.args.last_tick c.requires.posts.0 c.requires.posts.1 c.requires.posts.2 c.args.posts.items c.requires.posts.3

pub serve_on-served-requires-clause-run : goal.serve_on-served-requires-clause-run
serve_on-served-requires-clause-run g c κs within =
    all-run g.P.Program.wants g.P.Program.becomes c.args.last_tick c.args.posts.items c.in_ok-served.served.items c.in_ok-served.ensures
    (posts-run g.P.Program.wants g.P.Program.becomes c.args.last_tick c.requires.posts.0 c.requires.posts.1 c.requires.posts.2 c.args.posts.items c.requires.posts.3)

pub beside_all-requires : goal.beside_all-requires
beside_all-requires g c = record {
  rings = rings-go g.P.Program.wants g.P.Program.becomes c.args.last_tick c.args.posts.items c.serve_on-served.result.items
      (all-goes-then g.P.Program.wants g.P.Program.becomes c.args.last_tick c.args.posts.items c.in_ok-served.served.items c.serve_on-served.result.items c.in_ok-served.ensures c.serve_on-served.ensures.goes)
      c.requires.rings;
}

-- each program is that of a process
pub take_apart-requires : goal.take_apart-requires
take_apart-requires g c =
    let goes = all-goes-then g.P.Program.wants g.P.Program.becomes c.args.last_tick c.args.posts.items c.in_ok-served.served.items c.serve_on-served.result.items c.in_ok-served.ensures c.serve_on-served.ensures.goes in
    let none = sym (c.lowest_fault-fault.ensures ∙ ap first_fault c.as_slice.ensures.value) ∙ c.in-None.is in
    record {
      numbers = subst (λ xs. All AreNumbered xs) (sym c.in_ok-nodes.ensures.nodes)
          (numbered-nodes g.P.Program.wants g.P.Program.becomes c.args.last_tick c.args.posts.items c.serve_on-served.result.items goes c.requires.posts.0 c.requires.posts.1 c.requires.posts.2 c.requires.posts.3
          c.in_ok-nodes.ensures.fifo c.requires.greatest none c.serve_on-served.ensures.ends);
    }

pub returns-in-Some-clause-limit : goal.returns-in-Some-clause-limit
returns-in-Some-clause-limit g c n fails made s plan are =
    let goes = all-goes-then g.P.Program.wants g.P.Program.becomes c.args.last_tick c.args.posts.items c.in_ok-served.served.items c.serve_on-served.result.items c.in_ok-served.ensures c.serve_on-served.ensures.goes in
    let first = sym (c.lowest_fault-fault.ensures ∙ ap first_fault c.as_slice.ensures.value) ∙ c.in-Some.is in
    let fault : first_fault c.serve_on-served.result.items ≡ Some (faults.TickLimit n) = cc in
    reaches g.P.Program.wants g.P.Program.becomes c.args.last_tick c.args.posts.items c.serve_on-served.result.items goes made s plan are c.in_ok-nodes.ensures.fifo
    c.served_posts_are_local_runs.ensures.runs c.threads_make_a_planned_run.ensures.planned c.threads_make_a_planned_run.ensures.leads c.local_runs_have_a_merge.ensures n fault

pub returns-in_ok-take_apart-in-None-clause-run : goal.returns-in_ok-take_apart-in-None-clause-run
returns-in_ok-take_apart-in-None-clause-run g c made s plan are =
    let goes = all-goes-then g.P.Program.wants g.P.Program.becomes c.args.last_tick c.args.posts.items c.in_ok-served.served.items c.serve_on-served.result.items c.in_ok-served.ensures c.serve_on-served.ensures.goes in
    let none = sym (c.lowest_fault-fault.ensures ∙ ap first_fault c.as_slice.ensures.value) ∙ c.in-None.is in
    ran-is g.P.Program.wants g.P.Program.becomes c.args.last_tick c.args.posts.items c.serve_on-served.result.items goes made s plan are c.in_ok-nodes.ensures.fifo c.requires.greatest none c.serve_on-served.ensures.ends
    c.served_posts_are_local_runs.ensures.runs c.served_posts_are_local_runs.ensures.delivered c.logs_of_threads_are_one_recent_run.ensures
    c.in_ok-take_apart-in-None.field-0.0.items c.in_ok-take_apart-in-None.field-0.1.items
    (c.in_ok-take_apart-in-None.ensures.logs ∙ ap (map (λ x. x.log)) c.in_ok-nodes.ensures.nodes)
    (λ p. c.in_ok-take_apart-in-None.ensures.programs p ∙ ap (λ xs. program_at xs p) c.in_ok-nodes.ensures.nodes)
