use Rattle.timed_work.proofs.worlds.run_in_threads.Goals as goal

pub run_all-requires-clause-posts : goal.run_all-requires-clause-posts
run_all-requires-clause-posts g c κs within = c.in_ok-posts.ensures.posts

pub merge-requires : goal.merge-requires
merge-requires g c =
    let start = c.in_ok-posts.ensures.posts in
    let ran = c.in_ok-logs.ensures.run start.0 start.1 start.2 start.3 in
    c.logs_of_local_runs_may_be_merged.ensures start.1 ran.owns ran.worlds c.in_ok-logs.logs.items ran.runs.runs ran.runs.logs_of ran.runs.apart
