-- The courses of processes: more that is told only adds answers, each command has one, and those without names come to their end.
use Prim.Native.Nat.{zero}
use Rattle.std.proofs.Common.{◌≡◌, ℕ, suc, ◌+◌, ◌-◌, ◌*◌, ◌≤◌, Bool, true, false, cond, Option, Some, None, List, [], ◌∷◌, ◌++◌, length, reverse, refl, ap, ◌∙◌, sym, subst, arith}
use Rattle.std.specs.Prelude.{max, All}
use Rattle.std.proofs.lemmas.List.{length-reverse}
use Rattle.std.proofs.lemmas.Grind.{reverse_onto}
use Rattle.std.proofs.lemmas.List.Elements.{All-head, All-tail}
use Rattle.uid_names.specs.Names.{ObjectName, ProcName}
use Rattle.dom_history.specs.Fitting.{can_have}
use Rattle.dom_history.specs.declared.op.Op.{Op}
use Rattle.dom_history.specs.declared.op.Reply.{Reply}
use Rattle.dom_history.specs.declared.op.Reply.TheVariants.{Fine, Locks}
use Rattle.dom_history.specs.declared.op.Want.TheVariants.{Done}
use Rattle.dom_history.specs.Follows.{Heard}
use Rattle.script_reader.specs.declared.command.Command.{Command}
use Rattle.script_reader.specs.declared.command.Command.TheVariants.{Wd, Llkob}
use Rattle.script_reader.specs.Scripts.{Content, IsContent}
use Rattle.script_reader.specs.Variables.{declared_object}
use Rattle.command_talks.specs.Dialogues.{Dialogue, Ends as Finished, Asks as Asking}
use Rattle.command_talks.specs.declared.outcome.Outcome.{Outcome}
use Rattle.command_talks.specs.declared.outcome.Outcome.TheVariants.{Replied, Written}
use Rattle.aegis_shell.specs.declared.working.Working.{Working}
use Rattle.aegis_shell.specs.Work.{Job, Part, part_of, jobs_of, object_of, is_of_names, IsPlain}
use Rattle.aegis_shell.specs.Ranges.{IsJob, AreJobs}
use Rattle.aegis_shell.specs.Operations.{ops_of}
use Rattle.aegis_shell.specs.Outcomes.{standing_after, lock_texts}
use Rattle.command_talks.specs.Commands.{dialogue_for}
use Rattle.aegis_shell.specs.Plans.{Plan, Makes, Talks, Lists, Writes, makes, talk_plan, plan_of}
use Rattle.aegis_shell.specs.RangeTests.{is_op}
use Rattle.aegis_shell.specs.Standing.{Standing, site_of, first_standing}
use Rattle.aegis_shell.specs.AnswerTexts.{is_done, together, so_far}
use Rattle.aegis_shell.specs.Asking.{Told, Reached, behind_phases, Course, Asks, Ends, on_reply, carry_out, on_said, converse, is_more, last_row, list_locks, carry, plan_at, course_of, on_course, on_phases, reach, reached, ask, answers}
use Rattle.aegis_shell.proofs.Counts.{IsShort, AreShort, ops_short}
use Rattle.aegis_shell.proofs.Parts.{jobs_ranged}
use Rattle.aegis_shell.proofs.Stages.{out_of_range, in_range_none, in_range_some}

-- phases that were passed stay passed when more is told
pub phases-more : (n : ℕ) (told rest more : Told) → behind_phases n told ≡ Some rest → behind_phases n (told ++ more) ≡ Some (rest ++ more)
phases-more zero told rest more is = let same : told ≡ rest = cc in ap (λ (t : Told). Some (t ++ more)) same
phases-more (suc n) [] rest more is = cc
phases-more (suc n) (x ∷ told) rest more is = phases-more n told rest more is

-- so does the end of a command
ends-more : (reached outcome : Outcome) (told rest more : Told) → Ends reached told ≡ Ends outcome rest → Ends reached (told ++ more) ≡ Ends outcome (rest ++ more)
ends-more reached outcome told rest more is =
    let same : told ≡ rest = cc in
    let one : reached ≡ outcome = cc in
    ap (λ (t : Told). Ends reached (t ++ more)) same ∙ ap (λ o. Ends o (rest ++ more)) one

-- where a test leads on or ends
chosen-more : (on : Bool) (here outcome : Outcome) (told rest more : Told) (further beyond : Course)
    → (further ≡ Ends outcome rest → beyond ≡ Ends outcome (rest ++ more))
    → cond on further (Ends here told) ≡ Ends outcome rest → cond on beyond (Ends here (told ++ more)) ≡ Ends outcome (rest ++ more)
chosen-more true here outcome told rest more further beyond step is = step is
chosen-more false here outcome told rest more further beyond step is = ends-more here outcome told rest more is

reply-more : (done : Bool) (reply : Reply) (outcome : Outcome) (told rest more : Told) (further beyond : Course)
    → (further ≡ Ends outcome rest → beyond ≡ Ends outcome (rest ++ more))
    → on_reply done reply told further ≡ Ends outcome rest → on_reply done reply (told ++ more) beyond ≡ Ends outcome (rest ++ more)
reply-more true reply outcome told rest more further beyond step is = step is
reply-more false reply outcome told rest more further beyond step is = ends-more (Replied reply) outcome told rest more is

said-more : (fits : Bool) (last : Option Reply) (outcome : Outcome) (told rest more : Told) (further beyond : Course)
    → (further ≡ Ends outcome rest → beyond ≡ Ends outcome (rest ++ more))
    → on_said fits last told further ≡ Ends outcome rest → on_said fits last (told ++ more) beyond ≡ Ends outcome (rest ++ more)
said-more true last outcome told rest more further beyond step is = step is
said-more false last outcome told rest more further beyond step is = ends-more (Replied (so_far last)) outcome told rest more is

carried-more : (earlier : Reply) (list : List Op) (told rest more : Told) (outcome : Outcome) → carry_out earlier list told ≡ Ends outcome rest → carry_out earlier list (told ++ more) ≡ Ends outcome (rest ++ more)
carried-more earlier [] told rest more outcome is = ends-more (Replied earlier) outcome told rest more is
carried-more earlier (op ∷ list) [] rest more outcome is = cc
carried-more earlier (op ∷ list) (None ∷ told) rest more outcome is = carried-more earlier list told rest more outcome is
carried-more earlier (op ∷ list) (Some reply ∷ told) rest more outcome is =
    reply-more (is_done reply) reply outcome told rest more (carry_out (together earlier reply) list told) (carry_out (together earlier reply) list (told ++ more))
    (carried-more (together earlier reply) list told rest more outcome) is

talked-more : (d : Dialogue) (told rest more : Told) (outcome : Outcome) → converse d told ≡ Ends outcome rest → converse d (told ++ more) ≡ Ends outcome (rest ++ more)
talked-more (Finished result) told rest more outcome is = ends-more _ outcome told rest more is
talked-more (Asking op further) told rest more outcome is = by_range (is_op op) told refl is (λ reply t. talked-more (further reply) t rest more outcome) where
  by_range : (b : Bool) (told : Told) → is_op op ≡ b → converse (Asking op further) told ≡ Ends outcome rest
      → ((reply : Reply) (t : Told) → converse (further reply) t ≡ Ends outcome rest → converse (further reply) (t ++ more) ≡ Ends outcome (rest ++ more))
      → converse (Asking op further) (told ++ more) ≡ Ends outcome (rest ++ more)
  by_range false told r is later = out_of_range op further (told ++ more) r ∙ ends-more (Replied Fine) outcome told rest more (sym (out_of_range op further told r) ∙ is)
  by_range true [] r is later = let asked : Asks op ≡ Ends outcome rest = sym (ap (λ b. cond b (Asks op) (Ends (Replied Fine) [])) r) ∙ is in cc
  by_range true (None ∷ told) r is later =
      in_range_none op further (told ++ more) r ∙ ends-more (Replied Fine) outcome told rest more (sym (in_range_none op further told r) ∙ is)
  by_range true (Some reply ∷ told) r is later =
      in_range_some op further reply (told ++ more) r
      ∙ said-more (can_have op reply) (Some reply) outcome told rest more (converse (further reply) told) (converse (further reply) (told ++ more))
      (later reply told) (sym (in_range_some op further reply told r) ∙ is)

listed-more : (names : List (List ℕ)) (home : ℕ) (last : Option (ObjectName × ProcName)) (text : List ℕ) (told rest more : Told) (outcome : Outcome)
    → list_locks names home last text told ≡ Ends outcome rest → list_locks names home last text (told ++ more) ≡ Ends outcome (rest ++ more)
listed-more names home last text [] rest more outcome is = cc
listed-more names home last text (None ∷ told) rest more outcome is = ends-more (Replied Fine) outcome told rest more is
listed-more names home last text (Some (Locks rows others) ∷ told) rest more outcome is =
    let grown = text ++ lock_texts names rows in
    chosen-more (is_more rows others) (Written grown) outcome told rest more (list_locks names home (last_row rows) grown told) (list_locks names home (last_row rows) grown (told ++ more))
    (listed-more names home (last_row rows) grown told rest more outcome) is
listed-more names home last text (Some reply ∷ told) rest more outcome is = ends-more (Replied reply) outcome told rest more is

pub plan-more : (part : Part) (at : Standing) (command : Command) (plan : Plan) (told rest more : Told) (outcome : Outcome) → carry part at command plan told ≡ Ends outcome rest → carry part at command plan (told ++ more) ≡ Ends outcome (rest ++ more)
plan-more part at command (Makes list) told rest more outcome is = carried-more Fine list told rest more outcome is
plan-more part at command Talks told rest more outcome is = talked-more (dialogue_for part.guard (site_of part) at.working.dir command) told rest more outcome is
plan-more part at command (Lists home) told rest more outcome is = listed-more part.names home None _ told rest more outcome is
plan-more part at command (Writes text) told rest more outcome is = ends-more (Written text) outcome told rest more is

-- as many answers, or more
abbrev pub Grows : Reached → Reached → Type 0
Grows r s = length r.answers ≤ length s.answers

module _ (part : Part) (job : Job) (at : Standing) (further : Standing → Told → Reached) (more : Told) (grows : (st : Standing) (t : Told) → Grows (further st t) (further st (t ++ more))) where
  course_grows : (told : Told) (course : Course) → course_of part at job told ≡ course
      → Grows (on_course part job.command at further course) (on_course part job.command at further (course_of part at job (told ++ more)))
  course_grows told (Asks op) is = omega arith
  course_grows told (Ends outcome rest) is =
      let beyond = plan-more part at job.command (plan_at part at job) told rest more outcome is in
      subst (λ (course : Course). Grows (on_course part job.command at further (Ends outcome rest)) (on_course part job.command at further course)) (sym beyond)
      (omega (arith, grows (standing_after part job.command outcome at) rest))

  job_grows : (told : Told) → Grows (on_course part job.command at further (course_of part at job told)) (on_course part job.command at further (course_of part at job (told ++ more)))
  job_grows told = course_grows told (course_of part at job told) refl

phases_grow : (further : Told → Reached) (n : ℕ) (told more : Told) (behind : Option Told) → behind_phases n told ≡ behind → ((t : Told) → Grows (further t) (further (t ++ more)))
    → Grows (on_phases further behind) (on_phases further (behind_phases n (told ++ more)))
phases_grow further n told more None is grows = omega arith
phases_grow further n told more (Some rest) is grows =
    subst (λ (b : Option Told). Grows (further rest) (on_phases further b)) (sym (phases-more n told rest more is)) (grows rest)

-- a job as it is carried out
abbrev carried : Part → ℕ → Standing → Job → List Job → Told → Reached
carried part phase at job jobs told = on_course part job.command at (λ at told. reach part (max phase job.phase) at jobs told) (course_of part at job told)

-- more that is told only adds answers
pub reach_grows : (part : Part) (phase : ℕ) (at : Standing) (jobs : List Job) (told more : Told) → Grows (reach part phase at jobs told) (reach part phase at jobs (told ++ more))
reach_grows part phase at [] told more = omega arith
reach_grows part phase at (job ∷ jobs) told more =
    phases_grow (carried part phase at job jobs) (job.phase - phase) told more (behind_phases (job.phase - phase) told) refl
    (λ t. job_grows part job at (λ st u. reach part (max phase job.phase) st jobs u) more (λ st u. reach_grows part (max phase job.phase) st jobs u more) t)

pub reached_grows : (part : Part) (heard : Heard) (told : Option Reply) → Grows (reached part heard) (reached part (told ∷ heard))
reached_grows part heard told =
    subst (λ (t : Told). Grows (reached part heard) (reach part 1 (first_standing part) part.jobs t)) (sym (reverse_onto heard told [])) (reach_grows part 1 (first_standing part) part.jobs (reverse heard) (told ∷ []))

-- a command that was told enough has come to its end, with one told item for each operation at most
pub record HasEnded (course : Course) (told : Told) (count : ℕ) : Type 0 where
  pub outcome : Outcome
  pub rest : Told
  pub ends : course ≡ Ends outcome rest
  pub took : length told ≤ length rest + count

reply-ended : (done : Bool) (reply : Reply) (told : Told) (count : ℕ) (further : Course) → HasEnded further told count → HasEnded (on_reply done reply told further) told count
reply-ended true reply told count further ended = ended
reply-ended false reply told count further ended = record { outcome = Replied reply; rest = told; ends = refl; took = omega arith }

one_more : (course : Course) (told : Told) (x : Option Reply) (count : ℕ) → HasEnded course told count → HasEnded course (x ∷ told) (suc count)
one_more course told x count ended = record { outcome = ended.outcome; rest = ended.rest; ends = ended.ends; took = omega (arith, ended.took) }

carried-ends : (earlier : Reply) (list : List Op) (told : Told) → length list ≤ length told → HasEnded (carry_out earlier list told) told (length list)
carried-ends earlier [] told enough = record { outcome = Replied earlier; rest = told; ends = refl; took = omega arith }
carried-ends earlier (op ∷ list) [] enough = absurd (omega arith)
carried-ends earlier (op ∷ list) (None ∷ told) enough = one_more _ told None (length list) (carried-ends earlier list told (omega arith))
carried-ends earlier (op ∷ list) (Some reply ∷ told) enough =
    one_more _ told (Some reply) (length list)
    (reply-ended (is_done reply) reply told (length list) (carry_out (together earlier reply) list told) (carried-ends (together earlier reply) list told (omega arith)))

-- phases of which enough were told are passed
phases-passed : (n : ℕ) (told : Told) → n ≤ length told → (rest : Told) × ((behind_phases n told ≡ Some rest) × (length told ≡ length rest + n))
phases-passed zero told enough = (told, (refl, omega arith))
phases-passed (suc n) [] enough = absurd (omega arith)
phases-passed (suc n) (x ∷ told) enough =
    let passed = phases-passed n told (omega arith) in
    (passed.0, (passed.1.0, omega (arith, passed.1.1)))

-- two operations at most
short_count : (list : List Op) → IsShort list → length list ≤ 2
short_count [] short = elim short [ ]
short_count (op ∷ []) short = omega arith
short_count (op ∷ (next ∷ [])) short = omega arith
short_count (op ∷ (next ∷ (third ∷ more))) short = elim short [ ]

-- a command without names is planned by its operations
plain_plan : (part : Part) (working : Working) (uid : Option ObjectName) (command : Command) → is_of_names command ≡ false → plan_of part working uid command ≡ makes (ops_of part.node command uid)
plain_plan part working uid (Wd path) plain = cc
plain_plan part working uid (Llkob node) plain = cc
plain_plan part working uid command plain = ap (λ b. cond b (talk_plan part working command) (makes (ops_of part.node command uid))) plain

makes-ends : (part : Part) (at : Standing) (command : Command) (list : Option (List Op)) (told : Told) → AreShort list → 2 ≤ length told → HasEnded (carry part at command (makes list) told) told 2
makes-ends part at command None told short enough = record { outcome = Written _; rest = told; ends = refl; took = omega arith }
makes-ends part at command (Some list) told short enough =
    let few = short_count list short in
    let ended = carried-ends Fine list told (omega arith) in
    record { outcome = ended.outcome; rest = ended.rest; ends = ended.ends; took = omega (arith, ended.took) }

plain-ends : (part : Part) (at : Standing) (job : Job) (told : Told) → is_of_names job.command ≡ false → 2 ≤ length told → HasEnded (course_of part at job told) told 2
plain-ends part at job told plain enough =
    let uid = object_of job at.bound in
    subst (λ plan. HasEnded (carry part at job.command plan told) told 2) (sym (plain_plan part at.working uid job.command plain))
    (makes-ends part at job.command (ops_of part.node job.command uid) told (ops_short part.node job.command uid) enough)

-- a process of commands without names that was told enough is done
pub reach-done : (part : Part) (phase : ℕ) (at : Standing) (jobs : List Job) (told : Told) → All IsPlain jobs → AreJobs jobs → (1000 - phase) + 2 * length jobs ≤ length told → (reach part phase at jobs told).want ≡ Done
reach-done part phase at [] told plain ranged enough = refl
reach-done part phase at (job ∷ jobs) told plain ranged enough =
    let further = λ (st : Standing) (t : Told). reach part (max phase job.phase) st jobs t in
    let here = All-head IsJob job jobs ranged in
    let early = here.phase in
    let passed = phases-passed (job.phase - phase) told (omega arith) in
    let length_is = passed.1.1 in
    let still : 2 ≤ length passed.0 = omega arith in
    let ended = plain-ends part at job passed.0 (All-head IsPlain job jobs plain) still in
    let left : (1000 - max phase job.phase) + 2 * length jobs ≤ length ended.rest = omega (arith, ended.took) in
    ap (λ (b : Option Told). (on_phases (carried part phase at job jobs) b).want) passed.1.0
    ∙ (ap (λ (course : Course). (on_course part job.command at further course).want) ended.ends
    ∙ reach-done part (max phase job.phase) (standing_after part job.command ended.outcome at) jobs ended.rest (All-tail IsPlain job jobs plain) (All-tail IsJob job jobs ranged) left)

-- so is one of a script, behind a phase for each that a script can have, and two replies for each of its commands
pub ask_done : (s : Content) (p : ProcName) (heard : Heard) → IsContent s → All IsPlain (jobs_of s p) → 1000 + 2 * length (jobs_of s p) ≤ length heard → ask s p heard ≡ Done
ask_done s p heard content plain enough =
    let all = length-reverse heard in
    reach-done (part_of s p) 1 (first_standing (part_of s p)) (jobs_of s p) (reverse heard) plain (jobs_ranged s (declared_object s.objects) p content) (omega arith)

-- a process that is done has an answer to each of its commands
module _ (part : Part) (command : Command) (at : Standing) (further : Standing → Told → Reached) (count : ℕ) (counted : (st : Standing) (t : Told) → (further st t).want ≡ Done → length (further st t).answers ≡ count) where
  course_counted : (course : Course) → (on_course part command at further course).want ≡ Done → length (on_course part command at further course).answers ≡ suc count
  course_counted (Asks op) done = cc
  course_counted (Ends outcome rest) done = omega (arith, counted (standing_after part command outcome at) rest done)

phases_counted : (further : Told → Reached) (count : ℕ) (behind : Option Told) → ((t : Told) → (further t).want ≡ Done → length (further t).answers ≡ count) → (on_phases further behind).want ≡ Done → length (on_phases further behind).answers ≡ count
phases_counted further count None counted done = cc
phases_counted further count (Some told) counted done = counted told done

pub reach_counted : (part : Part) (phase : ℕ) (at : Standing) (jobs : List Job) (told : Told) → (reach part phase at jobs told).want ≡ Done → length (reach part phase at jobs told).answers ≡ length jobs
reach_counted part phase at [] told done = refl
reach_counted part phase at (job ∷ jobs) told done =
    let further = λ (st : Standing) (t : Told). reach part (max phase job.phase) st jobs t in
    phases_counted (carried part phase at job jobs) (suc (length jobs)) (behind_phases (job.phase - phase) told)
    (λ t. course_counted part job.command at further (length jobs) (λ st u. reach_counted part (max phase job.phase) st jobs u) (course_of part at job t)) done

-- no process has more answers than commands
module _ (part : Part) (command : Command) (at : Standing) (further : Standing → Told → Reached) (count : ℕ) (few : (st : Standing) (t : Told) → length (further st t).answers ≤ count) where
  course_few : (course : Course) → length (on_course part command at further course).answers ≤ suc count
  course_few (Asks op) = omega arith
  course_few (Ends outcome rest) = omega (arith, few (standing_after part command outcome at) rest)

phases_few : (further : Told → Reached) (count : ℕ) (behind : Option Told) → ((t : Told) → length (further t).answers ≤ count) → length (on_phases further behind).answers ≤ count
phases_few further count None few = omega arith
phases_few further count (Some told) few = few told

pub reach_few : (part : Part) (phase : ℕ) (at : Standing) (jobs : List Job) (told : Told) → length (reach part phase at jobs told).answers ≤ length jobs
reach_few part phase at [] told = omega arith
reach_few part phase at (job ∷ jobs) told =
    let further = λ (st : Standing) (t : Told). reach part (max phase job.phase) st jobs t in
    phases_few (carried part phase at job jobs) (suc (length jobs)) (behind_phases (job.phase - phase) told)
    (λ t. course_few part job.command at further (length jobs) (λ st u. reach_few part (max phase job.phase) st jobs u) (course_of part at job t))

-- the same of a process of a script
pub answers_few : (s : Content) (p : ProcName) (heard : Heard) → length (answers s p heard) ≤ length (jobs_of s p)
answers_few s p heard = reach_few (part_of s p) 1 (first_standing (part_of s p)) (jobs_of s p) (reverse heard)

pub answers_all : (s : Content) (p : ProcName) (heard : Heard) → ask s p heard ≡ Done → length (answers s p heard) ≡ length (jobs_of s p)
answers_all s p heard done = reach_counted (part_of s p) 1 (first_standing (part_of s p)) (jobs_of s p) (reverse heard) done
