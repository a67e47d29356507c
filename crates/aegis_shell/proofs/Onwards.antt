-- A process goes on from where it stands as it would from its beginning.
use Rattle.std.proofs.Common.{◌≡◌, ℕ, suc, ◌+◌, ◌-◌, ◌≤◌, ◌<◌, Bool, true, false, Option, List, [], ◌∷◌, ◌++◌, length, drop, refl, ap, ◌∙◌, sym, subst, arith, append_assoc, append-nil, length-append, cond}
use Rattle.std.specs.Prelude.{max, nat_lt}
use Rattle.std.proofs.Math.Nat.{max-eq_left, max-eq_right}
use Rattle.std.proofs.lemmas.List.{drop-drop}
use Rattle.std.proofs.lemmas.Bool.Decides.{nat_tests}
use Rattle.dom_history.specs.declared.op.Op.{Op}
use Rattle.dom_history.specs.declared.op.Reply.{Reply}
use Rattle.dom_history.specs.declared.op.Want.{Want}
use Rattle.dom_history.specs.declared.op.Want.TheVariants.{Phase, Done}
use Rattle.script_reader.specs.declared.command.Command.{Command}
use Rattle.command_talks.specs.declared.outcome.Outcome.{Outcome}
use Rattle.aegis_shell.specs.declared.stage.Stage.{Stage}
use Rattle.aegis_shell.specs.declared.stage.Stage.TheVariants.{Between, First, Second, Talks as Talking, Lists as Listing}
use Rattle.aegis_shell.specs.Bound.{Bound}
use Rattle.aegis_shell.specs.declared.working.Working.{Working}
use Rattle.aegis_shell.specs.Work.{Job, Part}
use Rattle.aegis_shell.specs.Standing.{Standing}
use Rattle.aegis_shell.specs.Outcomes.{outcome_text, bound_by, working_after, standing_after}
use Rattle.aegis_shell.specs.Asking.{Told, Reached, waits, behind_phases, Course, Ends, course_of, on_course, on_phases, reach}
use Rattle.aegis_shell.specs.States.{State, left, standing, object_at_job, ops_at, Going, Goes, Comes, begins, goes_on, op_in, want_by, want_in, want_left, want_of, finished, at_stage, on_going, settle, settled, settled_at, next_phase, heard_at, hear, step}
use Rattle.aegis_shell.proofs.Stages.{OnCourse, Leads, asks_now, goes_with}
use Rattle.aegis_shell.proofs.Planned.{begin_leads}
use Rattle.aegis_shell.proofs.Variables.{object_after}

-- what is behind a job, in the phase that is reached by then
abbrev pub further_from : Part → ℕ → Job → List Job → Standing → Told → Reached
further_from part phase job jobs at told = reach part (max phase job.phase) at jobs told

-- the same, for a job that is not of a later phase
abbrev pub further_of : Part → ℕ → List Job → Standing → Told → Reached
further_of part phase jobs at told = reach part phase at jobs told

module _ (part : Part) (phase : ℕ) (at : Standing) (job : Job) (jobs : List Job) where
  -- a job in its phase
  abbrev carried : Told → Reached
  carried told = on_course part job.command at (further_from part phase job jobs) (course_of part at job told)

  -- one that is not of a later phase is carried out
  reach-here : (told : Told) → job.phase ≤ phase → reach part phase at (job ∷ jobs) told ≡ on_course part job.command at (further_of part phase jobs) (course_of part at job told)
  reach-here told low =
      let none : job.phase - phase ≡ 0 = omega arith in
      ap (λ n. on_phases carried (behind_phases n told)) none
      ∙ ap (λ n. on_course part job.command at (further_of part n jobs) (course_of part at job told)) (max-eq_left low)

  -- before one of a later phase a process wants that phase
  reach-phase : phase < job.phase → reach part phase at (job ∷ jobs) [] ≡ waits Phase
  reach-phase later =
      let some : job.phase - phase ≡ suc (job.phase - (phase + 1)) = omega arith in
      ap (λ n. on_phases carried (behind_phases n [])) some

  -- and goes into it when it is called again
  reach-passed : (told : Option Reply) (future : Told) → phase < job.phase → reach part phase at (job ∷ jobs) (told ∷ future) ≡ reach part (phase + 1) at (job ∷ jobs) future
  reach-passed told future later =
      let some : job.phase - phase ≡ suc (job.phase - (phase + 1)) = omega arith in
      let same : max phase job.phase ≡ max (phase + 1) job.phase = max-eq_right (omega arith) ∙ sym (max-eq_right (omega arith)) in
      ap (λ n. on_phases carried (behind_phases n (told ∷ future))) some
      ∙ ap (λ m. on_phases (λ t. on_course part job.command at (further_of part m jobs) (course_of part at job t)) (behind_phases (job.phase - (phase + 1)) future)) same

-- behind these answers
abbrev pub behind_answers : List (List ℕ) → Reached → Reached
behind_answers texts further = record { want = further.want; answers = texts ++ further.answers }

-- a want and answers
abbrev record_of : Want → List (List ℕ) → Reached
record_of want answers = record { want = want; answers = answers }

-- answers behind answers
behind_twice : (xs ys : List (List ℕ)) (r : Reached) → behind_answers xs (behind_answers ys r) ≡ behind_answers (xs ++ ys) r
behind_twice xs ys r = ap (record_of r.want) (sym (append_assoc xs ys r.answers))

-- a process that is within no command comes, when it is told more, as far as its commands that are left
abbrev pub Continues : Part → State → List Job → (Told → Reached) → Type 0
Continues part at jobs whole = (future : Told) → whole future ≡ behind_answers at.answers (reach part at.phase (standing at) jobs future)

-- the next command waits for its phase
abbrev pub IsEarly : ℕ → List Job → Type 0
IsEarly phase [] = Unit {0}
IsEarly phase (job ∷ jobs) = nat_lt phase job.phase ≡ true

-- it is within its next command, on a course of that
pub record IsWithin (part : Part) (at : State) (stage : Stage) (job : Job) (jobs : List Job) (whole : Told → Reached) : Type 0 where
  pub course : Told → Course
  pub on : OnCourse part.names (ops_at part at job) stage course
  pub goes : (future : Told) → whole future ≡ behind_answers at.answers (on_course part job.command (standing at) (further_of part at.phase jobs) (course future))

abbrev pub IsAt : Part → State → Stage → List Job → (Told → Reached) → Type 0
IsAt part at Between jobs whole = Continues part at jobs whole × IsEarly at.phase jobs
IsAt part at stage [] whole = ⊥
IsAt part at stage (job ∷ jobs) whole = IsWithin part at stage job jobs whole

-- how far a process comes when it is told more, is how far it comes from where it stands
abbrev pub Stands : Part → State → (Told → Reached) → Type 0
Stands part at whole = IsAt part at at.stage (left part at) whole

stands_so : (part : Part) (at : State) (stage : Stage) (jobs : List Job) (whole : Told → Reached) → at.stage ≡ stage → left part at ≡ jobs → IsAt part at stage jobs whole → Stands part at whole
stands_so part at stage jobs whole e is h =
    subst (λ (s : Stage). IsAt part at s (left part at) whole) (sym e) (subst (λ (list : List Job). IsAt part at stage list whole) (sym is) h)

within_is : (part : Part) (at : State) (stage : Stage) (job : Job) (jobs : List Job) (whole : Told → Reached) → IsWithin part at stage job jobs whole → IsAt part at stage (job ∷ jobs) whole
within_is part at Between job jobs whole h = absurd h.on
within_is part at First job jobs whole h = h
within_is part at (Second reply) job jobs whole h = h
within_is part at (Talking talk) job jobs whole h = h
within_is part at (Listing home last text) job jobs whole h = h

-- the commands behind the next one
pub next-left : (jobs : List Job) (n : ℕ) (job : Job) (rest : List Job) → drop n jobs ≡ job ∷ rest → drop (n + 1) jobs ≡ rest
next-left jobs n job rest is = sym (drop-drop 1 n jobs) ∙ ap (drop 1) is

-- those that are left behind one more answer
pub left-more : (part : Part) (answers : List (List ℕ)) (text : List ℕ) (job : Job) (rest : List Job) → drop (length answers) part.jobs ≡ job ∷ rest → drop (length (answers ++ text ∷ [])) part.jobs ≡ rest
left-more part answers text job rest is = ap (λ k. drop k part.jobs) (length-append answers (text ∷ [])) ∙ next-left part.jobs (length answers) job rest is

-- where a process stands that has these variables and this working directory
abbrev standing_with : Working → Bound → Standing
standing_with working bound = record { bound = bound; working = working }

standing_behind : (part : Part) (at : State) (command : Command) (outcome : Outcome) → standing (finished part at command outcome) ≡ standing_after part command outcome (standing at)
standing_behind part at command outcome =
    ap (standing_with (working_after part at.working command outcome)) (object_after (bound_by command outcome) at.bound)

-- a process whose command has come to its end goes on with those behind
ends_so : (part : Part) (at : State) (job : Job) (jobs : List Job) (outcome : Outcome) (whole whole_then : Told → Reached) (c : Told → Course) (told : Told → Told)
    → ((future : Told) → whole_then future ≡ behind_answers at.answers (on_course part job.command (standing at) (further_of part at.phase jobs) (c future)))
    → ((future : Told) → c future ≡ Ends outcome future)
    → Continues part (finished part at job.command outcome) jobs whole_then
ends_so part at job jobs outcome whole whole_then c told goes ends = λ future.
    let text = outcome_text part at.working job.command outcome in
    goes future
    ∙ (ap (λ course. behind_answers at.answers (on_course part job.command (standing at) (further_of part at.phase jobs) course)) (ends future)
    ∙ (behind_twice at.answers (text ∷ []) (reach part at.phase (standing_after part job.command outcome (standing at)) jobs future)
    ∙ ap (λ st. behind_answers (at.answers ++ text ∷ []) (reach part at.phase st jobs future)) (sym (standing_behind part at job.command outcome))))

low_phase : (phase wanted : ℕ) → nat_lt phase wanted ≡ false → wanted ≤ phase
low_phase phase wanted e = grind (arith, nat_tests)

high_phase : (phase wanted : ℕ) → nat_lt phase wanted ≡ true → phase < wanted
high_phase phase wanted e = grind (arith, nat_tests)

-- commands are begun up to the first that asks for an operation
settles : (part : Part) (at : State) (jobs : List Job) (whole : Told → Reached) → at.stage ≡ Between → left part at ≡ jobs → Continues part at jobs whole → Stands part (settle part at jobs) whole
settles part at [] whole e is continues = stands_so part at Between [] whole e is (continues, tt)
settles part at (job ∷ jobs) whole e is continues =
    by_phase (nat_lt at.phase job.phase) refl
    (λ outcome more. settles part (finished part at job.command outcome) jobs whole refl (left-more part at.answers (outcome_text part at.working job.command outcome) job jobs is) more)
  where
    course : Told → Course
    course = course_of part (standing at) job

    Rest : Type 0
    Rest = (outcome : Outcome) → Continues part (finished part at job.command outcome) jobs whole → Stands part (settle part (finished part at job.command outcome) jobs) whole

    here : job.phase ≤ at.phase → (future : Told) → whole future ≡ behind_answers at.answers (on_course part job.command (standing at) (further_of part at.phase jobs) (course future))
    here low future = continues future ∙ ap (behind_answers at.answers) (reach-here part at.phase (standing at) job jobs future low)

    by_going : (going : Going) → job.phase ≤ at.phase → Leads part.names (ops_at part at job) going course → Rest → Stands part (on_going going at (λ outcome. settle part (finished part at job.command outcome) jobs)) whole
    by_going (Goes stage) low leads rest =
        stands_so part (at_stage at stage) stage (job ∷ jobs) whole refl is
        (within_is part (at_stage at stage) stage job jobs whole (record { course = course; on = leads; goes = here low }))
    by_going (Comes outcome) low leads rest = rest outcome (ends_so part at job jobs outcome whole whole course (λ t. t) (here low) leads)

    by_phase : (early : Bool) → nat_lt at.phase job.phase ≡ early → Rest
        → Stands part (cond early at (on_going (begins part at.working (object_at_job at job) job.command) at (λ outcome. settle part (finished part at job.command outcome) jobs))) whole
    by_phase true early rest = stands_so part at Between (job ∷ jobs) whole e is (continues, early)
    by_phase false come rest =
        by_going (begins part at.working (object_at_job at job) job.command) (low_phase at.phase job.phase come)
        (begin_leads part (standing at) (object_at_job at job) job.command) rest

settled_between : (part : Part) (at : State) → at.stage ≡ Between → settled part at ≡ settle part at (left part at)
settled_between part at e = ap (settled_at part at) e

settled_within : (part : Part) (at : State) (names : List (List ℕ)) (list : Option (List Op)) (stage : Stage) (c : Told → Course) → OnCourse names list stage c → settled part (at_stage at stage) ≡ at_stage at stage
settled_within part at names list Between c on = absurd on
settled_within part at names list First c on = refl
settled_within part at names list (Second reply) c on = refl
settled_within part at names list (Talking talk) c on = refl
settled_within part at names list (Listing home last text) c on = refl

module _ (part : Part) (at : State) (told : Option Reply) (whole : Told → Reached) where
  abbrev whole_then : Told → Reached
  whole_then future = whole (told ∷ future)

  -- within a command
  within_goes : (stage : Stage) (job : Job) (jobs : List Job) → left part at ≡ job ∷ jobs → IsWithin part at stage job jobs whole
      → Stands part (settled part (on_going (goes_on part.names (ops_at part at job) stage told) at (finished part at job.command))) whole_then
  within_goes stage job jobs is h = by_going (goes_on part.names (ops_at part at job) stage told) (goes_with part.names (ops_at part at job) stage h.course told h.on) where
    by_going : (going : Going) → Leads part.names (ops_at part at job) going (λ future. h.course (told ∷ future)) → Stands part (settled part (on_going going at (finished part at job.command))) whole_then
    by_going (Goes next) leads =
        subst (λ (s : State). Stands part s whole_then) (sym (settled_within part at part.names (ops_at part at job) next (λ future. h.course (told ∷ future)) leads))
        (stands_so part (at_stage at next) next (job ∷ jobs) whole_then refl is
        (within_is part (at_stage at next) next job jobs whole_then (record { course = λ future. h.course (told ∷ future); on = leads; goes = λ future. h.goes (told ∷ future) })))
    by_going (Comes outcome) leads =
        let behind = finished part at job.command outcome in
        let rest = left-more part at.answers (outcome_text part at.working job.command outcome) job jobs is in
        subst (λ (list : List Job). Stands part (settle part behind list) whole_then) (sym rest)
        (settles part behind jobs whole_then refl rest
        (ends_so part at job jobs outcome whole whole_then (λ future. h.course (told ∷ future)) (λ t. told ∷ t) (λ future. h.goes (told ∷ future)) leads))

  -- before one, of a later phase
  passes : (job : Job) (jobs : List Job) → at.stage ≡ Between → left part at ≡ job ∷ jobs → Continues part at (job ∷ jobs) whole → nat_lt at.phase job.phase ≡ true → Stands part (settled part (next_phase at)) whole_then
  passes job jobs e is continues early =
      subst (λ (s : State). Stands part s whole_then) (sym (settled_between part (next_phase at) e))
      (subst (λ (list : List Job). Stands part (settle part (next_phase at) list) whole_then) (sym is)
      (settles part (next_phase at) (job ∷ jobs) whole_then e is
      (λ future. continues (told ∷ future) ∙ ap (behind_answers at.answers) (reach-passed part at.phase (standing at) job jobs told future (high_phase at.phase job.phase early)))))

  -- behind the last one
  stays : at.stage ≡ Between → left part at ≡ [] → Continues part at [] whole → Stands part (settled part at) whole_then
  stays e is continues =
      subst (λ (s : State). Stands part s whole_then) (sym (settled_between part at e ∙ ap (settle part at) is))
      (stands_so part at Between [] whole_then e is ((λ future. continues (told ∷ future)), tt))

  hears : (stage : Stage) (jobs : List Job) → at.stage ≡ stage → left part at ≡ jobs → IsAt part at stage jobs whole → Stands part (settled part (hear part at jobs told)) whole_then
  hears Between [] e is h = stays e is h.0
  hears Between (job ∷ jobs) e is h = subst (λ (s : Stage). Stands part (settled part (heard_at part at job s told)) whole_then) (sym e) (passes job jobs e is h.0 h.1)
  hears First [] e is h = absurd h
  hears First (job ∷ jobs) e is h = subst (λ (s : Stage). Stands part (settled part (heard_at part at job s told)) whole_then) (sym e) (within_goes First job jobs is h)
  hears (Second reply) [] e is h = absurd h
  hears (Second reply) (job ∷ jobs) e is h = subst (λ (s : Stage). Stands part (settled part (heard_at part at job s told)) whole_then) (sym e) (within_goes (Second reply) job jobs is h)
  hears (Talking talk) [] e is h = absurd h
  hears (Talking talk) (job ∷ jobs) e is h = subst (λ (s : Stage). Stands part (settled part (heard_at part at job s told)) whole_then) (sym e) (within_goes (Talking talk) job jobs is h)
  hears (Listing home last text) [] e is h = absurd h
  hears (Listing home last text) (job ∷ jobs) e is h = subst (λ (s : Stage). Stands part (settled part (heard_at part at job s told)) whole_then) (sym e) (within_goes (Listing home last text) job jobs is h)

-- a process that is told something more goes on as it did
pub steps : (part : Part) (at : State) (told : Option Reply) (whole : Told → Reached) → Stands part at whole → Stands part (step part at told) (λ future. whole (told ∷ future))
steps part at told whole stands = hears part at told whole at.stage (left part at) refl refl stands

pub begins_so : (part : Part) (at : State) (whole : Told → Reached) → at.stage ≡ Between → Continues part at (left part at) whole → Stands part (settled part at) whole
begins_so part at whole e continues =
    subst (λ (s : State). Stands part s whole) (sym (settled_between part at e)) (settles part at (left part at) whole e refl continues)

-- what a process wants where it stands, is what it reaches
module _ (part : Part) (at : State) (whole : Told → Reached) where
  wants_within : (stage : Stage) (job : Job) (jobs : List Job) → IsWithin part at stage job jobs whole → whole [] ≡ behind_answers at.answers (waits (want_by (op_in (ops_at part at job) stage)))
  wants_within stage job jobs h =
      let asks = asks_now part.names (ops_at part at job) stage h.course h.on in
      h.goes []
      ∙ (ap (λ course. behind_answers at.answers (on_course part job.command (standing at) (further_of part at.phase jobs) course)) asks.asked
      ∙ ap (λ op. behind_answers at.answers (waits (want_by op))) (sym asks.there))

  wants_so : (stage : Stage) (jobs : List Job) → at.stage ≡ stage → IsAt part at stage jobs whole → whole [] ≡ behind_answers at.answers (waits (want_left part at jobs))
  wants_so Between [] e h = h.0 []
  wants_so Between (job ∷ jobs) e h =
      h.0 []
      ∙ (ap (behind_answers at.answers) (reach-phase part at.phase (standing at) job jobs (high_phase at.phase job.phase h.1))
      ∙ (ap (λ early. behind_answers at.answers (waits (cond early Phase Done))) (sym h.1)
      ∙ ap (λ (s : Stage). behind_answers at.answers (waits (want_in part at job s))) (sym e)))
  wants_so First [] e h = absurd h
  wants_so First (job ∷ jobs) e h = wants_within First job jobs h ∙ ap (λ (s : Stage). behind_answers at.answers (waits (want_in part at job s))) (sym e)
  wants_so (Second reply) [] e h = absurd h
  wants_so (Second reply) (job ∷ jobs) e h = wants_within (Second reply) job jobs h ∙ ap (λ (s : Stage). behind_answers at.answers (waits (want_in part at job s))) (sym e)
  wants_so (Talking talk) [] e h = absurd h
  wants_so (Talking talk) (job ∷ jobs) e h = wants_within (Talking talk) job jobs h ∙ ap (λ (s : Stage). behind_answers at.answers (waits (want_in part at job s))) (sym e)
  wants_so (Listing home last text) [] e h = absurd h
  wants_so (Listing home last text) (job ∷ jobs) e h = wants_within (Listing home last text) job jobs h ∙ ap (λ (s : Stage). behind_answers at.answers (waits (want_in part at job s))) (sym e)

  -- and so are its answers
  pub reaches : Stands part at whole → whole [] ≡ record { want = want_of part at; answers = at.answers }
  reaches stands = wants_so at.stage (left part at) refl stands ∙ ap (record_of (want_of part at)) (append-nil at.answers)
