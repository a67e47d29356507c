-- What the code knows where a process looks for what it wants: of the next job, and of the commands that it ends on the way.
use Rattle.std.proofs.Common.{◌≡◌, ℕ, ◌+◌, ◌<◌, ◌≤◌, true, false, Option, List, [], ◌∷◌, length, drop, ap, refl, ◌∙◌, sym, subst, arith, length-append, length-drop, slice_index_or}
use Rattle.std.specs.Prelude.{nat_lt}
use Rattle.std.proofs.lemmas.Bool.Decides.{nat_tests}
use Rattle.std.proofs.lemmas.List.{drop-drop}
use Rattle.std.proofs.lemmas.List.Elements.{All-head, All-drop}
use Rattle.uid_names.specs.Names.{ObjectName}
use Rattle.dom_history.specs.declared.op.Op.{Op}
use Rattle.dom_history.specs.declared.op.Want.TheVariants.{Do, Phase, Done}
use Rattle.dom_history.specs.Ranges.{IsOp}
use Rattle.script_reader.specs.declared.command.Command.{Command}
use Rattle.command_talks.specs.declared.outcome.Outcome.{Outcome}
use Rattle.aegis_shell.specs.declared.stage.Stage.{Stage}
use Rattle.aegis_shell.specs.declared.stage.Stage.TheVariants.{Between}
use Rattle.aegis_shell.specs.declared.stage.Turn.{Turn}
use Rattle.aegis_shell.specs.declared.stage.Turn.TheVariants as turns
use Rattle.aegis_shell.specs.Operations.{ops_of}
use Rattle.aegis_shell.specs.Outcomes.{outcome_text}
use Rattle.command_talks.specs.Ranges.{IsRanged}
use Rattle.aegis_shell.specs.Ranges.{IsJob, AreJobs}
use Rattle.aegis_shell.specs.States.{State, left, ops_at, object_at_job, begins, want_of, finished, at_stage, settled}
use Rattle.aegis_shell.specs.Turns.{going, AsksIn}
use Rattle.aegis_shell.specs.Work.{Job, Part}
use Rattle.aegis_shell.proofs.Turns.{left-cons, none_left, wants_there, waits_there, begins_there, ended_there}

-- the commands that are left are in their ranges
pub left_ranged : (part : Part) (at : State) → AreJobs part.jobs → AreJobs (left part at)
left_ranged part at ranges = All-drop IsJob (length at.answers) part.jobs ranges

-- where it stands behind so many commands of those that were left first: between commands, with an answer for each of them
pub record IsBehind (part : Part) (first at : State) (i : ℕ) : Type 0 where
  between : at.stage ≡ Between
  come : length at.answers ≡ length first.answers + i
  same : settled part at ≡ settled part first

-- behind none of them at first
pub none_behind : (part : Part) (first : State) → first.stage ≡ Between → IsBehind part first first 0
none_behind part first between = record { between = between; come = omega arith; same = refl }

-- nothing is wanted behind all of them
pub done_behind : {part : Part} {first at : State} {i : ℕ} {list : List Job} → IsBehind part first at i → list ≡ left part first → length list ≤ i → length first.answers ≤ length part.jobs
    → (at ≡ settled part first) × (want_of part at ≡ Done)
done_behind {part} {first} {at} {i} behind list_is over within =
    let all : length part.jobs ≤ length at.answers = omega (arith, over, behind.come, ap length list_is, length-drop (length first.answers) part.jobs, within) in
    let none = none_left part at behind.between all in
    (sym none.0 ∙ behind.same, none.1)

-- the next of them
pub record IsNext (part : Part) (first at : State) (i : ℕ) (job : Job) : Type 0 where
  behind : IsBehind part first at i
  jobs : left part at ≡ job ∷ drop (i + 1) (left part first)
  pub ranged : IsRanged job.command

pub next_is : {part : Part} {first at : State} {i : ℕ} {list : List Job} {job : Job} → IsBehind part first at i → list ≡ left part first → AreJobs (left part first) → i < length list → job ≡ slice_index_or list i job
    → IsNext part first at i job
next_is {part} {first} {at} {i} {list} {job} behind list_is ranges below is =
    let here : drop i (left part first) ≡ job ∷ drop (i + 1) (left part first) = subst (λ (jobs : List Job). drop i jobs ≡ job ∷ drop (i + 1) jobs) list_is (left-cons list i job below is) in
    record {
      behind = behind;
      jobs = ap (λ k. drop k part.jobs) behind.come ∙ (sym (drop-drop i (length first.answers) part.jobs) ∙ here);
      ranged = (All-head IsJob job (drop (i + 1) (left part first)) (subst AreJobs here (All-drop IsJob i (left part first) ranges))).command;
    }

-- it waits for a later phase
pub waits_next : {part : Part} {first at : State} {i : ℕ} {job : Job} → IsNext part first at i job → at.phase < job.phase → (at ≡ settled part first) × (want_of part at ≡ Phase)
waits_next {part} {first} {at} {i} {job} next low =
    let early : nat_lt at.phase job.phase ≡ true = grind (arith, nat_tests, low) in
    let waits = waits_there part at job (drop (i + 1) (left part first)) next.jobs next.behind.between early in
    (waits.0 ∙ next.behind.same, waits.1)

-- or its command begins with this turn, on this object
pub record IsBegun (part : Part) (first at inside : State) (i : ℕ) (job : Job) (command : Command) (object : Option ObjectName) (turn : Turn) : Type 0 where
  next : IsNext part first at i job
  view : inside ≡ at
  command_is : command ≡ job.command
  object_is : object ≡ object_at_job at job
  come_up : nat_lt at.phase job.phase ≡ false
  begun : begins part at.working (object_at_job at job) job.command ≡ going turn

pub begun_is : {part : Part} {first at inside : State} {i : ℕ} {job : Job} {command : Command} {object : Option ObjectName} {turn : Turn}
    → IsNext part first at i job → inside ≡ at → command ≡ job.command → object ≡ object_at_job inside job → job.phase ≤ inside.phase → going turn ≡ begins part inside.working object command
    → IsBegun part first at inside i job command object turn
begun_is {part} {first} {at} {inside} {i} {job} {command} {object} {turn} next view command_is object_is high leads =
    let here : object ≡ object_at_job at job = object_is ∙ ap (λ (s : State). object_at_job s job) view in
    record {
      next = next;
      view = view;
      command_is = command_is;
      object_is = here;
      come_up = (let same : inside.phase ≡ at.phase = ap (λ (s : State). s.phase) view in grind (arith, nat_tests, high, same));
      begun = sym
          (leads
          ∙ (ap (λ (s : State). begins part s.working object command) view
          ∙ (ap (λ (o : Option ObjectName). begins part at.working o command) here
          ∙ ap (begins part at.working (object_at_job at job)) command_is)));
    }

-- with an operation
pub goes_next : {part : Part} {first at inside : State} {i : ℕ} {job : Job} {command : Command} {object : Option ObjectName} {turn : Turn}
    → IsBegun part first at inside i job command object turn → (stage : Stage) (op : Op) → turn ≡ turns.Goes stage op → at_stage inside stage ≡ settled part first
goes_next {part} {first} {at} {inside} {i} {job} b stage op goes =
    ap (λ (s : State). at_stage s stage) b.view
    ∙ (begins_there part at job (drop (i + 1) (left part first)) b.next.jobs stage b.next.behind.between b.come_up (b.begun ∙ ap going goes) ∙ b.next.behind.same)

pub asks_next : {part : Part} {first at inside : State} {i : ℕ} {job : Job} {command : Command} {object : Option ObjectName} {turn : Turn}
    → IsBegun part first at inside i job command object turn → (stage : Stage) (op : Op) → turn ≡ turns.Goes stage op → AsksIn (ops_of part.node command object) turn
    → (want_of part (at_stage inside stage) ≡ Do op) × IsOp op
asks_next {part} {first} {at} {inside} {i} {job} {command} {object} b stage op goes asks =
    let ops : ops_of part.node command object ≡ ops_at part at job = ap (λ (c : Command). ops_of part.node c object) b.command_is ∙ ap (ops_of part.node job.command) b.object_is in
    let here = subst (λ (list : Option (List Op)). AsksIn list (turns.Goes stage op)) ops (subst (AsksIn (ops_of part.node command object)) goes asks) in
    (ap (λ (s : State). want_of part (at_stage s stage)) b.view ∙ wants_there part at job (drop (i + 1) (left part first)) b.next.jobs stage op here.0, here.1)

-- or ends at once
pub ends_next : {part : Part} {first at inside : State} {i : ℕ} {job : Job} {command : Command} {object : Option ObjectName} {turn : Turn}
    → IsBegun part first at inside i job command object turn → (outcome : Outcome) (new : State) → turn ≡ turns.Comes outcome → new ≡ finished part at command outcome → IsBehind part first new (i + 1)
ends_next {part} {first} {at} {inside} {i} {job} b outcome new comes is =
    let e : new ≡ finished part at job.command outcome = is ∙ ap (λ (c : Command). finished part at c outcome) b.command_is in
    let more = ap (λ (s : State). length s.answers) e ∙ length-append at.answers (outcome_text part at.working job.command outcome ∷ []) in
    record {
      between = ap (λ (s : State). s.stage) e;
      come = omega (arith, more, b.next.behind.come);
      same = ap (settled part) e
          ∙ (ended_there part at job (drop (i + 1) (left part first)) b.next.jobs outcome b.next.behind.between b.come_up (b.begun ∙ ap going comes) ∙ b.next.behind.same);
    }
