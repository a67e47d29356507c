-- Where a process stands in a command of mailboxes, and what a reply makes of it.
use Rattle.std.proofs.Common.{◌≡◌, Bool, true, false, cond, Option, Some, None, List, [], ◌∷◌, length, refl, sym, ◌∙◌, ap, subst, inl, inr, ◌⊎◌}
use Rattle.std.specs.Prelude.{All, nat_lt}
use Rattle.std.proofs.lemmas.List.Elements.{All-head, All-drop}
use Rattle.script_runs.proofs.Pacing.{no_op, no_phase}
use Rattle.uid_names.specs.Names.{ObjectName}
use Rattle.dom_history.specs.declared.op.Op.{Op}
use Rattle.dom_history.specs.declared.op.Reply.{Reply}
use Rattle.dom_history.specs.declared.op.Reply.TheVariants.{Fine}
use Rattle.dom_history.specs.declared.op.Want.TheVariants.{Do, Phase}
use Rattle.dom_history.specs.Fitting.{Fits}
use Rattle.script_reader.specs.declared.command.Command.{Command}
use Rattle.script_reader.specs.declared.command.Command.TheVariants.{Putm, Takem}
use Rattle.mail_box.specs.States.{stage_op, IsWork}
use Rattle.mail_box.specs.Turns.{stood_after}
use Rattle.mail_box.specs.declared.mailing.Mailing.{Mailing}
use Rattle.mail_box.specs.declared.work.MailWork.{MailWork}
use Rattle.mail_box.specs.declared.work.MailWork.TheVariants.{Put, Take}
use Rattle.command_talks.specs.Commands.{is_sound, talk_for}
use Rattle.command_talks.specs.FileTalks.{file_asks, file_turn, mail_asks}
use Rattle.command_talks.specs.Talks.{of_file, talk_asks, talk_in, talk_turn, turn_in}
use Rattle.command_talks.specs.declared.errand.Errand.TheVariants as errands
use Rattle.command_talks.specs.declared.file_talk.FileTalk.{FileTalk}
use Rattle.command_talks.specs.declared.file_talk.FileTalk.TheVariants.{Seeks, LooksUp, ReadsList, Mails}
use Rattle.command_talks.specs.declared.file_talk.FileTurn.{FileTurn}
use Rattle.command_talks.specs.declared.file_talk.FileTurn.TheVariants as files
use Rattle.command_talks.specs.declared.outcome.Outcome.{Outcome}
use Rattle.command_talks.specs.declared.outcome.Outcome.TheVariants.{Replied}
use Rattle.command_talks.specs.declared.talk.Talk.{Talk}
use Rattle.dir_records.specs.Paths.{route_of}
use Rattle.naming_tree.specs.Walking.{walk_of}
use Rattle.aegis_shell.specs.AnswerTexts.{so_far}
use Rattle.aegis_shell.specs.Outcomes.{outcome_text}
use Rattle.aegis_shell.specs.Plans.{Talks, Writes}
use Rattle.aegis_shell.specs.RangeTests.{is_op}
use Rattle.aegis_shell.specs.Standing.{site_of}
use Rattle.aegis_shell.specs.States.{State, Going, Goes, Comes, at_stage, beginning, begins, begins_by, finished, goes_on, hear, heard_at, left, may_be, next_phase, object_at_job, on_going, on_talk, on_turn, op_in, ops_at, settle, settled, settled_at, step, want_by, want_in, want_left, want_of}
use Rattle.aegis_shell.specs.Work.{Job, Part}
use Rattle.aegis_shell.specs.declared.stage.Stage.{Stage}
use Rattle.aegis_shell.specs.declared.stage.Stage.TheVariants.{Between, First, Second, Talks as Talking, Lists as Listing}
use Rattle.aegis_shell.specs.declared.working.Working.{Working}
use Rattle.aegis_shell.proofs.Onwards.{left-more}
use Rattle.mail_runs.proofs.Mild.{is_mild, AsksMild}
use Rattle.mail_runs.proofs.MailTurns.{stays_on}
use Rattle.mail_runs.proofs.Talks.{begun_file, file_follows, file_mild, mail_asks_stage, mail_in_file, mail_in_talk, seeks_so, BeginsMail, Follows, GoesAs, OfFile, OfMail, OfTalk, Starts, TurnIs}

-- what a command does to a mailbox
abbrev pub work_of : Command → Option MailWork
work_of (Putm path text) = Some (Put text)
work_of (Takem path) = Some (Take [])
work_of command = None

-- what a command of this work may be at, where `P` holds of its machine
abbrev pub OfStage : (Option Mailing → Type 0) → MailWork → Stage → Type 0
OfStage P w Between = Unit {0}
OfStage P w (Talking talk) = OfTalk P w talk.at
OfStage P w stage = ⊥

abbrev pub IfMail : (MailWork → Option Mailing → Type 0) → Option MailWork → Stage → Type 0
IfMail P None stage = Unit {0}
IfMail P (Some w) stage = OfStage (P w) w stage

abbrev pub AtNext : (MailWork → Option Mailing → Type 0) → List Job → Stage → Type 0
AtNext P [] stage = Unit {0}
AtNext P (job ∷ jobs) stage = IfMail P (work_of job.command) stage

-- a process whose next command is one of mailboxes is within it as it should be, or at its beginning
abbrev pub KeepsMail : Part → State → Type 0
KeepsMail part at = AtNext OfMail (left part at) at.stage

abbrev pub BeginsAt : Part → State → Type 0
BeginsAt part at = AtNext BeginsMail (left part at) at.stage

-- the machine of a mailbox at which a process stands
abbrev pub mail_in_stage : Stage → Option Mailing
mail_in_stage (Talking talk) = mail_in_talk talk.at
mail_in_stage stage = None

abbrev pub session_if : Option MailWork → Stage → Option Mailing
session_if None stage = None
session_if (Some w) stage = mail_in_stage stage

abbrev pub session_in : List Job → Stage → Option Mailing
session_in [] stage = None
session_in (job ∷ jobs) stage = session_if (work_of job.command) stage

abbrev pub session : Part → State → Option Mailing
session part at = session_in (left part at) at.stage

between_so : (o : Option MailWork) → IfMail BeginsMail o Between
between_so None = tt
between_so (Some w) = tt

-- what a machine turns to is what its command is at
by_op : (P : Option Mailing → Type 0) (w : MailWork) (talk : FileTalk) (good : Bool) (stage : Stage) → OfFile P w talk → cond good (Goes (Talking (talk_in (Some talk)))) (Comes (Replied Fine)) ≡ Goes stage → OfStage P w stage
by_op P w talk true stage is e = let same : Talking (talk_in (Some talk)) ≡ stage = cc in subst (OfStage P w) same is
by_op P w talk false stage is e = absurd (cc)

on_turn_so : (P : Option Mailing → Type 0) (w : MailWork) (t : Option FileTurn) (stage : Stage) → TurnIs P w t → on_turn (of_file t) ≡ Goes stage → OfStage P w stage
on_turn_so P w None stage is e = absurd (cc)
on_turn_so P w (Some (files.Goes talk op)) stage is e = by_op P w talk (is_op op) stage is e
on_turn_so P w (Some (files.Comes outcome)) stage is e = absurd (cc)

-- how a command begins
sound_so : (part : Part) (working : Working) (command : Command) (w : MailWork) (t : Option FileTurn) (sound : Bool) (stage : Stage) → talk_turn (talk_for part.guard (site_of part) working.dir command) None ≡ of_file t → Starts w t
    → begins_by part working command (cond sound Talks (Writes [])) ≡ Goes stage → OfStage (BeginsMail w) w stage
sound_so part working command w t true stage is starts e = on_turn_so (BeginsMail w) w t stage starts (sym (ap on_turn is) ∙ e)
sound_so part working command w t false stage is starts e = absurd (cc)

begun_so : (part : Part) (working : Working) (object : Option ObjectName) (command : Command) (stage : Stage) → begins part working object command ≡ Goes stage → IfMail BeginsMail (work_of command) stage
begun_so part working object (Putm path text) stage e =
    let walk = walk_of (site_of part) true (route_of path) working.dir in
    sound_so part working (Putm path text) (Put text) (file_turn (Seeks walk (errands.Put text) part.guard) None) (is_sound (Putm path text)) stage refl (seeks_so (Put text) walk (errands.Put text) part.guard None refl) e
begun_so part working object (Takem path) stage e =
    let walk = walk_of (site_of part) true (route_of path) working.dir in
    sound_so part working (Takem path) (Take []) (file_turn (Seeks walk errands.Take part.guard) None) (is_sound (Takem path)) stage refl (seeks_so (Take []) walk errands.Take part.guard None refl) e
begun_so part working object _ stage e = tt

-- commands that are begun come to their walks at most, or to machines that begin
settle_begins : (part : Part) (at : State) (jobs : List Job) → left part at ≡ jobs → at.stage ≡ Between → BeginsAt part (settle part at jobs)
settle_begins part at [] is between = subst (λ js. AtNext BeginsMail js at.stage) (sym is) tt
settle_begins part at (job ∷ jobs) is between =
    by_phase (nat_lt at.phase job.phase) (begins part at.working (object_at_job at job) job.command) refl
    (λ outcome. settle_begins part (finished part at job.command outcome) jobs (left-more part at.answers (outcome_text part at.working job.command outcome) job jobs is) refl)
  where
    by_phase : (early : Bool) (going : Going) → begins part at.working (object_at_job at job) job.command ≡ going → ((outcome : Outcome) → BeginsAt part (settle part (finished part at job.command outcome) jobs))
        → BeginsAt part (cond early at (on_going going at (λ outcome. settle part (finished part at job.command outcome) jobs)))
    by_phase true going e further = subst (λ js. AtNext BeginsMail js at.stage) (sym is) (subst (λ (stage : Stage). IfMail BeginsMail (work_of job.command) stage) (sym between) (between_so (work_of job.command)))
    by_phase false (Goes stage) e further = subst (λ js. AtNext BeginsMail js stage) (sym is) (begun_so part at.working (object_at_job at job) job.command stage e)
    by_phase false (Comes outcome) e further = further outcome

-- a process that hears this goes on with the machine at which it stands
pub record GoesOn (part : Part) (at : State) (reply : Reply) (new : State) : Type 0 where
  pub mail : Mailing
  pub was : session part at ≡ Some mail
  pub stays : new ≡ at_stage at (Talking (talk_in (Some (Mails (stood_after (Some mail) (Some reply))))))
  pub is : session part new ≡ stood_after (Some mail) (Some reply)

-- or it has come to the beginning of one, or to none
abbrev pub Hears : Part → State → Reply → State → Type 0
Hears part at reply new = BeginsAt part new ⊎ GoesOn part at reply new

module _ (part : Part) (at : State) (job : Job) (jobs : List Job) (is : left part at ≡ job ∷ jobs) where
  settled_begins : (stage : Stage) → IfMail BeginsMail (work_of job.command) stage → BeginsAt part (settled_at part (at_stage at stage) stage)
  settled_begins Between begins = settle_begins part (at_stage at Between) (left part at) refl refl
  settled_begins First begins = subst (λ js. AtNext BeginsMail js First) (sym is) begins
  settled_begins (Second first) begins = subst (λ js. AtNext BeginsMail js (Second first)) (sym is) begins
  settled_begins (Talking talk) begins = subst (λ js. AtNext BeginsMail js (Talking talk)) (sym is) begins
  settled_begins (Listing home after text) begins = subst (λ js. AtNext BeginsMail js (Listing home after text)) (sym is) begins

  going_begins : (going : Going) → ((stage : Stage) → going ≡ Goes stage → IfMail BeginsMail (work_of job.command) stage) → BeginsAt part (settled part (on_going going at (finished part at job.command)))
  going_begins (Goes stage) all = settled_begins stage (all stage refl)
  going_begins (Comes outcome) all = settle_begins part (finished part at job.command outcome) (left part (finished part at job.command outcome)) refl refl

  ended_begins : (outcome : Outcome) → BeginsAt part (settled part (finished part at job.command outcome))
  ended_begins outcome = settle_begins part (finished part at job.command outcome) (left part (finished part at job.command outcome)) refl refl

  -- a phase begins
  phase_begins : at.stage ≡ Between → BeginsAt part (settled part (next_phase at))
  phase_begins between = subst (λ s. BeginsAt part (settled_at part (next_phase at) s)) (sym between) (settle_begins part (next_phase at) (left part at) refl between)

  -- a command that is none of mailboxes
  other_begins : (reply : Reply) (stage : Stage) → at.stage ≡ stage → work_of job.command ≡ None → BeginsAt part (settled part (heard_at part at job stage (Some reply)))
  other_begins reply stage e none = by_stage stage e
    where
      any : (going : Going) → BeginsAt part (settled part (on_going going at (finished part at job.command)))
      any going = going_begins going (λ next f. subst (λ (o : Option MailWork). IfMail BeginsMail o next) (sym none) tt)

      by_stage : (s : Stage) → at.stage ≡ s → BeginsAt part (settled part (heard_at part at job s (Some reply)))
      by_stage Between e = phase_begins e
      by_stage First e = any (goes_on part.names (ops_at part at job) First (Some reply))
      by_stage (Second first) e = any (goes_on part.names (ops_at part at job) (Second first) (Some reply))
      by_stage (Talking talk) e = any (goes_on part.names (ops_at part at job) (Talking talk) (Some reply))
      by_stage (Listing home after text) e = any (goes_on part.names (ops_at part at job) (Listing home after text) (Some reply))

  -- one of mailboxes
  module _ (w : MailWork) (works : work_of job.command ≡ Some w) (reply : Reply) where
    session_here : (stage : Stage) → session_in (left part at) stage ≡ mail_in_stage stage
    session_here stage = ap (λ js. session_in js stage) is ∙ ap (λ o. session_if o stage) works

    if_work : (stage : Stage) → OfStage (BeginsMail w) w stage → IfMail BeginsMail (work_of job.command) stage
    if_work stage begins = subst (λ (o : Option MailWork). IfMail BeginsMail o stage) (sym works) begins

    -- where a machine goes on
    mail_stays : (m : Option Mailing) (talk : FileTalk) → session part at ≡ m → talk ≡ Mails (stood_after m (Some reply)) → Hears part at reply (at_stage at (Talking (talk_in (Some talk))))
    mail_stays None talk was goes =
        inl (settled_begins (Talking (talk_in (Some talk))) (if_work (Talking (talk_in (Some talk))) (subst (λ f. OfFile (BeginsMail w) w f) (sym goes) tt)))
    mail_stays (Some mail) talk was goes =
        inr (record {
          mail = mail;
          was = was;
          stays = ap (λ f. at_stage at (Talking (talk_in (Some f)))) goes;
          is = session_here (Talking (talk_in (Some talk))) ∙ ap mail_in_file goes;
        })

    mail_hears : (m : Option Mailing) (t : Option FileTurn) → session part at ≡ m → GoesAs m (Some reply) t → Hears part at reply (settled part (on_going (on_turn (of_file t)) at (finished part at job.command)))
    mail_hears m None was goes = inl (ended_begins (Replied Fine))
    mail_hears m (Some (files.Comes outcome)) was goes = inl (ended_begins outcome)
    mail_hears m (Some (files.Goes talk op)) was goes = by_good (is_op op)
      where
        by_good : (good : Bool) → Hears part at reply (settled part (on_going (cond good (Goes (Talking (talk_in (Some talk)))) (Comes (Replied Fine))) at (finished part at job.command)))
        by_good true = mail_stays m talk was goes
        by_good false = inl (ended_begins (Replied Fine))

    -- beside its machine it comes to the beginning of one at most
    starts_hears : (t : Option FileTurn) → Starts w t → Hears part at reply (settled part (on_going (on_turn (of_file t)) at (finished part at job.command)))
    starts_hears t starts = inl (going_begins (on_turn (of_file t)) (λ stage e. if_work stage (on_turn_so (BeginsMail w) w t stage starts e)))

    file_hears : (talk : FileTalk) (t : Option FileTurn) → OfFile (OfMail w) w talk → session part at ≡ mail_in_file talk → Follows w talk (Some reply) t → Hears part at reply (settled part (on_going (on_turn (of_file t)) at (finished part at job.command)))
    file_hears (Seeks walk errand guard) t at_it was follows = starts_hears t follows
    file_hears (LooksUp m p) t at_it was follows = starts_hears t follows
    file_hears (ReadsList m p) t at_it was follows = starts_hears t follows
    file_hears (Mails m) t at_it was follows = mail_hears m t was follows
    file_hears _ t at_it was follows = absurd at_it

    talk_hears : (o : Option FileTalk) → OfTalk (OfMail w) w o → session part at ≡ mail_in_talk o → Hears part at reply (settled part (on_going (on_turn (turn_in o (Some reply))) at (finished part at job.command)))
    talk_hears None at_it was = inl (ended_begins (Replied Fine))
    talk_hears (Some talk) at_it was = file_hears talk (file_turn talk (Some reply)) at_it was (file_follows w talk (Some reply) at_it)

    may_hears : (may : Bool) (talk : Talk) → OfTalk (OfMail w) w talk.at → session part at ≡ mail_in_talk talk.at → Hears part at reply (settled part (on_going (on_talk may talk (Some reply)) at (finished part at job.command)))
    may_hears true talk at_it was = talk_hears talk.at at_it was
    may_hears false talk at_it was = inl (ended_begins (Replied (so_far (Some reply))))

    stage_hears : (stage : Stage) → at.stage ≡ stage → OfStage (OfMail w) w stage → Hears part at reply (settled part (heard_at part at job stage (Some reply)))
    stage_hears Between e keeps = inl (phase_begins e)
    stage_hears (Talking talk) e keeps = may_hears (may_be (talk_asks talk) (Some reply)) talk keeps (session_here at.stage ∙ ap mail_in_stage e)
    stage_hears _ e keeps = absurd keeps

  job_hears : (reply : Reply) (o : Option MailWork) → work_of job.command ≡ o → IfMail OfMail o at.stage → Hears part at reply (settled part (heard_at part at job at.stage (Some reply)))
  job_hears reply None e keeps = inl (other_begins reply at.stage refl e)
  job_hears reply (Some w) e keeps = stage_hears w e reply at.stage refl keeps

-- what a reply makes of where a process stands
jobs_hear : (part : Part) (at : State) (reply : Reply) (jobs : List Job) → left part at ≡ jobs → (op : Op) → want_left part at jobs ≡ Do op → AtNext OfMail jobs at.stage → Hears part at reply (settled part (hear part at jobs (Some reply)))
jobs_hear part at reply [] is op wants keeps = absurd (cc)
jobs_hear part at reply (job ∷ jobs) is op wants keeps = job_hears part at job jobs is reply (work_of job.command) refl keeps

pub step_hears : (part : Part) (at : State) (reply : Reply) (op : Op) → want_of part at ≡ Do op → KeepsMail part at → Hears part at reply (step part at (Some reply))
step_hears part at reply op wants keeps = jobs_hear part at reply (left part at) refl op wants keeps

waits_at : (part : Part) (at : State) (job : Job) (stage : Stage) → want_in part at job stage ≡ Phase → stage ≡ Between
waits_at part at job Between wants = refl
waits_at part at job First wants = absurd (no_phase (op_in (ops_at part at job) First) wants)
waits_at part at job (Second first) wants = absurd (no_phase (op_in (ops_at part at job) (Second first)) wants)
waits_at part at job (Talking talk) wants = absurd (no_phase (op_in (ops_at part at job) (Talking talk)) wants)
waits_at part at job (Listing home after text) wants = absurd (no_phase (op_in (ops_at part at job) (Listing home after text)) wants)

phase_hears : (part : Part) (at : State) (jobs : List Job) → left part at ≡ jobs → want_left part at jobs ≡ Phase → BeginsAt part (settled part (hear part at jobs None))
phase_hears part at [] is wants = absurd (cc)
phase_hears part at (job ∷ jobs) is wants =
    let between = waits_at part at job at.stage wants in
    subst (λ s. BeginsAt part (settled part (heard_at part at job s None))) (sym between) (phase_begins part at job jobs is between)

pub step_passes : (part : Part) (at : State) → want_of part at ≡ Phase → BeginsAt part (step part at None)
step_passes part at wants = phase_hears part at (left part at) refl wants

pub begins_at_start : (part : Part) → BeginsAt part (settled part (beginning part))
begins_at_start part = settle_begins part (beginning part) (left part (beginning part)) refl refl

-- the works of a part's commands are in their ranges
abbrev pub IfWork : Option MailWork → Type 0
IfWork None = Unit {0}
IfWork (Some w) = IsWork w

abbrev pub AreWorks : List Job → Type 0
AreWorks jobs = All (λ (job : Job). IfWork (work_of job.command)) jobs

-- what begins is as it should be
begun_stage : (w : MailWork) (stage : Stage) → IsWork w → OfStage (BeginsMail w) w stage → OfStage (OfMail w) w stage
begun_stage w Between is begins = tt
begun_stage w (Talking talk) is begins = begun_talk talk.at begins
  where
    begun_talk : (o : Option FileTalk) → OfTalk (BeginsMail w) w o → OfTalk (OfMail w) w o
    begun_talk None begins = tt
    begun_talk (Some f) begins = begun_file w f is begins
begun_stage w _ is begins = absurd begins

begun_if : (o : Option MailWork) (stage : Stage) → IfWork o → IfMail BeginsMail o stage → IfMail OfMail o stage
begun_if None stage is begins = tt
begun_if (Some w) stage is begins = begun_stage w stage is begins

begun_next : (jobs : List Job) (stage : Stage) → AreWorks jobs → AtNext BeginsMail jobs stage → AtNext OfMail jobs stage
begun_next [] stage are begins = tt
begun_next (job ∷ jobs) stage are begins = begun_if (work_of job.command) stage (All-head (λ (j : Job). IfWork (work_of j.command)) job jobs are) begins

pub begins_keep : (part : Part) (at : State) → AreWorks part.jobs → BeginsAt part at → KeepsMail part at
begins_keep part at are begins = begun_next (left part at) at.stage (All-drop (λ (j : Job). IfWork (work_of j.command)) (length at.answers) part.jobs are) begins

-- a session is of the work of its command
mail_of_talk : (w : MailWork) (o : Option FileTalk) (m : Mailing) → OfTalk (OfMail w) w o → mail_in_talk o ≡ Some m → OfMail w (Some m)
mail_of_talk w None m at_it is = absurd (cc)
mail_of_talk w (Some (Mails n)) m at_it is = subst (OfMail w) is at_it
mail_of_talk w (Some (Seeks walk errand guard)) m at_it is = absurd (cc)
mail_of_talk w (Some (LooksUp n p)) m at_it is = absurd (cc)
mail_of_talk w (Some (ReadsList n p)) m at_it is = absurd (cc)
mail_of_talk w (Some _) m at_it is = absurd at_it

mail_of_stage : (w : MailWork) (stage : Stage) (m : Mailing) → OfStage (OfMail w) w stage → mail_in_stage stage ≡ Some m → OfMail w (Some m)
mail_of_stage w (Talking talk) m keeps is = mail_of_talk w talk.at m keeps is
mail_of_stage w Between m keeps is = absurd (cc)
mail_of_stage w _ m keeps is = absurd keeps

-- where a process is at the machine of a mailbox it has a command of that work
pub record IsAtMail (part : Part) (at : State) (m : Mailing) : Type 0 where
  pub job : Job
  pub jobs : List Job
  pub work : MailWork
  pub left_is : left part at ≡ job ∷ jobs
  pub work_is : work_of job.command ≡ Some work
  pub on : OfMail work (Some m)

mail_at_job : (part : Part) (at : State) (jobs : List Job) (m : Mailing) → left part at ≡ jobs → AtNext OfMail jobs at.stage → session_in jobs at.stage ≡ Some m → IsAtMail part at m
mail_at_job part at [] m is keeps here = absurd (cc)
mail_at_job part at (job ∷ jobs) m is keeps here = by_work (work_of job.command) refl keeps here
  where
    by_work : (o : Option MailWork) → work_of job.command ≡ o → IfMail OfMail o at.stage → session_if o at.stage ≡ Some m → IsAtMail part at m
    by_work None e keeps here = absurd (cc)
    by_work (Some w) e keeps here = record { job = job; jobs = jobs; work = w; left_is = is; work_is = e; on = mail_of_stage w at.stage m keeps here }

pub mail_at : (part : Part) (at : State) (m : Mailing) → KeepsMail part at → session part at ≡ Some m → IsAtMail part at m
mail_at part at m keeps here = mail_at_job part at (left part at) m refl keeps here

-- it asks what its stage asks
stage_asks : (part : Part) (at : State) (job : Job) (stage : Stage) (m : Mailing) → mail_in_stage stage ≡ Some m → want_in part at job stage ≡ want_by (mail_asks (Some m))
stage_asks part at job (Talking talk) m is = ap want_by (talk_is talk.at is)
  where
    file_is : (f : FileTalk) → mail_in_file f ≡ Some m → file_asks f ≡ mail_asks (Some m)
    file_is (Mails n) is = ap mail_asks is
    file_is _ is = absurd (cc)

    talk_is : (o : Option FileTalk) → mail_in_talk o ≡ Some m → talk_asks (talk_in o) ≡ mail_asks (Some m)
    talk_is None is = absurd (cc)
    talk_is (Some f) is = file_is f is
stage_asks part at job _ m is = absurd (cc)

pub session_stage : (jobs : List Job) (stage : Stage) (m : Mailing) → session_in jobs stage ≡ Some m → mail_in_stage stage ≡ Some m
session_stage [] stage m is = absurd (cc)
session_stage (job ∷ jobs) stage m is = by_work (work_of job.command) is
  where
    by_work : (o : Option MailWork) → session_if o stage ≡ Some m → mail_in_stage stage ≡ Some m
    by_work None is = absurd (cc)
    by_work (Some w) is = is

do_same : (op asked : Op) → want_by (Some asked) ≡ Do op → op ≡ asked
do_same op asked e = cc

pub session_wants : (part : Part) (at : State) (m : Mailing) → KeepsMail part at → session part at ≡ Some m → want_of part at ≡ Do (stage_op m.uid m.work m.stage)
session_wants part at m keeps here =
    let on = mail_at part at m keeps here in
    ap (want_left part at) on.left_is
    ∙ (stage_asks part at on.job at.stage m (session_stage (left part at) at.stage m here) ∙ ap want_by (mail_asks_stage m))

pub session_asks : (part : Part) (at : State) (m : Mailing) (op : Op) → KeepsMail part at → session part at ≡ Some m → want_of part at ≡ Do op → op ≡ stage_op m.uid m.work m.stage
session_asks part at m op keeps here wants =
    let on = mail_at part at m keeps here in
    let asks : want_in part at on.job at.stage ≡ Do op = sym (ap (want_left part at) on.left_is) ∙ wants in
    do_same op (stage_op m.uid m.work m.stage)
    (sym (stage_asks part at on.job at.stage m (session_stage (left part at) at.stage m here) ∙ ap want_by (mail_asks_stage m)) ∙ asks)

-- beside its machine a command of mailboxes asks mildly
mild_op : (o : Option Op) (op : Op) → AsksMild o → want_by o ≡ Do op → is_mild op ≡ true
mild_op None op mild wants = absurd (cc)
mild_op (Some asked) op mild wants = let same : asked ≡ op = cc in subst (λ x. is_mild x ≡ true) same mild

mild_talk : (w : MailWork) (o : Option FileTalk) → OfTalk (OfMail w) w o → mail_in_talk o ≡ None → AsksMild (talk_asks (talk_in o))
mild_talk w None at_it none = tt
mild_talk w (Some f) at_it none = file_mild w f at_it none

mild_stage : (w : MailWork) (part : Part) (at : State) (job : Job) (stage : Stage) (op : Op) → OfStage (OfMail w) w stage → mail_in_stage stage ≡ None → want_in part at job stage ≡ Do op → is_mild op ≡ true
mild_stage w part at job Between op keeps none wants = absurd (no_op (nat_lt at.phase job.phase) op wants)
mild_stage w part at job (Talking talk) op keeps none wants = mild_op (talk_asks talk) op (mild_talk w talk.at keeps none) wants
mild_stage w part at job _ op keeps none wants = absurd keeps

-- a process whose next command is of mailboxes is at its machine where it asks anything else
pub at_machine : (part : Part) (at : State) (job : Job) (jobs : List Job) (w : MailWork) (op : Op) → left part at ≡ job ∷ jobs → work_of job.command ≡ Some w → KeepsMail part at → want_of part at ≡ Do op → is_mild op ≡ false
    → (m : Mailing) × (session part at ≡ Some m)
at_machine part at job jobs w op is works keeps wants wild = by_mail (mail_in_stage at.stage) refl
  where
    here : session part at ≡ mail_in_stage at.stage
    here = ap (λ js. session_in js at.stage) is ∙ ap (λ o. session_if o at.stage) works

    at_stage_so : OfStage (OfMail w) w at.stage
    at_stage_so = subst (λ o. IfMail OfMail o at.stage) works (subst (λ js. AtNext OfMail js at.stage) is keeps)

    by_mail : (o : Option Mailing) → mail_in_stage at.stage ≡ o → (m : Mailing) × (session part at ≡ Some m)
    by_mail (Some m) e = (m, here ∙ e)
    by_mail None e =
        let mild = mild_stage w part at job at.stage op at_stage_so e (sym (ap (want_left part at) is) ∙ wants) in
        absurd (true_not_false (sym mild ∙ wild))
      where
        true_not_false : true ≡ false → ⊥
        true_not_false e = cc

-- a machine that goes on stays as it should be
pub goes_keep : (part : Part) (at new : State) (reply : Reply) (op : Op) → KeepsMail part at → want_of part at ≡ Do op → Fits op reply → GoesOn part at reply new → KeepsMail part new
goes_keep part at new reply op keeps wants fits goes =
    let m = goes.mail in
    let on = mail_at part at m keeps goes.was in
    let asked = session_asks part at m op keeps goes.was wants in
    let next : OfMail on.work (stood_after (Some m) (Some reply)) = stays_on on.work m reply on.on (subst (λ o. Fits o reply) asked fits) in
    subst (λ (x : State). AtNext OfMail (left part x) x.stage) (sym goes.stays)
    (subst (λ js. AtNext OfMail js (Talking (talk_in (Some (Mails (stood_after (Some m) (Some reply))))))) (sym on.left_is)
    (subst (λ o. IfMail OfMail o (Talking (talk_in (Some (Mails (stood_after (Some m) (Some reply))))))) (sym on.work_is) next))
