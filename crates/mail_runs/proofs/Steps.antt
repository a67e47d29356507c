-- What exactly a reply makes of a process that is at the machine of a mailbox, and that answers only become more.
use Rattle.std.proofs.Common.{◌≡◌, ◌+◌, ◌∙◌, ℕ, zero, suc, Bool, true, false, cond, Option, Some, None, List, [], ◌∷◌, ◌++◌, append-nil, append_assoc, refl, sym, ap, subst, arith}
use Rattle.std.specs.Prelude.{codes, nat_lt}
use Rattle.uid_names.specs.Names.{IsName, ObjectName, ProcName, same_proc}
use Rattle.dom_history.specs.declared.op.Op.{Op}
use Rattle.dom_history.specs.declared.op.Reply.{Reply}
use Rattle.dom_history.specs.declared.op.Reply.TheVariants.{Fine}
use Rattle.dom_history.specs.declared.op.Want.{Want}
use Rattle.dom_history.specs.declared.op.Want.TheVariants.{Do, Phase, Done}
use Rattle.dom_history.specs.Fitting.{Fits}
use Rattle.dom_history.specs.Follows.{Heard}
use Rattle.dom_history.specs.Histories.{Item, Answered, Acted}
use Rattle.dom_history.specs.Ranges.{IsOp}
use Rattle.naming_tree.specs.Entering.{unmap_if}
use Rattle.mapped_streams.specs.declared.step.StreamResult.TheVariants as streams
use Rattle.script_reader.specs.declared.command.Command.{Command}
use Rattle.script_reader.specs.Scripts.{Content}
use Rattle.mail_box.specs.Dialogues.{Dialogue, says, told}
use Rattle.mail_box.specs.Mails.{counted}
use Rattle.mail_box.specs.States.{left as mail_left_of, message_op, stage_op, IsMailing, IsOpened, IsWork}
use Rattle.mail_box.specs.Turns.{Turn, state_of, turn}
use Rattle.mail_box.specs.Turns as box_turns
use Rattle.mail_box.specs.declared.boxes.Head.{Head}
use Rattle.mail_box.specs.declared.mailing.Mailing.{Mailing}
use Rattle.mail_box.specs.declared.mailing.Opened.{Opened}
use Rattle.mail_box.specs.declared.mailing.Stage.{Stage}
use Rattle.mail_box.specs.declared.mailing.Stage.TheVariants.{Lock, Length, Map, Numbers, Message, Count, Close}
use Rattle.mail_box.specs.declared.step.MailResult.{MailResult}
use Rattle.mail_box.specs.declared.step.MailResult.TheVariants as mail_results
use Rattle.mail_box.specs.declared.work.MailWork.{MailWork}
use Rattle.mail_box.specs.declared.work.MailWork.TheVariants.{Put, Take}
use Rattle.mail_box.proofs.Bytes.{message_size, numbers_size}
use Rattle.mail_box.proofs.Places.{message_in_page}
use Rattle.mail_box.proofs.Stages.{says_op}
use Rattle.mail_box.proofs.Turning.{turn_left, turns}
use Rattle.command_talks.specs.FileTalks.{mail_told, mail_turn}
use Rattle.command_talks.specs.Talks.{of_file, talk_in}
use Rattle.command_talks.specs.declared.file_talk.FileTalk.{FileTalk}
use Rattle.command_talks.specs.declared.file_talk.FileTalk.TheVariants.{Mails}
use Rattle.command_talks.specs.declared.file_talk.FileTurn.{FileTurn}
use Rattle.command_talks.specs.declared.file_talk.FileTurn.TheVariants as files
use Rattle.command_talks.specs.declared.outcome.Outcome.{Outcome}
use Rattle.command_talks.specs.declared.outcome.Outcome.TheVariants.{Replied}
use Rattle.command_talks.specs.Mailed.{bad_mailbox, mail_outcome, mailbox_empty, mailbox_full}
use Rattle.aegis_shell.specs.Asking.{ask}
use Rattle.aegis_shell.specs.AnswerTexts.{answer_text}
use Rattle.aegis_shell.specs.Outcomes.{outcome_text, stream_text}
use Rattle.aegis_shell.specs.States.{State, Going, at_stage, begins, finished, goes_on, hear, heard_at, left, next_phase, object_at_job, on_going, on_talk, on_turn, ops_at, settle, settled, settled_at, step, want_of}
use Rattle.aegis_shell.specs.States as shells
use Rattle.aegis_shell.specs.Work.{Job, Part, part_of}
use Rattle.aegis_shell.specs.declared.working.Working.{Working}
use Rattle.aegis_shell.specs.declared.stage.Stage.{Stage as ShellStage}
use Rattle.aegis_shell.specs.declared.stage.Stage.TheVariants.{Between, First, Second, Talks as Talking, Lists as Listing}
use Rattle.aegis_shell.proofs.RangeTests.{op_yes}
use Rattle.run_laws.specs.HeardOf.{on_phase, with_asked_phases}
use Rattle.mail_runs.proofs.Positions.{heard_by, moved, pos, pos_other, stands_at}
use Rattle.mail_runs.proofs.Sessions.{mail_at, mail_in_stage, session, session_asks, session_stage, IsAtMail, KeepsMail}
use Rattle.mail_runs.proofs.Talks.{mail_asks_stage, mail_in_file, mail_in_talk}

-- what a machine asks is in its ranges
closes_ranged : (mapped : Bool) (u : ObjectName) → IsName u → IsOp (unmap_if mapped u)
closes_ranged true u is = is
closes_ranged false u is = is

message_ranged : (work : MailWork) (o : Opened) (h : Head) → IsWork work → IsOpened o → IsOp (message_op work o h)
message_ranged (Put text) o h w at = (tt, (omega (arith, message_size text w), omega (arith, message_size text w, message_in_page o h.put at)))
message_ranged (Take before) o h w at = (tt, (omega arith, message_in_page o h.taken at))

stage_ranged : (u : ObjectName) (work : MailWork) (stage : Stage) → IsName u → IsMailing (record { uid = u; work = work; stage = stage; decided = None }) → IsOp (stage_op u work stage)
stage_ranged u work Lock is on = is
stage_ranged u work Length is on = is
stage_ranged u work (Map n) is on = is
stage_ranged u work (Numbers o) is on = (tt, (omega arith, omega (arith, on.stage.at)))
stage_ranged u work (Message o h) is on = message_ranged work o h on.work on.stage.0
stage_ranged u work (Count o h) is on = (tt, (omega (arith, numbers_size (counted work h)), omega (arith, on.stage.0.at, numbers_size (counted work h))))
stage_ranged u work (Close mapped) is on = closes_ranged mapped u is

mail_ranged : (m : Mailing) → IsName m.uid → IsMailing m → IsOp (stage_op m.uid m.work m.stage)
mail_ranged m is on = stage_ranged m.uid m.work m.stage is (record { work = on.work; stage = on.stage })

-- how what a mailbox came to is answered
abbrev pub mail_text : List (List ℕ) → MailResult → List ℕ
mail_text names mail_results.Put = codes "ok"
mail_text names (mail_results.Taken text) = stream_text names (streams.Bytes text)
mail_text names mail_results.Full = mailbox_full
mail_text names mail_results.Empty = mailbox_empty
mail_text names mail_results.BadMail = bad_mailbox
mail_text names (mail_results.Store reply) = answer_text names reply

pub mail_answer : (part : Part) (working : Working) (command : Command) (result : MailResult) → outcome_text part working command (mail_outcome result) ≡ mail_text part.names result
mail_answer part working command mail_results.Put = refl
mail_answer part working command (mail_results.Taken text) = refl
mail_answer part working command mail_results.Full = refl
mail_answer part working command mail_results.Empty = refl
mail_answer part working command mail_results.BadMail = refl
mail_answer part working command (mail_results.Store reply) = refl

-- the turn of a machine, as its command makes it
abbrev to_file : Turn → FileTurn
to_file (box_turns.Goes m) = files.Goes (Mails (Some m)) (stage_op m.uid m.work m.stage)
to_file (box_turns.Comes result) = files.Comes (mail_outcome result)

file_of : (t : Turn) (d : Dialogue) → turn_left t ≡ d → mail_turn (Some (says d)) (Mails (state_of t)) ≡ Some (to_file t)
file_of (box_turns.Goes m) d e = ap (λ x. mail_turn (Some x) (Mails (Some m))) (sym (ap says e) ∙ says_op m)
file_of (box_turns.Comes result) d e = ap (λ (x : Dialogue). mail_turn (Some (says x)) (Mails None)) (sym e)

told_is : (m : Mailing) (reply : Reply) → IsMailing m → Fits (stage_op m.uid m.work m.stage) reply → mail_told (Some m) (Some reply) ≡ Some (to_file (turn m reply))
told_is m reply on fits = file_of (turn m reply) (told (mail_left_of m) reply) (turns m reply on fits).leaves

-- a stage at which a machine is
file_is : (f : FileTalk) (m : Mailing) → mail_in_file f ≡ Some m → f ≡ Mails (Some m)
file_is (Mails n) m is = ap Mails is
file_is _ m is = absurd (cc)

talk_is : (o : Option FileTalk) (m : Mailing) → mail_in_talk o ≡ Some m → o ≡ Some (Mails (Some m))
talk_is None m is = absurd (cc)
talk_is (Some f) m is = ap Some (file_is f m is)

stage_is : (stage : ShellStage) (m : Mailing) → mail_in_stage stage ≡ Some m → stage ≡ Talking (talk_in (Some (Mails (Some m))))
stage_is (Talking talk) m is = ap (λ o. Talking (talk_in o)) (talk_is talk.at m is)
stage_is _ m is = absurd (cc)

module _ (part : Part) (at : State) (m : Mailing) (reply : Reply) (op : Op) (keeps : KeepsMail part at) (here : session part at ≡ Some m) (wants : want_of part at ≡ Do op) (fits : Fits op reply) (named : IsName m.uid) where
  abbrev on_it : IsAtMail part at m
  on_it = mail_at part at m keeps here

  fits_stage : Fits (stage_op m.uid m.work m.stage) reply
  fits_stage = subst (λ o. Fits o reply) (session_asks part at m op keeps here wants) fits

  abbrev ends : Outcome → State
  ends = finished part at on_it.job.command

  heard_is : hear part at (left part at) (Some reply) ≡ on_going (on_turn (of_file (Some (to_file (turn m reply))))) at ends
  heard_is =
      ap (λ js. hear part at js (Some reply)) on_it.left_is
      ∙ ap (λ stage. heard_at part at on_it.job stage (Some reply)) (stage_is at.stage m (session_stage (left part at) at.stage m here))
      ∙ ap (λ b. on_going (on_talk b (talk_in (Some (Mails (Some m)))) (Some reply)) at ends) (may_hear (mail_asks_stage m))
      ∙ ap (λ t. on_going (on_turn (of_file t)) at ends) (told_is m reply on_it.on.1 fits_stage)
    where
      may_hear : {o : Option Op} → o ≡ Some (stage_op m.uid m.work m.stage) → shells.may_be o (Some reply) ≡ true
      may_hear e = ap (λ x. shells.may_be x (Some reply)) e ∙ fits_stage

  -- where the machine goes on, it stands there
  pub goes_exact : (new : Mailing) → turn m reply ≡ box_turns.Goes new → IsMailing new → IsName new.uid → step part at (Some reply) ≡ at_stage at (Talking (talk_in (Some (Mails (Some new)))))
  goes_exact new goes on is =
      ap (settled part)
      (heard_is
      ∙ ap (λ t. on_going (on_turn (of_file (Some (to_file t)))) at ends) goes
      ∙ ap (λ b. on_going (cond b (shells.Goes (Talking (talk_in (Some (Mails (Some new)))))) (shells.Comes (Replied Fine))) at ends) (op_yes (stage_op new.uid new.work new.stage) (mail_ranged new is on)))

  -- where it has come to its result, its command has its answer
  pub comes_exact : (result : MailResult) → turn m reply ≡ box_turns.Comes result → step part at (Some reply) ≡ settled part (ends (mail_outcome result))
  comes_exact result comes = ap (settled part) (heard_is ∙ ap (λ t. on_going (on_turn (of_file (Some (to_file t)))) at ends) comes)

-- answers only become more
abbrev pub Grows : State → State → Type 0
Grows at new = (more : List (List ℕ)) × (new.answers ≡ at.answers ++ more)

grows_same : (at new : State) → new.answers ≡ at.answers → Grows at new
grows_same at new same = ([], same ∙ sym (append-nil at.answers))

pub grows_then : (a b c : State) → Grows a b → Grows b c → Grows a c
grows_then a b c first second = (first.0 ++ second.0, second.1 ∙ (ap (λ xs. xs ++ second.0) first.1 ∙ append_assoc a.answers first.0 second.0))

finished_grows : (part : Part) (at : State) (command : Command) (outcome : Outcome) → Grows at (finished part at command outcome)
finished_grows part at command outcome = (outcome_text part at.working command outcome ∷ [], refl)

settle_grows : (part : Part) (at : State) (jobs : List Job) → Grows at (settle part at jobs)
settle_grows part at [] = grows_same at at refl
settle_grows part at (job ∷ jobs) =
    by_phase (nat_lt at.phase job.phase) (begins part at.working (object_at_job at job) job.command) (λ outcome. settle_grows part (finished part at job.command outcome) jobs)
  where
    by_phase : (early : Bool) (going : Going) → ((outcome : Outcome) → Grows (finished part at job.command outcome) (settle part (finished part at job.command outcome) jobs))
        → Grows at (cond early at (on_going going at (λ outcome. settle part (finished part at job.command outcome) jobs)))
    by_phase true going further = grows_same at at refl
    by_phase false (shells.Goes stage) further = grows_same at (at_stage at stage) refl
    by_phase false (shells.Comes outcome) further =
        grows_then at (finished part at job.command outcome) (settle part (finished part at job.command outcome) jobs) (finished_grows part at job.command outcome) (further outcome)

pub settled_grows : (part : Part) (at : State) → Grows at (settled part at)
settled_grows part at = by_stage at.stage
  where
    by_stage : (stage : ShellStage) → Grows at (settled_at part at stage)
    by_stage Between = settle_grows part at (left part at)
    by_stage First = grows_same at at refl
    by_stage (Second first) = grows_same at at refl
    by_stage (Talking talk) = grows_same at at refl
    by_stage (Listing home after text) = grows_same at at refl

going_grows : (part : Part) (at : State) (job : Job) (going : Going) → Grows at (on_going going at (finished part at job.command))
going_grows part at job (shells.Goes stage) = grows_same at (at_stage at stage) refl
going_grows part at job (shells.Comes outcome) = finished_grows part at job.command outcome

heard_grows : (part : Part) (at : State) (jobs : List Job) (last : Option Reply) → Grows at (hear part at jobs last)
heard_grows part at [] last = grows_same at at refl
heard_grows part at (job ∷ jobs) last = by_stage at.stage
  where
    by_stage : (stage : ShellStage) → Grows at (heard_at part at job stage last)
    by_stage Between = grows_same at (next_phase at) refl
    by_stage First = going_grows part at job (goes_on part.names (ops_at part at job) First last)
    by_stage (Second first) = going_grows part at job (goes_on part.names (ops_at part at job) (Second first) last)
    by_stage (Talking talk) = going_grows part at job (goes_on part.names (ops_at part at job) (Talking talk) last)
    by_stage (Listing home after text) = going_grows part at job (goes_on part.names (ops_at part at job) (Listing home after text) last)

step_grows : (part : Part) (at : State) (last : Option Reply) → Grows at (step part at last)
step_grows part at last = grows_then at (hear part at (left part at) last) (step part at last) (heard_grows part at (left part at) last) (settled_grows part (hear part at (left part at) last))

module _ (s : Content) (p : ProcName) where
  pub phases_grow : (k : ℕ) (heard : Heard) → Grows (stands_at (part_of s p) heard) (stands_at (part_of s p) (with_asked_phases (ask s p) k heard))
  phases_grow zero heard = grows_same (stands_at (part_of s p) heard) (stands_at (part_of s p) heard) refl
  phases_grow (suc k) heard = by_want (ask s p heard) (phases_grow k (None ∷ heard))
    where
      by_want : (want : Want) → Grows (stands_at (part_of s p) (None ∷ heard)) (stands_at (part_of s p) (with_asked_phases (ask s p) k (None ∷ heard))) → Grows (stands_at (part_of s p) heard) (stands_at (part_of s p) (on_phase want (with_asked_phases (ask s p) k (None ∷ heard)) heard))
      by_want Phase further =
          grows_then (stands_at (part_of s p) heard) (stands_at (part_of s p) (None ∷ heard)) (stands_at (part_of s p) (with_asked_phases (ask s p) k (None ∷ heard)))
          (step_grows (part_of s p) (stands_at (part_of s p) heard) None) further
      by_want (Do op) further = grows_same (stands_at (part_of s p) heard) (stands_at (part_of s p) heard) refl
      by_want Done further = grows_same (stands_at (part_of s p) heard) (stands_at (part_of s p) heard) refl

  -- with each item
  pub pos_grows : (i : Item) (past : List Item) → Grows (pos s p past) (pos s p (i ∷ past))
  pos_grows (Acted a) past = grows_same (pos s p past) (pos s p past) refl
  pos_grows (Answered e) past = by_proc (same_proc e.proc p) refl
    where
      heard : Heard
      heard = Some e.reply ∷ heard_by s p past

      by_proc : (b : Bool) → same_proc e.proc p ≡ b → Grows (pos s p past) (pos s p (Answered e ∷ past))
      by_proc false other = grows_same (pos s p past) (pos s p (Answered e ∷ past)) (ap (λ (x : State). x.answers) (pos_other s p e past other))
      by_proc true mine =
          subst (Grows (pos s p past)) (sym (moved s p e past mine))
          (grows_then (pos s p past) (stands_at (part_of s p) heard) (stands_at (part_of s p) (with_asked_phases (ask s p) s.phases heard)) (step_grows (part_of s p) (pos s p past) (Some e.reply)) (phases_grow s.phases heard))
