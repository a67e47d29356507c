-- Where the process of a script stands behind the items of a history.
use Rattle.std.proofs.Common.{◌≡◌, ◌∙◌, ℕ, zero, suc, Bool, true, false, Option, Some, None, List, [], ◌∷◌, refl, sym, ap, subst, inl, inr, ◌⊎◌}
use Rattle.uid_names.specs.Names.{ProcName, same_proc}
use Rattle.uid_names.proofs.Orders.{same_proc_is}
use Rattle.dom_history.specs.declared.op.Entry.{Entry}
use Rattle.dom_history.specs.declared.op.Want.{Want}
use Rattle.dom_history.specs.declared.op.Want.TheVariants.{Do, Phase, Done}
use Rattle.dom_history.specs.Fitting.{Fits}
use Rattle.dom_history.specs.Follows.{Heard}
use Rattle.dom_history.specs.Histories.{Item, Answered, Acted}
use Rattle.dom_history.specs.Programs.{program_after}
use Rattle.dom_history.specs.Ranges.{IsOp}
use Rattle.script_reader.specs.Scripts.{Content}
use Rattle.aegis_shell.specs.Asking.{answers, ask}
use Rattle.aegis_shell.specs.Shells.{shell_after, shell_answers, shell_of, shell_wants}
use Rattle.aegis_shell.specs.States.{State, beginning, left, ops_at, op_in, settled, step, want_in, want_left, want_of}
use Rattle.aegis_shell.specs.Work.{Job, Part, part_of}
use Rattle.aegis_shell.specs.declared.stage.Stage.TheVariants.{Talks as Talking}
use Rattle.command_talks.specs.declared.talk.Talk.{Talk}
use Rattle.aegis_shell.proofs.Shells.{shell_answers_are, shell_asks}
use Rattle.run_laws.specs.HeardOf.{on_phase, with_asked_phases}
use Rattle.script_runs.specs.Answers.{heard_behind}
use Rattle.script_runs.proofs.Pacing.{no_phase}
use Rattle.mail_box.specs.declared.mailing.Mailing.{Mailing}
use Rattle.mail_runs.specs.Commands.{own_in}
use Rattle.mail_runs.proofs.Sessions.{begins_at_start, begins_keep, goes_keep, session, step_hears, step_passes, AreWorks, BeginsAt, GoesOn, KeepsMail}

-- where a process stands that heard this
abbrev pub stands_at : Part → Heard → State
stands_at part [] = settled part (beginning part)
stands_at part (told ∷ heard) = step part (stands_at part heard) told

-- a machine that is on waits for no phase
pub talking_waits : (part : Part) (at : State) (jobs : List Job) (talk : Talk) → at.stage ≡ Talking talk → want_left part at jobs ≡ Phase → ⊥
talking_waits part at [] talk is wants = cc
talking_waits part at (job ∷ jobs) talk is wants =
    no_phase (op_in (ops_at part at job) (Talking talk)) (subst (λ stage. want_in part at job stage ≡ Phase) is wants)

module _ (s : Content) (p : ProcName) where
  abbrev pub own_part : Part
  own_part = part_of s p

  after-heard : (heard : Heard) → program_after shell_after (shell_of s p) heard ≡ record { part = part_of s p; begun = true; at = stands_at (part_of s p) heard; spent = false }
  after-heard [] = refl
  after-heard (told ∷ heard) = rw (after-heard heard) refl

  -- it wants there what its process asks, and has its answers
  pub wants_there : (heard : Heard) → want_of own_part (stands_at own_part heard) ≡ ask s p heard
  wants_there heard = sym (ap shell_wants (after-heard heard)) ∙ shell_asks s p heard

  pub answers_there : (heard : Heard) → (stands_at own_part heard).answers ≡ answers s p heard
  answers_there heard = sym (ap shell_answers (after-heard heard)) ∙ shell_answers_are s p heard

  -- behind these items of a history
  abbrev pub heard_by : List Item → Heard
  heard_by past = heard_behind s p (own_in past p)

  abbrev pub pos : List Item → State
  pos past = stands_at own_part (heard_by past)

  abbrev pub mail_of : List Item → Option Mailing
  mail_of past = session own_part (pos past)

  -- phases that it waits for lead to the beginning of a machine at most
  phases_begin : (k : ℕ) (heard : Heard) → BeginsAt own_part (stands_at own_part heard) → BeginsAt own_part (stands_at own_part (with_asked_phases (ask s p) k heard))
  phases_begin zero heard begins = begins
  phases_begin (suc k) heard begins = by_want (ask s p heard) refl (λ later. phases_begin k (None ∷ heard) later)
    where
      by_want : (want : Want) → ask s p heard ≡ want → (BeginsAt own_part (stands_at own_part (None ∷ heard)) → BeginsAt own_part (stands_at own_part (with_asked_phases (ask s p) k (None ∷ heard)))) → BeginsAt own_part (stands_at own_part (on_phase want (with_asked_phases (ask s p) k (None ∷ heard)) heard))
      by_want Phase e further = further (step_passes own_part (stands_at own_part heard) (wants_there heard ∙ e))
      by_want (Do op) e further = begins
      by_want Done e further = begins

  pub phases_stay : (k : ℕ) (heard : Heard) → (ask s p heard ≡ Phase → ⊥) → with_asked_phases (ask s p) k heard ≡ heard
  phases_stay zero heard none = refl
  phases_stay (suc k) heard none = by_want (ask s p heard) refl
    where
      by_want : (want : Want) → ask s p heard ≡ want → on_phase want (with_asked_phases (ask s p) k (None ∷ heard)) heard ≡ heard
      by_want Phase e = absurd (none e)
      by_want (Do op) e = refl
      by_want Done e = refl

  pub pos_start : BeginsAt own_part (pos [])
  pos_start = phases_begin s.phases [] (begins_at_start own_part)

  -- items of others leave it where it is
  pub own_other : (e : Entry) (past : List Item) → same_proc e.proc p ≡ false → own_in (Answered e ∷ past) p ≡ own_in past p
  own_other e past other = rw other refl

  pub own_next : (e : Entry) (past : List Item) → same_proc e.proc p ≡ true → own_in (Answered e ∷ past) p ≡ e ∷ own_in past p
  own_next e past mine = rw mine refl

  pub pos_other : (e : Entry) (past : List Item) → same_proc e.proc p ≡ false → pos (Answered e ∷ past) ≡ pos past
  pos_other e past other = ap (λ own. stands_at own_part (heard_behind s p own)) (own_other e past other)

  -- its own entry leads it on
  abbrev pub Moves : Entry → List Item → Type 0
  Moves e past = BeginsAt own_part (pos (Answered e ∷ past)) ⊎ GoesOn own_part (pos past) e.reply (pos (Answered e ∷ past))

  pub moved : (e : Entry) (past : List Item) → same_proc e.proc p ≡ true → pos (Answered e ∷ past) ≡ stands_at own_part (with_asked_phases (ask s p) s.phases (Some e.reply ∷ heard_by past))
  moved e past mine = ap (λ own. stands_at own_part (heard_behind s p own)) (own_next e past mine)

  pub goes_stay : (e : Entry) (past : List Item) → GoesOn own_part (pos past) e.reply (stands_at own_part (Some e.reply ∷ heard_by past)) → with_asked_phases (ask s p) s.phases (Some e.reply ∷ heard_by past) ≡ Some e.reply ∷ heard_by past
  goes_stay e past goes =
      let heard = Some e.reply ∷ heard_by past in
      phases_stay s.phases heard
      (λ waits. talking_waits own_part (stands_at own_part heard) (left own_part (stands_at own_part heard)) _ (ap (λ (x : State). x.stage) goes.stays) (wants_there heard ∙ waits))

  pub pos_next : (e : Entry) (past : List Item) → same_proc e.proc p ≡ true → ask s p (heard_by past) ≡ Do e.op → KeepsMail own_part (pos past) → Moves e past
  pos_next e past mine asked keeps = by_hears (step_hears own_part (pos past) e.reply e.op (wants_there (heard_by past) ∙ asked) keeps)
    where
      heard : Heard
      heard = Some e.reply ∷ heard_by past

      by_hears : BeginsAt own_part (stands_at own_part heard) ⊎ GoesOn own_part (pos past) e.reply (stands_at own_part heard) → Moves e past
      by_hears (inl begins) = inl (subst (BeginsAt own_part) (sym (moved e past mine)) (phases_begin s.phases heard begins))
      by_hears (inr goes) = inr (subst (GoesOn own_part (pos past) e.reply) (sym (moved e past mine ∙ ap (stands_at own_part) (goes_stay e past goes))) goes)

-- each entry is what its process asks there, in its ranges, and its reply fits
abbrev pub AreAsked : Content → List Item → Type 0
AreAsked s [] = Unit {0}
AreAsked s (Answered e ∷ past) = (ask s e.proc (heard_by s e.proc past) ≡ Do e.op) × Fits e.op e.reply × IsOp e.op × AreAsked s past
AreAsked s (Acted a ∷ past) = AreAsked s past

-- so each process is always as it should be
module _ (s : Content) (p : ProcName) (works : AreWorks (part_of s p).jobs) where
  own_keeps : (e : Entry) (past : List Item) → same_proc e.proc p ≡ true → ask s p (heard_by s p past) ≡ Do e.op → Fits e.op e.reply → KeepsMail (part_of s p) (pos s p past) → KeepsMail (part_of s p) (pos s p (Answered e ∷ past))
  own_keeps e past mine asked fits keeps = by_moves (pos_next s p e past mine asked keeps)
    where
      by_moves : Moves s p e past → KeepsMail (part_of s p) (pos s p (Answered e ∷ past))
      by_moves (inl begins) = begins_keep (part_of s p) (pos s p (Answered e ∷ past)) works begins
      by_moves (inr goes) = goes_keep (part_of s p) (pos s p past) (pos s p (Answered e ∷ past)) e.reply e.op keeps (wants_there s p (heard_by s p past) ∙ asked) fits goes

  pub keeps_all : (past : List Item) → AreAsked s past → KeepsMail (part_of s p) (pos s p past)
  keeps_all [] asked = begins_keep (part_of s p) (pos s p []) works (pos_start s p)
  keeps_all (Acted a ∷ past) asked = keeps_all past asked
  keeps_all (Answered e ∷ past) asked = by_proc (same_proc e.proc p) refl (keeps_all past asked.3)
    where
      by_proc : (b : Bool) → same_proc e.proc p ≡ b → KeepsMail (part_of s p) (pos s p past) → KeepsMail (part_of s p) (pos s p (Answered e ∷ past))
      by_proc false other before = subst (KeepsMail (part_of s p)) (sym (pos_other s p e past other)) before
      by_proc true mine before = own_keeps e past mine (subst (λ q. ask s q (heard_by s q past) ≡ Do e.op) (same_proc_is e.proc p mine) asked.0) asked.1 before
