-- A command of a mailbox is followed from its lock to its answer: what holds of its machine, and is kept by each reply, holds to the end.
use Rattle.std.proofs.Common.{◌≡◌, ◌+◌, ◌-◌, ◌∙◌, ℕ, Bool, true, false, Some, List, [], ◌∷◌, ◌++◌, length, append_assoc, refl, sym, ap, subst, inl, inr, ◌⊎◌, arith}
use Rattle.std.specs.List.{slice_get}
use Rattle.std.proofs.lemmas.Option.{slice_get_within}
use Rattle.uid_names.specs.Names.{IsName, ProcName, same_proc}
use Rattle.uid_names.proofs.Orders.{same_proc_is}
use Rattle.uid_names.proofs.ListLemmas.{end-there, front}
use Rattle.dom_history.specs.declared.op.Entry.{Entry}
use Rattle.dom_history.specs.declared.op.Want.TheVariants.{Do, Done}
use Rattle.dom_history.specs.Fitting.{Fits}
use Rattle.dom_history.specs.Follows.{Heard}
use Rattle.dom_history.specs.Histories.{Item, Answered, Acted}
use Rattle.script_reader.specs.Scripts.{Content}
use Rattle.aegis_shell.specs.Asking.{ask}
use Rattle.aegis_shell.specs.Outcomes.{outcome_text}
use Rattle.aegis_shell.specs.States.{State, at_stage, finished, left, want_of}
use Rattle.aegis_shell.specs.Work.{part_of}
use Rattle.aegis_shell.specs.declared.stage.Stage.TheVariants.{Talks as Talking}
use Rattle.command_talks.specs.Talks.{talk_in}
use Rattle.command_talks.specs.declared.file_talk.FileTalk.TheVariants.{Mails}
use Rattle.command_talks.specs.Mailed.{mail_outcome}
use Rattle.mail_box.specs.States.{stage_op, IsMailing}
use Rattle.mail_box.specs.Turns.{Turn, Goes, Comes, state_of, turn}
use Rattle.mail_box.specs.declared.mailing.Mailing.{Mailing}
use Rattle.mail_box.specs.declared.step.MailResult.{MailResult}
use Rattle.mail_box.proofs.Turning.{turns, IsTurn}
use Rattle.run_laws.specs.HeardOf.{with_asked_phases}
use Rattle.mail_runs.proofs.MailTurns.{uid_stays}
use Rattle.mail_runs.proofs.Positions.{heard_by, keeps_all, mail_of, moved, phases_stay, pos, pos_other, stands_at, talking_waits, wants_there, AreAsked}
use Rattle.mail_runs.proofs.Sessions.{mail_at, session, session_asks, session_if, session_in, session_wants, AreWorks, IsAtMail, KeepsMail}
use Rattle.mail_runs.proofs.Steps.{comes_exact, goes_exact, grows_then, mail_answer, mail_text, phases_grow, pos_grows, settled_grows, Grows}

-- an item that is no entry of the process
abbrev pub IsOther : ProcName → Item → Type 0
IsOther p (Acted a) = Unit {0}
IsOther p (Answered e) = same_proc e.proc p ≡ false

module _ (s : Content) (p : ProcName) (works : AreWorks (part_of s p).jobs) where
  -- its own entry at a machine
  module _ (e : Entry) (past : List Item) (mine : same_proc e.proc p ≡ true) (asked : AreAsked s (Answered e ∷ past)) (m : Mailing) (here : mail_of s p past ≡ Some m) (named : IsName m.uid) where
    abbrev heard : Heard
    heard = Some e.reply ∷ heard_by s p past

    keeps : KeepsMail (part_of s p) (pos s p past)
    keeps = keeps_all s p works past asked.3

    wants : want_of (part_of s p) (pos s p past) ≡ Do e.op
    wants = wants_there s p (heard_by s p past) ∙ subst (λ q. ask s q (heard_by s q past) ≡ Do e.op) (same_proc_is e.proc p mine) asked.0

    abbrev at_it : IsAtMail (part_of s p) (pos s p past) m
    at_it = mail_at (part_of s p) (pos s p past) m keeps here

    fits_here : Fits (stage_op m.uid m.work m.stage) e.reply
    fits_here = subst (λ o. Fits o e.reply) (session_asks (part_of s p) (pos s p past) m e.op keeps here wants) asked.1

    -- it goes on
    goes_there : (new : Mailing) → turn m e.reply ≡ Goes new → pos s p (Answered e ∷ past) ≡ at_stage (pos s p past) (Talking (talk_in (Some (Mails (Some new)))))
    goes_there new goes =
        let on : IsMailing new = subst IsTurn goes (turns m e.reply at_it.on.1 fits_here).keeps in
        let uid : new.uid ≡ m.uid = uid_stays at_it.work m new e.reply at_it.on.0 (ap state_of goes) in
        let exact = goes_exact (part_of s p) (pos s p past) m e.reply e.op keeps here wants asked.1 named new goes on (subst IsName (sym uid) named) in
        let stays : with_asked_phases (ask s p) s.phases heard ≡ heard =
        phases_stay s p s.phases heard
        (λ waits. talking_waits (part_of s p) (stands_at (part_of s p) heard) (left (part_of s p) (stands_at (part_of s p) heard)) _ (ap (λ (x : State). x.stage) exact) (wants_there s p heard ∙ waits)) in
        moved s p e past mine ∙ (ap (stands_at (part_of s p)) stays ∙ exact)

    pub mail_there : (new : Mailing) → turn m e.reply ≡ Goes new → mail_of s p (Answered e ∷ past) ≡ Some new
    mail_there new goes =
        let there = goes_there new goes in
        ap (session (part_of s p)) there
        ∙ (ap (λ js. session_in js (Talking (talk_in (Some (Mails (Some new)))))) at_it.left_is
        ∙ ap (λ o. session_if o (Talking (talk_in (Some (Mails (Some new)))))) at_it.work_is)

    pub answers_stay : (new : Mailing) → turn m e.reply ≡ Goes new → (pos s p (Answered e ∷ past)).answers ≡ (pos s p past).answers
    answers_stay new goes = ap (λ (x : State). x.answers) (goes_there new goes)

    pub new_named : (new : Mailing) → turn m e.reply ≡ Goes new → IsName new.uid
    new_named new goes = subst IsName (sym (uid_stays at_it.work m new e.reply at_it.on.0 (ap state_of goes))) named

    -- or its command is answered
    answered_there : (result : MailResult) → turn m e.reply ≡ Comes result → slice_get (pos s p (Answered e ∷ past)).answers (length (pos s p past).answers) ≡ Some (mail_text (part_of s p).names result)
    answered_there result comes =
        let at = pos s p past in
        let done = finished (part_of s p) at at_it.job.command (mail_outcome result) in
        let text = outcome_text (part_of s p) at.working at_it.job.command (mail_outcome result) in
        let exact = comes_exact (part_of s p) at m e.reply e.op keeps here wants asked.1 named result comes in
        let grown : Grows done (pos s p (Answered e ∷ past)) =
        subst (Grows done) (sym (moved s p e past mine))
        (grows_then done (stands_at (part_of s p) heard) (stands_at (part_of s p) (with_asked_phases (ask s p) s.phases heard))
        (subst (Grows done) (sym exact) (settled_grows (part_of s p) done)) (phases_grow s p s.phases heard)) in
        ap (λ xs. slice_get xs (length at.answers)) grown.1
        ∙ front (at.answers ++ text ∷ []) grown.0 (length at.answers) _ (end-there at.answers text)
        ∙ ap Some (mail_answer (part_of s p) at.working at_it.job.command result)

-- what is kept of a machine is kept to the end, and what comes of it holds of the result
module _ (s : Content) (p : ProcName) (works : AreWorks (part_of s p).jobs) (all : List Item) (number : ℕ) (Q : List Item → Mailing → Type 0) (R : List Item → MailResult → Type 0) where
  abbrev pub TurnIs : List Item → Turn → Type 0
  TurnIs items (Goes m) = Q items m
  TurnIs items (Comes result) = R items result

  -- these stand behind others of the whole
  abbrev pub IsBehind : List Item → Type 0
  IsBehind items = (newer : List Item) × (all ≡ newer ++ items)

  pub record AreKept : Type 0 where
    pub mail_other : (i : Item) (past : List Item) (m : Mailing) → IsOther p i → Q past m → Q (i ∷ past) m
    pub result_more : (i : Item) (past : List Item) (result : MailResult) → R past result → R (i ∷ past) result
    pub mail_own : (e : Entry) (past : List Item) (m : Mailing) → same_proc e.proc p ≡ true → IsBehind (Answered e ∷ past) → mail_of s p past ≡ Some m → length (pos s p past).answers + 1 ≡ number → Q past m
        → TurnIs (Answered e ∷ past) (turn m e.reply)

  -- the command is at its machine
  pub record IsGoing (items : List Item) : Type 0 where
    pub mail : Mailing
    pub here : mail_of s p items ≡ Some mail
    pub number_is : length (pos s p items).answers + 1 ≡ number
    pub named : IsName mail.uid
    pub holds : Q items mail

  -- or has its answer
  pub record IsAnswered (items : List Item) : Type 0 where
    pub result : MailResult
    pub text : slice_get (pos s p items).answers (number - 1) ≡ Some (mail_text (part_of s p).names result)
    pub holds : R items result

  abbrev pub Stands : List Item → Type 0
  Stands items = IsGoing items ⊎ IsAnswered items

  -- an answer stays
  answer_stays : (kept : AreKept) (i : Item) (past : List Item) → IsAnswered past → IsAnswered (i ∷ past)
  answer_stays kept i past answered =
      let grown = pos_grows s p i past in
      record {
        result = answered.result;
        text = ap (λ xs. slice_get xs (number - 1)) grown.1 ∙ front (pos s p past).answers grown.0 (number - 1) _ answered.text;
        holds = kept.result_more i past answered.result answered.holds;
      }

  less_one : (n : ℕ) → n + 1 ≡ number → number - 1 ≡ n
  less_one n e = omega (arith, e)

  own_turn : (kept : AreKept) (e : Entry) (past : List Item) → same_proc e.proc p ≡ true → AreAsked s (Answered e ∷ past) → IsBehind (Answered e ∷ past) → (going : IsGoing past) → (t : Turn) → turn going.mail e.reply ≡ t → Stands (Answered e ∷ past)
  own_turn kept e past mine asked behind going (Goes new) is =
      inl (record {
        mail = new;
        here = mail_there s p works e past mine asked going.mail going.here going.named new is;
        number_is = ap (λ xs. length xs + 1) (answers_stay s p works e past mine asked going.mail going.here going.named new is) ∙ going.number_is;
        named =
            let at = at_it s p works e past mine asked going.mail going.here going.named in
            subst IsName (sym (uid_stays at.work going.mail new e.reply at.on.0 (ap state_of is))) going.named;
        holds = subst (TurnIs (Answered e ∷ past)) is (kept.mail_own e past going.mail mine behind going.here going.number_is going.holds);
      })
  own_turn kept e past mine asked behind going (Comes result) is =
      inr (record {
        result = result;
        text = ap (slice_get (pos s p (Answered e ∷ past)).answers) (less_one (length (pos s p past).answers) going.number_is) ∙ answered_there s p works e past mine asked going.mail going.here going.named result is;
        holds = subst (TurnIs (Answered e ∷ past)) is (kept.mail_own e past going.mail mine behind going.here going.number_is going.holds);
      })

  other_stays : (kept : AreKept) (i : Item) (past : List Item) → IsOther p i → pos s p (i ∷ past) ≡ pos s p past → IsGoing past → IsGoing (i ∷ past)
  other_stays kept i past other same going = record {
    mail = going.mail;
    here = ap (session (part_of s p)) same ∙ going.here;
    number_is = ap (λ (x : State). length x.answers + 1) same ∙ going.number_is;
    named = going.named;
    holds = kept.mail_other i past going.mail other going.holds;
  }

  next : (kept : AreKept) (i : Item) (past : List Item) → AreAsked s (i ∷ past) → IsBehind (i ∷ past) → Stands past → Stands (i ∷ past)
  next kept i past asked behind (inr answered) = inr (answer_stays kept i past answered)
  next kept (Acted a) past asked behind (inl going) = inl (other_stays kept (Acted a) past tt refl going)
  next kept (Answered e) past asked behind (inl going) = by_proc (same_proc e.proc p) refl
    where
      by_proc : (b : Bool) → same_proc e.proc p ≡ b → Stands (Answered e ∷ past)
      by_proc false other = inl (other_stays kept (Answered e) past other (pos_other s p e past other) going)
      by_proc true mine = own_turn kept e past mine asked behind going (turn going.mail e.reply) refl

  asked_behind : (newer past : List Item) → AreAsked s (newer ++ past) → AreAsked s past
  asked_behind [] past asked = asked
  asked_behind (Answered e ∷ newer) past asked = asked_behind newer past asked.3
  asked_behind (Acted a ∷ newer) past asked = asked_behind newer past asked

  -- from one place to a later one
  pub follow : (kept : AreKept) (newer past : List Item) → AreAsked s (newer ++ past) → IsBehind (newer ++ past) → Stands past → Stands (newer ++ past)
  follow kept [] past asked behind stands = stands
  follow kept (i ∷ newer) past asked behind stands =
      next kept i (newer ++ past) asked behind (follow kept newer past (asked_behind (i ∷ []) (newer ++ past) asked) (behind.0 ++ i ∷ [], behind.1 ∙ sym (append_assoc behind.0 (i ∷ []) (newer ++ past))) stands)

  -- a process that is done is at no machine
  pub done_answers : (past : List Item) → AreAsked s past → ask s p (heard_by s p past) ≡ Done → Stands past → IsAnswered past
  done_answers past asked done (inr answered) = answered
  done_answers past asked done (inl going) =
      let wants = session_wants (part_of s p) (pos s p past) going.mail (keeps_all s p works past asked) going.here in
      let never : Do (stage_op going.mail.uid going.mail.work going.mail.stage) ≡ Done = sym wants ∙ (wants_there s p (heard_by s p past) ∙ done) in
      absurd (cc)

  -- one that has its answer is behind its number
  pub answered_behind : (past : List Item) → IsAnswered past → length (pos s p past).answers + 1 ≡ number → ⊥
  answered_behind past answered same =
      let within = slice_get_within (pos s p past).answers (number - 1) _ answered.text in
      omega (arith, within, same)
