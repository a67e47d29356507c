-- A mailbox at which a machine is holds its lock, and its bytes are reached by the addresses of its mapping.
use Rattle.std.proofs.Common.{◌≡◌, ◌+◌, ◌∙◌, ℕ, Bool, true, false, Option, Some, None, List, [], ◌∷◌, ◌++◌, refl, sym, ap, subst, inl, inr}
use Rattle.uid_names.specs.Names.{ProcName, ObjectName, same_proc}
use Rattle.uid_names.specs.Openings.{Start, IsStart}
use Rattle.uid_names.specs.declared.mode.Mode.TheVariants.{Write}
use Rattle.uid_names.proofs.Orders.{same_proc-itself, same_proc-sym, same_proc_is, same_uid-itself}
use Rattle.dom_history.specs.declared.deed.LockState.{LockState}
use Rattle.dom_history.specs.declared.deed.LockState.TheVariants.{Held}
use Rattle.dom_history.specs.declared.op.Entry.{Entry}
use Rattle.dom_history.specs.declared.op.Op.{Op}
use Rattle.dom_history.specs.declared.op.Op.TheVariants as ops
use Rattle.dom_history.specs.declared.op.Reply.{Reply}
use Rattle.dom_history.specs.declared.op.Reply.TheVariants.{Fine, Size, Bytes, At as MappedAt}
use Rattle.dom_history.specs.declared.op.Want.TheVariants.{Do}
use Rattle.dom_history.specs.Histories.{Item, Answered, Acted, deeds}
use Rattle.dom_history.specs.Legal.{AreLegal, MayAct}
use Rattle.dom_history.specs.Locks.{state_after}
use Rattle.dom_history.specs.Mappings.{mappings}
use Rattle.dom_history.specs.StoreEffects.{StoreEffect, store_effect, store_effects}
use Rattle.dom_history.proofs.MappedObjects.{others-mapped}
use Rattle.script_reader.specs.Scripts.{Content}
use Rattle.aegis_shell.specs.Asking.{ask}
use Rattle.aegis_shell.specs.States.{State, left}
use Rattle.aegis_shell.specs.Work.{Job, Part, part_of}
use Rattle.aegis_shell.specs.declared.stage.Stage.{Stage as ShellStage}
use Rattle.aegis_shell.specs.declared.stage.Stage.TheVariants as shell_stages
use Rattle.command_talks.specs.declared.file_talk.FileTalk.{FileTalk}
use Rattle.command_talks.specs.declared.file_talk.FileTalk.TheVariants.{Mails, Seeks, LooksUp, ReadsList}
use Rattle.mail_box.specs.Boxes.{extent_of, first_head, head_of, text_in}
use Rattle.mail_box.specs.Mails.{judged, opened_at}
use Rattle.mail_box.specs.States.{message_op, stage_op}
use Rattle.mail_box.specs.Turns.{Turn, Goes, Comes, behind_count, behind_length, behind_loaded, behind_map, behind_message, behind_numbers, behind_stored, known_if, reached, stage_turn, state_of, stood_after, turn, with_text}
use Rattle.mail_box.specs.declared.boxes.Extent.{Extent}
use Rattle.mail_box.specs.declared.boxes.Extent.TheVariants.{New, Torn, Whole}
use Rattle.mail_box.specs.declared.boxes.Head.{Head}
use Rattle.mail_box.specs.declared.mailing.Mailing.{Mailing}
use Rattle.mail_box.specs.declared.mailing.Opened.{Opened}
use Rattle.mail_box.specs.declared.mailing.Stage.{Stage}
use Rattle.mail_box.specs.declared.mailing.Stage.TheVariants.{Lock, Length, Map, Numbers, Message, Count, Close}
use Rattle.mail_box.specs.declared.step.MailResult.{MailResult}
use Rattle.mail_box.specs.declared.work.MailWork.{MailWork}
use Rattle.mail_box.specs.declared.work.MailWork.TheVariants.{Put, Take}
use Rattle.std.proofs.lemmas.Option.{same_Some}
use Rattle.mail_runs.proofs.Locks.{state_other, state_own, state_told}
use Rattle.mail_runs.proofs.Mapped.{all_apart, is_mapping, map_reached, mappings_kept, target_stays, Reach}
use Rattle.mail_runs.proofs.MailTurns.{uid_stays}
use Rattle.mail_runs.proofs.Positions.{heard_by, keeps_all, mail_of, pos, pos_next, pos_other, pos_start, wants_there, AreAsked, Moves}
use Rattle.mail_runs.proofs.Rooms.{AreRanged}
use Rattle.mail_runs.proofs.Sessions.{mail_at, session, session_asks, session_if, session_in, work_of, AreWorks, AtNext, BeginsAt, IfMail, KeepsMail}
use Rattle.mail_runs.proofs.Talks.{mail_in_file, mail_in_talk, BeginsMail, OfFile, OfTalk}

-- a machine that begins is about to lock
begun_file : (w : MailWork) (f : FileTalk) (m : Mailing) → OfFile (BeginsMail w) w f → mail_in_file f ≡ Some m → m.stage ≡ Lock
begun_file w (Mails n) m begins is = ap (λ (x : Mailing). x.stage) (subst (BeginsMail w) is begins)
begun_file w (Seeks walk errand guard) m begins is = absurd (cc)
begun_file w (LooksUp n p) m begins is = absurd (cc)
begun_file w (ReadsList n p) m begins is = absurd (cc)
begun_file w _ m begins is = absurd begins

begun_talk : (w : MailWork) (o : Option FileTalk) (m : Mailing) → OfTalk (BeginsMail w) w o → mail_in_talk o ≡ Some m → m.stage ≡ Lock
begun_talk w None m begins is = absurd (cc)
begun_talk w (Some f) m begins is = begun_file w f m begins is

begun_stage : (o : Option MailWork) (stage : ShellStage) (m : Mailing) → IfMail BeginsMail o stage → session_if o stage ≡ Some m → m.stage ≡ Lock
begun_stage None stage m begins is = absurd (cc)
begun_stage (Some w) (shell_stages.Talks talk) m begins is = begun_talk w talk.at m begins is
begun_stage (Some w) shell_stages.Between m begins is = absurd (cc)
begun_stage (Some w) _ m begins is = absurd begins

begun_next : (jobs : List Job) (stage : ShellStage) (m : Mailing) → AtNext BeginsMail jobs stage → session_in jobs stage ≡ Some m → m.stage ≡ Lock
begun_next [] stage m begins is = absurd (cc)
begun_next (job ∷ jobs) stage m begins is = begun_stage (work_of job.command) stage m begins is

pub begun_locks : (part : Part) (at : State) (m : Mailing) → BeginsAt part at → session part at ≡ Some m → m.stage ≡ Lock
begun_locks part at m begins is = begun_next (left part at) at.stage m begins is

-- what is open at a stage
abbrev pub OpenedAt : Start → List StoreEffect → ProcName → ObjectName → Stage → Type 0
OpenedAt opening eff p u (Numbers o) = Reach opening eff p u o.address
OpenedAt opening eff p u (Message o h) = Reach opening eff p u o.address
OpenedAt opening eff p u (Count o h) = Reach opening eff p u o.address
OpenedAt opening eff p u stage = Unit {0}

abbrev pub HeldAt : LockState → Stage → Type 0
HeldAt s Lock = Unit {0}
HeldAt s stage = s ≡ Held Write

-- so at a machine
abbrev pub OpenMail : Start → List StoreEffect → ProcName → LockState → Mailing → Type 0
OpenMail opening eff p s m = OpenedAt opening eff p m.uid m.stage × HeldAt s m.stage

abbrev TurnOpen : Start → List StoreEffect → ProcName → LockState → Turn → Type 0
TurnOpen opening eff p s (Goes m) = OpenMail opening eff p s m
TurnOpen opening eff p s (Comes result) = Unit {0}

-- a reply keeps it so, where the lock is held and what was reached is reached
module _ (opening : Start) (new : List StoreEffect) (p : ProcName) (s : LockState) (u : ObjectName) (held : s ≡ Held Write) where
  known_open : (work : MailWork) (o : Opened) (h : Head) (found : Option MailResult) → Reach opening new p u o.address → OpenMail opening new p s (known_if u work o h found)
  known_open work o h None there = (there, held)
  known_open work o h (Some result) there = (tt, held)

  reached_open : (work : MailWork) (o : Opened) (extent : Extent) → Reach opening new p u o.address → OpenMail opening new p s (reached u work o extent)
  reached_open work o New there = known_open work o first_head (judged work first_head) there
  reached_open work o Torn there = (tt, held)
  reached_open work o Whole there = (there, held)

  map_open : (work : MailWork) (n : ℕ) (reply : Reply) → ((a : ℕ) (fresh : Bool) → reply ≡ MappedAt a fresh → Reach opening new p u a) → OpenMail opening new p s (behind_map u work n reply)
  map_open work n (MappedAt a fresh) there = reached_open work (opened_at a fresh) (extent_of n) (there a fresh refl)
  map_open work n reply there = (tt, held)

  numbers_open : (work : MailWork) (o : Opened) (reply : Reply) → Reach opening new p u o.address → OpenMail opening new p s (behind_numbers u work o reply)
  numbers_open work o (Bytes loaded) there = known_open work o (head_of loaded) (judged work (head_of loaded)) there
  numbers_open work o reply there = (tt, held)

  stored_open : (work : MailWork) (o : Opened) (h : Head) (reply : Reply) → Reach opening new p u o.address → OpenMail opening new p s (behind_stored u work o h reply)
  stored_open work o h Fine there = (there, held)
  stored_open work o h reply there = (tt, held)

  text_open : (work : MailWork) (o : Opened) (h : Head) (found : Option (List ℕ)) → Reach opening new p u o.address → OpenMail opening new p s (with_text u work o h found)
  text_open work o h None there = (tt, held)
  text_open work o h (Some text) there = (there, held)

  loaded_open : (work : MailWork) (o : Opened) (h : Head) (reply : Reply) → Reach opening new p u o.address → OpenMail opening new p s (behind_loaded u work o h reply)
  loaded_open work o h (Bytes loaded) there = text_open work o h (text_in loaded) there
  loaded_open work o h reply there = (tt, held)

  message_open : (work : MailWork) (o : Opened) (h : Head) (reply : Reply) → Reach opening new p u o.address → OpenMail opening new p s (behind_message u work o h reply)
  message_open (Put text) o h reply there = stored_open (Put text) o h reply there
  message_open (Take text) o h reply there = loaded_open (Take text) o h reply there

  count_open : (work : MailWork) (o : Opened) (reply : Reply) → OpenMail opening new p s (behind_count u work o reply)
  count_open work o Fine = (tt, held)
  count_open work o reply = (tt, held)

  length_open : (work : MailWork) (reply : Reply) → OpenMail opening new p s (behind_length u work reply)
  length_open work (Size n) = (tt, held)
  length_open work reply = (tt, held)

-- what a reply to the operation of a stage makes of the lock of its object, unless the machine is over
module _ (u : ObjectName) (work : MailWork) where
  stays_held : (stage : Stage) (decided : Option MailResult) (reply : Reply) (s : LockState) (m : Mailing) → HeldAt s stage → stage_turn u work decided stage reply ≡ Goes m → state_after u (stage_op u work stage) reply s ≡ Held Write
  stays_held Lock decided Fine s m held goes = rw (same_uid-itself u) refl
  stays_held Lock decided reply s m held goes = absurd (cc)
  stays_held Length decided reply s m held goes = held
  stays_held (Map n) decided reply s m held goes = held
  stays_held (Numbers o) decided reply s m held goes = held
  stays_held (Message o h) decided reply s m held goes = message_held work
    where
      message_held : (w : MailWork) → state_after u (message_op w o h) reply s ≡ Held Write
      message_held (Put text) = held
      message_held (Take text) = held
  stays_held (Count o h) decided reply s m held goes = held
  stays_held (Close true) decided reply s m held goes = held
  stays_held (Close false) decided reply s m held goes = absurd (cc)

-- a machine that goes on is open as before
module _ (opening : Start) (eff new : List StoreEffect) (p : ProcName) where
  abbrev Stays : ObjectName → Op → Type 0
  Stays u op = is_mapping op ≡ false → (a : ℕ) → Reach opening eff p u a → Reach opening new p u a

  abbrev Maps : ObjectName → Op → Reply → Type 0
  Maps u op reply = op ≡ ops.Map u → (a : ℕ) (fresh : Bool) → reply ≡ MappedAt a fresh → Reach opening new p u a

  message_mild : (work : MailWork) (o : Opened) (h : Head) → is_mapping (message_op work o h) ≡ false
  message_mild (Put text) o h = refl
  message_mild (Take text) o h = refl

  stage_opens : (u : ObjectName) (work : MailWork) (decided : Option MailResult) (stage : Stage) (reply : Reply) (s : LockState) (m : Mailing)
      → OpenedAt opening eff p u stage → Stays u (stage_op u work stage) → Maps u (stage_op u work stage) reply → s ≡ Held Write → stage_turn u work decided stage reply ≡ Goes m → OpenMail opening new p s m
  stage_opens u work decided Lock Fine s m is_open stays maps held goes = subst (TurnOpen opening new p s) goes (tt, held)
  stage_opens u work decided Lock reply s m is_open stays maps held goes = absurd (cc)
  stage_opens u work decided Length reply s m is_open stays maps held goes = subst (TurnOpen opening new p s) goes (length_open opening new p s u held work reply)
  stage_opens u work decided (Map n) reply s m is_open stays maps held goes = subst (TurnOpen opening new p s) goes (map_open opening new p s u held work n reply (maps refl))
  stage_opens u work decided (Numbers o) reply s m is_open stays maps held goes = subst (TurnOpen opening new p s) goes (numbers_open opening new p s u held work o reply (stays refl o.address is_open))
  stage_opens u work decided (Message o h) reply s m is_open stays maps held goes = subst (TurnOpen opening new p s) goes (message_open opening new p s u held work o h reply (stays (message_mild work o h) o.address is_open))
  stage_opens u work decided (Count o h) reply s m is_open stays maps held goes = subst (TurnOpen opening new p s) goes (count_open opening new p s u held work o reply)
  stage_opens u work decided (Close true) reply s m is_open stays maps held goes = subst (TurnOpen opening new p s) goes (tt, held)
  stage_opens u work decided (Close false) reply s m is_open stays maps held goes = absurd (cc)

-- where a process is at a machine, its mailbox is open
pub record IsOpen (s : Content) (p : ProcName) (past : List Item) (m : Mailing) : Type 0 where
  pub reach : OpenedAt s.opening (store_effects (deeds past)) p m.uid m.stage
  pub held : HeldAt (state_told s.opening p m.uid past) m.stage

lock_opens : (s : Content) (p : ProcName) (past : List Item) (m : Mailing) → m.stage ≡ Lock → IsOpen s p past m
lock_opens s p past m is = record {
  reach = subst (OpenedAt s.opening (store_effects (deeds past)) p m.uid) (sym is) tt;
  held = subst (HeldAt (state_told s.opening p m.uid past)) (sym is) tt;
}

-- what reaches its bytes stays where nothing is mapped
reach_at : (opening : Start) (eff new : List StoreEffect) (p : ProcName) (u : ObjectName) → ((a : ℕ) → Reach opening eff p u a → Reach opening new p u a) → (stage : Stage) → OpenedAt opening eff p u stage → OpenedAt opening new p u stage
reach_at opening eff new p u stays (Numbers o) is_open = stays o.address is_open
reach_at opening eff new p u stays (Message o h) is_open = stays o.address is_open
reach_at opening eff new p u stays (Count o h) is_open = stays o.address is_open
reach_at opening eff new p u stays Lock is_open = tt
reach_at opening eff new p u stays Length is_open = tt
reach_at opening eff new p u stays (Map n) is_open = tt
reach_at opening eff new p u stays (Close mapped) is_open = tt

-- an act maps nothing
act_maps_not : (opening : Start) (eff : List StoreEffect) (q : ProcName) (op : Op) (reply : Reply) → MayAct opening eff q op reply → is_mapping op ≡ false
act_maps_not opening eff q (ops.Map u) reply may = absurd may
act_maps_not opening eff q (ops.Unmap u) reply may = absurd may
act_maps_not opening eff q _ reply may = refl

module _ (s : Content) (start : IsStart s.opening) (p : ProcName) (works : AreWorks (part_of s p).jobs) where
  abbrev eff_of : List Item → List StoreEffect
  eff_of past = store_effects (deeds past)

  -- an item that leaves the mappings of the process
  kept_reach : (past : List Item) (q : ProcName) (op : Op) (reply : Reply) → AreLegal s.opening [] past → mappings p (store_effect q op reply ++ eff_of past) ≡ mappings p (eff_of past)
      → (u : ObjectName) (a : ℕ) → Reach s.opening (eff_of past) p u a → Reach s.opening (store_effect q op reply ++ eff_of past) p u a
  kept_reach past q op reply legal same u a reach o below = target_stays s.opening q op reply (eff_of past) p (a + o) (all_apart s.opening past p legal) same ∙ reach o below

  -- its own entry
  module _ (e : Entry) (past : List Item) (legal : AreLegal s.opening [] (Answered e ∷ past)) (ranged : AreRanged (Answered e ∷ past)) (mine : e.proc ≡ p) (keeps : KeepsMail (part_of s p) (pos s p past))
      (asked : ask s p (heard_by s p past) ≡ Do e.op) where
    abbrev later_effects : List StoreEffect
    later_effects = store_effect e.proc e.op e.reply ++ eff_of past

    is_own : same_proc e.proc p ≡ true
    is_own = ap (λ q. same_proc q p) mine ∙ same_proc-itself p

    turned_open : (m : Mailing) (next : Mailing) (t : Turn) → mail_of s p past ≡ Some m → IsOpen s p past m → turn m e.reply ≡ t → state_of t ≡ Some next → next.uid ≡ m.uid → IsOpen s p (Answered e ∷ past) next
    turned_open m next (Comes result) was is_open is here same = absurd (cc)
    turned_open m next (Goes new) was is_open is here same =
        let op_is : e.op ≡ stage_op m.uid m.work m.stage = session_asks (part_of s p) (pos s p past) m e.op keeps was (wants_there s p (heard_by s p past) ∙ asked) in
        let still : state_told s.opening p m.uid (Answered e ∷ past) ≡ Held Write =
        state_own s.opening p m.uid e past is_own
        ∙ ap (λ op. state_after m.uid op e.reply (state_told s.opening p m.uid past)) op_is
        ∙ stays_held m.uid m.work m.stage m.decided e.reply (state_told s.opening p m.uid past) new is_open.held is in
        let stays : (a : ℕ) → is_mapping (stage_op m.uid m.work m.stage) ≡ false → Reach s.opening (eff_of past) p m.uid a → Reach s.opening later_effects p m.uid a =
        λ a none reach. kept_reach past e.proc e.op e.reply legal.1 (mappings_kept p e.proc e.op e.reply (eff_of past) (ap is_mapping op_is ∙ none)) m.uid a reach in
        let maps : (a : ℕ) (fresh : Bool) → stage_op m.uid m.work m.stage ≡ ops.Map m.uid → e.reply ≡ MappedAt a fresh → Reach s.opening later_effects p m.uid a =
        λ a fresh is_map told. subst (λ q. Reach s.opening later_effects q m.uid a) mine (map_reached s.opening start past e m.uid a fresh legal ranged (op_is ∙ is_map) told) in
        let opened = stage_opens s.opening (eff_of past) later_effects p m.uid m.work m.decided m.stage e.reply (state_told s.opening p m.uid (Answered e ∷ past)) new
        is_open.reach (λ none a reach. stays a none reach) (λ is_map a fresh told. maps a fresh is_map told) still is in
        let same_mail : new ≡ next = same_Some new next here in
        subst (IsOpen s p (Answered e ∷ past)) same_mail (record {
          reach = opened.0;
          held = subst (λ v. HeldAt (state_told s.opening p v (Answered e ∷ past)) new.stage) (sym (ap (λ (x : Mailing). x.uid) same_mail ∙ same)) opened.1;
        })

    own_open : ((m : Mailing) → mail_of s p past ≡ Some m → IsOpen s p past m) → (m : Mailing) → mail_of s p (Answered e ∷ past) ≡ Some m → IsOpen s p (Answered e ∷ past) m
    own_open before next here = by_moves (pos_next s p e past is_own asked keeps)
      where
        by_moves : Moves s p e past → IsOpen s p (Answered e ∷ past) next
        by_moves (inl begins) = lock_opens s p (Answered e ∷ past) next (begun_locks (part_of s p) (pos s p (Answered e ∷ past)) next begins here)
        by_moves (inr goes) =
            let m = goes.mail in
            let at = mail_at (part_of s p) (pos s p past) m keeps goes.was in
            let on : stood_after (Some m) (Some e.reply) ≡ Some next = sym goes.is ∙ here in
            turned_open m next (turn m e.reply) goes.was (before m goes.was) refl on (uid_stays at.work m next e.reply at.on.0 on)

  pub all_open : (past : List Item) → AreLegal s.opening [] past → AreRanged past → AreAsked s past → (m : Mailing) → mail_of s p past ≡ Some m → IsOpen s p past m
  all_open [] legal ranged asked m here = lock_opens s p [] m (begun_locks (part_of s p) (pos s p []) m (pos_start s p) here)
  all_open (Acted a ∷ past) legal ranged asked m here =
      let before = all_open past legal.1 ranged.1 asked m here in
      let none = act_maps_not s.opening (eff_of past) a.deed.proc a.deed.op a.deed.reply legal.0.may_act in
      record {
        reach = reach_at s.opening (eff_of past) (eff_of (Acted a ∷ past)) p m.uid
            (λ address reach. kept_reach past a.deed.proc a.deed.op a.deed.reply legal.1 (mappings_kept p a.deed.proc a.deed.op a.deed.reply (eff_of past) none) m.uid address reach) m.stage before.reach;
        held = before.held;
      }
  all_open (Answered e ∷ past) legal ranged asked m here = by_proc (same_proc e.proc p) refl (all_open past legal.1 ranged.1 asked.3)
    where
      by_proc : (b : Bool) → same_proc e.proc p ≡ b → ((n : Mailing) → mail_of s p past ≡ Some n → IsOpen s p past n) → IsOpen s p (Answered e ∷ past) m
      by_proc true mine earlier =
          own_open e past legal ranged (same_proc_is e.proc p mine) (keeps_all s p works past asked.3)
          (subst (λ q. ask s q (heard_by s q past) ≡ Do e.op) (same_proc_is e.proc p mine) asked.0) earlier m here
      by_proc false other earlier =
          let before = earlier m (sym (ap (session (part_of s p)) (pos_other s p e past other)) ∙ here) in
          record {
            reach = reach_at s.opening (eff_of past) (eff_of (Answered e ∷ past)) p m.uid
                (λ address reach. kept_reach past e.proc e.op e.reply legal.1 (others-mapped p e.proc e.op e.reply (eff_of past) (same_proc-sym p e.proc ∙ other)) m.uid address reach) m.stage before.reach;
            held = subst (λ t. HeldAt t m.stage) (sym (state_other s.opening p m.uid e past other)) before.held;
          }
