-- At each place of a history of a script a mailbox to which only its own commands store holds what was put and not taken.
use Rattle.std.proofs.Common.{◌≡◌, ◌<◌, ◌≤◌, ◌+◌, ◌-◌, ◌^◌, ◌∙◌, ℕ, Bool, true, false, Option, Some, None, List, [], ◌∷◌, ◌++◌, length, refl, sym, ap, subst, inl, inr, ◌⊎◌, arith}
use Rattle.std.proofs.lemmas.Bool.{false≢true}
use Rattle.std.proofs.lemmas.Option.{same_Some}
use Rattle.uid_names.specs.Names.{ProcName, ObjectName, same_proc, same_uid}
use Rattle.uid_names.specs.Openings.{Start, IsStart}
use Rattle.uid_names.specs.declared.mode.Mode.TheVariants.{Write}
use Rattle.uid_names.proofs.Orders.{same_proc-itself, same_proc_is, same_uid-itself, same_uid_is}
use Rattle.dom_history.specs.declared.deed.LockState.{LockState}
use Rattle.dom_history.specs.declared.deed.LockState.TheVariants.{Held}
use Rattle.dom_history.specs.declared.op.Entry.{Entry}
use Rattle.dom_history.specs.declared.op.Op.{Op}
use Rattle.dom_history.specs.declared.op.Op.TheVariants as ops
use Rattle.dom_history.specs.declared.op.Reply.{Reply}
use Rattle.dom_history.specs.declared.op.Reply.TheVariants.{Fine}
use Rattle.dom_history.specs.declared.op.Spot.TheVariants.{Addr}
use Rattle.dom_history.specs.declared.op.Want.TheVariants.{Do}
use Rattle.dom_history.specs.Histories.{Item, Answered, Acted, Act, IsRising, deeds}
use Rattle.dom_history.specs.Legal.{AreLegal}
use Rattle.dom_history.specs.Mappings.{target}
use Rattle.dom_history.specs.Objects.{is_named}
use Rattle.dom_history.specs.StoreEffects.{StoreEffect, store_effects}
use Rattle.script_reader.specs.Scripts.{Content}
use Rattle.aegis_shell.specs.States.{State, left, want_left, want_of}
use Rattle.aegis_shell.specs.Work.{Job, Part, part_of}
use Rattle.mail_box.specs.Boxes.{head_bytes, place_of}
use Rattle.mail_box.specs.Mails.{counted}
use Rattle.mail_box.specs.States.{stage_op}
use Rattle.mail_box.specs.Turns.{Turn, Goes, Comes, stage_turn, state_of, turn}
use Rattle.mail_box.specs.declared.mailing.Mailing.{Mailing}
use Rattle.mail_box.specs.declared.mailing.Stage.{Stage}
use Rattle.mail_box.specs.declared.mailing.Stage.TheVariants.{Lock, Length, Map, Numbers, Message, Count, Close}
use Rattle.mail_box.specs.declared.work.MailWork.{MailWork}
use Rattle.mail_box.specs.declared.work.MailWork.TheVariants.{Put, Take}
use Rattle.mail_box.proofs.Holding.{holds_nothing}
use Rattle.mail_box.proofs.Places.{place_high}
use Rattle.mail_runs.specs.Commands.{command_of}
use Rattle.mail_runs.specs.Mailboxes.{is_mail, IsQueue, OnlyMails}
use Rattle.mail_runs.specs.Texts.{object_of, puts, stored_in, stores_to, takes}
use Rattle.mail_runs.proofs.Kept.{knows_still, leaves_it, queue_stays, stage_so, HoldsQueue, Knows, LeavesIt, TurnKnows}
use Rattle.mail_runs.proofs.Locks.{holders_agree, state_told}
use Rattle.mail_runs.proofs.MailTurns.{uid_stays}
use Rattle.mail_runs.proofs.Mapped.{Reach}
use Rattle.mail_runs.proofs.Mild.{is_mild}
use Rattle.mail_runs.proofs.Opened.{all_open, begun_locks, HeldAt, IsOpen, OpenedAt}
use Rattle.mail_runs.proofs.Positions.{heard_by, keeps_all, mail_of, own_other, pos, pos_next, pos_other, pos_start, wants_there, AreAsked, Moves}
use Rattle.mail_runs.proofs.Rooms.{AreRanged}
use Rattle.mail_runs.proofs.Sessions.{at_machine, mail_at, session, session_asks, AreWorks, KeepsMail}
use Rattle.mail_runs.proofs.Told.{act_stores_not, command_here, mail_work, unstored}

-- a store is not mild
store_wild : (opening : Start) (eff : List StoreEffect) (q : ProcName) (u : ObjectName) (op : Op) (reply : Reply) → is_named (stored_in opening eff q op reply) u ≡ true → is_mild op ≡ false
store_wild opening eff q u (ops.Store spot bytes) reply on = refl
store_wild opening eff q u _ reply on = absurd (false≢true on)

-- a machine stores to its own mailbox
module _ (opening : Start) (eff : List StoreEffect) (q : ProcName) (v u : ObjectName) where
  named_by : (a o : ℕ) → Reach opening eff q v a → o < 8192 → is_named (object_of (target opening eff q (Addr (a + o)))) u ≡ true → same_uid u v ≡ true
  named_by a o reach low on = sym (ap (λ t. is_named (object_of t) u) (reach o low)) ∙ on

  first_place : (a : ℕ) → a + 0 ≡ a
  first_place a = omega arith

  count_uid : (a : ℕ) (bytes : List ℕ) (reply : Reply) → Reach opening eff q v a → is_named (stored_in opening eff q (ops.Store (Addr a) bytes) reply) u ≡ true → same_uid u v ≡ true
  count_uid a bytes Fine reach on = named_by a 0 reach (omega arith) (subst (λ x. is_named (object_of (target opening eff q (Addr x))) u ≡ true) (sym (first_place a)) on)
  count_uid a bytes reply reach on = absurd (false≢true on)

  close_uid : (mapped : Bool) (work : MailWork) (reply : Reply) → is_named (stored_in opening eff q (stage_op v work (Close mapped)) reply) u ≡ true → same_uid u v ≡ true
  close_uid true work reply on = absurd (false≢true on)
  close_uid false work reply on = absurd (false≢true on)

  store_uid : (work : MailWork) (stage : Stage) (reply : Reply) → OpenedAt opening eff q v stage → is_named (stored_in opening eff q (stage_op v work stage) reply) u ≡ true → same_uid u v ≡ true
  store_uid work Lock reply is_open on = absurd (false≢true on)
  store_uid work Length reply is_open on = absurd (false≢true on)
  store_uid work (Map n) reply is_open on = absurd (false≢true on)
  store_uid work (Numbers o) reply is_open on = absurd (false≢true on)
  store_uid work (Message o h) reply is_open on = by_work work on
    where
      by_work : (w : MailWork) → is_named (stored_in opening eff q (stage_op v w (Message o h)) reply) u ≡ true → same_uid u v ≡ true
      by_work (Put text) on = put_uid reply on
        where
          put_uid : (r : Reply) → is_named (stored_in opening eff q (stage_op v (Put text) (Message o h)) r) u ≡ true → same_uid u v ≡ true
          put_uid Fine on = named_by o.address (place_of h.put) is_open (omega (arith, place_high h.put)) on
          put_uid r on = absurd (false≢true on)
      by_work (Take text) on = absurd (false≢true on)
  store_uid work (Count o h) reply is_open on = count_uid o.address (head_bytes (counted work h)) reply is_open on
  store_uid work (Close mapped) reply is_open on = close_uid mapped work reply on

-- a machine is about to lock, or holds the lock
lock_or_held : (stage : Stage) (st : LockState) → HeldAt st stage → (stage ≡ Lock) ⊎ (st ≡ Held Write)
lock_or_held Lock st held = inl refl
lock_or_held Length st held = inr held
lock_or_held (Map n) st held = inr held
lock_or_held (Numbers o) st held = inr held
lock_or_held (Message o h) st held = inr held
lock_or_held (Count o h) st held = inr held
lock_or_held (Close mapped) st held = inr held

turn_known : (s : Content) (u : ObjectName) (past : List Item) (p : ProcName) (t : Turn) (m : Mailing) → TurnKnows s u past p t → state_of t ≡ Some m → Knows s u past p m.work m.stage
turn_known s u past p (Goes n) m known is = subst (λ (x : Mailing). Knows s u past p x.work x.stage) (same_Some n m is) known
turn_known s u past p (Comes result) m known is = absurd (cc)

-- a process that asks for an operation has a command left
pub some_left : (part : Part) (at : State) (jobs : List Job) (op : Op) → left part at ≡ jobs → want_left part at jobs ≡ Do op → (job : Job) × (rest : List Job) × (left part at ≡ job ∷ rest)
some_left part at [] op is wants = absurd (cc)
some_left part at (job ∷ rest) op is wants = (job, rest, is)

module _ (s : Content) (start : IsStart s.opening) (works : (p : ProcName) → AreWorks (part_of s p).jobs) (u : ObjectName) where
  -- each machine at the mailbox knows what is right
  abbrev pub KnowAll : List Item → Type 0
  KnowAll past = (p : ProcName) (m : Mailing) → mail_of s p past ≡ Some m → m.uid ≡ u → Knows s u past p m.work m.stage

  pub record IsRight (past : List Item) : Type 0 where
    pub queue : HoldsQueue s u past
    pub know : KnowAll past

  lock_knows : (past : List Item) (p : ProcName) (m : Mailing) → m.stage ≡ Lock → Knows s u past p m.work m.stage
  lock_knows past p m is = subst (Knows s u past p m.work) (sym is) tt

  start_right : IsRight []
  start_right = record {
    queue = record { between = []; order = refl; holds = holds_nothing s.opening [] u refl };
    know = λ p m here same. lock_knows [] p m (begun_locks (part_of s p) (pos s p []) m (pos_start s p) here);
  }

  -- an act stores nothing
  act_leaves : (past : List Item) (a : Act) → AreLegal s.opening [] (Acted a ∷ past) → LeavesIt s u past (Acted a ∷ past)
  act_leaves past a legal = record {
    same = unstored s.opening (store_effects (deeds past)) a.deed.proc u a.deed.op a.deed.reply (act_stores_not s.opening (store_effects (deeds past)) a.deed.proc u a.deed.op a.deed.reply legal.0.may_act);
    puts_same = refl;
    takes_same = refl;
  }

  acted_right : (past : List Item) (a : Act) → AreLegal s.opening [] (Acted a ∷ past) → IsRight past → IsRight (Acted a ∷ past)
  acted_right past a legal right =
      let leaves = act_leaves past a legal in
      record {
        queue = queue_stays s u past (Acted a ∷ past) leaves right.queue;
        know = λ p m here same. knows_still s u past (Acted a ∷ past) leaves p m.work m.stage refl (right.know p m here same);
      }

  module _ (past : List Item) (e : Entry) (legal : AreLegal s.opening [] (Answered e ∷ past)) (rising : IsRising (Answered e ∷ past)) (ranged : AreRanged (Answered e ∷ past)) (asked : AreAsked s (Answered e ∷ past)) (right : IsRight past) where
    abbrev items : List Item
    items = Answered e ∷ past

    abbrev q : ProcName
    q = e.proc

    mine : same_proc e.proc e.proc ≡ true
    mine = same_proc-itself e.proc

    keeps : KeepsMail (part_of s q) (pos s q past)
    keeps = keeps_all s q (works q) past asked.3

    wants : want_of (part_of s q) (pos s q past) ≡ Do e.op
    wants = wants_there s q (heard_by s q past) ∙ asked.0

    open_at : (p : ProcName) (m : Mailing) → mail_of s p past ≡ Some m → IsOpen s p past m
    open_at p m here = all_open s start p (works p) past legal.1 ranged.1 asked.3 m here

    other_same : (p : ProcName) → same_proc e.proc p ≡ false → mail_of s p items ≡ mail_of s p past
    other_same p other = ap (session (part_of s p)) (pos_other s p e past other)

    -- where it stores nothing, what others know they know still
    others_know : stores_to s.opening past e u ≡ false → (p : ProcName) (m : Mailing) → same_proc e.proc p ≡ false → mail_of s p items ≡ Some m → m.uid ≡ u → Knows s u items p m.work m.stage
    others_know off p m other here same =
        knows_still s u past items (leaves_it s u past e off) p m.work m.stage (own_other s p e past other) (right.know p m (sym (other_same p other) ∙ here) same)

    -- an entry of a machine at the mailbox
    module _ (m : Mailing) (was : mail_of s q past ≡ Some m) (on_u : m.uid ≡ u) (few : length items < 2 ^ 64 - 1) where
      op_is : e.op ≡ stage_op u m.work m.stage
      op_is = session_asks (part_of s q) (pos s q past) m e.op keeps was wants ∙ ap (λ v. stage_op v m.work m.stage) on_u

      turned : HoldsQueue s u items × TurnKnows s u items q (stage_turn u m.work m.decided m.stage e.reply)
      turned =
          let at = mail_at (part_of s q) (pos s q past) m keeps was in
          let is_open = open_at q m was in
          stage_so s u past e legal right.queue m.work m.decided m.stage at.job.command at.work (command_here s q past at.job at.jobs at.left_is) at.work_is at.on.0 at.on.1.work few op_is
          (subst (λ v. OpenedAt s.opening (store_effects (deeds past)) q v m.stage) on_u is_open.reach) (right.know q m was on_u)

      lock_off : m.stage ≡ Lock → stores_to s.opening past e u ≡ false
      lock_off is = ap (λ op. is_named (stored_in s.opening (store_effects (deeds past)) q op e.reply) u) (op_is ∙ ap (stage_op u m.work) is)

      -- no other one is beyond its lock
      other_knows : (p : ProcName) (n : Mailing) → same_proc e.proc p ≡ false → mail_of s p items ≡ Some n → n.uid ≡ u → Knows s u items p n.work n.stage
      other_knows p n other here same = by_other (lock_or_held n.stage (state_told s.opening p n.uid past) open_n.held)
        where
          before : mail_of s p past ≡ Some n
          before = sym (other_same p other) ∙ here

          open_n : IsOpen s p past n
          open_n = open_at p n before

          by_own : (m.stage ≡ Lock) ⊎ (state_told s.opening q m.uid past ≡ Held Write) → state_told s.opening p n.uid past ≡ Held Write → Knows s u items p n.work n.stage
          by_own (inl lock) held = others_know (lock_off lock) p n other here same
          by_own (inr own) held =
              let agree = holders_agree s.opening u past legal.1 rising.1 q p Write (ap (λ v. state_told s.opening q v past) (sym on_u) ∙ own) (ap (λ v. state_told s.opening p v past) (sym same) ∙ held) in
              absurd (false≢true (sym other ∙ (ap (same_proc e.proc) (sym agree) ∙ mine)))

          by_other : (n.stage ≡ Lock) ⊎ (state_told s.opening p n.uid past ≡ Held Write) → Knows s u items p n.work n.stage
          by_other (inl lock) = lock_knows items p n lock
          by_other (inr held) = by_own (lock_or_held m.stage (state_told s.opening q m.uid past) (open_at q m was).held) held

      own_knows : (n : Mailing) → mail_of s q items ≡ Some n → Knows s u items q n.work n.stage
      own_knows n here = by_moves (pos_next s q e past mine asked.0 keeps)
        where
          by_moves : Moves s q e past → Knows s u items q n.work n.stage
          by_moves (inl begins) = lock_knows items q n (begun_locks (part_of s q) (pos s q items) n begins here)
          by_moves (inr goes) =
              let same : goes.mail ≡ m = same_Some goes.mail m (sym goes.was ∙ was) in
              let next : state_of (turn m e.reply) ≡ Some n = ap (λ x. state_of (turn x e.reply)) (sym same) ∙ (sym goes.is ∙ here) in
              turn_known s u items q (stage_turn u m.work m.decided m.stage e.reply) n turned.1 (ap (λ v. state_of_at v) (sym on_u) ∙ next)
            where
              state_of_at : ObjectName → Option Mailing
              state_of_at v = state_of (stage_turn v m.work m.decided m.stage e.reply)

      machine_right : IsRight items
      machine_right = record {
        queue = turned.0;
        know = λ p n here same. by_proc p n (same_proc e.proc p) refl here same;
      }
        where
          by_proc : (p : ProcName) (n : Mailing) (b : Bool) → same_proc e.proc p ≡ b → mail_of s p items ≡ Some n → n.uid ≡ u → Knows s u items p n.work n.stage
          by_proc p n false other here same = other_knows p n other here same
          by_proc p n true own here same = subst (λ r. mail_of s r items ≡ Some n → Knows s u items r n.work n.stage) (same_proc_is e.proc p own) (λ at. own_knows n at) here

    -- one of no machine at the mailbox stores nothing to it
    module _ (apart : (m : Mailing) → mail_of s q past ≡ Some m → m.uid ≡ u → ⊥) (only : stores_to s.opening past e u ≡ true → is_mail (command_of s past e) ≡ true) where
      stores_not : stores_to s.opening past e u ≡ false
      stores_not = by_test (stores_to s.opening past e u) refl
        where
          by_test : (b : Bool) → stores_to s.opening past e u ≡ b → b ≡ false
          by_test false e_is = refl
          by_test true on =
              let job = some_left (part_of s q) (pos s q past) (left (part_of s q) (pos s q past)) e.op refl wants in
              let command = command_here s q past job.0 job.1 job.2 in
              let work = mail_work job.0.command (sym (ap is_mail command) ∙ only on) in
              let m = at_machine (part_of s q) (pos s q past) job.0 job.1 work.0 e.op job.2 work.1 keeps wants (store_wild s.opening (store_effects (deeds past)) q u e.op e.reply on) in
              let asks = session_asks (part_of s q) (pos s q past) m.0 e.op keeps m.1 wants in
              let at_it : is_named (stored_in s.opening (store_effects (deeds past)) q (stage_op m.0.uid m.0.work m.0.stage) e.reply) u ≡ true =
              subst (λ op. is_named (stored_in s.opening (store_effects (deeds past)) q op e.reply) u ≡ true) asks on in
              let same = store_uid s.opening (store_effects (deeds past)) q m.0.uid u m.0.work m.0.stage e.reply (open_at q m.0 m.1).reach at_it in
              absurd (apart m.0 m.1 (sym (same_uid_is u m.0.uid same)))

      apart_right : IsRight items
      apart_right = record {
        queue = queue_stays s u past items (leaves_it s u past e stores_not) right.queue;
        know = λ p n here same. by_proc p n (same_proc e.proc p) refl here same;
      }
        where
          own_knows_so : (n : Mailing) → mail_of s q items ≡ Some n → n.uid ≡ u → Knows s u items q n.work n.stage
          own_knows_so n here same = by_moves (pos_next s q e past mine asked.0 keeps)
            where
              by_moves : Moves s q e past → Knows s u items q n.work n.stage
              by_moves (inl begins) = lock_knows items q n (begun_locks (part_of s q) (pos s q items) n begins here)
              by_moves (inr goes) =
                  let at = mail_at (part_of s q) (pos s q past) goes.mail keeps goes.was in
                  let stays = uid_stays at.work goes.mail n e.reply at.on.0 (sym goes.is ∙ here) in
                  absurd (apart goes.mail goes.was (sym stays ∙ same))

          by_proc : (p : ProcName) (n : Mailing) (b : Bool) → same_proc e.proc p ≡ b → mail_of s p items ≡ Some n → n.uid ≡ u → Knows s u items p n.work n.stage
          by_proc p n false other here same = others_know stores_not p n other here same
          by_proc p n true own here same = subst (λ r. mail_of s r items ≡ Some n → Knows s u items r n.work n.stage) (same_proc_is e.proc p own) (λ at. own_knows_so n at same) here

    entry_right : length items < 2 ^ 64 - 1 → (stores_to s.opening past e u ≡ true → is_mail (command_of s past e) ≡ true) → IsRight items
    entry_right few only = by_mail (mail_of s q past) refl
      where
        by_uid : (m : Mailing) (b : Bool) → mail_of s q past ≡ Some m → same_uid m.uid u ≡ b → IsRight items
        by_uid m true was same = machine_right m was (same_uid_is m.uid u same) few
        by_uid m false was other =
            apart_right
            (λ n here same.
            let alike : n ≡ m = same_Some n m (sym here ∙ was) in
            other_not m other (ap (λ (x : Mailing). x.uid) (sym alike) ∙ same)) only
          where
            other_not : (x : Mailing) → same_uid x.uid u ≡ false → x.uid ≡ u → ⊥
            other_not x off on = false≢true (sym off ∙ (ap (λ v. same_uid v u) on ∙ same_uid-itself u))

        by_mail : (o : Option Mailing) → mail_of s q past ≡ o → IsRight items
        by_mail None none = apart_right (λ m here same. none_not m (sym none ∙ here)) only
          where
            none_not : (m : Mailing) → None ≡ Some m → ⊥
            none_not m e = cc
        by_mail (Some m) was = by_uid m (same_uid m.uid u) was refl

  -- so it is at each place
  pub all_right : (past : List Item) → AreLegal s.opening [] past → IsRising past → AreRanged past → AreAsked s past → length past < 2 ^ 64 - 1 → OnlyMails s u past → IsRight past
  all_right [] legal rising ranged asked few only = start_right
  all_right (Acted a ∷ past) legal rising ranged asked few only =
      acted_right past a legal (all_right past legal.1 rising.1 ranged.1 asked (omega (arith, few)) only)
  all_right (Answered e ∷ past) legal rising ranged asked few only =
      entry_right past e legal rising ranged asked (all_right past legal.1 rising.1 ranged.1 asked.3 (omega (arith, few)) only.1) few only.0

  pub queue_of : (past : List Item) → IsRight past → IsQueue (puts s u past) (takes s u past)
  queue_of past right = record { between = right.queue.between; order = right.queue.order; few = right.queue.holds.few }
