-- How the commands on a mailbox are answered.
use Rattle.std.proofs.Common.{◌≡◌, ◌<◌, ◌≤◌, ◌+◌, ◌-◌, ◌^◌, ◌∙◌, ℕ, Bool, true, false, ◌||◌, Some, List, [], ◌∷◌, ◌++◌, length, append_assoc, refl, sym, ap, subst, inl, inr, ◌⊎◌, arith}
use Rattle.std.specs.Prelude.{◌==◌, ◌↔◌, codes}
use Rattle.std.specs.List.{slice_get}
use Rattle.std.proofs.lemmas.Bool.{false≢true}
use Rattle.std.proofs.lemmas.Bool.Decides.{nat_tests}
use Rattle.std.proofs.lemmas.Option.{same_Some}
use Rattle.uid_names.specs.Names.{IsName, ObjectName, ProcName, same_proc}
use Rattle.uid_names.specs.Openings.{IsStart}
use Rattle.uid_names.specs.declared.mode.Mode.TheVariants.{Write}
use Rattle.uid_names.proofs.Orders.{same_proc-itself, same_proc_is}
use Rattle.dom_history.specs.declared.op.Entry.{Entry}
use Rattle.dom_history.specs.declared.op.Op.{Op}
use Rattle.dom_history.specs.declared.op.Op.TheVariants as ops
use Rattle.dom_history.specs.declared.op.Reply.{Reply}
use Rattle.dom_history.specs.declared.op.Reply.TheVariants as replies
use Rattle.dom_history.specs.declared.op.Spot.TheVariants.{Addr}
use Rattle.dom_history.specs.declared.op.Want.TheVariants.{Do, Done}
use Rattle.dom_history.specs.Histories.{History, Item, Answered, Acted, IsRising, before_op, deeds}
use Rattle.dom_history.specs.Legal.{AreLegal, IsAllowed}
use Rattle.dom_history.specs.Mappings.{target}
use Rattle.dom_history.specs.Ranges.{IsOp}
use Rattle.dom_history.specs.StoreEffects.{store_effects}
use Rattle.script_reader.specs.declared.command.Command.{Command}
use Rattle.script_reader.specs.declared.command.Command.TheVariants.{Putm, Takem}
use Rattle.script_reader.specs.Scripts.{Content}
use Rattle.command_talks.specs.Mailed.{bad_mailbox, mailbox_empty, mailbox_full}
use Rattle.aegis_shell.specs.AnswerTexts.{answer_text}
use Rattle.aegis_shell.specs.Asking.{ask}
use Rattle.aegis_shell.specs.States.{left, want_of}
use Rattle.aegis_shell.specs.Work.{part_of}
use Rattle.script_runs.specs.Answers.{command_behind}
use Rattle.mail_box.specs.Boxes.{extent_of, first_head, head_of, is_bad_head, is_empty, is_full}
use Rattle.mail_box.specs.Contents.{numbers_by}
use Rattle.mail_box.specs.Mails.{judged, judged_if, numbers_load, opened_at, refused_if}
use Rattle.mail_box.specs.States.{message_op, stage_op}
use Rattle.mail_box.specs.Turns.{Turn, Goes, Comes, known_if, reached, stage_turn, turn}
use Rattle.mail_box.specs.declared.boxes.Head.{Head}
use Rattle.mail_box.specs.declared.mailing.Mailing.{Mailing}
use Rattle.mail_box.specs.declared.mailing.Opened.{Opened}
use Rattle.mail_box.specs.declared.mailing.Stage.{Stage}
use Rattle.mail_box.specs.declared.mailing.Stage.TheVariants.{Lock, Length, Map, Numbers, Message, Count, Close}
use Rattle.mail_box.specs.declared.step.MailResult.{MailResult}
use Rattle.mail_box.specs.declared.step.MailResult.TheVariants as mail_results
use Rattle.mail_box.specs.declared.work.MailWork.{MailWork}
use Rattle.mail_box.specs.declared.work.MailWork.TheVariants.{Put, Take}
use Rattle.mail_box.proofs.Bad.{bad_numbers}
use Rattle.mail_runs.specs.Commands.{answer_at, command_at, number_behind, own_in}
use Rattle.mail_runs.specs.Mailboxes.{is_mail, IsPlaced, loads_numbers, FindsNothing, HasEntry, IsAnsweredRight, IsMeasuredEmpty, IsOn, IsOpenedBy, LoadsWith, OnlyMails}
use Rattle.mail_runs.specs.Texts.{puts, takes}
use Rattle.mail_runs.proofs.Decided.{good_head, hist, means_more, other_so, stage_so, verdict_stays, HasVerdict, IsClosing, IsSo, IsVerdict, Means, MeasuredAs, MeasuredAt, OpenedFor, TurnSo, VerdictAt, VerdictTurn}
use Rattle.mail_runs.proofs.Followed.{answered_behind, answers_stay, done_answers, follow, mail_there, new_named, AreKept, IsGoing, Stands, TurnIs}
use Rattle.mail_runs.proofs.Given.{all_ranged, few_behind, legal_behind, only_behind, rising_behind}
use Rattle.mail_runs.proofs.Kept.{head_at, HoldsQueue, Knows}
use Rattle.mail_runs.proofs.Mild.{is_mild}
use Rattle.mail_runs.proofs.Opened.{all_open, IsOpen, OpenedAt}
use Rattle.mail_runs.proofs.Positions.{answers_there, heard_by, keeps_all, mail_of, own_next, pos, wants_there, AreAsked}
use Rattle.mail_runs.proofs.Queue.{all_right, some_left, IsRight}
use Rattle.mail_runs.proofs.Rooms.{AreRanged}
use Rattle.mail_runs.proofs.Sessions.{at_machine, mail_at, session_asks, work_of, AreWorks, KeepsMail}
use Rattle.mail_runs.proofs.Talks.{IsSameWork}
use Rattle.mail_runs.proofs.Steps.{mail_text}
use Rattle.mail_runs.proofs.Told.{command_here, load_told, mail_work}

-- no other text begins like those of a mailbox that is full, empty or bad
abbrev starts_so : List ℕ → Bool
starts_so [] = false
starts_so (b ∷ text) = (b == 109) || (b == 98)

reply_starts : (names : List (List ℕ)) (reply : Reply) → starts_so (answer_text names reply) ≡ false
reply_starts names (replies.Made u) = refl
reply_starts names replies.Fine = refl
reply_starts names (replies.Bytes bytes) = refl
reply_starts names (replies.Size n) = refl
reply_starts names (replies.At address fresh) = refl
reply_starts names (replies.Locks rows more) = refl
reply_starts names (replies.Conflict p m) = refl
reply_starts names replies.NoObject = refl
reply_starts names replies.AlreadyHeld = refl
reply_starts names replies.NotHeld = refl
reply_starts names replies.Unsettled = refl
reply_starts names replies.TooMany = refl
reply_starts names replies.NoLock = refl
reply_starts names replies.WrongMode = refl
reply_starts names replies.PastRoom = refl
reply_starts names replies.PastEnd = refl
reply_starts names replies.NoSpace = refl
reply_starts names replies.Kept = refl
reply_starts names replies.Doubt = refl
reply_starts names replies.LinkFault = refl
reply_starts names replies.TooManyMaps = refl
reply_starts names replies.NoSegment = refl
reply_starts names replies.NotMapped = refl

not_so : (text other : List ℕ) → starts_so text ≡ false → starts_so other ≡ true → text ≡ other → ⊥
not_so text other off on e = false≢true (sym off ∙ (ap starts_so e ∙ on))

text_bad : (names : List (List ℕ)) (result : MailResult) → mail_text names result ≡ bad_mailbox → result ≡ mail_results.BadMail
text_bad names mail_results.BadMail e = refl
text_bad names mail_results.Put e = absurd (not_so (codes "ok") bad_mailbox refl refl e)
text_bad names (mail_results.Taken text) e = absurd (not_so (mail_text names (mail_results.Taken text)) bad_mailbox refl refl e)
text_bad names mail_results.Full e = absurd (second_differs e)
  where
    second_differs : mailbox_full ≡ bad_mailbox → ⊥
    second_differs e = cc
text_bad names mail_results.Empty e = absurd (second_differs e)
  where
    second_differs : mailbox_empty ≡ bad_mailbox → ⊥
    second_differs e = cc
text_bad names (mail_results.Store reply) e = absurd (not_so (answer_text names reply) bad_mailbox (reply_starts names reply) refl e)

text_full : (names : List (List ℕ)) (result : MailResult) → mail_text names result ≡ mailbox_full → result ≡ mail_results.Full
text_full names mail_results.Full e = refl
text_full names mail_results.Put e = absurd (not_so (codes "ok") mailbox_full refl refl e)
text_full names (mail_results.Taken text) e = absurd (not_so (mail_text names (mail_results.Taken text)) mailbox_full refl refl e)
text_full names mail_results.Empty e = absurd (differs e)
  where
    differs : mailbox_empty ≡ mailbox_full → ⊥
    differs e = cc
text_full names mail_results.BadMail e = absurd (differs e)
  where
    differs : bad_mailbox ≡ mailbox_full → ⊥
    differs e = cc
text_full names (mail_results.Store reply) e = absurd (not_so (answer_text names reply) mailbox_full (reply_starts names reply) refl e)

text_empty : (names : List (List ℕ)) (result : MailResult) → mail_text names result ≡ mailbox_empty → result ≡ mail_results.Empty
text_empty names mail_results.Empty e = refl
text_empty names mail_results.Put e = absurd (not_so (codes "ok") mailbox_empty refl refl e)
text_empty names (mail_results.Taken text) e = absurd (not_so (mail_text names (mail_results.Taken text)) mailbox_empty refl refl e)
text_empty names mail_results.Full e = absurd (differs e)
  where
    differs : mailbox_full ≡ mailbox_empty → ⊥
    differs e = cc
text_empty names mail_results.BadMail e = absurd (differs e)
  where
    differs : bad_mailbox ≡ mailbox_empty → ⊥
    differs e = cc
text_empty names (mail_results.Store reply) e = absurd (not_so (answer_text names reply) mailbox_empty (reply_starts names reply) refl e)

-- a machine that asks for the lock is about to lock
message_not_lock : (u : ObjectName) (work : MailWork) (o : Opened) (h : Head) → message_op work o h ≡ ops.Lock u Write → ⊥
message_not_lock u (Put text) o h e = cc
message_not_lock u (Take text) o h e = cc

close_not_lock : (u v : ObjectName) (work : MailWork) (mapped : Bool) → stage_op v work (Close mapped) ≡ ops.Lock u Write → ⊥
close_not_lock u v work true e = cc
close_not_lock u v work false e = cc

lock_stage : (u v : ObjectName) (work : MailWork) (stage : Stage) → stage_op v work stage ≡ ops.Lock u Write → (stage ≡ Lock) × (v ≡ u)
lock_stage u v work Lock e = (refl, cc)
lock_stage u v work Length e = absurd (cc)
lock_stage u v work (Map n) e = absurd (cc)
lock_stage u v work (Numbers o) e = absurd (cc)
lock_stage u v work (Message o h) e = absurd (message_not_lock u work o h e)
lock_stage u v work (Count o h) e = absurd (cc)
lock_stage u v work (Close mapped) e = absurd (close_not_lock u v work mapped e)

-- one that loads 16 bytes reads the numbers
load_message : (o : Opened) (h : Head) (work : MailWork) (reply : Reply) → loads_numbers (message_op work o h) reply ≡ true → ⊥
load_message o h (Put text) reply on = false≢true on
load_message o h (Take text) (replies.Bytes bytes) on = false≢true on
load_message o h (Take text) reply on = false≢true on

load_close : (v : ObjectName) (work : MailWork) (mapped : Bool) (reply : Reply) → loads_numbers (stage_op v work (Close mapped)) reply ≡ true → ⊥
load_close v work true reply on = false≢true on
load_close v work false reply on = false≢true on

loads_stage : (v : ObjectName) (work : MailWork) (stage : Stage) (reply : Reply) → loads_numbers (stage_op v work stage) reply ≡ true → (o : Opened) × (stage ≡ Numbers o)
loads_stage v work (Numbers o) reply on = (o, refl)
loads_stage v work Lock reply on = absurd (false≢true on)
loads_stage v work Length reply on = absurd (false≢true on)
loads_stage v work (Map n) reply on = absurd (false≢true on)
loads_stage v work (Message o h) reply on = absurd (load_message o h work reply on)
loads_stage v work (Count o h) reply on = absurd (false≢true on)
loads_stage v work (Close mapped) reply on = absurd (load_close v work mapped reply on)

bytes_of : (op : Op) (reply : Reply) → loads_numbers op reply ≡ true → (loaded : List ℕ) × (reply ≡ replies.Bytes loaded)
bytes_of (ops.Load spot n) (replies.Bytes loaded) on = (loaded, refl)
bytes_of _ _ on = absurd (false≢true on)

-- one that maps is about to map
map_message : (v w : ObjectName) (work : MailWork) (o : Opened) (h : Head) (reply : Reply) → IsPlaced (message_op work o h) reply w → ⊥
map_message v w (Put text) o h reply on = on
map_message v w (Take text) o h reply on = on

map_close : (v w : ObjectName) (work : MailWork) (mapped : Bool) (reply : Reply) → IsPlaced (stage_op v work (Close mapped)) reply w → ⊥
map_close v w work true reply on = on
map_close v w work false reply on = on

maps_stage : (v w : ObjectName) (work : MailWork) (stage : Stage) (reply : Reply) → IsPlaced (stage_op v work stage) reply w → (n : ℕ) × (stage ≡ Map n)
maps_stage v w work (Map n) reply on = (n, refl)
maps_stage v w work Lock reply on = absurd on
maps_stage v w work Length reply on = absurd on
maps_stage v w work (Numbers o) reply on = absurd on
maps_stage v w work (Message o h) reply on = absurd (map_message v w work o h reply on)
maps_stage v w work (Count o h) reply on = absurd on
maps_stage v w work (Close mapped) reply on = absurd (map_close v w work mapped reply on)

place_told : (op : Op) (reply : Reply) (w : ObjectName) → IsPlaced op reply w → (a : ℕ) × (fresh : Bool) × (reply ≡ replies.At a fresh)
place_told (ops.Map v) (replies.At a fresh) w on = (a, fresh, refl)
place_told _ _ w on = absurd on

-- an entry of a process stands among the items
abbrev IsSplit : ProcName → List Item → List Entry → Entry → Type 0
IsSplit p items older e = (later : List Item) × (past : List Item) × (items ≡ later ++ Answered e ∷ past) × (own_in past p ≡ older) × (same_proc e.proc p ≡ true)

split_own : (p : ProcName) (items : List Item) (newer older : List Entry) (e : Entry) → own_in items p ≡ newer ++ e ∷ older → IsSplit p items older e
split_own p [] newer older e is = absurd (none_there newer is)
  where
    none_there : (xs : List Entry) → [] ≡ xs ++ e ∷ older → ⊥
    none_there [] x = cc
    none_there (y ∷ xs) x = cc
split_own p (Acted a ∷ items) newer older e is =
    let there = split_own p items newer older e is in
    (Acted a ∷ there.0, there.1, ap (λ xs. Acted a ∷ xs) there.2, there.3, there.4)
split_own p (Answered f ∷ items) newer older e is = by_proc (same_proc f.proc p) refl (λ xs rest. split_own p items xs older e rest)
  where
    further : IsSplit p items older e → IsSplit p (Answered f ∷ items) older e
    further there = (Answered f ∷ there.0, there.1, ap (λ zs. Answered f ∷ zs) there.2, there.3, there.4)

    by_newer : (xs : List Entry) → f ∷ own_in items p ≡ xs ++ e ∷ older → same_proc f.proc p ≡ true → ((ys : List Entry) → own_in items p ≡ ys ++ e ∷ older → IsSplit p items older e) → IsSplit p (Answered f ∷ items) older e
    by_newer [] same mine before =
        let first : f ≡ e = cc in
        let rest : own_in items p ≡ older = cc in
        ([], items, ap (λ x. Answered x ∷ items) first, rest, subst (λ (x : Entry). same_proc x.proc p ≡ true) first mine)
    by_newer (y ∷ xs) same mine before =
        let rest : own_in items p ≡ xs ++ e ∷ older = cc in
        further (before xs rest)

    by_proc : (b : Bool) → same_proc f.proc p ≡ b → ((ys : List Entry) → own_in items p ≡ ys ++ e ∷ older → IsSplit p items older e) → IsSplit p (Answered f ∷ items) older e
    by_proc true mine before = by_newer newer (rw mine at is) mine before
    by_proc false other before = further (before newer (rw other at is))

-- the numbers that a full mailbox has, and an empty one, decide so
full_judged : (text : List ℕ) (put taken : ℕ) → put < 2 ^ 64 - 1 → put ≡ taken + 56 → judged (Put text) (record { put = put; taken = taken }) ≡ Some mail_results.Full
full_judged text put taken room count =
    let h : Head = record { put = put; taken = taken } in
    let good : is_bad_head h ≡ false = (bad_numbers h).1 (good_head put taken 56 count (omega arith) room) in
    let full : is_full h ≡ true = grind (arith, nat_tests, count) in
    ap (λ b. judged_if b (refused_if (is_full h) mail_results.Full)) good ∙ ap (λ b. refused_if b mail_results.Full) full

empty_judged : (text : List ℕ) (put taken : ℕ) → put < 2 ^ 64 - 1 → put ≡ taken + 0 → judged (Take text) (record { put = put; taken = taken }) ≡ Some mail_results.Empty
empty_judged text put taken room count =
    let h : Head = record { put = put; taken = taken } in
    let good : is_bad_head h ≡ false = (bad_numbers h).1 (good_head put taken 0 count (omega arith) room) in
    let empty : is_empty h ≡ true = grind (arith, nat_tests, count) in
    ap (λ b. judged_if b (refused_if (is_empty h) mail_results.Empty)) good ∙ ap (λ b. refused_if b mail_results.Empty) empty

one_on : (xs : List Item) (x : Item) (ys : List Item) → xs ++ x ∷ ys ≡ (xs ++ x ∷ []) ++ ys
one_on xs x ys = sym (append_assoc xs (x ∷ []) ys)

-- work of a command
work_puts : (command : Command) (w work : MailWork) (path text : List ℕ) → command ≡ Putm path text → work_of command ≡ Some w → IsSameWork w work → (t : List ℕ) × (work ≡ Put t)
work_puts command w (Put t) path text is works same = (t, refl)
work_puts command w (Take t) path text is works same =
    absurd (not_take w (same_Some (Put text) w (sym (ap work_of is) ∙ works)) same)
  where
    not_take : (v : MailWork) → Put text ≡ v → IsSameWork v (Take t) → ⊥
    not_take (Put other) e same = same
    not_take (Take other) e same = cc

work_takes : (command : Command) (w work : MailWork) (path : List ℕ) → command ≡ Takem path → work_of command ≡ Some w → IsSameWork w work → (t : List ℕ) × (work ≡ Take t)
work_takes command w (Take t) path is works same = (t, refl)
work_takes command w (Put t) path is works same =
    absurd (not_put w (same_Some (Take []) w (sym (ap work_of is) ∙ works)) same)
  where
    not_put : (v : MailWork) → Take [] ≡ v → IsSameWork v (Put t) → ⊥
    not_put (Take other) e same = same
    not_put (Put other) e same = cc

module _ (s : Content) (start : IsStart s.opening) (works : (p : ProcName) → AreWorks (part_of s p).jobs) (all : List Item) (legal : AreLegal s.opening [] all) (rising : IsRising all) (asked : AreAsked s all) (few : length all < 2 ^ 64 - 1)
    (done : (p : ProcName) → ask s p (heard_by s p all) ≡ Done) (u : ObjectName) (only : OnlyMails s u all) where
  -- what is known of each part that stands behind
  abbrev Behind : List Item → Type 0
  Behind items = (newer : List Item) × (all ≡ newer ++ items)

  legal_at : (items : List Item) → Behind items → AreLegal s.opening [] items
  legal_at items behind = legal_behind s behind.0 items (subst (AreLegal s.opening []) behind.1 legal)

  rising_at : (items : List Item) → Behind items → IsRising items
  rising_at items behind = rising_behind behind.0 items (subst IsRising behind.1 rising)

  asked_behind : (newer items : List Item) → AreAsked s (newer ++ items) → AreAsked s items
  asked_behind [] items asked = asked
  asked_behind (Answered e ∷ newer) items asked = asked_behind newer items asked.3
  asked_behind (Acted a ∷ newer) items asked = asked_behind newer items asked

  asked_at : (items : List Item) → Behind items → AreAsked s items
  asked_at items behind = asked_behind behind.0 items (subst (AreAsked s) behind.1 asked)

  ranged_at : (items : List Item) → Behind items → AreRanged items
  ranged_at items behind = all_ranged s items (legal_at items behind) (asked_at items behind)

  few_at : (items : List Item) → Behind items → length items < 2 ^ 64 - 1
  few_at items behind = few_behind behind.0 items (2 ^ 64 - 1) (subst (λ xs. length xs < 2 ^ 64 - 1) behind.1 few)

  right_at : (items : List Item) → Behind items → IsRight s start works u items
  right_at items behind =
      all_right s start works u items (legal_at items behind) (rising_at items behind) (ranged_at items behind) (asked_at items behind) (few_at items behind)
      (only_behind s u behind.0 items (subst (OnlyMails s u) behind.1 only))

  tail_behind : (i : Item) (past : List Item) → Behind (i ∷ past) → Behind past
  tail_behind i past behind = (behind.0 ++ i ∷ [], behind.1 ∙ one_on behind.0 i past)

  module _ (p : ProcName) (number : ℕ) where
    -- where its machine is open, and what it knows
    open_at : (past : List Item) (m : Mailing) → Behind past → mail_of s p past ≡ Some m → IsOpen s p past m
    open_at past m behind here = all_open s start p (works p) past (legal_at past behind) (ranged_at past behind) (asked_at past behind) m here

    keeps_at : (past : List Item) → Behind past → KeepsMail (part_of s p) (pos s p past)
    keeps_at past behind = keeps_all s p (works p) past (asked_at past behind)

    wants_at : (e : Entry) (past : List Item) → e.proc ≡ p → Behind (Answered e ∷ past) → want_of (part_of s p) (pos s p past) ≡ Do e.op
    wants_at e past mine behind = wants_there s p (heard_by s p past) ∙ subst (λ q. ask s q (heard_by s q past) ≡ Do e.op) mine (asked_at (Answered e ∷ past) behind).0

    op_at : (e : Entry) (past : List Item) (m : Mailing) → e.proc ≡ p → Behind (Answered e ∷ past) → mail_of s p past ≡ Some m → m.uid ≡ u → e.op ≡ stage_op u m.work m.stage
    op_at e past m mine behind here on_u =
        session_asks (part_of s p) (pos s p past) m e.op (keeps_at past (tail_behind (Answered e) past behind)) here (wants_at e past mine behind) ∙ ap (λ v. stage_op v m.work m.stage) on_u

    number_at : (past : List Item) → length (pos s p past).answers + 1 ≡ number → number_behind s past p ≡ number
    number_at past is = ap (λ xs. length xs + 1) (sym (answers_there s p (heard_by s p past))) ∙ is

    allowed_at : (e : Entry) (past : List Item) → e.proc ≡ p → Behind (Answered e ∷ past) → IsAllowed (before_op s.opening past p) p e.op e.reply
    allowed_at e past mine behind = subst (λ q. IsAllowed (before_op s.opening past q) q e.op e.reply) mine (legal_at (Answered e ∷ past) behind).0

    reach_at : (past : List Item) (m : Mailing) → Behind past → mail_of s p past ≡ Some m → m.uid ≡ u → OpenedAt s.opening (store_effects (deeds past)) p u m.stage
    reach_at past m behind here on_u = subst (λ v. OpenedAt s.opening (store_effects (deeds past)) p v m.stage) on_u (open_at past m behind here).reach

    -- what is kept of a machine at the mailbox
    so_turns : (items : List Item) (t : Turn) → TurnSo s u p number items t → TurnIs s p (works p) all number (IsSo s u p number) (Means s u p number) items t
    so_turns items (Goes m) so = so
    so_turns items (Comes result) so = so

    kept_so : AreKept s p (works p) all number (IsSo s u p number) (Means s u p number)
    kept_so = record {
      mail_other = λ i past m other so. other_so s u p number i past m other so;
      result_more = λ i past result means. means_more s u p number i past result means;
      mail_own = own_so;
    }
      where
        own_so : (e : Entry) (past : List Item) (m : Mailing) → same_proc e.proc p ≡ true → Behind (Answered e ∷ past) → mail_of s p past ≡ Some m → length (pos s p past).answers + 1 ≡ number → IsSo s u p number past m
            → TurnIs s p (works p) all number (IsSo s u p number) (Means s u p number) (Answered e ∷ past) (turn m e.reply)
        own_so e past m mine behind here number_is so =
            let proc = same_proc_is e.proc p mine in
            let before = tail_behind (Answered e) past behind in
            let right = right_at past before in
            so_turns (Answered e ∷ past) (turn m e.reply)
            (subst (λ v. TurnSo s u p number (Answered e ∷ past) (stage_turn v m.work m.decided m.stage e.reply)) (sym so.uid)
            (stage_so s u p number e past proc (own_next s p e past mine) (allowed_at e past proc behind) right.queue (number_at past number_is) m.work m.decided m.stage
            (op_at e past m proc behind here so.uid) so.verdict so.opened so.measured (reach_at past m before here so.uid) (right.know p m here so.uid)))

    -- and of a verdict
    verdict_turns : (verdict : MailResult) (items : List Item) (t : Turn) → VerdictTurn verdict t → TurnIs s p (works p) all number (HasVerdict verdict) (IsVerdict verdict) items t
    verdict_turns verdict items (Goes m) has = has
    verdict_turns verdict items (Comes result) has = has

    kept_verdict : (verdict : MailResult) → AreKept s p (works p) all number (HasVerdict verdict) (IsVerdict verdict)
    kept_verdict verdict = record {
      mail_other = λ i past m other has. has;
      result_more = λ i past result is. is;
      mail_own = λ e past m mine behind here number_is has.
          verdict_turns verdict (Answered e ∷ past) (turn m e.reply) (verdict_stays verdict m.uid m.work m.decided m.stage e.reply has.0 has.1);
    }

    -- the command that locked it, or was about to
    lock_going : (e : Entry) (past : List Item) → e.proc ≡ p → Behind (Answered e ∷ past) → number_behind s past p ≡ number → e.op ≡ ops.Lock u Write → is_mail (command_at s p number) ≡ true → IsGoing s p (works p) all number (IsSo s u p number) (Means s u p number) past
    lock_going e past mine behind number_is asked_lock mail =
        let before = tail_behind (Answered e) past behind in
        let keeps = keeps_at past before in
        let wants = wants_at e past mine behind in
        let job = some_left (part_of s p) (pos s p past) (left (part_of s p) (pos s p past)) e.op refl wants in
        let command : command_at s p number ≡ Some job.0.command = ap (command_at s p) (sym number_is) ∙ command_here s p past job.0 job.1 job.2 in
        let work = mail_work job.0.command (sym (ap is_mail command) ∙ mail) in
        let wild : is_mild e.op ≡ false = ap is_mild asked_lock in
        let m = at_machine (part_of s p) (pos s p past) job.0 job.1 work.0 e.op job.2 work.1 keeps wants wild in
        let stage = lock_stage u m.0.uid m.0.work m.0.stage (sym (session_asks (part_of s p) (pos s p past) m.0 e.op keeps m.1 wants) ∙ asked_lock) in
        let range : IsName u = subst IsOp asked_lock (asked_at (Answered e ∷ past) behind).2 in
        record {
          mail = m.0;
          here = m.1;
          number_is = ap (λ xs. length xs + 1) (answers_there s p (heard_by s p past)) ∙ number_is;
          named = subst IsName (sym stage.1) range;
          holds = locks_so past m.0 stage.0 stage.1;
        }
      where
        locks_so : (past : List Item) (m : Mailing) → m.stage ≡ Lock → m.uid ≡ u → IsSo s u p number past m
        locks_so past m is uid = record {
          uid = uid;
          verdict = subst (VerdictAt s u p number past m.decided) (sym is) tt;
          opened = subst (OpenedFor s u p number (own_in past p)) (sym is) tt;
          measured = subst (MeasuredAt s u p number (own_in past p)) (sym is) tt;
        }

    -- comes to its answer
    abbrev HasAnswer : MailResult → Type 0
    HasAnswer result = slice_get (pos s p all).answers (number - 1) ≡ Some (mail_text (part_of s p).names result)

    answer_is : (e : Entry) (past : List Item) → e.proc ≡ p → Behind (Answered e ∷ past) → number_behind s past p ≡ number → e.op ≡ ops.Lock u Write → is_mail (command_at s p number) ≡ true → (result : MailResult) × HasAnswer result × Means s u p number all result
    answer_is e past mine behind number_is asked_lock mail =
        let going = lock_going e past mine behind number_is asked_lock mail in
        let before = tail_behind (Answered e) past behind in
        let there = follow s p (works p) all number (IsSo s u p number) (Means s u p number) kept_so before.0 past (subst (AreAsked s) before.1 asked) ([], before.1) (inl going) in
        let end : Stands s p (works p) all number (IsSo s u p number) (Means s u p number) all = subst (Stands s p (works p) all number (IsSo s u p number) (Means s u p number)) (sym before.1) there in
        let answered = done_answers s p (works p) all number (IsSo s u p number) (Means s u p number) all asked (done p) end in
        (answered.result, answered.text, answered.holds)

    -- an entry of the command behind its lock is one of its machine
    going_at : (e : Entry) (past : List Item) → e.proc ≡ p → Behind (Answered e ∷ past) → number_behind s past p ≡ number → IsOpenedBy s u p number (own_in past p) → is_mail (command_at s p number) ≡ true
        → IsGoing s p (works p) all number (IsSo s u p number) (Means s u p number) past
    going_at e past mine behind number_is opened mail =
        let split = split_own p past opened.newer opened.older opened.lock opened.stands in
        let before = tail_behind (Answered e) past behind in
        let lock_behind : Behind (Answered opened.lock ∷ split.1) = (before.0 ++ split.0, before.1 ∙ (ap (λ xs. before.0 ++ xs) split.2 ∙ sym (append_assoc before.0 split.0 (Answered opened.lock ∷ split.1)))) in
        let number_there : number_behind s split.1 p ≡ number = ap (λ own. command_behind s p own) split.3 ∙ opened.number_is in
        let proc = same_proc_is opened.lock.proc p split.4 in
        let going = lock_going opened.lock split.1 proc lock_behind number_there opened.asked mail in
        let path : past ≡ (split.0 ++ Answered opened.lock ∷ []) ++ split.1 = split.2 ∙ one_on split.0 (Answered opened.lock) split.1 in
        let there = follow s p (works p) all number (IsSo s u p number) (Means s u p number) kept_so (split.0 ++ Answered opened.lock ∷ []) split.1 (subst (AreAsked s) path (asked_at past before))
        (before.0, before.1 ∙ ap (λ xs. before.0 ++ xs) path) (inl going) in
        still_going (subst (Stands s p (works p) all number (IsSo s u p number) (Means s u p number)) (sym path) there)
      where
        still_going : Stands s p (works p) all number (IsSo s u p number) (Means s u p number) past → IsGoing s p (works p) all number (IsSo s u p number) (Means s u p number) past
        still_going (inl going) = going
        still_going (inr answered) =
            absurd (answered_behind s p (works p) all number (IsSo s u p number) (Means s u p number) past answered (ap (λ xs. length xs + 1) (answers_there s p (heard_by s p past)) ∙ number_is))

    -- a verdict is the answer
    verdict_answers : (e : Entry) (past : List Item) (verdict : MailResult) → e.proc ≡ p → (behind : Behind (Answered e ∷ past)) → (going : IsGoing s p (works p) all number (IsSo s u p number) (Means s u p number) past) → (new : Mailing) → turn going.mail e.reply ≡ Goes new
        → new.decided ≡ Some verdict → IsClosing new.stage → HasAnswer verdict
    verdict_answers e past verdict mine behind going new goes decided closing =
        let own : same_proc e.proc p ≡ true = ap (λ q. same_proc q p) mine ∙ same_proc-itself p in
        let asked_here = asked_at (Answered e ∷ past) behind in
        let closes : IsGoing s p (works p) all number (HasVerdict verdict) (IsVerdict verdict) (Answered e ∷ past) =
        record {
          mail = new;
          here = mail_there s p (works p) e past own asked_here going.mail going.here going.named new goes;
          number_is = ap (λ xs. length xs + 1) (answers_stay s p (works p) e past own asked_here going.mail going.here going.named new goes) ∙ going.number_is;
          named = new_named s p (works p) e past own asked_here going.mail going.here going.named new goes;
          holds = (decided, closing);
        } in
        let there = follow s p (works p) all number (HasVerdict verdict) (IsVerdict verdict) (kept_verdict verdict) behind.0 (Answered e ∷ past) (subst (AreAsked s) behind.1 asked) ([], behind.1) (inl closes) in
        let end = subst (Stands s p (works p) all number (HasVerdict verdict) (IsVerdict verdict)) (sym behind.1) there in
        let answered = done_answers s p (works p) all number (HasVerdict verdict) (IsVerdict verdict) all asked (done p) end in
        answered.text ∙ ap (λ result. Some (mail_text (part_of s p).names result)) answered.holds

    -- the numbers that it loaded
    measured_zero : (own : List Entry) (n : ℕ) → MeasuredAs s u p number own n → IsMeasuredEmpty own u → n ≡ 0
    measured_zero [] n measured empty = absurd measured
    measured_zero (e ∷ own) n measured empty = let same : replies.Size n ≡ replies.Size 0 = sym measured.1 ∙ empty.1 in cc

    at_first : (a : ℕ) → a + 0 ≡ a
    at_first a = omega arith

    abbrev counts_at : List Item → Head
    counts_at past = head_at s u past

    -- its command, at its machine
    command_at_it : (past : List Item) (m : Mailing) (behind : Behind past) (here : mail_of s p past ≡ Some m) (command : Command) → number_behind s past p ≡ number → command_at s p number ≡ Some command
        → (w : MailWork) × (work_of command ≡ Some w) × IsSameWork w m.work
    command_at_it past m behind here command number_is is =
        let on = mail_at (part_of s p) (pos s p past) m (keeps_at past behind) here in
        let same : on.job.command ≡ command = same_Some on.job.command command (sym (command_here s p past on.job on.jobs on.left_is) ∙ (ap (command_at s p) number_is ∙ is)) in
        (on.work, sym (ap work_of same) ∙ on.work_is, on.on.0)

    turn_numbers : (m : Mailing) (o : Opened) (reply : Reply) (loaded : List ℕ) (verdict : MailResult) → m.stage ≡ Numbers o → reply ≡ replies.Bytes loaded → judged m.work (head_of loaded) ≡ Some verdict → turn m reply ≡ Goes (known_if m.uid m.work o (head_of loaded) (Some verdict))
    turn_numbers m o reply loaded verdict stage told found =
        ap (λ r. turn m r) told
        ∙ (ap (λ st. stage_turn m.uid m.work m.decided st (replies.Bytes loaded)) stage ∙ ap (λ x. Goes (known_if m.uid m.work o (head_of loaded) x)) found)

    -- where so many were between, that was decided, and answered
    loads_verdict : (n : ℕ) (verdict : MailResult) → is_mail (command_at s p number) ≡ true → LoadsWith s u (hist all) p number n
        → ((past : List Item) (m : Mailing) → Behind past → mail_of s p past ≡ Some m → number_behind s past p ≡ number → HoldsQueue s u past → length (puts s u past) ≡ length (takes s u past) + n → judged m.work (counts_at past) ≡ Some verdict)
        → HasAnswer verdict
    loads_verdict n verdict mail has decides =
        let e = has.entry in
        let past = has.past in
        let behind : Behind (Answered e ∷ past) = (has.newer, has.stands) in
        let before = tail_behind (Answered e) past behind in
        let going = going_at e past has.own behind has.number_is has.opened mail in
        let m = going.mail in
        let on_u = going.holds.uid in
        let asks = op_at e past m has.own behind going.here on_u in
        let stage = loads_stage u m.work m.stage e.reply (subst (λ op. loads_numbers op e.reply ≡ true) asks has.is.0) in
        let o = stage.0 in
        let loaded = bytes_of e.op e.reply has.is.0 in
        let right = right_at past before in
        let eff = store_effects (deeds past) in
        let reach = subst (OpenedAt s.opening eff p u) stage.1 (reach_at past m before going.here on_u) in
        let whole = subst (Knows s u past p m.work) stage.1 (right.know p m going.here on_u) in
        let at : target s.opening eff p (Addr o.address) ≡ Some (record { uid = u; offset = 0 }) = ap (λ x. target s.opening eff p (Addr x)) (sym (at_first o.address)) ∙ reach 0 (omega arith) in
        let op_is : e.op ≡ numbers_load o = asks ∙ ap (stage_op u m.work) stage.1 in
        let allowed = subst (λ r. IsAllowed (before_op s.opening past p) p (numbers_load o) r) loaded.1 (subst (λ op. IsAllowed (before_op s.opening past p) p op e.reply) op_is (allowed_at e past has.own behind)) in
        let there = load_told (before_op s.opening past p) p (Addr o.address) 16 loaded.0 u 0 at allowed in
        let head : head_of loaded.0 ≡ counts_at past = ap head_of there ∙ (sym (ap (numbers_by s.opening eff u) whole) ∙ right.queue.holds.numbers) in
        let found : judged m.work (head_of loaded.0) ≡ Some verdict = ap (judged m.work) head ∙ decides past m before going.here has.number_is right.queue has.is.1 in
        verdict_answers e past verdict has.own behind going (known_if m.uid m.work o (head_of loaded.0) (Some verdict)) (turn_numbers m o e.reply loaded.0 verdict stage.1 loaded.1 found) refl tt

    -- and where nothing was ever put
    turn_map : (m : Mailing) (n a : ℕ) (fresh : Bool) (text : List ℕ) (reply : Reply) → m.stage ≡ Map n → n ≡ 0 → reply ≡ replies.At a fresh → m.work ≡ Take text → turn m reply ≡ Goes (known_if m.uid m.work (opened_at a fresh) first_head (Some mail_results.Empty))
    turn_map m n a fresh text reply stage none told work =
        ap (λ r. turn m r) told
        ∙ (ap (λ st. stage_turn m.uid m.work m.decided st (replies.At a fresh)) stage
        ∙ (ap (λ k. Goes (reached m.uid m.work (opened_at a fresh) (extent_of k))) none
        ∙ ap (λ x. Goes (known_if m.uid m.work (opened_at a fresh) first_head x)) (ap (λ w. judged w first_head) work)))

    nothing_verdict : (path : List ℕ) → command_at s p number ≡ Some (Takem path) → FindsNothing s u (hist all) p number → HasAnswer mail_results.Empty
    nothing_verdict path command has =
        let e = has.entry in
        let past = has.past in
        let behind : Behind (Answered e ∷ past) = (has.newer, has.stands) in
        let before = tail_behind (Answered e) past behind in
        let going = going_at e past has.own behind has.number_is has.opened (ap is_mail command) in
        let m = going.mail in
        let on_u = going.holds.uid in
        let asks = op_at e past m has.own behind going.here on_u in
        let stage = maps_stage u u m.work m.stage e.reply (subst (λ op. IsPlaced op e.reply u) asks has.is.0) in
        let place = place_told e.op e.reply u has.is.0 in
        let measured = subst (MeasuredAt s u p number (own_in past p)) stage.1 going.holds.measured in
        let none = measured_zero (own_in past p) stage.0 measured has.is.1 in
        let at_it = command_at_it past m before going.here (Takem path) has.number_is command in
        let work = work_takes (Takem path) at_it.0 m.work path refl at_it.1 at_it.2 in
        verdict_answers e past mail_results.Empty has.own behind going (known_if m.uid m.work (opened_at place.0 place.1) first_head (Some mail_results.Empty))
        (turn_map m stage.0 place.0 place.1 work.0 e.reply stage.1 none place.2 work.1) refl tt

    full_verdict : (path text : List ℕ) → command_at s p number ≡ Some (Putm path text) → LoadsWith s u (hist all) p number 56 → HasAnswer mail_results.Full
    full_verdict path text command has =
        loads_verdict 56 mail_results.Full (ap is_mail command) has
        (λ past m behind here number_is box count.
        let at_it = command_at_it past m behind here (Putm path text) number_is command in
        let work = work_puts (Putm path text) at_it.0 m.work path text refl at_it.1 at_it.2 in
        ap (λ w. judged w (counts_at past)) work.1 ∙ full_judged work.0 (length (puts s u past)) (length (takes s u past)) box.holds.room count)

    empty_verdict : (path : List ℕ) → command_at s p number ≡ Some (Takem path) → LoadsWith s u (hist all) p number 0 → HasAnswer mail_results.Empty
    empty_verdict path command has =
        loads_verdict 0 mail_results.Empty (ap is_mail command) has
        (λ past m behind here number_is box count.
        let at_it = command_at_it past m behind here (Takem path) number_is command in
        let work = work_takes (Takem path) at_it.0 m.work path refl at_it.1 at_it.2 in
        ap (λ w. judged w (counts_at past)) work.1 ∙ empty_judged work.0 (length (puts s u past)) (length (takes s u past)) box.holds.room count)

-- the same of a history
module _ (s : Content) (u : ObjectName) (h : History) (p : ProcName) (number : ℕ) where
  entry_to : (P : List Item → Entry → Type 0) → HasEntry s u (hist h.items) p number P → HasEntry s u h p number P
  entry_to P has = record { newer = has.newer; past = has.past; entry = has.entry; stands = has.stands; own = has.own; number_is = has.number_is; opened = has.opened; is = has.is }

  entry_from : (P : List Item → Entry → Type 0) → HasEntry s u h p number P → HasEntry s u (hist h.items) p number P
  entry_from P has = record { newer = has.newer; past = has.past; entry = has.entry; stands = has.stands; own = has.own; number_is = has.number_is; opened = has.opened; is = has.is }

pub answered_right : (s : Content) (start : IsStart s.opening) (works : (p : ProcName) → AreWorks (part_of s p).jobs) (h : History) → AreLegal s.opening [] h.items → IsRising h.items → AreAsked s h.items → length h.items < 2 ^ 64 - 1
    → ((p : ProcName) → ask s p (heard_by s p h.items) ≡ Done) → (u : ObjectName) → OnlyMails s u h.items → (p : ProcName) (number : ℕ) → is_mail (command_at s p number) ≡ true → IsOn s u h p number → IsAnsweredRight s u h p number
answered_right s start works h legal rising asked few done u only p number mail on =
    let come = answer_is s start works h.items legal rising asked few done u only p number on.entry on.past on.own (on.newer, on.stands) on.number_is on.asked mail in
    let result = come.0 in
    record {
      good = λ e. subst (Means s u p number h.items) (text_bad names result (said result come.1 bad_mailbox e)) come.2;
      full = λ path text command. (
        λ e. entry_to s u h p number _ (subst (Means s u p number h.items) (text_full names result (said result come.1 mailbox_full e)) come.2),
        λ has. says mail_results.Full (full_verdict s start works h.items legal rising asked few done u only p number path text command (entry_from s u h p number _ has)),
      );
      empty = λ path command. (
        λ e. found_to (subst (Means s u p number h.items) (text_empty names result (said result come.1 mailbox_empty e)) come.2),
        λ has. found_from path command has,
      );
    }
  where
    names : List (List ℕ)
    names = (part_of s p).names

    says : (r : MailResult) → slice_get (pos s p h.items).answers (number - 1) ≡ Some (mail_text names r) → answer_at s h p number ≡ Some (mail_text names r)
    says r is = sym (ap (λ xs. slice_get xs (number - 1)) (answers_there s p (heard_by s p h.items))) ∙ is

    said : (r : MailResult) → slice_get (pos s p h.items).answers (number - 1) ≡ Some (mail_text names r) → (text : List ℕ) → answer_at s h p number ≡ Some text → mail_text names r ≡ text
    said r is text e = same_Some (mail_text names r) text (sym (says r is) ∙ e)

    found_to : LoadsWith s u (hist h.items) p number 0 ⊎ FindsNothing s u (hist h.items) p number → LoadsWith s u h p number 0 ⊎ FindsNothing s u h p number
    found_to (inl loads) = inl (entry_to s u h p number _ loads)
    found_to (inr nothing) = inr (entry_to s u h p number _ nothing)

    found_from : (path : List ℕ) → command_at s p number ≡ Some (Takem path) → LoadsWith s u h p number 0 ⊎ FindsNothing s u h p number → answer_at s h p number ≡ Some mailbox_empty
    found_from path command (inl loads) = says mail_results.Empty (empty_verdict s start works h.items legal rising asked few done u only p number path command (entry_from s u h p number _ loads))
    found_from path command (inr nothing) = says mail_results.Empty (nothing_verdict s start works h.items legal rising asked few done u only p number path command (entry_from s u h p number _ nothing))
