-- In every run what a home decides is what one store says, and what it changes may act.
use Rattle.std.proofs.Common.{◌≡◌, ℕ, ◌+◌, Bool, true, false, List, [], ◌∷◌, ◌++◌, Option, Some, None, IfSome, refl, sym, ap, subst, ◌∙◌, append_assoc, arith}
use Rattle.std.specs.Prelude.{nat_le, nat_lt, is_some, find}
use Rattle.std.proofs.lemmas.Bool.Decides.{nat_tests}
use Rattle.std.proofs.lemmas.Option.{same_Some}
use Rattle.uid_names.specs.Names.{ProcName, ObjectName}
use Rattle.uid_names.specs.Rows.{rows_after, same_row}
use Rattle.uid_names.specs.declared.limits.TheConstants.{VOLUME_ROOM}
use Rattle.uid_names.specs.declared.mode.Mode.{Mode}
use Rattle.uid_names.specs.declared.mode.ObjKind.{ObjKind}
use Rattle.uid_names.proofs.ListLemmas.{by_cases}
use Rattle.dom_history.specs.declared.op.Op.{Op}
use Rattle.dom_history.specs.declared.op.Op.TheVariants as ops
use Rattle.dom_history.specs.declared.op.Reply.{Reply}
use Rattle.dom_history.specs.declared.op.Reply.TheVariants as replies
use Rattle.dom_history.specs.StoreEffects.{StoreEffect}
use Rattle.dom_history.specs.Legal.{MayAct}
use Rattle.dom_history.specs.Locks.{holds, rows, mode_in, is_to_remove}
use Rattle.dom_history.specs.Objects.{is_node, is_present, room_taken, greatest_counter}
use Rattle.dom_history.specs.Replies.{new_reply, home_lock_reply, list_reply}
use Rattle.dom_history.proofs.Tables.{holds-rows}
use Rattle.history_moves.specs.Asking.{HomeSays}
use Rattle.object_store.specs.Objects.{rooms}
use Rattle.object_store.specs.HomeStates.{attr_of}
use Rattle.lock_manager.specs.declared.grants.Grant.{Grant}
use Rattle.lock_manager.specs.Grants.{rows_of, grant_of}
use Rattle.ring_messages.specs.Bodies.{Ask, Answer}
use Rattle.page_server.specs.Decisions.{remove_answer, make_answer, may_remove}
use Rattle.node_runs.specs.Setups.{Setup, IsSetup}
use Rattle.node_runs.specs.NodeStates.{Asked}
use Rattle.node_runs.specs.NodesKeep.{IsTimely}
use Rattle.node_runs.specs.Notes.{Note}
use Rattle.node_runs.specs.Runs.{World, Noted, Choice, numbered, world_after}
use Rattle.node_runs.specs.RunHistories.{settled_op, change_reply}
use Rattle.node_runs.specs.CallsKeep.{AsksThis, EachOf}
use Rattle.node_runs.specs.DecidedCalls.{IsDecided}
use Rattle.node_runs.specs.Replays.{IsAnswered, AreAnswered}
use Rattle.node_runs.proofs.Receiving.{EachOf-more, numbered-each}
use Rattle.node_runs.proofs.Decisions.{decisions-are}
use Rattle.node_runs.proofs.Replaying.{replays-are}
use Rattle.node_runs.proofs.SettingUp.{setup-procs}
use Rattle.node_runs.proofs.EachOf.{EachOf-behind}
use Rattle.run_laws.specs.ToldAnswers.{TellsReply}
use Rattle.run_laws.proofs.AskedHomes.{calls-at-homes}
use Rattle.run_laws.specs.DecidedEffects.{home_effects, decided_effects}
use Rattle.run_laws.specs.HistoryHomes.{held_then, past_then, AreHomesThen}
use Rattle.run_laws.specs.HomeWords.{SaysSo}
use Rattle.run_laws.proofs.HistoryHomes.{answered-behind, meant-at, homes-always}
use Rattle.run_laws.proofs.HomeRows.{IsMeantAt}
use Rattle.run_laws.proofs.HomeWords.{words-are}
use Rattle.run_laws.specs.NotedEffects.{noted_past, AreEffectsNoted}
use Rattle.run_laws.specs.HomeReplies.{IsHomeReply, AreHomeReplies}
use Rattle.run_laws.proofs.AskedRooms.{IsRoomAsked, rooms-asked}
use Rattle.run_laws.proofs.PresentRooms.{node-then, taken-is, counter-is}

-- an answer tells one reply
lock-once : (u : ObjectName) (m : Mode) (a b : Reply) (answer : Answer) → TellsReply (ops.Lock u m) a answer → TellsReply (ops.Lock u m) b answer → a ≡ b
lock-once u m a b (Answer.Granted grant stamp kind room n) is so = is ∙ sym so
lock-once u m a b (Answer.Conflict q held) is so = is ∙ sym so
lock-once u m a b Answer.NoObject is so = is ∙ sym so
lock-once u m a b Answer.NoGrant is so = absurd is
lock-once u m a b Answer.Done is so = absurd is
lock-once u m a b Answer.NoSpace is so = absurd is
lock-once u m a b (Answer.Made v) is so = absurd is
lock-once u m a b (Answer.Page stamp bytes) is so = absurd is
lock-once u m a b (Answer.Stored stamp) is so = absurd is
lock-once u m a b (Answer.Stale stamp) is so = absurd is
lock-once u m a b (Answer.Listed rows more) is so = absurd is

list-once : (home : ℕ) (after : _) (a b : Reply) (answer : Answer) → TellsReply (ops.List home after) a answer → TellsReply (ops.List home after) b answer → a ≡ b
list-once home after a b (Answer.Listed rows more) is so = is ∙ sym so
list-once home after a b (Answer.Granted grant stamp kind room n) is so = absurd is
list-once home after a b (Answer.Conflict q held) is so = absurd is
list-once home after a b Answer.NoObject is so = absurd is
list-once home after a b Answer.NoGrant is so = absurd is
list-once home after a b Answer.Done is so = absurd is
list-once home after a b Answer.NoSpace is so = absurd is
list-once home after a b (Answer.Made v) is so = absurd is
list-once home after a b (Answer.Page stamp bytes) is so = absurd is
list-once home after a b (Answer.Stored stamp) is so = absurd is
list-once home after a b (Answer.Stale stamp) is so = absurd is

-- what changes is granted; a list changes nothing
lock-acts : (u : ObjectName) (m : Mode) (said reply : Reply) (answer : Answer) → TellsReply (ops.Lock u m) said answer → change_reply answer ≡ Some reply → (reply ≡ replies.Fine) × (said ≡ replies.Fine)
lock-acts u m said reply (Answer.Granted grant stamp kind room n) is so = (sym (same_Some replies.Fine reply so), is)
lock-acts u m said reply (Answer.Conflict q held) is so = absurd (cc)
lock-acts u m said reply Answer.NoObject is so = absurd (cc)
lock-acts u m said reply Answer.NoGrant is so = absurd is
lock-acts u m said reply Answer.Done is so = absurd is
lock-acts u m said reply Answer.NoSpace is so = absurd is
lock-acts u m said reply (Answer.Made v) is so = absurd is
lock-acts u m said reply (Answer.Page stamp bytes) is so = absurd is
lock-acts u m said reply (Answer.Stored stamp) is so = absurd is
lock-acts u m said reply (Answer.Stale stamp) is so = absurd is
lock-acts u m said reply (Answer.Listed rows more) is so = absurd is

list-still : (home : ℕ) (after : _) (said reply : Reply) (answer : Answer) → TellsReply (ops.List home after) said answer → change_reply answer ≡ Some reply → ⊥
list-still home after said reply (Answer.Listed rows more) is so = absurd (cc)
list-still home after said reply (Answer.Granted grant stamp kind room n) is so = is
list-still home after said reply (Answer.Conflict q held) is so = is
list-still home after said reply Answer.NoObject is so = is
list-still home after said reply Answer.NoGrant is so = is
list-still home after said reply Answer.Done is so = is
list-still home after said reply Answer.NoSpace is so = is
list-still home after said reply (Answer.Made v) is so = is
list-still home after said reply (Answer.Page stamp bytes) is so = is
list-still home after said reply (Answer.Stored stamp) is so = is
list-still home after said reply (Answer.Stale stamp) is so = is

-- a row in a mode that removes
to-remove : (p : ProcName) (u : ObjectName) (grants : List Grant) → is_to_remove (mode_in (find (same_row p u) (rows_of grants))) ≡ may_remove (grant_of p u grants)
to-remove p u [] = refl
to-remove p u (g ∷ grants) = by_cases (same_row p u g.row) (is_to_remove (mode_in (find (same_row p u) (rows_of (g ∷ grants)))) ≡ may_remove (grant_of p u (g ∷ grants))) (λ h. rw h refl) (λ h. rw h (to-remove p u grants))

-- what a home says to a new object
abbrev made_or_none : Bool → ObjectName → Reply
made_or_none true u = replies.Made u
made_or_none false u = replies.NoSpace

new-is : (opening : _) (past : List StoreEffect) (home room taken greatest : ℕ) → is_node opening home ≡ true → nat_le room opening.greatest ≡ true → room_taken opening past home ≡ taken → greatest_counter opening past home ≡ greatest
    → new_reply (record { opening = opening; past = past; told = [] }) home room ≡ made_or_none (nat_le (taken + room) VOLUME_ROOM) (record { counter = greatest + 1; home = home })
new-is opening past home room taken greatest node low is_taken is_greatest =
    let high : nat_lt opening.greatest room ≡ false = grind (arith, nat_tests, low) in
    by_cases (nat_le (taken + room) VOLUME_ROOM) (new_reply (record { opening = opening; past = past; told = [] }) home room ≡ made_or_none (nat_le (taken + room) VOLUME_ROOM) (record { counter = greatest + 1; home = home }))
    (λ h. let more : nat_lt VOLUME_ROOM (taken + room) ≡ false = grind (arith, nat_tests, h) in rw (node, high, is_taken, is_greatest, h, more) refl)
    (λ h. let more : nat_lt VOLUME_ROOM (taken + room) ≡ true = grind (arith, nat_tests, h) in rw (node, high, is_taken, is_greatest, h, more) refl)

new-tells : (home room : ℕ) (kind : ObjKind) (fits : Bool) (u : ObjectName) (reply : Reply) → TellsReply (ops.New home kind room) reply (make_answer fits u) → reply ≡ made_or_none fits u
new-tells home room kind true u reply is = is
new-tells home room kind false u reply is = is

new-acts : (fits : Bool) (u : ObjectName) (reply : Reply) → change_reply (make_answer fits u) ≡ Some reply → (reply ≡ replies.Made u) × (made_or_none fits u ≡ replies.Made u)
new-acts true u reply is = (sym (same_Some (replies.Made u) reply is), refl)
new-acts false u reply is = absurd (cc)

module _ (s : Setup) (setup : IsSetup s) (w : World) (older : List Noted) (are : AreAnswered s older) (meant : EachOf (λ (m : Noted). IsMeantAt m.place.node m.note) older)
    (homes : AreHomesThen s w older) (noted : past_then w older ≡ noted_past older) (home : ℕ) (node : is_node s.opening home ≡ true) where
  abbrev past : List StoreEffect
  past = noted_past older

  rows-are : rows home past ≡ rows_of (held_then s home older).locks.grants
  rows-are = ap (rows home) (sym noted) ∙ homes.rows home

  decided : home_effects past ≡ decided_effects older
  decided = ap home_effects (sym noted) ∙ homes.decided

  module _ (p : ProcName) where
    abbrev IsSo : Op → Answer → Type 0
    IsSo op answer = ((reply : Reply) → TellsReply op reply answer → HomeSays s.opening past p op reply) × ((reply : Reply) → change_reply answer ≡ Some reply → MayAct s.opening past p op reply)

    lock-so : (u : ObjectName) (m : Mode) (answer : Answer) → TellsReply (ops.Lock u m) (home_lock_reply s.opening past p u m) answer → IsSo (ops.Lock u m) answer
    lock-so u m answer says = (
      λ reply tells. lock-once u m reply (home_lock_reply s.opening past p u m) answer tells says,
      λ reply change. lock-acts u m (home_lock_reply s.opening past p u m) reply answer says change,
    )

    list-so : (after : _) (answer : Answer) → TellsReply (ops.List home after) (list_reply (rows_after after (rows home past))) answer → IsSo (ops.List home after) answer
    list-so after answer says = (
      λ reply tells. list-once home after reply (list_reply (rows_after after (rows home past))) answer tells says,
      λ reply change. list-still home after (list_reply (rows_after after (rows home past))) reply answer says change,
    )

    unlock-so : (u : ObjectName) → IsSo (ops.Unlock u) Answer.Done
    unlock-so u = (λ reply tells. tells, λ reply change. sym (same_Some replies.Fine reply change))

    remove-so : (u : ObjectName) (there held : Bool) → is_present s.opening past u ≡ there → is_to_remove (holds p u past) ≡ held → IsSo (ops.Delete u) (remove_answer there held)
    remove-so u true true is so = (λ reply tells. tells, λ reply change. (sym (same_Some replies.Fine reply change), is, so))
    remove-so u true false is so = (λ reply tells. absurd tells, λ reply change. absurd (cc))
    remove-so u false held is so = (λ reply tells. absurd tells, λ reply change. absurd (cc))

    new-so : (kind : ObjKind) (room : ℕ) (fits : Bool) (u : ObjectName) → new_reply (record { opening = s.opening; past = past; told = [] }) home room ≡ made_or_none fits u → IsSo (ops.New home kind room) (make_answer fits u)
    new-so kind room fits u is = (
      λ reply tells. new-tells home room kind fits u reply tells ∙ sym is,
      λ reply change. let acts = new-acts fits u reply change in (u, acts.0, is ∙ acts.1),
    )

    note-so : (number : ℕ) (ask : Ask) (answer : Answer) → IsMeantAt home (Note.Decided p number ask answer) → IsAnswered (held_then s home older) (Note.Decided p number ask answer) → IsRoomAsked s.opening ask
        → SaysSo s.opening past home (Note.Decided p number ask answer) → (op : Op) → settled_op home ask ≡ Some op → IsSo op answer
    note-so number (Ask.PageIn u k) answer at is low says op settles = absurd (cc)
    note-so number (Ask.PageOut u k grant base bytes) answer at is low says op settles = absurd (cc)
    note-so number (Ask.AttrOut u n grant base) answer at is low says op settles = absurd (cc)
    note-so number (Ask.Lock u m) answer at is low says op settles = subst (λ x. IsSo x answer) (same_Some (ops.Lock u m) op settles) (lock-so u m answer says)
    note-so number (Ask.Unlock u) answer at is low says op settles = subst (λ x. IsSo x answer) (same_Some (ops.Unlock u) op settles) (subst (IsSo (ops.Unlock u)) (sym is) (unlock-so u))
    note-so number (Ask.Remove u) answer at is low says op settles =
        let h = held_then s home older in
        let there : is_present s.opening past u ≡ is_some (attr_of h.home u) =
        ap (λ x. is_present s.opening x u) (sym noted) ∙ homes.present u (subst (λ a. is_node s.opening a ≡ true) at node) ∙ ap (λ a. is_some (attr_of (held_then s a older).home u)) (sym at) in
        let held : is_to_remove (holds p u past) ≡ may_remove (grant_of p u h.locks.grants) =
        ap is_to_remove (holds-rows p u past ∙ ap (λ a. mode_in (find (same_row p u) (rows a past))) (sym at) ∙ ap (λ rs. mode_in (find (same_row p u) rs)) rows-are) ∙ to-remove p u h.locks.grants in
        subst (λ x. IsSo x answer) (same_Some (ops.Delete u) op settles) (subst (IsSo (ops.Delete u)) (sym is) (remove-so u (is_some (attr_of h.home u)) (may_remove (grant_of p u h.locks.grants)) there held))
    note-so number (Ask.Make kind room) answer at is low says op settles =
        let h = held_then s home older in
        let u : ObjectName = record { counter = h.home.greatest + 1; home = h.home.node } in
        let new : new_reply (record { opening = s.opening; past = past; told = [] }) home room ≡ made_or_none (nat_le (rooms h.home.objects + room) VOLUME_ROOM) u =
        new-is s.opening past home room (rooms h.home.objects) h.home.greatest node low (taken-is s setup home node older are meant past decided) (counter-is s setup home node older are meant past decided)
        ∙ ap (λ a. made_or_none (nat_le (rooms h.home.objects + room) VOLUME_ROOM) (record { counter = h.home.greatest + 1; home = a })) (sym (node-then s home older)) in
        subst (λ x. IsSo x answer) (same_Some (ops.New home kind room) op settles) (subst (IsSo (ops.New home kind room)) (sym is) (new-so kind room (nat_le (rooms h.home.objects + room) VOLUME_ROOM) u new))
    note-so number (Ask.ListLocks after) answer at is low says op settles = subst (λ x. IsSo x answer) (same_Some (ops.List home after) op settles) (list-so after answer says)

  note-replies : (note : Note) → IsMeantAt home note → IsAnswered (held_then s home older) note → ((p : ProcName) (number : ℕ) (ask : Ask) (answer : Answer) → note ≡ Note.Decided p number ask answer → IsRoomAsked s.opening ask)
      → SaysSo s.opening past home note → IsHomeReply s older home note
  note-replies Note.Nothing at is low says = tt
  note-replies (Note.Began p op) at is low says = tt
  note-replies (Note.Did p phase op reply) at is low says = tt
  note-replies (Note.Ended t) at is low says = tt
  note-replies (Note.Decided p number ask answer) at is low says = λ op settles. note-so p number ask answer at is (low p number ask answer refl) says op settles

-- the room that a call asks for, which was decided
asked-low : (opening : _) (o : Option Asked) (home : ℕ) (ask : Ask) → IfSome o (λ k. IsRoomAsked opening k.ask) → AsksThis o home ask → IsRoomAsked opening ask
asked-low opening None home ask low is = absurd is
asked-low opening (Some k) home ask low is = subst (IsRoomAsked opening) is.1 low

-- in every run, where the history has the effects that notes have
pub homes-reply : ((s : Setup) → IsSetup s → (cs : List Choice) (w : World) → world_after s cs ≡ Some w → IsTimely w → AreEffectsNoted w)
    → (s : Setup) → IsSetup s → (cs : List Choice) (w : World) → world_after s cs ≡ Some w → IsTimely w → AreHomeReplies s w
homes-reply noted s setup cs w e timely newer older j parts node =
    let decisions = decisions-are s (setup-procs s setup) cs w e in
    let whole : w.trace ≡ (newer ++ j ∷ []) ++ older = parts ∙ sym (append_assoc newer (j ∷ []) older) in
    let meant = EachOf-more (λ (i : Noted). IsDecided w i.place i.note) (λ (i : Noted). IsMeantAt i.place.node i.note) w.trace (λ i decided. meant-at w (calls-at-homes s setup cs w e timely) i.place i.note decided) decisions.each in
    let here = EachOf-behind (λ (i : Noted). IsMeantAt i.place.node i.note) newer (j ∷ older) (subst (EachOf (λ (i : Noted). IsMeantAt i.place.node i.note)) parts meant) in
    let was = (EachOf-behind (λ (i : Noted). IsDecided w i.place i.note) newer (j ∷ older) (subst (EachOf (λ (i : Noted). IsDecided w i.place i.note)) parts decisions.each)).0 in
    let answered = answered-behind s newer (j ∷ older) (subst (AreAnswered s) parts (replays-are s cs w e).answers) in
    let same : past_then w older ≡ noted_past older = noted s setup cs w e timely (newer ++ j ∷ []) older whole in
    note-replies s setup w older answered.1 here.1 (homes-always s setup cs w e timely (newer ++ j ∷ []) older whole) same j.place.node node j.note here.0 answered.0
    (λ p number ask answer is. let asked = (subst (IsDecided w j.place) is was).1 in asked-low s.opening (numbered number (w.calls p.node p.number)) j.place.node ask
    (numbered-each (λ (k : Asked). IsRoomAsked s.opening k.ask) number (w.calls p.node p.number) (rooms-asked s setup cs w e timely p.node p.number)) asked)
    (subst (λ past. SaysSo s.opening past j.place.node j.note) same (words-are s setup cs w e timely newer older j parts node))
