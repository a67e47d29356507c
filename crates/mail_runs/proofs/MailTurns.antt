-- A machine of a mailbox keeps its object, and its work but for the text that is taken.
use Rattle.std.proofs.Common.{◌≡◌, ℕ, Bool, true, false, Option, Some, None, List, refl, subst}
use Rattle.std.proofs.lemmas.Option.{same_Some}
use Rattle.uid_names.specs.Names.{ObjectName}
use Rattle.dom_history.specs.declared.op.Reply.{Reply}
use Rattle.dom_history.specs.declared.op.Reply.TheVariants.{Fine, Size, Bytes, At as MappedAt}
use Rattle.dom_history.specs.Fitting.{Fits}
use Rattle.mail_box.specs.Boxes.{extent_of, first_head, head_of, text_in}
use Rattle.mail_box.specs.Mails.{judged, opened_at}
use Rattle.mail_box.specs.States.{stage_op}
use Rattle.mail_box.specs.Turns.{Turn, Goes, Comes, behind_close, behind_count, behind_length, behind_loaded, behind_lock, behind_map, behind_message, behind_numbers, behind_stored, first_decided, known_if, reached, stage_turn, state_of, stood_after, turn, with_text}
use Rattle.mail_box.specs.declared.boxes.Extent.{Extent}
use Rattle.mail_box.specs.declared.boxes.Extent.TheVariants.{New, Torn, Whole}
use Rattle.mail_box.specs.declared.boxes.Head.{Head}
use Rattle.mail_box.specs.declared.mailing.Mailing.{Mailing}
use Rattle.mail_box.specs.declared.mailing.Opened.{Opened}
use Rattle.mail_box.specs.declared.mailing.Stage.{Stage}
use Rattle.mail_box.specs.declared.mailing.Stage.TheVariants.{Lock, Length, Map, Numbers, Message, Count, Close}
use Rattle.mail_box.specs.declared.step.MailResult.{MailResult}
use Rattle.mail_box.specs.declared.work.MailWork.{MailWork}
use Rattle.mail_box.specs.declared.work.MailWork.TheVariants.{Put, Take}
use Rattle.mail_box.proofs.Turning.{turns, IsTurn}
use Rattle.mail_runs.proofs.Talks.{IsSameWork, OfMail}

-- it is at the same object, with the same work
abbrev IsLike : MailWork → ObjectName → Mailing → Type 0
IsLike w u m = IsSameWork w m.work × (m.uid ≡ u)

abbrev TurnLike : MailWork → ObjectName → Turn → Type 0
TurnLike w u (Goes m) = IsLike w u m
TurnLike w u (Comes result) = Unit {0}

module _ (w : MailWork) (u : ObjectName) where
  lock_like : (work : MailWork) (reply : Reply) → IsSameWork w work → TurnLike w u (behind_lock u work reply)
  lock_like work Fine same = (same, refl)
  lock_like work reply same = tt

  length_like : (work : MailWork) (reply : Reply) → IsSameWork w work → IsLike w u (behind_length u work reply)
  length_like work (Size n) same = (same, refl)
  length_like work reply same = (same, refl)

  known_like : (work : MailWork) (o : Opened) (h : Head) (found : Option MailResult) → IsSameWork w work → IsLike w u (known_if u work o h found)
  known_like work o h None same = (same, refl)
  known_like work o h (Some result) same = (same, refl)

  reached_like : (work : MailWork) (o : Opened) (extent : Extent) → IsSameWork w work → IsLike w u (reached u work o extent)
  reached_like work o New same = known_like work o first_head (judged work first_head) same
  reached_like work o Torn same = (same, refl)
  reached_like work o Whole same = (same, refl)

  map_like : (work : MailWork) (n : ℕ) (reply : Reply) → IsSameWork w work → IsLike w u (behind_map u work n reply)
  map_like work n (MappedAt address fresh) same = reached_like work (opened_at address fresh) (extent_of n) same
  map_like work n reply same = (same, refl)

  numbers_like : (work : MailWork) (o : Opened) (reply : Reply) → IsSameWork w work → IsLike w u (behind_numbers u work o reply)
  numbers_like work o (Bytes loaded) same = known_like work o (head_of loaded) (judged work (head_of loaded)) same
  numbers_like work o reply same = (same, refl)

  stored_like : (work : MailWork) (o : Opened) (h : Head) (reply : Reply) → IsSameWork w work → IsLike w u (behind_stored u work o h reply)
  stored_like work o h Fine same = (same, refl)
  stored_like work o h reply same = (same, refl)

  count_like : (work : MailWork) (o : Opened) (reply : Reply) → IsSameWork w work → IsLike w u (behind_count u work o reply)
  count_like work o Fine same = (same, refl)
  count_like work o reply same = (same, refl)

  close_like : (work : MailWork) (mapped : Bool) (decided : Option MailResult) → IsSameWork w work → TurnLike w u (behind_close u work mapped decided)
  close_like work true decided same = (same, refl)
  close_like work false decided same = tt

-- a text that is taken makes no other work of it
taken_same : (w : MailWork) (before text : List ℕ) → IsSameWork w (Take before) → IsSameWork w (Take text)
taken_same (Put other) before text same = absurd same
taken_same (Take other) before text same = tt

module _ (w : MailWork) (u : ObjectName) where
  text_like : (before : List ℕ) (o : Opened) (h : Head) (found : Option (List ℕ)) → IsSameWork w (Take before) → IsLike w u (with_text u (Take before) o h found)
  text_like before o h None same = (same, refl)
  text_like before o h (Some text) same = (taken_same w before text same, refl)

  loaded_like : (before : List ℕ) (o : Opened) (h : Head) (reply : Reply) → IsSameWork w (Take before) → IsLike w u (behind_loaded u (Take before) o h reply)
  loaded_like before o h (Bytes loaded) same = text_like before o h (text_in loaded) same
  loaded_like before o h reply same = (same, refl)

  message_like : (work : MailWork) (o : Opened) (h : Head) (reply : Reply) → IsSameWork w work → IsLike w u (behind_message u work o h reply)
  message_like (Put text) o h reply same = stored_like w u (Put text) o h reply same
  message_like (Take before) o h reply same = loaded_like before o h reply same

  stage_like : (work : MailWork) (decided : Option MailResult) (stage : Stage) (reply : Reply) → IsSameWork w work → TurnLike w u (stage_turn u work decided stage reply)
  stage_like work decided Lock reply same = lock_like w u work reply same
  stage_like work decided Length reply same = length_like w u work reply same
  stage_like work decided (Map n) reply same = map_like w u work n reply same
  stage_like work decided (Numbers o) reply same = numbers_like w u work o reply same
  stage_like work decided (Message o h) reply same = message_like work o h reply same
  stage_like work decided (Count o h) reply same = count_like w u work o reply same
  stage_like work decided (Close mapped) reply same = close_like w u work mapped (first_decided decided reply) same

-- so it is on at the same work
on_by : (w : MailWork) (u : ObjectName) (t : Turn) → TurnLike w u t → IsTurn t → OfMail w (state_of t)
on_by w u (Goes m) like is = (like.0, is)
on_by w u (Comes result) like is = tt

pub stays_on : (w : MailWork) (m : Mailing) (reply : Reply) → OfMail w (Some m) → Fits (stage_op m.uid m.work m.stage) reply → OfMail w (stood_after (Some m) (Some reply))
stays_on w m reply on fits = on_by w m.uid (turn m reply) (stage_like w m.uid m.work m.decided m.stage reply on.0) (turns m reply on.1 fits).keeps

-- at the same object
uid_by : (w : MailWork) (u : ObjectName) (t : Turn) (new : Mailing) → TurnLike w u t → state_of t ≡ Some new → new.uid ≡ u
uid_by w u (Goes m) new like is = subst (λ (x : Mailing). x.uid ≡ u) (same_Some m new is) like.1
uid_by w u (Comes result) new like is = absurd (cc)

pub uid_stays : (w : MailWork) (m new : Mailing) (reply : Reply) → IsSameWork w m.work → stood_after (Some m) (Some reply) ≡ Some new → new.uid ≡ m.uid
uid_stays w m new reply same is = uid_by w m.uid (turn m reply) new (stage_like w m.uid m.work m.decided m.stage reply same) is
