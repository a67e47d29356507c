-- What a reply makes of a machine of a mailbox is what it leaves of its dialogue.
use Rattle.std.proofs.Common.{◌≡◌, ℕ, Bool, true, false, Option, Some, None, List, [], ◌∷◌, refl, sym, subst, ap, ◌∙◌, arith}
use Rattle.std.proofs.lemmas.Bool.Decides.{nat_tests}
use Rattle.uid_names.specs.Names.{ObjectName}
use Rattle.dom_history.specs.declared.op.Reply.{Reply}
use Rattle.dom_history.specs.declared.op.Reply.TheVariants.{Fine, Size, Bytes, At as MappedAt}
use Rattle.dom_history.specs.Fitting.{Fits, is_map_reply}
use Rattle.dom_history.proofs.Fitting.{at-fits}
use Rattle.mail_box.specs.Boxes.{extent_of, first_head, head_of, is_bad_head, is_empty, is_full, text_in, IsText}
use Rattle.mail_box.specs.Dialogues.{Dialogue, Ends, told, says, FitsSaid}
use Rattle.mail_box.specs.Mails.{judged, judged_if, judging, knowing, opened_at, reaching, refused_if, taking}
use Rattle.mail_box.specs.States.{left, left_or, mailing_at, stage_left, stage_op, IsCounted, IsMailing, IsOpened, IsStage, IsWork}
use Rattle.mail_box.specs.Turns.{Turn, Goes, Comes, behind_close, behind_count, behind_length, behind_loaded, behind_lock, behind_map, behind_message, behind_numbers, behind_stored, decides, first_decided, known, known_if, reached, stage_turn, state_of, stood_after, turn, turn_of, with_text}
use Rattle.mail_box.specs.declared.boxes.Extent.{Extent}
use Rattle.mail_box.specs.declared.boxes.Extent.TheVariants.{New, Torn, Whole}
use Rattle.mail_box.specs.declared.boxes.Head.{Head}
use Rattle.mail_box.specs.declared.mailing.Mailing.{Mailing}
use Rattle.mail_box.specs.declared.mailing.Opened.{Opened}
use Rattle.mail_box.specs.declared.mailing.Stage.{Stage}
use Rattle.mail_box.specs.declared.mailing.Stage.TheVariants.{Lock, Length, Map, Numbers, Message, Count, Close}
use Rattle.mail_box.specs.declared.step.MailResult.{MailResult}
use Rattle.mail_box.specs.declared.step.MailResult.TheVariants as results
use Rattle.mail_box.specs.declared.work.MailWork.{MailWork}
use Rattle.mail_box.specs.declared.work.MailWork.TheVariants.{Put, Take}
use Rattle.mail_box.proofs.Stages.{fits_op}

-- what is left behind a turn
abbrev pub turn_left : Turn → Dialogue
turn_left (Goes m) = left m
turn_left (Comes result) = Ends result

abbrev pub IsTurn : Turn → Type 0
IsTurn (Goes m) = IsMailing m
IsTurn (Comes result) = Unit {0}

-- a turn is as it should be
pub record Turns (t : Turn) (d : Dialogue) : Type 0 where
  pub leaves : turn_left t ≡ d
  pub keeps : IsTurn t

mails : (u : ObjectName) (work : MailWork) (decided : Option MailResult) (stage : Stage) → IsWork work → IsStage stage → IsMailing (mailing_at u work decided stage)
mails u work decided stage w h = record { work = w; stage = h }

decides_so : (u : ObjectName) (work : MailWork) (mapped : Bool) (result : MailResult) → IsWork work → IsMailing (decides u work mapped result)
decides_so u work mapped result w = mails u work (Some result) (Close mapped) w tt

-- numbers that decide nothing can be one more
not_bad : (h : Head) → is_bad_head h ≡ false → IsCounted h
not_bad h e = record { put = λ same. absurd (grind (arith, nat_tests, e, same)); taken = grind (arith, nat_tests, e) }

going_if : (b : Bool) (h : Head) (further : Option MailResult) → is_bad_head h ≡ b → judged_if b further ≡ None → IsCounted h
going_if true h further e none = absurd (grind (arith, none))
going_if false h further e none = not_bad h e

going : (work : MailWork) (h : Head) → judged work h ≡ None → IsCounted h
going (Put text) h none = going_if (is_bad_head h) h (refused_if (is_full h) results.Full) refl none
going (Take text) h none = going_if (is_bad_head h) h (refused_if (is_empty h) results.Empty) refl none

known_turns : (u : ObjectName) (work : MailWork) (o : Opened) (h : Head) (found : Option MailResult) → IsWork work → IsOpened o → judged work h ≡ found
    → Turns (Goes (known_if u work o h found)) (judging u o work h found)
known_turns u work o h None w at e = record { leaves = refl; keeps = mails u work None (Message o h) w (at, going work h e) }
known_turns u work o h (Some result) w at e = record { leaves = refl; keeps = decides_so u work o.fresh result w }

known_so : (u : ObjectName) (work : MailWork) (o : Opened) (h : Head) → IsWork work → IsOpened o → Turns (Goes (known u work o h)) (knowing u o work h)
known_so u work o h w at = known_turns u work o h (judged work h) w at refl

reach_turns : (u : ObjectName) (work : MailWork) (o : Opened) (extent : Extent) → IsWork work → IsOpened o → Turns (Goes (reached u work o extent)) (reaching u o work extent)
reach_turns u work o New w at = known_so u work o first_head w at
reach_turns u work o Torn w at = record { leaves = refl; keeps = decides_so u work o.fresh _ w }
reach_turns u work o Whole w at = record { leaves = refl; keeps = mails u work None (Numbers o) w at }

lock_turns : (u : ObjectName) (work : MailWork) (decided : Option MailResult) (reply : Reply) → IsWork work → Turns (behind_lock u work reply) (told (stage_left u work decided Lock) reply)
lock_turns u work decided Fine w = record { leaves = refl; keeps = mails u work None Length w tt }
lock_turns u work decided reply w = record { leaves = refl; keeps = tt }

length_turns : (u : ObjectName) (work : MailWork) (decided : Option MailResult) (reply : Reply) → IsWork work → Turns (Goes (behind_length u work reply)) (told (stage_left u work decided Length) reply)
length_turns u work decided (Size n) w = record { leaves = refl; keeps = mails u work None (Map n) w tt }
length_turns u work decided reply w = record { leaves = refl; keeps = decides_so u work false _ w }

map_turns : (u : ObjectName) (work : MailWork) (decided : Option MailResult) (n : ℕ) (reply : Reply) → IsWork work → is_map_reply reply ≡ true → Turns (Goes (behind_map u work n reply)) (told (stage_left u work decided (Map n)) reply)
map_turns u work decided n (MappedAt address fresh) w fits =
    let start = at-fits address fresh fits in
    reach_turns u work (opened_at address fresh) (extent_of n) w (record { at = start.0; below = start.1 })
map_turns u work decided n reply w fits = record { leaves = refl; keeps = decides_so u work false _ w }

numbers_turns : (u : ObjectName) (work : MailWork) (decided : Option MailResult) (o : Opened) (reply : Reply) → IsWork work → IsOpened o → Turns (Goes (behind_numbers u work o reply)) (told (stage_left u work decided (Numbers o)) reply)
numbers_turns u work decided o (Bytes loaded) w at = known_so u work o (head_of loaded) w at
numbers_turns u work decided o reply w at = record { leaves = refl; keeps = decides_so u work o.fresh _ w }

stored_turns : (u : ObjectName) (text : List ℕ) (decided : Option MailResult) (o : Opened) (h : Head) (reply : Reply) → IsText text → IsOpened o → IsCounted h
    → Turns (Goes (behind_stored u (Put text) o h reply)) (told (stage_left u (Put text) decided (Message o h)) reply)
stored_turns u text decided o h Fine w at c = record { leaves = refl; keeps = mails u (Put text) None (Count o h) w (at, c) }
stored_turns u text decided o h reply w at c = record { leaves = refl; keeps = decides_so u (Put text) o.fresh _ w }

text_turns : (u : ObjectName) (before : List ℕ) (o : Opened) (h : Head) (found : Option (List ℕ)) → IsOpened o → IsCounted h → Turns (Goes (with_text u (Take before) o h found)) (taking u o h found)
text_turns u before o h None at c = record { leaves = refl; keeps = decides_so u (Take before) o.fresh _ tt }
text_turns u before o h (Some text) at c = record { leaves = refl; keeps = mails u (Take text) None (Count o h) tt (at, c) }

loaded_turns : (u : ObjectName) (before : List ℕ) (decided : Option MailResult) (o : Opened) (h : Head) (reply : Reply) → IsOpened o → IsCounted h
    → Turns (Goes (behind_loaded u (Take before) o h reply)) (told (stage_left u (Take before) decided (Message o h)) reply)
loaded_turns u before decided o h (Bytes loaded) at c = text_turns u before o h (text_in loaded) at c
loaded_turns u before decided o h reply at c = record { leaves = refl; keeps = decides_so u (Take before) o.fresh _ tt }

message_turns : (u : ObjectName) (work : MailWork) (decided : Option MailResult) (o : Opened) (h : Head) (reply : Reply) → IsWork work → IsOpened o → IsCounted h
    → Turns (Goes (behind_message u work o h reply)) (told (stage_left u work decided (Message o h)) reply)
message_turns u (Put text) decided o h reply w at c = stored_turns u text decided o h reply w at c
message_turns u (Take before) decided o h reply w at c = loaded_turns u before decided o h reply at c

count_turns : (u : ObjectName) (work : MailWork) (decided : Option MailResult) (o : Opened) (h : Head) (reply : Reply) → IsWork work → Turns (Goes (behind_count u work o reply)) (told (stage_left u work decided (Count o h)) reply)
count_turns u work decided o h Fine w = record { leaves = refl; keeps = mails u work None (Close o.fresh) w tt }
count_turns u work decided o h reply w = record { leaves = refl; keeps = decides_so u work o.fresh _ w }

close_turns : (u : ObjectName) (work : MailWork) (mapped : Bool) (decided : Option MailResult) (reply : Reply) → IsWork work → Turns (behind_close u work mapped (first_decided decided reply)) (told (stage_left u work decided (Close mapped)) reply)
close_turns u work true None Fine w = record { leaves = refl; keeps = mails u work None (Close false) w tt }
close_turns u work true None reply w = record { leaves = refl; keeps = decides_so u work false _ w }
close_turns u work true (Some earlier) reply w = record { leaves = refl; keeps = decides_so u work false earlier w }
close_turns u work false None Fine w = record { leaves = refl; keeps = tt }
close_turns u work false None reply w = record { leaves = refl; keeps = tt }
close_turns u work false (Some earlier) reply w = record { leaves = refl; keeps = tt }

stage_turns : (u : ObjectName) (work : MailWork) (decided : Option MailResult) (stage : Stage) (reply : Reply) → IsWork work → IsStage stage → Fits (stage_op u work stage) reply → Turns (stage_turn u work decided stage reply) (told (stage_left u work decided stage) reply)
stage_turns u work decided Lock reply w h fits = lock_turns u work decided reply w
stage_turns u work decided Length reply w h fits = length_turns u work decided reply w
stage_turns u work decided (Map n) reply w h fits = map_turns u work decided n reply w fits
stage_turns u work decided (Numbers o) reply w h fits = numbers_turns u work decided o reply w h
stage_turns u work decided (Message o h) reply w s fits = message_turns u work decided o h reply w s.0 s.1
stage_turns u work decided (Count o h) reply w s fits = count_turns u work decided o h reply w
stage_turns u work decided (Close mapped) reply w h fits = close_turns u work mapped decided reply w

-- a reply that fits leads a machine on as its dialogue goes on
pub turns : (m : Mailing) (reply : Reply) → IsMailing m → Fits (stage_op m.uid m.work m.stage) reply → Turns (turn m reply) (told (left m) reply)
turns m reply h fits = stage_turns m.uid m.work m.decided m.stage reply h.work h.stage fits

left_of_turn : (come : Option MailResult) (m : Mailing) → left_or come m ≡ turn_left (turn_of come m)
left_of_turn None m = refl
left_of_turn (Some result) m = refl

-- what the code makes of it
pub turned_left : (old new : Mailing) (come : Option MailResult) (reply : Reply) → IsMailing old → Fits (stage_op old.uid old.work old.stage) reply → turn_of come new ≡ turn old reply → left_or come new ≡ told (left old) reply
turned_left old new come reply h fits e = left_of_turn come new ∙ ap turn_left e ∙ (turns old reply h fits).leaves

-- where a machine stands once it was told these replies, the newest first; its first call told nothing
abbrev pub mail_heard : Mailing → List Reply → Option Mailing
mail_heard m [] = stood_after (Some m) None
mail_heard m (reply ∷ heard) = stood_after (mail_heard m heard) (Some reply)

abbrev pub IsOn : Option Mailing → Dialogue → Type 0
IsOn None d = (result : MailResult) × (d ≡ Ends result)
IsOn (Some m) d = IsMailing m × (left m ≡ d)

stands_turned : (t : Turn) (d : Dialogue) → Turns t d → IsOn (state_of t) d
stands_turned (Goes m) d h = (h.keeps, h.leaves)
stands_turned (Comes result) d h = (result, sym h.leaves)

pub on_next : (m : Option Mailing) (d : Dialogue) (reply : Reply) → IsOn m d → FitsSaid (says d) reply → IsOn (stood_after m (Some reply)) (told d reply)
on_next None d reply on fits = absurd (subst (λ (x : Dialogue). FitsSaid (says x) reply) on.1 fits)
on_next (Some m) d reply on fits =
    stands_turned (turn m reply) (told d reply)
    (subst (λ (x : Dialogue). Turns (turn m reply) (told x reply)) on.1 (turns m reply on.0 (fits_op m reply (subst (λ (x : Dialogue). FitsSaid (says x) reply) (sym on.1) fits))))
