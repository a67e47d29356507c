-- What is asked of mailboxes is in the ranges of operations.
use Rattle.std.proofs.Common.{◌≡◌, ℕ, Option, Some, None, List, [], ◌∷◌, arith}
use Rattle.uid_names.specs.Names.{ObjectName, IsName}
use Rattle.uid_names.specs.declared.mode.Mode.TheVariants.{Write}
use Rattle.dom_history.specs.Ranges.{IsOp}
use Rattle.dom_history.specs.declared.op.Op.{Op}
use Rattle.naming_tree.specs.Sessions.{bytes, fine}
use Rattle.mail_box.specs.Boxes.{extent_of, first_head, head_of, text_in, IsText}
use Rattle.mail_box.specs.Dialogues.{Dialogue, ask, closing}
use Rattle.mail_box.specs.Mails.{come_of, counted, counting, handling, held, judged, judging, knowing, mailing, message_load, message_store, numbers_load, numbers_store, opened_at, opened_left, put_mail, reaching, shutting, take_mail, taking}
use Rattle.mail_box.specs.States.{IsOpened, IsWork}
use Rattle.mail_box.specs.declared.boxes.Extent.{Extent}
use Rattle.mail_box.specs.declared.boxes.Extent.TheVariants.{New, Torn, Whole}
use Rattle.mail_box.specs.declared.boxes.Head.{Head}
use Rattle.mail_box.specs.declared.mailing.Opened.{Opened}
use Rattle.mail_box.specs.declared.step.MailResult.{MailResult}
use Rattle.mail_box.specs.declared.step.MailResult.TheVariants as results
use Rattle.mail_box.specs.declared.work.MailWork.{MailWork}
use Rattle.mail_box.specs.declared.work.MailWork.TheVariants.{Put, Take}
use Rattle.mail_box.proofs.Bytes.{message_size, numbers_size}
use Rattle.mail_box.proofs.Places.{message_in_page}
use Rattle.aegis_shell.proofs.Ranged.{AreOps}
use Rattle.command_ranges.specs.Telling.{AsksInRange}
use Rattle.command_ranges.proofs.Answers.{Anything, any-told}
use Rattle.command_ranges.proofs.Asking.{ask-asks, closing-asks, fine-asks, opened-asks}
use Rattle.command_ranges.proofs.Ranges.{closers-ops}

-- a dialogue of a mailbox asks in its ranges, whatever it comes to
abbrev pub AsksMails : Dialogue → Type 0
AsksMails d = AsksInRange (Anything MailResult) d

fine-mails : (closers : List Op) (op : Op) (further : Dialogue) → AreOps closers → IsOp op → AsksMails further → AsksMails (ask fine closers op (λ _. further))
fine-mails closers op further ops is next = fine-asks (Anything MailResult) results.Store (λ reply. tt) closers op further ops is next

bytes-mails : (closers : List Op) (op : Op) (further : List ℕ → Dialogue) → AreOps closers → IsOp op → ((loaded : List ℕ) → AsksMails (further loaded)) → AsksMails (ask bytes closers op further)
bytes-mails closers op further ops is next =
    ask-asks (Anything MailResult) results.Store (λ reply. tt) bytes (Anything (List ℕ)) closers op further ops is (λ reply may. any-told (bytes reply)) (λ loaded _. next loaded)

closing-mails : (closers : List Op) (result : MailResult) → AreOps closers → AsksMails (closing closers result)
closing-mails closers result ops = closing-asks (Anything MailResult) closers result ops tt

shutting-mails : (closers : List Op) (result : MailResult) → AreOps closers → AsksMails (shutting closers result)
shutting-mails [] result ops = tt
shutting-mails (op ∷ closers) result ops = fine-mails closers op (shutting closers result) ops.1 ops.0 (shutting-mails closers result ops.1)

module _ (u : ObjectName) (is : IsName u) (o : Opened) (at : IsOpened o) where
  ops : AreOps (held u o)
  ops = closers-ops o.fresh u is

  counting-mails : (work : MailWork) (h : Head) → AsksMails (counting u o work h)
  counting-mails work h =
      let range : IsOp (numbers_store o (counted work h)) = (tt, (omega (arith, numbers_size (counted work h)), omega (arith, at.at, numbers_size (counted work h)))) in
      fine-mails (held u o) (numbers_store o (counted work h)) (shutting (held u o) (come_of work)) ops range (shutting-mails (held u o) (come_of work) ops)

  taking-mails : (h : Head) (found : Option (List ℕ)) → AsksMails (taking u o h found)
  taking-mails h None = closing-mails (held u o) results.BadMail ops
  taking-mails h (Some text) = counting-mails (Take text) h

  handling-mails : (work : MailWork) (h : Head) → IsWork work → AsksMails (handling u o work h)
  handling-mails (Put text) h w =
      let range : IsOp (message_store o h.put text) = (tt, (omega (arith, message_size text w), omega (arith, message_size text w, message_in_page o h.put at))) in
      fine-mails (held u o) (message_store o h.put text) (counting u o (Put text) h) ops range (counting-mails (Put text) h)
  handling-mails (Take before) h w =
      let range : IsOp (message_load o h.taken) = (tt, (omega arith, message_in_page o h.taken at)) in
      bytes-mails (held u o) (message_load o h.taken) (λ loaded. taking u o h (text_in loaded)) ops range (λ loaded. taking-mails h (text_in loaded))

  judging-mails : (work : MailWork) (h : Head) → IsWork work → (found : Option MailResult) → AsksMails (judging u o work h found)
  judging-mails work h w None = handling-mails work h w
  judging-mails work h w (Some result) = closing-mails (held u o) result ops

  reaching-mails : (work : MailWork) → IsWork work → (extent : Extent) → AsksMails (reaching u o work extent)
  reaching-mails work w New = judging-mails work first_head w (judged work first_head)
  reaching-mails work w Torn = closing-mails (held u o) results.BadMail ops
  reaching-mails work w Whole =
      let range : IsOp (numbers_load o) = (tt, (omega arith, omega (arith, at.at))) in
      bytes-mails (held u o) (numbers_load o) (λ loaded. knowing u o work (head_of loaded)) ops range (λ loaded. judging-mails work (head_of loaded) w (judged work (head_of loaded)))

mailing-mails : (u : ObjectName) (work : MailWork) → IsName u → IsWork work → AsksMails (mailing u work)
mailing-mails u work is w =
    opened-asks (Anything MailResult) results.Store (λ reply. tt) u Write (λ n at. opened_left u work n (opened_at at.0 at.1)) is
    (λ n at long there. reaching-mails u is (opened_at at.0 at.1) (record { at = there.0; below = there.1 }) work w (extent_of n))

pub put-mails : (u : ObjectName) (text : List ℕ) → IsName u → IsText text → AsksMails (put_mail u text)
put-mails u text is t = mailing-mails u (Put text) is t

pub take-mails : (u : ObjectName) → IsName u → AsksMails (take_mail u)
take-mails u is = mailing-mails u (Take []) is tt
