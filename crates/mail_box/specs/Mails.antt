-- How a text is put into a mailbox, and how the first is taken. An object is opened, its numbers are read, a message is stored or loaded, the
-- numbers are stored, and it is closed. `held` are the operations that close what is open, newest first.
use Rattle.std.specs.Prelude.{ℕ, ◌+◌, Bool, true, false, Option, Some, None, List, [], ◌∷◌}
use Rattle.uid_names.specs.Names.{ObjectName}
use Rattle.uid_names.specs.declared.mode.Mode.TheVariants.{Write}
use Rattle.dom_history.specs.declared.op.Op.{Op}
use Rattle.dom_history.specs.declared.op.Op.TheVariants.{Lock, Unlock, Length, Map, Load, Store}
use Rattle.dom_history.specs.declared.op.Spot.TheVariants.{Addr}
use Rattle.naming_tree.specs.Sessions.{fine, size, place, bytes, closers_if}
use Rattle.mail_box.specs.Boxes.{extent_of, first_head, head_bytes, head_of, is_bad_head, is_empty, is_full, message_bytes, one_put, one_taken, place_of, text_in}
use Rattle.mail_box.specs.Dialogues.{Dialogue, Ends, ask, closing}
use Rattle.mail_box.specs.declared.boxes.TheConstants.{MESSAGE_BYTES, NUMBER_BYTES}
use Rattle.mail_box.specs.declared.boxes.Extent.{Extent}
use Rattle.mail_box.specs.declared.boxes.Extent.TheVariants.{New, Torn, Whole}
use Rattle.mail_box.specs.declared.boxes.Head.{Head}
use Rattle.mail_box.specs.declared.mailing.Opened.{Opened}
use Rattle.mail_box.specs.declared.step.MailResult.{MailResult}
use Rattle.mail_box.specs.declared.step.MailResult.TheVariants as results
use Rattle.mail_box.specs.declared.work.MailWork.{MailWork}
use Rattle.mail_box.specs.declared.work.MailWork.TheVariants.{Put, Take}

-- a mailbox as it is mapped
abbrev pub opened_at : ℕ → Bool → Opened
opened_at address fresh = record { address = address; fresh = fresh }

-- its numbers, and a message by its number
abbrev pub numbers_load : Opened → Op
numbers_load o = Load (Addr o.address) NUMBER_BYTES

abbrev pub numbers_store : Opened → Head → Op
numbers_store o h = Store (Addr o.address) (head_bytes h)

abbrev pub message_load : Opened → ℕ → Op
message_load o i = Load (Addr (o.address + place_of i)) MESSAGE_BYTES

abbrev pub message_store : Opened → ℕ → List ℕ → Op
message_store o i text = Store (Addr (o.address + place_of i)) (message_bytes text)

-- what the numbers alone decide
abbrev pub refused_if : Bool → MailResult → Option MailResult
refused_if true result = Some result
refused_if false result = None

abbrev pub judged_if : Bool → Option MailResult → Option MailResult
judged_if true further = Some results.BadMail
judged_if false further = further

abbrev pub judged : MailWork → Head → Option MailResult
judged (Put text) h = judged_if (is_bad_head h) (refused_if (is_full h) results.Full)
judged (Take text) h = judged_if (is_bad_head h) (refused_if (is_empty h) results.Empty)

-- the numbers behind a work, and what it comes to
abbrev pub counted : MailWork → Head → Head
counted (Put text) h = one_put h
counted (Take text) h = one_taken h

abbrev pub come_of : MailWork → MailResult
come_of (Put text) = results.Put
come_of (Take text) = results.Taken text

-- Close: the first that is refused is the result
abbrev pub shutting : List Op → MailResult → Dialogue
shutting [] result = Ends result
shutting (op ∷ held) result = ask fine held op (λ _. shutting held result)

-- a mailbox that is open
module _ (u : ObjectName) (o : Opened) where
  abbrev pub held : List Op
  held = closers_if o.fresh u

  -- the numbers are stored last
  abbrev pub counting : MailWork → Head → Dialogue
  counting work h = ask fine held (numbers_store o (counted work h)) (λ _. shutting held (come_of work))

  -- a message is loaded
  abbrev pub taking : Head → Option (List ℕ) → Dialogue
  taking h None = closing held results.BadMail
  taking h (Some text) = counting (Take text) h

  -- the message is stored, or the first one is loaded
  abbrev pub handling : MailWork → Head → Dialogue
  handling (Put text) h = ask fine held (message_store o h.put text) (λ _. counting (Put text) h)
  handling (Take before) h = ask bytes held (message_load o h.taken) (λ loaded. taking h (text_in loaded))

  -- unless the numbers decide
  abbrev pub judging : MailWork → Head → Option MailResult → Dialogue
  judging work h None = handling work h
  judging work h (Some result) = closing held result

  abbrev pub knowing : MailWork → Head → Dialogue
  knowing work h = judging work h (judged work h)

  -- a mailbox of length 0 is empty, and one that is shorter than its first message is bad
  abbrev pub reaching : MailWork → Extent → Dialogue
  reaching work New = knowing work first_head
  reaching work Torn = closing held results.BadMail
  reaching work Whole = ask bytes held (numbers_load o) (λ loaded. knowing work (head_of loaded))

-- Open: the lock, the length, and the mapping
abbrev pub mapping : ObjectName → ℕ → (ℕ → Opened → Dialogue) → Dialogue
mapping u n further = ask place (Unlock u ∷ []) (Map u) (λ at. further n (opened_at at.0 at.1))

abbrev pub measuring : ObjectName → (ℕ → Opened → Dialogue) → Dialogue
measuring u further = ask size (Unlock u ∷ []) (Length u) (λ n. mapping u n further)

abbrev pub opening : ObjectName → (ℕ → Opened → Dialogue) → Dialogue
opening u further = ask fine [] (Lock u Write) (λ _. measuring u further)

-- what is done once it is open
abbrev pub opened_left : ObjectName → MailWork → ℕ → Opened → Dialogue
opened_left u work n o = reaching u o work (extent_of n)

abbrev pub mailing : ObjectName → MailWork → Dialogue
mailing u work = opening u (opened_left u work)

-- a text is put last
abbrev pub put_mail : ObjectName → List ℕ → Dialogue
put_mail u text = mailing u (Put text)

-- the first is taken
abbrev pub take_mail : ObjectName → Dialogue
take_mail u = mailing u (Take [])
