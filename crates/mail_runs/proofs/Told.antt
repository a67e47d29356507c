-- What the replies to a machine's operations say of the store, and what leaves a mailbox as it was.
use Rattle.std.proofs.Common.{if◌then◌else◌, ◌≡◌, ◌+◌, ◌-◌, ◌∙◌, ℕ, zero, suc, Bool, true, false, not, Option, Some, None, List, [], ◌∷◌, ◌++◌, length, drop, refl, sym, ap, arith}
use Rattle.std.specs.List.{slice_get}
use Rattle.std.specs.Option.{option_map}
use Rattle.std.proofs.lemmas.Bool.{false≢true}
use Rattle.uid_names.specs.Names.{ProcName, ObjectName, same_uid}
use Rattle.uid_names.specs.Openings.{Start}
use Rattle.uid_names.proofs.Orders.{same_uid-sym}
use Rattle.dom_history.specs.declared.op.Entry.{Entry}
use Rattle.dom_history.specs.declared.op.Op.{Op}
use Rattle.dom_history.specs.declared.op.Op.TheVariants.{New, Lock, Unlock, Delete, Load, Store, Length, Map, Unmap}
use Rattle.dom_history.specs.declared.op.Reply.{Reply}
use Rattle.dom_history.specs.declared.op.Reply.TheVariants.{Made, Fine, Bytes, Size, At, NoLock, PastEnd}
use Rattle.dom_history.specs.declared.op.Spot.{Spot}
use Rattle.dom_history.specs.Bytes.{byte, byte_after, bytes_from, end_after, length_of}
use Rattle.dom_history.specs.Legal.{IsAllowed, MayAct}
use Rattle.dom_history.specs.Locks.{is_held, state}
use Rattle.dom_history.specs.Mappings.{Target, target}
use Rattle.dom_history.specs.Objects.{is_named}
use Rattle.dom_history.specs.Replies.{Before}
use Rattle.dom_history.specs.StoreEffects.{StoreEffect, store_effect}
use Rattle.script_reader.specs.declared.command.Command.{Command}
use Rattle.script_reader.specs.declared.command.Command.TheVariants.{Putm, Takem}
use Rattle.script_reader.specs.Scripts.{Content}
use Rattle.aegis_shell.specs.Asking.{answers}
use Rattle.aegis_shell.specs.States.{left}
use Rattle.aegis_shell.specs.Work.{Job, jobs_of, part_of}
use Rattle.dom_history.specs.Histories.{Item}
use Rattle.mail_box.specs.declared.work.MailWork.{MailWork}
use Rattle.mail_box.specs.declared.work.MailWork.TheVariants.{Put, Take}
use Rattle.mail_runs.specs.Commands.{command_at, number_behind}
use Rattle.mail_runs.specs.Mailboxes.{is_mail}
use Rattle.mail_runs.specs.Texts.{last_loaded, object_of, stored_in, text_put, text_taken}
use Rattle.mail_runs.proofs.Faults.{allowed_told}
use Rattle.mail_runs.proofs.Positions.{answers_there, heard_by, pos}
use Rattle.mail_runs.proofs.Sessions.{work_of}
use Rattle.mail_runs.proofs.Talks.{IsSameWork}

-- a length that was told is that of the object
size_by : (held : Bool) (size n : ℕ) → Size n ≡ (if not held then NoLock else Size size) → n ≡ size
size_by false size n e = absurd (cc)
size_by true size n e = cc

pub size_told : (b : Before) (p : ProcName) (u : ObjectName) (n : ℕ) → IsAllowed b p (Length u) (Size n) → n ≡ length_of b.opening b.past u
size_told b p u n allowed = size_by (is_held (state u b.told)) (length_of b.opening b.past u) n (allowed_told b p (Length u) (Size n) refl allowed)

-- bytes that were loaded are those of the object
bytes_by : (held past_end : Bool) (bytes loaded : List ℕ) → Bytes loaded ≡ (if not held then NoLock else (if past_end then PastEnd else Bytes bytes)) → loaded ≡ bytes
bytes_by false past_end bytes loaded e = absurd (cc)
bytes_by true true bytes loaded e = absurd (cc)
bytes_by true false bytes loaded e = cc

pub load_told : (b : Before) (p : ProcName) (spot : Spot) (n : ℕ) (loaded : List ℕ) (u : ObjectName) (o : ℕ) → target b.opening b.past p spot ≡ Some (record { uid = u; offset = o }) → IsAllowed b p (Load spot n) (Bytes loaded)
    → loaded ≡ bytes_from b.opening b.past u o n
load_told b p spot n loaded u o at allowed = bytes_by _ _ (bytes_from b.opening b.past u o n) loaded (rw at at (allowed_told b p (Load spot n) (Bytes loaded) refl allowed))

-- the same bytes, and the same length
abbrev pub IsSame : Start → List StoreEffect → ObjectName → List StoreEffect → Type 0
IsSame opening eff u new = (length_of opening new u ≡ length_of opening eff u) × ((i : ℕ) → byte opening new u i ≡ byte opening eff u i)

-- what stores nothing to an object leaves it
module _ (opening : Start) (eff : List StoreEffect) (q : ProcName) (u : ObjectName) where
  by_target : (t : Option Target) (bytes : List ℕ) → is_named (object_of t) u ≡ false
      → (end_after t bytes u (length_of opening eff u) ≡ length_of opening eff u) × ((i : ℕ) → byte_after t bytes u i (byte opening eff u i) ≡ byte opening eff u i)
  by_target None bytes off = (refl, λ i. refl)
  by_target (Some t) bytes off =
      let other : same_uid t.uid u ≡ false = same_uid-sym t.uid u ∙ off in
      (rw other refl, λ i. rw other refl)

  pub unstored : (op : Op) (reply : Reply) → is_named (stored_in opening eff q op reply) u ≡ false → IsSame opening eff u (store_effect q op reply ++ eff)
  unstored (Store spot bytes) Fine off = by_target (target opening eff q spot) bytes off
  unstored (New home kind room) (Made v) off = (refl, λ i. refl)
  unstored (Lock v m) Fine off = (refl, λ i. refl)
  unstored (Unlock v) Fine off = (refl, λ i. refl)
  unstored (Delete v) Fine off = (refl, λ i. refl)
  unstored (Map v) (At a true) off = (refl, λ i. refl)
  unstored (Unmap v) Fine off = (refl, λ i. refl)
  unstored _ _ off = (refl, λ i. refl)

  -- an act stores nothing
  pub act_stores_not : (op : Op) (reply : Reply) → MayAct opening eff q op reply → is_named (stored_in opening eff q op reply) u ≡ false
  act_stores_not (Store spot bytes) reply may = absurd may
  act_stores_not _ reply may = refl

-- what stands first of those that are left
first_left : {X : Type 0} (xs : List X) (n : ℕ) (x : X) (rest : List X) → drop n xs ≡ x ∷ rest → slice_get xs n ≡ Some x
first_left [] zero x rest is = absurd (cc)
first_left [] (suc n) x rest is = absurd (cc)
first_left (y ∷ ys) zero x rest is = cc
first_left (y ∷ ys) (suc n) x rest is = first_left ys n x rest is

one_less : (n : ℕ) → n + 1 - 1 ≡ n
one_less n = omega arith

-- the command for which a process asks is the first of those that are left to it
pub command_here : (s : Content) (p : ProcName) (past : List Item) (job : Job) (jobs : List Job) → left (part_of s p) (pos s p past) ≡ job ∷ jobs → command_at s p (number_behind s past p) ≡ Some job.command
command_here s p past job jobs is =
    let many = length (answers s p (heard_by s p past)) in
    let there : drop many (jobs_of s p) ≡ job ∷ jobs = ap (λ texts. drop (length texts) (jobs_of s p)) (sym (answers_there s p (heard_by s p past))) ∙ is in
    ap (λ k. option_map (λ (j : Job). j.command) (slice_get (jobs_of s p) k)) (one_less many)
    ∙ ap (option_map (λ (j : Job). j.command)) (first_left (jobs_of s p) many job jobs there)

-- and what it is to one, which a history says
pub put_is : (command : Command) (w : MailWork) (text : List ℕ) → work_of command ≡ Some w → IsSameWork w (Put text) → text_put (Some command) ≡ Some text
put_is (Putm path other) (Put t) text is same = let same_text : other ≡ t = cc in ap Some (same_text ∙ same)
put_is (Putm path other) (Take t) text is same = absurd same
put_is (Takem path) (Put t) text is same = absurd (cc)
put_is (Takem path) (Take t) text is same = absurd same
put_is _ w text is same = absurd (cc)

pub put_takes_not : (command : Command) (w : MailWork) (text : List ℕ) (own : List Entry) → work_of command ≡ Some w → IsSameWork w (Put text) → text_taken (Some command) own ≡ None
put_takes_not (Putm path other) w text own is same = refl
put_takes_not (Takem path) (Put t) text own is same = absurd (cc)
put_takes_not (Takem path) (Take t) text own is same = absurd same
put_takes_not _ w text own is same = absurd (cc)

pub take_is : (command : Command) (w : MailWork) (text : List ℕ) (own : List Entry) → work_of command ≡ Some w → IsSameWork w (Take text) → text_taken (Some command) own ≡ last_loaded own
take_is (Takem path) w text own is same = refl
take_is (Putm path other) (Put t) text own is same = absurd same
take_is (Putm path other) (Take t) text own is same = absurd (cc)
take_is _ w text own is same = absurd (cc)

pub take_puts_not : (command : Command) (w : MailWork) (text : List ℕ) → work_of command ≡ Some w → IsSameWork w (Take text) → text_put (Some command) ≡ None
take_puts_not (Takem path) w text is same = refl
take_puts_not (Putm path other) (Put t) text is same = absurd same
take_puts_not (Putm path other) (Take t) text is same = absurd (cc)
take_puts_not _ w text is same = absurd (cc)

-- a command of mailboxes has a work
pub mail_work : (command : Command) → is_mail (Some command) ≡ true → (w : MailWork) × (work_of command ≡ Some w)
mail_work (Putm path text) is = (Put text, refl)
mail_work (Takem path) is = (Take [], refl)
mail_work _ is = absurd (false≢true is)
