-- What is said of a mailbox to which a history has no stores but those of putm and takem.
use Rattle.std.specs.Prelude.{◌≡◌, ◌≢◌, ◌≤◌, ◌+◌, ◌⊎◌, ◌↔◌, ℕ, ◌==◌, Bool, true, false, Option, Some, List, [], ◌∷◌, ◌++◌, length}
use Rattle.uid_names.specs.Names.{ObjectName, ProcName}
use Rattle.uid_names.specs.declared.mode.Mode.TheVariants.{Write}
use Rattle.dom_history.specs.declared.op.Entry.{Entry}
use Rattle.dom_history.specs.declared.op.Op.{Op}
use Rattle.dom_history.specs.declared.op.Op.TheVariants.{Length, Load, Lock, Map}
use Rattle.dom_history.specs.declared.op.Reply.{Reply}
use Rattle.dom_history.specs.declared.op.Reply.TheVariants.{At, Bytes, Fine, Size}
use Rattle.dom_history.specs.Histories.{History, Item, Answered, Acted}
use Rattle.script_reader.specs.declared.command.Command.{Command}
use Rattle.script_reader.specs.declared.command.Command.TheVariants.{Putm, Takem}
use Rattle.script_reader.specs.Scripts.{Content}
use Rattle.command_talks.specs.Mailed.{bad_mailbox, mailbox_empty, mailbox_full}
use Rattle.script_runs.specs.Answers.{command_behind}
use Rattle.mail_runs.specs.Commands.{answer_at, command_at, command_of, number_behind, own_in}
use Rattle.mail_runs.specs.Texts.{puts, stores_to, takes}

abbrev pub is_mail : Option Command → Bool
is_mail (Some (Putm path text)) = true
is_mail (Some (Takem path)) = true
is_mail command = false

-- what was put is what was taken, and then the texts between, of which there are 56 at most
pub record IsQueue (put taken : List (List ℕ)) : Type 0 where
  pub between : List (List ℕ)
  pub order : put ≡ taken ++ between
  pub few : length between ≤ 56

-- an operation that loads 16 bytes was answered with them
abbrev pub loads_numbers : Op → Reply → Bool
loads_numbers (Load spot n) (Bytes loaded) = n == 16
loads_numbers op reply = false

-- a mapping was answered with its place
abbrev pub IsPlaced : Op → Reply → ObjectName → Type 0
IsPlaced (Map v) (At address fresh) u = v ≡ u
IsPlaced op reply u = ⊥

-- the last of these measured the object: it is of length 0
abbrev pub IsMeasuredEmpty : List Entry → ObjectName → Type 0
IsMeasuredEmpty [] u = ⊥
IsMeasuredEmpty (e ∷ past) u = (e.op ≡ Length u) × (e.reply ≡ Size 0)

module _ (s : Content) (u : ObjectName) where
  -- each store to it is of a putm or a takem
  abbrev pub OnlyMails : List Item → Type 0
  OnlyMails [] = Unit {0}
  OnlyMails (Answered e ∷ past) = (stores_to s.opening past e u ≡ true → is_mail (command_of s past e) ≡ true) × OnlyMails past
  OnlyMails (Acted a ∷ past) = OnlyMails past

  -- behind these entries of its own a process has locked it to write, for the command of this number
  pub record IsOpenedBy (p : ProcName) (number : ℕ) (own : List Entry) : Type 0 where
    pub newer : List Entry
    pub older : List Entry
    pub lock : Entry
    pub stands : own ≡ newer ++ lock ∷ older
    pub asked : lock.op ≡ Lock u Write
    pub granted : lock.reply ≡ Fine
    pub number_is : command_behind s p older ≡ number

  module _ (h : History) (p : ProcName) (number : ℕ) where
    -- an entry of this command, once it has locked the mailbox, is such over what stands before it
    pub record HasEntry (P : List Item → Entry → Type 0) : Type 0 where
      pub newer : List Item
      pub past : List Item
      pub entry : Entry
      pub stands : h.items ≡ newer ++ Answered entry ∷ past
      pub own : entry.proc ≡ p
      pub number_is : number_behind s past p ≡ number
      pub opened : IsOpenedBy p number (own_in past p)
      pub is : P past entry

    -- it loaded the numbers where so many texts were between
    abbrev pub LoadsWith : ℕ → Type 0
    LoadsWith n = HasEntry (λ past e. (loads_numbers e.op e.reply ≡ true) × (length (puts s u past) ≡ length (takes s u past) + n))

    -- it was opened, and its length was 0
    abbrev pub FindsNothing : Type 0
    FindsNothing = HasEntry (λ past e. IsPlaced e.op e.reply u × IsMeasuredEmpty (own_in past p) u)

    -- the command locked it, or was about to
    pub record IsOn : Type 0 where
      pub newer : List Item
      pub past : List Item
      pub entry : Entry
      pub stands : h.items ≡ newer ++ Answered entry ∷ past
      pub own : entry.proc ≡ p
      pub number_is : number_behind s past p ≡ number
      pub asked : entry.op ≡ Lock u Write

    -- the answer of a command on it
    abbrev pub Answers : List ℕ → Type 0
    Answers text = answer_at s h p number ≡ Some text

    pub record IsAnsweredRight : Type 0 where
      pub good : Answers bad_mailbox → ⊥
      pub full : (path text : List ℕ) → command_at s p number ≡ Some (Putm path text) → (Answers mailbox_full ↔ LoadsWith 56)
      pub empty : (path : List ℕ) → command_at s p number ≡ Some (Takem path) → (Answers mailbox_empty ↔ (LoadsWith 0 ⊎ FindsNothing))

module _ (s : Content) (h : History) (u : ObjectName) where
  -- at each place of a history what was taken is a first part of what was put, with at most 56 texts between
  abbrev pub KeepsQueue : Type 0
  KeepsQueue = (newer past : List Item) → h.items ≡ newer ++ past → IsQueue (puts s u past) (takes s u past)

  -- each command on it is answered right
  abbrev pub AnswersRight : Type 0
  AnswersRight = (p : ProcName) (number : ℕ) → is_mail (command_at s p number) ≡ true → IsOn s u h p number → IsAnsweredRight s u h p number

  pub record IsKept : Type 0 where
    pub queue : KeepsQueue
    pub answered : AnswersRight

-- so it is of each mailbox to which the history has no stores but those of putm and takem
abbrev pub AreMailboxesKept : Content → History → Type 0
AreMailboxesKept s h = (u : ObjectName) → OnlyMails s u h.items → IsKept s h u
