-- What `check` says of its source, and with which status; and what it promises.
use Rattle.std.specs.Prelude.{ℕ, ◌==◌, ◌+◌, ◌<◌, ◌≤◌, ◌≡◌, ◌⊎◌, Bool, ◌||◌, IsTrue, List, ◌++◌, length, codes, decimal, Some}
use Rattle.std.specs.Io.KnownBytes.{IsAtEnd}
use Rattle.dom_io.specs.Known.{left_after, TakesAtMost}
use Rattle.dom_history.specs.Events.{Happening}
use Rattle.script_reader.specs.declared.cause.Cause.{Cause as BadCause}
use Rattle.script_reader.specs.declared.cause.Cause.TheVariants.{TooLong}
use Rattle.script_reader.specs.Scripts.{Content}
use Rattle.script_reader.specs.Grammar.{IsScript, IsBad}
use Rattle.node_runs.specs.Runs.{World}
use Rattle.script_runs.specs.Reports.{report_of}
use Rattle.script_runs.specs.Histories.{script_history, IsAsOneStore}
use Rattle.journal_check.specs.declared.verdict.TheConstants.{JOURNAL_BYTES}
use Rattle.journal_check.specs.Journals.{Cause, IsAcceptedOf, IsNo}
use Rattle.journal_check.specs.Verdicts.{cause_text}
use Rattle.script_runner.specs.Outside.{Bytes, Stream, bytes_of, IsSame, Fails, NeverFails, NeverFalls, Adds, AddsPart}
use Rattle.script_runner.specs.Domain.{AreLeft, line_text, refusal}
use Rattle.script_runner.specs.Parted.{IsParted, LacksParting}

-- how many events a journal has that is accepted, and the report of its history
abbrev pub yes_text : ℕ → List ℕ → List ℕ
yes_text events report = codes "yes " ++ decimal events ++ codes "\n" ++ report

-- the journal is that of an ended and recent run of the script, planned by its faults; it is as one store would have it, and the report is that of its history
pub record SaysYes (s : Content) (journal : List ℕ) (status : ℕ) (text : List ℕ) : Type 0 where
  pub events : List Happening
  pub world : World
  pub is : IsAcceptedOf s journal events world
  pub one_store : IsAsOneStore s events world
  pub status_is : status ≡ 0
  pub text_is : text ≡ yes_text (length events) (report_of s (script_history s events))

-- the journal is none of such a run: this line is at fault, for this cause
pub record SaysNo (s : Content) (journal : List ℕ) (status : ℕ) (text : List ℕ) : Type 0 where
  pub line : ℕ
  pub cause : Cause
  pub no : IsNo s journal line cause
  pub status_is : status ≡ 9
  pub text_is : text ≡ line_text line (cause_text cause)

abbrev pub IsVerdict : Content → List ℕ → ℕ → List ℕ → Type 0
IsVerdict s journal status text = SaysYes s journal status text ⊎ SaysNo s journal status text

-- what stands in front of the line between is a script, and this is said of what stands behind it
pub record SaysOfScript (front behind : List ℕ) (status : ℕ) (text : List ℕ) : Type 0 where
  pub script : Content
  pub form : IsScript front script
  pub verdict : IsVerdict script behind status text

-- it is no script
pub record RefusesScript (front : List ℕ) (status : ℕ) (text : List ℕ) : Type 0 where
  pub line : ℕ
  pub cause : BadCause
  pub bad : IsBad front line cause
  pub status_is : status ≡ 3
  pub text_is : text ≡ refusal line cause

-- the bytes have the line between
pub record SaysOfParts (bytes : List ℕ) (status : ℕ) (text : List ℕ) : Type 0 where
  pub front : List ℕ
  pub behind : List ℕ
  pub parted : IsParted bytes front behind
  pub said : SaysOfScript front behind status text ⊎ RefusesScript front status text

-- they do not have it
pub record LacksJournal (bytes : List ℕ) (status : ℕ) (text : List ℕ) : Type 0 where
  pub lacks : LacksParting bytes
  pub status_is : status ≡ 9
  pub text_is : text ≡ line_text 0 (codes "no journal")

-- they are more than are checked; no line is looked at
pub record AreTooMany (bytes : List ℕ) (status : ℕ) (text : List ℕ) : Type 0 where
  pub long : JOURNAL_BYTES < length bytes
  pub status_is : status ≡ 3
  pub text_is : text ≡ refusal 0 TooLong

-- what is said of bytes that are not too many
abbrev pub IsSaidOfFew : List ℕ → ℕ → List ℕ → Type 0
IsSaidOfFew bytes status text = SaysOfParts bytes status text ⊎ LacksJournal bytes status text

-- what is said of bytes, and with which status
abbrev pub IsSaid : List ℕ → ℕ → List ℕ → Type 0
IsSaid bytes status text = AreTooMany bytes status text ⊎ ((length bytes ≤ JOURNAL_BYTES) × IsSaidOfFew bytes status text)

-- the bytes were taken to their end; of too many, one more than are checked
abbrev pub AreTaken : List ℕ → Bytes → Type 0
AreTaken bytes left = ((length bytes ≤ JOURNAL_BYTES) × IsAtEnd left.after) ⊎ ((JOURNAL_BYTES < length bytes) × (left.after ≡ left_after (JOURNAL_BYTES + 1) left.before))

-- what is said of the bytes that a source had left
pub record IsSaidOfSource (left : Bytes) (status : ℕ) (text : List ℕ) : Type 0 where
  pub bytes : List ℕ
  pub are_left : AreLeft left.before bytes
  pub taken : AreTaken bytes left
  pub said : IsSaid bytes status text

-- what is said of the source was added
pub record AddsSaid {O : Type 0} (left : Bytes) (out : Stream O) (status : ℕ) : Type 0 where
  pub text : List ℕ
  pub said : IsSaidOfSource left status text
  pub added : Adds out text

-- a first part of it was added, which may be all
pub record AddsPartOfSaid {O : Type 0} (left : Bytes) (out : Stream O) : Type 0 where
  pub status : ℕ
  pub text : List ℕ
  pub said : IsSaidOfSource left status text
  pub part : AddsPart out text

-- the statuses with which something is said, and all exit statuses of `check`
abbrev pub IsStatusSaid : ℕ → Type 0
IsStatusSaid status = (status ≡ 0) ⊎ ((status ≡ 3) ⊎ (status ≡ 9))

abbrev pub is_status_of_check : ℕ → Bool
is_status_of_check status = (status == 0) || ((status == 3) || ((status == 4) || ((status == 5) || ((status == 7) || (status == 9)))))

-- the word `check`: what each status says; and where nothing outside fails, the status and the text are those that are said of the bytes, or there was no memory
pub record PromiseOfCheck {S O : Type 0} (source : Stream S) (out : Stream O) (status : ℕ) : Type 0 where
  pub listed : IsTrue (is_status_of_check status)
  pub said : IsStatusSaid status → AddsSaid (bytes_of source) out status
  pub text_cut : status ≡ 5 → AddsPartOfSaid (bytes_of source) out
  pub nothing_written : (status ≡ 4) ⊎ (status ≡ 7) → IsSame out
  pub read_fault : status ≡ 4 → Fails source
  pub write_fault : status ≡ 5 → Fails out
  pub complete : NeverFails source → NeverFails out → IsStatusSaid status ⊎ (status ≡ 7)
  pub exact : (bytes : List ℕ) (due : ℕ) (text : List ℕ) → source.tells source.old ≡ Some bytes → IsSaid bytes due text →
      NeverFails source → NeverFails out → ((status ≡ due) × Adds out text) ⊎ (status ≡ 7)
  pub taken : TakesAtMost (JOURNAL_BYTES + 1) (source.tells source.old) (source.tells source.new)
  pub source_count : NeverFalls source
  pub out_count : NeverFalls out
