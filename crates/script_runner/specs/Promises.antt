-- What the program promises: of each status whatever the words are, of words that are refused, and of what the words ask for, case by case.
use Rattle.std.specs.Prelude.{ℕ, ◌==◌, ◌+◌, ◌≡◌, ◌≢◌, ◌⊎◌, Bool, ◌||◌, IsTrue, List, Option, Some, IfSome}
use Rattle.uid_names.specs.declared.limits.TheConstants.{SCRIPT_BYTES}
use Rattle.dom_io.specs.Known.{TakesAtMost}
use Rattle.script_reader.specs.Scripts.{Content}
use Rattle.script_reader.specs.Grammar.{IsScript}
use Rattle.script_maker.specs.Generated.{generated}
use Rattle.script_runs.specs.Runs.{last_tick}
use Rattle.script_runner.specs.Reports.{StaysBelow}
use Rattle.script_runner.specs.Faults.{ComesToLastTick}
use Rattle.script_runner.specs.declared.words.Asked.{Asked}
use Rattle.script_runner.specs.declared.words.Asked.TheVariants.{Reads, Generates}
use Rattle.script_runner.specs.Outside.{Bytes, Stream, bytes_of, IsSame, Fails, NeverFails, NeverFalls, Adds, AddsPart, AddsOrFails}
use Rattle.script_runner.specs.Domain.{usage, RunFor, LimitFor, IsRefusalOfSource, IsDue}

-- the exit statuses
abbrev pub is_status : ℕ → Bool
is_status status = (status == 0) || ((status == 2) || ((status == 3) || ((status == 4) || ((status == 5) || ((status == 6) || ((status == 7) || (status == 8)))))))

-- what each status says of what is outside, whatever the words are: a failure only where its count of faults rose, and what stays as it was
pub record IsStatusOf {S O J : Type 0} (script : Stream S) (out : Stream O) (journal : Stream J) (status : ℕ) : Type 0 where
  pub listed : IsTrue (is_status status)
  pub read_fault : status ≡ 4 → Fails script
  pub write_fault : status ≡ 5 → Fails out
  pub journal_fault : status ≡ 6 → Fails journal
  pub nothing_written : (status ≡ 4) ⊎ ((status ≡ 7) ⊎ (status ≡ 8)) → IsSame out
  pub no_journal : status ≢ 0 → status ≢ 6 → IsSame journal
  pub taken : TakesAtMost (SCRIPT_BYTES + 1) (script.tells script.old) (script.tells script.new)
  pub script_count : NeverFalls script
  pub out_count : NeverFalls out
  pub journal_count : NeverFalls journal

-- words that are not taken: the usage is written, and nothing is read
pub record RefusesWords {S O : Type 0} (script : Stream S) (out : Stream O) (status : ℕ) : Type 0 where
  pub written : AddsOrFails out usage 2 status
  pub unread : IsSame script

-- what is told of a run and its journal were added, each to its sink
pub record AddsRun {O J : Type 0} (asked : Asked) (left : Bytes) (out : Stream O) (journal : Stream J) : Type 0 where
  pub text : List ℕ
  pub lines : List ℕ
  pub run : RunFor asked left text lines
  pub told : Adds out text
  pub written : Adds journal lines

-- what is told of a run was added, and a first part of the journal of the same run, which may be all of it
pub record AddsPartOfRun {O J : Type 0} (asked : Asked) (left : Bytes) (out : Stream O) (journal : Stream J) : Type 0 where
  pub text : List ℕ
  pub lines : List ℕ
  pub run : RunFor asked left text lines
  pub told : Adds out text
  pub part : AddsPart journal lines

-- a first part of the text that was due was added, which may be all of it
pub record AddsPartOfDue {O : Type 0} (asked : Asked) (left : Bytes) (out : Stream O) : Type 0 where
  pub text : List ℕ
  pub due : IsDue asked left text
  pub part : AddsPart out text

-- what is said of the first bad line was added
pub record AddsRefusal {O : Type 0} (left : Bytes) (out : Stream O) : Type 0 where
  pub text : List ℕ
  pub due : IsRefusalOfSource left text
  pub added : Adds out text

-- words that are taken, whichever script they ask for: it was run where what is told of it was written, and a node of it comes to the last tick where that is said
pub record PromiseOfRun {S O J : Type 0} (asked : Asked) (script : Stream S) (out : Stream O) (journal : Stream J) (status : ℕ) : Type 0 where
  pub no_usage : status ≢ 2
  pub run : status ≡ 0 → AddsRun asked (bytes_of script) out journal
  pub text_cut : status ≡ 5 → AddsPartOfDue asked (bytes_of script) out
  pub journal_cut : status ≡ 6 → AddsPartOfRun asked (bytes_of script) out journal
  pub limit : status ≡ 8 → LimitFor asked (bytes_of script)

-- the source tells that it has the bytes of a script left
pub record HasScript (left : Option (List ℕ)) : Type 0 where
  pub bytes : List ℕ
  pub script : Content
  pub left_is : left ≡ Some bytes
  pub form : IsScript bytes script

-- the source tells that the bytes that it has left are no script
pub record LacksScript (left : Option (List ℕ)) : Type 0 where
  pub bytes : List ℕ
  pub left_is : left ≡ Some bytes
  pub none : (script : Content) → IsScript bytes script → ⊥

-- what is told of a run was written, and its journal; or there was no memory, or a node comes to the last tick, with no number of turns in some run of the
-- script's nodes: with a number it is the last exactly where the turns that it picks do so
abbrev pub IsDone : Content → Option ℕ → ℕ → Type 0
IsDone s turns status =
    ((status ≡ 0) × IfSome turns (λ number. StaysBelow s number last_tick)) ⊎ ((status ≡ 7) ⊎ ((status ≡ 8) × ((node : ℕ) × ComesToLastTick s turns last_tick node)))

-- words that ask for a script that is read: bad bytes are refused by their first bad line; and where nothing outside fails a script is run to its end,
-- and all other bytes are refused
pub record PromiseOfReads {S O J : Type 0} (turns : Option ℕ) (script : Stream S) (out : Stream O) (journal : Stream J) (status : ℕ) : Type 0 where
  pub runs : PromiseOfRun (Reads turns) script out journal status
  pub bytes_refused : status ≡ 3 → AddsRefusal (bytes_of script) out
  pub complete : (has : HasScript (script.tells script.old)) → NeverFails script → NeverFails out → NeverFails journal → IsDone has.script turns status
  pub complete_bad : LacksScript (script.tells script.old) → NeverFails script → NeverFails out → (status ≡ 3) ⊎ (status ≡ 7)

-- words that ask for the script of a seed: nothing is read or refused, and where no sink fails the script is run to its end
pub record PromiseOfGenerates {S O J : Type 0} (seed : ℕ) (turns : Option ℕ) (script : Stream S) (out : Stream O) (journal : Stream J) (status : ℕ) : Type 0 where
  pub runs : PromiseOfRun (Generates seed turns) script out journal status
  pub never_refused : status ≢ 3
  pub never_fails_to_read : status ≢ 4
  pub unread : IsSame script
  pub complete : NeverFails out → NeverFails journal → IsDone (generated seed) turns status

-- what is promised where the words ask for this
abbrev pub Promised : {S O J : Type 0} → Asked → Stream S → Stream O → Stream J → ℕ → Type 0
Promised (Reads turns) script out journal status = PromiseOfReads turns script out journal status
Promised (Generates seed turns) script out journal status = PromiseOfGenerates seed turns script out journal status
