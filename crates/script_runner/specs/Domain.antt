-- What the program writes: its texts, and what they tell of the script that the words ask for.
use Rattle.std.specs.Prelude.{ℕ, zero, suc, ◌+◌, ◌≡◌, ◌⊎◌, List, ◌++◌, codes, decimal, Option, IfSome}
use Rattle.std.specs.Io.KnownBytes.{IsAtEnd}
use Rattle.uid_names.specs.declared.limits.TheConstants.{SCRIPT_BYTES}
use Rattle.dom_io.specs.Known.{left_after}
use Rattle.dom_history.specs.Histories.{History}
use Rattle.script_reader.specs.declared.cause.Cause.{Cause}
use Rattle.script_reader.specs.Causes.{cause_text}
use Rattle.script_reader.specs.Scripts.{Content}
use Rattle.script_reader.specs.Grammar.{IsScript, IsBad}
use Rattle.script_maker.specs.Generated.{generated}
use Rattle.script_runs.specs.Runs.{last_tick}
use Rattle.script_runs.specs.Reports.{report_of}
use Rattle.script_runs.specs.Summaries.{summary_of}
use Rattle.script_runs.specs.Histories.{script_history}
use Rattle.script_runner.specs.declared.words.Asked.{Asked}
use Rattle.script_runner.specs.declared.words.Asked.TheVariants.{Reads, Generates}
use Rattle.script_runner.specs.declared.run.Ran.{Ran}
use Rattle.script_runner.specs.Words.{turns_of}
use Rattle.script_runner.specs.Outside.{Bytes}
use Rattle.script_runner.specs.Reports.{RunOf, journal_of}
use Rattle.script_runner.specs.Faults.{ComesToLastTick}

abbrev pub usage : List ℕ
usage = codes "usage: domain run [--turns N] | domain gen SEED [--turns N] | domain check\n"

-- what is said of a line, and why
abbrev pub line_text : ℕ → List ℕ → List ℕ
line_text line why = codes "line " ++ decimal line ++ codes ": " ++ why ++ codes "\n"

-- what is said of a bad line
abbrev pub refusal : ℕ → Cause → List ℕ
refusal line cause = line_text line (cause_text cause)

-- the bytes are all that the source had left, where it tells that
abbrev pub AreLeft : Option (List ℕ) → List ℕ → Type 0
AreLeft left bytes = IfSome left (λ known. known ≡ bytes)

-- the bytes of a source are this script, and it is at its end
pub record IsSourceOf (left : Bytes) (script : Content) : Type 0 where
  pub bytes : List ℕ
  pub are_left : AreLeft left.before bytes
  pub form : IsScript bytes script
  pub at_end : IsAtEnd left.after

-- the script that is run: the one whose bytes the source had left, or the one that is generated from a seed
abbrev pub IsScriptFor : Asked → Bytes → Content → Type 0
IsScriptFor (Reads turns) left script = IsSourceOf left script
IsScriptFor (Generates seed turns) left script = script ≡ generated seed

-- what is told of a history: the report, or for a script that was generated the line that sums it up
abbrev pub text_for : Asked → Content → History → List ℕ
text_for (Reads turns) s h = report_of s h
text_for (Generates seed turns) s h = summary_of seed s h

-- one run of the script that is asked for, what is told of its history, and its journal
pub record RunFor (asked : Asked) (left : Bytes) (text lines : List ℕ) : Type 0 where
  pub script : Content
  pub source : IsScriptFor asked left script
  pub ran : Ran
  pub run : RunOf script (turns_of asked) last_tick ran
  pub told : text ≡ text_for asked script (script_history script run.events)
  pub written : lines ≡ journal_of script run.events

-- a node comes to the last tick: in the turns of the number that is asked for, or where none is said in a run of the script's nodes
pub record LimitFor (asked : Asked) (left : Bytes) : Type 0 where
  pub script : Content
  pub source : IsScriptFor asked left script
  pub node : ℕ
  pub comes : ComesToLastTick script (turns_of asked) last_tick node

-- what was taken of bytes that are bad at this line: one byte more than a script may have where they are too long, which is line 0, else all
abbrev pub IsTakenTo : ℕ → Bytes → Type 0
IsTakenTo zero left = left.after ≡ left_after (SCRIPT_BYTES + 1) left.before
IsTakenTo (suc line) left = IsAtEnd left.after

-- the bytes of a source are bad at this line, for this cause
pub record IsBadSource (left : Bytes) (line : ℕ) (cause : Cause) : Type 0 where
  pub bytes : List ℕ
  pub are_left : AreLeft left.before bytes
  pub bad : IsBad bytes line cause
  pub taken : IsTakenTo line left

-- the bytes of a source are bad, and the text names their first bad line and its cause
pub record IsRefusalOfSource (left : Bytes) (text : List ℕ) : Type 0 where
  pub line : ℕ
  pub cause : Cause
  pub bad : IsBadSource left line cause
  pub written : text ≡ refusal line cause

-- the same where the script is read; no other is refused
abbrev pub IsRefusalFor : Asked → Bytes → List ℕ → Type 0
IsRefusalFor (Reads turns) left text = IsRefusalOfSource left text
IsRefusalFor (Generates seed turns) left text = ⊥

-- the text that is due: what is told of a run, or what is said of the first bad line
abbrev pub IsDue : Asked → Bytes → List ℕ → Type 0
IsDue asked left text = ((lines : List ℕ) × RunFor asked left text lines) ⊎ IsRefusalFor asked left text
