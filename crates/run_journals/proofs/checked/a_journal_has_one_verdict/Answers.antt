use Rattle.std.proofs.Common.{◌≡◌, ℕ, ◌≤◌, List, length, ap, arith}
use Rattle.std.specs.Prelude.{◌^◌, reverse}
use Rattle.std.proofs.lemmas.List.{length-reverse}
use Rattle.dom_history.specs.Events.{Happening}
use Rattle.script_reader.specs.Scripts.{Content}
use Rattle.aegis_shell.proofs.Parts.{node_names}
use Rattle.journal_text.specs.Written.{IsJournal, IsBadLine}
use Rattle.run_laws.proofs.Parts.{run-world}
use Rattle.script_runs.specs.Reports.{names_of}
use Rattle.script_runs.specs.Setups.{setup_of}
use Rattle.run_journals.specs.Begins.{CanRun}
use Rattle.run_journals.proofs.JournalLengths.{lines-few}
use Rattle.run_journals.proofs.Verdicts.{AreInitial, AreKept, one-no, never-no, one-run}
use Rattle.run_journals.proofs.checked.a_journal_has_one_verdict.Goals as goal

pub returns : goal.returns
returns c =
    let same : (s : Content) → CanRun s → (bytes : List ℕ) (es fs : List Happening) → IsJournal (names_of s) bytes es → IsJournal (names_of s) bytes fs → es ≡ fs =
    λ s can bytes es fs first second. c.journals_have_one_reading.ensures.events (names_of s) bytes es fs (node_names s can.content) first second in
    let never : (s : Content) → CanRun s → (bytes : List ℕ) (es : List Happening) (n : ℕ) → IsJournal (names_of s) bytes es → IsBadLine (names_of s) bytes n → ⊥ =
    λ s can bytes es n first bad. c.journals_have_one_reading.ensures.never_both (names_of s) bytes es n (node_names s can.content) first bad in
    let bad_once : (s : Content) → CanRun s → (bytes : List ℕ) (m n : ℕ) → IsBadLine (names_of s) bytes m → IsBadLine (names_of s) bytes n → m ≡ n =
    λ s can bytes m n first second. c.journals_have_one_reading.ensures.fault (names_of s) bytes m n (node_names s can.content) first second in
    let initial : (s : Content) → AreInitial s = λ s newer older run. c.an_initial_part_of_a_recent_run_is_one.ensures (setup_of s) newer older run in
    let kept : (s : Content) → CanRun s → (bytes : List ℕ) → length bytes ≤ 2 ^ 40 → (es : List Happening) → IsJournal (names_of s) bytes es → AreKept s (reverse es) =
    λ s can bytes few es is planned.
    let led = run-world (setup_of s) (reverse es) planned.run in
    let long = lines-few (names_of s) es in
    let text = ap (λ (bs : List ℕ). length bs) is.text in
    let back = length-reverse es in
    c.a_run_is_planned_where_each_event_has_its_place.ensures.kept (setup_of s) s.plan (reverse es) led.0 (c.scripts_set_nodes_up.ensures s can.content can.start) led.1
    (c.a_run_of_few_events_is_timely.ensures (setup_of s) (reverse es) led.0 planned.run led.1 (omega (arith, few, long, text, back))) planned in
    record {
      never_both = λ s bytes n cause can accepted refused.
          never-no s bytes (same s can bytes) (never s can bytes) (bad_once s can bytes) (initial s) accepted.events accepted.world accepted.is
          (λ planned. c.a_run_is_planned_where_each_event_has_its_place.ensures.kept (setup_of s) s.plan accepted.events accepted.world (c.scripts_set_nodes_up.ensures s can.content can.start)
          accepted.is.run.run.leads accepted.is.run.timely planned) n cause refused;
      one = λ s bytes m n first second can few this that. one-no s bytes (same s can bytes) (never s can bytes) (bad_once s can bytes) (initial s) (kept s can bytes few) m n first second this that;
      one_run = λ s bytes es fs w v can first second. one-run s bytes (same s can bytes) (never s can bytes) (bad_once s can bytes) es fs w v first second;
    }
