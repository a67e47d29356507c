-- From what the parts of a check answer to its verdict.
use Rattle.std.proofs.Common.{◌≡◌, ℕ, ◌<◌, ◌≤◌, Option, List, [], length, refl, sym, ap, subst, ◌∙◌, arith}
use Rattle.std.specs.Prelude.{◌^◌, reverse, Result, Ok, Err, IfOk, IfErr}
use Rattle.std.specs.Result.{IsErrAnd}
use Rattle.std.proofs.lemmas.List.{length-reverse, reverse-reverse}
use Rattle.dom_history.specs.declared.op.Reply.{Reply}
use Rattle.dom_history.specs.declared.op.Want.{Want}
use Rattle.dom_history.specs.Events.{Happening}
use Rattle.uid_names.specs.declared.limits.TheConstants.{MAX_NODES}
use Rattle.script_reader.specs.Scripts.{Content}
use Rattle.journal_text.specs.Written.{IsJournal}
use Rattle.node_core.specs.Nodes.{Noted}
use Rattle.node_runs.specs.Runs.{first_world}
use Rattle.script_runs.specs.Reports.{names_of}
use Rattle.script_runs.specs.Setups.{setup_of}
use Rattle.run_journals.specs.Causes.{Cause, IsNo}
use Rattle.run_journals.proofs.JournalLengths.{lines-few}
use Rattle.dom_history.specs.declared.plan.FateRow.{FateRow}
use Rattle.journal_check.specs.Judged.{ArePlaces}
use Rattle.journal_check.specs.declared.places.Places.{Places}
use Rattle.journal_check.specs.Passes.{Made, StandsFor}
use Rattle.journal_check.specs.declared.pass.Pass.{Pass}
use Rattle.journal_check.specs.Passing.{HaveHappened, AreAll}
use Rattle.journal_check.specs.Verdicts.{IsChecked, IsGivenOf, IsNoMemory, IsRefused, IsStopped, IsUnread, IsVerdict, cause_seen}
use Rattle.journal_check.specs.declared.verdict.TheConstants.{JOURNAL_BYTES}
use Rattle.journal_check.specs.declared.verdict.Checked.{Checked}
use Rattle.journal_check.specs.declared.verdict.CheckFault.{CheckFault}
use Rattle.journal_check.specs.declared.verdict.CheckFault.TheVariants.{No, NoMemory}
use Rattle.journal_check.specs.declared.verdict.NoCause.{NoCause}

-- a journal that is not too long has few events
pub few-events : (names : List (List ℕ)) (bytes : List ℕ) (events : List Happening) → IsJournal names bytes events → length bytes ≤ JOURNAL_BYTES → length events < 2 ^ 40
few-events names bytes events is few =
    let long = lines-few names events in
    let text = ap (λ (bs : List ℕ). length bs) is.text in
    omega (arith, few, long, text)

-- bytes that are no journal are refused
pub unread-refused : (s : Content) (names : List (List ℕ)) (bytes : List ℕ) (fault : CheckFault) → names ≡ names_of s → IsUnread names bytes fault → IsRefused s bytes fault
unread-refused s names bytes (No line cause) same is =
    subst (λ (c : NoCause). IsNo s bytes line (cause_seen c)) (sym is.0) (subst (λ (ns : List (List ℕ)). IsUnread ns bytes (No line cause)) same is).1
unread-refused s names bytes NoMemory same is = tt

-- so is a journal of which an event may not happen
pub stopped-refused : (s : Content) (bytes : List ℕ) (events : List Happening) (fault : CheckFault) → IsJournal (names_of s) bytes events → IsStopped s events fault → IsRefused s bytes fault
stopped-refused s bytes events (No line cause) journal is =
    subst (λ (c : NoCause). IsNo s bytes line (cause_seen c)) (sym is.0) (record { events = events; journal = journal; fault = is.1 })
stopped-refused s bytes events NoMemory journal is = tt

-- what is accepted is refused for want of memory alone
pub only-memory : (s : Content) (bytes : List ℕ) (fault : CheckFault) → ((line : ℕ) (cause : Cause) → IsNo s bytes line cause → ⊥) → IsRefused s bytes fault → IsNoMemory fault
only-memory s bytes (No line cause) never is = never line (cause_seen cause) is
only-memory s bytes NoMemory never is = tt

-- there are few nodes
pub few-nodes : {P : Type 0} (wants : P → Want) (becomes : P → Option Reply → P) (made : Made P) (s : Content) (nodes : List (Noted P)) (plan : List FateRow) (names : List (List ℕ)) → IsGivenOf wants becomes made s nodes plan names → length nodes ≤ MAX_NODES
few-nodes wants becomes made s nodes plan names given =
    let many = given.nodes_are.count in
    let same = given.can.content.draft.opening_nodes in
    let few = given.can.content.draft.few_nodes in
    subst (λ k. k ≤ MAX_NODES) (sym (many ∙ same)) few

module _ {P G : Type 0} (wants : P → Want) (becomes : P → Option Reply → P) (made : Made P) (s : Content) where
  -- before the first event
  pub none-happened : (pass : Pass P G) (places : Places) → StandsFor wants becomes made (setup_of s) pass (first_world (setup_of s)) → ArePlaces s.plan s.opening.nodes [] places → HaveHappened wants becomes made s [] pass places
  none-happened pass places stands are = record { world = first_world (setup_of s); done = refl; stands = stands; places_are = are }

  -- behind the last one
  pub all-happened : (bytes : List ℕ) (events : List Happening) (count : ℕ) (pass : Pass P G) (places : Places) (nodes : List (Noted P)) (plan : List FateRow) (names : List (List ℕ)) → IsGivenOf wants becomes made s nodes plan names
      → IsJournal (names_of s) bytes events → count ≡ length events → HaveHappened wants becomes made s (reverse events) pass places → AreAll wants becomes made s bytes count pass places
  all-happened bytes events count pass places nodes plan names given journal many happened = record {
    events = reverse events;
    can = given.can;
    journal = subst (IsJournal (names_of s) bytes) (sym (reverse-reverse events)) journal;
    count_is = many ∙ sym (length-reverse events);
    happened = happened;
  }

  -- a fault that is passed on
  pub verdict-refused : (bytes : List ℕ) (r : Result (Checked P G) CheckFault) (fault : CheckFault) → IsErrAnd r (λ f. f ≡ fault) → IsRefused s bytes fault → IsVerdict wants becomes made s bytes r
  verdict-refused bytes (Ok c) fault is refused = absurd is
  verdict-refused bytes (Err f) fault is refused = subst (IsRefused s bytes) (sym is) refused

  -- what a verdict says, by its parts
  pub verdict-yes : (bytes : List ℕ) (r : Result (Checked P G) CheckFault) → IsVerdict wants becomes made s bytes r → IfOk r (IsChecked wants becomes made s bytes)
  verdict-yes bytes (Ok c) is = is
  verdict-yes bytes (Err fault) is = tt

  pub verdict-no : (bytes : List ℕ) (r : Result (Checked P G) CheckFault) → IsVerdict wants becomes made s bytes r → IfErr r (IsRefused s bytes)
  verdict-no bytes (Ok c) is = tt
  verdict-no bytes (Err fault) is = is

  pub verdict-only : (bytes : List ℕ) (r : Result (Checked P G) CheckFault) → IsVerdict wants becomes made s bytes r → ((line : ℕ) (cause : Cause) → IsNo s bytes line cause → ⊥) → IfErr r IsNoMemory
  verdict-only bytes (Ok c) is never = tt
  verdict-only bytes (Err fault) is never = only-memory s bytes fault never is
