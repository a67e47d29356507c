-- What was written, or was not, keeps what is promised.
use Rattle.std.proofs.Common.{◌≡◌, ◌≢◌, ◌⊎◌, ◌∙◌, ◌+◌, ◌==◌, ℕ, Bool, true, false, Option, List, inl, inr, refl, sym, ap, subst, arith}
use Rattle.std.specs.Prelude.{◌||◌, IfSome}
use Rattle.uid_names.specs.declared.limits.TheConstants.{SCRIPT_BYTES}
use Rattle.dom_io.specs.Known.{TakesAtMost}
use Rattle.script_reader.specs.Scripts.{Content}
use Rattle.script_maker.specs.Generated.{generated}
use Rattle.script_runs.specs.Runs.{last_tick}
use Rattle.script_runner.specs.Reports.{StaysBelow}
use Rattle.script_runner.specs.Faults.{ComesToLastTick}
use Rattle.script_runner.specs.declared.words.Asked.{Asked}
use Rattle.script_runner.specs.declared.words.Asked.TheVariants.{Reads, Generates}
use Rattle.script_runner.specs.Outside.{Stream, bytes_of, IsSame, Fails, NeverFalls, Adds, AddsPart, AddsOrFails}
use Rattle.script_runner.specs.Domain.{RunFor, LimitFor, IsRefusalFor}
use Rattle.script_runner.specs.Promises.{is_status, IsStatusOf, PromiseOfRun, Promised, LacksScript, IsDone}
use Rattle.script_runner.specs.DueTexts.{IsRead, IsUnread}
use Rattle.script_runner.proofs.Sourced.{AreNeverBoth, AreOneContent, same_script, not_lacking, script_not_refused}

-- numbers that a test tells apart
pub differs : (test : ℕ → Bool) (m n : ℕ) → test m ≡ true → test n ≡ false → m ≡ n → ⊥
differs test m n holds fails is = let both : true ≡ false = sym holds ∙ (ap test is ∙ fails) in absurd (cc)

-- the statuses of a run that is written, of a refusal, of a text and where nothing is written
abbrev is_of_run : ℕ → Bool
is_of_run status = (status == 0) || ((status == 5) || ((status == 6) || (status == 7)))

abbrev is_of_refusal : ℕ → Bool
is_of_refusal status = (status == 3) || (status == 5)

abbrev is_of_text : ℕ → Bool
is_of_text status = (status == 2) || ((status == 3) || (status == 5))

abbrev is_end : ℕ → Bool
is_end status = (status == 4) || ((status == 7) || (status == 8))

abbrev pub IsOfRun : ℕ → Type 0
IsOfRun status = (status ≡ 0) ⊎ ((status ≡ 5) ⊎ ((status ≡ 6) ⊎ (status ≡ 7)))

of_run : (test : ℕ → Bool) → test 0 ≡ true → test 5 ≡ true → test 6 ≡ true → test 7 ≡ true → (status : ℕ) → IsOfRun status → test status ≡ true
of_run test zero five six seven status (inl is) = ap test is ∙ zero
of_run test zero five six seven status (inr (inl is)) = ap test is ∙ five
of_run test zero five six seven status (inr (inr (inl is))) = ap test is ∙ six
of_run test zero five six seven status (inr (inr (inr is))) = ap test is ∙ seven

-- where no write failed
done : (s : Content) (turns : Option ℕ) (status : ℕ) → IsOfRun status → IfSome turns (λ number. StaysBelow s number last_tick) → (status ≡ 5 → ⊥) → (status ≡ 6 → ⊥) → IsDone s turns status
done s turns status (inl is) below out_fine journal_fine = inl (is, below)
done s turns status (inr (inl is)) below out_fine journal_fine = absurd (out_fine is)
done s turns status (inr (inr (inl is))) below out_fine journal_fine = absurd (journal_fine is)
done s turns status (inr (inr (inr is))) below out_fine journal_fine = inr (inl is)

ended : (s : Content) (turns : Option ℕ) (status : ℕ) → (status ≡ 7) ⊎ (status ≡ 8) → (status ≡ 8 → (node : ℕ) × ComesToLastTick s turns last_tick node) → IsDone s turns status
ended s turns status (inl seven) comes = inr (inl seven)
ended s turns status (inr eight) comes = inr (inr (eight, comes eight))

-- the count of what stays as it was
pub never_falls : {A : Type 0} (x : Stream A) → IsSame x → NeverFalls x
never_falls x same = let is = ap x.faults same in omega (arith, is)

-- a text that was added, or a first part of it
module _ {A : Type 0} (x : Stream A) (text : List ℕ) (status result : ℕ) where
  of_text : (test : ℕ → Bool) → test status ≡ true → test 5 ≡ true → AddsOrFails x text status result → test result ≡ true
  of_text test this five (inl added) = ap test added.0 ∙ this
  of_text test this five (inr cut) = ap test cut.0 ∙ five

  added_at : AddsOrFails x text status result → (5 ≡ status → ⊥) → result ≡ status → Adds x text
  added_at (inl added) apart is = added.1
  added_at (inr cut) apart is = absurd (apart (sym cut.0 ∙ is))

  refused : AddsOrFails x text status result → (Fails x → ⊥) → result ≡ status
  refused (inl added) fine = added.0
  refused (inr cut) fine = absurd (fine cut.1)

  cut_at : AddsOrFails x text status result → (status ≡ 5 → ⊥) → result ≡ 5 → Fails x × AddsPart x text
  cut_at (inl added) apart is = absurd (apart (sym added.0 ∙ is))
  cut_at (inr cut) apart is = (cut.1, cut.2)

-- what is told of a run, and its journal, as they are written
pub record WritesRun {O J : Type 0} (out : Stream O) (journal : Stream J) (text lines : List ℕ) (status : ℕ) : Type 0 where
  pub status_is : IsOfRun status
  pub told : status ≢ 5 → status ≢ 7 → Adds out text
  pub fault : status ≡ 5 → Fails out
  pub text_cut : status ≡ 5 → AddsPart out text
  pub no_journal : (status ≡ 5) ⊎ (status ≡ 7) → IsSame journal
  pub nothing_told : status ≡ 7 → IsSame out
  pub written : status ≡ 0 → Adds journal lines
  pub journal_fault : status ≡ 6 → Fails journal
  pub lines_cut : status ≡ 6 → AddsPart journal lines
  pub out_count : NeverFalls out
  pub journal_count : NeverFalls journal

module _ {S O J : Type 0} (script : Stream S) (out : Stream O) (journal : Stream J) where
  -- what each status says of what is outside
  pub run_statuses : (text lines : List ℕ) (status : ℕ) → WritesRun out journal text lines status → TakesAtMost (SCRIPT_BYTES + 1) (script.tells script.old) (script.tells script.new) → NeverFalls script → IsStatusOf script out journal status
  run_statuses text lines status writes taken count = record {
    listed = of_run is_status refl refl refl refl status writes.status_is;
    read_fault = λ is. absurd (differs is_of_run status 4 (of_run is_of_run refl refl refl refl status writes.status_is) refl is);
    write_fault = writes.fault;
    journal_fault = writes.journal_fault;
    nothing_written = silent;
    no_journal = still writes.status_is;
    taken = taken;
    script_count = count;
    out_count = writes.out_count;
    journal_count = writes.journal_count;
  }
    where
      silent : (status ≡ 4) ⊎ ((status ≡ 7) ⊎ (status ≡ 8)) → IsSame out
      silent (inl is) = absurd (differs is_of_run status 4 (of_run is_of_run refl refl refl refl status writes.status_is) refl is)
      silent (inr (inl is)) = writes.nothing_told is
      silent (inr (inr is)) = absurd (differs is_of_run status 8 (of_run is_of_run refl refl refl refl status writes.status_is) refl is)

      still : IsOfRun status → status ≢ 0 → status ≢ 6 → IsSame journal
      still (inl is) run cut = absurd (run is)
      still (inr (inl is)) run cut = writes.no_journal (inl is)
      still (inr (inr (inl is))) run cut = absurd (cut is)
      still (inr (inr (inr is))) run cut = writes.no_journal (inr is)

  pub text_statuses : (text : List ℕ) (status result : ℕ) → is_status status ≡ true → is_of_text status ≡ true → (status ≡ 5 → ⊥) → AddsOrFails out text status result → IsSame journal → TakesAtMost (SCRIPT_BYTES + 1) (script.tells script.old) (script.tells script.new) → NeverFalls script → NeverFalls out → IsStatusOf script out journal result
  text_statuses text status result listed is_text apart written same taken count out_count = record {
    listed = of_text out text status result is_status listed refl written;
    read_fault = λ is. absurd (differs is_of_text result 4 (of_text out text status result is_of_text is_text refl written) refl is);
    write_fault = λ is. (cut_at out text status result written apart is).0;
    journal_fault = λ is. absurd (differs is_of_text result 6 (of_text out text status result is_of_text is_text refl written) refl is);
    nothing_written = silent;
    no_journal = λ _ _. same;
    taken = taken;
    script_count = count;
    out_count = out_count;
    journal_count = never_falls journal same;
  }
    where
      silent : (result ≡ 4) ⊎ ((result ≡ 7) ⊎ (result ≡ 8)) → IsSame out
      silent (inl is) = absurd (differs is_of_text result 4 (of_text out text status result is_of_text is_text refl written) refl is)
      silent (inr (inl is)) = absurd (differs is_of_text result 7 (of_text out text status result is_of_text is_text refl written) refl is)
      silent (inr (inr is)) = absurd (differs is_of_text result 8 (of_text out text status result is_of_text is_text refl written) refl is)

  pub end_statuses : (status : ℕ) → is_status status ≡ true → is_end status ≡ true → (status ≡ 4 → Fails script) → IsSame out → IsSame journal → TakesAtMost (SCRIPT_BYTES + 1) (script.tells script.old) (script.tells script.new) → NeverFalls script → IsStatusOf script out journal status
  end_statuses status listed ends fails same_out same_journal taken count = record {
    listed = listed;
    read_fault = fails;
    write_fault = λ is. absurd (differs is_end status 5 ends refl is);
    journal_fault = λ is. absurd (differs is_end status 6 ends refl is);
    nothing_written = λ _. same_out;
    no_journal = λ _ _. same_journal;
    taken = taken;
    script_count = count;
    out_count = never_falls out same_out;
    journal_count = never_falls journal same_journal;
  }

  -- a run was due
  runs_of_run : (asked : Asked) (text lines : List ℕ) (status : ℕ) → RunFor asked (bytes_of script) text lines → WritesRun out journal text lines status → PromiseOfRun asked script out journal status
  runs_of_run asked text lines status run writes =
      let of = of_run is_of_run refl refl refl refl status writes.status_is in
      record {
        no_usage = differs is_of_run status 2 of refl;
        run = λ is. record {
          text = text;
          lines = lines;
          run = run;
          told = writes.told (λ five. absurd (omega (arith, is, five))) (λ seven. absurd (omega (arith, is, seven)));
          written = writes.written is;
        };
        text_cut = λ is. record { text = text; due = inl (lines, run); part = writes.text_cut is };
        journal_cut = λ is. record {
          text = text;
          lines = lines;
          run = run;
          told = writes.told (λ five. absurd (omega (arith, is, five))) (λ seven. absurd (omega (arith, is, seven)));
          part = writes.lines_cut is;
        };
        limit = λ is. absurd (differs is_of_run status 8 of refl is);
      }

  pub run_kept : AreOneContent → (asked : Asked) (text lines : List ℕ) (status : ℕ) → RunFor asked (bytes_of script) text lines → IsUnread asked script → WritesRun out journal text lines status → Promised asked script out journal status
  run_kept one (Reads turns) text lines status run unread writes = record {
    runs = runs_of_run (Reads turns) text lines status run writes;
    bytes_refused = λ is. absurd (differs is_of_run status 3 (of_run is_of_run refl refl refl refl status writes.status_is) refl is);
    complete = λ has script_fine out_fine journal_fine. done has.script turns status writes.status_is
        (subst (λ s. IfSome turns (λ number. StaysBelow s number last_tick)) (same_script one (bytes_of script) has run.script run.source) run.run.below)
        (λ is. out_fine (writes.fault is)) (λ is. journal_fine (writes.journal_fault is));
    complete_bad = λ lacks script_fine out_fine. absurd (not_lacking (bytes_of script) run.script run.source lacks);
  }
  run_kept one (Generates seed turns) text lines status run unread writes =
      let of = of_run is_of_run refl refl refl refl status writes.status_is in
      record {
        runs = runs_of_run (Generates seed turns) text lines status run writes;
        never_refused = differs is_of_run status 3 of refl;
        never_fails_to_read = differs is_of_run status 4 of refl;
        unread = unread;
        complete = λ out_fine journal_fine. done (generated seed) turns status writes.status_is
            (subst (λ s. IfSome turns (λ number. StaysBelow s number last_tick)) run.source run.run.below) (λ is. out_fine (writes.fault is)) (λ is. journal_fine (writes.journal_fault is));
      }

  -- a refusal was due
  runs_of_refusal : (asked : Asked) (text : List ℕ) (status : ℕ) → IsRefusalFor asked (bytes_of script) text → AddsOrFails out text 3 status → PromiseOfRun asked script out journal status
  runs_of_refusal asked text status due written =
      let of = of_text out text 3 status is_of_refusal refl refl written in
      record {
        no_usage = differs is_of_refusal status 2 of refl;
        run = λ is. absurd (differs is_of_refusal status 0 of refl is);
        text_cut = λ is. record { text = text; due = inr due; part = (cut_at out text 3 status written (λ five. absurd (omega (arith, five))) is).1 };
        journal_cut = λ is. absurd (differs is_of_refusal status 6 of refl is);
        limit = λ is. absurd (differs is_of_refusal status 8 of refl is);
      }

  pub refusal_kept : (asked : Asked) (text : List ℕ) (status : ℕ) → AreNeverBoth → IsRefusalFor asked (bytes_of script) text → AddsOrFails out text 3 status → Promised asked script out journal status
  refusal_kept (Reads turns) text status never due written = record {
    runs = runs_of_refusal (Reads turns) text status due written;
    bytes_refused = λ is. record { text = text; due = due; added = added_at out text 3 status written (λ five. absurd (omega (arith, five))) is };
    complete = λ has script_fine out_fine journal_fine. absurd (script_not_refused (bytes_of script) text never has due);
    complete_bad = λ lacks script_fine out_fine. inl (refused out text 3 status written out_fine);
  }
  refusal_kept (Generates seed turns) text status never due written = absurd due

  -- nothing was due
  runs_of_end : (asked : Asked) (status : ℕ) → is_end status ≡ true → (status ≡ 8 → LimitFor asked (bytes_of script)) → PromiseOfRun asked script out journal status
  runs_of_end asked status ends limit = record {
    no_usage = differs is_end status 2 ends refl;
    run = λ is. absurd (differs is_end status 0 ends refl is);
    text_cut = λ is. absurd (differs is_end status 5 ends refl is);
    journal_cut = λ is. absurd (differs is_end status 6 ends refl is);
    limit = limit;
  }

  pub read_fault_kept : (asked : Asked) → IsRead asked → Fails script → Promised asked script out journal 4
  read_fault_kept (Reads turns) read fails = record {
    runs = runs_of_end (Reads turns) 4 refl (λ is. absurd (omega (arith, is)));
    bytes_refused = λ is. absurd (omega (arith, is));
    complete = λ has script_fine out_fine journal_fine. absurd (script_fine fails);
    complete_bad = λ lacks script_fine out_fine. absurd (script_fine fails);
  }
  read_fault_kept (Generates seed turns) read fails = absurd read

  -- no memory, or the last tick
  pub end_kept : AreOneContent → (asked : Asked) (status : ℕ) → (status ≡ 7) ⊎ (status ≡ 8) → is_end status ≡ true → (status ≡ 8 → LimitFor asked (bytes_of script)) → IsUnread asked script → Promised asked script out journal status
  end_kept one (Reads turns) status is ends limit unread = record {
    runs = runs_of_end (Reads turns) status ends limit;
    bytes_refused = λ three. absurd (differs is_end status 3 ends refl three);
    complete = λ has script_fine out_fine journal_fine. ended has.script turns status is (λ eight.
        let reached = limit eight in
        (reached.node, subst (λ s. ComesToLastTick s turns last_tick reached.node) (same_script one (bytes_of script) has reached.script reached.source) reached.comes));
    complete_bad = λ lacks script_fine out_fine. without_script lacks is;
  }
    where
      without_script : LacksScript (script.tells script.old) → (status ≡ 7) ⊎ (status ≡ 8) → (status ≡ 3) ⊎ (status ≡ 7)
      without_script lacks (inl seven) = inr seven
      without_script lacks (inr eight) = absurd (let reached = limit eight in not_lacking (bytes_of script) reached.script reached.source lacks)
  end_kept one (Generates seed turns) status is ends limit unread = record {
    runs = runs_of_end (Generates seed turns) status ends limit;
    never_refused = differs is_end status 3 ends refl;
    never_fails_to_read = λ four. not_four is four;
    unread = unread;
    complete = λ out_fine journal_fine. ended (generated seed) turns status is (λ eight.
        let reached = limit eight in
        (reached.node, subst (λ s. ComesToLastTick s turns last_tick reached.node) reached.source reached.comes));
  }
    where
      not_four : (status ≡ 7) ⊎ (status ≡ 8) → status ≡ 4 → ⊥
      not_four (inl seven) four = absurd (omega (arith, seven, four))
      not_four (inr eight) four = absurd (omega (arith, eight, four))
