-- What was written of a source that is checked keeps what is promised.
use Rattle.std.proofs.Common.{◌≡◌, ◌⊎◌, ◌∙◌, ◌+◌, ◌==◌, ℕ, Bool, true, false, Option, Some, List, inl, inr, refl, sym, ap, subst, arith}
use Rattle.std.specs.Prelude.{◌||◌}
use Rattle.dom_io.specs.Known.{TakesAtMost}
use Rattle.journal_check.specs.declared.verdict.TheConstants.{JOURNAL_BYTES}
use Rattle.script_reader.specs.Scripts.{Content}
use Rattle.script_runner.specs.Checking.{IsVerdict, IsSaidOfFew, IsSaid, SaysOfScript, RefusesScript, IsSaidOfSource, IsStatusSaid, is_status_of_check, PromiseOfCheck}
use Rattle.script_runner.specs.Domain.{AreLeft}
use Rattle.script_runner.specs.Outside.{Stream, bytes_of, IsSame, NeverFalls, Adds, AddsOrFails}
use Rattle.script_runner.proofs.OneSaid.{OneReading, one_said}
use Rattle.script_runner.proofs.Promising.{differs}

-- the statuses with which something is said
abbrev is_said : ℕ → Bool
is_said status = (status == 0) || ((status == 3) || (status == 9))

module _ (status : ℕ) where
  of_said : (test : ℕ → Bool) → test 0 ≡ true → test 3 ≡ true → test 9 ≡ true → IsStatusSaid status → test status ≡ true
  of_said test zero three nine (inl is) = ap test is ∙ zero
  of_said test zero three nine (inr (inl is)) = ap test is ∙ three
  of_said test zero three nine (inr (inr is)) = ap test is ∙ nine

  unsaid : (other : ℕ) → is_said other ≡ false → IsStatusSaid status → status ≡ other → ⊥
  unsaid other apart said = differs is_said status other (of_said is_said refl refl refl said) apart

  of_verdict : (s : Content) (journal text : List ℕ) → IsVerdict s journal status text → IsStatusSaid status
  of_verdict s journal text (inl accepted) = inl accepted.status_is
  of_verdict s journal text (inr refused) = inr (inr refused.status_is)

  of_parts : (front behind text : List ℕ) → SaysOfScript front behind status text ⊎ RefusesScript front status text → IsStatusSaid status
  of_parts front behind text (inl said) = of_verdict said.script behind text said.verdict
  of_parts front behind text (inr refused) = inr (inl refused.status_is)

  said_status : (bytes text : List ℕ) → IsSaid bytes status text → IsStatusSaid status
  said_status bytes text (inl many) = inr (inl many.status_is)
  said_status bytes text (inr few) = of_few few.1
    where
      of_few : IsSaidOfFew bytes status text → IsStatusSaid status
      of_few (inl parts) = of_parts parts.front parts.behind text parts.said
      of_few (inr lacks) = inr (inr lacks.status_is)

-- bytes that are known to be left are those of which it is said
known_left : (left : Option (List ℕ)) (bytes known : List ℕ) → AreLeft left bytes → left ≡ Some known → known ≡ bytes
known_left left bytes known are is = subst (λ (l : Option (List ℕ)). AreLeft l bytes) is are

module _ {S O : Type 0} (source : Stream S) (out : Stream O) where
  -- something is said, and was added, or a first part of it where a write failed
  pub said_promised : OneReading → (due : ℕ) (text : List ℕ) (status : ℕ) → IsSaidOfSource (bytes_of source) due text → AddsOrFails out text due status
      → TakesAtMost (JOURNAL_BYTES + 1) (source.tells source.old) (source.tells source.new) → NeverFalls source → NeverFalls out → PromiseOfCheck source out status
  said_promised laws due text status said (inl written) taken count out_count =
      let due_said = said_status due said.bytes text said.said in
      let status_said = subst IsStatusSaid (sym written.0) due_said in
      record {
        listed = of_said status is_status_of_check refl refl refl status_said;
        said = λ _. record { text = text; said = subst (λ (k : ℕ). IsSaidOfSource (bytes_of source) k text) (sym written.0) said; added = written.1 };
        text_cut = λ is. absurd (unsaid status 5 refl status_said is);
        nothing_written = silent status_said;
        read_fault = λ is. absurd (unsaid status 4 refl status_said is);
        write_fault = λ is. absurd (unsaid status 5 refl status_said is);
        complete = λ _ _. inl status_said;
        exact = λ bytes other words left is source_fine out_fine.
            let known = known_left (source.tells source.old) said.bytes bytes said.are_left left in
            let same = one_said laws said.bytes due other text words said.said (subst (λ (b : List ℕ). IsSaid b other words) known is) in
            inl (written.0 ∙ same.0, subst (Adds out) same.1 written.1);
        taken = taken;
        source_count = count;
        out_count = out_count;
      }
    where
      silent : IsStatusSaid status → (status ≡ 4) ⊎ (status ≡ 7) → IsSame out
      silent is_said_so (inl is) = absurd (unsaid status 4 refl is_said_so is)
      silent is_said_so (inr is) = absurd (unsaid status 7 refl is_said_so is)
  said_promised laws due text status said (inr cut) taken count out_count =
      record {
        listed = ap is_status_of_check cut.0;
        said = λ is. absurd (unsaid status 5 refl is cut.0);
        text_cut = λ _. record { status = due; text = text; said = said; part = cut.2 };
        nothing_written = silent;
        read_fault = λ is. absurd (let five = cut.0 in omega (arith, is, five));
        write_fault = λ _. cut.1;
        complete = λ source_fine out_fine. absurd (out_fine cut.1);
        exact = λ bytes other words left is source_fine out_fine. absurd (out_fine cut.1);
        taken = taken;
        source_count = count;
        out_count = out_count;
      }
    where
      silent : (status ≡ 4) ⊎ (status ≡ 7) → IsSame out
      silent (inl is) = absurd (let five = cut.0 in omega (arith, is, five))
      silent (inr is) = absurd (let five = cut.0 in omega (arith, is, five))
