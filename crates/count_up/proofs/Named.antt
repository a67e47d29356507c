-- Which processes count, and that the others do nothing.
use Rattle.std.proofs.Common.{◌≡◌, ℕ, Bool, true, false, List, [], ◌∷◌, refl, inl, inr}
use Rattle.std.specs.Prelude.{◌⊎◌, All}
use Rattle.std.proofs.lemmas.List.Elements.{All-cons, All-nil}
use Rattle.uid_names.specs.Names.{ProcName, same_proc}
use Rattle.uid_names.proofs.Orders.{same_proc_is, same_proc-itself}
use Rattle.dom_history.specs.declared.op.Entry.{Entry}
use Rattle.dom_history.specs.declared.op.Want.{Want}
use Rattle.dom_history.specs.declared.op.Want.TheVariants.{Done}
use Rattle.dom_history.specs.Follows.{Heard, Reaches, starts, answered, passed, entries_of}
use Rattle.count_up.proofs.Sides.{Who, One, Two, Three, name_of}

-- who asks nothing has no entries
pub idle : (ask : Heard → Want) → ((heard : Heard) → ask heard ≡ Done) → (es : List Entry) (heard : Heard) (phase : ℕ) → Reaches ask es heard phase → es ≡ []
idle ask done es told now starts = refl
idle ask done es told now (answered {past} {heard} {phase} e reaches asks_is in_phase) = absurd (cc (done heard, asks_is))
idle ask done es told now (passed {past} {heard} {phase} reaches asks_is) = absurd (cc (done heard, asks_is))

-- a process is one of the three, or none of them
who_is : (p : ProcName) → ((v : Who) × (p ≡ name_of v)) ⊎ ((v : Who) → same_proc p (name_of v) ≡ false)
who_is p = by_tests (same_proc p (name_of One)) (same_proc p (name_of Two)) (same_proc p (name_of Three)) refl refl refl
  where
    by_tests : (a b c : Bool) → same_proc p (name_of One) ≡ a → same_proc p (name_of Two) ≡ b → same_proc p (name_of Three) ≡ c → ((v : Who) × (p ≡ name_of v)) ⊎ ((v : Who) → same_proc p (name_of v) ≡ false)
    by_tests true b c one two three = inl (One, same_proc_is p (name_of One) one)
    by_tests false true c one two three = inl (Two, same_proc_is p (name_of Two) two)
    by_tests false false true one two three = inl (Three, same_proc_is p (name_of Three) three)
    by_tests false false false one two three = inr none
      where
        none : (v : Who) → same_proc p (name_of v) ≡ false
        none One = one
        none Two = two
        none Three = three

-- where the others have no entries, each entry is of one of the three
pub of_three : (es : List Entry) → ((p : ProcName) → ((v : Who) → same_proc p (name_of v) ≡ false) → entries_of p es ≡ []) → All (λ e. (v : Who) × (e.proc ≡ name_of v)) es
of_three [] none = All-nil (λ e. (v : Who) × (e.proc ≡ name_of v))
of_three (e ∷ es) none = All-cons (λ e. (v : Who) × (e.proc ≡ name_of v)) e es (by_who (who_is e.proc)) (of_three es (λ p out. rest p (none p out)))
  where
    by_who : ((v : Who) × (e.proc ≡ name_of v)) ⊎ ((v : Who) → same_proc e.proc (name_of v) ≡ false) → (v : Who) × (e.proc ≡ name_of v)
    by_who (inl one) = one
    by_who (inr out) = let here : e ∷ entries_of e.proc es ≡ [] = rw (same_proc-itself e.proc) at (none e.proc out) in absurd (cc here)

    rest : (p : ProcName) → entries_of p (e ∷ es) ≡ [] → entries_of p es ≡ []
    rest p is = by_test (same_proc e.proc p) refl
      where
        by_test : (b : Bool) → same_proc e.proc p ≡ b → entries_of p es ≡ []
        by_test true same = let here : e ∷ entries_of p es ≡ [] = rw same at is in absurd (cc here)
        by_test false same = rw same at is
