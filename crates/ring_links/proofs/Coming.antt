-- What comes next of logs, and how much is left of them.
use Rattle.std.proofs.Common.{◌≡◌, ◌≢◌, ℕ, zero, suc, ◌+◌, ◌<◌, Option, Some, List, [], ◌∷◌, length, set, get_or, refl, sym, ap, subst, arith}
use Rattle.std.specs.Prelude.{IsSome, slice_get}
use Rattle.std.proofs.lemmas.Option.{slice_get_within}
use Rattle.dom_history.specs.Events.{Happening}
use Rattle.dom_history.specs.declared.event.NodeLog.{NodeLog}
use Rattle.dom_history.specs.MergedLogs.{next_at}
use Rattle.dom_history.proofs.OrderedLogs.{log_within, next_at_is as next_at_gets}
use Rattle.ring_links.specs.Merged.{left}

pub some-same : {A : Type 0} {r : Option A} {x y : A} → r ≡ Some x → r ≡ Some y → x ≡ y
some-same h k = cc

pub next_at_is : (logs : List NodeLog) (came : List ℕ) (j : ℕ) (d : NodeLog) → length came ≡ length logs → j < length logs
    → next_at logs came j ≡ slice_get (get_or logs j d).events (get_or came j 0)
next_at_is logs came j d same within = next_at_gets logs came j d within (omega (arith, same, within))

pub next_at_within : (logs : List NodeLog) (came : List ℕ) (j : ℕ) (e : Happening) → next_at logs came j ≡ Some e → j < length logs
next_at_within logs came j e next = log_within logs came j (subst (λ (r : Option Happening). IsSome r) (sym next) refl)

-- one event more came: fewer are left
pub left_fewer : (logs : List NodeLog) (came : List ℕ) (i : ℕ) (e : Happening) → next_at logs came i ≡ Some e
    → left logs (set came i (get_or came i 0 + 1)) < left logs came
left_fewer [] came i e next = absurd (cc)
left_fewer (log ∷ logs) [] i e next = absurd (cc)
left_fewer (log ∷ logs) (c ∷ came) zero e next = let within = slice_get_within log.events c e next in omega (arith, within)
left_fewer (log ∷ logs) (c ∷ came) (suc i) e next = let fewer = left_fewer logs came i e next in omega (arith, fewer)

-- what comes next of the other logs stays
pub next_at_other : (logs : List NodeLog) (came : List ℕ) (i j n : ℕ) → j ≢ i → next_at logs (set came i n) j ≡ next_at logs came j
next_at_other [] came i j n differs = refl
next_at_other (log ∷ logs) [] i j n differs = refl
next_at_other (log ∷ logs) (c ∷ came) zero zero n differs = absurd (differs refl)
next_at_other (log ∷ logs) (c ∷ came) zero (suc j) n differs = refl
next_at_other (log ∷ logs) (c ∷ came) (suc i) zero n differs = refl
next_at_other (log ∷ logs) (c ∷ came) (suc i) (suc j) n differs = next_at_other logs came i j n (λ same. differs (ap suc same))
