-- What comes next of logs, and an order of their events that gets one more.
use Rattle.std.proofs.Common.{◌≡◌, ℕ, zero, suc, ◌+◌, ◌<◌, Option, Some, None, IfSome, List, [], ◌∷◌, ◌++◌, length, get_or, refl, sym, ap, ◌∙◌, arith}
use Rattle.std.specs.Prelude.{IsSome, slice_get}
use Rattle.std.proofs.lemmas.List.{length-set, length-replicate}
use Rattle.std.proofs.lemmas.Option.{slice_get_within}
use Rattle.dom_history.specs.Events.{Happening}
use Rattle.dom_history.specs.declared.event.NodeLog.{NodeLog}
use Rattle.dom_history.specs.MergedLogs.{next_at, none_came, one_more, came_by, first_before, in_order, IsOrder}

pub next_at_is : (logs : List NodeLog) (came : List ℕ) (i : ℕ) (d : NodeLog) → i < length logs → i < length came
    → next_at logs came i ≡ slice_get (get_or logs i d).events (get_or came i 0)
next_at_is [] came i d log count = absurd (omega (arith, log))
next_at_is (log ∷ logs) [] i d inside count = absurd (omega (arith, count))
next_at_is (log ∷ logs) (c ∷ came) zero d inside count = refl
next_at_is (log ∷ logs) (c ∷ came) (suc i) d inside count = next_at_is logs came i d (omega (arith, inside)) (omega (arith, count))

pub log_within : (logs : List NodeLog) (came : List ℕ) (i : ℕ) → IsSome (next_at logs came i) → i < length logs
log_within [] came i some = absurd (cc)
log_within (log ∷ logs) [] i some = absurd (cc)
log_within (log ∷ logs) (c ∷ came) zero some = omega arith
log_within (log ∷ logs) (c ∷ came) (suc i) some = let within = log_within logs came i some in omega (arith, within)

pub count_within : (logs : List NodeLog) (came : List ℕ) (i : ℕ) → IsSome (next_at logs came i) → i < length came
count_within [] came i some = absurd (cc)
count_within (log ∷ logs) [] i some = absurd (cc)
count_within (log ∷ logs) (c ∷ came) zero some = omega arith
count_within (log ∷ logs) (c ∷ came) (suc i) some = let within = count_within logs came i some in omega (arith, within)

is_within : (xs : List Happening) (c : ℕ) (r : Option Happening) → r ≡ slice_get xs c → IsSome r → c < length xs
is_within xs c None is some = absurd (cc)
is_within xs c (Some e) is some = slice_get_within xs c e (cc)

-- an event that comes next is one of its log
pub event_within : (logs : List NodeLog) (came : List ℕ) (i : ℕ) (d : NodeLog) → IsSome (next_at logs came i) → get_or came i 0 < length (get_or logs i d).events
event_within logs came i d some =
    is_within (get_or logs i d).events (get_or came i 0) (next_at logs came i) (next_at_is logs came i d (log_within logs came i some) (count_within logs came i some)) some

first_before-append : (o : Option Happening) (xs ys : List Happening) → first_before o (xs ++ ys) ≡ first_before o xs ++ ys
first_before-append None xs ys = refl
first_before-append (Some e) xs ys = refl

in_order-more : (logs : List NodeLog) (came order : List ℕ) (i : ℕ)
    → in_order logs came (order ++ i ∷ []) ≡ in_order logs came order ++ first_before (next_at logs (came_by came order) i) []
in_order-more logs came [] i = refl
in_order-more logs came (k ∷ order) i =
    ap (first_before (next_at logs came k)) (in_order-more logs (one_more came k) order i)
    ∙ first_before-append (next_at logs came k) (in_order logs (one_more came k) order) (first_before (next_at logs (came_by (one_more came k) order) i) [])

length-one_more : (came : List ℕ) (i : ℕ) → length (one_more came i) ≡ length came
length-one_more came i = length-set came i (get_or came i 0 + 1)

length-came_by : (came order : List ℕ) → length (came_by came order) ≡ length came
length-came_by came [] = refl
length-came_by came (i ∷ order) = length-came_by (one_more came i) order ∙ length-one_more came i

-- there is a count for each log
pub length-came : (logs : List NodeLog) (order : List ℕ) → length (came_by (none_came logs) order) ≡ length logs
length-came logs order = length-came_by (none_came logs) order ∙ length-replicate (length logs) 0

length-first_before : (o : Option Happening) (xs : List Happening) → IsSome o → length (first_before o xs) ≡ suc (length xs)
length-first_before None xs some = absurd (cc)
length-first_before (Some e) xs some = refl

-- an order brings as many events as it has places
pub length-in_order : (logs : List NodeLog) (came order : List ℕ) → IsOrder logs came order → length (in_order logs came order) ≡ length order
length-in_order logs came [] is = refl
length-in_order logs came (i ∷ order) is =
    length-first_before (next_at logs came i) (in_order logs (one_more came i) order) is.0 ∙ ap suc (length-in_order logs (one_more came i) order is.1)

pub came_by-more : (came order : List ℕ) (i : ℕ) → came_by came (order ++ i ∷ []) ≡ one_more (came_by came order) i
came_by-more came [] i = refl
came_by-more came (k ∷ order) i = came_by-more (one_more came k) order i

pub order-more : (logs : List NodeLog) (came order : List ℕ) (i : ℕ) → IsOrder logs came order → IsSome (next_at logs (came_by came order) i) → IsOrder logs came (order ++ i ∷ [])
order-more logs came [] i is some = (some, tt)
order-more logs came (k ∷ order) i is some = (is.0, order-more logs (one_more came k) order i is.1 some)

one-event : (o : Option Happening) (old new : List Happening) → new ≡ old ++ first_before o [] → IfSome o (λ e. new ≡ old ++ e ∷ [])
one-event None old new is = tt
one-event (Some e) old new is = is

-- the event that comes next is put last
pub events-more : (logs : List NodeLog) (first came order more : List ℕ) (i : ℕ) → came ≡ came_by first order → more ≡ order ++ i ∷ []
    → IfSome (next_at logs came i) (λ e. in_order logs first more ≡ in_order logs first order ++ e ∷ [])
events-more logs first came order more i counts is =
    one-event (next_at logs came i) (in_order logs first order) (in_order logs first more)
    (ap (in_order logs first) is ∙ in_order-more logs first order i
    ∙ ap (λ (cs : List ℕ). in_order logs first order ++ first_before (next_at logs cs i) []) (sym counts))
