-- How far the counters rise.
use Rattle.std.proofs.Common.{◌≡◌, ◌≤◌, ◌<◌, ◌+◌, ◌^◌, ℕ, zero, suc, Bool, true, false, List, [], ◌∷◌, ◌++◌, reverse, length, refl, ap, arith}
use Rattle.std.specs.Prelude.{fold, sum_by, max, nat_lt, not, ◌==◌, if◌then◌else◌, All}
use Rattle.std.proofs.lemmas.List.{length-reverse}
use Rattle.std.proofs.lemmas.List.Elements.{filter-append, All-head, All-tail, All-filter}
use Rattle.std.proofs.lemmas.List.Sums.{fold-append, sum_by-append}
use Rattle.std.proofs.lemmas.Bool.{eqb-true}
use Rattle.uid_names.specs.Names.{ProcName, ObjectName}
use Rattle.uid_names.specs.Openings.{Start, IsStart, IsDeclarable}
use Rattle.uid_names.specs.declared.opening.Object.{Object}
use Rattle.dom_history.specs.declared.op.Op.{Op}
use Rattle.dom_history.specs.declared.op.Op.TheVariants.{New, Lock, Unlock, Delete, Store, Map, Unmap}
use Rattle.dom_history.specs.declared.op.Reply.{Reply}
use Rattle.dom_history.specs.declared.op.Reply.TheVariants.{Made, NoSpace, Fine, At}
use Rattle.dom_history.specs.declared.deed.Deed.{Deed}
use Rattle.dom_history.specs.StoreEffects.{store_effect, store_effects}
use Rattle.uid_names.specs.declared.limits.TheConstants.{VOLUME_ROOM}
use Rattle.uid_names.specs.Beginnings.{at_home, entry_directory}
use Rattle.dom_history.specs.Objects.{is_node, made, entry_directories, greatest_counter, room_taken}
use Rattle.dom_history.specs.Replies.{Before, before_of, reply_of, new_reply}
use Rattle.dom_history.specs.Runs.{AreAnswered}
use Rattle.uid_names.specs.Beginnings.{CanBegin, AreNumbered}
use Rattle.dom_history.proofs.Volumes.{greatest, greatest-push}

-- what a New that was made was given
new-made : (b : Before) (home room : ℕ) (u : ObjectName) → Made u ≡ new_reply b home room → u ≡ record { counter = greatest_counter b.opening b.past home + 1; home = home }
new-made b home room u e = first_of_four (not (is_node b.opening home)) (nat_lt b.opening.greatest room) (nat_lt VOLUME_ROOM (room_taken b.opening b.past home + room)) u _ e where
  first_of_four : (x y z : Bool) (u v : ObjectName) → Made u ≡ (if x then NoSpace else (if y then NoSpace else (if z then NoSpace else Made v))) → u ≡ v
  first_of_four true y z u v e = cc
  first_of_four false true z u v e = cc
  first_of_four false false true u v e = cc
  first_of_four false false false u v e = cc

-- a Made raises no counter by more than one
made-bound : (b : Before) (home room h : ℕ) (o : Object) → Made o.uid ≡ new_reply b home room → greatest h (made b.opening b.past ++ o ∷ []) ≤ greatest_counter b.opening b.past h + 1
made-bound b home room h o m =
    let given = new-made b home room o.uid m in
    let counter : o.uid.counter ≡ greatest_counter b.opening b.past home + 1 = ap (λ u. u.counter) given in
    let at : o.uid.home ≡ home = ap (λ u. u.home) given in
    rw (greatest-push h (made b.opening b.past) o) (raised (made b.opening b.past) home h o counter at) where
      by_test : (xs : List Object) (home h : ℕ) (b : Bool) → (home == h) ≡ b → (if b then max (greatest h xs) (greatest home xs + 1) else greatest h xs) ≤ greatest h xs + 1
      by_test xs home h true e = rw (eqb-true home h e) (omega arith)
      by_test xs home h false e = omega arith

      raised : (xs : List Object) (home h : ℕ) (o : Object) → o.uid.counter ≡ greatest home xs + 1 → o.uid.home ≡ home → (if o.uid.home == h then max (greatest h xs) o.uid.counter else greatest h xs) ≤ greatest h xs + 1
      raised xs home h o counter at = rw (counter, at) (by_test xs home h (home == h) refl)

-- a deed raises no counter by more than one
counters-step : (b : Before) (p : ProcName) (op : Op) (reply : Reply) (h : ℕ) → reply ≡ reply_of b p op → greatest_counter b.opening (store_effect p op reply ++ b.past) h ≤ greatest_counter b.opening b.past h + 1
counters-step b p (New home kind room) (Made u) h e = made-bound b home room h (record { uid = u; kind = kind; room = room }) e
counters-step b p (Lock u m) Fine h e = omega arith
counters-step b p (Unlock u) Fine h e = omega arith
counters-step b p (Delete u) Fine h e = omega arith
counters-step b p (Store spot bytes) Fine h e = omega arith
counters-step b p (Map u) (At address true) h e = omega arith
counters-step b p (Unmap u) Fine h e = omega arith
counters-step b p _ _ h e = omega arith

-- after n deeds no counter is more than n above the opening's
counters-bound : (opening : Start) (past : List Deed) (h : ℕ) → AreAnswered opening past → greatest_counter opening (store_effects past) h ≤ greatest_counter opening [] h + length past
counters-bound opening [] h answered = omega arith
counters-bound opening (d ∷ past) h answered =
    omega (arith, counters-bound opening past h answered.1, counters-step (before_of opening past d.proc) d.proc d.op d.reply h answered.0)

-- as many objects as there are take at least as many pages
length-rooms : (nodes most : ℕ) (os : List Object) → All (IsDeclarable nodes most) os → length os ≤ sum_by (λ o. o.room) os
length-rooms nodes most [] h = omega arith
length-rooms nodes most (o ∷ os) h =
    let first = All-head (IsDeclarable nodes most) o os h in
    omega (arith, first.room_low, sum_by-append (λ x. x.room) (o ∷ []) os, length-rooms nodes most os (All-tail (IsDeclarable nodes most) o os h))

-- the greatest of counters in order
numbered-bound : (n a most : ℕ) (os : List Object) → AreNumbered n os → a ≤ most → n + length os ≤ most + 1 → fold (λ x o. max x o.uid.counter) a os ≤ most
numbered-bound n a most [] h low high = low
numbered-bound n a most (o ∷ os) h low high = numbered-bound (n + 1) (max a o.uid.counter) most os h.1 (omega (arith, h.0)) (omega arith)

-- entry directories have no counter above 1
directories-bound : (n h : ℕ) → greatest h (entry_directories n) ≤ 1
directories-bound zero h = omega arith
directories-bound (suc n) h = rw (greatest-push h (entry_directories n) (entry_directory (suc n))) (by_test (suc n == h) (directories-bound n h)) where
  by_test : (b : Bool) → greatest h (entry_directories n) ≤ 1 → (if b then max (greatest h (entry_directories n)) 1 else greatest h (entry_directories n)) ≤ 1
  by_test true below = omega arith
  by_test false below = below

-- a home has no more declared objects than its volume has pages
length-declared : (opening : Start) (h : ℕ) → CanBegin opening → IsStart opening → length (at_home h opening.objects) ≤ VOLUME_ROOM
length-declared opening h begun start =
    let declared = All-filter (λ o. o.uid.home == h) (IsDeclarable opening.nodes opening.greatest) opening.objects start.objects in
    let least = length-rooms opening.nodes opening.greatest (at_home h opening.objects) declared in
    omega (arith, least, (begun.homes h).fits)

-- an opening from which a store can begin has counters up to two more than a volume has pages
opening-bound : (opening : Start) (h : ℕ) → CanBegin opening → IsStart opening → greatest_counter opening [] h ≤ VOLUME_ROOM + 2
opening-bound opening h begun start =
    rw (filter-append (λ o. o.uid.home == h) (entry_directories opening.nodes) opening.objects, fold-append (λ a o. max a o.uid.counter) 0 (at_home h (entry_directories opening.nodes)) (at_home h opening.objects))
    (numbered-bound 2 (greatest h (entry_directories opening.nodes)) (VOLUME_ROOM + 2) (at_home h opening.objects) (begun.homes h).counters
    (omega (arith, directories-bound opening.nodes h))
    (omega (arith, length-declared opening h begun start)))

-- the counters stay far below those that a name can have
pub counters-small : (opening : Start) (done : List Deed) (h : ℕ) → CanBegin opening → IsStart opening → AreAnswered opening (reverse done) → length done < 2 ^ 40 → greatest_counter opening (store_effects (reverse done)) h < 2 ^ 41
counters-small opening done h begun start answered few =
    omega (arith, counters-bound opening (reverse done) h answered, opening-bound opening h begun start, length-reverse done)
