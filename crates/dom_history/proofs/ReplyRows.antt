-- Which replies each row of the one store has: what holds of each of them holds of the reply.
use Rattle.std.proofs.Common.{◌≡◌, ◌<◌, ◌≤◌, ◌*◌, ℕ, zero, suc, Bool, true, false, List, [], ◌∷◌, length, take, refl, subst, arith, length-append}
use Rattle.std.specs.Prelude.{All, if◌then◌else◌, Option, Some, None, find}
use Rattle.std.proofs.lemmas.List.{length-take}
use Rattle.std.proofs.lemmas.List.Elements.{All-head, All-tail}
use Rattle.std.proofs.lemmas.Option.{same_Some}
use Rattle.uid_names.specs.Names.{ProcName, ObjectName}
use Rattle.uid_names.specs.Openings.{Start}
use Rattle.uid_names.specs.declared.lock_row.LockRow.{LockRow}
use Rattle.uid_names.specs.declared.mode.Mode.{Mode}
use Rattle.dom_history.specs.declared.op.Reply.{Reply}
use Rattle.dom_history.specs.declared.op.Reply.TheVariants.{Made, Fine, Bytes, Size, At, Locks, Conflict, NoObject, AlreadyHeld, NotHeld, Unsettled, TooMany, NoLock, WrongMode, PastRoom, PastEnd, NoSpace, TooManyMaps, NoSegment, NotMapped}
use Rattle.dom_history.specs.StoreEffects.{StoreEffect}
use Rattle.uid_names.specs.Segments.{segments}
use Rattle.uid_names.specs.declared.segment.TheConstants.{SEGMENT_SIZE}
use Rattle.uid_names.proofs.Runs.{starts-below}
use Rattle.uid_names.specs.declared.limits.TheConstants.{LISTED_ROWS}
use Rattle.dom_history.specs.Mappings.{Mapping, Target, lowest_run}
use Rattle.dom_history.specs.Bytes.{bytes_from, length_of}
use Rattle.dom_history.specs.Objects.{room_of}
use Rattle.dom_history.specs.Replies.{Before, new_reply, lock_reply, conflict_or_fine, unlock_reply, delete_reply, load_reply, store_reply, length_reply, map_reply, map_anew_reply, run_or_none, mapping_of, unmap_reply, list_reply}

-- as many bytes as were asked for
length-bytes_from : (opening : Start) (past : List StoreEffect) (u : ObjectName) (o n : ℕ) → length (bytes_from opening past u o n) ≡ n
length-bytes_from opening past u o zero = refl
length-bytes_from opening past u o (suc n) = grind (arith, length-append, length-bytes_from opening past u o n)

-- nothing is not something
none_not_some : {X : Type 0} (x : X) → None ≡ Some x → ⊥
none_not_some x e = cc

-- what is found is the first or a later one
found_by : {X : Type 0} (P : X → Type 0) (y x : X) (rest : Option X) (b : Bool) → P y → (rest ≡ Some x → P x) → (if b then Some y else rest) ≡ Some x → P x
found_by P y x rest true h later e = subst P (same_Some y x e) h
found_by P y x rest false h later e = later e

-- what holds of each element holds of the one that is found
pub found : {X : Type 0} (P : X → Type 0) (t : X → Bool) (xs : List X) → All P xs → (x : X) → find t xs ≡ Some x → P x
found P t [] h x e = absurd (none_not_some x e)
found P t (y ∷ xs) h x e = found_by P y x (find t xs) (t y) (All-head P y xs h) (found P t xs (All-tail P y xs h) x) e

module _ (P : Reply → Type 0) where
  -- what holds of both holds of the chosen one
  either : (c : Bool) {x y : Reply} → P x → P y → P (if c then x else y)
  either true a b = a
  either false a b = b

  module _ (b : Before) where
    -- the replies to New
    pub new_reply-one : P NoSpace → ((u : ObjectName) → P (Made u)) → (home room : ℕ) → P (new_reply b home room)
    new_reply-one no_space made home room = search (either, no_space, made)

    -- a conflict, or none
    conflict_or_fine-one : ((q : ProcName) (m : Mode) → P (Conflict q m)) → P Fine → (row : Option LockRow) → P (conflict_or_fine row)
    conflict_or_fine-one conflict fine None = fine
    conflict_or_fine-one conflict fine (Some row) = conflict row.proc row.mode

    -- the replies to Lock
    pub lock_reply-one : P AlreadyHeld → P Unsettled → P TooMany → P NoObject → ((q : ProcName) (m : Mode) → P (Conflict q m)) → P Fine → (p : ProcName) (u : ObjectName) (m : Mode) → P (lock_reply b p u m)
    lock_reply-one already unsettled many gone conflict fine p u m =
        search (either, already, unsettled, many, gone, conflict_or_fine-one conflict fine)

    -- the replies to Unlock
    pub unlock_reply-one : P NotHeld → P Fine → (u : ObjectName) → P (unlock_reply b u)
    unlock_reply-one not_held fine u = search (either, not_held, fine)

    -- the replies to Delete
    pub delete_reply-one : P NoLock → P WrongMode → P Fine → (u : ObjectName) → P (delete_reply b u)
    delete_reply-one no_lock wrong fine u = search (either, no_lock, wrong, fine)

    -- the replies to Load
    pub load_reply-one : (t : Option Target) (n : ℕ) → (t ≡ None → P NotMapped) → P NoLock → P PastEnd → ((bytes : List ℕ) → length bytes ≡ n → P (Bytes bytes)) → P (load_reply b t n)
    load_reply-one None n unmapped no_lock past_end bytes = unmapped refl
    load_reply-one (Some t) n unmapped no_lock past_end bytes = search (either, no_lock, past_end, bytes, length-bytes_from)

    -- the replies to Store
    pub store_reply-one : (t : Option Target) (bytes : List ℕ) → (t ≡ None → P NotMapped) → P NoLock → P WrongMode → P PastRoom → P Fine → P (store_reply b t bytes)
    store_reply-one None bytes unmapped no_lock wrong past_room fine = unmapped refl
    store_reply-one (Some t) bytes unmapped no_lock wrong past_room fine = search (either, no_lock, wrong, past_room, fine)

    -- the replies to Length
    pub length_reply-one : (u : ObjectName) → P NoLock → P (Size (length_of b.opening b.past u)) → P (length_reply b u)
    length_reply-one u no_lock size = search (either, no_lock, size)

    -- a run of segments, or none
    run_or_none-one : (first : Option ℕ) → P NoSegment → ((n : ℕ) → first ≡ Some n → P (At (n * SEGMENT_SIZE) true)) → P (run_or_none first)
    run_or_none-one None none run = none
    run_or_none-one (Some n) none run = run n refl

    -- a run begins at one of the 256 segments
    lowest_run-below : (p : ProcName) (count n : ℕ) → lowest_run b.opening b.past p count ≡ Some n → n < 256
    lowest_run-below p count n e = starts-below n _ e

    -- the replies to Map of an object that is held
    map_anew-one : (p : ProcName) (u : ObjectName) (m : Option Mapping) → ((n : Mapping) → m ≡ Some n → P (At n.address false)) → P TooManyMaps → P NoSegment → ((n : ℕ) → n < 256 → P (At (n * SEGMENT_SIZE) true)) → P (map_anew_reply b p u m)
    map_anew-one p u (Some m) stands many none run = stands m refl
    map_anew-one p u None stands many none run =
        search (either, many, run_or_none-one (lowest_run b.opening b.past p (segments (room_of b.opening b.past u))) none (λ n e. run n (lowest_run-below p _ n e)))

    -- the replies to Map
    pub map_reply-one : (p : ProcName) (u : ObjectName) → P NoLock → ((n : Mapping) → mapping_of b p u ≡ Some n → P (At n.address false)) → P TooManyMaps → P NoSegment → ((n : ℕ) → n < 256 → P (At (n * SEGMENT_SIZE) true)) → P (map_reply b p u)
    map_reply-one p u no_lock stands many none run = search (either, no_lock, map_anew-one p u (mapping_of b p u) stands many none run)

    -- the replies to Unmap
    pub unmap_reply-one : (p : ProcName) (u : ObjectName) → P NotMapped → P Fine → P (unmap_reply b p u)
    unmap_reply-one p u unmapped fine = search (either, unmapped, fine)

  -- the replies to List
  pub list_reply-one : ((rows : List LockRow) (more : Bool) → length rows ≤ LISTED_ROWS → P (Locks rows more)) → (listed : List LockRow) → P (list_reply listed)
  list_reply-one locks listed = let short = length-take LISTED_ROWS listed in locks (take LISTED_ROWS listed) _ (grind (arith, short))
