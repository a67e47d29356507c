-- What a desk answers, where what it has is what one store has.
use Rattle.std.proofs.Common.{◌≡◌, ℕ, ◌+◌, ◌*◌, ◌/◌, ◌%◌, ◌<◌, ◌≤◌, Bool, true, false, List, length, take, drop, Option, Some, None, IfSome, inl, inr, refl, sym, ap, subst, ◌∙◌, arith}
use Rattle.std.specs.Prelude.{◌&&◌, nat_le, nat_lt}
use Rattle.std.specs.Option.{option_map}
use Rattle.std.specs.List.{Contains}
use Rattle.std.proofs.lemmas.Bool.Decides.{nat_tests}
use Rattle.uid_names.specs.Names.{ProcName, ObjectName, IsName}
use Rattle.uid_names.specs.declared.limits.TheConstants.{PAGE_BYTES, PROCESS_LOCKS}
use Rattle.uid_names.specs.declared.mode.Mode.{Mode}
use Rattle.dom_history.specs.declared.deed.LockState.{LockState}
use Rattle.dom_history.specs.declared.deed.LockState.TheVariants.{Free}
use Rattle.dom_history.specs.declared.op.Op.{Op}
use Rattle.dom_history.specs.declared.op.Op.TheVariants as ops
use Rattle.dom_history.specs.declared.op.Reply.{Reply}
use Rattle.dom_history.specs.declared.op.Reply.TheVariants as replies
use Rattle.dom_history.specs.declared.op.Spot.{Spot}
use Rattle.dom_history.specs.Locks.{state, not_free, is_free, is_held, is_unsettled}
use Rattle.dom_history.specs.Objects.{is_present, room_of}
use Rattle.dom_history.specs.Objects as objects
use Rattle.dom_history.specs.Mappings.{Target, target}
use Rattle.dom_history.specs.Bytes.{bytes_from, length_of}
use Rattle.dom_history.specs.Ranges.{IsOp}
use Rattle.dom_history.specs.Replies.{Before, may_write, may_delete, lock_reply, unlock_reply, delete_reply, load_reply, store_reply, length_reply, reply_of, link_faults}
use Rattle.dom_history.specs.Legal.{IsAllowed}
use Rattle.page_cache.specs.Caches.{Resident, page_at, free_count}
use Rattle.fault_handler.specs.declared.tasks.Work.TheVariants.{Load, Store}
use Rattle.fault_handler.specs.declared.tasks.Task.{Task}
use Rattle.fault_handler.specs.Lengths as known
use Rattle.fault_handler.specs.Lengths.{known_of}
use Rattle.fault_handler.specs.Entries.{keeps}
use Rattle.fault_handler.specs.Tasks.{page_of}
use Rattle.fault_handler.specs.Desks.{DeskState, entries_of, entry_at, state_of, others_fetch, other_transit, is_node}
use Rattle.fault_handler.specs.Accesses.{target_of, task_at, load_at, load_by, store_at, store_by, length_by, page_by, missed_by, frame_by, room_made}
use Rattle.fault_handler.specs.Outcomes.{Turn, Moved}
use Rattle.fault_handler.specs.Victims.{Victim}
use Rattle.fault_handler.specs.Conditions.{IsIdle}
use Rattle.fault_handler.proofs.Beginning.{target-within}
use Rattle.page_cache.specs.Numbers.{dirty_page}
use Rattle.fault_handler.specs.Lengths.{changed_length}
use Rattle.lock_validate.specs.Locking.{begin_lock_of, lock_by}
use Rattle.lock_validate.specs.Releases.{begin_unlock_of, unlock_by, begin_delete_of, delete_by, release_of, transit_first, page_first, length_first}
use Rattle.lock_validate.proofs.States.{neither-free}
use Rattle.node_runs.specs.Rooms.{MayMove}
use Rattle.run_laws.specs.Targets.{target_at}
use Rattle.run_laws.specs.DeskReplies.{MayBeThere}
use Rattle.run_laws.proofs.PartBytes.{in-page}

-- what a desk has of a process's locks and mappings, and of the objects that it keeps, is what one store has
pub record IsLike (b : Before) (name : ProcName) (d : DeskState) (p : ℕ) : Type 0 where
  pub states : (u : ObjectName) → state u b.told ≡ state_of d p u
  pub counts : length (not_free b.told) ≡ length (entries_of d p)
  pub targets : (spot : Spot) → target b.opening b.past name spot ≡ option_map target_at (target_of d p spot)
  pub nodes : d.nodes ≡ b.opening.nodes
  pub absent : (u : ObjectName) → IsName u → objects.is_node b.opening u.home ≡ false → is_present b.opening b.past u ≡ false
  pub lengths : (u : ObjectName) → keeps (entry_at d.entries p u) ≡ true → length_of b.opening b.past u ≡ known.length_of (known_of u d.known)
  pub rooms : (u : ObjectName) → keeps (entry_at d.entries p u) ≡ true → room_of b.opening b.past u ≡ known.room_of (known_of u d.known)
  pub pages : (u : ObjectName) (k : ℕ) (r : Resident) → keeps (entry_at d.entries p u) ≡ true → page_at d.cache.pages u k ≡ Some r → r.bytes ≡ bytes_from b.opening b.past u (PAGE_BYTES * k) PAGE_BYTES

abbrev pub IsSo : Before → ProcName → Op → Turn → Type 0
IsSo b name op (Turn.Ends reply) = IsAllowed b name op reply
IsSo b name op (Turn.Asks home ask) = MayBeThere b name op
IsSo b name op (Turn.Waits u k) = MayBeThere b name op

-- the turn of an operation that does not end
abbrev IsOpenTurn : Turn → Type 0
IsOpenTurn (Turn.Ends reply) = ⊥
IsOpenTurn (Turn.Asks home ask) = Unit {0}
IsOpenTurn (Turn.Waits u k) = Unit {0}

release-open : (d : DeskState) (p : ℕ) (u : ObjectName) (delete : Bool) → IsOpenTurn (release_of d p u delete).turn
release-open d p u delete = by (other_transit d.moving p u) (dirty_page d.cache.pages u) (changed_length (known_of u d.known)) refl refl
  where
    by : (a b c : Option ℕ) → dirty_page d.cache.pages u ≡ b → changed_length (known_of u d.known) ≡ c → IsOpenTurn (transit_first d p u delete a).turn
    by (Some k) b c e f = tt
    by None (Some k) c e f = subst (λ x. IsOpenTurn (page_first d p u delete x).turn) (sym e) tt
    by None None (Some n) e f = subst (λ x. IsOpenTurn (page_first d p u delete x).turn) (sym e) (subst (λ x. IsOpenTurn (length_first d p u delete x).turn) (sym f) tt)
    by None None None e f = subst (λ x. IsOpenTurn (page_first d p u delete x).turn) (sym e) (subst (λ x. IsOpenTurn (length_first d p u delete x).turn) (sym f) tt)

missed-open : (d : DeskState) (p : ℕ) (task : Task) (to : Moved) → MayMove p (missed_by d p task (others_fetch d.moving p task.uid (page_of task))) to → IsOpenTurn to.turn
missed-open d p task to way = by (others_fetch d.moving p task.uid (page_of task)) (nat_lt 0 (free_count d.cache)) refl way
  where
    made : (victim : Victim) → IsOpenTurn (room_made d p task victim).turn
    made (Victim.Drops u k) = tt
    made (Victim.SendsHome r) = tt

    framed : (b : Bool) → MayMove p (frame_by d p task b) to → IsOpenTurn to.turn
    framed true way = subst (λ (m : Moved). IsOpenTurn m.turn) (sym way) tt
    framed false way = subst (λ (m : Moved). IsOpenTurn m.turn) (sym way.2) (made way.0)

    by : (a b : Bool) → nat_lt 0 (free_count d.cache) ≡ b → MayMove p (missed_by d p task a) to → IsOpenTurn to.turn
    by true b e way = subst (λ (m : Moved). IsOpenTurn m.turn) (sym way) tt
    by false b e way = framed (nat_lt 0 (free_count d.cache)) way

-- where one store replies so, a link fault may be told
module _ (b : Before) (name : ProcName) where
  pub load-fault : (spot : Spot) (n : ℕ) (bytes : List ℕ) → reply_of b name (ops.Load spot n) ≡ replies.Bytes bytes → MayBeThere b name (ops.Load spot n)
  load-fault spot n bytes is = inr (subst (λ r. Contains (link_faults (ops.Load spot n) Free r) replies.LinkFault) (sym is) (0, omega arith, refl))

  pub store-fault : (spot : Spot) (bytes : List ℕ) → reply_of b name (ops.Store spot bytes) ≡ replies.Fine → MayBeThere b name (ops.Store spot bytes)
  store-fault spot bytes is = inr (subst (λ r. Contains (link_faults (ops.Store spot bytes) Free r) replies.LinkFault) (sym is) (0, omega arith, refl))

  open-so : (op : Op) (turn : Turn) → IsOpenTurn turn → MayBeThere b name op → IsSo b name op turn
  open-so op (Turn.Ends reply) is may = absurd is
  open-so op (Turn.Asks home ask) is may = may
  open-so op (Turn.Waits u k) is may = may

  -- rows of the table
  module _ (t : Target) where
    load-unheld : (n : ℕ) → is_held (state t.uid b.told) ≡ false → load_reply b (Some t) n ≡ replies.NoLock
    load-unheld n e = rw e refl

    load-past : (n : ℕ) → is_held (state t.uid b.told) ≡ true → nat_lt (length_of b.opening b.past t.uid) (t.offset + n) ≡ true → load_reply b (Some t) n ≡ replies.PastEnd
    load-past n e f = rw (e, f) refl

    pub load-done : (n : ℕ) → is_held (state t.uid b.told) ≡ true → nat_lt (length_of b.opening b.past t.uid) (t.offset + n) ≡ false → load_reply b (Some t) n ≡ replies.Bytes (bytes_from b.opening b.past t.uid t.offset n)
    load-done n e f = rw (e, f) refl

    store-unheld : (bytes : List ℕ) → is_held (state t.uid b.told) ≡ false → store_reply b (Some t) bytes ≡ replies.NoLock
    store-unheld bytes e = rw e refl

    store-mode : (bytes : List ℕ) → is_held (state t.uid b.told) ≡ true → may_write (state t.uid b.told) ≡ false → store_reply b (Some t) bytes ≡ replies.WrongMode
    store-mode bytes e f = rw (e, f) refl

    store-past : (bytes : List ℕ) → is_held (state t.uid b.told) ≡ true → may_write (state t.uid b.told) ≡ true → nat_lt (PAGE_BYTES * room_of b.opening b.past t.uid) (t.offset + length bytes) ≡ true → store_reply b (Some t) bytes ≡ replies.PastRoom
    store-past bytes e f g = rw (e, f, g) refl

    pub store-done : (bytes : List ℕ) → is_held (state t.uid b.told) ≡ true → may_write (state t.uid b.told) ≡ true → nat_lt (PAGE_BYTES * room_of b.opening b.past t.uid) (t.offset + length bytes) ≡ false → store_reply b (Some t) bytes ≡ replies.Fine
    store-done bytes e f g = rw (e, f, g) refl

  module _ (u : ObjectName) where
    lock-held : (m : Mode) → is_held (state u b.told) ≡ true → lock_reply b name u m ≡ replies.AlreadyHeld
    lock-held m e = rw e refl

    lock-unsettled : (m : Mode) → is_held (state u b.told) ≡ false → is_unsettled (state u b.told) ≡ true → lock_reply b name u m ≡ replies.Unsettled
    lock-unsettled m e f = rw (f, e) refl

    lock-full : (m : Mode) → is_held (state u b.told) ≡ false → is_unsettled (state u b.told) ≡ false → nat_le PROCESS_LOCKS (length (not_free b.told)) ≡ true → lock_reply b name u m ≡ replies.TooMany
    lock-full m e f g = rw (f, e, g) refl

    lock-elsewhere : (m : Mode) → is_held (state u b.told) ≡ false → is_unsettled (state u b.told) ≡ false → nat_le PROCESS_LOCKS (length (not_free b.told)) ≡ false → is_present b.opening b.past u ≡ false → lock_reply b name u m ≡ replies.NoObject
    lock-elsewhere m e f g h = rw (f, e, g, h) refl

    unlock-free : is_free (state u b.told) ≡ true → unlock_reply b u ≡ replies.NotHeld
    unlock-free e = rw e refl

    delete-unheld : is_held (state u b.told) ≡ false → delete_reply b u ≡ replies.NoLock
    delete-unheld e = rw e refl

    delete-mode : is_held (state u b.told) ≡ true → may_delete (state u b.told) ≡ false → delete_reply b u ≡ replies.WrongMode
    delete-mode e f = rw (e, f) refl

    length-unheld : is_held (state u b.told) ≡ false → length_reply b u ≡ replies.NoLock
    length-unheld e = rw e refl

    length-held : is_held (state u b.told) ≡ true → length_reply b u ≡ replies.Size (length_of b.opening b.past u)
    length-held e = rw e refl

module _ (b : Before) (name : ProcName) (d : DeskState) (p : ℕ) (like : IsLike b name d p) where
  abbrev So : Op → Turn → Type 0
  So op turn = IsSo b name op turn

  told : (test : LockState → Bool) (u : ObjectName) (x : Bool) → test (state_of d p u) ≡ x → test (state u b.told) ≡ x
  told test u x e = ap test (like.states u) ∙ e

  -- a lock begins
  pub lock-so : (u : ObjectName) (m : Mode) → IsName u → So (ops.Lock u m) (begin_lock_of d p u m).turn
  lock-so u m range = by (is_held (state_of d p u)) (is_unsettled (state_of d p u)) (nat_le PROCESS_LOCKS (length (entries_of d p))) (is_node d.nodes u.home) refl refl refl refl
    where
      full : (x : Bool) → nat_le PROCESS_LOCKS (length (entries_of d p)) ≡ x → nat_le PROCESS_LOCKS (length (not_free b.told)) ≡ x
      full x e = ap (λ n. nat_le PROCESS_LOCKS n) like.counts ∙ e

      by : (held unsettled many there : Bool) → is_held (state_of d p u) ≡ held → is_unsettled (state_of d p u) ≡ unsettled → nat_le PROCESS_LOCKS (length (entries_of d p)) ≡ many → is_node d.nodes u.home ≡ there
          → So (ops.Lock u m) (lock_by d p u m held unsettled many there).turn
      by true unsettled many there e f g h = inl (sym (lock-held b name u m (told is_held u true e)))
      by false true many there e f g h = inl (sym (lock-unsettled b name u m (told is_held u false e) (told is_unsettled u true f)))
      by false false true there e f g h = inl (sym (lock-full b name u m (told is_held u false e) (told is_unsettled u false f) (full true g)))
      by false false false false e f g h =
          inl (sym (lock-elsewhere b name u m (told is_held u false e) (told is_unsettled u false f) (full false g) (like.absent u range (ap (λ n. nat_le 1 u.home && nat_le u.home n) (sym like.nodes) ∙ h))))
      by false false false true e f g h = (told is_free u true (neither-free (state_of d p u) e f), (let few = full false g in let less : length (not_free b.told) < PROCESS_LOCKS = grind (arith, nat_tests, few) in less))

  -- an unlock or a removal begins, or goes on
  pub unlock-so : (u : ObjectName) → So (ops.Unlock u) (begin_unlock_of d p u).turn
  unlock-so u = by (is_free (state_of d p u)) (is_held (state_of d p u)) (may_write (state_of d p u)) refl
    where
      by : (free held writes : Bool) → is_free (state_of d p u) ≡ free → So (ops.Unlock u) (unlock_by d p u free held writes).turn
      by true held writes e = inl (sym (unlock-free b name u (told is_free u true e)))
      by false true true e = open-so b name (ops.Unlock u) (release_of d p u false).turn (release-open d p u false) (told is_free u false e)
      by false true false e = told is_free u false e
      by false false writes e = told is_free u false e

  pub delete-so : (u : ObjectName) → So (ops.Delete u) (begin_delete_of d p u).turn
  delete-so u = by (is_held (state_of d p u)) (may_delete (state_of d p u)) refl refl
    where
      by : (held may : Bool) → is_held (state_of d p u) ≡ held → may_delete (state_of d p u) ≡ may → So (ops.Delete u) (delete_by d p u held may).turn
      by false may e f = inl (sym (delete-unheld b name u (told is_held u false e)))
      by true false e f = inl (sym (delete-mode b name u (told is_held u true e) (told may_delete u false f)))
      by true true e f = open-so b name (ops.Delete u) (release_of d p u true).turn (release-open d p u true) (told may_delete u true f)

  -- a length is asked for
  module _ (idle : IsIdle d p) where
    pub length-so : (u : ObjectName) (to : Moved) → MayMove p (length_by d u (is_held (state_of d p u))) to → So (ops.Length u) to.turn
    length-so u to way = by (is_held (state_of d p u)) refl way
      where
        by : (held : Bool) → is_held (state_of d p u) ≡ held → MayMove p (length_by d u held) to → So (ops.Length u) to.turn
        by false e way = subst (λ (m : Moved). So (ops.Length u) m.turn) (sym way) (inl (sym (length-unheld b name u (told is_held u false e))))
        by true e way = subst (λ (m : Moved). So (ops.Length u) m.turn) (sym way) (inl (ap replies.Size (sym (like.lengths u (idle.keeping u e))) ∙ sym (length-held b name u (told is_held u true e))))

    -- a load begins, or goes on
    module _ (spot : Spot) (count : ℕ) (to : Moved) (range : IsOp (ops.Load spot count)) where
      load-on : (x : Option (ObjectName × ℕ)) → target_of d p spot ≡ x → reply_of b name (ops.Load spot count) ≡ load_reply b (option_map target_at x) count
      load-on x e = ap (λ t. load_reply b t count) (like.targets spot ∙ ap (option_map target_at) e)

      load-ends : (reply said : Reply) (x : Option (ObjectName × ℕ)) → target_of d p spot ≡ x → load_reply b (option_map target_at x) count ≡ said → reply ≡ said → to.turn ≡ Turn.Ends reply → So (ops.Load spot count) to.turn
      load-ends reply said x e is same turn = subst (So (ops.Load spot count)) (sym turn) (inl (same ∙ sym (load-on x e ∙ is)))

      module _ (u : ObjectName) (o : ℕ) (e : target_of d p spot ≡ Some (u, o)) where
        module _ (f : is_held (state_of d p u) ≡ true) (g : nat_lt (known.length_of (known_of u d.known)) (o + count) ≡ false) where
          kept : keeps (entry_at d.entries p u) ≡ true
          kept = idle.keeping u f

          done : load_reply b (Some (target_at (u, o))) count ≡ replies.Bytes (bytes_from b.opening b.past u o count)
          done = load-done b name (target_at (u, o)) count (told is_held u true f) (ap (λ n. nat_lt n (o + count)) (like.lengths u kept) ∙ g)

          within : o % PAGE_BYTES + count ≤ PAGE_BYTES
          within = subst (λ x. IfSome x (λ t. t.1 % PAGE_BYTES + count ≤ PAGE_BYTES)) e (target-within d p spot count range.1)

          load-paged : (r : Option Resident) → page_at d.cache.pages u (o / PAGE_BYTES) ≡ r → MayMove p (page_by d p (task_at u o (Load count)) r) to → So (ops.Load spot count) to.turn
          load-paged (Some r) h way =
              load-ends (replies.Bytes (take count (drop (o % PAGE_BYTES) r.bytes))) (replies.Bytes (bytes_from b.opening b.past u o count)) (Some (u, o)) e done
              (ap replies.Bytes (in-page b.opening b.past u o count r.bytes (like.pages u (o / PAGE_BYTES) r kept h) within)) (ap (λ (m : Moved). m.turn) way)
          load-paged None h way = open-so b name (ops.Load spot count) to.turn (missed-open d p (task_at u o (Load count)) to way) (load-fault b name spot count (bytes_from b.opening b.past u o count) (load-on (Some (u, o)) e ∙ done))

        load-tests : (held past : Bool) → is_held (state_of d p u) ≡ held → nat_lt (known.length_of (known_of u d.known)) (o + count) ≡ past → MayMove p (load_by d p (task_at u o (Load count)) held past) to → So (ops.Load spot count) to.turn
        load-tests false past f g way = load-ends replies.NoLock replies.NoLock (Some (u, o)) e (load-unheld b name (target_at (u, o)) count (told is_held u false f)) refl (ap (λ (m : Moved). m.turn) way)
        load-tests true true f g way =
            load-ends replies.PastEnd replies.PastEnd (Some (u, o)) e (load-past b name (target_at (u, o)) count (told is_held u true f) (ap (λ n. nat_lt n (o + count)) (like.lengths u (idle.keeping u f)) ∙ g)) refl (ap (λ (m : Moved). m.turn) way)
        load-tests true false f g way = load-paged f g (page_at d.cache.pages u (o / PAGE_BYTES)) refl way

      load-by : (x : Option (ObjectName × ℕ)) → target_of d p spot ≡ x → MayMove p (load_at d p count x) to → So (ops.Load spot count) to.turn
      load-by None e way = load-ends replies.NotMapped replies.NotMapped None e refl refl (ap (λ (m : Moved). m.turn) way)
      load-by (Some (u, o)) e way = load-tests u o e (is_held (state_of d p u)) (nat_lt (known.length_of (known_of u d.known)) (o + count)) refl refl way

    pub load-so : (spot : Spot) (count : ℕ) (to : Moved) → IsOp (ops.Load spot count) → MayMove p (load_at d p count (target_of d p spot)) to → So (ops.Load spot count) to.turn
    load-so spot count to range way = load-by spot count to range (target_of d p spot) refl way

    pub store-so : (spot : Spot) (bytes : List ℕ) (to : Moved) → MayMove p (store_at d p bytes (target_of d p spot)) to → So (ops.Store spot bytes) to.turn
    store-so spot bytes to way = by (target_of d p spot) refl way
      where
        on : (x : Option (ObjectName × ℕ)) → target_of d p spot ≡ x → reply_of b name (ops.Store spot bytes) ≡ store_reply b (option_map target_at x) bytes
        on x e = ap (λ t. store_reply b t bytes) (like.targets spot ∙ ap (option_map target_at) e)

        ends : (reply : Reply) (x : Option (ObjectName × ℕ)) → target_of d p spot ≡ x → store_reply b (option_map target_at x) bytes ≡ reply → to.turn ≡ Turn.Ends reply → So (ops.Store spot bytes) to.turn
        ends reply x e is turn = subst (So (ops.Store spot bytes)) (sym turn) (inl (sym (on x e ∙ is)))

        paged : (u : ObjectName) (o : ℕ) → target_of d p spot ≡ Some (u, o) → store_reply b (Some (target_at (u, o))) bytes ≡ replies.Fine → (r : Option Resident) → MayMove p (page_by d p (task_at u o (Store bytes)) r) to → So (ops.Store spot bytes) to.turn
        paged u o e done (Some r) way = ends replies.Fine (Some (u, o)) e done (ap (λ (m : Moved). m.turn) way)
        paged u o e done None way = open-so b name (ops.Store spot bytes) to.turn (missed-open d p (task_at u o (Store bytes)) to way) (store-fault b name spot bytes (on (Some (u, o)) e ∙ done))

        by : (x : Option (ObjectName × ℕ)) → target_of d p spot ≡ x → MayMove p (store_at d p bytes x) to → So (ops.Store spot bytes) to.turn
        by None e way = ends replies.NotMapped None e refl (ap (λ (m : Moved). m.turn) way)
        by (Some (u, o)) e way = tests (is_held (state_of d p u)) (may_write (state_of d p u)) (nat_lt (PAGE_BYTES * known.room_of (known_of u d.known)) (o + length bytes)) refl refl refl way
          where
            room : is_held (state_of d p u) ≡ true → (x : Bool) → nat_lt (PAGE_BYTES * known.room_of (known_of u d.known)) (o + length bytes) ≡ x → nat_lt (PAGE_BYTES * room_of b.opening b.past u) (o + length bytes) ≡ x
            room f x h = ap (λ n. nat_lt (PAGE_BYTES * n) (o + length bytes)) (like.rooms u (idle.keeping u f)) ∙ h

            tests : (held writes past : Bool) → is_held (state_of d p u) ≡ held → may_write (state_of d p u) ≡ writes → nat_lt (PAGE_BYTES * known.room_of (known_of u d.known)) (o + length bytes) ≡ past
                → MayMove p (store_by d p (task_at u o (Store bytes)) held writes past) to → So (ops.Store spot bytes) to.turn
            tests false writes past f g h way = ends replies.NoLock (Some (u, o)) e (store-unheld b name (target_at (u, o)) bytes (told is_held u false f)) (ap (λ (m : Moved). m.turn) way)
            tests true false past f g h way = ends replies.WrongMode (Some (u, o)) e (store-mode b name (target_at (u, o)) bytes (told is_held u true f) (told may_write u false g)) (ap (λ (m : Moved). m.turn) way)
            tests true true true f g h way = ends replies.PastRoom (Some (u, o)) e (store-past b name (target_at (u, o)) bytes (told is_held u true f) (told may_write u true g) (room f true h)) (ap (λ (m : Moved). m.turn) way)
            tests true true false f g h way = paged u o e (store-done b name (target_at (u, o)) bytes (told is_held u true f) (told may_write u true g) (room f false h)) (page_at d.cache.pages u (o / PAGE_BYTES)) way
