-- What an event that moves a desk leaves of what that has of an object: what is dirty is what one store has then.
use Rattle.std.proofs.Common.{◌≡◌, ℕ, ◌+◌, ◌*◌, ◌%◌, ◌≤◌, Bool, true, false, List, ◌∷◌, ◌++◌, length, Option, Some, None, IfSome, inl, inr, refl, sym, ap, subst, ◌∙◌, arith}
use Rattle.std.specs.Prelude.{◌&&◌, unwrap_or}
use Rattle.std.specs.Option.{option_map}
use Rattle.std.proofs.lemmas.Bool.{cases_eq}
use Rattle.std.proofs.lemmas.Bool.Decides.{nat_tests}
use Rattle.std.proofs.lemmas.Option.{same_Some}
use Rattle.lock_validate.proofs.States.{free-unkept}
use Rattle.uid_names.specs.Names.{ProcName, ObjectName, same_uid}
use Rattle.uid_names.specs.declared.limits.TheConstants.{PAGE_BYTES}
use Rattle.uid_names.specs.declared.mode.Mode.{Mode}
use Rattle.uid_names.proofs.ListLemmas.{by_cases}
use Rattle.dom_history.specs.declared.op.Op.{Op}
use Rattle.dom_history.specs.declared.op.Op.TheVariants as ops
use Rattle.dom_history.specs.declared.op.Reply.TheVariants as replies
use Rattle.dom_history.specs.declared.op.Spot.{Spot}
use Rattle.dom_history.specs.Mappings.{target}
use Rattle.dom_history.specs.Objects.{is_node}
use Rattle.dom_history.specs.StoreEffects.{StoreEffect, Writes}
use Rattle.dom_history.specs.Bytes.{bytes_from, length_of}
use Rattle.page_cache.specs.Caches.{Resident, page_at}
use Rattle.page_cache.specs.Changes.{spliced}
use Rattle.version_stamps.specs.Stamps.{stamp_of}
use Rattle.ring_messages.specs.Bodies.{Answer}
use Rattle.fault_handler.specs.declared.lengths.Known.{Known}
use Rattle.fault_handler.specs.declared.tasks.Work.{Work}
use Rattle.fault_handler.specs.declared.tasks.Work.TheVariants.{Load, Store}
use Rattle.fault_handler.specs.declared.tasks.Task.{Task}
use Rattle.fault_handler.specs.Entries.{entry_of, keeps}
use Rattle.fault_handler.specs.Lengths.{known_of, is_changed, changed_length, changed_in}
use Rattle.fault_handler.specs.Next.{IsCallOf, IsTaskOf as IsTaskOfOp}
use Rattle.fault_handler.specs.Tasks.{page_of, start_of, size_of}
use Rattle.fault_handler.specs.Transits.{going, coming}
use Rattle.fault_handler.specs.Desks.{DeskState, entry_at, any_keeps, task_of, moving_of, base_of}
use Rattle.fault_handler.specs.Outcomes.{Turn, Moved}
use Rattle.fault_handler.specs.Accesses.{DeskOp, target_of}
use Rattle.fault_handler.specs.PageReplies.{PageAnswer}
use Rattle.fault_handler.specs.LockCalls.{LockCall, LockAnswer}
use Rattle.fault_handler.specs.Invariant.{IsProc, IsDesk, is_dirty}
use Rattle.fault_handler.specs.Ready.{CallStands}
use Rattle.fault_handler.proofs.Beginning.{target-within}
use Rattle.fault_handler.proofs.Fours.{any-at, any-of}
use Rattle.fault_handler.proofs.TransitKeeps.{open_task, coming-absent}
use Rattle.lock_validate.specs.Calls.{Closes}
use Rattle.lock_validate.specs.Causes.{Cause, MayCome, IsOf}
use Rattle.lock_validate.specs.Loading.{Does, Fetches}
use Rattle.lock_validate.specs.DeskMoves.{DeskMoves}
use Rattle.lock_validate.specs.Turns.{IsMade}
use Rattle.lock_validate.proofs.Beside.{moves-beside}
use Rattle.lock_validate.proofs.LockSaid.{answer-closes}
use Rattle.lock_validate.proofs.PageSaid.{page-said}
use Rattle.node_runs.specs.Setups.{Setup, IsSetup, given}
use Rattle.node_runs.specs.NodeStates.{BegunOp, OpenOp, NodeState, proc_of}
use Rattle.node_runs.specs.NodesKeep.{IsTimely}
use Rattle.node_runs.specs.Notes.{Note}
use Rattle.node_runs.specs.Outcomes.{Stage}
use Rattle.node_runs.specs.Doings.{ticked}
use Rattle.node_runs.specs.CallsKeep.{IsCallAt, IsOpenAt}
use Rattle.node_runs.specs.Runs.{World, Choice, world_after}
use Rattle.run_laws.specs.DecidedReplies.{proc_at}
use Rattle.run_laws.proofs.HearingRuns.{IsKeptNext}
use Rattle.run_laws.specs.DeskSteps.{IsAt, IsStageOf, IsTaken, turn_note}
use Rattle.run_laws.specs.OpenTasks.{IsPlacedAt, IsAtSpot}
use Rattle.run_laws.proofs.AskedHomes.{opens-at-homes}
use Rattle.run_laws.proofs.GoingPages.{going-uid, going-page}
use Rattle.run_laws.proofs.OpenCalls.{runs-carry}
use Rattle.run_laws.proofs.OpenTasks.{open_task_of, answer-task}
use Rattle.run_laws.proofs.TaskPlaces.{runs-placed}
use Rattle.run_laws.specs.NotedEffects.{note_effects, noted_past}
use Rattle.run_laws.specs.Targets.{AreTargetsTold, target_at}
use Rattle.run_laws.specs.Items.{Item, Value, desk_value, page_value, known_value, is_dirty_at, home_value}
use Rattle.run_laws.specs.Stamps.{AreStamped, TellsItem, IsThere, IsItemTold, home_at, stamp_at}
use Rattle.run_laws.proofs.Seen.{kept-up}
use Rattle.run_laws.specs.DeskContents.{AreContents}
use Rattle.run_laws.proofs.ItemSteps.{Cleans}
use Rattle.run_laws.proofs.AnsweredContents.{cleaned-acked, came-told}
use Rattle.run_laws.proofs.Traces.{told-of, stamps-told}
use Rattle.run_laws.specs.Stores.{AreStores, store_value}
use Rattle.run_laws.proofs.Doings.{IsAccess, IsWorkOf, task-of, task-access, moves-tables}
use Rattle.run_laws.proofs.Keepers.{keeper}
use Rattle.run_laws.specs.Writes.{IsStillSent}
use Rattle.run_laws.proofs.Lawful.{tells-stored}
use Rattle.run_laws.proofs.Middle.{Puts, IsFirst}
use Rattle.run_laws.proofs.PageChanges.{SaysTaken}
use Rattle.run_laws.proofs.ReadsRight.{kept-there, kept-home, clean-since, clean-everywhere, keeper-reads}
use Rattle.run_laws.proofs.StoredBytes.{page-put, page-again, length-put}

pub bytes-are : (a b : List ℕ) → Value.Bytes a ≡ Value.Bytes b → a ≡ b
bytes-are a b same = cc

pub length-is : (a b : ℕ) → Value.Length a ≡ Value.Length b → a ≡ b
length-is a b same = cc

same-store : (a b : List ℕ) → Store a ≡ Store b → a ≡ b
same-store a b same = cc

load-store : {X : Type 0} (n : ℕ) (b : List ℕ) → Load n ≡ Store b → X
load-store n b same = absurd (cc)

module _ (s : Setup) (setup : IsSetup s) (cs : List Choice) (old : World) (e : world_after s cs ≡ Some old) (timely : IsTimely old) (c : Choice) (new : World) (next : IsKeptNext s old c new)
    (stores : AreStores s old) (contents : AreContents s old) (stamped : AreStamped s old) (targets : AreTargetsTold s old) where
  abbrev pub n : NodeState
  n = ticked (old.nodes c.node) next.is.incoming

  abbrev pub d : DeskState
  d = (old.nodes c.node).desk

  abbrev pub past : List StoreEffect
  past = noted_past old.trace

  module _ (p : ℕ) (proc : IsProc p) (o : BegunOp) (stage : Stage) (m : Moved) (is_at : IsAt (proc_of n p).doing o stage) (cause : Cause) (may : MayCome d p cause) (of : IsOf d p cause o.op) (at_stage : IsStageOf stage cause)
      (taken : IsTaken next.is.incoming d p (proc_of n p).doing cause may) (made : IsMade cause p d m) (phase : ℕ) where
    abbrev pub P : ProcName
    P = proc_at c.node p

    abbrev pub later : List StoreEffect
    later = note_effects c.node (turn_note stage P phase o m.turn) ++ past

    abbrev pub was : ObjectName → ℕ → List ℕ
    was u k = bytes_from s.opening past u (PAGE_BYTES * k) PAGE_BYTES

    abbrev pub now : ObjectName → ℕ → List ℕ
    now u k = bytes_from s.opening later u (PAGE_BYTES * k) PAGE_BYTES

    pub desk : IsDesk d
    desk = (next.kept.nodes c.node next.is.node).desk

    -- the store that is done
    pub record IsStoreOf (task : Task) (bytes : List ℕ) : Type 0 where
      pub spot : Spot
      pub effects : later ≡ Writes P spot bytes ∷ past
      pub at : target s.opening past P spot ≡ Some (record { uid = task.uid; offset = task.offset })
      pub within : start_of task + length bytes ≤ PAGE_BYTES

    effects-by : (spot : Spot) (bytes : List ℕ) → o.op ≡ ops.Store spot bytes → m.turn ≡ Turn.Ends replies.Fine → (stage_now : Stage) → stage ≡ stage_now → IsAccess cause → IsStageOf stage_now cause → later ≡ Writes P spot bytes ∷ past
    effects-by spot bytes op ends Stage.Starts same access at =
        ap (λ st. note_effects c.node (turn_note st P phase o m.turn) ++ past) same ∙ (ap (λ t. note_effects c.node (turn_note Stage.Starts P phase o t) ++ past) ends ∙ ap (λ x. note_effects c.node (Note.Did P phase x replies.Fine) ++ past) op)
    effects-by spot bytes op ends Stage.Resumes same access at =
        ap (λ st. note_effects c.node (turn_note st P phase o m.turn) ++ past) same ∙ (ap (λ t. note_effects c.node (turn_note Stage.Resumes P phase o t) ++ past) ends ∙ ap (λ x. note_effects c.node (Note.Did P phase x replies.Fine) ++ past) op)
    effects-by spot bytes op ends (Stage.Settles number) same access at = absurd (none cause access at)
      where
        none : (x : Cause) → IsAccess x → IsStageOf (Stage.Settles number) x → ⊥
        none (Cause.Accesses op) access at = at
        none (Cause.PageCame a) access at = at
        none (Cause.Locks u k) access at = access
        none (Cause.Releases delete u) access at = access
        none (Cause.AnswerCame a) access at = access
        none (Cause.AccessFailed t) access at = access
        none (Cause.CallFailed call) access at = access

    told-target : (spot : Spot) (u : ObjectName) (offset : ℕ) → target_of d p spot ≡ Some (u, offset) → target s.opening past P spot ≡ Some (record { uid = u; offset = offset })
    told-target spot u offset is = targets c.node p next.is.node proc spot ∙ ap (option_map target_at) is

    -- the open load or store is at its spot
    came-store : (task : Task) (bytes : List ℕ) → task.work ≡ Store bytes → m.turn ≡ Turn.Ends replies.Fine → task_of d p ≡ Some task → IsAccess cause → (op : Op) → o.op ≡ op → IsTaskOfOp op (Some task) → IsAtSpot d p op task → start_of task + length bytes ≤ PAGE_BYTES → IsStoreOf task bytes
    came-store task bytes work ends there access (ops.Store spot stored) is task_is at within =
        let same : stored ≡ bytes = same-store stored bytes (sym task_is.1 ∙ work) in
        record { spot = spot; effects = effects-by spot bytes (is ∙ ap (ops.Store spot) same) ends stage refl access at_stage; at = told-target spot task.uid task.offset at; within = within }
    came-store task bytes work ends there access (ops.Load spot count) is task_is at within = load-store count bytes (sym task_is.1 ∙ work)
    came-store task bytes work ends there access (ops.New home kind room) is task_is at within = absurd at
    came-store task bytes work ends there access (ops.List home after) is task_is at within = absurd at
    came-store task bytes work ends there access (ops.Lock u k) is task_is at within = absurd at
    came-store task bytes work ends there access (ops.Unlock u) is task_is at within = absurd at
    came-store task bytes work ends there access (ops.Delete u) is task_is at within = absurd at
    came-store task bytes work ends there access (ops.Length u) is task_is at within = absurd at
    came-store task bytes work ends there access (ops.Map u) is task_is at within = absurd at
    came-store task bytes work ends there access (ops.Unmap u) is task_is at within = absurd at

    placed-at : (r : Option OpenOp) (task : Task) → (proc_of n p).doing ≡ r → IsAt r o stage → IsPlacedAt d p r (Some task) → IsAtSpot d p o.op task
    placed-at None task doing at placed = absurd placed
    placed-at (Some x) task doing at placed = subst (λ (b : BegunOp). IsAtSpot d p b.op task) (began stage at) placed
      where
        began : (st : Stage) → IsAt (Some x) o st → x.began ≡ o
        began Stage.Starts at = absurd at
        began Stage.Resumes at = sym at
        began (Stage.Settles number) at = sym at.0

    same-task : (a : PageAnswer) (task : Task) → IsWorkOf d p (Cause.PageCame a) task → task ≡ open_task_of a
    same-task (PageAnswer.Came t stamp bytes) task is = is
    same-task (PageAnswer.Taken t r stamp) task is = is
    same-task (PageAnswer.NotTaken t r stamp) task is = is

    store-by : (x : Cause) → cause ≡ x → (may_x : MayCome d p x) → IsOf d p x o.op → (task : Task) (bytes : List ℕ) → IsWorkOf d p x task → task.work ≡ Store bytes → m.turn ≡ Turn.Ends replies.Fine → IsStoreOf task bytes
    store-by (Cause.Accesses (DeskOp.Stores spot stored)) same may_x of_x task bytes is work ends =
        let bytes_same : stored ≡ bytes = same-store stored bytes (sym is.1 ∙ work) in
        record {
          spot = spot;
          effects = effects-by spot bytes (of_x ∙ ap (ops.Store spot) bytes_same) ends stage refl (subst IsAccess (sym same) tt) at_stage;
          at = told-target spot task.uid task.offset is.0;
          within = subst (λ b. start_of task + length b ≤ PAGE_BYTES) bytes_same (subst (λ t. IfSome t (λ y. y.1 % PAGE_BYTES + length stored ≤ PAGE_BYTES)) is.0 (target-within d p spot (length stored) may_x.1.1));
        }
    store-by (Cause.Accesses (DeskOp.Loads spot count)) same may_x of_x task bytes is work ends = load-store count bytes (sym is.1 ∙ work)
    store-by (Cause.Accesses (DeskOp.Measures u)) same may_x of_x task bytes is work ends = absurd is
    store-by (Cause.Accesses (DeskOp.Maps u)) same may_x of_x task bytes is work ends = absurd is
    store-by (Cause.Accesses (DeskOp.Unmaps u)) same may_x of_x task bytes is work ends = absurd is
    store-by (Cause.PageCame a) same may_x of_x task bytes is work ends =
        let there : task_of d p ≡ Some task = answer-task d.cache.pages (task_of d p) (moving_of d p) may_x.answer a may_x.says ∙ ap (λ (t : Task). Some t) (sym (same-task a task is)) in
        let opened = open_task d p desk proc may_x.accessing in
        let one : opened.0 ≡ task = same_Some opened.0 task (sym opened.2 ∙ there) in
        let task_is : IsTaskOfOp o.op (Some task) = subst (IsTaskOfOp o.op) there (subst (IsCallOf o.op (task_of d p)) may_x.accessing of_x) in
        let placed : IsAtSpot d p o.op task = placed-at (proc_of n p).doing task refl is_at (subst (IsPlacedAt d p (proc_of n p).doing) there (runs-placed s setup cs old e timely c.node next.is.node p proc)) in
        came-store task bytes work ends there (subst IsAccess (sym same) tt) o.op refl task_is placed
        (subst (λ (w : Work). start_of task + size_of w ≤ PAGE_BYTES) work (subst (λ (t : Task). start_of t + size_of t.work ≤ PAGE_BYTES) one opened.4.allowed.range.within))
    store-by (Cause.Locks u k) same may_x of_x task bytes is work ends = absurd is
    store-by (Cause.Releases delete u) same may_x of_x task bytes is work ends = absurd is
    store-by (Cause.AnswerCame a) same may_x of_x task bytes is work ends = absurd is
    store-by (Cause.AccessFailed t) same may_x of_x task bytes is work ends = absurd is
    store-by (Cause.CallFailed call) same may_x of_x task bytes is work ends = absurd is

    pub store-of : (task : Task) (bytes : List ℕ) → IsWorkOf d p cause task → task.work ≡ Store bytes → m.turn ≡ Turn.Ends replies.Fine → IsStoreOf task bytes
    store-of task bytes is work ends = store-by cause refl may of task bytes is work ends

    -- the answer that brought a page
    record CameSo (task : Task) (stamp : ℕ) (bytes : List ℕ) : Type 0 where
      told : IsItemTold old task.uid stamp (Item.Page (page_of task)) (Value.Bytes bytes)
      way : moving_of d p ≡ coming task.uid (page_of task)

    abbrev IsCameSo : PageAnswer → Type 0
    IsCameSo (PageAnswer.Came task stamp bytes) = CameSo task stamp bytes
    IsCameSo a = Unit {0}

    came-by : (x : Cause) (may_x : MayCome d p x) → IsTaken next.is.incoming d p (proc_of n p).doing x may_x → (a : PageAnswer) → x ≡ Cause.PageCame a → IsCameSo a
    came-by (Cause.PageCame b) may_x taken_x a same = subst IsCameSo (one b a same) (by b may_x taken_x)
      where
        one : (b a : PageAnswer) → Cause.PageCame b ≡ Cause.PageCame a → b ≡ a
        one b a same = cc

        by : (b : PageAnswer) (may_b : MayCome d p (Cause.PageCame b)) → IsTaken next.is.incoming d p (proc_of n p).doing (Cause.PageCame b) may_b → IsCameSo b
        by (PageAnswer.Came task stamp bytes) may_b taken_b = record {
          told = came-told s old c new next (opens-at-homes s setup cs old e timely c.node next.is.node) (runs-carry s setup cs old e timely c.node next.is.node) p proc o stage is_at stamped task stamp bytes may_b taken_b;
          way = (page-said d p desk proc (PageAnswer.Came task stamp bytes) may_b).comes;
        }
        by (PageAnswer.Taken task r stamp) may_b taken_b = tt
        by (PageAnswer.NotTaken task r stamp) may_b taken_b = tt
    came-by (Cause.Accesses access) may_x taken_x a same = absurd (cc)
    came-by (Cause.Locks u k) may_x taken_x a same = absurd (cc)
    came-by (Cause.Releases delete u) may_x taken_x a same = absurd (cc)
    came-by (Cause.AnswerCame b) may_x taken_x a same = absurd (cc)
    came-by (Cause.AccessFailed t) may_x taken_x a same = absurd (cc)
    came-by (Cause.CallFailed call) may_x taken_x a same = absurd (cc)

    -- a page that came is what one store has of it
    came-bytes : (f : DeskState) (dropped : List (ObjectName × ℕ)) → DeskMoves cause m.turn p d f dropped → (task : Task) (stamp : ℕ) (bytes : List ℕ) → cause ≡ Cause.PageCame (PageAnswer.Came task stamp bytes) → Fetches p f task → stamp_of task.uid f.seen ≡ Some stamp
        → bytes ≡ was task.uid (page_of task)
    came-bytes f dropped moved task stamp bytes given fetches seen =
        let so = came-by cause may taken (PageAnswer.Came task stamp bytes) given in
        let tables = moves-tables cause m.turn p (subst IsAccess (sym given) tt) d f dropped moved in
        let kept : keeps (entry_at d.entries p task.uid) ≡ true = subst (λ es. keeps (entry_at es p task.uid) ≡ true) tables.entries fetches.allowed.kept in
        let k = keeper old c.node p proc task.uid kept in
        let x = Item.Page (page_of task) in
        let nodes = next.kept.nodes in
        let there = kept-there s setup cs old e timely nodes contents stamped c.node p next.is.node task.uid k.mode k.grant k.keeping in
        let home = kept-home s setup cs old e timely nodes contents stamped c.node p next.is.node task.uid k.mode k.grant k.keeping in
        let clean : is_dirty_at d task.uid x ≡ false = ap is_dirty (coming-absent d p desk proc task.uid (page_of task) so.way).0 in
        let up = kept-up cause m.turn p proc task.uid d desk f dropped moved p proc fetches.allowed.kept in
        let base : base_of f.seen task.uid ≡ stamp = ap (λ o. unwrap_or o 0) seen in
        let most = so.told.stamp.most there in
        bytes-are bytes (was task.uid (page_of task))
        (so.told.value there ∙ (clean-since s setup cs old e timely nodes contents stamped c.node p next.is.node task.uid k.mode k.grant k.keeping x clean stamp (omega (arith, up, base)) most
        ∙ stores.clean task.uid x home there (clean-everywhere s setup cs old e timely nodes contents stamped c.node p next.is.node task.uid k.mode k.grant k.keeping x clean)))

    -- one object that is there
    module _ (u : ObjectName) (there : IsThere old u) (home : is_node s.opening u.home ≡ true) where
      abbrev pub HasPage : ℕ → Type 0
      HasPage k = (r : Resident) → page_at d.cache.pages u k ≡ Some r → home_value (home_at old u) u (Item.Page k) ≡ page_value r

      abbrev pub HasLength : Type 0
      HasLength = (row : Known) → known_of u d.known ≡ Some row → home_value (home_at old u) u Item.Size ≡ known_value row

      reads : any_keeps d.entries u ≡ true → (x : Item) (v : Value) → desk_value d u x ≡ Some v → v ≡ store_value s.opening past u x
      reads kept x v is =
          let q = any-of (λ q. keeps (entry_at d.entries q u)) kept in
          let k = keeper old c.node q.0 q.1 u q.2 in
          keeper-reads s setup cs old e timely next.kept.nodes contents stamped c.node q.0 next.is.node u k.mode k.grant k.keeping stores x v is

      pub dirty-reads : (x : Item) (v : Value) → desk_value d u x ≡ Some v → is_dirty_at d u x ≡ true → v ≡ store_value s.opening past u x
      dirty-reads x v is dirty = same_Some v (store_value s.opening past u x) (sym is ∙ stores.dirty c.node next.is.node u x there dirty)

      puts-of : (f : DeskState) (dropped : List (ObjectName × ℕ)) → DeskMoves cause m.turn p d f dropped → (task : Task) (bytes : List ℕ) → Does cause p f task → task.work ≡ Store bytes → m.turn ≡ Turn.Ends replies.Fine → task.uid ≡ u
          → (any_keeps d.entries u ≡ true) × Puts (was u) (now u) (length_of s.opening past u) (length_of s.opening later u) task bytes
      puts-of f dropped moved task bytes does work ends named =
          let tables = moves-tables cause m.turn p (task-access f p cause task does.given) d f dropped moved in
          let store = store-of task bytes (task-of d f p cause task tables.maps does.given) work ends in
          let own : same_uid task.uid u ≡ true = subst (λ w. same_uid task.uid w ≡ true) named (let h : same_uid task.uid task.uid ≡ true = grind (arith, nat_tests) in h) in
          let k = page_of task in (
            any-at (λ q. keeps (entry_at d.entries q u)) p proc (subst (λ es. keeps (entry_at es p u) ≡ true) tables.entries (subst (λ w. keeps (entry_at f.entries p w) ≡ true) named does.allowed.kept)),
            record {
              page = page-put s.opening past P store.spot bytes task.uid task.offset store.at store.within u own ∙ ap (λ es. bytes_from s.opening es u (PAGE_BYTES * k) PAGE_BYTES) (sym store.effects);
              again = subst (λ es. spliced (bytes_from s.opening es u (PAGE_BYTES * k) PAGE_BYTES) (start_of task) bytes ≡ bytes_from s.opening es u (PAGE_BYTES * k) PAGE_BYTES) (sym store.effects)
                  (page-again s.opening past P store.spot bytes task.uid task.offset store.at store.within u own);
              end = ap (λ es. length_of s.opening es u) store.effects ∙ length-put s.opening past P store.spot bytes task.uid task.offset store.at store.within u own;
            },
          )

      -- what the home took, as it was sent, it has
      acked : (x : Item) (v : Value) → Cleans cause d p u x v → home_value (home_at old u) u x ≡ v
      acked x v cleans =
          let told = cleaned-acked s old c new next (opens-at-homes s setup cs old e timely c.node next.is.node) (runs-carry s setup cs old e timely c.node next.is.node) p proc o stage is_at cause may of taken u x v cleans in
          let made : IsCallAt (old.calls c.node p) told.is.open_call.waiting.number told.is.open_call.home told.is.open_call.ask = subst (IsOpenAt (old.calls c.node p)) told.is.doing (next.calls.opened c.node p proc) in
          let tells : TellsItem old told.is.open_call.ask (Answer.Stored told.stamp) =
          told-of old (TellsItem old) P told.is.open_call.waiting.number told.is.open_call.home told.is.open_call.ask made u.home (Answer.Stored told.stamp) old.trace told.is.answered next.decisions.each (stamps-told old old.trace stamped.told) in
          let most : told.stamp ≤ stamp_at old u = (tells-stored old told.is.open_call.ask (record { uid = u; item = x; value = v; grant = told.is.grant; base = told.is.base }) told.stamp told.is.writes tells).most there in
          let since = contents.acknowledged c.node p next.is.node u x v told.stamp there told.is in
          stamped.homes u home there x ∙ since.stays (stamp_at old u) most (omega arith)

      cleans-page : (k : ℕ) (r : Resident) → moving_of d p ≡ going u k → page_at d.cache.pages u k ≡ Some r → r.flags.sent ≡ true → (x : Cause) → MayCome d p x → SaysTaken x → Cleans x d p u (Item.Page k) (page_value r)
      cleans-page k r goes found sent (Cause.PageCame (PageAnswer.Taken task page stamp)) may_x says =
          let said = page-said d p desk proc (PageAnswer.Taken task page stamp) may_x in
          let a : page.uid ≡ u = going-uid page.uid page.page u k (sym said.goes ∙ goes) in
          let i : page.page ≡ k = going-page page.uid page.page u k (sym said.goes ∙ goes) in
          let one : page ≡ r = same_Some page r (sym (subst (λ w. page_at d.cache.pages w k ≡ Some page) a (subst (λ j. page_at d.cache.pages page.uid j ≡ Some page) i said.found)) ∙ found) in
          (a, i, ap (λ (q : Resident). q.flags.sent) one ∙ sent, ap page_value (sym one))
      cleans-page k r goes found sent (Cause.AnswerCame (LockAnswer.PageSettled w delete true stamp)) may_x says =
          let closed = answer-closes d p (LockAnswer.PageSettled w delete true stamp) desk proc may_x in
          let stands : CallStands d p (LockCall.PageOut w closed.closes.0 delete) = subst (CallStands d p) closed.closes.1 closed.stands in
          (going-uid w closed.closes.0 u k (sym stands.1 ∙ goes), goes, (r, found, sent, refl))
      cleans-page k r goes found sent (Cause.AnswerCame (LockAnswer.PageSettled w delete false stamp)) may_x says = absurd says
      cleans-page k r goes found sent x may_x says = absurd says

      taken-of : SaysTaken cause → (k : ℕ) → moving_of d p ≡ going u k → IsStillSent (page_at d.cache.pages u k) → HasPage k
      taken-of says k goes still r found = acked (Item.Page k) (page_value r) (cleans-page k r goes found (subst IsStillSent found still) cause may says)

      length-same : (b : Bool) (length n : ℕ) → changed_in b length ≡ Some n → n ≡ length
      length-same true length n is = sym (same_Some length n is)
      length-same false length n is = absurd (cc)

      taken_length-of : (i : ℕ) (delete : Bool) (stamp : ℕ) → cause ≡ Cause.AnswerCame (LockAnswer.LengthSettled u i delete true stamp) → changed_length (known_of u d.known) ≡ Some i → HasLength
      taken_length-of i delete stamp given changed row found =
          acked Item.Size (Value.Length i) (subst (λ x. Cleans x d p u Item.Size (Value.Length i)) (sym given) (refl, changed, refl))
          ∙ ap (λ j. Value.Length j) (length-same row.changed row.length i (subst (λ r. changed_length r ≡ Some i) found changed))

      granted-by : (x : Cause) → MayCome d p x → (k : Mode) (grant stamp room i : ℕ) → x ≡ Cause.AnswerCame (LockAnswer.Granted u k grant stamp room i) → keeps (entry_at d.entries p u) ≡ false
      granted-by (Cause.AnswerCame a) may_x k grant stamp room i same =
          let one : a ≡ LockAnswer.Granted u k grant stamp room i = answer-of a (LockAnswer.Granted u k grant stamp room i) same in
          let closed = answer-closes d p a desk proc may_x in
          let call : may_x.call ≡ LockCall.Lock u k = subst (λ b. Closes (Cause.AnswerCame b) may_x.call) one closed.closes in
          let stands : CallStands d p (LockCall.Lock u k) = subst (CallStands d p) call closed.stands in
          free-unkept (entry_at d.entries p u) stands.free
        where
          answer-of : (a b : LockAnswer) → Cause.AnswerCame a ≡ Cause.AnswerCame b → a ≡ b
          answer-of a b same = cc
      granted-by (Cause.PageCame b) may_x k grant stamp room i same = absurd (cc)
      granted-by (Cause.Accesses access) may_x k grant stamp room i same = absurd (cc)
      granted-by (Cause.Locks v l) may_x k grant stamp room i same = absurd (cc)
      granted-by (Cause.Releases delete v) may_x k grant stamp room i same = absurd (cc)
      granted-by (Cause.AccessFailed t) may_x k grant stamp room i same = absurd (cc)
      granted-by (Cause.CallFailed call) may_x k grant stamp room i same = absurd (cc)

      granted-none : (f : DeskState) (dropped : List (ObjectName × ℕ)) → DeskMoves cause m.turn p d f dropped → (k : Mode) (grant stamp room i : ℕ) → cause ≡ Cause.AnswerCame (LockAnswer.Granted u k grant stamp room i) → any_keeps f.entries u ≡ false → any_keeps d.entries u ≡ false
      granted-none f dropped moved k grant stamp room i given none = by_cases (any_keeps d.entries u) (any_keeps d.entries u ≡ false) (λ kept. absurd (let q = any-of (λ q. keeps (entry_at d.entries q u)) kept in by q.0 q.1 q.2)) (λ h. h)
        where
          by : (q : ℕ) → IsProc q → keeps (entry_at d.entries q u) ≡ true → ⊥
          by q other kept = elim (cases_eq q p) [
            | inl same ↦ absurd (let h : true ≡ false = sym kept ∙ (ap (λ r. keeps (entry_at d.entries r u)) same ∙ granted-by cause may k grant stamp room i given) in cc)
            | inr differs ↦ absurd (
                let still : keeps (entry_at f.entries q u) ≡ true = ap (λ es. keeps (entry_of u es)) (moves-beside cause m.turn p q proc other differs d f dropped moved).entries ∙ kept in
                let h : true ≡ false = sym (any-at (λ r. keeps (entry_at f.entries r u)) q other still) ∙ none in cc)
          ]

      pub first-of : IsFirst cause m.turn p d u (was u) (now u) (length_of s.opening past u) (length_of s.opening later u) HasPage HasLength
      first-of = record {
        desk = desk;
        pages = λ k r found why. bytes-are r.bytes (was u k) (elim why [
          | inl kept ↦ reads kept (Item.Page k) (page_value r) (ap (option_map page_value) found)
          | inr dirty ↦ dirty-reads (Item.Page k) (page_value r) (ap (option_map page_value) found) (ap is_dirty found ∙ dirty)
        ]);
        known = λ row found why. length-is row.length (length_of s.opening past u) (elim why [
          | inl kept ↦ reads kept Item.Size (known_value row) (ap (option_map known_value) found)
          | inr changed ↦ dirty-reads Item.Size (known_value row) (ap (option_map known_value) found) (ap is_changed found ∙ changed)
        ]);
        puts = puts-of;
        comes = λ f dropped moved task stamp bytes given fetches seen named. came-bytes f dropped moved task stamp bytes given fetches seen ∙ ap (λ w. was w (page_of task)) named;
        taken = taken-of;
        taken_length = taken_length-of;
        granted = granted-none;
      }
