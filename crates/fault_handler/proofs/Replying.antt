-- What the code of a desk meets where an answer comes to the call of a load or store.
use Rattle.std.proofs.Common.{◌≡◌, ◌∙◌, ℕ, nat_lt, Bool, true, false, not, ap, Option, Some, None, IsSome, IfSome, Result, IfOk, List, [], ◌∷◌, take, drop, refl, sym, subst, arith}
use Rattle.std.proofs.lemmas.Result.{IfOk-weaker}
use Rattle.std.specs.Option.{option_map}
use Rattle.std.proofs.lemmas.Option.{same_Some}
use Rattle.uid_names.specs.Names.{ObjectName}
use Rattle.std.proofs.lemmas.Bool.Decides.{nat_tests}
use Rattle.std.proofs.lemmas.Bool.{not-true}
use Rattle.page_cache.specs.Caches.{Resident, is_page, page_at}
use Rattle.page_cache.specs.Changes.{used, without_page}
use Rattle.version_stamps.specs.Stamps.{stamp_of}
use Rattle.dom_history.specs.declared.op.Reply.TheVariants.{Bytes}
use Rattle.ring_messages.specs.Bodies.{Answer, body_of_ask}
use Rattle.ring_messages.specs.declared.body.Body.{Body}
use Rattle.ring_messages.specs.declared.body.Body.TheVariants as bodies
use Rattle.fault_handler.specs.ShownPages.{fresh_page}
use Rattle.fault_handler.specs.Tasks.{page_of, start_of}
use Rattle.fault_handler.specs.Unseen.{loaded_from, said_to, GivesTo, ComesTo}
use Rattle.fault_handler.specs.declared.tasks.Work.{Work}
use Rattle.fault_handler.specs.declared.tasks.Work.TheVariants.{Load, Store}
use Rattle.fault_handler.specs.declared.tasks.Task.{Task}
use Rattle.fault_handler.specs.declared.transits.Transit.{Transit}
use Rattle.fault_handler.specs.declared.access.Access.{Access}
use Rattle.fault_handler.specs.declared.access.Access.TheVariants.{Hit, Need}
use Rattle.fault_handler.specs.Transits.{coming, going}
use Rattle.fault_handler.specs.Desks.{DeskState, task_of, moving_of, base_of}
use Rattle.fault_handler.specs.Changes.{with_used, with_raised, with_arrival, with_room_settled, with_sent_again}
use Rattle.fault_handler.specs.Accesses.{performed, page_by, page_access, page_out}
use Rattle.fault_handler.specs.PageReplies.{PageAnswer, answer_outward, answer_by, answer_with, page_by_stamp, page_came_of, room_taken, room_sent_again}
use Rattle.fault_handler.specs.Conditions.{IsIdle, IsAccessing, MayWantAt}
use Rattle.fault_handler.specs.Invariant.{IsProc, IsDesk, IsAllowed}
use Rattle.fault_handler.proofs.PageLists.{found-uid, found-page, without_page-none}
use Rattle.fault_handler.proofs.TransitKeeps.{open_task, page-comes, coming-absent, going-resident}
use Rattle.fault_handler.proofs.Accessing.{stamp-seen}

-- what holds of the load or store that is open holds of it, whichever it is
of_task : (P : Task → Type 0) (o : Option Task) (a : Task) → o ≡ Some a → P a → IfSome o P
of_task P o a there holds = rw there holds

-- the load or store that is open
module _ (d : DeskState) (p : ℕ) (is : IsDesk d) (proc : IsProc p) where
  -- what is open is allowed
  pub open-allowed : IsAccessing d p → (task : Task) → task_of d p ≡ Some task → IsAllowed d.entries p task
  open-allowed access task there =
      let found = open_task d p is proc access in
      let same : ◌≡◌ {A = Option Task} (Some found.0) (Some task) = sym found.2 ∙ there in
      let is_task : found.0 ≡ task = cc in
      subst (IsAllowed d.entries p) is_task found.4.allowed

  -- something is open
  pub open-there : IsAccessing d p → task_of d p ≡ None → ⊥
  open-there access none =
      let found = open_task d p is proc access in
      let same : ◌≡◌ {A = Option Task} (Some found.0) None = sym found.2 ∙ none in
      cc

  -- the bytes that it takes are those that its load or store takes, whichever it is
  pub loaded-open : {E : Type 0} (r : Result (Option (List ℕ)) E) (bytes : List ℕ) (task : Task) → task_of d p ≡ Some task → IfOk r (λ loaded. loaded ≡ loaded_from bytes (start_of task) task.work)
      → IfOk r (λ loaded. IfSome (task_of d p) (λ t. loaded ≡ loaded_from bytes (start_of t) t.work))
  loaded-open r bytes task there =
      IfOk-weaker r (λ loaded. loaded ≡ loaded_from bytes (start_of task) task.work) (λ loaded. IfSome (task_of d p) (λ t. loaded ≡ loaded_from bytes (start_of t) t.work))
      (λ loaded takes. of_task (λ t. loaded ≡ loaded_from bytes (start_of t) t.work) (task_of d p) task there takes)

module _ (d : DeskState) (p : ℕ) (is : IsDesk d) (proc : IsProc p) (u : ObjectName) (k : ℕ) where
  -- a page comes
  module _ (comes : moving_of d p ≡ coming u k) where
    pub seen-coming : IsSome (stamp_of u d.seen)
    seen-coming = is.known.kept p proc u (coming-absent d p is proc u k comes).1

    pub allowed-arrived : (task : Task) → task_of d p ≡ Some task → IsAllowed d.entries p task
    allowed-arrived task there =
        let found = page-comes d p is proc u k comes in
        let same : ◌≡◌ {A = Option Task} (Some found.0) (Some task) = sym found.1 ∙ there in
        let is_task : found.0 ≡ task = cc in
        subst (IsAllowed d.entries p) is_task found.5

    -- it is the one that the load or store needs
    task-comes : (task : Task) → task_of d p ≡ Some task → (task.uid ≡ u) × (page_of task ≡ k)
    task-comes task there =
        let found = page-comes d p is proc u k comes in
        let same : ◌≡◌ {A = Option Task} (Some found.0) (Some task) = sym found.1 ∙ there in
        let is_task : found.0 ≡ task = cc in
        (ap (λ t. t.uid) (sym is_task) ∙ found.2, ap page_of (sym is_task) ∙ found.3)

    -- another one is installed, and the load or store is done
    gives-arrived : (new : DeskState) (answer : Access) (task : Task) (stamp : ℕ) (bytes : List ℕ) → nat_lt stamp (base_of d.seen u) ≡ false → task.uid ≡ u → page_of task ≡ k
        → GivesTo new (performed (with_arrival (with_raised d u stamp) p u k bytes) task task.work (fresh_page u k bytes)) answer
        → GivesTo new (page_by_stamp d p task stamp bytes (nat_lt stamp (base_of d.seen task.uid))) answer
    gives-arrived new answer task stamp bytes fresh uid page gives =
        let at_uid = subst (λ (v : ObjectName). GivesTo new (performed (with_arrival (with_raised d v stamp) p v k bytes) task task.work (fresh_page v k bytes)) answer) (sym uid) gives in
        let at_page = subst (λ (j : ℕ). GivesTo new (performed (with_arrival (with_raised d task.uid stamp) p task.uid j bytes) task task.work (fresh_page task.uid j bytes)) answer) (sym page) at_uid in
        let fresh_there : nat_lt stamp (base_of d.seen task.uid) ≡ false = ap (λ v. nat_lt stamp (base_of d.seen v)) uid ∙ fresh in
        subst (λ (older : Bool). GivesTo new (page_by_stamp d p task stamp bytes older) answer) (sym fresh_there) at_page

    pub gives-arrival : (new : DeskState) (answer : Access) (task : Task) (stamp : ℕ) (bytes : List ℕ) → nat_lt stamp (base_of d.seen u) ≡ false → task_of d p ≡ Some task
        → GivesTo new (performed (with_arrival (with_raised d u stamp) p u k bytes) task task.work (fresh_page u k bytes)) answer
        → IfSome (task_of d p) (λ t. GivesTo new (page_by_stamp d p t stamp bytes (nat_lt stamp (base_of d.seen t.uid))) answer)
    gives-arrival new answer task stamp bytes fresh there gives =
        let needed = task-comes task there in
        of_task (λ t. GivesTo new (page_by_stamp d p t stamp bytes (nat_lt stamp (base_of d.seen t.uid))) answer) (task_of d p) task there (gives-arrived new answer task stamp bytes fresh needed.0 needed.1 gives)

    -- an old one is asked for again
    pub gives-old : (home stamp : ℕ) (bytes : List ℕ) (body : Body) (dropped : List (ObjectName × ℕ)) → nat_lt stamp (base_of d.seen u) ≡ true → home ≡ u.home → body ≡ bodies.PageIn u k → dropped ≡ []
        → IfSome (task_of d p) (λ t. GivesTo d (page_by_stamp d p t stamp bytes (nat_lt stamp (base_of d.seen t.uid))) (Need home body dropped))
    gives-old home stamp bytes body dropped older at asks none = by_task (task_of d p) refl
      where
        by_task : (o : Option Task) → task_of d p ≡ o → IfSome o (λ t. GivesTo d (page_by_stamp d p t stamp bytes (nat_lt stamp (base_of d.seen t.uid))) (Need home body dropped))
        by_task None there = tt
        by_task (Some t) there =
            let needed = task-comes t there in
            let older_there : nat_lt stamp (base_of d.seen t.uid) ≡ true = ap (λ v. nat_lt stamp (base_of d.seen v)) needed.0 ∙ older in
            subst (λ (b : Bool). GivesTo d (page_by_stamp d p t stamp bytes b) (Need home body dropped)) (sym older_there)
            (refl, rw (at, asks, none, needed.0, needed.1) refl)

    -- the page that the load or store needs is there then, and was used last
    pub arrived-there : (bytes : List ℕ) (task : Task) → task_of d p ≡ Some task → page_at (fresh_page u k bytes ∷ d.cache.pages) task.uid (page_of task) ≡ Some (fresh_page u k bytes)
    arrived-there bytes task there =
        let needed = task-comes task there in
        let here : is_page task.uid (page_of task) (fresh_page u k bytes) ≡ true = rw (needed.0, needed.1) (grind (arith, nat_tests)) in
        rw here refl

    pub arrived-last : (bytes : List ℕ) (task : Task) → task_of d p ≡ Some task → used (fresh_page u k bytes ∷ d.cache.pages) task.uid (page_of task) ≡ fresh_page u k bytes ∷ d.cache.pages
    arrived-last bytes task there = let needed = task-comes task there in at_name task.uid (page_of task) needed.0 needed.1
      where
        own : is_page u k (fresh_page u k bytes) ≡ true
        own = grind (arith, nat_tests)

        here : used (fresh_page u k bytes ∷ d.cache.pages) u k ≡ fresh_page u k bytes ∷ without_page d.cache.pages u k
        here = rw own refl

        at_name : (v : ObjectName) (j : ℕ) → v ≡ u → j ≡ k → used (fresh_page u k bytes ∷ d.cache.pages) v j ≡ fresh_page u k bytes ∷ d.cache.pages
        at_name v j uid page =
            subst (λ (w : ObjectName). used (fresh_page u k bytes ∷ d.cache.pages) w j ≡ fresh_page u k bytes ∷ d.cache.pages) (sym uid)
            (subst (λ (n : ℕ). used (fresh_page u k bytes ∷ d.cache.pages) u n ≡ fresh_page u k bytes ∷ d.cache.pages) (sym page)
            (here ∙ ap (λ (ps : List Resident). fresh_page u k bytes ∷ ps) (without_page-none d.cache.pages u k (coming-absent d p is proc u k comes).0)))

    -- at a page that came memory may be wanted, where it is no old one
    pub wants-page : (stamp : ℕ) (bytes : List ℕ) → nat_lt stamp (base_of d.seen u) ≡ false → IfSome (said_to d p (Some (Answer.Page stamp bytes))) (MayWantAt d)
    wants-page stamp bytes fresh = by_open (task_of d p) refl (moving_of d p) comes
      where
        by_way : (task : Task) → task_of d p ≡ Some task → (x : Transit) (b : Bool) → b ≡ true → IfSome (answer_by d.cache.pages task x b (Answer.Page stamp bytes)) (MayWantAt d)
        by_way task there x true inward = ap (λ v. nat_lt stamp (base_of d.seen v)) (task-comes task there).0 ∙ fresh
        by_way task there x false inward = absurd (cc)

        by_open : (o : Option Task) → task_of d p ≡ o → (m : Option Transit) → m ≡ coming u k → IfSome (answer_with d.cache.pages o m (Answer.Page stamp bytes)) (MayWantAt d)
        by_open None there m is_m = tt
        by_open (Some task) there None is_m = absurd (cc)
        by_open (Some task) there (Some x) is_m = by_way task there x x.inward (ap (λ (t : Transit). t.inward) (same_Some x (record { uid = u; page = k; inward = true }) is_m))

  -- a page went home
  module _ (access : IsAccessing d p) (goes : moving_of d p ≡ going u k) where
    pub seen-going : IsSome (stamp_of u d.seen)
    seen-going = stamp-seen d is u (going-resident d p is proc u k goes).1

    pub there-going : IsSome (page_at d.cache.pages u k)
    there-going = (going-resident d p is proc u k goes).0

    pub gives-again : (new : DeskState) (stamp home : ℕ) (body : Body) (dropped : List (ObjectName × ℕ)) → new ≡ with_sent_again (with_raised d u stamp) u k → home ≡ u.home
        → option_map (λ r. body_of_ask (page_out (with_raised d u stamp) u k r.bytes)) (page_at d.cache.pages u k) ≡ Some body → dropped ≡ []
        → IfSome (page_at d.cache.pages u k) (λ r. GivesTo new (room_sent_again (with_raised d r.uid stamp) r) (Need home body dropped))
    gives-again new stamp home body dropped sent at asks none = by_page (page_at d.cache.pages u k) refl asks
      where
        by_page : (o : Option Resident) → page_at d.cache.pages u k ≡ o → option_map (λ r. body_of_ask (page_out (with_raised d u stamp) u k r.bytes)) o ≡ Some body
            → IfSome o (λ r. GivesTo new (room_sent_again (with_raised d r.uid stamp) r) (Need home body dropped))
        by_page None found asked = tt
        by_page (Some r) found asked =
            let is_body : body_of_ask (page_out (with_raised d u stamp) u k r.bytes) ≡ body = cc in
            rw (found-uid d.cache.pages u k r found, found-page d.cache.pages u k r found) (sent, rw (at, none, ← is_body) refl)

    -- the home took it: the access is made anew
    pub gives-taken : (new : DeskState) (stamp : ℕ) (answer : Access) (task : Task) → task_of d p ≡ Some task → ComesTo p new (page_access (with_raised (with_room_settled d p u k true) u stamp) p task) answer
        → IfSome (task_of d p) (λ t. IfSome (page_at d.cache.pages u k) (λ r. ComesTo p new (page_access (room_taken d p r stamp) p t) answer))
    gives-taken new stamp answer task there gives =
        of_task (λ t. IfSome (page_at d.cache.pages u k) (λ r. ComesTo p new (page_access (room_taken d p r stamp) p t) answer)) (task_of d p) task there (by_page (page_at d.cache.pages u k) refl)
      where
        by_page : (o : Option Resident) → page_at d.cache.pages u k ≡ o → IfSome o (λ r. ComesTo p new (page_access (room_taken d p r stamp) p task) answer)
        by_page None found = tt
        by_page (Some r) found =
            subst (λ (v : ObjectName). ComesTo p new (page_access (with_raised (with_room_settled d p v r.page true) v stamp) p task) answer) (sym (found-uid d.cache.pages u k r found))
            (subst (λ (j : ℕ). ComesTo p new (page_access (with_raised (with_room_settled d p u j true) u stamp) p task) answer) (sym (found-page d.cache.pages u k r found)) gives)

-- what the process moves, by its way
pub moves-coming : (d : DeskState) (p : ℕ) (t : Transit) → moving_of d p ≡ Some t → t.inward ≡ true → moving_of d p ≡ coming t.uid t.page
moves-coming d p t moves comes = moves ∙ (λ i. Some (record { uid = t.uid; page = t.page; inward = comes i }))

pub moves-going : (d : DeskState) (p : ℕ) (t : Transit) → moving_of d p ≡ Some t → not t.inward ≡ true → moving_of d p ≡ going t.uid t.page
moves-going d p t moves goes = moves ∙ (λ i. Some (record { uid = t.uid; page = t.page; inward = not-true t.inward goes i }))

-- a load whose bytes were taken from its page, which was used last
pub gives-loaded : (d : DeskState) (task : Task) (bytes : List ℕ) → with_used d task.uid (page_of task) ≡ d → IfSome (page_at d.cache.pages task.uid (page_of task)) (λ r. ◌≡◌ {A = Option (List ℕ)} (Some bytes) (loaded_from r.bytes (start_of task) task.work))
    → IfSome (page_at d.cache.pages task.uid (page_of task)) (λ r. GivesTo d (performed d task task.work r) (Hit (Bytes bytes) []))
gives-loaded d task bytes last takes = by_page (page_at d.cache.pages task.uid (page_of task)) takes
  where
    by_work : (r : Resident) (work : Work) → ◌≡◌ {A = Option (List ℕ)} (Some bytes) (loaded_from r.bytes (start_of task) work) → GivesTo d (performed d task work r) (Hit (Bytes bytes) [])
    by_work r (Load count) taken = let same : bytes ≡ take count (drop (start_of task) r.bytes) = cc in (sym last, rw same refl)
    by_work r (Store stored) taken = absurd (cc)

    by_page : (o : Option Resident) → IfSome o (λ r. ◌≡◌ {A = Option (List ℕ)} (Some bytes) (loaded_from r.bytes (start_of task) task.work)) → IfSome o (λ r. GivesTo d (performed d task task.work r) (Hit (Bytes bytes) []))
    by_page None taken = tt
    by_page (Some r) taken = by_work r task.work taken

-- a load takes bytes
pub not-loaded : (o : Option Resident) (start count : ℕ) (work : Work) → work ≡ Load count → IsSome o → IfSome o (λ r. ◌≡◌ {A = Option (List ℕ)} None (loaded_from r.bytes start work)) → ⊥
not-loaded None start count work is some taken = cc
not-loaded (Some r) start count work is some taken = let none : ◌≡◌ {A = Option (List ℕ)} None (loaded_from r.bytes start (Load count)) = rw is at taken in cc

-- a load from its page
pub comes-loaded : (d new : DeskState) (p : ℕ) (task : Task) (count : ℕ) (bytes : List ℕ) → task.work ≡ Load count → new ≡ with_used d task.uid (page_of task)
    → ◌≡◌ {A = Option (List ℕ)} (Some bytes) (option_map (λ r. take count (drop (start_of task) r.bytes)) (page_at d.cache.pages task.uid (page_of task))) → ComesTo p new (page_access d p task) (Hit (Bytes bytes) [])
comes-loaded d new p task count bytes loads is takes = by_page (page_at d.cache.pages task.uid (page_of task)) takes
  where
    by_work : (r : Resident) (work : Work) → work ≡ Load count → ◌≡◌ {A = Option (List ℕ)} (Some bytes) (Some (take count (drop (start_of task) r.bytes))) → GivesTo new (performed d task work r) (Hit (Bytes bytes) [])
    by_work r (Load n) loads taken = let same : bytes ≡ take count (drop (start_of task) r.bytes) = cc in let many : n ≡ count = cc in (is, rw (same, many) refl)
    by_work r (Store stored) loads taken = absurd (cc)

    by_page : (o : Option Resident) → ◌≡◌ {A = Option (List ℕ)} (Some bytes) (option_map (λ r. take count (drop (start_of task) r.bytes)) o) → ComesTo p new (page_by d p task o) (Hit (Bytes bytes) [])
    by_page None taken = absurd (cc)
    by_page (Some r) taken = by_work r task.work loads taken

module _ (d new : DeskState) (p : ℕ) (t : Transit) (answer : Access) (moves : moving_of d p ≡ Some t) where
  -- what a page that came says
  pub comes-page : (stamp : ℕ) (bytes : List ℕ) → t.inward ≡ true → IfSome (task_of d p) (λ task. GivesTo new (page_by_stamp d p task stamp bytes (nat_lt stamp (base_of d.seen task.uid))) answer)
      → IfSome (said_to d p (Some (Answer.Page stamp bytes))) (λ a. ComesTo p new (page_came_of d p a) answer)
  comes-page stamp bytes inward gives = by_open (task_of d p) (moving_of d p) moves gives
    where
      by_way : (task : Task) (x : Transit) (b : Bool) → b ≡ true → GivesTo new (page_by_stamp d p task stamp bytes (nat_lt stamp (base_of d.seen task.uid))) answer
          → IfSome (answer_by d.cache.pages task x b (Answer.Page stamp bytes)) (λ a. ComesTo p new (page_came_of d p a) answer)
      by_way task x true is given = given
      by_way task x false is given = absurd (cc)

      by_open : (o : Option Task) (m : Option Transit) → m ≡ Some t → IfSome o (λ task. GivesTo new (page_by_stamp d p task stamp bytes (nat_lt stamp (base_of d.seen task.uid))) answer)
          → IfSome (answer_with d.cache.pages o m (Answer.Page stamp bytes)) (λ a. ComesTo p new (page_came_of d p a) answer)
      by_open None m is given = tt
      by_open (Some task) None is given = absurd (cc)
      by_open (Some task) (Some x) is given = let same : x ≡ t = cc in by_way task x x.inward (ap (λ (y : Transit). y.inward) same ∙ inward) given

  -- what is said where the home took the page that makes room, or did not
  module _ (answered : Answer) (to : Task → Resident → PageAnswer) (says : (task : Task) (r : Resident) → answer_outward task (Some r) answered ≡ Some (to task r)) (silent : (task : Task) → answer_outward task None answered ≡ None) where
    pub comes-sent : t.inward ≡ false → IfSome (task_of d p) (λ task. IfSome (page_at d.cache.pages t.uid t.page) (λ r. ComesTo p new (page_came_of d p (to task r)) answer))
        → IfSome (said_to d p (Some answered)) (λ a. ComesTo p new (page_came_of d p a) answer)
    comes-sent outward gives = by_open (task_of d p) (moving_of d p) moves gives
      where
        by_page : (task : Task) (o : Option Resident) → IfSome o (λ r. ComesTo p new (page_came_of d p (to task r)) answer) → IfSome (answer_outward task o answered) (λ a. ComesTo p new (page_came_of d p a) answer)
        by_page task None given = subst (λ (o : Option PageAnswer). IfSome o (λ a. ComesTo p new (page_came_of d p a) answer)) (sym (silent task)) tt
        by_page task (Some r) given = subst (λ (o : Option PageAnswer). IfSome o (λ a. ComesTo p new (page_came_of d p a) answer)) (sym (says task r)) given

        by_way : (task : Task) (x : Transit) (b : Bool) → b ≡ false → x ≡ t → IfSome (page_at d.cache.pages t.uid t.page) (λ r. ComesTo p new (page_came_of d p (to task r)) answer)
            → IfSome (answer_by d.cache.pages task x b answered) (λ a. ComesTo p new (page_came_of d p a) answer)
        by_way task x true is same given = absurd (cc)
        by_way task x false is same given =
            by_page task (page_at d.cache.pages x.uid x.page) (subst (λ (y : Transit). IfSome (page_at d.cache.pages y.uid y.page) (λ r. ComesTo p new (page_came_of d p (to task r)) answer)) (sym same) given)

        by_open : (o : Option Task) (m : Option Transit) → m ≡ Some t → IfSome o (λ task. IfSome (page_at d.cache.pages t.uid t.page) (λ r. ComesTo p new (page_came_of d p (to task r)) answer))
            → IfSome (answer_with d.cache.pages o m answered) (λ a. ComesTo p new (page_came_of d p a) answer)
        by_open None m is given = tt
        by_open (Some task) None is given = absurd (cc)
        by_open (Some task) (Some x) is given = let same : x ≡ t = cc in by_way task x x.inward (ap (λ (y : Transit). y.inward) same ∙ outward) same given

-- a process that may go on may do so where a stamp was raised
pub IsIdle-raised : (d : DeskState) (p : ℕ) (u : ObjectName) (stamp : ℕ) → IsIdle d p → IsIdle (with_raised d u stamp) p
IsIdle-raised d p u stamp idle = record { no_call = idle.no_call; no_page = idle.no_page; keeping = idle.keeping }
