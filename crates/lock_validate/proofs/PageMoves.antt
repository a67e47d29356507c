-- A load or store at its page is moves, from the desk on which it is made.
use Rattle.std.proofs.Common.{◌≡◌, ℕ, ◌+◌, nat_lt, Bool, true, false, not, List, [], ◌∷◌, length, reverse, Option, Some, None, refl, ap, ◌∙◌, arith}
use Rattle.std.proofs.lemmas.Bool.{and_parts, not-true}
use Rattle.std.proofs.lemmas.Bool.Decides.{nat_tests}
use Rattle.std.specs.Option.{option_map}
use Rattle.uid_names.specs.Names.{ObjectName}
use Rattle.uid_names.proofs.Finds.{find-passes}
use Rattle.page_cache.specs.Caches.{Resident, page_at, free_count}
use Rattle.page_cache.specs.Changes.{used}
use Rattle.page_cache.specs.Victims.{oldest}
use Rattle.page_cache.proofs.PageLemmas.{page_at-oldest}
use Rattle.dom_history.specs.declared.op.Reply.{Reply}
use Rattle.ring_messages.specs.Bodies.{Ask}
use Rattle.fault_handler.specs.declared.open_call.OpenCall.TheVariants.{Access}
use Rattle.fault_handler.specs.declared.tasks.Work.{Work}
use Rattle.fault_handler.specs.declared.tasks.Work.TheVariants.{Load, Store}
use Rattle.fault_handler.specs.declared.tasks.Task.{Task}
use Rattle.fault_handler.specs.ShownPages.{written, as_sent}
use Rattle.fault_handler.specs.Tasks.{page_of, start_of}
use Rattle.fault_handler.specs.Transits.{coming, going}
use Rattle.fault_handler.specs.Desks.{DeskState, others_fetch, is_in_transit_there}
use Rattle.fault_handler.specs.Changes.{with_stored, with_dropped}
use Rattle.fault_handler.specs.Outcomes.{Turn}
use Rattle.fault_handler.specs.Victims.{Victim, MayMakeRoom, is_idle_clean, is_idle_dirty}
use Rattle.fault_handler.specs.Accesses.{Always, performed, fetched, room_made, frame_by, missed_by, page_by, page_access}
use Rattle.fault_handler.specs.Drops.{MayDrop}
use Rattle.fault_handler.specs.Invariant.{IsProc, IsFour, IsDesk}
use Rattle.fault_handler.proofs.Fours.{at-put_same}
use Rattle.fault_handler.proofs.PageLists.{page_at-used, page_at-changed_same}
use Rattle.fault_handler.proofs.Accessing.{absent-without}
use Rattle.lock_validate.specs.Causes.{Cause}
use Rattle.lock_validate.specs.Dropped.{MayDropPages}
use Rattle.lock_validate.specs.Loading.{IsTaskIn, LooksUp, Does, IsMissing, HasFrame}
use Rattle.lock_validate.specs.DeskMoves.{Change, DeskMoves}
use Rattle.lock_validate.specs.Turns.{Says, IsMade}
use Rattle.lock_validate.proofs.Facts.{IsTaskIn-same, length-grown, known-kept}

-- the page is asked for on a desk that has a frame for it
module _ (c : Cause) (p : ℕ) (d h : DeskState) (task : Task) (proc : IsProc p) (four : IsFour h) (does : Does c p h task) (given : IsTaskIn d p c task) where
  fetched-made : (dropped : List (ObjectName × ℕ)) → DeskMoves c (Turn.Asks task.uid.home (Ask.PageIn task.uid (page_of task))) p d h dropped → MayDropPages d p c dropped → IsMissing c p h task → HasFrame h → IsMade c p d (fetched h p task dropped)
  fetched-made dropped moves may missing frame = record {
    may = may;
    moves = DeskMoves.next moves (Change.fetches task does missing frame refl);
    says = Says.asks_page c task given (record {
      accessing = at-put_same h.calls p (Some Access) None four.calls proc;
      opened = at-put_same h.tasks p (Some task) None four.tasks proc;
      moves = at-put_same h.moving p (coming task.uid (page_of task)) None four.moving proc;
      absent = missing.absent;
      allowed = does.allowed;
      keeping = does.idle.keeping;
    });
  }

-- d is the desk before the call, and g that on which the load or store is made. The page is resident
module _ (c : Cause) (p : ℕ) (d g : DeskState) (task : Task) (moves : (reply : Reply) → DeskMoves c (Turn.Ends reply) p d g []) (does : Does c p g task) (given : IsTaskIn d p c task) (proc : IsProc p) (desk : IsDesk g) where
  -- the same desk for the load or store, once its page changed
  does-stored : (k offset : ℕ) (bytes : List ℕ) → Does c p (with_stored g task.uid k offset bytes) task
  does-stored k offset bytes = record {
    idle = record { no_call = does.idle.no_call; no_page = does.idle.no_page; keeping = does.idle.keeping };
    allowed = does.allowed;
    given = IsTaskIn-same g (with_stored g task.uid k offset bytes) p c task refl refl does.given;
  }

  pub performed-made : (work : Work) (r : Resident) → task.work ≡ work → page_at g.cache.pages task.uid (page_of task) ≡ Some r → IsMade c p d (performed g task work r)
  performed-made (Load count) r is there = record {
    may = tt;
    moves = DeskMoves.next (moves _) (Change.uses task count r does is there refl);
    says = Says.loads c task count r given is (page_at-used g.cache.pages task.uid (page_of task) task.uid (page_of task) ∙ there);
  }
  performed-made (Store bytes) r is there = record {
    may = tt;
    moves = DeskMoves.next (DeskMoves.next (moves _) (Change.stores task bytes r does is there refl)) (Change.grows task bytes (does-stored (page_of task) (start_of task) bytes) is refl);
    says = Says.stores c task bytes r given is
        (page_at-changed_same task.uid (page_of task) (written (start_of task) bytes) (λ v j q. refl) (used g.cache.pages task.uid (page_of task))
        ∙ ap (option_map (written (start_of task) bytes)) (page_at-used g.cache.pages task.uid (page_of task) task.uid (page_of task) ∙ there))
        (length-grown task.uid (task.offset + length bytes) g.known (known-kept g p desk proc task.uid does.allowed.kept));
  }

-- or it is looked for
module _ (c : Cause) (p : ℕ) (d g : DeskState) (task : Task) (moves : (turn : Turn) → DeskMoves c turn p d g []) (does : Does c p g task) (given : IsTaskIn d p c task) (proc : IsProc p) (desk : IsDesk g) where
  -- the same desk for it, once another page was dropped
  does-dropped : (u : ObjectName) (k : ℕ) → Does c p (with_dropped g u k) task
  does-dropped u k = record {
    idle = record { no_call = does.idle.no_call; no_page = does.idle.no_page; keeping = does.idle.keeping };
    allowed = does.allowed;
    given = IsTaskIn-same g (with_dropped g u k) p c task refl refl does.given;
  }

  module _ (may_drop : (u : ObjectName) (k : ℕ) → MayDrop g ((u, k) ∷ []) → MayDropPages d p c ((u, k) ∷ [])) (missing : IsMissing c p g task) where
    -- a dirty page is sent home
    sent-made : (r : Resident) → free_count g.cache ≡ 0 → oldest (is_idle_clean g.moving) g.cache.pages ≡ None → oldest (is_idle_dirty g.moving) g.cache.pages ≡ Some r → IsMade c p d (room_made g p task (Victim.SendsHome r))
    sent-made r full clean found =
        let there = page_at-oldest g.cache.pages desk.pages.once (is_idle_dirty g.moving) r found in
        let chosen = and_parts r.flags.dirty (not (is_in_transit_there g.moving r.uid r.page)) (find-passes (is_idle_dirty g.moving) (reverse g.cache.pages) r found) in
        let dirty : r.flags.dirty ≡ true = chosen.0 in
        let still : is_in_transit_there g.moving r.uid r.page ≡ false = not-true (is_in_transit_there g.moving r.uid r.page) chosen.1 in
        record {
          may = tt;
          moves = DeskMoves.next (moves _) (Change.evicts task r does missing full clean there dirty still refl);
          says = Says.sends_room c task (as_sent r) given (record {
            accessing = at-put_same g.calls p (Some Access) None desk.four.calls proc;
            opened = at-put_same g.tasks p (Some task) None desk.four.tasks proc;
            sends = record {
              moves = at-put_same g.moving p (going r.uid r.page) None desk.four.moving proc;
              there = rw (page_at-changed_same r.uid r.page as_sent (λ v j s. refl) g.cache.pages, there) refl;
            };
            dirty = dirty;
            allowed = does.allowed;
            keeping = does.idle.keeping;
          });
        }

    -- room is made for it
    room_made-made : free_count g.cache ≡ 0 → (victim : Victim) → MayMakeRoom g victim → IsMade c p d (room_made g p task victim)
    room_made-made full (Victim.Drops u k) may =
        fetched-made c p d (with_dropped g u k) task proc
        (record { entries = desk.four.entries; maps = desk.four.maps; calls = desk.four.calls; tasks = desk.four.tasks; moving = desk.four.moving })
        (does-dropped u k) given ((u, k) ∷ []) (DeskMoves.dropping (moves _) (Change.drops task u k does missing full may refl)) (may_drop u k (full, may))
        (record { looked = missing.looked; absent = absent-without g.cache.pages u k task.uid (page_of task) missing.absent; unasked = missing.unasked })
        (HasFrame.emptied g u k full may)
    room_made-made full (Victim.SendsHome r) may = sent-made r full may.0 may.1

    frame_by-made : (free : Bool) → nat_lt 0 (free_count g.cache) ≡ free → Always p (IsMade c p d) (frame_by g p task free)
    frame_by-made true e = fetched-made c p d g task proc desk.four does given [] (moves _) tt missing (HasFrame.free g e)
    frame_by-made false e = λ victim may. room_made-made (grind (arith, nat_tests, e)) victim may

  module _ (looked : LooksUp c) (may_drop : (u : ObjectName) (k : ℕ) → MayDrop g ((u, k) ∷ []) → MayDropPages d p c ((u, k) ∷ [])) where
    -- it is not resident
    missed_by-made : page_at g.cache.pages task.uid (page_of task) ≡ None → (asked : Bool) → others_fetch g.moving p task.uid (page_of task) ≡ asked → Always p (IsMade c p d) (missed_by g p task asked)
    missed_by-made absent true e = record { moves = moves _; says = Says.waits c task given absent e; may = tt }
    missed_by-made absent false e = frame_by-made may_drop (record { looked = looked; absent = absent; unasked = e }) (nat_lt 0 (free_count g.cache)) refl

    page_by-made : (o : Option Resident) → page_at g.cache.pages task.uid (page_of task) ≡ o → Always p (IsMade c p d) (page_by g p task o)
    page_by-made (Some r) there = performed-made c p d g task (λ reply. moves (Turn.Ends reply)) does given proc desk task.work r refl there
    page_by-made None absent = missed_by-made absent (others_fetch g.moving p task.uid (page_of task)) refl

    pub page_access-made : Always p (IsMade c p d) (page_access g p task)
    page_access-made = page_by-made (page_at g.cache.pages task.uid (page_of task)) refl
