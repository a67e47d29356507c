-- Which pages a load or store drops, and for which page it waits.
use Rattle.std.specs.Prelude.{◌≡◌, ℕ, ◌==◌, Bool, true, false, ◌&&◌, None, IsSome, List, [], ◌∷◌}
use Rattle.std.specs.List.{list_any}
use Rattle.uid_names.specs.Names.{ObjectName, same_uid}
use Rattle.page_cache.specs.Caches.{Resident, page_at, free_count}
use Rattle.fault_handler.specs.Desks.{DeskState, others_fetch}
use Rattle.fault_handler.specs.Outcomes.{Turn}
use Rattle.fault_handler.specs.Victims.{is_idle_page}
use Rattle.fault_handler.specs.PageReplies.{PageAnswer, room_taken}

-- whether this page is among them
abbrev pub is_dropped : ObjectName → ℕ → List (ObjectName × ℕ) → Bool
is_dropped u k dropped = list_any (λ x. same_uid x.0 u && (x.1 == k)) dropped

-- the dropped pages are resident no more, and nothing else goes
pub record DropsOnly (old new : List Resident) (dropped : List (ObjectName × ℕ)) : Type 0 where
  pub gone : (u : ObjectName) (k : ℕ) → is_dropped u k dropped ≡ true → page_at new u k ≡ None
  pub left : (u : ObjectName) (k : ℕ) → is_dropped u k dropped ≡ false → IsSome (page_at old u k) → IsSome (page_at new u k)

-- nothing is dropped, or, where no frame is free, one page that is clean and not in transit
abbrev pub MayDrop : DeskState → List (ObjectName × ℕ) → Type 0
MayDrop d [] = Unit {0}
MayDrop d (name ∷ []) = (free_count d.cache ≡ 0) × (is_idle_page d name.0 name.1 ≡ true)
MayDrop d (name ∷ other ∷ names) = ⊥

-- the desk on which an access is made anew after its answer: once the page that makes room was taken
abbrev pub anew_of : DeskState → ℕ → PageAnswer → DeskState
anew_of d p (PageAnswer.Came task stamp bytes) = d
anew_of d p (PageAnswer.Taken task r stamp) = room_taken d p r stamp
anew_of d p (PageAnswer.NotTaken task r stamp) = d

-- a page that is waited for is one that another process has in transit from its home
abbrev pub WaitsFor : DeskState → ℕ → Turn → Type 0
WaitsFor d p (Turn.Ends reply) = Unit {0}
WaitsFor d p (Turn.Asks home ask) = Unit {0}
WaitsFor d p (Turn.Waits u k) = others_fetch d.moving p u k ≡ true
