-- The page that a process moves: from its home into a frame that is reserved, or home.
use Rattle.std.specs.Prelude.{ℕ, Bool, true, false, ◌&&◌, ◌==◌, if◌then◌else◌, Option, Some, None}
use Rattle.uid_names.specs.Names.{ObjectName, same_uid}
use Rattle.fault_handler.specs.declared.transits.Transit.{Transit}

abbrev pub coming : ObjectName → ℕ → Option Transit
coming u k = Some (record { uid = u; page = k; inward = true })

abbrev pub going : ObjectName → ℕ → Option Transit
going u k = Some (record { uid = u; page = k; inward = false })

-- whether this page is moved
abbrev pub is_moving : ObjectName → ℕ → Option Transit → Bool
is_moving u k None = false
is_moving u k (Some t) = same_uid t.uid u && (t.page == k)

-- whether this page comes from its home
abbrev pub is_coming : ObjectName → ℕ → Option Transit → Bool
is_coming u k None = false
is_coming u k (Some t) = t.inward && is_moving u k (Some t)

-- the page of u that is moved
abbrev pub moved_page : ObjectName → Option Transit → Option ℕ
moved_page u None = None
moved_page u (Some t) = if same_uid t.uid u then Some t.page else None

-- 1 where a page comes from its home
abbrev pub inward_count : Option Transit → ℕ
inward_count None = 0
inward_count (Some t) = if t.inward then 1 else 0
