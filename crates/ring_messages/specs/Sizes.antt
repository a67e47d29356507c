-- How many bytes a frame has.
use Rattle.std.specs.Prelude.{ℕ, ◌+◌, ◌*◌, ◌==◌, Bool, true, false, List, length}
use Rattle.uid_names.specs.declared.limits.TheConstants.{PAGE_BYTES}
use Rattle.ring_messages.specs.declared.body.Body.{Body}
use Rattle.ring_messages.specs.BlankPages.{is_blank}
use Rattle.ring_messages.specs.declared.body.Body.TheVariants.{PageIn, PageOut, AttrOut, Lock, Unlock, Remove, Make, List as ListLocks, Page, Stored, Stale, NoGrant, NoObject, Granted, Conflict, Done, Made, NoSpace, Listed}

-- those of a page, behind its form: whether it is left out
abbrev pub formed_size : Bool → ℕ
formed_size true = 1
formed_size false = 1 + PAGE_BYTES

-- those of a page, in version 1 or not
abbrev pub page_size_by : Bool → List ℕ → ℕ
page_size_by true bytes = PAGE_BYTES
page_size_by false bytes = formed_size (is_blank bytes)

abbrev pub page_size : ℕ → List ℕ → ℕ
page_size version bytes = page_size_by (version == 1) bytes

-- the bytes behind the header
abbrev pub body_size : ℕ → Body → ℕ
body_size version (PageIn u page) = 12
body_size version (PageOut u page grant base bytes) = 28 + page_size version bytes
body_size version (AttrOut u n grant base) = 28
body_size version (Lock u m) = 9
body_size version (Unlock u) = 8
body_size version (Remove u) = 8
body_size version (Make kind room) = 5
body_size version (ListLocks after) = 11
body_size version (Page stamp bytes) = 8 + page_size version bytes
body_size version (Stored stamp) = 8
body_size version (Stale stamp) = 8
body_size version NoGrant = 0
body_size version NoObject = 0
body_size version (Granted grant stamp kind room n) = 25
body_size version (Conflict p m) = 3
body_size version Done = 0
body_size version (Made u) = 8
body_size version NoSpace = 0
body_size version (Listed rows more) = 2 + 11 * length rows
