-- Which answers refuse a request, and which requests remove an object or write to one.
use Rattle.std.specs.Prelude.{ℕ, Bool, true, false, Option, Some, None}
use Rattle.uid_names.specs.Names.{ObjectName}
use Rattle.ring_messages.specs.Bodies.{Ask, Answer}

abbrev pub is_refusal : Answer → Bool
is_refusal (Answer.Stale stamp) = true
is_refusal Answer.NoGrant = true
is_refusal Answer.NoObject = true
is_refusal (Answer.Conflict holder held) = true
is_refusal Answer.NoSpace = true
is_refusal _ = false

abbrev pub is_remove : Ask → Bool
is_remove (Ask.Remove u) = true
is_remove _ = false

-- the object and the base of a write
abbrev pub write_in : Ask → Option (ObjectName × ℕ)
write_in (Ask.PageOut u page grant base bytes) = Some (u, base)
write_in (Ask.AttrOut u length grant base) = Some (u, base)
write_in _ = None
