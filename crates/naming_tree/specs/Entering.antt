-- How an object is opened, loaded whole and closed, reply by reply.
use Rattle.std.specs.Prelude.{◌≡◌, ◌<◌, ◌%◌, ℕ, ◌+◌, ◌*◌, ◌-◌, min, nat_lt, Bool, true, false, not, ◌&&◌, cond, Option, Some, None, List, ◌++◌}
use Rattle.std.specs.Int.{div_ceil}
use Rattle.uid_names.specs.Names.{ObjectName}
use Rattle.uid_names.specs.Rooms.{IsLength}
use Rattle.uid_names.specs.declared.segment.TheConstants.{SEGMENT_SIZE, SEGMENTS}
use Rattle.uid_names.specs.declared.mode.Mode.{Mode}
use Rattle.uid_names.specs.declared.limits.TheConstants.{PAGE_BYTES}
use Rattle.dom_history.specs.declared.op.Op.{Op}
use Rattle.dom_history.specs.declared.op.Op.TheVariants as ops
use Rattle.dom_history.specs.declared.op.Spot.TheVariants.{Addr}
use Rattle.dom_history.specs.declared.op.Reply.{Reply}
use Rattle.dom_history.specs.declared.op.Reply.TheVariants.{Fine, Size, At, Bytes}
use Rattle.naming_tree.specs.declared.session.Opened.{Opened}
use Rattle.naming_tree.specs.declared.session.Held.{Held}
use Rattle.naming_tree.specs.declared.session.Entering.{Entering}
use Rattle.naming_tree.specs.declared.session.Entering.TheVariants.{Lock, Length, Map, Load}
use Rattle.naming_tree.specs.declared.session.Entry.{Entry}
use Rattle.naming_tree.specs.declared.session.Entry.TheVariants.{On, In, Out}
use Rattle.naming_tree.specs.declared.session.Closing.{Closing}

-- how many pages so many bytes take
abbrev pub pages : ℕ → ℕ
pages n = div_ceil n PAGE_BYTES

-- a load of a page, as far as the object is long
abbrev pub page_load : Opened → ℕ → Op
page_load o page = ops.Load (Addr (o.address + page * PAGE_BYTES)) (min PAGE_BYTES (o.length - page * PAGE_BYTES))

-- the operation of a stage
abbrev pub enter_op : ObjectName → Mode → Entering → Op
enter_op u mode Lock = ops.Lock u mode
enter_op u mode Length = ops.Length u
enter_op u mode (Map n) = ops.Map u
enter_op u mode (Load o page) = page_load o page

-- an object that is only locked
abbrev pub locked : ObjectName → Held
locked u = record { other = None; mapped = false; uid = u }

-- an object that is open
abbrev pub held_of : Opened → Held
held_of o = record { other = None; mapped = o.fresh; uid = o.uid }

-- the stage at a page, or that all are loaded
abbrev pub entry_at : Opened → ℕ → Entry
entry_at o page = cond (nat_lt page (pages o.length)) (On (Load o page)) (In o)

-- what a reply makes of a stage
abbrev pub on_lock : Reply → Entry
on_lock Fine = On Length
on_lock _ = Out None

abbrev pub on_length : ObjectName → Reply → Entry
on_length u (Size n) = On (Map n)
on_length u _ = Out (Some (locked u))

abbrev pub on_map : ObjectName → ℕ → Reply → Entry
on_map u n (At address fresh) = entry_at (record { uid = u; length = n; address = address; fresh = fresh }) 0
on_map u n _ = Out (Some (locked u))

abbrev pub on_load : Opened → ℕ → Reply → Entry
on_load o page (Bytes bytes) = entry_at o (page + 1)
on_load o page _ = Out (Some (held_of o))

abbrev pub entry_of : ObjectName → Entering → Reply → Entry
entry_of u Lock reply = on_lock reply
entry_of u Length reply = on_length u reply
entry_of u (Map n) reply = on_map u n reply
entry_of u (Load o page) reply = on_load o page reply

-- the bytes behind a reply: those of a load are put last
abbrev pub loaded : List ℕ → Reply → List ℕ
loaded bytes (Bytes more) = bytes ++ more
loaded bytes _ = bytes

abbrev pub bytes_after : Entering → List ℕ → Reply → List ℕ
bytes_after (Load o page) bytes reply = loaded bytes reply
bytes_after _ bytes reply = bytes

-- the first operation that closes what is held
abbrev pub unmap_if : Bool → ObjectName → Op
unmap_if true u = ops.Unmap u
unmap_if false u = ops.Unlock u

abbrev pub close_op : Option ObjectName → Bool → ObjectName → Op
close_op (Some other) mapped u = ops.Unlock other
close_op None mapped u = unmap_if mapped u

abbrev pub held_op : Held → Op
held_op h = close_op h.other h.mapped h.uid

-- what is held behind it
abbrev pub lock_if : Bool → ObjectName → Option Held
lock_if true u = Some (locked u)
lock_if false u = None

abbrev pub rest_held : Option ObjectName → Bool → ObjectName → Option Held
rest_held (Some other) mapped u = Some (record { other = None; mapped = mapped; uid = u })
rest_held None mapped u = lock_if mapped u

abbrev pub held_after : Held → Option Held
held_after h = rest_held h.other h.mapped h.uid

abbrev pub rest_of : Option Held → Option Held
rest_of None = None
rest_of (Some h) = held_after h

abbrev pub is_fine : Reply → Bool
is_fine Fine = true
is_fine _ = false

-- the first refusal that counts
abbrev pub refusal : Bool → Reply → Option Reply → Option Reply
refusal true reply before = Some reply
refusal false reply before = before

-- what a reply makes of a closing
abbrev pub closing_after : Closing → Reply → Closing
closing_after c reply = record {
  held = rest_of c.held;
  counts = c.counts && is_fine reply;
  refused = refusal (c.counts && not (is_fine reply)) reply c.refused;
}

-- what a closing asks
abbrev pub held_op_of : Option Held → Option Op
held_op_of None = None
held_op_of (Some h) = Some (held_op h)

abbrev pub op_of_closing : Closing → Option Op
op_of_closing c = held_op_of c.held

-- an object that is open: its length is one of objects, and it lies where mappings lie
pub record IsOpened (o : Opened) : Type 0 where
  pub long : IsLength o.length
  pub at : o.address % SEGMENT_SIZE ≡ 0
  pub below : o.address < SEGMENTS * SEGMENT_SIZE

-- a stage that can be reached
abbrev pub IsEntering : Entering → Type 0
IsEntering Lock = Unit {0}
IsEntering Length = Unit {0}
IsEntering (Map n) = IsLength n
IsEntering (Load o page) = IsOpened o × (page < pages o.length)
