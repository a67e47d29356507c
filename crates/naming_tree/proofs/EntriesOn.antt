-- An opening keeps to stages that can be reached, and opens what mappings can be of.
use Rattle.std.proofs.Common.{◌≡◌, ℕ, ◌+◌, Bool, true, false, cond, refl, arith}
use Rattle.std.specs.Prelude.{nat_lt}
use Rattle.uid_names.specs.Names.{ObjectName}
use Rattle.uid_names.specs.Rooms.{IsLength}
use Rattle.uid_names.specs.declared.mode.Mode.{Mode}
use Rattle.dom_history.specs.declared.op.Reply.{Reply}
use Rattle.dom_history.specs.declared.op.Reply.TheVariants.{Fine, Size, At, Bytes}
use Rattle.dom_history.specs.Fitting.{Fits, is_length_reply, is_map_reply}
use Rattle.dom_history.proofs.Fitting.{size-fits, at-fits}
use Rattle.naming_tree.specs.declared.session.Opened.{Opened}
use Rattle.naming_tree.specs.declared.session.Entering.{Entering}
use Rattle.naming_tree.specs.declared.session.Entering.TheVariants.{Lock, Length, Map, Load}
use Rattle.naming_tree.specs.declared.session.Entry.{Entry}
use Rattle.naming_tree.specs.declared.session.Entry.TheVariants.{On, In, Out}
use Rattle.naming_tree.specs.Entering.{pages, enter_op, entry_of, entry_at, on_lock, on_length, on_map, on_load, IsEntering, IsOpened}

abbrev pub IsEntry : Entry → Type 0
IsEntry (On stage) = IsEntering stage
IsEntry (In o) = IsOpened o
IsEntry (Out held) = Unit {0}

at_page : (o : Opened) (page : ℕ) (t : Bool) → IsOpened o → nat_lt page (pages o.length) ≡ t → IsEntry (cond t (On (Load o page)) (In o))
at_page o page true h e = (h, grind arith)
at_page o page false h e = h

at_entry : (o : Opened) (page : ℕ) → IsOpened o → IsEntry (entry_at o page)
at_entry o page h = at_page o page (nat_lt page (pages o.length)) h refl

lock_entry : (reply : Reply) → IsEntry (on_lock reply)
lock_entry Fine = tt
lock_entry reply = tt

length_entry : (u : ObjectName) (reply : Reply) → is_length_reply reply ≡ true → IsEntry (on_length u reply)
length_entry u (Size n) h = size-fits n h
length_entry u reply h = tt

map_entry : (u : ObjectName) (n : ℕ) (reply : Reply) → IsLength n → is_map_reply reply ≡ true → IsEntry (on_map u n reply)
map_entry u n (At address fresh) long h = let start = at-fits address fresh h in at_entry (record { uid = u; length = n; address = address; fresh = fresh }) 0 (record { long = long; at = start.0; below = start.1 })
map_entry u n reply long h = tt

load_entry : (o : Opened) (page : ℕ) (reply : Reply) → IsOpened o → IsEntry (on_load o page reply)
load_entry o page (Bytes more) h = at_entry o (page + 1) h
load_entry o page reply h = tt

-- what a reply that fits makes of a stage
pub entry_on : (u : ObjectName) (mode : Mode) (stage : Entering) (reply : Reply) → IsEntering stage → Fits (enter_op u mode stage) reply → IsEntry (entry_of u stage reply)
entry_on u mode Lock reply h fits = lock_entry reply
entry_on u mode Length reply h fits = length_entry u reply fits
entry_on u mode (Map n) reply h fits = map_entry u n reply h fits
entry_on u mode (Load o page) reply h fits = load_entry o page reply h.0
