-- The reader's fields, one by one.
-- It decides nothing: which bytes are a frame stands in Spelled, and what a frame's bytes are in Spelling.
use Rattle.std.specs.Prelude.{ℕ, ◌*◌, ◌/◌, ◌%◌, ◌^◌, Bool, true, false, not, ◌==◌, ◌&&◌, nat_lt, nat_le, if◌then◌else◌, List, [], ◌∷◌, length, take, drop, Option, Some, None}
use Rattle.byteorder.specs.Endian.{big_number}
use Rattle.uid_names.specs.Names.{ProcName, ObjectName}
use Rattle.uid_names.specs.declared.mode.Mode.{Mode}
use Rattle.uid_names.specs.declared.mode.ObjKind.{ObjKind}
use Rattle.uid_names.specs.Modes.{mode_of_code, object_of_code}
use Rattle.uid_names.specs.declared.limits.TheConstants.{PAGE_BYTES}
use Rattle.uid_names.specs.Steps.{◌>>=◌}
use Rattle.ring_messages.specs.BlankPages.{blank_page, is_blank}
use Rattle.ring_messages.specs.ReaderSteps.{◌then◌, passing, meaning}

unfoldable pub byte_at : List ℕ → Option (ℕ × List ℕ)
byte_at [] = None
byte_at (b ∷ rest) = Some (b, rest)

unfoldable pub be32_at : List ℕ → Option (ℕ × List ℕ)
be32_at bytes = if nat_lt (length bytes) 4 then None else Some (big_number 4 bytes, drop 4 bytes)

unfoldable pub be64_at : List ℕ → Option (ℕ × List ℕ)
be64_at bytes = if nat_lt (length bytes) 8 then None else Some (big_number 8 bytes, drop 8 bytes)

unfoldable pub bytes_at : List ℕ → Option (List ℕ × List ℕ)
bytes_at bytes = if nat_lt (length bytes) PAGE_BYTES then None else Some (take PAGE_BYTES bytes, drop PAGE_BYTES bytes)

-- a page other than that of zeros
unfoldable pub full_at : List ℕ → Option (List ℕ × List ℕ)
full_at bytes = bytes_at bytes >>= passing (λ page. not (is_blank page))

-- a page, by its form and the bytes behind that
unfoldable pub page_of_form : ℕ → List ℕ → Option (List ℕ × List ℕ)
page_of_form form bytes = if form == 0 then Some (blank_page, bytes) else if form == 1 then full_at bytes else None

unfoldable pub formed_at : List ℕ → Option (List ℕ × List ℕ)
formed_at bytes = do
  form ← byte_at bytes
  page_of_form form.0 form.1

-- a page, in version 1 or not
abbrev pub whole_by : Bool → List ℕ → Option (List ℕ × List ℕ)
whole_by true bytes = bytes_at bytes
whole_by false bytes = formed_at bytes

-- a page, in a version
abbrev pub whole_at : ℕ → List ℕ → Option (List ℕ × List ℕ)
whole_at version bytes = whole_by (version == 1) bytes

-- the number of a page below this room, a length or a room up to it
unfoldable pub page_at : ℕ → List ℕ → Option (ℕ × List ℕ)
page_at room bytes = be32_at bytes >>= passing (λ n. nat_lt n room)

unfoldable pub length_at : ℕ → List ℕ → Option (ℕ × List ℕ)
length_at room bytes = be32_at bytes >>= passing (λ n. nat_le n (PAGE_BYTES * room))

unfoldable pub room_at : ℕ → List ℕ → Option (ℕ × List ℕ)
room_at room bytes = be32_at bytes >>= passing (λ n. nat_le 1 n && nat_le n room)

-- a number from 1
unfoldable pub count_at : List ℕ → Option (ℕ × List ℕ)
count_at bytes = be64_at bytes >>= passing (λ n. nat_le 1 n)

-- the name that a number has, if it is one
abbrev pub name_of : ℕ → ObjectName
name_of n = record { counter = n / 2 ^ 20; home = n % 2 ^ 20 }

abbrev pub is_name : ObjectName → Bool
is_name u = nat_le 1 u.counter && (nat_le 1 u.home && nat_le u.home 8)

unfoldable pub uid_of : ℕ → Option ObjectName
uid_of n = if is_name (name_of n) then Some (name_of n) else None

-- an object of this home
unfoldable pub own_of : ℕ → ℕ → Option ObjectName
own_of home n = do
  u ← uid_of n
  if u.home == home then Some u else None

unfoldable pub proc_of : ℕ → ℕ → Option ProcName
proc_of node number =
    if (nat_le 1 node && nat_le node 8) && (nat_le 1 number && nat_le number 4)
    then Some (record { node = node; number = number }) else None

unfoldable pub flag_of : ℕ → Option Bool
flag_of n = if n == 0 then Some false else if n == 1 then Some true else None

abbrev pub uid_at : List ℕ → Option (ObjectName × List ℕ)
uid_at bytes = be64_at bytes >>= meaning uid_of

abbrev pub own_at : ℕ → List ℕ → Option (ObjectName × List ℕ)
own_at home bytes = be64_at bytes >>= meaning (own_of home)

abbrev pub proc_at : List ℕ → Option (ProcName × List ℕ)
proc_at bytes = (byte_at then byte_at) bytes >>= meaning (λ x. proc_of x.0 x.1)

abbrev pub mode_at : List ℕ → Option (Mode × List ℕ)
mode_at bytes = byte_at bytes >>= meaning mode_of_code

abbrev pub object_at : List ℕ → Option (ObjKind × List ℕ)
object_at bytes = byte_at bytes >>= meaning object_of_code

abbrev pub flag_at : List ℕ → Option (Bool × List ℕ)
flag_at bytes = byte_at bytes >>= meaning flag_of

-- the row behind which rows begin, from a flag and the numbers behind it
unfoldable pub after_of : Bool → ℕ → ℕ → ℕ → Option (Option (ObjectName × ProcName))
after_of false n node number = if (n == 0) && ((node == 0) && (number == 0)) then Some None else None
after_of true n node number = do
  u ← uid_of n
  p ← proc_of node number
  Some (Some (u, p))
