-- The one spelling of each frame. Numbers are big-endian.
use Rattle.std.specs.Prelude.{ℕ, ◌==◌, Bool, true, false, List, [], ◌∷◌, ◌++◌, replicate, length, Option, Some, None}
use Rattle.std.specs.List.{flat_map}
use Rattle.byteorder.specs.Endian.{big_bytes}
use Rattle.uid_names.specs.Names.{ProcName, ObjectName, number_of}
use Rattle.uid_names.specs.Modes.{mode_code, object_code}
use Rattle.uid_names.specs.FrameKinds.{kind_number}
use Rattle.uid_names.specs.declared.lock_row.LockRow.{LockRow}
use Rattle.ring_messages.specs.declared.body.Body.{Body}
use Rattle.ring_messages.specs.declared.body.Body.TheVariants.{PageIn, PageOut, AttrOut, Lock, Unlock, Remove, Make, List as ListLocks, Page, Stored, Stale, NoGrant, NoObject, Granted, Conflict, Done, Made, NoSpace, Listed}
use Rattle.ring_messages.specs.declared.frame.Head.{Head}
use Rattle.ring_messages.specs.BlankPages.{is_blank}
use Rattle.ring_messages.specs.Bodies.{kind_of}
use Rattle.ring_messages.specs.Frames.{Message}

-- the four bytes of a number
unfoldable pub be32 : ℕ → List ℕ
be32 n = big_bytes 4 n

-- the eight bytes of a number
unfoldable pub be64 : ℕ → List ℕ
be64 n = big_bytes 8 n

-- the eight bytes of an object's name
abbrev pub uid_bytes : ObjectName → List ℕ
uid_bytes u = be64 (number_of u)

-- a process: its node, and its number there
abbrev pub proc_bytes : ProcName → List ℕ
proc_bytes p = p.node ∷ p.number ∷ []

abbrev pub flag : Bool → ℕ
flag false = 0
flag true = 1

-- a row: its object, process and mode
abbrev pub row_bytes : LockRow → List ℕ
row_bytes row = uid_bytes row.uid ++ (proc_bytes row.proc ++ (mode_code row.mode ∷ []))

-- the row behind which the rows of a reply begin: a flag, and the row's object and process; zeros where there is none
abbrev pub after_bytes : Option (ObjectName × ProcName) → List ℕ
after_bytes None = 0 ∷ replicate 10 0
after_bytes (Some (u, p)) = 1 ∷ (uid_bytes u ++ proc_bytes p)

-- a form, and then the page: 0 for a page of zeros, which is left out, and 1 for any other
abbrev pub formed : Bool → List ℕ → List ℕ
formed true bytes = 0 ∷ []
formed false bytes = 1 ∷ bytes

-- a page, in version 1 or not
abbrev pub page_by : Bool → List ℕ → List ℕ
page_by true bytes = bytes
page_by false bytes = formed (is_blank bytes) bytes

-- a page, in a version
abbrev pub page_bytes : ℕ → List ℕ → List ℕ
page_bytes version bytes = page_by (version == 1) bytes

-- the bytes behind the header, in a version
abbrev pub body_bytes : ℕ → Body → List ℕ
body_bytes version (PageIn u page) = uid_bytes u ++ be32 page
body_bytes version (PageOut u page grant base bytes) = uid_bytes u ++ (be32 page ++ (be64 grant ++ (be64 base ++ page_bytes version bytes)))
body_bytes version (AttrOut u n grant base) = uid_bytes u ++ (be32 n ++ (be64 grant ++ be64 base))
body_bytes version (Lock u m) = uid_bytes u ++ (mode_code m ∷ [])
body_bytes version (Unlock u) = uid_bytes u
body_bytes version (Remove u) = uid_bytes u
body_bytes version (Make kind room) = object_code kind ∷ be32 room
body_bytes version (ListLocks after) = after_bytes after
body_bytes version (Page stamp bytes) = be64 stamp ++ page_bytes version bytes
body_bytes version (Stored stamp) = be64 stamp
body_bytes version (Stale stamp) = be64 stamp
body_bytes version NoGrant = []
body_bytes version NoObject = []
body_bytes version (Granted grant stamp kind room n) = be64 grant ++ (be64 stamp ++ (object_code kind ∷ (be32 room ++ be32 n)))
body_bytes version (Conflict p m) = proc_bytes p ++ (mode_code m ∷ [])
body_bytes version Done = []
body_bytes version (Made u) = uid_bytes u
body_bytes version NoSpace = []
body_bytes version (Listed rows more) = length rows ∷ flag more ∷ flat_map row_bytes rows

-- the 24 bytes of a header: version, kind, the two nodes, the process, three zeros, the number of the call, the tick
abbrev pub header : Head → List ℕ
header h = h.version ∷ kind_number h.kind ∷ h.from ∷ h.to ∷ h.proc ∷ 0 ∷ 0 ∷ 0 ∷ (be64 h.number ++ be64 h.tick)

-- the header of a frame
abbrev pub head_of : Message → Head
head_of m = record { version = m.version; kind = kind_of m.body; from = m.from; to = m.to; proc = m.proc; number = m.number; tick = m.tick }

-- the frame of a header and a body
abbrev pub framed : Head → Body → Message
framed h b = record { version = h.version; from = h.from; to = h.to; proc = h.proc; number = h.number; tick = h.tick; body = b }

abbrev pub spelling : Message → List ℕ
spelling m = header (head_of m) ++ body_bytes m.version m.body
