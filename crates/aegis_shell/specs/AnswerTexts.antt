-- What a command is answered, and how that is written.
use Rattle.std.specs.Prelude.{ℕ, Bool, true, false, Option, Some, None, List, [], ◌∷◌, ◌++◌, codes, decimal}
use Rattle.std.specs.Int.{w32, to_be_bytes}
use Rattle.hex.specs.Hex.{encode_lower}
use Rattle.uid_names.specs.Modes.{mode_letter}
use Rattle.uid_names.specs.Texts.{text_of}
use Rattle.dom_history.specs.declared.op.Reply.{Reply}
use Rattle.dom_history.specs.declared.op.Reply.TheVariants.{Made, Fine, Bytes, Size, At, Locks, Conflict, NoObject, AlreadyHeld, NotHeld, Unsettled, TooMany, NoLock, WrongMode, PastRoom, PastEnd, NoSpace, Kept, Doubt, LinkFault, TooManyMaps, NoSegment, NotMapped}
use Rattle.node_texts.specs.Texts.{process_text}
use Rattle.dom_text.specs.Texts.{quoted_text}

-- the reply of an operation that was done
abbrev pub is_done : Reply → Bool
is_done (Made u) = true
is_done Fine = true
is_done (Bytes bytes) = true
is_done (Size n) = true
is_done (At address fresh) = true
is_done (Locks rows more) = true
is_done _ = false

-- what two operations of a command answer together: the bytes of both, else what the later one does
abbrev pub together : Reply → Reply → Reply
together (Bytes first) (Bytes second) = Bytes (first ++ second)
together earlier later = later

-- what the operation before answered, if there was one
abbrev pub so_far : Option Reply → Reply
so_far None = Fine
so_far (Some reply) = reply

-- an address in eight lower-case hexadecimal digits
abbrev pub address_text : ℕ → List ℕ
address_text address = encode_lower (to_be_bytes w32 address)

-- the answer that a reply is written as. No command here asks for rows of locks
abbrev pub answer_text : List (List ℕ) → Reply → List ℕ
answer_text names (Made u) = codes "ok " ++ text_of u
answer_text names Fine = codes "ok"
answer_text names (Bytes bytes) = codes "ok " ++ quoted_text bytes
answer_text names (Size n) = codes "ok " ++ decimal n
answer_text names (At address fresh) = codes "ok " ++ address_text address
answer_text names (Locks rows more) = codes "ok"
answer_text names (Conflict p m) = codes "conflict " ++ process_text names p ++ codes " " ++ mode_letter m ∷ []
answer_text names NoObject = codes "no object"
answer_text names AlreadyHeld = codes "already held"
answer_text names NotHeld = codes "not held"
answer_text names Unsettled = codes "unsettled"
answer_text names TooMany = codes "too many locks"
answer_text names NoLock = codes "no lock"
answer_text names WrongMode = codes "wrong mode"
answer_text names PastRoom = codes "past room"
answer_text names PastEnd = codes "past end"
answer_text names NoSpace = codes "no space"
answer_text names Kept = codes "link fault, lock kept"
answer_text names Doubt = codes "doubt"
answer_text names LinkFault = codes "link fault"
answer_text names TooManyMaps = codes "too many mappings"
answer_text names NoSegment = codes "no segment"
answer_text names NotMapped = codes "not mapped"

-- the answer of a command whose variable has no object
abbrev pub not_bound : List ℕ
not_bound = codes "not bound"

-- of one whose working directory would have too long a text
abbrev pub path_too_long : List ℕ
path_too_long = codes "path too long"
