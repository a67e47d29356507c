-- Mailboxes as their bytes: how many texts were put and taken so far, and the texts that are between, in a ring of 56 places.
use Rattle.std.specs.Prelude.{ℕ, ◌+◌, ◌-◌, ◌*◌, ◌%◌, ◌^◌, ◌==◌, ◌≤◌, nat_le, nat_lt, Bool, true, false, ◌&&◌, ◌||◌, Option, Some, None, List, ◌++◌, length, take, drop, replicate}
use Rattle.std.specs.Int.{w16, w64, to_be_bytes, from_be_bytes}
use Rattle.mail_box.specs.declared.boxes.TheConstants.{FIRST_MESSAGE, MESSAGE_BYTES, MESSAGES, TEXT_BYTES}
use Rattle.mail_box.specs.declared.boxes.Extent.{Extent}
use Rattle.mail_box.specs.declared.boxes.Extent.TheVariants.{New, Torn, Whole}
use Rattle.mail_box.specs.declared.boxes.Head.{Head}

-- the two numbers
abbrev pub head_with : ℕ → ℕ → Head
head_with put taken = record { put = put; taken = taken }

-- those of a mailbox without a byte
abbrev pub first_head : Head
first_head = head_with 0 0

abbrev pub one_put : Head → Head
one_put h = head_with (h.put + 1) h.taken

abbrev pub one_taken : Head → Head
one_taken h = head_with h.put (h.taken + 1)

-- their bytes
abbrev pub head_bytes : Head → List ℕ
head_bytes h = to_be_bytes w64 h.put ++ to_be_bytes w64 h.taken

abbrev pub head_of : List ℕ → Head
head_of bytes = head_with (from_be_bytes w64 (take 8 bytes)) (from_be_bytes w64 (take 8 (drop 8 bytes)))

-- they are bad: more are taken than put, no more can be put, or there are more between than have a place
abbrev pub is_bad_head : Head → Bool
is_bad_head h = nat_lt h.put h.taken || ((h.put == 2 ^ 64 - 1) || nat_lt MESSAGES (h.put - h.taken))

-- no more has a place
abbrev pub is_full : Head → Bool
is_full h = h.put - h.taken == MESSAGES

-- none is between
abbrev pub is_empty : Head → Bool
is_empty h = h.put == h.taken

-- where a message stands, by its number from 0
abbrev pub place_of : ℕ → ℕ
place_of i = FIRST_MESSAGE + MESSAGE_BYTES * (i % MESSAGES)

-- a text that can be put: some bytes, and as many as a message has at most
pub record IsText (text : List ℕ) : Type 0 where
  pub some : 1 ≤ length text
  pub few : length text ≤ TEXT_BYTES

-- a message: the length of its text, the text, and zeros
abbrev pub message_bytes : List ℕ → List ℕ
message_bytes text = to_be_bytes w16 (length text) ++ (text ++ replicate (126 - length text) 0)

-- the text of a message; None where its length is none
abbrev pub text_if : Bool → ℕ → List ℕ → Option (List ℕ)
text_if true n rest = Some (take n rest)
text_if false n rest = None

abbrev pub text_behind : ℕ → List ℕ → Option (List ℕ)
text_behind n rest = text_if (nat_le 1 n && nat_le n TEXT_BYTES) n rest

abbrev pub text_in : List ℕ → Option (List ℕ)
text_in bytes = text_behind (from_be_bytes w16 (take 2 bytes)) (drop 2 bytes)

-- what the length of a mailbox says: nothing was put yet; its first message is not whole; or its numbers can be read
abbrev pub extent_if : Bool → Bool → Extent
extent_if true short = New
extent_if false true = Torn
extent_if false false = Whole

abbrev pub extent_of : ℕ → Extent
extent_of n = extent_if (n == 0) (nat_lt n (FIRST_MESSAGE + MESSAGE_BYTES))
