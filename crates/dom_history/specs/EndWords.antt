-- How an operation ended, in one word: the one table of the words, and which reply has which.
use Rattle.std.specs.Prelude.{ℕ, Option, List, [], ◌∷◌, codes}
use Rattle.uid_names.specs.Texts.{written_so}
use Rattle.dom_history.specs.declared.end_word.EndWord.{EndWord}
use Rattle.dom_history.specs.declared.end_word.EndWord.TheVariants as word
use Rattle.dom_history.specs.declared.op.Reply.{Reply}
use Rattle.dom_history.specs.declared.op.Reply.TheVariants.{Made, Fine, Bytes, Size, At, Locks, Conflict, NoObject, AlreadyHeld, NotHeld, Unsettled, TooMany, NoLock, WrongMode, PastRoom, PastEnd, NoSpace, Kept, Doubt, LinkFault, TooManyMaps, NoSegment, NotMapped}

abbrev pub word_text : EndWord → List ℕ
word_text word.Fine = codes "ok"
word_text word.Conflict = codes "conflict"
word_text word.NoObject = codes "no-object"
word_text word.AlreadyHeld = codes "already-held"
word_text word.NotHeld = codes "not-held"
word_text word.Unsettled = codes "unsettled"
word_text word.TooMany = codes "too-many"
word_text word.NoLock = codes "no-lock"
word_text word.WrongMode = codes "wrong-mode"
word_text word.PastRoom = codes "past-room"
word_text word.PastEnd = codes "past-end"
word_text word.NoSpace = codes "no-space"
word_text word.Kept = codes "kept"
word_text word.Doubt = codes "doubt"
word_text word.LinkFault = codes "link-fault"
word_text word.TooManyMaps = codes "too-many-maps"
word_text word.NoSegment = codes "no-segment"
word_text word.NotMapped = codes "not-mapped"

-- all of them, in the order of the table
abbrev pub all_ends : List EndWord
all_ends =
    word.Fine ∷ word.Conflict ∷ word.NoObject ∷ word.AlreadyHeld ∷ word.NotHeld ∷ word.Unsettled ∷ word.TooMany ∷ word.NoLock
    ∷ word.WrongMode ∷ word.PastRoom ∷ word.PastEnd ∷ word.NoSpace ∷ word.Kept ∷ word.Doubt ∷ word.LinkFault
    ∷ word.TooManyMaps ∷ word.NoSegment ∷ word.NotMapped ∷ []

-- the one that is written so
abbrev pub end_of_word : List ℕ → Option EndWord
end_of_word word = written_so word_text all_ends word

-- the word of a reply: one word for all those of an operation that was done
abbrev pub word_of : Reply → EndWord
word_of (Made u) = word.Fine
word_of Fine = word.Fine
word_of (Bytes bytes) = word.Fine
word_of (Size n) = word.Fine
word_of (At address fresh) = word.Fine
word_of (Locks rows more) = word.Fine
word_of (Conflict p m) = word.Conflict
word_of NoObject = word.NoObject
word_of AlreadyHeld = word.AlreadyHeld
word_of NotHeld = word.NotHeld
word_of Unsettled = word.Unsettled
word_of TooMany = word.TooMany
word_of NoLock = word.NoLock
word_of WrongMode = word.WrongMode
word_of PastRoom = word.PastRoom
word_of PastEnd = word.PastEnd
word_of NoSpace = word.NoSpace
word_of Kept = word.Kept
word_of Doubt = word.Doubt
word_of LinkFault = word.LinkFault
word_of TooManyMaps = word.TooManyMaps
word_of NoSegment = word.NoSegment
word_of NotMapped = word.NotMapped
