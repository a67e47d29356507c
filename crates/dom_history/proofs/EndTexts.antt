-- Each end is found by its word.
use Rattle.std.proofs.Common.{◌≡◌, Some, refl}
use Rattle.dom_history.specs.declared.end_word.EndWord.{EndWord}
use Rattle.dom_history.specs.declared.end_word.EndWord.TheVariants as word
use Rattle.dom_history.specs.EndWords.{word_text, end_of_word}

pub end_of_word-word : (w : EndWord) → end_of_word (word_text w) ≡ Some w
end_of_word-word word.Fine = refl
end_of_word-word word.Conflict = refl
end_of_word-word word.NoObject = refl
end_of_word-word word.AlreadyHeld = refl
end_of_word-word word.NotHeld = refl
end_of_word-word word.Unsettled = refl
end_of_word-word word.TooMany = refl
end_of_word-word word.NoLock = refl
end_of_word-word word.WrongMode = refl
end_of_word-word word.PastRoom = refl
end_of_word-word word.PastEnd = refl
end_of_word-word word.NoSpace = refl
end_of_word-word word.Kept = refl
end_of_word-word word.Doubt = refl
end_of_word-word word.LinkFault = refl
end_of_word-word word.TooManyMaps = refl
end_of_word-word word.NoSegment = refl
end_of_word-word word.NotMapped = refl
