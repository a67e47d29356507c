-- The names of kinds, by number.
use Rattle.std.proofs.Common.{◌≡◌, ℕ, ap, ◌∙◌}
use Rattle.uid_names.specs.FrameKinds.{kind_number, kind_name}
use Rattle.uid_names.specs.declared.frame_kind.FrameKind.{FrameKind}
use Rattle.uid_names.proofs.TextTables.{kind_of_number-number}
use Rattle.journal_text.specs.Lines.{kind_text, name_in}

pub kind_text-number : (k : FrameKind) → kind_text (kind_number k) ≡ kind_name k
unfolding kind_text
kind_text-number k = ap name_in (kind_of_number-number k)

-- the number of a kind has its name
pub kind_text_of : (n : ℕ) (k : FrameKind) → n ≡ kind_number k → kind_text n ≡ kind_name k
kind_text_of n k e = ap kind_text e ∙ kind_text-number k
