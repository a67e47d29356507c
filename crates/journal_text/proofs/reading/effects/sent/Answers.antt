use Rattle.std.proofs.Common.{◌≡◌, ℕ, List, ◌∷◌, ◌++◌, decimal, ap, append_assoc}
use Rattle.uid_names.specs.FrameKinds.{kind_number, kind_name}
use Rattle.uid_names.specs.declared.frame_kind.FrameKind.{FrameKind}
use Rattle.node_texts.specs.Texts.{node_text}
use Rattle.journal_text.specs.Lines.{numbered_text, kind_text}
use Rattle.journal_text.proofs.KindNames.{kind_text_of}
use Rattle.journal_text.proofs.reading.effects.sent.Goals as goal

-- the fields, one behind the other
put_together : (names : List (List ℕ)) (to index kind number : ℕ) (k : FrameKind) (text name rest first behind word last : List ℕ)
    → text ≡ name ++ 32 ∷ rest → rest ≡ first ++ 32 ∷ behind → behind ≡ word ++ 32 ∷ last
    → name ≡ node_text names to → first ≡ decimal index → word ≡ kind_name k → last ≡ decimal number → kind ≡ kind_number k
    → text ≡ numbered_text names to index ++ 32 ∷ (kind_text kind ++ 32 ∷ decimal number)
put_together names to index kind number k text name rest first behind word last a b d e f g h i =
    rw (a, b, d, e, f, g, h, kind_text_of kind k i) (simp append_assoc)

pub returns-clause-text : goal.returns-clause-text
returns-clause-text c =
    ap (λ (t : List ℕ). 59 ∷ 32 ∷ 115 ∷ 101 ∷ 110 ∷ 100 ∷ 32 ∷ t)
    (put_together c.args.names.now c.in_ok-to.to c.in_ok-index.index c.number-kind.result c.in_ok-number.number c.in_ok-kind.field-0
    c.args.text.now c.in_ok-name.name.now c.in_ok-name.rest.now c.in_ok-digits.digits.now c.in_ok-digits.rest.now c.in_ok-word.word.now c.in_ok-word.digits.now
    c.in_ok-name.ensures.parts.whole c.in_ok-digits.ensures.parts.whole c.in_ok-word.ensures.parts.whole
    c.in_ok-to.ensures.text c.in_ok-index.ensures.text c.in_ok-kind.ensures.text c.in_ok-number.ensures.text c.number-kind.ensures)
