-- The parts of a line are short.
use Rattle.std.proofs.Common.{◌≡◌, ℕ, ◌+◌, ◌*◌, ◌^◌, ◌<◌, ◌≤◌, List, [], ◌++◌, codes, decimal, length, take, get_or, refl, sym, ap, subst, length-append, arith}
use Rattle.std.proofs.lemmas.Fmt.{length-decimal-le}
use Rattle.hex.specs.Hex.{encode_with}
use Rattle.uid_names.specs.FrameKinds.{kind_name}
use Rattle.uid_names.specs.declared.frame_kind.FrameKind.{FrameKind}
use Rattle.uid_names.specs.declared.frame_kind.FrameKind.TheVariants as kinds
use Rattle.std.specs.List.{flat_map}
use Rattle.uid_names.specs.Names.{ObjectName}
use Rattle.uid_names.specs.Texts.{text_of}
use Rattle.uid_names.specs.declared.ids.Place.{Place}
use Rattle.dom_history.specs.Events.{IsKindNumber}
use Rattle.dom_history.specs.NodeTexts.{AreNodeNames}
use Rattle.node_texts.specs.Texts.{node_text}
use Rattle.node_texts.proofs.Short.{name_short}
use Rattle.journal_text.specs.Lines.{numbered_text, place_text, kind_text, drop_text}
use Rattle.journal_text.proofs.Drops.{one_more}
use Rattle.journal_text.proofs.KindNames.{kind_text_of}

pub digits_short : (n : ℕ) → n < 2 ^ 64 → length (decimal n) ≤ 20
digits_short n fits = length-decimal-le 20 n (omega arith) (omega arith) fits

pub numbered_short : (names : List (List ℕ)) (node n : ℕ) → AreNodeNames names → length (decimal n) ≤ 20 → length (numbered_text names node n) ≤ 53
numbered_short names node n are digits =
    let name = name_short names node are in
    let whole = length-append (node_text names node) (codes " " ++ decimal n) in
    let rest = length-append (codes " ") (decimal n) in
    omega (arith, digits, name, whole, rest)

pub place_short : (names : List (List ℕ)) (place : Place) → AreNodeNames names → length (decimal place.tick) ≤ 20 → length (place_text names place) ≤ 54
place_short names place are digits =
    let name = name_short names place.node are in
    let whole = length-append (decimal place.tick) (codes " " ++ (node_text names place.node ++ codes " ")) in
    let rest = length-append (codes " ") (node_text names place.node ++ codes " ") in
    let last = length-append (node_text names place.node) (codes " ") in
    omega (arith, digits, name, whole, rest, last)

kind-short : (kind : FrameKind) → length (kind_name kind) ≤ 9
kind-short kinds.PageIn = omega arith
kind-short kinds.PageOut = omega arith
kind-short kinds.AttrOut = omega arith
kind-short kinds.Lock = omega arith
kind-short kinds.Unlock = omega arith
kind-short kinds.Remove = omega arith
kind-short kinds.Make = omega arith
kind-short kinds.List = omega arith
kind-short kinds.Page = omega arith
kind-short kinds.Stored = omega arith
kind-short kinds.Stale = omega arith
kind-short kinds.NoGrant = omega arith
kind-short kinds.NoObject = omega arith
kind-short kinds.Granted = omega arith
kind-short kinds.Conflict = omega arith
kind-short kinds.Done = omega arith
kind-short kinds.Made = omega arith
kind-short kinds.NoSpace = omega arith
kind-short kinds.Listed = omega arith

pub kind_short : (n : ℕ) → IsKindNumber n → length (kind_text n) ≤ 9
kind_short n is = subst (λ (text : List ℕ). length text ≤ 9) (sym (kind_text_of n is.0 is.1)) (kind-short is.0)

text-long : (u : ObjectName) → length (text_of u) ≡ 16
unfolding encode_with
text-long u = refl

drop-short : (page : ObjectName × ℕ) → length (decimal page.1) ≤ 20 → length (drop_text page) ≤ 44
drop-short page digits =
    let long = text-long page.0 in
    let whole = length-append (codes "; drop ") (text_of page.0 ++ (codes " " ++ decimal page.1)) in
    let rest = length-append (text_of page.0) (codes " " ++ decimal page.1) in
    omega (arith, digits, long, whole, rest)

-- one page more
pub dropped-more : (pages : List (ObjectName × ℕ)) (i : ℕ) (page : ObjectName × ℕ) → page ≡ get_or pages i page → i < length pages → length (decimal page.1) ≤ 20
    → length (flat_map drop_text (take i pages)) ≤ 44 * i → length (flat_map drop_text (take (i + 1) pages)) ≤ 44 * (i + 1)
dropped-more pages i page is inside digits short =
    let more = one_more drop_text [] pages i page is inside in
    let long = length-append (flat_map drop_text (take i pages)) (drop_text page) in
    let same = ap (λ (xs : List ℕ). length xs) more in
    let one = drop-short page digits in
    omega (arith, short, long, same, one)
