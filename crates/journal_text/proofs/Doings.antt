-- What an event did is read as it was written.
use Rattle.std.proofs.Common.{◌≡◌, ℕ, Bool, true, false, List, [], ◌∷◌, ◌++◌, map, IsTrue, Option, Some, None, Result, Ok, Err, refl, ap, sym, ◌∙◌, append_assoc, append-nil, decimal, subst, arith}
use Rattle.std.specs.Prelude.{◌==◌, if◌then◌else◌, not, IfSome, IfOk, All}
use Rattle.std.proofs.lemmas.Bool.{and_parts, false≢true}
use Rattle.std.specs.List.{flat_map, list_all}
use Rattle.std.proofs.lemmas.List.Elements.{All-append, All-cons, All-head, All-nil, All-tail}
use Rattle.std.proofs.lemmas.List.Concat.{flat_map-append, flat_map-cons}
use Rattle.std.proofs.lemmas.Option.{same_Some}
use Rattle.uid_names.specs.Names.{ObjectName}
use Rattle.uid_names.specs.Texts.{text_of}
use Rattle.dom_history.specs.EndWords.{word_text}
use Rattle.dom_history.specs.Events.{AreEffects, IsKindNumber}
use Rattle.dom_history.specs.Ranges.{IsProcNumber}
use Rattle.dom_history.specs.NodeTexts.{AreNodeNames}
use Rattle.dom_history.specs.declared.end_word.EndWord.{EndWord}
use Rattle.dom_history.specs.declared.event.Sent.{Sent}
use Rattle.dom_history.specs.declared.event.Effects.{Effects}
use Rattle.journal_text.specs.Walk.Heads.{BeginsWithSemicolon, IsHeadOf, pieces_of}
use Rattle.node_texts.specs.Texts.{node_text}
use Rattle.journal_text.specs.Lines.{numbered_text, kind_text, drop_text, sent_text, ended_text, effects_text}
use Rattle.journal_text.specs.Walk.LineEffects.{effect_of, with_effect, and_effect, effects_of}
use Rattle.journal_text.specs.Walk.EffectTexts.{effect_text, IsEffect, AreRead}
use Rattle.journal_text.specs.Written.{IsNode, IsCount, IsPage, IsSent, AreWritten}
use Rattle.journal_text.specs.declared.reading.effects.Effect.{Effect}
use Rattle.journal_text.specs.declared.reading.effects.Effect.TheVariants.{Drop, Send, End}
use Rattle.journal_text.proofs.KindNames.{kind_text_of}
use Rattle.journal_text.proofs.Plain.{plain, is_inner, inner, lacks, weaker, both, inner-plain, plain-decimal, plain-uid, plain-kind, plain-end}
use Rattle.journal_text.proofs.Splits.{pieces-from}
use Rattle.journal_text.proofs.Fields.{plain-node}
use Rattle.journal_text.proofs.Parts.{piece, piece-text, effect-again}

-- ---- effects, one by one

abbrev of_page : ObjectName × ℕ → Effect
of_page page = Drop page.0 page.1

abbrev sent_effects : Option Sent → List Effect
sent_effects None = []
sent_effects (Some sent) = Send sent ∷ []

abbrev ended_effects : Option (ℕ × EndWord) → List Effect
ended_effects None = []
ended_effects (Some ended) = End ended.0 ended.1 ∷ []

abbrev all_effects : Effects → List Effect
all_effects e = map of_page e.dropped ++ (sent_effects e.sent ++ ended_effects e.ended)

abbrev pub no_effects : Effects
no_effects = record { dropped = []; sent = None; ended = None }

-- effects with others behind them
abbrev added : Option Effects → List Effect → Option Effects
added e [] = e
added None (x ∷ xs) = None
added (Some e) (x ∷ xs) = added (with_effect e x) xs

added-drops : (before pages : List (ObjectName × ℕ)) (xs : List Effect)
    → added (Some (record { dropped = before; sent = None; ended = None })) (map of_page pages ++ xs) ≡ added (Some (record { dropped = before ++ pages; sent = None; ended = None })) xs
unfolding with_effect
added-drops before [] xs = ap (λ (ds : List (ObjectName × ℕ)). added (Some (record { dropped = ds; sent = None; ended = None })) xs) (sym (append-nil before))
added-drops before (page ∷ pages) xs =
    added-drops (before ++ page ∷ []) pages xs
    ∙ ap (λ (ds : List (ObjectName × ℕ)). added (Some (record { dropped = ds; sent = None; ended = None })) xs) (append_assoc before (page ∷ []) pages)

added-ends : (dropped : List (ObjectName × ℕ)) (sent : Option Sent) (ended : Option (ℕ × EndWord))
    → added (Some (record { dropped = dropped; sent = None; ended = None })) (sent_effects sent ++ ended_effects ended) ≡ Some (record { dropped = dropped; sent = sent; ended = ended })
unfolding with_effect
added-ends dropped None None = refl
added-ends dropped None (Some ended) = refl
added-ends dropped (Some sent) None = refl
added-ends dropped (Some sent) (Some ended) = refl

added-all : (e : Effects) → added (Some no_effects) (all_effects e) ≡ Some e
added-all e = added-drops [] e.dropped (sent_effects e.sent ++ ended_effects e.ended) ∙ added-ends e.dropped e.sent e.ended

-- ---- bytes

-- a byte that may stand in a line
abbrev pub is_unbroken : ℕ → Bool
is_unbroken b = not (b == 10)

module _ (names : List (List ℕ)) (are : AreNodeNames names) where
  inner-numbered : (n i : ℕ) → IsNode names n → IsCount i → inner (numbered_text names n i) ≡ true
  inner-numbered n i is h =
      both is_inner (node_text names n) (32 ∷ decimal i) (inner-plain (node_text names n) (plain-node names n are is.named)) (inner-plain (decimal i) (plain-decimal i h))

  inner-piece : (x : Effect) → IsEffect names x → inner (piece names are x) ≡ true
  inner-piece (Drop u page) is =
      both is_inner (text_of u) (32 ∷ decimal page) (inner-plain (text_of u) (plain-uid u)) (inner-plain (decimal page) (plain-decimal page (omega (arith, is.1))))
  inner-piece (Send s) is =
      let word : plain (kind_text s.kind) ≡ true = ap plain (kind_text_of s.kind is.1.0 is.1.1) ∙ plain-kind is.1.0 in
      both is_inner (numbered_text names s.to s.index) (32 ∷ (kind_text s.kind ++ (32 ∷ decimal s.number)))
      (inner-numbered s.to s.index is.0.to is.0.index)
      (both is_inner (kind_text s.kind) (32 ∷ decimal s.number) (inner-plain (kind_text s.kind) word) (inner-plain (decimal s.number) (plain-decimal s.number is.0.number)))
  inner-piece (End p word) is =
      both is_inner (decimal p) (32 ∷ word_text word) (inner-plain (decimal p) (plain-decimal p (omega (arith, is.1)))) (inner-plain (word_text word) (plain-end word))

  begins : (xs : List Effect) → BeginsWithSemicolon (flat_map (effect_text names) xs)
  begins [] = tt
  begins (Drop u page ∷ xs) = refl
  begins (Send s ∷ xs) = refl
  begins (End p word ∷ xs) = refl

  pieces-all : (xs : List Effect) → All (IsEffect names) xs → pieces_of (flat_map (effect_text names) xs) ≡ map (piece names are) xs
  unfolding pieces_of
  pieces-all [] h = refl
  pieces-all (x ∷ xs) h =
      let rest = flat_map (effect_text names) xs in
      let is = All-head (IsEffect names) x xs h in
      let first = lacks is_inner 59 refl (piece names are x) (inner-piece x is) in
      ap pieces_of (flat_map-cons (effect_text names) x xs ∙ ap (λ (t : List ℕ). t ++ rest) (piece-text names are x))
      ∙ pieces-from (piece names are x ++ rest) (piece names are x) rest (record { whole = refl; first = first; begins = begins xs })
      ∙ ap (λ (ps : List (List ℕ)). piece names are x ∷ ps) (pieces-all xs (All-tail (IsEffect names) x xs h))

  effects-added : (o : Option Effects) (xs : List Effect) → All (IsEffect names) xs → effects_of names o (map (piece names are) xs) ≡ added o xs
  unfolding effects_of
  effects-added o [] h = refl
  effects-added None (x ∷ xs) h = refl
  effects-added (Some e) (x ∷ xs) h =
      ap (λ (y : Option Effect). effects_of names (and_effect e y) (map (piece names are) xs)) (effect-again names are x (All-head (IsEffect names) x xs h))
      ∙ effects-added (with_effect e x) xs (All-tail (IsEffect names) x xs h)

  -- ---- all effects of an event

  drops-text : (pages : List (ObjectName × ℕ)) → flat_map (effect_text names) (map of_page pages) ≡ flat_map drop_text pages
  drops-text [] = refl
  drops-text (page ∷ pages) =
      flat_map-cons (effect_text names) (of_page page) (map of_page pages)
      ∙ ap (λ (t : List ℕ). drop_text page ++ t) (drops-text pages)
      ∙ sym (flat_map-cons drop_text page pages)

  sent-flat : (sent : Option Sent) → flat_map (effect_text names) (sent_effects sent) ≡ sent_text names sent
  sent-flat None = refl
  sent-flat (Some sent) = append-nil (sent_text names (Some sent))

  ended-flat : (ended : Option (ℕ × EndWord)) → flat_map (effect_text names) (ended_effects ended) ≡ ended_text ended
  ended-flat None = refl
  ended-flat (Some ended) = append-nil (ended_text (Some ended))

  pub effects-text : (e : Effects) → effects_text names e ≡ flat_map (effect_text names) (all_effects e)
  effects-text e = sym (
      flat_map-append (effect_text names) (map of_page e.dropped) (sent_effects e.sent ++ ended_effects e.ended)
      ∙ ap (λ (t : List ℕ). flat_map (effect_text names) (map of_page e.dropped) ++ t)
      (flat_map-append (effect_text names) (sent_effects e.sent) (ended_effects e.ended) ∙ rw (sent-flat e.sent, ended-flat e.ended) refl)
      ∙ ap (λ (t : List ℕ). t ++ (sent_text names e.sent ++ ended_text e.ended)) (drops-text e.dropped))

  are-drops : (pages : List (ObjectName × ℕ)) → All IsPage pages → All (IsEffect names) (map of_page pages)
  are-drops [] h = All-nil (IsEffect names)
  are-drops (page ∷ pages) h = All-cons (IsEffect names) (of_page page) (map of_page pages) (All-head IsPage page pages h) (are-drops pages (All-tail IsPage page pages h))

  are-sent : (sent : Option Sent) → IfSome sent (IsSent names) → IfSome sent (λ s. IsKindNumber s.kind) → All (IsEffect names) (sent_effects sent)
  are-sent None is kind = All-nil (IsEffect names)
  are-sent (Some sent) is kind = All-cons (IsEffect names) (Send sent) [] (is, kind) (All-nil (IsEffect names))

  are-ended : (ended : Option (ℕ × EndWord)) → IfSome ended (λ e. IsProcNumber e.0) → All (IsEffect names) (ended_effects ended)
  are-ended None is = All-nil (IsEffect names)
  are-ended (Some ended) is = All-cons (IsEffect names) (End ended.0 ended.1) [] is (All-nil (IsEffect names))

  are-effects : (e : Effects) → AreWritten names e → AreEffects e → All (IsEffect names) (all_effects e)
  are-effects e w k =
      All-append (IsEffect names) (map of_page e.dropped) (sent_effects e.sent ++ ended_effects e.ended) (are-drops e.dropped w.dropped)
      (All-append (IsEffect names) (sent_effects e.sent) (ended_effects e.ended) (are-sent e.sent w.sent k.kind) (are-ended e.ended k.proc))

  pub effects-begin : (e : Effects) → BeginsWithSemicolon (effects_text names e)
  effects-begin e = rw (effects-text e) (begins (all_effects e))

  pub effects-again : (e : Effects) → AreWritten names e → AreEffects e → effects_of names (Some no_effects) (pieces_of (effects_text names e)) ≡ Some e
  effects-again e w k =
      let all = are-effects e w k in
      ap (λ (t : List ℕ). effects_of names (Some no_effects) (pieces_of t)) (effects-text e)
      ∙ ap (effects_of names (Some no_effects)) (pieces-all (all_effects e) all)
      ∙ effects-added (Some no_effects) (all_effects e) all
      ∙ added-all e

  -- no LF stands in them
  unbroken_byte : (b : ℕ) → is_inner b ≡ true → is_unbroken b ≡ true
  unbroken_byte b h = (and_parts (not (b == 10)) (not (b == 59)) h).0

  pub unbroken-inner : (text : List ℕ) → inner text ≡ true → list_all is_unbroken text ≡ true
  unbroken-inner text h = weaker is_inner is_unbroken unbroken_byte text h

  unbroken-all : (xs : List Effect) → All (IsEffect names) xs → list_all is_unbroken (flat_map (effect_text names) xs) ≡ true
  unbroken-all [] h = refl
  unbroken-all (x ∷ xs) h =
      let one : list_all is_unbroken (effect_text names x) ≡ true =
      ap (list_all is_unbroken) (piece-text names are x) ∙ unbroken-inner (piece names are x) (inner-piece x (All-head (IsEffect names) x xs h)) in
      ap (list_all is_unbroken) (flat_map-cons (effect_text names) x xs)
      ∙ both is_unbroken (effect_text names x) (flat_map (effect_text names) xs) one (unbroken-all xs (All-tail (IsEffect names) x xs h))

  pub unbroken-effects : (e : Effects) → AreWritten names e → AreEffects e → list_all is_unbroken (effects_text names e) ≡ true
  unbroken-effects e w k = ap (list_all is_unbroken) (effects-text e) ∙ unbroken-all (all_effects e) (are-effects e w k)

-- ---- one effect more

with-text : (names : List (List ℕ)) (dropped : List (ObjectName × ℕ)) (sent : Option Sent) (ended : Option (ℕ × EndWord)) (x : Effect) (f : Effects)
    → with_effect (record { dropped = dropped; sent = sent; ended = ended }) x ≡ Some f
    → effects_text names f ≡ effects_text names (record { dropped = dropped; sent = sent; ended = ended }) ++ effect_text names x
unfolding with_effect
with-text names dropped sent (Some ended) (Drop u page) f h = cc
with-text names dropped (Some sent) None (Drop u page) f h = cc
with-text names dropped None None (Drop u page) f h =
    ap (effects_text names) (sym (same_Some (record { dropped = dropped ++ (u, page) ∷ []; sent = None; ended = None }) f h))
    ∙ simp (flat_map-append drop_text, append-nil)
with-text names dropped sent (Some ended) (Send s) f h = cc
with-text names dropped (Some sent) None (Send s) f h = cc
with-text names dropped None None (Send s) f h =
    ap (effects_text names) (sym (same_Some (record { dropped = dropped; sent = Some s; ended = None }) f h)) ∙ simp append-nil
with-text names dropped sent (Some ended) (End p word) f h = cc
with-text names dropped sent None (End p word) f h =
    ap (effects_text names) (sym (same_Some (record { dropped = dropped; sent = sent; ended = Some (p, word) }) f h)) ∙ simp (append_assoc, append-nil)

with-read : (names : List (List ℕ)) (dropped : List (ObjectName × ℕ)) (sent : Option Sent) (ended : Option (ℕ × EndWord)) (x : Effect) (f : Effects)
    → AreRead names (record { dropped = dropped; sent = sent; ended = ended }) → IsEffect names x
    → with_effect (record { dropped = dropped; sent = sent; ended = ended }) x ≡ Some f → AreRead names f
unfolding with_effect
with-read names dropped sent (Some ended) (Drop u page) f are is h = cc
with-read names dropped (Some sent) None (Drop u page) f are is h = cc
with-read names dropped None None (Drop u page) f are is h =
    let p : ObjectName × ℕ = (u, page) in
    let pages : All IsPage (dropped ++ p ∷ []) = All-append IsPage dropped (p ∷ []) are.written.dropped (All-cons IsPage p [] is (All-nil IsPage)) in
    subst (AreRead names) (same_Some (record { dropped = dropped ++ p ∷ []; sent = None; ended = None }) f h)
    (record { written = record { dropped = pages; sent = are.written.sent }; kind = are.kind; proc = are.proc })
with-read names dropped sent (Some ended) (Send s) f are is h = cc
with-read names dropped (Some sent) None (Send s) f are is h = cc
with-read names dropped None None (Send s) f are is h =
    subst (AreRead names) (same_Some (record { dropped = dropped; sent = Some s; ended = None }) f h)
    (record { written = record { dropped = are.written.dropped; sent = is.0 }; kind = is.1; proc = are.proc })
with-read names dropped sent (Some ended) (End p word) f are is h = cc
with-read names dropped sent None (End p word) f are is h =
    subst (AreRead names) (same_Some (record { dropped = dropped; sent = sent; ended = Some (p, word) }) f h)
    (record { written = record { dropped = are.written.dropped; sent = are.written.sent }; kind = are.kind; proc = is })

pub added-text : {E : Type 0} (r : Result Bool E) (names : List (List ℕ)) (e f : Effects) (x : Effect) (text : List ℕ) → 59 ∷ text ≡ effect_text names x
    → IfOk r (λ ok. with_effect e x ≡ (if ok then Some f else None)) → IfOk r (λ ok. IsTrue ok → effects_text names f ≡ effects_text names e ++ 59 ∷ text)
added-text (Ok true) names e f x text same h = λ ok. with-text names e.dropped e.sent e.ended x f h ∙ ap (λ (t : List ℕ). effects_text names e ++ t) (sym same)
added-text (Ok false) names e f x text same h = λ ok. absurd (false≢true ok)
added-text (Err e') names e f x text same h = h

pub added-read : {E : Type 0} (r : Result Bool E) (names : List (List ℕ)) (e f : Effects) (x : Effect) → AreRead names e → IsEffect names x
    → IfOk r (λ ok. with_effect e x ≡ (if ok then Some f else None)) → IfOk r (λ ok. IsTrue ok → AreRead names f)
added-read (Ok true) names e f x are is h = λ ok. with-read names e.dropped e.sent e.ended x f are is h
added-read (Ok false) names e f x are is h = λ ok. absurd (false≢true ok)
added-read (Err e') names e f x are is h = h

-- one piece more
pub piece-taken : (names : List (List ℕ)) (e : Effects) (o : Option Effects) (b : ℕ) (rest inside front back : List ℕ) → rest ≡ b ∷ inside → BeginsWithSemicolon rest
    → IsHeadOf inside front back → and_effect e (effect_of names front) ≡ o → effects_of names (Some e) (pieces_of rest) ≡ effects_of names o (pieces_of back)
unfolding effects_of
piece-taken names e o b rest inside front back is begins cut h =
    let same : b ≡ 59 = subst BeginsWithSemicolon is begins in
    ap (λ (t : List ℕ). effects_of names (Some e) (pieces_of t)) (is ∙ ap (λ (n : ℕ). n ∷ inside) same)
    ∙ ap (effects_of names (Some e)) (pieces-from inside front back cut)
    ∙ ap (λ (y : Option Effects). effects_of names y (pieces_of back)) h

pub none-behind : (names : List (List ℕ)) (pieces : List (List ℕ)) → effects_of names None pieces ≡ None
unfolding effects_of
none-behind names [] = refl
none-behind names (piece ∷ pieces) = refl

-- and its text
pub piece-text_taken : (names : List (List ℕ)) (e f : Effects) (b : ℕ) (text rest inside front back : List ℕ) → text ≡ effects_text names e ++ rest → rest ≡ b ∷ inside → BeginsWithSemicolon rest
    → IsHeadOf inside front back → effects_text names f ≡ effects_text names e ++ 59 ∷ front → text ≡ effects_text names f ++ back
piece-text_taken names e f b text rest inside front back whole is begins cut h =
    let same : b ≡ 59 = subst BeginsWithSemicolon is begins in
    let parts : rest ≡ 59 ∷ (front ++ back) = is ∙ ap (λ (n : ℕ). n ∷ inside) same ∙ ap (λ (t : List ℕ). 59 ∷ t) cut.whole in
    whole ∙ ap (λ (t : List ℕ). effects_text names e ++ t) parts ∙ sym (append_assoc (effects_text names e) (59 ∷ front) back) ∙ ap (λ (t : List ℕ). t ++ back) (sym h)
