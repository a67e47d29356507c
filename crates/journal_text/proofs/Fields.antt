-- Fields are read as they were written.
use Rattle.std.proofs.Common.{◌≡◌, ◌≢◌, ◌<◌, ◌≤◌, ◌+◌, ◌-◌, ◌/◌, ◌%◌, ◌^◌, ℕ, zero, suc, Bool, true, false, All, List, [], ◌∷◌, length, get_or, decimal, Option, Some, None, Result, Ok, Err, MatchOption, refl, ap, sym, ◌∙◌, arith}
use Rattle.std.specs.Prelude.{bytes_eq}
use Rattle.uid_names.specs.Texts.{text_of}
use Rattle.std.specs.Prelude.{◌&&◌, nat_le, nat_lt, if◌then◌else◌, AllPairs, slice_get, unwrap_or}
use Rattle.std.specs.Int.{w64, from_be_bytes}
use Rattle.std.proofs.lemmas.Bool.{and_parts}
use Rattle.std.proofs.lemmas.Bool.Decides.{nat_tests}
use Rattle.std.proofs.lemmas.List.Elements.{All-head, All-tail}
use Rattle.std.proofs.lemmas.Slice.Eq.{bytes_eq-Decides}
use Rattle.hex.specs.Hex.{decode_sized}
use Rattle.hex.specs.declared.error.FromHexError.{FromHexError}
use Rattle.dom_text.proofs.Again.{number_spelled-decimal}
use Rattle.uid_names.proofs.TextTables.{kind_of_name-name, bytes_eq-false, looked_up}
use Rattle.std.proofs.lemmas.Slice.Eq.{bytes_eq-Decides}
use Rattle.uid_names.specs.Names.{ObjectName, IsName, number_of}
use Rattle.uid_names.specs.NameTexts.{IsNameText}
use Rattle.uid_names.specs.FrameKinds.{kind_name}
use Rattle.uid_names.specs.declared.limits.TheConstants.{MAX_NODES, NODE_PROCESSES}
use Rattle.uid_names.specs.declared.frame_kind.FrameKind.{FrameKind}
use Rattle.uid_names.proofs.UidTexts.{decoded-text_of}
use Rattle.uid_names.proofs.Somes.{found_there}
use Rattle.dom_history.specs.Ranges.{IsProcNumber}
use Rattle.dom_history.specs.EndWords.{word_text}
use Rattle.dom_history.proofs.EndTexts.{end_of_word-word}
use Rattle.dom_history.specs.NodeTexts.{AreNodeNames, name_of}
use Rattle.dom_history.specs.declared.end_word.EndWord.{EndWord}
use Rattle.node_texts.specs.Texts.{node_text}
use Rattle.journal_text.specs.Lines.{IsNamed}
use Rattle.journal_text.specs.Walk.Fields.{node_from, node_of, number32_of, proc_of, is_name, uid_from, uid_in, uid_of, kind_of, end_of}
use Rattle.journal_text.specs.Walk.LineStarts.{what_word_text, what_words, what_word_of}
use Rattle.journal_text.specs.Walk.LineEffects.{effect_word_text, effect_words, effect_word_of}
use Rattle.journal_text.specs.Written.{IsNode}
use Rattle.journal_text.specs.declared.reading.words.WhatWord.{WhatWord}
use Rattle.journal_text.specs.declared.reading.words.WhatWord.TheVariants as whats
use Rattle.journal_text.specs.declared.reading.words.EffectWord.{EffectWord}
use Rattle.journal_text.specs.declared.reading.words.EffectWord.TheVariants as effects
use Rattle.journal_text.proofs.Plain.{plain, plain-name}

-- ---- numbers

pub number32-again : (n : ℕ) → n < 2 ^ 32 → number32_of (decimal n) ≡ Some n
unfolding number32_of
number32-again n h =
    let small : nat_lt n 4294967296 ≡ true = grind (arith, nat_tests) in
    rw (number_spelled-decimal n (omega arith), small) refl

pub proc-again : (p : ℕ) → IsProcNumber p → proc_of (decimal p) ≡ Some p
unfolding proc_of
proc-again p h =
    let low : nat_le 1 p ≡ true = grind (arith, nat_tests, h.0) in
    let high : nat_le p NODE_PROCESSES ≡ true = grind (arith, nat_tests, h.1) in
    rw (number_spelled-decimal p (omega (arith, h.1)), low, high) refl

-- ---- nodes

-- a name at a place
node-at : (k : ℕ) (names : List (List ℕ)) (i : ℕ) (word : List ℕ) → AllPairs (λ a b. a ≢ b) names → slice_get names i ≡ Some word → node_from k names word ≡ Some (k + i)
node-at k [] i word once h = cc
node-at k (name ∷ names) zero word once h =
    let same : name ≡ word = cc in
    let e : k + 0 ≡ k = omega arith in
    rw ((bytes_eq-Decides name word).1 same, e) refl
node-at k (name ∷ names) (suc i) word once h =
    let later : (name ≡ word) → ⊥ = λ e. apart name names i word once h e in
    let e : k + suc i ≡ k + 1 + i = omega arith in
    rw (bytes_eq-false name word later, e) (node-at (k + 1) names i word (λ a b d below bound. once (suc a) (suc b) d (omega arith) (omega arith)) h)
  where
    at_most : (names : List (List ℕ)) (i : ℕ) (word d : List ℕ) → slice_get names i ≡ Some word → (i < length names) × (get_or names i d ≡ word)
    at_most [] i word d h = cc
    at_most (x ∷ xs) zero word d h = (omega arith, cc)
    at_most (x ∷ xs) (suc i) word d h = let r = at_most xs i word d h in (omega (arith, r.0), r.1)

    apart : (name : List ℕ) (names : List (List ℕ)) (i : ℕ) (word : List ℕ) → AllPairs (λ a b. a ≢ b) (name ∷ names) → slice_get names i ≡ Some word → name ≡ word → ⊥
    apart name names i word once h e =
        let r = at_most names i word [] h in
        once 0 (suc i) [] (omega arith) (omega (arith, r.0)) (e ∙ sym r.1)

pub node-named : (names : List (List ℕ)) (n : ℕ) (word : List ℕ) → AreNodeNames names → 1 ≤ n → name_of names n ≡ Some word → node_of names word ≡ Some n
unfolding node_of
node-named names n word are low h =
    let e : 1 + (n - 1) ≡ n = omega (arith, low) in
    node-at 1 names (n - 1) word are.once h ∙ ap (λ (k : ℕ). Some k) e

pub node-again : (names : List (List ℕ)) (n : ℕ) → AreNodeNames names → IsNode names n → node_of names (node_text names n) ≡ Some n
node-again names n are is =
    let w = found_there (name_of names n) is.named in
    let text : node_text names n ≡ w.0 = ap (λ (o : Option (List ℕ)). unwrap_or o []) w.1 in
    ap (node_of names) text ∙ node-named names n w.0 are is.low w.1

none-from : (k : ℕ) (names : List (List ℕ)) (word : List ℕ) → All (λ other. other ≢ word) names → node_from k names word ≡ None
none-from k [] word h = refl
none-from k (name ∷ names) word h =
    rw (bytes_eq-false name word (All-head (λ other. other ≢ word) name names h)) (none-from (k + 1) names word (All-tail (λ other. other ≢ word) name names h))

pub node-none : (names : List (List ℕ)) (word : List ℕ) → All (λ other. other ≢ word) names → node_of names word ≡ None
unfolding node_of
node-none names word h = none-from 1 names word h

name_is : (names : List (List ℕ)) (i : ℕ) (word : List ℕ) → All IsNameText names → slice_get names i ≡ Some word → IsNameText word
name_is [] i word h e = cc
name_is (x ∷ xs) zero word h e = let same : x ≡ word = cc in rw (← same) (All-head IsNameText x xs h)
name_is (x ∷ xs) (suc i) word h e = name_is xs i word (All-tail IsNameText x xs h) e

pub plain-node : (names : List (List ℕ)) (n : ℕ) → AreNodeNames names → IsNamed names n → plain (node_text names n) ≡ true
plain-node names n are is =
    let w = found_there (name_of names n) is in
    let text : node_text names n ≡ w.0 = ap (λ (o : Option (List ℕ)). unwrap_or o []) w.1 in
    ap plain text ∙ plain-name w.0 (name_is names (n - 1) w.0 are.texts w.1)

-- ---- objects

named-number : (u : ObjectName) (n : ℕ) → IsName u → n ≡ number_of u → u ≡ record { counter = n / 2 ^ 20; home = n % 2 ^ 20 }
named-number u n is e =
    let counter : u.counter ≡ n / 2 ^ 20 = omega (arith, is.home_high) in
    let home : u.home ≡ n % 2 ^ 20 = omega (arith, is.home_high) in
    ap (λ (c : ℕ). record { counter = c; home = u.home }) counter ∙ ap (λ (h : ℕ). record { counter = n / 2 ^ 20; home = h }) home

is_name-true : (u : ObjectName) → IsName u → is_name u ≡ true
is_name-true u is =
    let low : nat_le 1 u.counter ≡ true = grind (arith, nat_tests, is.counter_low) in
    let bound : nat_lt u.counter (2 ^ 44) ≡ true = grind (arith, nat_tests, is.counter_high) in
    let first : nat_le 1 u.home ≡ true = grind (arith, nat_tests, is.home_low) in
    let last : nat_le u.home MAX_NODES ≡ true = grind (arith, nat_tests, is.home_high) in
    rw (low, bound, first, last) refl

name_is-true : (u : ObjectName) → is_name u ≡ true → IsName u
name_is-true u h =
    let p = and_parts (nat_le 1 u.counter && nat_lt u.counter (2 ^ 44)) (nat_le 1 u.home && nat_le u.home MAX_NODES) h in
    let c = and_parts (nat_le 1 u.counter) (nat_lt u.counter (2 ^ 44)) p.0 in
    let n = and_parts (nat_le 1 u.home) (nat_le u.home MAX_NODES) p.1 in
    record {
      counter_low = grind (arith, nat_tests, c.0);
      counter_high = grind (arith, nat_tests, c.1);
      home_low = grind (arith, nat_tests, n.0);
      home_high = grind (arith, nat_tests, n.1);
    }

from-name : (word : List ℕ) (u : ObjectName) → IsName u → word ≡ text_of u → uid_from word u ≡ Some u
from-name word u is e = rw (is_name-true u is, (bytes_eq-Decides (text_of u) word).1 (sym e)) refl

none-from_name : (word : List ℕ) (u : ObjectName) (a b : Bool) → is_name u ≡ a → bytes_eq (text_of u) word ≡ b → (IsName u → word ≢ text_of u) → (if a && b then Some u else None) ≡ None
none-from_name word u true true is same h = absurd (h (name_is-true u is) (sym ((bytes_eq-Decides (text_of u) word).0 same)))
none-from_name word u true false is same h = refl
none-from_name word u false b is same h = refl

uid_in-none : (word : List ℕ) (r : Result (List ℕ) FromHexError) → ((u : ObjectName) → IsName u → word ≢ text_of u) → uid_in word r ≡ None
uid_in-none word (Err e) h = refl
uid_in-none word (Ok bytes) h =
    let u : ObjectName = record { counter = from_be_bytes w64 bytes / 2 ^ 20; home = from_be_bytes w64 bytes % 2 ^ 20 } in
    none-from_name word u (is_name u) (bytes_eq (text_of u) word) refl refl (h u)

pub uid-none : (word : List ℕ) → ((u : ObjectName) → IsName u → word ≢ text_of u) → uid_of word ≡ None
unfolding uid_of
uid-none word h = uid_in-none word (decode_sized word 8) h

uid_in-again : (word : List ℕ) (r : Result (List ℕ) FromHexError) → decode_sized word 8 ≡ r → (u : ObjectName) → IsName u → word ≡ text_of u → uid_in word r ≡ Some u
uid_in-again word (Ok bytes) e u is text =
    let d = decoded-text_of word bytes (Ok tt) u is text (rw e (refl, refl)) in
    ap (uid_from word) (sym (named-number u (from_be_bytes w64 bytes) is d.1)) ∙ from-name word u is text
uid_in-again word (Err f) e u is text =
    let d = decoded-text_of word [] (Err f) u is text (rw e refl) in cc

pub uid-again : (word : List ℕ) (u : ObjectName) → IsName u → word ≡ text_of u → uid_of word ≡ Some u
unfolding uid_of
uid-again word u is text = uid_in-again word (decode_sized word 8) refl u is text

-- ---- words

pub kind-again : (k : FrameKind) → kind_of (kind_name k) ≡ Some k
unfolding kind_of
kind-again k = kind_of_name-name k

pub end-again : (w : EndWord) → end_of (word_text w) ≡ Some w
unfolding end_of
end-again w = end_of_word-word w

pub what_word-again : (w : WhatWord) → what_word_of (what_word_text w) ≡ Some w
unfolding what_word_of
what_word-again whats.Begin = refl
what_word-again whats.Go = refl
what_word-again whats.Take = refl
what_word-again whats.Notice = refl
what_word-again whats.Ready = refl
what_word-again whats.Mark = refl

pub effect_word-again : (w : EffectWord) → effect_word_of (effect_word_text w) ≡ Some w
unfolding effect_word_of
effect_word-again effects.Drop = refl
effect_word-again effects.Send = refl
effect_word-again effects.End = refl

-- a look-up in a table finds what the table has
pub what_word-looked_up : (r : Option WhatWord) (word : List ℕ) → MatchOption r ((w : WhatWord) → word ≢ what_word_text w) (λ w. word ≡ what_word_text w) → r ≡ what_word_of word
unfolding what_word_of
what_word-looked_up r word h = looked_up what_word_text what_words what_word-again r word h

pub effect_word-looked_up : (r : Option EffectWord) (word : List ℕ) → MatchOption r ((w : EffectWord) → word ≢ effect_word_text w) (λ w. word ≡ effect_word_text w) → r ≡ effect_word_of word
unfolding effect_word_of
effect_word-looked_up r word h = looked_up effect_word_text effect_words effect_word-again r word h
