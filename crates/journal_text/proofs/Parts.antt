-- The parts of a line are read as they were written.
use Rattle.std.proofs.Common.{◌≡◌, ◌<◌, ◌^◌, ℕ, true, List, ◌∷◌, ◌++◌, drop, decimal, Some, refl, ap, sym, append_assoc, arith}
use Rattle.dom_text.proofs.Again.{number_spelled-decimal}
use Rattle.uid_names.specs.Names.{ObjectName}
use Rattle.uid_names.specs.Texts.{text_of}
use Rattle.uid_names.specs.FrameKinds.{kind_name}
use Rattle.uid_names.specs.declared.ids.Place.{Place}
use Rattle.dom_history.specs.EndWords.{word_text}
use Rattle.dom_history.specs.Events.{IsWhat, IsKindNumber}
use Rattle.dom_history.specs.Ranges.{IsProcNumber}
use Rattle.dom_history.specs.NodeTexts.{AreNodeNames}
use Rattle.dom_history.specs.declared.end_word.EndWord.{EndWord}
use Rattle.dom_history.specs.declared.event.What.{What}
use Rattle.dom_history.specs.declared.event.What.TheVariants.{Begin, Go, Take, Notice, Ready, Mark}
use Rattle.dom_history.specs.declared.event.Sent.{Sent}
use Rattle.node_texts.specs.Texts.{node_text}
use Rattle.journal_text.specs.Lines.{numbered_text, kind_text, what_text, place_text}
use Rattle.dom_text.specs.Cuts.{cut_at}
use Rattle.journal_text.specs.Walk.Fields.{numbered_of}
use Rattle.journal_text.specs.Walk.LineStarts.{notice_of, mark_of, what_word_of, what_behind, what_of, start_of}
use Rattle.journal_text.specs.Walk.LineEffects.{page_of, sent_of, ended_of, effect_word_of, effect_behind, effect_in, effect_of}
use Rattle.journal_text.specs.Walk.EffectTexts.{effect_text, IsEffect}
use Rattle.journal_text.specs.Written.{IsNode, IsCount, IsWhatOf, IsPage, IsSent}
use Rattle.journal_text.specs.declared.reading.effects.Effect.{Effect}
use Rattle.journal_text.specs.declared.reading.effects.Effect.TheVariants.{Drop, Send, End}
use Rattle.journal_text.proofs.KindNames.{kind_text_of}
use Rattle.journal_text.proofs.Plain.{plain, is_plain, lacks, plain-decimal, plain-uid, plain-kind}
use Rattle.dom_text.proofs.Cutting.{cut_at-found}
use Rattle.journal_text.proofs.Fields.{node-again, plain-node, number32-again, proc-again, uid-again, kind-again, end-again}

module _ (names : List (List ℕ)) (are : AreNodeNames names) where
  -- a field in front of a space
  at_space : (field rest : List ℕ) → plain field ≡ true → cut_at 32 (field ++ 32 ∷ rest) ≡ Some (field, rest)
  at_space field rest h = cut_at-found 32 field rest (lacks is_plain 32 refl field h)

  node_at_space : (n : ℕ) (rest : List ℕ) → IsNode names n → cut_at 32 (node_text names n ++ 32 ∷ rest) ≡ Some (node_text names n, rest)
  node_at_space n rest is = at_space (node_text names n) rest (plain-node names n are is.named)

  number_at_space : (n : ℕ) (rest : List ℕ) → n < 2 ^ 64 → cut_at 32 (decimal n ++ 32 ∷ rest) ≡ Some (decimal n, rest)
  number_at_space n rest h = at_space (decimal n) rest (plain-decimal n h)

  numbered-again : (n i : ℕ) → IsNode names n → IsCount i → numbered_of names (numbered_text names n i) ≡ Some (n, i)
  unfolding numbered_of
  numbered-again n i is h = rw (node_at_space n (decimal i) is, node-again names n are is, number_spelled-decimal i h) refl

  -- ---- what an event is

  notice-again : (p from to index : ℕ) → IsProcNumber p → IsNode names from → IsNode names to → IsCount index
      → notice_of names (decimal p ++ (32 ∷ (node_text names from ++ (32 ∷ numbered_text names to index)))) ≡ Some (Notice p from to index)
  unfolding notice_of
  notice-again p from to index is_p is_from is_to is_index =
      let small : p < 2 ^ 64 = omega (arith, is_p.1) in
      rw (
        number_at_space p (node_text names from ++ (32 ∷ numbered_text names to index)) small,
        proc-again p is_p,
        node_at_space from (numbered_text names to index) is_from,
        node-again names from are is_from,
        numbered-again to index is_to is_index,
      ) refl

  mark-again : (from phase : ℕ) → IsNode names from → phase < 2 ^ 32 → mark_of names (numbered_text names from phase) ≡ Some (Mark from phase)
  unfolding mark_of
  mark-again from phase is h = rw (node_at_space from (decimal phase) is, node-again names from are is, number32-again phase h) refl

  pub what-again : (w : What) → IsWhat w → IsWhatOf names w → what_of names (what_text names w) ≡ Some w
  unfolding what_of cut_at what_word_of what_behind
  what-again (Begin p) is h = rw (proc-again p is) refl
  what-again (Go p) is h = rw (proc-again p is) refl
  what-again (Take from index) is h = rw (numbered-again from index h.0 h.1) refl
  what-again (Notice p from to index) is h = notice-again p from to index is h.0 h.1.0 h.1.1
  what-again (Ready phase) is h = rw (number32-again phase h) refl
  what-again (Mark from phase) is h = mark-again from phase h.0 h.1

  pub start-again : (place : Place) (w : What) → IsCount place.tick → IsNode names place.node → IsWhat w → IsWhatOf names w
      → start_of names (place_text names place ++ what_text names w) ≡ Some (place, w)
  unfolding start_of
  start-again place w tick node is h =
      let text : place_text names place ++ what_text names w ≡ decimal place.tick ++ (32 ∷ (node_text names place.node ++ (32 ∷ what_text names w))) = simp append_assoc in
      rw (
        text,
        number_at_space place.tick (node_text names place.node ++ (32 ∷ what_text names w)) tick,
        number_spelled-decimal place.tick tick,
        node_at_space place.node (what_text names w) node,
        node-again names place.node are node,
        what-again w is h,
      ) refl

  -- ---- one effect

  page-again : (u : ObjectName) (page : ℕ) → IsPage (u, page) → page_of (text_of u ++ (32 ∷ decimal page)) ≡ Some (u, page)
  unfolding page_of
  page-again u page is = rw (at_space (text_of u) (decimal page) (plain-uid u), uid-again (text_of u) u is.0 refl, number32-again page is.1) refl

  sent-again : (s : Sent) → IsSent names s → IsKindNumber s.kind
      → sent_of names (numbered_text names s.to s.index ++ (32 ∷ (kind_text s.kind ++ (32 ∷ decimal s.number)))) ≡ Some s
  unfolding sent_of
  sent-again s is kind =
      let word : kind_text s.kind ≡ kind_name kind.0 = kind_text_of s.kind kind.0 kind.1 in
      let text : numbered_text names s.to s.index ++ (32 ∷ (kind_text s.kind ++ (32 ∷ decimal s.number)))
      ≡ node_text names s.to ++ (32 ∷ (decimal s.index ++ (32 ∷ (kind_name kind.0 ++ (32 ∷ decimal s.number))))) = rw word (simp append_assoc) in
      rw (
        text,
        node_at_space s.to (decimal s.index ++ (32 ∷ (kind_name kind.0 ++ (32 ∷ decimal s.number)))) is.to,
        node-again names s.to are is.to,
        number_at_space s.index (kind_name kind.0 ++ (32 ∷ decimal s.number)) is.index,
        number_spelled-decimal s.index is.index,
        at_space (kind_name kind.0) (decimal s.number) (plain-kind kind.0),
        kind-again kind.0,
        number_spelled-decimal s.number is.number,
      )
      (ap (λ (k : ℕ). Some (record { to = s.to; index = s.index; kind = k; number = s.number })) (sym kind.1))

  ended-again : (p : ℕ) (word : EndWord) → IsProcNumber p → ended_of (decimal p ++ (32 ∷ word_text word)) ≡ Some (p, word)
  unfolding ended_of
  ended-again p word is =
      let small : p < 2 ^ 64 = omega (arith, is.1) in
      rw (number_at_space p (word_text word) small, proc-again p is, end-again word) refl

  -- the piece of an effect, behind the `;`
  abbrev pub piece : Effect → List ℕ
  piece x = drop 1 (effect_text names x)

  pub piece-text : (x : Effect) → effect_text names x ≡ 59 ∷ piece x
  piece-text (Drop u page) = refl
  piece-text (Send s) = refl
  piece-text (End p word) = refl

  pub effect-again : (x : Effect) → IsEffect names x → effect_of names (piece x) ≡ Some x
  unfolding effect_of effect_in cut_at effect_word_of effect_behind
  effect-again (Drop u page) is = rw (page-again u page is) refl
  effect-again (Send s) is = rw (sent-again s is.0 is.1) refl
  effect-again (End p word) is = rw (ended-again p word is) refl
