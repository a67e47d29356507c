-- What is kept of the frames of a link, as events change it.
use Rattle.std.proofs.Common.{◌≡◌, ℕ, ◌+◌, ◌≤◌, Bool, true, false, Option, Some, None, List, [], ◌∷◌, ◌++◌, length, refl, sym, ap, subst, ◌∙◌, arith}
use Rattle.std.specs.Prelude.{◌==◌, ◌||◌, if◌then◌else◌, filter, All}
use Rattle.std.specs.Option.{option_map}
use Rattle.std.proofs.lemmas.Bool.Decides.{nat_tests}
use Rattle.std.proofs.lemmas.List.{length-append}
use Rattle.std.proofs.lemmas.List.Elements.{All-append, All-cons, All-nil, All-filter, All-weaker}
use Rattle.std.proofs.lemmas.Option.{same_Some}
use Rattle.ring_messages.specs.Frames.{Message}
use Rattle.node_runs.specs.Runs.{numbered}
use Rattle.journal_check.specs.Kept.{Kept, head_at, head_of, told_if, live_at, IsKeptBy}
use Rattle.journal_check.specs.declared.frames.Live.{Live}
use Rattle.journal_check.proofs.Heads.{head-end, numbered-more, numbered-last, live-gone, live-right, live-end}

module _ (told : ℕ → Bool) (frames : List Message) (IsOver : Message → Type 0) (k : Kept) (is : IsKeptBy told frames IsOver k) where
  -- more calls are over
  pub kept-over : (Later : Message → Type 0) → ((index : ℕ) (m : Message) → numbered index frames ≡ Some m → IsOver m → Later m) → IsKeptBy told frames Later k
  kept-over Later more = record {
    count = is.count;
    heads = is.heads;
    told_are = is.told_are;
    live = is.live;
    over = λ index m none sent. more index m sent (is.over index m none sent);
  }

  -- frames whose call is over go
  pub kept-less : (keep : Live → Bool) → ((l : Live) → numbered l.index frames ≡ Some l.frame → keep l ≡ false → IsOver l.frame) → IsKeptBy told frames IsOver (record { heads = k.heads; live = filter keep k.live })
  kept-less keep gone = record {
    count = is.count;
    heads = is.heads;
    told_are = is.told_are;
    live = All-filter keep (λ l. numbered l.index frames ≡ Some l.frame) k.live is.live;
    over = λ index m none sent. by index m none sent (live_at index k.live) refl;
  }
    where
      by : (index : ℕ) (m : Message) → live_at index (filter keep k.live) ≡ None → numbered index frames ≡ Some m → (o : Option Message) → live_at index k.live ≡ o → IsOver m
      by index m none sent None was = is.over index m was sent
      by index m none sent (Some x) was =
          let g = live-gone keep frames index k.live x is.live none was in
          subst IsOver (g.frame ∙ same_Some x m (sym (live-right frames index k.live x is.live was) ∙ sent)) (gone g.live g.right g.went)

  -- frames were told
  pub kept-told : (now : ℕ → Bool) (new : Kept) → length new.heads ≡ length k.heads → ((index : ℕ) → head_at index new.heads ≡ told_if (now index) (head_at index k.heads)) → new.live ≡ k.live
      → ((index : ℕ) → now index ≡ true → index ≤ length frames) → IsKeptBy (λ index. now index || told index) frames IsOver new
  kept-told now new count heads live there = record {
    count = count ∙ is.count;
    heads = λ index. heads index ∙ ap (told_if (now index)) (is.heads index) ∙ one (now index) (told index) (numbered index frames);
    told_are = λ index sure. either index (now index) (told index) refl refl sure;
    live = subst (All (λ l. numbered l.index frames ≡ Some l.frame)) (sym live) is.live;
    over = λ index m none sent. is.over index m (ap (live_at index) (sym live) ∙ none) sent;
  }
    where
      one : (a b : Bool) (o : Option Message) → told_if a (option_map (λ m. head_of m b) o) ≡ option_map (λ m. head_of m (a || b)) o
      one true b None = refl
      one true b (Some m) = refl
      one false b o = refl

      either : (index : ℕ) (a b : Bool) → now index ≡ a → told index ≡ b → (a || b) ≡ true → index ≤ length frames
      either index true b first second sure = there index first
      either index false true first second sure = is.told_are index second
      either index false false first second sure = absurd (cc)

  -- one frame more is sent
  pub kept-sent : (m : Message) → IsKeptBy told (m ∷ frames) IsOver (record { heads = k.heads ++ head_of m false ∷ []; live = k.live ++ record { index = length k.heads + 1; frame = m } ∷ [] })
  kept-sent m = record {
    count = let e = length-append k.heads (head_of m false ∷ []) in let c = is.count in omega (arith, e, c);
    heads = λ index. head-end index k.heads (head_of m false) ∙ by index (index == length k.heads + 1) refl;
    told_are = λ index sure. let low = is.told_are index sure in omega (arith, low);
    live = All-append (λ l. numbered l.index (m ∷ frames) ≡ Some l.frame) k.live (record { index = length k.heads + 1; frame = m } ∷ [])
        (All-weaker (λ l. numbered l.index frames ≡ Some l.frame) (λ l. numbered l.index (m ∷ frames) ≡ Some l.frame) (λ l right. numbered-more l.index m frames l.frame right) k.live is.live)
        (All-cons (λ l. numbered l.index (m ∷ frames) ≡ Some l.frame) (record { index = length k.heads + 1; frame = m }) [] last (All-nil (λ l. numbered l.index (m ∷ frames) ≡ Some l.frame)));
    over = over-after;
  }
    where
      last : numbered (length k.heads + 1) (m ∷ frames) ≡ Some m
      last = ap (λ n. numbered (n + 1) (m ∷ frames)) is.count ∙ numbered-last m frames

      not-told : (index : ℕ) → index ≡ length frames + 1 → told index ≡ false
      not-told index same = none (told index) refl
        where
          none : (b : Bool) → told index ≡ b → told index ≡ false
          none true sure = absurd (let low = is.told_are index sure in omega (arith, low, same))
          none false other = other

      by : (index : ℕ) (b : Bool) → (index == length k.heads + 1) ≡ b → (if b then Some (head_of m false) else head_at index k.heads) ≡ option_map (λ x. head_of x (told index)) (numbered index (m ∷ frames))
      by index true same =
          let c = is.count in
          let here : (index == length frames + 1) ≡ true = grind (arith, nat_tests, same, c) in
          let fresh : told index ≡ false = not-told index (grind (arith, nat_tests, same, c)) in
          ap (λ (b : Bool). Some (head_of m b)) (sym fresh) ∙ sym (ap (λ b. option_map (λ x. head_of x (told index)) (if b then Some m else numbered index frames)) here)
      by index false other =
          let c = is.count in
          let away : (index == length frames + 1) ≡ false = grind (arith, nat_tests, other, c) in
          is.heads index ∙ sym (ap (λ b. option_map (λ x. head_of x (told index)) (if b then Some m else numbered index frames)) away)

      over-after : (index : ℕ) (x : Message) → live_at index (k.live ++ record { index = length k.heads + 1; frame = m } ∷ []) ≡ None → numbered index (m ∷ frames) ≡ Some x → IsOver x
      over-after index x none sent =
          let both = live-end index k.live (record { index = length k.heads + 1; frame = m }) none in
          let apart = both.1 in
          let c = is.count in
          let other : (index == length frames + 1) ≡ false = grind (arith, nat_tests, apart, c) in
          is.over index x both.0 (sym (ap (λ b. if b then Some m else numbered index frames) other) ∙ sent)
