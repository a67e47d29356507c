-- Each word of a lost or late reply is put once.
use Rattle.std.proofs.Common.{◌≡◌, ℕ, ◌+◌, ◌<◌, ◌≤◌, Bool, true, false, List, [], ◌∷◌, ◌++◌, map, refl, ap, ◌∙◌, arith}
use Rattle.std.specs.Prelude.{◌==◌, not, ◌&&◌}
use Rattle.std.proofs.lemmas.Bool.Decides.{nat_tests}
use Rattle.uid_names.proofs.ListLemmas.{by_cases}
use Rattle.dom_history.specs.declared.plan.Fate.{Fate}
use Rattle.ring_messages.specs.Frames.{Message}
use Rattle.ring_messages.specs.Bodies.{is_request}
use Rattle.ring_messages.specs.Spelling.{spelling}
use Rattle.node_runs.specs.Deliveries.{in_place, is_gone}
use Rattle.world_runs.specs.Gone.{FrameName, same_frame}
use Rattle.world_runs.proofs.Telling.{one_if, times, AreOnce}
use Rattle.ring_links.specs.declared.entry.Entry.{Entry}
use Rattle.world_runs.specs.Links as links
use Rattle.ring_links.specs.Carried as carrying
use Rattle.wire_links.specs.declared.carried.Parcel.{Parcel}
use Rattle.wire_links.specs.declared.carried.Parcel.TheVariants as parcel
use Rattle.wire_links.specs.declared.carried.Carried.{Carried}
use Rattle.wire_links.specs.declared.carried.Carried.TheVariants as carried
use Rattle.wire_links.specs.Carrying.{Wired, gone_if, told_in_place, frame_sent, Posting, wire_after}
use Rattle.local_runs.specs.Posts.{count_if, words_in, times_in, times_named}

words-append : (xs ys : List Carried) → words_in (xs ++ ys) ≡ words_in xs ++ words_in ys
words-append [] ys = refl
words-append (carried.Put e ∷ xs) ys = words-append xs ys
words-append (carried.Gone proc number index tick ∷ xs) ys = ap (λ (ks : List ℕ). index ∷ ks) (words-append xs ys)

times-append : (j : ℕ) (xs ys : List ℕ) → times_in j (xs ++ ys) ≡ times_in j xs + times_in j ys
times-append j [] ys = omega arith
times-append j (k ∷ xs) ys = let e = times-append j xs ys in omega (arith, e)

words-times : (j : ℕ) (xs ys : List Carried) → times_in j (words_in (xs ++ ys)) ≡ times_in j (words_in xs) + times_in j (words_in ys)
words-times j xs ys = ap (times_in j) (words-append xs ys) ∙ times-append j (words_in xs) (words_in ys)

pub words-prefix : (j : ℕ) (xs ys : List Carried) → times_in j (words_in xs) ≤ times_in j (words_in (xs ++ ys))
words-prefix j xs ys = let e = words-times j xs ys in omega (arith, e)

no-words : (es : List (Entry Parcel)) → words_in (map carried.Put es) ≡ []
no-words [] = refl
no-words (e ∷ es) = no-words es

gone-other : (b : Bool) (m : Message) (j k : ℕ) → (j == k) ≡ false → times_in j (words_in (gone_if b m k)) ≡ 0
gone-other true m j k h = let e = ap count_if h in omega (arith, e)
gone-other false m j k h = refl

one : (b : Bool) → count_if b ≤ 1
one true = omega arith
one false = omega arith

gone-once : (b : Bool) (m : Message) (j k : ℕ) → times_in j (words_in (gone_if b m k)) ≤ 1
gone-once true m j k = let e = one (j == k) in omega (arith, e)
gone-once false m j k = omega arith

frame-words : (j : ℕ) (fate : Fate) (m : Message) (l : Wired)
    → times_in j (words_in (frame_sent fate m l).put) ≡ times_in j (words_in l.put) + times_in j (words_in (gone_if (is_gone fate && not (is_request m.body)) m (l.frames + 1)))
frame-words j fate m l =
    let k = l.frames + 1 in
    let word = told_in_place fate m k in
    let waits = l.later ++ map (carrying.later_copy (parcel.Frame (spelling m))) (links.later_of k fate) in
    let more = map (carrying.copy_of (parcel.Frame (spelling m))) (in_place k fate) ++ carrying.falling k waits in
    let a = words-times j l.put (word ++ map carried.Put more) in
    let b = words-times j word (map carried.Put more) in
    let c : times_in j (words_in (map carried.Put more)) ≡ 0 = ap (times_in j) (no-words more) in
    omega (arith, a, b, c)

module _ (fate : ℕ → Fate) where
  none-above : (xs : List Posting) (j : ℕ) → (wire_after fate xs).frames < j → times_in j (words_in (wire_after fate xs).put) ≡ 0
  none-above [] j above = refl
  none-above (Posting.Frame m ∷ xs) j above =
      let l = wire_after fate xs in
      let f = fate (l.frames + 1) in
      let e = frame-words j f m l in
      let old = none-above xs j (omega (arith, above)) in
      let differs : (j == l.frames + 1) ≡ false = grind (arith, nat_tests, above) in
      let new = gone-other (is_gone f && not (is_request m.body)) m j (l.frames + 1) differs in
      omega (arith, e, old, new)
  none-above (Posting.Mark phase tick ∷ xs) j above =
      let l = wire_after fate xs in
      let e = words-times j l.put (carried.Put (carrying.mark_of (parcel.Mark tick) phase) ∷ []) in
      let old = none-above xs j above in
      omega (arith, e, old)

  pub words-once : (xs : List Posting) (j : ℕ) → times_in j (words_in (wire_after fate xs).put) ≤ 1
  words-once [] j = omega arith
  words-once (Posting.Frame m ∷ xs) j =
      let l = wire_after fate xs in
      let f = fate (l.frames + 1) in
      let e = frame-words j f m l in
      let before = words-once xs j in
      let now = gone-once (is_gone f && not (is_request m.body)) m j (l.frames + 1) in
      by_cases (j == l.frames + 1) (times_in j (words_in (frame_sent f m l).put) ≤ 1)
      (λ h. let above : l.frames < j = grind (arith, nat_tests, h) in let old = none-above xs j above in omega (arith, e, old, now))
      (λ h. let new = gone-other (is_gone f && not (is_request m.body)) m j (l.frames + 1) h in omega (arith, e, before, new))
  words-once (Posting.Mark phase tick ∷ xs) j =
      let l = wire_after fate xs in
      let e = words-times j l.put (carried.Put (carrying.mark_of (parcel.Mark tick) phase) ∷ []) in
      let before = words-once xs j in
      omega (arith, e, before)

same-count : (b : Bool) → count_if b ≡ one_if b
same-count true = refl
same-count false = refl

same-times : (f : FrameName) (xs : List FrameName) → times_named f xs ≡ times f xs
same-times f [] = refl
same-times f (g ∷ xs) = let a = same-count (same_frame f g) in let b = same-times f xs in omega (arith, a, b)

pub are-once : (xs : List FrameName) → ((f : FrameName) → times_named f xs ≤ 1) → AreOnce xs
are-once xs all f = let a = all f in let b = same-times f xs in omega (arith, a, b)
