-- What a wire puts in the places of replies is word of lost and late ones, and each of its marks has its tick.
use Rattle.std.proofs.Common.{◌≡◌, ℕ, ◌+◌, Bool, true, false, cond, List, [], ◌∷◌, ◌++◌, length, map, Some, get_or, inl, inr, refl, sym, ap, ◌∙◌, eq-eqb, add-one}
use Rattle.std.specs.Prelude.{◌==◌, not, ◌&&◌, All, filter}
use Rattle.std.proofs.lemmas.List.Elements.{All-nil, All-cons, All-append, All-map, All-push}
use Rattle.dom_history.specs.declared.plan.Fate.{Fate}
use Rattle.ring_messages.specs.Frames.{Message}
use Rattle.ring_messages.specs.Bodies.{is_request}
use Rattle.ring_messages.specs.Spelling.{spelling}
use Rattle.node_runs.specs.Deliveries.{in_place, is_gone}
use Rattle.node_runs.specs.Runs.{numbered}
use Rattle.world_runs.proofs.Receiving.{numbered-within, numbered-older}
use Rattle.ring_links.specs.declared.entry.Waiting.{Waiting}
use Rattle.ring_links.specs.declared.entry.Waiting.TheVariants as waiting
use Rattle.ring_links.specs.declared.entry.Entry.{Entry}
use Rattle.ring_links.specs.declared.link.Later.{Later}
use Rattle.world_runs.specs.Links as links
use Rattle.ring_links.specs.Carried as carrying
use Rattle.wire_links.specs.declared.carried.Parcel.{Parcel}
use Rattle.wire_links.specs.declared.carried.Parcel.TheVariants as parcel
use Rattle.wire_links.specs.declared.carried.Carried.{Carried}
use Rattle.wire_links.specs.declared.carried.Carried.TheVariants as carried
use Rattle.wire_links.specs.Carrying.{gone_of, gone_if, told_in_place, Posting, wire_after, frames_of, IsMarkIn, IsWordOf}

module _ (fate : ℕ → Fate) where
  -- more is sent
  still-mark : (x : Posting) (xs : List Posting) (received : Parcel) (w : Waiting) → IsMarkIn xs received w → IsMarkIn (x ∷ xs) received w
  still-mark x xs received (waiting.Copy index) is = is
  still-mark x xs received (waiting.Mark phase) (tick, posted, same) = (tick, inr posted, same)

  still-sent : (x : Posting) (xs : List Posting) (k : ℕ) (m : Message) → numbered k (frames_of xs) ≡ Some m → numbered k (frames_of (x ∷ xs)) ≡ Some m
  still-sent (Posting.Frame n) xs k m e = numbered-older k n (frames_of xs) (numbered-within k (frames_of xs) m e) ∙ e
  still-sent (Posting.Mark phase tick) xs k m e = e

  still-word : (x : Posting) (xs : List Posting) (c : Carried) → IsWordOf fate xs c → IsWordOf fate (x ∷ xs) c
  still-word x xs (carried.Put e) is = still-mark x xs e.received e.waiting is
  still-word x xs (carried.Gone proc number index tick) is =
      record { frame = is.frame; sent = still-sent x xs index is.frame is.sent; gone = is.gone; reply = is.reply; says = is.says }

  still-words : (x : Posting) (xs : List Posting) (cs : List Carried) → All (IsWordOf fate xs) cs → All (IsWordOf fate (x ∷ xs)) cs
  still-words x xs cs all = λ i d at. still-word x xs (get_or cs i d) (all i d at)

  -- how many frames were sent
  frames-counted : (xs : List Posting) → (wire_after fate xs).frames ≡ length (frames_of xs)
  frames-counted [] = refl
  frames-counted (Posting.Frame m ∷ xs) = ap (λ n. n + 1) (frames-counted xs) ∙ add-one (length (frames_of xs))
  frames-counted (Posting.Mark phase tick ∷ xs) = frames-counted xs

  last : (m : Message) (xs : List Posting) (k : ℕ) → length (frames_of xs) + 1 ≡ k → numbered k (frames_of (Posting.Frame m ∷ xs)) ≡ Some m
  last m xs k same = ap (λ (b : Bool). cond b (Some m) (numbered k (frames_of xs))) (ap (λ (n : ℕ). k == n) same ∙ eq-eqb k k refl)

  gone-word : (m : Message) (xs : List Posting) (k : ℕ) → length (frames_of xs) + 1 ≡ k → (gone reply : Bool) → is_gone (fate k) ≡ gone → is_request m.body ≡ reply
      → All (IsWordOf fate (Posting.Frame m ∷ xs)) (gone_if (gone && not reply) m k)
  gone-word m xs k same false reply g r = All-nil (IsWordOf fate (Posting.Frame m ∷ xs))
  gone-word m xs k same true true g r = All-nil (IsWordOf fate (Posting.Frame m ∷ xs))
  gone-word m xs k same true false g r =
      All-cons (IsWordOf fate (Posting.Frame m ∷ xs)) (gone_of m k) [] (record { frame = m; sent = last m xs k same; gone = g; reply = r; says = refl }) (All-nil (IsWordOf fate (Posting.Frame m ∷ xs)))

  -- copies are no words
  put-words : (m : Message) (xs : List Posting) (k : ℕ) (ks : List ℕ) (fallen : List (Later Parcel))
      → All (IsWordOf fate (Posting.Frame m ∷ xs)) (map carried.Put (map (carrying.copy_of (parcel.Frame (spelling m))) ks ++ carrying.falling k fallen))
  put-words m xs k ks fallen =
      let P : Entry Parcel → Type 0 = λ e. IsWordOf fate (Posting.Frame m ∷ xs) (carried.Put e) in
      All-map (IsWordOf fate (Posting.Frame m ∷ xs)) carried.Put (map (carrying.copy_of (parcel.Frame (spelling m))) ks ++ carrying.falling k fallen)
      (All-append P (map (carrying.copy_of (parcel.Frame (spelling m))) ks) (carrying.falling k fallen)
      (All-map P (carrying.copy_of (parcel.Frame (spelling m))) ks (λ i d at. tt))
      (All-map P (λ (c : Later Parcel). carrying.copy_of c.received c.index) (filter (λ (c : Later Parcel). c.behind == k) fallen) (λ i d at. tt)))

  pub words-after : (xs : List Posting) → All (IsWordOf fate xs) (wire_after fate xs).put
  words-after [] = All-nil (IsWordOf fate [])
  words-after (Posting.Frame m ∷ xs) =
      let l = wire_after fate xs in
      let k = l.frames + 1 in
      let word = told_in_place (fate k) m k in
      let waits : List (Later Parcel) = l.later ++ map (carrying.later_copy (parcel.Frame (spelling m))) (links.later_of k (fate k)) in
      let more = map carried.Put (map (carrying.copy_of (parcel.Frame (spelling m))) (in_place k (fate k)) ++ carrying.falling k waits) in
      let same : length (frames_of xs) + 1 ≡ k = ap (λ n. n + 1) (sym (frames-counted xs)) in
      let Q = IsWordOf fate (Posting.Frame m ∷ xs) in
      All-append Q l.put (word ++ more) (still-words (Posting.Frame m) xs l.put (words-after xs))
      (All-append Q word more (gone-word m xs k same (is_gone (fate k)) (is_request m.body) refl refl) (put-words m xs k (in_place k (fate k)) waits))
  words-after (Posting.Mark phase tick ∷ xs) =
      let l = wire_after fate xs in
      All-push (IsWordOf fate (Posting.Mark phase tick ∷ xs)) l.put (carried.Put (carrying.mark_of (parcel.Mark tick) phase))
      (still-words (Posting.Mark phase tick) xs l.put (words-after xs)) (tick, inl refl, refl)
