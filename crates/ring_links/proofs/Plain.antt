-- What entries carry changes nothing of what waits.
use Rattle.std.proofs.Common.{◌≡◌, ℕ, ◌+◌, Bool, true, false, cond, List, [], ◌∷◌, ◌++◌, map, drop, refl, sym, ap, ◌∙◌}
use Rattle.std.specs.Prelude.{◌==◌, not, filter}
use Rattle.std.proofs.lemmas.List.{map-append, drop-map}
use Rattle.dom_history.specs.declared.plan.Fate.{Fate}
use Rattle.node_runs.specs.Deliveries.{in_place}
use Rattle.world_runs.specs.Waiting as plain
use Rattle.world_runs.specs.Links as links
use Rattle.ring_links.specs.declared.entry.Entry.{Entry}
use Rattle.ring_links.specs.declared.link.Later.{Later}
use Rattle.ring_links.specs.Carried.{Carrying, copy_of, later_copy, falling, staying, frame_sent, mark_sent, mark_of, plain_name, plain_later, plain_link}

abbrev link-of : ℕ → List plain.Entry → List links.Later → links.Link
link-of frames queue later = record { frames = frames; queue = queue; later = later }

module _ {A : Type 0} where
  abbrev plain-entry : Entry A → plain.Entry
  plain-entry e = plain_name e.waiting

  abbrev fallen : Later A → Entry A
  fallen c = copy_of c.received c.index

  plain-copies : (x : A) (is : List ℕ) → map plain-entry (map (copy_of x) is) ≡ map plain.Entry.Copy is
  plain-copies x [] = refl
  plain-copies x (i ∷ is) = ap (λ (es : List plain.Entry). plain.Entry.Copy i ∷ es) (plain-copies x is)

  fall-one : (b : Bool) (c : Later A) (kept : List (Later A)) (plain-kept : List links.Later)
      → map plain-entry (map fallen kept) ≡ map plain.Entry.Copy (map (λ (y : links.Later). y.index) plain-kept)
      → map plain-entry (map fallen (cond b (c ∷ kept) kept)) ≡ map plain.Entry.Copy (map (λ (y : links.Later). y.index) (cond b (plain_later c ∷ plain-kept) plain-kept))
  fall-one true c kept plain-kept same = ap (λ (es : List plain.Entry). plain.Entry.Copy c.index ∷ es) same
  fall-one false c kept plain-kept same = same

  plain-falling : (j : ℕ) (later : List (Later A)) → map plain-entry (falling j later) ≡ map plain.Entry.Copy (links.falling j (map plain_later later))
  plain-falling j [] = refl
  plain-falling j (c ∷ rest) =
      fall-one (c.behind == j) c (filter (λ (y : Later A). y.behind == j) rest) (filter (λ (y : links.Later). y.behind == j) (map plain_later rest)) (plain-falling j rest)

  stay-one : (b : Bool) (c : Later A) (kept : List (Later A)) (plain-kept : List links.Later) → map plain_later kept ≡ plain-kept
      → map plain_later (cond b (c ∷ kept) kept) ≡ cond b (plain_later c ∷ plain-kept) plain-kept
  stay-one true c kept plain-kept same = ap (λ (cs : List links.Later). plain_later c ∷ cs) same
  stay-one false c kept plain-kept same = same

  plain-staying : (j : ℕ) (later : List (Later A)) → map plain_later (staying j later) ≡ links.staying j (map plain_later later)
  plain-staying j [] = refl
  plain-staying j (c ∷ rest) =
      stay-one (not (c.behind == j)) c (staying j rest) (links.staying j (map plain_later rest)) (plain-staying j rest)

  plain-own : (x : A) (cs : List links.Later) → map plain_later (map (later_copy x) cs) ≡ cs
  plain-own x [] = refl
  plain-own x (c ∷ cs) = ap (λ (ds : List links.Later). c ∷ ds) (plain-own x cs)

  plain-put : (x : A) (is : List ℕ) (j : ℕ) (queue : List (Entry A)) (later : List (Later A))
      → map plain-entry (queue ++ (map (copy_of x) is ++ falling j later))
      ≡ map plain-entry queue ++ map plain.Entry.Copy (is ++ links.falling j (map plain_later later))
  plain-put x is j queue later =
      map-append plain-entry queue (map (copy_of x) is ++ falling j later)
      ∙ ap (λ (es : List plain.Entry). map plain-entry queue ++ es)
      (map-append plain-entry (map (copy_of x) is) (falling j later)
      ∙ ap (λ (es : List plain.Entry). es ++ map plain-entry (falling j later)) (plain-copies x is)
      ∙ ap (λ (es : List plain.Entry). map plain.Entry.Copy is ++ es) (plain-falling j later)
      ∙ sym (map-append plain.Entry.Copy is (links.falling j (map plain_later later))))

  plain-with : (x : A) (later : List (Later A)) (cs : List links.Later) → map plain_later (later ++ map (later_copy x) cs) ≡ map plain_later later ++ cs
  plain-with x later cs =
      map-append plain_later later (map (later_copy x) cs)
      ∙ ap (λ (ds : List links.Later). map plain_later later ++ ds) (plain-own x cs)

  pub plain-frame : (fate : Fate) (x : A) (l : Carrying A) → plain_link (frame_sent fate x l) ≡ links.frame_sent fate (plain_link l)
  plain-frame fate x l =
      let j = l.frames + 1 in
      let later = l.later ++ map (later_copy x) (links.later_of j fate) in
      ap (λ (queue : List plain.Entry). link-of j queue (map plain_later (staying j later))) (plain-put x (in_place j fate) j l.queue later)
      ∙ ap (link-of j (map plain-entry l.queue ++ map plain.Entry.Copy (in_place j fate ++ links.falling j (map plain_later later)))) (plain-staying j later)
      ∙ ap (λ (cs : List links.Later). link-of j (map plain-entry l.queue ++ map plain.Entry.Copy (in_place j fate ++ links.falling j cs)) (links.staying j cs))
      (plain-with x l.later (links.later_of j fate))

  pub plain-mark : (phase : ℕ) (x : A) (l : Carrying A) → plain_link (mark_sent phase x l) ≡ links.mark_sent phase (plain_link l)
  plain-mark phase x l =
      ap (λ (queue : List plain.Entry). link-of l.frames queue (map plain_later l.later)) (map-append plain-entry l.queue (mark_of x phase ∷ []))

  pub plain-less : (n : ℕ) (l : Carrying A) → plain_link (record l { queue = drop n l.queue }) ≡ links.link_less n (plain_link l)
  plain-less n l =
      ap (λ (queue : List plain.Entry). link-of l.frames queue (map plain_later l.later)) (sym (drop-map plain-entry n l.queue))
