-- What a link is once a frame was sent, by what waits and what falls later.
use Rattle.std.proofs.Common.{◌≡◌, ◌∙◌, ℕ, ◌+◌, List, ◌++◌, map, ap}
use Rattle.std.proofs.lemmas.List.{append_assoc}
use Rattle.dom_history.specs.declared.plan.Fate.{Fate}
use Rattle.node_runs.specs.Deliveries.{in_place}
use Rattle.world_runs.specs.Links as links
use Rattle.ring_links.specs.declared.entry.Entry.{Entry}
use Rattle.ring_links.specs.declared.link.Later.{Later}
use Rattle.ring_links.specs.Carried.{Carrying, copy_of, later_copy, falling, staying, frame_sent}
use Rattle.ring_links.specs.Later.{by_number, HaveFallen}

module _ {A : Type 0} where
  abbrev carrying : ℕ → List (Entry A) → List (Later A) → Carrying A
  carrying frames queue later = record { frames = frames; queue = queue; later = later }

  -- its copies wait or fall later, and then all fell that fall behind it
  pub link-sent : (fate : Fate) (x : A) (frames : ℕ) (before some waiting : List (Entry A)) (old more later : List (Later A))
      → some ≡ before ++ map (copy_of x) (in_place (frames + 1) fate)
      → by_number more ≡ by_number old ++ map (later_copy x) (links.later_of (frames + 1) fate)
      → HaveFallen frames some waiting more later
      → carrying (frames + 1) waiting (by_number later) ≡ frame_sent fate x (carrying frames before (by_number old))
  link-sent fate x frames before some waiting old more later here own fell =
      let j = frames + 1 in
      let copies : List (Entry A) = map (copy_of x) (in_place j fate) in
      let all : List (Later A) = by_number old ++ map (later_copy x) (links.later_of j fate) in
      let waits : waiting ≡ before ++ (copies ++ falling j all) =
      fell.waits
      ∙ ap (λ (es : List (Entry A)). es ++ falling j (by_number more)) here
      ∙ append_assoc before copies (falling j (by_number more))
      ∙ ap (λ (cs : List (Later A)). before ++ (copies ++ falling j cs)) own in
      let stays : by_number later ≡ staying j all = fell.stays ∙ ap (staying j) own in
      ap (λ (es : List (Entry A)). carrying j es (by_number later)) waits
      ∙ ap (carrying j (before ++ (copies ++ falling j all))) stays
