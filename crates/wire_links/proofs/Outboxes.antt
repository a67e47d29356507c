-- How many entries wait, and whether a mark does.
use Rattle.std.proofs.Common.{◌≡◌, ◌∙◌, ◌+◌, List, [], ◌∷◌, ◌++◌, map, length, refl, ap}
use Rattle.std.specs.Prelude.{◌||◌}
use Rattle.std.specs.List.{list_any}
use Rattle.std.proofs.lemmas.List.{length-append, length-map}
use Rattle.std.proofs.lemmas.List.Folds.{list_any-append}
use Rattle.ring_links.specs.declared.entry.Entry.{Entry}
use Rattle.ring_links.specs.Carried as links
use Rattle.wire_links.specs.declared.carried.Parcel.{Parcel}
use Rattle.wire_links.specs.declared.carried.Carried.{Carried}
use Rattle.wire_links.specs.declared.carried.Carried.TheVariants as carried
use Rattle.wire_links.specs.Outboxes.{is_mark}

module _ (items : List Carried) where
  pub waiting_counted : (queue : List (Entry Parcel)) → length (items ++ map carried.Put queue) ≡ length items + length queue
  waiting_counted queue = length-append items (map carried.Put queue) ∙ ap (λ n. length items + n) (length-map queue carried.Put)

  marks-put : (queue : List (Entry Parcel)) → list_any is_mark (map carried.Put queue) ≡ list_any links.is_mark queue
  marks-put [] = refl
  marks-put (e ∷ queue) = ap (λ b. links.is_mark e || b) (marks-put queue)

  pub marks_waiting : (queue : List (Entry Parcel)) → list_any is_mark (items ++ map carried.Put queue) ≡ (list_any is_mark items || list_any links.is_mark queue)
  marks_waiting queue = list_any-append is_mark items (map carried.Put queue) ∙ ap (λ b. list_any is_mark items || b) (marks-put queue)
