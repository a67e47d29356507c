-- What the stores of a machine make of what a mailbox holds.
use Rattle.std.proofs.Common.{◌≡◌, ◌<◌, ◌≤◌, ◌+◌, ◌-◌, ◌^◌, ◌⊎◌, inl, inr, ℕ, suc, Bool, true, false, max, Some, List, [], ◌∷◌, ◌++◌, length, length-append, get_or, refl, ap, ◌∙◌, sym, subst, arith}
use Rattle.std.specs.Prelude.{nat_lt, ◌==◌}
use Rattle.std.proofs.lemmas.Bool.Decides.{nat_tests}
use Rattle.std.proofs.Math.ListN.{get_or-append}
use Rattle.std.proofs.Math.Seq.{get_or-append_seam}
use Rattle.uid_names.specs.Names.{ProcName, ObjectName}
use Rattle.uid_names.specs.Openings.{Start}
use Rattle.dom_history.specs.declared.op.Spot.{Spot}
use Rattle.dom_history.specs.StoreEffects.{StoreEffect, Writes}
use Rattle.dom_history.specs.Mappings.{target}
use Rattle.dom_history.specs.Bytes.{byte, bytes_from, length_of}
use Rattle.mail_box.specs.Boxes.{extent_if, extent_of, first_head, head_bytes, head_of, message_bytes, one_put, one_taken, place_of, text_in, IsText}
use Rattle.mail_box.specs.Contents.{numbers_by, numbers_of, HasText, Holds}
use Rattle.mail_box.specs.declared.boxes.Extent.{Extent}
use Rattle.mail_box.specs.declared.boxes.Extent.TheVariants.{New, Torn, Whole}
use Rattle.mail_box.specs.declared.boxes.Head.{Head}
use Rattle.mail_box.proofs.Bytes.{message_size, numbers_read, text_read}
use Rattle.mail_box.proofs.Places.{place_low, places_apart}
use Rattle.mail_box.proofs.Written.{at_place, bytes_stay, length_written, range_of_zeros, range_stays, range_stored, zeros_behind}

-- extents by lengths
pub long_whole : (n : ℕ) → 1152 ≤ n → extent_of n ≡ Whole
long_whole n h =
    let some : (n == 0) ≡ false = grind (arith, nat_tests, h) in
    let long : nat_lt n 1152 ≡ false = grind (arith, nat_tests, h) in
    rw (some, long) refl

not_torn : Whole ≡ Torn → ⊥
not_torn e = cc

whole_by : (n : ℕ) → (zero short : Bool) → (n == 0) ≡ zero → nat_lt n 1152 ≡ short → extent_if zero short ≡ Whole → 1152 ≤ n
whole_by n true short e f w = absurd (cc)
whole_by n false true e f w = absurd (cc)
whole_by n false false e f w = grind (arith, nat_tests, f)

pub whole_long : (n : ℕ) → extent_of n ≡ Whole → 1152 ≤ n
whole_long n w = whole_by n (n == 0) (nat_lt n 1152) refl refl w

new_by : (n : ℕ) → (zero short : Bool) → (n == 0) ≡ zero → extent_if zero short ≡ New → n ≡ 0
new_by n true short e w = grind (arith, nat_tests, e)
new_by n false true e w = absurd (cc)
new_by n false false e w = absurd (cc)

pub new_empty : (n : ℕ) → extent_of n ≡ New → n ≡ 0
new_empty n w = new_by n (n == 0) (nat_lt n 1152) refl w

module _ (opening : Start) where
  -- what leaves each byte and the length leaves what it holds
  text_stays : (past later : List StoreEffect) (u : ObjectName) (i : ℕ) (text : List ℕ) → length_of opening past u ≤ length_of opening later u
      → bytes_from opening later u (place_of i) 128 ≡ bytes_from opening past u (place_of i) 128 → HasText opening past u i text → HasText opening later u i text
  text_stays past later u i text longer same h = record { reads = ap text_in same ∙ h.reads; long = omega (arith, longer, h.long) }

  numbers_stay : (past later : List StoreEffect) (u : ObjectName) → length_of opening later u ≡ length_of opening past u → bytes_from opening later u 0 16 ≡ bytes_from opening past u 0 16 → numbers_of opening later u ≡ numbers_of opening past u
  numbers_stay past later u long same = ap (λ n. numbers_by opening later u (extent_of n)) long ∙ by_extent (extent_of (length_of opening past u))
    where
      by_extent : (e : Extent) → numbers_by opening later u e ≡ numbers_by opening past u e
      by_extent New = refl
      by_extent Torn = refl
      by_extent Whole = ap head_of same

  pub holds_still : (past later : List StoreEffect) (u : ObjectName) (h : Head) (texts : List (List ℕ)) → length_of opening later u ≡ length_of opening past u
      → ((i : ℕ) → byte opening later u i ≡ byte opening past u i) → Holds opening past u h texts → Holds opening later u h texts
  holds_still past later u h texts long same box = record {
    whole = λ torn. box.whole (sym (ap extent_of long) ∙ torn);
    numbers = numbers_stay past later u long (bytes_stay opening past later u 0 16 (λ i b. same (0 + i))) ∙ box.numbers;
    count = box.count;
    few = box.few;
    room = box.room;
    each = λ i b. text_stays past later u (h.taken + i) (get_or texts i []) (omega (arith, long)) (bytes_stay opening past later u (place_of (h.taken + i)) 128 (λ k c. same (place_of (h.taken + i) + k))) (box.each i b);
  }

  -- and its texts stay where the later ones are put
  pub text_still : (past later : List StoreEffect) (u : ObjectName) (i : ℕ) (text : List ℕ) → length_of opening later u ≡ length_of opening past u
      → ((i : ℕ) → byte opening later u i ≡ byte opening past u i) → HasText opening past u i text → HasText opening later u i text
  text_still past later u i text long same h =
      text_stays past later u i text (omega (arith, long)) (bytes_stay opening past later u (place_of i) 128 (λ k c. same (place_of i + k))) h

  -- nothing was ever stored: it holds nothing
  pub holds_nothing : (past : List StoreEffect) (u : ObjectName) → length_of opening past u ≡ 0 → Holds opening past u first_head []
  holds_nothing past u none =
      let empty : extent_of (length_of opening past u) ≡ New = ap extent_of none in
      record {
        whole = λ torn. new_torn (sym empty ∙ torn);
        numbers = ap (numbers_by opening past u) empty;
        count = refl;
        few = omega arith;
        room = omega arith;
        each = λ i b. absurd (omega (arith, b));
      }
    where
      new_torn : New ≡ Torn → ⊥
      new_torn e = cc

  module _ (past : List StoreEffect) (p : ProcName) (spot : Spot) (u : ObjectName) where
    -- a message is stored where the next one has its place
    module _ (h : Head) (texts : List (List ℕ)) (text : List ℕ) (box : Holds opening past u h texts) (free : length texts < 56) (is : IsText text) (at : target opening past p spot ≡ Some (at_place u (place_of h.put))) where
      abbrev pub with_message : List StoreEffect
      with_message = Writes p spot (message_bytes text) ∷ past

      size : length (message_bytes text) ≡ 128
      size = message_size text is

      long : length_of opening with_message u ≡ max (length_of opening past u) (place_of h.put + 128)
      long = length_written opening past p spot (message_bytes text) u (place_of h.put) at ∙ ap (λ n. max (length_of opening past u) (place_of h.put + n)) size

      now_whole : extent_of (length_of opening with_message u) ≡ Whole
      now_whole = long_whole (length_of opening with_message u) (omega (arith, long, place_low h.put))

      front : bytes_from opening with_message u 0 16 ≡ bytes_from opening past u 0 16
      front = range_stays opening past p spot (message_bytes text) u (place_of h.put) at 0 16 (inl (omega (arith, place_low h.put)))

      -- the numbers of one without a byte are zeros
      numbers_from : (e : Extent) → extent_of (length_of opening past u) ≡ e → head_of (bytes_from opening past u 0 16) ≡ numbers_by opening past u e
      numbers_from Whole e = refl
      numbers_from Torn e = absurd (box.whole e)
      numbers_from New e = ap head_of (range_of_zeros opening past u 0 16 (λ i b. zeros_behind opening past u (0 + i) (omega (arith, new_empty (length_of opening past u) e))))

      numbers_same : numbers_of opening with_message u ≡ h
      numbers_same =
          ap (numbers_by opening with_message u) now_whole ∙ ap head_of front ∙ numbers_from (extent_of (length_of opening past u)) refl ∙ box.numbers

      -- each text that it holds has another place
      other_place : (i : ℕ) → i < length texts → (place_of (h.taken + i) + 128 ≤ place_of h.put) ⊎ (place_of h.put + length (message_bytes text) ≤ place_of (h.taken + i))
      other_place i b =
          let d = h.put - (h.taken + i) in
          let there : h.taken + i + d ≡ h.put = omega (arith, box.count, b) in
          by_sides (subst (λ n. (place_of (h.taken + i) + 128 ≤ place_of n) ⊎ (place_of n + 128 ≤ place_of (h.taken + i))) there
          (places_apart (h.taken + i) d (omega (arith, box.count, b)) (omega (arith, box.count, free))))
        where
          by_sides : (place_of (h.taken + i) + 128 ≤ place_of h.put) ⊎ (place_of h.put + 128 ≤ place_of (h.taken + i)) → (place_of (h.taken + i) + 128 ≤ place_of h.put) ⊎ (place_of h.put + length (message_bytes text) ≤ place_of (h.taken + i))
          by_sides (inl before) = inl before
          by_sides (inr behind) = inr (omega (arith, behind, size))

      pub message_keeps : Holds opening with_message u h texts
      message_keeps = record {
        whole = λ torn. not_torn (sym now_whole ∙ torn);
        numbers = numbers_same;
        count = box.count;
        few = box.few;
        room = box.room;
        each = λ i b. text_stays past with_message u (h.taken + i) (get_or texts i []) (omega (arith, long))
            (range_stays opening past p spot (message_bytes text) u (place_of h.put) at (place_of (h.taken + i)) 128 (other_place i b)) (box.each i b);
      }

      -- and it stands there
      pub message_there : HasText opening with_message u h.put text
      message_there =
          let own : bytes_from opening with_message u (place_of h.put) 128 ≡ message_bytes text =
          ap (λ n. bytes_from opening with_message u (place_of h.put) n) (sym size) ∙ range_stored opening past p spot (message_bytes text) u (place_of h.put) at in
          record { reads = ap text_in own ∙ text_read text is; long = omega (arith, long) }

    -- numbers are stored
    module _ (h after : Head) (few : after.put < 2 ^ 64 - 1) (below : after.taken ≤ after.put) (large : 1152 ≤ length_of opening past u) (at : target opening past p spot ≡ Some (at_place u 0)) where
      abbrev pub with_numbers : List StoreEffect
      with_numbers = Writes p spot (head_bytes after) ∷ past

      long_still : length_of opening with_numbers u ≡ length_of opening past u
      long_still =
          let greatest : max (length_of opening past u) (0 + 16) ≡ length_of opening past u = omega (arith, large) in
          length_written opening past p spot (head_bytes after) u 0 at ∙ greatest

      whole_still : extent_of (length_of opening with_numbers u) ≡ Whole
      whole_still = long_whole (length_of opening with_numbers u) (omega (arith, long_still, large))

      pub numbers_there : numbers_of opening with_numbers u ≡ after
      numbers_there =
          ap (numbers_by opening with_numbers u) whole_still
          ∙ ap head_of (range_stored opening past p spot (head_bytes after) u 0 at)
          ∙ numbers_read after (omega (arith, few)) (omega (arith, few, below))

      pub text_kept : (i : ℕ) (text : List ℕ) → HasText opening past u i text → HasText opening with_numbers u i text
      text_kept i text there =
          text_stays past with_numbers u i text (omega (arith, long_still))
          (range_stays opening past p spot (head_bytes after) u 0 at (place_of i) 128 (inr (omega (arith, place_low i)))) there

      pub holds_with : (texts : List (List ℕ)) → after.put ≡ after.taken + length texts → length texts ≤ 56 → ((i : ℕ) → i < length texts → HasText opening past u (after.taken + i) (get_or texts i [])) → Holds opening with_numbers u after texts
      holds_with texts count some each = record {
        whole = λ torn. not_torn (sym whole_still ∙ torn);
        numbers = numbers_there;
        count = count;
        few = some;
        room = few;
        each = λ i b. text_kept (after.taken + i) (get_or texts i []) (each i b);
      }

    -- behind a message that is there, one more is put
    pub put_holds : (h : Head) (texts : List (List ℕ)) (text : List ℕ) → Holds opening past u h texts → HasText opening past u h.put text → length texts < 56 → h.put + 1 < 2 ^ 64 - 1 → target opening past p spot ≡ Some (at_place u 0)
        → Holds opening (Writes p spot (head_bytes (one_put h)) ∷ past) u (one_put h) (texts ++ text ∷ [])
    put_holds h texts text box there free few at =
        holds_with h (one_put h) few (omega (arith, box.count)) (omega (arith, there.long, place_low h.put)) at (texts ++ text ∷ [])
        (omega (arith, box.count, length-append texts (text ∷ []))) (omega (arith, free, length-append texts (text ∷ []))) (λ i b. by_place i (omega (arith, b, length-append texts (text ∷ []))))
      where
        by_test : (i : ℕ) (last : Bool) → nat_lt i (length texts) ≡ last → i ≤ length texts → HasText opening past u (h.taken + i) (get_or (texts ++ text ∷ []) i [])
        by_test i true e b =
            let within : i < length texts = grind (arith, nat_tests, e) in
            subst (λ t. HasText opening past u (h.taken + i) t) (sym (get_or-append texts (text ∷ []) [] i within)) (box.each i within)
        by_test i false e b =
            let end : i ≡ length texts = grind (arith, nat_tests, e, b) in
            let number : h.put ≡ h.taken + i = box.count ∙ ap (λ n. h.taken + n) (sym end) in
            subst (λ n. HasText opening past u n (get_or (texts ++ text ∷ []) i [])) number
            (subst (λ t. HasText opening past u h.put t) (sym (ap (λ n. get_or (texts ++ text ∷ []) n []) end ∙ get_or-append_seam texts text [] [])) there)

        by_place : (i : ℕ) → i ≤ length texts → HasText opening past u (h.taken + i) (get_or (texts ++ text ∷ []) i [])
        by_place i b = by_test i (nat_lt i (length texts)) refl b

    -- the first is taken
    pub take_holds : (h : Head) (text : List ℕ) (texts : List (List ℕ)) → Holds opening past u h (text ∷ texts) → target opening past p spot ≡ Some (at_place u 0)
        → Holds opening (Writes p spot (head_bytes (one_taken h)) ∷ past) u (one_taken h) texts
    take_holds h text texts box at =
        holds_with h (one_taken h) box.room (omega (arith, box.count)) (omega (arith, (box.each 0 (omega arith)).long, place_low (h.taken + 0))) at texts
        (omega (arith, box.count)) (omega (arith, box.few)) (λ i b. next i (omega (arith, b)))
      where
        next : (i : ℕ) → i < length texts → HasText opening past u (h.taken + 1 + i) (get_or texts i [])
        next i b =
            let number : h.taken + suc i ≡ h.taken + 1 + i = omega arith in
            subst (λ n. HasText opening past u n (get_or texts i [])) number (box.each (suc i) (omega (arith, b)))
