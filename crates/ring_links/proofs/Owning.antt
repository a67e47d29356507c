-- The next frame's own copy that falls later goes in its place among the others.
use Rattle.std.proofs.Common.{◌≡◌, ℕ, ◌+◌, ◌<◌, ◌≤◌, true, false, List, [], ◌∷◌, ◌++◌, get_or, arith}
use Rattle.std.specs.Prelude.{◌==◌, nat_lt, ◌&&◌, ◌||◌, All}
use Rattle.std.proofs.lemmas.Bool.Decides.{nat_tests}
use Rattle.uid_names.specs.InOrder.{put_in_order}
use Rattle.uid_names.proofs.InOrder.{put_in_order-all, put_in_order-rising}
use Rattle.ring_links.specs.declared.link.Later.{Later}
use Rattle.ring_links.specs.Carried.{own_copy}
use Rattle.ring_links.specs.Later.{falls_before, has_lower, by_number, AreLater}
use Rattle.ring_links.proofs.ByNumber.{number-put}
use Rattle.ring_links.proofs.Falling.{one_sent}

is-lower : (i frames : ℕ) → i ≤ frames → nat_lt i (frames + 1) ≡ true
is-lower i frames h = grind (arith, nat_tests, h)

turned : (b i behind index : ℕ) → nat_lt i index ≡ true → (nat_lt b behind || (b == behind && nat_lt i index)) ≡ false
    → (nat_lt behind b || (behind == b && nat_lt index i)) ≡ true
turned b i behind index low late = grind (arith, nat_tests, low, late)

module _ {A : Type 0} where
  pub falls-trans : (a b c : Later A) → falls_before a b ≡ true → falls_before b c ≡ true → falls_before a c ≡ true
  falls-trans a b c e f = grind (arith, nat_tests, e, f)

  -- it has a greater number than all, so what does not fall before it falls behind it
  module _ (frames after : ℕ) (x : A) (later : List (Later A)) (are : AreLater frames frames later) where
    abbrev own : Later A
    own = own_copy frames after x

    lower : All (λ c. has_lower c own ≡ true) later
    lower = λ k d below. is-lower (get_or later k d).index frames (are.numbers k d below)

    last-number : frames + 1 ≤ frames + 1
    last-number = omega arith

    falls-ahead : frames < frames + 1 + after
    falls-ahead = omega arith

    pub own-last : by_number (put_in_order falls_before own later) ≡ by_number later ++ own ∷ []
    own-last = number-put own later lower

    pub own-later : AreLater (frames + 1) frames (put_in_order falls_before own later)
    own-later = record {
      rising = put_in_order-rising falls_before falls-trans own later are.rising (λ k d below late. turned (get_or later k d).behind (get_or later k d).index own.behind own.index (lower k d below) late);
      numbers = put_in_order-all falls_before (λ (c : Later A). c.index ≤ frames + 1) own later last-number (one_sent frames frames later are).numbers;
      ahead = put_in_order-all falls_before (λ (c : Later A). frames < c.behind) own later falls-ahead are.ahead;
    }
