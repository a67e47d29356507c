-- What is asked of posts one after another is asked of those that are left.
use Rattle.std.proofs.Common.{◌≡◌, ℕ, ◌+◌, ◌<◌, ◌≤◌, Bool, true, false, List, length, get_or, drop, Option, None, ap, ◌∙◌}
use Rattle.std.specs.Prelude.{◌&&◌, ◌||◌, is_some}
use Rattle.std.proofs.Math.ListN.{drop_of_length-le}
use Rattle.node_core.specs.declared.fault.RunFault.{RunFault}
use Rattle.node_core.proofs.FirstPrograms.{item-front}
use Rattle.node_posts.specs.declared.post.Post.{Post}
use Rattle.node_posts.specs.Ended.{has_ended}
use Rattle.node_threads.specs.Groups.{fault_or, any_fault, first_fault, all_ended}

module _ {P G : Type 0} (posts : List (Post P G)) (i : ℕ) where
  module _ (left : any_fault posts ≡ any_fault (drop i posts)) where
    pub fault-step : (x : Post P G) → i < length posts → x ≡ get_or posts i x → (b : Bool) → is_some x.fault ≡ b → any_fault posts ≡ (b || any_fault (drop (i + 1) posts))
    fault-step x within is b here = left ∙ ap any_fault (item-front posts i x within is) ∙ ap (λ (c : Bool). c || any_fault (drop (i + 1) posts)) here

    pub fault-none : length posts ≤ i → any_fault posts ≡ false
    fault-none past = left ∙ ap any_fault (drop_of_length-le posts past)

  module _ (left : all_ended posts ≡ all_ended (drop i posts)) where
    pub ended-step : (x : Post P G) → i < length posts → x ≡ get_or posts i x → (b : Bool) → has_ended x ≡ b → all_ended posts ≡ (b && all_ended (drop (i + 1) posts))
    ended-step x within is b here = left ∙ ap all_ended (item-front posts i x within is) ∙ ap (λ (c : Bool). c && all_ended (drop (i + 1) posts)) here

    pub ended-each : length posts ≤ i → all_ended posts ≡ true
    ended-each past = left ∙ ap all_ended (drop_of_length-le posts past)

  module _ (left : first_fault posts ≡ first_fault (drop i posts)) where
    pub first-step : (x : Post P G) → i < length posts → x ≡ get_or posts i x → (o : Option RunFault) → x.fault ≡ o → first_fault posts ≡ fault_or o (first_fault (drop (i + 1) posts))
    first-step x within is o here = left ∙ ap first_fault (item-front posts i x within is) ∙ ap (λ (f : Option RunFault). fault_or f (first_fault (drop (i + 1) posts))) here

    pub first-none : length posts ≤ i → first_fault posts ≡ None
    first-none past = left ∙ ap first_fault (drop_of_length-le posts past)
