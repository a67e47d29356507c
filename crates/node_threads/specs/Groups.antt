-- Posts that are served together.
use Rattle.std.specs.Prelude.{Bool, is_some, Option, Some, None, List, [], ◌∷◌}
use Rattle.std.specs.List.{list_any, list_all}
use Rattle.node_core.specs.declared.fault.RunFault.{RunFault}
use Rattle.node_posts.specs.declared.post.Post.{Post}
use Rattle.node_posts.specs.Ended.{has_ended}

abbrev pub fault_or : Option RunFault → Option RunFault → Option RunFault
fault_or None later = later
fault_or (Some fault) later = Some fault

module _ {P G : Type 0} where
  -- a fault came to one of them
  abbrev pub any_fault : List (Post P G) → Bool
  any_fault posts = list_any (λ x. is_some x.fault) posts

  -- the fault of the first of them to which one came
  abbrev pub first_fault : List (Post P G) → Option RunFault
  first_fault [] = None
  first_fault (x ∷ posts) = fault_or x.fault (first_fault posts)

  -- each has ended, and no mark of one is left
  abbrev pub all_ended : List (Post P G) → Bool
  all_ended posts = list_all has_ended posts
