-- Posts in their order, of which some have a thread and others are kept (for the private code alone).
use Rattle.std.specs.Prelude.{◌≡◌, ℕ, Option, Some, None, List, [], ◌∷◌}
use Rattle.std.specs.List.{AllZip}
use Rattle.std.specs.declared.thread.PromisedHandle.{PromisedHandle}
use Rattle.node_posts.specs.declared.post.Post.{Post}
use Rattle.node_threads.specs.declared.threads.Serves.{Serves}

-- the thread promises to serve this post, up to this tick
abbrev pub IsChild : {P G : Type 0} → ℕ → PromisedHandle (Post P G) (Serves P G) → Post P G → Type 0
IsChild last child post = (child.promise.0.value ≡ post) × (child.promise.1 ≡ last)

-- each post has a thread, or it is the next of those that are kept, which go on from it
abbrev pub AreSlots : {H X : Type 0} → (H → X → Type 0) → (X → X → Type 0) → List (Option H) → List X → List X → Type 0
AreSlots K R [] [] [] = Unit {0}
AreSlots K R [] [] (x ∷ posts) = ⊥
AreSlots K R [] (y ∷ kept) posts = ⊥
AreSlots K R (slot ∷ slots) kept [] = ⊥
AreSlots K R (Some h ∷ slots) kept (x ∷ posts) = K h x × AreSlots K R slots kept posts
AreSlots K R (None ∷ slots) [] (x ∷ posts) = ⊥
AreSlots K R (None ∷ slots) (y ∷ kept) (x ∷ posts) = R x y × AreSlots K R slots kept posts

-- of whatever posts these are the slots, they went on to those that were served
abbrev pub GoOnTo : {H X : Type 0} → (H → X → Type 0) → (X → X → Type 0) → List (Option H) → List X → List X → Type 0
GoOnTo {H} {X} K R slots kept served = (posts : List X) → AreSlots K R slots kept posts → AllZip R posts served
