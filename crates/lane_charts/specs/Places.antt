-- Places in a list by keys: for each key the places of the items that have it.
use Rattle.std.specs.Prelude.{◌≡◌, ℕ, ◌+◌, ◌<◌, ◌==◌, Bool, true, false, Option, Some, None, List, [], ◌∷◌, ◌++◌, length, slice_get, slice_index_or, slice_set}

-- one more place, if it is asked for
abbrev pub place_if : Bool → ℕ → List ℕ → List ℕ
place_if true n places = n ∷ places
place_if false n places = places

-- the places of the items that pass, where the first one has the place n
abbrev pub places_of : {X : Type 0} → (X → Bool) → ℕ → List X → List ℕ
places_of test n [] = []
places_of test n (x ∷ xs) = place_if (test x) n (places_of test (n + 1) xs)

-- a place behind those of its key, if it has one
abbrev pub with_place : Option ℕ → ℕ → List (List ℕ) → List (List ℕ)
with_place None place lists = lists
with_place (Some key) place lists = slice_set lists key (slice_index_or lists key [] ++ place ∷ [])

-- the key of an item is this one
abbrev pub is_key : ℕ → Option ℕ → Bool
is_key k None = false
is_key k (Some key) = key == k

-- the lists are those of the keys below a number, each of the places of the items that have that key
pub record AreKeyed {X : Type 0} (key : X → Option ℕ) (keys : ℕ) (lists : List (List ℕ)) (xs : List X) : Type 0 where
  pub count : length lists ≡ keys
  pub each : (k : ℕ) → k < keys → slice_get lists k ≡ Some (places_of (λ x. is_key k (key x)) 0 xs)

-- what is drawn of what a place has
abbrev pub drawn : {X : Type 0} → (X → List ℕ) → Option X → List ℕ
drawn draw None = []
drawn draw (Some x) = draw x
