-- What a note leaves of the contents of objects.
use Rattle.std.proofs.Common.{◌≡◌, ℕ, ◌≤◌, Bool, true, false, List, [], ◌∷◌, Option, Some, None, refl, sym, ap, ◌∙◌, arith}
use Rattle.std.specs.Prelude.{◌==◌, ◌&&◌, nat_le, unwrap_or}
use Rattle.std.proofs.lemmas.Bool.Decides.{nat_tests}
use Rattle.uid_names.specs.Names.{ObjectName, same_uid}
use Rattle.uid_names.proofs.ListLemmas.{by_cases}
use Rattle.uid_names.proofs.Orders.{same_uid_is}
use Rattle.ring_messages.specs.Bodies.{Answer}
use Rattle.node_runs.specs.Notes.{Note}
use Rattle.node_runs.specs.Runs.{Noted}
use Rattle.node_runs.specs.CallsKeep.{EachOf}
use Rattle.run_laws.specs.Items.{Item, Value, same_item, blank, Write, write_of}
use Rattle.run_laws.specs.Contents.{value_if, left_by, left_at, left_if, content}

-- where a write of u was taken, P holds of its stamp
abbrev pub IsTakenIn : (ℕ → Type 0) → ObjectName → Option Write → Answer → Type 0
IsTakenIn P u (Some w) (Answer.Stored t) = w.uid ≡ u → P t
IsTakenIn P u w answer = Unit {0}

abbrev pub TakesIn : (ℕ → Type 0) → ObjectName → Note → Type 0
TakesIn P u (Note.Decided p number ask answer) = IsTakenIn P u (write_of ask) answer
TakesIn P u note = Unit {0}

module _ (u : ObjectName) where
  -- a note that leaves nothing
  pub left-none : (s : ℕ) (x : Item) (j : Noted) (older : List Noted) → left_if (j.place.node == u.home) u x s j.note ≡ None → content (j ∷ older) u s x ≡ content older u s x
  left-none s x j older none = ap (λ (o : Option Value). unwrap_or o (content older u s x)) none

  -- two stamps that are not below what was taken
  module _ (m s : ℕ) (x : Item) (up : m ≤ s) where
    same-test : (w : Write) (t : ℕ) → (w.uid ≡ u → t ≤ m) → (same_uid w.uid u && (same_item w.item x && nat_le t s)) ≡ (same_uid w.uid u && (same_item w.item x && nat_le t m))
    same-test w t most = by_cases (same_uid w.uid u) ((same_uid w.uid u && (same_item w.item x && nat_le t s)) ≡ (same_uid w.uid u && (same_item w.item x && nat_le t m)))
        (λ is. ap (λ b. same_uid w.uid u && (same_item w.item x && b)) (let h = most (same_uid_is w.uid u is) in let e : nat_le t s ≡ nat_le t m = grind (arith, nat_tests, h, up) in e))
        (λ is. ap (λ b. b && (same_item w.item x && nat_le t s)) is ∙ sym (ap (λ b. b && (same_item w.item x && nat_le t m)) is))

    same-left : (o : Option Write) (answer : Answer) → IsTakenIn (λ t. t ≤ m) u o answer → left_by u x s o answer ≡ left_by u x m o answer
    same-left (Some w) (Answer.Stored t) most = ap (λ b. value_if b w) (same-test w t most)
    same-left o answer most = refl

    same-at : (note : Note) → TakesIn (λ t. t ≤ m) u note → left_at u x s note ≡ left_at u x m note
    same-at (Note.Decided p number ask answer) most = same-left (write_of ask) answer most
    same-at note most = refl

    same-if : (b : Bool) (note : Note) → TakesIn (λ t. t ≤ m) u note → left_if b u x s note ≡ left_if b u x m note
    same-if true note most = same-at note most
    same-if false note most = refl

    -- above the last stamp nothing more is written
    pub content-above : (notes : List Noted) → EachOf (λ (j : Noted). TakesIn (λ t. t ≤ m) u j.note) notes → content notes u s x ≡ content notes u m x
    content-above [] each = refl
    content-above (j ∷ older) each =
        ap (λ (o : Option Value). unwrap_or o (content older u s x)) (same-if (j.place.node == u.home) j.note each.0)
        ∙ ap (λ v. unwrap_or (left_if (j.place.node == u.home) u x m j.note) v) (content-above older each.1)

  module _ (s : ℕ) (x : Item) where
    untaken-left : (o : Option Write) (answer : Answer) → IsTakenIn (λ t. ⊥) u o answer → left_by u x s o answer ≡ None
    untaken-left (Some w) (Answer.Stored t) none = by_cases (same_uid w.uid u) (left_by u x s (Some w) (Answer.Stored t) ≡ None)
        (λ is. absurd (none (same_uid_is w.uid u is)))
        (λ is. ap (λ b. value_if (b && (same_item w.item x && nat_le t s)) w) is)
    untaken-left (Some w) answer none = refl
    untaken-left None answer none = refl

    untaken-at : (note : Note) → TakesIn (λ t. ⊥) u note → left_at u x s note ≡ None
    untaken-at (Note.Decided p number ask answer) none = untaken-left (write_of ask) answer none
    untaken-at note none = refl

    pub left-nothing : (b : Bool) (note : Note) → (left_at u x s note ≡ None) → left_if b u x s note ≡ None
    left-nothing true note none = none
    left-nothing false note none = refl

    -- nothing was ever written
    pub content-blank : (notes : List Noted) → EachOf (λ (j : Noted). TakesIn (λ t. ⊥) u j.note) notes → content notes u s x ≡ blank x
    content-blank [] each = refl
    content-blank (j ∷ older) each = left-none s x j older (left-nothing (j.place.node == u.home) j.note (untaken-at j.note each.0)) ∙ content-blank older each.1
