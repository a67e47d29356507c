-- The ends of the links between posts, in one hand.
use Rattle.std.specs.Prelude.{◌≡◌, ◌≢◌, ℕ, ◌+◌, Some, List, slice_get}
use Rattle.std.specs.List.{AllZip}
use Rattle.std.specs.declared.vec.Vec.{Vec}
use mathlib.Core.List.{IsPrefix}
use Rattle.wire_links.specs.declared.wire.WireIn.{WireIn}
use Rattle.wire_links.specs.declared.wire.WireOut.{WireOut}
use Rattle.wire_links.specs.Wires.{pushed, taken, SameIn, SameOut}
use Rattle.node_posts.specs.declared.post.Post.{Post}
use Rattle.node_posts.specs.Ends.{place_of}

-- it holds of the two ends at these places, if there are such
abbrev pub OfEnds : (WireOut → WireIn → Type 0) → List WireOut → ℕ → List WireIn → ℕ → Type 0
OfEnds T outs at ins other = (o : WireOut) (i : WireIn) → slice_get outs at ≡ Some o → slice_get ins other ≡ Some i → T o i

-- what was taken is a first part of what was pushed
abbrev pub IsFifo : WireOut → WireIn → Type 0
IsFifo o i = IsPrefix (taken i) (pushed o)

-- the same ends, of which nothing more was pushed or taken
pub record StaysOut (a b : WireOut) : Type 0 where
  pub same : SameOut a b
  pub pushed_is : pushed b ≡ pushed a

pub record StaysIn (a b : WireIn) : Type 0 where
  pub same : SameIn a b
  pub taken_is : taken b ≡ taken a

abbrev pub StayOuts : List WireOut → List WireOut → Type 0
StayOuts olds news = AllZip StaysOut olds news

abbrev pub StayIns : List WireIn → List WireIn → Type 0
StayIns olds news = AllZip StaysIn olds news

module _ {Z : Type 0} where
  abbrev pub AllStayOuts : List (Vec WireOut Z) → List (Vec WireOut Z) → Type 0
  AllStayOuts olds news = AllZip (λ x y. StayOuts x.items y.items) olds news

  abbrev pub AllStayIns : List (Vec WireIn Z) → List (Vec WireIn Z) → Type 0
  AllStayIns olds news = AllZip (λ x y. StayIns x.items y.items) olds news

  -- it holds of the ends of the link from a node to another, by the places of both among all nodes
  abbrev pub OfLink : (WireOut → WireIn → Type 0) → ℕ → ℕ → List (Vec WireOut Z) → List (Vec WireIn Z) → Type 0
  OfLink T a b outs ins =
      (x : Vec WireOut Z) (y : Vec WireIn Z) → slice_get outs a ≡ Some x → slice_get ins b ≡ Some y →
      OfEnds T x.items (place_of (a + 1) (b + 1)) y.items (place_of (b + 1) (a + 1))

  -- of the ends of each link
  abbrev pub OfLinks : (WireOut → WireIn → Type 0) → List (Vec WireOut Z) → List (Vec WireIn Z) → Type 0
  OfLinks T outs ins = (a b : ℕ) → a ≢ b → OfLink T a b outs ins

-- on each link between posts, which are by number, what was taken is a first part of what was pushed
abbrev pub AreBeside : {P G : Type 0} → List (Post P G) → Type 0
AreBeside {P} {G} xs =
    (a b : ℕ) (x y : Post P G) → a ≢ b → slice_get xs a ≡ Some x → slice_get xs b ≡ Some y →
    OfEnds IsFifo x.outs.items (place_of (a + 1) (b + 1)) y.ins.items (place_of (b + 1) (a + 1))
