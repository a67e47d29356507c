-- Posts at the start.
use Rattle.std.specs.Prelude.{◌≡◌, ◌≢◌, ◌≤◌, ℕ, ◌+◌, ◌-◌, Option, Some, None, List, [], ◌∷◌, ◌++◌, map, length, slice_get}
use Rattle.dom_history.specs.declared.op.Reply.{Reply}
use Rattle.dom_history.specs.declared.op.Want.{Want}
use Rattle.dom_history.specs.declared.plan.FateRow.{FateRow}
use Rattle.node_runs.specs.Setups.{Setup, IsSetup, given}
use Rattle.node_runs.specs.NodeStates.{first_node}
use Rattle.node_core.specs.Nodes.{Noted, Stands}
use Rattle.wire_links.specs.declared.wire.WireIn.{WireIn}
use Rattle.wire_links.specs.declared.wire.WireOut.{WireOut}
use Rattle.wire_links.specs.Wires.{AreEnds, AreUnused, IsOfLink, taken}
use Rattle.ring_links.specs.Carried.{empty_link}
use Rattle.node_posts.specs.declared.post.Post.{Post}
use Rattle.node_posts.specs.Ends.{other_at, place_of}
use Rattle.node_posts.specs.Posts.{IsOut, IsKept}

module _ {P : Type 0} (wants : P → Want) (becomes : P → Option Reply → P) where
  -- nodes as they were made, by number
  pub record AreNodes (made : ℕ → ℕ → Option P) (s : Setup) (xs : List (Noted P)) : Type 0 where
    pub setup : IsSetup s
    pub count : length xs ≡ s.opening.nodes
    pub node : (n : ℕ) (x : Noted P) → slice_get xs n ≡ Some x → Stands wants becomes (made (n + 1)) (given s (n + 1)) x (first_node (given s (n + 1)))
    pub log : (n : ℕ) (x : Noted P) → slice_get xs n ≡ Some x → x.log ≡ record { node = n + 1; events = [] }

  -- so many posts, of the nodes by number, of each of which all is known
  pub record ArePosts {G : Type 0} (limit : ℕ) (made : ℕ → ℕ → Option P) (s : Setup) (plan : List FateRow) (xs : List (Post P G)) : Type 0 where
    pub count : length xs ≡ s.opening.nodes
    pub fault : (n : ℕ) (x : Post P G) → slice_get xs n ≡ Some x → x.fault ≡ None
    pub kept : (n : ℕ) (x : Post P G) → slice_get xs n ≡ Some x → IsKept wants becomes limit (made (n + 1)) s plan (n + 1) x

  -- whatever these nodes are made of and whatever the last tick is, the posts are of them
  abbrev pub ArePostsOf : {G : Type 0} → List (Noted P) → List FateRow → List (Post P G) → Type 0
  ArePostsOf xs plan posts = (limit : ℕ) → 1 ≤ limit → (made : ℕ → ℕ → Option P) (s : Setup) → AreNodes made s xs → ArePosts limit made s plan posts

-- the end at this node of the link to that one, and the end there, are of one ring
abbrev pub IsRing : {P G : Type 0} → ℕ → ℕ → Post P G → Post P G → Type 0
IsRing from to x y =
    (o : WireOut) (i : WireIn) → slice_get x.outs.items (place_of from to) ≡ Some o → slice_get y.ins.items (place_of to from) ≡ Some i → AreEnds o i

-- the ends of each two posts are
abbrev pub AreRings : {P G : Type 0} → List (Post P G) → Type 0
AreRings {P} {G} xs =
    (a b : ℕ) (x y : Post P G) → a ≢ b → slice_get xs a ≡ Some x → slice_get xs b ≡ Some y → IsRing (a + 1) (b + 1) x y

-- the two ends of a link on which nothing was sent
pub record IsNewLink (plan : List FateRow) (from to : ℕ) (o : WireOut) (i : WireIn) : Type 0 where
  pub ends : AreEnds o i
  pub unused : AreUnused o i
  pub link : IsOfLink plan from to o

module _ {P G : Type 0} where
  -- a node without any ends
  pub record IsAlone (node : Noted P) (x : Post P G) : Type 0 where
    pub node_is : x.node ≡ node
    pub ins : x.ins.items ≡ []
    pub outs : x.outs.items ≡ []
    pub own : x.own ≡ empty_link
    pub notices : x.notices.items ≡ []
    pub fault : x.fault ≡ None

  -- the same post, with one end more of each kind
  pub record HasEnds (o : WireOut) (i : WireIn) (old new : Post P G) : Type 0 where
    pub outs : new.outs.items ≡ old.outs.items ++ o ∷ []
    pub ins : new.ins.items ≡ old.ins.items ++ i ∷ []
    pub node : new.node ≡ old.node
    pub own : new.own ≡ old.own
    pub notices : new.notices.items ≡ old.notices.items
    pub fault : new.fault ≡ old.fault

  -- two posts got the ends of the links between them
  pub record IsJoined (plan : List FateRow) (a b x y : Post P G) : Type 0 where
    pub out : WireOut
    pub into : WireIn
    pub back : WireOut
    pub from : WireIn
    pub there : IsNewLink plan a.node.log.node b.node.log.node out into
    pub here : IsNewLink plan b.node.log.node a.node.log.node back from
    pub first : HasEnds out from a x
    pub second : HasEnds back into b y

  -- a post at which nothing was done yet, of the node at a place, with its ends of the links between it and so many others
  pub record IsFirst (plan : List FateRow) (many k : ℕ) (x : Post P G) : Type 0 where
    pub number : x.node.log.node ≡ k + 1
    pub own : x.own ≡ empty_link
    pub notices : x.notices.items ≡ []
    pub fault : x.fault ≡ None
    pub outs_many : length x.outs.items ≡ many
    pub ins_many : length x.ins.items ≡ many
    pub outs : (at : ℕ) (o : WireOut) → slice_get x.outs.items at ≡ Some o → IsOut plan (k + 1) (other_at (k + 1) at) [] o
    pub ins : (at : ℕ) (i : WireIn) → slice_get x.ins.items at ≡ Some i → taken i ≡ []

  -- so is each of these posts, and the ends of each two are of one ring
  pub record AreJoined (plan : List FateRow) (xs : List (Post P G)) : Type 0 where
    pub each : (k : ℕ) (x : Post P G) → slice_get xs k ≡ Some x → IsFirst plan (length xs - 1) k x
    pub rings : AreRings xs

  -- with one post more, of this node; the nodes of the others are theirs
  pub record AreJoinedWith (plan : List FateRow) (node : Noted P) (olds news : List (Post P G)) (post : Post P G) : Type 0 where
    pub joined : AreJoined plan (news ++ post ∷ [])
    pub node_is : post.node ≡ node
    pub nodes : map (λ x. x.node) news ≡ map (λ x. x.node) olds
