-- What an event emits can be sent: its nodes are there, and so are the links, on which few frames were sent.
use Rattle.std.proofs.Common.{◌≡◌, ℕ, ◌+◌, ◌-◌, ◌<◌, ◌≤◌, Bool, true, false, cond, Option, Some, None, IfSome, List, [], ◌∷◌, length, inl, inr, refl, sym, ap, subst, ◌∙◌, arith}
use Rattle.std.specs.Prelude.{◌==◌, ◌^◌, if◌then◌else◌, slice_get, slice_set, All}
use Rattle.std.proofs.lemmas.Bool.{cases_eq}
use Rattle.std.proofs.lemmas.Option.{slice_get_within}
use Rattle.uid_names.proofs.ListLemmas.{set-there, set-else}
use Rattle.dom_history.specs.declared.op.Reply.{Reply}
use Rattle.dom_history.specs.declared.op.Want.{Want}
use Rattle.dom_history.specs.declared.event.Sent.{Sent}
use Rattle.dom_history.specs.Events.{Happening}
use Rattle.ring_messages.specs.Bodies.{is_request}
use Rattle.ring_messages.specs.Frames.{Message, caller_of}
use Rattle.fault_handler.specs.Desks.{IsNode}
use Rattle.node_runs.specs.Setups.{Setup}
use Rattle.node_runs.specs.Runs as runs
use Rattle.world_runs.specs.Sendings.{frame_to, sent_by, sendings, frames_in, frames_on}
use Rattle.world_runs.specs.Links as links
use Rattle.world_runs.proofs.Linking.{turns-link}
use Rattle.world_runs.proofs.Sent.{IsSent}
use Rattle.world_runs.proofs.Taking.{frames-append, one-frame, of-node}
use Rattle.node_core.specs.Receivings.{indexed}
use Rattle.world_core.specs.declared.coming.Source as source
use Rattle.world_core.specs.declared.coming.Source.TheVariants as sources
use Rattle.world_core.specs.declared.station.LinkFrom.{LinkFrom}
use Rattle.world_core.specs.declared.station.Station.{Station}
use Rattle.world_core.specs.declared.world.World.{World}
use Rattle.world_core.specs.Listed.{link_less, less_at, ins_less}
use Rattle.world_core.specs.Stands.{Stands}
use Rattle.world_core.proofs.Counting.{done-few}
use Rattle.ended_nodes.proofs.Elements.{all_at, some_if}
use Rattle.world_core.proofs.Marked.{set_many}

-- the nodes of a frame that is sent
caller-low : (b : Bool) (from to count : ℕ) → from - 1 < count → to - 1 < count → (if b then from else to) - 1 < count
caller-low true from to count a b = a
caller-low false from to count a b = b

pub sent-nodes : (nodes count tick : ℕ) → count ≡ nodes → (f : Option Message) (x : Option Sent) → IsSent tick f x → IfSome f (λ m. IsNode nodes m.from) → IfSome x (λ sent. IsNode nodes sent.to)
    → IfSome (indexed f x) (λ sent. (sent.1.to - 1 < count) × ((caller_of sent.1).node - 1 < count))
sent-nodes nodes count tick same None None is from to = tt
sent-nodes nodes count tick same None (Some x) is from to = tt
sent-nodes nodes count tick same (Some m) None is from to = tt
sent-nodes nodes count tick same (Some m) (Some x) is from to =
    let goes = is.1 in
    let low = to.0 in
    let high = to.1 in
    let least = from.0 in
    let most = from.1 in
    let there : m.to - 1 < count = omega (arith, goes, low, high, same) in
    let here : m.from - 1 < count = omega (arith, least, most, same) in
    (there, caller-low (is_request m.body) m.from m.to count here there)

-- no more frames were sent on a link than events were done
low-if : (b : Bool) (k : ℕ) → k ≤ 1 → cond b k 0 ≤ 1
low-if true k low = low
low-if false k low = omega arith

one-if : (b : Bool) → cond b 1 0 ≤ 1
one-if true = omega arith
one-if false = omega arith

frame-few : (to : ℕ) (x : Option Sent) → frames_in (frame_to to x) ≤ 1
frame-few to None = omega arith
frame-few to (Some sent) = let one = one-frame (sent.to == to) in let low = one-if (sent.to == to) in omega (arith, one, low)

frames-few : (from to : ℕ) (es : List Happening) → frames_on from to es ≤ length es
frames-few from to [] = omega arith
frames-few from to (e ∷ es) =
    let both = frames-append (sent_by from to e) (sendings from to es) in
    let own = of-node (e.place.node == from) from to e in
    let low = low-if (e.place.node == from) (frames_in (frame_to to e.effects.sent)) (frame-few to e.effects.sent) in
    let rest = frames-few from to es in
    omega (arith, both, own, low, rest)

-- links of which the oldest entry is taken
pub record IsLinkLess (ins : List LinkFrom) (k : ℕ) (l : LinkFrom) : Type 0 where
  pub link : LinkFrom
  pub there : slice_get ins k ≡ Some link
  pub frames : l.link.frames ≡ link.link.frames

less-one : (ins : List LinkFrom) (i : ℕ) (o : Option LinkFrom) → slice_get ins i ≡ o → (k : ℕ) (l : LinkFrom) → slice_get (less_at i ins o) k ≡ Some l → IsLinkLess ins k l
less-one ins i None is k l e = record { link = l; there = e; frames = refl }
less-one ins i (Some d) is k l e = elim (cases_eq k i) [
  | inl same ↦
      (let set : slice_get (slice_set ins i (link_less d)) k ≡ Some (link_less d) = ap (slice_get (slice_set ins i (link_less d))) same ∙ set-there ins i (link_less d) (slice_get_within ins i d is) in
      let equal : l ≡ link_less d = cc in
      record { link = d; there = ap (slice_get ins) same ∙ is; frames = ap (λ (z : LinkFrom). z.link.frames) equal })
  | inr other ↦ record { link = l; there = sym (set-else ins i k (link_less d) other) ∙ e; frames = refl }
]

link-before : (from : source.Source) (ins : List LinkFrom) (k : ℕ) (l : LinkFrom) → slice_get (ins_less from ins) k ≡ Some l → IsLinkLess ins k l
link-before sources.Nothing ins k l e = record { link = l; there = e; frames = refl }
link-before (sources.Notice i) ins k l e = record { link = l; there = e; frames = refl }
link-before (sources.Link i) ins k l e = less-one ins i (slice_get ins i) refl k l e

many-one : (ins : List LinkFrom) (i : ℕ) (o : Option LinkFrom) → length (less_at i ins o) ≡ length ins
many-one ins i None = refl
many-one ins i (Some d) = set_many ins i (link_less d)

pub many-before : (from : source.Source) (ins : List LinkFrom) → length (ins_less from ins) ≡ length ins
many-before sources.Nothing ins = refl
many-before (sources.Notice i) ins = refl
many-before (sources.Link i) ins = many-one ins i (slice_get ins i)

-- what holds of each but one, and of what came in its place
all-set : {A : Type 0} (T : A → Type 0) (xs : List A) (i : ℕ) (y : A) → i < length xs → T y → ((k : ℕ) (x : A) → slice_get xs k ≡ Some x → T x) → All T (slice_set xs i y)
all-set T xs i y within here each = all_at T (slice_set xs i y) by-place
  where
    by-place : (k : ℕ) (x : _) → slice_get (slice_set xs i y) k ≡ Some x → T x
    by-place k x e = elim (cases_eq k i) [
      | inl same ↦
          (let set : slice_get (slice_set xs i y) k ≡ Some y = ap (slice_get (slice_set xs i y)) same ∙ set-there xs i y within in
          let equal : y ≡ x = cc in
          subst T equal here)
      | inr other ↦ each k x (sym (set-else xs i k y other) ∙ e)
    ]

module _ {P G : Type 0} (wants : P → Want) (becomes : P → Option Reply → P) (made : ℕ → ℕ → Option P) (s : Setup) (x : World P G) (w : runs.World) (stands : Stands wants becomes made s x w) where
  frames-low : (k : ℕ) (y : Station P G) → slice_get x.stations.items k ≡ Some y → (i : ℕ) (l : LinkFrom) → slice_get y.ins.items i ≡ Some l → l.link.frames < 2 ^ 63
  frames-low k y there i l e =
      let counted = ap (λ (z : links.Link). z.frames) ((stands.station k y there).link i l e).waits in
      let all = ((turns-link s stands.setup x.plan stands.choices w stands.turns stands.timely).links (i + 1) (k + 1)).frames in
      let few = frames-few (i + 1) (k + 1) w.done in
      let done = done-few wants becomes made s x w stands in
      omega (arith, counted, all, few, done)

  links-many : (k : ℕ) (y : Station P G) → slice_get x.stations.items k ≡ Some y → length y.ins.items ≡ length x.stations.items
  links-many k y there = (stands.station k y there).links ∙ sym stands.count

  module _ (i : ℕ) (old new : Station P G) (there : slice_get x.stations.items i ≡ Some old) (from : source.Source) (ins : new.ins.items ≡ ins_less from old.ins.items) where
    within : i < length x.stations.items
    within = slice_get_within x.stations.items i old there

    pub links-there : All (λ (z : Station P G). i < length z.ins.items) (slice_set x.stations.items i new)
    links-there =
        all-set (λ (z : Station P G). i < length z.ins.items) x.stations.items i new within
        (let many = ap length ins ∙ many-before from old.ins.items in let all = links-many i old there in let inside = within in omega (arith, many, all, inside))
        (λ k y e. let all = links-many k y e in let inside = within in omega (arith, all, inside))

    pub links-few : All (λ (z : Station P G). IfSome (slice_get z.ins.items i) (λ l. l.link.frames < 2 ^ 63)) (slice_set x.stations.items i new)
    links-few =
        all-set (λ (z : Station P G). IfSome (slice_get z.ins.items i) (λ l. l.link.frames < 2 ^ 63)) x.stations.items i new within
        (some_if (λ l. l.link.frames < 2 ^ 63) (slice_get new.ins.items i) (λ l e.
        (let is = link-before from old.ins.items i l (subst (λ (ls : List LinkFrom). slice_get ls i ≡ Some l) ins e) in
        let same = is.frames in let low = frames-low i old there i is.link is.there in omega (arith, same, low))))
        (λ k y e. some_if (λ l. l.link.frames < 2 ^ 63) (slice_get y.ins.items i) (λ l f. frames-low k y e i l f))
