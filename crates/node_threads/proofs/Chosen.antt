-- Posts that went on from those at the start, and what is known of each: as the laws of joined runs have it.
use Rattle.std.proofs.Common.{◌≡◌, ◌≢◌, ℕ, zero, suc, ◌+◌, ◌-◌, ◌<◌, ◌≤◌, Bool, true, cond, List, [], ◌∷◌, ◌++◌, length, Some, inl, inr, refl, sym, ap, subst, ◌∙◌, append_assoc, arith}
use Rattle.std.specs.Prelude.{◌⊎◌, slice_get}
use Rattle.std.specs.List.{AllByRecursion}
use Rattle.std.proofs.lemmas.Bool.{cases_eq, cases_lt, eq-eqb, ne_eqb}
use Rattle.std.proofs.lemmas.Bool.Decides.{nat_tests}
use Rattle.uid_names.proofs.ListLemmas.{get-within}
use Rattle.dom_history.specs.declared.plan.FateRow.{FateRow}
use Rattle.dom_history.specs.Objects.{is_node}
use Rattle.dom_history.specs.Plans.{fate_of}
use Rattle.fault_handler.specs.Desks.{IsNode}
use Rattle.node_runs.specs.Setups.{Setup}
use Rattle.wire_links.specs.declared.carried.Carried.{Carried}
use Rattle.wire_links.specs.Carrying.{wire_after}
use Rattle.wire_links.specs.Wires.{pushed, taken}
use Rattle.local_runs.specs.Posts.{Serving, IsServed, Numbered, idle, post_of, IsPrefix as IsPrefixOf, AreServed}
use Rattle.node_posts.specs.declared.post.Post.{Post}
use Rattle.node_posts.specs.Ends.{other_at, place_of}
use Rattle.node_posts.specs.Posts.{IsKnown}
use Rattle.node_posts.proofs.Placing.{other-place, place-within}
use Rattle.node_threads.specs.Joined.{AreBeside}

node-is : (s : Setup) (n : ℕ) → 1 ≤ n → n ≤ s.opening.nodes → is_node s.opening n ≡ true
node-is s n low high = grind (arith, nat_tests, low, high)

-- so many posts, by number, each with its serving
module _ (s : Setup) (P : ℕ → Serving) where
  abbrev pub numbered_posts : ℕ → List Numbered
  numbered_posts zero = []
  numbered_posts (suc k) = record { node = k + 1; post = P k } ∷ numbered_posts k

  pub post-at : (count k : ℕ) → k < count → post_of s (numbered_posts count) (k + 1) ≡ P k
  post-at zero k within = absurd (omega (arith, within))
  post-at (suc j) k within = elim (cases_eq (j + 1) (k + 1)) [
    | inl same ↦
        let e : j ≡ k = omega (arith, same) in
        ap (λ (b : Bool). cond b (P j) (post_of s (numbered_posts j) (k + 1))) (eq-eqb (j + 1) (k + 1) same) ∙ ap P e
    | inr differs ↦
        ap (λ (b : Bool). cond b (P j) (post_of s (numbered_posts j) (k + 1))) (ne_eqb (j + 1) (k + 1) differs)
        ∙ post-at j k (below_last j k within differs)
  ]
    where
      below_last : (i m : ℕ) → m < suc i → i + 1 ≢ m + 1 → m < i
      below_last i m high apart = elim (cases_lt m i) [ inl low ↦ low | inr other ↦ absurd (apart (omega (arith, high, other))) ]

  pub no-post : (count n : ℕ) → (1 ≤ n → n ≤ count → ⊥) → post_of s (numbered_posts count) n ≡ idle s
  no-post zero n none = refl
  no-post (suc j) n none = elim (cases_eq (j + 1) n) [
    | inl same ↦ absurd (none (omega (arith, same)) (omega (arith, same)))
    | inr differs ↦
        ap (λ (b : Bool). cond b (P j) (post_of s (numbered_posts j) n)) (ne_eqb (j + 1) n differs)
        ∙ no-post j n (λ low high. none low (omega (arith, high)))
  ]

  pub all-numbered : (Q : Numbered → Type 0) (count : ℕ) → ((k : ℕ) → k < count → Q (record { node = k + 1; post = P k })) → AllByRecursion Q (numbered_posts count)
  all-numbered Q zero each = tt
  all-numbered Q (suc j) each = (each j (omega arith), all-numbered Q j (λ k within. each k (omega (arith, within))))

-- posts by number, of each of which a serving is known, with both ends of each link in one hand
module _ {Pr G : Type 0} (s : Setup) (plan : List FateRow) (posts : List (Post Pr G)) (count : length posts ≡ s.opening.nodes)
    (P : ℕ → Serving) (known : (k : ℕ) (x : Post Pr G) → slice_get posts k ≡ Some x → IsKnown s plan (k + 1) (P k) x)
    (ends : (k : ℕ) (x : Post Pr G) → slice_get posts k ≡ Some x → (length x.ins.items + 1 ≡ s.opening.nodes) × (length x.outs.items + 1 ≡ s.opening.nodes))
    (beside : AreBeside posts) where
  abbrev pub served : List Numbered
  served = numbered_posts s P s.opening.nodes

  abbrev there : (k : ℕ) → k < s.opening.nodes → (x : Post Pr G) × (slice_get posts k ≡ Some x)
  there k within = get-within posts k (omega (arith, within, count))

  -- on the link between two posts
  joined : (a b : ℕ) → a ≢ b → a < s.opening.nodes → b < s.opening.nodes → IsPrefixOf plan (a + 1) (b + 1) (P a) (P b)
  joined a b differ a-node b-node =
      let x = there a a-node in
      let y = there b b-node in
      let apart : a + 1 ≢ b + 1 = λ same. differ (omega (arith, same)) in
      let back : b + 1 ≢ a + 1 = λ same. differ (omega (arith, same)) in
      let x-many = ends a x.0 x.1 in
      let y-many = ends b y.0 y.1 in
      let x-node : IsNode s.opening.nodes (a + 1) = (omega arith, omega (arith, a-node)) in
      let y-node : IsNode s.opening.nodes (b + 1) = (omega arith, omega (arith, b-node)) in
      let o = get-within x.0.outs.items (place_of (a + 1) (b + 1)) (place-within (a + 1) s.opening.nodes (length x.0.outs.items) (b + 1) x-many.1 x-node y-node back) in
      let i = get-within y.0.ins.items (place_of (b + 1) (a + 1)) (place-within (b + 1) s.opening.nodes (length y.0.ins.items) (a + 1) y-many.0 y-node x-node apart) in
      let fifo = beside a b x.0 y.0 differ x.1 y.1 o.0 i.0 o.1 i.1 in
      let gone = (known a x.0 x.1).outs (place_of (a + 1) (b + 1)) o.0 o.1 in
      let come = (known b y.0 y.1).ins (place_of (b + 1) (a + 1)) i.0 i.1 in
      let to : other_at (a + 1) (place_of (a + 1) (b + 1)) ≡ b + 1 = other-place (a + 1) (b + 1) (omega arith) (omega arith) back in
      let from : other_at (b + 1) (place_of (b + 1) (a + 1)) ≡ a + 1 = other-place (b + 1) (a + 1) (omega arith) (omega arith) apart in
      let put : (wire_after (fate_of plan (a + 1) (b + 1)) ((P a).outs (b + 1))).put ≡ pushed o.0 ++ gone.rest =
      subst (λ (n : ℕ). (wire_after (fate_of plan (a + 1) n) ((P a).outs n)).put ≡ pushed o.0 ++ gone.rest) to gone.put in
      let came : taken i.0 ≡ (P b).ins (a + 1) ++ come.rest = subst (λ (n : ℕ). taken i.0 ≡ (P b).ins n ++ come.rest) from come.came in
      record {
        rest = (come.rest ++ fifo.0) ++ gone.rest;
        put = put ∙ (ap (λ (xs : List Carried). xs ++ gone.rest) (sym fifo.1 ∙ (ap (λ (xs : List Carried). xs ++ fifo.0) came ∙ append_assoc ((P b).ins (a + 1)) come.rest fifo.0))
            ∙ append_assoc ((P b).ins (a + 1)) (come.rest ++ fifo.0) gone.rest);
      }

  -- what is no node put nothing, and nothing came from it
  from-none : (from b : ℕ) → (IsNode s.opening.nodes from → ⊥) → b < s.opening.nodes → IsPrefixOf plan from (b + 1) (idle s) (P b)
  from-none from b none b-node =
      let y = there b b-node in
      record { rest = []; put = sym (ap (λ (xs : List Carried). xs ++ []) ((known b y.0 y.1).none from none)) }

  to-none : (from to : ℕ) (p : Serving) → IsPrefixOf plan from to p (idle s)
  to-none from to p = record { rest = (wire_after (fate_of plan from to) (p.outs to)).put; put = refl }

  node-or : (n : ℕ) → ((k : ℕ) × (n ≡ k + 1) × (k < s.opening.nodes)) ⊎ (1 ≤ n → n ≤ s.opening.nodes → ⊥)
  node-or n = elim (cases_lt 0 n) [
    | inl low ↦ elim (cases_lt s.opening.nodes n) [
      | inl above ↦ inr (λ l h. absurd (omega (arith, above, h)))
      | inr high ↦ inl (n - 1, omega (arith, low), omega (arith, low, high))
    ]
    | inr none ↦ inr (λ l h. absurd (omega (arith, none, l)))
  ]

  each-ring : (from to : ℕ) → from ≢ to → IsPrefixOf plan from to (post_of s served from) (post_of s served to)
  each-ring from to differ = elim (node-or to) [
    | inr no-to ↦ subst (λ (p : Serving). IsPrefixOf plan from to (post_of s served from) p) (sym (no-post s P s.opening.nodes to no-to)) (to-none from to (post_of s served from))
    | inl (b, to-is, b-node) ↦
        let at-to : post_of s served to ≡ P b = ap (post_of s served) to-is ∙ post-at s P s.opening.nodes b b-node in
        elim (node-or from) [
          | inr no-from ↦
              subst (λ (p : Serving). IsPrefixOf plan from to p (post_of s served to)) (sym (no-post s P s.opening.nodes from no-from))
              (subst (λ (p : Serving). IsPrefixOf plan from to (idle s) p) (sym at-to)
              (subst (λ (n : ℕ). IsPrefixOf plan from n (idle s) (P b)) (sym to-is) (from-none from b (λ is. no-from is.0 is.1) b-node)))
          | inl (a, from-is, a-node) ↦
              let at-from : post_of s served from ≡ P a = ap (post_of s served) from-is ∙ post-at s P s.opening.nodes a a-node in
              let apart : a ≢ b = λ same. differ (from-is ∙ (ap (λ (k : ℕ). k + 1) same ∙ sym to-is)) in
              subst (λ (p : Serving). IsPrefixOf plan from to p (post_of s served to)) (sym at-from)
              (subst (λ (p : Serving). IsPrefixOf plan from to (P a) p) (sym at-to)
              (subst (λ (n : ℕ). IsPrefixOf plan from n (P a) (P b)) (sym to-is)
              (subst (λ (n : ℕ). IsPrefixOf plan n (b + 1) (P a) (P b)) (sym from-is) (joined a b apart a-node b-node))))
        ]
  ]

  pub are-served : AreServed s plan served
  are-served = record {
    nodes = all-numbered s P (λ (p : Numbered). is_node s.opening p.node ≡ true) s.opening.nodes (λ k within. node-is s (k + 1) (omega arith) (omega (arith, within)));
    each = all-numbered s P (λ (p : Numbered). IsServed s plan p.node p.post) s.opening.nodes (λ k within. (let x = there k within in (known k x.0 x.1).served));
    rings = each-ring;
  }
