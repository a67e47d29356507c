-- Nodes as they were made stand for the first world.
use Rattle.std.proofs.Common.{◌≡◌, ℕ, zero, suc, ◌+◌, false, ◌⊎◌, Option, Some, None, List, [], ◌∷◌, ◌++◌, map, length, inl, inr, refl, sym, ap, subst, ◌∙◌, arith}
use Rattle.std.specs.Prelude.{slice_get, All, IsSomeAnd}
use Rattle.std.proofs.lemmas.List.Elements.{All-nil}
use Rattle.dom_history.specs.declared.op.Reply.{Reply}
use Rattle.dom_history.specs.declared.op.Want.{Want}
use Rattle.dom_history.specs.declared.plan.FateRow.{FateRow}
use Rattle.dom_history.specs.Plans.{IsPlan}
use Rattle.node_runs.specs.Setups.{Setup, given}
use Rattle.node_runs.specs.NodeStates.{first_node}
use Rattle.node_runs.specs.Runs.{first_world}
use Rattle.ring_links.specs.Carried.{empty_link}
use Rattle.node_core.specs.Nodes.{Noted}
use Rattle.node_core.specs.Nodes as nodes
use Rattle.ended_nodes.proofs.Elements.{behind}
use Rattle.ring_links.specs.declared.notice.Notice.{Notice}
use Rattle.world_core.specs.declared.station.LinkFrom.{LinkFrom}
use Rattle.world_core.specs.declared.station.Station.{Station}
use Rattle.world_core.specs.declared.world.World.{World}
use Rattle.ring_links.specs.Notices.{notice_what}
use Rattle.world_core.specs.Firsts.{first_links, IsFirst}
use Rattle.world_core.specs.Stands.{AreNodes, Stands, IsStation, IsLink, IsNoticeOf}

one_more : {A : Type 0} (xs : List A) (y x : A) (k : ℕ) → slice_get (xs ++ y ∷ []) k ≡ Some x → (slice_get xs k ≡ Some x) ⊎ ((k ≡ length xs) × (x ≡ y))
one_more [] y x zero e = inr (refl, cc)
one_more [] y x (suc k) e = absurd (cc)
one_more (z ∷ xs) y x zero e = inl e
one_more (z ∷ xs) y x (suc k) e = elim (one_more xs y x k e) [
  | inl here ↦ inl here
  | inr last ↦ inr (ap suc last.0, last.1)
]

longer : {A : Type 0} (xs : List A) (y : A) → length (xs ++ y ∷ []) ≡ suc (length xs)
longer [] y = refl
longer (x ∷ xs) y = ap suc (longer xs y)

front-one : {A : Type 0} (T : A → Type 0) (xs : List A) (x : A) (n : ℕ) → IsSomeAnd (slice_get xs n) T → IsSomeAnd (slice_get (xs ++ x ∷ []) n) T
front-one T [] x n is = absurd is
front-one T (y ∷ xs) x zero is = is
front-one T (y ∷ xs) x (suc n) is = front-one T xs x n is

-- one node more
pub first-more : {P G : Type 0} (nodes : ℕ) (made : List (Noted P)) (ys : List (Station P G)) (x : Noted P) (y : Station P G) → length ys ≡ length made
    → ((n : ℕ) (z : Station P G) → slice_get ys n ≡ Some z → IsSomeAnd (slice_get made n) (λ m. IsFirst nodes m z)) → IsFirst nodes x y
    → (length (ys ++ y ∷ []) ≡ length (made ++ x ∷ [])) × ((n : ℕ) (z : Station P G) → slice_get (ys ++ y ∷ []) n ≡ Some z → IsSomeAnd (slice_get (made ++ x ∷ []) n) (λ m. IsFirst nodes m z))
first-more {P} nodes made ys x y many each is = (
  longer ys y ∙ ap suc many ∙ sym (longer made x),
  λ n z e. elim (one_more ys y z n e) [
    | inl here ↦ front-one (λ m. IsFirst nodes m z) made x n (each n z here)
    | inr last ↦
        subst (λ (k : ℕ). IsSomeAnd (slice_get (made ++ x ∷ []) k) (λ m. IsFirst nodes m z)) (sym (last.0 ∙ many))
        (subst (λ (o : Option (Noted P)). IsSomeAnd o (λ m. IsFirst nodes m z)) (sym (behind made x [])) (subst (IsFirst nodes x) (sym last.1) is))
  ],
)

pub many-links : (n : ℕ) → length (first_links n) ≡ n
many-links zero = refl
many-links (suc n) = longer (first_links n) (record { from = suc n; link = empty_link }) ∙ ap suc (many-links n)

abbrev link_from : ℕ → LinkFrom
link_from from = record { from = from; link = empty_link }

pub first-link : (n k : ℕ) (l : LinkFrom) → slice_get (first_links n) k ≡ Some l → l ≡ record { from = k + 1; link = empty_link }
first-link zero k l e = absurd (cc)
first-link (suc n) k l e = elim (one_more (first_links n) (record { from = suc n; link = empty_link }) l k e) [
  | inl here ↦ first-link n k l here
  | inr last ↦ last.1 ∙ ap link_from (let count = many-links n in omega (arith, count, last.0))
]

module _ {P G : Type 0} (wants : P → Want) (becomes : P → Option Reply → P) (made : ℕ → ℕ → Option P) (s : Setup) (xs : List (Noted P)) (are : AreNodes wants becomes made s xs) where
  first-station : (plan : List FateRow) (n : ℕ) (x : Noted P) (y : Station P G) → slice_get xs n ≡ Some x → IsFirst s.opening.nodes x y
      → IsStation wants becomes made s plan (first_world s) (n + 1) y
  first-station plan n x y at is = record {
    node = subst (λ (z : Noted P). nodes.Stands wants becomes (made (n + 1)) (given s (n + 1)) z (first_node (given s (n + 1)))) (sym is.node) (are.node n x at);
    log = ap (λ (z : Noted P). z.log) is.node ∙ are.log n x at;
    links = ap length is.ins ∙ many-links s.opening.nodes;
    silent = λ from above. refl;
    link = λ from l e. subst (λ (z : LinkFrom). IsLink plan (first_world s) (from + 1) (n + 1) z)
        (sym (first-link s.opening.nodes from l (subst (λ (ls : List LinkFrom). slice_get ls from ≡ Some l) is.ins e)))
        (record { from_is = refl; waits = refl; frames = record { frames = refl; queue = All-nil _; later = All-nil _ }; marks = All-nil _ });
    notices = ap (map notice_what) is.notices;
    told = subst (λ (ns : List Notice). All (IsNoticeOf (first_world s) (n + 1)) ns) (sym is.notices) (All-nil (IsNoticeOf (first_world s) (n + 1)));
    listed = is.listed;
  }

  pub first-stands : (x : World P G) → x.spent ≡ false → IsPlan x.plan → length x.stations.items ≡ length xs
      → ((n : ℕ) (y : Station P G) → slice_get x.stations.items n ≡ Some y → IsSomeAnd (slice_get xs n) (λ z. IsFirst s.opening.nodes z y))
      → Stands wants becomes made s x (first_world s)
  first-stands x whole plan many each = record {
    whole = whole;
    setup = are.setup;
    plan = plan;
    choices = [];
    turns = refl;
    timely = λ n. omega arith;
    count = many ∙ are.count;
    station = λ n y e. by-some n y (slice_get xs n) refl (each n y e);
  }
    where
      by-some : (n : ℕ) (y : Station P G) (o : Option (Noted P)) → slice_get xs n ≡ o → IsSomeAnd o (λ z. IsFirst s.opening.nodes z y) → IsStation wants becomes made s x.plan (first_world s) (n + 1) y
      by-some n y (Some z) at is = first-station x.plan n z y at is
      by-some n y None at is = absurd is
