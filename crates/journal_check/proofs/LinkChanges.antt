-- What is kept of each link, change by change.
use Rattle.std.proofs.Common.{◌≡◌, ℕ, ◌*◌, Bool, true, false, Option, Some, List, length, refl, ap, sym, subst, ◌∙◌, arith}
use Rattle.std.specs.Prelude.{◌==◌, ◌&&◌, ◌||◌, IfSome, slice_set, Result, Ok, Err, OnOk}
use Rattle.std.proofs.Math.Bool.{and-false}
use Rattle.std.proofs.lemmas.Bool.Decides.{nat_tests}
use Rattle.std.proofs.lemmas.List.{length-set}
use Rattle.std.proofs.lemmas.Option.{same_Some}
use Rattle.uid_names.proofs.ListLemmas.{by_cases, get-within}
use Rattle.uid_names.proofs.Passed.{equal, left-true, right-true}
use Rattle.uid_names.proofs.Somes.{take-some}
use Rattle.dom_history.specs.declared.event.What.{What}
use Rattle.dom_history.specs.declared.event.What.TheVariants.{Begin, Go, Take, Notice, Ready, Mark}
use Rattle.ring_messages.specs.Bodies.{is_request}
use Rattle.ring_messages.specs.Frames.{Message}
use Rattle.fault_handler.specs.Desks.{IsNode}
use Rattle.node_runs.specs.Incomings.{Incoming}
use Rattle.node_core.specs.Receivings.{seen}
use Rattle.node_core.specs.declared.setup.Incoming as code
use Rattle.node_core.specs.declared.setup.Incoming.TheVariants as received
use Rattle.journal_check.proofs.LinkPlaces.{link-within, at-set, at-other, turned}
use Rattle.journal_check.specs.Links.{link_place, at_link}
use Rattle.journal_check.specs.Kept.{Kept, head_at, told_if}
use Rattle.journal_check.specs.declared.frames.Head.{Head}
use Rattle.journal_check.specs.declared.frames.Live.{Live}
use Rattle.journal_check.specs.Changes.{AreOfNodes, ChangeLinks, IsTold, IsSent, IsServed, tells, sent_if, served_if}

-- what a link has, where there are so many
pub link-there : {A : Type 0} (nodes from to : ℕ) (xs : List A) → length xs ≡ nodes * nodes → IsNode nodes from → IsNode nodes to → (x : A) × (at_link nodes from to xs ≡ Some x)
link-there nodes from to xs count sender receiver =
    let low = link-within nodes from to sender receiver in
    get-within xs (link_place nodes from to) (omega (arith, low, count))

-- what it has once they changed
pub record Changed (nodes from to : ℕ) (Changes : ℕ → ℕ → Kept → Kept → Type 0) (old : Kept) (new : List Kept) : Type 0 where
  pub kept : Kept
  pub there : at_link nodes from to new ≡ Some kept
  pub changes : Changes from to old kept

pub changed : (nodes from to : ℕ) (Changes : ℕ → ℕ → Kept → Kept → Type 0) (old new : List Kept) → length old ≡ nodes * nodes → ChangeLinks nodes Changes old new → IsNode nodes from → IsNode nodes to
    → (k : Kept) → at_link nodes from to old ≡ Some k → Changed nodes from to Changes k new
changed nodes from to Changes old new count change sender receiver k was =
    let x = link-there nodes from to new (change.count ∙ count) sender receiver in
    record { kept = x.0; there = x.1; changes = take-some (Changes from to k) (at_link nodes from to new) x.0 x.1 (change.each from to sender receiver k was) }

-- as many links as before
pub of-nodes : (nodes : ℕ) (Changes : ℕ → ℕ → Kept → Kept → Type 0) (old new : List Kept) → AreOfNodes nodes old → ChangeLinks nodes Changes old new → AreOfNodes nodes new
of-nodes nodes Changes old new are changes = record { few = are.few; whole = changes.count ∙ are.whole }

module _ (nodes : ℕ) (Changes : ℕ → ℕ → Kept → Kept → Type 0) (old : List Kept) where
  -- no link changed
  pub none-changed : ((from to : ℕ) (k : Kept) → Changes from to k k) → ChangeLinks nodes Changes old old
  none-changed stays = record {
    count = refl;
    each = λ from to sender receiver k was. subst (λ (o : Option Kept). IfSome o (Changes from to k)) (sym was) (stays from to k);
  }

  -- one link changed, and the others stayed
  pub one-changed : (from to : ℕ) (y : Kept) → length old ≡ nodes * nodes → IsNode nodes from → IsNode nodes to → ((k : Kept) → at_link nodes from to old ≡ Some k → Changes from to k y)
      → ((a b : ℕ) (k : Kept) → ((a == from) && (b == to)) ≡ false → Changes a b k k) → ChangeLinks nodes Changes old (slice_set old (link_place nodes from to) y)
  one-changed from to y count sender receiver here others = record {
    count = length-set old (link_place nodes from to) y;
    each = λ a b ia ib k was.
        by_cases ((a == from) && (b == to)) (IfSome (at_link nodes a b (slice_set old (link_place nodes from to) y)) (Changes a b k))
        (λ same.
        let first : from ≡ a = sym (equal a from (left-true (a == from) (b == to) same)) in
        let second : to ≡ b = sym (equal b to (right-true (a == from) (b == to) same)) in
        subst (λ q. IfSome (at_link nodes a q (slice_set old (link_place nodes from to) y)) (Changes a q k)) second
        (subst (λ p. IfSome (at_link nodes p to (slice_set old (link_place nodes from to) y)) (Changes p to k)) first
        (subst (λ (o : Option Kept). IfSome o (Changes from to k)) (sym (at-set nodes from to old y count sender receiver))
        (here k (ap (λ p. at_link nodes p to old) first ∙ (ap (λ q. at_link nodes a q old) second ∙ was))))))
        (λ apart. subst (λ (o : Option Kept). IfSome o (Changes a b k)) (sym (at-other nodes from to old y count sender receiver a b ia ib apart ∙ was)) (others a b k apart));
  }

self-true : (a b : ℕ) → ((a == a) && (b == b)) ≡ true
self-true a b = grind (arith, nat_tests)

module _ (nodes : ℕ) (old : List Kept) (count : length old ≡ nodes * nodes) (from to : ℕ) (sender : IsNode nodes from) (receiver : IsNode nodes to) (was : Kept) (there : at_link nodes from to old ≡ Some was) where
  -- the frame of a Notice was told
  told-test : (p index a b i : ℕ) → tells (Notice p from to index) (a, b, i) ≡ ((a == from) && ((b == to) && (i == index)))
  told-test p index a b i = by ((a == from) && ((b == to) && (i == index)))
    where
      by : (t : Bool) → (t || false) ≡ t
      by true = refl
      by false = refl

  pub told-one : (p index : ℕ) (y : Kept) → length y.heads ≡ length was.heads → ((i : ℕ) → head_at i y.heads ≡ told_if (i == index) (head_at i was.heads)) → y.live ≡ was.live
      → ChangeLinks nodes (IsTold (Notice p from to index)) old (slice_set old (link_place nodes from to) y)
  told-one p index y many heads live =
      one-changed nodes (IsTold (Notice p from to index)) old from to y count sender receiver
      (λ k is.
      let same : was ≡ k = same_Some was k (sym there ∙ is) in
      subst (λ (x : Kept). IsTold (Notice p from to index) from to x y) same (record {
        count = many;
        heads = λ i. heads i ∙ ap (λ t. told_if t (head_at i was.heads)) (sym (told-test p index from to i ∙ own i));
        live = live;
      }))
      (λ a b k apart. record {
        count = refl;
        heads = λ i. sym (ap (λ t. told_if t (head_at i k.heads)) (told-test p index a b i ∙ away a b i apart));
        live = refl;
      })
    where
      own : (i : ℕ) → ((from == from) && ((to == to) && (i == index))) ≡ (i == index)
      own i = by (from == from) (to == to) (left-true (from == from) (to == to) (self-true from to)) (right-true (from == from) (to == to) (self-true from to))
        where
          by : (s t : Bool) → s ≡ true → t ≡ true → (s && (t && (i == index))) ≡ (i == index)
          by true true first second = refl
          by true false first second = absurd (cc)
          by false t first second = absurd (cc)

      away : (a b i : ℕ) → ((a == from) && (b == to)) ≡ false → ((a == from) && ((b == to) && (i == index))) ≡ false
      away a b i apart = by (a == from) (b == to) apart
        where
          by : (s t : Bool) → (s && t) ≡ false → (s && (t && (i == index))) ≡ false
          by false t other = refl
          by true false other = refl
          by true true other = absurd (cc)

-- nothing was told
pub told-nothing : (nodes : ℕ) (old : List Kept) (what : What) → ((p from to index : ℕ) → what ≡ Notice p from to index → ⊥) → ChangeLinks nodes (IsTold what) old old
told-nothing nodes old (Begin p) other = none-changed nodes (IsTold (Begin p)) old (λ a b k. record { count = refl; heads = λ i. refl; live = refl })
told-nothing nodes old (Go p) other = none-changed nodes (IsTold (Go p)) old (λ a b k. record { count = refl; heads = λ i. refl; live = refl })
told-nothing nodes old (Take sender index) other = none-changed nodes (IsTold (Take sender index)) old (λ a b k. record { count = refl; heads = λ i. refl; live = refl })
told-nothing nodes old (Notice p from to index) other = absurd (other p from to index refl)
told-nothing nodes old (Ready phase) other = none-changed nodes (IsTold (Ready phase)) old (λ a b k. record { count = refl; heads = λ i. refl; live = refl })
told-nothing nodes old (Mark sender phase) other = none-changed nodes (IsTold (Mark sender phase)) old (λ a b k. record { count = refl; heads = λ i. refl; live = refl })

-- what is kept, by its parts
pub kept-is : (y : Kept) (hs : List Head) (ls : List Live) → y.heads ≡ hs → y.live ≡ ls → y ≡ record { heads = hs; live = ls }
kept-is y hs ls heads live = ap (λ (xs : List Head). let k : Kept = record { heads = xs; live = y.live } in k) heads ∙ ap (λ (xs : List Live). let k : Kept = record { heads = hs; live = xs } in k) live

-- what follows of two things where a call went well
pub both-ok : {T E A B C : Type 0} (r : Result T E) → OnOk r A → OnOk r B → (A → B → C) → OnOk r C
both-ok (Ok x) a b f = f a b
both-ok (Err e) a b f = tt

-- a frame was sent on its link
pub sent-one : (nodes : ℕ) (old : List Kept) (index : ℕ) (m : Message) (was y : Kept) → length old ≡ nodes * nodes → IsNode nodes m.from → IsNode nodes m.to → at_link nodes m.from m.to old ≡ Some was → y ≡ sent_if true m was
    → ChangeLinks nodes (IsSent (Some (index, m))) old (slice_set old (link_place nodes m.from m.to) y)
sent-one nodes old index m was y count sender receiver there is =
    one-changed nodes (IsSent (Some (index, m))) old m.from m.to y count sender receiver
    (λ k same. is ∙ (ap (sent_if true m) (same_Some was k (sym there ∙ same)) ∙ ap (λ t. sent_if t m k) (sym (self-true m.from m.to))))
    (λ a b k apart. sym (ap (λ t. sent_if t m k) (turned m.from a m.to b ∙ apart)))

-- requests that were decided went from the link of one that was taken
pub served-one : (nodes : ℕ) (old : List Kept) (m : Message) (was y : Kept) → length old ≡ nodes * nodes → IsNode nodes m.from → IsNode nodes m.to → at_link nodes m.from m.to old ≡ Some was → is_request m.body ≡ true → y ≡ served_if true m was
    → ChangeLinks nodes (IsServed (Incoming.Frame m)) old (slice_set old (link_place nodes m.from m.to) y)
served-one nodes old m was y count sender receiver there asks is =
    one-changed nodes (IsServed (Incoming.Frame m)) old m.from m.to y count sender receiver
    (λ k same. is ∙ (ap (served_if true m) (same_Some was k (sym there ∙ same)) ∙ ap (λ t. served_if t m k) (sym (ap (λ b. b && ((m.from == m.from) && (m.to == m.to))) asks ∙ self-true m.from m.to))))
    (λ a b k apart. sym (ap (λ t. served_if t m k) (ap (λ t. is_request m.body && t) (turned m.from a m.to b ∙ apart) ∙ and-false (is_request m.body))))

-- nothing goes for an answer, or for a frame of no link between nodes
pub served-none : (nodes : ℕ) (old : List Kept) (m : Message) → is_request m.body ≡ false → ChangeLinks nodes (IsServed (Incoming.Frame m)) old old
served-none nodes old m answers =
    none-changed nodes (IsServed (Incoming.Frame m)) old (λ a b k. sym (ap (λ t. served_if (t && ((m.from == a) && (m.to == b))) m k) answers))

pub served-nowhere : (nodes : ℕ) (old : List Kept) (m : Message) → (IsNode nodes m.from × IsNode nodes m.to → ⊥) → ChangeLinks nodes (IsServed (Incoming.Frame m)) old old
served-nowhere nodes old m nowhere = record {
  count = refl;
  each = λ a b ia ib k was.
      let other : ((m.from == a) && (m.to == b)) ≡ false = away a b ia ib in
      subst (λ (o : Option Kept). IfSome o (IsServed (Incoming.Frame m) a b k)) (sym was)
      (sym (ap (λ t. served_if t m k) (ap (λ t. is_request m.body && t) other ∙ and-false (is_request m.body))));
}
  where
    away : (a b : ℕ) → IsNode nodes a → IsNode nodes b → ((m.from == a) && (m.to == b)) ≡ false
    away a b ia ib = by_cases ((m.from == a) && (m.to == b)) (((m.from == a) && (m.to == b)) ≡ false)
        (λ same. absurd (nowhere (
          subst (IsNode nodes) (sym (equal m.from a (left-true (m.from == a) (m.to == b) same))) ia,
          subst (IsNode nodes) (sym (equal m.to b (right-true (m.from == a) (m.to == b) same))) ib,
        )))
        (λ other. other)

-- nor where no frame is taken
pub served-other : (nodes : ℕ) (old : List Kept) (i : code.Incoming) → ((m : Message) → i ≡ received.Frame m → ⊥) → ChangeLinks nodes (IsServed (seen i)) old old
served-other nodes old received.Nothing other = none-changed nodes (IsServed Incoming.Nothing) old (λ a b k. refl)
served-other nodes old (received.Frame m) other = absurd (other m refl)
served-other nodes old (received.Gone number tick) other = none-changed nodes (IsServed (Incoming.Gone number tick)) old (λ a b k. refl)
served-other nodes old (received.Mark tick) other = none-changed nodes (IsServed (Incoming.Mark tick)) old (λ a b k. refl)
