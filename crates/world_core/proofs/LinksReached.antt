-- The links to a node after an event took from them, and what it sent came to them.
use Rattle.std.proofs.Common.{◌≡◌, ◌≢◌, ℕ, ◌+◌, Bool, true, false, Option, Some, None, List, length, inl, inr, refl, sym, ap, ◌∙◌, arith}
use Rattle.std.specs.Prelude.{◌==◌, ◌&&◌, slice_get, slice_set}
use Rattle.std.proofs.lemmas.Bool.{cases_eq, eq-eqb, ne_eqb}
use Rattle.std.proofs.lemmas.Option.{slice_get_within}
use Rattle.uid_names.proofs.ListLemmas.{set-there, set-else}
use Rattle.dom_history.specs.declared.event.What.{What}
use Rattle.dom_history.specs.declared.event.What.TheVariants as events
use Rattle.dom_history.specs.declared.plan.Fate.{Fate}
use Rattle.ring_messages.specs.Frames.{Message}
use Rattle.world_runs.specs.Waiting.{Entry, entry_if, entry_by}
use Rattle.ring_links.specs.declared.entry.Waiting.{Waiting}
use Rattle.ring_links.specs.declared.entry.Waiting.TheVariants.{Copy, Mark}
use Rattle.world_core.specs.declared.coming.Source as source
use Rattle.world_core.specs.declared.coming.Source.TheVariants as sources
use Rattle.ring_links.specs.declared.notice.Notice.{Notice}
use Rattle.world_core.specs.declared.station.LinkFrom.{LinkFrom}
use Rattle.world_core.specs.Stations.{what_of}
use Rattle.world_core.specs.Sending.{link_with, delivered_to, delivered, mark_with, marked_to, marked}
use Rattle.world_core.specs.Listed.{link_less, less_at, ins_less}
use Rattle.world_core.proofs.Marked.{set_many}
use Rattle.world_core.proofs.Sources.{IsTaken, IsStart, begins, goes_on, is_ready, IsFrom}
use Rattle.world_core.proofs.StationsAfter.{less}

-- one item of a list is changed, if it is there
abbrev pub changed : {A : Type 0} → (A → A) → ℕ → List A → Option A → List A
changed f i xs None = xs
changed f i xs (Some x) = slice_set xs i (f x)

-- what became of an item
pub data IsChanged {A : Type 0} (f : A → A) (i j : ℕ) (x y : A) : Type 0 where
  here : j ≡ i → y ≡ f x → IsChanged f i j x y
  elsewhere : j ≢ i → y ≡ x → IsChanged f i j x y

pub record WasChanged {A : Type 0} (f : A → A) (i j : ℕ) (xs : List A) (y : A) : Type 0 where
  pub item : A
  pub there : slice_get xs j ≡ Some item
  pub change : IsChanged f i j item y

module _ {A : Type 0} (f : A → A) (i : ℕ) (xs : List A) where
  pub changed-many : (r : Option A) → length (changed f i xs r) ≡ length xs
  changed-many None = refl
  changed-many (Some x) = set_many xs i (f x)

  pub changed-at : (r : Option A) (j : ℕ) (y : A) → slice_get xs i ≡ r → slice_get (changed f i xs r) j ≡ Some y → WasChanged f i j xs y
  changed-at None j y none e = elim (cases_eq j i) [
    | inl same ↦ absurd (let n = ap (slice_get xs) same ∙ none in cc)
    | inr differs ↦ record { item = y; there = e; change = elsewhere differs refl }
  ]
  changed-at (Some x) j y there e = elim (cases_eq j i) [
    | inl same ↦
        (let set = set-there xs i (f x) (slice_get_within xs i x there) in
        let read = ap (slice_get (slice_set xs i (f x))) same in
        record { item = x; there = ap (slice_get xs) same ∙ there; change = here same (let r = sym e ∙ read ∙ set in cc) })
    | inr differs ↦ record { item = y; there = sym (set-else xs i j (f x) differs) ∙ e; change = elsewhere differs refl }
  ]

-- a link that gets something, or of which the oldest entry is taken
pub delivered-is : (at : ℕ) (fate : Fate) (m : Message) (ins : List LinkFrom) → delivered at fate m ins ≡ changed (link_with fate m) at ins (slice_get ins at)
delivered-is at fate m ins = either (slice_get ins at)
  where
    either : (r : Option LinkFrom) → delivered_to at fate m ins r ≡ changed (link_with fate m) at ins r
    either None = refl
    either (Some l) = refl

pub marked-is : (at phase tick : ℕ) (ins : List LinkFrom) → marked at phase tick ins ≡ changed (mark_with phase tick) at ins (slice_get ins at)
marked-is at phase tick ins = either (slice_get ins at)
  where
    either : (r : Option LinkFrom) → marked_to at phase tick ins r ≡ changed (mark_with phase tick) at ins r
    either None = refl
    either (Some l) = refl

pub less-is : (i : ℕ) (ins : List LinkFrom) → less_at i ins (slice_get ins i) ≡ changed link_less i ins (slice_get ins i)
less-is i ins = either (slice_get ins i)
  where
    either : (r : Option LinkFrom) → less_at i ins r ≡ changed link_less i ins r
    either None = refl
    either (Some l) = refl

-- how many entries an event took from a link
abbrev pub took : ℕ → ℕ → ℕ → What → ℕ
took from to node what = length (entry_by from to node what)

not-both : (a b : Bool) (x : Entry) → a ≡ false → length (entry_if (a && b) x) ≡ 0
not-both false b x h = refl
not-both true b x h = absurd (cc)

not-second : (a b : Bool) (x : Entry) → b ≡ false → length (entry_if (a && b) x) ≡ 0
not-second true false x h = refl
not-second false false x h = refl
not-second a true x h = absurd (cc)

both : (a b : Bool) (x : Entry) → a ≡ true → b ≡ true → length (entry_if (a && b) x) ≡ 1
both true true x h i = refl
both false b x h i = absurd (cc)
both true false x h i = absurd (cc)

took-there : (from to node sender : ℕ) (waiting : Waiting) → sender ≡ from → node ≡ to → took from to node (what_of sender waiting) ≡ 1
took-there from to node sender (Copy index) h i = both (sender == from) (node == to) (Entry.Copy index) (eq-eqb sender from h) (eq-eqb node to i)
took-there from to node sender (Mark phase) h i = both (sender == from) (node == to) (Entry.Mark phase) (eq-eqb sender from h) (eq-eqb node to i)

took-else : (from to node sender : ℕ) (waiting : Waiting) → sender ≢ from → took from to node (what_of sender waiting) ≡ 0
took-else from to node sender (Copy index) h = not-both (sender == from) (node == to) (Entry.Copy index) (ne_eqb sender from h)
took-else from to node sender (Mark phase) h = not-both (sender == from) (node == to) (Entry.Mark phase) (ne_eqb sender from h)

took-away : (from to node : ℕ) (what : What) → node ≢ to → took from to node what ≡ 0
took-away from to node (events.Begin p) h = refl
took-away from to node (events.Go p) h = refl
took-away from to node (events.Take sender index) h = not-second (sender == from) (node == to) (Entry.Copy index) (ne_eqb node to h)
took-away from to node (events.Notice p a b index) h = refl
took-away from to node (events.Ready phase) h = refl
took-away from to node (events.Mark sender phase) h = not-second (sender == from) (node == to) (Entry.Mark phase) (ne_eqb node to h)

took-start : (from to node : ℕ) (what : What) → IsStart what → took from to node what ≡ 0
took-start from to node what (begins p) = refl
took-start from to node what (goes_on p) = refl
took-start from to node what (is_ready phase) = refl

-- each link is as it was, without what the event took from it
pub record IsLess (to node : ℕ) (what : What) (ins : List LinkFrom) (j : ℕ) (l : LinkFrom) : Type 0 where
  pub link : LinkFrom
  pub there : slice_get ins j ≡ Some link
  pub less_is : l ≡ less (took (j + 1) to node what) link

abbrev pub AreLess : ℕ → ℕ → What → List LinkFrom → List LinkFrom → Type 0
AreLess to node what ins mids = (j : ℕ) (l : LinkFrom) → slice_get mids j ≡ Some l → IsLess to node what ins j l

module _ (to node : ℕ) (what : What) (ins : List LinkFrom) where
  untaken : ((from : ℕ) → took from to node what ≡ 0) → AreLess to node what ins ins
  untaken none j l e = record { link = l; there = e; less_is = sym (ap (λ (k : ℕ). less k l) (none (j + 1))) }

  pub less-away : node ≢ to → AreLess to node what ins ins
  less-away differs = untaken (λ from. took-away from to node what differs)

  -- the links of the node whose event it is
  less-taken : (i : ℕ) → node ≡ to → ((l : LinkFrom) → slice_get ins i ≡ Some l → l.from ≡ i + 1) → IsTaken ins i what → AreLess to node what ins (less_at i ins (slice_get ins i))
  less-taken i same from-is taken j l e =
      let was = changed-at link_less i ins (slice_get ins i) j l refl (ap (λ (ls : List LinkFrom). slice_get ls j) (sym (less-is i ins)) ∙ e) in
      let sender : taken.link.from ≡ i + 1 = from-is taken.link taken.there in
      record { link = was.item; there = was.there; less_is = by-change was.item sender was.change }
    where
      by-change : (o : LinkFrom) → taken.link.from ≡ i + 1 → IsChanged link_less i j o l → l ≡ less (took (j + 1) to node what) o
      by-change o sender (here at is) =
          is ∙ sym (ap (λ (k : ℕ). less k o)
          (ap (took (j + 1) to node) taken.event ∙ took-there (j + 1) to node taken.link.from taken.waiting (sender ∙ ap (λ (k : ℕ). k + 1) (sym at)) same))
      by-change o sender (elsewhere away is) =
          is ∙ sym (ap (λ (k : ℕ). less k o)
          (ap (took (j + 1) to node) taken.event ∙ took-else (j + 1) to node taken.link.from taken.waiting (λ f. away (omega (arith, f, sender)))))

  pub less-own : (notices : List Notice) (src : source.Source) → node ≡ to → ((i : ℕ) (l : LinkFrom) → slice_get ins i ≡ Some l → l.from ≡ i + 1) → IsFrom notices ins what src
      → AreLess to node what ins (ins_less src ins)
  less-own notices sources.Nothing same from-is starts = untaken (λ from. took-start from to node what starts)
  less-own notices (sources.Notice i) same from-is noticed = untaken (λ from. ap (took from to node) noticed.event)
  less-own notices (sources.Link i) same from-is taken = less-taken i same (from-is i) taken

pub less-many : (src : source.Source) (ins : List LinkFrom) → length (ins_less src ins) ≡ length ins
less-many sources.Nothing ins = refl
less-many (sources.Notice i) ins = refl
less-many (sources.Link i) ins = ap length (less-is i ins) ∙ changed-many link_less i ins (slice_get ins i)
