-- The order of a link, as frames are sent and taken.
use Rattle.std.proofs.Common.{◌≡◌, ◌≢◌, ℕ, ◌+◌, Option, Some, None, List, [], ◌∷◌, ◌++◌, map, drop, inl, inr, refl, sym, ap, subst, ◌∙◌}
use Rattle.std.proofs.lemmas.Bool.{cases_eq}
use Rattle.std.proofs.lemmas.List.{append-nil, append_assoc, map-append}
use Rattle.dom_history.specs.declared.plan.Fate.{Fate}
use Rattle.node_runs.specs.Deliveries.{deliveries}
use Rattle.world_runs.specs.Waiting as plain
use Rattle.world_runs.specs.Waiting.{due}
use Rattle.world_runs.specs.Links as links
use Rattle.world_runs.proofs.Among.{cons-heads, cons-tails}
use Rattle.world_runs.proofs.Taking.{next-deliveries}
use Rattle.ring_links.specs.Carried.{Carrying, plain_name, plain_later, plain_link}
use Rattle.ring_links.specs.declared.entry.Entry.{Entry}
use Rattle.ring_links.specs.declared.entry.Waiting.{Waiting}
use Rattle.ring_links.specs.declared.entry.Waiting.TheVariants.{Copy, Mark}
use Rattle.run_journals.specs.Matching.{Taken, AreMatched, AreApart}
use Rattle.journal_check.specs.declared.order.Early.{Early}
use Rattle.journal_check.specs.Orders.{AreKeptLater, AreWaiting, IsHalfway, IsHalfwayAs, IsMatching, IsOrderAs, copy_index, next_index, taken_of}
use Rattle.journal_check.proofs.MatchMoves.{index_of, indices-more, apart-more, take-early, take-other, take-same}
use Rattle.journal_check.proofs.Orders.{IsSentLink, link-sent}

copy-name : (w : Waiting) (k next : ℕ) → plain_name w ≡ plain.Entry.Copy k → copy_index w ≡ Some next → k ≡ next
copy-name (Copy index) k next name is = cc
copy-name (Mark phase) k next name is = absurd (cc)

never-none : (w : Waiting) (k : ℕ) → plain_name w ≡ plain.Entry.Copy k → copy_index w ≡ None → ⊥
never-none (Copy index) k name is = absurd (cc)
never-none (Mark phase) k name is = absurd (cc)

module _ {A : Type 0} where
  -- where a frame is the next one it waits first, and the others behind it
  pub record IsFirstOf (l : Carrying A) (waiting : List ℕ) (next : ℕ) : Type 0 where
    pub others : List ℕ
    pub are : waiting ≡ next ∷ others
    pub queue : map (λ (e : Entry A). plain_name e.waiting) (drop 1 l.queue) ≡ map plain.Entry.Copy others

  pub first-waits : (l : Carrying A) (waiting : List ℕ) (next : ℕ) → AreWaiting l waiting → next_index l ≡ Some next → IsFirstOf l waiting next
  first-waits l waiting next queue is = by l.queue waiting queue is
    where
      by : (es : List (Entry A)) (ks : List ℕ) → map (λ (e : Entry A). plain_name e.waiting) es ≡ map plain.Entry.Copy ks → next_index (record l { queue = es }) ≡ Some next → IsFirstOf (record l { queue = es }) ks next
      by [] ks same here = absurd (cc)
      by (e ∷ es) [] same here = absurd (cc)
      by (e ∷ es) (k ∷ ks) same here = record {
        others = ks;
        are = ap (λ (i : ℕ). i ∷ ks) (copy-name e.waiting k next (cons-heads (plain_name e.waiting) (plain.Entry.Copy k) (map (λ (x : Entry A). plain_name x.waiting) es) (map plain.Entry.Copy ks) same) here);
        queue = cons-tails (plain_name e.waiting) (plain.Entry.Copy k) (map (λ (x : Entry A). plain_name x.waiting) es) (map plain.Entry.Copy ks) same;
      }

  pub none-waits : (l : Carrying A) (waiting : List ℕ) → AreWaiting l waiting → next_index l ≡ None → waiting ≡ []
  none-waits l waiting queue is = by l.queue waiting queue is
    where
      by : (es : List (Entry A)) (ks : List ℕ) → map (λ (e : Entry A). plain_name e.waiting) es ≡ map plain.Entry.Copy ks → next_index (record l { queue = es }) ≡ None → ks ≡ []
      by [] [] same here = refl
      by [] (k ∷ ks) same here = absurd (cc)
      by (e ∷ es) [] same here = absurd (cc)
      by (e ∷ es) (k ∷ ks) same here =
          absurd (never-none e.waiting k (cons-heads (plain_name e.waiting) (plain.Entry.Copy k) (map (λ (x : Entry A). plain_name x.waiting) es) (map plain.Entry.Copy ks) same) here)

  module _ (delivered : List ℕ) (taken : List Taken) (l : Carrying A) (early : List Early) where
    -- nothing is left of one of the two
    pub half-end-waiting : IsHalfway delivered taken l early → next_index l ≡ None → IsMatching delivered taken l early
    half-end-waiting h none = record {
      waiting = h.waiting;
      queue = h.queue;
      matched = record { common = h.common; delivered_are = h.delivered_are; taken_are = h.taken_are; one_side = inl (none-waits l h.waiting h.queue none) };
    }

    -- the next that is delivered is the next that was taken
    half-same : (queue : Carrying A) (more : List Early) (next : ℕ) (t : Early) → IsHalfway delivered taken l early → next_index l ≡ Some next → early ≡ t ∷ more → queue.queue ≡ drop 1 l.queue → t.index ≡ next
        → IsHalfway delivered taken queue more
    half-same queue more next t h is first drops same =
        let f = first-waits l h.waiting next h.queue is in
        record {
          common = h.common ++ taken_of t ∷ [];
          waiting = f.others;
          queue = ap (map (λ (e : Entry A). plain_name e.waiting)) drops ∙ f.queue;
          delivered_are = h.delivered_are ∙ ap (λ (xs : List ℕ). map index_of h.common ++ xs) (f.are ∙ ap (λ (k : ℕ). k ∷ f.others) (sym same)) ∙ indices-more h.common (taken_of t) f.others;
          taken_are = h.taken_are ∙ ap (λ (es : List Early). h.common ++ map taken_of es) first ∙ sym (append_assoc h.common (taken_of t ∷ []) (map taken_of more));
        }

    -- or it is not
    half-other : (more : List Early) (next : ℕ) (t : Early) → IsHalfway delivered taken l early → next_index l ≡ Some next → early ≡ t ∷ more → t.index ≢ next → AreApart delivered taken t.line
    half-other more next t h is first differ =
        let f = first-waits l h.waiting next h.queue is in
        record {
          common = h.common;
          other = next;
          more = f.others;
          index = t.index;
          rest = map taken_of more;
          delivered_are = h.delivered_are ∙ ap (λ (xs : List ℕ). map index_of h.common ++ xs) f.are;
          taken_are = h.taken_are ∙ ap (λ (es : List Early). h.common ++ map taken_of es) first;
          differ = differ;
        }

    -- one step of both
    pub half-next : (fault : Option ℕ) (queue : Carrying A) (more : List Early) (next : ℕ) (t : Early) → IsHalfway delivered taken l early → next_index l ≡ Some next → early ≡ t ∷ more
        → (t.index ≡ next → (fault ≡ None) × (queue.queue ≡ drop 1 l.queue)) → (t.index ≢ next → fault ≡ Some t.line) → IsHalfwayAs fault delivered taken queue more
    half-next fault queue more next t h is first same other = elim (cases_eq t.index next) [
      | inl equal ↦
          subst (λ (f : Option ℕ). IsHalfwayAs f delivered taken queue more) (sym (same equal).0) (half-same queue more next t h is first (same equal).1 equal)
      | inr differ ↦
          subst (λ (f : Option ℕ). IsHalfwayAs f delivered taken queue more) (sym (other differ)) (half-other more next t h is first differ)
    ]

    -- a frame is taken where one waits, or none does
    pub taken-next : (fault : Option ℕ) (queue : Carrying A) (next : ℕ) (t : Early) → IsMatching delivered taken l early → next_index l ≡ Some next
        → (t.index ≡ next → (fault ≡ None) × (queue.queue ≡ drop 1 l.queue)) → (t.index ≢ next → fault ≡ Some t.line) → IsOrderAs fault delivered (taken ++ taken_of t ∷ []) queue early
    taken-next fault queue next t m is same other =
        let f = first-waits l m.waiting next m.queue is in
        let matched : AreMatched delivered taken (next ∷ f.others) (map taken_of early) = subst (λ (ks : List ℕ). AreMatched delivered taken ks (map taken_of early)) f.are m.matched in
        elim (cases_eq t.index next) [
          | inl equal ↦
              subst (λ (x : Option ℕ). IsOrderAs x delivered (taken ++ taken_of t ∷ []) queue early) (sym (same equal).0)
              (record { waiting = f.others; queue = ap (map (λ (e : Entry A). plain_name e.waiting)) (same equal).1 ∙ f.queue; matched = take-same delivered f.others taken (map taken_of early) next (taken_of t) matched equal })
          | inr differ ↦
              subst (λ (x : Option ℕ). IsOrderAs x delivered (taken ++ taken_of t ∷ []) queue early) (sym (other differ)) (take-other delivered f.others taken (map taken_of early) next (taken_of t) matched differ)
        ]

    pub taken-early : (more : List Early) (t : Early) → IsMatching delivered taken l early → next_index l ≡ None → more ≡ early ++ t ∷ [] → IsMatching delivered (taken ++ taken_of t ∷ []) l more
    taken-early more t m none are =
        let nothing = none-waits l m.waiting m.queue none in
        record {
          waiting = [];
          queue = subst (AreWaiting l) nothing m.queue;
          matched = subst (λ (ts : List Taken). AreMatched delivered (taken ++ taken_of t ∷ []) [] ts) (sym (ap (map taken_of) are ∙ map-append taken_of early (t ∷ [])))
              (take-early delivered taken (map taken_of early) (taken_of t) (subst (λ (ks : List ℕ). AreMatched delivered taken ks (map taken_of early)) nothing m.matched));
        }

  -- a frame is sent: what it delivers waits behind the others
  pub record IsSentAs (fate : ℕ → Fate) (count : ℕ) (taken : List Taken) (fault : Option ℕ) (new : Carrying A) (early : List Early) : Type 0 where
    pub frames : new.frames ≡ count + 1
    pub later : AreKeptLater fate (count + 1) (map plain_later new.later)
    pub half : IsHalfwayAs fault (deliveries fate (count + 1)) taken new early

  module _ (fate : ℕ → Fate) (taken : List Taken) (old new : Carrying A) (early : List Early) (later : AreKeptLater fate old.frames (map plain_later old.later))
      (sent : plain_link new ≡ links.frame_sent (fate (old.frames + 1)) (plain_link old)) where
    sent-link : IsSentLink fate old.frames (plain_link old) (plain_link new)
    sent-link = subst (IsSentLink fate old.frames (plain_link old)) (sym sent) (link-sent fate (plain_link old) later)

    half-sent : (fault : Option ℕ) → IsOrderAs fault (deliveries fate old.frames) taken old early → IsHalfwayAs fault (deliveries fate (old.frames + 1)) taken new early
    half-sent None m =
        let n = old.frames in
        record {
          common = m.matched.common;
          waiting = m.waiting ++ due fate n;
          queue = sent-link.queue ∙ ap (λ (es : List plain.Entry). es ++ map plain.Entry.Copy (due fate n)) m.queue ∙ sym (map-append plain.Entry.Copy m.waiting (due fate n));
          delivered_are = next-deliveries fate n ∙ ap (λ (xs : List ℕ). xs ++ due fate n) m.matched.delivered_are ∙ append_assoc (map index_of m.matched.common) m.waiting (due fate n);
          taken_are = m.matched.taken_are;
        }
    half-sent (Some line) a =
        subst (λ (xs : List ℕ). AreApart xs taken line) (sym (next-deliveries fate old.frames))
        (subst (λ (ts : List Taken). AreApart (deliveries fate old.frames ++ due fate old.frames) ts line) (append-nil taken)
        (apart-more (deliveries fate old.frames) (due fate old.frames) taken [] line a))

    sent-as : (fault : Option ℕ) → IsOrderAs fault (deliveries fate old.frames) taken old early → IsSentAs fate old.frames taken fault new early
    sent-as fault is = record { frames = sent-link.frames; later = sent-link.later; half = half-sent fault is }

  pub order-sent : (fate : ℕ → Fate) (count : ℕ) (taken : List Taken) (fault : Option ℕ) (old new : Carrying A) (early : List Early) → old.frames ≡ count → AreKeptLater fate count (map plain_later old.later)
      → IsOrderAs fault (deliveries fate count) taken old early → plain_link new ≡ links.frame_sent (fate (count + 1)) (plain_link old) → IsSentAs fate count taken fault new early
  order-sent fate count taken fault old new early frames =
      subst (λ k. AreKeptLater fate k (map plain_later old.later) → IsOrderAs fault (deliveries fate k) taken old early → plain_link new ≡ links.frame_sent (fate (k + 1)) (plain_link old) → IsSentAs fate k taken fault new early) frames
      (λ later is sent. sent-as fate taken old new early later sent fault is)
