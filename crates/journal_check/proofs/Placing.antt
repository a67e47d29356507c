-- The places that are kept, event by event.
use Rattle.std.proofs.Common.{◌≡◌, ℕ, ◌+◌, ◌*◌, ◌<◌, ◌≤◌, Bool, true, false, Option, Some, None, IfSome, List, [], ◌∷◌, ◌++◌, length, map, refl, sym, ap, subst, ◌∙◌, arith}
use Rattle.std.specs.Prelude.{◌^◌, ◌==◌, ◌&&◌, ◌||◌, not, if◌then◌else◌, slice_set, All}
use Rattle.std.proofs.lemmas.Bool.Decides.{nat_tests}
use Rattle.std.proofs.lemmas.List.{append-nil, append_assoc, length-set}
use Rattle.std.proofs.lemmas.List.Elements.{All-cons}
use Rattle.uid_names.proofs.ListLemmas.{by_cases}
use Rattle.uid_names.proofs.Passed.{equal, left-true, right-true}
use Rattle.uid_names.specs.declared.limits.TheConstants.{MAX_NODES}
use Rattle.dom_history.specs.declared.event.What.{What}
use Rattle.dom_history.specs.declared.event.What.TheVariants.{Begin, Go, Take, Notice, Ready, Mark}
use Rattle.dom_history.specs.declared.event.Sent.{Sent}
use Rattle.dom_history.specs.declared.plan.FateRow.{FateRow}
use Rattle.dom_history.specs.Events.{Happening}
use Rattle.dom_history.specs.Plans.{fate_of}
use Rattle.fault_handler.specs.Desks.{IsNode}
use Rattle.node_runs.specs.Deliveries.{copy_if, is_gone, taken_on}
use Rattle.world_runs.specs.Gone.{was_told}
use Rattle.world_runs.specs.NamedNodes.{NamesNodes}
use Rattle.world_runs.specs.Sendings.{Sending, frame_to, frames_in, frames_on, mark_to, sending_if, sendings, sent_if}
use Rattle.run_journals.specs.Matching.{Taken, at_line, takes_with_lines}
use Rattle.run_journals.specs.Places.{Counts, sent_in}
use Rattle.journal_check.specs.Links.{link_place, at_link}
use Rattle.journal_check.specs.Orders.{IsOrder}
use Rattle.journal_check.specs.Judged.{ArePlaces, KeepsPlaces, TellsAgain, least_of, line_if, is_stale, stale_line, taken_then, sent_then, tells_old}
use Rattle.journal_check.specs.declared.order.Order.{Order}
use Rattle.journal_check.specs.declared.places.Places.{Places}
use Rattle.journal_check.proofs.LinkPlaces.{at-set, at-other, turned}

-- what is kept of the same numbers, takes and notices
pub keeps-same : (counts other : Counts) (taken took : ℕ → ℕ → List Taken) (notice told : Option ℕ) (p : Places) → ((a b : ℕ) → counts a b ≡ other a b) → ((a b : ℕ) → taken a b ≡ took a b) → notice ≡ told
    → KeepsPlaces counts taken notice p → KeepsPlaces other took told p
keeps-same counts other taken took notice told p same_counts same_taken same_notice is = record {
  count = is.count;
  order = λ from to sends receives.
      subst (λ k. IfSome (at_link p.nodes from to p.orders.items) (IsOrder (fate_of p.plan.now from to) k (took from to))) (same_counts from to)
      (subst (λ ts. IfSome (at_link p.nodes from to p.orders.items) (IsOrder (fate_of p.plan.now from to) (counts from to) ts)) (same_taken from to) (is.order from to sends receives));
  few = λ from to. subst (λ k. k < 2 ^ 63) (same_counts from to) (is.few from to);
  notice_is = is.notice_is ∙ same_notice;
}

-- the order of one link changed
module _ (old : Places) (counts : Counts) (taken : ℕ → ℕ → List Taken) (notice : Option ℕ) (is : KeepsPlaces counts taken notice old) (orders : List Order) (from to : ℕ) (sends : IsNode old.nodes from) (receives : IsNode old.nodes to)
    (new : Order) (are : orders ≡ slice_set old.orders.items (link_place old.nodes from to) new) where
  -- what is known of each link then
  pub link-changed : (other : Counts) (took : ℕ → ℕ → List Taken) → IsOrder (fate_of old.plan.now from to) (other from to) (took from to) new
      → ((a b : ℕ) → ((a == from) && (b == to)) ≡ false → (counts a b ≡ other a b) × (taken a b ≡ took a b))
      → (a b : ℕ) → IsNode old.nodes a → IsNode old.nodes b → IfSome (at_link old.nodes a b orders) (IsOrder (fate_of old.plan.now a b) (other a b) (took a b))
  link-changed other took here there a b ia ib =
      subst (λ (xs : List Order). IfSome (at_link old.nodes a b xs) (IsOrder (fate_of old.plan.now a b) (other a b) (took a b))) (sym are)
      (by_cases ((a == from) && (b == to)) (IfSome (at_link old.nodes a b (slice_set old.orders.items (link_place old.nodes from to) new)) (IsOrder (fate_of old.plan.now a b) (other a b) (took a b)))
      (λ same.
      let first : from ≡ a = sym (equal a from (left-true (a == from) (b == to) same)) in
      let second : to ≡ b = sym (equal b to (right-true (a == from) (b == to) same)) in
      subst (λ y. IfSome (at_link old.nodes a y (slice_set old.orders.items (link_place old.nodes from to) new)) (IsOrder (fate_of old.plan.now a y) (other a y) (took a y))) second
      (subst (λ x. IfSome (at_link old.nodes x to (slice_set old.orders.items (link_place old.nodes from to) new)) (IsOrder (fate_of old.plan.now x to) (other x to) (took x to))) first
      (subst (λ (o : Option Order). IfSome o (IsOrder (fate_of old.plan.now from to) (other from to) (took from to))) (sym (at-set old.nodes from to old.orders.items new is.count sends receives)) here)))
      (λ apart.
      subst (λ (o : Option Order). IfSome o (IsOrder (fate_of old.plan.now a b) (other a b) (took a b))) (sym (at-other old.nodes from to old.orders.items new is.count sends receives a b ia ib apart))
      (let same = there a b apart in
      subst (λ k. IfSome (at_link old.nodes a b old.orders.items) (IsOrder (fate_of old.plan.now a b) k (took a b))) same.0
      (subst (λ ts. IfSome (at_link old.nodes a b old.orders.items) (IsOrder (fate_of old.plan.now a b) (counts a b) ts)) same.1 (is.order a b ia ib)))))

-- a frame was taken
pub take-keeps : (old new : Places) (counts : Counts) (taken : ℕ → ℕ → List Taken) (notice : Option ℕ) (from node index line : ℕ) (o : Order) → IsNode old.nodes from → IsNode old.nodes node → KeepsPlaces counts taken notice old
    → new.plan.now ≡ old.plan.now → new.nodes ≡ old.nodes → new.notice ≡ old.notice → new.orders.items ≡ slice_set old.orders.items (link_place old.nodes from node) o
    → IsOrder (fate_of old.plan.now from node) (counts from node) (taken from node ++ at_line line index ∷ []) o → KeepsPlaces counts (taken_then taken line node (Take from index)) notice new
take-keeps old new counts taken notice from node index line o sends receives is plan nodes told orders here = record {
  count = ap (λ (xs : List Order). length xs) orders ∙ (length-set old.orders.items (link_place old.nodes from node) o ∙ (is.count ∙ ap (λ k. k * k) (sym nodes)));
  order = λ a b ia ib.
      subst (λ (f : List FateRow). IfSome (at_link new.nodes a b new.orders.items) (IsOrder (fate_of f a b) (counts a b) (taken_then taken line node (Take from index) a b))) (sym plan)
      (subst (λ k. IfSome (at_link k a b new.orders.items) (IsOrder (fate_of old.plan.now a b) (counts a b) (taken_then taken line node (Take from index) a b))) (sym nodes)
      (link-changed old counts taken notice is new.orders.items from node sends receives o orders counts (taken_then taken line node (Take from index))
      (subst (λ (ts : List Taken). IsOrder (fate_of old.plan.now from node) (counts from node) ts o) (sym own) here)
      (λ a b apart. (refl, sym (ap (λ t. taken a b ++ map (at_line line) (copy_if t index)) (turned from a node b ∙ apart) ∙ append-nil (taken a b))))
      a b (subst (λ k. IsNode k a) nodes ia) (subst (λ k. IsNode k b) nodes ib)));
  few = is.few;
  notice_is = told ∙ is.notice_is;
}
  where
    own : taken_then taken line node (Take from index) from node ≡ taken from node ++ at_line line index ∷ []
    own = let self : ((from == from) && (node == node)) ≡ true = grind (arith, nat_tests) in ap (λ t. taken from node ++ map (at_line line) (copy_if t index)) self

pub least-none : (o : Option ℕ) → o ≡ least_of o None
least-none None = refl
least-none (Some x) = refl

-- a frame was sent
pub send-keeps : (old new : Places) (counts : Counts) (taken : ℕ → ℕ → List Taken) (notice : Option ℕ) (from : ℕ) (sent : Sent) (o : Order) → IsNode old.nodes from → IsNode old.nodes sent.to → KeepsPlaces counts taken notice old
    → new.plan.now ≡ old.plan.now → new.nodes ≡ old.nodes → new.notice ≡ old.notice → new.orders.items ≡ slice_set old.orders.items (link_place old.nodes from sent.to) o → ((a b : ℕ) → counts a b + 1 < 2 ^ 63)
    → IsOrder (fate_of old.plan.now from sent.to) (counts from sent.to + 1) (taken from sent.to) o → KeepsPlaces (sent_then counts from (Some sent)) taken notice new
send-keeps old new counts taken notice from sent o sends receives is plan nodes told orders small here = record {
  count = ap (λ (xs : List Order). length xs) orders ∙ (length-set old.orders.items (link_place old.nodes from sent.to) o ∙ (is.count ∙ ap (λ k. k * k) (sym nodes)));
  order = λ a b ia ib.
      subst (λ (f : List FateRow). IfSome (at_link new.nodes a b new.orders.items) (IsOrder (fate_of f a b) (sent_then counts from (Some sent) a b) (taken a b))) (sym plan)
      (subst (λ k. IfSome (at_link k a b new.orders.items) (IsOrder (fate_of old.plan.now a b) (sent_then counts from (Some sent) a b) (taken a b))) (sym nodes)
      (link-changed old counts taken notice is new.orders.items from sent.to sends receives o orders (sent_then counts from (Some sent)) taken
      (subst (λ k. IsOrder (fate_of old.plan.now from sent.to) k (taken from sent.to) o) (sym own) here)
      (λ a b apart. (sym (ap (λ t. if t then counts a b + 1 else counts a b) apart), refl))
      a b (subst (λ k. IsNode k a) nodes ia) (subst (λ k. IsNode k b) nodes ib)));
  few = λ a b. by a b ((a == from) && (b == sent.to)) refl;
  notice_is = told ∙ is.notice_is;
}
  where
    own : sent_then counts from (Some sent) from sent.to ≡ counts from sent.to + 1
    own = let self : ((from == from) && (sent.to == sent.to)) ≡ true = grind (arith, nat_tests) in ap (λ t. if t then counts from sent.to + 1 else counts from sent.to) self

    by : (a b : ℕ) (t : Bool) → ((a == from) && (b == sent.to)) ≡ t → sent_then counts from (Some sent) a b < 2 ^ 63
    by a b true here = subst (λ k. k < 2 ^ 63) (sym (ap (λ t. if t then counts a b + 1 else counts a b) here)) (small a b)
    by a b false away = subst (λ k. k < 2 ^ 63) (sym (ap (λ t. if t then counts a b + 1 else counts a b) away)) (is.few a b)

-- how many frames were sent behind one event more
frames-of-mark : (from to : ℕ) (what : What) (rest : List Sending) → frames_in (mark_to from to what ++ rest) ≡ frames_in rest
frames-of-mark from to (Begin p) rest = refl
frames-of-mark from to (Go p) rest = refl
frames-of-mark from to (Take a k) rest = refl
frames-of-mark from to (Notice p a b k) rest = refl
frames-of-mark from to (Mark a phase) rest = refl
frames-of-mark from to (Ready phase) rest = by (not (from == to))
  where
    by : (t : Bool) → frames_in (sending_if t (Sending.Mark phase) ++ rest) ≡ frames_in rest
    by true = refl
    by false = refl

-- what a node sends to another
sent-frames : (from to : ℕ) (what : What) (o : Option Sent) (rest : List Sending) → frames_in ((mark_to from to what ++ frame_to to o) ++ rest) ≡ frames_in (frame_to to o ++ rest)
sent-frames from to what o rest = ap frames_in (append_assoc (mark_to from to what) (frame_to to o) rest) ∙ frames-of-mark from to what (frame_to to o ++ rest)

pub sent-more : (e : Happening) (es : List Happening) (a b : ℕ) → sent_then (sent_in es) e.place.node e.effects.sent a b ≡ sent_in (e ∷ es) a b
sent-more e es a b = by (a == e.place.node) refl
  where
    sender : (t : Bool) → (a == e.place.node) ≡ t → (e.place.node == a) ≡ t
    sender t is = let turned : (e.place.node == a) ≡ (a == e.place.node) = grind (arith, nat_tests) in turned ∙ is

    -- a node that did not do it
    away : (o : Option Sent) → (a == e.place.node) ≡ false → sent_then (sent_in es) e.place.node o a b ≡ frames_on a b es
    away None is = refl
    away (Some x) is = ap (λ t. if t && (b == x.to) then frames_on a b es + 1 else frames_on a b es) is

    here : (o : Option Sent) → (a == e.place.node) ≡ true → sent_then (sent_in es) e.place.node o a b ≡ frames_in (frame_to b o ++ sendings a b es)
    here None is = refl
    here (Some x) is = to_it (b == x.to) refl
      where
        to_it : (t : Bool) → (b == x.to) ≡ t → (if (a == e.place.node) && (b == x.to) then frames_on a b es + 1 else frames_on a b es) ≡ frames_in (sending_if (x.to == b) Sending.Frame ++ sendings a b es)
        to_it t same =
            let turned : (x.to == b) ≡ (b == x.to) = grind (arith, nat_tests) in
            ap (λ u. if u && (b == x.to) then frames_on a b es + 1 else frames_on a b es) is ∙ (ap (λ u. if u then frames_on a b es + 1 else frames_on a b es) same ∙ (one t
            ∙ sym (ap (λ u. frames_in (sending_if u Sending.Frame ++ sendings a b es)) (turned ∙ same))))
          where
            one : (u : Bool) → (if u then frames_on a b es + 1 else frames_on a b es) ≡ frames_in (sending_if u Sending.Frame ++ sendings a b es)
            one true = refl
            one false = refl

    by : (t : Bool) → (a == e.place.node) ≡ t → sent_then (sent_in es) e.place.node e.effects.sent a b ≡ sent_in (e ∷ es) a b
    by true is =
        here e.effects.sent is ∙ (sym (sent-frames a b e.what e.effects.sent (sendings a b es))
        ∙ sym (ap (λ t. frames_in (sent_if t a b e ++ sendings a b es)) (sender true is)))
    by false is = away e.effects.sent is ∙ sym (ap (λ t. frames_in (sent_if t a b e ++ sendings a b es)) (sender false is))

-- no more than there are events
pub frames-low : (es : List Happening) (a b : ℕ) → sent_in es a b ≤ length es
frames-low [] a b = omega arith
frames-low (e ∷ es) a b = subst (λ k. k ≤ length (e ∷ es)) (sent-more e es a b) (more (frames-low es a b) e.effects.sent)
  where
    more : sent_in es a b ≤ length es → (o : Option Sent) → sent_then (sent_in es) e.place.node o a b ≤ length (e ∷ es)
    more before None = omega (arith, before)
    more before (Some x) = by ((a == e.place.node) && (b == x.to))
      where
        by : (t : Bool) → (if t then sent_in es a b + 1 else sent_in es a b) ≤ length (e ∷ es)
        by true = omega (arith, before)
        by false = omega (arith, before)

-- whether an event tells of what is no news
pub tells-stale : (plan : List FateRow) (es : List Happening) (what : What) (again : Bool) → TellsAgain es what again → tells_old plan again what ≡ is_stale plan es what
tells-stale plan es (Begin p) again is = refl
tells-stale plan es (Go p) again is = refl
tells-stale plan es (Take a k) again is = refl
tells-stale plan es (Notice p a b k) again is = ap (λ t. t || not (is_gone (fate_of plan a b k))) is ∙ either (was_told es (a, b, k)) (is_gone (fate_of plan a b k))
  where
    either : (told gone : Bool) → (told || not gone) ≡ not (gone && not told)
    either true true = refl
    either true false = refl
    either false true = refl
    either false false = refl
tells-stale plan es (Ready phase) again is = refl
tells-stale plan es (Mark a phase) again is = refl

-- one event more
pub add-places : (plan : List FateRow) (nodes : ℕ) (e : Happening) (es : List Happening) (line : ℕ) (again : Bool) (p : Places) → p.plan.now ≡ plan → p.nodes ≡ nodes → nodes ≤ MAX_NODES → NamesNodes nodes e → All (NamesNodes nodes) es → line ≡ length es + 1
    → TellsAgain es e.what again → KeepsPlaces (sent_then (sent_in es) e.place.node e.effects.sent) (taken_then (λ from to. takes_with_lines from to es) line e.place.node e.what)
    (least_of (stale_line plan es) (line_if (tells_old plan again e.what) line)) p → ArePlaces plan nodes (e ∷ es) p
add-places plan nodes e es line again p plan_is nodes_are few named rest line_is tells is = record {
  plan_is = plan_is;
  nodes_are = nodes_are;
  few = few;
  named = All-cons (NamesNodes nodes) e es named rest;
  keeps = keeps-same (sent_then (sent_in es) e.place.node e.effects.sent) (sent_in (e ∷ es)) (taken_then (λ from to. takes_with_lines from to es) line e.place.node e.what) (λ from to. takes_with_lines from to (e ∷ es))
      (least_of (stale_line plan es) (line_if (tells_old plan again e.what) line)) (stale_line plan (e ∷ es)) p (sent-more e es)
      (λ a b. ap (λ k. takes_with_lines a b es ++ map (at_line k) (taken_on a b e.place.node e.what)) line_is)
      (ap (λ t. least_of (stale_line plan es) (line_if t line)) (tells-stale plan es e.what again tells) ∙ ap (λ k. least_of (stale_line plan es) (line_if (is_stale plan es e.what) k)) line_is) is;
}

pub add-from : (plan : List FateRow) (nodes : ℕ) (e : Happening) (es : List Happening) (line : ℕ) (again : Bool) (p : Places) → p.plan.now ≡ plan → p.nodes ≡ nodes → nodes ≤ MAX_NODES → NamesNodes nodes e → All (NamesNodes nodes) es
    → line ≡ length es + 1 → TellsAgain es e.what again → (node : ℕ) (what : What) (sent : Option Sent) → node ≡ e.place.node → what ≡ e.what → sent ≡ e.effects.sent
    → KeepsPlaces (sent_then (sent_in es) node sent) (taken_then (λ from to. takes_with_lines from to es) line node what) (least_of (stale_line plan es) (line_if (tells_old plan again what) line)) p → ArePlaces plan nodes (e ∷ es) p
add-from plan nodes e es line again p plan_is nodes_are few named rest line_is tells node what sent same_node same_what same_sent is =
    add-places plan nodes e es line again p plan_is nodes_are few named rest line_is tells
    (subst (λ n. KeepsPlaces (sent_then (sent_in es) n e.effects.sent) (taken_then (λ from to. takes_with_lines from to es) line n e.what) (least_of (stale_line plan es) (line_if (tells_old plan again e.what) line)) p) same_node
    (subst (λ (x : What). KeepsPlaces (sent_then (sent_in es) node e.effects.sent) (taken_then (λ from to. takes_with_lines from to es) line node x) (least_of (stale_line plan es) (line_if (tells_old plan again x) line)) p) same_what
    (subst (λ (o : Option Sent). KeepsPlaces (sent_then (sent_in es) node o) (taken_then (λ from to. takes_with_lines from to es) line node what) (least_of (stale_line plan es) (line_if (tells_old plan again what) line)) p) same_sent is)))
