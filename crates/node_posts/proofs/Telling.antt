-- What an event tells its own node: that its request is lost or late.
use Rattle.std.proofs.Common.{◌≡◌, ◌≢◌, ℕ, ◌+◌, ◌<◌, ◌≤◌, Bool, true, false, cond, List, [], ◌∷◌, ◌++◌, length, map, Option, Some, None, inl, inr, refl, sym, ap, subst, ◌∙◌, append-nil, arith}
use Rattle.std.specs.Prelude.{◌==◌, ◌&&◌, ◌^◌, option_to_list, slice_get}
use Rattle.std.specs.List.{AllByRecursion}
use Rattle.std.proofs.lemmas.Bool.{cases_eq, eq-eqb, ne_eqb}
use Rattle.std.proofs.lemmas.List.{map-append}
use Rattle.uid_names.proofs.ListLemmas.{by_cases}
use Rattle.uid_names.proofs.Passed.{left-true, right-true}
use Rattle.dom_history.specs.declared.event.What.{What}
use Rattle.dom_history.specs.declared.event.Sent.{Sent}
use Rattle.dom_history.specs.declared.plan.FateRow.{FateRow}
use Rattle.dom_history.specs.Plans.{fate_of}
use Rattle.ring_messages.specs.Bodies.{is_request}
use Rattle.ring_messages.specs.Frames.{Message}
use Rattle.fault_handler.specs.Desks.{IsNode}
use Rattle.node_runs.specs.Incomings.{Incoming}
use Rattle.node_runs.specs.Outcomes.{Stepped}
use Rattle.node_runs.specs.Runs.{World, numbered}
use Rattle.node_runs.specs.Deliveries.{is_gone, noticed_by, noticed_in}
use Rattle.world_runs.specs.Gone.{FrameName, same_frame}
use Rattle.world_runs.proofs.Receiving.{numbered-within, numbered-older}
use Rattle.world_runs.proofs.Telling.{frame-is, same-frame}
use Rattle.ring_links.specs.declared.notice.Notice as notice
use Rattle.ring_links.specs.Notices.{notice_for}
use Rattle.local_runs.specs.LocalRuns.{Own, events_in, own_event, own_world}
use Rattle.node_core.specs.Receivings.{mark_in, emitted_by}
use Rattle.node_core.proofs.Sends.{Sends, nothing, mark, frame}
use Rattle.wire_links.specs.declared.wire.WireOut.{WireOut}
use Rattle.wire_links.specs.Carrying.{Wired, Posting, frames_of, index_if, wire_after}
use Rattle.wire_links.specs.Wires.{wire_of, next_fate}
use Rattle.local_runs.specs.Posts.{Serving, Came, count_if, times_named}
use Rattle.node_posts.specs.Ends.{other_at, place_of}
use Rattle.node_posts.specs.Sending.{told_on, told_if, told_by, told_after}
use Rattle.node_posts.specs.Posts.{IsOut, AreOuts, IsNoticeHere, frame_name, AreNotices}
use Rattle.node_posts.proofs.Placing.{other-place}
use Rattle.node_posts.proofs.Counting.{wire-counts}
use Rattle.node_posts.proofs.Wiring.{out-fates}
use Rattle.node_posts.proofs.Sends.{emits-frame, emits-none, frames-none, frames-some}
use Rattle.node_posts.proofs.Noticing.{IsGrown, named-append, not-named, unnamed, unnamed-waiting, notice-stays, push-notices, notice-here}

-- the event tells nothing, or one thing
pub data Tells (plan : List FateRow) (n : ℕ) (w : World) (st : Stepped) : List notice.Notice → Type 0 where
  nothing_told : Tells plan n w st []
  told : (m : Message) (k : ℕ) → st.frame ≡ Some m → m.from ≡ n → is_request m.body ≡ true → is_gone (fate_of plan n m.to k) ≡ true → k ≡ length (w.frames n m.to) + 1
      → Tells plan n w st (notice_for m k ∷ [])

module _ (plan : List FateRow) (n : ℕ) (w : World) (what : What) (st : Stepped) (outs : ℕ → List Posting) (nodes : ℕ) (ends : List WireOut) (are : AreOuts nodes plan n outs ends)
    (counted : (to : ℕ) → to ≢ n → frames_of (outs to) ≡ w.frames n to) (least : 1 ≤ n) where
  abbrev TellsHere : List notice.Notice → Type 0
  TellsHere xs = Tells plan n w st xs

  by-gone : (m : Message) (k : ℕ) (b : Bool) → st.frame ≡ Some m → m.from ≡ n → k ≡ length (w.frames n m.to) + 1 → (b ≡ true → (is_gone (fate_of plan n m.to k) ≡ true) × (is_request m.body ≡ true))
      → TellsHere (map (notice_for m) (option_to_list (index_if b k)))
  by-gone m k false is from count gives = nothing_told
  by-gone m k true is from count gives = let g = gives refl in told m k is from g.1 g.0 count

  at-end : (m : Message) (r : Option WireOut) → slice_get ends (place_of n m.to) ≡ r → st.frame ≡ Some m → m.from ≡ n → 1 ≤ m.to → m.to ≢ n → TellsHere (told_on m r)
  at-end m None there is from some away = nothing_told
  at-end m (Some o) there is from some away =
      let at = place_of n m.to in
      let same : other_at n at ≡ m.to = other-place n m.to least some away in
      let out : IsOut plan n m.to (outs m.to) o = subst (λ (k : ℕ). IsOut plan n k (outs k) o) same (are.each at o there) in
      let k = (wire_of o).frames + 1 in
      let count : (wire_of o).frames ≡ length (w.frames n m.to) =
      ap (λ (l : Wired). l.frames) out.wire ∙ (wire-counts (fate_of plan n m.to) (outs m.to) ∙ ap (λ (ms : List Message). length ms) (counted m.to away)) in
      let fate = out-fates plan n m.to (outs m.to) o out k in
      by-gone m k (is_gone (next_fate o) && is_request m.body) is from (ap (λ (i : ℕ). i + 1) count)
      (λ h. (ap is_gone (sym fate) ∙ left-true (is_gone (next_fate o)) (is_request m.body) h, right-true (is_gone (next_fate o)) (is_request m.body) h))

  pub tells : Sends n what st → ((m : Message) → st.frame ≡ Some m → 1 ≤ m.to) → TellsHere (told_after n (emitted_by what st) ends)
  tells (nothing unmarked none nowhere) goes =
      subst TellsHere (sym (ap (λ (k : Option ℕ). told_by n k (emitted_by what st).frame ends) unmarked ∙ ap (λ (f : Option (ℕ × Message)). told_by n None f ends) (emits-none what st none))) nothing_told
  tells (mark phase is none nowhere) goes =
      subst TellsHere (sym (ap (λ (k : Option ℕ). told_by n k (emitted_by what st).frame ends) (ap mark_in is))) nothing_told
  tells (frame m x unmarked is sent from to) goes =
      subst TellsHere (sym (ap (λ (k : Option ℕ). told_by n k (emitted_by what st).frame ends) unmarked ∙ ap (λ (f : Option (ℕ × Message)). told_by n None f ends) (emits-frame what st m x is sent)))
      (elim (cases_eq m.to n) [
        | inl here ↦ subst TellsHere (sym (ap (λ (b : Bool). told_if b n m ends) (eq-eqb m.to n here))) nothing_told
        | inr away ↦ subst TellsHere (sym (ap (λ (b : Bool). told_if b n m ends) (ne_eqb m.to n away))) (at-end m (slice_get ends (place_of n m.to)) refl is from (goes m is) away)
      ])

-- the frames of a link are there after an event
pub grown : (n : ℕ) (w : World) (what : What) (incoming : Incoming) (st : Stepped) → Sends n what st → (to : ℕ) → IsGrown (w.frames n to) ((own_world n w what st).frames n to)
grown n w what incoming st (nothing unmarked none nowhere) to = record { stays = λ k m found. ap (numbered k) (frames-none n st.node.tick what incoming st refl w to none) ∙ found }
grown n w what incoming st (mark phase is none nowhere) to = record { stays = λ k m found. ap (numbered k) (frames-none n st.node.tick what incoming st refl w to none) ∙ found }
grown n w what incoming st (frame m x unmarked is sent from goes) to = record { stays = λ k y found. ap (numbered k) (frames-some n st.node.tick what incoming st refl w to m is) ∙ by-link (to == m.to) k y found }
  where
    by-link : (b : Bool) (k : ℕ) (y : Message) → numbered k (w.frames n to) ≡ Some y → numbered k (cond b (m ∷ w.frames n to) (w.frames n to)) ≡ Some y
    by-link true k y found = numbered-older k m (w.frames n to) (numbered-within k (w.frames n to) y found) ∙ found
    by-link false k y found = found

module _ (nodes : ℕ) (plan : List FateRow) (n : ℕ) (p : Serving) (came : AllByRecursion (λ x. Came plan n p x.event.what x.received) p.own) (what : What) (incoming : Incoming) (st : Stepped) (sends : Sends n what st)
    (early : st.node.tick < 2 ^ 40) (ticks : (m : Message) → st.frame ≡ Some m → m.tick ≡ st.node.tick) (goes : (m : Message) → st.frame ≡ Some m → IsNode nodes m.to)
    (now : Came plan n p what incoming) (xs : List notice.Notice) (each : AllByRecursion (IsNoticeHere nodes plan n p.world) xs)
    (once : (f : FrameName) → f.0 ≡ n → times_named f (noticed_by what ++ noticed_in (events_in p.own)) + times_named f (map frame_name xs) ≤ 1) (after : Serving)
    (own : after.own ≡ own_event n what incoming st ∷ p.own) (world : after.world ≡ own_world n p.world what st) where
  abbrev v : World
  v = own_world n p.world what st

  -- a frame that is sent has the next number
  newest : (m : Message) (k : ℕ) → st.frame ≡ Some m → k ≡ length (p.world.frames n m.to) + 1 → numbered k (v.frames n m.to) ≡ Some m
  newest m k is count =
      ap (numbered k) (frames-some n st.node.tick what incoming st refl p.world m.to m is ∙ ap (λ (b : Bool). cond b (m ∷ p.world.frames n m.to) (p.world.frames n m.to)) (eq-eqb m.to m.to refl))
      ∙ ap (λ (b : Bool). cond b (Some m) (numbered k (p.world.frames n m.to))) (eq-eqb k (length (p.world.frames n m.to) + 1) count)

  count-true : (f g : FrameName) → times_named f (g ∷ []) ≤ 1
  count-true f g = by-bool (same_frame f g)
    where
      by-bool : (b : Bool) → count_if b + 0 ≤ 1
      by-bool true = omega arith
      by-bool false = omega arith

  told-once : (ys : List notice.Notice) → Tells plan n p.world st ys → (f : FrameName) → f.0 ≡ n
      → times_named f (noticed_by what ++ noticed_in (events_in p.own)) + (times_named f (map frame_name xs) + times_named f (map frame_name ys)) ≤ 1
  told-once _ nothing_told f at = let e = once f at in omega (arith, e)
  told-once _ (told m k is from asks gone count) f at = by_cases (same_frame f (n, m.to, k))
      (times_named f (noticed_by what ++ noticed_in (events_in p.own)) + (times_named f (map frame_name xs) + times_named f (map frame_name (notice_for m k ∷ []))) ≤ 1)
      (λ h.
      (let same : f ≡ (n, m.to, k) = frame-is f (n, m.to, k) h in
      let there : f.1 ≡ m.to = ap (λ (g : FrameName). g.1) same in
      let number : f.2 ≡ k = ap (λ (g : FrameName). g.2) same in
      let many : length (p.world.frames n f.1) ≡ length (p.world.frames n m.to) = ap (λ (i : ℕ). length (p.world.frames n i)) there in
      let new : length (p.world.frames n f.1) < f.2 = omega (arith, number, count, many) in
      let a = unnamed plan n p f at new (record { event = (own_event n what incoming st).event; received = incoming } ∷ p.own) (now, came) in
      let b = unnamed-waiting plan n p f at new nodes xs each in
      let c = count-true f (frame_name (notice_for m k)) in
      omega (arith, a, b, c)))
      (λ h.
      (let differs : f ≢ frame_name (notice_for m k) = λ e. absurd (let t = same-frame f in let g : same_frame f (n, m.to, k) ≡ true = subst (λ (x : FrameName). same_frame f x ≡ true) (e ∙ ap (λ (i : ℕ). let x : FrameName = (i, m.to, k) in x) from) t in cc) in
      let a = not-named f (frame_name (notice_for m k)) differs in
      let b = once f at in
      omega (arith, a, b)))

  told-each : (ys : List notice.Notice) → Tells plan n p.world st ys → AllByRecursion (IsNoticeHere nodes plan n v) ys
  told-each _ nothing_told = tt
  told-each _ (told m k is from asks gone count) =
      (notice-here nodes plan n v m k from (subst (λ (t : ℕ). t < 2 ^ 40) (sym (ticks m is)) early) asks gone (newest m k is count) (goes m is), tt)

  pub notices-after : (ys : List notice.Notice) → Tells plan n p.world st ys → AreNotices nodes plan n after (xs ++ ys)
  notices-after ys tell = record {
    each = subst (λ (u : World). AllByRecursion (IsNoticeHere nodes plan n u) (xs ++ ys)) (sym world)
        (push-notices nodes plan n v xs ys (notice-stays nodes plan n p.world v (grown n p.world what incoming st sends) xs each) (told-each ys tell));
    once = λ f at.
        (let a = told-once ys tell f at in
        let b = ap (times_named f) (map-append frame_name xs ys) in
        let c = named-append f (map frame_name xs) (map frame_name ys) in
        let d = ap (λ (o : List Own). times_named f (noticed_in (events_in o))) own in
        omega (arith, a, b, c, d));
  }
