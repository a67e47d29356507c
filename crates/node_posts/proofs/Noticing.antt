-- The notices that wait at a node, after an event.
use Rattle.std.proofs.Common.{◌≡◌, ◌≢◌, ℕ, ◌+◌, ◌<◌, ◌≤◌, Bool, true, false, cond, List, [], ◌∷◌, ◌++◌, length, map, Option, Some, None, inl, inr, refl, sym, ap, ◌∙◌, arith}
use Rattle.std.specs.Prelude.{◌^◌}
use Rattle.std.specs.List.{AllByRecursion}
use Rattle.uid_names.proofs.ListLemmas.{by_cases}
use Rattle.uid_names.specs.Names.{ProcName}
use Rattle.dom_history.specs.declared.event.What.{What}
use Rattle.dom_history.specs.declared.event.What.TheVariants.{Begin, Go, Take, Notice, Ready, Mark}
use Rattle.dom_history.specs.declared.plan.FateRow.{FateRow}
use Rattle.dom_history.specs.Plans.{fate_of}
use Rattle.ring_messages.specs.Bodies.{is_request}
use Rattle.ring_messages.specs.Frames.{Message, caller_of}
use Rattle.fault_handler.specs.Desks.{IsNode}
use Rattle.node_runs.specs.Incomings.{Incoming}
use Rattle.node_runs.specs.Runs.{World, numbered, told_of}
use Rattle.node_runs.specs.Deliveries.{is_gone, noticed_by, noticed_in}
use Rattle.world_runs.specs.Gone.{FrameName, same_frame}
use Rattle.world_runs.proofs.Receiving.{numbered-within}
use Rattle.world_runs.proofs.Telling.{frame-is}
use Rattle.ring_links.specs.declared.notice.Notice as notice
use Rattle.ring_links.specs.Notices.{notice_for, notice_incoming}
use Rattle.local_runs.specs.LocalRuns.{Own, events_in}
use Rattle.local_runs.specs.Posts.{Serving, Came, count_if, times_named}
use Rattle.local_runs.proofs.Joining.{told-same}
use Rattle.node_posts.specs.Posts.{IsNoticeHere, frame_name}

-- frames on a link, of which there may be one more
pub record IsGrown (xs ys : List Message) : Type 0 where
  pub stays : (k : ℕ) (m : Message) → numbered k xs ≡ Some m → numbered k ys ≡ Some m

pub told-stays : (p : ProcName) (k : ℕ) (xs ys : List Message) (i : Incoming) → IsGrown xs ys → told_of p (numbered k xs) ≡ Some i → told_of p (numbered k ys) ≡ Some i
told-stays p k xs ys i grown e = by-found (numbered k xs) refl e
  where
    by-found : (o : Option Message) → numbered k xs ≡ o → told_of p o ≡ Some i → told_of p (numbered k ys) ≡ Some i
    by-found None is told = absurd (cc)
    by-found (Some m) is told = ap (told_of p) (grown.stays k m is) ∙ told

-- what was told is of a frame that was sent
pub told-within : (p : ProcName) (k : ℕ) (xs : List Message) (i : Incoming) → told_of p (numbered k xs) ≡ Some i → k ≤ length xs
told-within p k xs i e = by-found (numbered k xs) refl e
  where
    by-found : (o : Option Message) → numbered k xs ≡ o → told_of p o ≡ Some i → k ≤ length xs
    by-found None is told = absurd (cc)
    by-found (Some m) is told = numbered-within k xs m is

pub named-append : (f : FrameName) (xs ys : List FrameName) → times_named f (xs ++ ys) ≡ times_named f xs + times_named f ys
named-append f [] ys = omega arith
named-append f (x ∷ xs) ys = let e = named-append f xs ys in omega (arith, e)

other-name : (f g : FrameName) → f ≢ g → same_frame f g ≡ false
other-name f g differs = by_cases (same_frame f g) (same_frame f g ≡ false) (λ h. absurd (differs (frame-is f g h))) (λ h. h)

pub not-named : (f g : FrameName) → f ≢ g → times_named f (g ∷ []) ≡ 0
not-named f g differs = ap (λ (b : Bool). count_if b + 0) (other-name f g differs)

-- a frame that was not sent before was not told of, and no notice of it waits
module _ (plan : List FateRow) (n : ℕ) (p : Serving) (f : FrameName) (own : f.0 ≡ n) (new : length (p.world.frames n f.1) < f.2) where
  late : (from to index : ℕ) → from ≡ n → index ≤ length (p.world.frames n to) → f ≢ (from, to, index)
  late from to index at within same =
      let a : f.1 ≡ to = ap (λ (g : FrameName). g.1) same in
      let b : f.2 ≡ index = ap (λ (g : FrameName). g.2) same in
      let c : length (p.world.frames n f.1) ≡ length (p.world.frames n to) = ap (λ (k : ℕ). length (p.world.frames n k)) a in
      omega (arith, new, within, b, c)

  unnamed-event : (what : What) (i : Incoming) → Came plan n p what i → times_named f (noticed_by what) ≡ 0
  unnamed-event (Begin q) i came = refl
  unnamed-event (Go q) i came = refl
  unnamed-event (Take from k) i came = refl
  unnamed-event (Ready phase) i came = refl
  unnamed-event (Mark from phase) i came = refl
  unnamed-event (Notice q from to index) i (inl here) =
      not-named f (from, to, index) (late from to index here.0 (told-within (record { node = n; number = q }) index (p.world.frames n to) i here.1))
  unnamed-event (Notice q from to index) i (inr away) =
      not-named f (from, to, index) (λ same. away.0 (sym (ap (λ (g : FrameName). g.0) same) ∙ own))

  pub unnamed : (own : List Own) → AllByRecursion (λ x. Came plan n p x.event.what x.received) own → times_named f (noticed_in (events_in own)) ≡ 0
  unnamed [] all = refl
  unnamed (x ∷ own) all =
      let a = named-append f (noticed_by x.event.what) (noticed_in (events_in own)) in
      let b = unnamed-event x.event.what x.received all.0 in
      let c = unnamed own all.1 in
      omega (arith, a, b, c)

  pub unnamed-waiting : (nodes : ℕ) (xs : List notice.Notice) → AllByRecursion (IsNoticeHere nodes plan n p.world) xs → times_named f (map frame_name xs) ≡ 0
  unnamed-waiting nodes [] all = refl
  unnamed-waiting nodes (x ∷ xs) all =
      let is = all.0 in
      let a = not-named f (frame_name x) (late x.from x.to x.index is.from (told-within (record { node = n; number = x.proc }) x.index (p.world.frames n x.to) (notice_incoming x) is.told)) in
      let b = unnamed-waiting nodes xs all.1 in
      omega (arith, a, b)

-- the notices that waited still are such
pub notice-stays : (nodes : ℕ) (plan : List FateRow) (n : ℕ) (w v : World) → ((to : ℕ) → IsGrown (w.frames n to) (v.frames n to)) → (xs : List notice.Notice) → AllByRecursion (IsNoticeHere nodes plan n w) xs
    → AllByRecursion (IsNoticeHere nodes plan n v) xs
notice-stays nodes plan n w v grown [] all = tt
notice-stays nodes plan n w v grown (x ∷ xs) all =
    let is = all.0 in (
      record { from = is.from; told = told-stays (record { node = n; number = x.proc }) x.index (w.frames n x.to) (v.frames n x.to) (notice_incoming x) (grown x.to) is.told; gone = is.gone; early = is.early; receiver = is.receiver },
      notice-stays nodes plan n w v grown xs all.1,
    )

pub push-notices : (nodes : ℕ) (plan : List FateRow) (n : ℕ) (w : World) (xs ys : List notice.Notice) → AllByRecursion (IsNoticeHere nodes plan n w) xs → AllByRecursion (IsNoticeHere nodes plan n w) ys
    → AllByRecursion (IsNoticeHere nodes plan n w) (xs ++ ys)
push-notices nodes plan n w [] ys all more = more
push-notices nodes plan n w (x ∷ xs) ys all more = (all.0, push-notices nodes plan n w xs ys all.1 more)

-- the notice of a request that is lost or late
request-caller : (m : Message) (n : ℕ) → is_request m.body ≡ true → m.from ≡ n → caller_of m ≡ record { node = n; number = m.proc }
request-caller m n asks from =
    ap (λ (b : Bool). let q : ProcName = record { node = cond b m.from m.to; number = m.proc } in q) asks
    ∙ ap (λ (k : ℕ). let q : ProcName = record { node = k; number = m.proc } in q) from

pub notice-here : (nodes : ℕ) (plan : List FateRow) (n : ℕ) (v : World) (m : Message) (k : ℕ) → m.from ≡ n → m.tick < 2 ^ 40 → is_request m.body ≡ true → is_gone (fate_of plan n m.to k) ≡ true
    → numbered k (v.frames n m.to) ≡ Some m → IsNode nodes m.to → IsNoticeHere nodes plan n v (notice_for m k)
notice-here nodes plan n v m k from early asks gone sent goes = record {
  from = from;
  told = ap (told_of (record { node = n; number = m.proc })) sent ∙ told-same m (record { node = n; number = m.proc }) (request-caller m n asks from);
  gone = gone;
  early = early;
  receiver = goes;
}
