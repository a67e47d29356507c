-- A link that is kept step by step has what waits there.
use Rattle.std.proofs.Common.{◌≡◌, ℕ, ◌+◌, ◌<◌, ◌≤◌, Bool, true, false, cond, List, [], ◌∷◌, ◌++◌, length, map, drop, Some, refl, sym, ap, subst, ◌∙◌, length-append, drop-drop, add-one, arith}
use Rattle.std.specs.Prelude.{◌==◌, not, filter}
use Rattle.std.proofs.lemmas.Bool.{ne_eqb, eqb-true}
use Rattle.std.proofs.lemmas.List.{drop-append-le, map-append}
use Rattle.std.proofs.lemmas.List.Elements.{filter-append}
use Rattle.dom_history.specs.declared.plan.Fate.{Fate}
use Rattle.dom_history.specs.declared.plan.Fate.TheVariants.{Pass, Lose, Twice, Late}
use Rattle.dom_history.specs.declared.plan.FateRow.{FateRow}
use Rattle.dom_history.specs.Events.{Happening}
use Rattle.dom_history.specs.Plans.{fate_of}
use Rattle.node_runs.specs.Setups.{Setup, IsSetup}
use Rattle.node_runs.specs.NodesKeep.{IsTimely}
use Rattle.node_runs.specs.Runs.{World, first_world}
use Rattle.node_runs.specs.Deliveries.{in_place, falls_behind, copy_if, copies}
use Rattle.world_runs.specs.Sendings.{Sending, sent_by, sendings, frames_in}
use Rattle.world_runs.specs.Waiting.{Entry, due, entries, entry_by, entries_taken, entries_put}
use Rattle.world_runs.specs.Links.{Later, Link, empty_link, later_of, falling, staying, frame_sent, mark_sent, link_after, link_less, link_of}
use Rattle.world_runs.specs.Turns.{after_turns}
use Rattle.world_runs.proofs.Inserting.{event_at}
use Rattle.world_runs.proofs.TimelyTurns.{IsTimelyTurn, every-timely}
use Rattle.world_runs.proofs.Coming.{coming-due}
use Rattle.world_runs.proofs.Taking.{AreInOrder, TakesOldest, due-takes-oldest}
use Rattle.world_runs.proofs.Planning.{AreDelivered, first-delivered, later-delivered}

-- a link on which this was sent and so many entries were taken
pub record IsLinkOf (fate : ℕ → Fate) (ss : List Sending) (taken : ℕ) (link : Link) : Type 0 where
  pub frames : link.frames ≡ frames_in ss
  pub queue : link.queue ≡ drop taken (entries fate ss)
  pub enough : taken ≤ length (entries fate ss)
  pub later : (j : ℕ) → frames_in ss < j → copies fate j (frames_in ss) ≡ falling j link.later

-- the copies that fall behind frame j, of those that fall later than frame i
stay-one : (i j : ℕ) (x : Later) (b c : Bool) (more rest : List Later) → (x.behind == i) ≡ b → (x.behind == j) ≡ c → (i == j) ≡ false → falling j more ≡ falling j rest
    → falling j (cond (not b) (x ∷ more) more) ≡ cond c (x.index ∷ falling j rest) (falling j rest)
stay-one i j x true true more rest hi hj differs same = absurd (let e = eqb-true x.behind i hi in let f = eqb-true x.behind j hj in let g : (i == j) ≡ true = subst (λ k. (k == j) ≡ true) e hj in cc)
stay-one i j x true false more rest hi hj differs same = same
stay-one i j x false true more rest hi hj differs same =
    ap (λ b. map (λ (y : Later). y.index) (cond b (x ∷ filter (λ (y : Later). y.behind == j) more) (filter (λ (y : Later). y.behind == j) more))) hj ∙ ap (λ (ks : List ℕ). x.index ∷ ks) same
stay-one i j x false false more rest hi hj differs same =
    ap (λ b. map (λ (y : Later). y.index) (cond b (x ∷ filter (λ (y : Later). y.behind == j) more) (filter (λ (y : Later). y.behind == j) more))) hj ∙ same

cons-falling : (j : ℕ) (x : Later) (xs : List Later) (c : Bool) → (x.behind == j) ≡ c → falling j (x ∷ xs) ≡ cond c (x.index ∷ falling j xs) (falling j xs)
cons-falling j x xs true h = ap (λ b. map (λ (y : Later). y.index) (cond b (x ∷ filter (λ (y : Later). y.behind == j) xs) (filter (λ (y : Later). y.behind == j) xs))) h
cons-falling j x xs false h = ap (λ b. map (λ (y : Later). y.index) (cond b (x ∷ filter (λ (y : Later). y.behind == j) xs) (filter (λ (y : Later). y.behind == j) xs))) h

falling-staying : (i j : ℕ) (xs : List Later) → (i == j) ≡ false → falling j (staying i xs) ≡ falling j xs
falling-staying i j [] differs = refl
falling-staying i j (x ∷ xs) differs =
    stay-one i j x (x.behind == i) (x.behind == j) (staying i xs) xs refl refl differs (falling-staying i j xs differs)
    ∙ sym (cons-falling j x xs (x.behind == j) refl)

falling-append : (j : ℕ) (xs ys : List Later) → falling j (xs ++ ys) ≡ falling j xs ++ falling j ys
falling-append j xs ys =
    ap (map (λ (y : Later). y.index)) (filter-append (λ (y : Later). y.behind == j) xs ys)
    ∙ map-append (λ (y : Later). y.index) (filter (λ (y : Later). y.behind == j) xs) (filter (λ (y : Later). y.behind == j) ys)

one-later : (j : ℕ) (x : Later) (c : Bool) → (x.behind == j) ≡ c → falling j (x ∷ []) ≡ copy_if c x.index
one-later j x true h = cons-falling j x [] true h
one-later j x false h = cons-falling j x [] false h

falling-own : (i j : ℕ) (fate : Fate) → falling j (later_of i fate) ≡ copy_if (falls_behind i j fate) i
falling-own i j Pass = refl
falling-own i j Lose = refl
falling-own i j (Twice n) = one-later j (record { index = i; behind = i + n }) (i + n == j) refl
falling-own i j (Late n) = one-later j (record { index = i; behind = i + n }) (i + n == j) refl

next-copies : (fate : ℕ → Fate) (j n : ℕ) → copies fate j (n + 1) ≡ copies fate j n ++ copy_if (falls_behind (n + 1) j (fate (n + 1))) (n + 1)
next-copies fate j n = subst (λ m. copies fate j m ≡ copies fate j n ++ copy_if (falls_behind m j (fate m)) m) (sym (add-one n)) refl

module _ (fate : ℕ → Fate) (ss : List Sending) (taken : ℕ) where
  -- what falls behind the next frame and later ones, with its own copy
  next-later : (link : Link) → IsLinkOf fate ss taken link → (k : ℕ) → frames_in ss + 1 ≡ k → (j : ℕ) → frames_in ss < j → copies fate j (frames_in ss + 1) ≡ falling j (link.later ++ later_of k (fate k))
  next-later link is k same j above =
      next-copies fate j (frames_in ss)
      ∙ ap (λ (ks : List ℕ). ks ++ copy_if (falls_behind (frames_in ss + 1) j (fate (frames_in ss + 1))) (frames_in ss + 1)) (is.later j above)
      ∙ ap (λ (i : ℕ). falling j link.later ++ copy_if (falls_behind i j (fate i)) i) same
      ∙ ap (λ (ks : List ℕ). falling j link.later ++ ks) (sym (falling-own k j (fate k)))
      ∙ sym (falling-append j link.later (later_of k (fate k)))

  -- a frame is sent
  frame-later : (link : Link) → IsLinkOf fate ss taken link → (k : ℕ) → frames_in ss + 1 ≡ k → (j : ℕ) → k < j → copies fate j (frames_in ss + 1) ≡ falling j (staying k (link.later ++ later_of k (fate k)))
  frame-later link is k same j above =
      let differs : (k == j) ≡ false = ne_eqb k j (λ e. absurd (omega (arith, e, above))) in
      next-later link is k same j (omega (arith, same, above)) ∙ sym (falling-staying k j (link.later ++ later_of k (fate k)) differs)

  put-behind : (link : Link) (more : List Entry) → IsLinkOf fate ss taken link → link.queue ++ more ≡ drop taken (entries fate ss ++ more)
  put-behind link more is = ap (λ (es : List Entry). es ++ more) is.queue ∙ sym (drop-append-le taken (entries fate ss) more is.enough)

  still-enough : (link : Link) (more : List Entry) → IsLinkOf fate ss taken link → taken ≤ length (entries fate ss ++ more)
  still-enough link more is = let e = length-append (entries fate ss) more in let f = is.enough in omega (arith, e, f)

  pub frame-sent : (link : Link) → IsLinkOf fate ss taken link → IsLinkOf fate (Sending.Frame ∷ ss) taken (frame_sent (fate (link.frames + 1)) link)
  frame-sent link is =
      let same : frames_in ss + 1 ≡ link.frames + 1 = ap (λ k. k + 1) (sym is.frames) in
      let n = frames_in ss in
      record {
        frames = sym same;
        queue =
            ap (λ k. link.queue ++ map Entry.Copy (in_place k (fate k) ++ falling k (link.later ++ later_of k (fate k)))) (sym same)
            ∙ ap (λ (ks : List ℕ). link.queue ++ map Entry.Copy (in_place (n + 1) (fate (n + 1)) ++ ks)) (sym (next-later link is (n + 1) refl (n + 1) (omega arith)))
            ∙ put-behind link (map Entry.Copy (due fate n)) is;
        enough = still-enough link (map Entry.Copy (due fate n)) is;
        later = λ j above. frame-later link is (link.frames + 1) same j (omega (arith, same, above));
      }

  pub mark-sent : (link : Link) (phase : ℕ) → IsLinkOf fate ss taken link → IsLinkOf fate (Sending.Mark phase ∷ ss) taken (mark_sent phase link)
  mark-sent link phase is = record {
    frames = is.frames;
    queue = put-behind link (Entry.Mark phase ∷ []) is;
    enough = still-enough link (Entry.Mark phase ∷ []) is;
    later = is.later;
  }

  -- entries are taken
  less : (link : Link) (n : ℕ) → IsLinkOf fate ss taken link → taken + n ≤ length (entries fate ss) → IsLinkOf fate ss (taken + n) (link_less n link)
  less link n is within = record {
    frames = is.frames;
    queue = ap (drop n) is.queue ∙ drop-drop n taken (entries fate ss);
    enough = within;
    later = is.later;
  }

pub sent-all : (fate : ℕ → Fate) (xs ss : List Sending) (taken : ℕ) (link : Link) → IsLinkOf fate ss taken link → IsLinkOf fate (xs ++ ss) taken (link_after fate xs link)
sent-all fate [] ss taken link is = is
sent-all fate (Sending.Frame ∷ xs) ss taken link is = frame-sent fate (xs ++ ss) taken (link_after fate xs link) (sent-all fate xs ss taken link is)
sent-all fate (Sending.Mark phase ∷ xs) ss taken link is = mark-sent fate (xs ++ ss) taken (link_after fate xs link) phase (sent-all fate xs ss taken link is)

-- a link of a world of turns
pub record AreLinks (plan : List FateRow) (w : World) : Type 0 where
  pub delivered : AreDelivered plan w
  pub links : (from to : ℕ) → IsLinkOf (fate_of plan from to) (sendings from to w.done) (length (entries_taken from to w.done)) (link_of plan from to w.done)

link-kept : (plan : List FateRow) (from to : ℕ) (e : Happening) (es : List Happening) → AreInOrder plan from to es → TakesOldest plan from to e.place.node e.what es
    → IsLinkOf (fate_of plan from to) (sendings from to es) (length (entries_taken from to es)) (link_of plan from to es)
    → IsLinkOf (fate_of plan from to) (sendings from to (e ∷ es)) (length (entries_taken from to (e ∷ es))) (link_of plan from to (e ∷ es))
link-kept plan from to e es order (rest, oldest) is =
    let here = entry_by from to e.place.node e.what in
    let taken = entries_taken from to es in
    let all : length (entries_put plan from to es) ≡ length taken + (length here + length rest) =
    ap (λ (xs : List Entry). length xs) (order.parts ∙ ap (λ (xs : List Entry). taken ++ xs) oldest)
    ∙ (length-append taken (here ++ rest) ∙ ap (λ k. length taken + k) (length-append here rest)) in
    let after = less (fate_of plan from to) (sendings from to es) (length taken) (link_of plan from to es) (length here) is (omega (arith, all)) in
    subst (λ k. IsLinkOf (fate_of plan from to) (sendings from to (e ∷ es)) k (link_of plan from to (e ∷ es))) (sym (length-append taken here))
    (sent-all (fate_of plan from to) (sent_by from to e) (sendings from to es) (length taken + length here) (link_less (length here) (link_of plan from to es)) after)

module _ (s : Setup) (setup : IsSetup s) (plan : List FateRow) where
  first-links : (from to : ℕ) → IsLinkOf (fate_of plan from to) [] 0 empty_link
  first-links from to = record { frames = refl; queue = refl; enough = omega arith; later = λ j above. refl }

  first-all : AreLinks plan (first_world s)
  first-all = record { delivered = first-delivered s setup plan; links = first-links }

  later-all : (old new : World) → IsTimelyTurn s plan old new → AreLinks plan old → AreLinks plan new
  later-all old new turn before = record {
    delivered = later-delivered s setup plan old new turn before.delivered;
    links = λ from to.
        let n = turn.is.act.node in
        let it = event_at n turn.is.act.what turn.is.step in
        let done : new.done ≡ it ∷ old.done = ap (λ (w : World). w.done) turn.is.world in
        subst (λ (es : List Happening). IsLinkOf (fate_of plan from to) (sendings from to es) (length (entries_taken from to es)) (link_of plan from to es)) (sym done)
        (link-kept plan from to it old.done (before.delivered.order from to)
        (due-takes-oldest plan old n turn.is.act.what (coming-due plan old n turn.is.act.what turn.is.comes) from to)
        (before.links from to));
  }

  pub turns-link : (cs : List ℕ) (w : World) → after_turns s plan cs ≡ Some w → IsTimely w → AreLinks plan w
  turns-link = every-timely s setup plan (AreLinks plan) first-all later-all
