-- The turns of a seed end, in one way.
use Rattle.std.proofs.Common.{◌≡◌, ℕ, zero, suc, ◌*◌, ◌<◌, ◌≤◌, Bool, true, false, List, [], ◌∷◌, length, map, Option, Some, None, inl, inr, refl, sym, ap, subst, ◌∙◌, arith}
use Rattle.std.specs.Prelude.{◌⊎◌, ◌==◌, ◌&&◌, ◌^◌, cond, nat_le, sum}
use Rattle.std.proofs.lemmas.Bool.{cases_eq, cases_lt, cases_order}
use Rattle.std.proofs.lemmas.Bool.Decides.{nat_tests}
use Rattle.std.proofs.lemmas.Option.{same_Some}
use Rattle.uid_names.specs.Steps.{◌>>=◌}
use Rattle.uid_names.proofs.Passed.{equal}
use Rattle.uid_names.proofs.Somes.{bind-some}
use Rattle.dom_history.specs.declared.event.What.{What}
use Rattle.dom_history.specs.declared.plan.FateRow.{FateRow}
use Rattle.ring_messages.specs.Frames.{Message}
use Rattle.node_runs.specs.Setups.{Setup, IsSetup, given}
use Rattle.node_runs.specs.NodeStates.{NodeState}
use Rattle.node_runs.specs.Doings.{node_numbers}
use Rattle.node_runs.specs.NodesKeep.{IsTimely}
use Rattle.node_runs.specs.Runs.{World, SentMark, first_world, mark_of, frames_after}
use Rattle.node_runs.proofs.Calls.{put-same, put-other, frames-one}
use Rattle.world_runs.specs.Turns.{enabled_events, turn, after_turns}
use Rattle.dom_history.specs.declared.event.What.TheVariants.{Begin, Go, Take, Notice, Ready, Mark}
use Rattle.dom_history.specs.declared.event.Sent.{Sent}
use Rattle.node_runs.specs.CallsKeep.{EachOf}
use Rattle.node_runs.proofs.Receiving.{EachOf-more}
use Rattle.world_runs.proofs.Sent.{IsSent, step-sent}
use Rattle.world_runs.proofs.Alike.{marked_by, marks-marked}
use Rattle.world_runs.proofs.Counting.{incoming-low}
use Rattle.world_runs.proofs.Merging.{turns-merge}
use Rattle.world_runs.proofs.TimelyTurns.{IsTimelyTurn, timely-turn, every-timely}
use Rattle.drawn_numbers.specs.Draws.{drawn, state_after}
use Rattle.world_runs.specs.Draws.{draws, turns, IsBelow, EndsIn, ComesToLast, ticks_in}
use Rattle.world_runs.proofs.Turning.{IsTurn, act_place, turn-is, turn-tick, node-after, ticks-stay}
use Rattle.world_runs.proofs.Happening.{none-some, turn-none, none-turn}

module _ (s : Setup) (plan : List FateRow) (seed : ℕ) where
  -- a turn more
  next-turn : (k : ℕ) (w : World) → turns s plan seed (suc k) ≡ Some w → (v : World) × (turns s plan seed k ≡ Some v) × (turn s plan v (drawn (state_after seed (suc k))) ≡ Some w)
  next-turn k w e = bind-some (turns s plan seed k) (λ (v : World). turn s plan v (drawn (state_after seed (suc k)))) w e

  turn-then : (k : ℕ) (v w : World) → turns s plan seed k ≡ Some v → turn s plan v (drawn (state_after seed (suc k))) ≡ Some w → turns s plan seed (suc k) ≡ Some w
  turn-then k v w e f = ap (λ (o : Option World). o >>= λ (x : World). turn s plan x (drawn (state_after seed (suc k)))) e ∙ f

  same-world : (j k : ℕ) (u w : World) → j ≡ k → turns s plan seed j ≡ Some u → turns s plan seed k ≡ Some w → u ≡ w
  same-world j k u w same e f = same_Some u w (sym e ∙ (ap (turns s plan seed) same ∙ f))

  -- ticks never fall over turns
  ticks-to : (k j : ℕ) (u w : World) → j ≤ k → turns s plan seed j ≡ Some u → turns s plan seed k ≡ Some w → (n : ℕ) → (u.nodes n).tick ≤ (w.nodes n).tick
  ticks-to zero j u w within e f n = let same = same-world j 0 u w (omega (arith, within)) e f in let t = ap (λ (x : World). (x.nodes n).tick) same in omega (arith, t)
  ticks-to (suc k) j u w within e f n = elim (cases_eq j (suc k)) [
    | inl same ↦ (let equals = same-world j (suc k) u w same e f in let t = ap (λ (x : World). (x.nodes n).tick) equals in omega (arith, t))
    | inr differs ↦
        (let found = next-turn k w f in
        let before = ticks-to k j u found.0 (omega (arith, within, differs)) e found.1 n in
        let now = ticks-stay s plan found.0 w (turn-is s plan found.0 (drawn (state_after seed (suc k))) w found.2) n in
        omega (arith, before, now))
  ]

  -- where no event is enabled, no turn follows
  ended : (k j : ℕ) (u : World) → j < k → turns s plan seed j ≡ Some u → enabled_events s plan u ≡ [] → turns s plan seed k ≡ None
  ended zero j u before e none = absurd (omega (arith, before))
  ended (suc k) j u before e none = elim (cases_eq j k) [
    | inl same ↦
        ap (λ (o : Option World). o >>= λ (x : World). turn s plan x (drawn (state_after seed (suc k)))) (sym (ap (turns s plan seed) same) ∙ e)
        ∙ none-turn s plan u (drawn (state_after seed (suc k))) none
    | inr differs ↦
        ap (λ (o : Option World). o >>= λ (x : World). turn s plan x (drawn (state_after seed (suc k)))) (ended k j u (omega (arith, before, differs)) e none)
  ]

  -- no tick came to the last one before it does
  not-below : (last : ℕ) (k j : ℕ) (u w : World) (n : ℕ) → j ≤ k → turns s plan seed j ≡ Some u → turns s plan seed k ≡ Some w → (u.nodes n).tick ≡ last → IsBelow last w → ⊥
  not-below last k j u w n within e f came below = let t = ticks-to k j u w within e f n in let b = below n in absurd (omega (arith, t, b, came))

  pub one-end : (last : ℕ) (w v : World) → EndsIn s plan seed last w → EndsIn s plan seed last v → w ≡ v
  one-end last w v a b = elim (cases_order a.count b.count) [
    | inl same ↦ same-world a.count b.count w v same a.comes b.comes
    | inr apart ↦ elim apart [
      | inl before ↦ absurd (none-some (turns s plan seed b.count) v (ended b.count a.count w before a.comes a.nothing) b.comes)
      | inr after ↦ absurd (none-some (turns s plan seed a.count) w (ended a.count b.count v after b.comes b.nothing) a.comes)
    ]
  ]

  -- which node came to the last tick
  who : (last n : ℕ) (a : ComesToLast s plan seed last n) → (act : ℕ) × (n ≡ act) × ((m : ℕ) → (a.after.nodes m).tick ≡ last → m ≡ act)
  who last n a =
      let found = next-turn a.count a.after a.next in
      let same = same_Some found.0 a.before (sym found.1 ∙ a.comes) in
      let is = turn-is s plan a.before (drawn (state_after seed (suc a.count))) a.after (subst (λ (x : World). turn s plan x (drawn (state_after seed (suc a.count))) ≡ Some a.after) same found.2) in
      (is.act.node, only is n a.tick, only is)
    where
      only : (is : IsTurn s plan a.before a.after) → (m : ℕ) → (a.after.nodes m).tick ≡ last → m ≡ is.act.node
      only is m came = elim (cases_eq m is.act.node) [
        | inl same ↦ same
        | inr differs ↦
            absurd (let e = ap (λ (x : NodeState). x.tick) (node-after s plan a.before a.after is m ∙ put-other a.before.nodes is.act.node m is.step.node differs) in
            let b = a.below m in omega (arith, e, b, came))
      ]

  pub one-last : (last n m : ℕ) → ComesToLast s plan seed last n → ComesToLast s plan seed last m → n ≡ m
  one-last last n m a b = elim (cases_order a.count b.count) [
    | inl same ↦
        (let equals = same-world (suc a.count) (suc b.count) a.after b.after (ap suc same) a.next b.next in
        let by = who last n a in
        let other = by.2 m (ap (λ (x : World). (x.nodes m).tick) equals ∙ b.tick) in
        by.1 ∙ sym other)
    | inr apart ↦ elim apart [
      | inl before ↦ absurd (not-below last b.count (suc a.count) a.after b.before n (omega (arith, before)) a.next b.comes a.tick b.below)
      | inr after ↦ absurd (not-below last a.count (suc b.count) b.after a.before m (omega (arith, after)) b.next a.comes b.tick a.below)
    ]
  ]

  pub not-both : (last n : ℕ) (w : World) → EndsIn s plan seed last w → ComesToLast s plan seed last n → ⊥
  not-both last n w a b = elim (cases_lt a.count (suc b.count)) [
    | inl before ↦ none-some (turns s plan seed (suc b.count)) b.after (ended (suc b.count) a.count w before a.comes a.nothing) b.next
    | inr after ↦ not-below last a.count (suc b.count) b.after w n after b.next a.comes b.tick a.below
  ]

-- a node is one of eight
by-node : (P : ℕ → Type 0) → P 1 → P 2 → P 3 → P 4 → P 5 → P 6 → P 7 → P 8 → (n : ℕ) → 1 ≤ n → n ≤ 8 → P n
by-node P a b c d e f g h zero low high = absurd (omega (arith, low))
by-node P a b c d e f g h (suc zero) low high = a
by-node P a b c d e f g h (suc (suc zero)) low high = b
by-node P a b c d e f g h (suc (suc (suc zero))) low high = c
by-node P a b c d e f g h (suc (suc (suc (suc zero)))) low high = d
by-node P a b c d e f g h (suc (suc (suc (suc (suc zero))))) low high = e
by-node P a b c d e f g h (suc (suc (suc (suc (suc (suc zero)))))) low high = f
by-node P a b c d e f g h (suc (suc (suc (suc (suc (suc (suc zero))))))) low high = g
by-node P a b c d e f g h (suc (suc (suc (suc (suc (suc (suc (suc zero)))))))) low high = h
by-node P a b c d e f g h (suc (suc (suc (suc (suc (suc (suc (suc (suc n))))))))) low high = absurd (omega (arith, high))

-- a turn raises the ticks of all nodes together
rises : (old new : ℕ → ℕ) → ((n : ℕ) → old n ≤ new n) → (n : ℕ) → 1 ≤ n → n ≤ 8 → old n < new n → sum (map old node_numbers) < sum (map new node_numbers)
rises old new stay =
    let a = stay 1 in let b = stay 2 in let c = stay 3 in let d = stay 4 in let e = stay 5 in let f = stay 6 in let g = stay 7 in let h = stay 8 in
    by-node (λ n. old n < new n → sum (map old node_numbers) < sum (map new node_numbers))
    (λ m. omega (arith, a, b, c, d, e, f, g, h, m))
    (λ m. omega (arith, a, b, c, d, e, f, g, h, m))
    (λ m. omega (arith, a, b, c, d, e, f, g, h, m))
    (λ m. omega (arith, a, b, c, d, e, f, g, h, m))
    (λ m. omega (arith, a, b, c, d, e, f, g, h, m))
    (λ m. omega (arith, a, b, c, d, e, f, g, h, m))
    (λ m. omega (arith, a, b, c, d, e, f, g, h, m))
    (λ m. omega (arith, a, b, c, d, e, f, g, h, m))

pub all-below : (last : ℕ) (ticks : ℕ → ℕ) → ((n : ℕ) → ticks n < last) → sum (map ticks node_numbers) < 8 * last
all-below last ticks below =
    let a = below 1 in let b = below 2 in let c = below 3 in let d = below 4 in let e = below 5 in let f = below 6 in let g = below 7 in let h = below 8 in
    omega (arith, a, b, c, d, e, f, g, h)

module _ (s : Setup) (setup : IsSetup s) (plan : List FateRow) where
  turn-raises : (old new : World) → IsTurn s plan old new → ticks_in old < ticks_in new
  turn-raises old new is =
      let node : (nat_le 1 is.act.node && nat_le is.act.node s.opening.nodes) ≡ true = is.node in
      let most = setup.start.nodes_high in
      let high : is.act.node ≤ s.opening.nodes = grind (arith, nat_tests, node) in
      let now = ap (λ (x : NodeState). x.tick) (node-after s plan old new is is.act.node ∙ put-same old.nodes is.act.node is.act.node is.step.node refl) in
      let tick = turn-tick s plan old new is in
      rises (λ n. (old.nodes n).tick) (λ n. (new.nodes n).tick) (ticks-stay s plan old new is) is.act.node (grind (arith, nat_tests, node)) (omega (arith, high, most)) (omega (arith, now, tick))

  -- there are no more turns than ticks
  pub turns-few : (cs : List ℕ) (w : World) → after_turns s plan cs ≡ Some w → length cs ≤ ticks_in w
  turns-few [] w e = omega arith
  turns-few (c ∷ cs) w e =
      let found = bind-some (after_turns s plan cs) (λ (v : World). turn s plan v c) w e in
      let before = turns-few cs found.0 found.1 in
      let more = turn-raises found.0 w (turn-is s plan found.0 c w found.2) in
      omega (arith, before, more)

-- what was sent is not later than its sender
pub record AreSentLow (w : World) : Type 0 where
  pub frames : (from to : ℕ) → EachOf (λ m. m.tick ≤ (w.nodes from).tick) (w.frames from to)
  pub marks : (from phase : ℕ) (m : SentMark) → mark_of w from phase ≡ Some m → m.tick ≤ (w.nodes from).tick

module _ (s : Setup) (setup : IsSetup s) (plan : List FateRow) where
  module _ (old new : World) (turn : IsTimelyTurn s plan old new) (before : AreSentLow old) where
    abbrev n0 : ℕ
    n0 = turn.is.act.node

    now : (new.nodes n0).tick ≡ turn.is.step.node.tick
    now = ap (λ (x : NodeState). x.tick) (node-after s plan old new turn.is n0 ∙ put-same old.nodes n0 n0 turn.is.step.node refl)

    stay : (n : ℕ) → (old.nodes n).tick ≤ (new.nodes n).tick
    stay = ticks-stay s plan old new turn.is

    olds : (from to : ℕ) → EachOf (λ m. m.tick ≤ (new.nodes from).tick) (old.frames from to)
    olds from to = EachOf-more (λ m. m.tick ≤ (old.nodes from).tick) (λ m. m.tick ≤ (new.nodes from).tick) (old.frames from to) (λ m low. let e = stay from in omega (arith, low, e)) (before.frames from to)

    frame-low : (o : Option Message) (x : Option Sent) → IsSent turn.is.step.node.tick o x → (from to : ℕ) → EachOf (λ m. m.tick ≤ (new.nodes from).tick) (frames_after old n0 o from to)
    frame-low None x sent from to = olds from to
    frame-low (Some m) None sent from to = absurd sent
    frame-low (Some m) (Some x) sent from to = frames-one old n0 m (λ a b y. y.tick ≤ (new.nodes a).tick) (let e = sent.0 in let f = now in omega (arith, e, f)) olds from to

    mark-low : (what : What) (from phase : ℕ) (o : Option SentMark) (m : SentMark) → ((x : SentMark) → o ≡ Some x → x.tick ≤ (new.nodes from).tick) → marked_by n0 turn.is.step.node.tick what from phase o ≡ Some m → m.tick ≤ (new.nodes from).tick
    mark-low (Begin p) from phase o m each e = each m e
    mark-low (Go p) from phase o m each e = each m e
    mark-low (Take a k) from phase o m each e = each m e
    mark-low (Notice p a b k) from phase o m each e = each m e
    mark-low (Mark a k) from phase o m each e = each m e
    mark-low (Ready k) from phase o m each e = by_test (n0 == from) (k == phase) refl e
      where
        by_test : (b d : Bool) → (n0 == from) ≡ b → cond (b && d) (Some (record { node = n0; phase = k; tick = turn.is.step.node.tick })) o ≡ Some m → m.tick ≤ (new.nodes from).tick
        by_test true true is f =
            (let same = ap (λ (x : SentMark). x.tick) (same_Some (record { node = n0; phase = k; tick = turn.is.step.node.tick }) m f) in
            let t = ap (λ (i : ℕ). (new.nodes i).tick) (equal n0 from is) in let g = now in omega (arith, same, t, g))
        by_test true false is f = each m f
        by_test false d is f = each m f

    later-sent-low : AreSentLow new
    later-sent-low = record {
      frames = λ from to.
          subst (λ (w : World). EachOf (λ m. m.tick ≤ (new.nodes from).tick) (w.frames from to)) (sym turn.is.world)
          (frame-low turn.is.step.frame turn.is.step.effects.sent (step-sent (given s n0) (old.nodes n0) turn.is.act.what turn.is.incoming turn.is.step.effects.dropped turn.is.step turn.steps) from to);
      marks = λ from phase m e.
          mark-low turn.is.act.what from phase (mark_of old from phase) m (λ x f. let a = before.marks from phase x f in let b = stay from in omega (arith, a, b))
          (sym (marks-marked old (act_place turn.is.act turn.is.step) turn.is.act.what turn.is.step from phase) ∙ ap (λ (w : World). mark_of w from phase) (sym turn.is.world) ∙ e);
    }

    -- from below the last tick, a turn comes to it at most
    next-low : (most : ℕ) → IsBelow (suc most) old → (n : ℕ) → (new.nodes n).tick ≤ suc most
    next-low most below n = elim (cases_eq n n0) [
      | inl same ↦
          (let came = incoming-low most old
          (λ from to. EachOf-more (λ m. m.tick ≤ (old.nodes from).tick) (λ m. m.tick ≤ most) (old.frames from to) (λ m low. let b = below from in omega (arith, low, b)) (before.frames from to))
          (λ from phase m e. let a = before.marks from phase m e in let b = below from in omega (arith, a, b))
          n0 turn.is.act.what turn.is.incoming turn.is.receives in
          let tick = turn-tick s plan old new turn.is in let own = below n0 in let e = now in
          let f = ap (λ (i : ℕ). (new.nodes i).tick) same in omega (arith, came, tick, own, e, f))
      | inr differs ↦
          (let e = ap (λ (x : NodeState). x.tick) (node-after s plan old new turn.is n ∙ put-other old.nodes n0 n turn.is.step.node differs) in
          let b = below n in omega (arith, e, b))
    ]

  turns-low : (cs : List ℕ) (w : World) → after_turns s plan cs ≡ Some w → IsTimely w → AreSentLow w
  turns-low = every-timely s setup plan AreSentLow (record { frames = λ from to. tt; marks = λ from phase m e. absurd (cc) }) later-sent-low

  pub turn-low : (last : ℕ) → last ≤ 2 ^ 40 → (cs : List ℕ) (old new : World) (choice : ℕ) → after_turns s plan cs ≡ Some old → IsBelow last old → turn s plan old choice ≡ Some new → (n : ℕ) → (new.nodes n).tick ≤ last
  turn-low zero small cs old new choice before below e n = absurd (let b = below 0 in omega (arith, b))
  turn-low (suc most) small cs old new choice before below e n =
      let timely : IsTimely old = λ m. (let b = below m in omega (arith, b, small)) in
      next-low old new (timely-turn s setup plan cs old new before (turn-is s plan old choice new e) timely) (turns-low cs old before timely) most below n

-- the turns of a seed come to an end, or to the last tick
module _ (s : Setup) (setup : IsSetup s) (plan : List FateRow) (seed last : ℕ) (least : 1 ≤ last) (most : last ≤ 2 ^ 40) where
  abbrev Ends : Type 0
  Ends = (w : World) × EndsIn s plan seed last w

  abbrev Lasts : Type 0
  Lasts = (n : ℕ) × ComesToLast s plan seed last n

  abbrev Goes : ℕ → Type 0
  Goes k = (w : World) × (turns s plan seed k ≡ Some w) × IsBelow last w

  timely-below : (w : World) → IsBelow last w → IsTimely w
  timely-below w below n = let b = below n in omega (arith, b, most)

  by-turn : (k : ℕ) (w : World) → turns s plan seed k ≡ Some w → IsBelow last w → (o : Option World) → turn s plan w (drawn (state_after seed (suc k))) ≡ o → Ends ⊎ (Lasts ⊎ Goes (suc k))
  by-turn k w e below None none =
      let timely = timely-below w below in
      inl (w, record { count = k; comes = e; nothing = turn-none s setup plan w ((turns-merge s setup plan (draws seed k) w e).merged timely) timely (drawn (state_after seed (suc k))) none; below = below })
  by-turn k w e below (Some v) goes =
      let next = turn-then s plan seed k w v e goes in
      let is = turn-is s plan w (drawn (state_after seed (suc k))) v goes in
      let low = turn-low s setup plan last most (draws seed k) w v (drawn (state_after seed (suc k))) e below goes in
      elim (cases_eq (v.nodes is.act.node).tick last) [
        | inl came ↦ inr (inl (is.act.node, record { count = k; before = w; after = v; comes = e; below = below; next = next; tick = came }))
        | inr not_yet ↦ inr (inr (v, next, still is (omega (arith, low is.act.node, not_yet))))
      ]
    where
      still : (is : IsTurn s plan w v) → (v.nodes is.act.node).tick < last → IsBelow last v
      still is own n = elim (cases_eq n is.act.node) [
        | inl same ↦ subst (λ m. (v.nodes m).tick < last) (sym same) own
        | inr differs ↦
            (let t = ap (λ (x : NodeState). x.tick) (node-after s plan w v is n ∙ put-other w.nodes is.act.node n is.step.node differs) in
            let b = below n in omega (arith, t, b))
      ]

  so-far : (k : ℕ) → Ends ⊎ (Lasts ⊎ Goes k)
  so-far zero = inr (inr (first_world s, refl, λ n. omega (arith, least)))
  so-far (suc k) = elim (so-far k) [
    | inl ends ↦ inl ends
    | inr more ↦ elim more [
      | inl came ↦ inr (inl came)
      | inr goes ↦ by-turn k goes.0 goes.1 goes.2 (turn s plan goes.0 (drawn (state_after seed (suc k)))) refl
    ]
  ]

  draws-many : (k : ℕ) → length (draws seed k) ≡ k
  draws-many zero = refl
  draws-many (suc k) = let e = draws-many k in omega (arith, e)

  pub an-end : Ends ⊎ Lasts
  an-end = elim (so-far (8 * last)) [
    | inl ends ↦ inl ends
    | inr more ↦ elim more [
      | inl came ↦ inr came
      | inr goes ↦
          absurd (let few = turns-few s setup plan (draws seed (8 * last)) goes.0 goes.1 in
          let many = draws-many (8 * last) in
          let low = all-below last (λ n. (goes.0.nodes n).tick) goes.2 in
          omega (arith, few, many, low))
    ]
  ]
