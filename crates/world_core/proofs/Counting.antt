-- All nodes together have few enabled events.
use Rattle.std.proofs.Common.{◌≡◌, ℕ, suc, ◌+◌, ◌*◌, ◌<◌, ◌≤◌, Bool, true, false, Option, Some, None, List, [], ◌∷◌, ◌++◌, map, length, refl, sym, ap, arith}
use Rattle.std.specs.Prelude.{All, filter, flat_map, not, ◌==◌, ◌^◌, sum}
use Rattle.std.proofs.lemmas.Grind.{common_steps}
use Rattle.std.proofs.lemmas.List.{length-map}
use Rattle.std.proofs.lemmas.List.Elements.{All-head, All-tail}
use Rattle.uid_names.proofs.ListLemmas.{length-filter_le}
use Rattle.uid_names.proofs.Somes.{bind-some}
use Rattle.dom_history.specs.declared.op.Reply.{Reply}
use Rattle.dom_history.specs.declared.op.Want.{Want}
use Rattle.dom_history.specs.declared.event.What.TheVariants.{Notice as Told, Ready}
use Rattle.dom_history.specs.declared.event.Sent.{Sent}
use Rattle.dom_history.specs.declared.plan.FateRow.{FateRow}
use Rattle.dom_history.specs.Events.{Happening}
use Rattle.ring_messages.specs.Frames.{Message, caller_of}
use Rattle.node_runs.specs.Setups.{Setup}
use Rattle.node_runs.specs.Deliveries.{is_gone}
use Rattle.node_runs.specs.Doings.{node_numbers}
use Rattle.node_runs.specs.Runs.{numbered}
use Rattle.node_runs.specs.Runs as runs
use Rattle.dom_history.specs.Plans.{fate_of}
use Rattle.world_runs.specs.Sendings.{frames_on}
use Rattle.world_runs.specs.Gone.{FrameName, frame_if, gone_by, gone_in, was_told, notice_if, notice_of, notices_at}
use Rattle.world_runs.specs.Turns.{turn, after_turns, is_enabled}
use Rattle.world_runs.specs.OpenNotices.{open_notices}
use Rattle.world_runs.proofs.Turning.{turn-is}
use Rattle.world_runs.proofs.Ending.{turns-few}
use Rattle.ring_links.specs.declared.entry.Entry.{Entry}
use Rattle.node_core.specs.declared.setup.Incoming as code
use Rattle.node_core.specs.Nodes.{Noted, state_of}
use Rattle.ring_links.specs.declared.notice.Notice.{Notice}
use Rattle.world_core.specs.declared.station.LinkFrom.{LinkFrom}
use Rattle.world_core.specs.declared.station.Station.{Station}
use Rattle.world_core.specs.declared.world.World.{World}
use Rattle.ring_links.specs.Notices.{notice_what}
use Rattle.world_core.specs.Stations.{Candidate, noticed, oldest, oldest_of, start, passes, comings, candidates}
use Rattle.world_core.specs.Places.{enabled_counts}
use Rattle.world_core.specs.Stands.{Stands}
use Rattle.ended_nodes.proofs.Elements.{map_at, all_at}

many-append : {A : Type 0} (xs ys : List A) → length (xs ++ ys) ≡ length xs + length ys
many-append xs ys = grind (arith, common_steps)

few-flat : {A B : Type 0} (f : A → List B) → ((x : A) → length (f x) ≤ 1) → (xs : List A) → length (flat_map f xs) ≤ length xs
few-flat f one [] = omega arith
few-flat f one (x ∷ xs) =
    let first = one x in let rest = few-flat f one xs in let both = many-append (f x) (flat_map f xs) in omega (arith, first, rest, both)

few-frames : (b : Bool) (f : FrameName) → length (frame_if b f) ≤ 1
few-frames true f = omega arith
few-frames false f = omega arith

few-gone : (plan : List FateRow) (from : ℕ) (sent : Option Sent) (older : List Happening) → length (gone_by plan from sent older) ≤ 1
few-gone plan from None older = omega arith
few-gone plan from (Some sent) older =
    few-frames (is_gone (fate_of plan from sent.to (frames_on from sent.to older + 1))) (from, sent.to, frames_on from sent.to older + 1)

-- no more frames are lost or late than events were done
gone-few : (plan : List FateRow) (es : List Happening) → length (gone_in plan es) ≤ length es
gone-few plan [] = omega arith
gone-few plan (e ∷ older) =
    let before = gone-few plan older in
    let one = few-gone plan e.place.node e.effects.sent older in
    let both = many-append (gone_in plan older) (gone_by plan e.place.node e.effects.sent older) in
    omega (arith, before, one, both)

few-notices : (n : ℕ) (f : FrameName) (m : Option Message) → length (notice_of n f m) ≤ 1
few-notices n f None = omega arith
few-notices n f (Some m) = by-node ((caller_of m).node == n)
  where
    by-node : (b : Bool) → length (notice_if b (Told m.proc f.0 f.1 f.2)) ≤ 1
    by-node true = omega arith
    by-node false = omega arith

notices-few : (plan : List FateRow) (w : runs.World) (n : ℕ) → length (notices_at plan w n) ≤ length w.done
notices-few plan w n =
    let told = length-filter_le (λ f. not (was_told w.done f)) (gone_in plan w.done) in
    let each = few-flat (λ f. notice_of n f (numbered f.2 (w.frames f.0 f.1))) (λ f. few-notices n f (numbered f.2 (w.frames f.0 f.1))) (filter (λ f. not (was_told w.done f)) (gone_in plan w.done)) in
    let gone = gone-few plan w.done in
    omega (arith, told, each, gone)

open-few : (s : Setup) (plan : List FateRow) (w : runs.World) (n : ℕ) → length (open_notices s plan w n) ≤ length w.done
open-few s plan w n =
    let open_ones = length-filter_le (is_enabled s w n) (notices_at plan w n) in
    let all = notices-few plan w n in
    omega (arith, open_ones, all)

-- each turn does one event
done-many : (s : Setup) (plan : List FateRow) (cs : List ℕ) (w : runs.World) → after_turns s plan cs ≡ Some w → length w.done ≡ length cs
done-many s plan [] w e = let same : runs.first_world s ≡ w = cc in ap (λ (v : runs.World). length v.done) (sym same)
done-many s plan (c ∷ cs) w e =
    let found = bind-some (after_turns s plan cs) (λ (v : runs.World). turn s plan v c) w e in
    let before = done-many s plan cs found.0 found.1 in
    let world = ap (λ (v : runs.World). length v.done) (turn-is s plan found.0 c w found.2).world in
    omega (arith, before, world)

ticks-most : (most : ℕ) (ticks : ℕ → ℕ) → ((n : ℕ) → ticks n ≤ most) → sum (map ticks node_numbers) ≤ 8 * most
ticks-most most ticks low =
    let a = low 1 in let b = low 2 in let c = low 3 in let d = low 4 in let e = low 5 in let f = low 6 in let g = low 7 in let h = low 8 in
    omega (arith, a, b, c, d, e, f, g, h)

few-noticed : (i : ℕ) (ns : List Notice) → length (noticed i ns) ≡ length ns
few-noticed i [] = refl
few-noticed i (x ∷ more) = ap suc (few-noticed (i + 1) more)

few-oldest-of : (i from : ℕ) (queue : List (Entry code.Incoming)) → length (oldest_of i from queue) ≤ 1
few-oldest-of i from [] = omega arith
few-oldest-of i from (e ∷ more) = omega arith

few-oldest : (i : ℕ) (ins : List LinkFrom) → length (oldest i ins) ≤ length ins
few-oldest i [] = omega arith
few-oldest i (l ∷ more) =
    let one = few-oldest-of i l.from l.link.queue in
    let rest = few-oldest (i + 1) more in
    let both = many-append (oldest_of i l.from l.link.queue) (oldest (i + 1) more) in
    omega (arith, one, rest, both)

few-comings : {P : Type 0} (node : Noted P) (notices : List Notice) (ins : List LinkFrom) → length (comings node (candidates node notices ins)) ≤ 9 + (length notices + length ins)
few-comings {P} node notices ins =
    let ready : List Candidate = start (Ready (state_of node).phase) ∷ [] in
    let map = length-map (filter (passes node) (candidates node notices ins)) (λ (c : Candidate). c.coming) in
    let kept = length-filter_le (passes node) (candidates node notices ins) in
    let named = few-noticed 0 notices in
    let links = few-oldest 0 ins in
    let a = many-append (noticed 0 notices) (oldest 0 ins ++ ready) in
    let b = many-append (oldest 0 ins) ready in
    omega (arith, map, kept, named, links, a, b)

sum-few : (most : ℕ) (ns : List ℕ) → All (λ n. n ≤ most) ns → sum ns ≤ length ns * most
sum-few most [] all = omega arith
sum-few most (n ∷ ns) all =
    let first = All-head (λ n. n ≤ most) n ns all in
    let rest = sum-few most ns (All-tail (λ n. n ≤ most) n ns all) in
    grind (arith, common_steps, first, rest)

module _ {P G : Type 0} (wants : P → Want) (becomes : P → Option Reply → P) (made : ℕ → ℕ → Option P) (s : Setup) where
  -- few events were done
  pub done-few : (x : World P G) (w : runs.World) → Stands wants becomes made s x w → length w.done ≤ 8 * 2 ^ 40
  done-few x w stands =
      let done = done-many s x.plan stands.choices w stands.turns in
      let turns = turns-few s stands.setup x.plan stands.choices w stands.turns in
      let ticks = ticks-most (2 ^ 40) (λ m. (w.nodes m).tick) stands.timely in
      omega (arith, done, turns, ticks)

  pub counts-few : (x : World P G) (w : runs.World) → Stands wants becomes made s x w → sum (enabled_counts x.stations.items) < 2 ^ 64
  counts-few x w stands =
      let each = all_at (λ n. n ≤ 8 * 2 ^ 40 + 17) (enabled_counts x.stations.items) (λ k n e.
      (let found = map_at (λ (y : Station P G). length y.enabled.items) x.stations.items k n e in
      let y = found.0 in
      let st = stands.station k found.0 found.1 in
      let listed = ap length st.listed in
      let most = few-comings y.node y.notices.items y.ins.items in
      let names = length-map y.notices.items notice_what in
      let open_ones = ap length st.notices in
      let few = open-few s x.plan w (k + 1) in
      let done = done-few x w stands in
      let links = st.links in
      let nodes = stands.setup.start.nodes_high in
      let is = found.2 in
      omega (arith, listed, most, names, open_ones, few, done, links, nodes, is))) in
      let all = sum-few (8 * 2 ^ 40 + 17) (enabled_counts x.stations.items) each in
      let many = length-map x.stations.items (λ (y : Station P G). length y.enabled.items) in
      let count = stands.count in
      let nodes = stands.setup.start.nodes_high in
      omega (arith, all, many, count, nodes)
