-- No more frames were sent on a link than the node's tick.
use Rattle.std.proofs.Common.{◌≡◌, ℕ, ◌+◌, ◌≤◌, Bool, true, false, cond, List, [], ◌∷◌, length, Option, Some, None, sym, ap, subst, ◌∙◌, arith}
use Rattle.std.specs.Prelude.{◌==◌}
use Rattle.std.proofs.lemmas.List.{length-map}
use Rattle.std.proofs.lemmas.Option.{same_Some}
use Rattle.dom_history.specs.declared.plan.Fate.{Fate}
use Rattle.ring_messages.specs.Frames.{Message}
use Rattle.ring_messages.specs.Spelling.{spelling}
use Rattle.node_runs.specs.Setups.{Setup, given}
use Rattle.node_runs.specs.NodeStates.{NodeState}
use Rattle.node_runs.specs.Runs.{World, first_world}
use Rattle.node_runs.proofs.Calls.{put-same}
use Rattle.node_runs.proofs.Ticks.{step_of-tick}
use Rattle.world_runs.proofs.Alike.{added, frames-added}
use Rattle.local_runs.specs.LocalRuns.{Own, IsLocalRun}
use Rattle.local_runs.proofs.Alone.{last-of}
use Rattle.wire_links.specs.declared.carried.Parcel.TheVariants as parcel
use Rattle.wire_links.specs.Carrying.{Posting, wire_after, frames_of}
use Rattle.wire_links.proofs.Keeping.{carries-after}

one-more : (b c : Bool) (m : Message) (xs : List Message) → length (cond b (cond c (m ∷ xs) xs) xs) ≤ length xs + 1
one-more true true m xs = omega arith
one-more true false m xs = omega arith
one-more false c m xs = omega arith

added-few : (n : ℕ) (f : Option Message) (from to : ℕ) (xs : List Message) → length (added n f from to xs) ≤ length xs + 1
added-few n None from to xs = omega arith
added-few n (Some m) from to xs = one-more (from == n) (to == m.to) m xs

pub frames-low : (s : Setup) (n : ℕ) (own : List Own) (w : World) → IsLocalRun s n own w → (to : ℕ) → length (w.frames n to) ≤ (w.nodes n).tick
frames-low s n [] w is to = subst (λ (v : World). length (v.frames n to) ≤ (v.nodes n).tick) (same_Some (first_world s) w is.run) (omega arith)
frames-low s n (x ∷ older) w is to =
    let after = last-of s n x older w is in
    let m = x.event.place.node in
    let at : m ≡ n = is.node.0 in
    let low = frames-low s n older after.before after.run to in
    let tick = step_of-tick (given s m) (after.before.nodes m) x.event.what x.received x.event.effects.dropped after.next.step after.next.steps in
    let own_tick : (after.before.nodes m).tick ≡ (after.before.nodes n).tick = ap (λ (k : ℕ). (after.before.nodes k).tick) at in
    let now : (w.nodes n).tick ≡ after.next.step.node.tick =
    ap (λ (v : World). (v.nodes n).tick) after.next.world ∙ ap (λ (y : NodeState). y.tick) (put-same after.before.nodes m n after.next.step.node (sym at)) in
    let frames : length (w.frames n to) ≡ length (added m after.next.step.frame n to (after.before.frames n to)) =
    ap (λ (v : World). length (v.frames n to)) after.next.world ∙ ap (λ (xs : List Message). length xs) (frames-added after.before m after.next.step.frame n to) in
    let few = added-few m after.next.step.frame n to (after.before.frames n to) in
    omega (arith, low, tick, own_tick, now, frames, few)

-- a wire counts its frames
pub wire-counts : (fate : ℕ → Fate) (xs : List Posting) → (wire_after fate xs).frames ≡ length (frames_of xs)
wire-counts fate xs = sym (carries-after fate xs).frames ∙ length-map (frames_of xs) (λ (m : Message). parcel.Frame (spelling m))
