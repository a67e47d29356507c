use Rattle.std.proofs.Common.{◌≡◌, ◌<◌, ℕ, false, List, Option, length, set, refl, sym, subst, ◌∙◌}
use Rattle.std.specs.Prelude.{IsSome, All}
use Rattle.dom_history.specs.Events.{Happening}
use Rattle.dom_history.specs.MergedLogs.{next_at}
use Rattle.dom_history.specs.declared.event.NodeLog.{NodeLog}
use Rattle.ring_links.specs.declared.merge.Rank.{Rank}
use Rattle.ring_links.specs.Merged.{AreLogs, AreMerged, left}
use Rattle.ring_links.specs.Ranks.{is_below, no_event, IsRankOf, AreNext, IsLeast}
use Rattle.ring_links.proofs.Coming.{left_fewer}
use Rattle.ring_links.proofs.Merging.{IsMerging, merging-step, merged}
use Rattle.ring_links.proofs.NextRanks.{least-first, none-next, next-step}
use Rattle.ring_links.proofs.merge.by_place.Goals as goal

pub pass-requires : goal.pass-requires
pass-requires c =
    let logs = c.loop-i.merged.logs in
    let came = c.loop-i.merged.came in
    let i = c.in-Some.i in
    let are = c.loop-i.invariant.nexts in
    let within = subst (λ n. i < n) are.same (subst (λ (rs : List Rank). i < length rs) c.as_slice.ensures.value c.in-Some.ensures.within) in
    let least = subst (λ (rs : List Rank). IsLeast rs i) c.as_slice.ensures.value c.in-Some.ensures.first in
    let first = least-first logs came c.loop-i.nexts.items are i within least in
    subst (λ (r : Option Happening). IsSome r) (sym first.next) refl

pub next_rank-requires : goal.next_rank-requires
next_rank-requires c =
    let are = c.loop-i.invariant.nexts in
    let within = subst (λ n. c.in-Some.i < n) are.same (subst (λ (rs : List Rank). c.in-Some.i < length rs) c.as_slice.ensures.value c.in-Some.ensures.within) in
    subst (λ (ls : List NodeLog). c.in-Some.i < length ls) (sym c.pass.ensures.logs) within

pub loop-i-smaller : goal.loop-i-smaller
loop-i-smaller c =
    let logs = c.loop-i.merged.logs in
    let came = c.loop-i.merged.came in
    let i = c.in-Some.i in
    let are = c.loop-i.invariant.nexts in
    let within = subst (λ n. i < n) are.same (subst (λ (rs : List Rank). i < length rs) c.as_slice.ensures.value c.in-Some.ensures.within) in
    let least = subst (λ (rs : List Rank). IsLeast rs i) c.as_slice.ensures.value c.in-Some.ensures.first in
    let first = least-first logs came c.loop-i.nexts.items are i within least in
    subst (λ (ls : List NodeLog). left ls c.pass.new.self.came < left logs came) (sym c.pass.ensures.logs)
    (subst (λ (cs : List ℕ). left logs cs < left logs came) (sym c.in_ok-pass-in-Some.ensures.came) (left_fewer logs came i first.event first.next))

pub loop-i-preserved : goal.loop-i-preserved
loop-i-preserved c =
    let logs = c.loop-i.merged.logs in
    let came = c.loop-i.merged.came in
    let i = c.in-Some.i in
    let are = c.loop-i.invariant.nexts in
    let within = subst (λ n. i < n) are.same (subst (λ (rs : List Rank). i < length rs) c.as_slice.ensures.value c.in-Some.ensures.within) in
    let least = subst (λ (rs : List Rank). IsLeast rs i) c.as_slice.ensures.value c.in-Some.ensures.first in
    let first = least-first logs came c.loop-i.nexts.items are i within least in
    let new = c.pass.new.self in
    let are-logs = subst AreLogs (sym c.loop-i.invariant.logs) c.requires in
    let more = c.in_ok-pass-in-Some.ensures.came in
    let rank = subst (λ (ls : List NodeLog). IsRankOf (next_at ls new.came i) c.next_rank.result) c.pass.ensures.logs c.next_rank.ensures in
    let merging = merging-step logs came new.came c.loop-i.merged.events new.events i are-logs c.loop-i.invariant.merging first more c.in_ok-pass-in-Some.ensures.events in
    let nexts = next-step logs came new.came c.loop-i.nexts.items i c.next_rank.result within are more rank in
    record {
      logs = c.pass.ensures.logs ∙ c.loop-i.invariant.logs;
      merging = subst (λ (ls : List NodeLog). IsMerging ls new.came new.events) (sym c.pass.ensures.logs) merging;
      nexts = subst (λ (ls : List NodeLog). AreNext ls new.came (set c.loop-i.nexts.items i c.next_rank.result)) (sym c.pass.ensures.logs) nexts;
    }

pub returns-in-None : goal.returns-in-None
returns-in-None c =
    let logs = c.loop-i.merged.logs in
    let came = c.loop-i.merged.came in
    let empty = subst (λ (rs : List Rank). All (λ r. is_below r no_event ≡ false) rs) c.as_slice.ensures.value c.in-None.ensures.first in
    let none = none-next logs came c.loop-i.nexts.items c.loop-i.invariant.nexts empty in
    subst (λ (ls : List NodeLog). AreMerged ls c.loop-i.merged.events) c.loop-i.invariant.logs (merged logs came c.loop-i.merged.events c.loop-i.invariant.merging none)
