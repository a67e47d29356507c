use Rattle.std.proofs.Common.{◌*◌, ◌∙◌, ℕ, length, arith, true, ap}
use Rattle.uid_names.specs.Segments.{segments}
use Rattle.uid_names.specs.declared.segment.TheConstants.{SEGMENT_SIZE}
use Rattle.dom_history.specs.declared.op.Reply.TheVariants.{At}
use Rattle.dom_history.specs.StoreEffects.{store_effects}
use Rattle.dom_history.specs.Mappings.{mappings, lowest_run}
use Rattle.dom_history.specs.Replies.{run_or_none}
use Rattle.plain_store.proofs.MapReplies.{many, few}
use Rattle.plain_store.proofs.answer.map_anew_reply.Goals as goal

pub returns-then-count_of-ge-PROCESS_MAPPINGS-clause-value : goal.returns-then-count_of-ge-PROCESS_MAPPINGS-clause-value
returns-then-count_of-ge-PROCESS_MAPPINGS-clause-value c = λ opening deeds held.
    let count = c.count_of.ensures opening (store_effects deeds) held.maps in
    many (length (mappings c.args.p (store_effects deeds))) _ _ (omega (arith, count, c.if-count_of-ge-PROCESS_MAPPINGS.true))

pub returns-in-Some-clause-value : goal.returns-in-Some-clause-value
returns-in-Some-clause-value c = λ opening deeds held.
    let count = c.count_of.ensures opening (store_effects deeds) held.maps in
    let room = c.room_of.ensures opening (store_effects deeds) held.objects in
    let run = c.in-Some.ensures.lowest opening (store_effects deeds) held.maps in
    (ap (λ (first : ℕ). At (first * SEGMENT_SIZE) true) c.from.ensures
    ∙ ap run_or_none (run ∙ ap (λ (r : ℕ). lowest_run opening (store_effects deeds) c.args.p (segments r)) room))
    ∙ few (length (mappings c.args.p (store_effects deeds))) _ _ (omega (arith, count, c.if-count_of-ge-PROCESS_MAPPINGS.false))

pub returns-in-None-clause-value : goal.returns-in-None-clause-value
returns-in-None-clause-value c = λ opening deeds held.
    let count = c.count_of.ensures opening (store_effects deeds) held.maps in
    let room = c.room_of.ensures opening (store_effects deeds) held.objects in
    let run = c.in-None.ensures.lowest opening (store_effects deeds) held.maps in
    ap run_or_none (run ∙ ap (λ (r : ℕ). lowest_run opening (store_effects deeds) c.args.p (segments r)) room)
    ∙ few (length (mappings c.args.p (store_effects deeds))) _ _ (omega (arith, count, c.if-count_of-ge-PROCESS_MAPPINGS.false))
