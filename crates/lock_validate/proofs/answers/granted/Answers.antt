use Rattle.std.proofs.Common.{◌≡◌, false, is_some, sym, subst, ◌∙◌}
use Rattle.std.specs.Prelude.{not}
use Rattle.std.proofs.lemmas.Result.{err_from_is_err_and}
use Rattle.uid_names.proofs.Passed.{right-true}
use Rattle.version_stamps.specs.Stamps.{stamp_of}
use Rattle.fault_handler.specs.Desks.{DeskState, others_keep}
use Rattle.lock_validate.specs.Answers.{is_fresh}
use Rattle.fault_handler.proofs.Nothing.{unkept-clean, unkept-still}
use Rattle.lock_validate.proofs.Dropping.{outdated-unkept}
use Rattle.lock_validate.proofs.Learning.{stale-seen, unseen-outdated, learned-seen}
use Rattle.lock_validate.proofs.answers.granted.Goals as goal

-- No process keeps the object, so none of its pages is dirty or on its way home.
pub drop_pages-requires-clause-clean : goal.drop_pages-requires-clause-clean
drop_pages-requires-clause-clean c outdated =
    unkept-clean c.args.desk.now c.args.uid c.requires.kept
    (outdated-unkept c.args.desk.now c.args.proc.number c.args.uid c.args.given.stamp c.requires.stands (sym c.are_outdated-outdated.ensures ∙ outdated)).0

pub drop_pages-requires-clause-still : goal.drop_pages-requires-clause-still
drop_pages-requires-clause-still c outdated =
    unkept-still c.args.desk.now c.args.uid c.requires.kept
    (outdated-unkept c.args.desk.now c.args.proc.number c.args.uid c.args.given.stamp c.requires.stands (sym c.are_outdated-outdated.ensures ∙ outdated)).0

-- Where the grant is fresh its stamp is no old one; else a stamp was seen before.
pub learn-requires-clause-fresh : goal.learn-requires-clause-fresh
learn-requires-clause-fresh c fresh =
    rw c.in_ok-dropped.ensures.desk
    (right-true (not (others_keep c.args.desk.now.entries c.args.proc.number c.args.uid)) (is_fresh c.args.given.stamp (stamp_of c.args.uid c.args.desk.now.seen)) (sym c.is_length_fresh-fresh.ensures ∙ fresh))

pub learn-requires-clause-seen : goal.learn-requires-clause-seen
learn-requires-clause-seen c stale =
    rw c.in_ok-dropped.ensures.desk
    (stale-seen c.args.desk.now c.args.proc.number c.args.uid c.args.given.stamp c.requires.kept (sym c.is_length_fresh-fresh.ensures ∙ stale))

-- What a grant tells was taken.
pub set_state-requires-clause-seen : goal.set_state-requires-clause-seen
set_state-requires-clause-seen c held =
    rw c.in_ok-learn.ensures.learned
    (learned-seen c.is_length_fresh-fresh.result c.drop_pages.new.desk c.args.uid c.args.given.stamp c.args.given.room c.args.given.length)

-- Without memory there were outdated pages to drop, or no stamp was seen.
pub returns-in_err-dropped-clause-memory : goal.returns-in_err-dropped-clause-memory
returns-in_err-dropped-clause-memory c =
    rw (err_from_is_err_and c.from_residual.result c.from_residual.ensures.1).1
    (outdated-unkept c.args.desk.now c.args.proc.number c.args.uid c.args.given.stamp c.requires.stands (sym c.are_outdated-outdated.ensures ∙ c.in_err-dropped.ensures.memory))

pub returns-in_err-learn-clause-memory : goal.returns-in_err-learn-clause-memory
returns-in_err-learn-clause-memory c =
    rw (err_from_is_err_and c.from_residual-in_err-learn.result c.from_residual-in_err-learn.ensures.1).1
    (unseen-outdated c.args.desk.now c.args.uid c.args.given.stamp c.requires.kept
    (subst (λ (e : DeskState). is_some (stamp_of c.args.uid e.seen) ≡ false) c.in_ok-dropped.ensures.desk c.in_err-learn.ensures.memory))
