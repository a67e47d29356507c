-- A stream says what its dialogue says, and is not over while it asks.
use Rattle.std.proofs.Common.{◌≡◌, Bool, true, false, Option, Some, None, refl, subst, sym, ◌∙◌, ap}
use Rattle.uid_names.specs.Names.{ObjectName}
use Rattle.dom_history.specs.declared.op.Reply.{Reply}
use Rattle.dom_history.specs.Fitting.{Fits}
use Rattle.naming_tree.specs.Sessions.{closers_if}
use Rattle.naming_tree.specs.Entering.{unmap_if}
use Rattle.mapped_streams.specs.declared.step.StreamResult.{StreamResult}
use Rattle.naming_tree.specs.declared.step.Step.TheVariants.{Do}
use Rattle.mapped_streams.specs.declared.work.Work.{Work}
use Rattle.mapped_streams.specs.declared.streaming.Stage.{Stage}
use Rattle.mapped_streams.specs.declared.streaming.Stage.TheVariants.{Lock, Length, Map, At, Close}
use Rattle.mapped_streams.specs.declared.streaming.Streaming.{Streaming}
use Rattle.mapped_streams.specs.Dialogues.{Dialogue, says, unless_over, FitsSaid}
use Rattle.mapped_streams.specs.Works.{come_of, IsWork}
use Rattle.mapped_streams.specs.States.{closing_left, stage_left, left, stage_op, IsStage, IsStreaming}
use Rattle.naming_tree.proofs.Standing.{asks_on}
use Rattle.mapped_streams.proofs.Works.{work_says}

close_says : (u : ObjectName) (mapped : Bool) (refused : Option Reply) (result : StreamResult) → says (closing_left (closers_if mapped u) refused result) ≡ Do (unmap_if mapped u)
close_says u true None result = refl
close_says u true (Some reply) result = refl
close_says u false None result = refl
close_says u false (Some reply) result = refl

stage_says : (u : ObjectName) (work : Work) (refused : Option Reply) (stage : Stage) → IsWork work → IsStage work stage → says (stage_left u work refused stage) ≡ Do (stage_op u work stage)
stage_says u work refused Lock w h = refl
stage_says u work refused Length w h = refl
stage_says u work refused (Map n) w h = refl
stage_says u work refused (At o) w h = work_says (closers_if o.fresh u) o.at work w h.1
stage_says u work refused (Close mapped) w h = close_says u mapped refused (come_of work)

says_op : (s : Streaming) → IsStreaming s → says (left s) ≡ Do (stage_op s.uid s.work s.stage)
says_op s h = stage_says s.uid s.work s.refused s.stage h.work h.stage

-- what fits its dialogue fits its operation
pub fits_op : (s : Streaming) (reply : Reply) → IsStreaming s → FitsSaid (says (left s)) reply → Fits (stage_op s.uid s.work s.stage) reply
fits_op s reply h fits = subst (λ step. FitsSaid step reply) (says_op s h) fits

-- where it stands at what is left of a dialogue
pub stands_on : (s : Streaming) (d : Dialogue) → IsStreaming s → left s ≡ d → Some (left s) ≡ unless_over d
stands_on s d h e = sym (asks_on (left s) (stage_op s.uid s.work s.stage) (says_op s h)) ∙ ap unless_over e

pub says_on : (s : Streaming) (d : Dialogue) → IsStreaming s → left s ≡ d → Do (stage_op s.uid s.work s.stage) ≡ says d
says_on s d h e = sym (says_op s h) ∙ ap says e
