-- What the code knows of machines of commands that are told something where they stand.
use Rattle.std.proofs.Common.{◌≡◌, Option, Some, None, refl, ap, ◌∙◌, sym, subst, arith}
use Rattle.dom_history.specs.declared.op.Op.{Op}
use Rattle.dom_history.specs.declared.op.Reply.{Reply}
use Rattle.naming_tree.specs.Dialogues.{IsStep, NameStep}
use Rattle.naming_tree.specs.ByPaths.{by_path_after, by_path_asks}
use Rattle.naming_tree.specs.Changing.{changing_after, changing_asks}
use Rattle.naming_tree.specs.ListsAt.{listing_after, listing_asks}
use Rattle.naming_tree.specs.Standing.{said_to}
use Rattle.naming_tree.specs.Turns.{Turn, stood_after, stood_says}
use Rattle.naming_tree.specs.Walking.{walking_after, walking_asks}
use Rattle.naming_tree.specs.declared.step.Step.{Step}
use Rattle.naming_tree.specs.declared.step.Step.TheVariants.{Do, Over}
use Rattle.mapped_streams.specs.States.{rest}
use Rattle.mapped_streams.specs.Turns.{stood_after as stream_after}
use Rattle.mail_box.specs.States.{rest as mail_rest}
use Rattle.mail_box.specs.Turns.{stood_after as mail_after}
use Rattle.command_talks.specs.FileTalks.{added_turn, asked_at, came_turn, check_stream, directory_turn, file_turn, guarded_turn, mail_turn, named_turn, stream_turn, text_turn}
use Rattle.command_talks.specs.FileTurns.{come_as, file_after, file_says, led, AsksOne, ComeStep}
use Rattle.command_talks.specs.declared.come.Come.{Come}
use Rattle.command_talks.specs.declared.come.Come.TheVariants.{Named, Streamed, Mailed}
use Rattle.command_talks.specs.declared.file_talk.FileTalk.{FileTalk}
use Rattle.command_talks.specs.declared.file_talk.FileTalk.TheVariants.{Seeks, Reaches, LooksUp, ReadsList, Lists, Changes, Reads, Counts, Appends, Mails, Opens, Adds, Copies, Closes}
use Rattle.command_talks.specs.declared.file_talk.FileTurn.{FileTurn}
use Rattle.command_talks.specs.declared.file_talk.FileTurn.TheVariants.{Goes}
use Rattle.command_talks.proofs.Machines.{asked_stood}

-- a machine of a name asks, where it stands then, what it said
module _ {S : Type 0} (asks : S → Option Op) (go : S → Option Reply → Turn S) (m : Option S) (last : Option Reply) where
  pub name_asks : (step : NameStep) (said : Option ComeStep) → Some step ≡ stood_says asks go m last → IsStep step → said ≡ come_as Named (Some step) → AsksOne (asked_at asks (stood_after go m last)) said
  name_asks (Do op) said says is same = subst (AsksOne (asked_at asks (stood_after go m last))) (sym same) (asked_stood asks go m last op (sym says), is)
  name_asks (Over result) said says is same = subst (AsksOne (asked_at asks (stood_after go m last))) (sym same) tt

-- a command goes on with what was said, or what it drove leads it on
abbrev turns : FileTalk → ComeStep → Option FileTurn
turns talk (Do op) = Some (Goes talk op)
turns talk (Over come) = led talk come

module _ {R : Type 0} (make : R → Come) (talk : FileTalk) (turn : Option (Step R) → Option FileTurn) where
  led_by : (said : Option (Step R)) (step : ComeStep) → Some step ≡ come_as make said → ((op : Op) → Some (Goes talk op) ≡ turn (Some (Do op))) → ((result : R) → led talk (make result) ≡ turn (Some (Over result))) → turns talk step ≡ turn said
  led_by None step says goes leads = absurd (grind (arith, says))
  led_by (Some (Do op)) step says goes leads = let same : step ≡ Do op = cc in ap (turns talk) same ∙ goes op
  led_by (Some (Over result)) step says goes leads = let same : step ≡ Over (make result) = cc in ap (turns talk) same ∙ leads result

-- that is a machine's turn
said_leads : (talk : FileTalk) (last : Option Reply) (step : ComeStep) → Some step ≡ file_says talk last → turns (file_after talk last) step ≡ file_turn talk last
said_leads (Seeks m errand guard) last step says =
    led_by Named (Seeks (stood_after walking_after m last) errand guard) (λ x. named_turn (λ w. Seeks w errand guard) (guarded_turn guard errand) x (stood_after walking_after m last)) (stood_says walking_asks walking_after m last) step says (λ op. refl) (λ result. refl)
said_leads (Reaches m errand guard) last step says =
    led_by Named (Reaches (stood_after by_path_after m last) errand guard) (λ x. named_turn (λ w. Reaches w errand guard) (guarded_turn guard errand) x (stood_after by_path_after m last)) (stood_says by_path_asks by_path_after m last) step says (λ op. refl) (λ result. refl)
said_leads (LooksUp m p) last step says =
    led_by Streamed (LooksUp (stream_after m last) p) (λ x. check_stream (λ w. LooksUp w p) (directory_turn p) x (stream_after m last)) (said_to (rest m) last) step says (λ op. refl) (λ result. refl)
said_leads (ReadsList m p) last step says =
    led_by Streamed (ReadsList (stream_after m last) p) (λ x. check_stream (λ w. ReadsList w p) (text_turn p) x (stream_after m last)) (said_to (rest m) last) step says (λ op. refl) (λ result. refl)
said_leads (Lists m) last step says =
    led_by Named (Lists (stood_after listing_after m last)) (λ x. named_turn (λ w. Lists w) came_turn x (stood_after listing_after m last)) (stood_says listing_asks listing_after m last) step says (λ op. refl) (λ result. refl)
said_leads (Changes m) last step says =
    led_by Named (Changes (stood_after changing_after m last)) (λ x. named_turn (λ w. Changes w) came_turn x (stood_after changing_after m last)) (stood_says changing_asks changing_after m last) step says (λ op. refl) (λ result. refl)
said_leads (Reads m) last step says = led_by Streamed (Reads (stream_after m last)) (λ x. stream_turn x (Reads (stream_after m last))) (said_to (rest m) last) step says (λ op. refl) (λ result. refl)
said_leads (Counts m) last step says = led_by Streamed (Counts (stream_after m last)) (λ x. stream_turn x (Counts (stream_after m last))) (said_to (rest m) last) step says (λ op. refl) (λ result. refl)
said_leads (Appends m) last step says = led_by Streamed (Appends (stream_after m last)) (λ x. stream_turn x (Appends (stream_after m last))) (said_to (rest m) last) step says (λ op. refl) (λ result. refl)
said_leads (Mails m) last step says = led_by Mailed (Mails (mail_after m last)) (λ x. mail_turn x (Mails (mail_after m last))) (said_to (mail_rest m) last) step says (λ op. refl) (λ result. refl)
said_leads (Opens s stage target) last step says = absurd (grind (arith, says))
said_leads (Adds s m) last step says =
    led_by Named (Adds s (stood_after changing_after m last)) (λ x. named_turn (λ w. Adds s w) (added_turn s) x (stood_after changing_after m last)) (stood_says changing_asks changing_after m last) step says (λ op. refl) (λ result. refl)
said_leads (Copies s m) last step says = led_by Streamed (Copies s (stream_after m last)) (λ x. stream_turn x (Copies s (stream_after m last))) (said_to (rest m) last) step says (λ op. refl) (λ result. refl)
said_leads (Closes s outcome) last step says = absurd (grind (arith, says))

pub said_goes : (talk : FileTalk) (last : Option Reply) (op : Op) → Some (Do op) ≡ file_says talk last → Some (Goes (file_after talk last) op) ≡ file_turn talk last
said_goes talk last op says = said_leads talk last (Do op) says

pub said_comes : (talk : FileTalk) (last : Option Reply) (come : Come) → Some (Over come) ≡ file_says talk last → led (file_after talk last) come ≡ file_turn talk last
said_comes talk last come says = said_leads talk last (Over come) says
