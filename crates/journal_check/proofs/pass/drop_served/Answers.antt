use Rattle.std.proofs.Common.{◌≡◌, refl, ap, sym, subst, ◌∙◌, arith}
use Rattle.std.specs.Prelude.{filter, not, slice_set}
use Rattle.ring_messages.specs.Bodies.{is_request}
use Rattle.fault_handler.specs.Desks.{IsNode}
use Rattle.node_core.specs.Receivings.{seen}
use Rattle.node_core.specs.declared.setup.Incoming as code
use Rattle.node_runs.specs.Incomings.{Incoming}
use Rattle.journal_check.specs.Links.{link_place}
use Rattle.journal_check.proofs.LinkPlaces.{read-at}
use Rattle.journal_check.specs.Kept.{is_served}
use Rattle.journal_check.specs.Changes.{ChangeLinks, IsServed}
use Rattle.journal_check.specs.declared.frames.Live.{Live}
use Rattle.journal_check.proofs.LinkChanges.{kept-is, served-none, served-nowhere, served-one, served-other}
use Rattle.journal_check.proofs.pass.drop_served.Goals as goal

pub returns-in_default : goal.returns-in_default
returns-in_default c = served-other c.args.nodes c.args.frames.now.items c.args.received.now c.in_default.not-Frame

pub returns-then-not-is_request : goal.returns-then-not-is_request
returns-then-not-is_request c =
    let links = c.args.frames.now.items in
    let m = c.in-Frame.frame in
    subst (λ (i : code.Incoming). ChangeLinks c.args.nodes (IsServed (seen i)) links links) (sym c.in-Frame.is)
    (served-none c.args.nodes links m (ap is_request (sym c.body.ensures.value) ∙ sym c.if-not-is_request.ensures))

pub returns-then-not-is_among : goal.returns-then-not-is_among
returns-then-not-is_among c =
    let links = c.args.frames.now.items in
    let m = c.in-Frame.frame in
    subst (λ (i : code.Incoming). ChangeLinks c.args.nodes (IsServed (seen i)) links links) (sym c.in-Frame.is)
    (served-nowhere c.args.nodes links m (λ both.
    let no = c.if-not-is_among.ensures.1 (subst (IsNode c.args.nodes) (sym c.from-from.ensures.value) both.0) in
    absurd (cc)))

pub returns-then-not-is_among-2 : goal.returns-then-not-is_among-2
returns-then-not-is_among-2 c =
    let links = c.args.frames.now.items in
    let m = c.in-Frame.frame in
    subst (λ (i : code.Incoming). ChangeLinks c.args.nodes (IsServed (seen i)) links links) (sym c.in-Frame.is)
    (served-nowhere c.args.nodes links m (λ both.
    let no = c.if-not-is_among-2.ensures.1 (subst (IsNode c.args.nodes) (sym c.to-to.ensures.value) both.1) in
    absurd (cc)))

pub returns : goal.returns
returns c =
    let links = c.args.frames.now.items in
    let nodes = c.args.nodes in
    let m = c.in-Frame.frame in
    let from_is = c.from-from.ensures.value in
    let to_is = c.to-to.ensures.value in
    let sends = subst (IsNode nodes) from_is (c.if-not-is_among.ensures.0 refl) in
    let receives = subst (IsNode nodes) to_is (c.if-not-is_among-2.ensures.0 refl) in
    let place : c.link_of.result ≡ link_place nodes m.from m.to = c.link_of.ensures.value ∙ (ap (λ a. link_place nodes a c.to-to.result) from_is ∙ ap (link_place nodes m.from) to_is) in
    let within = c.link_of.ensures.within in
    let many = c.requires.links.whole in
    let was = c.index_mut.result.now in
    let there = read-at links c.link_of.result (link_place nodes m.from m.to) was (omega (arith, within, many)) c.index_mut.ensures.value place in
    let asks = ap is_request (sym c.body.ensures.value) ∙ sym c.if-not-is_request.ensures in
    let y = c.drop_served.new.self in
    let live = c.drop_served.ensures.live
    ∙ ap (λ q. filter (λ (l : Live). not (is_served q c.number.result l.frame)) was.live) c.proc.ensures.value
    ∙ ap (λ q. filter (λ (l : Live). not (is_served m.proc q l.frame)) was.live) c.number.ensures.value in
    subst (λ (i : code.Incoming). ChangeLinks nodes (IsServed (seen i)) links (slice_set links c.link_of.result y)) (sym c.in-Frame.is)
    (subst (λ k. ChangeLinks nodes (IsServed (Incoming.Frame m)) links (slice_set links k y)) (sym place)
    (served-one nodes links m was y many sends receives there asks (kept-is y _ _ c.drop_served.ensures.heads live)))
