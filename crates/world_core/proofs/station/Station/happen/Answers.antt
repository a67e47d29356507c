use Rattle.std.proofs.Common.{Vec, Global, ◌≡◌, ◌<◌, Option, IfSome, true, sym, ap, subst}
use Rattle.std.specs.Prelude.{slice_get}
use Rattle.std.proofs.lemmas.Option.{slice_get_within}
use Rattle.uid_names.proofs.Somes.{take-some}
use Rattle.node_runs.specs.Incomings.{Incoming, tick_of}
use Rattle.ring_links.specs.declared.entry.Entry.{Entry}
use Rattle.node_core.specs.declared.setup.Incoming as code
use Rattle.node_core.specs.Receivings.{seen}
use Rattle.node_core.specs.Nodes.{is_enabled, Does}
use Rattle.world_core.specs.declared.coming.Source as source
use Rattle.world_core.specs.declared.coming.Source.TheVariants as sources
use Rattle.ring_links.specs.declared.notice.Notice.{Notice}
use Rattle.ring_links.specs.Notices.{notice_incoming}
use Rattle.world_core.specs.Stations.{Candidate}
use Rattle.world_core.specs.Listed.{event_at}
use Rattle.world_core.proofs.Found.{IsFoundAt}
use Rattle.world_core.specs.declared.station.LinkFrom.{LinkFrom}
use Rattle.world_core.proofs.OnOks.{if_ok, if_ok_and}
use Rattle.world_core.proofs.Happening.{at-place, is-done, entry-there}
use Rattle.world_core.proofs.station.Station.happen.Goals as goal

pub begin-requires-clause-enabled : goal.begin-requires-clause-enabled
begin-requires-clause-enabled g c =
    let x = c.args.self.now in
    let coming = c.index-coming.result.now in
    let at = at-place x c.args.place coming c.requires.listed c.requires.within c.index-coming.ensures in
    let nothing = subst (λ (s : source.Source). IsFoundAt x.notices.items x.ins.items at.candidate.incoming s) c.in-Nothing.is at.found in
    subst (λ (i : Incoming). is_enabled x.node coming.what i ≡ true) nothing at.enabled

pub hear-requires-clause-within : goal.hear-requires-clause-within
hear-requires-clause-within g c =
    let x = c.args.self.now in
    let coming = c.index-coming.result.now in
    let at = at-place x c.args.place coming c.requires.listed c.requires.within c.index-coming.ensures in
    let found = subst (λ (s : source.Source). IsFoundAt x.notices.items x.ins.items at.candidate.incoming s) c.in-Notice.is at.found in
    slice_get_within x.notices.items c.in-Notice.at found.notice found.there

pub hear-requires-clause-notice : goal.hear-requires-clause-notice
hear-requires-clause-notice g c =
    let x = c.args.self.now in
    let coming = c.index-coming.result.now in
    let at = at-place x c.args.place coming c.requires.listed c.requires.within c.index-coming.ensures in
    let found = subst (λ (s : source.Source). IsFoundAt x.notices.items x.ins.items at.candidate.incoming s) c.in-Notice.is at.found in
    let early = take-some (λ (k : Candidate). tick_of k.incoming < 1099511627776) (event_at x c.args.place) at.candidate at.there c.requires.early in
    subst (λ (r : Option Notice). IfSome r (λ y. (is_enabled x.node coming.what (notice_incoming y) ≡ true) × (y.tick < 1099511627776))) (sym found.there)
    (subst (λ (i : Incoming). is_enabled x.node coming.what i ≡ true) found.received at.enabled, subst (λ (i : Incoming). tick_of i < 1099511627776) found.received early)

pub take-requires-clause-within : goal.take-requires-clause-within
take-requires-clause-within g c =
    let x = c.args.self.now in
    let coming = c.index-coming.result.now in
    let at = at-place x c.args.place coming c.requires.listed c.requires.within c.index-coming.ensures in
    let found = subst (λ (s : source.Source). IsFoundAt x.notices.items x.ins.items at.candidate.incoming s) c.in-Link.is at.found in
    slice_get_within x.ins.items c.in-Link.at found.link found.there

pub take-requires-clause-entry : goal.take-requires-clause-entry
take-requires-clause-entry g c =
    let x = c.args.self.now in
    let coming = c.index-coming.result.now in
    let at = at-place x c.args.place coming c.requires.listed c.requires.within c.index-coming.ensures in
    let found = subst (λ (s : source.Source). IsFoundAt x.notices.items x.ins.items at.candidate.incoming s) c.in-Link.is at.found in
    let early = take-some (λ (k : Candidate). tick_of k.incoming < 1099511627776) (event_at x c.args.place) at.candidate at.there c.requires.early in
    entry-there x.node coming.what 1099511627776 x.ins.items c.in-Link.at at.candidate.incoming found at.enabled early

pub returns-in-Nothing : goal.returns-in-Nothing
returns-in-Nothing g c =
    let x = c.args.self.now in
    let y = c.begin.new.self in
    let coming = c.index-coming.result.now in
    let at = at-place x c.args.place coming c.requires.listed c.requires.within c.index-coming.ensures in
    let nothing = subst (λ (s : source.Source). IsFoundAt x.notices.items x.ins.items at.candidate.incoming s) c.in-Nothing.is at.found in
    if_ok c.begin.result c.begin.ensures.does
    (λ emitted does. is-done g.P.Program.wants g.P.Program.becomes x y c.args.place coming emitted at Incoming.Nothing sources.Nothing nothing c.in-Nothing.is does
    (ap (λ (v : Vec Notice Global). v.items) c.begin.ensures.notices) (ap (λ (v : Vec LinkFrom Global). v.items) c.begin.ensures.ins))

pub returns-in-Notice : goal.returns-in-Notice
returns-in-Notice g c =
    let x = c.args.self.now in
    let y = c.hear.new.self in
    let coming = c.index-coming.result.now in
    let at = at-place x c.args.place coming c.requires.listed c.requires.within c.index-coming.ensures in
    let found = subst (λ (s : source.Source). IsFoundAt x.notices.items x.ins.items at.candidate.incoming s) c.in-Notice.is at.found in
    if_ok_and c.hear.result c.hear.ensures.does c.hear.ensures.notices
    (λ emitted some less. is-done g.P.Program.wants g.P.Program.becomes x y c.args.place coming emitted at (notice_incoming found.notice) (sources.Notice c.in-Notice.at) found.received c.in-Notice.is
    (subst (λ (r : Option Notice). IfSome r (λ n. Does g.P.Program.wants g.P.Program.becomes coming.what (notice_incoming n) x.node y.node emitted)) found.there some)
    less (ap (λ (v : Vec LinkFrom Global). v.items) c.hear.ensures.ins))

pub returns-in-Link : goal.returns-in-Link
returns-in-Link g c =
    let x = c.args.self.now in
    let y = c.take.new.self in
    let coming = c.index-coming.result.now in
    let at = at-place x c.args.place coming c.requires.listed c.requires.within c.index-coming.ensures in
    let found = subst (λ (s : source.Source). IsFoundAt x.notices.items x.ins.items at.candidate.incoming s) c.in-Link.is at.found in
    if_ok_and c.take.result c.take.ensures.does c.take.ensures.ins
    (λ emitted some less. is-done g.P.Program.wants g.P.Program.becomes x y c.args.place coming emitted at (seen found.entry.received) (sources.Link c.in-Link.at) found.received c.in-Link.is
    (subst (λ (r : Option (Entry code.Incoming)). IfSome r (λ e. Does g.P.Program.wants g.P.Program.becomes coming.what (seen e.received) x.node y.node emitted)) found.first
    (subst (λ (r : Option LinkFrom). IfSome r (λ l. IfSome (slice_get l.link.queue 0) (λ e. Does g.P.Program.wants g.P.Program.becomes coming.what (seen e.received) x.node y.node emitted))) found.there some))
    (ap (λ (v : Vec Notice Global). v.items) c.take.ensures.notices) less)
