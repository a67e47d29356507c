use Rattle.std.proofs.Common.{◌∙◌, sym, ap, subst}
use Rattle.std.proofs.lemmas.List.Elements.{All-filter}
use Rattle.journal_text.specs.Lines.{Names}
use Rattle.event_views.specs.Chosen.{is_chosen}
use Rattle.event_views.specs.Runs.{AreNamed}
use Rattle.event_charts.specs.LentViews.{lent_views}
use Rattle.event_charts.proofs.charts.chart_of.Goals as goal

pub add_all_rows-requires-clause-named : goal.add_all_rows-requires-clause-named
add_all_rows-requires-clause-named c =
    let names = c.args.run.now.names in
    subst (AreNamed names) (sym (ap lent_views c.as_slice.ensures.value ∙ c.in_ok-shown.ensures))
    (All-filter (is_chosen c.args.choice.now) (λ v. Names names v.event) c.events-views.result.now c.events-views.ensures.named)

pub add_all_arrows-requires-clause-named : goal.add_all_arrows-requires-clause-named
add_all_arrows-requires-clause-named c =
    let names = c.args.run.now.names in
    subst (AreNamed names) (sym (ap lent_views c.as_slice-2.ensures.value ∙ c.in_ok-shown.ensures))
    (All-filter (is_chosen c.args.choice.now) (λ v. Names names v.event) c.events-views.result.now c.events-views.ensures.named)
