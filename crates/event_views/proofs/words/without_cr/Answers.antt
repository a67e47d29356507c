use Rattle.std.proofs.Common.{◌≡◌, ◌++◌, ◌∷◌, [], Some, None, sym, ap, ◌∙◌}
use Rattle.std.proofs.lemmas.Bool.Decides.{Decides-eqb}
use Rattle.std.proofs.lemmas.Slice.Eq.{strip_suffix_is}
use Rattle.script_reader.specs.Grammar.{without_cr}
use Rattle.script_reader.proofs.Reading.{cr-cut, no_cr}
use Rattle.event_views.proofs.words.without_cr.Goals as goal

pub returns-in-Some : goal.returns-in-Some
returns-in-Some c =
    let ends : c.args.line.now ≡ c.in-Some.before.now ++ 13 ∷ [] = strip_suffix_is Decides-eqb c.args.line.now (13 ∷ []) (Some c.in-Some.before) c.in-Some.ensures.cases in
    sym (cr-cut c.in-Some.before.now) ∙ ap without_cr (sym ends)

pub returns-in-None : goal.returns-in-None
returns-in-None c = sym (no_cr c.args.line.now (strip_suffix_is Decides-eqb c.args.line.now (13 ∷ []) None c.in-None.ensures.cases))
