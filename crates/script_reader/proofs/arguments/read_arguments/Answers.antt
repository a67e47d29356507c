use Rattle.std.proofs.Common.{◌≡◌, ◌+◌, ◌≤◌, ◌++◌, ◌∷◌, [], drop, length, length-append, sym, ap, ◌∙◌, arith}
use Rattle.std.proofs.lemmas.List.{length-map, map-append}
use Rattle.dom_text.specs.Lent.{owned, owned_token}
use Rattle.script_reader.specs.Forms.{arguments_form}
use Rattle.script_reader.specs.Walk.Seen.{seen_argument, seen_arguments, seen_found}
use Rattle.script_reader.proofs.Arguing.{behind, form_end, form_left, form_none, form_step, said_at, taken_formed}
use Rattle.script_reader.proofs.arguments.read_arguments.Goals as goal

pub returns-then-tokens-kinds-clause-form : goal.returns-then-tokens-kinds-clause-form
returns-then-tokens-kinds-clause-form c =
    form_left c.args.kinds.now (owned c.args.tokens.now) (omega (arith, length-map c.args.tokens.now owned_token, c.if-tokens-kinds.true))

pub returns-in_default-clause-form : goal.returns-in_default-clause-form
returns-in_default-clause-form c =
    let at = c.loop-at.at in
    let said = said_at c.args.tokens.now at _ c.get.result c.token_argument.result c.get.ensures.lookup c.token_argument.ensures in
    form_none c.args.kinds.now (owned c.args.tokens.now) (seen_arguments c.loop-at.found.items) at _ (omega arith) c.loop-at.invariant.1 (said ∙ ap seen_found c.in_default.is)

pub loop-at-preserved : goal.loop-at-preserved
loop-at-preserved c =
    let kinds = c.args.kinds.now in
    let tokens = owned c.args.tokens.now in
    let taken = c.loop-at.found.items in
    let at = c.loop-at.at in
    let said = said_at c.args.tokens.now at _ c.get.result c.token_argument.result c.get.ensures.lookup c.token_argument.ensures in
    let more : seen_arguments c.push.new.self.items ≡ seen_arguments taken ++ seen_argument c.in-Some.argument ∷ [] =
    ap seen_arguments c.push.ensures.items ∙ map-append seen_argument taken (c.in-Some.argument ∷ []) in (
      ap length c.push.ensures.items ∙ (length-append taken (c.in-Some.argument ∷ []) ∙ ap (λ n. n + 1) c.loop-at.invariant.0),
      form_step kinds tokens (seen_arguments taken) at _ (seen_argument c.in-Some.argument) (omega arith) c.loop-at.invariant.1 (said ∙ ap seen_found c.in-Some.is)
          ∙ ap (λ front. behind front (arguments_form (drop (at + 1) kinds) (drop (at + 1) tokens))) (sym more),
    )

pub returns-clause-formed : goal.returns-clause-formed
returns-clause-formed c =
    let few : length (owned c.args.tokens.now) ≤ length c.args.kinds.now = omega (arith, length-map c.args.tokens.now owned_token) in
    taken_formed c.args.kinds.now (owned c.args.tokens.now) (seen_arguments c.loop-at.found.items)
    (form_end c.args.kinds.now (owned c.args.tokens.now) (seen_arguments c.loop-at.found.items) c.loop-at.at (omega arith) few c.loop-at.invariant.1)
