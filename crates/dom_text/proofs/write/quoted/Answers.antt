use Rattle.std.proofs.Common.{◌++◌, ◌∷◌, [], take, slice_index_or, ap, ◌∙◌, sym, append_assoc, List, ℕ}
use Rattle.dom_text.specs.Texts.{escaped, all_escaped}
use Rattle.dom_text.proofs.Written.{all_escaped-more}
use Rattle.dom_text.proofs.write.quoted.Goals as goal

pub loop-b-preserved : goal.loop-b-preserved
loop-b-preserved c =
    let i = c.loop-b.b-index in
    let bs = c.args.bytes.now in
    let old = 34 ∷ [] in
    let one = escaped (slice_index_or bs i 0) in
    c.in_ok-put_escaped.ensures
    ∙ (ap (λ (r : List ℕ). r ++ one) c.loop-b.invariant
    ∙ (append_assoc old (all_escaped (take i bs)) one
    ∙ ap (λ (r : List ℕ). old ++ r) (sym (all_escaped-more bs i 0 c.loop-b-test.true))))
