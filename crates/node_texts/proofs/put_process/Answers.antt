use Rattle.std.proofs.Common.{rules, ◌≡◌, ◌+◌, ◌<◌, ◌++◌, OnOk, codes, List, ℕ, [], ◌∷◌, ap, sym, append_assoc, subst, ◌∙◌, arith}
use Rattle.std.proofs.lemmas.Fmt.{decimal_digit}
use Rattle.node_texts.specs.Texts.{node_text as text_of_node, process_text}
use Rattle.node_texts.proofs.put_process.Goals as goal

pub returns-clause-ok : goal.returns-clause-ok
returns-clause-ok c =
    let name = text_of_node c.args.names.now c.args.proc.node in
    let small : c.args.proc.number < 10 = omega (arith, c.number.ensures.value, c.number.ensures.greatest) in
    let items : c.as_slice.result.now ≡ name ++ 46 ∷ ((48 + c.args.proc.number) ∷ []) = search rules in
    let piece : c.as_slice.result.now ≡ process_text c.args.names.now c.args.proc =
    items ∙ (sym (append_assoc name (codes ".") ((48 + c.args.proc.number) ∷ []))
    ∙ sym (ap (λ (digits : List ℕ). name ++ codes "." ++ digits) (decimal_digit c.args.proc.number small))) in
    subst (λ (p : List ℕ). OnOk c.extend.result (c.extend.new.self ≡ c.args.text.now ++ p)) piece c.extend.ensures.ok
