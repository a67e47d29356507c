use Rattle.std.proofs.Common.{sym, ◌∙◌, ap, ◌≡◌}
use Rattle.std.specs.Int.{w64, to_be_bytes}
use Rattle.hex.specs.Hex.{encode_lower}
use Rattle.std.proofs.lemmas.Bool.Decides.{Decides-eqb}
use Rattle.std.proofs.lemmas.Slice.Eq.{slice_eq-Decides}
use Rattle.uid_names.proofs.UidTexts.{decoded-text_of}
use Rattle.uid_names.proofs.ids.Uid.read.Goals as goal
use Rattle.uid_names.proofs.ids.Uid.read.Goals.{in_default-via-in-Ok+else-eq, in_default-via-in_default}

pub returns-then-is_err-clause-refused : goal.returns-then-is_err-clause-refused
returns-then-is_err-clause-refused c = λ u name same.
    let d = decoded-text_of c.args.text.now _ _ u name same c.decode_to_slice.ensures.value in
    let e = rw d.0 at c.is_err.ensures.value in cc

pub returns-in_default-clause-refused : goal.returns-in_default-clause-refused
returns-in_default-clause-refused c = λ u name same.
    let number = c.from_be_bytes.ensures ∙ (decoded-text_of c.args.text.now _ _ u name same c.decode_to_slice.ensures.value).1 in
    elim c.in_default.branch [
      | in_default-via-in-Ok+else-eq w ↦
          let text : w.text.result ≡ c.args.text.now = w.text.ensures ∙ (ap (λ n. encode_lower (to_be_bytes w64 n)) (w.in-Ok.ensures.value ∙ number) ∙ sym same) in
          let differs = rw w.if-eq.false at (slice_eq-Decides Decides-eqb w.as_slice.result.now c.args.text.now w.eq.result w.eq.ensures) in
          let same_text = differs.1 (w.as_slice.ensures ∙ text) in cc
      | in_default-via-in_default w ↦ w.in_default.ensures.refused u name (sym number)
    ]
