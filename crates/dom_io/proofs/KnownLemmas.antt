-- Known bytes that are taken or added in two steps.
use Rattle.std.proofs.Common.{◌≡◌, ℕ, ◌+◌, List, ◌++◌, take, drop, refl, ap, sym, ◌∙◌, append_assoc}
use Rattle.std.specs.Prelude.{Option, Some, None}
use Rattle.std.specs.Io.KnownBytes.{prepend_known, append_known}
use Rattle.std.proofs.Math.Seq.{take-add}

-- bytes taken, and then more of them
pub prepend_known-append : (first second : List ℕ) (known : Option (List ℕ)) →
    prepend_known first (prepend_known second known) ≡ prepend_known (first ++ second) known
prepend_known-append first second None = refl
prepend_known-append first second (Some left) = ap Some (sym (append_assoc first second left))

-- the first bytes added, and then the first of the rest
pub append_known-take : (known : Option (List ℕ)) (bytes : List ℕ) (done count : ℕ) →
    append_known (append_known known (take done bytes)) (take count (drop done bytes)) ≡ append_known known (take (done + count) bytes)
append_known-take None bytes done count = refl
append_known-take (Some held) bytes done count =
    ap Some (append_assoc held (take done bytes) (take count (drop done bytes)) ∙ ap (λ more. held ++ more) (sym (take-add done count bytes)))
