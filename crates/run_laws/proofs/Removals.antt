-- A mode that removes conflicts with every mode.
use Rattle.std.proofs.Common.{◌≡◌, true, refl}
use Rattle.uid_names.specs.Names.{ProcName}
use Rattle.uid_names.specs.Modes.{mode_removes, modes_clash}
use Rattle.uid_names.specs.declared.mode.Mode.{Mode}
use Rattle.uid_names.specs.declared.mode.Mode.TheVariants.{Read, Write, CoWrite}

pub removes-clash : (p : ProcName) (m : Mode) (q : ProcName) (k : Mode) → mode_removes m ≡ true → modes_clash p m q k ≡ true
removes-clash p Read q k is = absurd (cc)
removes-clash p CoWrite q k is = absurd (cc)
removes-clash p Write q Read is = refl
removes-clash p Write q Write is = refl
removes-clash p Write q CoWrite is = refl
