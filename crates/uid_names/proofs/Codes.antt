-- Modes and kinds of objects are read as they are written; which modes write, remove, go together and conflict.
use Rattle.std.proofs.Common.{◌≡◌, ℕ, Bool, List, refl, ap, arith, ◌<◌, true, false}
use Rattle.uid_names.specs.Names.{ProcName}
use Rattle.std.specs.Prelude.{◌==◌, not, Some, find}
use Rattle.std.proofs.lemmas.Bool.Decides.{nat_tests}
use Rattle.uid_names.specs.Modes.{mode_writes, mode_removes, mode_shared, modes_clash, mode_letter, mode_code, mode_of_letter, mode_of_code, all_modes, object_code, object_of_code, all_objects}
use Rattle.uid_names.specs.declared.mode.Mode.{Mode}
use Rattle.uid_names.specs.declared.mode.Mode.TheVariants.{Read, Write, CoWrite}
use Rattle.uid_names.specs.declared.mode.ObjKind.{ObjKind}
use Rattle.uid_names.specs.declared.mode.ObjKind.TheVariants.{File, Directory, Link, Mail}
use Rattle.uid_names.specs.FrameKinds.{kind_number, kind_of_number, all_kinds}
use Rattle.uid_names.specs.declared.frame_kind.FrameKind.{FrameKind}
use Rattle.uid_names.proofs.Finds.{find-passes}
use Rattle.uid_names.proofs.Passed.{equal, eqb-sym}

-- what is found by its number has that number
found-number : {X : Type 0} (number : X → ℕ) (xs : List X) (n : ℕ) (x : X) → find (λ y. number y == n) xs ≡ Some x → number x ≡ n
found-number number xs n x found = let is = find-passes (λ y. number y == n) xs x found in grind (arith, nat_tests, is)

-- a holder that may remove the object may store
pub removes-writes : (m : Mode) → mode_removes m ≡ true → mode_writes m ≡ true
removes-writes Read removes = removes
removes-writes Write removes = refl
removes-writes CoWrite removes = refl

-- one that is shared is held to store
pub shared-writes : (m : Mode) → mode_shared m ≡ true → mode_writes m ≡ true
shared-writes Read shared = shared
shared-writes Write shared = refl
shared-writes CoWrite shared = refl

-- and not to remove
pub removes-alone : (m : Mode) → mode_removes m ≡ true → mode_shared m ≡ false
removes-alone Read removes = refl
removes-alone Write removes = refl
removes-alone CoWrite removes = absurd (cc)

-- a conflict is one from both sides
pub modes_clash-sym : (p : ProcName) (m : Mode) (q : ProcName) (n : Mode) → modes_clash p m q n ≡ modes_clash q n p m
modes_clash-sym p Read q Read = refl
modes_clash-sym p Read q Write = refl
modes_clash-sym p Read q CoWrite = refl
modes_clash-sym p Write q Read = refl
modes_clash-sym p Write q Write = refl
modes_clash-sym p Write q CoWrite = refl
modes_clash-sym p CoWrite q Read = refl
modes_clash-sym p CoWrite q Write = refl
modes_clash-sym p CoWrite q CoWrite = ap (λ b. not b) (eqb-sym p.node q.node)

-- where a mode that writes goes with another, both are shared, and of processes of one node
pub writes-together : (p : ProcName) (m : Mode) (q : ProcName) (n : Mode) → mode_writes n ≡ true → modes_clash p m q n ≡ false → (mode_shared m ≡ true) × ((mode_shared n ≡ true) × (p.node ≡ q.node))
writes-together p m q Read writes free = absurd (let h : false ≡ true = writes in cc)
writes-together p Read q Write writes free = absurd (let h : true ≡ false = free in cc)
writes-together p Read q CoWrite writes free = absurd (let h : true ≡ false = free in cc)
writes-together p Write q Write writes free = absurd (let h : true ≡ false = free in cc)
writes-together p Write q CoWrite writes free = absurd (let h : true ≡ false = free in cc)
writes-together p CoWrite q Write writes free = absurd (let h : true ≡ false = free in cc)
writes-together p CoWrite q CoWrite writes free = (refl, (refl, equal p.node q.node (clear (p.node == q.node) free)))
  where
    clear : (b : Bool) → not b ≡ false → b ≡ true
    clear true is = refl
    clear false is = absurd (cc)

-- numbers of modes and of kinds of objects are bytes
pub mode_code-small : (m : Mode) → mode_code m < 256
mode_code-small Read = omega arith
mode_code-small Write = omega arith
mode_code-small CoWrite = omega arith

pub object_code-small : (k : ObjKind) → object_code k < 256
object_code-small File = omega arith
object_code-small Directory = omega arith
object_code-small Link = omega arith
object_code-small Mail = omega arith

pub mode_of_letter-letter : (m : Mode) → mode_of_letter (mode_letter m) ≡ Some m
mode_of_letter-letter Read = refl
mode_of_letter-letter Write = refl
mode_of_letter-letter CoWrite = refl

pub mode_of_letter-found : (n : ℕ) (m : Mode) → mode_of_letter n ≡ Some m → mode_letter m ≡ n
mode_of_letter-found = found-number mode_letter all_modes

pub mode_of_code-code : (m : Mode) → mode_of_code (mode_code m) ≡ Some m
mode_of_code-code Read = refl
mode_of_code-code Write = refl
mode_of_code-code CoWrite = refl

pub mode_of_code-found : (n : ℕ) (m : Mode) → mode_of_code n ≡ Some m → mode_code m ≡ n
mode_of_code-found = found-number mode_code all_modes

pub object_of_code-code : (k : ObjKind) → object_of_code (object_code k) ≡ Some k
object_of_code-code File = refl
object_of_code-code Directory = refl
object_of_code-code Link = refl
object_of_code-code Mail = refl

pub object_of_code-found : (n : ℕ) (k : ObjKind) → object_of_code n ≡ Some k → object_code k ≡ n
object_of_code-found = found-number object_code all_objects

-- a kind of frames that is found by its number has it
pub kind_of_number-found : (n : ℕ) (k : FrameKind) → kind_of_number n ≡ Some k → kind_number k ≡ n
kind_of_number-found = found-number kind_number all_kinds
