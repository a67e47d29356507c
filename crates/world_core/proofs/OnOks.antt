-- What follows from what holds of an Ok, or of an Err that is passed on.
use Rattle.std.proofs.Common.{◌≡◌, ◌∙◌, sym, Result, Ok, Err, OnOk, IfOk}
use Rattle.std.specs.Prelude.{IsErrAnd}
use Rattle.node_core.specs.declared.fault.RunFault.{RunFault}

pub if_ok : {A E : Type 0} {P Q : A → Type 0} (r : Result A E) → IfOk r P → ((x : A) → P x → Q x) → IfOk r Q
if_ok (Ok x) p f = f x p
if_ok (Err e) p f = tt

pub if_ok_and : {A E R : Type 0} {P Q : A → Type 0} (r : Result A E) → IfOk r P → OnOk r R → ((x : A) → P x → R → Q x) → IfOk r Q
if_ok_and (Ok x) p o f = f x p o
if_ok_and (Err e) p o f = tt

-- a fault that is passed on is the same
pub same_fault : {A : Type 0} (r : Result A RunFault) (e fault : RunFault) → IsErrAnd r (λ y. y ≡ e) → r ≡ Err fault → e ≡ fault
same_fault (Ok x) e fault passed fails = absurd passed
same_fault (Err y) e fault passed fails = sym passed ∙ (cc)
