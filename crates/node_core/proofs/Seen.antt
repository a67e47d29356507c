-- What definitions see of the processes that a node keeps.
use Rattle.std.proofs.Common.{◌≡◌, ◌≢◌, ℕ, zero, suc, inl, inr, ◌-◌, ◌<◌, List, [], ◌∷◌, map, length, get_or, set, Option, Some, None, refl, sym, ap, subst, ◌∙◌, arith}
use Rattle.std.proofs.lemmas.Bool.{cases_eq}
use Rattle.std.proofs.lemmas.List.{get_or-set_same, get_or-set_other, length-map, map-set}
use Rattle.dom_history.specs.declared.op.Op.{Op}
use Rattle.dom_history.specs.declared.op.Want.{Want}
use Rattle.dom_history.specs.declared.op.Want.TheVariants.{Do, Phase, Done}
use Rattle.dom_history.specs.Ranges.{IsWant}
use Rattle.ring_messages.specs.Bodies.{Ask}
use Rattle.fault_handler.specs.Desks.{at, put_at}
use Rattle.node_runs.specs.NodeStates.{ProcState, first_proc}
use Rattle.node_runs.specs.Alikes.{AreAlikeProcs}
use Rattle.node_core.specs.declared.processes.Open.{Open}
use Rattle.node_core.specs.declared.processes.Proc.{Proc}
use Rattle.node_core.specs.Processes.{open_in, open_seen, doing_of, proc_seen, want_at}

-- nothing is open
pub doing-none : (w : Want) (ask : Ask) → doing_of w None ask ≡ None
doing-none (Do op) ask = refl
doing-none Phase ask = refl
doing-none Done ask = refl

-- no list of what was heard is kept
pub seen-silent : (qs : List Proc) (p : ℕ) → (at (map proc_seen qs) p first_proc).heard ≡ []
seen-silent qs p = silent qs (p - 1)
  where
    silent : (qs : List Proc) (i : ℕ) → (get_or (map proc_seen qs) i first_proc).heard ≡ []
    silent [] i = refl
    silent (q ∷ qs) zero = refl
    silent (q ∷ qs) (suc i) = silent qs i

-- the one that stands there
pub seen-at : (qs : List Proc) (i : ℕ) (d : Proc) → i < length qs → get_or (map proc_seen qs) i first_proc ≡ proc_seen (get_or qs i d)
seen-at [] i d h = absurd (omega arith)
seen-at (x ∷ qs) zero d h = refl
seen-at (x ∷ qs) (suc i) d h = seen-at qs i d (omega arith)

pub want-there : (qs : List Proc) (i : ℕ) (d : Proc) → i < length qs → get_or (map (λ (x : Proc). x.want) qs) i Phase ≡ (get_or qs i d).want
want-there [] i d h = absurd (omega arith)
want-there (x ∷ qs) zero d h = refl
want-there (x ∷ qs) (suc i) d h = want-there qs i d (omega arith)

-- another stands there, which wants the same
pub wants-kept : (qs : List Proc) (i : ℕ) (d x : Proc) → x.want ≡ (get_or qs i d).want → map (λ (y : Proc). y.want) (set qs i x) ≡ map (λ (y : Proc). y.want) qs
wants-kept [] i d x same = refl
wants-kept (y ∷ qs) zero d x same = ap (λ w. w ∷ map (λ (y : Proc). y.want) qs) same
wants-kept (y ∷ qs) (suc i) d x same = ap (λ ws. y.want ∷ ws) (wants-kept qs i d x same)

-- alike ones stand there
pub alike-set : (ps : List ProcState) (i : ℕ) (a b : ProcState) → i < length ps → AreAlikeProcs a b → (j : ℕ) → AreAlikeProcs (get_or (set ps i a) j first_proc) (get_or (set ps i b) j first_proc)
alike-set ps i a b h alike j = elim (cases_eq j i) [
  | inl same ↦
      subst (λ k. AreAlikeProcs (get_or (set ps i a) k first_proc) (get_or (set ps i b) k first_proc)) (sym same)
      (subst (λ x. AreAlikeProcs x (get_or (set ps i b) i first_proc)) (sym (get_or-set_same ps i a first_proc h))
      (subst (AreAlikeProcs a) (sym (get_or-set_same ps i b first_proc h)) alike))
  | inr differs ↦
      subst (λ x. AreAlikeProcs x (get_or (set ps i b) j first_proc)) (sym (get_or-set_other ps i j a first_proc differs))
      (subst (AreAlikeProcs (get_or ps j first_proc)) (sym (get_or-set_other ps i j b first_proc differs)) (record { doing = refl; last = refl; phase = refl }))
]

-- a process is put there
pub put-seen : (qs : List Proc) (i p : ℕ) (d x : Proc) (f : ProcState → ProcState) → i ≡ p - 1 → i < length qs → proc_seen x ≡ f (proc_seen (get_or qs i d))
    → map proc_seen (set qs i x) ≡ put_at (map proc_seen qs) p (f (at (map proc_seen qs) p first_proc))
put-seen qs i p d x f at_p h seen =
    map-set proc_seen qs i x ∙ ap (set (map proc_seen qs) i) (seen ∙ ap f (sym (seen-at qs i d h)))
    ∙ ap (λ k. set (map proc_seen qs) k (f (get_or (map proc_seen qs) k first_proc))) at_p

-- what the process there wants
pub want-here : (qs : List Proc) (i p : ℕ) (d : Proc) (w : Want) → i ≡ p - 1 → i < length qs → want_at qs p ≡ w → (get_or qs i d).want ≡ w
want-here qs i p d w at_p h is = sym (want-there qs i d h) ∙ ap (λ k. get_or (map (λ (x : Proc). x.want) qs) k Phase) at_p ∙ is

pub want-set_same : (qs : List Proc) (i p : ℕ) (x : Proc) → i ≡ p - 1 → i < length qs → want_at (set qs i x) p ≡ x.want
want-set_same qs i p x at_p h =
    ap (λ k. get_or (map (λ (y : Proc). y.want) (set qs i x)) k Phase) (sym at_p) ∙ ap (λ ws. get_or ws i Phase) (map-set (λ (y : Proc). y.want) qs i x)
    ∙ get_or-set_same (map (λ (y : Proc). y.want) qs) i x.want Phase (subst (λ n. i < n) (sym (length-map qs (λ (y : Proc). y.want))) h)

pub want-set_other : (qs : List Proc) (i q : ℕ) (x : Proc) → q - 1 ≢ i → want_at (set qs i x) q ≡ want_at qs q
want-set_other qs i q x differs =
    ap (λ ws. get_or ws (q - 1) Phase) (map-set (λ (y : Proc). y.want) qs i x) ∙ get_or-set_other (map (λ (y : Proc). y.want) qs) i (q - 1) x.want Phase differs

-- each wants what is in its ranges
pub wanted-set : (qs : List Proc) (i p : ℕ) (x : Proc) → i ≡ p - 1 → i < length qs → IsWant x.want → ((q : ℕ) → IsWant (want_at qs q)) → (q : ℕ) → IsWant (want_at (set qs i x) q)
wanted-set qs i p x at_p h range each q = elim (cases_eq (q - 1) i) [
  | inl same ↦ subst IsWant (sym (want-set_same qs i q x (sym same) h)) range
  | inr differs ↦ subst IsWant (sym (want-set_other qs i q x differs)) (each q)
]

pub want-is : (qs : List Proc) (i p : ℕ) (d : Proc) → i ≡ p - 1 → i < length qs → want_at qs p ≡ (get_or qs i d).want
want-is qs i p d at_p h = sym (want-here qs i p d (want_at qs p) at_p h refl)

pub proc-is : (qs : List Proc) (i p : ℕ) (d : Proc) → i ≡ p - 1 → i < length qs → at (map proc_seen qs) p first_proc ≡ proc_seen (get_or qs i d)
proc-is qs i p d at_p h = ap (λ k. get_or (map proc_seen qs) k first_proc) (sym at_p) ∙ seen-at qs i d h

-- what is open is the operation that is wanted
pub open-wanted : (w : Want) (opened : Option Open) (o : Open) → open_in w opened ≡ Some o → (op : Op) × (w ≡ Do op) × (opened ≡ Some o)
open-wanted (Do op) opened o is = (op, refl, is)
open-wanted Phase opened o is = absurd (cc)
open-wanted Done opened o is = absurd (cc)

pub doing-open : (w : Want) (opened : Option Open) (ask : Ask) (op : Op) (o : Open) → w ≡ Do op → opened ≡ Some o → doing_of w opened ask ≡ Some (open_seen op o ask)
doing-open w opened ask op o is opens = ap (λ x. doing_of x opened ask) is ∙ ap (λ x. doing_of (Do op) x ask) opens

pub doing-closed : (w : Want) (opened : Option Open) (ask : Ask) → open_in w opened ≡ None → doing_of w opened ask ≡ None
doing-closed (Do op) opened ask is = ap (λ x. doing_of (Do op) x ask) is
doing-closed Phase opened ask is = refl
doing-closed Done opened ask is = refl
