-- How one store answers the parts of a stream of which no operation is refused.
use Rattle.std.proofs.Common.{◌≡◌, ℕ, Bool, true, false, not, if◌then◌else◌, Option, Some, None, List, [], ◌∷◌, refl, ap, ◌∙◌, subst, arith}
use Rattle.uid_names.specs.Names.{ProcName}
use Rattle.uid_names.specs.Openings.{Start}
use Rattle.dom_history.specs.declared.op.Op.{Op}
use Rattle.dom_history.specs.declared.op.Reply.{Reply}
use Rattle.dom_history.specs.declared.op.Reply.TheVariants.{Fine, Size, At, Bytes, NoLock, PastEnd}
use Rattle.dom_history.specs.declared.deed.Deed.{Deed}
use Rattle.naming_tree.specs.Sessions.{fine, size, place, bytes}
use Rattle.mapped_streams.specs.declared.step.StreamResult.{StreamResult}
use Rattle.mapped_streams.specs.declared.step.StreamResult.TheVariants.{Store}
use Rattle.mapped_streams.specs.Dialogues.{Dialogue}
use Rattle.mapped_streams.specs.Streams.{closing, go_on, ask, shutting}
use Rattle.mapped_streams.specs.OneStore.{answer, answered, come, behind, IsDone}

-- replies by what they tell
pub is_fine : (r : Reply) (x : Unit {0}) → fine r ≡ Some x → r ≡ Fine
is_fine Fine x e = refl
is_fine r x e = absurd (grind (arith, e))

pub is_size : (r : Reply) (n : ℕ) → size r ≡ Some n → r ≡ Size n
is_size (Size m) n e = grind (arith, e)
is_size r n e = absurd (grind (arith, e))

pub is_place : (r : Reply) (at : ℕ × Bool) → place r ≡ Some at → r ≡ At at.0 at.1
is_place (At a fresh) at e =
    let same : (a, fresh) ≡ at = grind (arith, e) in
    ap (λ (x : ℕ × Bool). At x.0 x.1) same
is_place r at e = absurd (grind (arith, e))

pub is_bytes : (r : Reply) (more : List ℕ) → bytes r ≡ Some more → r ≡ Bytes more
is_bytes (Bytes list) more e = grind (arith, e)
is_bytes r more e = absurd (grind (arith, e))

module _ (opening : Start) (p : ProcName) where
  closing_comes : (held : List Op) (reply : Reply) (deeds : List Deed) → come opening p (closing held (Store reply)) deeds ≡ Store reply
  closing_comes [] reply deeds = refl
  closing_comes (op ∷ held) reply deeds = closing_comes held reply (answered opening p deeds op)

  -- an operation was done, and told this
  pub record Goes {A : Type 0} (tells : Reply → Option A) (held : List Op) (op : Op) (further : A → Dialogue) (deeds : List Deed) : Type 0 where
    pub at : A
    pub told : tells (answer opening p deeds op) ≡ Some at
    pub comes : come opening p (ask tells held op further) deeds ≡ come opening p (further at) (answered opening p deeds op)
    pub leads : behind opening p (ask tells held op further) deeds ≡ behind opening p (further at) (answered opening p deeds op)

  by_told : {A : Type 0} (tells : Reply → Option A) (held : List Op) (op : Op) (further : A → Dialogue) (deeds : List Deed) (told : Option A) → tells (answer opening p deeds op) ≡ told → IsDone (come opening p (go_on told (answer opening p deeds op) held further) (answered opening p deeds op)) → Goes tells held op further deeds
  by_told tells held op further deeds None e done = absurd (subst IsDone (closing_comes held (answer opening p deeds op) (answered opening p deeds op)) done)
  by_told tells held op further deeds (Some at) e done = record {
    at = at;
    told = e;
    comes = ap (λ told. come opening p (go_on told (answer opening p deeds op) held further) (answered opening p deeds op)) e;
    leads = ap (λ told. behind opening p (go_on told (answer opening p deeds op) held further) (answered opening p deeds op)) e;
  }

  pub goes : {A : Type 0} (tells : Reply → Option A) (held : List Op) (op : Op) (further : A → Dialogue) (deeds : List Deed) → IsDone (come opening p (ask tells held op further) deeds) → Goes tells held op further deeds
  goes tells held op further deeds done = by_told tells held op further deeds (tells (answer opening p deeds op)) refl done

  -- a closing comes to its result
  pub shut_comes : (held : List Op) (result : StreamResult) (deeds : List Deed) → IsDone (come opening p (shutting held result) deeds) → come opening p (shutting held result) deeds ≡ result
  shut_comes [] result deeds done = refl
  shut_comes (op ∷ held) result deeds done =
      let g = goes fine held op (λ _. shutting held result) deeds done in
      g.comes ∙ shut_comes held result (answered opening p deeds op) (subst IsDone g.comes done)

-- what the rows of the store tell where they don't refuse
pub loaded : (held past_end : Bool) (all more : List ℕ) → bytes (if not held then NoLock else if past_end then PastEnd else Bytes all) ≡ Some more → more ≡ all
loaded false past_end all more e = absurd (grind (arith, e))
loaded true true all more e = absurd (grind (arith, e))
loaded true false all more e = grind (arith, e)

pub measured : (held : Bool) (m n : ℕ) → size (if not held then NoLock else Size m) ≡ Some n → n ≡ m
measured false m n e = absurd (grind (arith, e))
measured true m n e = grind (arith, e)
