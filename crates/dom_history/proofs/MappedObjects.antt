-- What one process does leaves the mappings of another.
use Rattle.std.proofs.Common.{◌≡◌, true, false, List, ◌++◌, refl}
use Rattle.uid_names.specs.Names.{ProcName, same_proc}
use Rattle.dom_history.specs.declared.op.Op.{Op}
use Rattle.dom_history.specs.declared.op.Op.TheVariants.{Delete, Lock, Map, New, Store, Unlock, Unmap}
use Rattle.dom_history.specs.declared.op.Reply.{Reply}
use Rattle.dom_history.specs.declared.op.Reply.TheVariants.{At, Fine, Made}
use Rattle.dom_history.specs.Mappings.{mappings}
use Rattle.dom_history.specs.StoreEffects.{StoreEffect, store_effect}

pub others-mapped : (p q : ProcName) (op : Op) (reply : Reply) (past : List StoreEffect) → same_proc p q ≡ false → mappings p (store_effect q op reply ++ past) ≡ mappings p past
others-mapped p q (New home kind room) (Made u) past other = refl
others-mapped p q (Lock u m) Fine past other = refl
others-mapped p q (Unlock u) Fine past other = refl
others-mapped p q (Delete u) Fine past other = refl
others-mapped p q (Store spot bytes) Fine past other = refl
others-mapped p q (Map u) (At a true) past other = rw other refl
others-mapped p q (Unmap u) Fine past other = rw other refl
others-mapped p q _ _ past other = refl
