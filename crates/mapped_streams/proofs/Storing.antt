-- What stores at the end of an object and the closing of a stream leave in one store.
use Rattle.std.proofs.Common.{◌≡◌, ◌≤◌, ◌+◌, ℕ, Bool, true, false, Some, List, [], ◌∷◌, ◌++◌, length, refl, ap, ◌∙◌, sym, subst, arith, append-nil}
use Rattle.uid_names.specs.Names.{ProcName, ObjectName}
use Rattle.uid_names.specs.Openings.{Start}
use Rattle.dom_history.specs.declared.op.Op.{Op}
use Rattle.dom_history.specs.declared.op.Op.TheVariants.{Unlock, Unmap, Store}
use Rattle.dom_history.specs.declared.op.Spot.{Spot}
use Rattle.dom_history.specs.declared.op.Spot.TheVariants.{Addr}
use Rattle.dom_history.specs.declared.op.Reply.TheVariants.{Fine}
use Rattle.dom_history.specs.declared.deed.Deed.{Deed}
use Rattle.dom_history.specs.StoreEffects.{FreesLock, Unmaps, Writes, store_effect, store_effects}
use Rattle.dom_history.specs.Mappings.{target}
use Rattle.dom_history.specs.Bytes.{length_of, bytes_from}
use Rattle.naming_tree.specs.Sessions.{fine, closers_if}
use Rattle.mapped_streams.specs.declared.step.StreamResult.{StreamResult}
use Rattle.mapped_streams.specs.Pages.{store_at}
use Rattle.mapped_streams.specs.Dialogues.{Dialogue, Ends}
use Rattle.mapped_streams.specs.Streams.{shutting, storing}
use Rattle.mapped_streams.specs.OneStore.{answer, answered, come, behind, content, IsDone}
use Rattle.mapped_streams.proofs.Sound.{IsReached}
use Rattle.mapped_streams.proofs.Serving.{goes, is_fine}
use Rattle.mapped_streams.proofs.Contents.{content_stays, length_written, content_written}

module _ (opening : Start) (p : ProcName) where
  -- an unlock leaves what objects hold
  unlock_leaves : (u v : ObjectName) (result : StreamResult) (deeds : List Deed) → IsDone (come opening p (shutting (Unlock u ∷ []) result) deeds) → content opening (store_effects (behind opening p (shutting (Unlock u ∷ []) result) deeds)) v ≡ content opening (store_effects deeds) v
  unlock_leaves u v result deeds done =
      let past = store_effects deeds in
      let g = goes opening p fine [] (Unlock u) (λ _. Ends result) deeds done in
      let effects : store_effects (answered opening p deeds (Unlock u)) ≡ FreesLock p u ∷ past = ap (λ r. store_effect p (Unlock u) r ++ past) (is_fine (answer opening p deeds (Unlock u)) g.at g.told) in
      ap (λ ds. content opening (store_effects ds) v) g.leads
      ∙ ap (λ x. content opening x v) effects
      ∙ content_stays opening past (FreesLock p u ∷ past) v refl (λ i. refl)

  -- so does a closing
  pub shut_leaves : (fresh : Bool) (u v : ObjectName) (result : StreamResult) (deeds : List Deed) → IsDone (come opening p (shutting (closers_if fresh u) result) deeds) → content opening (store_effects (behind opening p (shutting (closers_if fresh u) result) deeds)) v ≡ content opening (store_effects deeds) v
  shut_leaves false u v result deeds done = unlock_leaves u v result deeds done
  shut_leaves true u v result deeds done =
      let past = store_effects deeds in
      let g = goes opening p fine (Unlock u ∷ []) (Unmap u) (λ _. shutting (Unlock u ∷ []) result) deeds done in
      let d1 = answered opening p deeds (Unmap u) in
      let effects : store_effects d1 ≡ Unmaps p u ∷ past = ap (λ r. store_effect p (Unmap u) r ++ past) (is_fine (answer opening p deeds (Unmap u)) g.at g.told) in
      ap (λ ds. content opening (store_effects ds) v) g.leads
      ∙ unlock_leaves u v result d1 (subst IsDone g.comes done)
      ∙ ap (λ x. content opening x v) effects
      ∙ content_stays opening past (Unmaps p u ∷ past) v refl (λ i. refl)

  -- a store was done
  pub stored_effect : (deeds : List Deed) (spot : Spot) (bytes : List ℕ) → answer opening p deeds (Store spot bytes) ≡ Fine → store_effects (answered opening p deeds (Store spot bytes)) ≡ Writes p spot bytes ∷ store_effects deeds
  stored_effect deeds spot bytes e = ap (λ r. store_effect p (Store spot bytes) r ++ store_effects deeds) e

  -- bytes were put behind the n bytes of an object
  pub record Puts (u : ObjectName) (place n : ℕ) (bytes : List ℕ) (held ops : List Op) (end : Dialogue) (deeds : List Deed) : Type 0 where
    pub later : List Deed
    pub comes : come opening p (storing held (store_at place bytes ++ ops) end) deeds ≡ come opening p (storing held ops end) later
    pub leads : behind opening p (storing held (store_at place bytes ++ ops) end) deeds ≡ behind opening p (storing held ops end) later
    pub long : length_of opening (store_effects later) u ≡ n + length bytes
    pub holds : bytes_from opening (store_effects later) u 0 (n + length bytes) ≡ bytes_from opening (store_effects deeds) u 0 n ++ bytes
    pub kept : (address m : ℕ) → IsReached opening (store_effects deeds) p u address m → IsReached opening (store_effects later) p u address m

  none_more : (n : ℕ) → n + 0 ≡ n
  none_more n = omega arith

  pub puts : (u : ObjectName) (place n : ℕ) (bytes : List ℕ) (held ops : List Op) (end : Dialogue) (deeds : List Deed) → (1 ≤ length bytes → target opening (store_effects deeds) p (Addr place) ≡ Some (record { uid = u; offset = n })) → length_of opening (store_effects deeds) u ≡ n → IsDone (come opening p (storing held (store_at place bytes ++ ops) end) deeds) → Puts u place n bytes held ops end deeds
  puts u place n [] held ops end deeds at long done = record {
    later = deeds;
    comes = refl;
    leads = refl;
    long = long ∙ sym (none_more n);
    holds = ap (λ m. bytes_from opening (store_effects deeds) u 0 m) (none_more n) ∙ sym (append-nil (bytes_from opening (store_effects deeds) u 0 n));
    kept = λ address m reached. reached;
  }
  puts u place n (b ∷ bs) held ops end deeds at long done =
      let past = store_effects deeds in
      let bytes = b ∷ bs in
      let here = at (omega arith) in
      let op = Store (Addr place) bytes in
      let g = goes opening p fine held op (λ _. storing held ops end) deeds done in
      let effects = stored_effect deeds (Addr place) bytes (is_fine (answer opening p deeds op) g.at g.told) in
      record {
        later = answered opening p deeds op;
        comes = g.comes;
        leads = g.leads;
        long = ap (λ x. length_of opening x u) effects ∙ length_written opening past p (Addr place) bytes u n here long;
        holds = ap (λ x. bytes_from opening x u 0 (n + length bytes)) effects ∙ content_written opening past p (Addr place) bytes u n here long;
        kept = λ address m reached. subst (λ x. IsReached opening x p u address m) (sym effects) reached;
      }
