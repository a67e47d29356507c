-- What the answer to a page or a length that was sent before a release leaves of an item.
use Rattle.std.proofs.Common.{◌≡◌, ℕ, Bool, true, false, Option, Some, None, inl, inr, refl, sym, ap, subst, ◌∙◌, arith}
use Rattle.std.specs.Prelude.{◌==◌, ◌&&◌, not, if◌then◌else◌}
use Rattle.std.specs.Option.{option_map}
use Rattle.std.proofs.lemmas.Bool.Decides.{nat_tests}
use Rattle.std.proofs.lemmas.Option.{same_Some}
use Rattle.std.proofs.Math.Bool.{and-true}
use Rattle.uid_names.specs.Names.{ObjectName, same_uid}
use Rattle.uid_names.proofs.ListLemmas.{by_cases}
use Rattle.uid_names.proofs.Orders.{same_uid_is}
use Rattle.uid_names.proofs.Tables.{row_of-named}
use Rattle.page_cache.specs.Caches.{Resident, page_at}
use Rattle.fault_handler.specs.declared.lengths.Known.{Known}
use Rattle.fault_handler.specs.Lengths.{known_name, known_of, is_changed, changed_in, changed_length, sent_length, sent_if, known_after}
use Rattle.fault_handler.specs.ShownPages.{changed_page, settled, as_sent}
use Rattle.fault_handler.specs.Transits.{going}
use Rattle.fault_handler.specs.Desks.{DeskState, moving_of}
use Rattle.fault_handler.specs.Invariant.{is_dirty}
use Rattle.fault_handler.specs.Changes.{settled_by, known_sent, with_raised, with_page_done, with_length_done, with_call}
use Rattle.fault_handler.specs.LockCalls.{LockAnswer}
use Rattle.fault_handler.proofs.KnownRows.{known_of-with_known, uid-sent}
use Rattle.fault_handler.proofs.PageLists.{is_same, same-uid, same-page, page_at-changed_other}
use Rattle.lock_validate.specs.Causes.{Cause}
use Rattle.run_laws.specs.Items.{Item, Value, page_value, known_value, is_dirty_at}
use Rattle.run_laws.proofs.ItemSteps.{IsCleanThen, ItemStep, alike, cleaned, changed-here, page-then, length-then, flagged-one-then}
use Rattle.run_laws.proofs.Raising.{IsSettledTo}

-- where a release goes on
later-then : (g e : DeskState) (u : ObjectName) (x : Item) → IsSettledTo g e → is_dirty_at e u x ≡ false → IsCleanThen g e u x
later-then g e u Item.Size to clean = length-then g e u (ap (known_of u) to.known) clean
later-then g e u (Item.Page k) to clean = elim to.pages [
  | inl same ↦ page-then g e u k (ap (λ ps. page_at ps u k) same) clean
  | inr sent ↦ flagged-one-then g e u k sent.0 sent.1 as_sent (λ v i r. refl) (λ r. refl) (λ r. refl) sent.2 clean
]

both-then : (d g e : DeskState) (u : ObjectName) (x : Item) → (is_dirty_at g u x ≡ false → IsCleanThen d g u x) → IsCleanThen g e u x → IsCleanThen d e u x
both-then d g e u x first second = let one = first second.was in record { was = one.was; value = λ v is. one.value v (second.value v is) }

module _ (d : DeskState) (p : ℕ) (u : ObjectName) where
  -- a page that was sent
  module _ (w : ObjectName) (k : ℕ) (delete taken : Bool) (stamp : ℕ) (goes : moving_of d p ≡ going w k) (r : Resident) (there : page_at d.cache.pages w k ≡ Some r) (e : DeskState)
      (to : IsSettledTo (with_raised (with_page_done (with_call d p None) p taken) w stamp) e) where
    abbrev g : DeskState
    g = with_raised (with_page_done (with_call d p None) p taken) w stamp

    abbrev c : Cause
    c = Cause.AnswerCame (LockAnswer.PageSettled w delete taken stamp)

    pages : g.cache.pages ≡ changed_page w k (settled taken) d.cache.pages
    pages = ap (λ t. settled_by t taken d.cache.pages) goes

    settled-other : (j : ℕ) → is_same u j w k ≡ false → is_dirty_at g u (Item.Page j) ≡ false → IsCleanThen d g u (Item.Page j)
    settled-other j differs clean = page-then d g u j (ap (λ ps. page_at ps u j) pages ∙ page_at-changed_other w k (settled taken) (λ v i s. refl) d.cache.pages u j differs) clean

    settled-here : (j : ℕ) → is_same u j w k ≡ true → page_at g.cache.pages u j ≡ Some (settled taken r)
    settled-here j same =
        ap (λ ps. page_at ps u j) pages
        ∙ (changed-here d.cache.pages u j w k (settled taken) (λ v i s. refl) same
        ∙ ap (option_map (settled taken)) (subst (λ a. page_at d.cache.pages a j ≡ Some r) (sym (same-uid u j w k same)) (subst (λ i. page_at d.cache.pages w i ≡ Some r) (sym (same-page u j w k same)) there)))

    there-at : (j : ℕ) → is_same u j w k ≡ true → page_at d.cache.pages u j ≡ Some r
    there-at j same = subst (λ a. page_at d.cache.pages a j ≡ Some r) (sym (same-uid u j w k same)) (subst (λ i. page_at d.cache.pages w i ≡ Some r) (sym (same-page u j w k same)) there)

    -- it is as dirty as it was, where its home did not take it as it is
    still-dirty : (j : ℕ) → is_same u j w k ≡ true → (settled taken r).flags.dirty ≡ r.flags.dirty → is_dirty_at g u (Item.Page j) ≡ false → IsCleanThen d g u (Item.Page j)
    still-dirty j same dirty clean = record {
      was = ap is_dirty (there-at j same) ∙ (sym dirty ∙ (sym (ap is_dirty (settled-here j same)) ∙ clean));
      value = λ v is. ap (option_map page_value) (there-at j same) ∙ (sym (ap (option_map page_value) (settled-here j same)) ∙ is);
    }

  pub page-settled : (w : ObjectName) (k : ℕ) (delete taken : Bool) (stamp : ℕ) → moving_of d p ≡ going w k → (r : Resident) → page_at d.cache.pages w k ≡ Some r → (e : DeskState) → IsSettledTo (with_raised (with_page_done (with_call d p None) p taken) w stamp) e → (x : Item)
      → ItemStep (Cause.AnswerCame (LockAnswer.PageSettled w delete taken stamp)) d p d e u x
  page-settled w k delete taken stamp goes r there e to Item.Size =
      alike (λ clean. both-then d (g w k delete taken stamp goes r there e to) e u Item.Size (λ was. length-then d (g w k delete taken stamp goes r there e to) u refl was) (later-then (g w k delete taken stamp goes r there e to) e u Item.Size to clean))
  page-settled w k delete taken stamp goes r there e to (Item.Page j) = by_cases (is_same u j w k) (ItemStep (Cause.AnswerCame (LockAnswer.PageSettled w delete taken stamp)) d p d e u (Item.Page j))
      (λ same. by taken same to)
      (λ differs. alike (λ clean. both-then d (g w k delete taken stamp goes r there e to) e u (Item.Page j) (settled-other w k delete taken stamp goes r there e to j differs) (later-then (g w k delete taken stamp goes r there e to) e u (Item.Page j) to clean)))
    where
      kept : (b : Bool) → is_same u j w k ≡ true → (to : IsSettledTo (with_raised (with_page_done (with_call d p None) p b) w stamp) e) → (settled b r).flags.dirty ≡ r.flags.dirty → ItemStep (Cause.AnswerCame (LockAnswer.PageSettled w delete b stamp)) d p d e u (Item.Page j)
      kept b same to dirty = alike (λ clean. both-then d (g w k delete b stamp goes r there e to) e u (Item.Page j) (still-dirty w k delete b stamp goes r there e to j same dirty) (later-then (g w k delete b stamp goes r there e to) e u (Item.Page j) to clean))

      by : (b : Bool) → is_same u j w k ≡ true → IsSettledTo (with_raised (with_page_done (with_call d p None) p b) w stamp) e → ItemStep (Cause.AnswerCame (LockAnswer.PageSettled w delete b stamp)) d p d e u (Item.Page j)
      by false same to = kept false same to (and-true r.flags.dirty)
      by true same to = by_cases r.flags.sent (ItemStep (Cause.AnswerCame (LockAnswer.PageSettled w delete true stamp)) d p d e u (Item.Page j))
          (λ sent.
          let a = same-uid u j w k same in
          let i = same-page u j w k same in
          cleaned (page_value r) (sym a, goes ∙ (ap (λ v. going v k) (sym a) ∙ ap (going u) (sym i)), (r, there-at w k delete true stamp goes r there e to j same, sent, refl))
          (λ other clean shown. same_Some other (page_value r)
          (sym ((later-then (g w k delete true stamp goes r there e to) e u (Item.Page j) to clean).value other shown) ∙ ap (option_map page_value) (settled-here w k delete true stamp goes r there e to j same))))
          (λ unsent. kept true same to (ap (λ b. r.flags.dirty && not (true && b)) unsent ∙ and-true r.flags.dirty))

  -- a length that was sent
  pub length-settled : (w : ObjectName) (n : ℕ) (delete taken : Bool) (stamp : ℕ) (e : DeskState) → IsSettledTo (with_raised (with_length_done (with_call d p None) w n taken) w stamp) e → (x : Item)
      → ItemStep (Cause.AnswerCame (LockAnswer.LengthSettled w n delete taken stamp)) d p d e u x
  length-settled w n delete taken stamp e to (Item.Page j) =
      let g = with_raised (with_length_done (with_call d p None) w n taken) w stamp in
      alike (λ clean. both-then d g e u (Item.Page j) (λ was. page-then d g u j refl was) (later-then g e u (Item.Page j) to clean))
  length-settled w n delete false stamp e to Item.Size =
      let g = with_raised (with_length_done (with_call d p None) w n false) w stamp in
      alike (λ clean. both-then d g e u Item.Size (λ was. length-then d g u refl was) (later-then g e u Item.Size to clean))
  length-settled w n delete true stamp e to Item.Size = by (known_of w d.known) refl
    where
      same : known_of u (known_sent true w n d.known) ≡ known_of u d.known → (ItemStep (Cause.AnswerCame (LockAnswer.LengthSettled w n delete true stamp)) d p d e u Item.Size)
      same is = alike (λ clean. record { was = ap is_changed (sym is) ∙ (ap (λ ks. is_changed (known_of u ks)) (sym to.known) ∙ clean); value = λ v shown. ap (option_map known_value) (sym is) ∙ (ap (λ ks. option_map known_value (known_of u ks)) (sym to.known) ∙ shown) })

      changed : (k : Known) → known_of u d.known ≡ Some k → (b : Bool) → (k.length == n) ≡ b → known_of u (known_sent true w n d.known) ≡ Some (sent_if b k) → w ≡ u → (ItemStep (Cause.AnswerCame (LockAnswer.LengthSettled w n delete true stamp)) d p d e u Item.Size)
      changed k was false e_n now on = same (now ∙ sym was)
      changed k was true e_n now on = by_cases k.changed (ItemStep (Cause.AnswerCame (LockAnswer.LengthSettled w n delete true stamp)) d p d e u Item.Size)
          (λ is.
          let here : k.length ≡ n = grind (arith, nat_tests, e_n) in
          cleaned (Value.Length n) (on, ap changed_length was ∙ (ap (λ b. changed_in b k.length) is ∙ ap Some here), refl)
          (λ other clean shown. same_Some other (Value.Length n) (sym shown ∙ (ap (λ ks. option_map known_value (known_of u ks)) to.known ∙ (ap (option_map known_value) now ∙ ap (λ l. Some (Value.Length l)) here)))))
          (λ unchanged. alike (λ clean. record {
            was = ap is_changed was ∙ unchanged;
            value = λ v shown. ap (option_map known_value) was ∙ (sym (ap (option_map known_value) now) ∙ (ap (λ ks. option_map known_value (known_of u ks)) (sym to.known) ∙ shown));
          }))

      by : (o : Option Known) → known_of w d.known ≡ o → (ItemStep (Cause.AnswerCame (LockAnswer.LengthSettled w n delete true stamp)) d p d e u Item.Size)
      by None was = same (ap (λ o. known_of u (known_after (sent_length n) o d.known)) was)
      by (Some k) was = by_cases (same_uid u (sent_length n k).uid) (ItemStep (Cause.AnswerCame (LockAnswer.LengthSettled w n delete true stamp)) d p d e u Item.Size)
          (λ is.
          let named : (sent_length n k).uid ≡ w = uid-sent n k ∙ row_of-named known_name w d.known k was in
          let on : u ≡ w = same_uid_is u (sent_length n k).uid is ∙ named in
          changed k (ap (λ v. known_of v d.known) on ∙ was) (k.length == n) refl
          (ap (λ o. known_of u (known_after (sent_length n) o d.known)) was ∙ (known_of-with_known (sent_length n k) d.known u ∙ ap (λ b. if b then Some (sent_length n k) else known_of u d.known) is)) (sym on))
          (λ differs. same (ap (λ o. known_of u (known_after (sent_length n) o d.known)) was ∙ (known_of-with_known (sent_length n k) d.known u ∙ ap (λ b. if b then Some (sent_length n k) else known_of u d.known) differs)))
