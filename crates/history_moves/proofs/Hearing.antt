-- What processes have heard, and in which phases, as a history changes.
use Rattle.std.proofs.Common.{◌≡◌, ◌∙◌, ◌≤◌, Bool, true, false, ℕ, suc, List, [], ◌∷◌, ◌++◌, Some, None, refl, sym, ap, subst}
use Rattle.std.specs.Prelude.{All, IsTrue, not, if◌then◌else◌}
use Rattle.std.proofs.lemmas.List.Elements.{All-nil, All-cons, All-head, All-tail, filter-append}
use Rattle.std.proofs.lemmas.Bool.{not-true}
use Rattle.uid_names.specs.Names.{ProcName, same_proc}
use Rattle.uid_names.specs.Openings.{Start}
use Rattle.uid_names.specs.declared.ids.Place.{Place}
use Rattle.uid_names.proofs.Orders.{same_proc-itself}
use Rattle.dom_history.specs.declared.op.Reply.{Reply}
use Rattle.dom_history.specs.declared.op.Want.{Want}
use Rattle.dom_history.specs.declared.op.Want.TheVariants.{Do, Phase}
use Rattle.dom_history.specs.declared.op.Entry.{Entry}
use Rattle.dom_history.specs.StoreEffects.{own}
use Rattle.dom_history.specs.Histories.{Item, Answered, Acted, Pending, History, entries, told, place_of, place_lt}
use Rattle.dom_history.specs.Legal.{IsLegal, IsBefore, IsIdle, with_entry}
use Rattle.dom_history.specs.Follows.{Heard, Reaches, answered, passed, entries_of, open_of, IsPhased}
use Rattle.dom_history.proofs.Items.{entries-append}
use Rattle.history_moves.specs.Hearing.{HasHeard}
use Rattle.history_moves.specs.HistoryMoves.{history, entry_of, told_to}
use Rattle.history_moves.proofs.Lists.{All-middle, All-left, All-with, All-without, AllPairs-middle}
use Rattle.history_moves.proofs.Opens.{OfOthers, of_others-turned}
use Rattle.history_moves.proofs.Places.{place_lt-both, same_proc-turned}

-- entries with one more are in the order of phases
phased-with : (xs : List Entry) (e : Entry) (ys : List Entry) → IsPhased (xs ++ ys) → All (λ f. e.phase ≤ f.phase) xs → All (λ f. f.phase ≤ e.phase) ys → IsPhased (xs ++ e ∷ ys)
phased-with [] e ys phased later earlier = (earlier, phased)
phased-with (x ∷ xs) e ys phased later earlier = (
  All-with (λ f. f.phase ≤ x.phase) xs e ys (All-head (λ f. e.phase ≤ f.phase) x xs later) phased.0,
  phased-with xs e ys phased.1 (All-tail (λ f. e.phase ≤ f.phase) x xs later) earlier,
)

-- and without it
phased-without : (xs : List Entry) (e : Entry) (ys : List Entry) → IsPhased (xs ++ e ∷ ys) → IsPhased (xs ++ ys)
phased-without [] e ys phased = phased.1
phased-without (x ∷ xs) e ys phased = (All-without (λ f. f.phase ≤ x.phase) xs e ys phased.0, phased-without xs e ys phased.1)

phased-later : (xs : List Entry) (e : Entry) (ys : List Entry) → IsPhased (xs ++ e ∷ ys) → All (λ f. e.phase ≤ f.phase) xs
phased-later [] e ys phased = All-nil (λ f. e.phase ≤ f.phase)
phased-later (x ∷ xs) e ys phased = All-cons (λ f. e.phase ≤ f.phase) x xs (All-middle (λ f. f.phase ≤ x.phase) xs e ys phased.0) (phased-later xs e ys phased.1)

phased-earlier : (xs : List Entry) (e : Entry) (ys : List Entry) → IsPhased (xs ++ e ∷ ys) → All (λ f. f.phase ≤ e.phase) ys
phased-earlier [] e ys phased = phased.0
phased-earlier (x ∷ xs) e ys phased = phased-earlier xs e ys phased.1

module _ (behind : List Item) (e : Entry) (before : List Item) where
  -- a history with an entry put in is in the order of phases
  pub phased-put_in : IsPhased (entries (behind ++ before)) → All (λ f. e.phase ≤ f.phase) (entries behind) → All (λ f. f.phase ≤ e.phase) (entries before) → IsPhased (entries (behind ++ Answered e ∷ before))
  phased-put_in phased later earlier =
      let h = subst IsPhased (entries-append behind before) phased in
      subst IsPhased (sym (entries-append behind (Answered e ∷ before))) (phased-with (entries behind) e (entries before) h later earlier)

  -- only where the three hold
  pub phased-parts : IsPhased (entries (behind ++ Answered e ∷ before)) → IsPhased (entries (behind ++ before)) × All (λ f. e.phase ≤ f.phase) (entries behind) × All (λ f. f.phase ≤ e.phase) (entries before)
  phased-parts phased =
      let h = subst IsPhased (entries-append behind (Answered e ∷ before)) phased in (
        subst IsPhased (sym (entries-append behind before)) (phased-without (entries behind) e (entries before) h),
        phased-later (entries behind) e (entries before) h,
        phased-earlier (entries behind) e (entries before) h,
      )

-- no entry of p
abbrev IsOfAnother : ProcName → Item → Type 0
IsOfAnother p (Answered f) = same_proc f.proc p ≡ false
IsOfAnother p (Acted a) = Unit {0}

-- behind the Begin of an open operation its process has no entry
none-own : (o : Pending) (behind : List Item) → All (λ i. IsTrue (place_lt o.begun (place_of i))) behind → All (IsBefore o) behind → All (IsOfAnother o.proc) behind
none-own o behind above last k d below = one _ (above k d below) (last k d below)
  where
    one : (i : Item) → IsTrue (place_lt o.begun (place_of i)) → IsBefore o i → IsOfAnother o.proc i
    one (Acted a) above last = tt
    one (Answered f) above last = by_test (same_proc f.proc o.proc) refl
      where
        by_test : (b : Bool) → same_proc f.proc o.proc ≡ b → b ≡ false
        by_test true own = absurd (place_lt-both o.begun f.place above (last own))
        by_test false own = refl

-- so its entries are those before
entries-of_others : (p : ProcName) (behind : List Item) → All (IsOfAnother p) behind → (items : List Item) → entries_of p (entries (behind ++ items)) ≡ entries_of p (entries items)
entries-of_others p [] none items = refl
entries-of_others p (Answered f ∷ behind) none items = rw (All-head (IsOfAnother p) (Answered f) behind none) (entries-of_others p behind (All-tail (IsOfAnother p) (Answered f) behind none) items)
entries-of_others p (Acted a ∷ behind) none items = entries-of_others p behind (All-tail (IsOfAnother p) (Acted a) behind none) items

-- and so is what it was told
told-of_others : (p : ProcName) (behind : List Item) → All (IsOfAnother p) behind → (items : List Item) → own p (told (entries (behind ++ items))) ≡ own p (told (entries items))
told-of_others p [] none items = refl
told-of_others p (Answered f ∷ behind) none items = rw (All-head (IsOfAnother p) (Answered f) behind none) (told-of_others p behind (All-tail (IsOfAnother p) (Answered f) behind none) items)
told-of_others p (Acted a ∷ behind) none items = told-of_others p behind (All-tail (IsOfAnother p) (Acted a) behind none) items

-- one more, of another process, makes no difference
entries-with_other : (q : ProcName) (e : Entry) → same_proc e.proc q ≡ false → (behind before : List Item) → entries_of q (entries (behind ++ Answered e ∷ before)) ≡ entries_of q (entries (behind ++ before))
entries-with_other q e other [] before = rw other refl
entries-with_other q e other (Answered f ∷ behind) before = ap (λ (es : List Entry). if same_proc f.proc q then f ∷ es else es) (entries-with_other q e other behind before)
entries-with_other q e other (Acted a ∷ behind) before = entries-with_other q e other behind before

-- of an idle process nothing is open
All-open_of_idle : (P : Pending → Type 0) (p : ProcName) (pending : List Pending) → IsIdle p pending → All P (open_of p pending)
All-open_of_idle P p [] idle = All-nil P
All-open_of_idle P p (q ∷ pending) idle =
    let other = not-true (same_proc q.proc p) (same_proc-turned p q.proc (All-head (λ o. IsTrue (not (same_proc p o.proc))) q pending idle)) in
    rw other (All-open_of_idle P p pending (All-tail (λ o. IsTrue (not (same_proc p o.proc))) q pending idle))

module _ (ask : Heard → Want) (p : ProcName) (heard : Heard) (phase : ℕ) where
  -- at the start nothing was heard
  pub heard-begins : (items : List Item) (left right : List Pending) (o : Pending) → HasHeard ask (history items (left ++ right)) p heard phase → (same_proc o.proc p ≡ true → ask heard ≡ Do o.op)
      → HasHeard ask (history items (left ++ o ∷ right)) p heard phase
  heard-begins items left right o h asks = record { reaches = h.reaches; next = rw (filter-append (λ q. same_proc q.proc p) left (o ∷ right)) (by_test (same_proc o.proc p) refl) }
    where
      others : All (λ q. ask heard ≡ Do q.op) (open_of p left ++ open_of p right)
      others = rw (filter-append (λ q. same_proc q.proc p) left right) at h.next

      by_test : (b : Bool) → same_proc o.proc p ≡ b → All (λ q. ask heard ≡ Do q.op) (open_of p left ++ (if b then o ∷ open_of p right else open_of p right))
      by_test true own = All-with (λ q. ask heard ≡ Do q.op) (open_of p left) o (open_of p right) (asks own) others
      by_test false own = others

  -- a process that has nothing open passes a phase
  pub heard-passes : (h : History) → HasHeard ask h p heard phase → ask heard ≡ Phase → IsIdle p h.open_ops → HasHeard ask h p (None ∷ heard) (suc phase)
  heard-passes h was asks idle = record {
    reaches = passed was.reaches asks;
    next = All-open_of_idle (λ o. ask (None ∷ heard) ≡ Do o.op) p h.open_ops idle;
  }

  -- or does an operation that is answered at once
  pub heard-ends : (h : History) (e : Entry) → HasHeard ask h p heard phase → e.proc ≡ p → ask heard ≡ Do e.op → e.phase ≡ phase → IsIdle p h.open_ops → HasHeard ask (with_entry e h) p (Some e.reply ∷ heard) phase
  heard-ends h e was own asks in_phase idle =
      let same : same_proc e.proc p ≡ true = rw own (same_proc-itself p) in
      record {
        reaches = rw same (answered e was.reaches asks in_phase);
        next = All-open_of_idle (λ o. ask (Some e.reply ∷ heard) ≡ Do o.op) p h.open_ops idle;
      }

module _ (opening : Start) (left right : List Pending) (o : Pending) (behind old : List Item) (legal : IsLegal opening (history (behind ++ old) (left ++ o ∷ right))) (above : All (λ i. IsTrue (place_lt o.begun (place_of i))) behind) where
  -- its process has no entry behind
  none-behind : All (IsOfAnother o.proc) behind
  none-behind = none-own o behind above (All-left (IsBefore o) behind old (All-middle (λ q. All (IsBefore q) (behind ++ old)) left o right legal.open_last))

  -- what the process was told, it was told before
  pub told-before : told_to o (behind ++ old) ≡ told_to o old
  told-before = told-of_others o.proc behind none-behind old

  module _ (x : Place) (phase : ℕ) (reply : Reply) (before : List Item) (same : entries old ≡ entries before) where
    -- its process was told one thing more
    pub told-after : told_to o (behind ++ Answered (entry_of o x phase reply) ∷ before) ≡ record { proc = o.proc; op = o.op; reply = reply } ∷ told_to o (behind ++ old)
    told-after = rw (told-of_others o.proc behind none-behind old, same, told-of_others o.proc behind none-behind (Answered (entry_of o x phase reply) ∷ before), same_proc-itself o.proc) refl

    -- the process that was told goes on
    pub heard-told : (ask : Heard → Want) (heard : Heard) → HasHeard ask (history (behind ++ old) (left ++ o ∷ right)) o.proc heard phase
        → HasHeard ask (history (behind ++ Answered (entry_of o x phase reply) ∷ before) (left ++ right)) o.proc (Some reply ∷ heard) phase
    heard-told ask heard h =
        let others = AllPairs-middle OfOthers of_others-turned left o right legal.one_open in
        let was : Reaches ask (entries_of o.proc (entries before)) heard phase = rw (entries-of_others o.proc behind none-behind old, same) at h.reaches in
        let next = rw (filter-append (λ q. same_proc q.proc o.proc) left (o ∷ right), same_proc-itself o.proc) at h.next in
        let asks = All-middle (λ q. ask heard ≡ Do q.op) (open_of o.proc left) o (open_of o.proc right) next in
        record {
          reaches = rw (entries-of_others o.proc behind none-behind (Answered (entry_of o x phase reply) ∷ before), same_proc-itself o.proc) (answered (entry_of o x phase reply) was asks refl);
          next = All-open_of_idle (λ q. ask (Some reply ∷ heard) ≡ Do q.op) o.proc (left ++ right) others;
        }

    -- others have heard what they had
    pub heard-others : (ask : Heard → Want) (q : ProcName) (heard : Heard) (in_phase : ℕ) → same_proc o.proc q ≡ false → HasHeard ask (history (behind ++ old) (left ++ o ∷ right)) q heard in_phase
        → HasHeard ask (history (behind ++ Answered (entry_of o x phase reply) ∷ before) (left ++ right)) q heard in_phase
    heard-others ask q heard in_phase other h =
        let same_behind : entries (behind ++ old) ≡ entries (behind ++ before) = entries-append behind old ∙ ap (λ es. entries behind ++ es) same ∙ sym (entries-append behind before) in
        let next = rw (filter-append (λ r. same_proc r.proc q) left (o ∷ right), other) at h.next in
        record {
          reaches = rw (entries-with_other q (entry_of o x phase reply) other behind before, ← same_behind) h.reaches;
          next = rw (filter-append (λ r. same_proc r.proc q) left right) next;
        }
