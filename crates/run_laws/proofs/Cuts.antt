-- How the open operations of two worlds that differ at one process are cut at that process.
use Rattle.std.proofs.Common.{◌≡◌, ◌≤◌, ◌<◌, ◌∙◌, ℕ, zero, suc, List, [], ◌∷◌, ◌++◌, Option, Some, None, inl, inr, refl, sym, ap, subst, append_assoc, arith}
use Rattle.std.specs.Prelude.{All}
use Rattle.std.proofs.lemmas.Bool.{cases_lt}
use Rattle.std.proofs.lemmas.List.Elements.{All-nil, All-cons}
use Rattle.dom_history.specs.Histories.{Pending}
use Rattle.fault_handler.specs.Desks.{procs}
use Rattle.fault_handler.specs.Invariant.{IsProc}
use Rattle.fault_handler.proofs.Fours.{by_proc, first, second, third, fourth}
use Rattle.node_runs.specs.NodeStates.{OpenOp}
use Rattle.node_runs.specs.Runs.{World}
use Rattle.node_runs.specs.RunHistories.{pending_in, pending_at, pending_to, doing_of}
use Rattle.node_runs.specs.CallsKeep.{EachOf}
use Rattle.run_laws.specs.DecidedReplies.{proc_at}
use Rattle.run_laws.proofs.Following.{EachOf-append}

-- two lists that differ at one place
pub record AreCut (a b xs ys : List Pending) : Type 0 where
  pub left : List Pending
  pub right : List Pending
  pub first : xs ≡ left ++ (a ++ right)
  pub second : ys ≡ left ++ (b ++ right)

-- with more before, and with more behind
cut-before : (a b xs ys more : List Pending) → AreCut a b xs ys → AreCut a b (more ++ xs) (more ++ ys)
cut-before a b xs ys more c = record {
  left = more ++ c.left;
  right = c.right;
  first = ap (λ zs. more ++ zs) c.first ∙ sym (append_assoc more c.left (a ++ c.right));
  second = ap (λ zs. more ++ zs) c.second ∙ sym (append_assoc more c.left (b ++ c.right));
}

cut-behind : (a b xs ys more : List Pending) → AreCut a b xs ys → AreCut a b (xs ++ more) (ys ++ more)
cut-behind a b xs ys more c = record {
  left = c.left;
  right = c.right ++ more;
  first = ap (λ zs. zs ++ more) c.first ∙ (append_assoc c.left (a ++ c.right) more ∙ ap (λ zs. c.left ++ zs) (append_assoc a c.right more));
  second = ap (λ zs. zs ++ more) c.second ∙ (append_assoc c.left (b ++ c.right) more ∙ ap (λ zs. c.left ++ zs) (append_assoc b c.right more));
}

pub all-of : {A : Type 0} (P : A → Type 0) (xs : List A) → EachOf P xs → All P xs
all-of P [] each = All-nil P
all-of P (x ∷ xs) each = All-cons P x xs each.0 (all-of P xs each.1)

module _ (w v : World) where
  -- processes that have the same open
  at-same : (n : ℕ) (ps : List ℕ) → EachOf (λ k. doing_of v (proc_at n k) ≡ doing_of w (proc_at n k)) ps → pending_at v n ps ≡ pending_at w n ps
  at-same n [] same = refl
  at-same n (k ∷ ps) same = ap (λ o. pending_in (proc_at n k) o ++ pending_at v n ps) same.0 ∙ ap (λ xs. pending_in (proc_at n k) (doing_of w (proc_at n k)) ++ xs) (at-same n ps same.1)

  four-same : (n : ℕ) → ((k : ℕ) → IsProc k → doing_of v (proc_at n k) ≡ doing_of w (proc_at n k)) → pending_at v n procs ≡ pending_at w n procs
  four-same n same = at-same n procs (same 1 first, (same 2 second, (same 3 third, (same 4 fourth, tt))))

  -- where all have the same open
  pub pending-same : ((n p : ℕ) → IsProc p → doing_of v (proc_at n p) ≡ doing_of w (proc_at n p)) → (n : ℕ) → pending_to v n ≡ pending_to w n
  pending-same same zero = refl
  pending-same same (suc n) = ap (λ xs. xs ++ pending_at v (suc n) procs) (pending-same same n) ∙ ap (λ xs. pending_to w n ++ xs) (four-same (suc n) (same (suc n)))

  module _ (a p : ℕ) (proc : IsProc p) (same : (n q : ℕ) → IsProc q → (n ≡ a → q ≡ p → ⊥) → doing_of v (proc_at n q) ≡ doing_of w (proc_at n q)) where
    abbrev One : List Pending → List Pending → Type 0
    One xs ys = AreCut (pending_in (proc_at a p) (doing_of w (proc_at a p))) (pending_in (proc_at a p) (doing_of v (proc_at a p))) xs ys

    to-same : (n : ℕ) → n < a → pending_to v n ≡ pending_to w n
    to-same zero below = refl
    to-same (suc n) below =
        ap (λ xs. xs ++ pending_at v (suc n) procs) (to-same n (omega (arith, below)))
        ∙ ap (λ xs. pending_to w n ++ xs) (four-same (suc n) (λ k other. same (suc n) k other (λ e f. absurd (omega (arith, e, below)))))

    -- at the node of the process, where it comes behind some others
    node-cut : (before behind : List ℕ) → EachOf (λ k. IsProc k × (k ≡ p → ⊥)) before → EachOf (λ k. IsProc k × (k ≡ p → ⊥)) behind → One (pending_at w a (before ++ p ∷ behind)) (pending_at v a (before ++ p ∷ behind))
    node-cut [] behind no_earlier no_later = record {
      left = [];
      right = pending_at w a behind;
      first = refl;
      second = ap (λ xs. pending_in (proc_at a p) (doing_of v (proc_at a p)) ++ xs) (at-same a behind (others behind no_later));
    }
      where
        others : (ks : List ℕ) → EachOf (λ k. IsProc k × (k ≡ p → ⊥)) ks → EachOf (λ k. doing_of v (proc_at a k) ≡ doing_of w (proc_at a k)) ks
        others [] each = tt
        others (k ∷ ks) each = (same a k each.0.0 (λ e f. each.0.1 f), others ks each.1)
    node-cut (k ∷ before) behind no_earlier no_later =
        subst (λ o. One (pending_in (proc_at a k) (doing_of w (proc_at a k)) ++ pending_at w a (before ++ p ∷ behind)) (pending_in (proc_at a k) o ++ pending_at v a (before ++ p ∷ behind)))
        (sym (same a k no_earlier.0.0 (λ e f. no_earlier.0.1 f)))
        (cut-before (pending_in (proc_at a p) (doing_of w (proc_at a p))) (pending_in (proc_at a p) (doing_of v (proc_at a p))) (pending_at w a (before ++ p ∷ behind)) (pending_at v a (before ++ p ∷ behind))
        (pending_in (proc_at a k) (doing_of w (proc_at a k))) (node-cut before behind no_earlier.1 no_later))

    four-cut : One (pending_at w a procs) (pending_at v a procs)
    four-cut = by p refl proc
      where
        cut : (before behind : List ℕ) → before ++ p ∷ behind ≡ procs → EachOf (λ k. IsProc k × (k ≡ p → ⊥)) before → EachOf (λ k. IsProc k × (k ≡ p → ⊥)) behind → One (pending_at w a procs) (pending_at v a procs)
        cut before behind e no_earlier no_later = subst (λ ps. One (pending_at w a ps) (pending_at v a ps)) e (node-cut before behind no_earlier no_later)

        by : (k : ℕ) → p ≡ k → IsProc k → One (pending_at w a procs) (pending_at v a procs)
        by k e is = by_proc (λ k. p ≡ k → One (pending_at w a procs) (pending_at v a procs))
            (λ e. cut [] (2 ∷ 3 ∷ 4 ∷ []) (ap (λ k. k ∷ 2 ∷ 3 ∷ 4 ∷ []) e) tt ((second, λ f. omega (arith, e, f)), ((third, λ f. omega (arith, e, f)), ((fourth, λ f. omega (arith, e, f)), tt))))
            (λ e. cut (1 ∷ []) (3 ∷ 4 ∷ []) (ap (λ k. 1 ∷ k ∷ 3 ∷ 4 ∷ []) e) ((first, λ f. omega (arith, e, f)), tt) ((third, λ f. omega (arith, e, f)), ((fourth, λ f. omega (arith, e, f)), tt)))
            (λ e. cut (1 ∷ 2 ∷ []) (4 ∷ []) (ap (λ k. 1 ∷ 2 ∷ k ∷ 4 ∷ []) e) ((first, λ f. omega (arith, e, f)), ((second, λ f. omega (arith, e, f)), tt)) ((fourth, λ f. omega (arith, e, f)), tt))
            (λ e. cut (1 ∷ 2 ∷ 3 ∷ []) [] (ap (λ k. 1 ∷ 2 ∷ 3 ∷ k ∷ []) e) ((first, λ f. omega (arith, e, f)), ((second, λ f. omega (arith, e, f)), ((third, λ f. omega (arith, e, f)), tt))) tt)
            k is e

    -- all the open operations
    pub pending-cut : (n : ℕ) → 1 ≤ a → a ≤ n → One (pending_to w n) (pending_to v n)
    pending-cut zero least most = absurd (omega (arith, least, most))
    pending-cut (suc n) least most = elim (cases_lt n a) [
      | inl above ↦
          (let e : a ≡ suc n = omega (arith, above, most) in
          subst (λ xs. One (pending_to w n ++ pending_at w (suc n) procs) (xs ++ pending_at v (suc n) procs)) (sym (to-same n above))
          (cut-before (pending_in (proc_at a p) (doing_of w (proc_at a p))) (pending_in (proc_at a p) (doing_of v (proc_at a p))) (pending_at w (suc n) procs) (pending_at v (suc n) procs) (pending_to w n)
          (subst (λ m. One (pending_at w m procs) (pending_at v m procs)) e four-cut)))
      | inr below ↦
          subst (λ xs. One (pending_to w n ++ pending_at w (suc n) procs) (pending_to v n ++ xs)) (sym (four-same (suc n) (λ k other. same (suc n) k other (λ e f. absurd (omega (arith, e, below))))))
          (cut-behind (pending_in (proc_at a p) (doing_of w (proc_at a p))) (pending_in (proc_at a p) (doing_of v (proc_at a p))) (pending_to w n) (pending_to v n) (pending_at w (suc n) procs) (pending-cut n least below))
    ]

-- what holds of each open operation of the processes of a world
module _ (w : World) (P : Pending → Type 0) (opened : (n p : ℕ) → IsProc p → (o : OpenOp) → doing_of w (proc_at n p) ≡ Some o → P (record { begun = o.began.begun; proc = proc_at n p; op = o.began.op })) where
  in-each : (n p : ℕ) → IsProc p → (d : Option OpenOp) → doing_of w (proc_at n p) ≡ d → EachOf P (pending_in (proc_at n p) d)
  in-each n p proc None e = tt
  in-each n p proc (Some o) e = (opened n p proc o e, tt)

  at-each : (n : ℕ) (ps : List ℕ) → EachOf IsProc ps → EachOf P (pending_at w n ps)
  at-each n [] each = tt
  at-each n (p ∷ ps) each = EachOf-append P (pending_in (proc_at n p) (doing_of w (proc_at n p))) (pending_at w n ps) (in-each n p each.0 (doing_of w (proc_at n p)) refl) (at-each n ps each.1)

  pub pending-each : (n : ℕ) → EachOf P (pending_to w n)
  pending-each zero = tt
  pending-each (suc n) = EachOf-append P (pending_to w n) (pending_at w (suc n) procs) (pending-each n) (at-each (suc n) procs (first, (second, (third, (fourth, tt)))))
