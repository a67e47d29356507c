-- What comes to nodes, one thing after the other.
use Rattle.std.proofs.Common.{◌≡◌, ◌≢◌, ℕ, Result, Ok, Err, OnOk, ◌<◌, Bool, true, false, cond, Some, List, [], ◌∷◌, ◌++◌, length, refl, sym, ap, subst, ◌∙◌, append-nil, inl, inr, arith}
use Rattle.std.specs.Prelude.{◌==◌, ◌&&◌, ◌-◌, filter, slice_get, slice_set}
use Rattle.std.proofs.lemmas.Bool.{cases_eq}
use Rattle.std.proofs.lemmas.Option.{slice_get_within}
use Rattle.std.proofs.lemmas.List.{append_assoc}
use Rattle.std.proofs.lemmas.List.Elements.{filter-append}
use Rattle.uid_names.proofs.Passed.{equal, eqb-itself}
use Rattle.uid_names.proofs.ListLemmas.{get-within, set-there, set-else}
use Rattle.node_core.specs.Nodes.{Noted}
use Rattle.ring_links.specs.declared.notice.Notice.{Notice}
use Rattle.world_core.specs.declared.station.LinkFrom.{LinkFrom}
use Rattle.world_core.specs.declared.station.Station.{Station}
use Rattle.world_core.specs.Stations.{open_ones, is_open_notice}
use Rattle.world_core.specs.Listed.{IsListed}
use Rattle.world_core.specs.Reached.{notice_if, ins_if, came_of, framed_ins, IsReached, AreReached}
use Rattle.world_core.specs.Sending.{told, delivered}
use Rattle.dom_history.specs.declared.plan.Fate.{Fate}
use Rattle.ring_messages.specs.Frames.{Message}
use Rattle.node_runs.specs.Deliveries.{is_gone}
use Rattle.dom_history.specs.declared.plan.FateRow.{FateRow}
use Rattle.dom_history.specs.Plans.{fate_of}
use Rattle.ring_messages.specs.Frames.{caller_of}
use Rattle.ring_links.specs.Notices.{notice_for}

kept-one : {A : Type 0} (E : A → Bool) (x : A) (kept : List A) (b : Bool) → E x ≡ b → filter E kept ≡ kept → filter E (cond b (x ∷ kept) kept) ≡ cond b (x ∷ kept) kept
kept-one E x kept true is same = ap (λ (b : Bool). cond b (x ∷ filter E kept) (filter E kept)) is ∙ ap (λ (xs : List _). x ∷ xs) same
kept-one E x kept false is same = same

pub kept-twice : {A : Type 0} (E : A → Bool) (xs : List A) → filter E (filter E xs) ≡ filter E xs
kept-twice E [] = refl
kept-twice E (x ∷ xs) = kept-one E x (filter E xs) (E x) refl (kept-twice E xs)

eq-other : (n m : ℕ) → n ≢ m → (n == m) ≡ false
eq-other n m differs = by-value (n == m) refl
  where
    by-value : (b : Bool) → (n == m) ≡ b → (n == m) ≡ false
    by-value false is = is
    by-value true is = absurd (differs (equal n m is))

module _ {P G : Type 0} where
  pub reached-not : (own : Bool) (x : Station P G) → IsReached own [] x.ins.items x x
  reached-not own x = record {
    node = refl;
    ins_are = refl;
    own_notices = λ _. sym (append-nil x.notices.items);
    notices = λ _ open_are. sym open_are ∙ ap (open_ones x.node) (sym (append-nil x.notices.items));
    listed = λ _ listed. listed;
  }

  pub reached-then : (own : Bool) (c d : List Notice) (ins more : List LinkFrom) (x y z : Station P G) → IsReached own c ins x y → IsReached own d more y z → IsReached own (c ++ d) more x z
  reached-then own c d ins more x y z a b = record {
    node = b.node ∙ a.node;
    ins_are = b.ins_are;
    own_notices = λ is. b.own_notices is ∙ ap (λ (ns : List Notice). ns ++ d) (a.own_notices is) ∙ append_assoc x.notices.items c d;
    notices = λ is open_are.
        let first = a.notices is open_are in
        let E = is_open_notice x.node in
        let all = x.notices.items ++ c in
        let open-y : open_ones y.node y.notices.items ≡ y.notices.items =
        ap (λ (k : Noted P). open_ones k y.notices.items) a.node ∙ ap (open_ones x.node) first ∙ kept-twice E all ∙ sym first in
        b.notices is open-y
        ∙ ap (λ (k : Noted P). open_ones k (y.notices.items ++ d)) a.node
        ∙ ap (λ (ns : List Notice). open_ones x.node (ns ++ d)) first
        ∙ filter-append E (open_ones x.node all) d
        ∙ ap (λ (ns : List Notice). ns ++ open_ones x.node d) (kept-twice E all)
        ∙ sym (filter-append E all d)
        ∙ ap (open_ones x.node) (append_assoc x.notices.items c d);
    listed = λ is listed. b.listed is (a.listed is listed);
  }

  -- one node was reached
  pub reached-one : (at k : ℕ) (came : ℕ → List Notice) (ins : ℕ → List LinkFrom → List LinkFrom) (old : List (Station P G)) (x y : Station P G)
      → k < length old → slice_get old k ≡ Some x → IsReached (k == at) (came k) (ins k x.ins.items) x y
      → ((n : ℕ) → n ≢ k → came n ≡ []) → ((n : ℕ) (ls : List LinkFrom) → n ≢ k → ins n ls ≡ ls) → AreReached at came ins old (slice_set old k y)
  reached-one at k came ins old x y within there is none same n a b e f = elim (cases_eq n k) [
    | inl here ↦
        (let first : x ≡ a = (let r = ap (slice_get old) here in cc) in
        let set : slice_get (slice_set old k y) n ≡ Some y = ap (slice_get (slice_set old k y)) here ∙ set-there old k y within in
        let second : y ≡ b = cc in
        subst (λ j. IsReached (j == at) (came j) (ins j a.ins.items) a b) (sym here)
        (subst (λ z. IsReached (k == at) (came k) (ins k a.ins.items) a z) second (subst (λ (z : Station P G). IsReached (k == at) (came k) (ins k z.ins.items) z y) first is)))
    | inr other ↦
        (let r = set-else old k n y other in
        let first : a ≡ b = cc in
        subst (λ z. IsReached (n == at) (came n) (ins n a.ins.items) a z) first
        (subst (λ c. IsReached (n == at) c (ins n a.ins.items) a a) (sym (none n other)) (subst (λ ls. IsReached (n == at) [] ls a a) (sym (same n a.ins.items other)) (reached-not (n == at) a))))
  ]

  pub all-then : (at : ℕ) (c d : ℕ → List Notice) (ins more : ℕ → List LinkFrom → List LinkFrom) (old mid new : List (Station P G)) → length mid ≡ length old
      → AreReached at c ins old mid → AreReached at d more mid new → AreReached at (λ n. c n ++ d n) (λ n ls. more n (ins n ls)) old new
  all-then at c d ins more old mid new many first second n x z e f =
      let here = get-within mid n (let inside = slice_get_within old n x e in omega (arith, inside, many)) in
      let a = first n x here.0 e here.1 in
      let b = second n here.0 z here.1 f in
      reached-then (n == at) (c n) (d n) (ins n x.ins.items) (more n (ins n x.ins.items)) x here.0 z a
      (subst (λ ls. IsReached (n == at) (d n) (more n ls) here.0 z) a.ins_are b)

pub on_ok_four : {A E S T U V W : Type 0} (r : Result A E) → (S → T → U → V → W) → OnOk r S → OnOk r T → OnOk r U → OnOk r V → OnOk r W
on_ok_four (Ok x) f a b c d = f a b c d
on_ok_four (Err e) f a b c d = tt

module _ {P G : Type 0} (own : Bool) (x y : Station P G) (node : y.node ≡ x.node) where
  tell-is : (notice : Notice) → y.ins ≡ x.ins → y.notices.items ≡ told own x.node x.notices.items notice → (own ≡ false → IsListed y) → IsReached own (notice ∷ []) x.ins.items x y
  tell-is notice ins notices listed = record {
    node = node;
    ins_are = let same = ins in cc;
    own_notices = λ is. notices ∙ ap (λ b. told b x.node x.notices.items notice) is;
    notices = λ is _. notices ∙ ap (λ b. told b x.node x.notices.items notice) is;
    listed = λ is _. listed is;
  }

  deliver-is : (ins : List LinkFrom) → y.ins.items ≡ ins → y.notices ≡ x.notices → (own ≡ false → IsListed x → IsListed y) → IsReached own [] ins x y
  deliver-is ins ins-are notices listed = record {
    node = node;
    ins_are = ins-are;
    own_notices = λ _. same ∙ sym (append-nil x.notices.items);
    notices = λ _ open_are. same ∙ sym open_are ∙ ap (open_ones x.node) (sym (append-nil x.notices.items));
    listed = listed;
  }
    where
      same : y.notices.items ≡ x.notices.items
      same = ap (λ v. v.items) notices

module _ {P G : Type 0} (at k : ℕ) (old : List (Station P G)) (x y : Station P G) (within : k < length old) (there : slice_get old k ≡ Some x) (node : y.node ≡ x.node) where
  pub told-one : (notice : Notice) → y.ins ≡ x.ins → y.notices.items ≡ told (k == at) x.node x.notices.items notice → ((k == at) ≡ false → IsListed y)
      → AreReached at (λ n. notice_if (n == k) notice) (λ n ins. ins) old (slice_set old k y)
  told-one notice ins notices listed =
      reached-one at k (λ n. notice_if (n == k) notice) (λ n ls. ls) old x y within there
      (subst (λ b. IsReached (k == at) (notice_if b notice) x.ins.items x y) (sym (eqb-itself k)) (tell-is (k == at) x y node notice ins notices listed))
      (λ n differs. ap (λ b. notice_if b notice) (eq-other n k differs)) (λ n ls differs. refl)

  pub delivered-one : (fate : Fate) (m : Message) → y.ins.items ≡ delivered at fate m x.ins.items → y.notices ≡ x.notices → ((k == at) ≡ false → IsListed x → IsListed y)
      → AreReached at (λ n. []) (λ n ins. ins_if (n == k) (delivered at fate m ins) ins) old (slice_set old k y)
  delivered-one fate m ins notices listed =
      reached-one at k (λ n. []) (λ n ls. ins_if (n == k) (delivered at fate m ls) ls) old x y within there
      (subst (λ b. IsReached (k == at) [] (ins_if b (delivered at fate m x.ins.items) x.ins.items) x y) (sym (eqb-itself k)) (deliver-is (k == at) x y node (delivered at fate m x.ins.items) ins notices listed))
      (λ n differs. refl) (λ n ls differs. ap (λ b. ins_if b (delivered at fate m ls) ls) (eq-other n k differs))

module _ {P G : Type 0} (at to : ℕ) (fate : Fate) (notice : Notice) (ins : ℕ → List LinkFrom → List LinkFrom) (old mid new : List (Station P G)) where
  pub gone-told : is_gone fate ≡ true → length mid ≡ length old → AreReached at (λ n. []) ins old mid → AreReached at (λ n. notice_if (n == to) notice) (λ n ls. ls) mid new
      → AreReached at (λ n. notice_if (is_gone fate && (n == to)) notice) ins old new
  gone-told is many first second =
      subst (λ b. AreReached at (λ n. notice_if (b && (n == to)) notice) ins old new) (sym is)
      (all-then at (λ n. []) (λ n. notice_if (n == to) notice) ins (λ n ls. ls) old mid new many first second)

  pub not-told : is_gone fate ≡ false → AreReached at (λ n. []) ins old mid → AreReached at (λ n. notice_if (is_gone fate && (n == to)) notice) ins old mid
  not-told is first = subst (λ b. AreReached at (λ n. notice_if (b && (n == to)) notice) ins old mid) (sym is) first

pub none-reached : {P G : Type 0} (at : ℕ) (old : List (Station P G)) → AreReached at (λ n. []) (λ n ins. ins) old old
none-reached at old n x y e f =
    let same : x ≡ y = cc in
    subst (λ z. IsReached (n == at) [] x.ins.items x z) same (reached-not (n == at) x)

pub frame-reached : {P G : Type 0} (plan : List FateRow) (at index : ℕ) (m : Message) (old new : List (Station P G)) (f : Fate) (to caller : ℕ) (x : Notice)
    → f ≡ fate_of plan m.from m.to index → to ≡ m.to - 1 → caller ≡ (caller_of m).node - 1 → x ≡ notice_for m index
    → AreReached at (λ n. notice_if (is_gone f && (n == caller)) x) (λ n ls. ins_if (n == to) (delivered at f m ls) ls) old new
    → AreReached at (came_of plan (Some (index, m))) (framed_ins plan at (Some (index, m))) old new
frame-reached plan at index m old new f to caller x fate-is to-is caller-is notice-is is =
    subst (λ (r : Fate). AreReached at (λ n. notice_if (is_gone r && (n == (caller_of m).node - 1)) (notice_for m index)) (λ n ls. ins_if (n == m.to - 1) (delivered at r m ls) ls) old new) fate-is
    (subst (λ (t : ℕ). AreReached at (λ n. notice_if (is_gone f && (n == (caller_of m).node - 1)) (notice_for m index)) (λ n ls. ins_if (n == t) (delivered at f m ls) ls) old new) to-is
    (subst (λ (k : ℕ). AreReached at (λ n. notice_if (is_gone f && (n == k)) (notice_for m index)) (λ n ls. ins_if (n == to) (delivered at f m ls) ls) old new) caller-is
    (subst (λ (y : Notice). AreReached at (λ n. notice_if (is_gone f && (n == caller)) y) (λ n ls. ins_if (n == to) (delivered at f m ls) ls) old new) notice-is is)))
