-- What is dropped is told, and nothing else goes.
use Rattle.std.proofs.Common.{◌≡◌, ℕ, ◌<◌, Bool, true, false, List, [], ◌∷◌, map, Option, Some, None, IsSome, inl, inr, ◌⊎◌, refl, sym, ap, subst, ◌∙◌, arith}
use Rattle.std.specs.Prelude.{◌==◌, ◌&&◌}
use Rattle.std.specs.Option.{option_map}
use Rattle.std.proofs.lemmas.Bool.Decides.{nat_tests}
use Rattle.uid_names.specs.Names.{ObjectName, same_uid}
use Rattle.uid_names.proofs.ListLemmas.{by_cases, count_by-cons, count_by-cons_passes}
use Rattle.uid_names.proofs.Orders.{same_uid_is}
use Rattle.page_cache.specs.Caches.{Resident, is_of, is_page, page_at}
use Rattle.page_cache.specs.Changes.{without_page, without_object, used}
use Rattle.page_cache.specs.Numbers.{numbers, resident_pages}
use Rattle.page_cache.proofs.NumberLemmas.{copies, copies-rising}
use Rattle.fault_handler.specs.declared.transits.Transit.{Transit}
use Rattle.fault_handler.specs.ShownPages.{fresh_page, changed_page, written, as_sent, settled}
use Rattle.fault_handler.specs.Tasks.{page_of, start_of}
use Rattle.fault_handler.specs.Changes.{settled_by}
use Rattle.fault_handler.specs.Desks.{DeskState, moving_of}
use Rattle.fault_handler.specs.Drops.{is_dropped, DropsOnly}
use Rattle.fault_handler.specs.PageReplies.{PageAnswer}
use Rattle.fault_handler.proofs.PageLists.{is_same, same-uid, same-page, page_at-used, page_at-without_same, page_at-without_other, page_at-without_object_same, page_at-without_object_other, page_at-changed_same, page_at-changed_other}
use Rattle.fault_handler.proofs.Accessing.{absent-without}
use Rattle.fault_handler.specs.Outcomes.{Turn}
use Rattle.lock_validate.specs.Causes.{Cause}
use Rattle.lock_validate.specs.Loading.{LooksUp}
use Rattle.lock_validate.specs.DeskMoves.{Change, DeskMoves}

-- at this cause a page comes
abbrev IsCame : Cause → Type 0
IsCame (Cause.PageCame (PageAnswer.Came task stamp bytes)) = Unit {0}
IsCame c = ⊥

-- the pages after a change: what is dropped is gone, and nothing else; and no page is new unless one came
record After (c : Cause) (old new : List Resident) (dropped : List (ObjectName × ℕ)) : Type 0 where
  drops : DropsOnly old new dropped
  absent : (u : ObjectName) (k : ℕ) → page_at old u k ≡ None → (page_at new u k ≡ None) ⊎ IsCame c

-- nothing is dropped where each page is found that was
none-dropped : (old new : List Resident) → ((u : ObjectName) (k : ℕ) → IsSome (page_at old u k) → IsSome (page_at new u k)) → DropsOnly old new []
none-dropped old new stays = record { gone = λ u k h. absurd (cc); left = λ u k h. stays u k }

after-same : (c : Cause) (pages : List Resident) → After c pages pages []
after-same c pages = record { drops = none-dropped pages pages (λ u k some. some); absent = λ u k none. inl none }

-- a page is used
after-used : (c : Cause) (pages : List Resident) (u : ObjectName) (k : ℕ) → After c pages (used pages u k) []
after-used c pages u k = record {
  drops = none-dropped pages (used pages u k) (λ v j some. subst (λ (o : Option Resident). IsSome o) (sym (page_at-used pages u k v j)) some);
  absent = λ v j none. inl (page_at-used pages u k v j ∙ none);
}

-- a page is changed in its place
after-changed : (c : Cause) (u : ObjectName) (k : ℕ) (change : Resident → Resident) → ((v : ObjectName) (j : ℕ) (r : Resident) → is_page v j (change r) ≡ is_page v j r) → (pages : List Resident)
    → After c pages (changed_page u k change pages) []
after-changed c u k change names pages = record {
  drops = none-dropped pages (changed_page u k change pages) (λ v j some. by_name v j (λ o. IsSome (page_at pages v j) → IsSome o) (λ o mapped h. subst (λ (x : Option Resident). IsSome x) (sym mapped) (some-in (page_at pages v j) h)) (λ h. h) some);
  absent = λ v j none. inl (by_name v j (λ o. page_at pages v j ≡ None → o ≡ None) (λ o mapped h. mapped ∙ ap (option_map change) h) (λ h. h) none);
}
  where
    some-in : (o : Option Resident) → IsSome o → IsSome (option_map change o)
    some-in None h = absurd (cc)
    some-in (Some r) h = refl

    by_name : (v : ObjectName) (j : ℕ) (P : Option Resident → Type 0) → ((o : Option Resident) → o ≡ option_map change (page_at pages v j) → P o) → P (page_at pages v j) → P (page_at (changed_page u k change pages) v j)
    by_name v j P here elsewhere =
        by_cases
        (is_same v j u k)
        (P (page_at (changed_page u k change pages) v j))
        (λ same. here (page_at (changed_page u k change pages) v j) (rw (same-uid v j u k same, same-page v j u k same) (page_at-changed_same u k change names pages)))
        (λ differ. subst P (sym (page_at-changed_other u k change names pages v j differ)) elsewhere)

after-then : (c : Cause) (old mid new : List Resident) → After c old mid [] → After c mid new [] → After c old new []
after-then c old mid new a b = record {
  drops = none-dropped old new (λ u k some. b.drops.left u k refl (a.drops.left u k refl some));
  absent = λ u k none. elim (a.absent u k none) [ inl still ↦ b.absent u k still | inr came ↦ inr came ];
}

-- a page is dropped
after-dropped : (c : Cause) (pages : List Resident) (u : ObjectName) (k : ℕ) → After c pages (without_page pages u k) ((u, k) ∷ [])
after-dropped c pages u k = record {
  drops = record {
    gone = λ v j h. let same : is_same v j u k ≡ true = grind (arith, nat_tests, h) in rw (same-uid v j u k same, same-page v j u k same) (page_at-without_same pages u k);
    left = λ v j h some. let differ : is_same v j u k ≡ false = grind (arith, nat_tests, h) in subst (λ (o : Option Resident). IsSome o) (sym (page_at-without_other pages u k v j differ)) some;
  };
  absent = λ v j none. inl (absent-without pages u k v j none);
}

-- a page comes
after-arrived : (c : Cause) (pages : List Resident) (u : ObjectName) (k : ℕ) (bytes : List ℕ) → IsCame c → After c pages (fresh_page u k bytes ∷ pages) []
after-arrived c pages u k bytes came = record {
  drops = none-dropped pages (fresh_page u k bytes ∷ pages) (λ v j some. by_cases (is_same u k v j) (IsSome (page_at (fresh_page u k bytes ∷ pages) v j)) (λ same. rw same refl) (λ differ. rw differ some));
  absent = λ v j none. inr came;
}

-- the page that a process moves is settled, where it moves one
after-settled : (c : Cause) (t : Option Transit) (taken : Bool) (pages : List Resident) → After c pages (settled_by t taken pages) []
after-settled c None taken pages = after-same c pages
after-settled c (Some t) taken pages = after-changed c t.uid t.page (settled taken) (λ v j r. refl) pages

-- the number of a resident page is among those of its object
is-numbered : (pages : List Resident) (u : ObjectName) (k : ℕ) → IsSome (page_at pages u k) → 0 < copies k (numbers (is_of u) pages)
is-numbered [] u k some = absurd (cc)
is-numbered (r ∷ pages) u k some =
    by_cases
    (is_page u k r)
    (0 < copies k (numbers (is_of u) (r ∷ pages)))
    (λ here.
    let of : is_of u r ≡ true = grind (arith, nat_tests, here) in
    let number : (r.page == k) ≡ true = grind (arith, nat_tests, here) in
    rw of (omega (arith, count_by-cons_passes (λ x. x == k) r.page (numbers (is_of u) pages) number)))
    (λ elsewhere.
    let later = is-numbered pages u k (rw elsewhere at some) in
    by_cases
    (is_of u r)
    (0 < copies k (numbers (is_of u) (r ∷ pages)))
    (λ of. rw of (omega (arith, later, count_by-cons (λ x. x == k) r.page (numbers (is_of u) pages))))
    (λ of. rw of later))

-- a number that stands there is told
is-told : (u : ObjectName) (k : ℕ) (ks : List ℕ) → 0 < copies k ks → is_dropped u k (map (λ j. (u, j)) ks) ≡ true
is-told u k [] some = absurd (omega (arith, some))
is-told u k (j ∷ ks) some =
    by_cases
    (j == k)
    (is_dropped u k (map (λ i. (u, i)) (j ∷ ks)) ≡ true)
    (λ here. let own : (same_uid u u && (j == k)) ≡ true = grind (arith, nat_tests, here) in rw own refl)
    (λ elsewhere.
    let later = is-told u k ks (rw elsewhere at some) in
    by_cases (same_uid u u && (j == k)) (is_dropped u k (map (λ i. (u, i)) (j ∷ ks)) ≡ true) (λ h. rw h refl) (λ h. rw h later))

-- what is told is of the object
told-of : (u v : ObjectName) (k : ℕ) (ks : List ℕ) → is_dropped v k (map (λ j. (u, j)) ks) ≡ true → same_uid u v ≡ true
told-of u v k [] told = absurd (cc)
told-of u v k (j ∷ ks) told =
    by_cases
    (same_uid u v)
    (same_uid u v ≡ true)
    (λ h. h)
    (λ differ. let no : (same_uid u v && (j == k)) ≡ false = grind (arith, nat_tests, differ) in told-of u v k ks (rw no at told))

-- all pages of an object are dropped
after-emptied : (c : Cause) (pages : List Resident) (u : ObjectName) → After c pages (without_object pages u) (map (λ k. (u, k)) (resident_pages pages u))
after-emptied c pages u = record {
  drops = record {
    gone = λ v j h. let same : u ≡ v = same_uid_is u v (told-of u v j (resident_pages pages u) h) in subst (λ (w : ObjectName). page_at (without_object pages u) w j ≡ None) same (page_at-without_object_same pages u j);
    left = λ v j h some. by_cases
        (same_uid v u)
        (IsSome (page_at (without_object pages u) v j))
        (λ same.
        let named : v ≡ u = same_uid_is v u same in
        absurd
        (let there : IsSome (page_at pages u j) = subst (λ (w : ObjectName). IsSome (page_at pages w j)) named some in
        let told = is-told u j (resident_pages pages u) (omega (arith, is-numbered pages u j there, copies-rising j (numbers (is_of u) pages))) in
        let untold = subst (λ (w : ObjectName). is_dropped w j (map (λ i. (u, i)) (resident_pages pages u)) ≡ false) named h in
        let e : true ≡ false = sym told ∙ untold in
        cc))
        (λ differ. subst (λ (o : Option Resident). IsSome o) (sym (page_at-without_object_other pages u v j differ)) some);
  };
  absent = λ v j none. inl (by_cases
      (same_uid v u)
      (page_at (without_object pages u) v j ≡ None)
      (λ same. subst (λ (w : ObjectName). page_at (without_object pages u) w j ≡ None) (sym (same_uid_is v u same)) (page_at-without_object_same pages u j))
      (λ differ. page_at-without_object_other pages u v j differ ∙ none));
}

module _ (c : Cause) (turn : Turn) (p : ℕ) where
  change-after : (d e : DeskState) (dropped : List (ObjectName × ℕ)) → Change c turn p d e dropped → After c d.cache.pages e.cache.pages dropped
  change-after d e dropped (Change.uses task count r does is there ends) = after-used c d.cache.pages task.uid (page_of task)
  change-after d e dropped (Change.stores task bytes r does is there ends) =
      after-then c d.cache.pages (used d.cache.pages task.uid (page_of task)) e.cache.pages (after-used c d.cache.pages task.uid (page_of task))
      (after-changed c task.uid (page_of task) (written (start_of task) bytes) (λ v j s. refl) (used d.cache.pages task.uid (page_of task)))
  change-after d e dropped (Change.drops task u k does missing full may asks) = after-dropped c d.cache.pages u k
  change-after d e dropped (Change.evicts task r does missing full clean there dirty still asks) = after-changed c r.uid r.page as_sent (λ v j s. refl) d.cache.pages
  change-after d e dropped (Change.arrives task stamp bytes reply given fetches seen whole ends) = after-arrived c d.cache.pages task.uid (page_of task) bytes (subst IsCame (sym given) tt)
  change-after d e dropped (Change.settles_room task r taken given room) = after-changed c r.uid r.page (settled taken) (λ v j s. refl) d.cache.pages
  change-after d e dropped (Change.sends_again task r stamp given room asks) = after-changed c r.uid r.page as_sent (λ v j s. refl) d.cache.pages
  change-after d e dropped (Change.sends delete u k r releasing still found there dirty asks) = after-changed c u k as_sent (λ v j s. refl) d.cache.pages
  change-after d e dropped (Change.page_settles u k r taken given closed sends writes keeping) = after-settled c (moving_of d p) taken d.cache.pages
  change-after d e dropped (Change.drops_all u a given object may none) = after-emptied c d.cache.pages u
  change-after d e dropped change = after-same c d.cache.pages

  -- where a page came nothing is dropped
  came-apart : (cause : Cause) → LooksUp cause → IsCame cause → ⊥
  came-apart (Cause.PageCame (PageAnswer.Came task stamp bytes)) looked came = looked
  came-apart cause looked came = came

  came-keeps : (d e : DeskState) (dropped : List (ObjectName × ℕ)) → IsCame c → Change c turn p d e dropped → dropped ≡ []
  came-keeps d e dropped came (Change.drops task u k does missing full may asks) = absurd (came-apart c missing.looked came)
  came-keeps d e dropped came (Change.drops_all u a given object may none) = absurd (subst IsCame given came)
  came-keeps d e dropped came change = refl

  came-keeps_all : (d e : DeskState) (dropped : List (ObjectName × ℕ)) → IsCame c → DeskMoves c turn p d e dropped → dropped ≡ []
  came-keeps_all d e dropped came DeskMoves.none = refl
  came-keeps_all d e dropped came (DeskMoves.next {e = f} moves change) = came-keeps_all d f dropped came moves
  came-keeps_all d e dropped came (DeskMoves.dropping {e = f} moves change) = came-keeps f e dropped came change

  pub moves-drop : (d e : DeskState) (dropped : List (ObjectName × ℕ)) → DeskMoves c turn p d e dropped → DropsOnly d.cache.pages e.cache.pages dropped
  moves-drop d e dropped DeskMoves.none = none-dropped d.cache.pages d.cache.pages (λ u k some. some)
  moves-drop d e dropped (DeskMoves.next {e = f} moves change) =
      let before = moves-drop d f dropped moves in
      let after = change-after f e [] change in
      record {
        gone = λ u k h. elim (after.absent u k (before.gone u k h)) [
          | inl none ↦ none
          | inr came ↦ absurd (let told : is_dropped u k [] ≡ true = subst (λ (names : List (ObjectName × ℕ)). is_dropped u k names ≡ true) (came-keeps_all d f dropped came moves) h in cc)
        ];
        left = λ u k h some. after.drops.left u k refl (before.left u k h some);
      }
  moves-drop d e dropped (DeskMoves.dropping {e = f} moves change) =
      let before = moves-drop d f [] moves in
      let after = change-after f e dropped change in
      record { gone = after.drops.gone; left = λ u k h some. after.drops.left u k h (before.left u k refl some) }
