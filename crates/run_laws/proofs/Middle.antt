-- What a desk has of an object while an operation of one of its processes changes it: either what it had of it, or what the store
-- of that operation makes of it. What is dirty stays so, but where its home has it.
use Rattle.std.proofs.Common.{◌≡◌, ℕ, ◌+◌, ◌≤◌, Bool, true, false, List, [], length, Option, Some, None, inl, inr, ◌⊎◌, refl, sym, ap, subst, ◌∙◌, arith}
use Rattle.std.specs.Prelude.{◌==◌, ◌&&◌, not, nat_lt, max}
use Rattle.std.specs.Option.{option_map}
use Rattle.std.proofs.lemmas.Bool.Decides.{nat_tests}
use Rattle.uid_names.specs.Names.{ObjectName}
use Rattle.uid_names.specs.declared.mode.Mode.{Mode}
use Rattle.dom_history.specs.declared.op.Reply.TheVariants.{Fine}
use Rattle.page_cache.specs.Caches.{Resident, page_at}
use Rattle.page_cache.specs.Changes.{spliced}
use Rattle.version_stamps.specs.Stamps.{stamp_of}
use Rattle.fault_handler.specs.declared.lengths.Known.{Known}
use Rattle.fault_handler.specs.declared.tasks.Work.TheVariants.{Store}
use Rattle.fault_handler.specs.declared.tasks.Task.{Task}
use Rattle.fault_handler.specs.declared.transits.Transit.{Transit}
use Rattle.fault_handler.specs.Lengths.{known_of, is_changed, changed_in, changed_length, grown, grown_if, sent_if}
use Rattle.fault_handler.specs.ShownPages.{fresh_page, as_sent, settled}
use Rattle.fault_handler.specs.Tasks.{page_of, start_of}
use Rattle.fault_handler.specs.Transits.{going, coming}
use Rattle.fault_handler.specs.Desks.{DeskState, at, put_at, moving_of, any_keeps}
use Rattle.fault_handler.specs.Outcomes.{Turn}
use Rattle.fault_handler.specs.PageReplies.{PageAnswer}
use Rattle.fault_handler.specs.LockCalls.{LockAnswer}
use Rattle.fault_handler.specs.Invariant.{IsProc, IsDesk, is_dirty}
use Rattle.fault_handler.proofs.Fours.{at-put_same}
use Rattle.fault_handler.proofs.TransitKeeps.{any_writes-keeps}
use Rattle.lock_validate.specs.Causes.{Cause}
use Rattle.lock_validate.specs.Loading.{IsTaskIn, Does, Fetches}
use Rattle.lock_validate.specs.DeskMoves.{Change, DeskMoves}
use Rattle.lock_validate.proofs.DeskStays.{moves-desk}
use Rattle.run_laws.proofs.GoingPages.{going-uid, going-page, not-coming}
use Rattle.run_laws.specs.Writes.{IsStillSent}
use Rattle.run_laws.proofs.PageChanges.{SendsThis, SaysTaken, PageChange, KnownChange, change-page, change-known}

-- what a store makes of a page, and of the length
pub record Puts (was now : ℕ → List ℕ) (length_was length_now : ℕ) (task : Task) (bytes : List ℕ) : Type 0 where
  pub page : spliced (was (page_of task)) (start_of task) bytes ≡ now (page_of task)
  pub again : spliced (now (page_of task)) (start_of task) bytes ≡ now (page_of task)
  pub end : length_now ≡ max length_was (task.offset + length bytes)

-- one object, at the desk on which an operation begins or goes on. Its pages and its length were so; a home has a page, or the length
pub record IsFirst (c : Cause) (turn : Turn) (p : ℕ) (d : DeskState) (u : ObjectName) (was now : ℕ → List ℕ) (length_was length_now : ℕ) (HomeHasPage : ℕ → Type 0) (HomeHasLength : Type 0) : Type 0 where
  pub desk : IsDesk d
  pub pages : (k : ℕ) (r : Resident) → page_at d.cache.pages u k ≡ Some r → (any_keeps d.entries u ≡ true) ⊎ (r.flags.dirty ≡ true) → r.bytes ≡ was k
  pub known : (row : Known) → known_of u d.known ≡ Some row → (any_keeps d.entries u ≡ true) ⊎ (row.changed ≡ true) → row.length ≡ length_was
  -- a store of the operation is of an object that is kept; a page that comes is as it was
  pub puts : (f : DeskState) (dropped : List (ObjectName × ℕ)) → DeskMoves c turn p d f dropped → (task : Task) (bytes : List ℕ) → Does c p f task → task.work ≡ Store bytes → turn ≡ Turn.Ends Fine → task.uid ≡ u
      → (any_keeps d.entries u ≡ true) × Puts was now length_was length_now task bytes
  pub comes : (f : DeskState) (dropped : List (ObjectName × ℕ)) → DeskMoves c turn p d f dropped → (task : Task) (stamp : ℕ) (bytes : List ℕ) → c ≡ Cause.PageCame (PageAnswer.Came task stamp bytes) → Fetches p f task → stamp_of task.uid f.seen ≡ Some stamp
      → task.uid ≡ u → bytes ≡ was (page_of task)
  -- what was sent, and not changed since, is at the home where it was taken
  pub taken : SaysTaken c → (k : ℕ) → moving_of d p ≡ going u k → IsStillSent (page_at d.cache.pages u k) → HomeHasPage k
  pub taken_length : (n : ℕ) (delete : Bool) (stamp : ℕ) → c ≡ Cause.AnswerCame (LockAnswer.LengthSettled u n delete true stamp) → changed_length (known_of u d.known) ≡ Some n → HomeHasLength
  -- what nobody keeps where a grant tells of it was kept by nobody before
  pub granted : (f : DeskState) (dropped : List (ObjectName × ℕ)) → DeskMoves c turn p d f dropped → (m : Mode) (grant stamp room n : ℕ) → c ≡ Cause.AnswerCame (LockAnswer.Granted u m grant stamp room n) → any_keeps f.entries u ≡ false → any_keeps d.entries u ≡ false

module _ (c : Cause) (turn : Turn) (p : ℕ) (proc : IsProc p) (d : DeskState) (u : ObjectName) (was now : ℕ → List ℕ) (length_was length_now : ℕ) (HomeHasPage : ℕ → Type 0) (HomeHasLength : Type 0)
    (first : IsFirst c turn p d u was now length_was length_now HomeHasPage HomeHasLength) where
  abbrev Keeps : Type 0
  Keeps = any_keeps d.entries u ≡ true

  abbrev HasBytes : ℕ → Option Resident → Type 0
  HasBytes k None = Unit {0}
  HasBytes k (Some r) = Keeps ⊎ (r.flags.dirty ≡ true) → (r.bytes ≡ was k) ⊎ (r.bytes ≡ now k)

  -- it is dirty still, or its home has it, or it is being sent home by this very operation, and clean
  abbrev IsLeft : ℕ → Option Resident → Type 0
  IsLeft k o = (is_dirty o ≡ true) ⊎ (HomeHasPage k ⊎ (SendsThis turn u k × (is_dirty o ≡ false)))

  pub record IsPageSo (k : ℕ) (moves : Type 0) (o : Option Resident) : Type 0 where
    pub bytes : HasBytes k o
    pub left : is_dirty (page_at d.cache.pages u k) ≡ true → IsLeft k o
    pub sent : IsStillSent o → IsStillSent (page_at d.cache.pages u k) ⊎ SendsThis turn u k
    pub way : moves → (moving_of d p ≡ going u k) ⊎ SendsThis turn u k

  abbrev PageSo : DeskState → ℕ → Type 0
  PageSo f k = IsPageSo k (moving_of f p ≡ going u k) (page_at f.cache.pages u k)

  module _ (k : ℕ) where
    bytes-same : (change : Resident → Resident) → ((r : Resident) → (change r).bytes ≡ r.bytes) → ((r : Resident) → (change r).flags.dirty ≡ true → r.flags.dirty ≡ true) → (o : Option Resident) → HasBytes k o → HasBytes k (option_map change o)
    bytes-same change same down None is = tt
    bytes-same change same down (Some r) is = λ why. elim (is (elim why [ inl kept ↦ inl kept | inr dirty ↦ inr (down r dirty) ])) [
      | inl a ↦ inl (same r ∙ a)
      | inr b ↦ inr (same r ∙ b)
    ]

    settled-down : (taken : Bool) (r : Resident) → (settled taken r).flags.dirty ≡ true → r.flags.dirty ≡ true
    settled-down taken r is = grind (arith, nat_tests, is)

    left-marked : (o : Option Resident) → IsLeft k o → IsLeft k (option_map as_sent o)
    left-marked None is = is
    left-marked (Some r) is = is

    -- a page that is settled: dirty still, or taken as it was sent
    left-settled : (taken : Bool) (o : Option Resident) → (taken ≡ true → IsStillSent o → HomeHasPage k ⊎ SendsThis turn u k) → IsLeft k o → IsLeft k (option_map (settled taken) o)
    left-settled taken None has is = is
    left-settled taken (Some r) has (inr (inl home)) = inr (inl home)
    left-settled taken (Some r) has (inr (inr sends)) = inr (inr (sends.0, by r.flags.dirty (sends.1)))
      where
        by : (b : Bool) → b ≡ false → (b && not (taken && r.flags.sent)) ≡ false
        by true is = absurd (cc)
        by false is = refl
    left-settled taken (Some r) has (inl dirty) = by taken r.flags.sent r.flags.dirty refl refl dirty
      where
        by : (t sent b : Bool) → taken ≡ t → r.flags.sent ≡ sent → b ≡ true → ((b && not (t && sent)) ≡ true) ⊎ (HomeHasPage k ⊎ (SendsThis turn u k × ((b && not (t && sent)) ≡ false)))
        by t sent false is_taken is_sent so = absurd (cc)
        by true true true is_taken is_sent so = elim (has is_taken is_sent) [ inl home ↦ inr (inl home) | inr sends ↦ inr (inr (sends, refl)) ]
        by true false true is_taken is_sent so = inl refl
        by false true true is_taken is_sent so = inl refl
        by false false true is_taken is_sent so = inl refl

    sent-settled : (taken : Bool) (o : Option Resident) → IsStillSent (option_map (settled taken) o) → IsStillSent o
    sent-settled taken None is = is
    sent-settled taken (Some r) is = is

    not-clean : {X : Type 0} (o : Option Resident) → is_dirty o ≡ true → is_dirty o ≡ false → X
    not-clean o dirty clean = absurd (let e : true ≡ false = sym dirty ∙ clean in cc)

    left-gone : (o : Option Resident) → is_dirty o ≡ false → IsLeft k o → IsLeft k None
    left-gone o clean (inl dirty) = not-clean o dirty clean
    left-gone o clean (inr (inl home)) = inr (inl home)
    left-gone o clean (inr (inr sends)) = inr (inr (sends.0, refl))

    left-come : (bytes : List ℕ) → IsLeft k None → IsLeft k (Some (fresh_page u k bytes))
    left-come bytes (inl dirty) = absurd (cc)
    left-come bytes (inr (inl home)) = inr (inl home)
    left-come bytes (inr (inr sends)) = inr (inr (sends.0, refl))

    page-so : (f : DeskState) (dropped : List (ObjectName × ℕ)) → DeskMoves c turn p d f dropped → (moves : Type 0) → (moves → (moving_of d p ≡ going u k) ⊎ SendsThis turn u k) → (old new : Option Resident) → PageChange c turn p f u k old new
        → (moving_of f p ≡ going u k → (moving_of d p ≡ going u k) ⊎ SendsThis turn u k) → HasBytes k old → (is_dirty (page_at d.cache.pages u k) ≡ true → IsLeft k old) → (IsStillSent old → IsStillSent (page_at d.cache.pages u k) ⊎ SendsThis turn u k) → IsPageSo k moves new
    page-so f dropped made moves way old new (PageChange.same is) goes bytes left sent = subst (IsPageSo k moves) (sym is) (record { bytes = bytes; left = left; sent = sent; way = way })
    page-so f dropped made moves way old new (PageChange.gone clean is) goes bytes left sent = subst (IsPageSo k moves) (sym is) (record { bytes = tt; left = λ dirty. left-gone old clean (left dirty); sent = λ none. absurd none; way = way })
    page-so f dropped made moves way old new (PageChange.marks sends is) goes bytes left sent = subst (IsPageSo k moves) (sym is)
        (record { bytes = bytes-same as_sent (λ r. refl) (λ r dirty. dirty) old bytes; left = λ dirty. left-marked old (left dirty); sent = λ some. inr sends; way = way })
    page-so f dropped made moves way old new (PageChange.settles taken here says is) goes bytes left sent = subst (IsPageSo k moves) (sym is)
        (record { bytes = bytes-same (settled taken) (λ r. refl) (settled-down taken) old bytes; left = λ dirty. left-settled taken old has (left dirty); sent = λ some. sent (sent-settled taken old some); way = way })
      where
        has : taken ≡ true → IsStillSent old → HomeHasPage k ⊎ SendsThis turn u k
        has so still = elim (goes here) [
          | inr sends ↦ inr sends
          | inl from ↦ elim (sent still) [ inr sends ↦ inr sends | inl at_first ↦ inl (first.taken (says so) k from at_first) ]
        ]
    page-so f dropped made moves way old new (PageChange.comes task stamp bytes given fetches seen named numbered none is) goes had left sent = subst (IsPageSo k moves) (sym is)
        (record { bytes = λ why. inl (first.comes f dropped made task stamp bytes given fetches seen named ∙ ap was numbered); left = λ dirty. left-come bytes (subst (IsLeft k) none (left dirty)); sent = λ some. absurd (cc); way = way })
    page-so f dropped made moves way old new (PageChange.puts task bytes r does work ends named numbered there is) goes had left sent = subst (IsPageSo k moves) (sym is)
        (record {
          bytes = λ why. inr (elim ((subst (HasBytes k) there had) (inl puts.0)) [
            | inl a ↦ ap (λ x. spliced x (start_of task) bytes) (a ∙ ap was (sym numbered)) ∙ (puts.1.page ∙ ap now numbered)
            | inr b ↦ ap (λ x. spliced x (start_of task) bytes) (b ∙ ap now (sym numbered)) ∙ (puts.1.again ∙ ap now numbered)
          ]);
          left = λ dirty. inl refl;
          sent = λ some. absurd (cc);
          way = way;
        })
      where
        puts : Keeps × Puts was now length_was length_now task bytes
        puts = first.puts f dropped made task bytes does work ends named

    -- which page the process moves
    put-way : (f : DeskState) → IsDesk f → (new : Option Transit) → (new ≡ going u k → (moving_of d p ≡ going u k) ⊎ SendsThis turn u k) → at (put_at f.moving p new) p None ≡ going u k → (moving_of d p ≡ going u k) ⊎ SendsThis turn u k
    put-way f desk new is goes = is (sym (at-put_same f.moving p new None desk.four.moving proc) ∙ goes)

    way-after : (f e : DeskState) (dropped : List (ObjectName × ℕ)) → IsDesk f → Change c turn p f e dropped → (moving_of f p ≡ going u k → (moving_of d p ≡ going u k) ⊎ SendsThis turn u k) → moving_of e p ≡ going u k → (moving_of d p ≡ going u k) ⊎ SendsThis turn u k
    way-after f e dropped desk (Change.fetches task does missing frame asks) had = put-way f desk (coming task.uid (page_of task)) (λ is. not-coming task.uid (page_of task) u k is)
    way-after f e dropped desk (Change.evicts task r does missing full clean there dirty calm asks) had = put-way f desk (going r.uid r.page) (λ is. inr (subst (λ t. SendsThis t u k) (sym asks) (going-uid r.uid r.page u k is, going-page r.uid r.page u k is)))
    way-after f e dropped desk (Change.sends delete v j r releasing calm found there dirty asks) had = put-way f desk (going v j) (λ is. inr (subst (λ t. SendsThis t u k) (sym asks) (going-uid v j u k is, going-page v j u k is)))
    way-after f e dropped desk (Change.arrives task stamp bytes reply given fetches seen whole ends) had = put-way f desk None (λ is. absurd (cc))
    way-after f e dropped desk (Change.loses task t given fetches) had = put-way f desk None (λ is. absurd (cc))
    way-after f e dropped desk (Change.settles_room task r taken given room) had = put-way f desk None (λ is. absurd (cc))
    way-after f e dropped desk (Change.page_settles v j r taken given closed sends writes keeping) had = put-way f desk None (λ is. absurd (cc))
    way-after f e dropped desk change had = had

    page-change : (f e : DeskState) (before dropped : List (ObjectName × ℕ)) → DeskMoves c turn p d f before → Change c turn p f e dropped → PageSo f k → PageSo e k
    page-change f e before dropped made change is =
        let desk = moves-desk c turn p proc d f before first.desk made in
        page-so f before made (moving_of e p ≡ going u k) (way-after f e dropped desk change is.way) (page_at f.cache.pages u k) (page_at e.cache.pages u k) (change-page c turn p f desk u k e dropped change) is.way is.bytes is.left is.sent

    page-first : (o : Option Resident) → page_at d.cache.pages u k ≡ o → HasBytes k o
    page-first None is = tt
    page-first (Some r) is = λ why. inl (first.pages k r is why)

    pub page-moves : (e : DeskState) (dropped : List (ObjectName × ℕ)) → DeskMoves c turn p d e dropped → PageSo e k
    page-moves e dropped DeskMoves.none = record { bytes = page-first (page_at d.cache.pages u k) refl; left = λ dirty. inl dirty; sent = λ some. inl some; way = λ goes. inl goes }
    page-moves e dropped (DeskMoves.next {e = f} before change) = page-change f e dropped [] before change (page-moves f dropped before)
    page-moves e dropped (DeskMoves.dropping {e = f} before change) = page-change f e [] dropped before change (page-moves f [] before)

  -- the length: one that is unchanged is as it was
  abbrev HasLength : Option Known → Type 0
  HasLength None = Unit {0}
  HasLength (Some row) = Keeps ⊎ (row.changed ≡ true) → (row.changed ≡ false → row.length ≡ length_was) × ((row.length ≡ length_was) ⊎ (row.length ≡ length_now))

  abbrev IsLengthCause : Cause → Type 0
  IsLengthCause (Cause.AnswerCame (LockAnswer.LengthSettled v n delete taken stamp)) = Unit {0}
  IsLengthCause c = ⊥

  pub record IsKnownSo (o : Option Known) : Type 0 where
    pub length : HasLength o
    pub left : is_changed (known_of u d.known) ≡ true → (is_changed o ≡ true) ⊎ HomeHasLength
    pub alike : IsLengthCause c → (o ≡ known_of u d.known) ⊎ (is_changed o ≡ false)

  no-task : (x : Cause) (f : DeskState) (task : Task) → IsTaskIn f p x task → IsLengthCause x → ⊥
  no-task (Cause.AnswerCame a) f task given is = given
  no-task (Cause.PageCame a) f task given is = is
  no-task (Cause.Accesses op) f task given is = is
  no-task (Cause.Locks v m) f task given is = is
  no-task (Cause.Releases delete v) f task given is = is
  no-task (Cause.AccessFailed t) f task given is = is
  no-task (Cause.CallFailed call) f task given is = is

  granted-other : (m : Mode) (grant stamp room n : ℕ) → c ≡ Cause.AnswerCame (LockAnswer.Granted u m grant stamp room n) → IsLengthCause c → ⊥
  granted-other m grant stamp room n given is = subst IsLengthCause given is

  grown-length : (end : ℕ) (row : Known) → Keeps → length_now ≡ max length_was end → HasLength (Some row) → HasLength (Some (grown end row))
  grown-length end row kept is had = by (nat_lt row.length end) refl
    where
      most : row.length ≤ end → (row.length ≡ length_was) ⊎ (row.length ≡ length_now) → end ≡ length_now
      most under (inl a) = grind (arith, nat_tests, under, a, is)
      most under (inr b) = grind (arith, nat_tests, under, b, is)

      by : (b : Bool) → nat_lt row.length end ≡ b → HasLength (Some (grown_if b end row))
      by true e = λ why. ((λ none. absurd (cc)), inr (most (grind (arith, nat_tests, e)) (had (inl kept)).1))
      by false e = had

  grown-changed : (end : ℕ) (row : Known) → row.changed ≡ true → (grown end row).changed ≡ true
  grown-changed end row changed = by (nat_lt row.length end)
    where
      by : (b : Bool) → (grown_if b end row).changed ≡ true
      by true = refl
      by false = changed

  -- a length that is settled
  module _ (n : ℕ) (delete : Bool) (stamp : ℕ) (row : Known) (given : c ≡ Cause.AnswerCame (LockAnswer.LengthSettled u n delete true stamp)) (had : IsKnownSo (Some row)) where
    is_length : IsLengthCause c
    is_length = subst IsLengthCause (sym given) tt

    was-so : Keeps ⊎ (row.changed ≡ true) → row.length ≡ length_was
    was-so why = elim (had.alike is_length) [
      | inl start ↦ first.known row (sym start) why
      | inr none ↦ (had.length why).0 none
    ]

    taken-so : row.changed ≡ true → row.length ≡ n → HomeHasLength
    taken-so changed same = elim (had.alike is_length) [
      | inl start ↦ first.taken_length n delete stamp given (subst (λ o. changed_length o ≡ Some n) start (ap (λ b. changed_in b row.length) changed ∙ ap (λ i. Some i) same))
      | inr none ↦ absurd (let e : true ≡ false = sym changed ∙ none in cc)
    ]

    settled-so : (b : Bool) → (row.length == n) ≡ b → IsKnownSo (Some (sent_if b row))
    settled-so false e = had
    settled-so true e = record {
      length = λ why. elim why [
        | inl kept ↦ (let same = was-so (inl kept) in ((λ none. same), inl same))
        | inr changed ↦ absurd (cc)
      ];
      left = λ changed. elim (had.left changed) [
        | inl here ↦ inr (taken-so here (grind (arith, nat_tests, e)))
        | inr home ↦ inr home
      ];
      alike = λ is. inr refl;
    }

  known-so : (f : DeskState) (dropped : List (ObjectName × ℕ)) → DeskMoves c turn p d f dropped → IsDesk f → (new : Option Known) → KnownChange c turn p f u (known_of u f.known) new → IsKnownSo (known_of u f.known) → IsKnownSo new
  known-so f dropped made desk new (KnownChange.same is) had = subst IsKnownSo (sym is) had
  known-so f dropped made desk new (KnownChange.grows task bytes row does work ends named there is) had =
      let puts = first.puts f dropped made task bytes does work ends named in
      subst IsKnownSo (sym is) (record {
        length = grown-length (task.offset + length bytes) row puts.0 puts.1.end (subst HasLength there had.length);
        left = λ changed. elim (had.left changed) [
          | inl here ↦ inl (grown-changed (task.offset + length bytes) row (sym (ap is_changed there) ∙ here))
          | inr home ↦ inr home
        ];
        alike = λ is. absurd (no-task c f task does.given is);
      })
  known-so f dropped made desk new (KnownChange.settles n delete stamp row given there is) had = subst IsKnownSo (sym is) (settled-so n delete stamp row given (subst IsKnownSo there had) (row.length == n) refl)
  known-so f dropped made desk new (KnownChange.learns m grant stamp room n given none is) had = subst IsKnownSo (sym is) (record {
    length = λ why. elim why [
      | inl kept ↦ absurd (let e : true ≡ false = sym kept ∙ first.granted f dropped made m grant stamp room n given none in cc)
      | inr changed ↦ absurd (cc)
    ];
    left = λ changed. elim (had.left changed) [
      | inl here ↦ absurd (let e : true ≡ false = sym (any_writes-keeps f.entries u (desk.lengths u here)) ∙ none in cc)
      | inr home ↦ inr home
    ];
    alike = λ is. absurd (granted-other m grant stamp room n given is);
  })

  known-first : (o : Option Known) → known_of u d.known ≡ o → HasLength o
  known-first None is = tt
  known-first (Some row) is = λ why. ((λ none. first.known row is why), inl (first.known row is why))

  pub known-moves : (e : DeskState) (dropped : List (ObjectName × ℕ)) → DeskMoves c turn p d e dropped → IsKnownSo (known_of u e.known)
  known-moves e dropped DeskMoves.none = record { length = known-first (known_of u d.known) refl; left = λ changed. inl changed; alike = λ is. inl refl }
  known-moves e dropped (DeskMoves.next {e = f} before change) =
      let desk = moves-desk c turn p proc d f dropped first.desk before in
      known-so f dropped before desk (known_of u e.known) (change-known c turn p f desk u e [] change) (known-moves f dropped before)
  known-moves e dropped (DeskMoves.dropping {e = f} before change) =
      let desk = moves-desk c turn p proc d f [] first.desk before in
      known-so f [] before desk (known_of u e.known) (change-known c turn p f desk u e dropped change) (known-moves f [] before)
