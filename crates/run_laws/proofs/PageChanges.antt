-- What a change of a desk does to one page of an object, and to what is known of an object.
use Rattle.std.proofs.Common.{◌≡◌, ℕ, ◌+◌, Bool, true, false, List, ◌∷◌, length, Option, Some, None, refl, sym, ap, subst, ◌∙◌, arith}
use Rattle.std.specs.Prelude.{if◌then◌else◌}
use Rattle.std.specs.Option.{option_map}
use Rattle.std.proofs.lemmas.Bool.Decides.{nat_tests}
use Rattle.uid_names.specs.Names.{ObjectName, same_uid}
use Rattle.uid_names.specs.declared.mode.Mode.{Mode}
use Rattle.uid_names.proofs.ListLemmas.{by_cases}
use Rattle.uid_names.proofs.Orders.{same_uid_is}
use Rattle.uid_names.proofs.Tables.{row_of-named}
use Rattle.dom_history.specs.declared.op.Reply.TheVariants.{Fine}
use Rattle.page_cache.specs.Caches.{Resident, is_page, page_at}
use Rattle.page_cache.specs.Changes.{used}
use Rattle.version_stamps.specs.Stamps.{stamp_of}
use Rattle.ring_messages.specs.Bodies.{Ask}
use Rattle.fault_handler.specs.declared.lengths.Known.{Known}
use Rattle.fault_handler.specs.declared.tasks.Work.TheVariants.{Store}
use Rattle.fault_handler.specs.declared.tasks.Task.{Task}
use Rattle.fault_handler.specs.Lengths.{known_name, known_of, with_known, known_after, grown, sent_length}
use Rattle.fault_handler.specs.ShownPages.{changed_page, fresh_page, written, as_sent, settled}
use Rattle.fault_handler.specs.Tasks.{page_of, start_of}
use Rattle.fault_handler.specs.Transits.{going}
use Rattle.fault_handler.specs.Desks.{DeskState, moving_of, any_keeps}
use Rattle.fault_handler.specs.Changes.{settled_by}
use Rattle.fault_handler.specs.Outcomes.{Turn}
use Rattle.fault_handler.specs.PageReplies.{PageAnswer}
use Rattle.fault_handler.specs.LockCalls.{LockCall, LockAnswer}
use Rattle.fault_handler.specs.Invariant.{IsDesk, is_dirty}
use Rattle.fault_handler.proofs.Choice.{idle-clean}
use Rattle.fault_handler.proofs.KnownRows.{known_of-with_known, uid-grown, uid-sent}
use Rattle.fault_handler.proofs.Nothing.{unkept-clean}
use Rattle.fault_handler.proofs.PageLists.{is_same, same-uid, same-page, page_at-used, page_at-without_same, page_at-without_other, page_at-without_object_same, page_at-without_object_other, page_at-changed_same, page_at-changed_other}
use Rattle.lock_validate.specs.Causes.{Cause}
use Rattle.lock_validate.specs.Loading.{Does, Fetches, IsRoomAnswer}
use Rattle.lock_validate.specs.Releasing.{IsPageSettled}
use Rattle.lock_validate.specs.Told.{told_row}
use Rattle.lock_validate.specs.DeskMoves.{Change}
use Rattle.lock_validate.proofs.Facts.{page_at-fresh}

-- the request sends this page home
abbrev pub SendsThis : Turn → ObjectName → ℕ → Type 0
SendsThis (Turn.Asks home (Ask.PageOut v j grant base bytes)) u k = (v ≡ u) × (j ≡ k)
SendsThis turn u k = ⊥

-- the answer says that a page which was sent home was taken there
abbrev pub SaysTaken : Cause → Type 0
SaysTaken (Cause.PageCame (PageAnswer.Taken task r stamp)) = Unit {0}
SaysTaken (Cause.AnswerCame (LockAnswer.PageSettled u delete true stamp)) = Unit {0}
SaysTaken c = ⊥

-- from one to the other
pub data PageChange (c : Cause) (turn : Turn) (p : ℕ) (d : DeskState) (u : ObjectName) (k : ℕ) (old new : Option Resident) : Type 0 where
  same : new ≡ old → PageChange c turn p d u k old new
  gone : is_dirty old ≡ false → new ≡ None → PageChange c turn p d u k old new
  marks : SendsThis turn u k → new ≡ option_map as_sent old → PageChange c turn p d u k old new
  settles : (taken : Bool) → moving_of d p ≡ going u k → (taken ≡ true → SaysTaken c) → new ≡ option_map (settled taken) old → PageChange c turn p d u k old new
  comes : (task : Task) (stamp : ℕ) (bytes : List ℕ) → c ≡ Cause.PageCame (PageAnswer.Came task stamp bytes) → Fetches p d task → stamp_of task.uid d.seen ≡ Some stamp → task.uid ≡ u → page_of task ≡ k
      → old ≡ None → new ≡ Some (fresh_page u k bytes) → PageChange c turn p d u k old new
  puts : (task : Task) (bytes : List ℕ) (r : Resident) → Does c p d task → task.work ≡ Store bytes → turn ≡ Turn.Ends Fine → task.uid ≡ u → page_of task ≡ k
      → old ≡ Some r → new ≡ Some (written (start_of task) bytes r) → PageChange c turn p d u k old new

pub data KnownChange (c : Cause) (turn : Turn) (p : ℕ) (d : DeskState) (u : ObjectName) (old new : Option Known) : Type 0 where
  same : new ≡ old → KnownChange c turn p d u old new
  grows : (task : Task) (bytes : List ℕ) (row : Known) → Does c p d task → task.work ≡ Store bytes → turn ≡ Turn.Ends Fine → task.uid ≡ u
      → old ≡ Some row → new ≡ Some (grown (task.offset + length bytes) row) → KnownChange c turn p d u old new
  settles : (n : ℕ) (delete : Bool) (stamp : ℕ) (row : Known) → c ≡ Cause.AnswerCame (LockAnswer.LengthSettled u n delete true stamp) → old ≡ Some row → new ≡ Some (sent_length n row) → KnownChange c turn p d u old new
  learns : (m : Mode) (grant stamp room n : ℕ) → c ≡ Cause.AnswerCame (LockAnswer.Granted u m grant stamp room n) → any_keeps d.entries u ≡ false → new ≡ Some (told_row u room n) → KnownChange c turn p d u old new

room-says : (c : Cause) (task : Task) (r : Resident) (taken : Bool) → IsRoomAnswer c task r taken → taken ≡ true → SaysTaken c
room-says (Cause.PageCame (PageAnswer.Taken t page stamp)) task r taken is so = tt
room-says (Cause.PageCame (PageAnswer.Came t stamp bytes)) task r taken is so = absurd is
room-says (Cause.PageCame (PageAnswer.NotTaken t page stamp)) task r taken is so = absurd is
room-says (Cause.AccessFailed t) task r taken is so = absurd (let e : true ≡ false = sym so ∙ is in cc)
room-says (Cause.Accesses op) task r taken is so = absurd is
room-says (Cause.Locks u m) task r taken is so = absurd is
room-says (Cause.Releases delete u) task r taken is so = absurd is
room-says (Cause.AnswerCame a) task r taken is so = absurd is
room-says (Cause.CallFailed call) task r taken is so = absurd is

page-says : (c : Cause) (u : ObjectName) (taken : Bool) → IsPageSettled c u taken → taken ≡ true → SaysTaken c
page-says (Cause.AnswerCame a) u taken is so = by a is
  where
    by : (a : LockAnswer) → IsPageSettled (Cause.AnswerCame a) u taken → SaysTaken (Cause.AnswerCame a)
    by (LockAnswer.PageSettled v delete true stamp) is = tt
    by (LockAnswer.PageSettled v delete false stamp) is = absurd (let e : true ≡ false = sym so ∙ is.1 in cc)
    by (LockAnswer.Granted v m grant stamp room n) is = absurd is
    by (LockAnswer.Refused q held) is = absurd is
    by (LockAnswer.Gone v) is = absurd is
    by (LockAnswer.LengthSettled v n delete was stamp) is = absurd is
    by (LockAnswer.Released v) is = absurd is
    by (LockAnswer.Removed v) is = absurd is
page-says (Cause.CallFailed call) u taken is so = by call is
  where
    by : (call : LockCall) → IsPageSettled (Cause.CallFailed call) u taken → SaysTaken (Cause.CallFailed call)
    by (LockCall.PageOut v k delete) is = absurd (let e : true ≡ false = sym so ∙ is.1 in cc)
    by (LockCall.Lock v m) is = absurd is
    by (LockCall.AttrOut v n delete) is = absurd is
    by (LockCall.Unlock v) is = absurd is
    by (LockCall.Remove v) is = absurd is
page-says (Cause.PageCame a) u taken is so = absurd is
page-says (Cause.AccessFailed t) u taken is so = absurd is
page-says (Cause.Accesses op) u taken is so = absurd is
page-says (Cause.Locks v m) u taken is so = absurd is
page-says (Cause.Releases delete v) u taken is so = absurd is

module _ (c : Cause) (turn : Turn) (p : ℕ) (d : DeskState) (desk : IsDesk d) where
  module _ (u : ObjectName) (k : ℕ) where
    abbrev To : List Resident → Type 0
    To pages = PageChange c turn p d u k (page_at d.cache.pages u k) (page_at pages u k)

    -- another page, or this one
    at-page : (v : ObjectName) (j : ℕ) (pages : List Resident) → (is_same u k v j ≡ false → page_at pages u k ≡ page_at d.cache.pages u k) → (v ≡ u → j ≡ k → To pages) → To pages
    at-page v j pages other this = by_cases (is_same u k v j) (To pages)
        (λ is. this (sym (same-uid u k v j is)) (sym (same-page u k v j is)))
        (λ differs. PageChange.same (other differs))

    changed-at : (v : ObjectName) (j : ℕ) (change : Resident → Resident) (names : (w : ObjectName) (i : ℕ) (s : Resident) → is_page w i (change s) ≡ is_page w i s)
        → (page_at (changed_page v j change d.cache.pages) v j ≡ option_map change (page_at d.cache.pages v j) → v ≡ u → j ≡ k → To (changed_page v j change d.cache.pages)) → To (changed_page v j change d.cache.pages)
    changed-at v j change names this = at-page v j (changed_page v j change d.cache.pages) (page_at-changed_other v j change names d.cache.pages u k) (this (page_at-changed_same v j change names d.cache.pages))

    -- what is said of the page of its own name
    moved-at : (v : ObjectName) (j : ℕ) (change : Resident → Resident) → page_at (changed_page v j change d.cache.pages) v j ≡ option_map change (page_at d.cache.pages v j) → v ≡ u → j ≡ k
        → page_at (changed_page v j change d.cache.pages) u k ≡ option_map change (page_at d.cache.pages u k)
    moved-at v j change here is at =
        subst (λ w. page_at (changed_page v j change d.cache.pages) w k ≡ option_map change (page_at d.cache.pages w k)) is
        (subst (λ i. page_at (changed_page v j change d.cache.pages) v i ≡ option_map change (page_at d.cache.pages v i)) at here)

    marked-at : (v : ObjectName) (j : ℕ) → (v ≡ u → j ≡ k → SendsThis turn u k) → To (changed_page v j as_sent d.cache.pages)
    marked-at v j sends = changed-at v j as_sent (λ w i s. refl) (λ here is at. PageChange.marks (sends is at) (moved-at v j as_sent here is at))

    settled-at : (v : ObjectName) (j : ℕ) (taken : Bool) → moving_of d p ≡ going v j → (taken ≡ true → SaysTaken c) → To (changed_page v j (settled taken) d.cache.pages)
    settled-at v j taken goes says = changed-at v j (settled taken) (λ w i s. refl) (λ here is at. PageChange.settles taken
        (subst (λ w. moving_of d p ≡ going w k) is (subst (λ i. moving_of d p ≡ going v i) at goes)) says (moved-at v j (settled taken) here is at))

    -- a page that was dropped
    gone-at : (v : ObjectName) (j : ℕ) (pages : List Resident) → (is_same u k v j ≡ false → page_at pages u k ≡ page_at d.cache.pages u k) → is_dirty (page_at d.cache.pages v j) ≡ false → page_at pages v j ≡ None → To pages
    gone-at v j pages other clean none = at-page v j pages other (λ is at. PageChange.gone
        (subst (λ w. is_dirty (page_at d.cache.pages w k) ≡ false) is (subst (λ i. is_dirty (page_at d.cache.pages v i) ≡ false) at clean))
        (subst (λ w. page_at pages w k ≡ None) is (subst (λ i. page_at pages v i ≡ None) at none)))

    sends-this : (home : ℕ) (v : ObjectName) (j grant base : ℕ) (bytes : List ℕ) → turn ≡ Turn.Asks home (Ask.PageOut v j grant base bytes) → v ≡ u → j ≡ k → SendsThis turn u k
    sends-this home v j grant base bytes asks is at = subst (λ t. SendsThis t u k) (sym asks) (is, at)

    fresh-at : (task : Task) (stamp : ℕ) (bytes : List ℕ) → c ≡ Cause.PageCame (PageAnswer.Came task stamp bytes) → Fetches p d task → stamp_of task.uid d.seen ≡ Some stamp → To (fresh_page task.uid (page_of task) bytes ∷ d.cache.pages)
    fresh-at task stamp bytes given fetches seen = at-page task.uid (page_of task) (fresh_page task.uid (page_of task) bytes ∷ d.cache.pages)
        (λ differs. (
        let apart : is_page u k (fresh_page task.uid (page_of task) bytes) ≡ false = grind (arith, nat_tests, differs) in
        ap (λ b. if b then Some (fresh_page task.uid (page_of task) bytes) else page_at d.cache.pages u k) apart))
        (λ is at. PageChange.comes task stamp bytes given fetches seen is at
        (subst (λ w. page_at d.cache.pages w k ≡ None) is (subst (λ i. page_at d.cache.pages task.uid i ≡ None) at fetches.absent))
        (subst (λ w. page_at (fresh_page task.uid (page_of task) bytes ∷ d.cache.pages) w k ≡ Some (fresh_page w k bytes)) is
        (subst (λ i. page_at (fresh_page task.uid (page_of task) bytes ∷ d.cache.pages) task.uid i ≡ Some (fresh_page task.uid i bytes)) at (page_at-fresh task.uid (page_of task) bytes d.cache.pages))))

    stored-at : (task : Task) (bytes : List ℕ) (r : Resident) → Does c p d task → task.work ≡ Store bytes → page_at d.cache.pages task.uid (page_of task) ≡ Some r → turn ≡ Turn.Ends Fine
        → To (changed_page task.uid (page_of task) (written (start_of task) bytes) (used d.cache.pages task.uid (page_of task)))
    stored-at task bytes r does work there ends =
        let pages = changed_page task.uid (page_of task) (written (start_of task) bytes) (used d.cache.pages task.uid (page_of task)) in
        let here : page_at pages task.uid (page_of task) ≡ Some (written (start_of task) bytes r) =
        page_at-changed_same task.uid (page_of task) (written (start_of task) bytes) (λ w i s. refl) (used d.cache.pages task.uid (page_of task))
        ∙ ap (option_map (written (start_of task) bytes)) (page_at-used d.cache.pages task.uid (page_of task) task.uid (page_of task) ∙ there) in
        at-page task.uid (page_of task) pages
        (λ differs. page_at-changed_other task.uid (page_of task) (written (start_of task) bytes) (λ w i s. refl) (used d.cache.pages task.uid (page_of task)) u k differs ∙ page_at-used d.cache.pages task.uid (page_of task) u k)
        (λ is at. PageChange.puts task bytes r does work ends is at
        (subst (λ w. page_at d.cache.pages w k ≡ Some r) is (subst (λ i. page_at d.cache.pages task.uid i ≡ Some r) at there))
        (subst (λ w. page_at pages w k ≡ Some (written (start_of task) bytes r)) is (subst (λ i. page_at pages task.uid i ≡ Some (written (start_of task) bytes r)) at here)))

    pub change-page : (e : DeskState) (dropped : List (ObjectName × ℕ)) → Change c turn p d e dropped → To e.cache.pages
    change-page e dropped (Change.uses task count r does work there ends) = PageChange.same (page_at-used d.cache.pages task.uid (page_of task) u k)
    change-page e dropped (Change.stores task bytes r does work there ends) = stored-at task bytes r does work there ends
    change-page e dropped (Change.drops task v j does missing full may asks) =
        gone-at v j _ (page_at-without_other d.cache.pages v j u k) (idle-clean d v j may) (page_at-without_same d.cache.pages v j)
    change-page e dropped (Change.evicts task r does missing full clean there dirty calm asks) = marked-at r.uid r.page (λ is at. sends-this _ r.uid r.page _ _ _ asks is at)
    change-page e dropped (Change.arrives task stamp bytes reply given fetches seen whole ends) = fresh-at task stamp bytes given fetches seen
    change-page e dropped (Change.settles_room task r taken given room) = settled-at r.uid r.page taken room.sends.moves (room-says c task r taken given)
    change-page e dropped (Change.sends_again task r stamp given room asks) = marked-at r.uid r.page (λ is at. sends-this _ r.uid r.page _ _ _ asks is at)
    change-page e dropped (Change.sends delete v j r releasing calm found there dirty asks) = marked-at v j (λ is at. sends-this _ v j _ _ _ asks is at)
    change-page e dropped (Change.page_settles v j r taken given closed sends writes keeping) =
        subst (λ t. To (settled_by t taken d.cache.pages)) (sym sends.moves) (settled-at v j taken sends.moves (page-says c v taken given))
    change-page e dropped (Change.drops_all v a given object may none) = by_cases (same_uid u v) (To e.cache.pages)
        (λ is. (
        let named : v ≡ u = sym (same_uid_is u v is) in
        PageChange.gone (subst (λ w. is_dirty (page_at d.cache.pages w k) ≡ false) named (unkept-clean d v desk none k)) (subst (λ w. page_at e.cache.pages w k ≡ None) named (page_at-without_object_same d.cache.pages v k))))
        (λ differs. PageChange.same (page_at-without_object_other d.cache.pages v u k differs))
    change-page e dropped change = PageChange.same refl

  module _ (u : ObjectName) where
    abbrev Of : List Known → Type 0
    Of rows = KnownChange c turn p d u (known_of u d.known) (known_of u rows)

    -- a row that was changed in its place
    row-changed : (change : Known → Known) → ((row : Known) → (change row).uid ≡ row.uid) → (v : ObjectName) (o : Option Known) → known_of v d.known ≡ o
        → ((row : Known) → v ≡ u → known_of u d.known ≡ Some row → known_of u (with_known (change row) d.known) ≡ Some (change row) → Of (with_known (change row) d.known)) → Of (known_after change o d.known)
    row-changed change names v None found this = KnownChange.same refl
    row-changed change names v (Some row) found this =
        let named : (change row).uid ≡ v = names row ∙ row_of-named known_name v d.known row found in
        by_cases (same_uid u (change row).uid) (Of (with_known (change row) d.known))
        (λ is.
        let here : v ≡ u = sym named ∙ sym (same_uid_is u (change row).uid is) in
        this row here (subst (λ w. known_of w d.known ≡ Some row) here found) (known_of-with_known (change row) d.known u ∙ ap (λ b. if b then Some (change row) else known_of u d.known) is))
        (λ differs. KnownChange.same (known_of-with_known (change row) d.known u ∙ ap (λ b. if b then Some (change row) else known_of u d.known) differs))

    pub change-known : (e : DeskState) (dropped : List (ObjectName × ℕ)) → Change c turn p d e dropped → Of e.known
    change-known e dropped (Change.grows task bytes does work ends) = row-changed (grown (task.offset + length bytes)) (uid-grown (task.offset + length bytes)) task.uid (known_of task.uid d.known) refl
        (λ row is was now. KnownChange.grows task bytes row does work ends is was now)
    change-known e dropped (Change.length_settles v n delete true stamp given idle writes) = row-changed (sent_length n) (uid-sent n) v (known_of v d.known) refl
        (λ row is was now. KnownChange.settles n delete stamp row (subst (λ w. c ≡ Cause.AnswerCame (LockAnswer.LengthSettled w n delete true stamp)) is given) was now)
    change-known e dropped (Change.length_settles v n delete false stamp given idle writes) = KnownChange.same refl
    change-known e dropped (Change.learns v m grant stamp room n given alone none fresh is_room is_length) = by_cases (same_uid u v) (Of (with_known (told_row v room n) d.known))
        (λ is. (
        let named : v ≡ u = sym (same_uid_is u v is) in
        KnownChange.learns m grant stamp room n (subst (λ w. c ≡ Cause.AnswerCame (LockAnswer.Granted w m grant stamp room n)) named given) (subst (λ w. any_keeps d.entries w ≡ false) named none)
        (known_of-with_known (told_row v room n) d.known u ∙ ap (λ b. if b then Some (told_row v room n) else known_of u d.known) is ∙ ap (λ w. Some (told_row w room n)) named)))
        (λ differs. KnownChange.same (known_of-with_known (told_row v room n) d.known u ∙ ap (λ b. if b then Some (told_row v room n) else known_of u d.known) differs))
    change-known e dropped change = KnownChange.same refl
