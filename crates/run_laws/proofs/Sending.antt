-- What a process sent home and its desk still has, where another process moves the desk; and what a process sends.
use Rattle.std.proofs.Common.{◌≡◌, ◌≢◌, ℕ, ◌+◌, ◌≤◌, ◌<◌, Bool, true, false, List, [], length, Option, Some, None, refl, sym, ap, subst, ◌∙◌, arith}
use Rattle.std.specs.Prelude.{◌==◌, nat_lt, if◌then◌else◌}
use Rattle.std.specs.Option.{option_map}
use Rattle.std.proofs.lemmas.Bool.Decides.{nat_tests}
use Rattle.std.proofs.lemmas.Option.{same_Some}
use Rattle.uid_names.specs.Names.{ObjectName, same_uid}
use Rattle.uid_names.proofs.ListLemmas.{by_cases}
use Rattle.uid_names.proofs.Orders.{same_uid_is}
use Rattle.uid_names.proofs.Tables.{row_of-named}
use Rattle.page_cache.specs.Caches.{Resident, page_at}
use Rattle.ring_messages.specs.Bodies.{Ask}
use Rattle.fault_handler.specs.declared.lengths.Known.{Known}
use Rattle.fault_handler.specs.Lengths.{known_name, known_of, is_changed, length_of, changed_in, changed_length, grown, grown_if, sent_length, sent_if, known_after}
use Rattle.fault_handler.specs.Entries.{entry_of, keeps, keeps_writing, grant_in}
use Rattle.fault_handler.specs.Transits.{going}
use Rattle.fault_handler.specs.Desks.{DeskState, entry_at, moving_of, any_keeps, base_of, writing_grant}
use Rattle.fault_handler.specs.Changes.{known_sent}
use Rattle.fault_handler.specs.Outcomes.{Turn}
use Rattle.fault_handler.specs.Invariant.{IsProc, IsDesk}
use Rattle.fault_handler.proofs.Fours.{any-at}
use Rattle.fault_handler.proofs.KnownRows.{known_of-with_known, uid-grown, uid-sent}
use Rattle.fault_handler.proofs.TransitKeeps.{keeps_writing-keeps}
use Rattle.lock_validate.specs.Causes.{Cause}
use Rattle.lock_validate.specs.DeskMoves.{Change, DeskMoves}
use Rattle.lock_validate.specs.Told.{told_row}
use Rattle.lock_validate.specs.Turns.{Says}
use Rattle.lock_validate.proofs.Beside.{moves-beside}
use Rattle.lock_validate.proofs.DeskStays.{moves-desk}
use Rattle.run_laws.specs.OpenCalls.{IsLengthSent, Carries}
use Rattle.run_laws.proofs.GoingPages.{IsBeside, kept, stored_to, change-beside}
use Rattle.run_laws.proofs.Staying.{known-stays, writing-left}
use Rattle.run_laws.proofs.OpenCalls.{sent-is-dirty}
use Rattle.run_laws.specs.Items.{Item, Value, page_value, desk_value, is_dirty_at, Write, write_of}
use Rattle.run_laws.specs.Writes.{IsStillSent, IsUnchanged}
use Rattle.run_laws.proofs.Quiet.{page-written, changed-known}

-- a length that is the changed one afterwards was so before, where it was not above the known one
module _ (c : Cause) (turn : Turn) (p : ℕ) (u : ObjectName) (n : ℕ) where
  grown-back : (end : ℕ) (k : Known) → n ≤ k.length → changed_length (Some (grown end k)) ≡ Some n → changed_length (Some k) ≡ Some n
  grown-back end k most is = by (nat_lt k.length end) refl is
    where
      by : (b : Bool) → nat_lt k.length end ≡ b → changed_length (Some (grown_if b end k)) ≡ Some n → changed_length (Some k) ≡ Some n
      by true longer is = absurd (let e : end ≡ n = same_Some end n is in let f : k.length < end = grind (arith, nat_tests, longer) in omega (arith, e, f, most))
      by false longer is = is

  sent-back : (l : ℕ) (k : Known) → changed_length (Some (sent_length l k)) ≡ Some n → changed_length (Some k) ≡ Some n
  sent-back l k is = by (k.length == l) is
    where
      by : (b : Bool) → changed_length (Some (sent_if b k)) ≡ Some n → changed_length (Some k) ≡ Some n
      by true is = absurd (cc)
      by false is = is

  after-back : (change : Known → Known) → ((k : Known) → (change k).uid ≡ k.uid) → (v : ObjectName) (rows : List Known) (o : Option Known) → known_of v rows ≡ o → ((k : Known) → known_of u rows ≡ Some k → changed_length (Some (change k)) ≡ Some n → changed_length (Some k) ≡ Some n)
      → changed_length (known_of u (known_after change o rows)) ≡ Some n → changed_length (known_of u rows) ≡ Some n
  after-back change names v rows None found back is = is
  after-back change names v rows (Some k) found back is = by_cases (same_uid u (change k).uid) (changed_length (known_of u rows) ≡ Some n)
      (λ same.
      let named : (change k).uid ≡ v = names k ∙ row_of-named known_name v rows k found in
      let was : known_of u rows ≡ Some k = ap (λ w. known_of w rows) (same_uid_is u (change k).uid same ∙ named) ∙ found in
      ap changed_length was ∙ back k was (sym (ap changed_length (known_of-with_known (change k) rows u ∙ ap (λ b. if b then Some (change k) else known_of u rows) same)) ∙ is))
      (λ differs. sym (ap changed_length (known_of-with_known (change k) rows u ∙ ap (λ b. if b then Some (change k) else known_of u rows) differs)) ∙ is)

  sent-known-back : (taken : Bool) (v : ObjectName) (l : ℕ) (rows : List Known) → changed_length (known_of u (known_sent taken v l rows)) ≡ Some n → changed_length (known_of u rows) ≡ Some n
  sent-known-back true v l rows is = after-back (sent_length l) (uid-sent l) v rows (known_of v rows) refl (λ k was now. sent-back l k now) is
  sent-known-back false v l rows is = is

  change-back : (d e : DeskState) (dropped : List (ObjectName × ℕ)) → any_keeps d.entries u ≡ true → n ≤ length_of (known_of u d.known) → Change c turn p d e dropped → changed_length (known_of u e.known) ≡ Some n → changed_length (known_of u d.known) ≡ Some n
  change-back d e dropped kept_one most (Change.grows task bytes does work ends) is =
      after-back (grown (task.offset + length bytes)) (uid-grown (task.offset + length bytes)) task.uid d.known (known_of task.uid d.known) refl
      (λ k was now. grown-back (task.offset + length bytes) k (subst (λ o. n ≤ length_of o) was most) now) is
  change-back d e dropped kept_one most (Change.length_settles v l delete taken stamp given idle writes) is = sent-known-back taken v l d.known is
  change-back d e dropped kept_one most (Change.learns v m grant stamp room l given alone none fresh is_room is_length) is = by_cases (same_uid u v) (changed_length (known_of u d.known) ≡ Some n)
      (λ same. absurd (let f : true ≡ false = sym kept_one ∙ (ap (any_keeps d.entries) (same_uid_is u v same) ∙ none) in cc))
      (λ differs. sym (ap changed_length (known_of-with_known (told_row v room l) d.known u ∙ ap (λ b. if b then Some (told_row v room l) else known_of u d.known) differs)) ∙ is)
  change-back d e dropped kept_one most change is = is

-- what another process sent, and the desk still has, it had
module _ (c : Cause) (turn : Turn) (p : ℕ) (proc : IsProc p) (q : ℕ) (other : IsProc q) (differs : q ≢ p) (d : DeskState) (desk : IsDesk d) where
  -- a page
  module _ (u : ObjectName) (k : ℕ) (goes : moving_of d q ≡ going u k) where
    beside-sent : (old new : Option Resident) → IsBeside old new → IsStillSent new → IsStillSent old
    beside-sent old new (kept same) sent = subst IsStillSent same sent
    beside-sent old new (stored_to r offset bytes was now) sent = absurd (false-is (subst IsStillSent now sent))
      where
        false-is : false ≡ true → ⊥
        false-is e = absurd (cc)

    page-back : (e : DeskState) (dropped : List (ObjectName × ℕ)) → DeskMoves c turn p d e dropped → IsStillSent (page_at e.cache.pages u k) → IsStillSent (page_at d.cache.pages u k)
    page-back e dropped DeskMoves.none sent = sent
    page-back e dropped (DeskMoves.next {e = f} before change) sent =
        page-back f dropped before (beside-sent (page_at f.cache.pages u k) (page_at e.cache.pages u k)
        (change-beside c turn p proc q other differs f (moves-desk c turn p proc d f dropped desk before) u k ((moves-beside c turn p q proc other differs d f dropped before).moving ∙ goes) e [] change) sent)
    page-back e dropped (DeskMoves.dropping {e = f} before change) sent =
        page-back f [] before (beside-sent (page_at f.cache.pages u k) (page_at e.cache.pages u k)
        (change-beside c turn p proc q other differs f (moves-desk c turn p proc d f [] desk before) u k ((moves-beside c turn p q proc other differs d f [] before).moving ∙ goes) e dropped change) sent)

  -- a length
  module _ (u : ObjectName) (n : ℕ) (writes : keeps_writing (entry_at d.entries q u) ≡ true) (most : n ≤ length_of (known_of u d.known)) where
    kept-then : (f : DeskState) (dropped : List (ObjectName × ℕ)) → DeskMoves c turn p d f dropped → any_keeps f.entries u ≡ true
    kept-then f dropped before = any-at (λ r. keeps (entry_at f.entries r u)) q other
        (ap (λ es. keeps (entry_of u es)) (moves-beside c turn p q proc other differs d f dropped before).entries ∙ keeps_writing-keeps (entry_at d.entries q u) writes)

    most-then : (f : DeskState) (dropped : List (ObjectName × ℕ)) → DeskMoves c turn p d f dropped → n ≤ length_of (known_of u f.known)
    most-then f dropped DeskMoves.none = most
    most-then f dropped (DeskMoves.next {e = g} before change) = let a = most-then g dropped before in let b = known-stays u c turn p g (kept-then g dropped before) f [] change in omega (arith, a, b)
    most-then f dropped (DeskMoves.dropping {e = g} before change) = let a = most-then g [] before in let b = known-stays u c turn p g (kept-then g [] before) f dropped change in omega (arith, a, b)

    length-back : (e : DeskState) (dropped : List (ObjectName × ℕ)) → DeskMoves c turn p d e dropped → changed_length (known_of u e.known) ≡ Some n → changed_length (known_of u d.known) ≡ Some n
    length-back e dropped DeskMoves.none is = is
    length-back e dropped (DeskMoves.next {e = f} before change) is = length-back f dropped before (change-back c turn p u n f e [] (kept-then f dropped before) (most-then f dropped before) change is)
    length-back e dropped (DeskMoves.dropping {e = f} before change) is = length-back f [] before (change-back c turn p u n f e dropped (kept-then f [] before) (most-then f [] before) change is)

  -- either
  pub unchanged-back : (u : ObjectName) (x : Item) (v : Value) (grant base : ℕ) (ask : Ask) → write_of ask ≡ Some (record { uid = u; item = x; value = v; grant = grant; base = base }) → Carries d q ask → (e : DeskState) (dropped : List (ObjectName × ℕ)) → DeskMoves c turn p d e dropped
      → IsUnchanged e u x v → IsUnchanged d u x v
  unchanged-back u (Item.Page k) v grant base ask is carries e dropped made same =
      let out = page-written ask u k v grant base is in
      page-back u k (subst (Carries d q) out.1 carries).moves e dropped made same
  unchanged-back u Item.Size (Value.Length n) grant base ask is carries e dropped made same =
      let out = length-written ask u n grant base is in
      let sent : IsLengthSent d q u n grant base = subst (Carries d q) out carries in
      length-back u n (writing-left (entry_at d.entries q u) _ sent.granted) sent.length e dropped made same
    where
      length-written : (ask : Ask) (u : ObjectName) (n grant base : ℕ) → write_of ask ≡ Some (record { uid = u; item = Item.Size; value = Value.Length n; grant = grant; base = base }) → ask ≡ Ask.AttrOut u n grant base
      length-written (Ask.AttrOut w l g b) u n grant base is =
          let same : ◌≡◌ {A = Write} (record { uid = w; item = Item.Size; value = Value.Length l; grant = g; base = b }) (record { uid = u; item = Item.Size; value = Value.Length n; grant = grant; base = base }) = same_Some _ _ is in
          let a : w ≡ u = ap (λ (y : Write). y.uid) same in
          let i : l ≡ n = value-length l n (ap (λ (y : Write). y.value) same) in
          let c : g ≡ grant = ap (λ (y : Write). y.grant) same in
          let d : b ≡ base = ap (λ (y : Write). y.base) same in
          ap (λ y. Ask.AttrOut y l g b) a ∙ (ap (λ y. Ask.AttrOut u y g b) i ∙ (ap (λ y. Ask.AttrOut u n y b) c ∙ ap (λ y. Ask.AttrOut u n grant y) d))
        where
          value-length : (x y : ℕ) → Value.Length x ≡ Value.Length y → x ≡ y
          value-length x y e = cc
      length-written (Ask.PageOut w j g b bytes) u n grant base is = absurd (let e : Item.Page j ≡ Item.Size = ap (λ (y : Write). y.item) (same_Some _ _ is) in cc)
      length-written (Ask.PageIn w j) u n grant base is = absurd (cc)
      length-written (Ask.Lock w m) u n grant base is = absurd (cc)
      length-written (Ask.Unlock w) u n grant base is = absurd (cc)
      length-written (Ask.Remove w) u n grant base is = absurd (cc)
      length-written (Ask.Make kind room) u n grant base is = absurd (cc)
      length-written (Ask.ListLocks from) u n grant base is = absurd (cc)
  unchanged-back u Item.Size (Value.Bytes bytes) grant base ask is carries e dropped made same = absurd same

-- what is asked now is of what is dirty, as it is
pub record IsSent (e : DeskState) (written : Write) : Type 0 where
  pub dirty : is_dirty_at e written.uid written.item ≡ true
  pub value : desk_value e written.uid written.item ≡ Some written.value

changed-is : (o : Option Known) (n : ℕ) → changed_length o ≡ Some n → is_changed o ≡ true
changed-is o n is = by (is_changed o) refl is
  where
    by : (b : Bool) → is_changed o ≡ b → changed_in b (length_of o) ≡ Some n → is_changed o ≡ true
    by true same is = same
    by false same is = absurd (cc)

-- a turn that asks for a write
abbrev pub SendsTurn : DeskState → ℕ → Turn → Type 0
SendsTurn e p (Turn.Asks home ask) = Carries e p ask → (written : Write) → write_of ask ≡ Some written → IsSent e written
SendsTurn e p turn = Unit {0}

page-sends : (e : DeskState) (p : ℕ) (u : ObjectName) (k grant base : ℕ) (bytes : List ℕ) (r : Resident) → page_at e.cache.pages u k ≡ Some r → r.bytes ≡ bytes → Carries e p (Ask.PageOut u k grant base bytes) → (written : Write) → write_of (Ask.PageOut u k grant base bytes) ≡ Some written → IsSent e written
page-sends e p u k grant base bytes r there same carries written is = subst (IsSent e) (same_Some _ written is) (record {
  dirty = sent-is-dirty bytes (page_at e.cache.pages u k) carries.page;
  value = ap (option_map page_value) there ∙ ap (λ bs. Some (Value.Bytes bs)) same;
})

length-sends : (e : DeskState) (u : ObjectName) (n grant base : ℕ) → changed_length (known_of u e.known) ≡ Some n → (written : Write) → write_of (Ask.AttrOut u n grant base) ≡ Some written → IsSent e written
length-sends e u n grant base changed written is = subst (IsSent e) (same_Some _ written is) (record { dirty = changed-is (known_of u e.known) n changed; value = changed-known (known_of u e.known) n changed })

pub says-sent : (d : DeskState) (p : ℕ) (e : DeskState) (c : Cause) (turn : Turn) → Says d p e c turn → SendsTurn e p turn
says-sent d p e c turn (Says.sends_room cause task r given room) = λ carries. page-sends e p r.uid r.page (writing_grant e.entries r.uid) (base_of e.seen r.uid) r.bytes r room.sends.there refl carries
says-sent d p e c turn (Says.sends_page cause delete u k r given opened sends) = λ carries. page-sends e p u k (grant_in (entry_at e.entries p u)) (base_of e.seen u) r.bytes r sends.there refl carries
says-sent d p e c turn (Says.sends_length cause delete u n given opened changed) = λ carries. length-sends e u n (grant_in (entry_at e.entries p u)) (base_of e.seen u) changed
says-sent d p e c turn (Says.asks_page cause task given fetches) = λ carries written is. absurd (cc)
says-sent d p e c turn (Says.asks_lock u m opened) = λ carries written is. absurd (cc)
says-sent d p e c turn (Says.gives_up cause true u given opened may settled) = λ carries written is. absurd (cc)
says-sent d p e c turn (Says.gives_up cause false u given opened may settled) = λ carries written is. absurd (cc)
says-sent d p e c turn says = tt
