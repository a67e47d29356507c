-- A body that is read is the body that was written, and what was written is read again.
use Rattle.std.proofs.Common.{◌≡◌, ℕ, ◌^◌, ◌<◌, ◌≤◌, Bool, true, false, List, [], ◌∷◌, ◌++◌, length, Option, Some, None, refl, sym, ap, subst, ◌∙◌, arith}
use Rattle.std.specs.Prelude.{All, ◌*◌, nat_le, ◌==◌, ◌&&◌, if◌then◌else◌}
use Rattle.std.specs.List.{flat_map, AllByRecursion}
use Rattle.std.proofs.lemmas.Bool.Decides.{nat_tests}
use Rattle.std.proofs.lemmas.List.{append-nil}
use Rattle.std.proofs.lemmas.List.Elements.{All-from_recursion, recursion_from_All}
use Rattle.std.proofs.lemmas.Bool.{and_parts}
use Rattle.uid_names.specs.Names.{ProcName, ObjectName, number_of}
use Rattle.uid_names.specs.Rooms.{IsRoom}
use Rattle.uid_names.specs.Wires.{wire_room}
use Rattle.uid_names.proofs.Wires.{wire_room-most}
use Rattle.uid_names.specs.declared.lock_row.LockRow.{LockRow}
use Rattle.uid_names.specs.declared.mode.Mode.{Mode}
use Rattle.uid_names.specs.declared.mode.ObjKind.{ObjKind}
use Rattle.uid_names.specs.declared.frame_kind.FrameKind.{FrameKind}
use Rattle.uid_names.specs.declared.frame_kind.FrameKind.TheVariants as kinds
use Rattle.ring_messages.specs.declared.body.Body.{Body}
use Rattle.ring_messages.specs.declared.body.Body.TheVariants.{PageIn, PageOut, AttrOut, Lock, Unlock, Remove, Make, List as ListLocks, Page, Stored, Stale, NoGrant, NoObject, Granted, Conflict, Done, Made, NoSpace, Listed}
use Rattle.ring_messages.specs.Bodies.{kind_of}
use Rattle.uid_names.specs.declared.limits.TheConstants.{LISTED_ROWS, MAX_LENGTH, MAX_ROOM, PAGE_BYTES}
use Rattle.ring_messages.specs.Ranges.{IsBody, LiesWithin}
use Rattle.ring_messages.specs.Spelling.{be64, flag, row_bytes, after_bytes, body_bytes}
use Rattle.ring_messages.specs.Spelled.{IsRow, IsAfter, IsTypedBody}
use Rattle.uid_names.specs.Steps.{◌>>=◌}
use Rattle.uid_names.proofs.Somes.{bind-some}
use Rattle.ring_messages.specs.ReaderSteps.{◌then◌, whole, end_at}
use Rattle.ring_messages.specs.ReaderFields.{byte_at, be64_at, flag_at, uid_of, proc_of, after_of}
use Rattle.ring_messages.specs.ReaderRows.{rows_at, is_rising}
use Rattle.ring_messages.specs.ReaderBodies.{listed_at, body_at}
use Rattle.ring_messages.proofs.Rising.{rising-in_order, in_order-rising}
use Rattle.ring_messages.proofs.Fields.{IsBytes, IsBytes-rest, if_some, some_is, IsField, field-then, field-byte, field-be64, whole-again, whole-takes, end-nil, nil-end}
use Rattle.ring_messages.proofs.Values.{field-page, field-length, field-room, field-count, field-uid, field-own, field-proc, field-mode, field-object, field-flag, field-whole, rows-again, rows-take, uid-means, uid-meant, proc_of-again, proc_of-takes}

-- ---- the row behind which rows begin

abbrev pub Key : Type 0
Key = Bool × (ℕ × (ℕ × ℕ))

field-key : IsField (λ (x : Key). (flag x.0 ∷ []) ++ (be64 x.1.0 ++ ((x.1.1.0 ∷ []) ++ (x.1.1.1 ∷ [])))) (λ (x : Key). Unit {0} × ((x.1.0 < 2 ^ 64) × ((x.1.1.0 < 256) × (x.1.1.1 < 256)))) (flag_at then be64_at then byte_at then byte_at)
field-key = field-then field-flag (field-then field-be64 (field-then field-byte field-byte))

abbrev pub after_key : Key → Option Body
after_key x = after_of x.0 x.1.0 x.1.1.0 x.1.1.1 >>= λ after. Some (ListLocks after)

pub list-again : (after : Option (ObjectName × ProcName)) → IsAfter after → (whole (flag_at then be64_at then byte_at then byte_at) (λ (x : Key). x) (after_bytes after) >>= after_key) ≡ Some (ListLocks after)
unfolding after_of be64
list-again None is =
    let key : Key = (false, (0, (0, 0))) in
    ap (λ (r : Option Key). r >>= after_key) (whole-again field-key (λ (x : Key). x) key (tt, (omega arith, (omega arith, omega arith))))
list-again (Some (u, p)) is =
    let um = uid-means u is.0 in
    let key : Key = (true, (number_of u, (p.node, p.number))) in
    ap (λ (r : Option Key). r >>= after_key) (whole-again field-key (λ (x : Key). x) key (tt, (um.0, (omega (arith, is.1.node.1), omega (arith, is.1.number.1)))))
    ∙ rw um.1 (rw (proc_of-again p is.1) refl)

pub after-takes : (b : Bool) (n node number : ℕ) (after : Option (ObjectName × ProcName)) → n < 2 ^ 64 → after_of b n node number ≡ Some after → ((flag b ∷ []) ++ (be64 n ++ ((node ∷ []) ++ (number ∷ []))) ≡ after_bytes after) × IsAfter after
unfolding after_of be64
after-takes false n node number after small e =
    let g = if_some ((n == 0) && ((node == 0) && (number == 0))) None after e in
    let a = and_parts (n == 0) ((node == 0) && (number == 0)) g.0 in
    let b = and_parts (node == 0) (number == 0) a.1 in
    let n-is : n ≡ 0 = grind (arith, nat_tests, a.0) in
    let node-is : node ≡ 0 = grind (arith, nat_tests, b.0) in
    let number-is : number ≡ 0 = grind (arith, nat_tests, b.1) in
    subst (λ (x : Option (ObjectName × ProcName)). ((flag false ∷ []) ++ (be64 n ++ ((node ∷ []) ++ (number ∷ []))) ≡ after_bytes x) × IsAfter x) g.1 (rw (n-is, node-is, number-is) refl, tt)
after-takes true n node number after small e =
    let u = bind-some (uid_of n) (λ u. proc_of node number >>= λ p. Some (Some (u, p))) after e in
    let p = bind-some (proc_of node number) (λ p. Some (Some (u.0, p))) after u.2 in
    let um = uid-meant n u.0 small u.1 in
    let pm = proc_of-takes node number p.0 p.1 in
    let parts : (flag true ∷ []) ++ (be64 n ++ ((node ∷ []) ++ (number ∷ []))) ≡ after_bytes (Some (u.0, p.0)) = rw (← um.0, ← pm.0, ← pm.1) refl in
    subst (λ (x : Option (ObjectName × ProcName)). ((flag true ∷ []) ++ (be64 n ++ ((node ∷ []) ++ (number ∷ []))) ≡ after_bytes x) × IsAfter x) (some_is (Some (u.0, p.0)) after p.2) (parts, (um.1, pm.2))

-- ---- listed rows

pub listed-again : (version : ℕ) (rows : List LockRow) (more : Bool) → IsBody 0 (Listed rows more) → All IsRow rows → listed_at (body_bytes version (Listed rows more)) ≡ Some (Listed rows more)
unfolding listed_at byte_at
listed-again version rows more is typed =
    let count : nat_le (length rows) LISTED_ROWS ≡ true = grind (arith, nat_tests, is.0) in
    let read : rows_at (length rows) (flat_map row_bytes rows) ≡ Some (rows, []) = ap (rows_at (length rows)) (sym (append-nil (flat_map row_bytes rows))) ∙ rows-again rows [] (recursion_from_All IsRow rows typed) in
    rw (field-flag.again more (flat_map row_bytes rows) tt) (rw read (rw nil-end (rw (count, in_order-rising rows is.1) refl)))

-- what a version can write there can be
page-in : (version page : ℕ) → page < wire_room version → page < MAX_ROOM
page-in version page low = omega (arith, low, wire_room-most version)

length-in : (version n : ℕ) → n ≤ PAGE_BYTES * wire_room version → n ≤ MAX_LENGTH
length-in version n low = omega (arith, low, wire_room-most version)

room-in : (version room : ℕ) → (1 ≤ room) × (room ≤ wire_room version) → IsRoom room
room-in version room is = (is.0, omega (arith, is.1, wire_room-most version))

-- what was read of a kind
pub record IsRead (version : ℕ) (k : FrameKind) (to : ℕ) (bytes : List ℕ) (b : Body) : Type 0 where
  pub kind : kind_of b ≡ k
  pub text : bytes ≡ body_bytes version b
  pub ranges : IsBody to b
  pub within : LiesWithin (wire_room version) b
  pub typed : IsTypedBody b

pub listed-takes : (version to : ℕ) (bytes : List ℕ) (b : Body) → IsBytes bytes → listed_at bytes ≡ Some b → IsRead version kinds.Listed to bytes b
unfolding listed_at
listed-takes version to bytes b small e =
    let count = bind-some (byte_at bytes) (λ count. flag_at count.1 >>= λ more. whole (rows_at count.0) (λ (rows : List LockRow). rows) more.1 >>= λ rows. if nat_le count.0 LISTED_ROWS && is_rising rows then Some (Listed rows more.0) else None) b e in
    let more = bind-some (flag_at count.0.1) (λ more. whole (rows_at count.0.0) (λ (rows : List LockRow). rows) more.1 >>= λ rows. if nat_le count.0.0 LISTED_ROWS && is_rising rows then Some (Listed rows more.0) else None) b count.2 in
    let rows = bind-some (whole (rows_at count.0.0) (λ (rows : List LockRow). rows) more.0.1) (λ rows. if nat_le count.0.0 LISTED_ROWS && is_rising rows then Some (Listed rows more.0.0) else None) b more.2 in
    let g = if_some (nat_le count.0.0 LISTED_ROWS && is_rising rows.0) (Listed rows.0 more.0.0) b rows.2 in
    let tests = and_parts (nat_le count.0.0 LISTED_ROWS) (is_rising rows.0) g.0 in
    let first = field-byte.takes bytes count.0 small count.1 in
    let small1 = IsBytes-rest (count.0.0 ∷ []) count.0.1 (subst IsBytes first.0 small) in
    let second = field-flag.takes count.0.1 more.0 small1 more.1 in
    let small2 = IsBytes-rest (flag more.0.0 ∷ []) more.0.1 (subst IsBytes second.0 small1) in
    let all = bind-some (rows_at count.0.0 more.0.1) (λ a. end_at a.1 >>= λ _. Some a.0) rows.0 rows.1 in
    let behind = bind-some (end_at all.0.1) (λ _. Some all.0.0) rows.0 all.2 in
    let third = rows-take count.0.0 more.0.1 all.0 small2 all.1 in
    let same : all.0.0 ≡ rows.0 = some_is all.0.0 rows.0 behind.2 in
    let nothing = end-nil all.0.1 behind.0 behind.1 in
    let rest : more.0.1 ≡ flat_map row_bytes rows.0 = third.0 ∙ rw nothing (append-nil (flat_map row_bytes all.0.0)) ∙ ap (flat_map row_bytes) same in
    let len : length rows.0 ≡ count.0.0 = ap length (sym same) ∙ third.1 in
    let text : bytes ≡ length rows.0 ∷ flag more.0.0 ∷ flat_map row_bytes rows.0 = first.0 ∙ ap (λ (r : List ℕ). count.0.0 ∷ r) (second.0 ∙ ap (λ (r : List ℕ). flag more.0.0 ∷ r) rest) ∙ ap (λ (n : ℕ). n ∷ flag more.0.0 ∷ flat_map row_bytes rows.0) (sym len) in
    let few : count.0.0 ≤ LISTED_ROWS = grind (arith, nat_tests, tests.0) in
    let made : IsRead version kinds.Listed to bytes (Listed rows.0 more.0.0) = record {
      kind = refl;
      text = text;
      ranges = (omega (arith, few, len), rising-in_order rows.0 tests.1);
      within = tt;
      typed = All-from_recursion IsRow rows.0 (subst (AllByRecursion IsRow) same third.2);
    } in
    subst (IsRead version kinds.Listed to bytes) g.1 made

-- ---- all kinds

empty-takes : (version : ℕ) (k : FrameKind) (to : ℕ) (bytes : List ℕ) (x b : Body) → (k ≡ kind_of x) → body_bytes version x ≡ [] → IsBody to x → LiesWithin (wire_room version) x → IsTypedBody x → (end_at bytes >>= λ _. Some x) ≡ Some b → IsRead version k to bytes b
empty-takes version k to bytes x b kind empty ranges within typed e =
    let u = bind-some (end_at bytes) (λ _. Some x) b e in
    subst (IsRead version k to bytes) (some_is x b u.2) (record { kind = sym kind; text = end-nil bytes u.0 u.1 ∙ sym empty; ranges = ranges; within = within; typed = typed })

-- what was read is the body that was written
pub body-takes : (version : ℕ) (k : FrameKind) (to : ℕ) (bytes : List ℕ) (b : Body) → IsBytes bytes → body_at version k to bytes ≡ Some b → IsRead version k to bytes b
unfolding body_at
body-takes version kinds.PageIn to bytes b small e =
    let w = whole-takes (field-then (field-own to) (field-page (wire_room version))) (λ (x : ObjectName × ℕ). PageIn x.0 x.1) bytes b small e in
    subst (IsRead version kinds.PageIn to bytes) w.1 (record { kind = refl; text = w.2; ranges = (w.3.0.1, page-in version _ w.3.1.1); within = w.3.1.1; typed = w.3.0.0 })
body-takes version kinds.PageOut to bytes b small e =
    let w = whole-takes (field-then (field-own to) (field-then (field-page (wire_room version)) (field-then field-count (field-then field-count (field-whole version))))) (λ (x : ObjectName × (ℕ × (ℕ × (ℕ × List ℕ)))). PageOut x.0 x.1.0 x.1.1.0 x.1.1.1.0 x.1.1.1.1) bytes b small e in
    subst (IsRead version kinds.PageOut to bytes) w.1 (record { kind = refl; text = w.2; ranges = (w.3.0.1, page-in version _ w.3.1.0.1, w.3.1.1.0.1, w.3.1.1.1.0.1, w.3.1.1.1.1.len); within = w.3.1.0.1; typed = (w.3.0.0, w.3.1.1.0.0, w.3.1.1.1.0.0, w.3.1.1.1.1.small) })
body-takes version kinds.AttrOut to bytes b small e =
    let w = whole-takes (field-then (field-own to) (field-then (field-length (wire_room version)) (field-then field-count field-count))) (λ (x : ObjectName × (ℕ × (ℕ × ℕ))). AttrOut x.0 x.1.0 x.1.1.0 x.1.1.1) bytes b small e in
    subst (IsRead version kinds.AttrOut to bytes) w.1 (record { kind = refl; text = w.2; ranges = (w.3.0.1, length-in version _ w.3.1.0.1, w.3.1.1.0.1, w.3.1.1.1.1); within = w.3.1.0.1; typed = (w.3.0.0, w.3.1.1.0.0, w.3.1.1.1.0) })
body-takes version kinds.Lock to bytes b small e =
    let w = whole-takes (field-then (field-own to) field-mode) (λ (x : ObjectName × Mode). Lock x.0 x.1) bytes b small e in
    subst (IsRead version kinds.Lock to bytes) w.1 (record { kind = refl; text = w.2; ranges = w.3.0.1; within = tt; typed = w.3.0.0 })
body-takes version kinds.Unlock to bytes b small e =
    let w = whole-takes (field-own to) (λ (u : ObjectName). Unlock u) bytes b small e in
    subst (IsRead version kinds.Unlock to bytes) w.1 (record { kind = refl; text = w.2; ranges = w.3.1; within = tt; typed = w.3.0 })
body-takes version kinds.Remove to bytes b small e =
    let w = whole-takes (field-own to) (λ (u : ObjectName). Remove u) bytes b small e in
    subst (IsRead version kinds.Remove to bytes) w.1 (record { kind = refl; text = w.2; ranges = w.3.1; within = tt; typed = w.3.0 })
body-takes version kinds.Make to bytes b small e =
    let w = whole-takes (field-then field-object (field-room (wire_room version))) (λ (x : ObjKind × ℕ). Make x.0 x.1) bytes b small e in
    subst (IsRead version kinds.Make to bytes) w.1 (record { kind = refl; text = w.2; ranges = room-in version _ w.3.1.1; within = w.3.1.1.1; typed = tt })
body-takes version kinds.List to bytes b small e =
    let k = bind-some (whole (flag_at then be64_at then byte_at then byte_at) (λ (x : Key). x) bytes) after_key b e in
    let w = whole-takes field-key (λ (x : Key). x) bytes k.0 small k.1 in
    let a = bind-some (after_of k.0.0 k.0.1.0 k.0.1.1.0 k.0.1.1.1) (λ after. Some (ListLocks after)) b k.2 in
    let n-small : k.0.1.0 < 2 ^ 64 = subst (λ (x : Key). x.1.0 < 2 ^ 64) w.1 w.3.1.0 in
    let t = after-takes k.0.0 k.0.1.0 k.0.1.1.0 k.0.1.1.1 a.0 n-small a.1 in
    let text : bytes ≡ after_bytes a.0 = w.2 ∙ ap (λ (x : Key). (flag x.0 ∷ []) ++ (be64 x.1.0 ++ ((x.1.1.0 ∷ []) ++ (x.1.1.1 ∷ [])))) w.1 ∙ t.0 in
    subst (IsRead version kinds.List to bytes) (some_is (ListLocks a.0) b a.2) (record { kind = refl; text = text; ranges = tt; within = tt; typed = t.1 })
body-takes version kinds.Page to bytes b small e =
    let w = whole-takes (field-then field-count (field-whole version)) (λ (x : ℕ × List ℕ). Page x.0 x.1) bytes b small e in
    subst (IsRead version kinds.Page to bytes) w.1 (record { kind = refl; text = w.2; ranges = (w.3.0.1, w.3.1.len); within = tt; typed = (w.3.0.0, w.3.1.small) })
body-takes version kinds.Stored to bytes b small e =
    let w = whole-takes field-count (λ (n : ℕ). Stored n) bytes b small e in
    subst (IsRead version kinds.Stored to bytes) w.1 (record { kind = refl; text = w.2; ranges = w.3.1; within = tt; typed = w.3.0 })
body-takes version kinds.Stale to bytes b small e =
    let w = whole-takes field-count (λ (n : ℕ). Stale n) bytes b small e in
    subst (IsRead version kinds.Stale to bytes) w.1 (record { kind = refl; text = w.2; ranges = w.3.1; within = tt; typed = w.3.0 })
body-takes version kinds.NoGrant to bytes b small e = empty-takes version kinds.NoGrant to bytes NoGrant b refl refl tt tt tt e
body-takes version kinds.NoObject to bytes b small e = empty-takes version kinds.NoObject to bytes NoObject b refl refl tt tt tt e
body-takes version kinds.Granted to bytes b small e =
    let w = whole-takes (field-then field-count (field-then field-count (field-then field-object (field-then (field-room (wire_room version)) (field-length (wire_room version)))))) (λ (x : ℕ × (ℕ × (ObjKind × (ℕ × ℕ)))). Granted x.0 x.1.0 x.1.1.0 x.1.1.1.0 x.1.1.1.1) bytes b small e in
    subst (IsRead version kinds.Granted to bytes) w.1 (record { kind = refl; text = w.2; ranges = (w.3.0.1, w.3.1.0.1, room-in version _ w.3.1.1.1.0.1, length-in version _ w.3.1.1.1.1.1); within = (w.3.1.1.1.0.1.1, w.3.1.1.1.1.1); typed = (w.3.0.0, w.3.1.0.0) })
body-takes version kinds.Conflict to bytes b small e =
    let w = whole-takes (field-then field-proc field-mode) (λ (x : ProcName × Mode). Conflict x.0 x.1) bytes b small e in
    subst (IsRead version kinds.Conflict to bytes) w.1 (record { kind = refl; text = w.2; ranges = tt; within = tt; typed = w.3.0 })
body-takes version kinds.Done to bytes b small e = empty-takes version kinds.Done to bytes Done b refl refl tt tt tt e
body-takes version kinds.Made to bytes b small e =
    let w = whole-takes field-uid (λ (u : ObjectName). Made u) bytes b small e in
    subst (IsRead version kinds.Made to bytes) w.1 (record { kind = refl; text = w.2; ranges = tt; within = tt; typed = w.3 })
body-takes version kinds.NoSpace to bytes b small e = empty-takes version kinds.NoSpace to bytes NoSpace b refl refl tt tt tt e
body-takes version kinds.Listed to bytes b small e = listed-takes version to bytes b small e

-- what was written is read again
pub body-again : (version to : ℕ) (b : Body) → IsBody to b → LiesWithin (wire_room version) b → IsTypedBody b → body_at version (kind_of b) to (body_bytes version b) ≡ Some b
unfolding body_at
body-again version to (PageIn u page) is within typed = whole-again (field-then (field-own to) (field-page (wire_room version))) (λ (x : ObjectName × ℕ). PageIn x.0 x.1) (u, page) ((typed, is.0), (omega (arith, is.1), within))
body-again version to (PageOut u page grant base bytes) is within typed = whole-again (field-then (field-own to) (field-then (field-page (wire_room version)) (field-then field-count (field-then field-count (field-whole version))))) (λ (x : ObjectName × (ℕ × (ℕ × (ℕ × List ℕ)))). PageOut x.0 x.1.0 x.1.1.0 x.1.1.1.0 x.1.1.1.1) (u, (page, (grant, (base, bytes)))) ((typed.0, is.0), ((omega (arith, is.1), within), ((typed.1, is.2), ((typed.2, is.3), record { len = is.4; small = typed.3 }))))
body-again version to (AttrOut u n grant base) is within typed = whole-again (field-then (field-own to) (field-then (field-length (wire_room version)) (field-then field-count field-count))) (λ (x : ObjectName × (ℕ × (ℕ × ℕ))). AttrOut x.0 x.1.0 x.1.1.0 x.1.1.1) (u, (n, (grant, base))) ((typed.0, is.0), ((omega (arith, is.1), within), ((typed.1, is.2), (typed.2, is.3))))
body-again version to (Lock u m) is within typed = whole-again (field-then (field-own to) field-mode) (λ (x : ObjectName × Mode). Lock x.0 x.1) (u, m) ((typed, is), tt)
body-again version to (Unlock u) is within typed = whole-again (field-own to) (λ (u : ObjectName). Unlock u) u (typed, is)
body-again version to (Remove u) is within typed = whole-again (field-own to) (λ (u : ObjectName). Remove u) u (typed, is)
body-again version to (Make kind room) is within typed = whole-again (field-then field-object (field-room (wire_room version))) (λ (x : ObjKind × ℕ). Make x.0 x.1) (kind, room) (tt, (omega (arith, is.1), (is.0, within)))
body-again version to (ListLocks after) is within typed = list-again after typed
body-again version to (Page stamp bytes) is within typed = whole-again (field-then field-count (field-whole version)) (λ (x : ℕ × List ℕ). Page x.0 x.1) (stamp, bytes) ((typed.0, is.0), record { len = is.1; small = typed.1 })
body-again version to (Stored stamp) is within typed = whole-again field-count (λ (n : ℕ). Stored n) stamp (typed, is)
body-again version to (Stale stamp) is within typed = whole-again field-count (λ (n : ℕ). Stale n) stamp (typed, is)
body-again version to NoGrant is within typed = rw nil-end refl
body-again version to NoObject is within typed = rw nil-end refl
body-again version to (Granted grant stamp kind room n) is within typed = whole-again (field-then field-count (field-then field-count (field-then field-object (field-then (field-room (wire_room version)) (field-length (wire_room version)))))) (λ (x : ℕ × (ℕ × (ObjKind × (ℕ × ℕ)))). Granted x.0 x.1.0 x.1.1.0 x.1.1.1.0 x.1.1.1.1) (grant, (stamp, (kind, (room, n)))) ((typed.0, is.0), ((typed.1, is.1), (tt, ((omega (arith, is.2.1), (is.2.0, within.0)), (omega (arith, is.3), within.1)))))
body-again version to (Conflict p m) is within typed = whole-again (field-then field-proc field-mode) (λ (x : ProcName × Mode). Conflict x.0 x.1) (p, m) (typed, tt)
body-again version to Done is within typed = rw nil-end refl
body-again version to (Made u) is within typed = whole-again field-uid (λ (u : ObjectName). Made u) u typed
body-again version to NoSpace is within typed = rw nil-end refl
body-again version to (Listed rows more) is within typed = listed-again version rows more is typed
