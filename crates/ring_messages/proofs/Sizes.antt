-- How many bytes a frame has.
use Rattle.std.proofs.Common.{◌≡◌, ℕ, ◌+◌, ◌*◌, ◌≤◌, Bool, true, false, List, [], ◌∷◌, ◌++◌, length, get_or, Option, Some, None, refl, sym, ap, ◌∙◌, append_assoc, arith}
use Rattle.std.specs.Prelude.{◌==◌}
use Rattle.std.specs.List.{flat_map}
use Rattle.std.proofs.lemmas.List.{append-nil, length-append, nil_from_length, get_or-append-add}
use Rattle.std.proofs.lemmas.List.Concat.{flat_map-cons}
use Rattle.uid_names.specs.Names.{ProcName, ObjectName, number_of}
use Rattle.uid_names.specs.Modes.{mode_code}
use Rattle.uid_names.specs.declared.lock_row.LockRow.{LockRow}
use Rattle.uid_names.specs.declared.frame_kind.FrameKind.{FrameKind}
use Rattle.uid_names.specs.declared.frame_kind.FrameKind.TheVariants as kinds
use Rattle.ring_messages.specs.declared.body.Body.{Body}
use Rattle.ring_messages.specs.declared.body.Body.TheVariants.{PageIn, PageOut, AttrOut, Lock, Unlock, Remove, Make, List as ListLocks, Page, Stored, Stale, NoGrant, NoObject, Granted, Conflict, Done, Made, NoSpace, Listed}
use Rattle.ring_messages.specs.Bodies.{kind_of}
use Rattle.uid_names.specs.declared.limits.TheConstants.{PAGE_BYTES}
use Rattle.ring_messages.specs.Ranges.{IsBody, IsWhole}
use Rattle.ring_messages.specs.BlankPages.{is_blank}
use Rattle.ring_messages.specs.Spelling.{be32, be64, uid_bytes, proc_bytes, row_bytes, after_bytes, formed, page_by, page_bytes, body_bytes}
use Rattle.ring_messages.specs.Sizes.{formed_size, page_size_by, page_size, body_size}
use Rattle.ring_messages.proofs.Fields.{length-be32, length-be64}

length-rows : (rows : List LockRow) → length (flat_map row_bytes rows) ≡ 11 * length rows
length-rows [] = refl
length-rows (row ∷ rows) =
    let one : length (row_bytes row) ≡ 11 = omega (arith, length-append (be64 (number_of row.uid)) (row.proc.node ∷ row.proc.number ∷ mode_code row.mode ∷ []), length-be64 (number_of row.uid)) in
    ap length (flat_map-cons row_bytes row rows) ∙ omega (arith, length-append (row_bytes row) (flat_map row_bytes rows), length-rows rows)

length-after : (after : Option (ObjectName × ProcName)) → length (after_bytes after) ≡ 11
length-after None = refl
length-after (Some (u, p)) = omega (arith, length-append (be64 (number_of u)) (proc_bytes p), length-be64 (number_of u))

length-formed : (b : Bool) (bytes : List ℕ) → IsWhole bytes → length (formed b bytes) ≡ formed_size b
length-formed true bytes whole = refl
length-formed false bytes whole = omega (arith, whole)

pub length-page : (version : ℕ) (bytes : List ℕ) → IsWhole bytes → length (page_bytes version bytes) ≡ page_size version bytes
length-page version bytes whole = by (version == 1)
  where
    by : (b : Bool) → length (page_by b bytes) ≡ page_size_by b bytes
    by true = whole
    by false = length-formed (is_blank bytes) bytes whole

pub length-body : (version to : ℕ) (b : Body) → IsBody to b → length (body_bytes version b) ≡ body_size version b
length-body version to (PageIn u page) is = simp (length-append, length-be64, length-be32)
length-body version to (PageOut u page grant base bytes) is =
    let p = page_bytes version bytes in
    omega (
      arith,
      length-append (uid_bytes u) (be32 page ++ (be64 grant ++ (be64 base ++ p))),
      length-append (be32 page) (be64 grant ++ (be64 base ++ p)),
      length-append (be64 grant) (be64 base ++ p),
      length-append (be64 base) p,
      length-be64 (number_of u),
      length-be32 page,
      length-be64 grant,
      length-be64 base,
      length-page version bytes is.4,
    )
length-body version to (AttrOut u n grant base) is = simp (length-append, length-be64, length-be32)
length-body version to (Lock u m) is = simp (length-append, length-be64)
length-body version to (Unlock u) is = simp length-be64
length-body version to (Remove u) is = simp length-be64
length-body version to (Make kind room) is = simp length-be32
length-body version to (ListLocks after) is = length-after after
length-body version to (Page stamp bytes) is = simp (length-append, length-be64, length-page version bytes is.1)
length-body version to (Stored stamp) is = simp length-be64
length-body version to (Stale stamp) is = simp length-be64
length-body version to NoGrant is = refl
length-body version to NoObject is = refl
length-body version to (Granted grant stamp kind room n) is = simp (length-append, length-be64, length-be32)
length-body version to (Conflict p m) is = refl
length-body version to Done is = refl
length-body version to (Made u) is = simp length-be64
length-body version to NoSpace is = refl
length-body version to (Listed rows more) is = omega (arith, length-rows rows)

-- the most that a page takes, in version 1 or not
abbrev pub most_size : Bool → ℕ
most_size true = PAGE_BYTES
most_size false = 1 + PAGE_BYTES

most-least : (b : Bool) → PAGE_BYTES ≤ most_size b
most-least true = omega arith
most-least false = omega arith

pub most-most : (b : Bool) → most_size b ≤ 1 + PAGE_BYTES
most-most true = omega arith
most-most false = omega arith

formed-most : (b : Bool) → formed_size b ≤ 1 + PAGE_BYTES
formed-most true = omega arith
formed-most false = omega arith

page-most : (version : ℕ) (bytes : List ℕ) → page_size version bytes ≤ most_size (version == 1)
page-most version bytes = by (version == 1)
  where
    by : (b : Bool) → page_size_by b bytes ≤ most_size b
    by true = omega arith
    by false = formed-most (is_blank bytes)

pub size-bound : (version to : ℕ) (b : Body) → IsBody to b → body_size version b ≤ 28 + most_size (version == 1)
size-bound version to (PageIn u page) is = omega (arith, most-least (version == 1))
size-bound version to (PageOut u page grant base bytes) is = omega (arith, page-most version bytes)
size-bound version to (AttrOut u n grant base) is = omega (arith, most-least (version == 1))
size-bound version to (Lock u m) is = omega (arith, most-least (version == 1))
size-bound version to (Unlock u) is = omega (arith, most-least (version == 1))
size-bound version to (Remove u) is = omega (arith, most-least (version == 1))
size-bound version to (Make kind room) is = omega (arith, most-least (version == 1))
size-bound version to (ListLocks after) is = omega (arith, most-least (version == 1))
size-bound version to (Page stamp bytes) is = omega (arith, page-most version bytes)
size-bound version to (Stored stamp) is = omega (arith, most-least (version == 1))
size-bound version to (Stale stamp) is = omega (arith, most-least (version == 1))
size-bound version to NoGrant is = omega (arith, most-least (version == 1))
size-bound version to NoObject is = omega (arith, most-least (version == 1))
size-bound version to (Granted grant stamp kind room n) is = omega (arith, most-least (version == 1))
size-bound version to (Conflict p m) is = omega (arith, most-least (version == 1))
size-bound version to Done is = omega (arith, most-least (version == 1))
size-bound version to (Made u) is = omega (arith, most-least (version == 1))
size-bound version to NoSpace is = omega (arith, most-least (version == 1))
size-bound version to (Listed rows more) is = omega (arith, is.0, most-least (version == 1))

-- the size of a page, by version 1 or not and the byte where its form would be
size_from : Bool → ℕ → ℕ
size_from true form = PAGE_BYTES
size_from false form = formed_size (form == 0)

-- the size by the version, the kind and the bytes: for a page its form, for rows the first byte
size_of : ℕ → FrameKind → List ℕ → ℕ
size_of version kinds.PageIn bytes = 12
size_of version kinds.PageOut bytes = 28 + size_from (version == 1) (get_or bytes 28 0)
size_of version kinds.AttrOut bytes = 28
size_of version kinds.Lock bytes = 9
size_of version kinds.Unlock bytes = 8
size_of version kinds.Remove bytes = 8
size_of version kinds.Make bytes = 5
size_of version kinds.List bytes = 11
size_of version kinds.Page bytes = 8 + size_from (version == 1) (get_or bytes 8 0)
size_of version kinds.Stored bytes = 8
size_of version kinds.Stale bytes = 8
size_of version kinds.NoGrant bytes = 0
size_of version kinds.NoObject bytes = 0
size_of version kinds.Granted bytes = 25
size_of version kinds.Conflict bytes = 3
size_of version kinds.Done bytes = 0
size_of version kinds.Made bytes = 8
size_of version kinds.NoSpace bytes = 0
size_of version kinds.Listed bytes = 2 + 11 * get_or bytes 0 0

-- a page behind so many bytes
form-size : (version n : ℕ) (front bytes rest : List ℕ) → length front ≡ n → size_from (version == 1) (get_or (front ++ (page_bytes version bytes ++ rest)) n 0) ≡ page_size version bytes
unfolding size_from
form-size version n front bytes rest long =
    ap (λ (m : ℕ). size_from (version == 1) (get_or (front ++ (page_bytes version bytes ++ rest)) m 0)) (let e : n ≡ length front + 0 = omega (arith, long) in e)
    ∙ ap (size_from (version == 1)) (get_or-append-add front (page_bytes version bytes ++ rest) 0 0)
    ∙ by (version == 1)
  where
    of_form : (b : Bool) → formed_size (get_or (formed b bytes ++ rest) 0 0 == 0) ≡ formed_size b
    of_form true = refl
    of_form false = refl

    by : (b : Bool) → size_from b (get_or (page_by b bytes ++ rest) 0 0) ≡ page_size_by b bytes
    by true = refl
    by false = of_form (is_blank bytes)

-- bytes that follow a body are its size or change nothing of it
size-of : (version : ℕ) (b : Body) (rest : List ℕ) → size_of version (kind_of b) (body_bytes version b ++ rest) ≡ body_size version b
unfolding size_of
size-of version (PageIn u page) rest = refl
size-of version (PageOut u page grant base bytes) rest =
    let front = uid_bytes u ++ (be32 page ++ (be64 grant ++ be64 base)) in
    let long : length front ≡ 28 = simp (length-append, length-be64, length-be32) in
    let parts : body_bytes version (PageOut u page grant base bytes) ++ rest ≡ front ++ (page_bytes version bytes ++ rest) = regroup (uid_bytes u) (be32 page) (be64 grant) (be64 base) (page_bytes version bytes) rest in
    ap (λ (r : List ℕ). 28 + size_from (version == 1) (get_or r 28 0)) parts ∙ ap (λ (n : ℕ). 28 + n) (form-size version 28 front bytes rest long)
  where
    regroup : (a b c d page rest : List ℕ) → (a ++ (b ++ (c ++ (d ++ page)))) ++ rest ≡ (a ++ (b ++ (c ++ d))) ++ (page ++ rest)
    regroup a b c d page rest =
        append_assoc a (b ++ (c ++ (d ++ page))) rest ∙ ap (λ (r : List ℕ). a ++ r)
        (append_assoc b (c ++ (d ++ page)) rest ∙ ap (λ (r : List ℕ). b ++ r) (append_assoc c (d ++ page) rest ∙ ap (λ (r : List ℕ). c ++ r) (append_assoc d page rest) ∙ sym (append_assoc c d (page ++ rest))) ∙ sym (append_assoc b (c ++ d) (page ++ rest)))
        ∙ sym (append_assoc a (b ++ (c ++ d)) (page ++ rest))
size-of version (AttrOut u n grant base) rest = refl
size-of version (Lock u m) rest = refl
size-of version (Unlock u) rest = refl
size-of version (Remove u) rest = refl
size-of version (Make kind room) rest = refl
size-of version (ListLocks after) rest = refl
size-of version (Page stamp bytes) rest =
    ap (λ (r : List ℕ). 8 + size_from (version == 1) (get_or r 8 0)) (append_assoc (be64 stamp) (page_bytes version bytes) rest)
    ∙ ap (λ (n : ℕ). 8 + n) (form-size version 8 (be64 stamp) bytes rest (length-be64 stamp))
size-of version (Stored stamp) rest = refl
size-of version (Stale stamp) rest = refl
size-of version NoGrant rest = refl
size-of version NoObject rest = refl
size-of version (Granted grant stamp kind room n) rest = refl
size-of version (Conflict p m) rest = refl
size-of version Done rest = refl
size-of version (Made u) rest = refl
size-of version NoSpace rest = refl
size-of version (Listed rows more) rest = refl

-- no body begins another of its kind
pub body-prefix : (version to : ℕ) (b c : Body) (rest : List ℕ) → IsBody to b → IsBody to c → kind_of b ≡ kind_of c → body_bytes version c ≡ body_bytes version b ++ rest → rest ≡ []
body-prefix version to b c rest is_b is_c same_kind e =
    let nothing : body_bytes version c ++ [] ≡ body_bytes version b ++ rest = append-nil (body_bytes version c) ∙ e in
    let same : body_size version b ≡ body_size version c =
    sym (size-of version b rest) ∙ ap (λ (k : FrameKind). size_of version k (body_bytes version b ++ rest)) same_kind ∙ ap (size_of version (kind_of c)) (sym nothing) ∙ size-of version c [] in
    nil_from_length rest (omega (arith, length-append (body_bytes version b) rest, ap length e, length-body version to b is_b, length-body version to c is_c))
