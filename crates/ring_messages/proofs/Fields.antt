-- A field that is read is the field that was written, and what was written is read again.
use Rattle.std.proofs.Common.{◌≡◌, ℕ, suc, ◌+◌, ◌^◌, ◌<◌, ◌≤◌, Bool, true, false, List, [], ◌∷◌, ◌++◌, length, get_or, take, drop, Option, Some, None, refl, sym, ap, subst, ◌∙◌, append_assoc, arith}
use Rattle.std.specs.Prelude.{if◌then◌else◌, nat_lt}
use Rattle.std.specs.Int.{w32, w64, from_be_bytes}
use Rattle.std.proofs.lemmas.Bool.{ltb-false, le-ltb}
use Rattle.std.proofs.lemmas.List.{drop_at, append-nil, nil_from_length, take-append-drop, length-append, length-take, get_or-drop, get_or-take, get_or_past}
use Rattle.std.proofs.lemmas.Bool.{cases_lt, eqb-true}
use Rattle.std.proofs.lemmas.Nat.{be_bytes_4, be_bytes_8}
use Rattle.std.proofs.Common.{inl, inr}
use Rattle.byteorder.specs.Endian.{big_number, big_bytes}
use Rattle.byteorder.specs.Numbers.{big_from-take, big_number-reads_back, big_from-lt}
use Rattle.ring_messages.specs.Spelling.{be32, be64}
use Rattle.uid_names.specs.Steps.{◌>>=◌}
use Rattle.uid_names.proofs.Somes.{bind-some}
use Rattle.ring_messages.specs.ReaderSteps.{◌then◌, passing, meaning, whole, end_at}
use Rattle.ring_messages.specs.ReaderFields.{byte_at, be32_at, be64_at}

abbrev pub IsBytes : List ℕ → Type 0
IsBytes bytes = (i : ℕ) → get_or bytes i 0 < 256

pub IsBytes-rest : (front rest : List ℕ) → IsBytes (front ++ rest) → IsBytes rest
IsBytes-rest [] rest h = h
IsBytes-rest (x ∷ front) rest h = IsBytes-rest front rest (λ i. h (suc i))

pub IsBytes-drop : (n : ℕ) (bytes : List ℕ) → IsBytes bytes → IsBytes (drop n bytes)
IsBytes-drop n bytes h i = rw get_or-drop (h (n + i))

pub IsBytes-take : (n : ℕ) (bytes : List ℕ) → IsBytes bytes → IsBytes (take n bytes)
IsBytes-take n bytes h i =
    elim (cases_lt i n) [
      | inl lt ↦ rw (get_or-take n bytes i 0 lt) (h i)
      | inr le ↦ rw (get_or_past (take n bytes) i 0 (omega (arith, length-take n bytes))) (omega arith)
    ]

pub if_some : {A : Type 0} (b : Bool) (x y : A) → (if b then Some x else None) ≡ Some y → (b ≡ true) × (x ≡ y)
if_some true x y e = (refl, cc)
if_some false x y e = absurd cc

pub unless_some : {A : Type 0} (b : Bool) (x y : A) → (if b then None else Some x) ≡ Some y → (b ≡ false) × (x ≡ y)
unless_some true x y e = absurd cc
unless_some false x y e = (refl, cc)

abbrev some : {A : Type 0} → A → Option A
some x = Some x

pub some_is : {A : Type 0} (x y : A) → some x ≡ some y → x ≡ y
some_is x y e = cc

-- a field: how its values are written, which values it has, and how it is read
pub record IsField {A : Type 0} (spell : A → List ℕ) (Fits : A → Type 0) (at : List ℕ → Option (A × List ℕ)) : Type 0 where
  pub again : (a : A) (rest : List ℕ) → Fits a → at (spell a ++ rest) ≡ Some (a, rest)
  pub takes : (bytes : List ℕ) (x : A × List ℕ) → IsBytes bytes → at bytes ≡ Some x → (bytes ≡ spell x.0 ++ x.1) × Fits x.0

-- one field and then another
pub field-then : {A B : Type 0} {s : A → List ℕ} {P : A → Type 0} {f : List ℕ → Option (A × List ℕ)} {t : B → List ℕ} {Q : B → Type 0} {g : List ℕ → Option (B × List ℕ)}
    → IsField s P f → IsField t Q g → IsField (λ (x : A × B). s x.0 ++ t x.1) (λ (x : A × B). P x.0 × Q x.1) (f then g)
field-then {A} {B} {s} {P} {f} {t} {Q} {g} one two = record {
  again = λ x rest fits. ap (f then g) (append_assoc (s x.0) (t x.1) rest) ∙ rw (one.again x.0 (t x.1 ++ rest) fits.0) (rw (two.again x.1 rest fits.1) refl);
  takes = λ bytes x small e.
      let a = bind-some (f bytes) (λ a. g a.1 >>= λ b. Some ((a.0, b.0), b.1)) x e in
      let b = bind-some (g a.0.1) (λ b. Some ((a.0.0, b.0), b.1)) x a.2 in
      let first = one.takes bytes a.0 small a.1 in
      let rest : IsBytes a.0.1 = IsBytes-rest (s a.0.0) a.0.1 (subst IsBytes first.0 small) in
      let second = two.takes a.0.1 b.0 rest b.1 in
      let made : (A × B) × List ℕ = ((a.0.0, b.0.0), b.0.1) in
      let parts : bytes ≡ (s a.0.0 ++ t b.0.0) ++ b.0.1 = first.0 ∙ ap (λ (r : List ℕ). s a.0.0 ++ r) second.0 ∙ sym (append_assoc (s a.0.0) (t b.0.0) b.0.1) in
      subst (λ (y : (A × B) × List ℕ). (bytes ≡ (s y.0.0 ++ t y.0.1) ++ y.1) × (P y.0.0 × Q y.0.1)) (some_is made x b.2) (parts, (first.1, second.1));
}

-- a field whose values pass a test
pub field-passing : {A : Type 0} {s : A → List ℕ} {P : A → Type 0} {f : List ℕ → Option (A × List ℕ)} (test : A → Bool) (T : A → Type 0)
    → ((a : A) → T a → test a ≡ true) → ((a : A) → test a ≡ true → T a)
    → IsField s P f → IsField s (λ (a : A). P a × T a) (λ bytes. f bytes >>= passing test)
field-passing {A} {s} {P} {f} test T passes passed one = record {
  again = λ a rest fits. rw (one.again a rest fits.0) (rw (passes a fits.1) refl);
  takes = λ bytes x small e.
      let a = bind-some (f bytes) (passing test) x e in
      let c = if_some (test a.0.0) a.0 x a.2 in
      let first = one.takes bytes a.0 small a.1 in
      subst (λ (y : A × List ℕ). (bytes ≡ s y.0 ++ y.1) × (P y.0 × T y.0)) c.1 (first.0, (first.1, passed a.0.0 c.0));
}

-- a field whose values mean something
pub field-meaning : {A B : Type 0} {s : A → List ℕ} {P : A → Type 0} {f : List ℕ → Option (A × List ℕ)} (read : A → Option B) (back : B → A) (Q : B → Type 0)
    → ((b : B) → Q b → P (back b) × (read (back b) ≡ Some b)) → ((a : A) (b : B) → P a → read a ≡ Some b → (a ≡ back b) × Q b)
    → IsField s P f → IsField (λ (b : B). s (back b)) Q (λ bytes. f bytes >>= meaning read)
field-meaning {A} {B} {s} {P} {f} read back Q means meant one = record {
  again = λ b rest fits. let m = means b fits in rw (one.again (back b) rest m.0) (rw m.1 refl);
  takes = λ bytes x small e.
      let a = bind-some (f bytes) (meaning read) x e in
      let b = bind-some (read a.0.0) (λ b. Some (b, a.0.1)) x a.2 in
      let first = one.takes bytes a.0 small a.1 in
      let m = meant a.0.0 b.0 first.1 b.1 in
      let made : B × List ℕ = (b.0, a.0.1) in
      subst (λ (y : B × List ℕ). (bytes ≡ s (back y.0) ++ y.1) × Q y.0) (some_is made x b.2) (first.0 ∙ ap (λ (v : A). s v ++ a.0.1) m.0, m.1);
}

-- nothing behind a field
pub end-nil : (bytes : List ℕ) (u : Unit {0}) → end_at bytes ≡ Some u → bytes ≡ []
unfolding end_at
end-nil bytes u e = nil_from_length bytes (eqb-true _ _ (if_some _ tt u e).0)

pub nil-end : end_at [] ≡ Some tt
unfolding end_at
nil-end = refl

pub whole-again : {A B : Type 0} {s : A → List ℕ} {P : A → Type 0} {f : List ℕ → Option (A × List ℕ)} → IsField s P f → (make : A → B) (a : A) → P a → whole f make (s a) ≡ Some (make a)
whole-again {A} {B} {s} {P} {f} one make a fits =
    ap (whole f make) (sym (append-nil (s a))) ∙ rw (one.again a [] fits) (rw nil-end refl)

pub whole-takes : {A B : Type 0} {s : A → List ℕ} {P : A → Type 0} {f : List ℕ → Option (A × List ℕ)} → IsField s P f → (make : A → B) (bytes : List ℕ) (b : B) → IsBytes bytes → whole f make bytes ≡ Some b → (a : A) × (make a ≡ b) × (bytes ≡ s a) × P a
whole-takes {A} {B} {s} {P} {f} one make bytes b small e =
    let a = bind-some (f bytes) (λ a. end_at a.1 >>= λ _. Some (make a.0)) b e in
    let u = bind-some (end_at a.0.1) (λ _. Some (make a.0.0)) b a.2 in
    let first = one.takes bytes a.0 small a.1 in
    (a.0.0, some_is (make a.0.0) b u.2, first.0 ∙ ap (λ (r : List ℕ). s a.0.0 ++ r) (end-nil a.0.1 u.0 u.1) ∙ append-nil (s a.0.0), first.1)

-- ---- numbers and bytes

byte-takes : (bytes : List ℕ) (x : ℕ × List ℕ) → IsBytes bytes → byte_at bytes ≡ Some x → (bytes ≡ (x.0 ∷ []) ++ x.1) × (x.0 < 256)
unfolding byte_at
byte-takes [] x small e = absurd cc
byte-takes (b ∷ rest) x small e =
    let made : ℕ × List ℕ = (b, rest) in
    subst (λ (y : ℕ × List ℕ). (b ∷ rest ≡ (y.0 ∷ []) ++ y.1) × (y.0 < 256)) (some_is made x e) (refl, small 0)

pub field-byte : IsField (λ (b : ℕ). b ∷ []) (λ b. b < 256) byte_at
unfolding byte_at
field-byte = record { again = λ a rest fits. refl; takes = byte-takes }

big_bytes-8 : (bytes : List ℕ) → IsBytes bytes → 8 ≤ length bytes → big_bytes 8 (big_number 8 bytes) ++ drop 8 bytes ≡ bytes
big_bytes-8 bytes small long =
    let front = take 8 bytes in
    let number : big_number 8 bytes ≡ from_be_bytes w64 front = sym (big_from-take 0 8 8 bytes (omega arith)) ∙ omega arith in
    let back : big_bytes 8 (big_number 8 bytes) ≡ front = be_bytes_8 front (big_number 8 bytes) (omega (arith, length-take 8 bytes)) (IsBytes-take 8 bytes small) number in
    ap (λ (r : List ℕ). r ++ drop 8 bytes) back ∙ take-append-drop 8 bytes

big_bytes-4 : (bytes : List ℕ) → IsBytes bytes → 4 ≤ length bytes → big_bytes 4 (big_number 4 bytes) ++ drop 4 bytes ≡ bytes
big_bytes-4 bytes small long =
    let front = take 4 bytes in
    let number : big_number 4 bytes ≡ from_be_bytes w32 front = sym (big_from-take 0 4 4 bytes (omega arith)) ∙ omega arith in
    let back : big_bytes 4 (big_number 4 bytes) ≡ front = be_bytes_4 front (big_number 4 bytes) (omega (arith, length-take 4 bytes)) (IsBytes-take 4 bytes small) number in
    ap (λ (r : List ℕ). r ++ drop 4 bytes) back ∙ take-append-drop 4 bytes

pub length-be64 : (n : ℕ) → length (be64 n) ≡ 8
unfolding be64
length-be64 n = refl

pub length-be32 : (n : ℕ) → length (be32 n) ≡ 4
unfolding be32
length-be32 n = refl

-- a number that was written begins the bytes
pub be64-back : (n : ℕ) (rest : List ℕ) → n < 2 ^ 64 → big_number 8 (be64 n ++ rest) ≡ n
unfolding be64
be64-back n rest small = big_number-reads_back 8 n rest small

pub be64-front : (bytes : List ℕ) → IsBytes bytes → 8 ≤ length bytes → be64 (big_number 8 bytes) ++ drop 8 bytes ≡ bytes
unfolding be64
be64-front bytes small long = big_bytes-8 bytes small long

be64-again : (n : ℕ) (rest : List ℕ) → n < 2 ^ 64 → be64_at (be64 n ++ rest) ≡ Some (n, rest)
unfolding be64_at
be64-again n rest small =
    let long : nat_lt (length (be64 n ++ rest)) 8 ≡ false = le-ltb _ _ (omega (arith, length-append (be64 n) rest, length-be64 n)) in
    rw (long, be64-back n rest small, drop_at (be64 n) rest 8 (length-be64 n)) refl

be64-takes : (bytes : List ℕ) (x : ℕ × List ℕ) → IsBytes bytes → be64_at bytes ≡ Some x → (bytes ≡ be64 x.0 ++ x.1) × (x.0 < 2 ^ 64)
unfolding be64_at
be64-takes bytes x small e =
    let read : ℕ × List ℕ = (big_number 8 bytes, drop 8 bytes) in
    let g = unless_some (nat_lt (length bytes) 8) read x e in
    let long : 8 ≤ length bytes = ltb-false _ _ g.0 in
    subst (λ (y : ℕ × List ℕ). (bytes ≡ be64 y.0 ++ y.1) × (y.0 < 2 ^ 64)) g.1 (sym (be64-front bytes small long), big_from-lt 0 8 bytes small)

pub field-be64 : IsField be64 (λ n. n < 2 ^ 64) be64_at
field-be64 = record { again = be64-again; takes = be64-takes }

be32-again : (n : ℕ) (rest : List ℕ) → n < 2 ^ 32 → be32_at (be32 n ++ rest) ≡ Some (n, rest)
unfolding be32_at be32
be32-again n rest small =
    let back : big_number 4 (big_bytes 4 n ++ rest) ≡ n = big_number-reads_back 4 n rest small in
    let long : nat_lt (length (big_bytes 4 n ++ rest)) 4 ≡ false = le-ltb _ _ (omega (arith, length-append (big_bytes 4 n) rest)) in
    rw (long, back) refl

be32-takes : (bytes : List ℕ) (x : ℕ × List ℕ) → IsBytes bytes → be32_at bytes ≡ Some x → (bytes ≡ be32 x.0 ++ x.1) × (x.0 < 2 ^ 32)
unfolding be32_at be32
be32-takes bytes x small e =
    let read : ℕ × List ℕ = (big_number 4 bytes, drop 4 bytes) in
    let g = unless_some (nat_lt (length bytes) 4) read x e in
    let long : 4 ≤ length bytes = ltb-false _ _ g.0 in
    subst (λ (y : ℕ × List ℕ). (bytes ≡ big_bytes 4 y.0 ++ y.1) × (y.0 < 2 ^ 32)) g.1 (sym (big_bytes-4 bytes small long), big_from-lt 0 4 bytes small)

pub field-be32 : IsField be32 (λ n. n < 2 ^ 32) be32_at
field-be32 = record { again = be32-again; takes = be32-takes }
