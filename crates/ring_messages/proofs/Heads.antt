-- What bytes have where a header begins them.
use Rattle.std.proofs.Common.{◌≡◌, ℕ, ◌≤◌, List, [], ◌∷◌, ◌++◌, length, get_or, take, drop, refl, sym, ap, subst, ◌∙◌, append_assoc, arith}
use Rattle.std.proofs.lemmas.List.{take-append-drop, length-append, length-drop, take_at, drop_at}
use Rattle.byteorder.specs.Endian.{big_number}
use Rattle.uid_names.specs.FrameKinds.{kind_number}
use Rattle.ring_messages.specs.declared.frame.Head.{Head}
use Rattle.ring_messages.specs.Spelling.{be64, header}
use Rattle.ring_messages.specs.Spelled.{IsHead}
use Rattle.ring_messages.proofs.Fields.{IsBytes, IsBytes-rest, IsBytes-drop, length-be64, be64-back, be64-front}

-- the fields of a header, at their places
pub record Shows (h : Head) (bytes : List ℕ) : Type 0 where
  pub long : 24 ≤ length bytes
  pub version : get_or bytes 0 0 ≡ h.version
  pub kind : get_or bytes 1 0 ≡ kind_number h.kind
  pub from : get_or bytes 2 0 ≡ h.from
  pub to : get_or bytes 3 0 ≡ h.to
  pub proc : get_or bytes 4 0 ≡ h.proc
  pub fifth : get_or bytes 5 0 ≡ 0
  pub sixth : get_or bytes 6 0 ≡ 0
  pub seventh : get_or bytes 7 0 ≡ 0
  pub number : big_number 8 (drop 8 bytes) ≡ h.number
  pub tick : big_number 8 (drop 16 bytes) ≡ h.tick

pub length-header : (h : Head) → length (header h) ≡ 24
length-header h = omega (arith, length-append (be64 h.number) (be64 h.tick), length-be64 h.number, length-be64 h.tick)

shows-front : (h : Head) (rest : List ℕ) → IsHead h → Shows h (header h ++ rest)
shows-front h rest is = record {
  long = omega (arith, length-append (header h) rest, length-header h);
  version = refl;
  kind = refl;
  from = refl;
  to = refl;
  proc = refl;
  fifth = refl;
  sixth = refl;
  seventh = refl;
  number = ap (big_number 8) (append_assoc (be64 h.number) (be64 h.tick) rest) ∙ be64-back h.number (be64 h.tick ++ rest) is.number_high;
  tick = ap (λ (r : List ℕ). big_number 8 (drop 8 r)) (append_assoc (be64 h.number) (be64 h.tick) rest) ∙ ap (big_number 8) (drop_at (be64 h.number) (be64 h.tick ++ rest) 8 (length-be64 h.number)) ∙ be64-back h.tick rest is.tick_high;
}

pub shows : (h : Head) (bytes : List ℕ) → IsHead h → take 24 bytes ≡ header h → Shows h bytes
shows h bytes is e =
    let parts : header h ++ drop 24 bytes ≡ bytes = ap (λ (r : List ℕ). r ++ drop 24 bytes) (sym e) ∙ take-append-drop 24 bytes in
    subst (Shows h) parts (shows-front h (drop 24 bytes) is)

-- sixteen bytes are two numbers
two-numbers : (bytes : List ℕ) (m n : ℕ) → IsBytes bytes → 16 ≤ length bytes → big_number 8 bytes ≡ m → big_number 8 (drop 8 bytes) ≡ n → take 16 bytes ≡ be64 m ++ be64 n
two-numbers bytes m n small long first second =
    let rest = drop 8 bytes in
    let rest-small = IsBytes-drop 8 bytes small in
    let one : bytes ≡ be64 m ++ rest = rw (← first) (sym (be64-front bytes small (omega arith))) in
    let two : rest ≡ be64 n ++ drop 8 rest = rw (← second) (sym (be64-front rest rest-small (omega (arith, length-drop 8 bytes)))) in
    let whole : bytes ≡ (be64 m ++ be64 n) ++ drop 8 rest = one ∙ ap (λ (r : List ℕ). be64 m ++ r) two ∙ sym (append_assoc (be64 m) (be64 n) (drop 8 rest)) in
    ap (take 16) whole ∙ take_at (be64 m ++ be64 n) (drop 8 rest) 16 (omega (arith, length-append (be64 m) (be64 n), length-be64 m, length-be64 n))

-- bytes with these fields begin with the header
pub shown : (h : Head) (bytes : List ℕ) → IsBytes bytes → Shows h bytes → take 24 bytes ≡ header h
shown h (b0 ∷ b1 ∷ b2 ∷ b3 ∷ b4 ∷ b5 ∷ b6 ∷ b7 ∷ bytes) small fields =
    let numbers = two-numbers bytes h.number h.tick (IsBytes-rest (b0 ∷ b1 ∷ b2 ∷ b3 ∷ b4 ∷ b5 ∷ b6 ∷ b7 ∷ []) bytes small) (omega (arith, fields.long)) fields.number fields.tick in
    rw (fields.version, fields.kind, fields.from, fields.to, fields.proc, fields.fifth, fields.sixth, fields.seventh, numbers) refl
shown h _ small fields = absurd (omega (arith, fields.long))
