-- What is written of the numbers and of a message is read again.
use Rattle.std.proofs.Common.{◌≡◌, ◌≤◌, ◌<◌, ◌+◌, ◌-◌, ◌^◌, ℕ, suc, true, Some, List, ◌++◌, length, take, replicate, refl, ap, ◌∙◌, arith}
use Rattle.std.specs.Prelude.{nat_le, ◌&&◌, Bool}
use Rattle.std.specs.Int.{w64, to_be_bytes, from_be_bytes}
use Rattle.std.proofs.lemmas.Bool.{and_from}
use Rattle.std.proofs.lemmas.List.{length-append, length-replicate, take-replicate}
use Rattle.std.proofs.lemmas.Nat.{from_be_bytes-to_be_bytes_2, from_be_bytes-to_be_bytes_8}
use Rattle.std.proofs.Math.Seq.{take-append_seam}
use Rattle.uid_names.proofs.Passed.{le-passes}
use Rattle.mail_box.specs.declared.boxes.Head.{Head}
use Rattle.mail_box.specs.declared.boxes.TheConstants.{TEXT_BYTES}
use Rattle.mail_box.specs.Boxes.{head_bytes, head_of, head_with, message_bytes, text_behind, text_if, text_in, IsText}

-- as many zeros as are cut off
pub zeros_cut : (n : ℕ) → n ≤ 126 → take n (replicate {A = ℕ} 126 0) ≡ replicate {A = ℕ} n 0
zeros_cut n h = take-replicate n 126 0 h

-- numbers that are written are read again
pub numbers_read : (h : Head) → h.put < 2 ^ 64 → h.taken < 2 ^ 64 → head_of (head_bytes h) ≡ h
numbers_read h put taken =
    ap (λ (n : ℕ). head_with n (from_be_bytes w64 (to_be_bytes w64 h.taken))) (from_be_bytes-to_be_bytes_8 h.put put)
    ∙ ap (λ (n : ℕ). head_with h.put n) (from_be_bytes-to_be_bytes_8 h.taken taken)

-- and are 16 bytes
pub numbers_size : (h : Head) → length (head_bytes h) ≡ 16
numbers_size h = refl

-- so is a text
text_small : (text : List ℕ) → IsText text → length text < 2 ^ 16
text_small text h = omega (arith, h.few)

text_test : (text : List ℕ) → IsText text → (nat_le 1 (length text) && nat_le (length text) TEXT_BYTES) ≡ true
text_test text h = and_from (nat_le 1 (length text)) (nat_le (length text) TEXT_BYTES) (le-passes 1 (length text) h.some) (le-passes (length text) TEXT_BYTES h.few)

pub text_read : (text : List ℕ) → IsText text → text_in (message_bytes text) ≡ Some text
text_read text h =
    let rest = text ++ replicate (126 - length text) 0 in
    ap (λ (n : ℕ). text_behind n rest) (from_be_bytes-to_be_bytes_2 (length text) (text_small text h))
    ∙ ap (λ (t : Bool). text_if t (length text) rest) (text_test text h)
    ∙ ap Some (take-append_seam text (replicate (126 - length text) 0))

-- and a message is 128 bytes
pub message_size : (text : List ℕ) → IsText text → length (message_bytes text) ≡ 128
message_size text h =
    let back : length (text ++ replicate (126 - length text) 0) ≡ length text + (126 - length text) =
    length-append text (replicate (126 - length text) 0) ∙ ap (λ (n : ℕ). length text + n) (length-replicate (126 - length text) 0) in
    ap (λ (n : ℕ). suc (suc n)) back ∙ whole (length text) h.few
  where
    whole : (n : ℕ) → n ≤ 120 → suc (suc (n + (126 - n))) ≡ 128
    whole n few = omega (arith, few)
