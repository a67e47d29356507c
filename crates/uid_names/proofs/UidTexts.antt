-- The text of a name gives the name back.
use Rattle.std.proofs.Common.{◌≡◌, ℕ, zero, suc, ◌<◌, ◌^◌, List, refl, ap, sym, ◌∙◌, arith, Result, Ok}
use Rattle.std.specs.Prelude.{MatchResult, Err}
use Rattle.std.specs.Int.{w64, to_be_bytes, from_be_bytes, byte_at, bytes_high_first}
use Rattle.std.proofs.lemmas.Nat.{mod_below, from_be_bytes-to_be_bytes_8}
use Rattle.hex.specs.declared.error.FromHexError.{FromHexError}
use Rattle.hex.specs.Hex.{decode_sized, IsBytes}
use Rattle.hex.proofs.HexLemmas.{decode_sized-encode_lower}
use Rattle.uid_names.specs.Names.{ObjectName, IsName, number_of}
use Rattle.uid_names.specs.Texts.{text_of}

byte_at-small : (i n : ℕ) → byte_at i n < 256
byte_at-small zero n = mod_below n 256 (omega arith)
byte_at-small (suc i) n = mod_below _ 256 (omega arith)

bytes_high_first-small : (k n : ℕ) → IsBytes (bytes_high_first k n)
bytes_high_first-small zero n i = omega arith
bytes_high_first-small (suc k) n zero = byte_at-small k n
bytes_high_first-small (suc k) n (suc i) = bytes_high_first-small k n i

pub number_of-small : (u : ObjectName) → IsName u → number_of u < 2 ^ 64
number_of-small u name = omega (arith, name.counter_high, name.home_high)

-- what the decoding of a name's text leaves is the name's number
pub decoded-text_of : (text out : List ℕ) (r : Result Unit FromHexError) (u : ObjectName) → IsName u → text ≡ text_of u
    → MatchResult (decode_sized text 8) (λ bytes. (r ≡ Ok tt) × (out ≡ bytes)) (λ e. r ≡ Err e)
    → (r ≡ Ok tt) × (from_be_bytes w64 out ≡ number_of u)
decoded-text_of text out r u name same h =
    let bytes = to_be_bytes w64 (number_of u) in
    let decodes : decode_sized text 8 ≡ Ok bytes = rw same (decode_sized-encode_lower bytes 8 refl (bytes_high_first-small 8 (number_of u))) in
    let both : (r ≡ Ok tt) × (out ≡ bytes) = rw decodes at h in
    (both.0, ap (from_be_bytes w64) both.1 ∙ from_be_bytes-to_be_bytes_8 (number_of u) (number_of-small u name))

pub text_of-injective : (u v : ObjectName) → IsName u → IsName v → text_of u ≡ text_of v → number_of u ≡ number_of v
text_of-injective u v nu nv same =
    let bytes = to_be_bytes w64 (number_of u) in
    let r : Result Unit FromHexError = Ok tt in
    let decodes : decode_sized (text_of u) 8 ≡ Ok bytes = decode_sized-encode_lower bytes 8 refl (bytes_high_first-small 8 (number_of u)) in
    let given : MatchResult (decode_sized (text_of u) 8) (λ bs. (r ≡ Ok tt) × (bytes ≡ bs)) (λ e. r ≡ Err e) = rw decodes (refl, refl) in
    sym (from_be_bytes-to_be_bytes_8 (number_of u) (number_of-small u nu)) ∙ (decoded-text_of (text_of u) bytes r v nv same given).1

-- two numbers are equal only where counter and home are
pub number_of-injective : (u v : ObjectName) → IsName u → IsName v → number_of u ≡ number_of v → u ≡ v
number_of-injective u v nu nv same =
    let homes : u.home ≡ v.home = omega (arith, nu.home_high, nv.home_high) in
    let counters : u.counter ≡ v.counter = omega (arith, nu.home_high, nv.home_high) in
    ap (λ c. record { counter = c; home = u.home }) counters ∙ ap (λ h. record { counter = v.counter; home = h }) homes
