-- How a number stands to the last one, as it was looked up.
use Rattle.std.proofs.Common.{◌≡◌, ℕ, ◌<◌, ◌==◌, nat_lt, arith}
use Rattle.std.proofs.lemmas.Bool.Decides.{nat_tests}
use Rattle.uid_names.proofs.ListLemmas.{by_cases}
use Rattle.call_once.specs.declared.served.Looked.TheVariants.{Fresh, Again, Old}
use Rattle.call_once.specs.Calls.{looked}

pub fresh-above : (number last : ℕ) → looked number last ≡ Fresh → last < number
fresh-above number last is =
    by_cases (nat_lt last number) (last < number) (λ h. grind (arith, nat_tests, h))
    (λ h. by_cases (number == last) (last < number) (λ k. absurd (let e : Again ≡ Fresh = rw (h, k) at is in cc)) (λ k. absurd (let e : Old ≡ Fresh = rw (h, k) at is in cc)))

pub again-same : (number last : ℕ) → looked number last ≡ Again → number ≡ last
again-same number last is =
    by_cases (nat_lt last number) (number ≡ last) (λ h. absurd (let e : Fresh ≡ Again = rw h at is in cc))
    (λ h. by_cases (number == last) (number ≡ last) (λ k. grind (arith, nat_tests, k)) (λ k. absurd (let e : Old ≡ Again = rw (h, k) at is in cc)))

pub old-below : (number last : ℕ) → looked number last ≡ Old → number < last
old-below number last is =
    by_cases (nat_lt last number) (number < last) (λ h. absurd (let e : Fresh ≡ Old = rw h at is in cc))
    (λ h. by_cases (number == last) (number < last) (λ k. absurd (let e : Again ≡ Old = rw (h, k) at is in cc)) (λ k. grind (arith, nat_tests, h, k)))
