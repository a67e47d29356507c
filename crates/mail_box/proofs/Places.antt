-- Where messages stand: each in one page, each apart from the others of a ring and from the numbers.
use Rattle.std.proofs.Common.{◌≡◌, ◌≤◌, ◌<◌, ◌+◌, ◌*◌, ◌%◌, ◌⊎◌, ℕ, sym, arith}
use Rattle.uid_names.specs.declared.limits.TheConstants.{PAGE_BYTES}
use Rattle.mail_box.specs.Boxes.{place_of}
use Rattle.mail_box.specs.States.{IsOpened}
use Rattle.mail_box.specs.declared.mailing.Opened.{Opened}

-- behind the numbers, and within eight pages
pub place_low : (i : ℕ) → 1024 ≤ place_of i
place_low i = omega arith

ring : (i : ℕ) → i % 56 < 56
ring i = omega arith

pub place_high : (i : ℕ) → place_of i + 128 ≤ 8192
place_high i = within (i % 56) (ring i)
  where
    within : (k : ℕ) → k < 56 → 1024 + 128 * k + 128 ≤ 8192
    within k h = omega (arith, h)

-- a message lies in one page
in_page : (a k : ℕ) → a % 32768 ≡ 0 → (a + (1024 + 128 * k)) % 1024 + 128 ≤ 1024
in_page a k h = omega (arith, h)

pub message_in_page : (o : Opened) (i : ℕ) → IsOpened o → (o.address + place_of i) % PAGE_BYTES + 128 ≤ PAGE_BYTES
message_in_page o i h = in_page o.address (i % 56) h.at

-- two messages of which fewer than 56 numbers lie between stand apart
near : (k d : ℕ) → 1 ≤ d → d < 56 → (k + d) % 56 ≡ k % 56 → ⊥
near k d some few e = omega (arith, some, few, e)

apart : (a b : ℕ) → (a ≡ b → ⊥) → (1024 + 128 * a + 128 ≤ 1024 + 128 * b) ⊎ (1024 + 128 * b + 128 ≤ 1024 + 128 * a)
apart a b differ = grind (arith, differ)

pub places_apart : (k d : ℕ) → 1 ≤ d → d < 56 → (place_of k + 128 ≤ place_of (k + d)) ⊎ (place_of (k + d) + 128 ≤ place_of k)
places_apart k d some few = apart (k % 56) ((k + d) % 56) (λ e. near k d some few (sym e))
