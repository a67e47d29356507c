-- Which bytes are bad.
use Rattle.std.proofs.Common.{◌≡◌, ℕ, Bool, true, false, None, List, take, refl, arith}
use Rattle.std.specs.Prelude.{◌&&◌, ◌↔◌, nat_le}
use Rattle.std.specs.Int.{w16, from_be_bytes}
use Rattle.std.proofs.lemmas.Bool.Decides.{nat_tests}
use Rattle.mail_box.specs.Boxes.{is_bad_head, text_if, text_in}
use Rattle.mail_box.specs.Queues.{IsGood}
use Rattle.mail_box.specs.declared.boxes.Head.{Head}

pub bad_numbers : (h : Head) → (is_bad_head h ≡ false) ↔ IsGood h
bad_numbers h = (
  λ e. record { order = grind (arith, nat_tests, e); room = λ same. absurd (grind (arith, nat_tests, e, same)); few = grind (arith, nat_tests, e) },
  λ good. grind (arith, nat_tests, good.order, good.room, good.few),
)

none_by : (t : Bool) (n : ℕ) (rest : List ℕ) → (text_if t n rest ≡ None) ↔ (t ≡ false)
none_by true n rest = (λ e. absurd (grind (arith, e)), λ e. absurd (grind (arith, e)))
none_by false n rest = (λ e. refl, λ e. refl)

pub bad_message : (bytes : List ℕ) → (text_in bytes ≡ None) ↔ ((nat_le 1 (from_be_bytes w16 (take 2 bytes)) && nat_le (from_be_bytes w16 (take 2 bytes)) 120) ≡ false)
bad_message bytes = none_by _ _ _
