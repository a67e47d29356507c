-- What a mailbox holds: its numbers, and the texts that were put and not taken, the first one first.
use Rattle.std.specs.Prelude.{◌≡◌, ◌≤◌, ◌<◌, ◌+◌, ◌-◌, ◌^◌, ℕ, Some, List, [], length, get_or}
use Rattle.uid_names.specs.Names.{ObjectName}
use Rattle.uid_names.specs.Openings.{Start}
use Rattle.dom_history.specs.StoreEffects.{StoreEffect}
use Rattle.dom_history.specs.Bytes.{bytes_from, length_of}
use Rattle.mail_box.specs.Boxes.{extent_of, first_head, head_of, place_of, text_in}
use Rattle.mail_box.specs.declared.boxes.Extent.{Extent}
use Rattle.mail_box.specs.declared.boxes.Extent.TheVariants.{Torn, Whole}
use Rattle.mail_box.specs.declared.boxes.Head.{Head}

module _ (opening : Start) (past : List StoreEffect) (u : ObjectName) where
  -- its numbers; nothing was counted before they were there
  abbrev pub numbers_by : Extent → Head
  numbers_by Whole = head_of (bytes_from opening past u 0 16)
  numbers_by extent = first_head

  abbrev pub numbers_of : Head
  numbers_of = numbers_by (extent_of (length_of opening past u))

  -- a message, by its number
  abbrev pub message_of : ℕ → List ℕ
  message_of i = bytes_from opening past u (place_of i) 128

  -- a message has this text
  pub record HasText (i : ℕ) (text : List ℕ) : Type 0 where
    pub reads : text_in (message_of i) ≡ Some text
    pub long : place_of i + 128 ≤ length_of opening past u

  -- it is a mailbox with these numbers, which holds these texts
  pub record Holds (h : Head) (texts : List (List ℕ)) : Type 0 where
    pub whole : extent_of (length_of opening past u) ≡ Torn → ⊥
    pub numbers : numbers_of ≡ h
    pub count : h.put ≡ h.taken + length texts
    pub few : length texts ≤ 56
    pub room : h.put < 2 ^ 64 - 1
    pub each : (i : ℕ) → i < length texts → HasText (h.taken + i) (get_or texts i [])
