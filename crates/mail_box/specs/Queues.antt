-- What the stores of machines make of a mailbox, over one store: a text is put behind the others, or the first is taken.
use Rattle.std.specs.Prelude.{◌≡◌, ◌≢◌, ◌<◌, ◌≤◌, ◌+◌, ◌-◌, ◌^◌, ℕ, Some, List, [], ◌∷◌, ◌++◌, length}
use Rattle.uid_names.specs.Names.{ProcName, ObjectName}
use Rattle.uid_names.specs.Openings.{Start}
use Rattle.dom_history.specs.declared.op.Spot.{Spot}
use Rattle.dom_history.specs.StoreEffects.{StoreEffect, Writes}
use Rattle.dom_history.specs.Mappings.{target}
use Rattle.mail_box.specs.Boxes.{head_bytes, message_bytes, one_put, one_taken, place_of, text_in, IsText}
use Rattle.mail_box.specs.Contents.{message_of, Holds}
use Rattle.mail_box.specs.declared.boxes.Head.{Head}

-- numbers that are good: no more are taken than put, one more can be put, and those between have their places
pub record IsGood (h : Head) : Type 0 where
  pub order : h.taken ≤ h.put
  pub room : h.put ≢ 2 ^ 64 - 1
  pub few : h.put - h.taken ≤ 56

-- a process stores to an object, at a place of it
pub record StoresAt (opening : Start) (past : List StoreEffect) (u : ObjectName) (n : ℕ) : Type 0 where
  pub proc : ProcName
  pub spot : Spot
  pub there : target opening past proc spot ≡ Some (record { uid = u; offset = n })

abbrev pub stored : {opening : Start} {past : List StoreEffect} {u : ObjectName} {n : ℕ} → StoresAt opening past u n → List ℕ → List StoreEffect
stored {opening} {past} {u} {n} w bytes = Writes w.proc w.spot bytes ∷ past

-- a text can be put: there is a place for it, and the number put can be one more
pub record HasPlace (h : Head) (texts : List (List ℕ)) (text : List ℕ) : Type 0 where
  pub free : length texts < 56
  pub room : h.put + 1 < 2 ^ 64 - 1
  pub is : IsText text

-- a message behind the others, and then the numbers with one more put: the text is the last that it holds
abbrev pub PutsLast : Start → List StoreEffect → ObjectName → Type 0
PutsLast opening past u =
    (h : Head) (texts : List (List ℕ)) (text : List ℕ) → Holds opening past u h texts → HasPlace h texts text →
    (message : StoresAt opening past u (place_of h.put)) (numbers : StoresAt opening (stored message (message_bytes text)) u 0) →
    Holds opening (stored numbers (head_bytes (one_put h))) u (one_put h) (texts ++ text ∷ [])

-- the numbers with one more taken: the first is there no more, and it was the one that was loaded
pub record LosesFirst (opening : Start) (past : List StoreEffect) (u : ObjectName) (h : Head) (text : List ℕ) (texts : List (List ℕ)) : Type 0 where
  pub loaded : text_in (message_of opening past u h.taken) ≡ Some text
  pub left : (numbers : StoresAt opening past u 0) → Holds opening (stored numbers (head_bytes (one_taken h))) u (one_taken h) texts

abbrev pub TakesFirst : Start → List StoreEffect → ObjectName → Type 0
TakesFirst opening past u = (h : Head) (text : List ℕ) (texts : List (List ℕ)) → Holds opening past u h (text ∷ texts) → LosesFirst opening past u h text texts
