-- Where acts stand.
use Rattle.std.specs.Prelude.{◌≡◌, true}
use Rattle.dom_history.specs.Histories.{Item, Answered, Acted, place_lt}

-- an act stands behind the Begin of its operation
abbrev pub IsBehindBegin : Item → Type 0
IsBehindBegin (Answered e) = Unit {0}
IsBehindBegin (Acted a) = place_lt a.begun a.place ≡ true
