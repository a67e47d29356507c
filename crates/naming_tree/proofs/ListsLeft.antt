-- What is left of the dialogue of a directory that is listed, and how each reply leads on.
use Rattle.std.proofs.Common.{◌≡◌, ℕ, Bool, true, false, Option, Some, None, List, refl, ap, ◌∙◌, sym}
use Rattle.uid_names.specs.Names.{ObjectName}
use Rattle.dom_history.specs.declared.op.Reply.{Reply}
use Rattle.dir_records.specs.Directories.{rows_in}
use Rattle.naming_tree.specs.declared.session.Entering.{Entering}
use Rattle.naming_tree.specs.declared.session.Held.{Held}
use Rattle.naming_tree.specs.declared.listing.Listing.{Listing}
use Rattle.naming_tree.specs.Dialogues.{Dialogue, Ends, told, says, FitsSaid}
use Rattle.naming_tree.specs.ListsAt.{listing_of, listing_asks, listing_after, listed_if, asks_if, read_on}
use Rattle.naming_tree.specs.NamePaths.{listed, listing_at}
use Rattle.naming_tree.specs.Readings.{reading_after, is_done, is_done_at}
use Rattle.naming_tree.specs.Sayings.{ListAtSays}
use Rattle.naming_tree.specs.Turns.{does, Turn, Goes, Comes, FitsAsked}
use Rattle.naming_tree.proofs.ListsAt.{begun_fits}
use Rattle.naming_tree.proofs.Machines.{IsAt, Tells, fits_asked, says_all}
use Rattle.naming_tree.proofs.ReadingsLeft.{reading_left}
use Rattle.naming_tree.proofs.ReadingsOn.{IsSound, reading_on, reading_sound}
use Rattle.naming_tree.proofs.ReadingsSay.{reading_says}

abbrev rows_then : List ℕ → Dialogue
rows_then bytes = Ends (listed (rows_in bytes))

abbrev pub listing_left : Listing → Dialogue
listing_left l = reading_left l.reading rows_then

abbrev pub turn_left : Turn Listing → Dialogue
turn_left (Goes l) = listing_left l
turn_left (Comes result) = Ends result

-- it has begun, and its reading is under way
pub record Live (l : Listing) : Type 0 where
  pub begun : l.begun ≡ true
  pub sound : IsSound l.reading
  pub going : is_done l.reading ≡ false

abbrev pub LiveTurn : Turn Listing → Type 0
LiveTurn (Goes l) = Live l
LiveTurn (Comes result) = Unit {0}

rows_at : (l : Listing) (enter : Option Entering) (held : Option Held) (refused : Option Reply) → l.reading.enter ≡ enter → l.reading.closing.held ≡ held → l.reading.closing.refused ≡ refused
    → turn_left (listed_if (is_done_at enter held) refused l) ≡ listing_left l
rows_at l (Some stage) held refused e h k = refl
rows_at l None (Some held) refused e h k = refl
rows_at l None None (Some reply) e h k = rw (e, h, k) refl
rows_at l None None None e h k = rw (e, h, k) refl

rows_live : (l : Listing) (done : Bool) (refused : Option Reply) → l.begun ≡ true → IsSound l.reading → is_done l.reading ≡ done → LiveTurn (listed_if done refused l)
rows_live l false refused b h e = record { begun = b; sound = h; going = e }
rows_live l true (Some reply) b h e = tt
rows_live l true None b h e = tt

-- what it asks is what its dialogue says
asked : (l : Listing) → Live l → does (listing_asks l) ≡ Some (says (listing_left l))
asked l h = ap (λ (b : Bool). does (asks_if b l.reading)) h.begun ∙ ap Some (sym (reading_says l.reading rows_then h.sound h.going))

at_turn : (turn : Turn Listing) (d : Dialogue) → LiveTurn turn → turn_left turn ≡ d → IsAt listing_asks listing_after listing_left Live turn d
at_turn (Goes l) d h e = (h, e)
at_turn (Comes result) d h e = e

-- a reply leads it on
on : (l : Listing) (reply : Reply) → Live l → FitsSaid (says (listing_left l)) reply → IsAt listing_asks listing_after listing_left Live (listing_after l (Some reply)) (told (listing_left l) reply)
on l reply h fits =
    let next = record l { reading = reading_after l.reading reply } in
    let may : FitsAsked (listing_asks l) (Some reply) = fits_asked (listing_left l) (listing_asks l) reply (asked l h) fits in
    at_turn (read_on next) (told (listing_left l) reply)
    (rows_live next (is_done next.reading) next.reading.closing.refused h.begun (reading_sound l.reading reply h.sound (begun_fits l reply may)) refl)
    (rows_at next next.reading.enter next.reading.closing.held next.reading.closing.refused refl refl refl ∙ sym (reading_on l.reading reply rows_then h.sound h.going))

lists_tell : Tells listing_asks listing_after listing_left Live
lists_tell = record { asked = asked; on = on }

-- a list of a directory says what its dialogue says after all that it heard
pub list_at_heard : (dir : ObjectName) → ListAtSays dir
list_at_heard dir heard fits =
    says_all listing_asks listing_after listing_left Live lists_tell (listing_of dir) (listing_at dir) heard (record { begun = refl; sound = tt; going = refl }, refl) fits
