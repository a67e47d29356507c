-- A reading goes on as its dialogue does, and keeps to stages that can be reached.
use Rattle.std.proofs.Common.{◌≡◌, ℕ, ◌+◌, Bool, true, false, cond, Option, Some, None, List, refl, ◌∙◌, sym, subst, arith}
use Rattle.std.specs.Prelude.{nat_lt}
use Rattle.std.proofs.lemmas.Bool.{false≢true}
use Rattle.uid_names.specs.Names.{ObjectName}
use Rattle.uid_names.specs.declared.mode.Mode.TheVariants.{Read}
use Rattle.dom_history.specs.declared.op.Reply.{Reply}
use Rattle.dom_history.specs.declared.op.Reply.TheVariants.{Fine, Size, At, Bytes}
use Rattle.dom_history.specs.Fitting.{Fits, is_length_reply, is_map_reply}
use Rattle.dom_history.proofs.Fitting.{size-fits, at-fits}
use Rattle.uid_names.specs.Rooms.{IsLength}
use Rattle.naming_tree.specs.declared.session.Opened.{Opened}
use Rattle.naming_tree.specs.declared.session.Held.{Held}
use Rattle.naming_tree.specs.declared.session.Entering.{Entering}
use Rattle.naming_tree.specs.declared.session.Entering.TheVariants.{Lock, Length, Map, Load}
use Rattle.naming_tree.specs.declared.session.Entry.TheVariants.{On, In}
use Rattle.naming_tree.specs.declared.session.Closing.{Closing}
use Rattle.naming_tree.specs.declared.reading.Reading.{Reading}
use Rattle.naming_tree.specs.Entering.{pages, enter_op, entry_of, entry_at, on_lock, on_length, on_map, on_load, bytes_after, closing_after, IsEntering, IsOpened}
use Rattle.naming_tree.specs.Dialogues.{Dialogue, told}
use Rattle.naming_tree.specs.Readings.{reading_after, reading_op, is_done, is_done_at, is_closed, op_at, stage_of, closing_of}
use Rattle.naming_tree.proofs.ReadingsLeft.{reading_left, read_left, shut_then, read_on, entering_on, closing_on, closing_counted, IsCounted}

-- it is at a stage that can be reached, or closes and counts refusals up to the first
abbrev pub IsSoundAt : Option Entering → Closing → Type 0
IsSoundAt (Some stage) c = IsEntering stage
IsSoundAt None c = IsCounted c.counts c.refused

abbrev pub IsSound : Reading → Type 0
IsSound r = IsSoundAt r.enter r.closing

on_held : (r : Reading) (held : Option Held) (reply : Reply) (further : List ℕ → Dialogue) → r.closing.held ≡ held → IsCounted r.closing.counts r.closing.refused → is_closed held ≡ false → told (read_left r.uid None r.bytes r.closing further) reply ≡ read_left r.uid None r.bytes (closing_after r.closing reply) further
on_held r None reply further e h open_still = absurd (false≢true (sym open_still))
on_held r (Some held) reply further e h open_still = closing_on r.closing held (further r.bytes) reply e h

on_stage : (r : Reading) (enter : Option Entering) (reply : Reply) (further : List ℕ → Dialogue) → r.enter ≡ enter → IsSoundAt enter r.closing → is_done r ≡ false → told (reading_left r further) reply ≡ reading_left (reading_after r reply) further
on_stage r None reply further e h going =
    let open_still = subst (λ x. is_done_at x r.closing.held ≡ false) e going in
    rw e (on_held r r.closing.held reply further refl h open_still)
on_stage r (Some stage) reply further e h going =
    rw e (entering_on r.uid Read (shut_then further) stage r.bytes reply h ∙ read_on r.uid (entry_of r.uid stage reply) (bytes_after stage r.bytes reply) reply further)

-- a reply leads a reading on that is not done
pub reading_on : (r : Reading) (reply : Reply) (further : List ℕ → Dialogue) → IsSound r → is_done r ≡ false → told (reading_left r further) reply ≡ reading_left (reading_after r reply) further
reading_on r reply further h going = on_stage r r.enter reply further refl h going

module _ (u : ObjectName) where
  at_page : (o : Opened) (page : ℕ) (reply : Reply) (t : Bool) → IsOpened o → nat_lt page (pages o.length) ≡ t → IsSoundAt (stage_of (cond t (On (Load o page)) (In o))) (closing_of reply (cond t (On (Load o page)) (In o)))
  at_page o page reply true h e = (h, grind arith)
  at_page o page reply false h e = tt

  entry_sound : (o : Opened) (page : ℕ) (reply : Reply) → IsOpened o → IsSoundAt (stage_of (entry_at o page)) (closing_of reply (entry_at o page))
  entry_sound o page reply h = at_page o page reply (nat_lt page (pages o.length)) h refl

  lock_sound : (reply : Reply) → IsSoundAt (stage_of (on_lock reply)) (closing_of reply (on_lock reply))
  lock_sound Fine = tt
  lock_sound reply = tt

  length_sound : (reply : Reply) → is_length_reply reply ≡ true → IsSoundAt (stage_of (on_length u reply)) (closing_of reply (on_length u reply))
  length_sound (Size n) h = size-fits n h
  length_sound reply h = tt

  map_sound : (n : ℕ) (reply : Reply) → IsLength n → is_map_reply reply ≡ true → IsSoundAt (stage_of (on_map u n reply)) (closing_of reply (on_map u n reply))
  map_sound n (At address fresh) long h =
      let start = at-fits address fresh h in entry_sound (record { uid = u; length = n; address = address; fresh = fresh }) 0 (At address fresh) (record { long = long; at = start.0; below = start.1 })
  map_sound n reply long h = tt

  load_sound : (o : Opened) (page : ℕ) (reply : Reply) → IsOpened o → IsSoundAt (stage_of (on_load o page reply)) (closing_of reply (on_load o page reply))
  load_sound o page (Bytes more) h = entry_sound o (page + 1) (Bytes more) h
  load_sound o page reply h = tt

  stage_sound : (stage : Entering) (reply : Reply) → IsEntering stage → Fits (enter_op u Read stage) reply → IsSoundAt (stage_of (entry_of u stage reply)) (closing_of reply (entry_of u stage reply))
  stage_sound Lock reply h fits = lock_sound reply
  stage_sound Length reply h fits = length_sound reply fits
  stage_sound (Map n) reply h fits = map_sound n reply h fits
  stage_sound (Load o page) reply h fits = load_sound o page reply h.0

sound_at : (r : Reading) (enter : Option Entering) (reply : Reply) → r.enter ≡ enter → IsSoundAt enter r.closing → Fits (op_at r.uid enter r.closing.held) reply → IsSound (reading_after r reply)
sound_at r None reply e h fits = rw e (closing_counted r.closing reply h)
sound_at r (Some stage) reply e h fits = rw e (stage_sound r.uid stage reply h fits)

-- and it stays at such stages
pub reading_sound : (r : Reading) (reply : Reply) → IsSound r → Fits (reading_op r) reply → IsSound (reading_after r reply)
reading_sound r reply h fits = sound_at r r.enter reply refl h fits
