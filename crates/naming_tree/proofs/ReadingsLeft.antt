-- What is left of a reading's dialogue at each of its stages, and how each reply leads on.
use Rattle.std.proofs.Common.{◌≡◌, ℕ, suc, ◌+◌, ◌-◌, ◌<◌, Bool, true, false, not, ◌&&◌, cond, Option, Some, None, List, [], ◌∷◌, ◌++◌, map, refl, ap, ◌∙◌, arith}
use Rattle.std.specs.Prelude.{nat_lt}
use Rattle.std.specs.List.{range_with_len}
use Rattle.uid_names.specs.Names.{ObjectName}
use Rattle.uid_names.specs.declared.mode.Mode.{Mode}
use Rattle.uid_names.specs.declared.mode.Mode.TheVariants.{Read}
use Rattle.dom_history.specs.declared.op.Op.{Op}
use Rattle.dom_history.specs.declared.op.Op.TheVariants as ops
use Rattle.dom_history.specs.declared.op.Reply.{Reply}
use Rattle.dom_history.specs.declared.op.Reply.TheVariants.{Fine, Size, At, Bytes}
use Rattle.naming_tree.specs.declared.session.Opened.{Opened}
use Rattle.naming_tree.specs.declared.session.Held.{Held}
use Rattle.naming_tree.specs.declared.session.Entering.{Entering}
use Rattle.naming_tree.specs.declared.session.Entering.TheVariants.{Lock, Length, Map, Load}
use Rattle.naming_tree.specs.declared.session.Entry.{Entry}
use Rattle.naming_tree.specs.declared.session.Entry.TheVariants.{On, In, Out}
use Rattle.naming_tree.specs.declared.session.Closing.{Closing}
use Rattle.naming_tree.specs.declared.step.NameResult.TheVariants.{Store}
use Rattle.naming_tree.specs.declared.reading.Reading.{Reading}
use Rattle.naming_tree.specs.Entering.{pages, page_load, entry_of, on_lock, on_length, on_map, on_load, bytes_after, loaded, held_op, close_op, held_after, rest_held, closing_after, is_fine, refusal, IsEntering}
use Rattle.naming_tree.specs.Dialogues.{Dialogue, told}
use Rattle.naming_tree.specs.Sessions.{fine, size, place, bytes as bytes_in, closing, go_on, ask, closers, closers_if, shutting, loading, loads_from}
use Rattle.naming_tree.specs.Readings.{stage_of, closing_of}

-- the operations that close what is held
abbrev pub ops_at : Option ObjectName → Bool → ObjectName → List Op
ops_at (Some other) mapped u = ops.Unlock other ∷ closers_if mapped u
ops_at None mapped u = closers_if mapped u

abbrev pub ops_held : Option Held → List Op
ops_held None = []
ops_held (Some h) = ops_at h.other h.mapped h.uid

-- the first of them, and the others
pub ops_first : (other : Option ObjectName) (mapped : Bool) (u : ObjectName) → ops_at other mapped u ≡ close_op other mapped u ∷ ops_held (rest_held other mapped u)
ops_first (Some other) mapped u = refl
ops_first None true u = refl
ops_first None false u = refl

-- what is left of a closing, with this at its end
abbrev pub closing_by : Bool → Option Reply → List Op → Dialogue → Dialogue
closing_by counts (Some reply) ops end = closing ops (Store reply)
closing_by counts None ops end = shutting ops end

abbrev pub closing_left : Closing → Dialogue → Dialogue
closing_left c end = closing_by c.counts c.refused (ops_held c.held) end

-- a closing counts refusals up to the first
abbrev pub IsCounted : Bool → Option Reply → Type 0
IsCounted true None = Unit {0}
IsCounted true (Some reply) = ⊥
IsCounted false None = ⊥
IsCounted false (Some reply) = Unit {0}

shut_on : (op : Op) (rest : List Op) (end : Dialogue) (reply : Reply) → told (shutting (op ∷ rest) end) reply ≡ closing_by (true && is_fine reply) (refusal (true && not (is_fine reply)) reply None) rest end
shut_on op rest end Fine = refl
shut_on op rest end reply = refl

counted : (reply : Reply) → IsCounted (true && is_fine reply) (refusal (true && not (is_fine reply)) reply None)
counted Fine = tt
counted reply = tt

close_on : (counts : Bool) (refused : Option Reply) (op : Op) (rest : List Op) (end : Dialogue) (reply : Reply) → IsCounted counts refused → told (closing_by counts refused (op ∷ rest) end) reply ≡ closing_by (counts && is_fine reply) (refusal (counts && not (is_fine reply)) reply refused) rest end
close_on true None op rest end reply h = shut_on op rest end reply
close_on true (Some x) op rest end reply h = absurd h
close_on false None op rest end reply h = absurd h
close_on false (Some x) op rest end reply h = refl

-- a reply leads a closing on
pub closing_on : (c : Closing) (h : Held) (end : Dialogue) (reply : Reply) → c.held ≡ Some h → IsCounted c.counts c.refused → told (closing_left c end) reply ≡ closing_left (closing_after c reply) end
closing_on c h end reply held counts =
    rw (held, ops_first h.other h.mapped h.uid) (close_on c.counts c.refused (held_op h) (ops_held (held_after h)) end reply counts)

still_counted : (counts : Bool) (refused : Option Reply) (reply : Reply) → IsCounted counts refused → IsCounted (counts && is_fine reply) (refusal (counts && not (is_fine reply)) reply refused)
still_counted true None reply h = counted reply
still_counted true (Some x) reply h = absurd h
still_counted false None reply h = absurd h
still_counted false (Some x) reply h = tt

pub closing_counted : (c : Closing) (reply : Reply) → IsCounted c.counts c.refused → IsCounted (closing_after c reply).counts (closing_after c reply).refused
closing_counted c reply h = still_counted c.counts c.refused reply h

module _ (u : ObjectName) (mode : Mode) (further : Opened → List ℕ → Dialogue) where
  -- what is left of an opening
  abbrev pub load_left : Opened → ℕ → List ℕ → Dialogue
  load_left o page so_far = loading (closers o) (loads_from o page) so_far (further o)

  abbrev pub map_left : ℕ → List ℕ → Dialogue
  map_left n so_far = ask place (ops.Unlock u ∷ []) (ops.Map u) (λ at. load_left (record { uid = u; length = n; address = at.0; fresh = at.1 }) 0 so_far)

  abbrev pub length_left : List ℕ → Dialogue
  length_left so_far = ask size (ops.Unlock u ∷ []) (ops.Length u) (λ n. map_left n so_far)

  abbrev pub entering_left : Entering → List ℕ → Dialogue
  entering_left Lock so_far = ask fine [] (ops.Lock u mode) (λ _. length_left so_far)
  entering_left Length so_far = length_left so_far
  entering_left (Map n) so_far = map_left n so_far
  entering_left (Load o page) so_far = load_left o page so_far

  -- what is left behind a reply
  abbrev pub entry_left : Entry → List ℕ → Reply → Dialogue
  entry_left (On stage) so_far reply = entering_left stage so_far
  entry_left (In o) so_far reply = further o so_far
  entry_left (Out held) so_far reply = closing (ops_held held) (Store reply)

  no_page : (o : Opened) (page : ℕ) → nat_lt page (pages o.length) ≡ false → loads_from o page ≡ []
  no_page o page e = ap (λ (n : ℕ). map (page_load o) (range_with_len page n)) (none page (pages o.length) e)
    where
      none : (page n : ℕ) → nat_lt page n ≡ false → n - page ≡ 0
      none page n e = grind arith

  at_page : (o : Opened) (page : ℕ) (so_far : List ℕ) (reply : Reply) (t : Bool) → nat_lt page (pages o.length) ≡ t → load_left o page so_far ≡ entry_left (cond t (On (Load o page)) (In o)) so_far reply
  at_page o page so_far reply true e = refl
  at_page o page so_far reply false e = ap (λ (l : List Op). loading (closers o) l so_far (further o)) (no_page o page e)

  pub loads_first : (o : Opened) (page : ℕ) → page < pages o.length → loads_from o page ≡ page_load o page ∷ loads_from o (page + 1)
  loads_first o page h = ap (λ (n : ℕ). map (page_load o) (range_with_len page n)) (one_more page (pages o.length) h)
    where
      one_more : (page n : ℕ) → page < n → n - page ≡ suc (n - (page + 1))
      one_more page n h = omega (arith, h)

  lock_on : (so_far : List ℕ) (reply : Reply) → go_on (fine reply) reply [] (λ _. length_left so_far) ≡ entry_left (on_lock reply) so_far reply
  lock_on so_far Fine = refl
  lock_on so_far reply = refl

  length_on : (so_far : List ℕ) (reply : Reply) → go_on (size reply) reply (ops.Unlock u ∷ []) (λ n. map_left n so_far) ≡ entry_left (on_length u reply) so_far reply
  length_on so_far (Size n) = refl
  length_on so_far reply = refl

  map_on : (n : ℕ) (so_far : List ℕ) (reply : Reply) → go_on (place reply) reply (ops.Unlock u ∷ []) (λ at. load_left (record { uid = u; length = n; address = at.0; fresh = at.1 }) 0 so_far) ≡ entry_left (on_map u n reply) so_far reply
  map_on n so_far (At address fresh) = at_page (record { uid = u; length = n; address = address; fresh = fresh }) 0 so_far (At address fresh) (nat_lt 0 (pages n)) refl
  map_on n so_far reply = refl

  load_on : (o : Opened) (page : ℕ) (so_far : List ℕ) (reply : Reply) → go_on (bytes_in reply) reply (closers o) (λ more. loading (closers o) (loads_from o (page + 1)) (so_far ++ more) (further o)) ≡ entry_left (on_load o page reply) (loaded so_far reply) reply
  load_on o page so_far (Bytes more) = at_page o (page + 1) (so_far ++ more) (Bytes more) (nat_lt (page + 1) (pages o.length)) refl
  load_on o page so_far reply = refl

  -- a reply leads an opening on
  pub entering_on : (stage : Entering) (so_far : List ℕ) (reply : Reply) → IsEntering stage → told (entering_left stage so_far) reply ≡ entry_left (entry_of u stage reply) (bytes_after stage so_far reply) reply
  entering_on Lock so_far reply h = lock_on so_far reply
  entering_on Length so_far reply h = length_on so_far reply
  entering_on (Map n) so_far reply h = map_on n so_far reply
  entering_on (Load o page) so_far reply h = ap (λ (l : List Op). told (loading (closers o) l so_far (further o)) reply) (loads_first o page h.1) ∙ load_on o page so_far reply

-- what follows the loads of a reading
abbrev pub shut_then : (List ℕ → Dialogue) → Opened → List ℕ → Dialogue
shut_then further o all = shutting (closers o) (further all)

-- what is left of a reading
abbrev pub read_left : ObjectName → Option Entering → List ℕ → Closing → (List ℕ → Dialogue) → Dialogue
read_left u None so_far c further = closing_left c (further so_far)
read_left u (Some stage) so_far c further = entering_left u Read (shut_then further) stage so_far

abbrev pub reading_left : Reading → (List ℕ → Dialogue) → Dialogue
reading_left r further = read_left r.uid r.enter r.bytes r.closing further

pub read_on : (u : ObjectName) (entry : Entry) (so_far : List ℕ) (reply : Reply) (further : List ℕ → Dialogue) → entry_left u Read (shut_then further) entry so_far reply ≡ read_left u (stage_of entry) so_far (closing_of reply entry) further
read_on u (On stage) so_far reply further = refl
read_on u (In o) so_far reply further = refl
read_on u (Out held) so_far reply further = refl
