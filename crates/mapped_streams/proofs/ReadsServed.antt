-- What one store gives to a stream that reads.
use Rattle.std.proofs.Common.{◌≡◌, ◌<◌, ◌≤◌, ◌+◌, ◌-◌, ◌*◌, min, ℕ, zero, suc, Some, List, [], ◌++◌, map, refl, ap, ◌∙◌, sym, subst, arith, append-nil}
use Rattle.std.specs.Prelude.{cond, nat_lt, ◌==◌}
use Rattle.std.specs.Int.{div_ceil}
use Rattle.std.specs.List.{range_with_len}
use Rattle.std.proofs.lemmas.List.{append_assoc}
use Rattle.std.proofs.lemmas.List.Sums.{sum_by-append}
use Rattle.uid_names.specs.Names.{ProcName, ObjectName}
use Rattle.uid_names.specs.Openings.{Start}
use Rattle.uid_names.specs.declared.limits.TheConstants.{PAGE_BYTES}
use Rattle.uid_names.specs.declared.mode.Mode.TheVariants.{Read}
use Rattle.dom_history.specs.declared.op.Op.{Op}
use Rattle.dom_history.specs.declared.op.Spot.TheVariants.{Addr}
use Rattle.dom_history.specs.declared.deed.Deed.{Deed}
use Rattle.dom_history.specs.StoreEffects.{StoreEffect, store_effects, own}
use Rattle.dom_history.specs.Objects.{room_of}
use Rattle.dom_history.specs.Locks.{state, is_held}
use Rattle.dom_history.specs.Mappings.{target}
use Rattle.dom_history.specs.Bytes.{length_of, bytes_from}
use Rattle.dom_history.specs.Replies.{before_of, load_reply}
use Rattle.naming_tree.specs.Entering.{pages}
use Rattle.naming_tree.specs.Sessions.{closers_if, bytes}
use Rattle.mapped_streams.specs.declared.step.StreamResult.TheVariants.{Bytes, Count}
use Rattle.mapped_streams.specs.declared.mapped.Mapped.{Mapped}
use Rattle.mapped_streams.specs.declared.mapped.Opened.{Opened}
use Rattle.mapped_streams.specs.declared.gathered.Gathered.{Gathered}
use Rattle.mapped_streams.specs.declared.gathered.Gathered.TheVariants.{All, Lines}
use Rattle.mapped_streams.specs.Pages.{page_load, bytes_in, loads_from}
use Rattle.mapped_streams.specs.Gathering.{lines, gathered_with, come_to}
use Rattle.mapped_streams.specs.Dialogues.{Dialogue}
use Rattle.mapped_streams.specs.Streams.{shutting, loading, reading, read_all, count_lines}
use Rattle.mapped_streams.specs.OneStore.{answer, answered, come, IsDone, content}
use Rattle.mapped_streams.proofs.Sound.{IsReached, IsSound}
use Rattle.mapped_streams.proofs.Serving.{goes, shut_comes, loaded}
use Rattle.mapped_streams.proofs.Contents.{bytes_joined}
use Rattle.mapped_streams.proofs.Reaching.{Opens, opens, opened_bytes}

-- bytes are gathered one part after another
count_joined : (xs ys : List ℕ) → lines xs + lines ys ≡ lines (xs ++ ys)
count_joined xs ys = sym (sum_by-append (λ b. cond (b == 10) 1 0) xs ys)

gathered_joined : (g : Gathered) (xs ys : List ℕ) → gathered_with (gathered_with g xs) ys ≡ gathered_with g (xs ++ ys)
gathered_joined (All bytes) xs ys = ap All (append_assoc bytes xs ys)
gathered_joined (Lines n) xs ys = ap Lines (add n (lines xs) (lines ys) ∙ ap (λ m. n + m) (count_joined xs ys))
  where
    add : (a b c : ℕ) → a + b + c ≡ a + (b + c)
    add a b c = omega arith

gathered_nothing : (g : Gathered) → g ≡ gathered_with g []
gathered_nothing (All bytes) = ap All (sym (append-nil bytes))
gathered_nothing (Lines n) = ap Lines (add n)
  where
    add : (n : ℕ) → n ≡ n + 0
    add n = omega arith

-- pages and bytes
pub past_end : (n page : ℕ) → 0 ≡ div_ceil n PAGE_BYTES - page → n - page * PAGE_BYTES ≡ 0
past_end n page e = grind arith

pub in_end : (n page k : ℕ) → suc k ≡ div_ceil n PAGE_BYTES - page → page * PAGE_BYTES < n
in_end n page k e = grind arith

pub next_page : (n page k : ℕ) → suc k ≡ n - page → k ≡ n - (page + 1)
next_page n page k e = omega (arith, e)

module _ (opening : Start) (p : ProcName) (u : ObjectName) where
  -- what a load of a page gives
  pub page_loaded : (deeds : List Deed) (at : Mapped) (page : ℕ) (more : List ℕ) → target opening (store_effects deeds) p (Addr (at.address + page * PAGE_BYTES)) ≡ Some (record { uid = u; offset = page * PAGE_BYTES }) → bytes (answer opening p deeds (page_load at page)) ≡ Some more → more ≡ bytes_from opening (store_effects deeds) u (page * PAGE_BYTES) (bytes_in at page)
  page_loaded deeds at page more here told =
      let at_target = ap (λ t. bytes (load_reply (before_of opening deeds p) t (bytes_in at page))) (sym here) ∙ told in
      loaded (is_held (state u (own p deeds))) (nat_lt (length_of opening (store_effects deeds) u) (page * PAGE_BYTES + bytes_in at page)) (bytes_from opening (store_effects deeds) u (page * PAGE_BYTES) (bytes_in at page)) more at_target

  -- a page and those behind it
  pages_joined : (past : List StoreEffect) (n page : ℕ) → page * PAGE_BYTES < n → bytes_from opening past u (page * PAGE_BYTES) (min PAGE_BYTES (n - page * PAGE_BYTES)) ++ bytes_from opening past u ((page + 1) * PAGE_BYTES) (n - (page + 1) * PAGE_BYTES) ≡ bytes_from opening past u (page * PAGE_BYTES) (n - page * PAGE_BYTES)
  pages_joined past n page h = by_rest (n - (page + 1) * PAGE_BYTES) refl
    where
      by_rest : (rest : ℕ) → n - (page + 1) * PAGE_BYTES ≡ rest → bytes_from opening past u (page * PAGE_BYTES) (min PAGE_BYTES (n - page * PAGE_BYTES)) ++ bytes_from opening past u ((page + 1) * PAGE_BYTES) rest ≡ bytes_from opening past u (page * PAGE_BYTES) (n - page * PAGE_BYTES)
      by_rest zero e =
          let whole : min PAGE_BYTES (n - page * PAGE_BYTES) ≡ n - page * PAGE_BYTES = grind arith in
          append-nil (bytes_from opening past u (page * PAGE_BYTES) (min PAGE_BYTES (n - page * PAGE_BYTES))) ∙ ap (λ m. bytes_from opening past u (page * PAGE_BYTES) m) whole
      by_rest (suc rest) e =
          let full : min PAGE_BYTES (n - page * PAGE_BYTES) ≡ PAGE_BYTES = grind arith in
          let next : (page + 1) * PAGE_BYTES ≡ page * PAGE_BYTES + PAGE_BYTES = omega arith in
          let all : PAGE_BYTES + suc rest ≡ n - page * PAGE_BYTES = omega (arith, e) in
          ap (λ m. bytes_from opening past u (page * PAGE_BYTES) m ++ bytes_from opening past u ((page + 1) * PAGE_BYTES) (suc rest)) full
          ∙ ap (λ o. bytes_from opening past u (page * PAGE_BYTES) PAGE_BYTES ++ bytes_from opening past u o (suc rest)) next
          ∙ bytes_joined opening past u (page * PAGE_BYTES) PAGE_BYTES (suc rest)
          ∙ ap (λ m. bytes_from opening past u (page * PAGE_BYTES) m) all

  -- the loads of pages gather what is behind them
  loads_come : (k page : ℕ) (at : Mapped) (held : List Op) (g : Gathered) (deeds : List Deed) → k ≡ pages at.length - page → IsReached opening (store_effects deeds) p u at.address at.length → IsDone (come opening p (loading held (map (page_load at) (range_with_len page k)) g (λ all. shutting held (come_to all))) deeds) → come opening p (loading held (map (page_load at) (range_with_len page k)) g (λ all. shutting held (come_to all))) deeds ≡ come_to (gathered_with g (bytes_from opening (store_effects deeds) u (page * PAGE_BYTES) (at.length - page * PAGE_BYTES)))
  loads_come zero page at held g deeds e reached done =
      shut_comes opening p held (come_to g) deeds done
      ∙ ap come_to (gathered_nothing g ∙ ap (λ m. gathered_with g (bytes_from opening (store_effects deeds) u (page * PAGE_BYTES) m)) (sym (past_end at.length page e)))
  loads_come (suc k) page at held g deeds e reached done =
      let past = store_effects deeds in
      let below = in_end at.length page k e in
      let ops = map (page_load at) (range_with_len (page + 1) k) in
      let step = goes opening p bytes held (page_load at page) (λ more. loading held ops (gathered_with g more) (λ all. shutting held (come_to all))) deeds done in
      let more = page_loaded deeds at page step.at (reached (page * PAGE_BYTES) below) step.told in
      step.comes
      ∙ loads_come k (page + 1) at held (gathered_with g step.at) (answered opening p deeds (page_load at page)) (next_page (pages at.length) page k e) reached (subst IsDone step.comes done)
      ∙ ap (λ part. come_to (gathered_with (gathered_with g part) (bytes_from opening past u ((page + 1) * PAGE_BYTES) (at.length - (page + 1) * PAGE_BYTES)))) more
      ∙ ap come_to (gathered_joined g (bytes_from opening past u (page * PAGE_BYTES) (bytes_in at page)) (bytes_from opening past u ((page + 1) * PAGE_BYTES) (at.length - (page + 1) * PAGE_BYTES)))
      ∙ ap (λ all. come_to (gathered_with g all)) (pages_joined past at.length page below)

  -- all pages are those from the first one on
  whole_from : (past : List StoreEffect) (n : ℕ) → bytes_from opening past u (0 * PAGE_BYTES) (n - 0 * PAGE_BYTES) ≡ bytes_from opening past u 0 n
  whole_from past n =
      let first : 0 * PAGE_BYTES ≡ 0 = omega arith in
      let all : n - 0 * PAGE_BYTES ≡ n = omega arith in
      ap (λ o. bytes_from opening past u o (n - 0 * PAGE_BYTES)) first ∙ ap (λ m. bytes_from opening past u 0 m) all

  abbrev reading_further : Gathered → Opened → Dialogue
  reading_further g o = loading (closers_if o.fresh u) (loads_from o.at 0) g (λ all. shutting (closers_if o.fresh u) (come_to all))

  -- a reading gathers the whole object
  opened_comes : (g : Gathered) (deeds : List Deed) → IsSound opening (store_effects deeds) p → IsDone (come opening p (reading u g) deeds) → Opens opening p u Read (reading_further g) deeds → come opening p (reading u g) deeds ≡ come_to (gathered_with g (content opening (store_effects deeds) u))
  opened_comes g deeds sound done w =
      let past = store_effects deeds in
      let within : w.o.at.length ≤ PAGE_BYTES * room_of opening past u = subst (λ n. n ≤ PAGE_BYTES * room_of opening past u) (sym w.long) (sound.lengths u) in
      w.comes
      ∙ loads_come (pages w.o.at.length - 0) 0 w.o.at (closers_if w.o.fresh u) g w.later refl (λ o h. w.reached o (omega (arith, h, within))) (subst IsDone w.comes done)
      ∙ ap (λ all. come_to (gathered_with g all)) (whole_from (store_effects w.later) w.o.at.length)
      ∙ ap (λ x. come_to (gathered_with g (bytes_from opening x u 0 w.o.at.length))) w.effects
      ∙ ap (λ all. come_to (gathered_with g all)) (opened_bytes opening p past u u Read w.o.at.address w.o.fresh 0 w.o.at.length)
      ∙ ap (λ n. come_to (gathered_with g (bytes_from opening past u 0 n))) w.long

  reading_comes : (g : Gathered) (deeds : List Deed) → IsSound opening (store_effects deeds) p → IsDone (come opening p (reading u g) deeds) → come opening p (reading u g) deeds ≡ come_to (gathered_with g (content opening (store_effects deeds) u))
  reading_comes g deeds sound done = opened_comes g deeds sound done (opens opening p u Read (reading_further g) deeds sound done)

  pub read_whole : (deeds : List Deed) → IsSound opening (store_effects deeds) p → IsDone (come opening p (read_all u) deeds) → come opening p (read_all u) deeds ≡ Bytes (content opening (store_effects deeds) u)
  read_whole deeds sound done = reading_comes (All []) deeds sound done

  pub lines_counted : (deeds : List Deed) → IsSound opening (store_effects deeds) p → IsDone (come opening p (count_lines u) deeds) → come opening p (count_lines u) deeds ≡ Count (lines (content opening (store_effects deeds) u))
  lines_counted deeds sound done = reading_comes (Lines 0) deeds sound done ∙ ap Count (none (lines (content opening (store_effects deeds) u)))
    where
      none : (n : ℕ) → 0 + n ≡ n
      none n = omega arith
