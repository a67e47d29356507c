-- A reply leads the work of a stream on as its dialogue goes on.
use Rattle.std.proofs.Common.{◌≡◌, ℕ, suc, ◌+◌, ◌-◌, ◌<◌, ◌≤◌, min, true, false, Option, Some, None, List, [], ◌∷◌, ◌++◌, map, length, take, drop, refl, ap, ◌∙◌, sym, subst, arith}
use Rattle.std.specs.Prelude.{nat_le, IfSome}
use Rattle.std.specs.List.{range_with_len}
use Rattle.std.proofs.lemmas.Bool.{false≢true}
use Rattle.std.proofs.lemmas.List.{length-take, length-drop}
use Rattle.dom_history.specs.declared.op.Op.{Op}
use Rattle.dom_history.specs.declared.op.Op.TheVariants as ops
use Rattle.dom_history.specs.declared.op.Spot.TheVariants.{Addr}
use Rattle.dom_history.specs.declared.op.Reply.{Reply}
use Rattle.dom_history.specs.declared.op.Reply.TheVariants.{Bytes, Fine as Done}
use Rattle.naming_tree.specs.Entering.{pages}
use Rattle.mapped_streams.specs.declared.step.StreamResult.TheVariants.{Store, Fine}
use Rattle.naming_tree.specs.declared.step.Step.TheVariants.{Do}
use Rattle.mapped_streams.specs.declared.gathered.Gathered.{Gathered}
use Rattle.mapped_streams.specs.declared.mapped.Mapped.{Mapped}
use Rattle.mapped_streams.specs.declared.work.Side.{Side}
use Rattle.mapped_streams.specs.declared.work.Side.TheVariants.{Before, Behind}
use Rattle.mapped_streams.specs.declared.work.Work.{Work}
use Rattle.mapped_streams.specs.declared.work.Work.TheVariants.{Read, Append, Copy}
use Rattle.mapped_streams.specs.Pages.{pages_from, page_load, end_of, room_at, store_at, store_behind}
use Rattle.mapped_streams.specs.Gathering.{come_to}
use Rattle.mapped_streams.specs.Dialogues.{Dialogue, told, says}
use Rattle.mapped_streams.specs.Streams.{closing, shutting, loading, storing, copying}
use Rattle.mapped_streams.specs.Works.{come_of, work_left, work_after, work_op, append_after, append_op, copy_op, is_stored, is_done, IsText, IsLoaded, IsWork}

-- what is left behind a reply, by what it made of the work
abbrev pub left_by : List Op → Mapped → Option Work → Reply → Dialogue
left_by held at None reply = closing held (Store reply)
left_by held at (Some work) reply = work_left held at work

-- a page before the others
pages_first : (m : Mapped) (page : ℕ) → nat_le (pages m.length) page ≡ false → pages_from m page ≡ page ∷ pages_from m (page + 1)
pages_first m page e = ap (λ (n : ℕ). range_with_len page n) (one_more page (pages m.length) e)
  where
    one_more : (page n : ℕ) → nat_le n page ≡ false → n - page ≡ suc (n - (page + 1))
    one_more page n e = grind arith

no_page : (m : Mapped) (page : ℕ) → nat_le (pages m.length) page ≡ true → pages_from m page ≡ []
no_page m page e = ap (λ (n : ℕ). range_with_len page n) (none page (pages m.length) e)
  where
    none : (page n : ℕ) → nat_le n page ≡ true → n - page ≡ 0
    none page n e = grind arith

-- a store of some bytes
store_some : (place : ℕ) (bytes : List ℕ) → 1 ≤ length bytes → store_at place bytes ≡ ops.Store (Addr place) bytes ∷ []
store_some place [] h = absurd (grind (arith, h))
store_some place (byte ∷ bytes) h = refl

store_none : (place : ℕ) (bytes : List ℕ) → length bytes ≡ 0 → store_at place bytes ≡ []
store_none place [] h = refl
store_none place (byte ∷ bytes) h = absurd (grind (arith, h))

some_before : (place : ℕ) (text : List ℕ) → IsText text → 1 ≤ length (take (room_at place) text)
some_before place text h = subst (λ n. 1 ≤ n) (sym (length-take (room_at place) text)) (both (length text) h.some)
  where
    both : (n : ℕ) → 1 ≤ n → 1 ≤ min (room_at place) n
    both n h = grind arith

some_behind : (place : ℕ) (text : List ℕ) → nat_le (length text) (room_at place) ≡ false → 1 ≤ length (drop (room_at place) text)
some_behind place text h = subst (λ n. 1 ≤ n) (sym (length-drop (room_at place) text)) (grind arith)

none_behind : (place : ℕ) (text : List ℕ) → nat_le (length text) (room_at place) ≡ true → length (drop (room_at place) text) ≡ 0
none_behind place text h = length-drop (room_at place) text ∙ grind arith

module _ (held : List Op) (at : Mapped) where
  abbrev load_all : List ℕ → Gathered → Dialogue
  load_all ps gathered = loading held (map (page_load at) ps) gathered (λ all. shutting held (come_to all))

  read_told : (page : ℕ) (gathered : Gathered) (reply : Reply) → told (load_all (page ∷ pages_from at (page + 1)) gathered) reply ≡ left_by held at (work_after (Read page gathered) reply) reply
  read_told page gathered (Bytes more) = refl
  read_told page gathered reply = refl

  abbrev copy_all : Mapped → List ℕ → Dialogue
  copy_all source ps = copying held source at ps (shutting held Fine)

  load_told : (source : Mapped) (page : ℕ) (reply : Reply) → told (copy_all source (page ∷ pages_from source (page + 1))) reply ≡ left_by held at (work_after (Copy source page None) reply) reply
  load_told source page (Bytes more) = refl
  load_told source page reply = refl

  store_told : (source : Mapped) (page : ℕ) (bytes : List ℕ) (reply : Reply) → told (work_left held at (Copy source page (Some bytes))) reply ≡ left_by held at (work_after (Copy source page (Some bytes)) reply) reply
  store_told source page bytes Done = refl
  store_told source page bytes reply = refl

  abbrev store_all : List Op → Dialogue
  store_all stores = storing held stores (shutting held Fine)

  before_told : (text : List ℕ) (op : Op) (reply : Reply) → told (store_all (op ∷ store_behind (end_of at) text)) reply ≡ left_by held at (append_after text (Some Before) reply) reply
  before_told text op Done = refl
  before_told text op reply = refl

  behind_told : (text : List ℕ) (op : Op) (reply : Reply) → told (store_all (op ∷ [])) reply ≡ left_by held at (append_after text (Some Behind) reply) reply
  behind_told text op Done = refl
  behind_told text op reply = refl

  append_told : (text : List ℕ) (side : Option Side) (reply : Reply) → IsText text → is_stored (end_of at) text side ≡ false → told (work_left held at (Append text side)) reply ≡ left_by held at (append_after text side reply) reply
  append_told text None reply h e = absurd (false≢true (sym e))
  append_told text (Some Before) reply h e =
      ap (λ stores. told (store_all (stores ++ store_behind (end_of at) text)) reply) (store_some (end_of at) (take (room_at (end_of at)) text) (some_before (end_of at) text h))
      ∙ before_told text (ops.Store (Addr (end_of at)) (take (room_at (end_of at)) text)) reply
  append_told text (Some Behind) reply h e =
      let place = end_of at + room_at (end_of at) in
      let bytes = drop (room_at (end_of at)) text in
      ap (λ stores. told (store_all stores) reply) (store_some place bytes (some_behind (end_of at) text e))
      ∙ behind_told text (ops.Store (Addr place) bytes) reply

  copy_told : (source : Mapped) (page : ℕ) (loaded : Option (List ℕ)) (reply : Reply) → nat_le (pages source.length) page ≡ false → told (work_left held at (Copy source page loaded)) reply ≡ left_by held at (work_after (Copy source page loaded) reply) reply
  copy_told source page None reply e = ap (λ ps. told (copy_all source ps) reply) (pages_first source page e) ∙ load_told source page reply
  copy_told source page (Some bytes) reply e = store_told source page bytes reply

  -- a reply leads the work on
  pub work_told : (work : Work) (reply : Reply) → IsWork work → is_done at work ≡ false → told (work_left held at work) reply ≡ left_by held at (work_after work reply) reply
  work_told (Read page gathered) reply h e = ap (λ ps. told (load_all ps gathered) reply) (pages_first at page e) ∙ read_told page gathered reply
  work_told (Append text side) reply h e = append_told text side reply h e
  work_told (Copy source page loaded) reply h e = copy_told source page loaded reply e

  append_says : (text : List ℕ) (side : Option Side) → IsText text → is_stored (end_of at) text side ≡ false → says (work_left held at (Append text side)) ≡ Do (append_op (end_of at) text side)
  append_says text None h e = absurd (false≢true (sym e))
  append_says text (Some Before) h e =
      ap (λ stores. says (store_all (stores ++ store_behind (end_of at) text))) (store_some (end_of at) (take (room_at (end_of at)) text) (some_before (end_of at) text h))
  append_says text (Some Behind) h e =
      ap (λ stores. says (store_all stores)) (store_some (end_of at + room_at (end_of at)) (drop (room_at (end_of at)) text) (some_behind (end_of at) text e))

  copy_says : (source : Mapped) (page : ℕ) (loaded : Option (List ℕ)) → nat_le (pages source.length) page ≡ false → says (work_left held at (Copy source page loaded)) ≡ Do (copy_op source at page loaded)
  copy_says source page None e = ap (λ ps. says (copy_all source ps)) (pages_first source page e)
  copy_says source page (Some bytes) e = refl

  -- what it asks is what its dialogue says
  pub work_says : (work : Work) → IsWork work → is_done at work ≡ false → says (work_left held at work) ≡ Do (work_op at work)
  work_says (Read page gathered) h e = ap (λ ps. says (load_all ps gathered)) (pages_first at page e)
  work_says (Append text side) h e = append_says text side h e
  work_says (Copy source page loaded) h e = copy_says source page loaded e

  append_done : (text : List ℕ) (side : Option Side) → is_stored (end_of at) text side ≡ true → work_left held at (Append text side) ≡ shutting held Fine
  append_done text None e = refl
  append_done text (Some Before) e = absurd (false≢true e)
  append_done text (Some Behind) e =
      ap (λ stores. store_all stores) (store_none (end_of at + room_at (end_of at)) (drop (room_at (end_of at)) text) (none_behind (end_of at) text e))

  copy_done : (source : Mapped) (page : ℕ) (loaded : Option (List ℕ)) → IfSome loaded (λ bytes. IsLoaded source page bytes) → nat_le (pages source.length) page ≡ true → work_left held at (Copy source page loaded) ≡ shutting held Fine
  copy_done source page None h e = ap (λ ps. copy_all source ps) (no_page source page e)
  copy_done source page (Some bytes) h e = absurd (past (pages source.length) h.there e)
    where
      past : (n : ℕ) → page < n → nat_le n page ≡ true → ⊥
      past n h e = grind arith

  -- one that is done leaves the closing
  pub work_done : (work : Work) → IsWork work → is_done at work ≡ true → work_left held at work ≡ shutting held (come_of work)
  work_done (Read page gathered) h e = ap (λ ps. load_all ps gathered) (no_page at page e)
  work_done (Append text side) h e = append_done text side e
  work_done (Copy source page loaded) h e = copy_done source page loaded h.1 e

-- so does a stream at work
pub taken_left : (held : List Op) (at : Mapped) (old new : Work) (reply : Reply) → IsWork old → is_done at old ≡ false → Some new ≡ work_after old reply → work_left held at new ≡ told (work_left held at old) reply
taken_left held at old new reply h e taken = ap (λ w. left_by held at w reply) taken ∙ sym (work_told held at old reply h e)

pub refused_left : (held : List Op) (at : Mapped) (old : Work) (reply : Reply) → IsWork old → is_done at old ≡ false → None ≡ work_after old reply → closing held (Store reply) ≡ told (work_left held at old) reply
refused_left held at old reply h e refused = ap (λ w. left_by held at w reply) refused ∙ sym (work_told held at old reply h e)
