-- What a mailbox holds is what was put into it and not taken out, at each place of a history.
use Rattle.std.proofs.Common.{◌≡◌, ◌≢◌, ◌<◌, ◌≤◌, ◌+◌, ◌-◌, ◌^◌, ◌∙◌, ℕ, Bool, true, false, ◌&&◌, Option, Some, None, List, [], ◌∷◌, ◌++◌, length, length-append, get_or, append-nil, append_assoc, refl, sym, ap, subst, arith}
use Rattle.std.specs.Prelude.{◌==◌}
use Rattle.std.proofs.lemmas.Bool.Decides.{nat_tests}
use Rattle.std.proofs.lemmas.Option.{same_Some}
use Rattle.uid_names.specs.Names.{ProcName, ObjectName, same_proc}
use Rattle.uid_names.specs.declared.mode.Mode.TheVariants.{Write}
use Rattle.uid_names.proofs.Orders.{same_proc-itself, same_uid-itself}
use Rattle.dom_history.specs.declared.op.Entry.{Entry}
use Rattle.dom_history.specs.declared.op.Op.{Op}
use Rattle.dom_history.specs.declared.op.Op.TheVariants as ops
use Rattle.dom_history.specs.declared.op.Reply.{Reply}
use Rattle.dom_history.specs.declared.op.Reply.TheVariants.{Fine, Size, Bytes, At as MappedAt}
use Rattle.dom_history.specs.declared.op.Spot.TheVariants.{Addr}
use Rattle.dom_history.specs.Bytes.{length_of}
use Rattle.dom_history.specs.Histories.{Item, Answered, Acted, before_op, deeds}
use Rattle.dom_history.specs.Legal.{AreLegal, IsAllowed}
use Rattle.dom_history.specs.Mappings.{target}
use Rattle.dom_history.specs.Objects.{is_named}
use Rattle.dom_history.specs.StoreEffects.{StoreEffect, Writes, store_effect, store_effects}
use Rattle.script_reader.specs.declared.command.Command.{Command}
use Rattle.script_reader.specs.Scripts.{Content}
use Rattle.mapped_streams.proofs.Contents.{bytes_stay}
use Rattle.naming_tree.specs.Entering.{unmap_if}
use Rattle.mail_box.specs.Boxes.{extent_of, first_head, head_bytes, head_of, head_with, is_bad_head, is_empty, is_full, message_bytes, one_put, one_taken, place_of, text_in, IsText}
use Rattle.mail_box.specs.Contents.{message_of, numbers_by, HasText, Holds}
use Rattle.mail_box.specs.Mails.{counted, judged, judged_if, message_load, message_store, numbers_load, numbers_store, opened_at, refused_if}
use Rattle.mail_box.specs.States.{message_op, stage_op, IsWork}
use Rattle.mail_box.specs.Turns.{Turn, Goes, Comes, behind_close, behind_count, behind_length, behind_loaded, behind_lock, behind_map, behind_message, behind_numbers, behind_stored, first_decided, known_if, reached, stage_turn, with_text}
use Rattle.mail_box.specs.declared.boxes.Extent.{Extent}
use Rattle.mail_box.specs.declared.boxes.Extent.TheVariants.{New, Torn, Whole}
use Rattle.mail_box.specs.declared.boxes.Head.{Head}
use Rattle.mail_box.specs.declared.mailing.Opened.{Opened}
use Rattle.mail_box.specs.declared.mailing.Stage.{Stage}
use Rattle.mail_box.specs.declared.mailing.Stage.TheVariants.{Lock, Length, Map, Numbers, Message, Count, Close}
use Rattle.mail_box.specs.declared.step.MailResult.{MailResult}
use Rattle.mail_box.specs.declared.step.MailResult.TheVariants as mail_results
use Rattle.mail_box.specs.declared.work.MailWork.{MailWork}
use Rattle.mail_box.specs.declared.work.MailWork.TheVariants.{Put, Take}
use Rattle.mail_box.proofs.Bytes.{message_size}
use Rattle.mail_box.proofs.Holding.{holds_still, message_keeps, message_there, put_holds, take_holds, text_still}
use Rattle.mail_box.proofs.Places.{place_high}
use Rattle.mail_runs.specs.Commands.{command_of, own_in}
use Rattle.mail_runs.specs.Texts.{counts, last_loaded, object_of, one_if, put_by, puts, stored_in, stores_numbers, stores_to, takes, text_loaded, text_put, text_taken}
use Rattle.mail_runs.proofs.Mapped.{Reach}
use Rattle.mail_runs.proofs.Opened.{OpenedAt}
use Rattle.mail_runs.proofs.Sessions.{work_of}
use Rattle.mail_runs.proofs.Talks.{IsSameWork}
use Rattle.mail_runs.proofs.Told.{load_told, put_is, put_takes_not, size_told, take_is, take_puts_not, unstored, IsSame}

-- where numbers decide nothing there is a place, or a text
fewer : (n : ℕ) → n ≤ 56 → (n == 56) ≡ false → n < 56
fewer n few e = grind (arith, nat_tests, few, e)

some_of : (n : ℕ) → (n == 0) ≡ false → 1 ≤ n
some_of n e = grind (arith, nat_tests, e)

refused_none : (b : Bool) (result : MailResult) → refused_if b result ≡ None → b ≡ false
refused_none true result e = absurd (cc)
refused_none false result e = refl

judged_none : (b : Bool) (further : Option MailResult) → judged_if b further ≡ None → further ≡ None
judged_none true further e = absurd (cc)
judged_none false further e = e

between_count : (put taken n : ℕ) → put ≡ taken + n → put - taken ≡ n
between_count put taken n e = omega (arith, e)

same_count : (put taken n : ℕ) → put ≡ taken + n → (put == taken) ≡ (n == 0)
same_count put taken n e = grind (arith, nat_tests, e)

not_full : (text : List ℕ) (h : Head) (n : ℕ) → judged (Put text) h ≡ None → h.put ≡ h.taken + n → n ≤ 56 → n < 56
not_full text h n none count few =
    let is_open = refused_none (is_full h) mail_results.Full (judged_none (is_bad_head h) (refused_if (is_full h) mail_results.Full) none) in
    fewer n few (ap (λ k. k == 56) (sym (between_count h.put h.taken n count)) ∙ is_open)

not_empty : (text : List ℕ) (h : Head) (n : ℕ) → judged (Take text) h ≡ None → h.put ≡ h.taken + n → 1 ≤ n
not_empty text h n none count =
    let is_open = refused_none (is_empty h) mail_results.Empty (judged_none (is_bad_head h) (refused_if (is_empty h) mail_results.Empty) none) in
    some_of n (sym (same_count h.put h.taken n count) ∙ is_open)

first_of : {X : Type 0} (xs : List X) → 1 ≤ length xs → (x : X) × (rest : List X) × (xs ≡ x ∷ rest)
first_of [] some = absurd (omega (arith, some))
first_of (x ∷ rest) some = (x, rest, refl)

module _ (s : Content) (u : ObjectName) where
  -- no more was put than items stand there
  one_few : (b : Bool) (t : Option (List ℕ)) → length (one_if b t) ≤ 1
  one_few true (Some text) = omega arith
  one_few true None = omega arith
  one_few false t = omega arith

  pub puts_few : (past : List Item) → length (puts s u past) ≤ length past
  puts_few [] = omega arith
  puts_few (Acted a ∷ past) = omega (arith, puts_few past)
  puts_few (Answered e ∷ past) =
      let one = one_few (counts s u past e) (text_put (command_of s past e)) in
      omega (arith, puts_few past, one, length-append (puts s u past) (put_by s u past e))

  abbrev pub eff_of : List Item → List StoreEffect
  eff_of past = store_effects (deeds past)

  -- the numbers, by what was put and taken
  abbrev pub head_at : List Item → Head
  head_at past = head_with (length (puts s u past)) (length (takes s u past))

  -- it holds what was put and not taken
  pub record HoldsQueue (past : List Item) : Type 0 where
    pub between : List (List ℕ)
    pub order : puts s u past ≡ takes s u past ++ between
    pub holds : Holds s.opening (eff_of past) u (head_at past) between

  -- what the machine of a process knows of it at a stage
  abbrev pub Ready : List Item → ProcName → MailWork → Head → Type 0
  Ready past p (Put text) h = HasText s.opening (eff_of past) u h.put text
  Ready past p (Take text) h = (text_in (message_of s.opening (eff_of past) u h.taken) ≡ Some text) × (last_loaded (own_in past p) ≡ Some text)

  abbrev pub Knows : List Item → ProcName → MailWork → Stage → Type 0
  Knows past p work (Map n) = n ≡ length_of s.opening (eff_of past) u
  Knows past p work (Numbers o) = extent_of (length_of s.opening (eff_of past) u) ≡ Whole
  Knows past p work (Message o h) = (h ≡ head_at past) × (judged work h ≡ None)
  Knows past p work (Count o h) = (h ≡ head_at past) × (judged work h ≡ None) × Ready past p work h
  Knows past p work stage = Unit {0}

  abbrev pub TurnKnows : List Item → ProcName → Turn → Type 0
  TurnKnows past p (Goes m) = Knows past p m.work m.stage
  TurnKnows past p (Comes result) = Unit {0}

  -- an item that stores nothing to it
  pub record LeavesIt (past new : List Item) : Type 0 where
    pub same : IsSame s.opening (eff_of past) u (eff_of new)
    pub puts_same : puts s u new ≡ puts s u past
    pub takes_same : takes s u new ≡ takes s u past

  -- where something is between, the first message is there
  pub taken_text : (past : List Item) (before : List ℕ) (h : Head) → HoldsQueue past → h ≡ head_at past → judged (Take before) h ≡ None → (text : List ℕ) × (text_in (message_of s.opening (eff_of past) u h.taken) ≡ Some text)
  taken_text past before h box is none =
      let here : Holds s.opening (eff_of past) u h box.between = subst (λ x. Holds s.opening (eff_of past) u x box.between) (sym is) box.holds in
      let some = not_empty before h (length box.between) none here.count in
      let same : h.taken + 0 ≡ h.taken = omega arith in
      (get_or box.between 0 [], ap (λ n. text_in (message_of s.opening (eff_of past) u n)) (sym same) ∙ (here.each 0 (omega (arith, some))).reads)

  module _ (past new : List Item) (leaves : LeavesIt past new) where
    pub head_same : head_at new ≡ head_at past
    head_same = ap (λ xs. head_with (length xs) (length (takes s u new))) leaves.puts_same ∙ ap (λ xs. head_with (length (puts s u past)) (length xs)) leaves.takes_same

    pub queue_stays : HoldsQueue past → HoldsQueue new
    queue_stays box = record {
      between = box.between;
      order = leaves.puts_same ∙ box.order ∙ ap (λ xs. xs ++ box.between) (sym leaves.takes_same);
      holds = subst (λ h. Holds s.opening (eff_of new) u h box.between) (sym head_same) (holds_still s.opening (eff_of past) (eff_of new) u (head_at past) box.between leaves.same.0 leaves.same.1 box.holds);
    }

    ready_stays : (p : ProcName) (work : MailWork) (h : Head) → own_in new p ≡ own_in past p → Ready past p work h → Ready new p work h
    ready_stays p (Put text) h own ready = text_still s.opening (eff_of past) (eff_of new) u h.put text leaves.same.0 leaves.same.1 ready
    ready_stays p (Take text) h own ready =
        (ap text_in (bytes_stay s.opening (eff_of past) (eff_of new) u (place_of h.taken) 128 (λ i b. leaves.same.1 (place_of h.taken + i))) ∙ ready.0, ap last_loaded own ∙ ready.1)

    -- what another process knows it knows still
    pub knows_still : (p : ProcName) (work : MailWork) (stage : Stage) → own_in new p ≡ own_in past p → Knows past p work stage → Knows new p work stage
    knows_still p work (Map n) own known = known ∙ sym leaves.same.0
    knows_still p work (Numbers o) own known = ap extent_of leaves.same.0 ∙ known
    knows_still p work (Message o h) own known = (known.0 ∙ sym head_same, known.1)
    knows_still p work (Count o h) own known = (known.0 ∙ sym head_same, known.1, ready_stays p work h own known.2)
    knows_still p work Lock own known = tt
    knows_still p work Length own known = tt
    knows_still p work (Close mapped) own known = tt

  -- an entry that stores nothing to it
  uncounted : (past : List Item) (e : Entry) → stores_to s.opening past e u ≡ false → counts s u past e ≡ false
  uncounted past e off = ap (λ b. b && stores_numbers e.op) off

  pub leaves_it : (past : List Item) (e : Entry) → stores_to s.opening past e u ≡ false → LeavesIt past (Answered e ∷ past)
  leaves_it past e off = record {
    same = unstored s.opening (eff_of past) e.proc u e.op e.reply off;
    puts_same = ap (λ b. puts s u past ++ one_if b (text_put (command_of s past e))) (uncounted past e off) ∙ append-nil (puts s u past);
    takes_same = ap (λ b. takes s u past ++ one_if b (text_taken (command_of s past e) (own_in past e.proc))) (uncounted past e off) ∙ append-nil (takes s u past);
  }

  -- an entry of the machine of a process
  module _ (past : List Item) (e : Entry) (legal : AreLegal s.opening [] (Answered e ∷ past)) (box : HoldsQueue past) where
    abbrev new_items : List Item
    new_items = Answered e ∷ past

    abbrev before_it : Type 0
    before_it = IsAllowed (before_op s.opening past e.proc) e.proc e.op e.reply

    -- one that stores nothing
    off_by : (op : Op) (reply : Reply) → e.op ≡ op → e.reply ≡ reply → is_named (stored_in s.opening (eff_of past) e.proc op reply) u ≡ false → stores_to s.opening past e u ≡ false
    off_by op reply asked told off =
        subst (λ r. is_named (stored_in s.opening (eff_of past) e.proc e.op r) u ≡ false) (sym told)
        (subst (λ o. is_named (stored_in s.opening (eff_of past) e.proc o reply) u ≡ false) (sym asked) off)

    left_by : (op : Op) (reply : Reply) → e.op ≡ op → e.reply ≡ reply → is_named (stored_in s.opening (eff_of past) e.proc op reply) u ≡ false → LeavesIt past new_items
    left_by op reply asked told off = leaves_it past e (off_by op reply asked told off)

    allowed_by : (op : Op) (reply : Reply) → e.op ≡ op → e.reply ≡ reply → IsAllowed (before_op s.opening past e.proc) e.proc op reply
    allowed_by op reply asked told = subst (λ r. IsAllowed (before_op s.opening past e.proc) e.proc op r) told (subst (λ o. IsAllowed (before_op s.opening past e.proc) e.proc o e.reply) asked legal.0)

    abbrev Turned : Turn → Type 0
    Turned t = HoldsQueue new_items × TurnKnows new_items e.proc t

    -- where its numbers are known
    known_so : (work : MailWork) (o : Opened) (h : Head) (found : Option MailResult) → judged work h ≡ found → h ≡ head_at new_items → TurnKnows new_items e.proc (Goes (known_if u work o h found))
    known_so work o h None none is = (is, none)
    known_so work o h (Some result) found is = tt

    module _ (leaves : LeavesIt past new_items) where
      reached_so : (work : MailWork) (o : Opened) (x : Extent) → extent_of (length_of s.opening (eff_of past) u) ≡ x → TurnKnows new_items e.proc (Goes (reached u work o x))
      reached_so work o New is =
          known_so work o first_head (judged work first_head) refl (sym (ap (numbers_by s.opening (eff_of past) u) is) ∙ box.holds.numbers ∙ sym (head_same past new_items leaves))
      reached_so work o Torn is = tt
      reached_so work o Whole is = ap extent_of leaves.same.0 ∙ is

    lock_so : (work : MailWork) (reply : Reply) → e.op ≡ ops.Lock u Write → e.reply ≡ reply → Turned (behind_lock u work reply)
    lock_so work reply asked told = (queue_stays past new_items (left_by (ops.Lock u Write) reply asked told refl) box, by_reply reply)
      where
        by_reply : (r : Reply) → TurnKnows new_items e.proc (behind_lock u work r)
        by_reply Fine = tt
        by_reply r = tt

    length_so : (work : MailWork) (reply : Reply) → e.op ≡ ops.Length u → e.reply ≡ reply → Turned (Goes (behind_length u work reply))
    length_so work (Size n) asked told =
        let leaves = left_by (ops.Length u) (Size n) asked told refl in
        (queue_stays past new_items leaves box, size_told (before_op s.opening past e.proc) e.proc u n (allowed_by (ops.Length u) (Size n) asked told) ∙ sym leaves.same.0)
    length_so work reply asked told = (queue_stays past new_items (left_by (ops.Length u) reply asked told refl) box, tt)

    map_off : (reply : Reply) → is_named (stored_in s.opening (eff_of past) e.proc (ops.Map u) reply) u ≡ false
    map_off reply = refl

    map_so : (work : MailWork) (n : ℕ) (reply : Reply) → e.op ≡ ops.Map u → e.reply ≡ reply → n ≡ length_of s.opening (eff_of past) u → Turned (Goes (behind_map u work n reply))
    map_so work n (MappedAt a fresh) asked told long =
        let leaves = left_by (ops.Map u) (MappedAt a fresh) asked told (map_off (MappedAt a fresh)) in
        (queue_stays past new_items leaves box, reached_so leaves work (opened_at a fresh) (extent_of n) (ap extent_of (sym long)))
    map_so work n reply asked told long = (queue_stays past new_items (left_by (ops.Map u) reply asked told (map_off reply)) box, tt)

    -- the numbers are loaded
    at_first : (a : ℕ) → a + 0 ≡ a
    at_first a = omega arith

    first_reached : (a : ℕ) → Reach s.opening (eff_of past) e.proc u a → target s.opening (eff_of past) e.proc (Addr a) ≡ Some (record { uid = u; offset = 0 })
    first_reached a reach = ap (λ x. target s.opening (eff_of past) e.proc (Addr x)) (sym (at_first a)) ∙ reach 0 (omega arith)

    place_reached : (a i : ℕ) → Reach s.opening (eff_of past) e.proc u a → target s.opening (eff_of past) e.proc (Addr (a + place_of i)) ≡ Some (record { uid = u; offset = place_of i })
    place_reached a i reach = reach (place_of i) (omega (arith, place_high i))

    load_off : (o : Opened) (reply : Reply) → is_named (stored_in s.opening (eff_of past) e.proc (numbers_load o) reply) u ≡ false
    load_off o reply = refl

    numbers_so : (work : MailWork) (o : Opened) (reply : Reply) → e.op ≡ numbers_load o → e.reply ≡ reply → Reach s.opening (eff_of past) e.proc u o.address → extent_of (length_of s.opening (eff_of past) u) ≡ Whole
        → Turned (Goes (behind_numbers u work o reply))
    numbers_so work o (Bytes loaded) asked told reach whole =
        let leaves = left_by (numbers_load o) (Bytes loaded) asked told (load_off o (Bytes loaded)) in
        let there = load_told (before_op s.opening past e.proc) e.proc (Addr o.address) 16 loaded u 0 (first_reached o.address reach) (allowed_by (numbers_load o) (Bytes loaded) asked told) in
        let numbers : head_of loaded ≡ head_at past = ap head_of there ∙ sym (ap (numbers_by s.opening (eff_of past) u) whole) ∙ box.holds.numbers in
        (queue_stays past new_items leaves box, known_so work o (head_of loaded) (judged work (head_of loaded)) refl (numbers ∙ sym (head_same past new_items leaves)))
    numbers_so work o reply asked told reach whole = (queue_stays past new_items (left_by (numbers_load o) reply asked told (load_off o reply)) box, tt)

    -- a message is loaded
    abbrev loads : Opened → Head → Op
    loads o h = message_load o h.taken

    message_off : (o : Opened) (h : Head) (reply : Reply) → is_named (stored_in s.opening (eff_of past) e.proc (loads o h) reply) u ≡ false
    message_off o h reply = refl

    own_last : (loaded : List ℕ) (op : Op) → same_proc e.proc e.proc ≡ true → last_loaded (own_in new_items e.proc) ≡ text_loaded e.op e.reply
    own_last loaded op mine = rw mine refl

    text_so : (before : List ℕ) (o : Opened) (h : Head) (found : Option (List ℕ)) (leaves : LeavesIt past new_items) → h ≡ head_at past → judged (Take before) h ≡ None → text_in (message_of s.opening (eff_of past) u h.taken) ≡ found
        → text_loaded e.op e.reply ≡ found → TurnKnows new_items e.proc (Goes (with_text u (Take before) o h found))
    text_so before o h None leaves is none there last = tt
    text_so before o h (Some text) leaves is none there last = (
      is ∙ sym (head_same past new_items leaves),
      none,
      (
        ap text_in (bytes_stay s.opening (eff_of past) (eff_of new_items) u (place_of h.taken) 128 (λ i b. leaves.same.1 (place_of h.taken + i))) ∙ there,
        own_last [] e.op (same_proc-itself e.proc) ∙ last,
      ),
    )

    loaded_so : (before : List ℕ) (o : Opened) (h : Head) (reply : Reply) → e.op ≡ loads o h → e.reply ≡ reply → Reach s.opening (eff_of past) e.proc u o.address → h ≡ head_at past → judged (Take before) h ≡ None
        → Turned (Goes (behind_loaded u (Take before) o h reply))
    loaded_so before o h (Bytes loaded) asked told reach is none =
        let leaves = left_by (loads o h) (Bytes loaded) asked told (message_off o h (Bytes loaded)) in
        let there = load_told (before_op s.opening past e.proc) e.proc (Addr (o.address + place_of h.taken)) 128 loaded u (place_of h.taken) (place_reached o.address h.taken reach) (allowed_by (loads o h) (Bytes loaded) asked told) in
        let last : text_loaded e.op e.reply ≡ text_in loaded = ap (text_loaded e.op) told ∙ ap (λ op. text_loaded op (Bytes loaded)) asked in
        (queue_stays past new_items leaves box, text_so before o h (text_in loaded) leaves is none (ap text_in (sym there)) last)
    loaded_so before o h reply asked told reach is none = (queue_stays past new_items (left_by (loads o h) reply asked told (message_off o h reply)) box, tt)

    -- a message is stored
    module _ (text : List ℕ) (o : Opened) (h : Head) (asked : e.op ≡ message_store o h.put text) (reach : Reach s.opening (eff_of past) e.proc u o.address) (is : h ≡ head_at past) (none : judged (Put text) h ≡ None) (good : IsText text) where
      held_here : Holds s.opening (eff_of past) u h box.between
      held_here = subst (λ x. Holds s.opening (eff_of past) u x box.between) (sym is) box.holds

      free : length box.between < 56
      free = not_full text h (length box.between) none held_here.count held_here.few

      not_numbers : stores_numbers e.op ≡ false
      not_numbers = ap stores_numbers asked ∙ ap (λ n. n == 16) (message_size text good)

      none_counts : counts s u past e ≡ false
      none_counts = ap (λ b. stores_to s.opening past e u && b) not_numbers ∙ nothing (stores_to s.opening past e u)
        where
          nothing : (b : Bool) → (b && false) ≡ false
          nothing true = refl
          nothing false = refl

      same_puts : puts s u new_items ≡ puts s u past
      same_puts = ap (λ b. puts s u past ++ one_if b (text_put (command_of s past e))) none_counts ∙ append-nil (puts s u past)

      same_takes : takes s u new_items ≡ takes s u past
      same_takes = ap (λ b. takes s u past ++ one_if b (text_taken (command_of s past e) (own_in past e.proc))) none_counts ∙ append-nil (takes s u past)

      same_head : head_at new_items ≡ h
      same_head = ap (λ xs. head_with (length xs) (length (takes s u new_items))) same_puts ∙ ap (λ xs. head_with (length (puts s u past)) (length xs)) same_takes ∙ sym is

      effects : e.reply ≡ Fine → eff_of new_items ≡ Writes e.proc (Addr (o.address + place_of h.put)) (message_bytes text) ∷ eff_of past
      effects told = ap (λ r. store_effect e.proc e.op r ++ eff_of past) told ∙ ap (λ op. store_effect e.proc op Fine ++ eff_of past) asked

      stored_now : e.reply ≡ Fine → Turned (Goes (behind_stored u (Put text) o h Fine))
      stored_now told =
          let at = place_reached o.address h.put reach in
          let spot = Addr (o.address + place_of h.put) in
          let holds = subst (λ x. Holds s.opening x u h box.between) (sym (effects told)) (message_keeps s.opening (eff_of past) e.proc spot u h box.between text held_here free good at) in
          let there = subst (λ x. HasText s.opening x u h.put text) (sym (effects told)) (message_there s.opening (eff_of past) e.proc spot u h box.between text held_here free good at) in (
            record {
              between = box.between;
              order = same_puts ∙ box.order ∙ ap (λ xs. xs ++ box.between) (sym same_takes);
              holds = subst (λ x. Holds s.opening (eff_of new_items) u x box.between) (sym same_head) holds;
            },
            (sym same_head, none, there),
          )

      stored_so : (reply : Reply) → e.reply ≡ reply → Turned (Goes (behind_stored u (Put text) o h reply))
      stored_so Fine told = stored_now told
      stored_so reply told = (queue_stays past new_items (left_by (message_store o h.put text) reply asked told refl) box, tt)

    -- numbers are stored
    module _ (o : Opened) (h : Head) (command : Command) (w : MailWork) (is_command : command_of s past e ≡ Some command) (works : work_of command ≡ Some w) (reach : Reach s.opening (eff_of past) e.proc u o.address) (is : h ≡ head_at past)
        (few : length new_items < 2 ^ 64 - 1) where
      holds_here : Holds s.opening (eff_of past) u h box.between
      holds_here = subst (λ x. Holds s.opening (eff_of past) u x box.between) (sym is) box.holds

      stores_here : (after : Head) → e.op ≡ numbers_store o after → e.reply ≡ Fine → counts s u past e ≡ true
      stores_here after asked told =
          ap (λ r. is_named (stored_in s.opening (eff_of past) e.proc e.op r) u && stores_numbers e.op) told
          ∙ ap (λ op. is_named (stored_in s.opening (eff_of past) e.proc op Fine) u && stores_numbers op) asked
          ∙ ap (λ t. is_named (object_of t) u && true) (first_reached o.address reach)
          ∙ ap (λ b. b && true) (same_uid-itself u)

      effects_now : (after : Head) → e.op ≡ numbers_store o after → e.reply ≡ Fine → eff_of new_items ≡ Writes e.proc (Addr o.address) (head_bytes after) ∷ eff_of past
      effects_now after asked told = ap (λ r. store_effect e.proc e.op r ++ eff_of past) told ∙ ap (λ op. store_effect e.proc op Fine ++ eff_of past) asked

      -- a text is put
      put_counts : (text : List ℕ) → IsSameWork w (Put text) → e.op ≡ numbers_store o (one_put h) → e.reply ≡ Fine → judged (Put text) h ≡ None → HasText s.opening (eff_of past) u h.put text → HoldsQueue new_items
      put_counts text same asked told none there =
          let counted_now = stores_here (one_put h) asked told in
          let more : puts s u new_items ≡ puts s u past ++ text ∷ [] =
          ap (λ b. puts s u past ++ one_if b (text_put (command_of s past e))) counted_now
          ∙ ap (λ t. puts s u past ++ one_if true t) (ap text_put is_command ∙ put_is command w text works same) in
          let none_more : takes s u new_items ≡ takes s u past =
          ap (λ b. takes s u past ++ one_if b (text_taken (command_of s past e) (own_in past e.proc))) counted_now
          ∙ ap (λ t. takes s u past ++ one_if true t) (ap (λ c. text_taken c (own_in past e.proc)) is_command ∙ put_takes_not command w text (own_in past e.proc) works same)
          ∙ append-nil (takes s u past) in
          let put_more : length (puts s u new_items) ≡ h.put + 1 = ap length more ∙ length-append (puts s u past) (text ∷ []) ∙ ap (λ (x : Head). x.put + 1) (sym is) in
          let head_more : head_at new_items ≡ one_put h = ap (λ n. head_with n (length (takes s u new_items))) put_more ∙ ap (λ xs. head_with (h.put + 1) (length xs)) none_more ∙ ap (λ (x : Head). head_with (h.put + 1) x.taken) (sym is) in
          let room : h.put + 1 < 2 ^ 64 - 1 = omega (arith, put_more, few, puts_few new_items) in
          let holds = put_holds s.opening (eff_of past) e.proc (Addr o.address) u h box.between text holds_here there (not_full text h (length box.between) none holds_here.count holds_here.few) room (first_reached o.address reach) in
          record {
            between = box.between ++ text ∷ [];
            order = more ∙ ap (λ xs. xs ++ text ∷ []) box.order ∙ append_assoc (takes s u past) box.between (text ∷ []) ∙ ap (λ xs. xs ++ (box.between ++ text ∷ [])) (sym none_more);
            holds = subst (λ x. Holds s.opening (eff_of new_items) u x (box.between ++ text ∷ [])) (sym head_more) (subst (λ x. Holds s.opening x u (one_put h) (box.between ++ text ∷ [])) (sym (effects_now (one_put h) asked told)) holds);
          }

      -- the first is taken
      take_counts : (text : List ℕ) → IsSameWork w (Take text) → e.op ≡ numbers_store o (one_taken h) → e.reply ≡ Fine → judged (Take text) h ≡ None → text_in (message_of s.opening (eff_of past) u h.taken) ≡ Some text
          → last_loaded (own_in past e.proc) ≡ Some text → HoldsQueue new_items
      take_counts text same asked told none there last =
          let counted_now = stores_here (one_taken h) asked told in
          let first = first_of box.between (not_empty text h (length box.between) none holds_here.count) in
          let rest = first.1 in
          let is_first : box.between ≡ first.0 ∷ rest = first.2 in
          let box_first : Holds s.opening (eff_of past) u h (first.0 ∷ rest) = subst (λ xs. Holds s.opening (eff_of past) u h xs) is_first holds_here in
          let own : text_in (message_of s.opening (eff_of past) u h.taken) ≡ Some first.0 = ap (λ n. text_in (message_of s.opening (eff_of past) u n)) (sym (at_first h.taken)) ∙ (box_first.each 0 (omega arith)).reads in
          let same_text : first.0 ≡ text = same_Some first.0 text (sym own ∙ there) in
          let none_more : puts s u new_items ≡ puts s u past =
          ap (λ b. puts s u past ++ one_if b (text_put (command_of s past e))) counted_now
          ∙ ap (λ t. puts s u past ++ one_if true t) (ap text_put is_command ∙ take_puts_not command w text works same)
          ∙ append-nil (puts s u past) in
          let more : takes s u new_items ≡ takes s u past ++ text ∷ [] =
          ap (λ b. takes s u past ++ one_if b (text_taken (command_of s past e) (own_in past e.proc))) counted_now
          ∙ ap (λ t. takes s u past ++ one_if true t) (ap (λ c. text_taken c (own_in past e.proc)) is_command ∙ take_is command w text (own_in past e.proc) works same ∙ last) in
          let taken_more : length (takes s u new_items) ≡ h.taken + 1 = ap length more ∙ length-append (takes s u past) (text ∷ []) ∙ ap (λ (x : Head). x.taken + 1) (sym is) in
          let head_more : head_at new_items ≡ one_taken h = ap (λ n. head_with (length (puts s u new_items)) n) taken_more ∙ ap (λ xs. head_with (length xs) (h.taken + 1)) none_more ∙ ap (λ (x : Head). head_with x.put (h.taken + 1)) (sym is) in
          let holds = take_holds s.opening (eff_of past) e.proc (Addr o.address) u h first.0 rest box_first (first_reached o.address reach) in
          record {
            between = rest;
            order = none_more ∙ box.order ∙ ap (λ xs. takes s u past ++ xs) is_first ∙ ap (λ t. takes s u past ++ t ∷ rest) same_text ∙ sym (append_assoc (takes s u past) (text ∷ []) rest) ∙ ap (λ xs. xs ++ rest) (sym more);
            holds = subst (λ x. Holds s.opening (eff_of new_items) u x rest) (sym head_more) (subst (λ x. Holds s.opening x u (one_taken h) rest) (sym (effects_now (one_taken h) asked told)) holds);
          }

      counted_done : (work : MailWork) → IsSameWork w work → e.op ≡ numbers_store o (counted work h) → e.reply ≡ Fine → judged work h ≡ None → Ready past e.proc work h → HoldsQueue new_items
      counted_done (Put text) same asked told none ready = put_counts text same asked told none ready
      counted_done (Take text) same asked told none ready = take_counts text same asked told none ready.0 ready.1

      count_so : (work : MailWork) (reply : Reply) → IsSameWork w work → e.op ≡ numbers_store o (counted work h) → e.reply ≡ reply → judged work h ≡ None → Ready past e.proc work h → Turned (Goes (behind_count u work o reply))
      count_so work Fine same asked told none ready = (counted_done work same asked told none ready, tt)
      count_so work reply same asked told none ready = (queue_stays past new_items (left_by (numbers_store o (counted work h)) reply asked told refl) box, tt)

    -- it is closed
    close_so : (work : MailWork) (mapped : Bool) (decided : Option MailResult) (reply : Reply) → e.op ≡ unmap_if mapped u → e.reply ≡ reply → Turned (behind_close u work mapped decided)
    close_so work true decided reply asked told = (queue_stays past new_items (left_by (ops.Unmap u) reply asked told refl) box, tt)
    close_so work false decided reply asked told = (queue_stays past new_items (left_by (ops.Unlock u) reply asked told refl) box, tt)

    message_so : (work : MailWork) (o : Opened) (h : Head) (reply : Reply) → IsWork work → e.op ≡ message_op work o h → e.reply ≡ reply → Reach s.opening (eff_of past) e.proc u o.address → h ≡ head_at past → judged work h ≡ None
        → Turned (Goes (behind_message u work o h reply))
    message_so (Put text) o h reply good asked told reach is none = stored_so text o h asked reach is none good reply told
    message_so (Take text) o h reply good asked told reach is none = loaded_so text o h reply asked told reach is none

    -- so each reply to a machine keeps the queue, and what the machine knows of it
    pub stage_so : (work : MailWork) (decided : Option MailResult) (stage : Stage) (command : Command) (w : MailWork) → command_of s past e ≡ Some command → work_of command ≡ Some w → IsSameWork w work → IsWork work
        → length new_items < 2 ^ 64 - 1 → e.op ≡ stage_op u work stage → OpenedAt s.opening (eff_of past) e.proc u stage → Knows past e.proc work stage → Turned (stage_turn u work decided stage e.reply)
    stage_so work decided Lock command w is_command works same good few asked is_open known = lock_so work e.reply asked refl
    stage_so work decided Length command w is_command works same good few asked is_open known = length_so work e.reply asked refl
    stage_so work decided (Map n) command w is_command works same good few asked is_open known = map_so work n e.reply asked refl known
    stage_so work decided (Numbers o) command w is_command works same good few asked is_open known = numbers_so work o e.reply asked refl is_open known
    stage_so work decided (Message o h) command w is_command works same good few asked is_open known = message_so work o h e.reply good asked refl is_open known.0 known.1
    stage_so work decided (Count o h) command w is_command works same good few asked is_open known = count_so o h command w is_command works is_open known.0 few work e.reply same asked refl known.1 known.2
    stage_so work decided (Close mapped) command w is_command works same good few asked is_open known = close_so work mapped (first_decided decided e.reply) e.reply asked refl
