-- What a machine decides of a mailbox is so: it is never bad, and full or empty where it was found so.
use Rattle.std.proofs.Common.{◌≡◌, ◌<◌, ◌≤◌, ◌+◌, ◌-◌, ◌^◌, ◌∙◌, ℕ, Bool, true, false, Option, Some, None, List, [], ◌∷◌, ◌++◌, length, refl, sym, ap, subst, inl, inr, ◌⊎◌, arith}
use Rattle.std.specs.Prelude.{◌==◌}
use Rattle.std.proofs.lemmas.Bool.Decides.{nat_tests}
use Rattle.std.proofs.lemmas.Option.{same_Some}
use Rattle.uid_names.specs.Names.{ObjectName, ProcName}
use Rattle.uid_names.specs.declared.mode.Mode.TheVariants.{Write}
use Rattle.dom_history.specs.declared.op.Entry.{Entry}
use Rattle.dom_history.specs.declared.op.Op.{Op}
use Rattle.dom_history.specs.declared.op.Op.TheVariants as ops
use Rattle.dom_history.specs.declared.op.Reply.{Reply}
use Rattle.dom_history.specs.declared.op.Reply.TheVariants.{Fine, Size, Bytes, At as MappedAt}
use Rattle.dom_history.specs.declared.op.Spot.TheVariants.{Addr}
use Rattle.dom_history.specs.Bytes.{length_of}
use Rattle.dom_history.specs.Histories.{History, Item, Answered, Acted, before_op, deeds}
use Rattle.dom_history.specs.Legal.{IsAllowed}
use Rattle.dom_history.specs.Mappings.{target}
use Rattle.dom_history.specs.StoreEffects.{store_effects}
use Rattle.script_reader.specs.Scripts.{Content}
use Rattle.mail_box.specs.Boxes.{extent_of, first_head, head_of, is_bad_head, is_empty, is_full, place_of, text_in}
use Rattle.mail_box.specs.Contents.{numbers_by, Holds}
use Rattle.mail_box.specs.Mails.{judged, judged_if, message_load, numbers_load, opened_at, refused_if}
use Rattle.mail_box.specs.States.{message_op, stage_op}
use Rattle.mail_box.specs.Turns.{Turn, Goes, Comes, behind_close, behind_count, behind_length, behind_loaded, behind_lock, behind_map, behind_message, behind_numbers, behind_stored, come_behind, first_decided, known_if, reached, stage_turn, with_text}
use Rattle.mail_box.specs.declared.boxes.Extent.{Extent}
use Rattle.mail_box.specs.declared.boxes.Extent.TheVariants.{New, Torn, Whole}
use Rattle.mail_box.specs.declared.boxes.Head.{Head}
use Rattle.mail_box.specs.declared.mailing.Mailing.{Mailing}
use Rattle.mail_box.specs.declared.mailing.Opened.{Opened}
use Rattle.mail_box.specs.declared.mailing.Stage.{Stage}
use Rattle.mail_box.specs.declared.mailing.Stage.TheVariants.{Lock, Length, Map, Numbers, Message, Count, Close}
use Rattle.mail_box.specs.declared.step.MailResult.{MailResult}
use Rattle.mail_box.specs.declared.step.MailResult.TheVariants as mail_results
use Rattle.mail_box.specs.declared.work.MailWork.{MailWork}
use Rattle.mail_box.specs.declared.work.MailWork.TheVariants.{Put, Take}
use Rattle.mail_box.specs.Queues.{IsGood}
use Rattle.mail_box.proofs.Bad.{bad_numbers}
use Rattle.mail_box.proofs.Holding.{new_empty}
use Rattle.mail_box.proofs.Places.{place_high}
use Rattle.mail_runs.specs.Commands.{number_behind, own_in}
use Rattle.mail_runs.specs.Mailboxes.{IsPlaced, loads_numbers, FindsNothing, HasEntry, IsMeasuredEmpty, IsOpenedBy, LoadsWith}
use Rattle.mail_runs.specs.Texts.{puts, takes}
use Rattle.mail_runs.proofs.Followed.{IsOther}
use Rattle.mail_runs.proofs.Kept.{head_at, taken_text, HoldsQueue, Knows}
use Rattle.mail_runs.proofs.Opened.{OpenedAt}
use Rattle.mail_runs.proofs.Mapped.{Reach}
use Rattle.mail_runs.proofs.Positions.{own_other}
use Rattle.mail_runs.proofs.Told.{load_told}

-- the numbers of a mailbox are good
pub good_head : (put taken n : ℕ) → put ≡ taken + n → n ≤ 56 → put < 2 ^ 64 - 1 → IsGood (record { put = put; taken = taken })
good_head put taken n count few room = record {
  order = omega (arith, count);
  room = λ same. absurd (omega (arith, same, room));
  few = omega (arith, count, few);
}

-- what good numbers decide
decided_by : (full : Bool) (verdict result : MailResult) → refused_if full verdict ≡ Some result → (verdict ≡ result) × (full ≡ true)
decided_by true verdict result e = (same_Some verdict result e, refl)
decided_by false verdict result e = absurd (cc)

full_count : (put taken n : ℕ) → put ≡ taken + n → (put - taken == 56) ≡ true → n ≡ 56
full_count put taken n count e = grind (arith, nat_tests, count, e)

empty_count : (put taken n : ℕ) → put ≡ taken + n → (put == taken) ≡ true → n ≡ 0
empty_count put taken n count e = grind (arith, nat_tests, count, e)

-- the entries of one command
abbrev pub hist : List Item → History
hist items = record { items = items; open_ops = [] }

module _ (s : Content) (u : ObjectName) (p : ProcName) (number : ℕ) where
  entry_more : (P : List Item → Entry → Type 0) (i : Item) (past : List Item) → HasEntry s u (hist past) p number P → HasEntry s u (hist (i ∷ past)) p number P
  entry_more P i past has = record {
    newer = i ∷ has.newer;
    past = has.past;
    entry = has.entry;
    stands = ap (λ xs. i ∷ xs) has.stands;
    own = has.own;
    number_is = has.number_is;
    opened = has.opened;
    is = has.is;
  }

  -- what a result of its machine means
  abbrev pub Means : List Item → MailResult → Type 0
  Means items mail_results.BadMail = ⊥
  Means items mail_results.Full = LoadsWith s u (hist items) p number 56
  Means items mail_results.Empty = LoadsWith s u (hist items) p number 0 ⊎ FindsNothing s u (hist items) p number
  Means items result = Unit {0}

  pub means_more : (i : Item) (past : List Item) (result : MailResult) → Means past result → Means (i ∷ past) result
  means_more i past mail_results.BadMail means = means
  means_more i past mail_results.Full means = entry_more _ i past means
  means_more i past mail_results.Empty (inl means) = inl (entry_more _ i past means)
  means_more i past mail_results.Empty (inr means) = inr (entry_more _ i past means)
  means_more i past mail_results.Put means = tt
  means_more i past (mail_results.Taken text) means = tt
  means_more i past (mail_results.Store reply) means = tt

  abbrev pub DecidedMeans : List Item → Option MailResult → Type 0
  DecidedMeans items None = Unit {0}
  DecidedMeans items (Some result) = Means items result

  decided_more : (i : Item) (past : List Item) (decided : Option MailResult) → DecidedMeans past decided → DecidedMeans (i ∷ past) decided
  decided_more i past None means = tt
  decided_more i past (Some result) means = means_more i past result means

  first_means : (items : List Item) (decided : Option MailResult) (reply : Reply) → DecidedMeans items decided → DecidedMeans items (first_decided decided reply)
  first_means items None Fine means = tt
  first_means items None reply means = tt
  first_means items (Some earlier) reply means = means

  come_means : (items : List Item) (work : MailWork) (decided : Option MailResult) → DecidedMeans items decided → Means items (come_behind work decided)
  come_means items (Put text) None means = tt
  come_means items (Take text) None means = tt
  come_means items work (Some result) means = means

  -- the last of its entries measured the object
  abbrev pub MeasuredAs : List Entry → ℕ → Type 0
  MeasuredAs [] n = ⊥
  MeasuredAs (e ∷ own) n = (e.op ≡ ops.Length u) × (e.reply ≡ Size n)

  measured_empty : (own : List Entry) (n : ℕ) → MeasuredAs own n → n ≡ 0 → IsMeasuredEmpty own u
  measured_empty [] n measured none = absurd measured
  measured_empty (e ∷ own) n measured none = (measured.0, measured.1 ∙ ap Size none)

  abbrev pub MeasuredAt : List Entry → Stage → Type 0
  MeasuredAt own (Map n) = MeasuredAs own n
  MeasuredAt own stage = Unit {0}

  abbrev pub OpenedFor : List Entry → Stage → Type 0
  OpenedFor own Lock = Unit {0}
  OpenedFor own stage = IsOpenedBy s u p number own

  -- what is decided counts where a machine closes
  abbrev pub VerdictAt : List Item → Option MailResult → Stage → Type 0
  VerdictAt items decided (Close mapped) = DecidedMeans items decided
  VerdictAt items decided stage = Unit {0}

  verdict_more : (i : Item) (past : List Item) (decided : Option MailResult) (stage : Stage) → VerdictAt past decided stage → VerdictAt (i ∷ past) decided stage
  verdict_more i past decided (Close mapped) means = decided_more i past decided means
  verdict_more i past decided Lock means = tt
  verdict_more i past decided Length means = tt
  verdict_more i past decided (Map n) means = tt
  verdict_more i past decided (Numbers o) means = tt
  verdict_more i past decided (Message o h) means = tt
  verdict_more i past decided (Count o h) means = tt

  -- what is kept of a machine
  pub record IsSo (items : List Item) (m : Mailing) : Type 0 where
    pub uid : m.uid ≡ u
    pub verdict : VerdictAt items m.decided m.stage
    pub opened : OpenedFor (own_in items p) m.stage
    pub measured : MeasuredAt (own_in items p) m.stage

  abbrev pub TurnSo : List Item → Turn → Type 0
  TurnSo items (Goes m) = IsSo items m
  TurnSo items (Comes result) = Means items result

  own_stays : (i : Item) (past : List Item) → IsOther p i → own_in (i ∷ past) p ≡ own_in past p
  own_stays (Acted a) past other = refl
  own_stays (Answered e) past other = own_other s p e past other

  pub other_so : (i : Item) (past : List Item) (m : Mailing) → IsOther p i → IsSo past m → IsSo (i ∷ past) m
  other_so i past m other so = record {
    uid = so.uid;
    verdict = verdict_more i past m.decided m.stage so.verdict;
    opened = subst (λ own. OpenedFor own m.stage) (sym (own_stays i past other)) so.opened;
    measured = subst (λ own. MeasuredAt own m.stage) (sym (own_stays i past other)) so.measured;
  }

  -- an entry of its machine, where what the mailbox holds is known
  module _ (e : Entry) (past : List Item) (mine : e.proc ≡ p) (own_is : own_in (Answered e ∷ past) p ≡ e ∷ own_in past p) (allowed : IsAllowed (before_op s.opening past p) p e.op e.reply) (box : HoldsQueue s u past)
      (number_is : number_behind s past p ≡ number) where
    abbrev items : List Item
    items = Answered e ∷ past

    allowed_by : (op : Op) (reply : Reply) → e.op ≡ op → e.reply ≡ reply → IsAllowed (before_op s.opening past p) p op reply
    allowed_by op reply asked told = subst (λ r. IsAllowed (before_op s.opening past p) p op r) told (subst (λ o. IsAllowed (before_op s.opening past p) p o e.reply) asked allowed)

    -- it stays open
    opened_more : IsOpenedBy s u p number (own_in past p) → IsOpenedBy s u p number (own_in items p)
    opened_more opened = record {
      newer = e ∷ opened.newer;
      older = opened.older;
      lock = opened.lock;
      stands = own_is ∙ ap (λ own. e ∷ own) opened.stands;
      asked = opened.asked;
      granted = opened.granted;
      number_is = opened.number_is;
    }

    opened_now : e.op ≡ ops.Lock u Write → e.reply ≡ Fine → IsOpenedBy s u p number (own_in items p)
    opened_now asked granted = record { newer = []; older = own_in past p; lock = e; stands = own_is; asked = asked; granted = granted; number_is = number_is }

    -- where it goes on with nothing decided
    plain : (m : Mailing) → m.uid ≡ u → VerdictAt items m.decided m.stage → OpenedFor (own_in items p) m.stage → MeasuredAt (own_in items p) m.stage → IsSo items m
    plain m uid verdict opened measured = record { uid = uid; verdict = verdict; opened = opened; measured = measured }

    lock_so : (work : MailWork) (reply : Reply) → e.op ≡ ops.Lock u Write → e.reply ≡ reply → TurnSo items (behind_lock u work reply)
    lock_so work Fine asked told = plain _ refl tt (opened_now asked told) tt
    lock_so work reply asked told = tt

    length_so : (work : MailWork) (reply : Reply) → e.op ≡ ops.Length u → e.reply ≡ reply → IsOpenedBy s u p number (own_in past p) → IsSo items (behind_length u work reply)
    length_so work (Size n) asked told opened = plain _ refl tt (opened_more opened) (subst (λ own. MeasuredAs own n) (sym own_is) (asked, told))
    length_so work reply asked told opened = plain _ refl tt (opened_more opened) tt

    -- numbers that are known decide so
    judged_good : (work : MailWork) (h : Head) (result : MailResult) → h ≡ head_at s u past → judged work h ≡ Some result → ((length (puts s u past) ≡ length (takes s u past) + 56) × (result ≡ mail_results.Full)) ⊎ ((length (puts s u past) ≡ length (takes s u past) + 0) × (result ≡ mail_results.Empty))
    judged_good work h result is found = by_work work found
      where
        holds : Holds s.opening (store_effects (deeds past)) u h box.between
        holds = subst (λ x. Holds s.opening (store_effects (deeds past)) u x box.between) (sym is) box.holds

        good : is_bad_head h ≡ false
        good = (bad_numbers h).1 (good_head h.put h.taken (length box.between) holds.count holds.few holds.room)

        -- as they count
        counted : (n : ℕ) → length box.between ≡ n → length (puts s u past) ≡ length (takes s u past) + n
        counted n same = ap (λ (x : Head). x.put) (sym is) ∙ (holds.count ∙ (ap (λ k. h.taken + k) same ∙ ap (λ (x : Head). x.taken + n) is))

        by_work : (w : MailWork) → judged w h ≡ Some result → ((length (puts s u past) ≡ length (takes s u past) + 56) × (result ≡ mail_results.Full)) ⊎ ((length (puts s u past) ≡ length (takes s u past) + 0) × (result ≡ mail_results.Empty))
        by_work (Put text) found =
            let decided = decided_by (is_full h) mail_results.Full result (sym (ap (λ b. judged_if b (refused_if (is_full h) mail_results.Full)) good) ∙ found) in
            inl (counted 56 (full_count h.put h.taken (length box.between) holds.count decided.1), sym decided.0)
        by_work (Take text) found =
            let decided = decided_by (is_empty h) mail_results.Empty result (sym (ap (λ b. judged_if b (refused_if (is_empty h) mail_results.Empty)) good) ∙ found) in
            inr (counted 0 (empty_count h.put h.taken (length box.between) holds.count decided.1), sym decided.0)

    -- the entry loads them
    loads_so : (n : ℕ) → loads_numbers e.op e.reply ≡ true → IsOpenedBy s u p number (own_in past p) → length (puts s u past) ≡ length (takes s u past) + n → LoadsWith s u (hist items) p number n
    loads_so n loads opened count = record { newer = []; past = past; entry = e; stands = refl; own = mine; number_is = number_is; opened = opened; is = (loads, count) }

    loaded_means : (work : MailWork) (h : Head) (result : MailResult) → loads_numbers e.op e.reply ≡ true → IsOpenedBy s u p number (own_in past p) → h ≡ head_at s u past → judged work h ≡ Some result → Means items result
    loaded_means work h result loads opened is found = by_result (judged_good work h result is found)
      where
        by_result : ((length (puts s u past) ≡ length (takes s u past) + 56) × (result ≡ mail_results.Full)) ⊎ ((length (puts s u past) ≡ length (takes s u past) + 0) × (result ≡ mail_results.Empty)) → Means items result
        by_result (inl full) = subst (Means items) (sym full.1) (loads_so 56 loads opened full.0)
        by_result (inr empty) = subst (Means items) (sym empty.1) (inl (loads_so 0 loads opened empty.0))

    known_so : (work : MailWork) (o : Opened) (h : Head) (found : Option MailResult) → loads_numbers e.op e.reply ≡ true → IsOpenedBy s u p number (own_in past p) → h ≡ head_at s u past → judged work h ≡ found → IsSo items (known_if u work o h found)
    known_so work o h None loads opened is found = plain _ refl tt (opened_more opened) tt
    known_so work o h (Some result) loads opened is found = plain _ refl (loaded_means work h result loads opened is found) (opened_more opened) tt

    -- one without a byte is empty
    nothing_so : (work : MailWork) (o : Opened) → FindsNothing s u (hist items) p number → IsOpenedBy s u p number (own_in past p) → IsSo items (known_if u work o first_head (judged work first_head))
    nothing_so (Put text) o nothing opened = plain _ refl tt (opened_more opened) tt
    nothing_so (Take text) o nothing opened = plain _ refl (inr nothing) (opened_more opened) tt

    finds_so : (a n : ℕ) (fresh : Bool) → e.op ≡ ops.Map u → e.reply ≡ MappedAt a fresh → MeasuredAs (own_in past p) n → n ≡ 0 → IsOpenedBy s u p number (own_in past p) → FindsNothing s u (hist items) p number
    finds_so a n fresh asked told measured none opened = record {
      newer = [];
      past = past;
      entry = e;
      stands = refl;
      own = mine;
      number_is = number_is;
      opened = opened;
      is = (subst (λ r. IsPlaced e.op r u) (sym told) (subst (λ o. IsPlaced o (MappedAt a fresh) u) (sym asked) refl), measured_empty (own_in past p) n measured none);
    }

    reached_so : (work : MailWork) (o : Opened) (n : ℕ) (x : Extent) → extent_of n ≡ x → n ≡ length_of s.opening (store_effects (deeds past)) u → (n ≡ 0 → FindsNothing s u (hist items) p number) → IsOpenedBy s u p number (own_in past p)
        → IsSo items (reached u work o x)
    reached_so work o n New is long finds opened = nothing_so work o (finds (new_empty n is)) opened
    reached_so work o n Torn is long finds opened = absurd (box.holds.whole (sym (ap extent_of long) ∙ is))
    reached_so work o n Whole is long finds opened = plain _ refl tt (opened_more opened) tt

    map_so : (work : MailWork) (n : ℕ) (reply : Reply) → e.op ≡ ops.Map u → e.reply ≡ reply → MeasuredAs (own_in past p) n → n ≡ length_of s.opening (store_effects (deeds past)) u → IsOpenedBy s u p number (own_in past p) → IsSo items (behind_map u work n reply)
    map_so work n (MappedAt a fresh) asked told measured long opened =
        reached_so work (opened_at a fresh) n (extent_of n) refl long (λ none. finds_so a n fresh asked told measured none opened) opened
    map_so work n reply asked told measured long opened = plain _ refl tt (opened_more opened) tt

    at_first : (a : ℕ) → a + 0 ≡ a
    at_first a = omega arith

    numbers_so : (work : MailWork) (o : Opened) (reply : Reply) → e.op ≡ numbers_load o → e.reply ≡ reply → Reach s.opening (store_effects (deeds past)) p u o.address → extent_of (length_of s.opening (store_effects (deeds past)) u) ≡ Whole
        → IsOpenedBy s u p number (own_in past p) → IsSo items (behind_numbers u work o reply)
    numbers_so work o (Bytes loaded) asked told reach whole opened =
        let eff = store_effects (deeds past) in
        let at : target s.opening eff p (Addr o.address) ≡ Some (record { uid = u; offset = 0 }) = ap (λ x. target s.opening eff p (Addr x)) (sym (at_first o.address)) ∙ reach 0 (omega arith) in
        let there = load_told (before_op s.opening past p) p (Addr o.address) 16 loaded u 0 at (allowed_by (numbers_load o) (Bytes loaded) asked told) in
        let is : head_of loaded ≡ head_at s u past = ap head_of there ∙ (sym (ap (numbers_by s.opening eff u) whole) ∙ box.holds.numbers) in
        let loads : loads_numbers e.op e.reply ≡ true = ap (loads_numbers e.op) told ∙ ap (λ op. loads_numbers op (Bytes loaded)) asked in
        known_so work o (head_of loaded) (judged work (head_of loaded)) loads opened is refl
    numbers_so work o reply asked told reach whole opened = plain _ refl tt (opened_more opened) tt

    stored_so : (text : List ℕ) (o : Opened) (h : Head) (reply : Reply) → IsOpenedBy s u p number (own_in past p) → IsSo items (behind_stored u (Put text) o h reply)
    stored_so text o h Fine opened = plain _ refl tt (opened_more opened) tt
    stored_so text o h reply opened = plain _ refl tt (opened_more opened) tt

    -- what is taken has a text
    text_so : (before text : List ℕ) (o : Opened) (h : Head) (found : Option (List ℕ)) → found ≡ Some text → IsOpenedBy s u p number (own_in past p) → IsSo items (with_text u (Take before) o h found)
    text_so before text o h None is opened = absurd (cc)
    text_so before text o h (Some other) is opened = plain _ refl tt (opened_more opened) tt

    loaded_so : (before : List ℕ) (o : Opened) (h : Head) (reply : Reply) → e.op ≡ message_load o h.taken → e.reply ≡ reply → Reach s.opening (store_effects (deeds past)) p u o.address → h ≡ head_at s u past → judged (Take before) h ≡ None
        → IsOpenedBy s u p number (own_in past p) → IsSo items (behind_loaded u (Take before) o h reply)
    loaded_so before o h (Bytes loaded) asked told reach is none opened =
        let there = load_told (before_op s.opening past p) p (Addr (o.address + place_of h.taken)) 128 loaded u (place_of h.taken) (reach (place_of h.taken) (omega (arith, place_high h.taken))) (allowed_by (message_load o h.taken) (Bytes loaded) asked told) in
        let text = taken_text s u past before h box is none in
        text_so before text.0 o h (text_in loaded) (ap text_in there ∙ text.1) opened
    loaded_so before o h reply asked told reach is none opened = plain _ refl tt (opened_more opened) tt

    message_so : (work : MailWork) (o : Opened) (h : Head) (reply : Reply) → e.op ≡ message_op work o h → e.reply ≡ reply → Reach s.opening (store_effects (deeds past)) p u o.address → h ≡ head_at s u past → judged work h ≡ None
        → IsOpenedBy s u p number (own_in past p) → IsSo items (behind_message u work o h reply)
    message_so (Put text) o h reply asked told reach is none opened = stored_so text o h reply opened
    message_so (Take before) o h reply asked told reach is none opened = loaded_so before o h reply asked told reach is none opened

    count_so : (work : MailWork) (o : Opened) (reply : Reply) → IsOpenedBy s u p number (own_in past p) → IsSo items (behind_count u work o reply)
    count_so work o Fine opened = plain _ refl tt (opened_more opened) tt
    count_so work o reply opened = plain _ refl tt (opened_more opened) tt

    close_so : (work : MailWork) (mapped : Bool) (decided : Option MailResult) (reply : Reply) → DecidedMeans past decided → IsOpenedBy s u p number (own_in past p) → TurnSo items (behind_close u work mapped (first_decided decided reply))
    close_so work true decided reply means opened = plain _ refl (first_means items decided reply (decided_more (Answered e) past decided means)) (opened_more opened) tt
    close_so work false decided reply means opened = come_means items work (first_decided decided reply) (first_means items decided reply (decided_more (Answered e) past decided means))

    -- each reply to it keeps it so
    pub stage_so : (work : MailWork) (decided : Option MailResult) (stage : Stage) → e.op ≡ stage_op u work stage → VerdictAt past decided stage → OpenedFor (own_in past p) stage → MeasuredAt (own_in past p) stage
        → OpenedAt s.opening (store_effects (deeds past)) p u stage → Knows s u past p work stage → TurnSo items (stage_turn u work decided stage e.reply)
    stage_so work decided Lock asked means opened measured is_open known = lock_so work e.reply asked refl
    stage_so work decided Length asked means opened measured is_open known = length_so work e.reply asked refl opened
    stage_so work decided (Map n) asked means opened measured is_open known = map_so work n e.reply asked refl measured known opened
    stage_so work decided (Numbers o) asked means opened measured is_open known = numbers_so work o e.reply asked refl is_open known opened
    stage_so work decided (Message o h) asked means opened measured is_open known = message_so work o h e.reply asked refl is_open known.0 known.1 opened
    stage_so work decided (Count o h) asked means opened measured is_open known = count_so work o e.reply opened
    stage_so work decided (Close mapped) asked means opened measured is_open known = close_so work mapped decided e.reply means opened

-- a verdict that is closed upon is the result
abbrev pub IsClosing : Stage → Type 0
IsClosing (Close mapped) = Unit {0}
IsClosing stage = ⊥

abbrev pub HasVerdict : MailResult → List Item → Mailing → Type 0
HasVerdict verdict items m = (m.decided ≡ Some verdict) × IsClosing m.stage

abbrev pub IsVerdict : MailResult → List Item → MailResult → Type 0
IsVerdict verdict items result = result ≡ verdict

abbrev pub VerdictTurn : MailResult → Turn → Type 0
VerdictTurn verdict (Goes m) = (m.decided ≡ Some verdict) × IsClosing m.stage
VerdictTurn verdict (Comes result) = result ≡ verdict

verdict_closes : (verdict : MailResult) (u : ObjectName) (work : MailWork) (mapped : Bool) (decided : Option MailResult) (reply : Reply) → decided ≡ Some verdict → VerdictTurn verdict (behind_close u work mapped (first_decided decided reply))
verdict_closes verdict u work true (Some earlier) reply is = (is, tt)
verdict_closes verdict u work false (Some earlier) reply is = same_Some earlier verdict is
verdict_closes verdict u work mapped None reply is = absurd (cc)

pub verdict_stays : (verdict : MailResult) (u : ObjectName) (work : MailWork) (decided : Option MailResult) (stage : Stage) (reply : Reply) → decided ≡ Some verdict → IsClosing stage → VerdictTurn verdict (stage_turn u work decided stage reply)
verdict_stays verdict u work decided (Close mapped) reply is closing = verdict_closes verdict u work mapped decided reply is
verdict_stays verdict u work decided _ reply is closing = absurd closing
