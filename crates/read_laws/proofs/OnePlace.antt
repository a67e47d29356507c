-- The loads of an object that is read whole are of one place, in every history of one store where nothing is open.
use Rattle.std.proofs.Common.{◌≡◌, ◌+◌, ◌-◌, ℕ, zero, suc, Bool, true, false, if◌then◌else◌, Some, List, [], ◌∷◌, ◌++◌, refl, ap, sym, subst, ◌∙◌}
use Rattle.std.specs.Prelude.{cond}
use Rattle.std.proofs.lemmas.Bool.{false≢true}
use Rattle.std.proofs.lemmas.Option.{none-some, same_Some}
use Rattle.uid_names.specs.Names.{ObjectName, ProcName, same_proc}
use Rattle.uid_names.specs.Openings.{Start}
use Rattle.uid_names.specs.declared.mode.Mode.TheVariants.{Read}
use Rattle.uid_names.proofs.Orders.{same_uid-itself}
use Rattle.dom_history.specs.declared.deed.Deed.{Deed}
use Rattle.dom_history.specs.declared.deed.LockState.{LockState}
use Rattle.dom_history.specs.declared.deed.LockState.TheVariants.{Held}
use Rattle.dom_history.specs.declared.op.Entry.{Entry}
use Rattle.dom_history.specs.declared.op.Op.{Op}
use Rattle.dom_history.specs.declared.op.Op.TheVariants.{Delete, Length, Lock, Map, Unlock}
use Rattle.dom_history.specs.declared.op.Reply.{Reply}
use Rattle.dom_history.specs.declared.op.Reply.TheVariants.{At, Bytes, Fine, Size}
use Rattle.dom_history.specs.Bytes.{byte, bytes_from}
use Rattle.dom_history.specs.Histories.{Acted, Answered, History, IsRising, Item, Pending, entries, told as told_of}
use Rattle.dom_history.specs.Legal.{AreLegal, IsLegal}
use Rattle.dom_history.specs.Locks.{not_free, state, state_after}
use Rattle.dom_history.specs.StoreEffects.{StoreEffect, own}
use Rattle.dom_history.proofs.Tables.{state_in-lines_after}
use Rattle.naming_tree.specs.Dialogues.{asked, told}
use Rattle.naming_tree.specs.Entering.{pages}
use Rattle.naming_tree.specs.Sessions.{closers_if}
use Rattle.mapped_streams.specs.declared.mapped.Opened.{Opened}
use Rattle.mapped_streams.specs.declared.step.StreamResult.TheVariants as results
use Rattle.mapped_streams.specs.Dialogues.{Dialogue}
use Rattle.mapped_streams.specs.Pages.{page_load}
use Rattle.mapped_streams.specs.Streams.{closing, mapping, measuring, read_all, shutting}
use Rattle.read_laws.specs.Carrying.{CarriesOn, carried, told_if}
use Rattle.read_laws.specs.Loads.{LoadTells, LoadsTell, done}
use Rattle.read_laws.specs.OnePlace.{AreOfOnePlace, LoadTellsAt, LoadsTellAt}
use Rattle.read_laws.specs.Staying.{HasSame, KnowsItReads}
use Rattle.read_laws.proofs.Reading.{AreQuiet, closers-quiet, loads-tell, loads_left, loads_no, no-load, open_now}
use Rattle.read_laws.proofs.Staying.{item-stays, older-legal, older-rising}

-- operations on no lock
abbrev is_no_lock : Op → Bool
is_no_lock (Lock u m) = false
is_no_lock (Unlock u) = false
is_no_lock (Delete u) = false
is_no_lock _ = true

module _ (opening : Start) (p : ProcName) (u : ObjectName) where
  -- what stays has the same bytes
  from-same : (past later : List StoreEffect) (o n : ℕ) → HasSame opening u past later → bytes_from opening past u o n ≡ bytes_from opening later u o n
  from-same past later o zero same = refl
  from-same past later o (suc n) same = ap (λ (bytes : List ℕ). bytes ++ byte opening past u (o + n) ∷ []) (from-same past later o n same) ∙ ap (λ (b : ℕ). bytes_from opening later u o n ++ b ∷ []) (sym (same.bytes (o + n)))

  item-at : (past later : List StoreEffect) (before : List Item) (i : Item) → HasSame opening u past later → LoadTellsAt opening p u past before i → LoadTellsAt opening p u later before i
  item-at past later before (Answered e) same tells = λ mine spot n bytes op reply.
      let one = tells mine spot n bytes op reply in record { offset = one.offset; named = one.named; are = one.are ∙ from-same past later one.offset n same }
  item-at past later before (Acted a) same tells = tt

  all-at : (past later : List StoreEffect) (older items : List Item) → HasSame opening u past later → LoadsTellAt opening p u past older items → LoadsTellAt opening p u later older items
  all-at past later older [] same tells = tt
  all-at past later older (i ∷ items) same tells = (item-at past later (items ++ older) i same tells.0, all-at past later older items same tells.1)

  -- an item that is no load of the process
  abbrev TellsNone : Item → Type 0
  TellsNone i = (place : List StoreEffect) (past : List Item) → LoadTellsAt opening p u place past i

  none-other : (e : Entry) → same_proc e.proc p ≡ false → TellsNone (Answered e)
  none-other e other place past = λ mine spot n bytes op reply. absurd (false≢true (sym other ∙ mine))

  none-quiet : (e : Entry) → loads_no e.op ≡ true → TellsNone (Answered e)
  none-quiet e quiet place past = λ mine spot n bytes op reply. absurd (no-load e.op spot n quiet op)

  none-refused : (e : Entry) → ((bytes : List ℕ) → e.reply ≡ Bytes bytes → ⊥) → TellsNone (Answered e)
  none-refused e refused place past = λ mine spot n bytes op reply. absurd (refused bytes reply)

  abbrev AllNone : List Item → Type 0
  AllNone [] = Unit {0}
  AllNone (i ∷ items) = TellsNone i × AllNone items

  none-at : (place : List StoreEffect) (older items : List Item) → AllNone items → LoadsTellAt opening p u place older items
  none-at place older [] none = tt
  none-at place older (i ∷ items) none = (none.0 place (items ++ older), none-at place older items none.1)

  module _ (older : List Item) where
    abbrev here : List Item → List StoreEffect
    here items = done (items ++ older)

    -- the object is open: it is held in Read, and all loads so far are of the place where the items end
    record IsOpen (items : List Item) : Type 0 where
      reads : KnowsItReads p u (items ++ older)
      tell : LoadsTellAt opening p u (here items) older items

    -- how far the reading has come
    data Reads (items : List Item) (d : Dialogue) : Type 0 where
      locks : d ≡ read_all u → AllNone items → Reads items d
      measures : d ≡ measuring u (open_now opening p u) → IsOpen items → Reads items d
      maps : (n : ℕ) → d ≡ mapping u n (open_now opening p u) → IsOpen items → Reads items d
      loads : (o : Opened) (page k : ℕ) (text : List ℕ) → d ≡ loads_left opening p u o page k text → IsOpen items → Reads items d
      shuts : (ops : List Op) (text : List ℕ) → d ≡ shutting ops (results.Bytes text) → AreQuiet ops → AreOfOnePlace opening p u older items → Reads items d
      fails : (ops : List Op) (reply : Reply) → d ≡ closing ops (results.Store reply) → AreQuiet ops → AreOfOnePlace opening p u older items → Reads items d

    -- the place is where the items end, or one before
    place-now : (items : List Item) (place : List StoreEffect) → place ≡ here items → (i : Item) → TellsNone i → LoadsTellAt opening p u place older items → AreOfOnePlace opening p u older (i ∷ items)
    place-now items place is i none tell = record {
      later = i ∷ [];
      now = items;
      split = refl;
      tell = (none (here items) (items ++ older), subst (λ (x : List StoreEffect). LoadsTellAt opening p u x older items) is tell);
    }

    place-later : (items : List Item) (i : Item) → TellsNone i → AreOfOnePlace opening p u older items → AreOfOnePlace opening p u older (i ∷ items)
    place-later items i none one = record {
      later = i ∷ one.later;
      now = one.now;
      split = ap (λ (is : List Item). i ∷ is) one.split;
      tell = (none (here one.now) (items ++ older), one.tell);
    }

    -- an item that is no load, and leaves what the process knows, leaves it where it is
    open-on : (items : List Item) (i : Item) → KnowsItReads p u (i ∷ (items ++ older)) → HasSame opening u (here items) (here (i ∷ items)) → LoadTellsAt opening p u (here items) (items ++ older) i → IsOpen items → IsOpen (i ∷ items)
    open-on items i knows same tells open_so = record {
      reads = knows;
      tell = (item-at (here items) (here (i ∷ items)) (items ++ older) i same tells, all-at (here items) (here (i ∷ items)) older items same open_so.tell);
    }

    passed : (items : List Item) (d : Dialogue) (i : Item) → TellsNone i → (KnowsItReads p u (items ++ older) → KnowsItReads p u (i ∷ (items ++ older)))
        → (KnowsItReads p u (items ++ older) → HasSame opening u (here items) (here (i ∷ items))) → Reads items d → Reads (i ∷ items) d
    passed items d i none knows same (locks is all) = locks is (none, all)
    passed items d i none knows same (measures is op) = measures is (open-on items i (knows op.reads) (same op.reads) (none (here items) (items ++ older)) op)
    passed items d i none knows same (maps n is op) = maps n is (open-on items i (knows op.reads) (same op.reads) (none (here items) (items ++ older)) op)
    passed items d i none knows same (loads o page k text is op) = loads o page k text is (open-on items i (knows op.reads) (same op.reads) (none (here items) (items ++ older)) op)
    passed items d i none knows same (shuts ops text is quiet one) = shuts ops text is quiet (place-later items i none one)
    passed items d i none knows same (fails ops reply is quiet one) = fails ops reply is quiet (place-later items i none one)

    -- so far all loads are of one place
    one-place : (items : List Item) (d : Dialogue) → Reads items d → AreOfOnePlace opening p u older items
    one-place items d (locks is all) = record { later = []; now = items; split = refl; tell = none-at (here items) older items all }
    one-place items d (measures is op) = record { later = []; now = items; split = refl; tell = op.tell }
    one-place items d (maps n is op) = record { later = []; now = items; split = refl; tell = op.tell }
    one-place items d (loads o page k text is op) = record { later = []; now = items; split = refl; tell = op.tell }
    one-place items d (shuts ops text is quiet one) = one
    one-place items d (fails ops reply is quiet one) = one

    -- an entry of the process, which is what the reading asks
    module _ (items : List Item) (e : Entry) (grants : e.op ≡ Lock u Read → e.reply ≡ Fine → KnowsItReads p u (Answered e ∷ (items ++ older)))
        (keeps : is_no_lock e.op ≡ true → KnowsItReads p u (items ++ older) → KnowsItReads p u (Answered e ∷ (items ++ older)))
        (same : KnowsItReads p u (items ++ older) → HasSame opening u (here items) (here (Answered e ∷ items)))
        (tells : LoadTellsAt opening p u (here items) (items ++ older) (Answered e)) where
      abbrev more_items : List Item
      more_items = Answered e ∷ items

      quiet-now : loads_no e.op ≡ true → LoadsTellAt opening p u (here items) older items → AreOfOnePlace opening p u older more_items
      quiet-now quiet tell = place-now items (here items) refl (Answered e) (none-quiet e quiet) tell

      quiet-later : loads_no e.op ≡ true → AreOfOnePlace opening p u older items → AreOfOnePlace opening p u older more_items
      quiet-later quiet one = place-later items (Answered e) (none-quiet e quiet) one

      open-more : is_no_lock e.op ≡ true → IsOpen items → IsOpen more_items
      open-more free op = open-on items (Answered e) (keeps free op.reads) (same op.reads) tells op

      -- behind the lock
      locked : (reply : Reply) → e.reply ≡ reply → e.op ≡ Lock u Read → AllNone items → Reads more_items (told (read_all u) reply)
      locked Fine is op none = measures refl (record { reads = grants op is; tell = (none-quiet e (ap loads_no op) (here more_items) (items ++ older), none-at (here more_items) older items none) })
      locked reply is op none = fails [] reply refl tt (quiet-now (ap loads_no op) (none-at (here items) older items none))

      -- the length, and the mapping
      measured : (reply : Reply) → e.op ≡ Length u → IsOpen items → Reads more_items (told (measuring u (open_now opening p u)) reply)
      measured (Size n) op open_so = maps n refl (open-more (ap is_no_lock op) open_so)
      measured reply op open_so = fails (Unlock u ∷ []) reply refl (refl, tt) (quiet-now (ap loads_no op) open_so.tell)

      mapped : (n : ℕ) (reply : Reply) → e.op ≡ Map u → IsOpen items → Reads more_items (told (mapping u n (open_now opening p u)) reply)
      mapped n (At a fresh) op open_so =
          let o : Opened = record { at = record { address = a; length = n }; fresh = fresh } in
          loads o 0 (pages n - 0) [] refl (open-more (ap is_no_lock op) open_so)
      mapped n reply op open_so = fails (Unlock u ∷ []) reply refl (refl, tt) (quiet-now (ap loads_no op) open_so.tell)

      -- a load
      refused-now : (reply : Reply) → e.reply ≡ reply → ((bytes : List ℕ) → reply ≡ Bytes bytes → ⊥) → IsOpen items → AreOfOnePlace opening p u older more_items
      refused-now reply is refused open_so = place-now items (here items) refl (Answered e) (none-refused e (λ bytes told_so. refused bytes (sym is ∙ told_so))) open_so.tell

      loaded-on : (o : Opened) (page k : ℕ) (text : List ℕ) (reply : Reply) → e.reply ≡ reply → e.op ≡ page_load o.at page → IsOpen items → Reads more_items (told (loads_left opening p u o page (suc k) text) reply)
      loaded-on o page k text (Bytes more) is op open_so = loads o (page + 1) k (text ++ more) refl (open-more (ap is_no_lock op) open_so)
      loaded-on o page k text reply is op open_so = fails (closers_if o.fresh u) reply refl (closers-quiet o.fresh u) (refused-now reply is (λ bytes told_so. cc) open_so)

      -- what closes it
      shut-on : (ops : List Op) (text : List ℕ) (reply : Reply) → asked (shutting ops (results.Bytes text)) ≡ Some e.op → AreQuiet ops → AreOfOnePlace opening p u older more_items → Reads more_items (told (shutting ops (results.Bytes text)) reply)
      shut-on [] text reply asks quiet one = absurd (none-some e.op asks)
      shut-on (first ∷ ops) text Fine asks quiet one = shuts ops text refl quiet.1 one
      shut-on (first ∷ ops) text reply asks quiet one = fails ops reply refl quiet.1 one

      fail-on : (ops : List Op) (refused reply : Reply) → asked (closing ops (results.Store refused)) ≡ Some e.op → AreQuiet ops → AreOfOnePlace opening p u older more_items → Reads more_items (told (closing ops (results.Store refused)) reply)
      fail-on [] refused reply asks quiet one = absurd (none-some e.op asks)
      fail-on (first ∷ ops) refused reply asks quiet one = fails ops refused refl quiet.1 one

      shut-quiet : (ops : List Op) (text : List ℕ) → asked (shutting ops (results.Bytes text)) ≡ Some e.op → AreQuiet ops → loads_no e.op ≡ true
      shut-quiet [] text asks quiet = absurd (none-some e.op asks)
      shut-quiet (first ∷ ops) text asks quiet = subst (λ (o : Op). loads_no o ≡ true) (same_Some first e.op asks) quiet.0

      fail-quiet : (ops : List Op) (refused : Reply) → asked (closing ops (results.Store refused)) ≡ Some e.op → AreQuiet ops → loads_no e.op ≡ true
      fail-quiet [] refused asks quiet = absurd (none-some e.op asks)
      fail-quiet (first ∷ ops) refused asks quiet = subst (λ (o : Op). loads_no o ≡ true) (same_Some first e.op asks) quiet.0

      loads-on : (o : Opened) (page k : ℕ) (text : List ℕ) → asked (loads_left opening p u o page k text) ≡ Some e.op → IsOpen items → Reads more_items (told (loads_left opening p u o page k text) e.reply)
      loads-on o page zero text asks open_so =
          let ops = closers_if o.fresh u in
          let quiet = closers-quiet o.fresh u in
          shut-on ops text e.reply asks quiet (quiet-now (shut-quiet ops text asks quiet) open_so.tell)
      loads-on o page (suc k) text asks open_so = loaded-on o page k text e.reply refl (sym (same_Some (page_load o.at page) e.op asks)) open_so

      own-on : (d : Dialogue) → asked d ≡ Some e.op → Reads items d → Reads more_items (told d e.reply)
      own-on d asks (locks is none) =
          let op = sym (same_Some (Lock u Read) e.op (ap asked (sym is) ∙ asks)) in
          subst (λ (x : Dialogue). Reads more_items (told x e.reply)) (sym is) (locked e.reply refl op none)
      own-on d asks (measures is open_so) =
          let op = sym (same_Some (Length u) e.op (ap asked (sym is) ∙ asks)) in
          subst (λ (x : Dialogue). Reads more_items (told x e.reply)) (sym is) (measured e.reply op open_so)
      own-on d asks (maps n is open_so) =
          let op = sym (same_Some (Map u) e.op (ap asked (sym is) ∙ asks)) in
          subst (λ (x : Dialogue). Reads more_items (told x e.reply)) (sym is) (mapped n e.reply op open_so)
      own-on d asks (loads o page k text is open_so) = subst (λ (x : Dialogue). Reads more_items (told x e.reply)) (sym is) (loads-on o page k text (ap asked (sym is) ∙ asks) open_so)
      own-on d asks (shuts ops text is quiet one) =
          let here_asks = ap asked (sym is) ∙ asks in
          subst (λ (x : Dialogue). Reads more_items (told x e.reply)) (sym is) (shut-on ops text e.reply here_asks quiet (quiet-later (shut-quiet ops text here_asks quiet) one))
      own-on d asks (fails ops refused is quiet one) =
          let here_asks = ap asked (sym is) ∙ asks in
          subst (λ (x : Dialogue). Reads more_items (told x e.reply)) (sym is) (fail-on ops refused e.reply here_asks quiet (quiet-later (fail-quiet ops refused here_asks quiet) one))

    -- what the process knows behind an entry
    abbrev deed-of : Entry → Deed
    deed-of e = record { proc = e.proc; op = e.op; reply = e.reply }

    grants-it : (items : List Item) (e : Entry) → same_proc e.proc p ≡ true → e.op ≡ Lock u Read → e.reply ≡ Fine → KnowsItReads p u (Answered e ∷ items)
    grants-it items e mine op fine =
        let was = own p (told_of (entries items)) in
        ap (λ (b : Bool). state u (cond b (deed-of e ∷ was) was)) mine
        ∙ state_in-lines_after u e.op e.reply (not_free was)
        ∙ ap (λ (o : Op). state_after u o e.reply (state u was)) op
        ∙ ap (λ (r : Reply). state_after u (Lock u Read) r (state u was)) fine
        ∙ ap (λ (b : Bool). if b then Held Read else state u was) (same_uid-itself u)

    lock-free : (op : Op) (reply : Reply) (s : LockState) → is_no_lock op ≡ true → state_after u op reply s ≡ s
    lock-free (Lock v m) reply s free = absurd (false≢true free)
    lock-free (Unlock v) reply s free = absurd (false≢true free)
    lock-free (Delete v) reply s free = absurd (false≢true free)
    lock-free _ _ s free = refl

    keeps-it : (items : List Item) (e : Entry) → same_proc e.proc p ≡ true → is_no_lock e.op ≡ true → KnowsItReads p u items → KnowsItReads p u (Answered e ∷ items)
    keeps-it items e mine free reads =
        let was = own p (told_of (entries items)) in
        ap (λ (b : Bool). state u (cond b (deed-of e ∷ was) was)) mine ∙ state_in-lines_after u e.op e.reply (not_free was) ∙ lock-free e.op e.reply (state u was) free ∙ reads

    other-keeps : (items : List Item) (e : Entry) → same_proc e.proc p ≡ false → KnowsItReads p u items → KnowsItReads p u (Answered e ∷ items)
    other-keeps items e other reads = let was = own p (told_of (entries items)) in ap (λ (b : Bool). state u (cond b (deed-of e ∷ was) was)) other ∙ reads

    tells-at : (items : List Item) (e : Entry) → LoadTells opening p u (items ++ older) (Answered e) → LoadTellsAt opening p u (here items) (items ++ older) (Answered e)
    tells-at items e tells = λ mine spot n bytes op reply. let one = tells mine spot n bytes op reply in record { offset = one.offset; named = one.named; are = one.are }

    entry-on : (items : List Item) (e : Entry) (b : Bool) → same_proc e.proc p ≡ b → AreLegal opening [] (Answered e ∷ (items ++ older)) → IsRising (items ++ older) → (b ≡ true → asked (carried p (read_all u) items) ≡ Some e.op)
        → LoadTells opening p u (items ++ older) (Answered e) → Reads items (carried p (read_all u) items) → Reads (Answered e ∷ items) (told_if b (carried p (read_all u) items) e.reply)
    entry-on items e true mine legal rising asks tells reads =
        own-on items e (λ op fine. grants-it (items ++ older) e mine op fine) (λ free knows. keeps-it (items ++ older) e mine free knows)
        (λ knows. item-stays opening (items ++ older) (Answered e) p u legal rising knows) (tells-at items e tells) (carried p (read_all u) items) (asks refl) reads
    entry-on items e false other legal rising asks tells reads =
        passed items (carried p (read_all u) items) (Answered e) (none-other e other) (λ knows. other-keeps (items ++ older) e other knows)
        (λ knows. item-stays opening (items ++ older) (Answered e) p u legal rising knows) reads

    comes : (items : List Item) → AreLegal opening [] (items ++ older) → IsRising (items ++ older) → CarriesOn p (read_all u) items → LoadsTell opening p u older items → Reads items (carried p (read_all u) items)
    comes [] legal rising carries tells = locks refl tt
    comes (Answered e ∷ items) legal rising carries tells =
        entry-on items e (same_proc e.proc p) refl legal rising.1 (λ own_one. carries.0 own_one) tells.0 (comes items legal.1 rising.1 carries.1 tells.1)
    comes (Acted a ∷ items) legal rising carries tells =
        passed items (carried p (read_all u) items) (Acted a) (λ place past. tt) (λ knows. knows) (λ knows. item-stays opening (items ++ older) (Acted a) p u legal rising.1 knows)
        (comes items legal.1 rising.1 carries.1 tells.1)

  pub of-one_place : (h : History) (newer items older : List Item) → IsLegal opening h → h.open_ops ≡ [] → h.items ≡ newer ++ (items ++ older) → CarriesOn p (read_all u) items → AreOfOnePlace opening p u older items
  of-one_place h newer items older legal closed stand carries =
      let all : AreLegal opening [] (newer ++ (items ++ older)) = subst (λ (is : List Item). AreLegal opening [] is) stand (subst (λ (o : List Pending). AreLegal opening o h.items) closed legal.legal) in
      let rising = older-rising opening newer (items ++ older) (subst (λ (is : List Item). IsRising is) stand legal.rising) in
      let tells = loads-tell opening p u h newer items older legal stand carries in
      one-place older items (carried p (read_all u) items) (comes older items (older-legal opening newer (items ++ older) all) rising carries tells)
