-- How far a reading has come between the items of a history, and what its loads have told.
use Rattle.std.proofs.Common.{◌≡◌, ◌≤◌, ◌<◌, ◌+◌, ◌-◌, ◌*◌, ℕ, zero, suc, Bool, true, false, not, Option, Some, None, List, [], ◌∷◌, ◌++◌, map, inl, inr, refl, ap, sym, subst, ◌∙◌, append-nil, arith, if◌then◌else◌}
use Rattle.std.specs.Prelude.{find, nat_le, nat_lt, length}
use Rattle.std.specs.List.{range_with_len}
use Rattle.std.proofs.lemmas.Bool.Decides.{nat_tests}
use Rattle.std.proofs.lemmas.Option.{none-some, same_Some}
use Rattle.uid_names.specs.Names.{ObjectName, ProcName, same_proc, same_uid}
use Rattle.uid_names.specs.Openings.{Start}
use Rattle.uid_names.specs.Segments.{segments}
use Rattle.uid_names.specs.declared.limits.TheConstants.{PAGE_BYTES, PROCESS_MAPPINGS}
use Rattle.uid_names.specs.declared.mode.Mode.TheVariants.{Read}
use Rattle.uid_names.proofs.Orders.{same_proc-itself, same_proc-sym, same_proc_is, same_uid-itself}
use Rattle.dom_history.specs.declared.deed.Deed.{Deed}
use Rattle.dom_history.specs.declared.op.Entry.{Entry}
use Rattle.dom_history.specs.declared.op.Op.{Op}
use Rattle.dom_history.specs.declared.op.Op.TheVariants.{Delete, Length, Load, Lock, Map, New, Store, Unlock, Unmap}
use Rattle.dom_history.specs.declared.op.Reply.{Reply}
use Rattle.dom_history.specs.declared.op.Reply.TheVariants.{At, Bytes, Fine, Made, NoLock, PastEnd, Size}
use Rattle.dom_history.specs.declared.op.Spot.{Spot}
use Rattle.dom_history.specs.declared.op.Spot.TheVariants.{Addr}
use Rattle.dom_history.specs.Bytes.{bytes_from, length_of}
use Rattle.dom_history.specs.Histories.{Acted, Answered, History, Item, Pending, before_op, entries, told as told_of}
use Rattle.dom_history.specs.Legal.{AreLegal, IsAllowed, IsLegal, MayAct}
use Rattle.dom_history.specs.Locks.{is_held, state}
use Rattle.dom_history.specs.Mappings.{Mapping, Target, lowest_run, mappings, target}
use Rattle.dom_history.specs.Objects.{room_of}
use Rattle.dom_history.specs.Replies.{load_reply, map_anew_reply, mapping_of, reply_of, unlock_state}
use Rattle.dom_history.specs.StoreEffects.{StoreEffect, own, store_effect}
use Rattle.dom_history.proofs.MappedObjects.{others-mapped}
use Rattle.naming_tree.specs.Dialogues.{asked, told}
use Rattle.naming_tree.specs.Entering.{pages}
use Rattle.naming_tree.specs.Sessions.{bytes, closers_if, fine, place, size}
use Rattle.mapped_streams.specs.declared.gathered.Gathered.{Gathered}
use Rattle.mapped_streams.specs.declared.gathered.Gathered.TheVariants.{All}
use Rattle.mapped_streams.specs.declared.mapped.Opened.{Opened}
use Rattle.mapped_streams.specs.declared.step.StreamResult.{StreamResult}
use Rattle.mapped_streams.specs.declared.step.StreamResult.TheVariants as results
use Rattle.mapped_streams.specs.Dialogues.{Dialogue, Ends}
use Rattle.mapped_streams.specs.Gathering.{come_to}
use Rattle.mapped_streams.specs.Pages.{loads_from, page_load}
use Rattle.mapped_streams.specs.Streams.{closing, go_on, loading, mapping, measuring, read_all, shutting}
use Rattle.mapped_streams.proofs.ReadsServed.{in_end, next_page}
use Rattle.mapped_streams.proofs.Reaching.{anew_fresh, mapped_held}
use Rattle.mapped_streams.proofs.Serving.{measured}
use Rattle.mapped_streams.proofs.Sound.{IsSound}
use Rattle.mapped_streams.proofs.StoresSound.{kept_sound, met, room_grows}
use Rattle.read_laws.specs.Carrying.{CarriesOn, IsAskedFor, carried, told_if}
use Rattle.read_laws.specs.Loads.{IsLoadOf, LoadTells, LoadsTell, bytes_told, done, loaded}
use Rattle.read_laws.proofs.Faults.{among-faults, no-fault}
use Rattle.read_laws.proofs.Kept.{legal-kept}

-- operations that load nothing
abbrev pub loads_no : Op → Bool
loads_no (Load spot n) = false
loads_no _ = true

abbrev pub AreQuiet : List Op → Type 0
AreQuiet [] = Unit {0}
AreQuiet (op ∷ ops) = (loads_no op ≡ true) × AreQuiet ops

quiet-told : (op : Op) (reply : Reply) → loads_no op ≡ true → bytes_told true op reply ≡ []
quiet-told (Load spot n) reply quiet = cc
quiet-told _ reply quiet = refl

pub no-load : (op : Op) (spot : Spot) (n : ℕ) → loads_no op ≡ true → op ≡ Load spot n → ⊥
no-load op spot n quiet is = let q : loads_no (Load spot n) ≡ true = subst (λ (o : Op). loads_no o ≡ true) is quiet in cc

pub closers-quiet : (fresh : Bool) (u : ObjectName) → AreQuiet (closers_if fresh u)
closers-quiet true u = (refl, (refl, tt))
closers-quiet false u = (refl, tt)

-- an act of a process leaves the mappings of all
act-mapped : (opening : Start) (p q : ProcName) (op : Op) (reply : Reply) (past : List StoreEffect) → MayAct opening past q op reply → mappings p (store_effect q op reply ++ past) ≡ mappings p past
act-mapped opening p q (New home kind room) (Made u) past may = refl
act-mapped opening p q (Lock u m) Fine past may = refl
act-mapped opening p q (Unlock u) Fine past may = refl
act-mapped opening p q (Delete u) Fine past may = refl
act-mapped opening p q (Store spot bytes) reply past may = absurd may
act-mapped opening p q (Map u) reply past may = absurd may
act-mapped opening p q (Unmap u) reply past may = absurd may
act-mapped opening p q _ _ past may = refl

module _ (opening : Start) (p : ProcName) (u : ObjectName) where
  -- what is asked once the object is open
  abbrev pub finishing : Bool → Gathered → Dialogue
  finishing fresh all = shutting (closers_if fresh u) (come_to all)

  abbrev pub loads_left : Opened → ℕ → ℕ → List ℕ → Dialogue
  loads_left o page k text = loading (closers_if o.fresh u) (map (page_load o.at) (range_with_len page k)) (All text) (finishing o.fresh)

  abbrev pub open_now : Opened → Dialogue
  open_now o = loading (closers_if o.fresh u) (loads_from o.at 0) (All []) (finishing o.fresh)

  abbrev opened_at : ℕ → ℕ → Bool → Opened
  opened_at n address fresh = record { at = record { address = address; length = n }; fresh = fresh }

  -- the object is mapped there, and its room has so many bytes at least
  record IsMappedAt (past : List StoreEffect) (o : Opened) : Type 0 where
    m : Mapping
    found : find (λ x. same_uid u x.uid) (mappings p past) ≡ Some m
    at : m.address ≡ o.at.address
    room : o.at.length ≤ PAGE_BYTES * room_of opening past u

  -- how far it has come: what is left of it, and what its loads have told
  data Stage (past : List StoreEffect) (d : Dialogue) (text : List ℕ) : Type 0 where
    locks : d ≡ read_all u → text ≡ [] → Stage past d text
    measures : d ≡ measuring u open_now → text ≡ [] → Stage past d text
    maps : (n : ℕ) → d ≡ mapping u n open_now → text ≡ [] → n ≤ PAGE_BYTES * room_of opening past u → Stage past d text
    loads : (o : Opened) (page k : ℕ) → d ≡ loads_left o page k text → k ≡ pages o.at.length - page → IsMappedAt past o → Stage past d text
    shuts : (ops : List Op) → d ≡ shutting ops (results.Bytes text) → AreQuiet ops → Stage past d text
    fails : (ops : List Op) (reply : Reply) → d ≡ closing ops (results.Store reply) → AreQuiet ops → Stage past d text

  -- what leaves its mappings leaves it where it is
  module _ (q : ProcName) (op : Op) (reply : Reply) (past : List StoreEffect) (same : mappings p (store_effect q op reply ++ past) ≡ mappings p past) where
    room-moved : (n : ℕ) → n ≤ PAGE_BYTES * room_of opening past u → n ≤ PAGE_BYTES * room_of opening (store_effect q op reply ++ past) u
    room-moved n room = let more = room_grows opening q op reply past u in omega (arith, room, more)

    at-moved : (o : Opened) → IsMappedAt past o → IsMappedAt (store_effect q op reply ++ past) o
    at-moved o is = record {
      m = is.m;
      found = subst (λ (ms : List Mapping). find (λ x. same_uid u x.uid) ms ≡ Some is.m) (sym same) is.found;
      at = is.at;
      room = room-moved o.at.length is.room;
    }

    moved : (d : Dialogue) (text : List ℕ) → Stage past d text → Stage (store_effect q op reply ++ past) d text
    moved d text (locks is none) = locks is none
    moved d text (measures is none) = measures is none
    moved d text (maps n is none room) = maps n is none (room-moved n room)
    moved d text (loads o page k is left at) = loads o page k is left (at-moved o at)
    moved d text (shuts ops is quiet) = shuts ops is quiet
    moved d text (fails ops r is quiet) = fails ops r is quiet

  -- an operation of its own: what it is told
  module _ (past : List StoreEffect) (known : List Deed) (sound : IsSound opening past p) where
    abbrev allowed : Op → Reply → Type 0
    allowed op reply = IsAllowed (met opening past known) p op reply

    lock-told : (reply : Reply) (later : List StoreEffect) (text : List ℕ) → text ≡ [] → Stage later (go_on (fine reply) reply [] (λ _. measuring u open_now)) text
    lock-told Fine later text none = measures refl none
    lock-told reply later text none = fails [] reply refl tt

    -- a length is the object's, and lies in its room
    length-of : (n : ℕ) → allowed (Length u) (Size n) → n ≤ PAGE_BYTES * room_of opening past u
    length-of n (inl is) =
        let here : n ≡ length_of opening past u = measured (is_held (state u known)) (length_of opening past u) n (ap size (sym is)) in
        subst (λ (k : ℕ). k ≤ PAGE_BYTES * room_of opening past u) (sym here) (sound.lengths u)
    length-of n (inr among) = no-fault (Size n) _ (λ e. cc) (λ e. cc) (λ e. cc) (among-faults (Length u) (unlock_state (Length u) known) (reply_of (met opening past known) p (Length u)) (Size n) among)

    length-told : (reply : Reply) (text : List ℕ) → allowed (Length u) reply → text ≡ [] → Stage past (go_on (size reply) reply (Unlock u ∷ []) (λ n. mapping u n open_now)) text
    length-told (Size n) text may none = maps n refl none (length-of n may)
    length-told reply text may none = fails (Unlock u ∷ []) reply refl (refl, tt)

    -- a mapping is where the reply says
    anew-mapped : (n a : ℕ) (fresh : Bool) (found : Option Mapping) → find (λ x. same_uid u x.uid) (mappings p past) ≡ found → map_anew_reply (met opening past known) p u found ≡ At a fresh → n ≤ PAGE_BYTES * room_of opening past u
        → IsMappedAt (store_effect p (Map u) (At a fresh) ++ past) (opened_at n a fresh)
    anew-mapped n a fresh (Some m) is reply room =
        let here : m.address ≡ a = grind (arith, reply) in
        let old : false ≡ fresh = grind (arith, reply) in
        subst (λ (f : Bool). IsMappedAt (store_effect p (Map u) (At a f) ++ past) (opened_at n a f)) old (record { m = m; found = is; at = here; room = room })
    anew-mapped n a fresh None is reply room =
        let new = anew_fresh (nat_le PROCESS_MAPPINGS (length (mappings p past))) (lowest_run opening past p (segments (room_of opening past u))) a fresh reply in
        let own_one = same_proc-itself p in
        let here = same_uid-itself u in
        subst (λ (f : Bool). IsMappedAt (store_effect p (Map u) (At a f) ++ past) (opened_at n a f)) new (record { m = record { uid = u; address = a }; found = rw (own_one, here) refl; at = refl; room = room })

    map-of : (n a : ℕ) (fresh : Bool) → allowed (Map u) (At a fresh) → n ≤ PAGE_BYTES * room_of opening past u → IsMappedAt (store_effect p (Map u) (At a fresh) ++ past) (opened_at n a fresh)
    map-of n a fresh (inl is) room =
        let found = mapping_of (met opening past known) p u in
        let anew = mapped_held (is_held (state u known)) (map_anew_reply (met opening past known) p u found) a fresh (sym is) in
        anew-mapped n a fresh found refl anew room
    map-of n a fresh (inr among) room = no-fault (At a fresh) _ (λ e. cc) (λ e. cc) (λ e. cc) (among-faults (Map u) (unlock_state (Map u) known) (reply_of (met opening past known) p (Map u)) (At a fresh) among)

    map-told : (n : ℕ) (reply : Reply) (text : List ℕ) → allowed (Map u) reply → n ≤ PAGE_BYTES * room_of opening past u → text ≡ []
        → Stage (store_effect p (Map u) reply ++ past) (go_on (place reply) reply (Unlock u ∷ []) (λ at. open_now (opened_at n at.0 at.1))) text
    map-told n (At a fresh) text may room none =
        subst (λ (t : List ℕ). Stage (store_effect p (Map u) (At a fresh) ++ past) (open_now (opened_at n a fresh)) t) (sym none) (loads (opened_at n a fresh) 0 (pages n - 0) refl refl (map-of n a fresh may room))
    map-told n reply text may room none = fails (Unlock u ∷ []) reply refl (refl, tt)

    -- a load is of the object's page
    loaded-of : (held past_end : Bool) (all some : List ℕ) → Bytes some ≡ (if not held then NoLock else if past_end then PastEnd else Bytes all) → (past_end ≡ false) × (some ≡ all)
    loaded-of false past_end all some e = absurd (grind (arith, e))
    loaded-of true true all some e = absurd (grind (arith, e))
    loaded-of true false all some e = (refl, grind (arith, e))

    reached-at : (o : Opened) (page k : ℕ) → suc k ≡ pages o.at.length - page → IsMappedAt past o → target opening past p (Addr (o.at.address + page * PAGE_BYTES)) ≡ Some (record { uid = u; offset = page * PAGE_BYTES })
    reached-at o page k left at =
        let inside = in_end o.at.length page k left in
        let room = at.room in
        let below : page * PAGE_BYTES < PAGE_BYTES * room_of opening past u = omega (arith, inside, room) in
        subst (λ (a : ℕ). target opening past p (Addr (a + page * PAGE_BYTES)) ≡ Some (record { uid = u; offset = page * PAGE_BYTES })) at.at (sound.reached u at.m at.found (page * PAGE_BYTES) below)

    load-of : (spot : Spot) (n offset : ℕ) (some : List ℕ) → target opening past p spot ≡ Some (record { uid = u; offset = offset }) → allowed (Load spot n) (Bytes some) → IsLoadOf opening p u past spot n some
    load-of spot n offset some named (inl is) =
        let told_so = loaded-of (is_held (state u known)) (nat_lt (length_of opening past u) (offset + n)) (bytes_from opening past u offset n) some (is ∙ ap (λ (t : Option Target). load_reply (met opening past known) t n) named) in
        let test = told_so.0 in
        record { offset = offset; named = named; within = grind (arith, nat_tests, test); are = told_so.1 }
    load-of spot n offset some named (inr among) = no-fault (Bytes some) _ (λ e. cc) (λ e. cc) (λ e. cc) (among-faults (Load spot n) (unlock_state (Load spot n) known) (reply_of (met opening past known) p (Load spot n)) (Bytes some) among)

    load-told : (o : Opened) (page k : ℕ) (reply : Reply) (text : List ℕ) → suc k ≡ pages o.at.length - page → IsMappedAt past o
        → Stage past (told (loads_left o page (suc k) text) reply) (text ++ bytes_told true (page_load o.at page) reply)
    load-told o page k (Bytes more) text left at = loads o (page + 1) k refl (next_page (pages o.at.length) page k left) at
    load-told o page k reply text left at = fails (closers_if o.fresh u) reply refl (closers-quiet o.fresh u)

    shut-told : (op : Op) (ops : List Op) (reply : Reply) (later : List StoreEffect) (text : List ℕ) → AreQuiet ops → Stage later (go_on (fine reply) reply ops (λ _. shutting ops (results.Bytes text))) text
    shut-told op ops Fine later text quiet = shuts ops refl quiet
    shut-told op ops reply later text quiet = fails ops reply refl quiet

    -- what a quiet operation is told is no bytes
    with-none : (later : List StoreEffect) (d : Dialogue) (op : Op) (reply : Reply) (text : List ℕ) → loads_no op ≡ true → Stage later d text → Stage later d (text ++ bytes_told true op reply)
    with-none later d op reply text quiet stage =
        subst (λ (t : List ℕ). Stage later d t) (sym (ap (λ (more : List ℕ). text ++ more) (quiet-told op reply quiet) ∙ append-nil text)) stage

    -- its operation leads it on
    shut-on : (ops : List Op) (op : Op) (reply : Reply) (text : List ℕ) → asked (shutting ops (results.Bytes text)) ≡ Some op → AreQuiet ops → Stage (store_effect p op reply ++ past) (told (shutting ops (results.Bytes text)) reply) (text ++ bytes_told true op reply)
    shut-on [] op reply text asks quiet = absurd (none-some op asks)
    shut-on (first ∷ ops) op reply text asks quiet =
        let same : first ≡ op = same_Some first op asks in
        with-none (store_effect p op reply ++ past) _ op reply text (subst (λ (o : Op). loads_no o ≡ true) same quiet.0) (shut-told op ops reply (store_effect p op reply ++ past) text quiet.1)

    fail-on : (ops : List Op) (refused : Reply) (op : Op) (reply : Reply) (text : List ℕ) → asked (closing ops (results.Store refused)) ≡ Some op → AreQuiet ops
        → Stage (store_effect p op reply ++ past) (told (closing ops (results.Store refused)) reply) (text ++ bytes_told true op reply)
    fail-on [] refused op reply text asks quiet = absurd (none-some op asks)
    fail-on (first ∷ ops) refused op reply text asks quiet =
        let same : first ≡ op = same_Some first op asks in
        with-none (store_effect p op reply ++ past) _ op reply text (subst (λ (o : Op). loads_no o ≡ true) same quiet.0) (fails ops refused refl quiet.1)

    loads-on : (o : Opened) (page k : ℕ) (op : Op) (reply : Reply) (text : List ℕ) → asked (loads_left o page k text) ≡ Some op → k ≡ pages o.at.length - page → IsMappedAt past o
        → Stage (store_effect p op reply ++ past) (told (loads_left o page k text) reply) (text ++ bytes_told true op reply)
    loads-on o page zero op reply text asks left at = shut-on (closers_if o.fresh u) op reply text asks (closers-quiet o.fresh u)
    loads-on o page (suc k) op reply text asks left at =
        let same : page_load o.at page ≡ op = same_Some (page_load o.at page) op asks in
        subst (λ (x : Op). Stage (store_effect p x reply ++ past) (told (loads_left o page (suc k) text) reply) (text ++ bytes_told true x reply)) same (load-told o page k reply text left at)

    own-on : (d : Dialogue) (op : Op) (reply : Reply) (text : List ℕ) → allowed op reply → asked d ≡ Some op → Stage past d text → Stage (store_effect p op reply ++ past) (told d reply) (text ++ bytes_told true op reply)
    own-on d op reply text may asks (locks is none) =
        let same : Lock u Read ≡ op = same_Some (Lock u Read) op (ap asked (sym is) ∙ asks) in
        let stage = lock-told reply (store_effect p op reply ++ past) text none in
        with-none (store_effect p op reply ++ past) (told d reply) op reply text (subst (λ (o : Op). loads_no o ≡ true) same refl) (subst (λ (e : Dialogue). Stage (store_effect p op reply ++ past) (told e reply) text) (sym is) stage)
    own-on d op reply text may asks (measures is none) =
        let same : Length u ≡ op = same_Some (Length u) op (ap asked (sym is) ∙ asks) in
        let stage = length-told reply text (subst (λ (o : Op). allowed o reply) (sym same) may) none in
        subst (λ (o : Op). Stage (store_effect p o reply ++ past) (told d reply) (text ++ bytes_told true o reply)) same
        (with-none past (told d reply) (Length u) reply text refl (subst (λ (e : Dialogue). Stage past (told e reply) text) (sym is) stage))
    own-on d op reply text may asks (maps n is none room) =
        let same : Map u ≡ op = same_Some (Map u) op (ap asked (sym is) ∙ asks) in
        let stage = map-told n reply text (subst (λ (o : Op). allowed o reply) (sym same) may) room none in
        subst (λ (o : Op). Stage (store_effect p o reply ++ past) (told d reply) (text ++ bytes_told true o reply)) same
        (with-none (store_effect p (Map u) reply ++ past) (told d reply) (Map u) reply text refl (subst (λ (e : Dialogue). Stage (store_effect p (Map u) reply ++ past) (told e reply) text) (sym is) stage))
    own-on d op reply text may asks (loads o page k is left at) =
        subst (λ (e : Dialogue). Stage (store_effect p op reply ++ past) (told e reply) (text ++ bytes_told true op reply)) (sym is) (loads-on o page k op reply text (ap asked (sym is) ∙ asks) left at)
    own-on d op reply text may asks (shuts ops is quiet) =
        subst (λ (e : Dialogue). Stage (store_effect p op reply ++ past) (told e reply) (text ++ bytes_told true op reply)) (sym is) (shut-on ops op reply text (ap asked (sym is) ∙ asks) quiet)
    own-on d op reply text may asks (fails ops refused is quiet) =
        subst (λ (e : Dialogue). Stage (store_effect p op reply ++ past) (told e reply) (text ++ bytes_told true op reply)) (sym is) (fail-on ops refused op reply text (ap asked (sym is) ∙ asks) quiet)

    -- a load of its own is of the object
    quiet-asked : (ops : List Op) (result : StreamResult) (spot : Spot) (n : ℕ) → asked (closing ops result) ≡ Some (Load spot n) → AreQuiet ops → ⊥
    quiet-asked [] result spot n asks quiet = none-some (Load spot n) asks
    quiet-asked (first ∷ ops) result spot n asks quiet = no-load first spot n quiet.0 (same_Some first (Load spot n) asks)

    quiet-shut : (ops : List Op) (text : List ℕ) (spot : Spot) (n : ℕ) → asked (shutting ops (results.Bytes text)) ≡ Some (Load spot n) → AreQuiet ops → ⊥
    quiet-shut [] text spot n asks quiet = none-some (Load spot n) asks
    quiet-shut (first ∷ ops) text spot n asks quiet = no-load first spot n quiet.0 (same_Some first (Load spot n) asks)

    page-tells : (o : Opened) (page k : ℕ) (text : List ℕ) (spot : Spot) (n : ℕ) (some : List ℕ) → asked (loads_left o page k text) ≡ Some (Load spot n) → k ≡ pages o.at.length - page → IsMappedAt past o → allowed (Load spot n) (Bytes some)
        → IsLoadOf opening p u past spot n some
    page-tells o page zero text spot n some asks left at may = absurd (quiet-shut (closers_if o.fresh u) text spot n asks (closers-quiet o.fresh u))
    page-tells o page (suc k) text spot n some asks left at may =
        let same : page_load o.at page ≡ Load spot n = same_Some (page_load o.at page) (Load spot n) asks in
        let here : Addr (o.at.address + page * PAGE_BYTES) ≡ spot = cc in
        load-of spot n (page * PAGE_BYTES) some (ap (λ (s : Spot). target opening past p s) (sym here) ∙ reached-at o page k left at) may

    tells : (d : Dialogue) (text : List ℕ) (spot : Spot) (n : ℕ) (some : List ℕ) → allowed (Load spot n) (Bytes some) → asked d ≡ Some (Load spot n) → Stage past d text → IsLoadOf opening p u past spot n some
    tells d text spot n some may asks (locks is none) = absurd (no-load (Lock u Read) spot n refl (same_Some (Lock u Read) (Load spot n) (ap asked (sym is) ∙ asks)))
    tells d text spot n some may asks (measures is none) = absurd (no-load (Length u) spot n refl (same_Some (Length u) (Load spot n) (ap asked (sym is) ∙ asks)))
    tells d text spot n some may asks (maps m is none room) = absurd (no-load (Map u) spot n refl (same_Some (Map u) (Load spot n) (ap asked (sym is) ∙ asks)))
    tells d text spot n some may asks (loads o page k is left at) = page-tells o page k text spot n some (ap asked (sym is) ∙ asks) left at may
    tells d text spot n some may asks (shuts ops is quiet) = absurd (quiet-shut ops text spot n (ap asked (sym is) ∙ asks) quiet)
    tells d text spot n some may asks (fails ops refused is quiet) = absurd (quiet-asked ops (results.Store refused) spot n (ap asked (sym is) ∙ asks) quiet)

  -- what it has read in the end: a dialogue that asks has not come to its end
  asks-still : (d : Dialogue) (op : Op) (result : StreamResult) → asked d ≡ Some op → d ≡ Ends result → ⊥
  asks-still d op result asks ends = none-some op (sym (ap asked ends) ∙ asks)

  shut-whole : (ops : List Op) (text all : List ℕ) → shutting ops (results.Bytes text) ≡ Ends (results.Bytes all) → text ≡ all
  shut-whole [] text all e = cc
  shut-whole (op ∷ ops) text all e = absurd (asks-still (shutting (op ∷ ops) (results.Bytes text)) op (results.Bytes all) refl e)

  fail-whole : (ops : List Op) (reply : Reply) (all : List ℕ) → closing ops (results.Store reply) ≡ Ends (results.Bytes all) → ⊥
  fail-whole [] reply all e = cc
  fail-whole (op ∷ ops) reply all e = asks-still (closing (op ∷ ops) (results.Store reply)) op (results.Bytes all) refl e

  loads-whole : (o : Opened) (page k : ℕ) (text all : List ℕ) → loads_left o page k text ≡ Ends (results.Bytes all) → text ≡ all
  loads-whole o page zero text all e = shut-whole (closers_if o.fresh u) text all e
  loads-whole o page (suc k) text all e = absurd (asks-still (loads_left o page (suc k) text) (page_load o.at page) (results.Bytes all) refl e)

  whole-stage : (past : List StoreEffect) (d : Dialogue) (text all : List ℕ) → d ≡ Ends (results.Bytes all) → Stage past d text → text ≡ all
  whole-stage past d text all e (locks is none) = absurd (asks-still d (Lock u Read) (results.Bytes all) (ap asked is) e)
  whole-stage past d text all e (measures is none) = absurd (asks-still d (Length u) (results.Bytes all) (ap asked is) e)
  whole-stage past d text all e (maps n is none room) = absurd (asks-still d (Map u) (results.Bytes all) (ap asked is) e)
  whole-stage past d text all e (loads o page k is left at) = loads-whole o page k text all (sym is ∙ e)
  whole-stage past d text all e (shuts ops is quiet) = shut-whole ops text all (sym is ∙ e)
  whole-stage past d text all e (fails ops reply is quiet) = absurd (fail-whole ops reply all (sym is ∙ e))

  -- between the items of a history
  module _ (pending : List Pending) (older : List Item) where
    abbrev IsSoundAt : List Item → Type 0
    IsSoundAt items = IsSound opening (done (items ++ older)) p

    sound-now : (items : List Item) → AreLegal opening pending (items ++ older) → IsSoundAt items
    sound-now items legal = kept_sound opening (done (items ++ older)) p (legal-kept opening pending (items ++ older) legal)

    abbrev StageAt : List Item → Type 0
    StageAt items = Stage (done (items ++ older)) (carried p (read_all u) items) (loaded p items)

    entry-on : (items : List Item) (e : Entry) (b : Bool) → same_proc e.proc p ≡ b → AreLegal opening pending (Answered e ∷ (items ++ older)) → IsAskedFor p (carried p (read_all u) items) (Answered e) → StageAt items
        → Stage (done (Answered e ∷ (items ++ older))) (told_if b (carried p (read_all u) items) e.reply) (loaded p items ++ bytes_told b e.op e.reply)
    entry-on items e true mine legal asks stage =
        let me : e.proc ≡ p = same_proc_is e.proc p mine in
        let past = done (items ++ older) in
        let may = subst (λ (q : ProcName). IsAllowed (before_op opening (items ++ older) q) q e.op e.reply) me legal.0 in
        subst (λ (q : ProcName). Stage (store_effect q e.op e.reply ++ past) (told (carried p (read_all u) items) e.reply) (loaded p items ++ bytes_told true e.op e.reply)) (sym me)
        (own-on past (own p (told_of (entries (items ++ older)))) (sound-now items legal.1) (carried p (read_all u) items) e.op e.reply (loaded p items) may (asks mine) stage)
    entry-on items e false other legal asks stage =
        let past = done (items ++ older) in
        let apart : same_proc p e.proc ≡ false = same_proc-sym p e.proc ∙ other in
        let stays = moved e.proc e.op e.reply past (others-mapped p e.proc e.op e.reply past apart) (carried p (read_all u) items) (loaded p items) stage in
        subst (λ (t : List ℕ). Stage (store_effect e.proc e.op e.reply ++ past) (carried p (read_all u) items) t) (sym (append-nil (loaded p items))) stays

    stands : (items : List Item) → AreLegal opening pending (items ++ older) → CarriesOn p (read_all u) items → StageAt items
    stands [] legal carries = locks refl refl
    stands (Answered e ∷ items) legal carries = entry-on items e (same_proc e.proc p) refl legal carries.0 (stands items legal.1 carries.1)
    stands (Acted a ∷ items) legal carries =
        let past = done (items ++ older) in
        moved a.deed.proc a.deed.op a.deed.reply past (act-mapped opening p a.deed.proc a.deed.op a.deed.reply past legal.0.may_act) (carried p (read_all u) items) (loaded p items) (stands items legal.1 carries.1)

    item-tells : (items : List Item) (i : Item) → AreLegal opening pending (i ∷ (items ++ older)) → IsAskedFor p (carried p (read_all u) items) i → StageAt items → LoadTells opening p u (items ++ older) i
    item-tells items (Answered e) legal asks stage = λ mine spot n some op reply.
        let me : e.proc ≡ p = same_proc_is e.proc p mine in
        let may = subst (λ (q : ProcName). IsAllowed (before_op opening (items ++ older) q) q e.op e.reply) me legal.0 in
        let may_load = subst (λ (r : Reply). IsAllowed (before_op opening (items ++ older) p) p (Load spot n) r) reply (subst (λ (o : Op). IsAllowed (before_op opening (items ++ older) p) p o e.reply) op may) in
        tells (done (items ++ older)) (own p (told_of (entries (items ++ older)))) (sound-now items legal.1) (carried p (read_all u) items) (loaded p items) spot n some may_load (asks mine ∙ ap Some op) stage
    item-tells items (Acted a) legal asks stage = tt

    all-tell : (items : List Item) → AreLegal opening pending (items ++ older) → CarriesOn p (read_all u) items → LoadsTell opening p u older items
    all-tell [] legal carries = tt
    all-tell (i ∷ items) legal carries = (item-tells items i legal carries.0 (stands items legal.1 carries.1), all-tell items legal.1 carries.1)

  -- what stands before some items is legal without them
  older-legal : (pending : List Pending) (newer items : List Item) → AreLegal opening pending (newer ++ items) → AreLegal opening pending items
  older-legal pending [] items legal = legal
  older-legal pending (i ∷ newer) items legal = older-legal pending newer items legal.1

  pub loads-tell : (h : History) (newer items older : List Item) → IsLegal opening h → h.items ≡ newer ++ (items ++ older) → CarriesOn p (read_all u) items → LoadsTell opening p u older items
  loads-tell h newer items older legal is carries =
      all-tell h.open_ops older items (older-legal h.open_ops newer (items ++ older) (subst (λ (all : List Item). AreLegal opening h.open_ops all) is legal.legal)) carries

  pub whole-loaded : (h : History) (newer items older : List Item) (all : List ℕ) → IsLegal opening h → h.items ≡ newer ++ (items ++ older) → CarriesOn p (read_all u) items → carried p (read_all u) items ≡ Ends (results.Bytes all) → loaded p items ≡ all
  whole-loaded h newer items older all legal is carries ends =
      whole-stage (done (items ++ older)) (carried p (read_all u) items) (loaded p items) all ends
      (stands h.open_ops older items (older-legal h.open_ops newer (items ++ older) (subst (λ (all : List Item). AreLegal opening h.open_ops all) is legal.legal)) carries)
