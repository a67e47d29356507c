-- Entries that one store answered make a legal history.
use Rattle.std.proofs.Common.{◌≡◌, ◌<◌, ◌+◌, true, List, [], ◌∷◌, length, refl, ap, arith, rules, inl}
use Rattle.std.specs.Prelude.{All, IsTrue, map}
use Rattle.std.proofs.lemmas.Bool.Decides.{nat_tests}
use Rattle.std.proofs.lemmas.List.Elements.{All-cons, All-nil}
use Rattle.uid_names.specs.Names.{ProcName}
use Rattle.uid_names.specs.Openings.{Start}
use Rattle.uid_names.specs.declared.ids.Place.{Place}
use Rattle.dom_history.specs.declared.op.Want.{Want}
use Rattle.dom_history.specs.declared.op.Entry.{Entry}
use Rattle.dom_history.specs.Histories.{Answered, deeds, told, entries, place_of, place_lt, IsRising}
use Rattle.dom_history.specs.Follows.{Heard, FollowsAt, IsDoneAt, IsPhased}
use Rattle.dom_history.specs.Legal.{AreLegal}
use Rattle.dom_history.specs.Replies.{before_of}
use Rattle.dom_history.specs.Runs.{AreAnswered, IsEntry, IsFaultless}
use Rattle.plain_store.specs.PlainRuns.{AreTicked, IsPlainRun, history_of}
use Rattle.dom_history.proofs.Fits.{reply_of-faultless}

-- the entries of a history of entries
pub entries-answered : (es : List Entry) → entries (map Answered es) ≡ es
entries-answered [] = refl
entries-answered (e ∷ es) = ap (λ fs. e ∷ fs) (entries-answered es)

-- what was decided in it
deeds-answered : (es : List Entry) → deeds (map Answered es) ≡ told es
deeds-answered [] = refl
deeds-answered (e ∷ es) = ap (λ ds. record { proc = e.proc; op = e.op; reply = e.reply } ∷ ds) (deeds-answered es)

-- it has no act
answered-entries : (es : List Entry) → All IsEntry (map Answered es)
answered-entries [] = All-nil IsEntry
answered-entries (e ∷ es) = All-cons IsEntry (Answered e) (map Answered es) tt (answered-entries es)

-- a place of an earlier tick
earlier_tick : (x y : Place) → x.tick < y.tick → IsTrue (place_lt x y)
earlier_tick x y h = let e : place_lt x y ≡ true = grind (arith, nat_tests) in search (rules, e)

-- n entries have ticks up to n
entries_below : (x : Place) (es : List Entry) → AreTicked es → length es < x.tick → All (λ j. IsTrue (place_lt (place_of j) x)) (map Answered es)
entries_below x [] ticked h = All-nil (λ j. IsTrue (place_lt (place_of j) x))
entries_below x (e ∷ es) ticked h =
    let tick : e.place.tick ≡ length es + 1 = ap (λ p. p.tick) ticked.0 in
    All-cons (λ j. IsTrue (place_lt (place_of j) x)) (Answered e) (map Answered es)
    (earlier_tick e.place x (omega (arith, tick, h)))
    (entries_below x es ticked.1 (omega (arith, h)))

-- the ticks rise
entries_rising : (es : List Entry) → AreTicked es → IsRising (map Answered es)
entries_rising [] ticked = tt
entries_rising (e ∷ es) ticked =
    let tick : e.place.tick ≡ length es + 1 = ap (λ p. p.tick) ticked.0 in
    (entries_below e.place es ticked.1 (omega (arith, tick)), entries_rising es ticked.1)

-- each entry is legal
entries_legal : (opening : Start) (es : List Entry) → AreAnswered opening (told es) → AreLegal opening [] (map Answered es)
entries_legal opening [] h = tt
entries_legal opening (e ∷ es) h = (inl (rw (deeds-answered es, entries-answered es) h.0), entries_legal opening es h.1)

-- and comes from no link fault
entries_faultless : (opening : Start) (es : List Entry) → AreAnswered opening (told es) → All (λ e. IsFaultless e.reply) es
entries_faultless opening [] h = All-nil (λ e. IsFaultless e.reply)
entries_faultless opening (e ∷ es) h =
    All-cons (λ f. IsFaultless f.reply) e es
    (rw h.0 (reply_of-faultless (before_of opening (told es) e.proc) e.proc e.op))
    (entries_faultless opening es h.1)

-- a process has come to its end over all entries
done_over : (ask : Heard → Want) (es : List Entry) (p : ProcName) → IsDoneAt ask (history_of es) p → FollowsAt ask (history_of es) p
done_over ask es p d = record { heard = d.heard; phase = d.phase; reaches = d.reaches; next = search rules }

-- entries that one store answered, to the end of all programs, are a plain run
pub entries_plain : (opening : Start) (asks : ProcName → Heard → Want) (es : List Entry) → AreAnswered opening (told es) → AreTicked es → IsPhased es → ((p : ProcName) → IsDoneAt (asks p) (history_of es) p) → IsPlainRun opening asks (history_of es)
entries_plain opening asks es answered_so ticked phased done = record {
  legal = record {
    rising = entries_rising es ticked;
    one_open = search rules;
    opens_apart = search rules;
    items_apart = search rules;
    open_last = search rules;
    legal = entries_legal opening es answered_so;
  };
  phased = rw (entries-answered es) phased;
  ended = record { nothing_open = refl; all_done = done };
  follows = λ p. done_over (asks p) es p (done p);
  no_acts = answered-entries es;
  no_faults = rw (entries-answered es) (entries_faultless opening es answered_so);
  ticked = rw (entries-answered es) ticked;
}
