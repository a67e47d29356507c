-- A line is read as it was written, and a journal too.
use Rattle.std.proofs.Common.{◌≡◌, ◌<◌, ℕ, true, List, [], ◌∷◌, ◌++◌, length, codes, decimal, Option, Some, None, refl, ap, sym, ◌∙◌, append_assoc, append-nil, arith, subst, ◌^◌}
use Rattle.std.specs.Prelude.{All}
use Rattle.std.proofs.lemmas.List.{append_cancel_right, length-append}
use Rattle.std.proofs.lemmas.List.Elements.{All-head, All-tail}
use Rattle.std.proofs.lemmas.List.Concat.{flat_map-append, flat_map-cons}
use Rattle.std.proofs.lemmas.Option.{same_Some}
use Rattle.uid_names.specs.declared.ids.Place.{Place}
use Rattle.dom_history.specs.Events.{Happening, IsWhat}
use Rattle.dom_history.specs.NodeTexts.{AreNodeNames}
use Rattle.dom_history.specs.declared.event.What.{What}
use Rattle.dom_history.specs.declared.event.What.TheVariants.{Begin, Go, Take, Notice, Ready, Mark}
use Rattle.dom_history.specs.declared.event.Effects.{Effects}
use Rattle.dom_text.specs.Cuts.{Lacks, cut_at}
use Rattle.journal_text.specs.Walk.Heads.{IsHeadOf, pieces_of, head_of}
use Rattle.node_texts.specs.Texts.{node_text}
use Rattle.journal_text.specs.Lines.{numbered_text, what_text, place_text, effects_text, line, journal}
use Rattle.journal_text.specs.Walk.LineStarts.{start_of}
use Rattle.journal_text.specs.Walk.LineEffects.{effects_of}
use Rattle.journal_text.specs.Written.{IsNode, IsWhatOf, IsWritten, IsAbove, RiseFrom, last_from, IsJournal, IsBadLine, BeginWithNoLine}
use Rattle.journal_text.proofs.Plain.{is_inner, inner, lacks, both, inner-plain, plain-decimal}
use Rattle.journal_text.proofs.Splits.{head-found, pieces-behind}
use Rattle.dom_text.proofs.Cutting.{cut_at-found, same_cut}
use Rattle.journal_text.proofs.Fields.{plain-node}
use Rattle.journal_text.proofs.Parts.{start-again}
use Rattle.journal_text.proofs.Doings.{is_unbroken, no_effects, effects-begin, effects-again, unbroken-inner, unbroken-effects}

-- what stands before the effects
abbrev pub start_text : List (List ℕ) → Happening → List ℕ
start_text names e = place_text names e.place ++ what_text names e.what

-- a line without its end
abbrev pub event_text : List (List ℕ) → Happening → List ℕ
event_text names e = start_text names e ++ effects_text names e.effects

pub line-text : (names : List (List ℕ)) (e : Happening) → line names e ≡ event_text names e ++ codes "\n"
line-text names e =
    let end = codes "\n" in
    sym (append_assoc (start_text names e) (effects_text names e.effects) end
    ∙ append_assoc (place_text names e.place) (what_text names e.what) (effects_text names e.effects ++ end))

-- an event is put together from what was read
abbrev beginning : Happening → Place × What
beginning e = (e.place, e.what)

rebuilt : (d e : Happening) → beginning d ≡ beginning e → d.effects ≡ e.effects → d ≡ e
rebuilt d e start effects =
    ap (λ (p : Place × What). record { place = p.0; what = p.1; effects = d.effects }) start
    ∙ ap (λ (f : Effects). record { place = e.place; what = e.what; effects = f }) effects

-- one event more
pub journal-push : (names : List (List ℕ)) (events : List Happening) (e : Happening) (bytes rest behind : List ℕ) → bytes ≡ journal names events ++ rest → rest ≡ line names e ++ behind
    → bytes ≡ journal names (events ++ e ∷ []) ++ behind
journal-push names events e bytes rest behind whole first =
    whole ∙ ap (λ (t : List ℕ). journal names events ++ t) first
    ∙ sym (append_assoc (journal names events) (line names e) behind)
    ∙ ap (λ (t : List ℕ). t ++ behind) (sym (flat_map-append (line names) events (e ∷ []) ∙ ap (λ (t : List ℕ). journal names events ++ t) (append-nil (line names e))))

pub rise-push : (before : Option Place) (events : List Happening) (e : Happening) → RiseFrom before events → IsAbove (last_from before events) e.place → RiseFrom before (events ++ e ∷ [])
rise-push before [] e rising above = (above, tt)
rise-push before (d ∷ events) e rising above = (rising.0, rise-push (Some d.place) events e rising.1 above)

pub last-push : (before : Option Place) (events : List Happening) (e : Happening) → last_from before (events ++ e ∷ []) ≡ Some e.place
last-push before [] e = refl
last-push before (d ∷ events) e = last-push (Some d.place) events e

module _ (names : List (List ℕ)) (are : AreNodeNames names) where
  inner-node : (n : ℕ) → IsNode names n → inner (node_text names n) ≡ true
  inner-node n is = inner-plain (node_text names n) (plain-node names n are is.named)

  inner-number : (n : ℕ) → n < 2 ^ 64 → inner (decimal n) ≡ true
  inner-number n h = inner-plain (decimal n) (plain-decimal n h)

  inner-numbered : (n i : ℕ) → IsNode names n → i < 2 ^ 64 → inner (numbered_text names n i) ≡ true
  inner-numbered n i is h = both is_inner (node_text names n) (32 ∷ decimal i) (inner-node n is) (inner-number i h)

  inner-what : (w : What) → IsWhat w → IsWhatOf names w → inner (what_text names w) ≡ true
  inner-what (Begin p) is h = inner-number p (omega (arith, is.1))
  inner-what (Go p) is h = inner-number p (omega (arith, is.1))
  inner-what (Take from index) is h = inner-numbered from index h.0 h.1
  inner-what (Notice p from to index) is h =
      both is_inner (decimal p) (32 ∷ (node_text names from ++ (32 ∷ numbered_text names to index))) (inner-number p (omega (arith, is.1)))
      (both is_inner (node_text names from) (32 ∷ numbered_text names to index) (inner-node from h.0) (inner-numbered to index h.1.0 h.1.1))
  inner-what (Ready phase) is h = inner-number phase (omega (arith, h))
  inner-what (Mark from phase) is h = inner-numbered from phase h.0 (omega (arith, h.1))

  inner-start : (e : Happening) → IsWritten names e → inner (start_text names e) ≡ true
  inner-start e w =
      both is_inner (place_text names e.place) (what_text names e.what)
      (both is_inner (decimal e.place.tick) (32 ∷ (node_text names e.place.node ++ codes " ")) (inner-number e.place.tick w.tick)
      (both is_inner (node_text names e.place.node) (codes " ") (inner-node e.place.node w.node) refl))
      (inner-what e.what w.event.what w.what)

  -- no LF stands in a line before its end
  unbroken : (e : Happening) → IsWritten names e → Lacks 10 (event_text names e)
  unbroken e w =
      lacks is_unbroken 10 refl (event_text names e)
      (both is_unbroken (start_text names e) (effects_text names e.effects) (unbroken-inner names are (start_text names e) (inner-start e w)) (unbroken-effects names are e.effects w.effects w.event.effects))

  -- what the parts of a written line are read as
  pub parts-again : (e : Happening) (text front back : List ℕ) → IsWritten names e → IsHeadOf text front back → text ≡ event_text names e
      → (start_of names front ≡ Some (e.place, e.what)) × (effects_of names (Some no_effects) (pieces_of back) ≡ Some e.effects)
  parts-again e text front back w cut same =
      let first = lacks is_inner 59 refl (start_text names e) (inner-start e w) in
      let begins = effects-begin names are e.effects in
      let heads : front ≡ start_text names e =
      sym (head-found front back cut.first cut.begins) ∙ ap head_of (sym cut.whole ∙ same) ∙ head-found (start_text names e) (effects_text names e.effects) first begins in
      let pieces : pieces_of back ≡ pieces_of (effects_text names e.effects) =
      sym (pieces-behind front back cut.first) ∙ ap pieces_of (sym cut.whole ∙ same) ∙ pieces-behind (start_text names e) (effects_text names e.effects) first in (
        ap (start_of names) heads ∙ start-again names are e.place e.what w.tick w.node w.event.what w.what,
        ap (effects_of names (Some no_effects)) pieces ∙ effects-again names are e.effects w.effects w.event.effects,
      )

  one_text-one_event : (d e : Happening) → IsWritten names d → IsWritten names e → event_text names d ≡ event_text names e → d ≡ e
  one_text-one_event d e wd we same =
      let first = lacks is_inner 59 refl (start_text names d) (inner-start d wd) in
      let cut : IsHeadOf (event_text names d) (start_text names d) (effects_text names d.effects) = record { whole = refl; first = first; begins = effects-begin names are d.effects } in
      let of_d = parts-again d (event_text names d) (start_text names d) (effects_text names d.effects) wd cut refl in
      let of_e = parts-again e (event_text names d) (start_text names d) (effects_text names d.effects) we cut same in
      rebuilt d e (same_Some (beginning d) (beginning e) (sym of_d.0 ∙ of_e.0)) (same_Some d.effects e.effects (sym of_d.1 ∙ of_e.1))

  -- what the parts of a line are read as
  pub line-parts : (e : Happening) (text front back : List ℕ) → IsWritten names e → IsHeadOf text front back → text ++ codes "\n" ≡ line names e
      → (start_of names front ≡ Some (e.place, e.what)) × (effects_of names (Some no_effects) (pieces_of back) ≡ Some e.effects)
  line-parts e text front back w cut same =
      parts-again e text front back w cut (append_cancel_right text (event_text names e) (codes "\n") (same ∙ line-text names e))

  -- where bytes are cut that begin with a line
  pub line-cut : (e : Happening) (bytes behind : List ℕ) → IsWritten names e → bytes ≡ line names e ++ behind → cut_at 10 bytes ≡ Some (event_text names e, behind)
  line-cut e bytes behind w same =
      ap (cut_at 10) (same ∙ ap (λ (t : List ℕ). t ++ behind) (line-text names e) ∙ append_assoc (event_text names e) (codes "\n") behind)
      ∙ cut_at-found 10 (event_text names e) behind (unbroken e w)

  -- what is cut off is the line
  pub line-cut_off : (e : Happening) (bytes behind text back : List ℕ) → IsWritten names e → bytes ≡ line names e ++ behind → cut_at 10 bytes ≡ Some (text, back) → text ++ codes "\n" ≡ line names e
  line-cut_off e bytes behind text back w same cut =
      let p : List ℕ × List ℕ = (text, back) in
      let q : List ℕ × List ℕ = (event_text names e, behind) in
      let parts : p ≡ q = same_Some p q (sym cut ∙ line-cut e bytes behind w same) in
      ap (λ (r : List ℕ × List ℕ). r.0 ++ codes "\n") parts ∙ sym (line-text names e)

  -- ---- laws

  pub one_line : (d e : Happening) (x y : List ℕ) → IsWritten names d → IsWritten names e → line names d ++ x ≡ line names e ++ y → (d ≡ e) × (x ≡ y)
  one_line d e x y wd we same =
      let joined : line names d ++ x ≡ event_text names d ++ 10 ∷ x = ap (λ (t : List ℕ). t ++ x) (line-text names d) ∙ append_assoc (event_text names d) (codes "\n") x in
      let behind : line names e ++ y ≡ event_text names e ++ 10 ∷ y = ap (λ (t : List ℕ). t ++ y) (line-text names e) ∙ append_assoc (event_text names e) (codes "\n") y in
      let c = same_cut 10 (event_text names d) x (event_text names e) y (unbroken d wd) (unbroken e we) (sym joined ∙ same ∙ behind) in
      (one_text-one_event d e wd we c.0, c.1)

  pub same_line : (d e : Happening) → IsWritten names d → IsWritten names e → line names d ≡ line names e → d ≡ e
  same_line d e wd we same = (one_line d e [] [] wd we (ap (λ (t : List ℕ). t ++ []) same)).0

  line-some : (e : Happening) (x : List ℕ) → 0 < length (line names e ++ x)
  line-some e x = omega (arith, length-append (line names e) x, ap length (line-text names e), length-append (event_text names e) (codes "\n"))

  journal-cons : (e : Happening) (events : List Happening) (rest : List ℕ) → journal names (e ∷ events) ++ rest ≡ line names e ++ (journal names events ++ rest)
  journal-cons e events rest = ap (λ (t : List ℕ). t ++ rest) (flat_map-cons (line names) e events) ∙ append_assoc (line names e) (journal names events) rest

  pub one_journal : (d e : List Happening) → All (IsWritten names) d → All (IsWritten names) e → journal names d ≡ journal names e → d ≡ e
  one_journal [] [] wd we same = refl
  one_journal [] (e ∷ es) wd we same = absurd (omega (arith, line-some e (journal names es), ap length (same ∙ flat_map-cons (line names) e es)))
  one_journal (d ∷ ds) [] wd we same = absurd (omega (arith, line-some d (journal names ds), ap length (sym same ∙ flat_map-cons (line names) d ds)))
  one_journal (d ∷ ds) (e ∷ es) wd we same =
      let r = one_line d e (journal names ds) (journal names es) (All-head (IsWritten names) d ds wd) (All-head (IsWritten names) e es we)
      (sym (flat_map-cons (line names) d ds) ∙ same ∙ flat_map-cons (line names) e es) in
      ap (λ (x : Happening). x ∷ ds) r.0 ∙ ap (λ (xs : List Happening). e ∷ xs) (one_journal ds es (All-tail (IsWritten names) d ds wd) (All-tail (IsWritten names) e es we) r.1)

  -- the lines before the first bad one are as many in each reading
  same_count : (before : Option Place) (d e : List Happening) (x y : List ℕ) → All (IsWritten names) d → All (IsWritten names) e → RiseFrom before d → RiseFrom before e
      → journal names d ++ x ≡ journal names e ++ y → BeginWithNoLine names (last_from before d) x → BeginWithNoLine names (last_from before e) y → length d ≡ length e
  same_count before [] [] x y wd we rd re same bx by = refl
  same_count before [] (e ∷ es) x y wd we rd re same bx by =
      absurd (bx e (journal names es ++ y) (All-head (IsWritten names) e es we) re.0 (same ∙ journal-cons e es y))
  same_count before (d ∷ ds) [] x y wd we rd re same bx by =
      absurd (by d (journal names ds ++ x) (All-head (IsWritten names) d ds wd) rd.0 (sym same ∙ journal-cons d ds x))
  same_count before (d ∷ ds) (e ∷ es) x y wd we rd re same bx by =
      let r = one_line d e (journal names ds ++ x) (journal names es ++ y) (All-head (IsWritten names) d ds wd) (All-head (IsWritten names) e es we)
      (sym (journal-cons d ds x) ∙ same ∙ journal-cons e es y) in
      let place : Some d.place ≡ Some e.place = ap (λ (z : Happening). Some z.place) r.0 in
      let rising = subst (λ (b : Option Place). RiseFrom b es) (sym place) re.1 in
      let bad = subst (λ (b : Option Place). BeginWithNoLine names (last_from b es) y) (sym place) by in
      let n = same_count (Some d.place) ds es x y (All-tail (IsWritten names) d ds wd) (All-tail (IsWritten names) e es we) rd.1 rising r.1 bx bad in
      omega (arith, n)

  pub one_fault : (bytes : List ℕ) (m n : ℕ) → IsBadLine names bytes m → IsBadLine names bytes n → m ≡ n
  one_fault bytes m n a b =
      let e = same_count None a.good b.good a.rest b.rest a.written b.written a.rising b.rising (sym a.text ∙ b.text) a.bad b.bad in
      omega (arith, a.line, b.line, e)

  none_left : (before : Option Place) (d e : List Happening) (y : List ℕ) → All (IsWritten names) d → All (IsWritten names) e → RiseFrom before d
      → journal names d ≡ journal names e ++ y → 0 < length y → BeginWithNoLine names (last_from before e) y → ⊥
  none_left before [] [] y wd we rd same some by = omega (arith, some, ap length same)
  none_left before [] (e ∷ es) y wd we rd same some by = omega (arith, line-some e (journal names es ++ y), ap length (same ∙ journal-cons e es y))
  none_left before (d ∷ ds) [] y wd we rd same some by =
      by d (journal names ds) (All-head (IsWritten names) d ds wd) rd.0 (sym same ∙ flat_map-cons (line names) d ds)
  none_left before (d ∷ ds) (e ∷ es) y wd we rd same some by =
      let r = one_line d e (journal names ds) (journal names es ++ y) (All-head (IsWritten names) d ds wd) (All-head (IsWritten names) e es we)
      (sym (flat_map-cons (line names) d ds) ∙ same ∙ journal-cons e es y) in
      let place : Some d.place ≡ Some e.place = ap (λ (z : Happening). Some z.place) r.0 in
      let bad = subst (λ (b : Option Place). BeginWithNoLine names (last_from b es) y) (sym place) by in
      none_left (Some d.place) ds es y (All-tail (IsWritten names) d ds wd) (All-tail (IsWritten names) e es we) rd.1 r.1 some bad

  pub never_both : (bytes : List ℕ) (events : List Happening) (n : ℕ) → IsJournal names bytes events → IsBadLine names bytes n → ⊥
  never_both bytes events n j b = none_left None events b.good b.rest j.written b.written j.rising (sym j.text ∙ b.text) b.some b.bad
