-- What the steps of drawing a chart find.
use Rattle.std.proofs.Common.{◌≡◌, ◌∙◌, ℕ, ◌<◌, suc, Bool, true, List, [], ◌∷◌, ◌++◌, Bor, length, map, get_or, refl, sym, ap, subst, append_assoc, arith}
use Rattle.std.specs.Prelude.{All, Result, Ok, Err, OnOk}
use Rattle.std.proofs.lemmas.List.{get_or-map, length-map}
use Rattle.dom_history.specs.declared.plan.Fate.{Fate}
use Rattle.journal_text.specs.Lines.{Names}
use Rattle.lane_charts.specs.declared.chart.Arrow.{Arrow}
use Rattle.lane_charts.specs.declared.chart.Arrival.{Arrival}
use Rattle.lane_charts.specs.declared.chart.Arrival.TheVariants.{Row}
use Rattle.lane_charts.specs.Charts.{Drawing, with_arrow}
use Rattle.event_views.specs.Runs.{AreNamed}
use Rattle.event_views.specs.declared.run.EventView.{EventView}
use Rattle.event_charts.specs.ChartsOfRuns.{ends_of, is_late, with_arrows}
use Rattle.event_charts.specs.LentViews.{lent_views}

-- it has names
pub named-at : (names : List (List ℕ)) (shown : List (Bor EventView)) (at : ℕ) (x : Bor EventView) → at < length shown → x ≡ get_or shown at x → AreNamed names (lent_views shown) → Names names x.now.event
named-at names shown at x low is all =
    let seen : Bor EventView → EventView = λ (v : Bor EventView). v.now in
    let there : get_or (lent_views shown) at x.now ≡ x.now = get_or-map seen shown at x x.now low ∙ ap seen (sym is) in
    subst (λ (v : EventView). Names names v.event) there (all at x.now (subst (λ n. at < n) (sym (length-map shown seen)) low))

-- places behind the first are among those that all are
pub copies-within : (n : ℕ) (rows : List ℕ) (first : ℕ) (copies : List ℕ) → rows ≡ first ∷ copies → All (λ row. row < n) rows → All (λ row. row < n) copies
copies-within n rows first copies are all k d low =
    let whole : All (λ row. row < n) (first ∷ copies) = subst (All (λ row. row < n)) are all in
    whole (suc k) d (omega (arith, low))

arrows-each : (arrow : Arrival × Bool → Arrow) (copies : List ℕ) → map (λ row. arrow (Row row, true)) copies ≡ map arrow (map (λ row. (Row row, true)) copies)
arrows-each arrow [] = refl
arrows-each arrow (row ∷ copies) = ap (λ (more : List Arrow). arrow (Row row, true) ∷ more) (arrows-each arrow copies)

-- an arrow to the first that took a frame, and then to the others
pub sent-arrows : (arrow : Arrival × Bool → Arrow) (fate : Fate) (late : Bool) (first : ℕ) (copies : List ℕ) (start one all : Drawing) → late ≡ is_late fate
    → one ≡ with_arrow start (arrow (Row first, late)) → all ≡ with_arrows one (map (λ row. arrow (Row row, true)) copies)
    → all ≡ with_arrows start (map arrow (ends_of fate (first ∷ copies)))
sent-arrows arrow fate late first copies start one all lates ones alls =
    alls
    ∙ (ap (λ (c : Drawing). with_arrows c (map (λ row. arrow (Row row, true)) copies)) (ones ∙ ap (λ b. with_arrow start (arrow (Row first, b))) lates)
    ∙ ap (λ (arrows : List Arrow). record start { arrows = arrows })
    (append_assoc start.arrows (arrow (Row first, is_late fate) ∷ []) (map (λ row. arrow (Row row, true)) copies)
    ∙ ap (λ (more : List Arrow). start.arrows ++ (arrow (Row first, is_late fate) ∷ more)) (arrows-each arrow copies)))

pub on-ok : {T E : Type 0} (r : Result T E) (P Q : Type 0) → (P → Q) → OnOk r P → OnOk r Q
on-ok (Ok x) P Q f is = f is
on-ok (Err e) P Q f is = tt
