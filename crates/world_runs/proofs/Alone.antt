-- A node that did nothing at a turn, and to which nothing was sent, has the same enabled events as before.
use Rattle.std.proofs.Common.{◌≡◌, ◌≢◌, ℕ, Bool, true, false, cond, List, [], ◌∷◌, ◌++◌, length, map, drop, Option, Some, None, inl, inr, refl, sym, ap, subst, ◌∙◌, append-nil, arith}
use Rattle.std.specs.Prelude.{◌==◌, ◌&&◌, not, filter, flat_map}
use Rattle.std.specs.List.{list_any}
use Rattle.std.proofs.lemmas.Bool.{cases_eq, eq-eqb, ne_eqb}
use Rattle.std.proofs.lemmas.List.Elements.{filter-append}
use Rattle.dom_history.specs.declared.event.What.{What}
use Rattle.dom_history.specs.declared.event.What.TheVariants.{Begin, Go, Take, Notice, Ready, Mark}
use Rattle.dom_history.specs.declared.plan.FateRow.{FateRow}
use Rattle.dom_history.specs.Events.{Happening}
use Rattle.dom_history.specs.Plans.{fate_of}
use Rattle.ring_messages.specs.Frames.{Message}
use Rattle.fault_handler.specs.Desks.{procs}
use Rattle.node_runs.specs.Setups.{Setup, IsSetup, given}
use Rattle.node_runs.specs.NodeStates.{NodeState}
use Rattle.node_runs.specs.Incomings.{Incoming}
use Rattle.node_runs.specs.Doings.{node_numbers}
use Rattle.node_runs.specs.Deliveries.{noticed_by}
use Rattle.node_runs.specs.Runs.{World, SentMark, numbered, taken, marked, mark_of, incoming_of}
use Rattle.node_runs.proofs.Calls.{put-other}
use Rattle.world_runs.specs.Sendings.{Sending, sending_if, frame_to, mark_to, sent_if, sent_by, sendings, frames_in}
use Rattle.world_runs.specs.Waiting.{Entry, entries, entry_if, entry_by, entries_taken, entries_put, waiting}
use Rattle.world_runs.specs.Gone.{notices_at}
use Rattle.world_runs.specs.OpenNotices.{open_notices, tells_of, is_done_by, notices_by}
use Rattle.world_runs.specs.Turns.{Act, starts_of, oldest, takes_at, coming_to, is_enabled_by, is_enabled, enabled_at}
use Rattle.world_runs.proofs.Sent.{step-sent}
use Rattle.world_runs.proofs.Alike.{added, frames-added, marked_by, marks-marked}
use Rattle.world_runs.proofs.Among.{Among, among-filter, among-flat}
use Rattle.world_runs.proofs.Marking.{AreMarked}
use Rattle.world_runs.proofs.Inserting.{event_at}
use Rattle.world_runs.proofs.Turning.{act_place, node-after}
use Rattle.world_runs.proofs.TimelyTurns.{IsTimelyTurn}
use Rattle.world_runs.proofs.Happening.{received-stays}
use Rattle.world_runs.proofs.Taking.{counted}
use Rattle.world_runs.proofs.Noticing.{AreWithin, filter-all, open-kept}

-- the four parts of a node's list
pub enabled-parts : (s : Setup) (plan : List FateRow) (w : World) (n : ℕ) → filter (is_enabled s w n) (coming_to plan w n)
    ≡ filter (is_enabled s w n) (flat_map starts_of procs) ++ (open_notices s plan w n ++ (filter (is_enabled s w n) (takes_at plan w n) ++ filter (is_enabled s w n) (Ready (w.nodes n).phase ∷ [])))
enabled-parts s plan w n =
    let E = is_enabled s w n in
    let starts = flat_map starts_of procs in
    let ready : List What = Ready (w.nodes n).phase ∷ [] in
    filter-append E starts (notices_at plan w n ++ (takes_at plan w n ++ ready))
    ∙ ap (λ (xs : List What). filter E starts ++ xs)
    (filter-append E (notices_at plan w n) (takes_at plan w n ++ ready) ∙ ap (λ (xs : List What). filter E (notices_at plan w n) ++ xs) (filter-append E (takes_at plan w n) ready))

-- tests that agree on a list
filter-same : {A : Type 0} (p q : A → Bool) (xs : List A) → ((x : A) → Among x xs → p x ≡ q x) → filter p xs ≡ filter q xs
filter-same p q [] each = refl
filter-same p q (x ∷ xs) each =
    ap (λ b. cond b (x ∷ filter p xs) (filter p xs)) (each x (inl refl)) ∙ ap (λ (ys : List _). cond (q x) (x ∷ ys) ys) (filter-same p q xs (λ y is. each y (inr is)))

flat-same : {A B : Type 0} (f g : A → List B) (xs : List A) → ((x : A) → f x ≡ g x) → flat_map f xs ≡ flat_map g xs
flat-same f g [] each = refl
flat-same f g (x ∷ xs) each = ap (λ (ys : List _). ys ++ flat_map f xs) (each x) ∙ ap (λ (ys : List _). g x ++ ys) (flat-same f g xs each)

-- a list to which nothing was added
same-if : (b c : Bool) (m : Message) (xs : List Message) → length (cond b (cond c (m ∷ xs) xs) xs) ≡ length xs → cond b (cond c (m ∷ xs) xs) xs ≡ xs
same-if true true m xs e = absurd (let h : length (m ∷ xs) ≡ length xs = e in omega (arith, h))
same-if true false m xs e = refl
same-if false c m xs e = refl

same-added : (n : ℕ) (o : Option Message) (from to : ℕ) (xs : List Message) → length (added n o from to xs) ≡ length xs → added n o from to xs ≡ xs
same-added n None from to xs e = refl
same-added n (Some m) from to xs e = same-if (from == n) (to == m.to) m xs e

pub no-entry : (b c : Bool) (x : Entry) → c ≡ false → entry_if (b && c) x ≡ []
no-entry true c x h = ap (λ y. entry_if y x) h
no-entry false c x h = refl

module _ (s : Setup) (setup : IsSetup s) (plan : List FateRow) (old new : World) (turn : IsTimelyTurn s plan old new) (before : AreWithin s setup plan old) (are : AreMarked old) (n : ℕ) (differs : turn.is.act.node ≢ n) where
  abbrev n0 : ℕ
  n0 = turn.is.act.node

  abbrev it : Happening
  it = event_at n0 turn.is.act.what turn.is.step

  module _ (nothing : sent_by n0 n it ≡ []) (quiet : notices_by plan new n it old.done ≡ []) where
    done-after : new.done ≡ it ∷ old.done
    done-after = ap (λ (w : World). w.done) turn.is.world

    apart : (n0 == n) ≡ false
    apart = ne_eqb n0 n differs

    node-same : new.nodes n ≡ old.nodes n
    node-same = node-after s plan old new turn.is n ∙ put-other old.nodes n0 n turn.is.step.node (λ e. differs (sym e))

    -- nothing was sent there
    no-sending : (from : ℕ) → sent_by from n it ≡ []
    no-sending from = elim (cases_eq n0 from) [
      | inl same ↦ subst (λ a. sent_by a n it ≡ []) same nothing
      | inr other ↦ ap (λ b. sent_if b from n it) (ne_eqb n0 from other)
    ]

    frames-same : (from : ℕ) → new.frames from n ≡ old.frames from n
    frames-same from =
        let sent = step-sent (given s n0) (old.nodes n0) turn.is.act.what turn.is.incoming turn.is.step.effects.dropped turn.is.step turn.steps in
        let many = counted turn.is.step.node.tick n0 from n turn.is.step.frame it turn.is.step.effects.sent (old.frames from n) refl refl sent in
        let none = ap (λ (xs : List Sending). frames_in xs) (no-sending from) in
        ap (λ (w : World). w.frames from n) turn.is.world
        ∙ (frames-added old n0 turn.is.step.frame from n
        ∙ same-added n0 turn.is.step.frame from n (old.frames from n) (omega (arith, many, none)))

    no-mark : (k : ℕ) → turn.is.act.what ≡ Ready k → ⊥
    no-mark k ready =
        let own : sent_by n0 n it ≡ mark_to n0 n turn.is.act.what ++ frame_to n turn.is.step.effects.sent = ap (λ b. sent_if b n0 n it) (eq-eqb n0 n0 refl) in
        let mark : mark_to n0 n turn.is.act.what ≡ Sending.Mark k ∷ [] = ap (mark_to n0 n) ready ∙ ap (λ b. sending_if (not b) (Sending.Mark k)) apart in
        let all : Sending.Mark k ∷ frame_to n turn.is.step.effects.sent ≡ [] = sym (ap (λ (xs : List Sending). xs ++ frame_to n turn.is.step.effects.sent) mark) ∙ (sym own ∙ nothing) in
        absurd (let e = all in cc)

    mark-none : (what : What) → ((k : ℕ) → what ≡ Ready k → ⊥) → (from phase : ℕ) (o : Option SentMark) → marked_by n0 turn.is.step.node.tick what from phase o ≡ o
    mark-none (Begin p) none from phase o = refl
    mark-none (Go p) none from phase o = refl
    mark-none (Take a k) none from phase o = refl
    mark-none (Notice p a b k) none from phase o = refl
    mark-none (Ready k) none from phase o = absurd (none k refl)
    mark-none (Mark a k) none from phase o = refl

    marks-same : (from phase : ℕ) → mark_of new from phase ≡ mark_of old from phase
    marks-same from phase =
        ap (λ (w : World). mark_of w from phase) turn.is.world
        ∙ (marks-marked old (act_place turn.is.act turn.is.step) turn.is.act.what turn.is.step from phase ∙ mark-none turn.is.act.what no-mark from phase (mark_of old from phase))

    -- what waits there is the same
    not-taken : (from : ℕ) (what : What) → entry_by from n n0 what ≡ []
    not-taken from (Begin p) = refl
    not-taken from (Go p) = refl
    not-taken from (Take sender k) = no-entry (sender == from) (n0 == n) (Entry.Copy k) apart
    not-taken from (Notice p a b k) = refl
    not-taken from (Ready k) = refl
    not-taken from (Mark sender k) = no-entry (sender == from) (n0 == n) (Entry.Mark k) apart

    waiting-same : (from : ℕ) → waiting plan from n new.done ≡ waiting plan from n old.done
    waiting-same from =
        ap (λ (es : List Happening). waiting plan from n es) done-after
        ∙ (ap (λ (xs : List Entry). drop (length xs) (entries_put plan from n (it ∷ old.done)))
        (ap (λ (xs : List Entry). entries_taken from n old.done ++ xs) (not-taken from turn.is.act.what) ∙ append-nil (entries_taken from n old.done))
        ∙ ap (λ (ss : List Sending). drop (length (entries_taken from n old.done)) (entries (fate_of plan from n) (ss ++ sendings from n old.done))) (no-sending from))

    -- each test is the same
    with-node : (x : What) (i : Option Incoming) → is_enabled_by (given s n) (new.nodes n) x i ≡ is_enabled_by (given s n) (old.nodes n) x i
    with-node x i = ap (λ (y : NodeState). is_enabled_by (given s n) y x i) node-same

    start-same : (x : What) → Among x (flat_map starts_of procs) → is_enabled s new n x ≡ is_enabled s old n x
    start-same x is = by_start (among-flat starts_of x procs is)
      where
        by_one : (p : ℕ) → Among x (starts_of p) → is_enabled s new n x ≡ is_enabled s old n x
        by_one p (inl e) = subst (λ (y : What). is_enabled s new n y ≡ is_enabled s old n y) (sym e) (with-node (Begin p) (Some Incoming.Nothing))
        by_one p (inr (inl e)) = subst (λ (y : What). is_enabled s new n y ≡ is_enabled s old n y) (sym e) (with-node (Go p) (Some Incoming.Nothing))
        by_one p (inr (inr none)) = absurd none

        by_start : ((p : ℕ) × Among p procs × Among x (starts_of p)) → is_enabled s new n x ≡ is_enabled s old n x
        by_start found = by_one found.0 found.2

    take-same : (x : What) → Among x (takes_at plan old n) → is_enabled s new n x ≡ is_enabled s old n x
    take-same x is = let found = among-flat (λ (from : ℕ). oldest from (waiting plan from n old.done)) x node_numbers is in by_oldest found.0 (waiting plan found.0 n old.done) found.2
      where
        by_oldest : (from : ℕ) (ws : List Entry) → Among x (oldest from ws) → is_enabled s new n x ≡ is_enabled s old n x
        by_oldest from [] none = absurd none
        by_oldest from (Entry.Copy k ∷ more) (inl e) =
            subst (λ (y : What). is_enabled s new n y ≡ is_enabled s old n y) (sym e)
            (ap (λ (xs : List Message). is_enabled_by (given s n) (new.nodes n) (Take from k) (taken (numbered k xs))) (frames-same from) ∙ with-node (Take from k) (taken (numbered k (old.frames from n))))
        by_oldest from (Entry.Copy k ∷ more) (inr none) = absurd none
        by_oldest from (Entry.Mark k ∷ more) (inl e) =
            subst (λ (y : What). is_enabled s new n y ≡ is_enabled s old n y) (sym e)
            (ap (λ (o : Option SentMark). is_enabled_by (given s n) (new.nodes n) (Mark from k) (marked o)) (marks-same from k) ∙ with-node (Mark from k) (marked (mark_of old from k)))
        by_oldest from (Entry.Mark k ∷ more) (inr none) = absurd none

    -- an open notice stays open
    still-open : (x : What) (o : Option Incoming) → incoming_of old n x ≡ o → is_enabled_by (given s n) (old.nodes n) x o ≡ true → is_enabled s new n x ≡ true
    still-open x None e may = absurd (cc)
    still-open x (Some i) e may =
        ap (is_enabled_by (given s n) (new.nodes n) x) (received-stays s plan old new turn are n x i e) ∙ (with-node x (Some i) ∙ may)

    open-same : open_notices s plan new n ≡ open_notices s plan old n
    open-same =
        let all = filter-all (λ (x : What). not (is_done_by n it x)) (open_notices s plan old n) (λ x is. ap (λ b. not (b && list_any (tells_of x) (noticed_by turn.is.act.what))) apart) in
        open-kept s setup plan old new turn before n
        ∙ (ap (filter (is_enabled s new n)) (ap (λ (xs : List What). filter (λ (x : What). not (is_done_by n it x)) (open_notices s plan old n) ++ xs) quiet ∙ (append-nil _ ∙ all))
        ∙ filter-all (is_enabled s new n) (open_notices s plan old n)
        (λ x is. still-open x (incoming_of old n x) refl (among-filter (is_enabled s old n) x (notices_at plan old n) is).1))

    takes-same : takes_at plan new n ≡ takes_at plan old n
    takes-same = flat-same (λ (from : ℕ). oldest from (waiting plan from n new.done)) (λ (from : ℕ). oldest from (waiting plan from n old.done)) node_numbers (λ from. ap (oldest from) (waiting-same from))

    ready-same : filter (is_enabled s new n) (Ready (new.nodes n).phase ∷ []) ≡ filter (is_enabled s old n) (Ready (old.nodes n).phase ∷ [])
    ready-same =
        ap (λ (y : NodeState). filter (λ (x : What). is_enabled_by (given s n) y x (incoming_of new n x)) (Ready y.phase ∷ [])) node-same

    pub enabled-same : enabled_at s plan new n ≡ enabled_at s plan old n
    enabled-same =
        ap (λ (xs : List What). map (λ (what : What). let x : Act = record { node = n; what = what } in x) xs)
        (enabled-parts s plan new n
        ∙ (ap (λ (xs : List What). xs ++ (open_notices s plan new n ++ (filter (is_enabled s new n) (takes_at plan new n) ++ filter (is_enabled s new n) (Ready (new.nodes n).phase ∷ []))))
        (filter-same (is_enabled s new n) (is_enabled s old n) (flat_map starts_of procs) start-same)
        ∙ ap (λ (xs : List What). filter (is_enabled s old n) (flat_map starts_of procs) ++ xs)
        (ap (λ (xs : List What). xs ++ (filter (is_enabled s new n) (takes_at plan new n) ++ filter (is_enabled s new n) (Ready (new.nodes n).phase ∷ []))) open-same
        ∙ ap (λ (xs : List What). open_notices s plan old n ++ xs)
        (ap (λ (xs : List What). xs ++ filter (is_enabled s new n) (Ready (new.nodes n).phase ∷ []))
        (ap (filter (is_enabled s new n)) takes-same ∙ filter-same (is_enabled s new n) (is_enabled s old n) (takes_at plan old n) take-same)
        ∙ ap (λ (xs : List What). filter (is_enabled s old n) (takes_at plan old n) ++ xs) ready-same))
        ∙ sym (enabled-parts s plan old n)))
