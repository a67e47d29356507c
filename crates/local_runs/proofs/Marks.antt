-- A node alone sends the mark of a phase once.
use Rattle.std.proofs.Common.{◌≡◌, ℕ, zero, suc, ◌+◌, ◌<◌, ◌≤◌, Bool, true, false, cond, List, [], ◌∷◌, map, Some, refl, sym, ap, subst, ◌∙◌, arith}
use Rattle.std.specs.Prelude.{◌==◌, not}
use Rattle.std.proofs.lemmas.Bool.{eq-eqb, ne_eqb, false≢true}
use Rattle.dom_history.specs.declared.event.What.{What}
use Rattle.dom_history.specs.declared.event.What.TheVariants.{Begin, Go, Take, Notice, Ready, Mark}
use Rattle.dom_history.specs.Events.{Happening}
use Rattle.node_runs.specs.Setups.{Setup, given}
use Rattle.node_runs.specs.NodeStates.{NodeState}
use Rattle.node_runs.specs.Outcomes.{Stepped}
use Rattle.node_runs.specs.Doings.{ticked}
use Rattle.node_runs.specs.Steps.{step_of}
use Rattle.node_runs.specs.Runs.{World}
use Rattle.node_runs.proofs.Calls.{put-same}
use Rattle.node_runs.proofs.Doing.{step_of-did}
use Rattle.world_runs.specs.Sendings.{Sending, sending_if, mark_to, sent_if, sent_by, sendings}
use Rattle.world_runs.proofs.MarkCounts.{marks_sent, sent-append, by-event}
use Rattle.world_runs.proofs.Marking.{HasSent, IsMarking, step-marking, did-marks}
use Rattle.local_runs.specs.LocalRuns.{Own, events_in, IsLocalRun}
use Rattle.local_runs.proofs.Alone.{last-of}
use Rattle.wire_links.specs.Carrying.{Posting, sending_of}
use Rattle.local_runs.specs.Posts.{count_if}
use Rattle.uid_names.proofs.ListLemmas.{by_cases}
use Rattle.uid_names.proofs.Passed.{equal}

abbrev ready_by : ℕ → What → ℕ
ready_by phase (Ready k) = count_if (phase == k)
ready_by phase what = 0

abbrev readies : ℕ → List Happening → ℕ
readies phase [] = 0
readies phase (e ∷ older) = ready_by phase e.what + readies phase older

-- the mark was sent once at most, and the node knows that it was
record IsOnce (phase count : ℕ) (node : NodeState) : Type 0 where
  pub few : count ≤ 1
  pub sent : 0 < count → HasSent node phase

still : (phase count : ℕ) (old new : NodeState) → (HasSent old phase → HasSent new phase) → IsOnce phase count old → IsOnce phase (0 + count) new
still phase count old new keeps is = record { few = let e = is.few in omega (arith, e); sent = λ some. keeps (is.sent (omega (arith, some))) }

ready-once : (phase k count : ℕ) (old new : NodeState) → HasSent new k → (HasSent old k → ⊥) → (HasSent old phase → HasSent new phase) → IsOnce phase count old
    → (b : Bool) → (phase == k) ≡ b → IsOnce phase (count_if b + count) new
ready-once phase k count old new now before keeps is false h = still phase count old new keeps is
ready-once phase k zero old new now before keeps is true h =
    record { few = omega arith; sent = λ some. subst (HasSent new) (sym (equal phase k h)) now }
ready-once phase k (suc count) old new now before keeps is true h = absurd (before (subst (HasSent old) (equal phase k h) (is.sent (omega arith))))

event-once : (phase count : ℕ) (old : NodeState) (step : Stepped) (what : What) → IsMarking old what step → (HasSent old phase → HasSent step.node phase) → IsOnce phase count old
    → IsOnce phase (ready_by phase what + count) step.node
event-once phase count old step (Begin p) how keeps is = still phase count old step.node keeps is
event-once phase count old step (Go p) how keeps is = still phase count old step.node keeps is
event-once phase count old step (Take from index) how keeps is = still phase count old step.node keeps is
event-once phase count old step (Notice p from to index) how keeps is = still phase count old step.node keeps is
event-once phase count old step (Mark from k) how keeps is = still phase count old step.node keeps is
event-once phase count old step (Ready k) how keeps is = ready-once phase k count old step.node how.0 how.1 keeps is (phase == k) refl

local-once : (s : Setup) (n phase : ℕ) (own : List Own) (w : World) → IsLocalRun s n own w → IsOnce phase (readies phase (events_in own)) (w.nodes n)
local-once s n phase [] w is = record { few = omega arith; sent = λ some. absurd (omega (arith, some)) }
local-once s n phase (x ∷ own) w is =
    let after = last-of s n x own w is in
    let at : x.event.place.node ≡ n = is.node.0 in
    let now : w.nodes n ≡ after.next.step.node = ap (λ (v : World). v.nodes n) after.next.world ∙ put-same after.before.nodes x.event.place.node n after.next.step.node (sym at) in
    let steps : step_of (given s n) (after.before.nodes n) x.event.what x.received x.event.effects.dropped ≡ Some after.next.step =
    subst (λ m. step_of (given s m) (after.before.nodes m) x.event.what x.received x.event.effects.dropped ≡ Some after.next.step) at after.next.steps in
    let how = step-marking (given s n) (after.before.nodes n) x.event.what x.received x.event.effects.dropped after.next.step steps in
    let did = step_of-did (given s n) (after.before.nodes n) x.event.what x.received x.event.effects.dropped after.next.step steps in
    subst (λ (y : NodeState). IsOnce phase (ready_by phase x.event.what + readies phase (events_in own)) y) (sym now)
    (event-once phase (readies phase (events_in own)) (after.before.nodes n) after.next.step x.event.what how
    (did-marks (given s n) (ticked (after.before.nodes n) x.received) x.event.what x.received after.next.step did phase)
    (local-once s n phase own after.before after.run))

abbrev pub marks_posted : ℕ → List Posting → ℕ
marks_posted phase [] = 0
marks_posted phase (Posting.Frame m ∷ xs) = marks_posted phase xs
marks_posted phase (Posting.Mark at tick ∷ xs) = count_if (phase == at) + marks_posted phase xs

-- a mark is counted alike both ways round
counted : (a b : ℕ) → cond (a == b) 1 0 ≡ count_if (b == a)
counted a b =
    by_cases (a == b) (cond (a == b) 1 0 ≡ count_if (b == a))
    (λ h. ap (λ (c : Bool). cond c 1 0) h ∙ sym (ap count_if (eq-eqb b a (sym (equal a b h)))))
    (λ h. ap (λ (c : Bool). cond c 1 0) h ∙ sym (ap count_if (ne_eqb b a (λ same. absurd (false≢true (sym h ∙ eq-eqb a b (sym same)))))))

posted-sent : (phase : ℕ) (xs : List Posting) → marks_posted phase xs ≡ marks_sent phase (map sending_of xs)
posted-sent phase [] = refl
posted-sent phase (Posting.Frame m ∷ xs) = posted-sent phase xs
posted-sent phase (Posting.Mark k tick ∷ xs) = let e = posted-sent phase xs in let c = counted k phase in omega (arith, e, c)

one-mark : (phase k : ℕ) (b : Bool) → marks_sent phase (sending_if b (Sending.Mark k)) ≤ count_if (phase == k)
one-mark phase k true = let c = counted k phase in omega (arith, c)
one-mark phase k false = omega arith

mark-by : (phase from to : ℕ) (what : What) → marks_sent phase (mark_to from to what) ≤ ready_by phase what
mark-by phase from to (Begin p) = omega arith
mark-by phase from to (Go p) = omega arith
mark-by phase from to (Take a k) = omega arith
mark-by phase from to (Notice p a b k) = omega arith
mark-by phase from to (Mark a k) = omega arith
mark-by phase from to (Ready k) = one-mark phase k (not (from == to))

sent-by : (phase from to : ℕ) (e : Happening) (b : Bool) → marks_sent phase (sent_if b from to e) ≤ ready_by phase e.what
sent-by phase from to e false = omega arith
sent-by phase from to e true = let a = by-event phase true from to e in let b = mark-by phase from to e.what in omega (arith, a, b)

sent-readies : (phase from to : ℕ) (es : List Happening) → marks_sent phase (sendings from to es) ≤ readies phase es
sent-readies phase from to [] = omega arith
sent-readies phase from to (e ∷ older) =
    let a = sent-append phase (sent_by from to e) (sendings from to older) in
    let b = sent-by phase from to e (e.place.node == from) in
    let c = sent-readies phase from to older in
    omega (arith, a, b, c)

pub marks-once : (s : Setup) (n to phase : ℕ) (own : List Own) (w : World) (xs : List Posting) → IsLocalRun s n own w → map sending_of xs ≡ sendings n to (events_in own) → marks_posted phase xs ≤ 1
marks-once s n to phase own w xs is same =
    let a = posted-sent phase xs in
    let b = ap (marks_sent phase) same in
    let c = sent-readies phase n to (events_in own) in
    let d = (local-once s n phase own w is).few in
    omega (arith, a, b, c, d)
