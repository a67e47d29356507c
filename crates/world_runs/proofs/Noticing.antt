-- Open notices that are kept turn by turn are those of the frames that were lost or are late.
use Rattle.std.proofs.Common.{◌≡◌, ℕ, ◌+◌, ◌≤◌, Bool, true, false, cond, List, [], ◌∷◌, ◌++◌, length, Option, Some, None, IfSome, inl, inr, refl, sym, ap, subst, ◌∙◌, arith}
use Rattle.std.specs.Prelude.{◌==◌, not, ◌&&◌, ◌||◌, filter, flat_map}
use Rattle.std.specs.List.{list_any, AllByRecursion}
use Rattle.std.proofs.lemmas.Bool.{eq-eqb}
use Rattle.std.proofs.lemmas.List.Elements.{filter-append}
use Rattle.std.proofs.lemmas.Grind.{flat_map-append}
use Rattle.std.proofs.lemmas.List.Folds.{list_any-append}
use Rattle.uid_names.specs.Names.{ProcName, same_proc}
use Rattle.uid_names.proofs.Passed.{left-true, equal}
use Rattle.dom_history.specs.declared.event.What.{What}
use Rattle.dom_history.specs.declared.event.What.TheVariants.{Begin, Go, Take, Notice, Ready, Mark}
use Rattle.dom_history.specs.declared.event.Sent.{Sent}
use Rattle.dom_history.specs.declared.plan.FateRow.{FateRow}
use Rattle.dom_history.specs.Events.{Happening}
use Rattle.dom_history.specs.Plans.{fate_of}
use Rattle.ring_messages.specs.Frames.{Message, caller_of}
use Rattle.fault_handler.specs.Invariant.{IsProc}
use Rattle.node_runs.specs.Setups.{Setup, IsSetup, given}
use Rattle.node_runs.specs.Incomings.{Incoming}
use Rattle.node_runs.specs.NodeStates.{proc_of}
use Rattle.node_runs.specs.NodesKeep.{IsTimely}
use Rattle.node_runs.specs.Deliveries.{is_gone, noticed_by, noticed_in}
use Rattle.node_runs.specs.Runs.{World, numbered, told_if, told_of, incoming_of}
use Rattle.node_runs.proofs.Receiving.{numbered-each}
use Rattle.world_runs.specs.Sendings.{frame_to, sent_by, sendings, frames_in, frames_on}
use Rattle.world_runs.specs.Gone.{FrameName, same_frame, gone_by, gone_in, was_told, notice_if, notice_of}
use Rattle.world_runs.specs.OpenNotices.{open_notices, is_done_by, notices_kept}
use Rattle.world_runs.specs.Turns.{is_enabled_by, is_enabled, after_turns}
use Rattle.world_runs.proofs.Alike.{added, frames-added}
use Rattle.world_runs.proofs.Receiving.{numbered-older}
use Rattle.world_runs.proofs.Among.{Among, among-append}
use Rattle.world_runs.proofs.Inserting.{event_at}
use Rattle.world_runs.proofs.TimelyTurns.{IsTimelyTurn, every-timely}
use Rattle.world_runs.proofs.Coming.{IsDue, coming-due}
use Rattle.world_runs.proofs.Taking.{frames-append, one-frame}
use Rattle.world_runs.proofs.Telling.{frame-is, gone-if}
use Rattle.world_runs.proofs.Numbering.{own-frames}
use Rattle.world_runs.proofs.OldCalls.{IsOfPast, AreOld, first-old, later-old, notice-was}
use Rattle.world_runs.proofs.Planning.{AreDelivered, first-delivered, later-delivered}

-- a frame that was sent
abbrev pub IsWithin : List Happening → FrameName → Type 0
IsWithin es f = f.2 ≤ frames_on f.0 f.1 es

within-more : (e : Happening) (es : List Happening) (f : FrameName) → IsWithin es f → IsWithin (e ∷ es) f
within-more e es f is = let a = frames-append (sent_by f.0 f.1 e) (sendings f.0 f.1 es) in omega (arith, a, is)

-- the frame that an event sent has the next number
gone-next : (plan : List FateRow) (from : ℕ) (x : Option Sent) (older : List Happening) (f : FrameName) → Among f (gone_by plan from x older) → f.2 ≡ frames_on f.0 f.1 older + 1
gone-next plan from None older f is = absurd is
gone-next plan from (Some sent) older f is =
    let e = (gone-if (is_gone (fate_of plan from sent.to (frames_on from sent.to older + 1))) f (from, sent.to, frames_on from sent.to older + 1) is).1 in
    subst (λ (g : FrameName). g.2 ≡ frames_on g.0 g.1 older + 1) (sym e) refl

gone-new : (plan : List FateRow) (e : Happening) (x : Option Sent) → e.effects.sent ≡ x → (older : List Happening) (f : FrameName) → Among f (gone_by plan e.place.node x older) → IsWithin (e ∷ older) f
gone-new plan e None same older f is = absurd is
gone-new plan e (Some sent) same older f is =
    let k = frames_on e.place.node sent.to older in
    let here = (gone-if (is_gone (fate_of plan e.place.node sent.to (k + 1))) f (e.place.node, sent.to, k + 1) is).1 in
    let all = own-frames e.place.node sent.to e older refl in
    let one : frames_in (frame_to sent.to e.effects.sent) ≡ 1 =
    ap (λ (o : Option Sent). frames_in (frame_to sent.to o)) same ∙ one-frame (sent.to == sent.to) ∙ ap (λ (b : Bool). let i : ℕ = cond b 1 0 in i) (eq-eqb sent.to sent.to refl) in
    subst (IsWithin (e ∷ older)) (sym here) (omega (arith, all, one))

pub gone-within : (plan : List FateRow) (es : List Happening) (f : FrameName) → Among f (gone_in plan es) → IsWithin es f
gone-within plan [] f is = absurd is
gone-within plan (e ∷ older) f is = elim (among-append f (gone_in plan older) (gone_by plan e.place.node e.effects.sent older) is) [
  | inl before ↦ within-more e older f (gone-within plan older f before)
  | inr now ↦ gone-new plan e e.effects.sent refl older f now
]

-- nobody was told yet of the frame that is sent next
pub apart-test : (es : List Happening) (f h : FrameName) (b : Bool) → IsWithin es h → f.2 ≡ frames_on f.0 f.1 es + 1 → same_frame f h ≡ b → b ≡ false
apart-test es f h true within next is = absurd (let e = frame-is f h is in let w : f.2 ≤ frames_on f.0 f.1 es = subst (IsWithin es) (sym e) within in omega (arith, w, next))
apart-test es f h false within next is = refl

pub not-among : (es : List Happening) (f : FrameName) (hs : List FrameName) → AllByRecursion (IsWithin es) hs → f.2 ≡ frames_on f.0 f.1 es + 1 → list_any (same_frame f) hs ≡ false
not-among es f [] all next = refl
not-among es f (h ∷ hs) all next =
    ap (λ b. b || list_any (same_frame f) hs) (apart-test es f h (same_frame f h) all.0 next refl) ∙ not-among es f hs all.1 next

-- a filter that keeps all
pub filter-all : {A : Type 0} (p : A → Bool) (xs : List A) → ((x : A) → Among x xs → p x ≡ true) → filter p xs ≡ xs
filter-all p [] each = refl
filter-all p (x ∷ xs) each = ap (λ b. cond b (x ∷ filter p xs) (filter p xs)) (each x (inl refl)) ∙ ap (λ (ys : List _). x ∷ ys) (filter-all p xs (λ y is. each y (inr is)))

flat-cond : {A B : Type 0} (f : A → List B) (b : Bool) (x : A) (xs : List A) → flat_map f (cond b (x ∷ xs) xs) ≡ cond b (f x) [] ++ flat_map f xs
flat-cond f true x xs = refl
flat-cond f false x xs = refl

-- the notices of each frame of a list, those that go and those that are told left out
module _ {A B : Type 0} (N K : A → List B) (T U : A → Bool) (E F D : B → Bool) where
  pub filters-agree : (xs : List A) → ((x : A) → Among x xs → filter F (cond (U x) (K x) []) ≡ filter F (filter D (filter E (cond (T x) (N x) []))))
      → filter F (flat_map K (filter U xs)) ≡ filter F (filter D (filter E (flat_map N (filter T xs))))
  filters-agree [] each = refl
  filters-agree (x ∷ xs) each =
      let rest = filters-agree xs (λ y is. each y (inr is)) in
      let own = cond (T x) (N x) [] in
      let more = flat_map N (filter T xs) in
      ap (filter F) (flat-cond K (U x) x (filter U xs)) ∙ filter-append F (cond (U x) (K x) []) (flat_map K (filter U xs))
      ∙ ap (λ (ys : List B). ys ++ filter F (flat_map K (filter U xs))) (each x (inl refl))
      ∙ ap (λ (ys : List B). filter F (filter D (filter E own)) ++ ys) rest
      ∙ sym (filter-append F (filter D (filter E own)) (filter D (filter E more)))
      ∙ ap (filter F) (sym (filter-append D (filter E own) (filter E more)) ∙ ap (filter D) (sym (filter-append E own more)))
      ∙ sym (ap (λ (ys : List B). filter F (filter D (filter E ys))) (flat-cond N (T x) x (filter T xs)))

-- the same of one frame with at most one notice
module _ {B : Type 0} (x : B) (E F D : B → Bool) where
  one-kept : (e f : Bool) → E x ≡ e → F x ≡ f → (F x ≡ true → E x ≡ true) → D x ≡ true → filter F (x ∷ []) ≡ filter F (filter D (filter E (x ∷ [])))
  one-kept true f is fs was stays = sym (ap (λ b. filter F (filter D (cond b (x ∷ []) []))) is ∙ ap (λ b. filter F (cond b (x ∷ []) [])) stays)
  one-kept false true is fs was stays = absurd (let e = was fs in cc)
  one-kept false false is fs was stays = ap (λ b. cond b (x ∷ []) []) fs ∙ sym (ap (λ b. filter F (filter D (cond b (x ∷ []) []))) is)

  one-gone : (e : Bool) → E x ≡ e → D x ≡ false → filter D (filter E (x ∷ [])) ≡ []
  one-gone true is goes = ap (λ b. filter D (cond b (x ∷ []) [])) is ∙ ap (λ b. cond b (x ∷ []) []) goes
  one-gone false is goes = ap (λ b. filter D (cond b (x ∷ []) [])) is

-- what a notice that may be taken receives
told-is : (p : ProcName) (o : Option Message) (i : Incoming) → told_of p o ≡ Some i → (m : Message) × (o ≡ Some m) × (same_proc (caller_of m) p ≡ true)
told-is p None i e = absurd (cc)
told-is p (Some m) i e = (m, refl, by_test (same_proc (caller_of m) p) refl e)
  where
    by_test : (b : Bool) → same_proc (caller_of m) p ≡ b → told_if b m ≡ Some i → b ≡ true
    by_test true is e = refl
    by_test false is e = absurd (cc)

module _ (s : Setup) (setup : IsSetup s) (plan : List FateRow) where
  -- what turns keep of frames that were told: they were sent
  pub record AreWithin (w : World) : Type 0 where
    pub delivered : AreDelivered plan w
    pub old : AreOld s w
    pub within : AllByRecursion (IsWithin w.done) (noticed_in w.done)

  all-more : (e : Happening) (es : List Happening) (fs : List FrameName) → AllByRecursion (IsWithin es) fs → AllByRecursion (IsWithin (e ∷ es)) fs
  all-more e es [] all = tt
  all-more e es (f ∷ fs) all = (within-more e es f all.0, all-more e es fs all.1)

  due-within : (w : World) (k : ℕ) (what : What) → IsDue plan w k what → AllByRecursion (IsWithin w.done) (noticed_in w.done) → AllByRecursion (IsWithin w.done) (noticed_by what ++ noticed_in w.done)
  due-within w k (Begin p) due all = all
  due-within w k (Go p) due all = all
  due-within w k (Take from index) due all = all
  due-within w k (Notice p from to index) due all = (gone-within plan w.done (from, to, index) due.0, all)
  due-within w k (Ready phase) due all = all
  due-within w k (Mark from phase) due all = all

  module _ (old new : World) (turn : IsTimelyTurn s plan old new) (before : AreWithin old) where
    abbrev n : ℕ
    n = turn.is.act.node

    abbrev it : Happening
    it = event_at n turn.is.act.what turn.is.step

    done-after : new.done ≡ it ∷ old.done
    done-after = ap (λ (w : World). w.done) turn.is.world

    all-within : AllByRecursion (IsWithin old.done) (noticed_by turn.is.act.what ++ noticed_in old.done)
    all-within = due-within old n turn.is.act.what (coming-due plan old n turn.is.act.what turn.is.comes) before.within

    later-within : AreWithin new
    later-within = record {
      delivered = later-delivered s setup plan old new turn before.delivered;
      old = later-old s setup plan old new turn before.old;
      within = subst (λ (es : List Happening). AllByRecursion (IsWithin es) (noticed_in es)) (sym done-after) (all-more it old.done (noticed_by turn.is.act.what ++ noticed_in old.done) all-within);
    }

    -- a frame that was sent stays what it is
    stays-sent : (f : FrameName) → IsWithin old.done f → numbered f.2 (new.frames f.0 f.1) ≡ numbered f.2 (old.frames f.0 f.1)
    stays-sent f within =
        ap (λ (w : World). numbered f.2 (w.frames f.0 f.1)) turn.is.world
        ∙ ap (numbered f.2) (frames-added old n turn.is.step.frame f.0 f.1)
        ∙ in-added turn.is.step.frame
      where
        low : f.2 ≤ length (old.frames f.0 f.1)
        low = let e = before.delivered.frames f.0 f.1 in omega (arith, e, within)

        in-cond : (b c : Bool) (m : Message) → numbered f.2 (cond b (cond c (m ∷ old.frames f.0 f.1) (old.frames f.0 f.1)) (old.frames f.0 f.1)) ≡ numbered f.2 (old.frames f.0 f.1)
        in-cond true true m = numbered-older f.2 m (old.frames f.0 f.1) low
        in-cond true false m = refl
        in-cond false c m = refl

        in-added : (o : Option Message) → numbered f.2 (added n o f.0 f.1 (old.frames f.0 f.1)) ≡ numbered f.2 (old.frames f.0 f.1)
        in-added None = refl
        in-added (Some m) = in-cond (f.0 == n) (f.1 == m.to) m

    -- the notice of a frame at one node
    module _ (k : ℕ) (f : FrameName) (within : IsWithin old.done f) (m : Message) (found : numbered f.2 (old.frames f.0 f.1) ≡ Some m) (caller : ((caller_of m).node == k) ≡ true) where
      abbrev x : What
      x = Notice m.proc f.0 f.1 f.2

      own-proc : same_proc (caller_of m) (record { node = k; number = m.proc }) ≡ true
      own-proc = ap (λ b. b && (m.proc == m.proc)) caller ∙ eq-eqb m.proc m.proc refl

      received : incoming_of old k x ≡ Some (Incoming.Gone m.number m.tick)
      received = ap (told_of (record { node = k; number = m.proc })) found ∙ ap (λ b. told_if b m) own-proc

      received-after : incoming_of new k x ≡ Some (Incoming.Gone m.number m.tick)
      received-after = ap (told_of (record { node = k; number = m.proc })) (stays-sent f within ∙ found) ∙ ap (λ b. told_if b m) own-proc

      past : IsProc m.proc × IsOfPast old.nodes m
      past = subst (λ (o : Option Message). IfSome o (λ y. IsProc y.proc × IsOfPast old.nodes y)) found (numbered-each (λ y. IsProc y.proc × IsOfPast old.nodes y) f.2 (old.frames f.0 f.1) (before.old.frames f.0 f.1))

      was-enabled : is_enabled s new k x ≡ true → is_enabled s old k x ≡ true
      was-enabled may =
          ap (is_enabled_by (given s k) (old.nodes k) x) received
          ∙ notice-was s setup plan old new turn before.old k m.proc f.0 f.1 f.2 m.number m.tick past.0
          (subst (λ j. m.number ≤ (proc_of (old.nodes j) m.proc).last) (equal (caller_of m).node k caller) past.1)
          (sym (ap (is_enabled_by (given s k) (new.nodes k) x) received-after) ∙ may)

      -- the node of the event is the frame's caller's
      taken-here : (what : What) (i : Incoming) → incoming_of old n what ≡ Some i → list_any (same_frame f) (noticed_by what) ≡ true → (n == k) ≡ true
      taken-here (Begin p) i e told = absurd (cc)
      taken-here (Go p) i e told = absurd (cc)
      taken-here (Take from index) i e told = absurd (cc)
      taken-here (Ready phase) i e told = absurd (cc)
      taken-here (Mark from phase) i e told = absurd (cc)
      taken-here (Notice p a b j) i e told =
          let same = frame-is f (a, b, j) (only-one (same_frame f (a, b, j)) told) in
          let is = told-is (record { node = n; number = p }) (numbered j (old.frames a b)) i e in
          let one : Some is.0 ≡ Some m = sym is.1 ∙ (sym (ap (λ (g : FrameName). numbered g.2 (old.frames g.0 g.1)) same) ∙ found) in
          let node = equal (caller_of is.0).node n (left-true _ _ is.2) in
          let also = equal (caller_of m).node k caller in
          let both : is.0 ≡ m = let o = one in cc in
          eq-eqb n k (sym node ∙ ap (λ (y : Message). (caller_of y).node) both ∙ also)
        where
          only-one : (c : Bool) → (c || false) ≡ true → c ≡ true
          only-one true h = refl
          only-one false h = absurd (cc)

    -- the notices of one node
    module _ (k : ℕ) where
      abbrev E : What → Bool
      E x = is_enabled s old k x

      abbrev F : What → Bool
      F x = is_enabled s new k x

      abbrev D : What → Bool
      D x = not (is_done_by k it x)

      nothing : (told was : Bool) → filter F (cond (not (told || was)) [] []) ≡ filter F (filter D (filter E (cond (not was) [] [])))
      nothing true true = refl
      nothing true false = refl
      nothing false true = refl
      nothing false false = refl

      module _ (f : FrameName) (within : IsWithin old.done f) where
        done-told : (p : ℕ) (told : Bool) → list_any (same_frame f) (noticed_by turn.is.act.what) ≡ told → (told ≡ true → (n == k) ≡ true) → D (Notice p f.0 f.1 f.2) ≡ not told
        done-told p true is here = ap (λ b. not (b && list_any (same_frame f) (noticed_by turn.is.act.what))) (here refl) ∙ ap not is
        done-told p false is here = ap (λ b. not ((n == k) && b)) is ∙ no-and (n == k)
          where
            no-and : (b : Bool) → not (b && false) ≡ true
            no-and true = refl
            no-and false = refl

        agree-one : (m : Message) → numbered f.2 (old.frames f.0 f.1) ≡ Some m → (c told was : Bool) → ((caller_of m).node == k) ≡ c → list_any (same_frame f) (noticed_by turn.is.act.what) ≡ told
            → filter F (cond (not (told || was)) (notice_if c (Notice m.proc f.0 f.1 f.2)) []) ≡ filter F (filter D (filter E (cond (not was) (notice_if c (Notice m.proc f.0 f.1 f.2)) [])))
        agree-one m found false told was caller is = nothing told was
        agree-one m found true true true caller is = refl
        agree-one m found true false true caller is = refl
        agree-one m found true true false caller is =
            let y : What = Notice m.proc f.0 f.1 f.2 in
            sym (ap (filter F) (one-gone y E F D (E y) refl
            (done-told m.proc true is (λ h. taken-here k f within m found caller turn.is.act.what turn.is.incoming turn.is.receives is))))
        agree-one m found true false false caller is =
            let y : What = Notice m.proc f.0 f.1 f.2 in
            one-kept y E F D (E y) (F y) refl refl (was-enabled k f within m found caller) (done-told m.proc false is (λ h. absurd (cc)))

        agree-told : (o : Option Message) → numbered f.2 (old.frames f.0 f.1) ≡ o → (told was : Bool) → list_any (same_frame f) (noticed_by turn.is.act.what) ≡ told
            → filter F (cond (not (told || was)) (notice_of k f o) []) ≡ filter F (filter D (filter E (cond (not was) (notice_of k f o) [])))
        agree-told None found told was is = nothing told was
        agree-told (Some m) found told was is = agree-one m found ((caller_of m).node == k) told was refl is

        agree : filter F (cond (not (was_told (it ∷ old.done) f)) (notice_of k f (numbered f.2 (new.frames f.0 f.1))) [])
            ≡ filter F (filter D (filter E (cond (not (was_told old.done f)) (notice_of k f (numbered f.2 (old.frames f.0 f.1))) [])))
        agree =
            ap (λ (o : Option Message). filter F (cond (not (was_told (it ∷ old.done) f)) (notice_of k f o) [])) (stays-sent f within)
            ∙ ap (λ b. filter F (cond (not b) (notice_of k f (numbered f.2 (old.frames f.0 f.1))) [])) (list_any-append (same_frame f) (noticed_by turn.is.act.what) (noticed_in old.done))
            ∙ agree-told (numbered f.2 (old.frames f.0 f.1)) refl (list_any (same_frame f) (noticed_by turn.is.act.what)) (was_told old.done f) refl

      untold : (f : FrameName) → Among f (gone_by plan n turn.is.step.effects.sent old.done) → not (was_told (it ∷ old.done) f) ≡ true
      untold f is = ap not (not-among old.done f (noticed_by turn.is.act.what ++ noticed_in old.done) all-within (gone-next plan n turn.is.step.effects.sent old.done f is))

      pub open-kept : open_notices s plan new k ≡ notices_kept s plan old new k it
      open-kept =
          let U = λ (f : FrameName). not (was_told (it ∷ old.done) f) in
          let T = λ (f : FrameName). not (was_told old.done f) in
          let N = λ (f : FrameName). notice_of k f (numbered f.2 (old.frames f.0 f.1)) in
          let K = λ (f : FrameName). notice_of k f (numbered f.2 (new.frames f.0 f.1)) in
          let G = gone_in plan old.done in
          let g = gone_by plan n turn.is.step.effects.sent old.done in
          ap (λ (es : List Happening). filter F (flat_map K (filter (λ (f : FrameName). not (was_told es f)) (gone_in plan es)))) done-after
          ∙ ap (λ (fs : List FrameName). filter F (flat_map K fs)) (filter-append U G g ∙ ap (λ (fs : List FrameName). filter U G ++ fs) (filter-all U g untold))
          ∙ ap (filter F) (flat_map-append K (filter U G) g)
          ∙ filter-append F (flat_map K (filter U G)) (flat_map K g)
          ∙ ap (λ (xs : List What). xs ++ filter F (flat_map K g)) (filters-agree N K T U E F D G (λ f is. agree f (gone-within plan old.done f is)))
          ∙ sym (filter-append F (filter D (filter E (flat_map N (filter T G)))) (flat_map K g))

  pub turns-within : (cs : List ℕ) (w : World) → after_turns s plan cs ≡ Some w → IsTimely w → AreWithin w
  turns-within = every-timely s setup plan AreWithin
      (record { delivered = first-delivered s setup plan; old = first-old s setup plan; within = tt })
      later-within
