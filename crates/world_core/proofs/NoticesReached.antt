-- The notices of a node after an event took one, and the notice of a frame that is lost or late came.
use Rattle.std.proofs.Common.{◌≡◌, ◌≢◌, ℕ, ◌+◌, ◌≤◌, Bool, true, false, Option, Some, None, List, [], ◌++◌, map, inl, inr, refl, sym, ap, ◌∙◌, arith}
use Rattle.std.specs.Prelude.{◌==◌, ◌-◌, not, ◌&&◌, filter, flat_map, All, if◌then◌else◌}
use Rattle.std.specs.List.{list_any}
use Rattle.std.proofs.lemmas.Bool.{cases_eq, eq-eqb, ne_eqb}
use Rattle.std.proofs.lemmas.List.Elements.{All-nil, All-cons}
use Rattle.std.proofs.Math.Bool.{and-false}
use Rattle.dom_history.specs.declared.event.What.{What}
use Rattle.dom_history.specs.declared.event.What.TheVariants as events
use Rattle.dom_history.specs.declared.event.Sent.{Sent}
use Rattle.dom_history.specs.declared.plan.FateRow.{FateRow}
use Rattle.dom_history.specs.Events.{Happening}
use Rattle.dom_history.specs.Plans.{fate_of}
use Rattle.ring_messages.specs.Bodies.{is_request}
use Rattle.ring_messages.specs.Frames.{Message, caller_of}
use Rattle.node_runs.specs.Setups.{Setup}
use Rattle.node_runs.specs.Deliveries.{is_gone, noticed_by}
use Rattle.node_runs.specs.Runs.{World, numbered, told_if, told_of}
use Rattle.world_runs.specs.Sendings.{frames_on}
use Rattle.world_runs.specs.Gone.{FrameName, frame_if, gone_by, notice_of}
use Rattle.world_runs.specs.Gone as gone
use Rattle.world_runs.specs.OpenNotices.{open_notices, tells_of, is_done_by, notices_by}
use Rattle.world_runs.proofs.Noticing.{filter-all}
use Rattle.ring_links.specs.declared.entry.Waiting.{Waiting}
use Rattle.ring_links.specs.declared.entry.Waiting.TheVariants.{Copy, Mark}
use Rattle.world_core.specs.declared.coming.Source as source
use Rattle.world_core.specs.declared.coming.Source.TheVariants as sources
use Rattle.ring_links.specs.declared.notice.Notice.{Notice}
use Rattle.world_core.specs.declared.station.LinkFrom.{LinkFrom}
use Rattle.ring_links.specs.Notices.{notice_for, notice_what}
use Rattle.world_core.specs.Stations.{what_of}
use Rattle.world_core.specs.Listed.{notices_less}
use Rattle.world_core.specs.Reached.{notice_if, frame_notices}
use Rattle.world_core.specs.Stands.{IsNoticeOf}
use Rattle.world_core.proofs.Sources.{IsStart, begins, goes_on, is_ready, IsFrom}
use Rattle.world_core.proofs.NoticesOnce.{notice-goes, all-but-one}

-- what is left of the notices of a node after an event
pub record AreLeft (w : World) (n : ℕ) (e : Happening) (old kept : List Notice) : Type 0 where
  pub are : map notice_what kept ≡ filter (λ y. not (is_done_by n e y)) (map notice_what old)
  pub told : All (IsNoticeOf w n) kept

start-tells : (what : What) → IsStart what → noticed_by what ≡ []
start-tells what (begins p) = refl
start-tells what (goes_on p) = refl
start-tells what (is_ready phase) = refl

taking-tells : (from : ℕ) (waiting : Waiting) → noticed_by (what_of from waiting) ≡ []
taking-tells from (Copy index) = refl
taking-tells from (Mark phase) = refl

module _ (w : World) (n : ℕ) (e : Happening) (old : List Notice) (told : All (IsNoticeOf w n) old) where
  -- an event that tells no frame, or of another node
  all-left : ((x : What) → is_done_by n e x ≡ false) → AreLeft w n e old old
  all-left none = record {
    are = sym (filter-all (λ x. not (is_done_by n e x)) (map notice_what old) (λ x is. ap not (none x)));
    told = told;
  }

  pub left-away : e.place.node ≢ n → AreLeft w n e old old
  left-away differs = all-left (λ x. ap (λ (b : Bool). b && list_any (tells_of x) (noticed_by e.what)) (ne_eqb e.place.node n differs))

  left-untold : noticed_by e.what ≡ [] → AreLeft w n e old old
  left-untold none =
      all-left (λ x. ap (λ (fs : List FrameName). (e.place.node == n) && list_any (tells_of x) fs) none ∙ and-false (e.place.node == n))

  pub left-own : (s : Setup) (plan : List FateRow) (ins : List LinkFrom) (src : source.Source) → map notice_what old ≡ open_notices s plan w n → e.place.node ≡ n → IsFrom old ins e.what src
      → AreLeft w n e old (notices_less src old)
  left-own s plan ins sources.Nothing are own starts = left-untold (start-tells e.what starts)
  left-own s plan ins (sources.Notice i) are own noticed = record {
    are = notice-goes s plan w n e old i noticed.notice are noticed.there own noticed.event;
    told = all-but-one (IsNoticeOf w n) old i told;
  }
  left-own s plan ins (sources.Link i) are own taken = left-untold (ap noticed_by taken.event ∙ taking-tells taken.link.from taken.waiting)

-- the notice of a frame
pub caller-low : (m : Message) → 1 ≤ m.from → 1 ≤ m.to → 1 ≤ (caller_of m).node
caller-low m from to = either (is_request m.body)
  where
    either : (b : Bool) → 1 ≤ (if b then m.from else m.to)
    either true = from
    either false = to

same-test : (k c : ℕ) → 1 ≤ c → (c == k + 1) ≡ (k == c - 1)
same-test k c low = elim (cases_eq c (k + 1)) [
  | inl same ↦ (eq-eqb c (k + 1) same ∙ sym (eq-eqb k (c - 1) (omega (arith, low, same))))
  | inr differs ↦ (ne_eqb c (k + 1) differs ∙ sym (ne_eqb k (c - 1) (λ same. differs (omega (arith, low, same)))))
]

-- a frame that was sent by an event, with its number, and is the newest of its link
module _ (plan : List FateRow) (w v : World) (n k : ℕ) (e : Happening) (m : Message) (x : Sent) (own : e.place.node ≡ n) (sent : e.effects.sent ≡ Some x) (from : m.from ≡ n) (goes : x.to ≡ m.to)
    (next : x.index ≡ frames_on n x.to w.done + 1) (found : numbered x.index (v.frames m.from m.to) ≡ Some m) (caller : 1 ≤ (caller_of m).node) where
  abbrev name : FrameName
  name = (m.from, m.to, x.index)

  gone-is : gone_by plan e.place.node e.effects.sent w.done ≡ frame_if (is_gone (fate_of plan m.from m.to x.index)) name
  gone-is =
      ap (λ (o : Option Sent). gone_by plan e.place.node o w.done) sent
      ∙ ap (λ (a : ℕ). frame_if (is_gone (fate_of plan a x.to (frames_on a x.to w.done + 1))) (a, x.to, frames_on a x.to w.done + 1)) own
      ∙ ap (λ (i : ℕ). frame_if (is_gone (fate_of plan n x.to i)) (n, x.to, i)) (sym next)
      ∙ ap (λ (t : ℕ). frame_if (is_gone (fate_of plan n t x.index)) (n, t, x.index)) goes
      ∙ ap (λ (a : ℕ). frame_if (is_gone (fate_of plan a m.to x.index)) (a, m.to, x.index)) (sym from)

  abbrev of-frame : FrameName → List What
  of-frame f = notice_of (k + 1) f (numbered f.2 (v.frames f.0 f.1))

  by-caller : (c d : Bool) → c ≡ d → gone.notice_if c (events.Notice m.proc m.from m.to x.index) ++ [] ≡ map notice_what (notice_if d (notice_for m x.index))
  by-caller true true h = refl
  by-caller false false h = refl
  by-caller true false h = absurd (cc)
  by-caller false true h = absurd (cc)

  by-fate : (b : Bool) → flat_map of-frame (frame_if b name) ≡ map notice_what (notice_if (b && (k == (caller_of m).node - 1)) (notice_for m x.index))
  by-fate false = refl
  by-fate true =
      ap (λ (o : Option Message). notice_of (k + 1) name o ++ []) found
      ∙ by-caller ((caller_of m).node == k + 1) (k == (caller_of m).node - 1) (same-test k (caller_of m).node caller)

  pub notices-came : map notice_what (frame_notices (fate_of plan m.from m.to x.index) x.index m k) ≡ notices_by plan v (k + 1) e w.done
  notices-came = sym (ap (flat_map of-frame) gone-is ∙ by-fate (is_gone (fate_of plan m.from m.to x.index)))

  told-one : (k == (caller_of m).node - 1) ≡ true → IsNoticeOf v (k + 1) (notice_for m x.index)
  told-one here =
      ap (told_of (record { node = k + 1; number = m.proc })) found
      ∙ ap (λ (b : Bool). told_if (b && (m.proc == m.proc)) m) (same-test k (caller_of m).node caller ∙ here)
      ∙ ap (λ (b : Bool). told_if b m) (eq-eqb m.proc m.proc refl)

  pub told-came : All (IsNoticeOf v (k + 1)) (frame_notices (fate_of plan m.from m.to x.index) x.index m k)
  told-came = either (is_gone (fate_of plan m.from m.to x.index)) (k == (caller_of m).node - 1) refl
    where
      either : (b c : Bool) → (k == (caller_of m).node - 1) ≡ c → All (IsNoticeOf v (k + 1)) (notice_if (b && c) (notice_for m x.index))
      either true true is = All-cons (IsNoticeOf v (k + 1)) (notice_for m x.index) [] (told-one is) (All-nil (IsNoticeOf v (k + 1)))
      either true false is = All-nil (IsNoticeOf v (k + 1))
      either false c is = All-nil (IsNoticeOf v (k + 1))

-- no frame, no notice
pub none-came : (plan : List FateRow) (w v : World) (k : ℕ) (e : Happening) → e.effects.sent ≡ None → [] ≡ notices_by plan v k e w.done
none-came plan w v k e none = sym (ap (λ (o : Option Sent). flat_map (λ f. notice_of k f (numbered f.2 (v.frames f.0 f.1))) (gone_by plan e.place.node o w.done)) none)
