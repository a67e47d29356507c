-- What a reply makes of a stream is what it leaves of its dialogue.
use Rattle.std.proofs.Common.{◌≡◌, ◌≤◌, ◌+◌, ◌<◌, ℕ, Bool, true, false, Option, Some, None, List, [], ◌∷◌, length, refl, sym, subst, arith}
use Rattle.std.specs.Prelude.{nat_le, IfSome, ◌==◌}
use Rattle.std.proofs.lemmas.Bool.Decides.{nat_tests}
use Rattle.std.proofs.lemmas.List.Sums.{count_by-le-length}
use Rattle.uid_names.specs.Names.{ObjectName}
use Rattle.uid_names.specs.Rooms.{IsLength}
use Rattle.uid_names.proofs.Passed.{equal}
use Rattle.dom_history.specs.declared.op.Reply.{Reply}
use Rattle.dom_history.specs.declared.op.Reply.TheVariants.{Fine, Size, Bytes, At as MappedAt}
use Rattle.dom_history.specs.Fitting.{Fits, is_length_reply, is_map_reply}
use Rattle.dom_history.proofs.Fitting.{size-fits, at-fits}
use Rattle.naming_tree.specs.Sessions.{closers_if}
use Rattle.naming_tree.specs.Entering.{pages}
use Rattle.mapped_streams.specs.declared.step.StreamResult.{StreamResult}
use Rattle.mapped_streams.specs.declared.mapped.Mapped.{Mapped}
use Rattle.mapped_streams.specs.declared.mapped.Opened.{Opened}
use Rattle.mapped_streams.specs.declared.gathered.Gathered.{Gathered}
use Rattle.mapped_streams.specs.declared.gathered.Gathered.TheVariants.{All, Lines}
use Rattle.mapped_streams.specs.declared.work.Side.{Side}
use Rattle.mapped_streams.specs.declared.work.Work.{Work}
use Rattle.mapped_streams.specs.declared.work.Work.TheVariants.{Read, Append, Copy}
use Rattle.mapped_streams.specs.declared.streaming.Stage.{Stage}
use Rattle.mapped_streams.specs.declared.streaming.Stage.TheVariants.{Lock, Length, Map, At, Close}
use Rattle.mapped_streams.specs.declared.streaming.Streaming.{Streaming}
use Rattle.mapped_streams.specs.Gathering.{lines, gathered_with, IsGathered}
use Rattle.mapped_streams.specs.Pages.{bytes_in, IsMapped}
use Rattle.mapped_streams.specs.Dialogues.{Dialogue, Ends, told, after, says, FitsHeard, FitsSaid}
use Rattle.mapped_streams.specs.Works.{work_after, work_op, is_done, IsText, IsWork}
use Rattle.mapped_streams.specs.States.{opened_left, stage_left, left, stage_op, IsStage, IsStreaming}
use Rattle.mapped_streams.specs.Turns.{Turn, Goes, Comes, state_of, stream_at, works_if, giving_up, behind_lock, behind_length, behind_map, behind_if, behind_work, first_refusal, behind_close, stage_turn, turn, stood_after}
use Rattle.mapped_streams.proofs.Works.{work_told, work_done, left_by}
use Rattle.mapped_streams.proofs.Stages.{fits_op}

-- what is left behind a turn
abbrev pub turn_left : Turn → Dialogue
turn_left (Goes s) = left s
turn_left (Comes result) = Ends result

abbrev pub IsTurn : Turn → Type 0
IsTurn (Goes s) = IsStreaming s
IsTurn (Comes result) = Unit {0}

-- a turn is as it should be
pub record Turns (t : Turn) (d : Dialogue) : Type 0 where
  pub leaves : turn_left t ≡ d
  pub keeps : IsTurn t

streams : (u : ObjectName) (work : Work) (refused : Option Reply) (stage : Stage) → IsWork work → IsStage work stage → IsStreaming (stream_at u work refused stage)
streams u work refused stage w h = record { work = w; stage = h }

-- a stream at an object that is open
works_so : (b : Bool) (u : ObjectName) (work : Work) (refused : Option Reply) (o : Opened) → IsWork work → IsMapped o.at → is_done o.at work ≡ b → Turns (Goes (works_if b u work refused o)) (opened_left u work o)
works_so true u work refused o w m e = record { leaves = sym (work_done (closers_if o.fresh u) o.at work w e); keeps = streams u work None (Close o.fresh) w tt }
works_so false u work refused o w m e = record { leaves = refl; keeps = streams u work refused (At o) w (m, e) }

gives_up : (u : ObjectName) (work : Work) (mapped : Bool) (reply : Reply) → IsWork work → IsStreaming (giving_up u work mapped reply)
gives_up u work mapped reply w = streams u work (Some reply) (Close mapped) w tt

lock_turns : (u : ObjectName) (work : Work) (refused : Option Reply) (reply : Reply) → IsWork work → Turns (behind_lock u work refused reply) (told (stage_left u work refused Lock) reply)
lock_turns u work refused Fine w = record { leaves = refl; keeps = streams u work refused Length w tt }
lock_turns u work refused reply w = record { leaves = refl; keeps = tt }

length_turns : (u : ObjectName) (work : Work) (refused : Option Reply) (reply : Reply) → IsWork work → is_length_reply reply ≡ true → Turns (Goes (behind_length u work refused reply)) (told (stage_left u work refused Length) reply)
length_turns u work refused (Size n) w fits = record { leaves = refl; keeps = streams u work refused (Map n) w (size-fits n fits) }
length_turns u work refused reply w fits = record { leaves = refl; keeps = gives_up u work false reply w }

map_turns : (u : ObjectName) (work : Work) (refused : Option Reply) (n : ℕ) (reply : Reply) → IsWork work → IsLength n → is_map_reply reply ≡ true → Turns (Goes (behind_map u work refused n reply)) (told (stage_left u work refused (Map n)) reply)
map_turns u work refused n (MappedAt address fresh) w long fits =
    let start = at-fits address fresh fits in
    works_so (is_done (record { address = address; length = n }) work) u work refused (record { at = record { address = address; length = n }; fresh = fresh }) w
    (record { long = long; at = start.0; below = start.1 }) refl
map_turns u work refused n reply w long fits = record { leaves = refl; keeps = gives_up u work false reply w }

-- no more lines than bytes
lines_few : (bytes : List ℕ) → lines bytes ≤ length bytes
lines_few bytes = count_by-le-length (λ b. b == 10) bytes

gathers : (page : ℕ) (gathered : Gathered) (bytes : List ℕ) → IsGathered page gathered → length bytes ≤ 1024 → IsGathered (page + 1) (gathered_with gathered bytes)
gathers page (All all) bytes h few = tt
gathers page (Lines n) bytes h few = omega (arith, h, few, lines_few bytes)

-- what each keeps behind a reply
abbrev IfWork : Option Work → Type 0
IfWork next = IfSome next IsWork

read_keeps : (at : Mapped) (page : ℕ) (gathered : Gathered) (reply : Reply) → IsGathered page gathered → Fits (work_op at (Read page gathered)) reply → IfWork (work_after (Read page gathered) reply)
read_keeps at page gathered (Bytes more) h fits = gathers page gathered more h (omega (arith, equal (length more) (bytes_in at page) fits))
read_keeps at page gathered reply h fits = tt

append_keeps : (text : List ℕ) (side : Option Side) (reply : Reply) → IsText text → IfWork (work_after (Append text side) reply)
append_keeps text side Fine h = h
append_keeps text side reply h = tt

load_keeps : (source at : Mapped) (page : ℕ) (reply : Reply) → IsMapped source → nat_le (pages source.length) page ≡ false → Fits (work_op at (Copy source page None)) reply → IfWork (work_after (Copy source page None) reply)
load_keeps source at page (Bytes bytes) m e fits = (m, record { there = before (pages source.length) e; whole = equal (length bytes) (bytes_in source page) fits }) where
  before : (n : ℕ) → nat_le n page ≡ false → page < n
  before n e = grind (arith, nat_tests, e)
load_keeps source at page reply m e fits = tt

store_keeps : (source : Mapped) (page : ℕ) (bytes : List ℕ) (reply : Reply) → IsMapped source → IfWork (work_after (Copy source page (Some bytes)) reply)
store_keeps source page bytes Fine m = (m, tt)
store_keeps source page bytes reply m = tt

work_keeps : (at : Mapped) (work : Work) (reply : Reply) → IsWork work → is_done at work ≡ false → Fits (work_op at work) reply → IfWork (work_after work reply)
work_keeps at (Read page gathered) reply w e fits = read_keeps at page gathered reply w fits
work_keeps at (Append text side) reply w e fits = append_keeps text side reply w
work_keeps at (Copy source page None) reply w e fits = load_keeps source at page reply w.0 e fits
work_keeps at (Copy source page (Some bytes)) reply w e fits = store_keeps source page bytes reply w.0

next_turns : (u : ObjectName) (work : Work) (refused : Option Reply) (o : Opened) (reply : Reply) (next : Option Work) → IsWork work → IsMapped o.at → IfWork next
    → Turns (Goes (behind_if u work refused o reply next)) (left_by (closers_if o.fresh u) o.at next reply)
next_turns u work refused o reply None w m h = record { leaves = refl; keeps = gives_up u work o.fresh reply w }
next_turns u work refused o reply (Some next) w m h = works_so (is_done o.at next) u next refused o h m refl

work_turns : (u : ObjectName) (work : Work) (refused : Option Reply) (o : Opened) (reply : Reply) → IsWork work → IsMapped o.at → is_done o.at work ≡ false → Fits (work_op o.at work) reply
    → Turns (Goes (behind_work u work refused o reply)) (told (stage_left u work refused (At o)) reply)
work_turns u work refused o reply w m e fits =
    subst (λ (d : Dialogue). Turns (Goes (behind_work u work refused o reply)) d) (sym (work_told (closers_if o.fresh u) o.at work reply w e))
    (next_turns u work refused o reply (work_after work reply) w m (work_keeps o.at work reply w e fits))

close_turns : (u : ObjectName) (work : Work) (mapped : Bool) (refused : Option Reply) (reply : Reply) → IsWork work → Turns (behind_close u work mapped (first_refusal refused reply)) (told (stage_left u work refused (Close mapped)) reply)
close_turns u work true None Fine w = record { leaves = refl; keeps = streams u work None (Close false) w tt }
close_turns u work true None reply w = record { leaves = refl; keeps = gives_up u work false reply w }
close_turns u work true (Some earlier) reply w = record { leaves = refl; keeps = gives_up u work false earlier w }
close_turns u work false None Fine w = record { leaves = refl; keeps = tt }
close_turns u work false None reply w = record { leaves = refl; keeps = tt }
close_turns u work false (Some earlier) reply w = record { leaves = refl; keeps = tt }

stage_turns : (u : ObjectName) (work : Work) (refused : Option Reply) (stage : Stage) (reply : Reply) → IsWork work → IsStage work stage → Fits (stage_op u work stage) reply → Turns (stage_turn u work refused stage reply) (told (stage_left u work refused stage) reply)
stage_turns u work refused Lock reply w h fits = lock_turns u work refused reply w
stage_turns u work refused Length reply w h fits = length_turns u work refused reply w fits
stage_turns u work refused (Map n) reply w h fits = map_turns u work refused n reply w h fits
stage_turns u work refused (At o) reply w h fits = work_turns u work refused o reply w h.0 h.1 fits
stage_turns u work refused (Close mapped) reply w h fits = close_turns u work mapped refused reply w

-- a reply that fits leads a stream on as its dialogue goes on
pub turns : (s : Streaming) (reply : Reply) → IsStreaming s → FitsSaid (says (left s)) reply → Turns (turn s reply) (told (left s) reply)
turns s reply h fits = stage_turns s.uid s.work s.refused s.stage reply h.work h.stage (fits_op s reply h fits)

-- where a machine of such a stream stands once it was told these replies, the newest first; its first call told nothing
abbrev pub stream_heard : Streaming → List Reply → Option Streaming
stream_heard s [] = stood_after (Some s) None
stream_heard s (reply ∷ heard) = stood_after (stream_heard s heard) (Some reply)

-- and what it said to the newest
abbrev pub IsOn : Option Streaming → Dialogue → Type 0
IsOn None d = (result : StreamResult) × (d ≡ Ends result)
IsOn (Some s) d = IsStreaming s × (left s ≡ d)

stands_turned : (t : Turn) (d : Dialogue) → Turns t d → IsOn (state_of t) d
stands_turned (Goes s) d h = (h.keeps, h.leaves)
stands_turned (Comes result) d h = (result, sym h.leaves)

pub on_next : (m : Option Streaming) (d : Dialogue) (reply : Reply) → IsOn m d → FitsSaid (says d) reply → IsOn (stood_after m (Some reply)) (told d reply)
on_next None d reply on fits = absurd (subst (λ (x : Dialogue). FitsSaid (says x) reply) on.1 fits)
on_next (Some s) d reply on fits =
    stands_turned (turn s reply) (told d reply)
    (subst (λ (x : Dialogue). Turns (turn s reply) (told x reply)) on.1 (turns s reply on.0 (subst (λ (x : Dialogue). FitsSaid (says x) reply) (sym on.1) fits)))

-- it stands where its dialogue does
pub stream_on : (s : Streaming) (heard : List Reply) → IsStreaming s → FitsHeard (left s) heard → IsOn (stream_heard s heard) (after (left s) heard)
stream_on s [] h fits = (h, refl)
stream_on s (reply ∷ heard) h fits = on_next (stream_heard s heard) (after (left s) heard) reply (stream_on s heard h fits.0) fits.1
