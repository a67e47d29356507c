-- A walk along a path, and an object that is read whole, ask for no store and for no lock to write.
use Rattle.std.proofs.Common.{◌≡◌, ◌+◌, ℕ, Bool, true, false, Option, Some, None, List, [], ◌∷◌, map, refl}
use Rattle.uid_names.specs.Names.{ObjectName}
use Rattle.uid_names.specs.declared.mode.Mode.TheVariants.{Read, Write}
use Rattle.dom_history.specs.declared.op.Op.{Op}
use Rattle.dom_history.specs.declared.op.Op.TheVariants as ops
use Rattle.dom_history.specs.declared.op.Reply.{Reply}
use Rattle.naming_tree.specs.Dialogues.{asked}
use Rattle.naming_tree.specs.Entering.{enter_op, close_op, unmap_if}
use Rattle.naming_tree.specs.Readings.{closing_op, op_at}
use Rattle.naming_tree.specs.Sessions.{closers_if}
use Rattle.naming_tree.specs.Walking.{asks_at, walking_asks}
use Rattle.naming_tree.specs.declared.session.Entering.{Entering}
use Rattle.naming_tree.specs.declared.session.Entering.TheVariants as entering
use Rattle.naming_tree.specs.declared.session.Held.{Held}
use Rattle.naming_tree.specs.declared.walking.Aim.{Aim}
use Rattle.naming_tree.specs.declared.walking.Aim.TheVariants.{Begin, Name, Link}
use Rattle.naming_tree.specs.declared.walking.Walking.{Walking}
use Rattle.mapped_streams.specs.Dialogues.{Dialogue}
use Rattle.mapped_streams.specs.Gathering.{gathered_with}
use Rattle.mapped_streams.specs.Pages.{page_load, pages_from}
use Rattle.mapped_streams.specs.States.{closing_left, opened_left, stage_left}
use Rattle.mapped_streams.specs.Streams.{loading, shutting}
use Rattle.mapped_streams.specs.Turns.{Turn, Goes, Comes, behind_close, behind_length, behind_lock, behind_map, behind_work, first_refusal, stage_turn, state_of, stood_after, turn, works_if}
use Rattle.mapped_streams.specs.Works.{is_done, mode_of}
use Rattle.mapped_streams.specs.declared.gathered.Gathered.{Gathered}
use Rattle.mapped_streams.specs.declared.mapped.Mapped.{Mapped}
use Rattle.mapped_streams.specs.declared.mapped.Opened.{Opened}
use Rattle.mapped_streams.specs.declared.step.StreamResult.{StreamResult}
use Rattle.mapped_streams.specs.declared.streaming.Stage.{Stage}
use Rattle.mapped_streams.specs.declared.streaming.Stage.TheVariants.{Lock, Length, Map, At, Close}
use Rattle.mapped_streams.specs.declared.streaming.Streaming.{Streaming}
use Rattle.mapped_streams.specs.declared.work.Work.{Work}
use Rattle.mapped_streams.specs.declared.work.Work.TheVariants as works
use Rattle.command_talks.specs.FileTalks.{asked_at, read_stream, stream_asks}
use Rattle.dom_history.specs.declared.op.Reply.TheVariants as replies

-- no store, and no lock to write
abbrev pub is_mild : Op → Bool
is_mild (ops.Store spot bytes) = false
is_mild (ops.Lock u Write) = false
is_mild op = true

abbrev pub AsksMild : Option Op → Type 0
AsksMild None = Unit {0}
AsksMild (Some op) = is_mild op ≡ true

unmaps_mild : (mapped : Bool) (u : ObjectName) → is_mild (unmap_if mapped u) ≡ true
unmaps_mild true u = refl
unmaps_mild false u = refl

closes_mild : (other : Option ObjectName) (mapped : Bool) (u : ObjectName) → is_mild (close_op other mapped u) ≡ true
closes_mild (Some other) mapped u = refl
closes_mild None mapped u = unmaps_mild mapped u

held_mild : (u : ObjectName) (held : Option Held) → is_mild (closing_op u held) ≡ true
held_mild u None = refl
held_mild u (Some h) = closes_mild h.other h.mapped h.uid

enters_mild : (u : ObjectName) (stage : Entering) → is_mild (enter_op u Read stage) ≡ true
enters_mild u entering.Lock = refl
enters_mild u entering.Length = refl
enters_mild u (entering.Map n) = refl
enters_mild u (entering.Load o page) = refl

op_mild : (u : ObjectName) (enter : Option Entering) (held : Option Held) → is_mild (op_at u enter held) ≡ true
op_mild u None held = held_mild u held
op_mild u (Some stage) held = enters_mild u stage

aim_mild : (aim : Aim) (w : Walking) → AsksMild (asks_at aim w)
aim_mild (Begin here) w = tt
aim_mild (Name within) w = op_mild w.reading.uid w.reading.enter w.reading.closing.held
aim_mild (Link dir) w = op_mild w.reading.uid w.reading.enter w.reading.closing.held

-- a walk asks so
pub walk_mild : (walk : Option Walking) → AsksMild (asked_at walking_asks walk)
walk_mild None = tt
walk_mild (Some w) = aim_mild w.aim w

-- a stream that reads
abbrev pub IsReadWork : Work → Type 0
IsReadWork (works.Read page gathered) = Unit {0}
IsReadWork work = ⊥

abbrev pub IsReads : Option Streaming → Type 0
IsReads None = Unit {0}
IsReads (Some s) = IsReadWork s.work

shuts_mild : (mapped : Bool) (u : ObjectName) (result : StreamResult) → AsksMild (asked (shutting (closers_if mapped u) result))
shuts_mild true u result = refl
shuts_mild false u result = refl

closing_mild : (mapped : Bool) (u : ObjectName) (refused : Option Reply) (result : StreamResult) → AsksMild (asked (closing_left (closers_if mapped u) refused result))
closing_mild mapped u None result = shuts_mild mapped u result
closing_mild true u (Some reply) result = refl
closing_mild false u (Some reply) result = refl

loads_mild : (held : List Op) (at : Mapped) (pages : List ℕ) (gathered : Gathered) (further : Gathered → Dialogue) → ((all : Gathered) → AsksMild (asked (further all))) → AsksMild (asked (loading held (map (page_load at) pages) gathered further))
loads_mild held at [] gathered further mild = mild gathered
loads_mild held at (page ∷ pages) gathered further mild = refl

work_mild : (u : ObjectName) (work : Work) (o : Opened) → IsReadWork work → AsksMild (asked (opened_left u work o))
work_mild u (works.Read page gathered) o is = loads_mild (closers_if o.fresh u) o.at (pages_from o.at page) gathered _ (λ all. shuts_mild o.fresh u _)
work_mild u (works.Append text side) o is = absurd is
work_mild u (works.Copy source page loaded) o is = absurd is

lock_mild : (u : ObjectName) (work : Work) → IsReadWork work → is_mild (ops.Lock u (mode_of work)) ≡ true
lock_mild u (works.Read page gathered) is = refl
lock_mild u (works.Append text side) is = absurd is
lock_mild u (works.Copy source page loaded) is = absurd is

stage_mild : (u : ObjectName) (work : Work) (refused : Option Reply) (stage : Stage) → IsReadWork work → AsksMild (asked (stage_left u work refused stage))
stage_mild u work refused Lock is = lock_mild u work is
stage_mild u work refused Length is = refl
stage_mild u work refused (Map n) is = refl
stage_mild u work refused (At o) is = work_mild u work o is
stage_mild u work refused (Close mapped) is = closing_mild mapped u refused _

-- one that reads asks so
pub read_mild : (m : Option Streaming) → IsReads m → AsksMild (stream_asks m)
read_mild None is = tt
read_mild (Some s) is = stage_mild s.uid s.work s.refused s.stage is

-- and reads on
abbrev TurnReads : Turn → Type 0
TurnReads (Goes s) = IsReadWork s.work
TurnReads (Comes result) = Unit {0}

works_so : (b : Bool) (u : ObjectName) (work : Work) (refused : Option Reply) (o : Opened) → IsReadWork work → IsReadWork (works_if b u work refused o).work
works_so true u work refused o is = is
works_so false u work refused o is = is

lock_so : (u : ObjectName) (work : Work) (refused : Option Reply) (reply : Reply) → IsReadWork work → TurnReads (behind_lock u work refused reply)
lock_so u work refused replies.Fine is = is
lock_so u work refused reply is = tt

length_so : (u : ObjectName) (work : Work) (refused : Option Reply) (reply : Reply) → IsReadWork work → IsReadWork (behind_length u work refused reply).work
length_so u work refused (replies.Size n) is = is
length_so u work refused reply is = is

map_so : (u : ObjectName) (work : Work) (refused : Option Reply) (n : ℕ) (reply : Reply) → IsReadWork work → IsReadWork (behind_map u work refused n reply).work
map_so u work refused n (replies.At address fresh) is = works_so (is_done (record { address = address; length = n }) work) u work refused _ is
map_so u work refused n reply is = is

read_on : (page : ℕ) (gathered : Gathered) (u : ObjectName) (refused : Option Reply) (o : Opened) (reply : Reply) → IsReadWork (behind_work u (works.Read page gathered) refused o reply).work
read_on page gathered u refused o (replies.Bytes more) =
    let next = works.Read (page + 1) (gathered_with gathered more) in
    works_so (is_done o.at next) u next refused o tt
read_on page gathered u refused o reply = tt

work_so : (u : ObjectName) (work : Work) (refused : Option Reply) (o : Opened) (reply : Reply) → IsReadWork work → IsReadWork (behind_work u work refused o reply).work
work_so u (works.Read page gathered) refused o reply is = read_on page gathered u refused o reply
work_so u (works.Append text side) refused o reply is = absurd is
work_so u (works.Copy source page loaded) refused o reply is = absurd is

close_so : (u : ObjectName) (work : Work) (mapped : Bool) (refused : Option Reply) → IsReadWork work → TurnReads (behind_close u work mapped refused)
close_so u work true refused is = is
close_so u work false refused is = tt

stage_so : (u : ObjectName) (work : Work) (refused : Option Reply) (stage : Stage) (reply : Reply) → IsReadWork work → TurnReads (stage_turn u work refused stage reply)
stage_so u work refused Lock reply is = lock_so u work refused reply is
stage_so u work refused Length reply is = length_so u work refused reply is
stage_so u work refused (Map n) reply is = map_so u work refused n reply is
stage_so u work refused (At o) reply is = work_so u work refused o reply is
stage_so u work refused (Close mapped) reply is = close_so u work mapped (first_refusal refused reply) is

state_reads : (t : Turn) → TurnReads t → IsReads (state_of t)
state_reads (Goes s) is = is
state_reads (Comes result) is = tt

pub reads_on : (m : Option Streaming) (last : Option Reply) → IsReads m → IsReads (stood_after m last)
reads_on None last is = tt
reads_on (Some s) None is = is
reads_on (Some s) (Some reply) is = state_reads (turn s reply) (stage_so s.uid s.work s.refused s.stage reply is)

-- one that is read for a check
pub check_reads : (u : ObjectName) → IsReads (read_stream u)
check_reads u = tt
