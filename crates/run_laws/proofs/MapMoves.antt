-- What an event of a node does to the mappings of a process: nothing, or one more, or one less, at its desk and in the store.
use Rattle.std.proofs.Common.{◌≡◌, ℕ, ◌*◌, Bool, true, false, List, [], ◌∷◌, ◌++◌, Option, Some, None, inl, inr, refl, sym, ap, subst, ◌∙◌}
use Rattle.std.specs.Prelude.{not, if◌then◌else◌, is_some, filter, ◌⊎◌}
use Rattle.std.proofs.lemmas.Bool.{cases_eq}
use Rattle.uid_names.specs.Names.{ProcName, ObjectName, same_uid, same_proc}
use Rattle.uid_names.specs.Segments.{segments}
use Rattle.uid_names.specs.declared.segment.TheConstants.{SEGMENT_SIZE}
use Rattle.dom_history.specs.declared.op.Op.{Op}
use Rattle.dom_history.specs.declared.op.Op.TheVariants as ops
use Rattle.dom_history.specs.declared.op.Reply.{Reply}
use Rattle.dom_history.specs.declared.op.Reply.TheVariants as replies
use Rattle.dom_history.specs.StoreEffects.{StoreEffect, Maps, Unmaps, store_effect}
use Rattle.dom_history.specs.Locks.{is_held}
use Rattle.dom_history.specs.Mappings.{mappings}
use Rattle.dom_history.specs.declared.event.What.{What}
use Rattle.call_once.specs.declared.served.Looked.{Looked}
use Rattle.call_once.specs.declared.served.Looked.TheVariants.{Fresh, Again, Old}
use Rattle.address_map.specs.declared.mapping.Mapping.{Mapping}
use Rattle.address_map.specs.Mappings.{mapping_of, without_mapping}
use Rattle.address_map.specs.Maps.{is_full, map_answer, mappings_after}
use Rattle.address_map.specs.Runs.{lowest_run}
use Rattle.ring_messages.specs.Bodies.{Ask, Answer}
use Rattle.fault_handler.specs.declared.open_call.OpenCall.{OpenCall}
use Rattle.fault_handler.specs.declared.open_call.OpenCall.TheVariants as calls
use Rattle.fault_handler.specs.declared.tasks.Task.{Task}
use Rattle.fault_handler.specs.Entries.{keeps}
use Rattle.fault_handler.specs.Lengths.{known_of, room_of}
use Rattle.fault_handler.specs.Desks.{DeskState, entry_at, maps_of, state_of, task_of, open_call_of}
use Rattle.fault_handler.specs.Outcomes.{Turn, Moved}
use Rattle.fault_handler.specs.Changes.{with_maps}
use Rattle.fault_handler.specs.Accesses.{DeskOp, map_by, unmap_by, map_reply}
use Rattle.fault_handler.specs.Invariant.{IsProc, IsDesk}
use Rattle.fault_handler.specs.Next.{IsCallOf}
use Rattle.fault_handler.proofs.Fours.{at-put_same}
use Rattle.lock_validate.specs.Causes.{Cause, MayCome, IsOf}
use Rattle.lock_validate.specs.Loading.{IsTaskIn}
use Rattle.lock_validate.specs.DeskMoves.{Change, DeskMoves}
use Rattle.lock_validate.specs.Releasing.{releasing_in}
use Rattle.lock_validate.specs.Turns.{Says, IsMade}
use Rattle.lock_validate.proofs.Beside.{moves-beside}
use Rattle.node_runs.specs.Setups.{Given}
use Rattle.node_runs.specs.NodeStates.{Asked, BegunOp, NodeState, proc_of, name_of}
use Rattle.node_runs.specs.Operations.{begun, gone_on, Said}
use Rattle.node_runs.specs.Incomings.{Incoming}
use Rattle.node_runs.specs.Notes.{Note}
use Rattle.node_runs.specs.Rooms.{MayMove}
use Rattle.node_runs.specs.Agreements.{Agrees, IsCalling}
use Rattle.node_runs.specs.Doings.{begun_at, stage_of, served_note}
use Rattle.node_runs.specs.Dones.{Did, asking, paused, finished, began, resumed, served, passed_over, heard, ignored, resent, gave_up, got_ready, marked}
use Rattle.node_runs.specs.Outcomes.{Stage, Stepped, turned}
use Rattle.node_runs.specs.SentFrames.{IsIncoming}
use Rattle.node_runs.specs.NodesKeep.{IsNodeOf}
use Rattle.node_runs.specs.RunHistories.{settled_op, change_reply}
use Rattle.run_laws.specs.Progress.{IsApart}
use Rattle.run_laws.specs.DecidedEffects.{effect_if}
use Rattle.run_laws.specs.DeskSteps.{IsOfHome, IsStageOf, OpMove, apart, moves, NodeMove, still, moved, turn_note}
use Rattle.run_laws.specs.NotedEffects.{note_effects}
use Rattle.run_laws.proofs.NotedDeeds.{other-number}
use Rattle.run_laws.proofs.TurnDeeds.{home-op}

-- what an event did to the mappings of a process, at its desk and in the store
pub data MapsThen (P : ProcName) (p : ℕ) (d e : DeskState) (effects : List StoreEffect) : Type 0 where
  as_before : maps_of e p ≡ maps_of d p → ((past : List StoreEffect) → mappings P (effects ++ past) ≡ mappings P past) → MapsThen P p d e effects
  one_more : (u : ObjectName) (first : ℕ) → maps_of e p ≡ maps_of d p ++ record { uid = u; first = first; segments = segments (room_of (known_of u d.known)) } ∷ [] → effects ≡ Maps P u (first * SEGMENT_SIZE) ∷ []
      → is_held (state_of d p u) ≡ true → keeps (entry_at d.entries p u) ≡ true → MapsThen P p d e effects
  one_less : (u : ObjectName) → maps_of e p ≡ without_mapping u (maps_of d p) → effects ≡ Unmaps P u ∷ [] → MapsThen P p d e effects

-- an operation that maps or unmaps
abbrev IsMapOp : Op → Type 0
IsMapOp (ops.Map u) = Unit {0}
IsMapOp (ops.Unmap u) = Unit {0}
IsMapOp op = ⊥

-- effects that leave the mappings of a process
abbrev LeavesMappings : ProcName → List StoreEffect → Type 0
LeavesMappings P effects = (past : List StoreEffect) → mappings P (effects ++ past) ≡ mappings P past

module _ (P q : ProcName) where
  quiet-effect : (op : Op) → (IsMapOp op → ⊥) → (r : Reply) → LeavesMappings P (store_effect q op r)
  quiet-effect (ops.New home kind room) none (replies.Made u) past = refl
  quiet-effect (ops.New home kind room) none r past = refl
  quiet-effect (ops.Lock u m) none replies.Fine past = refl
  quiet-effect (ops.Lock u m) none r past = refl
  quiet-effect (ops.Unlock u) none replies.Fine past = refl
  quiet-effect (ops.Unlock u) none r past = refl
  quiet-effect (ops.Delete u) none replies.Fine past = refl
  quiet-effect (ops.Delete u) none r past = refl
  quiet-effect (ops.Store spot bytes) none replies.Fine past = refl
  quiet-effect (ops.Store spot bytes) none r past = refl
  quiet-effect (ops.Map u) none r past = absurd (none tt)
  quiet-effect (ops.Unmap u) none r past = absurd (none tt)
  quiet-effect op none r past = refl

  -- what another process does
  other-effect : same_proc P q ≡ false → (op : Op) (r : Reply) → LeavesMappings P (store_effect q op r)
  other-effect other (ops.Map u) (replies.At address true) past = ap (λ b. if b then record { uid = u; address = address } ∷ mappings P past else mappings P past) other
  other-effect other (ops.Map u) (replies.At address false) past = refl
  other-effect other (ops.Map u) r past = refl
  other-effect other (ops.Unmap u) replies.Fine past = ap (λ b. if b then filter (λ m. not (same_uid u m.uid)) (mappings P past) else mappings P past) other
  other-effect other (ops.Unmap u) r past = refl
  other-effect other op r past = quiet-effect op (λ is. is) r past

  -- an operation's outcome
  turn-leaves : (node : ℕ) (stage : Stage) (phase : ℕ) (o : BegunOp) (turn : Turn) → ((r : Reply) → LeavesMappings P (store_effect q o.op r)) → LeavesMappings P (note_effects node (turn_note stage q phase o turn))
  turn-leaves node Stage.Starts phase o (Turn.Ends reply) quiet = quiet reply
  turn-leaves node Stage.Resumes phase o (Turn.Ends reply) quiet = quiet reply
  turn-leaves node (Stage.Settles number) phase o (Turn.Ends reply) quiet = λ past. refl
  turn-leaves node Stage.Starts phase o (Turn.Asks home ask) quiet = λ past. refl
  turn-leaves node Stage.Resumes phase o (Turn.Asks home ask) quiet = λ past. refl
  turn-leaves node (Stage.Settles number) phase o (Turn.Asks home ask) quiet = λ past. refl
  turn-leaves node Stage.Starts phase o (Turn.Waits u k) quiet = λ past. refl
  turn-leaves node Stage.Resumes phase o (Turn.Waits u k) quiet = λ past. refl
  turn-leaves node (Stage.Settles number) phase o (Turn.Waits u k) quiet = λ past. refl

  -- a decision of a home
  if-leaves : (op : Op) → (IsMapOp op → ⊥) → (o : Option Reply) → LeavesMappings P (effect_if q (Some op) o)
  if-leaves op none None past = refl
  if-leaves op none (Some r) past = quiet-effect op none r past

  decided-leaves : (home : ℕ) (ask : Ask) (answer : Answer) → LeavesMappings P (effect_if q (settled_op home ask) (change_reply answer))
  decided-leaves home (Ask.PageIn u k) answer past = refl
  decided-leaves home (Ask.PageOut u k grant base bytes) answer past = refl
  decided-leaves home (Ask.AttrOut u n grant base) answer past = refl
  decided-leaves home (Ask.Lock u m) answer past = if-leaves (ops.Lock u m) (λ is. is) (change_reply answer) past
  decided-leaves home (Ask.Unlock u) answer past = if-leaves (ops.Unlock u) (λ is. is) (change_reply answer) past
  decided-leaves home (Ask.Remove u) answer past = if-leaves (ops.Delete u) (λ is. is) (change_reply answer) past
  decided-leaves home (Ask.Make kind room) answer past = if-leaves (ops.New home kind room) (λ is. is) (change_reply answer) past
  decided-leaves home (Ask.ListLocks after) answer past = if-leaves (ops.List home after) (λ is. is) (change_reply answer) past

apart-leaves : (P : ProcName) (node : ℕ) (note : Note) → IsApart note → LeavesMappings P (note_effects node note)
apart-leaves P node Note.Nothing is past = refl
apart-leaves P node (Note.Decided q number ask answer) is past = decided-leaves P q node ask answer past
apart-leaves P node (Note.Began q op) is past = absurd is
apart-leaves P node (Note.Did q phase op reply) is past = absurd is
apart-leaves P node (Note.Ended t) is past = absurd is

-- a cause that maps or unmaps
abbrev IsMapCause : Cause → Type 0
IsMapCause (Cause.Accesses (DeskOp.Maps u)) = Unit {0}
IsMapCause (Cause.Accesses (DeskOp.Unmaps u)) = Unit {0}
IsMapCause c = ⊥

-- others leave the mappings
change-maps : (c : Cause) (turn : Turn) (p : ℕ) → (IsMapCause c → ⊥) → (d e : DeskState) (dropped : List (ObjectName × ℕ)) → Change c turn p d e dropped → maps_of e p ≡ maps_of d p
change-maps c turn p none d e dropped (Change.maps u given idle held) = absurd (none (subst IsMapCause (sym given) tt))
change-maps c turn p none d e dropped (Change.unmaps u given idle there) = absurd (none (subst IsMapCause (sym given) tt))
change-maps c turn p none d e dropped change = refl

moves-maps : (c : Cause) (turn : Turn) (p : ℕ) → (IsMapCause c → ⊥) → (d e : DeskState) (dropped : List (ObjectName × ℕ)) → DeskMoves c turn p d e dropped → maps_of e p ≡ maps_of d p
moves-maps c turn p none d e dropped DeskMoves.none = refl
moves-maps c turn p none d e dropped (DeskMoves.next {e = f} before change) = change-maps c turn p none f e [] change ∙ moves-maps c turn p none d f dropped before
moves-maps c turn p none d e dropped (DeskMoves.dropping {e = f} before change) = change-maps c turn p none f e dropped change ∙ moves-maps c turn p none d f [] before

-- an open call is of no operation that maps
call-no-map : (op : Op) (task : Option Task) (call : Option OpenCall) → IsCallOf op task call → IsMapOp op → ⊥
call-no-map (ops.Map u) task None of is = of
call-no-map (ops.Map u) task (Some calls.Access) of is = of
call-no-map (ops.Map u) task (Some (calls.Lock v m)) of is = absurd (cc)
call-no-map (ops.Map u) task (Some (calls.PageOut v k true)) of is = absurd (cc)
call-no-map (ops.Map u) task (Some (calls.PageOut v k false)) of is = absurd (cc)
call-no-map (ops.Map u) task (Some (calls.AttrOut v n true)) of is = absurd (cc)
call-no-map (ops.Map u) task (Some (calls.AttrOut v n false)) of is = absurd (cc)
call-no-map (ops.Map u) task (Some (calls.Unlock v)) of is = absurd (cc)
call-no-map (ops.Map u) task (Some (calls.Remove v)) of is = absurd (cc)
call-no-map (ops.Unmap u) task None of is = of
call-no-map (ops.Unmap u) task (Some calls.Access) of is = of
call-no-map (ops.Unmap u) task (Some (calls.Lock v m)) of is = absurd (cc)
call-no-map (ops.Unmap u) task (Some (calls.PageOut v k true)) of is = absurd (cc)
call-no-map (ops.Unmap u) task (Some (calls.PageOut v k false)) of is = absurd (cc)
call-no-map (ops.Unmap u) task (Some (calls.AttrOut v n true)) of is = absurd (cc)
call-no-map (ops.Unmap u) task (Some (calls.AttrOut v n false)) of is = absurd (cc)
call-no-map (ops.Unmap u) task (Some (calls.Unlock v)) of is = absurd (cc)
call-no-map (ops.Unmap u) task (Some (calls.Remove v)) of is = absurd (cc)
call-no-map op task call of is = absurd is

home-no-map : (op : Op) → IsOfHome op → IsMapOp op → ⊥
home-no-map (ops.New home kind room) home_op is = is
home-no-map (ops.List home after) home_op is = is
home-no-map op home_op is = absurd home_op

cause-no-map : (d : DeskState) (p : ℕ) (c : Cause) (op : Op) → (IsMapCause c → ⊥) → IsOf d p c op → IsMapOp op → ⊥
cause-no-map d p (Cause.Accesses (DeskOp.Loads spot count)) op none of is = subst IsMapOp of is
cause-no-map d p (Cause.Accesses (DeskOp.Stores spot bytes)) op none of is = subst IsMapOp of is
cause-no-map d p (Cause.Accesses (DeskOp.Measures u)) op none of is = subst IsMapOp of is
cause-no-map d p (Cause.Accesses (DeskOp.Maps u)) op none of is = none tt
cause-no-map d p (Cause.Accesses (DeskOp.Unmaps u)) op none of is = none tt
cause-no-map d p (Cause.Locks u m) op none of is = subst IsMapOp of is
cause-no-map d p (Cause.Releases true u) op none of is = subst IsMapOp of is
cause-no-map d p (Cause.Releases false u) op none of is = subst IsMapOp of is
cause-no-map d p (Cause.PageCame a) op none of is = call-no-map op (task_of d p) (open_call_of d p) of is
cause-no-map d p (Cause.AnswerCame a) op none of is = call-no-map op (task_of d p) (open_call_of d p) of is
cause-no-map d p (Cause.AccessFailed t) op none of is = call-no-map op (task_of d p) (open_call_of d p) of is
cause-no-map d p (Cause.CallFailed call) op none of is = call-no-map op (task_of d p) (open_call_of d p) of is

-- a mapping is answered at once
abbrev IsEnding : Turn → Type 0
IsEnding (Turn.Ends reply) = Unit {0}
IsEnding turn = ⊥

abbrev EndsMap : Cause → Turn → Type 0
EndsMap (Cause.Accesses (DeskOp.Maps u)) turn = IsEnding turn
EndsMap (Cause.Accesses (DeskOp.Unmaps u)) turn = IsEnding turn
EndsMap c turn = Unit {0}

ends-map : (c : Cause) (reply : Reply) → EndsMap c (Turn.Ends reply)
ends-map (Cause.Accesses (DeskOp.Maps u)) reply = tt
ends-map (Cause.Accesses (DeskOp.Unmaps u)) reply = tt
ends-map c reply = tt

task-ends-map : (d : DeskState) (p : ℕ) (c : Cause) (turn : Turn) (task : Task) → IsTaskIn d p c task → EndsMap c turn
task-ends-map d p (Cause.Accesses (DeskOp.Maps u)) turn task is = absurd is
task-ends-map d p (Cause.Accesses (DeskOp.Unmaps u)) turn task is = absurd is
task-ends-map d p c turn task is = tt

release-ends-map : (c : Cause) (turn : Turn) (delete : Bool) (u : ObjectName) → releasing_in c ≡ Some (delete, u) → EndsMap c turn
release-ends-map (Cause.Accesses (DeskOp.Maps v)) turn delete u is = absurd (cc)
release-ends-map (Cause.Accesses (DeskOp.Unmaps v)) turn delete u is = absurd (cc)
release-ends-map c turn delete u is = tt

said-ends-map : (d e : DeskState) (p : ℕ) (c : Cause) (turn : Turn) → Says d p e c turn → EndsMap c turn
said-ends-map d e p c turn (Says.refuses cause reply refused same) = ends-map c reply
said-ends-map d e p c turn (Says.loads cause task count r given work there) = ends-map c _
said-ends-map d e p c turn (Says.stores cause task bytes r given work there within) = ends-map c _
said-ends-map d e p c turn (Says.measures u held) = tt
said-ends-map d e p c turn (Says.maps u held) = tt
said-ends-map d e p c turn (Says.unmaps u mapped) = tt
said-ends-map d e p c turn (Says.answers a reply says leaves) = tt
said-ends-map d e p c turn (Says.access_fails t) = tt
said-ends-map d e p c turn (Says.call_fails call leaves) = tt
said-ends-map d e p c turn (Says.waits cause task given absent fetched) = task-ends-map d p c _ task given
said-ends-map d e p c turn (Says.waits_to_release cause delete u k releasing found) = release-ends-map c _ delete u releasing.given
said-ends-map d e p c turn (Says.asks_page cause task given fetches) = task-ends-map d p c _ task given
said-ends-map d e p c turn (Says.sends_room cause task r given room) = task-ends-map d p c _ task given
said-ends-map d e p c turn (Says.sends_page cause delete u k r given opened sends) = release-ends-map c _ delete u given
said-ends-map d e p c turn (Says.sends_length cause delete u n given opened changed) = release-ends-map c _ delete u given
said-ends-map d e p c turn (Says.asks_lock u m opened) = tt
said-ends-map d e p c turn (Says.gives_up cause delete u given opened may settled) = release-ends-map c _ delete u given

-- an operation that ended as it began
record IsBegunSo (g : Given) (n : NodeState) (s : Stepped) (name : ProcName) (op : Op) (reply : Reply) : Type 0 where
  pub proc : ℕ
  pub named : name ≡ name_of g proc
  pub to : Moved
  pub way : MayMove proc (begun g.opening n.desk proc op) to
  pub desk : s.node.desk ≡ to.desk
  pub turn : to.turn ≡ Turn.Ends reply

module _ (g : Given) (n : NodeState) (node : IsNodeOf g n) (name : ProcName) (phase : ℕ) (op : Op) (reply : Reply) (is_map : IsMapOp op) where
  abbrev IsIt : Note → Type 0
  IsIt note = note ≡ Note.Did name phase op reply

  abbrev left : Moved → NodeState
  left to = record n { desk = to.desk }

  began-so : (p : ℕ) (o : Op) (to : Moved) → MayMove p (begun g.opening n.desk p o) to → (turn : Turn) → to.turn ≡ turn → IsIt (turned g (left to) p (begun_at g n o) Stage.Starts turn).note
      → (s : Stepped) → s.node.desk ≡ (turned g (left to) p (begun_at g n o) Stage.Starts turn).node.desk → IsBegunSo g n s name op reply
  began-so p o to way (Turn.Ends r) turn e s desk =
      let same_op : o ≡ op = cc in
      let same_name : name_of g p ≡ name = cc in
      let same_reply : r ≡ reply = cc in
      record { proc = p; named = sym same_name; to = to; way = subst (λ x. MayMove p (begun g.opening n.desk p x) to) same_op way; desk = desk; turn = turn ∙ ap Turn.Ends same_reply }
  began-so p o to way (Turn.Asks home ask) turn e s desk = absurd (cc)
  began-so p o to way (Turn.Waits u k) turn e s desk = absurd (cc)

  none-settles : (number p : ℕ) (x : NodeState) (o : BegunOp) (turn : Turn) → IsIt (turned g x p o (Stage.Settles number) turn).note → ⊥
  none-settles number p x o (Turn.Ends r) e = absurd (cc)
  none-settles number p x o (Turn.Asks home ask) e = absurd (cc)
  none-settles number p x o (Turn.Waits u k) e = absurd (cc)

  resumes-op : (p : ℕ) (x : NodeState) (o : BegunOp) (turn : Turn) → IsIt (turned g x p o Stage.Resumes turn).note → IsMapOp o.op
  resumes-op p x o (Turn.Ends r) e = let same : op ≡ o.op = cc in subst IsMapOp same is_map
  resumes-op p x o (Turn.Asks home ask) e = absurd (cc)
  resumes-op p x o (Turn.Waits u k) e = absurd (cc)

  none-served : (how : Looked) (q : ProcName) (number : ℕ) (ask : Ask) (answer : Answer) → IsIt (served_note how q number ask answer) → ⊥
  none-served Fresh q number ask answer e = absurd (cc)
  none-served Again q number ask answer e = absurd (cc)
  none-served Old q number ask answer e = absurd (cc)

  -- one that maps never waits
  none-waits : (p : ℕ) (o : Op) (accessed : _) → IsMapOp o → gone_on n.desk p o ≡ Some accessed → ⊥
  none-waits p (ops.Map u) accessed is goes = absurd (cc)
  none-waits p (ops.Unmap u) accessed is goes = absurd (cc)
  none-waits p o accessed is goes = absurd is

  none-asks : (p : ℕ) (o : Op) (ask : Ask) → IsMapOp o → IsCalling n.desk p o ask → ⊥
  none-asks p (ops.Map u) ask is calling = call-no-map (ops.Map u) (task_of n.desk p) (open_call_of n.desk p) calling.opened tt
  none-asks p (ops.Unmap u) ask is calling = call-no-map (ops.Unmap u) (task_of n.desk p) (open_call_of n.desk p) calling.opened tt
  none-asks p o ask is calling = absurd is

  none-said : (p : ℕ) → IsProc p → (o : BegunOp) (c : Asked) (x : NodeState) (turn : Turn) (number : ℕ) (said : Said) → (proc_of n p).doing ≡ asking o c → IsIt (turned g x p o (stage_of number said) turn).note → ⊥
  none-said p proc o c x turn number (Said.Replies r) doing e = none-settles number p x o turn e
  none-said p proc o c x turn number (Said.ToLock a) doing e = none-settles number p x o turn e
  none-said p proc o c x turn number (Said.ToAccess a) doing e =
      let agrees = subst (Agrees n.desk p (proc_of n p).last) doing (node.agrees p proc) in
      none-asks p o.op c.ask (resumes-op p x o turn e) agrees.1.0

  did-begun : (what : What) (incoming : Incoming) (s : Stepped) → IsIncoming incoming → Did g n what incoming s → IsIt s.note → IsBegunSo g n s name op reply
  did-begun what incoming s frame (paused p has none want) e = absurd (cc)
  did-begun what incoming s frame (finished p has none want) e = absurd (cc)
  did-begun what incoming s frame (began p o to has none want way) e = began-so p o to way to.turn refl e s refl
  did-begun what incoming s frame (resumed p o u k accessed to has doing come goes way) e = absurd (none-waits p o.op accessed (resumes-op p (left to) o to.turn e) goes)
  did-begun what incoming s frame (served from index m ask answer sender receiver asks answers) e = absurd (none-served _ _ m.number ask answer e)
  did-begun what incoming s frame (passed_over from index m ask sender receiver asks none) e = absurd (cc)
  did-begun what incoming s frame (heard from index m o c said to sender receiver asks doing same says way) e = absurd (none-said m.proc (frame.range.proc_low, frame.range.proc_high) o c (left to) to.turn m.number said doing e)
  did-begun what incoming s frame (ignored from index m sender receiver asks) e = absurd (cc)
  did-begun what incoming s frame (resent p from to index number tick o c has doing same answer) e = absurd (cc)
  did-begun what incoming s frame (gave_up p from to index number tick o c into has doing same answer fails) e = absurd (none-settles c.waiting.number p (left into) o into.turn e)
  did-begun what incoming s frame (got_ready phase may) e = absurd (cc)
  did-begun what incoming s frame (marked from phase tick may) e = absurd (cc)

-- what a mapping does
module _ (P : ProcName) (p : ℕ) (proc : IsProc p) (d : DeskState) (desk : IsDesk d) (u : ObjectName) where
  new-maps : (maps : List Mapping) → maps_of (with_maps d p maps) p ≡ maps
  new-maps maps = at-put_same d.maps p maps [] desk.four.maps proc

  same-reply : (a b : Reply) → Turn.Ends a ≡ Turn.Ends b → a ≡ b
  same-reply a b e = cc

  -- by what the desk finds
  mapped-then : (known : Option Mapping) (full : Bool) (run : Option ℕ) → is_held (state_of d p u) ≡ true → keeps (entry_at d.entries p u) ≡ true
      → MapsThen P p d (with_maps d p (mappings_after u (segments (room_of (known_of u d.known))) known full run (maps_of d p))) (store_effect P (ops.Map u) (map_reply (map_answer known full run)))
  mapped-then (Some m) full run held kept = as_before (new-maps (maps_of d p)) (λ past. refl)
  mapped-then None true run held kept = as_before (new-maps (maps_of d p)) (λ past. refl)
  mapped-then None false None held kept = as_before (new-maps (maps_of d p)) (λ past. refl)
  mapped-then None false (Some first) held kept = one_more u first (new-maps (maps_of d p ++ record { uid = u; first = first; segments = segments (room_of (known_of u d.known)) } ∷ [])) refl held kept

  map-then : (held : Bool) → is_held (state_of d p u) ≡ held → (is_held (state_of d p u) ≡ true → keeps (entry_at d.entries p u) ≡ true) → (to : Moved) → MayMove p (map_by d p u held) to → (reply : Reply) → to.turn ≡ Turn.Ends reply
      → MapsThen P p d to.desk (store_effect P (ops.Map u) reply)
  map-then false is keeping to way reply turn =
      let r : replies.NoLock ≡ reply = same-reply replies.NoLock reply (ap (λ (m : Moved). m.turn) (sym way) ∙ turn) in
      subst (λ (m : Moved). MapsThen P p d m.desk (store_effect P (ops.Map u) reply)) (sym way) (subst (λ x. MapsThen P p d d (store_effect P (ops.Map u) x)) r (as_before refl (λ past. refl)))
  map-then true is keeping to way reply turn =
      let answer = map_reply (map_answer (mapping_of u (maps_of d p)) (is_full (maps_of d p)) (lowest_run (segments (room_of (known_of u d.known))) (maps_of d p))) in
      let r : answer ≡ reply = same-reply answer reply (ap (λ (m : Moved). m.turn) (sym way) ∙ turn) in
      subst (λ (m : Moved). MapsThen P p d m.desk (store_effect P (ops.Map u) reply)) (sym way)
      (subst (λ x. MapsThen P p d (with_maps d p (mappings_after u (segments (room_of (known_of u d.known))) (mapping_of u (maps_of d p)) (is_full (maps_of d p)) (lowest_run (segments (room_of (known_of u d.known))) (maps_of d p)) (maps_of d p))) (store_effect P (ops.Map u) x)) r
      (mapped-then (mapping_of u (maps_of d p)) (is_full (maps_of d p)) (lowest_run (segments (room_of (known_of u d.known))) (maps_of d p)) is (keeping is)))

  unmap-then : (there : Bool) → (to : Moved) → MayMove p (unmap_by d p u there) to → (reply : Reply) → to.turn ≡ Turn.Ends reply → MapsThen P p d to.desk (store_effect P (ops.Unmap u) reply)
  unmap-then false to way reply turn =
      let r : replies.NotMapped ≡ reply = same-reply replies.NotMapped reply (ap (λ (m : Moved). m.turn) (sym way) ∙ turn) in
      subst (λ (m : Moved). MapsThen P p d m.desk (store_effect P (ops.Unmap u) reply)) (sym way) (subst (λ x. MapsThen P p d d (store_effect P (ops.Unmap u) x)) r (as_before refl (λ past. refl)))
  unmap-then true to way reply turn =
      let r : replies.Fine ≡ reply = same-reply replies.Fine reply (ap (λ (m : Moved). m.turn) (sym way) ∙ turn) in
      subst (λ (m : Moved). MapsThen P p d m.desk (store_effect P (ops.Unmap u) reply)) (sym way)
      (subst (λ x. MapsThen P p d (with_maps d p (without_mapping u (maps_of d p))) (store_effect P (ops.Unmap u) x)) r (one_less u (new-maps (without_mapping u (maps_of d p))) refl))

module _ (g : Given) (n : NodeState) (incoming : Incoming) (s : Stepped) (node : IsNodeOf g n) (what : What) (frame : IsIncoming incoming) (did : Did g n what incoming s) where
  module _ (p : ℕ) (proc : IsProc p) (phase : ℕ) (op : Op) (is_map : IsMapOp op) where
    -- an operation that maps ended as it began
    exact : (reply : Reply) → s.note ≡ Note.Did (name_of g p) phase op reply → ((to : Moved) → MayMove p (begun g.opening n.desk p op) to → to.turn ≡ Turn.Ends reply → MapsThen (name_of g p) p n.desk to.desk (store_effect (name_of g p) op reply))
        → MapsThen (name_of g p) p n.desk s.node.desk (note_effects g.number s.note)
    exact reply note ends =
        let is = did-begun g n node (name_of g p) phase op reply is_map what incoming s frame did note in
        let same_proc : is.proc ≡ p = ap (λ (x : ProcName). x.number) (sym is.named) in
        subst (λ k. MapsThen (name_of g p) p n.desk s.node.desk (note_effects g.number k)) (sym note)
        (subst (λ d. MapsThen (name_of g p) p n.desk d (store_effect (name_of g p) op reply)) (sym is.desk) (ends is.to (subst (λ q. MayMove q (begun g.opening n.desk q op) is.to) same_proc is.way) is.turn))

    -- it ends at once
    at-once : (stage : Stage) (o : BegunOp) (turn : Turn) → o.op ≡ op → IsEnding turn → (stage ≡ Stage.Starts) ⊎ (stage ≡ Stage.Resumes) → (reply : Reply) × (turn_note stage (name_of g p) phase o turn ≡ Note.Did (name_of g p) phase op reply)
    at-once stage o (Turn.Ends reply) is ends (inl starts) = (reply, ap (λ x. turn_note x (name_of g p) phase o (Turn.Ends reply)) starts ∙ ap (λ x. Note.Did (name_of g p) phase x reply) is)
    at-once stage o (Turn.Ends reply) is ends (inr resumes) = (reply, ap (λ x. turn_note x (name_of g p) phase o (Turn.Ends reply)) resumes ∙ ap (λ x. Note.Did (name_of g p) phase x reply) is)
    at-once stage o (Turn.Asks home ask) is ends at = absurd ends
    at-once stage o (Turn.Waits u k) is ends at = absurd ends

  access-stage : (stage : Stage) (access : DeskOp) → IsStageOf stage (Cause.Accesses access) → (stage ≡ Stage.Starts) ⊎ (stage ≡ Stage.Resumes)
  access-stage Stage.Starts access is = inl refl
  access-stage Stage.Resumes access is = inr refl
  access-stage (Stage.Settles number) access is = absurd is

  -- the process whose operation moved the desk
  module _ (p : ℕ) (proc : IsProc p) (o : BegunOp) (stage : Stage) (m : Moved) (desk : s.node.desk ≡ m.desk) (note : s.note ≡ turn_note stage (name_of g p) (proc_of n p).phase o m.turn) where
    abbrev Result : Type 0
    Result = MapsThen (name_of g p) p n.desk s.node.desk (note_effects g.number s.note)

    unmoved : (IsMapOp o.op → ⊥) → maps_of m.desk p ≡ maps_of n.desk p → Result
    unmoved none maps = as_before (ap (λ (d : DeskState). maps_of d p) desk ∙ maps)
        (subst (λ k. LeavesMappings (name_of g p) (note_effects g.number k)) (sym note) (turn-leaves (name_of g p) (name_of g p) g.number stage (proc_of n p).phase o m.turn (quiet-effect (name_of g p) (name_of g p) o.op none)))

    by-cause : (c : Cause) → MayCome n.desk p c → IsOf n.desk p c o.op → IsStageOf stage c → IsMade c p n.desk m → ((IsMapCause c → ⊥) → Result) → Result
    by-cause (Cause.Accesses (DeskOp.Maps u)) may of at made other =
        let ends = at-once p proc (proc_of n p).phase (ops.Map u) tt stage o m.turn of (said-ends-map n.desk m.desk p (Cause.Accesses (DeskOp.Maps u)) m.turn made.says) (access-stage stage (DeskOp.Maps u) at) in
        exact p proc (proc_of n p).phase (ops.Map u) tt ends.0 (note ∙ ends.1)
        (λ to way turn. map-then (name_of g p) p proc n.desk node.desk u (is_held (state_of n.desk p u)) refl (may.0.keeping u) to way ends.0 turn)
    by-cause (Cause.Accesses (DeskOp.Unmaps u)) may of at made other =
        let ends = at-once p proc (proc_of n p).phase (ops.Unmap u) tt stage o m.turn of (said-ends-map n.desk m.desk p (Cause.Accesses (DeskOp.Unmaps u)) m.turn made.says) (access-stage stage (DeskOp.Unmaps u) at) in
        exact p proc (proc_of n p).phase (ops.Unmap u) tt ends.0 (note ∙ ends.1)
        (λ to way turn. unmap-then (name_of g p) p proc n.desk node.desk u (is_some (mapping_of u (maps_of n.desk p))) to way ends.0 turn)
    by-cause c may of at made other = other (λ is. is)

    moved-maps : OpMove g.opening incoming (proc_of n p).doing stage n.desk p o.op m → Result
    moved-maps (apart same_desk turn) = unmoved (home-no-map o.op (home-op g.opening incoming p (proc_of n p).doing stage o.op m.turn turn)) (ap (λ (d : DeskState). maps_of d p) same_desk)
    moved-maps (moves c may of at taken made) = by-cause c may of at made
        (λ none. unmoved (cause-no-map n.desk p c o.op none of) (moves-maps c m.turn p none n.desk m.desk m.dropped made.moves))

  -- each process of the node
  pub maps-then : NodeMove g n incoming s → (q : ℕ) → IsProc q → MapsThen (name_of g q) q n.desk s.node.desk (note_effects g.number s.note)
  maps-then (still desk doing quiet uncalled) q proc = as_before (ap (λ (d : DeskState). maps_of d q) desk) (apart-leaves (name_of g q) g.number s.note quiet)
  maps-then (moved p o stage m proc at made desk doing others note call side) q other = elim (cases_eq q p) [
    | inl is ↦ subst (λ r. MapsThen (name_of g r) r n.desk s.node.desk (note_effects g.number s.note)) (sym is) (moved-maps p proc o stage m desk note made)
    | inr beside ↦ as_before (ap (λ (d : DeskState). maps_of d q) desk ∙ (elim made [
      | apart same_desk turn ↦ ap (λ (d : DeskState). maps_of d q) same_desk
      | moves c may of at_stage taken is ↦ (moves-beside c m.turn p q proc other beside n.desk m.desk m.dropped is.moves).maps
    ]))
        (subst (λ k. LeavesMappings (name_of g q) (note_effects g.number k)) (sym note) (turn-leaves (name_of g q) (name_of g p) g.number stage (proc_of n p).phase o m.turn (other-effect (name_of g q) (name_of g p) (other-number g.number q p (λ e. beside (sym e))) o.op)))
  ]

-- a process of another node
pub away-leaves : (P : ProcName) (g : Given) (n : NodeState) (incoming : Incoming) (s : Stepped) → ((p : ℕ) → same_proc P (name_of g p) ≡ false) → NodeMove g n incoming s → LeavesMappings P (note_effects g.number s.note)
away-leaves P g n incoming s other (still desk doing quiet uncalled) = apart-leaves P g.number s.note quiet
away-leaves P g n incoming s other (moved p o stage m proc at made desk doing others note call side) =
    subst (λ k. LeavesMappings P (note_effects g.number k)) (sym note) (turn-leaves P (name_of g p) g.number stage (proc_of n p).phase o m.turn (other-effect P (name_of g p) (other p) o.op))
