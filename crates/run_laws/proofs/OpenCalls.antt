-- In every node what an open call carries fits its desk, from its sending on.
use Rattle.std.proofs.Common.{◌≡◌, ◌≢◌, ℕ, Bool, true, false, List, [], ◌∷◌, Option, Some, None, inl, inr, refl, sym, ap, subst, ◌∙◌, arith}
use Rattle.std.specs.Prelude.{◌==◌, ◌&&◌, ◌||◌, if◌then◌else◌}
use Rattle.std.specs.List.{list_any}
use Rattle.std.proofs.lemmas.Bool.{cases_eq, eq-eqb}
use Rattle.uid_names.proofs.ListLemmas.{by_cases}
use Rattle.uid_names.specs.Names.{ObjectName}
use Rattle.dom_history.specs.declared.op.Op.{Op}
use Rattle.dom_history.specs.declared.op.Op.TheVariants as ops
use Rattle.dom_history.specs.declared.event.What.{What}
use Rattle.dom_history.specs.Objects.{is_node}
use Rattle.dom_history.specs.Locks.{is_free}
use Rattle.dom_history.specs.Replies.{may_delete}
use Rattle.page_cache.specs.Caches.{Resident, page_at}
use Rattle.ring_messages.specs.Bodies.{Ask}
use Rattle.fault_handler.specs.declared.entries.LockEntry.{LockEntry}
use Rattle.fault_handler.specs.declared.lengths.Known.{Known}
use Rattle.fault_handler.specs.declared.open_call.OpenCall.{OpenCall}
use Rattle.fault_handler.specs.Entries.{entry_of, state_in, grant_in, keeps, keeps_writing}
use Rattle.fault_handler.specs.Lengths.{known_of, length_of, is_changed, changed_in, changed_length}
use Rattle.fault_handler.specs.Transits.{going}
use Rattle.fault_handler.specs.Desks.{DeskState, procs, entry_at, state_of, open_call_of, moving_of, any_keeps, grant_among, writing_grant}
use Rattle.fault_handler.specs.Outcomes.{Turn, Moved}
use Rattle.fault_handler.specs.LockCalls.{LockCall, open_call}
use Rattle.fault_handler.specs.Invariant.{IsProc, is_dirty, FitsWay, FitsTransit, IsDesk}
use Rattle.fault_handler.specs.Ready.{IsReadyAt, IsReady}
use Rattle.fault_handler.proofs.Fours.{by_proc, any-at}
use Rattle.fault_handler.proofs.TransitKeeps.{keeps_writing-keeps, dirty-writes}
use Rattle.fault_handler.proofs.Accessing.{ready-idle}
use Rattle.lock_validate.specs.Releases.{release_call, release_ask}
use Rattle.lock_validate.specs.Causes.{Cause}
use Rattle.lock_validate.specs.Untouched.{IsUntouched}
use Rattle.lock_validate.specs.Turns.{Says}
use Rattle.lock_validate.specs.DeskMoves.{Change, DeskMoves}
use Rattle.lock_validate.proofs.Beside.{moves-beside}
use Rattle.lock_validate.proofs.DeskStays.{moves-desk}
use Rattle.node_runs.specs.Setups.{Setup, IsSetup, Given, IsGiven, given}
use Rattle.node_runs.specs.NodeStates.{Await, BegunOp, OpenOp, ProcState, NodeState, first_node, proc_of}
use Rattle.node_runs.specs.Incomings.{Incoming}
use Rattle.node_runs.specs.Outcomes.{Stage, Stepped}
use Rattle.node_runs.specs.Doings.{ticked}
use Rattle.node_runs.specs.Steps.{step_of}
use Rattle.node_runs.specs.Agreements.{IsCalling, Agrees}
use Rattle.node_runs.specs.SentFrames.{IsFrame, IsIncoming}
use Rattle.node_runs.specs.NodesKeep.{IsNodeOf, Reached, starts, steps, IsTimely}
use Rattle.node_runs.specs.Runs.{World, Choice, world_after}
use Rattle.node_runs.proofs.Nodes.{node-with}
use Rattle.node_runs.proofs.Receiving.{incoming-is}
use Rattle.node_runs.proofs.Reaching.{step_of-keeps, Reached-keeps}
use Rattle.node_runs.proofs.Calls.{put-same, put-other}
use Rattle.node_runs.proofs.SettingUp.{setup-gives, setup-procs}
use Rattle.run_laws.proofs.HearingRuns.{IsKeptNext, every-kept-run}
use Rattle.run_laws.specs.DeskSteps.{IsHomeAsk, IsHomeTurn, OpMove, apart, moves, doing_after, IsSameAwait, IsSameDoing, NodeMove, still, moved}
use Rattle.run_laws.specs.OpenCalls.{writes_under, is_writing_grant, HasSent, Carries, CarriesAwait, CarriesOpen, AreCarried}
use Rattle.run_laws.proofs.DeskSteps.{home-asks, step-desk}
use Rattle.run_laws.proofs.GoingPages.{going-uid, going-page, not-coming, IsBeside, kept, stored_to, change-beside, change-dirty}
use Rattle.run_laws.proofs.Staying.{writing-left, seen-stays, known-stays, grant-stays}

sent-beside : (bytes : List ℕ) (old new : Option Resident) → IsBeside old new → HasSent bytes old → HasSent bytes new
sent-beside bytes old new (kept same) is = subst (HasSent bytes) (sym same) is
sent-beside bytes old new (stored_to r offset stored was now) is = subst (HasSent bytes) (sym now) (record { dirty = refl; same = λ sent. absurd (cc) })

-- what one process does leaves what another's call carries
module _ (c : Cause) (turn : Turn) (p : ℕ) (proc : IsProc p) (q : ℕ) (other : IsProc q) (differs : q ≢ p) where
  carries-beside : (d e : DeskState) (dropped : List (ObjectName × ℕ)) → IsDesk d → Change c turn p d e dropped → IsUntouched d e q → (ask : Ask) → Carries d q ask → Carries e q ask
  carries-beside d e dropped desk change same (Ask.PageIn u k) is = same.moving ∙ is
  carries-beside d e dropped desk change same (Ask.PageOut u k grant base bytes) is =
      let way : FitsWay false d.cache.pages d.entries q u k = subst (FitsTransit d.cache.pages d.entries q) is.moves (desk.moved.each q other) in
      let seen = seen-stays u c turn p d way.1 e dropped change in
      let based = is.based in
      record {
        moves = same.moving ∙ is.moves;
        granted = grant-stays c turn p proc q other differs d desk u k grant is.moves e dropped change is.granted;
        based = omega (arith, seen, based);
        page = sent-beside bytes _ _ (change-beside c turn p proc q other differs d desk u k is.moves e dropped change) is.page;
      }
  carries-beside d e dropped desk change same (Ask.AttrOut u n grant base) is =
      let some : any_keeps d.entries u ≡ true = any-at (λ r. keeps (entry_at d.entries r u)) q other (keeps_writing-keeps (entry_at d.entries q u) (writing-left (entry_at d.entries q u) _ is.granted)) in
      let seen = seen-stays u c turn p d some e dropped change in
      let known = known-stays u c turn p d some e dropped change in
      let based = is.based in
      let length = is.length in
      record {
        still = same.moving ∙ is.still;
        granted = ap (λ (es : List LockEntry). keeps_writing (entry_of u es) && (grant_in (entry_of u es) == grant)) same.entries ∙ is.granted;
        based = omega (arith, seen, based);
        length = omega (arith, known, length);
      }
  carries-beside d e dropped desk change same (Ask.Lock u m) is = (same.moving ∙ is.0, ap (λ (es : List LockEntry). is_free (state_in (entry_of u es))) same.entries ∙ is.1)
  carries-beside d e dropped desk change same (Ask.Unlock u) is = (same.moving ∙ is.0, ap (λ (es : List LockEntry). is_free (state_in (entry_of u es))) same.entries ∙ is.1)
  carries-beside d e dropped desk change same (Ask.Remove u) is = (same.moving ∙ is.0, ap (λ (es : List LockEntry). may_delete (state_in (entry_of u es))) same.entries ∙ is.1)
  carries-beside d e dropped desk change same (Ask.Make kind room) is = same.moving ∙ is
  carries-beside d e dropped desk change same (Ask.ListLocks after) is = same.moving ∙ is

  one-change : (d e : DeskState) (dropped : List (ObjectName × ℕ)) → Change c turn p d e dropped → IsUntouched d e q
  one-change d e dropped change = moves-beside c turn p q proc other differs d e dropped (DeskMoves.dropping DeskMoves.none change)

  carries-moves : (d e : DeskState) (dropped : List (ObjectName × ℕ)) → IsDesk d → DeskMoves c turn p d e dropped → (ask : Ask) → Carries d q ask → Carries e q ask
  carries-moves d e dropped desk DeskMoves.none ask is = is
  carries-moves d e dropped desk (DeskMoves.next {e = f} before change) ask is =
      carries-beside f e [] (moves-desk c turn p proc d f dropped desk before) change (one-change f e [] change) ask (carries-moves d f dropped desk before ask is)
  carries-moves d e dropped desk (DeskMoves.dropping {e = f} before change) ask is =
      carries-beside f e dropped (moves-desk c turn p proc d f [] desk before) change (one-change f e dropped change) ask (carries-moves d f [] desk before ask is)

  await-moves : (d e : DeskState) (dropped : List (ObjectName × ℕ)) → IsDesk d → DeskMoves c turn p d e dropped → (o : Option OpenOp) → CarriesOpen d q o → CarriesOpen e q o
  await-moves d e dropped desk made None is = (moves-beside c turn p q proc other differs d e dropped made).moving ∙ is
  await-moves d e dropped desk made (Some o) is = by o.awaits is
    where
      by : (a : Await) → CarriesAwait d q a → CarriesAwait e q a
      by (Await.Answer k) carried = carries-moves d e dropped desk made k.ask carried
      by (Await.Page u k) carried = (moves-beside c turn p q proc other differs d e dropped made).moving ∙ carried

-- a page that a process sends home is dirty all along
moves-dirty : (c : Cause) (turn : Turn) (p : ℕ) (proc : IsProc p) (v : ObjectName) (j : ℕ) (d e : DeskState) (dropped : List (ObjectName × ℕ)) → IsDesk d → DeskMoves c turn p d e dropped
    → (moving_of d p ≡ going v j → is_dirty (page_at d.cache.pages v j) ≡ true) → moving_of e p ≡ going v j → is_dirty (page_at e.cache.pages v j) ≡ true
moves-dirty c turn p proc v j d e dropped desk DeskMoves.none was = was
moves-dirty c turn p proc v j d e dropped desk (DeskMoves.next {e = f} before change) was = change-dirty c turn p proc f (moves-desk c turn p proc d f dropped desk before) v j e [] change (moves-dirty c turn p proc v j d f dropped desk before was)
moves-dirty c turn p proc v j d e dropped desk (DeskMoves.dropping {e = f} before change) was = change-dirty c turn p proc f (moves-desk c turn p proc d f [] desk before) v j e dropped change (moves-dirty c turn p proc v j d f [] desk before was)

pub sent-is-dirty : (bytes : List ℕ) (o : Option Resident) → HasSent bytes o → is_dirty o ≡ true
sent-is-dirty bytes None is = absurd is
sent-is-dirty bytes (Some r) is = is.dirty

-- as its call tells
pub open-dirty : (d : DeskState) (p : ℕ) (v : ObjectName) (j : ℕ) (o : Option OpenOp) → CarriesOpen d p o → moving_of d p ≡ going v j → is_dirty (page_at d.cache.pages v j) ≡ true
open-dirty d p v j o is goes = by_open o is
  where
    none : {X : Type 0} → moving_of d p ≡ None → X
    none e = absurd (let f : None ≡ going v j = sym e ∙ goes in cc)

    by_ask : (ask : Ask) → Carries d p ask → is_dirty (page_at d.cache.pages v j) ≡ true
    by_ask (Ask.PageIn u k) is = not-coming u k v j (sym is ∙ goes)
    by_ask (Ask.PageOut u k grant base bytes) is =
        let same_u = going-uid u k v j (sym is.moves ∙ goes) in
        let same_k = going-page u k v j (sym is.moves ∙ goes) in
        subst (λ w. is_dirty (page_at d.cache.pages w j) ≡ true) same_u (subst (λ i. is_dirty (page_at d.cache.pages u i) ≡ true) same_k (sent-is-dirty bytes (page_at d.cache.pages u k) is.page))
    by_ask (Ask.AttrOut u n grant base) is = none is.still
    by_ask (Ask.Lock u m) is = none is.0
    by_ask (Ask.Unlock u) is = none is.0
    by_ask (Ask.Remove u) is = none is.0
    by_ask (Ask.Make kind room) is = none is
    by_ask (Ask.ListLocks after) is = none is

    by_await : (a : Await) → CarriesAwait d p a → is_dirty (page_at d.cache.pages v j) ≡ true
    by_await (Await.Answer k) is = by_ask k.ask is
    by_await (Await.Page u k) is = none is

    by_open : (o : Option OpenOp) → CarriesOpen d p o → is_dirty (page_at d.cache.pages v j) ≡ true
    by_open None is = none is
    by_open (Some o) is = by_await o.awaits is

-- the grant under which the node writes is one of its processes'
grant-among : (entries : List (List LockEntry)) (u : ObjectName) (qs : List ℕ) → list_any (λ q. keeps_writing (entry_at entries q u)) qs ≡ true → list_any (writes_under entries u (grant_among entries u qs)) qs ≡ true
grant-among entries u [] any = absurd (cc)
grant-among entries u (q ∷ qs) any = by_cases (keeps_writing (entry_at entries q u)) (list_any (writes_under entries u (grant_among entries u (q ∷ qs))) (q ∷ qs) ≡ true)
    (λ h.
    let here : grant_among entries u (q ∷ qs) ≡ grant_in (entry_at entries q u) = ap (λ b. if b then grant_in (entry_at entries q u) else grant_among entries u qs) h in
    let passes : writes_under entries u (grant_among entries u (q ∷ qs)) q ≡ true = ap (λ b. b && (grant_in (entry_at entries q u) == grant_among entries u (q ∷ qs))) h ∙ eq-eqb _ _ (sym here) in
    ap (λ b. b || list_any (writes_under entries u (grant_among entries u (q ∷ qs))) qs) passes)
    (λ h.
    let there : grant_among entries u (q ∷ qs) ≡ grant_among entries u qs = ap (λ b. if b then grant_in (entry_at entries q u) else grant_among entries u qs) h in
    let fails : writes_under entries u (grant_among entries u (q ∷ qs)) q ≡ false = ap (λ b. b && (grant_in (entry_at entries q u) == grant_among entries u (q ∷ qs))) h in
    ap (λ b. b || list_any (writes_under entries u (grant_among entries u (q ∷ qs))) qs) fails
    ∙ (ap (λ i. list_any (writes_under entries u i) qs) there ∙ grant-among entries u qs (ap (λ b. b || list_any (λ r. keeps_writing (entry_at entries r u)) qs) (sym h) ∙ any)))

own-grant : (entries : List (List LockEntry)) (u : ObjectName) (p : ℕ) → keeps_writing (entry_at entries p u) ≡ true → writes_under entries u (grant_in (entry_at entries p u)) p ≡ true
own-grant entries u p writes = ap (λ b. b && (grant_in (entry_at entries p u) == grant_in (entry_at entries p u))) writes ∙ eq-eqb _ _ refl

changed-is : (o : Option Known) (n : ℕ) → changed_length o ≡ Some n → length_of o ≡ n
changed-is o n = by (is_changed o)
  where
    by : (b : Bool) → changed_in b (length_of o) ≡ Some n → length_of o ≡ n
    by true e = cc
    by false e = absurd (cc)

abbrev CarriesTurn : DeskState → ℕ → Turn → Type 0
CarriesTurn d p (Turn.Ends reply) = Unit {0}
CarriesTurn d p (Turn.Asks home ask) = Carries d p ask
CarriesTurn d p (Turn.Waits u k) = Unit {0}

-- what a process asks is so when it is asked
module _ (d e : DeskState) (p : ℕ) (proc : IsProc p) (desk : IsDesk e) (ready : IsReady e p) (dirty : (v : ObjectName) (j : ℕ) → moving_of e p ≡ going v j → is_dirty (page_at e.cache.pages v j) ≡ true) where
  stands : (call : LockCall) (o : Option OpenCall) → open_call_of e p ≡ Some (open_call call) → IsReadyAt e p (Some (open_call call))
  stands call o opened = subst (IsReadyAt e p) opened ready

  page-granted : (u : ObjectName) (k : ℕ) → is_dirty (page_at e.cache.pages u k) ≡ true → is_writing_grant e.entries u (writing_grant e.entries u) ≡ true
  page-granted u k is = grant-among e.entries u procs (dirty-writes e p desk proc u k is)

  gives-up : (delete : Bool) (u : ObjectName) → open_call_of e p ≡ Some (open_call (release_call delete u)) → (delete ≡ true → may_delete (state_of e p u) ≡ true) → Carries e p (release_ask delete u)
  gives-up true u opened may = let s = stands (LockCall.Remove u) None opened in (s.0.still, may refl)
  gives-up false u opened may = let s = stands (LockCall.Unlock u) None opened in (s.still, s.there)

  said-carries : (c : Cause) (turn : Turn) → Says d p e c turn → CarriesTurn e p turn
  said-carries c turn (Says.asks_page cause task given fetches) = fetches.moves
  said-carries c turn (Says.sends_room cause task r given room) = record {
    moves = room.sends.moves;
    granted = page-granted r.uid r.page (ap is_dirty room.sends.there ∙ room.dirty);
    based = omega arith;
    page = subst (HasSent r.bytes) (sym room.sends.there) (record { dirty = room.dirty; same = λ sent. refl });
  }
  said-carries c turn (Says.sends_page cause delete u k r given opened sends) =
      let s = stands (LockCall.PageOut u k delete) None opened in
      record {
        moves = sends.moves;
        granted = any-at (writes_under e.entries u (grant_in (entry_at e.entries p u))) p proc (own-grant e.entries u p s.0.writes);
        based = omega arith;
        page = subst (HasSent r.bytes) (sym sends.there) (record { dirty = ap is_dirty (sym sends.there) ∙ dirty u k sends.moves; same = λ sent. refl });
      }
  said-carries c turn (Says.sends_length cause delete u n given opened changed) =
      let s = stands (LockCall.AttrOut u n delete) None opened in
      let f = changed-is (known_of u e.known) n changed in
      record { still = s.1; granted = own-grant e.entries u p s.0.writes; based = omega arith; length = omega (arith, f) }
  said-carries c turn (Says.asks_lock u m opened) = let s = stands (LockCall.Lock u m) None opened in (s.still, s.free)
  said-carries c turn (Says.gives_up cause delete u given opened may settled) = gives-up delete u opened may
  said-carries c turn says = tt

calling-ready : (d : DeskState) (p : ℕ) (op : Op) (ask : Ask) → IsCalling d p op ask → IsReady d p
calling-ready d p (ops.New home kind room) ask is = ready-idle d p is.0
calling-ready d p (ops.List home after) ask is = ready-idle d p is.0
calling-ready d p (ops.Lock u m) ask is = is.ready
calling-ready d p (ops.Unlock u) ask is = is.ready
calling-ready d p (ops.Delete u) ask is = is.ready
calling-ready d p (ops.Load spot count) ask is = is.ready
calling-ready d p (ops.Store spot bytes) ask is = is.ready
calling-ready d p (ops.Length u) ask is = is.ready
calling-ready d p (ops.Map u) ask is = is.ready
calling-ready d p (ops.Unmap u) ask is = is.ready

-- a new object or a list moves no page
home-carries : (e : DeskState) (p : ℕ) (op : Op) (home : ℕ) (ask : Ask) → IsHomeAsk op home ask → IsCalling e p op ask → Carries e p ask
home-carries e p (ops.New to kind room) home ask is calling = subst (Carries e p) (sym is.1) calling.0.no_page
home-carries e p (ops.List to after) home ask is calling = subst (Carries e p) (sym is.1) calling.0.no_page
home-carries e p (ops.Lock u m) home ask is calling = absurd is
home-carries e p (ops.Unlock u) home ask is calling = absurd is
home-carries e p (ops.Delete u) home ask is calling = absurd is
home-carries e p (ops.Load spot count) home ask is calling = absurd is
home-carries e p (ops.Store spot bytes) home ask is calling = absurd is
home-carries e p (ops.Length u) home ask is calling = absurd is
home-carries e p (ops.Map u) home ask is calling = absurd is
home-carries e p (ops.Unmap u) home ask is calling = absurd is

same-carries : (d : DeskState) (q : ℕ) (o r : Option OpenOp) → IsSameDoing o r → CarriesOpen d q o → CarriesOpen d q r
same-carries d q None None same is = is
same-carries d q None (Some r) same is = absurd same
same-carries d q (Some o) None same is = absurd same
same-carries d q (Some o) (Some r) same is = by o.awaits r.awaits same.1 is
  where
    by : (a b : Await) → IsSameAwait a b → CarriesAwait d q a → CarriesAwait d q b
    by (Await.Answer c) (Await.Answer k) same is = subst (Carries d q) (sym same.1) is
    by (Await.Answer c) (Await.Page u k) same is = absurd same
    by (Await.Page u k) (Await.Answer c) same is = absurd same
    by (Await.Page u k) (Await.Page v j) same is = is

module _ (g : Given) (n : NodeState) (incoming : Incoming) (s : Stepped) (is : IsNodeOf g n) (now : IsNodeOf g s.node) (carried : AreCarried n) where
  -- the process whose operation moved the desk
  own-carries : (p : ℕ) (proc : IsProc p) (o : BegunOp) (stage : Stage) (m : Moved) → OpMove g.opening incoming (proc_of n p).doing stage n.desk p o.op m → s.node.desk ≡ m.desk → (proc_of s.node p).doing ≡ doing_after o (proc_of n p) m.turn → CarriesOpen s.node.desk p (doing_after o (proc_of n p) m.turn)
  own-carries p proc o stage m made at doing = by m.turn refl (subst (Agrees s.node.desk p (proc_of s.node p).last) doing (now.agrees p proc))
    where
      by : (turn : Turn) → m.turn ≡ turn → Agrees s.node.desk p (proc_of s.node p).last (doing_after o (proc_of n p) turn) → CarriesOpen s.node.desk p (doing_after o (proc_of n p) turn)
      by (Turn.Ends reply) same agrees = agrees.no_page
      by (Turn.Waits u k) same agrees = agrees.1.idle.no_page
      by (Turn.Asks home ask) same agrees = elim made [
        | apart desk turn ↦ home-carries s.node.desk p o.op home ask (home-asks g.opening incoming p (proc_of n p).doing stage o.op home ask (subst (IsHomeTurn g.opening incoming p (proc_of n p).doing stage o.op) same turn)) agrees.1.0
        | moves c may of at_stage taken by_moves ↦ subst (λ d. Carries d p ask) (sym at)
            (subst (CarriesTurn m.desk p) same
            (said-carries n.desk m.desk p proc (subst IsDesk at now.desk) (subst (λ d. IsReady d p) at (calling-ready s.node.desk p o.op ask agrees.1.0))
            (λ v j. moves-dirty c m.turn p proc v j n.desk m.desk m.dropped is.desk by_moves.moves (open-dirty n.desk p v j (proc_of n p).doing (carried p proc)))
            c m.turn by_moves.says))
      ]

  -- another process
  other-carries : (p : ℕ) (proc : IsProc p) (o : BegunOp) (stage : Stage) (m : Moved) → OpMove g.opening incoming (proc_of n p).doing stage n.desk p o.op m → (q : ℕ) → IsProc q → q ≢ p → CarriesOpen m.desk q (proc_of n q).doing
  other-carries p proc o stage m (apart desk turn) q other differs = subst (λ d. CarriesOpen d q (proc_of n q).doing) (sym desk) (carried q other)
  other-carries p proc o stage m (moves c may of at_stage taken made) q other differs = await-moves c m.turn p proc q other differs n.desk m.desk m.dropped is.desk made.moves (proc_of n q).doing (carried q other)

  node-carries : NodeMove g n incoming s → AreCarried s.node
  node-carries (still desk same quiet uncalled) q other = subst (λ d. CarriesOpen d q (proc_of s.node q).doing) (sym desk) (same-carries n.desk q (proc_of n q).doing (proc_of s.node q).doing (same q other) (carried q other))
  node-carries (moved p o stage m proc continues made desk doing others note call side) q other = elim (cases_eq q p) [
    | inl there ↦ subst (λ r. CarriesOpen s.node.desk r (proc_of s.node r).doing) (sym there) (subst (CarriesOpen s.node.desk p) (sym doing) (own-carries p proc o stage m made desk doing))
    | inr beside ↦ subst (λ (x : ProcState). CarriesOpen s.node.desk q x.doing) (sym (others q other beside)) (subst (λ d. CarriesOpen d q (proc_of n q).doing) (sym desk) (other-carries p proc o stage m made q other beside))
  ]

-- each step keeps it
pub step-carries : (g : Given) (n : NodeState) (what : What) (incoming : Incoming) (dropped : List (ObjectName × ℕ)) (s : Stepped) → IsGiven g → IsNodeOf g n → IsIncoming incoming → AreCarried n → step_of g n what incoming dropped ≡ Some s → AreCarried s.node
step-carries g n what incoming dropped s given is frame carried e =
    let at : IsNodeOf g (ticked n incoming) = node-with g n (ticked n incoming) is refl refl is.side is.home is.within.side in
    node-carries g (ticked n incoming) incoming s at (step_of-keeps g n what incoming dropped s given is frame e).node carried (step-desk g n what incoming dropped s given is frame e)

pub first-carries : (g : Given) → AreCarried (first_node g)
first-carries g = by_proc (λ p. CarriesOpen (first_node g).desk p (proc_of (first_node g) p).doing) refl refl refl refl

-- so it holds wherever a node's events led
pub reached-carries : (g : Given) → IsGiven g → (n : NodeState) → Reached g n → AreCarried n
reached-carries g is n starts = first-carries g
reached-carries g is n (steps {n = m} s what incoming dropped before frame e) = step-carries g m what incoming dropped s is (Reached-keeps g is m before) frame (reached-carries g is m before) e

-- and in every run
abbrev AreAllCarried : Setup → World → Type 0
AreAllCarried s w = (n : ℕ) → is_node s.opening n ≡ true → AreCarried (w.nodes n)

all-later : (s : Setup) (setup : IsSetup s) (old : World) (c : Choice) (new : World) → IsKeptNext s old c new → AreAllCarried s old → AreAllCarried s new
all-later s setup old c new next carried = subst (AreAllCarried s) (sym next.is.world)
    (λ a node. elim (cases_eq a c.node) [
      | inl here ↦ subst AreCarried (sym (put-same old.nodes c.node a next.is.step.node here)) (step (subst (λ b. is_node s.opening b ≡ true) here node))
      | inr away ↦ subst AreCarried (sym (put-other old.nodes c.node a next.is.step.node away)) (carried a node)
    ])
  where
    step : is_node s.opening c.node ≡ true → AreCarried next.is.step.node
    step node =
        step-carries (given s c.node) (old.nodes c.node) c.what next.is.incoming c.dropped next.is.step (setup-gives s setup c.node node) (next.kept.nodes c.node node)
        (incoming-is IsIncoming tt (λ number tick. tt) (λ tick. tt) IsFrame (λ m is. is) old c.node (λ from. next.kept.frames from c.node) c.what next.is.incoming next.is.comes) (carried c.node node) next.is.steps

pub runs-carry : (s : Setup) → IsSetup s → (cs : List Choice) (w : World) → world_after s cs ≡ Some w → IsTimely w → (n : ℕ) → is_node s.opening n ≡ true → AreCarried (w.nodes n)
runs-carry s setup = every-kept-run s setup (setup-procs s setup) (AreAllCarried s) (λ n node. first-carries (given s n)) (λ cs old c new e timely next carried. all-later s setup old c new next carried)
