-- A reply to the open call of a process is taken.
use Rattle.std.proofs.Common.{◌≡◌, ℕ, Bool, true, false, List, [], Option, Some, None, refl, sym, ap, subst, ◌∙◌}
use Rattle.std.proofs.lemmas.Option.{same_Some}
use Rattle.uid_names.specs.Names.{ObjectName}
use Rattle.uid_names.specs.Steps.{◌>>=◌}
use Rattle.uid_names.specs.declared.ids.Place.{Place}
use Rattle.uid_names.specs.declared.lock_row.LockRow.{LockRow}
use Rattle.uid_names.proofs.Somes.{map-some}
use Rattle.dom_history.specs.declared.op.Op.{Op}
use Rattle.dom_history.specs.declared.op.Op.TheVariants as ops
use Rattle.dom_history.specs.declared.op.Reply.{Reply}
use Rattle.dom_history.specs.declared.op.Want.{Want}
use Rattle.dom_history.specs.declared.op.Want.TheVariants.{Do}
use Rattle.ring_messages.specs.declared.body.Body.{Body}
use Rattle.ring_messages.specs.declared.body.Body.TheVariants as bodies
use Rattle.ring_messages.specs.Bodies.{ask_of, answer_of, is_request}
use Rattle.fault_handler.specs.Desks.{DeskState}
use Rattle.fault_handler.specs.Outcomes.{Turn}
use Rattle.node_runs.specs.NodeStates.{BegunOp}
use Rattle.node_runs.specs.Notes.{Note}
use Rattle.node_runs.specs.Operations.{Said, said_to_new, said_to_list, said_of, answered}
use Rattle.node_runs.specs.Outcomes.{Stepped, Stage, quiet, dropping, turned, moved}
use Rattle.node_runs.specs.Doings.{Doing, passed, stage_of, hears_said}
use Rattle.node_runs.specs.Rooms.{moved_as_named}
use Rattle.node_runs.specs.Steps.{stepped_as_named}
use Rattle.node_runs.proofs.Forgetting.{alike-itself}
use Rattle.node_core.specs.declared.machine.Machine.{Machine}
use Rattle.node_core.specs.declared.turns.Done.{Done}
use Rattle.node_core.specs.Processes.{want_at, is_new, is_list}
use Rattle.node_core.specs.Machines.{given_of, state_of, IsAtEvent}
use Rattle.node_core.specs.Outcomes.{Led, Turns, Moves, Hears}
use Rattle.node_core.proofs.Seen.{seen-silent}
use Rattle.node_core.proofs.Untold.{led-untold}

-- nothing is sent or dropped, and no operation ends
abbrev pub nothing : List (ObjectName × ℕ) → Done
nothing dropped = record { frame = None; effects = record { dropped = dropped; sent = None; ended = None } }

-- a New, and what is said to it
new-says : (d : DeskState) (p : ℕ) (op : Op) (body : Body) → is_new (Do op) ≡ true → said_of d p op body ≡ (answer_of body >>= said_to_new)
new-says d p (ops.New home kind room) body is = refl
new-says d p (ops.List home after) body is = absurd (cc)
new-says d p (ops.Lock u m) body is = absurd (cc)
new-says d p (ops.Unlock u) body is = absurd (cc)
new-says d p (ops.Delete u) body is = absurd (cc)
new-says d p (ops.Load spot count) body is = absurd (cc)
new-says d p (ops.Store spot bytes) body is = absurd (cc)
new-says d p (ops.Length u) body is = absurd (cc)
new-says d p (ops.Map u) body is = absurd (cc)
new-says d p (ops.Unmap u) body is = absurd (cc)

pub new-said : (d : DeskState) (p : ℕ) (op : Op) (body : Body) (want : Want) → is_new want ≡ true → want ≡ Do op → said_of d p op body ≡ (answer_of body >>= said_to_new)
new-said d p op body want is wants = new-says d p op body (subst (λ w. is_new w ≡ true) wants is)

pub new-told : (body : Body) → ((u : ObjectName) → body ≡ bodies.Made u → ⊥) → (body ≡ bodies.NoSpace → ⊥) → (answer_of body >>= said_to_new) ≡ None
new-told (bodies.PageIn u page) made full = refl
new-told (bodies.PageOut u page grant base bytes) made full = refl
new-told (bodies.AttrOut u n grant base) made full = refl
new-told (bodies.Lock u m) made full = refl
new-told (bodies.Unlock u) made full = refl
new-told (bodies.Remove u) made full = refl
new-told (bodies.Make kind room) made full = refl
new-told (bodies.List after) made full = refl
new-told (bodies.Page stamp bytes) made full = refl
new-told (bodies.Stored stamp) made full = refl
new-told (bodies.Stale stamp) made full = refl
new-told bodies.NoGrant made full = refl
new-told bodies.NoObject made full = refl
new-told (bodies.Granted grant stamp kind room n) made full = refl
new-told (bodies.Conflict p m) made full = refl
new-told bodies.Done made full = refl
new-told (bodies.Made u) made full = absurd (made u refl)
new-told bodies.NoSpace made full = absurd (full refl)
new-told (bodies.Listed rows more) made full = refl

-- a List, and what is said to it
list-says : (d : DeskState) (p : ℕ) (op : Op) (body : Body) → is_list (Do op) ≡ true → said_of d p op body ≡ (answer_of body >>= said_to_list)
list-says d p (ops.New home kind room) body is = absurd (cc)
list-says d p (ops.List home after) body is = refl
list-says d p (ops.Lock u m) body is = absurd (cc)
list-says d p (ops.Unlock u) body is = absurd (cc)
list-says d p (ops.Delete u) body is = absurd (cc)
list-says d p (ops.Load spot count) body is = absurd (cc)
list-says d p (ops.Store spot bytes) body is = absurd (cc)
list-says d p (ops.Length u) body is = absurd (cc)
list-says d p (ops.Map u) body is = absurd (cc)
list-says d p (ops.Unmap u) body is = absurd (cc)

pub list-said : (d : DeskState) (p : ℕ) (op : Op) (body : Body) (want : Want) → is_list want ≡ true → want ≡ Do op → said_of d p op body ≡ (answer_of body >>= said_to_list)
list-said d p op body want is wants = list-says d p op body (subst (λ w. is_list w ≡ true) wants is)

pub list-told : (body : Body) → ((rows : List LockRow) (more : Bool) → body ≡ bodies.Listed rows more → ⊥) → (answer_of body >>= said_to_list) ≡ None
list-told (bodies.PageIn u page) listed = refl
list-told (bodies.PageOut u page grant base bytes) listed = refl
list-told (bodies.AttrOut u n grant base) listed = refl
list-told (bodies.Lock u m) listed = refl
list-told (bodies.Unlock u) listed = refl
list-told (bodies.Remove u) listed = refl
list-told (bodies.Make kind room) listed = refl
list-told (bodies.List after) listed = refl
list-told (bodies.Page stamp bytes) listed = refl
list-told (bodies.Stored stamp) listed = refl
list-told (bodies.Stale stamp) listed = refl
list-told bodies.NoGrant listed = refl
list-told bodies.NoObject listed = refl
list-told (bodies.Granted grant stamp kind room n) listed = refl
list-told (bodies.Conflict p m) listed = refl
list-told bodies.Done listed = refl
list-told (bodies.Made u) listed = refl
list-told bodies.NoSpace listed = refl
list-told (bodies.Listed rows more) listed = absurd (listed rows more refl)

module _ {P G : Type 0} (spent : P → Bool) (wants : P → Want) (becomes : P → Option Reply → P) (old : Machine P G) (p : ℕ) (body : Body) where
  -- an operation of which the desk knows nothing ends
  pub heard-replied : (new : Machine P G) (done : Done) (reply : Reply) (dropped : List (ObjectName × ℕ)) → ((begun : Place) → Turns spent wants becomes old new done p begun (Turn.Ends reply) dropped)
      → dropped ≡ [] → ((op : Op) → want_at old.procs p ≡ Do op → said_of old.desk p op body ≡ Some (Said.Replies reply)) → (begun : Place) → Hears spent wants becomes old new done p begun body
  heard-replied new done reply dropped turns none said begun g op m number wire want proc s is =
      let o = λ (begun : Place). let x : BegunOp = record { op = op; begun = begun } in x in
      let n = state_of old in
      let same = same_Some _ s (subst (λ x. stepped_as_named g n (hears_said n m (o begun) x) ≡ Some s) (said op want) is) in
      subst (Led spent wants becomes old new done) same
      (subst (λ q. Led spent wants becomes old new done (dropping [] (turned g n q (o begun) (Stage.Settles m.number) (Turn.Ends reply)))) (sym proc)
      (subst (λ ds. Led spent wants becomes old new done (dropping ds (turned g n p (o begun) (Stage.Settles m.number) (Turn.Ends reply)))) none
      (turns begun g op (Stage.Settles m.number) number wire want)))

  -- a reply that does not fit does nothing
  pub heard-nothing : (done : Done) (dropped : List (ObjectName × ℕ)) → IsAtEvent spent wants old → done ≡ nothing dropped → dropped ≡ []
      → ((op : Op) → want_at old.procs p ≡ Do op → said_of old.desk p op body ≡ None) → (begun : Place) → Hears spent wants becomes old old done p begun body
  heard-nothing done dropped within quietly none said begun g op m number wire want proc s is =
      let o = λ (begun : Place). let x : BegunOp = record { op = op; begun = begun } in x in
      let n = state_of old in
      let same = same_Some _ s (subst (λ x. stepped_as_named g n (hears_said n m (o begun) x) ≡ Some s) (said op want) is) in
      subst (Led spent wants becomes old old done) same
      (led-untold spent wants becomes old old done (quiet n Note.Nothing) within refl refl refl refl refl within.earlier (alike-itself n) (seen-silent old.procs)
      (ap (λ d. d.frame) quietly) (ap (λ d. d.effects) (quietly ∙ ap nothing none)))

  -- it says something, which comes to what the desk makes of it
  pub heard-moves : (new : Machine P G) (done : Done) (said : Said) (begun : Place) → Moves spent wants becomes old new done p begun (answered old.desk p said)
      → ((op : Op) → want_at old.procs p ≡ Do op → said_of old.desk p op body ≡ Some said) → Hears spent wants becomes old new done p begun body
  heard-moves new done said begun moves says g op m number wire want proc s is =
      let o = λ (begun : Place). let x : BegunOp = record { op = op; begun = begun } in x in
      let n = state_of old in
      let stage = stage_of m.number said in
      let comes : stepped_as_named g n (Doing.Moves p (o begun) stage (answered old.desk p said)) ≡ Some s =
      subst (λ q. stepped_as_named g n (Doing.Moves q (o begun) stage (answered old.desk q said)) ≡ Some s) proc
      (subst (λ x. stepped_as_named g n (hears_said n m (o begun) x) ≡ Some s) (says op want) is) in
      let found = map-some (moved g n p (o begun) stage) (moved_as_named p (answered old.desk p said)) s comes in
      subst (Led spent wants becomes old new done) (sym found.2) (moves g op stage number wire want found.0 found.1)

  -- where the event is that nothing of it is done
  pub passed-led : (done : Done) (dropped : List (ObjectName × ℕ)) → IsAtEvent spent wants old → done ≡ nothing dropped → dropped ≡ [] → (event : Doing) → event ≡ passed (state_of old)
      → (s : Stepped) → stepped_as_named (given_of old) (state_of old) event ≡ Some s → Led spent wants becomes old old done s
  passed-led done dropped within quietly none event same s is =
      let n = state_of old in
      subst (Led spent wants becomes old old done) (same_Some (quiet n Note.Nothing) s (subst (λ e. stepped_as_named (given_of old) n e ≡ Some s) same is))
      (led-untold spent wants becomes old old done (quiet n Note.Nothing) within refl refl refl refl refl within.earlier (alike-itself n) (seen-silent old.procs)
      (ap (λ d. d.frame) quietly) (ap (λ d. d.effects) (quietly ∙ ap nothing none)))

-- what is no request asks nothing
pub not-asked : (body : Body) → is_request body ≡ false → ask_of body ≡ None
not-asked (bodies.PageIn u page) is = absurd (cc)
not-asked (bodies.PageOut u page grant base bytes) is = absurd (cc)
not-asked (bodies.AttrOut u n grant base) is = absurd (cc)
not-asked (bodies.Lock u m) is = absurd (cc)
not-asked (bodies.Unlock u) is = absurd (cc)
not-asked (bodies.Remove u) is = absurd (cc)
not-asked (bodies.Make kind room) is = absurd (cc)
not-asked (bodies.List after) is = absurd (cc)
not-asked (bodies.Page stamp bytes) is = refl
not-asked (bodies.Stored stamp) is = refl
not-asked (bodies.Stale stamp) is = refl
not-asked bodies.NoGrant is = refl
not-asked bodies.NoObject is = refl
not-asked (bodies.Granted grant stamp kind room n) is = refl
not-asked (bodies.Conflict p m) is = refl
not-asked bodies.Done is = refl
not-asked (bodies.Made u) is = refl
not-asked bodies.NoSpace is = refl
not-asked (bodies.Listed rows more) is = refl
