-- In every run an operation that was answered Kept has no act.
use Rattle.std.proofs.Common.{◌≡◌, List, [], ◌∷◌, Some, inl, inr, subst}
use Rattle.dom_history.specs.declared.op.Op.{Op}
use Rattle.dom_history.specs.declared.op.Op.TheVariants as ops
use Rattle.dom_history.specs.declared.op.Reply.TheVariants as replies
use Rattle.dom_history.specs.Histories.{SomeOf}
use Rattle.ring_messages.specs.Bodies.{Ask, Answer}
use Rattle.node_runs.specs.Setups.{Setup, IsSetup}
use Rattle.node_runs.specs.Notes.{Told, Note}
use Rattle.node_runs.specs.NodesKeep.{IsTimely}
use Rattle.node_runs.specs.Runs.{World, Noted, Choice, world_after}
use Rattle.node_runs.specs.RunHistories.{all_told}
use Rattle.node_runs.specs.CallsKeep.{EachOf}
use Rattle.run_laws.specs.Progress.{IsSettling}
use Rattle.run_laws.specs.LastActs.{HasToldNoAct}
use Rattle.run_laws.proofs.SingleActs.{told-no-act}
use Rattle.run_laws.specs.ToldAnswers.{TellsReply, IsReleaseFault, IsFaultOf, IsToldBy, IsTold}
use Rattle.run_laws.specs.KeptLocks.{IsKeptWithout, AreKeptWithout}
use Rattle.run_laws.proofs.ToldAnswers.{told-are}

-- no home's answer says so
not-told : (op : Op) (answer : Answer) → TellsReply op replies.Kept answer → ⊥
not-told (ops.New home kind room) (Answer.Made u) is = absurd (cc)
not-told (ops.New home kind room) Answer.NoSpace is = absurd (cc)
not-told (ops.New home kind room) answer is = is
not-told (ops.List home after) (Answer.Listed rows more) is = absurd (cc)
not-told (ops.List home after) answer is = is
not-told (ops.Lock u m) (Answer.Granted grant stamp kind room n) is = absurd (cc)
not-told (ops.Lock u m) (Answer.Conflict q held) is = absurd (cc)
not-told (ops.Lock u m) Answer.NoObject is = absurd (cc)
not-told (ops.Lock u m) answer is = is
not-told (ops.Unlock u) Answer.Done is = absurd (cc)
not-told (ops.Unlock u) answer is = is
not-told (ops.Delete u) Answer.Done is = absurd (cc)
not-told (ops.Delete u) answer is = is
not-told (ops.Load spot count) answer is = is
not-told (ops.Store spot bytes) answer is = is
not-told (ops.Length u) answer is = is
not-told (ops.Map u) answer is = is
not-told (ops.Unmap u) answer is = is

not-by : (t : Told) → t.reply ≡ replies.Kept → (note : Note) → IsToldBy t note → ⊥
not-by t kept Note.Nothing is = is
not-by t kept (Note.Began q op) is = is
not-by t kept (Note.Did q phase op reply) is = is
not-by t kept (Note.Ended u) is = is
not-by t kept (Note.Decided q k ask answer) is = not-told t.op answer (subst (λ r. TellsReply t.op r answer) kept is.2)

none-by : (t : Told) → t.reply ≡ replies.Kept → (notes : List Noted) → SomeOf (λ (j : Noted). IsToldBy t j.note) notes → ⊥
none-by t kept [] some = some
none-by t kept (j ∷ older) (inl is) = not-by t kept j.note is
none-by t kept (j ∷ older) (inr some) = none-by t kept older some

-- the call of such an operation settles nothing
release-part : (ask : Ask) → IsReleaseFault ask replies.Kept → IsSettling ask → ⊥
release-part (Ask.PageOut u k grant base bytes) is settles = settles
release-part (Ask.AttrOut u n grant base) is settles = settles
release-part (Ask.PageIn u k) is settles = settles
release-part (Ask.Lock u m) is settles = is
release-part (Ask.Unlock u) is settles = absurd (cc)
release-part (Ask.Remove u) is settles = absurd (cc)
release-part (Ask.Make kind room) is settles = is
release-part (Ask.ListLocks after) is settles = is

fault-part : (op : Op) (ask : Ask) → IsFaultOf op ask replies.Kept → IsSettling ask → ⊥
fault-part (ops.Unlock u) ask is settles = release-part ask is settles
fault-part (ops.Delete u) ask is settles = release-part ask is settles
fault-part (ops.New home kind room) ask is settles = absurd (cc)
fault-part (ops.List home after) ask is settles = absurd (cc)
fault-part (ops.Load spot count) ask is settles = absurd (cc)
fault-part (ops.Store spot bytes) ask is settles = absurd (cc)
fault-part (ops.Lock u m) ask is settles = absurd (cc)
fault-part (ops.Length u) ask is settles = is
fault-part (ops.Map u) ask is settles = is
fault-part (ops.Unmap u) ask is settles = is

kept-each : (s : Setup) (w : World) (ts : List Told) → EachOf (IsTold w) ts → EachOf (HasToldNoAct s w) ts → EachOf (IsKeptWithout s w) ts
kept-each s w [] told none = tt
kept-each s w (t ∷ ts) told none = (here, kept-each s w ts told.1 none.1)
  where
    here : IsKeptWithout s w t
    here kept = none.0 told.0.home told.0.ask told.0.call (elim told.0.by [
      | inl fault ↦ fault-part t.op told.0.ask (subst (IsFaultOf t.op told.0.ask) kept fault)
      | inr some ↦ (λ settles. none-by t kept w.trace some)
    ])

-- in every run
pub kept-without : (s : Setup) → IsSetup s → (cs : List Choice) (w : World) → world_after s cs ≡ Some w → IsTimely w → AreKeptWithout s w
kept-without s setup cs w e timely = kept-each s w (all_told w.trace) (told-are s setup cs w e timely).told (told-no-act s setup cs w e timely)
