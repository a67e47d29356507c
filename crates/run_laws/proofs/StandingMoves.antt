-- Where the items of a run's history stand, and which acts stand where an operation is open or was left open.
use Rattle.std.proofs.Common.{◌≡◌, ℕ, ◌<◌, List, Some, sym, ap, subst, ◌∙◌, arith}
use Rattle.std.proofs.lemmas.Option.{same_Some}
use Rattle.uid_names.specs.Names.{ProcName}
use Rattle.uid_names.specs.declared.ids.Place.{Place}
use Rattle.dom_history.specs.declared.op.Op.{Op}
use Rattle.dom_history.specs.declared.op.Op.TheVariants as ops
use Rattle.dom_history.specs.Histories.{Item, Pending, SomeOf, place_of}
use Rattle.dom_history.specs.Legal.{home_of}
use Rattle.history_moves.specs.HistoryMoves.{IsNoActOf, IsNoneAtHome}
use Rattle.ring_messages.specs.Bodies.{Ask, Answer}
use Rattle.fault_handler.specs.Invariant.{IsProc}
use Rattle.node_runs.specs.Setups.{Setup, IsSetup}
use Rattle.node_runs.specs.NodeStates.{Asked, Await, BegunOp, OpenOp, proc_of}
use Rattle.node_runs.specs.Dones.{asking}
use Rattle.node_runs.specs.Notes.{Told, Note}
use Rattle.node_runs.specs.NodesKeep.{IsTimely}
use Rattle.node_runs.specs.Runs.{World, Noted, Choice, world_after}
use Rattle.node_runs.specs.RunHistories.{settled_op, all_told, doing_of, items_from}
use Rattle.node_runs.specs.CallsKeep.{EachOf}
use Rattle.node_runs.specs.DecidedCalls.{IsDecided, IsOther}
use Rattle.node_runs.proofs.SettingUp.{setup-procs}
use Rattle.node_runs.proofs.EachOf.{EachOf-at}
use Rattle.run_laws.specs.DecidedReplies.{proc_at, IsDecisionOf}
use Rattle.run_laws.specs.Heard.{IsOpenSince, IsDoingSince}
use Rattle.run_laws.specs.LastCalls.{HasNumber}
use Rattle.run_laws.proofs.Walks.{other-not}
use Rattle.run_laws.proofs.HearingRuns.{heard-are}
use Rattle.run_laws.specs.AskedHomes.{IsAtHome}
use Rattle.run_laws.proofs.AskedHomes.{calls-at-homes}
use Rattle.run_laws.proofs.HistoryHomes.{meant-at}
use Rattle.run_laws.proofs.HomeRows.{IsMeantAt}
use Rattle.run_laws.specs.DecisionOrder.{IsDecidedBelow}
use Rattle.run_laws.proofs.ItemViews.{IsAmong, IsItemAt, did, faulted, answered, left_open, opened, each-item}
use Rattle.run_laws.proofs.Orders.{IsDecidedAfter}

settled-at : (home : ℕ) (ask : Ask) (op : Op) → IsAtHome home ask → settled_op home ask ≡ Some op → home_of op ≡ Some home
settled-at home (Ask.PageIn u k) op at e = absurd (cc)
settled-at home (Ask.PageOut u k grant base bytes) op at e = absurd (cc)
settled-at home (Ask.AttrOut u n grant base) op at e = absurd (cc)
settled-at home (Ask.Lock u m) op at e = ap home_of (sym (same_Some (ops.Lock u m) op e)) ∙ ap (λ h. Some h) (sym at)
settled-at home (Ask.Unlock u) op at e = ap home_of (sym (same_Some (ops.Unlock u) op e)) ∙ ap (λ h. Some h) (sym at)
settled-at home (Ask.Remove u) op at e = ap home_of (sym (same_Some (ops.Delete u) op e)) ∙ ap (λ h. Some h) (sym at)
settled-at home (Ask.Make kind room) op at e = ap home_of (sym (same_Some (ops.New home kind room) op e))
settled-at home (Ask.ListLocks after) op at e = ap home_of (sym (same_Some (ops.List home after) op e))

module _ (s : Setup) (setup : IsSetup s) (cs : List Choice) (w : World) (e : world_after s cs ≡ Some w) (timely : IsTimely w) where
  abbrev so_far : List Told
  so_far = all_told w.trace

  abbrev AreDecidedAll : List Noted → Type 0
  AreDecidedAll notes = EachOf (λ (j : Noted). IsDecided w j.place j.note) notes

  -- items stand at the places of their notes
  pub items-at : (Q : Place → Type 0) (notes : List Noted) → AreDecidedAll notes → EachOf (λ (j : Noted). Q j.place) notes → EachOf (λ i. Q (place_of i)) (items_from w so_far notes)
  items-at Q notes decided each = each-item s setup cs w e timely (λ i. Q (place_of i)) notes decided by
    where
      by : (j : Noted) → SomeOf (λ i. i ≡ j) notes → (i : Item) → IsItemAt w j i → Q (place_of i)
      by j some _ (did p phase op reply note) = EachOf-at (λ (j : Noted). Q j.place) j notes each some
      by j some _ (faulted t op note place fault among) = EachOf-at (λ (j : Noted). Q j.place) j notes each some
      by j some _ (answered t op ask answer note of none among) = EachOf-at (λ (j : Noted). Q j.place) j notes each some
      by j some _ (left_open t op ask answer reply note of change fault among) = EachOf-at (λ (j : Noted). Q j.place) j notes each some
      by j some _ (opened p number op ask answer reply o note of change doing has) = EachOf-at (λ (j : Noted). Q j.place) j notes each some

  -- the home of an operation that a note settles is that note's node
  pub home-is : (j : Noted) (p : ProcName) (k : ℕ) (ask : Ask) (answer : Answer) (op : Op) → IsDecided w j.place j.note → j.note ≡ Note.Decided p k ask answer → settled_op j.place.node ask ≡ Some op → home_of op ≡ Some j.place.node
  home-is j p k ask answer op decided note of =
      settled-at j.place.node ask op (subst (IsMeantAt j.place.node) note (meant-at w (calls-at-homes s setup cs w e timely) j.place j.note decided)) of

  pub since-of : (n k : ℕ) → IsProc k → (b : BegunOp) (a : Await) → doing_of w (proc_at n k) ≡ Some (record { began = b; awaits = a }) → IsOpenSince (proc_at n k) so_far w.trace (w.nodes n).tick (proc_of (w.nodes n) k).last b a
  since-of n k proc b a doing = subst (IsDoingSince (proc_at n k) so_far w.trace (w.nodes n).tick (proc_of (w.nodes n) k).last) doing ((heard-are s setup (setup-procs s setup) cs w e timely).procs n k proc).doing

  -- an operation that awaits a call
  module _ (n k : ℕ) (proc : IsProc k) (b : BegunOp) (c : Asked) (doing : doing_of w (proc_at n k) ≡ asking b c) where
    abbrev me : ProcName
    me = proc_at n k

    abbrev mine : Pending
    mine = record { begun = b.begun; proc = me; op = b.op }

    since : IsOpenSince me so_far w.trace (w.nodes n).tick (proc_of (w.nodes n) k).last b (Await.Answer c)
    since = since-of n k proc b (Await.Answer c) doing

    pub told-below : (t : Told) → IsAmong t so_far → t.proc ≡ me → t.begun.tick < b.begun.tick
    told-below t among named = EachOf-at (λ (t : Told). t.proc ≡ me → t.begun.tick < b.begun.tick) t so_far since.behind among named

    pub told-less : (t : Told) → IsAmong t so_far → t.proc ≡ me → t.number < c.waiting.number
    told-less t among named = EachOf-at (λ (t : Told). t.proc ≡ me → t.number < c.waiting.number) t so_far since.call.1 among named

    same-open : (o : OpenOp) → doing_of w me ≡ Some o → (number : ℕ) → HasNumber number o.awaits → c.waiting.number ≡ number
    same-open o is number has = subst (λ (x : OpenOp). HasNumber number x.awaits) (sym (same_Some (record { began = b; awaits = Await.Answer c }) o (sym doing ∙ is))) has

    -- where its call is not decided it has no act
    pub no-act : (notes : List Noted) → AreDecidedAll notes → EachOf (λ (j : Noted). IsOther me c.waiting.number j.note) notes → EachOf (IsNoActOf mine) (items_from w so_far notes)
    no-act notes decided others = each-item s setup cs w e timely (IsNoActOf mine) notes decided by
      where
        by : (j : Noted) → SomeOf (λ i. i ≡ j) notes → (i : Item) → IsItemAt w j i → IsNoActOf mine i
        by j some _ (did p phase op reply note) = λ is. is
        by j some _ (faulted t op note place fault among) = λ is. is
        by j some _ (answered t op ask answer note of none among) = λ is. is
        by j some _ (left_open t op ask answer reply note of change fault among) = λ is.
            absurd (let less = told-below t among (sym is.1) in let f = ap (λ (x : Place). x.tick) is.0 in omega (arith, less, f))
        by j some _ (opened p number op ask answer reply o note of change open_now has) = λ is.
            other-not me c.waiting.number j.note (EachOf-at (λ (j : Noted). IsOther me c.waiting.number j.note) j notes others some)
            (subst (IsDecisionOf me c.waiting.number) (sym note) (sym is.1, sym (same-open o (subst (λ q. doing_of w q ≡ Some o) (sym is.1) open_now) number has)))

    -- behind the decision of its call its home did nothing for the process
    pub none-behind : (m : Noted) (ask : Ask) (answer : Answer) → IsDecided w m.place m.note → m.note ≡ Note.Decided me c.waiting.number ask answer → settled_op m.place.node ask ≡ Some b.op
        → (notes : List Noted) → AreDecidedAll notes → EachOf (λ (j : Noted). IsDecidedAfter m j.place j.note) notes → EachOf (IsNoneAtHome mine) (items_from w so_far notes)
    none-behind m ask answer decided_it note_it of_it notes decided after = each-item s setup cs w e timely (IsNoneAtHome mine) notes decided by
      where
        -- the number of an item's decision is above that of the call
        above : (j : Noted) → SomeOf (λ i. i ≡ j) notes → (p : ProcName) (number : ℕ) (ask : Ask) (answer : Answer) (op : Op) → j.note ≡ Note.Decided p number ask answer → settled_op j.place.node ask ≡ Some op → p ≡ me → home_of op ≡ home_of b.op → c.waiting.number < number
        above j some p number other_ask other_answer op note of named same =
            let home_it : home_of b.op ≡ Some m.place.node = home-is m me c.waiting.number ask answer b.op decided_it note_it of_it in
            let home_j : home_of op ≡ Some j.place.node = home-is j p number other_ask other_answer op (EachOf-at (λ (j : Noted). IsDecided w j.place j.note) j notes decided some) note of in
            let same_node : m.place.node ≡ j.place.node = same_Some m.place.node j.place.node (sym home_it ∙ (sym same ∙ home_j)) in
            let below : IsDecidedBelow p number m.note = (subst (IsDecidedAfter m j.place) note (EachOf-at (λ (j : Noted). IsDecidedAfter m j.place j.note) j notes after some)) same_node in
            (subst (IsDecidedBelow p number) note_it below) (sym named)

        by : (j : Noted) → SomeOf (λ i. i ≡ j) notes → (i : Item) → IsItemAt w j i → IsNoneAtHome mine i
        by j some _ (did p phase op reply note) = tt
        by j some _ (faulted t op note place fault among) = tt
        by j some _ (answered t op other_ask other_answer note of none among) = tt
        by j some _ (left_open t op other_ask other_answer reply note of change fault among) = λ named same.
            absurd (let less = told-less t among named in let more = above j some t.proc t.number other_ask other_answer op note of named same in omega (arith, less, more))
        by j some _ (opened p number op other_ask other_answer reply o note of change open_now has) = λ named same.
            absurd (let is = same-open o (subst (λ q. doing_of w q ≡ Some o) named open_now) number has in let more = above j some p number other_ask other_answer op note of named same in omega (arith, is, more))
