-- The pass behind an event stands for the world behind it.
use Rattle.std.proofs.Common.{◌≡◌, ◌≢◌, ℕ, ◌+◌, ◌-◌, ◌<◌, ◌≤◌, Bool, true, false, Option, Some, None, IfSome, List, [], ◌∷◌, ◌++◌, length, inl, inr, refl, sym, ap, subst, ◌∙◌, arith}
use Rattle.std.specs.Prelude.{◌^◌, ◌==◌, ◌&&◌, ◌||◌, not, is_some, map, reverse, slice_get, slice_set, IsSome}
use Rattle.std.specs.Option.{option_map}
use Rattle.std.proofs.lemmas.Bool.{cases_eq, not-true}
use Rattle.std.proofs.lemmas.List.{append-nil, length-set, reverse-append}
use Rattle.std.proofs.lemmas.List.Elements.{All-head}
use Rattle.std.proofs.lemmas.List.Folds.{list_any-append}
use Rattle.std.proofs.lemmas.Option.{same_Some}
use Rattle.uid_names.specs.Names.{ProcName}
use Rattle.uid_names.proofs.Passed.{equal, left-true, right-true}
use Rattle.uid_names.proofs.ListLemmas.{set-there, set-else}
use Rattle.uid_names.proofs.Somes.{take-some}
use Rattle.dom_history.specs.declared.op.Reply.{Reply}
use Rattle.dom_history.specs.declared.op.Want.{Want}
use Rattle.dom_history.specs.declared.event.What.{What}
use Rattle.dom_history.specs.declared.event.What.TheVariants.{Begin, Go, Take, Notice, Ready, Mark}
use Rattle.dom_history.specs.declared.event.Sent.{Sent}
use Rattle.dom_history.specs.Events.{Happening}
use Rattle.ring_messages.specs.Bodies.{is_request, Answer}
use Rattle.ring_messages.specs.Frames.{Message}
use Rattle.fault_handler.specs.Desks.{IsNode}
use Rattle.node_runs.specs.Setups.{Setup, given}
use Rattle.node_runs.specs.NodeStates.{Asked, NodeState, proc_of}
use Rattle.node_runs.specs.Doings.{ticked}
use Rattle.node_runs.specs.Dones.{Did}
use Rattle.node_runs.specs.Incomings.{Incoming, enabled}
use Rattle.node_runs.specs.Outcomes.{Stepped}
use Rattle.node_runs.specs.Steps.{named_step}
use Rattle.node_runs.specs.Deliveries.{noticed_by, noticed_in}
use Rattle.node_runs.specs.CallsKeep.{AreCalls, EachOf, IsOnLink}
use Rattle.node_runs.specs.SentFrames.{IsFrame}
use Rattle.node_runs.specs.NodesKeep.{IsTimely}
use Rattle.node_runs.specs.Runs as runs
use Rattle.node_runs.specs.Runs.{World, choice_of, is_above, numbered, put, frames_after, world_of, world_with, told_of}
use Rattle.node_runs.proofs.Calls.{calls-are, frames-one, put-same, put-other}
use Rattle.node_runs.proofs.Doing.{step_of-did}
use Rattle.node_runs.proofs.Receiving.{numbered-each}
use Rattle.node_runs.proofs.SettingUp.{setup-gives, setup-procs}
use Rattle.world_runs.specs.Gone.{FrameName, same_frame, was_told}
use Rattle.world_runs.specs.NamedNodes.{NamesNodes}
use Rattle.world_runs.proofs.NamedNodes.{world-names}
use Rattle.world_runs.proofs.Counting.{runs-low}
use Rattle.world_runs.proofs.Sent.{IsSent as IsSentBy, step-sent}
use Rattle.world_runs.proofs.Telling.{frame-is}
use Rattle.run_laws.specs.FittingAnswers.{AreFittingAnswers, AnswersThis, IsFittingReply}
use Rattle.run_laws.proofs.Fitting.{answers-fit}
use Rattle.run_laws.proofs.WaitingNext.{only-one}
use Rattle.node_core.specs.Nodes.{Noted, Stands}
use Rattle.node_core.specs.Receivings.{seen, indexed, mark_in}
use Rattle.node_core.specs.declared.setup.Incoming as code
use Rattle.run_journals.specs.Deciding.{line_of, decided, IsDecided}
use Rattle.run_journals.specs.RecentRuns.{IsRecentRun}
use Rattle.run_journals.specs.OverFrames.{is_over}
use Rattle.run_journals.proofs.Over.{over-stays}
use Rattle.journal_check.specs.Links.{at_link}
use Rattle.journal_check.specs.Judged.{TellsAgain}
use Rattle.journal_check.specs.Kept.{Kept, IsKeptOf, head_at, head_of, is_served, is_heard}
use Rattle.journal_check.specs.Changes.{ChangeLinks, IsFrameThere, IsTold, IsSent, IsServed, IsHeard, tells}
use Rattle.journal_check.specs.Passes.{Made, AreNodesOf, AreLinksOf, StandsFor, IsShown, IsReceived, mark_seen, marks_sent, may_follow}
use Rattle.journal_check.specs.declared.frames.Head.{Head}
use Rattle.journal_check.specs.declared.frames.Live.{Live}
use Rattle.journal_check.specs.declared.pass.Pass.{Pass}
use Rattle.journal_check.specs.declared.pass.SentMark.{SentMark}
use Rattle.journal_check.proofs.Decided.{IsComing, IsOneHead, received-coming}
use Rattle.journal_check.proofs.Happened.{node-is, kept, received, steps, above-is, leads-after, decides}
use Rattle.journal_check.proofs.LinkChanges.{changed, link-there}
use Rattle.journal_check.proofs.LinksAfter.{step-over-now, step-told, step-sent as link-sent, step-served, step-heard}
use Rattle.journal_check.proofs.Overs.{asks-none, heard-over, taken-here, served-over}
use Rattle.journal_check.proofs.Heads.{numbered-low}

-- a frame that a process is told of was sent
told-there : (p : ProcName) (o : Option Message) (i : Incoming) → Some i ≡ told_of p o → (m : Message) × (o ≡ Some m)
told-there p None i is = absurd (cc)
told-there p (Some m) i is = (m, refl)

module _ {P G : Type 0} (wants : P → Want) (becomes : P → Option Reply → P) (made : Made P) (s : Setup) (old : Pass P G) (w : World) (stands : StandsFor wants becomes made s old w)
    (few : length w.done < 2 ^ 40) (n : ℕ) (node : IsNode s.opening.nodes n) (what : What) (i : code.Incoming) (again : Bool) (got : IsReceived w n what (Some (i, again)))
    (may : may_follow (given s n) w n what (seen i) ≡ true) (st : Stepped) (named : named_step (given s n) (w.nodes n) what (seen i) ≡ Some st) where
  coming : IsComing s w n what (seen i)
  coming = received-coming s w n what i again got

  may-here : enabled (given s n) (w.nodes n) what (seen i) ≡ true
  may-here = left-true (enabled (given s n) (w.nodes n) what (seen i)) _ may

  pub above : is_above (line_of n what st).place w.done ≡ true
  above =
      above-is s stands.setup w stands.leads few n node what (seen i) coming may-here st named
      ∙ right-true (enabled (given s n) (w.nodes n) what (seen i)) _ may

  abbrev pub event : Happening
  event = line_of n what st

  abbrev pub v : World
  v = world_with w event.place what st

  pub leads-v : world_of s (event ∷ w.done) ≡ Some v
  leads-v = leads-after s stands.setup w stands.leads few n node what (seen i) coming may-here st named above

  pub decides-v : IsDecided s w event
  decides-v = decides s stands.setup w stands.leads few n node what (seen i) coming may-here st named above

  calls-v : AreCalls v
  calls-v = calls-are s (setup-procs s stands.setup) (map choice_of (event ∷ w.done)) v leads-v

  fits-v : AreFittingAnswers v
  fits-v = answers-fit s (setup-procs s stands.setup) (map choice_of (event ∷ w.done)) v leads-v

  told-after : (f : FrameName) → was_told v.done f ≡ (tells what f || was_told w.done f)
  told-after f = list_any-append (same_frame f) (noticed_by what) (noticed_in w.done)

  -- what is over stays so
  over-now : (from to index : ℕ) (m : Message) → numbered index (w.frames from to) ≡ Some m → is_over (w.nodes to) m ≡ true → is_over (v.nodes to) m ≡ true
  over-now from to index m sent over = elim (cases_eq to n) [
    | inr differs ↦ subst (λ (x : NodeState). is_over x m ≡ true) (sym (put-other w.nodes n to st.node differs)) over
    | inl same ↦
        let own = kept s stands.setup w stands.leads few n node in
        subst (λ (x : NodeState). is_over x m ≡ true) (sym (put-same w.nodes n to st.node same))
        (over-stays (given s n) (w.nodes n) what coming.incoming st.effects.dropped st m (setup-gives s stands.setup n (node-is s n node)) (own.nodes n (node-is s n node))
        (received s stands.setup w stands.leads few n node what (seen i) coming)
        (take-some IsFrame (numbered index (w.frames from to)) m sent (numbered-each IsFrame index (w.frames from to) (own.frames from to)))
        (steps s stands.setup w stands.leads few n node what (seen i) coming may-here st named)
        (subst (λ k. is_over (w.nodes k) m ≡ true) same over))
  ]

  -- a frame that is told was sent
  told-low : (from to index : ℕ) → tells what (from, to, index) ≡ true → index ≤ length (w.frames from to)
  told-low from to index = by what got
    where
      by : (x : What) → IsReceived w n x (Some (i, again)) → tells x (from, to, index) ≡ true → index ≤ length (w.frames from to)
      by (Begin p) r tells_it = absurd (cc)
      by (Go p) r tells_it = absurd (cc)
      by (Take a k) r tells_it = absurd (cc)
      by (Notice p a b k) r tells_it =
          let same : ◌≡◌ {A = FrameName} (from, to, index) (a, b, k) = frame-is (from, to, index) (a, b, k) (only-one (same_frame (from, to, index) (a, b, k)) tells_it) in
          let there = told-there (record { node = n; number = p }) (numbered k (w.frames a b)) (seen i) r.0 in
          let low = numbered-low (w.frames a b) k there.0 there.1 in
          subst (λ (f : FrameName). f.2 ≤ length (w.frames f.0 f.1)) (sym same) low
      by (Ready phase) r tells_it = absurd (cc)
      by (Mark a phase) r tells_it = absurd (cc)

  -- what is sent is the node's
  sender : (m : Message) → st.frame ≡ Some m → m.from ≡ n
  sender m is =
      let own : frames_after w n st.frame n m.to ≡ m ∷ w.frames n m.to =
      ap (λ f. frames_after w n f n m.to) is ∙ (ap (λ (f : ℕ → List Message). f m.to) (put-same w.frames n n _ refl) ∙ put-same (w.frames n) m.to m.to _ refl) in
      (subst (EachOf (IsOnLink v.calls n m.to)) own (calls-v.frames n m.to)).0.sender

  on-link : (from to index : ℕ) (m : Message) → numbered index (v.frames from to) ≡ Some m → IsOnLink v.calls from to m
  on-link from to index m sent =
      take-some (IsOnLink v.calls from to) (numbered index (v.frames from to)) m sent (numbered-each (IsOnLink v.calls from to) index (v.frames from to) (calls-v.frames from to))

  -- requests that a home decided
  link-served : (from to : ℕ) (f : Message) → seen i ≡ Incoming.Frame f → (is_request f.body && ((f.from == from) && (f.to == to))) ≡ true
      → (l : Live) → numbered l.index (v.frames from to) ≡ Some l.frame → is_served f.proc f.number l.frame ≡ true → is_over (v.nodes to) l.frame ≡ true
  link-served from to f took some l right is = by coming.incoming refl (subst (λ (j : Incoming). IsOneHead j coming.incoming) took coming.head)
    where
      asks : is_request f.body ≡ true
      asks = left-true (is_request f.body) ((f.from == from) && (f.to == to)) some

      link : ((f.from == from) && (f.to == to)) ≡ true
      link = right-true (is_request f.body) ((f.from == from) && (f.to == to)) some

      by : (k : Incoming) → coming.incoming ≡ k → IsOneHead (Incoming.Frame f) k → is_over (v.nodes to) l.frame ≡ true
      by Incoming.Nothing came head = absurd (cc)
      by (Incoming.Gone number tick) came head = absurd (cc)
      by (Incoming.Mark tick) came head = absurd (cc)
      by (Incoming.Frame m) came head =
          let from_is : from ≡ m.from = sym (equal f.from from (left-true (f.from == from) (f.to == to) link)) ∙ head.0 in
          let to_is : to ≡ m.to = sym (equal f.to to (right-true (f.from == from) (f.to == to) link)) ∙ head.1 in
          let served : is_served m.proc m.number l.frame ≡ true = ap (λ k. is_served k m.number l.frame) (sym head.2) ∙ (ap (λ k. is_served f.proc k l.frame) (sym head.3) ∙ is) in
          let done = subst (λ (k : Incoming). Did (given s n) (ticked (w.nodes n) k) what k st) came
          (step_of-did (given s n) (w.nodes n) what coming.incoming st.effects.dropped st (steps s stands.setup w stands.leads few n node what (seen i) coming may-here st named)) in
          let here : to ≡ n = to_is ∙ taken-here (given s n) (ticked (w.nodes n) (Incoming.Frame m)) what m st done in
          subst (λ (x : NodeState). is_over x l.frame ≡ true) (sym (put-same w.nodes n to st.node here))
          (served-over (given s n) (ticked (w.nodes n) (Incoming.Frame m)) what m st done (sym head.4 ∙ asks) l.frame ((on-link from to l.index l.frame right).sender ∙ from_is) served)

  -- answers whose call is open no more
  answers-low : (k from : ℕ) (calls : List Asked) (answer : Answer) → AnswersThis (numbered k calls) from answer → k ≤ length calls
  answers-low k from calls answer = by (numbered k calls) refl
    where
      by : (o : Option Asked) → numbered k calls ≡ o → AnswersThis o from answer → k ≤ length calls
      by None none is = absurd is
      by (Some c) there is = numbered-low calls k c there

  link-heard : (x : Noted P) → Stands wants becomes (made n) (given s n) x st.node → (from to : ℕ) (l : Live) → numbered l.index (v.frames from to) ≡ Some l.frame → (to == n) ≡ true → is_heard x l.index l.frame ≡ true
      → is_over (v.nodes to) l.frame ≡ true
  link-heard x node_stands from to l right own heard =
      let here : to ≡ n = equal to n own in
      let answers : is_request l.frame.body ≡ false = not-true (is_request l.frame.body) (left-true (not (is_request l.frame.body)) _ heard) in
      let fit = take-some (IsFittingReply v from to) (numbered l.index (v.frames from to)) l.frame right (numbered-each (IsFittingReply v from to) l.index (v.frames from to) (fits-v.frames from to)) (asks-none l.frame answers) in
      let made_it = answers-low l.frame.number from (v.calls to l.frame.proc) fit.0 fit.2 in
      let many = calls-v.last to l.frame.proc (on-link from to l.index l.frame right).proc in
      let low : l.frame.number ≤ (proc_of (v.nodes to) l.frame.proc).last = omega (arith, made_it, many) in
      let same = put-same w.nodes n to st.node here in
      subst (λ (x : NodeState). is_over x l.frame ≡ true) (sym same)
      (heard-over wants becomes (made n) (given s n) x st.node node_stands l.frame l.index (subst (λ (x : NodeState). l.frame.number ≤ (proc_of x l.frame.proc).last) same low) heard)

  timely-v : IsTimely v
  timely-v k = let most = (runs-low s (map choice_of (event ∷ w.done)) v leads-v).nodes k in omega (arith, most, few)

  event-named : NamesNodes s.opening.nodes event
  event-named = All-head (NamesNodes s.opening.nodes) event w.done (world-names s stands.setup (map choice_of (event ∷ w.done)) v leads-v timely-v)

  -- frames are sent to nodes
  goes : (f : Option Message) (y : Option Sent) → IsSentBy st.node.tick f y → IfSome y (λ z. IsNode s.opening.nodes z.to) → IfSome f (λ m. IsNode s.opening.nodes m.to)
  goes None y is named_so = tt
  goes (Some m) None is named_so = absurd is
  goes (Some m) (Some y) is named_so = subst (IsNode s.opening.nodes) is.1 named_so

  sends-it : IsSentBy st.node.tick st.frame st.effects.sent
  sends-it = step-sent (given s n) (w.nodes n) what coming.incoming st.effects.dropped st (steps s stands.setup w stands.leads few n node what (seen i) coming may-here st named)

  -- what is sent goes from this node to a node
  pub frame-named : IfSome (indexed st.frame st.effects.sent) (λ x. IsNode s.opening.nodes x.1.from × IsNode s.opening.nodes x.1.to)
  frame-named = by st.frame st.effects.sent refl (goes st.frame st.effects.sent sends-it event-named.sent)
    where
      by : (f : Option Message) (y : Option Sent) → st.frame ≡ f → IfSome f (λ m. IsNode s.opening.nodes m.to) → IfSome (indexed f y) (λ x. IsNode s.opening.nodes x.1.from × IsNode s.opening.nodes x.1.to)
      by None y is goes_so = tt
      by (Some m) None is goes_so = tt
      by (Some m) (Some y) is goes_so = (subst (IsNode s.opening.nodes) (sym (sender m is)) node, goes_so)

  -- the frame of a Notice was sent
  pub frame-there : IsFrameThere s.opening.nodes what old.frames.items
  frame-there = by what got
    where
      by : (x : What) → IsReceived w n x (Some (i, again)) → IsFrameThere s.opening.nodes x old.frames.items
      by (Begin p) r = tt
      by (Go p) r = tt
      by (Take a k) r = tt
      by (Notice p a b k) r =
          let m = told-there (record { node = n; number = p }) (numbered k (w.frames a b)) (seen i) r.0 in
          let nodes = take-some (λ (x : Message). IsNode s.opening.nodes a × IsNode s.opening.nodes b) (numbered k (w.frames a b)) m.0 m.1
          (numbered-each (λ (x : Message). IsNode s.opening.nodes a × IsNode s.opening.nodes b) k (w.frames a b) (stands.links.named a b)) in
          let link = link-there s.opening.nodes a b old.frames.items stands.links.count nodes.0 nodes.1 in
          let kept_there = take-some (IsKeptOf w a b) (at_link s.opening.nodes a b old.frames.items) link.0 link.1 (stands.links.link a b nodes.0 nodes.1) in
          let head = kept_there.heads k ∙ ap (option_map (λ (x : Message). head_of x (was_told w.done (a, b, k)))) m.1 in
          (nodes.0, nodes.1, subst (λ (o : Option Kept). IfSome o (λ x. IsSome (head_at k x.heads))) (sym link.1) (ap (λ (o : Option Head). is_some o) head))
      by (Ready phase) r = tt
      by (Mark a phase) r = tt

  -- what is kept of each link
  module _ (a b d after : List Kept) (x : Noted P) (node_stands : Stands wants becomes (made n) (given s n) x st.node) (told : ChangeLinks s.opening.nodes (IsTold what) old.frames.items a)
      (sent : ChangeLinks s.opening.nodes (IsSent (indexed st.frame st.effects.sent)) a b) (served : ChangeLinks s.opening.nodes (IsServed (seen i)) b d) (heard : ChangeLinks s.opening.nodes (IsHeard x n) d after) where
    link-after : (from to : ℕ) → IsNode s.opening.nodes from → IsNode s.opening.nodes to → IfSome (at_link s.opening.nodes from to after) (IsKeptOf v from to)
    link-after from to sends receives =
        let count = s.opening.nodes in
        let first = link-there count from to old.frames.items stands.links.count sends receives in
        let kept_first = take-some (IsKeptOf w from to) (at_link count from to old.frames.items) first.0 first.1 (stands.links.link from to sends receives) in
        let c1 = changed count from to (IsTold what) old.frames.items a stands.links.count told sends receives first.0 first.1 in
        let many1 = told.count ∙ stands.links.count in
        let c2 = changed count from to (IsSent (indexed st.frame st.effects.sent)) a b many1 sent sends receives c1.kept c1.there in
        let many2 = sent.count ∙ many1 in
        let c3 = changed count from to (IsServed (seen i)) b d many2 served sends receives c2.kept c2.there in
        let c4 = changed count from to (IsHeard x n) d after (served.count ∙ many2) heard sends receives c3.kept c3.there in
        let k0 = step-over-now w v n from to what first.0 c1.kept c2.kept c3.kept c4.kept kept_first (over-now from to) in
        let k1 = step-told w v n from to what first.0 c1.kept c2.kept c3.kept c4.kept kept_first k0 c1.changes (told-low from to) (λ index. told-after (from, to, index)) in
        let k2 = link-sent w v n from to what first.0 c1.kept c2.kept c3.kept c4.kept kept_first st.node.tick st.frame st.effects.sent sends-it sender refl k1 c2.changes in
        let k3 = step-served w v n from to what first.0 c1.kept c2.kept c3.kept c4.kept kept_first (seen i) k2 c3.changes (link-served from to) in
        subst (λ (o : Option Kept). IfSome o (IsKeptOf v from to)) (sym c4.there)
        (step-heard w v n from to what first.0 c1.kept c2.kept c3.kept c4.kept kept_first x k3 c4.changes (link-heard x node_stands from to))

    frames-named : (f : Option Message) → IfSome f (λ m. IsNode s.opening.nodes m.to) → (from to : ℕ) → EachOf (λ (m : Message). IsNode s.opening.nodes from × IsNode s.opening.nodes to) (frames_after w n f from to)
    frames-named None is = stands.links.named
    frames-named (Some m) is = frames-one w n m (λ from to y. IsNode s.opening.nodes from × IsNode s.opening.nodes to) (node, is) stands.links.named

    pub links-after : AreLinksOf wants becomes made s v after
    links-after = record {
      count = heard.count ∙ (served.count ∙ (sent.count ∙ (told.count ∙ stands.links.count)));
      named = frames-named st.frame (goes st.frame st.effects.sent sends-it event-named.sent);
      link = link-after;
    }

    -- all nodes
    pub nodes-after : (xs : List (Noted P)) → xs ≡ slice_set old.nodes.items (n - 1) x → AreNodesOf wants becomes made s v xs
    nodes-after xs are = record {
      count = ap (λ (ys : List (Noted P)). length ys) are ∙ (length-set old.nodes.items (n - 1) x ∙ stands.nodes.count);
      node = λ k y there. by k y (subst (λ (ys : List (Noted P)). slice_get ys k ≡ Some y) are there);
    }
      where
        by : (k : ℕ) (y : Noted P) → slice_get (slice_set old.nodes.items (n - 1) x) k ≡ Some y → Stands wants becomes (made (k + 1)) (given s (k + 1)) y (v.nodes (k + 1))
        by k y there = elim (cases_eq k (n - 1)) [
          | inl same ↦
              let low = node.0 in
              let high = node.1 in
              let many = stands.nodes.count in
              let number : n ≡ k + 1 = omega (arith, low, same) in
              let within : n - 1 < length old.nodes.items = omega (arith, low, high, many) in
              let is : x ≡ y = same_Some x y (sym (ap (slice_get (slice_set old.nodes.items (n - 1) x)) same ∙ set-there old.nodes.items (n - 1) x within) ∙ there) in
              subst (λ z. Stands wants becomes (made (k + 1)) (given s (k + 1)) z (v.nodes (k + 1))) is
              (subst (λ m. Stands wants becomes (made m) (given s m) x (v.nodes m)) number
              (subst (Stands wants becomes (made n) (given s n) x) (sym (put-same w.nodes n n st.node refl)) node_stands))
          | inr differs ↦
              let low = node.0 in
              let away : k + 1 ≢ n = λ same. differs (omega (arith, low, same)) in
              subst (Stands wants becomes (made (k + 1)) (given s (k + 1)) y) (sym (put-other w.nodes n (k + 1) st.node away))
              (stands.nodes.node k y (sym (set-else old.nodes.items (n - 1) k x differs) ∙ there))
        ]

  -- the marks that were sent
  pub marks-after : (marks : List SentMark) → marks ≡ old.marks.items ++ marks_sent (mark_in what) n st.node.tick → map mark_seen (reverse marks) ≡ v.marks
  marks-after marks are = ap (λ (ms : List SentMark). map mark_seen (reverse ms)) are ∙ by what
    where
      plain : map mark_seen (reverse (old.marks.items ++ [])) ≡ w.marks
      plain = ap (λ (ms : List SentMark). map mark_seen (reverse ms)) (append-nil old.marks.items) ∙ stands.marks

      by : (x : What) → map mark_seen (reverse (old.marks.items ++ marks_sent (mark_in x) n st.node.tick)) ≡ runs.marks_after w n st.node.tick x
      by (Begin p) = plain
      by (Go p) = plain
      by (Take a k) = plain
      by (Notice p a b k) = plain
      by (Mark a k) = plain
      by (Ready phase) =
          let m : SentMark = record { node = n; phase = phase; tick = st.node.tick } in
          ap (map mark_seen) (reverse-append old.marks.items (m ∷ [])) ∙ ap (λ (ms : List runs.SentMark). mark_seen m ∷ ms) stands.marks

  -- whether the frame was told before
  pub tells-again : TellsAgain w.done what again
  tells-again = by what got
    where
      by : (x : What) → IsReceived w n x (Some (i, again)) → TellsAgain w.done x again
      by (Begin p) r = tt
      by (Go p) r = tt
      by (Take a k) r = tt
      by (Notice p a b k) r = r.1
      by (Ready phase) r = tt
      by (Mark a phase) r = tt

  -- no other event of this kind may follow
  pub only-this : ((e : Happening) → IsRecentRun s (e ∷ w.done) → IsDecided s w e) → (e : Happening) → e.place.node ≡ n → e.what ≡ what → IsRecentRun s (e ∷ w.done) → e ≡ event
  only-this law e node_is what_is run =
      let here : decided s w n what ≡ Some e = ap (λ (x : What). decided s w n x) (sym what_is) ∙ (ap (λ k. decided s w k e.what) (sym node_is) ∙ law e run) in
      same_Some e event (sym here ∙ decides-v)

  -- so the pass that did it stands for the world behind it
  pub shown : (a b d : List Kept) (x : Noted P) (new : Pass P G) → Stands wants becomes (made n) (given s n) x st.node → ChangeLinks s.opening.nodes (IsTold what) old.frames.items a
      → ChangeLinks s.opening.nodes (IsSent (indexed st.frame st.effects.sent)) a b → ChangeLinks s.opening.nodes (IsServed (seen i)) b d → ChangeLinks s.opening.nodes (IsHeard x n) d new.frames.items
      → new.nodes.items ≡ slice_set old.nodes.items (n - 1) x → new.marks.items ≡ old.marks.items ++ marks_sent (mark_in what) n st.node.tick → new.last ≡ Some event.place
      → IsRecentRun s (event ∷ w.done) → ((e : Happening) → IsRecentRun s (e ∷ w.done) → IsDecided s w e) → IsShown wants becomes made s w n what new (record { event = event; received = i; again = again })
  shown a b d x new node_stands told sent served heard nodes marks last good law = record {
    got = got;
    again = tells-again;
    world = v;
    done = refl;
    stands = record {
      setup = stands.setup;
      run = good;
      leads = leads-v;
      nodes = nodes-after a b d new.frames.items x node_stands told sent served heard new.nodes.items nodes;
      links = links-after a b d new.frames.items x node_stands told sent served heard;
      marks = marks-after new.marks.items marks;
      last = last;
    };
    node_is = refl;
    what_is = refl;
    only = only-this law;
  }

-- where nothing is received, or what is received may not follow
module _ (s : Setup) (w : World) (law : (e : Happening) → IsRecentRun s (e ∷ w.done) → IsDecided s w e) (n : ℕ) (what : What) where
  pub never : decided s w n what ≡ None → (e : Happening) → e.place.node ≡ n → e.what ≡ what → IsRecentRun s (e ∷ w.done) → ⊥
  never none e node_is what_is run =
      let here : decided s w n what ≡ Some e = ap (λ (x : What). decided s w n x) (sym what_is) ∙ (ap (λ k. decided s w k e.what) (sym node_is) ∙ law e run) in
      let both : None ≡ Some e = sym none ∙ here in cc
