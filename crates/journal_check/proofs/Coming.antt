-- What a pass has for an event, of the world for which it stands.
use Rattle.std.proofs.Common.{◌≡◌, ℕ, ◌+◌, ◌-◌, ◌*◌, ◌≤◌, Bool, true, false, Option, Some, None, List, [], ◌∷◌, get_or, map, refl, sym, ap, subst, ◌∙◌, arith}
use Rattle.std.specs.Prelude.{◌==◌, ◌&&◌, ◌↔◌, All, max, nat_lt, reverse, slice_get, slice_index_or}
use Rattle.std.specs.List.{find}
use Rattle.std.specs.Option.{option_map}
use Rattle.std.proofs.lemmas.Bool.Decides.{nat_tests}
use Rattle.std.proofs.lemmas.Option.{same_Some, slice_get-get_or}
use Rattle.uid_names.specs.Names.{ProcName, same_proc}
use Rattle.uid_names.specs.declared.ids.Place.{Place}
use Rattle.uid_names.specs.declared.limits.TheConstants.{MAX_NODES}
use Rattle.uid_names.proofs.ListLemmas.{get-within}
use Rattle.uid_names.proofs.Passed.{equal, right-true}
use Rattle.uid_names.proofs.Somes.{take-some}
use Rattle.dom_history.specs.declared.op.Reply.{Reply}
use Rattle.dom_history.specs.declared.op.Want.{Want}
use Rattle.dom_history.specs.declared.event.What.{What}
use Rattle.dom_history.specs.declared.event.What.TheVariants.{Take, Notice}
use Rattle.dom_history.specs.Events.{Happening}
use Rattle.dom_history.specs.Histories.{place_lt}
use Rattle.dom_history.specs.Objects.{is_node}
use Rattle.ring_messages.specs.Frames.{Message, caller_of}
use Rattle.fault_handler.specs.Desks.{IsNode}
use Rattle.fault_handler.specs.Invariant.{IsProc}
use Rattle.node_runs.specs.CallsKeep.{AreCalls, IsOnLink}
use Rattle.node_runs.specs.Incomings.{Incoming, enabled, tick_of}
use Rattle.node_runs.specs.NodeStates.{NodeState, is_ended}
use Rattle.node_runs.specs.Runs as runs
use Rattle.node_runs.specs.Runs.{World, choice_of, HasEnded, is_above, marked, mark_of, numbered, told_if, told_of}
use Rattle.node_runs.specs.Setups.{Setup, Given, given}
use Rattle.node_runs.proofs.Calls.{calls-are}
use Rattle.node_runs.proofs.Receiving.{numbered-each}
use Rattle.node_runs.proofs.SettingUp.{setup-procs}
use Rattle.node_core.specs.Nodes.{Noted, Stands, given_of, state_of}
use Rattle.journal_check.proofs.LinkPlaces.{all-get, link-within, read-at}
use Rattle.journal_check.specs.Links.{at_link, link_place}
use Rattle.journal_check.specs.Kept.{Kept, IsKeptOf, live_at}
use Rattle.journal_check.specs.Passes.{Made, HasLinks, IsKeptAs, IsReceived, IsTakenOf, StandsFor, last_place, mark_seen, may_follow}
use Rattle.journal_check.specs.declared.pass.Pass.{Pass}
use Rattle.journal_check.proofs.Happened.{node-is}
use Rattle.journal_check.proofs.Heads.{live-right}
use Rattle.journal_check.proofs.Receiving.{nothing-sent-there}

-- the place of an event is above that of the last one
pub above-none : (place : Place) (es : List Happening) → None ≡ last_place es → true ≡ is_above place es
above-none place [] is = refl
above-none place (e ∷ older) is = absurd (cc)

pub above-some : (last place : Place) (es : List Happening) → Some last ≡ last_place es → place_lt last place ≡ is_above place es
above-some last place [] is = absurd (cc)
above-some last place (e ∷ older) is = ap (λ (l : Place). place_lt l place) (same_Some last e.place is)

-- what is found among the frames of a link
pub kept-frame : (w : World) (from to index : ℕ) (k : Kept) (o : Option Message) → IsKeptOf w from to k → o ≡ live_at index k.live → IsKeptAs w from to index o
kept-frame w from to index k None kept is = λ m sent. kept.over index m (sym is) sent
kept-frame w from to index k (Some m) kept is = live-right (w.frames from to) index k.live m kept.live (sym is)

module _ {P : Type 0} (wants : P → Want) (becomes : P → Option Reply → P) (made : ℕ → Option P) (g : Given) (x : Noted P) (n : NodeState) (own : Stands wants becomes made g x n) where
  pub ended-alike : is_ended (given_of x) (state_of x) ≡ is_ended g n
  ended-alike = ap (λ k. nat_lt k (state_of x).phase) (sym own.phases) ∙ ap (nat_lt g.phases) own.alike.phase

abbrev pub at_tick : ℕ → ℕ → Place
at_tick n tick = record { tick = tick; node = n }

module _ {P G : Type 0} (wants : P → Want) (becomes : P → Option Reply → P) (made : Made P) (s : Setup) (p : Pass P G) (w : World) (stands : StandsFor wants becomes made s p w) where
  pub calls-here : AreCalls w
  calls-here = calls-are s (setup-procs s stands.setup) (map choice_of w.done) w stands.leads

  -- what a link has is what is kept of it
  pub link-kept : (from to : ℕ) → IsNode s.opening.nodes from → IsNode s.opening.nodes to → (k : Kept) → at_link s.opening.nodes from to p.frames.items ≡ Some k → IsKeptOf w from to k
  link-kept from to sender receiver k there = take-some (IsKeptOf w from to) (at_link s.opening.nodes from to p.frames.items) k there (stands.links.link from to sender receiver)

  -- on what is no link between nodes nothing was sent
  nowhere : (from to index : ℕ) → (IsNode s.opening.nodes from × IsNode s.opening.nodes to → ⊥) → numbered index (w.frames from to) ≡ None
  nowhere from to index none = nothing-sent-there s.opening.nodes from to index (w.frames from to) (stands.links.named from to) none

  pub take-nowhere : (n from index : ℕ) → (IsNode s.opening.nodes from → ⊥) → IsReceived w n (Take from index) None
  take-nowhere n from index none = subst (λ (o : Option Message). IsTakenOf w n o None) (sym (nowhere from n index (λ both. none both.0))) tt

  pub kept-nowhere : (from to index : ℕ) → (IsNode s.opening.nodes from × IsNode s.opening.nodes to → ⊥) → IsKeptAs w from to index None
  kept-nowhere from to index none = λ m sent. let clash : None ≡ Some m = sym (nowhere from to index none) ∙ sent in absurd (cc)

  pub told-nowhere : (n q from to index : ℕ) → (IsNode s.opening.nodes from × IsNode s.opening.nodes to → ⊥) → IsReceived w n (Notice q from to index) None
  told-nowhere n q from to index none = (sym (ap (told_of (record { node = n; number = q })) (nowhere from to index none)), tt)

  -- no call is of what is no process
  pub told-nobody : (n q from to index : ℕ) → (IsProc q → ⊥) → IsReceived w n (Notice q from to index) None
  told-nobody n q from to index none = (sym (by (numbered index (w.frames from to)) refl), tt)
    where
      caller : ProcName
      caller = record { node = n; number = q }

      other : (m : Message) → IsProc m.proc → same_proc (caller_of m) caller ≡ false
      other m proc = of (same_proc (caller_of m) caller) refl
        where
          of : (b : Bool) → same_proc (caller_of m) caller ≡ b → same_proc (caller_of m) caller ≡ false
          of false away = away
          of true same = absurd (none (subst IsProc (equal m.proc q (right-true ((caller_of m).node == n) (m.proc == q) same)) proc))

      by : (o : Option Message) → numbered index (w.frames from to) ≡ o → told_of caller (numbered index (w.frames from to)) ≡ None
      by None sent = ap (told_of caller) sent
      by (Some m) sent =
          let link = take-some (IsOnLink w.calls from to) (numbered index (w.frames from to)) m sent (numbered-each (IsOnLink w.calls from to) index (w.frames from to) (calls-here.frames from to)) in
          ap (told_of caller) sent ∙ ap (λ b. told_if b m) (other m link.proc)

  -- the mark of a phase
  pub mark-got : (from phase : ℕ) (tick : Option ℕ) → tick ≡ option_map (λ (m : runs.SentMark). m.tick) (find (λ (m : runs.SentMark). (m.node == from) && (m.phase == phase)) (map mark_seen (reverse p.marks.items)))
      → option_map Incoming.Mark tick ≡ marked (mark_of w from phase)
  mark-got from phase tick is =
      ap (option_map Incoming.Mark) (is ∙ ap (λ (ms : List runs.SentMark). option_map (λ (m : runs.SentMark). m.tick) (find (λ (m : runs.SentMark). (m.node == from) && (m.phase == phase)) ms)) stands.marks)
      ∙ by (mark_of w from phase)
    where
      by : (o : Option runs.SentMark) → option_map Incoming.Mark (option_map (λ (m : runs.SentMark). m.tick) o) ≡ marked o
      by None = refl
      by (Some m) = refl

  -- a node at its place
  pub node-at : (n k : ℕ) (x : Noted P) → IsNode s.opening.nodes n → k ≡ n - 1 → slice_get p.nodes.items k ≡ Some x → Stands wants becomes (made n) (given s n) x (w.nodes n)
  node-at n k x node is there =
      let low = node.0 in
      let number : k + 1 ≡ n = omega (arith, low, is) in
      subst (λ m. Stands wants becomes (made m) (given s m) x (w.nodes m)) number (stands.nodes.node k x there)

  -- whether an event may follow, as the node and the last place tell
  pub may-is : (n : ℕ) (x : Noted P) → Stands wants becomes (made n) (given s n) x (w.nodes n) → (what : What) (i : Incoming) (tick : ℕ) (may above : Bool) → tick ≡ max (state_of x).tick (tick_of i) + 1
      → may ≡ enabled (given s n) (w.nodes n) what i → above ≡ is_above (at_tick n tick) w.done → (may && above) ≡ may_follow (given s n) w n what i
  may-is n x own what i tick may above tick_is may_is above_is =
      let same : tick ≡ max (w.nodes n).tick (tick_of i) + 1 = tick_is ∙ ap (λ k. max k (tick_of i) + 1) own.alike.tick in
      ap (λ b. b && above) may_is ∙ ap (λ b. enabled (given s n) (w.nodes n) what i && b) (above_is ∙ ap (λ k. is_above (at_tick n k) w.done) same)

  -- all nodes have ended
  pub all-ended : All (λ (x : Noted P). is_ended (given_of x) (state_of x) ≡ true) p.nodes.items ↔ HasEnded s w
  all-ended = (there, back)
    where
      there : All (λ (x : Noted P). is_ended (given_of x) (state_of x) ≡ true) p.nodes.items → HasEnded s w
      there all n node =
          let number = nodes-of n node in
          let low = number.0 in
          let high = number.1 in
          let many = stands.nodes.count in
          let x = get-within p.nodes.items (n - 1) (omega (arith, low, high, many)) in
          sym (ended-alike wants becomes (made n) (given s n) x.0 (w.nodes n) (node-at n (n - 1) x.0 number refl x.1))
          ∙ take-some (λ (y : Noted P). is_ended (given_of y) (state_of y) ≡ true) (slice_get p.nodes.items (n - 1)) x.0 x.1 (all-get (λ (y : Noted P). is_ended (given_of y) (state_of y) ≡ true) p.nodes.items (n - 1) all)
        where
          nodes-of : (m : ℕ) → is_node s.opening m ≡ true → IsNode s.opening.nodes m
          nodes-of m is = (grind (arith, nat_tests, is), grind (arith, nat_tests, is))

      back : HasEnded s w → All (λ (x : Noted P). is_ended (given_of x) (state_of x) ≡ true) p.nodes.items
      back ended = λ k d low.
          let x = get_or p.nodes.items k d in
          let is : slice_get p.nodes.items k ≡ Some x = slice_get-get_or p.nodes.items k d low in
          let many = stands.nodes.count in
          let node : IsNode s.opening.nodes (k + 1) = (omega arith, omega (arith, low, many)) in
          ended-alike wants becomes (made (k + 1)) (given s (k + 1)) x (w.nodes (k + 1)) (stands.nodes.node k x is) ∙ ended (k + 1) (node-is s (k + 1) node)

  -- there is something of each link
  pub has-links : HasLinks p
  has-links = record {
    few = subst (λ k. k ≤ MAX_NODES) (sym stands.nodes.count) stands.setup.start.nodes_high;
    whole = stands.links.count ∙ ap (λ k. k * k) (sym stands.nodes.count);
  }

  -- what is kept of the link that was read
  pub kept-at : (count : ℕ) → count ≡ s.opening.nodes → (from to : ℕ) → IsNode s.opening.nodes from → IsNode s.opening.nodes to → (place : ℕ) → place ≡ link_place count from to → (k : Kept)
      → k ≡ slice_index_or p.frames.items place k → IsKeptOf w from to k
  kept-at count same from to sender receiver place at k is =
      let there : place ≡ link_place s.opening.nodes from to = at ∙ ap (λ n. link_place n from to) same in
      let low = link-within s.opening.nodes from to sender receiver in
      let many = stands.links.count in
      link-kept from to sender receiver k (read-at p.frames.items place (link_place s.opening.nodes from to) k (omega (arith, low, many, there)) is there)

  -- the node that was read
  pub own-node : (n k : ℕ) (x : Noted P) → IsNode s.opening.nodes n → k ≡ n - 1 → x ≡ slice_index_or p.nodes.items k x → Stands wants becomes (made n) (given s n) x (w.nodes n)
  own-node n k x node at is =
      let low = node.0 in
      let high = node.1 in
      let many = stands.nodes.count in
      node-at n (n - 1) x node refl (read-at p.nodes.items k (n - 1) x (omega (arith, at, low, high, many)) is at)
