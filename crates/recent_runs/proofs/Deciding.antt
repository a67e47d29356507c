-- An event is recent exactly where room is made at it as its node's cache names it.
use Rattle.std.proofs.Common.{◌≡◌, ℕ, Bool, true, false, cond, List, [], ◌∷◌, length, Option, Some, None, IfSome, inl, inr, refl, sym, ap, subst, ◌∙◌}
use Rattle.std.specs.Prelude.{not, ◌&&◌, ◌||◌, find}
use Rattle.std.specs.List.{AllByRecursion}
use Rattle.std.specs.Option.{option_map, option_or}
use Rattle.std.proofs.lemmas.Bool.{cases_eq, not-true}
use Rattle.std.proofs.lemmas.List.Sums.{AllPass-from_list_all, list_all-from_AllPass}
use Rattle.std.proofs.lemmas.Option.{same_Some}
use Rattle.uid_names.specs.Names.{ObjectName}
use Rattle.uid_names.specs.Steps.{◌>>=◌}
use Rattle.uid_names.proofs.ListLemmas.{by_cases}
use Rattle.uid_names.proofs.Passed.{left-true}
use Rattle.uid_names.proofs.Somes.{map-some}
use Rattle.dom_history.specs.declared.event.What.{What}
use Rattle.dom_history.specs.declared.event.Effects.{Effects}
use Rattle.dom_history.specs.declared.event.Sent.{Sent}
use Rattle.page_cache.specs.Caches.{Resident, is_page, page_at}
use Rattle.page_cache.specs.Changes.{without_page}
use Rattle.page_cache.specs.Victims.{oldest, name_of}
use Rattle.fault_handler.specs.declared.tasks.Task.{Task}
use Rattle.fault_handler.specs.declared.transits.Transit.{Transit}
use Rattle.fault_handler.specs.Tasks.{page_of}
use Rattle.fault_handler.specs.Transits.{coming, is_moving}
use Rattle.fault_handler.specs.Desks.{DeskState, at, put_at, is_in_transit_there}
use Rattle.fault_handler.specs.Outcomes.{Turn, Moved}
use Rattle.fault_handler.specs.Invariant.{IsProc}
use Rattle.fault_handler.specs.Victims.{Victim, is_idle_clean, is_idle_dirty, is_idle_one, MayMakeRoom, victim_by, named_victim}
use Rattle.fault_handler.specs.Accesses.{Accessed, room_made}
use Rattle.fault_handler.proofs.Fours.{first, second, third, fourth, at-put_same, at-put_other}
use Rattle.node_runs.specs.Setups.{Given, IsGiven}
use Rattle.node_runs.specs.NodeStates.{BegunOp, NodeState}
use Rattle.node_runs.specs.Incomings.{Incoming}
use Rattle.node_runs.specs.Outcomes.{Stage, Stepped, moved}
use Rattle.node_runs.specs.Doings.{Doing, ticked}
use Rattle.node_runs.specs.Steps.{step_of, stepped_as_named, named_step}
use Rattle.node_runs.specs.SentFrames.{IsIncoming}
use Rattle.node_runs.specs.NodesKeep.{IsNodeOf}
use Rattle.node_runs.proofs.Stepping.{Leaves, step_of-is}
use Rattle.recent_runs.specs.Uses.{PageName, same_page, is_used_before}
use Rattle.recent_runs.specs.CacheOrders.{AreByUse, StandByUse}
use Rattle.recent_runs.specs.Recent.{candidates, IsUsedLongestAgo, DropsTheOldest}
use Rattle.recent_runs.proofs.Orders.{same_page-self, same_page-is}
use Rattle.recent_runs.proofs.PageNames.{names}
use Rattle.recent_runs.proofs.Choosing.{last, oldest-last, AreAlike, stays-passing, named-recent, recent-named}
use Rattle.recent_runs.proofs.Rooming.{AsksNone, NotBoth, NeedsIt}
use Rattle.recent_runs.proofs.Ways.{HasWay, step-happens}

-- what is found passes
last-passes : (test : Resident → Bool) (r : Resident) (pages : List Resident) → last test pages ≡ Some r → test r ≡ true
last-passes test r [] is = absurd (cc)
last-passes test r (q ∷ pages) is = by (last test pages) refl is (last-passes test r pages)
  where
    this : (b : Bool) → test q ≡ b → cond b (Some q) None ≡ Some r → test r ≡ true
    this true passes e = subst (λ (y : Resident). test y ≡ true) (same_Some q r e) passes
    this false passes e = absurd (cc)

    by : (o : Option Resident) → last test pages ≡ o → option_or o (cond (test q) (Some q) None) ≡ Some r → (last test pages ≡ Some r → test r ≡ true) → test r ≡ true
    by (Some y) found e rest = rest (found ∙ e)
    by None found e rest = this (test q) refl e

oldest-passes : (test : Resident → Bool) (r : Resident) (pages : List Resident) → oldest test pages ≡ Some r → test r ≡ true
oldest-passes test r pages is = last-passes test r pages (sym (oldest-last test pages) ∙ is)

-- the pages that processes move are those of before, but for the one that is asked for
module _ (moving : List (Option Transit)) (p : ℕ) (proc : IsProc p) (four : length moving ≡ 4) (still : at moving p None ≡ None) (u : ObjectName) (k : ℕ) where
  abbrev Then : List (Option Transit)
  Then = put_at moving p (coming u k)

  one-same : (v : ObjectName) (j : ℕ) → is_moving v j (coming u k) ≡ false → (q : ℕ) → IsProc q → is_moving v j (at Then q None) ≡ is_moving v j (at moving q None)
  one-same v j apart q other = elim (cases_eq q p) [
    | inl same ↦ subst (λ a. is_moving v j (at Then a None) ≡ is_moving v j (at moving a None)) (sym same) (ap (is_moving v j) (at-put_same moving p (coming u k) None four proc) ∙ apart ∙ sym (ap (is_moving v j) still))
    | inr differs ↦ ap (is_moving v j) (at-put_other moving p q (coming u k) None proc other differs)
  ]

  transit-same : (v : ObjectName) (j : ℕ) → is_moving v j (coming u k) ≡ false → is_in_transit_there Then v j ≡ is_in_transit_there moving v j
  transit-same v j apart =
      let a = one-same v j apart 1 first in let b = one-same v j apart 2 second in let c = one-same v j apart 3 third in let d = one-same v j apart 4 fourth in
      λ i. a i || (b i || (c i || (d i || false)))

  flip : (q : Resident) → is_page u k q ≡ false → is_moving q.uid q.page (coming u k) ≡ false
  flip q differs = by_cases (is_moving q.uid q.page (coming u k)) (is_moving q.uid q.page (coming u k) ≡ false)
      (λ is.
      let same : (u, k) ≡ name_of q = same_page-is (u, k) (name_of q) is in
      let there : same_page (name_of q) (u, k) ≡ true = subst (λ x. same_page (name_of q) x ≡ true) (sym same) (same_page-self (name_of q)) in
      absurd (let e : true ≡ false = sym there ∙ differs in cc))
      (λ h. h)

  alike : (pages : List Resident) → page_at pages u k ≡ None → AreAlike (is_idle_clean moving) (is_idle_clean Then) pages
  alike [] absent = tt
  alike (q ∷ pages) absent = by (is_page u k q) refl absent (alike pages)
    where
      by : (b : Bool) → is_page u k q ≡ b → cond b (Some q) (find (is_page u k) pages) ≡ None → (page_at pages u k ≡ None → AreAlike (is_idle_clean moving) (is_idle_clean Then) pages)
          → AreAlike (is_idle_clean moving) (is_idle_clean Then) (q ∷ pages)
      by true is e rest = absurd (cc)
      by false is e rest = (ap (λ b. not q.flags.dirty && not b) (transit-same q.uid q.page (flip q is)), rest e)

module _ (used : List PageName) where
  abbrev pub IsRecentStep : Stepped → Type 0
  IsRecentStep st = DropsTheOldest used st.node.desk st.effects

  -- where room is made
  module _ (old : DeskState) (p : ℕ) (d : DeskState) (task : Task) (needs : NeedsIt old p d task) (are : StandByUse used old) (g : Given) (n : NodeState) (o : BegunOp) (stage : Stage) where
    abbrev Made : Victim → Stepped
    Made v = moved g n p o stage (room_made d p task v)

    abbrev is_later : PageName → Resident → Bool
    is_later x r = is_used_before used x (name_of r)

    abbrev clean : Resident → Bool
    clean = is_idle_clean d.moving

    abbrev now : Resident → Bool
    now = is_idle_clean (put_at d.moving p (coming task.uid (page_of task)))

    like : AreAlike clean now d.cache.pages
    like = alike d.moving p needs.proc needs.four needs.still task.uid (page_of task) d.cache.pages needs.absent

    stand : AreByUse used (names d.cache.pages)
    stand = subst (AreByUse used) (sym needs.same) are

    clean-dropped : (r : Resident) → clean r ≡ true → victim_by r r.flags.dirty ≡ Victim.Drops r.uid r.page
    clean-dropped r is = ap (victim_by r) (not-true r.flags.dirty (left-true (not r.flags.dirty) _ is))

    dirty-sent : (r : Resident) → is_idle_dirty d.moving r ≡ true → victim_by r r.flags.dirty ≡ Victim.SendsHome r
    dirty-sent r is = ap (victim_by r) (left-true r.flags.dirty _ is)

    named-clean : (r : Resident) → oldest clean d.cache.pages ≡ Some r → named_victim d ≡ Some (Victim.Drops r.uid r.page)
    named-clean r is =
        ap (λ o. option_map (λ (r : Resident). victim_by r r.flags.dirty) (option_or o (oldest (is_idle_dirty d.moving) d.cache.pages))) is
        ∙ ap (λ (v : Victim). Some v) (clean-dropped r (oldest-passes clean r d.cache.pages is))

    named-dirty : (r : Resident) → oldest clean d.cache.pages ≡ None → oldest (is_idle_dirty d.moving) d.cache.pages ≡ Some r → named_victim d ≡ Some (Victim.SendsHome r)
    named-dirty r none is =
        ap (λ o. option_map (λ (r : Resident). victim_by r r.flags.dirty) (option_or o (oldest (is_idle_dirty d.moving) d.cache.pages))) none
        ∙ ap (λ o. option_map (λ (r : Resident). victim_by r r.flags.dirty) o) is
        ∙ ap (λ (v : Victim). Some v) (dirty-sent r (oldest-passes (is_idle_dirty d.moving) r d.cache.pages is))

    recent-victim : (v : Victim) → MayMakeRoom d v → IsRecentStep (Made v) → named_victim d ≡ Some v
    recent-victim (Victim.SendsHome r) may recent = named-dirty r may.0 may.1
    recent-victim (Victim.Drops u k) may recent = by (page_at d.cache.pages u k) refl may
      where
        by : (o : Option Resident) → page_at d.cache.pages u k ≡ o → is_idle_one d.moving o ≡ true → named_victim d ≡ Some (Victim.Drops u k)
        by None there passes = absurd (cc)
        by (Some r0) there passes =
            let each = stays-passing used clean now (u, k) (without_page d.cache.pages u k) ∙ list_all-from_AllPass (is_later (u, k)) (candidates (Made (Victim.Drops u k)).node.desk) recent.0 in
            let found = recent-named used clean now u k r0 d.cache.pages there passes like stand each in
            named-clean found.0 (oldest-last clean d.cache.pages ∙ found.1) ∙ ap (λ (x : PageName). Some (Victim.Drops x.0 x.1)) found.2

    victim-recent : (v : Victim) → named_victim d ≡ Some v → IsRecentStep (Made v)
    victim-recent v is = by (oldest clean d.cache.pages) refl
      where
        dirty : (o : Option Resident) → oldest (is_idle_dirty d.moving) d.cache.pages ≡ o → oldest clean d.cache.pages ≡ None → IsRecentStep (Made v)
        dirty None e none = absurd (let f = ap (λ o. option_map (λ (r : Resident). victim_by r r.flags.dirty) (option_or o (oldest (is_idle_dirty d.moving) d.cache.pages))) none in let h = ap (λ o. option_map (λ (r : Resident). victim_by r r.flags.dirty) o) e in cc)
        dirty (Some r) e none = subst (λ (x : Victim). IsRecentStep (Made x)) (same_Some (Victim.SendsHome r) v (sym (named-dirty r none e) ∙ is)) tt

        by : (o : Option Resident) → oldest clean d.cache.pages ≡ o → IsRecentStep (Made v)
        by None e = dirty (oldest (is_idle_dirty d.moving) d.cache.pages) refl e
        by (Some r) e =
            let each = named-recent used clean now r d.cache.pages (sym (oldest-last clean d.cache.pages) ∙ e) like stand in
            subst (λ (x : Victim). IsRecentStep (Made x)) (same_Some (Victim.Drops r.uid r.page) v (sym (named-clean r e) ∙ is))
            (AllPass-from_list_all (is_later (name_of r)) (candidates (Made (Victim.Drops r.uid r.page)).node.desk) (sym (stays-passing used clean now (name_of r) (without_page d.cache.pages r.uid r.page)) ∙ each), tt)

  -- where nothing is dropped, or nothing is sent
  none-recent : (d : DeskState) (effects : Effects) → effects.dropped ≡ [] → DropsTheOldest used d effects
  none-recent d effects none = by effects.sent
    where
      by : (sent : Option Sent) → IfSome sent (λ sent. AllByRecursion (IsUsedLongestAgo used d) effects.dropped)
      by None = tt
      by (Some sent) = subst (AllByRecursion (IsUsedLongestAgo used d)) (sym none) tt

  settled-recent : (g : Given) (n : NodeState) (p : ℕ) (o : BegunOp) (stage : Stage) (m : Moved) → NotBoth m → IsRecentStep (moved g n p o stage m)
  settled-recent g n p o stage m (inl none) = none-recent (moved g n p o stage m).node.desk (moved g n p o stage m).effects none
  settled-recent g n p o stage m (inr no_ask) = by m.turn no_ask
    where
      by : (turn : Turn) → AsksNone turn → IsRecentStep (moved g n p o stage (record m { turn = turn }))
      by (Turn.Ends reply) is = tt
      by (Turn.Waits u k) is = tt
      by (Turn.Asks home ask) is = absurd is

  -- it is recent, and it is named
  abbrev pub Decides : Given → NodeState → Doing → Stepped → Type 0
  Decides g n event st = (IsRecentStep st → stepped_as_named g n event ≡ Some st) × (stepped_as_named g n event ≡ Some st → IsRecentStep st)

  doing-decides : (g : Given) (n : NodeState) (event : Doing) (st : Stepped) → StandByUse used n.desk → HasWay n.desk event → Leaves g n event st → Decides g n event st
  doing-decides g n (Doing.Does s) st are none is = (λ recent. ap (λ (x : Stepped). Some x) (sym is), λ named. none-recent st.node.desk st.effects (ap (λ (x : Stepped). x.effects.dropped) is ∙ none))
  doing-decides g n (Doing.Moves p o stage (Accessed.Settled m)) st are way (to, may, is) =
      let same : st ≡ moved g n p o stage m = is ∙ ap (moved g n p o stage) may in
      (λ recent. ap (λ (x : Stepped). Some x) (sym same), λ named. subst IsRecentStep (sym same) (settled-recent g n p o stage m way))
  doing-decides g n (Doing.Moves p o stage (Accessed.NeedsRoom d task)) st are needs (to, (v, may, made), is) =
      let same : st ≡ moved g n p o stage (room_made d p task v) = is ∙ ap (moved g n p o stage) made in (
        λ recent.
            ap (λ x. option_map (moved g n p o stage) (option_map (room_made d p task) x)) (recent-victim n.desk p d task needs are g n o stage v may (subst IsRecentStep same recent))
            ∙ ap (λ (x : Stepped). Some x) (sym same),
        λ named.
            let one = map-some (moved g n p o stage) (option_map (room_made d p task) (named_victim d)) st named in
            let two = map-some (room_made d p task) (named_victim d) one.0 one.1 in
            subst IsRecentStep (sym (one.2 ∙ ap (moved g n p o stage) two.2)) (victim-recent n.desk p d task needs are g n o stage two.0 two.1),
      )

  pub step-decides : (g : Given) (n : NodeState) (what : What) (incoming : Incoming) (dropped : List PageName) (st : Stepped) → IsGiven g → IsNodeOf g n → IsIncoming incoming → StandByUse used n.desk → step_of g n what incoming dropped ≡ Some st
      → (IsRecentStep st → named_step g n what incoming ≡ Some st) × (named_step g n what incoming ≡ Some st → IsRecentStep st)
  step-decides g n what incoming dropped st given node frame are e =
      let is = step_of-is g n what incoming dropped st e in
      let decides = doing-decides g (ticked n incoming) is.event st are (step-happens g n what incoming dropped st given node frame is e) is.leaves in
      let named : named_step g n what incoming ≡ stepped_as_named g (ticked n incoming) is.event = ap (λ x. x >>= stepped_as_named g (ticked n incoming)) is.comes in
      (λ recent. named ∙ decides.0 recent, λ h. decides.1 (sym named ∙ h))
