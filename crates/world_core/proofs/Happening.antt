-- An enabled event is done at a node.
use Rattle.std.proofs.Common.{◌≡◌, ℕ, ◌<◌, Option, Some, None, IfSome, List, length, get_or, refl, sym, ap, subst, ◌∙◌}
use Rattle.std.specs.Prelude.{filter, slice_get, true, IsSomeAnd}
use Rattle.std.specs.Option.{option_map}
use Rattle.std.proofs.lemmas.Option.{slice_get-map, slice_get_read}
use Rattle.dom_history.specs.declared.op.Reply.{Reply}
use Rattle.dom_history.specs.declared.op.Want.{Want}
use Rattle.dom_history.specs.declared.event.What.{What}
use Rattle.node_runs.specs.Incomings.{Incoming, tick_of}
use Rattle.ring_links.specs.declared.entry.Entry.{Entry}
use Rattle.node_core.specs.declared.setup.Incoming as code
use Rattle.node_core.specs.Receivings.{seen}
use Rattle.node_core.specs.declared.setup.Emitted.{Emitted}
use Rattle.node_core.specs.Nodes.{Noted, is_enabled, Does}
use Rattle.world_core.specs.declared.coming.Coming.{Coming}
use Rattle.world_core.specs.declared.coming.Source as source
use Rattle.world_core.specs.declared.station.LinkFrom.{LinkFrom}
use Rattle.world_core.specs.declared.station.Station.{Station}
use Rattle.world_core.specs.Stations.{Candidate, passes, candidates}
use Rattle.world_core.specs.Listed.{IsListed, event_at, IsDone, notices_less, ins_less}
use Rattle.world_core.proofs.Found.{IsFoundAt, IsOldest, passes-there, found-there}

-- the listed event at a place, with what it receives
pub record IsAt {P G : Type 0} (x : Station P G) (place : ℕ) (coming : Coming) : Type 0 where
  pub candidate : Candidate
  pub there : event_at x place ≡ Some candidate
  pub coming_is : candidate.coming ≡ coming
  pub enabled : is_enabled x.node coming.what candidate.incoming ≡ true
  pub found : IsFoundAt x.notices.items x.ins.items candidate.incoming coming.source

-- what a mapped look-up found
pub record IsImage {A B : Type 0} (f : A → B) (r : Option A) (y : B) : Type 0 where
  pub item : A
  pub there : r ≡ Some item
  pub image : f item ≡ y

image : {A B : Type 0} (f : A → B) (r : Option A) (y : B) → option_map f r ≡ Some y → IsImage f r y
image f None y e = absurd (cc)
image f (Some x) y e = record { item = x; there = refl; image = cc }

module _ {P G : Type 0} (x : Station P G) (place : ℕ) (coming : Coming) where
  pub at-place : IsListed x → place < length x.enabled.items → coming ≡ get_or x.enabled.items place coming → IsAt x place coming
  at-place listed within is =
      let events = filter (passes x.node) (candidates x.node x.notices.items x.ins.items) in
      let here : slice_get x.enabled.items place ≡ Some coming = slice_get_read x.enabled.items (length x.enabled.items) place coming refl within is in
      let mapped = sym (slice_get-map (λ (c : Candidate). c.coming) events place) ∙ ap (λ (cs : List Coming). slice_get cs place) (sym listed) ∙ here in
      let one = image (λ (c : Candidate). c.coming) (slice_get events place) coming mapped in
      let c = one.item in
      record {
        candidate = c;
        there = one.there;
        coming_is = one.image;
        enabled = subst (λ (k : Coming). is_enabled x.node k.what c.incoming ≡ true) one.image (passes-there x.node x.notices.items x.ins.items place c one.there);
        found = subst (λ (k : Coming). IsFoundAt x.notices.items x.ins.items c.incoming k.source) one.image (found-there x.node x.notices.items x.ins.items place c one.there);
      }

module _ {P G : Type 0} (wants : P → Want) (becomes : P → Option Reply → P) (old new : Station P G) (place : ℕ) (coming : Coming) (emitted : Emitted) (at : IsAt old place coming) where
  pub is-done : (incoming : Incoming) (src : source.Source) → at.candidate.incoming ≡ incoming → coming.source ≡ src → Does wants becomes coming.what incoming old.node new.node emitted
      → new.notices.items ≡ notices_less src old.notices.items → new.ins.items ≡ ins_less src old.ins.items
      → IfSome (event_at old place) (λ c. IsDone wants becomes c emitted old new)
  is-done incoming src receives from does notices ins =
      subst (λ (r : Option Candidate). IfSome r (λ c. IsDone wants becomes c emitted old new)) (sym at.there) (record {
        does =
            subst (λ (k : Coming). Does wants becomes k.what at.candidate.incoming old.node new.node emitted) (sym at.coming_is)
            (subst (λ (i : Incoming). Does wants becomes coming.what i old.node new.node emitted) (sym receives) does);
        notices = notices ∙ ap (λ (s : source.Source). notices_less s old.notices.items) (sym from) ∙ ap (λ (k : Coming). notices_less k.source old.notices.items) (sym at.coming_is);
        ins = ins ∙ ap (λ (s : source.Source). ins_less s old.ins.items) (sym from) ∙ ap (λ (k : Coming). ins_less k.source old.ins.items) (sym at.coming_is);
      })

-- the entry of a link may be taken
pub entry-there : {P : Type 0} (node : Noted P) (what : What) (last : ℕ) (ins : List LinkFrom) (i : ℕ) (incoming : Incoming) → IsOldest ins i incoming → is_enabled node what incoming ≡ true → tick_of incoming < last
    → IfSome (slice_get ins i) (λ l. IsSomeAnd (slice_get l.link.queue 0) (λ e. (is_enabled node what (seen e.received) ≡ true) × (tick_of (seen e.received) < last)))
entry-there node what last ins i incoming found enabled early =
    subst (λ (r : Option LinkFrom). IfSome r (λ l. IsSomeAnd (slice_get l.link.queue 0) (λ e. (is_enabled node what (seen e.received) ≡ true) × (tick_of (seen e.received) < last)))) (sym found.there)
    (subst (λ (r : Option (Entry code.Incoming)). IsSomeAnd r (λ e. (is_enabled node what (seen e.received) ≡ true) × (tick_of (seen e.received) < last))) (sym found.first)
    (subst (λ (j : Incoming). (is_enabled node what j ≡ true) × (tick_of j < last)) found.received (enabled, early)))
