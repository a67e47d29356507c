-- A node to which came what an event sent, with its events listed anew.
use Rattle.std.proofs.Common.{◌≡◌, ◌≢◌, ℕ, ◌<◌, Bool, true, cond, Option, Some, List, [], ◌∷◌, ◌++◌, map, length, inl, inr, refl, sym, ap, subst, ◌∙◌, append-nil, arith}
use Rattle.std.specs.Prelude.{slice_get, slice_set, All}
use Rattle.std.proofs.lemmas.Bool.{eq-eqb, ne_eqb}
use Rattle.std.proofs.lemmas.List.Elements.{All-head, All-tail}
use Rattle.uid_names.proofs.ListLemmas.{set-there, set-else}
use Rattle.dom_history.specs.declared.op.Reply.{Reply}
use Rattle.dom_history.specs.declared.op.Want.{Want}
use Rattle.dom_history.specs.declared.event.What.{What}
use Rattle.dom_history.specs.declared.plan.FateRow.{FateRow}
use Rattle.node_runs.specs.Setups.{Setup, given}
use Rattle.node_runs.specs.Runs.{World}
use Rattle.world_runs.specs.Gone.{notices_at}
use Rattle.world_runs.specs.Turns as turns
use Rattle.world_runs.proofs.Among.{Among, among-filter}
use Rattle.node_core.specs.Nodes.{Noted}
use Rattle.ring_links.specs.declared.notice.Notice.{Notice}
use Rattle.world_core.specs.declared.station.LinkFrom.{LinkFrom}
use Rattle.world_core.specs.declared.station.Station.{Station}
use Rattle.ring_links.specs.Notices.{notice_what, notice_incoming}
use Rattle.world_core.specs.Stations.{is_open_notice, open_ones}
use Rattle.world_core.specs.Sending.{marked}
use Rattle.world_core.specs.SentMarks.{AreMarked}
use Rattle.world_core.specs.Listed.{IsListed, IsKept}
use Rattle.world_core.specs.Reached.{IsReached, AreReached}
use Rattle.world_core.specs.Stands.{IsNoticeOf, IsStation}
use Rattle.world_core.proofs.Reaching.{reached-not}
use Rattle.world_core.proofs.Standing.{enabled-stands}

-- notices came, and the links changed to these
pub record IsRenewed {P G : Type 0} (came : List Notice) (ins : List LinkFrom) (old new : Station P G) : Type 0 where
  pub node : new.node ≡ old.node
  pub ins_are : new.ins.items ≡ ins
  pub notices : new.notices.items ≡ open_ones old.node (old.notices.items ++ came)
  pub listed : IsListed new

-- the notices that a node has are open
module _ {P G : Type 0} (wants : P → Want) (becomes : P → Option Reply → P) (made : ℕ → ℕ → Option P) (s : Setup) (plan : List FateRow) (w : World) (n : ℕ) (x : Station P G)
    (is : IsStation wants becomes made s plan w n x) where
  open-all : (ys : List Notice) → All (IsNoticeOf w n) ys → ((z : What) → Among z (map notice_what ys) → turns.is_enabled s w n z ≡ true) → open_ones x.node ys ≡ ys
  open-all [] told each = refl
  open-all (y ∷ ys) told each =
      let one : is_open_notice x.node y ≡ true =
      enabled-stands wants becomes (made n) (given s n) x.node (w.nodes n) is.node (notice_what y) (notice_incoming y)
      ∙ ap (turns.is_enabled_by (given s n) (w.nodes n) (notice_what y)) (sym (All-head (IsNoticeOf w n) y ys told))
      ∙ each (notice_what y) (inl refl) in
      ap (λ (b : Bool). cond b (y ∷ open_ones x.node ys) (open_ones x.node ys)) one
      ∙ ap (λ (zs : List Notice). y ∷ zs) (open-all ys (All-tail (IsNoticeOf w n) y ys told) (λ z among. each z (inr among)))

  pub all-open : open_ones x.node x.notices.items ≡ x.notices.items
  all-open =
      open-all x.notices.items is.told
      (λ z among. (among-filter (turns.is_enabled s w n) z (notices_at plan w n) (subst (λ (zs : List What). Among z zs) is.notices among)).1)

-- the node at a place did an event, what it sent was sent, and its events were listed anew
module _ {P G : Type 0} (at : ℕ) (old sent new : List (Station P G)) (after reached listed : Station P G) (within : at < length old) (many : length sent ≡ length old)
    (reached-at : slice_get sent at ≡ Some reached) (notices : listed.notices.items ≡ open_ones reached.node reached.notices.items) (is-listed : IsListed listed) (is-kept : IsKept reached listed)
    (new-are : new ≡ slice_set sent at listed) where
  abbrev mids : List (Station P G)
  mids = slice_set old at after

  own-mid : slice_get mids at ≡ Some after
  own-mid = set-there old at after within

  pub own-new : slice_get new at ≡ Some listed
  own-new = ap (λ (xs : List (Station P G)). slice_get xs at) new-are ∙ set-there sent at listed (omega (arith, within, many))

  other-new : (k : ℕ) → k ≢ at → slice_get new k ≡ slice_get sent k
  other-new k away = ap (λ (xs : List (Station P G)). slice_get xs k) new-are ∙ set-else sent at k listed away

  own-renewed : (came : List Notice) (ins : List LinkFrom) → IsReached true came ins after reached → IsRenewed came ins after listed
  own-renewed came ins is = record {
    node = is-kept.node ∙ is.node;
    ins_are = (let same = is-kept.ins in cc) ∙ is.ins_are;
    notices = notices ∙ ap (λ (x : Noted P). open_ones x reached.notices.items) is.node ∙ ap (open_ones after.node) (is.own_notices refl);
    listed = is-listed;
  }

  -- a frame, or nothing
  module _ (came : ℕ → List Notice) (ins : ℕ → List LinkFrom → List LinkFrom) (are : AreReached at came ins mids sent) where
    pub frame-own : IsRenewed (came at) (ins at after.ins.items) after listed
    frame-own =
        own-renewed (came at) (ins at after.ins.items)
        (subst (λ (b : Bool). IsReached b (came at) (ins at after.ins.items) after reached) (eq-eqb at at refl) (are at after reached own-mid reached-at))

    pub frame-other : (k : ℕ) (x y : Station P G) → k ≢ at → slice_get old k ≡ Some x → slice_get new k ≡ Some y → open_ones x.node x.notices.items ≡ x.notices.items → IsListed x
        → IsRenewed (came k) (ins k x.ins.items) x y
    frame-other k x y away there stands open_are was-listed =
        let is = are k x y (set-else old at k after away ∙ there) (sym (other-new k away) ∙ stands) in
        let other = ne_eqb k at away in
        record { node = is.node; ins_are = is.ins_are; notices = is.notices other open_are; listed = is.listed other was-listed }

  -- a mark
  module _ (phase tick : ℕ) (are : AreMarked at phase tick mids sent) where
    pub mark-own : IsRenewed [] after.ins.items after listed
    mark-own =
        let same : Some after ≡ Some reached = sym own-mid ∙ sym are.sender ∙ reached-at in
        own-renewed [] after.ins.items (subst (λ (z : Station P G). IsReached true [] after.ins.items after z) (let s = same in cc) (reached-not true after))

    pub mark-other : (k : ℕ) (x y : Station P G) → k ≢ at → slice_get old k ≡ Some x → slice_get new k ≡ Some y → open_ones x.node x.notices.items ≡ x.notices.items → IsListed x
        → IsRenewed [] (marked at phase tick x.ins.items) x y
    mark-other k x y away there stands open_are was-listed =
        let is = are.others k x y away (set-else old at k after away ∙ there) (sym (other-new k away) ∙ stands) in record {
          node = is.node;
          ins_are = is.ins;
          notices = ap (λ v. v.items) is.notices ∙ sym open_are ∙ ap (open_ones x.node) (sym (append-nil x.notices.items));
          listed = is.listed was-listed;
        }
