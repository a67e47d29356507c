-- What an event sends comes to the ends of its node.
use Rattle.std.proofs.Common.{◌≡◌, ◌≢◌, ℕ, ◌+◌, ◌<◌, ◌≤◌, Bool, true, false, List, [], ◌∷◌, ◌++◌, length, get_or, set, Option, Some, None, inl, inr, refl, sym, ap, subst, ◌∙◌, append-nil, arith}
use Rattle.std.specs.Prelude.{◌==◌, slice_get, map, option_to_list, Result, Ok, Err, OnOk}
use Rattle.std.specs.List.{AllZip}
use Rattle.std.proofs.lemmas.Bool.{cases_eq, eq-eqb, ne_eqb}
use Rattle.std.proofs.lemmas.Option.{slice_get-get_or}
use Rattle.dom_history.specs.declared.plan.Fate.TheVariants.{Pass}
use Rattle.ring_messages.specs.Frames.{Message}
use Rattle.ring_links.specs.declared.notice.Notice as notice
use Rattle.ring_links.specs.Notices.{notice_for}
use Rattle.ring_links.specs.Carried as links
use Rattle.node_core.specs.declared.setup.Emitted.{Emitted}
use Rattle.node_core.specs.declared.setup.Incoming as code
use Rattle.node_core.specs.declared.setup.Incoming.TheVariants as received
use Rattle.wire_links.specs.declared.wire.WireOut.{WireOut}
use Rattle.wire_links.specs.Carrying.{Posting, frame_sent, told_at_once}
use Rattle.wire_links.specs.Wires.{wire_of, pushed, next_fate, SameOut}
use Rattle.node_posts.specs.declared.post.Post.{Post}
use Rattle.node_posts.specs.Ends.{other_at, place_of}
use Rattle.node_posts.specs.Sending.{posting_if, posted_by, posted, IsOutAfter, AreOutsAfter, IsUnpushed, AreUnpushed, own_if, own_by, told_on, told_if, told_by}
use Rattle.node_posts.specs.Turns.{IsSentStep}
use Rattle.node_posts.proofs.Zips.{all-set, zip-rest, zip-set, zip-all}
use Rattle.node_posts.proofs.Placing.{other-place, other-away, other-apart}
use Rattle.node_posts.proofs.Going.{same-out}

-- a frame came to the end at a place
pub one-sent : (olds : List WireOut) (at : ℕ) (o d : WireOut) (m : Message) → at < length olds → wire_of o ≡ frame_sent (next_fate (get_or olds at d)) m (wire_of (get_or olds at d))
    → AreOutsAfter (λ k. posting_if (k == at) m) olds (set olds at o)
one-sent olds at o d m within sent =
    zip-set (λ k. IsOutAfter (posting_if (k == at) m)) 0 at at olds o d (omega arith) within
    (λ j x differs. by-other x (j == at) (ne_eqb j at differs)) (by-place (at == at) (eq-eqb at at refl))
  where
    by-other : (x : WireOut) (b : Bool) → b ≡ false → IsOutAfter (posting_if b m) x x
    by-other x false e = refl
    by-other x true e = absurd (cc)

    by-place : (b : Bool) → b ≡ true → IsOutAfter (posting_if b m) (get_or olds at d) o
    by-place true e = sent
    by-place false e = absurd (cc)

-- nothing was pushed there
pub one-unpushed : (olds : List WireOut) (at : ℕ) (o d : WireOut) → at < length olds → SameOut (get_or olds at d) o → pushed o ≡ pushed (get_or olds at d) → AreUnpushed olds (set olds at o)
one-unpushed olds at o d within same still =
    all-set IsUnpushed (λ x. record { same = same-out x; in_ring = refl }) olds at o d within (record { same = same; in_ring = still })

-- the end that a call saw is that at the place
module _ (olds : List WireOut) (at : ℕ) (o d : WireOut) (within : at < length olds) (is : d ≡ get_or olds at d) where
  pub sent-at : (m : Message) → wire_of o ≡ frame_sent (next_fate d) m (wire_of d) → AreOutsAfter (λ k. posting_if (k == at) m) olds (set olds at o)
  sent-at m sent = one-sent olds at o d m within (sent ∙ ap (λ (x : WireOut). frame_sent (next_fate x) m (wire_of x)) is)

  pub unpushed-at : SameOut d o → pushed o ≡ pushed d → AreUnpushed olds (set olds at o)
  unpushed-at same still = one-unpushed olds at o d within (subst (λ (x : WireOut). SameOut x o) is same) (still ∙ ap (λ (x : WireOut). pushed x) is)

  -- and a request that is lost or late is noticed
  pub told-at : (m : Message) (told : Option ℕ) → told ≡ told_at_once (next_fate d) m ((wire_of d).frames + 1) → map (notice_for m) (option_to_list told) ≡ told_on m (slice_get olds at)
  told-at m told tells =
      ap (λ (k : Option ℕ). map (notice_for m) (option_to_list k)) tells
      ∙ ap (told_on m) (sym (slice_get-get_or olds at d within ∙ ap (λ (x : WireOut). Some x) (sym is)))

-- of a call that ends well in both
pub ok-both : {T E A B C : Type 0} (r : Result T E) → (A → B → C) → OnOk r A → OnOk r B → OnOk r C
ok-both (Ok u) then a b = then a b
ok-both (Err e) then a b = tt

-- nothing came to the ends
pub none-sent : (olds : List WireOut) → AreOutsAfter (λ k. []) olds olds
none-sent olds = zip-rest (λ k. IsOutAfter []) 0 olds (λ j x past. refl)

module _ {P G : Type 0} (n tick index : ℕ) (m : Message) (old new : Post P G) where
  abbrev e : Emitted
  e = record { frame = Some (index, m); mark = None }

  -- a frame to the node itself
  pub own-sent : m.to ≡ n → new.outs.items ≡ old.outs.items → new.own ≡ links.frame_sent Pass (received.Frame m) old.own → new.notices.items ≡ old.notices.items → IsSentStep n tick e old new
  own-sent here outs own notices = record {
    outs = subst (AreOutsAfter (λ at. posted tick (other_at n at) e) old.outs.items) (sym outs)
        (zip-rest (λ at. IsOutAfter (posted tick (other_at n at) e)) 0 old.outs.items
        (λ j x past. by-test x (other_at n j == m.to) (ne_eqb (other_at n j) m.to (λ h. other-away n j (h ∙ here)))));
    own = own ∙ ap (λ (b : Bool). own_if b m old.own) (sym (eq-eqb m.to n here));
    notices = notices ∙ (sym (append-nil old.notices.items) ∙ ap (λ (b : Bool). old.notices.items ++ told_if b n m old.outs.items) (sym (eq-eqb m.to n here)));
  }
    where
      by-test : (x : WireOut) (b : Bool) → b ≡ false → IsOutAfter (posting_if b m) x x
      by-test x false f = refl
      by-test x true f = absurd (cc)

  -- a frame to another node
  pub out-sent : 1 ≤ n → 1 ≤ m.to → m.to ≢ n → AreOutsAfter (λ k. posting_if (k == place_of n m.to) m) old.outs.items new.outs.items → new.own ≡ old.own
      → new.notices.items ≡ old.notices.items ++ told_on m (slice_get old.outs.items (place_of n m.to)) → IsSentStep n tick e old new
  out-sent least some away outs own notices = record {
    outs = zip-all (λ k. IsOutAfter (posting_if (k == place_of n m.to) m)) (λ k. IsOutAfter (posted tick (other_at n k) e)) 0 old.outs.items new.outs.items
        (λ j x y below is. subst (λ (b : Bool). IsOutAfter (posting_if b m) x y) (same-test j) is) outs;
    own = own ∙ ap (λ (b : Bool). own_if b m old.own) (sym (ne_eqb m.to n away));
    notices = notices ∙ ap (λ (b : Bool). old.notices.items ++ told_if b n m old.outs.items) (sym (ne_eqb m.to n away));
  }
    where
      link : other_at n (place_of n m.to) ≡ m.to
      link = other-place n m.to least some away

      same-test : (j : ℕ) → (j == place_of n m.to) ≡ (other_at n j == m.to)
      same-test j = elim (cases_eq j (place_of n m.to)) [
        | inl here ↦ eq-eqb j (place_of n m.to) here ∙ sym (eq-eqb (other_at n j) m.to (ap (other_at n) here ∙ link))
        | inr differs ↦ ne_eqb j (place_of n m.to) differs ∙ sym (ne_eqb (other_at n j) m.to (λ h. differs (other-apart n j (place_of n m.to) (h ∙ sym link))))
      ]

  -- at a place that is that of the other node
  pub out-sent-at : (at : ℕ) → at ≡ place_of n m.to → 1 ≤ n → 1 ≤ m.to → m.to ≢ n → AreOutsAfter (λ k. posting_if (k == at) m) old.outs.items new.outs.items → new.own ≡ old.own
      → new.notices.items ≡ old.notices.items ++ told_on m (slice_get old.outs.items at) → IsSentStep n tick e old new
  out-sent-at at is least some away outs own notices =
      out-sent least some away (subst (λ (a : ℕ). AreOutsAfter (λ k. posting_if (k == a) m) old.outs.items new.outs.items) is outs) own
      (notices ∙ ap (λ (a : ℕ). old.notices.items ++ told_on m (slice_get old.outs.items a)) is)

-- a frame, as the event emits it
pub frame-emitted : {P G : Type 0} (n tick : ℕ) (f : ℕ × Message) (e : Emitted) (old new : Post P G) → e.mark ≡ None → e.frame ≡ Some f → IsSentStep n tick (record { frame = Some (f.0, f.1); mark = None }) old new
    → IsSentStep n tick e old new
frame-emitted n tick f e old new unmarked is sent =
    subst (λ (x : Emitted). IsSentStep n tick x old new)
    (ap (λ (k : Option ℕ). let x : Emitted = record { frame = Some f; mark = k } in x) (sym unmarked) ∙ ap (λ (k : Option (ℕ × Message)). let x : Emitted = record { frame = k; mark = e.mark } in x) (sym is)) sent

-- a mark; or nothing
module _ {P G : Type 0} (n tick : ℕ) (e : Emitted) (old new : Post P G) where
  pub mark-sent : (phase : ℕ) → e.mark ≡ Some phase → AreOutsAfter (λ at. Posting.Mark phase tick ∷ []) old.outs.items new.outs.items → new.own ≡ old.own → new.notices.items ≡ old.notices.items
      → IsSentStep n tick e old new
  mark-sent phase is outs own notices = record {
    outs = zip-all (λ k. IsOutAfter (Posting.Mark phase tick ∷ [])) (λ k. IsOutAfter (posted tick (other_at n k) e)) 0 old.outs.items new.outs.items
        (λ j x y below sent. subst (λ (k : Option ℕ). IsOutAfter (posted_by tick (other_at n j) k e.frame) x y) (sym is) sent) outs;
    own = own ∙ ap (λ (k : Option ℕ). own_by n k e.frame old.own) (sym is);
    notices = notices ∙ (sym (append-nil old.notices.items) ∙ ap (λ (k : Option ℕ). old.notices.items ++ told_by n k e.frame old.outs.items) (sym is));
  }

  pub nothing-sent : e.mark ≡ None → e.frame ≡ None → new.outs.items ≡ old.outs.items → new.own ≡ old.own → new.notices.items ≡ old.notices.items → IsSentStep n tick e old new
  nothing-sent unmarked none outs own notices = record {
    outs = subst (AreOutsAfter (λ at. posted tick (other_at n at) e) old.outs.items) (sym outs)
        (zip-all (λ k. IsOutAfter []) (λ k. IsOutAfter (posted tick (other_at n k) e)) 0 old.outs.items old.outs.items
        (λ j x y below sent. subst (λ (f : Option (ℕ × Message)). IsOutAfter (posted_by tick (other_at n j) e.mark f) x y) (sym none)
        (subst (λ (k : Option ℕ). IsOutAfter (posted_by tick (other_at n j) k None) x y) (sym unmarked) sent)) (none-sent old.outs.items));
    own = own ∙ (ap (λ (k : Option ℕ). own_by n k None old.own) (sym unmarked) ∙ ap (λ (f : Option (ℕ × Message)). own_by n e.mark f old.own) (sym none));
    notices =
        notices ∙ (sym (append-nil old.notices.items)
        ∙ (ap (λ (k : Option ℕ). old.notices.items ++ told_by n k None old.outs.items) (sym unmarked)
        ∙ ap (λ (f : Option (ℕ × Message)). old.notices.items ++ told_by n e.mark f old.outs.items) (sym none)));
  }
