-- The ends from a node, after what an event sent came to them.
use Rattle.std.proofs.Common.{◌≡◌, ◌≢◌, ℕ, ◌+◌, ◌<◌, List, [], ◌∷◌, ◌++◌, length, map, Some, refl, sym, ap, subst, ◌∙◌, append_assoc, append-nil, arith}
use Rattle.std.specs.Prelude.{slice_get}
use Rattle.std.specs.List.{AllZip}
use Rattle.std.proofs.lemmas.Option.{slice_get-get_or}
use Rattle.dom_history.specs.declared.plan.Fate.{Fate}
use Rattle.dom_history.specs.declared.plan.FateRow.{FateRow}
use Rattle.dom_history.specs.Plans.{fate_of, fate_or_pass, AreOfLink}
use Rattle.ring_messages.specs.Frames.{Message}
use Rattle.ring_messages.specs.Spelling.{spelling}
use Rattle.node_runs.specs.Deliveries.{in_place}
use Rattle.world_runs.specs.Links as links
use Rattle.ring_links.specs.Carried as carrying
use Rattle.wire_links.specs.declared.carried.Parcel.TheVariants as parcel
use Rattle.wire_links.specs.declared.carried.Carried.{Carried}
use Rattle.wire_links.specs.declared.carried.Carried.TheVariants as carried
use Rattle.wire_links.specs.declared.wire.WireOut.{WireOut}
use Rattle.wire_links.specs.Rows.{LinkRows}
use Rattle.wire_links.specs.Carrying.{Wired, told_in_place, frame_sent, Posting, wire_with, wire_after}
use Rattle.wire_links.specs.Wires.{wire_of, pushed, outbox, from_of, to_of, rows_of, SameOut}
use Rattle.node_posts.specs.Ends.{other_at, AllZipFrom}
use Rattle.node_posts.specs.Sending.{wire_on, IsOutAfter, AreOutsAfter, IsUnpushed, AreUnpushed, IsFlushed}
use Rattle.node_posts.specs.Posts.{IsOut, AreOuts, IsPushed}
use Rattle.node_posts.proofs.Zips.{all-at, all-from, all-length, zip-at, zip-length}

with-alike : (f g : ℕ → Fate) → ((i : ℕ) → f i ≡ g i) → (x : Posting) (l : Wired) → wire_with f x l ≡ wire_with g x l
with-alike f g same (Posting.Frame m) l = ap (λ (fate : Fate). frame_sent fate m l) (same (l.frames + 1))
with-alike f g same (Posting.Mark phase tick) l = refl

pub wire-on-after : (f g : ℕ → Fate) → ((i : ℕ) → f i ≡ g i) → (ys xs : List Posting) → wire_on f ys (wire_after g xs) ≡ wire_after g (ys ++ xs)
wire-on-after f g same [] xs = refl
wire-on-after f g same (y ∷ ys) xs = ap (wire_with f y) (wire-on-after f g same ys xs) ∙ with-alike f g same y (wire_after g (ys ++ xs))

module _ (plan : List FateRow) (from to : ℕ) (xs : List Posting) (o : WireOut) (is : IsOut plan from to xs o) where
  -- an end goes by the plan
  pub out-fates : (i : ℕ) → fate_of (rows_of o) (from_of o) (to_of o) i ≡ fate_of plan from to i
  out-fates i =
      ap (λ (a : ℕ). fate_of (rows_of o) a (to_of o) i) is.link.sender
      ∙ (ap (λ (b : ℕ). fate_of (rows_of o) from b i) is.link.receiver
      ∙ ap fate_or_pass (is.link.rows.fates i))

  pub out-after : (ys : List Posting) (new : WireOut) → IsOutAfter ys o new → SameOut o new → IsOut plan from to (ys ++ xs) new
  out-after ys new after same = record {
    link = record {
      sender = ap (λ (f : LinkRows). f.from) same.link ∙ is.link.sender;
      receiver = ap (λ (f : LinkRows). f.to) same.link ∙ is.link.receiver;
      rows = subst (AreOfLink plan from to) (sym (ap (λ (f : LinkRows). f.rows) same.link)) is.link.rows;
    };
    wire =
        after ∙ (ap (wire_on (fate_of (rows_of o) (from_of o) (to_of o)) ys) is.wire
        ∙ wire-on-after (fate_of (rows_of o) (from_of o) (to_of o)) (fate_of plan from to) out-fates ys xs);
  }

  -- what was pushed is a first part of what it puts
  pub out-pushed : IsPushed plan from to xs o
  out-pushed = record { rest = outbox o; put = ap (λ (l : Wired). l.put) (sym is.wire) }

-- a wire only puts more
record IsMore (fate : ℕ → Fate) (ys xs : List Posting) : Type 0 where
  pub more : List Carried
  pub is : (wire_after fate (ys ++ xs)).put ≡ (wire_after fate xs).put ++ more

-- what a frame puts
abbrev frame_put : Fate → Message → Wired → List Carried
frame_put fate m l =
    let j = l.frames + 1 in
    told_in_place fate m j
    ++ map carried.Put (map (carrying.copy_of (parcel.Frame (spelling m))) (in_place j fate)
    ++ carrying.falling j (l.later ++ map (carrying.later_copy (parcel.Frame (spelling m))) (links.later_of j fate)))

wire-more : (fate : ℕ → Fate) (ys xs : List Posting) → IsMore fate ys xs
wire-more fate [] xs = record { more = []; is = sym (append-nil (wire_after fate xs).put) }
wire-more fate (Posting.Frame m ∷ ys) xs =
    let before = wire-more fate ys xs in
    let l = wire_after fate (ys ++ xs) in
    let last = frame_put (fate (l.frames + 1)) m l in
    record {
      more = before.more ++ last;
      is = ap (λ (cs : List Carried). cs ++ last) before.is ∙ append_assoc (wire_after fate xs).put before.more last;
    }
wire-more fate (Posting.Mark phase tick ∷ ys) xs =
    let before = wire-more fate ys xs in
    let last = carried.Put (carrying.mark_of (parcel.Mark tick) phase) ∷ [] in
    record {
      more = before.more ++ last;
      is = ap (λ (cs : List Carried). cs ++ last) before.is ∙ append_assoc (wire_after fate xs).put before.more last;
    }

pub pushed-more : (plan : List FateRow) (from to : ℕ) (ys xs : List Posting) (o new : WireOut) → IsPushed plan from to xs o → pushed new ≡ pushed o → IsPushed plan from to (ys ++ xs) new
pushed-more plan from to ys xs o new is same =
    let grows = wire-more (fate_of plan from to) ys xs in
    record {
      rest = is.rest ++ grows.more;
      put =
          grows.is ∙ (ap (λ (cs : List Carried). cs ++ grows.more) is.put ∙ (append_assoc (pushed o) is.rest grows.more
          ∙ ap (λ (cs : List Carried). cs ++ (is.rest ++ grows.more)) (sym same)));
    }

module _ (nodes : ℕ) (plan : List FateRow) (n : ℕ) (outs : ℕ → List Posting) (olds news : List WireOut) where
  -- so is each of them
  pub outs-after : (ys : ℕ → List Posting) → AreOuts nodes plan n outs olds → AreOutsAfter (λ at. ys (other_at n at)) olds news → AreUnpushed olds news
      → AreOuts nodes plan n (λ to. ys to ++ outs to) news
  outs-after ys are after same = record {
    many = ap (λ (k : ℕ). k + 1) (zip-length (λ at. IsOutAfter (ys (other_at n at))) 0 olds news after) ∙ are.many;
    each = λ at o there.
        (let found = zip-at (λ k. IsOutAfter (ys (other_at n k))) 0 at at olds news o (omega arith) after there in
        out-after plan n (other_at n at) (outs (other_at n at)) found.was (are.each at found.was found.there) (ys (other_at n at)) o found.is
        (all-at IsUnpushed olds news at found.was o same found.there there).same);
  }

  -- nothing was sent
  pub outs-still : AreOuts nodes plan n outs olds → AllZip IsFlushed olds news → AreOuts nodes plan n outs news
  outs-still are same = record {
    many = ap (λ (k : ℕ). k + 1) (all-length IsFlushed olds news same) ∙ are.many;
    each = λ at p there.
        (let found = all-from IsFlushed olds news at p same there in
        out-after plan n (other_at n at) (outs (other_at n at)) found.was (are.each at found.was found.there) [] p found.is.wire found.is.same);
  }

pub all-pushed : (nodes : ℕ) (plan : List FateRow) (n : ℕ) (outs : ℕ → List Posting) (ends : List WireOut) → AreOuts nodes plan n outs ends
    → (at : ℕ) (o : WireOut) → slice_get ends at ≡ Some o → IsPushed plan n (other_at n at) (outs (other_at n at)) o
all-pushed nodes plan n outs ends are at o there = out-pushed plan n (other_at n at) (outs (other_at n at)) o (are.each at o there)
