-- A link on which one frame more was sent: what it delivers goes behind what waits.
use Rattle.std.proofs.Common.{◌≡◌, ℕ, zero, suc, ◌+◌, List, [], ◌∷◌, ◌++◌, map, refl, sym, ap, ◌∙◌, add-one, arith}
use Rattle.std.proofs.lemmas.List.{append_cancel_left, map-append}
use Rattle.dom_history.specs.declared.plan.Fate.{Fate}
use Rattle.node_runs.specs.Deliveries.{copies, deliveries}
use Rattle.world_runs.specs.Links.{Link, frame_sent}
use Rattle.world_runs.specs.Sendings.{Sending, frames_in}
use Rattle.world_runs.specs.Waiting.{Entry, due, entries}
use Rattle.world_runs.proofs.Linking.{IsLinkOf, frame-sent}
use Rattle.world_runs.proofs.Taking.{next-deliveries}
use Rattle.journal_check.specs.Orders.{AreKeptLater}

-- so many frames, and no mark
frames_only : ℕ → List Sending
frames_only zero = []
frames_only (suc n) = Sending.Frame ∷ frames_only n

count-only : (n : ℕ) → frames_in (frames_only n) ≡ n
unfolding frames_only
count-only zero = refl
count-only (suc n) = let e = count-only n in omega (arith, e)

-- what a link delivered
entries-only : (fate : ℕ → Fate) (n : ℕ) → entries fate (frames_only n) ≡ map Entry.Copy (deliveries fate n)
unfolding frames_only
entries-only fate zero = refl
entries-only fate (suc n) =
    ap (λ (es : List Entry). es ++ map Entry.Copy (due fate (frames_in (frames_only n)))) (entries-only fate n)
    ∙ ap (λ (k : ℕ). map Entry.Copy (deliveries fate n) ++ map Entry.Copy (due fate k)) (count-only n)
    ∙ sym (map-append Entry.Copy (deliveries fate n) (due fate n))
    ∙ ap (map Entry.Copy) (sym (next-deliveries fate n) ∙ ap (deliveries fate) (add-one n))

pub record IsSentLink (fate : ℕ → Fate) (count : ℕ) (old new : Link) : Type 0 where
  pub frames : new.frames ≡ count + 1
  pub queue : new.queue ≡ old.queue ++ map Entry.Copy (due fate count)
  pub later : AreKeptLater fate (count + 1) new.later

module _ (fate : ℕ → Fate) (l : Link) (later : AreKeptLater fate l.frames l.later) where
  -- the link as if nothing was taken there
  abbrev whole : Link
  whole = record { frames = l.frames; queue = entries fate (frames_only l.frames); later = l.later }

  whole-is : IsLinkOf fate (frames_only l.frames) 0 whole
  whole-is = record {
    frames = sym (count-only l.frames);
    queue = refl;
    enough = omega arith;
    later = λ j above. let e = count-only l.frames in ap (copies fate j) e ∙ later j (omega (arith, e, above));
  }

  sent : IsLinkOf fate (Sending.Frame ∷ frames_only l.frames) 0 (frame_sent (fate (l.frames + 1)) whole)
  sent = frame-sent fate (frames_only l.frames) 0 whole whole-is

  pub link-sent : IsSentLink fate l.frames l (frame_sent (fate (l.frames + 1)) l)
  link-sent =
      let e = count-only l.frames in
      let n = l.frames in
      record {
        frames = refl;
        queue = ap (λ (xs : List Entry). l.queue ++ xs)
            (append_cancel_left (entries fate (frames_only n)) _ (map Entry.Copy (due fate (frames_in (frames_only n)))) sent.queue
            ∙ ap (λ (k : ℕ). map Entry.Copy (due fate k)) e);
        later = λ j above. ap (copies fate j) (ap (λ k. k + 1) (sym e)) ∙ sent.later j (omega (arith, e, above));
      }
