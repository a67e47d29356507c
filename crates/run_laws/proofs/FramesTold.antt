-- Each notice tells a process of a frame of its own call.
use Rattle.std.proofs.Common.{◌≡◌, ℕ, Bool, true, false, List, [], ◌∷◌, length, Option, Some, None, refl, sym, ap, subst, ◌∙◌, length-append, arith}
use Rattle.std.specs.Prelude.{filter, if◌then◌else◌}
use Rattle.std.proofs.lemmas.List.Elements.{filter-append}
use Rattle.uid_names.specs.Names.{ProcName, same_proc}
use Rattle.uid_names.proofs.Orders.{same_proc_is}
use Rattle.dom_history.specs.declared.event.What.{What}
use Rattle.dom_history.specs.declared.event.What.TheVariants.{Begin, Go, Take, Notice, Ready, Mark}
use Rattle.dom_history.specs.Events.{Happening}
use Rattle.ring_messages.specs.Frames.{Message, caller_of}
use Rattle.node_runs.specs.Setups.{Setup}
use Rattle.node_runs.specs.Incomings.{Incoming}
use Rattle.node_runs.specs.Runs.{World, Choice, numbered, told_if, told_of, incoming_of, world_after}
use Rattle.node_runs.specs.Deliveries.{noticed_by, noticed_in}
use Rattle.node_runs.specs.CallsKeep.{EachOf}
use Rattle.node_runs.proofs.Receiving.{EachOf-more}
use Rattle.node_runs.proofs.Worlds.{IsNext, every-run}
use Rattle.world_runs.specs.Faults.{CallName, call_of_frame, told_call, is_that_call, tells_call}
use Rattle.world_runs.specs.Gone.{FrameName}
use Rattle.world_runs.proofs.Alike.{frames-added}
use Rattle.world_runs.proofs.Faults.{one-more}
use Rattle.world_runs.proofs.Receiving.{frame-forth}
use Rattle.world_runs.proofs.Telling.{one_if}
use Rattle.run_laws.specs.EightNotices.{is_of_call, frames_told}

-- a notice to a process of this node is of a frame of its call
abbrev IsOwnNotice : World → ℕ → What → Type 0
IsOwnNotice w n (Notice p from to index) = (m : Message) × (numbered index (w.frames from to) ≡ Some m) × (caller_of m ≡ record { node = n; number = p })
IsOwnNotice w n what = Unit {0}

pub record AreOwnNotices (w : World) : Type 0 where
  pub each : EachOf (λ (e : Happening). IsOwnNotice w e.place.node e.what) w.done

told-own : (q : ProcName) (o : Option Message) (i : Incoming) → told_of q o ≡ Some i → (m : Message) × (o ≡ Some m) × (caller_of m ≡ q)
told-own q None i e = absurd (cc)
told-own q (Some m) i e = by (same_proc (caller_of m) q) refl e
  where
    by : (b : Bool) → same_proc (caller_of m) q ≡ b → told_if b m ≡ Some i → (x : Message) × (Some m ≡ Some x) × (caller_of x ≡ q)
    by true is e = (m, refl, same_proc_is (caller_of m) q is)
    by false is e = absurd (cc)

own-now : (w : World) (n : ℕ) (what : What) (i : Incoming) → incoming_of w n what ≡ Some i → IsOwnNotice w n what
own-now w n (Begin p) i e = tt
own-now w n (Go p) i e = tt
own-now w n (Take from index) i e = tt
own-now w n (Notice p from to index) i e = told-own (record { node = n; number = p }) (numbered index (w.frames from to)) i e
own-now w n (Ready phase) i e = tt
own-now w n (Mark from phase) i e = tt

-- it stays so as more frames are sent
own-later : (old new : World) → ((from to k : ℕ) (m : Message) → numbered k (old.frames from to) ≡ Some m → numbered k (new.frames from to) ≡ Some m) → (n : ℕ) (what : What) → IsOwnNotice old n what → IsOwnNotice new n what
own-later old new more n (Begin p) own = tt
own-later old new more n (Go p) own = tt
own-later old new more n (Take from index) own = tt
own-later old new more n (Notice p from to index) own = (own.0, more from to index own.0 own.1, own.2)
own-later old new more n (Ready phase) own = tt
own-later old new more n (Mark from phase) own = tt

next-own : (s : Setup) (old : World) (c : Choice) (new : World) → IsNext s old c new → AreOwnNotices old → AreOwnNotices new
next-own s old c new is before =
    let more : (from to k : ℕ) (m : Message) → numbered k (old.frames from to) ≡ Some m → numbered k (new.frames from to) ≡ Some m =
    λ from to k m found.
    ap (λ (w : World). numbered k (w.frames from to)) is.world ∙ ap (numbered k) (frames-added old c.node is.step.frame from to)
    ∙ frame-forth k c.node m is.step.frame from to (old.frames from to) found in
    record {
      each = subst (λ es. EachOf (λ (e : Happening). IsOwnNotice new e.place.node e.what) es) (sym (ap (λ (w : World). w.done) is.world)) (
        own-later old new more c.node c.what (own-now old c.node c.what is.incoming is.comes),
        EachOf-more (λ (e : Happening). IsOwnNotice old e.place.node e.what) (λ (e : Happening). IsOwnNotice new e.place.node e.what) old.done
            (λ e own. own-later old new more e.place.node e.what own) before.each,
      );
    }

pub runs-own : (s : Setup) (cs : List Choice) (w : World) → world_after s cs ≡ Some w → AreOwnNotices w
runs-own s = every-run s AreOwnNotices (record { each = tt }) (next-own s)

-- so as many frames of a call were told as there are notices of it
module _ (w : World) (c : CallName) where
  abbrev of_call : FrameName → Bool
  of_call f = is_of_call c (numbered f.2 (w.frames f.0 f.1))

  one-frame : (f : FrameName) → length (filter of_call (f ∷ [])) ≡ one_if (of_call f)
  one-frame f = by (of_call f)
    where
      by : (b : Bool) → length (if b then f ∷ [] else []) ≡ one_if b
      by true = refl
      by false = refl

  frames-of : (n : ℕ) (what : What) → IsOwnNotice w n what → length (filter of_call (noticed_by what)) ≡ one_if (is_that_call c (told_call w n what))
  frames-of n (Begin p) own = refl
  frames-of n (Go p) own = refl
  frames-of n (Take from index) own = refl
  frames-of n (Notice p from to index) own =
      one-frame (from, to, index)
      ∙ ap (λ o. one_if (is_of_call c o)) own.1
      ∙ ap (λ (q : ProcName). one_if (is_that_call c (Some (record { proc = q; number = own.0.number })))) own.2
      ∙ sym (ap (λ o. one_if (is_that_call c (call_of_frame (record { node = n; number = p }) o))) own.1)
  frames-of n (Ready phase) own = refl
  frames-of n (Mark from phase) own = refl

  frames-counted : (es : List Happening) → EachOf (λ (e : Happening). IsOwnNotice w e.place.node e.what) es → length (filter of_call (noticed_in es)) ≡ length (filter (tells_call w c) es)
  frames-counted [] own = refl
  frames-counted (e ∷ es) own =
      let here = frames-of e.place.node e.what own.0 in
      let rest = frames-counted es own.1 in
      let both = ap (λ (fs : List FrameName). length fs) (filter-append of_call (noticed_by e.what) (noticed_in es)) ∙ length-append (filter of_call (noticed_by e.what)) (filter of_call (noticed_in es)) in
      let more = one-more (tells_call w c e) e (filter (tells_call w c) es) in
      omega (arith, here, rest, both, more)

  pub as-many-frames : AreOwnNotices w → length (frames_told w c) ≡ length (filter (tells_call w c) w.done)
  as-many-frames own = frames-counted w.done own.each
