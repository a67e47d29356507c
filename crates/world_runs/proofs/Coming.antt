-- What may come to a node was due there.
use Rattle.std.proofs.Common.{◌≡◌, ℕ, Bool, true, false, List, [], ◌∷◌, ◌++◌, Option, Some, None, inl, inr, refl, sym, subst}
use Rattle.std.specs.Prelude.{◌==◌, not, filter, flat_map}
use Rattle.std.proofs.lemmas.Bool.{not-true}
use Rattle.dom_history.specs.declared.event.What.{What}
use Rattle.dom_history.specs.declared.event.What.TheVariants.{Begin, Go, Take, Notice, Ready, Mark}
use Rattle.dom_history.specs.declared.plan.FateRow.{FateRow}
use Rattle.ring_messages.specs.Frames.{Message, caller_of}
use Rattle.fault_handler.specs.Desks.{procs}
use Rattle.node_runs.specs.Doings.{node_numbers}
use Rattle.node_runs.specs.Runs.{World, numbered}
use Rattle.world_runs.specs.Waiting.{Entry, waiting}
use Rattle.world_runs.specs.Gone.{FrameName, gone_in, was_told, notice_if, notice_of, notices_at}
use Rattle.world_runs.specs.Turns.{starts_of, oldest, takes_at, coming_to}
use Rattle.world_runs.proofs.Among.{Among, among-append, among-flat, among-filter}

-- the oldest entry of its link is taken; a frame is told that was lost or is late, and that nobody was told of
abbrev pub IsDue : List FateRow → World → ℕ → What → Type 0
IsDue plan w n (Begin p) = Unit {0}
IsDue plan w n (Go p) = Unit {0}
IsDue plan w n (Take from index) = (rest : List Entry) × (waiting plan from n w.done ≡ Entry.Copy index ∷ rest)
IsDue plan w n (Notice p from to index) = Among (from, to, index) (gone_in plan w.done) × (was_told w.done (from, to, index) ≡ false)
IsDue plan w n (Ready phase) = Unit {0}
IsDue plan w n (Mark from phase) = (rest : List Entry) × (waiting plan from n w.done ≡ Entry.Mark phase ∷ rest)

module _ (plan : List FateRow) (w : World) (n : ℕ) (y : What) where
  this : (x : What) → IsDue plan w n x → y ≡ x → IsDue plan w n y
  this x due e = subst (IsDue plan w n) (sym e) due

  due-start : (p : ℕ) → Among y (starts_of p) → IsDue plan w n y
  due-start p (inl e) = this (Begin p) tt e
  due-start p (inr (inl e)) = this (Go p) tt e
  due-start p (inr (inr is)) = absurd is

  due-oldest : (from : ℕ) (ws : List Entry) → waiting plan from n w.done ≡ ws → Among y (oldest from ws) → IsDue plan w n y
  due-oldest from [] same is = absurd is
  due-oldest from (Entry.Copy index ∷ more) same (inl e) = this (Take from index) (more, same) e
  due-oldest from (Entry.Copy index ∷ more) same (inr is) = absurd is
  due-oldest from (Entry.Mark phase ∷ more) same (inl e) = this (Mark from phase) (more, same) e
  due-oldest from (Entry.Mark phase ∷ more) same (inr is) = absurd is

  due-told : (b : Bool) (p : ℕ) (f : FrameName) → Among f (gone_in plan w.done) → was_told w.done f ≡ false → Among y (notice_if b (Notice p f.0 f.1 f.2)) → IsDue plan w n y
  due-told true p f gone untold (inl e) = this (Notice p f.0 f.1 f.2) (gone, untold) e
  due-told true p f gone untold (inr is) = absurd is
  due-told false p f gone untold is = absurd is

  due-notice : (f : FrameName) (o : Option Message) → Among f (gone_in plan w.done) → was_told w.done f ≡ false → Among y (notice_of n f o) → IsDue plan w n y
  due-notice f None gone untold is = absurd is
  due-notice f (Some m) gone untold is = due-told ((caller_of m).node == n) m.proc f gone untold is

  due-notices : Among y (notices_at plan w n) → IsDue plan w n y
  due-notices is =
      let found = among-flat (λ (f : FrameName). notice_of n f (numbered f.2 (w.frames f.0 f.1))) y (filter (λ (f : FrameName). not (was_told w.done f)) (gone_in plan w.done)) is in
      let both = among-filter (λ (f : FrameName). not (was_told w.done f)) found.0 (gone_in plan w.done) found.1 in
      due-notice found.0 (numbered found.0.2 (w.frames found.0.0 found.0.1)) both.0 (not-true (was_told w.done found.0) both.1) found.2

  due-takes : Among y (takes_at plan w n) → IsDue plan w n y
  due-takes is =
      let found = among-flat (λ (from : ℕ). oldest from (waiting plan from n w.done)) y node_numbers is in
      due-oldest found.0 (waiting plan found.0 n w.done) refl found.2

  due-ready : Among y (Ready (w.nodes n).phase ∷ []) → IsDue plan w n y
  due-ready (inl e) = this (Ready (w.nodes n).phase) tt e
  due-ready (inr is) = absurd is

  pub coming-due : Among y (coming_to plan w n) → IsDue plan w n y
  coming-due is = elim (among-append y (flat_map starts_of procs) (notices_at plan w n ++ (takes_at plan w n ++ Ready (w.nodes n).phase ∷ [])) is) [
    | inl starts ↦ (let found = among-flat starts_of y procs starts in due-start found.0 found.2)
    | inr more ↦ elim (among-append y (notices_at plan w n) (takes_at plan w n ++ Ready (w.nodes n).phase ∷ []) more) [
      | inl told ↦ due-notices told
      | inr rest ↦ elim (among-append y (takes_at plan w n) (Ready (w.nodes n).phase ∷ []) rest) [ inl takes ↦ due-takes takes | inr ready ↦ due-ready ready ]
    ]
  ]
