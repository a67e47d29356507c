-- How often the mark of a phase stands among the entries of a link.
use Rattle.std.proofs.Common.{◌≡◌, ℕ, ◌+◌, Bool, true, false, cond, List, [], ◌∷◌, ◌++◌, map, Option, Some, None, refl, arith}
use Rattle.std.specs.Prelude.{◌==◌}
use Rattle.dom_history.specs.declared.event.Sent.{Sent}
use Rattle.dom_history.specs.declared.plan.Fate.{Fate}
use Rattle.dom_history.specs.Events.{Happening}
use Rattle.world_runs.specs.Sendings.{Sending, sending_if, frame_to, mark_to, sent_if, frames_in}
use Rattle.world_runs.specs.Waiting.{Entry, due, entries, entry_if}

-- among entries
abbrev pub marks_of : ℕ → List Entry → ℕ
marks_of k [] = 0
marks_of k (Entry.Copy index ∷ more) = marks_of k more
marks_of k (Entry.Mark phase ∷ more) = cond (phase == k) 1 0 + marks_of k more

-- among what was sent
abbrev pub marks_sent : ℕ → List Sending → ℕ
marks_sent k [] = 0
marks_sent k (Sending.Frame ∷ older) = marks_sent k older
marks_sent k (Sending.Mark phase ∷ older) = cond (phase == k) 1 0 + marks_sent k older

pub marks-append : (k : ℕ) (xs ys : List Entry) → marks_of k (xs ++ ys) ≡ marks_of k xs + marks_of k ys
marks-append k [] ys = omega arith
marks-append k (Entry.Copy index ∷ xs) ys = marks-append k xs ys
marks-append k (Entry.Mark phase ∷ xs) ys = let e = marks-append k xs ys in omega (arith, e)

pub sent-append : (k : ℕ) (xs ys : List Sending) → marks_sent k (xs ++ ys) ≡ marks_sent k xs + marks_sent k ys
sent-append k [] ys = omega arith
sent-append k (Sending.Frame ∷ xs) ys = sent-append k xs ys
sent-append k (Sending.Mark phase ∷ xs) ys = let e = sent-append k xs ys in omega (arith, e)

no-copies : (k : ℕ) (is : List ℕ) → marks_of k (map Entry.Copy is) ≡ 0
no-copies k [] = refl
no-copies k (i ∷ is) = no-copies k is

-- what was sent was put there
pub entries-sent : (k : ℕ) (fate : ℕ → Fate) (ss : List Sending) → marks_of k (entries fate ss) ≡ marks_sent k ss
entries-sent k fate [] = refl
entries-sent k fate (Sending.Frame ∷ older) =
    let a = marks-append k (entries fate older) (map Entry.Copy (due fate (frames_in older))) in
    let b = no-copies k (due fate (frames_in older)) in
    let c = entries-sent k fate older in omega (arith, a, b, c)
entries-sent k fate (Sending.Mark phase ∷ older) =
    let a = marks-append k (entries fate older) (Entry.Mark phase ∷ []) in
    let c = entries-sent k fate older in omega (arith, a, c)

-- an event sends its own mark alone
no-frame : (k : ℕ) (b : Bool) → marks_sent k (sending_if b Sending.Frame) ≡ 0
no-frame k true = refl
no-frame k false = refl

no-frames : (k to : ℕ) (o : Option Sent) → marks_sent k (frame_to to o) ≡ 0
no-frames k to None = refl
no-frames k to (Some sent) = no-frame k (sent.to == to)

pub by-event : (k : ℕ) (b : Bool) (from to : ℕ) (e : Happening) → marks_sent k (sent_if b from to e) ≡ cond b (marks_sent k (mark_to from to e.what)) 0
by-event k true from to e =
    let a = sent-append k (mark_to from to e.what) (frame_to to e.effects.sent) in
    let z = no-frames k to e.effects.sent in omega (arith, a, z)
by-event k false from to e = refl

pub one-mark : (k phase : ℕ) (b : Bool) → marks_sent k (sending_if b (Sending.Mark phase)) ≡ cond b (cond (phase == k) 1 0) 0
one-mark k phase true = omega arith
one-mark k phase false = refl

-- and takes one alone
pub one-entry : (k phase : ℕ) (b : Bool) → marks_of k (entry_if b (Entry.Mark phase)) ≡ cond b (cond (phase == k) 1 0) 0
one-entry k phase true = omega arith
one-entry k phase false = refl

pub no-entry : (k index : ℕ) (b : Bool) → marks_of k (entry_if b (Entry.Copy index)) ≡ 0
no-entry k index true = refl
no-entry k index false = refl
