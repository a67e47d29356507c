-- What an event receives in a run is what was sent.
use Rattle.std.proofs.Common.{◌≡◌, ℕ, ◌+◌, Bool, true, false, List, [], ◌∷◌, length, Option, Some, None, sym, ap, subst}
use Rattle.std.specs.Prelude.{◌==◌, if◌then◌else◌, unwrap_or, IfSome}
use Rattle.uid_names.proofs.ListLemmas.{by_cases}
use Rattle.uid_names.specs.Names.{ProcName, same_proc}
use Rattle.dom_history.specs.declared.event.What.{What}
use Rattle.dom_history.specs.declared.event.What.TheVariants.{Begin, Go, Take, Notice, Ready, Mark}
use Rattle.ring_messages.specs.Frames.{Message, caller_of}
use Rattle.node_runs.specs.Incomings.{Incoming}
use Rattle.node_runs.specs.Runs.{World, SentMark, numbered, taken, told_if, told_of, marked, mark_of, incoming_of}
use Rattle.node_runs.specs.CallsKeep.{EachOf}

pub EachOf-more : {A : Type 0} (P Q : A → Type 0) (xs : List A) → ((x : A) → P x → Q x) → EachOf P xs → EachOf Q xs
EachOf-more P Q [] more is = tt
EachOf-more P Q (x ∷ xs) more is = (more x is.0, EachOf-more P Q xs more is.1)

pub numbered-each : {A : Type 0} (P : A → Type 0) (k : ℕ) (xs : List A) → EachOf P xs → IfSome (numbered k xs) P
numbered-each P k [] is = tt
numbered-each P k (x ∷ older) is =
    by_cases (k == length older + 1) (IfSome (numbered k (x ∷ older)) P)
    (λ h. subst (λ b. IfSome (if b then Some x else numbered k older) P) (sym h) is.0)
    (λ h. subst (λ b. IfSome (if b then Some x else numbered k older) P) (sym h) (numbered-each P k older is.1))

-- what holds of each frame on the links to a node, holds of the one that is taken
module _ (Q : Incoming → Type 0) (nothing : Q Incoming.Nothing) (gone : (number tick : ℕ) → Q (Incoming.Gone number tick)) (mark : (tick : ℕ) → Q (Incoming.Mark tick)) (P : Message → Type 0) (frame : (m : Message) → P m → Q (Incoming.Frame m)) where
  this : (i incoming : Incoming) → Some i ≡ Some incoming → Q i → Q incoming
  this i incoming same is = subst Q (ap (λ (o : Option Incoming). unwrap_or o i) same) is

  by_frame : (o : Option Message) (incoming : Incoming) → IfSome o P → taken o ≡ Some incoming → Q incoming
  by_frame None incoming is same = absurd (cc)
  by_frame (Some m) incoming is same = this (Incoming.Frame m) incoming same (frame m is)

  by_told : (b : Bool) (m : Message) (incoming : Incoming) → told_if b m ≡ Some incoming → Q incoming
  by_told true m incoming same = this (Incoming.Gone m.number m.tick) incoming same (gone m.number m.tick)
  by_told false m incoming same = absurd (cc)

  by_notice : (p : ProcName) (o : Option Message) (incoming : Incoming) → told_of p o ≡ Some incoming → Q incoming
  by_notice p None incoming same = absurd (cc)
  by_notice p (Some m) incoming same = by_told (same_proc (caller_of m) p) m incoming same

  by_mark : (o : Option SentMark) (incoming : Incoming) → marked o ≡ Some incoming → Q incoming
  by_mark None incoming same = absurd (cc)
  by_mark (Some m) incoming same = this (Incoming.Mark m.tick) incoming same (mark m.tick)

  pub incoming-is : (w : World) (n : ℕ) → ((from : ℕ) → EachOf P (w.frames from n)) → (what : What) (incoming : Incoming) → incoming_of w n what ≡ Some incoming → Q incoming
  incoming-is w n each (Begin p) incoming same = this Incoming.Nothing incoming same nothing
  incoming-is w n each (Go p) incoming same = this Incoming.Nothing incoming same nothing
  incoming-is w n each (Take from index) incoming same = by_frame (numbered index (w.frames from n)) incoming (numbered-each P index (w.frames from n) (each from)) same
  incoming-is w n each (Notice p from to index) incoming same = by_notice (record { node = n; number = p }) (numbered index (w.frames from to)) incoming same
  incoming-is w n each (Ready phase) incoming same = this Incoming.Nothing incoming same nothing
  incoming-is w n each (Mark from phase) incoming same = by_mark (mark_of w from phase) incoming same
