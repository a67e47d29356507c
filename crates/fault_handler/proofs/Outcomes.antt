-- What holds of what an access comes to, and what is told of it then.
use Rattle.std.proofs.Common.{◌≡◌, ◌∙◌, ℕ, Bool, true, false, Option, Some, None, IsSome, IfSome, Result, Ok, Err, IfOk, List, refl, sym, ap, subst}
use Rattle.std.specs.Prelude.{OnOk, OnErr}
use Rattle.std.specs.Option.{ForSome}
use Rattle.uid_names.specs.Names.{ObjectName}
use Rattle.dom_history.specs.declared.op.Op.{Op}
use Rattle.dom_history.specs.EndWords.{word_of}
use Rattle.ring_messages.proofs.Asking.{asked-seen}
use Rattle.fault_handler.specs.declared.access.Access.{Access}
use Rattle.fault_handler.specs.Desks.{DeskState}
use Rattle.fault_handler.specs.Outcomes.{Turn, Outcome, Moved, is_done, reply_as, as_access, seen_access, IsNoRefusal}
use Rattle.fault_handler.specs.Victims.{Victim, MayMakeRoom, named_victim}
use Rattle.fault_handler.specs.Accesses.{Accessed, room_made, Comes, Always}
use Rattle.fault_handler.specs.Unseen.{GivesTo}
use Rattle.fault_handler.specs.Ready.{IsReady}
use Rattle.fault_handler.specs.Next.{FitsTurn, IsAsked, IsNext}
use Rattle.fault_handler.proofs.PageLists.{AreOnce}
use Rattle.fault_handler.proofs.Choice.{named-may}

-- what holds after a call of a desk, of the operation whose call it was
pub record IsAfter (own all p : ℕ) (op : Op) (m : Moved) : Type 0 where
  pub node : m.desk.node ≡ own
  pub nodes : m.desk.nodes ≡ all
  pub asks : IsAsked m.desk.nodes m.turn
  pub ready : IsReady m.desk p
  pub fits : FitsTurn op m.turn
  pub next : IsNext m.desk p op m.turn

-- its operation ends with no refusal, or does not end
abbrev pub IsServed : Turn → Type 0
IsServed (Turn.Ends reply) = is_done (word_of reply) ≡ true
IsServed (Turn.Asks home ask) = Unit {0}
IsServed (Turn.Waits u k) = Unit {0}

-- what holds however room is made; and a page is named that makes it, each page being resident once
abbrev pub Holds : ℕ → (Moved → Type 0) → Accessed → Type 0
Holds p P (Accessed.Settled m) = P m
Holds p P (Accessed.NeedsRoom d task) = IsSome (named_victim d) × AreOnce d.cache.pages × ((victim : Victim) → MayMakeRoom d victim → P (room_made d p task victim))

pub Holds-always : (p : ℕ) (P : Moved → Type 0) (a : Accessed) → Holds p P a → Always p P a
Holds-always p P (Accessed.Settled m) holds = holds
Holds-always p P (Accessed.NeedsRoom d task) holds = holds.2

pub Holds-more : (p : ℕ) (P Q : Moved → Type 0) (a : Accessed) → ((m : Moved) → P m → Q m) → Holds p P a → Holds p Q a
Holds-more p P Q (Accessed.Settled m) more holds = more m holds
Holds-more p P Q (Accessed.NeedsRoom d task) more holds = (holds.0, holds.1, λ victim may. more (room_made d p task victim) (holds.2 victim may))

-- what the code gives is what an access comes to, of which it holds
pub come : (p : ℕ) (P Q : Moved → Type 0) (R : Type 0) (a : Accessed) → Holds p P a → Comes p Q a → ((m : Moved) → P m → Q m → R) → R
come p P Q R (Accessed.Settled m) holds comes use_it = use_it m holds comes
come p P Q R (Accessed.NeedsRoom d task) holds comes use_it = by_victim (named_victim d) refl holds.0
  where
    by_victim : (o : Option Victim) → named_victim d ≡ o → IsSome o → R
    by_victim None none there = absurd (cc)
    by_victim (Some v) named there = use_it (room_made d p task v) (holds.2 v (named-may d v holds.1 named)) (comes v named)

-- the outcome is seen in the access
pub access-seen : (turn : Turn) (dropped : List (ObjectName × ℕ)) → seen_access (as_access turn dropped) ≡ Some (record { turn = turn; dropped = dropped })
access-seen (Turn.Ends reply) dropped = by_word (is_done (word_of reply))
  where
    by_word : (b : Bool) → seen_access (reply_as b reply dropped) ≡ Some (record { turn = Turn.Ends reply; dropped = dropped })
    by_word true = refl
    by_word false = refl
access-seen (Turn.Asks home ask) dropped = rw (asked-seen ask) refl
access-seen (Turn.Waits u k) dropped = refl

-- what holds of it holds of what is seen
pub seen-holds : (P : Turn → Type 0) (new : DeskState) (m : Moved) (access : Access) → GivesTo new m access → P m.turn → ForSome (seen_access access) (λ o. P o.turn)
seen-holds P new m access gives holds o seen =
    let is : ◌≡◌ {A = Option Outcome} (Some (record { turn = m.turn; dropped = m.dropped })) (Some o) = sym (access-seen m.turn m.dropped) ∙ ap seen_access (sym gives.1) ∙ seen in
    let same : ◌≡◌ {A = Outcome} (record { turn = m.turn; dropped = m.dropped }) o = cc in
    subst (λ (x : Outcome). P x.turn) same holds

-- what is served is no refusal
pub served-access : (new : DeskState) (m : Moved) (access : Access) → GivesTo new m access → IsServed m.turn → IsNoRefusal access
served-access new m access gives served = subst IsNoRefusal (sym gives.1) (by_turn m.turn served)
  where
    by_turn : (turn : Turn) → IsServed turn → IsNoRefusal (as_access turn m.dropped)
    by_turn (Turn.Ends reply) is = rw is tt
    by_turn (Turn.Asks home ask) is = tt
    by_turn (Turn.Waits u k) is = tt

-- what an operation's call gives, where there is an answer
pub OnOk-more : {A E : Type 0} (r : Result A E) (P : A → Type 0) (Q : Type 0) → ((a : A) → P a → Q) → IfOk r P → OnOk r Q
OnOk-more (Ok a) P Q more holds = more a holds
OnOk-more (Err e) P Q more holds = tt

-- what holds of the value that is there holds of each
pub each-some : {A : Type 0} (o : Option A) (P : A → Type 0) → IfSome o P → ForSome o P
each-some None P holds x is = absurd (cc)
each-some (Some a) P holds x is = let same : a ≡ x = cc in subst P same holds

-- the same where what an access is made of is there
pub come-some : {A : Type 0} (o : Option A) (a : A → Accessed) (p : ℕ) (P Q : Moved → Type 0) (R : Type 0) → IsSome o → IfSome o (λ x. Holds p P (a x)) → IfSome o (λ x. Comes p Q (a x)) → ((m : Moved) → P m → Q m → R) → R
come-some None a p P Q R some holds comes use_it = absurd (cc)
come-some (Some x) a p P Q R some holds comes use_it = come p P Q R (a x) holds comes use_it

-- what is told of the desk and the access after a call, of the operation whose call it was
pub record IsTold (own all p : ℕ) (op : Op) (new : DeskState) (access : Access) : Type 0 where
  pub node : new.node ≡ own
  pub nodes : new.nodes ≡ all
  pub asks : ForSome (seen_access access) (λ o. IsAsked new.nodes o.turn)
  pub ready : IsReady new p
  pub fits : ForSome (seen_access access) (λ o. FitsTurn op o.turn)
  pub next : ForSome (seen_access access) (λ o. IsNext new p op o.turn)

pub told : (own all p : ℕ) (op : Op) (new : DeskState) (access : Access) (m : Moved) → IsAfter own all p op m → GivesTo new m access → IsTold own all p op new access
told own all p op new access m after gives = record {
  node = ap (λ (e : DeskState). e.node) gives.0 ∙ after.node;
  nodes = ap (λ (e : DeskState). e.nodes) gives.0 ∙ after.nodes;
  asks = seen-holds (IsAsked new.nodes) new m access gives (subst (λ (e : DeskState). IsAsked e.nodes m.turn) (sym gives.0) after.asks);
  ready = subst (λ (e : DeskState). IsReady e p) (sym gives.0) after.ready;
  fits = seen-holds (FitsTurn op) new m access gives after.fits;
  next = seen-holds (IsNext new p op) new m access gives (subst (λ (e : DeskState). IsNext e p op m.turn) (sym gives.0) after.next);
}

-- what a desk stays with, where nothing changes without an answer
pub number-kept : {A E : Type 0} (number : DeskState → ℕ) (old new : DeskState) (r : Result A E) → IfOk r (λ a. number new ≡ number old) → OnErr r (new ≡ old) → number new ≡ number old
number-kept number old new (Ok a) same unchanged = same
number-kept number old new (Err e) same unchanged = ap number unchanged
