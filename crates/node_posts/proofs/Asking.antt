-- What a node tells that it is asked.
use Rattle.std.proofs.Common.{◌≡◌, ℕ, Bool, true, false, List, [], ◌∷◌, Option, Some, None, refl, ap, ◌∙◌}
use Rattle.std.specs.Prelude.{◌==◌, ◌&&◌, ◌||◌, not, IfNone}
use Rattle.std.specs.List.{list_any}
use Rattle.std.proofs.lemmas.Bool.{not-true}
use Rattle.uid_names.proofs.Passed.{left-true}
use Rattle.dom_history.specs.declared.event.What.{What}
use Rattle.dom_history.specs.declared.event.What.TheVariants as events
use Rattle.dom_history.specs.declared.op.Reply.{Reply}
use Rattle.dom_history.specs.declared.op.Want.{Want}
use Rattle.node_runs.specs.NodeStates.{proc_of, is_ended, is_at_end}
use Rattle.node_runs.specs.Incomings.{Incoming, has_program, may_happen, enabled}
use Rattle.node_core.specs.Nodes.{Noted, given_of, state_of, program_of, is_enabled}
use Rattle.node_core.specs.Programs.{program_by, program_in, numbers_in}
use Rattle.node_posts.specs.declared.post.Post.{Post}
use Rattle.node_posts.specs.Posts.{HasRun}

last-false : (a b c : Bool) → c ≡ false → (a && (b && c)) ≡ false
last-false true true c e = e
last-false true false c e = refl
last-false false b c e = refl

no-number : {P : Type 0} (es : List (ℕ × P)) (p : ℕ) → program_in es p ≡ None → list_any (λ q. q == p) (numbers_in es) ≡ false
no-number [] p none = refl
no-number {P} (e ∷ es) p none = by-test (e.0 == p) (no-number es p) none
  where
    by-test : (b : Bool) → (program_in es p ≡ None → list_any (λ q. q == p) (numbers_in es) ≡ false) → program_by b e.1 (program_in es p) ≡ None → (b || list_any (λ q. q == p) (numbers_in es)) ≡ false
    by-test true before none = absurd (cc)
    by-test false before none = before none

-- a process without a program does not begin
pub no-begin : {P : Type 0} (x : Noted P) (p : ℕ) → program_of x p ≡ None → is_enabled x (events.Begin p) Incoming.Nothing ≡ false
no-begin x p none =
    last-false (not x.spent) (not (is_ended (given_of x) (state_of x))) (may_happen (given_of x) (state_of x) (events.Begin p) Incoming.Nothing)
    (first-false (has_program (given_of x) p) _ (no-number x.inner.programs p none))
  where
    first-false : (a b : Bool) → a ≡ false → (a && b) ≡ false
    first-false true b e = absurd (cc)
    first-false false b e = refl

-- a node at which an event is enabled found its memory
pub enabled-live : {P : Type 0} (x : Noted P) (what : What) (incoming : Incoming) → is_enabled x what incoming ≡ true → x.spent ≡ false
enabled-live x what incoming is = not-true x.spent (left-true (not x.spent) _ is)

-- so did one without a fault
pub run-live : {P G : Type 0} (wants : P → Want) (becomes : P → Option Reply → P) (limit : ℕ) (x : Post P G) → x.fault ≡ None → HasRun wants becomes limit x → x.node.spent ≡ false
run-live wants becomes limit x none has = (has.is.whole none).1.node.stands.whole

-- the number of an unfinished command: none where the process may not begin
pub none-begins : {P : Type 0} (x : Noted P) (p : ℕ) (k : Option ℕ) → IfNone k (program_of x p ≡ None) → IfNone k (is_enabled x (events.Begin p) Incoming.Nothing ≡ false)
none-begins x p None none = no-begin x p none
none-begins x p (Some k) none = tt
