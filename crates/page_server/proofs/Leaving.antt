-- What a request leaves of a home side, by how its number stands to the last one of its process.
use Rattle.std.proofs.Common.{◌≡◌, ℕ, ◌+◌, ◌-◌, ◌^◌, ◌<◌, ◌≤◌, List, refl, sym, ap, subst, ◌∙◌, arith}
use Rattle.std.specs.Prelude.{◌↔◌, IsTrue, IsSome, IsNone, IfSome, Option, Some, None}
use Rattle.std.proofs.lemmas.Bool.{false≢true}
use Rattle.std.proofs.lemmas.Option.{IfSome_then}
use Rattle.uid_names.specs.Names.{ProcName}
use Rattle.object_store.specs.HomeStates.{HomeState}
use Rattle.lock_manager.specs.Tables.{Table}
use Rattle.call_once.specs.declared.served.Looked.{Looked}
use Rattle.call_once.specs.declared.served.Looked.TheVariants.{Fresh, Again, Old}
use Rattle.call_once.specs.Calls.{Call, last_of, body_of, looked, with_call}
use Rattle.call_once.proofs.LookedNumbers.{fresh-above, again-same, old-below}
use Rattle.ring_messages.specs.Bodies.{Ask, Answer, ask_of}
use Rattle.ring_messages.specs.Frames.{Message, caller_of}
use Rattle.page_server.specs.Decisions.{Decision, decide}
use Rattle.page_server.specs.ServerStates.{ServerState}
use Rattle.page_server.specs.Serving.{HomeSide, Serving, serve_as, serve_asked, serve_frame}
use Rattle.page_server.specs.Wants.{wants_as, may_want}

-- no tick of the past is above the greatest one
pub tick-below : (last now tick : ℕ) → last ≡ now → now < tick → tick ≤ 2 ^ 40 → 1 + last ≤ 2 ^ 64 - 2
tick-below last now tick same later most = omega (arith, same, later, most)

-- what a request that was answered so, or not, leaves
pub record Leaves (before after : ServerState) (m : Message) (now : ℕ) (answer : Option Answer) : Type 0 where
  pub answered : answer ≡ (serve_frame before.side m).answer
  pub side : after.side ≡ (serve_frame before.side m).side
  pub tick : after.tick ≡ now
  pub wire : after.wire ≡ before.wire
  pub old : IsNone answer ↔ (m.number < last_of (caller_of m) before.side.served)
  pub node : after.side.home.node ≡ before.side.home.node

-- a side with the tick of its last request and its version, and what is answered beside it
abbrev pub server_of : HomeState → Table → List (Call Answer) → ℕ → ℕ → ServerState
server_of home locks served tick wire = record { side = record { home = home; locks = locks; served = served }; tick = tick; wire = wire }

abbrev serving_of : HomeState → Table → List (Call Answer) → Answer → Serving
serving_of home locks served answer = record { side = record { home = home; locks = locks; served = served }; answer = Some answer }

module _ (before : ServerState) (home : HomeState) (locks : Table) (served : List (Call Answer)) (last wire : ℕ) (view : server_of home locks served last wire ≡ before) (m : Message) (asked : IsSome (ask_of m.body)) (how : Looked)
    (looks : looked m.number (last_of (caller_of m) served) ≡ how) where
  abbrev here : HomeSide
  here = record { home = home; locks = locks; served = served }

  -- it is served as its number stands
  served-as : (o : Option Ask) → IsSome o → (s : Serving) → ((ask : Ask) → o ≡ Some ask → serve_as how here (caller_of m) m.number ask ≡ s) → serve_asked here (caller_of m) m.number o ≡ s
  served-as None some s is = absurd (false≢true some)
  served-as (Some ask) some s is = ap (λ (l : Looked). serve_as l here (caller_of m) m.number ask) looks ∙ is ask refl

  leaves : (after : ServerState) (tick : ℕ) (s : Serving) → serve_frame here m ≡ s → after.side ≡ s.side → after.tick ≡ tick → after.wire ≡ wire
      → (IsNone s.answer ↔ (m.number < last_of (caller_of m) served)) → after.side.home.node ≡ home.node → Leaves before after m tick s.answer
  leaves after tick s is side ticked same old node =
      subst (λ (b : ServerState). Leaves b after m tick s.answer) view
      (record { answered = sym (ap (λ (x : Serving). x.answer) is); side = side ∙ sym (ap (λ (x : Serving). x.side) is); tick = ticked; wire = same; old = old; node = node })

  -- what it wants
  pub wants-so : IfSome (ask_of m.body) (λ ask. IsTrue (wants_as how here (caller_of m) ask)) → IfSome (ask_of m.body) (λ ask. IsTrue (may_want before.side (caller_of m) m.number ask))
  wants-so wants =
      IfSome_then (ask_of m.body) wants
      (λ ask w. subst (λ (b : ServerState). IsTrue (may_want b.side (caller_of m) m.number ask)) view (subst (λ (l : Looked). IsTrue (wants_as l here (caller_of m) ask)) (sym looks) w))

  -- it is decided
  pub leaves-fresh : how ≡ Fresh → (after : HomeState) (table : Table) (calls : List (Call Answer)) (answer : Answer) (tick : ℕ)
      → IfSome (ask_of m.body) (λ ask. answer ≡ (decide home locks (caller_of m) ask).answer)
      → IfSome (ask_of m.body) (λ ask. after ≡ (decide home locks (caller_of m) ask).home)
      → IfSome (ask_of m.body) (λ ask. table ≡ (decide home locks (caller_of m) ask).locks)
      → calls ≡ with_call (record { proc = caller_of m; number = m.number; body = answer }) served
      → after.node ≡ home.node → Leaves before (server_of after table calls tick wire) m tick (Some answer)
  leaves-fresh is after table calls answer tick told at_home at_locks kept node =
      leaves (server_of after table calls tick wire) tick (serving_of after table calls answer)
      (served-as (ask_of m.body) asked (serving_of after table calls answer)
      (λ ask asks. ap (λ (l : Looked). serve_as l here (caller_of m) m.number ask) is ∙ sym (decided ask (there (λ a. answer ≡ (decide home locks (caller_of m) a).answer) ask asks told) (there (λ a. after ≡ (decide home locks (caller_of m) a).home) ask asks at_home) (there (λ a. table ≡ (decide home locks (caller_of m) a).locks) ask asks at_locks))))
      refl refl refl (λ none. absurd cc, λ older. absurd (let newer = fresh-above m.number (last_of (caller_of m) served) (looks ∙ is) in omega (arith, older, newer))) node
    where
      there : (P : Ask → Type 0) (ask : Ask) → ask_of m.body ≡ Some ask → IfSome (ask_of m.body) P → P ask
      there P ask asks holds = subst (λ (o : Option Ask). IfSome o P) asks holds

      decided : (ask : Ask) → answer ≡ (decide home locks (caller_of m) ask).answer → after ≡ (decide home locks (caller_of m) ask).home → table ≡ (decide home locks (caller_of m) ask).locks
          → serving_of after table calls answer ≡ serve_as Fresh here (caller_of m) m.number ask
      decided ask told at_home at_locks =
          let d : Decision = decide home locks (caller_of m) ask in
          ap (λ (h : HomeState). serving_of h table calls answer) at_home
          ∙ ap (λ (t : Table). serving_of d.home t calls answer) at_locks
          ∙ ap (λ (cs : List (Call Answer)). serving_of d.home d.locks cs answer) kept
          ∙ ap (λ (a : Answer). serving_of d.home d.locks (with_call (record { proc = caller_of m; number = m.number; body = a }) served) a) told

  -- it is answered again
  pub leaves-again : how ≡ Again → (answer : Answer) (tick : ℕ) → body_of (caller_of m) served ≡ Some answer → Leaves before (server_of home locks served tick wire) m tick (Some answer)
  leaves-again is answer tick kept =
      leaves (server_of home locks served tick wire) tick (record { side = here; answer = Some answer })
      (served-as (ask_of m.body) asked (record { side = here; answer = Some answer })
      (λ ask asks. ap (λ (l : Looked). serve_as l here (caller_of m) m.number ask) is ∙ ap (λ (o : Option Answer). record { side = here; answer = o }) kept))
      refl refl refl (λ none. absurd cc, λ older. absurd (let same = again-same m.number (last_of (caller_of m) served) (looks ∙ is) in omega (arith, older, same))) refl

  -- it is not answered
  pub leaves-old : how ≡ Old → (tick : ℕ) → Leaves before (server_of home locks served tick wire) m tick None
  leaves-old is tick =
      leaves (server_of home locks served tick wire) tick (record { side = here; answer = None })
      (served-as (ask_of m.body) asked (record { side = here; answer = None }) (λ ask asks. ap (λ (l : Looked). serve_as l here (caller_of m) m.number ask) is))
      refl refl refl (λ none. old-below m.number (last_of (caller_of m) served) (looks ∙ is), λ older. refl) refl

-- how the number of a frame stands, as it was looked up
pub looked-so : (m : Message) (p : ProcName) (n : ℕ) (served : List (Call Answer)) (how : Looked) → p ≡ caller_of m → n ≡ m.number → how ≡ looked n (last_of p served) → looked m.number (last_of (caller_of m) served) ≡ how
looked-so m p n served how caller number is =
    sym (is ∙ ap (λ (q : ProcName). looked n (last_of q served)) caller ∙ ap (λ (k : ℕ). looked k (last_of (caller_of m) served)) number)

-- without memory nothing changed
pub left-alone : (before : ServerState) (home after : HomeState) (locks table : Table) (served calls : List (Call Answer)) (last wire : ℕ) → server_of home locks served last wire ≡ before
    → after ≡ home → table ≡ locks → calls ≡ served → server_of after table calls last wire ≡ before
left-alone before home after locks table served calls last wire view at_home at_locks kept =
    ap (λ (h : HomeState). server_of h table calls last wire) at_home ∙ ap (λ (t : Table). server_of home t calls last wire) at_locks ∙ ap (λ (cs : List (Call Answer)). server_of home locks cs last wire) kept ∙ view
