-- What the home of a node stays through a request, and what it tells of objects that it made.
use Rattle.std.proofs.Common.{◌≡◌, ℕ, ◌+◌, Bool, true, false, List, Option, Some, None, refl, subst}
use Rattle.std.specs.Prelude.{All}
use Rattle.std.proofs.lemmas.Option.{same_Some}
use Rattle.uid_names.specs.Names.{ProcName, ObjectName, IsName}
use Rattle.uid_names.specs.declared.mode.Mode.{Mode}
use Rattle.object_store.specs.declared.attributes.Attr.{Attr}
use Rattle.object_store.specs.HomeStates.{HomeState, attr_of}
use Rattle.object_store.specs.Rules.{has_page, has_length}
use Rattle.lock_manager.specs.Grants.{grant_of, conflict_of}
use Rattle.lock_manager.specs.Tables.{Table}
use Rattle.call_once.specs.declared.served.Looked.{Looked}
use Rattle.call_once.specs.declared.served.Looked.TheVariants.{Fresh, Again, Old}
use Rattle.call_once.specs.Calls.{Call, call_of, body_in, last_of, looked}
use Rattle.call_once.proofs.KeptCalls.{with_call-all, call_of-all}
use Rattle.ring_messages.specs.Bodies.{Ask, Answer, body_of_answer}
use Rattle.page_server.specs.Decisions.{decide, page_answer, write_answer, lock_answer, remove_answer, make_answer, is_granted, may_remove}
use Rattle.page_server.specs.Serving.{HomeSide, serve_as, serve_of}
use Rattle.page_server.proofs.Rising.{decided-node}
use Rattle.node_runs.specs.SentFrames.{IsNamedBody}

-- it stays that of its node
abbrev IsAt : ℕ → HomeState → Type 0
IsAt node home = home.node ≡ node

pub served-node : (side : HomeSide) (p : ProcName) (number : ℕ) (ask : Ask) → (serve_of side p number ask).side.home.node ≡ side.home.node
served-node side p number ask = by (looked number (last_of p side.served))
  where
    by : (how : Looked) → (serve_as how side p number ask).side.home.node ≡ side.home.node
    by Fresh = decided-node side.home side.locks p ask
    by Again = refl
    by Old = refl

-- an answer that tells of an object that was made names one
abbrev pub IsNamedAnswer : Answer → Type 0
IsNamedAnswer answer = IsNamedBody (body_of_answer answer)

page-named : (there : Bool) (stamp : ℕ) (bytes : List ℕ) → IsNamedAnswer (page_answer there stamp bytes)
page-named true stamp bytes = tt
page-named false stamp bytes = tt

write-named : (there granted current : Bool) (stamp : ℕ) → IsNamedAnswer (write_answer there granted current stamp)
write-named false granted current stamp = tt
write-named true false current stamp = tt
write-named true true false stamp = tt
write-named true true true stamp = tt

lock-named : (attr : Option Attr) (conflict : Option (ProcName × Mode)) (grant : ℕ) → IsNamedAnswer (lock_answer attr conflict grant)
lock-named None conflict grant = tt
lock-named (Some attr) (Some held) grant = tt
lock-named (Some attr) None grant = tt

remove-named : (there held : Bool) → IsNamedAnswer (remove_answer there held)
remove-named false held = tt
remove-named true false = tt
remove-named true true = tt

make-named : (fits : Bool) (u : ObjectName) → IsName u → IsNamedAnswer (make_answer fits u)
make-named true u named = named
make-named false u named = tt

decided-named : (home : HomeState) (locks : Table) (p : ProcName) (ask : Ask) → IsName (record { counter = home.greatest + 1; home = home.node }) → IsNamedAnswer (decide home locks p ask).answer
decided-named home locks p (Ask.PageIn u page) next = page-named (has_page (attr_of home u) page) _ _
decided-named home locks p (Ask.PageOut u page grant base bytes) next = write-named (has_page (attr_of home u) page) (is_granted locks grant u p.node) _ _
decided-named home locks p (Ask.AttrOut u n grant base) next = write-named (has_length (attr_of home u) n) (is_granted locks grant u p.node) _ _
decided-named home locks p (Ask.Lock u mode) next = lock-named (attr_of home u) (conflict_of p u mode locks.grants) _
decided-named home locks p (Ask.Unlock u) next = tt
decided-named home locks p (Ask.Remove u) next = remove-named _ (may_remove (grant_of p u locks.grants))
decided-named home locks p (Ask.Make kind room) next = make-named _ _ next
decided-named home locks p (Ask.ListLocks after) next = tt

-- the answers that a side keeps name what they tell of
abbrev pub AreNamed : HomeSide → Type 0
AreNamed side = All (λ (call : Call Answer). IsNamedAnswer call.body) side.served

kept-named : (side : HomeSide) (p : ProcName) (found : Option (Call Answer)) (answer : Answer) → AreNamed side → call_of p side.served ≡ found → body_in found ≡ Some answer → IsNamedAnswer answer
kept-named side p None answer all is told = absurd (cc)
kept-named side p (Some call) answer all is told =
    subst IsNamedAnswer (same_Some call.body answer told) (call_of-all (λ (call : Call Answer). IsNamedAnswer call.body) side.served p call all is)

module _ (side : HomeSide) (p : ProcName) (number : ℕ) (ask : Ask) (named : AreNamed side) (next : IsName (record { counter = side.home.greatest + 1; home = side.home.node })) where
  pub served-named : AreNamed (serve_of side p number ask).side
  served-named = by (looked number (last_of p side.served))
    where
      by : (how : Looked) → AreNamed (serve_as how side p number ask).side
      by Fresh = let call : Call Answer = record { proc = p; number = number; body = (decide side.home side.locks p ask).answer } in
          with_call-all (λ (call : Call Answer). IsNamedAnswer call.body) call side.served (decided-named side.home side.locks p ask next) named
      by Again = named
      by Old = named

  pub told-named : (answer : Answer) → (serve_of side p number ask).answer ≡ Some answer → IsNamedAnswer answer
  told-named answer = by (looked number (last_of p side.served))
    where
      by : (how : Looked) → (serve_as how side p number ask).answer ≡ Some answer → IsNamedAnswer answer
      by Fresh told = subst IsNamedAnswer (same_Some (decide side.home side.locks p ask).answer answer told) (decided-named side.home side.locks p ask next)
      by Again told = kept-named side p (call_of p side.served) answer named refl told
      by Old told = absurd (cc)
