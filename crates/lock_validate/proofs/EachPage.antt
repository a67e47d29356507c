-- What holds of the names of the resident pages stays, where it holds of each page that comes.
use Rattle.std.proofs.Common.{◌≡◌, ℕ, Bool, true, false, List, [], ◌∷◌, Option, Some, None, IfSome}
use Rattle.std.specs.Prelude.{not, filter, find, if◌then◌else◌}
use Rattle.uid_names.specs.Names.{ObjectName}
use Rattle.uid_names.specs.Each.{EachOf}
use Rattle.page_cache.specs.Caches.{Resident, is_of, is_page, page_at}
use Rattle.page_cache.specs.Changes.{without_page, with_front, used, changed_if}
use Rattle.fault_handler.specs.declared.tasks.Task.{Task}
use Rattle.fault_handler.specs.declared.transits.Transit.{Transit}
use Rattle.fault_handler.specs.ShownPages.{changed_page, written, as_sent, settled}
use Rattle.fault_handler.specs.Changes.{settled_by}
use Rattle.fault_handler.specs.Tasks.{page_of, IsTask}
use Rattle.fault_handler.specs.Desks.{DeskState, moving_of}
use Rattle.fault_handler.specs.Outcomes.{Turn}
use Rattle.fault_handler.specs.PageReplies.{PageAnswer}
use Rattle.lock_validate.specs.Causes.{Cause}
use Rattle.lock_validate.specs.DeskMoves.{Change, DeskMoves}

module _ (Q : ObjectName → ℕ → Type 0) where
  abbrev Of : Resident → Type 0
  Of r = Q r.uid r.page

  each-filter : (keep : Resident → Bool) (pages : List Resident) → EachOf Of pages → EachOf Of (filter keep pages)
  each-filter keep [] each = tt
  each-filter keep (r ∷ pages) each = by (keep r) (each-filter keep pages each.1)
    where
      by : (b : Bool) → EachOf Of (filter keep pages) → EachOf Of (if b then r ∷ filter keep pages else filter keep pages)
      by true rest = (each.0, rest)
      by false rest = rest

  pub each-find : (test : Resident → Bool) (pages : List Resident) → EachOf Of pages → IfSome (find test pages) Of
  each-find test [] each = tt
  each-find test (r ∷ pages) each = by (test r) (each-find test pages each.1)
    where
      by : (b : Bool) → IfSome (find test pages) Of → IfSome (if b then Some r else find test pages) Of
      by true rest = each.0
      by false rest = rest

  each-front : (o : Option Resident) (pages : List Resident) → IfSome o Of → EachOf Of pages → EachOf Of (with_front o pages)
  each-front None pages is each = each
  each-front (Some r) pages is each = (is, each)

  each-used : (pages : List Resident) (u : ObjectName) (k : ℕ) → EachOf Of pages → EachOf Of (used pages u k)
  each-used pages u k each = each-front (page_at pages u k) (without_page pages u k) (each-find (is_page u k) pages each) (each-filter (λ r. not (is_page u k r)) pages each)

  each-changed : (change : Resident → Resident) → ((r : Resident) → Of r → Of (change r)) → (u : ObjectName) (k : ℕ) (pages : List Resident) → EachOf Of pages → EachOf Of (changed_page u k change pages)
  each-changed change names u k [] each = tt
  each-changed change names u k (r ∷ pages) each = (by (is_page u k r), each-changed change names u k pages each.1)
    where
      by : (b : Bool) → Of (changed_if b change r)
      by true = names r each.0
      by false = each.0

  each-settled : (o : Option Transit) (taken : Bool) (pages : List Resident) → EachOf Of pages → EachOf Of (settled_by o taken pages)
  each-settled None taken pages each = each
  each-settled (Some t) taken pages each = each-changed (settled taken) (λ r is. is) t.uid t.page pages each

  module _ (c : Cause) (turn : Turn) (p : ℕ) (comes : (d : DeskState) (task : Task) (stamp : ℕ) (bytes : List ℕ) → c ≡ Cause.PageCame (PageAnswer.Came task stamp bytes) → IsTask task → Q task.uid (page_of task)) where
    pub change-pages : (d e : DeskState) (dropped : List (ObjectName × ℕ)) → Change c turn p d e dropped → EachOf Of d.cache.pages → EachOf Of e.cache.pages
    change-pages d e dropped (Change.uses task count r does work there ends) each = each-used d.cache.pages task.uid (page_of task) each
    change-pages d e dropped (Change.stores task bytes r does work there ends) each = each-changed (written _ bytes) (λ r is. is) task.uid (page_of task) (used d.cache.pages task.uid (page_of task)) (each-used d.cache.pages task.uid (page_of task) each)
    change-pages d e dropped (Change.drops task u k does missing full may asks) each = each-filter (λ r. not (is_page u k r)) d.cache.pages each
    change-pages d e dropped (Change.evicts task r does missing full clean there dirty calm asks) each = each-changed as_sent (λ r is. is) r.uid r.page d.cache.pages each
    change-pages d e dropped (Change.arrives task stamp bytes reply given fetches seen whole ends) each = (comes d task stamp bytes given fetches.allowed.range, each)
    change-pages d e dropped (Change.settles_room task r taken given room) each = each-changed (settled taken) (λ r is. is) r.uid r.page d.cache.pages each
    change-pages d e dropped (Change.sends_again task r stamp given room asks) each = each-changed as_sent (λ r is. is) r.uid r.page d.cache.pages each
    change-pages d e dropped (Change.sends delete u k r releasing calm found there dirty asks) each = each-changed as_sent (λ r is. is) u k d.cache.pages each
    change-pages d e dropped (Change.page_settles u k r taken given closed sends writes keeping) each = each-settled (moving_of d p) taken d.cache.pages each
    change-pages d e dropped (Change.drops_all u a given object may none) each = each-filter (λ r. not (is_of u r)) d.cache.pages each
    change-pages d e dropped change each = each

    pub moves-pages : (d e : DeskState) (dropped : List (ObjectName × ℕ)) → DeskMoves c turn p d e dropped → EachOf Of d.cache.pages → EachOf Of e.cache.pages
    moves-pages d e dropped DeskMoves.none each = each
    moves-pages d e dropped (DeskMoves.next {e = f} before change) each = change-pages f e [] change (moves-pages d f dropped before each)
    moves-pages d e dropped (DeskMoves.dropping {e = f} before change) each = change-pages f e dropped change (moves-pages d f [] before each)
