-- What an event of a node makes of the order of its cache's pages: the page that it uses comes to the front, and the others stay in their order.
use Rattle.std.proofs.Common.{◌≡◌, ℕ, Bool, List, [], Option, Some, None, refl, sym, subst}
use Rattle.std.specs.Prelude.{not}
use Rattle.uid_names.specs.Names.{same_uid}
use Rattle.page_cache.specs.Caches.{Resident}
use Rattle.page_cache.specs.Changes.{without_page}
use Rattle.fault_handler.specs.declared.transits.Transit.{Transit}
use Rattle.fault_handler.specs.declared.tasks.Task.{Task}
use Rattle.fault_handler.specs.Desks.{DeskState, moving_of}
use Rattle.fault_handler.specs.Outcomes.{Turn}
use Rattle.fault_handler.specs.Changes.{settled_by}
use Rattle.lock_validate.specs.Causes.{Cause}
use Rattle.lock_validate.specs.Loading.{IsTaskIn}
use Rattle.lock_validate.specs.DeskMoves.{Change, DeskMoves}
use Rattle.recent_runs.specs.Uses.{PageName}
use Rattle.recent_runs.proofs.Orders.{apart}
use Rattle.recent_runs.proofs.PageNames.{names, Kept, kept-same, kept-fewer, sent-names, settled-names, without-names, objectless-names}

-- no load or store is done by it
abbrev pub UsesNone : Cause → Type 0
UsesNone c = (p : ℕ) (d : DeskState) (task : Task) → IsTaskIn d p c task → ⊥

settled_by-names : (t : Option Transit) (taken : Bool) (pages : List Resident) → names (settled_by t taken pages) ≡ names pages
settled_by-names None taken pages = refl
settled_by-names (Some t) taken pages = settled-names t.uid t.page taken pages

module _ (c : Cause) (none : UsesNone c) (turn : Turn) (p : ℕ) where
  change-kept : (d e : DeskState) (dropped : List PageName) → Change c turn p d e dropped → Kept None d.cache.pages e.cache.pages
  change-kept d e dropped (Change.uses task count r does load there ends) = absurd (none p d task does.given)
  change-kept d e dropped (Change.stores task bytes r does store there ends) = absurd (none p d task does.given)
  change-kept d e dropped (Change.arrives task stamp bytes reply is fetches seen long ends) = absurd (none p d task (subst (λ x. IsTaskIn d p x task) (sym is) refl))
  change-kept d e dropped (Change.drops task u k does missing full idle asks) = kept-fewer d.cache.pages (without_page d.cache.pages u k) (apart (u, k)) (without-names d.cache.pages u k)
  change-kept d e dropped (Change.evicts task r does missing full no_clean there dirty still asks) = kept-same d.cache.pages e.cache.pages (sent-names r.uid r.page d.cache.pages)
  change-kept d e dropped (Change.settles_room task r taken answer makes) = kept-same d.cache.pages e.cache.pages (settled-names r.uid r.page taken d.cache.pages)
  change-kept d e dropped (Change.sends_again task r stamp is makes asks) = kept-same d.cache.pages e.cache.pages (sent-names r.uid r.page d.cache.pages)
  change-kept d e dropped (Change.sends delete u k r releasing others dirty_one there dirty asks) = kept-same d.cache.pages e.cache.pages (sent-names u k d.cache.pages)
  change-kept d e dropped (Change.page_settles u k r taken is closed sends writes keeps) = kept-same d.cache.pages e.cache.pages (settled_by-names (moving_of d p) taken d.cache.pages)
  change-kept d e dropped (Change.drops_all u a is outdated may unkept) = kept-fewer d.cache.pages e.cache.pages (λ n. not (same_uid n.0 u)) (objectless-names d.cache.pages u)
  change-kept d e dropped change = λ used are. are

  pub moves-kept : (d e : DeskState) (dropped : List PageName) → DeskMoves c turn p d e dropped → Kept None d.cache.pages e.cache.pages
  moves-kept d e dropped DeskMoves.none used are = are
  moves-kept d e dropped (DeskMoves.next {e = m} before change) used are = change-kept m e [] change used (moves-kept d m dropped before used are)
  moves-kept d e dropped (DeskMoves.dropping {e = m} before change) used are = change-kept m e dropped change used (moves-kept d m [] before used are)
