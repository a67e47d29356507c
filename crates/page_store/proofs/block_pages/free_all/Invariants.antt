use Rattle.std.proofs.Common.{◌≡◌, ◌≢◌, ℕ}
use Rattle.std.specs.Prelude.{All, Some, nat_eq}
use Rattle.std.specs.HashMap.{get}
use Rattle.page_store.specs.declared.blocks.Place.{Place}
use Rattle.page_store.specs.Stored.{stored_in}
use Rattle.page_store.proofs.block_pages.free_all.Given as goal

abbrev pub invariant-loop-place : goal.invariant-loop-place
invariant-loop-place l =
    record {
      left : All (λ e. get nat_eq l.pages e.0 ≡ Some e.1) l.place-iterator;
      others : (place : Place) → ((page : ℕ) → get nat_eq l.pages page ≢ Some place) → stored_in l.blocks.blocks.items place ≡ stored_in l.initial.blocks.blocks.items place;
    }
