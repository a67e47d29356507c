-- A page that is resident and in transit goes home.
use Rattle.std.proofs.Common.{◌≡◌, ℕ, Bool, true, false, Option, Some, None, IsSome, refl}
use Rattle.uid_names.specs.Names.{ObjectName}
use Rattle.uid_names.proofs.ListLemmas.{none_is_no_some}
use Rattle.page_cache.specs.Caches.{page_at}
use Rattle.fault_handler.specs.declared.transits.Transit.{Transit}
use Rattle.fault_handler.specs.Transits.{is_moving, going}
use Rattle.fault_handler.specs.Desks.{DeskState, at, moving_of, is_in_transit_there}
use Rattle.fault_handler.specs.Invariant.{IsProc, FitsWay, FitsTransit, IsDesk}
use Rattle.fault_handler.proofs.Fours.{any-of}
use Rattle.fault_handler.proofs.MovingOthers.{moving-uid, moving-page, FitsWay-named}

module _ (d : DeskState) (is : IsDesk d) (u : ObjectName) (k : ℕ) (there : IsSome (page_at d.cache.pages u k)) where
  outward : (q : ℕ) (t : Option Transit) → FitsTransit d.cache.pages d.entries q t → is_moving u k t ≡ true → t ≡ going u k
  outward q None fits moves = absurd (cc)
  outward q (Some t) fits moves = by_way t.inward refl (FitsWay-named d.cache.pages d.entries q u k t moves fits)
    where
      by_way : (b : Bool) → t.inward ≡ b → FitsWay b d.cache.pages d.entries q u k → Some t ≡ going u k
      by_way true way comes = absurd (none_is_no_some (page_at d.cache.pages u k) there comes.0)
      by_way false way goes = λ i. Some (record { uid = moving-uid u k t moves i; page = moving-page u k t moves i; inward = way i })

  pub goes-home : is_in_transit_there d.moving u k ≡ true → (q : ℕ) × IsProc q × (moving_of d q ≡ going u k)
  goes-home transit =
      let found = any-of (λ q. is_moving u k (at d.moving q None)) transit in
      (found.0, found.1, outward found.0 (moving_of d found.0) (is.moved.each found.0 found.1) found.2)
