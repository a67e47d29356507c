-- How a pool is stored as numbers: each record as the tuple of its fields.
use Rattle.std.specs.Prelude.{ℕ, Bool, List, refl}
use Rattle.std.specs.Ordering.{nat_cmp}
use Rattle.std.specs.FinMap as map
use Rattle.std.specs.Coded.{Coded, code_by, coded×, coded_ℕ, coded_bool, coded_list}
use Rattle.page_frames.specs.declared.frame.Flags.{Flags}
use Rattle.page_frames.specs.Pools.{Frame, Pool}

-- three flags
abbrev pub flags_code : Coded Flags
flags_code =
    code_by
    (Bool × (Bool × Bool))
    (coded× coded_bool (coded× coded_bool coded_bool))
    (λ f. (f.dirty, (f.sent, f.transit)))
    (λ p. record { dirty = p.0; sent = p.1.0; transit = p.1.1 })
    (λ _. refl)

-- bytes and flags
abbrev pub frame_code : Coded Frame
frame_code =
    code_by (List ℕ × Flags) (coded× (coded_list coded_ℕ) flags_code) (λ f. (f.bytes, f.flags)) (λ p. record { bytes = p.0; flags = p.1 }) (λ _. refl)

-- the size, and the map of the taken frames
abbrev pub pool_code : Coded Pool
pool_code =
    code_by
    (ℕ × map.FinMap nat_cmp Frame)
    (coded× coded_ℕ (map.code coded_ℕ frame_code))
    (λ p. (p.count, p.taken))
    (λ x. record { count = x.0; taken = x.1 })
    (λ _. refl)
