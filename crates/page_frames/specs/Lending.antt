-- How a write to a frame's bytes comes back to the pool.
use Rattle.std.specs.Prelude.{ℕ, List}
use Rattle.std.specs.Borrow.{Lends, MutBor, Fml, Array, u8}
use Rattle.page_frames.specs.declared.frame.TheConstants.{PAGE_BYTES}
use Rattle.page_frames.specs.Pools.{Pool, with_bytes}
use Rattle.page_frames.specs.contracts.pool.Frames.{the_row}

-- the pool ends with this frame holding the last bytes behind r
abbrev pub LendsBytes : MutBor Pool → ℕ → MutBor (List ℕ) → Fml
LendsBytes p number r = Lends the_row (Array u8 PAGE_BYTES) p r (with_bytes p.now number)
