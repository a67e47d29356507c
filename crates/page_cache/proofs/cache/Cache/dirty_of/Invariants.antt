use Rattle.std.proofs.Common.{◌≡◌, map, filter}
use Rattle.page_frames.specs.Pools.{frame_in}
use Rattle.page_cache.specs.Numbers.{dirty_page, least}
use Rattle.page_cache.specs.Insides.{seen}
use Rattle.page_cache.proofs.CacheLemmas.{AreTaken}
use Rattle.page_cache.proofs.NumberLemmas.{IsFrom}
use Rattle.page_cache.proofs.IndexLemmas.{page_of}
use Rattle.page_cache.proofs.cache.Cache.dirty_of.Given as goal

abbrev pub invariant-loop-name : goal.invariant-loop-name
invariant-loop-name l =
    let rest = l.name-iterator in
    record {
      taken : AreTaken l.self-inside.pool rest;
      rising : IsFrom 0 (map page_of rest);
      left : dirty_page (map (seen l.self-inside.pool) l.self-inside.order.entries) l.fn.uid ≡ least (map page_of (filter (λ s. (frame_in l.self-inside.pool s.1).flags.dirty) rest));
    }
