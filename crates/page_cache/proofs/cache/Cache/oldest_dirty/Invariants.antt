use Rattle.std.proofs.Common.{◌≡◌, map}
use Rattle.page_cache.specs.Victims.{oldest, is_dirty_choice}
use Rattle.page_cache.specs.Insides.{seen}
use Rattle.page_cache.proofs.CacheLemmas.{AreTaken}
use Rattle.page_cache.proofs.cache.Cache.oldest_dirty.Given as goal

abbrev pub invariant-loop-name : goal.invariant-loop-name
invariant-loop-name l =
    let rest = l.name-iterator.iter in
    record {
      taken : AreTaken l.self-inside.pool rest;
      left : oldest is_dirty_choice (map (seen l.self-inside.pool) l.self-inside.order.entries) ≡ oldest is_dirty_choice (map (seen l.self-inside.pool) rest);
    }
