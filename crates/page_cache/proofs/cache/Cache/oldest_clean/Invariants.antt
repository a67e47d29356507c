use Rattle.std.proofs.Common.{◌≡◌, map}
use Rattle.page_cache.specs.Victims.{oldest, is_clean_choice}
use Rattle.page_cache.specs.Insides.{seen, clean_count}
use Rattle.page_cache.proofs.CacheLemmas.{AreTaken}
use Rattle.page_cache.proofs.cache.Cache.oldest_clean.Given as goal

abbrev pub invariant-loop-new : goal.invariant-loop-new
invariant-loop-new l =
    let pool = l.self-inside.pool in
    let newer = l.new-iterator.a in
    let older = l.new-iterator.b.iter in
    record {
      newer_taken : AreTaken pool newer;
      older_taken : AreTaken pool older;
      in_newer : oldest is_clean_choice (map (seen pool) l.self-inside.order.entries) ≡ oldest is_clean_choice (map (seen pool) newer);
      in_older : oldest is_clean_choice (map (seen pool) l.self-inside.order.entries) ≡ oldest is_clean_choice (map (seen pool) older);
      unseen : l.unseen ≡ clean_count pool newer;
    }
