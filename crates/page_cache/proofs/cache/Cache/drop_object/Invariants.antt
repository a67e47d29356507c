use Rattle.std.proofs.Common.{◌≡◌, length}
use Rattle.page_cache.specs.Changes.{without_object}
use Rattle.page_cache.proofs.cache.Cache.drop_object.Given as goal

abbrev pub invariant-loop-page : goal.invariant-loop-page
invariant-loop-page l = record {
  frames : l.self.frames ≡ l.initial.self.frames;
  reserved : l.self.reserved ≡ l.initial.self.reserved;
  pages : without_object l.self.pages l.uid ≡ without_object l.initial.self.pages l.uid;
}

abbrev pub decreases-loop-page : goal.decreases-loop-page
decreases-loop-page l = length l.self.pages
