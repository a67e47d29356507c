use Rattle.page_cache.proofs.CacheLemmas.{same_cache}
use Rattle.fault_handler.proofs.Shown.{IsFrame-bytes, written-in}
use Rattle.fault_handler.proofs.pages.write.Goals as goal

pub set_flags-requires : goal.set_flags-requires
set_flags-requires c = rw c.write.ensures (IsFrame-bytes c.args.cache.now.pages c.args.frame c.args.start c.args.bytes.now c.requires.frame)

pub returns : goal.returns
returns c = rw (c.set_flags.ensures, c.write.ensures) (same_cache _ _ _ _ (written-in c.args.cache.now c.requires.sound c.args.frame c.args.start c.args.bytes.now c.flags-flags.result c.flags-flags.ensures))
