use Rattle.std.proofs.Common.{◌<◌, length, arith}
use Rattle.page_frames.proofs.PoolLemmas.{ContainsKey-taken, bytes-fields}
use Rattle.page_frames.proofs.pool.Frames.bytes.Goals as goal

pub index-requires : goal.index-requires
index-requires c =
    let within : c.frame.inside.key < length c.self.inside.pages.items = c.self.invariant.keys c.frame.inside.key (ContainsKey-taken c.self.inside.count c.self.inside.numbers c.self.inside.pages.items c.args.self.now c.self.view_is c.frame.inside.key c.args.frame c.frame.view_is c.requires) in
    omega arith

pub returns : goal.returns
returns c =
    let within : c.frame.inside.key < length c.self.inside.pages.items = c.self.invariant.keys c.frame.inside.key (ContainsKey-taken c.self.inside.count c.self.inside.numbers c.self.inside.pages.items c.args.self.now c.self.view_is c.frame.inside.key c.args.frame c.frame.view_is c.requires) in
    bytes-fields c.self.inside.count c.self.inside.numbers c.self.inside.pages.items c.args.self.now c.self.view_is c.frame.inside.key c.args.frame c.index.result.now c.frame.view_is c.requires within c.index.ensures
