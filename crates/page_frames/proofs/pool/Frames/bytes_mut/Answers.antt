use Rattle.std.proofs.Common.{◌<◌, length, arith, refl}
use Rattle.page_frames.proofs.PoolLemmas.{ContainsKey-taken, bytes-fields, pool_of-bytes}
use Rattle.page_frames.proofs.pool.Frames.bytes_mut.Goals as goal

pub index_mut-requires : goal.index_mut-requires
index_mut-requires c =
    let within : c.frame.inside.key < length c.self.inside.pages.items = c.self.invariant.keys c.frame.inside.key (ContainsKey-taken c.self.inside.count c.self.inside.numbers c.self.inside.pages.items c.args.self.now c.self.view_is c.frame.inside.key c.args.frame c.frame.view_is c.requires) in
    omega arith

pub returns : goal.returns
returns c =
    let within : c.frame.inside.key < length c.self.inside.pages.items = c.self.invariant.keys c.frame.inside.key (ContainsKey-taken c.self.inside.count c.self.inside.numbers c.self.inside.pages.items c.args.self.now c.self.view_is c.frame.inside.key c.args.frame c.frame.view_is c.requires) in (
      (refl, λ bytes. pool_of-bytes c.self.inside.count c.self.inside.numbers c.self.inside.pages.items c.args.self.now c.self.view_is c.frame.inside.key c.args.frame bytes c.frame.view_is c.requires within),
      record {
        writes_back = tt;
        value = bytes-fields c.self.inside.count c.self.inside.numbers c.self.inside.pages.items c.args.self.now c.self.view_is c.frame.inside.key c.args.frame c.index_mut.result.now c.frame.view_is c.requires within c.index_mut.ensures.value;
      },
    )
