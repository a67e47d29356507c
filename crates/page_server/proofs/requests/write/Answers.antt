use Rattle.std.proofs.Common.{arith}
use Rattle.page_server.proofs.Stamps.{stamp-attr_of}
use Rattle.page_server.proofs.requests.write.Goals as goal

pub page_out-requires : goal.page_out-requires
page_out-requires g c attr is = omega (arith, stamp-attr_of _ c.args.home.now c.in-PageOut.uid attr c.requires.stamps is)

pub attr_out-requires : goal.attr_out-requires
attr_out-requires g c attr is = omega (arith, stamp-attr_of _ c.args.home.now c.in-AttrOut.uid attr c.requires.stamps is)
