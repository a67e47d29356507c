use Rattle.std.proofs.Common.{ap, sym}
use Rattle.ring_messages.specs.Bodies.{kind_of}
use Rattle.ring_messages.proofs.body.Body.kind.Goals as goal

pub returns-in-PageIn : goal.returns-in-PageIn
returns-in-PageIn c = ap kind_of (sym c.in-PageIn.is)

pub returns-in-PageOut : goal.returns-in-PageOut
returns-in-PageOut c = ap kind_of (sym c.in-PageOut.is)

pub returns-in-AttrOut : goal.returns-in-AttrOut
returns-in-AttrOut c = ap kind_of (sym c.in-AttrOut.is)

pub returns-in-Lock : goal.returns-in-Lock
returns-in-Lock c = ap kind_of (sym c.in-Lock.is)

pub returns-in-Unlock : goal.returns-in-Unlock
returns-in-Unlock c = ap kind_of (sym c.in-Unlock.is)

pub returns-in-Remove : goal.returns-in-Remove
returns-in-Remove c = ap kind_of (sym c.in-Remove.is)

pub returns-in-Make : goal.returns-in-Make
returns-in-Make c = ap kind_of (sym c.in-Make.is)

pub returns-in-List : goal.returns-in-List
returns-in-List c = ap kind_of (sym c.in-List.is)

pub returns-in-Page : goal.returns-in-Page
returns-in-Page c = ap kind_of (sym c.in-Page.is)

pub returns-in-Stored : goal.returns-in-Stored
returns-in-Stored c = ap kind_of (sym c.in-Stored.is)

pub returns-in-Stale : goal.returns-in-Stale
returns-in-Stale c = ap kind_of (sym c.in-Stale.is)

pub returns-in-NoGrant : goal.returns-in-NoGrant
returns-in-NoGrant c = ap kind_of (sym c.in-NoGrant.is)

pub returns-in-NoObject : goal.returns-in-NoObject
returns-in-NoObject c = ap kind_of (sym c.in-NoObject.is)

pub returns-in-Granted : goal.returns-in-Granted
returns-in-Granted c = ap kind_of (sym c.in-Granted.is)

pub returns-in-Conflict : goal.returns-in-Conflict
returns-in-Conflict c = ap kind_of (sym c.in-Conflict.is)

pub returns-in-Done : goal.returns-in-Done
returns-in-Done c = ap kind_of (sym c.in-Done.is)

pub returns-in-Made : goal.returns-in-Made
returns-in-Made c = ap kind_of (sym c.in-Made.is)

pub returns-in-NoSpace : goal.returns-in-NoSpace
returns-in-NoSpace c = ap kind_of (sym c.in-NoSpace.is)

pub returns-in-Listed : goal.returns-in-Listed
returns-in-Listed c = ap kind_of (sym c.in-Listed.is)
