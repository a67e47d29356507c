-- Frames of version 2 can carry each body.
use Rattle.std.proofs.Common.{ℕ, sym, subst, arith}
use Rattle.uid_names.specs.Wires.{wire_room}
use Rattle.uid_names.specs.declared.limits.TheConstants.{MAX_ROOM}
use Rattle.uid_names.proofs.Wires.{second-writes-all}
use Rattle.ring_messages.specs.declared.body.Body.{Body}
use Rattle.ring_messages.specs.declared.body.Body.TheVariants as bodies
use Rattle.ring_messages.specs.Ranges.{IsBody, LiesWithin}

lies-all : (to : ℕ) (body : Body) → IsBody to body → LiesWithin MAX_ROOM body
lies-all to (bodies.PageIn u page) is = is.1
lies-all to (bodies.PageOut u page grant base bytes) is = is.1
lies-all to (bodies.AttrOut u n grant base) is = let long = is.1 in omega (arith, long)
lies-all to (bodies.Lock u m) is = tt
lies-all to (bodies.Unlock u) is = tt
lies-all to (bodies.Remove u) is = tt
lies-all to (bodies.Make kind room) is = is.1
lies-all to (bodies.List after) is = tt
lies-all to (bodies.Page stamp bytes) is = tt
lies-all to (bodies.Stored stamp) is = tt
lies-all to (bodies.Stale stamp) is = tt
lies-all to bodies.NoGrant is = tt
lies-all to bodies.NoObject is = tt
lies-all to (bodies.Granted grant stamp kind room n) is = let long = is.3 in (is.2.1, omega (arith, long))
lies-all to (bodies.Conflict p m) is = tt
lies-all to bodies.Done is = tt
lies-all to (bodies.Made u) is = tt
lies-all to bodies.NoSpace is = tt
lies-all to (bodies.Listed rows more) is = tt

pub second-carries : (to : ℕ) (body : Body) → IsBody to body → LiesWithin (wire_room 2) body
second-carries to body is = subst (λ room. LiesWithin room body) (sym second-writes-all) (lies-all to body is)
