use Rattle.std.proofs.Common.{◌≡◌, ◌<◌, true, length, arith}
use Rattle.std.specs.Prelude.{None}
use Rattle.uid_names.specs.declared.limits.TheConstants.{PROCESS_MAPPINGS}
use Rattle.address_map.specs.Mappings.{mapping_of}
use Rattle.address_map.specs.Runs.{is_free_run}
use Rattle.address_map.proofs.Keeps.{IsLayout-push}
use Rattle.address_map.proofs.map.AddressMap.map.Goals as goal

-- a mapping was made in a free run
pub invariant_of-self : goal.invariant_of-self
invariant_of-self c =
    let mappings = c.self.inside.mappings.items in
    let fewer : length mappings < PROCESS_MAPPINGS = omega arith in
    let none : mapping_of c.args.uid mappings ≡ None = rw (← c.deref.ensures.value, ← c.mapping_of.ensures) c.in_default.is in
    let free : is_free_run c.segments-segments.result c.in-Some-lowest_run.first mappings ≡ true = rw c.deref-2.ensures.value at c.in-Some-lowest_run.ensures.free in
    let kept = IsLayout-push mappings (record { uid = c.args.uid; first = c.in-Some-lowest_run.first; segments = c.segments-segments.result }) c.self.invariant.0 fewer c.segments-segments.ensures.some none free in
    (rw c.in-Ok.ensures.items kept, omega (arith, c.self.invariant.1, c.in-Ok.ensures.capacity))
