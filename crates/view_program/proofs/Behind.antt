-- What stands behind the line that parts is no longer than the whole.
use Rattle.std.proofs.Common.{◌≡◌, ◌≤◌, ◌+◌, ℕ, List, length, length-drop, arith, ap}
use Rattle.script_runner.specs.Parted.{IsParted, parting}

pub behind_is_few : (bytes front behind : List ℕ) (limit : ℕ) → IsParted bytes front behind → length bytes ≤ limit → length behind ≤ limit
behind_is_few bytes front behind limit parted few =
    let e = ap length parted.behind_is in
    omega (arith, e, length-drop (parted.at + length parting + 1) bytes, few)
