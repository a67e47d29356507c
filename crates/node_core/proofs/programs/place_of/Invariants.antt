use Rattle.std.proofs.Common.{◌≡◌, ℕ, ◌+◌, ◌≤◌, length, drop}
use Rattle.node_core.specs.Programs.{program_in, IsFirstAt}
use Rattle.node_core.proofs.programs.place_of.Given as goal

-- the first program of the process stands behind what was seen
abbrev pub invariant-loop-i : goal.invariant-loop-i
invariant-loop-i g l =
    record {
      behind : (k : ℕ) → IsFirstAt (drop l.i l.programs) l.proc k → IsFirstAt l.programs l.proc (l.i + k);
      same : program_in l.programs l.proc ≡ program_in (drop l.i l.programs) l.proc;
      most : l.i ≤ length l.programs;
    }
