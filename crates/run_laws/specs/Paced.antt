-- Programs that come to their end within the phases of a set-up.
use Rattle.std.specs.Prelude.{◌≡◌, ℕ, ◌<◌, Bool, false, ◌&&◌, List, []}
use Rattle.uid_names.specs.Names.{ProcName}
use Rattle.dom_history.specs.declared.op.Entry.{Entry}
use Rattle.dom_history.specs.declared.op.Want.{Want}
use Rattle.dom_history.specs.declared.op.Want.TheVariants.{Phase, Done}
use Rattle.dom_history.specs.Follows.{Heard, Reaches}
use Rattle.dom_history.specs.Objects.{is_node}
use Rattle.node_runs.specs.Setups.{Setup, given}
use Rattle.node_runs.specs.Incomings.{has_program}

-- the process is of a node, and has a program there
abbrev pub is_driven : Setup → ProcName → Bool
is_driven s p = is_node s.opening p.node && has_program (given s p.node) p.number

-- a program wants no phase behind the last one
abbrev pub IsPacedTo : (Heard → Want) → ℕ → Type 0
IsPacedTo ask last = (told : List Entry) (heard : Heard) (phase : ℕ) → Reaches ask told heard phase → ask heard ≡ Phase → phase < last

-- so it is with each program, and a process without a program wants nothing
pub record ArePaced (s : Setup) : Type 0 where
  pub phases : (p : ProcName) → IsPacedTo (s.asks p) s.phases
  pub absent : (p : ProcName) → is_driven s p ≡ false → s.asks p [] ≡ Done
