-- What the nodes are given.
use Rattle.std.specs.Prelude.{ℕ, ◌-◌, ◌≡◌, ◌≤◌, ◌≢◌, List, [], length, All, AllPairs, slice_index_or}
use Rattle.uid_names.specs.Names.{ProcName}
use Rattle.uid_names.specs.Openings.{Start, IsStart}
use Rattle.uid_names.specs.Beginnings.{CanBegin}
use Rattle.uid_names.specs.Wires.{IsWire, wire_room}
use Rattle.dom_history.specs.declared.op.Want.{Want}
use Rattle.dom_history.specs.Follows.{Heard}
use Rattle.page_frames.specs.declared.frame.TheConstants.{FEWEST_FRAMES, MOST_FRAMES}
use Rattle.fault_handler.specs.Invariant.{IsProc}
use Rattle.node_runs.specs.Told.{AreWantsInRange}

-- what all nodes are given: the opening, the version of the frames that they send each other, the page frames of each node,
-- the number of phases, the processes of each node that have a program, and what each program wants once it has heard this.
-- The lists begin with node 1
pub record Setup : Type 0 where
  pub opening : Start
  pub wire : ℕ
  pub frames : List ℕ
  pub phases : ℕ
  pub programs : List (List ℕ)
  pub asks : ProcName → Heard → Want

-- what one node is given
pub record Given : Type 0 where
  pub number : ℕ
  pub opening : Start
  pub wire : ℕ
  pub frames : ℕ
  pub phases : ℕ
  pub programs : List ℕ
  pub asks : ℕ → Heard → Want

abbrev pub given : Setup → ℕ → Given
given s n =
    record {
      number = n;
      opening = s.opening;
      wire = s.wire;
      frames = slice_index_or s.frames (n - 1) 0;
      phases = s.phases;
      programs = slice_index_or s.programs (n - 1) [];
      asks = λ p. s.asks (record { node = n; number = p });
    }

-- the processes are 1 to 4, each once
pub record ArePrograms (programs : List ℕ) : Type 0 where
  pub each : All IsProc programs
  pub once : AllPairs (λ p q. p ≢ q) programs

-- a node has 5 to 256 frames
pub record IsFrames (frames : ℕ) : Type 0 where
  pub few : FEWEST_FRAMES ≤ frames
  pub many : frames ≤ MOST_FRAMES

-- the wants of a node's programs are in their ranges, where they were told what fits, and of no object but real ones
abbrev pub AreWants : Given → Type 0
AreWants g = (p : ℕ) → AreWantsInRange (g.asks p)

-- a version, and an opening all whose rooms it can write
pub record FitsWire (wire : ℕ) (opening : Start) : Type 0 where
  pub version : IsWire wire
  pub rooms : opening.greatest ≤ wire_room wire

-- the conditions on what one node is given
pub record IsGiven (g : Given) : Type 0 where
  pub start : IsStart g.opening
  pub begins : CanBegin g.opening
  pub wire : FitsWire g.wire g.opening
  pub frames : IsFrames g.frames
  pub programs : ArePrograms g.programs
  pub wants : AreWants g

-- the conditions on what all are given
pub record IsSetup (s : Setup) : Type 0 where
  pub start : IsStart s.opening
  pub begins : CanBegin s.opening
  pub wire : FitsWire s.wire s.opening
  pub frames : All IsFrames s.frames
  pub all_frames : length s.frames ≡ s.opening.nodes
  pub phases_low : 1 ≤ s.phases
  pub phases_high : s.phases ≤ 1000
  pub programs : All ArePrograms s.programs
  pub all_programs : length s.programs ≡ s.opening.nodes
  pub wants : (p : ProcName) → AreWantsInRange (s.asks p)
