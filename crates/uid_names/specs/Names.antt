-- What contracts see of the name of a process and of an object.
use Rattle.std.specs.Prelude.{ℕ, Bool, ◌==◌, ◌&&◌, ◌||◌, nat_lt, ◌≤◌, ◌<◌, ◌+◌, ◌-◌, ◌*◌, ◌^◌}
use Rattle.uid_names.specs.declared.limits.TheConstants.{MAX_NODES, NODE_PROCESSES}

-- a process: its node, and its number there
pub record ProcName : Type 0 where
  pub node : ℕ
  pub number : ℕ

-- the number of a node, and that of a process at its node
abbrev pub IsNodeNumber : ℕ → Type 0
IsNodeNumber n = (1 ≤ n) × (n ≤ MAX_NODES)

abbrev pub IsProcNumber : ℕ → Type 0
IsProcNumber n = (1 ≤ n) × (n ≤ NODE_PROCESSES)

-- the ranges of a process's name
pub record IsProcName (p : ProcName) : Type 0 where
  pub node : IsNodeNumber p.node
  pub number : IsProcNumber p.number

-- an object: the number that its home's counter gave, and its home
pub record ObjectName : Type 0 where
  pub counter : ℕ
  pub home : ℕ

-- what has given names at a node: how many it gave
pub record Given : Type 0 where
  pub node : ℕ
  pub count : ℕ

-- the ranges of an object's name: 44 bits of counter, and a node as its home
pub record IsName (u : ObjectName) : Type 0 where
  pub counter_low : 1 ≤ u.counter
  pub counter_high : u.counter < 2 ^ 44
  pub home_low : 1 ≤ u.home
  pub home_high : u.home ≤ 8

-- the 64 bits of a name: the counter in the 44 high ones, the home in the 20 low ones
abbrev pub number_of : ObjectName → ℕ
number_of u = u.counter * 2 ^ 20 + u.home

-- the place of a process among all: by node, and then by number, from 0
abbrev pub place_of_process : ProcName → ℕ
place_of_process p = (p.node - 1) * NODE_PROCESSES + (p.number - 1)

abbrev pub same_proc : ProcName → ProcName → Bool
same_proc p q = (p.node == q.node) && (p.number == q.number)

abbrev pub same_uid : ObjectName → ObjectName → Bool
same_uid u v = (u.counter == v.counter) && (u.home == v.home)

-- the order of processes: by node, then by number
abbrev pub proc_lt : ProcName → ProcName → Bool
proc_lt p q = nat_lt p.node q.node || ((p.node == q.node) && nat_lt p.number q.number)

-- the order of objects: by counter, then by home, which is the order of their numbers
abbrev pub uid_lt : ObjectName → ObjectName → Bool
uid_lt u v = nat_lt u.counter v.counter || ((u.counter == v.counter) && nat_lt u.home v.home)
