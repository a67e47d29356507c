-- The conditions of a desk's calls.
use Rattle.std.specs.Prelude.{◌≡◌, ◌≢◌, ℕ, nat_lt, Bool, true, false, ◌&&◌, is_none, Option, Some, None, [], ◌∷◌}
use Rattle.uid_names.specs.Names.{ProcName, ObjectName}
use Rattle.dom_history.specs.Locks.{is_held}
use Rattle.fault_handler.specs.declared.open_call.OpenCall.{OpenCall}
use Rattle.fault_handler.specs.declared.open_call.OpenCall.TheVariants.{Access}
use Rattle.fault_handler.specs.Entries.{keeps, keeps_all}
use Rattle.fault_handler.specs.Desks.{DeskState, state_of, entry_at, entries_of, open_call_of, moving_of, base_of}
use Rattle.fault_handler.specs.Accesses.{DeskOp}
use Rattle.fault_handler.specs.PageReplies.{PageAnswer}

-- a process of the desk's node
abbrev pub IsOf : DeskState → ProcName → Type 0
IsOf d p = p.node ≡ d.node

-- a process that may begin an operation or go on with one: no call of it is open, it moves no page, and it keeps
-- each object on which it is Held
pub record IsIdle (d : DeskState) (p : ℕ) : Type 0 where
  pub no_call : open_call_of d p ≡ None
  pub no_page : moving_of d p ≡ None
  pub keeping : (u : ObjectName) → is_held (state_of d p u) ≡ true → keeps (entry_at d.entries p u) ≡ true

-- the same as a test
abbrev pub is_idle : DeskState → ℕ → Bool
is_idle d p = is_none (open_call_of d p) && (is_none (moving_of d p) && keeps_all (entries_of d p))

-- an access that may want memory
abbrev pub MayWant : DeskOp → Type 0
MayWant (DeskOp.Loads spot count) = Unit {0}
MayWant (DeskOp.Stores spot bytes) = Unit {0}
MayWant (DeskOp.Measures u) = ⊥
MayWant (DeskOp.Maps u) = ⊥
MayWant (DeskOp.Unmaps u) = ⊥

-- an answer to a load or store at which it may want memory: a page comes that is not an old one, or it answers the page
-- that makes room
abbrev pub MayWantAt : DeskState → PageAnswer → Type 0
MayWantAt d (PageAnswer.Came task stamp bytes) = nat_lt stamp (base_of d.seen task.uid) ≡ false
MayWantAt d (PageAnswer.Taken task r stamp) = Unit {0}
MayWantAt d (PageAnswer.NotTaken task r stamp) = Unit {0}

-- the open call of the process is that of a load or store
abbrev pub IsAccessing : DeskState → ℕ → Type 0
IsAccessing d p = open_call_of d p ≡ Some Access

-- it is not
abbrev pub IsNotAccessing : DeskState → ℕ → Type 0
IsNotAccessing d p = open_call_of d p ≢ Some Access

-- a desk without pages, locks and mappings
abbrev pub empty_desk : ℕ → ℕ → ℕ → DeskState
empty_desk node nodes frames =
    record {
      node = node;
      nodes = nodes;
      cache = record { frames = frames; reserved = 0; pages = [] };
      seen = [];
      known = [];
      entries = [] ∷ [] ∷ [] ∷ [] ∷ [];
      maps = [] ∷ [] ∷ [] ∷ [] ∷ [];
      calls = None ∷ None ∷ None ∷ None ∷ [];
      tasks = None ∷ None ∷ None ∷ None ∷ [];
      moving = None ∷ None ∷ None ∷ None ∷ [];
    }

-- the grant, where the state is Held
abbrev pub held_grant : Bool → ℕ → Option ℕ
held_grant true grant = Some grant
held_grant false grant = None

-- the call is not that of a load or store
abbrev pub IsOther : Option OpenCall → Type 0
IsOther call = call ≢ Some Access
