-- Runs of one node with five frames, in which room is made for a sixth page: by a clean page that is dropped, whichever,
-- or where all are dirty by the one used longest ago, which is sent home first.
use Rattle.std.specs.Prelude.{ℕ, ◌+◌, ◌*◌, List, [], ◌∷◌, ◌++◌, length, map, None}
use Rattle.uid_names.specs.Names.{ObjectName}
use Rattle.uid_names.specs.declared.limits.TheConstants.{PAGE_BYTES, MAX_ROOM}
use Rattle.uid_names.specs.declared.mode.Mode.TheVariants.{Write}
use Rattle.uid_names.specs.declared.mode.ObjKind.TheVariants.{File}
use Rattle.uid_names.specs.declared.frame_kind.FrameKind.TheVariants as kinds
use Rattle.dom_history.specs.declared.op.Spot.{Spot}
use Rattle.dom_history.specs.declared.op.Spot.TheVariants.{Of}
use Rattle.dom_history.specs.declared.op.Op.{Op}
use Rattle.dom_history.specs.declared.op.Op.TheVariants.{Lock, Load, Store}
use Rattle.dom_history.specs.declared.op.Want.TheVariants.{Do}
use Rattle.dom_history.specs.declared.event.What.TheVariants.{Begin, Take}
use Rattle.dom_history.specs.Events.{Happening}
use Rattle.node_runs.specs.Setups.{Setup}
use Rattle.node_runs.specs.FirstRun.{x, nth_or_done, event, sends, fine}

-- the first byte of a page
abbrev pub page : ℕ → Spot
page k = Of x (PAGE_BYTES * k)

abbrev pub loads : ℕ → Op
loads k = Load (page k) 1

abbrev pub stores : ℕ → Op
stores k = Store (page k) (104 ∷ [])

-- x is locked, and then these operations are made
abbrev pub setup : List Op → Setup
setup ops =
    record {
      opening = record { nodes = 1; greatest = MAX_ROOM; objects = record { uid = x; kind = File; room = 6 } ∷ [] };
      wire = 2;
      frames = 5 ∷ [];
      phases = 1;
      programs = (1 ∷ []) ∷ [];
      asks = λ q told. nth_or_done (map Do (Lock x Write ∷ ops)) (length told);
    }

-- the pages that an event dropped
abbrev pub dropping : List (ObjectName × ℕ) → Happening → Happening
dropping pages e = record e { effects = record e.effects { dropped = pages } }

-- the call of this number fetches a page, from this tick on, by the next two frames
abbrev pub fetches : ℕ → ℕ → ℕ → List Happening
fetches tick index number =
    event (tick + 2) (Take 1 (index + 1)) None fine
    ∷ event (tick + 1) (Take 1 index) (sends (index + 1) kinds.Page number) None
    ∷ event tick (Begin 1) (sends index kinds.PageIn number) None
    ∷ []

abbrev pub locked : List Happening
locked =
    event 3 (Take 1 2) None fine
    ∷ event 2 (Take 1 1) (sends 2 kinds.Granted 1) None
    ∷ event 1 (Begin 1) (sends 1 kinds.Lock 1) None
    ∷ []

-- the five frames are filled
abbrev pub filled : List Happening
filled = fetches 16 11 6 ++ (fetches 13 9 5 ++ (fetches 10 7 4 ++ (fetches 7 5 3 ++ (fetches 4 3 2 ++ locked))))

-- page 5 is stored to, so that it is dirty, and pages 0 to 4 are loaded
abbrev pub loading : Setup
loading = setup (stores 5 ∷ loads 0 ∷ loads 1 ∷ loads 2 ∷ loads 3 ∷ loads 4 ∷ [])

-- for page 4 these pages are dropped
abbrev pub loaded : List (ObjectName × ℕ) → List Happening
loaded pages =
    event 21 (Take 1 14) None fine
    ∷ event 20 (Take 1 13) (sends 14 kinds.Page 7) None
    ∷ dropping pages (event 19 (Begin 1) (sends 13 kinds.PageIn 7) None)
    ∷ filled

-- all pages are stored to
abbrev pub storing : Setup
storing = setup (stores 0 ∷ stores 1 ∷ stores 2 ∷ stores 3 ∷ stores 4 ∷ stores 5 ∷ [])

-- for page 5 page 0 is sent home, and then these pages are dropped
abbrev pub stored : List (ObjectName × ℕ) → List Happening
stored pages =
    event 23 (Take 1 16) None fine
    ∷ event 22 (Take 1 15) (sends 16 kinds.Page 8) None
    ∷ dropping pages (event 21 (Take 1 14) (sends 15 kinds.PageIn 8) None)
    ∷ event 20 (Take 1 13) (sends 14 kinds.Stored 7) None
    ∷ event 19 (Begin 1) (sends 13 kinds.PageOut 7) None
    ∷ filled
