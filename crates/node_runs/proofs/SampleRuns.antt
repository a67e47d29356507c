-- The sample runs, by computing. A home's pages do not compute; but what was stored there is loaded whatever was there before.
use Rattle.std.proofs.Common.{◌≡◌, [], ◌∷◌, None, refl}
use Rattle.node_runs.specs.Runs.{world_of, IsRun}
use Rattle.node_runs.specs.RunHistories.{history_of}
use Rattle.node_runs.specs.FirstRun as one
use Rattle.node_runs.specs.SecondRun as two
use Rattle.node_runs.specs.ThirdRun as three
use Rattle.node_runs.specs.FirstRun.{x}

pub first_runs : IsRun one.setup one.events
first_runs = refl

pub first_history : history_of one.setup one.events ≡ one.expected
first_history = refl

pub second_runs : IsRun two.setup two.events
second_runs = refl

pub second_history : history_of two.setup two.events ≡ two.expected
second_history = refl

-- the page used longest ago may be dropped, and another one
pub loaded_runs : IsRun three.loading (three.loaded ((x, 0) ∷ []))
loaded_runs = refl

pub loaded_runs_too : IsRun three.loading (three.loaded ((x, 2) ∷ []))
loaded_runs_too = refl

-- but no dirty page, none at all, and no two
pub loaded_dirty : world_of three.loading (three.loaded ((x, 5) ∷ [])) ≡ None
loaded_dirty = refl

pub loaded_none : world_of three.loading (three.loaded []) ≡ None
loaded_none = refl

pub loaded_two : world_of three.loading (three.loaded ((x, 0) ∷ (x, 1) ∷ [])) ≡ None
loaded_two = refl

pub stored_runs : IsRun three.storing (three.stored ((x, 0) ∷ []))
stored_runs = refl

pub stored_dirty : world_of three.storing (three.stored ((x, 1) ∷ [])) ≡ None
stored_dirty = refl
