-- What waits on a link, kept step by step: beside the entries that wait, the copies that fall behind a later frame.
use Rattle.std.specs.Prelude.{ℕ, ◌+◌, ◌==◌, not, List, [], ◌∷◌, ◌++◌, map, length, filter, drop}
use Rattle.dom_history.specs.declared.plan.Fate.{Fate}
use Rattle.dom_history.specs.declared.plan.Fate.TheVariants.{Twice, Late}
use Rattle.dom_history.specs.declared.plan.FateRow.{FateRow}
use Rattle.dom_history.specs.Events.{Happening}
use Rattle.dom_history.specs.Plans.{fate_of}
use Rattle.node_runs.specs.Deliveries.{in_place}
use Rattle.world_runs.specs.Sendings.{Sending, sent_by}
use Rattle.world_runs.specs.Waiting.{Entry, entry_by}

-- a copy of the frame of this number falls behind that frame, which is a later one or itself
pub record Later : Type 0 where
  pub index : ℕ
  pub behind : ℕ

-- how many frames were sent, the entries that wait, and the copies that fall later, by number
pub record Link : Type 0 where
  pub frames : ℕ
  pub queue : List Entry
  pub later : List Later

abbrev pub empty_link : Link
empty_link = record { frames = 0; queue = []; later = [] }

-- what falls later of a frame
abbrev pub later_of : ℕ → Fate → List Later
later_of i (Twice n) = record { index = i; behind = i + n } ∷ []
later_of i (Late n) = record { index = i; behind = i + n } ∷ []
later_of i _ = []

-- the copies that fall behind this frame, and the others
abbrev pub falling : ℕ → List Later → List ℕ
falling j later = map (λ x. x.index) (filter (λ x. x.behind == j) later)

abbrev pub staying : ℕ → List Later → List Later
staying j later = filter (λ x. not (x.behind == j)) later

-- a frame of this fate is sent
abbrev pub frame_sent : Fate → Link → Link
frame_sent fate link =
    let j = link.frames + 1 in
    let later = link.later ++ later_of j fate in
    record {
      frames = j;
      queue = link.queue ++ map Entry.Copy (in_place j fate ++ falling j later);
      later = staying j later;
    }

abbrev pub mark_sent : ℕ → Link → Link
mark_sent phase link = record link { queue = link.queue ++ Entry.Mark phase ∷ [] }

abbrev pub link_with : (ℕ → Fate) → Sending → Link → Link
link_with fate Sending.Frame link = frame_sent (fate (link.frames + 1)) link
link_with fate (Sending.Mark phase) link = mark_sent phase link

-- the link on which this was sent
abbrev pub link_after : (ℕ → Fate) → List Sending → Link → Link
link_after fate [] link = link
link_after fate (x ∷ older) link = link_with fate x (link_after fate older link)

-- so many entries are taken
abbrev pub link_less : ℕ → Link → Link
link_less n link = record link { queue = drop n link.queue }

-- what an event makes of a link: it takes the oldest entry there, or sends something
abbrev pub link_by : List FateRow → ℕ → ℕ → Happening → Link → Link
link_by plan from to e link = link_after (fate_of plan from to) (sent_by from to e) (link_less (length (entry_by from to e.place.node e.what)) link)

-- the link after these events
abbrev pub link_of : List FateRow → ℕ → ℕ → List Happening → Link
link_of plan from to [] = empty_link
link_of plan from to (e ∷ older) = link_by plan from to e (link_of plan from to older)
