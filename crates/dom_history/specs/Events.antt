-- What happens at a node, and what it does.
use Rattle.std.specs.Prelude.{ℕ, ◌≡◌, nat_lt, Bool, ◌&&◌, ◌||◌, List, IfSome}
use Rattle.uid_names.specs.Names.{ObjectName, uid_lt, same_uid}
use Rattle.uid_names.specs.InOrder.{AreInOrder}
use Rattle.uid_names.specs.FrameKinds.{kind_number}
use Rattle.uid_names.specs.declared.frame_kind.FrameKind.{FrameKind}
use Rattle.uid_names.specs.declared.ids.Place.{Place}
use Rattle.dom_history.specs.Ranges.{IsProcNumber}
use Rattle.dom_history.specs.declared.event.What.{What}
use Rattle.dom_history.specs.declared.event.What.TheVariants.{Begin, Go, Take, Notice, Ready, Mark}
use Rattle.dom_history.specs.declared.event.Effects.{Effects}

-- an event: where it stands, what it is, and what it did
pub record Happening : Type 0 where
  pub place : Place
  pub what : What
  pub effects : Effects

-- the processes that it names are 1 to 4
abbrev pub IsWhat : What → Type 0
IsWhat (Begin p) = IsProcNumber p
IsWhat (Go p) = IsProcNumber p
IsWhat (Take from index) = Unit {0}
IsWhat (Notice p from to index) = IsProcNumber p
IsWhat (Ready phase) = Unit {0}
IsWhat (Mark from phase) = Unit {0}

-- the order of pages: by object, then by number
abbrev pub page_lt : ObjectName × ℕ → ObjectName × ℕ → Bool
page_lt a b = uid_lt a.0 b.0 || (same_uid a.0 b.0 && nat_lt a.1 b.1)

-- each page is below the later ones
abbrev pub ArePagesRising : List (ObjectName × ℕ) → Type 0
ArePagesRising pages = AreInOrder page_lt pages

-- the number of a kind of frame
abbrev pub IsKindNumber : ℕ → Type 0
IsKindNumber n = (kind : FrameKind) × (n ≡ kind_number kind)

-- what every event's effects keep
pub record AreEffects (effects : Effects) : Type 0 where
  pub rising : ArePagesRising effects.dropped
  pub kind : IfSome effects.sent (λ sent. IsKindNumber sent.kind)
  pub proc : IfSome effects.ended (λ ended. IsProcNumber ended.0)

-- what every event keeps
pub record IsEvent (e : Happening) : Type 0 where
  pub what : IsWhat e.what
  pub effects : AreEffects e.effects
