-- How commands went.
use Rattle.std.specs.Prelude.{ℕ, ◌+◌, ◌-◌, ◌&&◌, Bool, true, false, Option, Some, None, List, codes, position, nat_eq, bytes_eq}
use Rattle.std.specs.List.{list_any, starts_with}
use Rattle.dom_text.specs.Cuts.{cut_at}
use Rattle.event_views.specs.Chosen.{names_command}
use Rattle.event_views.specs.Commands.{same_command}
use Rattle.event_views.specs.declared.command.CommandName.{CommandName}
use Rattle.event_views.specs.declared.command.CommandView.{CommandView}
use Rattle.event_views.specs.declared.run.EventView.{EventView}

-- the first event with which a command begins, and the first with which it is answered
abbrev pub begin_of : CommandName → List EventView → Option ℕ
begin_of c views = position (λ v. names_command c v.begun) views

abbrev pub end_of : CommandName → List EventView → Option ℕ
end_of c views = position (λ v. list_any (same_command c) v.answered) views

-- how many events there are from the one to the other, with both
abbrev pub span : Option ℕ → Option ℕ → Option ℕ
span None end = None
span (Some begin) None = None
span (Some begin) (Some end) = Some (end - begin + 1)

abbrev pub span_of : List EventView → CommandName → Option ℕ
span_of views c = span (begin_of c views) (end_of c views)

-- the first word of a command is its kind
abbrev pub front_of : Option (List ℕ × List ℕ) → List ℕ → List ℕ
front_of None words = words
front_of (Some parts) words = parts.0

abbrev pub is_of_kind : List ℕ → CommandView → Bool
is_of_kind kind row = bytes_eq (front_of (cut_at 32 row.words) row.words) kind

abbrev pub when : Bool → Option ℕ → Option ℕ
when true found = found
when false found = None

abbrev pub span_of_kind : List EventView → List ℕ → CommandView → Option ℕ
span_of_kind views kind row = when (is_of_kind kind row) (span_of views row.name)

-- the lock was refused, since another process held one that stood against it
abbrev pub is_conflict : Option (List ℕ) → Bool
is_conflict None = false
is_conflict (Some answer) = starts_with nat_eq answer (codes "conflict")

abbrev pub is_refused : CommandView → Bool
is_refused row = starts_with nat_eq row.words (codes "lock ") && is_conflict row.answer
