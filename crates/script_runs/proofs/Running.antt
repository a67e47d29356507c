-- What a run of a script's nodes is to its processes.
use Rattle.std.proofs.Common.{◌≡◌, List, [], ◌∷◌, length, Option, Some, map, refl, sym, ap, subst, ◌∙◌}
use Rattle.std.specs.Prelude.{All}
use Rattle.std.proofs.lemmas.List.Elements.{All-head, All-tail, All-weaker}
use Rattle.uid_names.specs.Names.{ProcName, IsProcNumber}
use Rattle.uid_names.proofs.Orders.{same_proc_is, same_proc-itself}
use Rattle.dom_history.specs.declared.op.Entry.{Entry}
use Rattle.dom_history.specs.Events.{Happening}
use Rattle.dom_history.specs.Histories.{entries}
use Rattle.dom_history.specs.Follows.{Heard, Reaches, entries_of}
use Rattle.script_reader.specs.Commands.{IsCommandRow}
use Rattle.script_reader.specs.Scripts.{Content, IsContent}
use Rattle.aegis_shell.specs.Asking.{ask, answers}
use Rattle.node_runs.specs.NodeStates.{NodeState, proc_of}
use Rattle.node_runs.specs.Runs.{World, world_of}
use Rattle.node_runs.specs.RunHistories.{history_in, history_if}
use Rattle.world_runs.specs.ByPlace.{IsLike}
use Rattle.run_laws.specs.DecidedReplies.{proc_at}
use Rattle.run_laws.specs.Entries as calls
use Rattle.run_laws.specs.HeardOf.{heard_in, own_entries}
use Rattle.script_runs.specs.Processes.{processes_of}
use Rattle.script_runs.specs.Setups.{setup_of}
use Rattle.script_runs.specs.Reports.{ProcAnswers, rows_of}
use Rattle.script_runs.specs.Histories.{script_history, AreRepliesHeard, AreAskedHeard}
use Rattle.script_runs.proofs.ProcsWith.{processes_of-All}

module _ (s : Content) (events : List Happening) (w : World) (leads : world_of (setup_of s) events ≡ Some w) where
  name : (p : ProcName) → proc_at p.node p.number ≡ p
  name p = same_proc_is (proc_at p.node p.number) p (same_proc-itself p)

  entries-are : (p : ProcName) → calls.own_entries (setup_of s) w p.node p.number ≡ own_entries (script_history s events) p
  entries-are p =
      ap (λ q. entries_of q (entries (history_in (setup_of s) w).items)) (name p)
      ∙ ap (λ (o : Option World). entries_of p (entries (history_if (setup_of s) o).items)) (sym leads)

  pub replies-heard : calls.AreRepliesHeard (setup_of s) w → AreRepliesHeard s events w
  replies-heard heard p proc = ap (map (λ (e : Entry). e.reply)) (sym (entries-are p)) ∙ heard p.node p.number proc

  pub asked-heard : calls.AreAskedHeard (setup_of s) w → AreAskedHeard s events w
  asked-heard asked p proc =
      let is = asked p.node p.number proc in (
        is.0,
        subst (λ es. Reaches (ask s p) es (heard_in w p) is.0) (entries-are p)
            (subst (λ q. Reaches (ask s q) (calls.own_entries (setup_of s) w p.node p.number) (heard_in w p) is.0) (name p) is.1),
      )

-- what a program heard in a world like this one
pub like-heard : (w v : World) → IsLike w v → (p : ProcName) → heard_in w p ≡ heard_in v p
like-heard w v like p = ap (λ (x : NodeState). (proc_of x p.number).heard) (like.nodes p.node)

-- lists of the same, one by one
pub map-each : {X Y : Type 0} (f g : X → Y) (xs : List X) → All (λ x. f x ≡ g x) xs → map f xs ≡ map g xs
map-each f g [] each = refl
map-each f g (x ∷ xs) each =
    let first : f x ≡ g x = All-head (λ y. f y ≡ g y) x xs each in
    let rest = map-each f g xs (All-tail (λ y. f y ≡ g y) x xs each) in
    cc

-- where each of the four processes of a node heard the same, the answers of all are the same
abbrev row : Content → (ProcName → Heard) → ProcName → ProcAnswers
row s heard p = record { proc = p; answers = answers s p (heard p) }

pub rows-are : (s : Content) → IsContent s → (f g : ProcName → Heard) → ((p : ProcName) → IsProcNumber p.number → f p ≡ g p) → rows_of s f ≡ rows_of s g
rows-are s content f g same =
    map-each (row s f) (row s g) (processes_of s.commands)
    (All-weaker (λ p. IsProcNumber p.number) (λ p. row s f p ≡ row s g p) (λ p proc. ap (λ heard. row s (λ q. heard) p) (same p proc)) (processes_of s.commands)
    (processes_of-All (λ p. IsProcNumber p.number) s.commands
    (All-weaker (IsCommandRow (length s.nodes) s.phases) (λ row. IsProcNumber row.proc.number) (λ row h. h.proc.number) s.commands content.draft.commands)))
