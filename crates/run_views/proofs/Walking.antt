-- A pass that does the events of a run one after the other.
use Rattle.std.proofs.Common.{◌≡◌, ◌∙◌, ℕ, ◌+◌, ◌<◌, ◌≤◌, List, ◌∷◌, ◌++◌, length, take, drop, sym, ap, subst, arith}
use Rattle.std.specs.Prelude.{◌^◌, reverse, slice_index_or, Result, Ok, Err, IfOk}
use Rattle.std.specs.Result.{IsErrAnd}
use Rattle.std.proofs.lemmas.List.{length-reverse, length-take, reverse-append, take-append-drop}
use Rattle.dom_history.specs.Events.{Happening}
use Rattle.dom_history.specs.declared.event.What.{What}
use Rattle.script_reader.specs.Scripts.{Content}
use Rattle.aegis_shell.specs.Shells.{Shelled, shell_wants, shell_after}
use Rattle.node_runs.specs.Setups.{Setup}
use Rattle.script_runs.specs.Setups.{setup_of}
use Rattle.run_journals.specs.RecentRuns.{IsRecentRun}
use Rattle.journal_check.specs.Passes.{IsShown, IsNotShown}
use Rattle.journal_check.specs.declared.pass.Pass.{Pass}
use Rattle.journal_check.specs.declared.pass.Shown.{Shown}
use Rattle.journal_check.proofs.Faults.{reverse-more}
use Rattle.script_runner.specs.Nodes.{made_shell}
use Rattle.run_views.specs.Walked.{HasDone, ComesNext}

module _ {G : Type 0} (s : Content) (e : Happening) (es : List Happening) (old : Pass Shelled G) (d : HasDone s old es) (next : ComesNext s e es) where
  -- few events were done
  pub few-done : length d.world.done < 2 ^ 40
  few-done = subst (λ (xs : List Happening). length xs < 2 ^ 40) (sym d.done) next.few

  -- the event may happen behind them
  run-next : IsRecentRun (setup_of s) (e ∷ d.world.done)
  run-next = subst (λ (xs : List Happening). IsRecentRun (setup_of s) (e ∷ xs)) (sym d.done) next.run

  -- what is shown is that event
  pub same-next : (n : ℕ) (what : What) (new : Pass Shelled G) (shown : Shown) → n ≡ e.place.node → what ≡ e.what
      → IsShown shell_wants shell_after (made_shell s) (setup_of s) d.world n what new shown → shown.event ≡ e
  same-next n what new shown node is got = sym (got.only e (sym node) (sym is) run-next)

  -- and the pass did it
  pub done-next : (n : ℕ) (what : What) (new : Pass Shelled G) (shown : Shown) → n ≡ e.place.node → what ≡ e.what
      → IsShown shell_wants shell_after (made_shell s) (setup_of s) d.world n what new shown → HasDone s new (e ∷ es)
  done-next n what new shown node is got = record {
    world = got.world;
    stands = got.stands;
    done = got.done ∙ (ap (λ (x : Happening). x ∷ d.world.done) (same-next n what new shown node is got) ∙ ap (λ (xs : List Happening). e ∷ xs) d.done);
  }

  -- so it is never refused
  pub never-none : (n : ℕ) (what : What) (new : Pass Shelled G) → n ≡ e.place.node → what ≡ e.what
      → IsNotShown shell_wants shell_after (made_shell s) (setup_of s) d.world n what new → ⊥
  never-none n what new node is not = not.none e (sym node) (sym is) run-next

-- the event at a place may happen behind those before it
pub comes-next : (s : Content) (events : List Happening) (i : ℕ) (e : Happening)
    → ((t : Setup) (newer older : List Happening) → IsRecentRun t (newer ++ older) → IsRecentRun t older)
    → i < length events → e ≡ slice_index_or events i e → length events ≤ 2 ^ 40 → IsRecentRun (setup_of s) (reverse events) → ComesNext s e (reverse (take i events))
comes-next s events i e initial low is few run =
    let back = length-reverse (take i events) in
    let many = length-take i events in
    let parts = ap reverse (sym (take-append-drop (i + 1) events)) ∙ (reverse-append (take (i + 1) events) (drop (i + 1) events)
    ∙ ap (λ (xs : List Happening). reverse (drop (i + 1) events) ++ xs) (reverse-more events i e low is)) in
    record {
      few = omega (arith, low, few, back, many);
      run = initial (setup_of s) (reverse (drop (i + 1) events)) (e ∷ reverse (take i events)) (subst (IsRecentRun (setup_of s)) parts run);
    }

-- nothing is said of what was refused
pub refused : {T E : Type 0} (r : Result T E) (Q : E → Type 0) (P : T → Type 0) → IsErrAnd r Q → IfOk r P
refused (Ok x) Q P is = absurd is
refused (Err e) Q P is = tt
