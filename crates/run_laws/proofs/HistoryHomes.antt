-- At each place of the history of a run the homes have what it says.
use Rattle.std.proofs.Common.{◌≡◌, ℕ, List, [], ◌∷◌, ◌++◌, Option, Some, None, IfSome, sym, ap, subst, ◌∙◌}
use Rattle.uid_names.specs.declared.ids.Place.{Place}
use Rattle.dom_history.specs.Locks.{rows}
use Rattle.dom_history.specs.Objects.{is_present}
use Rattle.ring_messages.specs.Bodies.{Ask}
use Rattle.node_runs.specs.Setups.{Setup, IsSetup}
use Rattle.node_runs.specs.NodeStates.{Asked}
use Rattle.node_runs.specs.NodesKeep.{IsTimely}
use Rattle.node_runs.specs.Notes.{Note}
use Rattle.node_runs.specs.Runs.{World, Noted, Choice, numbered, world_after}
use Rattle.node_runs.specs.CallsKeep.{AsksThis, EachOf}
use Rattle.node_runs.specs.DecidedCalls.{IsDecided}
use Rattle.node_runs.specs.Replays.{AreAnswered}
use Rattle.node_runs.proofs.Receiving.{EachOf-more, numbered-each}
use Rattle.node_runs.proofs.Decisions.{decisions-are}
use Rattle.node_runs.proofs.Replaying.{replays-are}
use Rattle.node_runs.proofs.SettingUp.{setup-procs}
use Rattle.node_runs.proofs.EachOf.{EachOf-behind}
use Rattle.run_laws.specs.AskedHomes.{IsAtHome, AreCallsAtHomes}
use Rattle.run_laws.proofs.AskedHomes.{calls-at-homes}
use Rattle.run_laws.specs.DecidedEffects.{home_effects, decided_effects}
use Rattle.run_laws.specs.HistoryHomes.{past_then, AreHomesAlways}
use Rattle.run_laws.proofs.HomeEffects.{notes-right, effects-right}
use Rattle.run_laws.proofs.HomeRows.{IsMeantAt, table-then, rows-home, rows-then}
use Rattle.run_laws.proofs.Presence.{present-home, objects-there}

pub answered-behind : (s : Setup) (xs ys : List Noted) → AreAnswered s (xs ++ ys) → AreAnswered s ys
answered-behind s [] ys are = are
answered-behind s (x ∷ xs) ys are = answered-behind s xs ys are.1

-- what was decided was asked of its home
pub asked-home : (o : Option Asked) (home : ℕ) (ask : Ask) → IfSome o (λ k. IsAtHome k.home k.ask) → AsksThis o home ask → IsAtHome home ask
asked-home None home ask at is = absurd is
asked-home (Some k) home ask at is = subst (IsAtHome home) is.1 (subst (λ h. IsAtHome h k.ask) is.0 at)

module _ (w : World) (at : AreCallsAtHomes w) where
  pub meant-at : (x : Place) (note : Note) → IsDecided w x note → IsMeantAt x.node note
  meant-at x Note.Nothing decided = tt
  meant-at x (Note.Began q op) decided = tt
  meant-at x (Note.Did q phase op reply) decided = tt
  meant-at x (Note.Ended t) decided = tt
  meant-at x (Note.Decided q number ask answer) decided =
      asked-home (numbered number (w.calls q.node q.number)) x.node ask (numbered-each (λ (k : Asked). IsAtHome k.home k.ask) number (w.calls q.node q.number) (at q.node q.number)) decided.1

-- in every run
pub homes-always : (s : Setup) → IsSetup s → (cs : List Choice) (w : World) → world_after s cs ≡ Some w → IsTimely w → AreHomesAlways s w
homes-always s setup cs w e timely newer older parts =
    let decisions = decisions-are s (setup-procs s setup) cs w e in
    let meant = EachOf-more (λ (j : Noted). IsDecided w j.place j.note) (λ (j : Noted). IsMeantAt j.place.node j.note) w.trace (λ j decided. meant-at w (calls-at-homes s setup cs w e timely) j.place j.note decided) decisions.each in
    let meant_then = EachOf-behind (λ (j : Noted). IsMeantAt j.place.node j.note) newer older (subst (EachOf (λ (j : Noted). IsMeantAt j.place.node j.note)) parts meant) in
    let answered_then = answered-behind s newer older (subst (AreAnswered s) parts (replays-are s cs w e).answers) in
    let right = EachOf-behind _ newer older (subst (EachOf _) parts (notes-right s setup cs w e timely)) in
    let decided : home_effects (past_then w older) ≡ decided_effects older = effects-right s setup cs w e timely older right in
    record {
      decided = decided;
      rows = λ n. sym (rows-home n (past_then w older)) ∙ (ap (rows n) decided ∙ rows-then s n older answered_then meant_then);
      tables = λ n. table-then s n older;
      present = λ u node. sym (present-home s.opening u (past_then w older)) ∙ (ap (λ past. is_present s.opening past u) decided ∙ objects-there s setup u node older answered_then meant_then);
    }
