use Rattle.std.proofs.Common.{◌≡◌, ℕ, ◌≤◌, List, length, map, refl, sym, ap, subst, arith}
use Rattle.std.specs.Prelude.{reverse}
use Rattle.uid_names.proofs.ListLemmas.{All-reverse}
use Rattle.uid_names.proofs.Somes.{map-some}
use Rattle.dom_history.specs.Events.{Happening}
use Rattle.journal_text.specs.Written.{IsJournal, IsWritten}
use Rattle.node_runs.specs.Setups.{Setup, IsSetup}
use Rattle.node_runs.specs.Runs.{AreRising, World, choice_of, world_of}
use Rattle.world_runs.proofs.LostFrames.{done-is}
use Rattle.run_journals.specs.Journals.{IsTimelyRun, journal_of}
use Rattle.run_journals.proofs.Journals.{reverse-rises, same-reverse}
use Rattle.run_journals.proofs.laws.a_journal_tells_its_run.Goals as goal

pub returns : goal.returns
returns c =
    let spelled : (s : Setup) → IsSetup s → (names : List (List ℕ)) → s.opening.nodes ≤ length names → (events : List Happening) → IsTimelyRun s events → IsJournal names (journal_of names events) (reverse events) =
    λ s setup names enough events is. record {
      text = refl;
      written = All-reverse (IsWritten names) events (c.each_event_can_be_spelled.ensures s setup names enough events is);
      rising = reverse-rises events (subst AreRising (done-is s events is.world is.run is.leads) (c.places_rise.ensures.places s (map choice_of events) is.world is.leads));
    } in
    record {
      spells = λ s setup names are enough events is. record {
        journal = spelled s setup names enough events is;
        only = λ read has. c.journals_have_one_reading.ensures.events names (journal_of names events) read (reverse events) are has (spelled s setup names enough events is);
      };
      one = λ s t setup other names are enough all events others is was same.
          same-reverse events others
          (c.journals_have_one_reading.ensures.events names (journal_of names events) (reverse events) (reverse others) are (spelled s setup names enough events is)
          (subst (λ bytes. IsJournal names bytes (reverse others)) (sym same) (spelled t other names all others was)));
      few = λ s events run few.
          let found = map-some (λ (w : World). w.done) (world_of s events) events run in
          let long : length events ≡ length found.0.done = ap (λ (es : List Happening). length es) found.2 in
          record {
            run = run;
            world = found.0;
            leads = found.1;
            timely = λ n. let low = c.ticks_are_few.ensures.nodes s (map choice_of events) found.0 found.1 n in omega (arith, low, long, few);
          };
    }
