-- What a process had been told where the home decided its operation: what the notes up to there say.
use Rattle.std.proofs.Common.{◌≡◌, List, [], ◌∷◌, ◌++◌, true, false, refl, sym, ap, subst, ◌∙◌}
use Rattle.std.specs.Prelude.{if◌then◌else◌}
use Rattle.uid_names.proofs.ListLemmas.{by_cases}
use Rattle.uid_names.specs.Names.{ProcName, same_proc}
use Rattle.uid_names.specs.declared.ids.Place.{Place}
use Rattle.dom_history.specs.declared.deed.Deed.{Deed}
use Rattle.dom_history.specs.declared.op.Op.{Op}
use Rattle.dom_history.specs.declared.op.Entry.{Entry}
use Rattle.dom_history.specs.Histories.{told, place_lt}
use Rattle.dom_history.specs.Follows.{entries_of}
use Rattle.dom_history.specs.StoreEffects.{own}
use Rattle.dom_history.proofs.Places.{place_lt-not_self}
use Rattle.node_runs.specs.Notes.{Told}
use Rattle.node_runs.specs.Runs.{Noted, World}
use Rattle.node_runs.specs.RunHistories.{is_fault, all_told}
use Rattle.node_runs.specs.CallsKeep.{EachOf}
use Rattle.run_laws.specs.NotedEntries.{noted_entries}
use Rattle.run_laws.specs.DecidedReplies.{IsDecisionOf}
use Rattle.run_laws.specs.NotedDeeds.{note_deeds, noted_deeds}
use Rattle.run_laws.proofs.Alone.{Alone, here, later}
use Rattle.run_laws.proofs.Begins.{own-append}

-- the notes of a run, cut at the decision of which the process was told
pub record ToldThen (w : World) (t : Told) : Type 0 where
  pub newer : List Noted
  pub it : Noted
  pub older : List Noted
  pub parts : w.trace ≡ newer ++ it ∷ older
  pub decides : IsDecisionOf t.proc t.number it.note
  pub same : own t.proc (told (noted_entries (all_told w.trace) older)) ≡ own t.proc (noted_deeds older)

-- each operation that was ended by an answer
abbrev pub AreToldThen : World → Type 0
AreToldThen w = EachOf (λ (t : Told). is_fault t.reply ≡ false → ToldThen w t) (all_told w.trace)

-- what one process was told, by the entries of it
pub own-told : (p : ProcName) (es : List Entry) → own p (told es) ≡ told (entries_of p es)
own-told p [] = refl
own-told p (e ∷ es) =
    let d : Deed = record { proc = e.proc; op = e.op; reply = e.reply } in
    by_cases (same_proc e.proc p) (own p (told (e ∷ es)) ≡ told (entries_of p (e ∷ es)))
    (λ h. ap (λ b. if b then d ∷ own p (told es) else own p (told es)) h ∙ (ap (λ ds. d ∷ ds) (own-told p es) ∙ ap told (sym (ap (λ b. if b then e ∷ entries_of p es else entries_of p es) h))))
    (λ h. ap (λ b. if b then d ∷ own p (told es) else own p (told es)) h ∙ (own-told p es ∙ ap told (sym (ap (λ b. if b then e ∷ entries_of p es else entries_of p es) h))))

-- behind the Begin of its open operation a process is told nothing
pub alone-quiet : (p : ProcName) (op : Op) (begun : Place) (newer older : List Noted) → Alone p op begun (newer ++ older) → EachOf (λ (j : Noted). place_lt begun j.place ≡ true) newer → own p (noted_deeds (newer ++ older)) ≡ own p (noted_deeds older)
alone-quiet p op begun [] older alone above = refl
alone-quiet p op begun (j ∷ newer) older (here place note) above = absurd (place_lt-not_self begun (subst (λ x. place_lt begun x ≡ true) place above.0))
alone-quiet p op begun (j ∷ newer) older (later quiet alone) above =
    own-append p (note_deeds j.note) (noted_deeds (newer ++ older)) ∙ (ap (λ ds. ds ++ own p (noted_deeds (newer ++ older))) quiet ∙ alone-quiet p op begun newer older alone above.1)
