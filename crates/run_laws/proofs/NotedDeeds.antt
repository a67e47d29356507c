-- What a history tells each process is what the notes do: both are what its program asked and heard.
use Rattle.std.proofs.Common.{◌≡◌, ◌≢◌, ℕ, true, false, List, [], ◌∷◌, ◌++◌, Some, None, inl, inr, refl, sym, ap, subst, ◌∙◌, arith}
use Rattle.std.specs.Prelude.{if◌then◌else◌}
use Rattle.std.proofs.lemmas.Bool.{cases_eq}
use Rattle.std.proofs.lemmas.Bool.Decides.{nat_tests}
use Rattle.std.proofs.lemmas.List.Elements.{filter-append}
use Rattle.uid_names.proofs.ListLemmas.{by_cases}
use Rattle.uid_names.proofs.Orders.{same_proc_is, same_proc-itself}
use Rattle.uid_names.specs.Names.{ProcName, same_proc}
use Rattle.dom_history.specs.declared.op.Entry.{Entry}
use Rattle.dom_history.specs.declared.op.Reply.{Reply}
use Rattle.dom_history.specs.declared.op.Want.{Want}
use Rattle.dom_history.specs.declared.op.Want.TheVariants.{Do, Phase, Done}
use Rattle.dom_history.specs.declared.deed.Deed.{Deed}
use Rattle.dom_history.specs.Histories.{told as told_in, entries}
use Rattle.dom_history.specs.StoreEffects.{own}
use Rattle.dom_history.specs.Follows.{Heard, Reaches, starts, answered, passed, entries_of}
use Rattle.fault_handler.specs.Invariant.{IsProc}
use Rattle.fault_handler.proofs.Fours.{by_proc}
use Rattle.node_runs.specs.Setups.{Setup, IsSetup, given}
use Rattle.node_runs.specs.NodeStates.{ProcState, NodeState, first_node, proc_of}
use Rattle.node_runs.specs.Incomings.{Incoming}
use Rattle.node_runs.specs.Notes.{Note}
use Rattle.node_runs.specs.NodesKeep.{IsTimely}
use Rattle.node_runs.specs.Runs.{World, Choice, world_after}
use Rattle.node_runs.specs.RunHistories.{history_in}
use Rattle.node_runs.specs.CallsKeep.{EachOf}
use Rattle.node_runs.proofs.SettingUp.{setup-procs}
use Rattle.node_runs.proofs.Calls.{put-same, put-other}
use Rattle.run_laws.specs.DecidedReplies.{proc_at}
use Rattle.run_laws.specs.Heard.{AreHeard}
use Rattle.run_laws.specs.Progress.{Progress, opens, goes_on, again, did, told, pauses, is_done, IsApart, rests, comes}
use Rattle.run_laws.proofs.HearingRuns.{IsKeptNext, proc-step, every-kept-run, heard-are, event}
use Rattle.run_laws.proofs.HistoryEntries.{asked-heard}
use Rattle.run_laws.specs.NotedDeeds.{note_deeds, noted_deeds, AreDeedsTold}

-- what a process was told, by what its program asked and heard
abbrev deed_if : ProcName → Want → Reply → List Deed
deed_if p (Do op) reply = record { proc = p; op = op; reply = reply } ∷ []
deed_if p Phase reply = []
deed_if p Done reply = []

abbrev heard_deeds : ProcName → (Heard → Want) → Heard → List Deed
heard_deeds p ask [] = []
heard_deeds p ask (None ∷ before) = heard_deeds p ask before
heard_deeds p ask (Some reply ∷ before) = deed_if p (ask before) reply ++ heard_deeds p ask before

-- what the entries tell a process, its own entries do
told-own : (p : ProcName) (es : List Entry) → own p (told_in es) ≡ told_in (entries_of p es)
told-own p [] = refl
told-own p (e ∷ es) = by_cases (same_proc e.proc p) (own p (told_in (e ∷ es)) ≡ told_in (entries_of p (e ∷ es)))
    (λ h. rw h (ap (λ ds. record { proc = e.proc; op = e.op; reply = e.reply } ∷ ds) (told-own p es)))
    (λ h. rw h (told-own p es))

own-entries : (p : ProcName) (es : List Entry) → EachOf (λ (e : Entry). e.proc ≡ p) (entries_of p es)
own-entries p [] = tt
own-entries p (e ∷ es) = by_cases (same_proc e.proc p) (EachOf (λ (e : Entry). e.proc ≡ p) (entries_of p (e ∷ es)))
    (λ h. rw h (same_proc_is e.proc p h, own-entries p es))
    (λ h. rw h (own-entries p es))

module _ (p : ProcName) (ask : Heard → Want) where
  abbrev deed_of : Entry → Deed
  deed_of e = record { proc = e.proc; op = e.op; reply = e.reply }

  answered-deeds : (e : Entry) (past : List Entry) (heard : Heard) → ask heard ≡ Do e.op → e.proc ≡ p → told_in past ≡ heard_deeds p ask heard → told_in (e ∷ past) ≡ heard_deeds p ask (Some e.reply ∷ heard)
  answered-deeds e past heard asks mine before =
      ap (λ ds. deed_of e ∷ ds) before
      ∙ ap (λ q. (let d : Deed = record { proc = q; op = e.op; reply = e.reply } in d) ∷ heard_deeds p ask heard) mine
      ∙ sym (ap (λ want. deed_if p want e.reply ++ heard_deeds p ask heard) asks)

  reached-deeds : {past : List Entry} {heard : Heard} {phase : ℕ} → Reaches ask past heard phase → EachOf (λ (e : Entry). e.proc ≡ p) past → told_in past ≡ heard_deeds p ask heard
  reached-deeds starts mine = refl
  reached-deeds (answered e is asks same) mine = answered-deeds e _ _ asks mine.0 (reached-deeds is mine.1)
  reached-deeds (passed is asks) mine = reached-deeds is mine

  own-one : (d : Deed) → d.proc ≡ p → own p (d ∷ []) ≡ d ∷ []
  own-one d is = ap (λ b. if b then d ∷ [] else []) (subst (λ q. same_proc d.proc q ≡ true) is (same_proc-itself d.proc))

  -- one process comes on
  module _ (tick : ℕ) (incoming : Incoming) (old new : ProcState) (note : Note) where
    abbrev Adds : Note → Heard → Type 0
    Adds k heard = own p (note_deeds k) ++ heard_deeds p ask old.heard ≡ heard_deeds p ask heard

    progress-deeds : Progress ask p tick incoming old new note → Adds note new.heard
    progress-deeds (opens op a asks none doing awaits same e) = subst (λ k. Adds k new.heard) (sym e) (ap (heard_deeds p ask) (sym same.heard))
    progress-deeds (goes_on o a b part was doing awaits same e) = subst (λ k. Adds k new.heard) (sym e) (ap (heard_deeds p ask) (sym same.heard))
    progress-deeds (again o k was doing last same e) = subst (λ k. Adds k new.heard) (sym e) (ap (heard_deeds p ask) (sym same.heard))
    progress-deeds (did op reply part asks end e) =
        let d : Deed = record { proc = p; op = op; reply = reply } in
        subst (λ k. Adds k new.heard) (sym e) (subst (Adds (Note.Did p old.phase op reply)) (sym end.heard)
        (ap (λ ds. ds ++ heard_deeds p ask old.heard) (own-one d refl) ∙ sym (ap (λ want. deed_if p want reply ++ heard_deeds p ask old.heard) asks)))
    progress-deeds (told o c reply asks was end e tells) =
        let d : Deed = record { proc = p; op = o.op; reply = reply } in
        subst (λ k. Adds k new.heard) (sym e) (subst (λ h. own p (d ∷ []) ++ heard_deeds p ask old.heard ≡ heard_deeds p ask h) (sym end.heard)
        (ap (λ ds. ds ++ heard_deeds p ask old.heard) (own-one d refl) ∙ sym (ap (λ want. deed_if p want reply ++ heard_deeds p ask old.heard) asks)))
    progress-deeds (pauses was asks none last h phase e) = subst (λ k. Adds k new.heard) (sym e) (ap (heard_deeds p ask) (sym h))
    progress-deeds (is_done was asks none last h e) = subst (λ k. Adds k new.heard) (sym e) (ap (heard_deeds p ask) (sym h))

    -- the others are told nothing
    others-deeds : (r : ProcName) → same_proc p r ≡ false → Progress ask p tick incoming old new note → own r (note_deeds note) ≡ []
    others-deeds r other progress = by progress
      where
        one : (d : Deed) → d.proc ≡ p → own r (d ∷ []) ≡ []
        one d is = ap (λ b. if b then d ∷ [] else []) (subst (λ q. same_proc q r ≡ false) (sym is) other)

        by : Progress ask p tick incoming old new note → own r (note_deeds note) ≡ []
        by (opens op a asks none doing awaits same e) = ap (λ k. own r (note_deeds k)) e
        by (goes_on o a b part was doing awaits same e) = ap (λ k. own r (note_deeds k)) e
        by (again o k was doing last same e) = ap (λ k. own r (note_deeds k)) e
        by (did op reply part asks end e) = ap (λ k. own r (note_deeds k)) e ∙ one (record { proc = p; op = op; reply = reply }) refl
        by (told o c reply asks was end e tells) = ap (λ k. own r (note_deeds k)) e ∙ one (record { proc = p; op = o.op; reply = reply }) refl
        by (pauses was asks none last h phase e) = ap (λ k. own r (note_deeds k)) e
        by (is_done was asks none last h e) = ap (λ k. own r (note_deeds k)) e

pub apart-deeds : (note : Note) → IsApart note → note_deeds note ≡ []
apart-deeds Note.Nothing is = refl
apart-deeds (Note.Began p op) is = absurd is
apart-deeds (Note.Did p phase op reply) is = absurd is
apart-deeds (Note.Ended t) is = absurd is
apart-deeds (Note.Decided p number ask answer) is = refl

-- another process has another name
pub other-node : (a b p q : ℕ) → a ≢ b → same_proc (proc_at b p) (proc_at a q) ≡ false
other-node a b p q away = grind (arith, nat_tests, away)

pub other-number : (b p q : ℕ) → q ≢ p → same_proc (proc_at b p) (proc_at b q) ≡ false
other-number b p q beside = grind (arith, nat_tests, beside)

-- what the notes tell a process is what its program asked and heard
abbrev AreDeedsHeard : Setup → World → Type 0
AreDeedsHeard s w = (n p : ℕ) → IsProc p → own (proc_at n p) (noted_deeds w.trace) ≡ heard_deeds (proc_at n p) (s.asks (proc_at n p)) (proc_of (w.nodes n) p).heard

module _ (s : Setup) (setup : IsSetup s) (old : World) (c : Choice) (new : World) (next : IsKeptNext s old c new) (all : AreHeard s old) (before : AreDeedsHeard s old) where
  open event s old c new next use {n, after}

  abbrev Deeds : ℕ → ℕ → ProcState → Type 0
  Deeds a q x = own (proc_at a q) (noted_deeds after.trace) ≡ heard_deeds (proc_at a q) (s.asks (proc_at a q)) x.heard

  split : (r : ProcName) → own r (noted_deeds after.trace) ≡ own r (note_deeds next.is.step.note) ++ own r (noted_deeds old.trace)
  split r = filter-append (λ (d : Deed). same_proc d.proc r) (note_deeds next.is.step.note) (noted_deeds old.trace)

  -- a process that was told nothing
  untold : (a q : ℕ) → IsProc q → own (proc_at a q) (note_deeds next.is.step.note) ≡ [] → Deeds a q (proc_of (old.nodes a) q)
  untold a q proc none = split (proc_at a q) ∙ (ap (λ ds. ds ++ own (proc_at a q) (noted_deeds old.trace)) none ∙ before a q proc)

  at-node : (a q : ℕ) → (a ≡ c.node → Deeds c.node q (proc_of next.is.step.node q)) → (a ≢ c.node → Deeds a q (proc_of (old.nodes a) q)) → Deeds a q (proc_of (after.nodes a) q)
  at-node a q here away = elim (cases_eq a c.node) [
    | inl is ↦ subst (λ b. Deeds b q (proc_of (after.nodes b) q)) (sym is) (subst (λ (x : NodeState). Deeds c.node q (proc_of x q)) (sym (put-same old.nodes c.node c.node next.is.step.node refl)) (here is))
    | inr is ↦ subst (λ (x : NodeState). Deeds a q (proc_of x q)) (sym (put-other old.nodes c.node a next.is.step.node is)) (away is)
  ]

  when-rests : ((q : ℕ) → proc_of next.is.step.node q ≡ proc_of n q) → IsApart next.is.step.note → AreDeedsHeard s after
  when-rests same apart a q proc =
      let none = λ (b : ℕ). ap (own (proc_at b q)) (apart-deeds next.is.step.note apart) in
      at-node a q (λ here. subst (Deeds c.node q) (sym (same q)) (untold c.node q proc (none c.node))) (λ away. untold a q proc (none a))

  when-comes : (p : ℕ) → ((q : ℕ) → IsProc q → q ≢ p → proc_of next.is.step.node q ≡ proc_of n q)
      → Progress (s.asks (proc_at c.node p)) (proc_at c.node p) n.tick next.is.incoming (proc_of n p) (proc_of next.is.step.node p) next.is.step.note → AreDeedsHeard s after
  when-comes p others progress a q proc =
      at-node a q
      (λ here. elim (cases_eq q p) [
        | inl there ↦ subst (λ r. Deeds c.node r (proc_of next.is.step.node r)) (sym there)
            (split (proc_at c.node p) ∙ (ap (λ ds. own (proc_at c.node p) (note_deeds next.is.step.note) ++ ds) (before c.node p (subst IsProc there proc))
            ∙ progress-deeds (proc_at c.node p) (s.asks (proc_at c.node p)) n.tick next.is.incoming (proc_of n p) (proc_of next.is.step.node p) next.is.step.note progress))
        | inr beside ↦ subst (Deeds c.node q) (sym (others q proc beside)) (untold c.node q proc (quiet c.node q (other-number c.node p q beside)))
      ])
      (λ away. untold a q proc (quiet a q (other-node a c.node p q away)))
    where
      quiet : (b r : ℕ) → same_proc (proc_at c.node p) (proc_at b r) ≡ false → own (proc_at b r) (note_deeds next.is.step.note) ≡ []
      quiet b r other = others-deeds (proc_at c.node p) (s.asks (proc_at c.node p)) n.tick next.is.incoming (proc_of n p) (proc_of next.is.step.node p) next.is.step.note (proc_at b r) other progress

  deeds-later : AreDeedsHeard s new
  deeds-later = subst (AreDeedsHeard s) (sym next.is.world) (elim (proc-step s setup old c new next all) [ rests same apart ↦ when-rests same apart | comes p proc others progress ↦ when-comes p others progress ])

deeds-heard : (s : Setup) → IsSetup s → (cs : List Choice) (w : World) → world_after s cs ≡ Some w → IsTimely w → AreDeedsHeard s w
deeds-heard s setup = every-kept-run s setup (setup-procs s setup) (AreDeedsHeard s)
    (λ n. by_proc (λ p. [] ≡ heard_deeds (proc_at n p) (s.asks (proc_at n p)) (proc_of (first_node (given s n)) p).heard) refl refl refl refl)
    (λ cs old c new e timely next before. deeds-later s setup old c new next (heard-are s setup (setup-procs s setup) cs old e timely) before)

-- in every run
pub deeds-told : (s : Setup) → IsSetup s → (cs : List Choice) (w : World) → world_after s cs ≡ Some w → IsTimely w → AreDeedsTold s w
deeds-told s setup cs w e timely n p proc =
    let es = entries (history_in s w).items in
    let is = asked-heard s setup cs w e timely n p proc in
    told-own (proc_at n p) es
    ∙ (reached-deeds (proc_at n p) (s.asks (proc_at n p)) is.1 (own-entries (proc_at n p) es)
    ∙ sym (deeds-heard s setup cs w e timely n p proc))
