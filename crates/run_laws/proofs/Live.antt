-- What a home's decision, a desk's move and a new call leave of the locks that are kept.
use Rattle.std.proofs.Common.{◌≡◌, ℕ, ◌+◌, ◌≤◌, ◌<◌, true, false, List, [], ◌∷◌, length, Option, Some, inl, inr, sym, ap, subst, ◌∙◌, arith}
use Rattle.std.specs.Prelude.{◌==◌, ◌&&◌, if◌then◌else◌, unwrap_or}
use Rattle.std.proofs.lemmas.Bool.{cases_eq}
use Rattle.std.proofs.lemmas.Bool.Decides.{nat_tests}
use Rattle.uid_names.proofs.ListLemmas.{by_cases}
use Rattle.uid_names.specs.Names.{ProcName, ObjectName, same_proc, same_uid}
use Rattle.uid_names.specs.Modes.{mode_removes}
use Rattle.uid_names.specs.declared.ids.Place.{Place}
use Rattle.uid_names.specs.declared.mode.Mode.{Mode}
use Rattle.uid_names.specs.declared.mode.ObjKind.{ObjKind}
use Rattle.uid_names.proofs.Orders.{same_proc-itself, same_uid-itself}
use Rattle.dom_history.specs.declared.deed.LockState.TheVariants.{Held}
use Rattle.object_store.specs.HomeStates.{HomeState}
use Rattle.lock_manager.specs.Grants.{grant_of, held_in}
use Rattle.lock_manager.specs.Tables.{Table, IsTable}
use Rattle.ring_messages.specs.Bodies.{Ask, Answer}
use Rattle.page_server.specs.Decisions.{decide}
use Rattle.fault_handler.specs.declared.entries.LockEntry.{LockEntry}
use Rattle.fault_handler.specs.Entries.{entry_of, keeps}
use Rattle.node_runs.specs.NodeStates.{Asked}
use Rattle.node_runs.specs.Notes.{Note}
use Rattle.node_runs.specs.Runs.{Noted, put, numbered}
use Rattle.node_runs.specs.CallsKeep.{AsksThis, IsCallAt}
use Rattle.node_runs.proofs.Calls.{put-same, put-other, numbered-within}
use Rattle.node_runs.proofs.Decisions.{IsNoDecision}
use Rattle.run_laws.specs.DecidedReplies.{IsAnswerOf, WasAnswered}
use Rattle.run_laws.proofs.HearingRuns.{same-ask}
use Rattle.run_laws.specs.AskedHomes.{IsAtHome}
use Rattle.run_laws.specs.LiveLocks.{IsAbout, row_at, IsLeaving, IsLive}
use Rattle.run_laws.proofs.Grants.{grant_after, decide-grant, stays}

-- what is asked about an object is asked of its home
pub about-home : (home : ℕ) (u : ObjectName) (ask : Ask) → IsAtHome home ask → IsAbout u ask → home ≡ u.home
about-home home u (Ask.Lock v m) at about = at ∙ ap (λ w. w.home) about
about-home home u (Ask.Unlock v) at about = at ∙ ap (λ w. w.home) about
about-home home u (Ask.Remove v) at about = at ∙ ap (λ w. w.home) about
about-home home u (Ask.PageIn v k) at about = absurd about
about-home home u (Ask.PageOut v k grant base bytes) at about = absurd about
about-home home u (Ask.AttrOut v n grant base) at about = absurd about
about-home home u (Ask.Make kind room) at about = absurd about
about-home home u (Ask.ListLocks after) at about = absurd about

-- where the homes have the same locks, and nothing new was answered
module _ (locks other : ℕ → Table) (served serving : ℕ → ℕ) (notes noting : List Noted) (p : ProcName) (calls : List Asked) (entries : List LockEntry) (alike : (a : ℕ) → other a ≡ locks a) (up : (a : ℕ) → served a ≤ serving a)
    (older : (a number : ℕ) (given : Answer) → WasAnswered noting a p number given → WasAnswered notes a p number given) (live : IsLive locks served notes p calls entries) where
  later : (a k : ℕ) → serving a < k → served a < k
  later a k fresh = let e = up a in omega (arith, e, fresh)

  row-along : (u : ObjectName) (m : Mode) (grant : ℕ) → row_at locks p u ≡ Some (m, grant) → row_at other p u ≡ Some (m, grant)
  row-along u m grant was = ap (λ (t : Table). held_in (grant_of p u t.grants)) (alike u.home) ∙ was

  pub live-along : IsLive other serving noting p calls entries
  live-along = record {
    row = λ u e m is keeping held. row-along u m e.grant (live.row u e m is keeping held);
    late = λ k to u ask made about fresh. live.late k to u ask made about (later u.home k fresh);
    granted = λ to u m grant stamp kind room n made answered. row-along u m grant (live.granted to u m grant stamp kind room n made (older u.home (length calls) (Answer.Granted grant stamp kind room n) answered));
    leaving = λ to u made fresh.
        let was = live.leaving to u made (later u.home (length calls) fresh) in
        record { mode = was.mode; grant = was.grant; removes = was.removes; row = row-along u was.mode was.grant was.row; alone = λ k home ask this about late. was.alone k home ask this about (later u.home k late) };
  }

no-answer : (note : Note) (p : ProcName) (number : ℕ) (x : Answer) → IsNoDecision note → IsAnswerOf p number x note → ⊥
no-answer Note.Nothing p number x quiet is = is
no-answer (Note.Began q op) p number x quiet is = is
no-answer (Note.Did q phase op reply) p number x quiet is = is
no-answer (Note.Ended t) p number x quiet is = is
no-answer (Note.Decided q k ask answer) p number x quiet is = quiet

-- a note that is no decision answers nothing
pub not-answered : (j : Noted) (notes : List Noted) (p : ProcName) → IsNoDecision j.note → (a number : ℕ) (x : Answer) → WasAnswered (j ∷ notes) a p number x → WasAnswered notes a p number x
not-answered j notes p quiet a number x (inl is) = absurd (no-answer j.note p number x quiet is.1)
not-answered j notes p quiet a number x (inr some) = some

-- a home's decision
module _ (locks : ℕ → Table) (served serving : ℕ → ℕ) (notes : List Noted) (p : ProcName) (calls : List Asked) (entries : List LockEntry) (live : IsLive locks served notes p calls entries)
    (x : Place) (state : HomeState) (new : Table) (q : ProcName) (number : ℕ) (ask : Ask) (answer : Answer) (table : IsTable (locks x.node))
    (decided : new ≡ (decide state (locks x.node) q ask).locks) (told : answer ≡ (decide state (locks x.node) q ask).answer)
    (up : (a : ℕ) → served a ≤ serving a) (above : p ≡ q → served x.node < number) (now : p ≡ q → serving x.node ≡ number)
    (call : p ≡ q → IsCallAt calls number x.node ask) (at : IsAtHome x.node ask)
    (low : (a k : ℕ) (given : Answer) → WasAnswered notes a p k given → k ≤ served a) where
  abbrev after : ℕ → Table
  after = put locks x.node new

  abbrev mark : Noted
  mark = record { place = x; note = Note.Decided q number ask answer }

  earlier : (a k : ℕ) → serving a < k → served a < k
  earlier a k fresh = let e = up a in omega (arith, e, fresh)

  -- the row of the process stays, where it did not ask about it
  row-after : (u : ObjectName) (m : Mode) (g : ℕ) → (u.home ≡ x.node → p ≡ q → IsAbout u ask → ⊥) → row_at locks p u ≡ Some (m, g) → row_at after p u ≡ Some (m, g)
  row-after u m g not_own was = elim (cases_eq u.home x.node) [
    | inl here ↦
        (let was_here : held_in (grant_of p u (locks x.node).grants) ≡ Some (m, g) = subst (λ a. held_in (grant_of p u (locks a).grants) ≡ Some (m, g)) here was in
        ap (λ (t : Table). held_in (grant_of p u t.grants)) (put-same locks x.node u.home new here ∙ decided) ∙ stays p u m g state (locks x.node) table was_here q ask (not_own here))
    | inr away ↦ ap (λ (t : Table). held_in (grant_of p u t.grants)) (put-other locks x.node u.home new away) ∙ was
  ]

  -- one that is kept is not asked about by its own process
  not-own : (u : ObjectName) (e : LockEntry) → u.home ≡ x.node → entry_of u entries ≡ Some e → keeps (Some e) ≡ true → p ≡ q → IsAbout u ask → ⊥
  not-own u e here is keeping same about =
      let fresh : served u.home < number = let y = ap served here in let z = above same in omega (arith, y, z) in
      let never = live.late number x.node u ask (call same) about fresh in
      absurd (let z : true ≡ false = sym keeping ∙ (ap keeps (sym is) ∙ never) in cc)

  -- what is asked is a lock of this object
  granted-now : (to : ℕ) (u : ObjectName) (m : Mode) (grant stamp : ℕ) (kind : ObjKind) (room n : ℕ) → IsCallAt calls (length calls) to (Ask.Lock u m) → q ≡ p → number ≡ length calls → answer ≡ Answer.Granted grant stamp kind room n → row_at after p u ≡ Some (m, grant)
  granted-now to u m grant stamp kind room n made named this given =
      let same : p ≡ q = sym named in
      let asked : ask ≡ Ask.Lock u m = same-ask (numbered number calls) x.node to ask (Ask.Lock u m) (call same) (subst (λ k. IsCallAt calls k to (Ask.Lock u m)) (sym this) made) in
      let here : u.home ≡ x.node = sym (subst (IsAtHome x.node) asked at) in
      ap (λ (t : Table). held_in (grant_of p u t.grants)) (put-same locks x.node u.home new here ∙ decided)
      ∙ (decide-grant p u state (locks x.node) q ask
      ∙ (ap (λ a. grant_after p u q ask a (held_in (grant_of p u (locks x.node).grants))) (sym told ∙ given)
      ∙ (ap (λ a. grant_after p u q a (Answer.Granted grant stamp kind room n) (held_in (grant_of p u (locks x.node).grants))) asked
      ∙ (ap (λ b. if b && same_uid u u then Some (m, grant) else held_in (grant_of p u (locks x.node).grants)) (ap (same_proc p) named ∙ same_proc-itself p)
      ∙ ap (λ b. if b then Some (m, grant) else held_in (grant_of p u (locks x.node).grants)) (same_uid-itself u)))))

  granted-after : (to : ℕ) (u : ObjectName) (m : Mode) (grant stamp : ℕ) (kind : ObjKind) (room n : ℕ) → IsCallAt calls (length calls) to (Ask.Lock u m) → WasAnswered (mark ∷ notes) u.home p (length calls) (Answer.Granted grant stamp kind room n) → row_at after p u ≡ Some (m, grant)
  granted-after to u m grant stamp kind room n made (inl is) = granted-now to u m grant stamp kind room n made is.1.0 is.1.1 is.1.2
  granted-after to u m grant stamp kind room n made (inr some) =
      row-after u m grant
      (λ here same about.
      let low_one = low u.home (length calls) (Answer.Granted grant stamp kind room n) some in
      let within = numbered-within number calls x.node ask (call same) in
      let y = ap served here in let z = above same in
      absurd (omega (arith, low_one, within, y, z)))
      (live.granted to u m grant stamp kind room n made some)

  leaving-after : (to : ℕ) (u : ObjectName) → IsCallAt calls (length calls) to (Ask.Remove u) → serving u.home < length calls → IsLeaving after serving p calls u
  leaving-after to u made fresh =
      let was = live.leaving to u made (earlier u.home (length calls) fresh) in
      record {
        mode = was.mode;
        grant = was.grant;
        removes = was.removes;
        row = row-after u was.mode was.grant
            (λ here same about.
            let y = ap served here in let z = above same in
            let this : number ≡ length calls = was.alone number x.node ask (call same) about (omega (arith, y, z)) in
            let there = ap serving here in let so = now same in
            absurd (omega (arith, this, so, there, fresh)))
            was.row;
        alone = λ k home asked made_it about late. was.alone k home asked made_it about (earlier u.home k late);
      }

  pub live-decided : IsLive after serving (mark ∷ notes) p calls entries
  live-decided = record {
    row = λ u e m is keeping held. row-after u m e.grant (λ here. not-own u e here is keeping) (live.row u e m is keeping held);
    late = λ k to u asked made about fresh. live.late k to u asked made about (earlier u.home k fresh);
    granted = granted-after;
    leaving = leaving-after;
  }

-- what becomes of the lock of an object: nothing, it is kept no more, or it was granted
pub data LockThen (locks : ℕ → Table) (served : ℕ → ℕ) (p : ProcName) (calls : List Asked) (u : ObjectName) (old new : Option LockEntry) : Type 0 where
  as_before : new ≡ old → LockThen locks served p calls u old new
  freed : keeps new ≡ false → LockThen locks served p calls u old new
  got : (m : Mode) (grant : ℕ) → row_at locks p u ≡ Some (m, grant) → served u.home ≡ length calls → new ≡ Some (record { uid = u; state = Held m; grant = grant; released = false }) → LockThen locks served p calls u old new

-- a desk's move
module _ (locks : ℕ → Table) (served : ℕ → ℕ) (notes : List Noted) (p : ProcName) (calls : List Asked) (entries new : List LockEntry) (live : IsLive locks served notes p calls entries)
    (thens : (u : ObjectName) → LockThen locks served p calls u (entry_of u entries) (entry_of u new)) where
  moved-row : (u : ObjectName) (e : LockEntry) (m : Mode) → entry_of u new ≡ Some e → keeps (Some e) ≡ true → e.state ≡ Held m → LockThen locks served p calls u (entry_of u entries) (entry_of u new) → row_at locks p u ≡ Some (m, e.grant)
  moved-row u e m is keeping held (as_before same) = live.row u e m (sym same ∙ is) keeping held
  moved-row u e m is keeping held (freed never) = absurd (let z : true ≡ false = sym keeping ∙ (ap keeps (sym is) ∙ never) in cc)
  moved-row u e m is keeping held (got n grant row last now) =
      let same : record { uid = u; state = Held n; grant = grant; released = false } ≡ e = ap (λ (o : Option LockEntry). unwrap_or o e) (sym now ∙ is) in
      let mode : n ≡ m = held-mode n m (ap (λ (y : LockEntry). y.state) same ∙ held) in
      let number : grant ≡ e.grant = ap (λ (y : LockEntry). y.grant) same in
      row ∙ (ap (λ k. Some (k, grant)) mode ∙ ap (λ k. Some (m, k)) number)
    where
      held-mode : (a b : Mode) → Held a ≡ Held b → a ≡ b
      held-mode a b e = cc

  moved-late : (k to : ℕ) (u : ObjectName) (ask : Ask) → IsCallAt calls k to ask → IsAbout u ask → served u.home < k → LockThen locks served p calls u (entry_of u entries) (entry_of u new) → keeps (entry_of u new) ≡ false
  moved-late k to u ask made about fresh (as_before same) = ap keeps same ∙ live.late k to u ask made about fresh
  moved-late k to u ask made about fresh (freed never) = never
  moved-late k to u ask made about fresh (got n grant row last now) = let within = numbered-within k calls to ask made in absurd (omega (arith, last, within, fresh))

  pub live-moved : IsLive locks served notes p calls new
  live-moved = record {
    row = λ u e m is keeping held. moved-row u e m is keeping held (thens u);
    late = λ k to u ask made about fresh. moved-late k to u ask made about fresh (thens u);
    granted = live.granted;
    leaving = live.leaving;
  }

-- a new call, about no lock that is kept
module _ (locks : ℕ → Table) (served : ℕ → ℕ) (notes : List Noted) (p : ProcName) (calls : List Asked) (entries : List LockEntry) (live : IsLive locks served notes p calls entries) (c : Asked)
    (below : (a : ℕ) → served a ≤ length calls) (low : (a k : ℕ) (given : Answer) → WasAnswered notes a p k given → k ≤ served a) (plain : (u : ObjectName) → IsAbout u c.ask → keeps (entry_of u entries) ≡ false)
    (removes : (u : ObjectName) → c.ask ≡ Ask.Remove u → (m : Mode) × (grant : ℕ) × (mode_removes m ≡ true) × (row_at locks p u ≡ Some (m, grant)) × ((k to : ℕ) (ask : Ask) → IsCallAt calls k to ask → IsAbout u ask → served u.home < k → ⊥)) where
  asked-late : (k to : ℕ) (u : ObjectName) (ask : Ask) → IsCallAt (c ∷ calls) k to ask → IsAbout u ask → served u.home < k → keeps (entry_of u entries) ≡ false
  asked-late k to u ask made about fresh =
      by_cases (k == length calls + 1) (keeps (entry_of u entries) ≡ false)
      (λ h. let this : AsksThis (Some c) to ask = subst (λ b. AsksThis (if b then Some c else numbered k calls) to ask) h made in plain u (subst (IsAbout u) (sym this.1) about))
      (λ h. live.late k to u ask (subst (λ b. AsksThis (if b then Some c else numbered k calls) to ask) h made) about fresh)

  grown : length (c ∷ calls) ≡ length calls + 1
  grown = omega arith

  last-is : (to : ℕ) (ask : Ask) → IsCallAt (c ∷ calls) (length (c ∷ calls)) to ask → c.ask ≡ ask
  last-is to ask made =
      by_cases (length (c ∷ calls) == length calls + 1) (c.ask ≡ ask)
      (λ h. let this : AsksThis (Some c) to ask = subst (λ b. AsksThis (if b then Some c else numbered (length (c ∷ calls)) calls) to ask) h made in this.1)
      (λ h. absurd (let e : (length (c ∷ calls) == length calls + 1) ≡ true = grind (arith, nat_tests) in cc))

  asked-leaving : (to : ℕ) (u : ObjectName) → IsCallAt (c ∷ calls) (length (c ∷ calls)) to (Ask.Remove u) → IsLeaving locks served p (c ∷ calls) u
  asked-leaving to u made =
      let have = removes u (last-is to (Ask.Remove u) made) in
      record {
        mode = have.0;
        grant = have.1;
        removes = have.2;
        row = have.3;
        alone = λ k other ask this about fresh.
            by_cases (k == length calls + 1) (k ≡ length (c ∷ calls))
            (λ h. let e : k ≡ length calls + 1 = grind (arith, nat_tests, h) in e ∙ sym grown)
            (λ h. absurd (have.4 k other ask (subst (λ b. AsksThis (if b then Some c else numbered k calls) other ask) h this) about fresh));
      }

  pub live-asked : IsLive locks served notes p (c ∷ calls) entries
  live-asked = record {
    row = live.row;
    late = asked-late;
    granted = λ to u m grant stamp kind room n made answered.
        absurd (let e = below u.home in let f = low u.home (length (c ∷ calls)) (Answer.Granted grant stamp kind room n) answered in let g = grown in omega (arith, e, f, g));
    leaving = λ to u made fresh. asked-leaving to u made;
  }
