-- Rows stand on present objects; so the home of a lock that is kept has its object, and takes writes under its grant.
use Rattle.std.proofs.Common.{◌≡◌, ℕ, ◌+◌, Bool, true, false, List, [], ◌∷◌, Option, Some, None, refl, sym, ap, subst, ◌∙◌, arith}
use Rattle.std.specs.Prelude.{◌==◌, ◌&&◌, ◌||◌, if◌then◌else◌, is_some, nat_le, find, unwrap_or}
use Rattle.std.specs.List.{list_any}
use Rattle.std.proofs.lemmas.Bool.Decides.{nat_tests}
use Rattle.uid_names.specs.Names.{ProcName, ObjectName, same_proc, same_uid}
use Rattle.uid_names.specs.Modes.{mode_writes, modes_clash}
use Rattle.uid_names.specs.Rows.{same_row}
use Rattle.uid_names.specs.declared.mode.Mode.{Mode}
use Rattle.uid_names.specs.declared.limits.TheConstants.{VOLUME_ROOM}
use Rattle.uid_names.proofs.Orders.{same_row_is, same_uid_is}
use Rattle.object_store.specs.declared.attributes.Attr.{Attr}
use Rattle.object_store.specs.Objects.{rooms}
use Rattle.object_store.specs.HomeStates.{HomeState, attr_of}
use Rattle.lock_manager.specs.declared.grants.Grant.{Grant}
use Rattle.lock_manager.specs.Grants.{grant_of, held_in, conflict_of, is_writing}
use Rattle.lock_manager.specs.Tables.{Table, IsTable}
use Rattle.lock_manager.proofs.Conflicts.{holders-compatible}
use Rattle.ring_messages.specs.Bodies.{Ask, Answer}
use Rattle.page_server.specs.Decisions.{decide, lock_answer, remove_answer, make_answer, may_remove}
use Rattle.node_runs.specs.Setups.{Setup, IsSetup}
use Rattle.node_runs.specs.NodesKeep.{IsTimely}
use Rattle.node_runs.specs.Notes.{Note}
use Rattle.node_runs.specs.Runs.{World, Noted, Choice, world_after}
use Rattle.node_runs.specs.Replays.{Held, held_by, after_note, first_held}
use Rattle.node_runs.proofs.Replaying.{replays-are}
use Rattle.run_laws.specs.DecidedReplies.{proc_at}
use Rattle.run_laws.specs.HistoryHomes.{held_then}
use Rattle.run_laws.proofs.HomeObjects.{there_after, there_view, decide-there}
use Rattle.run_laws.proofs.HomeRows.{kept-replay, table-then}
use Rattle.run_laws.specs.LiveLocks.{row_at, locks_of}
use Rattle.run_laws.specs.StandingLocks.{IsKeeping, AreStanding}
use Rattle.run_laws.proofs.Grants.{grant_after, decide-grant}
use Rattle.run_laws.proofs.LiveRun.{live-are}

-- rows stand on objects that are there
abbrev pub AreRowsThere : Held → Type 0
AreRowsThere h = (p : ProcName) (u : ObjectName) (a : Mode × ℕ) → held_in (grant_of p u h.locks.grants) ≡ Some a → there_view u h ≡ true

module _ (home : HomeState) (locks : Table) (p : ProcName) (u : ObjectName) (a : Mode × ℕ) (was : (b : Mode × ℕ) → held_in (grant_of p u locks.grants) ≡ Some b → is_some (attr_of home u) ≡ true) where
  abbrev row : Option (Mode × ℕ)
  row = held_in (grant_of p u locks.grants)

  abbrev IsThere : ProcName → Ask → Answer → Type 0
  IsThere q ask answer = grant_after p u q ask answer row ≡ Some a → there_after u ask answer (is_some (attr_of home u)) ≡ true

  lock-if : (b c : Bool) (m : Mode) (grant : ℕ) → (c ≡ true → is_some (attr_of home u) ≡ true) → (if b && c then Some (m, grant) else row) ≡ Some a → is_some (attr_of home u) ≡ true
  lock-if true true m grant there is = there refl
  lock-if true false m grant there is = was a is
  lock-if false c m grant there is = was a is

  lock-there : (q : ProcName) (v : ObjectName) (m : Mode) (attr : Option Attr) (conflict : _) (grant : ℕ) → attr_of home v ≡ attr → IsThere q (Ask.Lock v m) (lock_answer attr conflict grant)
  lock-there q v m None conflict grant at is = was a is
  lock-there q v m (Some attr) (Some (holder, held)) grant at is = was a is
  lock-there q v m (Some attr) None grant at is = lock-if (same_proc p q) (same_uid u v) m grant (λ on. ap (λ w. is_some (attr_of home w)) (same_uid_is u v on) ∙ ap (λ (o : Option Attr). is_some o) at) is

  none-if : (b : Bool) → (if b then None else row) ≡ Some a → is_some (attr_of home u) ≡ true
  none-if true is = absurd (cc)
  none-if false is = was a is

  gone-if : (b : Bool) → (if b then None else row) ≡ Some a → (if b then false else is_some (attr_of home u)) ≡ true
  gone-if true is = absurd (cc)
  gone-if false is = was a is

  remove-there : (q : ProcName) (v : ObjectName) (there held : Bool) → IsThere q (Ask.Remove v) (remove_answer there held)
  remove-there q v false held is = was a is
  remove-there q v true false is = was a is
  remove-there q v true true is = gone-if (same_uid u v) is

  made-if : (b : Bool) → is_some (attr_of home u) ≡ true → (if b then true else is_some (attr_of home u)) ≡ true
  made-if true is = refl
  made-if false is = is

  make-there : (q : ProcName) (kind : _) (room : ℕ) (fits : Bool) (v : ObjectName) → IsThere q (Ask.Make kind room) (make_answer fits v)
  make-there q kind room false v is = was a is
  make-there q kind room true v is = made-if (same_uid u v) (was a is)

  decided-there : (q : ProcName) (ask : Ask) → IsThere q ask (decide home locks q ask).answer
  decided-there q (Ask.PageIn v page) is = was a is
  decided-there q (Ask.PageOut v page grant base bytes) is = was a is
  decided-there q (Ask.AttrOut v n grant base) is = was a is
  decided-there q (Ask.Lock v m) is = lock-there q v m (attr_of home v) (conflict_of q v m locks.grants) (locks.last + 1) refl is
  decided-there q (Ask.Unlock v) is = none-if (same_proc p q && same_uid u v) is
  decided-there q (Ask.Remove v) is = remove-there q v (is_some (attr_of home v)) (may_remove (grant_of q v locks.grants)) is
  decided-there q (Ask.Make kind room) is = make-there q kind room (nat_le (rooms home.objects + room) VOLUME_ROOM) _ is
  decided-there q (Ask.ListLocks after) is = was a is

pub rows-each : (h : Held) (note : Note) → AreRowsThere h → AreRowsThere (after_note h note)
rows-each h Note.Nothing is = is
rows-each h (Note.Began q op) is = is
rows-each h (Note.Did q phase op reply) is = is
rows-each h (Note.Ended t) is = is
rows-each h (Note.Decided q number ask answer) is = λ p u a row.
    decide-there u h.home h.locks q ask ∙ decided-there h.home h.locks p u a (λ b was. is p u b was) q ask (sym (decide-grant p u h.home h.locks q ask) ∙ row)

-- a row to write is one under whose grant its node writes
pub any-writes : (p : ProcName) (u : ObjectName) (m : Mode) (number : ℕ) (grants : List Grant) → held_in (grant_of p u grants) ≡ Some (m, number) → mode_writes m ≡ true → list_any (is_writing number u p.node) grants ≡ true
any-writes p u m number [] row writes = absurd (cc)
any-writes p u m number (g ∷ grants) row writes = by (same_row p u g.row) refl (any-writes p u m number grants) row
  where
    this-writes : same_row p u g.row ≡ true → ◌≡◌ {A = Mode × ℕ} (g.row.mode, g.number) (m, number) → is_writing number u p.node g ≡ true
    this-writes on is =
        let names = same_row_is p u g.row on in
        let a = names.0 in
        let b = names.1 in
        let c : g.row.mode ≡ m = ap (λ (x : Mode × ℕ). x.0) is in
        let d : g.number ≡ number = ap (λ (x : Mode × ℕ). x.1) is in
        let w : mode_writes g.row.mode ≡ true = ap mode_writes c ∙ writes in
        let n : (g.row.proc.node == p.node) ≡ true = subst (λ (q : ProcName). (q.node == p.node) ≡ true) a (let e : (p.node == p.node) ≡ true = grind (arith, nat_tests) in e) in
        let o : same_uid u g.row.uid ≡ true = subst (λ (v : ObjectName). same_uid u v ≡ true) b (let e : same_uid u u ≡ true = grind (arith, nat_tests) in e) in
        let k : (g.number == number) ≡ true = subst (λ i. (i == number) ≡ true) (sym d) (let e : (number == number) ≡ true = grind (arith, nat_tests) in e) in
        rw (o, k, n, w) refl

    any-first : (b c : Bool) → b ≡ true → (b || c) ≡ true
    any-first true c is = refl
    any-first false c is = absurd (cc)

    any-later : (b c : Bool) → c ≡ true → (b || c) ≡ true
    any-later true c is = refl
    any-later false c is = is

    by : (b : Bool) → same_row p u g.row ≡ b → (held_in (grant_of p u grants) ≡ Some (m, number) → mode_writes m ≡ true → list_any (is_writing number u p.node) grants ≡ true)
        → held_in (if b then Some g else find (λ k. same_row p u k.row) grants) ≡ Some (m, number) → list_any (is_writing number u p.node) (g ∷ grants) ≡ true
    by true on rest row = any-first (is_writing number u p.node g) (list_any (is_writing number u p.node) grants) (this-writes on (ap (λ (o : Option (Mode × ℕ)). unwrap_or o (m, number)) row))
    by false on rest row = any-later (is_writing number u p.node g) (list_any (is_writing number u p.node) grants) (rest row writes)

pub rows-there : (s : Setup) (n : ℕ) (notes : List Noted) → AreRowsThere (held_then s n notes)
rows-there s n notes = kept-replay AreRowsThere rows-each (first_held s n) n notes (λ q v a none. absurd (cc))

-- a row that is found is a grant
pub held-grant : (o : Option Grant) (m : Mode) (number : ℕ) → held_in o ≡ Some (m, number) → (g : Grant) × (o ≡ Some g) × (g.row.mode ≡ m)
held-grant None m number is = absurd (cc)
held-grant (Some g) m number is = (g, refl, ap (λ (o : Option (Mode × ℕ)). (unwrap_or o (m, number)).0) is)

-- in every run
module _ (s : Setup) (setup : IsSetup s) (cs : List Choice) (w : World) (e : world_after s cs ≡ Some w) (timely : IsTimely w) where
  held-now : (a : ℕ) → held_by (w.nodes a).side ≡ held_then s a w.trace
  held-now a = (replays-are s cs w e).homes a

  pub table-now : (a : ℕ) → IsTable (locks_of w a)
  table-now a = subst (λ (h : Held). IsTable h.locks) (sym (held-now a)) (table-then s a w.trace)

  pub row-there : (p : ProcName) (u : ObjectName) (a : Mode × ℕ) → row_at (locks_of w) p u ≡ Some a → is_some (attr_of (w.nodes u.home).side.home u) ≡ true
  row-there p u a row = ap (there_view u) (held-now u.home) ∙ rows-there s u.home w.trace p u a (sym (ap (λ (h : Held). held_in (grant_of p u h.locks.grants)) (held-now u.home)) ∙ row)

  pub keeping-row : (n p : ℕ) (u : ObjectName) (m : Mode) (grant : ℕ) → IsKeeping w n p u m grant → row_at (locks_of w) (proc_at n p) u ≡ Some (m, grant)
  keeping-row n p u m grant keeping = (live-are s setup cs w e timely n p keeping.owner).row u keeping.entry m keeping.found keeping.kept keeping.state ∙ ap (λ i. Some (m, i)) keeping.number

  apart-now : (p q : ProcName) (u : ObjectName) (m k : Mode) (grant number : ℕ) → row_at (locks_of w) p u ≡ Some (m, grant) → row_at (locks_of w) q u ≡ Some (k, number) → same_proc p q ≡ false → modes_clash p m q k ≡ false
  apart-now p q u m k grant number one two other =
      let a = held-grant (grant_of p u (locks_of w u.home).grants) m grant one in
      let b = held-grant (grant_of q u (locks_of w u.home).grants) k number two in
      subst (λ x. modes_clash p m q x ≡ false) b.2 (subst (λ x. modes_clash p x q b.0.row.mode ≡ false) a.2 (holders-compatible p q u (locks_of w u.home).grants a.0 b.0 (table-now u.home).compatible a.1 b.1 other))

  pub standing-are : AreStanding w
  standing-are = record {
    there = λ n p u m grant keeping. row-there (proc_at n p) u (m, grant) (keeping-row n p u m grant keeping);
    granted = λ n p u m grant keeping writes. any-writes (proc_at n p) u m grant (locks_of w u.home).grants (keeping-row n p u m grant keeping) writes;
    apart = λ a p b q u m k grant number one two other. apart-now (proc_at a p) (proc_at b q) u m k grant number (keeping-row a p u m grant one) (keeping-row b q u k number two) other;
  }
