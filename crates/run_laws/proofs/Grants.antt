-- What a decision leaves of the row of a process.
use Rattle.std.proofs.Common.{◌≡◌, ℕ, ◌+◌, Bool, true, false, Option, Some, None, refl, sym, ap, ◌∙◌}
use Rattle.std.specs.Prelude.{◌&&◌, if◌then◌else◌, is_some, is_none}
use Rattle.uid_names.proofs.Codes.{modes_clash-sym}
use Rattle.uid_names.specs.Names.{ProcName, ObjectName, same_proc, same_uid}
use Rattle.uid_names.specs.Modes.{mode_removes, modes_clash}
use Rattle.uid_names.specs.declared.mode.Mode.{Mode}
use Rattle.uid_names.proofs.Orders.{same_proc_is, same_uid_is}
use Rattle.object_store.specs.declared.attributes.Attr.{Attr}
use Rattle.object_store.specs.HomeStates.{HomeState, attr_of}
use Rattle.run_laws.proofs.Removals.{removes-clash}
use Rattle.lock_manager.specs.declared.grants.Grant.{Grant}
use Rattle.lock_manager.specs.Grants.{grant_of, held_in, conflict_of}
use Rattle.lock_manager.specs.Tables.{Table, IsTable, with_grant, without_grant, without_grants_on}
use Rattle.lock_manager.proofs.LookUps.{grant_of-with, grant_of-without, grant_of-without_object}
use Rattle.lock_manager.proofs.Conflicts.{holders-compatible}
use Rattle.ring_messages.specs.Bodies.{Ask, Answer}
use Rattle.page_server.specs.Decisions.{decide, lock_answer, remove_answer, may_remove}
use Rattle.run_laws.specs.LiveLocks.{IsAbout}

-- the mode and the grant of p on u, after q was answered so
abbrev pub grant_after : ProcName → ObjectName → ProcName → Ask → Answer → Option (Mode × ℕ) → Option (Mode × ℕ)
grant_after p u q (Ask.Lock v m) (Answer.Granted grant stamp kind room n) old = if same_proc p q && same_uid u v then Some (m, grant) else old
grant_after p u q (Ask.Unlock v) Answer.Done old = if same_proc p q && same_uid u v then None else old
grant_after p u q (Ask.Remove v) Answer.Done old = if same_uid u v then None else old
grant_after p u q _ _ old = old

module _ (p : ProcName) (u : ObjectName) where
  held-if : (b : Bool) (x y : Option Grant) → held_in (if b then x else y) ≡ (if b then held_in x else held_in y)
  held-if true x y = refl
  held-if false x y = refl

  lock-grant : (q : ProcName) (v : ObjectName) (m : Mode) (attr : Option Attr) (conflict : Option (ProcName × Mode)) (locks : Table)
      → held_in (grant_of p u (if is_some attr && is_none conflict then with_grant (record { uid = v; proc = q; mode = m }) locks else locks).grants)
      ≡ grant_after p u q (Ask.Lock v m) (lock_answer attr conflict (locks.last + 1)) (held_in (grant_of p u locks.grants))
  lock-grant q v m None conflict locks = refl
  lock-grant q v m (Some attr) (Some (holder, held)) locks = refl
  lock-grant q v m (Some attr) None locks =
      let new : Grant = record { row = record { uid = v; proc = q; mode = m }; number = locks.last + 1 } in
      ap held_in (grant_of-with p u new locks.grants) ∙ held-if (same_proc p q && same_uid u v) (Some new) (grant_of p u locks.grants)

  unlock-grant : (q : ProcName) (v : ObjectName) (locks : Table) → held_in (grant_of p u (without_grant q v locks).grants) ≡ (if same_proc p q && same_uid u v then None else held_in (grant_of p u locks.grants))
  unlock-grant q v locks = ap held_in (grant_of-without p q u v locks.grants) ∙ held-if (same_proc p q && same_uid u v) None (grant_of p u locks.grants)

  remove-grant : (q : ProcName) (v : ObjectName) (there held : Bool) (locks : Table)
      → held_in (grant_of p u (if there && held then without_grants_on v locks else locks).grants) ≡ grant_after p u q (Ask.Remove v) (remove_answer there held) (held_in (grant_of p u locks.grants))
  remove-grant q v false held locks = refl
  remove-grant q v true false locks = refl
  remove-grant q v true true locks = ap held_in (grant_of-without_object p u v locks.grants) ∙ held-if (same_uid u v) None (grant_of p u locks.grants)

  pub decide-grant : (home : HomeState) (locks : Table) (q : ProcName) (ask : Ask) → held_in (grant_of p u (decide home locks q ask).locks.grants) ≡ grant_after p u q ask (decide home locks q ask).answer (held_in (grant_of p u locks.grants))
  decide-grant home locks q (Ask.PageIn v page) = refl
  decide-grant home locks q (Ask.PageOut v page grant base bytes) = refl
  decide-grant home locks q (Ask.AttrOut v length grant base) = refl
  decide-grant home locks q (Ask.Lock v m) = lock-grant q v m (attr_of home v) (conflict_of q v m locks.grants) locks
  decide-grant home locks q (Ask.Unlock v) = unlock-grant q v locks
  decide-grant home locks q (Ask.Remove v) = remove-grant q v (is_some (attr_of home v)) (may_remove (grant_of q v locks.grants)) locks
  decide-grant home locks q (Ask.Make kind room) = refl
  decide-grant home locks q (Ask.ListLocks after) = refl

-- where one process holds an object to remove it, no other holds it
pub alone : (p q : ProcName) (u v : ObjectName) (locks : Table) → IsTable locks → may_remove (grant_of q v locks.grants) ≡ true → same_uid u v ≡ true → same_proc p q ≡ false → held_in (grant_of p u locks.grants) ≡ None
alone p q u v locks table may on other = by (grant_of p u locks.grants) (grant_of q v locks.grants) refl refl may
  where
    clash : (m k : Mode) → mode_removes k ≡ true → modes_clash p m q k ≡ false → ⊥
    clash m k removes never =
        let always : modes_clash p m q k ≡ true = modes_clash-sym p m q k ∙ removes-clash q k p m removes in
        absurd (cc)

    by : (a b : Option Grant) → grant_of p u locks.grants ≡ a → grant_of q v locks.grants ≡ b → may_remove b ≡ true → held_in a ≡ None
    by None b is found may = refl
    by (Some x) None is found may = absurd (cc)
    by (Some x) (Some y) is found may =
        let theirs : grant_of q u locks.grants ≡ Some y = ap (λ w. grant_of q w locks.grants) (same_uid_is u v on) ∙ found in
        absurd (clash x.row.mode y.row.mode may (holders-compatible p q u locks.grants x y table.compatible is theirs other))

-- a row stays where its process did not ask about it
module _ (p : ProcName) (u : ObjectName) (m : Mode) (g : ℕ) (home : HomeState) (locks : Table) (table : IsTable locks) (was : held_in (grant_of p u locks.grants) ≡ Some (m, g)) where
  abbrev row : Option (Mode × ℕ)
  row = held_in (grant_of p u locks.grants)

  not-both : (a b : Bool) (x : Option (Mode × ℕ)) → (a ≡ true → b ≡ true → ⊥) → (if a && b then x else row) ≡ Some (m, g)
  not-both true true x no_both = absurd (no_both refl refl)
  not-both true false x no_both = was
  not-both false b x no_both = was

  lock-stays : (q : ProcName) (v : ObjectName) (n : Mode) (attr : Option Attr) (conflict : _) (grant : ℕ) → (same_proc p q ≡ true → same_uid u v ≡ true → ⊥) → grant_after p u q (Ask.Lock v n) (lock_answer attr conflict grant) row ≡ Some (m, g)
  lock-stays q v n None conflict grant no_both = was
  lock-stays q v n (Some attr) (Some (holder, held)) grant no_both = was
  lock-stays q v n (Some attr) None grant no_both = not-both (same_proc p q) (same_uid u v) (Some (n, grant)) no_both

  remove-stays : (q : ProcName) (v : ObjectName) (there held : Bool) → may_remove (grant_of q v locks.grants) ≡ held → (same_proc p q ≡ true → same_uid u v ≡ true → ⊥) → grant_after p u q (Ask.Remove v) (remove_answer there held) row ≡ Some (m, g)
  remove-stays q v false held is no_both = was
  remove-stays q v true false is no_both = was
  remove-stays q v true true is no_both = by (same_proc p q) (same_uid u v) refl refl
    where
      by : (a b : Bool) → same_proc p q ≡ a → same_uid u v ≡ b → (if b then None else row) ≡ Some (m, g)
      by a false d e = was
      by true true d e = absurd (no_both d e)
      by false true d e = absurd (let x : None ≡ Some (m, g) = sym (alone p q u v locks table is e d) ∙ was in cc)

  pub stays : (q : ProcName) (ask : Ask) → (p ≡ q → IsAbout u ask → ⊥) → held_in (grant_of p u (decide home locks q ask).locks.grants) ≡ Some (m, g)
  stays q ask not_own = decide-grant p u home locks q ask ∙ by ask not_own
    where
      by : (ask : Ask) → (p ≡ q → IsAbout u ask → ⊥) → grant_after p u q ask (decide home locks q ask).answer row ≡ Some (m, g)
      by (Ask.PageIn v page) not_own = was
      by (Ask.PageOut v page grant base bytes) not_own = was
      by (Ask.AttrOut v n grant base) not_own = was
      by (Ask.Lock v n) not_own = lock-stays q v n (attr_of home v) (conflict_of q v n locks.grants) (locks.last + 1) (λ d e. not_own (same_proc_is p q d) (sym (same_uid_is u v e)))
      by (Ask.Unlock v) not_own = not-both (same_proc p q) (same_uid u v) None (λ d e. not_own (same_proc_is p q d) (sym (same_uid_is u v e)))
      by (Ask.Remove v) not_own = remove-stays q v (is_some (attr_of home v)) (may_remove (grant_of q v locks.grants)) refl (λ d e. not_own (same_proc_is p q d) (sym (same_uid_is u v e)))
      by (Ask.Make kind room) not_own = was
      by (Ask.ListLocks after) not_own = was
