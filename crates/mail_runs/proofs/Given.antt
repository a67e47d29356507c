-- What is known of a history of a script, item by item.
use Rattle.std.proofs.Common.{◌≡◌, ◌<◌, ◌∙◌, ℕ, zero, suc, Option, Some, None, List, [], ◌∷◌, ◌++◌, length, length-append, refl, ap, subst, inl, inr, ◌⊎◌, arith}
use Rattle.std.specs.Prelude.{IfSome}
use Rattle.std.proofs.lemmas.List.Elements.{All-tail, filter-append}
use Rattle.uid_names.specs.Names.{ObjectName, ProcName, same_proc}
use Rattle.uid_names.proofs.Orders.{same_proc-itself}
use Rattle.dom_history.specs.declared.op.Entry.{Entry}
use Rattle.dom_history.specs.declared.op.Reply.{Reply}
use Rattle.dom_history.specs.declared.op.Want.{Want}
use Rattle.dom_history.specs.declared.op.Want.TheVariants.{Do, Phase, Done}
use Rattle.dom_history.specs.Fitting.{Fits}
use Rattle.dom_history.specs.Follows.{Heard, FollowsAt, entries_of}
use Rattle.dom_history.specs.Histories.{History, Item, Answered, Acted, Act, SomeOf, IsRising, entries}
use Rattle.dom_history.specs.Legal.{AreLegal, IsLeftOpen, IsOpenOp}
use Rattle.dom_history.specs.Programs.{FitsWant}
use Rattle.dom_history.specs.Ranges.{AreNamedReplies, IsNamedReply, IsOp, IsWant}
use Rattle.dom_history.proofs.Items.{entries-append}
use Rattle.script_reader.specs.Scripts.{Content}
use Rattle.aegis_shell.specs.Asking.{ask}
use Rattle.node_runs.specs.Told.{AreFitting, AreWantsInRange}
use Rattle.run_laws.specs.HeardOf.{heard_of, on_phase, with_asked_phases}
use Rattle.script_runs.specs.Answers.{heard_as, heard_behind, OfEachEntry}
use Rattle.mail_runs.specs.Commands.{own_in}
use Rattle.mail_runs.specs.Mailboxes.{OnlyMails}
use Rattle.mail_runs.proofs.Positions.{heard_by, AreAsked}
use Rattle.mail_runs.proofs.Rooms.{AreRanged}

-- what was heard behind entries ends in what was heard behind the first of them
module _ (P : Heard → Type 0) (tail : (told : Option Reply) (heard : Heard) → P (told ∷ heard) → P heard) (asks : Heard → Want) (phases : ℕ) where
  before_phases : (k : ℕ) (heard : Heard) → P (with_asked_phases asks k heard) → P heard
  before_phases zero heard h = h
  before_phases (suc k) heard h = by_want (asks heard) (λ later. before_phases k (None ∷ heard) later) h
    where
      by_want : (want : Want) → (P (with_asked_phases asks k (None ∷ heard)) → P (None ∷ heard)) → P (on_phase want (with_asked_phases asks k (None ∷ heard)) heard) → P heard
      by_want Phase before h = tail None heard (before h)
      by_want (Do op) before h = h
      by_want Done before h = h

  pub before_entries : (newer past : List Entry) (e : Entry) → P (heard_of asks phases (newer ++ e ∷ past)) → P (Some e.reply ∷ heard_of asks phases past)
  before_entries [] past e h = before_phases phases (Some e.reply ∷ heard_of asks phases past) h
  before_entries (f ∷ newer) past e h =
      before_entries newer past e (tail (Some f.reply) (heard_of asks phases (newer ++ e ∷ past)) (before_phases phases (Some f.reply ∷ heard_of asks phases (newer ++ e ∷ past)) h))

-- the entries of a process behind others
own_behind : (newer past : List Item) (e : Entry) → own_in (newer ++ Answered e ∷ past) e.proc ≡ own_in newer e.proc ++ e ∷ own_in past e.proc
own_behind newer past e =
    ap (entries_of e.proc) (entries-append newer (Answered e ∷ past))
    ∙ filter-append (λ (f : Entry). same_proc f.proc e.proc) (entries newer) (e ∷ entries past)
    ∙ ap (λ own. own_in newer e.proc ++ own) (own_first e past)
  where
    own_first : (f : Entry) (rest : List Item) → entries_of f.proc (f ∷ entries rest) ≡ f ∷ own_in rest f.proc
    own_first f rest = rw (same_proc-itself f.proc) refl

module _ (s : Content) (h : History) (follows : (p : ProcName) → FollowsAt (ask s p) h p) (each : (p : ProcName) → OfEachEntry h p (λ past e. ask s p (heard_behind s p past) ≡ Do e.op)) (wants : (p : ProcName) → AreWantsInRange (ask s p))
    (fitting : (p : ProcName) → AreFitting (ask s p) (heard_as s h p)) (named : (p : ProcName) → AreNamedReplies (heard_as s h p)) where
  asked_at : (newer past : List Item) (e : Entry) → h.items ≡ newer ++ Answered e ∷ past → ask s e.proc (heard_by s e.proc past) ≡ Do e.op
  asked_at newer past e is = each e.proc (own_in newer e.proc) (own_in past e.proc) e (ap (λ items. entries_of e.proc (entries items)) is ∙ own_behind newer past e)

  own_is : (newer past : List Item) (e : Entry) → h.items ≡ newer ++ Answered e ∷ past → heard_as s h e.proc ≡ heard_of (ask s e.proc) s.phases (own_in newer e.proc ++ e ∷ own_in past e.proc)
  own_is newer past e is = ap (heard_of (ask s e.proc) s.phases) (ap (λ items. entries_of e.proc (entries items)) is ∙ own_behind newer past e)

  fitting_at : (newer past : List Item) (e : Entry) → h.items ≡ newer ++ Answered e ∷ past → AreFitting (ask s e.proc) (Some e.reply ∷ heard_by s e.proc past)
  fitting_at newer past e is =
      before_entries (AreFitting (ask s e.proc)) (λ told heard fits. fits.1) (ask s e.proc) s.phases (own_in newer e.proc) (own_in past e.proc) e (subst (AreFitting (ask s e.proc)) (own_is newer past e is) (fitting e.proc))

  named_at : (newer past : List Item) (e : Entry) → h.items ≡ newer ++ Answered e ∷ past → AreNamedReplies (Some e.reply ∷ heard_by s e.proc past)
  named_at newer past e is =
      before_entries AreNamedReplies (λ told heard all. All-tail (λ t. IfSome t IsNamedReply) told heard all) (ask s e.proc) s.phases (own_in newer e.proc) (own_in past e.proc) e (subst AreNamedReplies (own_is newer past e is) (named e.proc))

  fits_at : (newer past : List Item) (e : Entry) → h.items ≡ newer ++ Answered e ∷ past → Fits e.op e.reply
  fits_at newer past e is = subst (λ want. FitsWant want (Some e.reply)) (asked_at newer past e is) (fitting_at newer past e is).0

  ranged_at : (newer past : List Item) (e : Entry) → h.items ≡ newer ++ Answered e ∷ past → IsOp e.op
  ranged_at newer past e is =
      subst IsWant (asked_at newer past e is)
      (wants e.proc (heard_by s e.proc past) (fitting_at newer past e is).1 (All-tail (λ t. IfSome t IsNamedReply) (Some e.reply) (heard_by s e.proc past) (named_at newer past e is)))

  pub all_asked : (newer past : List Item) → h.items ≡ newer ++ past → AreAsked s past
  all_asked newer [] is = tt
  all_asked newer (Answered e ∷ past) is = (asked_at newer past e is, fits_at newer past e is, ranged_at newer past e is, all_asked (newer ++ Answered e ∷ []) past (is ∙ one_on newer (Answered e) past))
    where
      one_on : (xs : List Item) (x : Item) (ys : List Item) → xs ++ x ∷ ys ≡ (xs ++ x ∷ []) ++ ys
      one_on [] x ys = refl
      one_on (y ∷ xs) x ys = ap (λ zs. y ∷ zs) (one_on xs x ys)
  all_asked newer (Acted a ∷ past) is = all_asked (newer ++ Acted a ∷ []) past (is ∙ one_on newer (Acted a) past)
    where
      one_on : (xs : List Item) (x : Item) (ys : List Item) → xs ++ x ∷ ys ≡ (xs ++ x ∷ []) ++ ys
      one_on [] x ys = refl
      one_on (y ∷ xs) x ys = ap (λ zs. y ∷ zs) (one_on xs x ys)

-- so are the operations of acts, which were left open
open_ranged : (s : Content) (past : List Item) (a : Act) → AreAsked s past → SomeOf (IsLeftOpen a.begun a.deed.proc a.deed.op) past → IsOp a.deed.op
open_ranged s [] a asked is_open = absurd is_open
open_ranged s (Answered e ∷ past) a asked (inl here) = subst IsOp here.2 asked.2
open_ranged s (Acted b ∷ past) a asked (inl here) = absurd here
open_ranged s (Answered e ∷ past) a asked (inr later) = open_ranged s past a asked.3 later
open_ranged s (Acted b ∷ past) a asked (inr later) = open_ranged s past a asked later

pub all_ranged : (s : Content) (past : List Item) → AreLegal s.opening [] past → AreAsked s past → AreRanged past
all_ranged s [] legal asked = tt
all_ranged s (Answered e ∷ past) legal asked = (asked.2, all_ranged s past legal.1 asked.3)
all_ranged s (Acted a ∷ past) legal asked = (by_open legal.0.belongs, all_ranged s past legal.1 asked)
  where
    by_open : SomeOf (IsLeftOpen a.begun a.deed.proc a.deed.op) past ⊎ SomeOf (IsOpenOp a) [] → IsOp a.deed.op
    by_open (inl is_open) = open_ranged s past a asked is_open
    by_open (inr none) = absurd none

-- what holds of a history holds of each part that stands behind
pub legal_behind : (s : Content) (newer past : List Item) → AreLegal s.opening [] (newer ++ past) → AreLegal s.opening [] past
legal_behind s [] past legal = legal
legal_behind s (i ∷ newer) past legal = legal_behind s newer past legal.1

pub rising_behind : (newer past : List Item) → IsRising (newer ++ past) → IsRising past
rising_behind [] past rising = rising
rising_behind (i ∷ newer) past rising = rising_behind newer past rising.1

pub only_behind : (s : Content) (u : ObjectName) (newer past : List Item) → OnlyMails s u (newer ++ past) → OnlyMails s u past
only_behind s u [] past only = only
only_behind s u (Answered e ∷ newer) past only = only_behind s u newer past only.1
only_behind s u (Acted a ∷ newer) past only = only_behind s u newer past only

pub few_behind : (newer past : List Item) (n : ℕ) → length (newer ++ past) < n → length past < n
few_behind newer past n few = omega (arith, few, length-append newer past)
