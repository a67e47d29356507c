-- Which histories do what the programs ask, and which keep the phases apart.
use Rattle.std.specs.Prelude.{ℕ, suc, ◌≡◌, ◌≤◌, Option, Some, None, List, [], ◌∷◌, All, filter}
use Rattle.uid_names.specs.Names.{ProcName, same_proc}
use Rattle.dom_history.specs.declared.op.Reply.{Reply}
use Rattle.dom_history.specs.declared.op.Want.{Want}
use Rattle.dom_history.specs.declared.op.Want.TheVariants.{Do, Phase, Done}
use Rattle.dom_history.specs.declared.op.Entry.{Entry}
use Rattle.dom_history.specs.Histories.{Pending, History, entries}

-- what a program hears: a reply, or None after a Phase; the newest first
abbrev pub Heard : Type 0
Heard = List (Option Reply)

-- a program that was answered these entries, the newest first, has heard this and is in this phase
pub data Reaches (ask : Heard → Want) : List Entry → Heard → ℕ → Type 0 where
  starts : Reaches ask [] [] 1
  answered : {past : List Entry} {heard : Heard} {phase : ℕ} → (e : Entry) → Reaches ask past heard phase → ask heard ≡ Do e.op → e.phase ≡ phase → Reaches ask (e ∷ past) (Some e.reply ∷ heard) phase
  passed : {past : List Entry} {heard : Heard} {phase : ℕ} → Reaches ask past heard phase → ask heard ≡ Phase → Reaches ask past (None ∷ heard) (suc phase)

-- the entries of p
abbrev pub entries_of : ProcName → List Entry → List Entry
entries_of p es = filter (λ e. same_proc e.proc p) es

-- the operation of p that is open
abbrev pub open_of : ProcName → List Pending → List Pending
open_of p pending = filter (λ o. same_proc o.proc p) pending

-- p did what its program asks, each once and in order; what is open is what it asks next
pub record FollowsAt (ask : Heard → Want) (h : History) (p : ProcName) : Type 0 where
  pub heard : Heard
  pub phase : ℕ
  pub reaches : Reaches ask (entries_of p (entries h.items)) heard phase
  pub next : All (λ o. ask heard ≡ Do o.op) (open_of p h.open_ops)

abbrev pub Follows : (ProcName → Heard → Want) → History → Type 0
Follows ask h = (p : ProcName) → FollowsAt (ask p) h p

-- p has come to the end of its program
pub record IsDoneAt (ask : Heard → Want) (h : History) (p : ProcName) : Type 0 where
  pub heard : Heard
  pub phase : ℕ
  pub reaches : Reaches ask (entries_of p (entries h.items)) heard phase
  pub finished : ask heard ≡ Done

-- nothing is open, and each process has come to its end
pub record IsEnded (ask : ProcName → Heard → Want) (h : History) : Type 0 where
  pub nothing_open : h.open_ops ≡ []
  pub all_done : (p : ProcName) → IsDoneAt (ask p) h p

-- no entry stands before one of a smaller phase
abbrev pub IsPhased : List Entry → Type 0
IsPhased [] = Unit {0}
IsPhased (e ∷ past) = All (λ f. f.phase ≤ e.phase) past × IsPhased past
