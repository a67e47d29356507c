-- The last call of each process that was answered.
use Rattle.std.specs.Prelude.{ℕ, ◌==◌, nat_lt, if◌then◌else◌, Option, Some, None, List, [], ◌∷◌, All}
use Rattle.uid_names.specs.InOrder.{AreInOrder}
use Rattle.uid_names.specs.Names.{ProcName, IsProcName, same_proc, proc_lt}
use Rattle.call_once.specs.declared.served.Looked.{Looked}
use Rattle.call_once.specs.declared.served.Looked.TheVariants.{Fresh, Again, Old}

-- a call that was answered: the process that made it, the number that it gave to it, and the body of the answer
pub record Call (B : Type 0) : Type 0 where
  pub proc : ProcName
  pub number : ℕ
  pub body : B

-- the call of a process among calls of which no two are of one process
abbrev pub call_of : {B : Type 0} → ProcName → List (Call B) → Option (Call B)
call_of p [] = None
call_of p (call ∷ calls) = if same_proc call.proc p then Some call else call_of p calls

-- its number, 0 for no call
abbrev pub number_in : {B : Type 0} → Option (Call B) → ℕ
number_in None = 0
number_in (Some call) = call.number

-- its answer
abbrev pub body_in : {B : Type 0} → Option (Call B) → Option B
body_in None = None
body_in (Some call) = Some call.body

-- the number of a process's last call, 0 at first
abbrev pub last_of : {B : Type 0} → ProcName → List (Call B) → ℕ
last_of p calls = number_in (call_of p calls)

-- the answer to a process's last call
abbrev pub body_of : {B : Type 0} → ProcName → List (Call B) → Option B
body_of p calls = body_in (call_of p calls)

-- how a number stands to the last one
abbrev pub looked : ℕ → ℕ → Looked
looked number last = if nat_lt last number then Fresh else if number == last then Again else Old

-- calls by rising process, with this one in the place of its process's last one
abbrev pub with_call : {B : Type 0} → Call B → List (Call B) → List (Call B)
with_call new [] = new ∷ []
with_call new (call ∷ calls) =
    if proc_lt call.proc new.proc then call ∷ with_call new calls
    else if same_proc call.proc new.proc then new ∷ calls
    else new ∷ call ∷ calls

-- calls by rising process, no two of one process
pub record AreByProcess {B : Type 0} (calls : List (Call B)) : Type 0 where
  pub rising : AreInOrder (λ a b. proc_lt a.proc b.proc) calls
  pub named : All (λ call. IsProcName call.proc) calls
