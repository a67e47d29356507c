-- At which requests a home may want memory.
use Rattle.std.specs.Prelude.{ℕ, Bool, true, false, ◌&&◌, nat_le, length, Option, Some, None}
use Rattle.uid_names.specs.Names.{ProcName}
use Rattle.lock_manager.specs.declared.locks.TheConstants.{ROOM}
use Rattle.lock_manager.specs.Tables.{Table}
use Rattle.call_once.specs.declared.served.Looked.{Looked}
use Rattle.call_once.specs.declared.served.Looked.TheVariants.{Fresh, Again, Old}
use Rattle.call_once.specs.Calls.{last_of, body_of, looked}
use Rattle.ring_messages.specs.Bodies.{Ask, Answer, body_of_answer, copy_wants}
use Rattle.page_server.specs.Decisions.{decide}
use Rattle.page_server.specs.Serving.{HomeSide}

-- an answer with a page
abbrev pub is_page : Answer → Bool
is_page (Answer.Page stamp bytes) = true
is_page _ = false

-- what an answer says was done
abbrev pub is_stored : Answer → Bool
is_stored (Answer.Stored stamp) = true
is_stored _ = false

abbrev pub is_grant : Answer → Bool
is_grant (Answer.Granted grant stamp kind room n) = true
is_grant _ = false

abbrev pub is_made : Answer → Bool
is_made (Answer.Made u) = true
is_made _ = false

-- a decision may want memory for a page that it answers or stores, for a row of a full table, for an object, and for a list
abbrev pub decision_wants : Ask → Table → Answer → Bool
decision_wants (Ask.PageIn u page) locks answer = is_page answer
decision_wants (Ask.PageOut u page grant base bytes) locks answer = is_stored answer
decision_wants (Ask.AttrOut u n grant base) locks answer = false
decision_wants (Ask.Lock u mode) locks answer = is_grant answer && nat_le ROOM (length locks.grants)
decision_wants (Ask.Unlock u) locks answer = false
decision_wants (Ask.Remove u) locks answer = false
decision_wants (Ask.Make kind room) locks answer = is_made answer
decision_wants (Ask.ListLocks after) locks answer = true

-- an answer that was kept wants memory only where it is a page or a list
abbrev pub kept_wants : Option Answer → Bool
kept_wants None = false
kept_wants (Some answer) = copy_wants (body_of_answer answer)

abbrev pub wants_as : Looked → HomeSide → ProcName → Ask → Bool
wants_as Fresh side p ask = decision_wants ask side.locks (decide side.home side.locks p ask).answer
wants_as Again side p ask = kept_wants (body_of p side.served)
wants_as Old side p ask = false

-- the request of this number may want memory
abbrev pub may_want : HomeSide → ProcName → ℕ → Ask → Bool
may_want side p number ask = wants_as (looked number (last_of p side.served)) side p ask
