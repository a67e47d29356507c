-- What a process asks is in the ranges of operations.
use Rattle.std.proofs.Common.{◌≡◌, ℕ, ◌-◌, ◌≤◌, ◌<◌, Bool, true, false, Option, Some, None, List, [], ◌∷◌, ◌++◌, length, take, drop, map, reverse, refl, subst, arith, length-take, length-drop}
use Rattle.std.specs.Prelude.{max, nat_le, All, IfSome, filter, unwrap_or, cond}
use Rattle.std.specs.Str.{bytes_eq}
use Rattle.std.proofs.lemmas.Bool.Decides.{nat_tests}
use Rattle.std.proofs.lemmas.List.Elements.{All-head, All-tail, All-map, All-filter, All-weaker}
use Rattle.std.proofs.lemmas.List.{length-map, get_or-map}
use Rattle.uid_names.specs.Names.{ProcName, ObjectName, IsName, same_proc}
use Rattle.uid_names.specs.declared.limits.TheConstants.{PAGE_BYTES, MAX_NODES}
use Rattle.uid_names.specs.declared.lock_row.LockRow.{LockRow}
use Rattle.uid_names.specs.declared.opening.Object.{Object}
use Rattle.dom_history.specs.Fitting.{can_have}
use Rattle.dom_history.specs.declared.op.Spot.{Spot}
use Rattle.dom_history.specs.declared.op.Spot.TheVariants.{Of, Addr}
use Rattle.dom_history.specs.declared.op.Op.{Op}
use Rattle.dom_history.specs.declared.op.Op.TheVariants as ops
use Rattle.dom_history.specs.declared.op.Reply.{Reply}
use Rattle.dom_history.specs.declared.op.Reply.TheVariants.{Made, Fine, Locks}
use Rattle.dom_history.specs.Ranges.{IsOp, IsWant, IsSpot, IsNodeNumber, IsRowName, AreNamedReplies, offset_in_page}
use Rattle.dom_history.specs.Follows.{Heard}
use Rattle.script_reader.specs.declared.command.Command.{Command}
use Rattle.script_reader.specs.declared.command.Command.TheVariants.{New, Lock, Unlock, Delete, Load, Store, Length, Map, Unmap, Loadat, Storeat, Bind, Wd, Llkob}
use Rattle.script_reader.specs.declared.script.VarRow.{VarRow}
use Rattle.script_reader.specs.declared.script.CommandRow.{CommandRow}
use Rattle.script_reader.specs.Scripts.{Content, IsContent, IsObject}
use Rattle.script_reader.specs.Variables.{declared_object}
use Rattle.script_reader.specs.Commands.{IsHome, IsCommandRow}
use Rattle.command_talks.specs.Dialogues.{Dialogue, Ends as Finished, Asks as Asking}
use Rattle.naming_tree.specs.declared.step.Walked.TheVariants.{At}
use Rattle.naming_tree.specs.declared.step.NameResult.TheVariants as results
use Rattle.command_talks.specs.declared.outcome.Outcome.{Outcome}
use Rattle.command_talks.specs.declared.outcome.Outcome.TheVariants.{Replied, Came, Written}
use Rattle.aegis_shell.specs.declared.working.Working.{Working}
use Rattle.aegis_shell.specs.Bound.{Bound, bind}
use Rattle.aegis_shell.specs.Work.{Job, Part, part_of, variable, object_in, or_else, object_of, job_of}
use Rattle.command_talks.specs.Ranges.{IsRanged}
use Rattle.aegis_shell.specs.Ranges.{IsJob, AreJobs}
use Rattle.aegis_shell.specs.Operations.{page_rest, behind, loads, loads_if, stores, stores_if, on_object, ops_of}
use Rattle.aegis_shell.specs.AnswerTexts.{is_done, together, path_too_long}
use Rattle.aegis_shell.specs.Outcomes.{bound_by, bind_if, lock_texts, standing_after}
use Rattle.command_talks.specs.Commands.{talks, is_sound, dialogue_for}
use Rattle.aegis_shell.specs.Plans.{Plan, Makes, Talks, Lists, Writes, makes, is_long, plan_of}
use Rattle.aegis_shell.specs.RangeTests.{is_op, is_row, is_uid}
use Rattle.aegis_shell.specs.Standing.{Standing, site_of, first_standing}
use Rattle.aegis_shell.specs.Asking.{Told, Reached, behind_phases, Course, Asks, Ends, on_reply, carry_out, on_said, converse, is_more, last_row, list_locks, carry, plan_at, course_of, on_course, on_phases, reach, ask}
use Rattle.aegis_shell.proofs.RangeTests.{op_is, row_is, uid_is}
use Rattle.aegis_shell.proofs.Parts.{jobs_ranged}

-- what variables stand for has a name
abbrev pub AreNames : Bound → Type 0
AreNames bound = (var : List ℕ) → IfSome (bound var) IsName

-- operations in their ranges
abbrev pub AreOps : List Op → Type 0
AreOps [] = Unit {0}
AreOps (op ∷ rest) = IsOp op × AreOps rest

abbrev pub AreGiven : Option (List Op) → Type 0
AreGiven None = Unit {0}
AreGiven (Some list) = AreOps list

-- a spot begins in its page, and behind the rest of its page another page begins
in_page : (spot : Spot) → offset_in_page spot < PAGE_BYTES
in_page (Of u o) = omega arith
in_page (Addr a) = omega arith

border : (spot : Spot) → offset_in_page (behind spot (page_rest spot)) ≡ 0
border (Of u o) = omega arith
border (Addr a) = omega arith

-- and it names the same object there
behind-spot : (spot : Spot) (n : ℕ) → IsSpot spot → IsSpot (behind spot n)
behind-spot (Of u o) n named = named
behind-spot (Addr a) n named = tt

loads_ranged : (b : Bool) (spot : Spot) (n : ℕ) → nat_le n (page_rest spot) ≡ b → IsSpot spot → 1 ≤ n → n ≤ PAGE_BYTES → AreOps (loads_if b spot n)
loads_ranged true spot n fits named some few =
    let start = in_page spot in
    let short : n ≤ page_rest spot = grind (arith, nat_tests) in
    ((named, (some, omega arith)), tt)
loads_ranged false spot n passes named some few =
    let start = in_page spot in
    let next = border spot in
    let long : page_rest spot < n = grind (arith, nat_tests) in
    ((named, (omega arith, omega arith)), ((behind-spot spot (page_rest spot) named, (omega arith, omega arith)), tt))

stores_ranged : (b : Bool) (spot : Spot) (text : List ℕ) → nat_le (length text) (page_rest spot) ≡ b → IsSpot spot → 1 ≤ length text → length text ≤ PAGE_BYTES → AreOps (stores_if b spot text)
stores_ranged true spot text fits named some few =
    let start = in_page spot in
    let short : length text ≤ page_rest spot = grind (arith, nat_tests) in
    ((named, (some, omega arith)), tt)
stores_ranged false spot text passes named some few =
    let start = in_page spot in
    let next = border spot in
    let long : page_rest spot < length text = grind (arith, nat_tests) in
    let front : length (take (page_rest spot) text) ≡ page_rest spot = omega (arith, length-take (page_rest spot) text) in
    let back : length (drop (page_rest spot) text) ≡ length text - page_rest spot = length-drop (page_rest spot) text in
    ((named, (omega arith, omega arith)), ((behind-spot spot (page_rest spot) named, (omega arith, omega arith)), tt))

given_on : (make : ObjectName → List Op) (uid : Option ObjectName) → IfSome uid IsName → ((u : ObjectName) → IsName u → AreOps (make u)) → AreGiven (on_object make uid)
given_on make None named ranged = tt
given_on make (Some u) named ranged = ranged u named

-- the node of a command, or else that of its process
at_node : (node : ℕ) (home : Option ℕ) → IsNodeNumber node → IsHome MAX_NODES home → IsNodeNumber (unwrap_or home node)
at_node node None own named = own
at_node node (Some home) own named = named

-- the operations of a command in its ranges
pub ops_ranged : (node : ℕ) (c : Command) (uid : Option ObjectName) → IsNodeNumber node → IfSome uid IsName → IsRanged c → AreGiven (ops_of node c uid)
ops_ranged node (New var room home) uid own named h = ((at_node node home own h.1.1.0, h.1.0), tt)
ops_ranged node (Lock var mode) uid own named h = given_on (λ u. ops.Lock u mode ∷ []) uid named (λ u is. (is, tt))
ops_ranged node (Unlock var) uid own named h = given_on (λ u. ops.Unlock u ∷ []) uid named (λ u is. (is, tt))
ops_ranged node (Delete var) uid own named h = given_on (λ u. ops.Delete u ∷ []) uid named (λ u is. (is, tt))
ops_ranged node (Load var offset count) uid own named h = given_on (λ u. loads (Of u offset) count) uid named (λ u is. loads_ranged _ (Of u offset) count refl is h.1.1.0.0 h.1.1.0.1)
ops_ranged node (Store var offset text) uid own named h = given_on (λ u. stores (Of u offset) text) uid named (λ u is. stores_ranged _ (Of u offset) text refl is h.1.1.0.0 h.1.1.0.1)
ops_ranged node (Length var) uid own named h = given_on (λ u. ops.Length u ∷ []) uid named (λ u is. (is, tt))
ops_ranged node (Map var) uid own named h = given_on (λ u. ops.Map u ∷ []) uid named (λ u is. (is, tt))
ops_ranged node (Unmap var) uid own named h = given_on (λ u. ops.Unmap u ∷ []) uid named (λ u is. (is, tt))
ops_ranged node (Loadat address count) uid own named h = loads_ranged _ (Addr address) count refl tt h.1.0.0 h.1.0.1
ops_ranged node (Storeat address text) uid own named h = stores_ranged _ (Addr address) text refl tt h.1.0.0 h.1.0.1
ops_ranged node _ uid own named h = tt

-- an operation that a command asks for is in its ranges
abbrev IsRangedCourse : Course → Type 0
IsRangedCourse (Asks op) = IsOp op
IsRangedCourse (Ends outcome told) = Unit {0}

replied_ranged : (done : Bool) (reply : Reply) (told : Told) (course : Course) → IsRangedCourse course → IsRangedCourse (on_reply done reply told course)
replied_ranged true reply told course ranged = ranged
replied_ranged false reply told course ranged = tt

carried_ranged : (earlier : Reply) (list : List Op) (told : Told) → AreOps list → IsRangedCourse (carry_out earlier list told)
carried_ranged earlier [] told ranged = tt
carried_ranged earlier (op ∷ rest) [] ranged = ranged.0
carried_ranged earlier (op ∷ rest) (None ∷ told) ranged = carried_ranged earlier rest told ranged.1
carried_ranged earlier (op ∷ rest) (Some reply ∷ told) ranged =
    replied_ranged (is_done reply) reply told (carry_out (together earlier reply) rest told) (carried_ranged (together earlier reply) rest told ranged.1)

-- a dialogue asks in its ranges, since it would end otherwise
said_ranged : (fits : Bool) (reply : Reply) (told : Told) (course : Course) → IsRangedCourse course → IsRangedCourse (on_said fits (Some reply) told course)
said_ranged true reply told course ranged = ranged
said_ranged false reply told course ranged = tt

chosen_ranged : (on : Bool) (further ended : Course) → (on ≡ true → IsRangedCourse further) → IsRangedCourse ended → IsRangedCourse (cond on further ended)
chosen_ranged true further ended h k = h refl
chosen_ranged false further ended h k = k

talked_ranged : (d : Dialogue) (told : Told) → IsRangedCourse (converse d told)
talked_ranged (Finished outcome) told = tt
talked_ranged (Asking op further) [] = chosen_ranged (is_op op) (Asks op) (Ends (Replied Fine) []) (λ r. op_is op r) tt
talked_ranged (Asking op further) (None ∷ told) = chosen_ranged (is_op op) (Ends (Replied Fine) told) (Ends (Replied Fine) (None ∷ told)) (λ r. tt) tt
talked_ranged (Asking op further) (Some reply ∷ told) =
    chosen_ranged (is_op op) (on_said (can_have op reply) (Some reply) told (converse (further reply) told)) (Ends (Replied Fine) (Some reply ∷ told))
    (λ r. said_ranged (can_have op reply) reply told (converse (further reply) told) (talked_ranged (further reply) told)) tt

-- so does a list of locks, behind a row that is named
row_named : (row : LockRow) (named : Bool) → is_row row ≡ named → IfSome (cond named (Some (row.uid, row.proc)) None) IsRowName
row_named row true h = row_is row h
row_named row false h = tt

last_named : (rows : List LockRow) → IfSome (last_row rows) IsRowName
last_named [] = tt
last_named (row ∷ []) = row_named row (is_row row) refl
last_named (row ∷ (next ∷ rows)) = last_named (next ∷ rows)

listed_ranged : (names : List (List ℕ)) (home : ℕ) (last : Option (ObjectName × ProcName)) (text : List ℕ) (told : Told)
    → IsNodeNumber home → IfSome last IsRowName → IsRangedCourse (list_locks names home last text told)
listed_ranged names home last text [] at row = (at, row)
listed_ranged names home last text (None ∷ told) at row = tt
listed_ranged names home last text (Some (Locks rows more) ∷ told) at row =
    let grown = text ++ lock_texts names rows in
    chosen_ranged (is_more rows more) (list_locks names home (last_row rows) grown told) (Ends (Written grown) told)
    (λ r. listed_ranged names home (last_row rows) grown told at (last_named rows)) tt
listed_ranged names home last text (Some reply ∷ told) at row = tt

-- a plan of a command in its ranges
abbrev IsRangedPlan : Plan → Type 0
IsRangedPlan (Makes list) = AreOps list
IsRangedPlan Talks = Unit {0}
IsRangedPlan (Lists home) = IsNodeNumber home
IsRangedPlan (Writes text) = Unit {0}

made_ranged : (list : Option (List Op)) → AreGiven list → IsRangedPlan (makes list)
made_ranged None h = tt
made_ranged (Some list) h = h

chosen_plan : (t long sound : Bool) (list : Option (List Op)) (text : List ℕ) → AreGiven list → IsRangedPlan (cond t (cond long (Writes text) (cond sound Talks (Writes []))) (makes list))
chosen_plan true true sound list text h = tt
chosen_plan true false true list text h = tt
chosen_plan true false false list text h = tt
chosen_plan false long sound list text h = made_ranged list h

plan_ranged : (part : Part) (working : Working) (uid : Option ObjectName) (command : Command) → IsNodeNumber part.node → IfSome uid IsName → IsRanged command → IsRangedPlan (plan_of part working uid command)
plan_ranged part working uid (Wd None) own named h = tt
plan_ranged part working uid (Llkob node) own named h = h.0
plan_ranged part working uid command own named h =
    chosen_plan (talks command) (is_long part working command) (is_sound command) (ops_of part.node command uid) path_too_long (ops_ranged part.node command uid own named h)

course_in_range : (part : Part) (at : Standing) (command : Command) (plan : Plan) (told : Told) → IsRangedPlan plan → IsRangedCourse (carry part at command plan told)
course_in_range part at command (Makes list) told h = carried_ranged Fine list told h
course_in_range part at command Talks told h = talked_ranged (dialogue_for part.guard (site_of part) at.working.dir command) told
course_in_range part at command (Lists home) told h = listed_ranged part.names home None _ told h tt
course_in_range part at command (Writes text) told h = tt

-- a variable that is bound to a name leaves names
bind-named : (var : List ℕ) (u : ObjectName) (bound : Bound) → IsName u → AreNames bound → AreNames (bind var u bound)
bind-named var u bound named others other = by_test (bytes_eq var other) where
  by_test : (same : Bool) → IfSome (cond same (Some u) (bound other)) IsName
  by_test true = named
  by_test false = others other

found-named : (var : List ℕ) (u : ObjectName) (bound : Bound) (named : Bool) → is_uid u ≡ named → AreNames bound → AreNames (bind_if (cond named (Some (var, u)) None) bound)
found-named var u bound true h others = bind-named var u bound (uid_is u h) others
found-named var u bound false h others = others

bound_after-named : (c : Command) (outcome : Outcome) (bound : Bound) → AreNames bound → AreNames (bind_if (bound_by c outcome) bound)
bound_after-named (New var room home) (Replied (Made u)) bound others = found-named var u bound (is_uid u) refl others
bound_after-named (Bind var path) (Came (results.Found (At u kind within))) bound others = found-named var u bound (is_uid u) refl others
bound_after-named _ _ bound others = others

-- what a process wants at a job, if what it wants behind the job is in its ranges
module _ (part : Part) (command : Command) (at : Standing) (named : AreNames at.bound) (further : Standing → Told → Reached)
    (behind_it : (st : Standing) (t : Told) → AreNames st.bound → IsWant (further st t).want) where
  course_ranged : (course : Course) → IsRangedCourse course → IsWant (on_course part command at further course).want
  course_ranged (Asks op) h = h
  course_ranged (Ends outcome told) h = behind_it (standing_after part command outcome at) told (bound_after-named command outcome at.bound named)

phases_ranged : (further : Told → Reached) → ((t : Told) → IsWant (further t).want) → (told : Option Told) → IsWant (on_phases further told).want
phases_ranged further behind_it None = tt
phases_ranged further behind_it (Some told) = behind_it told

-- the object of a job
object-named : (job : Job) (bound : Bound) → IfSome job.declared IsName → AreNames bound → IfSome (object_of job bound) IsName
object-named job bound declared named = by_declared job.declared declared where
  by_variable : (var : Option (List ℕ)) → IfSome (object_in bound var) IsName
  by_variable None = tt
  by_variable (Some var) = named var

  by_declared : (o : Option ObjectName) → IfSome o IsName → IfSome (or_else o (object_in bound (variable job.command))) IsName
  by_declared None h = by_variable (variable job.command)
  by_declared (Some u) h = h

-- a job names an object
abbrev pub IsNamedJob : Job → Type 0
IsNamedJob job = IfSome job.declared IsName

pub reach_ranged : (part : Part) (phase : ℕ) (at : Standing) (jobs : List Job) (told : Told)
    → IsNodeNumber part.node → AreNames at.bound → All IsNamedJob jobs → AreJobs jobs → IsWant (reach part phase at jobs told).want
reach_ranged part phase at [] told own named jobs_named ranged = tt
reach_ranged part phase at (job ∷ jobs) told own named jobs_named ranged =
    let further = λ (st : Standing) (t : Told). reach part (max phase job.phase) st jobs t in
    let here = All-head IsNamedJob job jobs jobs_named in
    let plan = plan_ranged part at.working (object_of job at.bound) job.command own (object-named job at.bound here named) (All-head IsJob job jobs ranged).command in
    phases_ranged (λ t. on_course part job.command at further (course_of part at job t))
    (λ t. course_ranged part job.command at named further
    (λ st u b_named. reach_ranged part (max phase job.phase) st jobs u own b_named (All-tail IsNamedJob job jobs jobs_named) (All-tail IsJob job jobs ranged))
    (course_of part at job t) (course_in_range part at job.command (plan_at part at job) t plan))
    (behind_phases (job.phase - phase) told)

-- declared objects have names
declared-named : (rows : List VarRow) → All (λ row. IsName row.uid) rows → AreNames (declared_object rows)
declared-named [] named var = tt
declared-named (row ∷ rows) named var =
    by_test (bytes_eq row.var var) (All-head (λ r. IsName r.uid) row rows named) (declared-named rows (All-tail (λ r. IsName r.uid) row rows named) var)
  where
    by_test : (same : Bool) → IsName row.uid → IfSome (declared_object rows var) IsName → IfSome (cond same (Some row.uid) (declared_object rows var)) IsName
    by_test true here later = here
    by_test false here later = later

variable-named : (bound : Bound) (var : Option (List ℕ)) → AreNames bound → IfSome (object_in bound var) IsName
variable-named bound None named = tt
variable-named bound (Some var) named = named var

-- those of a script do
objects_named : (s : Content) → IsContent s → All (λ row. IsName row.uid) s.objects
objects_named s content k d below =
    let uids : All IsName (map (λ o. o.uid) s.opening.objects) =
    All-map IsName (λ (o : Object). o.uid) s.opening.objects (All-weaker (IsObject (length s.nodes)) (λ o. IsName o.uid) (λ o h. h.name) s.opening.objects content.draft.files) in
    let rows : All IsName (map (λ row. row.uid) s.objects) = rw content.draft.vars_of uids in
    let at = get_or-map (λ (row : VarRow). row.uid) s.objects k d d.uid below in
    subst IsName at (rows k d.uid (omega (arith, below, length-map s.objects (λ (row : VarRow). row.uid))))

-- the jobs of a process of a script name objects
jobs_named : (s : Content) (p : ProcName) → IsContent s → All IsNamedJob (map (job_of (declared_object s.objects)) (filter (λ row. same_proc row.proc p) s.commands))
jobs_named s p content =
    let declared = declared_object s.objects in
    let own = λ (row : CommandRow). same_proc row.proc p in
    let objects : AreNames declared = declared-named s.objects (objects_named s content) in
    All-map IsNamedJob (job_of declared) (filter own s.commands)
    (All-filter own (λ row. IsNamedJob (job_of declared row)) s.commands
    (All-weaker (IsCommandRow (length s.nodes) s.phases) (λ row. IsNamedJob (job_of declared row))
    (λ row h. variable-named declared (variable row.command) objects) s.commands content.draft.commands))

-- what a process of a script asks
pub ask_ranged : (s : Content) (p : ProcName) (heard : Heard) → IsContent s → IsNodeNumber p.node → AreNamedReplies heard → IsWant (ask s p heard)
ask_ranged s p heard content own named =
    reach_ranged (part_of s p) 1 (first_standing (part_of s p)) (part_of s p).jobs (reverse heard) own (λ var. tt) (jobs_named s p content)
    (jobs_ranged s (declared_object s.objects) p content)
