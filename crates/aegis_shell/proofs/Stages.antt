-- A command goes on from each of its stages as its course does.
use Rattle.std.proofs.Common.{◌≡◌, ℕ, Bool, true, false, cond, Option, Some, None, List, [], ◌∷◌, ◌++◌, refl, ap, ◌∙◌, sym, subst}
use Rattle.uid_names.specs.Names.{ObjectName, ProcName}
use Rattle.dom_history.specs.Fitting.{can_have}
use Rattle.dom_history.specs.declared.op.Op.{Op}
use Rattle.dom_history.specs.declared.op.Op.TheVariants as ops
use Rattle.dom_history.specs.declared.op.Reply.{Reply}
use Rattle.dom_history.specs.declared.op.Reply.TheVariants.{Fine, Bytes, Locks}
use Rattle.naming_tree.specs.Turns.{FitsAsked}
use Rattle.aegis_shell.specs.AnswerTexts.{is_done, together, so_far}
use Rattle.aegis_shell.specs.Asking.{Told, Course, Asks, Ends, on_reply, carry_out, on_said, converse, is_more, last_row, list_locks}
use Rattle.command_talks.specs.Dialogues.{Dialogue, Ends as Finished, Asks as Asking, asked, told as told_to}
use Rattle.aegis_shell.specs.Operations.{first_of, second_of}
use Rattle.aegis_shell.specs.Outcomes.{lock_texts}
use Rattle.aegis_shell.specs.RangeTests.{is_op}
use Rattle.aegis_shell.specs.States.{Going, Goes, Comes, on_turn, is_granted, on_first, on_second, may_be, on_talk, on_list, goes_on, op_in}
use Rattle.command_talks.specs.Talks as turns
use Rattle.command_talks.specs.Talks.{talk_asks, talk_turn}
use Rattle.command_talks.specs.declared.outcome.Outcome.TheVariants.{Replied, Written}
use Rattle.aegis_shell.specs.declared.stage.Stage.{Stage}
use Rattle.aegis_shell.specs.declared.stage.Stage.TheVariants.{Between, First, Second, Talks as Talking, Lists as Listing}
use Rattle.command_talks.specs.declared.talk.Talk.{Talk}
use Rattle.aegis_shell.proofs.Counts.{IsShort}
use Rattle.command_talks.proofs.Talking.{TalkSim, TalkOn, talk_next, talk_asked}

-- a course that carries these operations out
pub record OnFirst (list : Option (List Op)) (c : Told → Course) : Type 0 where
  pub ops : List Op
  pub are : list ≡ Some ops
  pub short : IsShort ops
  pub course : (told : Told) → c told ≡ carry_out Fine ops told

-- one behind its first operation, which had this reply
pub record OnSecond (list : Option (List Op)) (reply : Reply) (c : Told → Course) : Type 0 where
  pub op : Op
  pub next : second_of list ≡ Some op
  pub course : (told : Told) → c told ≡ carry_out reply (op ∷ []) told

-- one of a machine that stands where a dialogue does
pub record OnTalk (talk : Talk) (c : Told → Course) : Type 0 where
  pub dialogue : Dialogue
  pub sim : TalkSim talk dialogue
  pub op : Op
  pub said : asked dialogue ≡ Some op
  pub ranged : is_op op ≡ true
  pub course : (told : Told) → c told ≡ converse dialogue told

-- the course on which a command is at a stage; these are its operations, if it makes one or two
abbrev pub OnCourse : List (List ℕ) → Option (List Op) → Stage → (Told → Course) → Type 0
OnCourse names list Between c = ⊥
OnCourse names list First c = OnFirst list c
OnCourse names list (Second reply) c = OnSecond list reply c
OnCourse names list (Talking talk) c = OnTalk talk c
OnCourse names list (Listing home last text) c = (told : Told) → c told ≡ list_locks names home last text told

-- what comes of it is what comes of its course
abbrev pub Leads : List (List ℕ) → Option (List Op) → Going → (Told → Course) → Type 0
Leads names list (Goes stage) c = OnCourse names list stage c
Leads names list (Comes outcome) c = (told : Told) → c told ≡ Ends outcome told

-- an operation is asked for
pub record AsksNow (list : Option (List Op)) (stage : Stage) (c : Told → Course) : Type 0 where
  pub op : Op
  pub there : op_in list stage ≡ Some op
  pub asked : c [] ≡ Asks op

first_asks : (ops : List Op) → IsShort ops → (op : Op) × ((first_of (Some ops) ≡ Some op) × (carry_out Fine ops [] ≡ Asks op))
first_asks [] short = elim short [ ]
first_asks (op ∷ rest) short = (op, (refl, refl))

does : (d : Dialogue) (op : Op) → asked d ≡ Some op → (further : Reply → Dialogue) × (d ≡ Asking op further)
does (Finished outcome) op e = cc
does (Asking other further) op e = let same : other ≡ op = cc in (further, ap (λ (o : Op). Asking o further) same)

pub asks_now : (names : List (List ℕ)) (list : Option (List Op)) (stage : Stage) (c : Told → Course) → OnCourse names list stage c → AsksNow list stage c
asks_now names list Between c on = absurd on
asks_now names list First c on =
    let asks = first_asks on.ops on.short in
    record { op = asks.0; there = ap first_of on.are ∙ asks.1.0; asked = on.course [] ∙ asks.1.1 }
asks_now names list (Second reply) c on = record { op = on.op; there = on.next; asked = on.course [] }
asks_now names list (Talking talk) c on =
    let asking = does on.dialogue on.op on.said in
    record {
      op = on.op;
      there = talk_asked talk on.dialogue on.sim ∙ on.said;
      asked = on.course [] ∙ (ap (λ (d : Dialogue). converse d []) asking.1 ∙ ap (λ b. cond b (Asks on.op) (Ends (Replied Fine) [])) on.ranged);
    }
asks_now names list (Listing home last text) c on = record { op = ops.List home last; there = refl; asked = on [] }

-- a dialogue that asked out of its ranges would end
pub out_of_range : (op : Op) (further : Reply → Dialogue) (told : Told) → is_op op ≡ false → converse (Asking op further) told ≡ Ends (Replied Fine) told
out_of_range op further [] r = ap (λ b. cond b (Asks op) (Ends (Replied Fine) [])) r
out_of_range op further (None ∷ told) r = ap (λ b. cond b (Ends (Replied Fine) told) (Ends (Replied Fine) (None ∷ told))) r
out_of_range op further (Some reply ∷ told) r =
    ap (λ b. cond b (on_said (can_have op reply) (Some reply) told (converse (further reply) told)) (Ends (Replied Fine) (Some reply ∷ told))) r

pub in_range_none : (op : Op) (further : Reply → Dialogue) (told : Told) → is_op op ≡ true → converse (Asking op further) (None ∷ told) ≡ Ends (Replied Fine) told
in_range_none op further told r = ap (λ b. cond b (Ends (Replied Fine) told) (Ends (Replied Fine) (None ∷ told))) r

pub in_range_some : (op : Op) (further : Reply → Dialogue) (reply : Reply) (told : Told) → is_op op ≡ true
    → converse (Asking op further) (Some reply ∷ told) ≡ on_said (can_have op reply) (Some reply) told (converse (further reply) told)
in_range_some op further reply told r =
    ap (λ b. cond b (on_said (can_have op reply) (Some reply) told (converse (further reply) told)) (Ends (Replied Fine) (Some reply ∷ told))) r

-- a refusal stands alone
refused_alone : (earlier reply : Reply) → is_done reply ≡ false → together earlier reply ≡ reply
refused_alone (Bytes first) (Bytes second) refused = cc
refused_alone earlier reply refused = refl

-- a command behind its last operation
last_done : (earlier reply : Reply) (future : Told) → on_reply (is_done reply) reply future (Ends (Replied (together earlier reply)) future) ≡ Ends (Replied (together earlier reply)) future
last_done earlier reply future = by_reply (is_done reply) refl where
  by_reply : (done : Bool) → is_done reply ≡ done → on_reply done reply future (Ends (Replied (together earlier reply)) future) ≡ Ends (Replied (together earlier reply)) future
  by_reply true is = refl
  by_reply false is = ap (λ (r : Reply). Ends (Replied r) future) (sym (refused_alone earlier reply is))

alone : (reply : Reply) → together Fine reply ≡ reply
alone reply = refl

module _ (names : List (List ℕ)) (list : Option (List Op)) where
  one_ends : (op : Op) (told : Option Reply) (future : Told) → carry_out Fine (op ∷ []) (told ∷ future) ≡ Ends (Replied (so_far told)) future
  one_ends op None future = refl
  one_ends op (Some reply) future = last_done Fine reply future

  first_goes : (c : Told → Course) (ops : List Op) (told : Option Reply) → list ≡ Some ops → IsShort ops → ((future : Told) → c future ≡ carry_out Fine ops future)
      → Leads names list (on_first (is_granted told) (second_of (Some ops)) told) (λ future. c (told ∷ future))
  first_goes c [] told are short course = elim short [ ]
  first_goes c (op ∷ []) told are short course = by_granted (is_granted told) where
    by_granted : (granted : Bool) → Leads names list (on_first granted None told) (λ future. c (told ∷ future))
    by_granted true = λ future. course (told ∷ future) ∙ one_ends op told future
    by_granted false = λ future. course (told ∷ future) ∙ one_ends op told future
  first_goes c (op ∷ (next ∷ [])) told are short course = by_told told where
    on_two : (reply : Reply) (done : Bool) → is_done reply ≡ done → Leads names list (on_first done (Some next) (Some reply)) (λ future. c (Some reply ∷ future))
    on_two reply true is = record {
      op = next;
      next = ap second_of are;
      course = λ future. course (Some reply ∷ future) ∙ ap (λ done. on_reply done reply future (carry_out reply (next ∷ []) future)) is;
    }
    on_two reply false is = λ future. course (Some reply ∷ future) ∙ ap (λ done. on_reply done reply future (carry_out reply (next ∷ []) future)) is

    by_told : (told : Option Reply) → Leads names list (on_first (is_granted told) (Some next) told) (λ future. c (told ∷ future))
    by_told None = record { op = next; next = ap second_of are; course = λ future. course (None ∷ future) }
    by_told (Some reply) = on_two reply (is_done reply) refl
  first_goes c (op ∷ (next ∷ (third ∷ more))) told are short course = elim short [ ]

  second_goes : (c : Told → Course) (op : Op) (first : Reply) (told : Option Reply) → ((future : Told) → c future ≡ carry_out first (op ∷ []) future) → Leads names list (on_second first told) (λ future. c (told ∷ future))
  second_goes c op first None course = λ future. course (None ∷ future)
  second_goes c op first (Some reply) course = λ future. course (Some reply ∷ future) ∙ last_done first reply future

  -- a machine that was told this goes on as its dialogue
  asks_on : (c : Told → Course) (talk : Talk) (op : Op) (d : Dialogue) → asked d ≡ Some op → TalkSim talk d → ((future : Told) → c future ≡ converse d future)
      → Leads names list (cond (is_op op) (Goes (Talking talk)) (Comes (Replied Fine))) c
  asks_on c talk op d said sim course = by_range (is_op op) refl where
    asking : (further : Reply → Dialogue) × (d ≡ Asking op further)
    asking = does d op said

    by_range : (b : Bool) → is_op op ≡ b → Leads names list (cond b (Goes (Talking talk)) (Comes (Replied Fine))) c
    by_range true r = record { dialogue = d; sim = sim; op = op; said = said; ranged = r; course = course }
    by_range false r = λ future. course future ∙ (ap (λ (x : Dialogue). converse x future) asking.1 ∙ out_of_range op asking.0 future r)

  pub stepped : (c : Told → Course) (turn : Option turns.Turn) (d : Dialogue) → TalkOn turn d → ((future : Told) → c future ≡ converse d future) → Leads names list (on_turn turn) c
  stepped c None d on course = absurd on
  stepped c (Some (turns.Comes outcome)) d on course = λ future. course future ∙ ap (λ (x : Dialogue). converse x future) on
  stepped c (Some (turns.Goes talk op)) d on course = asks_on c talk op d on.0 on.1 course

  talk_goes_on : (c : Told → Course) (talk : Talk) (told : Option Reply) → OnTalk talk c → Leads names list (on_talk (may_be (talk_asks talk) told) talk told) (λ future. c (told ∷ future))
  talk_goes_on c talk told on =
      subst (λ (found : Option Op). Leads names list (on_talk (may_be found told) talk told) (λ future. c (told ∷ future))) (sym (talk_asked talk on.dialogue on.sim ∙ on.said)) (by_told told)
    where
      further : Reply → Dialogue
      further = (does on.dialogue on.op on.said).0

      left : on.dialogue ≡ Asking on.op further
      left = (does on.dialogue on.op on.said).1

      heard_so : (told : Option Reply) (future : Told) → c (told ∷ future) ≡ converse (Asking on.op further) (told ∷ future)
      heard_so told future = on.course (told ∷ future) ∙ ap (λ (x : Dialogue). converse x (told ∷ future)) left

      by_test : (reply : Reply) (fits : Bool) → can_have on.op reply ≡ fits → Leads names list (on_talk fits talk (Some reply)) (λ future. c (Some reply ∷ future))
      by_test reply true is =
          let fitting : FitsAsked (asked on.dialogue) (Some reply) = subst (λ (found : Option Op). FitsAsked found (Some reply)) (sym on.said) is in
          stepped (λ future. c (Some reply ∷ future)) (talk_turn talk (Some reply)) (told_to on.dialogue reply) (talk_next talk on.dialogue reply on.sim fitting)
          (λ future.
          heard_so (Some reply) future
          ∙ (in_range_some on.op further reply future on.ranged
          ∙ ap (λ fits. on_said fits (Some reply) future (converse (further reply) future)) is
          ∙ ap (λ (x : Dialogue). converse (told_to x reply) future) (sym left)))
      by_test reply false is = λ future. heard_so (Some reply) future ∙ in_range_some on.op further reply future on.ranged ∙ ap (λ fits. on_said fits (Some reply) future (converse (further reply) future)) is

      by_told : (told : Option Reply) → Leads names list (on_talk (may_be (Some on.op) told) talk told) (λ future. c (told ∷ future))
      by_told None = λ future. heard_so None future ∙ in_range_none on.op further future on.ranged
      by_told (Some reply) = by_test reply (can_have on.op reply) refl

  list_goes_on : (c : Told → Course) (home : ℕ) (last : Option (ObjectName × ProcName)) (text : List ℕ) (told : Option Reply) → ((future : Told) → c future ≡ list_locks names home last text future)
      → Leads names list (on_list names home text told) (λ future. c (told ∷ future))
  list_goes_on c home last text None course = λ future. course (None ∷ future)
  list_goes_on c home last text (Some (Locks rows more)) course = by_more (is_more rows more) refl where
    by_more : (b : Bool) → is_more rows more ≡ b
        → Leads names list (cond b (Goes (Listing home (last_row rows) (text ++ lock_texts names rows))) (Comes (Written (text ++ lock_texts names rows)))) (λ future. c (Some (Locks rows more) ∷ future))
    by_more true is = λ future.
        course (Some (Locks rows more) ∷ future)
        ∙ ap (λ b. cond b (list_locks names home (last_row rows) (text ++ lock_texts names rows) future) (Ends (Written (text ++ lock_texts names rows)) future)) is
    by_more false is = λ future.
        course (Some (Locks rows more) ∷ future)
        ∙ ap (λ b. cond b (list_locks names home (last_row rows) (text ++ lock_texts names rows) future) (Ends (Written (text ++ lock_texts names rows)) future)) is
  list_goes_on c home last text (Some reply) course = λ future. course (Some reply ∷ future)

  -- a command that is told something at a stage goes on as its course
  pub goes_with : (stage : Stage) (c : Told → Course) (told : Option Reply) → OnCourse names list stage c → Leads names list (goes_on names list stage told) (λ future. c (told ∷ future))
  goes_with Between c told on = absurd on
  goes_with First c told on =
      subst (λ (l : Option (List Op)). Leads names list (on_first (is_granted told) (second_of l) told) (λ future. c (told ∷ future))) (sym on.are)
      (first_goes c on.ops told on.are on.short on.course)
  goes_with (Second reply) c told on = second_goes c on.op reply told on.course
  goes_with (Talking talk) c told on = talk_goes_on c talk told on
  goes_with (Listing home last text) c told on = list_goes_on c home last text told on
