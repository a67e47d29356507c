-- Each good line leaves what lines before it left: a draft whose objects a store can begin with.
use Rattle.std.proofs.Common.{◌≡◌, ◌≢◌, ◌≤◌, ◌+◌, ℕ, Bool, true, false, cond, List, [], ◌∷◌, length, Option, Some, None, Result, Ok, Err, refl, subst, arith, rules}
use Rattle.std.specs.Prelude.{◌&&◌, not, nat_le, nat_lt, is_some, unwrap_or, if◌then◌else◌, IfSome, IfOk, MatchResult, codes, bytes_eq}
use Rattle.std.specs.List.{AllByRecursion, list_all}
use Rattle.std.proofs.lemmas.Bool.{and_parts, not-false}
use Rattle.std.proofs.lemmas.List.Elements.{All-nil}
use Rattle.uid_names.specs.NameTexts.{IsNameText}
use Rattle.uid_names.specs.Names.{same_proc, same_uid}
use Rattle.uid_names.specs.Openings.{IsDeclarable}
use Rattle.uid_names.specs.Rooms.{IsRoom}
use Rattle.uid_names.specs.Wires.{IsWire, wire_room}
use Rattle.uid_names.specs.Texts.{written_so}
use Rattle.uid_names.specs.declared.limits.TheConstants.{MAX_NODES, MAX_PHASES, NODE_PROCESSES, VOLUME_ROOM}
use Rattle.uid_names.specs.declared.opening.Object.{Object as ObjectRecord}
use Rattle.uid_names.proofs.InOrder.{AllPairs-nil}
use Rattle.dom_history.specs.Plans.{is_of_frame, is_set}
use Rattle.dom_history.specs.declared.plan.FateRow.{FateRow}
use Rattle.dom_text.specs.Cuts.{cut_at, cut_at_last}
use Rattle.dom_history.proofs.SetFates.{IsPlan-push}
use Rattle.dom_text.specs.Numbers.{number_spelled}
use Rattle.dom_text.specs.Tokens.{tokens_of}
use Rattle.dom_text.specs.declared.line.TextFault.{TextFault}
use Rattle.dom_text.specs.declared.line.TextFault.TheVariants.{Quote as QuoteFault}
use Rattle.dom_text.specs.declared.token.Token.{Token}
use Rattle.dom_text.specs.declared.token.Token.TheVariants.{Word, Text}
use Rattle.script_reader.specs.After.{after, fate_said}
use Rattle.script_reader.specs.Forms.{wire_form, node_form, object_form, fault_form, phase_form, access_form, subject_form, subject_words, fate_form, with_link, arguments_form, does_form}
use Rattle.script_reader.specs.Grammar.{AreGood, nothing, without_cr}
use Rattle.script_reader.specs.Judging.{has_begun, judged, judged_early, judged_first, judged_form, judged_place, judged_process, judged_saying, judged_text, judged_tokens, judged_verb}
use Rattle.script_reader.specs.Limits.{is_past_limit, pages_at}
use Rattle.script_reader.specs.NamesAsked.{has_name, is_no_name}
use Rattle.script_reader.specs.Commands.{IsCommandRow}
use Rattle.script_reader.specs.Fates.{IsFateRow}
use Rattle.script_reader.specs.NodeNames.{is_node_name, node_number}
use Rattle.script_reader.specs.Numbers.{has_room, has_number, is_fate, is_no_number}
use Rattle.script_reader.specs.Repeats.{is_fresh, is_repeated}
use Rattle.script_reader.specs.SaidCommands.{command_said}
use Rattle.script_reader.specs.Sayings.{Saying, Wire, Node, Object, Fault, Phase, Access, Subject, Does, SaidFate, Lose, Twice, Late}
use Rattle.script_reader.specs.Scripts.{Content, wire_of, IsNode, IsObject}
use Rattle.script_reader.specs.Shapes.{shape_of}
use Rattle.script_reader.specs.SpelledNumbers.{frames_spelled, index_spelled, late_spelled, process_spelled, within}
use Rattle.script_reader.specs.UnknownNames.{is_known, is_unknown, proc_of}
use Rattle.script_reader.specs.Walk.Formed.{AreFormed, AreFrames, HasForm, IsFateFound, IsFormed, IsIndex, IsLate, IsProcessNumber}
use Rattle.script_reader.specs.Subjects.{IsSubjectRow, has_subject}
use Rattle.script_reader.specs.Variables.{is_declared}
use Rattle.script_reader.specs.Words.{ProcessWord, are_digits, is_name, line_word_text, line_words, process_parts, process_word, verb_of}
use Rattle.script_reader.specs.declared.cause.Cause.TheVariants.{Number, Name, Unknown, Repeat, Limit, Place, TooLong}
use Rattle.script_reader.specs.declared.script.CommandRow.{CommandRow}
use Rattle.script_reader.specs.declared.script.NodeRow.{NodeRow}
use Rattle.script_reader.specs.declared.script.SubjectRow.{SubjectRow}
use Rattle.script_reader.specs.declared.script.VarRow.{VarRow}
use Rattle.script_reader.proofs.Arguing.{to_some, to_low, command_is, command_spoken, form_formed, found_is, node_is, nodes_known, room_found, within_is}
use Rattle.script_reader.proofs.Kept.{IsDraft-access, IsDraft-command, IsDraft-fate, IsDraft-phase, IsDraft-subject, name_text}
use Rattle.script_reader.proofs.Ranges.{both_true, fate_is, nodes_apart}
use Rattle.script_reader.proofs.Reading.{in_place}
use Rattle.run_journals.proofs.Drafts.{IsBegun, wire-begun, node-begun, object-begun}

-- none is there
none_there : (o : Option ℕ) → is_some o ≡ false → o ≡ None
none_there None none = refl
none_there (Some n) none = absurd cc

-- a line that passes the tests says what may be said
module _ (s : Content) (is : IsBegun s) where
  wire-said : (version : Option ℕ) → IfSome version IsWire → not (is_some version) ≡ false → is_some s.said_wire ≡ false → IsBegun (after s (Wire version))
  wire-said version formed numbers new = wire-begun s (unwrap_or version 0) is (found_is IsWire version formed (not-false (is_some version) numbers)) (none_there s.said_wire new)

  node-said : (name : List ℕ) (frames : Option ℕ) → IfSome frames AreFrames → not (is_some frames) ≡ false → not (is_name name) ≡ false → is_node_name s.nodes name ≡ false → nat_le MAX_NODES (length s.nodes) ≡ false
      → IsBegun (after s (Node name frames))
  node-said name frames formed numbers names new within =
      let found = found_is AreFrames frames formed (not-false (is_some frames) numbers) in
      node-begun s name (unwrap_or frames 0) is (not-false (is_name name) names) found.0 found.1 new (search (rules, within))

  object-said : (var : List ℕ) (room : Option ℕ) (home : List ℕ) → (s.commands ≡ []) × IfSome room IsRoom → not (has_room (wire_of s) room) ≡ false → not (is_name var && is_name home) ≡ false → not (is_node_name s.nodes home) ≡ false
      → is_declared s.objects var ≡ false → nat_lt VOLUME_ROOM (pages_at (node_number s.nodes home) s.opening.objects + unwrap_or room 0) ≡ false → IsBegun (after s (Object var room home))
  object-said var room home formed numbers names known new within =
      let at = node_is s.nodes home (not-false (is_node_name s.nodes home) known) in
      let has = not-false (has_room (wire_of s) room) numbers in
      let range = found_is IsRoom room formed.1 (to_some (wire_room (wire_of s)) room has) in
      let written = to_low (wire_room (wire_of s)) room has in
      object-begun s var (node_number s.nodes home) (unwrap_or room 0) is (both_true (is_name var) (is_name home) names).0 at.0 at.1 range written new formed.0 (search (rules, within))

  fault-said : (from to : List ℕ) (index : Option ℕ) (fate : SaidFate) → HasForm (Fault from to index fate) → not (is_some index && is_fate fate) ≡ false → not (is_node_name s.nodes from && is_node_name s.nodes to) ≡ false
      → is_set s.plan (node_number s.nodes from) (node_number s.nodes to) (unwrap_or index 0) ≡ false → IsBegun (after s (Fault from to index fate))
  fault-said from to index fate formed numbers known new =
      let nodes = both_true (is_node_name s.nodes from) (is_node_name s.nodes to) known in
      let given = both_true (is_some index) (is_fate fate) numbers in
      let range = found_is IsIndex index formed.1.0 given.0 in
      let row : FateRow = record { from = node_number s.nodes from; to = node_number s.nodes to; index = unwrap_or index 0; fate = fate_said fate } in
      let of_nodes : IsFateRow (length s.nodes) row = record {
        from = (node_is s.nodes from nodes.0).1;
        to = (node_is s.nodes to nodes.1).1;
        index_low = range.0;
        index_high = range.1;
        fate = fate_is fate formed.1.1 given.1;
      } in
      record {
        draft = IsDraft-fate s row is.draft (IsPlan-push s.plan row is.draft.plan (nodes_apart s.nodes from to formed.0 nodes.0 nodes.1) new) of_nodes;
        starts = is.starts;
      }

  phase-said : nat_le MAX_PHASES s.phases ≡ false → IsBegun (after s Phase)
  phase-said within = record { draft = IsDraft-phase s is.draft (search (rules, within)); starts = is.starts }

  access-said : IsBegun (after s Access)
  access-said = record { draft = IsDraft-access s is.draft; starts = is.starts }

  subject-said : (process : ProcessWord) (person project : List ℕ) → IfSome process.number IsProcessNumber → not (is_some process.number) ≡ false → not (is_name process.node && (is_name person && is_name project)) ≡ false
      → not (is_node_name s.nodes process.node) ≡ false → has_subject s.subjects (proc_of s.nodes process) ≡ false → IsBegun (after s (Subject process person project))
  subject-said process person project formed numbers names known new =
      let number = found_is IsProcessNumber process.number formed (not-false (is_some process.number) numbers) in
      let words = and_parts (is_name person) (is_name project) (both_true (is_name process.node) (is_name person && is_name project) names).1 in
      let node = node_is s.nodes process.node (not-false (is_node_name s.nodes process.node) known) in
      let few = is.draft.few_nodes in
      let row : SubjectRow = record { proc = proc_of s.nodes process; person = person; project = project } in
      let of_nodes : IsSubjectRow (length s.nodes) row = record {
        proc = record { node = (node.0, omega (arith, node.1, few)); number = number };
        node = node.1;
        person = name_text person words.0;
        project = name_text project words.1;
      } in
      record { draft = IsDraft-subject s row is.draft of_nodes new; starts = is.starts }

  after-begun : (said : Saying) → IsFormed s said → is_no_number (wire_of s) said ≡ false → is_no_name said ≡ false → is_unknown s said ≡ false → is_repeated s said ≡ false → is_past_limit s said ≡ false → IsBegun (after s said)
  after-begun (Wire version) formed numbers names known new within = wire-said version formed numbers new
  after-begun (Node name frames) formed numbers names known new within = node-said name frames formed numbers names new within
  after-begun (Object var room home) formed numbers names known new within = object-said var room home formed numbers names known new within
  after-begun (Fault from to index fate) formed numbers names known new within = fault-said from to index fate formed numbers known new
  after-begun Phase formed numbers names known new within = phase-said within
  after-begun Access formed numbers names known new within = access-said
  after-begun (Subject process person project) formed numbers names known new within = subject-said process person project formed numbers names known new
  after-begun (Does process verb arguments) formed numbers names known new within =
      let proc = proc_of s.nodes process in
      let given = both_true (is_some process.number) (list_all (has_number (wire_of s)) arguments) numbers in
      let number = found_is IsProcessNumber process.number formed.0 given.0 in
      let knows = both_true (is_node_name s.nodes process.node) (list_all (is_known s proc) arguments) known in
      let node = node_is s.nodes process.node knows.0 in
      let few = is.draft.few_nodes in
      record {
        draft =
            IsDraft-command s proc (command_said s.nodes verb arguments) is.draft (record { node = (node.0, omega (arith, node.1, few)); number = number }) node.1
            (command_is (wire_of s) s.nodes verb arguments formed.1 given.1 (not-false (list_all has_name arguments) names) (nodes_known s proc arguments knows.1))
            (command_spoken s proc verb arguments formed.1.kinds_are knows.1 (not-false (list_all (is_fresh s) arguments) new)) (search (rules, within));
        starts = is.starts;
      }

-- where no test of a line refuses it
tested : (P : Content → Type 0) (a b c d e : Bool) (x : Content) → (a ≡ false → b ≡ false → c ≡ false → d ≡ false → e ≡ false → P x)
    → IfOk (if a then Err Number else if b then Err Name else if c then Err Unknown else if d then Err Repeat else if e then Err Limit else Ok x) P
tested P true b c d e x good = tt
tested P false true c d e x good = tt
tested P false false true d e x good = tt
tested P false false false true e x good = tt
tested P false false false false true x good = tt
tested P false false false false false x good = good refl refl refl refl refl

-- the forms of lines
wire-formed : (tokens : List Token) → IfSome (wire_form tokens) HasForm
wire-formed (Word number ∷ []) = within_is 1 2 (number_spelled number)
wire-formed _ = tt

words-are : (b : Bool) (name : List ℕ) (count : List ℕ) → IfSome (if b then Some (Node name (frames_spelled (Some count))) else None) HasForm
words-are true name count = within_is 5 256 (number_spelled count)
words-are false name count = tt

node-formed : (tokens : List Token) → IfSome (node_form tokens) HasForm
node-formed (Word name ∷ []) = (omega arith, omega arith)
node-formed (Word name ∷ Word fixed ∷ Word count ∷ []) = words-are (bytes_eq fixed (codes "frames")) name count
node-formed _ = tt

object-formed : (tokens : List Token) → IfSome (object_form tokens) HasForm
object-formed (Word var ∷ Word room ∷ Word home ∷ []) = room_found room
object-formed _ = tt

counted-formed : (twice late : Bool) (count : Option ℕ) → IfSome count IsLate → IfSome (if twice then Some (Twice count) else if late then Some (Late count) else None) IsFateFound
counted-formed true late count found = found
counted-formed false true count found = found
counted-formed false false count found = tt

lost-formed : (b : Bool) → IfSome (if b then Some Lose else None) IsFateFound
lost-formed true = tt
lost-formed false = tt

fate-formed : (tokens : List Token) → IfSome (fate_form tokens) IsFateFound
fate-formed (Word fixed ∷ []) = lost-formed (bytes_eq fixed (codes "lose"))
fate-formed (Word fixed ∷ Word count ∷ []) = counted-formed (bytes_eq fixed (codes "twice")) (bytes_eq fixed (codes "late")) (late_spelled count) (within_is 1 1000 (number_spelled count))
fate-formed _ = tt

link-formed : (from to : List ℕ) (index : Option ℕ) (fate : Option SaidFate) → IfSome index IsIndex → IfSome fate IsFateFound → IfSome (with_link from to index fate) HasForm
link-formed from to index None found fates = tt
link-formed from to index (Some fate) found fates = by_test (bytes_eq from to) refl
  where
    by_test : (b : Bool) → bytes_eq from to ≡ b → IfSome (if b then None else Some (Fault from to index fate)) HasForm
    by_test true e = tt
    by_test false e = (e, (found, fates))

fault-formed : (tokens : List Token) → IfSome (fault_form tokens) HasForm
fault-formed (Word from ∷ Word to ∷ Word index ∷ rest) = link-formed from to (index_spelled index) (fate_form rest) (within_is 1 1000000 (number_spelled index)) (fate-formed rest)
fault-formed _ = tt

access-formed : (tokens : List Token) → IfSome (access_form tokens) HasForm
access-formed [] = tt
access-formed (token ∷ rest) = tt

parts-formed : (process subject : Option (List ℕ × List ℕ)) → IfSome (subject_words process subject) HasForm
parts-formed None subject = tt
parts-formed (Some process) None = tt
parts-formed (Some process) (Some subject) = within_is 1 NODE_PROCESSES (number_spelled process.1)

subject-formed : (tokens : List Token) → IfSome (subject_form tokens) HasForm
subject-formed (Word process ∷ Word subject ∷ []) = parts-formed (cut_at_last 46 process) (cut_at_last 46 subject)
subject-formed _ = tt

process-formed : (parts : Option (List ℕ × List ℕ)) → IfSome (process_parts parts) (λ (process : ProcessWord). IfSome process.number IsProcessNumber)
process-formed None = tt
process-formed (Some (node, digits)) = by_test (is_name node && are_digits digits) (record { node = node; number = process_spelled digits }) (within_is 1 NODE_PROCESSES (number_spelled digits))
  where
    by_test : (b : Bool) (word : ProcessWord) → IfSome word.number IsProcessNumber → IfSome (if b then Some word else None) (λ (process : ProcessWord). IfSome process.number IsProcessNumber)
    by_test true word found = found
    by_test false word found = tt

-- what is written so is none of these, or one of them
among : {X : Type 0} (text : X → List ℕ) (xs : List X) (word : List ℕ) (P : Option X → Type 0) → P None → AllByRecursion (λ x. P (Some x)) xs → P (written_so text xs word)
among text [] word P none some = none
among text (x ∷ xs) word P none some = by_test (bytes_eq (text x) word) (among text xs word P none some.1)
  where
    by_test : (b : Bool) → P (written_so text xs word) → P (cond b (Some x) (written_so text xs word))
    by_test true rest = some.0
    by_test false rest = rest

-- a line leaves what the lines before it left
module _ (s : Content) (is : IsBegun s) where
  said-begun : (said : Saying) → IsFormed s said → IfOk (judged_saying s said) IsBegun
  said-begun said formed = tested IsBegun (is_no_number (wire_of s) said) (is_no_name said) (is_unknown s said) (is_repeated s said) (is_past_limit s said) (after s said) (after-begun s is said formed)

  form-begun : (form : Option Saying) → IfSome form (IsFormed s) → IfOk (judged_form s form) IsBegun
  form-begun None formed = tt
  form-begun (Some said) formed = said-begun said formed

  place-begun : (form : Option Saying) → IfSome form HasForm → IfOk (judged_place s form) IsBegun
  place-begun form formed = by_test (has_begun s) refl
    where
      placed : has_begun s ≡ false → (o : Option Saying) → IfSome o HasForm → IfSome o (IsFormed s)
      placed early None has = tt
      placed early (Some said) has = in_place s early said has

      by_test : (b : Bool) → has_begun s ≡ b → IfOk (if b then Err Place else judged_form s form) IsBegun
      by_test true e = tt
      by_test false e = form-begun form (placed e form formed)

  early-begun : (form : Option Saying) → IfSome form HasForm → IfOk (judged_early s form) IsBegun
  early-begun form formed = by_test (nat_lt 0 (length s.opening.objects))
    where
      by_test : (b : Bool) → IfOk (if b then Err Place else judged_place s form) IsBegun
      by_test true = tt
      by_test false = place-begun form formed

  phase-begun : (tokens : List Token) → IfOk (judged_form s (phase_form tokens)) IsBegun
  phase-begun [] = form-begun (Some Phase) tt
  phase-begun (token ∷ rest) = tt

  process-begun : (process : Option ProcessWord) (tokens : List Token) → IfSome process (λ word. IfSome word.number IsProcessNumber) → IfOk (judged_process s process tokens) IsBegun
  process-begun (Some process) (Word word ∷ tokens) number =
      elim (verb_of word) as (λ found. IfOk (judged_verb s process found tokens) IsBegun) [
        | None ↦ tt
        | Some verb ↦
            (elim (arguments_form (shape_of verb) tokens) as (λ said. IfSome said (AreFormed (shape_of verb)) → IfOk (judged_form s (does_form process verb said)) IsBegun) [
              | None ↦ λ formed. tt
              | Some arguments ↦ λ formed. said-begun (Does process verb arguments) (number, formed)
            ] (form_formed (shape_of verb) tokens))
      ]
  process-begun (Some process) (Text text ∷ tokens) number = tt
  process-begun (Some process) [] number = tt
  process-begun None tokens number = tt

  first-begun : (word : List ℕ) (tokens : List Token) → IfOk (judged_first s (written_so line_word_text line_words word) word tokens) IsBegun
  first-begun word tokens =
      among line_word_text line_words word (λ first. IfOk (judged_first s first word tokens) IsBegun) (process-begun (process_word word) tokens (process-formed (cut_at 46 word))) (
        early-begun (wire_form tokens) (wire-formed tokens),
        (
          place-begun (node_form tokens) (node-formed tokens),
          (place-begun (object_form tokens) (object-formed tokens), (place-begun (fault_form tokens) (fault-formed tokens), (phase-begun tokens, (place-begun (access_form tokens) (access-formed tokens), (place-begun (subject_form tokens) (subject-formed tokens), tt))))),
        ),
      )

  tokens-begun : (tokens : List Token) → IfOk (judged_tokens s tokens) IsBegun
  tokens-begun [] = is
  tokens-begun (Text text ∷ tokens) = tt
  tokens-begun (Word word ∷ tokens) = first-begun word tokens

  text-begun : (read : Result (List Token) TextFault) → IfOk (judged_text s read) IsBegun
  text-begun (Ok tokens) = tokens-begun tokens
  text-begun (Err QuoteFault) = tt
  text-begun (Err _) = tt

  line-begun : (line : List ℕ) → IfOk (judged s line) IsBegun
  line-begun line = by_length (nat_lt 5000 (length line))
    where
      by_length : (b : Bool) → IfOk (if b then Err TooLong else judged_text s (tokens_of line)) IsBegun
      by_length true = tt
      by_length false = text-begun (tokens_of line)

pub good-lines : (s : Content) (lines : List (List ℕ)) (t : Content) → AreGood s lines t → IsBegun s → IsBegun t
good-lines s [] t good is = subst IsBegun good is
good-lines s (line ∷ lines) t good is =
    elim (judged s (without_cr line)) as (λ r. MatchResult r (λ next. AreGood next lines t) (λ _. ⊥) → IfOk r IsBegun → IsBegun t) [
      | Ok next ↦ λ further left. good-lines next lines t further left
      | Err met ↦ λ further left. absurd further
    ] good (line-begun s is (without_cr line))

-- before the first line
pub nothing-begun : IsBegun nothing
nothing-begun = record {
  draft = record {
    wire = tt;
    few_nodes = omega arith;
    nodes = All-nil IsNode;
    names_apart = AllPairs-nil (λ (a b : NodeRow). a.name ≢ b.name);
    opening_nodes = refl;
    greatest = refl;
    files = All-nil (IsObject 0);
    vars = All-nil (λ (row : VarRow). IsNameText row.var);
    vars_apart = AllPairs-nil (λ (a b : VarRow). a.var ≢ b.var);
    vars_of = refl;
    plan = record { apart = All-nil (λ (row : FateRow). row.from ≢ row.to); once = AllPairs-nil (λ (a b : FateRow). is_of_frame b.from b.to b.index a ≡ false) };
    fates = All-nil (IsFateRow 0);
    subjects = All-nil (IsSubjectRow 0);
    subjects_apart = AllPairs-nil (λ (a b : SubjectRow). same_proc a.proc b.proc ≡ false);
    phase_low = omega arith;
    phase_high = omega arith;
    few_commands = omega arith;
    commands = All-nil (IsCommandRow 0 1);
    in_order = AllPairs-nil (λ (a b : CommandRow). a.phase ≤ b.phase);
    spoken = tt;
  };
  starts = record {
    declarable = All-nil (IsDeclarable 0 (wire_room 1));
    apart = AllPairs-nil (λ (a b : ObjectRecord). same_uid a.uid b.uid ≡ false);
    counters = λ home. tt;
    volume = λ home. omega arith;
  };
}
