-- Arguments of commands: what the test of their form leaves, and what they give a command.
use Rattle.std.proofs.Common.{◌≡◌, ◌≤◌, ◌<◌, ◌+◌, ◌-◌, ◌*◌, ℕ, zero, suc, Bool, true, false, List, [], ◌∷◌, ◌++◌, length, length-append, map, get_or, drop, drop-cons, add-one, Option, Some, None, refl, ap, sym, subst, ◌∙◌, append_assoc, append-nil, arith, rules}
use Rattle.std.specs.Prelude.{◌&&◌, ◌↔◌, bytes_eq, nat_le, nat_lt, is_some, unwrap_or, if◌then◌else◌, IfSome, IsTrue, All}
use Rattle.std.specs.List.{AllByRecursion, list_all, position_or_len, slice_get}
use Rattle.std.proofs.lemmas.List.Folds.{list_all-map}
use Rattle.std.proofs.lemmas.List.{drop_all}
use Rattle.std.proofs.lemmas.Option.{IfSome_then, slice_get-map, slice_get_past, slice_get_read}
use Rattle.std.specs.Option.{option_map}
use Rattle.std.specs.Slice.{IsItemAt}
use Rattle.std.specs.Borrow.{Bor}
use Rattle.std.proofs.Math.Seq.{drop-nil, get_or-append_seam}
use Rattle.std.proofs.lemmas.Bool.{not-true, and_parts}
use Rattle.uid_names.specs.Names.{ProcName}
use Rattle.uid_names.specs.Rooms.{IsRoom}
use Rattle.uid_names.specs.Wires.{wire_room}
use Rattle.uid_names.specs.declared.limits.TheConstants.{MAX_LENGTH, MAX_ROOM, PAGE_BYTES}
use Rattle.uid_names.specs.declared.mode.Mode.{Mode as LockMode}
use Rattle.dom_text.specs.Numbers.{hex8_of, number_spelled}
use Rattle.dom_text.specs.Lent.{owned, owned_token}
use Rattle.dom_text.specs.declared.token.Token.{Token}
use Rattle.dom_text.specs.declared.token.TokenRef.{TokenRef}
use Rattle.dom_text.specs.declared.token.Token.TheVariants.{Word, Text as TextToken}
use Rattle.script_reader.specs.Arguments.{Said, Given, Var, NewVar, Room, Offset, Count, Address, Text, Message, Mode, Home, HomeNode, OptionalRoom, Path, OptionalPath, given, home_number, pages_said}
use Rattle.script_reader.specs.Commands.{IsAddress, IsArgument, IsCommand, IsCount, IsHome, IsOffset, IsPath, arguments_of}
use Rattle.script_reader.specs.NodeNames.{is_node_name, node_number}
use Rattle.script_reader.specs.Forms.{absent, argument_form, arguments_form, in_front, mode_argument, text_argument, word_argument}
use Rattle.script_reader.specs.NamesAsked.{has_name}
use Rattle.script_reader.specs.Numbers.{has_to, has_number}
use Rattle.script_reader.specs.SpelledNumbers.{room_spelled, offset_spelled, count_spelled, address_spelled, within}
use Rattle.script_reader.specs.Repeats.{is_fresh}
use Rattle.script_reader.specs.SaidCommands.{argument_at, bytes_of, command_said, home_of, mode_of, node_of, number_of, pages_of, path_of}
use Rattle.script_reader.specs.Scripts.{Content}
use Rattle.script_reader.specs.Shapes.{shape_of}
use Rattle.script_reader.specs.UnknownNames.{is_known}
use Rattle.script_reader.specs.Variables.{IsSpoken, MaySpeakOf, is_declared}
use Rattle.script_reader.specs.Walk.Formed.{AreFormed, IsFound, kind_of}
use Rattle.script_reader.specs.Walk.Seen.{seen_argument, seen_arguments, seen_found, seen_token}
use Rattle.script_reader.specs.Words.{mode_of_word}
use Rattle.script_reader.specs.declared.arguments.Argument.{Argument as ArgumentOfLine}
use Rattle.script_reader.specs.declared.script.NodeRow.{NodeRow}
use Rattle.script_reader.specs.declared.words.Kind.{Kind}
use Rattle.script_reader.specs.declared.words.Kind.TheVariants as kind
use Rattle.script_reader.specs.declared.words.Verb.{Verb}
use Rattle.script_reader.specs.declared.words.Verb.TheVariants as verb
use Rattle.script_reader.proofs.Decisions.{passes_all}
use Rattle.script_reader.proofs.Kept.{name_text}

-- a number that was found is in its range
pub within_is : (low high : ℕ) (found : Option ℕ) → IfSome (within low high found) (λ n. (low ≤ n) × (n ≤ high))
within_is low high None = tt
within_is low high (Some n) = by_test (nat_le low n && nat_le n high) refl where
  by_test : (t : Bool) → (nat_le low n && nat_le n high) ≡ t → IfSome (if t then Some n else None) (λ m. (low ≤ m) × (m ≤ high))
  by_test true e = let both = and_parts (nat_le low n) (nat_le n high) e in (search (rules, both.0), search (rules, both.1))
  by_test false e = tt

pub room_found : (word : List ℕ) → IfSome (room_spelled word) IsRoom
room_found word = within_is 1 MAX_ROOM (number_spelled word)

offset_found : (word : List ℕ) → IfSome (offset_spelled word) IsOffset
offset_found word = IfSome_then (offset_spelled word) (within_is 0 (MAX_LENGTH - 1) (number_spelled word)) (λ n h. omega (arith, h.1))

count_found : (word : List ℕ) → IfSome (count_spelled word) IsCount
count_found word = within_is 1 PAGE_BYTES (number_spelled word)

address_found : (word : List ℕ) → IfSome (address_spelled word) IsAddress
address_found word = IfSome_then (address_spelled word) (within_is 0 0xff_ffff (hex8_of word)) (λ n h. h.1)

-- an argument of a kind, whose number is in its range
abbrev pub IsOfKind : Kind → Said → Type 0
IsOfKind k a = (kind_of a ≡ k) × IsFound a

mode_formed : (mode : Option LockMode) → IfSome (mode_argument mode) (IsOfKind kind.Mode)
mode_formed None = tt
mode_formed (Some mode) = (refl, tt)

word_formed : (k : Kind) (word : List ℕ) → IfSome (word_argument k word) (IsOfKind k)
word_formed kind.Var word = (refl, tt)
word_formed kind.NewVar word = (refl, tt)
word_formed kind.Room word = (refl, room_found word)
word_formed kind.Offset word = (refl, offset_found word)
word_formed kind.Count word = (refl, count_found word)
word_formed kind.Address word = (refl, address_found word)
word_formed kind.Text word = tt
word_formed kind.Message word = tt
word_formed kind.Mode word = mode_formed (mode_of_word word)
word_formed kind.Home word = (refl, tt)
word_formed kind.HomeNode word = (refl, tt)
word_formed kind.OptionalRoom word = (refl, room_found word)
word_formed kind.Path word = (refl, tt)
word_formed kind.OptionalPath word = (refl, tt)

text_formed : (k : Kind) (text : List ℕ) → IfSome (text_argument k text) (IsOfKind k)
text_formed kind.Text text = (refl, tt)
text_formed kind.Message text = (refl, tt)
text_formed _ text = tt

absent_formed : (k : Kind) → IfSome (absent k) (IsOfKind k)
absent_formed kind.Home = (refl, tt)
absent_formed kind.OptionalRoom = (refl, tt)
absent_formed kind.OptionalPath = (refl, tt)
absent_formed _ = tt

argument_formed : (k : Kind) (token : Token) → IfSome (argument_form k (Some token)) (IsOfKind k)
argument_formed k (Word word) = word_formed k word
argument_formed k (TextToken text) = text_formed k text

in_front_formed : (k : Kind) (kinds : List Kind) (first : Option Said) (rest : Option (List Said)) → IfSome first (IsOfKind k) → IfSome rest (AreFormed kinds) → IfSome (in_front first rest) (AreFormed (k ∷ kinds))
in_front_formed k kinds None rest h i = tt
in_front_formed k kinds (Some first) None h i = tt
in_front_formed k kinds (Some first) (Some rest) h i = record { kinds_are = ap (λ x. x ∷ map kind_of rest) h.0 ∙ ap (λ xs. k ∷ xs) i.kinds_are; found = (h.1, i.found) }

-- tokens that have the form are arguments of these kinds
pub form_formed : (kinds : List Kind) (tokens : List Token) → IfSome (arguments_form kinds tokens) (AreFormed kinds)
form_formed [] [] = record { kinds_are = refl; found = tt }
form_formed [] (token ∷ rest) = tt
form_formed (k ∷ kinds) [] = in_front_formed k kinds (absent k) (arguments_form kinds []) (absent_formed k) (form_formed kinds [])
form_formed (k ∷ kinds) (token ∷ rest) = in_front_formed k kinds (argument_form k (Some token)) (arguments_form kinds rest) (argument_formed k token) (form_formed kinds rest)

-- arguments in front of those that tokens say
abbrev pub behind : List Said → Option (List Said) → Option (List Said)
behind front None = None
behind front (Some rest) = Some (front ++ rest)

pub behind-nil : (rest : Option (List Said)) → rest ≡ behind [] rest
behind-nil None = refl
behind-nil (Some rest) = refl

behind-push : (front : List Said) (a : Said) (rest : Option (List Said)) → behind front (in_front (Some a) rest) ≡ behind (front ++ a ∷ []) rest
behind-push front a None = refl
behind-push front a (Some rest) = ap Some (sym (append_assoc front (a ∷ []) rest))

-- the token at a place, seen as one of its own
token_at : (tokens : List TokenRef) (i : ℕ) (found : Option (Bor TokenRef)) → IsItemAt tokens i found → slice_get (owned tokens) i ≡ seen_token found
token_at tokens i None h = slice_get-map owned_token tokens i ∙ ap (option_map owned_token) (slice_get_past tokens i h.3)
token_at tokens i (Some token) h = slice_get-map owned_token tokens i ∙ ap (option_map owned_token) (slice_get_read tokens (length tokens) i token.now refl h.3.0 h.1)

pub said_at : (tokens : List TokenRef) (i : ℕ) (k : Kind) (found : Option (Bor TokenRef)) (said : Option ArgumentOfLine) → IsItemAt tokens i found → seen_found said ≡ argument_form k (seen_token found) → argument_form k (slice_get (owned tokens) i) ≡ seen_found said
said_at tokens i k found said h e = ap (argument_form k) (token_at tokens i found h) ∙ sym e

-- the tokens from a place on, with the argument that stands there
form_first : (k : Kind) (kinds : List Kind) (tokens : List Token) (i : ℕ) → arguments_form (k ∷ kinds) (drop i tokens) ≡ in_front (argument_form k (slice_get tokens i)) (arguments_form kinds (drop (i + 1) tokens))
form_first k kinds [] i = rw (drop-nil i, drop-nil (i + 1)) refl
form_first k kinds (token ∷ rest) zero = refl
form_first k kinds (token ∷ rest) (suc i) =
    let next : suc (i + 1) ≡ suc i + 1 = omega arith in
    form_first k kinds rest i ∙ ap (λ n. in_front (argument_form k (slice_get rest i)) (arguments_form kinds (drop n (token ∷ rest)))) next

form_here : (kinds : List Kind) (tokens : List Token) (front : List Said) (i : ℕ) (d : Kind) → i < length kinds → arguments_form kinds tokens ≡ behind front (arguments_form (drop i kinds) (drop i tokens))
    → arguments_form kinds tokens ≡ behind front (in_front (argument_form (get_or kinds i d) (slice_get tokens i)) (arguments_form (drop (i + 1) kinds) (drop (i + 1) tokens)))
form_here kinds tokens front i d below h =
    let first : drop i kinds ≡ get_or kinds i d ∷ drop (i + 1) kinds = drop-cons kinds i d below ∙ ap (λ n. get_or kinds i d ∷ drop n kinds) (sym (add-one i)) in
    h ∙ (ap (λ ks. behind front (arguments_form ks (drop i tokens))) first ∙ ap (behind front) (form_first (get_or kinds i d) (drop (i + 1) kinds) tokens i))

-- an argument more was taken
pub form_step : (kinds : List Kind) (tokens : List Token) (front : List Said) (i : ℕ) (d : Kind) (a : Said) → i < length kinds → arguments_form kinds tokens ≡ behind front (arguments_form (drop i kinds) (drop i tokens))
    → argument_form (get_or kinds i d) (slice_get tokens i) ≡ Some a → arguments_form kinds tokens ≡ behind (front ++ a ∷ []) (arguments_form (drop (i + 1) kinds) (drop (i + 1) tokens))
form_step kinds tokens front i d a below h found =
    let rest = arguments_form (drop (i + 1) kinds) (drop (i + 1) tokens) in
    form_here kinds tokens front i d below h ∙ (ap (λ f. behind front (in_front f rest)) found ∙ behind-push front a rest)

-- none was
pub form_none : (kinds : List Kind) (tokens : List Token) (front : List Said) (i : ℕ) (d : Kind) → i < length kinds → arguments_form kinds tokens ≡ behind front (arguments_form (drop i kinds) (drop i tokens))
    → argument_form (get_or kinds i d) (slice_get tokens i) ≡ None → arguments_form kinds tokens ≡ None
form_none kinds tokens front i d below h none =
    form_here kinds tokens front i d below h ∙ ap (λ f. behind front (in_front f (arguments_form (drop (i + 1) kinds) (drop (i + 1) tokens)))) none

-- all were
pub form_end : (kinds : List Kind) (tokens : List Token) (front : List Said) (i : ℕ) → length kinds ≤ i → length tokens ≤ length kinds → arguments_form kinds tokens ≡ behind front (arguments_form (drop i kinds) (drop i tokens)) → arguments_form kinds tokens ≡ Some front
form_end kinds tokens front i past few h =
    let kinds_out : drop i kinds ≡ [] = drop_all i kinds past in
    let tokens_out : drop i tokens ≡ [] = drop_all i tokens (omega arith) in
    h ∙ (ap (λ ks. behind front (arguments_form ks (drop i tokens))) kinds_out ∙ (ap (λ ts. behind front (arguments_form [] ts)) tokens_out ∙ ap Some (append-nil front)))

-- tokens that are more than the kinds
in_front-none : (first : Option Said) → in_front first None ≡ None
in_front-none None = refl
in_front-none (Some first) = refl

pub form_left : (kinds : List Kind) (tokens : List Token) → length kinds < length tokens → arguments_form kinds tokens ≡ None
form_left [] [] more = absurd (omega arith)
form_left [] (token ∷ rest) more = refl
form_left (k ∷ kinds) [] more = absurd (omega arith)
form_left (k ∷ kinds) (token ∷ rest) more = ap (in_front (argument_form k (Some token))) (form_left kinds rest (omega (arith, more))) ∙ in_front-none (argument_form k (Some token))

-- what was taken is formed
pub taken_formed : (kinds : List Kind) (tokens : List Token) (taken : List Said) → arguments_form kinds tokens ≡ Some taken → AreFormed kinds taken
taken_formed kinds tokens taken e = subst (λ o. IfSome o (AreFormed kinds)) e (form_formed kinds tokens)

-- what a verb asks of an argument by its kind
given_as : List NodeRow → Kind → Said → Given
given_as nodes kind.Var a = Var (bytes_of a)
given_as nodes kind.NewVar a = NewVar (bytes_of a)
given_as nodes kind.Room a = Room (number_of a)
given_as nodes kind.Offset a = Offset (number_of a)
given_as nodes kind.Count a = Count (number_of a)
given_as nodes kind.Address a = Address (number_of a)
given_as nodes kind.Text a = Text (bytes_of a)
given_as nodes kind.Message a = Message (bytes_of a)
given_as nodes kind.Mode a = Mode (mode_of a)
given_as nodes kind.Home a = Home (home_of nodes a)
given_as nodes kind.HomeNode a = HomeNode (node_of nodes a)
given_as nodes kind.OptionalRoom a = OptionalRoom (pages_of a)
given_as nodes kind.Path a = Path (bytes_of a)
given_as nodes kind.OptionalPath a = OptionalPath (path_of a)

-- and of those from a place on
given_from : List NodeRow → List Kind → List Said → ℕ → List Given
given_from nodes [] arguments n = []
given_from nodes (k ∷ kinds) arguments n = given_as nodes k (argument_at arguments n) ∷ given_from nodes kinds arguments (n + 1)

-- each verb asks of its arguments what its shape says: the one place of the proofs that goes by commands
command-given : (nodes : List NodeRow) (v : Verb) (arguments : List Said) → arguments_of (command_said nodes v arguments) ≡ given_from nodes (shape_of v) arguments 0
unfolding given_as given_from
command-given nodes verb.New arguments = refl
command-given nodes verb.Lock arguments = refl
command-given nodes verb.Unlock arguments = refl
command-given nodes verb.Delete arguments = refl
command-given nodes verb.Load arguments = refl
command-given nodes verb.Store arguments = refl
command-given nodes verb.Length arguments = refl
command-given nodes verb.Map arguments = refl
command-given nodes verb.Unmap arguments = refl
command-given nodes verb.Loadat arguments = refl
command-given nodes verb.Storeat arguments = refl
command-given nodes verb.Bind arguments = refl
command-given nodes verb.Crf arguments = refl
command-given nodes verb.Crd arguments = refl
command-given nodes verb.Crl arguments = refl
command-given nodes verb.Dlf arguments = refl
command-given nodes verb.Catf arguments = refl
command-given nodes verb.Lnf arguments = refl
command-given nodes verb.Apf arguments = refl
command-given nodes verb.Cpf arguments = refl
command-given nodes verb.Crm arguments = refl
command-given nodes verb.Putm arguments = refl
command-given nodes verb.Takem arguments = refl
command-given nodes verb.Ld arguments = refl
command-given nodes verb.Wd arguments = refl
command-given nodes verb.Llkob arguments = refl

given_as-kind : (nodes : List NodeRow) (a : Said) → given_as nodes (kind_of a) a ≡ given nodes a
unfolding given_as
given_as-kind nodes (Var name) = refl
given_as-kind nodes (NewVar name) = refl
given_as-kind nodes (Room found) = refl
given_as-kind nodes (Offset found) = refl
given_as-kind nodes (Count found) = refl
given_as-kind nodes (Address found) = refl
given_as-kind nodes (Text text) = refl
given_as-kind nodes (Message text) = refl
given_as-kind nodes (Mode mode) = refl
given_as-kind nodes (Home name) = refl
given_as-kind nodes (HomeNode name) = refl
given_as-kind nodes (OptionalRoom found) = refl
given_as-kind nodes (Path path) = refl
given_as-kind nodes (OptionalPath path) = refl

given_from-map : (nodes : List NodeRow) (front rest : List Said) (n : ℕ) → n ≡ length front → given_from nodes (map kind_of rest) (front ++ rest) n ≡ map (given nodes) rest
unfolding given_from
given_from-map nodes front [] n at = refl
given_from-map nodes front (a ∷ rest) n at =
    let here : argument_at (front ++ a ∷ rest) n ≡ a = ap (λ k. argument_at (front ++ a ∷ rest) k) at ∙ get_or-append_seam front a rest (Home None) in
    let next : n + 1 ≡ length (front ++ a ∷ []) = omega (arith, at, length-append front (a ∷ [])) in
    let behind : given_from nodes (map kind_of rest) (front ++ a ∷ rest) (n + 1) ≡ map (given nodes) rest =
    ap (λ all. given_from nodes (map kind_of rest) all (n + 1)) (sym (append_assoc front (a ∷ []) rest)) ∙ given_from-map nodes (front ++ a ∷ []) rest (n + 1) next in
    ap (λ x. given_as nodes (kind_of a) x ∷ given_from nodes (map kind_of rest) (front ++ a ∷ rest) (n + 1)) here
    ∙ (ap (λ x. x ∷ given_from nodes (map kind_of rest) (front ++ a ∷ rest) (n + 1)) (given_as-kind nodes a) ∙ ap (λ xs. given nodes a ∷ xs) behind)

-- the arguments of the command are what was said of each
arguments-given : (nodes : List NodeRow) (v : Verb) (arguments : List Said) → map kind_of arguments ≡ shape_of v → arguments_of (command_said nodes v arguments) ≡ map (given nodes) arguments
arguments-given nodes v arguments kinds =
    command-given nodes v arguments ∙ (ap (λ ks. given_from nodes ks arguments 0) (sym kinds) ∙ given_from-map nodes [] arguments 0 refl)

-- a home that was declared is a node
home_is : (nodes : List NodeRow) (home : Option (List ℕ)) → IsHome (length nodes) (home_number nodes home)
home_is nodes None = tt
home_is nodes (Some name) = by_place (nat_lt (position_or_len (λ row. bytes_eq row.name name) nodes) (length nodes)) refl where
  by_place : (t : Bool) → nat_lt (position_or_len (λ row. bytes_eq row.name name) nodes) (length nodes) ≡ t
      → IsHome (length nodes) (if is_some (if t then Some (position_or_len (λ row. bytes_eq row.name name) nodes) else None) then Some (unwrap_or (if t then Some (position_or_len (λ row. bytes_eq row.name name) nodes) else None) 0 + 1) else None)
  by_place true e = let below : position_or_len (λ row. bytes_eq row.name name) nodes < length nodes = search (rules, e) in (omega arith, omega (arith, below))
  by_place false e = tt

pub found_is : (P : ℕ → Type 0) (found : Option ℕ) → IfSome found P → is_some found ≡ true → P (unwrap_or found 0)
found_is P None h some = absurd cc
found_is P (Some n) h some = h

-- a number that is there, and not above this one
pub to_some : (high : ℕ) (found : Option ℕ) → has_to high found ≡ true → is_some found ≡ true
to_some high None has = absurd cc
to_some high (Some n) has = refl

pub to_low : (high : ℕ) (found : Option ℕ) → has_to high found ≡ true → unwrap_or found 0 ≤ high
to_low high None has = absurd cc
to_low high (Some n) has = search (rules, has)

-- a node that is named is one
pub node_is : (nodes : List NodeRow) (name : List ℕ) → is_node_name nodes name ≡ true → (1 ≤ node_number nodes name) × (node_number nodes name ≤ length nodes)
node_is nodes name known =
    subst (λ (b : Bool). IsHome (length nodes) (if b then Some (node_number nodes name) else None)) known (home_is nodes (Some name))

-- a room that may be left out
pages_are : (wire : ℕ) (found : Option (Option ℕ)) → IsFound (OptionalRoom found) → has_number wire (OptionalRoom found) ≡ true → IfSome (pages_said found) IsRoom
pages_are wire None h number = tt
pages_are wire (Some found) h number = found_is IsRoom found h (to_some (wire_room wire) found number)

-- a path that may be left out
optional_path_is : (path : Option (List ℕ)) → has_name (OptionalPath path) ≡ true → IfSome path IsPath
optional_path_is None h = tt
optional_path_is (Some path) h = h

-- the node of an argument that names one that must be
abbrev pub names_node : List NodeRow → Said → Bool
names_node nodes (HomeNode name) = is_node_name nodes name
names_node nodes _ = true

-- an argument whose number and name are good is in its range
argument_is : (wire : ℕ) (nodes : List NodeRow) (a : Said) → IsFound a → has_number wire a ≡ true → has_name a ≡ true → names_node nodes a ≡ true → IsArgument (length nodes) (given nodes a)
argument_is wire nodes (Var name) h number named known = name_text name named
argument_is wire nodes (NewVar name) h number named known = name_text name named
argument_is wire nodes (Room found) h number named known = found_is IsRoom found h (to_some (wire_room wire) found number)
argument_is wire nodes (Offset found) h number named known = found_is IsOffset found h (to_some (wire_room wire * PAGE_BYTES - 1) found number)
argument_is wire nodes (Count found) h number named known = found_is IsCount found h number
argument_is wire nodes (Address found) h number named known = found_is IsAddress found h number
argument_is wire nodes (Text text) h number named known = let both = and_parts (nat_le 1 (length text)) (nat_le (length text) PAGE_BYTES) number in (search (rules, both.0), search (rules, both.1))
argument_is wire nodes (Message text) h number named known = let both = and_parts (nat_le 1 (length text)) (nat_le (length text) 120) number in (search (rules, both.0), search (rules, both.1))
argument_is wire nodes (Mode mode) h number named known = tt
argument_is wire nodes (Home name) h number named known = home_is nodes name
argument_is wire nodes (HomeNode name) h number named known = node_is nodes name known
argument_is wire nodes (OptionalRoom found) h number named known = pages_are wire found h number
argument_is wire nodes (Path path) h number named known = named
argument_is wire nodes (OptionalPath path) h number named known = optional_path_is path named

arguments_are : (wire : ℕ) (nodes : List NodeRow) (arguments : List Said) → AllByRecursion IsFound arguments → list_all (has_number wire) arguments ≡ true → list_all has_name arguments ≡ true → list_all (names_node nodes) arguments ≡ true → AllByRecursion (IsArgument (length nodes)) (map (given nodes) arguments)
arguments_are wire nodes [] h numbers names nodes_known = tt
arguments_are wire nodes (a ∷ rest) h numbers names nodes_known =
    let number = and_parts (has_number wire a) (list_all (has_number wire) rest) numbers in
    let name = and_parts (has_name a) (list_all has_name rest) names in
    let known = and_parts (names_node nodes a) (list_all (names_node nodes) rest) nodes_known in
    (argument_is wire nodes a h.0 number.0 name.0 known.0, arguments_are wire nodes rest h.1 number.1 name.1 known.1)

pub command_is : (wire : ℕ) (nodes : List NodeRow) (v : Verb) (arguments : List Said) → AreFormed (shape_of v) arguments → list_all (has_number wire) arguments ≡ true → list_all has_name arguments ≡ true → list_all (names_node nodes) arguments ≡ true → IsCommand (length nodes) (command_said nodes v arguments)
command_is wire nodes v arguments h numbers names known =
    subst (AllByRecursion (IsArgument (length nodes))) (sym (arguments-given nodes v arguments h.kinds_are)) (arguments_are wire nodes arguments h.found numbers names known)

-- a process that knows what arguments speak of knows their nodes
node_known : (s : Content) (proc : ProcName) (a : Said) → is_known s proc a ≡ true → names_node s.nodes a ≡ true
node_known s proc (HomeNode name) known = known
node_known s proc _ known = refl

pub nodes_known : (s : Content) (proc : ProcName) (arguments : List Said) → list_all (is_known s proc) arguments ≡ true → list_all (names_node s.nodes) arguments ≡ true
nodes_known s proc [] known = refl
nodes_known s proc (a ∷ rest) known =
    let k = and_parts (is_known s proc a) (list_all (is_known s proc) rest) known in
    rw (node_known s proc a k.0) (nodes_known s proc rest k.1)

-- an argument of which the process may speak
argument_spoken : (s : Content) (proc : ProcName) (a : Said) → is_known s proc a ≡ true → is_fresh s a ≡ true → MaySpeakOf s.objects s.commands proc (given s.nodes a)
argument_spoken s proc (Var name) known fresh = known
argument_spoken s proc (NewVar name) known fresh = not-true (is_declared s.objects name) fresh
argument_spoken s proc (Room found) known fresh = tt
argument_spoken s proc (Offset found) known fresh = tt
argument_spoken s proc (Count found) known fresh = tt
argument_spoken s proc (Address found) known fresh = tt
argument_spoken s proc (Text text) known fresh = tt
argument_spoken s proc (Message text) known fresh = tt
argument_spoken s proc (Mode mode) known fresh = tt
argument_spoken s proc (Home name) known fresh = tt
argument_spoken s proc (HomeNode name) known fresh = tt
argument_spoken s proc (OptionalRoom found) known fresh = tt
argument_spoken s proc (Path path) known fresh = tt
argument_spoken s proc (OptionalPath path) known fresh = tt

arguments_spoken : (s : Content) (proc : ProcName) (arguments : List Said) → list_all (is_known s proc) arguments ≡ true → list_all (is_fresh s) arguments ≡ true → AllByRecursion (MaySpeakOf s.objects s.commands proc) (map (given s.nodes) arguments)
arguments_spoken s proc [] known fresh = tt
arguments_spoken s proc (a ∷ rest) known fresh =
    let k = and_parts (is_known s proc a) (list_all (is_known s proc) rest) known in
    let f = and_parts (is_fresh s a) (list_all (is_fresh s) rest) fresh in
    (argument_spoken s proc a k.0 f.0, arguments_spoken s proc rest k.1 f.1)

pub command_spoken : (s : Content) (proc : ProcName) (v : Verb) (arguments : List Said) → map kind_of arguments ≡ shape_of v → list_all (is_known s proc) arguments ≡ true → list_all (is_fresh s) arguments ≡ true → IsSpoken s.objects s.commands proc (command_said s.nodes v arguments)
command_spoken s proc v arguments kinds known fresh =
    subst (AllByRecursion (MaySpeakOf s.objects s.commands proc)) (sym (arguments-given s.nodes v arguments kinds)) (arguments_spoken s proc arguments known fresh)

-- a test of all arguments of a line
pub all_seen : (p : Said → Bool) (arguments : List ArgumentOfLine) (r : Bool) → (IsTrue r ↔ All (λ a. IsTrue (p (seen_argument a))) arguments) → r ≡ list_all p (seen_arguments arguments)
all_seen p arguments r h = passes_all (λ a. p (seen_argument a)) arguments r h ∙ sym (list_all-map p seen_argument arguments)
