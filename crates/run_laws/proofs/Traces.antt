-- What one note more leaves of contents, of stamps that were told with grants, and of answers.
use Rattle.std.proofs.Common.{◌≡◌, ℕ, ◌+◌, ◌≤◌, ◌<◌, Bool, true, false, List, [], ◌∷◌, Option, Some, None, inl, inr, refl, ap, subst, ◌∙◌, arith}
use Rattle.std.specs.Prelude.{◌==◌, nat_le, ◌&&◌, if◌then◌else◌, unwrap_or}
use Rattle.std.proofs.lemmas.Bool.Decides.{nat_tests}
use Rattle.uid_names.specs.Names.{ProcName, ObjectName, same_uid}
use Rattle.uid_names.specs.declared.ids.Place.{Place}
use Rattle.uid_names.specs.declared.mode.Mode.{Mode}
use Rattle.uid_names.specs.declared.mode.ObjKind.{ObjKind}
use Rattle.object_store.specs.declared.attributes.Attr.{Attr}
use Rattle.object_store.specs.HomeStates.{HomeState, attr_of}
use Rattle.lock_manager.specs.Grants.{conflict_of}
use Rattle.lock_manager.specs.Tables.{Table}
use Rattle.ring_messages.specs.Bodies.{Ask, Answer}
use Rattle.page_server.specs.Decisions.{decide, lock_answer}
use Rattle.node_runs.specs.Notes.{Note}
use Rattle.node_runs.specs.Runs.{World, Noted, numbered}
use Rattle.node_runs.specs.CallsKeep.{IsCallAt, EachOf}
use Rattle.node_runs.specs.DecidedCalls.{IsDecided}
use Rattle.node_runs.proofs.Decisions.{IsNoDecision}
use Rattle.node_runs.proofs.Receiving.{EachOf-more}
use Rattle.run_laws.specs.DecidedReplies.{IsAnswerAt, WasAnswered}
use Rattle.run_laws.proofs.HearingRuns.{same-ask}
use Rattle.run_laws.proofs.NotedContents.{content-above}
use Rattle.run_laws.proofs.Given.{NoteHas}
use Rattle.run_laws.proofs.ObjectMoves.{taken-each}
use Rattle.run_laws.specs.Items.{Item, same_item, Write, write_of}
use Rattle.run_laws.specs.Contents.{value_if, left_by, left_if, content, told_with, granted_if, since}
use Rattle.run_laws.specs.Stamps.{IsThere, stamp_at, TellsItem, TellsStamp}

left-quiet : (b : Bool) (u : ObjectName) (x : Item) (t : ℕ) (note : Note) → IsNoDecision note → left_if b u x t note ≡ None
left-quiet false u x t note quiet = refl
left-quiet true u x t Note.Nothing quiet = refl
left-quiet true u x t (Note.Began p op) quiet = refl
left-quiet true u x t (Note.Did p phase op reply) quiet = refl
left-quiet true u x t (Note.Ended told) quiet = refl
left-quiet true u x t (Note.Decided p number ask answer) quiet = absurd quiet

granted-quiet : (b : Bool) (u : ObjectName) (grant : ℕ) (note : Note) → IsNoDecision note → granted_if b u grant note ≡ None
granted-quiet false u grant note quiet = refl
granted-quiet true u grant Note.Nothing quiet = refl
granted-quiet true u grant (Note.Began p op) quiet = refl
granted-quiet true u grant (Note.Did p phase op reply) quiet = refl
granted-quiet true u grant (Note.Ended told) quiet = refl
granted-quiet true u grant (Note.Decided p number ask answer) quiet = absurd quiet

-- a note that decides nothing
module _ (j : Noted) (older : List Noted) (u : ObjectName) (quiet : IsNoDecision j.note) where
  pub content-quiet : (t : ℕ) (x : Item) → content (j ∷ older) u t x ≡ content older u t x
  content-quiet t x = ap (λ o. unwrap_or o (content older u t x)) (left-quiet (j.place.node == u.home) u x t j.note quiet)

  pub since-quiet : (grant : ℕ) → since (j ∷ older) u grant ≡ since older u grant
  since-quiet grant = ap (λ o. unwrap_or o (since older u grant)) (granted-quiet (j.place.node == u.home) u grant j.note quiet)

and-none : (a b : Bool) → (a && (b && false)) ≡ false
and-none false b = refl
and-none true false = refl
and-none true true = refl

pub item-is : (x y : Item) → same_item x y ≡ true → x ≡ y
item-is (Item.Page k) (Item.Page j) is = ap Item.Page (grind (arith, nat_tests, is))
item-is Item.Size Item.Size is = refl
item-is (Item.Page k) Item.Size is = absurd (cc)
item-is Item.Size (Item.Page j) is = absurd (cc)

pub item-itself : (x : Item) → same_item x x ≡ true
item-itself (Item.Page k) = grind (arith, nat_tests)
item-itself Item.Size = refl

-- a decision
module _ (place : Place) (q : ProcName) (number : ℕ) (ask : Ask) (answer : Answer) (older : List Noted) (u : ObjectName) where
  abbrev mark : Noted
  mark = record { place = place; note = Note.Decided q number ask answer }

  none-left : (b : Bool) (x : Item) (t : ℕ) → left_by u x t (write_of ask) answer ≡ None → unwrap_or (left_if b u x t (Note.Decided q number ask answer)) (content older u t x) ≡ content older u t x
  none-left false x t none = refl
  none-left true x t none = ap (λ o. unwrap_or o (content older u t x)) none

  pub content-unwritten : (x : Item) (t : ℕ) → left_by u x t (write_of ask) answer ≡ None → content (mark ∷ older) u t x ≡ content older u t x
  content-unwritten x t none = none-left (place.node == u.home) x t none

  -- elsewhere
  pub content-away : (place.node == u.home) ≡ false → (x : Item) (t : ℕ) → content (mark ∷ older) u t x ≡ content older u t x
  content-away away x t = ap (λ b. unwrap_or (left_if b u x t (Note.Decided q number ask answer)) (content older u t x)) away

  pub since-away : (place.node == u.home) ≡ false → (grant : ℕ) → since (mark ∷ older) u grant ≡ since older u grant
  since-away away grant = ap (λ b. unwrap_or (granted_if b u grant (Note.Decided q number ask answer)) (since older u grant)) away

  pub since-other : (grant : ℕ) → told_with u grant ask answer ≡ None → since (mark ∷ older) u grant ≡ since older u grant
  since-other grant none = by (place.node == u.home)
    where
      by : (b : Bool) → unwrap_or (granted_if b u grant (Note.Decided q number ask answer)) (since older u grant) ≡ since older u grant
      by false = refl
      by true = ap (λ o. unwrap_or o (since older u grant)) none

  -- a write that was taken at a stamp
  module _ (w : Write) (s : ℕ) (writes : write_of ask ≡ Some w) (stored : answer ≡ Answer.Stored s) where
    left-is : (x : Item) (t : ℕ) → left_by u x t (write_of ask) answer ≡ value_if (same_uid w.uid u && (same_item w.item x && nat_le s t)) w
    left-is x t = ap (λ o. left_by u x t o answer) writes ∙ ap (left_by u x t (Some w)) stored

    pub content-below : (x : Item) (t : ℕ) → t < s → content (mark ∷ older) u t x ≡ content older u t x
    content-below x t below = content-unwritten x t (left-is x t ∙ ap (λ b. value_if b w)
        (ap (λ b. same_uid w.uid u && (same_item w.item x && b)) (let e : nat_le s t ≡ false = grind (arith, nat_tests, below) in e) ∙ and-none (same_uid w.uid u) (same_item w.item x)))

    pub content-beside : (x : Item) (t : ℕ) → same_item w.item x ≡ false → content (mark ∷ older) u t x ≡ content older u t x
    content-beside x t differs = content-unwritten x t (left-is x t ∙ ap (λ b. value_if b w) (ap (λ b. same_uid w.uid u && (b && nat_le s t)) differs ∙ none (same_uid w.uid u)))
      where
        none : (b : Bool) → (b && false) ≡ false
        none true = refl
        none false = refl

    pub content-written : (t : ℕ) → s ≤ t → w.uid ≡ u → place.node ≡ u.home → content (mark ∷ older) u t w.item ≡ w.value
    content-written t up same at =
        ap (λ b. unwrap_or (left_if b u w.item t (Note.Decided q number ask answer)) (content older u t w.item)) (let e : (place.node == u.home) ≡ true = grind (arith, nat_tests, at) in e)
        ∙ ap (λ o. unwrap_or o (content older u t w.item)) (left-is w.item t ∙ ap (λ b. value_if b w)
        (ap (λ b. same_uid w.uid u && (same_item w.item w.item && b)) (let e : nat_le s t ≡ true = grind (arith, nat_tests, up) in e)
        ∙ (ap (λ b. same_uid w.uid u && (b && true)) (item-itself w.item) ∙ ap (λ b. b && true) (let e : same_uid w.uid u ≡ true = subst (λ v. same_uid w.uid v ≡ true) same (grind (arith, nat_tests)) in e))))

  -- a grant
  pub since-granted : (m : Mode) (grant stamp room n : ℕ) (kind : ObjKind) → ask ≡ Ask.Lock u m → answer ≡ Answer.Granted grant stamp kind room n → place.node ≡ u.home → since (mark ∷ older) u grant ≡ stamp
  since-granted m grant stamp room n kind asks tells at =
      ap (λ b. unwrap_or (granted_if b u grant (Note.Decided q number ask answer)) (since older u grant)) (let e : (place.node == u.home) ≡ true = grind (arith, nat_tests, at) in e)
      ∙ ap (λ o. unwrap_or o (since older u grant)) (ap (λ y. told_with u grant y answer) asks ∙ (ap (told_with u grant (Ask.Lock u m)) tells
      ∙ ap (λ b. let o : Option ℕ = if b then Some stamp else None in o) (let e : (same_uid u u && (grant == grant)) ≡ true = grind (arith, nat_tests) in e)))

-- a grant that was given before is not told anew
pub told-before : (home : HomeState) (locks : Table) (q : ProcName) (u : ObjectName) (grant : ℕ) → grant ≤ locks.last → (ask : Ask) → told_with u grant ask (decide home locks q ask).answer ≡ None
told-before home locks q u grant given (Ask.Lock v m) = by (attr_of home v) (conflict_of q v m locks.grants)
  where
    later : (b : Bool) → (b && (locks.last + 1 == grant)) ≡ false
    later false = refl
    later true = grind (arith, nat_tests, given)

    by : (attr : Option Attr) (conflict : _) → told_with u grant (Ask.Lock v m) (lock_answer attr conflict (locks.last + 1)) ≡ None
    by None conflict = refl
    by (Some attr) (Some (holder, held)) = refl
    by (Some attr) None = ap (λ b. let o : Option ℕ = if b then Some attr.stamp else None in o) (later (same_uid v u))
told-before home locks q u grant given (Ask.PageIn v k) = refl
told-before home locks q u grant given (Ask.PageOut v k g base bytes) = refl
told-before home locks q u grant given (Ask.AttrOut v n g base) = refl
told-before home locks q u grant given (Ask.Unlock v) = refl
told-before home locks q u grant given (Ask.Remove v) = refl
told-before home locks q u grant given (Ask.Make kind room) = refl
told-before home locks q u grant given (Ask.ListLocks after) = refl

-- above its stamp an object holds what it holds at it: no write was taken later
pub content-late : (w : World) (u : ObjectName) → IsThere w u → (t : ℕ) → stamp_at w u ≤ t → (x : Item) → EachOf (λ (j : Noted). TellsStamp w j.note) w.trace → content w.trace u t x ≡ content w.trace u (stamp_at w u) x
content-late w u there t above x told = content-above u (stamp_at w u) t x above w.trace (taken-each w u (λ i. i ≤ stamp_at w u) (λ i is. is.most there) told)

-- an answer to a call has what each decision has
module _ (w : World) (T : Ask → Answer → Type 0) (P : ProcName) (number to : ℕ) (asked : Ask) (made : IsCallAt (w.calls P.node P.number) number to asked) (home : ℕ) (answer : Answer) where
  note-told : (x : Place) (note : Note) → IsAnswerAt home P number answer (record { place = x; note = note }) → IsDecided w x note → NoteHas T note → T asked answer
  note-told x Note.Nothing is decided tells = absurd is.1
  note-told x (Note.Began q op) is decided tells = absurd is.1
  note-told x (Note.Did q phase op reply) is decided tells = absurd is.1
  note-told x (Note.Ended t) is decided tells = absurd is.1
  note-told x (Note.Decided q i ask given) is decided tells =
      let call : IsCallAt (w.calls P.node P.number) number x.node ask = subst (λ (r : ProcName). IsCallAt (w.calls r.node r.number) number x.node ask) is.1.0 (subst (λ j. IsCallAt (w.calls q.node q.number) j x.node ask) is.1.1 decided.1) in
      let same : ask ≡ asked = same-ask (numbered number (w.calls P.node P.number)) x.node to ask asked call made in
      subst (T asked) is.1.2 (subst (λ a. T a given) same tells)

  pub told-of : (notes : List Noted) → WasAnswered notes home P number answer → EachOf (λ (j : Noted). IsDecided w j.place j.note) notes → EachOf (λ (j : Noted). NoteHas T j.note) notes → T asked answer
  told-of [] some decided tells = absurd some
  told-of (j ∷ older) (inl is) decided tells = note-told j.place j.note is decided.0 tells.0
  told-of (j ∷ older) (inr some) decided tells = told-of older some decided.1 tells.1

stamp-told : (w : World) (note : Note) → TellsStamp w note → NoteHas (TellsItem w) note
stamp-told w Note.Nothing is = tt
stamp-told w (Note.Began q op) is = tt
stamp-told w (Note.Did q phase op reply) is = tt
stamp-told w (Note.Ended t) is = tt
stamp-told w (Note.Decided q i ask given) is = is

pub stamps-told : (w : World) (notes : List Noted) → EachOf (λ (j : Noted). TellsStamp w j.note) notes → EachOf (λ (j : Noted). NoteHas (TellsItem w) j.note) notes
stamps-told w notes told = EachOf-more (λ (j : Noted). TellsStamp w j.note) (λ (j : Noted). NoteHas (TellsItem w) j.note) notes (λ j is. stamp-told w j.note is) told
