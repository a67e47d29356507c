-- What is taken from a link was put there, in order; and what was put there are its deliveries.
use Rattle.std.proofs.Common.{◌≡◌, ℕ, ◌+◌, Bool, true, false, cond, List, [], ◌∷◌, ◌++◌, length, map, drop, Option, Some, None, refl, sym, ap, subst, ◌∙◌, append_assoc, append-nil, add-one, arith}
use Rattle.std.specs.Prelude.{◌==◌, ◌&&◌, not}
use Rattle.std.proofs.lemmas.Bool.{eq-eqb}
use Rattle.std.proofs.Math.Seq.{drop-append_seam}
use Rattle.uid_names.proofs.Passed.{left-true, right-true, eqb-sym, equal}
use Rattle.dom_history.specs.declared.event.What.{What}
use Rattle.dom_history.specs.declared.event.What.TheVariants.{Begin, Go, Take, Notice, Ready, Mark}
use Rattle.dom_history.specs.declared.event.Sent.{Sent}
use Rattle.dom_history.specs.declared.plan.Fate.{Fate}
use Rattle.dom_history.specs.declared.plan.FateRow.{FateRow}
use Rattle.dom_history.specs.Events.{Happening}
use Rattle.dom_history.specs.Plans.{fate_of}
use Rattle.ring_messages.specs.Frames.{Message}
use Rattle.node_runs.specs.Deliveries.{in_place, copies, copy_if, deliveries, taken_on, takes_on, is_prefix}
use Rattle.world_runs.specs.ByPlace.{events_of}
use Rattle.world_runs.specs.Sendings.{Sending, sending_if, frame_to, mark_to, sent_if, sent_by, sendings, frames_in, frames_on}
use Rattle.world_runs.specs.Waiting.{Entry, due, put_by, entries, entry_if, entry_by, entries_taken, entries_put, waiting}
use Rattle.world_runs.proofs.Alike.{added}
use Rattle.world_runs.proofs.Sent.{IsSent}
use Rattle.world_runs.proofs.Coming.{IsDue}
use Rattle.node_runs.specs.Runs.{World}

-- the frames among what was sent
pub frames-append : (xs ys : List Sending) → frames_in (xs ++ ys) ≡ frames_in xs + frames_in ys
frames-append [] ys = omega arith
frames-append (Sending.Frame ∷ xs) ys = let e = frames-append xs ys in omega (arith, e)
frames-append (Sending.Mark phase ∷ xs) ys = frames-append xs ys

mark-frames : (b : Bool) (phase : ℕ) → frames_in (sending_if b (Sending.Mark phase)) ≡ 0
mark-frames true phase = refl
mark-frames false phase = refl

no-frames : (from to : ℕ) (what : What) → frames_in (mark_to from to what) ≡ 0
no-frames from to (Begin p) = refl
no-frames from to (Go p) = refl
no-frames from to (Take a k) = refl
no-frames from to (Notice p a b k) = refl
no-frames from to (Ready phase) = mark-frames (not (from == to)) phase
no-frames from to (Mark a k) = refl

pub one-frame : (b : Bool) → frames_in (sending_if b Sending.Frame) ≡ cond b 1 0
one-frame true = refl
one-frame false = refl

pub of-node : (b : Bool) (from to : ℕ) (e : Happening) → frames_in (sent_if b from to e) ≡ cond b (frames_in (frame_to to e.effects.sent)) 0
of-node true from to e = let a = frames-append (mark_to from to e.what) (frame_to to e.effects.sent) in let z = no-frames from to e.what in omega (arith, a, z)
of-node false from to e = refl

pub cond-same : (b : Bool) (k : ℕ) → cond b k k ≡ k
cond-same true k = refl
cond-same false k = refl

one-more : (b c : Bool) (m : Message) (xs : List Message) → length (cond b (cond c (m ∷ xs) xs) xs) ≡ cond b (cond c 1 0) 0 + length xs
one-more true true m xs = omega arith
one-more true false m xs = omega arith
one-more false c m xs = omega arith

-- each frame that an event sent on a link is counted there
pub counted : (t n from to : ℕ) (f : Option Message) (e : Happening) (x : Option Sent) (xs : List Message) → e.place.node ≡ n → e.effects.sent ≡ x → IsSent t f x → length (added n f from to xs) ≡ frames_in (sent_by from to e) + length xs
counted t n from to None e x xs node same is =
    let none : frames_in (frame_to to e.effects.sent) ≡ 0 = ap (λ (o : Option Sent). frames_in (frame_to to o)) (same ∙ is) in
    let all : frames_in (sent_by from to e) ≡ 0 = of-node (e.place.node == from) from to e ∙ ap (λ k. cond (e.place.node == from) k 0) none ∙ cond-same (e.place.node == from) 0 in
    omega (arith, all)
counted t n from to (Some m) e None xs node same is = absurd is
counted t n from to (Some m) e (Some x) xs node same is =
    let one : frames_in (frame_to to e.effects.sent) ≡ cond (to == m.to) 1 0 =
    ap (λ (o : Option Sent). frames_in (frame_to to o)) same ∙ one-frame (x.to == to) ∙ ap (λ b. cond (b == to) 1 0) is.1 ∙ ap (λ (b : Bool). cond b 1 0) (eqb-sym m.to to) in
    let all : frames_in (sent_by from to e) ≡ cond (from == n) (cond (to == m.to) 1 0) 0 =
    of-node (e.place.node == from) from to e ∙ ap (λ k. cond (e.place.node == from) k 0) one ∙ ap (λ a. cond (a == from) (cond (to == m.to) 1 0) 0) node
    ∙ ap (λ (b : Bool). cond b (cond (to == m.to) 1 0) 0) (eqb-sym n from) in
    let long = one-more (from == n) (to == m.to) m xs in
    omega (arith, all, long)

pub frames-counted : (t n from to : ℕ) (f : Option Message) (e : Happening) (es : List Happening) (xs : List Message) → e.place.node ≡ n → IsSent t f e.effects.sent
    → length xs ≡ frames_on from to es → length (added n f from to xs) ≡ frames_on from to (e ∷ es)
frames-counted t n from to f e es xs node is before =
    let a = counted t n from to f e e.effects.sent xs node refl is in
    let b = frames-append (sent_by from to e) (sendings from to es) in
    omega (arith, a, b, before)

-- what is sent later is put behind
entries-behind : (fate : ℕ → Fate) (xs ys : List Sending) → (more : List Entry) × (entries fate (xs ++ ys) ≡ entries fate ys ++ more)
entries-behind fate [] ys = ([], sym (append-nil (entries fate ys)))
entries-behind fate (x ∷ xs) ys =
    let found = entries-behind fate xs ys in
    let last = put_by fate (frames_in (xs ++ ys)) x in
    (found.0 ++ last, ap (λ (es : List Entry). es ++ last) found.1 ∙ append_assoc (entries fate ys) found.0 last)

-- what was taken is the first part of what was put, and what waits is the rest
pub record AreInOrder (plan : List FateRow) (from to : ℕ) (es : List Happening) : Type 0 where
  pub parts : entries_put plan from to es ≡ entries_taken from to es ++ waiting plan from to es

in-order : (plan : List FateRow) (from to : ℕ) (es : List Happening) (rest : List Entry) → entries_put plan from to es ≡ entries_taken from to es ++ rest → AreInOrder plan from to es
in-order plan from to es rest e =
    let left : waiting plan from to es ≡ rest = ap (drop (length (entries_taken from to es))) e ∙ drop-append_seam (entries_taken from to es) rest in
    record { parts = e ∙ ap (λ (xs : List Entry). entries_taken from to es ++ xs) (sym left) }

-- the entry that an event takes from a link, if it takes one there, is the oldest
abbrev pub TakesOldest : List FateRow → ℕ → ℕ → ℕ → What → List Happening → Type 0
TakesOldest plan from to n what es = (rest : List Entry) × (waiting plan from to es ≡ entry_by from to n what ++ rest)

pub order-kept : (plan : List FateRow) (from to n : ℕ) (e : Happening) (es : List Happening) → e.place.node ≡ n → AreInOrder plan from to es → TakesOldest plan from to n e.what es → AreInOrder plan from to (e ∷ es)
order-kept plan from to n e es node is (rest, oldest) =
    let behind = entries-behind (fate_of plan from to) (sent_by from to e) (sendings from to es) in
    let taken = entries_taken from to es in
    let here = entry_by from to n e.what in
    in-order plan from to (e ∷ es) (rest ++ behind.0)
    (behind.1
    ∙ ap (λ (xs : List Entry). xs ++ behind.0) (is.parts ∙ ap (λ (xs : List Entry). taken ++ xs) oldest)
    ∙ ap (λ (xs : List Entry). xs ++ behind.0) (sym (append_assoc taken here rest))
    ∙ append_assoc (taken ++ here) rest behind.0
    ∙ ap (λ k. (taken ++ entry_by from to k e.what) ++ (rest ++ behind.0)) (sym node))

-- an event that is due takes the oldest entry of each link
entry-or : (b : Bool) (x : Entry) (ws : List Entry) → (b ≡ true → (rest : List Entry) × (ws ≡ x ∷ rest)) → (rest : List Entry) × (ws ≡ entry_if b x ++ rest)
entry-or true x ws is = is refl
entry-or false x ws is = (ws, refl)

both-equal : (a b c d : ℕ) → ((a == b) && (c == d)) ≡ true → (a ≡ b) × (c ≡ d)
both-equal a b c d h = (equal a b (left-true _ _ h), equal c d (right-true (a == b) _ h))

pub due-takes-oldest : (plan : List FateRow) (w : World) (n : ℕ) (what : What) → IsDue plan w n what → (from to : ℕ) → TakesOldest plan from to n what w.done
due-takes-oldest plan w n (Begin p) due from to = (waiting plan from to w.done, refl)
due-takes-oldest plan w n (Go p) due from to = (waiting plan from to w.done, refl)
due-takes-oldest plan w n (Take sender index) due from to =
    entry-or ((sender == from) && (n == to)) (Entry.Copy index) (waiting plan from to w.done)
    (λ h. let e = both-equal sender from n to h in
    (due.0, ap (λ a. waiting plan a to w.done) (sym e.0) ∙ ap (λ b. waiting plan sender b w.done) (sym e.1) ∙ due.1))
due-takes-oldest plan w n (Notice p a b k) due from to = (waiting plan from to w.done, refl)
due-takes-oldest plan w n (Ready phase) due from to = (waiting plan from to w.done, refl)
due-takes-oldest plan w n (Mark sender phase) due from to =
    entry-or ((sender == from) && (n == to)) (Entry.Mark phase) (waiting plan from to w.done)
    (λ h. let e = both-equal sender from n to h in
    (due.0, ap (λ a. waiting plan a to w.done) (sym e.0) ∙ ap (λ b. waiting plan sender b w.done) (sym e.1) ∙ due.1))

-- the copies among entries
abbrev copies_of : List Entry → List ℕ
copies_of [] = []
copies_of (Entry.Copy index ∷ more) = index ∷ copies_of more
copies_of (Entry.Mark phase ∷ more) = copies_of more

copies-append : (xs ys : List Entry) → copies_of (xs ++ ys) ≡ copies_of xs ++ copies_of ys
copies-append [] ys = refl
copies-append (Entry.Copy index ∷ xs) ys = ap (λ (ks : List ℕ). index ∷ ks) (copies-append xs ys)
copies-append (Entry.Mark phase ∷ xs) ys = copies-append xs ys

copies-map : (ks : List ℕ) → copies_of (map Entry.Copy ks) ≡ ks
copies-map [] = refl
copies-map (k ∷ ks) = ap (λ (xs : List ℕ). k ∷ xs) (copies-map ks)

-- a frame more delivers what is due
pub next-deliveries : (fate : ℕ → Fate) (n : ℕ) → deliveries fate (n + 1) ≡ deliveries fate n ++ due fate n
next-deliveries fate n = subst (λ m. deliveries fate m ≡ deliveries fate n ++ (in_place m (fate m) ++ copies fate m m)) (sym (add-one n)) refl

-- the copies among all entries of a link are its deliveries
put-deliveries : (fate : ℕ → Fate) (ss : List Sending) → copies_of (entries fate ss) ≡ deliveries fate (frames_in ss)
put-deliveries fate [] = refl
put-deliveries fate (Sending.Frame ∷ older) =
    copies-append (entries fate older) (map Entry.Copy (due fate (frames_in older)))
    ∙ ap (λ (ks : List ℕ). ks ++ copies_of (map Entry.Copy (due fate (frames_in older)))) (put-deliveries fate older)
    ∙ ap (λ (ks : List ℕ). deliveries fate (frames_in older) ++ ks) (copies-map (due fate (frames_in older)))
    ∙ sym (next-deliveries fate (frames_in older))
put-deliveries fate (Sending.Mark phase ∷ older) =
    copies-append (entries fate older) (Entry.Mark phase ∷ []) ∙ append-nil (copies_of (entries fate older)) ∙ put-deliveries fate older

copy-or : (b : Bool) (index : ℕ) → copies_of (entry_if b (Entry.Copy index)) ≡ copy_if b index
copy-or true index = refl
copy-or false index = refl

no-copy : (b : Bool) (phase : ℕ) → copies_of (entry_if b (Entry.Mark phase)) ≡ []
no-copy true phase = refl
no-copy false phase = refl

taken-copy : (from to n : ℕ) (what : What) → copies_of (entry_by from to n what) ≡ taken_on from to n what
taken-copy from to n (Begin p) = refl
taken-copy from to n (Go p) = refl
taken-copy from to n (Take sender index) = copy-or ((sender == from) && (n == to)) index
taken-copy from to n (Notice p a b k) = refl
taken-copy from to n (Ready phase) = refl
taken-copy from to n (Mark sender phase) = no-copy ((sender == from) && (n == to)) phase

takes-copies : (from to : ℕ) (es : List Happening) → takes_on from to es ≡ copies_of (entries_taken from to es)
takes-copies from to [] = refl
takes-copies from to (e ∷ older) =
    ap (λ (ks : List ℕ). ks ++ taken_on from to e.place.node e.what) (takes-copies from to older)
    ∙ ap (λ (ks : List ℕ). copies_of (entries_taken from to older) ++ ks) (sym (taken-copy from to e.place.node e.what))
    ∙ sym (copies-append (entries_taken from to older) (entry_by from to e.place.node e.what))

-- a list is the first part of one that begins with it
pub prefix-of : (xs ys : List ℕ) → is_prefix xs (xs ++ ys) ≡ true
prefix-of [] ys = refl
prefix-of (x ∷ xs) ys = ap (λ b. b && is_prefix xs (xs ++ ys)) (eq-eqb x x refl) ∙ prefix-of xs ys

pub taken-prefix : (plan : List FateRow) (from to : ℕ) (es : List Happening) → AreInOrder plan from to es → is_prefix (takes_on from to es) (deliveries (fate_of plan from to) (frames_on from to es)) ≡ true
taken-prefix plan from to es is =
    let fate = fate_of plan from to in
    let taken = entries_taken from to es in
    let all : deliveries fate (frames_on from to es) ≡ copies_of taken ++ copies_of (waiting plan from to es) =
    sym (put-deliveries fate (sendings from to es)) ∙ ap copies_of is.parts ∙ copies-append taken (waiting plan from to es) in
    ap (λ (ks : List ℕ). is_prefix (takes_on from to es) ks) all
    ∙ ap (λ (ks : List ℕ). is_prefix ks (copies_of taken ++ copies_of (waiting plan from to es))) (takes-copies from to es)
    ∙ prefix-of (copies_of taken) (copies_of (waiting plan from to es))

-- what is taken from a link to a node is told by the events of that node
not-here : (b : Bool) (c : Bool) (index : ℕ) → c ≡ false → copy_if (b && c) index ≡ []
not-here true c index h = ap (λ x. copy_if x index) h
not-here false c index h = refl

taken-elsewhere : (from to n : ℕ) (what : What) → (n == to) ≡ false → taken_on from to n what ≡ []
taken-elsewhere from to n (Begin p) h = refl
taken-elsewhere from to n (Go p) h = refl
taken-elsewhere from to n (Take sender index) h = not-here (sender == from) (n == to) index h
taken-elsewhere from to n (Notice p a b k) h = refl
taken-elsewhere from to n (Ready phase) h = refl
taken-elsewhere from to n (Mark sender phase) h = refl

own-or-not : (from to : ℕ) (e : Happening) (older : List Happening) (b : Bool) → (e.place.node == to) ≡ b → takes_on from to older ≡ takes_on from to (events_of to older)
    → takes_on from to (e ∷ older) ≡ takes_on from to (cond b (e ∷ events_of to older) (events_of to older))
own-or-not from to e older true here before = ap (λ (ks : List ℕ). ks ++ taken_on from to e.place.node e.what) before
own-or-not from to e older false away before =
    ap (λ (ks : List ℕ). takes_on from to older ++ ks) (taken-elsewhere from to e.place.node e.what away)
    ∙ append-nil (takes_on from to older) ∙ before

takes-own : (from to : ℕ) (es : List Happening) → takes_on from to es ≡ takes_on from to (events_of to es)
takes-own from to [] = refl
takes-own from to (e ∷ older) = own-or-not from to e older (e.place.node == to) refl (takes-own from to older)

pub takes-same : (from to : ℕ) (es fs : List Happening) → events_of to es ≡ events_of to fs → takes_on from to es ≡ takes_on from to fs
takes-same from to es fs same = takes-own from to es ∙ ap (takes_on from to) same ∙ sym (takes-own from to fs)
