-- In every run each request on a link is of a call of its process, and each open call is one that its process made.
use Rattle.std.proofs.Common.{◌≡◌, ◌≢◌, ℕ, ◌+◌, ◌≤◌, List, [], ◌∷◌, length, Option, Some, None, inl, inr, refl, sym, ap, subst, ◌∙◌, arith}
use Rattle.std.specs.Prelude.{◌==◌, if◌then◌else◌, ◌⊎◌}
use Rattle.std.proofs.lemmas.Bool.{cases_eq}
use Rattle.std.proofs.lemmas.Bool.Decides.{nat_tests}
use Rattle.std.proofs.lemmas.Option.{same_Some}
use Rattle.uid_names.proofs.ListLemmas.{by_cases}
use Rattle.dom_history.specs.declared.event.What.{What}
use Rattle.ring_messages.specs.Bodies.{Ask, body_of_ask, ask_of}
use Rattle.ring_messages.specs.Frames.{Message}
use Rattle.ring_messages.proofs.Asking.{asked-seen}
use Rattle.fault_handler.specs.Desks.{at}
use Rattle.fault_handler.proofs.Fours.{by_proc}
use Rattle.fault_handler.specs.Invariant.{IsProc}
use Rattle.node_runs.specs.Setups.{Setup, Given, given}
use Rattle.node_runs.specs.NodeStates.{Asked, Await, BegunOp, OpenOp, NodeState, first_proc, first_node, proc_of}
use Rattle.node_runs.specs.Incomings.{Incoming}
use Rattle.node_runs.specs.Outcomes.{Stepped, request}
use Rattle.node_runs.specs.Doings.{ticked, noticed_call}
use Rattle.node_runs.specs.Dones.{asking}
use Rattle.node_runs.specs.Runs.{World, first_world, Choice, put, numbered, incoming_of, frames_after, calls_after, world_after}
use Rattle.node_runs.specs.CallsKeep.{HasProcs, AsksThis, IsCallAt, IsOnLink, EachOf, IsAwaited, IsOpenAt, AreCalls}
use Rattle.node_runs.proofs.Doing.{step_of-did}
use Rattle.node_runs.proofs.Receiving.{EachOf-more, incoming-is}
use Rattle.node_runs.proofs.CallSteps.{IsReply, IsNoCall, IsUnasking, Stays, CallStep, silent, asked, again, IsFrameProc, did-calls}
use Rattle.node_runs.proofs.Worlds.{IsNext, every-run}

pub put-same : {A : Type 0} (f : ℕ → A) (k i : ℕ) (x : A) → i ≡ k → put f k x i ≡ x
put-same f k i x same = by_cases (i == k) (put f k x i ≡ x) (λ h. ap (λ b. if b then x else f i) h) (λ h. absurd (grind (arith, nat_tests, h, same)))

pub put-other : {A : Type 0} (f : ℕ → A) (k i : ℕ) (x : A) → i ≢ k → put f k x i ≡ f i
put-other f k i x differs = by_cases (i == k) (put f k x i ≡ f i) (λ h. absurd (differs (grind (arith, nat_tests, h)))) (λ h. ap (λ b. if b then x else f i) h)

-- a number that has a call is within the list
pub numbered-within : (k : ℕ) (calls : List Asked) (to : ℕ) (ask : Ask) → IsCallAt calls k to ask → k ≤ length calls
numbered-within k [] to ask is = absurd is
numbered-within k (c ∷ older) to ask is =
    let within : k ≤ length older + 1 =
    by_cases (k == length older + 1) (k ≤ length older + 1)
    (λ h. grind (arith, nat_tests, h))
    (λ h. let e = numbered-within k older to ask (subst (λ b. AsksThis (if b then Some c else numbered k older) to ask) h is) in omega (arith, e)) in
    omega (arith, within)

-- the calls that there were keep their numbers
older-call : (k : ℕ) (c : Asked) (calls : List Asked) (to : ℕ) (ask : Ask) → IsCallAt calls k to ask → IsCallAt (c ∷ calls) k to ask
older-call k c calls to ask is =
    let within = numbered-within k calls to ask is in
    by_cases (k == length calls + 1) (IsCallAt (c ∷ calls) k to ask)
    (λ h. absurd (let e : k ≡ length calls + 1 = grind (arith, nat_tests, h) in omega (arith, e, within)))
    (λ h. subst (λ b. AsksThis (if b then Some c else numbered k calls) to ask) (sym h) is)

newest-call : (c : Asked) (calls : List Asked) (k : ℕ) → k ≡ length calls + 1 → IsCallAt (c ∷ calls) k c.home c.ask
newest-call c calls k same =
    by_cases (k == length calls + 1) (IsCallAt (c ∷ calls) k c.home c.ask)
    (λ h. subst (λ b. AsksThis (if b then Some c else numbered k calls) c.home c.ask) (sym h) (refl, refl))
    (λ h. absurd (grind (arith, nat_tests, h, same)))

-- more calls
abbrev pub Grows : (ℕ → ℕ → List Asked) → (ℕ → ℕ → List Asked) → Type 0
Grows old new = (n p k to : ℕ) (ask : Ask) → IsCallAt (old n p) k to ask → IsCallAt (new n p) k to ask

link-grows : (old new : ℕ → ℕ → List Asked) → Grows old new → (from to : ℕ) (m : Message) → IsOnLink old from to m → IsOnLink new from to m
link-grows old new grows from to m is = record { sender = is.sender; receiver = is.receiver; proc = is.proc; call = λ ask asks. grows from m.proc m.number to ask (is.call ask asks) }

of-call : (calls : List Asked) (k to : ℕ) (own : Ask) → IsCallAt calls k to own → (ask : Ask) → ask_of (body_of_ask own) ≡ Some ask → IsCallAt calls k to ask
of-call calls k to own is ask asks = subst (λ a. IsCallAt calls k to a) (same_Some own ask (sym (asked-seen own) ∙ asks)) is

-- the frames after one more
pub frames-one : (w : World) (n : ℕ) (m : Message) (P : ℕ → ℕ → Message → Type 0) → P n m.to m → ((from to : ℕ) → EachOf (P from to) (w.frames from to)) → (from to : ℕ) → EachOf (P from to) (frames_after w n (Some m) from to)
frames-one w n m P here old from to = elim (cases_eq from n) [
  | inr differs ↦ subst (λ (f : ℕ → List Message). EachOf (P from to) (f to)) (sym (put-other w.frames n from _ differs)) (old from to)
  | inl same ↦
      subst (λ (f : ℕ → List Message). EachOf (P from to) (f to)) (sym (put-same w.frames n from _ same))
      (subst (λ a. EachOf (P a to) (put (w.frames n) m.to (m ∷ w.frames n m.to) to)) (sym same) (elim (cases_eq to m.to) [
        | inr away ↦ subst (EachOf (P n to)) (sym (put-other (w.frames n) m.to to _ away)) (old n to)
        | inl there ↦ subst (EachOf (P n to)) (sym (put-same (w.frames n) m.to to _ there)) (subst (λ b. P n b m) (sym there) here, subst (λ b. EachOf (P n b) (w.frames n m.to)) (sym there) (old n m.to))
      ]))
]

-- the list of one process after one more call
calls-own : (w : World) (n p : ℕ) (c : Asked) → calls_after w n (Some (p, c)) n p ≡ c ∷ w.calls n p
calls-own w n p c = ap (λ f. f p) (put-same w.calls n n _ refl) ∙ put-same (w.calls n) p p _ refl

calls-beside : (w : World) (n p q : ℕ) (c : Asked) → q ≢ p → calls_after w n (Some (p, c)) n q ≡ w.calls n q
calls-beside w n p q c differs = ap (λ f. f q) (put-same w.calls n n _ refl) ∙ put-other (w.calls n) p q _ differs

calls-elsewhere : (w : World) (n p a q : ℕ) (c : Asked) → a ≢ n → calls_after w n (Some (p, c)) a q ≡ w.calls a q
calls-elsewhere w n p a q c differs = ap (λ f. f q) (put-other w.calls n a _ differs)

pub calls-grow : (w : World) (n p : ℕ) (c : Asked) → Grows w.calls (calls_after w n (Some (p, c)))
calls-grow w n p c a q k to ask is = elim (cases_eq a n) [
  | inr differs ↦ subst (λ cs. IsCallAt cs k to ask) (sym (calls-elsewhere w n p a q c differs)) is
  | inl same ↦ elim (cases_eq q p) [
    | inr away ↦ subst (λ b. IsCallAt (calls_after w n (Some (p, c)) b q) k to ask) (sym same) (subst (λ cs. IsCallAt cs k to ask) (sym (calls-beside w n p q c away)) (subst (λ b. IsCallAt (w.calls b q) k to ask) same is))
    | inl there ↦
        subst (λ b. IsCallAt (calls_after w n (Some (p, c)) b q) k to ask) (sym same)
        (subst (λ r. IsCallAt (calls_after w n (Some (p, c)) n r) k to ask) (sym there)
        (subst (λ cs. IsCallAt cs k to ask) (sym (calls-own w n p c)) (older-call k c (w.calls n p) to ask (subst (λ r. IsCallAt (w.calls n r) k to ask) there (subst (λ b. IsCallAt (w.calls b q) k to ask) same is)))))
  ]
]

-- an open call after more calls
open-grows : (old new : List Asked) → ((k to : ℕ) (ask : Ask) → IsCallAt old k to ask → IsCallAt new k to ask) → (o : Option OpenOp) → IsOpenAt old o → IsOpenAt new o
open-grows old new grows None is = tt
open-grows old new grows (Some o) is = awaited o.awaits is
  where
    awaited : (a : Await) → IsAwaited old a → IsAwaited new a
    awaited (Await.Answer c) is = grows c.waiting.number c.home c.ask is
    awaited (Await.Page u k) is = tt

unasking-open : (calls : List Asked) (o : Option OpenOp) → IsUnasking o → IsOpenAt calls o
unasking-open calls None is = tt
unasking-open calls (Some o) is = at o.awaits is
  where
    at : (a : Await) → IsNoCall a → IsAwaited calls a
    at (Await.Answer c) is = absurd is
    at (Await.Page u k) is = tt

-- a frame that is taken is of a process
incoming-proc : (w : World) → AreCalls w → (n : ℕ) (what : What) (incoming : Incoming) → incoming_of w n what ≡ Some incoming → IsFrameProc incoming
incoming-proc w are n what incoming e =
    incoming-is IsFrameProc tt (λ number tick. tt) (λ tick. tt) (λ m. IsProc m.proc) (λ m proc. proc) w n
    (λ from. EachOf-more (IsOnLink w.calls from n) (λ m. IsProc m.proc) (w.frames from n) (λ m is. is.proc) (are.frames from n)) what incoming e

module _ (old : World) (are : AreCalls old) (g : Given) (n : NodeState) (procs : n.procs ≡ (old.nodes g.number).procs) (s : Stepped) where
  own-last : (p : ℕ) → IsProc p → (proc_of n p).last ≡ length (old.calls g.number p)
  own-last p proc = ap (λ ps. (at ps p first_proc).last) procs ∙ are.last g.number p proc

  own-open : (p : ℕ) → IsProc p → IsOpenAt (old.calls g.number p) (proc_of n p).doing
  own-open p proc = subst (λ ps. IsOpenAt (old.calls g.number p) (at ps p first_proc).doing) (sym procs) (are.opened g.number p proc)

  -- the node that did something, and the others
  at-node : (P : ℕ → NodeState → Type 0) → P g.number s.node → ((a : ℕ) → a ≢ g.number → P a (old.nodes a)) → (a : ℕ) → P a (put old.nodes g.number s.node a)
  at-node P here others a = elim (cases_eq a g.number) [
    | inl same ↦ subst (P a) (sym (put-same old.nodes g.number a s.node same)) (subst (λ b. P b s.node) (sym same) here)
    | inr differs ↦ subst (P a) (sym (put-other old.nodes g.number a s.node differs)) (others a differs)
  ]

  -- what holds of the calls of the new world
  abbrev AreAfter : (ℕ → ℕ → List Asked) → (ℕ → ℕ → List Message) → Type 0
  AreAfter calls frames =
      ((a p : ℕ) → IsProc p → (proc_of (put old.nodes g.number s.node a) p).last ≡ length (calls a p))
      × ((a p : ℕ) → IsProc p → IsOpenAt (calls a p) (proc_of (put old.nodes g.number s.node a) p).doing)
      × ((from to : ℕ) → EachOf (IsOnLink calls from to) (frames from to))

  frames-reply : (f : Option Message) → IsReply g f → (from to : ℕ) → EachOf (IsOnLink old.calls from to) (frames_after old g.number f from to)
  frames-reply None reply = are.frames
  frames-reply (Some m) reply = frames-one old g.number m (IsOnLink old.calls)
      (record { sender = reply.0; receiver = refl; proc = reply.1; call = λ ask asks. let e : None ≡ Some ask = sym reply.2 ∙ asks in absurd (cc) }) are.frames

  silent-after : IsReply g s.frame → ((p : ℕ) → IsProc p → Stays (proc_of n p) (proc_of s.node p)) → AreAfter old.calls (frames_after old g.number s.frame)
  silent-after reply stay = (
    at-node (λ a x. (p : ℕ) → IsProc p → (proc_of x p).last ≡ length (old.calls a p)) (λ p proc. (stay p proc).last ∙ own-last p proc) (λ a differs p proc. are.last a p proc),
    at-node (λ a x. (p : ℕ) → IsProc p → IsOpenAt (old.calls a p) (proc_of x p).doing) (λ p proc. doing p proc (stay p proc).doing) (λ a differs p proc. are.opened a p proc),
    frames-reply s.frame reply,
  )
    where
      doing : (p : ℕ) → IsProc p → ((proc_of s.node p).doing ≡ (proc_of n p).doing) ⊎ IsUnasking (proc_of s.node p).doing → IsOpenAt (old.calls g.number p) (proc_of s.node p).doing
      doing p proc (inl same) = subst (IsOpenAt (old.calls g.number p)) (sym same) (own-open p proc)
      doing p proc (inr none) = unasking-open (old.calls g.number p) (proc_of s.node p).doing none

  again-after : (p : ℕ) (o : BegunOp) (c : Asked) → IsProc p → (proc_of n p).doing ≡ asking o c → (proc_of s.node p).last ≡ (proc_of n p).last → (proc_of s.node p).doing ≡ asking o (noticed_call c)
      → ((q : ℕ) → IsProc q → q ≢ p → proc_of s.node q ≡ proc_of n q) → AreAfter old.calls (frames_after old g.number (Some (request g n p (noticed_call c))))
  again-after p o c proc was last now others = (
    at-node (λ a x. (q : ℕ) → IsProc q → (proc_of x q).last ≡ length (old.calls a q)) (λ q other. by_last q other (cases_eq q p)) (λ a differs q other. are.last a q other),
    at-node (λ a x. (q : ℕ) → IsProc q → IsOpenAt (old.calls a q) (proc_of x q).doing) (λ q other. by_open q other (cases_eq q p)) (λ a differs q other. are.opened a q other),
    frames-one old g.number (request g n p (noticed_call c)) (IsOnLink old.calls) (record { sender = refl; receiver = refl; proc = proc; call = λ ask asks. of-call (old.calls g.number p) c.waiting.number c.home c.ask known ask asks }) are.frames,
  )
    where
      known : IsCallAt (old.calls g.number p) c.waiting.number c.home c.ask
      known = subst (IsOpenAt (old.calls g.number p)) was (own-open p proc)

      by_last : (q : ℕ) → IsProc q → (q ≡ p) ⊎ (q ≢ p) → (proc_of s.node q).last ≡ length (old.calls g.number q)
      by_last q other (inl same) = subst (λ r. (proc_of s.node r).last ≡ length (old.calls g.number r)) (sym same) (last ∙ own-last p proc)
      by_last q other (inr differs) = ap (λ x. x.last) (others q other differs) ∙ own-last q other

      by_open : (q : ℕ) → IsProc q → (q ≡ p) ⊎ (q ≢ p) → IsOpenAt (old.calls g.number q) (proc_of s.node q).doing
      by_open q other (inl same) = subst (λ r. IsOpenAt (old.calls g.number r) (proc_of s.node r).doing) (sym same) (subst (IsOpenAt (old.calls g.number p)) (sym now) known)
      by_open q other (inr differs) = subst (λ x. IsOpenAt (old.calls g.number q) x.doing) (sym (others q other differs)) (own-open q other)

  asked-after : (p : ℕ) (o : BegunOp) (c : Asked) → IsProc p → c.waiting.number ≡ (proc_of n p).last + 1 → (proc_of s.node p).last ≡ c.waiting.number → (proc_of s.node p).doing ≡ asking o c
      → ((q : ℕ) → IsProc q → q ≢ p → proc_of s.node q ≡ proc_of n q) → AreAfter (calls_after old g.number (Some (p, c))) (frames_after old g.number (Some (request g n p c)))
  asked-after p o c proc next last now others = (
    at-node (λ a x. (q : ℕ) → IsProc q → (proc_of x q).last ≡ length (calls_after old g.number (Some (p, c)) a q)) (λ q other. by_last q other (cases_eq q p))
        (λ a differs q other. are.last a q other ∙ ap (λ cs. length cs) (sym (calls-elsewhere old g.number p a q c differs))),
    at-node (λ a x. (q : ℕ) → IsProc q → IsOpenAt (calls_after old g.number (Some (p, c)) a q) (proc_of x q).doing) (λ q other. by_open q other (cases_eq q p))
        (λ a differs q other. subst (λ cs. IsOpenAt cs (proc_of (old.nodes a) q).doing) (sym (calls-elsewhere old g.number p a q c differs)) (are.opened a q other)),
    frames-one old g.number (request g n p c) (IsOnLink (calls_after old g.number (Some (p, c))))
        (record { sender = refl; receiver = refl; proc = proc; call = λ ask asks. of-call (calls_after old g.number (Some (p, c)) g.number p) c.waiting.number c.home c.ask (subst (λ cs. IsCallAt cs c.waiting.number c.home c.ask) (sym (calls-own old g.number p c)) newest) ask asks })
        (λ from to. EachOf-more (IsOnLink old.calls from to) (IsOnLink (calls_after old g.number (Some (p, c))) from to) (old.frames from to) (λ m is. link-grows old.calls (calls_after old g.number (Some (p, c))) (calls-grow old g.number p c) from to m is) (are.frames from to)),
  )
    where
      number : c.waiting.number ≡ length (old.calls g.number p) + 1
      number = let e = own-last p proc in omega (arith, e, next)

      newest : IsCallAt (c ∷ old.calls g.number p) c.waiting.number c.home c.ask
      newest = newest-call c (old.calls g.number p) c.waiting.number number

      by_last : (q : ℕ) → IsProc q → (q ≡ p) ⊎ (q ≢ p) → (proc_of s.node q).last ≡ length (calls_after old g.number (Some (p, c)) g.number q)
      by_last q other (inl same) =
          subst (λ r. (proc_of s.node r).last ≡ length (calls_after old g.number (Some (p, c)) g.number r)) (sym same)
          (subst (λ cs. (proc_of s.node p).last ≡ length cs) (sym (calls-own old g.number p c)) (omega (arith, last, number)))
      by_last q other (inr differs) = ap (λ x. x.last) (others q other differs) ∙ own-last q other ∙ ap (λ cs. length cs) (sym (calls-beside old g.number p q c differs))

      by_open : (q : ℕ) → IsProc q → (q ≡ p) ⊎ (q ≢ p) → IsOpenAt (calls_after old g.number (Some (p, c)) g.number q) (proc_of s.node q).doing
      by_open q other (inl same) =
          subst (λ r. IsOpenAt (calls_after old g.number (Some (p, c)) g.number r) (proc_of s.node r).doing) (sym same)
          (subst (λ cs. IsOpenAt cs (proc_of s.node p).doing) (sym (calls-own old g.number p c)) (subst (IsOpenAt (c ∷ old.calls g.number p)) (sym now) newest))
      by_open q other (inr differs) =
          subst (λ cs. IsOpenAt cs (proc_of s.node q).doing) (sym (calls-beside old g.number p q c differs)) (subst (λ x. IsOpenAt (old.calls g.number q) x.doing) (sym (others q other differs)) (own-open q other))

  step-after : CallStep g n s → AreAfter (calls_after old g.number s.call) (frames_after old g.number s.frame) × (length s.node.procs ≡ 4)
  step-after (silent none reply stay four) = (subst (λ c. AreAfter (calls_after old g.number c) (frames_after old g.number s.frame)) (sym none) (silent-after reply stay), four)
  step-after (again p o c proc was none frame last now others four) =
      (subst (λ k. AreAfter (calls_after old g.number k) (frames_after old g.number s.frame)) (sym none) (subst (λ f. AreAfter old.calls (frames_after old g.number f)) (sym frame) (again-after p o c proc was last now others)), four)
  step-after (asked p o c proc next call frame last now others four) =
      (subst (λ k. AreAfter (calls_after old g.number k) (frames_after old g.number s.frame)) (sym call) (subst (λ f. AreAfter (calls_after old g.number (Some (p, c))) (frames_after old g.number f)) (sym frame) (asked-after p o c proc next last now others)), four)

pub calls-later : (s : Setup) → HasProcs s → (old : World) (c : Choice) (new : World) → IsNext s old c new → AreCalls old → AreCalls new
calls-later s procs old c new is are =
    let g = given s c.node in
    let done = step_of-did g (old.nodes c.node) c.what is.incoming c.dropped is.step is.steps in
    let n = ticked (old.nodes c.node) is.incoming in
    let after = step-after old are g n refl is.step (did-calls g n (are.four c.node) (procs c.node) c.what is.incoming is.step (incoming-proc old are c.node c.what is.incoming is.comes) done) in
    subst AreCalls (sym is.world)
    (record {
      last = after.0.0;
      opened = after.0.1;
      four = at-node old are g n refl is.step (λ a x. length x.procs ≡ 4) after.1 (λ a differs. are.four a);
      frames = after.0.2;
    })

pub calls-first : (s : Setup) → AreCalls (first_world s)
calls-first s = record {
  last = λ n. by_proc (λ p. (proc_of (first_node (given s n)) p).last ≡ 0) refl refl refl refl;
  opened = λ n. by_proc (λ p. IsOpenAt [] (proc_of (first_node (given s n)) p).doing) tt tt tt tt;
  four = λ n. refl;
  frames = λ from to. tt;
}

-- in every run
pub calls-are : (s : Setup) → HasProcs s → (cs : List Choice) (w : World) → world_after s cs ≡ Some w → AreCalls w
calls-are s procs = every-run s AreCalls (calls-first s) (calls-later s procs)
