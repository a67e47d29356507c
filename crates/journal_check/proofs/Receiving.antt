-- What is kept of a link's frames says what an event receives of them.
use Rattle.std.proofs.Common.{◌≡◌, ℕ, Bool, true, false, Option, Some, None, List, inl, inr, refl, sym, ap, subst, ◌∙◌}
use Rattle.std.specs.Prelude.{◌==◌, ◌&&◌, if◌then◌else◌, is_some}
use Rattle.std.specs.Option.{option_map}
use Rattle.std.proofs.lemmas.Option.{same_Some}
use Rattle.uid_names.specs.Names.{ProcName, same_proc}
use Rattle.uid_names.proofs.Somes.{take-some}
use Rattle.ring_messages.specs.Bodies.{Ask, ask_of, is_request}
use Rattle.ring_messages.specs.Frames.{Message, caller_of}
use Rattle.ring_messages.specs.declared.body.Body.{Body}
use Rattle.ring_messages.proofs.Asking.{asked-of, request-is}
use Rattle.fault_handler.specs.Desks.{IsNode}
use Rattle.node_runs.specs.CallsKeep.{AreCalls, EachOf, IsOnLink}
use Rattle.node_runs.specs.Incomings.{Incoming}
use Rattle.node_runs.specs.Runs.{World, numbered, told_if, told_of}
use Rattle.node_runs.proofs.Receiving.{numbered-each}
use Rattle.world_runs.specs.Gone.{was_told}
use Rattle.node_core.specs.declared.setup.Incoming.TheVariants as received
use Rattle.run_journals.specs.OverFrames.{bare, bare_body}
use Rattle.journal_check.specs.Kept.{Kept, IsKeptOf, bare_of, body_for, head_at, head_of, live_at}
use Rattle.journal_check.specs.Passes.{IsTakenAs, IsTakenOf, IsToldBy}
use Rattle.journal_check.specs.declared.frames.Head.{Head}
use Rattle.journal_check.proofs.Heads.{live-right}

-- what the head alone carries
bare-body : (b : Body) → body_for (is_request b) ≡ bare_body (ask_of b)
bare-body b = by (ask_of b) refl (is_request b) refl
  where
    by : (o : Option Ask) → ask_of b ≡ o → (t : Bool) → is_request b ≡ t → body_for t ≡ bare_body o
    by (Some ask) asks true is = refl
    by (Some ask) asks false is = absurd (let both : true ≡ false = sym (request-is b ask asks) ∙ is in cc)
    by None none false is = refl
    by None none true is = absurd (let there : is_some (ask_of b) ≡ true = asked-of b is in let both : true ≡ false = sym there ∙ ap (λ (x : Option Ask). is_some x) none in cc)

-- a frame that has a head
record IsHeadOf (w : World) (from to index : ℕ) (h : Head) : Type 0 where
  frame : Message
  sent : numbered index (w.frames from to) ≡ Some frame
  head : h ≡ head_of frame (was_told w.done (from, to, index))
  link : IsOnLink w.calls from to frame

module _ (w : World) (calls : AreCalls w) (from to index : ℕ) (k : Kept) (is : IsKeptOf w from to k) where
  on-link : (m : Message) → numbered index (w.frames from to) ≡ Some m → IsOnLink w.calls from to m
  on-link m sent = take-some (IsOnLink w.calls from to) (numbered index (w.frames from to)) m sent (numbered-each (IsOnLink w.calls from to) index (w.frames from to) (calls.frames from to))

  head-none : head_at index k.heads ≡ None → numbered index (w.frames from to) ≡ None
  head-none none = by (numbered index (w.frames from to)) refl (sym none ∙ is.heads index)
    where
      by : (o : Option Message) → numbered index (w.frames from to) ≡ o → None ≡ option_map (λ m. head_of m (was_told w.done (from, to, index))) o → numbered index (w.frames from to) ≡ None
      by None same e = same
      by (Some m) same e = absurd (cc)

  head-some : (h : Head) → head_at index k.heads ≡ Some h → IsHeadOf w from to index h
  head-some h there = by (numbered index (w.frames from to)) refl (sym there ∙ is.heads index)
    where
      by : (o : Option Message) → numbered index (w.frames from to) ≡ o → Some h ≡ option_map (λ m. head_of m (was_told w.done (from, to, index))) o → IsHeadOf w from to index h
      by None same e = absurd (cc)
      by (Some m) same e = record { frame = m; sent = same; head = same_Some h (head_of m (was_told w.done (from, to, index))) e; link = on-link m same }

  -- a frame that is taken
  pub taken-live : (m : Message) → live_at index k.live ≡ Some m → IsTakenAs w from to index (Some (received.Frame m))
  taken-live m lives =
      subst (λ (o : Option Message). IsTakenOf w to o (Some (received.Frame m))) (sym (live-right (w.frames from to) index k.live m is.live lives)) (inl refl)

  pub taken-bare : (h : Head) → live_at index k.live ≡ None → head_at index k.heads ≡ Some h → IsTakenAs w from to index (Some (received.Frame (bare_of from to h)))
  taken-bare h gone there =
      let x = head-some h there in
      let m = x.frame in
      let same : bare_of from to h ≡ bare m =
      ap (bare_of from to) x.head
      ∙ (ap (λ a. let f : Message = record { version = m.version; from = a; to = to; proc = m.proc; number = m.number; tick = m.tick; body = body_for (is_request m.body) } in f) (sym x.link.sender)
      ∙ (ap (λ a. let f : Message = record { version = m.version; from = m.from; to = a; proc = m.proc; number = m.number; tick = m.tick; body = body_for (is_request m.body) } in f) (sym x.link.receiver)
      ∙ ap (λ (b : Body). let f : Message = record { version = m.version; from = m.from; to = m.to; proc = m.proc; number = m.number; tick = m.tick; body = b } in f) (bare-body m.body))) in
      subst (λ (o : Option Message). IsTakenOf w to o (Some (received.Frame (bare_of from to h)))) (sym x.sent) (inr (same, is.over index m gone x.sent))

  pub taken-none : head_at index k.heads ≡ None → IsTakenAs w from to index None
  taken-none none = subst (λ (o : Option Message). IsTakenOf w to o None) (sym (head-none none)) tt

  -- what is made of a frame that lives, or of a head
  pub taken-as : (o : Option Message) → ((m : Message) → live_at index k.live ≡ Some m → o ≡ Some m) → (live_at index k.live ≡ None → o ≡ option_map (bare_of from to) (head_at index k.heads))
      → IsTakenAs w from to index (option_map (λ (m : Message). received.Frame m) o)
  taken-as o live bare_then = by (live_at index k.live) refl
    where
      of-head : live_at index k.live ≡ None → (h : Option Head) → head_at index k.heads ≡ h → IsTakenAs w from to index (option_map (λ (m : Message). received.Frame m) o)
      of-head gone None none =
          subst (λ (x : Option Message). IsTakenAs w from to index (option_map (λ (m : Message). received.Frame m) x)) (sym (bare_then gone ∙ ap (option_map (bare_of from to)) none)) (taken-none none)
      of-head gone (Some h) there =
          subst (λ (x : Option Message). IsTakenAs w from to index (option_map (λ (m : Message). received.Frame m) x)) (sym (bare_then gone ∙ ap (option_map (bare_of from to)) there)) (taken-bare h gone there)

      by : (l : Option Message) → live_at index k.live ≡ l → IsTakenAs w from to index (option_map (λ (m : Message). received.Frame m) o)
      by (Some m) lives = subst (λ (x : Option Message). IsTakenAs w from to index (option_map (λ (n : Message). received.Frame n) x)) (sym (live m lives)) (taken-live m lives)
      by None gone = of-head gone (head_at index k.heads) refl

  -- a frame of which a process is told
  pub told-none : (p : ProcName) → head_at index k.heads ≡ None → IsToldBy w p from to index None
  told-none p none = (sym (ap (told_of p) (head-none none)), tt)

  caller-is : (h : Head) (x : IsHeadOf w from to index h) → caller_of x.frame ≡ (let q : ProcName = record { node = if h.asks then from else to; number = h.proc } in q)
  caller-is h x =
      let m = x.frame in
      ap (λ a. let q : ProcName = record { node = if is_request m.body then a else m.to; number = m.proc } in q) x.link.sender
      ∙ (ap (λ a. let q : ProcName = record { node = if is_request m.body then from else a; number = m.proc } in q) x.link.receiver
      ∙ sym (ap (λ (y : Head). let q : ProcName = record { node = if y.asks then from else to; number = y.proc } in q) x.head))

  pub told-this : (p : ProcName) (h : Head) → head_at index k.heads ≡ Some h → (((if h.asks then from else to) == p.node) && (h.proc == p.number)) ≡ true → IsToldBy w p from to index (Some (received.Gone h.number h.tick, h.told))
  told-this p h there same =
      let x = head-some h there in
      let m = x.frame in
      let own : same_proc (caller_of m) p ≡ true = ap (λ (q : ProcName). same_proc q p) (caller-is h x) ∙ same in
      let gone : Incoming.Gone h.number h.tick ≡ Incoming.Gone m.number m.tick = ap (λ (y : Head). Incoming.Gone y.number y.tick) x.head in
      (ap (λ (i : Incoming). Some i) gone ∙ sym (ap (told_of p) x.sent ∙ ap (λ b. told_if b m) own), ap (λ (y : Head). y.told) x.head)

  pub told-other : (p : ProcName) (h : Head) → head_at index k.heads ≡ Some h → (((if h.asks then from else to) == p.node) && (h.proc == p.number)) ≡ false → IsToldBy w p from to index None
  told-other p h there other =
      let x = head-some h there in
      let m = x.frame in
      let away : same_proc (caller_of m) p ≡ false = ap (λ (q : ProcName). same_proc q p) (caller-is h x) ∙ other in
      (sym (ap (told_of p) x.sent ∙ ap (λ b. told_if b m) away), tt)

-- on what is no link between nodes nothing was sent
pub nothing-sent-there : (nodes from to index : ℕ) (frames : List Message) → EachOf (λ m. IsNode nodes from × IsNode nodes to) frames → (IsNode nodes from × IsNode nodes to → ⊥) → numbered index frames ≡ None
nothing-sent-there nodes from to index frames each none = by (numbered index frames) refl
  where
    by : (o : Option Message) → numbered index frames ≡ o → numbered index frames ≡ None
    by None same = same
    by (Some m) same = absurd (none (take-some (λ (x : Message). IsNode nodes from × IsNode nodes to) (numbered index frames) m same (numbered-each (λ (x : Message). IsNode nodes from × IsNode nodes to) index frames each)))
