-- That an event led to a machine, where its programs were told nothing, or one of them was told something.
use Rattle.std.proofs.Common.{◌≡◌, ◌≢◌, ℕ, inl, inr, ◌≤◌, ◌-◌, List, [], ◌∷◌, map, length, get_or, set, ◌<◌, Option, Some, None, IsSome, IfSome, Bool, false, refl, sym, ap, subst, ◌∙◌, arith}
use Rattle.std.proofs.lemmas.Bool.{cases_eq}
use Rattle.std.proofs.lemmas.List.{length-map}
use Rattle.fault_handler.proofs.Fours.{at-put_same, at-put_other, length-put}
use Rattle.std.specs.Option.{option_map}
use Rattle.uid_names.specs.Names.{IsProcNumber}
use Rattle.dom_history.specs.declared.op.Reply.{Reply}
use Rattle.dom_history.specs.declared.op.Want.{Want}
use Rattle.dom_history.specs.declared.op.Op.{Op}
use Rattle.dom_history.specs.declared.op.Want.TheVariants.{Do, Phase}
use Rattle.dom_history.specs.Programs.{FitsWant}
use Rattle.dom_history.specs.Ranges.{IsWant}
use Rattle.dom_history.specs.Follows.{Heard}
use Rattle.node_runs.specs.NodeStates.{NodeState, ProcState, first_proc, proc_of, with_proc}
use Rattle.uid_names.specs.Names.{ObjectName}
use Rattle.ring_messages.specs.declared.body.Body.{Body}
use Rattle.ring_messages.specs.Frames.{Message}
use Rattle.node_runs.specs.Notes.{Note}
use Rattle.node_runs.specs.NodeStates.{Asked}
use Rattle.node_runs.specs.Outcomes.{Stepped, sending, dropping}
use Rattle.node_runs.specs.Alikes.{AreAlike, AreAlikeProcs}
use Rattle.node_runs.proofs.Forgetting.{alike-itself}
use Rattle.node_core.specs.declared.machine.Machine.{Machine}
use Rattle.node_core.specs.declared.processes.Proc.{Proc}
use Rattle.node_core.specs.declared.turns.Done.{Done}
use Rattle.node_core.specs.Processes.{proc_seen, want_at}
use Rattle.node_core.specs.Programs.{program_in, numbers_in, told_all}
use Rattle.node_core.specs.Nodes.{IsTold, AreTold}
use Rattle.node_core.specs.Machines.{state_of, IsAtEvent}
use Rattle.node_core.specs.Outcomes.{LedFrom, Sent}
use Rattle.node_core.specs.Receivings.{frame_of}
use Rattle.node_core.proofs.Seen.{seen-silent, want-set_same, want-set_other, alike-set}

-- a frame with the same fields
pub same-frame : (version wire from sender to proc caller number other tick : ℕ) (body carried : Body) → version ≡ wire → from ≡ sender → proc ≡ caller → number ≡ other → body ≡ carried
    → ◌≡◌ {A = Message} (record { version = version; from = from; to = to; proc = proc; number = number; tick = tick; body = body }) (record { version = wire; from = sender; to = to; proc = caller; number = other; tick = tick; body = carried })
same-frame version wire from sender to proc caller number other tick body carried v a b c d =
    ap (λ x. record { version = x; from = from; to = to; proc = proc; number = number; tick = tick; body = body }) v
    ∙ ap (λ x. record { version = wire; from = x; to = to; proc = proc; number = number; tick = tick; body = body }) a
    ∙ ap (λ x. record { version = wire; from = sender; to = to; proc = x; number = number; tick = tick; body = body }) b
    ∙ ap (λ x. record { version = wire; from = sender; to = to; proc = caller; number = x; tick = tick; body = body }) c
    ∙ ap (λ x. record { version = wire; from = sender; to = to; proc = caller; number = other; tick = tick; body = x }) d

module _ {P : Type 0} where
  -- told nothing, a program is what it was
  pub told-nothing : (becomes : P → Option Reply → P) (o : Option P) (heard : Heard) → heard ≡ [] → o ≡ option_map (λ x. told_all becomes x heard) o
  told-nothing becomes None heard h = refl
  told-nothing becomes (Some x) heard h = ap (λ (hs : Heard). Some (told_all becomes x hs)) (sym h)

  -- what is known of the programs holds of processes that want the same
  pub told-kept : (spent : P → Bool) (wants : P → Want) (programs : List (ℕ × P)) (old new : List Proc) → ((p : ℕ) → want_at new p ≡ want_at old p) → AreTold spent wants programs old → AreTold spent wants programs new
  told-kept spent wants programs old new same told p proc = kept (program_in programs p) (told p proc)
    where
      kept : (o : Option P) → IsTold spent wants o (want_at old p) → IsTold spent wants o (want_at new p)
      kept None h = same p ∙ h
      kept (Some y) h = (h.0, h.1 ∙ sym (same p))

module _ {P : Type 0} (spent : P → Bool) (wants : P → Want) where
  -- of a program that is there, and its process
  pub told-whole : (o : Option P) (w : Want) → IsTold spent wants o w → IfSome o (λ y. spent y ≡ false)
  told-whole None w is = tt
  told-whole (Some y) w is = is.0

  pub told-fits : (o : Option P) (w : Want) (last : Option Reply) → IsTold spent wants o w → FitsWant w last → IfSome o (λ y. FitsWant (wants y) last)
  told-fits None w last is fits = tt
  told-fits (Some y) w last is fits = subst (λ x. FitsWant x last) (sym is.1) fits

  -- a process that wants an operation has a program
  pub told-some : (o : Option P) (w : Want) (op : Op) → IsTold spent wants o w → w ≡ Do op → IsSome o
  told-some None w op is wanted = let e : Phase ≡ Do op = sym is ∙ wanted in absurd (cc)
  told-some (Some y) w op is wanted = refl

  -- one program was told something
  pub told-one : (old new : List (ℕ × P)) (qs : List Proc) (i p : ℕ) (x : Proc) → i ≡ p - 1 → i < length qs → IsProcNumber p → AreTold spent wants old qs
      → ((q : ℕ) → q ≢ p → program_in new q ≡ program_in old q) → IsSome (program_in new p) → IfSome (program_in new p) (λ y. spent y ≡ false) → IfSome (program_in new p) (λ y. wants y ≡ x.want)
      → AreTold spent wants new (set qs i x)
  told-one old new qs i p x at_p h proc told others there whole want q other = elim (cases_eq q p) [
    | inl same ↦ subst (λ k. IsTold spent wants (program_in new k) (want_at (set qs i x) k)) (sym same) (both (program_in new p) there whole want)
    | inr differs ↦
        subst (λ o. IsTold spent wants o (want_at (set qs i x) q)) (sym (others q differs))
        (as_before (program_in old q) (let a = proc.0 in let b = other.0 in want-set_other qs i q x (λ e. differs (omega (arith, e, at_p, a, b)))) (told q other))
  ]
    where
      both : (o : Option P) → IsSome o → IfSome o (λ y. spent y ≡ false) → IfSome o (λ y. wants y ≡ x.want) → IsTold spent wants o (want_at (set qs i x) p)
      both None some a b = absurd (cc)
      both (Some y) some a b = (a, b ∙ sym (want-set_same qs i p x at_p h))

      as_before : (o : Option P) → want_at (set qs i x) q ≡ want_at qs q → IsTold spent wants o (want_at qs q) → IsTold spent wants o (want_at (set qs i x) q)
      as_before None e is = e ∙ is
      as_before (Some y) e is = (is.0, is.1 ∙ sym e)

module _ {P G : Type 0} (spent : P → Bool) (wants : P → Want) (becomes : P → Option Reply → P) where
  -- no program was told anything
  pub led-alike : (old new : Machine P G) (done : Done) (s : Stepped) → IsAtEvent spent wants old → new.programs ≡ old.programs → ((p : ℕ) → want_at new.procs p ≡ want_at old.procs p)
      → AreAlike (state_of new) s.node → ((p : ℕ) → (proc_of s.node p).heard ≡ []) → done.frame ≡ frame_of s → done.effects ≡ s.effects → new.greatest ≡ old.greatest → new.phases ≡ old.phases → new.server.wire ≡ old.server.wire → new.server.tick ≤ new.tick
      → LedFrom spent wants becomes old.programs.items old.greatest old.phases old.server.wire new done s
  led-alike old new done s within programs same alike silent frame effects greatest phases wire served = record {
    alike = alike;
    programs = λ p proc. ap (λ ps. program_in ps.items p) programs ∙ told-nothing becomes (program_in old.programs.items p) (proc_of s.node p).heard (silent p);
    told = subst (λ ps. AreTold spent wants ps.items new.procs) (sym programs) (told-kept spent wants old.programs.items old.procs new.procs same within.told);
    wanted = λ p. subst IsWant (sym (same p)) (within.wanted p);
    frame = frame;
    effects = effects;
    numbers = ap (λ ps. numbers_in ps.items) programs;
    same_greatest = greatest;
    same_phases = phases;
    same_wire = wire;
    served = served;
  }

  pub led-still : (old new : Machine P G) (done : Done) (s : Stepped) → IsAtEvent spent wants old → new.programs ≡ old.programs → ((p : ℕ) → want_at new.procs p ≡ want_at old.procs p)
      → s.node ≡ state_of new → done.frame ≡ frame_of s → done.effects ≡ s.effects → new.greatest ≡ old.greatest → new.phases ≡ old.phases → new.server.wire ≡ old.server.wire → new.server.tick ≤ new.tick
      → LedFrom spent wants becomes old.programs.items old.greatest old.phases old.server.wire new done s
  led-still old new done s within programs same node frame effects greatest phases wire served =
      led-alike old new done s within programs same (subst (AreAlike (state_of new)) (sym node) (alike-itself (state_of new)))
      (λ p. ap (λ (n : NodeState). (proc_of n p).heard) node ∙ seen-silent new.procs p) frame effects greatest phases wire served

  -- a frame was sent, and processes that want what they wanted may have changed before
  pub led-sent : (old new : Machine P G) (qs : List Proc) (done : Done) (frame as_defined : Message) (n : NodeState) (dropped : List (ObjectName × ℕ)) (call : Option (ℕ × Asked)) (note : Note)
      → IsAtEvent spent wants old → map (λ (q : Proc). q.want) qs ≡ map (λ (q : Proc). q.want) old.procs → state_of (record old { procs = qs }) ≡ n → frame ≡ as_defined
      → Sent (record old { procs = qs }) new done frame dropped
      → LedFrom spent wants becomes old.programs.items old.greatest old.phases old.server.wire new done (dropping dropped (sending n as_defined call note))
  led-sent old new qs done frame as_defined n dropped call note within kept state same_frame sent =
      let same = sent.same in
      led-still old new done (dropping dropped (sending n as_defined call note)) within
      (ap (λ (x : Machine P G). x.programs) same)
      (λ p. ap (λ (x : Machine P G). want_at x.procs p) same ∙ ap (λ ws. get_or ws (p - 1) Phase) kept)
      (sym (sent.state ∙ ap (λ x. (sending x frame None Note.Nothing).node) state ∙ ap (λ x. (sending n x None Note.Nothing).node) same_frame))
      (sent.frame ∙ ap (λ x. frame_of (sending x frame None Note.Nothing)) state ∙ ap (λ x. frame_of (sending n x None Note.Nothing)) same_frame)
      (sent.effects ∙ ap (λ x. (dropping dropped (sending x frame None Note.Nothing)).effects) state ∙ ap (λ x. (dropping dropped (sending n x None Note.Nothing)).effects) same_frame)
      (ap (λ (x : Machine P G). x.greatest) same) (ap (λ (x : Machine P G). x.phases) same) (ap (λ (x : Machine P G). x.server.wire) same)
      (subst (λ (x : Machine P G). x.server.tick ≤ x.tick) (sym same) within.earlier)

  -- one program was told something
  module _ (old new : Machine P G) (done : Done) (s : Stepped) (p : ℕ) (last : Option Reply) (a y : ProcState)
      (within : IsAtEvent spent wants old) (proc : IsProcNumber p) (state : state_of new ≡ with_proc (state_of old) p a) (node : s.node ≡ with_proc (state_of old) p y)
      (alike : AreAlikeProcs a y) (heard : y.heard ≡ last ∷ []) where
    four : length (map proc_seen old.procs) ≡ 4
    four = length-map old.procs proc_seen ∙ within.four

    inside : p - 1 < length (map proc_seen old.procs)
    inside = let low = proc.0 in let high = proc.1 in omega (arith, four, low, high)

    put-alike : AreAlike (with_proc (state_of old) p a) (with_proc (state_of old) p y)
    put-alike = record {
      side = refl;
      desk = refl;
      procs = λ q. alike-set (map proc_seen old.procs) (p - 1) a y inside alike (q - 1);
      many = length-put (map proc_seen old.procs) p a four ∙ sym (length-put (map proc_seen old.procs) p y four);
      emitted = refl;
      tick = refl;
      phase = refl;
      ready = refl;
      marks = λ from phase. refl;
    }

    heard-here : (proc_of s.node p).heard ≡ last ∷ []
    heard-here = ap (λ (n : NodeState). (proc_of n p).heard) node ∙ ap (λ (q : ProcState). q.heard) (at-put_same (map proc_seen old.procs) p y first_proc four proc) ∙ heard

    heard-there : (q : ℕ) → IsProcNumber q → q ≢ p → (proc_of s.node q).heard ≡ []
    heard-there q other differs =
        ap (λ (n : NodeState). (proc_of n q).heard) node ∙ ap (λ (r : ProcState). r.heard) (at-put_other (map proc_seen old.procs) p q y first_proc proc other differs) ∙ seen-silent old.procs q

    programs-told : program_in new.programs.items p ≡ option_map (λ x. becomes x last) (program_in old.programs.items p) → ((q : ℕ) → q ≢ p → program_in new.programs.items q ≡ program_in old.programs.items q)
        → (q : ℕ) → IsProcNumber q → program_in new.programs.items q ≡ option_map (λ x. told_all becomes x (proc_of s.node q).heard) (program_in old.programs.items q)
    programs-told here others q other = elim (cases_eq q p) [
      | inl same ↦
          subst (λ k. program_in new.programs.items k ≡ option_map (λ x. told_all becomes x (proc_of s.node k).heard) (program_in old.programs.items k)) (sym same)
          (here ∙ ap (λ (hs : Heard). option_map (λ x. told_all becomes x hs) (program_in old.programs.items p)) (sym heard-here))
      | inr differs ↦ others q differs ∙ told-nothing becomes (program_in old.programs.items q) (proc_of s.node q).heard (heard-there q other differs)
    ]

    pub led-told : program_in new.programs.items p ≡ option_map (λ x. becomes x last) (program_in old.programs.items p) → ((q : ℕ) → q ≢ p → program_in new.programs.items q ≡ program_in old.programs.items q)
        → AreTold spent wants new.programs.items new.procs → ((q : ℕ) → IsWant (want_at new.procs q)) → numbers_in new.programs.items ≡ numbers_in old.programs.items
        → done.frame ≡ frame_of s → done.effects ≡ s.effects → new.greatest ≡ old.greatest → new.phases ≡ old.phases → new.server.wire ≡ old.server.wire → new.server.tick ≤ new.tick
        → LedFrom spent wants becomes old.programs.items old.greatest old.phases old.server.wire new done s
    led-told here others told wanted numbers frame effects greatest phases wire served = record {
      alike = subst (AreAlike (state_of new)) (sym node) (subst (λ n. AreAlike n (with_proc (state_of old) p y)) (sym state) put-alike);
      programs = programs-told here others;
      told = told;
      wanted = wanted;
      frame = frame;
      effects = effects;
      numbers = numbers;
      same_greatest = greatest;
      same_phases = phases;
      same_wire = wire;
      served = served;
    }

  -- what was done is the one thing that there was to do
  pub led-some : (old new : Machine P G) (done : Done) (s : Stepped) → LedFrom spent wants becomes old.programs.items old.greatest old.phases old.server.wire new done s
      → (x : Stepped) → Some s ≡ Some x → LedFrom spent wants becomes old.programs.items old.greatest old.phases old.server.wire new done x
  led-some old new done s led x is = let same : s ≡ x = cc in subst (LedFrom spent wants becomes old.programs.items old.greatest old.phases old.server.wire new done) same led
