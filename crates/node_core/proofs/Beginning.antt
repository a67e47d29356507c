-- How a machine begins.
use Rattle.std.proofs.Common.{◌≡◌, ◌≢◌, ℕ, zero, suc, ◌-◌, ◌≤◌, inl, inr, Bool, true, false, List, [], ◌∷◌, map, Option, Some, None, IfSome, refl, sym, ap, subst, ◌∙◌, arith}
use Rattle.std.specs.Prelude.{All}
use Rattle.std.specs.Option.{option_map}
use Rattle.std.proofs.lemmas.Bool.{cases_eq}
use Rattle.std.proofs.lemmas.List.{set-get_or}
use Rattle.std.proofs.lemmas.List.Elements.{All-nil}
use Rattle.uid_names.specs.Names.{IsProcNumber}
use Rattle.dom_history.specs.declared.event.NodeLog.{NodeLog}
use Rattle.uid_names.specs.Openings.{Start, IsStart}
use Rattle.uid_names.specs.Beginnings.{CanHomeBegin, CanBegin, at_home}
use Rattle.uid_names.specs.declared.limits.TheConstants.{VOLUME_ROOM, MAX_PHASES}
use Rattle.uid_names.specs.Wires.{wire_room}
use Rattle.call_once.specs.Calls.{Call}
use Rattle.ring_messages.specs.Bodies.{Answer, body_of_answer}
use Rattle.ring_messages.specs.Ranges.{LiesWithin}
use Rattle.dom_history.specs.declared.op.Reply.{Reply}
use Rattle.dom_history.specs.declared.op.Want.{Want}
use Rattle.dom_history.specs.declared.op.Want.TheVariants.{Phase}
use Rattle.dom_history.specs.Programs.{program_after}
use Rattle.dom_history.specs.Ranges.{IsWant}
use Rattle.object_store.specs.Beginnings.{first_home, first_rows}
use Rattle.object_store.proofs.Begun.{IsHome-first_home}
use Rattle.page_server.proofs.Begun.{IsBegun-first_home}
use Rattle.page_server.proofs.Sides.{IsSide-first}
use Rattle.fault_handler.specs.Invariant.{IsProc}
use Rattle.fault_handler.specs.Desks.{DeskState, put_at}
use Rattle.node_runs.specs.Setups.{Given, IsGiven, IsFrames, ArePrograms, FitsWire}
use Rattle.node_runs.specs.NodeStates.{NodeState, ProcState, first_proc, first_node, proc_of, with_proc}
use Rattle.node_runs.specs.NodesKeep.{IsNodeOf, IsCounted}
use Rattle.node_runs.proofs.Reaching.{IsNodeOf-first, first-rooms}
use Rattle.node_runs.proofs.Forgetting.{alike-itself, node-anew}
use Rattle.node_runs.specs.Alikes.{AreAlike}
use Rattle.node_core.specs.declared.machine.Machine.{Machine}
use Rattle.node_core.specs.declared.processes.Proc.{Proc}
use Rattle.node_core.specs.declared.setup.NodeSetup.{NodeSetup}
use Rattle.node_core.specs.Processes.{proc_seen, want_at}
use Rattle.node_core.specs.Programs.{program_in, numbers_in, AreRising}
use Rattle.node_core.specs.Nodes.{IsTold, Stands, IsGivenBy}
use Rattle.node_core.specs.Machines.{inner_of, given_of, state_of, IsKept}
use Rattle.node_core.specs.Outcomes.{Told, FirstAsked, AllAsked}
use Rattle.node_core.proofs.Seen.{seen-silent}
use Rattle.node_core.proofs.Keeping.{doing-wants}
use Rattle.node_core.proofs.Rising.{no-program}
use Rattle.std.specs.Prelude.{nat_lt, ◌++◌, slice_index_or, replicate, Result, Ok, Err, OnOk}
use Rattle.std.proofs.lemmas.Bool.Decides.{nat_tests}
use Rattle.std.proofs.lemmas.List.Elements.{All-cons}
use Rattle.uid_names.specs.declared.limits.TheConstants.{MAX_NODES, NODE_PROCESSES}
use Rattle.uid_names.proofs.ListLemmas.{zeros-at}
use Rattle.object_store.specs.HomeStates.{HomeState}
use Rattle.fault_handler.specs.Conditions.{empty_desk}
use Rattle.page_server.specs.ServerStates.{ServerState, AreRoomsWithin, IsBegun, first_server}
use Rattle.page_server.specs.Serving.{HomeSide, first_side}
use Rattle.fault_handler.proofs.Fours.{by_proc, first, second, third, fourth}
use Rattle.dom_history.specs.Follows.{Heard}
use Rattle.node_core.specs.Programs.{one_of, rising_in}
use Rattle.node_core.proofs.Rising.{rising-rises}

lt-differs : (a b : ℕ) → nat_lt a b ≡ true → a ≢ b
lt-differs a b is same = grind (arith, nat_tests, is, same)

one-proc : {S : Type 0} (k : ℕ) (o : Option S) (es : List (ℕ × S)) → IsProc k → All IsProc (numbers_in es) → All IsProc (numbers_in (one_of k o ++ es))
one-proc k None es is all = all
one-proc k (Some x) es is all = All-cons IsProc k (numbers_in es) is all

-- those by rising number are of processes, each once
pub rising-programs : {S : Type 0} (es : List (ℕ × S)) → ArePrograms (numbers_in (rising_in es))
rising-programs es = record {
  each = one-proc 1 (program_in es 1) _ first (one-proc 2 (program_in es 2) _ second (one-proc 3 (program_in es 3) _ third (one-proc 4 (program_in es 4) [] fourth (All-nil IsProc))));
  once = λ i j d under below. lt-differs (slice_index_or (numbers_in (rising_in es)) i d) (slice_index_or (numbers_in (rising_in es)) j d) (rising-rises es i j d under below);
}

-- four processes that want the next phase
wants-by : (a b c d : Want) → a ≡ Phase → b ≡ Phase → c ≡ Phase → d ≡ Phase → (i : ℕ) → slice_index_or (a ∷ b ∷ c ∷ d ∷ []) i Phase ≡ Phase
wants-by a b c d one two three four zero = one
wants-by a b c d one two three four (suc zero) = two
wants-by a b c d one two three four (suc (suc zero)) = three
wants-by a b c d one two three four (suc (suc (suc zero))) = four
wants-by a b c d one two three four (suc (suc (suc (suc i)))) = refl

pub four-want : (a b c d : Proc) → a.want ≡ Phase → b.want ≡ Phase → c.want ≡ Phase → d.want ≡ Phase → (p : ℕ) → want_at (a ∷ b ∷ c ∷ d ∷ []) p ≡ Phase
four-want a b c d one two three four p = wants-by a.want b.want c.want d.want one two three four (p - 1)

pub four-seen : (a b c d : Proc) → proc_seen a ≡ first_proc → proc_seen b ≡ first_proc → proc_seen c ≡ first_proc → proc_seen d ≡ first_proc → map proc_seen (a ∷ b ∷ c ∷ d ∷ []) ≡ replicate NODE_PROCESSES first_proc
four-seen a b c d one two three four =
    ap (λ x. x ∷ proc_seen b ∷ proc_seen c ∷ proc_seen d ∷ []) one ∙ ap (λ x. first_proc ∷ x ∷ proc_seen c ∷ proc_seen d ∷ []) two
    ∙ ap (λ x. first_proc ∷ first_proc ∷ x ∷ proc_seen d ∷ []) three ∙ ap (λ x. first_proc ∷ first_proc ∷ first_proc ∷ x ∷ []) four

pub firsts-at : (n i : ℕ) → slice_index_or (replicate n first_proc) i first_proc ≡ first_proc
firsts-at zero i = refl
firsts-at (suc n) zero = refl
firsts-at (suc n) (suc i) = firsts-at n i

-- what an answer leads to, where there is one
pub on-told : {A E T Q : Type 0} (r : Result A E) → (T → Q) → OnOk r T → OnOk r Q
on-told (Ok x) f is = f is
on-told (Err e) f is = tt

module _ {P : Type 0} (spent : P → Bool) (wants : P → Want) where
  told-first : (o : Option P) (w : Want) → w ≡ Phase → IfSome o (λ y. spent y ≡ false) → IfSome o (λ y. wants y ≡ Phase) → IsTold spent wants o w
  told-first None w is whole fresh = is
  told-first (Some y) w is whole fresh = (whole, fresh ∙ sym is)

module _ {P : Type 0} (becomes : P → Option Reply → P) where
  none-asked : (o : Option P) → o ≡ None → o ≡ option_map (λ x. becomes x None) o
  none-asked None is = refl
  none-asked (Some y) is = absurd (cc)

module _ {P G : Type 0} (spent : P → Bool) (wants : P → Want) where
  -- a machine that was made keeps what each keeps
  module _ (m : Machine P G) (start : Start) (kept_start : IsStart start) (number frames : ℕ) (begins : CanHomeBegin (at_home number start.objects)) (few : (first_home number (at_home number start.objects)).greatest ≤ VOLUME_ROOM)
      (is_frames : IsFrames frames) (es : List (ℕ × P)) (programs : m.programs.items ≡ rising_in es) (same : (p : ℕ) → program_in m.programs.items p ≡ program_in es p)
      (whole : (p : ℕ) → IfSome (program_in es p) (λ y. spent y ≡ false)) (fresh : (p : ℕ) → IfSome (program_in es p) (λ y. wants y ≡ Phase))
      (wanted : (p : ℕ) → want_at m.procs p ≡ Phase) (greatest : m.greatest ≡ start.greatest) (phases : m.phases ≤ MAX_PHASES)
      (wire : ℕ) (fits : FitsWire wire start) (home : HomeState) (server : m.server ≡ first_server home wire) (is_home : home ≡ first_home number (at_home number start.objects)) (desk : m.desk ≡ empty_desk number start.nodes frames)
      (procs : map proc_seen m.procs ≡ replicate NODE_PROCESSES first_proc) (emitted : m.emitted ≡ replicate MAX_NODES 0) (tick : m.tick ≡ 0) (phase : m.phase ≡ 1) (ready : m.ready ≡ false) (marks : m.marks ≡ []) where
    abbrev there : Given
    there = record (given_of m) { number = number; opening = start; frames = frames }

    abbrev made : HomeSide → DeskState → List ProcState → List ℕ → ℕ → ℕ → Bool → List (ℕ × ℕ) → NodeState
    made a b c d e f h k = record { side = a; desk = b; procs = c; emitted = d; tick = e; phase = f; ready = h; marks = k }

    is_first : state_of m ≡ first_node there
    is_first =
        ap (λ x. made x m.desk (map proc_seen m.procs) m.emitted m.tick m.phase m.ready m.marks) (ap (λ (x : ServerState). x.side) server ∙ ap first_side is_home)
        ∙ ap (λ x. made (first_node there).side x (map proc_seen m.procs) m.emitted m.tick m.phase m.ready m.marks) desk
        ∙ ap (λ x. made (first_node there).side (first_node there).desk x m.emitted m.tick m.phase m.ready m.marks) procs
        ∙ ap (λ x. made (first_node there).side (first_node there).desk (first_node there).procs x m.tick m.phase m.ready m.marks) emitted
        ∙ ap (λ x. made (first_node there).side (first_node there).desk (first_node there).procs (first_node there).emitted x m.phase m.ready m.marks) tick
        ∙ ap (λ x. made (first_node there).side (first_node there).desk (first_node there).procs (first_node there).emitted 0 x m.ready m.marks) phase
        ∙ ap (λ x. made (first_node there).side (first_node there).desk (first_node there).procs (first_node there).emitted 0 1 x m.marks) ready
        ∙ ap (λ x. made (first_node there).side (first_node there).desk (first_node there).procs (first_node there).emitted 0 1 false x) marks

    abbrev bare : Start
    bare = record { nodes = start.nodes; greatest = start.greatest; objects = [] }

    abbrev plain : Given
    plain = record there { opening = bare }

    programs-are : ArePrograms (numbers_in m.programs.items)
    programs-are = subst (λ qs. ArePrograms (numbers_in qs)) (sym programs) (rising-programs es)

    wire-is : m.server.wire ≡ wire
    wire-is = ap (λ (x : ServerState). x.wire) server

    plain-given : IsGiven plain
    plain-given = record {
      start = record { nodes_low = kept_start.nodes_low; nodes_high = kept_start.nodes_high; greatest_low = kept_start.greatest_low; greatest_high = kept_start.greatest_high; objects = All-nil _; apart = tt };
      begins = record { homes = λ home. record { counters = tt; fits = omega arith } };
      wire = subst (λ k. FitsWire k bare) (sym wire-is) (record { version = fits.version; rooms = fits.rooms });
      frames = is_frames;
      programs = programs-are;
      wants = λ p heard fits named. subst IsWant (sym (wanted p)) tt;
    }

    plain-is : plain ≡ given_of m
    plain-is =
        let n : number ≡ m.desk.node = sym (ap (λ (s : NodeState). s.desk.node) is_first) in
        let k : start.nodes ≡ m.desk.nodes = sym (ap (λ (s : NodeState). s.desk.nodes) is_first) in
        let f : frames ≡ m.desk.cache.frames = sym (ap (λ (s : NodeState). s.desk.cache.frames) is_first) in
        let made = λ (a b c d : ℕ). let x : Given = record (given_of m) { number = a; opening = record { nodes = b; greatest = c; objects = [] }; frames = d } in x in
        ap (λ a. made a start.nodes start.greatest frames) n ∙ ap (λ b. made m.desk.node b start.greatest frames) k ∙ ap (λ c. made m.desk.node m.desk.nodes c frames) (sym greatest)
        ∙ ap (λ d. made m.desk.node m.desk.nodes m.greatest d) f

    node-there : IsNodeOf plain (first_node there)
    node-there =
        let base = IsNodeOf-first plain plain-given in
        record {
          side = IsSide-first (first_home number (at_home number start.objects)) (IsHome-first_home number start kept_start begins);
          home = refl;
          own = base.own;
          desk = base.desk;
          four = refl;
          agrees = base.agrees;
          followed = base.followed;
          within = record {
            desk = base.within.desk;
            side = record {
              rooms = subst (λ k. AreRoomsWithin (wire_room k) (first_rows number (at_home number start.objects))) (sym wire-is) (first-rooms wire number start kept_start fits);
              kept = All-nil (λ (call : Call Answer). LiesWithin (wire_room m.server.wire) (body_of_answer call.body));
            };
            asked = base.within.asked;
          };
        }

    counted-there : IsCounted (first_node there)
    counted-there =
        let begun : IsBegun (first_home number (at_home number start.objects)) = IsBegun-first_home _ number (at_home number start.objects) refl few in
        record {
          emitted = λ to. let e = zeros-at MAX_NODES (to - 1) in omega (arith, e);
          last = by_proc (λ p. (proc_of (first_node there) p).last ≤ 0) (omega arith) (omega arith) (omega arith) (omega arith);
          side = record { grants = omega arith; counters = begun.counters; stamps = begun.stamps };
        }

    pub kept-first : IsKept spent wants m
    kept-first = record {
      given = subst IsGiven plain-is plain-given;
      node = subst (λ g. IsNodeOf g (state_of m)) plain-is (subst (IsNodeOf plain) (sym is_first) node-there);
      counted = subst IsCounted (sym is_first) counted-there;
      told = λ p proc. subst (λ o. IsTold spent wants o (want_at m.procs p)) (sym (same p)) (told-first spent wants (program_in es p) (want_at m.procs p) (wanted p) (whole p) (fresh p));
      served = let s : m.server.tick ≡ 0 = ap (λ (x : ServerState). x.tick) server in omega (arith, s);
      phases = phases;
      rising = subst (λ qs. AreRising (numbers_in qs)) (sym programs) (rising-rises es);
    }

  module _ (becomes : P → Option Reply → P) where
    module _ (old new : Machine P G) (p : ℕ) (proc : IsProcNumber p) (kept : IsKept spent wants old) (at_start : proc_of (state_of old) p ≡ first_proc) (told : Told spent wants becomes old new p 1 None) where
      put-back : put_at (state_of old).procs p first_proc ≡ (state_of old).procs
      put-back = ap (put_at (state_of old).procs p) (sym at_start) ∙ set-get_or (state_of old).procs (p - 1) first_proc

      same-state : state_of new ≡ state_of old
      same-state =
          told.state ∙ ap (λ (q : ProcState). with_proc (state_of old) p (record q { doing = None; phase = 1 })) at_start
          ∙ ap (λ ps. let x : NodeState = record (state_of old) { procs = ps } in x) put-back

      node-asked : IsNodeOf (given_of new) (state_of new)
      node-asked = node-anew (given_of old) (given_of new) (state_of old) (state_of new) (subst (AreAlike (state_of old)) (sym same-state) (alike-itself (state_of old))) (seen-silent new.procs)
          (record {
            number = ap (λ (s : NodeState). s.desk.node) same-state;
            nodes = ap (λ (s : NodeState). s.desk.nodes) same-state;
            wire = ap (λ (x : Machine P G). x.server.wire) told.same;
            frames = ap (λ (s : NodeState). s.desk.cache.frames) same-state;
            asks = λ q o heard doing. doing-wants new.procs q o (ap (λ (s : NodeState). (proc_of s q).doing) same-state ∙ doing);
          }) kept.node

      given-asked : IsGiven (given_of new)
      given-asked = record {
        start = subst (λ (x : Machine P G). IsStart (given_of x).opening) (sym told.same) kept.given.start;
        begins = subst (λ (x : Machine P G). CanBegin (given_of x).opening) (sym told.same) kept.given.begins;
        wire = subst (λ (x : Machine P G). FitsWire x.server.wire (given_of x).opening) (sym told.same) kept.given.wire;
        frames = subst (λ (x : Machine P G). IsFrames (given_of x).frames) (sym told.same) kept.given.frames;
        programs = subst ArePrograms (sym told.numbers) kept.given.programs;
        wants = λ q heard fits named. told.wanted q;
      }

      -- it was asked
      pub asked-first : FirstAsked spent wants becomes old new p
      asked-first = record {
        state = same-state;
        program = told.program;
        others = told.others;
        kept = record {
          given = given-asked;
          node = node-asked;
          counted = subst IsCounted (sym same-state) kept.counted;
          told = told.told;
          served = subst (λ (x : Machine P G). x.server.tick ≤ x.tick) (sym told.same) kept.served;
          phases = subst (λ (x : Machine P G). x.phases ≤ MAX_PHASES) (sym told.same) kept.phases;
          rising = subst AreRising (sym told.numbers) kept.rising;
        };
        greatest = ap (λ (x : Machine P G). x.greatest) told.same;
        phases = ap (λ (x : Machine P G). x.phases) told.same;
        wire = ap (λ (x : Machine P G). x.server.wire) told.same;
      }

    -- all four were asked, one after the other
    module _ (a b c d e : Machine P G) (kept : IsKept spent wants a) (one : FirstAsked spent wants becomes a b 1) (two : FirstAsked spent wants becomes b c 2) (three : FirstAsked spent wants becomes c d 3) (four : FirstAsked spent wants becomes d e 4) where
      abbrev is-asked : ℕ → Type 0
      is-asked p = program_in e.programs.items p ≡ option_map (λ x. becomes x None) (program_in a.programs.items p)

      asked-at : (o : Option P) (p : ℕ) → program_in a.programs.items p ≡ o → o ≡ None → program_in e.programs.items p ≡ program_in a.programs.items p → is-asked p
      asked-at o p is none same = same ∙ none-asked becomes (program_in a.programs.items p) (is ∙ none)

      asked-each : (p : ℕ) → is-asked p
      asked-each p = elim (cases_eq 1 p) [
        | inl h ↦ subst is-asked h (four.others 1 (λ h. absurd (cc)) ∙ three.others 1 (λ h. absurd (cc)) ∙ two.others 1 (λ h. absurd (cc)) ∙ one.program)
        | inr n1 ↦ elim (cases_eq 2 p) [
          | inl h ↦ subst is-asked h (four.others 2 (λ h. absurd (cc)) ∙ three.others 2 (λ h. absurd (cc)) ∙ two.program ∙ ap (option_map (λ x. becomes x None)) (one.others 2 (λ h. absurd (cc))))
          | inr n2 ↦ elim (cases_eq 3 p) [
            | inl h ↦ subst is-asked h (four.others 3 (λ h. absurd (cc)) ∙ three.program ∙ ap (option_map (λ x. becomes x None)) (two.others 3 (λ h. absurd (cc)) ∙ one.others 3 (λ h. absurd (cc))))
            | inr n3 ↦ elim (cases_eq 4 p) [
              | inl h ↦ subst is-asked h (four.program ∙ ap (option_map (λ x. becomes x None)) (three.others 4 (λ h. absurd (cc)) ∙ two.others 4 (λ h. absurd (cc)) ∙ one.others 4 (λ h. absurd (cc))))
              | inr n4 ↦
                  asked-at None p (no-program a.programs.items kept.given.programs (given_of a) refl p (λ proc. let low = proc.0 in let high = proc.1 in n1 (omega (arith, low, high, n2, n3, n4)))) refl
                  (four.others p (λ h. n4 (sym h)) ∙ three.others p (λ h. n3 (sym h)) ∙ two.others p (λ h. n2 (sym h)) ∙ one.others p (λ h. n1 (sym h)))
            ]
          ]
        ]
      ]

      pub asked-all : AllAsked spent wants becomes a e
      asked-all = record {
        state = four.state ∙ three.state ∙ two.state ∙ one.state;
        programs = asked-each;
        kept = four.kept;
        greatest = four.greatest ∙ three.greatest ∙ two.greatest ∙ one.greatest;
        phases = four.phases ∙ three.phases ∙ two.phases ∙ one.phases;
        wire = four.wire ∙ three.wire ∙ two.wire ∙ one.wire;
      }

    -- a node at the start stands for its given
    module _ (m new : Machine P G) (asked : AllAsked spent wants becomes m new) (log : NodeLog) (setup : NodeSetup) (start : Start) (es : List (ℕ × P))
        (same : (p : ℕ) → program_in m.programs.items p ≡ program_in es p) (greatest : m.greatest ≡ start.greatest) (phases : m.phases ≡ setup.phases) (wire : m.server.wire ≡ setup.wire)
        (state : (g : Given) → g.number ≡ setup.node → g.opening ≡ start → g.frames ≡ setup.frames → state_of m ≡ first_node g) (g : Given) (given_by : IsGivenBy wants becomes setup start es g) where
      begun-state : state_of new ≡ first_node g
      begun-state = asked.state ∙ state g given_by.number given_by.opening given_by.frames

      heard-nothing : (p : ℕ) → (proc_of (first_node g) p).heard ≡ []
      heard-nothing p = subst (λ (n : NodeState). (proc_of n p).heard ≡ []) begun-state (seen-silent new.procs p)

      told-nothing : (p : ℕ) → program_in new.programs.items p ≡ option_map (λ y. program_after becomes y (proc_of (first_node g) p).heard) (program_in es p)
      told-nothing p =
          asked.programs p ∙ ap (option_map (λ y. becomes y None)) (same p)
          ∙ ap (λ (hs : Heard). option_map (λ y. program_after becomes y hs) (program_in es p)) (sym (heard-nothing p))

      pub stands-first : Stands wants becomes (program_in es) g (record { inner = inner_of new; log = log; spent = false }) (first_node g)
      stands-first = record {
        whole = refl;
        number = sym (ap (λ (n : NodeState). n.desk.node) begun-state);
        nodes = sym (ap (λ (n : NodeState). n.desk.nodes) begun-state);
        greatest = ap (λ (s : Start). s.greatest) given_by.opening ∙ sym (asked.greatest ∙ greatest);
        wire = given_by.wire ∙ sym (asked.wire ∙ wire);
        frames = sym (ap (λ (n : NodeState). n.desk.cache.frames) begun-state);
        phases = given_by.phases ∙ sym (asked.phases ∙ phases);
        programs = given_by.programs;
        asks = given_by.asks;
        told = told-nothing;
        alike = subst (AreAlike (state_of new)) begun-state (alike-itself (state_of new));
      }
