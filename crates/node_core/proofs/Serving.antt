-- A frame is taken that asks this node's home.
use Rattle.std.proofs.Common.{◌≡◌, ℕ, ◌≤◌, Bool, List, [], Option, Some, None, refl, sym, ap, subst, ◌∙◌, arith}
use Rattle.std.specs.Option.{option_map}
use Rattle.std.proofs.lemmas.Option.{same_Some}
use Rattle.uid_names.specs.Names.{ObjectName}
use Rattle.dom_history.specs.declared.op.Reply.{Reply}
use Rattle.dom_history.specs.declared.op.Want.{Want}
use Rattle.call_once.specs.Calls.{looked, last_of}
use Rattle.call_once.specs.declared.served.Looked.{Looked}
use Rattle.ring_messages.specs.Bodies.{Ask, Answer, ask_of}
use Rattle.ring_messages.specs.Frames.{Message, caller_of}
use Rattle.page_server.specs.Serving.{Serving, serve_asked, serve_frame, serve_of, reply_to}
use Rattle.page_server.specs.ServerStates.{ServerState}
use Rattle.node_runs.specs.NodeStates.{NodeState}
use Rattle.node_runs.specs.Notes.{Note}
use Rattle.node_runs.specs.Outcomes.{Stepped, quiet, sending, dropping}
use Rattle.node_runs.specs.Doings.{served_note, replies, serves, takes}
use Rattle.node_runs.specs.Steps.{stepped_as_named}
use Rattle.node_runs.specs.Alikes.{AreAlike}
use Rattle.node_runs.proofs.Forgetting.{alike-itself}
use Rattle.node_core.specs.declared.machine.Machine.{Machine}
use Rattle.node_core.specs.declared.turns.Done.{Done}
use Rattle.node_core.specs.Machines.{given_of, state_of, IsAtEvent}
use Rattle.node_core.specs.Outcomes.{Sent, Led}
use Rattle.node_core.specs.Receivings.{frame_of}
use Rattle.node_core.proofs.Seen.{seen-silent}
use Rattle.node_core.proofs.Untold.{led-untold}

module _ {P G : Type 0} (spent : P → Bool) (wants : P → Want) (becomes : P → Option Reply → P) (old : Machine P G) (server : ServerState) (m : Message) (ask : Ask)
    (within : IsAtEvent spent wants old) (asks : ask_of m.body ≡ Some ask) (side : server.side ≡ (serve_frame old.server.side m).side) (tick : server.tick ≡ old.tick) (wire : server.wire ≡ old.server.wire) where
  abbrev served : Machine P G
  served = record old { server = server }

  abbrev serving : Serving
  serving = serve_of old.server.side (caller_of m) m.number ask

  abbrev node : NodeState
  node = record (state_of old) { side = serving.side }

  same-node : state_of served ≡ node
  same-node = ap (λ s. record (state_of old) { side = s }) (side ∙ ap (λ a. (serve_asked old.server.side (caller_of m) m.number a).side) asks)

  -- the frame of an answer is sent
  sent-led : (new : Machine P G) (done : Done) (reply : Message) (dropped : List (ObjectName × ℕ)) (answer : Answer) (note : Note)
      → Sent served new done reply dropped → dropped ≡ [] → reply ≡ reply_to m old.tick answer → Led spent wants becomes old new done (sending node (reply_to m old.tick answer) None note)
  sent-led new done reply dropped answer note sent none is =
      let after = λ (n : NodeState) (r : Message). (sending n r None Note.Nothing).node in
      led-untold spent wants becomes old new done (sending node (reply_to m old.tick answer) None note) within
      (ap (λ x. x.programs) sent.same) (ap (λ x. x.procs) sent.same) (ap (λ x. x.greatest) sent.same) (ap (λ x. x.phases) sent.same) (ap (λ x. x.server.wire) sent.same ∙ wire)
      (subst (λ x. x.server.tick ≤ x.tick) (sym sent.same) (let e : server.tick ≤ old.tick = omega (arith, tick) in e))
      (subst (λ x. AreAlike x (after node (reply_to m old.tick answer))) (sym (sent.state ∙ ap (λ n. after n reply) same-node ∙ ap (after node) is)) (alike-itself (after node (reply_to m old.tick answer))))
      (seen-silent old.procs)
      (sent.frame ∙ ap (λ n. frame_of (sending n reply None Note.Nothing)) same-node ∙ ap (λ r. frame_of (sending node r None Note.Nothing)) is)
      (sent.effects ∙ ap (λ ds. (dropping ds (sending (state_of served) reply None Note.Nothing)).effects) none
      ∙ ap (λ n. (sending n reply None Note.Nothing).effects) same-node ∙ ap (λ r. (sending node r None Note.Nothing).effects) is)

  replied-led : (how : Looked) (new : Machine P G) (done : Done) (reply : Message) (dropped : List (ObjectName × ℕ)) (a : Option Answer)
      → Sent served new done reply dropped → dropped ≡ [] → Some reply ≡ option_map (reply_to m old.tick) a → Led spent wants becomes old new done (replies node m ask how a)
  replied-led how new done reply dropped None sent none is = absurd (cc)
  replied-led how new done reply dropped (Some answer) sent none is =
      sent-led new done reply dropped answer (served_note how (caller_of m) m.number ask answer) sent none (same_Some reply (reply_to m old.tick answer) is)

  passed-led : (how : Looked) (done : Done) (a : Option Answer) → done ≡ record { frame = None; effects = record { dropped = []; sent = None; ended = None } } → None ≡ option_map (reply_to m old.tick) a
      → Led spent wants becomes old served done (replies node m ask how a)
  passed-led how done (Some answer) same is = absurd (cc)
  passed-led how done None same is =
      led-untold spent wants becomes old served done (quiet node Note.Nothing) within refl refl refl refl wire (omega (arith, tick)) (subst (λ x. AreAlike x node) (sym same-node) (alike-itself node))
      (seen-silent old.procs) (ap (λ d. d.frame) same) (ap (λ d. d.effects) same)

  answered-as : (serve_frame old.server.side m).answer ≡ serving.answer
  answered-as = ap (λ a. (serve_asked old.server.side (caller_of m) m.number a).answer) asks

  this : (s : Stepped) → stepped_as_named (given_of old) (state_of old) (takes (state_of old) m (ask_of m.body)) ≡ Some s → serves (state_of old) m ask ≡ s
  this s is = same_Some (serves (state_of old) m ask) s (subst (λ a. stepped_as_named (given_of old) (state_of old) (takes (state_of old) m a) ≡ Some s) asks is)

  pub serves-sent : (new : Machine P G) (done : Done) (reply : Message) (dropped : List (ObjectName × ℕ)) (s : Stepped)
      → Sent served new done reply dropped → dropped ≡ [] → Some reply ≡ option_map (reply_to m old.tick) (serve_frame old.server.side m).answer
      → stepped_as_named (given_of old) (state_of old) (takes (state_of old) m (ask_of m.body)) ≡ Some s → Led spent wants becomes old new done s
  serves-sent new done reply dropped s sent none is comes =
      subst (Led spent wants becomes old new done) (this s comes)
      (replied-led (looked m.number (last_of (caller_of m) old.server.side.served)) new done reply dropped serving.answer sent none (is ∙ ap (option_map (reply_to m old.tick)) answered-as))

  pub serves-none : (done : Done) (s : Stepped) → done ≡ record { frame = None; effects = record { dropped = []; sent = None; ended = None } }
      → None ≡ option_map (reply_to m old.tick) (serve_frame old.server.side m).answer
      → stepped_as_named (given_of old) (state_of old) (takes (state_of old) m (ask_of m.body)) ≡ Some s → Led spent wants becomes old served done s
  serves-none done s same is comes =
      subst (Led spent wants becomes old served done) (this s comes)
      (passed-led (looked m.number (last_of (caller_of m) old.server.side.served)) done serving.answer same (is ∙ ap (option_map (reply_to m old.tick)) answered-as))
