-- Whose call a frame is of.
use Rattle.std.proofs.Common.{◌≡◌, ℕ, Some, refl, sym, ap, ◌∙◌}
use Rattle.std.specs.Prelude.{if◌then◌else◌}
use Rattle.ring_messages.specs.Bodies.{Ask, Answer, ask_of, body_of_answer, is_request}
use Rattle.ring_messages.specs.Frames.{Message, caller_of}
use Rattle.ring_messages.proofs.Asking.{asks-request, answers-no-request}
use Rattle.page_server.specs.Serving.{reply_to}
use Rattle.node_runs.specs.NodeStates.{Asked, NodeState}
use Rattle.node_runs.specs.Outcomes.{request}
use Rattle.node_runs.specs.Setups.{Given}
use Rattle.run_laws.specs.DecidedReplies.{proc_at}
use Rattle.run_laws.proofs.Replies.{caller-at}

-- a reply is of one of its receiver
pub answered-is : (m : Message) (answer : Answer) → m.body ≡ body_of_answer answer → caller_of m ≡ proc_at m.to m.proc
answered-is m answer is = ap (λ b. proc_at (if b then m.from else m.to) m.proc) (ap is_request is ∙ answers-no-request answer)

-- the request of a call
pub request-caller : (g : Given) (n : NodeState) (p : ℕ) (c : Asked) → caller_of (request g n p c) ≡ proc_at g.number p
request-caller g n p c = ap (λ b. proc_at (if b then g.number else c.home) p) (asks-request c.ask)

-- the reply to a request is of the same call
pub reply-caller : (m : Message) (tick : ℕ) (ask : Ask) (answer : Answer) → ask_of m.body ≡ Some ask → caller_of (reply_to m tick answer) ≡ caller_of m
reply-caller m tick ask answer is = answered-is (reply_to m tick answer) answer refl ∙ sym (caller-at m ask is)
