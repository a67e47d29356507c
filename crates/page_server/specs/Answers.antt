-- An answer of a home, as the body of a frame.
use Rattle.std.specs.Prelude.{◌≡◌, ℕ, unwrap_or, refl}
use Rattle.std.specs.Coded.{Coded, code_by}
use Rattle.ring_messages.specs.declared.body.Body.{Body}
use Rattle.ring_messages.specs.contracts.body.Body as body
use Rattle.ring_messages.specs.Bodies.{Answer, answer_of, body_of_answer}
use Rattle.ring_messages.specs.Ranges.{IsBody}

-- what a body answers, for one that answers
abbrev pub answer_in : Body → Answer
answer_in body = unwrap_or (answer_of body) Answer.Done

-- the answer can be carried by a frame to each node
abbrev pub IsCarried : Answer → Type 0
IsCarried answer = (to : ℕ) → IsBody to (body_of_answer answer)

-- the body answers, and may be sent to each node
pub record IsAnswer (body : Body) : Type 0 where
  pub answers : body_of_answer (answer_in body) ≡ body
  pub ranges : (to : ℕ) → IsBody to body

-- the body of an answer answers that
pub answer_in-body_of_answer : (answer : Answer) → answer_in (body_of_answer answer) ≡ answer
answer_in-body_of_answer (Answer.Page stamp bytes) = refl
answer_in-body_of_answer (Answer.Stored stamp) = refl
answer_in-body_of_answer (Answer.Stale stamp) = refl
answer_in-body_of_answer Answer.NoGrant = refl
answer_in-body_of_answer Answer.NoObject = refl
answer_in-body_of_answer (Answer.Granted grant stamp kind room n) = refl
answer_in-body_of_answer (Answer.Conflict p m) = refl
answer_in-body_of_answer Answer.Done = refl
answer_in-body_of_answer (Answer.Made u) = refl
answer_in-body_of_answer Answer.NoSpace = refl
answer_in-body_of_answer (Answer.Listed rows more) = refl

-- how an answer is stored
abbrev pub answer_code : Coded Answer
answer_code = code_by Body body.the_row.coded body_of_answer answer_in answer_in-body_of_answer
