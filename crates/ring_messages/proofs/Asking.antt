-- What a request asks, and what an answer is.
use Rattle.std.proofs.Common.{◌≡◌, true, false, Some, None, refl, ap}
use Rattle.std.specs.Prelude.{IsTrue, IsSome}
use Rattle.ring_messages.specs.Bodies.{Ask, Answer, ask_of, answer_of, body_of_ask, body_of_answer, is_request}
use Rattle.ring_messages.proofs.Fields.{some_is}
use Rattle.ring_messages.specs.declared.body.Body.{Body}
use Rattle.ring_messages.specs.declared.body.Body.TheVariants as bodies

-- a request asks something
pub asked-of : (body : Body) → IsTrue (is_request body) → IsSome (ask_of body)
asked-of (bodies.PageIn u page) is = refl
asked-of (bodies.PageOut u page grant base bytes) is = refl
asked-of (bodies.AttrOut u n grant base) is = refl
asked-of (bodies.Lock u m) is = refl
asked-of (bodies.Unlock u) is = refl
asked-of (bodies.Remove u) is = refl
asked-of (bodies.Make kind room) is = refl
asked-of (bodies.List after) is = refl
asked-of _ is = is

-- a body that asks something is that request
pub asked-body : (body : Body) (ask : Ask) → ask_of body ≡ Some ask → body ≡ body_of_ask ask
asked-body (bodies.PageIn u page) ask is = ap body_of_ask (some_is (Ask.PageIn u page) ask is)
asked-body (bodies.PageOut u page grant base bytes) ask is = ap body_of_ask (some_is (Ask.PageOut u page grant base bytes) ask is)
asked-body (bodies.AttrOut u n grant base) ask is = ap body_of_ask (some_is (Ask.AttrOut u n grant base) ask is)
asked-body (bodies.Lock u m) ask is = ap body_of_ask (some_is (Ask.Lock u m) ask is)
asked-body (bodies.Unlock u) ask is = ap body_of_ask (some_is (Ask.Unlock u) ask is)
asked-body (bodies.Remove u) ask is = ap body_of_ask (some_is (Ask.Remove u) ask is)
asked-body (bodies.Make kind room) ask is = ap body_of_ask (some_is (Ask.Make kind room) ask is)
asked-body (bodies.List after) ask is = ap body_of_ask (some_is (Ask.ListLocks after) ask is)
asked-body _ ask is = absurd cc

-- the body of a request asks it
pub asked-seen : (ask : Ask) → ask_of (body_of_ask ask) ≡ Some ask
asked-seen (Ask.PageIn u page) = refl
asked-seen (Ask.PageOut u page grant base bytes) = refl
asked-seen (Ask.AttrOut u n grant base) = refl
asked-seen (Ask.Lock u m) = refl
asked-seen (Ask.Unlock u) = refl
asked-seen (Ask.Remove u) = refl
asked-seen (Ask.Make kind room) = refl
asked-seen (Ask.ListLocks after) = refl

-- what a request asks is a request
pub asks-request : (ask : Ask) → is_request (body_of_ask ask) ≡ true
asks-request (Ask.PageIn u k) = refl
asks-request (Ask.PageOut u k grant base bytes) = refl
asks-request (Ask.AttrOut u n grant base) = refl
asks-request (Ask.Lock u m) = refl
asks-request (Ask.Unlock u) = refl
asks-request (Ask.Remove u) = refl
asks-request (Ask.Make kind room) = refl
asks-request (Ask.ListLocks after) = refl

-- and so is a body that asks something
pub request-is : (b : Body) (ask : Ask) → ask_of b ≡ Some ask → is_request b ≡ true
request-is (bodies.PageIn u page) ask e = refl
request-is (bodies.PageOut u page grant base bytes) ask e = refl
request-is (bodies.AttrOut u n grant base) ask e = refl
request-is (bodies.Lock u m) ask e = refl
request-is (bodies.Unlock u) ask e = refl
request-is (bodies.Remove u) ask e = refl
request-is (bodies.Make kind room) ask e = refl
request-is (bodies.List after) ask e = refl
request-is _ ask e = absurd (cc)

-- the body of an answer is that answer
pub answers-back : (x : Answer) → answer_of (body_of_answer x) ≡ Some x
answers-back (Answer.Page stamp bytes) = refl
answers-back (Answer.Stored stamp) = refl
answers-back (Answer.Stale stamp) = refl
answers-back Answer.NoGrant = refl
answers-back Answer.NoObject = refl
answers-back (Answer.Granted grant stamp kind room n) = refl
answers-back (Answer.Conflict p m) = refl
answers-back Answer.Done = refl
answers-back (Answer.Made u) = refl
answers-back Answer.NoSpace = refl
answers-back (Answer.Listed rows more) = refl

-- it asks nothing
pub answers-ask-nothing : (a : Answer) → ask_of (body_of_answer a) ≡ None
answers-ask-nothing (Answer.Page stamp bytes) = refl
answers-ask-nothing (Answer.Stored stamp) = refl
answers-ask-nothing (Answer.Stale stamp) = refl
answers-ask-nothing Answer.NoGrant = refl
answers-ask-nothing Answer.NoObject = refl
answers-ask-nothing (Answer.Granted grant stamp kind room n) = refl
answers-ask-nothing (Answer.Conflict p m) = refl
answers-ask-nothing Answer.Done = refl
answers-ask-nothing (Answer.Made u) = refl
answers-ask-nothing Answer.NoSpace = refl
answers-ask-nothing (Answer.Listed rows more) = refl

-- and is no request
pub answers-no-request : (answer : Answer) → is_request (body_of_answer answer) ≡ false
answers-no-request (Answer.Page stamp bytes) = refl
answers-no-request (Answer.Stored stamp) = refl
answers-no-request (Answer.Stale stamp) = refl
answers-no-request Answer.NoGrant = refl
answers-no-request Answer.NoObject = refl
answers-no-request (Answer.Granted grant stamp kind room n) = refl
answers-no-request (Answer.Conflict p m) = refl
answers-no-request Answer.Done = refl
answers-no-request (Answer.Made u) = refl
answers-no-request Answer.NoSpace = refl
answers-no-request (Answer.Listed rows more) = refl
