-- What a process asked of a home, as it is kept: the body of a request.
use Rattle.std.specs.Prelude.{◌≡◌, None, unwrap_or, refl}
use Rattle.std.specs.Coded.{Coded, code_by}
use Rattle.ring_messages.specs.declared.body.Body.{Body}
use Rattle.ring_messages.specs.contracts.body.Body as body
use Rattle.ring_messages.specs.Bodies.{Ask, ask_of, body_of_ask}

-- what a body asks, for one that asks
abbrev pub ask_in : Body → Ask
ask_in body = unwrap_or (ask_of body) (Ask.ListLocks None)

-- the body is a request
pub record IsRequest (body : Body) : Type 0 where
  pub asks : body_of_ask (ask_in body) ≡ body

-- the body of a request asks that
pub ask_in-body_of_ask : (ask : Ask) → ask_in (body_of_ask ask) ≡ ask
ask_in-body_of_ask (Ask.PageIn u page) = refl
ask_in-body_of_ask (Ask.PageOut u page grant base bytes) = refl
ask_in-body_of_ask (Ask.AttrOut u n grant base) = refl
ask_in-body_of_ask (Ask.Lock u m) = refl
ask_in-body_of_ask (Ask.Unlock u) = refl
ask_in-body_of_ask (Ask.Remove u) = refl
ask_in-body_of_ask (Ask.Make kind room) = refl
ask_in-body_of_ask (Ask.ListLocks after) = refl

-- how a request is stored
abbrev pub ask_code : Coded Ask
ask_code = code_by Body body.the_row.coded body_of_ask ask_in ask_in-body_of_ask
