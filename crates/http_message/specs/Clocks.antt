-- What passes between the server and its clock.
use Rattle.std.specs.Prelude.{◌≡◌, ℕ, List, length}
use Rattle.http_message.specs.Replying.{middle}
use Rattle.http_message.specs.declared.clock.Exchange.{Exchange}
use Rattle.http_message.specs.declared.reply.Reply.{Reply}

-- The clock tells a moment, in seconds since 1970. Or it is told of a response.
pub data Said : Type 0 where
  Moment : ℕ → Said
  Response : Exchange → Said

-- What is told of this reply to such a request.
pub record IsExchange (sent_method sent_target : List ℕ) (r : Reply) (e : Exchange) : Type 0 where
  pub method : e.method.now ≡ sent_method
  pub target : e.target.now ≡ sent_target
  pub status : e.status ≡ r.status
  pub size : e.size ≡ length (middle r)
  pub failure : e.failure ≡ r.failure

-- K: a clock. tells: what passes between it and the server.
module _ {K : Type 0} (tells : K → Said → K → Type 0) where
  -- The clock is told of this reply.
  pub record IsNoted (before : K) (method target : List ℕ) (r : Reply) (after : K) : Type 0 where
    pub exchange : Exchange
    pub is : IsExchange method target r exchange
    pub told : tells before (Response exchange) after
