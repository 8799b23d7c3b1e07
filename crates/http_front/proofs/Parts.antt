-- The parts of a response.
use Rattle.std.proofs.Common.{◌≡◌, ℕ, ◌<◌, Bool, true, false, cond, List, [], length, refl, subst, arith}
use Rattle.http_message.specs.Replying.{has_body, middle}
use Rattle.http_message.specs.declared.reply.Reply.{Reply}

-- what is sent of a body that has a byte is the whole of it
pub sent_whole : (r : Reply) (sent : List ℕ) (n : ℕ) → sent ≡ middle r → n < length sent → middle r ≡ r.body
unfolding middle
sent_whole r sent n is some = by (has_body r.status r.method) (subst (λ (l : List ℕ). n < length l) is some)
  where
    by : (v : Bool) → n < length (cond v r.body []) → cond v r.body [] ≡ r.body
    by true more = refl
    by false more = absurd (omega (arith, more))
