-- A comma stands in front, and then the word.
use Rattle.std.proofs.Common.{◌≡◌, ◌∷◌, sym, ◌∙◌}
use Rattle.life_cert.specs.StateFromText.{starts}
use Rattle.life_cert.proofs.Taking.{past_none}
use Rattle.life_cert.proofs.StateWords.{next_none, next_past, next_starts, no_comma}
use Rattle.life_cert.proofs.unread.Unread.take_next.Goals as goal
use Rattle.life_cert.proofs.unread.Unread.take_next.Goals.{After-take-found}

pub returns-then-not-take-clause-rest : goal.returns-then-not-take-clause-rest
returns-then-not-take-clause-rest c =
    let t = c.args.self.now.bytes.now in
    rw c.if-not-any.false (past_none (44 ∷ c.args.word.now) t (no_comma c.args.word.now t (sym c.take-2.ensures.found ∙ c.if-not-take.true)))

-- the word stands behind the comma where both stand in front
found : (c : After-take-found) → c.take-found.result ≡ starts (44 ∷ c.args.word.now) c.args.self.now.bytes.now
found c = c.take-found.ensures.found
    ∙ next_starts c.args.word.now c.args.self.now.bytes.now c.take-2.new.self.bytes.now (sym c.take-2.ensures.found ∙ c.if-not-take.false) c.take-2.ensures.rest

pub returns-then-found-clause-found : goal.returns-then-found-clause-found
returns-then-found-clause-found c = rw c.if-not-any.false (found (goal.at.returns-then-found-clause-found c).After-take-found)

pub returns-then-found-clause-rest : goal.returns-then-found-clause-rest
returns-then-found-clause-rest c =
    let t = c.args.self.now.bytes.now in
    rw c.if-not-any.false (c.take-found.ensures.rest
    ∙ next_past c.args.word.now t c.take-2.new.self.bytes.now (sym c.take-2.ensures.found ∙ c.if-not-take.false) c.take-2.ensures.rest (sym c.take-found.ensures.found ∙ c.if-found.true))

pub returns-else-found-clause-found : goal.returns-else-found-clause-found
returns-else-found-clause-found c = rw c.if-not-any.false (found (goal.at.returns-else-found-clause-found c).After-take-found)

pub returns-else-found-clause-rest : goal.returns-else-found-clause-rest
returns-else-found-clause-rest c =
    let t = c.args.self.now.bytes.now in
    rw c.if-not-any.false
    (next_none c.args.word.now t c.take-2.new.self.bytes.now (sym c.take-2.ensures.found ∙ c.if-not-take.false) c.take-2.ensures.rest (sym c.take-found.ensures.found ∙ c.if-found.false))
