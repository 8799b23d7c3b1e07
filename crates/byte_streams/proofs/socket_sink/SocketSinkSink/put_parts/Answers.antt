use Rattle.std.proofs.Common.{◌≡◌, ◌+◌, ℕ, List, [], ◌++◌, length, take, drop, sym, ap, subst, ◌∙◌, arith, length-drop, append-nil}
use Rattle.std.proofs.lemmas.List.{drop-drop, take-append-drop}
use Rattle.std.specs.Io.KnownBytes.{Appends}
use Rattle.byte_streams.proofs.AppendLaws.{appends_take}
use Rattle.byte_streams.specs.Texts.{joined}
use Rattle.byte_streams.proofs.socket_sink.SocketSinkSink.put_parts.Goals as goal

pub loop-rest-preserved : goal.loop-rest-preserved
loop-rest-preserved g c =
    let w = g.W.WritesParts.contents in
    let text = joined c.args.parts in
    let m = c.loop-rest.invariant.0 in
    let count = c.in-Ok.count in
    let is : joined c.loop-rest.rest ≡ drop m text = c.loop-rest.invariant.2 in
    let long = ap length is ∙ length-drop m text in
    let fits = c.in-Ok.ensures.bound in
    let within = c.loop-rest.invariant.1 in
    let wrote : Appends (w c.loop-rest.self.writer) (w c.write_parts.new.self) (take count (drop m text)) =
    subst (λ (l : List ℕ). Appends (w c.loop-rest.self.writer) (w c.write_parts.new.self) (take count l)) is c.in-Ok.ensures.bytes in (
      m + count,
      omega (arith, long, fits, within),
      c.behind-rest.ensures ∙ ap (drop count) is ∙ drop-drop count m text,
      appends_take (w c.args.self.now.writer) (w c.loop-rest.self.writer) (w c.write_parts.new.self) text m count c.loop-rest.invariant.3 wrote,
      c.loop-rest.invariant.4,
    )

pub returns-clause-put : goal.returns-clause-put
returns-clause-put g c =
    let w = g.W.WritesParts.contents in
    let text = joined c.args.parts in
    let m = c.loop-rest.invariant.0 in
    let none : drop m text ≡ [] = sym c.loop-rest.invariant.2 ∙ c.is_empty.ensures.0 c.loop-rest-test.false in
    let all : take m text ≡ text = sym (append-nil (take m text)) ∙ ap (λ (l : List ℕ). take m text ++ l) (sym none) ∙ take-append-drop m text in
    (subst (Appends (w c.args.self.now.writer) (w c.loop-rest.self.writer)) all c.loop-rest.invariant.3, c.loop-rest.invariant.4)
