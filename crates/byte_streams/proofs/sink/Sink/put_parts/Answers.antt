use Rattle.std.proofs.Common.{◌++◌, Err, refl, ap, sym, ◌∙◌}
use Rattle.std.proofs.KnownBytes.{Appends-trans}
use Rattle.std.proofs.lemmas.Result.{err_from_is_err_and}
use Rattle.byte_streams.proofs.PutLaws.{put_first, put_is, put_next}
use Rattle.byte_streams.proofs.sink.Sink.put_parts.Goals as goal

pub returns-in_err-put : goal.returns-in_err-put
returns-in_err-put g c =
    let w = g.Self.Sink.contents in
    let f = g.Self.Sink.failed in
    let p = c.args.parts in
    let e = c.in_err-put.field-0.0 in
    let q = err_from_is_err_and c.from_residual.result c.from_residual.ensures.1 in
    let first = put_first (f c.args.self.now) (f c.put.new.self) (w c.args.self.now) (w c.put.new.self) p.first.now p.second.now e c.in_err-put.ensures in
    put_is (f c.args.self.now) (f c.put.new.self) (w c.args.self.now) (w c.put.new.self) _ _ (Err e) c.from_residual.result (sym (q.1 ∙ ap Err q.2)) refl
    (put_first (f c.args.self.now) (f c.put.new.self) (w c.args.self.now) (w c.put.new.self) (p.first.now ++ p.second.now) p.third.now e first)

pub returns-in_err-put-2 : goal.returns-in_err-put-2
returns-in_err-put-2 g c =
    let w = g.Self.Sink.contents in
    let f = g.Self.Sink.failed in
    let p = c.args.parts in
    let e = c.in_err-put-2.field-0.0 in
    let q = err_from_is_err_and c.from_residual-in_err-put-2.result c.from_residual-in_err-put-2.ensures.1 in
    let both = put_next (f c.args.self.now) (f c.put-2.new.self) (f c.put.new.self) (w c.args.self.now) (w c.put.new.self)
    (w c.put-2.new.self) p.first.now p.second.now (Err e) c.in_ok-put.ensures c.in_err-put-2.ensures in
    put_is (f c.args.self.now) (f c.put-2.new.self) (w c.args.self.now) (w c.put-2.new.self) _ _ (Err e) c.from_residual-in_err-put-2.result (sym (q.1 ∙ ap Err q.2)) refl
    (put_first (f c.args.self.now) (f c.put-2.new.self) (w c.args.self.now) (w c.put-2.new.self) (p.first.now ++ p.second.now) p.third.now e both)

pub returns : goal.returns
returns g c =
    let w = g.Self.Sink.contents in
    let f = g.Self.Sink.failed in
    let p = c.args.parts in
    let first = c.in_ok-put.ensures in
    let next = c.in_ok-put-2.ensures in
    put_next (f c.args.self.now) (f c.put-3.new.self) (f c.put-2.new.self) (w c.args.self.now) (w c.put-2.new.self) (w c.put-3.new.self)
    (p.first.now ++ p.second.now) p.third.now c.put-3.result
    (Appends-trans (w c.args.self.now) (w c.put.new.self) (w c.put-2.new.self) p.first.now p.second.now first.0 next.0, next.1 ∙ first.1)
    c.put-3.ensures
