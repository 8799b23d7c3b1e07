-- The slices have the bytes of the parts, each of its own.
use Rattle.std.proofs.Common.{ℕ, List, ◌++◌, sym, ap, ◌∙◌, append_assoc, append-nil}
use Rattle.byte_streams.proofs.socket_sink.io_slices.Goals as goal

pub returns : goal.returns
returns c =
    let p = c.args.parts in
    rw (c.new.ensures, c.new-2.ensures, c.new-3.ensures)
    (ap (λ (l : List ℕ). p.first.now ++ (p.second.now ++ l)) (append-nil p.third.now) ∙ sym (append_assoc p.first.now p.second.now p.third.now))
