use Rattle.std.proofs.Common.{◌≡◌, ◌<◌, ◌≤◌, ℕ, ◌∙◌, List, length, Bool, Option, Err, refl, sym, arith, take}
use Rattle.std.proofs.KnownBytes.{Keeps-refl}
use Rattle.std.proofs.lemmas.List.{length-replicate, length-take}
use Rattle.std.proofs.lemmas.Result.{err_from_is_err_and}
use Rattle.std.specs.Io.KnownBytes.{Keeps}
use Rattle.byte_streams.specs.Counted.{IsCounted, source_of}
use Rattle.byte_streams.specs.declared.counted.CountedFault.{CountedFault}
use Rattle.byte_streams.specs.declared.counted.CountedFault.TheVariants as counted
use Rattle.body_filter.specs.Bodies.{IsReadAtOnce}
use Rattle.body_filter.proofs.FedHosts.{fed_alive, fed_all, fed_left, fed_on, fed_safe, fed_stopped, fed_unwritten, not_started, start_unwritten, started}
use Rattle.body_filter.proofs.feeding.feed.Goals as goal

-- A read that gave no answer left the bytes as they were.
refused_kept : (left rest : ℕ) (before after : Option (List ℕ)) (was is : Bool) (buffer : List ℕ) (e : CountedFault) → IsCounted left rest before after was is buffer (Err e)
    → Keeps before after
refused_kept left rest before after was is buffer counted.Failed (one, kept, failed) = kept
refused_kept left rest before after was is buffer counted.TooManyReads (none, still, kept, same) = kept

read_at_once : (n : ℕ) (buffer : List ℕ) → 0 < n → n ≤ length buffer → length buffer ≡ 8000 → IsReadAtOnce (take n buffer)
read_at_once n buffer some within wide = (let long = length-take n buffer in (omega (arith, long, some, within), omega (arith, long, within, wide)))

pub returns-in_err-begun-clause-leads : goal.returns-in_err-begun-clause-leads
returns-in_err-begun-clause-leads g c =
    let p = err_from_is_err_and c.from_residual.result c.from_residual.ensures.1 in
    rw (p.1, p.2) (start_unwritten g.F.Files.device c.args.number c.args.host.now c.begin.new.host _ _ _ _ c.in_err-begun.ensures.leads)

pub returns-then-is_some-clause-leads : goal.returns-then-is_some-clause-leads
returns-then-is_some-clause-leads g c =
    not_started g.F.Files.device c.args.number c.args.host.now c.begin.new.host _ _ _ c.in_ok-begun.begun (sym c.is_some.ensures ∙ c.if-is_some.true) c.in_ok-begun.ensures.leads

pub loop-init : goal.loop-init
loop-init g c =
    let fed = started g.F.Files.device c.args.number c.args.host.now c.begin.new.host (g.S.Source.remaining (source_of c.args.reader.now)) _ _ c.in_ok-begun.begun
    (sym c.is_some.ensures ∙ c.if-is_some.false) c.in_ok-begun.ensures.leads in
    record {
      alive = fed_alive g.F.Files.device c.args.number c.args.host.now c.begin.new.host _ _ (g.S.Source.remaining (source_of c.args.reader.now)) _ _ fed c.requires;
      fed = fed;
      safe = λ safe. fed_safe g.F.Files.device c.args.number c.args.host.now c.begin.new.host _ _ (g.S.Source.remaining (source_of c.args.reader.now)) _ _ fed c.requires safe;
      wide = let z : ℕ = 0 in length-replicate 8000 z;
      counted = omega arith;
      reader = refl;
      writer = c.in_ok-begun.ensures.writer;
    }

pub returns-in_err-how-in-Ok-Bytes-clause-leads : goal.returns-in_err-how-in-Ok-Bytes-clause-leads
returns-in_err-how-in-Ok-Bytes-clause-leads g c =
    let read = rw c.in-Ok-Bytes.field-0-is at c.in-Ok-Bytes.ensures in
    let wide : length c.read.new.buffer ≡ 8000 = c.read.auto.buffer ∙ c.loop.invariant.wide in
    let p = err_from_is_err_and c.from_residual-in_err-how-in-Ok-Bytes.result c.from_residual-in_err-how-in-Ok-Bytes.ensures.1 in
    rw (p.1, p.2) (fed_unwritten g.F.Files.device c.args.number c.args.host.now c.loop.host _ _ _ _ _ c.loop.invariant.fed c.bring_bytes.new.host _
    (take c.in-Ok-Bytes.count c.read.new.buffer)
    (read_at_once c.in-Ok-Bytes.count c.read.new.buffer read.1.0 read.1.1 wide) read.1.2 _ c.in_err-how-in-Ok-Bytes.ensures.leads)

pub returns-then-is_some-2-clause-leads : goal.returns-then-is_some-2-clause-leads
returns-then-is_some-2-clause-leads g c =
    let read = rw c.in-Ok-Bytes.field-0-is at c.in-Ok-Bytes.ensures in
    let wide : length c.read.new.buffer ≡ 8000 = c.read.auto.buffer ∙ c.loop.invariant.wide in
    fed_stopped g.F.Files.device c.args.number c.args.host.now c.loop.host _ _ _ _ _ c.loop.invariant.fed c.bring_bytes.new.host _ (take c.in-Ok-Bytes.count c.read.new.buffer)
    (read_at_once c.in-Ok-Bytes.count c.read.new.buffer read.1.0 read.1.1 wide) read.1.2 c.in_ok-how-in-Ok-Bytes.how
    (sym c.is_some-in-Ok-Bytes.ensures ∙ c.if-is_some-2.true) c.in_ok-how-in-Ok-Bytes.ensures.leads

pub returns-in-Ok-End-clause-leads : goal.returns-in-Ok-End-clause-leads
returns-in-Ok-End-clause-leads g c =
    let read = rw c.in-Ok-End.field-0-is at c.in-Ok-End.ensures in
    fed_all g.F.Files.device c.args.number c.args.host.now c.loop.host _ _ _ _ _ c.loop.invariant.fed c.bring.new.host _ c.bring.result read.1.0 read.1.1 c.bring.ensures.leads

pub returns-in-Err-clause-leads : goal.returns-in-Err-clause-leads
returns-in-Err-clause-leads g c =
    let kept = refused_kept _ _ _ _ _ _ c.read.new.buffer c.in-Err.field-0 c.in-Err.ensures in
    fed_left g.F.Files.device c.args.number c.args.host.now c.loop.host _ _ _ _ _ c.loop.invariant.fed kept

pub returns-clause-leads : goal.returns-clause-leads
returns-clause-leads g c = fed_left g.F.Files.device c.args.number c.args.host.now c.loop.host _ _ _ _ _ c.loop.invariant.fed (Keeps-refl _)

pub loop-preserved : goal.loop-preserved
loop-preserved g c =
    let read = rw c.in-Ok-Bytes.field-0-is at c.in-Ok-Bytes.ensures in
    let wide : length c.read.new.buffer ≡ 8000 = c.read.auto.buffer ∙ c.loop.invariant.wide in
    let one = read.0 in
    let before = c.loop.invariant.counted in
    let fed = fed_on g.F.Files.device c.args.number c.args.host.now c.loop.host _ _ _ _ _ c.loop.invariant.fed c.bring_bytes.new.host _ (take c.in-Ok-Bytes.count c.read.new.buffer)
    (read_at_once c.in-Ok-Bytes.count c.read.new.buffer read.1.0 read.1.1 wide) read.1.2 c.in_ok-how-in-Ok-Bytes.how
    (sym c.is_some-in-Ok-Bytes.ensures ∙ c.if-is_some-2.false) c.in_ok-how-in-Ok-Bytes.ensures.leads in
    record {
      alive = fed_alive g.F.Files.device c.args.number c.args.host.now c.bring_bytes.new.host _ _ (g.S.Source.remaining (source_of c.read.new.self)) _ _ fed c.requires;
      fed = fed;
      safe = λ safe. fed_safe g.F.Files.device c.args.number c.args.host.now c.bring_bytes.new.host _ _ (g.S.Source.remaining (source_of c.read.new.self)) _ _ fed c.requires safe;
      wide = wide;
      counted = omega (arith, one, before);
      reader = read.1.3 ∙ c.loop.invariant.reader;
      writer = c.in_ok-how-in-Ok-Bytes.ensures.writer ∙ c.loop.invariant.writer;
    }

pub returns-then-is_some-2-clause-safe : goal.returns-then-is_some-2-clause-safe
returns-then-is_some-2-clause-safe g c safe = c.in_ok-how-in-Ok-Bytes.ensures.safe (c.loop.invariant.safe safe)

pub returns-in-Ok-End-clause-safe : goal.returns-in-Ok-End-clause-safe
returns-in-Ok-End-clause-safe g c safe = c.bring.ensures.safe (c.loop.invariant.safe safe)
