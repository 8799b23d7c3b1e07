use Rattle.std.proofs.Common.{◌≡◌, ℕ, ◌*◌, length, ap, sym, ◌∙◌, refl, arith}
use Rattle.std.proofs.lemmas.List.{length-take, length-replicate}
use Rattle.script_play.proofs.GoingLaws.{going_first, going_kept, refused_kept, going_last, last_ok, last_read, last_memory, last_write, going_read, bytes_read, bytes_memory, bytes_write, going_on}
use Rattle.script_play.proofs.GoingLaws.{going_over}
use Rattle.script_play.proofs.playing.play_all.Goals as goal

pub loop-init : goal.loop-init
loop-init g c =
    record {
      going = going_first _ _ c.args.player.now c.args.held.now.items c.requires.at c.requires.none c.requires.empty;
      wide = let z : ℕ = 0 in length-replicate 8192 z;
      counted = omega arith;
      reader = refl;
      writer = refl;
    }

pub end_play-requires-clause-at : goal.end_play-requires-clause-at
end_play-requires-clause-at g c = let k = c.loop.invariant.going in (k.stage, k.at)

pub end_play-requires-clause-few : goal.end_play-requires-clause-few
end_play-requires-clause-few g c =
    let few = c.loop.invariant.going.few in
    let same = ap length c.as_slice.ensures.value in
    omega (arith, few, same)

pub take_bytes-requires-clause-at : goal.take_bytes-requires-clause-at
take_bytes-requires-clause-at g c = let k = c.loop.invariant.going in (k.stage, k.at)

pub take_bytes-requires-clause-unended : goal.take_bytes-requires-clause-unended
take_bytes-requires-clause-unended g c = c.loop.invariant.going.unended

pub take_bytes-requires-clause-few : goal.take_bytes-requires-clause-few
take_bytes-requires-clause-few g c =
    let few = c.loop.invariant.going.few in
    let long = length-take c.in-Ok-Bytes.count c.read.new.buffer in
    let same : length c.read.new.buffer ≡ 8192 = c.read.auto.buffer ∙ c.loop.invariant.wide in
    omega (arith, few, long, same)

pub returns-in-Ok-End-clause-ok : goal.returns-in-Ok-End-clause-ok
returns-in-Ok-End-clause-ok g c =
    let read = rw c.in-Ok-End.field-0-is at c.in-Ok-End.ensures in
    let k = going_last _ _ _ _ _ c.loop.player c.loop.held.items c.as_slice.result.now _ c.loop.invariant.going (read.1.0, read.1.1) c.as_slice.ensures.value in
    last_ok _ _ _ _ _ c.loop.player _ c.end_play.result k c.end_play.ensures.plays

pub returns-in-Ok-End-clause-read : goal.returns-in-Ok-End-clause-read
returns-in-Ok-End-clause-read g c =
    let read = rw c.in-Ok-End.field-0-is at c.in-Ok-End.ensures in
    let k = going_last _ _ _ _ _ c.loop.player c.loop.held.items c.as_slice.result.now _ c.loop.invariant.going (read.1.0, read.1.1) c.as_slice.ensures.value in
    λ is. last_read _ _ _ _ _ c.loop.player _ c.end_play.result k c.end_play.ensures.plays is _

pub returns-in-Ok-End-clause-memory : goal.returns-in-Ok-End-clause-memory
returns-in-Ok-End-clause-memory g c =
    let read = rw c.in-Ok-End.field-0-is at c.in-Ok-End.ensures in
    let k = going_last _ _ _ _ _ c.loop.player c.loop.held.items c.as_slice.result.now _ c.loop.invariant.going (read.1.0, read.1.1) c.as_slice.ensures.value in
    last_memory _ _ _ _ _ c.loop.player _ c.end_play.result k c.end_play.ensures.plays

pub returns-in-Ok-End-clause-write : goal.returns-in-Ok-End-clause-write
returns-in-Ok-End-clause-write g c =
    let read = rw c.in-Ok-End.field-0-is at c.in-Ok-End.ensures in
    let k = going_last _ _ _ _ _ c.loop.player c.loop.held.items c.as_slice.result.now _ c.loop.invariant.going (read.1.0, read.1.1) c.as_slice.ensures.value in
    last_write _ _ _ _ _ c.loop.player _ c.end_play.result k c.end_play.ensures.plays

pub returns-in_err-take_bytes-in-Ok-Bytes-clause-read : goal.returns-in_err-take_bytes-in-Ok-Bytes-clause-read
returns-in_err-take_bytes-in-Ok-Bytes-clause-read g c =
    let read = rw c.in-Ok-Bytes.field-0-is at c.in-Ok-Bytes.ensures in
    λ is. bytes_read _ _ _ _ _ _ c.loop.player c.take_bytes.new.player _ _ c.take_bytes.new.held.items _ c.loop.invariant.going read.1.2 _ _ c.from_residual.ensures.1
    c.in_err-take_bytes-in-Ok-Bytes.ensures.plays is _

pub returns-in_err-take_bytes-in-Ok-Bytes-clause-memory : goal.returns-in_err-take_bytes-in-Ok-Bytes-clause-memory
returns-in_err-take_bytes-in-Ok-Bytes-clause-memory g c =
    let long = length-take c.in-Ok-Bytes.count c.read.new.buffer in
    let same : length c.read.new.buffer ≡ 8192 = c.read.auto.buffer ∙ c.loop.invariant.wide in
    let read = rw c.in-Ok-Bytes.field-0-is at c.in-Ok-Bytes.ensures in
    bytes_memory _ _ _ _ _ _ c.loop.player c.take_bytes.new.player _ _ c.take_bytes.new.held.items _ c.loop.invariant.going read.1.2 _ _ c.from_residual.ensures.1
    c.in_err-take_bytes-in-Ok-Bytes.ensures.plays (omega (arith, long, same))

pub returns-in_err-take_bytes-in-Ok-Bytes-clause-write : goal.returns-in_err-take_bytes-in-Ok-Bytes-clause-write
returns-in_err-take_bytes-in-Ok-Bytes-clause-write g c =
    let long = length-take c.in-Ok-Bytes.count c.read.new.buffer in
    let same : length c.read.new.buffer ≡ 8192 = c.read.auto.buffer ∙ c.loop.invariant.wide in
    let read = rw c.in-Ok-Bytes.field-0-is at c.in-Ok-Bytes.ensures in
    bytes_write _ _ _ _ _ _ c.loop.player c.take_bytes.new.player _ _ c.take_bytes.new.held.items _ c.loop.invariant.going read.1.2 _ _ c.from_residual.ensures.1
    c.in_err-take_bytes-in-Ok-Bytes.ensures.plays (omega (arith, long, same))

pub returns-clause-read : goal.returns-clause-read
returns-clause-read g c = λ _. going_read _ _ _ _ _ c.loop.player _ _ c.loop.invariant.going c.loop.invariant.going.read

pub returns-then-is_over-clause-ok : goal.returns-then-is_over-clause-ok
returns-then-is_over-clause-ok g c =
    let read = rw c.in-Ok-Bytes.field-0-is at c.in-Ok-Bytes.ensures in
    let k = c.loop.invariant.going in
    let t = c.in_ok-take_bytes-in-Ok-Bytes.ensures.plays k.stage k.at in
    going_over _ _ _ _ _ _ c.loop.player c.take_bytes.new.player _ _ _ _ k read.1.2 t.0 t.1 t.2 t.3 (sym (c.is_over.ensures t.3.stage t.3.at) ∙ c.if-is_over.true)

pub returns-in-Err-clause-read : goal.returns-in-Err-clause-read
returns-in-Err-clause-read g c = λ _.
    let kept = refused_kept _ _ _ _ _ _ c.read.new.buffer c.in-Err.field-0 c.in-Err.ensures in
    going_kept _ _ _ _ _ c.loop.player _ _ c.loop.invariant.going kept

pub loop-preserved : goal.loop-preserved
loop-preserved g c =
    let read = rw c.in-Ok-Bytes.field-0-is at c.in-Ok-Bytes.ensures in
    let k = c.loop.invariant.going in
    let t = c.in_ok-take_bytes-in-Ok-Bytes.ensures.plays k.stage k.at in
    let long = length-take c.in-Ok-Bytes.count c.read.new.buffer in
    let same : length c.read.new.buffer ≡ 8192 = c.read.auto.buffer ∙ c.loop.invariant.wide in
    let one = read.0 in
    let counted = c.loop.invariant.counted in
    record {
      going = going_on _ _ _ _ _ _ c.loop.player c.take_bytes.new.player _ _ _ (8192 * c.loop.counter) _ k read.1.2 (omega (arith, long, same)) t.0 t.1 t.2 t.3 t.4
          (sym (c.is_over.ensures t.3.stage t.3.at) ∙ c.if-is_over.false);
      wide = same;
      counted = omega (arith, one, counted);
      reader = read.1.3 ∙ c.loop.invariant.reader;
      writer = c.in_ok-take_bytes-in-Ok-Bytes.ensures.writer ∙ c.loop.invariant.writer;
    }
