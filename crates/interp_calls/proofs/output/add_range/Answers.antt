-- Each span is read to its place, or read part by part, or not read.
use Rattle.std.proofs.Common.{◌≡◌, ℕ, zero, suc, ◌+◌, ◌-◌, ◌<◌, ◌≤◌, min, length, drop, refl, ◌∙◌, arith}
use Rattle.std.proofs.Math.Seq.{drop-length}
use Rattle.std.proofs.lemmas.List.{take_all}
use Rattle.interp_calls.specs.Filled.{text}
use Rattle.interp_calls.proofs.Buffers.{both_parts}
use Rattle.interp_calls.proofs.Delivering.{range_none, range_done}
use Rattle.interp_calls.proofs.Spans.{span_one, span_of, span_all, span_ended, span_lacks}
use Rattle.interp_calls.proofs.WellRead.{none_went}
use Rattle.interp_calls.proofs.output.add_range.Goals as goal

pub loop-count-init : goal.loop-count-init
loop-count-init g c =
    let old = text c.args.out.now in
    let d = g.F.Files.device c.args.files.now in
    record {
      within = omega arith;
      front = take_all (length old) old (omega arith);
      went = none_went d;
      open_files = refl;
      read = range_none d c.args.file c.args.start c.args.len (drop (length old) old) (drop-length old);
      span = span_of d c.span_limit-limit.result c.span_limit-limit.ensures;
      size = refl;
      low = omega arith;
      high = omega arith;
      still = λ none. refl;
    }

pub loop-count-preserved-in-All-1 : goal.loop-count-preserved-in-All-1
loop-count-preserved-in-All-1 g c =
    let l = c.loop-count in
    let i = l.invariant in
    let n = c.min-part.result in
    let part : n ≡ min l.limit (c.args.len - l.count) = omega arith in
    let below : l.count < c.args.len = omega arith in
    let more = span_all (g.F.Files.device c.args.files.now) c.args.file c.args.start c.args.len (g.F.Files.device l.files)
    (g.F.Files.device c.add_span.new.files) l.count n (text c.args.out.now) (text l.out) (text c.add_span.new.self) i.front i.went i.read
    l.limit c.add_span.result i.span below part c.add_span.ensures.added c.in-All.is in
    let low = i.low in
    let high = i.high in
    let end = rw c.in-All.is at c.add_span.ensures.end in
    record {
      within = omega arith;
      front = more.0;
      went = more.1;
      open_files = c.add_span.ensures.open_files ∙ i.open_files;
      read = more.2;
      span = more.3;
      size = c.add_span.ensures.size ∙ i.size;
      low = omega (arith, low, end);
      high = omega (arith, high, end);
      still = λ none. absurd (omega (arith, none));
    }

pub loop-count-preserved : goal.loop-count-preserved
loop-count-preserved g c =
    let l = c.loop-count in
    let i = l.invariant in
    let n = c.min-part.result in
    let part : n ≡ min l.limit (c.args.len - l.count) = omega arith in
    let above : 8000 < n = omega arith in
    let again = span_ended (g.F.Files.device c.args.files.now) c.args.file c.args.start c.args.len (g.F.Files.device l.files)
    (g.F.Files.device c.add_span.new.files) l.count n (text c.args.out.now) (text l.out) (text c.add_span.new.self) i.front i.went i.read
    l.limit c.add_span.result i.span above part c.add_span.ensures.added c.in-Ended.is in
    let low = i.low in
    let high = i.high in
    let end = rw c.in-Ended.is at c.add_span.ensures.end in
    record {
      within = i.within;
      front = again.0;
      went = again.1;
      open_files = c.add_span.ensures.open_files ∙ i.open_files;
      read = again.2;
      span = span_one (g.F.Files.device c.add_span.new.files);
      size = c.add_span.ensures.size ∙ i.size;
      low = omega (arith, low, end);
      high = omega (arith, high, end);
      still = λ none. absurd (omega (arith, none));
    }

pub returns-in_default-clause-added : goal.returns-in_default-clause-added
returns-in_default-clause-added g c =
    let l = c.loop-count in
    let i = l.invariant in
    let below : l.count < c.args.len = omega arith in
    let of = i.span.limit_is in
    let above = i.span.some in
    let part : c.min-part.result ≡ min (c.args.len - l.count) 8000 = omega (arith, of, above) in
    span_lacks (g.F.Files.device c.args.files.now) c.args.file c.args.start c.args.len (g.F.Files.device l.files)
    (g.F.Files.device c.add_span.new.files) l.count c.min-part.result (text c.args.out.now) (text l.out) (text c.add_span.new.self) i.front i.went i.read
    c.add_span.result below c.add_span.ensures.added c.in_default.not-All (λ _. part)

pub returns-in_default-2-clause-added : goal.returns-in_default-2-clause-added
returns-in_default-2-clause-added g c =
    let l = c.loop-count in
    let i = l.invariant in
    let below : l.count < c.args.len = omega arith in
    span_lacks (g.F.Files.device c.args.files.now) c.args.file c.args.start c.args.len (g.F.Files.device l.files)
    (g.F.Files.device c.add_span.new.files) l.count c.min-part.result (text c.args.out.now) (text l.out) (text c.add_span.new.self) i.front i.went i.read
    c.add_span.result below c.add_span.ensures.added c.in_default.not-All (λ ended. absurd (cc (ended, c.in_default.is)))

-- within the room that there was
in_room : (old new size len after : ℕ) → old ≤ size → (0 < len → (48 ≤ old) × (old + len ≤ size)) → new ≤ old + len → after ≡ size → new ≤ after
in_room old new size zero after fits room high same = omega (arith, fits, high, same)
in_room old new size (suc len) after fits room high same = (let r = (room (omega arith)).1 in omega (arith, r, high, same))

pub returns-clause-within : goal.returns-clause-within
returns-clause-within g c =
    let i = c.loop-count.invariant in
    let high = i.high in
    let few = i.within in
    in_room c.args.out.now.end c.loop-count.out.end (length c.args.out.now.block) c.args.len (length c.loop-count.out.block) c.requires.within c.requires.room (omega (arith, high, few)) i.size

pub add_span-requires-clause-room : goal.add_span-requires-clause-room
add_span-requires-clause-room g c =
    let i = c.loop-count.invariant in
    let r = c.requires.room (omega arith) in
    let room = r.1 in
    let head = r.0 in
    let low = i.low in
    let high = i.high in
    let size = i.size in
    (omega (arith, head, low), omega (arith, room, high, size))

pub returns-clause-added : goal.returns-clause-added
returns-clause-added g c =
    let l = c.loop-count in
    let old = text c.args.out.now in
    record {
      added = drop (length old) (text l.out);
      grown = both_parts old (text l.out) l.invariant.front;
      taken_so = range_done (g.F.Files.device c.args.files.now) c.args.file c.args.start c.args.len (g.F.Files.device l.files) l.count (drop (length old) (text l.out)) l.invariant.read
          (omega arith) l.invariant.went;
    }
