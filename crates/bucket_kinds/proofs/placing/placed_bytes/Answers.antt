use Rattle.std.proofs.Common.{◌≡◌, ◌+◌, ◌-◌, ◌≤◌, length, take, drop, sym, ◌∙◌, ap, arith}
use Rattle.bucket_kinds.specs.Stored.{part}
use Rattle.bucket_kinds.proofs.Places.{part_there, part_within, part_ends}
use Rattle.bucket_kinds.proofs.placing.placed_bytes.Goals as goal

pub bytes-all-requires : goal.bytes-all-requires
bytes-all-requires c = part_there _ c.args.place c.requires

pub overflow_add-end : goal.overflow_add-end
overflow_add-end c = let ends = part_ends _ c.args.place c.requires in omega (arith, ends)

pub slice_bounds-result-end : goal.slice_bounds-result-end
slice_bounds-result-end c =
    let within : c.args.place.start + c.args.place.len ≤ length c.bytes-all.result.now = part_within _ c.bytes-all.result.now c.args.place c.bytes-all.ensures c.requires in
    omega (arith, within)

pub returns : goal.returns
returns c =
    let place = c.args.place in
    let count : (place.start + place.len) - place.start ≡ place.len = omega arith in
    ap (λ n. take n (drop place.start c.bytes-all.result.now)) count ∙ sym (ap (λ bytes. part bytes place) c.bytes-all.ensures)
