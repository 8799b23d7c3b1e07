-- The bytes stand behind the text.
use Rattle.std.proofs.Common.{◌≡◌, ◌≤◌, ◌-◌, ◌++◌, length, take, drop, ap, ◌∙◌, arith}
use Rattle.std.proofs.Math.Seq.{take-length}
use Rattle.interp_calls.specs.Filled.{text}
use Rattle.interp_calls.proofs.Buffers.{part_len, part_written}
use Rattle.interp_calls.proofs.Fronts.{longer}
use Rattle.interp_calls.proofs.output_block.Filled.put.Goals as goal

pub returns-clause-put : goal.returns-clause-put
returns-clause-put c =
    let a = c.args.self.now.end in
    let b = c.end_with-end.result in
    let all = c.args.self.now.block in
    let xs = c.as_mut_slice.result.now in
    let bytes = c.copy_from_slice.new.self in
    let end = c.end_with-end.ensures in
    let room = c.requires.room.1 in
    let fits : b ≤ length all = omega (arith, end, room) in
    let there : a ≤ length all = omega (arith, room) in
    let order : a ≤ b = omega (arith, end) in
    let whole : length xs ≡ length all = ap length c.as_mut_slice.ensures.value in
    let part = part_len xs a b order (omega (arith, fits, whole)) in
    let as_given : length bytes ≡ length c.args.bytes.now = ap length c.copy_from_slice.ensures.after in
    let size : length bytes ≡ length (take (b - a) (drop a xs)) = omega (arith, part, end, as_given) in
    ap (drop 48) (part_written all all xs a b bytes c.as_mut_slice.ensures.value (take-length all) there order fits size)
    ∙ (longer 48 a all bytes c.requires.room.0 there ∙ ap (λ zs. text c.args.self.now ++ zs) c.copy_from_slice.ensures.after)
