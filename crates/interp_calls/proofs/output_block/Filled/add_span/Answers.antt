-- What was read stands behind the output, or the output is as it was.
use Rattle.std.proofs.Common.{◌≡◌, ◌+◌, ◌≤◌, ◌++◌, ℕ, length, drop, sym, ap, subst, ◌∙◌, arith}
use Rattle.std.proofs.Math.Seq.{take-length}
use Rattle.std.proofs.lemmas.List.{append-nil}
use Rattle.interp_calls.specs.Delivery.{IsFetched}
use Rattle.interp_calls.specs.declared.output.Fetched.TheVariants as fetched
use Rattle.interp_calls.specs.Filled.{text}
use Rattle.interp_calls.proofs.Buffers.{PartRead, part_size, part_written, part_unread}
use Rattle.interp_calls.proofs.Fronts.{longer}
use Rattle.interp_calls.proofs.Spans.{none_given}
use Rattle.interp_calls.proofs.output_block.Filled.add_span.Goals as goal
use Rattle.interp_calls.proofs.output_block.Filled.add_span.Goals.{After-fetch}

-- What was read is a part of the block: where it was given it stands behind the output, and else the output is as it was.
read : (g : _) (c : After-fetch g)
    → PartRead c.args.self.now.block c.args.self.now.block c.as_mut_slice.result.now c.args.self.now.end c.end_with-end.result c.args.count c.fetch.new.buffer
read g c =
    let a = c.args.self.now.end in
    let b = c.end_with-end.result in
    let end : b ≡ a + c.args.count = c.end_with-end.ensures in
    let room = c.requires.room.1 in
    let all = c.args.self.now.block in
    let xs = c.as_mut_slice.result.now in
    let bytes = c.fetch.new.buffer in
    let same = c.as_mut_slice.ensures.value in
    let front = take-length all in
    let fits : b ≤ length all = omega (arith, end, room) in
    let there : a ≤ length all = omega (arith, room) in
    let order : a ≤ b = omega (arith, end) in
    let size = c.fetch.ensures.len in
    record {
      span = part_size all all xs a b bytes same front there order fits size ∙ omega (arith, end);
      taken = part_written all all xs a b bytes same front there order fits size;
      left = part_unread all all xs a b bytes same front there order fits size;
    }

pub returns-in-All-clause-added : goal.returns-in-All-clause-added
returns-in-All-clause-added g c =
    let part = read g (goal.at.returns-in-All-clause-added g c).After-fetch in
    let bytes = c.fetch.new.buffer in
    let fits = c.requires.room.1 in
    record {
      added = bytes;
      grown = ap (drop 48) part.taken ∙ longer 48 c.args.self.now.end c.args.self.now.block bytes c.requires.room.0 (omega (arith, fits));
      fetched_so = subst (λ (k : ℕ). IsFetched (g.F.Files.device c.args.files.now) (g.F.Files.device c.fetch.new.files) c.args.file c.args.at k bytes fetched.All) part.span c.in-All.ensures.fetched;
    }

pub returns-in_default-clause-added : goal.returns-in_default-clause-added
returns-in_default-clause-added g c =
    let part = read g (goal.at.returns-in_default-clause-added g c).After-fetch in
    let bytes = c.fetch.new.buffer in
    record {
      added = bytes;
      grown = ap (drop 48) part.left ∙ sym (ap (λ zs. text c.args.self.now ++ zs) (none_given c.fetch.result bytes c.in_default.not-All) ∙ append-nil (text c.args.self.now));
      fetched_so = subst (λ (k : ℕ). IsFetched (g.F.Files.device c.args.files.now) (g.F.Files.device c.fetch.new.files) c.args.file c.args.at k bytes c.fetch.result) part.span
          c.fetch.ensures.fetched;
    }
