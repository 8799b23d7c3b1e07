use Rattle.bucket_ring.specs.Lists.{put_before}
use Rattle.bucket_store.proofs.Noted.{all_before, same_lists}
use Rattle.bucket_store.proofs.Tested.{new_noted_at}
use Rattle.bucket_store.proofs.indexed.IndexedRingsStored.add_before.Goals as goal

pub invariant_of-self-2-clause-indexed : goal.invariant_of-self-2-clause-indexed
invariant_of-self-2-clause-indexed g c =
    let e = c.note.ensures in
    c.tidy.ensures (new_noted_at c.args.self.now c.note.new.self c.add_before.new.self c.in_ok-id.id c.args.payload c.place_of-place.result e.kept e.kind e.home c.place_of-place.ensures e.place
    put_before all_before c.args.at c.requires c.in_ok-id.ensures.ok)

pub returns : goal.returns
returns g c = c.in_ok-id.ensures

pub invariant_of-self : goal.invariant_of-self
invariant_of-self g c =
    record { kept = g.met.R.Rings.kept c.add_before.new.self; indexed = same_lists _ _ c.args.self.now.indexed _ c.in_err-id.ensures.err }
