use Rattle.bucket_ring.specs.Lists.{put_tail}
use Rattle.bucket_store.proofs.Noted.{all_tail, same_lists}
use Rattle.bucket_store.proofs.Tested.{new_noted}
use Rattle.bucket_store.proofs.indexed.IndexedRingsStored.add_tail.Goals as goal

pub invariant_of-self-2-clause-indexed : goal.invariant_of-self-2-clause-indexed
invariant_of-self-2-clause-indexed g c =
    let e = c.note.ensures in
    c.tidy.ensures (new_noted c.args.self.now c.note.new.self c.add_tail.new.self c.in_ok-id.id c.args.payload c.place_of-place.result e.kept e.kind
    e.home c.place_of-place.ensures e.place put_tail all_tail c.args.ring c.in_ok-id.ensures.ok)

pub returns : goal.returns
returns g c = c.in_ok-id.ensures

pub invariant_of-self : goal.invariant_of-self
invariant_of-self g c =
    record { kept = g.met.R.Rings.kept c.add_tail.new.self; indexed = same_lists _ _ c.args.self.now.indexed _ c.in_err-id.ensures.err }
