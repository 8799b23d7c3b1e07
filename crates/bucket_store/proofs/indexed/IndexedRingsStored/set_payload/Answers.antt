use Rattle.std.proofs.Common.{◌∙◌, ℕ, Option, sym, ap}
use Rattle.bucket_ring.specs.Lists.{list_at}
use Rattle.bucket_store.specs.Dependents.{noted}
use Rattle.bucket_store.specs.Noted.{is_noted, place_under}
use Rattle.bucket_store.proofs.Lists.{some_of}
use Rattle.bucket_store.proofs.Noted.{all_found, noted_item, noted_parts}
use Rattle.bucket_store.proofs.Tested.{noted_since, replaced}
use Rattle.bucket_store.proofs.indexed.IndexedRingsStored.set_payload.Goals as goal

pub invariant_of-self-clause-indexed : goal.invariant_of-self-clause-indexed
invariant_of-self-clause-indexed g c =
    let s = c.args.self.now in
    let id = c.args.id in
    let had = c.set_payload-had.result in
    let before = noted s.dependents in
    let names = noted c.note_changed.new.dependents in
    let old = g.R.Rings.lists s.rings in
    let q = some_of (g.R.Rings.ring_at s.rings id) c.requires in
    let were = all_found (is_noted before) id had (list_at old q.0) (s.indexed q.0) (c.set_payload-had.ensures.had q.0 q.1) in
    let parts = noted_parts before id had were in
    c.tidy.ensures
    (replaced (noted_since s s.dependents c.note_changed.new.dependents s.indexed c.note_changed.ensures.kept) c.set_payload-had.new.self id c.requires c.args.payload
    (noted_item names id c.args.payload (c.note_changed.ensures.kind parts.0) (c.note_changed.ensures.home parts.1)
    (ap (λ (q : Option ℕ). place_under (λ n. names n id) q) (sym c.place_of-place.ensures) ∙ c.note_changed.ensures.place parts.2))
    c.set_payload-had.ensures.out)

pub invariant_of-self-clause-kept : goal.invariant_of-self-clause-kept
invariant_of-self-clause-kept g c = g.met.R.Rings.kept c.set_payload-had.new.self

pub returns : goal.returns
returns g c = c.set_payload-had.ensures
