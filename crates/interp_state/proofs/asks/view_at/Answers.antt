-- The bucket in the cursor is where the cursor stands.
use Rattle.std.proofs.Common.{refl}
use Rattle.bucket_store.specs.Items.{named_item}
use Rattle.bucket_store.specs.Views.{bucket_of}
use Rattle.interp_state.specs.Seen.{calls_in, item_in}
use Rattle.interp_state.proofs.Standing.{bucket_set, bucket_live, bucket_seen}
use Rattle.interp_state.proofs.asks.view_at.Goals as goal

pub bucket-requires-clause-at : goal.bucket-requires-clause-at
bucket-requires-clause-at g c = bucket_set c.args.store.now c.args.instance.now c.args.call.now c.args.c c.requires.held c.requires.stands

pub payload-requires : goal.payload-requires
payload-requires g c = bucket_live c.args.store.now c.args.instance.now c.args.call.now c.args.c c.requires.held c.requires.stands c.bucket.result c.bucket.ensures

pub returns : goal.returns
returns g c =
    λ view.
    let x = bucket_of c.payload.result in (
      named_item (item_in (calls_in view c.args.call.now) (c.bucket.result, x)),
      (bucket_seen c.args.store.now c.args.instance.now c.args.call.now c.args.c c.requires.held c.requires.stands c.bucket.result c.bucket.ensures x c.payload.ensures view, refl, refl),
    )
