-- A reference is noted where a file is named; where the room for it is refused, or no file is named, the store stays as it was.
use Rattle.std.proofs.Common.{◌≡◌, ℕ, Option, refl, sym, subst}
use Rattle.std.specs.Prelude.{OnOk}
use Rattle.pool_tree.proofs.Trees.{tree_formed}
use Rattle.bucket_store.specs.Items.{count_for}
use Rattle.bucket_store.specs.BucketStore.{seen}
use Rattle.brigade_ops.specs.Store.{lists, brigade_of, bucket_at, pool_of, next_name, references}
use Rattle.brigade_ops.proofs.store.Brigades.refer_for.Goals as goal

pub returns-in_err-make_room-in-Some-clause-lists : goal.returns-in_err-make_room-in-Some-clause-lists
unfolding seen lists
returns-in_err-make_room-in-Some-clause-lists g c = refl

pub returns-in_err-make_room-in-Some-clause-buckets : goal.returns-in_err-make_room-in-Some-clause-buckets
unfolding seen bucket_at
returns-in_err-make_room-in-Some-clause-buckets g c = refl

pub returns-in_err-make_room-in-Some-clause-brigades : goal.returns-in_err-make_room-in-Some-clause-brigades
unfolding brigade_of
returns-in_err-make_room-in-Some-clause-brigades g c = refl

pub returns-in_err-make_room-in-Some-clause-pools : goal.returns-in_err-make_room-in-Some-clause-pools
unfolding pool_of
returns-in_err-make_room-in-Some-clause-pools g c = refl

pub returns-in_err-make_room-in-Some-clause-next : goal.returns-in_err-make_room-in-Some-clause-next
unfolding next_name
returns-in_err-make_room-in-Some-clause-next g c = refl

pub returns-in_err-make_room-in-Some-clause-names : goal.returns-in_err-make_room-in-Some-clause-names
unfolding brigade_of next_name
returns-in_err-make_room-in-Some-clause-names g c id there young = there

pub returns-in_err-make_room-in-Some-clause-formed : goal.returns-in_err-make_room-in-Some-clause-formed
returns-in_err-make_room-in-Some-clause-formed g c = tree_formed c.args.tree.now

pub returns-in_err-make_room-in-Some-clause-house : goal.returns-in_err-make_room-in-Some-clause-house
unfolding seen lists pool_of references
returns-in_err-make_room-in-Some-clause-house g c house = house

pub returns-in_ok-make_room-in-Some-clause-counted : goal.returns-in_ok-make_room-in-Some-clause-counted
unfolding references
returns-in_ok-make_room-in-Some-clause-counted g c =
    subst (λ (file : Option ℕ). OnOk c.refer.result ((f : ℕ) → references c.refer.new.self f ≡ count_for f file (references c.args.self.now f))) (sym c.in-Some.is) c.refer.ensures.counted

pub returns-in_ok-make_room-in-Some-clause-lists : goal.returns-in_ok-make_room-in-Some-clause-lists
unfolding seen lists
returns-in_ok-make_room-in-Some-clause-lists g c = c.refer.ensures.lists

pub returns-in_ok-make_room-in-Some-clause-buckets : goal.returns-in_ok-make_room-in-Some-clause-buckets
unfolding seen bucket_at
returns-in_ok-make_room-in-Some-clause-buckets g c = c.refer.ensures.buckets

pub returns-in_ok-make_room-in-Some-clause-brigades : goal.returns-in_ok-make_room-in-Some-clause-brigades
unfolding brigade_of
returns-in_ok-make_room-in-Some-clause-brigades g c = c.refer.ensures.brigades

pub returns-in_ok-make_room-in-Some-clause-pools : goal.returns-in_ok-make_room-in-Some-clause-pools
unfolding pool_of
returns-in_ok-make_room-in-Some-clause-pools g c = c.refer.ensures.pools

pub returns-in_ok-make_room-in-Some-clause-next : goal.returns-in_ok-make_room-in-Some-clause-next
unfolding next_name
returns-in_ok-make_room-in-Some-clause-next g c = c.refer.ensures.next

pub returns-in_ok-make_room-in-Some-clause-names : goal.returns-in_ok-make_room-in-Some-clause-names
unfolding brigade_of next_name
returns-in_ok-make_room-in-Some-clause-names g c = c.refer.ensures.names

pub returns-in_ok-make_room-in-Some-clause-uncounted : goal.returns-in_ok-make_room-in-Some-clause-uncounted
unfolding references
returns-in_ok-make_room-in-Some-clause-uncounted g c = c.refer.ensures.uncounted

pub returns-in_ok-make_room-in-Some-clause-house : goal.returns-in_ok-make_room-in-Some-clause-house
unfolding seen lists pool_of references
returns-in_ok-make_room-in-Some-clause-house g c = c.refer.ensures.house

pub returns-in-None-clause-formed : goal.returns-in-None-clause-formed
returns-in-None-clause-formed g c = tree_formed c.args.tree.now
