-- By the brigades that were made, the second of the pieces' buckets.
use Rattle.std.proofs.Common.{ℕ, ◌+◌, List, map, ap, ◌∙◌}
use Rattle.std.specs.List.{list_all}
use Rattle.bucket_ring.specs.Lists.{numbered}
use Rattle.bucket_kinds.specs.declared.stored.Stored.{Stored}
use Rattle.run_model.specs.Pieces.{bucket_of}
use Rattle.brigade_ops.specs.Store.{next_name}
use Rattle.bucket_store.specs.Shown.{is_own, own_bucket}
use Rattle.bucket_store.proofs.Models.{lists_are_the_models}
use Rattle.bucket_store.proofs.Placing.{all_own, own_shown}
use Rattle.module_run.proofs.conn_bring.call_and_brigade.Goals as goal

pub loose_pair-requires : goal.loose_pair-requires
loose_pair-requires g c =
    ap (λ (xs : List Stored). list_all is_own xs) c.in_ok-buckets.ensures ∙ all_own (bucket_of c.next_name.result c.args.req) c.args.pieces

pub returns-in-Ok-clause-rings : goal.returns-in-Ok-clause-rings
returns-in-Ok-clause-rings g c =
    let next = next_name c.args.store.now in
    let make = bucket_of next c.args.req in
    let done = c.in-Ok.ensures.ok in (
      done.0,
      (
        lists_are_the_models.brought make (next + 2) c.args.pieces done.0 (done.1
            ∙ ap (numbered (next + 2)) (ap (λ (xs : List Stored). map own_bucket xs) c.in_ok-buckets.ensures
            ∙ (own_shown (bucket_of c.next_name.result c.args.req) c.args.pieces ∙ ap (λ (n : ℕ). map (bucket_of n c.args.req) c.args.pieces) c.next_name.ensures))),
        done.2,
      ),
    )
