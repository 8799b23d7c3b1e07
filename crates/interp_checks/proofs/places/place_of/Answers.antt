-- What is in the cursor tells where it stands.
use Rattle.std.proofs.Common.{sym, ◌∙◌}
use Rattle.brigade_ops.specs.Store.{lists}
use Rattle.interp_state.proofs.Standing.{bucket_told, end_told, unset_told}
use Rattle.interp_checks.proofs.places.place_of.Goals as goal

pub returns-in-Unset-clause-at : goal.returns-in-Unset-clause-at
returns-in-Unset-clause-at g c next view = unset_told (lists c.args.store.now) next view c.args.instance.now c.args.call.now c.args.c (sym c.cursor.ensures ∙ c.in-Unset.is)

pub returns-in-At-clause-at : goal.returns-in-At-clause-at
returns-in-At-clause-at g c next view =
    c.bucket_place.ensures.at next view ∙ bucket_told (lists c.args.store.now) next view c.args.instance.now c.args.call.now c.args.c c.in-At.id (sym c.cursor.ensures ∙ c.in-At.is)

pub returns-in-Some-clause-at : goal.returns-in-Some-clause-at
returns-in-Some-clause-at g c next view =
    end_told (lists c.args.store.now) next view c.args.instance.now c.args.call.now c.args.c c.in-End.name _ (sym c.cursor.ensures ∙ c.in-End.is)
    (sym (c.end_place.ensures.at next view c.args.call.now) ∙ c.in-Some.is)

pub returns-in-None-clause-at : goal.returns-in-None-clause-at
returns-in-None-clause-at g c next view =
    end_told (lists c.args.store.now) next view c.args.instance.now c.args.call.now c.args.c c.in-End.name _ (sym c.cursor.ensures ∙ c.in-End.is)
    (sym (c.end_place.ensures.at next view c.args.call.now) ∙ c.in-None.is)
