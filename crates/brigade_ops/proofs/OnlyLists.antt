-- Changes of a store's lists alone, one after another.
use Rattle.std.proofs.Common.{refl, ◌∙◌, arith}
use Rattle.bucket_ring.specs.declared.rings.Rings.{Ghosts}
use Rattle.bucket_ring.specs.Laws.{none_revived_twice}
use Rattle.bucket_kinds.specs.declared.stored.Stored.{Stored}
use Rattle.brigade_ops.specs.declared.store.Brigades.{Brigades}
use Rattle.brigade_ops.specs.OnlyLists.{OnlyLists}
use Rattle.brigade_ops.specs.Store.{brigade_of, next_name}

module _ {R : Type 0} {g : Ghosts R Stored} where
  pub only_none : (s : Brigades R g) → OnlyLists s s
  only_none s = record { next = refl; names = λ id there young. there; pools = refl; references = refl; unasked = refl }

  pub only_twice : {a b c : Brigades R g} → OnlyLists a b → OnlyLists b c → OnlyLists a c
  only_twice {a = a} {b = b} {c = c} first second = record {
    next = second.next ∙ first.next;
    names = none_revived_twice (brigade_of a) (brigade_of b) (brigade_of c) (next_name a) (next_name b) (omega (arith, first.next)) first.names second.names;
    pools = second.pools ∙ first.pools;
    references = second.references ∙ first.references;
    unasked = second.unasked ∙ first.unasked;
  }
