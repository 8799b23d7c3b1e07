-- What is left to do makes of the store what all of it makes of the store that was.
use Rattle.std.proofs.Common.{◌≡◌, ℕ, drop}
use Rattle.std.specs.Option.{option_map}
use Rattle.bucket_store.specs.Morphs.{all_morphed}
use Rattle.brigade_ops.specs.OnlyLists.{OnlyLists}
use Rattle.brigade_ops.specs.Store.{lists}
use Rattle.brigade_ops.proofs.store.Brigades.apply_found.Given as goal

abbrev pub invariant-loop-morph : goal.invariant-loop-morph
invariant-loop-morph g l = record {
  out : (n : ℕ) → option_map (all_morphed (drop l.morph-index l.fn.found)) (lists l.self n) ≡ option_map (all_morphed l.fn.found) (lists l.initial.self n);
  others : OnlyLists l.initial.self l.self;
}
