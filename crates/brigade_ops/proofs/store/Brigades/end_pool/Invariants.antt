use Rattle.std.proofs.Common.{◌≡◌, ℕ, ◌+◌, ◌<◌, ◌≤◌, true, None, cond, drop}
use Rattle.std.specs.List.{list_any}
use Rattle.run_model.specs.Payloads.{is_brigade}
use Rattle.bucket_kinds.specs.Device.{Missing, is_there}
use Rattle.brigade_ops.specs.Files.{refs_in, is_let_go, SameButOpen}
use Rattle.bucket_ring.specs.Kept.{NoneRevived}
use Rattle.brigade_ops.specs.Store.{lists, brigade_of, pool_of, references, next_name}
use Rattle.brigade_ops.proofs.store.Brigades.end_pool.Given as goal

-- What is left to end makes of the store what all of it makes of the store that was.
abbrev pub invariant-loop-entry : goal.invariant-loop-entry
invariant-loop-entry g l = record {
  out : (n : ℕ) → cond (list_any (λ x. is_brigade n x.1) (drop l.entry-index l.handed)) None (lists l.self n) ≡ cond (list_any (λ x. is_brigade n x.1) l.handed) None (lists l.initial.self n);
  off : (n : ℕ) → cond (list_any (λ x. is_brigade n x.1) (drop l.entry-index l.handed)) None (pool_of l.self n) ≡ cond (list_any (λ x. is_brigade n x.1) l.handed) None (pool_of l.initial.self n);
  counted : (f : ℕ) → references l.self f + refs_in f l.handed ≡ references l.initial.self f + refs_in f (drop l.entry-index l.handed);
  closed : (f : ℕ) → cond (is_let_go (references l.self f) (refs_in f (drop l.entry-index l.handed))) Missing ((g.F.Files.device l.files).numbered f)
      ≡ cond (is_let_go (references l.initial.self f) (refs_in f l.handed)) Missing ((g.F.Files.device l.initial.files).numbered f);
  opened : (f : ℕ) → 0 < refs_in f (drop l.entry-index l.handed) → is_there ((g.F.Files.device l.files).numbered f) ≡ true;
  enough : (f : ℕ) → refs_in f (drop l.entry-index l.handed) ≤ references l.self f;
  others : SameButOpen (g.F.Files.device l.initial.files) (g.F.Files.device l.files);
  next : next_name l.self ≡ next_name l.initial.self;
  names : NoneRevived (brigade_of l.initial.self) (brigade_of l.self) (next_name l.initial.self);
  asked : l.self.asked ≡ l.initial.self.asked;
}
