-- Where a brigade goes, place by place.
use Rattle.std.proofs.Common.{◌≡◌, ℕ, suc, ◌+◌, ◌-◌, ◌<◌, ◌≤◌, Bool, true, false, List, length, Option, Some, None, refl, ap, ◌∙◌, arith}
use Rattle.std.specs.Prelude.{if◌then◌else◌}
use Rattle.module_code.specs.Program.{Program}
use Rattle.run_model.specs.Chains.{first_staying, place_from}
use Rattle.run_model.specs.State as model
use Rattle.bucket_store.specs.Items.{Items}
use Rattle.module_run.specs.declared.conn.Conn.{Conn}
use Rattle.module_run.specs.declared.conn.Filter.{Filter}
use Rattle.module_run.specs.Conns.{filter_at, lent_by, place_in, runs_of, shown_filter, shown_instance}

module _ (chain : List Program) (instances : ℕ → model.Instance) (k : ℕ) where
  here : k < length chain → (t : Bool) → (instances k).left ≡ t → place_from chain instances k ≡ (if t then place_from chain instances (k + 1) else k)
  unfolding place_from first_staying
  here lt t is =
      ap (λ (n : ℕ). first_staying instances n k) (let e : length chain - k ≡ suc (length chain - (k + 1)) = omega (arith, lt) in e)
      ∙ ap (λ (b : Bool). if b then first_staying instances (length chain - (k + 1)) (k + 1) else k) is

  past : length chain ≤ k → place_from chain instances k ≡ k
  unfolding place_from first_staying
  past le = ap (λ (n : ℕ). first_staying instances n k) (let e : length chain - k ≡ 0 = omega (arith, le) in e)

lent_left : (o : Option ℕ) (i : model.Instance) → (lent_by o i).left ≡ i.left
lent_left None i = refl
lent_left (Some b) i = refl

-- As a connection shows its filters.
module _ (chain : List Program) (rings : ℕ → Option Items) (c : Conn) (k : ℕ) (f : Filter) (is : filter_at c k ≡ Some f) (lt : k < length chain) where
  shown_left : (shown_filter (runs_of c) rings (filter_at c k)).left ≡ f.instance.left
  shown_left = ap (λ (o : Option Filter). (shown_filter (runs_of c) rings o).left) is ∙ lent_left f.lent (shown_instance (runs_of c) rings f.instance)

  pub place_behind : f.instance.left ≡ true → place_in chain rings c k ≡ place_in chain rings c (k + 1)
  place_behind gone = here chain (λ j. shown_filter (runs_of c) rings (filter_at c j)) k lt true (shown_left ∙ gone)

  pub place_here : f.instance.left ≡ false → place_in chain rings c k ≡ k
  place_here stays = here chain (λ j. shown_filter (runs_of c) rings (filter_at c j)) k lt false (shown_left ∙ stays)

pub place_past : (chain : List Program) (rings : ℕ → Option Items) (c : Conn) (k : ℕ) → length chain ≤ k → place_in chain rings c k ≡ k
place_past chain rings c k le = past chain (λ j. shown_filter (runs_of c) rings (filter_at c j)) k le
