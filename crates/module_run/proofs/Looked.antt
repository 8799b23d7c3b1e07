-- What is read at a place of the filters, and of the chain.
use Rattle.std.proofs.Common.{◌≡◌, ◌≢◌, ◌==◌, ◌&&◌, ◌||◌, nat_le, Bool, ℕ, zero, suc, ◌<◌, List, [], ◌∷◌, length, set, Some, refl, ap, subst, ◌∙◌, arith}
use Rattle.std.specs.Prelude.{slice_get, slice_index_or}
use Rattle.std.specs.List.{list_any}
use Rattle.std.proofs.lemmas.Option.{get_or_from_slice_get, slice_get_read}
use Rattle.module_code.specs.Program.{Program}
use Rattle.run_model.specs.Chains.{module_at}
use Rattle.module_run.specs.declared.conn.Conn.{Conn}
use Rattle.module_run.specs.declared.conn.Filter.{Filter}
use Rattle.module_run.specs.CalledFirst.{CallStarts}
use Rattle.module_run.specs.CalledMain.{StartsWith}
use Rattle.run_model.specs.Pieces.{has_range}
use Rattle.module_run.specs.declared.conn.OpenFile.{OpenFile}
use Rattle.module_run.specs.Conns.{filter_at, lengths}

pub some_same : {X : Type 0} (a b : X) → Some a ≡ Some b → a ≡ b
some_same a b e = cc

-- the module at a place of the chain, and the filter
pub read_module : (chain : List Program) (k : ℕ) (p : Program) → k < length chain → p ≡ slice_index_or chain k p → module_at chain k ≡ p
unfolding module_at
read_module chain k p within is = get_or_from_slice_get chain k p _ (slice_get_read chain (length chain) k p refl within is)

pub read_filter : (c : Conn) (k : ℕ) (f : Filter) → k < length c.filters.items → f ≡ slice_index_or c.filters.items k f → filter_at c k ≡ Some f
unfolding filter_at
read_filter c k f within is = slice_get_read c.filters.items (length c.filters.items) k f refl within is

-- what is read of a list whose first item was set
pub set_first : {X : Type 0} (xs : List X) (x : X) → 0 < length xs → slice_get (set xs 0 x) 0 ≡ Some x
set_first [] x within = absurd (omega (arith, within))
set_first (y ∷ ys) x within = refl

pub set_later : {X : Type 0} (xs : List X) (x : X) (k : ℕ) → k ≢ 0 → slice_get (set xs 0 x) k ≡ slice_get xs k
set_later [] x k ne = refl
set_later (y ∷ ys) x zero ne = absurd (ne refl)
set_later (y ∷ ys) x (suc k) ne = refl

pub starts_as : (name pc at : ℕ) (g f e : Filter) → pc ≡ at → g ≡ f → CallStarts name pc g e → CallStarts name at f e
starts_as name pc at g f e same is s = record {
  instance = s.instance ∙ ap (λ (x : Filter). x.instance) is;
  lent = s.lent ∙ ap (λ (x : Filter). x.lent) is;
  named = s.named;
  cursors = s.cursors;
  buffer = s.buffer;
  at = s.at ∙ same;
}

-- a file of the request, by its number and length
pub any_lengths : (files : List OpenFile) (file end : ℕ) → list_any (λ f. f.number == file && nat_le end f.len) files ≡ has_range (lengths files) file end
any_lengths [] file end = refl
any_lengths (f ∷ fs) file end = ap (λ (t : Bool). (f.number == file && nat_le end f.len) || t) (any_lengths fs file end)

pub starts_with : (name brigade pc at : ℕ) (g f e : Filter) → pc ≡ at → g ≡ f → StartsWith name brigade pc g e → StartsWith name brigade at f e
starts_with name brigade pc at g f e same is s =
    subst (λ (x : Filter). StartsWith name brigade at x e) is (subst (λ (n : ℕ). StartsWith name brigade n g e) same s)
