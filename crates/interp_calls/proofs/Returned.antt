-- What a bucket reads as once a call has returned.
use Rattle.std.proofs.Common.{◌≡◌, ℕ, Bool, true, false, ◌&&◌, not, nat_lt, ◌==◌, cond, List, [], ◌∷◌, map, Option, Some, None, refl, sym, ap, ◌∙◌}
use Rattle.run_model.specs.declared.bucket.Bucket.{Bucket}
use Rattle.run_model.specs.declared.bucket.NamedBucket.{NamedBucket}
use Rattle.run_model.specs.declared.bucket.Home.{Home}
use Rattle.run_model.specs.declared.bucket.Home.TheVariants as home
use Rattle.run_model.specs.declared.bucket.BrigadeVar.{BrigadeVar}
use Rattle.run_model.specs.Buckets.{end_call, returned_bucket}
use Rattle.run_model.specs.Effects.{returned_var}
use Rattle.bucket_store.specs.Items.{Items, Item, named_item}
use Rattle.interp_state.specs.declared.machine.Slot.{Slot}
use Rattle.interp_state.specs.declared.machine.Slot.TheVariants as slot
use Rattle.interp_state.specs.Seen.{home_in, item_in, shown, shown_as, shown_slot}

-- The same calls run, but for one.
abbrev pub RunsWithout : (ℕ → Bool) → (ℕ → Bool) → ℕ → Type 0
RunsWithout old new name = (n : ℕ) → new n ≡ (old n && not (n == name))

module _ (old new : ℕ → Bool) (name : ℕ) (gone : RunsWithout old new name) where
  pub returned_home : (birth : ℕ) (h : Home) → home_in new birth h ≡ end_call name (home_in old birth h)
  returned_home birth home.Free = refl
  returned_home birth (home.Pool n) = refl
  returned_home birth home.Ended = refl
  returned_home birth (home.Call n) = ap (λ t. cond (t && nat_lt n birth) (home.Call n) home.Ended) (gone n) ∙ go (old n) (nat_lt n birth) (n == name) refl where
    go : (t u v : Bool) → (n == name) ≡ v → cond ((t && not v) && u) (home.Call n) home.Ended ≡ end_call name (cond (t && u) (home.Call n) home.Ended)
    go true true true e = sym (ap (λ b. cond b home.Ended (home.Call n)) e)
    go true true false e = sym (ap (λ b. cond b home.Ended (home.Call n)) e)
    go true false true e = refl
    go true false false e = refl
    go false u v e = refl

  pub returned_item : (x : Item) → named_item (item_in new x) ≡ returned_bucket name (named_item (item_in old x))
  returned_item x = ap (λ (h : Home). let y : Bucket = record x.1 { home = h } in named_item (x.0, y)) (returned_home x.0.birth x.1.home)

  pub returned_items : (xs : Items) → shown new xs ≡ map (returned_bucket name) (shown old xs)
  returned_items [] = refl
  returned_items (x ∷ xs) = ap (λ (b : NamedBucket). b ∷ shown new xs) (returned_item x) ∙ ap (λ (bs : List NamedBucket). returned_bucket name (named_item (item_in old x)) ∷ bs) (returned_items xs)

  -- a variable whose brigade is as it was
  pub returned_slot : (L M : ℕ → Option Items) (s : Slot) → ((n : ℕ) (pool : Option ℕ) (mark : Rattle.run_model.specs.declared.bucket.Mark.Mark) → s ≡ slot.Made n pool mark → M n ≡ L n)
      → shown_slot new M s ≡ returned_var name (shown_slot old L s)
  returned_slot L M slot.Null same = refl
  returned_slot L M (slot.Made n pool mark) same = ap (shown_as new n pool mark) (same n pool mark refl) ∙ go (L n) where
    go : (o : Option Items) → shown_as new n pool mark o ≡ returned_var name (shown_as old n pool mark o)
    go None = refl
    go (Some xs) = ap (λ (items : List NamedBucket). shown_with items) (returned_items xs) where
      shown_with : List NamedBucket → BrigadeVar
      shown_with items = Rattle.run_model.specs.declared.bucket.BrigadeVar.TheVariants.Live (record { name = n; on = pool; mark = mark; items = items })
