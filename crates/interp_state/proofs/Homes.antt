-- A home that has not ended reads the same for a younger bucket.
use Rattle.std.proofs.Common.{◌≡◌, ℕ, ◌≤◌, Bool, true, false, ◌&&◌, nat_lt, None, Some, refl, sym, ap, arith}
use Rattle.std.specs.Prelude.{if◌then◌else◌}
use Rattle.std.proofs.lemmas.Bool.{lt-ltb, ltb-true, false≢true}
use Rattle.run_model.specs.declared.bucket.Bucket.{Bucket}
use Rattle.run_model.specs.declared.bucket.NamedBucket.{NamedBucket}
use Rattle.run_model.specs.declared.bucket.Home.{Home}
use Rattle.run_model.specs.declared.bucket.Home.TheVariants as home
use Rattle.run_model.specs.Buckets.{is_ended, is_dead}
use Rattle.run_model.specs.Faults.{home_fault}
use Rattle.interp_state.specs.Seen.{home_in, bucket_in}

pub home_later : (runs : ℕ → Bool) (a b : ℕ) (h : Home) → is_ended (home_in runs a h) ≡ false → a ≤ b → home_in runs b h ≡ home_in runs a h
home_later runs a b home.Free alive older = refl
home_later runs a b (home.Pool n) alive older = refl
home_later runs a b home.Ended alive older = refl
home_later runs a b (home.Call n) alive older = go (runs n) (nat_lt n a) refl alive where
  go : (t u : Bool) → nat_lt n a ≡ u → is_ended (if t && u then home.Call n else home.Ended) ≡ false
      → (if t && nat_lt n b then home.Call n else home.Ended) ≡ (if t && u then home.Call n else home.Ended)
  go true true young alive = ap (λ (v : Bool). if v then home.Call n else home.Ended) (lt-ltb n b (let y = ltb-true n a young in omega (arith, y, older)))
  go true false young alive = absurd (false≢true (sym alive))
  go false u young alive = refl

pub bucket_later : (runs : ℕ → Bool) (a b : ℕ) (x : Bucket) → is_ended (home_in runs a x.home) ≡ false → a ≤ b → bucket_in runs b x ≡ bucket_in runs a x
bucket_later runs a b x alive older = ap (λ (h : Home). let y : Bucket = record x { home = h } in y) (home_later runs a b x.home alive older)

pub not_dead : (y : NamedBucket) → home_fault (Some y) ≡ None → is_dead y ≡ false
not_dead y none = go (is_dead y) refl none where
  go : (t : Bool) → is_dead y ≡ t → (if t then Some Rattle.run_model.specs.declared.fault.FaultKind.TheVariants.F5 else None) ≡ None → is_dead y ≡ false
  go true dead e = absurd (cc)
  go false live e = live
