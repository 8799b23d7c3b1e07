-- What a clear of a pool leaves and what goes with it.
use Rattle.std.proofs.Common.{◌≡◌, ◌≢◌, ℕ, Bool, true, false, not, cond, List, [], ◌∷◌, map, All, refl, sym, ◌∙◌, ap}
use Rattle.std.proofs.lemmas.List.Elements.{All-nil, All-cons, All-head, All-tail}
use Rattle.std.specs.List.{AllZip}
use Rattle.run_model.specs.declared.bucket.Brigade.{Brigade}
use Rattle.run_model.specs.declared.bucket.Kind.{Kind}
use Rattle.run_model.specs.declared.bucket.Kind.TheVariants as kind
use Rattle.run_model.specs.declared.bucket.Home.{Home}
use Rattle.run_model.specs.declared.bucket.Home.TheVariants as home
use Rattle.run_model.specs.declared.bucket.NamedBucket.{NamedBucket}
use Rattle.run_model.specs.declared.bucket.BrigadeVar.{BrigadeVar}
use Rattle.run_model.specs.declared.bucket.BrigadeVar.TheVariants as var
use Rattle.run_model.specs.declared.payload.Payload.{Payload}
use Rattle.run_model.specs.Pools.{Pools, is_empty, is_live, is_under, cleared, destroyed}
use Rattle.run_model.proofs.RunOrderLaws.{under_itself}
use Rattle.run_model.specs.Buckets.{end_pools, to_heap, cleared_bucket}
use Rattle.run_model.specs.Clearing.{is_reached, cleared_var, run_down}
use Rattle.run_model.specs.State.{Configuration, with_pools, items_of}
use Rattle.run_model.specs.Steps.{files_let_go}
use Rattle.run_model.specs.Sound.{brigade_pool}
use Rattle.model_laws.specs.Laws.{ClearsKeepOthers, lies_under, StandsApart, LeavesBucket, LeavesVar, TakesAlong, ClearsTakeAlong}
use Rattle.run_model.proofs.PoolMap.{cleared_apart, cleared_itself, cleared_under, cleared_payloads, cleared_next, destroyed_apart, destroyed_under, destroyed_next}

-- Pools.

destroyed_dies : {T : Type 0} (n : ℕ) (ps : Pools T) → is_under ps n n ≡ true → is_live (destroyed n ps) n ≡ false
unfolding is_live
destroyed_dies n ps under = ap (λ (path : List ℕ). not (is_empty path)) (destroyed_under n ps n under).0

pub clears_keep_others : ClearsKeepOthers
clears_keep_others n ps formed = (
  record {
    path = λ m apart. (cleared_apart n ps m apart).0;
    payloads = λ m apart. (cleared_apart n ps m apart).1;
    itself = cleared_itself n ps;
    empty = λ live. cleared_payloads n ps n (under_itself ps formed n live);
    under = λ m under ne. (cleared_under n ps m under ne, cleared_payloads n ps m under);
    names = cleared_next n ps;
  },
  record {
    path = λ m apart. (destroyed_apart n ps m apart).0;
    payloads = λ m apart. (destroyed_apart n ps m apart).1;
    itself = λ live. destroyed_dies n ps (under_itself ps formed n live);
    under = λ m under. destroyed_under n ps m under;
    names = destroyed_next n ps;
  },
)

-- One bucket.

home_apart : (reached : ℕ → Bool) (h : Home) (m : ℕ) → reached m ≡ true → end_pools reached h ≢ home.Pool m
home_apart reached home.Free m under e = cc
home_apart reached (home.Call n) m under e = cc
home_apart reached (home.Pool n) m under e = by_test (reached n) refl e where
  by_test : (b : Bool) → reached n ≡ b → cond b home.Ended (home.Pool n) ≡ home.Pool m → ⊥
  by_test true is e = cc
  by_test false is e = let same : n ≡ m = cc in let both : false ≡ true = sym is ∙ (ap reached same ∙ under) in cc
home_apart reached home.Ended m under e = cc

kind_apart : (reached : ℕ → Bool) (k : Kind) (m : ℕ) → reached m ≡ true → to_heap reached k ≢ kind.Pool m
kind_apart reached kind.Heap m under e = cc
kind_apart reached kind.Transient m under e = cc
kind_apart reached kind.Immortal m under e = cc
kind_apart reached (kind.Pool p) m under e = by_test (reached p) refl e where
  by_test : (b : Bool) → reached p ≡ b → cond b kind.Heap (kind.Pool p) ≡ kind.Pool m → ⊥
  by_test true is e = cc
  by_test false is e = let same : p ≡ m = cc in let both : false ≡ true = sym is ∙ (ap reached same ∙ under) in cc
kind_apart reached kind.File m under e = cc
kind_apart reached kind.Flush m under e = cc
kind_apart reached kind.Eos m under e = cc

same_home : (reached : ℕ → Bool) (h : Home) → ((m : ℕ) → reached m ≡ true → h ≢ home.Pool m) → end_pools reached h ≡ h
same_home reached home.Free apart = refl
same_home reached (home.Call n) apart = refl
same_home reached (home.Pool n) apart = by_test (reached n) refl where
  by_test : (b : Bool) → reached n ≡ b → cond b home.Ended (home.Pool n) ≡ home.Pool n
  by_test true is = absurd (apart n is refl)
  by_test false is = refl
same_home reached home.Ended apart = refl

same_kind : (reached : ℕ → Bool) (k : Kind) → ((m : ℕ) → reached m ≡ true → k ≢ kind.Pool m) → to_heap reached k ≡ k
same_kind reached kind.Heap apart = refl
same_kind reached kind.Transient apart = refl
same_kind reached kind.Immortal apart = refl
same_kind reached (kind.Pool p) apart = by_test (reached p) refl where
  by_test : (b : Bool) → reached p ≡ b → cond b kind.Heap (kind.Pool p) ≡ kind.Pool p
  by_test true is = absurd (apart p is refl)
  by_test false is = refl
same_kind reached kind.File apart = refl
same_kind reached kind.Flush apart = refl
same_kind reached kind.Eos apart = refl

same_bucket : (n : ℕ) (r : Configuration) (x : NamedBucket) → StandsApart r n x → cleared_bucket (is_under r.shared.pools n) x ≡ x
same_bucket n r x apart =
    let reached = is_under r.shared.pools n in
    let kept_home : end_pools reached x.bucket.home ≡ x.bucket.home = same_home reached x.bucket.home (λ m under. (apart m under).0) in
    let kept_kind : to_heap reached x.bucket.kind ≡ x.bucket.kind = same_kind reached x.bucket.kind (λ m under. (apart m under).1) in
    ap (λ (k : Kind). record x { bucket = record x.bucket { kind = k; home = end_pools reached x.bucket.home } }) kept_kind
    ∙ ap (λ (h : Home). record x { bucket = record x.bucket { home = h } }) kept_home

heap_there : (reached : ℕ → Bool) (k : Kind) (m : ℕ) → reached m ≡ true → k ≡ kind.Pool m → to_heap reached k ≡ kind.Heap
heap_there reached k m under is = ap (to_heap reached) is ∙ ap (λ b. cond b kind.Heap (kind.Pool m)) under

ended_there : (reached : ℕ → Bool) (h : Home) (m : ℕ) → reached m ≡ true → h ≡ home.Pool m → end_pools reached h ≡ home.Ended
ended_there reached h m under is = ap (end_pools reached) is ∙ ap (λ b. cond b home.Ended (home.Pool m)) under

bucket_left : (n : ℕ) (r : Configuration) (x : NamedBucket) → LeavesBucket r n x (cleared_bucket (is_under r.shared.pools n) x)
bucket_left n r x =
    let reached = is_under r.shared.pools n in
    record {
      name = refl;
      content = refl;
      same = same_bucket n r x;
      same_kind = same_kind reached x.bucket.kind;
      same_home = same_home reached x.bucket.home;
      heap = heap_there reached x.bucket.kind;
      ended = ended_there reached x.bucket.home;
    }

-- Lists of buckets.

all_apart : (n : ℕ) (r : Configuration) (xs : List NamedBucket) → All (StandsApart r n) (map (cleared_bucket (is_under r.shared.pools n)) xs)
all_apart n r [] = All-nil (StandsApart r n)
all_apart n r (x ∷ xs) = All-cons (StandsApart r n) _ _
    (λ m under. (home_apart (is_under r.shared.pools n) x.bucket.home m under, kind_apart (is_under r.shared.pools n) x.bucket.kind m under))
    (all_apart n r xs)

same_list : (n : ℕ) (r : Configuration) (xs : List NamedBucket) → All (StandsApart r n) xs → map (cleared_bucket (is_under r.shared.pools n)) xs ≡ xs
same_list n r [] apart = refl
same_list n r (x ∷ xs) apart =
    ap (λ (y : NamedBucket). y ∷ map (cleared_bucket (is_under r.shared.pools n)) xs) (same_bucket n r x (All-head (StandsApart r n) x xs apart))
    ∙ ap (λ (ys : List NamedBucket). x ∷ ys) (same_list n r xs (All-tail (StandsApart r n) x xs apart))

all_left : (n : ℕ) (r : Configuration) (xs : List NamedBucket) → AllZip (LeavesBucket r n) xs (map (cleared_bucket (is_under r.shared.pools n)) xs)
all_left n r [] = tt
all_left n r (x ∷ xs) = (bucket_left n r x, all_left n r xs)

-- Brigades.

var_gone : (reached : ℕ → Bool) (v : BrigadeVar) → is_reached reached (brigade_pool v) ≡ true → cleared_var reached v ≡ var.Gone
var_gone reached var.Null lies = absurd (cc)
var_gone reached var.Gone lies = refl
var_gone reached (var.Live v) lies = ap (λ b. cond b var.Gone (var.Live (record v { items = map (cleared_bucket reached) v.items }))) lies

var_left : (n : ℕ) (r : Configuration) (v : BrigadeVar) → lies_under r n v ≡ false → LeavesVar r n v (cleared_var (is_under r.shared.pools n) v)
var_left n r var.Null off = refl
var_left n r var.Gone off = refl
var_left n r (var.Live v) off =
    let left : Brigade = record v { items = map (cleared_bucket (is_under r.shared.pools n)) v.items } in
    (left, ap (λ b. cond b var.Gone (var.Live left)) off, record { name = refl; on = refl; mark = refl; items = all_left n r v.items })

var_apart : (n : ℕ) (r : Configuration) (v : BrigadeVar) → All (StandsApart r n) (items_of (cleared_var (is_under r.shared.pools n) v))
var_apart n r var.Null = All-nil (StandsApart r n)
var_apart n r var.Gone = All-nil (StandsApart r n)
var_apart n r (var.Live v) = by_test (is_reached (is_under r.shared.pools n) v.on) where
  by_test : (b : Bool) → All (StandsApart r n) (items_of (cond b var.Gone (var.Live (record v { items = map (cleared_bucket (is_under r.shared.pools n)) v.items }))))
  by_test true = All-nil (StandsApart r n)
  by_test false = all_apart n r v.items

var_same : (n : ℕ) (r : Configuration) (v : BrigadeVar) → lies_under r n v ≡ false → All (StandsApart r n) (items_of v) → cleared_var (is_under r.shared.pools n) v ≡ v
var_same n r var.Null off apart = refl
var_same n r var.Gone off apart = refl
var_same n r (var.Live v) off apart =
    ap (λ b. cond b var.Gone (var.Live (record v { items = map (cleared_bucket (is_under r.shared.pools n)) v.items }))) off
    ∙ ap (λ (xs : List NamedBucket). var.Live (record v { items = xs })) (same_list n r v.items apart)

-- Runs.

run_down_takes : (n : ℕ) (r : Configuration) (ps : Pools Payload) → TakesAlong n r (files_let_go n r (with_pools ps (run_down n r)))
unfolding with_pools run_down
run_down_takes n r ps = record {
  gone = λ b lies. var_gone (is_under r.shared.pools n) (r.instance.brigades b) lies;
  kept = λ b off. var_left n r (r.instance.brigades b) off;
  apart = λ b. var_apart n r (r.instance.brigades b);
  others = λ b off apart. var_same n r (r.instance.brigades b) off apart;
  loose = (all_apart n r r.call.loose, all_left n r r.call.loose);
  call = refl;
  labels = refl;
}

pub clears_take_along : ClearsTakeAlong
clears_take_along n r = (run_down_takes n r (cleared n r.shared.pools), run_down_takes n r (destroyed n r.shared.pools))
