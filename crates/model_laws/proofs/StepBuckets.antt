-- Steps and events keep the home and the content of each bucket as its kind has them.
use Rattle.std.proofs.Common.{◌≡◌, ◌≢◌, ℕ, ◌+◌, Bool, true, false, ◌==◌, cond, List, [], ◌∷◌, refl, sym, ◌∙◌, subst, All}
use Rattle.std.proofs.lemmas.List.Elements.{All-nil, All-cons}
use Rattle.run_model.specs.declared.bucket.Kind.{Kind}
use Rattle.run_model.specs.declared.bucket.Kind.TheVariants as kind
use Rattle.run_model.specs.declared.bucket.Content.{Content}
use Rattle.run_model.specs.declared.bucket.Content.TheVariants as content
use Rattle.run_model.specs.declared.bucket.Home.{Home}
use Rattle.run_model.specs.declared.bucket.Home.TheVariants as home
use Rattle.run_model.specs.declared.bucket.NamedBucket.{NamedBucket}
use Rattle.run_model.specs.declared.bucket.BrigadeVar.{BrigadeVar}
use Rattle.run_model.specs.declared.event.Piece.{Piece}
use Rattle.run_model.specs.declared.event.Piece.TheVariants as piece
use Rattle.run_model.specs.Buckets.{end_call, end_pools, to_heap, returned_bucket, cleared_bucket}
use Rattle.run_model.specs.declared.payload.Payload.{Payload}
use Rattle.run_model.specs.Cutting.{set_aside, LivesAs, FitsKind, form_of, form_of_kind, front_of, rest_of}
use Rattle.run_model.specs.Pools.{Pools, destroyed}
use Rattle.run_model.specs.State.{Configuration, items_of}
use Rattle.run_model.specs.Steps.{pool_destroyed, is_above, aside_named}
use Rattle.run_model.specs.Pieces.{bucket_of, named_from}
use Rattle.run_model.specs.Sound.{SoundBuckets}
use Rattle.model_laws.specs.Laws.{StepKeepsBuckets}
use Rattle.model_laws.proofs.Origins.{HoldsNamed, parts_descend}
use Rattle.model_laws.proofs.EachStep.{emptied_holds, each_step}

-- One bucket.

-- a home that is not free may end
ends_too : (k : Kind) (h : Home) → h ≢ home.Free → LivesAs k h → LivesAs k home.Ended
ends_too kind.Transient h ne e = tt
ends_too kind.File h ne e = tt
ends_too k home.Free ne e = absurd (ne refl)
ends_too k h ne e = absurd e

home_call : (call : ℕ) (k : Kind) (h : Home) → LivesAs k h → LivesAs k (end_call call h)
home_call call k (home.Call n) e = by_test (n == call) where
  by_test : (b : Bool) → LivesAs k (cond b home.Ended (home.Call n))
  by_test true = ends_too k (home.Call n) (λ q. cc) e
  by_test false = e
home_call call k h e = e

home_pools : (reached : ℕ → Bool) (k : Kind) (h : Home) → LivesAs k h → LivesAs k (end_pools reached h)
home_pools reached k (home.Pool n) e = by_test (reached n) where
  by_test : (b : Bool) → LivesAs k (cond b home.Ended (home.Pool n))
  by_test true = ends_too k (home.Pool n) (λ q. cc) e
  by_test false = e
home_pools reached k h e = e

-- a POOL bucket that becomes HEAP lies in memory as before, and depends on nothing
heap_fits : (reached : ℕ → Bool) (k : Kind) (c : Content) (h : Home) → FitsKind (record { kind = k; content = c; home = h }) → FitsKind (record { kind = to_heap reached k; content = c; home = h })
heap_fits reached (kind.Pool p) c h e = by_test (reached p) where
  by_test : (b : Bool) → FitsKind (record { kind = cond b kind.Heap (kind.Pool p); content = c; home = h })
  by_test true = record { holds = e.holds; lives = e.lives }
  by_test false = e
heap_fits reached k c h e = e

abbrev pub IsProper : NamedBucket → Type 0
IsProper x = FitsKind x.bucket

pub returned_proper : (call : ℕ) (b : NamedBucket) → IsProper b → IsProper (returned_bucket call b)
returned_proper call b e = record { holds = e.holds; lives = home_call call b.bucket.kind b.bucket.home e.lives }

pub cleared_proper : (reached : ℕ → Bool) (b : NamedBucket) → IsProper b → IsProper (cleared_bucket reached b)
cleared_proper reached b e =
    heap_fits reached b.bucket.kind b.bucket.content (end_pools reached b.bucket.home) (record { holds = e.holds; lives = home_pools reached b.bucket.kind b.bucket.home e.lives })

-- Lists and variables.

abbrev pub ProperList : List NamedBucket → Type 0
ProperList xs = All IsProper xs

pub none_proper : ProperList []
none_proper = All-nil IsProper

-- the buckets of brought pieces
piece_proper : (call req : ℕ) (x : Piece) → FitsKind (bucket_of call req x)
piece_proper call req x = record { holds = holds x; lives = lives x } where
  holds : (x : Piece) → form_of (bucket_of call req x).content ≡ form_of_kind (bucket_of call req x).kind
  holds (piece.File file start len) = refl
  holds x = refl

  lives : (x : Piece) → LivesAs (bucket_of call req x).kind (bucket_of call req x).home
  lives (piece.File file start len) = tt
  lives x = tt

pub named_proper : (call req n : ℕ) (xs : List Piece) → ProperList (named_from (bucket_of call req) n xs)
named_proper call req n [] = All-nil IsProper
named_proper call req n (x ∷ xs) = All-cons IsProper _ (named_from (bucket_of call req) (n + 1) xs) (piece_proper call req x) (named_proper call req (n + 1) xs)

pub held_buckets : (r : Configuration) → HoldsNamed IsProper r → SoundBuckets r
held_buckets r h = record { brigades = h.brigades; loose = h.loose }

pub buckets_held : (r : Configuration) → SoundBuckets r → HoldsNamed IsProper r
buckets_held r s = record { brigades = s.brigades; loose = s.loose }

-- where each variable keeps its buckets proper, and the loose ones stay or go
pub keeps_buckets : (r new : Configuration)
    → ((b : ℕ) → ProperList (items_of (r.instance.brigades b)) → ProperList (items_of (new.instance.brigades b)))
    → (ProperList r.call.loose → ProperList new.call.loose) → SoundBuckets r → SoundBuckets new
keeps_buckets r new slots loose s = record { brigades = λ b. slots b (s.brigades b); loose = loose s.loose }

-- a bucket that is set aside, of its parts
aside_parts : (target : ℕ) (above : Bool) (k : Kind) (c : Content) (h : Home) → FitsKind (record { kind = k; content = c; home = h })
    → FitsKind (set_aside target above (record { kind = k; content = c; home = h }))
aside_parts target above kind.Transient c h e = record { holds = e.holds; lives = tt }
aside_parts target true kind.File c h e = e
aside_parts target false kind.File c h e = record { holds = e.holds; lives = tt }
aside_parts target above k c h e = e

pub aside_proper : (ps : Pools Payload) (target : ℕ) (x : NamedBucket) → IsProper x → IsProper (aside_named ps target x)
aside_proper ps target x e = aside_parts target (is_above ps target x.bucket.home) x.bucket.kind x.bucket.content x.bucket.home e

pub same_buckets : (r new : Configuration) → new.instance.brigades ≡ r.instance.brigades → new.call.loose ≡ r.call.loose → SoundBuckets r → SoundBuckets new
same_buckets r new brigades loose s = record {
  brigades = λ b. subst (λ (g : ℕ → BrigadeVar). ProperList (items_of (g b))) (sym brigades) (s.brigades b);
  loose = subst ProperList (sym loose) s.loose;
}

pub destroyed_buckets : (n : ℕ) (r : Configuration) → SoundBuckets r → SoundBuckets (pool_destroyed n r)
destroyed_buckets n r s = held_buckets _ (emptied_holds IsProper r (buckets_held r s) cleared_proper (destroyed n r.shared.pools) n)

-- Content and home fit the kind of each part of a bucket, and of those that are made.

front_form : (n : ℕ) (c : Content) → form_of (front_of n c) ≡ form_of c
front_form n (content.Bytes bs) = refl
front_form n (content.Range file start len) = refl
front_form n content.Nothing = refl

rest_form : (n : ℕ) (c : Content) → form_of (rest_of n c) ≡ form_of c
rest_form n (content.Bytes bs) = refl
rest_form n (content.Range file start len) = refl
rest_form n content.Nothing = refl

pub step_buckets : StepKeepsBuckets
step_buckets p choice i r may s = held_buckets _ (each_step IsProper r (buckets_held r s) p choice i (record {
  descends = parts_descend FitsKind r.shared.next (record {
    front = λ n b le e. record { holds = front_form n b.content ∙ e.holds; lives = e.lives };
    rest = λ n b le e. record { holds = rest_form n b.content ∙ e.holds; lives = e.lives };
  });
  made = λ b new put. new.fits;
  reads = λ c bytes is x e. record { holds = refl; lives = tt };
  cleared = cleared_proper;
  aside = aside_proper;
  returned = λ on. returned_proper r.call.name;
}))
