-- Buckets that are set aside, read, and let go with their files.
use Rattle.std.proofs.Common.{◌≡◌, ℕ, ◌+◌, ◌-◌, ◌<◌, Bool, true, false, ◌&&◌, not, cond, List, [], ◌∷◌, ◌++◌, append-nil, take, drop, ◌⊎◌, inl, inr, Option, Some, None, nat_le, min, ◌==◌, eqb-true}
use Rattle.std.proofs.Common.{subst, refl, sym, ◌∙◌, ap, arith}
use Rattle.std.proofs.lemmas.List.{drop-drop, drop-take, length-take, take-append-drop, take_all}
use Rattle.std.proofs.lemmas.Bool.{cases_lt, or_cases}
use Rattle.std.proofs.lemmas.Bool.Decides.{nat_tests}
use Rattle.run_model.specs.declared.bucket.Kind.{Kind}
use Rattle.run_model.specs.declared.bucket.Kind.TheVariants as kind
use Rattle.run_model.specs.declared.bucket.Content.{Content}
use Rattle.run_model.specs.declared.bucket.Content.TheVariants as content
use Rattle.run_model.specs.declared.bucket.Home.{Home}
use Rattle.run_model.specs.declared.bucket.Home.TheVariants as home
use Rattle.run_model.specs.declared.bucket.Bucket.{Bucket}
use Rattle.run_model.specs.declared.bucket.NamedBucket.{NamedBucket}
use Rattle.run_model.specs.declared.payload.Payload.{Payload}
use Rattle.run_model.specs.Pools.{Pools, is_in, is_live, is_under, cleared, destroyed}
use Rattle.run_model.specs.RunOrder.{IsPoolMap}
use Rattle.run_model.specs.Buckets.{is_dead, is_ended}
use Rattle.run_model.specs.Cutting.{read_limit, rest_of, wanted, set_aside, read_as, IsFree, IsOfPool, LivesAs}
use Rattle.run_model.specs.Files.{is_referred}
use Rattle.run_model.specs.Clearing.{run_down}
use Rattle.run_model.specs.State.{Configuration, with_pools}
use Rattle.run_model.specs.Steps.{is_above, files_let_go}
use Rattle.model_laws.specs.Laws.{MatchHome, KeptAside, AsideLasts, bytes_in, is_range, bytes_of_rest, ReadsDropNothing, hands_on, FilesGo, FilesCloseLast}
use Rattle.run_model.proofs.Formed.{path_live}

-- Setting aside.

-- what depends on nothing lasts
free_lasts : (C P : ℕ → Type 0) (h : Home) → IsFree h → MatchHome h C P
free_lasts C P home.Free e = tt
free_lasts C P (home.Call n) e = absurd e
free_lasts C P (home.Pool n) e = absurd e
free_lasts C P home.Ended e = absurd e

-- a FILE bucket that stays as it is has its home at the target or above it
above_lasts : (ps : Pools Payload) (target : ℕ) (h : Home) → is_ended h ≡ false → IsOfPool h → is_above ps target h ≡ true
    → MatchHome h (λ call. ⊥) (λ p. (p ≡ target) ⊎ (is_under ps p target ≡ true))
above_lasts ps target home.Free live fit above = tt
above_lasts ps target (home.Call n) live fit above = absurd fit
above_lasts ps target (home.Pool n) live fit above = inr above
above_lasts ps target home.Ended live fit above = tt

-- a pool above a live one is live
above_lives : (ps : Pools Payload) → IsPoolMap ps → (xs : List ℕ) (n p : ℕ) → ps.path n ≡ xs → is_in p xs ≡ true → is_live ps p ≡ true
above_lives ps formed [] n p is inside = absurd (cc)
above_lives ps formed (m ∷ []) n p is inside = elim (or_cases (m == p) false inside) [
  | inl e ↦ path_live ps p m [] (ap ps.path (sym (eqb-true m p e) ∙ formed.first n m [] is) ∙ is)
  | inr e ↦ absurd (cc)
]
above_lives ps formed (m ∷ q ∷ above) n p is inside = elim (or_cases (m == p) (is_in p (q ∷ above)) inside) [
  | inl e ↦ path_live ps p m (q ∷ above) (ap ps.path (sym (eqb-true m p e) ∙ formed.first n m (q ∷ above) is) ∙ is)
  | inr e ↦ above_lives ps formed (q ∷ above) q p (formed.closed n m q above is) e
]

home_lives : (ps : Pools Payload) (target : ℕ) → IsPoolMap ps → is_live ps target ≡ true → (h : Home)
    → MatchHome h (λ call. ⊥) (λ p. (p ≡ target) ⊎ (is_under ps p target ≡ true)) → MatchHome h (λ call. ⊥) (λ p. is_live ps p ≡ true)
unfolding is_under
home_lives ps target formed live home.Free lasts = tt
home_lives ps target formed live (home.Call n) lasts = lasts
home_lives ps target formed live (home.Pool n) lasts = elim lasts [
  | inl e ↦ subst (λ (k : ℕ). is_live ps k ≡ true) (sym e) live
  | inr e ↦ above_lives ps formed (ps.path target) target n refl e
]
home_lives ps target formed live home.Ended lasts = tt

kept_as : (ps : Pools Payload) (target : ℕ) (old new : NamedBucket) → MatchHome new.bucket.home (λ call. ⊥) (λ p. (p ≡ target) ⊎ (is_under ps p target ≡ true)) → is_dead new ≡ false
    → new.name ≡ old.name → new.bucket.content ≡ old.bucket.content → KeptAside ps target old new
kept_as ps target old new lasts alive name content =
    record { lasts = lasts; alive = alive; there = λ formed live. home_lives ps target formed live new.bucket.home lasts; name = name; content = content }

aside_parts : (ps : Pools Payload) (target name : ℕ) (k : Kind) (c : Content) (h : Home) (above : Bool) → is_above ps target h ≡ above
    → LivesAs k h → is_ended h ≡ false
    → KeptAside ps target (record { name = name; bucket = record { kind = k; content = c; home = h } })
    (record { name = name; bucket = set_aside target above (record { kind = k; content = c; home = h }) })
aside_parts ps target name kind.Heap c h above is fit live = kept_as ps target _ _ (free_lasts _ _ h fit) live refl refl
aside_parts ps target name kind.Transient c h above is fit live = kept_as ps target _ _ tt refl refl refl
aside_parts ps target name kind.Immortal c h above is fit live = kept_as ps target _ _ (free_lasts _ _ h fit) live refl refl
aside_parts ps target name (kind.Pool p) c h above is fit live = kept_as ps target _ _ (free_lasts _ _ h fit) live refl refl
aside_parts ps target name kind.File c h true is fit live = kept_as ps target _ _ (above_lasts ps target h live fit is) live refl refl
aside_parts ps target name kind.File c h false is fit live = kept_as ps target _ _ (inl refl) refl refl refl
aside_parts ps target name kind.Flush c h above is fit live = kept_as ps target _ _ (free_lasts _ _ h fit) live refl refl
aside_parts ps target name kind.Eos c h above is fit live = kept_as ps target _ _ (free_lasts _ _ h fit) live refl refl

pub aside_lasts : AsideLasts
aside_lasts ps target x proper live =
    aside_parts ps target x.name x.bucket.kind x.bucket.content x.bucket.home (is_above ps target x.bucket.home) refl proper.lives live

-- Files that close.

pub files_go : (n : ℕ) (r : Configuration) (ps : Pools Payload) → FilesGo n r (files_let_go n r (with_pools ps (run_down n r)))
unfolding with_pools run_down
files_go n r ps = record {
  closes = λ file handed left. let both : (hands_on r n file && not (is_referred ps file)) ≡ true = ap (λ (b : Bool). b && not (is_referred ps file)) handed ∙ ap (λ (b : Bool). true && not b) left in
      ap (λ (b : Bool). cond b None (r.shared.files.opened file)) both;
  stays = λ file left. by_handed (hands_on r n file) (r.shared.files.opened file) (is_referred ps file) left;
  apart = λ file none. ap (λ (b : Bool). cond (b && not (is_referred ps file)) None (r.shared.files.opened file)) none;
  named = refl;
  numbers = refl;
} where
  by_handed : (b : Bool) (o : Option (List ℕ)) (c : Bool) → c ≡ true → cond (b && not c) None o ≡ o
  by_handed true o true left = refl
  by_handed false o true left = refl
  by_handed b o false left = absurd (cc)

pub files_close_last : FilesCloseLast
files_close_last n r = (files_go n r (cleared n r.shared.pools), files_go n r (destroyed n r.shared.pools))

-- Reads.

-- the bytes behind the first that were read
behind_read : (start len : ℕ) (file : List ℕ) → read_limit < len → take read_limit (take len (drop start file)) ++ take (len - read_limit) (drop (start + read_limit) file) ≡ take len (drop start file)
behind_read start len file lt =
    let all : len ≡ read_limit + (len - read_limit) = omega arith in
    let rest : drop read_limit (take len (drop start file)) ≡ take (len - read_limit) (drop (start + read_limit) file) =
    ap (λ (n : ℕ). drop read_limit (take n (drop start file))) all ∙ (drop-take read_limit (len - read_limit) (drop start file) ∙ ap (take (len - read_limit)) (drop-drop read_limit start file)) in
    ap (λ (bs : List ℕ). take read_limit (take len (drop start file)) ++ bs) (sym rest) ∙ take-append-drop read_limit (take len (drop start file))

range_read : (n start len : ℕ) (file : List ℕ) (b : Bucket)
    → take (min len read_limit) (take len (drop start file)) ++ bytes_of_rest file
    (cond (nat_le len read_limit) None (Some (record b { content = content.Range n (start + read_limit) (len - read_limit) }))) ≡ take len (drop start file)
range_read n start len file b = elim (cases_lt read_limit len) [
  | inl lt ↦ (let front : min len read_limit ≡ read_limit = grind (arith, nat_tests) in
      let longer : nat_le len read_limit ≡ false = grind (arith, nat_tests) in
      ap (λ (k : ℕ). take k (take len (drop start file)) ++ bytes_of_rest file
      (cond (nat_le len read_limit) None (Some (record b { content = content.Range n (start + read_limit) (len - read_limit) })))) front
      ∙ (ap (λ (t : Bool). take read_limit (take len (drop start file)) ++ bytes_of_rest file (cond t None (Some (record b { content = content.Range n (start + read_limit) (len - read_limit) }))))
      longer
      ∙ behind_read start len file lt))
  | inr le ↦ (let front : min len read_limit ≡ len = grind (arith, nat_tests) in
      let whole : nat_le len read_limit ≡ true = grind (arith, nat_tests) in
      ap (λ (k : ℕ). take k (take len (drop start file)) ++ bytes_of_rest file
      (cond (nat_le len read_limit) None (Some (record b { content = content.Range n (start + read_limit) (len - read_limit) })))) front
      ∙ (ap (λ (t : Bool). take len (take len (drop start file)) ++ bytes_of_rest file (cond t None (Some (record b { content = content.Range n (start + read_limit) (len - read_limit) })))) whole
      ∙ (append-nil (take len (take len (drop start file))) ∙ take_all len (take len (drop start file)) (grind (arith, length-take len (drop start file), nat_tests)))))
]

of_content : (file : List ℕ) (b : Bucket) (c : Content) → c ≡ b.content
    → (is_range (read_as (take (wanted c) (bytes_in file c)) b c).0.content ≡ false)
    × (bytes_in file (read_as (take (wanted c) (bytes_in file c)) b c).0.content ++ bytes_of_rest file (read_as (take (wanted c) (bytes_in file c)) b c).1 ≡ bytes_in file c)
of_content file b (content.Bytes bs) is = (sym (ap is_range is), ap (λ (c : Content). bytes_in file c ++ []) (sym is) ∙ append-nil bs)
of_content file b (content.Range n start len) is = (
  refl,
  ap
      (λ (c : Content). take (min len read_limit) (take len (drop start file)) ++ bytes_of_rest file (cond (nat_le len read_limit) None (Some (record b { content = rest_of read_limit c }))))
      (sym is) ∙ range_read n start len file b,
)
of_content file b content.Nothing is = (sym (ap is_range is), ap (λ (c : Content). bytes_in file c ++ []) (sym is))

pub reads_drop_nothing : ReadsDropNothing
reads_drop_nothing file b = of_content file b b.content refl
