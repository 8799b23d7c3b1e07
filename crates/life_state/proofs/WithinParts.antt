-- What is made of the parts of two states, of which one is below the other, is so too.
use Rattle.std.proofs.Common.{◌≡◌, ℕ, suc, zero, ◌<◌, Bool, true, false, ◌&&◌, not, ◌==◌, if◌then◌else◌, refl, ap, sym, subst, inl, inr, arith}
use Rattle.std.proofs.lemmas.Bool.{eqb-true, eq-eqb}
use Rattle.module_code.specs.declared.instr.KindTest.{KindTest}
use Rattle.module_code.specs.declared.instr.KindTest.TheVariants as test
use Rattle.module_code.specs.declared.instr.PoolRef.{PoolRef}
use Rattle.module_code.specs.declared.instr.PoolRef.TheVariants as pool
use Rattle.module_code.specs.Program.{Program}
use Rattle.run_model.specs.Indexed.{any_below}
use Rattle.life_state.specs.declared.parts.Contents.{Contents}
use Rattle.life_state.specs.declared.parts.Contents.TheVariants.{Empty, Flushes, NoEos, NoLateData, Any}
use Rattle.life_state.specs.declared.parts.Classes.{Classes}
use Rattle.life_state.specs.declared.parts.PoolState.{PoolState}
use Rattle.life_state.specs.States.{Homes, no_homes, homes_join, any_place, dead_where, is_live_alone, ended_pool, BrigadeKnown, holds, ended_brigade, with_homes, CursorKnown, Unset, Loose, In, End}
use Rattle.life_state.specs.States.{InOrEnd, State}
use Rattle.life_state.specs.Facts.{is_set, is_end}
use Rattle.life_state.specs.Order.{implies, all_below, content_leq, classes_leq, pool_leq, places_leq, homes_leq, brigade_leq, cursor_leq}
use Rattle.life_state.specs.Rules.{homes_at, concat_content, tail_content, head_content, before_content, emptied, left, carried, lies_under, cleared_cursor, split_part, bucket_or_end, is_empty}
use Rattle.life_state.specs.Rules.{of_kind, not_of_kind, some_class, with_classes, classes_of, may_end, pool_not_null, brigade_not_null}
use Rattle.life_state.specs.Form.{some_pool}
use Rattle.life_state.proofs.Below.{all_below_holds}
use Rattle.life_state.proofs.Tests.{split2, and2, split3, and3, or_either, or_left, or_right, implies_says, implies_by, all_at}
use Rattle.life_state.proofs.PartsOrder.{as_pool, brigade_by, homes_same, homes_trans, leq_end}
use Rattle.life_state.proofs.JoinAbove.{homes_left, homes_right}
use Rattle.life_state.proofs.JoinLeast.{parts, homes_least}

-- Small types, value by value.

abbrev all_bits : (Bool → Bool) → Bool
all_bits f = f true && f false

bit_of : (f : Bool → Bool) → all_bits f ≡ true → (b : Bool) → f b ≡ true
bit_of f h true = (split2 (f true) (f false) h).0
bit_of f h false = (split2 (f true) (f false) h).1

abbrev all_three : (Bool → Bool → Bool → Bool) → Bool
all_three f = all_bits (λ a. all_bits (λ b. all_bits (f a b)))

three_of : (f : Bool → Bool → Bool → Bool) → all_three f ≡ true → (a b c : Bool) → f a b c ≡ true
three_of f h a b c = bit_of (f a b) (bit_of (λ y. all_bits (f a y)) (bit_of (λ x. all_bits (λ y. all_bits (f x y))) h a) b) c

abbrev all_contents : (Contents → Bool) → Bool
all_contents f = f Empty && (f Flushes && (f NoEos && (f NoLateData && f Any)))

content_of_all : (f : Contents → Bool) → all_contents f ≡ true → (c : Contents) → f c ≡ true
content_of_all f h c =
    let h0 = split2 (f Empty) (f Flushes && (f NoEos && (f NoLateData && f Any))) h in
    let h1 = split2 (f Flushes) (f NoEos && (f NoLateData && f Any)) (h0.1) in
    let h2 = split2 (f NoEos) (f NoLateData && f Any) (h1.1) in
    let h3 = split2 (f NoLateData) (f Any) (h2.1) in
    each c (h0.0) (h1.0) (h2.0) (h3.0) (h3.1)
  where
    each : (c : Contents) → f Empty ≡ true → f Flushes ≡ true → f NoEos ≡ true → f NoLateData ≡ true → f Any ≡ true → f c ≡ true
    each Empty p q r s t = p
    each Flushes p q r s t = q
    each NoEos p q r s t = r
    each NoLateData p q r s t = s
    each Any p q r s t = t

abbrev all_classes : (Classes → Bool) → Bool
all_classes f = all_three (λ a b c. f (record { bytes = a; flush = b; eos = c }))

class_of_all : (f : Classes → Bool) → all_classes f ≡ true → (s : Classes) → f s ≡ true
class_of_all f h s = three_of (λ a b c. f (record { bytes = a; flush = b; eos = c })) h s.bytes s.flush s.eos

abbrev all_pools : (PoolState → Bool) → Bool
all_pools f = all_three (λ a b c. f (record { null = a; gone = b; live = c }))

pool_of_all : (f : PoolState → Bool) → all_pools f ≡ true → (v : PoolState) → f v ≡ true
pool_of_all f h v = three_of (λ a b c. f (record { null = a; gone = b; live = c })) h v.null v.gone v.live

-- Contents.

-- a test of four contents
abbrev FourContents : Contents → Contents → Contents → Contents → Bool
FourContents a b c d = implies (content_leq a c && content_leq b d) (content_leq (concat_content a b) (concat_content c d))

pub content_concat : (a b c d : Contents) → content_leq a c ≡ true → content_leq b d ≡ true → content_leq (concat_content a b) (concat_content c d) ≡ true
content_concat a b c d p q =
    implies_says (content_leq a c && content_leq b d) (content_leq (concat_content a b) (concat_content c d))
    (content_of_all (λ d. FourContents a b c d) (content_of_all (λ c. all_contents (λ d. FourContents a b c d)) (content_of_all (λ b. all_contents (λ c. all_contents (λ d. FourContents a b c d)))
    (content_of_all (λ a. all_contents (λ b. all_contents (λ c. all_contents (λ d. FourContents a b c d)))) refl a) b) c) d)
    (and2 (content_leq a c) (content_leq b d) p q)

-- what a bucket makes of contents
abbrev pub RisesWith : (Contents → Classes → Contents) → Type 0
RisesWith put = (a b : Contents) (s t : Classes) → content_leq a b ≡ true → classes_leq s t ≡ true → content_leq (put a s) (put b t) ≡ true

abbrev Puts : (Contents → Classes → Contents) → Contents → Contents → Classes → Classes → Bool
Puts put a b s t = implies (content_leq a b && classes_leq s t) (content_leq (put a s) (put b t))

rises : (put : Contents → Classes → Contents) → all_contents (λ a. all_contents (λ b. all_classes (λ s. all_classes (λ t. Puts put a b s t)))) ≡ true → RisesWith put
rises put all a b s t p q =
    implies_says (content_leq a b && classes_leq s t) (content_leq (put a s) (put b t))
    (class_of_all (λ t. Puts put a b s t) (class_of_all (λ s. all_classes (λ t. Puts put a b s t)) (content_of_all (λ b. all_classes (λ s. all_classes (λ t. Puts put a b s t)))
    (content_of_all (λ a. all_contents (λ b. all_classes (λ s. all_classes (λ t. Puts put a b s t)))) all a) b) s) t)
    (and2 (content_leq a b) (classes_leq s t) p q)

pub tail_rises : RisesWith tail_content
tail_rises = rises tail_content refl

pub head_rises : RisesWith head_content
head_rises = rises head_content refl

pub before_rises : RisesWith before_content
before_rises = rises before_content refl

-- a test of contents that holds of more of them
rises_test : (f : Contents → Bool) → all_contents (λ a. all_contents (λ b. implies (content_leq a b) (implies (f a) (f b)))) ≡ true → (a b : Contents) → content_leq a b ≡ true → f a ≡ true → f b ≡ true
rises_test f all a b p h =
    implies_says (f a) (f b) (implies_says (content_leq a b) (implies (f a) (f b))
    (content_of_all (λ b. implies (content_leq a b) (implies (f a) (f b))) (content_of_all (λ a. all_contents (λ b. implies (content_leq a b) (implies (f a) (f b)))) all a) b) p) h

pub may_end_rises : (a b : Contents) → content_leq a b ≡ true → may_end a ≡ true → may_end b ≡ true
may_end_rises = rises_test may_end refl

pub not_empty_rises : (a b : Contents) → content_leq a b ≡ true → not (is_empty a) ≡ true → not (is_empty b) ≡ true
not_empty_rises = rises_test (λ c. not (is_empty c)) refl

pub empty_least : (c : Contents) → content_leq Empty c ≡ true
empty_least = content_of_all (content_leq Empty) refl

-- Classes.

abbrev Ups : (Classes → Classes) → Type 0
Ups f = all_classes (λ s. all_classes (λ t. implies (classes_leq s t) (classes_leq (f s) (f t)))) ≡ true

classes_by : (f : Classes → Classes) → Ups f → (s t : Classes) → classes_leq s t ≡ true → classes_leq (f s) (f t) ≡ true
classes_by f all s t p =
    implies_says (classes_leq s t) (classes_leq (f s) (f t))
    (class_of_all (λ t. implies (classes_leq s t) (classes_leq (f s) (f t))) (class_of_all (λ s. all_classes (λ t. implies (classes_leq s t) (classes_leq (f s) (f t)))) all s) t) p

-- kind by kind
each_kind : (f : KindTest → Classes → Classes) → Ups (f test.Flush) → Ups (f test.Eos) → Ups (f test.Data) → Ups (f test.Heap) → Ups (f test.Transient)
    → Ups (f test.Immortal) → Ups (f test.Pool) → Ups (f test.File) → (k : KindTest) → Ups (f k)
each_kind f flush eos bytes heap transient immortal pool file test.Flush = flush
each_kind f flush eos bytes heap transient immortal pool file test.Eos = eos
each_kind f flush eos bytes heap transient immortal pool file test.Data = bytes
each_kind f flush eos bytes heap transient immortal pool file test.Heap = heap
each_kind f flush eos bytes heap transient immortal pool file test.Transient = transient
each_kind f flush eos bytes heap transient immortal pool file test.Immortal = immortal
each_kind f flush eos bytes heap transient immortal pool file test.Pool = pool
each_kind f flush eos bytes heap transient immortal pool file test.File = file

pub of_kind_rises : (k : KindTest) (s t : Classes) → classes_leq s t ≡ true → classes_leq (of_kind k s) (of_kind k t) ≡ true
of_kind_rises k = classes_by (of_kind k) (each_kind of_kind refl refl refl refl refl refl refl refl k)

pub not_of_kind_rises : (k : KindTest) (s t : Classes) → classes_leq s t ≡ true → classes_leq (not_of_kind k s) (not_of_kind k t) ≡ true
not_of_kind_rises k = classes_by (not_of_kind k) (each_kind not_of_kind refl refl refl refl refl refl refl refl k)

pub some_rises : (s t : Classes) → classes_leq s t ≡ true → some_class s ≡ true → some_class t ≡ true
some_rises s t p h =
    implies_says (some_class s) (some_class t) (implies_says (classes_leq s t) (implies (some_class s) (some_class t))
    (class_of_all (λ t. implies (classes_leq s t) (implies (some_class s) (some_class t)))
    (class_of_all (λ s. all_classes (λ t. implies (classes_leq s t) (implies (some_class s) (some_class t)))) refl s) t) p) h

-- Homes.

pub homes_none : (h : Homes) → homes_leq no_homes h ≡ true
unfolding all_below
homes_none h = refl

pub homes_joined : (a b c d : Homes) → homes_leq a c ≡ true → homes_leq b d ≡ true → homes_leq (homes_join a b) (homes_join c d) ≡ true
homes_joined a b c d p q = homes_least a b (homes_join c d) (homes_trans a c (homes_join c d) p (homes_left c d)) (homes_trans b d (homes_join c d) q (homes_right c d))

pub homes_call : (a b : Homes) → homes_leq a b ≡ true → a.call ≡ true → b.call ≡ true
homes_call a b p = implies_says a.call b.call ((split3 (implies a.call b.call) (implies a.dead b.dead) (places_leq a.at b.at) p).0)

pub homes_dead : (a b : Homes) → homes_leq a b ≡ true → a.dead ≡ true → b.dead ≡ true
homes_dead a b p = implies_says a.dead b.dead ((split3 (implies a.call b.call) (implies a.dead b.dead) (places_leq a.at b.at) p).1)

pub any_more : (n : ℕ) (f g : ℕ → Bool) → ((k : ℕ) → k < n → f k ≡ true → g k ≡ true) → any_below n f ≡ true → any_below n g ≡ true
unfolding any_below
any_more zero f g more h = h
any_more (suc n) f g more h =
    elim (or_either (f n) (any_below n f) h) [
      | inl here ↦ or_left (g n) (any_below n g) (more n (omega arith) here)
      | inr there ↦ or_right (g n) (any_below n g) (any_more n f g (λ k low. more k (omega arith)) there)
    ]

place_req : (f g : PoolRef → Bool) → places_leq f g ≡ true → f pool.Req ≡ true → g pool.Req ≡ true
place_req f g p = implies_says (f pool.Req) (g pool.Req) ((split2 (implies (f pool.Req) (g pool.Req)) (all_below 8 (λ i. implies (f (pool.Own i)) (g (pool.Own i)))) p).0)

place_own : (f g : PoolRef → Bool) → places_leq f g ≡ true → (i : ℕ) → i < 8 → f (pool.Own i) ≡ true → g (pool.Own i) ≡ true
place_own f g p i low =
    implies_says (f (pool.Own i)) (g (pool.Own i))
    (all_at 8 i (λ i. implies (f (pool.Own i)) (g (pool.Own i))) ((split2 (implies (f pool.Req) (g pool.Req)) (all_below 8 (λ i. implies (f (pool.Own i)) (g (pool.Own i)))) p).1) low)

places_by : (f g : PoolRef → Bool) → (f pool.Req ≡ true → g pool.Req ≡ true) → ((i : ℕ) → i < 8 → f (pool.Own i) ≡ true → g (pool.Own i) ≡ true) → places_leq f g ≡ true
places_by f g req own =
    and2 (implies (f pool.Req) (g pool.Req)) (all_below 8 (λ i. implies (f (pool.Own i)) (g (pool.Own i)))) (implies_by (f pool.Req) (g pool.Req) req)
    (all_below_holds 8 (λ i. implies (f (pool.Own i)) (g (pool.Own i))) (λ i low. implies_by (f (pool.Own i)) (g (pool.Own i)) (own i low)))

and_more : (x y z : Bool) → (y ≡ true → z ≡ true) → (x && y) ≡ true → (x && z) ≡ true
and_more true y z f h = f h
and_more false y z f h = h

more_and : (y z x : Bool) → (y ≡ true → z ≡ true) → (y && x) ≡ true → (z && x) ≡ true
more_and y z x f h = let both = split2 y x h in and2 z x (f (both.0)) (both.1)

any_place_more : (f g : PoolRef → Bool) → (f pool.Req ≡ true → g pool.Req ≡ true) → ((i : ℕ) → i < 8 → f (pool.Own i) ≡ true → g (pool.Own i) ≡ true) → any_place f ≡ true → any_place g ≡ true
any_place_more f g req own h =
    elim (or_either (f pool.Req) (any_below 8 (λ i. f (pool.Own i))) h) [
      | inl here ↦ or_left (g pool.Req) (any_below 8 (λ i. g (pool.Own i))) (req here)
      | inr there ↦ or_right (g pool.Req) (any_below 8 (λ i. g (pool.Own i))) (any_more 8 (λ i. f (pool.Own i)) (λ i. g (pool.Own i)) own there)
    ]

pub homes_ended : (gone : PoolRef → Bool) (a b : Homes) → homes_leq a b ≡ true → homes_leq (dead_where gone a) (dead_where gone b) ≡ true
homes_ended gone a b p =
    let p3 = split3 (implies a.call b.call) (implies a.dead b.dead) (places_leq a.at b.at) p in
    let x = dead_where gone a in
    let y = dead_where gone b in
    let dead : x.dead ≡ true → y.dead ≡ true = λ h. elim (or_either a.dead (any_place (λ k. gone k && a.at k)) h) [
      | inl here ↦ or_left b.dead (any_place (λ k. gone k && b.at k)) (homes_dead a b p here)
      | inr there ↦ or_right b.dead (any_place (λ k. gone k && b.at k)) (any_place_more (λ k. gone k && a.at k) (λ k. gone k && b.at k)
          (and_more (gone pool.Req) (a.at pool.Req) (b.at pool.Req) (place_req a.at b.at (p3.2)))
          (λ i low. and_more (gone (pool.Own i)) (a.at (pool.Own i)) (b.at (pool.Own i)) (place_own a.at b.at (p3.2) i low)) there)
    ] in
    and3 (implies a.call b.call) (implies x.dead y.dead) (places_leq x.at y.at) (p3.0) (implies_by x.dead y.dead dead)
    (places_by x.at y.at (more_and (a.at pool.Req) (b.at pool.Req) (not (gone pool.Req)) (place_req a.at b.at (p3.2)))
    (λ i low. more_and (a.at (pool.Own i)) (b.at (pool.Own i)) (not (gone (pool.Own i))) (place_own a.at b.at (p3.2) i low)))

-- Variables.

pools_by : (f : PoolState → PoolState) → all_pools (λ v. all_pools (λ u. implies (pool_leq v u) (pool_leq (f v) (f u)))) ≡ true → (v u : PoolState) → pool_leq v u ≡ true → pool_leq (f v) (f u) ≡ true
pools_by f all v u p =
    implies_says (pool_leq v u) (pool_leq (f v) (f u))
    (pool_of_all (λ u. implies (pool_leq v u) (pool_leq (f v) (f u))) (pool_of_all (λ v. all_pools (λ u. implies (pool_leq v u) (pool_leq (f v) (f u)))) all v) u) p

pub pool_ended : (v u : PoolState) → pool_leq v u ≡ true → pool_leq (ended_pool v) (ended_pool u) ≡ true
pool_ended = pools_by ended_pool refl

pub not_null_within : (v u : PoolState) → pool_leq v u ≡ true → pool_leq (pool_not_null v) (pool_not_null u) ≡ true
not_null_within = pools_by pool_not_null refl

-- where one is exactly live, so is one below it that may be something
abbrev Alone : PoolState → PoolState → Bool
Alone v u = implies (pool_leq v u && some_pool v && is_live_alone u) (is_live_alone v)

pub alone_within : (v u : PoolState) → pool_leq v u ≡ true → some_pool v ≡ true → is_live_alone u ≡ true → is_live_alone v ≡ true
alone_within v u p some h =
    implies_says (pool_leq v u && some_pool v && is_live_alone u) (is_live_alone v) (pool_of_all (λ u. Alone v u) (pool_of_all (λ v. all_pools (λ u. Alone v u)) refl v) u)
    (and3 (pool_leq v u) (some_pool v) (is_live_alone u) p some h)

pub holds_within : (a b : Contents) (h k : Homes) → content_leq a b ≡ true → homes_leq h k ≡ true → brigade_leq (holds a h) (holds b k) ≡ true
holds_within a b h k p q = brigade_by (holds a h) (holds b k) refl refl p q

pub ended_within : (v u : BrigadeKnown) → brigade_leq v u ≡ true → brigade_leq (ended_brigade v) (ended_brigade u) ≡ true
ended_within v u p =
    let of = parts v u p in
    brigade_by (ended_brigade v) (ended_brigade u)
    (pool_ended (as_pool v) (as_pool u) (and3 (implies v.null u.null) (implies v.gone u.gone) (implies v.live u.live) of.null of.gone of.live)) refl refl (homes_same no_homes)

pub homes_changed : (change : Homes → Homes) (v u : BrigadeKnown) → ((h k : Homes) → homes_leq h k ≡ true → homes_leq (change h) (change k) ≡ true) → brigade_leq v u ≡ true
    → brigade_leq (with_homes change v) (with_homes change u) ≡ true
homes_changed change v u rise p =
    let of = parts v u p in
    brigade_by (with_homes change v) (with_homes change u) (and3 (implies v.null u.null) (implies v.gone u.gone) (implies v.live u.live) of.null of.gone of.live)
    (and2 (implies v.usable u.usable) (implies v.passed u.passed) of.usable of.passed) of.content
    (rise v.homes u.homes of.homes)

pub brigade_not_null_within : (v u : BrigadeKnown) → brigade_leq v u ≡ true → brigade_leq (brigade_not_null v) (brigade_not_null u) ≡ true
brigade_not_null_within v u p =
    let of = parts v u p in
    brigade_by (brigade_not_null v) (brigade_not_null u) (and3 (implies false false) (implies v.gone u.gone) (implies v.live u.live) refl of.gone of.live)
    (and2 (implies v.usable u.usable) (implies v.passed u.passed) of.usable of.passed) of.content of.homes

-- Cursors.

-- two that are unset under one test
at_both : (e g : Bool) (x y : CursorKnown) → e ≡ g → cursor_leq x y ≡ true → cursor_leq (if e then Unset else x) (if g then Unset else y) ≡ true
at_both e true x y h p = refl
at_both true false x y h p = cc
at_both false false x y h p = p

at_second : (g : Bool) (x y : CursorKnown) → cursor_leq x y ≡ true → cursor_leq x (if g then Unset else y) ≡ true
at_second true x y p = refl
at_second false x y p = p

same_test : (b c n : ℕ) → (b == c) ≡ true → (b == n) ≡ (c == n)
same_test b c n h = ap (λ (m : ℕ). m == n) (eqb-true b c h)

number : (b c : ℕ) (s t : Classes) → (b == c && classes_leq s t) ≡ true → (b == c) ≡ true
number b c s t p = (split2 (b == c) (classes_leq s t) p).0

pub emptied_within : (n : ℕ) (x y : CursorKnown) → cursor_leq x y ≡ true → cursor_leq (emptied n x) (emptied n y) ≡ true
emptied_within n x Unset p = refl
emptied_within n (Loose s h) (Loose t k) p = p
emptied_within n (In b s) (In c t) p = at_both (b == n) (c == n) (In b s) (In c t) (same_test b c n (number b c s t p)) p
emptied_within n (In b s) (InOrEnd c t) p = at_both (b == n) (c == n) (In b s) (InOrEnd c t) (same_test b c n (number b c s t p)) p
emptied_within n (InOrEnd b s) (InOrEnd c t) p = at_both (b == n) (c == n) (InOrEnd b s) (InOrEnd c t) (same_test b c n (number b c s t p)) p
emptied_within n (End b) (End c) p = p
emptied_within n (End b) (InOrEnd c t) p = at_second (c == n) (End b) (InOrEnd c t) p
emptied_within n x y p = cc

pub left_within : (n : ℕ) (x y : CursorKnown) → cursor_leq x y ≡ true → cursor_leq (left n x) (left n y) ≡ true
left_within n x Unset p = refl
left_within n (End b) (End c) p = at_both (b == n) (c == n) (End b) (End c) (same_test b c n p) p
left_within n (End b) (InOrEnd c t) p = at_both (b == n) (c == n) (End b) (InOrEnd c t) (same_test b c n p) p
left_within n x (End c) p = cc
left_within n (Loose s h) y p = emptied_within n (Loose s h) y p
left_within n (In b s) y p = emptied_within n (In b s) y p
left_within n (InOrEnd b s) y p = emptied_within n (InOrEnd b s) y p
left_within n x y p = cc

same_number : (b : ℕ) → (b == b) ≡ true
same_number b = eq-eqb b b refl

pub carried_within : (a n : ℕ) (x y : CursorKnown) → cursor_leq x y ≡ true → cursor_leq (carried a n x) (carried a n y) ≡ true
carried_within a n x Unset p = refl
carried_within a n (Loose s h) (Loose t k) p = p
carried_within a n (In b s) (In c t) p = pick (b == n) (c == n) (same_test b c n (number b c s t p))
  where
    pick : (e g : Bool) → e ≡ g → cursor_leq (if e then In a s else In b s) (if g then In a t else In c t) ≡ true
    pick true true h = and2 (a == a) (classes_leq s t) (same_number a) ((split2 (b == c) (classes_leq s t) p).1)
    pick true false h = cc
    pick false true h = cc
    pick false false h = p
carried_within a n (In b s) (InOrEnd c t) p = pick (b == n) (c == n) (same_test b c n (number b c s t p))
  where
    pick : (e g : Bool) → e ≡ g → cursor_leq (if e then In a s else In b s) (if g then Unset else InOrEnd c t) ≡ true
    pick e true h = refl
    pick true false h = cc
    pick false false h = p
carried_within a n (InOrEnd b s) (InOrEnd c t) p = at_both (b == n) (c == n) (InOrEnd b s) (InOrEnd c t) (same_test b c n (number b c s t p)) p
carried_within a n (End b) (End c) p = p
carried_within a n (End b) (InOrEnd c t) p = at_second (c == n) (End b) (InOrEnd c t) p
carried_within a n x (Loose t k) p = cc
carried_within a n x (In c t) p = cc
carried_within a n x (End c) p = cc
carried_within a n x (InOrEnd c t) p = cc

pub cleared_within : (p : Program) (under : PoolRef → Bool) (x y : CursorKnown) → cursor_leq x y ≡ true → cursor_leq (cleared_cursor p under x) (cleared_cursor p under y) ≡ true
cleared_within p under x Unset h = refl
cleared_within p under (Loose s h) (Loose t k) l =
    let both = split2 (classes_leq s t) (homes_leq h k) l in
    and2 (classes_leq s t) (homes_leq (dead_where under h) (dead_where under k)) (both.0) (homes_ended under h k (both.1))
cleared_within p under (In b s) (In c t) h = at_both (lies_under p under b) (lies_under p under c) (In b s) (In c t) (ap (lies_under p under) (eqb-true b c (number b c s t h))) h
cleared_within p under (In b s) (InOrEnd c t) h = at_both (lies_under p under b) (lies_under p under c) (In b s) (InOrEnd c t) (ap (lies_under p under) (eqb-true b c (number b c s t h))) h
cleared_within p under (InOrEnd b s) (InOrEnd c t) h = at_both (lies_under p under b) (lies_under p under c) (InOrEnd b s) (InOrEnd c t) (ap (lies_under p under) (eqb-true b c (number b c s t h))) h
cleared_within p under (End b) (End c) h = at_both (lies_under p under b) (lies_under p under c) (End b) (End c) (ap (lies_under p under) (eqb-true b c h)) h
cleared_within p under (End b) (InOrEnd c t) h = at_both (lies_under p under b) (lies_under p under c) (End b) (InOrEnd c t) (ap (lies_under p under) (eqb-true b c h)) h
cleared_within p under x (Loose t k) h = cc
cleared_within p under x (In c t) h = cc
cleared_within p under x (End c) h = cc
cleared_within p under x (InOrEnd c t) h = cc

in_itself : (b : ℕ) → (b == b && true) ≡ true
in_itself b = and2 (b == b) true (same_number b) refl

pub first_within : (b : ℕ) (a c : Contents) → content_leq a c ≡ true → cursor_leq (bucket_or_end b a) (bucket_or_end b c) ≡ true
first_within b Empty Empty p = same_number b
first_within b Empty Flushes p = same_number b
first_within b Empty NoEos p = same_number b
first_within b Empty NoLateData p = same_number b
first_within b Empty Any p = same_number b
first_within b Flushes Flushes p = in_itself b
first_within b Flushes NoEos p = in_itself b
first_within b Flushes NoLateData p = in_itself b
first_within b Flushes Any p = in_itself b
first_within b NoEos NoEos p = in_itself b
first_within b NoEos NoLateData p = in_itself b
first_within b NoEos Any p = in_itself b
first_within b NoLateData NoLateData p = in_itself b
first_within b NoLateData Any p = in_itself b
first_within b Any Any p = in_itself b
first_within b a c p = cc

pub split_within : (x y : CursorKnown) (v u : BrigadeKnown) → cursor_leq x y ≡ true → brigade_leq v u ≡ true → brigade_leq (split_part x v) (split_part y u) ≡ true
split_within x y v u h p = pick (is_end x) (is_end y) (leq_end x y h)
  where
    pick : (e g : Bool) → (g ≡ true → e ≡ true) → brigade_leq (if e then holds Empty no_homes else holds v.content v.homes) (if g then holds Empty no_homes else holds u.content u.homes) ≡ true
    pick true true f = holds_within Empty Empty no_homes no_homes refl (homes_same no_homes)
    pick true false f = holds_within Empty u.content no_homes u.homes (empty_least u.content) (homes_none u.homes)
    pick false true f = absurd (clash (f refl))
      where
        clash : false ≡ true → ⊥
        clash e = cc
    pick false false f = let of = parts v u p in holds_within v.content u.content v.homes u.homes of.content of.homes

-- what is at a cursor that is set
pub classes_within : (x y : CursorKnown) → is_set y ≡ true → cursor_leq x y ≡ true → classes_leq (classes_of x) (classes_of y) ≡ true
classes_within x Unset set p = cc
classes_within (Loose s h) (Loose t k) set p = (split2 (classes_leq s t) (homes_leq h k) p).0
classes_within (In b s) (In c t) set p = (split2 (b == c) (classes_leq s t) p).1
classes_within (In b s) (InOrEnd c t) set p = (split2 (b == c) (classes_leq s t) p).1
classes_within (InOrEnd b s) (InOrEnd c t) set p = (split2 (b == c) (classes_leq s t) p).1
classes_within (End b) (End c) set p = refl
classes_within (End b) (InOrEnd c t) set p = refl
classes_within x (Loose t k) set p = cc
classes_within x (In c t) set p = cc
classes_within x (End c) set p = cc
classes_within x (InOrEnd c t) set p = cc

-- more classes at both
pub with_classes_within : (x y : CursorKnown) (s t : Classes) → cursor_leq x y ≡ true → classes_leq s t ≡ true → cursor_leq (with_classes s x) (with_classes t y) ≡ true
with_classes_within x Unset u w p q = refl
with_classes_within (Loose s h) (Loose t k) u w p q = and2 (classes_leq u w) (homes_leq h k) q ((split2 (classes_leq s t) (homes_leq h k) p).1)
with_classes_within (In b s) (In c t) u w p q = and2 (b == c) (classes_leq u w) (number b c s t p) q
with_classes_within (In b s) (InOrEnd c t) u w p q = and2 (b == c) (classes_leq u w) (number b c s t p) q
with_classes_within (InOrEnd b s) (InOrEnd c t) u w p q = and2 (b == c) (classes_leq u w) (number b c s t p) q
with_classes_within (End b) (End c) u w p q = p
with_classes_within (End b) (InOrEnd c t) u w p q = p
with_classes_within x (Loose t k) u w p q = cc
with_classes_within x (In c t) u w p q = cc
with_classes_within x (End c) u w p q = cc
with_classes_within x (InOrEnd c t) u w p q = cc

-- the homes at a cursor that is set
pub homes_at_within : (a b : State) (x y : CursorKnown) → ((n : ℕ) → brigade_leq (a.brigades n) (b.brigades n) ≡ true) → is_set y ≡ true → cursor_leq x y ≡ true
    → homes_leq (homes_at a x) (homes_at b y) ≡ true
homes_at_within a b x Unset less set p = cc
homes_at_within a b (Loose s h) (Loose t k) less set p = (split2 (classes_leq s t) (homes_leq h k) p).1
homes_at_within a b (In m s) (In n t) less set p =
    subst (λ (i : ℕ). homes_leq (a.brigades i).homes (b.brigades n).homes ≡ true) (sym (eqb-true m n (number m n s t p))) (parts (a.brigades n) (b.brigades n) (less n)).homes
homes_at_within a b (In m s) (InOrEnd n t) less set p =
    subst (λ (i : ℕ). homes_leq (a.brigades i).homes (b.brigades n).homes ≡ true) (sym (eqb-true m n (number m n s t p))) (parts (a.brigades n) (b.brigades n) (less n)).homes
homes_at_within a b (InOrEnd m s) (InOrEnd n t) less set p =
    subst (λ (i : ℕ). homes_leq (a.brigades i).homes (b.brigades n).homes ≡ true) (sym (eqb-true m n (number m n s t p))) (parts (a.brigades n) (b.brigades n) (less n)).homes
homes_at_within a b (End m) (End n) less set p = homes_none no_homes
homes_at_within a b (End m) (InOrEnd n t) less set p = homes_none (b.brigades n).homes
homes_at_within a b x (Loose t k) less set p = cc
homes_at_within a b x (In n t) less set p = cc
homes_at_within a b x (End n) less set p = cc
homes_at_within a b x (InOrEnd n t) less set p = cc
