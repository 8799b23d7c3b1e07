-- What flows from one state to another, what does not matter to a state, and what is covered where a call begins.
use Rattle.std.proofs.Common.{◌≡◌, ℕ, ◌<◌, true, false, ◌||◌, not, ◌==◌, nat_lt, Option, Some, None, inl, inr, refl, sym, ◌∙◌, ap, arith, eq-eqb}
use Rattle.std.proofs.lemmas.Bool.{cases_lt}
use Rattle.std.proofs.lemmas.Bool.Decides.{nat_tests}
use Rattle.module_code.specs.declared.instr.PoolRef.{PoolRef}
use Rattle.module_code.specs.declared.instr.PoolRef.TheVariants as pool
use Rattle.module_code.specs.Program.{Program}
use Rattle.model_laws.specs.AsDeclared.{AsDeclared}
use Rattle.run_model.specs.declared.bucket.Cursor.TheVariants as cursor
use Rattle.run_model.specs.declared.bucket.Home.{Home}
use Rattle.run_model.specs.declared.bucket.Home.TheVariants as home
use Rattle.run_model.specs.Faults.{is_stray}
use Rattle.run_model.specs.Files.{Files}
use Rattle.run_model.specs.Indexed.{any_below}
use Rattle.run_model.specs.Pools.{is_live}
use Rattle.run_model.specs.Sound.{Sound}
use Rattle.run_model.specs.State.{Configuration, Out, PoolView, pool_view, named_at, name_in, is_named, is_own_at, is_own}
use Rattle.life_state.specs.Facts.{is_set}
use Rattle.life_state.specs.PoolOrder.{is_clearable}
use Rattle.life_state.specs.States.{Homes, CursorKnown, Unset, Loose, In, End, InOrEnd, State}
use Rattle.life_state.proofs.Below.{some_below}
use Rattle.life_state.proofs.Tests.{or_left, or_right, not_true, all_at}
use Rattle.life_check.specs.Certificates.{Certificate, IsBoundedSome}
use Rattle.life_state.specs.Bounded.{IsBounded}
use Rattle.life_check.specs.Meaning.{Covers, CoversPool, ByConnection, ByMember, ByDead, ByCall, NoneLives, Differ, Fits}
use Rattle.life_check.specs.Soundness.{FitsSome, GreaterFits}
use Rattle.life_check.specs.Typed.{is_below, flows, has_no_cursor}
use Rattle.life_check.proofs.Pools.{cursor_more}

-- what is known between calls: without a request, and in one
abbrev pub resting : Certificate → Option ℕ → Option State
resting m None = m.idle
resting m (Some req) = m.ready

-- Flows.

pub fits_under : (p : Program) (lives : Home → Type 0) → GreaterFits lives → (r : Configuration) (s : State) (t : Option State)
    → Sound r → AsDeclared p r → IsBoundedSome t → is_below s t ≡ true → Fits (Covers p (pool_view r) lives) s r → FitsSome (Covers p (pool_view r) lives) t r
fits_under p lives greater r s None sound declared bounded le f = cc
fits_under p lives greater r s (Some t) sound declared bounded le f = greater p r s t sound declared bounded le f

pub fits_flow : (p : Program) (lives : Home → Type 0) → GreaterFits lives → (r : Configuration) (s t : Option State)
    → Sound r → AsDeclared p r → IsBoundedSome t → flows s t ≡ true → FitsSome (Covers p (pool_view r) lives) s r → FitsSome (Covers p (pool_view r) lives) t r
fits_flow p lives greater r None t sound declared bounded le f = absurd f
fits_flow p lives greater r (Some s) t sound declared bounded le f = fits_under p lives greater r s t sound declared bounded le f

-- What the next instruction is, what was put out and the files do not matter.

abbrev pub aside_from : ℕ → Out → Files → Configuration → Configuration
aside_from pc out files r = record r { pc = pc; out = out; shared = record r.shared { files = files } }

pub fits_aside : (p : Program) (lives : Home → Type 0) (pc : ℕ) (out : Out) (files : Files) (s : Option State) (r : Configuration)
    → FitsSome (Covers p (pool_view r) lives) s r → FitsSome (Covers p (pool_view (aside_from pc out files r)) lives) s (aside_from pc out files r)
fits_aside p lives pc out files None r f = absurd f
fits_aside p lives pc out files (Some s) r f =
    let C : Homes → Home → Type 0 = Covers p (pool_view r) lives in
    record {
      sent = f.sent;
      pools = f.pools;
      brigades = f.brigades;
      cursors = λ c. cursor_more C C (λ h x covered. covered) r (aside_from pc out files r) refl (λ b usable. refl) (s.cursors c) (r.call.cursors c) (f.cursors c);
      facts = f.facts;
    }

-- A home that homes cover, and that they do not tell of the call, may be kept beyond it.

-- a pool that is cleared is one of the instance
named_own : (v : PoolView) (k : PoolRef) (n : ℕ) → is_clearable k ≡ true → named_at v k ≡ Some n → is_own_at v n ≡ true
unfolding named_at is_own_at
named_own v pool.Conn n clear named = absurd (cc)
named_own v pool.Req n clear named =
    or_right (any_below 8 (λ q. is_named (name_in (v.own q)) n) || (n == v.conn)) (is_named v.req n) (ap (λ (o : Option ℕ). is_named o n) named ∙ eq-eqb n n refl)
named_own v (pool.Own q) n clear named =
    or_left (any_below 8 (λ j. is_named (name_in (v.own j)) n) || (n == v.conn)) (is_named v.req n)
    (or_left (any_below 8 (λ j. is_named (name_in (v.own j)) n)) (n == v.conn)
    (some_below 8 q (λ j. is_named (name_in (v.own j)) n) (less clear) (ap (λ (o : Option ℕ). is_named o n) named ∙ eq-eqb n n refl))) where
      less : nat_lt q 8 ≡ true → q < 8
      less h = grind (arith, nat_tests)

conn_own : (v : PoolView) (n : ℕ) → n ≡ v.conn → is_own_at v n ≡ true
unfolding is_own_at
conn_own v n is =
    or_left (any_below 8 (λ q. is_named (name_in (v.own q)) n) || (n == v.conn)) (is_named v.req n)
    (or_right (any_below 8 (λ q. is_named (name_in (v.own q)) n)) (n == v.conn) (eq-eqb n v.conn is))

pub covered_own : (p : Program) (lives : Home → Type 0) (r : Configuration) (h : Homes) (x : Home) → Covers p (pool_view r) lives h x → h.call ≡ false → is_stray r x ≡ false
unfolding is_stray
covered_own p lives r h home.Free c own = refl
covered_own p lives r h (home.Call n) c own = absurd (let clash : true ≡ false = sym c.0 ∙ own in cc)
covered_own p lives r h (home.Pool n) c own = ap not (why c.1) where
  why : CoversPool p (pool_view r) lives h n → is_own r n ≡ true
  why (ByConnection is) = conn_own (pool_view r) n is
  why (ByMember k d top low at member under) = named_own (pool_view r) k n top at
  why (ByDead k top at dead) = named_own (pool_view r) k n top at
  why (ByCall call l) = absurd (let clash : true ≡ false = sym call ∙ own in cc)
covered_own p lives r h home.Ended c own = refl

-- Calls that begin.

-- a state without cursors
pub no_cursors : (s : State) → IsBounded s → has_no_cursor s ≡ true → (c : ℕ) → s.cursors c ≡ Unset
no_cursors s bounded none c = elim (cases_lt c 9) [
  | inl lt ↦ unset (s.cursors c) (not_true (is_set (s.cursors c)) (all_at 9 c (λ k. not (is_set (s.cursors k))) none lt))
  | inr le ↦ bounded.cursors c le
] where
  unset : (k : CursorKnown) → is_set k ≡ false → k ≡ Unset
  unset Unset h = refl
  unset (Loose t h) e = cc
  unset (In b t) e = cc
  unset (End b) e = cc
  unset (InOrEnd b t) e = cc

-- no two cursors that are unset are at one bucket
pub unset_differ : Differ cursor.Unset cursor.Unset
unset_differ n v w = cc

-- what is covered between calls is covered in a call that begins
pub covers_begun : (p : Program) (v w : PoolView) (lives : Home → Type 0) → w.conn ≡ v.conn → ((n : ℕ) → is_live v.pools n ≡ true → is_live w.pools n ≡ true)
    → ((k : PoolRef) (n : ℕ) → named_at v k ≡ Some n → named_at w k ≡ Some n) → (h : Homes) (x : Home) → Covers p v NoneLives h x → Covers p w lives h x
covers_begun p v w lives conn live named h home.Free c = tt
covers_begun p v w lives conn live named h (home.Call n) c = absurd c.1
covers_begun p v w lives conn live named h (home.Pool n) c = (live n c.0, why c.1) where
  why : CoversPool p v NoneLives h n → CoversPool p w lives h n
  why (ByConnection is) = ByConnection (is ∙ sym conn)
  why (ByMember k d top low at member under) = ByMember k d top low (named k n at) member under
  why (ByDead k top at dead) = ByDead k top (named k n at) dead
  why (ByCall c l) = absurd l
covers_begun p v w lives conn live named h home.Ended c = c
