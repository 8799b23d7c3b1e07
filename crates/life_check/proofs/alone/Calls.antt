-- What is known where a call begins, where a brigade is handed over, where a request ends, and among what others leave.
use Rattle.std.proofs.Common.{◌≡◌, ℕ, true, [], Option, Some, None, refl, sym, ◌∙◌, subst, length}
use Rattle.module_code.specs.Program.{Program, IsModule}
use Rattle.run_model.specs.declared.bucket.BrigadeVar.{BrigadeVar}
use Rattle.run_model.specs.declared.bucket.Cursor.TheVariants as cursor
use Rattle.run_model.specs.declared.bucket.Home.{Home}
use Rattle.run_model.specs.State.{Configuration, pool_view, fresh_call, Shared, Out, PoolView, named_at}
use Rattle.run_model.specs.Passing.{set_in, handler_at}
use Rattle.life_state.specs.declared.parts.Contents.TheVariants.{NoLateData}
use Rattle.life_state.specs.Rules.{at_main, at_open}
use Rattle.life_state.specs.States.{Homes, only_call, holds, CursorKnown, Unset, State}
use Rattle.life_check.specs.Certificates.{Certificate, AllBounded}
use Rattle.life_check.specs.Meaning.{Covers, Between, FitsBrigade, FitsCursor, Fits, CoversPool, ByConnection, ByMember, ByDead, ByCall}
use Rattle.life_check.specs.Soundness.{FitsSome, request_ended}
use Rattle.life_check.proofs.Starting.{between_unset}
use Rattle.life_check.proofs.Pools.{brigade_more, pool_kept, cursor_more}
use Rattle.life_check.proofs.Standards.{unset_differ, covers_begun}
use Rattle.life_check.proofs.Standing.{upd_both}
use Rattle.module_code.specs.declared.instr.PoolRef.{PoolRef}
use Rattle.run_model.specs.declared.bucket.Home.TheVariants as home
use Rattle.run_model.specs.declared.bucket.PoolVar.TheVariants as poolvar
use Rattle.run_model.specs.Pools.{is_live}
use Rattle.run_model.specs.Sound.{Sound}
use Rattle.life_state.proofs.Tests.{split3}
use Rattle.life_check.specs.Typed.{IsTyped, flows, fits_between, fits_lines, request_end}
use Rattle.model_laws.specs.AsDeclared.{AsDeclared}
use Rattle.life_check.proofs.Cleared.{request_end_lands}
use Rattle.run_model.specs.declared.bucket.Brigade.{Brigade}
use Rattle.run_model.specs.declared.bucket.BrigadeVar.TheVariants as var
use Rattle.run_model.specs.declared.bucket.Mark.TheVariants.{Passed}
use Rattle.run_model.specs.Faults.{usable_fault}
use Rattle.run_model.specs.Steps.{handed_over}

-- Before a handler.

-- what is known before the first call: where `open` is still to run, or in a request `init`
abbrev pub before : Program → Certificate → Option ℕ → Option State
before p m None = Some (at_open (length p.pools) (length p.brigades))
before p m (Some req) = m.idle

-- what is known before a handler has no cursors
pub before_unset : (p : Program) (m : Certificate) (req : Option ℕ) (s : State) → AllBounded m → IsTyped p m → before p m req ≡ Some s → (i : ℕ) → s.cursors i ≡ Unset
before_unset p m None s bounded typed is i = subst (λ (t : State). t.cursors i ≡ Unset) (same is) refl where
  same : Some (at_open (length p.pools) (length p.brigades)) ≡ Some s → at_open (length p.pools) (length p.brigades) ≡ s
  same e = cc
before_unset p m (Some n) s bounded typed is i = between_unset p m.idle s bounded.idle (split3 (fits_between p m.idle) (fits_between p m.ready) (fits_lines p m) typed.shape).0 is i

-- and flows to where the handler begins
pub before_flows : (p : Program) (m : Certificate) (req : Option ℕ) → IsTyped p m → flows (before p m req) (m.at (handler_at req p)) ≡ true
before_flows p m None typed = typed.opens
before_flows p m (Some n) typed = typed.inits

-- `main` begins, with this in `in`
pub main_begins : (p : Program) (lives : Home → Type 0) (v : BrigadeVar) (s : State) (r : Configuration) (name next to : ℕ) → ((i : ℕ) → s.cursors i ≡ Unset)
    → (let new : Configuration = record { instance = set_in v r.instance; call = fresh_call name; shared = record r.shared { next = next }; pc = to; out = r.out } in
    FitsBrigade (Covers p (pool_view new) lives) (holds NoLateData only_call) v → Fits (Between p r) s r → Fits (Covers p (pool_view new) lives) (at_main s) new)
main_begins p lives v s r name next to unset handed f =
    let new : Configuration = record { instance = set_in v r.instance; call = fresh_call name; shared = record r.shared { next = next }; pc = to; out = r.out } in
    let D : Homes → Home → Type 0 = Covers p (pool_view new) lives in
    record {
      sent = f.sent;
      pools = f.pools;
      brigades = upd_both (FitsBrigade D) s.brigades r.instance.brigades 8 (holds NoLateData only_call) v handed
          (λ b differ. brigade_more (Between p r) D (covers_begun p (pool_view r) (pool_view new) lives refl (λ k live. live) (λ k m e. e)) (s.brigades b) (r.instance.brigades b) (f.brigades b));
      cursors = λ i. subst (λ (k : CursorKnown). FitsCursor D new k cursor.Unset) (sym (unset i)) tt;
      facts = λ i j e. unset_differ;
    }

-- Among others.

-- more lives, and what is named and live stays so
pub covers_more : (p : Program) (v w : PoolView) (lives more : Home → Type 0) → w.conn ≡ v.conn → ((n : ℕ) → is_live v.pools n ≡ true → is_live w.pools n ≡ true)
    → ((k : PoolRef) (n : ℕ) → named_at v k ≡ Some n → named_at w k ≡ Some n) → ((x : Home) → lives x → more x) → (h : Homes) (x : Home) → Covers p v lives h x → Covers p w more h x
covers_more p v w lives more conn live named still h home.Free c = tt
covers_more p v w lives more conn live named still h (home.Call n) c = (c.0, still (home.Call n) c.1)
covers_more p v w lives more conn live named still h (home.Pool n) c = (live n c.0, why c.1) where
  why : CoversPool p v lives h n → CoversPool p w more h n
  why (ByConnection is) = ByConnection (is ∙ sym conn)
  why (ByMember k d top low at member under) = ByMember k d top low (named k n at) member under
  why (ByDead k top at dead) = ByDead k top (named k n at) dead
  why (ByCall call l) = ByCall call (still (home.Pool n) l)
covers_more p v w lives more conn live named still h home.Ended c = c

-- the same instance and call, among others
pub fits_among : (C D : Homes → Home → Type 0) (s : State) (r : Configuration) (shared : Shared) (pc : ℕ) (out : Out) → ((h : Homes) (x : Home) → C h x → D h x)
    → ((q n : ℕ) → r.instance.pools q ≡ poolvar.Made n → is_live shared.pools n ≡ is_live r.shared.pools n) → Fits C s r
    → Fits D s (record { instance = r.instance; call = r.call; shared = shared; pc = pc; out = out })
fits_among C D s r shared pc out more lives f =
    let new : Configuration = record { instance = r.instance; call = r.call; shared = shared; pc = pc; out = out } in
    record {
      sent = f.sent;
      pools = λ q. pool_kept r.shared.pools shared.pools (s.pools q) (r.instance.pools q) (lives q) (f.pools q);
      brigades = λ b. brigade_more C D more (s.brigades b) (r.instance.brigades b) (f.brigades b);
      cursors = λ c. cursor_more C D more r new refl (λ b usable. refl) (s.cursors c) (r.call.cursors c) (f.cursors c);
      facts = f.facts;
    }

-- A request ends.
pub ended_fits : (p : Program) (req : ℕ) (r : Configuration) (o : Option State) → IsModule p → Sound r → AsDeclared p r → r.shared.req ≡ Some req → FitsSome (Between p r) o r
    → FitsSome (Between p (request_ended req r)) (request_end p o) (request_ended req r)
ended_fits p req r None proper sound declared is h = absurd h
ended_fits p req r (Some s) proper sound declared is h = request_end_lands p req r s proper sound declared is h

-- A brigade is handed over.

-- what a brigade that may be used is once it is handed over
pub handed_live : (v : BrigadeVar) → usable_fault v ≡ None → (x : Brigade) × (handed_over v ≡ var.Live x) × (x.mark ≡ Passed)
handed_live var.Null h = absurd (cc)
handed_live var.Gone h = absurd (cc)
handed_live (var.Live v) h = (record v { mark = Passed; items = [] }, refl, refl)
