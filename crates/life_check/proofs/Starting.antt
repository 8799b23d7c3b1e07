-- What is known of the instance where a call begins.
use Rattle.std.proofs.Common.{◌≡◌, ℕ, true, ◌&&◌, not, Option, Some, None, sym, subst}
use Rattle.module_code.specs.Program.{Program}
use Rattle.run_model.specs.declared.bucket.Home.{Home}
use Rattle.run_model.specs.declared.bucket.PoolVar.TheVariants as poolvar
use Rattle.run_model.specs.Pools.{is_live}
use Rattle.run_model.specs.State.{Configuration, Call, Shared, Out}
use Rattle.life_state.specs.States.{Homes, CursorKnown, Unset, State}
use Rattle.life_state.specs.InForm.{is_formed}
use Rattle.life_state.proofs.Tests.{split2, split3}
use Rattle.life_check.specs.Certificates.{IsBoundedSome}
use Rattle.life_check.specs.Meaning.{FitsCursor, Differ, Fits}
use Rattle.life_check.specs.Typed.{declares, has_in, has_no_cursor, fits_between}
use Rattle.life_check.proofs.Standards.{no_cursors}
use Rattle.life_check.proofs.Pools.{pool_kept, brigade_more}

-- another call of the same instance, whose state has no cursors
pub calm_fits : (C D : Homes → Home → Type 0) (s : State) (r : Configuration) (call : Call) (shared : Shared) (pc : ℕ) (out : Out)
    → ((c : ℕ) → s.cursors c ≡ Unset) → ((c d : ℕ) → s.facts c d ≡ true → Differ (call.cursors c) (call.cursors d))
    → ((h : Homes) (x : Home) → C h x → D h x) → ((q n : ℕ) → r.instance.pools q ≡ poolvar.Made n → is_live shared.pools n ≡ is_live r.shared.pools n)
    → Fits C s r → Fits D s (record { instance = r.instance; call = call; shared = shared; pc = pc; out = out })
calm_fits C D s r call shared pc out unset facts more lives f =
    let new : Configuration = record { instance = r.instance; call = call; shared = shared; pc = pc; out = out } in
    record {
      sent = f.sent;
      pools = λ q. pool_kept r.shared.pools shared.pools (s.pools q) (r.instance.pools q) (lives q) (f.pools q);
      brigades = λ b. brigade_more C D more (s.brigades b) (r.instance.brigades b) (f.brigades b);
      cursors = λ c. subst (λ (k : CursorKnown). FitsCursor D new k (call.cursors c)) (sym (unset c)) tt;
      facts = facts;
    }

-- what is known between calls has no cursors
pub between_unset : (p : Program) (o : Option State) (s : State) → IsBoundedSome o → fits_between p o ≡ true → o ≡ Some s → (c : ℕ) → s.cursors c ≡ Unset
between_unset p None s bounded fit is = cc
between_unset p (Some t) s bounded fit is = subst (λ (x : State). (c : ℕ) → x.cursors c ≡ Unset) (same is)
    (no_cursors t bounded (split3 (declares p t) (not (has_in t)) (has_no_cursor t) (split2 (declares p t && not (has_in t) && has_no_cursor t) (is_formed t) fit).0).2) where
      same : Some t ≡ Some s → t ≡ s
      same e = cc
