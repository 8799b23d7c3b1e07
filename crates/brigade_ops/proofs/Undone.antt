-- A payload that was registered and is killed again leaves the pools as they were.
use Rattle.std.proofs.Common.{◌≡◌, ℕ, Bool, true, false, ◌||◌, cond, List, [], ◌∷◌, ◌++◌, refl, ap, ◌∙◌}
use Rattle.std.specs.List.{list_any}
use Rattle.run_model.specs.Indexed.{upd}
use Rattle.run_model.specs.declared.effect.CleanupKind.TheVariants.{Plain}
use Rattle.run_model.specs.Pools.{Pools, Cleanups, with_one, is_live, registered, registered_as}
use Rattle.run_model.specs.RunOrder.{killed, without_last}
use Rattle.run_model.proofs.Updates.{upd_at, upd_upd, upd_same}

or_true : (a : Bool) → (a || true) ≡ true
or_true true = refl
or_true false = refl

last_any : {X : Type 0} (test : X → Bool) (xs : List X) (x : X) → test x ≡ true → list_any test (xs ++ x ∷ []) ≡ true
last_any test [] x passes = ap (λ b. b || false) passes
last_any test (y ∷ ys) x passes = ap (λ b. test y || b) (last_any test ys x passes) ∙ or_true (test y)

without_newest : {X : Type 0} (test : X → Bool) (xs : List X) (x : X) → test x ≡ true → without_last test (xs ++ x ∷ []) ≡ xs
unfolding without_last
without_newest test [] x passes = ap (λ b. cond b [] (x ∷ [])) passes
without_newest test (y ∷ ys) x passes =
    ap (λ b. cond b (y ∷ without_last test (ys ++ x ∷ [])) (cond (test y) (ys ++ x ∷ []) (y ∷ (ys ++ x ∷ [])))) (last_any test ys x passes)
    ∙ ap (λ zs. y ∷ zs) (without_newest test ys x passes)

abbrev with_payloads : {T : Type 0} → Pools T → (ℕ → Cleanups T) → Pools T
with_payloads ps f = record ps { payloads = f }

pub killed_again : {T : Type 0} (ps : Pools T) (p : ℕ) (test : T → Bool) (x : T) → test x ≡ true → killed p test (registered p x ps) ≡ ps
unfolding killed registered_as
killed_again {T} ps p test x passes =
    let c = ps.payloads p in
    let more : Cleanups T = with_one Plain x c in
    let less : Cleanups T → Cleanups T = λ (d : Cleanups T). record d { plain = without_last test d.plain } in
    ap (with_payloads ps)
    (upd_upd ps.payloads p more (less (upd ps.payloads p more p))
    ∙ (ap (λ (d : Cleanups T). upd ps.payloads p d) (ap less (upd_at ps.payloads p more) ∙ ap (λ (xs : List T). record c { plain = xs }) (without_newest test c.plain x passes))
    ∙ upd_same ps.payloads p))

-- a payload more leaves the pools that there are
pub live_registered : {T : Type 0} (ps : Pools T) (p n : ℕ) (x : T) → is_live ps n ≡ true → is_live (registered p x ps) n ≡ true
unfolding registered_as is_live
live_registered ps p n x live = live

-- so does a payload less
pub live_killed : {T : Type 0} (ps : Pools T) (p n : ℕ) (test : T → Bool) → is_live ps n ≡ true → is_live (killed p test ps) n ≡ true
unfolding killed is_live
live_killed ps p n test live = live
