-- What a new pool and a killed label leave of the others.
use Rattle.run_model.specs.declared.effect.CleanupKind.TheVariants.{Plain}
use Rattle.std.proofs.Common.{◌≡◌, ◌≢◌, ℕ, Bool, true, false, ◌||◌, not, cond, List, [], ◌∷◌, ◌++◌, inl, inr, All, append-nil, refl, sym, ◌∙◌, ap, arith}
use Rattle.std.proofs.lemmas.Bool.{or_right, false_from_ne_true}
use Rattle.std.proofs.lemmas.List.Elements.{All-head, All-tail}
use Rattle.std.specs.List.{list_any}
use Rattle.std.specs.Cmp.Lexicographic.{bytes_decides}
use Rattle.run_model.specs.declared.payload.Payload.{Payload}
use Rattle.run_model.specs.declared.payload.Payload.TheVariants.{Label, FileRef, Brigade}
use Rattle.run_model.specs.Indexed.{upd}
use Rattle.run_model.specs.Pools.{Pools, is_empty, is_live, created, registered, registered_as, Cleanups, no_cleanups, with_one}
use Rattle.run_model.specs.RunOrder.{IsPoolMap, without_last, killed}
use Rattle.run_model.specs.Payloads.{is_label}
use Rattle.run_model.specs.State.{with_pools}
use Rattle.model_laws.specs.Laws.{CreatesKeepOthers, KillsTheNewest, KillsOneLabel}
use Rattle.run_model.proofs.Updates.{upd_at, upd_off, upd_either}
use Rattle.run_model.proofs.PoolMap.{created_at, created_kept, created_next}
use Rattle.run_model.proofs.Formed.{formed_fresh}

-- A new pool.

dead_next : {T : Type 0} (ps : Pools T) → IsPoolMap ps → is_live ps ps.next ≡ false
unfolding is_live
dead_next ps f = ap (λ (path : List ℕ). not (is_empty path)) (formed_fresh ps f ps.next (omega arith))

created_bare : {T : Type 0} (parent : ℕ) (ps : Pools T) → (created parent ps).payloads ps.next ≡ no_cleanups
unfolding created
created_bare parent ps = upd_at ps.payloads ps.next no_cleanups

created_payloads : {T : Type 0} (parent : ℕ) (ps : Pools T) → IsPoolMap ps → (m : ℕ) → is_live ps m ≡ true → (created parent ps).payloads m ≡ ps.payloads m
unfolding created
created_payloads parent ps f m live = upd_off ps.payloads ps.next m no_cleanups (λ e. absurd (omega (arith, e, f.named m live)))

pub creates_keep_others : CreatesKeepOthers
creates_keep_others parent ps f = record {
  fresh = dead_next ps f;
  child = created_at parent ps;
  bare = created_bare parent ps;
  path = λ m live. created_kept parent ps m (f.named m live);
  payloads = created_payloads parent ps f;
  names = created_next parent ps;
}

-- Labels.

found_in : {X : Type 0} (test : X → Bool) (xs ys : List X) (x : X) → test x ≡ true → list_any test (xs ++ x ∷ ys) ≡ true
found_in test [] ys x h = ap (λ b. b || list_any test ys) h
found_in test (y ∷ xs) ys x h = or_right (test y) (list_any test (xs ++ x ∷ ys)) (found_in test xs ys x h)

-- the last item that passes goes
newest_goes : {X : Type 0} (test : X → Bool) (xs ys : List X) (x : X) → test x ≡ true → list_any test ys ≡ false → without_last test (xs ++ x ∷ ys) ≡ xs ++ ys
unfolding without_last
newest_goes test [] ys x h none = ap (λ b. cond b (x ∷ without_last test ys) (cond (test x) ys (x ∷ ys))) none ∙ ap (λ b. cond b ys (x ∷ ys)) h
newest_goes test (y ∷ xs) ys x h none =
    ap (λ b. cond b (y ∷ without_last test (xs ++ x ∷ ys)) (cond (test y) (xs ++ x ∷ ys) (y ∷ (xs ++ x ∷ ys)))) (found_in test xs ys x h)
    ∙ ap (λ zs. y ∷ zs) (newest_goes test xs ys x h none)

either_false : (a b : Bool) → (a || b) ≡ false → (a ≡ false) × (b ≡ false)
either_false true b h = absurd (cc)
either_false false b h = (refl, h)

none_goes : {X : Type 0} (test : X → Bool) (xs : List X) → list_any test xs ≡ false → without_last test xs ≡ xs
unfolding without_last
none_goes test [] h = refl
none_goes test (x ∷ xs) h =
    let parts = either_false (test x) (list_any test xs) h in
    ap (λ b. cond b (x ∷ without_last test xs) (cond (test x) xs (x ∷ xs))) parts.1 ∙ ap (λ b. cond b xs (x ∷ xs)) parts.0

-- the test of a label tells that label
same_label : (text : List ℕ) (y : Payload) → is_label text y ≡ true → y ≡ Label text
same_label text (Label other) h = ap (λ (t : List ℕ). Label t) ((bytes_decides other text).0 h)
same_label text (FileRef file) h = absurd (cc)
same_label text (Brigade name) h = absurd (cc)

no_label : (text : List ℕ) (ys : List Payload) → All (λ y. y ≢ Label text) ys → list_any (is_label text) ys ≡ false
no_label text [] apart = refl
no_label text (y ∷ ys) apart =
    ap (λ b. b || list_any (is_label text) ys) (false_from_ne_true (is_label text y) (λ h. All-head (λ x. x ≢ Label text) y ys apart (same_label text y h)))
    ∙ no_label text ys (All-tail (λ x. x ≢ Label text) y ys apart)

pub kills_the_newest : KillsTheNewest
unfolding with_pools registered_as killed
kills_the_newest n m text r =
    let old : Cleanups Payload = r.shared.pools.payloads n in
    let more : Cleanups Payload = with_one Plain (Label text) old in
    let grown : ℕ → Cleanups Payload = upd r.shared.pools.payloads n more in
    let thin : Cleanups Payload → Cleanups Payload = λ c. record c { plain = without_last (is_label text) c.plain } in
    elim (upd_either grown n m (thin (grown n))) [
      | inl p ↦ p.1 ∙ (ap thin (upd_at r.shared.pools.payloads n more)
          ∙ (ap (λ (xs : List Payload). record old { plain = xs }) (newest_goes (is_label text) old.plain [] (Label text) ((bytes_decides text text).1 refl) refl ∙ append-nil old.plain)
          ∙ ap r.shared.pools.payloads (sym p.0)))
      | inr p ↦ p.1 ∙ upd_off r.shared.pools.payloads n m more p.0
    ]

pub kills_one_label : KillsOneLabel
unfolding with_pools killed
kills_one_label n text r =
    let old : ℕ → Cleanups Payload = r.shared.pools.payloads in
    let left : Cleanups Payload = record (old n) { plain = without_last (is_label text) (old n).plain } in
    record {
      newest = λ xs ys is apart. ap (λ (c : Cleanups Payload). c.plain) (upd_at old n left)
          ∙ (ap (without_last (is_label text)) is ∙ newest_goes (is_label text) xs ys (Label text) ((bytes_decides text text).1 refl) (no_label text ys apart));
      none = λ apart. upd_at old n left ∙ ap (λ (xs : List Payload). record (old n) { plain = xs }) (none_goes (is_label text) (old n).plain (no_label text (old n).plain apart));
      early = ap (λ (c : Cleanups Payload). c.pre) (upd_at old n left);
      others = λ m ne. upd_off old n m left ne;
      path = refl;
      names = refl;
    }
