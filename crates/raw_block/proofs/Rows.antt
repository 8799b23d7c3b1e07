-- A place is taken out of a row and put back, seen through a `&`, and made of fresh bytes. Assumes `Logic`.
use Rattle.std.proofs.Common.{◌≡◌, ℕ, zero, suc, ◌+◌, ◌*◌, ◌<◌, ◌≤◌, List, [], ◌∷◌, length, set, get_or, replicate, Option, None, Some, is_some, true, refl, ap, sym, subst, ◌∙◌, arith}
use native.Mathlib.Nat.{zero-mul, suc-mul}
use seplogic.Ra.Ura.{Ura}
use mir.Syntax.{ty_array}
use base.Logic.{SProp, ent, sep, emp, via, snd∗, id⊢, mono_r}
use base.Fml.{Lft, froom}
use types.Logic.{Logic, sem}
use types.Kit.{‵, ◌⊛◌, ◌$◌, ◌∵◌, !, qed, by, move, keep, use1, split, frame, fsplit, fjoin, rewrite, done}
use denote.Slice.{elements_shared}
use Rattle.std.specs.Mem.{type_size}
use Rattle.core.proofs.mem.Param.{El, R, el_x, elτ}
use Rattle.raw_block.specs.Maps.{read}
use Rattle.raw_block.specs.Ownership.{place_owned, run_owned, gap_owned, place_shared, run_shared}
use Rattle.raw_block.proofs.Places.{read_shift}

first_at : (s o : ℕ) → zero * s + o ≡ o
first_at s o = omega (arith, zero-mul s)

next_at : (k s o : ℕ) → k * s + (o + s) ≡ suc k * s + o
next_at k s o = omega (arith, suc-mul k s)

module _ (E : El) {M : Type 1} {𝓤 : Ura M} (𝓛 : Logic 𝓤) (b : ℕ) where
  open 𝓛 use {H}

  abbrev s : ℕ
  s = type_size (R E)

  abbrev Places : Type 0
  Places = List (Option (el_x E))

  abbrev Run : ℕ → Places → SProp 𝓤
  Run o ps = sem 𝓛 (run_owned (R E) b o ps)

  abbrev Gap : ℕ → Places → ℕ → SProp 𝓤
  Gap o ps k = sem 𝓛 (gap_owned (R E) b o ps k)

  abbrev OwnedPlace : ℕ → Option (el_x E) → SProp 𝓤
  OwnedPlace o p = sem 𝓛 (place_owned (R E) b o p)

  pub taken_out : (ps : Places) (k o : ℕ) → k < length ps → ent 𝓤 (Run o ps) (sep 𝓤 (OwnedPlace (k * s + o) (get_or ps k None)) (Gap o ps k))
  taken_out [] k o lt = absurd (omega (arith, lt))
  taken_out (p ∷ ps) zero o lt = subst (λ at. ent 𝓤 (Run o (p ∷ ps)) (sep 𝓤 (OwnedPlace at p) (Run (o + s) ps))) (sym (first_at s o)) (id⊢ 𝓤 _)
  taken_out (p ∷ ps) (suc k) o lt = qed 𝓛 (‵ (run_owned (R E) b o (p ∷ ps)) ∷ []) ∵ fsplit ! $ move ! (1 ∷ []) $
      use1 𝓛 (‵ (place_owned (R E) b (k * s + (o + s)) (get_or ps k None)) ⊛ ‵ (gap_owned (R E) b (o + s) ps k)) (taken_out ps k (o + s) (omega (arith, lt))) $ split ! $
      rewrite ! 0 (λ (at : ℕ). ‵ (place_owned (R E) b at (get_or ps k None))) (next_at k s o) refl $ move ! (2 ∷ 1 ∷ []) $ fjoin ! $ move ! (1 ∷ 0 ∷ []) $ done !

  pub put_back : (ps : Places) (k o : ℕ) (w : Option (el_x E)) → k < length ps → ent 𝓤 (sep 𝓤 (OwnedPlace (k * s + o) w) (Gap o ps k)) (Run o (set ps k w))
  put_back [] k o w lt = absurd (omega (arith, lt))
  put_back (p ∷ ps) zero o w lt = subst (λ at. ent 𝓤 (sep 𝓤 (OwnedPlace at w) (Run (o + s) ps)) (Run o (w ∷ ps))) (sym (first_at s o)) (id⊢ 𝓤 _)
  put_back (p ∷ ps) (suc k) o w lt = qed 𝓛 (‵ (place_owned (R E) b (suc k * s + o) w) ∷ ‵ (gap_owned (R E) b o (p ∷ ps) (suc k)) ∷ []) ∵
      rewrite ! 0 (λ (at : ℕ). ‵ (place_owned (R E) b at w)) (sym (next_at k s o)) refl $ move ! (1 ∷ []) $ fsplit ! $ frame ! $ move ! (1 ∷ 0 ∷ []) $
      by ! (put_back ps k (o + s) w (omega (arith, lt)))

  -- fresh bytes for n values are n empty places
  pub of_room : (n o : ℕ) → ent 𝓤 (H.room (ty_array (elτ E) n) b o) (Run o (replicate n None))
  of_room zero o = qed 𝓛 (‵ (froom (ty_array (elτ E) zero) b o) ∷ []) ∵ keep ! [] $ done !
  of_room (suc n) o = qed 𝓛 (‵ (froom (ty_array (elτ E) (suc n)) b o) ∷ []) ∵
      use1 𝓛 (‵ (froom (elτ E) b o) ⊛ ‵ (froom (ty_array (elτ E) n) b (o + s))) (𝓛.laws.room_uncons (elτ E) n b o) $ split ! $
      use1 𝓛 (‵ (place_owned (R E) b o None)) (𝓛.laws.room-raw (elτ E) b o) $ frame ! $ by ! (of_room n (o + s))

  pub to_room : (n o : ℕ) → ent 𝓤 (Run o (replicate n None)) (H.room (ty_array (elτ E) n) b o)
  to_room zero o = 𝓛.laws.room_nil (elτ E) b o
  to_room (suc n) o = qed 𝓛 (‵ (run_owned (R E) b o (replicate (suc n) None)) ∷ []) ∵ fsplit ! $
      use1 𝓛 (‵ (froom (elτ E) b o)) (𝓛.laws.raw-room (elτ E) b o) $ move ! (1 ∷ []) $
      use1 𝓛 (‵ (froom (ty_array (elτ E) n) b (o + s))) (to_room n (o + s)) $ move ! (1 ∷ 0 ∷ []) $ by ! (𝓛.laws.room_cons (elτ E) n b o)

  module _ (κ : Lft) where
    abbrev SharedRun : ℕ → Places → SProp 𝓤
    SharedRun o ps = sem 𝓛 (run_shared (R E) b o ps κ)

    pub seen : (ps : Places) (k o : ℕ) → k < length ps → ent 𝓤 (SharedRun o ps) (sem 𝓛 (place_shared (R E) b (k * s + o) (get_or ps k None) κ))
    seen [] k o lt = absurd (omega (arith, lt))
    seen (p ∷ ps) zero o lt = qed 𝓛 (‵ (run_shared (R E) b o (p ∷ ps) κ) ∷ []) ∵ fsplit ! $ keep ! (0 ∷ []) $
        rewrite ! 0 (λ (at : ℕ). ‵ (place_shared (R E) b at p κ)) (sym (first_at s o)) refl $ done !
    seen (p ∷ ps) (suc k) o lt =
        via 𝓤 (SharedRun (o + s) ps) (snd∗ 𝓤 (sem 𝓛 (place_shared (R E) b o p κ)) (SharedRun (o + s) ps))
        (subst (λ at. ent 𝓤 (SharedRun (o + s) ps) (sem 𝓛 (place_shared (R E) b at (get_or ps k None) κ))) (next_at k s o) (seen ps k (o + s) (omega (arith, lt))))

    seen_first : (ps : Places) (n o : ℕ) → n ≤ length ps → ((j : ℕ) → j < n → is_some (get_or ps j None) ≡ true)
        → ent 𝓤 (SharedRun o ps) (sem 𝓛 (elements_shared (R E) (read (λ j. get_or ps j None) zero n) b o κ))
    seen_first ps zero o within full = qed 𝓛 (‵ (run_shared (R E) b o ps κ) ∷ []) ∵ keep ! [] $ done !
    seen_first [] (suc n) o within full = absurd (omega (arith, within))
    seen_first (None ∷ ps) (suc n) o within full = let bad = full zero (omega arith) in absurd (cc)
    seen_first (Some x ∷ ps) (suc n) o within full =
        subst (λ (xs : List (el_x E)). ent 𝓤 (SharedRun o (Some x ∷ ps)) (sem 𝓛 (elements_shared (R E) (x ∷ xs) b o κ))) (read_shift (λ j. get_or (Some x ∷ ps) j None) zero n)
        (mono_r 𝓤 (sem 𝓛 (place_shared (R E) b o (Some x) κ)) (seen_first ps n (o + s) (omega (arith, within)) (λ j lt. full (suc j) (omega (arith, lt)))))

    -- n values side by side, from place k on
    pub seen_run : (ps : Places) (k n o : ℕ) → k + n ≤ length ps → ((j : ℕ) → k ≤ j → j < k + n → is_some (get_or ps j None) ≡ true)
        → ent 𝓤 (SharedRun o ps) (sem 𝓛 (elements_shared (R E) (read (λ j. get_or ps j None) k n) b (k * s + o) κ))
    seen_run ps zero n o within full =
        subst (λ at. ent 𝓤 (SharedRun o ps) (sem 𝓛 (elements_shared (R E) (read (λ j. get_or ps j None) zero n) b at κ))) (sym (first_at s o))
        (seen_first ps n o (omega (arith, within)) (λ j lt. full j (omega arith) (omega (arith, lt))))
    seen_run [] (suc k) n o within full = absurd (omega (arith, within))
    seen_run (p ∷ ps) (suc k) n o within full =
        via 𝓤 (SharedRun (o + s) ps) (snd∗ 𝓤 (sem 𝓛 (place_shared (R E) b o p κ)) (SharedRun (o + s) ps))
        (subst (λ (c : ℕ × List (el_x E)). ent 𝓤 (SharedRun (o + s) ps) (sem 𝓛 (elements_shared (R E) c.1 b c.0 κ))) (λ i. (next_at k s o i, read_shift (λ j. get_or (p ∷ ps) j None) k n i))
        (seen_run ps k n (o + s) (omega (arith, within)) (λ j lo hi. full (suc j) (omega (arith, lo)) (omega (arith, hi)))))
