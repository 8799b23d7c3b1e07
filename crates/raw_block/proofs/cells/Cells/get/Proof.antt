-- `get` computes where the place begins, and shows the value that lies there. Assumes `Logic`.
use Rattle.raw_block.proofs.Steps.{◌≡◌, ℕ, ◌+◌, ◌*◌, ◌<◌, ◌^◌, List, [], ◌∷◌, length, get_or, Option, None, is_some, true, refl, ap, sym, subst, ◌∙◌, arith, w64, proved, full_share, id⊢, ftrue, fat}
use Rattle.raw_block.proofs.Steps.{flft, named, inst_fn, Val, vptr, vint, fact, tables, ◌⊑◌, Item, ‵, raw, ◌⊛◌, at_ret, ◌$◌, ◌∵◌, !, qed, move, keep, drop, use1, split, rewrite, fsplit, fjoin, feq_i}
use Rattle.raw_block.proofs.Steps.{flt_l, suffices, frame, done, whole, sub, stop, fld, of_opd, addr, bin, size_word, first, blocks, exec, returns, enter, alloc_all, pass_all, free_all, look_at}
use Rattle.raw_block.proofs.Steps.{take_at, give_at, get, get_in, through, sets, sets_last, is, env, usize, RefOf, yes, no, hide, unhide, layout, uint_vals, uint_Tells, Ptr, in_a_block, ShrRef}
use Rattle.raw_block.proofs.Steps.{shr_vals, shr_Tells, plain, nothing, heard, says, Stays, stay_dropped, walk_of, ends_at, Goes-dropped, word, word-Good, after, El, R, args, el_x, uncapped, Cr, Br}
use Rattle.raw_block.proofs.Steps.{size_of, base_vals, base_tells, begins_below}
use Rattle.raw_block.specs.Ownership.{place_shared, row_shared}
use Rattle.raw_block.proofs.Places.{full_within, there}
use Rattle.raw_block.proofs.Rows.{seen}
use Rattle.raw_block.specs.contracts.cells.Cells.get as f
use Rattle.raw_block.proofs.cells.Cells.get.Statement.{statement}
use Rattle.raw_block.proofs.cells.Cells.get.Code as code

abbrev stayed : (E : El) → Stays (f.ended E.row).signature.params (f.ended E.row).kept
stayed E = (stay_dropped _ yes, (stay_dropped _ no, (stay_dropped _ yes, tt)))

pub get_spec : {M : Type 1} → statement M
get_spec 𝓤 𝓛 𝓜 𝓡 wired X LX =
    let E : El = record { row = X; laws = LX } in
    let c = f.clauses X 𝓛 𝓜.mem 𝓡.returns in let W = walk_of 𝓛 (f.ended X) (stayed E) c in let 𝓣 = tables 𝓤 𝓛.H 𝓜 𝓡 𝓡.env in
    let fn = inst_fn (args E) code.function in
    proved 𝓛 (f.ended X) (stayed E) c 𝓜 𝓡 (
      Goes-dropped 𝓛 2 (RefOf (0 ∷ []) tt (plain (λ _. Cr E)) (λ _. tt)) yes (λ κs x w. refl),
      (Goes-dropped 𝓛 2 (plain (λ _. Br E)) no (λ κs x w. refl), (Goes-dropped 𝓛 2 (plain (λ _. usize)) yes (λ κs x w. refl), tt)),
    )
    (f.Key.name (args E)) fn (code.unfolded 𝓤 𝓛.H 𝓜 𝓡 wired (X, tt))
    (λ κs. (shr_vals, (base_vals E, (uint_vals w64, tt)))) (λ κs. (shr_Tells (named 0) κs.0 (Cr E), (base_tells E, (uint_Tells w64, tt)))) (λ κs qs bounds a g are.
    let κ = κs.0 in let self = a.0 in let base = a.1.0 in let k = a.1.1.0 in let ps = self.now.places in let s = size_of E in
    let y : W.Ghost = ((κs, qs, bounds, a, (shr_vals self, (base_vals E base, (uint_vals w64 k, tt)))), g) in
    let Asks : Type 0 = (base.ptr ≡ self.now.start) × (is_some (get_or ps k None) ≡ true) in
    let Tokens : Item 𝓤 = ‵ (flft κ qs.0) ⊛ ‵ (flft κs.1.0 qs.1.0) ⊛ ‵ ftrue in
    qed 𝓛 ((Tokens ⊛ (‵ ((ShrRef (named 0) κ (Cr E)).own_val self (shr_vals self)) ⊛ ‵ ((Br E).own_val base (base_vals E base)) ⊛ ‵ (usize.own_val k (uint_vals w64 k)) ⊛ ‵ ftrue))
    ∷ (raw (fact 𝓤 (κs.1.0 ⊑ X.lives)) ⊛ raw (fact 𝓤 Asks)) ∷ []) ∵
    split ! $ move ! (2 ∷ []) $ split ! $ heard ! (κs.1.0 ⊑ X.lives) (λ lives. heard ! Asks (λ asked.
    move ! (1 ∷ []) $ split ! $ fsplit ! $ keep ! (1 ∷ 3 ∷ []) $
    let within = full_within ps k asked.1 in let here = there (get_or ps k None) asked.1 in
    enter ! _ _ _ _ _ $ alloc_all ! (λ l. pass_all ! refl ((tt, tt), (word-Good [] base.ptr, ((tt, record { fits = are.1.1.0.1 }), tt))) $
    -- [the `&` to the places; the tokens]
    unhide ! $ fsplit ! $ drop ! $ in_a_block ! self.now.start (λ (p : Ptr). row_shared (R E) p ps κ) (id⊢ 𝓤 _) (λ b o e. fsplit ! $ flt_l ! (λ small.
    let far : k * s < 2 ^ 64 = begins_below k (length ps) s (omega (arith, within)) small in let at : ℕ = k * s + o in
    take_at ! 2 $ rewrite ! 0 (λ (p : Ptr). ‵ (fat full_share (layout (Br E)) (l 2) 0 (word p))) (asked.0 ∙ e) refl $ give_at ! 2 $ first ! $ blocks ! $
    sets ! (is ! (bin ! (get ! refl) (size_word !) (record { fits = subst (λ (n : ℕ). n < 2 ^ 64) (sym (uncapped k s far)) far })) (ap (vint w64) (uncapped k s far))) refl
    (tt, record { fits = far }) $
    sets ! (bin ! (get_in ! (fld ! refl (stop !)) (sub ! 0 refl (whole !))) (get ! refl) tt) refl (tt, tt) $
    use1 𝓛 (‵ (place_shared (R E) b at (get_or ps k None) κ)) (seen E 𝓛 b κ ps k o within) $
    rewrite ! 0 (λ (p : Option (el_x E)). ‵ (place_shared (R E) b at p κ)) here.1 refl $ hide ! $
    sets_last ! (addr ! (through ! refl (stop !))) refl (tt, tt) $ exec ! 𝓣.C 𝓣.Λ (env fn.locals l) (after 1 fn.body) (at_ret _ (W.post y)) $ sets ! (of_opd ! (get ! refl)) refl (tt, tt) $
    feq_i ! (List Val) (vptr b at ∷ []) (vptr b at ∷ []) refl $ fjoin ! $
    -- [the result; the tokens]
    returns ! (look_at ! 0 refl) $ free_all ! refl $
    suffices ! _ (ends_at 𝓛 (f.ended X) (stayed E) c y (vptr b at) (record { ref_ptr = (b, at); now = here.0 }) (tt, (tt, (tt, tt))) (tt, (tt, (tt, tt)))) $ says ! here.1 $
    move ! (1 ∷ []) $ frame ! $ nothing ! $ nothing ! $ fjoin ! $ nothing ! $ fjoin ! $ nothing ! $ fjoin ! $ done !))))))
