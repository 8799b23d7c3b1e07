-- `write` moves a value into the bytes of an empty place. Assumes `Logic`.
use Rattle.raw_block.proofs.Steps.{◌≡◌, ℕ, ◌+◌, ◌*◌, ◌<◌, ◌^◌, List, [], ◌∷◌, length, get_or, Option, None, Some, refl, ap, sym, subst, ◌∙◌, arith, w64, proved_at, full_share, ent, id⊢, ftrue, fat}
use Rattle.raw_block.proofs.Steps.{flft, named, inst_fn, Val, vint, vunit, WpFn, fact, tables, ◌⊑◌, Item, ‵, raw, ◌⊛◌, at_ret, ◌$◌, ◌∵◌, !, qed, move, keep, use1, use2, split, join, rewrite, fsplit}
use Rattle.raw_block.proofs.Steps.{fsplit3, fjoin, fjoin3, feq_i, flt_l, flt_i, suffices, frame, done, whole, sub, stop, fld, unit_lit, init, of_opd, bin, size_word, assigns_last, first, blocks, exec}
use Rattle.raw_block.proofs.Steps.{returns, enter, alloc_all, pass_all, free_all, look_at, take_at, give_at, get, get_in, through, sets, is, env, usize, yes, no, layout, uint_vals, Ptr, in_a_block}
use Rattle.raw_block.proofs.Steps.{MutRef, mut_vals, plain, nothing, opens, closes, heard, says, Stays, stay_dropped, stay_ref, walk_of, ends_at, Goes-dropped, Goes-ref, word, word-Good, as_written}
use Rattle.raw_block.proofs.Steps.{after, El, R, args, el_x, elτ, uncapped, Cr, Br, size_of, base_vals, base_tells, mark, begins_below, small_as}
use Rattle.core.proofs.ptr.Rows.{el_in}
use Rattle.raw_block.specs.Lends.{with_place}
use Rattle.raw_block.specs.Ownership.{place_owned, run_owned, gap_owned, row_owned}
use Rattle.core.proofs.mem.Param.{one, lawful}
use Rattle.raw_block.proofs.Rows.{taken_out, put_back}
use Rattle.raw_block.specs.contracts.cells.Cells.write as f
use Rattle.raw_block.proofs.cells.Cells.write.Statement.{statement}
use Rattle.raw_block.proofs.cells.Cells.write.Code as code

abbrev stayed : (E : El) → Stays (f.ended E.row).signature.params (f.ended E.row).kept
stayed E = (stay_ref (0 ∷ []) tt (plain (λ _. Cr E)), (stay_dropped _ no, (stay_dropped _ yes, (stay_dropped _ no, tt))))

pub write_spec : {M : Type 1} → statement M
write_spec 𝓤 𝓛 𝓜 𝓡 wired X LX =
    let E : El = record { row = X; laws = LX } in
    let c = f.clauses X 𝓛 𝓜.mem 𝓡.returns in let W = walk_of 𝓛 (f.ended X) (stayed E) c in let 𝓣 = tables 𝓤 𝓛.H 𝓜 𝓡 𝓡.env in
    let fn = inst_fn (args E) code.function in
    proved_at 𝓛 (f.ended X) (stayed E) c 𝓜 𝓡 (
      Goes-ref 𝓛 2 0 tt (plain (λ _. Cr E)),
      (
        Goes-dropped 𝓛 2 (plain (λ _. Br E)) no (λ κs x w. refl),
        (Goes-dropped 𝓛 2 (plain (λ _. usize)) yes (λ κs x w. refl), (Goes-dropped 𝓛 2 (plain (λ _. R E)) no (λ κs x w. refl), tt)),
      ),
    )
    (f.Key.name (args E)) fn (code.unfolded 𝓤 𝓛.H 𝓜 𝓡 wired (X, tt)) (λ z are.
    let κs = z.0.0 in let qs = z.0.1 in let a = z.0.3 in
    let κ = κs.0 in let self = a.0 in let d = self.now in let base = a.1.0 in let k = a.1.1.0 in let x = a.1.1.1.0 in let ps = d.places in let s = size_of E in let new = with_place d k (Some x) in
    let got = one E z.0.4.1.1.1.0 ((lawful E 𝓛).typed x z.0.4.1.1.1.0 are.1.1.1.0) in let v : Val = got.0 in let good = got.2 in
    let at_vals : List Val × List Val × List Val × List Val → W.Ghost = λ us. ((κs, qs, z.0.2, a, (us.0, (us.1, (us.2, (us.3, tt))))), z.1) in
    let vals : List Val × List Val × List Val × List Val = (mut_vals self, base_vals E base, uint_vals w64 k, v ∷ []) in
    let y : W.Ghost = at_vals vals in
    let Asks : Type 0 = (base.ptr ≡ d.start) × (k < length ps) × (get_or ps k None ≡ None) in
    let Others : Item 𝓤 = ‵ (flft κs.1.0 qs.1.0) ⊛ ‵ ftrue in
    subst (λ (us : List Val × List Val × List Val × List Val). ent 𝓤 (W.pre (at_vals us)) (WpFn 𝓤 𝓛.H 𝓣.C 𝓣.Λ fn (W.args (at_vals us)) (W.post (at_vals us))))
    (λ i. (sym are.0.0 i, sym (base_tells E base z.0.4.1.0 are.1.0) i, sym are.1.1.0.0 i, sym got.1 i)) (
    qed 𝓛 (((‵ (flft κ qs.0) ⊛ Others) ⊛
    (‵ ((MutRef (named 0) κ (Cr E)).own_val self (mut_vals self)) ⊛ ‵ ((Br E).own_val base (base_vals E base)) ⊛ ‵ (usize.own_val k (uint_vals w64 k)) ⊛ ‵ ((R E).own_val x (v ∷ [])) ⊛ ‵ ftrue))
    ∷ (raw (fact 𝓤 (κs.1.0 ⊑ X.lives)) ⊛ raw (fact 𝓤 Asks)) ∷ []) ∵
    split ! $ move ! (2 ∷ []) $ split ! $ heard ! (κs.1.0 ⊑ X.lives) (λ lives. heard ! Asks (λ asked.
    split ! $ move ! (2 ∷ []) $ split ! $ fsplit3 ! $ move ! (3 ∷ []) $ split ! $ move ! (1 ∷ []) $ split ! $ move ! (1 ∷ []) $ split ! $
    -- [what the value owns; nothing; the index; the base; self, in three entries; the tokens]
    keep ! (5 ∷ 6 ∷ 7 ∷ 0 ∷ 8 ∷ []) $ let within = asked.1 in
    enter ! _ _ _ _ _ $ alloc_all ! (λ l. pass_all ! refl ((tt, tt), (word-Good [] base.ptr, ((tt, record { fits = are.1.1.0.1 }), (good, tt)))) $
    opens ! tt (Cr E) {h = d} self.ref_ptr.0 self.ref_ptr.1 (λ vs. move ! (1 ∷ []) $ fsplit ! $ move ! (1 ∷ []) $
    in_a_block ! d.start (λ (p : Ptr). row_owned (R E) p ps) (id⊢ 𝓤 _) (λ b o e. fsplit ! $ flt_l ! (λ small.
    let far : k * s < 2 ^ 64 = begins_below k (length ps) s (omega (arith, within)) small in let at : ℕ = k * s + o in
    take_at ! 2 $ rewrite ! 0 (λ (p : Ptr). ‵ (fat full_share (layout (Br E)) (l 2) 0 (word p))) (asked.0 ∙ e) refl $ give_at ! 2 $ first ! $ blocks ! $
    sets ! (is ! (bin ! (get ! refl) (size_word !) (record { fits = subst (λ (n : ℕ). n < 2 ^ 64) (sym (uncapped k s far)) far })) (ap (vint w64) (uncapped k s far))) refl
    (tt, record { fits = far }) $
    sets ! (bin ! (get_in ! (fld ! refl (stop !)) (sub ! 0 refl (whole !))) (get ! refl) tt) refl (tt, tt) $
    use1 𝓛 (‵ (place_owned (R E) b at (get_or ps k None)) ⊛ ‵ (gap_owned (R E) b o ps k)) (taken_out E 𝓛 b ps k o within) $ split ! $
    rewrite ! 0 (λ (p : Option (el_x E)). ‵ (place_owned (R E) b at p)) asked.2 refl $ as_written ! (elτ E) b at $
    -- [the place's bytes; the other places; the mark; its cell; the open borrow, in three entries; what the value owns; the tokens]
    sets ! (of_opd ! (get ! refl)) refl good $ assigns_last ! (of_opd ! (get ! refl)) (through ! refl (stop !)) (init ! 0 refl good) $
    exec ! 𝓣.C 𝓣.Λ (env fn.locals l) (after 1 fn.body) (at_ret _ (W.post y)) $ sets ! (of_opd ! (unit_lit !)) refl (tt, tt) $
    move ! (0 ∷ 7 ∷ []) $ use2 𝓛 (‵ (place_owned (R E) b at (Some x))) (el_in (record { row = X; laws = LX }) 𝓛 full_share x b at v) $
    use2 𝓛 (‵ (run_owned (R E) b o new.places)) (put_back E 𝓛 b ps k o (Some x) within) $
    flt_i ! (length new.places * s) (2 ^ 63) (small_as ps k s (Some x) small) $ fjoin ! $ rewrite ! 0 (λ (p : Ptr). ‵ (row_owned (R E) p new.places)) (sym e) refl $
    move ! (1 ∷ []) $ fjoin ! $ move ! (1 ∷ []) $ closes ! tt (Cr E) new vs self.ref_ptr.0 self.ref_ptr.1 $
    -- [two parts of self; the first token; the other tokens]
    returns ! (look_at ! 0 refl) $ free_all ! refl $
    suffices ! _ (ends_at 𝓛 (f.ended X) (stayed E) c y vunit tt (new, (tt, (tt, (tt, tt)))) (tt, (tt, (tt, (tt, tt))))) $ says ! refl $
    move ! (2 ∷ 3 ∷ []) $ join ! $ frame ! $ feq_i ! (List Val) (mut_vals self) (mut_vals self) refl $ fjoin3 ! $ feq_i ! (List Val) (vunit ∷ []) (vunit ∷ []) refl $
    nothing ! $ nothing ! $ fjoin ! $ nothing ! $ fjoin ! $ nothing ! $ fjoin ! $ move ! (2 ∷ 0 ∷ []) $ fjoin ! $ done !))))))))
