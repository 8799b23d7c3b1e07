-- `read` moves the value out of its place, and leaves bytes there. Assumes `Logic`.
use Rattle.raw_block.proofs.Steps.{◌≡◌, ℕ, ◌+◌, ◌*◌, ◌<◌, ◌^◌, List, [], ◌∷◌, length, get_or, Option, None, is_some, true, refl, ap, sym, subst, ◌∙◌, arith, w64, proved, full_share, id⊢, ftrue, fat}
use Rattle.raw_block.proofs.Steps.{flft, froom, named, inst_fn, Val, vint, fact, tables, ◌⊑◌, Item, ‵, raw, ◌⊛◌, some, given, at_ret, ◌$◌, ◌∵◌, !, qed, move, keep, use1, use2, split, join, learn}
use Rattle.raw_block.proofs.Steps.{pick, rewrite, fsplit, fsplit3, fjoin, fjoin3, feq_i, flt_l, flt_i, suffices, frame, done, whole, sub, stop, fld, load, look, of_opd, bin, size_word, first, blocks}
use Rattle.raw_block.proofs.Steps.{exec, returns, enter, alloc_all, pass_all, free_all, look_at, take_at, give_at, get, get_in, through, sets, sets_last, is, env, usize, yes, no, layout, uint_vals}
use Rattle.raw_block.proofs.Steps.{uint_Tells, Ptr, in_a_block, MutRef, mut_vals, mut_Tells, plain, nothing, opens, closes, heard, says, Stays, stay_dropped, stay_ref, walk_of, ends_at, Goes-dropped}
use Rattle.raw_block.proofs.Steps.{Goes-ref, Good, word, word-Good, as_raw, after, El, R, args, el_x, elτ, uncapped, Cr, Br, size_of, base_vals, base_tells, mark, begins_below, small_as}
use Rattle.core.proofs.ptr.Rows.{el_out}
use Rattle.raw_block.specs.Lends.{with_place}
use Rattle.raw_block.specs.Ownership.{place_owned, run_owned, gap_owned, row_owned}
use Rattle.raw_block.proofs.Places.{full_within, there}
use Rattle.raw_block.proofs.Rows.{taken_out, put_back}
use Rattle.raw_block.specs.contracts.cells.Cells.read as f
use Rattle.raw_block.proofs.cells.Cells.read.Statement.{statement}
use Rattle.raw_block.proofs.cells.Cells.read.Code as code

abbrev stayed : (E : El) → Stays (f.ended E.row).signature.params (f.ended E.row).kept
stayed E = (stay_ref (0 ∷ []) tt (plain (λ _. Cr E)), (stay_dropped _ no, (stay_dropped _ yes, tt)))

pub read_spec : {M : Type 1} → statement M
read_spec 𝓤 𝓛 𝓜 𝓡 wired X LX =
    let E : El = record { row = X; laws = LX } in
    let c = f.clauses X 𝓛 𝓜.mem 𝓡.returns in let W = walk_of 𝓛 (f.ended X) (stayed E) c in let 𝓣 = tables 𝓤 𝓛.H 𝓜 𝓡 𝓡.env in
    let fn = inst_fn (args E) code.function in
    proved 𝓛 (f.ended X) (stayed E) c 𝓜 𝓡
    (Goes-ref 𝓛 2 0 tt (plain (λ _. Cr E)), (Goes-dropped 𝓛 2 (plain (λ _. Br E)) no (λ κs x w. refl), (Goes-dropped 𝓛 2 (plain (λ _. usize)) yes (λ κs x w. refl), tt)))
    (f.Key.name (args E)) fn (code.unfolded 𝓤 𝓛.H 𝓜 𝓡 wired (X, tt))
    (λ κs. (mut_vals, (base_vals E, (uint_vals w64, tt)))) (λ κs. (mut_Tells (named 0) κs.0 (Cr E), (base_tells E, (uint_Tells w64, tt)))) (λ κs qs bounds a g are.
    let κ = κs.0 in let self = a.0 in let d = self.now in let base = a.1.0 in let k = a.1.1.0 in let ps = d.places in let s = size_of E in let new = with_place d k None in
    let y : W.Ghost = ((κs, qs, bounds, a, (mut_vals self, (base_vals E base, (uint_vals w64 k, tt)))), g) in
    let Asks : Type 0 = (base.ptr ≡ d.start) × (is_some (get_or ps k None) ≡ true) in
    let Others : Item 𝓤 = ‵ (flft κs.1.0 qs.1.0) ⊛ ‵ ftrue in
    qed 𝓛 (((‵ (flft κ qs.0) ⊛ Others) ⊛ (‵ ((MutRef (named 0) κ (Cr E)).own_val self (mut_vals self)) ⊛ ‵ ((Br E).own_val base (base_vals E base)) ⊛ ‵ (usize.own_val k (uint_vals w64 k)) ⊛ ‵ ftrue))
    ∷ (raw (fact 𝓤 (κs.1.0 ⊑ X.lives)) ⊛ raw (fact 𝓤 Asks)) ∷ []) ∵
    split ! $ move ! (2 ∷ []) $ split ! $ heard ! (κs.1.0 ⊑ X.lives) (λ lives. heard ! Asks (λ asked.
    split ! $ move ! (2 ∷ []) $ split ! $ fsplit3 ! $ keep ! (1 ∷ 2 ∷ 4 ∷ 5 ∷ []) $
    let within = full_within ps k asked.1 in let here = there (get_or ps k None) asked.1 in
    enter ! _ _ _ _ _ $ alloc_all ! (λ l. pass_all ! refl ((tt, tt), (word-Good [] base.ptr, ((tt, record { fits = are.1.1.0.1 }), tt))) $
    opens ! tt (Cr E) {h = d} self.ref_ptr.0 self.ref_ptr.1 (λ vs. move ! (1 ∷ []) $ fsplit ! $ move ! (1 ∷ []) $
    in_a_block ! d.start (λ (p : Ptr). row_owned (R E) p ps) (id⊢ 𝓤 _) (λ b o e. fsplit ! $ flt_l ! (λ small.
    let far : k * s < 2 ^ 64 = begins_below k (length ps) s (omega (arith, within)) small in let at : ℕ = k * s + o in
    take_at ! 2 $ rewrite ! 0 (λ (p : Ptr). ‵ (fat full_share (layout (Br E)) (l 2) 0 (word p))) (asked.0 ∙ e) refl $ give_at ! 2 $ first ! $ blocks ! $
    sets ! (is ! (bin ! (get ! refl) (size_word !) (record { fits = subst (λ (n : ℕ). n < 2 ^ 64) (sym (uncapped k s far)) far })) (ap (vint w64) (uncapped k s far))) refl
    (tt, record { fits = far }) $
    sets ! (bin ! (get_in ! (fld ! refl (stop !)) (sub ! 0 refl (whole !))) (get ! refl) tt) refl (tt, tt) $
    use1 𝓛 (‵ (place_owned (R E) b at (get_or ps k None)) ⊛ ‵ (gap_owned (R E) b o ps k)) (taken_out E 𝓛 b ps k o within) $ split ! $
    rewrite ! 0 (λ (p : Option (el_x E)). ‵ (place_owned (R E) b at p)) here.1 refl $
    use1 𝓛 (some (λ (v : Val). given (Good (elτ E) v) (‵ (fat full_share (elτ E) b at v) ⊛ ‵ (X.own_val here.0 (v ∷ []))))) (el_out (record { row = X; laws = LX }) 𝓛 full_share here.0 b at) $
    pick ! (λ v. learn ! (λ good. split ! $
    -- [the value's bytes; what it owns; the other places; the mark; its cell; the open borrow, in three entries; the tokens]
    sets_last ! (of_opd ! (load ! (through ! refl (stop !)) (look ! 0 refl))) refl good $ exec ! 𝓣.C 𝓣.Λ (env fn.locals l) (after 1 fn.body) (at_ret _ (W.post y)) $ sets !
    (of_opd ! (get ! refl)) refl good $
    use1 𝓛 (‵ (froom (elτ E) b at)) (𝓛.laws.at_room (elτ E) b at v) $ as_raw ! (elτ E) b at $ move ! (0 ∷ 2 ∷ 3 ∷ 4 ∷ 5 ∷ 6 ∷ 7 ∷ []) $
    use2 𝓛 (‵ (run_owned (R E) b o new.places)) (put_back E 𝓛 b ps k o None within) $
    flt_i ! (length new.places * s) (2 ^ 63) (small_as ps k s None small) $ fjoin ! $ rewrite ! 0 (λ (p : Ptr). ‵ (row_owned (R E) p new.places)) (sym e) refl $
    move ! (1 ∷ []) $ fjoin ! $ move ! (1 ∷ []) $ closes ! tt (Cr E) new vs self.ref_ptr.0 self.ref_ptr.1 $
    -- [two parts of self; the first token; what the value owns; the other tokens]
    returns ! (look_at ! 0 refl) $ free_all ! refl $
    suffices ! _ (ends_at 𝓛 (f.ended X) (stayed E) c y v here.0 (new, (tt, (tt, tt))) (tt, (tt, (tt, tt)))) $ says ! (here.1, refl) $
    move ! (2 ∷ 4 ∷ []) $ join ! $ frame ! $ feq_i ! (List Val) (mut_vals self) (mut_vals self) refl $ fjoin3 ! $ nothing ! $ nothing ! $ fjoin ! $ nothing ! $ fjoin ! $ move !
    (1 ∷ []) $ fjoin ! $ done !)))))))))
