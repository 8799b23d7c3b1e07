-- `deallocate` makes bytes of the empty places, and hands them back with the right to free. Assumes `Logic`.
use Rattle.raw_block.proofs.Steps.{◌≡◌, ℕ, ◌*◌, ◌<◌, ◌^◌, List, [], ◌∷◌, length, replicate, Option, None, refl, ap, sym, subst, ◌∙◌, arith, w64, proved, id⊢, Incl-trans, ftrue, flft, froom, named}
use Rattle.raw_block.proofs.Steps.{ty_array, ty_unit, inst_fn, Val, vint, vunit, has_ty, WT, T, fact, tables, ◌⊑◌, Item, ‵, raw, ◌⊛◌, given, later, at_ret, ◌$◌, ◌∵◌, !, qed, move, keep, use1, split}
use Rattle.raw_block.proofs.Steps.{join, group, learn, await, rewrite, fsplit, fjoin, feq_i, flt_l, suffices, done, whole, sub, stop, fld, unit_lit, of_opd, bin, size_word, align_word, and_then}
use Rattle.raw_block.proofs.Steps.{no_more, first, blocks, exec, returns, enter, alloc_all, pass_all, free_all, look_at, get, get_in, sets, is, env, usize, RefOf, yes, no, uint_vals, uint_Tells, Ptr}
use Rattle.raw_block.proofs.Steps.{ptr_val, in_a_block, ShrRef, shr_vals, shr_Tells, plain, nothing, heard, Stays, stay_dropped, walk_of, ends_at, Goes-dropped, word-Good, as_raw, after, El, R, el_x}
use Rattle.raw_block.proofs.Steps.{elτ, uncapped, Cr, Br, Rr, size_of, base_vals, base_tells, right_tells, cells_tell, mark}
use prog.Memory.{align, capped}
use prog.Capped.{capped_fits}
use denote.Triple.Call.{calls_at_last}
use denote.Triple.Table.{framed}
use Rattle.core.proofs.alloc.Calls.{Al, token, Gives, at_gives, Gives-goes, Gives-Gives, Goes-blank}
use Rattle.core.proofs.slots.Leases.{block_ty, block_size, block_align, args as args2, P}
use types.ByLocal.{lands_last}
use lib.ListN.{length-replicate}
use Rattle.raw_block.specs.Ownership.{row_owned, right_owned}
use Rattle.raw_block.proofs.Rows.{to_room}
use Rattle.raw_block.specs.contracts.cells.deallocate as f
use Rattle.raw_block.proofs.cells.deallocate.Statement.{statement}
use Rattle.raw_block.proofs.cells.deallocate.Code as code

pub deallocate_spec : {M : Type 1} → statement M
deallocate_spec 𝓤 𝓛 𝓜 𝓡 wired X W LX LW g₀ di dd met md =
    let E : El = record { row = X; laws = LX } in let Z : Al = record { row = W; laws = LW; g = g₀; d = di; drops = dd } in
    let S = f.ended X W g₀ di dd in
    let hs : Stays S.signature.params S.kept = (stay_dropped _ yes, (stay_dropped _ no, (stay_dropped _ yes, (stay_dropped _ no, (stay_dropped _ no, tt))))) in
    let c = f.clauses X W g₀ di dd 𝓛 𝓜.mem 𝓡.returns in let V = walk_of 𝓛 S hs c in let 𝓣 = tables 𝓤 𝓛.H 𝓜 𝓡 𝓡.env in
    let fn = inst_fn (args2 E Z) code.function in let G = Gives Z 𝓛 𝓜.mem 𝓡.returns in
    proved 𝓛 S hs c 𝓜 𝓡 (
      Goes-dropped 𝓛 3 (RefOf (0 ∷ []) tt (plain (λ _. P E Z)) (λ _. tt)) yes (λ κs x w. refl),
      (
        Goes-dropped 𝓛 3 (plain (λ _. Br E)) no (λ κs x w. refl),
        (
          Goes-dropped 𝓛 3 (plain (λ _. usize)) yes (λ κs x w. refl),
          (Goes-blank 𝓛 3 (plain (λ _. Cr E)) no (λ κs x w. tt), (Goes-blank 𝓛 3 (plain (λ _. Rr E Z)) no (λ κs x w. tt), tt)),
        ),
      ),
    )
    (f.Key.name (args2 E Z)) fn (code.unfolded 𝓤 𝓛.H 𝓜 𝓡 wired (X, (W, tt)) di dd)
    (λ κs. (shr_vals, (base_vals E, (uint_vals w64, ((λ _. mark ∷ []), ((λ _. mark ∷ []), tt))))))
    (λ κs. (shr_Tells (named 0) κs.0 (P E Z), (base_tells E, (uint_Tells w64, (cells_tell E, (right_tells E Z, tt)))))) (λ κs qs bounds a g are.
    let κ = κs.0 in let self = a.0 in let base = a.1.0 in let n = a.1.1.0 in let cells = a.1.1.1.0 in let right = a.1.1.1.1.0 in let s = size_of E in let al : ℕ = capped (align (elτ E)) in
    let rb = self.ref_ptr.0 in let ro = self.ref_ptr.1 in
    let y : V.Ghost = ((κs, qs, bounds, a, (shr_vals self, (base_vals E base, (uint_vals w64 n, (mark ∷ [], (mark ∷ [], tt)))))), g) in
    let Asks : Type 0 = (cells.start ≡ base.ptr) × (cells.places ≡ replicate n None) × (right.start ≡ base.ptr) × (right.len ≡ n) × (right.alloc ≡ self.now) in
    let Others : Item 𝓤 = ‵ (flft κs.1.0 qs.1.0) ⊛ ‵ (flft κs.1.1.0 qs.1.1.0) ⊛ ‵ ftrue in
    qed 𝓛 (((‵ (flft κ qs.0) ⊛ Others) ⊛ (‵ ((ShrRef (named 0) κ (P E Z)).own_val self (shr_vals self)) ⊛ ‵ ((Br E).own_val base (base_vals E base)) ⊛ ‵ (usize.own_val n (uint_vals w64 n))
    ⊛ ‵ ((Cr E).own_val cells (mark ∷ [])) ⊛ ‵ ((Rr E Z).own_val right (mark ∷ [])) ⊛ ‵ ftrue))
    ∷ (raw (fact 𝓤 (κs.1.0 ⊑ X.lives)) ⊛ raw (fact 𝓤 (κs.1.1.0 ⊑ W.lives)) ⊛ raw (fact 𝓤 Asks)) ∷ []) ∵
    split ! $ move ! (2 ∷ []) $ split ! $ heard ! (κs.1.0 ⊑ X.lives) (λ lives. split ! $ heard ! (κs.1.1.0 ⊑ W.lives) (λ within. heard ! Asks (λ asked.
    split ! $ move ! (2 ∷ []) $ split ! $ fsplit ! $ move ! (2 ∷ []) $ split ! $ move ! (1 ∷ []) $ split ! $ move ! (1 ∷ []) $ split ! $ fsplit ! $ move ! (2 ∷ []) $ split ! $ fsplit ! $
    -- [a mark; the token; nothing; a mark; the places; the length; the base; an equation; the allocator; the tokens]
    keep ! (4 ∷ 1 ∷ 8 ∷ 9 ∷ 10 ∷ []) $
    enter ! _ _ _ _ _ $ alloc_all ! (λ l. pass_all ! refl ((tt, tt), (word-Good [] base.ptr, ((tt, record { fits = are.1.1.0.1 }), ((tt, (tt, tt)), ((tt, (tt, tt)), tt))))) $
    rewrite ! 0 (λ (r : Ptr × List (Option (el_x E))). ‵ (row_owned (R E) r.0 r.1)) (λ i. (asked.0 i, asked.1 i)) refl $
    in_a_block ! base.ptr (λ (p : Ptr). row_owned (R E) p (replicate n None)) (id⊢ 𝓤 _) (λ b o e. fsplit ! $ flt_l ! (λ fit.
    let small : n * s < 2 ^ 63 = subst (λ (m : ℕ). m * s < 2 ^ 63) (length-replicate n None) fit in let far : n * s < 2 ^ 64 = omega (arith, small) in
    let z : G.Ghost = at_gives Z 𝓛 𝓜.mem 𝓡.returns κ qs.0 (rb, ro) self.now b o (n * s) al (block_ty E n) in
    rewrite ! 1 (λ (r : W.Denot × Ptr × ℕ). ‵ (right_owned (R E) (token Z r.0) r.1 r.2)) (λ i. (asked.4 i, (asked.2 ∙ e) i, asked.3 i)) refl $
    use1 𝓛 (‵ (froom (ty_array (elτ E) n) b o)) (to_room E 𝓛 b n o) $ as_raw ! (ty_array (elτ E) n) b o $ first ! $ blocks ! $
    sets ! (is ! (of_opd ! (get_in ! (fld ! refl (stop !)) (sub ! 0 refl (whole !)))) (ap ptr_val e)) refl (tt, tt) $
    sets ! (is ! (bin ! (get ! refl) (size_word !) (record { fits = subst (λ (m : ℕ). m < 2 ^ 64) (sym (uncapped n s far)) far })) (ap (vint w64) (uncapped n s far))) refl
    (tt, record { fits = far }) $
    group ! 4 $ use1 𝓛 (raw (G.pre z)) (Gives-goes Z 𝓛 𝓜.mem 𝓡.returns κ qs.0 (rb, ro) self.now (Incl-trans bounds.0 within) b o (n * s) al (block_ty E n) (block_size E n far) (block_align E n) far
    (capped_fits (align (elτ E)))) $
    calls_at_last ! (framed 𝓤 𝓛.H 𝓜 𝓣) G (met.deallocate dd) z (and_then ! (get ! refl) (and_then ! (get ! refl) (and_then ! (get ! refl) (and_then ! (align_word !) (no_more !))))) (λ v.
    use1 𝓛 (later (given (v ≡ vunit) (‵ (flft κ qs.0)))) (Gives-Gives Z 𝓛 𝓜.mem 𝓡.returns κ qs.0 (rb, ro) self.now b o (n * s) al (block_ty E n) v) $ await ! tt $ learn ! (λ is_unit.
    lands_last ! refl (subst (λ (u : Val). T (has_ty ty_unit u) × WT u) (sym is_unit) (tt, tt)) $ exec ! 𝓣.C 𝓣.Λ (env fn.locals l) (after 1 fn.body) (at_ret _ (V.post y)) $
    sets ! (of_opd ! (unit_lit !)) refl (tt, tt) $ returns ! (look_at ! 0 refl) $ free_all ! refl $
    suffices ! _ (ends_at 𝓛 S hs c y vunit tt (tt, (tt, (tt, (tt, (tt, tt))))) (tt, (tt, (tt, (tt, (tt, tt)))))) $
    join ! $ feq_i ! (List Val) (vunit ∷ []) (vunit ∷ []) refl $ nothing ! $ nothing ! $ fjoin ! $ nothing ! $ fjoin ! $ nothing ! $ fjoin ! $ nothing ! $ fjoin ! $ nothing ! $ fjoin ! $ join ! $
    move ! (1 ∷ []) $ join ! $ nothing ! $ move ! (1 ∷ []) $ done !)))))))))
