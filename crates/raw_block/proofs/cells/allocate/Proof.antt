-- `allocate` makes empty places of the new bytes, and keeps the right to free them. Assumes `Logic`.
use Rattle.raw_block.proofs.Steps.{ℕ, ◌*◌, ◌<◌, ◌^◌, [], ◌∷◌, length, replicate, None, true, refl, ap, sym, subst, arith, w64, lit<, proved, Incl-trans, ftrue, flft, named, ty_array, inst_fn, Val}
use Rattle.raw_block.proofs.Steps.{vint, vstruct, vcons, vnil, fact, tables, ◌⊑◌, Item, ‵, raw, ◌⊛◌, later, at_ret, ◌$◌, ◌∵◌, !, qed, move, keep, use1, use2, use3, split, join, await, fsplit, fjoin}
use Rattle.raw_block.proofs.Steps.{flt_i, suffices, frame, done, whole, agg, stop, fld, lit, of_opd, bin, size_word, align_word, and_then, no_more, first, exec, returns, enter, alloc_all, pass_all}
use Rattle.raw_block.proofs.Steps.{free_all, look_at, get, get_in, sets, sets_last, is, env, usize, RefOf, yes, layout, uint_vals, uint_Tells, RattleType, Ptr, block_ptr, ptr_val, ShrRef, shr_vals}
use Rattle.raw_block.proofs.Steps.{shr_Tells, pure_i, plain, nothing, heard, says, Stays, stay_dropped, walk_of, ends_at, Goes-dropped, Good, word, word-Good, as_written, after, El, R, elτ, uncapped}
use Rattle.raw_block.proofs.Steps.{Cr, Br, Rr, FullMark, size_of, mark}
use prog.Memory.{align, capped}
use prog.Capped.{capped_fits}
use denote.Triple.Call.{calls_at}
use denote.Triple.Table.{framed}
use Rattle.core.proofs.alloc.Calls.{Al, Answer-typed, Takes, at_takes, Answered, Takes-goes, Takes-gives, answers}
use Rattle.core.proofs.slots.Leases.{block_ty, block_size, block_align, args as args2, P}
use prog.Wp.{Wp, after_seq, at_return}
use mir.Syntax.{Body}
use types.Kit.{Post as After, any_q}
use types.Match.{live, vrt, in_variant}
use types.Run.{switches_on}
use types.ByLocal.{get_tag, lands_as}
use denote.Laws.{Is}
use denote.Steps.{owned}
use denote.Struct.Struct.{Struct, Struct-Makes}
use denote.Struct.Declared as Declared
use denote.Struct.Tuple.{Tuple}
use lib.ListN.{length-replicate}
use Rattle.std.specs.Prelude.{Ok, Err, false}
use Rattle.std.specs.Vec.Ownership.{FitsInBlock}
use Rattle.core.specs.contracts.result.Result as Outcome
use Rattle.core.specs.contracts.alloc.AllocError as Refused
use Rattle.std_alloc.proofs.VecSteps.Shapes.{head, arm_body}
use Rattle.std_alloc.proofs.ResultValues.{ok_of, err_of}
use Rattle.std_alloc.proofs.RcSteps.{first_Good}
use Rattle.raw_block.specs.Ownership.{run_owned}
use Rattle.raw_block.proofs.Rows.{of_room}
use Rattle.raw_block.proofs.Tuples.{triple_of, three_made}
use Rattle.raw_block.specs.contracts.cells.allocate as f
use Rattle.raw_block.proofs.cells.allocate.Statement.{statement}
use Rattle.raw_block.proofs.cells.allocate.Code as code

pub allocate_spec : {M : Type 1} → statement M
allocate_spec 𝓤 𝓛 𝓜 𝓡 wired X W LX LW g₀ di dd met md =
    let E : El = record { row = X; laws = LX } in let Z : Al = record { row = W; laws = LW; g = g₀; d = di; drops = dd } in
    let S = f.ended X W g₀ di dd in let hs : Stays S.signature.params S.kept = (stay_dropped _ yes, (stay_dropped _ yes, tt)) in
    let c = f.clauses X W g₀ di dd 𝓛 𝓜.mem 𝓡.returns in let V = walk_of 𝓛 S hs c in let 𝓣 = tables 𝓤 𝓛.H 𝓜 𝓡 𝓡.env in
    let fn = inst_fn (args2 E Z) code.function in let G = Takes Z 𝓛 𝓜.mem 𝓡.returns in let Three : RattleType = Tuple (Br E ∷ Cr E ∷ Rr E Z ∷ []) in
    proved 𝓛 S hs c 𝓜 𝓡
    (Goes-dropped 𝓛 3 (RefOf (0 ∷ []) tt (plain (λ _. P E Z)) (λ _. tt)) yes (λ κs x w. refl), (Goes-dropped 𝓛 3 (plain (λ _. usize)) yes (λ κs x w. refl), tt))
    (f.Key.name (args2 E Z)) fn (code.unfolded 𝓤 𝓛.H 𝓜 𝓡 wired (X, (W, tt)) di dd)
    (λ κs. (shr_vals, (uint_vals w64, tt))) (λ κs. (shr_Tells (named 0) κs.0 (P E Z), (uint_Tells w64, tt))) (λ κs qs bounds a g are.
    let κ = κs.0 in let self = a.0 in let n = a.1.0 in let s = size_of E in let al : ℕ = capped (align (elτ E)) in let rb = self.ref_ptr.0 in let ro = self.ref_ptr.1 in
    let y : V.Ghost = ((κs, qs, bounds, a, (shr_vals self, (uint_vals w64 n, tt))), g) in
    let Others : Item 𝓤 = ‵ (flft κs.1.0 qs.1.0) ⊛ ‵ (flft κs.1.1.0 qs.1.1.0) ⊛ ‵ ftrue in
    qed 𝓛 (((‵ (flft κ qs.0) ⊛ Others) ⊛ (‵ ((ShrRef (named 0) κ (P E Z)).own_val self (shr_vals self)) ⊛ ‵ (usize.own_val n (uint_vals w64 n)) ⊛ ‵ ftrue))
    ∷ (raw (fact 𝓤 (κs.1.0 ⊑ X.lives)) ⊛ raw (fact 𝓤 (κs.1.1.0 ⊑ W.lives)) ⊛ raw (fact 𝓤 (FitsInBlock (R E) n))) ∷ []) ∵
    split ! $ move ! (2 ∷ []) $ split ! $ heard ! (κs.1.0 ⊑ X.lives) (λ lives. split ! $ heard ! (κs.1.1.0 ⊑ W.lives) (λ within. heard ! (FitsInBlock (R E) n) (λ asked.
    split ! $ move ! (2 ∷ []) $ split ! $ fsplit ! $ keep ! (1 ∷ 3 ∷ 4 ∷ []) $
    let small : n * s < 2 ^ 63 = asked.0 in let far : n * s < 2 ^ 64 = omega (arith, small) in
    let z : G.Ghost = at_takes Z 𝓛 𝓜.mem 𝓡.returns κ qs.0 (rb, ro) self.now (n * s) al (block_ty E n) in
    enter ! _ _ _ _ _ $ alloc_all ! (λ l. pass_all ! refl ((tt, tt), ((tt, record { fits = are.1.0.1 }), tt)) $
    let En = env fn.locals l in let both : Body = head (after 2 fn.body) in
    let Then : After 𝓤 𝓛.H = any_q (after_seq 𝓤 𝓛.H (Wp 𝓤 𝓛.H 𝓣.C 𝓣.Λ En (after 3 fn.body) (at_return 𝓤 𝓛.H En (V.post y))) (at_return 𝓤 𝓛.H En (V.post y))) in
    sets ! (is ! (bin ! (get ! refl) (size_word !) (record { fits = subst (λ (m : ℕ). m < 2 ^ 64) (sym (uncapped n s far)) far })) (ap (vint w64) (uncapped n s far))) refl
    (tt, record { fits = far }) $
    use2 𝓛 (raw (G.pre z))
    (Takes-goes Z 𝓛 𝓜.mem 𝓡.returns κ qs.0 (rb, ro) self.now (Incl-trans bounds.0 within) (n * s) al (block_ty E n) (block_size E n far) (block_align E n) far (capped_fits (align (elτ E)))) $
    calls_at ! (framed 𝓤 𝓛.H 𝓜 𝓣) G (met.allocate dd) z (and_then ! (get ! refl) (and_then ! (get ! refl) (and_then ! (align_word !) (no_more !)))) (λ v.
    use1 𝓛 (later (raw (Answered Z 𝓛 𝓜.mem 𝓡.returns self.now (block_ty E n) v) ⊛ ‵ (flft κ qs.0)))
    (Takes-gives Z 𝓛 𝓜.mem 𝓡.returns κ qs.0 (rb, ro) self.now (n * s) al (block_ty E n) v) $ await ! tt $ split ! $
    answers Z ! 𝓜.mem 𝓡.returns self.now (block_ty E n) v
    (λ b o e.
    let p : Ptr = block_ptr b o in let base : (Br E).Denot = record { ptr = p } in
    let cells : (Cr E).Denot = record { mark = record {}; start = p; places = replicate n None } in
    let right : (Rr E Z).Denot = record { mark = record {}; start = p; len = n; alloc = self.now } in
    let made : Val = triple_of (word p) mark mark in
    let typed : Good (layout Three) made = (tt, ((tt, tt), ((tt, tt), ((tt, tt), tt)))) in let ok = first_Good (layout Three) made typed in
    lands_as ! e refl (Answer-typed true b o) $ first ! $ switches_on ! (get_tag ! (vrt ! refl (fld ! refl (stop !))) (whole !)) $ exec ! 𝓣.C 𝓣.Λ En (arm_body 0 both) Then $
    sets ! (of_opd ! (get_in ! (vrt ! refl (fld ! refl (stop !))) (in_variant ! 0 0 refl refl (whole !)))) refl (tt, tt) $ sets ! (of_opd ! (get ! refl)) refl (tt, tt) $
    sets ! (agg ! (no_more !)) refl (tt, tt) $ sets ! (agg ! (and_then ! (get ! refl) (no_more !))) refl (tt, (tt, tt)) $
    sets ! (agg ! (no_more !)) refl (tt, tt) $ sets ! (agg ! (and_then ! (get ! refl) (no_more !))) refl (tt, (tt, tt)) $
    sets ! (agg ! (and_then ! (get ! refl) (no_more !))) refl (word-Good [] p) $ sets ! (of_opd ! (get ! refl)) refl (tt, (tt, tt)) $ sets ! (of_opd ! (get ! refl)) refl (tt, (tt, tt)) $
    sets ! (agg ! (and_then ! (get ! refl) (and_then ! (get ! refl) (and_then ! (get ! refl) (no_more !))))) refl typed $
    sets_last ! (agg ! (and_then ! (lit ! tt) (and_then ! (get ! refl) (no_more !)))) refl ok $
    exec ! 𝓣.C 𝓣.Λ En (after 3 fn.body) (at_ret _ (V.post y)) $ sets ! (of_opd ! (get ! refl)) refl ok $
    -- [the bytes; the right to free; the tokens]
    move ! (1 ∷ []) $ pure_i ! ((FullMark E).own_val (tt, tt) (mark ∷ [])) (λ vss. (tt, ((λ uss. (tt, tt)), tt))) ((vstruct vnil ∷ [], tt), (refl, ((tt, (refl, tt)), tt))) $ fjoin ! $ move !
    (1 ∷ []) $
    as_written ! (ty_array (elτ E) n) b o $ use1 𝓛 (‵ (run_owned (R E) b o cells.places)) (of_room E 𝓛 b n o) $
    flt_i ! (length cells.places * s) (2 ^ 63) (subst (λ (m : ℕ). m * s < 2 ^ 63) (sym (length-replicate n None)) small) $ fjoin ! $
    pure_i ! ((FullMark E).own_val (tt, tt) (mark ∷ [])) (λ vss. (tt, ((λ uss. (tt, tt)), tt))) ((vstruct vnil ∷ [], tt), (refl, ((tt, (refl, tt)), tt))) $ fjoin ! $
    pure_i ! ((Br E).own_val base (word p ∷ [])) (λ vss. (tt, (tt, tt))) ((ptr_val p ∷ [], tt), (refl, (refl, tt))) $
    use3 𝓛 (‵ (Three.own_val (base, cells, right) (made ∷ []))) (three_made 𝓛 (Br E) (Cr E) (Rr E Z) base cells right (word p) mark mark) $
    use1 𝓛 (‵ ((Outcome.the_row Three Refused.the_row).own_val (Ok (base, cells, right)) (live 0 (vcons made vnil) ∷ []))) (ok_of 𝓛 Three Refused.the_row (base, cells, right) made) $
    returns ! (look_at ! 0 refl) $ free_all ! refl $
    suffices ! _ (ends_at 𝓛 S hs c y (live 0 (vcons made vnil)) (Ok (base, cells, right)) (tt, (tt, tt)) (tt, (tt, tt))) $ says ! (refl, refl, refl, refl, refl) $
    move ! (1 ∷ 2 ∷ []) $ join ! $ frame ! $ nothing ! $ nothing ! $ fjoin ! $ nothing ! $ fjoin ! $ done !)
    (λ e.
    let refused : Val = live 1 (vcons (vstruct vnil) vnil) in
    lands_as ! e refl (Answer-typed false 0 0) $ first ! $ switches_on ! (get_tag ! (vrt ! refl (fld ! refl (stop !))) (whole !)) $ exec ! 𝓣.C 𝓣.Λ En (arm_body 1 both) Then $
    sets ! (of_opd ! (get_in ! (vrt ! refl (fld ! refl (stop !))) (in_variant ! 1 0 refl refl (whole !)))) refl (tt, tt) $
    sets_last ! (agg ! (and_then ! (lit ! tt) (and_then ! (get ! refl) (no_more !)))) refl (tt, (record { fits = lit< tt }, (tt, tt))) $
    exec ! 𝓣.C 𝓣.Λ En (after 3 fn.body) (at_ret _ (V.post y)) $ sets ! (of_opd ! (get ! refl)) refl (tt, (record { fits = lit< tt }, (tt, tt))) $
    owned ! (Struct (Declared.shape Refused.the_type)) (Is (Struct (Declared.shape Refused.the_type))) (Struct-Makes 𝓛 (Declared.shape Refused.the_type) tt) tt (vstruct vnil ∷ []) (tt, (refl, tt)) $
    use1 𝓛 (‵ ((Outcome.the_row Three Refused.the_row).own_val (Err (record {})) (refused ∷ []))) (err_of 𝓛 Three Refused.the_row (record {}) (vstruct vnil)) $
    returns ! (look_at ! 0 refl) $ free_all ! refl $
    suffices ! _ (ends_at 𝓛 S hs c y refused (Err (record {})) (tt, (tt, tt)) (tt, (tt, tt))) $ says ! tt $
    move ! (1 ∷ 2 ∷ []) $ join ! $ frame ! $ nothing ! $ nothing ! $ fjoin ! $ nothing ! $ fjoin ! $ done !)))))))
