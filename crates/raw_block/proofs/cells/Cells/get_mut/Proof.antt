-- `get_mut` lends the value of one place, and the places follow it. Assumes `Logic`.
use Rattle.raw_block.proofs.Steps.{◌≡◌, ℕ, ◌+◌, ◌*◌, ◌<◌, ◌^◌, List, [], ◌∷◌, length, get_or, Option, None, Some, is_some, true, refl, ap, sym, subst, ◌∙◌, arith, w64, proved, Ura, full_share, ent}
use Rattle.raw_block.proofs.Steps.{sep, id⊢, GName, Fml, ftrue, fat, flft, fsep, named, inst_fn, Val, vptr, vint, fact, tables, ◌⊑◌, Logic, sem, Item, ‵, raw, ◌⊛◌, some, later, at_ret, ◌$◌, ◌∵◌, ! }
use Rattle.raw_block.proofs.Steps.{qed, move, keep, use1, use2, split, join, group, pick, await, rewrite, fsplit, fsplit3, fjoin, fjoin3, fpack, flt_l, flt_i, suffices, frame, done, whole, sub, stop}
use Rattle.raw_block.proofs.Steps.{fld, of_opd, addr, bin, size_word, first, blocks, exec, returns, enter, alloc_all, pass_all, free_all, look_at, take_at, give_at, get, get_in, through, sets}
use Rattle.raw_block.proofs.Steps.{sets_last, is, env, usize, yes, no, cell_at, mem, layout, uint_vals, uint_Tells, Ptr, block_ptr, in_a_block, MutBor, MutRef, mut_vals, mut_Tells, plain, mut_ref_to}
use Rattle.raw_block.proofs.Steps.{nothing, opens, heard, says, Stays, stay_dropped, walk_of, ends_at, Goes-dropped, Goes-spent_ref}
use Rattle.raw_block.proofs.Steps.{word, word-Good, after, El, R, args, el_x, uncapped, Cr, Br, FullMark}
use Rattle.raw_block.proofs.Steps.{size_of, base_vals, base_tells, mark, begins_below, small_as}
use denote.Memory.{part_of}
use denote.Follow.{follows, Part, lends_Part}
use Rattle.raw_block.specs.Lends.{with_place}
use Rattle.raw_block.specs.Ownership.{place_owned, run_owned, gap_owned, row_owned}
use Rattle.raw_block.proofs.Places.{full_within, there}
use Rattle.raw_block.proofs.Rows.{taken_out, put_back}
use Rattle.raw_block.specs.contracts.cells.Cells.get_mut as f
use Rattle.raw_block.proofs.cells.Cells.get_mut.Statement.{statement}
use Rattle.raw_block.proofs.cells.Cells.get_mut.Code as code

abbrev stayed : (E : El) → Stays (f.ended E.row).signature.params (f.ended E.row).kept
stayed E = (stay_dropped (mut_ref_to (0 ∷ []) tt (plain (λ _. Cr E))) no, (stay_dropped _ no, (stay_dropped _ yes, tt)))

module _ (E : El) {M : Type 1} {𝓤 : Ura M} (𝓛 : Logic 𝓤) (vs : List Val) (rb ro b o : ℕ) (d : (Cr E).Denot) (k : ℕ) where
  -- the places but for the one that is lent
  abbrev Rest : Fml
  Rest = fsep (gap_owned (R E) b o d.places k) (fsep ((FullMark E).own_val (tt, tt) vs) (cell_at full_share (Cr E).mir vs rb ro))

  -- the last value goes back into its place
  goes_back : d.start ≡ block_ptr b o → k < length d.places → length d.places * size_of E < 2 ^ 63
      → (w : el_x E) → ent 𝓤 (sep 𝓤 (sem 𝓛 ((mem (R E)).own_at w b (k * size_of E + o))) (sem 𝓛 Rest)) (sem 𝓛 ((mem (Cr E)).own_at (with_place d k (Some w)) rb ro))
  unfolding part_of
  goes_back e within small w =
      let new = with_place d k (Some w) in
      qed 𝓛 (‵ (place_owned (R E) b (k * size_of E + o) (Some w)) ∷ ‵ Rest ∷ []) ∵ move ! (1 ∷ []) $ fsplit3 ! $ move ! (3 ∷ 0 ∷ []) $
      use2 𝓛 (‵ (run_owned (R E) b o new.places)) (put_back E 𝓛 b d.places k o (Some w) within) $
      flt_i ! (length new.places * size_of E) (2 ^ 63) (small_as d.places k (size_of E) (Some w) small) $ fjoin ! $ rewrite ! 0 (λ (p : Ptr). ‵ (row_owned (R E) p new.places)) (sym e) refl $
      move ! (1 ∷ []) $ fjoin ! $ move ! (1 ∷ []) $ fjoin ! $ fpack ! (List Val) (λ us. fsep (cell_at full_share (Cr E).mir us rb ro) ((Cr E).own_val new us)) vs $ done !

pub get_mut_spec : {M : Type 1} → statement M
get_mut_spec 𝓤 𝓛 𝓜 𝓡 wired X LX =
    let E : El = record { row = X; laws = LX } in
    let c = f.clauses X 𝓛 𝓜.mem 𝓡.returns in let W = walk_of 𝓛 (f.ended X) (stayed E) c in let 𝓣 = tables 𝓤 𝓛.H 𝓜 𝓡 𝓡.env in
    let fn = inst_fn (args E) code.function in
    proved 𝓛 (f.ended X) (stayed E) c 𝓜 𝓡
    (Goes-spent_ref 𝓛 2 (0 ∷ []) tt (plain (λ _. Cr E)), (Goes-dropped 𝓛 2 (plain (λ _. Br E)) no (λ κs x w. refl), (Goes-dropped 𝓛 2 (plain (λ _. usize)) yes (λ κs x w. refl), tt)))
    (f.Key.name (args E)) fn (code.unfolded 𝓤 𝓛.H 𝓜 𝓡 wired (X, tt))
    (λ κs. (mut_vals, (base_vals E, (uint_vals w64, tt)))) (λ κs. (mut_Tells (named 0) κs.0 (Cr E), (base_tells E, (uint_Tells w64, tt)))) (λ κs qs bounds a g are.
    let κ = κs.0 in let self = a.0 in let d = self.now in let base = a.1.0 in let k = a.1.1.0 in let ps = d.places in let s = size_of E in let γ = self.ghost_name in
    let new : el_x E → (Cr E).Denot = λ w. with_place d k (Some w) in let rb = self.ref_ptr.0 in let ro = self.ref_ptr.1 in
    let y : W.Ghost = ((κs, qs, bounds, a, (mut_vals self, (base_vals E base, (uint_vals w64 k, tt)))), g) in
    let Asks : Type 0 = (base.ptr ≡ d.start) × (is_some (get_or ps k None) ≡ true) in
    let Others : Item 𝓤 = ‵ (flft κs.1.0 qs.1.0) ⊛ ‵ ftrue in
    qed 𝓛 (((‵ (flft κ qs.0) ⊛ Others) ⊛ (‵ ((MutRef (named 0) κ (Cr E)).own_val self (mut_vals self)) ⊛ ‵ ((Br E).own_val base (base_vals E base)) ⊛ ‵ (usize.own_val k (uint_vals w64 k)) ⊛ ‵ ftrue))
    ∷ (raw (fact 𝓤 (κs.1.0 ⊑ X.lives)) ⊛ raw (fact 𝓤 Asks)) ∷ []) ∵
    split ! $ move ! (2 ∷ []) $ split ! $ heard ! (κs.1.0 ⊑ X.lives) (λ lives. heard ! Asks (λ asked.
    split ! $ move ! (2 ∷ []) $ split ! $ fsplit3 ! $ keep ! (1 ∷ 2 ∷ 4 ∷ 5 ∷ []) $
    let within = full_within ps k asked.1 in let here = there (get_or ps k None) asked.1 in
    enter ! _ _ _ _ _ $ alloc_all ! (λ l. pass_all ! refl ((tt, tt), (word-Good [] base.ptr, ((tt, record { fits = are.1.1.0.1 }), tt))) $
    opens ! tt (Cr E) {h = d} rb ro (λ vs. move ! (1 ∷ []) $ fsplit ! $ move ! (1 ∷ []) $
    in_a_block ! d.start (λ (p : Ptr). row_owned (R E) p ps) (id⊢ 𝓤 _) (λ b o e. fsplit ! $ flt_l ! (λ small.
    let far : k * s < 2 ^ 64 = begins_below k (length ps) s (omega (arith, within)) small in let at : ℕ = k * s + o in
    take_at ! 2 $ rewrite ! 0 (λ (p : Ptr). ‵ (fat full_share (layout (Br E)) (l 2) 0 (word p))) (asked.0 ∙ e) refl $ give_at ! 2 $ first ! $ blocks ! $
    sets ! (is ! (bin ! (get ! refl) (size_word !) (record { fits = subst (λ (n : ℕ). n < 2 ^ 64) (sym (uncapped k s far)) far })) (ap (vint w64) (uncapped k s far))) refl
    (tt, record { fits = far }) $
    sets ! (bin ! (get_in ! (fld ! refl (stop !)) (sub ! 0 refl (whole !))) (get ! refl) tt) refl (tt, tt) $
    use1 𝓛 (‵ (place_owned (R E) b at (get_or ps k None)) ⊛ ‵ (gap_owned (R E) b o ps k)) (taken_out E 𝓛 b ps k o within) $ split ! $
    rewrite ! 0 (λ (p : Option (el_x E)). ‵ (place_owned (R E) b at p)) here.1 refl $
    -- [the value; the other places; the mark; its cell; the open borrow, in three entries; the tokens]
    sets_last ! (addr ! (through ! refl (stop !))) refl (tt, tt) $ exec ! 𝓣.C 𝓣.Λ (env fn.locals l) (after 1 fn.body) (at_ret _ (W.post y)) $ sets ! (of_opd ! (get ! refl)) refl (tt, tt) $
    move ! (1 ∷ 2 ∷ 3 ∷ []) $ fjoin3 ! $ move ! (2 ∷ 3 ∷ 4 ∷ 1 ∷ 0 ∷ []) $ group ! 5 $
    let way = goes_back E 𝓛 vs rb ro b o d k e within small in let left = sem 𝓛 (Rest E 𝓛 vs rb ro b o d k) in
    use1 𝓛 (later (some (λ (δ : GName). raw (Part 𝓛 (Cr E) (R E) new (named 0) κ qs.0 rb ro b at γ left way here.0 δ))))
    (lends_Part 𝓛 (Cr E) (R E) new (named 0) κ qs.0 rb ro b at γ left way ((Cr E).coded.code d) ((Cr E).coded.code d) here.0) $ await ! tt $ pick ! (λ δ.
    returns ! (look_at ! 0 refl) $ free_all ! refl $
    let r : MutBor (el_x E) = record { ref_ptr = (b, at); ghost_name = δ; now = here.0 } in
    use1 𝓛 (‵ ((MutRef (named 0) κ (R E)).own_val r (vptr b at ∷ [])) ⊛ ‵ (flft κ qs.0) ⊛ ‵ (follows (Cr E) (R E) γ δ new)) (id⊢ 𝓤 _) $ split ! $ move ! (1 ∷ []) $ split ! $
    -- [the first token; what follows the loan; the result; the other tokens]
    suffices ! _ (ends_at 𝓛 (f.ended X) (stayed E) c y (vptr b at) r (tt, (tt, (tt, tt))) (tt, (tt, (tt, tt)))) $
    move ! (2 ∷ []) $ nothing ! $ nothing ! $ fjoin ! $ nothing ! $ fjoin ! $ nothing ! $ fjoin ! $ join ! $ move ! (1 ∷ 3 ∷ []) $ join ! $ join ! $ frame ! $ says ! here.1 $ done !))))))))
