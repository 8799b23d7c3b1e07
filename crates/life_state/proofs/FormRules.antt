-- What the rules lead to is in form.
use Rattle.std.proofs.Common.{◌≡◌, ℕ, ◌<◌, ◌≤◌, Bool, true, false, ◌||◌, not, nat_lt, length, Option, Some, None, IfSome, IfOk, refl, ap, sym, subst, ◌∙◌, inl, ⊎_elim, arith}
use Rattle.std.proofs.Common.{slice_index_or}
use Rattle.std.proofs.lemmas.Option.{slice_get-get_or}
use Rattle.std.proofs.lemmas.Bool.{ltb-true, lt-ltb, cases_lt}
use Rattle.module_code.specs.declared.instr.Instr.{Instr}
use Rattle.module_code.specs.declared.instr.Instr.TheVariants as instr
use Rattle.module_code.specs.declared.instr.PoolRef.TheVariants as pool
use Rattle.module_code.specs.declared.instr.VarRef.{VarRef}
use Rattle.module_code.specs.declared.instr.VarRef.TheVariants as variable
use Rattle.module_code.specs.Args.{args}
use Rattle.module_code.specs.Tables.{place_is_declared}
use Rattle.module_code.specs.Program.{Program, IsModule, fits, is_variable, pool_of_brigade}
use Rattle.module_code.proofs.FitLaws.{AreFit, fits_parts}
use Rattle.run_model.specs.declared.effect.Condition.{Condition}
use Rattle.run_model.specs.declared.effect.Condition.TheVariants as condition
use Rattle.run_model.specs.declared.effect.Branch.{Branch}
use Rattle.run_model.specs.declared.effect.Branch.TheVariants.{ToNext, JumpIf, JumpAlways, EndCall}
use Rattle.run_model.specs.EffectOf.{effect_of, branch_of, instr_with}
use Rattle.run_model.specs.declared.effect.ClearKind.TheVariants.{Clear, Destroy}
use Rattle.run_model.specs.declared.effect.Effect.{Effect}
use Rattle.run_model.specs.declared.effect.Effect.TheVariants as effect
use Rattle.run_model.proofs.WithEffects.{fits_with, made_cursor}
use Rattle.run_model.specs.declared.fault.FaultKind.{FaultKind}
use Rattle.run_model.specs.Faults.{WUsable, wants}
use Rattle.life_state.specs.declared.parts.Classes.{Classes}
use Rattle.life_state.specs.States.{home_in, homes_join, only_null, only_live, ended_pool, BrigadeKnown, never_made, is_live_brigade, CursorKnown, Unset, Loose, In, End, InOrEnd}
use Rattle.life_state.specs.States.{State, set_pool, set_brigade}
use Rattle.life_state.specs.Facts.{known}
use Rattle.life_state.specs.Rules.{need, first_need, Edges, some_if, some_class, told, with_classes, classes_of, told_classes, no_other, side_content}
use Rattle.life_state.specs.Rules.{edges_jend, edges_jnull, after, on_condition, led, edges, need_or, is_empty, after_pclear, after_pdestroy, pool_not_null, brigade_not_null, of_kind}
use Rattle.life_state.specs.Rules.{not_of_kind}
use Rattle.life_state.specs.Form.{NamesDeclared, AtHand, FormedCursor}
use Rattle.life_state.specs.FormLaws.{IsFormedIn, RulesKeepForm}
use Rattle.life_state.proofs.FormParts.{no_named, homes_join_named, home_named, ended_some, never_formed, not_null_formed, hand_not_null}
use Rattle.life_state.proofs.FormMoves.{live_not_null, set_cursor_formed, told_formed, brigade_formed, pool_formed}
use Rattle.life_state.proofs.FormNeeds.{live_there, hand_there, place_there, on_loose, in_brigade}
use Rattle.life_state.proofs.FormSteps.{hand_live, classes_formed, emptied_at, bcreate_formed, bclean_formed, concat_formed, bsplit_formed, pass_formed, sent_formed, first_formed, next_formed}
use Rattle.life_state.proofs.FormSteps.{unlink_formed, bdelete_formed, put_formed, before_formed, aside_formed}
use Rattle.life_state.proofs.FormClears.{cleared_formed}
use Rattle.life_state.proofs.Sources.{made_formed}
use Rattle.life_state.proofs.UnderLaws.{brigade_past}
use Rattle.life_state.proofs.WithinNeeds.{Met, met, needs_with}

cursor_number : (c : ℕ) → nat_lt c 8 ≡ true → c < 9
cursor_number c h = let below : c < 8 = ltb-true c 8 h in omega arith

-- a brigade's pool is declared; beyond the last it is the connection's
brigade_declared : (p : Program) (o : ℕ) → IsModule p → place_is_declared (length p.pools) (pool_of_brigade p o) ≡ true
unfolding pool_of_brigade
brigade_declared p o m =
    ⊎_elim (λ (low : o < length p.brigades). m.homes o (slice_index_or p.brigades o pool.Conn) (slice_get-get_or p.brigades o pool.Conn low))
    (λ (high : length p.brigades ≤ o). ap (place_is_declared (length p.pools)) (brigade_past p o high))
    (cases_lt o (length p.brigades))

not_null : (v : BrigadeKnown) → v.null ≡ true → not v.null ≡ true → ⊥
not_null v e h = clash (sym (ap not e) ∙ h)
  where
    clash : false ≡ true → ⊥
    clash x = cc

module _ (p : Program) (call : Bool) (s : State) (m : IsModule p) (f : IsFormedIn p call s) where
  abbrev RulesFormed : Edges → Type 0
  RulesFormed e = IfSome e.next (IsFormedIn p call) × IfSome e.jump (IsFormedIn p call)

  if_reached : (e : Bool) (t : State) → (e ≡ true → IsFormedIn p call t) → IfSome (some_if e t) (IsFormedIn p call)
  if_reached true t g = g refl
  if_reached false t g = tt

  hand : (b : ℕ) → need s (WUsable b) ≡ None → AtHand s b
  hand b h = hand_there s b f.formed h

  live : (b : ℕ) → need s (WUsable b) ≡ None → is_live_brigade (s.brigades b) ≡ true
  live b h = hand_live (s.brigades b) ((hand b h).1)

  own_pool : (t : State) (q : ℕ) → IsFormedIn p call t → nat_lt q (length p.pools) ≡ true → q < t.pool_count
  own_pool t q g h = subst (λ (n : ℕ). q < n) (sym g.pools) (ltb-true q (length p.pools) h)

  own_brigade : (t : State) (b : ℕ) → IsFormedIn p call t → nat_lt b (length p.brigades) ≡ true → b < t.brigade_count
  own_brigade t b g h = subst (λ (n : ℕ). b < n) (sym g.brigades) (ltb-true b (length p.brigades) h)

  -- a pool variable that is cleared, and then destroyed
  cleared_own : (q : ℕ) → nat_lt q (length p.pools) ≡ true → IsFormedIn p call (after_pclear p q s)
  cleared_own q h = cleared_formed p call (pool.Own q) s m (lt-ltb q 8 (let below : q < length p.pools = ltb-true q (length p.pools) h in omega (arith, m.pools))) f

  destroyed : (q : ℕ) → nat_lt q (length p.pools) ≡ true → IsFormedIn p call (after_pdestroy p q s)
  destroyed q h =
      let g = cleared_own q h in
      pool_formed p call (after_pclear p q s) q (ended_pool (s.pools q)) g (own_pool (after_pclear p q s) q g h) (ended_some (s.pools q) (f.formed.pools q))

  brigades_home : (o : ℕ) → NamesDeclared s (home_in (pool_of_brigade p o))
  brigades_home o = home_named s (pool_of_brigade p o) (subst (λ (n : ℕ). place_is_declared n (pool_of_brigade p o) ≡ true) (sym f.pools) (brigade_declared p o m))

  end_edges : (s : State) → IsFormedIn p call s → (c : ℕ) (x : CursorKnown) → c < 9 → FormedCursor s x → RulesFormed (edges_jend c x s)
  end_edges s f c (End b) inside here = (tt, f)
  end_edges s f c (InOrEnd b t) inside here = (told_formed p call s c (In b t) f inside here, told_formed p call s c (End b) f inside (here.1))
  end_edges s f c Unset inside here = (f, tt)
  end_edges s f c (Loose t h) inside here = (f, tt)
  end_edges s f c (In b t) inside here = (f, tt)

  told_of : (s : State) → IsFormedIn p call s → (c : ℕ) (t : Classes) → c < 9 → IfSome (told_classes c t s) (IsFormedIn p call)
  told_of s f c t inside =
      if_reached (some_class t) (told c (with_classes t (s.cursors c)) s)
      (λ e. told_formed p call s c (with_classes t (s.cursors c)) f inside (classes_formed s t (s.cursors c) e (f.formed.cursors c)))

  null_edges : (s : State) → IsFormedIn p call s → (v : VarRef) → is_variable p v ≡ true → RulesFormed (edges_jnull v s)
  null_edges s f (variable.Pool q) h = (
    if_reached ((s.pools q).gone || (s.pools q).live) (set_pool q (pool_not_null (s.pools q)) s) (λ e. pool_formed p call s q (pool_not_null (s.pools q)) f (own_pool s q f h) e),
    if_reached (s.pools q).null (set_pool q only_null s) (λ e. pool_formed p call s q only_null f (own_pool s q f h) refl),
  )
  null_edges s f (variable.Brigade b) h =
      let v = s.brigades b in (
        if_reached (v.gone || v.live) (set_brigade b (brigade_not_null v) s)
            (λ e. brigade_formed p call s b (brigade_not_null v) f (inl (own_brigade s b f h)) (not_null_formed v e (f.formed.brigades b)) (f.formed.homes b) (hand_not_null v)),
        if_reached v.null (set_brigade b never_made s)
            (λ e. brigade_formed p call s b never_made f (inl (own_brigade s b f h)) never_formed (no_named s) (λ k. absurd (not_null v e (live_not_null v (hand_live v k))))),
      )

  -- what an effect leaves; most leave the state as it is
  after_formed : (e : Effect) → fits p (instr_with e) ≡ true → AreFit p (args (instr_with e)) → Met s (wants p (instr_with e)) → IsFormedIn p call (after p e s)
  unfolding Met
  after_formed (effect.MakePool q) fit a h = pool_formed p call s q only_live f (own_pool s q f (a.first.0)) refl
  after_formed (effect.EmptyPool Clear q) fit a h = cleared_own q (a.first.0)
  after_formed (effect.EmptyPool Destroy q) fit a h = destroyed q (a.first.0)
  after_formed (effect.MakeBrigade o) fit a h = bcreate_formed p call s o f (own_brigade s o f (a.first.0))
  after_formed (effect.Clean b) fit a h = bclean_formed p call s b f (live_there (s.brigades b) (h.0))
  after_formed (effect.Concat b d) fit a h =
      concat_formed p call s b d (homes_join (s.brigades b).homes (s.brigades d).homes) f (hand b (h.0)) (live d (h.1.0))
      (homes_join_named s (s.brigades b).homes (s.brigades d).homes (f.formed.homes b) (f.formed.homes d))
  after_formed (effect.SplitBrigade b c d) fit a h = bsplit_formed p call s b c d f (hand d (h.1.1.0))
  after_formed (effect.PartBrigade b x c) fit a h = first_formed p call s c b f (cursor_number c (a.third.0)) (hand b (h.0))
  after_formed (effect.Save o b) fit a h =
      concat_formed p call s o b (homes_join (s.brigades o).homes (home_in (pool_of_brigade p o))) f (hand o (h.0)) (live b (h.1.0))
      (homes_join_named s (s.brigades o).homes (home_in (pool_of_brigade p o)) (f.formed.homes o) (brigades_home o))
  after_formed (effect.Pass b) fit a h = pass_formed p call s b f (live b (h.0))
  after_formed (effect.First c b) fit a h = first_formed p call s c b f (cursor_number c (a.first.0)) (hand b (h.0))
  after_formed (effect.Next d c) fit a h = next_formed p call s d c (s.cursors c) f (cursor_number d (a.first.0)) (f.formed.cursors c)
  after_formed (effect.Unlink c) fit a h = unlink_formed p call s c f (cursor_number c (a.first.0)) (in_brigade (s.cursors c) (h.0))
  after_formed (effect.Delete c) fit a h = bdelete_formed p call s c f (cursor_number c (a.first.0))
  after_formed (effect.Insert side b c) fit a h =
      put_formed p call (side_content side) s b c f (cursor_number c (a.second.0)) (hand b (h.0)) (on_loose (s.cursors c) (h.1.0))
  after_formed (effect.Before c d) fit a h = before_formed p call s c (s.cursors d) f (cursor_number c (a.first.0)) (on_loose (s.cursors c) (h.0)) (f.formed.cursors d)
  after_formed (effect.Make c from) fit a h = made_formed p call s c from f (made_cursor p c from fit) h
  after_formed (effect.Aside c q) fit a h =
      aside_formed p call s c q (s.cursors c) f (cursor_number c (a.first.0)) (home_named s q (place_there s q f.formed (h.1.0))) (f.formed.cursors c)
  after_formed (effect.Read c) fit a h = set_cursor_formed p call s 8 (s.cursors c) (known s c) f (omega arith) (f.formed.cursors c)
  after_formed e fit a h = f

  -- what is used of operands and needs where an instruction leads on from a state, by its branch
  BranchTakes : State → Branch → Type 0
  BranchTakes t (JumpIf (condition.TooShort b x c)) = (c < 9) × AtHand s b
  BranchTakes t (JumpIf (condition.NoBucket b)) = is_live_brigade (t.brigades b) ≡ true
  BranchTakes t (JumpIf (condition.AtEnd c)) = c < 9
  BranchTakes t (JumpIf (condition.OfKind c k)) = c < 9
  BranchTakes t (JumpIf (condition.IsNull v)) = is_variable p v ≡ true
  BranchTakes t when = Unit {0}

  leads : (i : Instr) → AreFit p (args i) → Met s (wants p i) → BranchTakes (after p (effect_of i) s) (branch_of i)
  unfolding Met BranchTakes
  leads (instr.BPart b x c l) a h = (cursor_number c (a.third.0), hand b (h.0))
  leads (instr.JEmpty b l) a h = live b (h.0)
  leads (instr.JEnd c l) a h = cursor_number c (a.first.0)
  leads (instr.JKind c k l) a h = cursor_number c (a.first.0)
  leads (instr.JNull v l) a h = a.first.0
  leads i a h = tt

  -- t is what an effect makes of s
  module _ (t : State) (g : IsFormedIn p call t) where
    on_condition_formed : (when : Condition) → BranchTakes t (JumpIf when) → RulesFormed (on_condition when s t)
    unfolding BranchTakes
    on_condition_formed (condition.TooShort b x c) h = (g, set_cursor_formed p call s c (End b) no_other f (h.0) (h.1))
    on_condition_formed (condition.NoBucket b) h = (if_reached (not (is_empty (t.brigades b).content)) t (λ e. g), emptied_at p call t b g h)
    on_condition_formed (condition.AtEnd c) h = end_edges t g c (t.cursors c) h (g.formed.cursors c)
    on_condition_formed (condition.OfKind c k) h = (told_of t g c (not_of_kind k (classes_of (t.cursors c))) h, told_of t g c (of_kind k (classes_of (t.cursors c))) h)
    on_condition_formed (condition.ReadFailed c) h = (g, set_cursor_formed p call s 8 Unset no_other f (omega arith) tt)
    on_condition_formed (condition.IsNull v) h = null_edges t g v h
    on_condition_formed condition.WasSent h = (sent_formed p call t false g, if_reached t.sent t (λ e. g))
    on_condition_formed when h = (g, g)

    led_formed : (branch : Branch) → BranchTakes t branch → RulesFormed (led branch s t)
    unfolding BranchTakes
    led_formed ToNext h = (g, tt)
    led_formed (JumpIf when) h = on_condition_formed when h
    led_formed JumpAlways h = (tt, g)
    led_formed EndCall h = (tt, tt)

  edges_formed : (i : Instr) → fits p i ≡ true → first_need s (wants p i) ≡ None → RulesFormed (edges p i s)
  edges_formed i fit none =
      let e = effect_of i in
      let fit_with = fits_with p i fit in
      led_formed (after p e s) (after_formed e fit_with (fits_parts p (instr_with e) fit_with) (met s (wants p (instr_with e)) (needs_with p i s none))) (branch_of i)
      (leads i (fits_parts p i fit) (met s (wants p i) none))

pub rules_keep_form : RulesKeepForm
rules_keep_form p call i s e m fit f h = subst (λ r. IfOk r (RulesFormed p call s m f)) h (answered (first_need s (wants p i)) refl)
  where
    answered : (k : Option FaultKind) → first_need s (wants p i) ≡ k → IfOk (need_or k (edges p i s)) (RulesFormed p call s m f)
    answered None none = edges_formed p call s m f i fit none
    answered (Some k) none = tt
