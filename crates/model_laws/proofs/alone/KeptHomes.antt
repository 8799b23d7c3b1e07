-- Homes of what an instance may use last: through each move of an open run.
use Rattle.std.proofs.Common.{◌≡◌, ℕ, zero, suc, ◌<◌, Bool, true, false, ◌==◌, ◌||◌, ◌&&◌, not, cond, List, [], ◌∷◌, map, Option, Some, None, All, inl, inr, refl, sym, ◌∙◌, ap, subst, arith, eqb-true, eq-eqb}
use Rattle.std.specs.List.{list_any}
use Rattle.std.proofs.lemmas.Bool.{cases_eq, cases_lt, or_left, or_right, or_cases}
use Rattle.std.proofs.lemmas.List.Elements.{All-cons, All-head, All-tail}
use Rattle.std.proofs.lemmas.Option.{none-some, same_Some}
use Rattle.module_code.specs.declared.instr.Instr.{Instr}
use Rattle.module_code.specs.declared.instr.Instr.TheVariants as instr
use Rattle.module_code.specs.declared.instr.PoolRef.{PoolRef}
use Rattle.module_code.specs.declared.instr.PoolRef.TheVariants as pool
use Rattle.module_code.specs.declared.instr.Status.{Status}
use Rattle.module_code.specs.declared.instr.Status.TheVariants.{Success}
use Rattle.module_code.specs.Program.{Program, IsModule}
use Rattle.run_model.specs.declared.bucket.BrigadeVar.{BrigadeVar}
use Rattle.run_model.specs.declared.bucket.BrigadeVar.TheVariants as var
use Rattle.run_model.specs.declared.bucket.Home.{Home}
use Rattle.run_model.specs.declared.bucket.Home.TheVariants as home
use Rattle.run_model.specs.declared.bucket.Mark.TheVariants.{Usable}
use Rattle.run_model.specs.declared.bucket.NamedBucket.{NamedBucket}
use Rattle.run_model.specs.declared.fault.FaultKind.{FaultKind}
use Rattle.run_model.specs.declared.fault.FaultKind.TheVariants.{F6, F7}
use Rattle.run_model.specs.Buckets.{end_call, cleared_bucket, returned_bucket}
use Rattle.run_model.specs.Chains.{led_to}
use Rattle.run_model.specs.Clearing.{is_reached, cleared_var, run_down}
use Rattle.run_model.specs.Effects.{do_return, returned_var, with_items}
use Rattle.run_model.specs.Faults.{passed_fault, is_stray, keeps_stray, fault}
use Rattle.run_model.specs.Indexed.{upd, any_below}
use Rattle.run_model.specs.Passing.{passed_by, set_in}
use Rattle.run_model.specs.Pools.{is_in, is_live, is_under, destroyed}
use Rattle.run_model.specs.Sound.{Sound}
use Rattle.run_model.specs.State.{Configuration, Instance, Call, Out, Shared, is_passed, items_of, name_in, named_at, set_brigade, is_named, is_own, is_own_at, pool_named, with_pools}
use Rattle.run_model.specs.Steps.{Choice, step, current}
use Rattle.run_model.proofs.Formed.{path_live}
use Rattle.run_model.proofs.PoolMap.{created_lives, destroyed_apart}
use Rattle.run_model.proofs.RunOrderLaws.{under_itself}
use Rattle.run_model.proofs.Updates.{upd_either}
use Rattle.model_laws.specs.AsDeclared.{AsDeclared}
use Rattle.model_laws.specs.Laws.{MayExecute, is_return}
use Rattle.model_laws.specs.Marks.{HoldsPassed}
use Rattle.model_laws.specs.OpenRuns.{Phase, Due, Rests, Runs, Waits, Broken, Lasting, none_lasts, Standing, Move, Start, Execute, Answer, Others, Elsewhere, Begin, Main, End, ToldOfMove, executed, Attempts}
use Rattle.model_laws.specs.OpenRuns.{IsMove, IsOpenRun, IsOpened, IsHomeKept, HoldsKept, OpenRunsKeepHomes, StandsSound, Starts, Begins, Calls, AnswersCall, OthersGoOn, GoOnElsewhere, Ends, Becomes}
use Rattle.model_laws.specs.OpenRuns.{LeaveShared, changed_var, gone_on, gone_elsewhere, called, request_begun, request_ended, may_come}
use Rattle.model_laws.proofs.AsDeclared.{same_live}
use Rattle.model_laws.proofs.EachItem.{none, each_so, mapped_each, cleared_each}
use Rattle.model_laws.proofs.EventsKeep.{may_execute}
use Rattle.model_laws.proofs.Marks.{first_none}
use Rattle.model_laws.proofs.Passed.{passes_mark}
use Rattle.model_laws.proofs.StepFiles.{neither}
use Rattle.model_laws.proofs.Unchanged.{step_changes_only}
use Rattle.model_laws.proofs.alone.Beside.{same_named, stays}
use Rattle.model_laws.proofs.alone.Homes.{match_so, cleared_match, HasPool, step_kept}
use Rattle.model_laws.proofs.alone.Kept.{move_kept, opened_kept}

-- What is known beside, by where the instance is.
abbrev pub PhaseKnown : Phase → Program → Lasting → Configuration → Type 0
PhaseKnown Due p l r = l ≡ none_lasts
PhaseKnown Rests p l r = l ≡ none_lasts
PhaseKnown Runs p l r = is_in r.call.name l.calls ≡ true
PhaseKnown Waits p l r = (is_in r.call.name l.calls ≡ true) × ((b : ℕ) × ((to : ℕ) × (current p r.pc ≡ instr.Pass b to)) × HoldsPassed (r.instance.brigades b))
PhaseKnown Broken p l r = Unit {0}

pub record StandsKept (p : Program) (s : Standing) : Type 0 where
  pub homes : HoldsKept s.lasting s.now
  pub known : PhaseKnown s.phase p s.lasting s.now

known_in : (p : Program) (s : Standing) (f : Phase) → s.phase ≡ f → PhaseKnown s.phase p s.lasting s.now → PhaseKnown f p s.lasting s.now
known_in p s f is k = subst (λ (x : Phase). PhaseKnown x p s.lasting s.now) is k

-- A passed brigade is none that may be used.
pub passed_unused : (v : BrigadeVar) → HoldsPassed v → passed_fault v ≡ None → ⊥
passed_unused var.Null h e = h
passed_unused var.Gone h e = h
passed_unused (var.Live v) h e = let told : passed_fault (var.Live v) ≡ Some F7 = ap (λ m. cond (is_passed m) (Some F7) None) h in cc

nothing_in : (n : ℕ) → is_in n [] ≡ true → ⊥
nothing_in n e = cc

-- What lasts where nothing did lasts where something does.
none_kept : (l : Lasting) (r s : Configuration) → ((n : ℕ) → HasPool none_lasts r n → HasPool l s n) → (h : Home) → IsHomeKept none_lasts r h → IsHomeKept l s h
none_kept l r s more h k = match_so _ _ (HasPool none_lasts r) (HasPool l s) (λ n c. absurd (nothing_in n c)) more h k

-- A call begins.
called_kept : (l : Lasting) (r : Configuration) (name next pc : ℕ) → HoldsKept none_lasts r → HoldsKept l (called name next pc r)
unfolding named_at
called_kept l r name next pc h = record {
  brigades = λ b in_use. each_so _ (λ x. IsHomeKept l (called name next pc r) x.bucket.home) (λ x k. none_kept l r (called name next pc r) more x.bucket.home k) (items_of (r.instance.brigades b))
      (h.brigades b in_use);
  loose = none _;
} where
  by_ref : (n : ℕ) (k : PoolRef) → pool_named r k ≡ Some n → pool_named (called name next pc r) k ≡ Some n
  by_ref n pool.Conn e = e
  by_ref n pool.Req e = e
  by_ref n (pool.Own q) e = e

  more : (n : ℕ) → HasPool none_lasts r n → HasPool l (called name next pc r) n
  more n has = (has.0, elim has.1 [ inl named ↦ inl (named.0, by_ref n named.0 named.1) | inr lasts ↦ absurd (nothing_in n lasts) ])

-- its own name is among those of the calls
itself_in : (n : ℕ) (ns : List ℕ) → is_in n (n ∷ ns) ≡ true
itself_in n ns = or_left (n == n) (is_in n ns) (eq-eqb n n refl)

-- A return.

any_none : (n k : ℕ) (f : ℕ → Bool) → k < n → any_below n f ≡ false → f k ≡ false
unfolding any_below
any_none zero k f lt h = absurd (omega arith)
any_none (suc n) k f lt h =
    let parts = neither (f n) (any_below n f) h in
    elim (cases_eq k n) [
      | inl same ↦ ap f same ∙ parts.0
      | inr off ↦ any_none n k f (omega (arith, off, lt)) parts.1
    ]

any_found : (n : ℕ) (f : ℕ → Bool) → any_below n f ≡ true → (k : ℕ) × (f k ≡ true)
unfolding any_below
any_found zero f h = absurd (cc)
any_found (suc n) f h = elim (or_cases (f n) (any_below n f) h) [ inl last ↦ (n, last) | inr before ↦ any_found n f before ]

named_is : (o : Option ℕ) (n : ℕ) → is_named o n ≡ true → o ≡ Some n
named_is None n h = absurd (cc)
named_is (Some m) n h = ap (λ (x : ℕ). Some x) (sym (eqb-true n m h))

-- a pool of the instance is named
pub own_has : (r : Configuration) (n : ℕ) → is_own r n ≡ true → (k : PoolRef) × (pool_named r k ≡ Some n)
unfolding is_own_at named_at
own_has r n h = elim (or_cases (any_below 8 (λ q. is_named (name_in (r.instance.pools q)) n) || (n == r.shared.conn)) (is_named r.shared.req n) h) [
  | inl first ↦ elim (or_cases (any_below 8 (λ q. is_named (name_in (r.instance.pools q)) n)) (n == r.shared.conn) first) [
    | inl own ↦ (let at = any_found 8 (λ q. is_named (name_in (r.instance.pools q)) n) own in (pool.Own at.0, named_is (name_in (r.instance.pools at.0)) n at.1))
    | inr conn ↦ (pool.Conn, ap (λ (x : ℕ). Some x) (sym (eqb-true n r.shared.conn conn)))
  ]
  | inr req ↦ (pool.Req, named_is r.shared.req n req)
]

not_not : (b : Bool) → not b ≡ false → b ≡ true
not_not true h = refl
not_not false h = absurd (cc)

return_home : (l : Lasting) (r : Configuration) (h : Home) → is_stray r h ≡ false → IsHomeKept l r h → IsHomeKept none_lasts (do_return r) (end_call r.call.name h)
unfolding is_stray
return_home l r home.Free own k = tt
return_home l r (home.Call n) own k = absurd (cc)
return_home l r (home.Pool n) own k = (k.0, inl (own_has r n (not_not (is_own r n) own)))
return_home l r home.Ended own k = tt

return_each : (l : Lasting) (r : Configuration) (xs : List NamedBucket) → list_any (λ x. is_stray r x.bucket.home) xs ≡ false → All (λ x. IsHomeKept l r x.bucket.home) xs
    → All (λ x. IsHomeKept none_lasts (do_return r) x.bucket.home) (map (returned_bucket r.call.name) xs)
return_each l r [] own all = none _
return_each l r (x ∷ xs) own all =
    let parts = neither (is_stray r x.bucket.home) (list_any (λ y. is_stray r y.bucket.home) xs) own in
    All-cons (λ y. IsHomeKept none_lasts (do_return r) y.bucket.home) (returned_bucket r.call.name x) (map (returned_bucket r.call.name) xs)
    (return_home l r x.bucket.home parts.0 (All-head (λ y. IsHomeKept l r y.bucket.home) x xs all))
    (return_each l r xs parts.1 (All-tail (λ y. IsHomeKept l r y.bucket.home) x xs all))

unpassed_is : (b : Bool) → cond b (Some F7) None ≡ None → b ≡ false
unpassed_is true e = absurd (cc)
unpassed_is false e = refl

return_var : (l : Lasting) (r : Configuration) (v : BrigadeVar) → keeps_stray r v ≡ false → (passed_fault v ≡ None → All (λ x. IsHomeKept l r x.bucket.home) (items_of v))
    → passed_fault (returned_var r.call.name v) ≡ None → All (λ x. IsHomeKept none_lasts (do_return r) x.bucket.home) (items_of (returned_var r.call.name v))
unfolding keeps_stray
return_var l r var.Null own all in_use = none _
return_var l r var.Gone own all in_use = none _
return_var l r (var.Live v) own all in_use =
    return_each l r v.items (ap (λ (b : Bool). not b && list_any (λ x. is_stray r x.bucket.home) v.items) (sym (unpassed_is (is_passed v.mark) in_use)) ∙ own) (all in_use)

stray_none : (b : Bool) → cond b (Some F6) None ≡ None → b ≡ false
stray_none true e = absurd (cc)
stray_none false e = refl

return_kept : (p : Program) (t : Status) (l : Lasting) (r : Configuration) → Sound r → fault p r (instr.Ret t) ≡ None → HoldsKept l r → HoldsKept none_lasts (do_return r)
return_kept p t l r sound faultless h = record { brigades = λ b in_use. by_test b (b == 8) refl in_use; loose = none _ } where
  own : any_below 8 (λ b. keeps_stray r (r.instance.brigades b)) ≡ false
  own = stray_none (any_below 8 (λ b. keeps_stray r (r.instance.brigades b))) (first_none (cond (any_below 8 (λ b. keeps_stray r (r.instance.brigades b))) (Some F6) None) None faultless)

  by_slot : (b : ℕ) → (b ≡ 8 → ⊥) → passed_fault (returned_var r.call.name (r.instance.brigades b)) ≡ None
      → All (λ x. IsHomeKept none_lasts (do_return r) x.bucket.home) (items_of (returned_var r.call.name (r.instance.brigades b)))
  by_slot b off in_use = elim (cases_lt b 8) [
    | inl lt ↦ return_var l r (r.instance.brigades b) (any_none 8 b (λ k. keeps_stray r (r.instance.brigades k)) lt own) (h.brigades b) in_use
    | inr le ↦ subst (λ (v : BrigadeVar). All (λ x. IsHomeKept none_lasts (do_return r) x.bucket.home) (items_of (returned_var r.call.name v))) (sym (sound.names.slots b (omega (arith, off, le)))) (none _)
  ]

  by_test : (b : ℕ) (t : Bool) → (b == 8) ≡ t → passed_fault (cond t var.Null (returned_var r.call.name (r.instance.brigades b))) ≡ None
      → All (λ x. IsHomeKept none_lasts (do_return r) x.bucket.home) (items_of (cond t var.Null (returned_var r.call.name (r.instance.brigades b))))
  by_test b true is in_use = none _
  by_test b false is in_use = by_slot b (λ same. (let yes : (b == 8) ≡ true = eq-eqb b 8 same in let no : true ≡ false = sym yes ∙ is in cc)) in_use

-- Other filters go on.

module _ (p : Program) (l : Lasting) (r : Configuration) (change : NamedBucket → NamedBucket) (becomes : (x : NamedBucket) → Becomes l r x (change x)) (shared : Shared)
    (left : LeaveShared l r shared) (out : Out) (s : Sound r) (d : AsDeclared p r) where
  has_gone_on : (n : ℕ) → HasPool l r n → HasPool l (gone_on change shared out r) n
  has_gone_on n has = elim has.1 [
    | inl named ↦ (
      same_live r.shared.pools shared.pools n (stays p l r change becomes shared left out s d named.0 n named.1) ∙ has.0,
      inl (named.0, same_named p l r change becomes shared left out s d named.0 ∙ named.1),
    )
    | inr lasts ↦ (same_live r.shared.pools shared.pools n (left.stay n (or_right (is_own r n) (is_in n l.pools) lasts)) ∙ has.0, inr lasts)
  ]

  becomes_kept : (x : NamedBucket) → IsHomeKept l r x.bucket.home → IsHomeKept l (gone_on change shared out r) (change x).bucket.home
  becomes_kept x k = elim (becomes x).home [
    | inl same ↦ subst (IsHomeKept l (gone_on change shared out r)) (sym same) (match_so _ _ (HasPool l r) (HasPool l (gone_on change shared out r)) (λ n c. c) has_gone_on x.bucket.home k)
    | inr ended ↦ subst (IsHomeKept l (gone_on change shared out r)) (sym ended.1) tt
  ]

  gone_var : (v : BrigadeVar) → (passed_fault v ≡ None → All (λ x. IsHomeKept l r x.bucket.home) (items_of v)) → passed_fault (changed_var change v) ≡ None
      → All (λ x. IsHomeKept l (gone_on change shared out r) x.bucket.home) (items_of (changed_var change v))
  gone_var var.Null all in_use = none _
  gone_var var.Gone all in_use = none _
  gone_var (var.Live v) all in_use = mapped_each _ (λ x. IsHomeKept l (gone_on change shared out r) x.bucket.home) change becomes_kept v.items (all in_use)

  gone_kept : HoldsKept l r → HoldsKept l (gone_on change shared out r)
  gone_kept h = record { brigades = λ b in_use. gone_var (r.instance.brigades b) (h.brigades b) in_use; loose = mapped_each _ (λ x. IsHomeKept l (gone_on change shared out r) x.bucket.home) change becomes_kept r.call.loose h.loose }

passed_changed : (change : NamedBucket → NamedBucket) (v : BrigadeVar) → HoldsPassed v → HoldsPassed (changed_var change v)
passed_changed change var.Null h = h
passed_changed change var.Gone h = h
passed_changed change (var.Live v) h = h

known_gone : (p : Program) (l : Lasting) (r : Configuration) (change : NamedBucket → NamedBucket) (shared : Shared) (out : Out) (f : Phase) → PhaseKnown f p l r → PhaseKnown f p l (gone_on change shared out r)
known_gone p l r change shared out Due k = k
known_gone p l r change shared out Rests k = k
known_gone p l r change shared out Runs k = k
known_gone p l r change shared out Waits k = (k.0, (k.1.0, k.1.1, passed_changed change (r.instance.brigades k.1.0) k.1.2))
known_gone p l r change shared out Broken k = k

passed_filled : (items : List NamedBucket) (v : BrigadeVar) → HoldsPassed v → HoldsPassed (with_items items v)
passed_filled items var.Null h = h
passed_filled items var.Gone h = h
passed_filled items (var.Live v) h = h

cleared_in_use : (T : NamedBucket → Type 0) (reached : ℕ → Bool) (v : BrigadeVar) → (passed_fault v ≡ None → All T (items_of (cleared_var reached v))) → passed_fault (cleared_var reached v) ≡ None
    → All T (items_of (cleared_var reached v))
cleared_in_use T reached var.Null all in_use = none T
cleared_in_use T reached var.Gone all in_use = none T
cleared_in_use T reached (var.Live v) all in_use = by_test (is_reached reached v.on) all in_use where
  by_test : (b : Bool) → (passed_fault (var.Live v) ≡ None → All T (items_of (cond b var.Gone (var.Live (record v { items = map (cleared_bucket reached) v.items })))))
      → passed_fault (cond b var.Gone (var.Live (record v { items = map (cleared_bucket reached) v.items }))) ≡ None
      → All T (items_of (cond b var.Gone (var.Live (record v { items = map (cleared_bucket reached) v.items }))))
  by_test true all in_use = none T
  by_test false all in_use = all in_use

-- Moves.

module _ (p : Program) (s new : Standing) (k : StandsKept p s) (sound : StandsSound p s) where
  between : (f : Phase) → s.phase ≡ f → PhaseKnown f p s.lasting s.now → s.lasting ≡ none_lasts → HoldsKept none_lasts s.now
  between f is known none_last = subst (λ (l : Lasting). HoldsKept l s.now) none_last k.homes

  starts : Starts p s new → StandsKept p new
  starts m =
      let none_last = known_in p s Due m.phase k.known in
      subst (StandsKept p) (sym m.is)
      (record { homes = called_kept (record { calls = m.name ∷ []; pools = [] }) s.now m.name m.next _ (between Due m.phase none_last none_last); known = itself_in m.name [] })

  begins : Begins s new → StandsKept p new
  unfolding named_at
  begins m =
      let none_last = known_in p s Rests m.phase k.known in
      let h = between Rests m.phase none_last none_last in
      subst (StandsKept p) (sym m.is) (record {
        homes = record {
          brigades = λ b in_use. each_so _ _ more (items_of (s.now.instance.brigades b)) (h.brigades b in_use);
          loose = each_so _ _ more s.now.call.loose h.loose;
        };
        known = refl;
      }) where
        by_ref : (n : ℕ) (j : PoolRef) → pool_named s.now j ≡ Some n → (i : PoolRef) × (pool_named (request_begun s.now) i ≡ Some n)
        by_ref n pool.Conn e = (pool.Conn, e)
        by_ref n pool.Req e = absurd (none-some n (sym m.none ∙ e))
        by_ref n (pool.Own q) e = (pool.Own q, e)

        has : (n : ℕ) → HasPool none_lasts s.now n → HasPool none_lasts (request_begun s.now) n
        has n was = (created_lives s.now.shared.conn s.now.shared.pools n was.0, elim was.1 [ inl named ↦ inl (by_ref n named.0 named.1) | inr lasts ↦ inr lasts ])

        more : (x : NamedBucket) → IsHomeKept none_lasts s.now x.bucket.home → IsHomeKept none_lasts (request_begun s.now) x.bucket.home
        more x kept = match_so _ _ (HasPool none_lasts s.now) (HasPool none_lasts (request_begun s.now)) (λ n c. c) has x.bucket.home kept

  module _ (items : List NamedBucket) (m : Calls p items s new) where
    abbrev main_lasts : Lasting
    main_lasts = record { calls = m.name ∷ m.waiting; pools = m.pools }

    abbrev main_called : Configuration
    main_called = called m.name m.next p.main (record s.now { instance = set_in (var.Live (record { name = m.brigade; on = None; mark = Usable; items = items })) s.now.instance })

    may_have : (n : ℕ) → may_come main_lasts s.now (home.Pool n) ≡ true → HasPool main_lasts main_called n
    unfolding named_at
    may_have n e = elim (or_cases ((n == s.now.shared.conn) || is_named s.now.shared.req n) (is_in n m.pools) e) [
      | inl own ↦ elim (or_cases (n == s.now.shared.conn) (is_named s.now.shared.req n) own) [
        | inl conn ↦ (let is : n ≡ s.now.shared.conn = eqb-true n s.now.shared.conn conn in
            (subst (λ (x : ℕ). is_live s.now.shared.pools x ≡ true) (sym is) sound.sound.pools.conn, inl (pool.Conn, ap (λ (x : ℕ). Some x) (sym is))))
        | inr req ↦ (let is = named_is s.now.shared.req n req in
            (path_live s.now.shared.pools n n (s.now.shared.pools.path s.now.shared.conn) (sound.sound.pools.req n is).0, inl (pool.Req, is)))
      ]
      | inr lasts ↦ ((m.others n lasts).live, inr lasts)
    ]

    come_kept : (h : Home) → may_come main_lasts s.now h ≡ true → IsHomeKept main_lasts main_called h
    come_kept home.Free e = tt
    come_kept (home.Call n) e = e
    come_kept (home.Pool n) e = may_have n e
    come_kept home.Ended e = tt

    main_ref : (n : ℕ) (j : PoolRef) → pool_named s.now j ≡ Some n → pool_named main_called j ≡ Some n
    unfolding named_at
    main_ref n pool.Conn e = e
    main_ref n pool.Req e = e
    main_ref n (pool.Own q) e = e

    main_has : (n : ℕ) → HasPool none_lasts s.now n → HasPool main_lasts main_called n
    main_has n was = (was.0, elim was.1 [ inl named ↦ inl (named.0, main_ref n named.0 named.1) | inr lasts ↦ absurd (nothing_in n lasts) ])

    calls : StandsKept p new
    calls =
        let none_last = known_in p s Rests m.phase k.known in
        let h = between Rests m.phase none_last none_last in
        subst (StandsKept p) (sym m.is) (record { homes = record { brigades = λ b in_use. by_var h b in_use; loose = none _ }; known = itself_in m.name m.waiting }) where
          by_var : HoldsKept none_lasts s.now → (b : ℕ) → passed_fault (main_called.instance.brigades b) ≡ None → All (λ x. IsHomeKept main_lasts main_called x.bucket.home) (items_of (main_called.instance.brigades b))
          by_var h b in_use = elim (upd_either s.now.instance.brigades 8 b (var.Live (record { name = m.brigade; on = None; mark = Usable; items = items }))) [
            | inl here ↦ subst (λ (v : BrigadeVar). All (λ x. IsHomeKept main_lasts main_called x.bucket.home) (items_of v)) (sym here.1)
                (each_so (λ x. may_come main_lasts s.now x.bucket.home ≡ true) (λ x. IsHomeKept main_lasts main_called x.bucket.home) (λ x e. come_kept x.bucket.home e) items m.homes)
            | inr off ↦ subst (λ (v : BrigadeVar). All (λ x. IsHomeKept main_lasts main_called x.bucket.home) (items_of v)) (sym off.1)
                (each_so (λ x. IsHomeKept none_lasts s.now x.bucket.home) (λ x. IsHomeKept main_lasts main_called x.bucket.home) (λ x kept. none_kept main_lasts s.now main_called main_has x.bucket.home kept)
                (items_of (s.now.instance.brigades b)) (h.brigades b (ap passed_fault (sym off.1) ∙ in_use)))
          ]

  answers : (t : Status) (items : List NamedBucket) → AnswersCall p t items s new → StandsKept p new
  answers t items m =
      let known = known_in p s Waits m.phase k.known in
      let passes : passed_by (current p s.now.pc) ≡ known.1.0 = ap passed_by known.1.1.1 in
      let passed : HoldsPassed (s.now.instance.brigades (passed_by (current p s.now.pc))) = subst (λ (b : ℕ). HoldsPassed (s.now.instance.brigades b)) (sym passes) known.1.2 in
      subst (StandsKept p) (sym m.is) (record {
        homes = record {
          brigades = λ b in_use. by_var (passed_by (current p s.now.pc)) passed b in_use;
          loose = k.homes.loose;
        };
        known = known.0;
      }) where
        by_var : (d : ℕ) → HoldsPassed (s.now.instance.brigades d) → (b : ℕ) → passed_fault (upd s.now.instance.brigades d (with_items items (s.now.instance.brigades d)) b) ≡ None
            → All (λ x. IsHomeKept s.lasting s.now x.bucket.home) (items_of (upd s.now.instance.brigades d (with_items items (s.now.instance.brigades d)) b))
        by_var d passed b in_use = elim (upd_either s.now.instance.brigades d b (with_items items (s.now.instance.brigades d))) [
          | inl here ↦ absurd (passed_unused (with_items items (s.now.instance.brigades d)) (passed_filled items (s.now.instance.brigades d) passed) (ap passed_fault (sym here.1) ∙ in_use))
          | inr off ↦ subst (λ (v : BrigadeVar). All (λ x. IsHomeKept s.lasting s.now x.bucket.home) (items_of v)) (sym off.1) (k.homes.brigades b (ap passed_fault (sym off.1) ∙ in_use))
        ]

  goes_on : OthersGoOn s new → StandsKept p new
  goes_on m = subst (StandsKept p) (sym m.is) (record {
    homes = gone_kept p s.lasting s.now m.change m.becomes m.shared m.left m.out sound.sound sound.declared k.homes;
    known = known_gone p s.lasting s.now m.change m.shared m.out s.phase k.known;
  })

  elsewhere : GoOnElsewhere s new → StandsKept p new
  unfolding is_live named_at
  elsewhere m = subst (StandsKept p) (sym m.is)
      (record { homes = record { brigades = λ b in_use. k.homes.brigades b in_use; loose = k.homes.loose }; known = elsewhere_known s.phase k.known }) where
        elsewhere_known : (f : Phase) → PhaseKnown f p s.lasting s.now → PhaseKnown f p s.lasting (gone_elsewhere m.next m.pools m.files m.out s.now)
        elsewhere_known Due e = e
        elsewhere_known Rests e = e
        elsewhere_known Runs e = e
        elsewhere_known Waits e = e
        elsewhere_known Broken e = e

  ends : Ends s new → StandsKept p new
  unfolding run_down with_pools named_at
  ends m =
      let none_last = known_in p s Rests m.phase k.known in
      let h = between Rests m.phase none_last none_last in
      let reached : ℕ → Bool = is_under s.now.shared.pools m.req in
      subst (StandsKept p) (sym m.is) (record {
        homes = record {
          brigades = λ b in_use. cleared_in_use (λ x. IsHomeKept none_lasts (request_ended m.req s.now) x.bucket.home) reached (s.now.instance.brigades b)
              (λ was. cleared_each (λ x. IsHomeKept none_lasts s.now x.bucket.home) (λ x. IsHomeKept none_lasts (request_ended m.req s.now) x.bucket.home) reached cleared_kept (s.now.instance.brigades b) (h.brigades b was))
              in_use;
          loose = mapped_each (λ x. IsHomeKept none_lasts s.now x.bucket.home) (λ x. IsHomeKept none_lasts (request_ended m.req s.now) x.bucket.home) (cleared_bucket reached) cleared_kept s.now.call.loose h.loose;
        };
        known = refl;
      }) where
        by_ref : (n : ℕ) → is_under s.now.shared.pools m.req n ≡ false → (j : PoolRef) → pool_named s.now j ≡ Some n → (i : PoolRef) × (pool_named (request_ended m.req s.now) i ≡ Some n)
        by_ref n off pool.Conn e = (pool.Conn, e)
        by_ref n off pool.Req e =
            let same : m.req ≡ n = same_Some m.req n (sym m.opened ∙ e) in
            let path : s.now.shared.pools.path m.req ≡ m.req ∷ s.now.shared.pools.path s.now.shared.conn = (sound.sound.pools.req m.req m.opened).0 in
            let itself : is_under s.now.shared.pools m.req m.req ≡ true = under_itself s.now.shared.pools sound.sound.pools.formed m.req (path_live s.now.shared.pools m.req m.req _ path) in
            absurd (let both : true ≡ false = sym itself ∙ subst (λ (x : ℕ). is_under s.now.shared.pools m.req x ≡ false) (sym same) off in cc)
        by_ref n off (pool.Own q) e = (pool.Own q, e)

        has : (n : ℕ) → is_under s.now.shared.pools m.req n ≡ false → HasPool none_lasts s.now n → HasPool none_lasts (request_ended m.req s.now) n
        has n off was = (
          same_live s.now.shared.pools (destroyed m.req s.now.shared.pools) n (destroyed_apart m.req s.now.shared.pools n off).0 ∙ was.0,
          elim was.1 [ inl named ↦ inl (by_ref n off named.0 named.1) | inr lasts ↦ inr lasts ],
        )

        cleared_kept : (x : NamedBucket) → IsHomeKept none_lasts s.now x.bucket.home → IsHomeKept none_lasts (request_ended m.req s.now) (cleared_bucket (is_under s.now.shared.pools m.req) x).bucket.home
        cleared_kept x kept = cleared_match _ (HasPool none_lasts s.now) (HasPool none_lasts (request_ended m.req s.now)) (is_under s.now.shared.pools m.req) has x.bucket.home kept

-- An instruction.

moved : (l : Lasting) (r : Configuration) (pc : ℕ) → HoldsKept l r → HoldsKept l (record r { pc = pc })
moved l r pc h = record { brigades = h.brigades; loose = h.loose }

module _ (p : Program) (given : Option (List ℕ)) (s : Standing) (k : StandsKept p s) (sound : StandsSound p s) (runs : s.phase ≡ Runs) where
  abbrev chosen : Choice
  chosen = record { answer = Success; given = given }

  named_call : is_in s.now.call.name s.lasting.calls ≡ true
  named_call = known_in p s Runs runs k.known

  goes : (i : Instr) (pc : ℕ) → is_return i ≡ false → MayExecute p s.now i → StandsKept p (record s { now = record (step p chosen i s.now).state { pc = pc } })
  goes i pc on may = record {
    homes = moved s.lasting (step p chosen i s.now).state pc (step_kept s.lasting p chosen s.now sound.sound sound.declared named_call k.homes i on may);
    known = subst (λ (f : Phase). PhaseKnown f p s.lasting (record (step p chosen i s.now).state { pc = pc })) (sym runs)
        (subst (λ (n : ℕ). is_in n s.lasting.calls ≡ true) (sym ((step_changes_only p chosen i s.now).call_name on)) named_call);
  }

  does : (i : Instr) → current p s.now.pc ≡ i → MayExecute p s.now i → StandsKept p (executed p given i s).1
  unfolding executed set_brigade
  does (instr.Pass b l) at may = record {
    homes = step_kept s.lasting p chosen s.now sound.sound sound.declared named_call k.homes (instr.Pass b l) refl may;
    known = (named_call, (b, (l, at), (passes_mark p chosen b l s.now may.faultless).0));
  }
  does (instr.Ret t) at may = record { homes = return_kept p t s.lasting s.now sound.sound may.faultless k.homes; known = refl }
  does i at may = goes i (led_to (step p chosen i s.now).exit i s.now.pc) refl may

  attempts : IsModule p → (told : ToldOfMove) (new : Standing) (f : Option FaultKind) → fault p s.now (current p s.now.pc) ≡ f → Attempts f p given s told new → StandsKept p new
  attempts proper told new None none_told a =
      subst (λ (x : ToldOfMove × Standing). StandsKept p x.1) a.1 (does (current p s.now.pc) refl (may_execute p s.now proper none_told a.0))
  attempts proper told new (Some kind) is a = subst (StandsKept p) (sym a.1) (record { homes = k.homes; known = tt })

pub move_keeps : (p : Program) (s new : Standing) → IsModule p → StandsKept p s → StandsSound p s → (m : Move) (told : ToldOfMove) → IsMove p s m told new → StandsKept p new
unfolding IsMove
move_keeps p s new proper k sound Start told is = starts p s new k sound is.1
move_keeps p s new proper k sound (Execute given) told is = attempts p given s k sound is.0 proper told new (fault p s.now (current p s.now.pc)) refl is.1
move_keeps p s new proper k sound (Answer t items) told is = answers p s new k sound t items is.1
move_keeps p s new proper k sound Others told is = goes_on p s new k sound is.1
move_keeps p s new proper k sound Elsewhere told is = elsewhere p s new k sound is.1
move_keeps p s new proper k sound Begin told is = begins p s new k sound is.1
move_keeps p s new proper k sound (Main items) told is = calls p s new k sound items is.1
move_keeps p s new proper k sound End told is = ends p s new k sound is.1

-- Runs.

pub opened_keeps : (p : Program) (r : Configuration) → IsOpened r → StandsKept p (record { phase = Due; lasting = none_lasts; now = r })
opened_keeps p r o = record {
  homes = record {
    brigades = λ b in_use. subst (λ (i : Instance). All (λ x. IsHomeKept none_lasts r x.bucket.home) (items_of (i.brigades b))) (sym o.instance) (none _);
    loose = subst (λ (c : Call). All (λ x. IsHomeKept none_lasts r x.bucket.home) c.loose) (sym o.call) (none _);
  };
  known = refl;
}

run_keeps : (p : Program) → IsModule p → (s new : Standing) (moves : List Move) (told : List ToldOfMove) → StandsKept p s → StandsSound p s → IsOpenRun p s moves told new → StandsKept p new
unfolding IsOpenRun
run_keeps p proper s new [] [] k sound run = subst (StandsKept p) (sym run) k
run_keeps p proper s new (m ∷ moves) (t ∷ told) k sound (mid, is, rest) =
    run_keeps p proper mid new moves told (move_keeps p s mid proper k sound m t is) (move_kept p s mid sound proper m t is) rest
run_keeps p proper s new [] (t ∷ told) k sound run = absurd run
run_keeps p proper s new (m ∷ moves) [] k sound run = absurd run

pub open_runs_keep : (p : Program) (r : Configuration) (moves : List Move) (told : List ToldOfMove) (new : Standing) → IsModule p → IsOpened r
    → IsOpenRun p (record { phase = Due; lasting = none_lasts; now = r }) moves told new → StandsKept p new
open_runs_keep p r moves told new proper opened run = run_keeps p proper _ new moves told (opened_keeps p r opened) (opened_kept p r opened) run

pub open_runs_keep_homes : OpenRunsKeepHomes
open_runs_keep_homes p r moves told new proper opened run = (open_runs_keep p r moves told new proper opened run).homes
