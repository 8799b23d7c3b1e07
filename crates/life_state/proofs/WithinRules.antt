-- What an instruction makes of a state is below what it makes of a greater one.
use Rattle.std.proofs.Common.{◌≡◌, ℕ, Bool, true, false, ◌&&◌, ◌||◌, not, ◌==◌, nat_lt, if◌then◌else◌, Option, Some, None, Ok, refl, ap, sym, subst, ◌∙◌, inl, inr}
use Rattle.std.proofs.lemmas.Bool.{eqb-true}
use Rattle.module_code.specs.declared.instr.Instr.{Instr}
use Rattle.module_code.specs.declared.instr.Instr.TheVariants as instr
use Rattle.module_code.specs.declared.instr.KindTest.{KindTest}
use Rattle.module_code.specs.declared.instr.PoolRef.{PoolRef}
use Rattle.module_code.specs.declared.instr.PoolRef.TheVariants as pool
use Rattle.module_code.specs.declared.instr.VarRef.{VarRef}
use Rattle.module_code.specs.declared.instr.VarRef.TheVariants as variable
use Rattle.module_code.specs.Program.{Program, pool_of_brigade}
use Rattle.run_model.specs.declared.effect.ClearKind.TheVariants.{Clear, Destroy}
use Rattle.run_model.specs.declared.effect.Effect.{Effect}
use Rattle.run_model.specs.declared.effect.Effect.TheVariants as effect
use Rattle.run_model.specs.declared.effect.Side.{Side}
use Rattle.run_model.specs.declared.effect.Side.TheVariants.{AtTail, AtHead}
use Rattle.run_model.specs.declared.effect.Condition.{Condition}
use Rattle.run_model.specs.declared.effect.Condition.TheVariants as condition
use Rattle.run_model.specs.declared.effect.Branch.{Branch}
use Rattle.run_model.specs.declared.effect.Branch.TheVariants.{ToNext, JumpIf, JumpAlways, EndCall}
use Rattle.run_model.specs.EffectOf.{effect_of, branch_of, instr_with}
use Rattle.run_model.specs.declared.fault.FaultKind.{FaultKind}
use Rattle.run_model.specs.Faults.{OnBucket, OnLoose, InBrigade, Anywhere, wants}
use Rattle.life_state.specs.declared.parts.Contents.{Contents}
use Rattle.life_state.specs.declared.parts.Contents.TheVariants.{Empty, NoLateData}
use Rattle.life_state.specs.declared.parts.Classes.{Classes}
use Rattle.life_state.specs.States.{Homes, no_homes, only_call, home_in, homes_join, dead_where, only_null, only_live, ended_pool, never_made, holds, passed_on, ended_brigade, with_homes, CursorKnown}
use Rattle.life_state.specs.States.{Unset, Loose, In, End, InOrEnd, State, set_pool, set_brigade}
use Rattle.life_state.specs.Facts.{is_set, known, set_cursor}
use Rattle.life_state.specs.Order.{implies, classes_leq, homes_leq, pool_leq, brigade_leq, cursor_leq}
use Rattle.life_state.specs.PoolOrder.{is_under}
use Rattle.life_state.specs.Rules.{homes_at, cursor_need, first_need, concat_content, before_content, emptied, left, carried, split_off, lies_under, is_subpool, cleared_pool, cleared_brigade}
use Rattle.life_state.specs.Rules.{cleared_cursors, with_cleared, cleared_under, cleared, Edges, some_if, no_other, after_pclear, after_pdestroy, after_bclean, after_concat, after_bsplit}
use Rattle.life_state.specs.Rules.{split_part, bucket_or_end, after_first, after_next, is_empty, edges_jempty, told, edges_jend, of_kind, not_of_kind, some_class, with_classes, classes_of}
use Rattle.life_state.specs.Rules.{told_classes, edges_jkind, after_unlink, put_in, if_brigade, after_before, side_content, after_aside, after_read}
use Rattle.life_state.specs.Rules.{may_end, after_pass, pool_not_null, brigade_not_null, edges_jnull, after, on_condition, led, edges, need_or, at_main, at_return, at_end_of_request}
use Rattle.life_state.specs.Monotone.{edge_leq, LeadsBelow, RulesAreMonotone, EntriesAreMonotone}
use Rattle.life_state.proofs.Tests.{split2, and2, split3, or_either, or_left, or_right, implies_says}
use Rattle.life_state.proofs.PartsOrder.{pool_same, brigade_same, homes_same, cursor_same}
use Rattle.life_state.proofs.JoinLeast.{BrigadeParts, parts}
use Rattle.life_state.proofs.Within.{Within, within, below, known_within, moved_within, set_within, told_within, told_over, move_within, pool_within, brigade_within, sent_within}
use Rattle.life_state.proofs.WithinParts.{content_concat, RisesWith, tail_rises, head_rises, before_rises, may_end_rises, not_empty_rises, of_kind_rises, not_of_kind_rises, some_rises, homes_joined}
use Rattle.life_state.proofs.WithinParts.{homes_ended, pool_ended, not_null_within, holds_within, ended_within, homes_changed, brigade_not_null_within, emptied_within, left_within, carried_within}
use Rattle.life_state.proofs.WithinParts.{cleared_within, first_within, split_within, classes_within, with_classes_within, homes_at_within}
use Rattle.life_state.proofs.WithinNeeds.{Met, met, met_all, needs_with, Homed, there, needs_within}
use Rattle.life_state.proofs.Sources.{made_within}

abbrev pub EdgeWithin : Option State → Option State → Type 0
EdgeWithin None y = Unit {0}
EdgeWithin (Some a) None = ⊥
EdgeWithin (Some a) (Some b) = Within a b

abbrev pub EdgesWithin : Edges → Edges → Type 0
EdgesWithin d e = EdgeWithin d.next e.next × EdgeWithin d.jump e.jump

-- what is used of the needs where an instruction leads on from a state, by its branch
abbrev BranchNeeds : State → Branch → Type 0
BranchNeeds b (JumpIf (condition.AtEnd c)) = cursor_need Anywhere (b.cursors c) ≡ None
BranchNeeds b (JumpIf (condition.OfKind c k)) = cursor_need OnBucket (b.cursors c) ≡ None
BranchNeeds b f = Unit {0}

clash : false ≡ true → ⊥
clash e = cc

if_within : (e g : Bool) (a b : State) → (e ≡ true → g ≡ true) → Within a b → EdgeWithin (some_if e a) (some_if g b)
if_within false g a b f w = tt
if_within true true a b f w = w
if_within true false a b f w = absurd (clash (f refl))

number : (b c : ℕ) (s t : Classes) → (b == c && classes_leq s t) ≡ true → (b == c) ≡ true
number b c s t p = (split2 (b == c) (classes_leq s t) p).0

-- Pools that go.

pool_cleared : (under : PoolRef → Bool) (top : PoolRef) (a b : State) (q : ℕ) → pool_leq (a.pools q) (b.pools q) ≡ true → pool_leq (cleared_pool under top a q) (cleared_pool under top b q) ≡ true
pool_cleared under top a b q h = pick (is_subpool under top q)
  where
    pick : (e : Bool) → pool_leq (if e then ended_pool (a.pools q) else a.pools q) (if e then ended_pool (b.pools q) else b.pools q) ≡ true
    pick true = pool_ended (a.pools q) (b.pools q) h
    pick false = h

brigade_cleared : (p : Program) (under : PoolRef → Bool) (a b : State) (n : ℕ) → brigade_leq (a.brigades n) (b.brigades n) ≡ true
    → brigade_leq (cleared_brigade p under a n) (cleared_brigade p under b n) ≡ true
brigade_cleared p under a b n h = pick (lies_under p under n)
  where
    pick : (e : Bool) → brigade_leq (if e then ended_brigade (a.brigades n) else with_homes (dead_where under) (a.brigades n))
        (if e then ended_brigade (b.brigades n) else with_homes (dead_where under) (b.brigades n)) ≡ true
    pick true = ended_within (a.brigades n) (b.brigades n) h
    pick false = homes_changed (dead_where under) (a.brigades n) (b.brigades n) (homes_ended under) h

module _ (p : Program) (s t : State) (w : Within s t) where
  of : (b : ℕ) → BrigadeParts (s.brigades b) (t.brigades b)
  of b = parts (s.brigades b) (t.brigades b) (w.brigades b)

  pub cleared_both : (top : PoolRef) → Within (cleared p top s) (cleared p top t)
  unfolding cleared_under known
  cleared_both top =
      let under = is_under p top in
      moved_within (with_cleared p under top s) (with_cleared p under top t) (cleared_cursors p under s) (cleared_cursors p under t)
      (record {
        variables = w.variables;
        sent = w.sent;
        pools = λ q. pool_cleared under top s t q (w.pools q);
        brigades = λ n. brigade_cleared p under s t n (w.brigades n);
        cursors = w.cursors;
        facts = w.facts;
      })
      (λ k. cleared_within p under (s.cursors k) (t.cursors k) (w.cursors k))

  destroyed : (q : ℕ) → Within (after_pdestroy p q s) (after_pdestroy p q t)
  destroyed q = pool_within (after_pclear p q s) (after_pclear p q t) q (ended_pool (s.pools q)) (ended_pool (t.pools q)) (cleared_both (pool.Own q)) (pool_ended (s.pools q) (t.pools q) (w.pools q))

  -- Brigades.

  emptied_at : (b : ℕ) → Within (set_brigade b (holds Empty no_homes) s) (set_brigade b (holds Empty no_homes) t)
  emptied_at b = brigade_within s t b (holds Empty no_homes) (holds Empty no_homes) w (brigade_same (holds Empty no_homes))

  cleaned : (b : ℕ) → Within (after_bclean b s) (after_bclean b t)
  cleaned b =
      let e = holds Empty no_homes in
      moved_within (set_brigade b e s) (set_brigade b e t) (λ k. emptied b (s.cursors k)) (λ k. emptied b (t.cursors k)) (emptied_at b)
      (λ k. emptied_within b (s.cursors k) (t.cursors k) (w.cursors k))

  joined : (a b : ℕ) (h k : Homes) → homes_leq h k ≡ true → Within (after_concat a b h s) (after_concat a b k t)
  joined a b h k le =
      let e = holds Empty no_homes in
      let v = holds (concat_content (s.brigades a).content (s.brigades b).content) h in
      let u = holds (concat_content (t.brigades a).content (t.brigades b).content) k in
      moved_within (set_brigade b e (set_brigade a v s)) (set_brigade b e (set_brigade a u t)) (λ i. carried a b (s.cursors i)) (λ i. carried a b (t.cursors i))
      (brigade_within (set_brigade a v s) (set_brigade a u t) b e e
      (brigade_within s t a v u w
      (holds_within (concat_content (s.brigades a).content (s.brigades b).content) (concat_content (t.brigades a).content (t.brigades b).content) h k
      (content_concat (s.brigades a).content (s.brigades b).content (t.brigades a).content (t.brigades b).content (of a).content (of b).content) le))
      (brigade_same e))
      (λ i. carried_within a b (s.cursors i) (t.cursors i) (w.cursors i))

  split_at : (b c a : ℕ) → Within (after_bsplit b c a s) (after_bsplit b c a t)
  split_at b c a =
      let v = split_part (s.cursors c) (s.brigades b) in
      let u = split_part (t.cursors c) (t.brigades b) in
      moved_within (set_brigade a v s) (set_brigade a u t) (split_off b c a s) (split_off b c a t)
      (brigade_within s t a v u w (split_within (s.cursors c) (t.cursors c) (s.brigades b) (t.brigades b) (w.cursors c) (w.brigades b)))
      (λ k. pick k (k == c))
    where
      pick : (k : ℕ) (e : Bool)
          → cursor_leq (if e then carried a b (s.cursors k) else emptied a (emptied b (s.cursors k))) (if e then carried a b (t.cursors k) else emptied a (emptied b (t.cursors k))) ≡ true
      pick k true = carried_within a b (s.cursors k) (t.cursors k) (w.cursors k)
      pick k false = emptied_within a (emptied b (s.cursors k)) (emptied b (t.cursors k)) (emptied_within b (s.cursors k) (t.cursors k) (w.cursors k))

  passed : (b : ℕ) → Within (after_pass b s) (after_pass b t)
  passed b =
      let x = s.sent || may_end (s.brigades b).content in
      let y = t.sent || may_end (t.brigades b).content in
      moved_within (record (set_brigade b passed_on s) { sent = x }) (record (set_brigade b passed_on t) { sent = y }) (λ k. left b (s.cursors k)) (λ k. left b (t.cursors k))
      (sent_within (set_brigade b passed_on s) (set_brigade b passed_on t) x y (brigade_within s t b passed_on passed_on w (brigade_same passed_on))
      (λ h. elim (or_either s.sent (may_end (s.brigades b).content) h) [
        | inl sent ↦ or_left t.sent (may_end (t.brigades b).content) (w.sent sent)
        | inr ends ↦ or_right t.sent (may_end (t.brigades b).content) (may_end_rises (s.brigades b).content (t.brigades b).content (of b).content ends)
      ]))
      (λ k. left_within b (s.cursors k) (t.cursors k) (w.cursors k))

  emptiness : (b : ℕ) → EdgesWithin (edges_jempty b s) (edges_jempty b t)
  emptiness b =
      (if_within (not (is_empty (s.brigades b).content)) (not (is_empty (t.brigades b).content)) s t (not_empty_rises (s.brigades b).content (t.brigades b).content (of b).content) w, emptied_at b)

  -- Cursors.

  firsts : (c b : ℕ) → Within (after_first c b s) (after_first c b t)
  firsts c b = set_within s t c (bucket_or_end b (s.brigades b).content) (bucket_or_end b (t.brigades b).content) no_other no_other w
      (first_within b (s.brigades b).content (t.brigades b).content (of b).content) (λ k h. h)

  ends : (c b : ℕ) → Within (set_cursor c (End b) no_other s) (set_cursor c (End b) no_other t)
  ends c b = set_within s t c (End b) (End b) no_other no_other w (cursor_same (End b)) (λ k h. h)

  nexts : (d c : ℕ) (x y : CursorKnown) → cursor_leq x y ≡ true → cursor_need InBrigade y ≡ None → Within (after_next d c x s) (after_next d c y t)
  nexts d c (In m u) (In n v) p h = subst (λ (i : ℕ). Within (after_next d c (In i u) s) (after_next d c (In n v) t)) (sym (eqb-true m n (number m n u v p)))
      (set_within s t d (bucket_or_end n (s.brigades n).content) (bucket_or_end n (t.brigades n).content) (λ k. k == c) (λ k. k == c) w
      (first_within n (s.brigades n).content (t.brigades n).content (of n).content) (λ k e. e))
  nexts d c x Unset p h = cc
  nexts d c x (Loose v k) p h = cc
  nexts d c x (In n v) p h = cc
  nexts d c x (End n) p h = cc
  nexts d c x (InOrEnd n v) p h = cc

  at_end : (c : ℕ) (x y : CursorKnown) → s.cursors c ≡ x → cursor_leq x y ≡ true → cursor_need Anywhere y ≡ None → EdgesWithin (edges_jend c x s) (edges_jend c y t)
  at_end c x Unset e p h = cc
  at_end c (Loose u k) (Loose v l) e p h = (w, tt)
  at_end c (In m u) (In n v) e p h = (w, tt)
  at_end c (In m u) (InOrEnd n v) e p h = (told_over s t c (In n v) w (ap (λ x. cursor_leq x (In n v)) e ∙ p), tt)
  at_end c (InOrEnd m u) (InOrEnd n v) e p h = (told_within s t c (In m u) (In n v) w p, told_within s t c (End m) (End n) w (number m n u v p))
  at_end c (End m) (End n) e p h = (tt, w)
  at_end c (End m) (InOrEnd n v) e p h = (tt, told_over s t c (End n) w (ap (λ x. cursor_leq x (End n)) e ∙ p))
  at_end c x (Loose v l) e p h = cc
  at_end c x (In n v) e p h = cc
  at_end c x (End n) e p h = cc
  at_end c x (InOrEnd n v) e p h = cc

  tell : (c : ℕ) (u v : Classes) → classes_leq u v ≡ true → EdgeWithin (told_classes c u s) (told_classes c v t)
  tell c u v le =
      if_within (some_class u) (some_class v) (told c (with_classes u (s.cursors c)) s) (told c (with_classes v (t.cursors c)) t) (some_rises u v le)
      (told_within s t c (with_classes u (s.cursors c)) (with_classes v (t.cursors c)) w (with_classes_within (s.cursors c) (t.cursors c) u v (w.cursors c) le))

  classes_there : (c : ℕ) → is_set (t.cursors c) ≡ true → classes_leq (classes_of (s.cursors c)) (classes_of (t.cursors c)) ≡ true
  classes_there c set = classes_within (s.cursors c) (t.cursors c) set (w.cursors c)

  homes_there : (c : ℕ) → is_set (t.cursors c) ≡ true → homes_leq (homes_at s (s.cursors c)) (homes_at t (t.cursors c)) ≡ true
  homes_there c set = homes_at_within s t (s.cursors c) (t.cursors c) w.brigades set (w.cursors c)

  kinds : (c : ℕ) (k : KindTest) → is_set (t.cursors c) ≡ true → EdgesWithin (edges_jkind c k s) (edges_jkind c k t)
  kinds c k set =
      let u = classes_of (s.cursors c) in
      let v = classes_of (t.cursors c) in
      let le = classes_there c set in
      (tell c (not_of_kind k u) (not_of_kind k v) (not_of_kind_rises k u v le), tell c (of_kind k u) (of_kind k v) (of_kind_rises k u v le))

  unlinked : (c : ℕ) → is_set (t.cursors c) ≡ true → Within (after_unlink c s) (after_unlink c t)
  unlinked c set =
      let u = classes_of (s.cursors c) in
      let v = classes_of (t.cursors c) in
      let h = homes_at s (s.cursors c) in
      let k = homes_at t (t.cursors c) in
      move_within s t c (Loose u h) (Loose v k) w (and2 (classes_leq u v) (homes_leq h k) (classes_there c set) (homes_there c set))

  put_both : (content : Contents → Classes → Contents) → RisesWith content → (b c : ℕ) → is_set (t.cursors c) ≡ true → Within (put_in content b c s) (put_in content b c t)
  put_both content rise b c set =
      let u = classes_of (s.cursors c) in
      let v = classes_of (t.cursors c) in
      let h = homes_at s (s.cursors c) in
      let k = homes_at t (t.cursors c) in
      let x = holds (content (s.brigades b).content u) (homes_join (s.brigades b).homes h) in
      let y = holds (content (t.brigades b).content v) (homes_join (t.brigades b).homes k) in
      let le = classes_there c set in
      move_within (set_brigade b x s) (set_brigade b y t) c (In b u) (In b v)
      (brigade_within s t b x y w
      (holds_within (content (s.brigades b).content u) (content (t.brigades b).content v) (homes_join (s.brigades b).homes h) (homes_join (t.brigades b).homes k)
      (rise (s.brigades b).content (t.brigades b).content u v (of b).content le) (homes_joined (s.brigades b).homes h (t.brigades b).homes k (of b).homes (homes_there c set))))
      (and2 (b == b) (classes_leq u v) (cursor_same (End b)) le)

  -- in one of the nine brigades
  if_both : (b : ℕ) (a c : State) → Within a c → Within (if_brigade b a s) (if_brigade b c t)
  if_both b a c h = pick (nat_lt b 9)
    where
      pick : (e : Bool) → Within (if e then a else s) (if e then c else t)
      pick true = h
      pick false = w

  befores : (c : ℕ) (x y : CursorKnown) → is_set (t.cursors c) ≡ true → cursor_leq x y ≡ true → cursor_need InBrigade y ≡ None → Within (after_before c x s) (after_before c y t)
  befores c (In m u) (In n v) set p h = subst (λ (i : ℕ). Within (after_before c (In i u) s) (after_before c (In n v) t)) (sym (eqb-true m n (number m n u v p)))
      (if_both n (put_in before_content n c s) (put_in before_content n c t) (put_both before_content before_rises n c set))
  befores c x Unset set p h = cc
  befores c x (Loose v k) set p h = cc
  befores c x (In n v) set p h = cc
  befores c x (End n) set p h = cc
  befores c x (InOrEnd n v) set p h = cc

  asides : (c : ℕ) (q : PoolRef) (x y : CursorKnown) → cursor_leq x y ≡ true → cursor_need OnBucket y ≡ None → Within (after_aside c q x s) (after_aside c q y t)
  asides c q (Loose u k) (Loose v l) p h =
      move_within s t c (Loose u (home_in q)) (Loose v (home_in q)) w (and2 (classes_leq u v) (homes_leq (home_in q) (home_in q)) ((split2 (classes_leq u v) (homes_leq k l) p).0) (homes_same (home_in q)))
  asides c q (In m u) (In n v) p h =
      let change = homes_join (home_in q) in
      subst (λ (i : ℕ). Within (after_aside c q (In i u) s) (after_aside c q (In n v) t)) (sym (eqb-true m n (number m n u v p)))
      (if_both n (set_brigade n (with_homes change (s.brigades n)) s) (set_brigade n (with_homes change (t.brigades n)) t)
      (brigade_within s t n (with_homes change (s.brigades n)) (with_homes change (t.brigades n)) w
      (homes_changed change (s.brigades n) (t.brigades n) (λ h k le. homes_joined (home_in q) h (home_in q) k (homes_same (home_in q)) le) (w.brigades n))))
  asides c q x Unset p h = cc
  asides c q x (Loose v l) p h = cc
  asides c q x (In n v) p h = cc
  asides c q x (End n) p h = cc
  asides c q x (InOrEnd n v) p h = cc

  reads : (c : ℕ) → Within (after_read c s) (after_read c t)
  reads c = set_within s t 8 (s.cursors c) (t.cursors c) (known s c) (known t c) w (w.cursors c) (known_within s t w c)

  unread : Within (set_cursor 8 Unset no_other s) (set_cursor 8 Unset no_other t)
  unread = set_within s t 8 Unset Unset no_other no_other w refl (λ k h. h)

  or_more : (a b c d : Bool) → implies a c ≡ true → implies b d ≡ true → (a || b) ≡ true → (c || d) ≡ true
  or_more a b c d p q h = elim (or_either a b h) [ inl e ↦ or_left c d (implies_says a c p e) | inr e ↦ or_right c d (implies_says b d q e) ]

  nulls : (v : VarRef) → EdgesWithin (edges_jnull v s) (edges_jnull v t)
  nulls (variable.Pool q) =
      let a = s.pools q in
      let b = t.pools q in
      let le = split3 (implies a.null b.null) (implies a.gone b.gone) (implies a.live b.live) (w.pools q) in (
        if_within (a.gone || a.live) (b.gone || b.live) (set_pool q (pool_not_null a) s) (set_pool q (pool_not_null b) t) (or_more a.gone a.live b.gone b.live (le.1) (le.2))
            (pool_within s t q (pool_not_null a) (pool_not_null b) w (not_null_within a b (w.pools q))),
        if_within a.null b.null (set_pool q only_null s) (set_pool q only_null t) (implies_says a.null b.null (le.0)) (pool_within s t q only_null only_null w (pool_same only_null)),
      )
  nulls (variable.Brigade n) =
      let a = s.brigades n in
      let b = t.brigades n in (
        if_within (a.gone || a.live) (b.gone || b.live) (set_brigade n (brigade_not_null a) s) (set_brigade n (brigade_not_null b) t) (or_more a.gone a.live b.gone b.live (of n).gone (of n).live)
            (brigade_within s t n (brigade_not_null a) (brigade_not_null b) w (brigade_not_null_within a b (w.brigades n))),
        if_within a.null b.null (set_brigade n never_made s) (set_brigade n never_made t) (implies_says a.null b.null (of n).null)
            (brigade_within s t n never_made never_made w (brigade_same never_made)),
      )

  -- the cursors whose homes are asked for
  homed : (i : Instr) → Met t (wants p i) → Homed t (wants p i)
  unfolding Met Homed
  homed (instr.Jump l) h = tt
  homed i h = search there

  leads : (i : Instr) → Met t (wants p i) → BranchNeeds (after p (effect_of i) t) (branch_of i)
  unfolding Met
  leads (instr.JEnd c l) h = h.0
  leads (instr.JKind c k l) h = h.0
  leads i h = tt

  inserts : (side : Side) → RisesWith (side_content side)
  inserts AtTail = tail_rises
  inserts AtHead = head_rises

  after_within : (e : Effect) → Met t (wants p (instr_with e)) → Within (after p e s) (after p e t)
  unfolding Met
  after_within (effect.MakePool q) h = pool_within s t q only_live only_live w (pool_same only_live)
  after_within (effect.EmptyPool Clear q) h = cleared_both (pool.Own q)
  after_within (effect.EmptyPool Destroy q) h = destroyed q
  after_within (effect.MakeBrigade o) h = emptied_at o
  after_within (effect.Clean b) h = cleaned b
  after_within (effect.Concat a b) h =
      joined a b (homes_join (s.brigades a).homes (s.brigades b).homes) (homes_join (t.brigades a).homes (t.brigades b).homes)
      (homes_joined (s.brigades a).homes (s.brigades b).homes (t.brigades a).homes (t.brigades b).homes (of a).homes (of b).homes)
  after_within (effect.SplitBrigade b c a) h = split_at b c a
  after_within (effect.PartBrigade b x c) h = firsts c b
  after_within (effect.Save o b) h =
      let home = home_in (pool_of_brigade p o) in
      joined o b (homes_join (s.brigades o).homes home) (homes_join (t.brigades o).homes home) (homes_joined (s.brigades o).homes home (t.brigades o).homes home (of o).homes (homes_same home))
  after_within (effect.Pass b) h = passed b
  after_within (effect.First c b) h = firsts c b
  after_within (effect.Next d c) h = nexts d c (s.cursors c) (t.cursors c) (w.cursors c) (h.0)
  after_within (effect.Unlink c) h = unlinked c (there InBrigade (t.cursors c) (h.0))
  after_within (effect.Delete c) h = move_within s t c Unset Unset w refl
  after_within (effect.Insert side b c) h = put_both (side_content side) (inserts side) b c (there OnLoose (t.cursors c) (h.1.0))
  after_within (effect.Before c d) h = befores c (s.cursors d) (t.cursors d) (there OnLoose (t.cursors c) (h.0)) (w.cursors d) (h.1.0)
  after_within (effect.Make c from) h = made_within p s t w c from h
  after_within (effect.Aside c q) h = asides c q (s.cursors c) (t.cursors c) (w.cursors c) (h.0)
  after_within (effect.Read c) h = reads c
  after_within e h = w

-- a and b are what an effect makes of s and t
module _ (p : Program) (s t : State) (w : Within s t) (a b : State) (v : Within a b) where
  on_condition_within : (when : Condition) → BranchNeeds b (JumpIf when) → EdgesWithin (on_condition when s a) (on_condition when t b)
  on_condition_within (condition.TooShort n x c) h = (v, ends p s t w c n)
  on_condition_within (condition.NoBucket n) h = emptiness p a b v n
  on_condition_within (condition.AtEnd c) h = at_end p a b v c (a.cursors c) (b.cursors c) refl (v.cursors c) h
  on_condition_within (condition.OfKind c k) h = kinds p a b v c k (there OnBucket (b.cursors c) h)
  on_condition_within (condition.ReadFailed c) h = (v, unread p s t w)
  on_condition_within (condition.IsNull x) h = nulls p a b v x
  on_condition_within condition.WasSent h = (sent_within a b false false v (λ h. h), if_within a.sent b.sent a b v.sent v)
  on_condition_within when h = (v, v)

  led_within : (f : Branch) → BranchNeeds b f → EdgesWithin (led f s a) (led f t b)
  led_within ToNext h = (v, tt)
  led_within (JumpIf when) h = on_condition_within when h
  led_within JumpAlways h = (tt, v)
  led_within EndCall h = (tt, tt)

edges_within : (p : Program) (s t : State) → Within s t → (i : Instr) → first_need t (wants p i) ≡ None → EdgesWithin (edges p i s) (edges p i t)
edges_within p s t w i none =
    let e = effect_of i in
    let v = after_within p s t w e (met t (wants p (instr_with e)) (needs_with p i t none)) in
    led_within p s t w (after p e s) (after p e t) v (branch_of i) (leads p s t w i (met t (wants p i) none))

edge_below : (x y : Option State) → EdgeWithin x y → edge_leq x y ≡ true
edge_below None y h = refl
edge_below (Some a) None h = absurd h
edge_below (Some a) (Some b) h = below a b h

pub rules_are_monotone : RulesAreMonotone
rules_are_monotone p i s t e f g le h = answered (first_need t (wants p i)) refl h
  where
    w : Within s t
    w = within s t f g le

    leads : first_need t (wants p i) ≡ None → (d : Edges) → edges p i t ≡ d → LeadsBelow p i s d
    leads none d same =
        let of_t = met t (wants p i) none in
        let all = edges_within p s t w i none in
        record {
          edges = edges p i s;
          safe = ap (λ o. need_or o (edges p i s)) (met_all s (wants p i) (needs_within s t f w (wants p i) (homed p s t w i of_t) of_t));
          next = edge_below (edges p i s).next d.next (subst (λ (x : Edges). EdgeWithin (edges p i s).next x.next) same (all.0));
          jump = edge_below (edges p i s).jump d.jump (subst (λ (x : Edges). EdgeWithin (edges p i s).jump x.jump) same (all.1));
        }

    answered : (k : Option FaultKind) → first_need t (wants p i) ≡ k → need_or k (edges p i t) ≡ Ok e → LeadsBelow p i s e
    answered None none same = leads none e (cc)
    answered (Some k) none same = cc

main_both : (s t : State) → Within s t → Within (at_main s) (at_main t)
main_both s t w = brigade_within s t 8 (holds NoLateData only_call) (holds NoLateData only_call) w (brigade_same (holds NoLateData only_call))

return_both : (s t : State) → Within s t → Within (at_return s) (at_return t)
return_both s t w =
    let v = brigade_within s t 8 never_made never_made w (brigade_same never_made) in
    record { variables = v.variables; sent = v.sent; pools = v.pools; brigades = v.brigades; cursors = λ c. refl; facts = λ c d h. absurd (clash h) }

end_both : (p : Program) (s t : State) → Within s t → Within (at_end_of_request p s) (at_end_of_request p t)
unfolding at_end_of_request
end_both p s t w = sent_within (cleared p pool.Req s) (cleared p pool.Req t) false false (cleared_both p s t w pool.Req) (λ h. h)

pub entries_are_monotone : EntriesAreMonotone
entries_are_monotone = record {
  serves = λ s t f g le. below (at_main s) (at_main t) (main_both s t (within s t f g le));
  returns = λ s t f g le. below (at_return s) (at_return t) (return_both s t (within s t f g le));
  ends = λ p s t f g le. below (at_end_of_request p s) (at_end_of_request p t) (end_both p s t (within s t f g le));
}
