-- States that pass the test of form.
use Rattle.std.proofs.Common.{◌≡◌, ℕ, [], ◌<◌, ◌≤◌, ◌≢◌, Bool, true, false, ◌&&◌, ◌||◌, not, length, inl, inr, ◌⊎◌, ⊎_elim, refl, sym, ap, subst, ◌∙◌, arith}
use Rattle.std.specs.Prelude.{List, slice_index_or}
use Rattle.std.proofs.Math.Dec.{eqb, ltb}
use Rattle.std.proofs.Math.Bool.{beq}
use Rattle.std.proofs.lemmas.Bool.{cases_lt, le-ltb, ne_eqb}
use Rattle.std.proofs.lemmas.List.{get_or_past}
use Rattle.life_state.specs.declared.parts.Contents.{Contents}
use Rattle.life_state.specs.declared.parts.Contents.TheVariants.{Empty, Flushes, NoEos, NoLateData, Any}
use Rattle.life_state.specs.declared.parts.PoolState.{PoolState}
use Rattle.life_state.specs.declared.parts.CursorState.TheVariants as cursor
use Rattle.life_state.specs.declared.state.State as code
use Rattle.life_state.specs.Rules.{is_empty}
use Rattle.life_state.specs.declared.parts.HomeSet.{HomeSet}
use Rattle.life_state.specs.States.{Homes, BrigadeKnown, State, Unset, is_live_brigade, never_made, no_homes, only_null}
use Rattle.life_state.specs.Form.{some_pool, FormedBrigade, FormedCursor, IsFormed}
use Rattle.life_state.specs.InForm.{is_null, is_unmade, is_formed_pool}
use Rattle.life_state.specs.FormTests.{NamesBelow, FormedPool, FormedPlace, FormedFact, FormedAt}
use Rattle.life_state.specs.Seen.{seen, seen_homes, seen_brigade, seen_cursor, unmade}
use Rattle.life_state.proofs.OpeningLaws.{null_brigades}

pub names_below : (h : HomeSet) (n : ℕ) → length h.pools.own ≡ 8 → ((q : ℕ) → q < 8 → slice_index_or h.pools.own q false ≡ true → q < n) → NamesBelow n (seen_homes h)
names_below h n long below = (refl, λ q is. at q is (cases_lt q 8))
  where
    at : (q : ℕ) → slice_index_or h.pools.own q false ≡ true → (q < 8) ⊎ (8 ≤ q) → q < n
    at q is (inl k) = below q k is
    at q is (inr k) = let past : slice_index_or h.pools.own q false ≡ false = get_or_past h.pools.own q false (omega arith) in cc (is, past)

pub unmade_is : (v : BrigadeKnown) → FormedBrigade v → v.null ≡ true → v.gone ≡ false → v.live ≡ false → v ≡ never_made
unmade_is v h null gone live =
    let none : (v.usable || v.passed) ≡ false = sym h.marks ∙ live in
    let both = none_of v.usable v.passed none in
    let bare = h.bare both.0 in
    let of : Bool → Bool → Bool → Bool → Bool → Contents → Homes → BrigadeKnown = λ n g l u p c k. record { null = n; gone = g; live = l; usable = u; passed = p; content = c; homes = k } in
    ap (λ (b : Bool). of b v.gone v.live v.usable v.passed v.content v.homes) null
    ∙ (ap (λ (b : Bool). of true b v.live v.usable v.passed v.content v.homes) gone
    ∙ (ap (λ (b : Bool). of true false b v.usable v.passed v.content v.homes) live
    ∙ (ap (λ (b : Bool). of true false false b v.passed v.content v.homes) both.0
    ∙ (ap (λ (b : Bool). of true false false false b v.content v.homes) both.1
    ∙ (ap (λ (c : Contents). of true false false false false c v.homes) bare.0 ∙ ap (of true false false false false Empty) bare.1)))))
  where
    none_of : (a b : Bool) → (a || b) ≡ false → (a ≡ false) × (b ≡ false)
    none_of false b h = (refl, h)
    none_of true b h = cc h

and_both : (a b : Bool) → (a && b) ≡ true → (a ≡ true) × (b ≡ true)
and_both true b h = (refl, h)
and_both false b h = cc h

pub both_of : (a b : Bool) → (a && b) ≡ true → (a ≡ true) × (b ≡ true)
both_of a b h = and_both a b h

or_last : (a b : Bool) → a ≡ false → (a || b) ≡ true → b ≡ true
or_last true b n h = cc n
or_last false b n h = h

beq_is : (a b : Bool) → beq a b ≡ true → a ≡ b
beq_is true true h = refl
beq_is false false h = refl
beq_is true false h = cc h
beq_is false true h = cc h

empty_is : (k : Contents) → is_empty k ≡ true → k ≡ Empty
empty_is Empty h = refl
empty_is Flushes h = cc h
empty_is NoEos h = cc h
empty_is NoLateData h = cc h
empty_is Any h = cc h

pub formed_brigade : (v : BrigadeKnown) (free : Bool) → (free ≡ true → v.homes ≡ no_homes)
    → ((((v.null || v.gone) || v.live) && beq v.live (v.usable || v.passed)) && (v.usable || (is_empty v.content && free))) ≡ true → FormedBrigade v
formed_brigade v free none h =
    let a = and_both (((v.null || v.gone) || v.live) && beq v.live (v.usable || v.passed)) (v.usable || (is_empty v.content && free)) h in
    let b = and_both ((v.null || v.gone) || v.live) (beq v.live (v.usable || v.passed)) a.0 in
    record {
      some = b.0;
      marks = beq_is v.live (v.usable || v.passed) b.1;
      bare = λ unused. let c = and_both (is_empty v.content) free (or_last v.usable (is_empty v.content && free) unused a.1) in (empty_is v.content c.0, none c.1);
    }

pub formed_pool : (s : State) (q : ℕ) (v : PoolState) (null : Bool) → v ≡ s.pools q → (null ≡ true → v ≡ only_null) → (((v.null || v.gone) || v.live) && (ltb q s.pool_count || null)) ≡ true
    → FormedPool s q
formed_pool s q v null at is h =
    let a = and_both ((v.null || v.gone) || v.live) (ltb q s.pool_count || null) h in
    subst (λ (w : PoolState). (some_pool w ≡ true) × (s.pool_count ≤ q → w ≡ only_null)) at
    (a.0, λ past. is (or_last (ltb q s.pool_count) null (le-ltb q s.pool_count past) a.1))

pub formed_place : (s : State) (b : ℕ) (v : BrigadeKnown) (f d u : Bool) → v ≡ s.brigades b → (f ≡ true → FormedBrigade v) → (d ≡ true → NamesBelow s.pool_count v.homes)
    → (u ≡ true → (v.null ≡ true) × (v.gone ≡ false) × (v.live ≡ false))
    → ((f && d) && ((eqb b 8 || ltb b s.brigade_count) || u)) ≡ true → FormedPlace s b
formed_place s b v f d u at formed declared unmade h =
    let a = and_both (f && d) ((eqb b 8 || ltb b s.brigade_count) || u) h in
    let two = and_both f d a.0 in
    subst (λ (w : BrigadeKnown). FormedBrigade w × (NamesBelow s.pool_count w.homes × (s.brigade_count ≤ b → b ≢ 8 → w ≡ never_made))) at
    (formed two.0, (declared two.1, λ past other. let n = unmade (last past other a.1) in unmade_is v (formed two.0) n.0 n.1 n.2))
  where
    last : s.brigade_count ≤ b → b ≢ 8 → ((eqb b 8 || ltb b s.brigade_count) || u) ≡ true → u ≡ true
    last past other k =
        let none : (eqb b 8 || ltb b s.brigade_count) ≡ false = ap (λ (x : Bool). x || ltb b s.brigade_count) (ne_eqb b 8 other) ∙ le-ltb b s.brigade_count past in
        or_last (eqb b 8 || ltb b s.brigade_count) u none k

-- what is known of a variable of which nothing was made
null_parts : (n g l : Bool) → (n && not g && not l) ≡ true → (n ≡ true) × (g ≡ false) × (l ≡ false)
null_parts true false false h = (refl, refl, refl)
null_parts true false true h = cc h
null_parts true true l h = cc h
null_parts false g l h = cc h

pub unmade_says : (v : BrigadeKnown) → is_unmade v ≡ true → (v.null ≡ true) × (v.gone ≡ false) × (v.live ≡ false)
unmade_says v h = null_parts v.null v.gone v.live h

null_says : (v : PoolState) → is_null v ≡ true → v ≡ only_null
null_says v h =
    let p = null_parts v.null v.gone v.live h in
    let of : Bool → Bool → Bool → PoolState = λ n g l. record { null = n; gone = g; live = l } in
    ap (λ b. of b v.gone v.live) p.0 ∙ (ap (λ b. of true b v.live) p.1 ∙ ap (of true false) p.2)

pub pool_says : (s : State) (q : ℕ) → is_formed_pool s q ≡ true → FormedPool s q
pool_says s q h = formed_pool s q (s.pools q) (is_null (s.pools q)) refl (null_says (s.pools q)) h

-- `in` is not given, or live
pub brought_says : (v : BrigadeKnown) → (is_unmade v || is_live_brigade v) ≡ true → FormedBrigade v → (v ≡ never_made) ⊎ (is_live_brigade v ≡ true)
brought_says v h formed = either (is_unmade v) refl h
  where
    either : (u : Bool) → is_unmade v ≡ u → (u || is_live_brigade v) ≡ true → (v ≡ never_made) ⊎ (is_live_brigade v ≡ true)
    either true e k = let p = unmade_says v e in inl (unmade_is v formed p.0 p.1 p.2)
    either false e k = inr k

-- What stands in beyond the last variable.
pub past_brigade : seen_brigade unmade ≡ never_made
past_brigade = ap (λ (f : ℕ → BrigadeKnown). f 9) null_brigades

never_formed : FormedBrigade never_made
never_formed = record { some = refl; marks = refl; bare = λ _. (refl, refl) }

module _ (s : code.State) (pools : length s.pools ≡ 8) (brigades : length s.brigades ≡ 9) (cursors : length s.cursors ≡ 9) (rows : length s.facts ≡ 9) where
  pool_past : (q : ℕ) → 8 ≤ q → (seen s).pools q ≡ only_null
  unfolding seen
  pool_past q past = get_or_past s.pools q only_null (omega arith)

  brigade_past : (b : ℕ) → 9 ≤ b → (seen s).brigades b ≡ never_made
  unfolding seen
  brigade_past b past = ap seen_brigade (get_or_past s.brigades b unmade (omega arith)) ∙ past_brigade

  cursor_past : (c : ℕ) → 9 ≤ c → (seen s).cursors c ≡ Unset
  unfolding seen
  cursor_past c past = ap seen_cursor (get_or_past s.cursors c cursor.Unset (omega arith))

  fact_past : (c d : ℕ) → 9 ≤ c → (seen s).facts c d ≡ false
  unfolding seen
  fact_past c d past = ap (λ (row : List Bool). slice_index_or row d false) (get_or_past s.facts c [] (omega arith))

  pub formed_row : (c : ℕ) → length (slice_index_or s.facts c []) ≡ 9 → ((d : ℕ) → d < 9 → FormedFact (seen s) c d) → (d : ℕ) → FormedFact (seen s) c d
  unfolding seen
  formed_row c row below d = at (cases_lt d 9)
    where
      at : (d < 9) ⊎ (9 ≤ d) → FormedFact (seen s) c d
      at (inl k) = below d k
      at (inr k) =
          let none : (seen s).facts c d ≡ false = get_or_past (slice_index_or s.facts c []) d false (omega arith) in
          ((λ h. cc (h, none)), none ∙ sym (fact_past d c k))

  pub formed_state : (seen s).pool_count ≤ 8 → (seen s).brigade_count ≤ 8 → (FormedBrigade ((seen s).brigades 8)
      → ((seen s).brigades 8 ≡ never_made) ⊎ (is_live_brigade ((seen s).brigades 8) ≡ true)) → ((q : ℕ) → q < 8 → FormedPool (seen s) q) → ((k : ℕ) → k < 9 → FormedAt (seen s) k) → IsFormed (seen s)
  formed_state few_pools few_brigades brought pool_at place_at = record {
    pool_count = few_pools;
    brigade_count = few_brigades;
    pools = λ q. ⊎_elim (λ (k : q < 8). (pool_at q k).0) (λ (k : 8 ≤ q). ap some_pool (pool_past q k)) (cases_lt q 8);
    no_pools = λ q past. ⊎_elim (λ (k : q < 8). (pool_at q k).1 past) (λ (k : 8 ≤ q). pool_past q k) (cases_lt q 8);
    brigades = λ b. ⊎_elim (λ (k : b < 9). (place_at b k).0.0) (λ (k : 9 ≤ b). subst FormedBrigade (sym (brigade_past b k)) never_formed) (cases_lt b 9);
    homes = λ b. ⊎_elim (λ (k : b < 9). (place_at b k).0.1.0) (λ (k : 9 ≤ b). subst (λ (v : BrigadeKnown). NamesBelow (seen s).pool_count v.homes) (sym (brigade_past b k)) (refl, λ q h. cc h))
        (cases_lt b 9);
    no_brigades = λ b past other. ⊎_elim (λ (k : b < 9). (place_at b k).0.1.1 past other) (λ (k : 9 ≤ b). brigade_past b k) (cases_lt b 9);
    brought = brought (place_at 8 (omega arith)).0.0;
    cursors = λ c. ⊎_elim (λ (k : c < 9). (place_at c k).1.0) (λ (k : 9 ≤ c). subst (FormedCursor (seen s)) (sym (cursor_past c k)) tt) (cases_lt c 9);
    no_cursors = λ c past. cursor_past c past;
    facts = λ c d. ⊎_elim (λ (k : c < 9). ((place_at c k).1.1 d).0) (λ (k : 9 ≤ c). λ (h : (seen s).facts c d ≡ true). absurd (apart (sym h ∙ fact_past c d k))) (cases_lt c 9);
    symmetric = λ c d. ⊎_elim (λ (k : c < 9). ((place_at c k).1.1 d).1)
        (λ (k : 9 ≤ c). ⊎_elim (λ (j : d < 9). sym ((place_at d j).1.1 c).1) (λ (j : 9 ≤ d). fact_past c d k ∙ sym (fact_past d c j)) (cases_lt d 9)) (cases_lt c 9);
  }
    where
      apart : true ≡ false → ⊥
      apart h = cc h
