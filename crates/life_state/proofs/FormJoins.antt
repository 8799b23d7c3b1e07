-- The join of two states in form, of the same variables, is in form.
use Rattle.std.proofs.Common.{◌≡◌, ℕ, ◌<◌, ◌≤◌, Bool, true, false, ◌&&◌, ◌||◌, not, ◌==◌, if◌then◌else◌, refl, ap, ap₂, sym, subst, ◌∙◌, ◌⊎◌, inl, inr}
use Rattle.module_code.specs.Program.{Program}
use Rattle.life_state.specs.declared.parts.Classes.{Classes}
use Rattle.life_state.specs.States.{Homes, BrigadeKnown, never_made, is_live_brigade, CursorKnown, Unset, Loose, In, End, InOrEnd, State}
use Rattle.life_state.specs.Facts.{is_set, is_apart, place_of, known}
use Rattle.life_state.specs.Order.{classes_join, pool_join, brigade_join, join_here, cursor_join, is_at_hand, if_at_hand, kept_cursor, joined_brigades, joined_cursors, join}
use Rattle.life_state.specs.Rules.{some_class}
use Rattle.life_state.specs.Form.{NamesDeclared, FormedCursor, IsFormed}
use Rattle.life_state.specs.FormLaws.{IsFormedIn, JoinsKeepForm, JoinsAbsorb}
use Rattle.std.proofs.lemmas.Bool.{eq-eqb}
use Rattle.life_state.proofs.FormOrder.{leq_both}
use Rattle.life_state.proofs.JoinAbove.{join_above}
use Rattle.life_state.proofs.JoinLeast.{join_least}
use Rattle.life_state.proofs.OrderLaws.{leq_same}
use Rattle.life_state.proofs.FormFacts.{known_turned}
use Rattle.life_state.proofs.FormParts.{homes_join_named, some_left, brigade_join_formed}
use Rattle.life_state.proofs.FormMoves.{live_not_null, Based, with_facts}
use Rattle.life_state.proofs.Tests.{split2, not_true, split3, and2, and3, or_left}

-- a cursor in form, but for its brigade
Shaped : State → CursorKnown → Type 0
Shaped s Unset = Unit {0}
Shaped s (Loose t h) = (some_class t ≡ true) × NamesDeclared s h
Shaped s (In b t) = (b < 9) × (some_class t ≡ true)
Shaped s (End b) = b < 9
Shaped s (InOrEnd b t) = (b < 9) × (some_class t ≡ true)

shaped : (s : State) (x : CursorKnown) → FormedCursor s x → Shaped s x
unfolding Shaped
shaped s Unset f = f
shaped s (Loose t h) f = f
shaped s (In b t) f = (f.1.0, f.0)
shaped s (End b) f = f.0
shaped s (InOrEnd b t) f = (f.1.0, f.0)

classes_join_some : (t u : Classes) → some_class t ≡ true → some_class (classes_join t u) ≡ true
classes_join_some t u h = some_left t.bytes t.flush t.eos u.bytes u.flush u.eos h

-- two cursors at one place
here_shaped : (s : State) (x y : CursorKnown) → Shaped s x → Shaped s y → Shaped s (join_here x y)
unfolding Shaped
here_shaped s (Loose t h) (Loose u k) f g = (classes_join_some t u (f.0), homes_join_named s h k (f.1) (g.1))
here_shaped s (In b t) (In c u) f g = (f.0, classes_join_some t u (f.1))
here_shaped s (In b t) (End c) f g = f
here_shaped s (In b t) (InOrEnd c u) f g = (f.0, classes_join_some t u (f.1))
here_shaped s (End b) (In c u) f g = (f, g.1)
here_shaped s (End b) (End c) f g = f
here_shaped s (End b) (InOrEnd c u) f g = (f, g.1)
here_shaped s (InOrEnd b t) (In c u) f g = (f.0, classes_join_some t u (f.1))
here_shaped s (InOrEnd b t) (End c) f g = f
here_shaped s (InOrEnd b t) (InOrEnd c u) f g = (f.0, classes_join_some t u (f.1))
here_shaped s Unset y f g = tt
here_shaped s (Loose t h) y f g = tt
here_shaped s (In b t) y f g = tt
here_shaped s (End b) y f g = tt
here_shaped s (InOrEnd b t) y f g = tt

cursor_join_shaped : (s : State) (x y : CursorKnown) → Shaped s x → Shaped s y → Shaped s (cursor_join x y)
unfolding Shaped cursor_join
cursor_join_shaped s x y f g = either (place_of x == place_of y)
  where
    either : (e : Bool) → Shaped s (if e then join_here x y else Unset)
    either true = here_shaped s x y f g
    either false = tt

-- a cursor whose brigade is at hand, or that is unset
hand_if : (s : State) (b : ℕ) (x : CursorKnown) → (is_at_hand (s.brigades b) ≡ true → FormedCursor s x) → FormedCursor s (if_at_hand (s.brigades b) x)
hand_if s b x f = either (is_at_hand (s.brigades b)) refl
  where
    either : (e : Bool) → is_at_hand (s.brigades b) ≡ e → FormedCursor s (if e then x else Unset)
    either true h = f h
    either false h = tt

kept_formed : (s : State) (x : CursorKnown) → Shaped s x → FormedCursor s (kept_cursor s.brigades x)
unfolding Shaped
kept_formed s Unset f = f
kept_formed s (Loose t h) f = f
kept_formed s (In b t) f = hand_if s b (In b t) (λ e. (f.1, (f.0, e)))
kept_formed s (End b) f = hand_if s b (End b) (λ e. (f, e))
kept_formed s (InOrEnd b t) f = hand_if s b (InOrEnd b t) (λ e. (f.1, (f.0, e)))

-- the variables of the other state are as many
named_as : (s t : State) (h : Homes) → s.pool_count ≡ t.pool_count → NamesDeclared s h → NamesDeclared t h
named_as s t h same f = (f.0, λ q e. subst (λ (n : ℕ). q < n) same (f.1 q e))

renamed : (s t : State) (x : CursorKnown) → s.pool_count ≡ t.pool_count → Shaped s x → Shaped t x
unfolding Shaped
renamed s t Unset same f = f
renamed s t (Loose u h) same f = (f.0, named_as s t h same (f.1))
renamed s t (In b u) same f = f
renamed s t (End b) same f = f
renamed s t (InOrEnd b u) same f = f

-- Two brigades of which both are live, or both may be null or neither.

neither : (x y : Bool) → not x ≡ true → not y ≡ true → not (x || y) ≡ true
neither true y h k = h
neither false y h k = k

brigade_join_live : (v w : BrigadeKnown) → is_live_brigade v ≡ true → is_live_brigade w ≡ true → is_live_brigade (brigade_join v w) ≡ true
unfolding brigade_join
brigade_join_live v w h k =
    let h3 = split3 v.live (not v.null) (not v.gone) h in
    let k3 = split3 w.live (not w.null) (not w.gone) k in
    and3 (v.live || w.live) (not (v.null || w.null)) (not (v.gone || w.gone)) (or_left v.live w.live (h3.0)) (neither v.null w.null (h3.1) (k3.1)) (neither v.gone w.gone (h3.2) (k3.2))

same_null : (x y c : Bool) → not x ≡ c → not y ≡ c → not (x || y) ≡ c
same_null true y c h k = h
same_null false y c h k = k

-- one was never made and the other is live
unlike : (v w : BrigadeKnown) (c : Bool) → v ≡ never_made → is_live_brigade w ≡ true → not v.null ≡ c → not w.null ≡ c → ⊥
unlike v w c never live h k = clash (sym (ap (λ u. not u.null) never) ∙ (h ∙ (sym k ∙ live_not_null w live)))
  where
    clash : false ≡ true → ⊥
    clash e = cc

module _ (p : Program) (call : Bool) (a b : State) (f : IsFormedIn p call a) (g : IsFormedIn p call b) where
  same_pools : b.pool_count ≡ a.pool_count
  same_pools = g.pools ∙ sym f.pools

  same_brigades : b.brigade_count ≡ a.brigade_count
  same_brigades = g.brigades ∙ sym f.brigades

  -- both were never made, or both are live
  in_join : (a.brigades 8 ≡ never_made) ⊎ (is_live_brigade (a.brigades 8) ≡ true) → (b.brigades 8 ≡ never_made) ⊎ (is_live_brigade (b.brigades 8) ≡ true)
      → (joined_brigades a b 8 ≡ never_made) ⊎ (is_live_brigade (joined_brigades a b 8) ≡ true)
  unfolding brigade_join
  in_join (inl x) (inl y) = inl (ap₂ brigade_join x y)
  in_join (inr x) (inr y) = inr (brigade_join_live (a.brigades 8) (b.brigades 8) x y)
  in_join (inl x) (inr y) = absurd (unlike (a.brigades 8) (b.brigades 8) call x y f.brought g.brought)
  in_join (inr x) (inl y) = absurd (unlike (b.brigades 8) (a.brigades 8) call y x g.brought f.brought)

  joined_based : Based p call (join a b)
  unfolding join brigade_join
  joined_based = record {
    pool_count = f.formed.pool_count;
    brigade_count = f.formed.brigade_count;
    pools = λ q. some_left (a.pools q).null (a.pools q).gone (a.pools q).live (b.pools q).null (b.pools q).gone (b.pools q).live (f.formed.pools q);
    no_pools = λ q past. ap₂ pool_join (f.formed.no_pools q past) (g.formed.no_pools q (subst (λ (n : ℕ). n ≤ q) (sym same_pools) past));
    brigades = λ v. brigade_join_formed (a.brigades v) (b.brigades v) (f.formed.brigades v) (g.formed.brigades v);
    homes = λ v. homes_join_named a (a.brigades v).homes (b.brigades v).homes (f.formed.homes v) (named_as b a (b.brigades v).homes same_pools (g.formed.homes v));
    no_brigades = λ v past other. ap₂ brigade_join (f.formed.no_brigades v past other) (g.formed.no_brigades v (subst (λ (n : ℕ). n ≤ v) (sym same_brigades) past) other);
    brought = in_join f.formed.brought g.formed.brought;
    own_pools = f.pools;
    own_brigades = f.brigades;
    present = same_null (a.brigades 8).null (b.brigades 8).null call f.brought g.brought;
  }

  cursor_joined : (c : ℕ) → FormedCursor (join a b) (joined_cursors a b c)
  unfolding join Shaped
  cursor_joined c =
      kept_formed (join a b) (cursor_join (a.cursors c) (b.cursors c))
      (cursor_join_shaped (join a b) (a.cursors c) (b.cursors c) (shaped a (a.cursors c) (f.formed.cursors c)) (renamed b a (b.cursors c) same_pools (shaped b (b.cursors c) (g.formed.cursors c))))

  unset_joined : (c : ℕ) → 9 ≤ c → joined_cursors a b c ≡ Unset
  unfolding cursor_join
  unset_joined c h = ap₂ (λ x y. kept_cursor (joined_brigades a b) (cursor_join x y)) (f.formed.no_cursors c h) (g.formed.no_cursors c h)

  joined_formed : IsFormedIn p call (join a b)
  unfolding join Shaped
  joined_formed =
      with_facts p call (join a b) (λ c d. known a c d && known b c d) (joined_cursors a b) joined_based
      (λ c d. ap₂ ◌&&◌ (known_turned a f.formed.symmetric c d) (known_turned b g.formed.symmetric c d)) cursor_joined unset_joined

pub joins_keep_form : JoinsKeepForm
joins_keep_form p call a b f g = joined_formed p call a b f g

-- no cursor is written to differ from itself
alone : (s : State) → IsFormed s → (c : ℕ) → s.facts c c ≡ false
alone s f c = either (s.facts c c) refl
  where
    either : (e : Bool) → s.facts c c ≡ e → s.facts c c ≡ false
    either false e = e
    either true e =
        let w3 = split3 (not (c == c) && is_set (s.cursors c)) (is_set (s.cursors c)) (not (is_apart (s.cursors c) (s.cursors c))) (f.facts c c e) in
        absurd (clash (sym (not_true (c == c) ((split2 (not (c == c)) (is_set (s.cursors c)) (w3.0)).0)) ∙ eq-eqb c c refl))
      where
        clash : false ≡ true → ⊥
        clash x = cc

-- the join is below the greater one, which is below it
pub joins_absorb : JoinsAbsorb
joins_absorb p call a b f g less =
    let j = joins_keep_form p call a b f g in
    let counts = and2 (a.pool_count == b.pool_count) (a.brigade_count == b.brigade_count) (eq-eqb a.pool_count b.pool_count (f.pools ∙ sym g.pools))
    (eq-eqb a.brigade_count b.brigade_count (f.brigades ∙ sym g.brigades)) in
    leq_both (join a b) a j.formed f.formed (join_least a b a f.formed f.formed (leq_same a (alone a f.formed)) less) ((join_above a b counts).0)
