-- What a clear leaves of a state in form is in form.
use Rattle.std.proofs.Common.{◌≡◌, ℕ, Bool, true, false, not, if◌then◌else◌, refl, ap, ◌∙◌, inl, inr}
use Rattle.module_code.specs.declared.instr.PoolRef.{PoolRef}
use Rattle.module_code.specs.Program.{Program, IsModule}
use Rattle.life_state.specs.States.{dead_where, only_null, ended_pool, never_made, is_live_brigade, ended_brigade, with_homes, CursorKnown, Unset, Loose, In, End, InOrEnd, State}
use Rattle.life_state.specs.Order.{is_at_hand}
use Rattle.life_state.specs.PoolOrder.{is_under, is_clearable}
use Rattle.life_state.specs.Rules.{is_subpool, lies_under, cleared_pool, cleared_brigade, cleared_cursor, cleared_cursors, with_cleared, cleared_under, cleared}
use Rattle.life_state.specs.Form.{some_pool, NamesDeclared, FormedBrigade, AtHand, FormedCursor}
use Rattle.life_state.specs.FormLaws.{IsFormedIn}
use Rattle.life_state.proofs.ClearLaws.{none_dead}
use Rattle.life_state.proofs.FormParts.{no_named, dead_named, ended_formed, ended_some, dead_formed}
use Rattle.life_state.proofs.FormMoves.{Based, based, moved_formed}
use Rattle.life_state.proofs.UnderLaws.{conn_is_under, brigade_past}

-- `in` is on no pool of the module
pub not_in : (p : Program) (top : PoolRef) → IsModule p → is_clearable top ≡ true → lies_under p (is_under p top) 8 ≡ false
not_in p top m h = ap (is_under p top) (brigade_past p 8 m.brigades) ∙ conn_is_under p top h

module _ (p : Program) (under : PoolRef → Bool) (s : State) where
  -- a variable that was never made stays so
  never_cleared : (b : ℕ) → s.brigades b ≡ never_made → cleared_brigade p under s b ≡ never_made
  never_cleared b h = either (lies_under p under b)
    where
      either : (e : Bool) → (if e then ended_brigade (s.brigades b) else with_homes (dead_where under) (s.brigades b)) ≡ never_made
      either true = ap ended_brigade h
      either false = ap (with_homes (dead_where under)) h ∙ ap (λ k. record never_made { homes = k }) (none_dead under)

  -- a variable that does not go keeps all but homes
  kept_cleared : (b : ℕ) → lies_under p under b ≡ false → cleared_brigade p under s b ≡ with_homes (dead_where under) (s.brigades b)
  kept_cleared b h = ap (λ e. if e then ended_brigade (s.brigades b) else with_homes (dead_where under) (s.brigades b)) h

  pool_cleared : (top : PoolRef) (q : ℕ) → some_pool (s.pools q) ≡ true → some_pool (cleared_pool under top s q) ≡ true
  pool_cleared top q h = either (is_subpool under top q)
    where
      either : (e : Bool) → some_pool (if e then ended_pool (s.pools q) else s.pools q) ≡ true
      either true = ended_some (s.pools q) h
      either false = h

  null_cleared : (top : PoolRef) (q : ℕ) → s.pools q ≡ only_null → cleared_pool under top s q ≡ only_null
  null_cleared top q h = either (is_subpool under top q)
    where
      either : (e : Bool) → (if e then ended_pool (s.pools q) else s.pools q) ≡ only_null
      either true = ap ended_pool h
      either false = h

  brigade_cleared : (b : ℕ) → FormedBrigade (s.brigades b) → FormedBrigade (cleared_brigade p under s b)
  brigade_cleared b f = either (lies_under p under b)
    where
      either : (e : Bool) → FormedBrigade (if e then ended_brigade (s.brigades b) else with_homes (dead_where under) (s.brigades b))
      either true = ended_formed (s.brigades b) f
      either false = dead_formed under (s.brigades b) f

  homes_cleared : (b : ℕ) → NamesDeclared s (s.brigades b).homes → NamesDeclared s (cleared_brigade p under s b).homes
  homes_cleared b f = either (lies_under p under b)
    where
      either : (e : Bool) → NamesDeclared s (if e then ended_brigade (s.brigades b) else with_homes (dead_where under) (s.brigades b)).homes
      either true = no_named s
      either false = dead_named s under (s.brigades b).homes f

  hand_cleared : (top : PoolRef) (b : ℕ) → lies_under p under b ≡ false → AtHand s b → AtHand (with_cleared p under top s) b
  hand_cleared top b h hand = (hand.0, ap is_at_hand (kept_cleared b h) ∙ hand.1)

  -- a cursor at b is unset, or b does not go
  left_cleared : (top : PoolRef) (b : ℕ) (x : CursorKnown) → (lies_under p under b ≡ false → FormedCursor (with_cleared p under top s) x)
      → FormedCursor (with_cleared p under top s) (if lies_under p under b then Unset else x)
  left_cleared top b x f = either (lies_under p under b) refl
    where
      either : (e : Bool) → lies_under p under b ≡ e → FormedCursor (with_cleared p under top s) (if e then Unset else x)
      either true h = tt
      either false h = f h

  cursor_cleared : (top : PoolRef) (x : CursorKnown) → FormedCursor s x → FormedCursor (with_cleared p under top s) (cleared_cursor p under x)
  cursor_cleared top Unset f = f
  cursor_cleared top (Loose t h) f = (f.0, dead_named s under h (f.1))
  cursor_cleared top (In b t) f = left_cleared top b (In b t) (λ h. (f.0, hand_cleared top b h (f.1)))
  cursor_cleared top (End b) f = left_cleared top b (End b) (λ h. hand_cleared top b h f)
  cursor_cleared top (InOrEnd b t) f = left_cleared top b (InOrEnd b t) (λ h. (f.0, hand_cleared top b h (f.1)))

module _ (p : Program) (call : Bool) where
  variables_cleared : (under : PoolRef → Bool) (top : PoolRef) (s : State) → lies_under p under 8 ≡ false → Based p call s → Based p call (with_cleared p under top s)
  variables_cleared under top s off b = record {
    pool_count = b.pool_count;
    brigade_count = b.brigade_count;
    pools = λ q. pool_cleared p under s top q (b.pools q);
    no_pools = λ q past. null_cleared p under s top q (b.no_pools q past);
    brigades = λ v. brigade_cleared p under s v (b.brigades v);
    homes = λ v. homes_cleared p under s v (b.homes v);
    no_brigades = λ v past other. never_cleared p under s v (b.no_brigades v past other);
    brought = elim b.brought [ inl h ↦ inl (never_cleared p under s 8 h) | inr h ↦ inr (ap is_live_brigade (kept_cleared p under s 8 off) ∙ h) ];
    own_pools = b.own_pools;
    own_brigades = b.own_brigades;
    present = ap (λ v. not v.null) (kept_cleared p under s 8 off) ∙ b.present;
  }

  pub cleared_formed : (top : PoolRef) (s : State) → IsModule p → is_clearable top ≡ true → IsFormedIn p call s → IsFormedIn p call (cleared p top s)
  unfolding cleared_under
  cleared_formed top s m clearable f =
      let under = is_under p top in
      moved_formed p call (with_cleared p under top s) (cleared_cursors p under s) (variables_cleared under top s (not_in p top m clearable) (based p call s f)) f.formed.symmetric
      (λ k. cursor_cleared p under s top (s.cursors k) (f.formed.cursors k)) (λ k h. ap (cleared_cursor p under) (f.formed.no_cursors k h))
