-- A state in form stays so where one variable changes, or where cursors move.
use Rattle.std.proofs.Common.{rules, ◌≡◌, ◌≢◌, ℕ, ◌<◌, ◌≤◌, Bool, true, false, not, ◌==◌, if◌then◌else◌, length, refl, ap, sym, subst, ◌∙◌, ◌⊎◌, inl, inr, arith}
use Rattle.module_code.specs.Program.{Program}
use Rattle.run_model.specs.Indexed.{upd}
use Rattle.run_model.proofs.Updates.{upd_at, upd_off, upd_either}
use Rattle.life_state.specs.declared.parts.PoolState.{PoolState}
use Rattle.life_state.specs.States.{only_null, BrigadeKnown, never_made, is_live_brigade, CursorKnown, Unset, Loose, In, End, InOrEnd, State, set_pool, set_brigade}
use Rattle.life_state.specs.Facts.{known, facts_of, moved, known_but, set_cursor, forgotten, move_bucket}
use Rattle.life_state.specs.Order.{is_at_hand}
use Rattle.life_state.specs.Rules.{told}
use Rattle.life_state.specs.Form.{some_pool, NamesDeclared, FormedBrigade, AtHand, FormedCursor, is_to_write}
use Rattle.life_state.specs.FormLaws.{IsFormedIn}
use Rattle.life_state.proofs.FormFacts.{known_turned, facts_turned, facts_needed, but_turned}
use Rattle.life_state.proofs.Tests.{split3}

-- what holds of each value and of the one that is written holds of each
upd_all : {X : Type 0} (P : X → Type 0) (f : ℕ → X) (i : ℕ) (v : X) → P v → ((k : ℕ) → P (f k)) → (k : ℕ) → P (upd f i v k)
upd_all P f i v here all k = elim (upd_either f i k v) [ inl h ↦ subst P (sym (h.1)) here | inr h ↦ subst P (sym (h.1)) (all k) ]

abbrev pub UnsetPast : (ℕ → CursorKnown) → Type 0
UnsetPast cursors = (c : ℕ) → 9 ≤ c → cursors c ≡ Unset

upd_past : (f : ℕ → CursorKnown) (i : ℕ) (v : CursorKnown) → i < 9 → UnsetPast f → UnsetPast (upd f i v)
upd_past f i v inside past c h = upd_off f i c v (omega arith) ∙ past c h

-- a brigade variable is declared, or it is live and stays so
abbrev pub Placed : State → ℕ → BrigadeKnown → Type 0
Placed s b v = (b < s.brigade_count) ⊎ ((is_live_brigade v ≡ true) × (is_live_brigade (s.brigades b) ≡ true))

pub live_not_null : (v : BrigadeKnown) → is_live_brigade v ≡ true → not v.null ≡ true
live_not_null v h = (split3 v.live (not v.null) (not v.gone) h).1

-- the brigade of a cursor stays at hand
pub hand_kept : (s : State) (a b : ℕ) (v : BrigadeKnown) → (is_at_hand (s.brigades b) ≡ true → is_at_hand v ≡ true) → AtHand s a → AtHand (set_brigade b v s) a
hand_kept s a b v keep h =
    (h.0, elim (upd_either s.brigades b a v) [ inl e ↦ ap is_at_hand (e.1) ∙ keep (ap (λ (n : ℕ). is_at_hand (s.brigades n)) (sym (e.0)) ∙ h.1) | inr e ↦ ap is_at_hand (e.1) ∙ h.1 ])

pub cursor_kept : (s : State) (b : ℕ) (v : BrigadeKnown) (x : CursorKnown) → (is_at_hand (s.brigades b) ≡ true → is_at_hand v ≡ true) → FormedCursor s x → FormedCursor (set_brigade b v s) x
cursor_kept s b v Unset keep f = f
cursor_kept s b v (Loose t h) keep f = f
cursor_kept s b v (In a t) keep f = (f.0, hand_kept s a b v keep (f.1))
cursor_kept s b v (End a) keep f = hand_kept s a b v keep f
cursor_kept s b v (InOrEnd a t) keep f = (f.0, hand_kept s a b v keep (f.1))

-- a cursor that may be unset
pub formed_if : (s : State) (t : Bool) (x : CursorKnown) → FormedCursor s x → FormedCursor s (if t then x else Unset)
formed_if s true x f = f
formed_if s false x f = tt

pub unset_if : (s : State) (t : Bool) (x : CursorKnown) → FormedCursor s x → FormedCursor s (if t then Unset else x)
unset_if s true x f = tt
unset_if s false x f = f

forgotten_formed : (s : State) (c d : ℕ) → FormedCursor s (s.cursors d) → FormedCursor s (forgotten s c d)
forgotten_formed s c d f = either (d == c)
  where
    either : (t : Bool) → FormedCursor s (if t then s.cursors d else (if known s c d then s.cursors d else Unset))
    either true = f
    either false = formed_if s (known s c d) (s.cursors d) f

forgotten_past : (s : State) (c d : ℕ) → s.cursors d ≡ Unset → forgotten s c d ≡ Unset
forgotten_past s c d h = either (d == c) (known s c d)
  where
    either : (t u : Bool) → (if t then s.cursors d else (if u then s.cursors d else Unset)) ≡ Unset
    either true u = h
    either false true = h
    either false false = refl

module _ (p : Program) (call : Bool) where
  -- the variables of a state are in form
  abbrev pub Based : State → Type 0
  Based s = record {
    pool_count : s.pool_count ≤ 8;
    brigade_count : s.brigade_count ≤ 8;
    pools : (q : ℕ) → some_pool (s.pools q) ≡ true;
    no_pools : (q : ℕ) → s.pool_count ≤ q → s.pools q ≡ only_null;
    brigades : (b : ℕ) → FormedBrigade (s.brigades b);
    homes : (b : ℕ) → NamesDeclared s (s.brigades b).homes;
    no_brigades : (b : ℕ) → s.brigade_count ≤ b → b ≢ 8 → s.brigades b ≡ never_made;
    brought : (s.brigades 8 ≡ never_made) ⊎ (is_live_brigade (s.brigades 8) ≡ true);
    own_pools : s.pool_count ≡ length p.pools;
    own_brigades : s.brigade_count ≡ length p.brigades;
    present : not (s.brigades 8).null ≡ call;
  }

-- one brigade is written, where `in` is live or was never made
written_based : (p : Program) (call now : Bool) (s : State) (b : ℕ) (v : BrigadeKnown) → Based p call s → FormedBrigade v → NamesDeclared s v.homes
    → ((k : ℕ) → s.brigade_count ≤ k → k ≢ 8 → k ≢ b)
    → (upd s.brigades b v 8 ≡ never_made) ⊎ (is_live_brigade (upd s.brigades b v 8) ≡ true) → not (upd s.brigades b v 8).null ≡ now
    → Based p now (set_brigade b v s)
written_based p call now s b v f formed named elsewhere brought present = record {
  pool_count = f.pool_count;
  brigade_count = f.brigade_count;
  pools = f.pools;
  no_pools = f.no_pools;
  brigades = upd_all FormedBrigade s.brigades b v formed f.brigades;
  homes = upd_all (λ w. NamesDeclared s w.homes) s.brigades b v named f.homes;
  no_brigades = λ k past other. upd_off s.brigades b k v (elsewhere k past other) ∙ f.no_brigades k past other;
  brought = brought;
  own_pools = f.own_pools;
  own_brigades = f.own_brigades;
  present = present;
}

module _ (p : Program) (call : Bool) where
  pub based : (s : State) → IsFormedIn p call s → Based p call s
  based s f = search rules

  pub assembled : (s : State) → Based p call s → ((c : ℕ) → FormedCursor s (s.cursors c)) → UnsetPast s.cursors
      → ((c d : ℕ) → s.facts c d ≡ true → is_to_write s c d ≡ true)
      → ((c d : ℕ) → s.facts c d ≡ s.facts d c) → IsFormedIn p call s
  assembled s b cursors past facts symmetric = record {
    formed = search rules;
    pools = b.own_pools;
    brigades = b.own_brigades;
    brought = b.present;
  }

  -- Cursors.

  pub with_facts : (s : State) (keep : ℕ → ℕ → Bool) (cursors : ℕ → CursorKnown) → Based p call s → ((c d : ℕ) → keep c d ≡ keep d c)
      → ((c : ℕ) → FormedCursor s (cursors c)) → UnsetPast cursors
      → IsFormedIn p call (record s { cursors = cursors; facts = facts_of keep cursors })
  with_facts s keep cursors b same each past =
      assembled (record s { cursors = cursors; facts = facts_of keep cursors })
      b each past (facts_needed keep cursors) (facts_turned keep cursors same)

  pub moved_formed : (s : State) (cursors : ℕ → CursorKnown) → Based p call s → ((c d : ℕ) → s.facts c d ≡ s.facts d c)
      → ((c : ℕ) → FormedCursor s (cursors c)) → UnsetPast cursors → IsFormedIn p call (moved cursors s)
  unfolding moved
  moved_formed s cursors b same each past = with_facts s (known s) cursors b (known_turned s same) each past

  pub set_cursor_formed : (s : State) (c : ℕ) (v : CursorKnown) (new : ℕ → Bool) → IsFormedIn p call s → c < 9 → FormedCursor s v → IsFormedIn p call (set_cursor c v new s)
  unfolding set_cursor
  set_cursor_formed s c v new f inside here =
      with_facts s (known_but s c new) (upd s.cursors c v) (based s f) (but_turned s c new f.formed.symmetric)
      (upd_all (FormedCursor s) s.cursors c v here f.formed.cursors) (upd_past s.cursors c v inside f.formed.no_cursors)

  pub told_formed : (s : State) (c : ℕ) (v : CursorKnown) → IsFormedIn p call s → c < 9 → FormedCursor s v → IsFormedIn p call (told c v s)
  told_formed s c v f inside here =
      moved_formed s (upd s.cursors c v) (based s f) f.formed.symmetric
      (upd_all (FormedCursor s) s.cursors c v here f.formed.cursors) (upd_past s.cursors c v inside f.formed.no_cursors)

  pub move_bucket_formed : (s : State) (c : ℕ) (v : CursorKnown) → IsFormedIn p call s → c < 9 → FormedCursor s v → IsFormedIn p call (move_bucket c v s)
  move_bucket_formed s c v f inside here =
      moved_formed s (upd (forgotten s c) c v) (based s f) f.formed.symmetric
      (upd_all (FormedCursor s) (forgotten s c) c v here (λ d. forgotten_formed s c d (f.formed.cursors d)))
      (upd_past (forgotten s c) c v inside (λ d h. forgotten_past s c d (f.formed.no_cursors d h)))

  -- Variables.

  pub brigade_based : (s : State) (b : ℕ) (v : BrigadeKnown) → Based p call s → Placed s b v → FormedBrigade v → NamesDeclared s v.homes
      → Based p call (set_brigade b v s)
  brigade_based s b v f placed formed named =
      written_based p call call s b v f formed named (λ k past other. elsewhere k past other placed)
      (elim (upd_either s.brigades b 8 v) [
        | inl h ↦ inr (ap is_live_brigade (h.1) ∙ (here (h.0) placed).0)
        | inr h ↦ elim f.brought [ inl e ↦ inl (h.1 ∙ e) | inr e ↦ inr (ap is_live_brigade (h.1) ∙ e) ]
      ])
      (elim (upd_either s.brigades b 8 v) [
        | inl h ↦ ap (λ w. not w.null) (h.1)
            ∙ (live_not_null v ((here (h.0) placed).0) ∙ (sym (live_not_null (s.brigades 8) ((here (h.0) placed).1)) ∙ f.present))
        | inr h ↦ ap (λ w. not w.null) (h.1) ∙ f.present
      ])
    where
      elsewhere : (k : ℕ) → s.brigade_count ≤ k → k ≢ 8 → Placed s b v → k ≢ b
      elsewhere k past other (inl h) e = absurd (omega arith)
      elsewhere k past other (inr h) e = absurd (clash (sym (ap is_live_brigade (f.no_brigades k past other)) ∙ (ap (λ (n : ℕ). is_live_brigade (s.brigades n)) e ∙ h.1)))
        where
          clash : false ≡ true → ⊥
          clash x = cc

      here : 8 ≡ b → Placed s b v → (is_live_brigade v ≡ true) × (is_live_brigade (s.brigades 8) ≡ true)
      here e (inl h) = absurd (omega (arith, f.brigade_count))
      here e (inr h) = (h.0, ap (λ (n : ℕ). is_live_brigade (s.brigades n)) e ∙ h.1)

  pub brigade_formed : (s : State) (b : ℕ) (v : BrigadeKnown) → IsFormedIn p call s → Placed s b v → FormedBrigade v → NamesDeclared s v.homes
      → (is_at_hand (s.brigades b) ≡ true → is_at_hand v ≡ true)
      → IsFormedIn p call (set_brigade b v s)
  brigade_formed s b v f placed formed named keep =
      assembled (set_brigade b v s) (brigade_based s b v (based s f) placed formed named)
      (λ c. cursor_kept s b v (s.cursors c) keep (f.formed.cursors c)) f.formed.no_cursors f.formed.facts f.formed.symmetric

  pub pool_formed : (s : State) (q : ℕ) (v : PoolState) → IsFormedIn p call s → q < s.pool_count → some_pool v ≡ true → IsFormedIn p call (set_pool q v s)
  pool_formed s q v f inside some =
      let b = based s f in
      let pools : (k : ℕ) → some_pool (upd s.pools q v k) ≡ true = upd_all (λ w. some_pool w ≡ true) s.pools q v some b.pools in
      let no_pools : (k : ℕ) → s.pool_count ≤ k → upd s.pools q v k ≡ only_null = λ k past. upd_off s.pools q k v (omega arith) ∙ b.no_pools k past in
      assembled (set_pool q v s) (search rules)
      f.formed.cursors f.formed.no_cursors f.formed.facts f.formed.symmetric

-- `in` comes or goes
pub in_based : (p : Program) (call now : Bool) (s : State) (v : BrigadeKnown) → Based p call s → FormedBrigade v → NamesDeclared s v.homes → (v ≡ never_made) ⊎ (is_live_brigade v ≡ true)
    → not v.null ≡ now
    → Based p now (set_brigade 8 v s)
in_based p call now s v f formed named brought present =
    written_based p call now s 8 v f formed named (λ k past other. other)
    (subst (λ w. (w ≡ never_made) ⊎ (is_live_brigade w ≡ true)) (sym (upd_at s.brigades 8 v)) brought) (ap (λ w. not w.null) (upd_at s.brigades 8 v) ∙ present)
