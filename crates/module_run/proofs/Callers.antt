-- The filters whose calls wait or run, and the names of their calls.
use Rattle.std.proofs.Common.{◌≡◌, ◌==◌, ◌⊎◌, ℕ, zero, suc, ◌<◌, ◌≤◌, ◌||◌, Bool, true, false, List, [], ◌∷◌, ◌++◌, length, map, take, Some, None, inl, inr, refl, sym, ◌∙◌, ap, arith, eqb-true}
use Rattle.std.specs.Prelude.{slice_get}
use Rattle.std.proofs.lemmas.Bool.{eq-eqb, or_cases, or_left, or_right, cases_Bool, and_parts}
use Rattle.std.proofs.lemmas.List.{map-append}
use Rattle.run_model.specs.Chains.{Frame}
use Rattle.run_model.specs.Pools.{is_in}
use Rattle.module_code.specs.Program.{Program}
use Rattle.module_run.specs.declared.conn.Conn.{Conn}
use Rattle.module_run.specs.Conns.{stack_over, filter_at, call_name, top_of, waiting}
use Rattle.module_run.specs.Stacked.{AreCalled, called_of, is_called, is_waiting, names_of}
use Rattle.interp_state.proofs.Pushed.{pushed_in, pushed_kept, pushed_only}

-- one call more
pub over_pushed : (f : ℕ → Frame) (ks : List ℕ) (k : ℕ) → stack_over f (ks ++ k ∷ []) ≡ f k ∷ stack_over f ks
unfolding stack_over
over_pushed f [] k = refl
over_pushed f (j ∷ js) k = ap (λ (fs : List Frame). fs ++ f j ∷ []) (over_pushed f js k)

-- the same frames
pub frames_same : (f g : ℕ → Frame) (ks : List ℕ) → ((k : ℕ) → is_in k ks ≡ true → g k ≡ f k) → stack_over g ks ≡ stack_over f ks
unfolding stack_over
frames_same f g [] same = refl
frames_same f g (k ∷ ks) same =
    ap (λ (fs : List Frame). fs ++ g k ∷ []) (frames_same f g ks (λ j there. same j (or_right (k == j) (is_in j ks) there)))
    ∙ ap (λ (x : Frame). stack_over f ks ++ x ∷ []) (same k (or_left (k == k) (is_in k ks) (eq-eqb k k refl)))

-- each frame changed alike
pub frames_mapped : (h : Frame → Frame) (f g : ℕ → Frame) (ks : List ℕ) → ((k : ℕ) → is_in k ks ≡ true → g k ≡ h (f k)) → stack_over g ks ≡ map h (stack_over f ks)
unfolding stack_over
frames_mapped h f g [] same = refl
frames_mapped h f g (k ∷ ks) same =
    ap (λ (fs : List Frame). fs ++ g k ∷ []) (frames_mapped h f g ks (λ j there. same j (or_right (k == j) (is_in j ks) there)))
    ∙ (ap (λ (x : Frame). map h (stack_over f ks) ++ x ∷ []) (same k (or_left (k == k) (is_in k ks) (eq-eqb k k refl)))
    ∙ sym (map-append h (stack_over f ks) (f k ∷ [])))

-- the same names
pub names_same : (c d : Conn) (ks : List ℕ) → ((k : ℕ) → is_in k ks ≡ true → call_name (filter_at d k) ≡ call_name (filter_at c k)) → names_of d ks ≡ names_of c ks
names_same c d [] same = refl
names_same c d (k ∷ ks) same =
    ap (λ (x : ℕ). x ∷ names_of d ks) (same k (or_left (k == k) (is_in k ks) (eq-eqb k k refl)))
    ∙ ap (λ (xs : List ℕ). call_name (filter_at c k) ∷ xs) (names_same c d ks (λ j there. same j (or_right (k == j) (is_in j ks) there)))

-- one name more
pub names_more : (c : Conn) (ks : List ℕ) (k : ℕ) → names_of c (ks ++ k ∷ []) ≡ names_of c ks ++ call_name (filter_at c k) ∷ []
names_more c ks k = map-append (λ j. call_name (filter_at c j)) ks (k ∷ [])

module _ {X : Type 0} where
  pub get_left : (xs ys : List X) (i : ℕ) (x : X) → slice_get xs i ≡ Some x → slice_get (xs ++ ys) i ≡ Some x
  get_left [] ys i x e = absurd (cc)
  get_left (z ∷ zs) ys zero x e = e
  get_left (z ∷ zs) ys (suc i) x e = get_left zs ys i x e

  pub get_last : (xs : List X) (y : X) → slice_get (xs ++ y ∷ []) (length xs) ≡ Some y
  get_last [] y = refl
  get_last (x ∷ xs) y = get_last xs y

  -- one of these, or the last
  pub get_split : (xs : List X) (y : X) (i : ℕ) (z : X) → slice_get (xs ++ y ∷ []) i ≡ Some z → (slice_get xs i ≡ Some z) ⊎ ((i ≡ length xs) × (y ≡ z))
  get_split [] y zero z e = inr (refl, (cc))
  get_split [] y (suc i) z e = absurd (cc)
  get_split (x ∷ xs) y zero z e = inl e
  get_split (x ∷ xs) y (suc i) z e = elim (get_split xs y i z e) [ inl there ↦ inl there | inr last ↦ inr (ap suc last.0, last.1) ]

  pub get_before : (xs : List X) (i : ℕ) (x : X) → slice_get xs (suc i) ≡ Some x → (y : X) × (slice_get xs i ≡ Some y)
  get_before [] i x e = absurd (cc)
  get_before (y ∷ ys) zero x e = (y, refl)
  get_before (y ∷ ys) (suc i) x e = get_before ys i x e

pub get_in : (ks : List ℕ) (i k : ℕ) → slice_get ks i ≡ Some k → is_in k ks ≡ true
get_in [] i k e = absurd (cc)
get_in (j ∷ js) zero k e = or_left (j == k) (is_in k js) (eq-eqb j k (cc))
get_in (j ∷ js) (suc i) k e = or_right (j == k) (is_in k js) (get_in js i k e)

pub in_get : (ks : List ℕ) (k : ℕ) → is_in k ks ≡ true → (i : ℕ) × (slice_get ks i ≡ Some k)
in_get [] k e = absurd (cc)
in_get (j ∷ js) k e = elim (or_cases (j == k) (is_in k js) e) [
  | inl here ↦ (zero, ap (λ (n : ℕ). Some n) (eqb-true j k here))
  | inr later ↦ (let i = in_get js k later in (suc i.0, i.1))
]

pub off_in : (k : ℕ) (ks : List ℕ) → (is_in k ks ≡ true → ⊥) → is_in k ks ≡ false
off_in k ks off = elim (cases_Bool (is_in k ks)) [ inl yes_ ↦ absurd (off yes_) | inr no_ ↦ no_ ]

same_tests : (a b : Bool) → (a ≡ true → b ≡ true) → (b ≡ true → a ≡ true) → a ≡ b
same_tests true b to from = sym (to refl)
same_tests false true to from = from refl
same_tests false false to from = refl

-- those that are there with one more
pub in_pushed : (j t : ℕ) (ks : List ℕ) → is_in j (ks ++ t ∷ []) ≡ (j == t || is_in j ks)
in_pushed j t ks = same_tests (is_in j (ks ++ t ∷ [])) (j == t || is_in j ks)
    (λ there. elim (pushed_only j t ks there) [
      | inl old ↦ or_right (j == t) (is_in j ks) old
      | inr new ↦ or_left (j == t) (is_in j ks) (eq-eqb j t (sym new))
    ])
    (λ there. elim (or_cases (j == t) (is_in j ks) there) [
      | inl new ↦ pushed_in j t ks (sym (eqb-true j t new))
      | inr old ↦ pushed_kept j t ks old
    ])

pub take_all : (xs : List ℕ) (y n : ℕ) → n ≡ length xs → take n (xs ++ y ∷ []) ≡ xs
take_all [] y zero e = refl
take_all [] y (suc n) e = absurd (omega (arith, e))
take_all (x ∷ xs) y zero e = absurd (omega (arith, e))
take_all (x ∷ xs) y (suc n) e = ap (λ (zs : List ℕ). x ∷ zs) (take_all xs y n (omega (arith, e)))

-- all but the last, and the last
pub last_of : (xs : List ℕ) → 0 < length xs → (ys : List ℕ) × ((y : ℕ) × (xs ≡ ys ++ y ∷ []))
last_of [] some = absurd (omega (arith, some))
last_of (x ∷ []) some = ([], (x, refl))
last_of (x ∷ (z ∷ zs)) some = (let r = last_of (z ∷ zs) (omega arith) in (x ∷ r.0, (r.1.0, ap (λ (us : List ℕ). x ∷ us) r.1.1)))

-- The calls of a connection, by their filters.
module _ (chain : List Program) (c : Conn) (called : AreCalled chain c) where
  pub top_at : slice_get (called_of c) (waiting c) ≡ Some (top_of c)
  top_at = get_last c.callers.items (top_of c)

  pub waits_below : (k : ℕ) → is_waiting c k ≡ true → k < top_of c
  waits_below k waits = (let i = in_get c.callers.items k waits in
      called.rises i.0 (waiting c) k (top_of c) (Rattle.std.proofs.lemmas.Option.slice_get_within c.callers.items i.0 k i.1) (get_left c.callers.items (top_of c ∷ []) i.0 k i.1) top_at)

  -- from the top on none waits
  pub waits_not : (k : ℕ) → top_of c ≤ k → is_waiting c k ≡ false
  waits_not k high = off_in k c.callers.items (λ waits. let low = waits_below k waits in omega (arith, low, high))

  pub called_at : (i k : ℕ) → c.busy ≡ true → slice_get (called_of c) i ≡ Some k → is_called c k ≡ true
  called_at i k busy at = rw busy (elim (get_split c.callers.items (top_of c) i k at) [
    | inl there ↦ or_right (k == top_of c) (is_waiting c k) (get_in c.callers.items i k there)
    | inr last ↦ or_left (k == top_of c) (is_waiting c k) (eq-eqb k (top_of c) (sym last.1))
  ])

  pub at_called : (k : ℕ) → is_called c k ≡ true → (i : ℕ) × (slice_get (called_of c) i ≡ Some k)
  at_called k runs = elim (or_cases (k == top_of c) (is_waiting c k) (and_parts c.busy _ runs).1) [
    | inl here ↦ (waiting c, top_at ∙ ap (λ (n : ℕ). Some n) (sym (eqb-true k (top_of c) here)))
    | inr waits ↦ (let i = in_get c.callers.items k waits in (i.0, get_left c.callers.items (top_of c ∷ []) i.0 k i.1))
  ]

  pub first_below : c.first ≤ top_of c
  first_below = go (waiting c) refl where
    go : (n : ℕ) → waiting c ≡ n → c.first ≤ top_of c
    go zero none = (let same : Some c.first ≡ Some (top_of c) = sym called.bottom ∙ (ap (slice_get (called_of c)) (sym none) ∙ top_at) in
        let e : c.first ≡ top_of c = cc in omega (arith, e))
    go (suc n) some = (let lt = called.rises 0 (waiting c) c.first (top_of c) (omega (arith, some)) called.bottom top_at in omega (arith, lt))

  -- none is above the top
  pub called_low : (i k : ℕ) → slice_get (called_of c) i ≡ Some k → k ≤ top_of c
  called_low i k at = elim (get_split c.callers.items (top_of c) i k at) [
    | inl there ↦ (let lt = waits_below k (get_in c.callers.items i k there) in omega (arith, lt))
    | inr last ↦ (let e = last.1 in omega (arith, e))
  ]

  -- where none waits, the outermost call is that on top
  pub first_alone : waiting c ≡ 0 → top_of c ≡ c.first
  first_alone none = (let same : Some (top_of c) ≡ Some c.first = sym top_at ∙ (ap (slice_get (called_of c)) none ∙ called.bottom) in cc)

-- one before another waits
pub waits_before : (c : Conn) (i j k : ℕ) → slice_get (called_of c) i ≡ Some j → slice_get (called_of c) (suc i) ≡ Some k → is_waiting c j ≡ true
waits_before c i j k here next = elim (get_split c.callers.items (top_of c) i j here) [
  | inl there ↦ get_in c.callers.items i j there
  | inr last ↦ absurd (let at = last.0 in elim (get_split c.callers.items (top_of c) (suc i) k next) [
    | inl there ↦ (let lt = Rattle.std.proofs.lemmas.Option.slice_get_within c.callers.items (suc i) k there in omega (arith, lt, at))
    | inr same ↦ (let e = same.0 in omega (arith, e, at))
  ])
]

pub called_top : (c : Conn) → c.busy ≡ true → is_called c (top_of c) ≡ true
called_top c busy = rw busy (or_left (top_of c == top_of c) (is_waiting c (top_of c)) (eq-eqb (top_of c) (top_of c) refl))

-- behind the top there is no call
pub not_called : (chain : List Program) (c : Conn) → AreCalled chain c → (k : ℕ) → top_of c < k → is_called c k ≡ false
not_called chain c called k high = elim (cases_Bool (is_called c k)) [
  | inr no_ ↦ no_
  | inl yes_ ↦ absurd (elim (or_cases (k == top_of c) (is_waiting c k) (and_parts c.busy _ yes_).1) [
    | inl here ↦ (let e = eqb-true k (top_of c) here in omega (arith, e, high))
    | inr waits ↦ (let low = waits_below chain c called k waits in omega (arith, low, high))
  ])
]

pub no_callers : (ks : List ℕ) → length ks ≡ 0 → ks ≡ []
no_callers [] e = refl
no_callers (k ∷ ks) e = absurd (omega (arith, e))

-- No call waits: what there is to say of the lists.
module _ (c : Conn) (none : waiting c ≡ 0) where
  pub none_in_callers : (k : ℕ) → is_waiting c k ≡ false
  none_in_callers k = ap (is_in k) (no_callers c.callers.items none)

  pub called_alone : called_of c ≡ top_of c ∷ []
  called_alone = ap (λ (ks : List ℕ). ks ++ top_of c ∷ []) (no_callers c.callers.items none)

  pub alone_rises : (i j k l : ℕ) → i < j → slice_get (called_of c) i ≡ Some k → slice_get (called_of c) j ≡ Some l → k < l
  alone_rises i zero k l lt a b = absurd (omega (arith, lt))
  alone_rises i (suc j) k l lt a b = absurd (let z : None ≡ Some l = ap (λ (ks : List ℕ). slice_get ks (suc j)) (sym called_alone) ∙ b in cc)

  pub alone_bottom : top_of c ≡ c.first → slice_get (called_of c) 0 ≡ Some c.first
  alone_bottom e = ap (λ (ks : List ℕ). slice_get ks 0) called_alone ∙ ap (λ (n : ℕ). Some n) e

  pub alone_names : c.waits.items ≡ [] → c.waits.items ≡ names_of c c.callers.items
  alone_names e = e ∙ sym (ap (names_of c) (no_callers c.callers.items none))

  pub alone_called : (k : ℕ) → is_called c k ≡ true → k ≡ top_of c
  alone_called k runs = elim (or_cases (k == top_of c) (is_waiting c k) (and_parts c.busy _ runs).1) [
    | inl here ↦ eqb-true k (top_of c) here
    | inr waits ↦ absurd (let z : false ≡ true = sym (none_in_callers k) ∙ waits in cc)
  ]
