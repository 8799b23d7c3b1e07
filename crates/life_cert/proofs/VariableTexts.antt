-- Pools and brigades, taken from the front of a text.
use Rattle.std.proofs.Common.{◌≡◌, ℕ, ◌+◌, ◌<◌, Bool, true, false, cond, List, [], ◌∷◌, ◌++◌, codes, refl, sym, ap, subst, ◌∙◌, append_assoc, inl, inr}
use Rattle.std.specs.Prelude.{◌⊎◌}
use Rattle.std.proofs.lemmas.Fmt.{decimal_digit}
use Rattle.life_state.specs.declared.parts.Contents.{Contents}
use Rattle.life_state.specs.declared.parts.Contents.TheVariants.{Empty, Flushes, NoEos, NoLateData, Any}
use Rattle.life_state.specs.declared.parts.PoolState.{PoolState}
use Rattle.life_state.specs.States.{no_homes, BrigadeKnown, never_made}
use Rattle.life_cert.specs.StateText.{where_holds, homes, homes_text, set_text, content_text, usable_text, live_text, pool_text, brigade_text, in_text}
use Rattle.life_cert.specs.StateFromText.{behind, behind_marks, content_read, homes_at, homes_from, homes_past, homes_read, in_past, in_read, known_dead, known_live, live_past, live_read, own_past}
use Rattle.life_cert.specs.StateFromText.{own_read, past, pool_past, pool_read, set_past, set_read, starts}
use Rattle.life_cert.proofs.Taking.{TextEnded, ThreeTaken, not_begun, one, past_none, set_taken, three_taken}
use Rattle.life_cert.proofs.HomeTexts.{bits, homes_taken}

abbrev pub set_of : Bool → Bool → Bool → PoolState
set_of n g l = record { null = n; gone = g; live = l }

pub same_set : (n g l : Bool) (m t : List ℕ) → ThreeTaken 110 103 108 n g l m t → set_read t ≡ set_of n g l
same_set n g l m t h =
    ap (λ (b : Bool). set_of b (starts (one 103) (past (one 110) t)) (starts (one 108) (past (one 103) (past (one 110) t)))) h.first
    ∙ ap (λ (b : Bool). set_of n b (starts (one 108) (past (one 103) (past (one 110) t)))) h.second
    ∙ ap (λ (b : Bool). set_of n g b) h.third

-- A pool.
pub record PoolTaken (v : PoolState) (m t : List ℕ) : Type 0 where
  pub begins : starts (codes " p") t ≡ true
  pub read : pool_read t ≡ v
  pub more : pool_past t ≡ m

pub pool_taken : (q : ℕ) (v : PoolState) (m : List ℕ) → q < 10 → TextEnded m → PoolTaken v m (pool_text q v ++ m)
pool_taken q v m below e =
    let r = set_text v.null v.gone v.live ++ m in
    let is : pool_text q v ++ m ≡ 32 ∷ (112 ∷ ((48 + q) ∷ (61 ∷ r))) = ap (λ d. 32 ∷ (112 ∷ ((d ++ (61 ∷ set_text v.null v.gone v.live)) ++ m))) (decimal_digit q below) in
    let taken = set_taken v.null v.gone v.live m e in
    record {
      begins = ap (starts (codes " p")) is;
      read = ap pool_read is ∙ same_set v.null v.gone v.live m r taken;
      more = ap pool_past is ∙ taken.more;
    }

-- A brigade.
content_told : (c : Contents) (m : List ℕ) → (content_read (content_text c ++ m) ≡ c) × (behind (codes "e") (content_text c ++ m) ≡ m)
content_told Empty m = (refl, refl)
content_told Flushes m = (refl, refl)
content_told NoEos m = (refl, refl)
content_told NoLateData m = (refl, refl)
content_told Any m = (refl, refl)

-- what a text can say of a brigade
pub record CanSayBrigade (v : BrigadeKnown) : Type 0 where
  pub dead : v.live ≡ false → v ≡ known_dead v.null v.gone
  pub bare : v.usable ≡ false → (v.content ≡ Empty) × (v.homes ≡ no_homes)
  pub homes : homes_from (bits v.homes homes) ≡ v.homes

abbrev pub body : BrigadeKnown → List ℕ
body v = where_holds v.usable (codes "u") ++ (where_holds v.passed (codes "p") ++ usable_text v)

pub record LiveTaken (v : BrigadeKnown) (m t : List ℕ) : Type 0 where
  pub read : live_read v.null v.gone t ≡ v
  pub more : live_past t ≡ m

-- what stands behind the marks
record UsableTaken (v : BrigadeKnown) (m t : List ℕ) : Type 0 where
  ended : TextEnded t
  content : cond v.usable (content_read (behind (codes "/") t)) Empty ≡ v.content
  homes_read : cond v.usable (homes_read (homes_at t)) no_homes ≡ v.homes
  more : cond v.usable (homes_past (homes_at t)) t ≡ m

usable_taken : (v : BrigadeKnown) (m : List ℕ) → CanSayBrigade v → TextEnded m → UsableTaken v m (usable_text v ++ m)
usable_taken v m say e = by v.usable refl say.bare
  where
    h : List ℕ
    h = homes_text v.homes

    by : (b : Bool) → v.usable ≡ b → (b ≡ false → (v.content ≡ Empty) × (v.homes ≡ no_homes)) → UsableTaken v m (usable_text v ++ m)
    by true is bare =
        let r = 47 ∷ (h ++ m) in
        let told = content_told v.content r in
        let there = homes_taken v.homes m say.homes e in
        let t = 47 ∷ (content_text v.content ++ r) in
        let whole : usable_text v ++ m ≡ t =
        ap (λ (b : Bool). where_holds b (codes "/" ++ (content_text v.content ++ (codes "/" ++ h))) ++ m) is ∙ ap (λ x. 47 ∷ x) (append_assoc (content_text v.content) (47 ∷ h) m) in
        let at : homes_at t ≡ h ++ m = ap (behind (codes "/")) told.1 in
        subst (UsableTaken v m) (sym whole) (record {
          ended = inr (inl refl);
          content = ap (λ (b : Bool). cond b (content_read (behind (codes "/") t)) Empty) is ∙ told.0;
          homes_read = ap (λ (b : Bool). cond b (homes_read (homes_at t)) no_homes) is ∙ ap homes_read at ∙ there.0;
          more = ap (λ (b : Bool). cond b (homes_past (homes_at t)) t) is ∙ ap homes_past at ∙ there.1;
        })
    by false is bare =
        let both = bare refl in
        let whole : usable_text v ++ m ≡ m = ap (λ (b : Bool). where_holds b (codes "/" ++ (content_text v.content ++ (codes "/" ++ h))) ++ m) is in
        subst (UsableTaken v m) (sym whole) (record {
          ended = e;
          content = ap (λ (b : Bool). cond b (content_read (behind (codes "/") m)) Empty) is ∙ sym both.0;
          homes_read = ap (λ (b : Bool). cond b (homes_read (homes_at m)) no_homes) is ∙ sym both.1;
          more = ap (λ (b : Bool). cond b (homes_past (homes_at m)) m) is;
        })

marks_apart : (a b : Bool) (u m : List ℕ)
    → (where_holds a (codes "u") ++ (where_holds b (codes "p") ++ u)) ++ m ≡ (where_holds a (codes "u") ++ (where_holds b (codes "p") ++ where_holds false (codes "z"))) ++ (u ++ m)
marks_apart true true u m = refl
marks_apart true false u m = refl
marks_apart false true u m = refl
marks_apart false false u m = refl

pub live_taken : (v : BrigadeKnown) (m : List ℕ) → v.live ≡ true → CanSayBrigade v → TextEnded m → LiveTaken v m (body v ++ m)
unfolding live_read live_past
live_taken v m live say e =
    let u = usable_text v ++ m in
    let t = body v ++ m in
    let h = usable_taken v m say e in
    let marks = three_taken 117 112 122 v.usable v.passed false u refl refl refl (not_begun 117 [] u h.ended refl refl refl) (not_begun 112 [] u h.ended refl refl refl)
    (not_begun 122 [] u h.ended refl refl refl) in
    let two = subst (ThreeTaken 117 112 122 v.usable v.passed false u) (sym (marks_apart v.usable v.passed (usable_text v) m)) marks in
    let left : behind_marks t ≡ u = past_none (one 122) (behind_marks t) two.third ∙ two.more in
    record {
      read = ap (λ (b : Bool). known_live v.null v.gone b (starts (one 112) (past (one 117) t)) (cond b (content_read (behind (codes "/") (behind_marks t))) Empty)
          (cond b (homes_read (homes_at (behind_marks t))) no_homes)) two.first
          ∙ ap (λ (b : Bool). known_live v.null v.gone v.usable b (cond v.usable (content_read (behind (codes "/") (behind_marks t))) Empty)
          (cond v.usable (homes_read (homes_at (behind_marks t))) no_homes)) two.second
          ∙ ap (λ x. known_live v.null v.gone v.usable v.passed (cond v.usable (content_read (behind (codes "/") x)) Empty) (cond v.usable (homes_read (homes_at x)) no_homes)) left
          ∙ ap (λ (c : Contents). known_live v.null v.gone v.usable v.passed c (cond v.usable (homes_read (homes_at u)) no_homes)) h.content
          ∙ ap (known_live v.null v.gone v.usable v.passed v.content) h.homes_read
          ∙ ap (λ (b : Bool). (let k : BrigadeKnown = record v { live = b } in k)) (sym live);
      more = ap (λ (b : Bool). cond b (homes_past (homes_at (behind_marks t))) (behind_marks t)) two.first ∙ ap (λ x. cond v.usable (homes_past (homes_at x)) x) left ∙ h.more;
    }

pub record OwnTaken (v : BrigadeKnown) (m t : List ℕ) : Type 0 where
  pub begins : starts (codes " b") t ≡ true
  pub read : own_read t ≡ v
  pub more : own_past t ≡ m

-- behind the set of a brigade
ended_live : (v : BrigadeKnown) (m : List ℕ) → TextEnded m → TextEnded (live_text (codes "/") v ++ m)
ended_live v m e = by v.live
  where
    by : (b : Bool) → TextEnded (where_holds b (47 ∷ body v) ++ m)
    by true = inr (inl refl)
    by false = e

-- what is known before it is asked whether the brigade may be live
record HalfTaken (v : BrigadeKnown) (m t : List ℕ) : Type 0 where
  begins : starts (codes " b") t ≡ true
  read : own_read t ≡ cond v.live (live_read v.null v.gone (behind (codes "/") (live_text (codes "/") v ++ m))) (known_dead v.null v.gone)
  more : own_past t ≡ cond v.live (live_past (behind (codes "/") (live_text (codes "/") v ++ m))) (live_text (codes "/") v ++ m)

pub own_taken : (b : ℕ) (v : BrigadeKnown) (m : List ℕ) → b < 10 → CanSayBrigade v → TextEnded m → OwnTaken v m (brigade_text b v ++ m)
unfolding own_read own_past
own_taken b v m below say e =
    let set = set_text v.null v.gone v.live in
    let l = live_text (codes "/") v in
    let r = set ++ (l ++ m) in
    let t = 32 ∷ (98 ∷ ((48 + b) ∷ (61 ∷ r))) in
    let is : brigade_text b v ++ m ≡ t = ap (λ d. 32 ∷ (98 ∷ ((d ++ (61 ∷ (set ++ l))) ++ m))) (decimal_digit b below) ∙ ap (λ x. 32 ∷ (98 ∷ ((48 + b) ∷ (61 ∷ x)))) (append_assoc set l m) in
    let taken = set_taken v.null v.gone v.live (l ++ m) (ended_live v m e) in
    let is_set = same_set v.null v.gone v.live (l ++ m) r taken in
    subst (OwnTaken v m) (sym is) (by v.live refl (record {
      begins = refl;
      read = ap (λ (s : PoolState). cond s.live (live_read s.null s.gone (behind (codes "/") (set_past r))) (known_dead s.null s.gone)) is_set
          ∙ ap (λ x. cond v.live (live_read v.null v.gone (behind (codes "/") x)) (known_dead v.null v.gone)) taken.more;
      more = ap (λ (s : PoolState). cond s.live (live_past (behind (codes "/") (set_past r))) (set_past r)) is_set
          ∙ ap (λ x. cond v.live (live_past (behind (codes "/") x)) x) taken.more;
    }))
  where
    by : {t : List ℕ} (x : Bool) → v.live ≡ x → HalfTaken v m t → OwnTaken v m t
    by true live half =
        let on = live_taken v m live say e in
        let l : live_text (codes "/") v ++ m ≡ 47 ∷ (body v ++ m) = ap (λ (y : Bool). where_holds y (47 ∷ body v) ++ m) live in
        record {
          begins = half.begins;
          read = half.read ∙ ap (λ (y : Bool). cond y (live_read v.null v.gone (behind (codes "/") (live_text (codes "/") v ++ m))) (known_dead v.null v.gone)) live
              ∙ ap (λ z. live_read v.null v.gone (behind (codes "/") z)) l ∙ on.read;
          more = half.more ∙ ap (λ (y : Bool). cond y (live_past (behind (codes "/") (live_text (codes "/") v ++ m))) (live_text (codes "/") v ++ m)) live
              ∙ ap (λ z. live_past (behind (codes "/") z)) l ∙ on.more;
        }
    by false live half =
        let l : live_text (codes "/") v ++ m ≡ m = ap (λ (y : Bool). where_holds y (47 ∷ body v) ++ m) live in
        record {
          begins = half.begins;
          read = half.read ∙ ap (λ (y : Bool). cond y (live_read v.null v.gone (behind (codes "/") (live_text (codes "/") v ++ m))) (known_dead v.null v.gone)) live ∙ sym (say.dead live);
          more = half.more ∙ ap (λ (y : Bool). cond y (live_past (behind (codes "/") (live_text (codes "/") v ++ m))) (live_text (codes "/") v ++ m)) live ∙ l;
        }

-- `in`: never made, or exactly live
pub record InTaken (v : BrigadeKnown) (m t : List ℕ) : Type 0 where
  pub read : in_read t ≡ v
  pub more : in_past t ≡ m

pub in_taken : (v : BrigadeKnown) (m : List ℕ) → CanSayBrigade v → (v ≡ never_made) ⊎ ((v.live ≡ true) × (v.null ≡ false) × (v.gone ≡ false)) → TextEnded m → starts (codes " in=") m ≡ false
    → InTaken v m (in_text v ++ m)
in_taken v m say (inl never) e none =
    subst (λ (x : BrigadeKnown). InTaken x m (in_text x ++ m)) (sym never) (record {
      read = ap (λ (b : Bool). cond b (live_read false false (behind (codes " in=") m)) never_made) none;
      more = ap (λ (b : Bool). cond b (live_past (behind (codes " in=") m)) m) none;
    })
in_taken v m say (inr h) e none =
    let on = live_taken v m h.0 say e in
    let t : in_text v ++ m ≡ codes " in=" ++ (body v ++ m) = ap (λ (y : Bool). where_holds y (codes " in=" ++ body v) ++ m) h.0 in
    record {
      read = ap in_read t ∙ ap (λ (n : Bool). live_read n false (body v ++ m)) (sym h.1) ∙ ap (λ (g : Bool). live_read v.null g (body v ++ m)) (sym h.2) ∙ on.read;
      more = ap in_past t ∙ on.more;
    }
