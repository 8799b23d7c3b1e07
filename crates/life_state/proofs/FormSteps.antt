-- What the instructions make of a state in form is in form.
use Rattle.std.proofs.Common.{◌≡◌, ℕ, ◌<◌, Bool, true, false, ◌||◌, ◌==◌, nat_lt, if◌then◌else◌, refl, ap, ◌∙◌, inl, inr}
use Rattle.module_code.specs.declared.instr.PoolRef.{PoolRef}
use Rattle.module_code.specs.Program.{Program}
use Rattle.run_model.specs.Indexed.{upd}
use Rattle.run_model.proofs.Updates.{upd_at, upd_either}
use Rattle.life_state.specs.declared.parts.Contents.{Contents}
use Rattle.life_state.specs.declared.parts.Contents.TheVariants.{Empty, Flushes, NoEos, NoLateData, Any}
use Rattle.life_state.specs.declared.parts.Classes.{Classes}
use Rattle.life_state.specs.States.{Homes, no_homes, home_in, homes_join, BrigadeKnown, holds, passed_on, is_live_brigade, is_usable_alone, with_homes, CursorKnown, Unset, Loose, In, End, InOrEnd}
use Rattle.life_state.specs.States.{State, set_brigade}
use Rattle.life_state.specs.Facts.{is_end, moved}
use Rattle.life_state.specs.Order.{is_at_hand}
use Rattle.life_state.specs.Rules.{homes_at, concat_content, emptied, left, carried, split_off, after_bcreate, after_bclean, after_concat, after_bsplit, bucket_or_end, after_first, after_next, no_other}
use Rattle.life_state.specs.Rules.{some_class, with_classes, classes_of, after_unlink, after_bdelete, put_in, before_content, after_before, if_brigade, after_aside}
use Rattle.life_state.specs.Rules.{may_end, after_pass}
use Rattle.life_state.specs.Form.{NamesDeclared, AtHand, FormedCursor}
use Rattle.life_state.specs.FormLaws.{IsFormedIn}
use Rattle.life_state.proofs.FormParts.{no_named, homes_join_named, holds_formed, passed_formed, usable_formed}
use Rattle.life_state.proofs.FormMoves.{hand_kept, unset_if, based, moved_formed, set_cursor_formed, move_bucket_formed, brigade_based, brigade_formed, assembled}
use Rattle.life_state.proofs.Tests.{split2}

-- Cursors that move.

emptied_formed : (s : State) (b : ℕ) (x : CursorKnown) → FormedCursor s x → FormedCursor s (emptied b x)
emptied_formed s b Unset f = f
emptied_formed s b (Loose t h) f = f
emptied_formed s b (End a) f = f
emptied_formed s b (In a t) f = unset_if s (a == b) (In a t) f
emptied_formed s b (InOrEnd a t) f = unset_if s (a == b) (InOrEnd a t) f

carried_formed : (s : State) (a b : ℕ) (x : CursorKnown) → AtHand s a → FormedCursor s x → FormedCursor s (carried a b x)
carried_formed s a b Unset hand f = f
carried_formed s a b (Loose t h) hand f = f
carried_formed s a b (End v) hand f = f
carried_formed s a b (In v t) hand f = either (v == b)
  where
    either : (e : Bool) → FormedCursor s (if e then In a t else In v t)
    either true = (f.0, hand)
    either false = f
carried_formed s a b (InOrEnd v t) hand f = unset_if s (v == b) (InOrEnd v t) f

split_formed : (s t : State) (b c a k : ℕ) → AtHand t a → FormedCursor t (s.cursors k) → FormedCursor t (split_off b c a s k)
split_formed s t b c a k hand f = either (k == c)
  where
    either : (e : Bool) → FormedCursor t (if e then carried a b (s.cursors k) else emptied a (emptied b (s.cursors k)))
    either true = carried_formed t a b (s.cursors k) hand f
    either false = emptied_formed t a (emptied b (s.cursors k)) (emptied_formed t b (s.cursors k) f)

split_unset : (s : State) (b c a k : ℕ) → s.cursors k ≡ Unset → split_off b c a s k ≡ Unset
split_unset s b c a k h = either (k == c)
  where
    either : (e : Bool) → (if e then carried a b (s.cursors k) else emptied a (emptied b (s.cursors k))) ≡ Unset
    either true = ap (carried a b) h
    either false = ap (λ x. emptied a (emptied b x)) h

-- another brigade than the one that changes
hand_off : (s : State) (a b : ℕ) (v : BrigadeKnown) → (a == b) ≡ false → AtHand s a → AtHand (set_brigade b v s) a
unfolding upd
hand_off s a b v off hand = (hand.0, ap (λ t. is_at_hand (if t then v else s.brigades a)) off ∙ hand.1)

left_formed : (s : State) (b : ℕ) (v : BrigadeKnown) (x : CursorKnown) → FormedCursor s x → FormedCursor (set_brigade b v s) (left b x)
left_formed s b v Unset f = f
left_formed s b v (Loose t h) f = f
left_formed s b v (In a t) f = either (a == b) refl
  where
    either : (e : Bool) → (a == b) ≡ e → FormedCursor (set_brigade b v s) (if e then Unset else In a t)
    either true e = tt
    either false e = (f.0, hand_off s a b v e (f.1))
left_formed s b v (End a) f = either (a == b) refl
  where
    either : (e : Bool) → (a == b) ≡ e → FormedCursor (set_brigade b v s) (if e then Unset else End a)
    either true e = tt
    either false e = hand_off s a b v e f
left_formed s b v (InOrEnd a t) f = either (a == b) refl
  where
    either : (e : Bool) → (a == b) ≡ e → FormedCursor (set_brigade b v s) (if e then Unset else InOrEnd a t)
    either true e = tt
    either false e = (f.0, hand_off s a b v e (f.1))

-- Buckets.

-- the cursor is at a bucket
abbrev pub AtBucket : CursorKnown → Type 0
AtBucket Unset = ⊥
AtBucket (Loose t h) = Unit {0}
AtBucket (In b t) = Unit {0}
AtBucket (End b) = ⊥
AtBucket (InOrEnd b t) = ⊥

pub some_there : (s : State) (x : CursorKnown) → FormedCursor s x → AtBucket x → some_class (classes_of x) ≡ true
some_there s Unset f at = absurd at
some_there s (Loose t h) f at = f.0
some_there s (In b t) f at = f.0
some_there s (End b) f at = absurd at
some_there s (InOrEnd b t) f at = f.0

pub homes_named : (s : State) (x : CursorKnown) → ((b : ℕ) → NamesDeclared s (s.brigades b).homes) → FormedCursor s x → NamesDeclared s (homes_at s x)
homes_named s Unset named f = no_named s
homes_named s (Loose t h) named f = f.1
homes_named s (In b t) named f = named b
homes_named s (End b) named f = no_named s
homes_named s (InOrEnd b t) named f = named b

bucket_formed : (s : State) (b : ℕ) (c : Contents) → AtHand s b → FormedCursor s (bucket_or_end b c)
bucket_formed s b Empty hand = hand
bucket_formed s b Flushes hand = (refl, hand)
bucket_formed s b NoEos hand = (refl, hand)
bucket_formed s b NoLateData hand = (refl, hand)
bucket_formed s b Any hand = (refl, hand)

pub classes_formed : (s : State) (t : Classes) (x : CursorKnown) → some_class t ≡ true → FormedCursor s x → FormedCursor s (with_classes t x)
classes_formed s t Unset some f = f
classes_formed s t (Loose u h) some f = (some, f.1)
classes_formed s t (In b u) some f = (some, f.1)
classes_formed s t (End b) some f = f
classes_formed s t (InOrEnd b u) some f = (some, f.1)

-- Brigades that change.

pub hand_live : (v : BrigadeKnown) → is_at_hand v ≡ true → is_live_brigade v ≡ true
hand_live v h = (split2 (is_live_brigade v) (is_usable_alone v) h).0

-- a brigade that was written is at hand
written : (s : State) (b : ℕ) (c : Contents) (h : Homes) → AtHand s b → AtHand (set_brigade b (holds c h) s) b
written s b c h hand = (hand.0, ap is_at_hand (upd_at s.brigades b (holds c h)))

still_live : (s : State) (a b : ℕ) (c : Contents) (h : Homes) → is_live_brigade (s.brigades b) ≡ true → is_live_brigade ((set_brigade a (holds c h) s).brigades b) ≡ true
still_live s a b c h live = elim (upd_either s.brigades a b (holds c h)) [ inl e ↦ ap is_live_brigade (e.1) | inr e ↦ ap is_live_brigade (e.1) ∙ live ]

module _ (p : Program) (call : Bool) where
  -- a live brigade is usable, with these buckets
  holds_at : (s : State) (b : ℕ) (c : Contents) (h : Homes) → IsFormedIn p call s → is_live_brigade (s.brigades b) ≡ true → NamesDeclared s h → IsFormedIn p call (set_brigade b (holds c h) s)
  holds_at s b c h f live named = brigade_formed p call s b (holds c h) f (inr (refl, live)) (holds_formed c h) named (λ e. refl)

  pub emptied_at : (s : State) (b : ℕ) → IsFormedIn p call s → is_live_brigade (s.brigades b) ≡ true → IsFormedIn p call (after_bcreate b s)
  emptied_at s b f live = holds_at s b Empty no_homes f live (no_named s)

  pub bcreate_formed : (s : State) (b : ℕ) → IsFormedIn p call s → b < s.brigade_count → IsFormedIn p call (after_bcreate b s)
  bcreate_formed s b f own = brigade_formed p call s b (holds Empty no_homes) f (inl own) (holds_formed Empty no_homes) (no_named s) (λ e. refl)

  pub bclean_formed : (s : State) (b : ℕ) → IsFormedIn p call s → is_live_brigade (s.brigades b) ≡ true → IsFormedIn p call (after_bclean b s)
  bclean_formed s b f live =
      let t = after_bcreate b s in
      let g = emptied_at s b f live in
      moved_formed p call t (λ k. emptied b (s.cursors k)) (based p call t g) f.formed.symmetric
      (λ k. emptied_formed t b (s.cursors k) (g.formed.cursors k)) (λ k h. ap (emptied b) (f.formed.no_cursors k h))

  pub concat_formed : (s : State) (a b : ℕ) (homes : Homes) → IsFormedIn p call s → AtHand s a → is_live_brigade (s.brigades b) ≡ true → NamesDeclared s homes
      → IsFormedIn p call (after_concat a b homes s)
  concat_formed s a b homes f hand live named =
      let c = concat_content (s.brigades a).content (s.brigades b).content in
      let t = set_brigade a (holds c homes) s in
      let u = after_bcreate b t in
      let g = emptied_at t b (holds_at s a c homes f (hand_live (s.brigades a) (hand.1)) named) (still_live s a b c homes live) in
      let there = hand_kept t a b (holds Empty no_homes) (λ e. refl) (written s a c homes hand) in
      moved_formed p call u (λ k. carried a b (s.cursors k)) (based p call u g) f.formed.symmetric
      (λ k. carried_formed u a b (s.cursors k) there (g.formed.cursors k)) (λ k h. ap (carried a b) (f.formed.no_cursors k h))

  pub bsplit_formed : (s : State) (b c a : ℕ) → IsFormedIn p call s → AtHand s a → IsFormedIn p call (after_bsplit b c a s)
  bsplit_formed s b c a f hand = ends (is_end (s.cursors c))
    where
      with_part : (content : Contents) (homes : Homes) → NamesDeclared s homes → IsFormedIn p call (moved (split_off b c a s) (set_brigade a (holds content homes) s))
      with_part content homes named =
          let t = set_brigade a (holds content homes) s in
          let g = holds_at s a content homes f (hand_live (s.brigades a) (hand.1)) named in
          moved_formed p call t (split_off b c a s) (based p call t g) f.formed.symmetric
          (λ k. split_formed s t b c a k (written s a content homes hand) (g.formed.cursors k)) (λ k h. split_unset s b c a k (f.formed.no_cursors k h))

      ends : (e : Bool) → IsFormedIn p call (moved (split_off b c a s) (set_brigade a (if e then holds Empty no_homes else holds (s.brigades b).content (s.brigades b).homes) s))
      ends true = with_part Empty no_homes (no_named s)
      ends false = with_part (s.brigades b).content (s.brigades b).homes (f.formed.homes b)

  pub pass_formed : (s : State) (b : ℕ) → IsFormedIn p call s → is_live_brigade (s.brigades b) ≡ true → IsFormedIn p call (after_pass b s)
  pass_formed s b f live =
      let t = record (set_brigade b passed_on s) { sent = s.sent || may_end (s.brigades b).content } in
      moved_formed p call t (λ k. left b (s.cursors k)) (brigade_based p call s b passed_on (based p call s f) (inr (refl, live)) passed_formed (no_named s)) f.formed.symmetric
      (λ k. left_formed s b passed_on (s.cursors k) (f.formed.cursors k)) (λ k h. ap (left b) (f.formed.no_cursors k h))

  pub sent_formed : (s : State) (sent : Bool) → IsFormedIn p call s → IsFormedIn p call (record s { sent = sent })
  sent_formed s sent f = assembled p call (record s { sent = sent }) (based p call s f) f.formed.cursors f.formed.no_cursors f.formed.facts f.formed.symmetric

  -- Cursors that are set.

  pub first_formed : (s : State) (c b : ℕ) → IsFormedIn p call s → c < 9 → AtHand s b → IsFormedIn p call (after_first c b s)
  first_formed s c b f inside hand = set_cursor_formed p call s c (bucket_or_end b (s.brigades b).content) no_other f inside (bucket_formed s b (s.brigades b).content hand)

  pub next_formed : (s : State) (d c : ℕ) (x : CursorKnown) → IsFormedIn p call s → d < 9 → FormedCursor s x → IsFormedIn p call (after_next d c x s)
  next_formed s d c (In b t) f inside here = set_cursor_formed p call s d (bucket_or_end b (s.brigades b).content) (λ k. k == c) f inside (bucket_formed s b (s.brigades b).content (here.1))
  next_formed s d c Unset f inside here = f
  next_formed s d c (Loose t h) f inside here = f
  next_formed s d c (End b) f inside here = f
  next_formed s d c (InOrEnd b t) f inside here = f

  -- the bucket at a cursor, as a loose one
  pub loose_formed : (s : State) (x : CursorKnown) → IsFormedIn p call s → FormedCursor s x → AtBucket x → FormedCursor s (Loose (classes_of x) (homes_at s x))
  loose_formed s x f here at = (some_there s x here at, homes_named s x f.formed.homes here)

  -- Buckets that move.

  pub unlink_formed : (s : State) (c : ℕ) → IsFormedIn p call s → c < 9 → AtBucket (s.cursors c) → IsFormedIn p call (after_unlink c s)
  unlink_formed s c f inside at =
      move_bucket_formed p call s c (Loose (classes_of (s.cursors c)) (homes_at s (s.cursors c))) f inside (loose_formed s (s.cursors c) f (f.formed.cursors c) at)

  pub bdelete_formed : (s : State) (c : ℕ) → IsFormedIn p call s → c < 9 → IsFormedIn p call (after_bdelete c s)
  bdelete_formed s c f inside = move_bucket_formed p call s c Unset f inside tt

  pub put_formed : (content : Contents → Classes → Contents) (s : State) (b c : ℕ) → IsFormedIn p call s → c < 9 → AtHand s b → AtBucket (s.cursors c) → IsFormedIn p call (put_in content b c s)
  put_formed content s b c f inside hand at =
      let here = loose_formed s (s.cursors c) f (f.formed.cursors c) at in
      let homes = homes_join (s.brigades b).homes (homes_at s (s.cursors c)) in
      let now = content (s.brigades b).content (classes_of (s.cursors c)) in
      let t = set_brigade b (holds now homes) s in
      let g = holds_at s b now homes f (hand_live (s.brigades b) (hand.1)) (homes_join_named s (s.brigades b).homes (homes_at s (s.cursors c)) (f.formed.homes b) (here.1)) in
      move_bucket_formed p call t c (In b (classes_of (s.cursors c))) g inside (here.0, written s b now homes hand)

  if_formed : (b : ℕ) (s t : State) → IsFormedIn p call s → IsFormedIn p call t → IsFormedIn p call (if_brigade b t s)
  if_formed b s t f g = either (nat_lt b 9)
    where
      either : (e : Bool) → IsFormedIn p call (if e then t else s)
      either true = g
      either false = f

  pub before_formed : (s : State) (c : ℕ) (x : CursorKnown) → IsFormedIn p call s → c < 9 → AtBucket (s.cursors c) → FormedCursor s x → IsFormedIn p call (after_before c x s)
  before_formed s c (In b t) f inside at here = if_formed b s (put_in before_content b c s) f (put_formed before_content s b c f inside (here.1) at)
  before_formed s c Unset f inside at here = f
  before_formed s c (Loose t h) f inside at here = f
  before_formed s c (End b) f inside at here = f
  before_formed s c (InOrEnd b t) f inside at here = f

  pub aside_formed : (s : State) (c : ℕ) (q : PoolRef) (x : CursorKnown) → IsFormedIn p call s → c < 9 → NamesDeclared s (home_in q) → FormedCursor s x → IsFormedIn p call (after_aside c q x s)
  aside_formed s c q (Loose t h) f inside named here = move_bucket_formed p call s c (Loose t (home_in q)) f inside (here.0, named)
  aside_formed s c q (In b t) f inside named here =
      let v = s.brigades b in
      let hand = here.1 in
      let live = hand_live v (hand.1) in
      if_formed b s (set_brigade b (with_homes (homes_join (home_in q)) v) s) f
      (brigade_formed p call s b (with_homes (homes_join (home_in q)) v) f (inr (live, live)) (usable_formed (homes_join (home_in q)) v (hand.1) (f.formed.brigades b))
      (homes_join_named s (home_in q) v.homes named (f.formed.homes b)) (λ e. e))
  aside_formed s c q Unset f inside named here = f
  aside_formed s c q (End b) f inside named here = f
  aside_formed s c q (InOrEnd b t) f inside named here = f
