-- Where no need of an instruction fails in a state that describes a run, the instruction has no fault.
use Rattle.std.proofs.Common.{◌≡◌, ℕ, zero, suc, ◌-◌, ◌<◌, Bool, true, false, ◌&&◌, ◌||◌, not, ◌==◌, nat_le, cond, List, [], ◌∷◌, Option, Some, None, is_some, inl, inr, ⊎_elim, refl, ap, sym, ◌∙◌}
use Rattle.std.proofs.Common.{subst, arith, eq-eqb, eqb-true, rules}
use Rattle.std.proofs.lemmas.Bool.{ltb-true, or_parts, cases_eq}
use Rattle.std.specs.List.{list_any}
use Rattle.module_code.specs.declared.instr.Instr.{Instr}
use Rattle.module_code.specs.declared.instr.Instr.TheVariants as instr
use Rattle.module_code.specs.declared.instr.PoolRef.{PoolRef}
use Rattle.module_code.specs.declared.instr.PoolRef.TheVariants as pool
use Rattle.module_code.specs.Program.{Program}
use Rattle.run_model.specs.declared.bucket.BrigadeVar.{BrigadeVar}
use Rattle.run_model.specs.declared.bucket.BrigadeVar.TheVariants as var
use Rattle.run_model.specs.declared.bucket.Cursor.{Cursor}
use Rattle.run_model.specs.declared.bucket.Home.{Home}
use Rattle.run_model.specs.declared.bucket.Home.TheVariants as home
use Rattle.run_model.specs.declared.bucket.Mark.{Mark}
use Rattle.run_model.specs.declared.bucket.Mark.TheVariants.{Usable, Passed}
use Rattle.run_model.specs.declared.bucket.NamedBucket.{NamedBucket}
use Rattle.run_model.specs.declared.bucket.PoolVar.{PoolVar}
use Rattle.run_model.specs.declared.bucket.PoolVar.TheVariants as poolvar
use Rattle.run_model.specs.declared.payload.Payload.{Payload}
use Rattle.run_model.specs.declared.fault.FaultKind.{FaultKind}
use Rattle.run_model.specs.declared.fault.FaultKind.TheVariants.{F1, F2, F5, F6, F7, F8, F10}
use Rattle.run_model.specs.Indexed.{any_below}
use Rattle.run_model.specs.Buckets.{has_data, data_after_eos, is_dead, is_ended}
use Rattle.run_model.specs.BrigadeLists.{bucket_across}
use Rattle.run_model.specs.BucketSteps.{items_at}
use Rattle.run_model.specs.Cursors.{place_of_cursor, bucket_at}
use Rattle.run_model.specs.Cutting.{length_of}
use Rattle.run_model.specs.Effects.{value_of}
use Rattle.run_model.specs.Faults.{Want, WPool, WBrigade, WUsable, WNew, WNewPool, WCursor, WHomes, WHome, WHomeAcross, WSend, WReturn, wants, is_live_named, has_pool_at, brigade_fault, usable_fault}
use Rattle.run_model.specs.Faults.{passed_fault, within_fault, end_fault, cursor_fault, Need, first_fault, new_fault, home_fault, send_fault, is_stray, keeps_stray, fault_want, or_else}
use Rattle.run_model.specs.Pools.{Pools, is_empty, is_live}
use Rattle.run_model.specs.Sound.{SoundNames, SoundPools, Sound}
use Rattle.run_model.specs.State.{Configuration, PoolView, pool_view, named_at, is_own_at, is_named, name_in, items_of, is_passed}
use Rattle.life_state.specs.declared.parts.Classes.{Classes}
use Rattle.life_state.specs.declared.parts.Contents.{Contents}
use Rattle.life_state.specs.declared.parts.Contents.TheVariants.{Flushes, NoLateData}
use Rattle.life_state.specs.declared.parts.PoolState.{PoolState}
use Rattle.life_state.specs.Facts.{is_set}
use Rattle.life_state.specs.Order.{content_leq}
use Rattle.life_state.specs.PoolOrder.{is_clearable}
use Rattle.life_state.specs.Rules.{cursor_need, pool_need, brigade_need, usable_need, homes_need, homes_at, send_limit, keeps_call, need, first_need}
use Rattle.life_state.specs.States.{Homes, is_live_alone, BrigadeKnown, is_live_brigade, is_usable_alone, CursorKnown, Unset, Loose, In, End, InOrEnd, State}
use Rattle.life_state.proofs.PartsOrder.{content_trans}
use Rattle.life_state.proofs.Tests.{split2, split3, and2, not_true, or_either, or_left, or_right}
use Rattle.life_check.specs.Meaning.{CoversPool, ByConnection, ByMember, ByDead, ByCall, Covers, HoldsOfEach, HoldsContents, FitsPool, FitsMark, FitsBrigade, FitsCursor, IsAtBucketOf, IsEndOf, Fits}
use Rattle.life_check.specs.Soundness.{wants_request, MetIsFaultless}
use Rattle.life_check.proofs.Orders.{never}
use Rattle.life_check.proofs.Known.{IsKnown, in_known, loose_known}
use Rattle.life_check.proofs.Lists.{no_late_data, holds_more}
use Rattle.life_check.proofs.Standing.{cursor_loose, cursor_in, cursor_at_end}

-- What is not told is not so.

pub unless_some : {X : Type 0} (b : Bool) (x : X) → cond b (Some x) None ≡ None → b ≡ false
unless_some true x h = cc
unless_some false x h = refl

pub only_if : {X : Type 0} (b : Bool) (x : X) → cond b None (Some x) ≡ None → b ≡ true
only_if true x h = refl
only_if false x h = cc

pub both_none : (a b : Option FaultKind) → or_else a b ≡ None → (a ≡ None) × (b ≡ None)
both_none None b h = (refl, h)
both_none (Some k) b h = cc

-- Pools.

alone : (v : PoolState) → is_live_alone v ≡ true → (v.live ≡ true) × (v.null ≡ false) × (v.gone ≡ false)
alone v h = let three = split3 v.live (not v.null) (not v.gone) h in (three.0, not_true v.null (three.1), not_true v.gone (three.2))

alone_live : (v : PoolState) (x : PoolVar) (ps : Pools Payload) → is_live_alone v ≡ true → FitsPool ps v x → is_live_named ps (name_in x) ≡ true
alone_live v poolvar.Null ps h e = absurd (never e ((alone v h).1))
alone_live v (poolvar.Made n) ps h e = by_life (is_live ps n) e where
  by_life : (l : Bool) → cond l v.live v.gone ≡ true → l ≡ true
  by_life true e = refl
  by_life false e = absurd (never e ((alone v h).2))

not_live : (v : PoolState) (x : PoolVar) (ps : Pools Payload) → v.live ≡ false → FitsPool ps v x → is_live_named ps (name_in x) ≡ false
not_live v poolvar.Null ps h e = refl
not_live v (poolvar.Made n) ps h e = by_life (is_live ps n) e where
  by_life : (l : Bool) → cond l v.live v.gone ≡ true → l ≡ false
  by_life true e = absurd (never e h)
  by_life false e = refl

path_tells : (ps : Pools Payload) (n : ℕ) (xs above : List ℕ) → ps.path n ≡ xs → xs ≡ n ∷ above → is_live ps n ≡ true
unfolding is_live
path_tells ps n xs above is e = ap (λ ys. not (is_empty ys)) (is ∙ e)

request_lives : (r : Configuration) (o : Option ℕ) → SoundPools r → r.shared.req ≡ o → is_some o ≡ true → is_live_named r.shared.pools o ≡ true
request_lives r None sound is there = cc
request_lives r (Some n) sound is there = path_tells r.shared.pools n (r.shared.pools.path n) (r.shared.pools.path r.shared.conn) refl ((sound.req n is).0)

pool_met : (C : Homes → Home → Type 0) (r : Configuration) (s : State) (q : PoolRef) → Sound r → Fits C s r → (wants_request (WPool q ∷ []) ≡ true → is_some r.shared.req ≡ true)
    → pool_need s q ≡ None → fault_want r (WPool q) ≡ None
unfolding has_pool_at named_at
pool_met C r s pool.Conn sound fits asked h = ap (λ b. cond b None (Some F1)) sound.pools.conn
pool_met C r s pool.Req sound fits asked h = ap (λ b. cond b None (Some F1)) (request_lives r r.shared.req sound.pools refl (asked refl))
pool_met C r s (pool.Own q) sound fits asked h =
    ap (λ b. cond b None (Some F1)) (alone_live (s.pools q) (r.instance.pools q) r.shared.pools (only_if (is_live_alone (s.pools q)) F1 h) (fits.pools q))

new_pool_met : (C : Homes → Home → Type 0) (r : Configuration) (s : State) (q : ℕ) → Fits C s r → need s (WNewPool q) ≡ None → fault_want r (WNewPool q) ≡ None
unfolding has_pool_at named_at
new_pool_met C r s q fits h =
    ap (λ b. cond b (Some F10) None) (not_live (s.pools q) (r.instance.pools q) r.shared.pools (unless_some (s.pools q).live F10 h) (fits.pools q))

-- Brigades.

-- exactly live
live_alone : (v : BrigadeKnown) → is_live_brigade v ≡ true → (v.live ≡ true) × (v.null ≡ false) × (v.gone ≡ false)
live_alone v h = let three = split3 v.live (not v.null) (not v.gone) h in (three.0, not_true v.null (three.1), not_true v.gone (three.2))

brigade_met : (C : Homes → Home → Type 0) (v : BrigadeKnown) (x : BrigadeVar) → FitsBrigade C v x → brigade_need v ≡ None → brigade_fault x ≡ None
brigade_met C v var.Null e h = absurd (never e ((live_alone v (only_if (is_live_brigade v) F2 h)).1))
brigade_met C v var.Gone e h = absurd (never e ((live_alone v (only_if (is_live_brigade v) F2 h)).2))
brigade_met C v (var.Live x) e h = refl

usable_parts : (v : BrigadeKnown) → usable_need v ≡ None → (is_live_brigade v ≡ true) × (v.passed ≡ false)
usable_parts v h = by_life (is_live_brigade v) refl h where
  by_life : (l : Bool) → is_live_brigade v ≡ l → cond l (cond (is_usable_alone v) None (Some F7)) (Some F2) ≡ None → (is_live_brigade v ≡ true) × (v.passed ≡ false)
  by_life true is h = (is, not_true v.passed ((split2 v.usable (not v.passed) (only_if (is_usable_alone v) F7 h)).1))
  by_life false is h = cc

mark_met : (C : Homes → Home → Type 0) (v : BrigadeKnown) (m : Mark) (xs : List NamedBucket) → FitsMark C v m xs → v.passed ≡ false → is_passed m ≡ false
mark_met C v Usable xs e h = refl
mark_met C v Passed xs e h = absurd (never e h)

usable_met : (C : Homes → Home → Type 0) (v : BrigadeKnown) (x : BrigadeVar) → FitsBrigade C v x → usable_need v ≡ None → usable_fault x ≡ None
usable_met C v var.Null e h = absurd (never e ((live_alone v ((usable_parts v h).0)).1))
usable_met C v var.Gone e h = absurd (never e ((live_alone v ((usable_parts v h).0)).2))
usable_met C v (var.Live x) e h = ap (λ b. cond b (Some F7) None) (mark_met C v x.mark x.items (e.1) ((usable_parts v h).1))

new_met : (C : Homes → Home → Type 0) (v : BrigadeKnown) (x : BrigadeVar) → FitsBrigade C v x → v.live ≡ false → new_fault x ≡ None
new_met C v var.Null e h = refl
new_met C v var.Gone e h = refl
new_met C v (var.Live x) e h = absurd (never (e.0) h)

-- what is known of the buckets of a brigade that may be used
pub usable_items : (C : Homes → Home → Type 0) (v : BrigadeKnown) (x : BrigadeVar) → FitsBrigade C v x → usable_fault x ≡ None
    → HoldsContents v.content (items_of x) × HoldsOfEach (λ y. C v.homes y.bucket.home) (items_of x)
usable_items C v var.Null e h = cc
usable_items C v var.Gone e h = cc
usable_items C v (var.Live x) e h = by_mark x.mark (e.1) h where
  by_mark : (m : Mark) → FitsMark C v m x.items → cond (is_passed m) (Some F7) None ≡ None → HoldsContents v.content x.items × HoldsOfEach (λ y. C v.homes y.bucket.home) x.items
  by_mark Usable e h = (e.1, e.2)
  by_mark Passed e h = cc

-- Homes.

abbrev EndedIsDead : (Homes → Home → Type 0) → Type 0
EndedIsDead C = (h : Homes) → C h home.Ended → h.dead ≡ true

home_met : (C : Homes → Home → Type 0) (h : Homes) (x : Home) → EndedIsDead C → h.dead ≡ false → C h x → is_ended x ≡ false
home_met C h home.Free ended live c = refl
home_met C h (home.Call n) ended live c = refl
home_met C h (home.Pool n) ended live c = refl
home_met C h home.Ended ended live c = absurd (never (ended h c) live)

none_dead : (C : Homes → Home → Type 0) (h : Homes) (xs : List NamedBucket) → EndedIsDead C → h.dead ≡ false → HoldsOfEach (λ y. C h y.bucket.home) xs → list_any is_dead xs ≡ false
unfolding HoldsOfEach
none_dead C h [] ended live e = refl
none_dead C h (x ∷ xs) ended live e = ap (λ b. b || list_any is_dead xs) (home_met C h x.bucket.home ended live (e.0)) ∙ none_dead C h xs ended live (e.1)

across_alive : (C : Homes → Home → Type 0) (h : Homes) (n : ℕ) (xs : List NamedBucket) → EndedIsDead C → h.dead ≡ false → HoldsOfEach (λ y. C h y.bucket.home) xs
    → home_fault (bucket_across n xs) ≡ None
unfolding bucket_across HoldsOfEach
across_alive C h zero xs ended live e = refl
across_alive C h (suc n) [] ended live e = refl
across_alive C h (suc n) (x ∷ xs) ended live e = by_length (nat_le (length_of x.bucket.content) (suc n)) (across_alive C h (suc n - length_of x.bucket.content) xs ended live (e.1)) where
  by_length : (c : Bool) → home_fault (bucket_across (suc n - length_of x.bucket.content) xs) ≡ None → home_fault (cond c (bucket_across (suc n - length_of x.bucket.content) xs) (Some x)) ≡ None
  by_length true rest = rest
  by_length false rest = ap (λ b. cond b (Some F5) None) (home_met C h x.bucket.home ended live (e.0))

-- What is sent on.

sent_met : (a : Contents) (xs : List NamedBucket) (s : Bool) → content_leq a (send_limit s) ≡ true → HoldsContents a xs → (data_after_eos xs || (s && has_data xs)) ≡ false
sent_met a xs true h e =
    let few = holds_more a Flushes xs h e in
    ap (λ b. b || has_data xs) (no_late_data xs (few.1)) ∙ few.0
sent_met a xs false h e = ap (λ b. b || false) (holds_more a NoLateData xs h e)

-- an EOS was passed only where the state tells so
pub send_met : (v : BrigadeKnown) (xs : List NamedBucket) (known sent : Bool) → (sent ≡ true → known ≡ true) → content_leq v.content (send_limit known) ≡ true → HoldsContents v.content xs
    → send_fault sent xs ≡ None
send_met v xs known true told h e =
    ap (λ b. cond b (Some F8) None) (sent_met v.content xs true (ap (λ b. content_leq v.content (send_limit b)) (sym (told refl)) ∙ h) e)
send_met v xs true false told h e = ap (λ b. cond b (Some F8) None) (sent_met v.content xs false (content_trans v.content Flushes NoLateData h refl) e)
send_met v xs false false told h e = ap (λ b. cond b (Some F8) None) (sent_met v.content xs false h e)

-- What is kept beyond the call.

abbrev CallTells : (Homes → Home → Type 0) → Configuration → Type 0
CallTells C r = (h : Homes) (x : Home) → C h x → h.call ≡ false → is_stray r x ≡ false

none_stray : (C : Homes → Home → Type 0) (r : Configuration) (h : Homes) (xs : List NamedBucket) → CallTells C r → h.call ≡ false → HoldsOfEach (λ y. C h y.bucket.home) xs
    → list_any (λ y. is_stray r y.bucket.home) xs ≡ false
unfolding HoldsOfEach
none_stray C r h [] tells own e = refl
none_stray C r h (x ∷ xs) tells own e = ap (λ b. b || list_any (λ y. is_stray r y.bucket.home) xs) (tells h x.bucket.home (e.0) own) ∙ none_stray C r h xs tells own (e.1)

keeps_met : (C : Homes → Home → Type 0) (r : Configuration) (v : BrigadeKnown) (x : BrigadeVar) → CallTells C r → FitsBrigade C v x → keeps_call v ≡ false → keeps_stray r x ≡ false
unfolding keeps_stray
keeps_met C r v var.Null tells e h = refl
keeps_met C r v var.Gone tells e h = refl
keeps_met C r v (var.Live x) tells e h = by_mark x.mark (e.1) where
  by_mark : (m : Mark) → FitsMark C v m x.items → (not (is_passed m) && list_any (λ y. is_stray r y.bucket.home) x.items) ≡ false
  by_mark Usable f = none_stray C r v.homes x.items tells (sym (ap (λ b. b && v.usable && v.homes.call) (e.0) ∙ ap (λ b. b && v.homes.call) (f.0)) ∙ h) (f.2)
  by_mark Passed f = refl

none_below : (n : ℕ) (p q : ℕ → Bool) → ((k : ℕ) → p k ≡ false → q k ≡ false) → any_below n p ≡ false → any_below n q ≡ false
unfolding any_below
none_below zero p q fewer h = refl
none_below (suc n) p q fewer h =
    let parts = or_parts (p n) (any_below n p) h in
    ap (λ b. b || any_below n q) (fewer n (parts.0)) ∙ none_below n p q fewer (parts.1)

return_met : (C : Homes → Home → Type 0) (r : Configuration) (s : State) → CallTells C r → Fits C s r → need s WReturn ≡ None → fault_want r WReturn ≡ None
return_met C r s tells fits h =
    ap (λ b. cond b (Some F6) None)
    (none_below 8 (λ b. keeps_call (s.brigades b)) (λ b. keeps_stray r (r.instance.brigades b)) (λ b. keeps_met C r (s.brigades b) (r.instance.brigades b) tells (fits.brigades b))
    (unless_some (any_below 8 (λ b. keeps_call (s.brigades b))) F6 h))

-- Homes that do not tell of the call cover none that may not be kept beyond it.

some_below : (n k : ℕ) (p : ℕ → Bool) → k < n → p k ≡ true → any_below n p ≡ true
unfolding any_below
some_below zero k p lt h = absurd (omega arith)
some_below (suc n) k p lt h = ⊎_elim
    (λ (same : k ≡ n). or_left (p n) (any_below n p) (ap p (sym same) ∙ h))
    (λ (other : k ≡ n → ⊥). or_right (p n) (any_below n p) (some_below n k p (omega arith) h))
    (cases_eq k n)

named_own : (v : PoolView) (k : PoolRef) (n : ℕ) → is_clearable k ≡ true → named_at v k ≡ Some n → is_own_at v n ≡ true
unfolding named_at is_own_at
named_own v pool.Conn n c e = cc
named_own v pool.Req n c e =
    or_right (any_below 8 (λ p. is_named (name_in (v.own p)) n) || (n == v.conn)) (is_named v.req n) (ap (λ o. is_named o n) e ∙ eq-eqb n n refl)
named_own v (pool.Own q) n c e =
    or_left (any_below 8 (λ p. is_named (name_in (v.own p)) n) || (n == v.conn)) (is_named v.req n)
    (or_left (any_below 8 (λ p. is_named (name_in (v.own p)) n)) (n == v.conn)
    (some_below 8 q (λ p. is_named (name_in (v.own p)) n) (ltb-true q 8 c) (ap (λ o. is_named o n) e ∙ eq-eqb n n refl)))

pool_own : (p : Program) (v : PoolView) (lives : Home → Type 0) (h : Homes) (n : ℕ) → CoversPool p v lives h n → h.call ≡ false → is_own_at v n ≡ true
unfolding is_own_at
pool_own p v lives h n (ByConnection e) own =
    or_left (any_below 8 (λ q. is_named (name_in (v.own q)) n) || (n == v.conn)) (is_named v.req n)
    (or_right (any_below 8 (λ q. is_named (name_in (v.own q)) n)) (n == v.conn) (eq-eqb n v.conn e))
pool_own p v lives h n (ByMember k d top low named member under) own = named_own v k n top named
pool_own p v lives h n (ByDead k top named dead) own = named_own v k n top named
pool_own p v lives h n (ByCall call alive) own = absurd (never call own)

pub covered_is_kept : (lives : Home → Type 0) (p : Program) (r : Configuration) → CallTells (Covers p (pool_view r) lives) r
unfolding is_stray
covered_is_kept lives p r h home.Free c own = refl
covered_is_kept lives p r h (home.Call n) c own = absurd (never (c.0) own)
covered_is_kept lives p r h (home.Pool n) c own = ap not (pool_own p (pool_view r) lives h n (c.1) own)
covered_is_kept lives p r h home.Ended c own = refl

pub ended_is_dead : (lives : Home → Type 0) (p : Program) (r : Configuration) → EndedIsDead (Covers p (pool_view r) lives)
ended_is_dead lives p r h c = c

-- Cursors.

not_passed : (x : BrigadeVar) → usable_fault x ≡ None → passed_fault x ≡ None
not_passed var.Null h = refl
not_passed var.Gone h = refl
not_passed (var.Live v) h = h

both_met : (a b : Option FaultKind) → a ≡ None → b ≡ None → or_else a b ≡ None
both_met a b h e = ap (λ o. or_else o b) h ∙ e

within_met : (r : Configuration) (f : Need) (v : Cursor) (b : ℕ) (t : Classes) → SoundNames r → IsAtBucketOf r v b t → within_fault f b ≡ None → cursor_fault r f (place_of_cursor r v) ≡ None
unfolding cursor_fault
within_met r f v b t names i h = ap (cursor_fault r f) (cursor_in r v b t names i) ∙ both_met (passed_fault (r.instance.brigades b)) (within_fault f b) (not_passed (r.instance.brigades b) i.usable) h

end_met : (r : Configuration) (f : Need) (v : Cursor) (b : ℕ) → SoundNames r → IsEndOf r v b → end_fault f b ≡ None → cursor_fault r f (place_of_cursor r v) ≡ None
unfolding cursor_fault
end_met r f v b names i h = ap (cursor_fault r f) (cursor_at_end r v b names i) ∙ both_met (passed_fault (r.instance.brigades b)) (end_fault f b) (not_passed (r.instance.brigades b) i.usable) h

cursor_met : (C : Homes → Home → Type 0) (r : Configuration) (f : Need) (k : CursorKnown) (v : Cursor) → SoundNames r → FitsCursor C r k v → cursor_need f k ≡ None
    → cursor_fault r f (place_of_cursor r v) ≡ None
unfolding cursor_fault
cursor_met C r f Unset v names e h = cc
cursor_met C r f (Loose t homes) v names e h = ap (cursor_fault r f) (cursor_loose C r v t homes names e) ∙ h
cursor_met C r f (In b t) v names e h = within_met r f v b t names e h
cursor_met C r f (End b) v names e h = end_met r f v b names e h
cursor_met C r f (InOrEnd b t) v names (inl e) h = within_met r f v b t names e ((both_none (end_fault f b) (within_fault f b) h).1)
cursor_met C r f (InOrEnd b t) v names (inr e) h = end_met r f v b names e ((both_none (end_fault f b) (within_fault f b) h).0)

-- the home of the bucket at a cursor
found_alive : (C : Homes → Home → Type 0) (h : Homes) (x : NamedBucket) → EndedIsDead C → homes_need h ≡ None → C h x.bucket.home → home_fault (Some x) ≡ None
found_alive C h x ended live c = ap (λ b. cond b (Some F5) None) (home_met C h x.bucket.home ended (unless_some h.dead F5 live) c)

known_alive : (C : Homes → Home → Type 0) (t : Classes) (h : Homes) (o : Option NamedBucket) → EndedIsDead C → homes_need h ≡ None → IsKnown C t h o → home_fault o ≡ None
known_alive C t h None ended live is = absurd is
known_alive C t h (Some x) ended live is = found_alive C h x ended live is.1

within_alive : (C : Homes → Home → Type 0) (r : Configuration) (s : State) (v : Cursor) (b : ℕ) (t : Classes) → EndedIsDead C → SoundNames r → Fits C s r → IsAtBucketOf r v b t
    → homes_need (s.brigades b).homes ≡ None → home_fault (bucket_at (place_of_cursor r v)) ≡ None
within_alive C r s v b t ended names f i h = known_alive C t (s.brigades b).homes (bucket_at (place_of_cursor r v)) ended h (in_known C r s v names f b t i)

end_alive : (r : Configuration) (v : Cursor) (b : ℕ) → SoundNames r → IsEndOf r v b → home_fault (bucket_at (place_of_cursor r v)) ≡ None
end_alive r v b names i = ap (λ at. home_fault (bucket_at at)) (cursor_at_end r v b names i)

home_at_met : (C : Homes → Home → Type 0) (r : Configuration) (s : State) (k : CursorKnown) (v : Cursor) → EndedIsDead C → SoundNames r → Fits C s r → FitsCursor C r k v → is_set k ≡ true
    → homes_need (homes_at s k) ≡ None → home_fault (bucket_at (place_of_cursor r v)) ≡ None
home_at_met C r s Unset v ended names f e set h = cc
home_at_met C r s (Loose t homes) v ended names f e set h = known_alive C t homes (bucket_at (place_of_cursor r v)) ended h (loose_known C r s v names f t homes e)
home_at_met C r s (In b t) v ended names f e set h = within_alive C r s v b t ended names f e h
home_at_met C r s (End b) v ended names f e set h = end_alive r v b names e
home_at_met C r s (InOrEnd b t) v ended names f (inl e) set h = within_alive C r s v b t ended names f e h
home_at_met C r s (InOrEnd b t) v ended names f (inr e) set h = end_alive r v b names e

-- The wants of an instruction, one after another.

-- a want of a bucket's home, or of what may be sent on, comes after that of a usable brigade, or of a cursor that stands somewhere
abbrev is_use : ℕ → Want → Bool
is_use b (WUsable a) = a == b
is_use b w = false

abbrev is_standing : ℕ → Want → Bool
is_standing c (WCursor d f) = d == c
is_standing c w = false

abbrev is_led : List Want → Want → Bool
is_led before (WHomes b) = list_any (is_use b) before
is_led before (WHomeAcross b x) = list_any (is_use b) before
is_led before (WSend b) = list_any (is_use b) before
is_led before (WHome c) = list_any (is_standing c) before
is_led before w = true

abbrev all_led : List Want → List Want → Bool
all_led before [] = true
all_led before (w ∷ ws) = is_led before w && all_led (w ∷ before) ws

same : (b : ℕ) (rest : Bool) → ((b == b) || rest) ≡ true
same b rest = or_left (b == b) rest (eq-eqb b b refl)

wants_led : (p : Program) (i : Instr) → all_led [] (wants p i) ≡ true
wants_led p (instr.BPart b x c l) = ap (λ y. y && true) (same b false)
wants_led p (instr.BSave o b) = ap (λ y. y && true) (same b (o == b || false))
wants_led p (instr.Pass b l) = and2 (b == b || false) ((b == b || false) && true) (same b false) (ap (λ y. y && true) (same b false))
wants_led p (instr.Jump l) = refl
wants_led p i = search (rules, same)

alone_asks : (w : Want) (ws : List Want) → wants_request (w ∷ []) ≡ true → wants_request (w ∷ ws) ≡ true
alone_asks (WPool pool.Req) ws h = refl
alone_asks (WPool q) ws h = cc
alone_asks w ws h = cc

later_asks : (w : Want) (ws : List Want) → wants_request ws ≡ true → wants_request (w ∷ ws) ≡ true
later_asks (WPool pool.Req) ws h = refl
later_asks (WPool q) ws h = h
later_asks w ws h = h

abbrev AllMet : State → List Want → Type 0
AllMet s [] = Unit {0}
AllMet s (w ∷ ws) = (need s w ≡ None) × AllMet s ws

is_use_met : (s : State) (b : ℕ) (w : Want) → is_use b w ≡ true → need s w ≡ None → usable_need (s.brigades b) ≡ None
is_use_met s b (WUsable a) is h = subst (λ (k : ℕ). usable_need (s.brigades k) ≡ None) (eqb-true a b is) h
is_use_met s b w is h = cc

use_met : (s : State) (b : ℕ) (before : List Want) → AllMet s before → list_any (is_use b) before ≡ true → usable_need (s.brigades b) ≡ None
use_met s b [] met h = cc
use_met s b (w ∷ ws) met h =
    ⊎_elim (λ (here : is_use b w ≡ true). is_use_met s b w here (met.0)) (λ (later : list_any (is_use b) ws ≡ true). use_met s b ws (met.1) later) (or_either (is_use b w) (list_any (is_use b) ws) h)

set_where : (f : Need) (k : CursorKnown) → cursor_need f k ≡ None → is_set k ≡ true
set_where f Unset h = cc
set_where f k h = refl

is_standing_met : (s : State) (c : ℕ) (w : Want) → is_standing c w ≡ true → need s w ≡ None → is_set (s.cursors c) ≡ true
is_standing_met s c (WCursor d f) is h = set_where f (s.cursors c) (subst (λ (k : ℕ). cursor_need f (s.cursors k) ≡ None) (eqb-true d c is) h)
is_standing_met s c w is h = cc

standing_met : (s : State) (c : ℕ) (before : List Want) → AllMet s before → list_any (is_standing c) before ≡ true → is_set (s.cursors c) ≡ true
standing_met s c [] met h = cc
standing_met s c (w ∷ ws) met h =
    ⊎_elim (λ (here : is_standing c w ≡ true). is_standing_met s c w here (met.0)) (λ (later : list_any (is_standing c) ws ≡ true). standing_met s c ws (met.1) later)
    (or_either (is_standing c w) (list_any (is_standing c) ws) h)

module _ (C : Homes → Home → Type 0) (r : Configuration) (s : State) (ended : EndedIsDead C) (tells : CallTells C r) (sound : Sound r) (f : Fits C s r) where
  items_met : (b : ℕ) → usable_need (s.brigades b) ≡ None → HoldsContents (s.brigades b).content (items_at r b) × HoldsOfEach (λ y. C (s.brigades b).homes y.bucket.home) (items_at r b)
  items_met b h = usable_items C (s.brigades b) (r.instance.brigades b) (f.brigades b) (usable_met C (s.brigades b) (r.instance.brigades b) (f.brigades b) h)

  want_met : (before : List Want) (w : Want) → AllMet s before → is_led before w ≡ true → (wants_request (w ∷ []) ≡ true → is_some r.shared.req ≡ true) → need s w ≡ None → fault_want r w ≡ None
  want_met before (WPool q) met led asked h = pool_met C r s q sound f asked h
  want_met before (WBrigade b) met led asked h = brigade_met C (s.brigades b) (r.instance.brigades b) (f.brigades b) h
  want_met before (WUsable b) met led asked h = usable_met C (s.brigades b) (r.instance.brigades b) (f.brigades b) h
  want_met before (WNew b) met led asked h = new_met C (s.brigades b) (r.instance.brigades b) (f.brigades b) (unless_some (s.brigades b).live F10 h)
  want_met before (WNewPool q) met led asked h = new_pool_met C r s q f h
  want_met before (WCursor c need) met led asked h = cursor_met C r need (s.cursors c) (r.call.cursors c) sound.names (f.cursors c) h
  want_met before (WHomes b) met led asked h =
      ap (λ x. cond x (Some F5) None) (none_dead C (s.brigades b).homes (items_at r b) ended (unless_some (s.brigades b).homes.dead F5 h) ((items_met b (use_met s b before met led)).1))
  want_met before (WHome c) met led asked h = home_at_met C r s (s.cursors c) (r.call.cursors c) ended sound.names f (f.cursors c) (standing_met s c before met led) h
  want_met before (WHomeAcross b x) met led asked h =
      across_alive C (s.brigades b).homes (value_of r x) (items_at r b) ended (unless_some (s.brigades b).homes.dead F5 h) ((items_met b (use_met s b before met led)).1)
  want_met before (WSend b) met led asked h =
      send_met (s.brigades b) (items_at r b) s.sent r.instance.sent f.sent (only_if (content_leq (s.brigades b).content (send_limit s.sent)) F8 h) ((items_met b (use_met s b before met led)).0)
  want_met before WReturn met led asked h = return_met C r s tells f h

  first_met : (before ws : List Want) → AllMet s before → all_led before ws ≡ true → (wants_request ws ≡ true → is_some r.shared.req ≡ true) → first_need s ws ≡ None → first_fault r ws ≡ None
  first_met before [] met led asked h = refl
  first_met before (w ∷ ws) met led asked h =
      let needs = both_none (need s w) (first_need s ws) h in
      let leads = split2 (is_led before w) (all_led (w ∷ before) ws) led in
      both_met (fault_want r w) (first_fault r ws) (want_met before w met (leads.0) (λ e. asked (alone_asks w ws e)) (needs.0))
      (first_met (w ∷ before) ws (needs.0, met) (leads.1) (λ e. asked (later_asks w ws e)) (needs.1))

pub met_is_faultless : (C : Homes → Home → Type 0) → MetIsFaultless C
met_is_faultless C ended p i r s proper fit sound declared asked tells f h = first_met C r s ended tells sound f [] (wants p i) tt (wants_led p i) asked h
