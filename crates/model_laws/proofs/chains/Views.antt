-- What is sound of a connection is so of what each of its calls sees.
use Rattle.std.proofs.Common.{◌≡◌, ℕ, ◌<◌, ◌≤◌, List, [], ◌∷◌, ◌++◌, length, Some, All, inl, inr, sym, ◌∙◌, ap, subst, arith}
use Rattle.std.proofs.lemmas.Bool.{cases_lt}
use Rattle.std.proofs.lemmas.List.Elements.{All-head, All-tail, All-nil}
use Rattle.module_code.specs.Program.{Program}
use Rattle.run_model.specs.State.{fresh_call}
use Rattle.run_model.specs.Cutting.{FitsKind}
use Rattle.run_model.specs.Sound.{sum_below, count_named, count, brigade_name, SoundNames, Sound}
use Rattle.run_model.specs.Chains.{Frame, Connection, Common, configuration, places}
use Rattle.model_laws.specs.ChainSound.{count_at, count_loose, count_in, ChainNames, ChainSound, IsFramePlaced}
use Rattle.run_model.proofs.Sums.{term_below}
use Rattle.run_model.proofs.Names.{count_none}

-- A call on the stack.

pub loose_within : (n : ℕ) (above : List Frame) (f : Frame) (below : List Frame) → count_named n f.call.loose ≤ count_loose (above ++ f ∷ below) n
unfolding count_loose
loose_within n [] f below = omega arith
loose_within n (w ∷ above) f below = (let rest : count_named n f.call.loose ≤ count_loose (above ++ f ∷ below) n = loose_within n above f below in omega arith)

pub all_within : (P : Frame → Type 0) (above : List Frame) (f : Frame) (below : List Frame) → All P (above ++ f ∷ below) → P f
all_within P [] f below h = All-head P f below h
all_within P (w ∷ above) f below h = all_within P above f below (All-tail P w (above ++ f ∷ below) h)

-- Its buckets are among those of the connection.
pub count_within : (chain : List Program) (g : Common) (c : Connection) (f : Frame) (n : ℕ) → f.of < places chain → count_named n f.call.loose ≤ count_loose c.stack n
    → count (configuration g c f) n ≤ count_in chain c n
unfolding configuration count_in
count_within chain g c f n placed loose =
    let here : count_at (c.instances f.of) n ≤ sum_below (places chain) (λ k. count_at (c.instances k) n) = term_below (places chain) f.of (λ k. count_at (c.instances k) n) placed in
    omega arith

-- Brigades of one instance.

null_unnamed : (chain : List Program) (g : Common) (c : Connection) (k b n : ℕ) → ChainNames chain g c → brigade_name ((c.instances k).brigades b) ≡ Some n → b < 9
null_unnamed chain g c k b n s h = elim (cases_lt b 9) [
  | inl lt ↦ lt
  | inr le ↦ absurd (let none = sym (ap brigade_name (s.slots k b le)) ∙ h in cc)
]

-- no two variables of an instance hold one brigade
pub one_variable : (chain : List Program) (g : Common) (c : Connection) (k b d n : ℕ) → ChainNames chain g c
    → brigade_name ((c.instances k).brigades b) ≡ Some n → brigade_name ((c.instances k).brigades d) ≡ Some n → b ≡ d
one_variable chain g c k b d n s hb hd =
    let b_lt = null_unnamed chain g c k b n s hb in
    let d_lt = null_unnamed chain g c k d n s hd in
    elim (cases_lt b 8) [
      | inl b_own ↦ elim (cases_lt d 8) [
        | inl d_own ↦ (s.own k k b d n b_own d_own hb hd).1
        | inr d_in ↦
            (let is : d ≡ 8 = omega arith in
            absurd (let less : k < k = s.incoming k k b n b_own (subst (λ (m : ℕ). brigade_name ((c.instances k).brigades m) ≡ Some n) is hd) hb in omega arith))
      ]
      | inr b_in ↦
          (let is : b ≡ 8 = omega arith in
          elim (cases_lt d 8) [
            | inl d_own ↦ absurd (let less : k < k = s.incoming k k d n d_own (subst (λ (m : ℕ). brigade_name ((c.instances k).brigades m) ≡ Some n) is hb) hd in omega arith)
            | inr d_in ↦ omega arith
          ])
    ]

-- What a call sees of names, where its loose buckets are among those of the stack.
names_seen : (chain : List Program) (g : Common) (c : Connection) (f : Frame) → f.of < places chain → ((n : ℕ) → count_named n f.call.loose ≤ count_loose c.stack n)
    → ChainNames chain g c → SoundNames (configuration g c f)
unfolding configuration
names_seen chain g c f placed loose s = record {
  once = λ n. (let few = count_within chain g c f n placed (loose n) in let all : count_in chain c n ≤ 1 = s.once n in omega arith);
  fresh = λ n le. (let few = count_within chain g c f n placed (loose n) in let all : count_in chain c n ≡ 0 = s.fresh n le in omega arith);
  apart = λ b d n hb hd. one_variable chain g c f.of b d n s hb hd;
  given = λ b n h. s.given f.of b n h;
  limit = s.limit;
  slots = λ b le. s.slots f.of b le;
}

-- The call f sees a sound state, wherever it stands on the stack.
pub sound_of : (chain : List Program) (g : Common) (c : Connection) (above : List Frame) (f : Frame) (below : List Frame) → c.stack ≡ above ++ f ∷ below → ChainSound chain g c
    → Sound (configuration g c f)
unfolding configuration
sound_of chain g c above f below is s =
    let placed : IsFramePlaced chain c.req f = all_within (IsFramePlaced chain c.req) above f below (subst (λ (fs : List Frame). All (IsFramePlaced chain c.req) fs) is s.calls.placed) in
    record {
      names = names_seen chain g c f placed.of (λ n. subst (λ (fs : List Frame). count_named n f.call.loose ≤ count_loose fs n) (sym is) (loose_within n above f below)) s.names;
      buckets = record {
        brigades = λ b. s.buckets.brigades f.of b;
        loose = all_within (λ w. All (λ x. FitsKind x.bucket) w.call.loose) above f below (subst (λ (fs : List Frame). All (λ w. All (λ x. FitsKind x.bucket) w.call.loose) fs) is s.buckets.loose);
      };
      pools = s.pools.sound f;
    }

-- so does the call on top
pub sound_top : (chain : List Program) (g : Common) (c : Connection) (f : Frame) (rest : List Frame) → c.stack ≡ f ∷ rest → ChainSound chain g c → Sound (configuration g c f)
sound_top chain g c f rest is s = sound_of chain g c [] f rest is s

-- An instance of the chain is sound by itself, as it is between calls.
pub sound_resting : (chain : List Program) (g : Common) (c : Connection) (k : ℕ) → k < places chain → ChainSound chain g c → Sound (configuration g c (record { of = k; call = fresh_call 0; pc = 0 }))
unfolding configuration
sound_resting chain g c k lt s =
    let f : Frame = record { of = k; call = fresh_call 0; pc = 0 } in
    record {
      names = names_seen chain g c f lt (λ n. rw (count_none n) (omega arith)) s.names;
      buckets = record { brigades = λ b. s.buckets.brigades k b; loose = All-nil (λ x. FitsKind x.bucket) };
      pools = s.pools.sound f;
    }
