-- What a change of a connection does to the names of its buckets and brigades.
use Rattle.std.proofs.Common.{◌≡◌, ◌≢◌, ℕ, ◌+◌, ◌^◌, ◌<◌, ◌≤◌, ◌==◌, cond, List, [], ◌∷◌, ◌++◌, map, length, Some, ◌⊎◌, inl, inr, refl, sym, ◌∙◌, ap, subst, arith}
use Rattle.std.proofs.lemmas.Bool.{cases_lt}
use Rattle.std.proofs.lemmas.Bool.Decides.{eqb_tells}
use Rattle.module_code.specs.declared.instr.Instr.{Instr}
use Rattle.module_code.specs.declared.instr.Instr.TheVariants as instr
use Rattle.module_code.specs.Program.{Program}
use Rattle.run_model.specs.declared.bucket.NamedBucket.{NamedBucket}
use Rattle.run_model.specs.declared.bucket.BrigadeVar.{BrigadeVar}
use Rattle.run_model.specs.declared.bucket.BrigadeVar.TheVariants as var
use Rattle.run_model.specs.State.{Instance, Configuration}
use Rattle.run_model.specs.Sound.{NamesStep, sum_below, count_named, count, brigade_name}
use Rattle.run_model.specs.Chains.{Frame, Connection, Common, configuration, touched_var, touched_bucket, touched_instance, touched_frame, cleared_by, put_back, places}
use Rattle.model_laws.specs.ChainSound.{count_at, count_loose, count_in, ChainNames}
use Rattle.run_model.proofs.Sums.{sum_below_le, sum_below_but}
use Rattle.run_model.proofs.Names.{count_map, Carried, carried_same, Fewer, fewer_same, cleared_fewer, returned_fewer}
use Rattle.model_laws.proofs.chains.Views.{count_within, loose_within}

-- As NamesStep says it of one call, of a whole connection.
pub record ChainNamesStep (chain : List Program) (g : Common) (c : Connection) (later : Common) (new : Connection) : Type 0 where
  pub rises : g.next ≤ later.next
  pub limit : later.next < 2 ^ 64
  pub old : (n : ℕ) → n < g.next → count_in chain new n ≤ count_in chain c n
  pub born : (n : ℕ) → g.next ≤ n → count_in chain c n ≡ 0 → count_in chain new n ≤ 1
  pub fresh : (n : ℕ) → later.next ≤ n → count_in chain c n ≡ 0 → count_in chain new n ≡ 0
  pub named : (k b n : ℕ) → brigade_name ((new.instances k).brigades b) ≡ Some n → (brigade_name ((c.instances k).brigades b) ≡ Some n) ⊎ ((g.next ≤ n) × (n < later.next))
  pub apart : (j k b d n : ℕ) → brigade_name ((new.instances j).brigades b) ≡ Some n → brigade_name ((new.instances k).brigades d) ≡ Some n
      → (brigade_name ((c.instances j).brigades b) ≡ Some n) ⊎ ((brigade_name ((c.instances k).brigades d) ≡ Some n) ⊎ ((j ≡ k) × (b ≡ d)))
  pub slots : (k b : ℕ) → 9 ≤ b → (c.instances k).brigades b ≡ var.Null → (new.instances k).brigades b ≡ var.Null

-- of two variables that hold one name now, both held it before, or they are one
both_held : (chain : List Program) (g : Common) (c : Connection) (later : Common) (new : Connection) → ChainNamesStep chain g c later new → ChainNames chain g c
    → (j k b d n : ℕ) → brigade_name ((new.instances j).brigades b) ≡ Some n → brigade_name ((new.instances k).brigades d) ≡ Some n
    → ((brigade_name ((c.instances j).brigades b) ≡ Some n) × (brigade_name ((c.instances k).brigades d) ≡ Some n)) ⊎ ((j ≡ k) × (b ≡ d))
both_held chain g c later new t s j k b d n hb hd = elim (t.apart j k b d n hb hd) [
  | inl was ↦ (let lt : n < g.next = s.given j b n was in elim (t.named k d n hd) [ inl too ↦ inl (was, too) | inr made ↦ absurd (omega (arith, made.0)) ])
  | inr other ↦ elim other [
    | inl was ↦ (let lt : n < g.next = s.given k d n was in elim (t.named j b n hb) [ inl too ↦ inl (too, was) | inr made ↦ absurd (omega (arith, made.0)) ])
    | inr one ↦ inr one
  ]
]

-- Such a change keeps names single, and new names new.
pub chain_names_stay : (chain : List Program) (g : Common) (c : Connection) (later : Common) (new : Connection) → ChainNamesStep chain g c later new → ChainNames chain g c → ChainNames chain later new
chain_names_stay chain g c later new t s = record {
  once = λ n. elim (cases_lt n g.next) [
    | inl lt ↦ (let fewer : count_in chain new n ≤ count_in chain c n = t.old n lt in let once : count_in chain c n ≤ 1 = s.once n in omega arith)
    | inr le ↦ t.born n le (s.fresh n le)
  ];
  fresh = λ n le. t.fresh n le (s.fresh n (let up : g.next ≤ later.next = t.rises in omega arith));
  own = λ j k b d n b_own d_own hb hd. elim (both_held chain g c later new t s j k b d n hb hd) [
    | inl were ↦ s.own j k b d n b_own d_own were.0 were.1
    | inr one ↦ one
  ];
  incoming = λ j k d n own came hd. elim (both_held chain g c later new t s k j 8 d n came hd) [
    | inl were ↦ s.incoming j k d n own were.0 were.1
    | inr one ↦ absurd (omega (arith, one.1))
  ];
  given = λ k b n h. elim (t.named k b n h) [
    | inl was ↦ (let lt : n < g.next = s.given k b n was in let up : g.next ≤ later.next = t.rises in omega arith)
    | inr made ↦ made.1
  ];
  limit = t.limit;
  slots = λ k b le. t.slots k b le (s.slots k b le);
}

-- Where brigades keep their names or let go of them, and no bucket comes.
pub carried_names : (chain : List Program) (g : Common) (c : Connection) (later : Common) (new : Connection)
    → ((k b : ℕ) → Carried ((c.instances k).brigades b) ((new.instances k).brigades b)) → ((n : ℕ) → count_in chain new n ≤ count_in chain c n)
    → g.next ≤ later.next → later.next < 2 ^ 64 → ChainNamesStep chain g c later new
carried_names chain g c later new carried fewer rises limit = record {
  rises = rises;
  limit = limit;
  old = λ n lt. fewer n;
  born = λ n le none. (let h : count_in chain new n ≤ count_in chain c n = fewer n in omega arith);
  fresh = λ n le none. (let h : count_in chain new n ≤ count_in chain c n = fewer n in omega arith);
  named = λ k b n h. inl ((carried k b).name n h);
  apart = λ j k b d n hb hd. inl ((carried j b).name n hb);
  slots = λ k b le none. (carried k b).null none;
}

-- Where brigades keep their names, and buckets are still single.
pub names_carried : (chain : List Program) (g : Common) (c new : Connection) → ((k b : ℕ) → Carried ((c.instances k).brigades b) ((new.instances k).brigades b))
    → ((n : ℕ) → count_in chain new n ≤ 1) → ((n : ℕ) → g.next ≤ n → count_in chain new n ≡ 0) → ChainNames chain g c → ChainNames chain g new
names_carried chain g c new carried once fresh s = record {
  once = once;
  fresh = fresh;
  own = λ j k b d n b_own d_own hb hd. s.own j k b d n b_own d_own ((carried j b).name n hb) ((carried k d).name n hd);
  incoming = λ j k d n own came hd. s.incoming j k d n own ((carried k 8).name n came) ((carried j d).name n hd);
  given = λ k b n h. s.given k b n ((carried k b).name n h);
  limit = s.limit;
  slots = λ k b le. (carried k b).null (s.slots k b le);
}

-- Brigades stay, and loose buckets go.
pub fewer_loose : (chain : List Program) (c new : Connection) (n : ℕ) → new.instances ≡ c.instances → count_loose new.stack n ≤ count_loose c.stack n → count_in chain new n ≤ count_in chain c n
unfolding count_in
fewer_loose chain c new n same fewer = (let instances : sum_below (places chain) (λ k. count_at (new.instances k) n) ≡ sum_below (places chain) (λ k. count_at (c.instances k) n) =
    ap (λ (g : ℕ → Instance). sum_below (places chain) (λ k. count_at (g k) n)) same in omega arith)

-- Brigades and loose buckets stay.
pub same_names : (chain : List Program) (g : Common) (c new : Connection) → new.instances ≡ c.instances → new.stack ≡ c.stack → ChainNames chain g c → ChainNames chain g new
same_names chain g c new instances stack s =
    names_carried chain g c new (λ k b. subst (λ (h : ℕ → Instance). Carried ((c.instances k).brigades b) ((h k).brigades b)) (sym instances) (carried_same ((c.instances k).brigades b)))
    (λ n. let fewer = same n in let once : count_in chain c n ≤ 1 = s.once n in omega arith)
    (λ n le. let fewer = same n in let none : count_in chain c n ≡ 0 = s.fresh n le in omega arith)
    s where
      same : (n : ℕ) → count_in chain new n ≤ count_in chain c n
      same n = fewer_loose chain c new n instances (let at : count_loose new.stack n ≡ count_loose c.stack n = ap (λ (fs : List Frame). count_loose fs n) stack in omega arith)

-- What an instruction does to the brigades of other instances, and to the loose buckets of calls that wait.

pub touched_fewer : (r : Configuration) (i : Instr) (v : BrigadeVar) → Fewer v (touched_var r i v)
touched_fewer r (instr.PClear q) v = cleared_fewer (cleared_by r q) v
touched_fewer r (instr.PDestroy q) v = cleared_fewer (cleared_by r q) v
touched_fewer r (instr.Ret s) v = returned_fewer r.call.name v
touched_fewer r i v = fewer_same v

pub touched_named : (r : Configuration) (i : Instr) (x : NamedBucket) → (touched_bucket r i x).name ≡ x.name
touched_named r (instr.PClear q) x = refl
touched_named r (instr.PDestroy q) x = refl
touched_named r (instr.Ret s) x = refl
touched_named r i x = refl

pub touched_at : (vars : BrigadeVar → BrigadeVar) → ((v : BrigadeVar) → Fewer v (vars v)) → (i : Instance) (n : ℕ) → count_at (touched_instance vars i) n ≤ count_at i n
touched_at vars fewer i n = sum_below_le 9 _ _ (λ b. (fewer (i.brigades b)).items n)

pub loose_append : (n : ℕ) (fs ws : List Frame) → count_loose (fs ++ ws) n ≡ count_loose fs n + count_loose ws n
unfolding count_loose
loose_append n [] ws = omega arith
loose_append n (f ∷ fs) ws = (let rest : count_loose (fs ++ ws) n ≡ count_loose fs n + count_loose ws n = loose_append n fs ws in omega arith)

pub touched_loose : (bucket : NamedBucket → NamedBucket) → ((x : NamedBucket) → (bucket x).name ≡ x.name) → (n : ℕ) (fs : List Frame) → count_loose (map (touched_frame bucket) fs) n ≡ count_loose fs n
unfolding count_loose
touched_loose bucket same n [] = refl
touched_loose bucket same n (f ∷ fs) =
    let here : count_named n (map bucket f.call.loose) ≡ count_named n f.call.loose = count_map n bucket same f.call.loose in
    let rest : count_loose (map (touched_frame bucket) fs) n ≡ count_loose fs n = touched_loose bucket same n fs in
    omega arith

-- The instance of the call on top, and the others.
abbrev pub left_at : ℕ → Instance → (Instance → Instance) → (ℕ → Instance) → ℕ → Instance
left_at at s change g k = cond (k == at) s (change (g k))

pub left_either : (at : ℕ) (s : Instance) (change : Instance → Instance) (g : ℕ → Instance) (k : ℕ)
    → ((k ≡ at) × (left_at at s change g k ≡ s)) ⊎ ((k ≢ at) × (left_at at s change g k ≡ change (g k)))
left_either at s change g k = elim (eqb_tells k at) [ inl p ↦ inl (p.1, rw (p.0) refl) | inr p ↦ inr (p.1, rw (p.0) refl) ]

-- The call on top changes as NamesStep says, and others only lose. So does the connection.
module _ (chain : List Program) (i : Instr) (f : Frame) (s : Configuration) (top rest : List Frame) (g : Common) (c : Connection)
    (is : c.stack ≡ f ∷ rest) (placed : f.of < places chain) (steps : NamesStep (configuration g c f) s) (loose : (n : ℕ) → count_loose top n ≤ count_named n s.call.loose) where
  -- the instances that are left
  left : ℕ → Instance
  left = left_at f.of s.instance (touched_instance (touched_var (configuration g c f) i)) c.instances

  counted_left : (n : ℕ) → sum_below (places chain) (λ k. count_at (left k) n) + count_at (c.instances f.of) n ≤ sum_below (places chain) (λ k. count_at (c.instances k) n) + count_at s.instance n
  unfolding left
  counted_left n =
      let but : sum_below (places chain) (λ k. count_at (left k) n) + count_at (c.instances f.of) n ≤ sum_below (places chain) (λ k. count_at (c.instances k) n) + count_at (left f.of) n =
      sum_below_but (places chain) f.of (λ k. count_at (c.instances k) n) (λ k. count_at (left k) n) placed (λ k ne. others k ne) in
      let here : count_at (left f.of) n ≡ count_at s.instance n = elim (left_either f.of s.instance (touched_instance (touched_var (configuration g c f) i)) c.instances f.of) [
        | inl p ↦ ap (λ x. count_at x n) p.1
        | inr p ↦ absurd (p.0 refl)
      ] in
      omega arith
    where
      others : (k : ℕ) → k ≢ f.of → count_at (left k) n ≤ count_at (c.instances k) n
      others k ne = elim (left_either f.of s.instance (touched_instance (touched_var (configuration g c f) i)) c.instances k) [
        | inl p ↦ absurd (ne p.0)
        | inr p ↦ subst (λ x. count_at x n ≤ count_at (c.instances k) n) (sym p.1) (touched_at (touched_var (configuration g c f) i) (touched_fewer (configuration g c f) i) (c.instances k) n)
      ]

  -- the buckets of a name, against those that the call on top had and has
  pub put_back_counted : (n : ℕ) → count_in chain (put_back i f s top rest (g, c)).1 n + count (configuration g c f) n ≤ count_in chain c n + count s n
  unfolding put_back count_in left configuration count_loose
  put_back_counted n =
      let instances = counted_left n in
      let stack : count_loose (top ++ map (touched_frame (touched_bucket (configuration g c f) i)) rest) n ≡ count_loose top n + count_loose
      (map (touched_frame (touched_bucket (configuration g c f) i)) rest) n = loose_append n top (map (touched_frame (touched_bucket (configuration g c f) i)) rest) in
      let waiting : count_loose (map (touched_frame (touched_bucket (configuration g c f) i)) rest) n ≡ count_loose rest n =
      touched_loose (touched_bucket (configuration g c f) i) (touched_named (configuration g c f) i) n rest in
      let old : count_loose c.stack n ≡ count_named n f.call.loose + count_loose rest n = ap (λ (fs : List Frame). count_loose fs n) is in
      let new : count_loose top n ≤ count_named n s.call.loose = loose n in
      omega arith

  named_left : (k b n : ℕ) → brigade_name ((left k).brigades b) ≡ Some n → (brigade_name ((c.instances k).brigades b) ≡ Some n) ⊎ ((k ≡ f.of) × (brigade_name (s.instance.brigades b) ≡ Some n))
  unfolding left
  named_left k b n h = elim (left_either f.of s.instance (touched_instance (touched_var (configuration g c f) i)) c.instances k) [
    | inl p ↦ inr (p.0, subst (λ (x : Instance). brigade_name (x.brigades b) ≡ Some n) p.1 h)
    | inr p ↦ inl ((touched_fewer (configuration g c f) i ((c.instances k).brigades b)).carried.name n (subst (λ (x : Instance). brigade_name (x.brigades b) ≡ Some n) p.1 h))
  ]

  pub put_back_names : ChainNamesStep chain g c (put_back i f s top rest (g, c)).0 (put_back i f s top rest (g, c)).1
  unfolding put_back left configuration
  put_back_names = record {
    rises = steps.rises;
    limit = steps.limit;
    old = λ n lt. (let few = put_back_counted n in let h : count s n ≤ count (configuration g c f) n = steps.old n lt in omega arith);
    born = λ n le none. (let few = put_back_counted n in let h : count s n ≤ 1 = steps.born n le (unseen n none) in omega arith);
    fresh = λ n le none. (let few = put_back_counted n in let h : count s n ≡ 0 = steps.fresh n le (unseen n none) in omega arith);
    named = λ k b n h. elim (named_left k b n h) [
      | inl was ↦ inl was
      | inr here ↦ elim (steps.named b n here.1) [
        | inl was ↦ inl (subst (λ (m : ℕ). brigade_name ((c.instances m).brigades b) ≡ Some n) (sym here.0) was)
        | inr made ↦ inr made
      ]
    ];
    apart = λ j k b d n hb hd. elim (named_left j b n hb) [
      | inl was ↦ inl was
      | inr first ↦ elim (named_left k d n hd) [
        | inl was ↦ inr (inl was)
        | inr second ↦ elim (steps.apart b d n first.1 second.1) [
          | inl was ↦ inl (subst (λ (m : ℕ). brigade_name ((c.instances m).brigades b) ≡ Some n) (sym first.0) was)
          | inr other ↦ elim other [
            | inl was ↦ inr (inl (subst (λ (m : ℕ). brigade_name ((c.instances m).brigades d) ≡ Some n) (sym second.0) was))
            | inr one ↦ inr (inr (first.0 ∙ sym second.0, one))
          ]
        ]
      ]
    ];
    slots = λ k b le none. elim (left_either f.of s.instance (touched_instance (touched_var (configuration g c f) i)) c.instances k) [
      | inl p ↦ ap (λ (x : Instance). x.brigades b) p.1 ∙ steps.slots b le (subst (λ (m : ℕ). (c.instances m).brigades b ≡ var.Null) p.0 none)
      | inr p ↦ ap (λ (x : Instance). x.brigades b) p.1 ∙ (touched_fewer (configuration g c f) i ((c.instances k).brigades b)).carried.null none
    ];
  } where
    unseen : (n : ℕ) → count_in chain c n ≡ 0 → count (configuration g c f) n ≡ 0
    unseen n none =
        let all : count (configuration g c f) n ≤ count_in chain c n =
        count_within chain g c f n placed (subst (λ (fs : List Frame). count_named n f.call.loose ≤ count_loose fs n) (sym is) (loose_within n [] f rest)) in
        omega arith
