-- What a connection's filters see over the tree of its world lies in its part.
use Rattle.std.proofs.Common.{◌≡◌, ◌≢◌, ℕ, ◌<◌, ◌==◌, true, List, [], Some, is_some, inl, inr, refl, sym, ◌∙◌, ap, subst, arith}
use Rattle.std.specs.List.{list_any}
use Rattle.std.proofs.lemmas.Bool.{both_ways}
use Rattle.module_code.specs.Program.{Program}
use Rattle.run_model.specs.declared.bucket.PoolVar.TheVariants as poolvar
use Rattle.run_model.specs.declared.payload.Payload.{Payload}
use Rattle.run_model.specs.Holding.{refers}
use Rattle.run_model.specs.Payloads.{is_file_ref}
use Rattle.run_model.specs.Pools.{Pools, is_in, is_live, is_under}
use Rattle.run_model.specs.Chains.{Connection, Frame, configuration, module_at, pools_of}
use Rattle.run_model.specs.Sound.{brigade_pool, SoundPools}
use Rattle.run_model.specs.Worlds.{World, tree_of}
use Rattle.model_laws.specs.ChainNumbers.{WorldNumbers}
use Rattle.model_laws.specs.ChainFiles.{WorldFiles, WorldFilesApart}
use Rattle.model_laws.specs.ChainPaths.{WorldPaths}
use Rattle.model_laws.specs.ChainSound.{WorldSound}
use Rattle.model_laws.specs.ChainTrees.{is_own, WorldPoolsApart}
use Rattle.model_laws.specs.Parts.{is_top, HasPart}
use Rattle.model_laws.specs.PartSteps.{OwnFiles}
use Rattle.model_laws.specs.SharedPools.{LiesOver, over}
use Rattle.model_laws.specs.SharedTree.{ReachedLiesOver}
use Rattle.run_model.proofs.PoolMap.{live_path}
use Rattle.run_model.proofs.References.{or_right, held_refers}
use Rattle.model_laws.proofs.NamedPools.{made_is}
use Rattle.model_laws.proofs.parts.Paths.{top_apart}
use Rattle.model_laws.proofs.chains.BareRoot.{brigade_newer}
use Rattle.model_laws.proofs.chains.PoolsApart.{run_keeps_pools_apart}
use Rattle.model_laws.proofs.chains.PutBack.{looking}
use Rattle.model_laws.proofs.chains.Reached.{reached_holds}
use Rattle.model_laws.proofs.chains.TreeParts.{in_all, its_part, own_conn, same_conn, through_own, top_in, tree}
use Rattle.model_laws.proofs.chains.Trees.{TreeGrown, StandsBelow}

module _ (chain : List Program) (w : World) (sound : WorldSound chain w) (numbers : WorldNumbers w) (paths : WorldPaths w) (h : WorldPoolsApart w) (files : WorldFiles w) (apart : WorldFilesApart w)
    (k : ℕ) (c : Connection) (at : w.conns k ≡ Some c) where
  abbrev whole : Pools Payload
  whole = pools_of w.common (over (tree_of w) c)

  grown_whole : TreeGrown chain w sound paths h w.last
  grown_whole = tree chain w sound numbers paths h

  has : HasPart whole c.conn
  has = subst (λ (n : ℕ). HasPart (record (tree_of w) { next = n }) c.conn) grown_whole.next (top_in chain w sound numbers paths h k c at)

  -- its own pools stand under its pool
  own_under : (n : ℕ) → is_own c n ≡ true → is_under whole c.conn n ≡ true
  unfolding is_under
  own_under n own = ap (is_in c.conn) (in_all chain w sound numbers paths h k n c at own).path ∙ own

  -- and so does what is another's, if that is the same connection
  same_under : (n : ℕ) (s : StandsBelow chain w sound paths h w.last n) → k ≡ s.number → is_under whole c.conn n ≡ true
  same_under n s same = own_under n (subst (λ (x : Connection). is_own x n ≡ true) (same_conn s.conn c (sym s.there ∙ ap w.conns (sym same) ∙ at)) s.own)

  root_older : w.common.root < c.conn
  root_older = (paths k c at).newer

  seen_sound : (f : Frame) → SoundPools (configuration w.common c f)
  seen_sound f = (sound.conns k c at).pools.sound f

  request_under : (n : ℕ) → c.req ≡ Some n → is_under whole c.conn n ≡ true
  unfolding configuration
  request_under n is = own_under n (ap (is_in c.conn) ((seen_sound (looking 0)).req n is).0 ∙ or_right (n == c.conn) (is_in c.conn (c.path c.conn)) (own_conn chain w sound numbers paths h k c at))

  -- a variable names no pool of others
  named_under : (i q n : ℕ) → (c.instances i).pools q ≡ poolvar.Made n → is_live whole n ≡ true → is_under whole c.conn n ≡ true
  unfolding configuration is_live
  named_under i q n made live = elim (grown_whole.from n (live_path whole n live)) [
    | inl root ↦ absurd (let newer = ((seen_sound (looking i)).own q n made).0 in let older = root_older in omega (arith, root))
    | inr s ↦ same_under n s (h.named k s.number i q n c s.conn at s.there made s.own)
  ]

  brigade_under : (f : Frame) (b n : ℕ) → brigade_pool ((c.instances f.of).brigades b) ≡ Some n → is_under whole c.conn n ≡ true
  unfolding configuration is_under
  brigade_under f b n is = elim ((paths k c at).pools n ((seen_sound f).brigades b n is)) [
    | inl root ↦ absurd (let newer = brigade_newer (module_at chain f.of) (configuration w.common c f) (seen_sound f) ((sound.conns k c at).pools.declared f) b n
        (made_is ((c.instances f.of).brigades b) ∙ is) in let older = root_older in omega (arith, root))
    | inr own ↦ own_under n own
  ]

  -- A file to which one of its pools refers is open there, and so on no other connection.

  none_held : (file : ℕ) → list_any (is_file_ref file) [] ≡ true → ⊥
  none_held file there = cc

  held_there : (q file : ℕ) → refers whole q file ≡ true → whole.path q ≢ []
  held_there q file there none = none_held file (ap (held_refers file) (sym (grown_whole.formed.bare q none)) ∙ there)

  opened_by : (j q file : ℕ) (d : Connection) → w.conns j ≡ Some d → is_own d q ≡ true → refers whole q file ≡ true → is_some (d.opened file) ≡ true
  opened_by j q file d there own holds = (files j d there).lasts q file (ap (held_refers file) (sym (in_all chain w sound numbers paths h j q d there own).payloads) ∙ holds)

  -- the root stands under no connection's pool
  not_root : (p : ℕ) → is_under whole c.conn p ≡ true → p ≢ w.common.root
  unfolding is_under
  not_root p under root = both_ways (is_top (whole.path p)) (top_apart whole c.conn p has under) (ap (λ (n : ℕ). is_top (whole.path n)) root ∙ ap is_top grown_whole.root)

  own_files : OwnFiles c.conn whole
  unfolding is_under
  own_files = record {
    apart = λ p q file under here there. elim (grown_whole.from q (held_there q file there)) [
      | inl root ↦ absurd (none_held file (ap (held_refers file) (sym (ap (tree_of w).payloads root ∙ grown_whole.bare)) ∙ there))
      | inr s ↦ same_under q s (apart.own k s.number file c s.conn at s.there (opened_by k p file c at (mine p under) here) (opened_by s.number q file s.conn s.there s.own there))
    ];
  } where
    mine : (p : ℕ) → is_under whole c.conn p ≡ true → is_own c p ≡ true
    mine p under = through_own chain w sound numbers paths h k c at p (not_root p under) under

  pub lies_over : LiesOver (tree_of w) w.common c
  unfolding configuration is_under
  lies_over = record {
    part = its_part chain w sound numbers paths h k c at;
    next = grown_whole.next;
    lies = λ f. record {
      has = has;
      conn = refl;
      req = λ n is live. request_under n is;
      own = λ q n made live. named_under f.of q n made live;
      brigades = λ b n is. brigade_under f b n is;
      files = own_files;
    };
    request = request_under;
  }

pub reached_lies_over : ReachedLiesOver
reached_lies_over budget chain w k c chained r at =
    let laws = reached_holds budget chain w chained r in
    lies_over chain w laws.sound laws.numbers laws.paths (run_keeps_pools_apart budget chain r.events r.answers w chained r.run) laws.files laws.apart k c at
