-- What reads give in a chain: all bytes of a range, and to the call on top those of its file.
use Rattle.std.proofs.Common.{◌≡◌, ℕ, zero, suc, ◌+◌, ◌-◌, ◌*◌, ◌/◌, ◌<◌, ◌≤◌, Bool, true, cond, List, [], ◌∷◌, length, map, take, drop, Option, Some, refl, sym, ◌∙◌, ap, subst, arith, eq-eqb}
use Rattle.std.proofs.lemmas.List.{drop-drop, length-drop, take-append-drop}
use Rattle.module_code.specs.declared.instr.Instr.{Instr}
use Rattle.module_code.specs.declared.instr.Instr.TheVariants as instr
use Rattle.run_model.specs.declared.event.Exit.{Exit}
use Rattle.run_model.specs.Cutting.{read_limit}
use Rattle.run_model.specs.Files.{parts_of}
use Rattle.run_model.specs.State.{items_of}
use Rattle.run_model.specs.BrigadeLists.{all_bytes}
use Rattle.run_model.specs.Steps.{Choice, Outcome, answer_to, step}
use Rattle.run_model.specs.Chains.{Frame, module_at, configuration, touched_var, touched_bucket, touched_instance, touched_frame, led_to, put_back, stepped_in}
use Rattle.run_model.specs.Passing.{Reads, taken_whole, and_taken, unless_unread, parts_taken, proceeds}
use Rattle.model_laws.specs.ChainBodies.{ReadsGiveTheFile, ReadsOnTop, TopReadGivesTheFile}
use Rattle.model_laws.proofs.BucketReads.{step_read_gives_the_file}

-- A range, in so many parts.

in_parts : (parts k : ℕ) (bytes : List ℕ) (reads : Reads) → length bytes ≤ parts * read_limit → ((j : ℕ) → j < parts → reads (k + j) ≡ Some (take read_limit (drop (j * read_limit) bytes)))
    → parts_taken parts k reads ≡ taken_whole bytes (k + parts)
unfolding parts_taken
in_parts zero k [] reads few told = (let same : k ≡ k + 0 = omega arith in ap (λ (n : ℕ). taken_whole [] n) same)
in_parts zero k (b ∷ bytes) reads few told = absurd (omega (arith, few))
in_parts (suc parts) k bytes reads few told =
    let front : List ℕ = take read_limit bytes in
    let back : List ℕ = drop read_limit bytes in
    let at : k + 0 ≡ k = omega arith in
    let first : reads k ≡ Some front = ap reads (sym at) ∙ told 0 (omega arith) in
    let fewer : length back ≤ parts * read_limit = omega (arith, few, length-drop read_limit bytes) in
    let rest : parts_taken parts (k + 1) reads ≡ taken_whole back ((k + 1) + parts) = in_parts parts (k + 1) back reads fewer later in
    let count : (k + 1) + parts ≡ k + suc parts = omega arith in
    ap (λ (o : Option (List ℕ)). unless_unread o k (parts_taken parts (k + 1) reads)) first
    ∙ (ap (and_taken front) rest
    ∙ (ap (λ (bs : List ℕ). taken_whole bs ((k + 1) + parts)) (take-append-drop read_limit bytes) ∙ ap (λ (n : ℕ). taken_whole bytes n) count)) where
      later : (j : ℕ) → j < parts → reads ((k + 1) + j) ≡ Some (take read_limit (drop (j * read_limit) (drop read_limit bytes)))
      later j lt =
          let here : (k + 1) + j ≡ k + suc j = omega arith in
          let place : suc j * read_limit ≡ read_limit + j * read_limit = omega arith in
          ap reads here ∙ (told (suc j) (omega (arith, lt))
          ∙ (ap (λ (n : ℕ). Some (take read_limit (drop n bytes))) place ∙ ap (λ (bs : List ℕ). Some (take read_limit bs)) (sym (drop-drop (j * read_limit) read_limit bytes))))

pub reads_give_the_file : ReadsGiveTheFile
reads_give_the_file k bytes reads told = in_parts (parts_of (length bytes)) k bytes reads (enough (length bytes)) told where
  enough : (len : ℕ) → len ≤ ((len + (read_limit - 1)) / read_limit) * read_limit
  enough len = omega arith

-- The call on top.

pub top_read_gives_the_file : TopReadGivesTheFile
unfolding proceeds stepped_in put_back configuration
top_read_gives_the_file chain reads g c f rest file cur l b x is at told =
    subst (λ (i : Instr). ReadsOnTop file b f c (proceeds chain reads i f rest (g, c)).1.1) (sym is) went where
      choice : Choice
      choice = record { answer = answer_to true; given = reads 0 }

      o : Outcome
      o = step (module_at chain f.of) choice (instr.Read cur l) (configuration g c f)

      went : ReadsOnTop file b f c (proceeds chain reads (instr.Read cur l) f rest (g, c)).1.1
      went =
          let left = step_read_gives_the_file (module_at chain f.of) choice file cur l b x (configuration g c f) at told in
          record {
            call = o.state.call;
            below = map (touched_frame (touched_bucket (configuration g c f) (instr.Read cur l))) rest;
            next = ap (λ (e : Exit). (let w : Frame = record { of = f.of; call = o.state.call; pc = led_to e (instr.Read cur l) f.pc } in w) ∷ map
                (touched_frame (touched_bucket (configuration g c f) (instr.Read cur l))) rest) left.exit;
            bytes = ap (λ (t : Bool). all_bytes file (items_of ((cond t o.state.instance (touched_instance (touched_var (configuration g c f) (instr.Read cur l)) (c.instances f.of))).brigades b)))
                (eq-eqb f.of f.of refl) ∙ left.bytes;
          }
