-- What is true of the content of each bucket stays so: instructions on pools and brigades move buckets and drop them, and
-- change no content.
use Rattle.std.proofs.Common.{◌≡◌, ℕ, Bool, true, false, List, Some}
use Rattle.module_code.specs.declared.instr.Instr.{Instr}
use Rattle.module_code.specs.Program.{Program}
use Rattle.run_model.specs.declared.bucket.Kind.{Kind}
use Rattle.run_model.specs.declared.bucket.Kind.TheVariants as kind
use Rattle.run_model.specs.declared.bucket.Content.{Content}
use Rattle.run_model.specs.declared.bucket.Content.TheVariants as content
use Rattle.run_model.specs.declared.bucket.Home.{Home}
use Rattle.run_model.specs.declared.bucket.Bucket.{Bucket}
use Rattle.run_model.specs.Cutting.{set_aside}
use Rattle.run_model.specs.State.{Configuration}
use Rattle.run_model.specs.BucketSteps.{read_given}
use Rattle.run_model.specs.Steps.{Choice, step, is_above}
use Rattle.model_laws.proofs.Origins.{PassesParts, Holds, IsMade, IsNewContent, parts_descend}
use Rattle.model_laws.proofs.EachStep.{each_step}

module _ (C : Content → Type 0) where
  abbrev Of : Bucket → Type 0
  Of b = C b.content

  -- a bucket that is set aside has the same content
  aside_parts : (target : ℕ) (above : Bool) (k : Kind) (c : Content) (h : Home) → C c → Of (set_aside target above (record { kind = k; content = c; home = h }))
  aside_parts target true kind.File c h e = e
  aside_parts target false kind.File c h e = e
  aside_parts target above k c h e = e

  pub step_contents : (p : Program) (choice : Choice) (i : Instr) (r : Configuration) → PassesParts Of → ((b : Bucket) → IsMade r b → IsNewContent p r b.content → Of b)
      → ((c : Content) (bytes : List ℕ) → read_given choice.given c ≡ Some bytes → C (content.Bytes bytes)) → Holds Of r → Holds Of (step p choice i r).state
  step_contents p choice i r on made reads h = each_step (λ x. Of x.bucket) r h p choice i (record {
    descends = parts_descend Of r.shared.next on;
    made = made;
    reads = λ c bytes is x old. reads c bytes is;
    cleared = λ reached x e. e;
    aside = λ ps target x e. aside_parts target (is_above ps target x.bucket.home) x.bucket.kind x.bucket.content x.bucket.home e;
    returned = λ on x e. e;
  })
