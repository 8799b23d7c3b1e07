-- By whether the method is served, and whether it is known.
use Rattle.std.proofs.Common.{◌≡◌, ℕ, Bool, true, false, List, Some, None, if◌then◌else◌, refl, ap, ap₂, ◌∙◌}
use Rattle.http_message.specs.Asking.{is_served, is_known, method_of, method_refusal}
use Rattle.http_message.specs.declared.status.StatusCode.TheVariants.{MethodNotAllowed, NotImplemented}
use Rattle.http_message.proofs.asks.method_refusal.Goals as goal

refused : (method : List ℕ) (served known : Bool) → served ≡ is_served (method_of method) → known ≡ is_known method
    → (if served then None else (if known then Some MethodNotAllowed else Some NotImplemented)) ≡ method_refusal method
unfolding method_refusal
refused method served known s k = ap₂ (λ (x y : Bool). if x then None else (if y then Some MethodNotAllowed else Some NotImplemented)) s k

pub returns-then-is_served : goal.returns-then-is_served
returns-then-is_served c =
    refused c.args.method.now true (is_known c.args.method.now) (c.if-is_served.ensures ∙ ap is_served c.of.ensures) refl

pub returns-then-is_known : goal.returns-then-is_known
returns-then-is_known c =
    refused c.args.method.now false true (c.if-is_served.ensures ∙ ap is_served c.of.ensures) c.if-is_known.ensures

pub returns : goal.returns
returns c = refused c.args.method.now false false (c.if-is_served.ensures ∙ ap is_served c.of.ensures) c.if-is_known.ensures
