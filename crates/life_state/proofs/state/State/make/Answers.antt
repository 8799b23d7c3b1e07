-- By what it is made from.
use Rattle.std.proofs.Common.{◌≡◌, ap, ap₂, ◌∙◌, inl, inr, sym}
use Rattle.life_state.specs.declared.parts.Classes.{Classes}
use Rattle.life_state.specs.States.{Homes, State, no_homes}
use Rattle.life_state.specs.Rules.{only_bytes, only_flush, only_eos, classes_of, homes_at, made, after_make}
use Rattle.life_state.specs.Seen.{seen}
use Rattle.run_model.specs.declared.effect.MadeFrom.{MadeFrom}
use Rattle.life_state.proofs.state.State.make.Goals as goal

pub returns-in-HeapText : goal.returns-in-HeapText
returns-in-HeapText c =
    let of : MadeFrom → State = λ x. after_make c.args.c x (seen c.args.self) in
    let so : seen c.made.result ≡ made c.args.c only_bytes no_homes (seen c.args.self) = c.made.ensures ∙ ap (λ (h : Homes). made c.args.c only_bytes h (seen c.args.self)) c.none.ensures in
    elim c.in-HeapText.is [
      | inl x ↦ so ∙ sym (ap of x.1)
      | inr x ↦ elim x [ inl x ↦ so ∙ sym (ap of x.1) | inr x ↦ elim x [ inl x ↦ so ∙ sym (ap of x) | inr x ↦ so ∙ sym (ap of x.1) ] ]
    ]

pub returns-in-TransientBuffer : goal.returns-in-TransientBuffer
returns-in-TransientBuffer c =
    let s = seen c.args.self in
    c.made-in-TransientBuffer.ensures
    ∙ (ap (λ (h : Homes). made c.args.c only_bytes h s) c.only_call.ensures ∙ sym (ap (λ (x : MadeFrom). after_make c.args.c x s) c.in-TransientBuffer.is))

pub returns-in-FlushBucket : goal.returns-in-FlushBucket
returns-in-FlushBucket c =
    let s = seen c.args.self in
    c.made-in-FlushBucket.ensures
    ∙ (ap (λ (h : Homes). made c.args.c only_flush h s) c.none-in-FlushBucket.ensures ∙ sym (ap (λ (x : MadeFrom). after_make c.args.c x s) c.in-FlushBucket.is))

pub returns-in-EosBucket : goal.returns-in-EosBucket
returns-in-EosBucket c =
    let s = seen c.args.self in
    c.made-in-EosBucket.ensures
    ∙ (ap (λ (h : Homes). made c.args.c only_eos h s) c.none-in-EosBucket.ensures ∙ sym (ap (λ (x : MadeFrom). after_make c.args.c x s) c.in-EosBucket.is))

pub returns-in-CopyAt : goal.returns-in-CopyAt
returns-in-CopyAt c =
    let s = seen c.args.self in
    let classes = c.classes.ensures ∙ ap classes_of c.cursor-cursor.ensures in
    let homes = c.homes_at.ensures ∙ ap (homes_at s) c.cursor-cursor.ensures in
    c.made-in-CopyAt.ensures
    ∙ (ap₂ (λ (k : Classes) (h : Homes). made c.args.c k h s) classes homes ∙ sym (ap (λ (x : MadeFrom). after_make c.args.c x s) c.in-CopyAt.is))
