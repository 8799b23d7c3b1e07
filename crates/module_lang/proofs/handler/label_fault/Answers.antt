-- A name that the set had before is a label that stands before.
use Rattle.std.proofs.Common.{◌≡◌, ◌<◌, ◌+◌, not, List, [], ◌∷◌, ◌++◌, take, drop, get_or, subst, sym, ap, ◌∙◌, arith, append_assoc}
use Rattle.std.proofs.lemmas.List.{take_more}
use Rattle.std.proofs.lemmas.List.Elements.{All-push}
use Rattle.std.specs.Prelude.{All}
use Rattle.module_lang.proofs.HandlerLaws.{seen_more, named_before, fault_doubled, fault_lost, fault_on}
use Rattle.module_lang.specs.Handlers.{IsSeen, is_named, label_fault}
use Rattle.module_lang.specs.declared.draft.Label.{Label}
use Rattle.module_lang.proofs.handler.label_fault.Goals as goal
use Rattle.module_lang.proofs.handler.label_fault.Goals.{In_ok-insert}

abbrev blank : Label
blank = record { line = 0; name = []; place = 0 }

-- whether the name of this label stands before, as the set tells
named : (c : In_ok-insert) (before : List Label) → IsSeen c.loop-label.seen (before ++ take c.loop-label.label-index c.args.labels.now)
    → is_named (get_or c.args.labels.now c.loop-label.label-index blank).name (before ++ take c.loop-label.label-index c.args.labels.now) ≡ not c.in_ok-insert.field-0
named c before seen =
    let i = c.loop-label.label-index in
    named_before c.loop-label.seen (before ++ take i c.args.labels.now) (get_or c.args.labels.now i blank).name c.in_ok-insert.field-0 seen c.in_ok-insert.ensures.added

pub returns-then-not-branch-clause-fault : goal.returns-then-not-branch-clause-fault
returns-then-not-branch-clause-fault c = λ before h.
    let i = c.loop-label.label-index in
    let inv = c.loop-label.invariant.1 before h in
    let is = named (goal.at.returns-then-not-branch-clause-fault c).In_ok-insert before inv.0 ∙ ap not c.if-not-branch.true in
    sym (fault_doubled (before ++ take i c.args.labels.now) c.args.labels.now c.args.count i blank (omega arith) is) ∙ inv.1

pub returns-then-count-label-clause-fault : goal.returns-then-count-label-clause-fault
returns-then-count-label-clause-fault c = λ before h.
    let i = c.loop-label.label-index in
    let inv = c.loop-label.invariant.1 before h in
    let is = named (goal.at.returns-then-count-label-clause-fault c).In_ok-insert before inv.0 ∙ ap not c.if-not-branch.false in
    sym (fault_lost (before ++ take i c.args.labels.now) c.args.labels.now c.args.count i blank (omega arith) is c.if-count-label.true) ∙ inv.1

pub loop-label-preserved : goal.loop-label-preserved
loop-label-preserved c =
    let d = blank in
    let i = c.loop-label.label-index in
    let ls = c.args.labels.now in
    let one = take_more ls i d (omega arith) in (
      subst (λ xs. All (λ x. x.place < c.args.count) xs) (sym one) (All-push (λ x. x.place < c.args.count) (take i ls) (get_or ls i d) c.loop-label.invariant.0 c.if-count-label.false),
      λ before h.
          let inv = c.loop-label.invariant.1 before h in
          let named = named (goal.at.loop-label-preserved c).In_ok-insert before inv.0 ∙ ap not c.if-not-branch.false in
          let on = fault_on (before ++ take i ls) ls c.args.count i d (omega arith) named c.if-count-label.false in
          let more : before ++ take (i + 1) ls ≡ (before ++ take i ls) ++ get_or ls i d ∷ [] =
          ap (λ xs. before ++ xs) (take_more ls i d (omega arith)) ∙ sym (append_assoc before (take i ls) (get_or ls i d ∷ [])) in
          let seen = seen_more c.loop-label.seen c.insert.new.self (before ++ take i ls) (get_or ls i d) inv.0 c.in_ok-insert.ensures.updates in
          (subst (λ xs. IsSeen c.insert.new.self xs) (sym more) seen, ap (λ xs. label_fault xs c.args.count (drop (i + 1) ls)) more ∙ sym on ∙ inv.1),
    )
