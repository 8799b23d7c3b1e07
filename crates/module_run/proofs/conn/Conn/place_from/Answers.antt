-- By the filter that is looked at.
use Rattle.std.proofs.Common.{◌≡◌, ◌<◌, ◌≤◌, max, length, inl, inr, sym, ◌∙◌, arith}
use Rattle.module_run.proofs.HandsOn.{cases_le}
use Rattle.module_run.proofs.Looked.{read_filter}
use Rattle.module_run.proofs.Places.{place_behind, place_here, place_past}
use Rattle.module_run.proofs.conn.Conn.place_from.Goals as goal

pub loop-k-preserved : goal.loop-k-preserved
loop-k-preserved c rings =
    let chain = c.args.modules.now in
    let self = c.args.self.now in
    let k = c.loop-k.k in
    let within : k < length chain = c.loop-k-test.true in
    let many = c.requires.many in
    let read = read_filter self k c.index.result.now (omega (arith, within, many)) c.index.ensures in
    sym (place_behind chain rings self k c.index.result.now read within c.if-not-index.false) ∙ c.loop-k.invariant rings

pub returns-then-not-index : goal.returns-then-not-index
returns-then-not-index c rings =
    let chain = c.args.modules.now in
    let self = c.args.self.now in
    let k = c.loop-k.k in
    let within : k < length chain = c.loop-k-test.true in
    let many = c.requires.many in
    let read = read_filter self k c.index.result.now (omega (arith, within, many)) c.index.ensures in
    sym (place_here chain rings self k c.index.result.now read within c.if-not-index.true) ∙ c.loop-k.invariant rings

pub returns : goal.returns
returns c rings =
    let chain = c.args.modules.now in
    let self = c.args.self.now in
    let from = c.args.from in
    let k = c.loop-k.k in
    let past : length chain ≤ k = c.loop-k-test.false in
    let low = c.loop-k.auto.k-end in
    c.max.ensures
    ∙ (elim (cases_le from (length chain)) [
      | inl le ↦ (let same : max from (length chain) ≡ k = omega (arith, le, past, low le) in same ∙ (sym (place_past chain rings self k past) ∙ c.loop-k.invariant rings))
      | inr lt ↦ (let same : max from (length chain) ≡ from = omega (arith, lt) in same ∙ sym (place_past chain rings self from (omega (arith, lt))))
    ])
