-- What each line adds.
use Rattle.std.proofs.Common.{◌≡◌, ◌-◌, ◌+◌, ◌++◌, ◌∷◌, [], ℕ, Bool, true, false, length, replicate, refl, sym, ap, subst, ◌∙◌, arith}
use Rattle.byte_text.specs.Bytes.{after_token}
use Rattle.life_state.specs.Seen.{seen, seen_some}
use Rattle.life_cert.specs.declared.draft.CertDraft.{CertDraft}
use Rattle.life_cert.specs.declared.due.Due.TheVariants as due
use Rattle.life_cert.specs.declared.due.CertLine.TheVariants as line
use Rattle.life_cert.specs.CertText.{is_two}
use Rattle.life_cert.specs.Reading.{due_after}
use Rattle.life_cert.specs.StateSums.{state_sum}
use Rattle.life_cert.specs.Drafts.{IsCertDraft, IsLineAdded, begun_version, seen_draft, told_so_far, with_count, with_vars}
use Rattle.life_cert.proofs.DraftLaws.{IsAdded, added, count_text, counts_at, end_text, found, header_text, idle_text, names_at, none_so_far, pc_states, pc_text, ready_text, vars_text}
use Rattle.life_cert.proofs.DraftSteps.{count_draft, header_draft, pc_draft, two_counted, vars_draft}
use Rattle.life_cert.proofs.OneState.{one_state}
use Rattle.life_cert.proofs.SaidLaws.{is_said}
use Rattle.life_cert.proofs.draft.CertDraft.add.Goals as goal

begun_two : (b : Bool) → is_two (begun_version b) ≡ b
begun_two true = refl
begun_two false = refl

pub add_state-requires-clause-after : goal.add_state-requires-clause-after
add_state-requires-clause-after c =
    let f = found c.args.self.now.due c.args.bytes.now (line.Instruction c.in-Instruction.pc) (rw c.in-Instruction.is at c.requires.due) in
    let n = counts_at c.args.self.now (due.States f.0) c.requires.draft f.1.0 in
    omega (arith, n.0, f.1.1)

pub add_state-requires-clause-few : goal.add_state-requires-clause-few
add_state-requires-clause-few c = (found c.args.self.now.due c.args.bytes.now (line.Instruction c.in-Instruction.pc) (rw c.in-Instruction.is at c.requires.due)).1.2

pub returns-in-Header-clause-added : goal.returns-in-Header-clause-added
returns-in-Header-clause-added c =
    let d = c.args.self.now in
    let two = c.in-Header.two in
    let slim = c.in-Header.slim in
    let e : CertDraft = record d { due = due_after (line.Header two slim); version = begun_version two; slim = slim } in
    let is = rw c.in-Header.is at c.requires.due in
    let f = found d.due c.args.bytes.now (line.Header two slim) is in
    let none = counts_at d due.Header c.requires.draft f.0 in
    subst (λ (x : CertDraft). IsLineAdded d c.args.bytes.now x) (sym c.add_header.ensures)
    (added d c.args.bytes.now e (line.Header two slim) c.requires.printable is tt refl (begun_two two)
    (none_so_far (is_two e.version) (seen_draft e) none ∙ sym (none_so_far (is_two d.version) (seen_draft d) none)) (header_text d c.args.bytes.now two slim (seen_draft e) f.0 f.1))

pub returns-in-Header-clause-draft : goal.returns-in-Header-clause-draft
returns-in-Header-clause-draft c =
    let f = found c.args.self.now.due c.args.bytes.now (line.Header c.in-Header.two c.in-Header.slim) (rw c.in-Header.is at c.requires.due) in
    subst IsCertDraft (sym c.add_header.ensures) (header_draft c.args.self.now c.in-Header.two c.in-Header.slim c.requires.draft f.0)

pub returns-in-Vars-clause-added : goal.returns-in-Vars-clause-added
returns-in-Vars-clause-added c =
    let d = c.args.self.now in
    let p = c.in-Vars.pools in
    let b = c.in-Vars.brigades in
    let e : CertDraft = record d { due = due.Code; version = with_vars p b } in
    let is = rw c.in-Vars.is at c.requires.due in
    let f = found d.due c.args.bytes.now (line.Vars p b) is in
    let two = names_at d due.Vars c.requires.draft f.0 in
    subst (λ (x : CertDraft). IsLineAdded d c.args.bytes.now x) (sym c.add_vars.ensures)
    (added d c.args.bytes.now e (line.Vars p b) c.requires.printable is tt refl (sym two) (ap (λ (x : Bool). told_so_far x (seen_draft d)) (sym two))
    (vars_text d c.args.bytes.now p b (seen_draft e) f.0 two f.3))

pub returns-in-Vars-clause-draft : goal.returns-in-Vars-clause-draft
returns-in-Vars-clause-draft c =
    let f = found c.args.self.now.due c.args.bytes.now (line.Vars c.in-Vars.pools c.in-Vars.brigades) (rw c.in-Vars.is at c.requires.due) in
    subst IsCertDraft (sym c.add_vars.ensures) (vars_draft c.args.self.now c.in-Vars.pools c.in-Vars.brigades c.requires.draft f.0 f.1 f.2)

pub returns-in-Code-clause-added : goal.returns-in-Code-clause-added
returns-in-Code-clause-added c =
    let d = c.args.self.now in
    let n = c.in-Code.count in
    let e : CertDraft = record d { due = due.Idle; version = with_count d.version n } in
    let is = rw c.in-Code.is at c.requires.due in
    let f = found d.due c.args.bytes.now (line.Code n) is in
    let two = names_at d due.Code c.requires.draft f.0 in
    subst (λ (x : CertDraft). IsLineAdded d c.args.bytes.now x) (sym c.add_count.ensures)
    (added d c.args.bytes.now e (line.Code n) c.requires.printable is tt refl (two_counted d.version n) (ap (λ (x : Bool). told_so_far x (seen_draft d)) (two_counted d.version n))
    (count_text d c.args.bytes.now n (seen_draft e) f.0 two f.3))

pub returns-in-Code-clause-draft : goal.returns-in-Code-clause-draft
returns-in-Code-clause-draft c =
    let f = found c.args.self.now.due c.args.bytes.now (line.Code c.in-Code.count) (rw c.in-Code.is at c.requires.due) in
    subst IsCertDraft (sym c.add_count.ensures) (count_draft c.args.self.now c.in-Code.count c.requires.draft f.0 f.1 f.2)

pub returns-in_ok-self-in-Idle-clause-added : goal.returns-in_ok-self-in-Idle-clause-added
returns-in_ok-self-in-Idle-clause-added c =
    let d = c.args.self.now in
    let e : CertDraft = record d { due = due.Ready; idle = c.in_ok-self-in-Idle.field-0 } in
    let is = rw c.in-Idle.is at c.requires.due in
    let f = found d.due c.args.bytes.now line.Idle is in
    let has = c.in_ok-self-in-Idle.ensures in
    added d c.args.bytes.now e line.Idle c.requires.printable is (seen_some c.in_ok-self-in-Idle.field-0, has) refl refl refl (idle_text d c.args.bytes.now (seen_draft e) f.0 f.1 has)

pub returns-in_ok-self-in-Idle-clause-draft : goal.returns-in_ok-self-in-Idle-clause-draft
returns-in_ok-self-in-Idle-clause-draft c =
    let h = c.requires.draft in
    let f = found c.args.self.now.due c.args.bytes.now line.Idle (rw c.in-Idle.is at c.requires.due) in
    let has = c.in_ok-self-in-Idle.ensures in
    record { idle = has.0; ready = h.ready; at = h.at; counts = counts_at c.args.self.now due.Idle h f.0; last = h.last; named = h.named; names = tt; empty = h.empty; summed = h.summed; sums = h.sums }

pub returns-in_ok-self-in-Ready-clause-added : goal.returns-in_ok-self-in-Ready-clause-added
returns-in_ok-self-in-Ready-clause-added c =
    let d = c.args.self.now in
    let e : CertDraft = record d { due = due.States 0; ready = c.in_ok-self-in-Ready.field-0 } in
    let is = rw c.in-Ready.is at c.requires.due in
    let f = found d.due c.args.bytes.now line.Ready is in
    let has = c.in_ok-self-in-Ready.ensures in
    added d c.args.bytes.now e line.Ready c.requires.printable is (seen_some c.in_ok-self-in-Ready.field-0, has) refl refl refl
    (ready_text d c.args.bytes.now (seen_draft e) f.0 f.1 has refl (counts_at d due.Ready c.requires.draft f.0))

pub returns-in_ok-self-in-Ready-clause-draft : goal.returns-in_ok-self-in-Ready-clause-draft
returns-in_ok-self-in-Ready-clause-draft c =
    let h = c.requires.draft in
    let f = found c.args.self.now.due c.args.bytes.now line.Ready (rw c.in-Ready.is at c.requires.due) in
    let has = c.in_ok-self-in-Ready.ensures in
    record {
      idle = h.idle;
      ready = has.0;
      at = h.at;
      counts = (counts_at c.args.self.now due.Ready h f.0, omega arith);
      last = h.last;
      named = h.named;
      names = tt;
      empty = h.empty;
      summed = h.summed;
      sums = h.sums;
    }

pub returns-in_ok-add_state-in-Instruction-clause-added : goal.returns-in_ok-add_state-in-Instruction-clause-added
returns-in_ok-add_state-in-Instruction-clause-added c =
    let d = c.args.self.now in
    let e = c.add_state.new.self in
    let pc = c.in-Instruction.pc in
    let s = c.in_ok-state-in-Instruction.state in
    let is = rw c.in-Instruction.is at c.requires.due in
    let f = found d.due c.args.bytes.now (line.Instruction pc) is in
    let n = counts_at d (due.States f.0) c.requires.draft f.1.0 in
    let says = c.in_ok-state-in-Instruction.ensures in
    let others = c.in_ok-add_state-in-Instruction.ensures.others in
    let a : IsAdded d e pc (pc - length d.at.items) s = record {
      version = ap (λ (x : CertDraft). x.version) others;
      slim = ap (λ (x : CertDraft). x.slim) others;
      idle = ap (λ (x : CertDraft). seen_some x.idle) others;
      ready = ap (λ (x : CertDraft). seen_some x.ready) others;
      items = c.in_ok-add_state-in-Instruction.ensures.items;
      long = omega (arith, n.0, f.1.1);
    } in
    let rest = after_token c.args.bytes.now in
    added d c.args.bytes.now e (line.Instruction pc) c.requires.printable is (is_said one_state (seen_draft d) c.requires.draft.at (is_two d.version) rest (seen s) says)
    (ap (λ (x : CertDraft). x.due) others) (ap is_two a.version) (pc_states d e pc (pc - length d.at.items) s a rest one_state c.requires.draft says)
    (pc_text d e pc (pc - length d.at.items) s a c.args.bytes.now f.0 f.1.0 f.1.3 says)

pub returns-in_ok-add_state-in-Instruction-clause-draft : goal.returns-in_ok-add_state-in-Instruction-clause-draft
returns-in_ok-add_state-in-Instruction-clause-draft c =
    let d = c.args.self.now in
    let e = c.add_state.new.self in
    let pc = c.in-Instruction.pc in
    let s = c.in_ok-state-in-Instruction.state in
    let f = found d.due c.args.bytes.now (line.Instruction pc) (rw c.in-Instruction.is at c.requires.due) in
    let n = counts_at d (due.States f.0) c.requires.draft f.1.0 in
    let says = c.in_ok-state-in-Instruction.ensures in
    let ensured = c.in_ok-add_state-in-Instruction.ensures in
    let others = ensured.others in
    let long : pc ≡ length d.at.items + (pc - length d.at.items) = omega (arith, n.0, f.1.1) in
    let a : IsAdded d e pc (pc - length d.at.items) s = record {
      version = ap (λ (x : CertDraft). x.version) others;
      slim = ap (λ (x : CertDraft). x.slim) others;
      idle = ap (λ (x : CertDraft). seen_some x.idle) others;
      ready = ap (λ (x : CertDraft). seen_some x.ready) others;
      items = ensured.items;
      long = long;
    } in
    pc_draft d e f.0 pc (pc - length d.at.items) s c.requires.draft a f.1.0 (ap (λ (x : CertDraft). x.due) others) f.1.2 says.0
    (λ two. ensured.sums two ∙ ap (λ (k : ℕ). (d.sums.items ++ replicate (pc - k) 0) ++ state_sum (seen s) ∷ []) (c.requires.draft.summed two)) ensured.kept

pub returns-in-End-clause-added : goal.returns-in-End-clause-added
returns-in-End-clause-added c =
    let d = c.args.self.now in
    let e : CertDraft = record d { due = due.Nothing } in
    let is = rw c.in-End.is at c.requires.due in
    let f = found d.due c.args.bytes.now line.End is in
    added d c.args.bytes.now e line.End c.requires.printable is tt refl refl refl (end_text d c.args.bytes.now f.0 f.1.0 f.1.1)

pub returns-in-End-clause-draft : goal.returns-in-End-clause-draft
returns-in-End-clause-draft c =
    let h = c.requires.draft in
    let f = found c.args.self.now.due c.args.bytes.now line.End (rw c.in-End.is at c.requires.due) in
    let n = counts_at c.args.self.now (due.States f.0) h f.1.0 in
    record { idle = h.idle; ready = h.ready; at = h.at; counts = omega (arith, n.0, n.1); last = h.last; named = h.named; names = tt; empty = h.empty; summed = h.summed; sums = h.sums }
