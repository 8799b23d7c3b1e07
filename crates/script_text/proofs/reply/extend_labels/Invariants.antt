use Rattle.std.proofs.Common.{◌≡◌, ◌≤◌, ◌++◌, ◌∷◌, codes, length, take}
use Rattle.std.specs.List.{flat_map}
use Rattle.byte_text.specs.Quoted.{spelling}
use Rattle.script_text.proofs.reply.extend_labels.Given as goal

-- the text so far: what stood there, and the labels that were added
abbrev pub invariant-loop-label : goal.invariant-loop-label
invariant-loop-label l =
    (l.out.items ≡ l.fn.out.items ++ (codes "labels" ++ flat_map (λ label. 32 ∷ spelling label) (take l.label-index l.labels)))
    × (take (length l.fn.out.items) l.out.items ≡ l.fn.out.items) × (length l.fn.out.items ≤ length l.out.items)
