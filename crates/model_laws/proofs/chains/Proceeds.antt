-- What the instruction of the call on top leaves beside brigades and calls.
use Rattle.std.proofs.Common.{◌≡◌, ℕ, ◌+◌, Bool, true, false, cond, List, [], ◌∷◌, Option, None, refl, ap}
use Rattle.module_code.specs.declared.instr.Instr.{Instr}
use Rattle.module_code.specs.declared.instr.Instr.TheVariants as instr
use Rattle.module_code.specs.Program.{Program}
use Rattle.run_model.specs.declared.payload.Payload.{Payload}
use Rattle.run_model.specs.Pools.{Pools}
use Rattle.run_model.specs.State.{items_of}
use Rattle.run_model.specs.Effects.{do_return}
use Rattle.run_model.specs.Steps.{Choice, answer_to, step}
use Rattle.run_model.specs.Chains.{Frame, Connection, Common, Linked, module_at, is_last, next_place, configuration, pools_of, put_back, stepped_in}
use Rattle.run_model.specs.Passing.{Reads, passed_to, returned_to, delivered, delivered_by, next_called, returned_from, proceeds}

-- what it leaves as it was: the files of the request, which pool is the connection's, and how many instructions were counted
abbrev left_alone : Connection → List (ℕ × ℕ) × ℕ × ℕ
left_alone c = (c.files, c.conn, c.count)

proceeds_leaves : (chain : List Program) (reads : Reads) (i : Instr) (f : Frame) (rest : List Frame) (g : Common) (c : Connection)
    → left_alone (proceeds chain reads i f rest (g, c)).1.1 ≡ left_alone c
unfolding proceeds delivered_by passed_to returned_from returned_to put_back stepped_in
proceeds_leaves chain reads (instr.Pass b l) f rest g c = by_last (is_last chain c f.of) where
  by_last : (t : Bool) → left_alone (cond t (delivered_by (module_at chain f.of) reads b (instr.Pass b l) f rest (g, c)) (passed_to (module_at chain (next_place chain c f.of)) (next_place chain c f.of) b f rest (g, c))).1 ≡ left_alone c
  by_last true = refl
  by_last false = refl
proceeds_leaves chain reads (instr.Ret s) f [] g c = by_queue c.queue where
  by_queue : (queue : List ℕ) → left_alone (next_called chain s queue (put_back (instr.Ret s) f (do_return (configuration g c f)) [] [] (g, c))).1.1 ≡ left_alone c
  by_queue [] = refl
  by_queue (k ∷ ks) = refl
proceeds_leaves chain reads (instr.Ret s) f (w ∷ rest) g c = refl
proceeds_leaves chain reads i f rest g c = refl

pub proceeds_files : (chain : List Program) (reads : Reads) (i : Instr) (f : Frame) (rest : List Frame) (g : Common) (c : Connection) → (proceeds chain reads i f rest (g, c)).1.1.files ≡ c.files
proceeds_files chain reads i f rest g c = ap (λ (x : List (ℕ × ℕ) × ℕ × ℕ). x.0) (proceeds_leaves chain reads i f rest g c)

pub proceeds_conn : (chain : List Program) (reads : Reads) (i : Instr) (f : Frame) (rest : List Frame) (g : Common) (c : Connection) → (proceeds chain reads i f rest (g, c)).1.1.conn ≡ c.conn
proceeds_conn chain reads i f rest g c = ap (λ (x : List (ℕ × ℕ) × ℕ × ℕ). x.1) (proceeds_leaves chain reads i f rest g c)

pub proceeds_count : (chain : List Program) (reads : Reads) (i : Instr) (f : Frame) (rest : List Frame) (g : Common) (c : Connection) → (proceeds chain reads i f rest (g, c)).1.1.count ≡ c.count
proceeds_count chain reads i f rest g c = ap (λ (x : List (ℕ × ℕ) × ℕ × ℕ). x.2) (proceeds_leaves chain reads i f rest g c)

-- What is true of pools, open files, the next number of a file and the request, as the instruction alone leaves them, is true of the connection's.
module _ (P : Pools Payload → (ℕ → Option (List ℕ)) → ℕ → Option ℕ → Type 0) (chain : List Program) (i : Instr) (f : Frame) (g : Common) (c : Connection)
    (stepped : (choice : Choice) → (let s = (step (module_at chain f.of) choice i (configuration g c f)).state.shared in P s.pools s.files.opened s.files.next s.req))
    (here : P (pools_of g c) c.opened g.file c.req) where
  abbrev Left : Linked → Type 0
  Left v = P (pools_of v.0 v.1) v.1.opened v.0.file v.1.req

  stepped_so : (choice : Choice) (rest : List Frame) → Left (stepped_in (module_at chain f.of) choice i f rest (g, c))
  unfolding stepped_in put_back
  stepped_so choice rest = stepped choice

  delivered_so : (reads : Reads) (b : ℕ) (rest : List Frame) → Left (delivered_by (module_at chain f.of) reads b i f rest (g, c))
  unfolding delivered_by
  delivered_so reads b rest = stepped_so (record { answer = answer_to (delivered c.out (items_of ((c.instances f.of).brigades b)) reads).1; given = None }) rest

pub proceeds_so : (P : Pools Payload → (ℕ → Option (List ℕ)) → ℕ → Option ℕ → Type 0) (chain : List Program) (reads : Reads) (i : Instr) (f : Frame) (rest : List Frame) (g : Common) (c : Connection)
    → ((choice : Choice) → (let s = (step (module_at chain f.of) choice i (configuration g c f)).state.shared in P s.pools s.files.opened s.files.next s.req)) → P (pools_of g c) c.opened g.file c.req
    → (let v = (proceeds chain reads i f rest (g, c)).1 in P (pools_of v.0 v.1) v.1.opened v.0.file v.1.req)
unfolding proceeds returned_from returned_to passed_to put_back configuration
proceeds_so P chain reads (instr.Pass b l) f rest g c stepped here = by_last (is_last chain c f.of) where
  by_last : (t : Bool) → (let v = cond t (delivered_by (module_at chain f.of) reads b (instr.Pass b l) f rest (g, c)) (passed_to (module_at chain (next_place chain c f.of)) (next_place chain c f.of) b f rest (g, c)) in
      P (pools_of v.0 v.1) v.1.opened v.0.file v.1.req)
  by_last true = delivered_so P chain (instr.Pass b l) f g c stepped here reads b rest
  by_last false = here
proceeds_so P chain reads (instr.Ret s) f [] g c stepped here = by_queue c.queue where
  by_queue : (queue : List ℕ) → (let v = (next_called chain s queue (put_back (instr.Ret s) f (do_return (configuration g c f)) [] [] (g, c))).1 in P (pools_of v.0 v.1) v.1.opened v.0.file v.1.req)
  by_queue [] = here
  by_queue (k ∷ ks) = here
proceeds_so P chain reads (instr.Ret s) f (w ∷ rest) g c stepped here = here
proceeds_so P chain reads i f rest g c stepped here = stepped_so P chain i f g c stepped here _ rest
