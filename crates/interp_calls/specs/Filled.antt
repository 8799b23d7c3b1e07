-- A block that is filled behind its headroom, and the room in it.
use Rattle.std.specs.Prelude.{ℕ, ◌+◌, ◌≤◌, Bool, false, nat_lt, if◌then◌else◌, List, [], ◌∷◌, length, take, drop}
use Rattle.run_model.specs.declared.bucket.Content.{Content}
use Rattle.run_model.specs.declared.bucket.Content.TheVariants as content
use Rattle.run_model.specs.Buckets.{is_eos_kind}
use Rattle.run_model.specs.Cutting.{length_of}
use Rattle.bucket_store.specs.Items.{Items}
use Rattle.interp_calls.specs.declared.output.Fetched.{Fetched}
use Rattle.interp_calls.specs.declared.output.Fetched.TheVariants as fetched
use Rattle.interp_calls.specs.declared.output_block.Filled.{Filled}

-- what stands in it between its headroom and its end
abbrev pub text : Filled → List ℕ
text f = drop 48 (take f.end f.block)

-- Bytes of this number fit behind its end without more memory.
abbrev pub HasRoomFor : ℕ → Filled → Type 0
HasRoomFor n f = (48 ≤ f.end) × (f.end + n ≤ length f.block)

-- whether the output reads a file for this content
abbrev pub reads : Content → Bool
reads (content.Bytes bs) = false
reads (content.Range file start len) = nat_lt 0 len
reads content.Nothing = false

-- how many bytes the buckets before the first EOS have
unfoldable pub bytes_before_eos : Items → ℕ
bytes_before_eos [] = 0
bytes_before_eos (x ∷ xs) = if is_eos_kind x.1.kind then 0 else length_of x.1.content + bytes_before_eos xs

-- where it ends once bytes of this number were asked for: behind them, where all were given
abbrev pub end_after : Fetched → ℕ → ℕ → ℕ
end_after fetched.All end n = end + n
end_after fetched.Ended end n = end
end_after fetched.Failed end n = end
