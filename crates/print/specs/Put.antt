-- A text put into a buffer. Assumes nothing.
use Rattle.std.specs.Prelude.{◌≡◌, List, ℕ, ◌+◌, length}
use Rattle.block.specs.Blocks.{splice}

-- the text is put at the index `at` of the buffer `d`, `r` is the index after it, and `e` the buffer then
abbrev pub Put : ℕ → (text d : List ℕ) → ℕ → List ℕ → Type 0
Put at text d r e = (r ≡ at + length text) × (e ≡ splice at text d)
