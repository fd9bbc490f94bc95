-- The block row that is taken: a free one, or the oldest whose fingerprint no address of T1 or T2 has. Assumes nothing.
use Rattle.std.specs.Prelude.{not, cond, List, ℕ, eqb}
use Rattle.tables.specs.Bits.{bit_at}
use Rattle.tables.specs.Sound.{row_address}
use Rattle.tables.specs.Index.{place_in}
use Rattle.paper.specs.Cache.{Box, known}
use Rattle.paper.specs.Engine.{Fixed, comparing}
use Rattle.paper.specs.Index.{index_where}
use Rattle.arc.specs.Arc.{Lists, is_nil, top_rows}

-- the place of the block row of an address row, 256 where there is none or its address has no bit in `seen`
abbrev pub top_place : (seen : List ℕ) → (blocks : List (List ℕ)) → List ℕ → ℕ
top_place seen bs r = cond (eqb (bit_at seen (row_address r)) 1) (place_in bs r) 256

-- "the oldest block whose fingerprint no address of T1 or T2 has": its place among the used rows, their count where there is none
abbrev pub oldest_at : {X : Type 0} → Lists → Box (Fixed 32) X → ℕ
oldest_at l s = index_where (λ u. not (known comparing u.fingerprint (top_rows l s.rows))) s.used

-- "A free block row is taken before any victim.": the place of the row that is taken, the count of rows where there is none
unfoldable pub victim_at : {X : Type 0} → Lists → Box (Fixed 32) X → ℕ
victim_at l s = cond (is_nil s.free) (oldest_at l s) 0
