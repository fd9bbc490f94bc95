-- U7 on lent bytes: the reports of the held rows, for the manager and for the desk.
-- Assumes nothing.
use Rattle.std.specs.Prelude.{◌||◌, cond, List, [], ◌∷◌, ◌++◌, map, ℕ, ◌-◌, ◌*◌, eqb, length}
use Rattle.tables.specs.Rows.{flat, zeros}
use Rattle.tables.specs.Records.{bytes4}
use Rattle.paper.specs.Cache.{Numbers, AddressRow}
use Rattle.paper.specs.Lent.{Lent, Test, test, first, table_tests, unfit, limit_outside, wrong_buffers, other_length, bit, box_in}

-- whose report it is
pub data Reader : Type 0 where
  manager desk : Reader

-- "in m × 7 lent bytes; the desk's .. in m × 5": the bytes of a row
abbrev pub width : Reader → ℕ
width manager = 7
width desk = 5

module _ {F : Type 0} where
  -- "The manager's report gives address, dirty byte and seat ..; the desk's gives address and dirty byte only"
  abbrev pub report_row : Reader → AddressRow F → List ℕ
  report_row manager r = bytes4 r.address ++ (bit r.dirty ∷ r.seat.0 ∷ r.seat.1 ∷ [])
  report_row desk r = bytes4 r.address ++ (bit r.dirty ∷ [])

  -- ".. of every held row, oldest first"; "zeros follow"
  unfoldable pub report_of : Reader → (m : ℕ) → List (AddressRow F) → List ℕ
  report_of w m rows = flat (map (report_row w) rows) ++ zeros ((m - length rows) * width w)

-- "Reports count nothing and have no 3 and no 9."
abbrev pub report_tests : Numbers → Lent → Reader → (report : List ℕ) → List Test
report_tests N t w report =
    test (unfit N) 1 ∷ test (limit_outside N) 12 ∷ test (wrong_buffers N t || other_length report (N.m * width w)) 2 ∷ table_tests N t []

unfoldable pub report_refusal : Numbers → Lent → Reader → (report : List ℕ) → ℕ
report_refusal N t w report = first (report_tests N t w report)

-- the report's bytes afterwards: the report, or those that were there. Nothing else is written.
unfoldable pub reported : Numbers → Lent → Reader → (report : List ℕ) → List ℕ
reported N t w report = cond (eqb (report_refusal N t w report) 0) (report_of w N.m (box_in N t).rows) report
