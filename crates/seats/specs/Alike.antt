-- Two runs of boxes that run a policy blind to seats: what is one for every policy. A kind of box says by `Serves` that its calls on lent memory are
-- those over its policy; then the desk sees the same of two runs.
-- Assumes nothing.
use Rattle.std.specs.Prelude.{◌≡◌, Bool, true, ◌&&◌, ◌||◌, cond, ◌≢◌, ℕ, ◌-◌, ◌*◌, eqb, length}
use Rattle.std.proofs.Math.Path.{refl, ap₂}
use Rattle.std.proofs.Common.{sym, ap, ◌∙◌, subst₂, eqb-true}
use mathlib.Core.List.{List, [], ◌∷◌, ◌++◌, map}
use Rattle.std.proofs.lemmas.List.{length-map}
use Rattle.std.proofs.lemmas.Bool.{eqb-false}
use Rattle.tables.specs.Rows.{flat, zeros}
use Rattle.paper.specs.Cache.{Numbers, Hashing, AddressRow, Outcome, Counters, counted}
use Rattle.paper.specs.KeyedLaws.{by-test}
use Rattle.paper.specs.Engine.{Fixed, labelled}
use Rattle.paper.specs.Lent.{Ask, refused, answered, call_of, about_ask, address_of, lent_block, counts, join, block_after, part_after}
use Rattle.paper.specs.Lent.{Test, test, first, limit_outside, other_length, wrong_block, outside, over}
use Rattle.paper.specs.Reports.{desk, width, report_row, report_of}
use Rattle.paper.specs.Batch.{Batched, start, blocks_in}
use Rattle.paper.specs.BatchLent.{Asking, one, many, report, recount, bad_count, any_outside, BatchAnswer, batched}
use Rattle.arc.specs.Policy.{Policy, serve_by}
use Rattle.blind.specs.Blind.{bare, bares, bare_box, bare_served, bare_folder, Blind}
use Rattle.blind.specs.Serving.{State, served_by, folder_by, served_state}
use Rattle.seats.specs.TwoRuns.{bare_ask, bare_asking, Told, single, folder, number, Runs, Seen, seen, desk_sees}
use Rattle.seats.specs.BareCalls.{bare_call}

module _ {F : Type 0} {B : ℕ} where
  abbrev pub outcome_told : Ask → Outcome F (Fixed B) → Told
  outcome_told q o = single (answered o.word o.flash_writes o.primary_writes) (block_after q o.block) (part_after q o.block)

  abbrev pub batch_told : Batched F (Fixed B) → Told
  batch_told r = folder (batched r.hits r.flash_writes r.primary_writes r.fetches) (join (blocks_in r.filled))

-- what the tests of lent memory say: those for 6, 7, 8 and 13, and for 2 of all that passes from call to call
pub record Tests : Type 0 where
  pub buffers : Bool
  pub six : Bool
  pub seven : Bool
  pub eight : Bool
  pub thirteen : Bool

abbrev pub table_tests : Tests → List Test → List Test
table_tests b rest = test b.six 6 ∷ test b.seven 7 ∷ test b.eight 8 ∷ test b.thirteen 13 ∷ rest

-- the number that a call gets, 0 where it is served: by the test for 1 or 11, by the limit, by these and by the counters
abbrev pub number_by : Numbers → Test → Tests → Counters → Asking → ℕ
number_by N x b k (one q) =
    first (x ∷ test (limit_outside N) 12 ∷ test (b.buffers || wrong_block N.B (lent_block q)) 2 ∷ test (outside N.P (address_of q)) 3
    ∷ table_tests b (test (counts q && over k) 9 ∷ []))
number_by N x b k (many l buffer) =
    first (x ∷ test (limit_outside N) 12 ∷ test (b.buffers || other_length buffer (length l * N.B)) 2 ∷ test (bad_count l) 10 ∷ test (any_outside N.P l) 3
    ∷ table_tests b (test (over k) 9 ∷ []))
number_by N x b k (report w lent) = first (x ∷ test (limit_outside N) 12 ∷ test (b.buffers || other_length lent (N.m * width w)) 2 ∷ table_tests b [])
number_by N x b k (recount c) = 0
