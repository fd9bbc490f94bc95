-- Each refusal of a D-ARC call is given exactly where its test is the first to hold, in the order 11, 12, 2, 3, 6, 7, 8, 13, 9.
use Rattle.std.specs.Prelude.{◌≡◌, refl, Bool, true, ◌&&◌, ◌||◌, ◌↔◌, ◌≢◌, ℕ, ◌*◌, length, take, drop}
use Rattle.std.proofs.lemmas.Bool.{false≢true}
use mathlib.Core.List.{List, [], ◌∷◌}
use Rattle.tables.specs.Unsound.{addresses_unsound, blocks_unsound, dirty_uncached}
use Rattle.paper.specs.Engine.{labelled}
use Rattle.paper.specs.Lent.{Ask, opening, calling, address_of, lent_block, limit_outside, wrong_block, other_length, outside, over_limit, over, counts, box_in}
use Rattle.paper.specs.Lent.{test, one_of}
use Rattle.paper.specs.BatchLent.{bad_count, any_outside}
use Rattle.paper.specs.Reports.{Reader, width}
use Rattle.paper.specs.RefusalLaws.{Apart, NoneOf}
use Rattle.paper.proofs.RefusalLaws.{gives, gives_none, in-first}
use Rattle.arc.specs.Arc.{Sizes, base_numbers, m_of}
use Rattle.arc.specs.ArcLent.{ArcLent, unfit_arc, lists_unsound, top_uncached, tops_in, wrong_arc_buffers, arc_tests, arc_refusal}
use Rattle.arc.specs.ArcFolder.{arc_folder_tests, arc_folder_refusal}
use Rattle.arc.specs.ArcReports.{arc_report_tests, arc_report_refusal}

-- "opening only 1 and 2", here 11, 12 and 2
pub record ArcExactlyOpening (Z : Sizes) (t : ArcLent) : Type 0 where
  pub gives-11 : arc_refusal Z t opening ≡ 11 ↔ (NoneOf [] × (unfit_arc Z ≡ true))
  pub gives-12 : arc_refusal Z t opening ≡ 12 ↔ (NoneOf (unfit_arc Z ∷ []) × (limit_outside (base_numbers Z) ≡ true))
  pub gives-2 : arc_refusal Z t opening ≡ 2 ↔ (NoneOf (unfit_arc Z ∷ limit_outside (base_numbers Z) ∷ []) × (wrong_arc_buffers Z t ≡ true))
  pub gives-0 : arc_refusal Z t opening ≡ 0 ↔ NoneOf (unfit_arc Z ∷ limit_outside (base_numbers Z) ∷ wrong_arc_buffers Z t ∷ [])
  pub no_other : one_of (arc_refusal Z t opening) (0 ∷ 11 ∷ 12 ∷ 2 ∷ []) ≡ true
