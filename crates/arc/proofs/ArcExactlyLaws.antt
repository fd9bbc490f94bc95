-- Each refusal of a D-ARC call is given exactly where its test is the first to hold, in the order 11, 12, 2, 3, 6, 7, 8, 13, 9.
use Rattle.std.specs.Prelude.{◌≡◌, refl, Bool, true, ◌&&◌, ◌||◌, ◌↔◌, ◌≢◌, ℕ, ◌*◌, length, take, drop}
use Rattle.std.proofs.lemmas.Bool.{false≢true}
use mathlib.Core.List.{List, [], ◌∷◌}
use Rattle.tables.specs.Unsound.{addresses_unsound, blocks_unsound, dirty_uncached}
use Rattle.paper.specs.Engine.{labelled}
use Rattle.paper.specs.Lent.{Ask, opening, calling, address_of, lent_block, limit_outside, wrong_block, other_length, outside, over_limit, over, counts, box_in}
use Rattle.paper.specs.Lent.{test, one_of}
use Rattle.paper.specs.BatchLent.{bad_count, any_outside}
use Rattle.paper.specs.Reports.{Reader, width}
use Rattle.paper.specs.RefusalLaws.{Apart, NoneOf}
use Rattle.paper.proofs.RefusalLaws.{gives, gives_none, in-first}
use Rattle.arc.specs.Arc.{Sizes, base_numbers, m_of}
use Rattle.arc.specs.ArcLent.{ArcLent, unfit_arc, lists_unsound, top_uncached, tops_in, wrong_arc_buffers, arc_tests, arc_refusal}
use Rattle.arc.specs.ArcFolder.{arc_folder_tests, arc_folder_refusal}
use Rattle.arc.specs.ArcReports.{arc_report_tests, arc_report_refusal}
use Rattle.arc.specs.ArcExactly.{ArcExactlyOpening}

-- the tests of a call by their numbers
module _ (Z : Sizes) (t : ArcLent) (q : Ask) where
  abbrev pub arc12 : Bool
  arc12 = limit_outside (base_numbers Z)

  abbrev pub arc2 : Bool
  arc2 = wrong_arc_buffers Z t || wrong_block Z.B (lent_block q)

  abbrev pub arc3 : Bool
  arc3 = outside Z.P (address_of q)

  abbrev pub arc6 : Bool
  arc6 = addresses_unsound Z.P (m_of Z) t.base.n t.base.addresses || lists_unsound Z (box_in (base_numbers Z) t.base).rows t.sizes t.lists

  abbrev pub arc7 : Bool
  arc7 = blocks_unsound Z.C t.base.blocks

  abbrev pub arc8 : Bool
  arc8 =
      dirty_uncached t.base.n Z.C t.base.addresses t.base.blocks
      || top_uncached (labelled (base_numbers Z)) (box_in (base_numbers Z) t.base) (tops_in t.sizes t.lists)

  abbrev pub arc13 : Bool
  arc13 = over_limit (base_numbers Z) t.base

  abbrev pub arc9 : Bool
  arc9 = counts q && over t.base.counters

  abbrev pub number : ℕ
  number = arc_refusal Z t (calling q)

  -- "Checked in the order .., the first that applies": a call gets a number exactly when its test holds and none before it does
  pub record ArcExactly : Type 0 where
    pub gives-11 : number ≡ 11 ↔ (NoneOf [] × (unfit_arc Z ≡ true))
    pub gives-12 : number ≡ 12 ↔ (NoneOf (unfit_arc Z ∷ []) × (arc12 ≡ true))
    pub gives-2 : number ≡ 2 ↔ (NoneOf (unfit_arc Z ∷ arc12 ∷ []) × (arc2 ≡ true))
    pub gives-3 : number ≡ 3 ↔ (NoneOf (unfit_arc Z ∷ arc12 ∷ arc2 ∷ []) × (arc3 ≡ true))
    pub gives-6 : number ≡ 6 ↔ (NoneOf (unfit_arc Z ∷ arc12 ∷ arc2 ∷ arc3 ∷ []) × (arc6 ≡ true))
    pub gives-7 : number ≡ 7 ↔ (NoneOf (unfit_arc Z ∷ arc12 ∷ arc2 ∷ arc3 ∷ arc6 ∷ []) × (arc7 ≡ true))
    pub gives-8 : number ≡ 8 ↔ (NoneOf (unfit_arc Z ∷ arc12 ∷ arc2 ∷ arc3 ∷ arc6 ∷ arc7 ∷ []) × (arc8 ≡ true))
    pub gives-13 : number ≡ 13 ↔ (NoneOf (unfit_arc Z ∷ arc12 ∷ arc2 ∷ arc3 ∷ arc6 ∷ arc7 ∷ arc8 ∷ []) × (arc13 ≡ true))
    pub gives-9 : number ≡ 9 ↔ (NoneOf (unfit_arc Z ∷ arc12 ∷ arc2 ∷ arc3 ∷ arc6 ∷ arc7 ∷ arc8 ∷ arc13 ∷ []) × (arc9 ≡ true))
    pub gives-0 : number ≡ 0 ↔ NoneOf (unfit_arc Z ∷ arc12 ∷ arc2 ∷ arc3 ∷ arc6 ∷ arc7 ∷ arc8 ∷ arc13 ∷ arc9 ∷ [])
    pub no_other : one_of number (0 ∷ 11 ∷ 12 ∷ 2 ∷ 3 ∷ 6 ∷ 7 ∷ 8 ∷ 13 ∷ 9 ∷ []) ≡ true

  pub arc-exactly : ArcExactly
  unfolding arc_refusal
  arc-exactly =
      let l = arc_tests Z t (calling q) in
      let d : Apart l = (refl, (refl, (refl, (refl, (refl, (refl, (refl, (refl, (refl, (refl, tt)))))))))) in
      record {
        gives-11 = gives [] (test (unfit_arc Z) 11) (drop 1 l) d;
        gives-12 = gives (take 1 l) (test arc12 12) (drop 2 l) d;
        gives-2 = gives (take 2 l) (test arc2 2) (drop 3 l) d;
        gives-3 = gives (take 3 l) (test arc3 3) (drop 4 l) d;
        gives-6 = gives (take 4 l) (test arc6 6) (drop 5 l) d;
        gives-7 = gives (take 5 l) (test arc7 7) (drop 6 l) d;
        gives-8 = gives (take 6 l) (test arc8 8) (drop 7 l) d;
        gives-13 = gives (take 7 l) (test arc13 13) (drop 8 l) d;
        gives-9 = gives (take 8 l) (test arc9 9) [] d;
        gives-0 = gives_none l d;
        no_other = in-first l;
      }

-- "Flush has no 3, look no 9"
pub arc-flush-no-3 : (Z : Sizes) (t : ArcLent) (k : ℕ) → arc_refusal Z t (calling (Ask.flush k)) ≢ 3
arc-flush-no-3 Z t k e = false≢true ((arc-exactly Z t (Ask.flush k)).gives-3.0 e).1

pub arc-look-no-9 : (Z : Sizes) (t : ArcLent) (a : ℕ) → arc_refusal Z t (calling (Ask.look a)) ≢ 9
arc-look-no-9 Z t a e = false≢true ((arc-exactly Z t (Ask.look a)).gives-9.0 e).1

pub arc-exactly-opening : (Z : Sizes) (t : ArcLent) → ArcExactlyOpening Z t
unfolding arc_refusal
arc-exactly-opening Z t =
    let l = arc_tests Z t opening in
    let d : Apart l = (refl, (refl, (refl, (refl, tt)))) in
    record {
      gives-11 = gives [] (test (unfit_arc Z) 11) (drop 1 l) d;
      gives-12 = gives (take 1 l) (test (limit_outside (base_numbers Z)) 12) (drop 2 l) d;
      gives-2 = gives (take 2 l) (test (wrong_arc_buffers Z t) 2) [] d;
      gives-0 = gives_none l d;
      no_other = in-first l;
    }

-- a folder read: 10 is "checked after 2", "with 9 checked only before the first" read
module _ (Z : Sizes) (t : ArcLent) (l buffer : List ℕ) where
  abbrev pub folder12 : Bool
  folder12 = arc12 Z t (Ask.look 0)

  abbrev pub folder2 : Bool
  folder2 = wrong_arc_buffers Z t || other_length buffer (length l * Z.B)

  abbrev pub folder3 : Bool
  folder3 = any_outside Z.P l

  abbrev pub folder9 : Bool
  folder9 = over t.base.counters

  abbrev pub folder6 : Bool
  folder6 = arc6 Z t (Ask.look 0)

  abbrev pub folder7 : Bool
  folder7 = arc7 Z t (Ask.look 0)

  abbrev pub folder8 : Bool
  folder8 = arc8 Z t (Ask.look 0)

  abbrev pub folder13 : Bool
  folder13 = arc13 Z t (Ask.look 0)

  abbrev pub folder_number : ℕ
  folder_number = arc_folder_refusal Z t l buffer

  pub record ArcExactlyFolder : Type 0 where
    pub gives-11 : folder_number ≡ 11 ↔ (NoneOf [] × (unfit_arc Z ≡ true))
    pub gives-12 : folder_number ≡ 12 ↔ (NoneOf (unfit_arc Z ∷ []) × (folder12 ≡ true))
    pub gives-2 : folder_number ≡ 2 ↔ (NoneOf (unfit_arc Z ∷ folder12 ∷ []) × (folder2 ≡ true))
    pub gives-10 : folder_number ≡ 10 ↔ (NoneOf (unfit_arc Z ∷ folder12 ∷ folder2 ∷ []) × (bad_count l ≡ true))
    pub gives-3 : folder_number ≡ 3 ↔ (NoneOf (unfit_arc Z ∷ folder12 ∷ folder2 ∷ bad_count l ∷ []) × (folder3 ≡ true))
    pub gives-6 : folder_number ≡ 6 ↔ (NoneOf (unfit_arc Z ∷ folder12 ∷ folder2 ∷ bad_count l ∷ folder3 ∷ []) × (folder6 ≡ true))
    pub gives-7 : folder_number ≡ 7 ↔ (NoneOf (unfit_arc Z ∷ folder12 ∷ folder2 ∷ bad_count l ∷ folder3 ∷ folder6 ∷ []) × (folder7 ≡ true))
    pub gives-8 : folder_number ≡ 8 ↔ (NoneOf (unfit_arc Z ∷ folder12 ∷ folder2 ∷ bad_count l ∷ folder3 ∷ folder6 ∷ folder7 ∷ []) × (folder8 ≡ true))
    pub gives-13 : folder_number ≡ 13 ↔ (NoneOf (unfit_arc Z ∷ folder12 ∷ folder2 ∷ bad_count l ∷ folder3 ∷ folder6 ∷ folder7 ∷ folder8 ∷ []) × (folder13 ≡ true))
    pub gives-9 : folder_number ≡ 9
        ↔ (NoneOf (unfit_arc Z ∷ folder12 ∷ folder2 ∷ bad_count l ∷ folder3 ∷ folder6 ∷ folder7 ∷ folder8 ∷ folder13 ∷ []) × (folder9 ≡ true))
    pub gives-0 : folder_number ≡ 0 ↔ NoneOf (unfit_arc Z ∷ folder12 ∷ folder2 ∷ bad_count l ∷ folder3 ∷ folder6 ∷ folder7 ∷ folder8 ∷ folder13 ∷ folder9 ∷ [])
    pub no_other : one_of folder_number (0 ∷ 11 ∷ 12 ∷ 2 ∷ 10 ∷ 3 ∷ 6 ∷ 7 ∷ 8 ∷ 13 ∷ 9 ∷ []) ≡ true

  pub arc-exactly-folder : ArcExactlyFolder
  unfolding arc_folder_refusal
  arc-exactly-folder =
      let x = arc_folder_tests Z t l buffer in
      let d : Apart x = (refl, (refl, (refl, (refl, (refl, (refl, (refl, (refl, (refl, (refl, (refl, tt))))))))))) in
      record {
        gives-11 = gives [] (test (unfit_arc Z) 11) (drop 1 x) d;
        gives-12 = gives (take 1 x) (test folder12 12) (drop 2 x) d;
        gives-2 = gives (take 2 x) (test folder2 2) (drop 3 x) d;
        gives-10 = gives (take 3 x) (test (bad_count l) 10) (drop 4 x) d;
        gives-3 = gives (take 4 x) (test folder3 3) (drop 5 x) d;
        gives-6 = gives (take 5 x) (test folder6 6) (drop 6 x) d;
        gives-7 = gives (take 6 x) (test folder7 7) (drop 7 x) d;
        gives-8 = gives (take 7 x) (test folder8 8) (drop 8 x) d;
        gives-13 = gives (take 8 x) (test folder13 13) (drop 9 x) d;
        gives-9 = gives (take 9 x) (test folder9 9) [] d;
        gives-0 = gives_none x d;
        no_other = in-first x;
      }

-- "Reports count nothing and have no 3 and no 9."
module _ (Z : Sizes) (t : ArcLent) (w : Reader) (report : List ℕ) where
  abbrev pub report12 : Bool
  report12 = arc12 Z t (Ask.look 0)

  abbrev pub report2 : Bool
  report2 = wrong_arc_buffers Z t || other_length report (m_of Z * width w)

  abbrev pub report6 : Bool
  report6 = arc6 Z t (Ask.look 0)

  abbrev pub report7 : Bool
  report7 = arc7 Z t (Ask.look 0)

  abbrev pub report8 : Bool
  report8 = arc8 Z t (Ask.look 0)

  abbrev pub report13 : Bool
  report13 = arc13 Z t (Ask.look 0)

  abbrev pub report_number : ℕ
  report_number = arc_report_refusal Z t w report

  pub record ArcExactlyReport : Type 0 where
    pub gives-11 : report_number ≡ 11 ↔ (NoneOf [] × (unfit_arc Z ≡ true))
    pub gives-12 : report_number ≡ 12 ↔ (NoneOf (unfit_arc Z ∷ []) × (report12 ≡ true))
    pub gives-2 : report_number ≡ 2 ↔ (NoneOf (unfit_arc Z ∷ report12 ∷ []) × (report2 ≡ true))
    pub gives-6 : report_number ≡ 6 ↔ (NoneOf (unfit_arc Z ∷ report12 ∷ report2 ∷ []) × (report6 ≡ true))
    pub gives-7 : report_number ≡ 7 ↔ (NoneOf (unfit_arc Z ∷ report12 ∷ report2 ∷ report6 ∷ []) × (report7 ≡ true))
    pub gives-8 : report_number ≡ 8 ↔ (NoneOf (unfit_arc Z ∷ report12 ∷ report2 ∷ report6 ∷ report7 ∷ []) × (report8 ≡ true))
    pub gives-13 : report_number ≡ 13 ↔ (NoneOf (unfit_arc Z ∷ report12 ∷ report2 ∷ report6 ∷ report7 ∷ report8 ∷ []) × (report13 ≡ true))
    pub gives-0 : report_number ≡ 0 ↔ NoneOf (unfit_arc Z ∷ report12 ∷ report2 ∷ report6 ∷ report7 ∷ report8 ∷ report13 ∷ [])
    pub no_other : one_of report_number (0 ∷ 11 ∷ 12 ∷ 2 ∷ 6 ∷ 7 ∷ 8 ∷ 13 ∷ []) ≡ true

  pub arc-exactly-report : ArcExactlyReport
  unfolding arc_report_refusal
  arc-exactly-report =
      let x = arc_report_tests Z t w report in
      let d : Apart x = (refl, (refl, (refl, (refl, (refl, (refl, (refl, (refl, tt)))))))) in
      record {
        gives-11 = gives [] (test (unfit_arc Z) 11) (drop 1 x) d;
        gives-12 = gives (take 1 x) (test report12 12) (drop 2 x) d;
        gives-2 = gives (take 2 x) (test report2 2) (drop 3 x) d;
        gives-6 = gives (take 3 x) (test report6 6) (drop 4 x) d;
        gives-7 = gives (take 4 x) (test report7 7) (drop 5 x) d;
        gives-8 = gives (take 5 x) (test report8 8) (drop 6 x) d;
        gives-13 = gives (take 6 x) (test report13 13) [] d;
        gives-0 = gives_none x d;
        no_other = in-first x;
      }
