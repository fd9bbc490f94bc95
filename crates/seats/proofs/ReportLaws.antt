-- Reports: each refusal exactly where its test is the first to hold, a refused report's bytes kept, and how long a served one is.
use Rattle.std.specs.Prelude.{◌≡◌, Bool, true, ◌||◌, ◌↔◌, ◌≢◌, ℕ, ◌≤◌, ◌-◌, ◌*◌, length, take, drop}
use Rattle.std.proofs.Math.Path.{refl}
use Rattle.std.proofs.Common.{ap, ◌∙◌, arith, length-append, ne_eqb}
use mathlib.Core.List.{List, [], ◌∷◌, map}
use Rattle.tables.specs.Rows.{flat, zeros}
use Rattle.tables.specs.ShiftLaws.{length-zeros}
use Rattle.tables.specs.Unsound.{addresses_unsound, blocks_unsound, dirty_uncached}
use Rattle.paper.specs.KeyedLaws.{or-false-left}
use Rattle.paper.specs.Cache.{Numbers, AddressRow}
use Rattle.paper.specs.Lent.{Lent, test, one_of, unfit, limit_outside, wrong_buffers, other_length, over_limit, box_in}
use Rattle.paper.proofs.LentLaws.{right-lengths, passes-sound}
use Rattle.paper.specs.RefusalLaws.{Apart, NoneOf}
use Rattle.paper.proofs.RefusalLaws.{gives, gives_none, in-first}
use Rattle.paper.specs.Reports.{Reader, manager, desk, width, report_row, report_of, report_tests, report_refusal, reported}

-- the tests of a report by their numbers
module _ (N : Numbers) (t : Lent) (w : Reader) (report : List ℕ) where
  abbrev pub test1 : Bool
  test1 = unfit N

  abbrev pub test12 : Bool
  test12 = limit_outside N

  abbrev pub test2 : Bool
  test2 = wrong_buffers N t || other_length report (N.m * width w)

  abbrev pub test6 : Bool
  test6 = addresses_unsound N.P N.m t.n t.addresses

  abbrev pub test7 : Bool
  test7 = blocks_unsound N.d t.blocks

  abbrev pub test8 : Bool
  test8 = dirty_uncached t.n N.d t.addresses t.blocks

  abbrev pub test13 : Bool
  test13 = over_limit N t

  abbrev pub number : ℕ
  number = report_refusal N t w report

  -- "have no 3 and no 9": a report gets a number exactly when its test holds and none before it does
  pub record ExactlyReport : Type 0 where
    pub gives-1 : number ≡ 1 ↔ (NoneOf [] × (test1 ≡ true))
    pub gives-12 : number ≡ 12 ↔ (NoneOf (test1 ∷ []) × (test12 ≡ true))
    pub gives-2 : number ≡ 2 ↔ (NoneOf (test1 ∷ test12 ∷ []) × (test2 ≡ true))
    pub gives-6 : number ≡ 6 ↔ (NoneOf (test1 ∷ test12 ∷ test2 ∷ []) × (test6 ≡ true))
    pub gives-7 : number ≡ 7 ↔ (NoneOf (test1 ∷ test12 ∷ test2 ∷ test6 ∷ []) × (test7 ≡ true))
    pub gives-8 : number ≡ 8 ↔ (NoneOf (test1 ∷ test12 ∷ test2 ∷ test6 ∷ test7 ∷ []) × (test8 ≡ true))
    pub gives-13 : number ≡ 13 ↔ (NoneOf (test1 ∷ test12 ∷ test2 ∷ test6 ∷ test7 ∷ test8 ∷ []) × (test13 ≡ true))
    pub gives-0 : number ≡ 0 ↔ NoneOf (test1 ∷ test12 ∷ test2 ∷ test6 ∷ test7 ∷ test8 ∷ test13 ∷ [])
    pub no_other : one_of number (0 ∷ 1 ∷ 12 ∷ 2 ∷ 6 ∷ 7 ∷ 8 ∷ 13 ∷ []) ≡ true

  pub report-exactly : ExactlyReport
  unfolding report_refusal
  report-exactly =
      let l = report_tests N t w report in
      let d : Apart l = (refl, (refl, (refl, (refl, (refl, (refl, (refl, (refl, tt)))))))) in
      record {
        gives-1 = gives [] (test test1 1) (drop 1 l) d;
        gives-12 = gives (take 1 l) (test test12 12) (drop 2 l) d;
        gives-2 = gives (take 2 l) (test test2 2) (drop 3 l) d;
        gives-6 = gives (take 3 l) (test test6 6) (drop 4 l) d;
        gives-7 = gives (take 4 l) (test test7 7) (drop 5 l) d;
        gives-8 = gives (take 5 l) (test test8 8) (drop 6 l) d;
        gives-13 = gives (take 6 l) (test test13 13) [] d;
        gives-0 = gives_none l d;
        no_other = in-first l;
      }

  pub report-served : report_refusal N t w report ≡ 0 → reported N t w report ≡ report_of w N.m (box_in N t).rows
  unfolding reported
  report-served e = rw e refl

  -- a refused report leaves the lent bytes as they were
  pub report-keeps : report_refusal N t w report ≢ 0 → reported N t w report ≡ report
  unfolding reported
  report-keeps n = rw (ne_eqb (report_refusal N t w report) 0 n) refl

-- "in m × 7 lent bytes; the desk's .. in m × 5"
rows-length : {F : Type 0} (w : Reader) (rows : List (AddressRow F)) → length (flat (map (report_row w) rows)) ≡ length rows * width w
unfolding flat
rows-length w [] = omega arith
rows-length manager (r ∷ rs) = omega (arith, rows-length manager rs)
rows-length desk (r ∷ rs) = omega (arith, rows-length desk rs)

whole_length : {F : Type 0} (w : Reader) (m : ℕ) (rows : List (AddressRow F)) → length rows ≤ m → length (report_of w m rows) ≡ m * width w
unfolding report_of
whole_length manager m rows h =
    omega (
      arith,
      h,
      length-append (flat (map (report_row manager) rows)) (zeros ((m - length rows) * 7)),
      rows-length manager rows,
      length-zeros ((m - length rows) * 7),
    )
whole_length desk m rows h =
    omega (
      arith,
      h,
      length-append (flat (map (report_row desk) rows)) (zeros ((m - length rows) * 5)),
      rows-length desk rows,
      length-zeros ((m - length rows) * 5),
    )

pub report-length : (N : Numbers) (t : Lent) (w : Reader) (report : List ℕ) → report_refusal N t w report ≡ 0
    → length (reported N t w report) ≡ N.m * width w
report-length N t w report e =
    let x = (report-exactly N t w report).gives-0.0 e in
    let y = x.1.1.1 in
    let p = passes-sound N t (record {
      lengths = right-lengths N t (or-false-left (wrong_buffers N t) (other_length report (N.m * width w)) x.1.1.0);
      addresses = y.0;
      blocks = y.1.0;
      dirty = y.1.1.0;
    }) in
    ap length (report-served N t w report e) ∙ whole_length w N.m (box_in N t).rows p.few
