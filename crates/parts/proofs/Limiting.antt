-- The oldest dirty row copied: the rows before it are clean, so that nothing else changes. Assumes nothing.
use mathlib.Core.Path.{◌≡◌, refl, sym, ap, ◌∙◌}
use mathlib.Core.Bool.{Bool, true, false}
use mathlib.Core.List.{List, [], ◌∷◌, ◌++◌}
use Prim.Native.Nat.{ℕ, suc, ◌+◌, ◌≤◌, ◌<◌}
use native.Mathlib.Nat.{le_of_suc-le-suc}
use native.Mathlib.Omega.{arith}
use lib.Dec.{ltb}
use lib.ListN.{length, take, drop}
use borrow.Author.Tests.{ltb-true, lt-ltb}
use Rattle.tables.specs.Rows.{rows}
use Rattle.paper.specs.KeyedLaws.{by-test}
use Rattle.paper.specs.Cache.{AddressRow, BlockRow, Box, newest, cleaned, copied, copies, dirty_rows, reach, excess}
use Rattle.paper.specs.Engine.{Fixed}
use Rattle.paper.specs.Lent.{join}
use Rattle.paper.specs.Index.{index_where}
use Rattle.paper.specs.Layout.{addresses_of}
use Rattle.parts.specs.declared.BoxRecord.{BoxRecord}
use Rattle.parts.specs.Rep.{Rep, Copied, copied_row, copied_rows, part_box, engine}
use Rattle.parts.specs.Limit.{dirty_in, excess_row}
use Rattle.parts.specs.LimitLaws.{excess-is, dirty-in, first-dirty}
use Rattle.parts.proofs.Looped.{part_step, part_none}

-- the index of the oldest dirty row
abbrev oldest : List (AddressRow (Fixed 32)) → ℕ
oldest rows = index_where (λ r. r.dirty) rows

module _ (b : BoxRecord) where
  abbrev any : Fixed 32 → Bool
  any f = true

  -- the rows before it: as they are, and none of them is copied
  clean-before : (l : List (AddressRow (Fixed 32))) → cleaned (engine b) any (take (oldest l) l) ++ drop (oldest l) l ≡ l
  unfolding index_where
  clean-before [] = refl
  clean-before (r ∷ rs) =
      by-test r.dirty
      (λ e. rw e refl)
      (λ e. rw e (ap {B = List (AddressRow (Fixed 32))} (λ l. newest r.address r.fingerprint false r.seat ∷ l) (clean-before rs)))

  none_before : (l : List (AddressRow (Fixed 32))) → copies (engine b) any (take (oldest l) l) ≡ 0
  unfolding index_where
  none_before [] = refl
  none_before (r ∷ rs) = by-test r.dirty (λ e. rw e refl) (λ e. rw e (let ih = none_before rs in omega (arith, ih)))

  kept-before : (l : List (AddressRow (Fixed 32))) (used : List (BlockRow (Fixed 32))) (flash disk : List (Fixed b.size))
      → copied (engine b) any (take (oldest l) l) used flash disk ≡ disk
  unfolding index_where
  kept-before [] used flash disk = refl
  kept-before (r ∷ rs) used flash disk = by-test r.dirty (λ e. rw e refl) (λ e. rw e (kept-before rs used flash disk))

  reach-none : (l : List (AddressRow (Fixed 32))) → reach (engine b) 0 l ≡ 0
  reach-none [] = refl
  reach-none (r ∷ rs) = refl

  reach-oldest : (l : List (AddressRow (Fixed 32))) → oldest l < length l → reach (engine b) 1 l ≡ suc (oldest l)
  unfolding index_where
  reach-oldest [] = λ h. absurd (omega arith)
  reach-oldest (r ∷ rs) =
      by-test r.dirty (λ e. rw e (λ h. ap suc (reach-none rs))) (λ e. rw e (λ h. ap suc (reach-oldest rs (le_of_suc-le-suc h))))

  module _ (disk flash addrs blocks : List ℕ) (s : Box (Fixed 32) (Fixed b.size)) (h : Rep b disk flash addrs blocks s) where
    part-oldest : part_box b any s (oldest s.rows) ≡ s
    unfolding part_box
    part-oldest =
        let r = clean-before s.rows in
        let d = kept-before s.rows s.used s.flash s.disk in
        λ j. record { rows = r j; free = s.free; used = s.used; flash = s.flash; disk = d j }

    so_far : ◌≡◌ {A = Copied} (record { count = 0; disk = disk; addrs = addrs }) (copied_rows b any s (oldest s.rows))
    unfolding copied_rows
    so_far =
        let c = sym (none_before s.rows) in
        let p = sym part-oldest in
        λ j. record {
          count = c j;
          disk = (h.disk-is.is ∙ ap (λ (x : Box (Fixed 32) (Fixed b.size)). join x.disk) p) j;
          addrs = (h.rows_are.is ∙ ap (λ (x : Box (Fixed 32) (Fixed b.size)). addresses_of b.rows x.rows) p) j;
        }

    -- what the rows are asked for, in the paper's words
    over-is : ltb b.limit (dirty_in (rows b.held addrs)) ≡ ltb b.limit (dirty_rows (engine b) s.rows)
    over-is = ap (ltb b.limit) (dirty-in b.blocks b.rows b.held addrs s.rows h.rows_are)

    -- not more rows are dirty than the limit: nothing is copied
    pub limit-none : b.held ≤ excess_row b addrs
        → ◌≡◌ {A = Copied} (record { count = 0; disk = disk; addrs = addrs })
        (copied_rows b any s (reach (engine b) (excess (engine b) b.limit s.rows) s.rows))
    limit-none l =
        let e = excess-is b addrs ∙ over-is in
        by-test (ltb b.limit (dirty_rows (engine b) s.rows))
        (λ y. absurd (let g = ltb-true (excess_row b addrs) b.held (e ∙ y) in omega (arith, g, l)))
        (λ y. rw (y, reach-none s.rows) (part_none b any disk flash addrs blocks s h))

    -- more are: the oldest is copied
    pub limit-one : excess_row b addrs < b.held → (k : ℕ) (disk' addrs' : List ℕ)
        → ◌≡◌ {A = Copied} (record { count = k; disk = disk'; addrs = addrs' }) (copied_row b any s (excess_row b addrs))
        → ◌≡◌ {A = Copied} (record { count = k; disk = disk'; addrs = addrs' })
        (copied_rows b any s (reach (engine b) (excess (engine b) b.limit s.rows) s.rows))
    limit-one l k disk' addrs' q =
        let i = oldest s.rows in
        let over : ltb b.limit (dirty_in (rows b.held addrs)) ≡ true = sym (excess-is b addrs) ∙ lt-ltb (excess_row b addrs) b.held l in
        let at : excess_row b addrs ≡ i = rw over (first-dirty b.blocks b.rows b.held addrs s.rows h.rows_are) in
        let li : i < b.held = omega (arith, l, at) in
        let y : ltb b.limit (dirty_rows (engine b) s.rows) ≡ true = sym over-is ∙ over in
        let e = q ∙ ap (copied_row b any s) at ∙ ap (λ (x : Box (Fixed 32) (Fixed b.size)). copied_row b any x i) (sym part-oldest) in
        let p = part_step b any disk flash addrs blocks s h i 0 disk addrs so_far li k disk' addrs' e in
        let z : k ≡ 0 + k = omega arith in
        (λ j. record { count = z j; disk = disk'; addrs = addrs' }) ∙ p
        ∙ rw (y, reach-oldest s.rows (omega (arith, li, h.rows_are.count))) refl
