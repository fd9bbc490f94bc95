-- A row taken out after its block is copied, by what the code finds. Assumes nothing.
use mathlib.Core.Path.{◌≡◌, refl, sym, ap, ◌∙◌}
use mathlib.Core.Bool.{Bool, true, false, ◌&&◌, cond}
use mathlib.Core.List.{List, [], ◌∷◌, ◌++◌}
use mathlib.Core.Option.{some}
use Prim.Native.Nat.{ℕ, zero, suc, ◌+◌, ◌-◌, ◌≤◌, ◌<◌}
use native.Mathlib.Nat.{add-zero}
use native.Mathlib.Omega.{arith}
use lib.Dec.{eqb}
use lib.ListN.{length, get_or, set, length-set}
use Rattle.tables.specs.Rows.{remove_at}
use Rattle.paper.specs.KeyedLaws.{All, by-test, Distinct, distinct_without}
use Rattle.paper.specs.Cache.{AddressRow, Stepped, row_of}
use Rattle.paper.proofs.SoundLaws.{length-copied}
use Rattle.paper.specs.Engine.{Fixed}
use Rattle.paper.specs.Index.{index_where}
use Rattle.paper.specs.Layout.{Addrs, addresses_of}
use Rattle.arc.specs.Arc.{row_out}
use Rattle.parts.specs.declared.BoxRecord.{BoxRecord}
use Rattle.parts.specs.Rep.{Rep, Copied, copied_row, no_row, clean, engine}
use Rattle.step.specs.Dropping.{without-row, row_is, addrs-without, stays}
use Rattle.arcstep.specs.Runs.{RowGone}

-- row i made clean, or left
abbrev pub clean_at : Bool → ℕ → List (AddressRow (Fixed 32)) → List (AddressRow (Fixed 32))
clean_at t i l = cond t (set l i (clean (get_or l i no_row))) l

set-removed : {A : Type 0} (l : List A) (i : ℕ) (x : A) → remove_at (set l i x) i ≡ remove_at l i
set-removed [] i x = refl
set-removed (y ∷ l) zero x = refl
set-removed (y ∷ l) (suc i) x = ap (λ z. y ∷ z) (set-removed l i x)

set_all : {A : Type 0} (Q : A → Type 0) (l : List A) (i : ℕ) (x : A) → All Q l → (i < length l → Q x) → All Q (set l i x)
set_all Q [] i x h q = h
set_all Q (y ∷ l) zero x h q = (q (omega arith), h.1)
set_all Q (y ∷ l) (suc i) x h q = (h.0, set_all Q l i x h.1 (λ k. q (omega (arith, k))))

pub get-all : {A : Type 0} (Q : A → Type 0) (l : List A) (i : ℕ) (x : A) → All Q l → i < length l → Q (get_or l i x)
get-all Q [] i x h k = absurd (omega (arith, k))
get-all Q (y ∷ l) zero x h k = h.0
get-all Q (y ∷ l) (suc i) x h k = get-all Q l i x h.1 (omega (arith, k))

module _ (b : BoxRecord) (disk flash addrs blocks : List ℕ) (t : Stepped (Fixed 32) (Fixed b.size)) (h : Rep b disk flash addrs blocks t.box)
    (ds : Distinct eqb (λ y. y.address) t.box.rows) (x i : ℕ) (e : i ≡ index_where (λ y. eqb x y.address) t.box.rows) where
  abbrev rows : List (AddressRow (Fixed 32))
  rows = t.box.rows

  -- x isn't held
  pub none-gone : b.held ≤ i → RowGone b (record { held = b.held; primary = 0 }) disk flash addrs blocks t (row_out (engine b) x (row_of x t.box.rows) t)
  unfolding row_out
  none-gone l =
      let q = stays b.blocks b.rows b.held addrs t.box.rows h.rows_are x i e l in
      rw q.1 (record { box = h; apart = ds; same-used = refl; flashed = refl; primary = sym (add-zero t.primary_writes) })

  module _ (l : i < b.held) (count : ℕ) (disk' addrs₁ : List ℕ)
      (c : ◌≡◌ {A = Copied} (record { count = count; disk = disk'; addrs = addrs₁ }) (copied_row b (λ f. true) t.box i)) where
    abbrev dirty : Bool
    dirty = (get_or t.box.rows i no_row).dirty && true

    within : i < length t.box.rows
    within = omega (arith, l, h.rows_are.count)

    clean-below : All (λ r. r.address < b.blocks) (clean_at ((get_or t.box.rows i no_row).dirty && true) i t.box.rows)
    clean-below =
        by-test ((get_or t.box.rows i no_row).dirty && true)
        (λ y. rw y (set_all (λ r. r.address < b.blocks) t.box.rows i (clean (get_or t.box.rows i no_row)) h.rows_are.below
        (λ k. get-all (λ r. r.address < b.blocks) t.box.rows i no_row h.rows_are.below k)))
        (λ y. rw y h.rows_are.below)

    clean-length : length (clean_at ((get_or t.box.rows i no_row).dirty && true) i t.box.rows) ≡ length t.box.rows
    clean-length =
        by-test ((get_or t.box.rows i no_row).dirty && true)
        (λ y. rw y (length-set t.box.rows i (clean (get_or t.box.rows i no_row)))) (λ y. rw y refl)

    pub addrs-clean : Addrs b.blocks b.rows b.held addrs₁ (clean_at ((get_or t.box.rows i no_row).dirty && true) i t.box.rows)
    unfolding copied_row
    addrs-clean =
        record {
          count = clean-length ∙ h.rows_are.count;
          few = h.rows_are.few;
          below = clean-below;
          small = h.rows_are.small;
          is = by-test ((get_or t.box.rows i no_row).dirty && true)
              (λ y. rw y (ap (λ (z : Copied). z.addrs) (rw y at c))) (λ y. rw y (ap (λ (z : Copied). z.addrs) (rw y at c)));
        }

    clean-removed : remove_at (clean_at ((get_or t.box.rows i no_row).dirty && true) i t.box.rows) i ≡ remove_at t.box.rows i
    clean-removed =
        by-test ((get_or t.box.rows i no_row).dirty && true)
        (λ y. rw y (set-removed t.box.rows i (clean (get_or t.box.rows i no_row)))) (λ y. rw y refl)

    -- its row is taken out
    pub row-gone : (addrs' : List ℕ) → addrs' ≡ addresses_of b.rows (remove_at (clean_at ((get_or t.box.rows i no_row).dirty && true) i t.box.rows) i)
        → RowGone b (record { held = b.held - 1; primary = count }) disk' flash addrs' blocks t (row_out (engine b) x (row_of x t.box.rows) t)
    unfolding row_out copied_row
    row-gone addrs' q =
        let f = row_is b.blocks b.rows b.held addrs t.box.rows h.rows_are x i e ds l in
        let r = get_or t.box.rows i no_row in
        rw f (record {
          box = record {
            rows_are = addrs-without b.blocks b.rows b.held addrs t.box.rows h.rows_are x i e ds l addrs'
                (q ∙ ap (addresses_of b.rows) clean-removed);
            blocks-are = h.blocks-are;
            flash-is = h.flash-is;
            disk-is = record {
              count = length-copied (engine b) (λ f. true) (r ∷ []) t.box.used t.box.flash t.box.disk ∙ h.disk-is.count;
              is = by-test ((get_or t.box.rows i no_row).dirty && true)
                  (λ y. rw y (ap (λ (z : Copied). z.disk) (rw y at c))) (λ y. rw y (ap (λ (z : Copied). z.disk) (rw y at c)));
            };
          };
          apart = distinct_without eqb (λ (r : AddressRow (Fixed 32)). r.address) x t.box.rows ds;
          same-used = refl;
          flashed = refl;
          primary = by-test ((get_or t.box.rows i no_row).dirty && true)
              (λ y. rw y (ap (λ (n : ℕ). t.primary_writes + n) (sym (ap (λ (z : Copied). z.count) (rw y at c)))))
              (λ y. rw y (ap (λ (n : ℕ). t.primary_writes + n) (sym (ap (λ (z : Copied). z.count) (rw y at c)))));
        })
