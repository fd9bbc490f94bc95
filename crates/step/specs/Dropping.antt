-- A row taken out and its block row freed, by what the code finds. Assumes nothing.
use Rattle.std.specs.Prelude.{◌≡◌, Bool, true, false, not, ℕ, ◌≤◌, ◌<◌, ◌-◌, eqb, length, get_or}
use Rattle.std.proofs.Math.Path.{refl, ap, ap₂}
use Rattle.std.proofs.Common.{sym, ◌∙◌, arith}
use mathlib.Core.List.{List, ◌∷◌}
use Rattle.std.proofs.Math.Option.{Option, none, some}
use Rattle.tables.specs.Rows.{remove_at, row_at}
use Rattle.tables.specs.Operations.{row_freed}
use Rattle.tables.proofs.OperationLaws.{length-remove_at}
use Rattle.paper.specs.KeyedLaws.{Distinct, eqb→≡, all_without, without-absent}
use Rattle.paper.specs.Cache.{Numbers, AddressRow, BlockRow, without_address, row_of, known, cached, dropped, freed}
use Rattle.paper.specs.Engine.{Fixed, labelled, comparing}
use Rattle.paper.specs.Index.{index_where}
use Rattle.paper.proofs.IndexLaws.{index-holds, has-yes, has_no, find-yes, find-no, without-yes, slot_of-yes}
use Rattle.paper.specs.Layout.{Addrs, Blocks, addresses_of, blocks_of}
use Rattle.parts.specs.Rep.{no_row}
use Rattle.parts.specs.Asked.{no_block}
use Rattle.step.specs.Steps.{place_of, block_bytes}
use Rattle.parts.specs.MoveLaws.{used-fp, fronted}
use Rattle.parts.specs.CopyLaws.{right-no}
use Rattle.tables.specs.Records.{read_block}

-- the block row of the fingerprint q, by its place
module _ (N : Numbers) (d : ℕ) (t : List ℕ) (free : List ℕ) (used : List (BlockRow (Fixed 32))) (h : Blocks d t free used) (place : ℕ) (q : Fixed 32)
    (e : place ≡ place_of (some q) free used) where
  pub not_there : d ≤ place → cached (labelled N) q used ≡ false
  not_there b = has_no comparing.same (λ (u : BlockRow (Fixed 32)). u.fingerprint) q used (omega (arith, e, h.count))

  module _ (b : place < d) where
    below : index_where (λ (u : BlockRow (Fixed 32)). comparing.same q u.fingerprint) used < length used
    below = omega (arith, e, h.count)

    pub there : cached (labelled N) q used ≡ true
    there = has-yes comparing.same (λ (u : BlockRow (Fixed 32)). u.fingerprint) q used below

    -- a row has the fingerprint whose bytes are there
    pub known_as : (l : List (AddressRow (Fixed 32))) (v : Bool) (g : List ℕ) → g ≡ (read_block (row_at t place)).fingerprint
        → ((f : Fixed 32) → f.0 ≡ g → v ≡ known (comparing) f l) → known comparing q l ≡ v
    known_as l v g eg f =
        let i : ℕ = index_where (λ (u : BlockRow (Fixed 32)). comparing.same q u.fingerprint) used in
        let is : q ≡ (get_or used i no_block).fingerprint
        = comparing.same→≡ q (get_or used i no_block).fingerprint
        (index-holds (λ (u : BlockRow (Fixed 32)). comparing.same q u.fingerprint) used no_block below) in
        let eq : g ≡ (get_or used i no_block).fingerprint.0
        = eg ∙ ap (λ (x : ℕ). (read_block (row_at t x)).fingerprint) e ∙ used-fp d t free used h i below no_block in
        sym (f q (ap (λ (x : Fixed 32). x.0) is ∙ sym eq))

    -- it is freed
    pub freed-at : Distinct comparing.same (λ u. u.fingerprint) used
        → row_freed d place t ≡ block_bytes (freed (labelled N) q (record { free = free; used = used }))
    unfolding freed
    freed-at ds =
        let slot = slot_of-yes (labelled N) q used no_block below in
        let rest = without-yes comparing.same (λ (u : BlockRow (Fixed 32)). u.fingerprint) q comparing.same→≡ used ds below in
        ap (λ (x : ℕ). row_freed d x t) e
        ∙ fronted d t free used h (index_where (λ (u : BlockRow (Fixed 32)). comparing.same q u.fingerprint) used) below no_block
        ∙ ap₂ {C = List ℕ} (λ x y. blocks_of (x ∷ free) y) (sym slot) (sym rest)

-- write invalidate's block rows
module _ (N : Numbers) (d : ℕ) (t : List ℕ) (l : List (AddressRow (Fixed 32))) (free : List ℕ) (used : List (BlockRow (Fixed 32)))
    (h : Blocks d t free used) where
  pub drop-none : (o : Option (AddressRow (Fixed 32))) → o ≡ none → t ≡ block_bytes (dropped (labelled N) l (record { free = free; used = used }) o)
  unfolding dropped
  drop-none o e = h.is ∙ rw e refl

  module _ (r : AddressRow (Fixed 32)) where
    pub drop-out : cached (labelled N) r.fingerprint used ≡ false → t ≡ block_bytes (dropped (labelled N) l (record { free = free; used = used }) (some r))
    unfolding dropped
    drop-out c = rw (right-no (not (known comparing r.fingerprint l)) (cached (labelled N) r.fingerprint used) c) h.is

    pub drop-known : known comparing r.fingerprint l ≡ true → t ≡ block_bytes (dropped (labelled N) l (record { free = free; used = used }) (some r))
    unfolding dropped
    drop-known y = rw y h.is

    pub drop-freed : known comparing r.fingerprint l ≡ false → cached (labelled N) r.fingerprint used ≡ true → (t' : List ℕ)
        → t' ≡ block_bytes (freed (labelled N) r.fingerprint (record { free = free; used = used }))
        → t' ≡ block_bytes (dropped (labelled N) l (record { free = free; used = used }) (some r))
    unfolding dropped
    drop-freed y c t' e = rw (y, c) e

-- the row of a, by its index
module _ (P m n : ℕ) (t : List ℕ) (l : List (AddressRow (Fixed 32))) (h : Addrs P m n t l) (a i : ℕ) (e : i ≡ index_where (λ x. eqb a x.address) l) where
  -- a is held
  module _ (ds : Distinct eqb (λ x. x.address) l) (b : i < n) where
    at : index_where (λ (x : AddressRow (Fixed 32)). eqb a x.address) l < length l
    at = omega (arith, e, h.count)

    pub without-row : without_address a l ≡ remove_at l i
    without-row = without-yes eqb (λ (x : AddressRow (Fixed 32)). x.address) a eqb→≡ l ds at ∙ ap (remove_at l) (sym e)

    pub row_is : row_of a l ≡ some (get_or l i no_row)
    row_is = find-yes eqb (λ (x : AddressRow (Fixed 32)). x.address) a l no_row at ∙ ap (λ (k : ℕ). some (get_or l k no_row)) (sym e)

    pub one_less : n - 1 ≡ length (without_address a l)
    one_less = ap (λ (k : ℕ). k - 1) (sym h.count) ∙ sym (length-remove_at l i (omega (arith, h.count))) ∙ ap length (sym without-row)

    pub addrs-without : (t' : List ℕ) → t' ≡ addresses_of m (remove_at l i) → Addrs P m (n - 1) t' (without_address a l)
    addrs-without t' q =
        record {
          count = sym one_less;
          few = omega (arith, h.few);
          below = all_without eqb (λ (x : AddressRow (Fixed 32)). x.address) (λ (x : AddressRow (Fixed 32)). x.address < P) a l h.below;
          small = h.small;
          is = q ∙ ap (addresses_of m) (sym without-row);
        }

  -- it is not
  pub stays : n ≤ i → (without_address a l ≡ l) × (row_of a l ≡ none)
  stays b =
      let y : length l ≤ index_where (λ (x : AddressRow (Fixed 32)). eqb a x.address) l = omega (arith, e, h.count) in (
        without-absent eqb (λ (x : AddressRow (Fixed 32)). x.address) a l (has_no eqb (λ (x : AddressRow (Fixed 32)). x.address) a l y),
        find-no eqb (λ (x : AddressRow (Fixed 32)). x.address) a l y,
      )
