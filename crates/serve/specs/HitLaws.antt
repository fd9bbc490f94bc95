-- The step of a hit: the row and the block row become newest, and nothing else changes. Assumes nothing.
use Rattle.std.specs.Prelude.{◌≡◌, Bool, true, eqb}
use Rattle.std.proofs.Math.Path.{refl, sym, ap, ap₂, ◌∙◌}
use Rattle.std.proofs.Common.{subst, arith, length-take, length-drop}
use mathlib.Core.List.{List, [], ◌∷◌, ◌++◌}
use Rattle.std.proofs.Math.Option.{some}
use Prim.Native.Nat.{ℕ, ◌+◌, ◌-◌, ◌<◌}
use Rattle.std.proofs.Math.ListN.{length, get_or, length-append}
use Rattle.tables.specs.Rows.{remove_at}
use Rattle.tables.specs.Records.{address_row, address_bytes}
use Rattle.tables.specs.Operations.{row_out, row_added, row_newest}
use Rattle.parts.specs.declared.BoxRecord.{BoxRecord}
use Rattle.paper.specs.Keyed.{has}
use Rattle.paper.specs.KeyedLaws.{All, by-test, eqb→≡}
use Rattle.paper.specs.Cache.{Seat, AddressRow, BlockRow, Box, Stepped, newest, block_row, held, known, cached, slot_of, without_address}
use Rattle.paper.specs.Cache.{without_block, row_of, step1, step3, step4, step}
use Rattle.paper.proofs.SoundLaws.{sound-step1}
use Rattle.paper.specs.Engine.{Fixed, comparing}
use Rattle.paper.specs.Lent.{bit}
use Rattle.paper.specs.Index.{index_where}
use Rattle.paper.proofs.IndexLaws.{index-holds, has-yes, find-yes, without-yes, slot_of-yes}
use Rattle.paper.specs.Layout.{Addrs, addresses_of, blocks_of}
use Rattle.parts.specs.Rep.{numbers_of, Rep, no_row, engine}
use Rattle.parts.specs.Asked.{no_block}
use Rattle.parts.specs.MoveLaws.{removed, pushed, renewed}
use Rattle.step.specs.Steps.{StepLeft, after, out4, asks, Sure}
use Rattle.serve.specs.Calls.{HitAt}

has_last : {K R : Type 0} (same : K → K → Bool) (key : R → K) (k : K) (l : List R) (r : R) → same k (key r) ≡ true → has same key k (l ++ (r ∷ [])) ≡ true
has_last same key k [] r e = rw e refl
has_last same key k (x ∷ xs) r e = by-test (same k (key x)) (λ y. rw y refl) (λ y. rw y (has_last same key k xs r e))

less_one : {A : Type 0} (l : List A) (i : ℕ) → i < length l → length (remove_at l i) ≡ length l - 1
less_one l i h = simp (length-append, length-take, length-drop) (omega arith)

module _ (b : BoxRecord) (disk flash addrs blocks : List ℕ) (s : Box (Fixed 32) (Fixed b.size)) (h : Rep b disk flash addrs blocks s) (sd : Sure b s)
    (m1 : 0 < b.rows) (a i j : ℕ) (q : HitAt b s a i j) (w : Bool) (z : Seat) (x : Fixed b.size) where
  abbrev g : Fixed 32
  g = (get_or s.rows i no_row).fingerprint

  row_below : index_where (λ (r : AddressRow (Fixed 32)). eqb a r.address) s.rows < length s.rows
  row_below = omega (arith, q.row, q.is_held, h.rows_are.count)

  is_held : held a s.rows ≡ true
  is_held = has-yes eqb (λ (r : AddressRow (Fixed 32)). r.address) a s.rows row_below

  own_row : row_of a s.rows ≡ some (get_or s.rows i no_row)
  own_row = find-yes eqb (λ (r : AddressRow (Fixed 32)). r.address) a s.rows no_row row_below ∙ ap (λ (k : ℕ). some (get_or s.rows k no_row)) (sym q.row)

  rest : without_address a s.rows ≡ remove_at s.rows i
  rest = without-yes eqb (λ (r : AddressRow (Fixed 32)). r.address) a eqb→≡ s.rows sd.addresses row_below ∙ ap (remove_at s.rows) (sym q.row)

  block-below : index_where (λ (u : BlockRow (Fixed 32)). comparing.same g u.fingerprint) s.used < length s.used
  block-below = omega (arith, q.place, q.is-cached, h.blocks-are.count)

  is-cached : cached (engine b) g s.used ≡ true
  is-cached = has-yes comparing.same (λ (u : BlockRow (Fixed 32)). u.fingerprint) g s.used block-below

  is_known : known (engine b) g (without_address a s.rows ++ (newest a g w z ∷ [])) ≡ true
  is_known = has_last (engine b).same (λ (r : AddressRow (Fixed 32)). r.fingerprint) g (without_address a s.rows) (newest a g w z)
      ((engine b).same_refl g)

  abbrev stepped : Stepped (Fixed 32) (Fixed b.size)
  stepped =
      record {
        box = record {
          rows = without_address a s.rows ++ (newest a g w z ∷ []);
          free = s.free;
          used = without_block (engine b) g s.used ++ (block_row g (slot_of (engine b) g s.used) ∷ []);
          flash = s.flash;
          disk = s.disk;
        };
        flash_writes = 0;
        primary_writes = 0;
      }

  pub hit-stepped : step (engine b) b.rows s (asks a g x w z) ≡ stepped
  unfolding step step1 step3 step4
  hit-stepped = rw (is_held, own_row, is-cached, is_known, is-cached) refl

  rows_left : (step1 (engine b) b.rows s a).rows ≡ remove_at s.rows i
  unfolding step1
  rows_left = rw is_held rest

  addrs-left : Addrs b.blocks b.rows (b.held - 1) (addresses_of b.rows (remove_at s.rows i)) (remove_at s.rows i)
  addrs-left =
      let n = less_one s.rows i (omega (arith, q.is_held, h.rows_are.count)) in
      record {
        count = n ∙ ap (λ (k : ℕ). k - 1) h.rows_are.count;
        few = omega (arith, h.rows_are.few);
        below = subst (All (λ (r : AddressRow (Fixed 32)). r.address < b.blocks)) rows_left (sound-step1 (engine b) (numbers_of b) s a sd m1).below;
        small = h.rows_are.small;
        is = refl;
      }

  pub hit-step : (addrs' blocks' : List ℕ) → addrs' ≡ row_added (b.held - 1) (address_bytes (address_row a g.0 (bit w) z)) (row_out b.held i addrs)
      → blocks' ≡ row_newest b.slots j blocks
      → ◌≡◌ {A = StepLeft} (record {
        held = b.held;
        left = (record { flashed = 0; primary = 0; disk = disk; flash = flash; addrs = addrs'; blocks = blocks' });
      }) (after b (step (engine b) b.rows s (asks a g x w z)))
  unfolding after out4
  hit-step addrs' blocks' ea eb =
      let k : ℕ = index_where (λ (u : BlockRow (Fixed 32)). comparing.same g u.fingerprint) s.used in
      let e1 : addrs' ≡ addresses_of b.rows (without_address a s.rows ++ (newest a g w z ∷ []))
      = ea ∙ ap (row_added (b.held - 1) (address_bytes (address_row a g.0 (bit w) z)))
      (removed b.blocks b.rows b.held addrs s.rows h.rows_are i q.is_held no_row)
      ∙ pushed b.blocks b.rows (b.held - 1) (addresses_of b.rows (remove_at s.rows i)) (remove_at s.rows i) addrs-left
      (omega (arith, q.is_held, h.rows_are.few)) a g w z
      ∙ ap (λ (l : List (AddressRow (Fixed 32))). addresses_of b.rows (l ++ (newest a g w z ∷ []))) (sym rest) in
      let fe : (get_or s.used k no_block).fingerprint ≡ g
      = sym (comparing.same→≡ g (get_or s.used k no_block).fingerprint
      (index-holds (λ (u : BlockRow (Fixed 32)). comparing.same g u.fingerprint) s.used no_block block-below)) in
      let se : (get_or s.used k no_block).slot ≡ slot_of (engine b) g s.used = sym (slot_of-yes (engine b) g s.used no_block block-below) in
      let ue : get_or s.used k no_block ≡ block_row g (slot_of (engine b) g s.used) = λ n. record { fingerprint = fe n; slot = se n } in
      let wo : without_block (engine b) g s.used ≡ remove_at s.used k
      = without-yes comparing.same (λ (u : BlockRow (Fixed 32)). u.fingerprint) g comparing.same→≡ s.used sd.fingerprints block-below in
      let e2 : blocks' ≡ blocks_of s.free (without_block (engine b) g s.used ++ (block_row g (slot_of (engine b) g s.used) ∷ []))
      = eb ∙ ap (λ (n : ℕ). row_newest b.slots n blocks) q.place ∙ renewed b.slots blocks s.free s.used h.blocks-are k block-below no_block
      ∙ ap₂ {C = List ℕ} (λ u v. blocks_of s.free (u ++ (v ∷ []))) (sym wo) ue in
      let n : length (remove_at s.rows i) ≡ length s.rows - 1 = less_one s.rows i (omega (arith, q.is_held, h.rows_are.count)) in
      let m : length (without_address a s.rows ++ (newest a g w z ∷ [])) ≡ length (remove_at s.rows i) + 1
      = length-append (without_address a s.rows) (newest a g w z ∷ []) ∙ ap (λ (l : List (AddressRow (Fixed 32))). length l + 1) rest in
      let e0 : b.held ≡ length (without_address a s.rows ++ (newest a g w z ∷ [])) = omega (arith, n, m, q.is_held, h.rows_are.count) in
      ◌∙◌ {A = StepLeft}
      (λ t. record {
        held = e0 t;
        left = (record { flashed = 0; primary = 0; disk = h.disk-is.is t; flash = h.flash-is.is t; addrs = e1 t; blocks = e2 t });
      })
      (sym (ap (after b) hit-stepped))
