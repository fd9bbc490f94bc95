-- The questions that the index answers, in the paper's rows: by induction over the rows, each asked by its bytes. Assumes nothing.
use Rattle.std.specs.Prelude.{Option, unwrap_or, is_some}
use mathlib.Core.Path.{◌≡◌, refl, sym, ap, ◌∙◌}
use mathlib.Core.Bool.{Bool, true, false, not, ◌&&◌}
use mathlib.Core.List.{List, [], ◌∷◌, map}
use Prim.Native.Nat.{ℕ, zero, suc, ◌≤◌}
use lib.Dec.{eqb}
use lib.ListN.{take}
use Rattle.tables.specs.Rows.{rows}
use Rattle.tables.specs.RowLaws.{take-rows}
use Rattle.tables.specs.Find.{all, find_from, caches, has_fingerprint}
use Rattle.tables.specs.Index.{cached_in, unknown_in}
use Rattle.paper.specs.KeyedLaws.{by-test}
use Rattle.paper.specs.Cache.{Numbers, AddressRow, BlockRow, known, cached, some_uncached}
use Rattle.paper.specs.Engine.{Fixed, labelled, comparing}
use Rattle.paper.specs.Index.{index_where}
use Rattle.paper.specs.Layout.{Addrs, Blocks}
use Rattle.parts.specs.TableLaws.{addr_bytes, used_bytes, rows-addrs, fp-of, absent-is, fp-cached, unknown-first}
use Rattle.tables.specs.Records.{read_address, read_block}

map-take : {A B : Type 0} (f : A → B) (k : ℕ) (xs : List A) → take k (map f xs) ≡ map f (take k xs)
map-take f zero xs = refl
map-take f (suc k) [] = refl
map-take f (suc k) (x ∷ xs) = ap (λ l. f x ∷ l) (map-take f k xs)

not-not : (b : Bool) → not (not b) ≡ b
not-not true = refl
not-not false = refl

module _ (d : ℕ) (bt : List ℕ) (free : List ℕ) (used : List (BlockRow (Fixed 32))) (hb : Blocks d bt free used) where
  -- an address row's fingerprint is cached
  row-cached : (r : AddressRow (Fixed 32)) → cached_in (rows d bt) (addr_bytes r) ≡ cached (comparing) r.fingerprint used
  row-cached r =
      ap not (absent-is (find_from (caches (read_address (addr_bytes r)).fingerprint) 0 (rows d bt))) ∙ not-not (is_some (find_from (caches (read_address (addr_bytes r)).fingerprint) 0 (rows d bt)))
      ∙ fp-cached d bt free used hb (read_address (addr_bytes r)).fingerprint r.fingerprint (sym (fp-of r))

  all-cached : (N : Numbers) (l : List (AddressRow (Fixed 32))) → not (all (cached_in (rows d bt)) (map addr_bytes l)) ≡ some_uncached (labelled N) l used
  unfolding all
  all-cached N [] = refl
  all-cached N (r ∷ l) =
      rw (row-cached r) (by-test (cached (labelled N) r.fingerprint used) (λ e. rw e (all-cached N l)) (λ e. rw e refl))

  -- one of the first k held rows has a fingerprint that is not cached
  pub uncached-is : (N : Numbers) (P m n k : ℕ) (t : List ℕ) (l : List (AddressRow (Fixed 32))) → Addrs P m n t l → k ≤ n → not (all (cached_in (rows d bt)) (rows k t)) ≡ some_uncached (labelled N) (take k l) used
  uncached-is N P m n k t l h kn =
      ap (λ (x : List (List ℕ)). not (all (cached_in (rows d bt)) x)) (sym (take-rows k n t kn) ∙ ap (take k) (rows-addrs P m n t l h) ∙ map-take addr_bytes k l)
      ∙ all-cached N (take k l)

-- the first block row whose fingerprint is that of no held row
pub unknown-is : (P m n d : ℕ) (t bt : List ℕ) (l : List (AddressRow (Fixed 32))) (used : List (BlockRow (Fixed 32))) → Addrs P m n t l → Blocks d bt [] used → (f : Option ℕ) → find_from (unknown_in (rows n t)) 0 (rows d bt) ≡ f
    → unwrap_or f d ≡ index_where (λ u. not (known comparing u.fingerprint l)) used
unknown-is P m n d t bt l used h hb f e =
    ap (λ (y : Option ℕ). unwrap_or y d) (sym e ∙ ap (λ (r : List (List ℕ)). find_from (unknown_in r) 0 (rows d bt)) (rows-addrs P m n t l h))
    ∙ unknown-first l d bt used hb
