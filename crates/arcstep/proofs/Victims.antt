-- The block row that is taken, by the marks of the rows of T1 and T2. Assumes nothing.
use Rattle.std.specs.Prelude.{unwrap_or}
use Rattle.std.specs.Prelude.{Option as Optional}
use mathlib.Core.Path.{◌≡◌, refl, sym, ap, ap₂, ◌∙◌}
use mathlib.Core.Bool.{Bool, true, false, not, ◌||◌, cond}
use mathlib.Core.List.{List, [], ◌∷◌, ◌++◌, map}
use mathlib.Core.Option.{Option, none, some}
use Prim.Native.Nat.{ℕ, ◌+◌, ◌≤◌, ◌<◌}
use native.Mathlib.Nat.{zero-add}
use native.Mathlib.Omega.{arith}
use lib.Dec.{eqb, ltb}
use lib.ListN.{length, get_or}
use borrow.Author.Tests.{ne_eqb, lt-ltb, le-ltb, ltb-true, ltb-false}
use Rattle.tables.specs.Rows.{rows, row_at}
use Rattle.tables.specs.Bits.{bit_at}
use Rattle.tables.specs.Find.{every, find_from, is_used}
use Rattle.tables.specs.Unsound.{elem}
use Rattle.tables.specs.Sound.{mark, row_address}
use Rattle.tables.specs.SoundLaws.{Marked}
use Rattle.tables.specs.Index.{unique, place_in, unknown_in}
use Rattle.table_laws.specs.Written.{address-address}
use Rattle.table_laws.specs.Knowns.{Tells, unmarked-is, place-below}
use Rattle.paper.specs.KeyedLaws.{All, by-test, clash, has-append}
use Rattle.paper.specs.Cache.{Numbers, AddressRow, BlockRow, Box, Taken, known, oldest_unknown}
use Rattle.paper.specs.Engine.{Fixed, labelled, comparing}
use Rattle.paper.specs.Index.{index_where}
use Rattle.paper.proofs.IndexLaws.{unknown-yes, unknown-no}
use Rattle.paper.specs.Lent.{held_row}
use Rattle.paper.specs.Layout.{Addrs, Blocks}
use Rattle.arc.specs.Arc.{Lists, is_nil, is_in, on_top, top_rows, is_some, has_row, taken_by, victim_of}
use Rattle.arclists.specs.NameLaws.{mark-test, elem_in}
use Rattle.parts.specs.Asked.{no_block}
use Rattle.parts.specs.MoveLaws.{first-flag, used-flag}
use Rattle.parts.specs.TableLaws.{addr_bytes, rows-addrs, unknown-first}
use Rattle.step.specs.Steps.{OnceEach, Picked, picked_taken}
use Rattle.step.specs.Taking.{taken_at}
use Rattle.arcstep.specs.Victim.{top_place, oldest_at, victim_at}
use Rattle.arcstep.proofs.Naming.{tops}

pub top_below : (seen : List ℕ) (d : ℕ) (t r : List ℕ) → d ≤ 256 → top_place seen (rows d t) r < 257
top_below seen d t r h = by-test (eqb (bit_at seen (row_address r)) 1) (λ e. rw e (place-below d t r h)) (λ e. rw e (omega arith))

module _ (seen : List ℕ) (l : Lists) (m : Marked (bit_at seen) 65536 (tops l)) (bs : List (List ℕ)) (k : ℕ) (few : k < 256) where
  -- a row has its bit if its address is in T1 or T2
  bit-tells : (r : AddressRow (Fixed 32)) → r.address < 65536 → eqb (bit_at seen (row_address (addr_bytes r))) 1 ≡ on_top l r.address
  bit-tells r h =
      let e : row_address (addr_bytes r) ≡ r.address = address-address (held_row r) (omega (arith, h)) in
      ap (λ (x : ℕ). eqb (bit_at seen x) 1) e ∙ ap (λ (x : ℕ). eqb x 1) (m r.address h) ∙ mark-test (elem r.address (tops l)) ∙ elem_in r.address (tops l)
      ∙ has-append eqb (λ (x : ℕ). x) r.address l.T1 l.T2

  -- the places marked are those of the rows of T1 and T2
  marks-tops : (rs : List (AddressRow (Fixed 32))) → All (λ r. r.address < 65536) rs
      → elem k (map (top_place seen bs) (map addr_bytes rs)) ≡ elem k (map (place_in bs) (map addr_bytes (top_rows l rs)))
  unfolding elem top_rows
  marks-tops [] h = refl
  marks-tops (r ∷ rs) h =
      by-test (on_top l r.address)
      (λ e. rw (bit-tells r h.0 ∙ e, e) (ap (λ (x : Bool). eqb k (place_in bs (addr_bytes r)) || x) (marks-tops rs h.1)))
      (λ e. rw (bit-tells r h.0 ∙ e, e) (ap₂ {C = Bool} ◌||◌ (ne_eqb k 256 (λ q. omega (arith, q, few))) (marks-tops rs h.1)))

module _ (P m n d : ℕ) (addrs blocks seen bytes : List ℕ) (l : Lists) (rs : List (AddressRow (Fixed 32))) (used : List (BlockRow (Fixed 32)))
    (ha : Addrs P m n addrs rs) (hb : Blocks d blocks [] used) (u : every unique (rows d blocks) ≡ true)
    (marked : Marked (bit_at seen) 65536 (tops l)) (long : length bytes ≡ 257)
    (marks : (x : ℕ) → x < length bytes → get_or bytes x 0 ≡ mark (elem x (map (top_place seen (rows d blocks)) (rows n addrs)))) where
  low : (l : List (AddressRow (Fixed 32))) → All (λ r. r.address < P) l → All (λ r. r.address < 65536) l
  low [] h = tt
  low (r ∷ rs) h = let s = ha.small in let b = h.0 in (omega (arith, s, b), low rs h.1)

  tells : Tells d blocks bytes (map addr_bytes (top_rows l rs))
  tells =
      unmarked-is d blocks (map addr_bytes (top_rows l rs)) bytes hb.small u
      (λ k h. let s = hb.small in
      marks k (omega (arith, h, s, long))
      ∙ ap (λ (x : List (List ℕ)). mark (elem k (map (top_place seen (rows d blocks)) x))) (rows-addrs P m n addrs rs ha)
      ∙ ap mark (marks-tops seen l marked (rows d blocks) k (omega (arith, h, s)) rs (low rs ha.below)))

  pub found-oldest : (f : Optional ℕ) → ((hs : List (List ℕ)) → Tells d blocks bytes hs → f ≡ find_from (unknown_in hs) 0 (rows d blocks))
      → unwrap_or f d ≡ index_where (λ u. not (known comparing u.fingerprint (top_rows l rs))) used
  found-oldest f e = ap (λ (x : Optional ℕ). unwrap_or x d) (e (map addr_bytes (top_rows l rs)) tells) ∙ unknown-first (top_rows l rs) d blocks used hb

-- a free row is first
pub free-first : {X : Type 0} (l : Lists) (s : Box (Fixed 32) X) → is_nil s.free ≡ false → 0 ≡ victim_at l s
unfolding victim_at
free-first l s e = rw e refl

pub none_free : {X : Type 0} (l : Lists) (s : Box (Fixed 32) X) → s.free ≡ [] → (j : ℕ) → j ≡ oldest_at l s → j ≡ victim_at l s
unfolding victim_at
none_free l s e j q = rw e q

-- the first row tells whether one is free
module _ (d : ℕ) (t : List ℕ) (used : List (BlockRow (Fixed 32))) where
  pub first-used : (free : List ℕ) → Blocks d t free used → is_used (row_at t 0) ≡ true → free ≡ []
  first-used [] h e = refl
  first-used (k ∷ free) h e = clash e (first-flag d t k free used h)

  pub first-free : (free : List ℕ) → Blocks d t free used → 0 < d → is_used (row_at t 0) ≡ false → is_nil free ≡ false
  first-free [] h b e = clash (used-flag d t [] used h 0 (let c = h.count in omega (arith, c, b)) no_block) e
  first-free (k ∷ free) h b e = refl
