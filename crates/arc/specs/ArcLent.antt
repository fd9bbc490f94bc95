-- A D-ARC box in lent bytes: the lists' buffer, which calls are refused, and what each answers and leaves.
-- Assumes nothing.
use Rattle.std.specs.Prelude.{Bool, not, ◌&&◌, ◌||◌, cond, List, [], ◌∷◌, ◌++◌, map, ℕ, zero, suc, ◌+◌, ◌-◌, ◌*◌, eqb, ltb, length, take, drop}
use Rattle.std.proofs.Math.Option.{Option}
use Rattle.tables.specs.Rows.{zeros, le4}
use Rattle.tables.specs.Records.{bytes4}
use Rattle.tables.specs.Find.{any}
use Rattle.tables.specs.Unsound.{elem, nonzero, addresses_unsound, blocks_unsound, dirty_uncached}
use Rattle.paper.specs.Cache.{Hashing, AddressRow, Box, cached, counted}
use Rattle.paper.specs.Engine.{labelled}
use Rattle.paper.specs.Lent as Base
use Rattle.paper.specs.Lent.{Lent, Ask, Asked, opening, calling, call_of, address_of, lent_block, between, other_length, wrong_buffers, wrong_block, outside, over}
use Rattle.paper.specs.Lent.{limit_outside, over_limit, counts, box_in, lent_of, Test, test, first, Answer, refused, answered, block_after, part_after}
use Rattle.arc.specs.Policy.{serve_by}
use Rattle.arc.specs.Arc.{Sizes, base_numbers, m_of, Lists, is_in, arc}
use Rattle.arc.specs.Tally.{count}

-- "the record has their sizes and the number p"
pub record ListRecord : Type 0 where
  pub t1 : ℕ
  pub t2 : ℕ
  pub b1 : ℕ
  pub b2 : ℕ
  pub b3 : ℕ
  pub p : ℕ

-- "Beside the tables .. lie its lists T1, T2, B1, B2, B3, oldest first, end to end in m × 4 bytes, little-endian, zeros after"
pub record ArcLent : Type 0 where
  pub base : Lent
  pub sizes : ListRecord
  pub lists : List ℕ

-- n addresses from bytes, and the bytes of addresses
unfoldable pub words : ℕ → List ℕ → List ℕ
words zero t = []
words (suc n) t = le4 t 0 ∷ words n (drop 4 t)

unfoldable pub word_bytes : List ℕ → List ℕ
word_bytes [] = []
word_bytes (a ∷ ws) = bytes4 a ++ word_bytes ws

abbrev pub total_of : ListRecord → ℕ
total_of r = r.t1 + r.t2 + r.b1 + r.b2 + r.b3

-- the lists in a row of addresses, by their sizes
unfoldable pub parts : ListRecord → List ℕ → Lists
parts r w =
    record {
      T1 = take r.t1 w;
      T2 = take r.t2 (drop r.t1 w);
      B1 = take r.b1 (drop r.t2 (drop r.t1 w));
      B2 = take r.b2 (drop r.b1 (drop r.t2 (drop r.t1 w)));
      B3 = take r.b3 (drop r.b2 (drop r.b1 (drop r.t2 (drop r.t1 w))));
      p = r.p;
    }

abbrev pub lists_in : ListRecord → List ℕ → Lists
lists_in r t = parts r (words (total_of r) t)

-- end to end
abbrev pub end_to_end : Lists → List ℕ
end_to_end l = l.T1 ++ (l.T2 ++ (l.B1 ++ (l.B2 ++ l.B3)))

unfoldable pub list_bytes : ℕ → Lists → List ℕ
list_bytes m l = word_bytes (end_to_end l) ++ zeros ((m - length (end_to_end l)) * 4)

abbrev pub list_record : Lists → ListRecord
list_record l = record { t1 = length l.T1; t2 = length l.T2; b1 = length l.B1; b2 = length l.B2; b3 = length l.B3; p = l.p }

-- "It refuses with 11, in place of 1, if B or P is outside its set, C isn't 1 to 256, or 2 × C + X exceeds 1,024."
unfoldable pub unfit_arc : Sizes → Bool
unfit_arc Z =
    not (elem Z.B (64 ∷ 128 ∷ 256 ∷ 512 ∷ 1024 ∷ 2048 ∷ 4096 ∷ []))
    || not (between 1 65536 Z.P)
    || not (between 1 256 Z.C)
    || ltb 1024 (Z.C + Z.C + Z.X)

-- "lists that don't name each held address once and no other": some held address isn't named once, or some name isn't held
unfoldable pub misnamed : List ℕ → List ℕ → Bool
misnamed held names = any (λ a. not (eqb (count a names) 1)) held || any (λ x. not (is_in x held)) names

-- "or pass these sizes": "T1, T2 and B3 hold at most C + X together, B1 and B2 together at most C"
unfoldable pub oversized : Sizes → ListRecord → Bool
oversized Z r = ltb (Z.C + Z.X) (r.t1 + r.t2 + r.b3) || ltb Z.C (r.b1 + r.b2)

-- "Refusal 6 also covers lists that don't name each held address once and no other, or pass these sizes, a nonzero byte after them, and p above C"
unfoldable pub lists_unsound : {F : Type 0} → Sizes → List (AddressRow F) → ListRecord → List ℕ → Bool
lists_unsound Z rows r t =
    misnamed (map (λ a. a.address) rows) (words (total_of r) t)
    || oversized Z r
    || any nonzero (drop (total_of r * 4) t)
    || ltb Z.C r.p

-- "refusal 8 also covers an address of T1 or T2 without its block": `tops` are the addresses of T1 and T2
unfoldable pub top_uncached : {F X : Type 0} (H : Hashing F X) → Box F X → List ℕ → Bool
top_uncached H s tops = any (λ r. is_in r.address tops && not (cached H r.fingerprint s.used)) s.rows

abbrev pub tops_in : ListRecord → List ℕ → List ℕ
tops_in r t = words (r.t1 + r.t2) t

-- "2: a lent length isn't the one above.": the lists lie "in m × 4 bytes"
abbrev pub wrong_arc_buffers : Sizes → ArcLent → Bool
wrong_arc_buffers Z t = wrong_buffers (base_numbers Z) t.base || other_length t.lists (m_of Z * 4)

-- the tests of the tables and the lists, which every call but opening makes
abbrev pub arc_table_tests : Sizes → ArcLent → List Test → List Test
arc_table_tests Z t rest =
    let b = t.base in
    let s = box_in (base_numbers Z) b in
    test (addresses_unsound Z.P (m_of Z) b.n b.addresses || lists_unsound Z s.rows t.sizes t.lists) 6
    ∷ test (blocks_unsound Z.C b.blocks) 7
    ∷ test (dirty_uncached b.n Z.C b.addresses b.blocks || top_uncached (labelled (base_numbers Z)) s (tops_in t.sizes t.lists)) 8
    ∷ test (over_limit (base_numbers Z) b) 13
    ∷ rest

-- "Checked in the order 1, 2, 3, 6, 7, 8, 9, the first that applies. Flush has no 3, look no 9, opening only 1 and 2."; here 11 "in place of 1",
-- U8's 12 "right after 1 or 11" and 13 "right after 8"
abbrev pub arc_tests : Sizes → ArcLent → Asked → List Test
arc_tests Z t opening = test (unfit_arc Z) 11 ∷ test (limit_outside (base_numbers Z)) 12 ∷ test (wrong_arc_buffers Z t) 2 ∷ []
arc_tests Z t (calling q) =
    test (unfit_arc Z) 11
    ∷ test (limit_outside (base_numbers Z)) 12
    ∷ test (wrong_arc_buffers Z t || wrong_block Z.B (lent_block q)) 2
    ∷ test (outside Z.P (address_of q)) 3
    ∷ arc_table_tests Z t (test (counts q && over t.base.counters) 9 ∷ [])

-- the number of a refusal, 0 where the call is served
unfoldable pub arc_refusal : Sizes → ArcLent → Asked → ℕ
arc_refusal Z t q = first (arc_tests Z t q)

-- What a call answers and leaves
pub record ArcAfter : Type 0 where
  pub answer : Answer
  pub lent : ArcLent
  pub block : Option (List ℕ)
  pub part : List ℕ

unfoldable pub arc_lent_of : Sizes → Lists → Lent → ArcLent
arc_lent_of Z l b = record { base = b; sizes = list_record l; lists = list_bytes (m_of Z) l }

unfoldable pub arc_served : Sizes → ArcLent → Ask → ArcAfter
arc_served Z t q =
    let H = labelled (base_numbers Z) in
    let c = call_of Z.B q in
    let o = serve_by H (arc H (Z)) (lists_in t.sizes t.lists) (box_in (base_numbers Z) t.base) c in
    record {
      answer = answered o.outcome.word o.outcome.flash_writes o.outcome.primary_writes;
      lent = arc_lent_of Z o.kept (lent_of (base_numbers Z) o.outcome.box (counted t.base.counters c o.outcome));
      block = block_after q o.outcome.block;
      part = part_after q o.outcome.block;
    }

-- a call: refused, with everything kept, or served
unfoldable pub arc_call : Sizes → ArcLent → Ask → ArcAfter
arc_call Z t q =
    cond (eqb (arc_refusal Z t (calling q)) 0)
    (arc_served Z t q)
    (record { answer = refused (arc_refusal Z t (calling q)); lent = t; block = lent_block q; part = [] })

-- the opening: "p, first 0"; a refused one leaves n = 0, as in the base, and here the sizes and p are 0 too
abbrev pub no_sizes : ListRecord
no_sizes = record { t1 = 0; t2 = 0; b1 = 0; b2 = 0; b3 = 0; p = 0 }

unfoldable pub arc_opened : Sizes → ArcLent → ArcLent
arc_opened Z t =
    cond (eqb (arc_refusal Z t opening) 0)
    (record { base = Base.fresh (base_numbers Z) t.base; sizes = no_sizes; lists = zeros (m_of Z * 4) })
    (record { base = Base.unopened t.base; sizes = no_sizes; lists = t.lists })

-- U6: "The box record carries the label, given at opening (zeros if refused)."
unfoldable pub arc_label_after : Sizes → ArcLent → List ℕ
arc_label_after Z t = cond (eqb (arc_refusal Z t opening) 0) Z.label (zeros 64)
