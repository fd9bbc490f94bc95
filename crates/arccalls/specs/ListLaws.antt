-- Lists that pass 2 and 6 are written as they were found. Assumes nothing.
use Rattle.std.specs.Prelude.{◌≡◌, refl, false, List, [], ◌∷◌, ◌++◌, ℕ, zero, suc, ◌+◌, ◌-◌, ◌*◌, ◌≤◌, ◌<◌, eqb, length, get_or}
use Rattle.std.proofs.Common.{sym, ap₂, ◌∙◌, append_assoc, arith, get_or-drop, drop-drop, eqb-true}
use Rattle.std.proofs.Math.Path.{ap}
use Rattle.std.proofs.Math.ListN.{take, drop, length-drop, take-append-drop}
use Rattle.std.proofs.Math.Seq.{take_all}
use Rattle.std.proofs.lemmas.Bool.{not-false}
use Rattle.tables.specs.Rows.{zeros, le4}
use Rattle.tables.specs.Records.{bytes4}
use Rattle.tables.proofs.RecordLaws.{bytes4-le4}
use Rattle.tables.specs.Find.{any}
use Rattle.tables.specs.Unsound.{nonzero}
use Rattle.paper.specs.KeyedLaws.{or-false-left, or-false-right}
use Rattle.arc.specs.ArcLent.{ListRecord, words, word_bytes, total_of, parts, lists_in, end_to_end, list_bytes, list_record}
use Rattle.arc.proofs.ArcLentLaws.{part-sizes, length-words-in}

-- the sizes of the lists found
module _ (r : ListRecord) (w : List ℕ) (e : length w ≡ total_of r) where
  pub record-found : list_record (parts r w) ≡ r
  unfolding parts
  record-found =
      let s = part-sizes r w e in
      λ i. record { t1 = s.n1 i; t2 = s.n2 i; b1 = s.n3 i; b2 = s.n4 i; b3 = s.n5 i; p = r.p }

  -- end to end they are the row of addresses
  pub end-found : end_to_end (parts r w) ≡ w
  unfolding parts
  end-found =
      let w1 = drop r.t1 w in
      let w2 = drop r.t2 w1 in
      let w3 = drop r.b1 w2 in
      let w4 = drop r.b2 w3 in
      let l1 = length-drop r.t1 w in
      let l2 = length-drop r.t2 w1 in
      let l3 = length-drop r.b1 w2 in
      let l4 = length-drop r.b2 w3 in
      let e5 = take_all r.b3 w4 (omega (arith, l1, l2, l3, l4, e)) in
      ap (λ l. take r.t1 w ++ (take r.t2 w1 ++ (take r.b1 w2 ++ (take r.b2 w3 ++ l)))) e5
      ∙ ap (λ l. take r.t1 w ++ (take r.t2 w1 ++ (take r.b1 w2 ++ l))) (take-append-drop r.b2 w3)
      ∙ ap (λ l. take r.t1 w ++ (take r.t2 w1 ++ l)) (take-append-drop r.b1 w2)
      ∙ ap (λ l. take r.t1 w ++ l) (take-append-drop r.t2 w1)
      ∙ take-append-drop r.t1 w

-- addresses read from bytes, written again
pub words-written : (n : ℕ) (t : List ℕ) → n * 4 ≤ length t → ((i : ℕ) → get_or t i 0 < 256) → word_bytes (words n t) ++ drop (n * 4) t ≡ t
unfolding words word_bytes
words-written zero t h b = refl
words-written (suc n) t h b =
    let l = length-drop 4 t in
    let rest = words-written n (drop 4 t) (omega (arith, l, h)) (λ i. rw (get_or-drop 4 t i 0) (b (4 + i))) in
    let first = bytes4-le4 t 0 (omega (arith, h)) (b 0) (b 1) (b 2) (b 3) in
    let four : suc n * 4 ≡ 4 + n * 4 = omega arith in
    let behind : drop (suc n * 4) t ≡ drop (n * 4) (drop 4 t) = ap (λ k. drop k t) four ∙ sym (drop-drop (n * 4) 4 t) in
    append_assoc (bytes4 (le4 t 0)) (word_bytes (words n (drop 4 t))) (drop (suc n * 4) t)
    ∙ ap₂ {C = List ℕ} (λ x y. x ++ (word_bytes (words n (drop 4 t)) ++ y)) first behind
    ∙ ap (λ x. take 4 t ++ x) rest
    ∙ take-append-drop 4 t

-- bytes of which none isn't 0
pub all-zero : (l : List ℕ) → any nonzero l ≡ false → l ≡ zeros (length l)
unfolding any zeros
all-zero [] h = refl
all-zero (x ∷ xs) h =
    ap₂ {C = List ℕ} (λ a l. a ∷ l) (eqb-true x 0 (not-false (eqb x 0) (or-false-left (nonzero x) (any nonzero xs) h)))
    (all-zero xs (or-false-right (nonzero x) (any nonzero xs) h))

-- the bytes of the lists found
pub bytes-found : (m : ℕ) (r : ListRecord) (t : List ℕ) → length t ≡ m * 4 → total_of r ≤ m → ((i : ℕ) → get_or t i 0 < 256)
    → any nonzero (drop (total_of r * 4) t) ≡ false → list_bytes m (lists_in r t) ≡ t
unfolding list_bytes
bytes-found m r t l h b z =
    let n = total_of r in
    let w = words n t in
    let k = length-words-in n t in
    let d = length-drop (n * 4) t in
    let f : (m - length w) * 4 ≡ length (drop (n * 4) t) = omega (arith, l, h, k, d) in
    let g : zeros ((m - length w) * 4) ≡ drop (n * 4) t = ap zeros f ∙ sym (all-zero (drop (n * 4) t) z) in
    ap (λ x. word_bytes x ++ zeros ((m - length x) * 4)) (end-found r w k)
    ∙ ap (λ x. word_bytes w ++ x) g
    ∙ words-written n t (omega (arith, l, h)) b
