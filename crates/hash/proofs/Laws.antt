-- Laws on the message schedule, the blocks and the padding of SHA-256.
-- Assumes nothing.
use Rattle.std.proofs.Common.{◌≡◌, ℕ, zero, suc, ◌+◌, ◌-◌, ◌*◌, ◌/◌, ◌%◌, ◌^◌, ◌<◌, ◌≤◌, nat_lt, inl, inr, List, [], ◌∷◌, ◌++◌, length, get_or, take, drop, set, replicate, sym, refl, ap, subst, ◌∙◌, append_assoc, le_refl, add-zero, add-suc, add-one, arith, length-append, length-drop, length-set, take-append-drop, length-take, length-take-le, take_all, get_or-take, take-suc-set, take_at, drop_at, drop-drop, le-ltb, lt-ltb}
use Rattle.std.proofs.lemmas.List.{drop-replicate}
use Rattle.std.proofs.lemmas.Slice.{take-put_mid}
use borrow.Rule.Slice.PartMut.{put_mid}
use lib.ListN.{length-replicate, replicate-append-replicate}
use lib.Seq.{get_or_at, take-length, set_at, sets, sets-eq, take-append-le, drop-append-le, drop-append-add}
use Rattle.hash.specs.Done.{Done}
use Rattle.std.proofs.lemmas.Bool.{cases_lt}
use Rattle.hash.specs.Sha256.{choose, K, W, M, next, round, rounds, compress, blocks, bytes32, bytes64, digest, padded, pad}

-- word t is made of the words before it
next-take : (w : List ℕ) (t : ℕ) → 16 ≤ t → next (take t w) t ≡ next w t
unfolding next
next-take w t h =
    let h2 : t - 2 < t = omega arith in
    let h7 : t - 7 < t = omega arith in
    let h15 : t - 15 < t = omega arith in
    let h16 : t - 16 < t = omega arith in
    simp get_or-take

-- the words of the schedule do not depend on how many are made
length-W : (b : List ℕ) (n : ℕ) → length (W b n) ≡ n
unfolding W
length-W b zero = refl
length-W b (suc n) = rw (length-append, length-W b n, add-one)

take-W : (b : List ℕ) (t j : ℕ) → take t (W b (t + j)) ≡ W b t
unfolding W
take-W b t zero = rw add-zero (take_all t (W b t) (rw length-W (le_refl t)))
take-W b t (suc j) =
    let k : t ≤ length (W b (t + j)) = rw length-W (omega arith) in
    rw (add-suc, take-append-le, take-W b t j)

word_at : (b : List ℕ) (t n x : ℕ) → t < n → W b (suc t) ≡ W b t ++ (x ∷ []) → get_or (W b n) t 0 ≡ x
word_at b t n x h e =
    let k : n ≡ suc t + (n - suc t) = omega arith in
    let g : take (suc t) (W b n) ≡ W b (suc t) = ap (λ (m : ℕ). take (suc t) (W b m)) k ∙ take-W b (suc t) (n - suc t) in
    sym (get_or-take (suc t) (W b n) t 0 (omega arith)) ∙ ap (λ (l : List ℕ). get_or l t 0) (g ∙ e) ∙ get_or_at (W b t) x [] 0 t (length-W b t)

-- one round more over a schedule whose word t is x
state-more : (b h : List ℕ) (t n x : ℕ) → t < n → W b (suc t) ≡ W b t ++ (x ∷ []) → round (get_or K t 0) x (rounds (W b n) h t) ≡ rounds (W b n) h (t + 1)
unfolding rounds
state-more b h t n x k e = rw (add-one, word_at b t n x k e)

-- one round more, and one word more, x being word t
one_more : (b h w s : List ℕ) (t x : ℕ) → t < 64 → W b (suc t) ≡ W b t ++ (x ∷ []) → Done b h t w s
    → Done b h (t + 1) (set w t x) (round (get_or K t 0) x s)
one_more b h w s t x k e d =
    let l : t < length w = rw d.full k in
    record {
      full = length-set w t x ∙ d.full;
      made = rw (add-one, take-suc-set w t x l, d.made, e);
      state = rw d.state (state-more b h t 64 x k e);
    }

-- from 16 on, word t of the schedule is made of the words before it
chosen : (b w : List ℕ) (t : ℕ) → take t w ≡ W b t → choose (nat_lt t 16) (M b t) (next (W b t) t) ≡ choose (nat_lt t 16) (M b t) (next w t)
chosen b w t e =
    elim (cases_lt t 16) [
      | inl k ↦ rw (lt-ltb t 16 k)
      | inr k ↦ rw (le-ltb t 16 k, ← e, next-take)
    ]

-- one round more, x being word t
pub done_more : (b h w s : List ℕ) (t x : ℕ) → t < 64 → x ≡ choose (nat_lt t 16) (M b t) (next w t) → Done b h t w s
    → Done b h (t + 1) (set w t x) (round (get_or K t 0) x s)
unfolding W
done_more b h w s t x k e d = one_more b h w s t x k (ap (λ y. W b t ++ (y ∷ [])) (chosen b w t d.made ∙ sym e)) d

-- the same number of rounds, written otherwise
pub done_at : {b h w s : List ℕ} (t k : ℕ) → t ≡ k → Done b h t w s → Done b h k w s
done_at {b} {h} {w} {s} t k e d = subst (λ (n : ℕ). Done b h n w s) e d

-- nothing is done before the first round
pub done_none : (b h w : List ℕ) → length w ≡ 64 → Done b h 0 w h
unfolding W rounds
done_none b h w k = record { full = k; made = refl; state = refl }

-- a list that has been filled to its end, the part of it up to t being F i
pub filled : (F : ℕ → List ℕ) (w : List ℕ) (t i n : ℕ) → length w ≡ t → i ≡ n → take t w ≡ F i → w ≡ F n
filled F w t i n h k e = sym (take-length w) ∙ rw (h, ← k) e

-- the byte after a message's last, where zeros follow the message
pub ended : (s ys : List ℕ) → ys ≡ s → length s < 64
    → set (ys ++ drop (length s) (replicate 128 0)) (length s) 0x80 ≡ s ++ (0x80 ∷ replicate (127 - length s) 0)
ended s ys e h =
    let n : 128 - length s ≡ suc (127 - length s) = omega arith in
    rw (e, drop-replicate, n, set_at s 0 (replicate (127 - length s) 0) 0x80 (length s) refl)

-- a part of a list that is written whole
pub written : (l vs : List ℕ) (i k : ℕ) → k ≡ length vs → i + k ≤ length l → put_mid i k l vs ≡ sets l i vs
written l vs i k e h = rw (sets-eq vs l i (omega arith), drop-drop, ← e) (sym (append_assoc (take i l) vs (drop (i + k) l)))

-- one block more, x being the first 64 bytes of what follows n blocks, and b what follows x
pub block-more : (h m b x : List ℕ) (n k : ℕ) → k ≡ n + 1 → 64 * n ≤ length m → drop (64 * n) m ≡ x ++ b → length x ≡ 64
    → (64 * k ≤ length m) × (b ≡ drop (64 * k) m) × (compress (blocks h m n) x ≡ blocks h m k)
unfolding blocks
block-more h m b x n k ek l d lx =
    let ld : length m - 64 * n ≡ 64 + length b = sym (length-drop (64 * n) m) ∙ ap length d ∙ length-append x b ∙ ap (λ i. i + length b) lx in
    let e : 64 * k ≡ 64 * n + 64 = omega (arith, ek) in
    let past : b ≡ drop (64 * k) m = sym (drop_at x b 64 lx) ∙ ap (drop 64) (sym d) ∙ drop-drop 64 (64 * n) m ∙ ap (λ i. drop i m) (sym e) in
    let first : take 64 (drop (64 * n) m) ≡ x = ap (take 64) d ∙ take_at x b 64 lx in
    (omega (arith, ek, ld), past, rw (ek, add-one, first))

-- the blocks of a list do not depend on what follows them
pub blocks-before : (h a b : List ℕ) (i : ℕ) → 64 * i ≤ length a → blocks h (a ++ b) i ≡ blocks h a i
unfolding blocks
blocks-before h a b zero k = refl
blocks-before h a b (suc i) k =
    let k1 : 64 * i ≤ length a = omega arith in
    let k2 : 64 ≤ length (drop (64 * i) a) = simp length-drop (omega arith) in
    rw (blocks-before h a b i k1, drop-append-le (64 * i) a b k1, take-append-le 64 (drop (64 * i) a) b k2)

-- the blocks of a list after those of another, which are whole
pub blocks-after : (h a b : List ℕ) (n k : ℕ) → length a ≡ 64 * n → blocks h (a ++ b) (n + k) ≡ blocks (blocks h a n) b k
unfolding blocks
blocks-after h a b n zero e = rw add-zero (blocks-before h a b n (omega arith))
blocks-after h a b n (suc k) e =
    let at : 64 * (n + k) ≡ length a + 64 * k = omega arith in
    rw (add-suc, at, drop-append-add a b (64 * k), blocks-after h a b n k e)

length-bytes64 : (x : ℕ) → length (bytes64 x) ≡ 8
unfolding bytes64
length-bytes64 x = refl

-- what a list begins with after a run of stores
take-sets : (vs l : List ℕ) (i n : ℕ) → n ≡ i + length vs → n ≤ length l → take n (sets l i vs) ≡ take i l ++ vs
take-sets vs l i n e h =
    let k : i + length vs ≤ length l = omega arith in
    let t : length (take i l) ≡ i = length-take-le i l (omega arith) in
    let len : length (take i l ++ vs) ≡ n = simp length-append (omega arith) in
    rw (sets-eq vs l i k, take_at (take i l ++ vs) (drop (i + length vs) l) n len)

-- the bytes of one word more
pub digested : (h d ys : List ℕ) (i k : ℕ) → take (4 * i) d ≡ digest h i → 4 * i ≤ length d → ys ≡ bytes32 (get_or h i 0)
    → take (4 * (i + 1)) (put_mid (4 * i) k d ys) ≡ digest h (i + 1)
unfolding digest bytes32
digested h d ys i k e l y =
    let n : length ys ≡ 4 = rw y refl in
    rw (take-put_mid (4 * i) k d ys (4 * (i + 1)) (omega arith) l, e, y, add-one)

-- the last bytes of a message, with the length stored, are padded
pub tail-padded : (s : List ℕ) (end bits : ℕ) → length s + 9 ≤ end → end ≤ 128
    → take end (sets (s ++ (0x80 ∷ replicate (127 - length s) 0)) (end - 8) (bytes64 bits)) ≡ padded s (end - 9 - length s) bits
unfolding padded
tail-padded s end bits h k =
    let z : ℕ = end - 9 - length s in
    let q : ℕ = 136 - end in
    let zq : z + q ≡ 127 - length s = omega arith in
    let p : List ℕ = s ++ (0x80 ∷ replicate z 0) in
    let el : s ++ (0x80 ∷ replicate (127 - length s) 0) ≡ p ++ replicate q 0 = rw (append_assoc, replicate-append-replicate, zq) in
    let lp : length p + 8 ≡ end = simp (length-append, length-replicate) (omega arith) in
    rw (
      el,
      take-sets (bytes64 bits) (p ++ replicate q 0) (end - 8) end (rw length-bytes64 (omega arith)) (simp (length-append, length-replicate) (omega arith)),
      take_at p (replicate q 0) (end - 8) (omega arith),
      append_assoc,
    )

-- the blocks of a padded message are those of the message and then those of its padded last bytes
pub message : (h m t : List ℕ) (at end bits : ℕ) → at ≡ length m - length m % 64 → end ≡ (length m % 64 + 72) / 64 * 64 → bits ≡ length m * 8 % 2 ^ 64
    → t ≡ padded (drop at m) (end - 9 - length (drop at m)) bits
    → blocks h (pad m) (length (pad m) / 64) ≡ blocks (blocks h m (length m / 64)) t (length t / 64)
unfolding padded pad
message h m t at end bits ea ee eb et =
    let la : length (take at m) ≡ 64 * (length m / 64) = simp length-take (omega arith) in
    let z : end - 9 - length (drop at m) ≡ (119 - length m % 64) % 64 = simp length-drop (omega arith) in
    let b : bits ≡ 8 * length m % 2 ^ 64 = omega arith in
    let u : List ℕ = 0x80 ∷ replicate ((119 - length m % 64) % 64) 0 ++ bytes64 (8 * length m % 2 ^ 64) in
    let em : m ≡ take at m ++ drop at m = sym (take-append-drop at m) in
    let ep : pad m ≡ take at m ++ t = rw (et, z, b) (ap (λ (l : List ℕ). l ++ u) em ∙ append_assoc (take at m) (drop at m) u) in
    let eh : blocks h m (length m / 64) ≡ blocks h (take at m) (length m / 64) =
    ap (λ (l : List ℕ). blocks h l (length m / 64)) em ∙ blocks-before h (take at m) (drop at m) (length m / 64) (omega arith) in
    let n : length (take at m ++ t) / 64 ≡ length m / 64 + length t / 64 = simp length-append (omega arith) in
    rw (ep, n, eh) (blocks-after h (take at m) t (length m / 64) (length t / 64) la)
