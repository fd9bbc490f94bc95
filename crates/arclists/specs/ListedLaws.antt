-- What moves of bytes do to addresses of four bytes. Assumes nothing.
use Rattle.std.specs.Prelude.{◌≡◌, refl, List, [], ◌∷◌, ◌++◌, ℕ, zero, suc, ◌+◌, ◌-◌, ◌*◌, ◌/◌, ◌%◌, ◌≤◌, ◌<◌, length, get_or, take, drop}
use Rattle.std.proofs.Common.{sym, ap, ap₂, ◌∙◌, append_assoc, arith, length-append, length-drop, drop-drop, take_all, length-take-le, drop-cons}
use Rattle.std.proofs.Math.Seq.{paste, take-append-add, drop-append-add, take-length, drop-length}
use Rattle.std.proofs.lemmas.List.{get_or-take, get_or-drop}
use Rattle.tables.specs.Rows.{zeros, remove_at, le4}
use Rattle.tables.specs.Records.{bytes4}
use Rattle.tables.specs.ShiftLaws.{length-zeros, moved_down, moved_up}
use Rattle.tables.proofs.OperationLaws.{length-remove_at}
use Rattle.table_laws.specs.Written.{zeros-add, drop-zeros}
use Rattle.arc.specs.ArcLent.{word_bytes, end_to_end, list_bytes}
use Rattle.arc.specs.Arc.{Lists}
use Rattle.arc.specs.ArcEnds.{insert_at, rotated}
use Rattle.arc.proofs.ArcLentLaws.{length-words}
use Rattle.arclists.specs.Listed.{listed}

-- the lists' bytes
pub lists-listed : (m : ℕ) (l : Lists) → list_bytes m l ≡ listed m (end_to_end l)
unfolding list_bytes listed
lists-listed m l = refl

-- the first k addresses, and those from k on
pub take_words : (k : ℕ) (ws rest : List ℕ) → k ≤ length ws → take (k * 4) (word_bytes ws ++ rest) ≡ word_bytes (take k ws)
unfolding word_bytes
take_words zero ws rest h = refl
take_words (suc k) [] rest h = absurd (omega (arith, h))
take_words (suc k) (a ∷ ws) rest h =
    let e : suc k * 4 ≡ suc (suc (suc (suc (k * 4)))) = omega arith in
    rw e (ap (λ l. bytes4 a ++ l) (take_words k ws rest (omega (arith, h))))

pub drop-words : (k : ℕ) (ws rest : List ℕ) → k ≤ length ws → drop (k * 4) (word_bytes ws ++ rest) ≡ word_bytes (drop k ws) ++ rest
unfolding word_bytes
drop-words zero ws rest h = refl
drop-words (suc k) [] rest h = absurd (omega (arith, h))
drop-words (suc k) (a ∷ ws) rest h =
    let e : suc k * 4 ≡ suc (suc (suc (suc (k * 4)))) = omega arith in
    rw e (drop-words k ws rest (omega (arith, h)))

pub words_append : (xs ys : List ℕ) → word_bytes (xs ++ ys) ≡ word_bytes xs ++ word_bytes ys
unfolding word_bytes
words_append [] ys = refl
words_append (a ∷ xs) ys = ap (λ l. bytes4 a ++ l) (words_append xs ys)

pub length-listed : (m : ℕ) (ws : List ℕ) → length ws ≤ m → length (listed m ws) ≡ m * 4
unfolding listed
length-listed m ws h = omega (arith, length-append (word_bytes ws) (zeros ((m - length ws) * 4)), length-words ws, length-zeros ((m - length ws) * 4))

-- one address
pub one_word : (ws rest : List ℕ) (i : ℕ) → i < length ws → take 4 (drop (i * 4) (word_bytes ws ++ rest)) ≡ bytes4 (get_or ws i 0)
unfolding word_bytes
one_word ws rest i h = ap (take 4) (drop-words i ws rest (omega arith) ∙ ap (λ l. word_bytes l ++ rest) (drop-cons ws i 0 h))

-- the bytes of a number from its digits
four-digits : (a b c d : ℕ) → a < 256 → b < 256 → c < 256 → d < 256 → bytes4 (a + 256 * b + 65536 * c + 16777216 * d) ≡ a ∷ b ∷ c ∷ d ∷ []
four-digits a b c d ha hb hc hd =
    let n = a + 256 * b + 65536 * c + 16777216 * d in
    let e0 : n % 256 ≡ a = omega arith in
    let e1 : n / 256 % 256 ≡ b = omega arith in
    let e2 : n / 65536 % 256 ≡ c = omega arith in
    let e3 : n / 16777216 % 256 ≡ d = omega arith in
    rw (e0, e1, e2, e3) refl

byte-in : (t : List ℕ) (at x j : ℕ) → take 4 (drop at t) ≡ bytes4 x → j < 4 → get_or t (at + j) 0 ≡ get_or (bytes4 x) j 0
byte-in t at x j h b = sym (get_or-drop at t j 0) ∙ sym (get_or-take 4 (drop at t) j 0 b) ∙ ap (λ l. get_or l j 0) h

-- four bytes of a number, read as a number, have the bytes again
pub word-back : (t : List ℕ) (at x : ℕ) → take 4 (drop at t) ≡ bytes4 x → bytes4 (le4 t at) ≡ bytes4 x
word-back t at x h =
    let z : at + 0 ≡ at = omega arith in
    let e0 : get_or t at 0 ≡ x % 256 = ap (λ i. get_or t i 0) (sym z) ∙ byte-in t at x 0 h (omega arith) in
    rw (e0, byte-in t at x 1 h (omega arith), byte-in t at x 2 h (omega arith), byte-in t at x 3 h (omega arith))
    (four-digits (x % 256) (x / 256 % 256) (x / 65536 % 256) (x / 16777216 % 256) (omega arith) (omega arith) (omega arith) (omega arith))

pub word-listed : (m : ℕ) (ws : List ℕ) (i : ℕ) (t : List ℕ) → i < length ws → t ≡ listed m ws → bytes4 (le4 t (i * 4)) ≡ take 4 (drop (i * 4) t)
unfolding listed
word-listed m ws i t h e =
    let w : take 4 (drop (i * 4) t) ≡ bytes4 (get_or ws i 0)
    = ap (λ l. take 4 (drop (i * 4) l)) e ∙ one_word ws (zeros ((m - length ws) * 4)) i h in
    word-back t (i * 4) (get_or ws i 0) w ∙ sym w

-- an address taken out
pub word_out : (m : ℕ) (ws : List ℕ) (n i : ℕ) → i < n → length ws ≡ n → n ≤ m
    → paste (paste (listed m ws) (i * 4) (drop (i * 4 + 4) (listed m ws)) (n * 4 - 4 - i * 4)) (n * 4 - 4) (zeros 4) 4 ≡ listed m (remove_at ws i)
unfolding listed word_bytes
word_out m ws n i h g k =
    let z : List ℕ = zeros ((m - length ws) * 4) in
    let t : List ℕ = word_bytes ws ++ z in
    let lt : length t ≡ m * 4 = omega (arith, length-append (word_bytes ws) z, length-words ws, length-zeros ((m - length ws) * 4)) in
    let post : List ℕ = drop (suc i) ws in
    let lp : length post ≡ n - suc i = length-drop (suc i) ws ∙ ap (λ x. x - suc i) g in
    let e1 : i * 4 + 4 ≡ suc i * 4 = omega arith in
    let e2 : n * 4 - 4 - i * 4 ≡ length post * 4 = omega (arith, lp) in
    let e3 : n * 4 - 4 + 4 ≡ length ws * 4 = omega arith in
    let a : take (i * 4) t ≡ word_bytes (take i ws) = take_words i ws z (omega arith) in
    let b : take (n * 4 - 4 - i * 4) (drop (i * 4 + 4) t) ≡ word_bytes post =
    ap₂ {C = List ℕ} take e2 (ap (λ x. drop x t) e1 ∙ drop-words (suc i) ws z (omega arith)) ∙ take_words (length post) post z (omega arith)
    ∙ ap word_bytes (take-length post) in
    let d : drop (n * 4 - 4 + 4) t ≡ z = ap (λ x. drop x t) e3 ∙ drop-words (length ws) ws z (omega arith) ∙ ap (λ l. word_bytes l ++ z) (drop-length ws) in
    let o : take 4 (zeros 4) ≡ zeros 4 = take_all 4 (zeros 4) (omega (arith, length-zeros 4)) in
    let c : 4 + (m - length ws) * 4 ≡ (m - length (remove_at ws i)) * 4 = omega (arith, length-remove_at ws i (omega arith)) in
    moved_down t (zeros 4) (i * 4) 4 (n * 4 - 4) (omega arith) (omega (arith, lt))
    ∙ rw (a, b, d, o) (ap₂ {C = List ℕ} ◌++◌ (sym (words_append (take i ws) post)) (zeros-add 4 ((m - length ws) * 4) ∙ ap zeros c))

-- an address put in at a place
pub word_in : (m : ℕ) (ws : List ℕ) (n i a : ℕ) → i ≤ n → length ws ≡ n → n < m
    → paste (paste (listed m ws) (i * 4 + 4) (drop (i * 4) (listed m ws)) (n * 4 - i * 4)) (i * 4) (bytes4 a) 4 ≡ listed m (insert_at i a ws)
unfolding listed word_bytes
word_in m ws n i a h g k =
    let z : List ℕ = zeros ((m - length ws) * 4) in
    let t : List ℕ = word_bytes ws ++ z in
    let lt : length t ≡ m * 4 = omega (arith, length-append (word_bytes ws) z, length-words ws, length-zeros ((m - length ws) * 4)) in
    let post : List ℕ = drop i ws in
    let lp : length post ≡ n - i = length-drop i ws ∙ ap (λ x. x - i) g in
    let e2 : n * 4 - i * 4 ≡ length post * 4 = omega (arith, lp) in
    let e3 : i * 4 + 4 + (n * 4 - i * 4) ≡ length ws * 4 + 4 = omega arith in
    let e4 : (m - length ws) * 4 ≡ 4 + (m - length ws - 1) * 4 = omega arith in
    let e5 : length (insert_at i a ws) ≡ suc (length ws) = omega (arith, length-append (take i ws) (a ∷ post), length-take-le i ws (omega arith), lp) in
    let c : (m - length ws - 1) * 4 ≡ (m - length (insert_at i a ws)) * 4 = omega (arith, e5) in
    let b : take (n * 4 - i * 4) (drop (i * 4) t) ≡ word_bytes post =
    ap₂ {C = List ℕ} take e2 (drop-words i ws z (omega arith)) ∙ take_words (length post) post z (omega arith) ∙ ap word_bytes (take-length post) in
    let d : drop (i * 4 + 4 + (n * 4 - i * 4)) t ≡ zeros ((m - length (insert_at i a ws)) * 4) =
    ap (λ x. drop x t) e3 ∙ sym (drop-drop 4 (length ws * 4) t)
    ∙ ap (drop 4) (drop-words (length ws) ws z (omega arith) ∙ ap (λ l. word_bytes l ++ z) (drop-length ws) ∙ ap zeros e4)
    ∙ drop-zeros 4 ((m - length ws - 1) * 4) ∙ ap zeros c in
    moved_up t (bytes4 a) (i * 4) 4 (n * 4 - i * 4) (omega (arith, lt))
    ∙ ap₂ {C = List ℕ} (λ x y. x ++ (bytes4 a ++ y)) (take_words i ws z (omega arith)) (ap₂ {C = List ℕ} ◌++◌ b d)
    ∙ sym (ap (λ l. l ++ zeros ((m - length (insert_at i a ws)) * 4)) (words_append (take i ws) (a ∷ post))
    ∙ append_assoc (word_bytes (take i ws)) (word_bytes (a ∷ post)) (zeros ((m - length (insert_at i a ws)) * 4))
    ∙ ap (λ l. word_bytes (take i ws) ++ l) (append_assoc (bytes4 a) (word_bytes post) (zeros ((m - length (insert_at i a ws)) * 4))))

-- the address at place i goes to place j
pub word_moved : (m : ℕ) (ws : List ℕ) (i j : ℕ) → i ≤ j → j < length ws → length ws ≤ m
    → paste (paste (listed m ws) (i * 4) (drop (i * 4 + 4) (listed m ws)) (j * 4 - i * 4)) (j * 4) (take 4 (drop (i * 4) (listed m ws))) 4 ≡ listed m
    (rotated i j ws)
unfolding listed word_bytes
word_moved m ws i j h g k =
    let z : List ℕ = zeros ((m - length ws) * 4) in
    let t : List ℕ = word_bytes ws ++ z in
    let lt : length t ≡ m * 4 = omega (arith, length-append (word_bytes ws) z, length-words ws, length-zeros ((m - length ws) * 4)) in
    let x : ℕ = get_or ws i 0 in
    let post : List ℕ = drop (suc i) ws in
    let mid : List ℕ = take (j - i) post in
    let fin : List ℕ = drop (suc j) ws in
    let lp : length post ≡ length ws - suc i = length-drop (suc i) ws in
    let li : length (take i ws) ≡ i = length-take-le i ws (omega arith) in
    let e1 : i * 4 + 4 ≡ suc i * 4 = omega arith in
    let e2 : j * 4 - i * 4 ≡ (j - i) * 4 = omega arith in
    let e3 : j * 4 + 4 ≡ suc j * 4 = omega arith in
    let e4 : length (take i ws) + (j - i) ≡ j = omega (arith, li) in
    let e5 : suc i + (j - i) ≡ suc j = omega arith in
    let w : take 4 (drop (i * 4) t) ≡ bytes4 x = one_word ws z i (omega arith) in
    let b : take (j * 4 - i * 4) (drop (i * 4 + 4) t) ≡ word_bytes mid =
    ap₂ {C = List ℕ} take e2 (ap (λ x. drop x t) e1 ∙ drop-words (suc i) ws z (omega arith)) ∙ take_words (j - i) post z (omega (arith, lp)) in
    let d : drop (j * 4 + 4) t ≡ word_bytes fin ++ z = ap (λ x. drop x t) e3 ∙ drop-words (suc j) ws z g in
    let r1 : take j (remove_at ws i) ≡ take i ws ++ mid = ap (λ n. take n (remove_at ws i)) (sym e4) ∙ take-append-add (take i ws) post (j - i) in
    let r2 : drop j (remove_at ws i) ≡ fin = ap (λ n. drop n (remove_at ws i)) (sym e4) ∙ drop-append-add (take i ws) post (j - i)
    ∙ drop-drop (j - i) (suc i) ws ∙ ap (λ n. drop n ws) e5 in
    let r : rotated i j ws ≡ (take i ws ++ mid) ++ (x ∷ fin) = ap₂ {C = List ℕ} (λ p q. p ++ (x ∷ q)) r1 r2 in
    let lf : length fin ≡ length ws - suc j = length-drop (suc j) ws in
    let lm : length mid ≡ j - i = length-take-le (j - i) post (omega (arith, lp)) in
    let lr : length (rotated i j ws) ≡ length ws = ap length r
    ∙ omega (arith, length-append (take i ws ++ mid) (x ∷ fin), length-append (take i ws) mid, li, lm, lf) in
    moved_down t (take 4 (drop (i * 4) t)) (i * 4) 4 (j * 4) (omega arith) (omega (arith, lt))
    ∙ ap₂ {C = List ℕ} (λ p q. p ++ q) (ap₂ {C = List ℕ} ◌++◌ (take_words i ws z (omega arith)) b) (ap₂ {C = List ℕ} (λ p q. take 4 p ++ q) w d)
    ∙ sym (ap₂ {C = List ℕ} (λ p q. word_bytes p ++ zeros ((m - q) * 4)) r lr
    ∙ ap (λ l. l ++ z) (words_append (take i ws ++ mid) (x ∷ fin) ∙ ap (λ l. l ++ word_bytes (x ∷ fin)) (words_append (take i ws) mid))
    ∙ append_assoc (word_bytes (take i ws) ++ word_bytes mid) (word_bytes (x ∷ fin)) z
    ∙ ap (λ l. (word_bytes (take i ws) ++ word_bytes mid) ++ l) (append_assoc (bytes4 x) (word_bytes fin) z))
