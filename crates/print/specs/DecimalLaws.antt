-- A number has at most 20 digits, by induction on the count of digits. Assumes nothing.
use Rattle.std.proofs.Common.{sym, subst, arith, length-append}
use Rattle.std.specs.Prelude.{[], ◌∷◌, ℕ, zero, suc, ◌+◌, ◌/◌, ◌%◌, ◌≤◌, ltb, length}
use Rattle.paper.specs.KeyedLaws.{by-test}
use Rattle.lines.specs.Text.{decimal_in, decimal}

decimal_in-length : (f n : ℕ) → length (decimal_in f n) ≤ f
unfolding decimal_in
decimal_in-length zero n = omega arith
decimal_in-length (suc f) n =
    by-test (ltb n 10)
    (λ y. rw y (omega arith))
    (λ y. rw y (subst (λ k. k ≤ suc f) (sym (length-append (decimal_in f (n / 10)) ((48 + n % 10) ∷ []))) (omega (arith, decimal_in-length f (n / 10)))))

pub decimal-length : (n : ℕ) → length (decimal n) ≤ 20
unfolding decimal
decimal-length n = decimal_in-length 20 n
