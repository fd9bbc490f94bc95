-- What waits in a page when a text is put into it. Assumes nothing.
use mathlib.Core.Path.{◌≡◌, refl, sym, ap, ◌∙◌}
use mathlib.Core.Bool.{true, false}
use mathlib.Core.List.{List, ◌++◌, append_assoc}
use Prim.Native.Nat.{ℕ, ◌+◌, ◌-◌, ◌≤◌, ◌<◌}
use native.Mathlib.Omega.{arith}
use lib.Dec.{leb}
use lib.ListN.{length, take, drop, length-append}
use lib.Seq.{take_at, length-take-le}
use borrow.Author.Tests.{le-leb, lt-leb}
use Rattle.block.specs.Blocks.{splice}
use Rattle.replay_cli.specs.Chunks.{waiting}

module _ (n : ℕ) (d t : List ℕ) (h : n ≤ length d) where
  before : length (take n d) ≡ n
  before = length-take-le n d h

  -- both have room
  pub both-wait : length t ≤ length d - n → take (n + length t) (splice n t d) ≡ waiting (length d) (take n d) t
  unfolding splice
  both-wait r =
      let y : leb (length (take n d) + length t) (length d) ≡ true = le-leb (length (take n d) + length t) (length d) (omega (arith, before, h, r)) in
      rw y
      (ap (take (n + length t)) (sym (append_assoc (take n d) t (drop (n + length t) d)))
      ∙ take_at (take n d ++ t) (drop (n + length t) d) (n + length t) (length-append (take n d) t ∙ ap (λ (j : ℕ). j + length t) before))

  no_room : length d - n < length t → leb (length (take n d) + length t) (length d) ≡ false
  no_room r = lt-leb (length (take n d) + length t) (length d) (omega (arith, before, h, r))

  -- the text alone has
  pub alone_waits : length d - n < length t → length t ≤ length d → take (length t) (splice 0 t d) ≡ waiting (length d) (take n d) t
  unfolding splice
  alone_waits r k =
      let y : leb (length t) (length d) ≡ true = le-leb (length t) (length d) k in
      rw (no_room r, y) (take_at t (drop (0 + length t) d) (length t) refl)
