-- The later addresses move down and the last becomes zero: `word_out`. Assumes nothing.
use Rattle.tables.specs.Rows.{zeros}
use Rattle.arclists.specs.ListedLaws.{word_out}
use Prim.Native.Nat.{ℕ, ◌+◌, ◌-◌, ◌*◌}
use mathlib.Core.Path.{ap, ◌∙◌}
use mathlib.Core.List.{List}
use native.Mathlib.Omega.{arith}
use lib.ListN.{drop}
use lib.Seq.{paste}
use Rattle.arclists.proofs.words.remove_word.Goals as goal

pub returns : goal.returns
returns c =
    let a = c.args in
    let e = c.clear.ensures
    ∙ ap (λ (l : List ℕ). paste l (a.total * 4 - 4) (zeros 4) 4) c.move_down.ensures in
    (λ m ws g k q. e ∙ ap (λ (t : List ℕ). paste (paste t (a.i * 4) (drop (a.i * 4 + 4) t) (a.total * 4 - 4 - a.i * 4)) (a.total * 4 - 4)
    (zeros 4) 4) q ∙ word_out m ws a.total a.i (omega arith) g k)
