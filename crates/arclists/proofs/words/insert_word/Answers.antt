-- The later addresses move up, and the new one is written: `word_in`. Assumes nothing.
use Rattle.tables.specs.Records.{bytes4}
use Rattle.arclists.specs.ListedLaws.{word_in}
use Prim.Native.Nat.{ℕ, ◌+◌, ◌-◌, ◌*◌}
use mathlib.Core.Path.{ap, ◌∙◌}
use mathlib.Core.List.{List}
use native.Mathlib.Omega.{arith}
use lib.ListN.{drop}
use lib.Seq.{paste}
use Rattle.arclists.proofs.words.insert_word.Goals as goal

pub returns : goal.returns
returns c =
    let a = c.args in
    let e = c.put_word.ensures
    ∙ ap (λ (l : List ℕ). paste l (a.i * 4) (bytes4 a.a) 4) c.move_up.ensures in
    λ m ws g k q. e ∙ ap (λ (t : List ℕ). paste (paste t (a.i * 4 + 4) (drop (a.i * 4) t) (a.total * 4 - a.i * 4)) (a.i * 4) (bytes4 a.a) 4) q
    ∙ word_in m ws a.total a.i a.a (omega arith) g k
